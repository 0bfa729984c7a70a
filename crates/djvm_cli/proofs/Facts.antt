-- What is asked and the statuses of reports in plain values.
use Rattle.std.specs.Prelude.{◌≡◌, ℕ, List, [], ◌∷◌, ◌++◌, Some, None, map, codes}
use Rattle.std.proofs.Common.{refl}
use Rattle.dj_edge.specs.trusted.Held.{Held}
use Rattle.dj_command_line.specs.trusted.DoneJobs.{Check, Verify, Raw, OnFolder, Assemble, done_job_of}
use Rattle.djvm_cli.specs.trusted.Report.{class_paths, asks}
use Rattle.djvm_cli.specs.trusted.Ends.{report_statuses, AsksInOrder}

verify_words : List (List ℕ)
verify_words = codes "verify" ∷ codes "c/" ∷ codes "A" ∷ codes "in" ∷ []

asked_of_verify : (held : Held) → asks verify_words held ≡ codes "c" ∷ codes "in" ∷ class_paths (codes "c") held
unfolding verify_words done_job_of
asked_of_verify held = refl

asked_of_check : (held : Held) → asks (codes "check" ∷ codes "c" ∷ []) held ≡ codes "c" ∷ class_paths (codes "c") held
unfolding done_job_of
asked_of_check held = refl

-- the text's file alone is asked, under the path as it is given
asked_of_assemble : (held : Held) → asks (codes "assemble" ∷ codes "t/" ∷ []) held ≡ codes "t/" ∷ []
unfolding done_job_of
asked_of_assemble held = refl

-- words of no job ask nothing
asks_nothing : (held : Held) → AsksInOrder [] (Some held) [] (codes "c" ∷ []) → ⊥
unfolding done_job_of
asks_nothing held grows =
    let none : [] ≡ grows.0 ++ grows.1.0 = grows.1.1 in
    let some : codes "c" ∷ [] ≡ grows.0 = grows.2 in
    none_is_some grows.0 grows.1.0 none some where
      none_is_some : (prefix rest : List (List ℕ)) → [] ≡ prefix ++ rest → codes "c" ∷ [] ≡ prefix → ⊥
      none_is_some [] rest none some = absurd cc
      none_is_some (x ∷ prefix) rest none some = absurd cc

statuses : map report_statuses (None ∷ Some (OnFolder (Check [])) ∷ Some (OnFolder (Verify [] [] [] (record { alloc = 0; invoke = 0; jump = 0; throw = 0 }))) ∷ Some (OnFolder (Raw [] [] [] 0)) ∷ Some (Assemble []) ∷ [])
    ≡ (64 ∷ []) ∷ (0 ∷ 2 ∷ 7 ∷ []) ∷ (0 ∷ 1 ∷ 2 ∷ 3 ∷ 7 ∷ 65 ∷ 75 ∷ []) ∷ (0 ∷ 1 ∷ 2 ∷ 4 ∷ 5 ∷ 6 ∷ 7 ∷ 8 ∷ 9 ∷ 65 ∷ []) ∷ (0 ∷ 7 ∷ 65 ∷ 68 ∷ []) ∷ []
statuses = refl
