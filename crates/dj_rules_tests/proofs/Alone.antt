-- One file makes a set.
use Rattle.std.proofs.Common.{◌≡◌, ℕ, ◌≤◌, List, [], ◌∷◌, length, sym, ap, subst, arith}
use Rattle.std.specs.Global.{Vec}
use Rattle.dj_edge.specs.InMemory.{String, files_in, PathsDiffer}
use Rattle.dj_class_set.specs.trusted.Limits.{most_files, most_file_bytes, AreWithin}

module _ (files : List (String × Vec ℕ)) (file : String × Vec ℕ) (is : files ≡ file ∷ []) where
  pub alone_few : length files ≤ most_files
  alone_few = omega (arith, ap length is)

  pub alone_within : length file.1.items ≤ most_file_bytes → AreWithin (files_in files)
  alone_within short = subst (λ (l : List (String × Vec ℕ)). AreWithin (files_in l)) (sym is) (record { each = (short, tt); together = omega arith })

  pub alone_differs : PathsDiffer (files_in files)
  alone_differs = subst (λ (l : List (String × Vec ℕ)). PathsDiffer (files_in l)) (sym is) (λ i j d before within. absurd (omega arith))
