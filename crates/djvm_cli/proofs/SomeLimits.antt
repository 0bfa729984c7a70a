-- Files are within the limits, or pass one first.
use Rattle.std.proofs.Common.{ℕ, ◌+◌, ◌≤◌, ◌⊎◌, List, [], ◌∷◌, ◌++◌, length, refl, sym, subst, inl, inr, append-nil, arith}
use Rattle.std.specs.List.{AllByRecursion}
use Rattle.std.proofs.lemmas.Bool.{cases_lt}
use Rattle.std.proofs.lemmas.List.{append_assoc}
use Rattle.std.proofs.lemmas.List.Sums.{sum_by-append, sum_by-cons}
use Rattle.dj_edge.specs.trusted.Held.{File}
use Rattle.dj_class_set.specs.trusted.Limits.{most_file_bytes, most_total_bytes, total_bytes, AreWithin, IsFirstPast, IsTooLong, IsTooMuch}

-- ---- the limits

each_pushed : {X : Type 0} (P : X → Type 0) (xs : List X) (x : X) → AllByRecursion P xs → P x → AllByRecursion P (xs ++ x ∷ [])
each_pushed P [] x all p = (p, tt)
each_pushed P (y ∷ ys) x all p = (all.0, each_pushed P ys x all.1 p)

-- one more file that is within them
within_pushed : (prefix : List File) (file : File) → AreWithin prefix → length file.1 ≤ most_file_bytes → total_bytes prefix + length file.1 ≤ most_total_bytes
    → AreWithin (prefix ++ file ∷ [])
within_pushed prefix file within short few =
    let size : File → ℕ = λ f. length f.1 in
    record {
      each = each_pushed (λ f. length f.1 ≤ most_file_bytes) prefix file within.each short;
      together = omega (arith, sum_by-append size prefix (file ∷ []), sum_by-cons size file [], few);
    }

abbrev Limited : List File → Type 0
Limited files = AreWithin files ⊎ (IsFirstPast IsTooLong files ⊎ IsFirstPast IsTooMuch files)

limited_from : (rest prefix : List File) → AreWithin prefix → Limited (prefix ++ rest)
limited_from [] prefix within = subst Limited (sym (append-nil prefix)) (inl within)
limited_from (file ∷ rest) prefix within =
    elim (cases_lt most_file_bytes (length file.1)) [
      | inl long ↦ inr (inl (record { prefix = prefix; file = file; rest = rest; parts = refl; before = within; past = long }))
      | inr short ↦ elim (cases_lt most_total_bytes (total_bytes prefix + length file.1)) [
        | inl much ↦ inr (inr (record { prefix = prefix; file = file; rest = rest; parts = refl; before = within; past = (short, much) }))
        | inr few ↦ subst Limited (append_assoc prefix (file ∷ []) rest) (limited_from rest (prefix ++ file ∷ []) (within_pushed prefix file within short few))
      ]
    ]

-- within the limits, or the first that is passed
pub limited : (files : List File) → AreWithin files ⊎ (IsFirstPast IsTooLong files ⊎ IsFirstPast IsTooMuch files)
limited files = limited_from files [] (record { each = tt; together = omega arith })
