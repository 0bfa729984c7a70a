-- Where the two laws of classes and arrays by numbers hold, and where they don't, by plain values.
use Rattle.std.specs.Prelude.{◌≡◌, ℕ, zero, suc, List, [], ◌∷◌, Some, codes, slice_get}
use Rattle.std.proofs.Common.{refl, ap, arith}
use Rattle.std.proofs.lemmas.Bool.{true≢false}
use Rattle.std.proofs.lemmas.Option.{none-some, same_Some}
use Rattle.dj_names.specs.declared.descriptor.Base.TheVariants as bases
use Rattle.dj_names.specs.declared.descriptor.Of.TheVariants as ofs
use Rattle.dj_names.specs.declared.descriptor.Ty.{Ty}
use Rattle.dj_names.specs.trusted.Types.{class_type}
use Rattle.dj_library_types.specs.Numbered.{ArePlain, HasNumber, HaveComponents}

abbrev int_arrays : ℕ → Ty
int_arrays dims = record { dims = dims; of = ofs.Base bases.Int }

-- a class, and arrays of ints and of those
abbrev listed : List Ty
listed = class_type (codes "A") ∷ int_arrays 1 ∷ int_arrays 2 ∷ []

all_plain : ArePlain listed
all_plain zero less none = refl
all_plain (suc zero) less none = absurd cc
all_plain (suc (suc zero)) less none = absurd cc
all_plain (suc (suc (suc k))) less none = absurd (omega (arith, less))

-- no class is named as a descriptor
not_plain : ArePlain (class_type (codes "[I") ∷ []) → ⊥
not_plain plain = true≢false (plain 0 (omega arith) refl)

all_held : HaveComponents listed
all_held zero less e = absurd cc
all_held (suc zero) less e = absurd cc
all_held (suc (suc zero)) less e = record { number = 1; at = refl }
all_held (suc (suc (suc k))) less e = absurd (omega (arith, less))

-- no array of arrays is there without what it holds
not_held : HaveComponents (int_arrays 2 ∷ []) → ⊥
not_held held = by (held 0 (omega arith) refl) where
  by : HasNumber (int_arrays 2 ∷ []) (int_arrays 1) → ⊥
  by found = at found.number found.at where
    at : (k : ℕ) → slice_get (int_arrays 2 ∷ []) k ≡ Some (int_arrays 1) → ⊥
    at zero e = let dims : 2 ≡ 1 = ap (λ (t : Ty). t.dims) (same_Some (int_arrays 2) (int_arrays 1) e) in omega (arith, dims)
    at (suc k) e = none-some (int_arrays 1) e
