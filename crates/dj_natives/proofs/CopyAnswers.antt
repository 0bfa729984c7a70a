-- What the model answers to arraycopy owes nothing.
use Rattle.std.proofs.Common.{◌≡◌, ℕ, ◌+◌, Bool, true, false, ℤ, pos, negsuc, List, length, Option, Some, None, nat_eq, refl, inl, inr}
use Rattle.std.specs.Prelude.{nat_le, ◌&&◌, if◌then◌else◌}
use Rattle.dj_names.specs.declared.run.Raised.TheVariants as raises
use Rattle.dj_names.specs.trusted.Heaps.{same_element}
use Rattle.dj_model.specs.trusted.Natives.{Answer, Raises, SetsElements, Seen, Elements, unless_null, copied, copy_within, copy_between, copy_array, is_reference}
use Rattle.dj_model.proofs.MappedNames.{either}
use Rattle.dj_natives.specs.Counting.{owed}

owed_if : (b : Bool) (x y : Answer) → owed x ≡ None → owed y ≡ None → owed (if b then x else y) ≡ None
owed_if true x y first second = first
owed_if false x y first second = second

owed_within : (takes : ℕ → Bool) (target : ℕ) (a b : Elements) (from to count : ℤ) → owed (copy_within takes target a b from to count) ≡ None
owed_within takes target a b (pos from) (pos to) (pos count) =
    owed_if (nat_le (from + count) (length a.contents) && nat_le (to + count) (length b.contents)) _ (Raises raises.ArrayIndexOutOfBounds) refl refl
owed_within takes target a b (pos from) (pos to) (negsuc count) = refl
owed_within takes target a b (pos from) (negsuc to) (pos count) = refl
owed_within takes target a b (pos from) (negsuc to) (negsuc count) = refl
owed_within takes target a b (negsuc from) (pos to) (pos count) = refl
owed_within takes target a b (negsuc from) (pos to) (negsuc count) = refl
owed_within takes target a b (negsuc from) (negsuc to) (pos count) = refl
owed_within takes target a b (negsuc from) (negsuc to) (negsuc count) = refl

owed_between : (takes : ℕ → Bool) (target : ℕ) (a b : Option Elements) (from to count : ℤ) → owed (copy_between takes target a b from to count) ≡ None
owed_between takes target None None from to count = refl
owed_between takes target None (Some b) from to count = refl
owed_between takes target (Some a) None from to count = refl
owed_between takes target (Some a) (Some b) from to count =
    owed_if (same_element a.element b.element) (copy_within takes target a b from to count) (Raises raises.ArrayStore) (owed_within takes target a b from to count) refl

pub copy_owes : (heap : Seen) (source : ℕ) (from : ℤ) (target : ℕ) (to count : ℤ) → owed (copy_array heap source from target to count) ≡ None
copy_owes heap source from target to count =
    let between = copy_between (heap.takes target) target (heap.elements source) (heap.elements target) from to count in
    owed_if (nat_eq source 0) (Raises raises.NullPointer) (unless_null target between) refl
    (owed_if (nat_eq target 0) (Raises raises.NullPointer) between refl (owed_between (heap.takes target) target (heap.elements source) (heap.elements target) from to count))
