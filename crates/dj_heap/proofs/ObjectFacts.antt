-- What an object is as the definitions see it, and how long it may be, by plain values.
use Rattle.std.proofs.Common.{◌≡◌, ℕ, ◌<◌, ◌≤◌, ℤ, pos, negsuc, List, [], ◌∷◌, length, map, replicate, Some, None, slice_get, refl, ap, arith}
use Rattle.std.specs.Global.{Vec}
use Rattle.std.proofs.lemmas.List.{length-map, length-replicate}
use Rattle.dj_names.specs.declared.run.Element.TheVariants as elements
use Rattle.dj_names.specs.trusted.Heaps.{Instance, Array, Text}
use Rattle.dj_heap.specs.declared.object.Object.TheVariants as objects
use Rattle.dj_heap.specs.Views.{object_view, number_at, IsShort}

-- ---- objects as they are kept

views : (object_view (objects.Instance 7 (5 ∷ [])) ≡ Instance 7 (5 ∷ [])) × (object_view (objects.Text 3 (65 ∷ [])) ≡ Text 3 (65 ∷ []))
views = (refl, refl)

-- booleans, bytes, shorts, ints and longs have a sign, and stand as they are
signed_views : (items : Vec ℤ) → items.items ≡ negsuc 0 ∷ pos 1 ∷ []
    → (object_view (objects.Booleans 2 items) ≡ Array 2 elements.Boolean (negsuc 0 ∷ pos 1 ∷ []))
    × (object_view (objects.Bytes 2 items) ≡ Array 2 elements.Byte (negsuc 0 ∷ pos 1 ∷ []))
    × (object_view (objects.Shorts 2 items) ≡ Array 2 elements.Short (negsuc 0 ∷ pos 1 ∷ []))
    × (object_view (objects.Ints 2 items) ≡ Array 2 elements.Int (negsuc 0 ∷ pos 1 ∷ []))
    × (object_view (objects.Longs 2 items) ≡ Array 2 elements.Long (negsuc 0 ∷ pos 1 ∷ []))
signed_views items are =
    (ap (Array 2 elements.Boolean) are, ap (Array 2 elements.Byte) are, ap (Array 2 elements.Short) are, ap (Array 2 elements.Int) are, ap (Array 2 elements.Long) are)

-- chars and references have none
unsigned_views : (items : Vec ℕ) → items.items ≡ 0 ∷ 65535 ∷ []
    → (object_view (objects.Chars 2 items) ≡ Array 2 elements.Char (pos 0 ∷ pos 65535 ∷ []))
    × (object_view (objects.References 2 items) ≡ Array 2 elements.Ref (pos 0 ∷ pos 65535 ∷ []))
unsigned_views items are = (ap (λ (list : List ℕ). Array 2 elements.Char (map pos list)) are, ap (λ (list : List ℕ). Array 2 elements.Ref (map pos list)) are)

-- a boolean isn't a byte
other_element : (items : Vec ℤ) → object_view (objects.Booleans 2 items) ≡ object_view (objects.Bytes 2 items) → ⊥
other_element items e = absurd cc

-- elements count from 0; an instance and a text have none
numbers : (items : Vec ℕ) → items.items ≡ 7 ∷ 8 ∷ []
    → (number_at (objects.Chars 2 items) 1 ≡ Some (pos 8)) × (number_at (objects.Chars 2 items) 2 ≡ None)
numbers items are =
    (ap (λ (list : List ℕ). slice_get (map pos list) 1) are, ap (λ (list : List ℕ). slice_get (map pos list) 2) are)

no_numbers : (number_at (objects.Instance 7 (5 ∷ [])) 0 ≡ None) × (number_at (objects.Text 3 (65 ∷ [])) 0 ≡ None)
no_numbers = (refl, refl)

-- ---- how many fields, elements and units there may be

short : (class n : ℕ) → n < 2147483648 → IsShort (objects.Instance class (replicate n 1)) × IsShort (objects.Text class (replicate n 65))
short class n few =
    let fields = length-replicate {A = ℕ} n 1 in
    let units = length-replicate {A = ℕ} n 65 in
    (omega (arith, few, fields), omega (arith, few, units))

short_array : (class : ℕ) (longs : Vec ℤ) (chars : Vec ℕ) → length longs.items < 2147483648 → length chars.items < 2147483648
    → IsShort (objects.Longs class longs) × IsShort (objects.Chars class chars)
short_array class longs chars few as_few = let units = length-map {A = ℕ} {B = ℤ} chars.items pos in (omega (arith, few), omega (arith, as_few, units))

too_many_fields : (class n : ℕ) → 2147483648 ≤ n → IsShort (objects.Instance class (replicate n 1)) → ⊥
too_many_fields class n many is = let all = length-replicate {A = ℕ} n 1 in omega (arith, many, is, all)

too_many_items : (class : ℕ) (items : Vec ℤ) → 2147483648 ≤ length items.items → IsShort (objects.Bytes class items) → ⊥
too_many_items class items many is = omega (arith, many, is)

too_many_units : (class n : ℕ) → 2147483648 ≤ n → IsShort (objects.Text class (replicate n 65)) → ⊥
too_many_units class n many is = let all = length-replicate {A = ℕ} n 65 in omega (arith, many, is, all)
