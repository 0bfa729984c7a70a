-- The arrays of a heap: what is found, and an element that is another.
use Rattle.std.proofs.Common.{◌≡◌, ℕ, zero, suc, ◌-◌, ◌<◌, ◌≤◌, ℤ, pos, negsuc, List, length, map, Option, Some, None, IsSome, slice_get, unsigned_abs, get_or, set, sum_by, codes, sym, ap, ◌∙◌, refl, subst, arith}
use Rattle.std.specs.Global.{Vec}
use Rattle.std.specs.Option.{option_map}
use Rattle.std.proofs.lemmas.Option.{slice_get-map, slice_get_past, slice_get-get_or, get_or_from_slice_get, slice_get_within}
use Rattle.std.proofs.lemmas.Bool.{false≢true}
use Rattle.std.proofs.lemmas.List.{map-set, length-set}
use Rattle.std.proofs.lemmas.List.Sums.{sum_by-set}
use Rattle.dj_names.specs.declared.run.Element.TheVariants as elements
use Rattle.dj_straight.specs.trusted.Objects.{Object}
use Rattle.dj_straight.specs.trusted.Effects.{Null, NoArray, IsArray, array_at, array_in, array_size, element_at, with_element, with_object}
use Rattle.dj_straight.specs.Arrays.{byte_array, byte_size, heap_of}

object_view : Vec ℤ → Object
object_view bytes = byte_array bytes.items

one_more : (r : ℕ) → 0 < r → r ≡ suc (r - 1)
one_more r some = omega arith

found_next : (arrays : List (Vec ℤ)) (n : ℕ) (bytes : Option (Vec ℤ)) → slice_get arrays n ≡ bytes
    → array_at (heap_of arrays).objects (suc n) ≡ array_in (option_map (λ (b : Vec ℤ). byte_array b.items) bytes)
found_next arrays n bytes is =
    ap array_in (slice_get-map (λ (b : Vec ℤ). byte_array b.items) arrays n ∙ ap (option_map (λ (b : Vec ℤ). byte_array b.items)) is)

pub array_found : (arrays : List (Vec ℤ)) (r : ℕ) (bytes : Vec ℤ) → 0 < r → r - 1 < length arrays → bytes ≡ get_or arrays (r - 1) bytes
    → array_at (heap_of arrays).objects r ≡ IsArray (codes "[B") elements.Byte bytes.items
array_found arrays r bytes some within is =
    let here : slice_get arrays (r - 1) ≡ Some bytes = slice_get-get_or arrays (r - 1) bytes within ∙ ap Some (sym is) in
    ap (array_at (heap_of arrays).objects) (one_more r some) ∙ found_next arrays (r - 1) (Some bytes) here

pub array_missing : (arrays : List (Vec ℤ)) (r : ℕ) → 0 < r → length arrays ≤ r - 1 → array_at (heap_of arrays).objects r ≡ NoArray
array_missing arrays r some past =
    ap (array_at (heap_of arrays).objects) (one_more r some) ∙ found_next arrays (r - 1) None (slice_get_past arrays (r - 1) past)

-- ---- a store

option_found : (arrays : List (Vec ℤ)) (n : ℕ) (contents : List ℤ) (bytes : Option (Vec ℤ)) → slice_get arrays n ≡ bytes
    → array_at (heap_of arrays).objects (suc n) ≡ IsArray (codes "[B") elements.Byte contents → (b : Vec ℤ) × (slice_get arrays n ≡ Some b) × (b.items ≡ contents)
option_found arrays n contents None is found =
    let none : NoArray ≡ IsArray (codes "[B") elements.Byte contents = sym (found_next arrays n None is) ∙ found in absurd cc
option_found arrays n contents (Some b) is found =
    let same : IsArray (codes "[B") elements.Byte b.items ≡ IsArray (codes "[B") elements.Byte contents = sym (found_next arrays n (Some b) is) ∙ found in
    (b, is, cc)

-- an array that is found is one of the heap's
pub found_at : (arrays : List (Vec ℤ)) (r : ℕ) (contents : List ℤ) → array_at (heap_of arrays).objects r ≡ IsArray (codes "[B") elements.Byte contents
    → (b : Vec ℤ) × (slice_get arrays (r - 1) ≡ Some b) × (b.items ≡ contents)
found_at arrays zero contents found = let null : Null ≡ IsArray (codes "[B") elements.Byte contents = found in absurd cc
found_at arrays (suc n) contents found =
    let less : n ≡ suc n - 1 = omega arith in
    subst (λ (k : ℕ). (b : Vec ℤ) × (slice_get arrays k ≡ Some b) × (b.items ≡ contents)) less (option_found arrays n contents (slice_get arrays n) refl found)

-- another array of the same length
pub heap_of-set : (arrays : List (Vec ℤ)) (r : ℕ) (bytes new : Vec ℤ) → slice_get arrays (r - 1) ≡ Some bytes → length new.items ≡ length bytes.items
    → heap_of (set arrays (r - 1) new) ≡ with_object (heap_of arrays) r (byte_array new.items)
heap_of-set arrays r bytes new here same =
    let within : r - 1 < length arrays = slice_get_within arrays (r - 1) bytes here in
    let old : get_or arrays (r - 1) bytes ≡ bytes = get_or_from_slice_get arrays (r - 1) bytes bytes here in
    let size : byte_size new.items ≡ byte_size (get_or arrays (r - 1) bytes).items = ap (λ n. array_size elements.Byte n) same ∙ ap (λ (b : Vec ℤ). byte_size b.items) (sym old) in
    let sums : sum_by (λ (b : Vec ℤ). byte_size b.items) (set arrays (r - 1) new) ≡ sum_by (λ (b : Vec ℤ). byte_size b.items) arrays =
    omega (arith, size, sum_by-set (λ (b : Vec ℤ). byte_size b.items) arrays (r - 1) new bytes within) in
    let objects : map (λ (b : Vec ℤ). byte_array b.items) (set arrays (r - 1) new) ≡ set (map (λ (b : Vec ℤ). byte_array b.items) arrays) (r - 1) (byte_array new.items) =
    map-set (λ (b : Vec ℤ). byte_array b.items) arrays (r - 1) new in
    rw (objects, sums)

-- an index at which there is an element is one of the list's
pub index_within : (contents : List ℤ) (index : ℤ) → IsSome (element_at contents index) → unsigned_abs index < length contents
index_within contents (pos i) some = within_some contents i (slice_get contents i) refl some where
  within_some : (xs : List ℤ) (i : ℕ) (x : Option ℤ) → slice_get xs i ≡ x → IsSome x → i < length xs
  within_some xs i None is some = absurd (false≢true some)
  within_some xs i (Some x) is some = slice_get_within xs i x is
index_within contents (negsuc i) some = absurd (false≢true some)

with_element_is : (contents : List ℤ) (index z : ℤ) → IsSome (element_at contents index) → set contents (unsigned_abs index) z ≡ with_element contents index z
with_element_is contents (pos i) z some = refl
with_element_is contents (negsuc i) z some = absurd (false≢true some)

same_contents : (xs ys : List ℤ) → IsArray (codes "[B") elements.Byte xs ≡ IsArray (codes "[B") elements.Byte ys → xs ≡ ys
same_contents xs ys is = cc

-- the array that is found is the one at its place
pub found_bytes : (arrays : List (Vec ℤ)) (r : ℕ) (contents : List ℤ) (bytes : Vec ℤ) → array_at (heap_of arrays).objects r ≡ IsArray (codes "[B") elements.Byte contents
    → bytes ≡ get_or arrays (r - 1) bytes → (slice_get arrays (r - 1) ≡ Some bytes) × (bytes.items ≡ contents)
found_bytes arrays r contents bytes found is =
    let hit = found_at arrays r contents found in
    let here : slice_get arrays (r - 1) ≡ Some hit.0 = hit.1 in
    let same : bytes ≡ hit.0 = is ∙ get_or_from_slice_get arrays (r - 1) hit.0 bytes here in
    (here ∙ ap Some (sym same), ap (λ (b : Vec ℤ). b.items) same ∙ hit.2)

-- an element of an array of the heap is another
pub stored_heap : (arrays : List (Vec ℤ)) (r : ℕ) (reported contents : List ℤ) (bytes new : Vec ℤ) (index z : ℤ)
    → array_at (heap_of arrays).objects r ≡ IsArray (codes "[B") elements.Byte reported → IsSome (element_at reported index)
    → array_at (heap_of arrays).objects r ≡ IsArray (codes "[B") elements.Byte contents
    → bytes ≡ get_or arrays (r - 1) bytes → new.items ≡ set bytes.items (unsigned_abs index) z
    → heap_of (set arrays (r - 1) new) ≡ with_object (heap_of arrays) r (byte_array (with_element contents index z))
stored_heap arrays r reported contents bytes new index z known some found is items =
    let hit = found_bytes arrays r contents bytes found is in
    let one : reported ≡ contents = same_contents reported contents (sym known ∙ found) in
    let there : IsSome (element_at contents index) = subst (λ (xs : List ℤ). IsSome (element_at xs index)) one some in
    let size : length new.items ≡ length bytes.items = ap (λ (xs : List ℤ). length xs) items ∙ length-set bytes.items (unsigned_abs index) z in
    let element : new.items ≡ with_element contents index z =
    items ∙ ap (λ (xs : List ℤ). set xs (unsigned_abs index) z) hit.1 ∙ with_element_is contents index z there in
    heap_of-set arrays r bytes new hit.0 size ∙ ap (λ (xs : List ℤ). with_object (heap_of arrays) r (byte_array xs)) element
