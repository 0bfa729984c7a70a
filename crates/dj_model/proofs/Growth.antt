-- Heaps that keep their objects' classes and lengths.
use Rattle.std.proofs.Common.{◌≡◌, ℕ, zero, suc, ◌+◌, ◌-◌, ℤ, pos, negsuc, List, [], ◌∷◌, ◌++◌, map, set, length, replicate, Some, None, nat_eq, refl, sym, ap, ◌∙◌, inl, inr, arith}
use Rattle.std.proofs.lemmas.List.{map-append, map-set, length-set, append_assoc, append-nil, length-replicate}
use Rattle.std.specs.Prelude.{slice_get}
use Rattle.dj_names.specs.declared.descriptor.Ty.{Ty}
use Rattle.dj_names.specs.declared.run.Element.{Element}
use Rattle.dj_names.specs.trusted.Heaps.{Object, Instance, Array, Text, Heap, object_at, object_size, with_new, with_object, with_element, instance_size, array_size}
use Rattle.dj_model.specs.Laws.{blank, sizes_of, Grows, IsSum}
use Rattle.dj_model.proofs.MappedNames.{either}

sizes_append : (l r : List (Object Ty)) → sizes_of (l ++ r) ≡ sizes_of l + sizes_of r
sizes_append [] r = omega arith
sizes_append (o ∷ l) r =
    let rest = sizes_append l r in
    let whole : sizes_of ((o ∷ l) ++ r) ≡ object_size o + sizes_of (l ++ r) = refl in
    let part : sizes_of (o ∷ l) ≡ object_size o + sizes_of l = refl in
    omega arith

pub grows_same : (heap : Heap Ty) → Grows heap heap
grows_same heap = record { more = []; objects = sym (append-nil (map blank heap.objects)); used = omega arith }

pub grows_new : (heap : Heap Ty) (o : Object Ty) → Grows heap (with_new heap o)
grows_new heap o = record { more = o ∷ []; objects = map-append blank heap.objects (o ∷ []); used = omega arith }

pub grows_then : (a b c : Heap Ty) → Grows a b → Grows b c → Grows a c
grows_then a b c x y = record {
  more = x.more ++ y.more;
  objects = y.objects ∙ (ap (λ l. l ++ map blank y.more) x.objects
      ∙ (append_assoc (map blank a.objects) (map blank x.more) (map blank y.more) ∙ ap (λ l. map blank a.objects ++ l) (sym (map-append blank x.more y.more))));
  used = let sizes : sizes_of (x.more ++ y.more) ≡ sizes_of x.more + sizes_of y.more = sizes_append x.more y.more in
      let first = x.used in let second = y.used in omega arith;
}

set_same : {A : Type 0} (xs : List A) (i : ℕ) (x : A) → slice_get xs i ≡ Some x → set xs i x ≡ xs
set_same [] i x e = refl
set_same (y ∷ xs) zero x e = let same : y ≡ x = cc in ap (λ k. k ∷ xs) (sym same)
set_same (y ∷ xs) (suc i) x e = ap (λ l. y ∷ l) (set_same xs i x e)

blank_at : (objects : List (Object Ty)) (i : ℕ) (o : Object Ty) → slice_get objects i ≡ Some o → slice_get (map blank objects) i ≡ Some (blank o)
blank_at [] i o e = absurd cc
blank_at (x ∷ objects) zero o e = let same : x ≡ o = cc in ap (λ k. Some (blank k)) same
blank_at (x ∷ objects) (suc i) o e = blank_at objects i o e

pub grows_set : (heap : Heap Ty) (r : ℕ) (o now : Object Ty) → object_at heap.objects r ≡ Some o → blank now ≡ blank o → Grows heap (with_object heap r now)
grows_set heap r o now e same = elim (either (nat_eq r 0)) [
  | inl null ↦ absurd (let none : None ≡ Some o = rw null at e in cc)
  | inr some ↦ let at : slice_get heap.objects (r - 1) ≡ Some o = rw some at e in
      record {
        more = [];
        objects = map-set blank heap.objects (r - 1) now ∙ (ap (set (map blank heap.objects) (r - 1)) same
            ∙ (set_same (map blank heap.objects) (r - 1) (blank o) (blank_at heap.objects (r - 1) o at) ∙ sym (append-nil (map blank heap.objects))));
        used = omega arith;
      }
]

-- ---- what holds as much

pub same_length : (class : Ty) (element : Element) (a b : List ℤ) → length a ≡ length b → blank (Array class element a) ≡ blank (Array class element b)
same_length class element a b e = ap (λ n. Array class element (replicate n (pos 0))) e

pub same_fields : (class : Ty) (a b : List ℕ) → length a ≡ length b → blank (Instance class a) ≡ blank (Instance class b)
same_fields class a b e = ap (λ n. Instance class (replicate n 0)) e

pub element_length : (contents : List ℤ) (index z : ℤ) → length (with_element contents index z) ≡ length contents
element_length contents (pos i) z = length-set contents i z
element_length contents (negsuc i) z = refl

-- ---- sums

blank_size : (o : Object Ty) → object_size (blank o) ≡ object_size o
blank_size (Instance class fields) = ap instance_size (length-replicate (length fields) 0)
blank_size (Array class element contents) = ap (array_size element) (length-replicate (length contents) (pos 0))
blank_size (Text class units) = refl

blank_sizes : (objects : List (Object Ty)) → sizes_of (map blank objects) ≡ sizes_of objects
blank_sizes [] = refl
blank_sizes (o ∷ objects) =
    let one = blank_size o in
    let rest = blank_sizes objects in
    let whole : sizes_of (map blank (o ∷ objects)) ≡ object_size (blank o) + sizes_of (map blank objects) = refl in
    let part : sizes_of (o ∷ objects) ≡ object_size o + sizes_of objects = refl in
    omega arith

pub grows_sum : (a b : Heap Ty) → Grows a b → IsSum a → IsSum b
grows_sum a b x sum =
    let after : sizes_of (map blank b.objects) ≡ sizes_of (map blank a.objects ++ map blank x.more) = ap sizes_of x.objects in
    let parts = sizes_append (map blank a.objects) (map blank x.more) in
    let before = blank_sizes a.objects in
    let added = blank_sizes x.more in
    let whole = blank_sizes b.objects in
    let used = x.used in
    omega arith
