-- The places that arraycopy is given, inside and outside of the arrays.
use Rattle.std.proofs.Common.{◌≡◌, ℕ, ◌+◌, ◌≤◌, ◌<◌, ◌^◌, Bool, true, false, ℤ, pos, negsuc, List, length, Option, Some, None, nat_eq, if◌then◌else◌, refl, ap, sym, subst, ◌∙◌, arith}
use Rattle.std.specs.Prelude.{◌&&◌, nat_le, IsSome, slice_range}
use Rattle.std.specs.Option.{option_map}
use Rattle.std.proofs.lemmas.Bool.{ne_eqb, eq-eqb, leb-true}
use Rattle.std.proofs.lemmas.Option.{none-some}
use Rattle.dj_names.specs.declared.descriptor.Ty.{Ty}
use Rattle.dj_names.specs.declared.run.Element.{Element}
use Rattle.dj_names.specs.declared.run.Element.TheVariants as elements
use Rattle.dj_names.specs.declared.run.Raised.TheVariants as raises
use Rattle.dj_names.specs.declared.run.Value.{Value}
use Rattle.dj_names.specs.trusted.Heaps.{Object, Instance, Array, Text, same_element}
use Rattle.dj_heap.specs.Heaps.{LimitedHeap, object_in}
use Rattle.dj_heap.specs.Lengths.{object_length}
use Rattle.dj_model.specs.trusted.Natives as model
use Rattle.dj_model.specs.trusted.Natives.{Answer, Raises, Elements, copied, copy_within, copy_between, unless_null, reference, number, is_reference, taken_before}
use Rattle.dj_model.specs.trusted.Program.{Program}
use Rattle.dj_model.specs.trusted.Types.{Prefix}
use Rattle.dj_natives.specs.Calls.{seen_of}
use Rattle.dj_natives.specs.Copies.{copy_answer, takes_at, as_place, contents_held, contents_at, fits_at, HasPlaces, IsPlaces}
use Rattle.dj_natives.specs.Seen.{elements_at, elements_held, element_of}
use Rattle.dj_natives.proofs.SeenFacts.{elements_alike}

-- ---- arrays

array_found : (o : Option (Object ℕ)) → IsSome (elements_held o) → IsSome o
array_found None some = absurd cc
array_found (Some o) some = refl

pub array_there : (h : LimitedHeap) (r : ℕ) → IsSome (elements_at h r) → IsSome (object_in h r)
array_there h r some = array_found (object_in h r) some

long_found : (o : Option (Object ℕ)) (n : ℕ) → IsSome (elements_held o) → option_map object_length o ≡ Some n → n ≡ length (contents_held o)
long_found None n some e = absurd cc
long_found (Some (Instance class fields)) n some e = absurd cc
long_found (Some (Array class element contents)) n some e = cc
long_found (Some (Text class units)) n some e = absurd cc

pub array_long : (h : LimitedHeap) (r n : ℕ) → IsSome (elements_at h r) → option_map object_length (object_in h r) ≡ Some n → n ≡ length (contents_at h r)
array_long h r n some e = long_found (object_in h r) n some e

array_held : (o : Option (Object ℕ)) (element : Element) → element_of (elements_held o) ≡ Some element → (class : ℕ) × (o ≡ Some (Array class element (contents_held o)))
array_held None element e = absurd cc
array_held (Some (Instance class fields)) element e = absurd cc
array_held (Some (Array class found contents)) element e = let same : found ≡ element = cc in (class, ap (λ x. Some (Array class x contents)) same)
array_held (Some (Text class units)) element e = absurd cc

some_elements : (o : Option Elements) (element : Element) → element_of o ≡ Some element → IsSome o
some_elements None element e = absurd cc
some_elements (Some a) element e = refl

pub is_array : (h : LimitedHeap) (r : ℕ) (element : Element) → element_of (elements_at h r) ≡ Some element → IsSome (elements_at h r)
is_array h r element e = some_elements (elements_at h r) element e

pub has_places : (h : LimitedHeap) (r : ℕ) (element : Element) (from count : ℕ) → element_of (elements_at h r) ≡ Some element → fits_at h r from count ≡ true
    → length (contents_at h r) < 2 ^ 31 → HasPlaces h r element from count
has_places h r element from count e fit few =
    let held = array_held (object_in h r) element e in
    let within : from + count ≤ length (contents_at h r) = leb-true (from + count) (length (contents_at h r)) fit in
    record { class = held.0; contents = contents_at h r; is = held.1; within = within; few = omega (arith, within, few) }

pub not_null : (h : LimitedHeap) (r : ℕ) (element : Element) → element_of (elements_at h r) ≡ Some element → r ≡ 0 → ⊥
not_null h r element e zero_is = none-some element (subst (λ k. element_of (elements_at h k) ≡ Some element) zero_is e)

same_self : (element : Element) → same_element element element ≡ true
same_self elements.Boolean = refl
same_self elements.Byte = refl
same_self elements.Char = refl
same_self elements.Short = refl
same_self elements.Int = refl
same_self elements.Long = refl
same_self elements.Ref = refl

not_same : (a b : Element) → (a ≡ b → ⊥) → same_element a b ≡ false
not_same elements.Boolean elements.Boolean apart = absurd (apart refl)
not_same elements.Boolean elements.Byte apart = refl
not_same elements.Boolean elements.Char apart = refl
not_same elements.Boolean elements.Short apart = refl
not_same elements.Boolean elements.Int apart = refl
not_same elements.Boolean elements.Long apart = refl
not_same elements.Boolean elements.Ref apart = refl
not_same elements.Byte elements.Boolean apart = refl
not_same elements.Byte elements.Byte apart = absurd (apart refl)
not_same elements.Byte elements.Char apart = refl
not_same elements.Byte elements.Short apart = refl
not_same elements.Byte elements.Int apart = refl
not_same elements.Byte elements.Long apart = refl
not_same elements.Byte elements.Ref apart = refl
not_same elements.Char elements.Boolean apart = refl
not_same elements.Char elements.Byte apart = refl
not_same elements.Char elements.Char apart = absurd (apart refl)
not_same elements.Char elements.Short apart = refl
not_same elements.Char elements.Int apart = refl
not_same elements.Char elements.Long apart = refl
not_same elements.Char elements.Ref apart = refl
not_same elements.Short elements.Boolean apart = refl
not_same elements.Short elements.Byte apart = refl
not_same elements.Short elements.Char apart = refl
not_same elements.Short elements.Short apart = absurd (apart refl)
not_same elements.Short elements.Int apart = refl
not_same elements.Short elements.Long apart = refl
not_same elements.Short elements.Ref apart = refl
not_same elements.Int elements.Boolean apart = refl
not_same elements.Int elements.Byte apart = refl
not_same elements.Int elements.Char apart = refl
not_same elements.Int elements.Short apart = refl
not_same elements.Int elements.Int apart = absurd (apart refl)
not_same elements.Int elements.Long apart = refl
not_same elements.Int elements.Ref apart = refl
not_same elements.Long elements.Boolean apart = refl
not_same elements.Long elements.Byte apart = refl
not_same elements.Long elements.Char apart = refl
not_same elements.Long elements.Short apart = refl
not_same elements.Long elements.Int apart = refl
not_same elements.Long elements.Long apart = absurd (apart refl)
not_same elements.Long elements.Ref apart = refl
not_same elements.Ref elements.Boolean apart = refl
not_same elements.Ref elements.Byte apart = refl
not_same elements.Ref elements.Char apart = refl
not_same elements.Ref elements.Short apart = refl
not_same elements.Ref elements.Int apart = refl
not_same elements.Ref elements.Long apart = refl
not_same elements.Ref elements.Ref apart = absurd (apart refl)

-- ---- the model's answer

within_from : (takes : ℕ → Bool) (target : ℕ) (a b : Elements) (from to count : ℤ) → as_place from ≡ None → copy_within takes target a b from to count ≡ Raises raises.ArrayIndexOutOfBounds
within_from takes target a b (pos f) to count e = absurd cc
within_from takes target a b (negsuc f) (pos t) (pos n) e = refl
within_from takes target a b (negsuc f) (pos t) (negsuc n) e = refl
within_from takes target a b (negsuc f) (negsuc t) (pos n) e = refl
within_from takes target a b (negsuc f) (negsuc t) (negsuc n) e = refl

within_to : (takes : ℕ → Bool) (target : ℕ) (a b : Elements) (from to count : ℤ) → as_place to ≡ None → copy_within takes target a b from to count ≡ Raises raises.ArrayIndexOutOfBounds
within_to takes target a b from (pos t) count e = absurd cc
within_to takes target a b (pos f) (negsuc t) (pos n) e = refl
within_to takes target a b (pos f) (negsuc t) (negsuc n) e = refl
within_to takes target a b (negsuc f) (negsuc t) (pos n) e = refl
within_to takes target a b (negsuc f) (negsuc t) (negsuc n) e = refl

within_count : (takes : ℕ → Bool) (target : ℕ) (a b : Elements) (from to count : ℤ) → as_place count ≡ None → copy_within takes target a b from to count ≡ Raises raises.ArrayIndexOutOfBounds
within_count takes target a b from to (pos n) e = absurd cc
within_count takes target a b (pos f) (pos t) (negsuc n) e = refl
within_count takes target a b (pos f) (negsuc t) (negsuc n) e = refl
within_count takes target a b (negsuc f) (pos t) (negsuc n) e = refl
within_count takes target a b (negsuc f) (negsuc t) (negsuc n) e = refl

place_is : (z : ℤ) (n : ℕ) → as_place z ≡ Some n → z ≡ pos n
place_is (pos m) n e = let same : m ≡ n = cc in ap pos same
place_is (negsuc m) n e = absurd cc

module _ (program : Program) (prefix : Prefix) (types : List Ty) (h : LimitedHeap) (args : List Value) (element : Element)
    (source : element_of (elements_at h (reference 0 args)) ≡ Some element) (target : element_of (elements_at h (reference 2 args)) ≡ Some element) where
  abbrev takes : ℕ → Bool
  takes = takes_at program prefix types h (reference 2 args)

  abbrev first : Elements
  first = record { element = element; contents = contents_at h (reference 0 args) }

  abbrev second : Elements
  second = record { element = element; contents = contents_at h (reference 2 args) }

  held : (r : ℕ) → element_of (elements_at h r) ≡ Some element → (seen_of program prefix types h).elements r ≡ Some (record { element = element; contents = contents_at h r })
  held r e = elements_alike types h r ∙ ap elements_held (array_held (object_in h r) element e).1

  copy_inside : copy_answer program prefix types h args ≡ copy_within takes (reference 2 args) first second (number 1 args) (number 3 args) (number 4 args)
  copy_inside =
      let between = λ (a b : Option Elements). copy_between takes (reference 2 args) a b (number 1 args) (number 3 args) (number 4 args) in
      let seen = seen_of program prefix types h in
      ap (λ t. if t then Raises raises.NullPointer else unless_null (reference 2 args) (between (seen.elements (reference 0 args)) (seen.elements (reference 2 args))))
      (ne_eqb (reference 0 args) 0 (not_null h (reference 0 args) element source))
      ∙ ap (λ t. if t then Raises raises.NullPointer else between (seen.elements (reference 0 args)) (seen.elements (reference 2 args)))
      (ne_eqb (reference 2 args) 0 (not_null h (reference 2 args) element target))
      ∙ ap (λ a. between a (seen.elements (reference 2 args))) (held (reference 0 args) source)
      ∙ ap (λ b. between (Some first) b) (held (reference 2 args) target)
      ∙ ap (λ t. if t then copy_within takes (reference 2 args) first second (number 1 args) (number 3 args) (number 4 args) else Raises raises.ArrayStore) (same_self element)

  pub outside_from : as_place (number 1 args) ≡ None → copy_answer program prefix types h args ≡ Raises raises.ArrayIndexOutOfBounds
  outside_from e = copy_inside ∙ within_from takes (reference 2 args) first second (number 1 args) (number 3 args) (number 4 args) e

  pub outside_to : as_place (number 3 args) ≡ None → copy_answer program prefix types h args ≡ Raises raises.ArrayIndexOutOfBounds
  outside_to e = copy_inside ∙ within_to takes (reference 2 args) first second (number 1 args) (number 3 args) (number 4 args) e

  pub outside_count : as_place (number 4 args) ≡ None → copy_answer program prefix types h args ≡ Raises raises.ArrayIndexOutOfBounds
  outside_count e = copy_inside ∙ within_count takes (reference 2 args) first second (number 1 args) (number 3 args) (number 4 args) e

  module _ (from to count : ℕ) (from_is : as_place (number 1 args) ≡ Some from) (to_is : as_place (number 3 args) ≡ Some to) (count_is : as_place (number 4 args) ≡ Some count) where
    abbrev answer_by : Bool → Answer
    answer_by b = if b
        then copied (reference 2 args) (contents_at h (reference 2 args)) to
        (if is_reference element then taken_before takes (slice_range (contents_at h (reference 0 args)) from (from + count)) else slice_range (contents_at h (reference 0 args)) from (from + count)) count
        else Raises raises.ArrayIndexOutOfBounds

    copy_placed : copy_answer program prefix types h args ≡ answer_by (fits_at h (reference 0 args) from count && fits_at h (reference 2 args) to count)
    copy_placed =
        copy_inside
        ∙ ap (λ z. copy_within takes (reference 2 args) first second z (number 3 args) (number 4 args)) (place_is (number 1 args) from from_is)
        ∙ ap (λ z. copy_within takes (reference 2 args) first second (pos from) z (number 4 args)) (place_is (number 3 args) to to_is)
        ∙ ap (λ z. copy_within takes (reference 2 args) first second (pos from) (pos to) z) (place_is (number 4 args) count count_is)

    pub outside_array : (fits_at h (reference 0 args) from count && fits_at h (reference 2 args) to count) ≡ false
        → copy_answer program prefix types h args ≡ Raises raises.ArrayIndexOutOfBounds
    outside_array e = copy_placed ∙ ap answer_by e

    pub inside_array : (fits_at h (reference 0 args) from count && fits_at h (reference 2 args) to count) ≡ true → (class other : ℕ) (contents old : List ℤ)
        → object_in h (reference 0 args) ≡ Some (Array class element contents) → object_in h (reference 2 args) ≡ Some (Array other element old)
        → copy_answer program prefix types h args ≡ copied (reference 2 args) old to
        (if is_reference element then taken_before takes (slice_range contents from (from + count)) else slice_range contents from (from + count)) count
    inside_array e class other contents old first_is second_is =
        copy_placed
        ∙ ap answer_by e
        ∙ ap (λ l. copied (reference 2 args) l to
        (if is_reference element then taken_before takes (slice_range (contents_at h (reference 0 args)) from (from + count)) else slice_range (contents_at h (reference 0 args)) from (from + count)) count)
        (ap contents_held second_is)
        ∙ ap (λ l. copied (reference 2 args) old to
        (if is_reference element then taken_before takes (slice_range l from (from + count)) else slice_range l from (from + count)) count)
        (ap contents_held first_is)

and_both : (a b : Bool) → (a && b) ≡ true → (a ≡ true) × (b ≡ true)
and_both true true e = (refl, refl)
and_both true false e = absurd cc
and_both false b e = absurd cc

pub are_places : (h : LimitedHeap) (args : List Value) (element : Element) → element_of (elements_at h (reference 0 args)) ≡ Some element → element_of (elements_at h (reference 2 args)) ≡ Some element
    → (from to count : ℕ) → as_place (number 1 args) ≡ Some from → as_place (number 3 args) ≡ Some to → as_place (number 4 args) ≡ Some count
    → (fits_at h (reference 0 args) from count && fits_at h (reference 2 args) to count) ≡ true
    → length (contents_at h (reference 0 args)) < 2 ^ 31 → length (contents_at h (reference 2 args)) < 2 ^ 31
    → IsPlaces h element args (Some (record { source = reference 0 args; from = from; target = reference 2 args; to = to; count = count }))
are_places h args element source target from to count from_is to_is count_is fit few many =
    let both = and_both (fits_at h (reference 0 args) from count) (fits_at h (reference 2 args) to count) fit in (
      record {
        source = has_places h (reference 0 args) element from count source both.0 few;
        target = has_places h (reference 2 args) element to count target both.1 many;
      },
      λ program prefix types. inside_array program prefix types h args element source target from to count from_is to_is count_is fit,
    )

-- ---- what is no array, or an array of others

either_way : (b : Bool) (x : Answer) → (if b then x else x) ≡ x
either_way true x = refl
either_way false x = refl

no_array_found : (o : Option Elements) → element_of o ≡ None → o ≡ None
no_array_found None e = refl
no_array_found (Some a) e = absurd cc

array_is : (o : Option Elements) (element : Element) → element_of o ≡ Some element → (a : Elements) × (o ≡ Some a) × (a.element ≡ element)
array_is None element e = absurd cc
array_is (Some a) element e = (a, refl, cc)

none_between : (takes : ℕ → Bool) (target : ℕ) (b : Option Elements) (from to count : ℤ) → copy_between takes target None b from to count ≡ Raises raises.ArrayStore
none_between takes target None from to count = refl
none_between takes target (Some b) from to count = refl

module _ (program : Program) (prefix : Prefix) (types : List Ty) (h : LimitedHeap) (args : List Value) where
  abbrev between : Option Elements → Option Elements → Answer
  between a b = copy_between (takes_at program prefix types h (reference 2 args)) (reference 2 args) a b (number 1 args) (number 3 args) (number 4 args)

  abbrev first_elements : Option Elements
  first_elements = (seen_of program prefix types h).elements (reference 0 args)

  abbrev second_elements : Option Elements
  second_elements = (seen_of program prefix types h).elements (reference 2 args)

  pub null_source : reference 0 args ≡ 0 → copy_answer program prefix types h args ≡ Raises raises.NullPointer
  null_source e =
      ap (λ t. if t then Raises raises.NullPointer else unless_null (reference 2 args) (between first_elements second_elements)) (eq-eqb (reference 0 args) 0 e)

  pub null_target : reference 2 args ≡ 0 → copy_answer program prefix types h args ≡ Raises raises.NullPointer
  null_target e =
      ap (λ t. if nat_eq (reference 0 args) 0 then Raises raises.NullPointer else (if t then Raises raises.NullPointer else between first_elements second_elements)) (eq-eqb (reference 2 args) 0 e)
      ∙ either_way (nat_eq (reference 0 args) 0) (Raises raises.NullPointer)

  module _ (source : reference 0 args ≡ 0 → ⊥) (target : reference 2 args ≡ 0 → ⊥) where
    copy_of : copy_answer program prefix types h args ≡ between (elements_at h (reference 0 args)) (elements_at h (reference 2 args))
    copy_of =
        ap (λ t. if t then Raises raises.NullPointer else unless_null (reference 2 args) (between first_elements second_elements)) (ne_eqb (reference 0 args) 0 source)
        ∙ ap (λ t. if t then Raises raises.NullPointer else between first_elements second_elements) (ne_eqb (reference 2 args) 0 target)
        ∙ ap (λ a. between a second_elements) (elements_alike types h (reference 0 args))
        ∙ ap (λ b. between (elements_at h (reference 0 args)) b) (elements_alike types h (reference 2 args))

    pub no_source : element_of (elements_at h (reference 0 args)) ≡ None → copy_answer program prefix types h args ≡ Raises raises.ArrayStore
    no_source e =
        copy_of
        ∙ ap (λ a. between a (elements_at h (reference 2 args))) (no_array_found (elements_at h (reference 0 args)) e)
        ∙ none_between (takes_at program prefix types h (reference 2 args)) (reference 2 args) (elements_at h (reference 2 args)) (number 1 args) (number 3 args) (number 4 args)

    pub no_target : (a : Element) → element_of (elements_at h (reference 0 args)) ≡ Some a → element_of (elements_at h (reference 2 args)) ≡ None
        → copy_answer program prefix types h args ≡ Raises raises.ArrayStore
    no_target a first e =
        let found = array_is (elements_at h (reference 0 args)) a first in
        copy_of
        ∙ ap (λ b. between (elements_at h (reference 0 args)) b) (no_array_found (elements_at h (reference 2 args)) e)
        ∙ ap (λ a. between a None) found.1

    pub other_elements : (a b : Element) → element_of (elements_at h (reference 0 args)) ≡ Some a → element_of (elements_at h (reference 2 args)) ≡ Some b → (a ≡ b → ⊥)
        → copy_answer program prefix types h args ≡ Raises raises.ArrayStore
    other_elements a b first second apart =
        let one = array_is (elements_at h (reference 0 args)) a first in
        let other = array_is (elements_at h (reference 2 args)) b second in
        copy_of
        ∙ ap (λ x. between x (elements_at h (reference 2 args))) one.1
        ∙ ap (λ x. between (Some one.0) x) other.1
        ∙ ap (λ t. if t then copy_within (takes_at program prefix types h (reference 2 args)) (reference 2 args) one.0 other.0 (number 1 args) (number 3 args) (number 4 args) else Raises raises.ArrayStore)
        (not_same one.0.element other.0.element (λ e. apart (sym one.2 ∙ e ∙ other.2)))
