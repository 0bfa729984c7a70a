-- Methods and fields by their numbers and by their places.
use Rattle.std.proofs.Common.{◌≡◌, ℕ, ◌+◌, ◌^◌, ◌<◌, List, [], ◌∷◌, ◌++◌, take, length, sum, get_or, Option, Some, None, refl, sym, ap, ◌∙◌, subst, arith, inl, inr}
use Rattle.std.specs.Prelude.{slice_get, option_and_then}
use Rattle.std.specs.List.{flat_map}
use Rattle.std.specs.Option.{option_map}
use Rattle.std.proofs.lemmas.Bool.{cases_lt}
use Rattle.std.proofs.lemmas.List.{length-map, length_push, get_or_append_left, get_or_push, get_or_read}
use Rattle.std.proofs.lemmas.Option.{none-some, same_Some, slice_get-map, slice_get_within}
use Rattle.dj_model.specs.trusted.Program.{Program, Class, Method, Field, fields_of}
use Rattle.dj_model.specs.trusted.Linking.{FoundMethod, FoundField, place_of}
use Rattle.dj_class_table.specs.Tables.{methods_of, methods_at, fields_at, method_of_class, field_of_class, method_there, field_there}
use Rattle.dj_class_table.specs.declared.place.Place.{Place}
use Rattle.dj_numbering.specs.Members.{all_methods, all_fields, methods_in, fields_in, methods_before, fields_before}
use Rattle.dj_numbering.specs.Numbered.{counts_of, AreObjectPlaces, AreStarts, IsStartOf}
use Rattle.dj_numbering.proofs.Starts.{some_there, placed, IsPlaced, all_count, before_count, member_of_number, number_within, count_at, counts_length}

-- what is known of a place and of the number there
pub record IsNumbered {F : Type 0} (all : List F) (before start member : ℕ) (found : Option F) : Type 0 where
  pub fits : start + member < 2 ^ 32
  pub is : slice_get all (start + member) ≡ found
  pub number : start + member ≡ before + member

module _ {F : Type 0} (items : Class → List F) (program : Program) (starts : List ℕ) (are : AreStarts (counts_of items program) starts) where
  start_there : (k : ℕ) → k < length program → get_or starts k 0 ≡ sum (take k (counts_of items program))
  start_there k lt = are.each k (let e = counts_length items program in omega (arith, e, lt))

  pub starts_within : (k : ℕ) → k < length program → k < length starts
  starts_within k lt = let e = counts_length items program in let f = are.long in omega (arith, e, f, lt)

  pub numbered : (k member : ℕ) (c : Class) → slice_get program k ≡ Some c → k < length program → member < length (items c) → length (flat_map items program) < 2 ^ 32
      → IsNumbered (flat_map items program) (length (flat_map items (take k program))) (get_or starts k 0) member (slice_get (items c) member)
  numbered k member c at lt within few =
      let start = start_there k lt in
      let fits = number_within items program k member c at within in
      let before = before_count items program k in
      record {
        fits = omega (arith, start, fits, few);
        is = member_of_number items program k member (get_or starts k 0 + member) c at within (ap (λ (n : ℕ). n + member) (sym start));
        number = omega (arith, start, before);
      }

  pub place_of_number : (number : ℕ) (place : Place) → number < length (flat_map items program) → IsStartOf starts number place
      → (c : Class) × (slice_get program place.class ≡ Some c) × (place.member < length (items c)) × (slice_get (items c) place.member ≡ slice_get (flat_map items program) number)
  place_of_number number place lt at =
      let e = all_count items program in
      let is : IsPlaced (counts_of items program) number place = placed (counts_of items program) starts number place are (omega (arith, e, lt)) at in
      let there = is.there in
      let long = counts_length items program in
      let class : (c : Class) × (slice_get program place.class ≡ Some c) = some_there program place.class (omega (arith, there, long)) in
      let count = count_at items program place.class class.0 class.1 in
      let inside = is.within in
      let within : place.member < length (items class.0) = omega (arith, count, inside) in
      (class.0, class.1, within, sym (member_of_number items program place.class place.member number class.0 class.1 within is.reached))

-- ---- methods

method_in_class : (program : Program) (place : Place) (c : Class) → slice_get program place.class ≡ Some c → slice_get (methods_in c) place.member ≡ method_there program place
method_in_class program place c at = slice_get-map (λ (m : Method). record { class = c.name; method = m }) c.methods place.member ∙ rw at refl

method_count : (program : Program) (k : ℕ) (c : Class) → slice_get program k ≡ Some c → length (methods_in c) ≡ length (methods_at program k)
method_count program k c at = length-map c.methods (λ (m : Method). record { class = c.name; method = m }) ∙ ap (λ (o : Option Class). length (methods_of o)) (sym at)

pub numbered_method : (program : Program) (starts : List ℕ) (place : Place) → AreStarts (counts_of methods_in program) starts → length (all_methods program) < 2 ^ 32 → place.class < length program → place.member < length (methods_at program place.class)
    → IsNumbered (all_methods program) (methods_before program place.class) (get_or starts place.class 0) place.member (method_there program place)
unfolding all_methods
numbered_method program starts place are few lt within =
    let class : (c : Class) × (slice_get program place.class ≡ Some c) = some_there program place.class lt in
    let count = method_count program place.class class.0 class.1 in
    let numbers = numbered methods_in program starts are place.class place.member class.0 class.1 lt (omega (arith, count, within)) few in
    record { fits = numbers.fits; is = numbers.is ∙ method_in_class program place class.0 class.1; number = numbers.number }

pub method_starts_within : (program : Program) (starts : List ℕ) (k : ℕ) → AreStarts (counts_of methods_in program) starts → k < length program → k < length starts
method_starts_within program starts k are lt = starts_within methods_in program starts are k lt

pub methods_counted : (program : Program) → length (all_methods program) ≡ sum (counts_of methods_in program)
unfolding all_methods
methods_counted program = all_count methods_in program

pub record IsPlaceOfMethod (program : Program) (number : ℕ) (place : Place) : Type 0 where
  pub there : place.class < length program
  pub within : place.member < length (methods_at program place.class)
  pub is : method_there program place ≡ slice_get (all_methods program) number
  pub counted : number ≡ methods_before program place.class + place.member

pub place_of_method : (program : Program) (starts : List ℕ) (number : ℕ) (place : Place) → AreStarts (counts_of methods_in program) starts → number < length (all_methods program) → IsStartOf starts number place
    → IsPlaceOfMethod program number place
unfolding all_methods
place_of_method program starts number place are lt at =
    let placed = place_of_number methods_in program starts are number place lt at in
    let count = method_count program place.class placed.0 placed.1 in
    let within = placed.2 in
    let there = slice_get_within program place.class placed.0 placed.1 in
    let long = counts_length methods_in program in
    let start = are.each place.class (omega (arith, long, there)) in
    let before = before_count methods_in program place.class in
    let reached = at.reached in
    record {
      there = there;
      within = omega (arith, count, within);
      is = sym (method_in_class program place placed.0 placed.1) ∙ placed.3;
      counted = omega (arith, start, before, reached);
    }

-- ---- fields

field_in_class : (program : Program) (place : Place) (c : Class) → slice_get program place.class ≡ Some c → slice_get (fields_in c) place.member ≡ field_there program place
field_in_class program place c at = slice_get-map (λ (m : Field). record { class = c.name; field = m }) c.fields place.member ∙ rw at refl

field_count : (program : Program) (k : ℕ) (c : Class) → slice_get program k ≡ Some c → length (fields_in c) ≡ length (fields_at program k)
field_count program k c at = length-map c.fields (λ (m : Field). record { class = c.name; field = m }) ∙ ap (λ (o : Option Class). length (fields_of o)) (sym at)

pub numbered_field : (program : Program) (starts : List ℕ) (place : Place) → AreStarts (counts_of fields_in program) starts → length (all_fields program) < 2 ^ 32 → place.class < length program → place.member < length (fields_at program place.class)
    → IsNumbered (all_fields program) (fields_before program place.class) (get_or starts place.class 0) place.member (field_there program place)
unfolding all_fields
numbered_field program starts place are few lt within =
    let class : (c : Class) × (slice_get program place.class ≡ Some c) = some_there program place.class lt in
    let count = field_count program place.class class.0 class.1 in
    let numbers = numbered fields_in program starts are place.class place.member class.0 class.1 lt (omega (arith, count, within)) few in
    record { fits = numbers.fits; is = numbers.is ∙ field_in_class program place class.0 class.1; number = numbers.number }

pub field_starts_within : (program : Program) (starts : List ℕ) (k : ℕ) → AreStarts (counts_of fields_in program) starts → k < length program → k < length starts
field_starts_within program starts k are lt = starts_within fields_in program starts are k lt

pub fields_counted : (program : Program) → length (all_fields program) ≡ sum (counts_of fields_in program)
unfolding all_fields
fields_counted program = all_count fields_in program

pub record IsPlaceOfField (program : Program) (number : ℕ) (place : Place) : Type 0 where
  pub there : place.class < length program
  pub within : place.member < length (fields_at program place.class)
  pub is : field_there program place ≡ slice_get (all_fields program) number
  pub counted : number ≡ fields_before program place.class + place.member

pub place_of_field : (program : Program) (starts : List ℕ) (number : ℕ) (place : Place) → AreStarts (counts_of fields_in program) starts → number < length (all_fields program) → IsStartOf starts number place
    → IsPlaceOfField program number place
unfolding all_fields
place_of_field program starts number place are lt at =
    let placed = place_of_number fields_in program starts are number place lt at in
    let count = field_count program place.class placed.0 placed.1 in
    let within = placed.2 in
    let there = slice_get_within program place.class placed.0 placed.1 in
    let long = counts_length fields_in program in
    let start = are.each place.class (omega (arith, long, there)) in
    let before = before_count fields_in program place.class in
    let reached = at.reached in
    record {
      there = there;
      within = omega (arith, count, within);
      is = sym (field_in_class program place placed.0 placed.1) ∙ placed.3;
      counted = omega (arith, start, before, reached);
    }

-- what is known where the start was read
pub method_id_reported : (program : Program) (starts : List ℕ) (place : Place) (start : ℕ) → AreStarts (counts_of methods_in program) starts → length (all_methods program) < 2 ^ 32 → place.class < length program → place.member < length (methods_at program place.class)
    → start ≡ get_or starts place.class start → IsNumbered (all_methods program) (methods_before program place.class) start place.member (method_there program place)
method_id_reported program starts place start are few there within read =
    subst (λ (n : ℕ). IsNumbered (all_methods program) (methods_before program place.class) n place.member (method_there program place))
    (sym (get_or_read starts place.class start (method_starts_within program starts place.class are there) read 0)) (numbered_method program starts place are few there within)

-- what is known where the start was read
pub field_id_reported : (program : Program) (starts : List ℕ) (place : Place) (start : ℕ) → AreStarts (counts_of fields_in program) starts → length (all_fields program) < 2 ^ 32 → place.class < length program → place.member < length (fields_at program place.class)
    → start ≡ get_or starts place.class start → IsNumbered (all_fields program) (fields_before program place.class) start place.member (field_there program place)
field_id_reported program starts place start are few there within read =
    subst (λ (n : ℕ). IsNumbered (all_fields program) (fields_before program place.class) n place.member (field_there program place))
    (sym (get_or_read starts place.class start (field_starts_within program starts place.class are there) read 0)) (numbered_field program starts place are few there within)

-- a place that was found is that of a method
pub method_bounds : (program : Program) (place : Place) (found : Option FoundMethod) → Some (method_there program place) ≡ option_map Some found → (place.class < length program) × (place.member < length (methods_at program place.class))
method_bounds program place None reported = absurd (none-some (method_there program place) (sym reported))
method_bounds program place (Some found) reported = class_by (slice_get program place.class) refl (same_Some (method_there program place) (Some found) reported) where
  member_by : (c : Class) (o : Option Method) → slice_get c.methods place.member ≡ o → option_map (λ (x : Method). record { class = c.name; method = x }) o ≡ Some found → place.member < length c.methods
  member_by c None at is = absurd (none-some found is)
  member_by c (Some x) at is = slice_get_within c.methods place.member x at

  class_by : (o : Option Class) → slice_get program place.class ≡ o → option_and_then (method_of_class place.member) o ≡ Some found → (place.class < length program) × (place.member < length (methods_at program place.class))
  class_by None at is = absurd (none-some found is)
  class_by (Some c) at is =
      (slice_get_within program place.class c at, subst (λ (o : Option Class). place.member < length (methods_of o)) (sym at) (member_by c (slice_get c.methods place.member) refl is))

-- a place that was found is that of a field
pub field_bounds : (program : Program) (place : Place) (found : Option FoundField) → Some (field_there program place) ≡ option_map Some found → (place.class < length program) × (place.member < length (fields_at program place.class))
field_bounds program place None reported = absurd (none-some (field_there program place) (sym reported))
field_bounds program place (Some found) reported = class_by (slice_get program place.class) refl (same_Some (field_there program place) (Some found) reported) where
  member_by : (c : Class) (o : Option Field) → slice_get c.fields place.member ≡ o → option_map (λ (x : Field). record { class = c.name; field = x }) o ≡ Some found → place.member < length c.fields
  member_by c None at is = absurd (none-some found is)
  member_by c (Some x) at is = slice_get_within c.fields place.member x at

  class_by : (o : Option Class) → slice_get program place.class ≡ o → option_and_then (field_of_class place.member) o ≡ Some found → (place.class < length program) × (place.member < length (fields_at program place.class))
  class_by None at is = absurd (none-some found is)
  class_by (Some c) at is =
      (slice_get_within program place.class c at, subst (λ (o : Option Class). place.member < length (fields_of o)) (sym at) (member_by c (slice_get c.fields place.member) refl is))

-- ---- places of fields in objects

-- those of the fields so far
pub record ArePlacesSoFar (program : Program) (count : ℕ) (places : List ℕ) : Type 0 where
  pub long : length places ≡ count
  pub each : (k : ℕ) → k < count → Some (get_or places k 0) ≡ option_map (place_of program) (slice_get (all_fields program) k)

pub no_places : (program : Program) (none : List ℕ) → none ≡ [] → ArePlacesSoFar program 0 none
no_places program none empty = record { long = ap length empty; each = λ k lt. absurd (omega (arith, lt)) }

pub one_place : (program : Program) (count place : ℕ) (own more : List ℕ) → ArePlacesSoFar program count own → Some place ≡ option_map (place_of program) (slice_get (all_fields program) count) → more ≡ own ++ place ∷ []
    → ArePlacesSoFar program (count + 1) more
one_place program count place own more are here is = record {
  long = (let long = are.long in let pushed = ap length is ∙ length_push own place in omega (arith, long, pushed));
  each = λ k lt. elim (cases_lt k count) [
    | inl before ↦
        (let long = are.long in
        ap Some (ap (λ (xs : List ℕ). get_or xs k 0) is ∙ get_or_append_left own (place ∷ []) 0 k (omega (arith, before, long))) ∙ are.each k before)
    | inr after ↦
        (let same : count ≡ k = omega (arith, after, lt) in
        subst (λ (n : ℕ). Some (get_or more n 0) ≡ option_map (place_of program) (slice_get (all_fields program) n)) same
        (ap Some (ap (λ (xs : List ℕ). get_or xs count 0) is ∙ get_or_push own place 0 count are.long) ∙ here))
  ];
}

pub all_places : (program : Program) (count : ℕ) (places : List ℕ) → ArePlacesSoFar program count places → count ≡ length (all_fields program) → AreObjectPlaces program places
all_places program count places are all = record { long = are.long ∙ all; each = λ k lt. are.each k (omega (arith, lt, all)) }
