-- Members counted by classes, their classes and places by numbers, by plain values: of A with two methods and two fields, and of B below it with one of each.
use Rattle.std.proofs.Common.{◌≡◌, ℕ, zero, suc, ◌+◌, ◌<◌, ◌≤◌, true, false, List, [], ◌∷◌, map, length, codes, refl, sym, ap, ◌∙◌, subst, arith, Some, None}
use Rattle.std.specs.Prelude.{◌-◌, get_or, slice_get, sum, take}
use Rattle.std.specs.Option.{option_map}
use Rattle.std.proofs.lemmas.Bool.{true≢false}
use Rattle.std.proofs.lemmas.Option.{none-some, same_Some}
use Rattle.dj_names.specs.trusted.Types.{Name}
use Rattle.dj_names.specs.trusted.Library.{int, long}
use Rattle.dj_names.specs.declared.native.NativeId.TheVariants as natives
use Rattle.dj_model.specs.trusted.Program.{Program, Class, Field, Method, Abstract, Native}
use Rattle.dj_model.specs.trusted.Linking.{most_classes, FoundMethod, FoundField, place_of}
use Rattle.dj_model.specs.SmallRuns.{class_with, field_with, method_with, code}
use Rattle.dj_class_table.specs.declared.place.Place.{Place}
use Rattle.dj_resolution.specs.Numbers.{numbers_up}
use Rattle.dj_numbering.specs.declared.heights.Height.{Height}
use Rattle.dj_numbering.specs.declared.members.Members.{Members}
use Rattle.dj_numbering.specs.declared.members.MemberStarts.{MemberStarts}
use Rattle.dj_numbering.specs.Typed.{Typed, begins_array, ArePlain}
use Rattle.dj_numbering.specs.Members.{all_methods, all_fields, methods_in, fields_in, field_number, found_method_number, found_field_number, method_of_class, field_of_class, IsMethodPlace, IsFieldPlace, native_at}
use Rattle.dj_numbering.specs.Numbered.{counts_of, AreStarts, AreCounted, IsBegun, IsStartOf, AreMemberClasses, fields_of_numbers, fields_up, AreSums, IsHeight, height_at, AddsTo, AreHeights, AreMembers, AreObjectPlaces}

-- ---- a program

abbrev runs : Name → Method
runs name = method_with 1 name [] None (code [] [])

abbrev x_field : Field
x_field = field_with 1 (codes "x") int None

-- a static one
abbrev s_field : Field
s_field = field_with 9 (codes "s") int None

abbrev a_class : Class
a_class = record (class_with (codes "A") (x_field ∷ s_field ∷ []) (runs (codes "m") ∷ runs (codes "n") ∷ [])) { superclass = None }

abbrev b_class : Class
b_class = record (class_with (codes "B") (x_field ∷ []) (runs (codes "m") ∷ [])) { superclass = Some (codes "A") }

abbrev program : Program
program = a_class ∷ b_class ∷ []

abbrev typed : Typed
typed = record { program = program; prefix = []; arrays = [] }

-- ---- numbers of members

counts : (counts_of methods_in (b_class ∷ a_class ∷ []) ≡ 1 ∷ 2 ∷ []) × (counts_of fields_in program ≡ 2 ∷ 1 ∷ [])
counts = (refl, refl)

starts : AreStarts (2 ∷ 1 ∷ []) (0 ∷ 2 ∷ [])
starts = record { long = refl; each = each } where
  each : (k : ℕ) → k < 2 → get_or (0 ∷ 2 ∷ []) k 0 ≡ sum (take k (2 ∷ 1 ∷ []))
  each zero lt = refl
  each (suc zero) lt = refl
  each (suc (suc k)) lt = absurd (omega (arith, lt))

-- a class's own aren't counted, and each class has a start
own_counted : AreStarts (2 ∷ 1 ∷ []) (2 ∷ 3 ∷ []) → ⊥
own_counted are = let e : 2 ≡ 0 = are.each 0 (omega arith) in omega (arith, e)

of_class_alone : AreStarts (2 ∷ 1 ∷ 1 ∷ []) (0 ∷ 2 ∷ 1 ∷ []) → ⊥
of_class_alone are = let e : 1 ≡ 3 = are.each 2 (omega arith) in omega (arith, e)

start_left_out : AreStarts (2 ∷ 1 ∷ []) (0 ∷ []) → ⊥
start_left_out are = let e : 1 ≡ 2 = are.long in omega (arith, e)

module _ (s : MemberStarts) (each_is : s.each.items ≡ 0 ∷ 2 ∷ []) where
  counted : s.total ≡ 3 → AreCounted (2 ∷ 1 ∷ []) s
  counted total = record { are = subst (λ (xs : List ℕ). AreStarts (2 ∷ 1 ∷ []) xs) (sym each_is) starts; total = total }

  last_left_out : s.total ≡ 2 → AreCounted (2 ∷ 1 ∷ []) s → ⊥
  last_left_out total are = let e : s.total ≡ 3 = are.total in omega (arith, total, e)

  of_other_counts : AreCounted (1 ∷ 2 ∷ []) s → ⊥
  of_other_counts are =
      let e : 2 ≡ 1 = ap (λ (xs : List ℕ). get_or xs 1 0) (sym each_is) ∙ are.are.each 1 (omega arith) in
      omega (arith, e)

begun : IsBegun (0 ∷ 2 ∷ []) 0 × IsBegun (0 ∷ 2 ∷ []) 5
begun = (record { some = omega arith; first = omega arith }, record { some = omega arith; first = omega arith })

none_begun : IsBegun [] 0 → ⊥
none_begun begun = let some : 0 < 0 = begun.some in omega (arith, some)

begun_later : IsBegun (1 ∷ 2 ∷ []) 0 → ⊥
begun_later begun = let first : 1 ≤ 0 = begun.first in omega (arith, first)

abbrev at : ℕ → ℕ → Place
at class member = record { class = class; member = member }

-- a class without members is passed over, and the last one has no end
start_of : IsStartOf (0 ∷ 2 ∷ 2 ∷ []) 1 (at 0 1) × IsStartOf (0 ∷ 2 ∷ 2 ∷ []) 2 (at 2 0) × IsStartOf (0 ∷ 2 ∷ 2 ∷ []) 9 (at 2 7)
start_of = (
  record { there = omega arith; reached = refl; before = λ next. omega arith },
  record { there = omega arith; reached = refl; before = λ next. absurd (omega (arith, next)) },
  record { there = omega arith; reached = refl; before = λ next. absurd (omega (arith, next)) },
)

in_class_before : IsStartOf (0 ∷ 2 ∷ 2 ∷ []) 2 (at 0 2) → ⊥
in_class_before is = let before : 2 < 2 = is.before (omega arith) in omega (arith, before)

in_empty_class : IsStartOf (0 ∷ 2 ∷ 2 ∷ []) 2 (at 1 0) → ⊥
in_empty_class is = let before : 2 < 2 = is.before (omega arith) in omega (arith, before)

other_member : IsStartOf (0 ∷ 2 ∷ 2 ∷ []) 1 (at 0 0) → ⊥
other_member is = let e : 0 ≡ 1 = is.reached in omega (arith, e)

past_classes : IsStartOf (0 ∷ 2 ∷ 2 ∷ []) 0 (at 3 0) → ⊥
past_classes is = let there : 3 < 3 = is.there in omega (arith, there)

classes_of : AreMemberClasses (0 ∷ 2 ∷ []) (0 ∷ 0 ∷ 1 ∷ [])
classes_of = record { each = each } where
  each : (number : ℕ) → number < 3 → IsStartOf (0 ∷ 2 ∷ []) number (at (get_or (0 ∷ 0 ∷ 1 ∷ []) number 0) (number - get_or (0 ∷ 2 ∷ []) (get_or (0 ∷ 0 ∷ 1 ∷ []) number 0) 0))
  each zero lt = record { there = omega arith; reached = refl; before = λ next. omega arith }
  each (suc zero) lt = record { there = omega arith; reached = refl; before = λ next. omega arith }
  each (suc (suc zero)) lt = record { there = omega arith; reached = refl; before = λ next. absurd (omega (arith, next)) }
  each (suc (suc (suc k))) lt = absurd (omega (arith, lt))

class_too_early : AreMemberClasses (0 ∷ 2 ∷ []) (0 ∷ 1 ∷ 1 ∷ []) → ⊥
class_too_early are = let e : 2 ≡ 1 = (are.each 1 (omega arith)).reached in omega (arith, e)

class_too_late : AreMemberClasses (0 ∷ 2 ∷ []) (0 ∷ 0 ∷ 0 ∷ []) → ⊥
class_too_late are = let before : 2 < 2 = (are.each 2 (omega arith)).before (omega arith) in omega (arith, before)

-- ---- instance fields

-- static ones aren't counted; those without names are
of_numbers : map (fields_of_numbers (a_class ∷ record b_class { unnamed_fields = 3 } ∷ [])) ([] ∷ (0 ∷ []) ∷ (1 ∷ []) ∷ (1 ∷ 0 ∷ []) ∷ (9 ∷ []) ∷ []) ≡ 0 ∷ 1 ∷ 4 ∷ 5 ∷ 0 ∷ []
of_numbers = refl

upward : map (fields_up program) (0 ∷ 1 ∷ 2 ∷ []) ≡ 1 ∷ 2 ∷ 0 ∷ []
unfolding most_classes numbers_up
upward = refl

sums : AreSums program (1 ∷ 2 ∷ [])
unfolding most_classes numbers_up
sums = record { long = refl; each = each } where
  each : (k : ℕ) → k < 2 → get_or (1 ∷ 2 ∷ []) k 0 ≡ fields_up program k
  each zero lt = refl
  each (suc zero) lt = refl
  each (suc (suc k)) lt = absurd (omega (arith, lt))

inherited_left_out : AreSums program (1 ∷ 1 ∷ []) → ⊥
unfolding most_classes numbers_up
inherited_left_out are = let e : 1 ≡ 2 = are.each 1 (omega arith) in omega (arith, e)

static_counted : AreSums program (2 ∷ 3 ∷ []) → ⊥
unfolding most_classes numbers_up
static_counted are = let e : 2 ≡ 1 = are.each 0 (omega arith) in omega (arith, e)

sum_left_out : AreSums program (1 ∷ []) → ⊥
sum_left_out are = let e : 1 ≡ 2 = are.long in omega (arith, e)

abbrev height : ℕ → ℕ → Height
height fields levels = record { fields = fields; levels = levels }

none_above : (n : ℕ) → numbers_up n program None ≡ []
unfolding numbers_up
none_above zero = refl
none_above (suc n) = refl

height_of_b : IsHeight program (Some 1) (height 2 2)
unfolding numbers_up
height_of_b = record { same = same; few = omega arith } where
  same : (n : ℕ) → fields_of_numbers program (numbers_up (n + 2) program (Some 1)) ≡ 2
  same n =
      let more : n + 2 ≡ suc (suc n) = omega arith in
      ap (λ (k : ℕ). fields_of_numbers program (numbers_up k program (Some 1))) more ∙ ap (λ (ks : List ℕ). fields_of_numbers program (1 ∷ 0 ∷ ks)) (none_above n)

-- not with fewer levels, and not without what is inherited
too_few_levels : IsHeight program (Some 1) (height 1 1) → ⊥
unfolding numbers_up
too_few_levels is = let e : 2 ≡ 1 = is.same 1 in omega (arith, e)

own_alone : IsHeight program (Some 1) (height 1 2) → ⊥
unfolding numbers_up
own_alone is = let e : 2 ≡ 1 = is.same 0 in omega (arith, e)

heights_at : map (height_at (Some (height 1 1) ∷ None ∷ [])) (None ∷ Some 0 ∷ Some 1 ∷ Some 2 ∷ []) ≡ Some (height 0 0) ∷ Some (height 1 1) ∷ None ∷ None ∷ []
heights_at = refl

adds : AddsTo (height 1 1) 1 (height 2 2)
adds = record { fields_are = refl; levels_are = refl; few = omega arith }

no_level : AddsTo (height 1 1) 1 (height 2 1) → ⊥
no_level adds = let e : 1 ≡ 2 = adds.levels_are in omega (arith, e)

no_field : AddsTo (height 1 1) 1 (height 1 2) → ⊥
no_field adds = let e : 1 ≡ 2 = adds.fields_are in omega (arith, e)

known : AreHeights program (None ∷ Some (height 2 2) ∷ [])
known = record { long = refl; each = each } where
  each : (k : ℕ) (h : Height) → get_or (None ∷ Some (height 2 2) ∷ []) k None ≡ Some h → IsHeight program (Some k) h
  each zero h e = absurd (none-some h e)
  each (suc zero) h e = subst (λ (x : Height). IsHeight program (Some 1) x) (same_Some (height 2 2) h e) height_of_b
  each (suc (suc k)) h e = absurd (none-some h e)

known_wrongly : AreHeights program (None ∷ Some (height 1 1) ∷ []) → ⊥
known_wrongly are = too_few_levels (are.each 1 (height 1 1) refl)

height_left_out : AreHeights program (Some (height 1 1) ∷ []) → ⊥
height_left_out are = let e : 1 ≡ 2 = are.long in omega (arith, e)

-- ---- all of it

module _ (m : Members) (starts_is : m.method_starts.items ≡ 0 ∷ 2 ∷ []) (field_starts_is : m.field_starts.items ≡ 0 ∷ 2 ∷ []) (sums_is : m.field_sums.items ≡ 1 ∷ 2 ∷ []) where
  members : m.method_classes.items ≡ 0 ∷ 0 ∷ 1 ∷ [] → m.field_classes.items ≡ 0 ∷ 0 ∷ 1 ∷ [] → AreMembers program m
  unfolding all_methods all_fields
  members classes_is field_classes_is = record {
    methods = subst (λ (xs : List ℕ). AreStarts (2 ∷ 1 ∷ []) xs) (sym starts_is) starts;
    fields = subst (λ (xs : List ℕ). AreStarts (2 ∷ 1 ∷ []) xs) (sym field_starts_is) starts;
    all_methods_there = ap length classes_is;
    all_fields_there = ap length field_classes_is;
    method_classes = both m.method_starts.items m.method_classes.items starts_is classes_is;
    field_classes = both m.field_starts.items m.field_classes.items field_starts_is field_classes_is;
    sums = subst (λ (xs : List ℕ). AreSums program xs) (sym sums_is) sums;
    few_methods = omega arith;
    few_fields = omega arith;
  } where
    both : (ss cs : List ℕ) → ss ≡ 0 ∷ 2 ∷ [] → cs ≡ 0 ∷ 0 ∷ 1 ∷ [] → AreMemberClasses ss cs
    both ss cs ss_is cs_is =
        subst (λ (xs : List ℕ). AreMemberClasses xs cs) (sym ss_is) (subst (λ (xs : List ℕ). AreMemberClasses (0 ∷ 2 ∷ []) xs) (sym cs_is) classes_of)

  -- not where a method or a field has no class, or that of another one
  method_left_out : m.method_classes.items ≡ 0 ∷ 0 ∷ [] → AreMembers program m → ⊥
  unfolding all_methods
  method_left_out is are = let e : 2 ≡ 3 = sym (ap length is) ∙ are.all_methods_there in omega (arith, e)

  field_left_out : m.field_classes.items ≡ 0 ∷ 0 ∷ [] → AreMembers program m → ⊥
  unfolding all_fields
  field_left_out is are = let e : 2 ≡ 3 = sym (ap length is) ∙ are.all_fields_there in omega (arith, e)

  method_of_other : m.method_classes.items ≡ 0 ∷ 1 ∷ 1 ∷ [] → AreMembers program m → ⊥
  method_of_other is are =
      class_too_early (subst (λ (xs : List ℕ). AreMemberClasses xs (0 ∷ 1 ∷ 1 ∷ [])) starts_is (subst (λ (xs : List ℕ). AreMemberClasses m.method_starts.items xs) is are.method_classes))

  field_of_other : m.field_classes.items ≡ 0 ∷ 1 ∷ 1 ∷ [] → AreMembers program m → ⊥
  field_of_other is are =
      class_too_early (subst (λ (xs : List ℕ). AreMemberClasses xs (0 ∷ 1 ∷ 1 ∷ [])) field_starts_is (subst (λ (xs : List ℕ). AreMemberClasses m.field_starts.items xs) is are.field_classes))

sums_of_none : (m : Members) → m.field_sums.items ≡ 1 ∷ 1 ∷ [] → AreMembers program m → ⊥
sums_of_none m is are = inherited_left_out (subst (λ (xs : List ℕ). AreSums program xs) is are.sums)

method_starts_of_none : (m : Members) → m.method_starts.items ≡ 2 ∷ 3 ∷ [] → AreMembers program m → ⊥
method_starts_of_none m is are = own_counted (subst (λ (xs : List ℕ). AreStarts (2 ∷ 1 ∷ []) xs) is are.methods)

field_starts_of_none : (m : Members) → m.field_starts.items ≡ 2 ∷ 3 ∷ [] → AreMembers program m → ⊥
field_starts_of_none m is are = own_counted (subst (λ (xs : List ℕ). AreStarts (2 ∷ 1 ∷ []) xs) is are.fields)

-- ---- places

places : IsMethodPlace typed 1 (at 0 1) × IsMethodPlace typed 2 (at 1 0) × IsFieldPlace typed 1 (at 0 1) × IsFieldPlace typed 2 (at 1 0)
unfolding all_methods all_fields
places = (
  record { within = omega arith; is = refl },
  record { within = omega arith; is = refl },
  record { within = omega arith; is = refl },
  record { within = omega arith; is = refl },
)

past_last : (number : ℕ) → IsMethodPlace typed number (at 0 2) → ⊥
past_last number place = let within : 2 < 2 = place.within in omega (arith, within)

not_counted : IsMethodPlace typed 0 (at 1 0) → ⊥
unfolding all_methods
not_counted place = let e : 0 ≡ 2 = place.is in omega (arith, e)

field_past_last : (number : ℕ) → IsFieldPlace typed number (at 1 1) → ⊥
field_past_last number place = let within : 1 < 1 = place.within in omega (arith, within)

field_not_counted : IsFieldPlace typed 0 (at 1 0) → ⊥
unfolding all_fields
field_not_counted place = let e : 0 ≡ 2 = place.is in omega (arith, e)

-- ---- numbers of what is found

abbrev found_field : Name → Field → FoundField
found_field class field = record { class = class; field = field }

abbrev found_method : Name → Method → FoundMethod
found_method class method = record { class = class; method = method }

-- of B's x the one of B, of another descriptor none, and of what isn't found none
field_numbers : map (found_field_number program) (
    Some (found_field (codes "A") x_field)
    ∷ Some (found_field (codes "B") x_field)
    ∷ Some (found_field (codes "A") s_field)
    ∷ Some (found_field (codes "B") s_field)
    ∷ Some (found_field (codes "A") (field_with 1 (codes "x") long None))
    ∷ None
    ∷ []
    ) ≡ Some 0 ∷ Some 2 ∷ Some 1 ∷ None ∷ None ∷ None ∷ []
unfolding all_fields
field_numbers = refl

method_numbers : map (found_method_number program) (
    Some (found_method (codes "A") (runs (codes "m")))
    ∷ Some (found_method (codes "B") (runs (codes "m")))
    ∷ Some (found_method (codes "A") (runs (codes "n")))
    ∷ Some (found_method (codes "B") (runs (codes "n")))
    ∷ Some (found_method (codes "A") (method_with 1 (codes "m") (int ∷ []) None (code [] [])))
    ∷ None
    ∷ []
    ) ≡ Some 0 ∷ Some 2 ∷ Some 1 ∷ None ∷ None ∷ None ∷ []
unfolding all_methods
method_numbers = refl

-- of fields that are repeated the first place
first_field : field_number (found_field (codes "A") s_field ∷ found_field (codes "B") x_field ∷ found_field (codes "B") (field_with 9 (codes "x") int None) ∷ []) (found_field (codes "B") (field_with 9 (codes "x") int None)) ≡ Some 1
first_field = refl

members_of_class : (map (λ (k : ℕ). method_of_class k a_class) (1 ∷ 2 ∷ []) ≡ Some (found_method (codes "A") (runs (codes "n"))) ∷ None ∷ [])
    × (map (λ (k : ℕ). field_of_class k a_class) (0 ∷ 2 ∷ []) ≡ Some (found_field (codes "A") x_field) ∷ None ∷ [])
members_of_class = (refl, refl)

-- ---- methods of the library

abbrev with_native : Program
with_native = a_class ∷ class_with (codes "N") [] (method_with 1025 (codes "a") [] None Abstract ∷ method_with 257 (codes "h") [] (Some int) (Native natives.ObjectHashCode) ∷ []) ∷ []

natives_at : map (native_at with_native) (0 ∷ 2 ∷ 3 ∷ 4 ∷ []) ≡ None ∷ None ∷ Some natives.ObjectHashCode ∷ None ∷ []
unfolding all_methods
natives_at = refl

-- ---- names of classes

arrays_begin : map begins_array (codes "[I" ∷ codes "A" ∷ codes "a[" ∷ [] ∷ []) ≡ true ∷ false ∷ false ∷ false ∷ []
arrays_begin = refl

plain : ArePlain program
plain zero name at = ap begins_array (sym (same_Some (codes "A") name at))
plain (suc zero) name at = ap begins_array (sym (same_Some (codes "B") name at))
plain (suc (suc k)) name at = absurd (none-some name at)

bracket_in_name : ArePlain (a_class ∷ record b_class { name = codes "[I" } ∷ []) → ⊥
bracket_in_name plain = true≢false (plain 1 (codes "[I") refl)

-- ---- places in objects

object_places_of_none : AreObjectPlaces [] []
unfolding all_fields
object_places_of_none = record { long = refl; each = λ k lt. absurd (omega (arith, lt)) }

-- a place isn't one more than the model's
one_place_more : (n : ℕ) → Some n ≡ option_map (place_of program) (slice_get (all_fields program) 0) → AreObjectPlaces program ((n + 1) ∷ 1 ∷ 1 ∷ []) → ⊥
unfolding all_fields
one_place_more n is are = let e : n + 1 ≡ n = same_Some (n + 1) n (are.each 0 (omega arith) ∙ sym is) in omega (arith, e)

-- and each field has a place
object_place_left_out : AreObjectPlaces program (0 ∷ 1 ∷ []) → ⊥
unfolding all_fields
object_place_left_out are = let e : 2 ≡ 3 = are.long in omega (arith, e)
