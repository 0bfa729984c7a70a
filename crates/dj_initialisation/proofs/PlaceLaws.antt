-- Places of static fields as they are counted are those of the model.
use Rattle.std.proofs.Common.{◌≡◌, ℕ, zero, suc, ◌+◌, ◌<◌, ◌≤◌, ◌&&◌, ◌||◌, Bool, true, false, not, List, [], ◌∷◌, ◌++◌, map, length, take, Option, Some, None, refl, sym, ap, subst, ◌∙◌, arith, inl, inr, if◌then◌else◌, append_assoc, append-nil}
use Rattle.std.specs.Prelude.{slice_get, Contains}
use Rattle.std.specs.Option.{option_map}
use Rattle.std.specs.List.{flat_map, list_any}
use Rattle.std.proofs.lemmas.Bool.{and_parts, false≢true}
use Rattle.std.proofs.lemmas.List.{map-append, length-map, take_more, take_all}
use Rattle.std.specs.List.Sorted.{IsStrictlySortedBy}
use Rattle.std.proofs.lemmas.Option.{none-some, same_Some, slice_get-map, get_or_from_slice_get, slice_get_within}
use Rattle.dj_names.specs.trusted.Types.{Name, same_name, same_desc}
use Rattle.dj_names.specs.declared.descriptor.Desc.{Desc}
use Rattle.dj_model.specs.trusted.Program.{Program, Class, Field, fields_of, is_named, is_static}
use Rattle.dj_model.specs.trusted.Linking.{FoundField, count_fields, fields_before, static_place, place_of_static, static_count}
use Rattle.dj_model.specs.Sound.{IsProgram, fields_differ}
use Rattle.dj_model.proofs.MappedNames.{either}
use Rattle.dj_declarations.proofs.DescTests.{same_name_is, same_name_itself, same_desc_is, same_desc_itself}
use Rattle.dj_class_table.specs.Tables.{name_at, fields_at}
use Rattle.dj_class_table.specs.ClassRows.{RiseStrictly}
use Rattle.dj_class_table.proofs.Orders.{not_same_if_less, rise-from_names_rise}
use Rattle.dj_class_table.proofs.Shared.{first_differs}
use Rattle.dj_class_table.proofs.Numbered.{class_number-rise}
use Rattle.dj_resolution.proofs.Resolution.{DoNamesDiffer}
use Rattle.dj_numbering.specs.Members.{all_fields, fields_in}
use Rattle.dj_initialisation.specs.Places.{Places, ArePlaces, AreCounted, IsCounted, places_from, all_places, one_if_static}
use Rattle.dj_initialisation.proofs.Members.{found_field}

abbrev one : Field → ℕ
one f = count_fields true (f ∷ [])

past : {A : Type 0} (xs : List A) (k : ℕ) → slice_get xs k ≡ None → length xs ≤ k
past [] k e = omega arith
past (x ∷ xs) zero e = absurd (none-some x (sym e))
past (x ∷ xs) (suc k) e = let later = past xs k e in omega (arith, later)

-- ---- counts

count_one : (f : Field) (fields : List Field) → count_fields true (f ∷ fields) ≡ one f + count_fields true fields
count_one f fields = by (is_static f.flags) where
  by : (b : Bool) → (if b then 1 + count_fields true fields else count_fields true fields) ≡ (if b then 1 + 0 else 0) + count_fields true fields
  by true = omega arith
  by false = omega arith

pub count_push : (fields : List Field) (f : Field) → count_fields true (fields ++ f ∷ []) ≡ count_fields true fields + one f
count_push [] f = sym (let e : 0 + one f ≡ one f = omega arith in e)
count_push (g ∷ fields) f =
    let a = count_one g (fields ++ f ∷ []) in
    let b = count_one g fields in
    let later = count_push fields f in
    omega (arith, a, b, later)

pub places_push : (n : ℕ) (fields : List Field) (f : Field) → places_from n (fields ++ f ∷ []) ≡ places_from n fields ++ (n + count_fields true fields) ∷ []
places_push n [] f = let e : n ≡ n + 0 = omega arith in ap (λ (k : ℕ). k ∷ []) e
places_push n (g ∷ fields) f =
    let e : (n + one g) + count_fields true fields ≡ n + count_fields true (g ∷ fields) = (let a = count_one g fields in omega (arith, a)) in
    ap (λ (ks : List ℕ). n ∷ ks) (places_push (n + one g) fields f ∙ ap (λ (k : ℕ). places_from (n + one g) fields ++ k ∷ []) e)

places_more : (m n : ℕ) (fields : List Field) → places_from (m + n) fields ≡ map (λ k. m + k) (places_from n fields)
places_more m n [] = refl
places_more m n (f ∷ fields) =
    let e : (m + n) + one f ≡ m + (n + one f) = omega arith in
    ap (λ (ks : List ℕ). (m + n) ∷ ks) (ap (λ (k : ℕ). places_from k fields) e ∙ places_more m (n + one f) fields)

all_places_more : (m n : ℕ) (program : Program) → all_places (m + n) program ≡ map (λ k. m + k) (all_places n program)
all_places_more m n [] = refl
all_places_more m n (c ∷ classes) =
    let e : (m + n) + count_fields true c.fields ≡ m + (n + count_fields true c.fields) = omega arith in
    ap (λ (ks : List ℕ). ks ++ all_places ((m + n) + count_fields true c.fields) classes) (places_more m n c.fields)
    ∙ ap (λ (ks : List ℕ). map (λ k. m + k) (places_from n c.fields) ++ ks) (ap (λ (k : ℕ). all_places k classes) e ∙ all_places_more m (n + count_fields true c.fields) classes)
    ∙ sym (map-append (λ k. m + k) (places_from n c.fields) (all_places (n + count_fields true c.fields) classes))

-- ---- the loop over classes

pub static_count-push : (program : Program) (c : Class) → static_count (program ++ c ∷ []) ≡ static_count program + count_fields true c.fields
static_count-push [] c = omega arith
static_count-push (d ∷ program) c = let later = static_count-push program c in omega (arith, later)

pub all_places-push : (n : ℕ) (program : Program) (c : Class) → all_places n (program ++ c ∷ []) ≡ all_places n program ++ places_from (n + static_count program) c.fields
all_places-push n [] c =
    let e : n ≡ n + 0 = omega arith in
    append-nil (places_from n c.fields) ∙ ap (λ (k : ℕ). places_from k c.fields) e
all_places-push n (d ∷ program) c =
    let e : (n + count_fields true d.fields) + static_count program ≡ n + static_count (d ∷ program) = omega arith in
    ap (λ (ks : List ℕ). places_from n d.fields ++ ks)
    (all_places-push (n + count_fields true d.fields) program c
    ∙ ap (λ (k : ℕ). all_places (n + count_fields true d.fields) program ++ places_from k c.fields) e)
    ∙ sym (append_assoc (places_from n d.fields) (all_places (n + count_fields true d.fields) program) (places_from (n + static_count (d ∷ program)) c.fields))

-- ---- of one class

-- where the first is the field that is looked for the later one would be named like it
apart : (f g : Field) → is_named f.name f.desc g.name g.desc ≡ false → is_named g.name g.desc f.name f.desc ≡ false
apart f g differ = elim (either (is_named g.name g.desc f.name f.desc)) [
  | inl e ↦
      (let parts = and_parts (same_name f.name g.name) (same_desc f.desc g.desc) e in
      let name : f.name ≡ g.name = same_name_is f.name g.name parts.0 in
      let desc : f.desc ≡ g.desc = same_desc_is f.desc g.desc parts.1 in
      let same : is_named f.name f.desc g.name g.desc ≡ true =
      ap (λ (b : Bool). b && same_desc g.desc f.desc) (same_name_itself g.name f.name (sym name))
      ∙ (ap (λ (d : Desc). same_desc g.desc d) desc ∙ same_desc_itself g.desc) in
      absurd (false≢true (sym differ ∙ same)))
  | inr e ↦ e
]

is_itself : (f : Field) → is_named f.name f.desc f.name f.desc ≡ true
is_itself f = ap (λ (b : Bool). b && same_desc f.desc f.desc) (same_name_itself f.name f.name refl) ∙ same_desc_itself f.desc

before_one : (g : Field) (fields : List Field) (f : Field) → is_named f.name f.desc g.name g.desc ≡ false
    → fields_before true f.name f.desc (g ∷ fields) ≡ one g + fields_before true f.name f.desc fields
before_one g fields f differ = ap (λ (b : Bool). if b then 0 else one g + fields_before true f.name f.desc fields) differ

none_like : (g : Field) (whole : List Field) (fields : List Field) → not (list_any (λ other. is_named g.name g.desc other.name other.desc) fields) ≡ true
    → map (λ f. fields_before true f.name f.desc (g ∷ whole)) fields ≡ map (λ k. one g + k) (map (λ f. fields_before true f.name f.desc whole) fields)
none_like g whole [] none = refl
none_like g whole (f ∷ fields) none = by (is_named g.name g.desc f.name f.desc) refl (λ k. none_like g whole fields k) none where
  by : (b : Bool) → is_named g.name g.desc f.name f.desc ≡ b
      → (not (list_any (λ other. is_named g.name g.desc other.name other.desc) fields) ≡ true
      → map (λ f. fields_before true f.name f.desc (g ∷ whole)) fields ≡ map (λ k. one g + k) (map (λ f. fields_before true f.name f.desc whole) fields))
      → not (b || list_any (λ other. is_named g.name g.desc other.name other.desc) fields) ≡ true
      → map (λ f. fields_before true f.name f.desc (g ∷ whole)) (f ∷ fields) ≡ map (λ k. one g + k) (map (λ f. fields_before true f.name f.desc whole) (f ∷ fields))
  by true is later none = absurd (false≢true none)
  by false is later none =
      ap (λ (k : ℕ). k ∷ map (λ f. fields_before true f.name f.desc (g ∷ whole)) fields) (before_one g whole f (apart g f is))
      ∙ ap (λ (ks : List ℕ). (one g + fields_before true f.name f.desc whole) ∷ ks) (later none)

pub places_of_class : (fields : List Field) → fields_differ fields ≡ true → map (λ f. fields_before true f.name f.desc fields) fields ≡ places_from 0 fields
places_of_class [] differ = refl
places_of_class (g ∷ fields) differ =
    let parts = and_parts (not (list_any (λ other. is_named g.name g.desc other.name other.desc) fields)) (fields_differ fields) differ in
    let e : one g + 0 ≡ 0 + one g = omega arith in
    ap (λ (b : Bool). (if b then 0 else one g + fields_before true g.name g.desc fields) ∷ map (λ f. fields_before true f.name f.desc (g ∷ fields)) fields) (is_itself g)
    ∙ ap (λ (ks : List ℕ). 0 ∷ ks)
    (none_like g fields fields parts.0 ∙ ap (map (λ k. one g + k)) (places_of_class fields parts.1) ∙ sym (places_more (one g) 0 fields) ∙ ap (λ (k : ℕ). places_from k fields) e)

-- ---- of all classes

-- each of these classes has another name
abbrev DiffersFrom : Name → Program → Type 0
DiffersFrom name classes = (k : ℕ) (other : Name) → name_at classes k ≡ Some other → same_name name other ≡ false

here_of : (c : Class) (classes : Program) (fields : List Field)
    → map (place_of_static (c ∷ classes)) (map (found_field c) fields) ≡ map (λ f. fields_before true f.name f.desc c.fields) fields
unfolding static_place
here_of c classes [] = refl
here_of c classes (f ∷ fields) =
    ap (λ (b : Bool). (if b then fields_before true f.name f.desc c.fields else count_fields true c.fields + static_place classes c.name f.name f.desc)
    ∷ map (place_of_static (c ∷ classes)) (map (found_field c) fields)) (same_name_itself c.name c.name refl)
    ∙ ap (λ (ks : List ℕ). fields_before true f.name f.desc c.fields ∷ ks) (here_of c classes fields)

later_of : (c d : Class) (classes : Program) (fields : List Field) → same_name c.name d.name ≡ false
    → map (place_of_static (c ∷ classes)) (map (found_field d) fields) ≡ map (λ k. count_fields true c.fields + k) (map (place_of_static classes) (map (found_field d) fields))
unfolding static_place
later_of c d classes [] differ = refl
later_of c d classes (f ∷ fields) differ =
    ap (λ (b : Bool). (if b then fields_before true f.name f.desc c.fields else count_fields true c.fields + static_place classes d.name f.name f.desc)
    ∷ map (place_of_static (c ∷ classes)) (map (found_field d) fields)) differ
    ∙ ap (λ (ks : List ℕ). (count_fields true c.fields + static_place classes d.name f.name f.desc) ∷ ks) (later_of c d classes fields differ)

later_all : (c : Class) (whole classes : Program) → DiffersFrom c.name classes
    → map (place_of_static (c ∷ whole)) (flat_map fields_in classes) ≡ map (λ k. count_fields true c.fields + k) (map (place_of_static whole) (flat_map fields_in classes))
later_all c whole [] differ = refl
later_all c whole (d ∷ classes) differ =
    map-append (place_of_static (c ∷ whole)) (fields_in d) (flat_map fields_in classes)
    ∙ ap (λ (ks : List ℕ). ks ++ map (place_of_static (c ∷ whole)) (flat_map fields_in classes)) (later_of c d whole d.fields (differ 0 d.name refl))
    ∙ ap (λ (ks : List ℕ). map (λ k. count_fields true c.fields + k) (map (place_of_static whole) (fields_in d)) ++ ks) (later_all c whole classes (λ k. differ (suc k)))
    ∙ sym (map-append (λ k. count_fields true c.fields + k) (map (place_of_static whole) (fields_in d)) (map (place_of_static whole) (flat_map fields_in classes)))
    ∙ ap (map (λ k. count_fields true c.fields + k)) (sym (map-append (place_of_static whole) (fields_in d) (flat_map fields_in classes)))

-- the names differ, and so do the fields of each class
abbrev DoDiffer : Program → Type 0
DoDiffer [] = Unit {0}
DoDiffer (c ∷ classes) = DiffersFrom c.name classes × (fields_differ c.fields ≡ true) × DoDiffer classes

places_of_all : (program : Program) → DoDiffer program → map (place_of_static program) (flat_map fields_in program) ≡ all_places 0 program
places_of_all [] differ = refl
places_of_all (c ∷ classes) differ =
    let e : count_fields true c.fields + 0 ≡ 0 + count_fields true c.fields = omega arith in
    map-append (place_of_static (c ∷ classes)) (fields_in c) (flat_map fields_in classes)
    ∙ ap (λ (ks : List ℕ). ks ++ map (place_of_static (c ∷ classes)) (flat_map fields_in classes)) (here_of c classes c.fields ∙ places_of_class c.fields differ.1)
    ∙ ap (λ (ks : List ℕ). places_from 0 c.fields ++ ks)
    (later_all c classes classes differ.0 ∙ ap (map (λ k. count_fields true c.fields + k)) (places_of_all classes differ.2)
    ∙ sym (all_places_more (count_fields true c.fields) 0 classes) ∙ ap (λ (k : ℕ). all_places k classes) e)

-- so it is in a program that is well formed
rising_differ : (program : Program) → RiseStrictly program → ((k : ℕ) (c : Class) → slice_get program k ≡ Some c → fields_differ c.fields ≡ true) → DoDiffer program
unfolding IsStrictlySortedBy
rising_differ [] rise fields = tt
rising_differ (c ∷ classes) rise fields =
    (λ k other e. not_same_if_less c.name other (first_differs c classes rise k other e), fields 0 c refl, rising_differ classes rise.1 (λ k. fields (suc k)))

contained : (program : Program) (k : ℕ) (c : Class) → slice_get program k ≡ Some c → Contains program c
contained program k c is = (k, slice_get_within program k c is, get_or_from_slice_get program k c c is)

formed_differ : (program : Program) → IsProgram program → DoDiffer program
formed_differ program formed =
    rising_differ program (rise-from_names_rise program formed.names) (λ k c is. (formed.classes c (contained program k c is)).fields)

pub places_are : (program : Program) → IsProgram program → all_places 0 program ≡ map (place_of_static program) (all_fields program)
unfolding all_fields
places_are program formed = sym (places_of_all program (formed_differ program formed))

pub names_differ : (program : Program) → IsProgram program → DoNamesDiffer program
names_differ program formed k name e = class_number-rise program (rise-from_names_rise program formed.names) k name e

-- ---- a static field's place is one of theirs

place_within_class : (n : ℕ) (fields : List Field) (i place : ℕ) (f : Field) → slice_get fields i ≡ Some f → is_static f.flags ≡ true → slice_get (places_from n fields) i ≡ Some place
    → place < n + count_fields true fields
place_within_class n [] i place f at static is = absurd (none-some f at)
place_within_class n (g ∷ fields) zero place f at static is =
    let here : n ≡ place = same_Some n place is in
    let static_g : is_static g.flags ≡ true = ap (λ (x : Field). is_static x.flags) (same_Some g f at) ∙ static in
    let one_is : one g ≡ 1 = ap (λ (b : Bool). if b then 1 + 0 else 0) static_g in
    let all = count_one g fields in
    omega (arith, here, one_is, all)
place_within_class n (g ∷ fields) (suc i) place f at static is =
    let later = place_within_class (n + one g) fields i place f at static is in
    let all = count_one g fields in
    omega (arith, later, all)

places_length : (n : ℕ) (fields : List Field) → length (places_from n fields) ≡ length fields
places_length n [] = refl
places_length n (f ∷ fields) = ap suc (places_length (n + one f) fields)

-- either in the first list, or this many places later in the other
data Split {A B : Type 0} (xs ys : List A) (us vs : List B) (i : ℕ) : Type 0 where
  first : slice_get (xs ++ ys) i ≡ slice_get xs i → slice_get (us ++ vs) i ≡ slice_get us i → Split xs ys us vs i
  second : (j : ℕ) → slice_get (xs ++ ys) i ≡ slice_get ys j → slice_get (us ++ vs) i ≡ slice_get vs j → Split xs ys us vs i

split_at : {A B : Type 0} (xs ys : List A) (us vs : List B) (i : ℕ) → length xs ≡ length us → Split xs ys us vs i
split_at [] ys [] vs i e = second i refl refl
split_at [] ys (u ∷ us) vs i e = absurd (omega (arith, e))
split_at (x ∷ xs) ys [] vs i e = absurd (omega (arith, e))
split_at (x ∷ xs) ys (u ∷ us) vs zero e = first refl refl
split_at (x ∷ xs) ys (u ∷ us) vs (suc i) e = elim (split_at xs ys us vs i (let f : length xs ≡ length us = omega (arith, e) in f)) [
  | first a b ↦ first a b
  | second j a b ↦ second j a b
]

place_within_all : (n : ℕ) (program : Program) (i place : ℕ) (found : FoundField) → slice_get (flat_map fields_in program) i ≡ Some found → is_static found.field.flags ≡ true
    → slice_get (all_places n program) i ≡ Some place → place < n + static_count program
place_within_all n [] i place found at static is = absurd (none-some found at)
place_within_all n (c ∷ classes) i place found at static is =
    elim (split_at (fields_in c) (flat_map fields_in classes) (places_from n c.fields) (all_places (n + count_fields true c.fields) classes) i
    (length-map c.fields (found_field c) ∙ sym (places_length n c.fields))) [
      | first a b ↦
          (let here = by (slice_get c.fields i) refl (sym (slice_get-map (found_field c) c.fields i) ∙ sym a ∙ at) in
          let lt = place_within_class n c.fields i place here.0 here.1 here.2 (sym b ∙ is) in
          omega (arith, lt))
      | second j a b ↦
          (let later = place_within_all (n + count_fields true c.fields) classes j place found (sym a ∙ at) static (sym b ∙ is) in
          omega (arith, later))
    ]
  where
    by : (o : Option Field) → slice_get c.fields i ≡ o → option_map (found_field c) o ≡ Some found → (f : Field) × (slice_get c.fields i ≡ Some f) × (is_static f.flags ≡ true)
    by None is e = absurd (none-some found e)
    by (Some f) is e = (f, is, ap (λ (x : FoundField). is_static x.field.flags) (same_Some (found_field c f) found e) ∙ static)

pub place_within : (program : Program) (places : Places) (i place : ℕ) (found : FoundField) → IsProgram program → ArePlaces program places → slice_get (all_fields program) i ≡ Some found
    → is_static found.field.flags ≡ true → slice_get places.each i ≡ Some place → place < places.count
unfolding all_fields
place_within program places i place found formed are at static is =
    let lt = place_within_all 0 program i place found at static (ap (λ (ks : List ℕ). slice_get ks i) (places_are program formed ∙ sym are.each) ∙ is) in
    let count = are.count in
    omega (arith, lt, count)

-- what is recorded of a field is its place
pub place_reported : (program : Program) (places : Places) (i place : ℕ) (found : FoundField) → ArePlaces program places → slice_get (all_fields program) i ≡ Some found
    → slice_get places.each i ≡ Some place → place ≡ place_of_static program found
place_reported program places i place found are at is =
    same_Some place (place_of_static program found)
    (sym is ∙ ap (λ (ks : List ℕ). slice_get ks i) are.each ∙ slice_get-map (place_of_static program) (all_fields program) i ∙ ap (option_map (place_of_static program)) at)

-- ---- the loops

pub counted_begun : (each : List ℕ) (before : ℕ) → IsCounted [] each before each before
counted_begun each before = record { places = sym (append-nil each); count = omega arith }

pub counted_more : (fields : List Field) (at : ℕ) (f : Field) (each now more : List ℕ) (before count next : ℕ) → slice_get fields at ≡ Some f
    → IsCounted (take at fields) each before now count → more ≡ now ++ count ∷ [] → next ≡ count + one_if_static f.flags → IsCounted (take (at + 1) fields) each before more next
counted_more fields at f each now more before count next is counted pushed one_more = record {
  places = pushed
      ∙ ap (λ (ks : List ℕ). ks ++ count ∷ []) counted.places
      ∙ append_assoc each (places_from before (take at fields)) (count ∷ [])
      ∙ ap (λ (n : ℕ). each ++ (places_from before (take at fields) ++ n ∷ [])) counted.count
      ∙ ap (λ (ks : List ℕ). each ++ ks) (sym (places_push before (take at fields) f))
      ∙ ap (λ (fs : List Field). each ++ places_from before fs) (sym prefix);
  count = one_more ∙ ap (λ (n : ℕ). n + one_if_static f.flags) counted.count ∙ sum (count_fields true (take at fields)) (one f)
      ∙ ap (λ (n : ℕ). before + n) (sym (ap (count_fields true) prefix ∙ count_push (take at fields) f));
} where
  prefix : take (at + 1) fields ≡ take at fields ++ f ∷ []
  prefix = take_more fields at f (slice_get_within fields at f is) ∙ ap (λ (x : Field). take at fields ++ x ∷ []) (get_or_from_slice_get fields at f f is)

  sum : (a b : ℕ) → (before + a) + b ≡ before + (a + b)
  sum a b = omega arith

pub counted_all : (fields : List Field) (at : ℕ) (each now : List ℕ) (before count : ℕ) → length fields ≤ at → IsCounted (take at fields) each before now count → IsCounted fields each before now count
counted_all fields at each now before count end counted = subst (λ (fs : List Field). IsCounted fs each before now count) (take_all at fields end) counted

pub classes_begun : AreCounted [] [] 0
classes_begun = record { places = refl; count = refl }

pub classes_more : (program : Program) (class : ℕ) (each more : List ℕ) (count after : ℕ) → AreCounted (take class program) each count → IsCounted (fields_at program class) each count more after
    → AreCounted (take (class + 1) program) more after
classes_more program class each more count after are is = by (slice_get program class) refl where
  sum : (n : ℕ) → n + 0 ≡ n
  sum n = omega arith

  by : (o : Option Class) → slice_get program class ≡ o → AreCounted (take (class + 1) program) more after
  by None e =
      let end : length program ≤ class = past program class e in
      let same : take (class + 1) program ≡ take class program = take_all (class + 1) program (omega (arith, end)) ∙ sym (take_all class program end) in
      let none : fields_at program class ≡ [] = ap fields_of e in
      record {
        places = is.places ∙ ap (λ (fs : List Field). each ++ places_from count fs) none ∙ append-nil each ∙ are.places ∙ ap (all_places 0) (sym same);
        count = is.count ∙ ap (λ (fs : List Field). count + count_fields true fs) none ∙ sum count ∙ are.count ∙ ap static_count (sym same);
      }
  by (Some c) e =
      let prefix : take (class + 1) program ≡ take class program ++ c ∷ [] =
      take_more program class c (slice_get_within program class c e) ∙ ap (λ (x : Class). take class program ++ x ∷ []) (get_or_from_slice_get program class c c e) in
      let own : fields_at program class ≡ c.fields = ap fields_of e in
      let zero_more : count ≡ 0 + static_count (take class program) = (let t = are.count in omega (arith, t)) in
      record {
        places = is.places ∙ ap (λ (fs : List Field). each ++ places_from count fs) own ∙ ap (λ (ks : List ℕ). ks ++ places_from count c.fields) are.places
            ∙ ap (λ (n : ℕ). all_places 0 (take class program) ++ places_from n c.fields) zero_more ∙ sym (all_places-push 0 (take class program) c) ∙ ap (all_places 0) (sym prefix);
        count = is.count ∙ ap (λ (fs : List Field). count + count_fields true fs) own ∙ ap (λ (n : ℕ). n + count_fields true c.fields) are.count
            ∙ sym (static_count-push (take class program) c) ∙ ap static_count (sym prefix);
      }

pub classes_all : (program : Program) (n : ℕ) (places : Places) → IsProgram program → length program ≤ n → AreCounted (take n program) places.each places.count → ArePlaces program places
classes_all program n places formed end are = record {
  each = are.places ∙ ap (all_places 0) (take_all n program end) ∙ places_are program formed;
  count = are.count ∙ ap static_count (take_all n program end);
}
