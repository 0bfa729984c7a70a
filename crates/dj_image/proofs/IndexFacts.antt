-- What is kept of texts and of constants by their indexes, by plain values.
use Rattle.std.proofs.Common.{◌≡◌, ℕ, zero, suc, ◌<◌, ◌*◌, true, false, nat_eq, if◌then◌else◌, List, [], ◌∷◌, map, Option, Some, None, slice_get, option_and_then, refl, ap, codes, pos, arith}
use Rattle.std.specs.Global.{Vec}
use Rattle.std.proofs.lemmas.Option.{same_Some}
use Rattle.dj_names.specs.declared.descriptor.Base.TheVariants as bases
use Rattle.dj_names.specs.trusted.Tests.{units_read}
use Rattle.dj_names.specs.trusted.Types.{class_type, base_array, array_type}
use Rattle.dj_names.specs.trusted.UnitReading.{unit_read, long_read, two_read}
use Rattle.dj_pool.specs.trusted.Pool.{Constant, Utf8, Integer, Class, Text, Field, Method, NameAndType}
use Rattle.dj_model.specs.trusted.Program as programs
use Rattle.dj_program.specs.trusted.Naming.{units_in}
use Rattle.dj_numbering.specs.Typed.{Typed}
use Rattle.dj_image.specs.Operands.{units_number}
use Rattle.dj_image.specs.Indexed.{Holds, text_class, is_array, array_text, text_array, text_place, number_kept, class_index, kept_class, kept_array}
use Rattle.dj_image.specs.Homes.{home_by, kept_home, IsHome, IsDescribed}
use Rattle.dj_image.specs.Taken.{entry_kept, class_at_index, named_kept, caught_kept}

-- 2 the class A, 4 the arrays of ints, 6 a class that isn't there, 8 a field of A, 9 a method of the arrays of ints, 10 an int, 11 and 12 the text s
abbrev pool : List Constant
pool =
    Utf8 (codes "A") ∷ Class 1 ∷ Utf8 (codes "[I") ∷ Class 3 ∷ Utf8 (codes "C") ∷ Class 5 ∷ NameAndType 1 3 ∷ Field 2 7 ∷ Method 4 7 ∷ Integer (pos 7) ∷ Utf8 (codes "s") ∷ Text 11 ∷ []

abbrev class_a : programs.Class
class_a = record {
  name = codes "A";
  flags = 0;
  superclass = None;
  interfaces = [];
  unnamed_fields = 0;
  fields = [];
  methods = [];
}

-- A is number 0, the arrays of ints 1, those of A 2, and those of arrays of ints 3
abbrev types : Typed
types = record {
  program = class_a ∷ [];
  prefix = [];
  arrays = base_array bases.Int ∷ array_type (class_type (codes "A")) ∷ array_type (base_array bases.Int) ∷ [];
}

-- ---- texts

arrays_reported : map is_array ([] ∷ codes "A" ∷ codes "[I" ∷ codes "I[" ∷ []) ≡ false ∷ false ∷ true ∷ false ∷ []
arrays_reported = refl

-- of a class's name its descriptor between, and of a descriptor no more than a bracket
arrays_of_texts : map array_text (codes "A" ∷ codes "[I" ∷ codes "[LA;" ∷ []) ≡ codes "[LA;" ∷ codes "[[I" ∷ codes "[[LA;" ∷ []
arrays_of_texts = refl

-- no text at the index of a class, at 0 and past the end
classes_of_texts : map (text_class types pool) (1 ∷ 3 ∷ 5 ∷ 2 ∷ 0 ∷ 99 ∷ []) ≡ Some 0 ∷ Some 1 ∷ None ∷ None ∷ None ∷ None ∷ []
classes_of_texts = refl

arrays_by_texts : map (text_array types pool) (1 ∷ 3 ∷ 5 ∷ 2 ∷ []) ≡ Some 2 ∷ Some 3 ∷ None ∷ None ∷ []
arrays_by_texts = refl

places_of_units : map (units_number ((115 ∷ []) ∷ [] ∷ (115 ∷ []) ∷ [])) ((115 ∷ []) ∷ [] ∷ (116 ∷ []) ∷ (115 ∷ 115 ∷ []) ∷ []) ≡ Some 0 ∷ Some 1 ∷ None ∷ None ∷ []
places_of_units = refl

places_of_texts : map (text_place ((116 ∷ []) ∷ (115 ∷ []) ∷ []) pool) (11 ∷ 1 ∷ 12 ∷ []) ≡ Some 1 ∷ None ∷ None ∷ []
unfolding units_in units_read unit_read long_read two_read
places_of_texts = refl

-- ---- one for each number

each_of_two : (index : ℕ) → index < 2 → slice_get (0 ∷ 3 ∷ []) index ≡ Some (index * 3)
each_of_two zero lt = refl
each_of_two (suc zero) lt = refl
each_of_two (suc (suc k)) lt = absurd (omega (arith, lt))

held : Holds (λ (n : ℕ). n * 3) 2 (0 ∷ 3 ∷ [])
held = record { all = refl; each = each_of_two }

other_held : Holds (λ (n : ℕ). n * 3) 2 (0 ∷ 4 ∷ []) → ⊥
other_held held = let e : 4 ≡ 3 = same_Some 4 3 (held.each 1 (omega arith)) in absurd (omega (arith, e))

too_many_held : Holds (λ (n : ℕ). n * 3) 1 (0 ∷ 3 ∷ []) → ⊥
too_many_held held = let e : 2 ≡ 1 = held.all in absurd (omega (arith, e))

-- ---- constants, by what is kept of texts

abbrev kept : List (Option ℕ)
kept = None ∷ Some 0 ∷ None ∷ Some 1 ∷ []

numbers_kept : map (number_kept kept) (Some 1 ∷ Some 0 ∷ Some 99 ∷ None ∷ []) ≡ Some 0 ∷ None ∷ None ∷ None ∷ []
numbers_kept = refl

-- the text of a class, and of the class of a field and of a method
classes_indexed : map (class_index pool) (2 ∷ 4 ∷ 8 ∷ 9 ∷ 10 ∷ 1 ∷ 0 ∷ []) ≡ Some 1 ∷ Some 3 ∷ Some 1 ∷ Some 3 ∷ None ∷ None ∷ None ∷ []
classes_indexed = refl

classes_kept : map (kept_class pool kept) (2 ∷ 4 ∷ 6 ∷ 8 ∷ 9 ∷ 10 ∷ []) ≡ Some 0 ∷ Some 1 ∷ None ∷ Some 0 ∷ Some 1 ∷ None ∷ []
classes_kept = refl

-- an array is made by a class constant alone
arrays_kept : map (kept_array pool kept) (2 ∷ 4 ∷ 6 ∷ 8 ∷ 9 ∷ 10 ∷ []) ≡ Some 0 ∷ Some 1 ∷ None ∷ None ∷ None ∷ None ∷ []
arrays_kept = refl

-- ---- where members are looked for

-- those of an array in Object, whatever is kept of its text
homes : home_by kept (Some 9) 1 (Some (codes "A")) ∷ home_by kept (Some 9) 3 (Some (codes "[I")) ∷ home_by kept None 3 (Some (codes "[I")) ∷ home_by kept (Some 9) 1 None ∷ []
    ≡ Some 0 ∷ Some 9 ∷ None ∷ None ∷ []
homes = refl

homes_kept : map (kept_home pool kept (Some 9)) (2 ∷ 4 ∷ 6 ∷ 8 ∷ 0 ∷ []) ≡ Some 0 ∷ Some 9 ∷ None ∷ None ∷ None ∷ []
homes_kept = refl

home_there : IsHome types None × IsHome types (Some 3)
home_there = (tt, omega arith)

home_past_end : IsHome types (Some 4) → ⊥
home_past_end home = let lt : 4 < 4 = home in absurd (omega (arith, lt))

none_described : IsDescribed None
none_described = tt

-- ---- entries of tables

-- of one class with such a table
module _ (table : Vec (Option ℕ)) (is : table.items ≡ kept) where
  entries : map (entry_kept (table ∷ []) 0) (1 ∷ 2 ∷ 4 ∷ []) ≡ Some (Some 0) ∷ Some None ∷ None ∷ []
  entries = ap (λ (xs : List (Option ℕ)). map (slice_get xs) (1 ∷ 2 ∷ 4 ∷ [])) is

  no_other_class : map (entry_kept (table ∷ []) 1) (1 ∷ 2 ∷ []) ≡ None ∷ None ∷ []
  no_other_class = refl

  classes_at : map (class_at_index (table ∷ []) 0) (1 ∷ 2 ∷ 3 ∷ 4 ∷ []) ≡ Some 0 ∷ None ∷ Some 1 ∷ None ∷ []
  classes_at = ap (λ (xs : List (Option ℕ)). map (λ (k : ℕ). option_and_then (λ (number : Option ℕ). number) (slice_get xs k)) (1 ∷ 2 ∷ 3 ∷ 4 ∷ [])) is

  names : map (named_kept (table ∷ []) 0) (Some 1 ∷ Some 2 ∷ None ∷ []) ≡ Some 0 ∷ None ∷ None ∷ []
  names = ap (λ (xs : List (Option ℕ)). map (option_and_then (λ (k : ℕ). option_and_then (λ (number : Option ℕ). number) (slice_get xs k))) (Some 1 ∷ Some 2 ∷ None ∷ [])) is

-- a row of index 0 names none, whatever the table has there
rows_caught : (table : Vec (Option ℕ)) → table.items ≡ Some 5 ∷ Some 6 ∷ [] → map (caught_kept (table ∷ []) 0) (0 ∷ 1 ∷ 2 ∷ []) ≡ None ∷ Some 6 ∷ None ∷ []
rows_caught table is =
    ap (λ (xs : List (Option ℕ)). map (λ (index : ℕ). if nat_eq index 0 then None else option_and_then (λ (number : Option ℕ). number) (slice_get xs index)) (0 ∷ 1 ∷ 2 ∷ [])) is
