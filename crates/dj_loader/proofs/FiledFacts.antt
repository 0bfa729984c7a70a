-- The parts of classes that files define and of those that none does, which file defines which class, and tables, by plain values.
use Rattle.std.proofs.Common.{◌≡◌, ℕ, zero, suc, List, [], ◌∷◌, map, length, get_or, codes, pos, arith, Option, Some, None, refl, sym, ap, ◌∙◌}
use Rattle.std.specs.Prelude.{slice_get}
use Rattle.std.proofs.lemmas.Bool.{false≢true, true≢false}
use Rattle.std.proofs.lemmas.Option.{none-some, same_Some}
use Rattle.dj_names.specs.trusted.Tests.{units_read}
use Rattle.dj_names.specs.trusted.Types.{Name}
use Rattle.dj_names.specs.trusted.UnitReading.{unit_read, long_read, two_read}
use Rattle.dj_pool.specs.trusted.Pool.{Constant, Utf8}
use Rattle.dj_class.specs.trusted.ClassFile.{MemberInfo, ClassFile}
use Rattle.dj_file_rules.specs.trusted.Violations.{this_name}
use Rattle.dj_model.specs.trusted.Program as programs
use Rattle.dj_model.specs.trusted.Program.{Program, Class}
use Rattle.dj_class_table.specs.Tables.{class_number}
use Rattle.dj_program.specs.trusted.Naming.{units_in}
use Rattle.dj_program.specs.declared.code.MethodCode.{MethodCode}
use Rattle.dj_image.specs.declared.parts.ClassParts.{ClassParts}
use Rattle.dj_image.specs.declared.parts.FieldValue.TheVariants as values
use Rattle.dj_loader.specs.Filed.{IsCodeFor, reported_value, AreBareParts, AreOwners, ArePartsFor}
use Rattle.dj_loader.specs.Parting.{IsTableOf}

-- ---- code

abbrev method : ℕ → MemberInfo
method flags = record { flags = flags; name = 1; desc = 2; attributes = [] }

-- of a native method, an abstract one, and one that is both none
bodiless : IsCodeFor [] (method 256) None × IsCodeFor [] (method 1025) None × IsCodeFor [] (method 1280) None
bodiless = (refl, refl, refl)

code_left_out : IsCodeFor [] (method 9) None → ⊥
code_left_out reported = false≢true reported

code_of_native : (pool : List Constant) (code : MethodCode) → IsCodeFor pool (method 256) (Some code) → ⊥
code_of_native pool code reported = true≢false reported.0

code_of_abstract : (pool : List Constant) (code : MethodCode) → IsCodeFor pool (method 1025) (Some code) → ⊥
code_of_abstract pool code reported = true≢false reported.0

-- ---- values

values_reported : map (reported_value (Utf8 (codes "s") ∷ [])) (None ∷ Some (values.Int (pos 5)) ∷ Some (values.Long (pos 5)) ∷ Some (values.Text 1) ∷ Some values.Unfit ∷ [])
    ≡ None ∷ Some (programs.Int (pos 5)) ∷ Some (programs.Long (pos 5)) ∷ Some (programs.Text (115 ∷ [])) ∷ Some programs.Unfit ∷ []
unfolding units_in units_read unit_read long_read two_read
values_reported = refl

-- ---- classes that no file defines

-- they have no code and no values, and as many places for them as members
code_of_none : (code : MethodCode) (p : ClassParts) → p.codes.items ≡ None ∷ Some code ∷ [] → AreBareParts 2 0 p → ⊥
code_of_none code p is bare =
    let e : None ∷ Some code ∷ [] ≡ None ∷ None ∷ [] = sym is ∙ bare.codes in
    none-some code (sym (ap (λ (codes : List (Option MethodCode)). get_or codes 1 None) e))

too_few_places : (p : ClassParts) → p.values.items ≡ None ∷ [] → AreBareParts 0 2 p → ⊥
too_few_places p is bare =
    let e : 1 ≡ 2 = ap length (sym is ∙ bare.values) in
    omega (arith, e)

-- ---- owners

abbrev class : Name → Class
class name = record {
  name = name;
  flags = 0;
  superclass = None;
  interfaces = [];
  unnamed_fields = 0;
  fields = [];
  methods = [];
}

abbrev two : Program
two = class (codes "a") ∷ class (codes "b") ∷ []

-- the file of place 0 defines the second
abbrev places : List (Option ℕ)
places = None ∷ Some 0 ∷ []

-- a file that defines b
module _ (c : ClassFile) (named : this_name c ≡ codes "b") where
  number : class_number two (this_name c) ≡ Some 1
  number = ap (class_number two) named

  place_there : (k place : ℕ) → get_or places k None ≡ Some place → (d : ClassFile) × (slice_get (c ∷ []) place ≡ Some d) × (class_number two (this_name d) ≡ Some k)
  place_there zero place e = absurd (none-some place e)
  place_there (suc zero) place e = (c, ap (slice_get (c ∷ [])) (sym (same_Some 0 place e)), number)
  place_there (suc (suc k)) place e = absurd (none-some place e)

  not_left_out : (k place : ℕ) (d : ClassFile) → slice_get (c ∷ []) place ≡ Some d → class_number two (this_name d) ≡ Some k → get_or places k None ≡ None → ⊥
  not_left_out k zero d at numbered none =
      let is : Some 1 ≡ Some k = sym number ∙ ap (λ (f : ClassFile). class_number two (this_name f)) (same_Some c d at) ∙ numbered in
      none-some 0 (sym none ∙ ap (λ (n : ℕ). get_or places n None) (sym (same_Some 1 k is)))
  not_left_out k (suc place) d at numbered none = none-some d at

  owners : AreOwners two (c ∷ []) places
  owners = record { count = refl; named = place_there; each = not_left_out }

  -- not where it is left out, where it counts as defining another class, or where there is no such file
  owner_left_out : AreOwners two (c ∷ []) (None ∷ None ∷ []) → ⊥
  owner_left_out are = are.each 1 0 c refl number refl

  owner_of_other : AreOwners two (c ∷ []) (Some 0 ∷ Some 0 ∷ []) → ⊥
  owner_of_other are =
      let (d, at, numbered) = are.named 0 0 refl in
      let is : Some 1 ≡ Some 0 = sym number ∙ ap (λ (f : ClassFile). class_number two (this_name f)) (same_Some c d at) ∙ numbered in
      let e : 1 ≡ 0 = same_Some 1 0 is in
      omega (arith, e)

  owner_past_end : AreOwners two (c ∷ []) (None ∷ Some 1 ∷ []) → ⊥
  owner_past_end are = let (d, at, numbered) = are.named 1 1 refl in none-some d at

  too_few_owners : AreOwners two (c ∷ []) [] → ⊥
  too_few_owners are = let e : 0 ≡ 2 = are.count in omega (arith, e)

-- a class whose file isn't there has no parts of it
no_such_file : (p : ClassParts) → ArePartsFor two [] 1 (Some 0) p → ⊥
no_such_file p (c, at, are) = none-some c at

-- ---- tables

no_classes : IsTableOf [] [] (class (codes "a") ∷ []) → ⊥
no_classes table = let e : 1 ≡ 0 = ap length table.is in omega (arith, e)
