-- Bodies, code, and the parts that classes have, by plain values.
use Rattle.std.proofs.Common.{◌≡◌, ℕ, zero, suc, ◌<◌, List, [], ◌∷◌, length, Option, Some, None, refl, sym, ap, ◌∙◌, subst, arith, codes, pos, Bor, slice_get}
use Rattle.std.proofs.lemmas.Bool.{false≢true}
use Rattle.std.proofs.lemmas.Option.{none-some, same_Some}
use Rattle.dj_names.specs.declared.descriptor.Desc.TheVariants as descs
use Rattle.dj_names.specs.declared.native.NativeId.TheVariants as natives
use Rattle.dj_names.specs.trusted.DescReading.{dims_read, name_read, class_read, of_read, type_read, params_read, field_read, return_read, method_read, desc_read}
use Rattle.dj_names.specs.trusted.NameReading.{reads_class_name}
use Rattle.dj_names.specs.trusted.Types.{Name}
use Rattle.dj_names.specs.Types.{sandbox_prefix}
use Rattle.dj_ops.specs.declared.instruction.Instr.TheVariants as instrs
use Rattle.dj_ops.specs.Mnemonics.{return, new}
use Rattle.dj_pool.specs.trusted.Pool.{Constant, Utf8, Integer, Class}
use Rattle.dj_model.specs.trusted.Linking.{FoundMethod}
use Rattle.dj_model.specs.trusted.Program as programs
use Rattle.dj_model.specs.trusted.Program.{Abstract, Native, Runs}
use Rattle.dj_early_rules.specs.trusted.Instructions.{index_of}
use Rattle.dj_declarations.specs.trusted.Files.{desc_in, type_in, no_code}
use Rattle.dj_program.specs.trusted.Naming.{named_at, named_by, named_if}
use Rattle.dj_program.specs.trusted.Codes.{CodeParts, code_in}
use Rattle.dj_program.specs.Views.{parts_of}
use Rattle.dj_program.specs.declared.code.MethodCode.{MethodCode}
use Rattle.dj_numbering.specs.Members.{all_methods}
use Rattle.dj_image.specs.declared.operand.Operand.TheVariants as operands
use Rattle.dj_image.specs.declared.image.Body.{Body}
use Rattle.dj_image.specs.declared.image.Body.TheVariants as variants
use Rattle.dj_image.specs.Sources.{class_of_source}
use Rattle.dj_image.specs.Imaged.{Imaged}
use Rattle.dj_image.specs.Operands.{named_operand, named_class}
use Rattle.dj_image.specs.Codes.{PooledCode, all_codes, IsNamedAt, HasRange, SaysBody, IsBodyAt}
use Rattle.dj_image.specs.Shaped.{HasNoCode}
use Rattle.dj_image.specs.Parts.{FitMethods, HasString}
use Rattle.dj_image.specs.Tables.{IsOperandTable}

-- ---- a class with an abstract method, a native one, and one with code

abbrev pool : List Constant
pool = Utf8 (codes "A") ∷ Class 1 ∷ Integer (pos 7) ∷ []

abbrev method : Name → programs.Body → programs.Method
method name body = record { flags = 1; name = name; desc = descs.Method [] None; body = body }

abbrev class_a : programs.Class
class_a = record {
  name = codes "A";
  flags = 0;
  superclass = None;
  interfaces = [];
  unnamed_fields = 0;
  fields = [];
  methods = method (codes "a") Abstract ∷ method (codes "n") (Native natives.ObjectHashCode) ∷ method (codes "r") (Runs no_code) ∷ [];
}

-- new of the class, and a row
abbrev parts : CodeParts
parts = record {
  max_stack = 1;
  max_locals = 1;
  labelled = record { code = instrs.Class new 2 ∷ instrs.Simple return ∷ []; ranges = record { start = 0; end = 1; handler = 1; catch_type = 0 } ∷ [] };
  frames = Some [];
}

abbrev image : Imaged
image = record {
  sources = record { class = class_a; pool = pool; codes = None ∷ None ∷ Some parts ∷ []; values = [] } ∷ [];
  prefix = [];
  arrays = [];
  texts = [];
}

abbrev pooled_code : PooledCode
pooled_code = record { pool = pool; parts = parts }

-- ---- ranges, and what instructions name

range_there : HasRange image 2 0
unfolding all_codes
range_there = record { code = pooled_code; own = refl; within = omega arith }

no_second_range : HasRange image 2 1 → ⊥
unfolding all_codes
no_second_range has =
    let same : pooled_code ≡ has.code = same_Some pooled_code has.code has.own in
    let within : 1 < 1 = subst (λ (c : PooledCode). 1 < length c.parts.labelled.ranges) (sym same) has.within in
    omega (arith, within)

no_range_without_code : HasRange image 0 0 → ⊥
unfolding all_codes
no_range_without_code has = none-some has.code has.own

class_named : IsNamedAt image 2 0 (Some 0)
unfolding all_codes class_of_source named_by desc_in type_in dims_read name_read class_read of_read type_read params_read field_read return_read method_read desc_read reads_class_name
class_named = record { code = pooled_code; own = refl; instr = instrs.Class new 2; stands = refl; is = refl }

nothing_named : IsNamedAt image 2 1 None
unfolding all_codes
nothing_named = record { code = pooled_code; own = refl; instr = instrs.Simple return; stands = refl; is = refl }

-- what is named at the first instruction is the class
first_named : (class : Option ℕ) → IsNamedAt image 2 0 class → class ≡ Some 0
unfolding all_codes class_of_source named_by desc_in type_in dims_read name_read class_read of_read type_read params_read field_read return_read method_read desc_read reads_class_name
first_named class reported =
    let same : pooled_code ≡ reported.code = same_Some pooled_code reported.code reported.own in
    let stands : Some (instrs.Class new 2) ≡ Some reported.instr = subst (λ (c : PooledCode). slice_get c.parts.labelled.code 0 ≡ Some reported.instr) (sym same) reported.stands in
    let one : instrs.Class new 2 ≡ reported.instr = same_Some (instrs.Class new 2) reported.instr stands in
    reported.is ∙ sym (λ i. named_class image (named_if (same i).pool (index_of (one i))))

class_not_left_out : IsNamedAt image 2 0 None → ⊥
class_not_left_out reported = none-some 0 (first_named None reported)

-- ---- bodies

abbrev found_body : Option FoundMethod → programs.Body
found_body None = Abstract
found_body (Some found) = found.method.body

abstract_reported : IsBodyAt image 0 variants.Abstract
unfolding class_of_source all_methods
abstract_reported = record { found = record { class = codes "A"; method = method (codes "a") Abstract }; there = refl; says = tt }

native_reported : IsBodyAt image 1 (variants.Native natives.ObjectHashCode)
unfolding class_of_source all_methods
native_reported = record { found = record { class = codes "A"; method = method (codes "n") (Native natives.ObjectHashCode) }; there = refl; says = refl }

code_reported : (reported : Bor MethodCode) → parts_of reported.now ≡ parts → IsBodyAt image 2 (variants.Code reported)
unfolding class_of_source all_codes all_methods
code_reported reported is = record {
  found = record { class = codes "A"; method = method (codes "r") (Runs (code_in pool parts)) };
  there = refl;
  says = (pool, ap (λ (p : CodeParts). Some (record { pool = pool; parts = p })) (sym is), ap (code_in pool) (sym is));
}

-- neither another native nor abstract, nor code
native_is : (body : Body) → IsBodyAt image 1 body → SaysBody image 1 (Native natives.ObjectHashCode) body
unfolding class_of_source all_methods
native_is body reported = subst (λ (b : programs.Body). SaysBody image 1 b body) (sym (ap found_body reported.there)) reported.says

not_other_native : IsBodyAt image 1 (variants.Native natives.ObjectToString) → ⊥
not_other_native reported = let e : natives.ObjectToString ≡ natives.ObjectHashCode = native_is (variants.Native natives.ObjectToString) reported in absurd cc

native_not_abstract : IsBodyAt image 1 variants.Abstract → ⊥
native_not_abstract reported = native_is variants.Abstract reported

native_not_code : (code : Bor MethodCode) → IsBodyAt image 1 (variants.Code code) → ⊥
native_not_code code reported = native_is (variants.Code code) reported

-- the native one has no code, and the last one has
native_has_none : HasNoCode image 1
unfolding class_of_source all_methods
native_has_none found code there runs = let e : Native natives.ObjectHashCode ≡ Runs code = ap found_body there ∙ runs in absurd cc

last_has_some : HasNoCode image 2 → ⊥
unfolding class_of_source all_methods
last_has_some none = none (record { class = codes "A"; method = method (codes "r") (Runs (code_in pool parts)) }) (code_in pool parts) refl refl

-- ---- parts that fit

abbrev FitBodies : List (Option ℕ) → Type 0
FitBodies reported = FitMethods class_a.methods reported

methods_fit : FitBodies (None ∷ None ∷ Some 5 ∷ [])
methods_fit = (λ e. false≢true e, (λ e. false≢true e, (refl, tt)))

code_lacks : FitBodies (None ∷ None ∷ None ∷ []) → ⊥
code_lacks fit = fit.1.1.0 refl

code_of_native : FitBodies (None ∷ Some 5 ∷ Some 5 ∷ []) → ⊥
code_of_native fit = false≢true fit.1.0

too_few : FitBodies (None ∷ None ∷ []) → ⊥
too_few fit = fit.1.1

too_many : FitBodies (None ∷ None ∷ Some 5 ∷ None ∷ []) → ⊥
too_many fit = fit.1.1.1

-- the class String, under the prefix of the library's names
abbrev string_class : programs.Class
string_class = record class_a { name = codes "java/lang/String" }

string_there : HasString (class_a ∷ string_class ∷ []) []
string_there = refl

no_string : HasString (class_a ∷ []) [] → ⊥
no_string has = false≢true has

no_string_under_prefix : HasString (string_class ∷ []) sandbox_prefix → ⊥
no_string_under_prefix has = false≢true has

-- ---- tables of constants

-- no index of the pool is 0
operand_at : (index : ℕ) → index < 2 → slice_get (operands.Unresolved ∷ operands.Int (pos 7) ∷ []) index ≡ Some (named_operand image (named_at (Integer (pos 7) ∷ []) index))
unfolding named_by
operand_at zero lt = refl
operand_at (suc zero) lt = refl
operand_at (suc (suc k)) lt = absurd (omega (arith, lt))

operand_table : IsOperandTable image (Integer (pos 7) ∷ []) (operands.Unresolved ∷ operands.Int (pos 7) ∷ [])
operand_table = record { count = refl; each = operand_at }

no_first_index : IsOperandTable image (Integer (pos 7) ∷ []) (operands.Int (pos 7) ∷ []) → ⊥
no_first_index table = let e : 1 ≡ 2 = table.count in absurd (omega (arith, e))

int_left_out : IsOperandTable image (Integer (pos 7) ∷ []) (operands.Unresolved ∷ operands.Unresolved ∷ []) → ⊥
unfolding named_by
int_left_out table =
    let e : operands.Unresolved ≡ operands.Int (pos 7) = same_Some operands.Unresolved (operands.Int (pos 7)) (table.each 1 (omega arith)) in
    absurd cc
