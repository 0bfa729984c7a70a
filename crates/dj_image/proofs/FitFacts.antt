-- Parts that fit their classes, classes side by side with them, and how many members there may be, by plain values.
use Rattle.std.proofs.Common.{◌≡◌, ℕ, zero, suc, ◌≤◌, ◌^◌, true, List, [], ◌∷◌, map, length, replicate, get_or, append-nil, Option, Some, None, IsTrue, refl, sym, ap, ◌∙◌, subst, arith, codes, pos, slice_get}
use Rattle.std.specs.Global.{Vec}
use Rattle.std.specs.Option.{option_map}
use Rattle.std.proofs.lemmas.Bool.{false≢true}
use Rattle.std.proofs.lemmas.List.{length-map, length-replicate}
use Rattle.std.proofs.lemmas.Option.{none-some, same_Some}
use Rattle.dj_names.specs.declared.descriptor.Base.TheVariants as bases
use Rattle.dj_names.specs.declared.descriptor.Desc.{Desc}
use Rattle.dj_names.specs.declared.descriptor.Desc.TheVariants as described_as
use Rattle.dj_names.specs.trusted.DescReading.{dims_read, name_read, class_read, of_read, type_read, params_read, field_read, return_read, method_read, desc_read}
use Rattle.dj_names.specs.trusted.Descriptors.{desc_text}
use Rattle.dj_names.specs.trusted.NameReading.{reads_class_name}
use Rattle.dj_names.specs.trusted.Tests.{units_read}
use Rattle.dj_names.specs.trusted.Types.{Name, base_type}
use Rattle.dj_names.specs.trusted.UnitReading.{unit_read, long_read, two_read}
use Rattle.dj_pool.specs.trusted.Pool.{Constant, Utf8, IsPool, indexed}
use Rattle.dj_model.specs.trusted.Kinds.{Signature, call_signature}
use Rattle.dj_model.specs.trusted.Linking.{FoundMethod, FoundField}
use Rattle.dj_model.specs.trusted.Program as programs
use Rattle.dj_model.specs.trusted.Program.{Abstract, Runs, has_code}
use Rattle.dj_declarations.specs.trusted.Files.{desc_in, name_in, no_code}
use Rattle.dj_declarations.specs.Members.{IsDescriptor}
use Rattle.dj_program.specs.trusted.Codes.{CodeParts}
use Rattle.dj_program.specs.trusted.Naming.{units_in, named_at, named_by}
use Rattle.dj_program.specs.Views.{parts_of}
use Rattle.dj_program.specs.declared.code.MethodCode.{MethodCode}
use Rattle.dj_shape_rule.specs.declared.pool.ConstantKind.TheVariants as constants
use Rattle.dj_shape_rule.specs.Kept.{KeptKinds}
use Rattle.dj_shape_rule.specs.Pools.{call_at, SaysKind, ArePoolKinds}
use Rattle.dj_numbering.specs.Members.{all_methods, all_fields}
use Rattle.dj_image.specs.declared.parts.ClassParts.{ClassParts}
use Rattle.dj_image.specs.declared.parts.FieldValue.{FieldValue}
use Rattle.dj_image.specs.declared.parts.FieldValue.TheVariants as begins
use Rattle.dj_image.specs.Sources.{Source, with_codes, with_values, class_of_source, program_of_sources}
use Rattle.dj_image.specs.Parts.{constant_of_value, source_of, sources_of, FitMethods, IsDescAt, FitClass, FitClasses, AreFew}
use Rattle.dj_image.proofs.TypeFacts.{other_text}

-- ---- a class with an abstract method, one with code and a field, and a class without members

abbrev pub method : Name → programs.Body → programs.Method
method name body = record { flags = 1; name = name; desc = described_as.Method [] None; body = body }

abbrev pub abstract_a : programs.Method
abstract_a = method (codes "a") Abstract

abbrev field_x : programs.Field
field_x = record { flags = 8; name = codes "x"; desc = described_as.Field (base_type bases.Int); constant = None }

abbrev pub bare : Name → programs.Class
bare name = record {
  name = name;
  flags = 0;
  superclass = None;
  interfaces = [];
  unnamed_fields = 0;
  fields = [];
  methods = [];
}

abbrev class_a : programs.Class
class_a = record (bare (codes "A")) { fields = field_x ∷ []; methods = abstract_a ∷ method (codes "r") (Runs no_code) ∷ [] }

-- 1 the descriptor of both, 2 another text
abbrev pub pool : List Constant
pool = Utf8 (codes "()V") ∷ Utf8 (codes "s") ∷ []

abbrev nothing : Signature
nothing = record { parameters = []; result = None }

abbrev pub kinds : KeptKinds
kinds = record { constants = []; calls = None ∷ Some nothing ∷ [] }

-- ---- what is kept of the constants

empty_pool : IsPool []
unfolding indexed
empty_pool = record { constants = []; indexes = refl; each = tt; count = omega arith }

whole_pool : IsPool pool
unfolding indexed
whole_pool = record {
  constants = pool;
  indexes = refl;
  each = (
    ((omega arith, (codes "()V", record { text_is = refl; units_fit = (omega arith, (omega arith, (omega arith, tt))) })), tt),
    (((omega arith, (codes "s", record { text_is = refl; units_fit = (omega arith, tt) })), tt), tt),
  );
  count = omega arith;
}

pub no_descriptor : IsDescriptor [] → ⊥
unfolding desc_in dims_read name_read class_read of_read type_read params_read field_read return_read method_read desc_read reads_class_name
no_descriptor reported = other_text [] (desc_text (desc_in [])) refl refl reported.text_is

s_no_descriptor : IsDescriptor (codes "s") → ⊥
unfolding desc_in dims_read name_read class_read of_read type_read params_read field_read return_read method_read desc_read reads_class_name
s_no_descriptor reported = other_text (codes "s") (desc_text (desc_in (codes "s"))) refl refl reported.text_is

pub described : IsDescAt pool 1 (described_as.Method [] None)
unfolding desc_in dims_read name_read class_read of_read type_read params_read field_read return_read method_read desc_read reads_class_name
described = record { spelled = record { text_is = refl; valid = (tt, tt, omega arith) }; is = refl }

kind_each : (index : ℕ) → SaysKind kinds.calls (named_at pool index) (get_or kinds.constants index constants.Other)
unfolding named_by
kind_each zero = tt
kind_each (suc zero) = tt
kind_each (suc (suc zero)) = tt
kind_each (suc (suc (suc k))) = tt

call_each : (index : ℕ) → IsDescriptor (name_in pool index) → call_signature (desc_in (name_in pool index)) ≡ call_at kinds.calls index
unfolding desc_in dims_read name_read class_read of_read type_read params_read field_read return_read method_read desc_read reads_class_name
call_each zero reported = absurd (no_descriptor reported)
call_each (suc zero) reported = refl
call_each (suc (suc zero)) reported = absurd (s_no_descriptor reported)
call_each (suc (suc (suc k))) reported = absurd (no_descriptor reported)

pub kinds_of_pool : ArePoolKinds pool kinds
kinds_of_pool = record { each = kind_each; calls = call_each }

-- not where the signature of a descriptor is left out, or where a text is recorded as a class
signature_left_out : ArePoolKinds pool (record kinds { calls = [] }) → ⊥
signature_left_out are =
    let e : Some nothing ≡ None = sym (ap call_signature described.is) ∙ are.calls 1 described.spelled in
    none-some nothing (sym e)

text_as_class : ArePoolKinds pool (record kinds { constants = constants.Other ∷ constants.Class ∷ [] }) → ⊥
unfolding named_by
text_as_class are = are.each 1

none_each : (index : ℕ) → SaysKind [] (named_at [] index) (get_or [] index constants.Other)
none_each zero = tt
none_each (suc k) = tt

none_called : (index : ℕ) → IsDescriptor (name_in [] index) → call_signature (desc_in (name_in [] index)) ≡ call_at [] index
none_called zero reported = absurd (no_descriptor reported)
none_called (suc k) reported = absurd (no_descriptor reported)

-- ---- a class and its parts

abbrev FieldValues : Type 0
FieldValues = Vec (Option FieldValue)

abbrev Codes : Type 0
Codes = Vec (Option MethodCode)

abbrev parts_with : Codes → Vec ℕ → FieldValues → ClassParts
parts_with codes descs values = record { pool = pool; kinds = kinds; codes = codes; descs = descs; values = values }

-- those of a class without constants
abbrev pub bare_parts : Codes → Vec ℕ → FieldValues → ClassParts
bare_parts codes descs values = record { pool = []; kinds = record { constants = []; calls = [] }; codes = codes; descs = descs; values = values }

pub bare_fits : (name : Name) (codes : Codes) (descs : Vec ℕ) (values : FieldValues) → codes.items ≡ [] → values.items ≡ [] → FitClass (bare name) (bare_parts codes descs values)
bare_fits name codes descs values codes_are values_are = record {
  methods = subst (λ (cs : List (Option MethodCode)). FitMethods [] cs) (sym codes_are) tt;
  fields = ap length values_are;
  pool = omega arith;
  valid = empty_pool;
  kinds = record { each = none_each; calls = none_called };
  descs = λ k m at has. absurd (none-some m at);
}

abbrev b_name : Name
b_name = codes "B"

abbrev no_parameters : Desc
no_parameters = described_as.Method [] None

abbrev second : programs.Method
second = method (codes "r") (Runs no_code)

desc_of : (descs : Vec ℕ) → descs.items ≡ 0 ∷ 1 ∷ [] → (k : ℕ) (m : programs.Method) → slice_get class_a.methods k ≡ Some m → IsTrue (has_code m.body) → IsDescAt pool (get_or descs.items k 0) m.desc
desc_of descs are zero m at has = absurd (false≢true (ap (λ (x : programs.Method). has_code x.body) (same_Some abstract_a m at) ∙ has))
desc_of descs are (suc zero) m at has =
    let index : 1 ≡ get_or descs.items 1 0 = ap (λ (xs : List ℕ). get_or xs 1 0) (sym are) in
    let desc : no_parameters ≡ m.desc = ap (λ (x : programs.Method). x.desc) (same_Some second m at) in
    subst (λ (d : Desc). IsDescAt pool (get_or descs.items 1 0) d) desc (subst (λ (i : ℕ). IsDescAt pool i no_parameters) index described)
desc_of descs are (suc (suc k)) m at has = absurd (none-some m at)

module _ (code : MethodCode) (codes : Codes) (descs : Vec ℕ) (values : FieldValues) where
  fits : codes.items ≡ None ∷ Some code ∷ [] → descs.items ≡ 0 ∷ 1 ∷ [] → values.items ≡ None ∷ [] → FitClass class_a (parts_with codes descs values)
  fits codes_are descs_are values_are = record {
    methods = subst (λ (cs : List (Option MethodCode)). FitMethods class_a.methods cs) (sym codes_are) (λ e. false≢true e, (refl, tt));
    fields = ap length values_are;
    pool = omega arith;
    valid = whole_pool;
    kinds = kinds_of_pool;
    descs = desc_of descs descs_are;
  }

  -- not where the code of a method is left out, or given to the abstract one; nor with fewer values than fields
  code_left_out : codes.items ≡ None ∷ None ∷ [] → FitClass class_a (parts_with codes descs values) → ⊥
  code_left_out are fit =
      let reported : FitMethods {A = MethodCode} class_a.methods (None ∷ None ∷ []) = subst (λ (cs : List (Option MethodCode)). FitMethods class_a.methods cs) are fit.methods in
      reported.1.0 refl

  code_of_abstract : codes.items ≡ Some code ∷ None ∷ [] → FitClass class_a (parts_with codes descs values) → ⊥
  code_of_abstract are fit =
      let reported : FitMethods {A = MethodCode} class_a.methods (Some code ∷ None ∷ []) = subst (λ (cs : List (Option MethodCode)). FitMethods class_a.methods cs) are fit.methods in
      false≢true reported.0

  value_left_out : values.items ≡ [] → FitClass class_a (parts_with codes descs values) → ⊥
  value_left_out are fit = let e : 0 ≡ 1 = sym (ap length are) ∙ fit.fields in omega (arith, e)

  -- nor where the index is that of another text, or only that of the abstract method is given
  desc_elsewhere : descs.items ≡ 1 ∷ 2 ∷ [] → FitClass class_a (parts_with codes descs values) → ⊥
  desc_elsewhere are fit =
      s_no_descriptor (subst (λ (i : ℕ). IsDescriptor (name_in pool i)) (ap (λ (xs : List ℕ). get_or xs 1 0) are) (fit.descs 1 second refl refl).spelled)

  desc_left_out : descs.items ≡ 1 ∷ [] → FitClass class_a (parts_with codes descs values) → ⊥
  desc_left_out are fit =
      no_descriptor (subst (λ (i : ℕ). IsDescriptor (name_in pool i)) (ap (λ (xs : List ℕ). get_or xs 1 0) are) (fit.descs 1 second refl refl).spelled)

  -- nor where nothing is kept of the constants
  kinds_of_none : FitClass class_a (record (parts_with codes descs values) { kinds = record { constants = []; calls = [] } }) → ⊥
  kinds_of_none fit = signature_left_out fit.kinds

  -- side by side, each class with its own parts
  module _ (codes_are : codes.items ≡ None ∷ Some code ∷ []) (descs_are : descs.items ≡ 0 ∷ 1 ∷ []) (values_are : values.items ≡ None ∷ [])
      (no_codes : Codes) (none_there : no_codes.items ≡ []) (no_values : FieldValues) (none_begins : no_values.items ≡ []) where
    both_fit : FitClasses (class_a ∷ bare b_name ∷ []) (parts_with codes descs values ∷ bare_parts no_codes descs no_values ∷ [])
    both_fit = (fits codes_are descs_are values_are, (bare_fits b_name no_codes descs no_values none_there none_begins, tt))

    of_other : FitClasses (class_a ∷ bare b_name ∷ []) (bare_parts no_codes descs no_values ∷ parts_with codes descs values ∷ []) → ⊥
    of_other fit = let e : 0 ≡ 1 = sym (ap length none_begins) ∙ fit.0.fields in omega (arith, e)

    second_left_out : FitClasses (class_a ∷ bare b_name ∷ []) (parts_with codes descs values ∷ []) → ⊥
    second_left_out fit = fit.1

    one_too_many : FitClasses (class_a ∷ []) (parts_with codes descs values ∷ bare_parts no_codes descs no_values ∷ []) → ⊥
    one_too_many fit = fit.1

too_many_constants : (c : programs.Class) (p : ClassParts) → 2 ^ 16 ≤ length p.pool → FitClass c p → ⊥
too_many_constants c p le fit = omega (arith, le, fit.pool)

-- ---- sources

constants_of_values : map (constant_of_value pool) (begins.Int (pos 5) ∷ begins.Long (pos 6) ∷ begins.Text 2 ∷ begins.Text 3 ∷ begins.Unfit ∷ [])
    ≡ programs.Int (pos 5) ∷ programs.Long (pos 6) ∷ programs.Text (115 ∷ []) ∷ programs.Text [] ∷ programs.Unfit ∷ []
unfolding units_in units_read unit_read long_read two_read
constants_of_values = refl

module _ (code : MethodCode) (p : ClassParts) (codes_are : p.codes.items ≡ None ∷ Some code ∷ []) (values_are : p.values.items ≡ Some (begins.Long (pos 6)) ∷ []) where
  codes_reported : (source_of class_a p).codes ≡ None ∷ Some (parts_of code) ∷ []
  codes_reported = ap (map (option_map parts_of)) codes_are

  values_reported : (source_of class_a p).values ≡ Some (programs.Long (pos 6)) ∷ []
  values_reported = ap (map (option_map (constant_of_value p.pool))) values_are

  code_not_left_out : (source_of class_a p).codes ≡ None ∷ None ∷ [] → ⊥
  code_not_left_out e =
      let bad : Some (parts_of code) ≡ None = ap (λ (cs : List (Option CodeParts)). get_or cs 1 None) (sym codes_reported ∙ e) in
      none-some (parts_of code) (sym bad)

  -- each class with its own parts, in order, as long as there are both
  sources_reported : (c d : programs.Class) (q : ClassParts) → sources_of (c ∷ d ∷ []) (p ∷ q ∷ []) ≡ source_of c p ∷ source_of d q ∷ []
  unfolding sources_of
  sources_reported c d q = refl

  sources_end : (c d : programs.Class) → (sources_of (c ∷ d ∷ []) (p ∷ []) ≡ source_of c p ∷ []) × (sources_of [] (p ∷ []) ≡ [])
  unfolding sources_of
  sources_end c d = (refl, refl)

-- ---- how many members there may be

abbrev many : ℕ → ℕ → Source
many methods fields = record {
  class = record (bare b_name) { fields = replicate fields field_x; methods = replicate methods abstract_a };
  pool = [];
  codes = [];
  values = [];
}

few : AreFew [] × AreFew (many 0 0 ∷ many 0 0 ∷ [])
unfolding all_methods all_fields class_of_source
few = (record { methods = omega arith; fields = omega arith }, record { methods = omega arith; fields = omega arith })

no_codes_reported : (ms : List programs.Method) → with_codes [] ms [] ≡ ms
no_codes_reported [] = refl
no_codes_reported (m ∷ ms) = refl

no_values_reported : (fs : List programs.Field) → with_values fs [] ≡ fs
no_values_reported [] = refl
no_values_reported (f ∷ fs) = refl

abbrev of_b : programs.Method → FoundMethod
of_b m = record { class = b_name; method = m }

abbrev field_of_b : programs.Field → FoundField
field_of_b f = record { class = b_name; field = f }

methods_counted : (n k : ℕ) → length (all_methods (program_of_sources (many n k ∷ []))) ≡ n
unfolding all_methods class_of_source
methods_counted n k =
    ap length (append-nil (map of_b (with_codes [] (replicate n abstract_a) [])))
    ∙ length-map (with_codes [] (replicate n abstract_a) []) of_b
    ∙ ap length (no_codes_reported (replicate n abstract_a))
    ∙ length-replicate n abstract_a

fields_counted : (n k : ℕ) → length (all_fields (program_of_sources (many n k ∷ []))) ≡ k
unfolding all_fields class_of_source
fields_counted n k =
    ap length (append-nil (map field_of_b (with_values (replicate k field_x) [])))
    ∙ length-map (with_values (replicate k field_x) []) field_of_b
    ∙ ap length (no_values_reported (replicate k field_x))
    ∙ length-replicate k field_x

too_many_methods : (n k : ℕ) → 2 ^ 32 ≤ n → AreFew (many n k ∷ []) → ⊥
too_many_methods n k le few = omega (arith, le, few.methods, methods_counted n k)

too_many_fields : (n k : ℕ) → 2 ^ 32 ≤ k → AreFew (many n k ∷ []) → ⊥
too_many_fields n k le few = omega (arith, le, few.fields, fields_counted n k)
