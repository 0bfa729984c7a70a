-- Rule 19 of a method of an image, by what is known of the method and what is kept of its code.
use Rattle.std.proofs.Common.{◌≡◌, ℕ, zero, suc, ◌<◌, List, [], ◌∷◌, ◌++◌, map, length, Option, Some, None, refl, sym, ap, ◌∙◌, subst, IsTrue, arith}
use Rattle.std.specs.Prelude.{slice_get, is_some}
use Rattle.std.proofs.lemmas.Bool.{false≢true}
use Rattle.std.proofs.lemmas.List.{length-append, length-map}
use Rattle.std.proofs.lemmas.Option.{same_Some, slice_get-map, slice_get_within}
use Rattle.dj_names.specs.trusted.Types.{Name, class_type}
use Rattle.dj_names.specs.declared.descriptor.Desc.{Desc}
use Rattle.dj_names.specs.trusted.Descriptors.{Describes, type_text}
use Rattle.dj_names.specs.trusted.ModifiedUtf8.{SpellsUnits}
use Rattle.dj_pool.specs.trusted.Pool.{Constant}
use Rattle.dj_report.specs.declared.report.Violation.{Violation}
use Rattle.dj_model.specs.trusted.Program.{Body, Code, Runs, is_static}
use Rattle.dj_model.specs.trusted.Kinds.{Signature, signature_of}
use Rattle.dj_model.specs.trusted.Shape.{IsShapeFault}
use Rattle.dj_model.specs.Shape.{HasShape}
use Rattle.dj_model.specs.trusted.Linking.{FoundMethod}
use Rattle.dj_declarations.specs.trusted.Files.{name_in}
use Rattle.dj_declarations.specs.Members.{IsDescriptor}
use Rattle.dj_class_table.specs.Tables.{name_of, name_at}
use Rattle.dj_program.specs.trusted.Codes.{code_in}
use Rattle.dj_program.specs.Views.{parts_of}
use Rattle.dj_numbering.specs.declared.types.MemberOf.{MemberOf}
use Rattle.dj_numbering.specs.Typed.{types_of, texts_of}
use Rattle.dj_numbering.specs.Members.{IsMethodThere}
use Rattle.dj_shape_rule.specs.declared.judge.ShapeFault.{ShapeFault}
use Rattle.dj_shape_rule.specs.Pools.{ArePoolKinds}
use Rattle.dj_shape_rule.specs.trusted.Rule.{signature_at}
use Rattle.dj_shape_rule.specs.Rule.{IsShapeAnswer}
use Rattle.dj_image.specs.Imaged.{Imaged, program_of, typed_of}
use Rattle.dj_image.specs.Shaped.{AreShapeParts}
use Rattle.dj_image.specs.declared.shaped.ShapeParts.{ShapeParts}
use Rattle.dj_shape.specs.Rules.{HasKinds, IsSpelled, IsPathOf, IsShapeLine, HasShapeAt}
use Rattle.dj_shape.specs.Reported.{IsLineOf, IsLineIn}

-- ---- names of classes

prefix : {A : Type 0} (xs ys : List A) (k : ℕ) → k < length xs → slice_get (xs ++ ys) k ≡ slice_get xs k
prefix [] ys k lt = absurd (omega (arith, lt))
prefix (x ∷ xs) ys zero lt = refl
prefix (x ∷ xs) ys (suc k) lt = prefix xs ys k (omega (arith, lt))

pub type_within : (imaged : Imaged) (class : ℕ) → class < length (program_of imaged) → class < length (types_of (typed_of imaged))
type_within imaged class lt =
    let program = program_of imaged in
    let all = length-append (map (λ c. class_type (name_of c)) program) imaged.arrays in
    let long = length-map program (λ c. class_type (name_of c)) in
    omega (arith, lt, all, long)

pub named_there : (imaged : Imaged) (class : ℕ) (name : Name) → class < length (program_of imaged) → slice_get (texts_of (typed_of imaged)) class ≡ Some name
    → name_at (program_of imaged) class ≡ Some name
named_there imaged class name lt e =
    let program = program_of imaged in
    let long = length-map program name_of in
    sym (slice_get-map name_of program class) ∙ sym (prefix (map name_of program) (map type_text imaged.arrays) class (omega (arith, lt, long))) ∙ e

-- ---- what is known of a method

some_there : {A : Type 0} (o : Option A) → IsTrue (is_some o) → (x : A) × (o ≡ Some x)
some_there None t = absurd (false≢true t)
some_there (Some x) t = (x, refl)

abbrev code_of : Body → Option Code
code_of (Runs code) = Some code
code_of body = None

-- the answer of the rule by what is kept
abbrev pub IsAnswer : ℕ → ShapeParts → Option ShapeFault → Type 0
IsAnswer flags parts fault =
    (pool : List Constant) (signature : Signature) → ArePoolKinds pool parts.kinds.now → IsDescriptor (name_in pool parts.desc)
    → signature_at pool (is_static flags) parts.desc ≡ Some signature → IsShapeAnswer signature (code_in pool (parts_of parts.code.now)) fault

module _ (imaged : Imaged) (method : ℕ) (m : MemberOf) (reported : IsMethodThere (typed_of imaged) method m) (parts : ShapeParts) (are : AreShapeParts imaged method parts) where
  same : reported.found ≡ are.found
  same = same_Some reported.found are.found (sym reported.there ∙ are.there)

  signature_is : signature_at are.pool (is_static m.flags) parts.desc ≡ signature_of (is_static are.found.method.flags) are.found.method.desc
  signature_is =
      ap (λ (d : Desc). signature_of (is_static m.flags) d) are.desc.is
      ∙ ap (λ (flags : ℕ). signature_of (is_static flags) are.found.method.desc) (reported.flags ∙ ap (λ (f : FoundMethod). f.method.flags) same)

  pub shaped : IsAnswer m.flags parts None → HasShapeAt imaged method
  shaped answer found code signature there runs described =
      let one : are.found ≡ found = same_Some are.found found (sym are.there ∙ there) in
      let signs : signature_at are.pool (is_static m.flags) parts.desc ≡ Some signature =
      signature_is ∙ ap (λ (f : FoundMethod). signature_of (is_static f.method.flags) f.method.desc) one ∙ described in
      let body : Runs (code_in are.pool (parts_of parts.code.now)) ≡ Runs code = sym are.runs ∙ ap (λ (f : FoundMethod). f.method.body) one ∙ runs in
      subst (HasShape signature) (same_Some (code_in are.pool (parts_of parts.code.now)) code (ap code_of body)) (answer are.pool signature are.kinds are.desc.spelled signs)

  own_class : (class : Name) → name_at (program_of imaged) m.class ≡ Some class → class ≡ are.found.class
  own_class class named = same_Some class are.found.class (sym named ∙ reported.class ∙ ap (λ (f : FoundMethod). Some f.class) same)

  pub spelled_class : IsSpelled imaged method → (class : Name) → name_at (program_of imaged) m.class ≡ Some class → (units : List ℕ) × SpellsUnits class units
  spelled_class spelled class named =
      let units = spelled are.found are.there in
      (units.0, subst (λ (c : Name). SpellsUnits c units.0) (sym (own_class class named)) units.1)

  line_of : HasKinds imaged method → (fault : ShapeFault) → IsAnswer m.flags parts (Some fault) → (class : Name) → name_at (program_of imaged) m.class ≡ Some class
      → (v : Violation) → IsLineOf class m fault v → IsShapeLine imaged method v
  line_of kinds fault answer class named v is =
      let signature = some_there (signature_of (is_static are.found.method.flags) are.found.method.desc) (kinds are.found are.there) in
      record {
        found = are.found;
        there = are.there;
        code = code_in are.pool (parts_of parts.code.now);
        runs = are.runs;
        signature = signature.0;
        kinds = signature.1;
        such = subst (λ (n : Option ℕ). IsShapeFault signature.0 (code_in are.pool (parts_of parts.code.now)) n) (sym is.number)
            (answer are.pool signature.0 are.kinds are.desc.spelled (signature_is ∙ signature.1));
        path = subst (λ (c : Name). IsPathOf v.path c) (own_class class named) is.path;
        desc = m.desc.now;
        spelled = subst (λ (f : FoundMethod). Describes m.desc.now f.method.desc) same reported.desc;
        member = is.member_is ∙ ap (λ (n : Name). n ++ m.desc.now) (reported.name ∙ ap (λ (f : FoundMethod). f.method.name) same);
        rule = is.rule;
      }

  pub line : HasKinds imaged method → (fault : ShapeFault) → IsAnswer m.flags parts (Some fault) → (v : Violation) → IsLineIn imaged m fault v → IsShapeLine imaged method v
  line kinds fault answer v is = line_of kinds fault answer is.class is.named v is.line

pub class_there : (imaged : Imaged) (method : ℕ) (m : MemberOf) → IsMethodThere (typed_of imaged) method m → m.class < length (program_of imaged)
class_there imaged method m reported =
    let there = slice_get_within (map name_of (program_of imaged)) m.class reported.found.class (slice_get-map name_of (program_of imaged) m.class ∙ reported.class) in
    let long = length-map (program_of imaged) name_of in
    omega (arith, there, long)
