-- What rule 19, SHAPE, is judged by of methods by their numbers, by plain values.
use Rattle.std.proofs.Common.{◌≡◌, ℕ, List, [], ◌∷◌, Option, Some, None, get_or, refl, sym, ap, ◌∙◌, subst, codes, arith}
use Rattle.std.specs.Prelude.{slice_get, option_and_then}
use Rattle.std.specs.Option.{option_map}
use Rattle.std.proofs.lemmas.Option.{none-some, same_Some}
use Rattle.dj_names.specs.declared.descriptor.Desc.TheVariants as described_as
use Rattle.dj_ops.specs.declared.instruction.Instr.TheVariants as instrs
use Rattle.dj_ops.specs.Mnemonics.{return}
use Rattle.dj_model.specs.trusted.Kinds.{Signature, call_signature}
use Rattle.dj_model.specs.trusted.Linking.{FoundMethod}
use Rattle.dj_model.specs.trusted.Program as programs
use Rattle.dj_model.specs.trusted.Program.{Abstract, Runs}
use Rattle.dj_class_table.specs.declared.place.Place.{Place}
use Rattle.dj_declarations.specs.trusted.Files.{no_code}
use Rattle.dj_program.specs.trusted.Codes.{CodeParts, code_in}
use Rattle.dj_program.specs.Views.{parts_of}
use Rattle.dj_program.specs.declared.code.MethodCode.{MethodCode}
use Rattle.dj_shape_rule.specs.Kept.{KeptKinds}
use Rattle.dj_shape_rule.specs.Pools.{call_at, ArePoolKinds}
use Rattle.dj_numbering.specs.Members.{all_methods}
use Rattle.dj_image.specs.declared.parts.ClassParts.{ClassParts}
use Rattle.dj_image.specs.declared.shaped.ShapeParts.{ShapeParts}
use Rattle.dj_image.specs.Sources.{class_of_source}
use Rattle.dj_image.specs.Imaged.{Imaged}
use Rattle.dj_image.specs.Parts.{IsDescAt}
use Rattle.dj_image.specs.Shaped.{AreShapeParts, AreShapePartsAt, KeptShape, shape_lent, shape_of, shape_in, shape_kept}
use Rattle.dj_image.proofs.FitFacts.{method, bare, abstract_a, pool, kinds, described, kinds_of_pool}

-- ---- a class with an abstract method and one with code

abbrev second : programs.Body → programs.Method
second body = method (codes "r") body

abbrev class_a : programs.Class
class_a = record (bare (codes "A")) { methods = abstract_a ∷ second (Runs no_code) ∷ [] }

abbrev parts : CodeParts
parts = record {
  max_stack = 1;
  max_locals = 2;
  labelled = record { code = instrs.Simple return ∷ []; ranges = [] };
  frames = Some [];
}

abbrev image : Imaged
image = record {
  sources = record { class = class_a; pool = pool; codes = None ∷ Some parts ∷ []; values = [] } ∷ [];
  prefix = [];
  arrays = [];
  texts = [];
}

abbrev found : FoundMethod
found = record { class = codes "A"; method = second (Runs (code_in pool parts)) }

abbrev body_of : Option FoundMethod → programs.Body
body_of None = Abstract
body_of (Some f) = f.method.body

abbrev signature_of : Option FoundMethod → Option Signature
signature_of None = None
signature_of (Some f) = call_signature f.method.desc

abbrev stack_of : programs.Body → ℕ
stack_of (Runs code) = code.max_stack
stack_of body = 0

abbrev locals_of : programs.Body → ℕ
locals_of (Runs code) = code.max_locals
locals_of body = 0

-- ---- its parts

module _ (s : ShapeParts) where
  reported : parts_of s.code.now ≡ parts → s.kinds.now ≡ kinds → s.desc ≡ 1 → AreShapeParts image 1 s
  unfolding all_methods class_of_source
  reported code_is kinds_is desc_is = record {
    found = found;
    there = refl;
    pool = pool;
    runs = ap (λ (p : CodeParts). Runs (code_in pool p)) (sym code_is);
    kinds = subst (λ (k : KeptKinds). ArePoolKinds pool k) (sym kinds_is) kinds_of_pool;
    desc = subst (λ (i : ℕ). IsDescAt pool i (described_as.Method [] None)) (sym desc_is) described;
  }

  reported_at : parts_of s.code.now ≡ parts → s.kinds.now ≡ kinds → s.desc ≡ 1 → AreShapePartsAt image 1 (Some s)
  reported_at code_is kinds_is desc_is = reported code_is kinds_is desc_is

  -- the code is that of the method
  body_is : (are : AreShapeParts image 1 s) → Runs (code_in pool parts) ≡ Runs (code_in are.pool (parts_of s.code.now))
  unfolding all_methods class_of_source
  body_is are = ap body_of are.there ∙ are.runs

  other_stack : s.code.now.max_stack ≡ 7 → AreShapeParts image 1 s → ⊥
  unfolding code_in
  other_stack is are = let e : 1 ≡ s.code.now.max_stack = ap stack_of (body_is are) in omega (arith, is, e)

  other_locals : s.code.now.max_locals ≡ 7 → AreShapeParts image 1 s → ⊥
  unfolding code_in
  other_locals is are = let e : 2 ≡ s.code.now.max_locals = ap locals_of (body_is are) in omega (arith, is, e)

  -- and what is kept at the index of its descriptor is what the descriptor says
  signature_left_out : call_at s.kinds.now.calls s.desc ≡ None → AreShapeParts image 1 s → ⊥
  unfolding all_methods class_of_source
  signature_left_out none are =
      let own : Some (record { parameters = []; result = None }) ≡ call_signature are.found.method.desc =
      ap signature_of are.there in
      none-some (record { parameters = []; result = None }) (sym none ∙ sym (are.kinds.calls s.desc are.desc.spelled) ∙ ap call_signature are.desc.is ∙ sym own)

  -- none of an abstract method, nor past the last one; and of the method with code they may not be left out
  of_abstract : AreShapeParts image 0 s → ⊥
  unfolding all_methods class_of_source
  of_abstract are = let e : Abstract ≡ Runs (code_in are.pool (parts_of s.code.now)) = ap body_of are.there ∙ are.runs in absurd cc

  past_last : AreShapeParts image 2 s → ⊥
  unfolding all_methods class_of_source
  past_last are = none-some are.found are.there

none_of_abstract : AreShapePartsAt image 0 None
unfolding all_methods class_of_source
none_of_abstract other code there runs = let e : Abstract ≡ Runs code = ap body_of there ∙ runs in absurd cc

parts_left_out : AreShapePartsAt image 1 None → ⊥
unfolding all_methods class_of_source
parts_left_out none = none found (code_in pool parts) refl refl

-- ---- what is kept at a place: of two classes, the second with an abstract method and one with code

abbrev at : ℕ → ℕ → Place
at class member = record { class = class; member = member }

module _ (p q : ClassParts) (code : MethodCode) (p_codes : p.codes.items ≡ None ∷ []) (q_codes : q.codes.items ≡ None ∷ Some code ∷ []) (q_descs : q.descs.items ≡ 5 ∷ 6 ∷ []) where
  abbrev kept : ℕ → KeptShape
  kept desc = record { kinds = q.kinds; desc = desc; code = code }

  abbrev member : ClassParts → ℕ → List (Option MethodCode) → Option KeptShape
  member parts k codes = option_map (shape_of parts k) (option_and_then (λ (code : Option MethodCode). code) (slice_get codes k))

  kept_second : shape_kept (p ∷ q ∷ []) (at 1 1) ≡ Some (kept 6)
  kept_second = ap (member q 1) q_codes ∙ ap (λ (descs : List ℕ). Some (kept (get_or descs 1 0))) q_descs

  -- none of a method without code, of a method past the last one, and of a class past the last one
  kept_none : (shape_kept (p ∷ q ∷ []) (at 0 0) ≡ None) × (shape_kept (p ∷ q ∷ []) (at 1 0) ≡ None) × (shape_kept (p ∷ q ∷ []) (at 1 2) ≡ None) × (shape_kept (p ∷ q ∷ []) (at 2 0) ≡ None)
  kept_none = (ap (member p 0) p_codes, ap (member q 0) q_codes, ap (member q 2) q_codes, refl)

  second_left_out : shape_in 1 q ≡ None → ⊥
  second_left_out e = none-some (kept 6) (sym e ∙ kept_second)

  desc_of_first : shape_in 1 q ≡ Some (kept 5) → ⊥
  desc_of_first e =
      let other : 6 ≡ 5 = ap (λ (k : KeptShape). k.desc) (same_Some (kept 6) (kept 5) (sym kept_second ∙ e)) in
      omega (arith, other)

lent : (s : ShapeParts) → shape_lent s ≡ record { kinds = s.kinds.now; desc = s.desc; code = s.code.now }
lent s = refl
