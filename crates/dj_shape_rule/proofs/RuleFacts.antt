-- Rule 19 on one method: a method that isn't static takes `this` too.
use Rattle.std.proofs.Common.{◌≡◌, [], ◌∷◌, Some, None, refl, sym, subst, ◌∙◌, true, arith, inl, inr}
use Rattle.std.proofs.lemmas.Option.{same_Some}
use Rattle.dj_names.specs.declared.descriptor.Kind.TheVariants as kinds
use Rattle.dj_names.specs.trusted.DescReading.{dims_read, name_read, class_read, of_read, type_read, params_read, field_read, return_read, method_read, desc_read}
use Rattle.dj_names.specs.trusted.NameReading.{reads_class_name}
use Rattle.dj_model.specs.trusted.Instructions.{Return}
use Rattle.dj_model.specs.trusted.Kinds.{Signature, frames_after}
use Rattle.dj_model.specs.trusted.Opcodes.{instruction_of, simple}
use Rattle.dj_model.specs.trusted.Shape.{after, state_before, HoldsAt, IsShapeFault}
use Rattle.dj_declarations.specs.trusted.Files.{desc_in}
use Rattle.dj_program.specs.trusted.Codes.{CodeParts, code_in}
use Rattle.dj_program.proofs.Once.{one_parts}
use Rattle.dj_program.proofs.CodeFacts.{names, returning, returns_with, stack_first}
use Rattle.dj_shape_rule.specs.trusted.Rule.{signature_at, LacksShape}

-- one local variable is too few for `this` and an int
other_lacks : LacksShape names (returning 0) (Some 0)
unfolding code_in desc_in dims_read name_read class_read of_read type_read params_read field_read return_read method_read desc_read reads_class_name
other_lacks = record {
  parts = returns_with 2 1;
  code = stack_first 0;
  signature = record { parameters = kinds.Ref ∷ kinds.Int ∷ []; result = None };
  kinds = refl;
  such = (refl, inl (λ few. absurd (omega (arith, few)), refl));
}

abbrev int_taken : Signature
int_taken = record { parameters = kinds.Int ∷ []; result = None }

int_alone : signature_at names true 2 ≡ Some int_taken
unfolding desc_in dims_read name_read class_read of_read type_read params_read field_read return_read method_read desc_read reads_class_name
int_alone = refl

holds : HoldsAt int_taken (code_in names (returns_with 2 1)) [] 0
unfolding code_in after state_before instruction_of simple
holds = record {
  before = record { locals = Some kinds.Int ∷ []; stack = [] };
  left = record { locals = Some kinds.Int ∷ []; stack = [] };
  instruction = Return None;
  state = refl;
  at = refl;
  found = refl;
  last = refl;
  begins = refl;
  goes_on = refl;
  jumps = refl;
  handles = refl;
  handled = refl;
}

no_fault : IsShapeFault int_taken (code_in names (returns_with 2 1)) (Some 0) → ⊥
unfolding code_in frames_after
no_fault f = elim f.1 [ inl is ↦ is.0 (omega arith) | inr is ↦ is.1.fault holds ]

-- for an int alone it is enough
static_has_shape : LacksShape names (returning 8) (Some 0) → ⊥
static_has_shape l =
    let same : l.parts ≡ returns_with 2 1 = one_parts names (returning 8) l.parts (returns_with 2 1) refl l.code (stack_first 8) in
    let taken : int_taken ≡ l.signature = same_Some int_taken l.signature (sym int_alone ∙ l.kinds) in
    no_fault (subst (λ (s : Signature). IsShapeFault s (code_in names (returns_with 2 1)) (Some 0)) (sym taken)
    (subst (λ (p : CodeParts). IsShapeFault l.signature (code_in names p) (Some 0)) same l.such))
