use Rattle.std.proofs.Common.{◌≡◌, Some, None, sym, ◌∙◌, subst}
use Rattle.dj_image.specs.declared.operand.Operand.{Operand}
use Rattle.dj_image.specs.Codes.{IsOperandAt}
use Rattle.dj_image.proofs.KeptPlaces.{instr_within, operand_now}
use Rattle.dj_image.proofs.image.Image.operand.Goals as goal

pub place_of_method-place-requires : goal.place_of_method-place-requires
place_of_method-place-requires c = instr_within c.self.view_is c.self.invariant c.args.method.number c.args.number c.requires

pub unreachable-requires : goal.unreachable-requires
unreachable-requires c =
    let reported = operand_now c.self.view_is c.self.invariant c.args.method.number c.args.number c.place_of_method-place.result c.place_of_method-place.ensures c.requires
    c.deref.result.now c.deref-2.result.now c.deref-3.result.now c.deref.ensures.value c.deref-2.ensures.value c.deref-3.ensures.value
    c.operand_there.result c.operand_there.ensures in
    let e : None ≡ Some reported.0 = sym c.in-None.is ∙ reported.1 in
    absurd cc

pub returns : goal.returns
returns c =
    let reported = operand_now c.self.view_is c.self.invariant c.args.method.number c.args.number c.place_of_method-place.result c.place_of_method-place.ensures c.requires
    c.deref.result.now c.deref-2.result.now c.deref-3.result.now c.deref.ensures.value c.deref-2.ensures.value c.deref-3.ensures.value
    c.operand_there.result c.operand_there.ensures in
    let e : Some c.in-Some.operand ≡ Some reported.0 = sym c.in-Some.is ∙ reported.1 in
    let same : reported.0 ≡ c.in-Some.operand = cc in
    subst (λ (o : Operand). IsOperandAt c.args.self.now c.args.method.number c.args.number o) same reported.2
