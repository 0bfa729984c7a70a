use Rattle.std.proofs.Common.{◌≡◌, Some, None, sym, ◌∙◌, subst}
use Rattle.dj_image.specs.declared.operand.Operand.{Operand}
use Rattle.dj_image.specs.Codes.{IsConstantAt}
use Rattle.dj_image.proofs.Standing.{stands, field_within_like}
use Rattle.dj_image.proofs.KeptPlaces.{constant_now}
use Rattle.dj_image.proofs.image.Image.constant.Goals as goal

pub place_of_field-place-requires : goal.place_of_field-place-requires
place_of_field-place-requires c = field_within_like (stands c.self.view_is c.self.invariant) c.args.field.number c.requires

pub unreachable-requires : goal.unreachable-requires
unreachable-requires c =
    let reported = constant_now c.self.view_is c.self.invariant c.args.field.number c.place_of_field-place.result c.place_of_field-place.ensures
    c.deref.result.now c.deref.ensures.value c.constant_at.result c.constant_at.ensures in
    let e : None ≡ Some reported.0 = sym c.in-None.is ∙ reported.1 in
    absurd cc

pub returns : goal.returns
returns c =
    let reported = constant_now c.self.view_is c.self.invariant c.args.field.number c.place_of_field-place.result c.place_of_field-place.ensures
    c.deref.result.now c.deref.ensures.value c.constant_at.result c.constant_at.ensures in
    let e : Some c.in-Some.operand ≡ Some reported.0 = sym c.in-Some.is ∙ reported.1 in
    let same : reported.0 ≡ c.in-Some.operand = cc in
    subst (λ (o : Operand). IsConstantAt c.args.self.now c.args.field.number o) same reported.2
