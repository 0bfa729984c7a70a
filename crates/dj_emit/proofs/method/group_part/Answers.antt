use Rattle.std.proofs.Common.{rules, ◌≡◌, true, false}
use Rattle.std.proofs.lemmas.Result.{err_from_is_err_and}
use Rattle.dj_emit.specs.Charges.{is_new}
use Rattle.dj_emit.proofs.MethodFacts.{plain_is, new_at, new_part, new_refused}
use Rattle.dj_emit.proofs.method.group_part.Goals as goal

pub returns-then-not-makes_object : goal.returns-then-not-makes_object
returns-then-not-makes_object c =
    let plain : is_new c.args.instr.now ≡ false = search rules in
    plain_is c.args.image.now c.args.method.number c.args.number c.args.instr.now c.args.arrives c.plain_part.result c.requires plain
    c.plain_part.ensures.arrives c.plain_part.ensures.charge c.plain_part.ensures.popped

pub object_charge-requires : goal.object_charge-requires
object_charge-requires c =
    let new : is_new c.args.instr.now ≡ true = search rules in
    new_at c.args.image.now c.args.method.number c.args.number c.args.instr.now c.requires new

pub returns-in_err-charge : goal.returns-in_err-charge
returns-in_err-charge c =
    let new : is_new c.args.instr.now ≡ true = search rules in
    let p = err_from_is_err_and c.from_residual.result c.from_residual.ensures.1 in
    rw (p.1, p.2)
    (new_refused c.args.image.now c.args.method.number c.args.number c.args.instr.now c.args.arrives c.in_err-charge.field-0.0 c.requires new c.in_err-charge.ensures)

pub returns : goal.returns
returns c =
    let new : is_new c.args.instr.now ≡ true = search rules in
    new_part c.args.image.now c.args.method.number c.args.number c.args.instr.now c.args.arrives c.in_ok-charge.charge c.requires new c.in_ok-charge.ensures
