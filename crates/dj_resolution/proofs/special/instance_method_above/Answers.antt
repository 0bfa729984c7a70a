use Rattle.std.proofs.Common.{◌<◌, ◌≤◌, ℕ, Option, IfSome, length, sym, ◌∙◌, ap, subst}
use Rattle.std.specs.Option.{option_map}
use Rattle.dj_model.specs.trusted.Linking.{is_not_static}
use Rattle.dj_declarations.specs.trusted.Files.{desc_in}
use Rattle.dj_class_table.specs.Tables.{method_there, super_number}
use Rattle.dj_resolution.specs.Numbers.{method_found, most_above}
use Rattle.dj_resolution.proofs.Climbs.{IsClimbed, climb_begun, climbed_here, climbed_more, climbed_off, climbed_out, most_above_is}
use Rattle.dj_resolution.proofs.special.instance_method_above.Goals as goal

pub loop-init : goal.loop-init
loop-init c = climb_begun (method_found c.args.table.now is_not_static c.args.name.now (desc_in c.args.desc.now)) c.args.table.now most_above c.args.class c.super_of-next.result c.super_of-next.ensures

pub returns-in_err-at : goal.returns-in_err-at
returns-in_err-at c = ap (option_map (method_there c.args.table.now)) c.from_residual.ensures ∙ climbed_off (method_found c.args.table.now is_not_static c.args.name.now (desc_in c.args.desc.now)) c.args.table.now most_above (super_number c.args.table.now c.args.class) c.loop.counter (subst (λ (o : Option ℕ). IsClimbed (method_found c.args.table.now is_not_static c.args.name.now (desc_in c.args.desc.now)) c.args.table.now most_above (super_number c.args.table.now c.args.class) c.loop.counter o) c.in_err-at.was c.loop.invariant)

pub instance_method_in-requires-clause-there : goal.instance_method_in-requires-clause-there
instance_method_in-requires-clause-there c = subst (λ (o : Option ℕ). IfSome o (λ k. k < length c.args.table.now)) c.in_ok-at.was c.loop.invariant.within

pub returns-in-Some : goal.returns-in-Some
returns-in-Some c =
    climbed_here (method_found c.args.table.now is_not_static c.args.name.now (desc_in c.args.desc.now)) c.args.table.now most_above (super_number c.args.table.now c.args.class) c.loop.counter c.in_ok-at.at (method_there c.args.table.now c.in-Some.place)
    (subst (λ (o : Option ℕ). IsClimbed (method_found c.args.table.now is_not_static c.args.name.now (desc_in c.args.desc.now)) c.args.table.now most_above (super_number c.args.table.now c.args.class) c.loop.counter o) c.in_ok-at.was c.loop.invariant) (subst (λ (n : ℕ). c.loop.counter < n) (sym most_above_is) c.loop-test.true) c.in-Some.ensures

pub loop-preserved : goal.loop-preserved
loop-preserved c =
    climbed_more (method_found c.args.table.now is_not_static c.args.name.now (desc_in c.args.desc.now)) c.args.table.now most_above (super_number c.args.table.now c.args.class) c.loop.counter c.in_ok-at.at c.super_of-next-in-loop.result
    (subst (λ (o : Option ℕ). IsClimbed (method_found c.args.table.now is_not_static c.args.name.now (desc_in c.args.desc.now)) c.args.table.now most_above (super_number c.args.table.now c.args.class) c.loop.counter o) c.in_ok-at.was c.loop.invariant) (subst (λ (n : ℕ). c.loop.counter < n) (sym most_above_is) c.loop-test.true) c.in_default.ensures c.super_of-next-in-loop.ensures

pub returns : goal.returns
returns c = climbed_out (method_found c.args.table.now is_not_static c.args.name.now (desc_in c.args.desc.now)) c.args.table.now most_above (super_number c.args.table.now c.args.class) c.loop.counter c.loop.next c.loop.invariant (subst (λ (n : ℕ). n ≤ c.loop.counter) (sym most_above_is) c.loop-test.false)
