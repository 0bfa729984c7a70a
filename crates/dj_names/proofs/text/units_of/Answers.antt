use Rattle.std.proofs.Common.{◌≡◌, ◌-◌, length, sym, subst, ◌∙◌}
use Rattle.dj_names.proofs.UnitLaws.{SpellsUpTo, one_more, breaks_here, some_left}
use Rattle.dj_names.proofs.text.units_of.Goals as goal

pub loop-rest-preserved : goal.loop-rest-preserved
loop-rest-preserved c =
    subst (λ units. SpellsUpTo c.args.text.now units c.in-Some.after.now) (sym c.in_ok-push-in-Some.ensures.ok)
    (one_more c.args.text.now c.loop-rest.units c.loop-rest.rest.now c.in-Some.unit c.in-Some.after.now (sym c.in-Some.ensures.reads) c.loop-rest.invariant)

pub returns-in-None-clause-broken : goal.returns-in-None-clause-broken
returns-in-None-clause-broken c place e =
    let place-is : place ≡ length c.args.text.now - length c.loop-rest.rest.now = cc in
    breaks_here c.args.text.now c.loop-rest.units c.loop-rest.rest.now place place-is (some_left c.loop-rest.rest.now (sym c.is_empty.ensures ∙ c.loop-rest-test.true)) (sym c.in-None.ensures.reads) c.loop-rest.invariant
