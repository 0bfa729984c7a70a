use Rattle.std.proofs.Common.{◌<◌, ◌≤◌, ℕ, Option, IfSome, length, sym, ◌∙◌, ap, subst}
use Rattle.std.specs.Option.{option_map}
use Rattle.dj_model.specs.trusted.Linking.{is_plain, most_classes}
use Rattle.dj_declarations.specs.trusted.Files.{desc_in}
use Rattle.dj_class_table.specs.Tables.{method_there}
use Rattle.dj_resolution.specs.Numbers.{method_found}
use Rattle.dj_resolution.proofs.Climbs.{IsClimbed, climbed_here, climbed_more, climbed_off, climbed_out}
use Rattle.dj_resolution.proofs.Levels.{most_is}
use Rattle.dj_resolution.proofs.Selections.{climb_from}
use Rattle.dj_resolution.proofs.select.plain_method_from.Goals as goal

pub loop-init : goal.loop-init
loop-init c = climb_from (method_found c.args.table.now is_plain c.args.name.now (desc_in c.args.desc.now)) c.args.table.now most_classes c.args.class c.requires.there

pub returns-in_err-at : goal.returns-in_err-at
returns-in_err-at c =
    ap (option_map (method_there c.args.table.now)) c.from_residual.ensures
    ∙ climbed_off (method_found c.args.table.now is_plain c.args.name.now (desc_in c.args.desc.now)) c.args.table.now most_classes c.args.class c.loop.counter
    (subst (λ (o : Option ℕ). IsClimbed (method_found c.args.table.now is_plain c.args.name.now (desc_in c.args.desc.now)) c.args.table.now most_classes c.args.class c.loop.counter o) c.in_err-at.was c.loop.invariant)

pub plain_method_in-requires-clause-there : goal.plain_method_in-requires-clause-there
plain_method_in-requires-clause-there c = subst (λ (o : Option ℕ). IfSome o (λ k. k < length c.args.table.now)) c.in_ok-at.was c.loop.invariant.within

pub returns-in-Some : goal.returns-in-Some
returns-in-Some c =
    climbed_here (method_found c.args.table.now is_plain c.args.name.now (desc_in c.args.desc.now)) c.args.table.now most_classes c.args.class c.loop.counter c.in_ok-at.at (method_there c.args.table.now c.in-Some.place)
    (subst (λ (o : Option ℕ). IsClimbed (method_found c.args.table.now is_plain c.args.name.now (desc_in c.args.desc.now)) c.args.table.now most_classes c.args.class c.loop.counter o) c.in_ok-at.was c.loop.invariant)
    (subst (λ (n : ℕ). c.loop.counter < n) (sym most_is) c.loop-test.true) c.in-Some.ensures

pub loop-preserved : goal.loop-preserved
loop-preserved c =
    climbed_more (method_found c.args.table.now is_plain c.args.name.now (desc_in c.args.desc.now)) c.args.table.now most_classes c.args.class c.loop.counter c.in_ok-at.at c.super_of-next.result
    (subst (λ (o : Option ℕ). IsClimbed (method_found c.args.table.now is_plain c.args.name.now (desc_in c.args.desc.now)) c.args.table.now most_classes c.args.class c.loop.counter o) c.in_ok-at.was c.loop.invariant)
    (subst (λ (n : ℕ). c.loop.counter < n) (sym most_is) c.loop-test.true) c.in_default.ensures c.super_of-next.ensures

pub returns : goal.returns
returns c =
    climbed_out (method_found c.args.table.now is_plain c.args.name.now (desc_in c.args.desc.now)) c.args.table.now most_classes c.args.class c.loop.counter c.loop.next c.loop.invariant
    (subst (λ (n : ℕ). n ≤ c.loop.counter) (sym most_is) c.loop-test.false)
