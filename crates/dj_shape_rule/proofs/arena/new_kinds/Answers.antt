use Rattle.std.proofs.Common.{◌≡◌, ◌++◌, [], ◌∷◌, List, Option, reverse, rules, sym, subst, arith}
use Rattle.std.proofs.lemmas.Bool.Decides.{nat_tests}
use Rattle.dj_names.specs.declared.descriptor.Kind.{Kind}
use Rattle.dj_shape_rule.specs.Arena.{slots_at}
use Rattle.dj_shape_rule.proofs.Links.{nothing_above, more_above, gone_more, shared_is}
use Rattle.dj_shape_rule.proofs.arena.new_kinds.Goals as goal

pub loop-first-init : goal.loop-first-init
loop-first-init c =
    let slots = c.args.slots.now in
    let none : c.clear.new.self.items ≡ [] = search rules in
    record {
      old = c.requires.old;
      new = c.requires.new;
      gone = ([], nothing_above (slots_at slots c.args.old.end));
      kinds = subst (λ (l : List (Option Kind)). slots_at slots c.args.new.end ≡ slots_at slots c.args.new.end ++ reverse l) (sym none) (nothing_above (slots_at slots c.args.new.end));
    }

pub below-kind-requires-clause-within : goal.below-kind-requires-clause-within
below-kind-requires-clause-within c = c.loop-first.invariant.new

pub below-requires-clause-within : goal.below-requires-clause-within
below-requires-clause-within c = c.loop-first.invariant.old

pub loop-first-preserved-then-first-second : goal.loop-first-preserved-then-first-second
loop-first-preserved-then-first-second c =
    let slots = c.args.slots.now in
    let so = c.loop-first.invariant in
    let under = c.below-kind.ensures in
    record {
      old = so.old;
      new = under.within;
      gone = so.gone;
      kinds = more_above (slots_at slots c.args.new.end) (slots_at slots c.loop-first.second.end) (slots_at slots c.below-kind.result.0.end) c.loop-first.kinds.items c.push.new.self.items c.below-kind.result.1
          so.kinds under.kinds c.in_ok-push.ensures.items;
    }

pub loop-first-preserved : goal.loop-first-preserved
loop-first-preserved c =
    let slots = c.args.slots.now in
    let so = c.loop-first.invariant in
    let under = c.below.ensures in
    record {
      old = under.within;
      new = so.new;
      gone = (c.below.result.1 ∷ so.gone.0, gone_more (slots_at slots c.args.old.end) (slots_at slots c.loop-first.first.end) (slots_at slots c.below.result.0.end) so.gone.0 c.below.result.1 so.gone.1 under.kinds);
      kinds = so.kinds;
    }

pub returns : goal.returns
returns c =
    let so = c.loop-first.invariant in
    let same : c.loop-first.first.end ≡ c.loop-first.second.end = grind (arith, nat_tests, c.loop-first-test.false) in
    shared_is c.args.slots.now c.args.old c.args.new c.loop-first.first c.loop-first.second so.gone.0 c.loop-first.kinds.items _ so.new same so.gone.1 so.kinds (search rules)
