use Rattle.std.proofs.Common.{List, ℕ, ◌<◌, length, All, refl, sym, ◌∙◌, subst}
use Rattle.std.proofs.lemmas.Bool.{false≢true}
use Rattle.dj_graph.proofs.Insides.{inside_none, inside_more, inside_all, not_inside}
use Rattle.dj_graph.proofs.graph.is_inside.Goals as goal

pub loop-targets-init : goal.loop-targets-init
loop-targets-init c = inside_none c.args.edges.now

pub loop-targets-preserved : goal.loop-targets-preserved
loop-targets-preserved c =
    let below : All (λ target. target < length c.args.edges.now) c.targets-item.result.items =
    subst (λ (ts : List ℕ). All (λ target. target < length c.args.edges.now) ts) c.deref.ensures.value (c.all_below.ensures.0 c.if-not-all_below.false) in
    inside_more c.args.edges.now c.loop-targets.targets-index c.targets-item.result c.loop-targets.invariant c.loop-targets-test.true c.targets-item.is below

pub returns-then-not-all_below : goal.returns-then-not-all_below
returns-then-not-all_below c =
    let apart : All (λ target. target < length c.args.edges.now) c.targets-item.result.items → ⊥ = λ below.
    (let here = c.all_below.ensures.1 (subst (λ (ts : List ℕ). All (λ target. target < length c.args.edges.now) ts) (sym c.deref.ensures.value) below) in
    absurd (false≢true (sym c.if-not-all_below.true ∙ here))) in
    (λ yes. absurd (false≢true yes), λ inside. absurd (not_inside c.args.edges.now c.loop-targets.targets-index c.targets-item.result c.loop-targets-test.true c.targets-item.is apart inside))

pub returns : goal.returns
returns c = (λ yes. inside_all c.args.edges.now c.loop-targets.targets-index c.loop-targets.invariant c.loop-targets-test.false, λ inside. refl)
