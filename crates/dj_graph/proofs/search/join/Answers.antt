use Rattle.std.proofs.Common.{List, ℕ, length, sym, ◌∙◌, ap, subst}
use Rattle.dj_graph.specs.Searches.{IsLast}
use Rattle.dj_graph.proofs.Starts.{IsJoining, joining_more, joined, joined_none}
use Rattle.dj_graph.proofs.StepLemmas.{popped}
use Rattle.dj_graph.proofs.search.join.Goals as goal

pub loop-last-preserved : goal.loop-last-preserved
loop-last-preserved c =
    let now : List ℕ = c.loop-last.starts.items in
    let last : IsLast now c.in-Some.last = subst (λ xs. IsLast xs c.in-Some.last) c.deref.ensures.value c.in-Some.ensures.some in
    subst (IsJoining c.args.place c.args.starts.now.items) (sym (popped c.loop-last.starts c.pop.new.self c.pop.ensures.rest)) (joining_more c.args.place c.in-Some.last c.args.starts.now.items now c.loop-last.invariant last c.if-last-place.false)

pub returns-then-last-place : goal.returns-then-last-place
returns-then-last-place c =
    let last : IsLast c.loop-last.starts.items c.in-Some.last = subst (λ xs. IsLast xs c.in-Some.last) c.deref.ensures.value c.in-Some.ensures.some in
    joined c.args.place c.in-Some.last c.args.starts.now.items c.loop-last.starts.items c.requires c.loop-last.invariant last c.if-last-place.true

pub returns-in_default : goal.returns-in_default
returns-in_default c = joined_none c.args.place c.args.starts.now.items c.loop-last.starts.items c.loop-last.invariant (ap length (sym c.deref.ensures.value) ∙ c.in_default.ensures.none)
