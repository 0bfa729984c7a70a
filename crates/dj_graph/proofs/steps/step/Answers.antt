use Rattle.std.proofs.Common.{ℕ, ◌<◌, length, sym, ◌∙◌, ap, subst}
use Rattle.dj_graph.specs.declared.mark.NodeMark.TheVariants.{Open}
use Rattle.dj_graph.specs.Graphs.{edges_of}
use Rattle.dj_graph.specs.Searches.{IsLast}
use Rattle.dj_graph.proofs.Lists.{At, at_within}
use Rattle.dj_graph.proofs.StepLemmas.{all_low, none_low, steps_closed}
use Rattle.dj_graph.proofs.steps.step.Goals as goal
use Rattle.dj_graph.proofs.steps.step.Goals.{in_default-via-in-Some+else-place-start, in_default-via-in_default}

pub close-requires-clause-known : goal.close-requires-clause-known
close-requires-clause-known c i a at = at_within c.args.search.now.marks.items a (Open i) (c.requires.sound.path_is.placed i a at)

pub returns-in_default : goal.returns-in_default
returns-in_default c =
    let low : (s x : ℕ) → At c.args.search.now.work.items s x → x < c.args.start =
    elim c.in_default.branch [
      | in_default-via-in-Some+else-place-start w ↦ all_low c.args.search.now.work.items _ c.args.start c.requires.sound.work_is.rising (subst (λ xs. IsLast xs w.in-Some.place) c.deref.ensures.value w.in-Some.ensures.some) w.if-place-start.false
      | in_default-via-in_default w ↦ none_low c.args.search.now.work.items c.args.start (ap length (sym c.deref.ensures.value) ∙ w.in_default.ensures.none)
    ] in
    steps_closed (edges_of c.args.edges.now) c.args.search.now c.close.new.self c.args.start c.requires.sound c.requires.last low c.close.ensures
