use Rattle.std.proofs.Common.{ℕ, List, take, get_or, None, sym, ap, ◌∙◌}
use Rattle.std.proofs.lemmas.List.{take_more}
use Rattle.dj_initialisation.specs.Initialisers.{pushed, with_initialiser}
use Rattle.dj_initialisation.proofs.InitialiserLaws.{pushed_push}
use Rattle.dj_initialisation.proofs.pushing.push_all.Goals as goal

pub loop-class-preserved : goal.loop-class-preserved
loop-class-preserved c =
    let each = c.args.initialisers.now in
    let classes = c.args.classes.now in
    let index = c.loop-class.class-index in
    c.in_ok-push_one.ensures
    ∙ ap (with_initialiser (get_or each (get_or classes index 0) None)) c.loop-class.invariant
    ∙ sym (pushed_push each (take index classes) (get_or classes index 0) c.args.frames.now)
    ∙ ap (λ (ks : List ℕ). pushed each ks c.args.frames.now) (sym (take_more classes index 0 c.loop-class-test.true))
