use Rattle.std.proofs.Common.{ℕ, ◌+◌, take, get_or, sym, ap, ◌∙◌, arith}
use Rattle.std.proofs.lemmas.List.{take_more}
use Rattle.dj_initialisation.specs.Initialisers.{initialiser_count, one_if}
use Rattle.dj_initialisation.proofs.InitialiserLaws.{at_most_one, count_push}
use Rattle.dj_initialisation.proofs.pushing.count_of.Goals as goal

pub loop-class-preserved : goal.loop-class-preserved
loop-class-preserved c =
    let each = c.args.initialisers.now in
    let classes = c.args.classes.now in
    let index = c.loop-class.class-index in
    let few = c.loop-class.invariant.few in
    let one = at_most_one c.initialiser.result in
    record {
      is = ap (λ (n : ℕ). n + c.one_if-count.result) c.loop-class.invariant.is
          ∙ ap (λ (n : ℕ). initialiser_count each (take index classes) + n) (c.one_if-count.ensures ∙ ap one_if c.initialiser.ensures)
          ∙ sym (count_push each (take index classes) (get_or classes index 0))
          ∙ ap (initialiser_count each) (sym (take_more classes index 0 c.loop-class-test.true));
      few = omega (arith, few, one, c.one_if-count.ensures);
    }
