use Rattle.std.proofs.Common.{◌*◌, ◌<◌, ℕ, List, get_or, sym, ◌∙◌, ap, subst}
use Rattle.dj_resolution.specs.Numbers.{with_new}
use Rattle.dj_resolution.proofs.Finding.{has_at}
use Rattle.dj_resolution.proofs.Marks.{all_more}
use Rattle.dj_resolution.proofs.numbers.Numbers.add_all.Goals as goal

pub add-requires : goal.add-requires
add-requires c =
    subst (λ (n : ℕ). get_or c.args.numbers.now c.loop-number.number-index 0 < n * 64) (sym c.loop-number.invariant.1)
    (c.requires (get_or c.args.numbers.now c.loop-number.number-index 0) (has_at c.args.numbers.now c.loop-number.number-index c.loop-number-test.true))

pub loop-number-preserved : goal.loop-number-preserved
loop-number-preserved c = (
  c.in_ok-add.ensures.list ∙ ap (λ (xs : List ℕ). with_new xs (get_or c.args.numbers.now c.loop-number.number-index 0)) c.loop-number.invariant.0
      ∙ sym (all_more c.args.self.now.list.items c.args.numbers.now c.loop-number.number-index c.loop-number-test.true),
  c.in_ok-add.ensures.bound ∙ c.loop-number.invariant.1,
)
