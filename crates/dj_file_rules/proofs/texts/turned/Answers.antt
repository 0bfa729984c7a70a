use Rattle.std.proofs.Common.{ℕ, ◌≡◌, ◌∙◌, List, get_or, map, sym, ap, subst}
use Rattle.std.proofs.lemmas.List.{take_all}
use Rattle.dj_pool.specs.trusted.Pool.{text_at}
use Rattle.dj_file_rules.specs.Lines.{texts_of, turned_texts_of}
use Rattle.dj_file_rules.proofs.PairTexts.{turned_more}
use Rattle.dj_file_rules.proofs.texts.turned.Goals as goal
use Rattle.dj_file_rules.proofs.texts.turned.Goals.{then-pair-index+in_ok-first, else-pair-index}

pub loop-pair-preserved : goal.loop-pair-preserved
loop-pair-preserved c =
    let text : ℕ → _ = λ index. text_at c.args.pool.now index in
    let named : (c.if-pair-index.index ≡ (get_or c.args.pairs.now c.loop-pair.pair-index (0, 0)).0) × (text c.if-pair-index.first ≡ text c.if-pair-index.index) = elim c.if-pair-index.branch [
      | then-pair-index+in_ok-first w ↦ (w.index-is, ap text w.first-is ∙ w.in_ok-first.ensures ∙ sym (ap text w.index-is))
      | else-pair-index w ↦ (w.index-is ∙ sym w.if-pair-index.false, ap text w.first-is ∙ c.loop-pair.invariant.1 ∙ sym (ap text w.index-is))
    ] in (
      ap (map (turned_texts_of c.args.pool.now)) c.in_ok-push.ensures.items
          ∙ turned_more c.args.pool.now c.args.pairs.now c.loop-pair.turned.items c.loop-pair.pair-index (0, 0) c.if-pair-index.first c.loop-pair-test.true c.loop-pair.invariant.0 (named.1 ∙ ap text named.0),
      named.1,
    )

pub returns : goal.returns
returns c =
    subst (λ (pairs : List (ℕ × ℕ)). map (turned_texts_of c.args.pool.now) c.loop-pair.turned.items ≡ map (texts_of c.args.pool.now) pairs)
    (take_all c.loop-pair.pair-index c.args.pairs.now c.loop-pair-test.false) c.loop-pair.invariant.0
