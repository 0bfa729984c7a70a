use Rattle.std.proofs.Common.{ℕ, ◌≡◌, List, map, subst}
use Rattle.dj_file_rules.specs.Lines.{texts_of, turned_texts_of}
use Rattle.dj_file_rules.proofs.PairTexts.{turned_twice}
use Rattle.dj_file_rules.proofs.texts.each_text_once.Goals as goal

pub returns : goal.returns
returns c =
    turned_twice c.args.pool.now c.args.pairs.items c.each_once.result.items c.in_ok-by_name.by_name.items c.each_once-2.result.items c.in_ok-by_descriptor.by_descriptor.items c.each_once-3.result.items
    c.each_once.ensures
    (subst (λ (pairs : List (ℕ × ℕ)). map (turned_texts_of c.args.pool.now) c.in_ok-by_name.by_name.items ≡ map (texts_of c.args.pool.now) pairs) c.deref.ensures.value c.in_ok-by_name.ensures)
    c.each_once-2.ensures
    (subst (λ (pairs : List (ℕ × ℕ)). map (turned_texts_of c.args.pool.now) c.in_ok-by_descriptor.by_descriptor.items ≡ map (texts_of c.args.pool.now) pairs) c.deref-2.ensures.value c.in_ok-by_descriptor.ensures)
    c.each_once-3.ensures
