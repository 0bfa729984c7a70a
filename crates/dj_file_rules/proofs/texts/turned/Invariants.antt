use Rattle.std.proofs.Common.{◌≡◌, map, take}
use Rattle.dj_pool.specs.trusted.Pool.{text_at}
use Rattle.dj_file_rules.specs.Lines.{texts_of, turned_texts_of}
use Rattle.dj_file_rules.proofs.texts.turned.Given as goal

-- the pairs so far, and the first index that has the text of the last one's
abbrev pub invariant-loop-pair : goal.invariant-loop-pair
invariant-loop-pair l = (map (turned_texts_of l.pool) l.turned.items ≡ map (texts_of l.pool) (take l.pair-index l.pairs)) × (text_at l.pool l.first ≡ text_at l.pool l.index)
