use Rattle.dj_member_index.proofs.GatherLaws.{IsNumbering}
use Rattle.dj_member_index.proofs.gather.number_texts.Given as goal

-- the numbers so far
abbrev pub invariant-loop-place : goal.invariant-loop-place
invariant-loop-place l = IsNumbering l.fn.numbers l.numbers l.texts.texts l.place l.known.items
