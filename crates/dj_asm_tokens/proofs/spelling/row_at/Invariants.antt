use Rattle.std.proofs.Common.{◌≡◌, drop, map}
use Rattle.dj_asm_tokens.specs.trusted.Words.{word_units}
use Rattle.dj_asm_tokens.specs.WordReading.{row_of}
use Rattle.dj_asm_tokens.specs.Tables.{row_view}
use Rattle.dj_asm_tokens.proofs.spelling.row_at.Given as goal

-- the rows that are left decide
abbrev pub invariant-loop-row : goal.invariant-loop-row
invariant-loop-row g l = row_of (map row_view (drop l.row-index l.rows)) (word_units 0 l.bytes) ≡ row_of (map row_view l.rows) (word_units 0 l.bytes)
