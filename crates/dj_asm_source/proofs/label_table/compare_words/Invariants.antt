use Rattle.std.proofs.Common.{◌≡◌, length}
use Rattle.std.specs.Cmp.Lexicographic.{slice_cmp}
use Rattle.std.specs.Ordering.{nat_cmp}
use Rattle.dj_asm_tokens.specs.trusted.Words.{word_units}
use Rattle.dj_asm_source.proofs.label_table.compare_words.Given as goal

-- what is left of both decides
abbrev pub invariant-loop-unit : goal.invariant-loop-unit
invariant-loop-unit l = slice_cmp nat_cmp (word_units 0 l.first) (word_units 0 l.second) ≡ slice_cmp nat_cmp (word_units 0 l.left) (word_units 0 l.right)

abbrev pub decreases-loop-unit : goal.decreases-loop-unit
decreases-loop-unit l = length l.first
