-- What the code's pairs of a switch show.
use Rattle.std.specs.Prelude.{ℤ}
use Rattle.dj_asm_source.specs.declared.targets.Pair as the_pair
use Rattle.dj_asm_source.specs.trusted.Lines.{Label}
use Rattle.dj_asm_tokens.specs.Views.{units_of}

abbrev pub pair_view : the_pair.Pair → ℤ × Label
pair_view pair = (pair.key, units_of pair.target)
