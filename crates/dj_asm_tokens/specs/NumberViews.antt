-- What the code's numbers show.
use Rattle.dj_asm_tokens.specs.declared.number.Number as the_number
use Rattle.dj_asm_tokens.specs.declared.number.Number.TheVariants as numbers
use Rattle.dj_asm_tokens.specs.Numbers.{InField, Value, Outside, NoNumber}

abbrev pub number_view : the_number.Number → InField
number_view (numbers.Value n) = Value n
number_view numbers.Outside = Outside
number_view numbers.NoNumber = NoNumber
