-- The reader's own: whether a colon ends a word.
use Rattle.std.specs.Prelude.{ℕ, Bool, List, is_some}
use Rattle.dj_asm_tokens.specs.WordReading.{before_colon}

abbrev pub ends_colon : List ℕ → Bool
ends_colon word = is_some (before_colon word)
