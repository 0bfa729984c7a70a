-- The command line is one whose matches and refusals clap's definitions give.
use Rattle.std.proofs.Common.{◌≡◌, true, refl}
use Rattle.dj_command_line.specs.WordsApp.{app}
use Rattle.clap.specs.Words.{is_simple, is_simple_and_free}

pub simple : is_simple app ≡ true
simple = refl

pub free : is_simple_and_free app ≡ true
free = refl
