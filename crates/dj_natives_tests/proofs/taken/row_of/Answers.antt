use Rattle.std.proofs.Common.{rules, sym}
use Rattle.std.proofs.lemmas.List.Elements.{All-from_recursion, All-get_or}
use denote.Enum.Bare.{same_true}
use Rattle.dj_names.specs.contracts.native.NativeId.{the_type}
use Rattle.dj_natives_tests.specs.Arguments.{IsTaken}
use Rattle.dj_natives_tests.proofs.taken.row_of.Goals as goal

pub returns-then-eq : goal.returns-then-eq
returns-then-eq c = (
  same_true the_type (search rules) _ _ (sym c.if-eq.ensures),
  All-get_or IsTaken c.rows-row-items.result.now c.loop-row.row-index _ c.loop-row-test.true (All-from_recursion IsTaken c.rows-row-items.result.now c.rows-row-items.ensures),
)
