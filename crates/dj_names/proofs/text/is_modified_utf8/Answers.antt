use Rattle.std.proofs.lemmas.Bool.Decides.{same_from_decides}
use Rattle.dj_names.proofs.TestLaws.{modified_utf8_test-decides}
use Rattle.dj_names.proofs.text.is_modified_utf8.Goals as goal

pub returns-clause-computes : goal.returns-clause-computes
returns-clause-computes c = same_from_decides _ _ c.spells_units.ensures (modified_utf8_test-decides c.args.text.now)
