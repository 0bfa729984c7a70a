use Rattle.std.proofs.lemmas.Bool.Decides.{same_from_decides}
use Rattle.dj_names.proofs.TestLaws.{unqualified_name_test-decides}
use Rattle.dj_names.proofs.name.is_unqualified_name.Goals as goal

pub returns-clause-computes : goal.returns-clause-computes
returns-clause-computes c = same_from_decides _ _ c.unqualified.ensures (unqualified_name_test-decides c.args.text.now)
