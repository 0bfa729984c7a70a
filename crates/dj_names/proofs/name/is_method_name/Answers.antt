use Rattle.std.proofs.lemmas.Bool.Decides.{same_from_decides}
use Rattle.dj_names.proofs.TestLaws.{method_name_test-decides}
use Rattle.dj_names.proofs.name.is_method_name.Goals as goal

pub returns-clause-computes : goal.returns-clause-computes
returns-clause-computes c = same_from_decides _ _ c.names_method.ensures (method_name_test-decides c.args.text.now)
