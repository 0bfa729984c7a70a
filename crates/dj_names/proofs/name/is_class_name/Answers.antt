use Rattle.std.proofs.Common.{sym, ◌∙◌}
use Rattle.std.proofs.lemmas.Bool.Decides.{same_from_decides}
use Rattle.dj_names.proofs.NameLaws.{class_name_read, reads_class}
use Rattle.dj_names.proofs.TestLaws.{class_name_test-decides}
use Rattle.dj_names.proofs.name.is_class_name.Goals as goal

pub returns-clause-means : goal.returns-clause-means
returns-clause-means c = (
  (λ e. class_name_read c.args.text.now (sym c.names_class.ensures ∙ e)),
  (λ n. c.names_class.ensures ∙ reads_class c.args.text.now n),
)

pub returns-clause-computes : goal.returns-clause-computes
returns-clause-computes c = same_from_decides _ _ (returns-clause-means c) (class_name_test-decides c.args.text.now)
