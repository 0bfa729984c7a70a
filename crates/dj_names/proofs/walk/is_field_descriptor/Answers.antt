use Rattle.std.proofs.Common.{sym, ◌∙◌}
use Rattle.std.proofs.lemmas.Bool.Decides.{same_from_decides}
use Rattle.dj_names.proofs.DescLaws.{field_from_test, test_from_field}
use Rattle.dj_names.proofs.TestLaws.{field_descriptor_test-decides}
use Rattle.dj_names.proofs.walk.is_field_descriptor.Goals as goal

pub returns-clause-means : goal.returns-clause-means
returns-clause-means c = (
  (λ e. field_from_test c.args.text.now (sym c.reads_field.ensures ∙ e)),
  (λ d. c.reads_field.ensures ∙ test_from_field c.args.text.now d),
)

pub returns-clause-computes : goal.returns-clause-computes
returns-clause-computes c = same_from_decides _ _ (returns-clause-means c) (field_descriptor_test-decides c.args.text.now)
