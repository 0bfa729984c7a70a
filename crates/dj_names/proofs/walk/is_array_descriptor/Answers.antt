use Rattle.std.proofs.Common.{◌≤◌, eqb, arith}
use Rattle.std.proofs.lemmas.Bool.{not-true, eqb-false, ne_eqb, not_from_false}
use Rattle.std.proofs.lemmas.Bool.Decides.{same_from_decides}
use Rattle.dj_names.proofs.DescLaws.{array_from_dims, dims_from_array, no_array}
use Rattle.dj_names.proofs.TestLaws.{array_descriptor_test-decides}
use Rattle.dj_names.proofs.walk.is_array_descriptor.Goals as goal

pub returns-in-Some-clause-means : goal.returns-in-Some-clause-means
returns-in-Some-clause-means c = (
  (λ e.
      let some = eqb-false c.in-Some.dims 0 (not-true (eqb c.in-Some.dims 0) e) in
      array_from_dims c.args.text.now c.in-Some.dims c.in-Some.ensures (omega (arith, some))),
  (λ d.
      let some : 1 ≤ c.in-Some.dims = dims_from_array c.args.text.now c.in-Some.dims c.in-Some.ensures d in
      not_from_false (eqb c.in-Some.dims 0) (ne_eqb c.in-Some.dims 0 (λ h. absurd (omega arith)))),
)

pub returns-in-Some-clause-computes : goal.returns-in-Some-clause-computes
returns-in-Some-clause-computes c = same_from_decides _ _ (returns-in-Some-clause-means c) (array_descriptor_test-decides c.args.text.now)

pub returns-in-None-clause-means : goal.returns-in-None-clause-means
returns-in-None-clause-means c = (
  (λ e. absurd (cc)),
  (λ d. absurd (no_array c.args.text.now c.in-None.ensures d)),
)

pub returns-in-None-clause-computes : goal.returns-in-None-clause-computes
returns-in-None-clause-computes c = same_from_decides _ _ (returns-in-None-clause-means c) (array_descriptor_test-decides c.args.text.now)
