use Rattle.std.proofs.Common.{◌≡◌, ◌∙◌, ℕ, ◌+◌, suc, ap, subst, arith, length}
use Rattle.std.proofs.lemmas.List.{length-map}
use Rattle.dj_program.specs.trusted.Naming.{instruction_in}
use Rattle.dj_shape_rule.specs.Passing.{Before}
use Rattle.dj_shape_rule.proofs.Lists.{are_kept}
use Rattle.dj_shape_rule.proofs.pass.Pass.first_fault.Goals as goal

pub step-requires-clause-listed : goal.step-requires-clause-listed
step-requires-clause-listed c =
    are_kept c.args.method.now.frames c.args.self.now.state c.loop-number.self.state c.loop-number.invariant.room.1 c.loop-number.invariant.room.2 c.requires.listed

pub loop-number-preserved : goal.loop-number-preserved
loop-number-preserved c =
    let room = c.loop-number.invariant.room in
    let step = c.step.ensures.room in
    record {
      room = (step.0 ∙ room.0, step.1 ∙ room.1, step.2 ∙ room.2);
      before = λ case is first.
          let answers = rw c.if-not-branch.false at c.in_ok-step.ensures.answers in
          let next : suc c.loop-number.number ≡ c.loop-number.number + 1 = omega arith in
          subst (λ (n : ℕ). Before c.args.method.now case n c.step.new.self) next (answers case is (c.loop-number.invariant.before case is first));
    }

pub returns-then-not-branch-clause-first : goal.returns-then-not-branch-clause-first
returns-then-not-branch-clause-first c = λ case is first.
    let answers = rw c.if-not-branch.true at c.in_ok-step.ensures.answers in
    let a = answers case is (c.loop-number.invariant.before case is first) in
    let count = ap length is.instructions ∙ length-map c.args.method.now.code.now (instruction_in case.pool) in
    (omega (arith, count, c.loop-number-test.true), a.0, a.1)

pub returns-clause-first : goal.returns-clause-first
returns-clause-first c = λ case is first.
    let before = c.loop-number.invariant.before case is first in
    let many = before.many in
    let count = ap length is.instructions ∙ length-map c.args.method.now.code.now (instruction_in case.pool) in
    record {
      many = omega (arith, count, many, c.loop-number-test.false);
      each = λ other less. before.held other (omega (arith, count, less, c.loop-number-test.false));
    }
