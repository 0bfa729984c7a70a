use Rattle.std.proofs.Common.{rules, ◌≡◌, ℕ, Result, Ok, subst}
use Rattle.dj_ops.specs.declared.instruction.Instr.{Instr}
use Rattle.dj_ops.specs.declared.read.OpError.{OpError}
use Rattle.dj_ops.specs.Refusals.{Yields}
use Rattle.dj_labels.specs.Passes.{step_error, IsStep}
use Rattle.dj_labels.proofs.Steps.{stops, renamed}
use Rattle.dj_labels.proofs.starts.next_instr.Goals as goal

pub returns-clause-refused : goal.returns-clause-refused
returns-clause-refused c =
    let code = c.args.code.now in
    let at = c.args.at in
    renamed c.read_instr.result c.map_err.result (IsStep code at) (λ e. step_error at e) c.map_err.ensures.cases (λ e d learnt. search rules)
    (λ e is. stops code at e (λ instr next stands. subst (λ (r : Result (Instr × ℕ) OpError). Yields r (Ok (instr, next))) is (c.read_instr.ensures.all_read instr next stands)))
