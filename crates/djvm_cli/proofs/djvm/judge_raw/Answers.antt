use Rattle.std.proofs.Common.{◌≡◌, subst, ◌∙◌}
use Rattle.std.proofs.lemmas.Result.{err_from_is_err_and}
use Rattle.dj_names.specs.trusted.Types.{Name}
use Rattle.dj_report.specs.trusted.Stages.{IsDecided}
use Rattle.dj_host.specs.trusted.Hosted.{given_since}
use Rattle.dj_class_set.specs.trusted.Entry.{entry_name}
use Rattle.dj_class_set.specs.trusted.Judging.{raw_stages}
use Rattle.djvm_cli.proofs.Leaving.{raw_unmade, raw_reported, raw_stopped}
use Rattle.djvm_cli.proofs.djvm.judge_raw.Goals as goal

pub returns-in_err-class-clause-leaves : goal.returns-in_err-class-clause-leaves
returns-in_err-class-clause-leaves g c =
    let p = err_from_is_err_and c.from_residual.result c.from_residual.ensures.1 in
    raw_unmade c.args.set.now (entry_name c.args.entry.now) c.args.input.now c.args.steps (g.H.Host.given c.args.host.now) (g.E.Engine.runs c.args.engine.now) c.from_residual.result p.0 p.1

pub returns-clause-decided : goal.returns-clause-decided
returns-clause-decided g c =
    let class_is : c.as_slice.result.now ≡ entry_name c.args.entry.now = c.as_slice.ensures ∙ c.in_ok-class.ensures in
    subst (λ (class : Name). IsDecided (raw_stages c.args.set.now class c.args.input.now c.args.steps (given_since (g.H.Host.given c.args.host.now) (g.H.Host.given c.raw.new.host))) c.in_ok-raw.field-0)
    class_is c.in_ok-raw.ensures.decided

pub returns-clause-leaves : goal.returns-clause-leaves
returns-clause-leaves g c =
    let class_is : c.as_slice.result.now ≡ entry_name c.args.entry.now = c.as_slice.ensures ∙ c.in_ok-class.ensures in
    raw_reported c.args.set.now c.as_slice.result.now (entry_name c.args.entry.now) class_is c.args.input.now c.args.steps (g.H.Host.given c.args.host.now) (g.H.Host.given c.raw.new.host)
    (g.E.Engine.runs c.args.engine.now) (g.E.Engine.runs c.raw.new.engine) c.in_ok-raw.ensures.quiet c.in_ok-raw.ensures.gave c.in_ok-raw.field-0 c.in_ok-raw.ensures.runs

pub returns-in_err-raw-clause-leaves : goal.returns-in_err-raw-clause-leaves
returns-in_err-raw-clause-leaves g c =
    let class_is : c.as_slice.result.now ≡ entry_name c.args.entry.now = c.as_slice.ensures ∙ c.in_ok-class.ensures in
    let p = err_from_is_err_and c.from_residual-in_err-raw.result c.from_residual-in_err-raw.ensures.1 in
    raw_stopped c.args.set.now c.as_slice.result.now (entry_name c.args.entry.now) class_is c.args.input.now c.args.steps (g.H.Host.given c.args.host.now) (g.H.Host.given c.raw.new.host)
    (g.E.Engine.runs c.args.engine.now) (g.E.Engine.runs c.raw.new.engine) c.in_err-raw.ensures.quiet c.in_err-raw.ensures.gave c.in_err-raw.field-0.0 c.from_residual-in_err-raw.result p.0 p.1 c.in_err-raw.ensures.runs
