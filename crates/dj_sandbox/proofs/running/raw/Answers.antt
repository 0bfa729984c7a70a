use Rattle.std.proofs.Common.{◌≡◌, List, [], map, Ok, refl, subst}
use Rattle.std.proofs.lemmas.Result.{err_from_is_err_and}
use Rattle.dj_edge.specs.trusted.Held.{File}
use Rattle.dj_report.specs.trusted.Stages.{IsDecided}
use Rattle.dj_file_rules.specs.Views.{path_file_view}
use Rattle.dj_host.specs.trusted.Hosted.{given_since}
use Rattle.dj_sandbox.proofs.GivenNothing.{gave_nothing}
use Rattle.dj_class_set.specs.declared.error.SandboxError.{SandboxError}
use Rattle.dj_class_set.specs.trusted.Judging.{raw_stages}
use Rattle.dj_class_set.specs.trusted.RawRules.{AreRawViolations}
use Rattle.dj_class_set.proofs.Lending.{lent_view, lent_few, lent_short}
use Rattle.dj_sandbox.specs.Runs.{AddsRawRuns}
use Rattle.dj_sandbox.proofs.RunLaws.{adds_nothing, errs_alike}
use Rattle.dj_sandbox.proofs.running.raw.Goals as goal

pub returns-in_err-files-clause-runs : goal.returns-in_err-files-clause-runs
returns-in_err-files-clause-runs g c =
    let p = err_from_is_err_and c.from_residual.result c.from_residual.ensures.1 in
    adds_nothing c.args.set.now c.args.entry.now c.args.input.now c.args.steps (given_since (g.H.Host.given c.args.host.now) (g.H.Host.given c.args.host.now))
    (g.E.Engine.runs c.args.engine.now) c.from_residual.result p.0 p.1

pub returns-in_err-files-clause-quiet : goal.returns-in_err-files-clause-quiet
returns-in_err-files-clause-quiet g c = λ violated. refl

pub returns-in_err-files-clause-gave : goal.returns-in_err-files-clause-gave
returns-in_err-files-clause-gave g c = gave_nothing (g.H.Host.given c.args.host.now)

pub raw_files-requires-clause-few : goal.raw_files-requires-clause-few
raw_files-requires-clause-few g c = lent_few c.deref.result.now c.in_ok-files.files.items c.args.set.now c.deref.ensures.value c.in_ok-files.ensures.lent c.path_files.ensures.set

pub raw_files-requires-clause-short : goal.raw_files-requires-clause-short
raw_files-requires-clause-short g c = lent_short c.deref.result.now c.in_ok-files.files.items c.args.set.now c.deref.ensures.value c.in_ok-files.ensures.lent c.path_files.ensures.set

pub returns-clause-decided : goal.returns-clause-decided
returns-clause-decided g c =
    subst (λ (files : List File). IsDecided (raw_stages files c.args.entry.now c.args.input.now c.args.steps (given_since (g.H.Host.given c.args.host.now) (g.H.Host.given c.raw_files.new.host)))
    c.in_ok-raw_files.field-0)
    (lent_view c.deref.result.now c.in_ok-files.files.items c.args.set.now c.deref.ensures.value c.in_ok-files.ensures.lent) c.in_ok-raw_files.ensures.decided

pub returns-clause-runs : goal.returns-clause-runs
returns-clause-runs g c =
    subst (λ (files : List File). AddsRawRuns {E = SandboxError} files c.args.entry.now c.args.input.now c.args.steps
    (given_since (g.H.Host.given c.args.host.now) (g.H.Host.given c.raw_files.new.host))
    (g.E.Engine.runs c.args.engine.now) (g.E.Engine.runs c.raw_files.new.engine) (Ok c.in_ok-raw_files.field-0))
    (lent_view c.deref.result.now c.in_ok-files.files.items c.args.set.now c.deref.ensures.value c.in_ok-files.ensures.lent) c.in_ok-raw_files.ensures.runs

pub returns-in_err-raw_files-clause-runs : goal.returns-in_err-raw_files-clause-runs
returns-in_err-raw_files-clause-runs g c =
    let p = err_from_is_err_and c.from_residual-in_err-raw_files.result c.from_residual-in_err-raw_files.ensures.1 in
    errs_alike (map path_file_view c.deref.result.now) c.args.set.now c.args.entry.now c.args.input.now c.args.steps
    (given_since (g.H.Host.given c.args.host.now) (g.H.Host.given c.raw_files.new.host)) (g.E.Engine.runs c.args.engine.now) (g.E.Engine.runs c.raw_files.new.engine)
    c.in_err-raw_files.field-0 c.from_residual-in_err-raw_files.result p.0
    (lent_view c.deref.result.now c.in_ok-files.files.items c.args.set.now c.deref.ensures.value c.in_ok-files.ensures.lent) p.1 c.in_err-raw_files.ensures.runs

pub returns-clause-quiet : goal.returns-clause-quiet
returns-clause-quiet g c =
    subst (λ (files : List File). (AreRawViolations files c.args.entry.now [] → ⊥) → g.H.Host.given c.raw_files.new.host ≡ g.H.Host.given c.args.host.now)
    (lent_view c.deref.result.now c.in_ok-files.files.items c.args.set.now c.deref.ensures.value c.in_ok-files.ensures.lent) c.raw_files.ensures.quiet

pub returns-in_err-raw_files-clause-quiet : goal.returns-in_err-raw_files-clause-quiet
returns-in_err-raw_files-clause-quiet g c =
    subst (λ (files : List File). (AreRawViolations files c.args.entry.now [] → ⊥) → g.H.Host.given c.raw_files.new.host ≡ g.H.Host.given c.args.host.now)
    (lent_view c.deref.result.now c.in_ok-files.files.items c.args.set.now c.deref.ensures.value c.in_ok-files.ensures.lent) c.raw_files.ensures.quiet
