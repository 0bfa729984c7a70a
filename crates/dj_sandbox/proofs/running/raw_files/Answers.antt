use Rattle.std.proofs.Common.{Some, map, refl, subst, inl, inr}
use Rattle.std.proofs.lemmas.Result.{err_from_is_err_and}
use Rattle.dj_edge.proofs.Lists.{ok_so}
use Rattle.dj_report.specs.trusted.Stages.{IsDecided}
use Rattle.dj_file_rules.specs.Views.{path_file_view}
use Rattle.dj_host.specs.trusted.Hosted.{given_since}
use Rattle.dj_class_set.specs.trusted.Judging.{RunsRaw, raw_stages}
use Rattle.dj_class_set.specs.RawDecisions.{IsRawDecided}
use Rattle.dj_sandbox.proofs.GivenNothing.{gave_nothing}
use Rattle.dj_sandbox.proofs.RunLaws.{not_silent, adds_none, adds_nothing}
use Rattle.dj_sandbox.proofs.running.raw_files.Goals as goal

pub returns-in_err-violations-clause-runs : goal.returns-in_err-violations-clause-runs
returns-in_err-violations-clause-runs g c =
    let p = err_from_is_err_and c.from_residual.result c.from_residual.ensures.1 in
    adds_nothing (map path_file_view c.args.files.now) c.args.entry.now c.args.input.now c.args.steps (given_since (g.H.Host.given c.args.host.now) (g.H.Host.given c.args.host.now))
    (g.E.Engine.runs c.args.engine.now) c.from_residual.result p.0 p.1

pub returns-in_err-violations-clause-quiet : goal.returns-in_err-violations-clause-quiet
returns-in_err-violations-clause-quiet g c = λ violated. refl

pub returns-in_err-violations-clause-gave : goal.returns-in_err-violations-clause-gave
returns-in_err-violations-clause-gave g c = gave_nothing (g.H.Host.given c.args.host.now)

pub returns-in-Rejected-clause-decided : goal.returns-in-Rejected-clause-decided
returns-in-Rejected-clause-decided g c =
    let judged = subst (IsRawDecided (map path_file_view c.args.files.now) c.args.entry.now) c.in-Rejected.is c.in_ok-violations.ensures in
    inl (c.in-Rejected.violations, refl, judged.0, judged.1)

pub returns-in-Rejected-clause-runs : goal.returns-in-Rejected-clause-runs
returns-in-Rejected-clause-runs g c =
    let files = map path_file_view c.args.files.now in
    let judged = subst (IsRawDecided files c.args.entry.now) c.in-Rejected.is c.in_ok-violations.ensures in
    adds_none files c.args.entry.now c.args.input.now c.args.steps (given_since (g.H.Host.given c.args.host.now) (g.H.Host.given c.args.host.now)) (g.E.Engine.runs c.args.engine.now)
    (not_silent files c.args.entry.now c.in-Rejected.violations judged.0 judged.1)

pub returns-in-Rejected-clause-quiet : goal.returns-in-Rejected-clause-quiet
returns-in-Rejected-clause-quiet g c = λ violated. refl

pub returns-in-Rejected-clause-gave : goal.returns-in-Rejected-clause-gave
returns-in-Rejected-clause-gave g c = gave_nothing (g.H.Host.given c.args.host.now)

pub run_files-requires-clause-silent : goal.run_files-requires-clause-silent
run_files-requires-clause-silent g c =
    (subst (IsRawDecided (map path_file_view c.args.files.now) c.args.entry.now) c.in-Accepted.is c.in_ok-violations.ensures).0

pub run_files-requires-clause-linked : goal.run_files-requires-clause-linked
run_files-requires-clause-linked g c =
    (subst (IsRawDecided (map path_file_view c.args.files.now) c.args.entry.now) c.in-Accepted.is c.in_ok-violations.ensures).1

pub returns-in-Accepted-clause-decided : goal.returns-in-Accepted-clause-decided
returns-in-Accepted-clause-decided g c =
    let files = map path_file_view c.args.files.now in
    let gave = given_since (g.H.Host.given c.args.host.now) (g.H.Host.given c.run_files.new.host) in
    let judged = subst (IsRawDecided files c.args.entry.now) c.in-Accepted.is c.in_ok-violations.ensures in
    ok_so c.run_files.result (λ report. RunsRaw files c.args.entry.now c.args.input.now c.args.steps gave (Some report))
    (IsDecided (raw_stages files c.args.entry.now c.args.input.now c.args.steps gave)) (λ report runs. inr (judged.0, inl runs)) c.run_files.ensures.ran

pub returns-in-Accepted-clause-quiet : goal.returns-in-Accepted-clause-quiet
returns-in-Accepted-clause-quiet g c = λ violated.
    absurd (violated (subst (IsRawDecided (map path_file_view c.args.files.now) c.args.entry.now) c.in-Accepted.is c.in_ok-violations.ensures).0)
