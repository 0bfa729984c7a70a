use Rattle.std.proofs.Common.{map, sym, subst}
use Rattle.std.proofs.lemmas.Result.{err_from_is_err_and}
use Rattle.dj_file_rules.specs.Views.{path_file_view}
use Rattle.dj_host.specs.trusted.Hosted.{given_since}
use Rattle.dj_sandbox.specs.Runs.{AddsRawRuns}
use Rattle.dj_sandbox.proofs.GivenNothing.{gave_nothing}
use Rattle.dj_sandbox.proofs.RunLaws.{image_sound, image_entry, runs_unstopped, runs_raw, adds_reported, adds_nothing}
use Rattle.dj_sandbox.proofs.running.run_files.Goals as goal

pub image_of_files-requires-clause-silent : goal.image_of_files-requires-clause-silent
image_of_files-requires-clause-silent g c = (c.args.entry.now, c.requires.silent)

pub returns-in_err-image-clause-runs : goal.returns-in_err-image-clause-runs
returns-in_err-image-clause-runs g c =
    let p = err_from_is_err_and c.from_residual.result c.from_residual.ensures.1 in
    adds_nothing (map path_file_view c.args.files.now) c.args.entry.now c.args.input.now c.args.steps (given_since (g.H.Host.given c.args.host.now) (g.H.Host.given c.args.host.now))
    (g.E.Engine.runs c.args.engine.now) c.from_residual.result p.0 p.1

pub returns-in_err-image-clause-gave : goal.returns-in_err-image-clause-gave
returns-in_err-image-clause-gave g c = gave_nothing (g.H.Host.given c.args.host.now)

pub returns-in_err-ending-clause-runs : goal.returns-in_err-ending-clause-runs
returns-in_err-ending-clause-runs g c =
    let files = map path_file_view c.args.files.now in
    let gave = given_since (g.H.Host.given c.args.host.now) (g.H.Host.given c.run_image.new.host) in
    let result = c.from_residual-in_err-ending.result in
    let p = err_from_is_err_and result c.from_residual-in_err-ending.ensures.1 in
    subst (AddsRawRuns files c.args.entry.now c.args.input.now c.args.steps gave (g.E.Engine.runs c.args.engine.now) (g.E.Engine.runs c.run_image.new.engine)) (sym p.1) c.in_err-ending.ensures.runs

pub run_image-requires-clause-sound : goal.run_image-requires-clause-sound
run_image-requires-clause-sound g c = image_sound (map path_file_view c.args.files.now) c.args.entry.now c.in_ok-image.image c.in_ok-image.ensures c.requires.silent

pub run_image-requires-clause-entry : goal.run_image-requires-clause-entry
run_image-requires-clause-entry g c = image_entry (map path_file_view c.args.files.now) c.args.entry.now c.in_ok-image.image c.in_ok-image.ensures c.requires.silent

pub report_of-requires : goal.report_of-requires
report_of-requires g c =
    runs_unstopped (map path_file_view c.args.files.now) c.args.entry.now c.in_ok-image.image c.in_ok-image.ensures c.requires.silent c.args.input.now c.args.steps
    (given_since (g.H.Host.given c.args.host.now) (g.H.Host.given c.run_image.new.host)) c.in_ok-ending.ending c.in_ok-ending.ensures.ran

pub returns-clause-ran : goal.returns-clause-ran
returns-clause-ran g c =
    let files = map path_file_view c.args.files.now in
    let gave = given_since (g.H.Host.given c.args.host.now) (g.H.Host.given c.run_image.new.host) in
    runs_raw files c.args.entry.now c.in_ok-image.image c.in_ok-image.ensures c.requires.silent c.args.input.now c.args.steps gave c.in_ok-ending.ending c.report_of.result c.in_ok-ending.ensures.ran
    c.report_of.ensures.reported

pub returns-clause-runs : goal.returns-clause-runs
returns-clause-runs g c =
    let files = map path_file_view c.args.files.now in
    let gave = given_since (g.H.Host.given c.args.host.now) (g.H.Host.given c.run_image.new.host) in
    adds_reported files c.args.entry.now c.in_ok-image.image c.in_ok-image.ensures c.requires.silent c.args.input.now c.args.steps gave
    (g.E.Engine.runs c.args.engine.now) (g.E.Engine.runs c.run_image.new.engine) c.in_ok-ending.ending c.in_ok-ending.ensures.ran c.in_ok-ending.ensures.runs
