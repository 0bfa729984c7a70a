use Rattle.std.proofs.Common.{◌≡◌, ℕ, List, None, IfSome, map, All, IsTrue, string_bytes, refl, sym, ap, ◌∙◌, subst, arith}
use Rattle.std.proofs.lemmas.Result.{err_from_is_err_and}
use Rattle.dj_edge.specs.trusted.Held.{is_class_path}
use Rattle.dj_edge.proofs.Lists.{reported_so, ok_so}
use Rattle.dj_report.specs.trusted.Stages.{IsDecided}
use Rattle.dj_host.specs.trusted.Hosted.{given_since}
use Rattle.djvm_cli.specs.declared.load.SourceFile.{SourceFile}
use Rattle.djvm_cli.specs.trusted.Report.{FindsInput, judging, within_folder, input_of}
use Rattle.dj_command_line.specs.Views.{folder_job_view}
use Rattle.djvm_cli.specs.Views.{source_view}
use Rattle.djvm_cli.proofs.Leaving.{IsReached, stopped, unreached, reached}
use Rattle.djvm_cli.proofs.Reporting.{too_many_unreached, absent_unreached, too_long_unreached, passed_unreached, read_whole, paths_listed, few_listed, class_paths_listed, paths_rise, paths_held, sources_class_paths, sources_few, sources_within, sources_rise, asks_input, asks_files, counted, found, passed, judged, Decides}
use Rattle.djvm_cli.proofs.djvm.report_of_folder.Goals as goal

pub returns-in_err-input-clause-asks : goal.returns-in_err-input-clause-asks
returns-in_err-input-clause-asks g c =
    asks_input (folder_job_view c.args.command) c.folder.result.now (g.F.Files.held c.args.files.now) c.in-Paths.paths.items
    (g.F.Files.asked c.args.files.now) (g.F.Files.asked c.list_paths.new.files) (g.F.Files.asked c.read_job_input.new.files)
    c.folder.ensures (paths_listed c.folder.result.now c.in-Paths.paths.items c.in-Paths.paths c.in_ok-paths.field-0 refl c.in-Paths.is
    (g.F.Files.held c.args.files.now) c.in_ok-paths.ensures.reported) c.in_ok-paths.ensures.asked c.read_job_input.ensures.asks

pub returns-in-Absent-clause-asks : goal.returns-in-Absent-clause-asks
returns-in-Absent-clause-asks g c =
    asks_input (folder_job_view c.args.command) c.folder.result.now (g.F.Files.held c.args.files.now) c.in-Paths.paths.items
    (g.F.Files.asked c.args.files.now) (g.F.Files.asked c.list_paths.new.files) (g.F.Files.asked c.read_job_input.new.files)
    c.folder.ensures (paths_listed c.folder.result.now c.in-Paths.paths.items c.in-Paths.paths c.in_ok-paths.field-0 refl c.in-Paths.is
    (g.F.Files.held c.args.files.now) c.in_ok-paths.ensures.reported) c.in_ok-paths.ensures.asked c.read_job_input.ensures.asks

pub returns-in-TooLong-clause-asks : goal.returns-in-TooLong-clause-asks
returns-in-TooLong-clause-asks g c =
    asks_input (folder_job_view c.args.command) c.folder.result.now (g.F.Files.held c.args.files.now) c.in-Paths.paths.items
    (g.F.Files.asked c.args.files.now) (g.F.Files.asked c.list_paths.new.files) (g.F.Files.asked c.read_job_input.new.files)
    c.folder.ensures (paths_listed c.folder.result.now c.in-Paths.paths.items c.in-Paths.paths c.in_ok-paths.field-0 refl c.in-Paths.is
    (g.F.Files.held c.args.files.now) c.in_ok-paths.ensures.reported) c.in_ok-paths.ensures.asked c.read_job_input.ensures.asks

pub read_files-requires : goal.read_files-requires
read_files-requires g c =
    paths_held (g.F.Files.held c.args.files.now) (g.F.Files.held c.read_job_input.new.files) c.folder.result.now c.deref.result.now
    (c.read_job_input.ensures.held ∙ c.list_paths.ensures.held) (paths_listed c.folder.result.now c.deref.result.now c.in-Paths.paths c.in_ok-paths.field-0 c.deref.ensures.value c.in-Paths.is
    (g.F.Files.held c.args.files.now) c.in_ok-paths.ensures.reported)

pub returns-in_err-sources-clause-asks : goal.returns-in_err-sources-clause-asks
returns-in_err-sources-clause-asks g c =
    asks_files (folder_job_view c.args.command) c.folder.result.now (g.F.Files.held c.args.files.now) c.deref.result.now
    (g.F.Files.asked c.args.files.now) (g.F.Files.asked c.list_paths.new.files) (g.F.Files.asked c.read_job_input.new.files) (g.F.Files.asked c.read_files.new.files)
    c.folder.ensures (paths_listed c.folder.result.now c.deref.result.now c.in-Paths.paths c.in_ok-paths.field-0 c.deref.ensures.value c.in-Paths.is
    (g.F.Files.held c.args.files.now) c.in_ok-paths.ensures.reported) c.in_ok-paths.ensures.asked c.in_ok-input.ensures.asked c.read_files.ensures.asks

pub returns-in-Passed-clause-asks : goal.returns-in-Passed-clause-asks
returns-in-Passed-clause-asks g c =
    asks_files (folder_job_view c.args.command) c.folder.result.now (g.F.Files.held c.args.files.now) c.deref.result.now
    (g.F.Files.asked c.args.files.now) (g.F.Files.asked c.list_paths.new.files) (g.F.Files.asked c.read_job_input.new.files) (g.F.Files.asked c.read_files.new.files)
    c.folder.ensures (paths_listed c.folder.result.now c.deref.result.now c.in-Paths.paths c.in_ok-paths.field-0 c.deref.ensures.value c.in-Paths.is
    (g.F.Files.held c.args.files.now) c.in_ok-paths.ensures.reported) c.in_ok-paths.ensures.asked c.in_ok-input.ensures.asked c.read_files.ensures.asks

pub returns-in_err-set-clause-asks : goal.returns-in_err-set-clause-asks
returns-in_err-set-clause-asks g c =
    asks_files (folder_job_view c.args.command) c.folder.result.now (g.F.Files.held c.args.files.now) c.deref.result.now
    (g.F.Files.asked c.args.files.now) (g.F.Files.asked c.list_paths.new.files) (g.F.Files.asked c.read_job_input.new.files) (g.F.Files.asked c.read_files.new.files)
    c.folder.ensures (paths_listed c.folder.result.now c.deref.result.now c.in-Paths.paths c.in_ok-paths.field-0 c.deref.ensures.value c.in-Paths.is
    (g.F.Files.held c.args.files.now) c.in_ok-paths.ensures.reported) c.in_ok-paths.ensures.asked c.in_ok-input.ensures.asked c.read_files.ensures.asks

pub returns-clause-asks : goal.returns-clause-asks
returns-clause-asks g c =
    asks_files (folder_job_view c.args.command) c.folder.result.now (g.F.Files.held c.args.files.now) c.deref.result.now
    (g.F.Files.asked c.args.files.now) (g.F.Files.asked c.list_paths.new.files) (g.F.Files.asked c.read_job_input.new.files) (g.F.Files.asked c.read_files.new.files)
    c.folder.ensures (paths_listed c.folder.result.now c.deref.result.now c.in-Paths.paths c.in_ok-paths.field-0 c.deref.ensures.value c.in-Paths.is
    (g.F.Files.held c.args.files.now) c.in_ok-paths.ensures.reported) c.in_ok-paths.ensures.asked c.in_ok-input.ensures.asked c.read_files.ensures.asks

pub returns-in-Passed-clause-right : goal.returns-in-Passed-clause-right
returns-in-Passed-clause-right g c =
    let job = folder_job_view c.args.command in
    let held = g.F.Files.held c.args.files.now in
    let few = counted (folder_job_view c.args.command) (g.F.Files.held c.args.files.now) c.folder.result.now c.deref.result.now c.folder.ensures
    (omega (arith, few_listed c.folder.result.now c.deref.result.now c.in-Paths.paths c.in_ok-paths.field-0 c.deref.ensures.value c.in-Paths.is c.in_ok-paths.ensures.class_paths, c.deref.ensures.len)) (paths_listed c.folder.result.now c.deref.result.now c.in-Paths.paths c.in_ok-paths.field-0 c.deref.ensures.value c.in-Paths.is
    (g.F.Files.held c.args.files.now) c.in_ok-paths.ensures.reported) in
    let there = reported_so held (λ h. FindsInput job h None × (c.in-Bytes.input.items ≡ input_of job h)) (λ h. FindsInput job h None) (λ h both. both.0) (found (folder_job_view c.args.command) (g.F.Files.held c.args.files.now) (g.F.Files.held c.list_paths.new.files) c.list_paths.ensures.held c.in_ok-input.field-0 c.in_ok-input.ensures.reported c.in-Bytes.input c.in-Bytes.is) in
    passed job held (g.F.Files.held c.read_job_input.new.files) (c.read_job_input.ensures.held ∙ c.list_paths.ensures.held) c.folder.result.now c.folder.ensures c.deref.result.now
    (paths_listed c.folder.result.now c.deref.result.now c.in-Paths.paths c.in_ok-paths.field-0 c.deref.ensures.value c.in-Paths.is
    (g.F.Files.held c.args.files.now) c.in_ok-paths.ensures.reported) c.in_ok-sources.field-0 c.in_ok-sources.ensures.reported (given_since (g.H.Host.given c.args.host.now) (g.H.Host.given c.args.host.now)) c.in-Passed.limit few there c.in-Passed.is

pub class_set-requires-clause-class_paths : goal.class_set-requires-clause-class_paths
class_set-requires-clause-class_paths g c =
    let all = class_paths_listed c.folder.result.now c.deref.result.now c.in-Paths.paths c.in_ok-paths.field-0 c.deref.ensures.value c.in-Paths.is c.in_ok-paths.ensures.class_paths in
    subst (λ folder. All (λ (file : SourceFile). IsTrue (is_class_path folder (string_bytes file.path))) c.in-Files.sources.items) (c.folder.ensures ∙ sym c.folder-2.ensures)
    (sources_class_paths c.deref.result.now c.in-Files.sources c.in_ok-sources.field-0 c.in-Files.is c.in_ok-sources.ensures.read c.folder.result.now all)

pub class_set-requires-clause-few : goal.class_set-requires-clause-few
class_set-requires-clause-few g c =
    sources_few c.deref.result.now c.in-Files.sources c.in_ok-sources.field-0 c.in-Files.is c.in_ok-sources.ensures.read
    (omega (arith, few_listed c.folder.result.now c.deref.result.now c.in-Paths.paths c.in_ok-paths.field-0 c.deref.ensures.value c.in-Paths.is c.in_ok-paths.ensures.class_paths, c.deref.ensures.len))

pub class_set-requires-clause-within : goal.class_set-requires-clause-within
class_set-requires-clause-within g c = sources_within c.deref.result.now c.in-Files.sources c.in_ok-sources.field-0 c.in-Files.is c.in_ok-sources.ensures.read

pub class_set-requires-clause-rise : goal.class_set-requires-clause-rise
class_set-requires-clause-rise g c =
    sources_rise c.deref.result.now c.in-Files.sources c.in_ok-sources.field-0 c.in-Files.is c.in_ok-sources.ensures.read
    (paths_rise c.folder.result.now c.deref.result.now c.in-Paths.paths c.in_ok-paths.field-0 c.deref.ensures.value c.in-Paths.is c.in_ok-paths.ensures.rise)

pub returns-clause-right : goal.returns-clause-right
returns-clause-right g c =
    let job = folder_job_view c.args.command in
    let held = g.F.Files.held c.args.files.now in
    let few = counted (folder_job_view c.args.command) (g.F.Files.held c.args.files.now) c.folder.result.now c.deref.result.now c.folder.ensures
    (omega (arith, few_listed c.folder.result.now c.deref.result.now c.in-Paths.paths c.in_ok-paths.field-0 c.deref.ensures.value c.in-Paths.is c.in_ok-paths.ensures.class_paths, c.deref.ensures.len)) (paths_listed c.folder.result.now c.deref.result.now c.in-Paths.paths c.in_ok-paths.field-0 c.deref.ensures.value c.in-Paths.is
    (g.F.Files.held c.args.files.now) c.in_ok-paths.ensures.reported) in
    let there = found (folder_job_view c.args.command) (g.F.Files.held c.args.files.now) (g.F.Files.held c.list_paths.new.files) c.list_paths.ensures.held c.in_ok-input.field-0 c.in_ok-input.ensures.reported c.in-Bytes.input c.in-Bytes.is in
    let gave = given_since (g.H.Host.given c.args.host.now) (g.H.Host.given c.judge.new.host) in
    ok_so c.judge.result (IsDecided (judging job c.in_ok-set.set c.deref-2.result.now gave)) (Decides job held gave)
    (λ report decided.
    judged job held (g.F.Files.held c.read_job_input.new.files) (c.read_job_input.ensures.held ∙ c.list_paths.ensures.held) c.folder.result.now c.folder.ensures c.deref.result.now
    (paths_listed c.folder.result.now c.deref.result.now c.in-Paths.paths c.in_ok-paths.field-0 c.deref.ensures.value c.in-Paths.is
    (g.F.Files.held c.args.files.now) c.in_ok-paths.ensures.reported) c.in_ok-sources.field-0 c.in_ok-sources.ensures.reported gave c.in-Files.sources c.in_ok-set.set c.in-Bytes.input report few there c.in-Files.is c.in_ok-sources.ensures.read
    (c.in_ok-set.ensures.set ∙ ap (λ folder. map (within_folder folder) (map source_view c.in-Files.sources.items)) (c.folder-2.ensures ∙ sym c.folder.ensures))
    (subst (λ (input : List ℕ). IsDecided (judging job c.in_ok-set.set input gave) report) c.deref-2.ensures.value decided))
    c.judge.ensures.decided

pub returns-in_err-paths-clause-leaves : goal.returns-in_err-paths-clause-leaves
returns-in_err-paths-clause-leaves g c =
    let p = err_from_is_err_and c.from_residual.result c.from_residual.ensures.1 in
    stopped (folder_job_view c.args.command) (g.F.Files.held c.args.files.now) (g.H.Host.given c.args.host.now) (g.E.Engine.runs c.args.engine.now) c.from_residual.result p.0 p.1

pub returns-in_err-input-clause-leaves : goal.returns-in_err-input-clause-leaves
returns-in_err-input-clause-leaves g c =
    let p = err_from_is_err_and c.from_residual-in_err-input.result c.from_residual-in_err-input.ensures.1 in
    stopped (folder_job_view c.args.command) (g.F.Files.held c.args.files.now) (g.H.Host.given c.args.host.now) (g.E.Engine.runs c.args.engine.now) c.from_residual-in_err-input.result p.0 p.1

pub returns-in_err-sources-clause-leaves : goal.returns-in_err-sources-clause-leaves
returns-in_err-sources-clause-leaves g c =
    let p = err_from_is_err_and c.from_residual-in_err-sources.result c.from_residual-in_err-sources.ensures.1 in
    stopped (folder_job_view c.args.command) (g.F.Files.held c.args.files.now) (g.H.Host.given c.args.host.now) (g.E.Engine.runs c.args.engine.now) c.from_residual-in_err-sources.result p.0 p.1

pub returns-in_err-set-clause-leaves : goal.returns-in_err-set-clause-leaves
returns-in_err-set-clause-leaves g c =
    let p = err_from_is_err_and c.from_residual-in_err-set.result c.from_residual-in_err-set.ensures.1 in
    stopped (folder_job_view c.args.command) (g.F.Files.held c.args.files.now) (g.H.Host.given c.args.host.now) (g.E.Engine.runs c.args.engine.now) c.from_residual-in_err-set.result p.0 p.1

pub returns-in-TooMany-clause-leaves : goal.returns-in-TooMany-clause-leaves
returns-in-TooMany-clause-leaves g c =
    unreached (folder_job_view c.args.command) (g.F.Files.held c.args.files.now) (g.H.Host.given c.args.host.now) (g.E.Engine.runs c.args.engine.now) _
    (too_many_unreached (folder_job_view c.args.command) (g.F.Files.held c.args.files.now) c.folder.result.now c.in_ok-paths.field-0 c.folder.ensures c.in-TooMany.is c.in_ok-paths.ensures.reported)

pub returns-in-Absent-clause-leaves : goal.returns-in-Absent-clause-leaves
returns-in-Absent-clause-leaves g c =
    unreached (folder_job_view c.args.command) (g.F.Files.held c.args.files.now) (g.H.Host.given c.args.host.now) (g.E.Engine.runs c.args.engine.now) _
    (absent_unreached (folder_job_view c.args.command) (g.F.Files.held c.args.files.now) (g.F.Files.held c.list_paths.new.files) c.list_paths.ensures.held c.in_ok-input.field-0 c.in_ok-input.ensures.reported c.in-Absent.path c.in-Absent.is)

pub returns-in-TooLong-clause-leaves : goal.returns-in-TooLong-clause-leaves
returns-in-TooLong-clause-leaves g c =
    unreached (folder_job_view c.args.command) (g.F.Files.held c.args.files.now) (g.H.Host.given c.args.host.now) (g.E.Engine.runs c.args.engine.now) _
    (too_long_unreached (folder_job_view c.args.command) (g.F.Files.held c.args.files.now) (g.F.Files.held c.list_paths.new.files) c.list_paths.ensures.held c.in_ok-input.field-0 c.in_ok-input.ensures.reported c.in-TooLong.is)

pub returns-in-Passed-clause-leaves : goal.returns-in-Passed-clause-leaves
returns-in-Passed-clause-leaves g c =
    unreached (folder_job_view c.args.command) (g.F.Files.held c.args.files.now) (g.H.Host.given c.args.host.now) (g.E.Engine.runs c.args.engine.now) _
    (passed_unreached (folder_job_view c.args.command) (g.F.Files.held c.args.files.now) (g.F.Files.held c.read_job_input.new.files) (c.read_job_input.ensures.held ∙ c.list_paths.ensures.held) c.folder.result.now c.folder.ensures c.deref.result.now
    (paths_listed c.folder.result.now c.deref.result.now c.in-Paths.paths c.in_ok-paths.field-0 c.deref.ensures.value c.in-Paths.is
    (g.F.Files.held c.args.files.now) c.in_ok-paths.ensures.reported) c.in_ok-sources.field-0 c.in_ok-sources.ensures.reported c.in-Passed.limit c.in-Passed.is)

pub returns-clause-leaves : goal.returns-clause-leaves
returns-clause-leaves g c =
    let job = folder_job_view c.args.command in
    let held = g.F.Files.held c.args.files.now in
    let few = counted job held c.folder.result.now c.deref.result.now c.folder.ensures
    (omega (arith, few_listed c.folder.result.now c.deref.result.now c.in-Paths.paths c.in_ok-paths.field-0 c.deref.ensures.value c.in-Paths.is c.in_ok-paths.ensures.class_paths, c.deref.ensures.len)) (paths_listed c.folder.result.now c.deref.result.now c.in-Paths.paths c.in_ok-paths.field-0 c.deref.ensures.value c.in-Paths.is
    (g.F.Files.held c.args.files.now) c.in_ok-paths.ensures.reported) in
    let there = found job held (g.F.Files.held c.list_paths.new.files) c.list_paths.ensures.held c.in_ok-input.field-0 c.in_ok-input.ensures.reported c.in-Bytes.input c.in-Bytes.is in
    let whole = read_whole job held (g.F.Files.held c.read_job_input.new.files) (c.read_job_input.ensures.held ∙ c.list_paths.ensures.held) c.folder.result.now c.folder.ensures c.deref.result.now
    (paths_listed c.folder.result.now c.deref.result.now c.in-Paths.paths c.in_ok-paths.field-0 c.deref.ensures.value c.in-Paths.is
    (g.F.Files.held c.args.files.now) c.in_ok-paths.ensures.reported) c.in_ok-sources.field-0 c.in_ok-sources.ensures.reported c.in-Files.sources c.in_ok-set.set c.in-Bytes.input few there c.in-Files.is c.in_ok-sources.ensures.read
    (c.in_ok-set.ensures.set ∙ ap (λ folder. map (within_folder folder) (map source_view c.in-Files.sources.items)) (c.folder-2.ensures ∙ sym c.folder.ensures)) in
    reached job c.in_ok-set.set c.deref-2.result.now held (subst (λ (input : List ℕ). IfSome held (IsReached job c.in_ok-set.set input)) (sym c.deref-2.ensures.value) whole)
    (g.H.Host.given c.args.host.now) (g.H.Host.given c.judge.new.host) (g.E.Engine.runs c.args.engine.now) (g.E.Engine.runs c.judge.new.engine) c.judge.result c.judge.ensures.leaves
