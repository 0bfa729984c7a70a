use Rattle.std.proofs.Common.{◌≡◌, ◌∙◌, sym, ap, List, [], Option, None, Some, option_map, codes, unwrap_or}
use Rattle.std.specs.Prelude.{option_and_then}
use Rattle.clap.specs.Words.{Row, found_of, rows_of, first_of, all_of}
use Rattle.clap.proofs.WalkLemmas.{first_value-rows, raw_values-rows}
use Rattle.dj_command_line.specs.trusted.Words.{Word}
use Rattle.dj_command_line.specs.trusted.DoneJobs.{DoneJob, done}
use Rattle.dj_command_line.specs.WordsApp.{Values, values_of, job_of_values}
use Rattle.dj_command_line.specs.Views.{job_view, texts, text_given, values_view}
use Rattle.dj_command_line.proofs.command.command_in.Goals as goal

-- the job of a command, its words and its options
abbrev job_by : Option Word → Option (List Word) → Values → Option DoneJob
job_by command operands v = option_and_then done (option_and_then (λ name. job_of_values name (unwrap_or operands []) v) command)

pub returns-in_err-name : goal.returns-in_err-name
returns-in_err-name c =
    let rows : List Row = rows_of (found_of c.args.matches.now) in
    let name : None ≡ first_of (codes "command") rows = sym (ap text_given c.in_err-name.was) ∙ c.get_str.ensures ∙ first_value-rows (found_of c.args.matches.now) (codes "command") in
    ap (option_map job_view) c.from_residual.ensures ∙ (λ i. job_by (name i) (all_of (codes "words") rows) (values_of rows))

pub returns-in-Some : goal.returns-in-Some
returns-in-Some c =
    let rows : List Row = rows_of (found_of c.args.matches.now) in
    let name : Some c.in_ok-name.name.now ≡ first_of (codes "command") rows = sym (ap text_given c.in_ok-name.was) ∙ c.get_str.ensures ∙ first_value-rows (found_of c.args.matches.now) (codes "command") in
    let operands : Some (texts c.in-Some.operands.now) ≡ all_of (codes "words") rows = sym (ap (option_map (λ s. texts s.now)) c.in-Some.is) ∙ c.get_raw.ensures ∙ raw_values-rows (found_of c.args.matches.now) (codes "words") in
    let options : values_view c.of-options.result ≡ values_of rows = c.of-options.ensures in
    c.command_named.ensures ∙ (λ i. job_by (name i) (operands i) (options i))

pub returns-in-None : goal.returns-in-None
returns-in-None c =
    let rows : List Row = rows_of (found_of c.args.matches.now) in
    let name : Some c.in_ok-name.name.now ≡ first_of (codes "command") rows = sym (ap text_given c.in_ok-name.was) ∙ c.get_str.ensures ∙ first_value-rows (found_of c.args.matches.now) (codes "command") in
    let operands : None ≡ all_of (codes "words") rows = sym (ap (option_map (λ s. texts s.now)) c.in-None.is) ∙ c.get_raw.ensures ∙ raw_values-rows (found_of c.args.matches.now) (codes "words") in
    let options : values_view c.of-options.result ≡ values_of rows = c.of-options.ensures in
    c.command_named-in-None.ensures ∙ (λ i. job_by (name i) (operands i) (options i))
