-- The command line as the definitions of `clap` see it, and the job of its matches.
use Rattle.std.specs.Prelude.{ℕ, ◌&&◌, Bool, true, not, List, [], ◌∷◌, Option, Some, None, codes, is_some, option_map, option_and_then, unwrap_or, if◌then◌else◌}
use Rattle.dj_cursor.specs.trusted.Options.{◌>>=◌}
use Rattle.dj_names.specs.declared.run.Thresholds.{Thresholds}
use Rattle.dj_command_line.specs.trusted.Words.{Word, Job, Verify, Raw, Setting, is_word, without_slash, number_between, check_job, rewrite_job, assemble_job, sample_job, alloc_setting, invoke_setting, jump_setting, throw_setting, steps_setting}
use Rattle.clap.specs.Words.{App, Row, Rule, Text, all_of, first_of, new_app, new_rule, with_rule}
use Rattle.clap.specs.Simple.{on_top}
use Rattle.clap.specs.declared.builder.action.ArgAction.TheVariants.{Append}

abbrev pub option_rule : Text → Rule
option_rule name = record (new_rule name) { long = Some name }

abbrev pub settings : App → App
settings a = on_top (λ s. record s { no_binary_name = true; disable_help_flag = true; disable_version_flag = true }) a

-- a positional argument for the command, and one for the plain words after it
abbrev pub plain_app : App
plain_app = with_rule (with_rule (settings (new_app (codes "djvm"))) (new_rule (codes "command"))) (record (new_rule (codes "words")) { action = Some Append })

abbrev pub app_with_option : App → Text → App
app_with_option a name = with_rule a (option_rule name)

abbrev pub app : App
app = app_with_option (app_with_option (app_with_option (app_with_option (app_with_option plain_app (codes "alloc")) (codes "invoke")) (codes "jump")) (codes "throw")) (codes "steps")

-- ---- the job of what clap found

-- the values of the options that are given
pub record Values : Type 0 where
  pub alloc : Option Word
  pub invoke : Option Word
  pub jump : Option Word
  pub throw : Option Word
  pub steps : Option Word

abbrev pub values_of : List Row → Values
values_of rows = record {
  alloc = first_of (codes "alloc") rows;
  invoke = first_of (codes "invoke") rows;
  jump = first_of (codes "jump") rows;
  throw = first_of (codes "throw") rows;
  steps = first_of (codes "steps") rows;
}

abbrev pub has_no_threshold : Values → Bool
has_no_threshold v = not (is_some v.alloc) && (not (is_some v.invoke) && (not (is_some v.jump) && not (is_some v.throw)))

abbrev pub has_no_value : Values → Bool
has_no_value v = has_no_threshold v && not (is_some v.steps)

abbrev pub number_or : ℕ → ℕ → Option Word → Option ℕ
number_or most default None = Some default
number_or most default (Some text) = number_between 0 most text

abbrev pub number_in : Setting → Option Word → Option ℕ
number_in s text = number_or s.most s.default text

abbrev pub given_thresholds_in : Values → Option Thresholds
given_thresholds_in v = do
  alloc ← number_in alloc_setting v.alloc
  invoke ← number_in invoke_setting v.invoke
  jump ← number_in jump_setting v.jump
  throw ← number_in throw_setting v.throw
  Some (record { alloc = alloc; invoke = invoke; jump = jump; throw = throw })

abbrev pub thresholds_in : Values → Option Thresholds
thresholds_in v = if not (is_some v.steps) then given_thresholds_in v else None

abbrev pub steps_in : Values → Option ℕ
steps_in v = if has_no_threshold v then number_in steps_setting v.steps else None

abbrev pub verify_in : List Word → Option Thresholds → Option Job
verify_in (folder ∷ entry ∷ input ∷ []) thresholds = option_map (Verify (without_slash folder) entry input) thresholds
verify_in _ _ = None

abbrev pub raw_in : List Word → Option ℕ → Option Job
raw_in (folder ∷ entry ∷ input ∷ []) steps = option_map (Raw (without_slash folder) entry input) steps
raw_in _ _ = None

abbrev pub job_of_values : Word → List Word → Values → Option Job
job_of_values command operands v =
    if is_word command (codes "check") then (if has_no_value v then check_job operands [] else None)
    else if is_word command (codes "verify") then verify_in operands (thresholds_in v)
    else if is_word command (codes "rewrite") then (if has_no_value v then rewrite_job operands [] else None)
    else if is_word command (codes "raw") then raw_in operands (steps_in v)
    else if is_word command (codes "assemble") then (if has_no_value v then assemble_job operands [] else None)
    else if is_word command (codes "sample") then (if has_no_value v then sample_job operands [] else None)
    else None

abbrev pub job_in : List Row → Option Job
job_in rows = option_and_then (λ command. job_of_values command (unwrap_or (all_of (codes "words") rows) []) (values_of rows)) (first_of (codes "command") rows)
