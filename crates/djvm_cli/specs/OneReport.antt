-- The laws of how a call ends: the words and the store's contents have one report, and so one status and one text.
use Rattle.std.specs.Prelude.{◌≡◌, ℕ, List, Option, Some}
use Rattle.std.specs.Io.KnownBytes.{Appends}
use Rattle.dj_edge.specs.trusted.Held.{Held}
use Rattle.dj_edge.specs.declared.host.HostAnswer.{HostAnswer}
use Rattle.dj_names.specs.declared.run.Costs.{Costs}
use Rattle.dj_report.specs.declared.report.Report.{Report}
use Rattle.dj_report.specs.trusted.Text.{report_text}
use Rattle.dj_command_line.specs.trusted.DoneJobs.{done_job_of}
use Rattle.djvm_cli.specs.trusted.Jobs.{IsRawJob}
use Rattle.djvm_cli.specs.trusted.Report.{IsReport}
use Rattle.djvm_cli.specs.trusted.Ends.{Finished, Broken}
use Rattle.djvm_cli.specs.Ends.{WritesPrefix}
use Rattle.djvm_cli.specs.trusted.Engine.{AreRuns}

-- two right reports under the same answers are equal
abbrev pub HasOneReport : Type 0
HasOneReport = (words : List (List ℕ)) (held : Held) (answers : List HostAnswer) (r s : Report) → IsReport words held answers r → IsReport words held answers s → r ≡ s

-- for all words and contents there is a report, under some answers
abbrev pub HasSomeReport : Type 0
HasSomeReport = (words : List (List ℕ)) (held : Held) → ((answers : List HostAnswer) (r : Report) → IsReport words held answers r → ⊥) → ⊥

-- what two finished calls wrote and answered is the same
pub record IsSameEnd (a b : ℕ) (old_a new_a old_b new_b : Option (List ℕ)) : Type 0 where
  pub status : a ≡ b
  pub text : List ℕ
  pub first : Appends old_a new_a text
  pub second : Appends old_b new_b text

-- two calls with the same words, on stores with the same contents, end alike where both finish and their hosts gave the same answers
abbrev pub HasOneEnd : Type 0
HasOneEnd = (words : List (List ℕ)) (held : Held) (answers : List HostAnswer) (a b : ℕ) (old_a new_a old_b new_b : Option (List ℕ))
    → Finished words (Some held) answers a old_a new_a → Finished words (Some held) answers b old_b new_b → IsSameEnd a b old_a new_a old_b new_b

-- what a call wrote before the sink failed or memory ran out is a prefix of the right report's text
abbrev pub HasOnePrefix : Type 0
HasOnePrefix = (words : List (List ℕ)) (held : Held) (answers : List HostAnswer) (report : Report) (old new : Option (List ℕ))
    → IsReport words held answers report → Broken words (Some held) answers old new → WritesPrefix old new (report_text report)

-- the answers matter to `raw` alone: any other job has the same report whatever the host answers
abbrev pub HasOneAnswer : Type 0
HasOneAnswer = (words : List (List ℕ)) (held : Held) (first second : List HostAnswer) (r : Report) → (IsRawJob (done_job_of words) → ⊥) → IsReport words held first r → IsReport words held second r

-- the runs that fit the report are the same under the same answers
abbrev pub HasSameRuns : Type 0
HasSameRuns = (words : List (List ℕ)) (held : Held) (answers : List HostAnswer) (first second : List (Costs × ℕ))
    → AreRuns (done_job_of words) held answers first → AreRuns (done_job_of words) held answers second → first ≡ second
