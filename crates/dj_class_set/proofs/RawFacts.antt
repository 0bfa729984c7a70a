-- What is judged of a run with the raw library, and in which order, at plain values.
use Rattle.std.proofs.Common.{◌≡◌, ◌≢◌, ℕ, ◌≤◌, false, List, [], ◌∷◌, Some, None, inl, inr, refl, arith}
use Rattle.std.specs.Prelude.{codes}
use Rattle.dj_edge.specs.trusted.Held.{File}
use Rattle.dj_edge.specs.declared.host.HostAnswer.{HostAnswer}
use Rattle.dj_names.specs.trusted.Library.{raw_library}
use Rattle.dj_names.specs.trusted.DescReading.{dims_read, name_read, class_read, of_read, type_read, params_read, field_read, return_read, method_read, desc_read}
use Rattle.dj_names.specs.trusted.NameReading.{reads_class_name}
use Rattle.dj_report.specs.trusted.Stages.{IsDecided}
use Rattle.dj_report.specs.declared.report.Report.{Report}
use Rattle.dj_report.specs.declared.report.Report.TheVariants as reports
use Rattle.dj_report.specs.declared.report.Violation.{Violation}
use Rattle.dj_early_rules.specs.trusted.Rules.{IsEarlyLine}
use Rattle.dj_model.specs.trusted.Libraries.{library_program}
use Rattle.dj_class_set.specs.trusted.Limits.{most_heap_bytes}
use Rattle.dj_class_set.specs.trusted.Statuses.{IsAmong}
use Rattle.dj_class_set.specs.Statuses.{raw_statuses}
use Rattle.dj_class_set.specs.trusted.RawRules.{entry_desc, entry_of, runs_entry, LacksEntry, AreRawViolations}
use Rattle.dj_class_set.specs.trusted.Judging.{JudgesRaw, RunsRaw, raw_stages}

limit-heap : most_heap_bytes ≡ 67108864
limit-heap = refl

-- ---- the entry

entry-descriptor : desc_read (codes "([B)[B") ≡ Some entry_desc
unfolding dims_read name_read class_read of_read type_read params_read field_read return_read method_read desc_read reads_class_name
entry-descriptor = refl

entry-verify : entry_of (codes "a/B") ≡ record { class = codes "a/B"; name = codes "verify"; desc = entry_desc }
entry-verify = refl

-- the library alone has none, under no name of its own either
entry-none : runs_entry (library_program raw_library) (codes "A") ≡ false
entry-none = refl

entry-library : runs_entry (library_program raw_library) (codes "java/lang/Object") ≡ false
entry-library = refl

entry-line : (files : List File) (v : Violation) → LacksEntry files (codes "a/B") v → v ≡ record { path = codes "a/B.class"; member = []; number = None; rule = 20 }
entry-line files v is = is.line

-- a line of the rules 1 to 6 hides it
entry-hidden : (files : List File) (class : List ℕ) (v w : Violation) → IsEarlyLine files v → v.rule ≤ 6 → LacksEntry files class w → ⊥
entry-hidden files class v w is small lacks = let past = lacks.hierarchy v is in absurd (omega (arith, small, past))

-- ---- the order

raw-rejected_first : (files : List File) (class input : List ℕ) (steps : ℕ) (answers : List HostAnswer) (violations : List Violation)
    → AreRawViolations files class violations → violations ≢ [] → IsDecided (raw_stages files class input steps answers) (reports.Rejected violations)
raw-rejected_first files class input steps answers violations are some = inl (violations, refl, are, some)

raw-runs_second : (files : List File) (class input : List ℕ) (steps : ℕ) (answers : List HostAnswer) (report : Report)
    → AreRawViolations files class [] → RunsRaw files class input steps answers (Some report) → IsDecided (raw_stages files class input steps answers) report
raw-runs_second files class input steps answers report none runs = inr (none, inl runs)

-- nothing is rejected without a violation, and a run always ends
raw-rejected_none : (files : List File) (class : List ℕ) → JudgesRaw files class (Some (reports.Rejected [])) → ⊥
raw-rejected_none files class h = let none : h.0 ≡ [] = cc (h.1) in h.3 none

raw-runs_on : (files : List File) (class input : List ℕ) (steps : ℕ) (answers : List HostAnswer) → RunsRaw files class input steps answers None → ⊥
raw-runs_on files class input steps answers h = h

-- ---- the statuses

statuses-raw : raw_statuses ≡ 0 ∷ 1 ∷ 2 ∷ 4 ∷ 5 ∷ 6 ∷ 8 ∷ 9 ∷ []
statuses-raw = refl

-- nothing is charged
status-threshold : IsAmong 3 raw_statuses → ⊥
status-threshold h = absurd cc
