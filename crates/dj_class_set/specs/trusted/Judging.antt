-- The stages that judge class files, once they are read, and run one of them. A file is its path within the folder, with its bytes.
use Rattle.std.specs.Prelude.{◌≡◌, ◌≢◌, ℕ, List, [], ◌∷◌, Some, None, length}
use Rattle.dj_names.specs.declared.run.Outcome.{Outcome}
use Rattle.dj_names.specs.declared.run.Costs.{Costs}
use Rattle.dj_names.specs.declared.run.Thresholds.{Thresholds}
use Rattle.dj_names.specs.trusted.Types.{Name}
use Rattle.dj_names.specs.trusted.Library.{raw_library}
use Rattle.dj_edge.specs.trusted.Held.{File}
use Rattle.dj_edge.specs.declared.host.HostAnswer.{HostAnswer}
use Rattle.dj_class.specs.trusted.ClassFile.{ClassFile}
use Rattle.dj_model.specs.trusted.Program as models
use Rattle.dj_model.specs.trusted.State.{Terms, Uncounted}
use Rattle.dj_model.specs.trusted.Runs.{plain_run}
use Rattle.dj_model.specs.trusted.Runs as model_runs
use Rattle.dj_report.specs.trusted.Stages.{Stage}
use Rattle.dj_report.specs.declared.report.Report.{Report}
use Rattle.dj_report.specs.declared.report.Report.TheVariants as reports
use Rattle.dj_report.specs.declared.report.Violation.{Violation}
use Rattle.dj_file_rules.specs.trusted.Violations.{AreViolations}
use Rattle.dj_straight.specs.trusted.Program.{Program}
use Rattle.dj_straight.specs.trusted.Metered.{RunsTo}
use Rattle.dj_straight.specs.trusted.Straight.{IsStraightSet, IsNotStraight}
use Rattle.dj_program.specs.trusted.Programs.{IsProgramIn}
use Rattle.dj_class_set.specs.trusted.Limits.{most_heap_bytes}
use Rattle.dj_class_set.specs.trusted.Checked.{AreGoodFiles, AreCheckViolations}
use Rattle.dj_class_set.specs.trusted.RawRules.{entry_of, AreRawViolations}
use Rattle.dj_class_set.specs.trusted.Entry.{entry_method, AreRunViolations}

-- no file violates a rule of `check`, or the violations are reported
abbrev pub JudgesSet : List File → Stage Report
JudgesSet files (Some report) = (violations : List Violation) × (report ≡ reports.Rejected violations) × AreCheckViolations files violations × (violations ≢ [])
JudgesSet files None = AreCheckViolations files []

-- no file violates one of the rules 1, 2, 3, 7 and 8, or the violations are reported
abbrev pub JudgesFiles : List File → Stage Report
JudgesFiles files (Some report) = (violations : List Violation) × (report ≡ reports.Rejected violations) × AreViolations files violations × (violations ≢ [])
JudgesFiles files None = AreViolations files []

-- the files are accepted
abbrev pub Accepts : List File → Stage Report
Accepts files (Some report) = report ≡ reports.Accepted (length files)
Accepts files None = ⊥

-- the path of the first file
abbrev pub IsFirstPath : List File → List ℕ → Type 0
IsFirstPath [] path = ⊥
IsFirstPath (file ∷ files) path = path ≡ file.0

-- the files are a straight set, or the report is LATER with the path of the first file
abbrev pub FindsStraight : List File → Stage Report
FindsStraight files (Some report) = (path : List ℕ) × (report ≡ reports.Later path) × IsNotStraight files × IsFirstPath files path
FindsStraight files None = (program : Program) × IsStraightSet files program

-- the straight set violates none of the rules for a run of this class, or the violations are reported
abbrev pub JudgesRun : List File → List ℕ → Stage Report
JudgesRun files class (Some report) =
    (program : Program) × (violations : List Violation)
    × IsStraightSet files program × (report ≡ reports.Rejected violations) × AreRunViolations files program class violations × (violations ≢ [])
JudgesRun files class None = (program : Program) × IsStraightSet files program × AreRunViolations files program class []

-- the class of a straight set runs on the input within the thresholds, and its outcome and costs are reported
abbrev pub Runs : List File → List ℕ → List ℕ → Thresholds → Stage Report
Runs files class input most (Some report) =
    (program : Program) × (outcome : Outcome) × (costs : Costs)
    × IsStraightSet files program × (report ≡ reports.Costed outcome costs) × RunsTo program (entry_method class) input most outcome costs
Runs files class input most None = ⊥

-- the files violate none of the rules for a run of this class with the raw library, or the violations are reported
abbrev pub JudgesRaw : List File → Name → Stage Report
JudgesRaw files class (Some report) = (violations : List Violation) × (report ≡ reports.Rejected violations) × AreRawViolations files class violations × (violations ≢ [])
JudgesRaw files class None = AreRawViolations files class []

-- objects take at most the heap's limit together, and no charges are counted
abbrev pub raw_terms : Terms
raw_terms = record { limit = Some most_heap_bytes; counting = Uncounted }

-- in the program of the files and the raw library the entry runs on the input, in at most this many steps and with exactly these answers of the host;
-- its outcome and its steps are reported
abbrev pub RunsRaw : List File → Name → List ℕ → ℕ → List HostAnswer → Stage Report
RunsRaw files class input steps answers (Some report) =
    (classes : List ClassFile) × (program : models.Program) × (run : model_runs.Report)
    × AreGoodFiles files classes × IsProgramIn raw_library classes program
    × (plain_run program [] raw_terms (entry_of class) input answers steps ≡ Some run) × (run.taken ≡ length answers)
    × (report ≡ reports.Raw run.outcome run.steps)
RunsRaw files class input steps answers None = ⊥

-- the stages of `check`
abbrev pub check_stages : List File → List (Stage Report)
check_stages files = JudgesSet files ∷ Accepts files ∷ []

-- the stages of `verify`, for the class of this name, this input and these thresholds
abbrev pub run_stages : List File → List ℕ → List ℕ → Thresholds → List (Stage Report)
run_stages files class input most =
    JudgesFiles files ∷ FindsStraight files ∷ JudgesRun files class ∷ Runs files class input most ∷ []

-- the stages of `raw`, for the class of this name, this input, at most this many steps, and these answers of the host
abbrev pub raw_stages : List File → Name → List ℕ → ℕ → List HostAnswer → List (Stage Report)
raw_stages files class input steps answers = JudgesRaw files class ∷ RunsRaw files class input steps answers ∷ []
