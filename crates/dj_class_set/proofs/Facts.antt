-- The limits, the order in which files are judged and run, the lines of a run, and the entry, at plain values.
use Rattle.std.proofs.Common.{arith, ◌≡◌, ◌≢◌, ℕ, ◌≤◌, ◌⊎◌, ◌∙◌, false, List, [], ◌∷◌, map, length, Some, None, inl, inr, refl, sym, ap}
use Rattle.std.specs.Prelude.{codes}
use Rattle.dj_edge.specs.trusted.Held.{File}
use Rattle.dj_names.specs.declared.run.Thresholds.{Thresholds}
use Rattle.dj_names.specs.trusted.Library.{Library}
use Rattle.dj_class.specs.trusted.ClassFile.{ClassFile}
use Rattle.dj_report.specs.trusted.Stages.{IsDecided}
use Rattle.dj_report.specs.declared.report.Report.TheVariants as reports
use Rattle.dj_report.specs.declared.report.Violation.{Violation}
use Rattle.dj_file_rules.specs.trusted.Violations.{AreViolations}
use Rattle.dj_early_rules.specs.trusted.Rules.{IsEarlyLine}
use Rattle.dj_link_rules.specs.trusted.Lines.{IsFirstOf, IsLinkLine}
use Rattle.dj_rules.specs.trusted.Lines.{IsShapeLine}
use Rattle.dj_model.specs.trusted.Program.{Program}
use Rattle.dj_straight.specs.trusted.Program as straight
use Rattle.dj_straight.specs.trusted.Straight.{IsNotStraight}
use Rattle.dj_class_set.specs.trusted.Checked.{AreGoodFiles, IsLateLine, AreCheckViolations}
use Rattle.dj_class_set.specs.trusted.Entry.{with_slashes, entry_method, has_entry, IsEntryLine}
use Rattle.dj_class_set.specs.trusted.Entry as entries
use Rattle.dj_class_set.specs.trusted.Judging.{IsFirstPath, JudgesFiles, JudgesRun, Runs, Accepts, check_stages, run_stages}
use Rattle.dj_class_set.specs.trusted.Limits.{most_files, most_file_bytes, most_total_bytes, most_input_bytes}
use Rattle.dj_class_set.specs.Limits.{most_thresholds, IsWithinMost}
use Rattle.dj_class_set.specs.trusted.Statuses.{IsAmong}
use Rattle.dj_class_set.specs.Statuses.{check_statuses, run_statuses}

-- ---- the limits and the thresholds

limit-files : most_files ≡ 4096
limit-files = refl

limit-file : most_file_bytes ≡ 4194304
limit-file = refl

limit-total : most_total_bytes ≡ 67108864
limit-total = refl

limit-input : most_input_bytes ≡ 1048576
limit-input = refl

thresholds : most_thresholds ≡ record { alloc = 1073741824; invoke = 1073741824; jump = 1073741824; throw = 1048576 }
thresholds = refl

thresholds-within : IsWithinMost most_thresholds
thresholds-within = record { alloc = omega arith; invoke = omega arith; jump = omega arith; throw = omega arith }

thresholds-alloc_past : IsWithinMost (record most_thresholds { alloc = 1073741825 }) → ⊥
thresholds-alloc_past h = omega (arith, h.alloc)

thresholds-invoke_past : IsWithinMost (record most_thresholds { invoke = 1073741825 }) → ⊥
thresholds-invoke_past h = omega (arith, h.invoke)

thresholds-jump_past : IsWithinMost (record most_thresholds { jump = 1073741825 }) → ⊥
thresholds-jump_past h = omega (arith, h.jump)

thresholds-throw_past : IsWithinMost (record most_thresholds { throw = 1048577 }) → ⊥
thresholds-throw_past h = omega (arith, h.throw)

-- ---- the rules 17 to 19

-- a line of the rules 1 to 6 hides them
late-hidden : (library : Library) (files : List File) (v w : Violation) → IsEarlyLine files v → v.rule ≤ 6 → IsLateLine library files w → ⊥
late-hidden library files v w is small late = let past = late.hierarchy v is in absurd (omega (arith, small, past))

first-rule : (F U : Type 0) (rule : ℕ) → IsFirstOf F U rule → (rule ≡ 17) ⊎ (rule ≡ 18)
first-rule F U rule (inl (foreign, is)) = inl is
first-rule F U rule (inr (not, unlinked, is)) = inr is

link-rule : (program : Program) (files : List File) (v : Violation) → IsLinkLine program files v → (v.rule ≡ 17) ⊎ (v.rule ≡ 18)
link-rule program files v line =
    let m = line.2.2 in
    let is : v.rule ≡ m.rule = ap (λ (w : Violation). w.rule) m.line in
    let reported : (m.rule ≡ 17) ⊎ (m.rule ≡ 18) = elim m.such.such [
      | inl at ↦ first-rule _ _ m.rule at.such.1
      | inr at ↦ first-rule _ _ m.rule at.such.1
    ] in
    elim reported [ inl one ↦ inl (is ∙ one) | inr two ↦ inr (is ∙ two) ]

shape-rule : (program : Program) (files : List File) (v : Violation) → IsShapeLine program files v → v.rule ≡ 19
shape-rule program files v line = (let m = line.2.2 in ap (λ (w : Violation). w.rule) m.line ∙ m.such.rule_is)

late-rule : (library : Library) (files : List File) (v : Violation) → IsLateLine library files v → (v.rule ≡ 17) ⊎ ((v.rule ≡ 18) ⊎ (v.rule ≡ 19))
late-rule library files v late = elim late.line [
  | inl link ↦ elim (link-rule _ files v link) [ inl one ↦ inl one | inr two ↦ inr (inl two) ]
  | inr shape ↦ inr (inr (shape-rule _ files v shape))
]

good-none : (c : ClassFile) → AreGoodFiles [] (c ∷ []) → ⊥
good-none c good = good

-- ---- the order

rejected-first : (files : List File) (violations : List Violation) → AreCheckViolations files violations → violations ≢ [] → IsDecided (check_stages files) (reports.Rejected violations)
rejected-first files violations are some = inl (violations, refl, are, some)

accepted-last : (files : List File) → AreCheckViolations files [] → IsDecided (check_stages files) (reports.Accepted (length files))
accepted-last files are = inr (are, inl refl)

run-rejected_first : (files : List File) (class input : List ℕ) (most : Thresholds) (violations : List Violation) → AreViolations files violations → violations ≢ []
    → IsDecided (run_stages files class input most) (reports.Rejected violations)
run-rejected_first files class input most violations are some = inl (violations, refl, are, some)

run-not_straight_second : (files : List File) (class input path : List ℕ) (most : Thresholds) → AreViolations files [] → IsNotStraight files → IsFirstPath files path
    → IsDecided (run_stages files class input most) (reports.Later path)
run-not_straight_second files class input path most are not_straight first = inr (are, inl (path, refl, not_straight, first))

-- nothing is rejected without a violation
rejected-none : (files : List File) → JudgesFiles files (Some (reports.Rejected [])) → ⊥
rejected-none files h =
    let none : [] ≡ h.0 = cc (h.1) in
    h.3 (sym none)

run-rejected_none : (files : List File) (class : List ℕ) → JudgesRun files class (Some (reports.Rejected [])) → ⊥
run-rejected_none files class h =
    let none : [] ≡ h.1 = cc (h.3) in
    h.5 (sym none)

-- a run always ends, and files are always accepted at last
runs-on : (files : List File) (class input : List ℕ) (most : Thresholds) → Runs files class input most None → ⊥
runs-on files class input most h = h

accepts-on : (files : List File) → Accepts files None → ⊥
accepts-on files h = h

accepted-fewer : (file : File) → Accepts (file ∷ []) (Some (reports.Accepted 0)) → ⊥
accepted-fewer file h = absurd cc

-- ---- the entry, the lines and the statuses

-- dots become slashes, and the characters beside them don't
entry-slashes : map with_slashes (codes "a.b.C" ∷ codes "a/b/C" ∷ codes "A-:$;" ∷ [] ∷ []) ≡ codes "a/b/C" ∷ codes "a/b/C" ∷ codes "A-:$;" ∷ [] ∷ []
entry-slashes = refl

entry-verify : entry_method (codes "A") ≡ record { class = codes "A"; name = codes "verify"; desc = codes "([B)[B" }
entry-verify = refl

entry-none : has_entry [] (codes "A") ≡ false
entry-none = refl

entry-line : (program : straight.Program) (v : Violation) → IsEntryLine program (codes "A") v → v ≡ record { path = codes "A.class"; member = []; number = None; rule = 20 }
entry-line program v is = is.1

shape-line : (path : List ℕ) (methods : List straight.Method) (v : Violation) → entries.IsShapeLine path methods v → v.rule ≡ 19
shape-line path methods v is = ap (λ (w : Violation). w.rule) is.line

shape-path : (path : List ℕ) (methods : List straight.Method) (v : Violation) → entries.IsShapeLine path methods v → v.path ≡ path
shape-path path methods v is = ap (λ (w : Violation). w.path) is.line

statuses-check : check_statuses ≡ 0 ∷ 2 ∷ []
statuses-check = refl

statuses-run : run_statuses ≡ 0 ∷ 1 ∷ 2 ∷ 3 ∷ 75 ∷ []
statuses-run = refl

status-other : IsAmong 7 run_statuses → ⊥
status-other h = absurd cc
