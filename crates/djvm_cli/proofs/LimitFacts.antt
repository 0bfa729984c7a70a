-- On which side of each limit a report lies, the first of the stages that decides, and how a call ends, at plain values.
use Rattle.std.proofs.Common.{◌≡◌, ◌≢◌, ℕ, ◌<◌, ◌≤◌, List, [], ◌∷◌, length, Option, Some, None, inl, inr, refl, sym, subst, arith}
use Rattle.std.specs.Prelude.{codes, unwrap_or}
use Rattle.std.specs.Io.KnownBytes.{Appends}
use Rattle.dj_edge.specs.declared.host.HostAnswer.{HostAnswer}
use Rattle.dj_edge.specs.trusted.Held.{File, Held, class_files, bytes_at}
use Rattle.dj_edge.specs.trusted.Counts.{Rose}
use Rattle.dj_report.specs.declared.report.Report.{Report}
use Rattle.dj_report.specs.declared.report.Report.TheVariants as reports
use Rattle.dj_report.specs.declared.report.Limit.TheVariants as limits
use Rattle.dj_report.specs.trusted.Text.{report_text}
use Rattle.dj_report.specs.declared.report.Violation.{Violation}
use Rattle.dj_class_set.specs.trusted.Checked.{AreCheckViolations}
use Rattle.dj_class_set.specs.trusted.Limits.{AreWithin, IsFirstPast, IsTooLong, IsTooMuch, total_bytes}
use Rattle.dj_asm_source.specs.declared.error.AsmError.TheVariants as asm_errors
use Rattle.dj_asm.specs.trusted.Texts.{IsTextOfBytes, TextFault}
use Rattle.dj_command_line.specs.trusted.DoneJobs.{Check, Verify, OnFolder, done_job_of}
use Rattle.djvm_cli.specs.trusted.Report.{CountsFiles, ReadsInput, ReadsText, FindsInput, ReadsFiles, Assembles, IsReport, files_within}
use Rattle.djvm_cli.specs.trusted.Ends.{ReadEnds, OutOfMemory, MeansUsage}
use Rattle.djvm_cli.specs.Ends.{WritesPrefix, IsReportStatus}
use Rattle.djvm_cli.proofs.Same.{same_prefix}

-- ---- the number of files

files-within : (files : List File) → length files ≡ 4096 → CountsFiles files None
files-within files is = omega arith

files-not_past : (files : List File) (report : Report) → length files ≡ 4096 → CountsFiles files (Some report) → ⊥
files-not_past files report is h = omega (arith, h.1)

files-past : (files : List File) → length files ≡ 4097 → CountsFiles files (Some (reports.Limited limits.FileCount))
files-past files is = (refl, omega arith)

files-not_within : (files : List File) → length files ≡ 4097 → CountsFiles files None → ⊥
files-not_within files is h = omega (arith, h)

-- ---- the input

input-within : (path input : List ℕ) → length input ≡ 1048576 → ReadsInput path (Some input) None
input-within path input is = omega arith

input-not_past : (path input : List ℕ) (report : Report) → length input ≡ 1048576 → ReadsInput path (Some input) (Some report) → ⊥
input-not_past path input report is h = omega (arith, h.1)

input-past : (path input : List ℕ) → length input ≡ 1048577 → ReadsInput path (Some input) (Some (reports.Limited limits.Input))
input-past path input is = (refl, omega arith)

input-not_within : (path input : List ℕ) → length input ≡ 1048577 → ReadsInput path (Some input) None → ⊥
input-not_within path input is h = omega (arith, h)

-- an input that isn't there is reported under its path, and a check has none
input-absent : (path : List ℕ) → ReadsInput path None (Some (reports.Absent path))
input-absent path = refl

input-not_absent : (path : List ℕ) → ReadsInput path None None → ⊥
input-not_absent path h = h

input-of_check : (held : Held) (report : Report) → FindsInput (Check (codes "c")) held (Some report) → ⊥
input-of_check held report h = h

-- ---- a text

text-within : (path text : List ℕ) → length text ≡ 4194304 → ReadsText path (Some text) None
text-within path text is = omega arith

text-not_past : (path text : List ℕ) (report : Report) → length text ≡ 4194304 → ReadsText path (Some text) (Some report) → ⊥
text-not_past path text report is h = omega (arith, h.1)

text-past : (path text : List ℕ) → length text ≡ 4194305 → ReadsText path (Some text) (Some (reports.Limited limits.File))
text-past path text is = (refl, omega arith)

text-not_within : (path text : List ℕ) → length text ≡ 4194305 → ReadsText path (Some text) None → ⊥
text-not_within path text is h = omega (arith, h)

text-absent : (path : List ℕ) → ReadsText path None (Some (reports.Absent path))
text-absent path = refl

-- a text that was read is always decided
text-decided : (text : List ℕ) → Assembles text None → ⊥
text-decided text h = h

-- ---- one file, and two together

abbrev one : List ℕ → List File
one bytes = (codes "A.class", bytes) ∷ []

file-within : (bytes : List ℕ) → length bytes ≡ 4194304 → ReadsFiles (one bytes) None
file-within bytes is = record { each = (omega arith, tt); together = omega arith }

file-not_within : (bytes : List ℕ) → length bytes ≡ 4194305 → ReadsFiles (one bytes) None → ⊥
file-not_within bytes is h = omega (arith, h.each.0)

file-past : (bytes : List ℕ) → length bytes ≡ 4194305 → ReadsFiles (one bytes) (Some (reports.Limited limits.File))
file-past bytes is = inl (
  refl,
  record {
    prefix = [];
    file = (codes "A.class", bytes);
    rest = [];
    parts = refl;
    before = record { each = tt; together = omega arith };
    past = omega arith;
  },
)

-- a file that is too long is reported as such, and not as making the files too long together
file-first : (prefix : List File) (path bytes : List ℕ) → length bytes ≡ 4194305 → IsTooMuch prefix (path, bytes) → ⊥
file-first prefix path bytes is h = omega (arith, h.0)

total-within : (prefix : List File) (path bytes : List ℕ) → total_bytes prefix ≡ 67108863 → length bytes ≡ 1 → IsTooMuch prefix (path, bytes) → ⊥
total-within prefix path bytes sum is h = omega (arith, h.1)

total-past : (prefix : List File) (path bytes : List ℕ) → total_bytes prefix ≡ 67108863 → length bytes ≡ 2 → IsTooMuch prefix (path, bytes)
total-past prefix path bytes sum is = (omega arith, omega arith)

total-not_within : (files : List File) → total_bytes files ≡ 67108865 → AreWithin files → ⊥
total-not_within files sum h = omega (arith, h.together)

-- ---- the order

check_words : List (List ℕ)
check_words = codes "check" ∷ codes "c" ∷ []

verify_words : List (List ℕ)
verify_words = codes "verify" ∷ codes "c/" ∷ codes "A" ∷ codes "in" ∷ []

order-files : (held : Held) (answers : List HostAnswer) → 4096 < length (class_files (codes "c") held) → IsReport verify_words held answers (reports.Limited limits.FileCount)
unfolding verify_words done_job_of
order-files held answers past = inl (refl, past)

order-input : (held : Held) (answers : List HostAnswer) → length (class_files (codes "c") held) ≤ 4096 → bytes_at held (codes "in") ≡ None → IsReport verify_words held answers (reports.Absent (codes "in"))
unfolding verify_words done_job_of
order-input held answers few absent =
    let P : Option (List ℕ) → Type 0 = λ found. ReadsInput (codes "in") found (Some (reports.Absent (codes "in"))) in
    inr (few, inl (subst P (sym absent) refl))

order-file : (held : Held) (answers : List HostAnswer) → length (class_files (codes "c") held) ≤ 4096 → IsFirstPast IsTooLong (class_files (codes "c") held) → IsReport check_words held answers (reports.Limited limits.File)
unfolding check_words done_job_of
order-file held answers few past = inr (few, inr (tt, inl (inl (refl, past))))

order-total : (held : Held) (answers : List HostAnswer) → length (class_files (codes "c") held) ≤ 4096 → IsFirstPast IsTooMuch (class_files (codes "c") held) → IsReport check_words held answers (reports.Limited limits.Total)
unfolding check_words done_job_of
order-total held answers few past = inr (few, inr (tt, inl (inr (refl, past))))

order-judged : (held : Held) (answers : List HostAnswer) (violations : List Violation) → length (class_files (codes "c") held) ≤ 4096 → AreWithin (class_files (codes "c") held)
    → AreCheckViolations (files_within (codes "c") held) violations → violations ≢ [] → IsReport check_words held answers (reports.Rejected violations)
unfolding check_words done_job_of
order-judged held answers violations few within are some = inr (few, inr (tt, inr (within, inl (violations, refl, are, some))))

assemble_words : List (List ℕ)
assemble_words = codes "assemble" ∷ codes "t" ∷ []

order-text_absent : (held : Held) (answers : List HostAnswer) → bytes_at held (codes "t") ≡ None → IsReport assemble_words held answers (reports.Absent (codes "t"))
unfolding assemble_words done_job_of
order-text_absent held answers absent =
    let P : Option (List ℕ) → Type 0 = λ found. ReadsText (codes "t") found (Some (reports.Absent (codes "t"))) in
    inl (subst P (sym absent) refl)

order-text_long : (held : Held) (answers : List HostAnswer) (text : List ℕ) → bytes_at held (codes "t") ≡ Some text → length text ≡ 4194305 → IsReport assemble_words held answers (reports.Limited limits.File)
unfolding assemble_words done_job_of
order-text_long held answers text there long =
    let P : Option (List ℕ) → Type 0 = λ found. ReadsText (codes "t") found (Some (reports.Limited limits.File)) in
    inl (subst P (sym there) (refl, omega arith))

order-text_means : (held : Held) (answers : List HostAnswer) (text bytes : List ℕ) → bytes_at held (codes "t") ≡ Some text → length text ≡ 4194304 → IsTextOfBytes text bytes → IsReport assemble_words held answers (reports.Written bytes)
unfolding assemble_words done_job_of
order-text_means held answers text bytes there short means =
    let P : Option (List ℕ) → Type 0 = λ found. ReadsText (codes "t") found None in
    let Q : Option (List ℕ) → Type 0 = λ found. Assembles (unwrap_or found []) (Some (reports.Written bytes)) in
    inr (subst P (sym there) (omega arith), inl (subst Q (sym there) (inl (bytes, refl, means))))

order-text_fault : (held : Held) (answers : List HostAnswer) (text : List ℕ) → bytes_at held (codes "t") ≡ Some text → length text ≡ 4194304 → TextFault text (asm_errors.Syntax 1 10) → IsReport assemble_words held answers (reports.Syntax 1 10)
unfolding assemble_words done_job_of
order-text_fault held answers text there short fault =
    let P : Option (List ℕ) → Type 0 = λ found. ReadsText (codes "t") found None in
    let Q : Option (List ℕ) → Type 0 = λ found. Assembles (unwrap_or found []) (Some (reports.Syntax 1 10)) in
    inr (subst P (sym there) (omega arith), inl (subst Q (sym there) (inr (asm_errors.Syntax 1 10, refl, fault))))

order-words : (held : Held) (answers : List HostAnswer) → IsReport (codes "check" ∷ []) held answers reports.Usage
unfolding done_job_of
order-words held answers = inl refl

-- ---- how a call ends

-- where the store's contents aren't known, 65 is answered only where it failed
read-unreported : (words : List (List ℕ)) (answers : List HostAnswer) (before now : ℕ) (old new : Option (List ℕ)) → ReadEnds words None answers before now old new → Rose before now
read-unreported words answers before now old new (inl fault) = fault.rose
read-unreported words answers before now old new (inr reported) = let held = reported.0 in absurd cc

-- and then nothing is written
read-nothing : (words : List (List ℕ)) (answers : List HostAnswer) (before now : ℕ) (new : List ℕ) → ReadEnds words None answers before now (Some []) (Some new) → new ≡ []
read-nothing words answers before now new (inl fault) = fault.written
read-nothing words answers before now new (inr reported) = let held = reported.0 in absurd cc

prefix-none : (old new : Option (List ℕ)) (text : List ℕ) → Appends old new [] → WritesPrefix old new text
prefix-none old new text nothing = ([], (text, refl), nothing)

-- where memory ran out, a prefix of the right report was written
memory-prefix : (words : List (List ℕ)) (held : Held) (answers : List HostAnswer) (report : Report) (old new : Option (List ℕ)) → IsReport words held answers report → OutOfMemory words (Some held) answers old new → WritesPrefix old new (report_text report)
memory-prefix words held answers report old new right (inl broken) = same_prefix words held answers report old new right broken
memory-prefix words held answers report old new right (inr nothing) = prefix-none old new (report_text report) nothing

-- only a store whose contents are known has a report with the status 65
absent-unreported : IsReportStatus (Some (OnFolder (Verify [] [] [] (record { alloc = 0; invoke = 0; jump = 0; throw = 0 })))) None 65 → ⊥
absent-unreported h = let held = h.1 refl in absurd cc

-- words of no job have the status 64 and no other
usage-is : MeansUsage [] 64
unfolding done_job_of
usage-is = (λ _. refl, λ _. refl)

usage-only : MeansUsage [] 0 → ⊥
unfolding done_job_of
usage-only h = absurd (cc (h.1 refl))
