-- The texts and statuses of reports, the escapes of bytes and the order of lines, at plain values.
use Rattle.std.proofs.Common.{◌≡◌, ℕ, List, [], ◌∷◌, ◌++◌, map, Option, Some, None, codes, refl}
use Rattle.std.specs.declared.cmp.Ordering.TheVariants as orderings
use Rattle.std.specs.Fmt.{digits}
use Rattle.dj_names.specs.declared.run.Charge.TheVariants as charges
use Rattle.dj_names.specs.declared.run.Costs.{Costs}
use Rattle.dj_names.specs.declared.run.Outcome.TheVariants as outcomes
use Rattle.dj_report.specs.declared.report.Limit.TheVariants as limits
use Rattle.dj_report.specs.declared.report.Violation.{Violation}
use Rattle.dj_report.specs.declared.report.Report.TheVariants as reports
use Rattle.dj_report.specs.trusted.Parts.{escaped}
use Rattle.dj_report.specs.trusted.Outcomes.{outcome_text, outcome_status, costs_text, run_text}
use Rattle.dj_report.specs.trusted.Text.{rule_name, violation_text, limit_text, report_text, report_status}
use Rattle.dj_report.specs.trusted.Order.{violation_cmp}

-- ---- reports

accepted : report_text (reports.Accepted 12) ≡ codes "ACCEPTED 12" ++ 10 ∷ []
unfolding digits
accepted = refl

limits-text : map limit_text (limits.FileCount ∷ limits.File ∷ limits.Total ∷ limits.Input ∷ []) ≡ codes "files 4096" ∷ codes "file 4194304" ∷ codes "total 67108864" ∷ codes "input 1048576" ∷ []
limits-text = refl

limited : report_text (reports.Limited limits.File) ≡ codes "LIMIT file 4194304" ++ 10 ∷ []
limited = refl

usage : report_text reports.Usage ≡ codes "USAGE" ++ 10 ∷ []
usage = refl

-- the faults of an assembler's text give the line before the column
asm-texts : map report_text (reports.Syntax 1 10 ∷ reports.Label 7 ∷ reports.Large 12 ∷ []) ≡ (codes "ASM SYNTAX 1 10" ++ 10 ∷ []) ∷ (codes "ASM LABEL 7" ++ 10 ∷ []) ∷ (codes "ASM LARGE 12" ++ 10 ∷ []) ∷ []
unfolding digits
asm-texts = refl

-- a file is written as it is, and no line feed after it
written : report_text (reports.Written (202 ∷ 254 ∷ 0 ∷ [])) ≡ 202 ∷ 254 ∷ 0 ∷ []
written = refl

-- ---- lines

rules : map rule_name (0 ∷ 1 ∷ 4 ∷ 5 ∷ 6 ∷ 8 ∷ 9 ∷ 12 ∷ 16 ∷ 17 ∷ 18 ∷ 21 ∷ 22 ∷ 255 ∷ [])
    ≡ [] ∷ codes "MALFORMED" ∷ codes "SANDBOX_PACKAGE" ∷ codes "DUPLICATE" ∷ codes "HIERARCHY" ∷ codes "FINALIZER" ∷ codes "DYNAMIC" ∷ codes "FLOAT"
    ∷ codes "INTERFACE_CODE" ∷ codes "WHITELIST" ∷ codes "UNRESOLVED" ∷ codes "TOO_LARGE" ∷ [] ∷ [] ∷ []
rules = refl

violation : List ℕ → List ℕ → Option ℕ → ℕ → Violation
violation path member number rule = record { path = path; member = member; number = number; rule = rule }

file-line : violation_text (violation (codes "a/A.class") [] None 3) ≡ codes "a/A.class - - 3 NAME" ++ 10 ∷ []
unfolding violation digits
file-line = refl

member-line : violation_text (violation (codes "A.class") (codes "verify([B)[B") (Some 17) 19) ≡ codes "A.class verify([B)[B 17 19 SHAPE" ++ 10 ∷ []
unfolding violation digits
member-line = refl

-- a space, a percent, a line feed and what is no ASCII are escaped in upper case, and the printable bytes at both ends are not
escapes : escaped (codes "a b%!~" ++ 10 ∷ 127 ∷ 195 ∷ 175 ∷ 0 ∷ []) ≡ codes "a%20b%25!~%0A%7F%C3%AF%00"
escapes = refl

-- ---- runs

outcome-texts : map outcome_text (outcomes.OkNull ∷ outcomes.Link ∷ outcomes.TooDeep ∷ outcomes.Stopped charges.Alloc ∷ outcomes.Stopped charges.Invoke ∷ outcomes.Stopped charges.Jump ∷ outcomes.Stopped charges.Throw ∷ outcomes.HeapFull 5 16 ∷ outcomes.OutOfSteps 9 ∷ [])
    ≡ codes "OK null" ∷ codes "LINK" ∷ codes "DEPTH" ∷ codes "THRESHOLD alloc" ∷ codes "THRESHOLD invoke" ∷ codes "THRESHOLD jump" ∷ codes "THRESHOLD throw" ∷ codes "HEAP 5 16" ∷ codes "STEPS 9" ∷ []
unfolding digits
outcome-texts = refl

costs : Costs
costs = record { alloc = 16; invoke = 1; jump = 2; throw = 3 }

costs-text : costs_text costs ≡ codes "costs alloc 16 invoke 1 jump 2 throw 3"
unfolding costs digits
costs-text = refl

-- the outcome's line comes before the costs'
run-text : run_text outcomes.TooDeep costs ≡ codes "DEPTH" ++ 10 ∷ codes "costs alloc 16 invoke 1 jump 2 throw 3" ++ 10 ∷ []
unfolding costs digits
run-text = refl

-- ---- statuses

outcome-statuses : map outcome_status (outcomes.OkNull ∷ outcomes.Stopped charges.Jump ∷ outcomes.TooDeep ∷ outcomes.Link ∷ outcomes.OutOfSteps 9 ∷ outcomes.HeapFull 5 16 ∷ []) ≡ 0 ∷ 3 ∷ 4 ∷ 6 ∷ 8 ∷ 9 ∷ []
outcome-statuses = refl

raw-run : report_text (reports.Raw outcomes.TooDeep 51) ≡ codes "DEPTH\nsteps 51\n"
unfolding digits
raw-run = refl

report-statuses : map report_status (reports.Accepted 1 ∷ reports.Limited limits.File ∷ reports.Costed outcomes.TooDeep costs ∷ reports.Raw outcomes.Link 7 ∷ reports.Usage ∷ reports.Syntax 1 10 ∷ reports.Label 7 ∷ reports.Large 12 ∷ reports.Written [] ∷ []) ≡ 0 ∷ 7 ∷ 4 ∷ 6 ∷ 64 ∷ 68 ∷ 68 ∷ 68 ∷ 0 ∷ []
report-statuses = refl

-- ---- the order

first : Violation
first = violation (codes "A") (codes "m") (Some 2) 19

-- the path is compared first, then the member, the number and the rule; what has no number comes before what has
orders : map (violation_cmp first) (violation (codes "B") [] None 1 ∷ violation (codes "A$") (codes "a") None 1 ∷ violation (codes "A") (codes "n") None 1 ∷ violation (codes "A") (codes "m") (Some 3) 1 ∷ violation (codes "A") (codes "m") None 20 ∷ violation (codes "A") (codes "m") (Some 2) 20 ∷ first ∷ [])
    ≡ orderings.Less ∷ orderings.Less ∷ orderings.Less ∷ orderings.Less ∷ orderings.Greater ∷ orderings.Less ∷ orderings.Equal ∷ []
unfolding first violation
orders = refl
