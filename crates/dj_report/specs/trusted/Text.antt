-- The bytes and the status of a report: lines of ASCII, each ended by a line feed, or the bytes of a file and nothing else.
use Rattle.std.specs.Prelude.{ℕ, ◌==◌, List, [], ◌∷◌, ◌++◌, length, Option, Some, None, codes, if◌then◌else◌}
use Rattle.std.specs.List.{flat_map}
use Rattle.std.specs.Fmt.{decimal}
use Rattle.dj_report.specs.declared.report.Limit.{Limit}
use Rattle.dj_report.specs.declared.report.Limit.TheVariants as limits
use Rattle.dj_report.specs.declared.report.Violation.{Violation}
use Rattle.dj_report.specs.declared.report.Report.{Report}
use Rattle.dj_report.specs.declared.report.Report.TheVariants as reports
use Rattle.dj_report.specs.trusted.Parts.{line, escaped}
use Rattle.dj_report.specs.trusted.Outcomes.{run_text, raw_text, ran_text, outcome_status}

-- the name of a rule, by its number; other numbers have the empty name
abbrev pub rule_name : ℕ → List ℕ
rule_name rule =
    if rule == 1 then codes "MALFORMED"
    else (if rule == 2 then codes "VERSION"
    else (if rule == 3 then codes "NAME"
    else (if rule == 4 then codes "SANDBOX_PACKAGE"
    else (if rule == 5 then codes "DUPLICATE"
    else (if rule == 6 then codes "HIERARCHY"
    else (if rule == 7 then codes "NATIVE"
    else (if rule == 8 then codes "FINALIZER"
    else (if rule == 9 then codes "DYNAMIC"
    else (if rule == 10 then codes "REFLECTION"
    else (if rule == 11 then codes "CATCH"
    else (if rule == 12 then codes "FLOAT"
    else (if rule == 13 then codes "SUBROUTINE"
    else (if rule == 14 then codes "BREAKPOINT"
    else (if rule == 15 then codes "MULTI_ARRAY"
    else (if rule == 16 then codes "INTERFACE_CODE"
    else (if rule == 17 then codes "WHITELIST"
    else (if rule == 18 then codes "UNRESOLVED"
    else (if rule == 19 then codes "SHAPE"
    else (if rule == 20 then codes "ENTRY"
    else (if rule == 21 then codes "TOO_LARGE"
    else []))))))))))))))))))))

-- a member's name and descriptor; a dash where there is none
abbrev pub member_text : List ℕ → List ℕ
member_text [] = codes "-"
member_text (b ∷ bs) = escaped (b ∷ bs)

abbrev pub number_text : Option ℕ → List ℕ
number_text None = codes "-"
number_text (Some n) = decimal n

-- path, member, instruction's number, rule and the rule's name
abbrev pub violation_text : Violation → List ℕ
violation_text v =
    line (escaped v.path ++ codes " " ++ member_text v.member ++ codes " " ++ number_text v.number
    ++ codes " " ++ decimal v.rule ++ codes " " ++ rule_name v.rule)

abbrev pub limit_text : Limit → List ℕ
limit_text limits.FileCount = codes "files 4096"
limit_text limits.File = codes "file 4194304"
limit_text limits.Total = codes "total 67108864"
limit_text limits.Input = codes "input 1048576"

-- how many violations there are, and a line for each
abbrev pub violations_text : List Violation → List ℕ
violations_text violations = line (codes "REJECTED " ++ decimal (length violations)) ++ flat_map violation_text violations

-- the line for a syntax fault of an assembler's text, with its line and column; the other faults have a line alone
abbrev pub syntax_text : ℕ → ℕ → List ℕ
syntax_text at column = line (codes "ASM SYNTAX " ++ decimal at ++ codes " " ++ decimal column)

abbrev pub line_fault_text : List ℕ → ℕ → List ℕ
line_fault_text fault at = line (codes "ASM " ++ fault ++ codes " " ++ decimal at)

abbrev pub report_text : Report → List ℕ
report_text (reports.Accepted files) = line (codes "ACCEPTED " ++ decimal files)
report_text (reports.Rejected violations) = violations_text violations
report_text (reports.Limited limit) = line (codes "LIMIT " ++ limit_text limit)
report_text (reports.Later path) = line (codes "LATER " ++ escaped path)
report_text (reports.Absent path) = line (codes "ABSENT " ++ escaped path)
report_text (reports.Costed outcome costs) = run_text outcome costs
report_text (reports.Raw outcome steps) = raw_text outcome steps
report_text (reports.Ran outcome costs code steps) = ran_text outcome costs code steps
report_text reports.Usage = line (codes "USAGE")
report_text (reports.Syntax at column) = syntax_text at column
report_text (reports.Label at) = line_fault_text (codes "LABEL") at
report_text (reports.Large at) = line_fault_text (codes "LARGE") at
report_text (reports.Written bytes) = bytes

-- the status with which the program ends after it wrote the report
abbrev pub report_status : Report → ℕ
report_status (reports.Accepted files) = 0
report_status (reports.Rejected violations) = 2
report_status (reports.Limited limit) = 7
report_status (reports.Later path) = 75
report_status (reports.Absent path) = 65
report_status (reports.Costed outcome costs) = outcome_status outcome
report_status (reports.Raw outcome steps) = outcome_status outcome
report_status (reports.Ran outcome costs code steps) = outcome_status outcome
report_status reports.Usage = 64
report_status (reports.Syntax at column) = 68
report_status (reports.Label at) = 68
report_status (reports.Large at) = 68
report_status (reports.Written bytes) = 0
