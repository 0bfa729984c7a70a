-- Each report's text and status, each end of a run and each rule's name, by plain values (docs/REPORT.md).
use Rattle.std.proofs.Common.{◌≡◌, List, [], ◌∷◌, ◌++◌, map, Some, None, codes, refl}
use Rattle.std.specs.Fmt.{digits}
use Rattle.dj_names.specs.declared.run.Charge.TheVariants as charges
use Rattle.dj_names.specs.declared.run.Costs.{Costs}
use Rattle.dj_names.specs.declared.run.Message.TheVariants as messages
use Rattle.dj_names.specs.declared.run.Outcome.{Outcome}
use Rattle.dj_names.specs.declared.run.Outcome.TheVariants as outcomes
use Rattle.dj_report.specs.declared.report.Limit.TheVariants as limits
use Rattle.dj_report.specs.declared.report.Violation.{Violation}
use Rattle.dj_report.specs.declared.report.Report.{Report}
use Rattle.dj_report.specs.declared.report.Report.TheVariants as reports
use Rattle.dj_report.specs.trusted.Parts.{escaped_byte, hex_digit}
use Rattle.dj_report.specs.trusted.Outcomes.{low_hex_digit, byte_hex, unit_hex, bytes_text, units_text, message_text, outcome_text, outcome_status}
use Rattle.dj_report.specs.trusted.Text.{rule_name, member_text, number_text, report_text, report_status}

-- ---- ends of runs

abbrev each_end : List Outcome
each_end =
    outcomes.OkNull ∷ outcomes.OkBytes [] ∷ outcomes.OkBytes (3 ∷ 0 ∷ 255 ∷ []) ∷ outcomes.Threw (codes "pay/Refused") messages.Null ∷ outcomes.Threw (codes "A") (messages.Text [])
    ∷ outcomes.Threw (codes "A") (messages.Text (45 ∷ 49 ∷ 65535 ∷ [])) ∷ outcomes.Init (codes "a/C") (codes "b/E") messages.Null ∷ outcomes.Init (codes "a/C") (codes "b/E") (messages.Text (97 ∷ []))
    ∷ outcomes.Link ∷ outcomes.TooDeep ∷ outcomes.Stopped charges.Alloc ∷ outcomes.Stopped charges.Invoke ∷ outcomes.Stopped charges.Jump ∷ outcomes.Stopped charges.Throw
    ∷ outcomes.HeapFull 16 67108880 ∷ outcomes.OutOfSteps 10 ∷ []

-- of INIT the class comes before the exception
end-texts : map outcome_text each_end
    ≡ codes "OK null" ∷ codes "OK 0" ∷ codes "OK 3 0300ff" ∷ codes "EXCEPTION pay/Refused null" ∷ codes "EXCEPTION A 0"
    ∷ codes "EXCEPTION A 3 002d0031ffff" ∷ codes "INIT a/C b/E null" ∷ codes "INIT a/C b/E 1 0061"
    ∷ codes "LINK" ∷ codes "DEPTH" ∷ codes "THRESHOLD alloc" ∷ codes "THRESHOLD invoke" ∷ codes "THRESHOLD jump" ∷ codes "THRESHOLD throw"
    ∷ codes "HEAP 16 67108880" ∷ codes "STEPS 10" ∷ []
unfolding digits
end-texts = refl

end-statuses : map outcome_status each_end ≡ 0 ∷ 0 ∷ 0 ∷ 1 ∷ 1 ∷ 1 ∷ 5 ∷ 5 ∷ 6 ∷ 4 ∷ 3 ∷ 3 ∷ 3 ∷ 3 ∷ 9 ∷ 8 ∷ []
end-statuses = refl

-- both names are escaped
escaped-names : map outcome_text (outcomes.Threw (codes "a b") messages.Null ∷ outcomes.Init (codes "c%") (codes "d\n") messages.Null ∷ []) ≡ codes "EXCEPTION a%20b null" ∷ codes "INIT c%25 d%0A null" ∷ []
escaped-names = refl

-- ---- reports

abbrev violation : Violation
violation = record { path = codes "a/B.class"; member = codes "m()V"; number = Some 12; rule = 12 }

abbrev other_violation : Violation
other_violation = record { path = codes "C.class"; member = []; number = None; rule = 5 }

abbrev costs : Costs
costs = record { alloc = 24; invoke = 10; jump = 0; throw = 7 }

abbrev each_report : List Report
each_report =
    reports.Accepted 0 ∷ reports.Accepted 10 ∷ reports.Rejected (violation ∷ other_violation ∷ []) ∷ reports.Limited limits.FileCount ∷ reports.Limited limits.File ∷ reports.Limited limits.Total
    ∷ reports.Limited limits.Input ∷ reports.Later (codes "a B.class") ∷ reports.Absent (codes "i%n") ∷ reports.Usage ∷ reports.Syntax 3 14 ∷ reports.Label 15 ∷ reports.Large 9 ∷ reports.Written (10 ∷ 0 ∷ []) ∷ []

report-texts : map report_text each_report
    ≡ codes "ACCEPTED 0\n" ∷ codes "ACCEPTED 10\n" ∷ codes "REJECTED 2\na/B.class m()V 12 12 FLOAT\nC.class - - 5 DUPLICATE\n" ∷ codes "LIMIT files 4096\n" ∷ codes "LIMIT file 4194304\n" ∷ codes "LIMIT total 67108864\n"
    ∷ codes "LIMIT input 1048576\n" ∷ codes "LATER a%20B.class\n" ∷ codes "ABSENT i%25n\n" ∷ codes "USAGE\n" ∷ codes "ASM SYNTAX 3 14\n" ∷ codes "ASM LABEL 15\n" ∷ codes "ASM LARGE 9\n" ∷ (10 ∷ 0 ∷ []) ∷ []
unfolding digits
report-texts = refl

report-statuses : map report_status each_report ≡ 0 ∷ 0 ∷ 2 ∷ 7 ∷ 7 ∷ 7 ∷ 7 ∷ 75 ∷ 65 ∷ 64 ∷ 68 ∷ 68 ∷ 68 ∷ 0 ∷ []
report-statuses = refl

-- a run's report has the line of its end, and then its costs or its steps; its status is the end's
run-texts : map report_text (reports.Costed (outcomes.OkBytes (7 ∷ [])) costs ∷ reports.Raw (outcomes.OkBytes (7 ∷ [])) 24 ∷ reports.Raw (outcomes.Init (codes "A") (codes "B") messages.Null) 10 ∷ reports.Raw (outcomes.OutOfSteps 5) 5 ∷ [])
    ≡ codes "OK 1 07\ncosts alloc 24 invoke 10 jump 0 throw 7\n" ∷ codes "OK 1 07\nsteps 24\n" ∷ codes "INIT A B null\nsteps 10\n" ∷ codes "STEPS 5\nsteps 5\n" ∷ []
unfolding digits
run-texts = refl

costed-statuses : map (λ end. report_status (reports.Costed end costs)) each_end ≡ map outcome_status each_end
costed-statuses = refl

raw-statuses : map (λ end. report_status (reports.Raw end 3)) each_end ≡ map outcome_status each_end
raw-statuses = refl

-- a run of rewritten classes has all of it, the digest before the steps
ran-texts : map report_text (reports.Ran (outcomes.OkBytes (7 ∷ [])) costs (0 ∷ 171 ∷ 255 ∷ []) 24 ∷ reports.Ran outcomes.Link costs [] 10 ∷ [])
    ≡ codes "OK 1 07\ncosts alloc 24 invoke 10 jump 0 throw 7\ncode 00abff\nsteps 24\n" ∷ codes "LINK\ncosts alloc 24 invoke 10 jump 0 throw 7\ncode \nsteps 10\n" ∷ []
unfolding digits
ran-texts = refl

ran-statuses : map (λ end. report_status (reports.Ran end costs [] 3)) each_end ≡ map outcome_status each_end
ran-statuses = refl

-- ---- rules

-- 1 to 21, and the numbers beside them
rule-names : map rule_name (0 ∷ 1 ∷ 2 ∷ 3 ∷ 4 ∷ 5 ∷ 6 ∷ 7 ∷ 8 ∷ 9 ∷ 10 ∷ 11 ∷ 12 ∷ 13 ∷ 14 ∷ 15 ∷ 16 ∷ 17 ∷ 18 ∷ 19 ∷ 20 ∷ 21 ∷ 22 ∷ [])
    ≡ [] ∷ codes "MALFORMED" ∷ codes "VERSION" ∷ codes "NAME" ∷ codes "SANDBOX_PACKAGE" ∷ codes "DUPLICATE" ∷ codes "HIERARCHY" ∷ codes "NATIVE" ∷ codes "FINALIZER" ∷ codes "DYNAMIC"
    ∷ codes "REFLECTION" ∷ codes "CATCH" ∷ codes "FLOAT" ∷ codes "SUBROUTINE" ∷ codes "BREAKPOINT" ∷ codes "MULTI_ARRAY" ∷ codes "INTERFACE_CODE" ∷ codes "WHITELIST" ∷ codes "UNRESOLVED" ∷ codes "SHAPE"
    ∷ codes "ENTRY" ∷ codes "TOO_LARGE" ∷ [] ∷ []
rule-names = refl

-- ---- parts of lines

-- a dash is no member and no number, and 0 is a number
dashes : member_text [] ∷ member_text (codes "m()V") ∷ number_text None ∷ number_text (Some 0) ∷ number_text (Some 65534) ∷ [] ≡ codes "-" ∷ codes "m()V" ∷ codes "-" ∷ codes "0" ∷ codes "65534" ∷ []
unfolding digits
dashes = refl

-- the bytes at both ends of what is written as it is, and the percent between them
bytes-escaped : map escaped_byte (0 ∷ 31 ∷ 32 ∷ 33 ∷ 36 ∷ 37 ∷ 38 ∷ 126 ∷ 127 ∷ 171 ∷ 255 ∷ [])
    ≡ codes "%00" ∷ codes "%1F" ∷ codes "%20" ∷ codes "!" ∷ codes "$" ∷ codes "%25" ∷ codes "&" ∷ codes "~" ∷ codes "%7F" ∷ codes "%AB" ∷ codes "%FF" ∷ []
bytes-escaped = refl

-- digits: capitals in what is escaped, small letters in what a run returns
digits-of : map hex_digit (0 ∷ 9 ∷ 10 ∷ 15 ∷ []) ++ map low_hex_digit (0 ∷ 9 ∷ 10 ∷ 15 ∷ []) ≡ codes "09AF09af"
digits-of = refl

bytes-hex : map byte_hex (0 ∷ 9 ∷ 16 ∷ 171 ∷ 255 ∷ []) ++ map unit_hex (0 ∷ 97 ∷ 256 ∷ 43981 ∷ 65535 ∷ [])
    ≡ codes "00" ∷ codes "09" ∷ codes "10" ∷ codes "ab" ∷ codes "ff" ∷ codes "0000" ∷ codes "0061" ∷ codes "0100" ∷ codes "abcd" ∷ codes "ffff" ∷ []
bytes-hex = refl

-- how many, and none
counted : bytes_text [] ∷ bytes_text (1 ∷ 2 ∷ []) ∷ units_text [] ∷ units_text (1 ∷ 2 ∷ []) ∷ message_text messages.Null ∷ message_text (messages.Text []) ∷ []
    ≡ codes "0" ∷ codes "2 0102" ∷ codes "0" ∷ codes "2 00010002" ∷ codes "null" ∷ codes "0" ∷ []
unfolding digits
counted = refl
