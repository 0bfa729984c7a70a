-- The order in which violations are reported.
use Rattle.std.specs.Prelude.{List}
use Rattle.std.specs.declared.cmp.Ordering.{Ordering}
use Rattle.std.specs.Ordering.{nat_cmp, ordering_then}
use Rattle.std.specs.Option.{option_cmp}
use Rattle.std.specs.Cmp.Lexicographic.{slice_cmp}
use Rattle.std.specs.List.Sorted.{IsStrictlySortedBy}
use Rattle.dj_report.specs.declared.report.Violation.{Violation}

-- by the bytes of the member, then the instruction's number, then the rule; none comes first
abbrev pub cmp_within_file : Violation → Violation → Ordering
cmp_within_file a b =
    ordering_then (slice_cmp nat_cmp a.member b.member)
    (ordering_then (option_cmp nat_cmp a.number b.number) (nat_cmp a.rule b.rule))

-- by the bytes of the path, and then as within a file
abbrev pub violation_cmp : Violation → Violation → Ordering
violation_cmp a b = ordering_then (slice_cmp nat_cmp a.path b.path) (cmp_within_file a b)

-- the violations are in order, each once
abbrev pub IsInOrder : List Violation → Type 0
IsInOrder = IsStrictlySortedBy violation_cmp
