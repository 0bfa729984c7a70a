-- Lines of a report, and when they are exactly those of a condition.
use Rattle.std.specs.Prelude.{ℕ, List, [], ◌↔◌, None, Contains}
use Rattle.dj_report.specs.declared.report.Violation.{Violation}
use Rattle.dj_report.specs.trusted.Order.{IsInOrder}

-- a line on a whole file
abbrev pub file_line : List ℕ → ℕ → Violation
file_line path rule = record { path = path; member = []; number = None; rule = rule }

-- a line on a member
abbrev pub member_line : List ℕ → List ℕ → ℕ → Violation
member_line path member rule = record { path = path; member = member; number = None; rule = rule }

-- these are exactly the lines that meet the condition, in order, each once
pub record AreExactly (IsLine : Violation → Type 0) (violations : List Violation) : Type 0 where
  pub in_order : IsInOrder violations
  pub all : (v : Violation) → Contains violations v ↔ IsLine v
