-- What the call that judges heads returns.
use Rattle.std.specs.Prelude.{◌≡◌, ◌↔◌, ℕ, Bool, IsTrue, List, length, Some, Contains, slice_get}
use Rattle.dj_library.specs.trusted.Heads.{Head}
use Rattle.dj_hierarchy_rule.specs.trusted.Hierarchy.{ViolatesHierarchy}
use Rattle.dj_hierarchy_rule.specs.Hierarchy.{Stands}

-- each mark says whether the head at its place violates the rule, among all the heads and those of the library
pub record AreJudged (heads : List Head) (marks : List Bool) : Type 0 where
  pub all : length marks ≡ length heads
  pub each : (place : ℕ) (head : Head) (mark : Bool) → slice_get heads place ≡ Some head → slice_get marks place ≡ Some mark → IsTrue mark ↔ ViolatesHierarchy (Stands heads) head

-- this many marks, each of which says whether the head at its place violates the rule, among all of them
pub record AreMarks (heads : List Head) (count : ℕ) (marks : List Bool) : Type 0 where
  pub all : length marks ≡ count
  pub each : (place : ℕ) (head : Head) (mark : Bool) → slice_get heads place ≡ Some head → slice_get marks place ≡ Some mark → IsTrue mark ↔ ViolatesHierarchy (Contains heads) head
