-- Used by the code alone: what a call borrows and what it hands on.
use Rattle.std.specs.Prelude.{◌≡◌, Option, Some, None}
use Rattle.std.specs.Borrow.{Bor}
use Rattle.dj_resolution.specs.Linked.{Linked}

-- a linker is borrowed, and it links these
abbrev pub HasLinker : Option (Bor Linked) → Linked → Type 0
HasLinker None linked = ⊥
HasLinker (Some linker) linked = linker.now ≡ linked
