-- Used by the code alone: the local variables of frames, kept as lists.
use Rattle.std.specs.Prelude.{◌≡◌, ℕ, suc, ◌≤◌, ◌<◌, [], length, get_or, Some, slice_get}
use Rattle.dj_kind_trees.specs.Nodes.{listed}
use Rattle.dj_model.specs.trusted.Initialisation.{padded}
use Rattle.dj_shape_rule.specs.declared.arena.LocalsPlace.{LocalsPlace}
use Rattle.dj_shape_rule.specs.declared.frames.KeptFrame.{KeptFrame}
use Rattle.dj_shape_rule.specs.Arena.{slots_at, IsIn}
use Rattle.dj_shape_rule.specs.Reported.{Reported, ReportedFrames, reported_at, frame_place}
use Rattle.dj_shape_rule.specs.Standing.{Standing, IsListed}

-- the local variables of each frame are the list of its place
abbrev pub AreListed : ReportedFrames → Standing → Type 0
AreListed frames s = (number : ℕ) (reported : Reported) → reported_at frames number ≡ Some reported → IsListed s (frame_place frames number) reported.locals

-- there are as many lists; those of frames that fit are their local variables, from number 1 on
pub record AreListedBelow (frames : ReportedFrames) (s : Standing) (count : ℕ) : Type 0 where
  pub many : length s.frames ≡ count
  pub each : (index : ℕ) (kept : KeptFrame) → slice_get frames.reported.kept.items index ≡ Some kept → suc index < count
      → length (slots_at frames.slots.items kept.place.end) ≤ s.max_locals → slice_get s.frames (suc index) ≡ Some (padded s.max_locals (slots_at frames.slots.items kept.place.end))

-- the list of this number has the kinds of the local variables of a place
pub record IsLast (frames : ReportedFrames) (s : Standing) (number : ℕ) (place : LocalsPlace) : Type 0 where
  pub within : IsIn frames.slots.items place
  pub same : (slot : ℕ) → slot < s.max_locals → listed (get_or s.frames number []) slot ≡ listed (slots_at frames.slots.items place.end) slot

-- the local variables of each frame fit
abbrev pub AreFew : ReportedFrames → ℕ → Type 0
AreFew frames max_locals = (number : ℕ) (reported : Reported) → reported_at frames number ≡ Some reported → length reported.locals ≤ max_locals
