-- Used by the code alone: what the frames of the handlers of ranges require.
use Rattle.std.specs.Prelude.{◌≡◌, ℕ, ◌<◌, ◌≤◌, List, Option, Some, None, slice_get}
use Rattle.dj_names.specs.declared.descriptor.Kind.{Kind}
use Rattle.dj_labels.specs.declared.labelled.Protected.{Protected}
use Rattle.dj_model.specs.trusted.Values.{local_at}
use Rattle.dj_kind_lists.specs.declared.ranges.KindRange.{KindRange}
use Rattle.dj_shape_rule.specs.Reported.{Reported, ReportedFrames, reported_at, frame_place}

-- the frame of the handler of a range has this kind for the local variable
pub record Says (frames : ReportedFrames) (row : Protected) (slot : ℕ) (kind : Kind) : Type 0 where
  pub reported : Reported
  pub at : reported_at frames row.handler ≡ Some reported
  pub says : local_at reported.locals slot ≡ Some kind

-- the local variables before an instruction have the kinds of the frames of the handlers of all ranges that the instruction is in
abbrev pub Handled : List Protected → ReportedFrames → ℕ → List (Option Kind) → Type 0
Handled rows frames number locals = (k : ℕ) (row : Protected) (slot : ℕ) (kind : Kind) → slice_get rows k ≡ Some row → row.start ≤ number → number < row.end
    → Says frames row slot kind → local_at locals slot ≡ Some kind

-- the range of a row, of the frame at a place; without a frame it has no instructions
abbrev pub range_with : Option Reported → ℕ → Protected → KindRange
range_with None place row = record { from = 0; to = 0; frame = 0 }
range_with (Some reported) place row = record { from = row.start; to = row.end; frame = place }

abbrev pub range_of : ReportedFrames → Protected → KindRange
range_of frames row = range_with (reported_at frames row.handler) (frame_place frames row.handler) row
