-- Used by the code alone: the kinds of the frames of a stack map, by the numbers of their instructions.
use Rattle.std.specs.Prelude.{◌≡◌, ℕ, ◌≤◌, List, length, reverse, Option, Some, None, nat_eq, if◌then◌else◌}
use Rattle.std.specs.Option.{option_map}
use Rattle.dj_names.specs.declared.descriptor.Kind.{Kind}
use Rattle.dj_model.specs.trusted.Initialisation.{padded}
use Rattle.dj_model.specs.trusted.Linking.{or_else}
use Rattle.dj_model.specs.trusted.Kinds.{Kinds, Placed, depth, placed_at}
use Rattle.dj_shape_rule.specs.declared.arena.Slot.{Slot}
use Rattle.dj_shape_rule.specs.declared.frames.KeptFrame.{KeptFrame}
use Rattle.dj_shape_rule.specs.declared.frames.LentFrame.{LentFrame}
use Rattle.dj_shape_rule.specs.declared.frames.KeptFrames.{KeptFrames}
use Rattle.dj_shape_rule.specs.Arena.{slots_at, Extends}
use Rattle.dj_shape_rule.specs.Placing.{kept_at, number_place}

-- the kinds of a frame: local variables in their slots, of which those after the last have no kind, and operands, the top last
pub record Reported : Type 0 where
  pub locals : List (Option Kind)
  pub stack : List Kind

-- the kinds of a frame as it is kept, with its local variables in these slots
abbrev pub reported_in : List Slot → KeptFrame → Reported
reported_in slots kept = record { locals = slots_at slots kept.place.end; stack = kept.stack.items }

-- the kinds of a frame as it is looked at
abbrev pub reported_by : LentFrame → Reported
reported_by lent_frame = record { locals = lent_frame.locals; stack = lent_frame.stack.now }

-- the kinds of a frame, where there are this many local variables
abbrev pub reported_kinds : ℕ → Reported → Kinds
reported_kinds max_locals reported = record { locals = padded max_locals reported.locals; stack = reverse reported.stack }

abbrev pub ReportedFrames : Type 0
ReportedFrames = KeptFrames

-- the kinds of the frame at the instruction of this number
unfoldable pub reported_at : ReportedFrames → ℕ → Option Reported
reported_at frames number = option_map (reported_in frames.slots.items) (kept_at frames.reported number)

-- one more than the index of that frame; 0 where there is none
abbrev pub frame_place : ReportedFrames → ℕ → ℕ
frame_place frames number = number_place frames.reported number

-- the same frames, and maybe more slots
abbrev pub Grows : ReportedFrames → ReportedFrames → Type 0
Grows old new = Extends old.slots.items new.slots.items × (new.reported ≡ old.reported)

-- what is kept is the frame's kinds, and fits
abbrev pub IsReportedAs : ℕ → ℕ → Option Reported → Option Kinds → Type 0
IsReportedAs max_stack max_locals None kinds = kinds ≡ None
IsReportedAs max_stack max_locals (Some reported) kinds =
    (kinds ≡ Some (reported_kinds max_locals reported)) × (length reported.locals ≤ max_locals) × (depth reported.stack ≤ max_stack)

-- these are kept of the frames at their instructions
abbrev pub AreReported : ℕ → ℕ → List Placed → ReportedFrames → Type 0
AreReported max_stack max_locals placed frames = (number : ℕ) → IsReportedAs max_stack max_locals (reported_at frames number) (placed_at placed number)

-- a frame's kinds are kept at an instruction that had none
abbrev pub IsKept : ReportedFrames → ReportedFrames → ℕ → Reported → Type 0
IsKept old new at reported = (number : ℕ) → reported_at new number ≡ or_else (reported_at old number) (if nat_eq at number then Some reported else None)
