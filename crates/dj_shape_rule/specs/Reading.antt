-- Used by the code alone: the frames of a stack map, read one after the other.
use Rattle.std.specs.Prelude.{◌≡◌, ℕ, suc, ◌≤◌, Bool, true, false, List, [], ◌∷◌, ◌++◌, map, length, take, min, Option, Some, None, Result, Ok, Err, slice_get}
use Rattle.std.specs.Option.{option_and_then}
use Rattle.dj_names.specs.declared.descriptor.Kind.{Kind}
use Rattle.dj_names.specs.declared.descriptor.Kind.TheVariants as kinds
use Rattle.dj_names.specs.trusted.Types.{class_type}
use Rattle.dj_ops.specs.declared.frames.Form.{Form}
use Rattle.dj_ops.specs.declared.frames.Form.TheVariants as forms
use Rattle.dj_ops.specs.declared.frames.Frame.{Frame}
use Rattle.dj_model.specs.trusted.Instructions.{Instruction, Nop, New}
use Rattle.dj_model.specs.trusted.Program.{Code}
use Rattle.dj_model.specs.trusted.Kinds.{Signature, Entry, Of, NoEntry, Entries, stack_of, fitting, entry_slots, frames_after, Map, Read, Faulty, and_then, Placed, Kinds, depth}
use Rattle.dj_shape_rule.specs.declared.arena.Slot.{Slot}
use Rattle.dj_shape_rule.specs.declared.arena.LocalsPlace.{LocalsPlace}
use Rattle.dj_shape_rule.specs.declared.frames.KeptFrame.{KeptFrame}
use Rattle.dj_shape_rule.specs.declared.reading.Reader.{Reader}
use Rattle.dj_shape_rule.specs.Arena.{IsAt, IsIn}
use Rattle.dj_shape_rule.specs.Reported.{Reported, ReportedFrames, AreReported, reported_in, reported_kinds}

-- an instruction, as far as reading frames needs to know it: whether it makes an object
abbrev pub made_as : Bool → Instruction
made_as true = New (class_type [])
made_as false = Nop

abbrev pub frame_code : ℕ → ℕ → List Bool → Code
frame_code max_stack max_locals made = record { max_stack = max_stack; max_locals = max_locals; instructions = map made_as made; ranges = []; frames = None }

-- the parameters' kinds, and what a call gives
abbrev pub parameters_with : Bool → List Kind → List Kind
parameters_with true parameters = parameters
parameters_with false parameters = kinds.Ref ∷ parameters

abbrev pub signature_with : Bool → Signature → Signature
signature_with static call = record { parameters = parameters_with static call.parameters; result = call.result }

abbrev pub entries_with : Bool → Signature → List (Option Kind)
entries_with static call = map (λ kind. Some kind) (parameters_with static call.parameters)

-- an entry as it is kept; none where a type has no entry
abbrev pub entry_view : Option (Option Kind) → Entry
entry_view None = NoEntry
entry_view (Some kind) = Of kind

-- whether each type has an entry, and the entries then
abbrev pub Gains : Bool → Option (List (Option Kind)) → List (Option Kind) → List (Option Kind) → Type 0
Gains true reported old new = (more : List (Option Kind)) × (reported ≡ Some more) × (new ≡ old ++ more)
Gains false reported old new = reported ≡ None

-- the operands of a form, and the local variables then
abbrev pub ChangesTo : Option (List Kind) → Option Entries → List (Option Kind) → Type 0
ChangesTo None reported new = option_and_then (λ (e : Entries). stack_of e.stack) reported ≡ None
ChangesTo (Some stack) reported new = (e : Entries) × (reported ≡ Some e) × (e.locals ≡ new) × (stack_of e.stack ≡ Some stack)

-- frames that were read, or the number of the first without kinds
abbrev pub AreRead : Code → List (Option Kind) → List Frame → Result ReportedFrames ℕ → Type 0
AreRead code before frames (Ok reported) = (placed : List Placed) × (frames_after code before frames ≡ Read placed) × AreReported code.max_stack code.max_locals placed reported
AreRead code before frames (Err at) = frames_after code before frames ≡ Faulty at

-- these frames, and those after them
abbrev pub with_all : List Placed → Map → Map
with_all [] rest = rest
with_all (p ∷ placed) rest = and_then p (with_all placed rest)

-- how many of the entries of the frame before, which had `before` of them, are still there, where there are `now` of them now
abbrev pub kept_entries : Form → ℕ → ℕ → ℕ
kept_entries (forms.Full locals stack) before now = 0
kept_entries form before now = min before now

-- the local variables at each place are the entries up to the place's own
abbrev pub ArePlaces : List Slot → List LocalsPlace → List (Option Kind) → Type 0
ArePlaces slots places entries = (k : ℕ) (place : LocalsPlace) → slice_get places k ≡ Some place → IsAt slots place (entry_slots (take (suc k) entries))

-- each entry has its place
pub record IsReading (reader : Reader) : Type 0 where
  pub count : length reader.places.items ≡ length reader.entries.items
  pub places : ArePlaces reader.frames.slots.items reader.places.items reader.entries.items

abbrev pub fits_of : Code → Option Entries → Option Kinds
fits_of code e = option_and_then (λ (x : Entries). fitting code x.locals (stack_of x.stack)) e

-- a frame was read: it has no kinds that fit, or it has these, and these are the local variables then
pub record SaysSome (code : Code) (e : Option Entries) (reported : Reported) (new : List (Option Kind)) : Type 0 where
  pub entries : Entries
  pub are : e ≡ Some entries
  pub locals : entries.locals ≡ new
  pub fit : fitting code entries.locals (stack_of entries.stack) ≡ Some (reported_kinds code.max_locals reported)
  pub slots : reported.locals ≡ entry_slots new
  pub few : length reported.locals ≤ code.max_locals
  pub low : depth reported.stack ≤ code.max_stack

-- what is kept of the frame, whose local variables are in the reader's slots
abbrev pub IsFrameRead : Code → Option Entries → Option KeptFrame → Reader → Type 0
IsFrameRead code e None reader = fits_of code e ≡ None
IsFrameRead code e (Some kept) reader =
    SaysSome code e (reported_in reader.frames.slots.items kept) reader.entries.items × IsIn reader.frames.slots.items kept.place × IsReading reader
