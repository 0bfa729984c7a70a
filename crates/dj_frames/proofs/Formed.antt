-- What is read is well formed.
use Rattle.std.proofs.Common.{◌≡◌, ℕ, zero, suc, ◌+◌, ◌<◌, List, [], ◌∷◌, length, sym, subst, arith, inl, inr}
use Rattle.std.specs.Prelude.{slice_index}
use Rattle.std.specs.List.{AllByRecursion}
use Rattle.std.specs.List.Sorted.{IsStrictlyIncreasing}
use Rattle.std.proofs.lemmas.Bool.{cases_lt}
use Rattle.std.proofs.lemmas.List.Elements.{All-from_recursion}
use Rattle.dj_ops.specs.declared.frames.VType.{VType}
use Rattle.dj_ops.specs.declared.frames.VType.TheVariants as types
use Rattle.dj_ops.specs.declared.frames.Frame.{Frame}
use Rattle.dj_frames.specs.trusted.StackMaps.{IsType, types_of, SpellsFrames}
use Rattle.dj_frames.specs.StackMaps.{IsTypeBelow, IsFrameBelow, IsWellFormed}
use Rattle.dj_frames.specs.Laws.{StackMapIsWellFormed, StackMapIsBelow}
use Rattle.dj_frames.proofs.Numbers.{rises}
use Rattle.dj_frames.proofs.Tested.{IsStepwise, stepwise_rises}

-- ---- each frame

all_formed : (starts : List ℕ) (least : ℕ) (frames : List Frame) (text : List ℕ) → SpellsFrames starts least frames text → AllByRecursion (IsWellFormed starts) frames
all_formed starts least [] text h = tt
all_formed starts least (frame ∷ frames) text h = (
  record { number = h.2.number; counts = h.2.counts; types = All-from_recursion (IsType starts) (types_of frame.form) h.2.types },
  all_formed starts (slice_index starts frame.at + 1) frames h.1 h.3,
)

type_below : (starts : List ℕ) (item : VType) → IsType starts item → IsTypeBelow (length starts) item
type_below starts (types.Uninitialized number) h = h.0
type_below starts _ h = tt

types_below : (starts : List ℕ) (items : List VType) → AllByRecursion (IsType starts) items → AllByRecursion (IsTypeBelow (length starts)) items
types_below starts [] h = tt
types_below starts (item ∷ items) h = (type_below starts item h.0, types_below starts items h.1)

all_below : (starts : List ℕ) (least : ℕ) (frames : List Frame) (text : List ℕ) → SpellsFrames starts least frames text → AllByRecursion (IsFrameBelow (length starts)) frames
all_below starts least [] text h = tt
all_below starts least (frame ∷ frames) text h = (
  record { at = h.2.number; types = All-from_recursion (IsTypeBelow (length starts)) (types_of frame.form) (types_below starts (types_of frame.form) h.2.types) },
  all_below starts (slice_index starts frame.at + 1) frames h.1 h.3,
)

-- ---- one after the other

later : (starts : List ℕ) → IsStrictlyIncreasing starts → (a b : ℕ) → a < length starts → slice_index starts a < slice_index starts b → a < b
later starts rise a b within lt =
    elim (cases_lt a b) [
      | inl less ↦ less
      | inr ge ↦ elim (cases_lt b a) [
        | inl more ↦ absurd (omega (arith, lt, rises starts rise b a more within))
        | inr le ↦ let same : a ≡ b = omega (arith, ge, le) in absurd (omega (arith, subst (λ (k : ℕ). slice_index starts a < slice_index starts k) (sym same) lt))
      ]
    ]

stepwise : (starts : List ℕ) → IsStrictlyIncreasing starts → (least : ℕ) (frames : List Frame) (text : List ℕ) → SpellsFrames starts least frames text → IsStepwise frames
stepwise starts rise least [] text h k d lt = absurd (omega (arith, lt))
stepwise starts rise least (a ∷ []) text h k d lt = absurd (omega (arith, lt))
stepwise starts rise least (a ∷ (b ∷ frames)) text h zero d lt = later starts rise a.at b.at h.2.number (omega (arith, h.3.2.address))
stepwise starts rise least (a ∷ (b ∷ frames)) text h (suc k) d lt =
    let next : suc k + 1 ≡ suc (k + 1) = omega arith in
    rw next (stepwise starts rise (slice_index starts a.at + 1) (b ∷ frames) h.1 h.3 k d (omega (arith, lt)))

-- ---- the whole

pub stack_map_is_well_formed : StackMapIsWellFormed
stack_map_is_well_formed body starts frames rise short is = record {
  starts_rise = rise;
  addresses = short;
  count = is.count;
  frames_rise = stepwise_rises frames (stepwise starts rise 0 frames is.text is.spells);
  each = All-from_recursion (IsWellFormed starts) frames (all_formed starts 0 frames is.text is.spells);
}

pub stack_map_is_below : StackMapIsBelow
stack_map_is_below body starts frames is = All-from_recursion (IsFrameBelow (length starts)) frames (all_below starts 0 frames is.text is.spells)
