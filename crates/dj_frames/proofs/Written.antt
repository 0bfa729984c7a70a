-- What is written for well-formed frames is a stack map with them.
use Rattle.std.proofs.Common.{◌≡◌, ℕ, suc, ◌+◌, ◌-◌, ◌^◌, ◌<◌, ◌≤◌, List, [], ◌∷◌, ◌++◌, length, get_or, drop, Option, Some, None, Ok, refl, sym, ap, subst, ◌∙◌, append_assoc, append-nil, arith, inl, inr}
use Rattle.std.specs.Prelude.{⊤, slice_index, All, AllPairs}
use Rattle.std.specs.List.Sorted.{IsStrictlyIncreasing}
use Rattle.std.proofs.lemmas.Bool.{leb-true}
use Rattle.std.proofs.lemmas.List.{drop_more, nil_from_length, length-drop}
use Rattle.std.proofs.lemmas.List.Elements.{All-tail, recursion_from_All, All-from_recursion}
use Rattle.dj_cursor.proofs.Steps.{cond_either}
use Rattle.dj_ops.specs.declared.frames.Form.{Form}
use Rattle.dj_ops.specs.declared.frames.Form.TheVariants as forms
use Rattle.dj_ops.specs.declared.frames.Frame.{Frame}
use Rattle.dj_frames.specs.trusted.StackMaps.{IsType, types_of, form_bytes, IsShortTag, IsHead, SpellsFrame, SpellsFrames, IsStackMap}
use Rattle.dj_frames.specs.StackMaps.{IsWellFormed, AreWellFormed}
use Rattle.dj_frames.specs.trusted.Written.{short_tag, head_with, head_bytes, frame_bytes, frames_bytes, stack_map_bytes}
use Rattle.dj_frames.specs.Reading.{frames_read}
use Rattle.dj_frames.proofs.Numbers.{rises}
use Rattle.dj_frames.proofs.WholeLaws.{map_again}
use Rattle.dj_frames.proofs.FormLaws.{all_prefix, all_back}

-- ---- lists that are joined

pub all_of_prefix : {A : Type 0} (P : A → Type 0) (xs ys : List A) → All P (xs ++ ys) → All P xs
all_of_prefix P xs ys h = All-from_recursion P xs (all_prefix P xs ys (recursion_from_All P (xs ++ ys) h))

pub all_of_back : {A : Type 0} (P : A → Type 0) (xs ys : List A) → All P (xs ++ ys) → All P ys
all_of_back P xs ys h = All-from_recursion P ys (all_back P xs ys (recursion_from_All P (xs ++ ys) h))

-- ---- addresses that rise

-- the first frame's address is this at least, and each later one is above the one before
abbrev pub AreRising : List ℕ → ℕ → List Frame → Type 0
AreRising starts least [] = ⊤
AreRising starts least (frame ∷ frames) = (least ≤ slice_index starts frame.at) × AreRising starts (slice_index starts frame.at + 1) frames

rising_from : (starts : List ℕ) → IsStrictlyIncreasing starts → (least : ℕ) (frames : List Frame) → All (IsWellFormed starts) frames → AllPairs (λ a b. a.at < b.at) frames
    → All (λ frame. least ≤ slice_index starts frame.at) frames → AreRising starts least frames
rising_from starts rise least [] each pairs low = tt
rising_from starts rise least (frame ∷ frames) each pairs low = (
  low 0 frame (omega arith),
  rising_from starts rise (slice_index starts frame.at + 1) frames (All-tail (IsWellFormed starts) frame frames each)
      (λ i j d lt within. pairs (suc i) (suc j) d (omega (arith, lt)) (omega (arith, within)))
      (λ k d lt. omega (arith, rises starts rise frame.at (get_or frames k d).at (pairs 0 (suc k) d (omega arith) (omega (arith, lt))) (each (suc k) d (omega (arith, lt))).number)),
)

pub rising : (starts : List ℕ) (frames : List Frame) → AreWellFormed starts frames → AreRising starts 0 frames
rising starts frames good = rising_from starts good.starts_rise 0 frames good.each good.frames_rise (λ k d lt. omega arith)

-- ---- one frame

short_is : (delta : ℕ) (form : Form) (tag : ℕ) → short_tag delta form ≡ Some tag → IsShortTag delta form tag
short_is delta forms.Same tag h = cond_either _ _ _ h (λ b d. let same : delta ≡ tag = cc (d) in (leb-true delta 63 b, sym same)) (λ b d. absurd (cc (d)))
short_is delta (forms.Stack1 operand) tag h = cond_either _ _ _ h (λ b d. let same : 64 + delta ≡ tag = cc (d) in (leb-true delta 63 b, sym same)) (λ b d. absurd (cc (d)))
short_is delta (forms.Chop count) tag h = absurd cc
short_is delta (forms.Append locals) tag h = absurd cc
short_is delta (forms.Full locals operands) tag h = absurd cc

head_is_with : (delta : ℕ) (form : Form) (found : Option ℕ) → delta < 2 ^ 16 → short_tag delta form ≡ found → IsHead delta form (head_with delta form found)
head_is_with delta form None small h = inl (small, refl)
head_is_with delta form (Some tag) small h = inr (tag, short_is delta form tag h, refl)

head_is : (delta : ℕ) (form : Form) → delta < 2 ^ 16 → IsHead delta form (head_bytes delta form)
head_is delta form small = head_is_with delta form (short_tag delta form) small refl

frame_is : (starts : List ℕ) → All (λ address. address < 2 ^ 16) starts → (least : ℕ) (frame : Frame) → IsWellFormed starts frame → least ≤ slice_index starts frame.at
    → SpellsFrame starts least frame (frame_bytes starts (slice_index starts frame.at - least) frame)
frame_is starts addresses least frame good low =
    let small : slice_index starts frame.at - least < 2 ^ 16 = omega (arith, addresses frame.at 0 good.number) in
    record {
      number = good.number;
      delta = slice_index starts frame.at - least;
      address = omega (arith, low);
      counts = good.counts;
      types = recursion_from_All (IsType starts) (types_of frame.form) good.types;
      head = head_bytes (slice_index starts frame.at - least) frame.form;
      is_head = head_is (slice_index starts frame.at - least) frame.form small;
      spelled = refl;
    }

-- ---- all of them

frames_are : (starts : List ℕ) → All (λ address. address < 2 ^ 16) starts → (least : ℕ) (frames : List Frame) → All (IsWellFormed starts) frames → AreRising starts least frames → SpellsFrames starts least frames (frames_bytes starts least frames)
unfolding frames_bytes
frames_are starts addresses least [] each rising = refl
frames_are starts addresses least (frame ∷ frames) each rising = (
  frame_bytes starts (slice_index starts frame.at - least) frame,
  frames_bytes starts (slice_index starts frame.at + 1) frames,
  frame_is starts addresses least frame (each 0 frame (omega arith)) rising.0,
  frames_are starts addresses (slice_index starts frame.at + 1) frames (All-tail (IsWellFormed starts) frame frames each) rising.1,
  refl,
)

pub written_is_stack_map : (starts : List ℕ) (frames : List Frame) → AreWellFormed starts frames → IsStackMap (stack_map_bytes starts frames) starts frames
written_is_stack_map starts frames good = record {
  count = good.count;
  text = frames_bytes starts 0 frames;
  spells = frames_are starts good.addresses 0 frames good.each (rising starts frames good);
  spelled = refl;
}

pub written_is_read : (starts : List ℕ) (frames : List Frame) → AreWellFormed starts frames → frames_read (stack_map_bytes starts frames) starts ≡ Ok frames
written_is_read starts frames good = map_again (stack_map_bytes starts frames) starts frames good.starts_rise (written_is_stack_map starts frames good)

-- ---- as a loop writes

-- what was written before, and what is still written
abbrev pub IsWriting : List ℕ → List ℕ → List Frame → ℕ → ℕ → List ℕ → Type 0
IsWriting starts before frames i least out =
    (out ++ frames_bytes starts least (drop i frames) ≡ before ++ frames_bytes starts 0 frames) × AreRising starts least (drop i frames)

-- a frame more is written
pub writes_on : (starts before : List ℕ) (frames : List Frame) (i least : ℕ) (out : List ℕ) (frame : Frame) → IsWriting starts before frames i least out → i < length frames → frame ≡ get_or frames i frame
    → IsWriting starts before frames (i + 1) (slice_index starts frame.at + 1) ((out ++ head_bytes (slice_index starts frame.at - least) frame.form) ++ form_bytes starts frame.form)
unfolding frames_bytes
writes_on starts before frames i least out frame so_far lt is =
    let next : drop i frames ≡ frame ∷ drop (i + 1) frames = drop_more frames i frame lt ∙ ap (λ (f : Frame). f ∷ drop (i + 1) frames) (sym is) in
    let one = head_bytes (slice_index starts frame.at - least) frame.form in
    let other = form_bytes starts frame.form in
    let rest = frames_bytes starts (slice_index starts frame.at + 1) (drop (i + 1) frames) in
    let joined : ((out ++ one) ++ other) ++ rest ≡ out ++ ((one ++ other) ++ rest) = simp append_assoc in
    let was : out ++ ((one ++ other) ++ rest) ≡ out ++ frames_bytes starts least (drop i frames) = ap (λ (l : List Frame). out ++ frames_bytes starts least l) (sym next) in
    (joined ∙ was ∙ so_far.0, (subst (λ (l : List Frame). AreRising starts least l) next so_far.1).1)

-- all frames are written
pub writes_done : (starts before : List ℕ) (frames : List Frame) (i least : ℕ) (out : List ℕ) → IsWriting starts before frames i least out → length frames ≤ i → out ≡ before ++ frames_bytes starts 0 frames
unfolding frames_bytes
writes_done starts before frames i least out so_far le =
    let none : drop i frames ≡ [] = nil_from_length (drop i frames) (omega (arith, length-drop i frames, le)) in
    let was : out ++ frames_bytes starts least (drop i frames) ≡ out = ap (λ (l : List Frame). out ++ frames_bytes starts least l) none ∙ append-nil out in
    sym was ∙ so_far.0
