-- Frames that are moved nowhere.
use Rattle.std.proofs.Common.{◌≡◌, ℕ, List, [], ◌∷◌, length, map, refl, ap, ap₂}
use Rattle.std.specs.Prelude.{All}
use Rattle.std.specs.List.{AllByRecursion}
use Rattle.std.proofs.lemmas.List.Elements.{recursion_from_All}
use Rattle.dj_ops.specs.declared.frames.VType.{VType}
use Rattle.dj_ops.specs.declared.frames.VType.TheVariants as types
use Rattle.dj_ops.specs.declared.frames.Form.{Form}
use Rattle.dj_ops.specs.declared.frames.Form.TheVariants as forms
use Rattle.dj_ops.specs.declared.frames.Frame.{Frame}
use Rattle.dj_frames.specs.trusted.StackMaps.{types_of}
use Rattle.dj_frames.specs.StackMaps.{IsTypeBelow, IsFrameBelow}
use Rattle.dj_frames.specs.Moves.{moved_type, moved_form, moved_frame}
use Rattle.dj_frames.specs.Laws.{IsUnchanged, MovedNowhere}
use Rattle.dj_frames.proofs.Written.{all_of_prefix, all_of_back}

type_stays : (own : List ℕ) → IsUnchanged own → (type : VType) → IsTypeBelow (length own) type → moved_type own type ≡ type
type_stays own same (types.Uninitialized number) below = ap types.Uninitialized (same number below)
type_stays own same types.Top below = refl
type_stays own same types.Integer below = refl
type_stays own same types.Float below = refl
type_stays own same types.Double below = refl
type_stays own same types.Long below = refl
type_stays own same types.Null below = refl
type_stays own same types.UninitializedThis below = refl
type_stays own same (types.Object index) below = refl

each_stays : (own : List ℕ) → IsUnchanged own → (items : List VType) → AllByRecursion (IsTypeBelow (length own)) items → map (moved_type own) items ≡ items
each_stays own same [] below = refl
each_stays own same (item ∷ items) below = ap₂ (λ (x : VType) (xs : List VType). x ∷ xs) (type_stays own same item below.0) (each_stays own same items below.1)

types_stay : (own : List ℕ) → IsUnchanged own → (items : List VType) → All (IsTypeBelow (length own)) items → map (moved_type own) items ≡ items
types_stay own same items below = each_stays own same items (recursion_from_All (IsTypeBelow (length own)) items below)

form_stays : (own : List ℕ) → IsUnchanged own → (form : Form) → All (IsTypeBelow (length own)) (types_of form) → moved_form own form ≡ form
form_stays own same forms.Same below = refl
form_stays own same (forms.Chop count) below = refl
form_stays own same (forms.Stack1 operand) below =
    let each = recursion_from_All (IsTypeBelow (length own)) (operand ∷ []) below in
    ap forms.Stack1 (type_stays own same operand each.0)
form_stays own same (forms.Append locals) below = ap forms.Append (types_stay own same locals below)
form_stays own same (forms.Full locals operands) below =
    ap₂ forms.Full
    (types_stay own same locals (all_of_prefix (IsTypeBelow (length own)) locals operands below))
    (types_stay own same operands (all_of_back (IsTypeBelow (length own)) locals operands below))

frame_stays : (start own : List ℕ) → IsUnchanged start → IsUnchanged own → (frame : Frame) → IsFrameBelow (length start) frame → IsFrameBelow (length own) frame → moved_frame start own frame ≡ frame
frame_stays start own kept same frame low below =
    ap₂ (λ (at : ℕ) (form : Form). record { at = at; form = form }) (kept frame.at low.at) (form_stays own same frame.form below.types)

frames_stay : (start own : List ℕ) → IsUnchanged start → IsUnchanged own → (frames : List Frame) → AllByRecursion (IsFrameBelow (length start)) frames → AllByRecursion (IsFrameBelow (length own)) frames → map (moved_frame start own) frames ≡ frames
frames_stay start own kept same [] low below = refl
frames_stay start own kept same (frame ∷ frames) low below =
    ap₂ (λ (x : Frame) (xs : List Frame). x ∷ xs) (frame_stays start own kept same frame low.0 below.0) (frames_stay start own kept same frames low.1 below.1)

pub moved_nowhere : MovedNowhere
moved_nowhere start own frames kept same low below =
    frames_stay start own kept same frames (recursion_from_All (IsFrameBelow (length start)) frames low) (recursion_from_All (IsFrameBelow (length own)) frames below)
