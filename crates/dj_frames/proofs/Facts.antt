-- Facts by plain values: what the definitions hold of, and what they don't hold of.
use Rattle.std.proofs.Common.{◌≡◌, ℕ, zero, suc, ◌+◌, ◌<◌, ◌≤◌, Bool, true, false, cond, ltb, List, [], ◌∷◌, map, length, Result, Ok, Err, refl, sym, ap, ◌∙◌, arith, inl, inr}
use Rattle.std.specs.Prelude.{⊤}
use Rattle.std.specs.List.{AllByRecursion}
use Rattle.std.specs.List.Sorted.{IsStrictlyIncreasing}
use Rattle.std.proofs.lemmas.List.Elements.{All-from_recursion}
use Rattle.dj_cursor.specs.Reading.{many_at, table_at}
use Rattle.std.proofs.lemmas.Bool.{ltb-true}
use Rattle.dj_cursor.proofs.Bytes.{IsBytes}
use Rattle.dj_cursor.proofs.Steps.{cond_either}
use Rattle.dj_ops.specs.declared.frames.VType.{VType}
use Rattle.dj_ops.specs.declared.frames.VType.TheVariants as types
use Rattle.dj_ops.specs.declared.frames.Form.{Form}
use Rattle.dj_ops.specs.declared.frames.Form.TheVariants as forms
use Rattle.dj_ops.specs.declared.frames.Frame.{Frame}
use Rattle.dj_frames.specs.declared.read.FrameError.{FrameError}
use Rattle.dj_frames.specs.declared.read.FrameError.TheVariants as errors
use Rattle.dj_frames.specs.trusted.StackMaps.{type_bytes, long_tag, IsShortTag, HasCounts, IsStackMap, IsType}
use Rattle.dj_frames.specs.StackMaps.{IsTypeBelow, IsFrameBelow, IsWellFormed, AreWellFormed}
use Rattle.dj_frames.specs.Refusals.{IsFault}
use Rattle.dj_frames.specs.trusted.Written.{head_bytes, frames_bytes, stack_map_bytes}
use Rattle.dj_frames.specs.Moves.{moved_type, moved_form, moved_frame}
use Rattle.dj_frames.specs.Reading.{number_at, offset_at, plain_type_at, bare_type_at, object_at, uninitialized_at, type_at, stack1_at, append_at, full_at, form_at, long_frame_at, same_frame_at, stack1_frame_at, frame_at, frames_at, frames_read}
use Rattle.dj_frames.proofs.WholeLaws.{map_takes, map_again}
use Rattle.dj_frames.proofs.WholeFaults.{map_stops, map_halts, are_bytes, no_stack_map_where_fault}

-- ---- some addresses

abbrev IsChain : List ℕ → Type 0
IsChain [] = ⊤
IsChain (a ∷ []) = ⊤
IsChain (a ∷ (b ∷ rest)) = (a < b) × IsChain (b ∷ rest)

chain_rises : (xs : List ℕ) → IsChain xs → IsStrictlyIncreasing xs
chain_rises [] h k lt = absurd (omega (arith, lt))
chain_rises (a ∷ []) h k lt = absurd (omega (arith, lt))
chain_rises (a ∷ (b ∷ rest)) h zero lt = h.0
chain_rises (a ∷ (b ∷ rest)) h (suc k) lt =
    let next : suc k + 1 ≡ suc (k + 1) = omega arith in
    rw next (chain_rises (b ∷ rest) h.1 k (omega (arith, lt)))

abbrev starts : List ℕ
starts = 0 ∷ 3 ∷ 7 ∷ 8 ∷ 63 ∷ 64 ∷ 200 ∷ []

starts_rise : IsStrictlyIncreasing starts
starts_rise = chain_rises starts (omega arith, (omega arith, (omega arith, (omega arith, (omega arith, (omega arith, tt))))))

-- whether these are bytes
abbrev are_small : List ℕ → Bool
are_small [] = true
are_small (b ∷ bs) = cond (ltb b 256) (are_small bs) false

small_are : (bs : List ℕ) → are_small bs ≡ true → AllByRecursion (λ b. b < 256) bs
small_are [] h = tt
small_are (b ∷ bs) h = cond_either (ltb b 256) _ _ h (λ k d. (ltb-true b 256 k, small_are bs d)) (λ k d. absurd cc)

bytes_are : (bs : List ℕ) → are_small bs ≡ true → IsBytes bs
bytes_are bs h = are_bytes bs (All-from_recursion (λ b. b < 256) bs (small_are bs h))

is_map : (body : List ℕ) (frames : List Frame) → are_small body ≡ true → frames_read body starts ≡ Ok frames → IsStackMap body starts frames
is_map body frames small read = map_takes body starts frames starts_rise (bytes_are body small) read

is_none : (body : List ℕ) (e : FrameError) → frames_read body starts ≡ Err e → (frames : List Frame) → IsStackMap body starts frames → ⊥
is_none body e read frames is = let other = map_again body starts frames starts_rise is in absurd cc

is_fault : (body : List ℕ) (e : FrameError) → are_small body ≡ true → frames_read body starts ≡ Err e → IsFault body starts e
is_fault body e small read = map_stops body starts e starts_rise (bytes_are body small) read

-- ---- bodies and their frames

abbrev pub map_rows : List (List ℕ × List Frame)
map_rows =
    (0 ∷ 0 ∷ [], []) ∷
    (0 ∷ 1 ∷ 0 ∷ [], record { at = 0; form = forms.Same } ∷ []) ∷
    (0 ∷ 1 ∷ 63 ∷ [], record { at = 4; form = forms.Same } ∷ []) ∷
    (0 ∷ 1 ∷ 64 ∷ 1 ∷ [], record { at = 0; form = forms.Stack1 types.Integer } ∷ []) ∷
    (0 ∷ 1 ∷ 127 ∷ 0 ∷ [], record { at = 4; form = forms.Stack1 types.Top } ∷ []) ∷
    (0 ∷ 1 ∷ 247 ∷ 0 ∷ 64 ∷ 2 ∷ [], record { at = 5; form = forms.Stack1 types.Float } ∷ []) ∷
    (0 ∷ 1 ∷ 247 ∷ 0 ∷ 3 ∷ 2 ∷ [], record { at = 1; form = forms.Stack1 types.Float } ∷ []) ∷
    (0 ∷ 1 ∷ 248 ∷ 0 ∷ 3 ∷ [], record { at = 1; form = forms.Chop 3 } ∷ []) ∷
    (0 ∷ 1 ∷ 249 ∷ 0 ∷ 3 ∷ [], record { at = 1; form = forms.Chop 2 } ∷ []) ∷
    (0 ∷ 1 ∷ 250 ∷ 0 ∷ 3 ∷ [], record { at = 1; form = forms.Chop 1 } ∷ []) ∷
    (0 ∷ 1 ∷ 251 ∷ 0 ∷ 64 ∷ [], record { at = 5; form = forms.Same } ∷ []) ∷
    (0 ∷ 1 ∷ 251 ∷ 0 ∷ 63 ∷ [], record { at = 4; form = forms.Same } ∷ []) ∷
    (0 ∷ 1 ∷ 252 ∷ 0 ∷ 3 ∷ 3 ∷ [], record { at = 1; form = forms.Append (types.Double ∷ []) } ∷ []) ∷
    (0 ∷ 1 ∷ 253 ∷ 0 ∷ 3 ∷ 4 ∷ 5 ∷ [], record { at = 1; form = forms.Append (types.Long ∷ types.Null ∷ []) } ∷ []) ∷
    (0 ∷ 1 ∷ 254 ∷ 0 ∷ 3 ∷ 6 ∷ 7 ∷ 1 ∷ 2 ∷ 8 ∷ 0 ∷ 7 ∷ [], record { at = 1; form = forms.Append (types.UninitializedThis ∷ types.Object 258 ∷ types.Uninitialized 2 ∷ []) } ∷ []) ∷
    (0 ∷ 1 ∷ 255 ∷ 0 ∷ 3 ∷ 0 ∷ 1 ∷ 1 ∷ 0 ∷ 2 ∷ 0 ∷ 8 ∷ 0 ∷ 3 ∷ [], record { at = 1; form = forms.Full (types.Integer ∷ []) (types.Top ∷ types.Uninitialized 1 ∷ []) } ∷ []) ∷
    (0 ∷ 2 ∷ 3 ∷ 3 ∷ [], record { at = 1; form = forms.Same } ∷ record { at = 2; form = forms.Same } ∷ []) ∷
    (0 ∷ 3 ∷ 0 ∷ 2 ∷ 3 ∷ [], record { at = 0; form = forms.Same } ∷ record { at = 1; form = forms.Same } ∷ record { at = 2; form = forms.Same } ∷ []) ∷ []

pub they_are_stack_maps : AllByRecursion (λ row. IsStackMap row.0 starts row.1) map_rows
unfolding number_at offset_at plain_type_at bare_type_at object_at uninitialized_at type_at stack1_at append_at full_at form_at long_frame_at same_frame_at stack1_frame_at frame_at frames_at frames_read many_at table_at
they_are_stack_maps = (is_map _ _ refl refl, (is_map _ _ refl refl, (is_map _ _ refl refl, (is_map _ _ refl refl, (is_map _ _ refl refl, (is_map _ _ refl refl, (is_map _ _ refl refl, (is_map _ _ refl refl, (is_map _ _ refl refl, (is_map _ _ refl refl, (is_map _ _ refl refl, (is_map _ _ refl refl, (is_map _ _ refl refl, (is_map _ _ refl refl, (is_map _ _ refl refl, (is_map _ _ refl refl, (is_map _ _ refl refl, (is_map _ _ refl refl, tt))))))))))))))))))

-- bodies without frames: cut, bytes left, tags that there aren't, addresses where no instruction starts
abbrev pub other_bodies : List (List ℕ)
other_bodies =
    ([]) ∷
    (0 ∷ []) ∷
    (0 ∷ 1 ∷ []) ∷
    (0 ∷ 1 ∷ 128 ∷ []) ∷
    (0 ∷ 1 ∷ 201 ∷ 0 ∷ 3 ∷ []) ∷
    (0 ∷ 1 ∷ 246 ∷ []) ∷
    (0 ∷ 1 ∷ 1 ∷ []) ∷
    (0 ∷ 1 ∷ 64 ∷ 9 ∷ []) ∷
    (0 ∷ 1 ∷ 64 ∷ 8 ∷ 0 ∷ 1 ∷ []) ∷
    (0 ∷ 1 ∷ 3 ∷ 0 ∷ []) ∷
    (0 ∷ 2 ∷ 3 ∷ []) ∷
    (0 ∷ 2 ∷ 3 ∷ 5 ∷ []) ∷
    (0 ∷ 1 ∷ 252 ∷ 0 ∷ 3 ∷ []) ∷
    (0 ∷ 1 ∷ 251 ∷ 3 ∷ []) ∷ []

pub they_are_none : AllByRecursion (λ body. (frames : List Frame) → IsStackMap body starts frames → ⊥) other_bodies
unfolding number_at offset_at plain_type_at bare_type_at object_at uninitialized_at type_at stack1_at append_at full_at form_at long_frame_at same_frame_at stack1_frame_at frame_at frames_at frames_read many_at table_at
they_are_none = (is_none _ _ refl, (is_none _ _ refl, (is_none _ _ refl, (is_none _ _ refl, (is_none _ _ refl, (is_none _ _ refl, (is_none _ _ refl, (is_none _ _ refl, (is_none _ _ refl, (is_none _ _ refl, (is_none _ _ refl, (is_none _ _ refl, (is_none _ _ refl, (is_none _ _ refl, tt))))))))))))))

-- first faults
abbrev pub fault_rows : List (List ℕ × FrameError)
fault_rows =
    ([], errors.BadFrame 0) ∷
    (0 ∷ [], errors.BadFrame 0) ∷
    (0 ∷ 1 ∷ [], errors.BadFrame 2) ∷
    (0 ∷ 1 ∷ 128 ∷ [], errors.BadFrame 2) ∷
    (0 ∷ 1 ∷ 251 ∷ 0 ∷ [], errors.BadFrame 3) ∷
    (0 ∷ 1 ∷ 3 ∷ 0 ∷ [], errors.BadFrame 3) ∷
    (0 ∷ 1 ∷ 64 ∷ 9 ∷ [], errors.BadFrame 3) ∷
    (0 ∷ 1 ∷ 64 ∷ 7 ∷ 0 ∷ [], errors.BadFrame 4) ∷
    (0 ∷ 1 ∷ 255 ∷ 0 ∷ 3 ∷ 0 ∷ 1 ∷ [], errors.BadFrame 7) ∷
    (0 ∷ 1 ∷ 1 ∷ [], errors.NotAnInstruction 2) ∷
    (0 ∷ 1 ∷ 251 ∷ 0 ∷ 1 ∷ [], errors.NotAnInstruction 3) ∷
    (0 ∷ 1 ∷ 64 ∷ 8 ∷ 0 ∷ 1 ∷ [], errors.NotAnInstruction 4) ∷
    (0 ∷ 1 ∷ 65 ∷ 9 ∷ [], errors.NotAnInstruction 2) ∷
    (0 ∷ 2 ∷ 1 ∷ 200 ∷ [], errors.NotAnInstruction 2) ∷
    (0 ∷ 2 ∷ 200 ∷ 1 ∷ [], errors.BadFrame 2) ∷
    (0 ∷ 1 ∷ 127 ∷ 9 ∷ [], errors.BadFrame 3) ∷
    (0 ∷ 1 ∷ 246 ∷ 0 ∷ 3 ∷ [], errors.BadFrame 2) ∷
    (0 ∷ 1 ∷ 247 ∷ [], errors.BadFrame 3) ∷
    (0 ∷ 1 ∷ 247 ∷ 0 ∷ 3 ∷ 9 ∷ [], errors.BadFrame 5) ∷
    (0 ∷ 1 ∷ 252 ∷ 0 ∷ 3 ∷ [], errors.BadFrame 5) ∷
    (0 ∷ 1 ∷ 254 ∷ 0 ∷ 3 ∷ 1 ∷ 1 ∷ 9 ∷ [], errors.BadFrame 7) ∷
    (0 ∷ 1 ∷ 255 ∷ 0 ∷ 3 ∷ 0 ∷ 0 ∷ 0 ∷ [], errors.BadFrame 7) ∷
    (0 ∷ 1 ∷ 255 ∷ 0 ∷ 3 ∷ 0 ∷ 1 ∷ 1 ∷ 0 ∷ 1 ∷ 9 ∷ [], errors.BadFrame 10) ∷
    (0 ∷ 1 ∷ 255 ∷ 0 ∷ 3 ∷ 0 ∷ 1 ∷ 1 ∷ 0 ∷ 2 ∷ 0 ∷ 8 ∷ 0 ∷ 1 ∷ [], errors.NotAnInstruction 12) ∷
    (0 ∷ 2 ∷ 3 ∷ 5 ∷ [], errors.NotAnInstruction 3) ∷
    (0 ∷ 2 ∷ 3 ∷ 3 ∷ 0 ∷ [], errors.BadFrame 4) ∷ []

pub they_are_faults : AllByRecursion (λ row. IsFault row.0 starts row.1) fault_rows
unfolding number_at offset_at plain_type_at bare_type_at object_at uninitialized_at type_at stack1_at append_at full_at form_at long_frame_at same_frame_at stack1_frame_at frame_at frames_at frames_read many_at table_at
they_are_faults = (is_fault _ _ refl refl, (is_fault _ _ refl refl, (is_fault _ _ refl refl, (is_fault _ _ refl refl, (is_fault _ _ refl refl, (is_fault _ _ refl refl, (is_fault _ _ refl refl, (is_fault _ _ refl refl, (is_fault _ _ refl refl, (is_fault _ _ refl refl, (is_fault _ _ refl refl, (is_fault _ _ refl refl, (is_fault _ _ refl refl, (is_fault _ _ refl refl, (is_fault _ _ refl refl, (is_fault _ _ refl refl, (is_fault _ _ refl refl, (is_fault _ _ refl refl, (is_fault _ _ refl refl, (is_fault _ _ refl refl, (is_fault _ _ refl refl, (is_fault _ _ refl refl, (is_fault _ _ refl refl, (is_fault _ _ refl refl, (is_fault _ _ refl refl, (is_fault _ _ refl refl, tt))))))))))))))))))))))))))

-- of two faults the later isn't reported
pub later_fault_is_none : IsFault (0 ∷ 1 ∷ 65 ∷ 9 ∷ []) starts (errors.BadFrame 3) → ⊥
unfolding number_at offset_at plain_type_at bare_type_at object_at uninitialized_at type_at stack1_at append_at full_at form_at long_frame_at same_frame_at stack1_frame_at frame_at frames_at frames_read many_at table_at
later_fault_is_none fault =
    let first : frames_read (0 ∷ 1 ∷ 65 ∷ 9 ∷ []) starts ≡ Err (errors.NotAnInstruction 2) = refl in
    let other = map_halts (0 ∷ 1 ∷ 65 ∷ 9 ∷ []) starts (errors.BadFrame 3) starts_rise fault in
    absurd cc

-- 128 to 246 are no frame_type
pub no_frame_type : (tag : ℕ) (rest : List ℕ) (frames : List Frame) → 128 ≤ tag → tag ≤ 246 → IsStackMap (0 ∷ 1 ∷ tag ∷ rest) starts frames → ⊥
no_frame_type tag rest frames low high is =
    no_stack_map_where_fault (0 ∷ 1 ∷ tag ∷ rest) starts (errors.BadFrame 2) frames starts_rise (inr (record {
      count = 1;
      rest = tag ∷ rest;
      begins = record { fits = omega arith; are = refl };
      cause = inl (record {
        found = [];
        more = tag ∷ rest;
        begins = record { text = []; spells = refl; are = refl };
        few = omega arith;
        next = inr (inr (inl (low, high, refl)));
      });
    })) is

-- the second frame's address is 3 + 3 + 1, and not 3 + 3
abbrev close : List ℕ
close = 0 ∷ 3 ∷ 6 ∷ 7 ∷ []

abbrev second_at : Result (List Frame) FrameError → ℕ
second_at (Ok (a ∷ (b ∷ rest))) = b.at
second_at _ = 0

pub delta_has_one_more : (at : ℕ) → IsStackMap (0 ∷ 2 ∷ 3 ∷ 3 ∷ []) close (record { at = 1; form = forms.Same } ∷ record { at = at; form = forms.Same } ∷ []) → at ≡ 3
unfolding number_at offset_at plain_type_at bare_type_at object_at uninitialized_at type_at stack1_at append_at full_at form_at long_frame_at same_frame_at stack1_frame_at frame_at frames_at frames_read many_at table_at
delta_has_one_more at is =
    let read : frames_read (0 ∷ 2 ∷ 3 ∷ 3 ∷ []) close ≡ Ok (record { at = 1; form = forms.Same } ∷ record { at = 3; form = forms.Same } ∷ []) = refl in
    let other = map_again (0 ∷ 2 ∷ 3 ∷ 3 ∷ []) close _ (chain_rises close (omega arith, (omega arith, (omega arith, tt)))) is in
    sym (ap second_at other) ∙ ap second_at read

-- ---- the parts

pub type_tags :
    (type_bytes starts types.Top ≡ 0 ∷ []) × (type_bytes starts types.Integer ≡ 1 ∷ []) × (type_bytes starts types.Float ≡ 2 ∷ [])
    × (type_bytes starts types.Double ≡ 3 ∷ []) × (type_bytes starts types.Long ≡ 4 ∷ []) × (type_bytes starts types.Null ≡ 5 ∷ [])
    × (type_bytes starts types.UninitializedThis ≡ 6 ∷ []) × (type_bytes starts (types.Object 258) ≡ 7 ∷ 1 ∷ 2 ∷ []) × (type_bytes starts (types.Uninitialized 6) ≡ 8 ∷ 0 ∷ 200 ∷ [])
type_tags = (refl, refl, refl, refl, refl, refl, refl, refl, refl)

-- an Uninitialized is spelled by its address, not by its number
pub number_is_no_address : type_bytes starts (types.Uninitialized 6) ≡ 8 ∷ 0 ∷ 6 ∷ [] → ⊥
number_is_no_address h = absurd cc

pub chops_and_appends : (long_tag (forms.Chop 1) ≡ 250) × (long_tag (forms.Chop 3) ≡ 248) × (long_tag (forms.Append (types.Top ∷ [])) ≡ 252) × (long_tag (forms.Append (types.Top ∷ types.Top ∷ types.Top ∷ [])) ≡ 254)
chops_and_appends = (refl, refl, refl, refl)

pub chop_none : HasCounts (forms.Chop 0) → ⊥
chop_none h = omega (arith, h.0)

pub chop_four : HasCounts (forms.Chop 4) → ⊥
chop_four h = omega (arith, h.1)

pub append_none : HasCounts (forms.Append []) → ⊥
append_none h = omega (arith, h.0)

pub append_four : HasCounts (forms.Append (types.Top ∷ types.Top ∷ types.Top ∷ types.Top ∷ [])) → ⊥
append_four h = omega (arith, h.1)

-- full_frame counts its lists in two bytes each
pub full_up_to_65535 : (locals operands : List VType) → length locals ≡ 65535 → length operands ≡ 65535 → HasCounts (forms.Full locals operands)
full_up_to_65535 locals operands many more = (omega (arith, many), omega (arith, more))

pub locals_of_65536 : (locals operands : List VType) → length locals ≡ 65536 → HasCounts (forms.Full locals operands) → ⊥
locals_of_65536 locals operands many h = omega (arith, many, h.0)

pub operands_of_65536 : (locals operands : List VType) → length operands ≡ 65536 → HasCounts (forms.Full locals operands) → ⊥
operands_of_65536 locals operands many h = omega (arith, many, h.1)

pub other_tags : (long_tag forms.Same ≡ 251) × (long_tag (forms.Stack1 types.Top) ≡ 247) × (long_tag (forms.Chop 2) ≡ 249) × (long_tag (forms.Append (types.Top ∷ types.Top ∷ [])) ≡ 253) × (long_tag (forms.Full [] []) ≡ 255)
other_tags = (refl, refl, refl, refl, refl)

pub other_heads : (head_bytes 0 forms.Same ≡ 0 ∷ []) × (head_bytes 0 (forms.Stack1 types.Top) ≡ 64 ∷ []) × (head_bytes 3 (forms.Append (types.Top ∷ [])) ≡ 252 ∷ 0 ∷ 3 ∷ []) × (head_bytes 258 (forms.Full [] []) ≡ 255 ∷ 1 ∷ 2 ∷ [])
other_heads = (refl, refl, refl, refl)

pub frames_of_65536 : (frames : List Frame) → length frames ≡ 65536 → AreWellFormed starts frames → ⊥
frames_of_65536 frames many h = omega (arith, many, h.count)

pub short_up_to_63 : IsShortTag 63 forms.Same 63 × IsShortTag 63 (forms.Stack1 types.Top) 127
short_up_to_63 = ((omega arith, refl), (omega arith, refl))

pub not_short_at_64 : (tag : ℕ) → IsShortTag 64 forms.Same tag → ⊥
not_short_at_64 tag h = omega (arith, h.0)

pub chop_is_not_short : (tag : ℕ) → IsShortTag 3 (forms.Chop 1) tag → ⊥
chop_is_not_short tag h = h

pub heads : (head_bytes 63 forms.Same ≡ 63 ∷ []) × (head_bytes 64 forms.Same ≡ 251 ∷ 0 ∷ 64 ∷ []) × (head_bytes 63 (forms.Stack1 types.Top) ≡ 127 ∷ []) × (head_bytes 64 (forms.Stack1 types.Top) ≡ 247 ∷ 0 ∷ 64 ∷ []) × (head_bytes 3 (forms.Chop 1) ≡ 250 ∷ 0 ∷ 3 ∷ [])
heads = (refl, refl, refl, refl, refl)

-- two frames and three, of which the later ones' deltas are counted from the address after the one before
pub whole_bodies :
    (stack_map_bytes starts (record { at = 1; form = forms.Same } ∷ record { at = 2; form = forms.Same } ∷ []) ≡ 0 ∷ 2 ∷ 3 ∷ 3 ∷ [])
    × (stack_map_bytes starts (record { at = 0; form = forms.Stack1 types.Integer } ∷ record { at = 5; form = forms.Same } ∷ record { at = 6; form = forms.Chop 2 } ∷ []) ≡ 0 ∷ 3 ∷ 64 ∷ 1 ∷ 63 ∷ 249 ∷ 0 ∷ 135 ∷ [])
unfolding frames_bytes
whole_bodies = (refl, refl)

-- ---- which types and frames are good

pub good_types : IsType starts (types.Object 65535) × IsType starts (types.Uninitialized 6) × IsType (0 ∷ 65535 ∷ []) (types.Uninitialized 1)
good_types = (omega arith, (omega arith, omega arith), (omega arith, omega arith))

pub object_past : IsType starts (types.Object 65536) → ⊥
object_past h = omega (arith, h)

pub number_past : IsType starts (types.Uninitialized 7) → ⊥
number_past h = omega (arith, h.0)

pub address_past : IsType (0 ∷ 65536 ∷ []) (types.Uninitialized 1) → ⊥
address_past h = omega (arith, h.1)

pub types_below_three : IsTypeBelow 3 (types.Uninitialized 2) × IsTypeBelow 3 (types.Object 3) × IsTypeBelow 0 types.Top
types_below_three = (omega arith, tt, tt)

pub type_at_three : IsTypeBelow 3 (types.Uninitialized 3) → ⊥
type_at_three h = omega (arith, h)

pub frame_at_three : IsFrameBelow 3 (record { at = 3; form = forms.Same }) → ⊥
frame_at_three h = omega (arith, h.at)

-- the second operand, after a local
pub operand_at_three : IsFrameBelow 3 (record { at = 2; form = forms.Full (types.Uninitialized 2 ∷ []) (types.Top ∷ types.Uninitialized 3 ∷ []) }) → ⊥
operand_at_three h = omega (arith, h.types 2 types.Top (omega arith))

pub frame_past : IsWellFormed starts (record { at = 7; form = forms.Same }) → ⊥
frame_past h = omega (arith, h.number)

-- two frames at one instruction, and an instruction past 65,535
pub frame_twice : AreWellFormed starts (record { at = 1; form = forms.Same } ∷ record { at = 1; form = forms.Chop 1 } ∷ []) → ⊥
frame_twice h = omega (arith, h.frames_rise 0 1 (record { at = 0; form = forms.Same }) (omega arith) (omega arith))

pub address_too_high : AreWellFormed (0 ∷ 65536 ∷ []) [] → ⊥
address_too_high h = omega (arith, h.addresses 1 0 (omega arith))

-- ---- other numbers

abbrev old : Frame
old = record { at = 1; form = forms.Stack1 (types.Uninitialized 1) }

pub moved : moved_frame (10 ∷ 20 ∷ []) (11 ∷ 21 ∷ []) old ≡ record { at = 20; form = forms.Stack1 (types.Uninitialized 21) }
moved = refl

abbrev number_in : Form → ℕ
number_in (forms.Stack1 (types.Uninitialized number)) = number
number_in _ = 0

pub not_moved_by_start : moved_frame (10 ∷ 20 ∷ []) (11 ∷ 21 ∷ []) old ≡ record { at = 20; form = forms.Stack1 (types.Uninitialized 20) } → ⊥
not_moved_by_start h = let same : 21 ≡ 20 = ap (λ (f : Frame). number_in f.form) h in omega (arith, same)

pub not_moved_by_own : moved_frame (10 ∷ 20 ∷ []) (11 ∷ 21 ∷ []) old ≡ record { at = 21; form = forms.Stack1 (types.Uninitialized 21) } → ⊥
not_moved_by_own h = let same : 20 ≡ 21 = ap (λ (f : Frame). f.at) h in omega (arith, same)

pub index_stays : moved_frame (10 ∷ 20 ∷ []) (11 ∷ 21 ∷ []) (record { at = 0; form = forms.Append (types.Object 1 ∷ []) }) ≡ record { at = 10; form = forms.Append (types.Object 1 ∷ []) }
index_stays = refl

-- a type stays what it is: all nine, and only the new instruction's number is another
abbrev own : List ℕ
own = 11 ∷ 21 ∷ 31 ∷ []

abbrev every_type : List VType
every_type = types.Top ∷ types.Integer ∷ types.Float ∷ types.Double ∷ types.Long ∷ types.Null ∷ types.UninitializedThis ∷ types.Object 1 ∷ types.Uninitialized 2 ∷ []

abbrev every_type_moved : List VType
every_type_moved = types.Top ∷ types.Integer ∷ types.Float ∷ types.Double ∷ types.Long ∷ types.Null ∷ types.UninitializedThis ∷ types.Object 1 ∷ types.Uninitialized 31 ∷ []

pub types_move :
    (moved_type own types.Top ≡ types.Top) × (moved_type own types.Integer ≡ types.Integer) × (moved_type own types.Float ≡ types.Float)
    × (moved_type own types.Double ≡ types.Double) × (moved_type own types.Long ≡ types.Long) × (moved_type own types.Null ≡ types.Null)
    × (moved_type own types.UninitializedThis ≡ types.UninitializedThis) × (moved_type own (types.Object 1) ≡ types.Object 1)
    × (moved_type own (types.Uninitialized 2) ≡ types.Uninitialized 31)
types_move = (refl, refl, refl, refl, refl, refl, refl, refl, refl)

-- a form stays what it is, with as many types in the same places
pub forms_move :
    (moved_form own forms.Same ≡ forms.Same) × (moved_form own (forms.Chop 1) ≡ forms.Chop 1) × (moved_form own (forms.Chop 2) ≡ forms.Chop 2)
    × (moved_form own (forms.Chop 3) ≡ forms.Chop 3) × (moved_form own (forms.Stack1 types.Null) ≡ forms.Stack1 types.Null)
    × (moved_form own (forms.Stack1 (types.Object 2)) ≡ forms.Stack1 (types.Object 2))
    × (moved_form own (forms.Append (types.Long ∷ types.Uninitialized 0 ∷ types.Uninitialized 1 ∷ [])) ≡ forms.Append (types.Long ∷ types.Uninitialized 11 ∷ types.Uninitialized 21 ∷ []))
    × (moved_form own (forms.Full [] []) ≡ forms.Full [] []) × (moved_form own (forms.Full every_type []) ≡ forms.Full every_type_moved [])
    × (moved_form own (forms.Full [] every_type) ≡ forms.Full [] every_type_moved)
    × (moved_form own (forms.Full (types.Uninitialized 1 ∷ types.Top ∷ []) (types.Null ∷ types.Uninitialized 0 ∷ [])) ≡ forms.Full (types.Uninitialized 21 ∷ types.Top ∷ []) (types.Null ∷ types.Uninitialized 11 ∷ []))
forms_move = (refl, refl, refl, refl, refl, refl, refl, refl, refl, refl, refl)

-- each of the types as the one that is appended
pub appends_move : map (λ t. moved_form own (forms.Append (t ∷ []))) every_type ≡ map (λ t. forms.Append (t ∷ [])) every_type_moved
appends_move = refl

pub operands_move : map (λ t. moved_form own (forms.Stack1 t)) every_type ≡ map forms.Stack1 every_type_moved
operands_move = refl

-- chops don't become one another, locals no operands, and null no top
pub chop_stays : moved_form own (forms.Chop 3) ≡ forms.Chop 1 → ⊥
chop_stays h = absurd cc

pub locals_stay : moved_form own (forms.Full (types.Top ∷ []) []) ≡ forms.Full [] (types.Top ∷ []) → ⊥
locals_stay h = absurd cc

pub null_stays : moved_type own types.Null ≡ types.Top → ⊥
null_stays h = absurd cc

-- the frame's own number through the first list, each form
abbrev at_two : Form → Frame
at_two form = record { at = 2; form = form }

abbrev at_thirty : Form → Frame
at_thirty form = record { at = 30; form = form }

pub frames_move :
    (moved_frame (10 ∷ 20 ∷ 30 ∷ []) own (at_two forms.Same) ≡ at_thirty forms.Same)
    × (moved_frame (10 ∷ 20 ∷ 30 ∷ []) own (at_two (forms.Stack1 (types.Uninitialized 2))) ≡ at_thirty (forms.Stack1 (types.Uninitialized 31)))
    × (moved_frame (10 ∷ 20 ∷ 30 ∷ []) own (at_two (forms.Chop 3)) ≡ at_thirty (forms.Chop 3))
    × (moved_frame (10 ∷ 20 ∷ 30 ∷ []) own (at_two (forms.Append (types.Uninitialized 2 ∷ []))) ≡ at_thirty (forms.Append (types.Uninitialized 31 ∷ [])))
    × (moved_frame (10 ∷ 20 ∷ 30 ∷ []) own (at_two (forms.Full every_type every_type)) ≡ at_thirty (forms.Full every_type_moved every_type_moved))
frames_move = (refl, refl, refl, refl, refl)
