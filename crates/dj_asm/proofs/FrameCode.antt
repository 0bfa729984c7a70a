-- The frames of a method's lines are such as a stack map has.
use Rattle.std.proofs.Common.{◌≡◌, ℕ, zero, suc, ◌+◌, ◌<◌, ◌≤◌, ◌^◌, inl, inr, ℤ, pos, unsigned_abs, cond, bytes_eq, codes, List, [], ◌∷◌, ◌++◌, length, map, slice_index, All, AllPairs, refl, sym, ap, ◌∙◌, subst, arith}
use Rattle.std.specs.Prelude.{⊤}
use Rattle.std.specs.List.{flat_map, AllByRecursion}
use Rattle.std.specs.List.Sorted.{IsStrictlyIncreasing}
use Rattle.std.proofs.lemmas.Bool.{cases_lt, cond_both}
use Rattle.std.proofs.lemmas.List.{length-map}
use Rattle.std.proofs.lemmas.List.Elements.{All-from_recursion}
use Rattle.std.proofs.lemmas.List.Kept.{AllPairs-cons}
use Rattle.dj_ops.specs.declared.instruction.Instr.{Instr}
use Rattle.dj_ops.specs.trusted.Instructions.{length_at}
use Rattle.dj_ops.specs.declared.frames.VType.{VType}
use Rattle.dj_ops.specs.declared.frames.VType.TheVariants as types
use Rattle.dj_ops.specs.declared.frames.Form.{Form}
use Rattle.dj_ops.specs.declared.frames.Frame as frames
use Rattle.dj_layout.specs.trusted.Places.{starts_from, end_from}
use Rattle.dj_layout.proofs.Ends.{ends_after}
use Rattle.dj_frames.specs.trusted.StackMaps.{IsType, types_of, HasCounts}
use Rattle.dj_asm_source.specs.trusted.Lines.{Label, FrameType, Simple, Object, New, Frame, Same, Stack1, Chop, Append, Full, IsFrame, IsSizedFrame, Line, Beside, Framed, Does, End, Operation, Aside}
use Rattle.dj_asm_source.specs.trusted.Sources.{BodyPart, Mark, Step, FrameStep, body_lines}
use Rattle.dj_asm_source.specs.trusted.Labels.{instruction_count, type_uses, frame_uses}
use Rattle.dj_asm_pool.specs.trusted.Entries.{Entry, Class}
use Rattle.dj_asm.specs.trusted.Codes.{Places, simple_type, type_of, form_of, frames_in}
use Rattle.dj_asm.specs.trusted.Files.{places_of}
use Rattle.dj_asm.specs.trusted.Large.{most_lines, HasTooMany, HasLongLists}
use Rattle.dj_asm_pool.proofs.Members.{each_append, each_first, each_last}
use Rattle.dj_asm.proofs.BodyLabels.{IsNumbered}

-- ---- addresses

pub starts_rise : (at : ℕ) (instrs : List Instr) → IsStrictlyIncreasing (starts_from at instrs)
starts_rise at [] k lt = absurd (omega (arith, lt))
starts_rise at (i ∷ []) k lt = absurd (omega (arith, lt))
starts_rise at (i ∷ (j ∷ is)) zero lt = let some = ends_after at (i ∷ []) in omega (arith, some)
starts_rise at (i ∷ (j ∷ is)) (suc k) lt =
    let next : suc k + 1 ≡ suc (k + 1) = omega arith in
    rw next (starts_rise (at + length_at at i) (j ∷ is) k (omega (arith, lt)))

pub starts_below : (end at : ℕ) (instrs : List Instr) → end_from at instrs ≤ end → end < 2 ^ 16 → AllByRecursion (λ address. address < 2 ^ 16) (starts_from at instrs)
starts_below end at [] le lt = tt
starts_below end at (i ∷ is) le lt =
    let some = ends_after at (i ∷ is) in
    (omega (arith, some, le, lt), starts_below end (at + length_at at i) is le lt)

address_below : (starts : List ℕ) (k : ℕ) → AllByRecursion (λ address. address < 2 ^ 16) starts → slice_index starts k < 2 ^ 16
address_below [] k below = omega arith
address_below (start ∷ starts) zero below = below.0
address_below (start ∷ starts) (suc k) below = address_below starts k below.1

-- ---- the order of frames

-- each frame is at an instruction from this one on, and after the frame before it
abbrev AreInOrder : ℕ → List frames.Frame → Type 0
AreInOrder k [] = ⊤
AreInOrder k (frame ∷ more) = (k ≤ frame.at) × AreInOrder (frame.at + 1) more

later : (k : ℕ) (fs : List frames.Frame) → AreInOrder (k + 1) fs → AreInOrder k fs
later k [] h = tt
later k (frame ∷ more) h = let le = h.0 in (omega (arith, le), h.1)

all_after : (m k : ℕ) (fs : List frames.Frame) → m < k → AreInOrder k fs → AllByRecursion (λ (frame : frames.Frame). m < frame.at) fs
all_after m k [] lt h = tt
all_after m k (frame ∷ more) lt h = let le = h.0 in (omega (arith, lt, le), all_after m (frame.at + 1) more (omega (arith, lt, le)) h.1)

pub in_order_rise : (k : ℕ) (fs : List frames.Frame) → AreInOrder k fs → AllPairs (λ (a b : frames.Frame). a.at < b.at) fs
in_order_rise k [] h = λ i j d lt within. absurd (omega (arith, lt, within))
in_order_rise k (frame ∷ more) h =
    AllPairs-cons (λ (a b : frames.Frame). a.at < b.at) frame more
    (All-from_recursion (λ (b : frames.Frame). frame.at < b.at) more (all_after frame.at (frame.at + 1) more (omega arith) h.1))
    (in_order_rise (frame.at + 1) more h.1)

-- how many instructions parts of a body have
abbrev pub step_count : List BodyPart → ℕ
step_count [] = 0
step_count (Mark aside ∷ parts) = step_count parts
step_count (Step operation ∷ parts) = 1 + step_count parts
step_count (FrameStep frame asides operation ∷ parts) = 1 + step_count parts

-- the frames of parts whose first instruction has this number, in a body of this many instructions
pub record AreFramesFrom (k count most : ℕ) (fs : List frames.Frame) : Type 0 where
  pub in_order : AreInOrder k fs
  pub few : length fs ≤ count
  pub within : AllByRecursion (λ (frame : frames.Frame). frame.at < most) fs

past_asides : (places : Places) (k : ℕ) (asides : List Aside) (operation : Operation) (xs ys : List Line)
    → frames_in places k (((map Beside asides ++ Does operation ∷ []) ++ xs) ++ ys) ≡ frames_in places (k + 1) (xs ++ ys)
unfolding frames_in
past_asides places k [] operation xs ys = refl
past_asides places k (aside ∷ asides) operation xs ys = past_asides places k asides operation xs ys

one_less : (k count most : ℕ) → k + (1 + count) ≤ most → (k + 1) + count ≤ most
one_less k count most le = omega (arith, le)

pub part_frames : (places : Places) (most k : ℕ) (parts : List BodyPart) → k + step_count parts ≤ most → AreFramesFrom k (step_count parts) most (frames_in places k (body_lines parts ++ End ∷ []))
unfolding frames_in
part_frames places most k [] le = record { in_order = tt; few = omega arith; within = tt }
part_frames places most k (Mark aside ∷ parts) le = part_frames places most k parts le
part_frames places most k (Step operation ∷ parts) le =
    let more = part_frames places most (k + 1) parts (one_less k (step_count parts) most le) in
    let few = more.few in
    record { in_order = later k (frames_in places (k + 1) (body_lines parts ++ End ∷ [])) more.in_order; few = omega (arith, few); within = more.within }
part_frames places most k (FrameStep frame asides operation ∷ parts) le =
    let more = part_frames places most (k + 1) parts (one_less k (step_count parts) most le) in
    let few = more.few in
    subst (λ (fs : List frames.Frame). AreFramesFrom k (1 + step_count parts) most (record { at = k; form = form_of places frame } ∷ fs)) (sym (past_asides places k asides operation (body_lines parts) (End ∷ [])))
    (record { in_order = (omega arith, more.in_order); few = omega (arith, few); within = (omega (arith, le), more.within) })

-- ---- forms

-- what holds of the forms of all frames among lines
pub forms_hold : (P : Form → Type 0) (places : Places) (k : ℕ) (lines : List Line) → AllByRecursion (λ line. (frame : Frame) → line ≡ Framed frame → P (form_of places frame)) lines
    → AllByRecursion (λ (frame : frames.Frame). P frame.form) (frames_in places k lines)
unfolding frames_in
forms_hold P places k [] h = tt
forms_hold P places k (Framed frame ∷ lines) h = (h.0 frame refl, forms_hold P places k lines h.1)
forms_hold P places k (Does operation ∷ lines) h = forms_hold P places (k + 1) lines h.1
forms_hold P places k (line ∷ lines) h = forms_hold P places k lines h.1

few_types : {A : Type 0} (list : List A) → (HasTooMany list → ⊥) → length list < 2 ^ 16
few_types list few = elim (cases_lt most_lines (length list)) [ inl many ↦ absurd (few many) | inr le ↦ omega (arith, le) ]

pub counts_hold : (places : Places) (frame : Frame) → IsFrame frame → IsSizedFrame frame → (HasLongLists frame → ⊥) → HasCounts (form_of places frame)
counts_hold places Same is sized few = tt
counts_hold places (Stack1 type) is sized few = tt
counts_hold places (Chop n) is (m, e, some, most) few = subst (λ (z : ℤ). (1 ≤ unsigned_abs z) × (unsigned_abs z ≤ 3)) (sym e) (some, most)
counts_hold places (Append list) is sized few =
    let some = is.0 in
    let most = is.1 in
    let size = length-map list (type_of places) in
    (omega (arith, some, size), omega (arith, most, size))
counts_hold places (Full locals stack) is sized few =
    let l = length-map locals (type_of places) in
    let r = length-map stack (type_of places) in
    let few_locals = few_types locals (λ many. few (inl many)) in
    let few_operands = few_types stack (λ many. few (inr many)) in
    (omega (arith, l, few_locals), omega (arith, r, few_operands))

-- ---- types

simple_is : (starts word : List ℕ) → IsType starts (simple_type word)
simple_is starts word =
    let last = cond (bytes_eq word (codes "this")) types.UninitializedThis types.Top in
    let null = cond (bytes_eq word (codes "null")) types.Null last in
    let long = cond (bytes_eq word (codes "long")) types.Long null in
    let double = cond (bytes_eq word (codes "double")) types.Double long in
    let float = cond (bytes_eq word (codes "float")) types.Float double in
    cond_both (bytes_eq word (codes "int")) types.Integer float (IsType starts) (λ e. tt)
    (λ e. cond_both (bytes_eq word (codes "float")) types.Float double (IsType starts) (λ e. tt)
    (λ e. cond_both (bytes_eq word (codes "double")) types.Double long (IsType starts) (λ e. tt)
    (λ e. cond_both (bytes_eq word (codes "long")) types.Long null (IsType starts) (λ e. tt)
    (λ e. cond_both (bytes_eq word (codes "null")) types.Null last (IsType starts) (λ e. tt)
    (λ e. cond_both (bytes_eq word (codes "this")) types.UninitializedThis types.Top (IsType starts) (λ e. tt) (λ e. tt))))))

module _ (index : Entry → ℕ) (body : List Line) (starts : List ℕ) (indexed : (e : Entry) → index e < 2 ^ 16) (many : length starts ≡ instruction_count body)
    (below : AllByRecursion (λ address. address < 2 ^ 16) starts) where
  abbrev here : Places
  here = places_of index body

  type_is : (type : FrameType) → AllByRecursion (IsNumbered body) (type_uses type) → IsType starts (type_of here type)
  type_is (Simple word) uses = simple_is starts word
  type_is (Object name) uses = indexed (Class name)
  type_is (New label) uses = let lt = uses.0 in (omega (arith, lt, many), address_below starts (here.number label) below)

  types_are : (list : List FrameType) → AllByRecursion (IsNumbered body) (flat_map type_uses list) → AllByRecursion (IsType starts) (map (type_of here) list)
  types_are [] uses = tt
  types_are (type ∷ list) uses =
      (type_is type (each_first (IsNumbered body) (type_uses type) (flat_map type_uses list) uses), types_are list (each_last (IsNumbered body) (type_uses type) (flat_map type_uses list) uses))

  pub types_hold : (frame : Frame) → AllByRecursion (IsNumbered body) (frame_uses frame) → AllByRecursion (IsType starts) (types_of (form_of here frame))
  types_hold Same uses = tt
  types_hold (Stack1 type) uses = (type_is type uses, tt)
  types_hold (Chop n) uses = tt
  types_hold (Append list) uses = types_are list uses
  types_hold (Full locals stack) uses =
      each_append (IsType starts) (map (type_of here) locals) (map (type_of here) stack)
      (types_are locals (each_first (IsNumbered body) (flat_map type_uses locals) (flat_map type_uses stack) uses))
      (types_are stack (each_last (IsNumbered body) (flat_map type_uses locals) (flat_map type_uses stack) uses))
