-- The whole of a method's code: its frames as they are read, its parameters, and what follows for its shape.
use Rattle.std.proofs.Common.{◌≡◌, ℕ, ◌<◌, ◌≤◌, Bool, true, false, List, [], ◌∷◌, map, length, Option, Some, None, IsSome, IsNone, slice_get, if◌then◌else◌, refl, sym, ap, subst, ◌∙◌, inl, inr, arith}
use Rattle.std.specs.Option.{option_map}
use Rattle.std.proofs.lemmas.Option.{slice_get-map}
use Rattle.dj_names.specs.declared.descriptor.Kind.{Kind}
use Rattle.dj_names.specs.declared.descriptor.Kind.TheVariants as kinds
use Rattle.dj_ops.specs.declared.frames.VType.{VType}
use Rattle.dj_ops.specs.declared.frames.VType.TheVariants as types
use Rattle.dj_ops.specs.declared.frames.Form.{Form}
use Rattle.dj_ops.specs.declared.frames.Form.TheVariants as forms
use Rattle.dj_ops.specs.declared.frames.Frame.{Frame}
use Rattle.dj_model.specs.trusted.Instructions.{Instruction, makes_uninitialised}
use Rattle.dj_model.specs.trusted.Program.{Code}
use Rattle.dj_model.specs.trusted.Numbers.{is_wide}
use Rattle.dj_model.specs.trusted.Initialisation.{padded}
use Rattle.dj_model.specs.trusted.Values.{in_slots}
use Rattle.dj_model.specs.trusted.Kinds.{Signature, with_receiver, Kinds, Entry, Entries, entry_slots, entry_of, made_by, entries_of, with_entry, with_locals, with_stack, full_entries, form_entries, with_frame, with_fitting, fitting, stack_of, frames_after, frames_in, map_of, parameter_entries, Map, Read, Faulty, Placed, placed_at}
use Rattle.dj_model.specs.trusted.Shape.{first_kinds, ParametersFit, IsFrameOrFault}
use Rattle.dj_model.specs.Shape.{AllHold}
use Rattle.dj_shape_rule.specs.Standing.{Standing, HasRoomOf}
use Rattle.dj_shape_rule.specs.Listed.{AreFew}
use Rattle.dj_ops.specs.declared.instruction.Instr.{Instr}
use Rattle.dj_pool.specs.trusted.Pool.{Constant}
use Rattle.dj_program.specs.declared.code.MethodCode.{MethodCode}
use Rattle.dj_program.specs.trusted.Naming.{instruction_in}
use Rattle.dj_program.specs.trusted.Codes.{code_in, range_in}
use Rattle.dj_program.specs.Views.{parts_of}
use Rattle.dj_shape_rule.specs.Kept.{KeptKinds}
use Rattle.dj_shape_rule.specs.Pools.{ArePoolKinds}
use Rattle.dj_shape_rule.specs.Reported.{Reported, ReportedFrames, AreReported, IsReportedAs}
use Rattle.dj_shape_rule.specs.Reading.{made_as, frame_code, signature_with}
use Rattle.dj_shape_rule.specs.Passing.{Case, IsFirst}
use Rattle.dj_shape_rule.specs.Judging.{IsFaultOf, IsJudged, fault_reported}
use Rattle.dj_shape_rule.specs.Rule.{IsShapeAnswer}

-- ---- what frames depend on in the code: whether its instructions make objects, and its room

module _ (code : Code) (made : List Bool) (are : made ≡ map makes_uninitialised code.instructions) where
  abbrev own : Code
  own = frame_code code.max_stack code.max_locals made

  made_same : (i : Option Instruction) → made_by i ≡ made_by (option_map made_as (option_map makes_uninitialised i))
  made_same None = refl
  made_same (Some i) = by (makes_uninitialised i) refl where
    by : (b : Bool) → makes_uninitialised i ≡ b → made_by (Some i) ≡ made_by (Some (made_as b))
    by true e = rw e refl
    by false e = rw e refl

  entry_same : (type : VType) → entry_of code type ≡ entry_of own type
  entry_same types.Top = refl
  entry_same types.Integer = refl
  entry_same types.Float = refl
  entry_same types.Double = refl
  entry_same types.Long = refl
  entry_same types.Null = refl
  entry_same types.UninitializedThis = refl
  entry_same (types.Object index) = refl
  entry_same (types.Uninitialized number) =
      let at : slice_get made number ≡ option_map makes_uninitialised (slice_get code.instructions number) =
      ap (λ (l : List Bool). slice_get l number) are ∙ slice_get-map makes_uninitialised code.instructions number in
      let there : slice_get (map made_as made) number ≡ option_map made_as (option_map makes_uninitialised (slice_get code.instructions number)) =
      slice_get-map made_as made number ∙ ap (λ (b : Option Bool). option_map made_as b) at in
      made_same (slice_get code.instructions number) ∙ ap (λ (i : Option Instruction). made_by i) (sym there)

  entries_same : (list : List VType) → entries_of code list ≡ entries_of own list
  entries_same [] = refl
  entries_same (type ∷ others) =
      ap (λ (e : Entry). with_entry e (entries_of code others)) (entry_same type) ∙ ap (λ (o : Option (List (Option Kind))). with_entry (entry_of own type) o) (entries_same others)

  form_same : (before : List (Option Kind)) (form : Form) → form_entries code before form ≡ form_entries own before form
  form_same before forms.Same = refl
  form_same before (forms.Stack1 type) = ap (λ (o : Option (List (Option Kind))). with_stack before o) (entries_same (type ∷ []))
  form_same before (forms.Chop n) = refl
  form_same before (forms.Append more) = ap (λ (o : Option (List (Option Kind))). with_locals before o) (entries_same more)
  form_same before (forms.Full locals stack) =
      ap (λ (o : Option (List (Option Kind))). full_entries o (entries_of code stack)) (entries_same locals)
      ∙ ap (λ (o : Option (List (Option Kind))). full_entries (entries_of own locals) o) (entries_same stack)

  frame_same : (at : ℕ) (e : Option Entries) (a b : List (Option Kind) → Map) → ((locals : List (Option Kind)) → a locals ≡ b locals)
      → with_frame code at e a ≡ with_frame own at e b
  frame_same at None a b same = refl
  frame_same at (Some e) a b same = ap (λ (m : Map). with_fitting at (fitting code e.locals (stack_of e.stack)) m) (same e.locals) ∙ by (stack_of e.stack) where
    by : (s : Option (List Kind)) → with_fitting at (fitting code e.locals s) (b e.locals) ≡ with_fitting at (fitting own e.locals s) (b e.locals)
    by None = refl
    by (Some s) = refl

  pub frames_same : (before : List (Option Kind)) (frames : List Frame) → frames_after code before frames ≡ frames_after own before frames
  unfolding frames_after
  frames_same before [] = refl
  frames_same before (f ∷ rest) =
      ap (λ (e : Option Entries). with_frame code f.at e (λ locals. frames_after code locals rest)) (form_same before f.form)
      ∙ frame_same f.at (form_entries own before f.form) (λ locals. frames_after code locals rest) (λ locals. frames_after own locals rest) (λ locals. frames_same locals rest)

-- ---- parameters

pub slots_same : (parameters : List Kind) → entry_slots (map (λ (kind : Kind). Some kind) parameters) ≡ in_slots is_wide parameters
slots_same [] = refl
slots_same (kind ∷ parameters) = by (is_wide kind) (slots_same parameters) where
  by : (b : Bool) → entry_slots (map (λ (k : Kind). Some k) parameters) ≡ in_slots is_wide parameters
      → (if b then Some kind ∷ None ∷ entry_slots (map (λ (k : Kind). Some k) parameters) else Some kind ∷ entry_slots (map (λ (k : Kind). Some k) parameters))
      ≡ (if b then Some kind ∷ None ∷ in_slots is_wide parameters else Some kind ∷ in_slots is_wide parameters)
  by true e = ap (λ (l : List (Option Kind)). Some kind ∷ None ∷ l) e
  by false e = ap (λ (l : List (Option Kind)). Some kind ∷ l) e

-- whether the parameters fit, and which kinds stand then
module _ (signature : Signature) (code : Code) (max_locals : ℕ) (slots : List (Option Kind)) (are : slots ≡ in_slots is_wide signature.parameters) (room : max_locals ≡ code.max_locals) where
  pub unfit : max_locals < length slots → ParametersFit signature code → ⊥
  unfit long fit = omega (arith, long, fit, room, ap length are)

  pub fit_and_first : length slots ≤ max_locals → ParametersFit signature code × (◌≡◌ {A = Kinds} (record { locals = padded max_locals slots; stack = [] }) (first_kinds signature code))
  fit_and_first few = (
    omega (arith, few, room, ap length are),
    ap (λ (m : ℕ). record { locals = padded m slots; stack = [] }) room ∙ ap (λ (l : List (Option Kind)). record { locals = padded code.max_locals l; stack = [] }) are,
  )

-- ---- shape and faults

some_so : {A : Type 0} (x : Option A) (y : A) → x ≡ Some y → IsSome x
some_so None y e = absurd cc
some_so (Some x) y e = refl

module _ (signature : Signature) (code : Code) (frames : List Frame) (has : code.frames ≡ Some frames) where
  map_so : map_of signature code ≡ frames_after code (parameter_entries signature) frames
  map_so = ap (frames_in code (parameter_entries signature)) has

  pub unfit_fault : (ParametersFit signature code → ⊥) → IsFaultOf signature code (Some 0)
  unfit_fault none = (some_so code.frames frames has, inl (none, refl))

  pub faulty_fault : (at : ℕ) → ParametersFit signature code → frames_after code (parameter_entries signature) frames ≡ Faulty at → IsFaultOf signature code (Some at)
  faulty_fault at fit e = (some_so code.frames frames has, inr (fit, subst (λ (m : Map). IsFrameOrFault signature code m at) (sym (map_so ∙ e)) refl))

  pub read_fault : (c : Case) (fault : Option ℕ) → c.signature ≡ signature → c.code ≡ code → ParametersFit signature code
      → frames_after code (parameter_entries signature) frames ≡ Read c.placed → IsFirst c fault → IsFaultOf signature code fault
  read_fault c None s k fit e first =
      record { parameters = fit; each = subst (AllHold signature code) (sym (map_so ∙ e)) (subst (λ (x : Code). AllHold signature x (Read c.placed)) k (subst (λ (x : Signature). AllHold x c.code (Read c.placed)) s first)) }
  read_fault c (Some n) s k fit e first = (
    some_so code.frames frames has,
    inr (
      fit,
      subst (λ (m : Map). IsFrameOrFault signature code m n) (sym (map_so ∙ e))
          (subst (λ (x : Code). IsFrameOrFault signature x (Read c.placed) n) k (subst (λ (x : Signature). IsFrameOrFault x c.code (Read c.placed) n) s first)),
    ),
  )

-- the local variables of frames that were read fit
pub few_read : (max_stack max_locals : ℕ) (placed : List Placed) (frames : ReportedFrames) → AreReported max_stack max_locals placed frames → AreFew frames max_locals
few_read max_stack max_locals placed frames are number reported at =
    (subst (λ (r : Option Reported). IsReportedAs max_stack max_locals r (placed_at placed number)) at (are number)).1

-- ---- code as it is kept

pub in_code : (pool : List Constant) (m : MethodCode) → ((code_in pool (parts_of m)).max_stack ≡ m.max_stack) × ((code_in pool (parts_of m)).max_locals ≡ m.max_locals)
    × ((code_in pool (parts_of m)).instructions ≡ map (instruction_in pool) m.code.code) × ((code_in pool (parts_of m)).ranges ≡ map (range_in pool) m.code.ranges)
    × ((code_in pool (parts_of m)).frames ≡ m.frames)
unfolding code_in
in_code pool m = (refl, refl, refl, refl, refl)

pub no_call : (static : Bool) (o : Option Signature) (signature : Signature) → o ≡ None → with_receiver static o ≡ Some signature → ⊥
no_call static None signature e f = absurd cc
no_call static (Some call) signature e f = absurd cc

pub one_call : (static : Bool) (o : Option Signature) (call signature : Signature) → o ≡ Some call → with_receiver static o ≡ Some signature → signature_with static call ≡ signature
one_call static None call signature e f = absurd cc
one_call true (Some own) call signature e f = let a : own ≡ call = cc in let b : own ≡ signature = cc in sym a ∙ b
one_call false (Some own) call signature e f =
    let a : own ≡ call = cc in
    let b : ◌≡◌ {A = Signature} (record own { parameters = kinds.Ref ∷ own.parameters }) signature = cc in
    ap (λ (s : Signature). record s { parameters = kinds.Ref ∷ s.parameters }) (sym a) ∙ b

-- where the parameters fit, the frames are read of what the instructions make
module _ (pool : List Constant) (m : MethodCode) (signature : Signature) (made : List Bool) (before : List (Option Kind)) (list : List Frame) (has : m.frames ≡ Some list) (are : made ≡ map (λ i. makes_uninitialised (instruction_in pool i)) m.code.code) (start : before ≡ parameter_entries signature) (fit : ParametersFit signature (code_in pool (parts_of m))) where
  abbrev code : Code
  code = code_in pool (parts_of m)

  abbrev frame_own : Code
  frame_own = frame_code m.max_stack m.max_locals made

  has_frames : code.frames ≡ Some list
  has_frames = (in_code pool m).4 ∙ has

  made_so : made ≡ map makes_uninitialised code.instructions
  made_so = are ∙ map_twice m.code.code ∙ ap (λ (l : List Instruction). map makes_uninitialised l) (sym (in_code pool m).2) where
    map_twice : (l : List Instr) → map (λ i. makes_uninitialised (instruction_in pool i)) l ≡ map makes_uninitialised (map (instruction_in pool) l)
    map_twice [] = refl
    map_twice (i ∷ l) = ap (λ (x : List Bool). makes_uninitialised (instruction_in pool i) ∷ x) (map_twice l)

  own_same : frame_code code.max_stack code.max_locals made ≡ frame_own
  own_same = ap (λ (n : ℕ). frame_code n code.max_locals made) (in_code pool m).0 ∙ ap (λ (n : ℕ). frame_code m.max_stack n made) (in_code pool m).1

  whole : frames_after code (parameter_entries signature) list ≡ frames_after frame_own before list
  whole =
      frames_same code made made_so (parameter_entries signature) list ∙ ap (λ (c : Code). frames_after c (parameter_entries signature) list) own_same
      ∙ ap (λ (b : List (Option Kind)). frames_after frame_own b list) (sym start)

  pub err_fault : (at : ℕ) → frames_after frame_own before list ≡ Faulty at → IsFaultOf signature code (Some at)
  err_fault at e = faulty_fault signature code list has_frames at fit (whole ∙ e)

  pub ok_fault : (kinds : KeptKinds) (returned : Option Kind) (reported : ReportedFrames) (state : Standing) (fault : Option ℕ) → ArePoolKinds pool kinds → returned ≡ signature.result
      → HasRoomOf state code → state.kinds ≡ first_kinds signature code
      → (placed : List Placed) × (frames_after frame_own before list ≡ Read placed) × AreReported m.max_stack m.max_locals placed reported
      → ((c : Case) → IsJudged kinds returned m reported state c → IsFirst c fault) → IsFaultOf signature code fault
  ok_fault kinds returned reported state fault kept gives room first read judged =
      let c : Case = record { pool = pool; signature = signature; code = code; placed = read.0 } in
      let parts = in_code pool m in
      let reported_so : AreReported code.max_stack code.max_locals read.0 reported =
      subst (λ (n : ℕ). AreReported n code.max_locals read.0 reported) (sym parts.0) (subst (λ (n : ℕ). AreReported m.max_stack n read.0 reported) (sym parts.1) read.2) in
      read_fault signature code list has_frames c fault refl refl fit (whole ∙ read.1)
      (judged c (record { kept = kept; gives = gives; instructions = parts.2; ranges = parts.3; reported = reported_so; room = room; first = first }))

pub none_so : {A : Type 0} (x : Option A) → x ≡ None → IsNone x
none_so None e = refl
none_so (Some x) e = absurd cc

-- what is reported of code with a stack map
pub answer_of : (signature : Signature) (code : Code) (fault : Option ℕ) → IsFaultOf signature code fault → IsShapeAnswer signature code (fault_reported fault)
answer_of signature code None has = has
answer_of signature code (Some number) fault = fault

-- where the descriptor's kinds are kept, the signature is this
pub answer_for : (static : Bool) (o : Option Signature) (call signature : Signature) (code : Code) (fault : Option ℕ) → o ≡ Some call → with_receiver static o ≡ Some signature
    → IsFaultOf (signature_with static call) code fault → IsShapeAnswer signature code (fault_reported fault)
answer_for static o call signature code fault e f is = answer_of signature code fault (subst (λ (s : Signature). IsFaultOf s code fault) (one_call static o call signature e f) is)
