-- Each act and each payment leaves a metered run the room that it has paid.
use Rattle.std.proofs.Common.{◌≡◌, ℕ, ◌+◌, ◌*◌, ◌≤◌, ◌⊎◌, ◌++◌, Bool, true, false, List, [], ◌∷◌, length, reverse, Option, Some, None, nat_le, nat_lt, refl, sym, ap, subst, ◌∙◌, inl, inr, arith, if◌then◌else◌}
use Rattle.std.specs.Prelude.{⊤, IfSome}
use Rattle.dj_names.specs.declared.descriptor.Ty.{Ty}
use Rattle.dj_names.specs.declared.run.Value.{Value}
use Rattle.dj_names.specs.declared.run.Thresholds.{Thresholds}
use Rattle.dj_names.specs.trusted.Heaps.{next_number, with_new}
use Rattle.dj_names.specs.trusted.Types.{Name}
use Rattle.dj_model.specs.trusted.Types.{Prefix, Declared}
use Rattle.dj_model.specs.trusted.Instructions.{Instruction, Invoke}
use Rattle.dj_model.specs.Instructions.{calls}
use Rattle.dj_model.specs.trusted.Program.{Program, code_of, is_initialiser, has_initialiser, initialiser_of}
use Rattle.dj_model.specs.trusted.Linking.{chain, option_list}
use Rattle.dj_model.specs.trusted.State.{Terms, Metered, Account, Frame, State, instruction_at, Part, Next, To, Raise, Back, Flow, Goes, Catch, Stop, Call, End, Effect}
use Rattle.dj_model.specs.trusted.Charging.{Fine}
use Rattle.dj_model.specs.trusted.Kinds.{Signature, Kinds}
use Rattle.dj_model.specs.trusted.Program.{Code}
use Rattle.dj_model.specs.trusted.Effects.{used_class}
use Rattle.dj_model.specs.trusted.Initialisation.{most_frames, Initialised, Ready, Waits, Fails, then_ready, constants_of, mark_all, not_initialised, new_frame, initialiser_frames, with_frames, initialise}
use Rattle.dj_model.specs.trusted.Step.{StepAnswer, Went, Ended, IllFormed, handler_of, caught, at_handler, unwound, new_exception, at_number, returned, settle, with_part, frame_with, part_of, settled, prepared, done, act, step_of, step}
use Rattle.dj_model.specs.Charging.{charge_all}
use Rattle.dj_model.specs.Effects.{pays}
use Rattle.dj_model.specs.Runs.{metered_terms, amounts, with_paid, starts_handler}
use Rattle.dj_model.specs.Laws.{IsLess, IsPaid}
use Rattle.dj_model.specs.Sound.{IsSound}
use Rattle.dj_model.specs.Standing.{AsksNothing, IsSoundFlow, IsReady}
use Rattle.dj_model.proofs.Flows.{either_way}
use Rattle.dj_model.proofs.Frames.{KeepsMore, all_constants_keep}
use Rattle.dj_sim.specs.Metering.{one_if}
use Rattle.dj_sim.proofs.Places.{either}
use Rattle.dj_sim.proofs.SoundTurns.{found_there}
use Rattle.dj_bounds.specs.Acts.{AreShort, arrived}
use Rattle.dj_bounds.specs.Bytes.{alloc_of, own_bytes, pending_bytes, literal_bytes, input_bytes, HasRoom}
use Rattle.dj_bounds.proofs.Spending.{code_starts}
use Rattle.dj_bounds.proofs.Acting.{sound_effect, payment_adds}
use Rattle.dj_bounds.proofs.Taking.{text_of, NotStopped, Takes, effect_takes}
use Rattle.dj_bounds.proofs.Levels.{IsLevel, InitLevel, prepared_level}

-- ---- frames that haven't paid

pub unpaid_bytes : (program : Program) (x : Frame Declared) (o : Option Instruction) → x.paid ≡ false → own_bytes program x o ≡ 0
unpaid_bytes program x None unpaid = refl
unpaid_bytes program x (Some i) unpaid = rw unpaid refl

paid_bytes : (program : Program) (x : Frame Declared) (i : Instruction) → x.paid ≡ true → own_bytes program x (Some i) ≡ alloc_of (pays program [] i x.operands)
paid_bytes program x i paid = rw paid refl

-- a call takes no bytes
call_bytes : (program : Program) (i : Instruction) (operands : List Value) → calls i ≡ true → alloc_of (pays program [] i operands) ≡ 0
unfolding pays
call_bytes program (Invoke mode m) operands k = refl
call_bytes program i operands k = absurd (let no : false ≡ true = k in cc)

module _ (program : Program) where
  pushed_bytes : (classes : List Name) (frames : List (Frame Declared)) → pending_bytes program (initialiser_frames program classes ++ frames) ≡ pending_bytes program frames
  pushed_bytes [] frames = refl
  pushed_bytes (class ∷ classes) frames = by (has_initialiser program class) (pushed_bytes classes frames) where
    by : (b : Bool) → pending_bytes program (initialiser_frames program classes ++ frames) ≡ pending_bytes program frames
        → pending_bytes program (((if b then new_frame program (initialiser_of class) [] ∷ [] else []) ++ initialiser_frames program classes) ++ frames) ≡ pending_bytes program frames
    by true rest = omega (arith, rest, unpaid_bytes program (new_frame program (initialiser_of class) []) (instruction_at program (new_frame program (initialiser_of class) [])) refl)
    by false rest = rest

  -- frames that were pushed take nothing
  abbrev pub InitPending : State → Initialised → Type 0
  InitPending s (Ready t) = ⊤
  InitPending s (Waits t) = pending_bytes program t.frames ≡ pending_bytes program s.frames
  InitPending s (Fails outcome t) = ⊤

  pub initialise_pending : (prefix : Prefix) (terms : Terms) (class : Name) (s : State) → InitPending s (initialise program prefix terms class s)
  unfolding initialise KeepsMore
  initialise_pending prefix terms class s = go (constants_of program prefix terms classes marked) (all_constants_keep program prefix terms classes marked) where
    classes : List Name
    classes = reverse (not_initialised program s.initialised (chain program class))

    marked : State
    marked = record s { initialised = mark_all program classes s.initialised }

    pushed : (t : State) → t.frames ≡ s.frames → (frames : List (Frame Declared)) → initialiser_frames program classes ≡ frames → InitPending s (with_frames t frames)
    pushed t same [] e = tt
    pushed t same (f ∷ frames) e = either_way (InitPending s) (nat_lt most_frames (length (f ∷ frames) + length t.frames)) _ _ tt
        (ap (λ (fs : List (Frame Declared)). pending_bytes program (fs ++ t.frames)) (sym e) ∙ (pushed_bytes classes t.frames ∙ ap (pending_bytes program) same))

    go : (i : Initialised) → KeepsMore marked i → InitPending s (then_ready (λ next. with_frames next (initialiser_frames program classes)) i)
    go (Ready t) k = pushed t k.0 (initialiser_frames program classes) refl
    go (Waits t) k = absurd k
    go (Fails outcome t) k = tt

  prepared_pending : (prefix : Prefix) (terms : Terms) (used : Option Name) (s : State) → InitPending s (prepared program prefix terms used s)
  prepared_pending prefix terms None s = tt
  prepared_pending prefix terms (Some class) s = initialise_pending prefix terms class s

  -- ---- what follows an effect

  module _ (most : Thresholds) (input : List ℕ) (throws : ℕ) where
    -- where so many throws were charged before; an end has room for one exception that arrived and one that is new
    abbrev pub AnswerRoom : StepAnswer → Type 0
    AnswerRoom (Went t) = t.heap.used + pending_bytes program t.frames ≤ t.account.costs.alloc + 32 * (throws + arrived program t.frames) + literal_bytes t.literals + input_bytes input
    AnswerRoom (Ended outcome t) = t.heap.used ≤ most.alloc + 32 * (throws + 1) + literal_bytes t.literals + input_bytes input
    AnswerRoom IllFormed = ⊤

    abbrev below_top : List (Frame Declared) → ℕ
    below_top [] = 0
    below_top (x ∷ below) = pending_bytes program below

    below_less : (frames : List (Frame Declared)) → below_top frames ≤ pending_bytes program frames
    below_less [] = omega arith
    below_less (x ∷ below) = omega arith

    unwound_room : (s : State) (class : Ty) (exception : ℕ) (frames : List (Frame Declared))
        → s.heap.used + below_top frames ≤ s.account.costs.alloc + 32 * (throws + 1) + literal_bytes s.literals + input_bytes input
        → s.heap.used ≤ most.alloc + 32 * (throws + 1) + literal_bytes s.literals + input_bytes input
        → AnswerRoom (unwound program [] s class exception frames)
    unfolding unwound
    unwound_room s class exception [] base final = final
    unwound_room s class exception (x ∷ below) base final =
        by (handler_of program [] class x.number (code_of program x.method)) refl (unwound_room s class exception below (omega (arith, base, below_less below)) final) where
          by : (h : Option ℕ) → handler_of program [] class x.number (code_of program x.method) ≡ h → AnswerRoom (unwound program [] s class exception below)
              → AnswerRoom (at_handler [] s class exception x below h (unwound program [] s class exception below))
          by (Some h) e more =
              let first : starts_handler (code_of program x.method) h ≡ true = code_starts program class x.number (code_of program x.method) h e in
              rw first omega (arith, base, unpaid_bytes program (caught x exception h) (instruction_at program (caught x exception h)) refl)
          by None e more = either_way AnswerRoom (is_initialiser x.method) _ _ final more

    returned_room : (s : State) (x : Frame Declared) (result : Option Value) (below : List (Frame Declared))
        → s.heap.used + pending_bytes program below ≤ s.account.costs.alloc + 32 * throws + literal_bytes s.literals + input_bytes input
        → s.heap.used ≤ most.alloc + 32 * throws + literal_bytes s.literals + input_bytes input
        → AnswerRoom (returned s x result below)
    returned_room s x result [] base final = omega (arith, final)
    returned_room s x result (caller ∷ below) base final = elim (either (is_initialiser x.method)) [
      | inl i ↦ rw i omega (arith, base)
      | inr i ↦ rw i omega (arith, base, unpaid_bytes program (at_number (record caller { operands = option_list result ++ caller.operands }) (caller.number + 1)) (instruction_at program (at_number (record caller { operands = option_list result ++ caller.operands }) (caller.number + 1))) refl)
    ]

    -- a caller takes nothing
    abbrev CallsFree : Frame Declared → Flow → Type 0
    CallsFree x (Call m arguments) = own_bytes program x (instruction_at program x) ≡ 0
    CallsFree x flow = ⊤

    settle_room : (s : State) (x : Frame Declared) (below : List (Frame Declared)) (flow : Flow)
        → s.heap.used + pending_bytes program below ≤ s.account.costs.alloc + 32 * throws + literal_bytes s.literals + input_bytes input
        → s.heap.used ≤ most.alloc + 32 * throws + literal_bytes s.literals + input_bytes input
        → NotStopped flow → CallsFree x flow → AnswerRoom (settle program [] (metered_terms most) s x below flow)
    unfolding settle
    settle_room s x below (Goes Next) base final plain free = omega (arith, base, unpaid_bytes program (at_number x (x.number + 1)) (instruction_at program (at_number x (x.number + 1))) refl)
    settle_room s x below (Goes (To n)) base final plain free = omega (arith, base, unpaid_bytes program (at_number x n) (instruction_at program (at_number x n)) refl)
    settle_room s x below (Goes (Raise raised)) base final plain free =
        unwound_room (record s { frames = x ∷ below; heap = with_new s.heap (new_exception [] raised) }) _ (next_number s.heap) (x ∷ below) (omega (arith, base)) (omega (arith, final))
    settle_room s x below (Goes (Back result)) base final plain free = returned_room s x result below base final
    settle_room s x below (Catch exception) base final plain free = unwound_room (record s { frames = x ∷ below }) _ exception (x ∷ below) (omega (arith, base)) (omega (arith, final))
    settle_room s x below Stop base final plain free = absurd plain
    settle_room s x below (Call m arguments) base final plain free = either_way AnswerRoom (nat_le most_frames (length (x ∷ below))) _ _ (omega (arith, final))
        (omega (arith, base, free, unpaid_bytes program (new_frame program m arguments) (instruction_at program (new_frame program m arguments)) refl))
    settle_room s x below (End outcome) base final plain free = omega (arith, final)

-- ---- an act

module _ (program : Program) (sound : IsSound program []) (quiet : AsksNothing program) (short : AreShort program) (most : Thresholds) (input : List ℕ) (x : Frame Declared) (ready : IsReady program x) where
  flow_free : (signature : Signature) (code : Code) (i : Instruction) (before left : Kinds) (p : Part) (flow : Flow) (y : Frame Declared) → instruction_at program y ≡ Some i → y.paid ≡ true
      → IsSoundFlow program signature code i before left p flow → CallsFree program most input 0 y flow
  flow_free signature code i before left p (Call m arguments) y at paid s = rw (at, paid) (call_bytes program i y.operands s.calls)
  flow_free signature code i before left p (Goes way) y at paid s = tt
  flow_free signature code i before left p (Catch exception) y at paid s = tt
  flow_free signature code i before left p Stop y at paid s = tt
  flow_free signature code i before left p (End outcome) y at paid s = tt

  module _ (s : State) (below : List (Frame Declared)) (frames : s.frames ≡ x ∷ below) (paid : x.paid ≡ true) (within : IsPaid most s.account) (room : HasRoom program input s) where
    abbrev throws : ℕ
    throws = s.account.costs.throw

    -- what the instruction paid
    abbrev own : ℕ
    own = alloc_of (pays program [] ready.at.instruction x.operands)

    room_before : s.heap.used + own + pending_bytes program below ≤ s.account.costs.alloc + 32 * throws + literal_bytes s.literals + input_bytes input
    room_before =
        let none : arrived program (x ∷ below) ≡ 0 = rw paid refl in
        let owed : own_bytes program x (instruction_at program x) ≡ own = ap (own_bytes program x) (found_there program sound x ready) ∙ paid_bytes program x ready.at.instruction paid in
        omega (arith, room, none, owed, ap (arrived program) frames, ap (pending_bytes program) frames)

    abbrev After : State → Type 0
    After t = (t.heap.used + pending_bytes program below ≤ t.account.costs.alloc + 32 * throws + literal_bytes t.literals + input_bytes input)
        × (t.heap.used ≤ most.alloc + 32 * throws + literal_bytes t.literals + input_bytes input)

    after_effect : (t : State) → IsLevel s t → (e : Effect) → Takes (Metered most) (text_of ready.at.instruction) own (part_of x t) e → After (with_part t e.part)
    after_effect t level e takes = by takes.covered.1 where
      same : t.account.costs.alloc ≡ s.account.costs.alloc
      same = ap (λ (a : Account). a.costs.alloc) level.1

      by : ((takes.made ≤ own) × (t.account.costs.alloc ≤ e.part.account.costs.alloc)) ⊎ ((takes.made + t.account.costs.alloc ≤ e.part.account.costs.alloc) × (e.part.account.costs.alloc ≤ most.alloc))
          → After (with_part t e.part)
      by (inl k) = (omega (arith, room_before, level.0, takes.bytes, k.0, k.1, same), omega (arith, room_before, level.0, takes.bytes, k.0, k.1, same, within.within.alloc))
      by (inr k) = (omega (arith, room_before, level.0, takes.bytes, k.0, same), omega (arith, room_before, level.0, takes.bytes, k.0, k.1, same))

    abbrev Room : StepAnswer → Type 0
    Room a = AnswerRoom program most input throws a

    done_room : (r : Initialised) → InitLevel program [] (metered_terms most) s r → InitPending program s r → Room (done program [] (metered_terms most) x below ready.at.instruction r)
    done_room (Ready t) level pending =
        let d = sound_effect program sound quiet short most x ready t in
        let takes : Takes (Metered most) (text_of ready.at.instruction) own (part_of x t) d.does =
        subst (λ (o : Option Effect). IfSome o (Takes (Metered most) (text_of ready.at.instruction) own (part_of x t))) d.has (effect_takes program [] (metered_terms most) x.method.class ready.at.instruction (part_of x t)) in
        let after = after_effect t level d.does takes in
        subst (λ (o : Option Effect). Room (settled program [] (metered_terms most) t x below o)) (sym d.has)
        (settle_room program most input throws (with_part t d.does.part) (frame_with x d.does.part) below d.does.flow after.0 after.1 takes.covered.0
        (flow_free ready.at.signature ready.at.code ready.at.instruction ready.at.before _ d.does.part d.does.flow (frame_with x d.does.part) (found_there program sound x ready) paid d.sound))
    done_room (Waits t) level pending = omega (
      arith,
      room,
      level.0,
      ap (λ (a : Account). a.costs.alloc) level.1,
      pending,
      (let none : arrived program (x ∷ below) ≡ 0 = rw paid refl in none),
      ap (arrived program) frames,
    )
    done_room (Fails outcome t) level pending = omega (arith, room_before, level.0, within.within.alloc)

    pub step_room : Room (step program [] (metered_terms most) s)
    unfolding step
    step_room =
        subst (λ (fs : List (Frame Declared)). Room (step_of program [] (metered_terms most) s fs)) (sym frames)
        (subst (λ (o : Option Instruction). Room (act program [] (metered_terms most) s x below o)) (sym (found_there program sound x ready))
        (done_room (prepared program [] (metered_terms most) (used_class program [] ready.at.instruction) s)
        (prepared_level program [] (metered_terms most) s (used_class program [] ready.at.instruction)) (prepared_pending program [] (metered_terms most) (used_class program [] ready.at.instruction) s)))

    pub act_room : (t : State) → step program [] (metered_terms most) s ≡ Went t → IsLess s.account.costs t.account.costs → HasRoom program input t
    act_room t went less = let answer : Room (Went t) = subst Room went step_room in omega (arith, answer, less.throw)

-- ---- a payment

pub pay_room : (program : Program) (most : Thresholds) (input : List ℕ) (s : State) (x : Frame Declared) (below : List (Frame Declared)) (i : Instruction) (account : Account)
    → s.frames ≡ x ∷ below → x.paid ≡ false → instruction_at program x ≡ Some i → charge_all most (amounts program [] s) s.account ≡ Fine account
    → HasRoom program input s → HasRoom program input (record s { account = account; frames = with_paid s.frames })
pay_room program most input s x below i account frames unpaid at fine room =
    let adds = payment_adds program most s x below i account frames at fine in
    let before : arrived program (x ∷ below) ≡ one_if (starts_handler (code_of program x.method) x.number) = rw unpaid refl in
    let owed : own_bytes program (record x { paid = true }) (instruction_at program x) ≡ alloc_of (pays program [] i x.operands) = rw at refl in
    omega (
      arith,
      room,
      adds.1,
      adds.2,
      before,
      owed,
      unpaid_bytes program x (instruction_at program x) unpaid,
      ap (pending_bytes program) frames,
      ap (arrived program) frames,
      ap (λ (fs : List (Frame Declared)). pending_bytes program (with_paid fs)) frames,
      ap (λ (fs : List (Frame Declared)). arrived program (with_paid fs)) frames,
    )
