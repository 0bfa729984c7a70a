-- The next instruction of frames that stand: it finds its kinds, it is linked, it has an effect that keeps them, and what that leaves has room.
use Rattle.std.proofs.Common.{◌≡◌, ℕ, ◌+◌, ◌≤◌, Bool, true, false, List, [], ◌∷◌, length, map, Option, Some, None, nat_le, nat_lt, refl, sym, ap, subst, ◌∙◌, inl, inr, arith, IsTrue, IsFalse, if◌then◌else◌}
use Rattle.std.specs.Prelude.{⊤, ◌<◌, ◌⊎◌}
use Rattle.std.proofs.lemmas.Bool.Decides.{nat_tests}
use Rattle.std.proofs.lemmas.Option.{same_Some}
use Rattle.dj_names.specs.declared.descriptor.Desc.{Desc}
use Rattle.dj_names.specs.declared.descriptor.Kind.{Kind}
use Rattle.dj_names.specs.declared.descriptor.Kind.TheVariants as kinds
use Rattle.dj_names.specs.declared.run.Value.{Value}
use Rattle.dj_names.specs.trusted.Values.{value_kind}
use Rattle.dj_names.specs.trusted.Types.{Name, field_kind}
use Rattle.dj_model.specs.trusted.Types.{Declared}
use Rattle.dj_model.specs.trusted.Instructions.{Instruction, Nop, Push, PushText, Load, Store, Increment, LoadElement, StoreElement, Move, Compute, Convert, Branch, Goto, Switch, Return, GetStatic, PutStatic, GetField, PutField, Invoke, New, NewArray, ArrayLength, Throw, CheckCast, InstanceOf, Monitor, Other, ends, targets}
use Rattle.dj_model.specs.Instructions.{calls}
use Rattle.dj_model.specs.trusted.Arrays.{access_kind}
use Rattle.dj_model.specs.trusted.Numbers.{is_wide, left_kind, right_kind, given_kind, taken_kind, converted_kind, tested_kinds}
use Rattle.dj_model.specs.trusted.Values.{last_slot, moved, stored}
use Rattle.dj_model.specs.trusted.Program.{Program, Code, code_of, is_static}
use Rattle.dj_model.specs.trusted.State.{Terms, Frame, Part, Effect, Next, To, Raise, Back, Flow, Goes, Catch, Stop, Call, End, instruction_in, instruction_at}
use Rattle.dj_model.specs.trusted.Kinds.{Signature, Kinds, call_signature, kind_slots, depth, signature_of}
use Rattle.dj_model.specs.trusted.Effects as effects
use Rattle.dj_model.specs.trusted.Shape.{after, call_kinds, counts, get_kind, is_static_mode, leaving, put_kind, result_list, store_kind, taken, with_result}
use Rattle.dj_model.specs.Sound.{IsSound, is_linked}
use Rattle.dj_model.specs.Standing.{AreStanding, HasKinds, HasSoundEffect, IsAmong, IsAt, IsSoundFlow, IsStarved, LocalsHave, result_of}
use Rattle.dj_model.proofs.MappedNames.{either}
use Rattle.dj_model.proofs.Standing.{some_if}
use Rattle.dj_model.proofs.SoundCalls.{kinds_kept}
use Rattle.dj_model.proofs.SoundFrames.{all_at, code_is, contained, is_held, left_there, method_is}
use Rattle.dj_stack.specs.Frames.{StackFrame, top_locals, top_method, top_number, top_operands, top_room}
use Rattle.dj_image.specs.Imaged.{Imaged, program_of}
use Rattle.dj_current_method.specs.Activations.{AreActivations, IsActivation, declared_at, frame_seen, frames_seen}
use Rattle.dj_current_method.proofs.Calls.{result_is}
use Rattle.dj_current_method.proofs.Standing.{code_of_activation}
use Rattle.dj_unwinding.specs.Short.{AreShort, IsShort}
use Rattle.dj_image_step.specs.Memory.{makes}
use Rattle.dj_image_step.specs.Doing.{next_of}
use Rattle.dj_image_step.proofs.SoundFlows.{next_within, target_within}
use Rattle.dj_image_step.proofs.Turned.{starves}

-- ---- what an instruction leaves fits

abbrev pub Fits : Code → Kinds → Type 0
Fits code k = depth k.stack ≤ code.max_stack

leaving_fits : (code : Code) (locals : List (Option Kind)) (stack : Option (List Kind)) (left : Kinds) → leaving code locals stack ≡ Some left → Fits code left
leaving_fits code locals None left e = absurd cc
leaving_fits code locals (Some stack) left e =
    let p = some_if (nat_le (depth stack) code.max_stack) (Some (record { locals = locals; stack = stack })) left e in
    let some : Some (record { locals = locals; stack = stack }) ≡ Some left = p.1 in
    let same : record { locals = locals; stack = stack } ≡ left = cc in
    let le : depth stack ≤ code.max_stack = grind (arith, nat_tests, p.0) in
    subst (Fits code) same le

module _ (code : Code) (k : Kinds) where
  gives_fits : (wanted : List Kind) (result : Option Kind) (left : Kinds) → leaving code k.locals (with_result result (taken wanted k.stack)) ≡ Some left → Fits code left
  gives_fits wanted result left e = leaving_fits code k.locals (with_result result (taken wanted k.stack)) left e

  store_fits : (kind : Kind) (slot : ℕ) (o : Option Kinds) (left : Kinds) → ((before : Kinds) → o ≡ Some before → Fits code before) → store_kind code kind slot o ≡ Some left → Fits code left
  store_fits kind slot None left fits e = absurd cc
  store_fits kind slot (Some before) left fits e =
      let p = some_if (nat_lt (last_slot (is_wide kind) slot) code.max_locals) (Some (record before { locals = stored is_wide before.locals slot kind })) left e in
      let some : Some (record before { locals = stored is_wide before.locals slot kind }) ≡ Some left = p.1 in
      let same : record before { locals = stored is_wide before.locals slot kind } ≡ left = cc in
      subst (Fits code) same (fits before refl)

  get_fits : (wanted : List Kind) (kind : Option Kind) (left : Kinds) → get_kind code k wanted kind ≡ Some left → Fits code left
  get_fits wanted None left e = absurd cc
  get_fits wanted (Some kind) left e = gives_fits wanted (Some kind) left e

  put_fits : (wanted : List Kind) (kind : Option Kind) (left : Kinds) → put_kind code k wanted kind ≡ Some left → Fits code left
  put_fits wanted None left e = absurd cc
  put_fits wanted (Some kind) left e = gives_fits (kind ∷ wanted) None left e

  call_fits : (signature : Option Signature) (left : Kinds) → call_kinds code k signature ≡ Some left → Fits code left
  call_fits None left e = absurd cc
  call_fits (Some s) left e = leaving_fits code k.locals _ left e

  pub after_fits : (signature : Signature) (i : Instruction) (left : Kinds) → after signature code i k ≡ Some left → Fits code left
  unfolding after
  after_fits signature Nop left e = gives_fits [] None left e
  after_fits signature (Push v) left e = gives_fits [] (Some (value_kind v)) left e
  after_fits signature (PushText units) left e = gives_fits [] (Some kinds.Ref) left e
  after_fits signature (Load kind slot) left e = gives_fits [] (Some kind) left (some_if _ _ left e).1
  after_fits signature (Store kind slot) left e = store_fits kind slot _ left (λ before is. gives_fits (kind ∷ []) None before is) e
  after_fits signature (Increment slot by) left e = gives_fits [] None left (some_if _ _ left e).1
  after_fits signature (LoadElement access) left e = gives_fits (kinds.Int ∷ kinds.Ref ∷ []) (Some (access_kind access)) left e
  after_fits signature (StoreElement access) left e = gives_fits (access_kind access ∷ kinds.Int ∷ kinds.Ref ∷ []) None left e
  after_fits signature (Move operation) left e = leaving_fits code k.locals (moved is_wide operation k.stack) left e
  after_fits signature (Compute operation) left e = gives_fits (right_kind operation ∷ left_kind operation ∷ []) (Some (given_kind operation)) left e
  after_fits signature (Convert operation) left e = gives_fits (taken_kind operation ∷ []) (Some (converted_kind operation)) left e
  after_fits signature (Branch test target) left e = gives_fits (tested_kinds test) None left e
  after_fits signature (Goto target) left e = gives_fits [] None left e
  after_fits signature (Switch pairs default) left e = gives_fits (kinds.Int ∷ []) None left e
  after_fits signature (Return kind) left e = gives_fits (result_list kind) None left (some_if _ _ left e).1
  after_fits signature (GetStatic m) left e = get_fits [] (field_kind m.desc) left e
  after_fits signature (PutStatic m) left e = put_fits [] (field_kind m.desc) left e
  after_fits signature (GetField m) left e = get_fits (kinds.Ref ∷ []) (field_kind m.desc) left e
  after_fits signature (PutField m) left e = put_fits (kinds.Ref ∷ []) (field_kind m.desc) left e
  after_fits signature (Invoke mode m) left e = call_fits (signature_of (is_static_mode mode) m.desc) left (some_if (counts mode m.desc) _ left e).1
  after_fits signature (New class) left e = gives_fits [] (Some kinds.Ref) left e
  after_fits signature (NewArray class element) left e = gives_fits (kinds.Int ∷ []) (Some kinds.Ref) left e
  after_fits signature ArrayLength left e = gives_fits (kinds.Ref ∷ []) (Some kinds.Int) left e
  after_fits signature Throw left e = gives_fits (kinds.Ref ∷ []) None left e
  after_fits signature (CheckCast class) left e = gives_fits (kinds.Ref ∷ []) (Some kinds.Ref) left e
  after_fits signature (InstanceOf class) left e = gives_fits (kinds.Ref ∷ []) (Some kinds.Int) left e
  after_fits signature Monitor left e = gives_fits (kinds.Ref ∷ []) None left e
  after_fits signature (Other op named) left e = absurd cc

-- ---- this many operands have room

one_slot : (kind : Kind) → 1 ≤ kind_slots kind
one_slot kind = elim (either (is_wide kind)) [ inl e ↦ rw e (omega arith) | inr e ↦ rw e (omega arith) ]

shallow : (operands : List Value) → length operands ≤ depth (map value_kind operands)
shallow [] = omega arith
shallow (v ∷ operands) =
    let rest = shallow operands in
    let slots = one_slot (value_kind v) in
    omega (arith, rest, slots)

-- kinds of values that fit leave room for them, a long as two
kinds_depth : (operands : List Value) (code : Code) (left : Kinds) (room : ℕ) → map value_kind operands ≡ left.stack → Fits code left → room ≡ code.max_stack
    → depth (map value_kind operands) ≤ room
kinds_depth operands code left room is fits most =
    let deep : depth (map value_kind operands) ≡ depth left.stack = ap depth is in
    omega (arith, deep, fits, most)

pub depth_room : (operands : List Value) (room : ℕ) → depth (map value_kind operands) ≤ room → length operands ≤ room
depth_room operands room fits = let few = shallow operands in omega (arith, few, fits)

-- what is left where the run goes on in the frame; a long counts as two operands
abbrev pub HasRoomLeft : ℕ → Part → Flow → Type 0
HasRoomLeft room p (Goes Next) = depth (map value_kind p.operands) ≤ room
HasRoomLeft room p (Goes (To number)) = depth (map value_kind p.operands) ≤ room
HasRoomLeft room p flow = ⊤

flow_room : (program : Program) (signature : Signature) (code : Code) (i : Instruction) (before left : Kinds) (room : ℕ) (p : Part) (flow : Flow) → Fits code left → room ≡ code.max_stack
    → IsSoundFlow program signature code i before left p flow → HasRoomLeft room p flow
flow_room program signature code i before left room p (Goes Next) fits most is = kinds_depth p.operands code left room is.0.kinds.operands fits most
flow_room program signature code i before left room p (Goes (To number)) fits most is = kinds_depth p.operands code left room is.0.kinds.operands fits most
flow_room program signature code i before left room p (Goes (Raise raised)) fits most is = tt
flow_room program signature code i before left room p (Goes (Back result)) fits most is = tt
flow_room program signature code i before left room p (Catch exception) fits most is = tt
flow_room program signature code i before left room p Stop fits most is = tt
flow_room program signature code i before left room p (Call m arguments) fits most is = tt
flow_room program signature code i before left room p (End outcome) fits most is = tt

-- ---- code of a frame

-- the code at which a frame stands is that of its method
pub code_at_frame : (imaged : Imaged) → IsSound (program_of imaged) imaged.prefix → (f : StackFrame) (act : IsActivation imaged f) (at : IsAt (program_of imaged) (frame_seen (program_of imaged) f))
    → act.code ≡ at.code
code_at_frame imaged is f act at =
    same_Some act.code at.code (sym (code_of_activation imaged is.formed f act) ∙ code_is (program_of imaged) (declared_at (program_of imaged) f.method) at.method at.code at.there at.body)

pub short_at_frame : (imaged : Imaged) → IsSound (program_of imaged) imaged.prefix → AreShort imaged → (f : StackFrame) → IsActivation imaged f
    → (at : IsAt (program_of imaged) (frame_seen (program_of imaged) f)) → IsShort at.code
short_at_frame imaged is short f act at = subst IsShort (code_at_frame imaged is f act at) (short f.method act.found act.code act.there act.runs)

-- ---- the next instruction

-- kinds that the top frame has before the instruction, and those that are left after it
pub record IsSoundNext (imaged : Imaged) (frames : List StackFrame) (i : Instruction) : Type 0 where
  pub signature : Signature
  pub code : Code
  pub before : Kinds
  pub left : Kinds
  pub kinds : HasKinds (top_locals frames) (top_operands frames) before
  pub locals : length (top_locals frames) ≡ code.max_locals
  pub reported : after signature code i before ≡ Some left
  pub fits : Fits code left
  pub linked : IsTrue (is_linked (program_of imaged) imaged.prefix i)
  pub room : top_room frames ≡ code.max_stack
  -- the kind of the method's result
  pub result : result_of (call_signature (declared_at (program_of imaged) (top_method frames)).desc) ≡ signature.result
  -- where the run may go on
  pub goes_on : IsFalse (ends i) → top_number frames + 1 < length code.instructions
  pub jumps : (n : ℕ) → IsAmong (targets i) n → n < length code.instructions
  pub short : AreShort imaged → IsShort code

-- the next instruction of frames that stand is such
pub sound_next : (imaged : Imaged) → IsSound (program_of imaged) imaged.prefix → (frames : List StackFrame) (i : Instruction) → AreActivations imaged frames
    → AreStanding (program_of imaged) (frames_seen (program_of imaged) frames) → next_of imaged (frames_seen (program_of imaged) frames) ≡ Some i → IsSoundNext imaged frames i
sound_next imaged is [] i stand standing next = absurd standing
sound_next imaged is (f ∷ below) i stand standing next =
    let P : Program = program_of imaged in
    let F : Frame Declared = frame_seen P f in
    let at = standing.0.at in
    let reported : code_of P F.method ≡ Some at.code = code_is P F.method at.method at.code at.there at.body in
    let own : instruction_at P F ≡ Some at.instruction = subst (λ (c : Option Code). instruction_in c f.number ≡ Some at.instruction) (sym reported) at.at in
    let same : at.instruction ≡ i = same_Some at.instruction i (sym own ∙ next) in
    let left = left_there P imaged.prefix is F at in
    let found : after at.signature at.code i at.before ≡ Some left.0 = subst (λ (j : Instruction). after at.signature at.code j at.before ≡ Some left.0) same left.1 in
    let linked : IsTrue (is_linked P imaged.prefix at.instruction) =
    all_at (is_linked P imaged.prefix) at.code.instructions at.instruction (is_held P imaged.prefix is F at).linked (contained at.code.instructions f.number at.instruction at.at) in
    let act = stand.0 in
    record {
      signature = at.signature;
      code = at.code;
      before = at.before;
      left = left.0;
      kinds = record { locals = at.locals; operands = standing.0.operands };
      locals = at.room;
      reported = found;
      fits = after_fits at.code at.before at.signature i left.0 found;
      linked = subst (λ (j : Instruction). IsTrue (is_linked P imaged.prefix j)) same linked;
      room = act.room ∙ ap (λ (c : Code). c.max_stack) (code_at_frame imaged is f act at);
      result = ap (λ (d : Desc). result_of (call_signature d)) (sym (method_is P F.method at.method at.there).desc) ∙ result_is (is_static at.method.flags) at.method.desc at.signature at.described;
      goes_on = subst (λ (j : Instruction). IsFalse (ends j) → f.number + 1 < length at.code.instructions) same (next_within P imaged.prefix is F at);
      jumps = subst (λ (j : Instruction). (n : ℕ) → IsAmong (targets j) n → n < length at.code.instructions) same (target_within P imaged.prefix is F at);
      short = λ short. short_at_frame imaged is short f act at;
    }

-- ---- its effect

-- what makes nothing calls nothing
pub makes_no_call : (i : Instruction) → IsFalse (makes i) → IsFalse (calls i)
makes_no_call (Invoke mode m) e = absurd cc
makes_no_call _ e = refl

-- what it does where these are its operands, and that what is left has room
pub record DoesSoundly (imaged : Imaged) (frames : List StackFrame) (i : Instruction) (next : IsSoundNext imaged frames i) (terms : Terms) (own : Name) (p : Part) : Type 0 where
  pub effect : HasSoundEffect (program_of imaged) imaged.prefix terms own next.signature next.code i next.before next.left p
  pub room : HasRoomLeft (top_room frames) effect.does.part effect.does.flow

module _ (imaged : Imaged) (is : IsSound (program_of imaged) imaged.prefix) (frames : List StackFrame) (i : Instruction) (next : IsSoundNext imaged frames i) (terms : Terms) (own : Name) (p : Part)
    (locals : p.locals ≡ top_locals frames) (operands : p.operands ≡ top_operands frames) where
  abbrev P : Program
  P = program_of imaged

  kept : HasSoundEffect P imaged.prefix terms own next.signature next.code i next.before next.left p ⊎ IsStarved P imaged.prefix terms own i p
  kept =
      kinds_kept P imaged.prefix terms own next.signature next.code i next.before next.left p is next.linked
      (record {
        locals = subst (λ (vs : List (Option Value)). LocalsHave vs next.before.locals) (sym locals) next.kinds.locals;
        operands = ap (map value_kind) operands ∙ next.kinds.operands;
      }) (ap length locals ∙ next.locals) next.reported

  not_both : (b : Bool) → IsTrue b → IsFalse b → ⊥
  not_both true t f = absurd cc
  not_both false t f = absurd cc

  pub does_soundly : IsFalse (calls i) → DoesSoundly imaged frames i next terms own p
  does_soundly plain = elim kept [
    | inl effect ↦ record {
      effect = effect;
      room = flow_room P next.signature next.code i next.before next.left (top_room frames) effect.does.part effect.does.flow next.fits next.room effect.sound;
    }
    | inr starved ↦ absurd (not_both (calls i) starved.calls plain)
  ]

  -- where there is an effect it is sound
  pub sound_reported : (e : Effect) → effects.effect P imaged.prefix terms own i p ≡ Some e → IsSoundFlow P next.signature next.code i next.before next.left e.part e.flow
  sound_reported e has = elim kept [
    | inl sound ↦ subst (λ (d : Effect). IsSoundFlow P next.signature next.code i next.before next.left d.part d.flow) (same_Some sound.does e (sym sound.has ∙ has)) sound.sound
    | inr starved ↦ absurd (let none : None ≡ Some e =
        sym (starved.does p.answers ∙ starves P imaged.prefix terms (record p { operands = starved.rest; answers = p.answers }) starved.id starved.arguments starved.question starved.asks starved.unanswered)
        ∙ has in cc)
  ]
