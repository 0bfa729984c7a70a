-- What a step of the pass answers, from what its parts answer.
use Rattle.std.proofs.Common.{◌≡◌, ℕ, suc, ◌+◌, ◌<◌, ◌≤◌, Bool, true, false, List, [], ◌∷◌, ◌++◌, length, length-append, get_or, Option, Some, None, slice_get, nat_le, refl, sym, ap, subst, ◌∙◌, inl, inr, Decides, arith}
use Rattle.std.proofs.lemmas.Bool.Decides.{nat_tests}
use Rattle.dj_names.specs.declared.descriptor.Kind.{Kind}
use Rattle.dj_ops.specs.declared.instruction.Instr.{Instr}
use Rattle.dj_labels.specs.declared.labelled.Protected.{Protected}
use Rattle.dj_program.specs.trusted.Naming.{instruction_in}
use Rattle.dj_model.specs.trusted.Instructions.{Instruction, Other}
use Rattle.dj_model.specs.trusted.Linking.{or_else}
use Rattle.dj_model.specs.trusted.Program.{Code}
use Rattle.dj_model.specs.trusted.Kinds.{Kinds, Signature, depth, placed_at}
use Rattle.dj_model.specs.trusted.Shape.{after, first_kinds, state_before, HoldsAt}
use Rattle.dj_shape_rule.specs.declared.pass.Method.{Method}
use Rattle.dj_shape_rule.specs.declared.pass.Pass.{Pass}
use Rattle.dj_shape_rule.specs.Standing.{Standing, HasRoomOf, SameRoom, IsNoted, standing_in}
use Rattle.dj_shape_rule.specs.Reported.{Reported, reported_at, reported_kinds, IsReportedAs}
use Rattle.dj_shape_rule.specs.Flows.{Flows, FlowsTo}
use Rattle.dj_shape_rule.specs.Passing.{IsRun, HasHandlerFrame, IsFirstUnhandled, Case, IsCase, Before, HeldBut, AllHeldBut, arriving, kept, Flowing, Leaving, MeetsFrame, Answers}
use Rattle.dj_shape_rule.proofs.Lists.{get_before, get_last, order}
use Rattle.dj_shape_rule.proofs.Steps.{state_is, no_state, holds, has_begins, has_handles, has_flowing, arrives}

is_kept : (going : Bool) (k : Kinds) (x : Kinds) → Some x ≡ kept going k → x ≡ k
is_kept true k x e = cc
is_kept false k x e = absurd cc

-- what a frame declares stands where there is room for it
reported_stands : (s : Standing) (code : Code) (reported : Reported) → HasRoomOf s code → length reported.locals ≤ code.max_locals → depth reported.stack ≤ code.max_stack
    → standing_in s reported.locals reported.stack ≡ Some (reported_kinds code.max_locals reported)
reported_stands s code reported room locals stack =
    let a : nat_le (length reported.locals) s.max_locals ≡ true = (let r = room.1 in grind (arith, nat_tests)) in
    let b : nat_le (depth reported.stack) s.max_stack ≡ true = (let r = room.0 in grind (arith, nat_tests)) in
    rw (a, b) (ap (λ (n : ℕ). Some (reported_kinds n reported)) room.1)

run_so : (signature : Signature) (code : Code) (i : Instruction) (k left : Kinds) → after signature code i k ≡ Some left → IsRun i
unfolding after
run_so signature code (Other op named) k left found = absurd cc
run_so signature code i k left found = tt

module _ (method : Method) (c : Case) (is : IsCase method c) (number : ℕ) (instr : Instr) (at : slice_get method.code.now number ≡ Some instr) where
  abbrev State : Option Kinds
  State = state_before c.signature c.code c.placed number

  abbrev Good : Type 0
  Good = HoldsAt c.signature c.code c.placed number

  state_with : (p : Option Kinds) (k : Option Kinds) → placed_at c.placed number ≡ p → arriving c number ≡ k → State ≡ or_else p k
  state_with p k e f = state_is c number ∙ ap (λ (x : Option Kinds). or_else x (arriving c number)) e ∙ ap (λ (x : Option Kinds). or_else p x) f

  first_so : (pass : Pass) → Before method c number pass → number ≡ 0 → first_kinds c.signature c.code ≡ pass.state.kinds
  first_so pass before e = is_kept pass.going pass.state.kinds (first_kinds c.signature c.code) (subst (λ (n : ℕ). arriving c n ≡ kept pass.going pass.state.kinds) e before.arrives)

  -- ---- the frame

  frame_fails_at : (reported : Option Reported) (p q : Pass) → reported_at method.frames number ≡ reported → IsReportedAs c.code.max_stack c.code.max_locals reported (placed_at c.placed number)
      → MeetsFrame false reported number p q → Before method c number p → Good → ⊥
  frame_fails_at None p q e reported fails before h =
      let none : State ≡ None = state_with None None reported (before.arrives ∙ ap (λ (b : Bool). kept b p.state.kinds) fails) in
      no_state method c is number instr at none h
  frame_fails_at (Some t) p q e reported (inl unfit) before h =
      let s = sym unfit ∙ reported_stands p.state c.code t before.room reported.1 reported.2 in
      absurd cc
  frame_fails_at (Some t) p q e reported (inr first) before h =
      let zero_at : reported_at method.frames 0 ≡ Some t = subst (λ (n : ℕ). reported_at method.frames n ≡ Some t) first.0 e in
      let flow : FlowsTo (first_kinds c.signature c.code) (Some t) = subst (FlowsTo (first_kinds c.signature c.code)) zero_at (has_begins method c is number instr at h first.0) in
      first.1 (subst (λ (k : Kinds). Flows k t) (first_so p before first.0) flow)

  pub frame_fails : (p q : Pass) → MeetsFrame false (reported_at method.frames number) number p q → Before method c number p → Good → ⊥
  frame_fails p q = frame_fails_at (reported_at method.frames number) p q refl (is.frames number)

  stands_at : (reported : Option Reported) (p q : Pass) → reported_at method.frames number ≡ reported → IsReportedAs c.code.max_stack c.code.max_locals reported (placed_at c.placed number)
      → MeetsFrame true reported number p q → Before method c number p
      → (State ≡ Some q.state.kinds) × (number ≡ 0 → FlowsTo (first_kinds c.signature c.code) (reported_at method.frames 0))
  stands_at None p q e reported stands before = (
    state_with None (Some q.state.kinds) reported (before.arrives ∙ ap (λ (b : Bool). kept b p.state.kinds) stands.0 ∙ ap (λ (k : Kinds). Some k) (sym stands.1)),
    λ zero_so. subst (FlowsTo (first_kinds c.signature c.code)) (sym (subst (λ (n : ℕ). reported_at method.frames n ≡ None) zero_so e)) tt,
  )
  stands_at (Some t) p q e reported stands before = (
    (let s : Some (reported_kinds c.code.max_locals t) ≡ Some q.state.kinds = sym (reported_stands p.state c.code t before.room reported.1 reported.2) ∙ stands.0 in
        state_with (Some (reported_kinds c.code.max_locals t)) (arriving c number) reported.0 refl ∙ s),
    λ zero_so. subst (FlowsTo (first_kinds c.signature c.code)) (sym (subst (λ (n : ℕ). reported_at method.frames n ≡ Some t) zero_so e))
        (subst (λ (k : Kinds). Flows k t) (sym (first_so p before zero_so)) (stands.1 zero_so)),
  )

  pub frame_stands : (p q : Pass) → MeetsFrame true (reported_at method.frames number) number p q → Before method c number p
      → (State ≡ Some q.state.kinds) × (number ≡ 0 → FlowsTo (first_kinds c.signature c.code) (reported_at method.frames 0))
  frame_stands p q = stands_at (reported_at method.frames number) p q refl (is.frames number)

  -- ---- handlers

  pub unhandled : (p : Pass) → Before method c number p → method.unhandled ≡ Some number → Good → ⊥
  unhandled p before e h =
      let first = subst (IsFirstUnhandled method.frames method.rows.now) e before.unhandled in
      let none = first.0 in
      none.4 (has_handles method c is number instr at h none.0 none.1 none.2 none.3)

  handles_at : (least : Option ℕ) → method.unhandled ≡ least → IsFirstUnhandled method.frames method.rows.now least → ((n : ℕ) → least ≡ Some n → number ≤ n)
      → (least ≡ Some number → ⊥) → (k : ℕ) (row : Protected) → slice_get method.rows.now k ≡ Some row → row.handler ≡ number → HasHandlerFrame method.frames number
  handles_at None e first later differs k row there own = subst (HasHandlerFrame method.frames) own (first k row there)
  handles_at (Some least) e first later differs k row there own =
      let most : number ≤ least = later least refl in
      let other : number ≡ least → ⊥ = λ s. differs (ap (λ (n : ℕ). Some n) (sym s)) in
      subst (HasHandlerFrame method.frames) own (first.1 k row there (omega arith))

  -- ---- what was so far

  pub held_more : (states more : List (List (Option Kind))) (locals : List (Option Kind)) (other : ℕ) → more ≡ states ++ locals ∷ [] → other < length states → HeldBut method c states other → HeldBut method c more other
  held_more states more locals other e within held = record {
    before = held.before;
    state = held.state;
    kept = ap (λ (l : List (List (Option Kind))). get_or l other []) e ∙ get_before states locals other within ∙ held.kept;
    holds = held.holds;
  }

  held_of : (p : Pass) (states : List (List (Option Kind))) → Before method c number p → states ≡ p.state.states → AllHeldBut method c number states
  held_of p states before e = record {
    many = let m = before.many in omega (arith, m, ap length e);
    each = λ other less. subst (λ (l : List (List (Option Kind))). HeldBut method c l other) (sym e) (before.held other less);
  }

  noted_of : (p : Pass) (states : List (List (Option Kind))) (locals : List (Option Kind)) → Before method c number p → states ≡ p.state.states ++ locals ∷ [] → AllHeldBut method c number states
  noted_of p states locals before e =
      let m = before.many in
      record {
        many = omega (arith, m, ap length e, length-append p.state.states (locals ∷ []));
        each = λ other less. held_more p.state.states states locals other e (omega (arith, m, less)) (before.held other less);
      }

  -- a step that fails before the local variables are kept, or after that
  pub fails_early : (p q : Pass) → Before method c number p → SameRoom p.state q.state → (Good → ⊥) → Answers false method c number q
  fails_early p q before room fails = (fails, held_of p q.state.states before room.3)

  pub fails_late : (p q t : Pass) (r s : Standing) → Before method c number p → SameRoom p.state q.state → IsNoted q.state r → SameRoom r s → t.state ≡ s → (Good → ⊥) → Answers false method c number t
  fails_late p q t r s before room_q noted room_s last fails =
      (fails, noted_of p t.state.states q.state.kinds.locals before (ap (λ (x : Standing). x.states) last ∙ room_s.3 ∙ noted.states ∙ ap (λ (l : List (List (Option Kind))). l ++ q.state.kinds.locals ∷ []) room_q.3))

  pub step_answers : (p q t : Pass) (r s : Standing) (flows : Bool) → Before method c number p → MeetsFrame true (reported_at method.frames number) number p q → SameRoom p.state q.state
      → (method.unhandled ≡ Some number → ⊥) → IsNoted q.state r → after c.signature c.code (instruction_in c.pool instr) r.kinds ≡ Some s.kinds → SameRoom r s → t.state ≡ s
      → Leaving method number t.state.kinds t.going (instruction_in c.pool instr) flows → Answers flows method c number t
  step_answers p q t r s flows before stands room_q unhandled_so noted found room_s last leaving = by flows (leaving.decides run) where
    frame : (State ≡ Some q.state.kinds) × (number ≡ 0 → FlowsTo (first_kinds c.signature c.code) (reported_at method.frames 0))
    frame = frame_stands p q stands before

    found_t : after c.signature c.code (instruction_in c.pool instr) q.state.kinds ≡ Some t.state.kinds
    found_t = ap (after c.signature c.code (instruction_in c.pool instr)) (sym noted.kinds) ∙ found ∙ ap (λ (x : Standing). Some x.kinds) (sym last)

    run : IsRun (instruction_in c.pool instr)
    run = run_so c.signature c.code (instruction_in c.pool instr) q.state.kinds t.state.kinds found_t

    handles : (k : ℕ) (row : Protected) → slice_get method.rows.now k ≡ Some row → row.handler ≡ number → HasHandlerFrame method.frames number
    handles = handles_at method.unhandled refl before.unhandled before.later unhandled_so

    states_are : t.state.states ≡ p.state.states ++ q.state.kinds.locals ∷ []
    states_are = ap (λ (x : Standing). x.states) last ∙ room_s.3 ∙ noted.states ∙ ap (λ (l : List (List (Option Kind))). l ++ q.state.kinds.locals ∷ []) room_q.3

    held_at : Flowing method number t.state.kinds (instruction_in c.pool instr) → HeldBut method c t.state.states number
    held_at flowing = record {
      before = q.state.kinds;
      state = frame.0;
      kept = subst (λ (n : ℕ). get_or t.state.states n [] ≡ q.state.kinds.locals) before.many
          (ap (λ (l : List (List (Option Kind))). get_or l (length p.state.states) []) states_are ∙ get_last p.state.states q.state.kinds.locals);
      holds = λ handled. holds method c is number instr at q.state.kinds t.state.kinds frame.0 found_t frame.1 handles handled flowing;
    }

    held_next : Flowing method number t.state.kinds (instruction_in c.pool instr) → (other : ℕ) → other < suc number → HeldBut method c t.state.states other
    held_next flowing other less = elim (order other number) [
      | inl below ↦ held_more p.state.states t.state.states q.state.kinds.locals other states_are (let m = before.many in omega (arith, m, below)) (before.held other below)
      | inr past ↦ let same : number ≡ other = omega (arith, less, past) in subst (HeldBut method c t.state.states) same (held_at flowing)
    ]

    next : Flowing method number t.state.kinds (instruction_in c.pool instr) → Before method c (suc number) t
    next flowing = record {
      room = (
        ap (λ (x : Standing). x.max_stack) last ∙ room_s.0 ∙ noted.max_stack ∙ room_q.0 ∙ before.room.0,
        ap (λ (x : Standing). x.max_locals) last ∙ room_s.1 ∙ noted.max_locals ∙ room_q.1 ∙ before.room.1,
      );
      arrives = arrives method c is number instr at q.state.kinds t.state.kinds frame.0 found_t ∙ ap (λ (b : Bool). kept b t.state.kinds) (sym leaving.goes);
      unhandled = before.unhandled;
      later = λ least e.
          let most : number ≤ least = before.later least e in
          let other : number ≡ least → ⊥ = λ x. unhandled_so (e ∙ ap (λ (n : ℕ). Some n) (sym x)) in
          omega arith;
      many = let m = before.many in omega (arith, m, ap length states_are, length-append p.state.states (q.state.kinds.locals ∷ []));
      held = held_next flowing;
    }

    by : (b : Bool) → Decides b (Flowing method number t.state.kinds (instruction_in c.pool instr)) → Answers b method c number t
    by true d = next (d.0 refl)
    by false d = fails_late p q t r s before room_q noted room_s last
        (λ h. let yes = d.1 (has_flowing method c is number instr at q.state.kinds t.state.kinds frame.0 found_t h) in absurd cc)

  pub room_at : (p q : Pass) (r : Standing) → Before method c number p → SameRoom p.state q.state → IsNoted q.state r → HasRoomOf r c.code
  room_at p q r before room_q noted = (noted.max_stack ∙ room_q.0 ∙ before.room.0, noted.max_locals ∙ room_q.1 ∙ before.room.1)

  pub state_at : (p q : Pass) (r : Standing) → MeetsFrame true (reported_at method.frames number) number p q → Before method c number p → IsNoted q.state r → State ≡ Some r.kinds
  state_at p q r stands before noted = (frame_stands p q stands before).0 ∙ ap (λ (k : Kinds). Some k) (sym noted.kinds)
