-- One instruction after the other: what holds, and what stands before the next one.
use Rattle.std.proofs.Common.{◌≡◌, ℕ, zero, suc, ◌<◌, Bool, true, false, not, ◌||◌, IsTrue, List, length, Option, Some, None, slice_get, nat_eq, nat_lt, if◌then◌else◌, refl, sym, ap, subst, ◌∙◌, inl, inr, arith}
use Rattle.std.specs.List.{list_all}
use Rattle.std.proofs.lemmas.Bool.Decides.{nat_tests, eqb_tells}
use Rattle.std.proofs.lemmas.Option.{slice_get-map}
use Rattle.std.proofs.lemmas.List.{length-map}
use Rattle.std.specs.Option.{option_map}
use Rattle.dj_ops.specs.declared.instruction.Instr.{Instr}
use Rattle.dj_labels.specs.declared.labelled.Protected.{Protected}
use Rattle.dj_program.specs.trusted.Naming.{instruction_in}
use Rattle.dj_model.specs.trusted.Program.{Range}
use Rattle.dj_model.specs.trusted.Instructions.{Instruction, ends, targets}
use Rattle.dj_model.specs.trusted.Linking.{or_else}
use Rattle.dj_model.specs.trusted.Kinds.{Kinds, placed_at}
use Rattle.dj_model.specs.trusted.Shape.{after, first_kinds, flows_to, is_handler_frame, locals_flow_to, covers, goes_on_with, state_before, HoldsAt}
use Rattle.dj_shape_rule.specs.declared.pass.Method.{Method}
use Rattle.dj_shape_rule.specs.Reported.{reported_at}
use Rattle.dj_shape_rule.specs.Flows.{FlowsTo}
use Rattle.dj_shape_rule.specs.Handlers.{Handled}
use Rattle.dj_shape_rule.specs.Passing.{HasHandlerFrame, Case, IsCase, arriving, kept, Flowing}
use Rattle.dj_shape_rule.proofs.Parts.{to_goes, from_goes, to_jumps, from_jumps, to_handles, from_handles, to_handled, from_handled, or_not, from_or_not, or_so, from_or}

-- ---- the state before an instruction

pub state_is : (c : Case) (number : ℕ) → state_before c.signature c.code c.placed number ≡ or_else (placed_at c.placed number) (arriving c number)
unfolding state_before
state_is c zero = refl
state_is c (suc number) = refl

-- ---- all parts together

module _ (method : Method) (c : Case) (is : IsCase method c) (number : ℕ) (instr : Instr) (at : slice_get method.code.now number ≡ Some instr) where
  abbrev i : Instruction
  i = instruction_in c.pool instr

  at_code : slice_get c.code.instructions number ≡ Some i
  at_code =
      ap (λ (l : List Instruction). slice_get l number) is.instructions ∙ slice_get-map (instruction_in c.pool) method.code.now number
      ∙ ap (option_map (instruction_in c.pool)) at

  count : length c.code.instructions ≡ length method.code.now
  count = ap length is.instructions ∙ length-map method.code.now (instruction_in c.pool)

  -- the one state, the one instruction
  pub same_before : (before : Kinds) → state_before c.signature c.code c.placed number ≡ Some before → (h : HoldsAt c.signature c.code c.placed number) → h.before ≡ before
  same_before before state h = let s : Some h.before ≡ Some before = sym h.state ∙ state in cc

  same_instruction : (h : HoldsAt c.signature c.code c.placed number) → h.instruction ≡ i
  same_instruction h = let s : Some h.instruction ≡ Some i = sym h.at ∙ at_code in cc

  pub not_found : (before : Kinds) → state_before c.signature c.code c.placed number ≡ Some before → after c.signature c.code i before ≡ None → HoldsAt c.signature c.code c.placed number → ⊥
  not_found before state none h =
      let found : after c.signature c.code i before ≡ Some h.left =
      subst (λ (k : Kinds). after c.signature c.code i k ≡ Some h.left) (same_before before state h)
      (subst (λ (x : Instruction). after c.signature c.code x h.before ≡ Some h.left) (same_instruction h) h.found) in
      absurd cc

  pub no_state : state_before c.signature c.code c.placed number ≡ None → HoldsAt c.signature c.code c.placed number → ⊥
  no_state none h = let s : None ≡ Some h.before = sym none ∙ h.state in absurd cc

  same_left : (before left : Kinds) → state_before c.signature c.code c.placed number ≡ Some before → after c.signature c.code i before ≡ Some left
      → (h : HoldsAt c.signature c.code c.placed number) → h.left ≡ left
  same_left before left state found h =
      let there : after c.signature c.code i before ≡ Some h.left =
      subst (λ (k : Kinds). after c.signature c.code i k ≡ Some h.left) (same_before before state h)
      (subst (λ (x : Instruction). after c.signature c.code x h.before ≡ Some h.left) (same_instruction h) h.found) in
      let s : Some h.left ≡ Some left = sym there ∙ found in
      cc

  abbrev Begins : Type 0
  Begins = number ≡ 0 → FlowsTo (first_kinds c.signature c.code) (reported_at method.frames 0)

  abbrev Handles : Type 0
  Handles = (k : ℕ) (row : Protected) → slice_get method.rows.now k ≡ Some row → row.handler ≡ number → HasHandlerFrame method.frames number

  pub holds : (before left : Kinds) → state_before c.signature c.code c.placed number ≡ Some before → after c.signature c.code i before ≡ Some left
      → Begins → Handles → Handled method.rows.now method.frames number before.locals → Flowing method number left i → HoldsAt c.signature c.code c.placed number
  holds before left state found begins handles handled flowing =
      record {
        before = before;
        left = left;
        instruction = i;
        state = state;
        at = at_code;
        found = found;
        last = or_so (ends i) (nat_lt (suc number) (length c.code.instructions)) (λ e.
            let within = (flowing.goes_on e).0 in let n = count in
            let less : suc number < length c.code.instructions = omega arith in grind (arith, nat_tests));
        begins = or_not (nat_eq number 0) (flows_to (first_kinds c.signature c.code) (placed_at c.placed 0)) (λ t.
            to_goes c.code.max_stack c.code.max_locals c.placed method.frames is.frames (first_kinds c.signature c.code) 0 (begins (zero_so t)));
        goes_on = or_so (ends i) (flows_to left (placed_at c.placed (suc number))) (λ e.
            to_goes c.code.max_stack c.code.max_locals c.placed method.frames is.frames left (suc number) (flowing.goes_on e).1);
        jumps = to_jumps c.code.max_stack c.code.max_locals c.placed method.frames is.frames left (targets i) flowing.jumps;
        handles = subst (λ (l : List Range). IsTrue (list_all (λ (range : Range). not (nat_eq number range.handler) || is_handler_frame (placed_at c.placed number)) l)) (sym is.ranges)
            (to_handles c.code.max_stack c.code.max_locals c.placed method.frames is.frames c.pool method.rows.now number handles);
        handled = subst (λ (l : List Range). IsTrue (list_all (λ (range : Range). not (covers range number) || locals_flow_to before (placed_at c.placed range.handler)) l)) (sym is.ranges)
            (to_handled c.code.max_stack c.code.max_locals c.placed method.frames is.frames c.pool method.rows.now number before handled);
      } where
        zero_so : IsTrue (nat_eq number 0) → number ≡ 0
        zero_so t = elim (eqb_tells number 0) [ inl e ↦ e.1 | inr e ↦ absurd cc ]

  pub has_begins : (h : HoldsAt c.signature c.code c.placed number) → Begins
  has_begins h e =
      from_goes c.code.max_stack c.code.max_locals c.placed method.frames is.frames (first_kinds c.signature c.code) 0
      (from_or_not (nat_eq number 0) (flows_to (first_kinds c.signature c.code) (placed_at c.placed 0)) h.begins (grind (arith, nat_tests)))

  pub has_handles : (h : HoldsAt c.signature c.code c.placed number) → Handles
  has_handles h =
      from_handles c.code.max_stack c.code.max_locals c.placed method.frames is.frames c.pool method.rows.now number
      (subst (λ (l : List Range). IsTrue (list_all (λ (range : Range). not (nat_eq number range.handler) || is_handler_frame (placed_at c.placed number)) l)) is.ranges h.handles)

  pub has_handled : (before : Kinds) → state_before c.signature c.code c.placed number ≡ Some before → HoldsAt c.signature c.code c.placed number
      → Handled method.rows.now method.frames number before.locals
  has_handled before state h =
      subst (λ (k : Kinds). Handled method.rows.now method.frames number k.locals) (same_before before state h)
      (from_handled c.code.max_stack c.code.max_locals c.placed method.frames is.frames c.pool method.rows.now number h.before
      (subst (λ (l : List Range). IsTrue (list_all (λ (range : Range). not (covers range number) || locals_flow_to h.before (placed_at c.placed range.handler)) l)) is.ranges h.handled))

  pub has_flowing : (before left : Kinds) → state_before c.signature c.code c.placed number ≡ Some before → after c.signature c.code i before ≡ Some left
      → HoldsAt c.signature c.code c.placed number → Flowing method number left i
  has_flowing before left state found h =
      subst (λ (k : Kinds). Flowing method number k i) (same_left before left state found h) (subst (λ (x : Instruction). Flowing method number h.left x) (same_instruction h) (record {
        jumps = from_jumps c.code.max_stack c.code.max_locals c.placed method.frames is.frames h.left (targets h.instruction) h.jumps;
        goes_on = λ e. (
          below (from_or (ends h.instruction) (nat_lt (suc number) (length c.code.instructions)) h.last e),
          from_goes c.code.max_stack c.code.max_locals c.placed method.frames is.frames h.left (suc number) (from_or (ends h.instruction) (flows_to h.left (placed_at c.placed (suc number))) h.goes_on e),
        );
      })) where
        below : IsTrue (nat_lt (suc number) (length c.code.instructions)) → suc number < length method.code.now
        below t = let n = count in let less : suc number < length c.code.instructions = grind (arith, nat_tests) in omega arith

  -- what arrives at the next instruction
  pub arrives : (before left : Kinds) → state_before c.signature c.code c.placed number ≡ Some before → after c.signature c.code i before ≡ Some left
      → arriving c (suc number) ≡ kept (not (ends i)) left
  arrives before left state found =
      ap (λ (k : Option Kinds). goes_on_with c.signature c.code k (slice_get c.code.instructions number)) state
      ∙ ap (λ (x : Option Instruction). goes_on_with c.signature c.code (Some before) x) at_code ∙ by (ends i) where
        by : (b : Bool) → (if b then None else after c.signature c.code i before) ≡ kept (not b) left
        by true = refl
        by false = found
