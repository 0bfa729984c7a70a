-- The object that stops a run leaves all frames of rewritten code, in at most two steps a frame.
use Rattle.std.proofs.Common.{◌≡◌, ℕ, suc, ◌+◌, ◌*◌, ◌<◌, ◌≤◌, ◌&&◌, ◌||◌, Bool, true, false, List, [], ◌∷◌, map, length, Option, Some, None, nat_eq, slice_get, refl, sym, ap, ◌∙◌, if◌then◌else◌, inl, inr, arith}
use Rattle.std.specs.List.{list_any}
use Rattle.std.specs.Option.{option_map}
use Rattle.std.proofs.lemmas.Option.{none-some}
use Rattle.std.proofs.lemmas.Bool.Decides.{nat_tests}
use Rattle.dj_names.specs.declared.descriptor.Ty.{Ty}
use Rattle.dj_names.specs.declared.run.Value.{Value}
use Rattle.dj_names.specs.declared.run.Value.TheVariants as values
use Rattle.dj_names.specs.declared.run.Charge.{Charge}
use Rattle.dj_names.specs.declared.run.Outcome.{Outcome}
use Rattle.dj_names.specs.declared.run.Outcome.TheVariants as outcomes
use Rattle.dj_names.specs.declared.run.Thresholds.{Thresholds}
use Rattle.dj_names.specs.trusted.Types.{Name, class_type}
use Rattle.dj_names.specs.trusted.Library.{stop_class}
use Rattle.dj_names.specs.Library.{accounter_class}
use Rattle.dj_names.specs.Types.{in_sandbox, sandbox_prefix}
use Rattle.dj_model.specs.trusted.Types.{Declared}
use Rattle.dj_model.specs.Types.{declared_map}
use Rattle.dj_model.specs.trusted.Instructions.{Instruction}
use Rattle.dj_model.specs.trusted.Program.{Program, Code, Range, code_of, is_initialiser}
use Rattle.dj_model.specs.trusted.Linking.{most_classes, chain_of, resolve_method, is_subtype, is_subclass}
use Rattle.dj_model.specs.trusted.State.{Part, Next, Goes, Catch, Frame, State, instruction_in, goes}
use Rattle.dj_model.specs.trusted.Values.{on_values, moved}
use Rattle.dj_model.specs.trusted.Performing.{class_at_number, perform, native}
use Rattle.dj_model.specs.trusted.Natives.{answer}
use Rattle.dj_model.specs.trusted.Members.{invoke}
use Rattle.dj_model.specs.trusted.Effects.{effect, used_class}
use Rattle.dj_model.specs.trusted.Initialisation.{Ready, initialise}
use Rattle.dj_model.specs.trusted.Step.{StepAnswer, Went, Ended, IllFormed, catches, handler_in, handler_of, caught, ends_with, leaves_frame, at_handler, unwound, settle, part_of, act, step}
use Rattle.dj_model.specs.trusted.Runs.{Ran, one_more, then_steps, from_start, steps}
use Rattle.dj_model.specs.Runs.{starts_handler}
use Rattle.dj_model.specs.Program.{range_map}
use Rattle.dj_groups.specs.Groups.{Group, charge_of, group_of, groups_of, start, inserted, group_at, own, pieces}
use Rattle.dj_groups.specs.Rewritten.{inserted_instruction, in_groups, rewritten_code}
use Rattle.dj_sim.specs.Paying.{copy, check_catch, record_throw}
use Rattle.dj_sim.specs.Simulation.{AreHandlersWithin, part_at, plain_terms, EndsWithin, AreOriginal}
use Rattle.dj_sim.proofs.Places.{either, something_within, own_is, are_over, pieces_not_over}
use Rattle.dj_sim.proofs.Acts.{other, code_image, ranges_of, in_range_pieces, group_there, part_there}
use Rattle.dj_model.specs.Instructions.{named_map}

abbrev pub stop_type : Ty
stop_type = class_type stop_class

pub step_more : (more : State → Ran) (a : StepAnswer) → then_steps more a ≡ one_more (from_start more a)
step_more more (Went s) = refl
step_more more (Ended outcome s) = refl
step_more more IllFormed = refl

number_in : Option ℕ → ℕ
number_in None = 0
number_in (Some n) = n

module _ (program : Program) (most : Thresholds)
    -- the accounter and Object are initialised, or have nothing to initialise: proved apart
    (flags : State → List Bool)
    -- handlers are instructions, as in every sound program
    (handled : AreHandlersWithin program)
    (ready : (r : State) → initialise (other program) sandbox_prefix (plain_terms most) accounter_class r ≡ Ready (record r { initialised = flags r })) where
  -- ---- the handlers of rewritten code

  -- what a handler of rewritten code is
  pub record IsHandlerStart (code : Code) (h : ℕ) : Type 0 where
    pub number : ℕ
    pub place : h ≡ start (groups_of program code) number
    pub first : starts_handler (Some code) number ≡ true

  begins_handler : (code : Code) (n : ℕ) (class : Ty) (ranges : List Range) → ((k : ℕ) → list_any (λ range. nat_eq k range.handler) ranges ≡ true → starts_handler (Some code) k ≡ true) → (h : ℕ)
      → handler_in (other program) sandbox_prefix class n (ranges_of (groups_of program code) ranges) ≡ Some h → IsHandlerStart code h
  unfolding number_in
  begins_handler code n class [] within h e = absurd (none-some h e)
  begins_handler code n class (range ∷ ranges) within h e =
      found (are_over (pieces (groups_of program code) range.start range.end) n && catches (other program) sandbox_prefix class (option_map (named_map in_sandbox) range.catches))
      (sym (in_range_pieces program class n (groups_of program code) (range_map in_sandbox range) (pieces (groups_of program code) range.start range.end) (ranges_of (groups_of program code) ranges)) ∙ e)
      (λ rest. begins_handler code n class ranges (λ k is. within k (rw is (either_true (nat_eq k range.handler)))) h rest) where
        either_true : (b : Bool) → b || true ≡ true
        either_true true = refl
        either_true false = refl

        itself : nat_eq range.handler range.handler ≡ true
        itself = grind (arith, nat_tests)

        found : (b : Bool) → (if b then Some (start (groups_of program code) range.handler) else handler_in (other program) sandbox_prefix class n (ranges_of (groups_of program code) ranges)) ≡ Some h
            → (handler_in (other program) sandbox_prefix class n (ranges_of (groups_of program code) ranges) ≡ Some h → IsHandlerStart code h) → IsHandlerStart code h
        found true e rest = record { number = range.handler; place = ap (λ (o : Option ℕ). number_in o) (sym e); first = within range.handler (rw itself refl) }
        found false e rest = rest e

  -- no range covers what is inserted before the first instruction of a handler
  covers_none : (code : Code) (class : Ty) (k n : ℕ) (ranges : List Range) → (group_at (groups_of program code) k).arrives ≡ true → start (groups_of program code) k ≤ n → n < own (groups_of program code) k
      → handler_in (other program) sandbox_prefix class n (ranges_of (groups_of program code) ranges) ≡ None
  covers_none code class k n [] first from to = refl
  covers_none code class k n (range ∷ ranges) first from to =
      in_range_pieces program class n (groups_of program code) (range_map in_sandbox range) (pieces (groups_of program code) range.start range.end) (ranges_of (groups_of program code) ranges)
      ∙ rw (pieces_not_over (groups_of program code) range.start range.end k n first from to) (covers_none code class k n ranges first from to)

  -- ---- the two inserted instructions

  does_check : (own : Name) (p : Part) (x : ℕ) (rest : List Value) → p.operands ≡ values.Ref x ∷ rest → class_at_number p.heap x ≡ stop_type
      → effect (other program) sandbox_prefix (plain_terms most) own check_catch p ≡ Some (goes (record p { operands = rest }) (Catch x))
  unfolding effect invoke resolve_method chain_of most_classes native answer perform is_subtype is_subclass
  does_check own p x rest e stop = rw (e, stop) (elim (either (nat_eq x 0)) [ inl null ↦ rw null refl | inr there ↦ rw there refl ])

  does_dup : (own : Name) (p : Part) (x : ℕ) (rest : List Value) → p.operands ≡ values.Ref x ∷ rest
      → effect (other program) sandbox_prefix (plain_terms most) own copy p ≡ Some (goes (record p { operands = values.Ref x ∷ (values.Ref x ∷ rest) }) (Goes Next))
  unfolding effect on_values moved
  does_dup own p x rest e = rw e refl

  uses_accounter : used_class (other program) sandbox_prefix check_catch ≡ Some accounter_class
  unfolding used_class resolve_method chain_of most_classes
  uses_accounter = refl

  uses_nothing : used_class (other program) sandbox_prefix copy ≡ None
  unfolding used_class
  uses_nothing = refl

  dup_step : (r : State) (y : Frame Declared) (ys : List (Frame Declared)) (x : ℕ) (rest : List Value) → y.operands ≡ values.Ref x ∷ rest
      → act (other program) sandbox_prefix (plain_terms most) r y ys (Some copy)
      ≡ Went (record r { frames = record y { number = y.number + 1; operands = values.Ref x ∷ (values.Ref x ∷ rest); paid = false } ∷ ys })
  unfolding settle
  dup_step r y ys x rest e = rw (uses_nothing, does_dup y.method.class (part_of y r) x rest e) refl

  check_step : (r : State) (y : Frame Declared) (ys : List (Frame Declared)) (x : ℕ) (rest : List Value) → y.operands ≡ values.Ref x ∷ rest → class_at_number r.heap x ≡ stop_type
      → act (other program) sandbox_prefix (plain_terms most) r y ys (Some check_catch)
      ≡ unwound (other program) sandbox_prefix (record r { initialised = flags r; frames = record y { operands = rest } ∷ ys }) stop_type x (record y { operands = rest } ∷ ys)
  unfolding settle
  check_step r y ys x rest e stop =
      rw (uses_accounter, ready r, does_check y.method.class (part_of y (record r { initialised = flags r })) x rest e stop)
      (ap (λ (class : Ty). unwound (other program) sandbox_prefix (record r { initialised = flags r; frames = record y { operands = rest } ∷ ys }) class x (record y { operands = rest } ∷ ys)) stop)

  -- ---- all frames are left

  ended : (r : State) (charge : Charge) (outcome : Outcome) → r.account.exceeded ≡ Some charge
      → ends_with sandbox_prefix r stop_type outcome ≡ Ended (outcomes.Stopped charge) r
  ended r charge outcome e = rw e refl

  at_once : (r : State) (charge : Charge) (bound : ℕ) (a : StepAnswer) → a ≡ Ended (outcomes.Stopped charge) r → EndsWithin (other program) most bound a (outcomes.Stopped charge) r
  at_once r charge bound a e = (0, omega arith, r, ap (from_start (steps (other program) sandbox_prefix (plain_terms most) 0)) e, (refl, refl, refl))

  -- two steps before such an end
  two_before : (r s left : State) (a : StepAnswer) (bound : ℕ) (outcome : Outcome) (charge : Charge)
      → step (other program) sandbox_prefix (plain_terms most) r ≡ Went s → step (other program) sandbox_prefix (plain_terms most) s ≡ a
      → EndsWithin (other program) most bound a outcome left → EndsWithin (other program) most (bound + 2) (Went r) outcome left
  unfolding steps
  two_before r s left a bound outcome charge one two (n, within, t, ends, same) = (
    suc (suc n),
    omega (arith, within),
    t,
    ap (then_steps (steps (other program) sandbox_prefix (plain_terms most) (suc n))) one
        ∙ (ap (λ (b : StepAnswer). one_more (then_steps (steps (other program) sandbox_prefix (plain_terms most) n) b)) two
        ∙ (ap one_more (step_more (steps (other program) sandbox_prefix (plain_terms most) n) a)
        ∙ ap (λ (q : Ran). one_more (one_more q)) ends)),
    same,
  )

  -- the frame is left
  left : (z : Frame Declared) (s : State) (a : StepAnswer) (x bound : ℕ) (charge : Charge) → s.account.exceeded ≡ Some charge
      → EndsWithin (other program) most bound a (outcomes.Stopped charge) s
      → EndsWithin (other program) most bound (leaves_frame sandbox_prefix s stop_type x z a) (outcomes.Stopped charge) s
  left z s a x bound charge over below = elim (either (is_initialiser z.method)) [
    | inl i ↦ rw i (at_once s charge bound _ (ended s charge _ over))
    | inr i ↦ rw i below
  ]

  -- what begins the code of a handler
  record HandlerBegins (code : Code) (k : ℕ) : Type 0 where
    pub more : List Instruction
    pub part : part_at (groups_of program code) k ≡ copy ∷ check_catch ∷ record_throw ∷ more
    pub arrives : (group_at (groups_of program code) k).arrives ≡ true

  begins_so : (code : Code) (k : ℕ) → starts_handler (Some code) k ≡ true → k < length code.instructions → HandlerBegins code k
  begins_so code k first within =
      let there : (i : Instruction) × (slice_get code.instructions k ≡ Some i) = something_within code.instructions k within in
      let same : group_at (groups_of program code) k ≡ group_of program true there.0 = group_there program code k there.0 there.1 ∙ ap (λ b. group_of program b there.0) first in
      record {
        more = map inserted_instruction (charge_of program there.0);
        part = ap (λ (g : Group). map inserted_instruction (inserted g)) same;
        arrives = ap (λ (g : Group). g.arrives) same;
      }

  -- an exception that is caught there meets checkCatch, which throws it again
  caught_again : (code : Code) (z : Frame Declared) (ys : List (Frame Declared)) (r : State) (x : ℕ) (charge : Charge) (h : ℕ) → r.account.exceeded ≡ Some charge → class_at_number r.heap x ≡ stop_type
      → code_of (other program) z.method ≡ Some (rewritten_code program code) → (k : ℕ) → h ≡ start (groups_of program code) k → starts_handler (Some code) k ≡ true → k < length code.instructions
      → ((s : State) → s.account.exceeded ≡ Some charge → class_at_number s.heap x ≡ stop_type
      → EndsWithin (other program) most (2 * length ys) (unwound (other program) sandbox_prefix s stop_type x ys) (outcomes.Stopped charge) s)
      → EndsWithin (other program) most (2 * suc (length ys)) (Went (record r { frames = caught z x h ∷ ys })) (outcomes.Stopped charge) r
  unfolding unwound step rewritten_code in_groups
  caught_again code z ys r x charge h over stop coded k at first within below =
      let gs : List Group = groups_of program code in
      let b : HandlerBegins code k = begins_so code k first within in
      let long : length (part_at gs k) ≡ suc (suc (suc (length b.more))) = ap (λ (is : List Instruction). length is) b.part in
      let e0 : start gs k + 0 ≡ h = omega (arith, at) in
      let e1 : start gs k + 1 ≡ h + 1 = omega (arith, at) in
      let i0 : slice_get (rewritten_code program code).instructions h ≡ Some copy =
      ap (slice_get (rewritten_code program code).instructions) (sym e0) ∙ (part_there program code k 0 (omega (arith, long)) ∙ ap (λ (is : List Instruction). slice_get is 0) b.part) in
      let i1 : slice_get (rewritten_code program code).instructions (h + 1) ≡ Some check_catch =
      ap (slice_get (rewritten_code program code).instructions) (sym e1) ∙ (part_there program code k 1 (omega (arith, long)) ∙ ap (λ (is : List Instruction). slice_get is 1) b.part) in
      let y0 : Frame Declared = caught z x h in
      let y1 : Frame Declared = record y0 { number = h + 1; operands = values.Ref x ∷ (values.Ref x ∷ []); paid = false } in
      let y2 : Frame Declared = record y1 { operands = values.Ref x ∷ [] } in
      let r1 : State = record r { frames = y1 ∷ ys } in
      let r2 : State = record r1 { initialised = flags r1; frames = y2 ∷ ys } in
      let one : step (other program) sandbox_prefix (plain_terms most) (record r { frames = y0 ∷ ys }) ≡ Went r1 =
      ap (act (other program) sandbox_prefix (plain_terms most) (record r { frames = y0 ∷ ys }) y0 ys) (ap (λ c. instruction_in c h) coded ∙ i0)
      ∙ dup_step (record r { frames = y0 ∷ ys }) y0 ys x [] refl in
      let two : step (other program) sandbox_prefix (plain_terms most) r1 ≡ unwound (other program) sandbox_prefix r2 stop_type x (y2 ∷ ys) =
      ap (act (other program) sandbox_prefix (plain_terms most) r1 y1 ys) (ap (λ c. instruction_in c (h + 1)) coded ∙ i1)
      ∙ check_step r1 y1 ys x (values.Ref x ∷ []) refl stop in
      let uncovered : handler_of (other program) sandbox_prefix stop_type (h + 1) (code_of (other program) z.method) ≡ None =
      ap (handler_of (other program) sandbox_prefix stop_type (h + 1)) coded
      ∙ covers_none code stop_type k (h + 1) code.ranges b.arrives (omega (arith, at)) (omega (arith, at, long, own_is gs k)) in
      let three : unwound (other program) sandbox_prefix r2 stop_type x (y2 ∷ ys) ≡ leaves_frame sandbox_prefix r2 stop_type x y2 (unwound (other program) sandbox_prefix r2 stop_type x ys) =
      ap (λ (handler : Option ℕ). at_handler sandbox_prefix r2 stop_type x y2 ys handler (unwound (other program) sandbox_prefix r2 stop_type x ys)) uncovered in
      let ends : EndsWithin (other program) most (2 * length ys) (leaves_frame sandbox_prefix r2 stop_type x y2 (unwound (other program) sandbox_prefix r2 stop_type x ys)) (outcomes.Stopped charge) r =
      left y2 r2 (unwound (other program) sandbox_prefix r2 stop_type x ys) x (2 * length ys) charge over (below r2 over stop) in
      let all : EndsWithin (other program) most (2 * length ys + 2) (Went (record r { frames = y0 ∷ ys })) (outcomes.Stopped charge) r =
      two_before (record r { frames = y0 ∷ ys }) r1 r (leaves_frame sandbox_prefix r2 stop_type x y2 (unwound (other program) sandbox_prefix r2 stop_type x ys)) (2 * length ys) (outcomes.Stopped charge) charge one (two ∙ three) ends in
      (all.0, omega (arith, all.1), all.2, all.3, all.4)

  by_handler : (z : Frame Declared) (ys : List (Frame Declared)) (r : State) (x : ℕ) (charge : Charge) (m : Declared) (h : Option ℕ) → z.method ≡ declared_map in_sandbox m
      → r.account.exceeded ≡ Some charge → class_at_number r.heap x ≡ stop_type
      → handler_of (other program) sandbox_prefix stop_type z.number (code_of (other program) z.method) ≡ h
      → ((s : State) → s.account.exceeded ≡ Some charge → class_at_number s.heap x ≡ stop_type
      → EndsWithin (other program) most (2 * length ys) (unwound (other program) sandbox_prefix s stop_type x ys) (outcomes.Stopped charge) s)
      → EndsWithin (other program) most (2 * suc (length ys)) (at_handler sandbox_prefix r stop_type x z ys h (unwound (other program) sandbox_prefix r stop_type x ys)) (outcomes.Stopped charge) r
  unfolding rewritten_code in_groups
  by_handler z ys r x charge m None named over stop at below =
      let ends : EndsWithin (other program) most (2 * length ys) (leaves_frame sandbox_prefix r stop_type x z (unwound (other program) sandbox_prefix r stop_type x ys)) (outcomes.Stopped charge) r =
      left z r (unwound (other program) sandbox_prefix r stop_type x ys) x (2 * length ys) charge over (below r over stop) in
      (ends.0, omega (arith, ends.1), ends.2, ends.3, ends.4)
  by_handler z ys r x charge m (Some h) named over stop at below = by_code (code_of program m) refl (ap (code_of (other program)) named ∙ code_image program m) where
    by_code : (c : Option Code) → code_of program m ≡ c → code_of (other program) z.method ≡ option_map (rewritten_code program) c
        → EndsWithin (other program) most (2 * suc (length ys)) (Went (record r { frames = caught z x h ∷ ys })) (outcomes.Stopped charge) r
    by_code None own coded = absurd (none-some h (sym (ap (handler_of (other program) sandbox_prefix stop_type z.number) coded) ∙ at))
    by_code (Some code) own coded = from_start_of
        (begins_handler code z.number stop_type code.ranges (λ k e. e) h (unfolded (sym (ap (handler_of (other program) sandbox_prefix stop_type z.number) coded) ∙ at))) where
          from_start_of : IsHandlerStart code h → EndsWithin (other program) most (2 * suc (length ys)) (Went (record r { frames = caught z x h ∷ ys })) (outcomes.Stopped charge) r
          from_start_of hs = caught_again code z ys r x charge h over stop coded hs.number hs.place hs.first (handled m code hs.number own hs.first) below

          unfolded : handler_of (other program) sandbox_prefix stop_type z.number (Some (rewritten_code program code)) ≡ Some h
              → handler_in (other program) sandbox_prefix stop_type z.number (ranges_of (groups_of program code) code.ranges) ≡ Some h
          unfolded e = e

  pub unwound_stops : (ys : List (Frame Declared)) → AreOriginal ys → (r : State) (x : ℕ) (charge : Charge) → r.account.exceeded ≡ Some charge → class_at_number r.heap x ≡ stop_type
      → EndsWithin (other program) most (2 * length ys) (unwound (other program) sandbox_prefix r stop_type x ys) (outcomes.Stopped charge) r
  unfolding unwound
  unwound_stops [] original r x charge exceeded stop = at_once r charge 0 _ (ended r charge _ exceeded)
  unwound_stops (y ∷ ys) original r x charge exceeded stop =
      by_handler y ys r x charge original.0.0 (handler_of (other program) sandbox_prefix stop_type y.number (code_of (other program) y.method)) original.0.1 exceeded stop refl
      (λ s over is. unwound_stops ys original.1 s x charge over is)
