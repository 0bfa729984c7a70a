-- What is inserted before an instruction adds the instruction's charges, in their order.
use Rattle.std.proofs.Common.{◌≡◌, ℕ, suc, ◌+◌, ◌*◌, ◌<◌, Bool, true, false, ℤ, pos, negsuc, List, [], ◌∷◌, length, Option, Some, None, slice_get, refl, ap, ◌∙◌, arith}
use Rattle.dj_names.specs.declared.run.Value.{Value}
use Rattle.dj_names.specs.declared.run.Value.TheVariants as values
use Rattle.dj_names.specs.declared.run.Charge.{Charge}
use Rattle.dj_names.specs.declared.run.Charge.TheVariants as charges
use Rattle.dj_names.specs.declared.run.Element.{Element}
use Rattle.dj_names.specs.declared.run.Outcome.TheVariants as outcomes
use Rattle.dj_names.specs.declared.run.Thresholds.{Thresholds}
use Rattle.dj_names.specs.trusted.Types.{Name, class_type}
use Rattle.dj_names.specs.trusted.Heaps.{Heap}
use Rattle.dj_names.specs.declared.descriptor.Ty.{Ty}
use Rattle.dj_names.specs.trusted.Values.{element_size}
use Rattle.dj_names.specs.Library.{accounter_class}
use Rattle.dj_names.specs.Types.{sandbox_prefix}
use Rattle.dj_model.specs.trusted.Types.{Declared, object_name, is_stop}
use Rattle.dj_model.specs.trusted.Instructions.{Instruction}
use Rattle.dj_model.specs.trusted.Linking.{most_classes, chain_of, resolve_method}
use Rattle.dj_model.specs.trusted.Program.{Program, code_of}
use Rattle.dj_model.specs.trusted.State.{Account, Part, Next, Goes, Frame, State, instruction_in, goes}
use Rattle.std.specs.Prelude.{⊤, if◌then◌else◌}
use Rattle.dj_names.specs.declared.run.Costs.{Costs}
use Rattle.dj_sim.proofs.Unwinding.{step_more}
use Rattle.dj_model.specs.trusted.Charging.{Charged, Fine, Over, added, passes, charge_after, charge_one}
use Rattle.dj_model.specs.Effects.{array_charge}
use Rattle.dj_model.specs.Charging.{Amount, then_charge, charge_all}
use Rattle.dj_model.specs.trusted.Natives.{answer}
use Rattle.dj_model.specs.trusted.Values.{on_values, moved}
use Rattle.dj_model.specs.trusted.Performing.{thrown_by, class_at_number, is_instance, goes_on, counted, perform, native}
use Rattle.dj_model.specs.trusted.Members.{invoke}
use Rattle.dj_model.specs.trusted.Effects.{effect, used_class}
use Rattle.dj_model.specs.trusted.Initialisation.{Ready, initialise}
use Rattle.dj_model.specs.trusted.Step.{StepAnswer, Went, stop_from, throw_stop_or, settle, settled, part_of, act, step}
use Rattle.dj_model.specs.trusted.Runs.{Going, one_more, then_steps, steps}
use Rattle.dj_sim.specs.Paying.{copy, push_bytes, record_jump, record_invocation, record_throw, record_allocation, record_array, check_catch, Paying, none, arrived, jump, invocation, array, throw, allocation}
use Rattle.dj_sim.specs.Simulation.{plain_terms, EndsWithin, IsLeft, with_stop}
use Rattle.dj_sim.proofs.Acts.{other}

module _ (program : Program) (most : Thresholds) (flags : State → List Bool)
    (ready : (r : State) → initialise (other program) sandbox_prefix (plain_terms most) accounter_class r ≡ Ready (record r { initialised = flags r }))
    -- what flags may be, and stay
    (Good : List Bool → Type 0)
    (good : (r : State) → Good r.initialised → Good (flags r)) where
  abbrev R : Program
  R = other program

  -- ---- the effects of what is inserted, and what it uses

  uses_jump : used_class R sandbox_prefix record_jump ≡ Some accounter_class
  unfolding used_class resolve_method chain_of most_classes
  uses_jump = refl

  uses_invocation : used_class R sandbox_prefix record_invocation ≡ Some accounter_class
  unfolding used_class resolve_method chain_of most_classes
  uses_invocation = refl

  uses_array : used_class R sandbox_prefix record_array ≡ Some accounter_class
  unfolding used_class resolve_method chain_of most_classes
  uses_array = refl

  does_invocation : (own : Name) (p : Part) → effect R sandbox_prefix (plain_terms most) own record_invocation p ≡ Some (goes_on (counted (plain_terms most).counting p charges.Invoke 1))
  unfolding effect invoke resolve_method chain_of most_classes native answer perform
  does_invocation own p = refl

  uses_throw : used_class R sandbox_prefix record_throw ≡ Some accounter_class
  unfolding used_class resolve_method chain_of most_classes
  uses_throw = refl

  does_jump : (own : Name) (p : Part) → effect R sandbox_prefix (plain_terms most) own record_jump p ≡ Some (goes_on (counted (plain_terms most).counting p charges.Jump 1))
  unfolding effect invoke resolve_method chain_of most_classes native answer perform
  does_jump own p = refl

  does_throw : (own : Name) (p : Part) → effect R sandbox_prefix (plain_terms most) own record_throw p ≡ Some (goes_on (counted (plain_terms most).counting p charges.Throw 1))
  unfolding effect invoke resolve_method chain_of most_classes native answer perform
  does_throw own p = refl

  does_array : (own : Name) (p : Part) (element : Element) (z : ℤ) (any rest : List Value) → p.operands ≡ values.Int (pos (element_size element)) ∷ (values.Int z ∷ rest)
      → effect R sandbox_prefix (plain_terms most) own record_array p
      ≡ Some (goes_on (counted (plain_terms most).counting (record p { operands = rest }) charges.Alloc (array_charge element (values.Int z ∷ any))))
  unfolding effect invoke resolve_method chain_of most_classes native answer perform
  does_array own p element (pos n) any rest e = rw e refl
  does_array own p element (negsuc n) any rest e = rw e refl

  does_dup_int : (own : Name) (p : Part) (z : ℤ) (rest : List Value) → p.operands ≡ values.Int z ∷ rest
      → effect R sandbox_prefix (plain_terms most) own copy p ≡ Some (goes (record p { operands = values.Int z ∷ (values.Int z ∷ rest) }) (Goes Next))
  unfolding effect on_values moved
  does_dup_int own p z rest e = rw e refl

  uses_allocation : used_class R sandbox_prefix record_allocation ≡ Some accounter_class
  unfolding used_class resolve_method chain_of most_classes
  uses_allocation = refl

  uses_check : used_class R sandbox_prefix check_catch ≡ Some accounter_class
  unfolding used_class resolve_method chain_of most_classes
  uses_check = refl

  uses_dup : used_class R sandbox_prefix copy ≡ None
  unfolding used_class
  uses_dup = refl

  uses_push : (n : ℕ) → used_class R sandbox_prefix (push_bytes n) ≡ None
  unfolding used_class
  uses_push n = refl

  does_allocation : (own : Name) (p : Part) (size : ℕ) (rest : List Value) → p.operands ≡ values.Int (pos size) ∷ rest
      → effect R sandbox_prefix (plain_terms most) own record_allocation p ≡ Some (goes_on (counted (plain_terms most).counting (record p { operands = rest }) charges.Alloc size))
  unfolding effect invoke resolve_method chain_of most_classes native answer perform
  does_allocation own p size rest e = rw e refl

  does_check : (own : Name) (p : Part) (x : ℕ) (rest : List Value) → p.operands ≡ values.Ref x ∷ rest
      → is_instance R sandbox_prefix p.heap x (class_type (object_name sandbox_prefix)) ≡ true → is_stop sandbox_prefix (class_at_number p.heap x) ≡ false
      → effect R sandbox_prefix (plain_terms most) own check_catch p ≡ Some (goes (record p { operands = rest }) (Goes Next))
  unfolding effect invoke resolve_method chain_of most_classes native answer perform
  does_check own p x rest e below clean = rw (e, below, clean) refl

  check_passes : (r : State) (y : Frame Declared) (ys : List (Frame Declared)) (x : ℕ) (rest : List Value) → y.operands ≡ values.Ref x ∷ rest
      → is_instance R sandbox_prefix r.heap x (class_type (object_name sandbox_prefix)) ≡ true → is_stop sandbox_prefix (class_at_number r.heap x) ≡ false
      → act R sandbox_prefix (plain_terms most) r y ys (Some check_catch) ≡ Went (record r { initialised = flags r; frames = record y { number = y.number + 1; operands = rest; paid = false } ∷ ys })
  unfolding settle
  check_passes r y ys x rest e below clean = rw (uses_check, ready r, does_check y.method.class (part_of y (record r { initialised = flags r })) x rest e below clean) refl

  -- ---- one inserted call

  abbrev pub at_place : State → Frame Declared → List (Frame Declared) → ℕ → List Value → State
  at_place r y ys n operands = record r { frames = record y { number = n; operands = operands; paid = false } ∷ ys }

  -- what a call that charges leads to
  abbrev after_charge : State → Frame Declared → List (Frame Declared) → Charged → StepAnswer
  after_charge r y ys (Fine account) = Went (record r { initialised = flags r; account = account; frames = record y { number = y.number + 1; paid = false } ∷ ys })
  after_charge r y ys (Over charge account) =
      throw_stop_or R sandbox_prefix (plain_terms most) (record r { initialised = flags r; account = account; frames = y ∷ ys }) (stop_from sandbox_prefix 1 r.heap.objects)

  call_step : (i : Instruction) (charge : Charge) (n : ℕ) (r : State) (y : Frame Declared) (ys : List (Frame Declared)) (rest : List Value)
      → used_class R sandbox_prefix i ≡ Some accounter_class
      → effect R sandbox_prefix (plain_terms most) y.method.class i (part_of y (record r { initialised = flags r }))
      ≡ Some (goes_on (counted (plain_terms most).counting (record (part_of y (record r { initialised = flags r })) { operands = rest }) charge n))
      → act R sandbox_prefix (plain_terms most) r y ys (Some i) ≡ after_charge r (record y { operands = rest }) ys (charge_one most r.account charge n)
  unfolding settle
  call_step i charge n r y ys rest uses does = rw (uses, ready r, does) (go (charge_one most r.account charge n)) where
    go : (c : Charged)
        → settled R sandbox_prefix (plain_terms most) (record r { initialised = flags r }) y ys
        (Some (goes_on (thrown_by (record (part_of y (record r { initialised = flags r })) { operands = rest }) c)))
        ≡ after_charge r (record y { operands = rest }) ys c
    go (Fine account) = refl
    go (Over over account) = refl

  plain_step : (i : Instruction) → used_class R sandbox_prefix i ≡ None → (r : State) (y : Frame Declared) (ys : List (Frame Declared)) (operands : List Value)
      → effect R sandbox_prefix (plain_terms most) y.method.class i (part_of y r) ≡ Some (goes (record (part_of y r) { operands = operands }) (Goes Next))
      → act R sandbox_prefix (plain_terms most) r y ys (Some i) ≡ Went (record r { frames = record y { number = y.number + 1; operands = operands; paid = false } ∷ ys })
  unfolding settle
  plain_step i uses r y ys operands does = rw (uses, does) refl

  does_push : (own : Name) (p : Part) (n : ℕ) → effect R sandbox_prefix (plain_terms most) own (push_bytes n) p ≡ Some (goes (record p { operands = values.Int (pos n) ∷ p.operands }) (Goes Next))
  unfolding effect on_values
  does_push own p n = refl

  does_dup : (own : Name) (p : Part) (x : ℕ) (rest : List Value) → p.operands ≡ values.Ref x ∷ rest
      → effect R sandbox_prefix (plain_terms most) own copy p ≡ Some (goes (record p { operands = values.Ref x ∷ (values.Ref x ∷ rest) }) (Goes Next))
  unfolding effect on_values moved
  does_dup own p x rest e = rw e refl

  -- ---- all of them

  abbrev IsFetched : Frame Declared → ℕ → List Instruction → Type 0
  IsFetched y n is = (j : ℕ) → j < length is → instruction_in (code_of R y.method) (n + j) ≡ slice_get is j

  fetched_more : (y : Frame Declared) (n : ℕ) (i : Instruction) (is : List Instruction) → IsFetched y n (i ∷ is) → IsFetched y (n + 1) is
  fetched_more y n i is f = λ j l.
      let e : n + 1 + j ≡ n + suc j = omega arith in ap (instruction_in (code_of R y.method)) e ∙ f (suc j) (omega (arith, l))

  fetched_first : (y : Frame Declared) (n : ℕ) (i : Instruction) (is : List Instruction) → IsFetched y n (i ∷ is) → instruction_in (code_of R y.method) n ≡ Some i
  fetched_first y n i is f = let e : n ≡ n + 0 = omega arith in ap (instruction_in (code_of R y.method)) e ∙ f 0 (omega arith)

  abbrev IsExceeded : Charged → Type 0
  IsExceeded (Fine account) = ⊤
  IsExceeded (Over charge account) = account.exceeded ≡ Some charge

  over_exceeds : (a : Account) (charge : Charge) (n : ℕ) → IsExceeded (charge_one most a charge n)
  unfolding charge_one
  over_exceeds a charge n = go a.exceeded refl where
    by_test : (b : Bool) (c : Costs) → IsExceeded (if b then Over charge (record { costs = c; exceeded = Some charge }) else Fine (record { costs = c; exceeded = None }))
    by_test true c = refl
    by_test false c = tt

    go : (before : Option Charge) → a.exceeded ≡ before → IsExceeded (charge_after most a charge n before)
    go None e = by_test (passes most (added a.costs charge n) charge) (added a.costs charge n)
    go (Some before) e = e

  -- the charges are added within k steps, or one stops the run
  abbrev pub Paid : ℕ → ℕ → State → (Account → List Bool → State) → Charged → Type 0
  Paid k depth s final (Fine account) = (now : List Bool) × Good now × (steps R sandbox_prefix (plain_terms most) k s ≡ Going (final account now))
  Paid k depth s final (Over charge account) = EndsWithin R most (k + 2 * depth) (Went s) (outcomes.Stopped charge) (with_stop (final account []))

  one_step : (k depth : ℕ) (s t : State) (final : Account → List Bool → State) (c : Charged) → step R sandbox_prefix (plain_terms most) s ≡ Went t → Paid k depth t final c → Paid (suc k) depth s final c
  unfolding steps
  one_step k depth s t final (Fine account) e (now, good, goes) = (now, good, ap (then_steps (steps R sandbox_prefix (plain_terms most) k)) e ∙ ap one_more goes)
  one_step k depth s t final (Over charge account) e (n, within, u, ends, costs) =
      (suc n, omega (arith, within), u, ap (then_steps (steps R sandbox_prefix (plain_terms most) n)) e ∙ ap one_more ends, costs)

  -- the object that stops a run leaves all frames: Stops
  module _
      -- what the heap, the method and the frames below have to be
      (Stopping : Heap Ty → Declared → List (Frame Declared) → Type 0)
      (stops : (r : State) (y : Frame Declared) (ys : List (Frame Declared)) (charge : Charge) (account : Account) → Stopping r.heap y.method ys → account.exceeded ≡ Some charge
      → EndsWithin R most (2 * suc (length ys)) (throw_stop_or R sandbox_prefix (plain_terms most) (record r { initialised = flags r; account = account; frames = y ∷ ys }) (stop_from sandbox_prefix 1 r.heap.objects))
      (outcomes.Stopped charge) (with_stop (record r { account = account }))) where
    -- a call that charges, and then the rest
    charged : (r : State) (y : Frame Declared) (ys : List (Frame Declared)) (k : ℕ) (charge : Charge) (n : ℕ) (amounts : List Amount) (final : Account → List Bool → State) → ((account : Account) → IsLeft (with_stop (final account [])) (with_stop (record r { account = account }))) → Stopping r.heap y.method ys
        → (s : State) → step R sandbox_prefix (plain_terms most) s ≡ after_charge r y ys (charge_one most r.account charge n)
        → ((account : Account) → Paid k (suc (length ys)) (record r { initialised = flags r; account = account; frames = record y { number = y.number + 1; paid = false } ∷ ys }) final (charge_all most amounts account))
        → Paid (suc k) (suc (length ys)) s final (charge_all most (record { charge = charge; amount = n } ∷ amounts) r.account)
    unfolding charge_all steps
    charged r y ys k charge n amounts final kept stopping s e more = go (charge_one most r.account charge n) (over_exceeds r.account charge n) e where
      go : (c : Charged) → IsExceeded c → step R sandbox_prefix (plain_terms most) s ≡ after_charge r y ys c → Paid (suc k) (suc (length ys)) s final (then_charge (charge_all most amounts) c)
      go (Fine account) x e = one_step k (suc (length ys)) s _ final (charge_all most amounts account) e (more account)
      go (Over over account) x e =
          let end = stops r y ys over account stopping x in (
            suc end.0,
            omega (arith, end.1),
            end.2,
            ap (then_steps (steps R sandbox_prefix (plain_terms most) end.0)) e
                ∙ (step_more (steps R sandbox_prefix (plain_terms most) end.0) _ ∙ ap one_more end.3),
            (end.4.0 ∙ (kept account).0, end.4.1 ∙ (kept account).1, end.4.2 ∙ (kept account).2),
          )

    -- the calls that are inserted, from the number n to before the number e
    pub all_paid : (is : List Instruction) (operands : List Value) (amounts : List Amount) → Paying is operands amounts → (r : State) (y : Frame Declared) (ys : List (Frame Declared)) (n e : ℕ)
        → e ≡ n + length is → IsFetched y n is
        → Good r.initialised → Stopping r.heap y.method ys
        → ((x : ℕ) → is_instance R sandbox_prefix r.heap x (class_type (object_name sandbox_prefix)) ≡ true) → ((x : ℕ) → is_stop sandbox_prefix (class_at_number r.heap x) ≡ false)
        → Paid (length is) (suc (length ys)) (at_place r y ys n operands)
        (λ account now. record r { account = account; initialised = now; frames = record y { number = e; operands = operands; paid = false } ∷ ys })
        (charge_all most amounts r.account)
    unfolding charge_all steps step
    all_paid is operands amounts (none _) r y ys n e at f fine stopping below clean = (r.initialised, fine, (let same : n ≡ e = omega (arith, at) in ap (λ k. Going (at_place r y ys k operands)) same))
    all_paid is operands amounts (jump more _ rest p) r y ys n e at f fine stopping below clean =
        let s : State = at_place r y ys n operands in
        let z : Frame Declared = record y { number = n; operands = operands; paid = false } in
        charged s z ys (length more) charges.Jump 1 rest _ (λ account. (refl, refl, refl)) stopping s
        (ap (act R sandbox_prefix (plain_terms most) s z ys) (fetched_first y n record_jump more f) ∙ call_step record_jump charges.Jump 1 s z ys operands uses_jump (does_jump y.method.class _))
        (λ account. all_paid more operands rest p (record s { initialised = flags s; account = account }) y ys (n + 1) e (omega (arith, at)) (fetched_more y n record_jump more f) (good s fine) stopping below clean)
    all_paid is operands amounts (throw more _ rest p) r y ys n e at f fine stopping below clean =
        let s : State = at_place r y ys n operands in
        let z : Frame Declared = record y { number = n; operands = operands; paid = false } in
        charged s z ys (length more) charges.Throw 1 rest _ (λ account. (refl, refl, refl)) stopping s
        (ap (act R sandbox_prefix (plain_terms most) s z ys) (fetched_first y n record_throw more f) ∙ call_step record_throw charges.Throw 1 s z ys operands uses_throw (does_throw y.method.class _))
        (λ account. all_paid more operands rest p (record s { initialised = flags s; account = account }) y ys (n + 1) e (omega (arith, at)) (fetched_more y n record_throw more f) (good s fine) stopping below clean)
    all_paid is operands amounts (allocation size more _ rest p) r y ys n e at f fine stopping below clean =
        let s : State = at_place r y ys n operands in
        let z : Frame Declared = record y { number = n; operands = operands; paid = false } in
        let t : State = at_place r y ys (n + 1) (values.Int (pos size) ∷ operands) in
        let w : Frame Declared = record y { number = n + 1; operands = values.Int (pos size) ∷ operands; paid = false } in
        let g : IsFetched y (n + 1) (record_allocation ∷ more) = fetched_more y n (push_bytes size) (record_allocation ∷ more) f in
        one_step (suc (length more)) (suc (length ys)) s t _ _
        (ap (act R sandbox_prefix (plain_terms most) s z ys) (fetched_first y n (push_bytes size) (record_allocation ∷ more) f)
        ∙ plain_step (push_bytes size) (uses_push size) s z ys (values.Int (pos size) ∷ operands) (does_push y.method.class _ size))
        (charged t (record w { operands = operands }) ys (length more) charges.Alloc size rest _ (λ account. (refl, refl, refl)) stopping t
        (ap (act R sandbox_prefix (plain_terms most) t w ys) (fetched_first y (n + 1) record_allocation more g)
        ∙ call_step record_allocation charges.Alloc size t w ys operands uses_allocation (does_allocation y.method.class _ size operands refl))
        (λ account. all_paid more operands rest p (record t { initialised = flags t; account = account }) y ys (n + 1 + 1) e (omega (arith, at)) (fetched_more y (n + 1) record_allocation more g) (good t fine) stopping below clean))
    all_paid is operands amounts (arrived more x _ p) r y ys n e at f fine stopping below clean =
        let s : State = at_place r y ys n (values.Ref x ∷ []) in
        let z : Frame Declared = record y { number = n; operands = values.Ref x ∷ []; paid = false } in
        let t : State = at_place r y ys (n + 1) (values.Ref x ∷ (values.Ref x ∷ [])) in
        let w : Frame Declared = record y { number = n + 1; operands = values.Ref x ∷ (values.Ref x ∷ []); paid = false } in
        let g : IsFetched y (n + 1) (check_catch ∷ more) = fetched_more y n copy (check_catch ∷ more) f in
        one_step (suc (length more)) (suc (length ys)) s t _ _
        (ap (act R sandbox_prefix (plain_terms most) s z ys) (fetched_first y n copy (check_catch ∷ more) f)
        ∙ plain_step copy uses_dup s z ys (values.Ref x ∷ (values.Ref x ∷ [])) (does_dup y.method.class _ x [] refl))
        (one_step (length more) (suc (length ys)) t (record (at_place r y ys (n + 1 + 1) (values.Ref x ∷ [])) { initialised = flags t }) _ _
        (ap (act R sandbox_prefix (plain_terms most) t w ys) (fetched_first y (n + 1) check_catch more g)
        ∙ check_passes t w ys x (values.Ref x ∷ []) refl (below x) (clean x))
        (all_paid more (values.Ref x ∷ []) amounts p (record t { initialised = flags t }) y ys (n + 1 + 1) e (omega (arith, at)) (fetched_more y (n + 1) check_catch more g) (good t fine) stopping below clean))
    all_paid is operands amounts (invocation more _ rest p) r y ys n e at f fine stopping below clean =
        let s : State = at_place r y ys n operands in
        let z : Frame Declared = record y { number = n; operands = operands; paid = false } in
        charged s z ys (length more) charges.Invoke 1 rest _ (λ account. (refl, refl, refl)) stopping s
        (ap (act R sandbox_prefix (plain_terms most) s z ys) (fetched_first y n record_invocation more f) ∙ call_step record_invocation charges.Invoke 1 s z ys operands uses_invocation (does_invocation y.method.class _))
        (λ account. all_paid more operands rest p (record s { initialised = flags s; account = account }) y ys (n + 1) e (omega (arith, at)) (fetched_more y n record_invocation more f) (good s fine) stopping below clean)
    all_paid is operands amounts (array element i under more rest p) r y ys n e at f fine stopping below clean =
        let size : ℕ = element_size element in
        let s : State = at_place r y ys n (values.Int i ∷ under) in
        let z : Frame Declared = record y { number = n; operands = values.Int i ∷ under; paid = false } in
        let t : State = at_place r y ys (n + 1) (values.Int i ∷ (values.Int i ∷ under)) in
        let w : Frame Declared = record y { number = n + 1; operands = values.Int i ∷ (values.Int i ∷ under); paid = false } in
        let u : State = at_place r y ys (n + 1 + 1) (values.Int (pos size) ∷ (values.Int i ∷ (values.Int i ∷ under))) in
        let v : Frame Declared = record y { number = n + 1 + 1; operands = values.Int (pos size) ∷ (values.Int i ∷ (values.Int i ∷ under)); paid = false } in
        let g : IsFetched y (n + 1) (push_bytes size ∷ record_array ∷ more) = fetched_more y n copy (push_bytes size ∷ record_array ∷ more) f in
        let h : IsFetched y (n + 1 + 1) (record_array ∷ more) = fetched_more y (n + 1) (push_bytes size) (record_array ∷ more) g in
        one_step (suc (suc (length more))) (suc (length ys)) s t _ _
        (ap (act R sandbox_prefix (plain_terms most) s z ys) (fetched_first y n copy (push_bytes size ∷ record_array ∷ more) f)
        ∙ plain_step copy uses_dup s z ys (values.Int i ∷ (values.Int i ∷ under)) (does_dup_int y.method.class _ i under refl))
        (one_step (suc (length more)) (suc (length ys)) t u _ _
        (ap (act R sandbox_prefix (plain_terms most) t w ys) (fetched_first y (n + 1) (push_bytes size) (record_array ∷ more) g)
        ∙ plain_step (push_bytes size) (uses_push size) t w ys (values.Int (pos size) ∷ (values.Int i ∷ (values.Int i ∷ under))) (does_push y.method.class _ size))
        (charged u (record v { operands = values.Int i ∷ under }) ys (length more) charges.Alloc (array_charge element (values.Int i ∷ under)) rest _ (λ account. (refl, refl, refl)) stopping u
        (ap (act R sandbox_prefix (plain_terms most) u v ys) (fetched_first y (n + 1 + 1) record_array more h)
        ∙ call_step record_array charges.Alloc (array_charge element (values.Int i ∷ under)) u v ys (values.Int i ∷ under) uses_array (does_array y.method.class _ element i under (values.Int i ∷ under) refl))
        (λ account. all_paid more (values.Int i ∷ under) rest p (record u { initialised = flags u; account = account }) y ys (n + 1 + 1 + 1) e (omega (arith, at)) (fetched_more y (n + 1 + 1) record_array more h) (good u fine) stopping below clean)))
