-- Each act and each payment keeps a metered run within its ways.
use Rattle.std.proofs.Common.{◌≡◌, ℕ, suc, ◌+◌, ◌*◌, ◌<◌, ◌≤◌, ◌++◌, Bool, true, false, List, [], ◌∷◌, Option, Some, None, refl, sym, ap, subst, ◌∙◌, inl, inr, arith}
use Rattle.std.specs.Prelude.{⊤}
use Rattle.dj_names.specs.declared.run.Charge.{Charge}
use Rattle.dj_names.specs.declared.run.Charge.TheVariants as charges
use Rattle.dj_names.specs.declared.run.Costs.{Costs}
use Rattle.dj_names.specs.declared.run.Thresholds.{Thresholds}
use Rattle.dj_names.specs.declared.run.Value.{Value}
use Rattle.dj_names.specs.trusted.Types.{Name}
use Rattle.dj_model.specs.trusted.Types.{Declared}
use Rattle.dj_model.specs.trusted.Instructions.{Instruction, Branch, Goto, Switch, Invoke, Throw, New, NewArray}
use Rattle.dj_model.specs.trusted.Program.{Program, Code, code_of}
use Rattle.dj_model.specs.trusted.State.{Account, Frame, State, instruction_at, Effect}
use Rattle.dj_model.specs.trusted.Charging.{Charged, Fine, Over, passes, added, charge_after, charge_one}
use Rattle.dj_model.specs.trusted.Effects.{used_class}
use Rattle.dj_model.specs.trusted.Initialisation.{Initialised, Ready, Waits, Fails}
use Rattle.dj_model.specs.trusted.Step.{StepAnswer, Went, Ended, IllFormed, part_of, settled, prepared, done, act, step_of, step}
use Rattle.dj_model.specs.Charging.{Amount, then_charge, charge_all}
use Rattle.dj_model.specs.Effects.{pays}
use Rattle.dj_model.specs.Runs.{starts_handler, arrival, metered_terms, amounts, with_paid}
use Rattle.dj_model.specs.Sound.{IsSound}
use Rattle.dj_model.specs.Laws.{IsLess, IsPaid}
use Rattle.dj_model.specs.Standing.{AsksNothing, HasSoundEffect, IsAt, IsReady}
use Rattle.dj_model.specs.trusted.Kinds.{Kinds}
use Rattle.dj_model.proofs.Flows.{either_way}
use Rattle.dj_model.proofs.SoundCalls.{kinds_kept}
use Rattle.dj_model.proofs.SoundFrames.{code_is, left_there, within}
use Rattle.dj_sim.specs.Metering.{one_if}
use Rattle.dj_sim.proofs.SoundTurns.{found_there, linked_there}
use Rattle.dj_bounds.specs.Acts.{way, code_length, AreShort, goes_elsewhere, is_at_handler, weight, spent, begun, arrived, paid_ways, ways, IsBounded, most_ways}
use Rattle.dj_bounds.specs.Bytes.{alloc_of}
use Rattle.dj_bounds.proofs.Marks.{InitSpends, begun_all, initialise_spends}
use Rattle.dj_bounds.proofs.Spending.{Spends, settle_pays}

-- ---- acts

module _ (program : Program) (sound : IsSound program []) (quiet : AsksNothing program) (short : AreShort program) (most : Thresholds) where
  module _ (x : Frame Declared) (ready : IsReady program x) where
    abbrev at : IsAt program x
    at = ready.at

    abbrev left : Kinds
    left = (left_there program [] sound x at).0

    pub within_code : x.number < code_length (code_of program x.method)
    within_code = subst (λ (c : Option Code). x.number < code_length c) (sym (code_is program x.method at.method at.code at.there at.body)) (within program [] sound x at)

    -- the instruction has an effect, which keeps the kinds
    pub sound_effect : (t : State) → HasSoundEffect program [] (metered_terms most) x.method.class at.signature at.code at.instruction at.before left (part_of x t)
    sound_effect t = elim (kinds_kept program [] (metered_terms most) x.method.class at.signature at.code at.instruction at.before left (part_of x t) sound (linked_there program sound x ready)
        (record { locals = at.locals; operands = ready.operands }) at.room (left_there program [] sound x at).1) [
          | inl d ↦ d
          | inr starved ↦ absurd (let no : None ≡ Some starved.question = sym (quiet starved.class starved.method starved.id starved.there.0 starved.there.1 starved.body starved.arguments) ∙ starved.asks in cc)
        ]

    later : (n : ℕ) (before now : List Bool) (a : StepAnswer) → begun program program before ≤ begun program program now → Spends program short n now a → Spends program short n before a
    later n before now (Went t) l k = omega (arith, l, k)
    later n before now (Ended outcome t) l k = tt
    later n before now IllFormed l k = tt

    done_spends : (s : State) (below : List (Frame Declared)) → s.frames ≡ x ∷ below → x.paid ≡ true → (r : Initialised) → InitSpends program s r
        → Spends program short (spent program true (x ∷ below)) s.initialised (done program [] (metered_terms most) x below at.instruction r)
    done_spends s below frames paid (Ready t) k =
        let d = sound_effect t in
        subst (λ (o : Option Effect). Spends program short (spent program true (x ∷ below)) s.initialised (settled program [] (metered_terms most) t x below o)) (sym d.has)
        (later (spent program true (x ∷ below)) s.initialised t.initialised _ k.1
        (settle_pays program short most t x below at.signature at.code at.instruction at.before left d.does.part d.does.flow within_code paid (found_there program sound x ready) d.sound))
    done_spends s below frames paid (Waits t) k = omega (arith, k, ap (spent program true) frames)
    done_spends s below frames paid (Fails outcome t) k = tt

    prepared_spends : (used : Option Name) (s : State) → InitSpends program s (prepared program [] (metered_terms most) used s)
    prepared_spends None s = (refl, omega arith)
    prepared_spends (Some class) s = initialise_spends program short [] (metered_terms most) class s

    pub step_spends : (s : State) (below : List (Frame Declared)) → s.frames ≡ x ∷ below → x.paid ≡ true
        → Spends program short (spent program true (x ∷ below)) s.initialised (step program [] (metered_terms most) s)
    unfolding step
    step_spends s below frames paid =
        subst (λ (fs : List (Frame Declared)). Spends program short (spent program true (x ∷ below)) s.initialised (step_of program [] (metered_terms most) s fs)) (sym frames)
        (subst (λ (o : Option Instruction). Spends program short (spent program true (x ∷ below)) s.initialised (act program [] (metered_terms most) s x below o)) (sym (found_there program sound x ready))
        (done_spends s below frames paid (prepared program [] (metered_terms most) (used_class program [] at.instruction) s) (prepared_spends (used_class program [] at.instruction) s)))

    -- one instruction more is within the ways
    pub acts_within : (acts : ℕ) (s : State) (below : List (Frame Declared)) → s.frames ≡ x ∷ below → IsBounded program acts s → suc acts ≤ way * ways program s
    acts_within acts s below frames bounded = omega (arith, bounded, ap (spent program true) frames, within_code)

    pub act_bounded : (acts : ℕ) (s t : State) (below : List (Frame Declared)) → s.frames ≡ x ∷ below → x.paid ≡ true → step program [] (metered_terms most) s ≡ Went t
        → IsLess s.account.costs t.account.costs → IsBounded program acts s → IsBounded program (acts + 1) t
    act_bounded acts s t below frames paid went less bounded =
        let spends : Spends program short (spent program true (x ∷ below)) s.initialised (Went t) = subst (Spends program short (spent program true (x ∷ below)) s.initialised) went (step_spends s below frames paid) in
        let none : arrived program (x ∷ below) ≡ 0 = rw paid refl in
        omega (arith, bounded, spends, none, ap (spent program true) frames, ap (arrived program) frames, less.invoke, less.jump, less.throw)

-- ---- the ways under the thresholds

one_at_most : (b : Bool) → one_if b ≤ 1
one_at_most true = omega arith
one_at_most false = omega arith

pub arrived_once : (program : Program) (frames : List (Frame Declared)) → arrived program frames ≤ 1
arrived_once program [] = omega arith
arrived_once program (x ∷ below) = one_at_most (is_at_handler program x)

pub ways_within : (program : Program) (most : Thresholds) (s : State) → IsPaid most s.account → ways program s ≤ most_ways program most
ways_within program most s paid = omega (arith, paid.within.invoke, paid.within.jump, paid.within.throw, begun_all program program s.initialised, arrived_once program s.frames)

-- ---- payments

abbrev pub sums : List Amount → Costs → Costs
sums [] c = c
sums (a ∷ rest) c = sums rest (added c a.charge a.amount)

abbrev FineIs : Costs → Charged → Type 0
FineIs c (Fine account) = account.costs ≡ c
FineIs c (Over charge account) = ⊤

one_added : (most : Thresholds) (a : Account) (charge : Charge) (n : ℕ) → FineIs (added a.costs charge n) (charge_one most a charge n)
unfolding charge_one
one_added most a charge n = go a.exceeded where
  go : (before : Option Charge) → FineIs (added a.costs charge n) (charge_after most a charge n before)
  go None = either_way (FineIs (added a.costs charge n)) (passes most (added a.costs charge n) charge) _ _ tt refl
  go (Some before) = tt

all_added : (most : Thresholds) (all : List Amount) (a : Account) → FineIs (sums all a.costs) (charge_all most all a)
unfolding charge_all
all_added most [] a = refl
all_added most (x ∷ rest) a = go (charge_one most a x.charge x.amount) (one_added most a x.charge x.amount) (λ b. all_added most rest b) where
  go : (c : Charged) → FineIs (added a.costs x.charge x.amount) c → ((b : Account) → FineIs (sums rest b.costs) (charge_all most rest b))
      → FineIs (sums rest (added a.costs x.charge x.amount)) (then_charge (charge_all most rest) c)
  go (Fine b) e more = subst (λ (c : Costs). FineIs (sums rest c) (charge_all most rest b)) e (more b)
  go (Over charge b) e more = tt

-- what these charges add: one for an arrival, one for a new way, and bytes
abbrev Adds : ℕ → ℕ → ℕ → Costs → Costs → Type 0
Adds arrivals jumps bytes c d = (paid_ways c + arrivals + jumps ≤ paid_ways d) × (d.alloc ≡ c.alloc + bytes) × (c.throw + arrivals ≤ d.throw)

own_adds : (program : Program) (i : Instruction) (operands : List Value) (c : Costs)
    → Adds 0 (one_if (goes_elsewhere (Some i))) (alloc_of (pays program [] i operands)) c (sums (pays program [] i operands) c)
unfolding pays
own_adds program (Branch test target) operands c = (omega arith, omega arith, omega arith)
own_adds program (Goto target) operands c = (omega arith, omega arith, omega arith)
own_adds program (Switch pairs default) operands c = (omega arith, omega arith, omega arith)
own_adds program (Invoke mode m) operands c = (omega arith, omega arith, omega arith)
own_adds program Throw operands c = (omega arith, omega arith, omega arith)
own_adds program (New class) operands c = (omega arith, omega arith, omega arith)
own_adds program (NewArray class element) operands c = (omega arith, omega arith, omega arith)
own_adds program i operands c = (omega arith, omega arith, omega arith)

both_add : (program : Program) (arrives : Bool) (i : Instruction) (operands : List Value) (c : Costs)
    → Adds (one_if arrives) (one_if (goes_elsewhere (Some i))) (alloc_of (pays program [] i operands)) c (sums (arrival arrives ++ pays program [] i operands) c)
both_add program false i operands c = own_adds program i operands c
both_add program true i operands c =
    let more = own_adds program i operands (added c charges.Throw 1) in (omega (arith, more.0), omega (arith, more.1), omega (arith, more.2))

-- the charges of the top frame's next instruction
pub payment_adds : (program : Program) (most : Thresholds) (s : State) (x : Frame Declared) (below : List (Frame Declared)) (i : Instruction) (account : Account)
    → s.frames ≡ x ∷ below → instruction_at program x ≡ Some i → charge_all most (amounts program [] s) s.account ≡ Fine account
    → Adds (one_if (starts_handler (code_of program x.method) x.number)) (one_if (goes_elsewhere (Some i))) (alloc_of (pays program [] i x.operands)) s.account.costs account.costs
unfolding amounts
payment_adds program most s x below i account frames at fine =
    let these : amounts program [] s ≡ arrival (starts_handler (code_of program x.method) x.number) ++ pays program [] i x.operands = rw (frames, at) refl in
    let costs : account.costs ≡ sums (arrival (starts_handler (code_of program x.method) x.number) ++ pays program [] i x.operands) s.account.costs =
    subst (λ (l : List Amount). account.costs ≡ sums l s.account.costs) these (subst (FineIs (sums (amounts program [] s) s.account.costs)) fine (all_added most (amounts program [] s) s.account)) in
    subst (Adds (one_if (starts_handler (code_of program x.method) x.number)) (one_if (goes_elsewhere (Some i))) (alloc_of (pays program [] i x.operands)) s.account.costs) (sym costs)
    (both_add program (starts_handler (code_of program x.method) x.number) i x.operands s.account.costs)

pub pay_bounded : (program : Program) (most : Thresholds) (acts : ℕ) (s : State) (x : Frame Declared) (below : List (Frame Declared)) (i : Instruction) (account : Account)
    → s.frames ≡ x ∷ below → x.paid ≡ false → instruction_at program x ≡ Some i → charge_all most (amounts program [] s) s.account ≡ Fine account
    → IsBounded program acts s → IsBounded program acts (record s { account = account; frames = with_paid s.frames })
pay_bounded program most acts s x below i account frames unpaid at fine bounded =
    let adds = payment_adds program most s x below i account frames at fine in
    let before : arrived program (x ∷ below) ≡ one_if (starts_handler (code_of program x.method) x.number) = rw unpaid refl in
    let owed : spent program true (x ∷ below) + weight (goes_elsewhere (Some i)) ≡ spent program true (record x { paid = true } ∷ below) = rw (unpaid, at) omega arith in
    omega (
      arith,
      bounded,
      adds.0,
      before,
      owed,
      ap (spent program true) frames,
      ap (arrived program) frames,
      ap (λ (fs : List (Frame Declared)). spent program true (with_paid fs)) frames,
      ap (λ (fs : List (Frame Declared)). arrived program (with_paid fs)) frames,
    )
