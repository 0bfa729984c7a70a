-- Turn by turn: runs end in one way, and what the two turns of an instruction do where its frame stands alone.
use Rattle.std.proofs.Common.{◌≡◌, ℕ, zero, suc, ◌+◌, Bool, true, false, if◌then◌else◌, List, [], ◌∷◌, ◌++◌, length, reverse, Option, Some, slice_get, Contains, refl, sym, ap, ◌∙◌, add-one, suc-add, zero-add, arith}
use Rattle.std.specs.List.{flat_map}
use Rattle.std.proofs.lemmas.List.{reverse-append}
use Rattle.std.proofs.lemmas.Grind.{flat_map-append}
use Rattle.std.proofs.lemmas.List.Elements.{Contains-append_left, Contains-append_right, Contains-push}
use Rattle.dj_names.specs.declared.run.Value.{Value}
use Rattle.dj_names.specs.declared.run.Charge.{Charge}
use Rattle.dj_names.specs.declared.run.Costs.{Costs}
use Rattle.dj_names.specs.declared.run.Thresholds.{Thresholds}
use Rattle.dj_names.specs.declared.run.Raised.{Raised}
use Rattle.dj_names.specs.declared.run.Message.TheVariants as messages
use Rattle.dj_names.specs.declared.run.Outcome.{Outcome}
use Rattle.dj_names.specs.declared.run.Outcome.TheVariants as outcomes
use Rattle.dj_names.specs.trusted.Values.{raised_class}
use Rattle.dj_straight.specs.trusted.Objects.{Object}
use Rattle.dj_straight.specs.trusted.Program.{Name, same_name, Program, Class, MethodName, Code, class_at, fields_of, code_of, chain, has_initialiser, is_initialiser}
use Rattle.dj_straight.specs.Program.{HasNoFields}
use Rattle.dj_straight.specs.trusted.State.{Frame, State}
use Rattle.dj_straight.specs.trusted.Instructions.{Instruction}
use Rattle.dj_straight.specs.trusted.Effects.{Terms, StraightPart, Next, Raise, Back, Broken, Full, Effect, effect, object_at}
use Rattle.dj_straight.specs.trusted.Initialisation.{Ready, initialiser_frames, statics_of, with_constants, constants_of, without}
use Rattle.dj_straight.specs.trusted.Step.{Answer, Went, Ended, IllFormed, step, unwound, raise, settled, result_outcome, at_number, part_of, new_exception}
use Rattle.dj_straight.specs.trusted.Charges.{amounts, own_amounts, paid, Payment, Paid, Exceeds}
use Rattle.dj_straight.specs.trusted.Metered.{Run, Goes, Ends, Stuck, turn, turns, then_turn, turns_from, run, RunsTo, begin, metered_terms, start_state, input_heap, payment_run, answer_run}

-- ---- more turns

state_in : State → Run → State
state_in s (Goes next) = next
state_in s _ = s

same_state : (s next : State) → Goes s ≡ Goes next → s ≡ next
unfolding state_in
same_state s next e = ap (state_in s) e

turn_more : (first more : State → Run) (next : State) (r after : Run) → ((t : State) → first t ≡ Goes next → more t ≡ after)
    → then_turn first r ≡ Goes next → then_turn more r ≡ after
turn_more first more next (Goes t) after each e = each t e
turn_more first more next (Ends outcome costs) after each e = absurd cc
turn_more first more next Stuck after each e = absurd cc

pub turns_more : (program : Program) (most : Thresholds) (m n : ℕ) (s next : State) → turns program most m s ≡ Goes next
    → turns program most (m + n) s ≡ turns program most n next
unfolding turns
turns_more program most zero n s next e = rw (zero-add, same_state s next e) refl
turns_more program most (suc m) n s next e =
    rw (suc-add m n) (turn_more (turns program most m) (turns program most (m + n)) next (turn program most s) (turns program most n next)
    (λ t h. turns_more program most m n t next h) e)

turn_ended : (first more : State → Run) (outcome : Outcome) (costs : Costs) (r : Run)
    → ((t : State) → first t ≡ Ends outcome costs → more t ≡ Ends outcome costs) → then_turn first r ≡ Ends outcome costs
    → then_turn more r ≡ Ends outcome costs
turn_ended first more outcome costs (Goes t) each e = each t e
turn_ended first more outcome costs (Ends o c) each e = e
turn_ended first more outcome costs Stuck each e = e

pub turns_ended : (program : Program) (most : Thresholds) (m n : ℕ) (s : State) (outcome : Outcome) (costs : Costs)
    → turns program most m s ≡ Ends outcome costs → turns program most (m + n) s ≡ Ends outcome costs
unfolding turns
turns_ended program most zero n s outcome costs e = absurd cc
turns_ended program most (suc m) n s outcome costs e =
    rw (suc-add m n) (turn_ended (turns program most m) (turns program most (m + n)) outcome costs (turn program most s)
    (λ t h. turns_ended program most m n t outcome costs h) e)

from_ended : (program : Program) (most : Thresholds) (m n : ℕ) (a : Answer) (outcome : Outcome) (costs : Costs)
    → turns_from program most m a ≡ Ends outcome costs → turns_from program most (m + n) a ≡ Ends outcome costs
from_ended program most m n (Went s) outcome costs e = turns_ended program most m n s outcome costs e
from_ended program most m n (Ended o s) outcome costs e = e
from_ended program most m n IllFormed outcome costs e = e

pub run_ended : (program : Program) (entry : MethodName) (input : List ℕ) (most : Thresholds) (m n : ℕ) (outcome : Outcome) (costs : Costs)
    → run program entry input most m ≡ Ends outcome costs → run program entry input most (m + n) ≡ Ends outcome costs
run_ended program entry input most m n outcome costs e = from_ended program most m n (begin program entry input (metered_terms most)) outcome costs e

pub same_end : (program : Program) (entry : MethodName) (input : List ℕ) (most : Thresholds) (o o' : Outcome) (c c' : Costs)
    → RunsTo program entry input most o c → RunsTo program entry input most o' c' → (o ≡ o') × (c ≡ c')
same_end program entry input most o o' c c' a b =
    let left : run program entry input most (a.0 + b.0) ≡ Ends o c = run_ended program entry input most a.0 b.0 o c a.1 in
    let right : run program entry input most (b.0 + a.0) ≡ Ends o' c' = run_ended program entry input most b.0 a.0 o' c' b.1 in
    let turned : b.0 + a.0 ≡ a.0 + b.0 = omega arith in
    let both : Ends o c ≡ Ends o' c' = sym left ∙ (ap (λ n. run program entry input most n) (sym turned) ∙ right) in
    (cc, cc)

-- ---- a frame that stands alone

-- the frame stands alone at an unpaid instruction of code without handlers
pub record Stands (program : Program) (s : State) (f : Frame) (code : Code) (i : Instruction) : Type 0 where
  pub frames : s.frames ≡ f ∷ []
  pub code_is : code_of program f.method ≡ Some code
  pub no_handlers : code.ranges ≡ []
  pub at : slice_get code.instructions f.number ≡ Some i
  pub unpaid : f.paid ≡ false
  pub no_initialiser : is_initialiser f.method ≡ false

its_amounts : (program : Program) (s : State) (f : Frame) (code : Code) (i : Instruction) → Stands program s f code i
    → amounts program s ≡ own_amounts program (Some i) f.operands
unfolding amounts
its_amounts program s f code i stands = rw (stands.frames, stands.code_is, stands.no_handlers, stands.at) refl

-- the frame, paid
abbrev paid_frame : Frame → Frame
paid_frame f = record f { paid = true }

-- the state after the payment
abbrev paid_state : State → Frame → Costs → State
paid_state s f costs = record s { costs = costs; frames = paid_frame f ∷ [] }

first_turn : (program : Program) (most : Thresholds) (s : State) (f : Frame) (code : Code) (i : Instruction) → Stands program s f code i
    → (payment : Payment) → paid most s.costs (own_amounts program (Some i) f.operands) ≡ payment → turn program most s ≡ payment_run s payment
unfolding turn
first_turn program most s f code i stands payment e =
    rw (its_amounts program s f code i stands, e) (rw (stands.frames, stands.unpaid) refl)

first_paid : (program : Program) (most : Thresholds) (s : State) (f : Frame) (code : Code) (i : Instruction) → Stands program s f code i
    → (costs : Costs) → paid most s.costs (own_amounts program (Some i) f.operands) ≡ Paid costs → turn program most s ≡ Goes (paid_state s f costs)
first_paid program most s f code i stands costs e = rw (first_turn program most s f code i stands (Paid costs) e) (rw stands.frames refl)

pub turns_stopped : (program : Program) (most : Thresholds) (s : State) (f : Frame) (code : Code) (i : Instruction)
    → Stands program s f code i
    → (charge : Charge) (costs : Costs) → paid most s.costs (own_amounts program (Some i) f.operands) ≡ Exceeds charge costs
    → turns program most 1 s ≡ Ends (outcomes.Stopped charge) costs
unfolding turns
turns_stopped program most s f code i stands charge costs e = rw (first_turn program most s f code i stands (Exceeds charge costs) e) refl

second_turn : (program : Program) (most : Thresholds) (s : State) (f : Frame) (code : Code) (i : Instruction) → Stands program s f code i
    → (costs : Costs) (e : Effect) → effect program (metered_terms most) i (part_of f s) ≡ Some e
    → turn program most (paid_state s f costs) ≡ answer_run (settled program (metered_terms most) (paid_state s f costs) (paid_frame f) [] (Some e))
unfolding turn step
second_turn program most s f code i stands costs e h = rw (stands.code_is, stands.at, h) refl

last_turn : (r : Run) → then_turn (λ t. Goes t) r ≡ r
last_turn (Goes t) = refl
last_turn (Ends outcome costs) = refl
last_turn Stuck = refl

two_turns : (program : Program) (most : Thresholds) (s : State) (f : Frame) (code : Code) (i : Instruction) → Stands program s f code i
    → (costs : Costs) → paid most s.costs (own_amounts program (Some i) f.operands) ≡ Paid costs
    → (e : Effect) → effect program (metered_terms most) i (part_of f s) ≡ Some e
    → turns program most 2 s ≡ answer_run (settled program (metered_terms most) (paid_state s f costs) (paid_frame f) [] (Some e))
unfolding turns
two_turns program most s f code i stands costs payment e h =
    rw (first_paid program most s f code i stands costs payment) (last_turn _ ∙ second_turn program most s f code i stands costs e h)

pub turns_next : (program : Program) (most : Thresholds) (s : State) (f : Frame) (code : Code) (i : Instruction) → Stands program s f code i
    → (costs : Costs) → paid most s.costs (own_amounts program (Some i) f.operands) ≡ Paid costs
    → (p : StraightPart) → effect program (metered_terms most) i (part_of f s) ≡ Some (record { part = p; flow = Next })
    → turns program most 2 s ≡ Goes (record s { heap = p.heap; statics = p.statics; literals = p.literals; frames = at_number f p (f.number + 1) ∷ []; costs = costs })
turns_next program most s f code i stands costs payment p h =
    two_turns program most s f code i stands costs payment (record { part = p; flow = Next }) h

pub turns_back : (program : Program) (most : Thresholds) (s : State) (f : Frame) (code : Code) (i : Instruction) → Stands program s f code i
    → (costs : Costs) → paid most s.costs (own_amounts program (Some i) f.operands) ≡ Paid costs
    → (p : StraightPart) (result : Option Value) → effect program (metered_terms most) i (part_of f s) ≡ Some (record { part = p; flow = Back result })
    → turns program most 2 s ≡ Ends (result_outcome p.heap result) costs
turns_back program most s f code i stands costs payment p result h =
    two_turns program most s f code i stands costs payment (record { part = p; flow = Back result }) h

pub turns_broken : (program : Program) (most : Thresholds) (s : State) (f : Frame) (code : Code) (i : Instruction)
    → Stands program s f code i
    → (costs : Costs) → paid most s.costs (own_amounts program (Some i) f.operands) ≡ Paid costs
    → (p : StraightPart) → effect program (metered_terms most) i (part_of f s) ≡ Some (record { part = p; flow = Broken })
    → turns program most 2 s ≡ Ends outcomes.Link costs
turns_broken program most s f code i stands costs payment p h =
    two_turns program most s f code i stands costs payment (record { part = p; flow = Broken }) h

pub turns_full : (program : Program) (most : Thresholds) (s : State) (f : Frame) (code : Code) (i : Instruction)
    → Stands program s f code i → (costs : Costs) → paid most s.costs (own_amounts program (Some i) f.operands) ≡ Paid costs
    → (p : StraightPart) (used size : ℕ) → effect program (metered_terms most) i (part_of f s) ≡ Some (record { part = p; flow = Full used size })
    → turns program most 2 s ≡ Ends (outcomes.HeapFull used size) costs
turns_full program most s f code i stands costs payment p used size h =
    two_turns program most s f code i stands costs payment (record { part = p; flow = Full used size }) h

slice_last : (objects : List Object) (new : Object) → slice_get (objects ++ new ∷ []) (length objects) ≡ Some new
slice_last [] new = refl
slice_last (o ∷ objects) new = slice_last objects new

-- the object that is made next
new_object : (objects : List Object) (new : Object) → object_at (objects ++ new ∷ []) (length objects + 1) ≡ Some new
new_object objects new = rw add-one (slice_last objects new)

-- where its frame stands alone, a new exception ends the run, without message
raised_ends : (program : Program) (most : Thresholds) (s : State) (f : Frame) (code : Code) (i : Instruction) → Stands program s f code i
    → (p : StraightPart) (costs : Costs) (class : Name)
    → answer_run (raise program (metered_terms most) (record (paid_state s f costs) { heap = p.heap; statics = p.statics; literals = p.literals }) class)
    ≡ Ends (outcomes.Threw class messages.Null) costs
unfolding unwound
raised_ends program most s f code i stands p costs class =
    rw (stands.code_is, stands.no_handlers, stands.no_initialiser, new_object p.heap.objects (new_exception class)) refl

pub turns_raise : (program : Program) (most : Thresholds) (s : State) (f : Frame) (code : Code) (i : Instruction)
    → Stands program s f code i
    → (costs : Costs) → paid most s.costs (own_amounts program (Some i) f.operands) ≡ Paid costs
    → (p : StraightPart) (raised : Raised) → effect program (metered_terms most) i (part_of f s) ≡ Some (record { part = p; flow = Raise raised })
    → turns program most 2 s ≡ Ends (outcomes.Threw (raised_class raised) messages.Null) costs
turns_raise program most s f code i stands costs payment p raised h =
    two_turns program most s f code i stands costs payment (record { part = p; flow = Raise raised }) h
    ∙ raised_ends program most s f code i stands p costs (raised_class raised)

-- ---- the beginning

-- the state at the beginning where no field has a constant and no initialiser has to run
abbrev pub first_state : Program → MethodName → List ℕ → State
first_state program entry input =
    record (start_state program entry (input_heap input)) { initialised = reverse (chain program entry.class) }

chosen_none : (b : Bool) (x y : Option Class) → fields_of x ≡ [] → fields_of y ≡ [] → fields_of (if b then x else y) ≡ []
chosen_none true x y first second = first
chosen_none false x y first second = second

fields_none : (program : Program) → HasNoFields program → (name : Name) → fields_of (class_at program name) ≡ []
fields_none [] none name = refl
fields_none (c ∷ classes) none name =
    chosen_none (same_name c.name name) (Some c) (class_at classes name) none.0 (fields_none classes none.1 name)

pub statics_none : (program : Program) → HasNoFields program → statics_of program ≡ []
statics_none [] none = refl
statics_none (c ∷ classes) none = rw (none.0, statics_none classes none.1) refl

constants_none : (program : Program) (terms : Terms) (classes : List Name) (s : State) → ((name : Name) → fields_of (class_at program name) ≡ [])
    → constants_of program terms classes s ≡ Ready s
unfolding constants_of with_constants
constants_none program terms [] s none = refl
constants_none program terms (class ∷ classes) s none = rw (none class) (constants_none program terms classes s none)

without_none : (classes : List Name) → without [] classes ≡ classes
without_none [] = refl
without_none (class ∷ classes) = ap (λ more. class ∷ more) (without_none classes)

contains_later : {X : Type 0} (y : X) (xs : List X) (x : X) → Contains xs x → Contains (y ∷ xs) x
contains_later y xs x c = Contains-append_right (y ∷ []) xs x c

nothing_reversed : {X Y : Type 0} (f : X → List Y) (xs : List X) → ((x : X) → Contains xs x → f x ≡ []) → flat_map f (reverse xs) ≡ []
nothing_reversed f [] none = refl
nothing_reversed f (x ∷ xs) none =
    let here : f x ≡ [] = none x (Contains-append_left (x ∷ []) xs x (Contains-push [] x)) in
    rw (reverse-append (x ∷ []) xs, flat_map-append, nothing_reversed f xs (λ y c. none y (contains_later x xs y c)), here) refl

no_frames : (program : Program) (class : Name) → ((above : Name) → Contains (chain program class) above → has_initialiser program above ≡ false)
    → initialiser_frames program (reverse (chain program class)) ≡ []
no_frames program class none = nothing_reversed _ (chain program class) (λ above c. rw (none above c) refl)

pub begins_plainly : (program : Program) (entry : MethodName) (input : List ℕ) (most : Thresholds) → HasNoFields program
    → ((class : Name) → Contains (chain program entry.class) class → has_initialiser program class ≡ false)
    → begin program entry input (metered_terms most) ≡ Went (first_state program entry input)
unfolding begin
begins_plainly program entry input most no_fields none =
    rw (
      without_none (chain program entry.class),
      constants_none program (metered_terms most) (reverse (chain program entry.class)) (first_state program entry input) (fields_none program no_fields),
      no_frames program entry.class none,
    ) refl
