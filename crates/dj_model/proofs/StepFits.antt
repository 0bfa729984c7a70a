-- What a step and a turn leave of the heap and of the account.
use Rattle.std.proofs.Common.{ℕ, zero, suc, ◌+◌, List, [], ◌∷◌, length, reverse, Option, Some, None, nat_eq, nat_lt, nat_le, refl, sym, subst, if◌then◌else◌, arith}
use Rattle.std.specs.Prelude.{⊤, IfSome}
use Rattle.dj_names.specs.declared.descriptor.Ty.{Ty}
use Rattle.dj_names.specs.declared.run.Value.{Value}
use Rattle.dj_names.specs.declared.run.Value.TheVariants as values
use Rattle.dj_names.specs.declared.run.Element.TheVariants as elements
use Rattle.dj_names.specs.declared.run.Charge.{Charge}
use Rattle.dj_names.specs.declared.run.Costs.{Costs}
use Rattle.dj_names.specs.declared.run.Thresholds.{Thresholds}
use Rattle.dj_names.specs.declared.run.Outcome.{Outcome}
use Rattle.dj_names.specs.declared.run.Outcome.TheVariants as outcomes
use Rattle.dj_names.specs.trusted.Heaps.{Object, Heap, object_size, with_new}
use Rattle.dj_names.specs.trusted.Types.{Name}
use Rattle.dj_edge.specs.declared.host.HostAnswer.{HostAnswer}
use Rattle.dj_model.specs.trusted.Types.{Prefix, Declared, is_stop}
use Rattle.dj_model.specs.trusted.Instructions.{Instruction}
use Rattle.dj_model.specs.trusted.Program.{Program, Field, Constant, Int, Long, Text, Unfit, class_at, fields_of, is_static, is_initialiser, code_of}
use Rattle.dj_model.specs.trusted.Linking.{chain, static_place}
use Rattle.dj_model.specs.trusted.State.{Terms, Counting, Uncounted, Metered, Accounted, Account, Frame, State, Way, Next, To, Raise, Back, Flow, Goes, Catch, Stop, Call, End, Effect, instruction_at}
use Rattle.dj_model.specs.trusted.Arrays.{Found, Null, NoArray, IsArray, array_at, passes_limit}
use Rattle.dj_model.specs.trusted.Charging.{Charged, Fine, Over, charge_one, no_costs}
use Rattle.dj_model.specs.Charging.{Amount, then_charge, charge_all}
use Rattle.dj_model.specs.trusted.Members.{Kept, with_literal}
use Rattle.dj_model.specs.trusted.Effects.{effect, used_class}
use Rattle.dj_model.specs.trusted.Initialisation.{most_frames, mark_all, not_initialised, Initialised, Ready, Waits, Fails, then_ready, with_text, with_constant, with_constants, constants_of, initialiser_frames, with_frames, initialise}
use Rattle.dj_model.specs.trusted.Step.{StepAnswer, Went, Ended, IllFormed, stopped_by, ends_with, handler_of, leaves_frame, at_handler, unwound, throw_new, new_exception, new_stop, stop_from, throw_stop_or, bytes_in, result_outcome, returned, settle_way, settle, with_part, frame_with, part_of, settled, prepared, done, act, step_of, step}
use Rattle.dj_model.specs.trusted.Runs as runs
use Rattle.dj_model.specs.Runs as more_runs
use Rattle.dj_model.specs.trusted.Runs.{input_array, empty_heap, input_heap, start_state, begun, begin, Ran}
use Rattle.dj_model.specs.Runs.{amounts, Run, Stuck, paid_run, pay, top_is_paid, answer_run, metered_terms, turn, turns, then_turn, metered_run}
use Rattle.dj_model.specs.Laws.{Grows, IsLess, IsPaid, AnswerGrows, IsEndWithin, RunWithin, IsReportedBy, IsReported, IsEndReported, AnswerReported, IsStopOver, accounted_terms}
use Rattle.dj_model.proofs.Flows.{either_way}
use Rattle.dj_model.proofs.Growth.{grows_same, grows_new, grows_then}
use Rattle.dj_model.proofs.Fits.{PlainOutcome, OutcomePaid, plain_outcome, less_same, less_then, StaysPaid, Accounts, Fits, ChargedFits, charge_fits}
use Rattle.dj_model.proofs.EffectFits as effects

reported_end : (exceeded : Option Charge) (outcome : Outcome) → PlainOutcome outcome → IsEndReported exceeded outcome
reported_end exceeded (outcomes.Stopped charge) plain = absurd plain
reported_end exceeded outcomes.OkNull plain = tt
reported_end exceeded (outcomes.OkBytes bytes) plain = tt
reported_end exceeded (outcomes.Threw class message) plain = tt
reported_end exceeded (outcomes.Init class exception message) plain = tt
reported_end exceeded outcomes.Link plain = tt
reported_end exceeded outcomes.TooDeep plain = tt
reported_end exceeded (outcomes.HeapFull used size) plain = tt
reported_end exceeded (outcomes.OutOfSteps steps) plain = tt

reported_stop : (exceeded : Option Charge) (outcome : Outcome) → PlainOutcome outcome → IsEndReported exceeded (stopped_by exceeded outcome)
reported_stop None outcome plain = reported_end None outcome plain
reported_stop (Some charge) outcome plain = refl

module _ (program : Program) (prefix : Prefix) (terms : Terms) (b : State) where
  -- how the account stands at an end
  abbrev EndPaid : Counting → Account → Account → Outcome → Type 0
  EndPaid Uncounted a c outcome = ⊤
  EndPaid (Accounted most) a c outcome = IsReported most a → IsReported most c × IsLess a.costs c.costs × IsEndReported c.exceeded outcome
  EndPaid (Metered most) a c outcome = IsPaid most a → OutcomePaid most c outcome × IsLess a.costs c.costs

  abbrev pub FromHere : State → Type 0
  FromHere t = Grows b.heap t.heap × StaysPaid terms.counting b.account t.account

  abbrev pub AnswerFits : StepAnswer → Type 0
  AnswerFits (Went t) = FromHere t
  AnswerFits (Ended outcome t) = Grows b.heap t.heap × EndPaid terms.counting b.account t.account outcome
  AnswerFits IllFormed = ⊤

  end_plain : (counting : Counting) (a c : Account) (outcome : Outcome) → PlainOutcome outcome → StaysPaid counting a c → EndPaid counting a c outcome
  end_plain Uncounted a c outcome plain k = tt
  end_plain (Accounted most) a c outcome plain k = λ reported. let now = k reported in (now.0, now.1, reported_end c.exceeded outcome plain)
  end_plain (Metered most) a c outcome plain k = λ paid. let now = k paid in (plain_outcome most c outcome plain now.0, now.1)

  ends_paid : (counting : Counting) (a c : Account) (class : Ty) (outcome : Outcome) → PlainOutcome outcome → StaysPaid counting a c
      → EndPaid counting a c (if is_stop prefix class then stopped_by c.exceeded outcome else outcome)
  ends_paid Uncounted a c class outcome plain k = tt
  ends_paid (Accounted most) a c class outcome plain k = λ reported. let now = k reported in (
    now.0,
    now.1,
    either_way (IsEndReported c.exceeded) (is_stop prefix class) _ _ (reported_stop c.exceeded outcome plain) (reported_end c.exceeded outcome plain),
  )
  ends_paid (Metered most) a c class outcome plain k = λ paid. let now = k paid in (
    either_way (OutcomePaid most c) (is_stop prefix class) _ _
        (subst (λ e. OutcomePaid most c (stopped_by e outcome)) (sym now.0.none) (plain_outcome most c outcome plain now.0)) (plain_outcome most c outcome plain now.0),
    now.1,
  )

  ends_fit : (t : State) (class : Ty) (outcome : Outcome) → PlainOutcome outcome → FromHere t → AnswerFits (ends_with prefix t class outcome)
  ends_fit t class outcome plain k = (k.0, ends_paid terms.counting b.account t.account class outcome plain k.1)

  leaves_fit : (t : State) (class : Ty) (exception : ℕ) (f : Frame Declared) (below : StepAnswer) → FromHere t → AnswerFits below
      → AnswerFits (leaves_frame prefix t class exception f below)
  leaves_fit t class exception f below k o = either_way AnswerFits (is_initialiser f.method) _ _ (ends_fit t class _ tt k) o

  handled_fit : (t : State) (class : Ty) (exception : ℕ) (f : Frame Declared) (below : List (Frame Declared)) (handler : Option ℕ) (otherwise : StepAnswer) → FromHere t
      → AnswerFits otherwise → AnswerFits (at_handler prefix t class exception f below handler otherwise)
  handled_fit t class exception f below None otherwise k o = leaves_fit t class exception f otherwise k o
  handled_fit t class exception f below (Some handler) otherwise k o = k

  unwound_fit : (t : State) (class : Ty) (exception : ℕ) (frames : List (Frame Declared)) → FromHere t → AnswerFits (unwound program prefix t class exception frames)
  unfolding unwound
  unwound_fit t class exception [] k = ends_fit t class _ tt k
  unwound_fit t class exception (f ∷ below) k =
      handled_fit t class exception f below (handler_of program prefix class f.number (code_of program f.method)) _ k (unwound_fit t class exception below k)

  throw_new_fit : (t : State) (object : Object Ty) → FromHere t → AnswerFits (throw_new program prefix terms t object)
  throw_new_fit t object k = either_way AnswerFits (passes_limit terms.limit (t.heap.used + object_size object)) _ _
      (k.0, end_plain terms.counting b.account t.account (outcomes.HeapFull t.heap.used (object_size object)) tt k.1)
      (unwound_fit (record t { heap = with_new t.heap object }) _ _ t.frames (grows_then b.heap t.heap (with_new t.heap object) k.0 (grows_new t.heap object), k.1))

  stop_fit : (t : State) (r : Option ℕ) → FromHere t → AnswerFits (throw_stop_or program prefix terms t r)
  stop_fit t None k = throw_new_fit t new_stop k
  stop_fit t (Some r) k = unwound_fit t _ r t.frames k

  bytes_plain : (found : Found Ty) → PlainOutcome (bytes_in found)
  bytes_plain Null = tt
  bytes_plain NoArray = tt
  bytes_plain (IsArray class elements.Boolean contents) = tt
  bytes_plain (IsArray class elements.Byte contents) = tt
  bytes_plain (IsArray class elements.Char contents) = tt
  bytes_plain (IsArray class elements.Short contents) = tt
  bytes_plain (IsArray class elements.Int contents) = tt
  bytes_plain (IsArray class elements.Long contents) = tt
  bytes_plain (IsArray class elements.Ref contents) = tt

  result_plain : (heap : Heap Ty) (result : Option Value) → PlainOutcome (result_outcome heap result)
  result_plain heap None = tt
  result_plain heap (Some (values.Int z)) = tt
  result_plain heap (Some (values.Long z)) = tt
  result_plain heap (Some (values.Ref r)) = either_way PlainOutcome (nat_eq r 0) _ _ tt (bytes_plain (array_at heap r))

  returned_fit : (t : State) (f : Frame Declared) (result : Option Value) (below : List (Frame Declared)) → FromHere t → AnswerFits (returned t f result below)
  returned_fit t f result [] k = (k.0, end_plain terms.counting b.account t.account (result_outcome t.heap result) (result_plain t.heap result) k.1)
  returned_fit t f result (caller ∷ below) k = k

  way_fit : (t : State) (f : Frame Declared) (below : List (Frame Declared)) (way : Way) → FromHere t → AnswerFits (settle_way program prefix terms t f below way)
  way_fit t f below Next k = k
  way_fit t f below (To number) k = k
  way_fit t f below (Raise raised) k = throw_new_fit (record t { frames = f ∷ below }) (new_exception prefix raised) k
  way_fit t f below (Back result) k = returned_fit t f result below k

  -- what the effect leaves, where the run goes on
  abbrev FlowFits : Counting → Account → Account → Flow → Type 0
  FlowFits counting a c (End outcome) = EndPaid counting a c outcome
  FlowFits counting a c (Goes way) = StaysPaid counting a c
  FlowFits counting a c (Catch exception) = StaysPaid counting a c
  FlowFits counting a c Stop = StaysPaid counting a c
  FlowFits counting a c (Call m arguments) = StaysPaid counting a c

  flow_fits : (counting : Counting) (a s c : Account) (flow : Flow) → StaysPaid counting a s → Accounts counting s c flow → FlowFits counting a c flow
  flow_fits Uncounted a s c (End outcome) k e = tt
  flow_fits Uncounted a s c (Goes way) k e = tt
  flow_fits Uncounted a s c (Catch exception) k e = tt
  flow_fits Uncounted a s c Stop k e = tt
  flow_fits Uncounted a s c (Call m arguments) k e = tt
  flow_fits (Accounted most) a s c (End outcome) k e = λ reported. let now = k reported in let then_ = e now.0 in
      (then_.0, less_then a.costs s.costs c.costs now.1 then_.1, reported_end c.exceeded outcome then_.2)
  flow_fits (Accounted most) a s c (Goes way) k e = λ reported. let now = k reported in let then_ = e now.0 in (then_.0, less_then a.costs s.costs c.costs now.1 then_.1)
  flow_fits (Accounted most) a s c (Catch exception) k e = λ reported. let now = k reported in let then_ = e now.0 in (then_.0, less_then a.costs s.costs c.costs now.1 then_.1)
  flow_fits (Accounted most) a s c Stop k e = λ reported. let now = k reported in let then_ = e now.0 in (then_.0, less_then a.costs s.costs c.costs now.1 then_.1)
  flow_fits (Accounted most) a s c (Call m arguments) k e = λ reported. let now = k reported in let then_ = e now.0 in (then_.0, less_then a.costs s.costs c.costs now.1 then_.1)
  flow_fits (Metered most) a s c (End outcome) k e = λ paid. let now = k paid in let then_ = e now.0 in (then_.0, less_then a.costs s.costs c.costs now.1 then_.1)
  flow_fits (Metered most) a s c (Goes way) k e = λ paid. let now = k paid in let then_ = e now.0 in (then_.0, less_then a.costs s.costs c.costs now.1 then_.1)
  flow_fits (Metered most) a s c (Catch exception) k e = λ paid. let now = k paid in let then_ = e now.0 in (then_.0, less_then a.costs s.costs c.costs now.1 then_.1)
  flow_fits (Metered most) a s c Stop k e = λ paid. let now = k paid in let then_ = e now.0 in (then_.0, less_then a.costs s.costs c.costs now.1 then_.1)
  flow_fits (Metered most) a s c (Call m arguments) k e = λ paid. let now = k paid in let then_ = e now.0 in (then_.0, less_then a.costs s.costs c.costs now.1 then_.1)

  settle_fit : (t : State) (f : Frame Declared) (below : List (Frame Declared)) (flow : Flow) → Grows b.heap t.heap → FlowFits terms.counting b.account t.account flow
      → AnswerFits (settle program prefix terms t f below flow)
  unfolding settle
  settle_fit t f below (Goes way) g k = way_fit t f below way (g, k)
  settle_fit t f below (Catch exception) g k = unwound_fit (record t { frames = f ∷ below }) _ exception (f ∷ below) (g, k)
  settle_fit t f below Stop g k = stop_fit (record t { frames = f ∷ below }) (stop_from prefix 1 t.heap.objects) (g, k)
  settle_fit t f below (Call m arguments) g k =
      either_way AnswerFits (nat_le most_frames (length (f ∷ below))) _ _ (g, end_plain terms.counting b.account t.account outcomes.TooDeep tt k) (g, k)
  settle_fit t f below (End outcome) g k = (g, k)

  settled_fit : (t : State) (f : Frame Declared) (below : List (Frame Declared)) (e : Option Effect) → FromHere t → IfSome e (Fits terms.counting (part_of f t))
      → AnswerFits (settled program prefix terms t f below e)
  settled_fit t f below None k fits = tt
  settled_fit t f below (Some e) k fits = settle_fit (with_part t e.part) (frame_with f e.part) below e.flow
      (grows_then b.heap t.heap e.part.heap k.0 fits.heap) (flow_fits terms.counting b.account t.account e.part.account e.flow k.1 fits.account)

  -- ---- initialisation

  abbrev InitFits : Initialised → Type 0
  InitFits (Ready t) = FromHere t
  InitFits (Waits t) = FromHere t
  InitFits (Fails outcome t) = AnswerFits (Ended outcome t)

  then_fit : (next : State → Initialised) → ((t : State) → FromHere t → InitFits (next t)) → (i : Initialised) → InitFits i → InitFits (then_ready next i)
  then_fit next each (Ready t) k = each t k
  then_fit next each (Waits t) k = k
  then_fit next each (Fails outcome t) k = k

  text_fit : (t : State) (place : ℕ) (units : List ℕ) (k : Option Kept) → FromHere t → IfSome k (λ k. Grows t.heap k.heap) → InitFits (with_text t place units k)
  text_fit t place units None here g = (here.0, end_plain terms.counting b.account t.account _ tt here.1)
  text_fit t place units (Some k) here g = (grows_then b.heap t.heap k.heap here.0 g, here.1)

  constant_fit : (t : State) (place : ℕ) (constant : Option Constant) → FromHere t → InitFits (with_constant prefix terms t place constant)
  constant_fit t place None k = k
  constant_fit t place (Some (Int z)) k = k
  constant_fit t place (Some (Long z)) k = k
  constant_fit t place (Some (Text units)) k =
      text_fit t place units (with_literal terms.limit prefix t.heap t.literals units) k (effects.kept_fits program prefix terms terms.limit t.heap t.literals units)
  constant_fit t place (Some Unfit) k = k

  constants_fit : (class : Name) (fields : List Field) (t : State) → FromHere t → InitFits (with_constants program prefix terms class fields t)
  unfolding with_constants
  constants_fit class [] t k = k
  constants_fit class (x ∷ fields) t k =
      then_fit (with_constants program prefix terms class fields) (constants_fit class fields)
      (if is_static x.flags then with_constant prefix terms t (static_place program class x.name x.desc) x.constant else Ready t)
      (either_way InitFits (is_static x.flags) _ _ (constant_fit t (static_place program class x.name x.desc) x.constant k) k)

  all_constants_fit : (classes : List Name) (t : State) → FromHere t → InitFits (constants_of program prefix terms classes t)
  unfolding constants_of
  all_constants_fit [] t k = k
  all_constants_fit (class ∷ classes) t k =
      then_fit (constants_of program prefix terms classes) (all_constants_fit classes) (with_constants program prefix terms class (fields_of (class_at program class)) t)
      (constants_fit class (fields_of (class_at program class)) t k)

  frames_fit : (frames : List (Frame Declared)) (t : State) → FromHere t → InitFits (with_frames t frames)
  frames_fit [] t k = k
  frames_fit (f ∷ frames) t k =
      either_way InitFits (nat_lt most_frames (length (f ∷ frames) + length t.frames)) _ _ (k.0, end_plain terms.counting b.account t.account outcomes.TooDeep tt k.1) k

  pub initialise_fit : (class : Name) (t : State) → FromHere t → InitFits (initialise program prefix terms class t)
  unfolding initialise
  initialise_fit class t k =
      then_fit (λ next. with_frames next (initialiser_frames program (reverse (not_initialised program t.initialised (chain program class)))))
      (frames_fit (initialiser_frames program (reverse (not_initialised program t.initialised (chain program class)))))
      (constants_of program prefix terms (reverse (not_initialised program t.initialised (chain program class)))
      (record t { initialised = mark_all program (reverse (not_initialised program t.initialised (chain program class))) t.initialised }))
      (all_constants_fit (reverse (not_initialised program t.initialised (chain program class))) _ k)

  -- ---- the step

  done_fit : (f : Frame Declared) (below : List (Frame Declared)) (i : Instruction) (p : Initialised) → InitFits p → AnswerFits (done program prefix terms f below i p)
  done_fit f below i (Ready t) k =
      settled_fit t f below (effect program prefix terms f.method.class i (part_of f t)) k (effects.effect_fits program prefix terms f.method.class i (part_of f t))
  done_fit f below i (Waits t) k = k
  done_fit f below i (Fails outcome t) k = k

  prepared_fit : (class : Option Name) (t : State) → FromHere t → InitFits (prepared program prefix terms class t)
  prepared_fit None t k = k
  prepared_fit (Some class) t k = initialise_fit class t k

  act_fit : (t : State) (f : Frame Declared) (below : List (Frame Declared)) (i : Option Instruction) → FromHere t → AnswerFits (act program prefix terms t f below i)
  act_fit t f below None k = tt
  act_fit t f below (Some i) k = done_fit f below i (prepared program prefix terms (used_class program prefix i) t) (prepared_fit (used_class program prefix i) t k)

  step_of_fit : (t : State) (frames : List (Frame Declared)) → FromHere t → AnswerFits (step_of program prefix terms t frames)
  step_of_fit t [] k = tt
  step_of_fit t (f ∷ below) k = act_fit t f below (instruction_at program f) k

  pub step_fit : (t : State) → FromHere t → AnswerFits (step program prefix terms t)
  unfolding step
  step_fit t k = step_of_fit t t.frames k

  pub begun_fit : (i : Initialised) → InitFits i → AnswerFits (begun i)
  begun_fit (Ready t) k = k
  begun_fit (Waits t) k = k
  begun_fit (Fails outcome t) k = k

  pub to_grows : (a : StepAnswer) → AnswerFits a → AnswerGrows b.heap a
  to_grows (Went t) k = k.0
  to_grows (Ended outcome t) k = k.0
  to_grows IllFormed k = tt

stays : (counting : Counting) (a : Account) → StaysPaid counting a a
stays Uncounted a = tt
stays (Accounted most) a = λ reported. (reported, less_same a.costs)
stays (Metered most) a = λ paid. (paid, less_same a.costs)

pub steps_grow : (program : Program) (prefix : Prefix) (terms : Terms) (s : State) → AnswerGrows s.heap (step program prefix terms s)
steps_grow program prefix terms s =
    to_grows program prefix terms s (step program prefix terms s) (step_fit program prefix terms s s (grows_same s.heap, stays terms.counting s.account))

-- ---- the start

begin_fits : (program : Program) (prefix : Prefix) (terms : Terms) (entry : Declared) (input : List ℕ) (answers : List HostAnswer)
    → AnswerFits program prefix terms (start_state program entry empty_heap answers) (begin program prefix terms entry input answers)
unfolding begin
begin_fits program prefix terms entry input answers =
    let b : State = start_state program entry empty_heap answers in
    let s : State = start_state program entry (input_heap input) answers in
    either_way (AnswerFits program prefix terms b) (passes_limit terms.limit (object_size (input_array input))) _ _
    (grows_same empty_heap, end_paid terms.counting b.account _) (begun_fit program prefix terms b (initialise program prefix terms entry.class s)
    (initialise_fit program prefix terms b entry.class s (grown input, stays terms.counting b.account))) where
      end_paid : (counting : Counting) (a : Account) (size : ℕ) → EndPaid program prefix terms (start_state program entry empty_heap answers) counting a a (outcomes.HeapFull 0 size)
      end_paid Uncounted a size = tt
      end_paid (Accounted most) a size = λ reported. (reported, less_same a.costs, tt)
      end_paid (Metered most) a size = λ paid. (paid, less_same a.costs)

      grown : (input : List ℕ) → Grows empty_heap (input_heap input)
      grown input = record { more = input_array input ∷ []; objects = refl; used = omega arith }

pub begins_grow : (program : Program) (prefix : Prefix) (terms : Terms) (entry : Declared) (input : List ℕ) (answers : List HostAnswer)
    → AnswerGrows empty_heap (begin program prefix terms entry input answers)
begins_grow program prefix terms entry input answers =
    to_grows program prefix terms (start_state program entry empty_heap answers) (begin program prefix terms entry input answers) (begin_fits program prefix terms entry input answers)

-- ---- metered runs

all_fit : (most : Thresholds) (charges : List Amount) (a : Account) → IsPaid most a → ChargedFits most a (charge_all most charges a)
unfolding charge_all
all_fit most [] a paid = (paid, less_same a.costs)
all_fit most (x ∷ rest) a paid = go (all_fit most rest) (charge_one most a x.charge x.amount) (charge_fits most a x.charge x.amount paid) where
  further : (c : Account) (d : Charged) → IsLess a.costs c.costs → ChargedFits most c d → ChargedFits most a d
  further c (Fine d) less k = (k.0, less_then a.costs c.costs d.costs less k.1)
  further c (Over charge d) less k = (k.0, less_then a.costs c.costs d.costs less k.1)

  go : ((c : Account) → IsPaid most c → ChargedFits most c (charge_all most rest c)) → (c : Charged) → ChargedFits most a c → ChargedFits most a (then_charge (charge_all most rest) c)
  go each (Fine c) k = further c (charge_all most rest c) k.1 (each c k.0)
  go each (Over charge c) k = k

to_within : (most : Thresholds) (a : Account) (outcome : Outcome) → OutcomePaid most a outcome → IsEndWithin most a.costs outcome
to_within most a (outcomes.Stopped charge) k = k
to_within most a outcomes.OkNull k = k.within
to_within most a (outcomes.OkBytes bytes) k = k.within
to_within most a (outcomes.Threw class message) k = k.within
to_within most a (outcomes.Init class exception message) k = k.within
to_within most a outcomes.Link k = k.within
to_within most a outcomes.TooDeep k = k.within
to_within most a (outcomes.HeapFull used size) k = k.within
to_within most a (outcomes.OutOfSteps steps) k = k.within

answer_within : (program : Program) (most : Thresholds) (b : State) (answer : StepAnswer) → AnswerFits program [] (metered_terms most) b answer → IsPaid most b.account
    → RunWithin most b.account.costs (answer_run answer)
answer_within program most b (Went t) k paid = k.1 paid
answer_within program most b (Ended outcome t) k paid = let now = k.1 paid in (to_within most t.account outcome now.0, now.1)
answer_within program most b IllFormed k paid = tt

pay_within : (most : Thresholds) (s : State) (c : Charged) → ChargedFits most s.account c → RunWithin most s.account.costs (paid_run s c)
pay_within most s (Fine account) k = k
pay_within most s (Over charge account) k = k

pub turn_within : (program : Program) (most : Thresholds) (s : State) → IsPaid most s.account → RunWithin most s.account.costs (turn program most s)
unfolding turn
turn_within program most s paid = either_way (RunWithin most s.account.costs) (top_is_paid s.frames) _ _
    (answer_within program most s (step program [] (metered_terms most) s)
    (step_fit program [] (metered_terms most) s s (grows_same s.heap, stays (Metered most) s.account)) paid)
    (pay_within most s (charge_all most (amounts program [] s) s.account) (all_fit most (amounts program [] s) s.account paid))

later_within : (most : Thresholds) (c d : Costs) (r : Run) → IsLess c d → RunWithin most d r → RunWithin most c r
later_within most c d (more_runs.Underway s) less k = (k.0, less_then c d s.account.costs less k.1)
later_within most c d (more_runs.RunEnds outcome e) less k = (k.0, less_then c d e less k.1)
later_within most c d Stuck less k = tt

mutual_within : (most : Thresholds) (c : Costs) (more : State → Run) → ((s : State) → IsPaid most s.account → RunWithin most s.account.costs (more s)) → (r : Run) → RunWithin most c r
    → RunWithin most c (then_turn more r)
mutual_within most c more each (more_runs.Underway s) k = later_within most c s.account.costs (more s) k.1 (each s k.0)
mutual_within most c more each (more_runs.RunEnds outcome d) k = k
mutual_within most c more each Stuck k = tt

turns_within : (program : Program) (most : Thresholds) (n : ℕ) (s : State) → IsPaid most s.account → RunWithin most s.account.costs (turns program most n s)
unfolding turns
turns_within program most zero s paid = (paid, less_same s.account.costs)
turns_within program most (suc n) s paid =
    mutual_within most s.account.costs (turns program most n) (turns_within program most n) (turn program most s) (turn_within program most s paid)

pub runs_within : (program : Program) (entry : Declared) (input : List ℕ) (most : Thresholds) (n : ℕ) → RunWithin most no_costs (metered_run program entry input most n)
unfolding metered_run
runs_within program entry input most n =
    mutual_within most no_costs (turns program most n) (turns_within program most n) (answer_run (begin program [] (metered_terms most) entry input []))
    (answer_within program most (start_state program entry empty_heap []) (begin program [] (metered_terms most) entry input [])
    (begin_fits program [] (metered_terms most) entry input [])
    (record { none = refl; within = record { alloc = omega arith; invoke = omega arith; jump = omega arith; throw = omega arith } }))

-- ---- runs whose charges the accounter counts

reported_answer : (program : Program) (prefix : Prefix) (limit : Option ℕ) (most : Thresholds) (b : State) (answer : StepAnswer)
    → AnswerFits program prefix (accounted_terms limit most) b answer → IsReported most b.account → AnswerReported most b.account.costs answer
reported_answer program prefix limit most b (Went t) k reported = k.1 reported
reported_answer program prefix limit most b (Ended outcome t) k reported = k.1 reported
reported_answer program prefix limit most b IllFormed k reported = tt

pub step_reported : (program : Program) (prefix : Prefix) (limit : Option ℕ) (most : Thresholds) (s : State) → IsReported most s.account
    → AnswerReported most s.account.costs (step program prefix (accounted_terms limit most) s)
step_reported program prefix limit most s reported = reported_answer program prefix limit most s (step program prefix (accounted_terms limit most) s)
    (step_fit program prefix (accounted_terms limit most) s s (grows_same s.heap, stays (Accounted most) s.account)) reported

pub begin_reported : (program : Program) (prefix : Prefix) (limit : Option ℕ) (most : Thresholds) (entry : Declared) (input : List ℕ) (answers : List HostAnswer)
    → AnswerReported most no_costs (begin program prefix (accounted_terms limit most) entry input answers)
begin_reported program prefix limit most entry input answers =
    reported_answer program prefix limit most (start_state program entry empty_heap answers) (begin program prefix (accounted_terms limit most) entry input answers)
    (begin_fits program prefix (accounted_terms limit most) entry input answers)
    (record { alloc = omega arith; invoke = omega arith; jump = omega arith; throw = omega arith })

abbrev RanReported : Thresholds → Ran → Type 0
RanReported most (runs.Going s) = IsReported most s.account
RanReported most (runs.Finished outcome s n) = IsReported most s.account × IsEndReported s.account.exceeded outcome
RanReported most runs.NoStep = ⊤

one_reported : (most : Thresholds) (r : Ran) → RanReported most r → RanReported most (runs.one_more r)
one_reported most (runs.Going s) k = k
one_reported most (runs.Finished outcome s n) k = k
one_reported most runs.NoStep k = k

then_reported : (most : Thresholds) (before : Costs) (more : State → Ran) → ((t : State) → IsReported most t.account → RanReported most (more t)) → (answer : StepAnswer)
    → AnswerReported most before answer → RanReported most (runs.then_steps more answer)
then_reported most before more each (Went t) k = one_reported most (more t) (each t k.0)
then_reported most before more each (Ended outcome t) k = (k.0, k.2)
then_reported most before more each IllFormed k = tt

steps_reported : (program : Program) (prefix : Prefix) (limit : Option ℕ) (most : Thresholds) (n : ℕ) (s : State) → IsReported most s.account
    → RanReported most (runs.steps program prefix (accounted_terms limit most) n s)
unfolding runs.steps
steps_reported program prefix limit most zero s reported = reported
steps_reported program prefix limit most (suc n) s reported =
    then_reported most s.account.costs (runs.steps program prefix (accounted_terms limit most) n) (steps_reported program prefix limit most n)
    (step program prefix (accounted_terms limit most) s) (step_reported program prefix limit most s reported)

start_reported : (most : Thresholds) (before : Costs) (more : State → Ran) → ((t : State) → IsReported most t.account → RanReported most (more t)) → (answer : StepAnswer)
    → AnswerReported most before answer → RanReported most (runs.from_start more answer)
start_reported most before more each (Went t) k = each t k.0
start_reported most before more each (Ended outcome t) k = (k.0, k.2)
start_reported most before more each IllFormed k = tt

stop_over : (most : Thresholds) (a : Account) (outcome : Outcome) → IsReported most a → IsEndReported a.exceeded outcome → IsStopOver most a.costs outcome
stop_over most a (outcomes.Stopped charge) reported e = subst (IsReportedBy most a.costs) e reported
stop_over most a outcomes.OkNull reported e = tt
stop_over most a (outcomes.OkBytes bytes) reported e = tt
stop_over most a (outcomes.Threw class message) reported e = tt
stop_over most a (outcomes.Init class exception message) reported e = tt
stop_over most a outcomes.Link reported e = tt
stop_over most a outcomes.TooDeep reported e = tt
stop_over most a (outcomes.HeapFull used size) reported e = tt
stop_over most a (outcomes.OutOfSteps steps) reported e = tt

report_over : (most : Thresholds) (answers : List HostAnswer) (n : ℕ) (r : Ran) → RanReported most r
    → IfSome (runs.report_of answers n r) (λ report. IsStopOver most report.costs report.outcome)
report_over most answers n (runs.Going s) k = tt
report_over most answers n (runs.Finished outcome s m) k = stop_over most s.account outcome k.0 k.1
report_over most answers n runs.NoStep k = tt

pub run_over : (program : Program) (prefix : Prefix) (limit : Option ℕ) (most : Thresholds) (entry : Declared) (input : List ℕ) (answers : List HostAnswer) (n : ℕ)
    → IfSome (runs.plain_run program prefix (accounted_terms limit most) entry input answers n) (λ report. IsStopOver most report.costs report.outcome)
unfolding runs.plain_run
run_over program prefix limit most entry input answers n =
    report_over most answers n (runs.from_start (runs.steps program prefix (accounted_terms limit most) n) (begin program prefix (accounted_terms limit most) entry input answers))
    (start_reported most no_costs (runs.steps program prefix (accounted_terms limit most) n) (steps_reported program prefix limit most n)
    (begin program prefix (accounted_terms limit most) entry input answers) (begin_reported program prefix limit most entry input answers))
