-- Laws of the model.
use Rattle.std.specs.Prelude.{◌≡◌, ◌≢◌, ℕ, ◌+◌, ◌≤◌, ◌<◌, ◌⊎◌, ⊤, pos, List, [], ◌∷◌, ◌++◌, map, length, replicate, reverse, Option, Some, None, Bool, IsTrue, IsFalse, IsSome, IfSome}
use Rattle.std.specs.Option.{option_map}
use Rattle.std.specs.List.{AllByRecursion}
use Rattle.dj_names.specs.declared.run.Value.{Value}
use Rattle.dj_names.specs.declared.run.Outcome.{Outcome}
use Rattle.dj_names.specs.declared.run.Costs.{Costs}
use Rattle.dj_names.specs.declared.run.Thresholds.{Thresholds}
use Rattle.dj_edge.specs.declared.host.HostAnswer.{HostAnswer}
use Rattle.dj_names.specs.declared.run.Outcome.TheVariants as outcomes
use Rattle.dj_names.specs.declared.run.Charge.{Charge}
use Rattle.dj_names.specs.declared.run.Charge.TheVariants as charges
use Rattle.dj_names.specs.declared.descriptor.Ty.{Ty}
use Rattle.dj_names.specs.trusted.Heaps.{Object, Instance, Array, Text, Heap, object_size}
use Rattle.dj_names.specs.trusted.Types.{Name}
use Rattle.dj_names.specs.Types.{in_sandbox, sandbox_prefix}
use Rattle.dj_names.specs.trusted.Library.{stop_class}
use Rattle.dj_names.specs.Library.{below_object, accounter_class, accounter_methods}
use Rattle.dj_model.specs.trusted.Types.{Prefix, Declared}
use Rattle.dj_model.specs.Types.{declared_map}
use Rattle.dj_model.specs.trusted.Instructions.{Instruction}
use Rattle.dj_model.specs.Instructions.{instruction_map}
use Rattle.dj_model.specs.trusted.Program.{Program, Class, Code, is_initialiser}
use Rattle.dj_model.specs.Program.{code_map, program_map}
use Rattle.dj_model.specs.trusted.Linking.{chain}
use Rattle.dj_model.specs.trusted.Libraries.{library_class}
use Rattle.dj_model.specs.Libraries.{metered_program, raw_program, sandbox_program}
use Rattle.dj_model.specs.trusted.State.{Terms, Accounted, Frame, State, instruction_at, Part, Account}
use Rattle.dj_model.specs.State.{state_map, part_map, effect_map}
use Rattle.dj_model.specs.trusted.Effects.{effect, used_class}
use Rattle.dj_model.specs.Effects.{pays}
use Rattle.dj_model.specs.Mapping.{IsNameMap, same_names_map, AreApart, KeepsStop, answer_map, report_map}
use Rattle.dj_model.specs.trusted.Initialisation.{most_frames, is_initialised, mark, not_initialised, initialiser_frames}
use Rattle.dj_model.specs.trusted.Step.{StepAnswer, Went, Ended, IllFormed, step}
use Rattle.dj_model.specs.trusted.Charging.{Charged, Fine, Over, no_costs}
use Rattle.dj_model.specs.Charging.{charge_all}
use Rattle.dj_model.specs.trusted.Runs.{begin, empty_heap, plain_run}
use Rattle.dj_model.specs.Runs.{RunsTo, Run, Underway, RunEnds, Stuck, amounts, with_paid, top_is_paid, answer_run, metered_terms, turn, metered_run}
use Rattle.dj_model.specs.trusted.Kinds.{Signature, Kinds}
use Rattle.dj_model.specs.trusted.Shape.{IsShapeFault, after}
use Rattle.dj_model.specs.Shape.{HasShape}
use Rattle.dj_names.specs.declared.native.NativeId.{NativeId}
use Rattle.dj_model.specs.trusted.Natives.{Seen, answer}
use Rattle.dj_model.specs.NativeKinds.{native_signature}
use Rattle.dj_model.specs.Sound.{is_linked, IsSound}
use Rattle.dj_model.specs.Standing.{HasKinds, HasSoundEffect, IsStarved, AnswerKind, IsFormed, IsStarvedAt, AsksNothing, AreStanding, AnswerStands, RunStands, IsEntry, Starves}

-- ---- names and code

-- The other program has another name for each class, other code for each method, and more classes before the others. In it an instruction does, pays and uses
-- the same, under the other names
pub record IsMapped (f : Name → Name) (p q : Prefix) (program other : Program) : Type 0 where
  pub does : (terms : Terms) (own : Name) (i : Instruction) (x : Part)
      → effect other q terms (f own) (instruction_map f i) (part_map f x) ≡ option_map (effect_map f) (effect program p terms own i x)
  pub paid : (i : Instruction) (operands : List Value) → pays other q (instruction_map f i) operands ≡ pays program p i operands
  pub used : (i : Instruction) → used_class other q (instruction_map f i) ≡ option_map f (used_class program p i)

abbrev pub CommutesWithNames : Type 0
CommutesWithNames = (f : Name → Name) (g : Code → Code) (p q : Prefix) (program : Program) (prefix : List Class)
    → IsNameMap f p q → AreApart f prefix → IsMapped f p q program (prefix ++ program_map f g program)

-- no code is read
pub record IsSame (p : Prefix) (program other : Program) : Type 0 where
  pub does : (terms : Terms) (own : Name) (i : Instruction) (x : Part) → effect other p terms own i x ≡ effect program p terms own i x
  pub paid : (i : Instruction) (operands : List Value) → pays other p i operands ≡ pays program p i operands
  pub used : (i : Instruction) → used_class other p i ≡ used_class program p i

abbrev pub ReadsNoCode : Type 0
ReadsNoCode = (g : Code → Code) (p : Prefix) (program : Program) → IsSame p program (program_map same_names_map g program)

abbrev pub StepCommutesWithNames : Type 0
StepCommutesWithNames = (f : Name → Name) (p q : Prefix) (program : Program) (terms : Terms) (s : State) → IsNameMap f p q → KeepsStop f terms.counting
    → step (program_map f (code_map f) program) q terms (state_map f s) ≡ answer_map f (step program p terms s)

-- a whole plain run does: it begins so, and ends with the other names of classes, the same costs, as many steps and as many answers taken
pub record RunsCommuteWithNames : Type 0 where
  pub begins : (f : Name → Name) (p q : Prefix) (program : Program) (terms : Terms) (entry : Declared) (input : List ℕ) (answers : List HostAnswer)
      → IsNameMap f p q → KeepsStop f terms.counting
      → begin (program_map f (code_map f) program) q terms (declared_map f entry) input answers ≡ answer_map f (begin program p terms entry input answers)
  pub runs : (f : Name → Name) (p q : Prefix) (program : Program) (terms : Terms) (entry : Declared) (input : List ℕ) (answers : List HostAnswer) (most : ℕ)
      → IsNameMap f p q → KeepsStop f terms.counting
      → plain_run (program_map f (code_map f) program) q terms (declared_map f entry) input answers most
      ≡ option_map (report_map f) (plain_run program p terms entry input answers most)

-- the names of rewritten classes are such, and the accounter and the object that stops a run have others
abbrev pub SandboxHasNames : Type 0
SandboxHasNames = IsNameMap in_sandbox [] sandbox_prefix
    × AreApart in_sandbox (library_class (below_object accounter_class accounter_methods) ∷ library_class (below_object stop_class []) ∷ [])

-- ---- frames and ends

abbrev pub AnswerFew : StepAnswer → Type 0
AnswerFew (Went s) = length s.frames ≤ most_frames
AnswerFew (Ended outcome s) = ⊤
AnswerFew IllFormed = ⊤

-- there are never more than 1,024 frames
pub record HasFewFrames : Type 0 where
  pub begins : (program : Program) (prefix : Prefix) (terms : Terms) (entry : Declared) (input : List ℕ) (answers : List HostAnswer)
      → AnswerFew (begin program prefix terms entry input answers)
  pub goes_on : (program : Program) (prefix : Prefix) (terms : Terms) (s : State) → length s.frames ≤ most_frames → AnswerFew (step program prefix terms s)

abbrev pub DifferFrom : Name → List Name → Type 0
DifferFrom class [] = ⊤
DifferFrom class (other ∷ classes) = (class ≢ other) × DifferFrom class classes

abbrev pub AllDiffer : List Name → Type 0
AllDiffer [] = ⊤
AllDiffer (class ∷ classes) = DifferFrom class classes × AllDiffer classes

-- each class is initialised at most once: those that are initialised now weren't before, differ and count as initialised from then on
pub record InitialisesOnce : Type 0 where
  pub not_before : (program : Program) (flags : List Bool) (classes : List Name)
      → AllByRecursion (λ class. IsFalse (is_initialised program flags class)) (not_initialised program flags classes)
  pub differ : (program : Program) (flags : List Bool) (classes : List Name) → AllDiffer (not_initialised program flags classes)
  pub marked : (program : Program) (class : Name) (flags : List Bool) → IsTrue (is_initialised program (mark program class flags) class)
  pub stays : (program : Program) (prefix : Prefix) (terms : Terms) (class : Name) (s t : State) → step program prefix terms s ≡ Went t
      → IsTrue (is_initialised program s.initialised class) → IsTrue (is_initialised program t.initialised class)
  -- after a step whose instruction uses a class, that class and its superclasses count as initialised, whether frames of their initialisers were pushed or not
  pub begun : (program : Program) (prefix : Prefix) (terms : Terms) (s t : State) (top : Frame Declared) (below : List (Frame Declared)) (i : Instruction) (used : Name)
      → s.frames ≡ top ∷ below → instruction_at program top ≡ Some i → used_class program prefix i ≡ Some used → step program prefix terms s ≡ Went t
      → AllByRecursion (λ class. IsTrue (is_initialised program t.initialised class)) (chain program used)
  -- and where any of those that weren't initialised before has an initialiser, the frames of these are pushed, each once, and no others
  pub pushed : (program : Program) (prefix : Prefix) (terms : Terms) (s : State) (f : Frame Declared) (frames : List (Frame Declared)) (t : State) (top : Frame Declared)
      (below : List (Frame Declared)) (i : Instruction) (used : Name)
      → s.frames ≡ top ∷ below → instruction_at program top ≡ Some i → used_class program prefix i ≡ Some used
      → initialiser_frames program (reverse (not_initialised program s.initialised (chain program used))) ≡ f ∷ frames → step program prefix terms s ≡ Went t
      → t.frames ≡ (f ∷ frames) ++ s.frames
  -- and so the entry's classes count as initialised where a run has begun
  pub starts : (program : Program) (prefix : Prefix) (terms : Terms) (entry : Declared) (input : List ℕ) (answers : List HostAnswer) (t : State)
      → begin program prefix terms entry input answers ≡ Went t
      → AllByRecursion (λ class. IsTrue (is_initialised program t.initialised class)) (chain program entry.class)

-- a metered run ends in one way, at one cost
abbrev pub HasOneEnd : Type 0
HasOneEnd = (program : Program) (entry : Declared) (input : List ℕ) (most : Thresholds) (a b : Outcome) (c d : Costs)
    → RunsTo program entry input most a c → RunsTo program entry input most b d → (a ≡ b) × (c ≡ d)

-- ---- shape

-- code without shape is reported in one way, code with shape in none, and each code is one of them
pub record IsJudged : Type 0 where
  pub one : (signature : Signature) (code : Code) (a b : Option ℕ) → IsShapeFault signature code a → IsShapeFault signature code b → a ≡ b
  pub none : (signature : Signature) (code : Code) (n : Option ℕ) → HasShape signature code → IsShapeFault signature code n → ⊥
  pub decided : (signature : Signature) (code : Code) → HasShape signature code ⊎ ((n : Option ℕ) × IsShapeFault signature code n)

-- ---- heaps

-- an object of the same class that holds as much: fields and elements of 0; a text is as it is
abbrev pub blank : Object Ty → Object Ty
blank (Instance class fields) = Instance class (replicate (length fields) 0)
blank (Array class element contents) = Array class element (replicate (length contents) (pos 0))
blank (Text class units) = Text class units

-- the sum of the sizes
abbrev pub sizes_of : List (Object Ty) → ℕ
sizes_of [] = 0
sizes_of (object ∷ objects) = object_size object + sizes_of objects

-- objects keep their class, their length and their place, others come after them, and their sizes are added
pub record Grows (before after : Heap Ty) : Type 0 where
  pub more : List (Object Ty)
  pub objects : map blank after.objects ≡ map blank before.objects ++ map blank more
  pub used : after.used ≡ before.used + sizes_of more

abbrev pub IsSum : Heap Ty → Type 0
IsSum heap = heap.used ≡ sizes_of heap.objects

abbrev pub AnswerGrows : Heap Ty → StepAnswer → Type 0
AnswerGrows heap (Went t) = Grows heap t.heap
AnswerGrows heap (Ended outcome t) = Grows heap t.heap
AnswerGrows heap IllFormed = ⊤

pub record HeapsGrow : Type 0 where
  pub steps : (program : Program) (prefix : Prefix) (terms : Terms) (s : State) → AnswerGrows s.heap (step program prefix terms s)
  -- so the used bytes stay the sum of the objects' sizes
  pub sums : (before after : Heap Ty) → Grows before after → IsSum before → IsSum after
  pub begins : (program : Program) (prefix : Prefix) (terms : Terms) (entry : Declared) (input : List ℕ) (answers : List HostAnswer)
      → AnswerGrows empty_heap (begin program prefix terms entry input answers)

-- ---- costs

pub record IsLess (before after : Costs) : Type 0 where
  pub alloc : before.alloc ≤ after.alloc
  pub invoke : before.invoke ≤ after.invoke
  pub jump : before.jump ≤ after.jump
  pub throw : before.throw ≤ after.throw

-- no sum is above its threshold
pub record IsWithin (most : Thresholds) (c : Costs) : Type 0 where
  pub alloc : c.alloc ≤ most.alloc
  pub invoke : c.invoke ≤ most.invoke
  pub jump : c.jump ≤ most.jump
  pub throw : c.throw ≤ most.throw

-- this sum is, and no other
abbrev pub IsOver : Thresholds → Charge → Costs → Type 0
IsOver most charges.Alloc c = (most.alloc < c.alloc) × (c.invoke ≤ most.invoke) × (c.jump ≤ most.jump) × (c.throw ≤ most.throw)
IsOver most charges.Invoke c = (c.alloc ≤ most.alloc) × (most.invoke < c.invoke) × (c.jump ≤ most.jump) × (c.throw ≤ most.throw)
IsOver most charges.Jump c = (c.alloc ≤ most.alloc) × (c.invoke ≤ most.invoke) × (most.jump < c.jump) × (c.throw ≤ most.throw)
IsOver most charges.Throw c = (c.alloc ≤ most.alloc) × (c.invoke ≤ most.invoke) × (c.jump ≤ most.jump) × (most.throw < c.throw)

-- a run that is stopped by a charge has that sum above its threshold, and any other end none
abbrev pub IsEndWithin : Thresholds → Costs → Outcome → Type 0
IsEndWithin most c (outcomes.Stopped charge) = IsOver most charge c
IsEndWithin most c outcomes.OkNull = IsWithin most c
IsEndWithin most c (outcomes.OkBytes bytes) = IsWithin most c
IsEndWithin most c (outcomes.Threw class message) = IsWithin most c
IsEndWithin most c (outcomes.Init class exception message) = IsWithin most c
IsEndWithin most c outcomes.Link = IsWithin most c
IsEndWithin most c outcomes.TooDeep = IsWithin most c
IsEndWithin most c (outcomes.HeapFull used size) = IsWithin most c
IsEndWithin most c (outcomes.OutOfSteps steps) = IsWithin most c

-- nothing was exceeded so far
pub record IsPaid (most : Thresholds) (a : Account) : Type 0 where
  pub none : a.exceeded ≡ None
  pub within : IsWithin most a.costs

abbrev pub RunWithin : Thresholds → Costs → Run → Type 0
RunWithin most before (Underway s) = IsPaid most s.account × IsLess before s.account.costs
RunWithin most before (RunEnds outcome c) = IsEndWithin most c outcome × IsLess before c
RunWithin most before Stuck = ⊤

-- the sums are within their thresholds where nothing was exceeded, and else the one that was exceeded is above its own, and no other
abbrev pub IsReportedBy : Thresholds → Costs → Option Charge → Type 0
IsReportedBy most c None = IsWithin most c
IsReportedBy most c (Some charge) = IsOver most charge c

abbrev pub IsReported : Thresholds → Account → Type 0
IsReported most a = IsReportedBy most a.costs a.exceeded

-- an end by a charge is by the one that was exceeded
abbrev pub IsEndReported : Option Charge → Outcome → Type 0
IsEndReported exceeded (outcomes.Stopped charge) = exceeded ≡ Some charge
IsEndReported exceeded outcomes.OkNull = ⊤
IsEndReported exceeded (outcomes.OkBytes bytes) = ⊤
IsEndReported exceeded (outcomes.Threw class message) = ⊤
IsEndReported exceeded (outcomes.Init class exception message) = ⊤
IsEndReported exceeded outcomes.Link = ⊤
IsEndReported exceeded outcomes.TooDeep = ⊤
IsEndReported exceeded (outcomes.HeapFull used size) = ⊤
IsEndReported exceeded (outcomes.OutOfSteps steps) = ⊤

abbrev pub AnswerReported : Thresholds → Costs → StepAnswer → Type 0
AnswerReported most before (Went t) = IsReported most t.account × IsLess before t.account.costs
AnswerReported most before (Ended outcome t) = IsReported most t.account × IsLess before t.account.costs × IsEndReported t.account.exceeded outcome
AnswerReported most before IllFormed = ⊤

-- a run that is reported as stopped by a charge has that sum above its threshold, and no other
abbrev pub IsStopOver : Thresholds → Costs → Outcome → Type 0
IsStopOver most c (outcomes.Stopped charge) = IsOver most charge c
IsStopOver most c outcomes.OkNull = ⊤
IsStopOver most c (outcomes.OkBytes bytes) = ⊤
IsStopOver most c (outcomes.Threw class message) = ⊤
IsStopOver most c (outcomes.Init class exception message) = ⊤
IsStopOver most c outcomes.Link = ⊤
IsStopOver most c outcomes.TooDeep = ⊤
IsStopOver most c (outcomes.HeapFull used size) = ⊤
IsStopOver most c (outcomes.OutOfSteps steps) = ⊤

-- the accounter counts
abbrev pub accounted_terms : Option ℕ → Thresholds → Terms
accounted_terms limit most = record { limit = limit; counting = Accounted most }

-- a turn of a metered run only adds to the sums, and none passes its threshold but the one by which the run is stopped
pub record CostsStayWithin : Type 0 where
  pub turns : (program : Program) (most : Thresholds) (s : State) → IsPaid most s.account → RunWithin most s.account.costs (turn program most s)
  pub runs : (program : Program) (entry : Declared) (input : List ℕ) (most : Thresholds) (n : ℕ) → RunWithin most no_costs (metered_run program entry input most n)
  -- a step of a run whose charges the accounter counts only adds to the sums; none passes its threshold but the one that the account has as exceeded, and no other
  -- one stops the run
  pub accounted : (program : Program) (prefix : Prefix) (limit : Option ℕ) (most : Thresholds) (s : State) → IsReported most s.account
      → AnswerReported most s.account.costs (step program prefix (accounted_terms limit most) s)
  pub accounted_begins : (program : Program) (prefix : Prefix) (limit : Option ℕ) (most : Thresholds) (entry : Declared) (input : List ℕ) (answers : List HostAnswer)
      → AnswerReported most no_costs (begin program prefix (accounted_terms limit most) entry input answers)
  pub accounted_runs : (program : Program) (prefix : Prefix) (limit : Option ℕ) (most : Thresholds) (entry : Declared) (input : List ℕ) (answers : List HostAnswer) (n : ℕ)
      → IfSome (plain_run program prefix (accounted_terms limit most) entry input answers n) (λ report. IsStopOver most report.costs report.outcome)

-- ---- what is paid

-- the charge passed its threshold, and ends the run with these costs
abbrev pub IsOverBy : Charged → Outcome → Costs → Type 0
IsOverBy (Fine account) outcome c = ⊥
IsOverBy (Over charge account) outcome c = (outcome ≡ outcomes.Stopped charge) × (c ≡ account.costs)

-- the charges of the next instruction are added, and nothing else happens but that the top frame is paid; or one passes its threshold, and ends the run
abbrev pub RunPays : State → Charged → Run → Type 0
RunPays s charged (Underway t) = (charged ≡ Fine t.account) × (t ≡ record s { account = t.account; frames = with_paid s.frames })
RunPays s charged (RunEnds outcome c) = IsOverBy charged outcome c
RunPays s charged Stuck = ⊥

-- after a step the top frame isn't paid; but where an initialiser has returned, what its caller paid stays paid
abbrev pub AnswerClears : Frame Declared → List (Frame Declared) → StepAnswer → Type 0
AnswerClears top below (Went t) = IsFalse (top_is_paid t.frames) ⊎ (IsTrue (is_initialiser top.method) × (t.frames ≡ below))
AnswerClears top below (Ended outcome t) = ⊤
AnswerClears top below IllFormed = ⊤

-- a turn adds the charges of the next instruction, where the top frame isn't paid, and acts only where it is; so each instruction is paid once before it is done
pub record PaysFirst : Type 0 where
  pub unpaid : (program : Program) (most : Thresholds) (s : State) → IsFalse (top_is_paid s.frames)
      → RunPays s (charge_all most (amounts program [] s) s.account) (turn program most s)
  pub paid : (program : Program) (most : Thresholds) (s : State) → IsTrue (top_is_paid s.frames)
      → turn program most s ≡ answer_run (step program [] (metered_terms most) s)
  pub cleared : (program : Program) (prefix : Prefix) (terms : Terms) (s : State) (top : Frame Declared) (below : List (Frame Declared)) → s.frames ≡ top ∷ below
      → AnswerClears top below (step program prefix terms s)

-- ---- kinds

-- in a sound program, an instruction that finds the kinds that shape says has an effect, and what may follow it finds the kinds that shape says there; but a
-- call of a method that asks the host may find no answer
abbrev pub KeepsKinds : Type 0
KeepsKinds = (program : Program) (prefix : Prefix) (terms : Terms) (own : Name) (signature : Signature) (code : Code) (i : Instruction) (k left : Kinds) (x : Part)
    → IsSound program prefix → IsTrue (is_linked program prefix i) → HasKinds x.locals x.operands k → length x.locals ≡ code.max_locals → after signature code i k ≡ Some left
    → HasSoundEffect program prefix terms own signature code i k left x ⊎ IsStarved program prefix terms own i x

-- where the top frame of a sound program is at an instruction that finds its kinds, the step is made, unless the host's answer is missing or of another kind
abbrev pub StepsAreMade : Type 0
StepsAreMade = (program : Program) (prefix : Prefix) (terms : Terms) (s : State) (f : Frame Declared) (below : List (Frame Declared)) (i : Instruction)
    (signature : Signature) (code : Code) (k left : Kinds)
    → IsSound program prefix → s.frames ≡ f ∷ below → instruction_at program f ≡ Some i → IsTrue (is_linked program prefix i)
    → HasKinds f.locals f.operands k → length f.locals ≡ code.max_locals → after signature code i k ≡ Some left
    → IsFormed (step program prefix terms s) ⊎ IsStarvedAt program prefix terms s

-- In a sound program, frames that have the kinds that shape says keep them, and each step is made, unless the host's answer is missing or of another kind; so no
-- run is ill-formed. A program that asks nothing never comes to such an answer, and files without host calls make one with the deterministic library, and with
-- that of rewritten classes.
pub record RunsStaySound : Type 0 where
  pub begins : (program : Program) (prefix : Prefix) (terms : Terms) (entry : Declared) (input : List ℕ) (answers : List HostAnswer)
      → IsSound program prefix → IsEntry program entry → AnswerStands program (begin program prefix terms entry input answers)
  pub steps : (program : Program) (prefix : Prefix) (terms : Terms) (s : State) → IsSound program prefix → AreStanding program s.frames
      → AnswerStands program (step program prefix terms s) ⊎ IsStarvedAt program prefix terms s
  pub turns : (program : Program) (most : Thresholds) (s : State) → IsSound program [] → AreStanding program s.frames
      → RunStands program (turn program most s) ⊎ IsStarvedAt program [] (metered_terms most) s
  pub quiet : (program : Program) (prefix : Prefix) (terms : Terms) (s : State) → AsksNothing program → IsStarvedAt program prefix terms s → ⊥
  pub plain : (program : Program) (prefix : Prefix) (terms : Terms) (entry : Declared) (input : List ℕ) (answers : List HostAnswer) (most : ℕ)
      → IsSound program prefix → IsEntry program entry
      → IsSome (plain_run program prefix terms entry input answers most) ⊎ Starves program prefix terms entry input answers most
  pub metered : (program : Program) (entry : Declared) (input : List ℕ) (most : Thresholds) (n : ℕ)
      → IsSound program [] → AsksNothing program → IsEntry program entry → RunStands program (metered_run program entry input most n)
  pub metered_quiet : (files : List Class) → AsksNothing files → AsksNothing (metered_program files)
  pub sandbox_quiet : (files : List Class) → AsksNothing files → AsksNothing (sandbox_program files)

-- each library by itself is a sound program
pub record LibrariesAreSound : Type 0 where
  pub deterministic : IsSound (metered_program []) []
  pub raw : IsSound (raw_program []) []
  pub sandbox : IsSound (sandbox_program []) sandbox_prefix

-- a native method answers with its result's kind, whatever it is given
abbrev pub AnswersHaveKinds : Type 0
AnswersHaveKinds = (id : NativeId) (heap : Seen) (args : List Value) → AnswerKind (native_signature id).result (answer id heap args)
