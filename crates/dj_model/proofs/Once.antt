-- Each class is initialised once.
use Rattle.std.proofs.Common.{◌≡◌, ℕ, ◌+◌, Bool, false, IsTrue, IsFalse, List, [], ◌∷◌, ◌++◌, length, replicate, reverse, Option, Some, None, nat_lt, nat_le, refl, sym, ap, subst, ◌∙◌, inl, inr}
use Rattle.std.proofs.lemmas.List.{reverse-append}
use Rattle.std.specs.Cmp.Lexicographic.{bytes_decides}
use Rattle.std.specs.Prelude.{⊤, ◌⊎◌}
use Rattle.std.specs.List.{AllByRecursion}
use Rattle.dj_names.specs.declared.descriptor.Ty.{Ty}
use Rattle.dj_names.specs.declared.run.Value.{Value}
use Rattle.dj_names.specs.trusted.Heaps.{Object, object_size}
use Rattle.dj_names.specs.trusted.Types.{Name, same_name}
use Rattle.dj_edge.specs.declared.host.HostAnswer.{HostAnswer}
use Rattle.dj_model.specs.trusted.Types.{Prefix, Declared}
use Rattle.dj_model.specs.trusted.Instructions.{Instruction}
use Rattle.dj_model.specs.trusted.Program.{Program, is_initialiser, code_of}
use Rattle.dj_model.specs.trusted.Linking.{chain}
use Rattle.dj_model.specs.trusted.State.{Terms, Frame, State, Way, Next, To, Raise, Back, Flow, Goes, Catch, Stop, Call, End, Effect, instruction_at}
use Rattle.dj_model.specs.trusted.Arrays.{passes_limit}
use Rattle.dj_model.specs.trusted.Effects.{effect, used_class}
use Rattle.dj_model.specs.trusted.Initialisation.{most_frames, is_initialised, mark, mark_all, not_initialised, Initialised, Ready, Waits, Fails, then_ready, constants_of, initialiser_frames, with_frames, initialise}
use Rattle.dj_model.specs.trusted.Step.{StepAnswer, Went, Ended, IllFormed, handler_of, leaves_frame, at_handler, unwound, throw_new, new_exception, new_stop, stop_from, throw_stop_or, returned, settle_way, settle, with_part, frame_with, part_of, settled, prepared, done, act, step_of, step}
use Rattle.dj_model.specs.trusted.Runs as runs
use Rattle.dj_model.specs.trusted.Runs.{input_array, input_heap, start_state, begin}
use Rattle.dj_model.specs.Laws.{DifferFrom, AllDiffer}
use Rattle.dj_model.proofs.Frames.{KeepsMore, all_constants_keep, marked, stays_marked, all_stay_marked}
use Rattle.dj_model.proofs.Flows.{either_way}
use Rattle.dj_model.proofs.MappedNames.{either}

-- ---- those that are pushed weren't initialised, and differ

was_not : (program : Program) (class other : Name) (flags : List Bool) → IsFalse (is_initialised program (mark program class flags) other)
    → IsFalse (is_initialised program flags other)
was_not program class other flags k = elim (either (is_initialised program flags other)) [
  | inl e ↦ let again : IsTrue (is_initialised program (mark program class flags) other) = stays_marked program class other flags e in absurd cc
  | inr e ↦ e
]

all_were_not : (program : Program) (class : Name) (flags : List Bool) (classes : List Name)
    → AllByRecursion (λ other. IsFalse (is_initialised program (mark program class flags) other)) classes
    → AllByRecursion (λ other. IsFalse (is_initialised program flags other)) classes
all_were_not program class flags [] k = tt
all_were_not program class flags (other ∷ classes) k = (was_not program class other flags k.0, all_were_not program class flags classes k.1)

pub not_yet : (program : Program) (flags : List Bool) (classes : List Name)
    → AllByRecursion (λ class. IsFalse (is_initialised program flags class)) (not_initialised program flags classes)
not_yet program flags [] = tt
not_yet program flags (class ∷ classes) = elim (either (is_initialised program flags class)) [
  | inl e ↦ rw e (all_were_not program class flags _ (not_yet program (mark program class flags) classes))
  | inr e ↦ rw e (e, all_were_not program class flags _ (not_yet program (mark program class flags) classes))
]

differ_from : (program : Program) (class : Name) (flags : List Bool) (classes : List Name)
    → AllByRecursion (λ other. IsFalse (is_initialised program (mark program class flags) other)) classes → DifferFrom class classes
differ_from program class flags [] k = tt
differ_from program class flags (other ∷ classes) k = (
  (λ same. let there : IsTrue (is_initialised program (mark program class flags) other) = subst (λ n. IsTrue (is_initialised program (mark program class flags) n)) same (marked program class flags) in
      let not_there : IsFalse (is_initialised program (mark program class flags) other) = k.0 in absurd cc),
  differ_from program class flags classes k.1,
)

pub all_differ : (program : Program) (flags : List Bool) (classes : List Name) → AllDiffer (not_initialised program flags classes)
all_differ program flags [] = tt
all_differ program flags (class ∷ classes) = elim (either (is_initialised program flags class)) [
  | inl e ↦ rw e (all_differ program (mark program class flags) classes)
  | inr e ↦ rw e (differ_from program class flags _ (not_yet program (mark program class flags) classes), all_differ program (mark program class flags) classes)
]

-- ---- the marks of a class and its superclasses

-- the flags once those have begun that hadn't
abbrev begun_flags : Program → Name → List Bool → List Bool
begun_flags program used flags = mark_all program (reverse (not_initialised program flags (chain program used))) flags

marked_or : (program : Program) (class other : Name) (flags : List Bool) → IsTrue (is_initialised program (mark program class flags) other)
    → (other ≡ class) ⊎ IsTrue (is_initialised program flags other)
unfolding is_initialised mark
marked_or [] class other flags k = inr refl
marked_or (c ∷ classes) class other [] k = inr refl
marked_or (c ∷ classes) class other (flag ∷ flags) k = elim (either (same_name c.name class)) [
  | inl e ↦ elim (either (same_name c.name other)) [
    | inl d ↦ inl (sym ((bytes_decides c.name other).0 d) ∙ (bytes_decides c.name class).0 e)
    | inr d ↦ inr (rw d (rw (e, d) at k))
  ]
  | inr e ↦ elim (either (same_name c.name other)) [
    | inl d ↦ inr (rw d (rw (e, d) at k))
    | inr d ↦ rw d (marked_or classes class other flags (rw (e, d) at k))
  ]
]

mark_last : (program : Program) (classes : List Name) (class : Name) (flags : List Bool)
    → mark_all program (classes ++ class ∷ []) flags ≡ mark program class (mark_all program classes flags)
mark_last program [] class flags = refl
mark_last program (other ∷ classes) class flags = mark_last program classes class (mark program other flags)

all_still : (program : Program) (class : Name) (flags : List Bool) (classes : List Name)
    → AllByRecursion (λ other. IsTrue (is_initialised program flags other)) classes
    → AllByRecursion (λ other. IsTrue (is_initialised program (mark program class flags) other)) classes
all_still program class flags [] k = tt
all_still program class flags (other ∷ classes) k = (stays_marked program class other flags k.0, all_still program class flags classes k.1)

marks_reversed : (program : Program) (flags : List Bool) (classes : List Name)
    → AllByRecursion (λ other. IsTrue (is_initialised program (mark_all program (reverse classes) flags) other)) classes
marks_reversed program flags [] = tt
marks_reversed program flags (class ∷ classes) =
    subst (λ (now : List Bool). AllByRecursion (λ other. IsTrue (is_initialised program now other)) (class ∷ classes))
    (sym (ap (λ l. mark_all program l flags) (reverse-append (class ∷ []) classes) ∙ mark_last program (reverse classes) class flags))
    (marked program class (mark_all program (reverse classes) flags), all_still program class (mark_all program (reverse classes) flags) classes (marks_reversed program flags classes))

-- where those count as initialised that hadn't begun, and those that had, all do
all_begun : (program : Program) (flags now : List Bool) (classes : List Name)
    → ((other : Name) → IsTrue (is_initialised program flags other) → IsTrue (is_initialised program now other))
    → AllByRecursion (λ other. IsTrue (is_initialised program now other)) (not_initialised program flags classes)
    → AllByRecursion (λ other. IsTrue (is_initialised program now other)) classes
all_begun program flags now [] keeps k = tt
all_begun program flags now (class ∷ classes) keeps k = elim (either (is_initialised program flags class)) [
  | inl e ↦
      let rest : AllByRecursion (λ other. IsTrue (is_initialised program now other)) (not_initialised program (mark program class flags) classes) = rw e at k in
      (keeps class e, all_begun program (mark program class flags) now classes (further (keeps class e)) rest)
  | inr e ↦
      let both : AllByRecursion (λ other. IsTrue (is_initialised program now other)) (class ∷ not_initialised program (mark program class flags) classes) = rw e at k in
      (both.0, all_begun program (mark program class flags) now classes (further both.0) both.1)
] where
  further : IsTrue (is_initialised program now class) → (other : Name) → IsTrue (is_initialised program (mark program class flags) other)
      → IsTrue (is_initialised program now other)
  further here other m = elim (marked_or program class other flags m) [
    | inl same ↦ subst (λ name. IsTrue (is_initialised program now name)) (sym same) here
    | inr before ↦ keeps other before
  ]

chain_begun : (program : Program) (used : Name) (flags : List Bool)
    → AllByRecursion (λ other. IsTrue (is_initialised program (begun_flags program used flags) other)) (chain program used)
chain_begun program used flags = all_begun program flags (begun_flags program used flags) (chain program used)
    (λ other k. all_stay_marked program (reverse (not_initialised program flags (chain program used))) other flags k)
    (marks_reversed program flags (not_initialised program flags (chain program used)))

all_of : (P Q : Name → Type 0) → ((class : Name) → P class → Q class) → (classes : List Name) → AllByRecursion P classes → AllByRecursion Q classes
all_of P Q each [] k = tt
all_of P Q each (class ∷ classes) k = (each class k.0, all_of P Q each classes k.1)

-- ---- what is initialised stays so

module _ (program : Program) (prefix : Prefix) (terms : Terms) (class : Name) where
  abbrev pub Stays : StepAnswer → Type 0
  Stays (Went t) = IsTrue (is_initialised program t.initialised class)
  Stays (Ended outcome t) = ⊤
  Stays IllFormed = ⊤

  abbrev StaysReady : Initialised → Type 0
  StaysReady (Ready t) = IsTrue (is_initialised program t.initialised class)
  StaysReady (Waits t) = IsTrue (is_initialised program t.initialised class)
  StaysReady (Fails outcome t) = ⊤

  with_frames_stays : (s : State) (frames : List (Frame Declared)) → IsTrue (is_initialised program s.initialised class) → StaysReady (with_frames s frames)
  with_frames_stays s [] k = k
  with_frames_stays s (f ∷ frames) k = either_way StaysReady (nat_lt most_frames (length (f ∷ frames) + length s.frames)) _ _ tt k

  -- with the marks of those that begin now
  initialise_marks : (used : Name) (s : State) → IsTrue (is_initialised program (begun_flags program used s.initialised) class)
      → StaysReady (initialise program prefix terms used s)
  unfolding initialise KeepsMore
  initialise_marks used s k = go (constants_of program prefix terms classes begun) (all_constants_keep program prefix terms classes begun) where
    classes : List Name
    classes = reverse (not_initialised program s.initialised (chain program used))

    begun : State
    begun = record s { initialised = mark_all program classes s.initialised }

    go : (i : Initialised) → KeepsMore begun i → StaysReady (then_ready (λ next. with_frames next (initialiser_frames program classes)) i)
    go (Ready t) e = with_frames_stays t (initialiser_frames program classes)
        (subst (λ flags. IsTrue (is_initialised program flags class)) (sym e.1) k)
    go (Waits t) e = absurd e
    go (Fails outcome t) e = tt

  initialise_stays : (used : Name) (s : State) → IsTrue (is_initialised program s.initialised class) → StaysReady (initialise program prefix terms used s)
  initialise_stays used s k =
      initialise_marks used s (all_stay_marked program (reverse (not_initialised program s.initialised (chain program used))) class s.initialised k)

  leaves_stays : (s : State) (thrown : Ty) (exception : ℕ) (f : Frame Declared) (below : StepAnswer) → Stays below
      → Stays (leaves_frame prefix s thrown exception f below)
  leaves_stays s thrown exception f below k = either_way Stays (is_initialiser f.method) _ _ tt k

  handled_stays : (s : State) (thrown : Ty) (exception : ℕ) (f : Frame Declared) (below : List (Frame Declared)) (handler : Option ℕ) (otherwise : StepAnswer)
      → IsTrue (is_initialised program s.initialised class) → Stays otherwise → Stays (at_handler prefix s thrown exception f below handler otherwise)
  handled_stays s thrown exception f below None otherwise k o = leaves_stays s thrown exception f otherwise o
  handled_stays s thrown exception f below (Some handler) otherwise k o = k

  unwound_stays : (s : State) (thrown : Ty) (exception : ℕ) (frames : List (Frame Declared)) → IsTrue (is_initialised program s.initialised class)
      → Stays (unwound program prefix s thrown exception frames)
  unfolding unwound
  unwound_stays s thrown exception [] k = tt
  unwound_stays s thrown exception (f ∷ below) k =
      handled_stays s thrown exception f below (handler_of program prefix thrown f.number (code_of program f.method)) _ k (unwound_stays s thrown exception below k)

  throw_new_stays : (s : State) (object : Object Ty) → IsTrue (is_initialised program s.initialised class) → Stays (throw_new program prefix terms s object)
  throw_new_stays s object k =
      either_way Stays (passes_limit terms.limit (s.heap.used + object_size object)) _ _ tt (unwound_stays _ _ _ s.frames k)

  stop_stays : (s : State) (r : Option ℕ) → IsTrue (is_initialised program s.initialised class) → Stays (throw_stop_or program prefix terms s r)
  stop_stays s None k = throw_new_stays s new_stop k
  stop_stays s (Some r) k = unwound_stays s _ r s.frames k

  returned_stays : (s : State) (f : Frame Declared) (result : Option Value) (below : List (Frame Declared)) → IsTrue (is_initialised program s.initialised class)
      → Stays (returned s f result below)
  returned_stays s f result [] k = tt
  returned_stays s f result (caller ∷ below) k = k

  way_stays : (s : State) (f : Frame Declared) (below : List (Frame Declared)) (way : Way) → IsTrue (is_initialised program s.initialised class)
      → Stays (settle_way program prefix terms s f below way)
  way_stays s f below Next k = k
  way_stays s f below (To number) k = k
  way_stays s f below (Raise raised) k = throw_new_stays (record s { frames = f ∷ below }) (new_exception prefix raised) k
  way_stays s f below (Back result) k = returned_stays s f result below k

  settle_stays : (s : State) (f : Frame Declared) (below : List (Frame Declared)) (flow : Flow) → IsTrue (is_initialised program s.initialised class)
      → Stays (settle program prefix terms s f below flow)
  unfolding settle
  settle_stays s f below (Goes way) k = way_stays s f below way k
  settle_stays s f below (Catch exception) k = unwound_stays (record s { frames = f ∷ below }) _ exception (f ∷ below) k
  settle_stays s f below Stop k = stop_stays (record s { frames = f ∷ below }) (stop_from prefix 1 s.heap.objects) k
  settle_stays s f below (Call m arguments) k = either_way Stays (nat_le most_frames (length (f ∷ below))) _ _ tt k
  settle_stays s f below (End outcome) k = tt

  settled_stays : (s : State) (f : Frame Declared) (below : List (Frame Declared)) (e : Option Effect) → IsTrue (is_initialised program s.initialised class)
      → Stays (settled program prefix terms s f below e)
  settled_stays s f below None k = tt
  settled_stays s f below (Some e) k = settle_stays (with_part s e.part) (frame_with f e.part) below e.flow k

  done_stays : (f : Frame Declared) (below : List (Frame Declared)) (i : Instruction) (p : Initialised) → StaysReady p → Stays (done program prefix terms f below i p)
  done_stays f below i (Ready s) k = settled_stays s f below (effect program prefix terms f.method.class i (part_of f s)) k
  done_stays f below i (Waits s) k = k
  done_stays f below i (Fails outcome s) k = tt

  prepared_stays : (used : Option Name) (s : State) → IsTrue (is_initialised program s.initialised class) → StaysReady (prepared program prefix terms used s)
  prepared_stays None s k = k
  prepared_stays (Some used) s k = initialise_stays used s k

  act_stays : (s : State) (f : Frame Declared) (below : List (Frame Declared)) (i : Option Instruction) → IsTrue (is_initialised program s.initialised class)
      → Stays (act program prefix terms s f below i)
  act_stays s f below None k = tt
  act_stays s f below (Some i) k = done_stays f below i (prepared program prefix terms (used_class program prefix i) s) (prepared_stays (used_class program prefix i) s k)

  step_of_stays : (s : State) (frames : List (Frame Declared)) → IsTrue (is_initialised program s.initialised class) → Stays (step_of program prefix terms s frames)
  step_of_stays s [] k = tt
  step_of_stays s (f ∷ below) k = act_stays s f below (instruction_at program f) k

  pub step_stays : (s : State) → IsTrue (is_initialised program s.initialised class) → Stays (step program prefix terms s)
  unfolding step
  step_stays s k = step_of_stays s s.frames k

  -- ---- what a step begins

  step_marks : (s : State) (f : Frame Declared) (below : List (Frame Declared)) (i : Instruction) (used : Name) → s.frames ≡ f ∷ below
      → instruction_at program f ≡ Some i → used_class program prefix i ≡ Some used → IsTrue (is_initialised program (begun_flags program used s.initialised) class)
      → Stays (step program prefix terms s)
  unfolding step
  step_marks s f below i used frames at uses k =
      subst (λ (fs : List (Frame Declared)). Stays (step_of program prefix terms s fs)) (sym frames)
      (subst (λ (o : Option Instruction). Stays (act program prefix terms s f below o)) (sym at)
      (done_stays f below i (prepared program prefix terms (used_class program prefix i) s)
      (subst (λ (o : Option Name). StaysReady (prepared program prefix terms o s)) (sym uses) (initialise_marks used s k))))

  begun_stays : (i : Initialised) → StaysReady i → Stays (runs.begun i)
  begun_stays (Ready t) k = k
  begun_stays (Waits t) k = k
  begun_stays (Fails outcome t) k = tt

  begin_marks : (entry : Declared) (input : List ℕ) (answers : List HostAnswer)
      → IsTrue (is_initialised program (begun_flags program entry.class (replicate (length program) false)) class)
      → Stays (begin program prefix terms entry input answers)
  unfolding begin
  begin_marks entry input answers k = either_way Stays (passes_limit terms.limit (object_size (input_array input))) _ _ tt
      (begun_stays (initialise program prefix terms entry.class (start_state program entry (input_heap input) answers))
      (initialise_marks entry.class (start_state program entry (input_heap input) answers) k))

-- ---- initialisers that a step pushes

module _ (program : Program) (prefix : Prefix) (terms : Terms) (s : State) (f : Frame Declared) (frames : List (Frame Declared)) where
  abbrev PushesReady : Initialised → Type 0
  PushesReady (Ready t) = ⊥
  PushesReady (Waits t) = t.frames ≡ (f ∷ frames) ++ s.frames
  PushesReady (Fails outcome t) = ⊤

  abbrev Pushes : StepAnswer → Type 0
  Pushes (Went t) = t.frames ≡ (f ∷ frames) ++ s.frames
  Pushes (Ended outcome t) = ⊤
  Pushes IllFormed = ⊤

  initialise_pushes : (used : Name) → initialiser_frames program (reverse (not_initialised program s.initialised (chain program used))) ≡ f ∷ frames
      → PushesReady (initialise program prefix terms used s)
  unfolding initialise KeepsMore
  initialise_pushes used e = subst (λ (fs : List (Frame Declared)). PushesReady (then_ready (λ next. with_frames next fs) (constants_of program prefix terms classes marks))) (sym e)
      (go (constants_of program prefix terms classes marks) (all_constants_keep program prefix terms classes marks)) where
        classes : List Name
        classes = reverse (not_initialised program s.initialised (chain program used))

        marks : State
        marks = record s { initialised = mark_all program classes s.initialised }

        go : (i : Initialised) → KeepsMore marks i → PushesReady (then_ready (λ next. with_frames next (f ∷ frames)) i)
        go (Ready t) k = either_way PushesReady (nat_lt most_frames (length (f ∷ frames) + length t.frames)) _ _ tt (ap (λ l. (f ∷ frames) ++ l) k.0)
        go (Waits t) k = absurd k
        go (Fails outcome t) k = tt

  done_pushes : (top : Frame Declared) (below : List (Frame Declared)) (i : Instruction) (p : Initialised) → PushesReady p → Pushes (done program prefix terms top below i p)
  done_pushes top below i (Ready t) k = absurd k
  done_pushes top below i (Waits t) k = k
  done_pushes top below i (Fails outcome t) k = tt

  pub step_pushes : (t : State) (top : Frame Declared) (below : List (Frame Declared)) (i : Instruction) (used : Name) → s.frames ≡ top ∷ below
      → instruction_at program top ≡ Some i → used_class program prefix i ≡ Some used
      → initialiser_frames program (reverse (not_initialised program s.initialised (chain program used))) ≡ f ∷ frames → step program prefix terms s ≡ Went t
      → t.frames ≡ (f ∷ frames) ++ s.frames
  unfolding step
  step_pushes t top below i used stand at uses e went = subst Pushes went
      (subst (λ (fs : List (Frame Declared)). Pushes (step_of program prefix terms s fs)) (sym stand)
      (subst (λ (o : Option Instruction). Pushes (act program prefix terms s top below o)) (sym at)
      (done_pushes top below i (prepared program prefix terms (used_class program prefix i) s)
      (subst (λ (o : Option Name). PushesReady (prepared program prefix terms o s)) (sym uses) (initialise_pushes used e)))))

went_stays : (program : Program) (prefix : Prefix) (terms : Terms) (class : Name) (answer : StepAnswer) (t : State) → answer ≡ Went t
    → Stays program prefix terms class answer → IsTrue (is_initialised program t.initialised class)
went_stays program prefix terms class answer t e k = subst (Stays program prefix terms class) e k

pub stays : (program : Program) (prefix : Prefix) (terms : Terms) (class : Name) (s t : State) → step program prefix terms s ≡ Went t
    → IsTrue (is_initialised program s.initialised class) → IsTrue (is_initialised program t.initialised class)
stays program prefix terms class s t e k = went_stays program prefix terms class (step program prefix terms s) t e (step_stays program prefix terms class s k)

pub step_begins : (program : Program) (prefix : Prefix) (terms : Terms) (s t : State) (top : Frame Declared) (below : List (Frame Declared)) (i : Instruction) (used : Name)
    → s.frames ≡ top ∷ below → instruction_at program top ≡ Some i → used_class program prefix i ≡ Some used → step program prefix terms s ≡ Went t
    → AllByRecursion (λ class. IsTrue (is_initialised program t.initialised class)) (chain program used)
step_begins program prefix terms s t top below i used frames at uses e = all_of _ _
    (λ class k. went_stays program prefix terms class (step program prefix terms s) t e (step_marks program prefix terms class s top below i used frames at uses k))
    (chain program used) (chain_begun program used s.initialised)

pub run_begins : (program : Program) (prefix : Prefix) (terms : Terms) (entry : Declared) (input : List ℕ) (answers : List HostAnswer) (t : State)
    → begin program prefix terms entry input answers ≡ Went t
    → AllByRecursion (λ class. IsTrue (is_initialised program t.initialised class)) (chain program entry.class)
run_begins program prefix terms entry input answers t e = all_of _ _
    (λ class k. went_stays program prefix terms class (begin program prefix terms entry input answers) t e (begin_marks program prefix terms class entry input answers k))
    (chain program entry.class) (chain_begun program entry.class (replicate (length program) false))
