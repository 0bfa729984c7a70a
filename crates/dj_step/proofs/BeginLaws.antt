-- How a run begins.
use Rattle.std.proofs.Common.{◌≡◌, ℕ, Bool, false, List, [], Some, None, if◌then◌else◌, refl, sym, ap, subst, ◌∙◌}
use Rattle.std.proofs.lemmas.Bool.{le-ltb, lt-ltb}
use Rattle.dj_names.specs.declared.descriptor.Ty.{Ty}
use Rattle.dj_names.specs.declared.run.Outcome.TheVariants as outcomes
use Rattle.dj_names.specs.declared.run.Thresholds.{Thresholds}
use Rattle.dj_names.specs.trusted.Heaps.{Heap, object_size}
use Rattle.dj_names.specs.trusted.Types.{Name}
use Rattle.dj_edge.specs.declared.host.HostAnswer.{HostAnswer}
use Rattle.dj_model.specs.trusted.Types.{Declared}
use Rattle.dj_model.specs.trusted.Program.{Program}
use Rattle.dj_model.specs.Standing.{IsEntry, AnswerStands}
use Rattle.dj_model.specs.trusted.State.{Terms, State, Frame, Counting, Account}
use Rattle.dj_model.specs.trusted.Charging.{new_account}
use Rattle.dj_model.specs.trusted.Initialisation.{initialise}
use Rattle.dj_model.specs.trusted.Step.{Went, Ended}
use Rattle.dj_model.specs.trusted.Runs.{begin, begun, empty_heap, input_array, input_heap, start_state}
use Rattle.dj_model.proofs.LawProofs.{runs_stay_sound}
use Rattle.dj_heap.specs.Heaps.{LimitedHeap}
use Rattle.dj_stack.specs.Frames.{StackFrame}
use Rattle.dj_image.specs.Imaged.{Imaged, program_of}
use Rattle.dj_current_method.specs.Activations.{declared_at, frames_seen}
use Rattle.dj_initialisation.specs.declared.prepare.Prepared.{Prepared}
use Rattle.dj_initialisation.specs.declared.prepare.Prepared.TheVariants as prepared
use Rattle.dj_initialisation.specs.Preparing.{prepared_reported, with_parts}
use Rattle.dj_image_step.specs.Answers.{Over, reported_of}
use Rattle.dj_image_step.specs.Running.{IsKept, Kept, Running, state_of}
use Rattle.dj_step.specs.declared.answers.StartError.{StartError}
use Rattle.dj_step.specs.declared.answers.StartError.TheVariants as starts
use Rattle.dj_step.specs.Machines.{Begins, EndsAtStart, Machined, counting_for, start_outcome, state_with, terms_of}
use Rattle.dj_step.specs.Running.{BeginsRun, GoesOn, HoldsEntry, HoldsInput, IsMachine, RefusesInput, begin_parts}

-- ---- the model's begin

module _ (imaged : Imaged) (entry : ℕ) (input : List ℕ) (limit : ℕ) (limits : Thresholds) (h : LimitedHeap) (frames : List StackFrame) (holds : HoldsInput imaged input limit h)
    (stands : HoldsEntry imaged entry frames) (r : Running) (how : Prepared) (begins : BeginsRun imaged entry limits h frames r how) where
  abbrev program : Program
  program = program_of imaged

  abbrev m : Declared
  m = declared_at program entry

  abbrev first : List HostAnswer → State
  first answers = start_state program m (input_heap input) answers

  abbrev counting : Counting
  counting = counting_for imaged.prefix limits

  first_is : (answers : List HostAnswer) → with_parts imaged (begin_parts imaged h frames) (first answers) ≡ first answers
  first_is answers =
      ap (λ (heap : Heap Ty). record (first answers) { heap = heap; frames = frames_seen program frames }) holds.is
      ∙ ap (λ (seen : List (Frame Declared)). record (first answers) { frames = seen }) stands.seen

  begun_so : (answers : List HostAnswer) → begin program imaged.prefix (record { limit = Some limit; counting = counting }) m input answers
      ≡ begun (prepared_reported how (with_parts imaged r.parts (first answers)))
  unfolding begin
  begun_so answers =
      let terms : Terms = record { limit = Some limit; counting = counting } in
      ap (λ (past : Bool). if past then Ended (outcomes.HeapFull 0 (object_size (input_array input))) (start_state program m empty_heap answers)
      else begun (initialise program imaged.prefix terms m.class (first answers))) (le-ltb limit (object_size (input_array input)) holds.fits)
      ∙ (ap (λ (s : State). begun (initialise program imaged.prefix terms m.class s)) (sym (first_is answers))
      ∙ (ap (λ (name : Name). begun (initialise program imaged.prefix terms name (with_parts imaged (begin_parts imaged h frames) (first answers)))) (sym begins.did.named)
      ∙ ap begun (begins.did.prepares.effect terms (first answers) (ap Some (sym holds.limited)))))

  pub too_deep : how ≡ prepared.TooDeep → EndsAtStart imaged m input limits limit (start_outcome starts.TooDeep)
  too_deep is answers = ap reported_of (begun_so answers ∙ ap (λ (p : Prepared). begun (prepared_reported p (with_parts imaged r.parts (first answers)))) is)

  pub heap_full : (used size : ℕ) → how ≡ prepared.HeapFull used size → EndsAtStart imaged m input limits limit (start_outcome (starts.Full used size))
  heap_full used size is answers = ap reported_of (begun_so answers ∙ ap (λ (p : Prepared). begun (prepared_reported p (with_parts imaged r.parts (first answers)))) is)

  abbrev now : Machined
  now = record { image = imaged; limit = limit; counting = counting; state = state_of imaged [] r; outcome = None; failed = false }

  goes : (p : Prepared) → GoesOn p → (s : State) → begun (prepared_reported p s) ≡ Went s
  goes prepared.Ready on s = refl
  goes prepared.Waits on s = refl
  goes prepared.TooDeep on s = absurd on
  goes (prepared.HeapFull used size) on s = absurd on

  state_now : (answers : List HostAnswer) → with_parts imaged r.parts (first answers) ≡ state_with answers now
  state_now answers = ap (λ (account : Account). record (with_parts imaged r.parts (first answers)) { account = account }) (sym begins.counter.account)

  pub begun_now : GoesOn how → Begins imaged m input limits limit now
  begun_now on = record {
    image = refl;
    limited = refl;
    counting = refl;
    outcome = refl;
    failed = refl;
    state = λ answers. begun_so answers ∙ (goes how on (with_parts imaged r.parts (first answers)) ∙ ap Went (state_now answers));
  }

  pub is_machine : (kept : Kept) → IsKept imaged kept → IsEntry program m → GoesOn how → IsMachine imaged limit limits kept r None false
  is_machine kept tables is_entry on =
      let starts = begun_now on in
      let did = begins.did.prepares in
      record {
        tables = tables;
        limited = λ well. did.limit ∙ holds.limited;
        counted = λ well. begins.counter.counting;
        running = λ well going. record {
          flags = did.flags;
          store = did.are;
          activations = did.frames stands.stand;
          standing = subst (AnswerStands program) (starts.state []) (runs_stay_sound.begins program imaged.prefix (terms_of now) m input [] tables.sound is_entry);
          known = begins.known;
          stop = λ some. absurd (some begins.stop);
          counts = begins.counter.counts;
        };
      }

-- ---- where it doesn't begin

pub input_refused : (imaged : Imaged) (m : Declared) (input : List ℕ) (most : Thresholds) (limit : ℕ) (e : StartError) → RefusesInput input limit e → EndsAtStart imaged m input most limit (start_outcome e)
unfolding begin
input_refused imaged m input most limit starts.Memory refuses = tt
input_refused imaged m input most limit starts.TooDeep refuses = absurd refuses
input_refused imaged m input most limit (starts.Full used size) refuses = λ answers.
    ap (λ (past : Bool). reported_of (if past then Ended (outcomes.HeapFull 0 (object_size (input_array input))) (start_state (program_of imaged) m empty_heap answers)
    else begun (initialise (program_of imaged) imaged.prefix (record { limit = Some limit; counting = counting_for imaged.prefix most }) m.class (start_state (program_of imaged) m (input_heap input) answers))))
    (lt-ltb limit (object_size (input_array input)) refuses.2)
    ∙ (ap (λ (n : ℕ). Over (outcomes.HeapFull n (object_size (input_array input))) new_account answers) (sym refuses.0)
    ∙ ap (λ (n : ℕ). Over (outcomes.HeapFull used n) new_account answers) (sym refuses.1))

pub no_memory : (imaged : Imaged) (m : Declared) (input : List ℕ) (most : Thresholds) (limit : ℕ) (e : StartError) → e ≡ starts.Memory → EndsAtStart imaged m input most limit (start_outcome e)
no_memory imaged m input most limit e is = subst (λ (x : StartError). EndsAtStart imaged m input most limit (start_outcome x)) (sym is) tt
