-- A step by its parts is a step of a run that goes on.
use Rattle.std.proofs.Common.{◌≡◌, ℕ, ◌++◌, List, [], ◌∷◌, Option, Some, None, refl, sym, ap, subst, ◌∙◌, inl, inr, ℤ}
use Rattle.std.specs.Prelude.{Result, Ok, Err, IfOk}
use Rattle.std.specs.declared.alloc.AllocError.{AllocError}
use Rattle.dj_names.specs.declared.native.NativeId.{NativeId}
use Rattle.dj_names.specs.declared.run.Value.{Value}
use Rattle.dj_edge.specs.declared.host.HostAnswer.{HostAnswer}
use Rattle.dj_model.specs.trusted.Types.{Declared, Prefix}
use Rattle.dj_model.specs.trusted.Instructions.{Instruction}
use Rattle.dj_model.specs.trusted.Natives.{Question, asks}
use Rattle.dj_model.specs.trusted.Performing.{native, native_asked, host_asked, with_answer}
use Rattle.dj_model.specs.trusted.Program.{Program}
use Rattle.dj_model.specs.trusted.State.{Terms, State, Frame, Part, Effect}
use Rattle.dj_model.specs.trusted.Initialisation.{Initialised}
use Rattle.dj_model.specs.trusted.Step.{StepAnswer, Went, Ended, IllFormed, act, done, part_of, settled, step, step_of}
use Rattle.dj_model.specs.Sound.{IsSound}
use Rattle.dj_model.specs.Standing.{AreStanding, AnswerStands, IsStarvedAt, IsUnanswered}
use Rattle.dj_model.specs.Laws.{AnswerGrows}
use Rattle.dj_model.proofs.SoundRuns.{step_stands}
use Rattle.dj_model.proofs.StepFits.{steps_grow}
use Rattle.dj_image.specs.Imaged.{Imaged, program_of}
use Rattle.dj_current_method.specs.Activations.{frames_seen}
use Rattle.dj_settling.specs.declared.settled.Settled.{Settled}
use Rattle.dj_settling.specs.declared.settled.Settled.TheVariants as settles
use Rattle.dj_settling.specs.Reported.{On, reported_of}
use Rattle.dj_settling.specs.Settling.{IsStop}
use Rattle.dj_image_step.specs.Running.{IsKept, IsRunning, Kept, Running, state_of, terms_of}
use Rattle.dj_image_step.specs.Turning.{MakesStep}
use Rattle.dj_image_step.specs.Doing.{TurnsBy, stepping}
use Rattle.dj_image_step.proofs.Stops.{stop_kept}

-- ---- a call that finds no answer of the host is no step

unanswered : (program : Program) (prefix : Prefix) (terms : Terms) (p : Part) (id : NativeId) (args : List Value) (question : Question) (answers : List HostAnswer) → IsUnanswered question answers
    → host_asked program prefix terms p id args question answers ≡ None
unanswered program prefix terms p id args question [] none = refl
unanswered program prefix terms p id args question (first ∷ rest) none = ap (λ (o : Option ℤ). with_answer program prefix terms (record p { answers = rest }) id args o) none

pub starves : (program : Program) (prefix : Prefix) (terms : Terms) (p : Part) (id : NativeId) (args : List Value) (question : Question) → asks id args ≡ Some question → IsUnanswered question p.answers
    → native program prefix terms p id args ≡ None
unfolding native
starves program prefix terms p id args question asked none =
    ap (λ (o : Option Question). native_asked program prefix terms p id args o) asked ∙ unanswered program prefix terms p id args question p.answers none

starved_step : (program : Program) (prefix : Prefix) (terms : Terms) (s : State) → IsStarvedAt program prefix terms s → step program prefix terms s ≡ IllFormed
unfolding step
starved_step program prefix terms s at =
    let p : Part = part_of at.top at.ready in
    let args : List Value = at.starved.arguments in
    ap (λ (frames : List (Frame Declared)). step_of program prefix terms s frames) at.frames
    ∙ (ap (λ (o : Option Instruction). act program prefix terms s at.top at.below o) at.at
    ∙ (ap (λ (i : Initialised). done program prefix terms at.top at.below at.instruction i) at.prepared
    ∙ ap (λ (o : Option Effect). settled program prefix terms at.ready at.top at.below o)
    (at.starved.does p.answers
    ∙ starves program prefix terms (record p { operands = at.starved.rest; answers = p.answers }) at.starved.id args at.starved.question at.starved.asks at.starved.unanswered)))

-- ---- a run that goes on

pub on_went : (a : StepAnswer) (s : State) → reported_of a ≡ On s → a ≡ Went s
on_went (Went t) s e = let same : t ≡ s = cc in ap Went same
on_went (Ended outcome t) s e = absurd cc
on_went IllFormed s e = absurd cc

module _ (imaged : Imaged) (old new : Running) (gave : List HostAnswer) (sound : IsSound (program_of imaged) imaged.prefix) (running : IsRunning imaged old)
    (turns : TurnsBy imaged (stepping imaged) old new gave settles.Went) where
  abbrev P : Program
  P = program_of imaged

  abbrev s : State
  s = state_of imaged (gave ++ []) old

  went : step P imaged.prefix (terms_of old) s ≡ Went (state_of imaged [] new)
  went = on_went (step P imaged.prefix (terms_of old) s) (state_of imaged [] new) (turns.says [])

  standing : AreStanding P (frames_seen P new.parts.frames)
  standing = elim (step_stands P imaged.prefix sound (terms_of old) s running.standing) [
    | inl stands ↦ subst (AnswerStands P) went stands
    | inr starved ↦ absurd (let ill : IllFormed ≡ Went (state_of imaged [] new) = sym (starved_step P imaged.prefix (terms_of old) s starved) ∙ went in cc)
  ]

  stop : IsStop imaged new.parts.store.heap new.stop
  stop = elim turns.stop [
    | inl same ↦ subst (IsStop imaged new.parts.store.heap) (sym same)
        (stop_kept imaged old.parts.store.heap new.parts.store.heap old.stop (subst (AnswerGrows s.heap) went (steps_grow P imaged.prefix (terms_of old) s)) running.stop)
    | inr now ↦ now
  ]

  goes_on : IsRunning imaged new
  goes_on = record {
    flags = turns.still.flags;
    store = turns.still.store;
    activations = turns.still.activations;
    standing = standing;
    known = turns.still.known;
    stop = stop;
    counts = turns.still.counts;
  }

pub turned_so : (imaged : Imaged) (old new : Running) (gave : List HostAnswer) (settled : Settled) → IsSound (program_of imaged) imaged.prefix → IsRunning imaged old
    → TurnsBy imaged (stepping imaged) old new gave settled → MakesStep imaged old new gave settled
turned_so imaged old new gave settled sound running turns = record {
  says = turns.says;
  limit = turns.limit;
  counting = turns.counting;
  running = λ e. goes_on imaged old new gave sound running (subst (TurnsBy imaged (stepping imaged) old new gave) e turns);
}

pub turned : (imaged : Imaged) (kept : Kept) (old new : Running) (gave : List HostAnswer) (result : Result Settled AllocError) → IsKept imaged kept → IsRunning imaged old
    → IfOk result (TurnsBy imaged (stepping imaged) old new gave) → IfOk result (MakesStep imaged old new gave)
turned imaged kept old new gave (Err e) is running turns = tt
turned imaged kept old new gave (Ok settled) is running turns = turned_so imaged old new gave settled is.sound running turns
