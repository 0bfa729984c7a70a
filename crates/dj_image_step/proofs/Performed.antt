-- What is asked before the next instruction is done, and what is reported where the host isn't asked.
use Rattle.std.proofs.Common.{◌≡◌, ◌<◌, ℕ, List, [], length, sym, ap, subst, ◌∙◌}
use Rattle.std.specs.Prelude.{Result, IfOk}
use Rattle.std.specs.declared.alloc.AllocError.{AllocError}
use Rattle.dj_edge.specs.declared.host.HostAnswer.{HostAnswer}
use Rattle.dj_model.specs.trusted.Types.{Declared}
use Rattle.dj_model.specs.trusted.State.{State, Terms}
use Rattle.dj_model.specs.trusted.Step.{StepAnswer}
use Rattle.dj_stack.specs.Frames.{StackFrame, top_method}
use Rattle.dj_resolution.specs.Linked.{class_name}
use Rattle.dj_host.specs.trusted.Hosted.{given_since}
use Rattle.dj_numbering.specs.Members.{IsMethodThere}
use Rattle.dj_numbering.specs.declared.types.MemberOf.{MemberOf}
use Rattle.dj_image.specs.Imaged.{Imaged, program_of, typed_of}
use Rattle.dj_current_method.specs.Activations.{declared_at}
use Rattle.dj_current_method.proofs.Numbers.{declared_there}
use Rattle.dj_settling.specs.declared.settled.Settled.{Settled}
use Rattle.dj_image_step.specs.Running.{IsRunning, Running}
use Rattle.dj_image_step.specs.Doing.{IsStill, IsTop, TurnsBy}
use Rattle.dj_image_step.proofs.HostLaws.{none_given}
use Rattle.dj_image_step.proofs.UsedLaws.{class_named}

pub still_of : (imaged : Imaged) (r : Running) → IsRunning imaged r → IsStill imaged r
still_of imaged r running = record { flags = running.flags; store = running.store; activations = running.activations; known = running.known; counts = running.counts }

-- the class of the top frame's method
pub own_class : (imaged : Imaged) (frames : List StackFrame) (method number : ℕ) (reported : MemberOf) → IsTop imaged frames method number → IsMethodThere (typed_of imaged) method reported
    → (reported.class < length (program_of imaged)) × (class_name (program_of imaged) reported.class ≡ (declared_at (program_of imaged) (top_method frames)).class)
own_class imaged frames method number reported top there =
    let named = class_named (program_of imaged) reported.class there.found.class there.class in (
      named.0,
      named.1 ∙ (ap (λ (d : Declared). d.class) (sym (declared_there (program_of imaged) method there.found there.there))
          ∙ ap (λ (k : ℕ). (declared_at (program_of imaged) k).class) top.method_is),
    )

-- where the host isn't asked it gives nothing
pub none_turns : (imaged : Imaged) (answer : Terms → State → StepAnswer) (old new : Running) (given : List HostAnswer) (settled : Settled) → TurnsBy imaged answer old new [] settled
    → TurnsBy imaged answer old new (given_since given given) settled
none_turns imaged answer old new given settled turns = subst (λ (gave : List HostAnswer). TurnsBy imaged answer old new gave settled) (sym (none_given given)) turns

pub none_then : (imaged : Imaged) (answer : Terms → State → StepAnswer) (old new : Running) (given : List HostAnswer) (result : Result Settled AllocError)
    → IfOk result (TurnsBy imaged answer old new []) → IfOk result (TurnsBy imaged answer old new (given_since given given))
none_then imaged answer old new given result turns = subst (λ (gave : List HostAnswer). IfOk result (TurnsBy imaged answer old new gave)) (sym (none_given given)) turns
