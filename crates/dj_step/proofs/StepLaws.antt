-- A step of a machine that is over, and what the host gave.
use Rattle.std.proofs.Common.{◌≡◌, ◌≤◌, ℕ, Bool, true, false, List, [], ◌∷◌, ◌++◌, length, Option, Some, refl, sym, ap, subst, ◌∙◌, arith}
use Rattle.std.proofs.Math.ListN.{drop_of_length-le}
use Rattle.std.proofs.lemmas.Bool.{false≢true}
use Rattle.dj_names.specs.declared.run.Outcome.{Outcome}
use Rattle.dj_edge.specs.declared.host.HostAnswer.{HostAnswer}
use Rattle.dj_names.specs.declared.run.Thresholds.{Thresholds}
use Rattle.dj_model.specs.trusted.State.{Terms}
use Rattle.dj_host.specs.trusted.Hosted.{given_since}
use Rattle.dj_image.specs.Imaged.{Imaged, program_of}
use Rattle.dj_image_step.specs.Memory.{NeedsNoMemory}
use Rattle.dj_image_step.specs.Running as running
use Rattle.dj_image_step.specs.Running.{Kept, Running, state_of}
use Rattle.dj_step.specs.declared.answers.StepAnswer.{StepAnswer}
use Rattle.dj_step.specs.declared.answers.StepAnswer.TheVariants as steps
use Rattle.dj_step.specs.Machines.{Machined, Steps, counting_for, is_over, step_answer}
use Rattle.dj_step.specs.Running.{IsMachine}

-- ---- what the host gave

nothing_since : (given : List HostAnswer) → given_since given given ≡ []
nothing_since given = let le : length given ≤ length given = omega arith in drop_of_length-le given le

all_there : (given : List HostAnswer) → given ++ [] ≡ given
all_there [] = refl
all_there (x ∷ given) = ap (λ (rest : List HostAnswer). x ∷ rest) (all_there given)

pub gave_nothing : (given : List HostAnswer) → given ≡ given ++ given_since given given
gave_nothing given = sym (all_there given) ∙ ap (λ (more : List HostAnswer). given ++ more) (sym (nothing_since given))

-- ---- one that is over

over_stays : (m : Machined) (given : List HostAnswer) (answer : StepAnswer) → is_over m ≡ true → answer ≡ step_answer m → Steps m m (given_since given given) answer
over_stays m given answer over is = record {
  answers = is;
  run = record { image = refl; limit = refl; counting = refl };
  over = λ over. record { same = refl; quiet = nothing_since given };
  goes = λ going. absurd (false≢true (sym going ∙ over));
}

pub stays_failed : (m : Machined) (given : List HostAnswer) → m.failed ≡ true → Steps m m (given_since given given) steps.Memory
stays_failed m given failed =
    over_stays m given steps.Memory (ap (λ (b : Bool). is_over (record m { failed = b })) failed) (sym (ap (λ (b : Bool). step_answer (record m { failed = b })) failed))

pub stays_ended : (m : Machined) (given : List HostAnswer) (outcome : Outcome) → m.failed ≡ false → m.outcome ≡ Some outcome → Steps m m (given_since given given) steps.Ended
stays_ended m given outcome well ended =
    over_stays m given steps.Ended
    (ap (λ (b : Bool). is_over (record m { failed = b })) well ∙ ap (λ (o : Option Outcome). is_over (record m { failed = false; outcome = o })) ended)
    (sym (ap (λ (b : Bool). step_answer (record m { failed = b })) well ∙ ap (λ (o : Option Outcome). step_answer (record m { failed = false; outcome = o })) ended))

-- ---- one that isn't

pub over_not : (m : Machined) → m.failed ≡ true → is_over m ≡ false → ⊥
over_not m failed going = false≢true (sym going ∙ ap (λ (b : Bool). is_over (record m { failed = b })) failed)

-- on the terms of the machine its run needs as little
pub needs_of : (imaged : Imaged) (limit : ℕ) (limits : Thresholds) (kept : Kept) (r : Running) (outcome : Option Outcome) (failed : Bool) → IsMachine imaged limit limits kept r outcome failed
    → failed ≡ false → NeedsNoMemory (program_of imaged) imaged.prefix (record { limit = Some limit; counting = counting_for imaged.prefix limits }) (state_of imaged [] r)
    → NeedsNoMemory (program_of imaged) imaged.prefix (running.terms_of r) (state_of imaged [] r)
needs_of imaged limit limits kept r outcome failed is well needs =
    subst (λ (terms : Terms). NeedsNoMemory (program_of imaged) imaged.prefix terms (state_of imaged [] r))
    (λ k. record { limit = Some (sym (is.limited well) k); counting = sym (is.counted well) k }) needs

pub went_apart : steps.Went ≡ steps.Memory → ⊥
went_apart e = absurd cc

pub ended_apart : steps.Ended ≡ steps.Memory → ⊥
ended_apart e = absurd cc
