-- Who counts charges: the run itself, or the accounter.
use Rattle.std.specs.Prelude.{◌≡◌, ◌⊎◌, ℕ, List, ◌∷◌, Option, Some}
use Rattle.dj_names.specs.declared.run.Value.{Value}
use Rattle.dj_names.specs.declared.run.Charge.{Charge}
use Rattle.dj_names.specs.declared.run.Outcome.TheVariants as outcomes
use Rattle.dj_model.specs.trusted.Types.{Prefix, Declared}
use Rattle.dj_model.specs.trusted.Program.{Program}
use Rattle.dj_model.specs.trusted.State.{Counting, Terms, Frame, State}
use Rattle.dj_model.specs.trusted.Step.{StepAnswer, Ended, stop_from, throw_stop_or}

abbrev pub terms_with : Option ℕ → Counting → Terms
terms_with limit counting = record { limit = limit; counting = counting }

-- Where the run counts, a charge that passed its threshold ends it. Where the accounter counts, the object that stops the run is thrown in that end's place, from the top
-- frame with the local variables and operands that the instruction leaves
pub record IsThrown (program : Program) (prefix : Prefix) (terms : Terms) (s : State) (accounted metered : StepAnswer) : Type 0 where
  pub charge : Charge
  pub end : State
  pub ends : metered ≡ Ended (outcomes.Stopped charge) end
  pub exceeded : end.account.exceeded ≡ Some charge
  pub top : Frame Declared
  pub below : List (Frame Declared)
  pub frames : s.frames ≡ top ∷ below
  pub locals : List (Option Value)
  pub operands : List Value
  pub thrown : accounted ≡ throw_stop_or program prefix terms (record end { frames = record top { locals = locals; operands = operands } ∷ below }) (stop_from prefix 1 end.heap.objects)

-- the step where the accounter counts is the step where the run counts, but for that end
abbrev pub CountsAs : Program → Prefix → Terms → State → StepAnswer → StepAnswer → Type 0
CountsAs program prefix terms s accounted metered = (accounted ≡ metered) ⊎ IsThrown program prefix terms s accounted metered
