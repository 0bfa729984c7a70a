-- Programs in which each class has another name: what a map of names has to keep, and what becomes of steps.
use Rattle.std.specs.Prelude.{◌≡◌, ⊤, List, [], ◌∷◌, ◌++◌, true, false}
use Rattle.dj_names.specs.declared.descriptor.Ty.{Ty}
use Rattle.dj_names.specs.declared.run.Outcome.{Outcome}
use Rattle.dj_names.specs.declared.run.Outcome.TheVariants as outcomes
use Rattle.dj_names.specs.trusted.Types.{Name, same_name}
use Rattle.dj_names.specs.Types.{type_map}
use Rattle.dj_model.specs.trusted.Program.{Class}
use Rattle.dj_model.specs.trusted.Linking.{count_fields}
use Rattle.dj_names.specs.trusted.Library.{stop_class}
use Rattle.dj_model.specs.trusted.Types.{Prefix, is_stop}
use Rattle.dj_model.specs.trusted.State.{Counting, Uncounted, Metered, Accounted}
use Rattle.dj_model.specs.State.{state_map}
use Rattle.dj_model.specs.trusted.Natives.{plain_name}
use Rattle.dj_model.specs.trusted.Initialisation.{Initialised, Ready, Waits, Fails}
use Rattle.dj_model.specs.trusted.Step.{StepAnswer, Went, Ended, IllFormed}
use Rattle.dj_model.specs.trusted.Runs.{Report}

-- different names have different images; those of the library's classes get another prefix; and names without their prefix are the same
pub record IsNameMap (f : Name → Name) (p q : Prefix) : Type 0 where
  pub differ : (a b : Name) → f a ≡ f b → a ≡ b
  pub library : (name : Name) → f (p ++ name) ≡ q ++ name
  pub stop : (class : Ty) → is_stop q (type_map f class) ≡ is_stop p class
  pub shown : (name : Name) → plain_name q (f name) ≡ plain_name p name

-- each name is kept
abbrev pub same_names_map : Name → Name
same_names_map name = name

-- none of these classes has the image of a name, and none has static fields
abbrev pub AreApart : (Name → Name) → List Class → Type 0
AreApart f [] = ⊤
AreApart f (c ∷ classes) = ((name : Name) → same_name c.name (f name) ≡ false) × (count_fields true c.fields ≡ 0) × AreApart f classes

-- the accounter doesn't count, or the object that stops a run has the same class
abbrev pub KeepsStop : (Name → Name) → Counting → Type 0
KeepsStop f Uncounted = ⊤
KeepsStop f (Metered most) = ⊤
KeepsStop f (Accounted most) = f stop_class ≡ stop_class

abbrev pub outcome_map : (Name → Name) → Outcome → Outcome
outcome_map f (outcomes.Threw class message) = outcomes.Threw (f class) message
outcome_map f (outcomes.Init class exception message) = outcomes.Init (f class) (f exception) message
outcome_map f outcomes.OkNull = outcomes.OkNull
outcome_map f (outcomes.OkBytes bytes) = outcomes.OkBytes bytes
outcome_map f outcomes.Link = outcomes.Link
outcome_map f outcomes.TooDeep = outcomes.TooDeep
outcome_map f (outcomes.Stopped charge) = outcomes.Stopped charge
outcome_map f (outcomes.HeapFull used size) = outcomes.HeapFull used size
outcome_map f (outcomes.OutOfSteps steps) = outcomes.OutOfSteps steps

abbrev pub initialised_map : (Name → Name) → Initialised → Initialised
initialised_map f (Ready s) = Ready (state_map f s)
initialised_map f (Waits s) = Waits (state_map f s)
initialised_map f (Fails outcome s) = Fails (outcome_map f outcome) (state_map f s)

abbrev pub answer_map : (Name → Name) → StepAnswer → StepAnswer
answer_map f (Went s) = Went (state_map f s)
answer_map f (Ended outcome s) = Ended (outcome_map f outcome) (state_map f s)
answer_map f IllFormed = IllFormed

abbrev pub report_map : (Name → Name) → Report → Report
report_map f r = record r { outcome = outcome_map f r.outcome }
