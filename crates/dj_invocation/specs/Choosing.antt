-- What a call takes: a method that runs, or how the run goes on in its place.
use Rattle.std.specs.Prelude.{◌≡◌, ◌<◌, ℕ, ⊤, length, List, Option, Some, None, nat_eq, if◌then◌else◌, slice_get}
use Rattle.dj_names.specs.declared.descriptor.Ty.{Ty}
use Rattle.dj_names.specs.declared.run.Value.{Value}
use Rattle.dj_names.specs.declared.run.Raised.TheVariants as raises
use Rattle.dj_names.specs.trusted.Heaps.{Heap}
use Rattle.dj_names.specs.trusted.Types.{Name, class_type}
use Rattle.dj_model.specs.trusted.Types.{Prefix}
use Rattle.dj_model.specs.trusted.Instructions as model
use Rattle.dj_model.specs.trusted.Instructions.{Virtual, Special, Static, Interface}
use Rattle.dj_model.specs.trusted.Program.{Program}
use Rattle.dj_model.specs.trusted.Linking.{FoundMethod, select, special_method}
use Rattle.dj_model.specs.trusted.State.{Terms, Part, Raise, Goes, Effect, goes}
use Rattle.dj_model.specs.trusted.Performing.{is_instance, class_at_number}
use Rattle.dj_model.specs.trusted.Members.{broken, asked_class, run_body}
use Rattle.dj_numbering.specs.Members.{all_methods}
use Rattle.dj_numbering.specs.declared.types.MethodId.{MethodId}
use Rattle.dj_invocation.specs.declared.choosing.Mode.{Mode}
use Rattle.dj_invocation.specs.declared.choosing.Mode.TheVariants as modes
use Rattle.dj_invocation.specs.declared.choosing.Chosen.{Chosen}
use Rattle.dj_invocation.specs.declared.choosing.Chosen.TheVariants as chosen

-- without the count of a call of an interface's method
abbrev pub reported_mode : model.Mode → Mode
reported_mode Virtual = modes.Virtual
reported_mode Special = modes.Special
reported_mode Static = modes.Static
reported_mode (Interface count) = modes.Interface

-- ---- in the model

pub data Choice : Type 0 where
  Takes : FoundMethod → Choice
  -- the receiver is null
  IsNull : Choice
  -- the receiver isn't of the class, or there is no such method
  IsBroken : Choice

abbrev pub taken_method : Option FoundMethod → Choice
taken_method None = IsBroken
taken_method (Some found) = Takes found

-- the receiver has to be of a class
abbrev pub received_choice : Program → Prefix → Heap Ty → ℕ → Name → Choice → Choice
received_choice program prefix heap r class choice =
    if nat_eq r 0 then IsNull else if is_instance program prefix heap r (class_type class) then choice else IsBroken

abbrev pub virtual_choice : Program → Prefix → Heap Ty → FoundMethod → ℕ → Choice
virtual_choice program prefix heap resolved r =
    received_choice program prefix heap r resolved.class (taken_method (select program prefix resolved (class_at_number heap r)))

abbrev pub special_choice : Program → Prefix → Heap Ty → FoundMethod → ℕ → Option FoundMethod → Choice
special_choice program prefix heap resolved r found = received_choice program prefix heap r (asked_class resolved found) (taken_method found)

-- a static method has no receiver
abbrev pub choice_of : Program → Prefix → Heap Ty → Name → model.Mode → FoundMethod → ℕ → Choice
choice_of program prefix heap own Static resolved r = Takes resolved
choice_of program prefix heap own Special resolved r = special_choice program prefix heap resolved r (special_method program own resolved)
choice_of program prefix heap own Virtual resolved r = virtual_choice program prefix heap resolved r
choice_of program prefix heap own (Interface count) resolved r = virtual_choice program prefix heap resolved r

-- the effect of a call that takes this
abbrev pub effect_of : Program → Prefix → Terms → Part → List Value → List Value → List Ty → Choice → Option Effect
effect_of program prefix terms p receiver args types (Takes found) = run_body program prefix terms p found receiver args types found.method.body
effect_of program prefix terms p receiver args types IsNull = Some (goes p (Goes (Raise raises.NullPointer)))
effect_of program prefix terms p receiver args types IsBroken = Some (broken p)

-- ---- by numbers

abbrev pub IsNumber : Program → MethodId → Type 0
IsNumber program id = id.number < length (all_methods program)

-- what is chosen is a method of the program, if it is one
abbrev pub IsThere : Program → Chosen → Type 0
IsThere program (chosen.Method id) = IsNumber program id
IsThere program reported = ⊤

abbrev pub IsMethod : Program → MethodId → FoundMethod → Type 0
IsMethod program id found = slice_get (all_methods program) id.number ≡ Some found

abbrev pub IsChosen : Program → Chosen → Choice → Type 0
IsChosen program (chosen.Method id) (Takes found) = IsMethod program id found
IsChosen program chosen.Null IsNull = ⊤
IsChosen program chosen.Link IsBroken = ⊤
IsChosen program reported choice = ⊥

abbrev pub IsMethodOrNone : Program → Option MethodId → Option FoundMethod → Type 0
IsMethodOrNone program None None = ⊤
IsMethodOrNone program (Some id) (Some found) = IsMethod program id found
IsMethodOrNone program id found = ⊥

abbrev pub chosen_method : Option MethodId → Chosen
chosen_method None = chosen.Link
chosen_method (Some id) = chosen.Method id

-- what a receiver that isn't fit is refused with, in the place of a choice
abbrev pub RefusesWith : Program → Prefix → Heap Ty → ℕ → Name → Option Chosen → Type 0
RefusesWith program prefix heap r class None = (choice : Choice) → received_choice program prefix heap r class choice ≡ choice
RefusesWith program prefix heap r class (Some chosen.Null) = (choice : Choice) → received_choice program prefix heap r class choice ≡ IsNull
RefusesWith program prefix heap r class (Some chosen.Link) = (choice : Choice) → received_choice program prefix heap r class choice ≡ IsBroken
RefusesWith program prefix heap r class (Some (chosen.Method id)) = ⊥
