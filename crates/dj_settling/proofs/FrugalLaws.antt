-- A run that goes on doesn't end.
use Rattle.std.proofs.Common.{◌≡◌, ◌+◌, ◌<◌, ◌^◌, ℕ, List, [], ◌∷◌, Option, Some, ap, sym, ◌∙◌}
use Rattle.std.specs.Option.{option_map}
use Rattle.dj_names.specs.declared.run.Value.{Value}
use Rattle.dj_names.specs.declared.descriptor.Ty.{Ty}
use Rattle.dj_names.specs.trusted.Heaps.{class_of}
use Rattle.dj_model.specs.trusted.Program.{Program}
use Rattle.dj_model.specs.trusted.State.{State}
use Rattle.dj_model.specs.trusted.Charging.{new_account}
use Rattle.dj_model.specs.trusted.Runs.{empty_heap}
use Rattle.dj_model.specs.trusted.Step.{Went}
use Rattle.dj_heap.specs.Heaps.{LimitedHeap, object_in}
use Rattle.dj_stack.specs.Frames.{StackFrame}
use Rattle.dj_numbering.specs.Typed.{types_of, type_at}
use Rattle.dj_image.specs.Imaged.{Imaged, program_of, typed_of}
use Rattle.dj_unwinding.specs.Returns.{IsReturned}
use Rattle.dj_unwinding.specs.Short.{HasNumberBelow}
use Rattle.dj_unwinding.specs.Unwinding.{IsUnwound, frames_unwound, unwound_reported}
use Rattle.dj_unwinding.specs.declared.returning.Returned.TheVariants as returns
use Rattle.dj_unwinding.specs.declared.unwinding.Unwound.{Unwound}
use Rattle.dj_unwinding.specs.declared.unwinding.Unwound.TheVariants as unwinds
use Rattle.dj_settling.specs.Frugal.{IsFrugalReturn, IsFrugalThrow}
use Rattle.dj_settling.specs.Settling.{seen_in}
use Rattle.dj_settling.proofs.ThrowLaws.{class_there}

-- ---- returns

pub has_number_below : (frames : List StackFrame) → IsFrugalReturn frames → HasNumberBelow frames
has_number_below [] frugal = tt
has_number_below (f ∷ []) frugal = tt
has_number_below (f ∷ (caller ∷ below)) frugal = frugal

abbrev some_state : State
some_state = record { heap = empty_heap; statics = []; initialised = []; literals = []; frames = []; account = new_account; answers = [] }

-- where there is a caller the return isn't the last one
pub never_last : (program : Program) (old new : List StackFrame) (value : Option Value) → IsFrugalReturn old → IsReturned program old new value returns.Last → ⊥
never_last program [] new value frugal reported = frugal
never_last program (f ∷ []) new value frugal reported = frugal
never_last program (f ∷ (caller ∷ below)) new value frugal reported = absurd (let e = reported some_state in cc)

-- ---- throws

module _ (imaged : Imaged) (h : LimitedHeap) (class exception : ℕ) (old new : List StackFrame) (is : option_map class_of (object_in h exception) ≡ Some class)
    (frugal : IsFrugalThrow imaged h old exception) where
  so : (how : Unwound) → IsUnwound imaged (type_at (typed_of imaged) class) exception old new how
      → unwound_reported imaged (seen_in imaged h old frugal.state) (type_at (typed_of imaged) class) exception new how ≡ Went frugal.next
  so how gone =
      sym (ap (λ (ty : Ty). frames_unwound imaged (seen_in imaged h old frugal.state) ty exception old) (class_there (types_of (typed_of imaged)) h exception class is)
      ∙ gone (seen_in imaged h old frugal.state))
      ∙ frugal.goes

  -- it is caught
  pub never_out : (left : ℕ) → IsUnwound imaged (type_at (typed_of imaged) class) exception old new (unwinds.Init left) → ⊥
  never_out left gone = absurd (let e = so (unwinds.Init left) gone in cc)

  pub never_threw : IsUnwound imaged (type_at (typed_of imaged) class) exception old new unwinds.Threw → ⊥
  never_threw gone = absurd (let e = so unwinds.Threw gone in cc)
