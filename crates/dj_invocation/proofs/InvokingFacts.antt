-- Operands, frames and choices at plain values.
use Rattle.std.proofs.Common.{◌≡◌, ℕ, true, false, pos, List, [], ◌∷◌, map, Option, Some, None, refl, ap, arith}
use Rattle.dj_names.specs.declared.descriptor.Kind.TheVariants as kinds
use Rattle.dj_names.specs.declared.run.Value.{Value}
use Rattle.dj_names.specs.declared.run.Value.TheVariants as values
use Rattle.dj_names.specs.trusted.Heaps.{Heap}
use Rattle.dj_names.specs.declared.descriptor.Ty.{Ty}
use Rattle.dj_model.specs.trusted.Instructions.{Virtual, Special, Static, Interface}
use Rattle.dj_stack.specs.Frames.{StackFrame}
use Rattle.dj_invocation.specs.declared.choosing.Mode.TheVariants as modes
use Rattle.dj_invocation.specs.declared.choosing.Chosen.TheVariants as chosen
use Rattle.dj_invocation.specs.declared.entering.Room.{Room}
use Rattle.dj_invocation.specs.Operands.{fit, receiver_in}
use Rattle.dj_invocation.specs.Entering.{entered, EntersIfAllowed}
use Rattle.dj_invocation.specs.Choosing.{IsNull, IsBroken, IsChosen, reported_mode, received_choice, taken_method}

-- the top first: an int above a long above a reference
abbrev some_operands : List Value
some_operands = values.Int (pos 1) ∷ values.Long (pos 2) ∷ values.Ref 3 ∷ []

-- none is asked for, those that stand there, another kind on top, others in the other order, and more than stand there
fits : map (λ asked. fit asked some_operands) (
    [] ∷ (kinds.Int ∷ kinds.Long ∷ []) ∷ (kinds.Ref ∷ []) ∷ (kinds.Long ∷ kinds.Int ∷ []) ∷ (kinds.Int ∷ kinds.Long ∷ kinds.Ref ∷ kinds.Int ∷ []) ∷ []
    ) ≡ true ∷ true ∷ false ∷ false ∷ false ∷ []
fits = refl

-- a reference on top, another value there, and nothing
receivers : map receiver_in ((values.Ref 3 ∷ []) ∷ (values.Ref 0 ∷ []) ∷ some_operands ∷ [] ∷ []) ≡ Some 3 ∷ Some 0 ∷ None ∷ None ∷ []
receivers = refl

-- the first argument in the first local variable, a long in two, and the rest without values
a_frame : entered 5 4 7 (values.Ref 3 ∷ values.Long (pos 2) ∷ [])
    ≡ record { method = 5; number = 0; locals = Some (values.Ref 3) ∷ Some (values.Long (pos 2)) ∷ None ∷ None ∷ []; operands = []; room = 7 }
a_frame = refl

abbrev first_local : StackFrame → ℕ
first_local frame = reference (frame.locals) where
  reference : List (Option Value) → ℕ
  reference (Some (values.Ref r) ∷ rest) = r
  reference locals = 0

-- not in the other order
not_reversed : entered 5 2 7 (values.Ref 3 ∷ values.Ref 4 ∷ []) ≡ entered 5 2 7 (values.Ref 4 ∷ values.Ref 3 ∷ []) → ⊥
not_reversed e = let same : 3 ≡ 4 = ap first_local e in omega (arith, same)

abbrev a_caller : StackFrame
a_caller = record { method = 1; number = 2; locals = []; operands = values.Int (pos 1) ∷ values.Ref 3 ∷ []; room = 2 }

abbrev a_room : Room
a_room = record { method = 5; max_locals = 1; max_stack = 0 }

-- the caller keeps what is left
a_call : EntersIfAllowed 1 a_room (a_caller ∷ []) (
    record { method = 5; number = 0; locals = Some (values.Int (pos 1)) ∷ []; operands = []; room = 0 } ∷ record a_caller { operands = values.Ref 3 ∷ [] } ∷ []
    ) true
a_call = (omega arith, refl)

-- with one frame there is room for one more
not_deep : (new : List StackFrame) → EntersIfAllowed 1 a_room (a_caller ∷ []) new false → ⊥
not_deep new e = let many = e.0 in omega (arith, many)

reported_modes : map reported_mode (Virtual ∷ Special ∷ Static ∷ Interface 2 ∷ []) ≡ modes.Virtual ∷ modes.Special ∷ modes.Static ∷ modes.Interface ∷ []
reported_modes = refl

abbrev no_objects : Heap Ty
no_objects = record { objects = []; used = 0 }

-- null raises, whatever would be taken
null_raises : received_choice [] [] no_objects 0 [] (taken_method None) ≡ IsNull
null_raises = refl

not_linked : IsChosen [] chosen.Link (received_choice [] [] no_objects 0 [] (taken_method None)) → ⊥
not_linked reported = reported

broken : taken_method None ≡ IsBroken
broken = refl
