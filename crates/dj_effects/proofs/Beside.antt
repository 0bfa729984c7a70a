-- Where an array isn't reached, the operands that are reported are those before.
use Rattle.std.proofs.Common.{◌≡◌, ℕ, Bool, true, false, ℤ, pos, negsuc, List, nat_lt, Result, Ok, Err, if◌then◌else◌, refl, sym, subst}
use Rattle.std.specs.Prelude.{⊤}
use Rattle.dj_names.specs.declared.run.Element.{Element}
use Rattle.dj_model.specs.trusted.Instructions.{Access}
use Rattle.dj_model.specs.trusted.Arrays as model
use Rattle.dj_model.specs.trusted.Arrays.{Found, reaches}
use Rattle.dj_stack.specs.Frames.{StackFrame, top_operands}
use Rattle.dj_effects.specs.declared.way.Flow.{Flow}
use Rattle.dj_effects.specs.declared.way.Flow.TheVariants as goes
use Rattle.dj_effects.specs.Arrays.{array_reported, outside, place_at, place_of}
use Rattle.dj_effects.specs.DoesOnHeap.{reported_beside}
use Rattle.dj_effects.proofs.ArrayFacts.{reported_array}

abbrev Beside : List StackFrame → List StackFrame → Result (Element × ℕ) Flow → Type 0
Beside old new (Ok place) = ⊤
Beside old new (Err flow) = reported_beside old new flow ≡ top_operands old

array_beside : (old new : List StackFrame) (found : Found ℕ) → Beside old new (array_reported found)
array_beside old new model.Null = refl
array_beside old new model.NoArray = refl
array_beside old new (model.IsArray class element contents) = tt

within_beside : (old new : List StackFrame) (b : Bool) (element : Element) (i : ℕ) → Beside old new (if b then reported_array element i else Err outside)
within_beside old new true element i = tt
within_beside old new false element i = refl

at_beside : (old new : List StackFrame) (index : ℤ) (found : Element × ℕ) → Beside old new (place_at found index)
at_beside old new (pos i) found = within_beside old new (nat_lt i found.1) found.0 i
at_beside old new (negsuc i) found = refl

if_beside : (old new : List StackFrame) (b : Bool) (index : ℤ) (found : Element × ℕ) → Beside old new (if b then place_at found index else Err goes.Link)
if_beside old new true index found = at_beside old new index found
if_beside old new false index found = refl

place_beside : (old new : List StackFrame) (access : Access) (index : ℤ) (found : Result (Element × ℕ) Flow) → Beside old new found → Beside old new (place_of access index found)
place_beside old new access index (Ok found) h = if_beside old new (reaches access found.0) index found
place_beside old new access index (Err flow) h = h

pub reported_before : (old new : List StackFrame) (access : Access) (index : ℤ) (found : Found ℕ) (flow : Flow) → Err flow ≡ place_of access index (array_reported found)
    → reported_beside old new flow ≡ top_operands old
reported_before old new access index found flow e = subst (Beside old new) (sym e) (place_beside old new access index (array_reported found) (array_beside old new found))

pub length_before : (old new : List StackFrame) (found : Found ℕ) (flow : Flow) → Err flow ≡ array_reported found → reported_beside old new flow ≡ top_operands old
length_before old new found flow e = subst (Beside old new) (sym e) (array_beside old new found)
