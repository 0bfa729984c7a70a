-- Used by the code alone: the place of an array that an access and an index reach.
use Rattle.std.specs.Prelude.{ℕ, ◌^◌, Bool, true, ℤ, pos, negsuc, unsigned_abs, length, nat_lt, Result, Ok, Err, if◌then◌else◌}
use Rattle.std.specs.Int.{w32, int_wrap, int_rem_euclid}
use Rattle.dj_names.specs.declared.run.Value.{Value}
use Rattle.dj_names.specs.declared.run.Value.TheVariants as values
use Rattle.dj_names.specs.declared.run.Element.{Element}
use Rattle.dj_names.specs.declared.run.Element.TheVariants as elements
use Rattle.dj_names.specs.declared.run.Raised.TheVariants as raises
use Rattle.dj_model.specs.trusted.Instructions.{Access}
use Rattle.dj_model.specs.trusted.Arrays.{Found, Null, NoArray, IsArray, reaches}
use Rattle.dj_effects.specs.declared.way.Way.TheVariants as ways
use Rattle.dj_effects.specs.declared.way.Flow.{Flow}
use Rattle.dj_effects.specs.declared.way.Flow.TheVariants as goes

-- what the elements of an array are and how many, or how the run goes on in its place
abbrev pub array_reported : Found ℕ → Result (Element × ℕ) Flow
array_reported Null = Err (goes.Goes (ways.Raise raises.NullPointer))
array_reported NoArray = Err goes.Link
array_reported (IsArray class element contents) = Ok (element, length contents)

abbrev pub outside : Flow
outside = goes.Goes (ways.Raise raises.ArrayIndexOutOfBounds)

abbrev pub place_at : Element × ℕ → ℤ → Result (Element × ℕ) Flow
place_at found (pos i) = if nat_lt i found.1 then Ok (found.0, i) else Err outside
place_at found (negsuc i) = Err outside

-- what the element is at an index and at which place, or how the run goes on in its place
abbrev pub place_of : Access → ℤ → Result (Element × ℕ) Flow → Result (Element × ℕ) Flow
place_of access index (Err flow) = Err flow
place_of access index (Ok found) = if reaches access found.0 then place_at found index else Err goes.Link

-- an element as a value: of a number that an array keeps its value
abbrev pub value_of : Element → ℤ → Value
value_of elements.Long z = values.Long z
value_of elements.Ref z = values.Ref (unsigned_abs (int_rem_euclid z (pos (2 ^ 32))))
value_of _ z = values.Int (int_wrap w32 z)

-- a number is taken by each array of its kind
abbrev pub takes_value : Value → Bool → Bool
takes_value (values.Ref r) taken = taken
takes_value v taken = true
