-- What arraycopy copies.
use Rattle.std.specs.Prelude.{◌≡◌, ℕ, ◌+◌, ◌^◌, ◌<◌, ◌≤◌, ℤ, pos, negsuc, nat_le, List, [], ◌++◌, take, drop, length, Option, Some, None, Bool, unsigned_abs, slice_range, if◌then◌else◌}
use Rattle.dj_names.specs.declared.descriptor.Ty.{Ty}
use Rattle.dj_names.specs.declared.run.Element.{Element}
use Rattle.dj_names.specs.declared.run.Value.{Value}
use Rattle.dj_names.specs.trusted.Heaps.{Object, Array, with_object}
use Rattle.dj_heap.specs.Heaps.{LimitedHeap, object_in}
use Rattle.dj_model.specs.trusted.Types.{Prefix}
use Rattle.dj_model.specs.trusted.Program.{Program}
use Rattle.dj_model.specs.trusted.Natives as model
use Rattle.dj_names.specs.declared.run.Element.TheVariants as elements
use Rattle.dj_names.specs.declared.run.Raised.TheVariants as raises
use Rattle.dj_natives.specs.declared.answer.NativeAnswer.{NativeAnswer}
use Rattle.dj_natives.specs.Calls.{seen_of, Done}
use Rattle.dj_natives.specs.declared.arrays.Copy.{Copy}

-- what the model answers for these arguments
abbrev pub copy_answer : Program → Prefix → List Ty → LimitedHeap → List Value → model.Answer
copy_answer program prefix types h args =
    model.copy_array (seen_of program prefix types h) (model.reference 0 args) (model.number 1 args) (model.reference 2 args) (model.number 3 args) (model.number 4 args)

-- what isn't negative is a place
abbrev pub as_place : ℤ → Option ℕ
as_place (pos n) = Some n
as_place (negsuc n) = None

-- the elements of an array; none where there is no array
abbrev pub contents_held : Option (Object ℕ) → List ℤ
contents_held (Some (Array class element contents)) = contents
contents_held _ = []

abbrev pub contents_at : LimitedHeap → ℕ → List ℤ
contents_at h r = contents_held (object_in h r)

-- the array has this many elements from this place on
abbrev pub fits_at : LimitedHeap → ℕ → ℕ → ℕ → Bool
fits_at h r from count = nat_le (from + count) (length (contents_at h r))

-- an array of such elements, with this many of them from this place on
pub record HasPlaces (h : LimitedHeap) (r : ℕ) (element : Element) (from count : ℕ) : Type 0 where
  pub class : ℕ
  pub contents : List ℤ
  pub is : object_in h r ≡ Some (Array class element contents)
  pub within : from + count ≤ length contents
  pub few : from + count < 2 ^ 32

pub record IsCopy (h : LimitedHeap) (element : Element) (copy : Copy) : Type 0 where
  pub source : HasPlaces h copy.source element copy.from copy.count
  pub target : HasPlaces h copy.target element copy.to copy.count

-- what the target takes
abbrev pub takes_at : Program → Prefix → List Ty → LimitedHeap → ℕ → ℕ → Bool
takes_at program prefix types h target r = (seen_of program prefix types h).takes target r

abbrev pub moved_of : Program → Prefix → List Ty → LimitedHeap → Element → Copy → List ℤ → List ℤ
moved_of program prefix types h element copy contents =
    if model.is_reference element then model.taken_before (takes_at program prefix types h copy.target) (slice_range contents copy.from (copy.from + copy.count))
    else slice_range contents copy.from (copy.from + copy.count)

-- the answer for elements that are there
abbrev pub CopiesSo : Program → Prefix → List Ty → LimitedHeap → Element → Copy → model.Answer → Type 0
CopiesSo program prefix types h element copy answer = (class other : ℕ) (contents old : List ℤ) → object_in h copy.source ≡ Some (Array class element contents)
    → object_in h copy.target ≡ Some (Array other element old) → answer ≡ model.copied copy.target old copy.to (moved_of program prefix types h element copy contents) copy.count

-- this many elements are moved
abbrev pub MovesSo : Program → Prefix → List Ty → LimitedHeap → Element → Copy → ℕ → Type 0
MovesSo program prefix types h element copy n = (class : ℕ) (contents : List ℤ) → object_in h copy.source ≡ Some (Array class element contents)
    → moved_of program prefix types h element copy contents ≡ take n (drop copy.from contents)

-- the target has this many of the elements now, and all else is as it was
abbrev pub Moves : LimitedHeap → LimitedHeap → Copy → ℕ → Type 0
Moves old new copy n = (class other : ℕ) (element : Element) (contents olds : List ℤ) → object_in old copy.source ≡ Some (Array class element contents)
    → object_in old copy.target ≡ Some (Array other element olds)
    → new ≡ record old { heap = with_object old.heap copy.target (Array other element (take copy.to olds ++ take n (drop copy.from contents) ++ drop (copy.to + n) olds)) }

-- the copy did what the model's answer says
abbrev pub CopiesAll : Program → Prefix → List Ty → LimitedHeap → LimitedHeap → Element → Copy → NativeAnswer → Type 0
CopiesAll program prefix types old new element copy result =
    (answer : model.Answer) → CopiesSo program prefix types old element copy answer → Done prefix types old new answer result

-- the places that the arguments give, where they are inside of both arrays
abbrev pub IsPlaces : LimitedHeap → Element → List Value → Option Copy → Type 0
IsPlaces h element args None = (program : Program) (prefix : Prefix) (types : List Ty) → copy_answer program prefix types h args ≡ model.Raises raises.ArrayIndexOutOfBounds
IsPlaces h element args (Some copy) = IsCopy h element copy
    × ((program : Program) (prefix : Prefix) (types : List Ty) → CopiesSo program prefix types h element copy (copy_answer program prefix types h args))

-- this many come before the first reference that isn't taken
abbrev pub Takes : (ℕ → Bool) → LimitedHeap → Copy → ℕ → Type 0
Takes takes h copy n = (class : ℕ) (contents : List ℤ) → object_in h copy.source ≡ Some (Array class elements.Ref contents)
    → model.taken_before takes (slice_range contents copy.from (copy.from + copy.count)) ≡ take n (drop copy.from contents)
