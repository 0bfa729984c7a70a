-- What is kept of fields and methods: how many stand in the classes before each class, the class of each, and how many instance fields each class has.
use Rattle.std.specs.Prelude.{◌≡◌, ℕ, ◌+◌, ◌-◌, ◌^◌, ◌<◌, ◌≤◌, List, [], ◌∷◌, map, take, length, sum, get_or, Option, Some, None, slice_get}
use Rattle.std.specs.Option.{option_map}
use Rattle.dj_model.specs.trusted.Program.{Program, Class}
use Rattle.dj_model.specs.trusted.Linking.{most_classes, own_field_count, place_of}
use Rattle.dj_class_table.specs.declared.place.Place.{Place}
use Rattle.dj_resolution.specs.Numbers.{numbers_up}
use Rattle.dj_numbering.specs.declared.members.Members.{Members}
use Rattle.dj_numbering.specs.declared.members.MemberStarts.{MemberStarts}
use Rattle.dj_numbering.specs.declared.heights.Height.{Height}
use Rattle.dj_numbering.specs.Members.{all_methods, all_fields, methods_in, fields_in}

-- ---- numbers of members

-- how many each class has
abbrev pub counts_of : {F : Type 0} → (Class → List F) → Program → List ℕ
counts_of items program = map (λ c. length (items c)) program

-- how many stand before each place
pub record AreStarts (counts starts : List ℕ) : Type 0 where
  pub long : length starts ≡ length counts
  pub each : (k : ℕ) → k < length counts → get_or starts k 0 ≡ sum (take k counts)

-- and how many there are in all
pub record AreCounted (counts : List ℕ) (starts : MemberStarts) : Type 0 where
  pub are : AreStarts counts starts.each.items
  pub total : starts.total ≡ sum counts

-- none stands before the first
pub record IsBegun (starts : List ℕ) (number : ℕ) : Type 0 where
  pub some : 0 < length starts
  pub first : get_or starts 0 0 ≤ number

-- the member of the number is counted where it starts, and before the next one
pub record IsStartOf (starts : List ℕ) (number : ℕ) (place : Place) : Type 0 where
  pub there : place.class < length starts
  pub reached : get_or starts place.class 0 + place.member ≡ number
  pub before : place.class + 1 < length starts → number < get_or starts (place.class + 1) 0

-- the classes of members by their numbers
pub record AreMemberClasses (starts classes : List ℕ) : Type 0 where
  pub each : (number : ℕ) → number < length classes
      → IsStartOf starts number (record { class = get_or classes number 0; member = number - get_or starts (get_or classes number 0) 0 })

-- ---- instance fields

-- those of classes by their numbers
abbrev pub fields_of_numbers : Program → List ℕ → ℕ
fields_of_numbers program [] = 0
fields_of_numbers program (k ∷ ks) = own_field_count (slice_get program k) + fields_of_numbers program ks

-- those of a class and of its superclasses
abbrev pub fields_up : Program → ℕ → ℕ
fields_up program class = fields_of_numbers program (numbers_up most_classes program (Some class))

pub record AreSums (program : Program) (sums : List ℕ) : Type 0 where
  pub long : length sums ≡ length program
  pub each : (k : ℕ) → k < length program → get_or sums k 0 ≡ fields_up program k

-- this many levels above, and more, have this many instance fields
pub record IsHeight (program : Program) (class : Option ℕ) (height : Height) : Type 0 where
  pub same : (n : ℕ) → fields_of_numbers program (numbers_up (n + height.levels) program class) ≡ height.fields
  pub few : height.levels < 2 ^ 32

-- that of a class where it is known, and of none where there is no class
abbrev pub height_at : List (Option Height) → Option ℕ → Option Height
height_at heights None = Some (record { fields = 0; levels = 0 })
height_at heights (Some k) = get_or heights k None

-- this many instance fields more, and a level
pub record AddsTo (above : Height) (fields : ℕ) (height : Height) : Type 0 where
  pub fields_are : height.fields ≡ above.fields + fields
  pub levels_are : height.levels ≡ above.levels + 1
  pub few : height.levels < 2 ^ 32

-- those of the classes that are known
pub record AreHeights (program : Program) (heights : List (Option Height)) : Type 0 where
  pub long : length heights ≡ length program
  pub each : (k : ℕ) (height : Height) → get_or heights k None ≡ Some height → IsHeight program (Some k) height

-- by the numbers of fields, their places among the instance fields of objects
pub record AreObjectPlaces (program : Program) (places : List ℕ) : Type 0 where
  pub long : length places ≡ length (all_fields program)
  pub each : (k : ℕ) → k < length (all_fields program) → Some (get_or places k 0) ≡ option_map (place_of program) (slice_get (all_fields program) k)

-- ---- all of it

pub record AreMembers (program : Program) (members : Members) : Type 0 where
  pub methods : AreStarts (counts_of methods_in program) members.method_starts.items
  pub fields : AreStarts (counts_of fields_in program) members.field_starts.items
  pub all_methods_there : length members.method_classes.items ≡ length (all_methods program)
  pub all_fields_there : length members.field_classes.items ≡ length (all_fields program)
  pub method_classes : AreMemberClasses members.method_starts.items members.method_classes.items
  pub field_classes : AreMemberClasses members.field_starts.items members.field_classes.items
  pub sums : AreSums program members.field_sums.items
  pub few_methods : length (all_methods program) < 2 ^ 32
  pub few_fields : length (all_fields program) < 2 ^ 32
