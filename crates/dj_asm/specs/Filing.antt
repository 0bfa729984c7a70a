-- The parts of a class file that lines mean, by the indexes of entries; used by the code alone. No public clause cites these.
use Rattle.std.specs.Prelude.{◌≡◌, ℕ, ℤ, pos, Bool, true, false, unsigned_abs, List, [], ◌∷◌, ◌++◌, Option, Some, None, if◌then◌else◌}
use Rattle.std.specs.List.{flat_map, AllByRecursion, AllZip}
use Rattle.dj_cursor.specs.trusted.Spelling.{u2}
use Rattle.dj_class.specs.trusted.ClassFile.{AttributeInfo, MemberInfo, ClassFile}
use Rattle.dj_asm_source.specs.trusted.Lines.{Line, Class, Version, Super, Implements, Field, Abstract, Method, Stack, Locals}
use Rattle.dj_asm_source.specs.LabelReading.{sections_of}
use Rattle.dj_asm.specs.declared.heading.Heading.{Heading}
use Rattle.dj_asm_pool.specs.trusted.Entries as entries
use Rattle.dj_asm_pool.specs.trusted.Entries.{Entry, pool_of}
use Rattle.dj_asm_pool.specs.trusted.Needs.{value_entry, code_name, constant_value_name}
use Rattle.dj_asm.specs.CodeBodies.{CanBeCode, IsCodeBody}
use Rattle.dj_asm_pool.specs.Pooling.{found_index}

-- ---- what comes before the fields

-- where the source has no version it is 52 0
abbrev pub no_heading : Heading
no_heading = record { minor = 0; major = 52; flags = 0; this_class = 0; super_class = 0 }

abbrev pub heading_with : (Entry → ℕ) → Heading → Line → Heading
heading_with index h (Class flags name) =
    record { minor = h.minor; major = h.major; flags = flags; this_class = index (entries.Class name); super_class = h.super_class }
heading_with index h (Version major minor) =
    record { minor = unsigned_abs minor; major = unsigned_abs major; flags = h.flags; this_class = h.this_class; super_class = h.super_class }
heading_with index h (Super name) =
    record { minor = h.minor; major = h.major; flags = h.flags; this_class = h.this_class; super_class = index (entries.Class name) }
heading_with index h line = h

unfoldable pub heading_from : (Entry → ℕ) → Heading → List Line → Heading
heading_from index h [] = h
heading_from index h (line ∷ lines) = heading_from index (heading_with index h line) lines

abbrev pub interface_indexes : (Entry → ℕ) → Line → List ℕ
interface_indexes index (Implements name) = index (entries.Class name) ∷ []
interface_indexes index line = []

-- ---- fields and methods, with their attributes' bodies apart

-- JVMS 4.7.2: the body of a field's ConstantValue, or none
abbrev pub constant_bodies : (Entry → ℕ) → Line → List (List ℕ)
constant_bodies index (Field flags name desc (Some value)) = u2 (index (value_entry value)) ∷ []
constant_bodies index (Field flags name desc None) = [] ∷ []
constant_bodies index line = []

abbrev pub member_with : (Entry → ℕ) → ℕ → List ℕ → List ℕ → List AttributeInfo → MemberInfo
member_with index flags name desc attributes =
    record { flags = flags; name = index (entries.Utf8 name); desc = index (entries.Utf8 desc); attributes = attributes }

abbrev pub one_attribute : ℕ → List ℕ → List AttributeInfo
one_attribute name body = record { name = name; body = body } ∷ []

-- the attributes of the field or method that a line begins, where one has this name and body
abbrev pub attributes_at : ℕ → List ℕ → Line → List AttributeInfo
attributes_at attribute body (Field flags name desc (Some value)) = one_attribute attribute body
attributes_at attribute body (Method flags name desc) = one_attribute attribute body
attributes_at attribute body line = []

-- the field or method itself
abbrev pub members_at : (Entry → ℕ) → ℕ → List ℕ → Line → List MemberInfo
members_at index attribute body (Field flags name desc value) = member_with index flags name desc (attributes_at attribute body (Field flags name desc value)) ∷ []
members_at index attribute body (Abstract flags name desc) = member_with index flags name desc [] ∷ []
members_at index attribute body (Method flags name desc) = member_with index flags name desc (one_attribute attribute body) ∷ []
members_at index attribute body line = []

abbrev pub begins_member : Line → Bool
begins_member (Field flags name desc value) = true
begins_member (Abstract flags name desc) = true
begins_member (Method flags name desc) = true
begins_member line = false

-- the first body, or none
abbrev pub first_body : List (List ℕ) → List ℕ
first_body [] = []
first_body (body ∷ bodies) = body

abbrev pub other_bodies : List (List ℕ) → List (List ℕ)
other_bodies [] = []
other_bodies (body ∷ bodies) = bodies

-- each field or method has a body
abbrev pub bodies_after : Line → List (List ℕ) → List (List ℕ)
bodies_after line bodies = if begins_member line then other_bodies bodies else bodies

-- the fields or methods of lines, with their bodies in order
unfoldable pub members_in : (Entry → ℕ) → ℕ → List (List ℕ) → List Line → List MemberInfo
members_in index attribute bodies [] = []
members_in index attribute bodies (line ∷ lines) =
    members_at index attribute (first_body bodies) line ++ members_in index attribute (bodies_after line bodies) lines

-- ---- bodies of methods

abbrev pub stack_at : Line → Option ℤ
stack_at (Stack n) = Some n
stack_at line = None

abbrev pub locals_at : Line → Option ℤ
locals_at (Locals n) = Some n
locals_at line = None

abbrev pub or_later : Option ℤ → ℤ → ℤ
or_later (Some n) later = n
or_later None later = later

-- the number of the first line that gives one, or 0
unfoldable pub first_reported : (Line → Option ℤ) → List Line → ℤ
first_reported reported [] = pos 0
first_reported reported (line ∷ lines) = or_later (reported line) (first_reported reported lines)

-- a method with code begins
abbrev pub begins_code : List Line → Bool
begins_code (Method flags name desc ∷ lines) = true
begins_code lines = false

abbrev pub IsBodyWhere : Bool → List Entry → List Line → List ℕ → Type 0
IsBodyWhere true kept lines body = IsCodeBody (found_index kept) (first_reported stack_at lines) (first_reported locals_at lines) lines body
IsBodyWhere false kept lines body = body ≡ []

-- the body of the Code attribute of a method's lines, or none
abbrev pub IsBody : List Entry → List Line → List ℕ → Type 0
IsBody kept lines body = IsBodyWhere (begins_code lines) kept lines body

abbrev pub MayHaveWhere : Bool → List Entry → List Line → Type 0
MayHaveWhere true kept lines = CanBeCode kept lines
MayHaveWhere false kept lines = Unit {0}

abbrev pub MayHaveBody : List Entry → List Line → Type 0
MayHaveBody kept lines = MayHaveWhere (begins_code lines) kept lines

abbrev pub MayHaveBodies : List Entry → List Line → Type 0
MayHaveBodies kept lines = AllByRecursion (MayHaveBody kept) (sections_of lines)

-- one for each method of the lines
abbrev pub AreBodies : List Entry → List Line → List (List ℕ) → Type 0
AreBodies kept lines bodies = AllZip (IsBody kept) (sections_of lines) bodies

-- ---- the file

-- its heading and interfaces come from the lines before the methods
abbrev pub file_with : List Entry → List Line → List MemberInfo → List MemberInfo → ClassFile
file_with kept head fields methods = record {
  minor = (heading_from (found_index kept) no_heading head).minor;
  major = (heading_from (found_index kept) no_heading head).major;
  pool = pool_of kept;
  flags = (heading_from (found_index kept) no_heading head).flags;
  this_class = (heading_from (found_index kept) no_heading head).this_class;
  super_class = (heading_from (found_index kept) no_heading head).super_class;
  interfaces = flat_map (interface_indexes (found_index kept)) head;
  fields = fields;
  methods = methods;
  attributes = [];
}

-- the class file of the lines before the methods and those of the methods, with the bodies of the attributes of both
abbrev pub file_in : List Entry → (head methods : List Line) → (constants bodies : List (List ℕ)) → ClassFile
file_in kept head methods constants bodies =
    file_with kept head (members_in (found_index kept) (found_index kept constant_value_name) constants head)
    (members_in (found_index kept) (found_index kept code_name) bodies methods)
