-- The entries of the pool that the lines of a source need, in the order in which the pool has them. A line is named by its place among the source's lines.
use Rattle.std.specs.Prelude.{◌==◌, ℕ, ◌+◌, Bool, false, unsigned_abs, List, [], ◌∷◌, ◌++◌, length, map, Option, Some, None, codes, nat_le, if◌then◌else◌}
use Rattle.std.specs.List.{flat_map, enumerate_from}
use Rattle.dj_names.specs.trusted.Types.{Name}
use Rattle.dj_names.specs.trusted.ModifiedUtf8.{units_text}
use Rattle.dj_asm_source.specs.trusted.Lines as lines
use Rattle.dj_asm_source.specs.trusted.Lines.{Value, IntValue, LongValue, StringValue, Literal, IntLiteral, StringLiteral, ClassLiteral, FrameType, Object, Frame, Stack1, Append, Full, Operation, Load, LoadLong, Member, ClassOf, Multi, Catch, Line, Super, Implements, Abstract, Beside, Framed, Does}
use Rattle.dj_asm_source.specs.trusted.Sources.{Source, MethodSource, head_lines, method_lines}
use Rattle.dj_asm_pool.specs.trusted.Entries.{Entry, Utf8, Integer, Long, Class, Text, Field, Method, InterfaceMethod, Dynamic, with_parts, each_once, index_of}

-- ---- what a line needs

abbrev pub value_entry : Value → Entry
value_entry (IntValue n) = Integer n
value_entry (LongValue n) = Long n
value_entry (StringValue units) = Text (units_text units)

abbrev pub literal_entry : Literal → Entry
literal_entry (IntLiteral n) = Integer n
literal_entry (StringLiteral units) = Text (units_text units)
literal_entry (ClassLiteral name) = Class name

-- a field or a method, by the opcode, and by whether the line has `interface`
abbrev pub member_entry : ℕ → Name → Name → Name → Bool → Entry
member_entry op class name desc interface = if nat_le op 181 then Field class name desc else method_entry ((op == 185)) interface where
  method_entry : Bool → Bool → Entry
  method_entry false false = Method class name desc
  method_entry _ _ = InterfaceMethod class name desc

abbrev pub operation_entries : Operation → List Entry
operation_entries (Load op literal) = literal_entry literal ∷ []
operation_entries (LoadLong n) = Long n ∷ []
operation_entries (Member op class name desc interface) = member_entry op class name desc interface ∷ []
operation_entries (lines.Dynamic n name desc) = Dynamic (unsigned_abs n) name desc ∷ []
operation_entries (ClassOf op class) = Class class ∷ []
operation_entries (Multi desc dims) = Class desc ∷ []
operation_entries operation = []

abbrev pub type_entries : FrameType → List Entry
type_entries (Object name) = Class name ∷ []
type_entries type = []

abbrev pub types_entries : Frame → List Entry
types_entries (Stack1 type) = type_entries type
types_entries (Append types) = flat_map type_entries types
types_entries (Full locals stack) = flat_map type_entries locals ++ flat_map type_entries stack
types_entries frame = []

abbrev pub code_name : Entry
code_name = Utf8 (codes "Code")

abbrev pub constant_value_name : Entry
constant_value_name = Utf8 (codes "ConstantValue")

abbrev pub stack_map_name : Entry
stack_map_name = Utf8 (codes "StackMapTable")

abbrev pub value_entries : Option Value → List Entry
value_entries None = []
value_entries (Some value) = constant_value_name ∷ value_entry value ∷ []

-- the entries of a line before the methods, or of a method's first line
abbrev pub head_entries : Line → List Entry
head_entries (lines.Class flags name) = Class name ∷ []
head_entries (Super name) = Class name ∷ []
head_entries (Implements name) = Class name ∷ []
head_entries (lines.Field flags name desc value) = Utf8 name ∷ Utf8 desc ∷ value_entries value
head_entries (Abstract flags name desc) = Utf8 name ∷ Utf8 desc ∷ []
head_entries (lines.Method flags name desc) = Utf8 name ∷ Utf8 desc ∷ code_name ∷ []
head_entries line = []

abbrev pub instruction_entries : Line → List Entry
instruction_entries (Does operation) = operation_entries operation
instruction_entries line = []

abbrev pub catch_entries : Line → List Entry
catch_entries (Beside (Catch (Some class) from to handler)) = Class class ∷ []
catch_entries line = []

abbrev pub stack_map_entries : Line → List Entry
stack_map_entries (Framed frame) = stack_map_name ∷ []
stack_map_entries line = []

abbrev pub frame_entries : Line → List Entry
frame_entries (Framed frame) = types_entries frame
frame_entries line = []

-- ---- what a source needs, in the order of the pool: the place of a line, and an entry that it needs

pub record Need : Type 0 where
  pub place : ℕ
  pub entry : Entry

abbrev pub needs_at : ℕ → List Entry → List Need
needs_at place entries = map (λ entry. record { place = place; entry = entry }) (flat_map with_parts entries)

abbrev pub needs : (Line → List Entry) → List (ℕ × Line) → List Need
needs entries_of placed = flat_map (λ (line : ℕ × Line). needs_at line.0 (entries_of line.1)) placed

abbrev pub method_needs : List (ℕ × Line) → List Need
method_needs placed =
    needs head_entries placed ++ needs instruction_entries placed ++ needs catch_entries placed ++ needs stack_map_entries placed ++ needs frame_entries placed

unfoldable pub methods_needs : ℕ → List MethodSource → List Need
methods_needs place [] = []
methods_needs place (method ∷ methods) =
    method_needs (enumerate_from place (method_lines method)) ++ methods_needs (place + length (method_lines method)) methods

abbrev pub needs_of : Source → List Need
needs_of s = needs head_entries (enumerate_from 0 (head_lines s)) ++ methods_needs (length (head_lines s)) s.methods

abbrev pub needed_entry : Need → Entry
needed_entry need = need.entry

-- the pool has each entry once, where it is needed first
abbrev pub entries_of : Source → List Entry
entries_of s = each_once (map needed_entry (needs_of s))

abbrev pub index_in : Source → Entry → ℕ
index_in s = index_of (entries_of s)
