-- The judgement of lines, line by line: what is too large for a class file for another reason than its entries. Used by the code alone; no public clause
-- cites it. proofs/Judged says that what it finds is too large, and that it finds all that is.
use Rattle.std.specs.Prelude.{ℕ, ◌+◌, ◌-◌, ◌*◌, ◌<◌, ◌≤◌, ◌≡◌, ◌==◌, ◌&&◌, ◌||◌, Bool, true, false, not, ℤ, pos, unsigned_abs, ◌-ℤ◌, int_lt, nat_lt, nat_le, List, [], ◌∷◌, ◌++◌, length, map, take, drop, Option, Some, None, slice_get, slice_index, if◌then◌else◌}
use Rattle.std.specs.List.{count_by, flat_map, list_all}
use Rattle.dj_names.specs.trusted.Types.{Name}
use Rattle.dj_names.specs.trusted.Descriptors.{slots_of}
use Rattle.dj_names.specs.declared.descriptor.Desc.{Desc}
use Rattle.dj_names.specs.trusted.DescReading.{desc_read}
use Rattle.dj_ops.specs.trusted.Instructions.{padding_count}
use Rattle.dj_layout.specs.trusted.Layouts.{most_bytes}
use Rattle.dj_asm_source.specs.trusted.Lines.{Label, Frame, Full, Operation, Plain, Push, Local, Increment, Load, LoadLong, Jump, Table, Lookup, Member, Dynamic, ClassOf, Array, Multi, Line, Framed, Does, End}
use Rattle.dj_asm_source.specs.trusted.Labels.{instruction_count, label_number}
use Rattle.dj_asm_source.specs.LabelReading.{sections_of}
use Rattle.dj_asm_pool.specs.trusted.Entries.{Entry}
use Rattle.dj_asm_pool.specs.trusted.Needs.{literal_entry}
use Rattle.dj_asm.specs.trusted.Codes.{is_interface_call, operation_in}
use Rattle.dj_asm.specs.trusted.Large.{most_lines, is_interface, is_field, is_method, is_catch}
use Rattle.dj_asm_pool.specs.Pooling.{found_index}
use Rattle.dj_asm.specs.declared.counted.Kind.{Kind}
use Rattle.dj_asm.specs.declared.counted.Kind.TheVariants as kinds

-- ---- the first place at which a test is met

abbrev pub NoneBelow : (ℕ → Bool) → ℕ → Type 0
NoneBelow test place = (earlier : ℕ) → earlier < place → test earlier ≡ false

-- of this many places
abbrev pub IsFirstOf : (ℕ → Bool) → ℕ → Option ℕ → Type 0
IsFirstOf test count (Some place) = (place < count) × (test place ≡ true) × NoneBelow test place
IsFirstOf test count None = NoneBelow test count

abbrev pub earliest : Option ℕ → Option ℕ → Option ℕ
earliest (Some one) (Some other) = Some (if nat_lt other one then other else one)
earliest (Some one) None = Some one
earliest None other = other

-- one of two tests
abbrev pub either_test : (ℕ → Bool) → (ℕ → Bool) → ℕ → Bool
either_test one other place = one place || other place

-- ---- lines that are counted

abbrev pub is_kind : Kind → Line → Bool
is_kind kinds.Interface = is_interface
is_kind kinds.Field = is_field
is_kind kinds.Method = is_method
is_kind kinds.Catch = is_catch

-- a line after this many of its kind
abbrev pub is_one_past : Kind → ℕ → Option Line → Bool
is_one_past kind count None = false
is_one_past kind count (Some line) = is_kind kind line && nat_le most_lines count

abbrev pub is_past : Kind → List Line → ℕ → Bool
is_past kind lines place = is_one_past kind (count_by (is_kind kind) (take place lines)) (slice_get lines place)

abbrev pub past_table : List Line → ℕ → Bool
past_table lines = either_test (is_past kinds.Interface lines) (either_test (is_past kinds.Field lines) (is_past kinds.Method lines))

-- ---- lines that are judged alone

abbrev pub is_long_frame : Frame → Bool
is_long_frame (Full locals stack) = nat_lt most_lines (length locals) || nat_lt most_lines (length stack)
is_long_frame frame = false

-- some, and none past the greatest number
abbrev pub is_table : ℤ → ℕ → Bool
is_table low count = nat_lt 0 count && nat_le count (unsigned_abs (pos 2147483648 -ℤ low))

unfoldable pub rise_from : ℤ → List (ℤ × Label) → Bool
rise_from z [] = true
rise_from z (pair ∷ pairs) = int_lt z pair.0 && rise_from pair.0 pairs

abbrev pub rise : List (ℤ × Label) → Bool
rise [] = true
rise (pair ∷ pairs) = rise_from pair.0 pairs

abbrev pub is_lookup : List (ℤ × Label) → Bool
is_lookup pairs = nat_lt (length pairs) 2147483648 && rise pairs

abbrev pub are_many : Option Desc → Bool
are_many None = false
are_many (Some desc) = nat_lt 254 (slots_of desc)

-- a count of one byte, and the object, have no room for the slots
abbrev pub has_many_slots : Name → Bool
has_many_slots desc = are_many (desc_read desc)

abbrev pub is_improper : List Entry → Operation → Bool
is_improper kept (Load op literal) = op == 18 && nat_lt 255 (found_index kept (literal_entry literal))
is_improper kept (Table low labels default) = not (is_table low (length labels))
is_improper kept (Lookup pairs default) = not (is_lookup pairs)
is_improper kept (Member op class name desc interface) = is_interface_call op && has_many_slots desc
is_improper kept (Multi desc dims) = unsigned_abs dims == 0
is_improper kept operation = false

abbrev pub is_alone : List Entry → Option Line → Bool
is_alone kept (Some (Framed frame)) = is_long_frame frame
is_alone kept (Some (Does operation)) = is_improper kept operation
is_alone kept line = false

abbrev pub alone : List Entry → List Line → ℕ → Bool
alone kept lines place = is_alone kept (slice_get lines place)

-- ---- sizes

abbrev pub wide_size : Bool → ℕ → ℕ → ℕ
wide_size wide long short = if wide then long else short

-- a switch with this many bytes before the entries, and of this many entries
abbrev pub switch_size : ℕ → ℕ → ℕ → ℕ → ℕ
switch_size at head count each = 1 + padding_count at + head + count * each

-- the bytes of an instruction at an address
abbrev pub size_at : ℕ → Operation → ℕ
size_at at (Plain op) = 1
size_at at (Push op n) = wide_size (op == 16) 2 3
size_at at (Local wide op slot) = wide_size wide 4 2
size_at at (Increment wide slot by) = wide_size wide 6 3
size_at at (Load op literal) = wide_size (op == 18) 2 3
size_at at (LoadLong n) = 3
size_at at (Jump op label) = wide_size (nat_le 200 op) 5 3
size_at at (Table low labels default) = switch_size at 12 (length labels) 4
size_at at (Lookup pairs default) = switch_size at 8 (length pairs) 8
size_at at (Member op class name desc interface) = wide_size (is_interface_call op) 5 3
size_at at (Dynamic n name desc) = 5
size_at at (ClassOf op class) = 3
size_at at (Array base) = 2
size_at at (Multi desc dims) = 4

-- the addresses of instructions, of which the first is at this address, and the address after the last
abbrev pub starts_at : ℕ → List Operation → List ℕ
starts_at at [] = []
starts_at at (operation ∷ operations) = at ∷ starts_at (at + size_at at operation) operations

abbrev pub end_at : ℕ → List Operation → ℕ
end_at at [] = at
end_at at (operation ∷ operations) = end_at (at + size_at at operation) operations

abbrev pub operations : List Line → List Operation
operations lines = flat_map operation_in lines

-- the addresses of the instructions of lines, and the address after the last
pub record AreStarts (lines : List Line) (starts : List ℕ) (stop : ℕ) : Type 0 where
  pub starts_are : starts ≡ starts_at 0 (operations lines)
  pub stop_is : stop ≡ end_at 0 (operations lines)

-- after this many lines the next instruction starts at this address
pub record AreSoFar (lines : List Line) (place : ℕ) (starts : List ℕ) (at : ℕ) : Type 0 where
  pub starts_are : starts ++ starts_at at (operations (drop place lines)) ≡ starts_at 0 (operations lines)
  pub stop_is : end_at at (operations (drop place lines)) ≡ end_at 0 (operations lines)

-- ---- jumps

-- how far back the offset of a jump goes
abbrev pub half_of : ℕ → ℕ
half_of op = if nat_le 200 op then 2147483648 else 32768

abbrev pub is_near : ℕ → ℕ → ℕ → Bool
is_near half at target = nat_lt (target - at) half && nat_le (at - target) half

-- by the numbers of labels and the addresses of instructions
abbrev pub reaches : (Label → ℕ) → List ℕ → ℕ → ℕ → Label → Bool
reaches number starts half at label = is_near half at (slice_index starts (number label))

abbrev pub reaches_all : (Label → ℕ) → List ℕ → ℕ → Label → List Label → Bool
reaches_all number starts at default labels = reaches number starts 2147483648 at default && list_all (reaches number starts 2147483648 at) labels

abbrev pub target : ℤ × Label → Label
target pair = pair.1

abbrev pub is_reached : (Label → ℕ) → List ℕ → ℕ → Operation → Bool
is_reached number starts at (Jump op label) = reaches number starts (half_of op) at label
is_reached number starts at (Table low labels default) = reaches_all number starts at default labels
is_reached number starts at (Lookup pairs default) = reaches_all number starts at default (map target pairs)
is_reached number starts at operation = true

-- a jump that is far, or the end of long code, after this many instructions
abbrev pub is_wide_line : (Label → ℕ) → List ℕ → ℕ → ℕ → Option Line → Bool
is_wide_line number starts stop count (Some (Does operation)) = not (is_reached number starts (slice_index starts count) operation)
is_wide_line number starts stop count (Some End) = nat_lt most_bytes stop
is_wide_line number starts stop count line = false

abbrev pub is_wide : (Label → ℕ) → List ℕ → ℕ → List Line → ℕ → Bool
is_wide number starts stop body place = is_wide_line number starts stop (instruction_count (take place body)) (slice_get body place)

abbrev pub wide_code : List Line → ℕ → Bool
wide_code body = is_wide (label_number body) (starts_at 0 (operations body)) (end_at 0 (operations body)) body

-- ---- sections

abbrev pub is_large_in : List Line → ℕ → Bool
is_large_in body = either_test (is_past kinds.Catch body) (wide_code body)

abbrev pub in_first : (ℕ → Bool) → ℕ → (ℕ → Bool) → ℕ → Bool
in_first first size others place = if nat_lt place size then first place else others (place - size)

unfoldable pub in_sections : List (List Line) → ℕ → Bool
in_sections [] place = false
in_sections (section ∷ sections) place = in_first (is_large_in section) (length section) (in_sections sections) place

-- none of the first `before` lines is large, and whether a later line is large is decided by the sections of the later lines
pub record AreLeft (lines : List Line) (before : ℕ) : Type 0 where
  pub left : (place : ℕ) → in_sections (sections_of lines) (before + place) ≡ in_sections (sections_of (drop before lines)) place
  pub none : NoneBelow (in_sections (sections_of lines)) before
  pub within : before ≤ length lines

-- ---- all lines

abbrev pub is_judged : List Entry → List Line → ℕ → Bool
is_judged kept lines = either_test (past_table lines) (either_test (alone kept lines) (in_sections (sections_of lines)))
