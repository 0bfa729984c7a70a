-- Definitions that only the readers' clauses cite: reading lines, each by the word that begins it.
use Rattle.std.specs.Prelude.{ℕ, zero, suc, ◌==◌, ◌||◌, Bool, true, false, ⊤, ℤ, List, [], ◌∷◌, map, Option, Some, None, Result, Ok, Err, if◌then◌else◌, nat_le, is_some, bytes_eq, codes}
use Rattle.std.specs.Option.{option_map}
use Rattle.std.specs.List.{enumerate_from}
use Rattle.std.specs.Str.Lines.{lines}
use Rattle.dj_cursor.specs.trusted.Options.{◌>>=◌}
use Rattle.dj_names.specs.trusted.Types.{Name}
use Rattle.dj_names.specs.Tests.{unqualified_name_test, method_name_test, class_name_test, field_descriptor_test, method_descriptor_test, array_descriptor_test}
use Rattle.dj_ops.specs.trusted.Forms.{OperandForm, Bare, SignedByte, SignedShort, ShortLiteral, LongLiteral, Slot, SlotAndByte, ShortOffset, LongOffset, MemberIndex, InterfaceIndex, DynamicIndex, ClassIndex, ArrayType, MultiIndex, TableSwitch, LookupSwitch, WidePrefix, Reserved, form_of}
use Rattle.dj_asm_source.specs.declared.error.AsmError.{AsmError}
use Rattle.dj_asm_source.specs.declared.error.AsmError.TheVariants as asm_errors
use Rattle.dj_asm_tokens.specs.trusted.Words.{Token, LineEnd, Placed, line_tokens, end_line}
use Rattle.dj_asm_source.specs.trusted.Lines.{Label, Value, IntValue, LongValue, StringValue, Literal, IntLiteral, StringLiteral, ClassLiteral, FrameType, Frame, Same, Stack1, Chop, Append, Full, Operation, Plain, Push, Local, Increment, Load, LoadLong, Jump, Table, Lookup, Member, Dynamic, ClassOf, Array, Multi, Labelled, Catch, Line, Class, Version, Super, Implements, Field, Abstract, Method, Stack, Locals, Beside, Framed, Does, End}
use Rattle.dj_asm_tokens.specs.trusted.Mnemonics.{mnemonics}
use Rattle.dj_asm_source.specs.Order.{State, AtClass, AtVersion, AtSuper, AtInterfaces, AtFields, AtMethods, AtStack, AtLocals, InBody, InFrame, after, is_final}
use Rattle.dj_asm_tokens.specs.WordReading.{tested, row_of, place_from, label_in, number_in, class_text_test}
use Rattle.dj_asm_source.specs.Reading.{Read, Got, Wrong, Large, Reader, read_map, mapped, ◌&◌, got, one, any_size, choose, word_of, string_of, end_of, exactly, opcode_of, base_of, flags_of, number_of, is_between, is_signed, name_of, caught_of, type_of}

-- ---- fields of a line

abbrev pub line_end : Reader ⊤
line_end = one end_of any_size

abbrev pub flags : Reader ℕ
flags = one flags_of any_size

abbrev pub number : (ℤ → Bool) → Reader ℤ
number fits = one number_of fits

abbrev pub name : (List ℕ → Bool) → Reader Name
name test = one (name_of test) any_size

abbrev pub label : Reader Label
label = one word_of any_size

abbrev pub string : Reader (List ℕ)
string = one string_of any_size

abbrev pub keyword : List ℕ → Reader ⊤
keyword word = one (exactly word) any_size

abbrev pub frame_type : Reader FrameType
frame_type = one type_of any_size

abbrev pub fits_16 : ℤ → Bool
fits_16 = is_between 0 65535

abbrev pub slot_fits : Bool → ℤ → Bool
slot_fits false = is_between 0 255
slot_fits true = fits_16

abbrev pub increment_fits : Bool → ℤ → Bool
increment_fits false = is_signed 7
increment_fits true = is_signed 15

-- ---- values and literals

pub data ValueStart : Type 0 where
  NoValue : ValueStart
  IntWord : ValueStart
  LongWord : ValueStart
  StringWord : ValueStart

abbrev pub value_start : Token → Option ValueStart
value_start LineEnd = Some NoValue
value_start token = word_of token >>= row_of ((codes "int", IntWord) ∷ (codes "long", LongWord) ∷ (codes "string", StringWord) ∷ [])

abbrev pub value_after : ValueStart → Reader (Option Value)
value_after NoValue = got None
value_after IntWord = mapped (λ (x : ℤ × ⊤). Some (IntValue x.0)) (number (is_signed 31) & line_end)
value_after LongWord = mapped (λ (x : ℤ × ⊤). Some (LongValue x.0)) (number (is_signed 63) & line_end)
value_after StringWord = mapped (λ (x : List ℕ × ⊤). Some (StringValue x.0)) (string & line_end)

-- the constant of a field, and the end of its line
abbrev pub value : Reader (Option Value)
value = choose value_start value_after

pub data LiteralStart : Type 0 where
  IntLiteralWord : LiteralStart
  StringLiteralWord : LiteralStart
  ClassLiteralWord : LiteralStart

abbrev pub literal_start : Token → Option LiteralStart
literal_start token = word_of token >>= row_of ((codes "int", IntLiteralWord) ∷ (codes "string", StringLiteralWord) ∷ (codes "class", ClassLiteralWord) ∷ [])

abbrev pub literal_after : LiteralStart → Reader Literal
literal_after IntLiteralWord = mapped (λ (x : ℤ × ⊤). IntLiteral x.0) (number (is_signed 31) & line_end)
literal_after StringLiteralWord = mapped (λ (x : List ℕ × ⊤). StringLiteral x.0) (string & line_end)
literal_after ClassLiteralWord = mapped (λ (x : Name × ⊤). ClassLiteral x.0) (name class_text_test & line_end)

-- what ldc pushes, and the end of its line
abbrev pub literal : Reader Literal
literal = choose literal_start literal_after

-- ---- operands

-- targets up to the default
pub data TargetStart : Type 0 where
  DefaultWord : TargetStart
  Target : Label → TargetStart

abbrev pub target_named : List ℕ → TargetStart
target_named word = if bytes_eq (codes "default") word then DefaultWord else Target word

abbrev pub target_start : Token → Option TargetStart
target_start token = option_map target_named (word_of token)

-- the default, and the end of its line
abbrev pub default_after : Reader Label
default_after = mapped (λ (x : Label × ⊤). x.0) (label & line_end)

-- with the targets that follow
abbrev pub targets_from : Option TargetStart → Placed → List Placed → Read (List Label × Label) → Read (List Label × Label)
targets_from None here rest more = Wrong (here ∷ rest)
targets_from (Some DefaultWord) here rest more = read_map (λ (last : Label). ([], last)) (default_after rest)
targets_from (Some (Target first)) here rest more = read_map (λ (x : List Label × Label). (first ∷ x.0, x.1)) more

unfoldable pub targets : List Placed → Read (List Label × Label)
targets [] = Wrong []
targets (here ∷ rest) = targets_from (target_start here.token) here rest (targets rest)

-- matches with their targets up to the default
pub data MatchStart : Type 0 where
  DefaultMatch : MatchStart
  MatchOf : ℤ → MatchStart

abbrev pub match_in : List ℕ → Option MatchStart
match_in word = if bytes_eq (codes "default") word then Some DefaultMatch else option_map (λ n. MatchOf n) (number_in word)

abbrev pub match_start : Token → Option MatchStart
match_start token = word_of token >>= match_in

abbrev pub LabelPairs : Type 0
LabelPairs = List (ℤ × Label) × Label

abbrev pub matches_from : Option MatchStart → Placed → List Placed → (ℤ → Read LabelPairs) → Read LabelPairs
matches_from None here rest more = Wrong (here ∷ rest)
matches_from (Some DefaultMatch) here rest more = read_map (λ (last : Label). ([], last)) (default_after rest)
matches_from (Some (MatchOf n)) here rest more = if is_signed 31 n then more n else Large (here ∷ rest)

-- with the target of a match
abbrev pub target_from : ℤ → Option Label → Placed → List Placed → Read LabelPairs → Read LabelPairs
target_from n None here rest more = Wrong (here ∷ rest)
target_from n (Some first) here rest more = read_map (λ (x : LabelPairs). ((n, first) ∷ x.0, x.1)) more

-- after a number comes its target
unfoldable pub pairs_after : Option ℤ → List Placed → Read LabelPairs
pairs_after pending [] = Wrong []
pairs_after None (here ∷ rest) = matches_from (match_start here.token) here rest (λ n. pairs_after (Some n) rest)
pairs_after (Some n) (here ∷ rest) = target_from n (word_of here.token) here rest (pairs_after None rest)

-- `interface` or not, and the end of the line
abbrev pub interface_start : Token → Option Bool
interface_start LineEnd = Some false
interface_start token = word_of token >>= row_of ((codes "interface", true) ∷ [])

abbrev pub interface_after : Bool → Reader Bool
interface_after false = got false
interface_after true = mapped (λ (x : ⊤). true) line_end

abbrev pub interface_end : Reader Bool
interface_end = choose interface_start interface_after

-- ---- instructions, after their words, to the end of the line

abbrev pub plain : ℕ → Reader Operation
plain op = mapped (λ (x : ⊤). Plain op) line_end

abbrev pub push : ℕ → (ℤ → Bool) → Reader Operation
push op fits = mapped (λ (x : ℤ × ⊤). Push op x.0) (number fits & line_end)

abbrev pub slot : Bool → ℕ → Reader Operation
slot wide op = mapped (λ (x : ℤ × ⊤). Local wide op x.0) (number (slot_fits wide) & line_end)

abbrev pub increment : Bool → Reader Operation
increment wide = mapped (λ (x : ℤ × (ℤ × ⊤)). Increment wide x.0 x.1.0) (number (slot_fits wide) & (number (increment_fits wide) & line_end))

abbrev pub load : ℕ → Reader Operation
load op = mapped (λ (x : Literal). Load op x) literal

abbrev pub load_long : Reader Operation
load_long = mapped (λ (x : ⊤ × (ℤ × ⊤)). LoadLong x.1.0) (keyword (codes "long") & (number (is_signed 63) & line_end))

abbrev pub jump : ℕ → Reader Operation
jump op = mapped (λ (x : Label × ⊤). Jump op x.0) (label & line_end)

abbrev pub table : Reader Operation
table = mapped (λ (x : ℤ × (List Label × Label)). Table x.0 x.1.0 x.1.1) (number (is_signed 31) & targets)

abbrev pub lookup : Reader Operation
lookup = mapped (λ (x : LabelPairs). Lookup x.0 x.1) (pairs_after None)

abbrev pub field_use : ℕ → Reader Operation
field_use op =
    mapped (λ (x : Name × (Name × (Name × ⊤))). Member op x.0 x.1.0 x.1.1.0 false)
    (name class_text_test & (name unqualified_name_test & (name field_descriptor_test & line_end)))

-- where the last word may be `interface`
abbrev pub open_method_use : ℕ → Reader Operation
open_method_use op =
    mapped (λ (x : Name × (Name × (Name × Bool))). Member op x.0 x.1.0 x.1.1.0 x.1.1.1)
    (name class_text_test & (name method_name_test & (name method_descriptor_test & interface_end)))

abbrev pub method_use : ℕ → Reader Operation
method_use op =
    mapped (λ (x : Name × (Name × (Name × ⊤))). Member op x.0 x.1.0 x.1.1.0 false)
    (name class_text_test & (name method_name_test & (name method_descriptor_test & line_end)))

abbrev pub member : ℕ → Reader Operation
member op = if nat_le op 181 then field_use op else (if (op == 183) || (op == 184) then open_method_use op else method_use op)

abbrev pub dynamic : Reader Operation
dynamic =
    mapped (λ (x : ℤ × (Name × (Name × ⊤))). Dynamic x.0 x.1.0 x.1.1.0)
    (number fits_16 & (name method_name_test & (name method_descriptor_test & line_end)))

abbrev pub class_of : ℕ → Reader Operation
class_of op = mapped (λ (x : Name × ⊤). ClassOf op x.0) (name class_text_test & line_end)

abbrev pub base : Reader ℕ
base = one base_of any_size

abbrev pub array : Reader Operation
array = mapped (λ (x : ℕ × ⊤). Array x.0) (base & line_end)

abbrev pub multi : Reader Operation
multi = mapped (λ (x : Name × (ℤ × ⊤)). Multi x.0 x.1.0) (name array_descriptor_test & (number (is_between 0 255) & line_end))

-- an opcode that may come after `wide`
abbrev pub may_be_wide : OperandForm → Bool
may_be_wide Slot = true
may_be_wide SlotAndByte = true
may_be_wide form = false

abbrev pub wide_start : Token → Option ℕ
wide_start token = opcode_of token >>= tested (λ op. may_be_wide (form_of op))

abbrev pub wide_after : ℕ → Reader Operation
wide_after op = if op == 132 then increment true else slot true op

abbrev pub wide : Reader Operation
wide = choose wide_start wide_after

abbrev pub wrong : {A : Type 0} → Reader A
wrong tokens = Wrong tokens

abbrev pub operation_by : ℕ → OperandForm → Reader Operation
operation_by op Bare = plain op
operation_by op SignedByte = push op (is_signed 7)
operation_by op SignedShort = push op (is_signed 15)
operation_by op ShortLiteral = load op
operation_by op LongLiteral = if op == 20 then load_long else load op
operation_by op Slot = slot false op
operation_by op SlotAndByte = increment false
operation_by op ShortOffset = jump op
operation_by op LongOffset = jump op
operation_by op MemberIndex = member op
operation_by op InterfaceIndex = member op
operation_by op DynamicIndex = dynamic
operation_by op ClassIndex = class_of op
operation_by op ArrayType = array
operation_by op MultiIndex = multi
operation_by op TableSwitch = table
operation_by op LookupSwitch = lookup
operation_by op WidePrefix = wide
operation_by op Reserved = wrong

abbrev pub operation : ℕ → Reader Operation
operation op = operation_by op (form_of op)

-- ---- frames, after their word

-- up to a token that ends the types
abbrev pub types_from : Bool → Option FrameType → Placed → List Placed → Read (List FrameType) → Read (List FrameType)
types_from true first here rest more = Got [] rest
types_from false None here rest more = Wrong (here ∷ rest)
types_from false (Some first) here rest more = read_map (λ types. first ∷ types) more

unfoldable pub types_until : (Token → Bool) → List Placed → Read (List FrameType)
types_until ends [] = Wrong []
types_until ends (here ∷ rest) = types_from (ends here.token) (type_of here.token) here rest (types_until ends rest)

abbrev pub is_end : Token → Bool
is_end token = is_some (end_of token)

abbrev pub is_slash : Token → Bool
is_slash token = is_some (exactly (codes "/") token)

-- this many at most, to the end of the line
unfoldable pub types_up_to : ℕ → List Placed → Read (List FrameType)
types_up_to zero tokens = read_map (λ (x : ⊤). []) (line_end tokens)
types_up_to (suc most) [] = Wrong []
types_up_to (suc most) (here ∷ rest) = types_from (is_end here.token) (type_of here.token) here rest (types_up_to most rest)

pub data FrameStart : Type 0 where
  SameWord : FrameStart
  StackWord : FrameStart
  ChopWord : FrameStart
  AppendWord : FrameStart
  FullWord : FrameStart

abbrev pub frame_start : Token → Option FrameStart
frame_start token =
    word_of token >>= row_of ((codes "same", SameWord) ∷ (codes "stack1", StackWord) ∷ (codes "chop", ChopWord) ∷ (codes "append", AppendWord) ∷ (codes "full", FullWord) ∷ [])

abbrev pub frame_after : FrameStart → Reader Frame
frame_after SameWord = mapped (λ (x : ⊤). Same) line_end
frame_after StackWord = mapped (λ (x : FrameType × ⊤). Stack1 x.0) (frame_type & line_end)
frame_after ChopWord = mapped (λ (x : ℤ × ⊤). Chop x.0) (number (is_between 1 3) & line_end)
frame_after AppendWord = mapped (λ (x : FrameType × List FrameType). Append (x.0 ∷ x.1)) (frame_type & types_up_to 2)
frame_after FullWord = mapped (λ (x : List FrameType × List FrameType). Full x.0 x.1) (types_until is_slash & types_until is_end)

abbrev pub frame : Reader Frame
frame = choose frame_start frame_after

-- ---- lines

-- what the first word of a line begins
pub data LineStart : Type 0 where
  ClassLine : LineStart
  VersionLine : LineStart
  SuperLine : LineStart
  ImplementsLine : LineStart
  FieldLine : LineStart
  AbstractLine : LineStart
  MethodLine : LineStart
  StackLine : LineStart
  LocalsLine : LineStart
  CatchLine : LineStart
  FrameLine : LineStart
  EndLine : LineStart
  -- this label is defined
  LabelLine : Label → LineStart
  -- an instruction, by its opcode
  OperationLine : ℕ → LineStart

abbrev pub directives : List (List ℕ × LineStart)
directives =
    (codes ".class", ClassLine) ∷ (codes ".version", VersionLine) ∷ (codes ".super", SuperLine) ∷ (codes ".implements", ImplementsLine) ∷ (codes ".field", FieldLine)
    ∷ (codes ".abstract", AbstractLine) ∷ (codes ".method", MethodLine) ∷ (codes ".stack", StackLine) ∷ (codes ".locals", LocalsLine) ∷ (codes ".catch", CatchLine)
    ∷ (codes ".frame", FrameLine) ∷ (codes ".end", EndLine) ∷ []

abbrev pub or_else : {A : Type 0} → Option A → Option A → Option A
or_else (Some a) other = Some a
or_else None other = other

-- a directive, a label or an instruction
abbrev pub start_in : List ℕ → Option LineStart
start_in word =
    or_else (row_of directives word)
    (or_else (option_map (λ label. LabelLine label) (label_in word))
    (option_map (λ op. OperationLine op) (place_from 0 mnemonics word)))

-- the lines that may come
abbrev pub may_begin : State → LineStart → Bool
may_begin AtClass ClassLine = true
may_begin AtVersion VersionLine = true
may_begin AtVersion SuperLine = true
may_begin AtSuper SuperLine = true
may_begin AtInterfaces ImplementsLine = true
may_begin AtInterfaces FieldLine = true
may_begin AtInterfaces AbstractLine = true
may_begin AtInterfaces MethodLine = true
may_begin AtFields FieldLine = true
may_begin AtFields AbstractLine = true
may_begin AtFields MethodLine = true
may_begin AtMethods AbstractLine = true
may_begin AtMethods MethodLine = true
may_begin AtStack StackLine = true
may_begin AtLocals LocalsLine = true
may_begin InBody CatchLine = true
may_begin InBody FrameLine = true
may_begin InBody EndLine = true
may_begin InBody (LabelLine defined) = true
may_begin InBody (OperationLine op) = true
may_begin InFrame CatchLine = true
may_begin InFrame (LabelLine defined) = true
may_begin InFrame (OperationLine op) = true
may_begin state start = false

abbrev pub line_start : State → Token → Option LineStart
line_start state token = word_of token >>= start_in >>= tested (may_begin state)

abbrev pub method_head : (ℕ → Name → Name → Line) → Reader Line
method_head line =
    mapped (λ (x : ℕ × (Name × (Name × ⊤))). line x.0 x.1.0 x.1.1.0)
    (flags & (name method_name_test & (name method_descriptor_test & line_end)))

abbrev pub class_name : Reader Name
class_name = name class_name_test

abbrev pub caught : Reader (Option Name)
caught = one caught_of any_size

-- what comes after the first word of a line, to its end
abbrev pub line_after : LineStart → Reader Line
line_after ClassLine = mapped (λ (x : ℕ × (Name × ⊤)). Class x.0 x.1.0) (flags & (class_name & line_end))
line_after VersionLine = mapped (λ (x : ℤ × (ℤ × ⊤)). Version x.0 x.1.0) (number fits_16 & (number fits_16 & line_end))
line_after SuperLine = mapped (λ (x : Name × ⊤). Super x.0) (class_name & line_end)
line_after ImplementsLine = mapped (λ (x : Name × ⊤). Implements x.0) (class_name & line_end)
line_after FieldLine =
    mapped (λ (x : ℕ × (Name × (Name × Option Value))). Field x.0 x.1.0 x.1.1.0 x.1.1.1)
    (flags & (name unqualified_name_test & (name field_descriptor_test & value)))
line_after AbstractLine = method_head Abstract
line_after MethodLine = method_head Method
line_after StackLine = mapped (λ (x : ℤ × ⊤). Stack x.0) (number fits_16 & line_end)
line_after LocalsLine = mapped (λ (x : ℤ × ⊤). Locals x.0) (number fits_16 & line_end)
line_after CatchLine =
    mapped (λ (x : Option Name × (Label × (Label × (Label × ⊤)))). Beside (Catch x.0 x.1.0 x.1.1.0 x.1.1.1.0))
    (caught & (label & (label & (label & line_end))))
line_after FrameLine = mapped (λ (x : Frame). Framed x) frame
line_after EndLine = mapped (λ (x : ⊤). End) line_end
line_after (LabelLine defined) = mapped (λ (x : ⊤). Beside (Labelled defined)) line_end
line_after (OperationLine op) = mapped (λ (x : Operation). Does x) (operation op)

-- a line where the lines before it have come to this state
abbrev pub line : State → Reader Line
line state = choose (line_start state) line_after

-- ---- whole texts

abbrev pub AreRead : Type 0
AreRead = Result (List Line) AsmError

-- a line is missing after the last
abbrev pub missing : ℕ → AsmError
missing end = asm_errors.Syntax end 1

abbrev pub wrong_at : ℕ → List Placed → AsmError
wrong_at end [] = missing end
wrong_at end (here ∷ rest) = asm_errors.Syntax here.line here.column

abbrev pub large_at : ℕ → List Placed → AsmError
large_at end [] = missing end
large_at end (here ∷ rest) = asm_errors.Large here.line

abbrev pub with_line : Line → AreRead → AreRead
with_line first (Ok others) = Ok (first ∷ others)
with_line first (Err e) = Err e

-- a line, and those after it by the state that it leaves
abbrev pub lines_from : ℕ → State → Read Line → (Option State → AreRead) → AreRead
lines_from end state (Got first rest) more = with_line first (more (after state first))
lines_from end state (Wrong rest) more = Err (wrong_at end rest)
lines_from end state (Large rest) more = Err (large_at end rest)

-- the lines from a state on, and the line after the last
unfoldable pub lines_read : ℕ → Option State → List (List Placed) → AreRead
lines_read end None lines = Err (missing end)
lines_read end (Some state) [] = if is_final (Some state) then Ok [] else Err (missing end)
lines_read end (Some state) ([] ∷ lines) = lines_read end (Some state) lines
lines_read end (Some state) ((here ∷ rest) ∷ lines) = lines_from end state (line state (here ∷ rest)) (λ next. lines_read end next lines)

abbrev pub text_read : List ℕ → AreRead
text_read text = lines_read (end_line text) (Some AtClass) (map line_tokens (enumerate_from 1 (lines text)))
