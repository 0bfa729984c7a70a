-- Labels of a body, and the first line that uses a label wrongly. A label means the number of instructions before it.
use Rattle.std.specs.Prelude.{◌≡◌, ◌≢◌, ℕ, ◌+◌, ◌<◌, ◌⊎◌, Bool, true, false, not, List, [], ◌∷◌, ◌++◌, length, take, map, Contains, Some, slice_get}
use Rattle.std.specs.List.{flat_map, filter, prefix_len, AllByRecursion, count_by}
use Rattle.dj_names.specs.trusted.Types.{same_name}
use Rattle.dj_asm_source.specs.declared.error.AsmError.{AsmError}
use Rattle.dj_asm_source.specs.declared.error.AsmError.TheVariants as asm_errors
use Rattle.dj_asm_tokens.specs.trusted.Words.{Token, LineEnd, Placed, tokens_of}
use Rattle.dj_asm_source.specs.trusted.Lines.{Label, FrameType, Simple, Object, New, Frame, Same, Stack1, Chop, Append, Full, Operation, Jump, Table, Lookup, Labelled, Catch, Line, Beside, Framed, Does}
use Rattle.dj_asm_source.specs.trusted.Sources.{Source, MethodSource, head_lines, method_lines, IsTextOf}

-- ---- what a label stands for

abbrev pub is_instruction : Line → Bool
is_instruction (Does operation) = true
is_instruction line = false

abbrev pub instruction_count : List Line → ℕ
instruction_count lines = count_by is_instruction lines

-- the first line that defines the label comes right before the instruction of this number, or at the end of the code
pub record IsLabelAt (body : List Line) (label : Label) (number : ℕ) : Type 0 where
  pub prefix : List Line
  pub rest : List Line
  pub parts : body ≡ prefix ++ Beside (Labelled label) ∷ rest
  pub first : AllByRecursion (λ line. line ≢ Beside (Labelled label)) prefix
  pub number_is : number ≡ instruction_count prefix

abbrev pub marks : Label → Line → Bool
marks label (Beside (Labelled other)) = same_name other label
marks label line = false

-- the number of instructions before the first line that defines the label
unfoldable pub label_number : List Line → Label → ℕ
label_number body label = instruction_count (take (prefix_len (λ line. not (marks label line)) body) body)

-- ---- what a line requires of labels

pub data Use : Type 0 where
  -- an instruction follows the label
  AtInstruction : Label → Use
  -- the first label comes before the second, which may be at the end of the code
  Range : Label → Label → Use

abbrev pub type_uses : FrameType → List Use
type_uses (Simple word) = []
type_uses (Object name) = []
type_uses (New label) = AtInstruction label ∷ []

abbrev pub frame_uses : Frame → List Use
frame_uses Same = []
frame_uses (Stack1 type) = type_uses type
frame_uses (Chop n) = []
frame_uses (Append types) = flat_map type_uses types
frame_uses (Full locals stack) = flat_map type_uses locals ++ flat_map type_uses stack

abbrev pub operation_uses : Operation → List Use
operation_uses (Jump op label) = AtInstruction label ∷ []
operation_uses (Table low labels default) = AtInstruction default ∷ map AtInstruction labels
operation_uses (Lookup pairs default) = AtInstruction default ∷ map (λ pair. AtInstruction pair.1) pairs
operation_uses operation = []

abbrev pub uses_of : Line → List Use
uses_of (Beside (Catch class from to handler)) = Range from to ∷ AtInstruction handler ∷ []
uses_of (Framed frame) = frame_uses frame
uses_of (Does operation) = operation_uses operation
uses_of line = []

pub record IsInstructionLabel (body : List Line) (label : Label) : Type 0 where
  pub number : ℕ
  pub defined : IsLabelAt body label number
  pub instruction : number < instruction_count body

pub record IsRange (body : List Line) (from to : Label) : Type 0 where
  pub first : ℕ
  pub end : ℕ
  pub from_is : IsLabelAt body from first
  pub to_is : IsLabelAt body to end
  pub some : first < end

abbrev pub IsMet : List Line → Use → Type 0
IsMet body (AtInstruction label) = IsInstructionLabel body label
IsMet body (Range from to) = IsRange body from to

-- ---- faults

-- a line before this one defines the label too
abbrev pub IsDoubled : List Line → Line → Type 0
IsDoubled prefix (Beside (Labelled label)) = Contains prefix (Beside (Labelled label))
IsDoubled prefix line = ⊥

-- the lines of a method, which come after n lines of the source
pub record AreMethodLines (s : Source) (before : ℕ) (lines : List Line) : Type 0 where
  pub prefix : List MethodSource
  pub method : MethodSource
  pub rest : List MethodSource
  pub methods : s.methods ≡ prefix ++ method ∷ rest
  pub before_is : before ≡ length (head_lines s) + length (flat_map method_lines prefix)
  pub lines_are : lines ≡ method_lines method

-- the line at this place of the source defines a label again, or uses one wrongly
pub record IsMislabelled (s : Source) (place : ℕ) : Type 0 where
  pub before : ℕ
  pub body : List Line
  pub in_method : AreMethodLines s before body
  pub prefix : List Line
  pub line : Line
  pub rest : List Line
  pub parts : body ≡ prefix ++ line ∷ rest
  pub place_is : place ≡ before + length prefix
  pub wrong : IsDoubled prefix line ⊎ (AllByRecursion (IsMet body) (uses_of line) → ⊥)

-- whether the token ends a line
abbrev pub ends_line : Placed → Bool
ends_line placed = ends placed.token where
  ends : Token → Bool
  ends LineEnd = true
  ends _ = false

abbrev pub line_numbers : List ℕ → List ℕ
line_numbers text = map (λ (placed : Placed). placed.line) (filter ends_line (tokens_of text))

-- the text's words mean a source, and this is its first line that uses a label wrongly
pub record LabelFault (text : List ℕ) (e : AsmError) : Type 0 where
  pub source : Source
  pub is_text : IsTextOf text source
  pub place : ℕ
  pub wrong : IsMislabelled source place
  pub first : (earlier : ℕ) → earlier < place → IsMislabelled source earlier → ⊥
  pub line : ℕ
  pub number : slice_get (line_numbers text) place ≡ Some line
  pub reported : e ≡ asm_errors.Label line
