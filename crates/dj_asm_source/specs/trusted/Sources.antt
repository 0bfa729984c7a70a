-- What a text is: lines in order, each of them written in words. A source is what a text means.
use Rattle.std.specs.Prelude.{ℕ, ℤ, List, [], ◌∷◌, ◌++◌, map, Option, Some, None}
use Rattle.std.specs.List.{flat_map, AllByRecursion, AllZip}
use Rattle.dj_names.specs.trusted.Types.{Name}
use Rattle.dj_asm_tokens.specs.trusted.Words.{Token, Placed, tokens_of}
use Rattle.dj_asm_source.specs.trusted.Items.{Item, Ended, Says}
use Rattle.dj_asm_source.specs.trusted.Lines.{Value, Frame, Operation, Aside, Line, Class, Version, Super, Implements, Field, Abstract, Method, Stack, Locals, Beside, Framed, Does, End, items_of, IsLine, IsSized}

-- ---- sources

-- a field, with its constant
pub record FieldSource : Type 0 where
  pub flags : ℕ
  pub name : Name
  pub desc : Name
  pub value : Option Value

-- a part of a body; a frame is that of the instruction after it
pub data BodyPart : Type 0 where
  Mark : Aside → BodyPart
  Step : Operation → BodyPart
  FrameStep : Frame → List Aside → Operation → BodyPart

pub data MethodSource : Type 0 where
  -- without code
  Bodiless : ℕ → Name → Name → MethodSource
  -- with stack, locals and body
  Coded : ℕ → Name → Name → ℤ → ℤ → List BodyPart → MethodSource

pub record Source : Type 0 where
  pub flags : ℕ
  pub name : Name
  -- major and minor version, where the text has them
  pub version : Option (ℤ × ℤ)
  pub super : Name
  pub interfaces : List Name
  pub fields : List FieldSource
  pub methods : List MethodSource

-- ---- the lines of a source, in their order

abbrev pub version_lines : Option (ℤ × ℤ) → List Line
version_lines None = []
version_lines (Some (major, minor)) = Version major minor ∷ []

abbrev pub field_line : FieldSource → Line
field_line field = Field field.flags field.name field.desc field.value

abbrev pub part_lines : BodyPart → List Line
part_lines (Mark aside) = Beside aside ∷ []
part_lines (Step operation) = Does operation ∷ []
part_lines (FrameStep frame asides operation) = Framed frame ∷ map Beside asides ++ Does operation ∷ []

abbrev pub body_lines : List BodyPart → List Line
body_lines = flat_map part_lines

abbrev pub method_lines : MethodSource → List Line
method_lines (Bodiless flags name desc) = Abstract flags name desc ∷ []
method_lines (Coded flags name desc stack locals body) =
    Method flags name desc ∷ Stack stack ∷ Locals locals ∷ body_lines body ++ End ∷ []

-- the lines before the methods
abbrev pub head_lines : Source → List Line
head_lines s = Class s.flags s.name ∷ version_lines s.version ++ Super s.super ∷ map Implements s.interfaces ++ map field_line s.fields

abbrev pub lines_of : Source → List Line
lines_of s = head_lines s ++ flat_map method_lines s.methods

-- ---- texts

-- the items of a line, with its end
abbrev pub line_items : Line → List Item
line_items line = items_of line ++ Ended ∷ []

abbrev pub sentence : Source → List Item
sentence s = flat_map line_items (lines_of s)

-- each line is allowed; numbers may be of any size
abbrev pub IsSource : Source → Type 0
IsSource s = AllByRecursion IsLine (lines_of s)

-- the same, and numbers fit their fields
abbrev pub IsSizedSource : Source → Type 0
IsSizedSource s = IsSource s × AllByRecursion IsSized (lines_of s)

-- these are the tokens of the source's lines
abbrev pub Reads : Source → List Token → Type 0
Reads s tokens = AllZip Says (sentence s) tokens

abbrev pub token_of : Placed → Token
token_of placed = placed.token

-- the text's words mean this source
pub record IsTextOf (text : List ℕ) (s : Source) : Type 0 where
  pub allowed : IsSizedSource s
  pub read : Reads s (map token_of (tokens_of text))
