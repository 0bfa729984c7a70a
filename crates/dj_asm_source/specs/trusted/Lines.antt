-- The lines of a text: what each means, which items it consists of, and which lines are allowed. A label is the units of its word.
use Rattle.std.specs.Prelude.{◌≡◌, ◌≢◌, ℕ, ◌^◌, ◌<◌, ◌≤◌, ◌⊎◌, ⊤, Bool, true, false, ℤ, pos, FitsSigned, List, [], ◌∷◌, ◌++◌, length, map, Option, Some, None, IfSome, codes}
use Rattle.std.specs.List.{flat_map, AllByRecursion}
use Rattle.std.specs.Int.{w8, w16, w32, w64}
use Rattle.dj_names.specs.trusted.Types.{Name}
use Rattle.dj_names.specs.trusted.Names.{IsClassName, IsUnqualifiedName, IsMethodName}
use Rattle.dj_names.specs.trusted.Descriptors.{IsFieldDescriptor, IsMethodDescriptor, IsArrayDescriptor}
use Rattle.dj_ops.specs.trusted.Forms.{Bare, SignedByte, SignedShort, Slot, ShortOffset, LongOffset, ClassIndex, form_of}
use Rattle.dj_ops.specs.trusted.Instructions.{IsPushed, IsArrayType}
use Rattle.dj_pool.specs.trusted.Pool.{IsClassText}
use Rattle.dj_asm_source.specs.trusted.Items.{Item, Exactly, Flags, Number, Called, Text}
use Rattle.dj_asm_tokens.specs.trusted.Mnemonics.{mnemonic, base_word}

abbrev pub Label : Type 0
Label = List ℕ

-- ---- what lines mean

-- the constant of a field
pub data Value : Type 0 where
  IntValue : ℤ → Value
  LongValue : ℤ → Value
  StringValue : List ℕ → Value

-- what ldc pushes
pub data Literal : Type 0 where
  IntLiteral : ℤ → Literal
  StringLiteral : List ℕ → Literal
  ClassLiteral : Name → Literal

-- a type of a stack map frame (JVMS 4.7.4)
pub data FrameType : Type 0 where
  -- top, int, float, double, long, null or this
  Simple : List ℕ → FrameType
  Object : Name → FrameType
  -- what the `new` at the label made
  New : Label → FrameType

pub data Frame : Type 0 where
  Same : Frame
  Stack1 : FrameType → Frame
  Chop : ℤ → Frame
  Append : List FrameType → Frame
  Full : List FrameType → List FrameType → Frame

-- an instruction; where several opcodes have one form, the opcode says which
pub data Operation : Type 0 where
  Plain : ℕ → Operation
  Push : ℕ → ℤ → Operation
  -- whether `wide` comes before it
  Local : Bool → ℕ → ℤ → Operation
  Increment : Bool → ℤ → ℤ → Operation
  Load : ℕ → Literal → Operation
  LoadLong : ℤ → Operation
  Jump : ℕ → Label → Operation
  -- the lowest match, the targets and the default
  Table : ℤ → List Label → Label → Operation
  -- numbers with their targets, and the default
  Lookup : List (ℤ × Label) → Label → Operation
  -- class, name and descriptor, and whether `interface` comes after them
  Member : ℕ → Name → Name → Name → Bool → Operation
  Dynamic : ℤ → Name → Name → Operation
  ClassOf : ℕ → Name → Operation
  Array : ℕ → Operation
  Multi : Name → ℤ → Operation

-- what may come between a frame and its instruction
pub data Aside : Type 0 where
  Labelled : Label → Aside
  -- the class, or none for any class; from, to and the handler
  Catch : Option Name → Label → Label → Label → Aside

pub data Line : Type 0 where
  Class : ℕ → Name → Line
  Version : ℤ → ℤ → Line
  Super : Name → Line
  Implements : Name → Line
  Field : ℕ → Name → Name → Option Value → Line
  Abstract : ℕ → Name → Name → Line
  Method : ℕ → Name → Name → Line
  Stack : ℤ → Line
  Locals : ℤ → Line
  Beside : Aside → Line
  Framed : Frame → Line
  Does : Operation → Line
  End : Line

-- ---- the items of a line

abbrev pub called : Name → Item
called name = Called [] name

abbrev pub value_items : Option Value → List Item
value_items None = []
value_items (Some (IntValue n)) = Exactly (codes "int") ∷ Number n ∷ []
value_items (Some (LongValue n)) = Exactly (codes "long") ∷ Number n ∷ []
value_items (Some (StringValue units)) = Exactly (codes "string") ∷ Text units ∷ []

abbrev pub literal_items : Literal → List Item
literal_items (IntLiteral n) = Exactly (codes "int") ∷ Number n ∷ []
literal_items (StringLiteral units) = Exactly (codes "string") ∷ Text units ∷ []
literal_items (ClassLiteral name) = Exactly (codes "class") ∷ called name ∷ []

abbrev pub type_item : FrameType → Item
type_item (Simple word) = Exactly word
type_item (Object name) = Called (codes "ref:") name
type_item (New label) = Exactly (codes "new:" ++ label)

abbrev pub frame_items : Frame → List Item
frame_items Same = Exactly (codes "same") ∷ []
frame_items (Stack1 type) = Exactly (codes "stack1") ∷ type_item type ∷ []
frame_items (Chop n) = Exactly (codes "chop") ∷ Number n ∷ []
frame_items (Append types) = Exactly (codes "append") ∷ map type_item types
frame_items (Full locals stack) = Exactly (codes "full") ∷ map type_item locals ++ Exactly (codes "/") ∷ map type_item stack

abbrev pub default_items : Label → List Item
default_items label = Exactly (codes "default") ∷ Exactly label ∷ []

abbrev pub pair_items : ℤ × Label → List Item
pair_items (match, label) = Number match ∷ Exactly label ∷ []

abbrev pub wide_items : Bool → List Item
wide_items false = []
wide_items true = Exactly (codes "wide") ∷ []

abbrev pub interface_items : Bool → List Item
interface_items false = []
interface_items true = Exactly (codes "interface") ∷ []

abbrev pub op_item : ℕ → Item
op_item op = Exactly (mnemonic op)

abbrev pub operation_items : Operation → List Item
operation_items (Plain op) = op_item op ∷ []
operation_items (Push op n) = op_item op ∷ Number n ∷ []
operation_items (Local wide op slot) = wide_items wide ++ op_item op ∷ Number slot ∷ []
operation_items (Increment wide slot by) = wide_items wide ++ op_item 132 ∷ Number slot ∷ Number by ∷ []
operation_items (Load op literal) = op_item op ∷ literal_items literal
operation_items (LoadLong n) = op_item 20 ∷ Exactly (codes "long") ∷ Number n ∷ []
operation_items (Jump op label) = op_item op ∷ Exactly label ∷ []
operation_items (Table low labels default) = op_item 170 ∷ Number low ∷ map Exactly labels ++ default_items default
operation_items (Lookup pairs default) = op_item 171 ∷ flat_map pair_items pairs ++ default_items default
operation_items (Member op class name desc interface) = op_item op ∷ called class ∷ called name ∷ called desc ∷ interface_items interface
operation_items (Dynamic n name desc) = op_item 186 ∷ Number n ∷ called name ∷ called desc ∷ []
operation_items (ClassOf op class) = op_item op ∷ called class ∷ []
operation_items (Array base) = op_item 188 ∷ Exactly (base_word base) ∷ []
operation_items (Multi desc dims) = op_item 197 ∷ called desc ∷ Number dims ∷ []

abbrev pub catch_item : Option Name → Item
catch_item None = Exactly (codes "any")
catch_item (Some class) = called class

abbrev pub aside_items : Aside → List Item
aside_items (Labelled label) = Exactly (label ++ codes ":") ∷ []
aside_items (Catch class from to handler) = Exactly (codes ".catch") ∷ catch_item class ∷ Exactly from ∷ Exactly to ∷ Exactly handler ∷ []

abbrev pub member_items : ℕ → Name → Name → List Item
member_items flags name desc = Flags flags ∷ called name ∷ called desc ∷ []

abbrev pub items_of : Line → List Item
items_of (Class flags name) = Exactly (codes ".class") ∷ Flags flags ∷ called name ∷ []
items_of (Version major minor) = Exactly (codes ".version") ∷ Number major ∷ Number minor ∷ []
items_of (Super name) = Exactly (codes ".super") ∷ called name ∷ []
items_of (Implements name) = Exactly (codes ".implements") ∷ called name ∷ []
items_of (Field flags name desc value) = Exactly (codes ".field") ∷ member_items flags name desc ++ value_items value
items_of (Abstract flags name desc) = Exactly (codes ".abstract") ∷ member_items flags name desc
items_of (Method flags name desc) = Exactly (codes ".method") ∷ member_items flags name desc
items_of (Stack n) = Exactly (codes ".stack") ∷ Number n ∷ []
items_of (Locals n) = Exactly (codes ".locals") ∷ Number n ∷ []
items_of (Beside aside) = aside_items aside
items_of (Framed frame) = Exactly (codes ".frame") ∷ frame_items frame
items_of (Does operation) = operation_items operation
items_of End = Exactly (codes ".end") ∷ []

-- ---- what is allowed in a line; whether numbers fit their fields is judged below

abbrev pub IsSimpleType : List ℕ → Type 0
IsSimpleType word =
    (word ≡ codes "top") ⊎ ((word ≡ codes "int") ⊎ ((word ≡ codes "float") ⊎ ((word ≡ codes "double")
    ⊎ ((word ≡ codes "long") ⊎ ((word ≡ codes "null") ⊎ (word ≡ codes "this"))))))

abbrev pub IsFrameType : FrameType → Type 0
IsFrameType (Simple word) = IsSimpleType word
IsFrameType (Object name) = IsClassText name
IsFrameType (New label) = label ≢ []

abbrev pub IsFrame : Frame → Type 0
IsFrame Same = ⊤
IsFrame (Stack1 type) = IsFrameType type
IsFrame (Chop n) = ⊤
IsFrame (Append types) = (1 ≤ length types) × (length types ≤ 3) × AllByRecursion IsFrameType types
IsFrame (Full locals stack) = AllByRecursion IsFrameType locals × AllByRecursion IsFrameType stack

abbrev pub IsLiteralName : Literal → Type 0
IsLiteralName (ClassLiteral name) = IsClassText name
IsLiteralName _ = ⊤

-- a field has an opcode from 178 to 181, a method one from 182 to 185; `interface` may come with 183 and 184
pub record IsFieldUse (op : ℕ) (name desc : Name) (interface : Bool) : Type 0 where
  pub from : 178 ≤ op
  pub to : op ≤ 181
  pub named : IsUnqualifiedName name
  pub described : IsFieldDescriptor desc
  pub plain : interface ≡ false

pub record IsMethodUse (op : ℕ) (name desc : Name) (interface : Bool) : Type 0 where
  pub from : 182 ≤ op
  pub to : op ≤ 185
  pub named : IsMethodName name
  pub described : IsMethodDescriptor desc
  pub marked : interface ≡ true → (op ≡ 183) ⊎ (op ≡ 184)

-- `default` ends the list of targets, so no target is called that
abbrev pub IsTarget : Label → Type 0
IsTarget label = label ≢ codes "default"

abbrev pub IsOperation : Operation → Type 0
IsOperation (Plain op) = form_of op ≡ Bare
IsOperation (Push op n) = (form_of op ≡ SignedByte) ⊎ (form_of op ≡ SignedShort)
IsOperation (Local wide op slot) = form_of op ≡ Slot
IsOperation (Increment wide slot by) = ⊤
IsOperation (Load op literal) = ((op ≡ 18) ⊎ (op ≡ 19)) × IsLiteralName literal
IsOperation (LoadLong n) = ⊤
IsOperation (Jump op label) = (form_of op ≡ ShortOffset) ⊎ (form_of op ≡ LongOffset)
IsOperation (Table low labels default) = AllByRecursion IsTarget labels
IsOperation (Lookup pairs default) = ⊤
IsOperation (Member op class name desc interface) = IsClassText class × (IsFieldUse op name desc interface ⊎ IsMethodUse op name desc interface)
IsOperation (Dynamic n name desc) = IsMethodName name × IsMethodDescriptor desc
IsOperation (ClassOf op class) = (form_of op ≡ ClassIndex) × IsClassText class
IsOperation (Array base) = IsArrayType base
IsOperation (Multi desc dims) = IsArrayDescriptor desc

-- the class of a `.catch` isn't called `any`
abbrev pub IsAside : Aside → Type 0
IsAside (Labelled label) = label ≢ []
IsAside (Catch class from to handler) = IfSome class (λ name. IsClassText name × (name ≢ codes "any"))

abbrev pub IsLine : Line → Type 0
IsLine (Class flags name) = IsClassName name
IsLine (Version major minor) = ⊤
IsLine (Super name) = IsClassName name
IsLine (Implements name) = IsClassName name
IsLine (Field flags name desc value) = IsUnqualifiedName name × IsFieldDescriptor desc
IsLine (Abstract flags name desc) = IsMethodName name × IsMethodDescriptor desc
IsLine (Method flags name desc) = IsMethodName name × IsMethodDescriptor desc
IsLine (Stack n) = ⊤
IsLine (Locals n) = ⊤
IsLine (Beside aside) = IsAside aside
IsLine (Framed frame) = IsFrame frame
IsLine (Does operation) = IsOperation operation
IsLine End = ⊤

-- ---- numbers that fit their fields

-- a number without a sign, of n bits
abbrev pub FitsBits : ℕ → ℤ → Type 0
FitsBits bits n = (m : ℕ) × (n ≡ pos m) × (m < 2 ^ bits)

abbrev pub slot_bits : Bool → ℕ
slot_bits false = 8
slot_bits true = 16

abbrev pub IsSizedValue : Value → Type 0
IsSizedValue (IntValue n) = FitsSigned w32 n
IsSizedValue (LongValue n) = FitsSigned w64 n
IsSizedValue (StringValue units) = ⊤

abbrev pub IsSizedLiteral : Literal → Type 0
IsSizedLiteral (IntLiteral n) = FitsSigned w32 n
IsSizedLiteral _ = ⊤

-- a chop of 1 to 3
abbrev pub IsSizedFrame : Frame → Type 0
IsSizedFrame (Chop n) = (m : ℕ) × (n ≡ pos m) × (1 ≤ m) × (m ≤ 3)
IsSizedFrame _ = ⊤

abbrev pub FitsIncrement : Bool → ℤ → Type 0
FitsIncrement false by = FitsSigned w8 by
FitsIncrement true by = FitsSigned w16 by

abbrev pub IsSizedOperation : Operation → Type 0
IsSizedOperation (Push op n) = IsPushed (form_of op) n
IsSizedOperation (Local wide op slot) = FitsBits (slot_bits wide) slot
IsSizedOperation (Increment wide slot by) = FitsBits (slot_bits wide) slot × FitsIncrement wide by
IsSizedOperation (Load op literal) = IsSizedLiteral literal
IsSizedOperation (LoadLong n) = FitsSigned w64 n
IsSizedOperation (Table low labels default) = FitsSigned w32 low
IsSizedOperation (Lookup pairs default) = AllByRecursion (λ (pair : ℤ × Label). FitsSigned w32 pair.0) pairs
IsSizedOperation (Dynamic n name desc) = FitsBits 16 n
IsSizedOperation (Multi desc dims) = FitsBits 8 dims
IsSizedOperation _ = ⊤

abbrev pub IsSized : Line → Type 0
IsSized (Version major minor) = FitsBits 16 major × FitsBits 16 minor
IsSized (Field flags name desc value) = IfSome value IsSizedValue
IsSized (Stack n) = FitsBits 16 n
IsSized (Locals n) = FitsBits 16 n
IsSized (Framed frame) = IsSizedFrame frame
IsSized (Does operation) = IsSizedOperation operation
IsSized _ = ⊤
