-- Used by the code alone: the rules 17 and 18 by what is kept of constants, and of the classes of the set by their numbers.
use Rattle.std.specs.Prelude.{◌≡◌, ℕ, ◌<◌, ◌⊎◌, Bool, true, false, not, ◌&&◌, ◌||◌, List, length, Option, Some, None, nat_eq, nat_le, if◌then◌else◌, is_none, slice_get, option_and_then, unwrap_or, Contains, IsTrue, IsFalse}
use Rattle.std.specs.Option.{option_map}
use Rattle.dj_names.specs.trusted.Types.{Name}
use Rattle.dj_ops.specs.declared.instruction.Instr.{Instr}
use Rattle.dj_ops.specs.declared.instruction.Instr.TheVariants as instrs
use Rattle.dj_pool.specs.trusted.Pool.{Constant}
use Rattle.dj_labels.specs.declared.labelled.Protected.{Protected}
use Rattle.dj_labels.specs.declared.labelled.Labelled.{Labelled}
use Rattle.dj_model.specs.trusted.Types.{constructor_name}
use Rattle.dj_model.specs.trusted.Program.{Program, Class, flags_of, is_interface, is_abstract}
use Rattle.dj_model.specs.trusted.Linking.{chain, is_among}
use Rattle.dj_declarations.specs.trusted.Members.{has_method_named}
use Rattle.dj_class_table.specs.Tables.{name_at}
use Rattle.dj_early_rules.specs.trusted.Instructions.{index_of}
use Rattle.dj_early_rules.specs.trusted.Methods.{CatchesError}
use Rattle.dj_link_rules.specs.trusted.Unlinked.{differ, asks_static, is_special}
use Rattle.dj_link_rules.specs.trusted.Lines.{IsUnreported, IsFirstOf}
use Rattle.dj_link_rules.specs.Judged.{AreJudged, kept_at}
use Rattle.dj_link_rules.specs.declared.above.OwnClass.{OwnClass}
use Rattle.dj_link_rules.specs.declared.named.Tag.{Tag}
use Rattle.dj_link_rules.specs.declared.named.Tag.TheVariants as tags
use Rattle.dj_link_rules.specs.declared.named.NamedClass.{NamedClass}
use Rattle.dj_link_rules.specs.declared.named.NamedMember.{NamedMember}
use Rattle.dj_link_rules.specs.declared.named.NamedConstant.{NamedConstant}
use Rattle.dj_link_rules.specs.declared.known.Known.{Known}

-- ---- classes by their numbers

-- whether the class of a number is marked
abbrev pub is_marked : List Bool → Option ℕ → Bool
is_marked marks None = false
is_marked marks (Some class) = unwrap_or (slice_get marks class) false

-- the flags of the class of a number; 0 where there is no class
abbrev pub flags_at : Program → Option ℕ → ℕ
flags_at program number = flags_of (option_and_then (slice_get program) number)

-- no object of the class can be made
abbrev pub is_unmakeable : Class → Bool
is_unmakeable c = not (has_method_named c.methods constructor_name) || is_interface c.flags

-- these are the marks of those classes
abbrev pub AreUnmakeable : Program → List Bool → Type 0
AreUnmakeable program marks = (class : ℕ) → slice_get marks class ≡ option_map is_unmakeable (slice_get program class)

-- whether the second class is the first or one of its superclasses, where both are there
abbrev pub is_named_above : Program → Option Name → Option Name → Bool
is_named_above program None other = false
is_named_above program (Some own) None = false
is_named_above program (Some own) (Some name) = is_among (chain program own) name

-- whether the class of a number is the method's own class or one of its superclasses
abbrev pub is_above : OwnClass → Option ℕ → Bool
is_above own number = is_named_above own.linker.now.program (option_and_then (name_at own.linker.now.program) own.number) (option_and_then (name_at own.linker.now.program) number)

-- the kept class is that of this name
abbrev pub AreAbove : Program → Name → OwnClass → Type 0
AreAbove program name own = (class : ℕ) (other : Name) → name_at program class ≡ Some other → is_above own (Some class) ≡ is_among (chain program name) other

-- ---- what a constant names

abbrev pub lacks_class : Option NamedClass → Bool
lacks_class None = false
lacks_class (Some class) = is_none class.number

abbrev pub lacks_member : Option NamedMember → Bool
lacks_member None = false
lacks_member (Some m) = is_none m.is_static

abbrev pub is_library_class : Option NamedClass → Bool
is_library_class None = false
is_library_class (Some class) = class.of_library

-- rule 17, for a constant
abbrev pub is_foreign_named : NamedConstant → Bool
is_foreign_named n = is_library_class n.class && (lacks_class n.class || lacks_member n.member)

abbrev pub is_unmakeable_class : List Bool → Option NamedClass → Bool
is_unmakeable_class unmakeable None = false
is_unmakeable_class unmakeable (Some class) = nat_eq class.dims 0 && (class.of_library && is_marked unmakeable class.number)

abbrev pub is_interface_class : Program → NamedClass → Bool
is_interface_class program class = nat_eq class.dims 0 && is_interface (flags_at program class.number)

abbrev pub is_abstract_flags : ℕ → Bool
is_abstract_flags flags = is_interface flags || is_abstract flags

-- an array, an interface or an abstract class
abbrev pub is_abstract_class : Program → Option NamedClass → Bool
is_abstract_class program None = false
is_abstract_class program (Some class) = not (nat_eq class.dims 0) || is_abstract_flags (flags_at program class.number)

-- ---- what an instruction requires

-- new
abbrev pub makes : Instr → Bool
makes (instrs.Class op index) = nat_eq op 187
makes instr = false

-- anewarray
abbrev pub makes_array : Instr → Bool
makes_array (instrs.Class op index) = nat_eq op 189
makes_array instr = false

abbrev pub is_short_tag : Tag → Bool
is_short_tag tags.Short = true
is_short_tag tags.Class = true
is_short_tag tag = false

abbrev pub is_long_tag : Tag → Bool
is_long_tag tags.Long = true
is_long_tag tag = false

abbrev pub is_field_tag : Tag → Bool
is_field_tag tags.Field = true
is_field_tag tag = false

abbrev pub is_method_tag : Tag → Bool
is_method_tag tags.Method = true
is_method_tag tag = false

abbrev pub is_interface_tag : Tag → Bool
is_interface_tag tags.InterfaceMethod = true
is_interface_tag tag = false

abbrev pub is_class_tag : Tag → Bool
is_class_tag tags.Class = true
is_class_tag tag = false

abbrev pub is_dynamic_tag : Tag → Bool
is_dynamic_tag tags.Dynamic = true
is_dynamic_tag tag = false

abbrev pub takes_member_tag : ℕ → Tag → Bool
takes_member_tag op tag = if nat_le op 181 then is_field_tag tag else (is_method_tag tag || (nat_le 183 op && is_interface_tag tag))

abbrev pub takes_literal_tag : ℕ → Tag → Bool
takes_literal_tag op tag = if nat_eq op 20 then is_long_tag tag else is_short_tag tag

-- the instruction takes a constant of this tag
abbrev pub takes_tag : Instr → Tag → Bool
takes_tag (instrs.Literal op index) tag = takes_literal_tag op tag
takes_tag (instrs.Member op index) tag = takes_member_tag op tag
takes_tag (instrs.Interface index count) tag = is_interface_tag tag
takes_tag (instrs.Dynamic index) tag = is_dynamic_tag tag
takes_tag (instrs.Class op index) tag = is_class_tag tag
takes_tag (instrs.Multi index dims) tag = is_class_tag tag
takes_tag instr tag = false

-- ---- rule 18, for an instruction and its constant

abbrev pub is_own_or_above_class : OwnClass → NamedClass → Bool
is_own_or_above_class own class = nat_eq class.dims 0 && is_above own class.number

abbrev pub is_far_special : OwnClass → Instr → NamedClass → NamedMember → Bool
is_far_special own instr class m = is_special instr && (not m.is_constructor && not (is_own_or_above_class own class))

abbrev pub is_misused_member : Instr → NamedMember → Bool
is_misused_member instr m = differ (asks_static instr) m.is_static || ((m.is_constructor && not (is_special instr)) || m.is_initialiser)

abbrev pub is_unlinked_member : OwnClass → Instr → Option NamedClass → Option NamedMember → Bool
is_unlinked_member own instr (Some class) (Some m) = is_misused_member instr m || is_far_special own instr class m
is_unlinked_member own instr class m = false

abbrev pub has_wrong_kind : Program → Tag → NamedClass → Bool
has_wrong_kind program tags.Method class = is_interface_class program class
has_wrong_kind program tags.InterfaceMethod class = not (is_interface_class program class)
has_wrong_kind program tag class = false

abbrev pub is_unlinked_class : Program → Instr → Tag → Option NamedClass → Bool
is_unlinked_class program instr tag None = false
is_unlinked_class program instr tag (Some class) = has_wrong_kind program tag class || (makes_array instr && nat_eq class.dims 255)

abbrev pub is_unlinked_named : Known → Instr → NamedConstant → Bool
is_unlinked_named known instr n =
    (lacks_class n.class || lacks_member n.member)
    || (is_unlinked_member known.own instr n.class n.member
    || (is_unlinked_class known.table.now instr n.tag n.class
    || (makes instr && is_abstract_class known.table.now n.class)))

-- ---- rules of instructions and handlers

-- what is kept of the constant that an instruction names
abbrev pub named_by : List (Option NamedConstant) → Instr → Option NamedConstant
named_by kept instr = option_and_then (kept_at kept) (index_of instr)

abbrev pub is_foreign_by : Known → Instr → Option NamedConstant → Bool
is_foreign_by known instr None = false
is_foreign_by known instr (Some n) = is_foreign_named n || (makes instr && is_unmakeable_class known.unmakeable.now n.class)

abbrev pub is_foreign : Known → Instr → Bool
is_foreign known instr = is_foreign_by known instr (named_by known.kept.now instr)

-- whether rule 18 is violated by an instruction that names this constant
abbrev pub is_unlinked_by : Known → Instr → Option NamedConstant → Bool
is_unlinked_by known instr None = true
is_unlinked_by known instr (Some n) = not (takes_tag instr n.tag) || is_unlinked_named known instr n

abbrev pub is_unlinked_at : Known → Instr → Option ℕ → Bool
is_unlinked_at known instr None = false
is_unlinked_at known instr (Some index) = is_unlinked_by known instr (kept_at known.kept.now index)

abbrev pub is_unlinked : Known → Instr → Bool
is_unlinked known instr = is_unlinked_at known instr (index_of instr)

abbrev pub is_foreign_catch_by : Option NamedConstant → Bool
is_foreign_catch_by None = false
is_foreign_catch_by (Some n) = is_foreign_named n

abbrev pub is_foreign_catch : Known → ℕ → Bool
is_foreign_catch known index = is_foreign_catch_by (kept_at known.kept.now index)

abbrev pub is_unlinked_catch_by : Option NamedConstant → Bool
is_unlinked_catch_by None = true
is_unlinked_catch_by (Some n) = not (is_class_tag n.tag) || lacks_class n.class

abbrev pub is_unlinked_catch : Known → ℕ → Bool
is_unlinked_catch known index = not (nat_eq index 0) && is_unlinked_catch_by (kept_at known.kept.now index)

-- what is kept is right, in a class file of this class and with this pool
pub record IsKnown (own : Name) (pool : List Constant) (known : Known) : Type 0 where
  pub constants : AreJudged known.table.now pool known.kept.now
  pub above : AreAbove known.table.now own known.own
  pub unmakeable : AreUnmakeable known.table.now known.unmakeable.now

-- ---- lines

-- rule 17 or rule 18, unless another rule is reported in its place
abbrev pub IsRuled : Bool → Bool → Bool → ℕ → Type 0
IsRuled reported foreign unlinked rule = IsFalse reported × IsFirstOf (IsTrue foreign) (IsTrue unlinked) rule

abbrev pub KnownInstr : Known → List Constant → Instr → ℕ → Type 0
KnownInstr known pool instr rule = IsUnreported pool instr × IsFirstOf (IsTrue (is_foreign known instr)) (IsTrue (is_unlinked known instr)) rule

abbrev pub KnownCatch : Known → List Constant → ℕ → ℕ → Type 0
KnownCatch known pool index rule = (CatchesError pool index → ⊥) × IsFirstOf (IsTrue (is_foreign_catch known index)) (IsTrue (is_unlinked_catch known index)) rule

-- one of the first instructions, this many
pub record KnownBelow (count : ℕ) (known : Known) (pool : List Constant) (code : List Instr) (number : Option ℕ) (rule : ℕ) : Type 0 where
  pub at : ℕ
  pub below : at < count
  pub number_is : number ≡ Some at
  pub instr : Instr
  pub stands : slice_get code at ≡ Some instr
  pub such : KnownInstr known pool instr rule

-- a handler
abbrev pub KnownRange : Known → List Constant → Protected → Option ℕ → ℕ → Type 0
KnownRange known pool range number rule = (number ≡ Some range.handler) × KnownCatch known pool range.catch_type rule

-- labelled code, at an instruction or at a handler
abbrev pub KnownCode : Known → List Constant → Labelled → Option ℕ → ℕ → Type 0
KnownCode known pool labelled number rule =
    KnownBelow (length labelled.code) known pool labelled.code number rule
    ⊎ ((range : Protected) × Contains labelled.ranges range × KnownRange known pool range number rule)
