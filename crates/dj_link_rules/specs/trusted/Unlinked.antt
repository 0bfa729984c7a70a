-- Rule 18, UNRESOLVED: what an instruction names isn't there, or isn't what the instruction requires (JVMS 4.9.1, 5.4.3 and 6.5).
use Rattle.std.specs.Prelude.{◌≡◌, ◌≢◌, ℕ, ◌≤◌, ◌⊎◌, Bool, true, false, not, ◌&&◌, ◌||◌, List, Option, Some, None, nat_eq, nat_le, if◌then◌else◌, IsSomeAnd, IsTrue, IsFalse}
use Rattle.dj_names.specs.declared.descriptor.Ty.{Ty}
use Rattle.dj_names.specs.trusted.Types.{Name}
use Rattle.dj_ops.specs.declared.instruction.Instr.{Instr}
use Rattle.dj_ops.specs.declared.instruction.Instr.TheVariants as instrs
use Rattle.dj_pool.specs.trusted.Pool.{Constant, Integer, Float, Long, Double, Class, Text, Field, Method, InterfaceMethod, Handle, MethodType, Dynamic, constant_at}
use Rattle.dj_model.specs.trusted.Types.{Member, constructor_name, initialiser_name}
use Rattle.dj_model.specs.trusted.Program as programs
use Rattle.dj_model.specs.trusted.Program.{Program, class_at, flags_of, is_interface, is_abstract}
use Rattle.dj_model.specs.trusted.Linking.{chain, is_among}
use Rattle.dj_model.specs.trusted.Numbers.{agrees}
use Rattle.dj_early_rules.specs.trusted.Instructions.{index_of, NamesSuch}
use Rattle.dj_link_rules.specs.trusted.Named.{named_type, class_of_type, named_member, is_static_found, NamesNoClass, NamesNoMember, MakesSuch}

-- ---- tags

-- ldc and ldc_w
abbrev pub is_short_literal : Constant → Bool
is_short_literal (Integer n) = true
is_short_literal (Float bits) = true
is_short_literal (Text text) = true
is_short_literal (Class name) = true
is_short_literal (Handle kind member) = true
is_short_literal (MethodType desc) = true
is_short_literal k = false

-- ldc2_w
abbrev pub is_long_literal : Constant → Bool
is_long_literal (Long n) = true
is_long_literal (Double bits) = true
is_long_literal k = false

abbrev pub is_field : Constant → Bool
is_field (Field class names) = true
is_field k = false

abbrev pub is_method : Constant → Bool
is_method (Method class names) = true
is_method k = false

abbrev pub is_interface_method : Constant → Bool
is_interface_method (InterfaceMethod class names) = true
is_interface_method k = false

abbrev pub is_class : Constant → Bool
is_class (Class name) = true
is_class k = false

abbrev pub is_dynamic : Constant → Bool
is_dynamic (Dynamic bootstrap names) = true
is_dynamic k = false

-- getstatic to putfield take fields; invokevirtual takes methods of classes; invokespecial and invokestatic take methods of classes and of interfaces
abbrev pub takes_member : ℕ → Constant → Bool
takes_member op k = if nat_le op 181 then is_field k else (is_method k || (not_virtual op && is_interface_method k)) where
  not_virtual : ℕ → Bool
  not_virtual op = nat_le 183 op

-- the instruction takes a constant of this tag
abbrev pub takes : Instr → Constant → Bool
takes (instrs.Literal op index) k = if nat_eq op 20 then is_long_literal k else is_short_literal k
takes (instrs.Member op index) k = takes_member op k
takes (instrs.Interface index count) k = is_interface_method k
takes (instrs.Dynamic index) k = is_dynamic k
takes (instrs.Class op index) k = is_class k
takes (instrs.Multi index dims) k = is_class k
takes instr k = false

-- the index names no constant, or one that the instruction doesn't take
abbrev pub HasWrongTag : List Constant → Instr → Type 0
HasWrongTag pool instr = IsSomeAnd (index_of instr) (λ index. IsSomeAnd (constant_at pool index) (λ k. IsTrue (takes instr k)) → ⊥)

-- ---- members

-- whether the instruction requires a static member; none where it names no member
abbrev pub asks_static : Instr → Option Bool
asks_static (instrs.Member op index) = Some (nat_le op 179 || nat_eq op 184)
asks_static (instrs.Interface index count) = Some false
asks_static instr = None

-- the two are there, and differ
abbrev pub differ : Option Bool → Option Bool → Bool
differ (Some a) (Some b) = not (agrees a b)
differ a b = false

-- the member is static and the instruction requires one that isn't, or the reverse
abbrev pub IsOtherwiseStatic : Program → Instr → Constant → Member → Type 0
IsOtherwiseStatic program instr k m = IsTrue (differ (asks_static instr) (is_static_found program k m))

-- invokespecial
abbrev pub is_special : Instr → Bool
is_special (instrs.Member op index) = nat_eq op 183
is_special instr = false

-- another instruction than invokespecial names a constructor
abbrev pub IsMisusedConstructor : Instr → Member → Type 0
IsMisusedConstructor instr m = (m.name ≡ constructor_name) × IsFalse (is_special instr)

abbrev pub IsInitialiser : Member → Type 0
IsInitialiser m = m.name ≡ initialiser_name

-- the type is the class itself or one of its superclasses
abbrev pub is_own_or_above : Program → Name → Ty → Bool
is_own_or_above program own ty = nat_eq ty.dims 0 && is_among (chain program own) (class_of_type ty)

-- invokespecial, in a method of the class `own`: it names a method that is no constructor, of a class that is neither `own` nor one of its superclasses
abbrev pub IsFarSpecial : Program → Name → Instr → Member → Type 0
IsFarSpecial program own instr m =
    IsTrue (is_special instr) × (m.name ≢ constructor_name) × IsFalse (is_own_or_above program own m.class)

abbrev pub IsUnlinkedMember : Program → Name → Instr → Constant → Member → Type 0
IsUnlinkedMember program own instr k m =
    IsOtherwiseStatic program instr k m
    ⊎ (IsMisusedConstructor instr m
    ⊎ (IsInitialiser m
    ⊎ IsFarSpecial program own instr m))

-- ---- classes

abbrev pub is_interface_type : Program → Ty → Bool
is_interface_type program ty = nat_eq ty.dims 0 && is_interface (flags_of (class_at program (class_of_type ty)))

-- a method of an interface is named as one of a class, or the reverse; an array counts as a class here
abbrev pub HasWrongKind : Program → Constant → Ty → Type 0
HasWrongKind program (Method class names) ty = IsTrue (is_interface_type program ty)
HasWrongKind program (InterfaceMethod class names) ty = IsFalse (is_interface_type program ty)
HasWrongKind program k ty = ⊥

abbrev pub IsAbstractClass : programs.Class → Type 0
IsAbstractClass c = IsTrue (is_interface c.flags || is_abstract c.flags)

-- an array, an interface or an abstract class
abbrev pub IsAbstractType : Program → Ty → Type 0
IsAbstractType program ty = (1 ≤ ty.dims) ⊎ IsSomeAnd (class_at program (class_of_type ty)) IsAbstractClass

abbrev pub NamesAbstract : Program → List Constant → Constant → Type 0
NamesAbstract program pool k = IsSomeAnd (named_type pool k) (IsAbstractType program)

-- anewarray whose elements are arrays of 255 dimensions
abbrev pub IsTooDeep : Instr → Ty → Type 0
IsTooDeep (instrs.Class op index) ty = (op ≡ 189) × (ty.dims ≡ 255)
IsTooDeep instr ty = ⊥

abbrev pub IsUnlinkedType : Program → Instr → Constant → Ty → Type 0
IsUnlinkedType program instr k ty = HasWrongKind program k ty ⊎ IsTooDeep instr ty

-- ---- the rule

-- rule 18, for the constant of an instruction in a method of the class `own`
abbrev pub IsUnlinkedConstant : Program → Name → Instr → List Constant → Constant → Type 0
IsUnlinkedConstant program own instr pool k =
    NamesNoClass program pool k
    ⊎ (NamesNoMember program pool k
    ⊎ (IsSomeAnd (named_member pool k) (IsUnlinkedMember program own instr k)
    ⊎ IsSomeAnd (named_type pool k) (IsUnlinkedType program instr k)))

-- rule 18, for an instruction in a method of the class `own`
abbrev pub IsUnlinked : Program → Name → List Constant → Instr → Type 0
IsUnlinked program own pool instr =
    HasWrongTag pool instr
    ⊎ (NamesSuch (IsUnlinkedConstant program own instr) pool instr
    ⊎ MakesSuch (NamesAbstract program) pool instr)

-- rule 18, for a handler, by the index of its type (JVMS 4.7.3): it names no class constant, or a class that isn't there
abbrev pub IsUnlinkedCatch : Program → List Constant → ℕ → Type 0
IsUnlinkedCatch program pool index =
    (index ≢ 0) × ((IsSomeAnd (constant_at pool index) (λ k. IsTrue (is_class k)) → ⊥)
    ⊎ IsSomeAnd (constant_at pool index) (NamesNoClass program pool))
