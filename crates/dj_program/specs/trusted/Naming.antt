-- What the indexes of a class file's pool name (JVMS 4.4).
use Rattle.std.specs.Prelude.{ℕ, ◌+◌, ◌*◌, List, [], ◌∷◌, length, Option, Some, None, unwrap_or, nat_eq, if◌then◌else◌}
use Rattle.std.specs.Option.{option_map}
use Rattle.dj_names.specs.trusted.Tests.{units_read}
use Rattle.dj_ops.specs.declared.instruction.Instr.{Instr}
use Rattle.dj_pool.specs.trusted.Pool.{Constant, Integer, Long, Class, Text, Field, Method, InterfaceMethod, constant_at, class_name_at, name_and_type_at, both}
use Rattle.dj_class.specs.trusted.ClassFile.{MemberInfo}
use Rattle.dj_model.specs.trusted.Types.{Member}
use Rattle.dj_model.specs.trusted.Instructions.{Named, Nothing, AnInt, ALong, AText, AClass, AField, AMethod, AnInterfaceMethod, Another, Instruction}
use Rattle.dj_model.specs.trusted.Opcodes.{instruction_of}
use Rattle.dj_model.specs.trusted.Program as programs
use Rattle.dj_early_rules.specs.trusted.Attributes.{values_of}
use Rattle.dj_early_rules.specs.trusted.Instructions.{index_of}
use Rattle.dj_declarations.specs.trusted.Files.{desc_in, type_in, name_in}

-- ---- texts and members

-- JVMS 4.4.7: the units that a text spells; for a text that spells none they may be any
unfoldable pub units_in : List ℕ → List ℕ
units_in text = unwrap_or (units_read (length text) text) []

abbrev pub member_from : List ℕ × (List ℕ × List ℕ) → Member
member_from x = record { class = type_in x.0; name = x.1.0; desc = desc_in x.1.1 }

-- the field or the method of a class and a name and descriptor, by their indexes
abbrev pub member_in : List Constant → ℕ → ℕ → Option Member
member_in pool class names = option_map member_from (both (class_name_at pool class) (name_and_type_at pool names))

abbrev pub named_or_another : Option Named → Named
named_or_another named = unwrap_or named Another

-- ---- what a constant names

-- a float, a double, and all that no instruction takes are `Another`
unfoldable pub named_by : List Constant → Constant → Named
named_by pool (Integer n) = AnInt n
named_by pool (Long n) = ALong n
named_by pool (Text index) = AText (units_in (name_in pool index))
named_by pool (Class index) = AClass (type_in (name_in pool index))
named_by pool (Field class names) = named_or_another (option_map AField (member_in pool class names))
named_by pool (Method class names) = named_or_another (option_map AMethod (member_in pool class names))
named_by pool (InterfaceMethod class names) = named_or_another (option_map AnInterfaceMethod (member_in pool class names))
named_by pool k = Another

-- what an index names
abbrev pub named_at : List Constant → ℕ → Named
named_at pool index = named_or_another (option_map (named_by pool) (constant_at pool index))

abbrev pub named_if : List Constant → Option ℕ → Named
named_if pool None = Nothing
named_if pool (Some index) = named_at pool index

-- an instruction, with what its index names in place of the index
abbrev pub instruction_in : List Constant → Instr → Instruction
instruction_in pool instr = instruction_of instr (named_if pool (index_of instr))

-- ---- constants of fields

abbrev pub constant_by : List Constant → Constant → programs.Constant
constant_by pool (Integer n) = programs.Int n
constant_by pool (Long n) = programs.Long n
constant_by pool (Text index) = programs.Text (units_in (name_in pool index))
constant_by pool k = programs.Unfit

-- JVMS 4.7.2: the index in the body of a ConstantValue attribute
abbrev pub value_index : List ℕ → Option ℕ
value_index (high ∷ (low ∷ [])) = Some (high * 256 + low)
value_index body = None

abbrev pub constant_of_body : List Constant → List ℕ → programs.Constant
constant_of_body pool body = unwrap_or (option_map (constant_by pool) (constant_of_index (value_index body))) programs.Unfit where
  constant_of_index : Option ℕ → Option Constant
  constant_of_index None = None
  constant_of_index (Some index) = constant_at pool index

abbrev pub constant_of_bodies : List Constant → List (List ℕ) → Option programs.Constant
constant_of_bodies pool [] = None
constant_of_bodies pool (body ∷ bodies) = Some (constant_of_body pool body)

-- the value with which a field begins, where its file has one
unfoldable pub constant_in : List Constant → MemberInfo → Option programs.Constant
constant_in pool f = constant_of_bodies pool (values_of pool f)
