-- The rules on the constants of a pool and on fields and methods: 12 FLOAT, as far as it isn't about instructions, and 16 INTERFACE_CODE.
use Rattle.std.specs.Prelude.{◌≢◌, ◌⊎◌, ⊤, List, [], codes, Contains, Some}
use Rattle.std.specs.Int.{IsBitSet}
use Rattle.dj_pool.specs.trusted.Pool.{Constant, Float, Double, Class, NameAndType, MethodType, text_at}
use Rattle.dj_class.specs.trusted.Access as access
use Rattle.dj_class.specs.trusted.ClassFile.{MemberInfo, ClassFile}
use Rattle.dj_early_rules.specs.trusted.Attributes.{codes_of}
use Rattle.dj_early_rules.specs.trusted.Floats.{NamesFloat, NamesFloatArray}
use Rattle.dj_early_rules.specs.trusted.Code.{HasFloatMap}

-- rule 12, for a constant: a float or a double; a name and type or a method's type with a float or a double; a class that is an array of them
abbrev pub IsFloatConstant : List Constant → Constant → Type 0
IsFloatConstant pool (Float bits) = ⊤
IsFloatConstant pool (Double bits) = ⊤
IsFloatConstant pool (NameAndType name desc) = NamesFloat pool desc
IsFloatConstant pool (MethodType desc) = NamesFloat pool desc
IsFloatConstant pool (Class name) = NamesFloatArray pool name
IsFloatConstant pool _ = ⊥

abbrev pub HasFloatConstant : ClassFile → Type 0
HasFloatConstant c = (k : Constant) × Contains c.pool k × IsFloatConstant c.pool k

-- rule 12, for a field: its descriptor has a float or a double
abbrev pub IsFloatField : List Constant → MemberInfo → Type 0
IsFloatField pool f = NamesFloat pool f.desc

-- rule 12, for a method: its descriptor or its stack map has a float or a double
abbrev pub IsFloatMethod : List Constant → MemberInfo → Type 0
IsFloatMethod pool m = NamesFloat pool m.desc ⊎ HasFloatMap pool m

-- JVMS table 4.1-A: ACC_INTERFACE
abbrev pub IsInterface : ClassFile → Type 0
IsInterface c = IsBitSet c.flags access.interface

-- rule 16: a method of an interface, other than its initialiser
abbrev pub IsInterfaceMethod : ClassFile → MemberInfo → Type 0
IsInterfaceMethod c m = IsInterface c × (text_at c.pool m.name ≢ Some (codes "<clinit>"))

-- rule 16: such a method with code
abbrev pub HasInterfaceCode : ClassFile → MemberInfo → Type 0
HasInterfaceCode c m = IsInterfaceMethod c m × (codes_of c.pool m ≢ [])
