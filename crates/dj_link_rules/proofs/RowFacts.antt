-- The rules 17 and 18 of instructions and handlers of a class D below C, by plain values: the number of the rule, or 0 where neither is violated.
use Rattle.std.proofs.Common.{◌≡◌, ℕ, List, [], ◌∷◌, ◌++◌, map, replicate, Some, None, codes, pos, refl}
use Rattle.dj_names.specs.trusted.Types.{Name}
use Rattle.dj_names.specs.trusted.Library.{int}
use Rattle.dj_names.specs.trusted.NameReading.{reads_class_name}
use Rattle.dj_names.specs.trusted.DescReading.{dims_read, name_read, class_read, of_read, type_read, params_read, field_read, return_read, method_read, desc_read}
use Rattle.dj_ops.specs.declared.instruction.Instr.{Instr}
use Rattle.dj_ops.specs.declared.instruction.Instr.TheVariants as instrs
use Rattle.dj_ops.specs.Mnemonics.{nop, ldc, ldc2_w, getstatic, putstatic, getfield, putfield, invokevirtual, invokespecial, invokestatic, new, anewarray, checkcast}
use Rattle.dj_pool.specs.trusted.Pool.{Constant, Utf8, Integer, Float, Long, Double, Class, Text, Field, Method, InterfaceMethod, NameAndType, Handle, MethodType, Dynamic, Hole}
use Rattle.dj_model.specs.trusted.Program as programs
use Rattle.dj_model.specs.trusted.Program.{Program, Abstract}
use Rattle.dj_model.specs.trusted.Linking.{most_classes, chain_of, interfaces_from, interfaces_above, field_order, resolve_method, resolve_field}
use Rattle.dj_model.specs.SmallRuns.{code, method_with, plain_constructor, field_with, class_with}
use Rattle.dj_declarations.specs.trusted.Files.{desc_in, type_in}
use Rattle.dj_link_rules.proofs.RuleNumbers.{instr_rule, catch_rule}

-- ---- a program

abbrev runs : ℕ → Name → programs.Method
runs flags name = method_with flags name [] None (code [] [])

object_class : programs.Class
object_class = record (class_with (codes "java/lang/Object") [] (plain_constructor ∷ runs 1 (codes "hash") ∷ [])) { superclass = None }

-- without a constructor
math_class : programs.Class
math_class = class_with (codes "java/lang/Math") [] (runs 9 (codes "abs") ∷ [])

-- an interface, and one with a constructor, so it is its flags alone that let no object of it be made
runnable_class : programs.Class
runnable_class = record (class_with (codes "java/lang/Runnable") [] (plain_constructor ∷ method_with 1025 (codes "run") [] None Abstract ∷ [])) { flags = 1537 }

-- f isn't static, and s is; so are m and t
c_class : programs.Class
c_class = class_with (codes "C") (field_with 1 (codes "f") int None ∷ field_with 9 (codes "s") int None ∷ []) (plain_constructor ∷ runs 1 (codes "m") ∷ runs 9 (codes "t") ∷ [])

d_class : programs.Class
d_class = record (class_with (codes "D") [] (plain_constructor ∷ runs 8 (codes "<clinit>") ∷ [])) { superclass = Some (codes "C") }

-- abstract
x_class : programs.Class
x_class = record (class_with (codes "X") [] (plain_constructor ∷ runs 1 (codes "x") ∷ [])) { flags = 1057 }

-- an interface; j is static
i_class : programs.Class
i_class = record (class_with (codes "I") [] (method_with 1025 (codes "i") [] None Abstract ∷ runs 9 (codes "j") ∷ [])) { flags = 1537 }

program : Program
program = c_class ∷ d_class ∷ i_class ∷ x_class ∷ math_class ∷ object_class ∷ runnable_class ∷ []

-- ---- pools

-- the class is at 2, and its member at 6
abbrev pool_of : (ℕ → ℕ → Constant) → Name → Name → Name → List Constant
pool_of member class name desc = Utf8 class ∷ Class 1 ∷ Utf8 name ∷ Utf8 desc ∷ NameAndType 3 4 ∷ member 2 5 ∷ []

abbrev of_pool : List Constant → Instr → ℕ
of_pool pool instr = instr_rule program (codes "D") pool instr

abbrev field : ℕ → Name → Name → ℕ
field op class name = of_pool (pool_of Field class name (codes "I")) (instrs.Member op 6)

abbrev method : ℕ → Name → Name → ℕ
method op class name = of_pool (pool_of Method class name (codes "()V")) (instrs.Member op 6)

-- a method of an interface, by another instruction than invokeinterface
abbrev interface_method : ℕ → Name → Name → ℕ
interface_method op class name = of_pool (pool_of InterfaceMethod class name (codes "()V")) (instrs.Member op 6)

abbrev interface : Name → Name → ℕ
interface class name = of_pool (pool_of InterfaceMethod class name (codes "()V")) (instrs.Interface 6 1)

abbrev class : ℕ → Name → ℕ
class op text = of_pool (Utf8 [] ∷ Class 3 ∷ Utf8 text ∷ []) (instrs.Class op 2)

-- ---- rows

-- getstatic takes static fields and getfield others, also inherited ones
fields : field getstatic (codes "C") (codes "s") ∷ field getstatic (codes "C") (codes "f") ∷ field getfield (codes "C") (codes "f") ∷ field getfield (codes "C") (codes "s") ∷ field putfield (codes "D") (codes "f") ∷ field putstatic (codes "D") (codes "f")
    ∷ field getfield (codes "C") (codes "g") ∷ field getfield (codes "E") (codes "f") ∷ field getstatic (codes "java/lang/Math") (codes "PI") ∷ field getstatic (codes "javax/Y") (codes "y") ∷ field getstatic (codes "javay/Y") (codes "y") ∷ []
    ≡ 0 ∷ 18 ∷ 0 ∷ 18 ∷ 0 ∷ 18 ∷ 18 ∷ 18 ∷ 17 ∷ 17 ∷ 18 ∷ []
unfolding object_class math_class runnable_class c_class d_class x_class i_class program reads_class_name dims_read name_read class_read of_read type_read params_read field_read return_read method_read desc_read most_classes chain_of interfaces_from interfaces_above field_order resolve_method resolve_field desc_in type_in
fields = refl

-- invokevirtual and invokestatic
methods : method invokevirtual (codes "C") (codes "m") ∷ method invokevirtual (codes "C") (codes "t") ∷ method invokestatic (codes "C") (codes "t") ∷ method invokestatic (codes "C") (codes "m") ∷ method invokevirtual (codes "D") (codes "m") ∷ method invokevirtual (codes "D") (codes "n")
    ∷ method invokevirtual (codes "C") (codes "<init>") ∷ method invokestatic (codes "D") (codes "<clinit>") ∷ method invokestatic (codes "java/lang/Math") (codes "abs") ∷ method invokestatic (codes "java/lang/Math") (codes "sin") ∷ []
    ≡ 0 ∷ 18 ∷ 0 ∷ 18 ∷ 0 ∷ 18 ∷ 18 ∷ 18 ∷ 0 ∷ 17 ∷ []
unfolding object_class math_class runnable_class c_class d_class x_class i_class program reads_class_name dims_read name_read class_read of_read type_read params_read field_read return_read method_read desc_read most_classes chain_of interfaces_from interfaces_above field_order resolve_method resolve_field desc_in type_in
methods = refl

-- invokespecial: constructors of any class, other methods of the own class and of those above
specials : method invokespecial (codes "C") (codes "<init>") ∷ method invokespecial (codes "X") (codes "<init>") ∷ method invokespecial (codes "C") (codes "m") ∷ method invokespecial (codes "D") (codes "m") ∷ method invokespecial (codes "X") (codes "x") ∷ method invokespecial (codes "D") (codes "<clinit>")
    ∷ method invokespecial (codes "[LC;") (codes "hash") ∷ interface_method invokespecial (codes "I") (codes "i") ∷ []
    ≡ 0 ∷ 0 ∷ 0 ∷ 0 ∷ 18 ∷ 18 ∷ 18 ∷ 18 ∷ []
unfolding object_class math_class runnable_class c_class d_class x_class i_class program reads_class_name dims_read name_read class_read of_read type_read params_read field_read return_read method_read desc_read most_classes chain_of interfaces_from interfaces_above field_order resolve_method resolve_field desc_in type_in
specials = refl

-- methods of interfaces are named as such, and those of classes and arrays aren't
kinds : interface (codes "I") (codes "i") ∷ interface (codes "I") (codes "j") ∷ interface (codes "C") (codes "m") ∷ interface (codes "[LC;") (codes "hash") ∷ interface (codes "java/lang/Runnable") (codes "run") ∷ interface (codes "java/lang/Runnable") (codes "go")
    ∷ interface_method invokestatic (codes "I") (codes "j") ∷ method invokestatic (codes "I") (codes "j") ∷ method invokevirtual (codes "I") (codes "i") ∷ interface_method invokevirtual (codes "I") (codes "i") ∷ []
    ≡ 0 ∷ 18 ∷ 18 ∷ 18 ∷ 0 ∷ 17 ∷ 0 ∷ 18 ∷ 18 ∷ 18 ∷ []
unfolding object_class math_class runnable_class c_class d_class x_class i_class program reads_class_name dims_read name_read class_read of_read type_read params_read field_read return_read method_read desc_read most_classes chain_of interfaces_from interfaces_above field_order resolve_method resolve_field desc_in type_in
kinds = refl

-- arrays have the members of Object, and their elements' class is there
arrays : method invokevirtual (codes "[LC;") (codes "hash") ∷ method invokevirtual (codes "[I") (codes "hash") ∷ method invokevirtual (codes "[LE;") (codes "hash") ∷ method invokevirtual (codes "[Ljava/util/List;") (codes "hash") ∷ []
    ≡ 0 ∷ 0 ∷ 18 ∷ 17 ∷ []
unfolding object_class math_class runnable_class c_class d_class x_class i_class program reads_class_name dims_read name_read class_read of_read type_read params_read field_read return_read method_read desc_read most_classes chain_of interfaces_from interfaces_above field_order resolve_method resolve_field desc_in type_in
arrays = refl

-- new
made : map (class new) (codes "C" ∷ codes "X" ∷ codes "I" ∷ codes "[LC;" ∷ codes "E" ∷ codes "java/lang/Object" ∷ codes "java/lang/Math" ∷ codes "java/lang/Runnable" ∷ codes "java/util/List" ∷ codes "[Ljava/lang/Math;" ∷ [])
    ≡ 0 ∷ 18 ∷ 18 ∷ 18 ∷ 18 ∷ 0 ∷ 17 ∷ 17 ∷ 17 ∷ 18 ∷ []
unfolding object_class math_class runnable_class c_class d_class x_class i_class program reads_class_name dims_read name_read class_read of_read type_read params_read field_read return_read method_read desc_read most_classes chain_of interfaces_from interfaces_above field_order resolve_method resolve_field desc_in type_in
made = refl

-- checkcast
cast : map (class checkcast) (codes "X" ∷ codes "[LC;" ∷ codes "[[I" ∷ codes "java/lang/Math" ∷ codes "[Ljava/lang/Math;" ∷ codes "E" ∷ codes "[LE;" ∷ codes "java/util/List" ∷ codes "[Ljava/util/List;" ∷ [])
    ≡ 0 ∷ 0 ∷ 0 ∷ 0 ∷ 0 ∷ 18 ∷ 18 ∷ 17 ∷ 17 ∷ []
unfolding object_class math_class runnable_class c_class d_class x_class i_class program reads_class_name dims_read name_read class_read of_read type_read params_read field_read return_read method_read desc_read most_classes chain_of interfaces_from interfaces_above field_order resolve_method resolve_field desc_in type_in
cast = refl

abbrev deep : ℕ → Name
deep dims = replicate dims 91 ++ codes "LC;"

-- anewarray makes no array of more than 255 dimensions; checkcast asks for none
deepest : class anewarray (codes "X") ∷ class anewarray (deep 254) ∷ class anewarray (deep 255) ∷ class checkcast (deep 255) ∷ []
    ≡ 0 ∷ 0 ∷ 18 ∷ 0 ∷ []
unfolding object_class math_class runnable_class c_class d_class x_class i_class program reads_class_name dims_read name_read class_read of_read type_read params_read field_read return_read method_read desc_read most_classes chain_of interfaces_from interfaces_above field_order resolve_method resolve_field desc_in type_in
deepest = refl

-- ldc of the constants of a member of C: only the class is taken
tags : map (λ index. of_pool (pool_of Method (codes "C") (codes "m") (codes "()V")) (instrs.Literal ldc index)) (0 ∷ 1 ∷ 2 ∷ 5 ∷ 6 ∷ 7 ∷ [])
    ≡ 18 ∷ 18 ∷ 0 ∷ 18 ∷ 18 ∷ 18 ∷ []
unfolding object_class math_class runnable_class c_class d_class x_class i_class program reads_class_name dims_read name_read class_read of_read type_read params_read field_read return_read method_read desc_read most_classes chain_of interfaces_from interfaces_above field_order resolve_method resolve_field desc_in type_in
tags = refl

abbrev literals : List Constant
literals = Integer (pos 0) ∷ Float 0 ∷ Long (pos 0) ∷ Hole ∷ Double 0 ∷ Hole ∷ Text 0 ∷ Handle 0 0 ∷ MethodType 0 ∷ Dynamic 0 0 ∷ []

-- ldc takes what has one index, and ldc2_w what has two
loaded : map (λ index. of_pool literals (instrs.Literal ldc index)) (1 ∷ 2 ∷ 3 ∷ 4 ∷ 5 ∷ 7 ∷ 8 ∷ 9 ∷ 10 ∷ []) ++ map (λ index. of_pool literals (instrs.Literal ldc2_w index)) (1 ∷ 2 ∷ 3 ∷ 4 ∷ 5 ∷ 7 ∷ [])
    ≡ 0 ∷ 0 ∷ 18 ∷ 18 ∷ 18 ∷ 0 ∷ 0 ∷ 0 ∷ 18 ∷ 18 ∷ 18 ∷ 0 ∷ 18 ∷ 0 ∷ 18 ∷ []
unfolding program
loaded = refl

-- multianewarray of the class C, or of its method
abbrev many : ℕ → ℕ
many index = of_pool (pool_of Method (codes "C") (codes "m") (codes "()V")) (instrs.Multi index 1)

-- an instruction takes its own tag
taken : of_pool (pool_of Method (codes "C") (codes "f") (codes "I")) (instrs.Member getfield 6) ∷ of_pool (pool_of Field (codes "C") (codes "m") (codes "()V")) (instrs.Member invokevirtual 6) ∷ of_pool (pool_of Method (codes "C") (codes "m") (codes "()V")) (instrs.Interface 6 1)
    ∷ of_pool (pool_of Field (codes "C") (codes "f") (codes "I")) (instrs.Class checkcast 6) ∷ of_pool literals (instrs.Dynamic 10) ∷ of_pool literals (instrs.Dynamic 9) ∷ many 2 ∷ many 6 ∷ of_pool [] (instrs.Simple nop) ∷ []
    ≡ 18 ∷ 18 ∷ 18 ∷ 18 ∷ 0 ∷ 18 ∷ 0 ∷ 18 ∷ 0 ∷ []
unfolding object_class math_class runnable_class c_class d_class x_class i_class program reads_class_name dims_read name_read class_read of_read type_read params_read field_read return_read method_read desc_read most_classes chain_of interfaces_from interfaces_above field_order resolve_method resolve_field desc_in type_in
taken = refl

-- ---- handlers

abbrev catches : Name → ℕ → ℕ
catches class index = catch_rule program (pool_of Method class (codes "m") (codes "()V")) index

-- a class that is there, any, one that isn't, a text, no constant, and a method
caught : catches (codes "C") 2 ∷ catches (codes "C") 0 ∷ catches (codes "E") 2 ∷ catches (codes "C") 1 ∷ catches (codes "C") 9 ∷ catches (codes "C") 6 ∷ catches (codes "java/lang/Math") 2 ∷ catches (codes "java/util/List") 2 ∷ catches (codes "[LC;") 2 ∷ []
    ≡ 0 ∷ 0 ∷ 18 ∷ 18 ∷ 18 ∷ 18 ∷ 0 ∷ 17 ∷ 0 ∷ []
unfolding object_class math_class runnable_class c_class d_class x_class i_class program reads_class_name dims_read name_read class_read of_read type_read params_read field_read return_read method_read desc_read most_classes chain_of interfaces_from interfaces_above field_order resolve_method resolve_field desc_in type_in
caught = refl
