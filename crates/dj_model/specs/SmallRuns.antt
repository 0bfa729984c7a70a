-- Whole runs of small programs, each with how it ends and what it is charged (JVMS 6.5).
use Rattle.std.specs.Prelude.{◌≡◌, ℕ, Option, List, [], ◌∷◌, ◌++◌, Some, None, codes, pos, ℤ, false}
use Rattle.dj_names.specs.declared.descriptor.Base.TheVariants as bases
use Rattle.dj_names.specs.declared.descriptor.Ty.{Ty}
use Rattle.dj_names.specs.declared.descriptor.Desc.{Desc}
use Rattle.dj_names.specs.declared.descriptor.Desc.TheVariants as descs
use Rattle.dj_names.specs.declared.run.Charge.TheVariants as charges
use Rattle.dj_names.specs.declared.run.Message.TheVariants as messages
use Rattle.dj_names.specs.declared.run.Outcome.{Outcome}
use Rattle.dj_names.specs.declared.run.Outcome.TheVariants as outcomes
use Rattle.dj_names.specs.declared.run.Thresholds.{Thresholds}
use Rattle.dj_names.specs.declared.run.Costs.{Costs}
use Rattle.dj_names.specs.trusted.Types.{Name, class_type, base_array}
use Rattle.dj_names.specs.trusted.Library.{object, string, builder, boolean, int}
use Rattle.dj_edge.specs.declared.host.HostAnswer.{HostAnswer}
use Rattle.dj_edge.specs.declared.host.HostAnswer.TheVariants as host
use Rattle.dj_ops.specs.declared.instruction.Instr.TheVariants as instrs
use Rattle.dj_model.specs.trusted.Types.{Member, Declared}
use Rattle.dj_model.specs.trusted.Instructions.{Named, Nothing, AnInt, AText, AClass, AField, AMethod, AnInterfaceMethod, Instruction}
use Rattle.dj_model.specs.trusted.Opcodes.{instruction_of}
use Rattle.dj_model.specs.trusted.Program.{Class, Field, Constant, Method, Range, Body, Abstract, Runs}
use Rattle.dj_model.specs.Libraries.{metered_program, raw_program, sandbox_program}
use Rattle.dj_model.specs.trusted.State.{Uncounted, Accounted}
use Rattle.dj_model.specs.trusted.Runs.{plain_run}
use Rattle.dj_model.specs.Runs.{RunsTo}
use Rattle.dj_names.specs.Types.{sandbox_prefix, in_sandbox}
use Rattle.dj_ops.specs.Mnemonics.{aconst_null, iconst_m1, iconst_0, iconst_1, sipush, ldc, aload, iload_0, iload_1, iload_2, aload_0, aload_1, aload_3, baload, astore, istore_1, istore_2, astore_0, astore_1, astore_3, bastore, pop, dup, iadd, isub, ifeq, ifne, ifle, if_icmpge, goto, ireturn, areturn, return, getstatic, putstatic, invokevirtual, invokespecial, invokestatic, new, arraylength, athrow}

-- ---- instructions

-- without operands
abbrev pub op : ℕ → Instruction
op n = instruction_of (instrs.Simple n) Nothing

-- bipush and sipush
abbrev pub push : ℕ → ℤ → Instruction
push n z = instruction_of (instrs.Push n z) Nothing

-- a constant that ldc pushes
abbrev pub constant : Named → Instruction
constant named = instruction_of (instrs.Literal ldc 7) named

abbrev pub slot : ℕ → ℕ → Instruction
slot n at = instruction_of (instrs.Local n at false) Nothing

abbrev pub iinc : ℕ → ℤ → Instruction
iinc at by = instruction_of (instrs.Inc at by false) Nothing

abbrev pub jump : ℕ → ℕ → Instruction
jump n target = instruction_of (instrs.Branch n (pos target)) Nothing

abbrev pub newarray : ℕ → Instruction
newarray base = instruction_of (instrs.Array base) Nothing

-- new, anewarray, checkcast and instanceof
abbrev pub class : ℕ → Ty → Instruction
class n ty = instruction_of (instrs.Class n 7) (AClass ty)

abbrev pub member_named : Ty → Name → Desc → Member
member_named ty name desc = record { class = ty; name = name; desc = desc }

abbrev pub method_desc : List Ty → Option Ty → Desc
method_desc params ret = descs.Method params ret

abbrev pub field : ℕ → Ty → Name → Ty → Instruction
field n ty name of = instruction_of (instrs.Member n 7) (AField (member_named ty name (descs.Field of)))

abbrev pub method : ℕ → Ty → Name → List Ty → Option Ty → Instruction
method n ty name params ret = instruction_of (instrs.Member n 7) (AMethod (member_named ty name (method_desc params ret)))

abbrev pub interface_method : ℕ → Ty → Name → List Ty → Option Ty → Instruction
interface_method count ty name params ret = instruction_of (instrs.Interface 7 count) (AnInterfaceMethod (member_named ty name (method_desc params ret)))

-- invokespecial of a constructor
abbrev pub construct : Ty → List Ty → Instruction
construct ty params = method invokespecial ty (codes "<init>") params None

-- ---- programs

abbrev pub byte_array : Ty
byte_array = base_array bases.Byte

abbrev pub a_class : Name
a_class = codes "A"

abbrev pub a_type : Ty
a_type = class_type a_class

abbrev pub verify_of : Name → Declared
verify_of name = record { class = name; name = codes "verify"; desc = method_desc (byte_array ∷ []) (Some byte_array) }

abbrev pub entry : Declared
entry = verify_of a_class

-- stack maps aside, which a run doesn't read
abbrev pub code : List Instruction → List Range → Body
code instructions ranges = Runs (record { max_stack = 10; max_locals = 6; instructions = instructions; ranges = ranges; frames = Some [] })

abbrev pub method_with : ℕ → Name → List Ty → Option Ty → Body → Method
method_with flags name params ret body = record { flags = flags; name = name; desc = method_desc params ret; body = body }

abbrev pub verify_with : List Instruction → List Range → Method
verify_with instructions ranges = method_with 9 (codes "verify") (byte_array ∷ []) (Some byte_array) (code instructions ranges)

abbrev pub initialiser_with : List Instruction → Method
initialiser_with instructions = method_with 8 (codes "<clinit>") [] None (code instructions [])

-- aload_0, invokespecial Object <init>, return
abbrev pub plain_constructor : Method
plain_constructor = method_with 1 (codes "<init>") [] None (code (op aload_0 ∷ construct object [] ∷ op return ∷ []) [])

abbrev pub class_with : Name → List Field → List Method → Class
class_with name fields methods = record {
  name = name;
  flags = 33;
  superclass = Some (codes "java/lang/Object");
  interfaces = [];
  unnamed_fields = 0;
  fields = fields;
  methods = methods;
}

abbrev pub a_with : List Method → Class
a_with methods = class_with a_class [] methods

abbrev pub field_with : ℕ → Name → Ty → Option Constant → Field
field_with flags name ty constant = record { flags = flags; name = name; desc = descs.Field ty; constant = constant }

abbrev pub catch_all : ℕ → ℕ → ℕ → Range
catch_all start end handler = record { start = start; end = end; handler = handler; catches = None }

abbrev pub catch : Name → ℕ → ℕ → ℕ → Range
catch name start end handler = record { start = start; end = end; handler = handler; catches = Some (AClass (class_type name)) }

-- ---- metered runs

abbrev pub costs : ℕ → ℕ → ℕ → ℕ → Costs
costs alloc invoke jump throw = record { alloc = alloc; invoke = invoke; jump = jump; throw = throw }

abbrev pub at_most : ℕ → ℕ → ℕ → ℕ → Thresholds
at_most alloc invoke jump throw = record { alloc = alloc; invoke = invoke; jump = jump; throw = throw }

abbrev pub usual : Thresholds
usual = at_most 67108864 1000000 1000000 1000000

-- verify of the class A, on this input, ends so
abbrev pub Meters : List Class → List ℕ → Thresholds → Outcome → Costs → Type 0
Meters classes input most outcome charged = RunsTo (metered_program classes) entry input most outcome charged

abbrev pub lang_name : Name → Name
lang_name name = codes "java/lang/" ++ name

abbrev pub throws_plainly : Name → Outcome
throws_plainly name = outcomes.Threw (lang_name name) messages.Null

-- the sum of the input's bytes, in a loop
abbrev pub sum_class : Class
sum_class = a_with (verify_with
    (op iconst_0 ∷ op istore_1 ∷ op iconst_0 ∷ op istore_2 ∷ op iload_2 ∷ op aload_0 ∷ op arraylength ∷ jump if_icmpge 16 ∷ op iload_1 ∷ op aload_0 ∷ op iload_2 ∷ op baload ∷ op iadd ∷ op istore_1 ∷ iinc 2 (pos 1) ∷ jump goto 4
    ∷ op iconst_1 ∷ newarray 8 ∷ op dup ∷ op iconst_0 ∷ op iload_1 ∷ op bastore ∷ op areturn ∷ []) [] ∷ [])

abbrev pub negative_class : Class
negative_class = a_with (verify_with (op iconst_m1 ∷ newarray 8 ∷ op areturn ∷ []) [] ∷ [])

-- a loop under a handler that catches everything, called from another
abbrev pub stopped_class : Class
stopped_class = a_with
    (method_with 9 (codes "f") [] None (code (jump goto 0 ∷ op astore_0 ∷ op aload_0 ∷ op athrow ∷ []) (catch_all 0 2 1 ∷ []))
    ∷ verify_with (method invokestatic a_type (codes "f") [] None ∷ op aload_0 ∷ op areturn ∷ op astore_1 ∷ op aload_1 ∷ op athrow ∷ []) (catch_all 0 4 3 ∷ []) ∷ [])

-- a handler before what it catches
abbrev pub again_class : Class
again_class = a_with (verify_with (op aconst_null ∷ op pop ∷ op aconst_null ∷ op arraylength ∷ op pop ∷ op aload_0 ∷ op areturn ∷ []) (catch_all 2 4 1 ∷ []) ∷ [])

-- the number of the third object
abbrev pub hash_class : Class
hash_class = a_with (verify_with
    (class new object ∷ op dup ∷ construct object [] ∷ op pop ∷ class new object ∷ op dup ∷ construct object [] ∷ method invokevirtual object (codes "hashCode") [] (Some int) ∷ op istore_1
    ∷ op iconst_1 ∷ newarray 8 ∷ op dup ∷ op iconst_0 ∷ op iload_1 ∷ op bastore ∷ op areturn ∷ []) [] ∷ [])

-- the length of a literal
abbrev pub literal_class : Class
literal_class = class_with (codes "a/B") [] (verify_with
    (op iconst_1 ∷ newarray 8 ∷ op dup ∷ op iconst_0 ∷ constant (AText (codes "a/B")) ∷ method invokevirtual string (codes "length") [] (Some int) ∷ op bastore ∷ op areturn ∷ []) [] ∷ [])

-- an object of a class with an initialiser
abbrev pub c_type : Ty
c_type = class_type (codes "C")

abbrev pub new_class : Class
new_class = a_with (verify_with (class new c_type ∷ op dup ∷ construct c_type [] ∷ op pop ∷ op aload_0 ∷ op areturn ∷ []) [] ∷ [])

abbrev pub c_class : List Instruction → Class
c_class initialiser = class_with (codes "C") [] (plain_constructor ∷ initialiser_with initialiser ∷ [])

-- a method that calls itself as often as its argument says
abbrev pub deep_class : ℤ → Class
deep_class n = a_with
    (method_with 9 (codes "f") (int ∷ []) None
    (code (op iload_0 ∷ jump ifeq 6 ∷ op iload_0 ∷ op iconst_1 ∷ op isub ∷ method invokestatic a_type (codes "f") (int ∷ []) None ∷ op return ∷ []) [])
    ∷ verify_with (push sipush n ∷ method invokestatic a_type (codes "f") (int ∷ []) None ∷ op aload_0 ∷ op areturn ∷ []) [] ∷ [])

-- a string's method on an array
abbrev pub wrong_class : Class
wrong_class = a_with (verify_with (op aload_0 ∷ method invokevirtual string (codes "length") [] (Some int) ∷ op pop ∷ op aload_0 ∷ op areturn ∷ []) [] ∷ [])

-- an interface, a class that implements it, and code with a finally, whose handler covers itself
abbrev pub check_type : Ty
check_type = class_type (codes "a/Check")

abbrev pub check_class : Class
check_class = record (class_with (codes "a/Check") [] (method_with 1025 (codes "ok") (int ∷ []) (Some boolean) Abstract ∷ [])) { flags = 1537 }

abbrev pub positive_type : Ty
positive_type = class_type (codes "a/Positive")

abbrev pub positive_class : Class
positive_class = record (class_with (codes "a/Positive") [] (plain_constructor
    ∷ method_with 1 (codes "ok") (int ∷ []) (Some boolean) (code (op iload_1 ∷ jump ifle 4 ∷ op iconst_1 ∷ jump goto 5 ∷ op iconst_0 ∷ op ireturn ∷ []) []) ∷ [])) { interfaces = codes "a/Check" ∷ [] }

abbrev pub pay_type : Ty
pay_type = class_type (codes "a/Pay")

abbrev pub illegal_type : Ty
illegal_type = class_type (lang_name (codes "IllegalArgumentException"))

abbrev pub pay_class : Class
pay_class = class_with (codes "a/Pay") (field_with 8 (codes "total") int None ∷ []) (verify_with
    (class new positive_type ∷ op dup ∷ construct positive_type [] ∷ op astore_1
    ∷ op aload_0 ∷ op iconst_0 ∷ op baload ∷ op istore_2 ∷ op aload_1 ∷ op iload_2 ∷ interface_method 2 check_type (codes "ok") (int ∷ []) (Some boolean) ∷ jump ifne 24
    ∷ class new illegal_type ∷ op dup ∷ class new builder ∷ op dup ∷ construct builder [] ∷ constant (AText (codes "bad amount "))
    ∷ method invokevirtual builder (codes "append") (string ∷ []) (Some builder) ∷ op iload_2 ∷ method invokevirtual builder (codes "append") (int ∷ []) (Some builder)
    ∷ method invokevirtual builder (codes "toString") [] (Some string) ∷ construct illegal_type (string ∷ []) ∷ op athrow
    ∷ op aload_0 ∷ op astore_3 ∷ field getstatic pay_type (codes "total") int ∷ op iconst_1 ∷ op iadd ∷ field putstatic pay_type (codes "total") int ∷ op aload_3 ∷ op areturn
    ∷ slot astore 4 ∷ field getstatic pay_type (codes "total") int ∷ op iconst_1 ∷ op iadd ∷ field putstatic pay_type (codes "total") int ∷ slot aload 4 ∷ op athrow ∷ [])
    (catch_all 4 26 32 ∷ catch_all 32 33 32 ∷ []) ∷ [])

pub record WorkedMetered : Type 0 where
  pub sum : Meters (sum_class ∷ []) (1 ∷ 2 ∷ 3 ∷ []) usual (outcomes.OkBytes (6 ∷ [])) (costs 24 0 7 0)
  pub negative : Meters (negative_class ∷ []) [] usual (throws_plainly (codes "NegativeArraySizeException")) (costs 0 0 0 0)
  pub stopped : Meters (stopped_class ∷ []) [] (at_most 67108864 1000000 2 1000000) (outcomes.Stopped charges.Jump) (costs 0 1 3 0)
  pub again : Meters (again_class ∷ []) [] (at_most 67108864 1000000 1000000 5) (outcomes.Stopped charges.Throw) (costs 0 0 0 6)
  pub hash : Meters (hash_class ∷ []) [] usual (outcomes.OkBytes (3 ∷ [])) (costs 56 3 0 0)
  pub literal : RunsTo (metered_program (literal_class ∷ [])) (verify_of (codes "a/B")) [] usual (outcomes.OkBytes (3 ∷ [])) (costs 24 1 0 0)
  -- with an initialiser that returns, and with one that throws null
  pub initialised : Meters (new_class ∷ c_class (op return ∷ []) ∷ []) (1 ∷ []) usual (outcomes.OkBytes (1 ∷ [])) (costs 16 2 0 0)
  pub failed : Meters (new_class ∷ c_class (op aconst_null ∷ op athrow ∷ []) ∷ []) (1 ∷ []) usual
      (outcomes.Init (codes "C") (lang_name (codes "NullPointerException")) messages.Null) (costs 16 0 0 1)
  pub deep : Meters (deep_class (pos 3) ∷ []) (1 ∷ []) usual (outcomes.OkBytes (1 ∷ [])) (costs 0 4 4 0)
  pub deepest : Meters (deep_class (pos 1022) ∷ []) (1 ∷ []) usual (outcomes.OkBytes (1 ∷ [])) (costs 0 1023 1023 0)
  pub too_deep : Meters (deep_class (pos 1023) ∷ []) (1 ∷ []) usual outcomes.TooDeep (costs 0 1024 1023 0)
  pub finally : RunsTo (metered_program (check_class ∷ pay_class ∷ positive_class ∷ [])) (verify_of (codes "a/Pay")) (251 ∷ []) usual
      (outcomes.Threw (lang_name (codes "IllegalArgumentException")) (messages.Text (codes "bad amount -5"))) (costs 208 8 2 3)
  pub wrong : Meters (wrong_class ∷ []) [] usual outcomes.Link (costs 0 1 0 0)

-- ---- plain runs

-- under the host's answers, with at most this many steps
abbrev pub Raws : List Class → List ℕ → List HostAnswer → ℕ → Outcome → ℕ → ℕ → Type 0
Raws classes input answers most outcome steps taken =
    plain_run (raw_program classes) [] (record { limit = Some 67108864; counting = Uncounted }) entry input answers most
    ≡ Some (record { outcome = outcome; costs = costs 0 0 0 0; steps = steps; taken = taken })

-- a large array, and a loop
abbrev pub large_class : Class
large_class = a_with (verify_with (constant (AnInt (pos 67108864)) ∷ newarray 8 ∷ op areturn ∷ []) [] ∷ [])

abbrev pub loop_class : Class
loop_class = a_with (verify_with (jump goto 0 ∷ []) [] ∷ [])

-- rewritten code: two jumps are recorded
abbrev pub recording_class : Class
recording_class = record (class_with (in_sandbox a_class) [] (verify_with
    (method invokestatic (class_type (codes "djvm/Accounter")) (codes "recordJump") [] None ∷ method invokestatic (class_type (codes "djvm/Accounter")) (codes "recordJump") [] None
    ∷ op aload_0 ∷ op areturn ∷ []) [] ∷ [])) { superclass = Some (codes "sandbox/java/lang/Object") }

abbrev pub Records : ℕ → Outcome → ℕ → ℕ → Type 0
Records most outcome jumps steps =
    plain_run (sandbox_program (recording_class ∷ [])) sandbox_prefix (record { limit = Some 1000; counting = Accounted (at_most 100 100 most 100) })
    (verify_of (in_sandbox a_class)) [] [] 100
    ≡ Some (record { outcome = outcome; costs = costs 0 0 jumps 0; steps = steps; taken = 0 })

pub record WorkedPlain : Type 0 where
  pub seven : Raws (hash_class ∷ []) [] (host.Word (pos 7) ∷ []) 1000 (outcomes.OkBytes (7 ∷ [])) 16 1
  pub eight : Raws (hash_class ∷ []) [] (host.Word (pos 8) ∷ host.Word (pos 9) ∷ []) 1000 (outcomes.OkBytes (8 ∷ [])) 16 1
  pub full : Raws (large_class ∷ []) [] [] 1000 (outcomes.HeapFull 16 67108880) 2 0
  pub out_of_steps : Raws (loop_class ∷ []) [] [] 5 (outcomes.OutOfSteps 5) 5 0
  pub no_steps : Raws (loop_class ∷ []) [] [] 0 (outcomes.OutOfSteps 0) 0 0
  pub recorded : Records 2 (outcomes.OkBytes []) 2 4
  pub stopped : Records 1 (outcomes.Stopped charges.Jump) 2 2

pub record WorkedRuns : Type 0 where
  pub metered : WorkedMetered
  pub plain : WorkedPlain
