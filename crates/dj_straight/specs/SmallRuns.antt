-- Whole runs of small programs, each with what it returns or raises and what it is charged (JVMS 6.5).
use Rattle.std.specs.Prelude.{◌≡◌, ℕ, ℤ, Option, Result, Ok, Err, List, [], ◌∷◌, ◌++◌, map, Some, None, codes, pos, negsuc, false}
use Rattle.dj_names.specs.declared.run.Value.{Value}
use Rattle.dj_names.specs.declared.run.Value.TheVariants as values
use Rattle.dj_names.specs.declared.run.Charge.TheVariants as charges
use Rattle.dj_names.specs.declared.run.Message.TheVariants as messages
use Rattle.dj_names.specs.declared.run.Outcome.{Outcome}
use Rattle.dj_names.specs.declared.run.Outcome.TheVariants as outcomes
use Rattle.dj_names.specs.declared.run.Raised.{Raised}
use Rattle.dj_names.specs.declared.run.Raised.TheVariants as raises
use Rattle.dj_names.specs.declared.run.Thresholds.{Thresholds}
use Rattle.dj_names.specs.declared.run.Costs.{Costs}
use Rattle.dj_names.specs.trusted.Values.{raised_class}
use Rattle.dj_straight.specs.trusted.Objects.{Object, Text as TextObject}
use Rattle.dj_ops.specs.declared.instruction.Instr.{Instr}
use Rattle.dj_ops.specs.declared.instruction.Instr.TheVariants as instrs
use Rattle.dj_straight.specs.trusted.Instructions.{instruction_of}
use Rattle.dj_straight.specs.trusted.Program.{Name, Class, Field, Constant, Int, Long, Text, Program, Method, Range, Runs, MethodName}
use Rattle.dj_straight.specs.trusted.Effects.{Terms}
use Rattle.dj_straight.specs.trusted.Step.{Answer, Went, Ended, IllFormed}
use Rattle.dj_straight.specs.trusted.Metered.{RunsTo, run, Stuck, begin, input_array, metered_terms}
use Rattle.dj_ops.specs.Mnemonics.{nop, aconst_null, iconst_m1, iconst_0, iconst_1, iconst_2, iconst_3, iconst_4, iconst_5, bipush, sipush, iload, aload, iload_2, aload_0, aload_1, baload, istore, astore, istore_2, astore_1, bastore, pop, dup, iadd, isub, imul, iand, ior, ixor, areturn, arraylength}

-- ---- programs of one class

abbrev pub entry : MethodName
entry = record { class = codes "A"; name = codes "verify"; desc = codes "([B)[B" }

-- the static method with this name, descriptor, code and handlers
abbrev pub method_with : Name → Name → List Instr → List Range → Method
method_with name desc code ranges = record {
  flags = 9;
  name = name;
  desc = desc;
  body = Runs (record { max_stack = 6; max_locals = 3; instructions = map instruction_of code; ranges = ranges; frames = Some [] });
}

abbrev pub verify_with : List Instr → List Range → Method
verify_with code ranges = method_with entry.name entry.desc code ranges

abbrev pub initialiser_with : List Instr → Method
initialiser_with code = method_with (codes "<clinit>") (codes "()V") code []

-- the class A with these methods
abbrev pub class_with : List Method → Class
class_with methods = record {
  name = entry.class;
  flags = 33;
  superclass = Some (codes "java/lang/Object");
  interfaces = [];
  fields = [];
  methods = methods;
}

-- no more than this many bytes may be charged
abbrev pub bytes_at_most : ℕ → Thresholds
bytes_at_most n = record { alloc = n; invoke = 1000000; jump = 1000000; throw = 1000000 }

abbrev pub bytes_cost : ℕ → Costs
bytes_cost n = record { alloc = n; invoke = 0; jump = 0; throw = 0 }

-- the code, run on the input under this threshold of bytes, ends with this outcome, and this many bytes are charged
abbrev pub RunsCode : List Instr → List ℕ → ℕ → Outcome → ℕ → Type 0
RunsCode code input most outcome bytes =
    RunsTo (class_with (verify_with code [] ∷ []) ∷ []) entry input (bytes_at_most most) outcome (bytes_cost bytes)

-- the code returns these bytes
abbrev pub Returns : List Instr → List ℕ → List ℕ → ℕ → Type 0
Returns code input output bytes = RunsCode code input 67108864 (outcomes.OkBytes output) bytes

-- the code ends with this exception, and nothing was charged
abbrev pub Raises : List Instr → List ℕ → Raised → Type 0
Raises code input raised = RunsCode code input 67108864 (outcomes.Threw (raised_class raised) messages.Null) 0

-- no more than this many throws may be charged
abbrev pub throws_at_most : ℕ → Thresholds
throws_at_most n = record { alloc = 1000; invoke = 1000; jump = 1000; throw = n }

abbrev pub throws_cost : ℕ → Costs
throws_cost n = record { alloc = 0; invoke = 0; jump = 0; throw = n }

-- verify, in this program, run on the byte 1 where no more than five throws may be charged, ends so, and this many are charged (stack maps
-- aside, which a run doesn't read)
abbrev pub RunsProgram : Program → Outcome → ℕ → Type 0
RunsProgram program outcome throws = RunsTo program entry (1 ∷ []) (throws_at_most 5) outcome (throws_cost throws)

-- the same, in the class with these methods
abbrev pub RunsMethods : List Method → Outcome → ℕ → Type 0
RunsMethods methods outcome throws = RunsProgram (class_with methods ∷ []) outcome throws

-- verify with this code doesn't end: an instruction doesn't find what it takes
abbrev pub SticksAfter : List Instr → List Range → ℕ → Type 0
SticksAfter code ranges turns = run (class_with (verify_with code ranges ∷ []) ∷ []) entry (1 ∷ []) (throws_at_most 5) turns ≡ Stuck

-- a class without methods, below another
abbrev pub class_below : Name → Name → Class
class_below name above = record (class_with []) { name = name; superclass = Some above }

-- an instruction without operands
abbrev pub op : ℕ → Instr
op n = instrs.Simple n

-- a number that is pushed
abbrev pub push : ℕ → ℤ → Instr
push = instrs.Push

-- a local variable is loaded or stored
abbrev pub slot : ℕ → ℕ → Instr
slot n place = instrs.Local n place false

abbrev pub newarray_byte : Instr
newarray_byte = instrs.Array 8

-- iconst_1, newarray byte, dup, iconst_0, these, bastore, areturn: these push an int, whose low byte is returned
abbrev pub Pushes : List Instr → List ℕ → ℕ → Type 0
Pushes code input byte =
    Returns (op iconst_1 ∷ newarray_byte ∷ op dup ∷ op iconst_0 ∷ code ++ op bastore ∷ op areturn ∷ []) input (byte ∷ []) 24

-- ---- the runs

-- what is returned, and local variables
pub record WorkedReturns : Type 0 where
  pub same_input : Returns (op aload_0 ∷ op areturn ∷ []) (10 ∷ 11 ∷ []) (10 ∷ 11 ∷ []) 0
  pub no_input : Returns (op aload_0 ∷ op areturn ∷ []) [] [] 0
  pub null : RunsCode (op aconst_null ∷ op areturn ∷ []) (1 ∷ []) 67108864 outcomes.OkNull 0
  pub popped : Returns (op nop ∷ op iconst_3 ∷ op pop ∷ op aload_0 ∷ op areturn ∷ []) (9 ∷ []) (9 ∷ []) 0
  pub other_slot : Returns (op aload_0 ∷ op astore_1 ∷ op aload_1 ∷ op areturn ∷ []) (9 ∷ []) (9 ∷ []) 0
  pub int_slot : Pushes (push bipush (pos 7) ∷ op istore_2 ∷ op iload_2 ∷ []) [] 7
  pub reported_slot : Pushes (push bipush (pos 7) ∷ slot istore 2 ∷ slot iload 2 ∷ []) [] 7
  pub reported_reference : Returns (slot aload 0 ∷ slot astore 2 ∷ slot aload 2 ∷ op areturn ∷ []) (9 ∷ []) (9 ∷ []) 0

-- ints
pub record WorkedInts : Type 0 where
  pub low_byte : Pushes (push sipush (pos 300) ∷ []) [] 44
  pub low_byte_negative : Pushes (push sipush (negsuc 299) ∷ []) [] 212
  pub doubled : Pushes (op iconst_5 ∷ op dup ∷ op iadd ∷ []) [] 10
  pub added : Pushes (push bipush (pos 100) ∷ op dup ∷ op iadd ∷ []) [] 200
  pub subtracted : Pushes (op iconst_2 ∷ op iconst_5 ∷ op isub ∷ []) [] 253
  pub multiplied : Pushes (push bipush (negsuc 2) ∷ op iconst_5 ∷ op imul ∷ []) [] 241
  pub and : Pushes (push bipush (pos 12) ∷ push bipush (pos 10) ∷ op iand ∷ []) [] 8
  pub and_negative : Pushes (op iconst_m1 ∷ push bipush (pos 100) ∷ op iand ∷ []) [] 100
  pub or : Pushes (push bipush (pos 12) ∷ push bipush (pos 10) ∷ op ior ∷ []) [] 14
  pub or_negative : Pushes (push bipush (negsuc 127) ∷ op iconst_1 ∷ op ior ∷ []) [] 129
  pub xor : Pushes (push bipush (pos 12) ∷ push bipush (pos 10) ∷ op ixor ∷ []) [] 6
  pub xor_negative : Pushes (op iconst_m1 ∷ push bipush (pos 85) ∷ op ixor ∷ []) [] 170
  -- sipush -32768, dup, imul, iconst_4, imul, newarray byte, areturn: 2 to the power of 32 wraps to 0
  pub wraps_to_zero : Returns (push sipush (negsuc 32767) ∷ op dup ∷ op imul ∷ op iconst_4 ∷ op imul ∷ newarray_byte ∷ op areturn ∷ []) [] [] 16
  -- sipush -32768, dup, imul, dup, iadd, newarray byte, areturn: 2 to the power of 31 wraps to a negative
  pub wraps_to_negative : Raises
      (push sipush (negsuc 32767) ∷ op dup ∷ op imul ∷ op dup ∷ op iadd ∷ newarray_byte ∷ op areturn ∷ []) [] raises.NegativeArraySize

-- arrays
pub record WorkedArrays : Type 0 where
  pub loaded : Pushes (op aload_0 ∷ op iconst_1 ∷ op baload ∷ []) (7 ∷ (8 ∷ [])) 8
  -- aload_0, iconst_0, baload, bipush 100, isub, on the byte -5: bytes have a sign
  pub sign : Pushes (op aload_0 ∷ op iconst_0 ∷ op baload ∷ push bipush (pos 100) ∷ op isub ∷ []) (251 ∷ []) 151
  pub stored : Returns (op aload_0 ∷ op iconst_1 ∷ push bipush (pos 65) ∷ op bastore ∷ op aload_0 ∷ op areturn ∷ []) (1 ∷ (2 ∷ [])) (1 ∷ (65 ∷ [])) 0
  pub counted : Pushes (op aload_0 ∷ op arraylength ∷ []) (7 ∷ (8 ∷ (9 ∷ []))) 3
  pub loads_outside : Raises (op aload_0 ∷ op iconst_1 ∷ op baload ∷ op pop ∷ op aload_0 ∷ op areturn ∷ []) (7 ∷ []) raises.ArrayIndexOutOfBounds
  pub loads_negative : Raises (op aload_0 ∷ op iconst_m1 ∷ op baload ∷ op pop ∷ op aload_0 ∷ op areturn ∷ []) (7 ∷ []) raises.ArrayIndexOutOfBounds
  pub stores_outside : Raises (op aload_0 ∷ op iconst_1 ∷ op iconst_0 ∷ op bastore ∷ op aload_0 ∷ op areturn ∷ []) (7 ∷ []) raises.ArrayIndexOutOfBounds
  -- aconst_null, iconst_m1, baload, pop, aload_0, areturn: null is tested first
  pub loads_null : Raises (op aconst_null ∷ op iconst_m1 ∷ op baload ∷ op pop ∷ op aload_0 ∷ op areturn ∷ []) [] raises.NullPointer
  pub stores_null : Raises (op aconst_null ∷ op iconst_m1 ∷ op iconst_0 ∷ op bastore ∷ op aload_0 ∷ op areturn ∷ []) [] raises.NullPointer
  pub counts_null : Raises (op aconst_null ∷ op arraylength ∷ op pop ∷ op aload_0 ∷ op areturn ∷ []) [] raises.NullPointer
  pub negative_size : Raises (op iconst_m1 ∷ newarray_byte ∷ op areturn ∷ []) [] raises.NegativeArraySize

-- what is charged
pub record WorkedCharges : Type 0 where
  pub no_bytes : Returns (op iconst_0 ∷ newarray_byte ∷ op areturn ∷ []) [] [] 16
  pub not_rounded : Returns (push sipush (pos 1000) ∷ newarray_byte ∷ op pop ∷ op aload_0 ∷ op areturn ∷ []) [] [] 1016
  pub rounded_up : Returns (push sipush (pos 1001) ∷ newarray_byte ∷ op pop ∷ op aload_0 ∷ op areturn ∷ []) [] [] 1024
  -- iconst_1, newarray byte, areturn where no more than 24 bytes may be charged, and where no more than 23 may
  pub at_threshold : RunsCode (op iconst_1 ∷ newarray_byte ∷ op areturn ∷ []) [] 24 (outcomes.OkBytes (0 ∷ [])) 24
  pub above_threshold : RunsCode (op iconst_1 ∷ newarray_byte ∷ op areturn ∷ []) [] 23 (outcomes.Stopped charges.Alloc) 24
  -- iconst_1, newarray byte, pop, iconst_1, newarray byte, areturn where no more than 48 bytes may be charged,
  -- and where no more than 47 may
  pub sum_at_threshold : RunsCode (op iconst_1 ∷ newarray_byte ∷ op pop ∷ op iconst_1 ∷ newarray_byte ∷ op areturn ∷ []) [] 48 (outcomes.OkBytes (0 ∷ [])) 48
  pub sum_above_threshold : RunsCode
      (op iconst_1 ∷ newarray_byte ∷ op pop ∷ op iconst_1 ∷ newarray_byte ∷ op areturn ∷ []) [] 47 (outcomes.Stopped charges.Alloc) 48

abbrev pub null_pointer : Name
null_pointer = raised_class raises.NullPointer

-- handlers and an initialiser
pub record WorkedHandlers : Type 0 where
  -- aconst_null, pop, aconst_null, arraylength, pop, aload_0, areturn, where what the arraylength raises is caught at the first pop,
  -- time and again: the pop is charged each time, the first included
  pub again : RunsMethods (verify_with (op aconst_null ∷ op pop ∷ op aconst_null ∷ op arraylength ∷ op pop ∷ op aload_0 ∷ op areturn ∷ [])
      (record { start = 2; end = 4; handler = 1; catches = None } ∷ []) ∷ []) (outcomes.Stopped charges.Throw) 6
  -- aconst_null, arraylength, pop, aload_0, areturn: the first range doesn't hold the arraylength, the second catches another class, and
  -- the third catches at the pop; the areturn is the first of a handler too
  pub by_class : RunsMethods (verify_with (op aconst_null ∷ op arraylength ∷ op pop ∷ op aload_0 ∷ op areturn ∷ [])
      (record { start = 0; end = 1; handler = 4; catches = None }
      ∷ record { start = 1; end = 2; handler = 4; catches = Some (codes "X") }
      ∷ record { start = 1; end = 2; handler = 2; catches = Some null_pointer } ∷ []) ∷ []) (outcomes.OkBytes (1 ∷ [])) 2
  -- aconst_null, arraylength, and then pop, aload_0, areturn, or else pop, aconst_null, areturn: of two ranges that catch the first decides
  pub first_range : RunsMethods (verify_with (op aconst_null ∷ op arraylength ∷ op pop ∷ op aload_0 ∷ op areturn ∷ op pop ∷ op aconst_null ∷ op areturn ∷ [])
      (record { start = 1; end = 2; handler = 2; catches = None } ∷ record { start = 1; end = 2; handler = 5; catches = None } ∷ []) ∷ [])
      (outcomes.OkBytes (1 ∷ [])) 1
  -- the same, where the first range catches a class below the exception's, and the second one above it
  pub superclass_caught : RunsProgram
      (class_with (verify_with (op aconst_null ∷ op arraylength ∷ op pop ∷ op aload_0 ∷ op areturn ∷ op pop ∷ op aconst_null ∷ op areturn ∷ [])
      (record { start = 1; end = 2; handler = 2; catches = Some (codes "L") }
      ∷ record { start = 1; end = 2; handler = 5; catches = Some (codes "H") } ∷ []) ∷ [])
      ∷ class_below (codes "L") null_pointer ∷ class_below null_pointer (codes "M") ∷ class_below (codes "M") (codes "H") ∷ []) outcomes.OkNull 1
  -- iconst_0, aconst_null, arraylength, pop, pop: at the handler the exception is the one operand, so the second pop finds none
  pub one_operand : SticksAfter (op iconst_0 ∷ op aconst_null ∷ op arraylength ∷ op pop ∷ op pop ∷ op aload_0 ∷ op areturn ∷ [])
      (record { start = 2; end = 3; handler = 3; catches = None } ∷ []) 10
  -- iconst_1, newarray byte, areturn, where the newarray is the first of a handler: the throw is charged before the bytes
  pub throw_before_bytes : RunsTo
      (class_with (verify_with (op iconst_1 ∷ newarray_byte ∷ op areturn ∷ []) (record { start = 0; end = 1; handler = 1; catches = None } ∷ []) ∷ []) ∷ [])
      entry [] (record (throws_at_most 0) { alloc = 24 }) (outcomes.Stopped charges.Throw) (throws_cost 1)
  pub bytes_after_throw : RunsTo
      (class_with (verify_with (op iconst_1 ∷ newarray_byte ∷ op areturn ∷ []) (record { start = 0; end = 1; handler = 1; catches = None } ∷ []) ∷ []) ∷ [])
      entry [] (record (throws_at_most 1) { alloc = 23 }) (outcomes.Stopped charges.Alloc) (record (throws_cost 1) { alloc = 24 })
  -- aload_0, areturn, and in the initialisers of A and of B above it aconst_null, arraylength: B's runs first
  pub highest_initialiser : RunsProgram
      (record (class_with (verify_with (op aload_0 ∷ op areturn ∷ []) [] ∷ initialiser_with (op aconst_null ∷ op arraylength ∷ []) ∷ [])) { superclass = Some (codes "B") }
      ∷ record (class_with (initialiser_with (op aconst_null ∷ op arraylength ∷ []) ∷ [])) { name = codes "B" } ∷ [])
      (outcomes.Init (codes "B") null_pointer messages.Null) 0
  -- aload_0, areturn, and in the initialiser aconst_null, arraylength
  pub by_initialiser : RunsMethods (verify_with (op aload_0 ∷ op areturn ∷ []) [] ∷ initialiser_with (op aconst_null ∷ op arraylength ∷ []) ∷ [])
      (outcomes.Init (codes "A") null_pointer messages.Null) 0

-- ---- beginnings

abbrev pub field_with : ℕ → Name → Name → Option Constant → Field
field_with flags name desc constant = record { flags = flags; name = name; desc = desc; constant = constant }

abbrev pub text_desc : Name
text_desc = codes "Ljava/lang/String;"

-- A with an int, a long, twice the text ab, an array without constant, and a field of its instances, whose constant counts for nothing
abbrev pub class_with_constants : Class
class_with_constants = record (class_with []) {
  fields =
      field_with 8 (codes "i") (codes "I") (Some (Int (pos 7)))
      ∷ field_with 8 (codes "j") (codes "J") (Some (Long (pos 5)))
      ∷ field_with 24 (codes "s") text_desc (Some (Text (codes "ab")))
      ∷ field_with 24 (codes "t") text_desc (Some (Text (codes "ab")))
      ∷ field_with 8 (codes "a") (codes "[B") None
      ∷ field_with 0 (codes "x") (codes "I") (Some (Int (pos 3)))
      ∷ [];
}

-- A below B, each with an initialiser
abbrev pub two_classes : Program
two_classes =
    record (class_with (initialiser_with [] ∷ [])) { superclass = Some (codes "B") }
    ∷ record (class_with (initialiser_with [] ∷ [])) { name = codes "B" }
    ∷ []

abbrev pub limited_to : ℕ → Terms
limited_to bytes = record (metered_terms (bytes_at_most 1000)) { limit = Some bytes }

-- the state in which a run begins, or its outcome where it has ended
pub record Beginning : Type 0 where
  pub statics : List Value
  pub objects : List Object
  pub used : ℕ
  pub initialised : List Name
  -- the classes of the frames' methods, the top first
  pub frames : List Name

abbrev pub beginning : Program → List ℕ → ℕ → Result Beginning Outcome
beginning program input bytes = seen (begin program entry input (limited_to bytes)) where
  seen : Answer → Result Beginning Outcome
  seen (Went s) = Ok (record {
    statics = map (λ static. static.value) s.statics;
    objects = s.heap.objects;
    used = s.heap.used;
    initialised = s.initialised;
    frames = map (λ f. f.method.class) s.frames;
  })
  seen (Ended outcome s) = Err outcome
  seen IllFormed = Err outcomes.Link

pub record WorkedBeginnings : Type 0 where
  -- a text is made once, and takes 24 bytes
  pub constants : beginning (class_with_constants ∷ []) (1 ∷ []) 48 ≡ Ok (record {
    statics = values.Int (pos 7) ∷ values.Long (pos 5) ∷ values.Ref 2 ∷ values.Ref 2 ∷ values.Ref 0 ∷ [];
    objects = input_array (1 ∷ []) ∷ TextObject (codes "ab") ∷ [];
    used = 48;
    initialised = codes "java/lang/Object" ∷ codes "A" ∷ [];
    frames = codes "A" ∷ [];
  })
  -- a byte less than the text needs, and a byte less than the input needs
  pub no_room_for_text : beginning (class_with_constants ∷ []) (1 ∷ []) 47 ≡ Err (outcomes.HeapFull 24 24)
  pub no_room_for_input : beginning (class_with_constants ∷ []) (1 ∷ []) 23 ≡ Err (outcomes.HeapFull 0 24)
  -- the superclass's initialiser is on top
  pub superclass_first : beginning two_classes [] 16 ≡ Ok (record {
    statics = [];
    objects = input_array [] ∷ [];
    used = 16;
    initialised = codes "java/lang/Object" ∷ codes "B" ∷ codes "A" ∷ [];
    frames = codes "B" ∷ codes "A" ∷ codes "A" ∷ [];
  })

pub record WorkedRuns : Type 0 where
  pub returns : WorkedReturns
  pub ints : WorkedInts
  pub arrays : WorkedArrays
  pub charges : WorkedCharges
  pub handlers : WorkedHandlers
  pub beginnings : WorkedBeginnings
