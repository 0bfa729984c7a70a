-- Whole files, at plain values.
use Rattle.std.proofs.Common.{◌≡◌, pos, List, [], ◌∷◌, Some, None, codes, refl, arith}
use Rattle.dj_ops.specs.declared.instruction.Instr.TheVariants as instrs
use Rattle.dj_ops.specs.trusted.Forms.{form_of}
use Rattle.dj_ops.specs.Mnemonics.{aload_0, areturn}
use Rattle.dj_labels.specs.declared.labelled.Labelled.{Labelled}
use Rattle.dj_layout.specs.declared.laid.Laid.{Laid}
use Rattle.dj_layout.specs.trusted.Layouts.{IsLaidOut}
use Rattle.dj_pool.specs.trusted.Pool as pool
use Rattle.dj_pool.specs.trusted.Pool.{Constant, Utf8, indexed}
use Rattle.dj_class.specs.trusted.ClassFile.{MemberInfo, ClassFile, class_bytes}
use Rattle.dj_class.specs.trusted.Code.{CodeInfo}
use Rattle.dj_asm_source.specs.trusted.Lines.{LongValue, Plain}
use Rattle.dj_asm_source.specs.trusted.Sources.{Source, Step, Bodiless, Coded, body_lines}
use Rattle.dj_asm_pool.specs.trusted.Entries.{each_once, index_of}
use Rattle.dj_asm_pool.specs.trusted.Needs.{methods_needs, index_in}
use Rattle.dj_asm.specs.trusted.Codes.{frames_in, IsCodeOf}
use Rattle.dj_asm.specs.trusted.Files.{places_of, IsFileOf}

-- ---- a class that returns its input

abbrev straight : Source
straight = record {
  flags = 33;
  name = codes "A";
  version = None;
  super = codes "java/lang/Object";
  interfaces = [];
  fields = [];
  methods = Coded 9 (codes "verify") (codes "([B)[B") (pos 1) (pos 1) (Step (Plain aload_0) ∷ Step (Plain areturn) ∷ []) ∷ [];
}

abbrev labelled : Labelled
labelled = record { code = instrs.Simple aload_0 ∷ instrs.Simple areturn ∷ []; ranges = [] }

abbrev laid : Laid
laid = record { code = aload_0 ∷ areturn ∷ []; starts = 0 ∷ 1 ∷ []; table = [] }

laid_out : IsLaidOut labelled laid
unfolding form_of
laid_out = record {
  starts = refl;
  code = refl;
  short = omega arith;
  table = refl;
  labels = record {
    starts = 0 ∷ 1 ∷ [];
    cut = record {
      first = refl;
      each = (
        record { later = omega arith; within = omega arith; spelled = record { padding = []; padded = refl; offsets = tt; are = refl }; proper = refl },
        (record { later = omega arith; within = omega arith; spelled = record { padding = []; padded = refl; offsets = tt; are = refl }; proper = refl }, tt),
      );
    };
    targets = (tt, (tt, tt));
    rows = refl;
    ranges = tt;
  };
}

abbrev code : CodeInfo
code = record { max_stack = 1; max_locals = 1; code = aload_0 ∷ areturn ∷ []; table = []; attributes = [] }

is_code : IsCodeOf (places_of (index_in straight) (body_lines (Step (Plain aload_0) ∷ Step (Plain areturn) ∷ []))) (pos 1) (pos 1) (body_lines (Step (Plain aload_0) ∷ Step (Plain areturn) ∷ [])) code
unfolding frames_in
is_code = record { labelled = labelled; instructions = (refl, (refl, tt)); ranges = refl; laid = laid; laid_out = laid_out; code_is = refl }

abbrev verify : MemberInfo
verify = record { flags = 9; name = 5; desc = 6; attributes = record { name = 7; body = 0 ∷ 1 ∷ 0 ∷ 1 ∷ 0 ∷ 0 ∷ 0 ∷ 2 ∷ 42 ∷ 176 ∷ 0 ∷ 0 ∷ 0 ∷ 0 ∷ [] } ∷ [] }

abbrev straight_pool : List Constant
straight_pool = Utf8 (codes "A") ∷ pool.Class 1 ∷ Utf8 (codes "java/lang/Object") ∷ pool.Class 3 ∷ Utf8 (codes "verify") ∷ Utf8 (codes "([B)[B") ∷ Utf8 (codes "Code") ∷ []

abbrev straight_file : ClassFile
straight_file = record {
  minor = 0;
  major = 52;
  pool = straight_pool;
  flags = 33;
  this_class = 2;
  super_class = 4;
  interfaces = [];
  fields = [];
  methods = verify ∷ [];
  attributes = [];
}

straight_is : IsFileOf straight straight_file
unfolding each_once index_of methods_needs indexed
straight_is = record { methods = verify ∷ []; are_methods = (record { code = code; is_code = is_code; method = refl }, tt); file = refl }

-- its 106 bytes
straight_bytes : class_bytes straight_file
    ≡ 202 ∷ 254 ∷ 186 ∷ 190 ∷ 0 ∷ 0 ∷ 0 ∷ 52 ∷ 0 ∷ 8 ∷ 1 ∷ 0 ∷ 1 ∷ 65 ∷ 7 ∷ 0 ∷ 1
    ∷ 1 ∷ 0 ∷ 16 ∷ 106 ∷ 97 ∷ 118 ∷ 97 ∷ 47 ∷ 108 ∷ 97 ∷ 110 ∷ 103 ∷ 47 ∷ 79 ∷ 98 ∷ 106 ∷ 101 ∷ 99 ∷ 116 ∷ 7 ∷ 0 ∷ 3
    ∷ 1 ∷ 0 ∷ 6 ∷ 118 ∷ 101 ∷ 114 ∷ 105 ∷ 102 ∷ 121 ∷ 1 ∷ 0 ∷ 6 ∷ 40 ∷ 91 ∷ 66 ∷ 41 ∷ 91 ∷ 66 ∷ 1 ∷ 0 ∷ 4 ∷ 67 ∷ 111 ∷ 100 ∷ 101
    ∷ 0 ∷ 33 ∷ 0 ∷ 2 ∷ 0 ∷ 4 ∷ 0 ∷ 0 ∷ 0 ∷ 0 ∷ 0 ∷ 1 ∷ 0 ∷ 9 ∷ 0 ∷ 5 ∷ 0 ∷ 6 ∷ 0 ∷ 1 ∷ 0 ∷ 7 ∷ 0 ∷ 0 ∷ 0 ∷ 14
    ∷ 0 ∷ 1 ∷ 0 ∷ 1 ∷ 0 ∷ 0 ∷ 0 ∷ 2 ∷ 42 ∷ 176 ∷ 0 ∷ 0 ∷ 0 ∷ 0 ∷ 0 ∷ 0 ∷ []
straight_bytes = refl

-- ---- a class without code

-- a version, interfaces and fields, one with a constant; the pool is S, its class, I, its class, f, J, ConstantValue, a long, n, ()V
abbrev plain : Source
plain = record {
  flags = 1537;
  name = codes "S";
  version = Some (pos 51, pos 3);
  super = codes "S";
  interfaces = codes "I" ∷ codes "S" ∷ [];
  fields = record { flags = 25; name = codes "f"; desc = codes "J"; value = Some (LongValue (pos 5)) } ∷ record { flags = 1; name = codes "J"; desc = codes "I"; value = None } ∷ [];
  methods = Bodiless 1025 (codes "n") (codes "()V") ∷ [];
}

abbrev plain_file : ClassFile
plain_file = record {
  minor = 3;
  major = 51;
  pool =
      Utf8 (codes "S") ∷ pool.Class 1 ∷ Utf8 (codes "I") ∷ pool.Class 3 ∷ Utf8 (codes "f") ∷ Utf8 (codes "J") ∷ Utf8 (codes "ConstantValue") ∷ pool.Long (pos 5) ∷ pool.Hole
      ∷ Utf8 (codes "n") ∷ Utf8 (codes "()V") ∷ [];
  flags = 1537;
  this_class = 2;
  super_class = 2;
  interfaces = 4 ∷ 2 ∷ [];
  fields =
      record { flags = 25; name = 5; desc = 6; attributes = record { name = 7; body = 0 ∷ 8 ∷ [] } ∷ [] }
      ∷ record { flags = 1; name = 6; desc = 3; attributes = [] } ∷ [];
  methods = record { flags = 1025; name = 10; desc = 11; attributes = [] } ∷ [];
  attributes = [];
}

plain_is : IsFileOf plain plain_file
unfolding each_once index_of methods_needs indexed
plain_is = record { methods = record { flags = 1025; name = 10; desc = 11; attributes = [] } ∷ []; are_methods = (refl, tt); file = refl }
