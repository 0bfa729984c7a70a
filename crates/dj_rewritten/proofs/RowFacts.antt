-- By plain values. The smallest class, rewritten: its texts, its 35 constants and its 382 bytes; a code with a handler and a split range.
use Rattle.std.proofs.Common.{◌≡◌, List, [], ◌∷◌, ◌++◌, map, length, refl, codes, true, false}
use Rattle.dj_names.specs.trusted.NameReading.{reads_class_name}
use Rattle.dj_names.specs.trusted.DescReading.{desc_read, method_read, params_read, type_read, dims_read, of_read, class_read, name_read, return_read, field_read}
use Rattle.dj_pool.specs.trusted.Pool.{Constant, Utf8, Class, Text}
use Rattle.dj_class.specs.trusted.ClassFile.{ClassFile, class_bytes}
use Rattle.dj_class.specs.trusted.Code.{CodeInfo, code_info_bytes}
use Rattle.dj_declarations.specs.trusted.Files.{type_in, desc_in}
use Rattle.dj_groups.specs.Groups.{Group, Record, Jumps, Kept, start, cut, pieces}
use Rattle.dj_rename.specs.Names.{renamed_class, renamed_desc, plain_text}
use Rattle.dj_rewritten.specs.Files.{without_synchronized, rewritten_field}
use Rattle.dj_rename.specs.Pools.{needs, first_places, appended_texts, renamed_pool, accounter_constants, rewritten_pool}

abbrev row_pool : List Constant
row_pool = Utf8 (codes "A") ∷ Class 1 ∷ Utf8 (codes "java/lang/Object") ∷ Class 3 ∷ Utf8 (codes "verify") ∷ Utf8 (codes "([B)[B") ∷ Utf8 (codes "Code") ∷ []

row_texts : appended_texts row_pool (6 ∷ []) ≡ codes "sandbox/A" ∷ codes "sandbox/java/lang/Object" ∷ []
unfolding appended_texts first_places needs renamed_class renamed_desc type_in desc_in desc_read method_read params_read type_read dims_read of_read class_read name_read reads_class_name return_read field_read
row_texts = refl

abbrev row_code : CodeInfo
row_code = record { max_stack = 3; max_locals = 1; code = 42 ∷ 176 ∷ []; table = []; attributes = [] }

abbrev row_file : ClassFile
row_file = record {
  minor = 0;
  major = 52;
  pool = rewritten_pool row_pool (6 ∷ []);
  flags = 33;
  this_class = 2;
  super_class = 4;
  interfaces = [];
  fields = [];
  methods = record { flags = 9; name = 5; desc = 6; attributes = record { name = 7; body = code_info_bytes row_code } ∷ [] } ∷ [];
  attributes = [];
}

row_constants : length (rewritten_pool row_pool (6 ∷ [])) ≡ 35
unfolding rewritten_pool renamed_pool accounter_constants appended_texts first_places needs renamed_class renamed_desc type_in desc_in desc_read method_read params_read type_read dims_read of_read class_read name_read reads_class_name return_read field_read
row_constants = refl

row_bytes : length (class_bytes row_file) ≡ 382
unfolding rewritten_pool renamed_pool accounter_constants appended_texts first_places needs renamed_class renamed_desc type_in desc_in desc_read method_read params_read type_read dims_read of_read class_read name_read reads_class_name return_read field_read
row_bytes = refl

renamed_array : renamed_class (codes "[[La/B;") ≡ codes "[[Lsandbox/a/B;"
unfolding renamed_class type_in desc_in desc_read method_read params_read type_read dims_read of_read class_read name_read reads_class_name return_read field_read
renamed_array = refl

plain_array : plain_text (codes "[[Lsandbox/a/B;") ≡ codes "[[La/B;"
unfolding plain_text type_in desc_in desc_read method_read params_read type_read dims_read of_read class_read name_read reads_class_name return_read field_read
plain_array = refl

-- a range over a handler that is a jump: four instructions, of which the third is the handler's first
abbrev some_groups : List Group
some_groups =
    record { arrives = false; charge = []; own = Kept } ∷ record { arrives = false; charge = Record Jumps ∷ []; own = Kept }
    ∷ record { arrives = true; charge = Record Jumps ∷ []; own = Kept } ∷ record { arrives = false; charge = []; own = Kept } ∷ []

some_pieces : pieces some_groups 0 4 ≡ (0, 3) ∷ (7, 9) ∷ []
unfolding cut start
some_pieces = refl

-- a range that begins with the handler loses its first, empty piece
first_piece : pieces some_groups 2 4 ≡ (7, 9) ∷ []
unfolding cut start
first_piece = refl

-- ---- names

-- a class may have the name of a base type, which a descriptor then is
letters : map renamed_class (codes "I" ∷ codes "[I" ∷ []) ++ map renamed_desc (codes "I" ∷ codes "(I[J)V" ∷ codes "([La/B;I)LI;" ∷ [])
    ≡ codes "sandbox/I" ∷ codes "[I" ∷ codes "I" ∷ codes "(I[J)V" ∷ codes "([Lsandbox/a/B;I)Lsandbox/I;" ∷ []
unfolding renamed_class renamed_desc type_in desc_in desc_read method_read params_read type_read dims_read of_read class_read name_read reads_class_name return_read field_read
letters = refl

array_not_plain : renamed_class (codes "[La/B;") ≡ codes "[La/B;" → ⊥
unfolding renamed_class type_in desc_in desc_read method_read params_read type_read dims_read of_read class_read name_read reads_class_name return_read field_read
array_not_plain e = absurd cc

-- ---- pools

-- A string has the text of a class: the class gets another text, and the string keeps its own. Two classes of one text share the new one.
abbrev shared_pool : List Constant
shared_pool = Utf8 (codes "a/B") ∷ Class 1 ∷ Text 1 ∷ Utf8 (codes "a/B") ∷ Class 4 ∷ []

shared_text : renamed_pool shared_pool (appended_texts shared_pool []) ≡ Utf8 (codes "a/B") ∷ Class 6 ∷ Text 1 ∷ Utf8 (codes "a/B") ∷ Class 6 ∷ Utf8 (codes "sandbox/a/B") ∷ []
unfolding renamed_pool appended_texts first_places needs renamed_class renamed_desc type_in desc_in desc_read method_read params_read type_read dims_read of_read class_read name_read reads_class_name return_read field_read
shared_text = refl

string_not_renamed : renamed_pool shared_pool (appended_texts shared_pool []) ≡ Utf8 (codes "a/B") ∷ Class 6 ∷ Text 6 ∷ Utf8 (codes "a/B") ∷ Class 6 ∷ Utf8 (codes "sandbox/a/B") ∷ [] → ⊥
unfolding renamed_pool appended_texts first_places needs renamed_class renamed_desc type_in desc_in desc_read method_read params_read type_read dims_read of_read class_read name_read reads_class_name return_read field_read
string_not_renamed e = absurd cc

-- an equal text of the original pool isn't used
unused_text : appended_texts (Utf8 (codes "A") ∷ Class 1 ∷ Utf8 (codes "sandbox/A") ∷ []) [] ≡ codes "sandbox/A" ∷ []
unfolding appended_texts first_places needs renamed_class renamed_desc type_in desc_in desc_read method_read params_read type_read dims_read of_read class_read name_read reads_class_name return_read field_read
unused_text = refl

-- ---- members

-- a field keeps its ConstantValue alone, a method isn't synchronized any more
abbrev field_pool : List Constant
field_pool = Utf8 (codes "f") ∷ Utf8 (codes "LA;") ∷ Utf8 (codes "ConstantValue") ∷ Utf8 (codes "Signature") ∷ []

field_rewritten : rewritten_field field_pool (2 ∷ []) (record { flags = 40; name = 1; desc = 2; attributes = record { name = 4; body = 0 ∷ 2 ∷ [] } ∷ record { name = 3; body = 0 ∷ 9 ∷ [] } ∷ [] })
    ≡ record { flags = 40; name = 1; desc = 5; attributes = record { name = 3; body = 0 ∷ 9 ∷ [] } ∷ [] }
unfolding appended_texts first_places needs renamed_class renamed_desc type_in desc_in desc_read method_read params_read type_read dims_read of_read class_read name_read reads_class_name return_read field_read
field_rewritten = refl

method_flags : map without_synchronized (41 ∷ 9 ∷ 1057 ∷ []) ≡ 9 ∷ 9 ∷ 1025 ∷ []
method_flags = refl
