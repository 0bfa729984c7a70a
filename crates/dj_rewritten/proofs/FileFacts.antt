-- Rewritten methods and files by plain values, each with something that it is not.
use Rattle.std.proofs.Common.{◌≡◌, ℕ, ◌+◌, pos, true, false, List, [], ◌∷◌, map, length, length-append, Some, refl, sym, ap, ◌∙◌, arith, codes, ◌⊎◌, ◌<◌, ◌≤◌, ◌^◌, subst, inl, inr}
use Rattle.dj_names.specs.trusted.Types.{Name}
use Rattle.dj_names.specs.trusted.Names.{IsUnqualifiedName, IsMethodName}
use Rattle.dj_names.specs.trusted.Descriptors.{IsFieldDescriptor, IsMethodDescriptor}
use Rattle.dj_names.specs.Tests.{class_name_test, unqualified_name_test, method_name_test, method_descriptor_test}
use Rattle.dj_names.proofs.TestLaws.{modified_utf8_test-decides, class_name_test-decides, method_name_test-decides, method_descriptor_test-decides}
use Rattle.dj_names.specs.trusted.NameReading.{reads_class_name}
use Rattle.dj_names.specs.trusted.DescReading.{desc_read, method_read, params_read, type_read, dims_read, of_read, class_read, name_read, return_read, field_read}
use Rattle.dj_ops.specs.declared.instruction.Instr.TheVariants as instrs
use Rattle.dj_ops.specs.trusted.Forms.{form_of}
use Rattle.dj_ops.specs.Mnemonics.{goto}
use Rattle.dj_pool.specs.trusted.Pool.{Constant, Utf8, Class, indexed, IsClassText, IsWhole, IsPool}
use Rattle.dj_pool.specs.Scan.{has_foreign}
use Rattle.dj_pool.proofs.Scanned.{plain_is}
use Rattle.dj_class.specs.trusted.ClassFile.{AttributeInfo, MemberInfo, ClassFile, IsValid, class_bytes}
use Rattle.dj_class.specs.trusted.Code.{CodeInfo, code_info_bytes}
use Rattle.dj_layout.specs.trusted.Layouts.{placed, placed_bytes}
use Rattle.dj_model.specs.trusted.Opcodes.{instruction_of, simple}
use Rattle.dj_declarations.specs.trusted.Files.{type_in, desc_in}
use Rattle.std.specs.Prelude.{⊤}
use Rattle.std.specs.List.{flat_map, AllByRecursion}
use Rattle.dj_program.specs.trusted.Codes.{CodeParts, code_in, IsMethodCode}
use Rattle.dj_program.specs.trusted.Programs.{AreSideBySide}
use Rattle.dj_program.proofs.Once.{one_parts}
use Rattle.dj_groups.specs.Groups.{Group, groups_of, start}
use Rattle.dj_groups.specs.Grouped.{labels_in_groups}
use Rattle.dj_rename.specs.Names.{renamed_class, renamed_desc}
use Rattle.dj_rename.specs.Pools.{needs, first_places, appended_texts, renamed_constant, renamed_pool, accounter_constants, first_index, rewritten_pool, IsFull}
use Rattle.dj_rename.proofs.PoolLaws.{length_map}
use Rattle.dj_rewritten.specs.Files.{IsRewrittenCode, IsRewrittenBody, IsRewrittenMethod, IsRewrittenFile}
use Rattle.dj_rewritten.specs.TooLarge.{DoesNotFit, first_of_class, IsTooLargeMethod, IsTooLargeClass}
use Rattle.dj_rewritten.proofs.SizeFacts.{plain, one_return, stack_fits}

-- ---- code

abbrev names : List Constant
names = Utf8 (codes "Code") ∷ Utf8 (codes "(I)V") ∷ Utf8 (codes "LocalVariableTable") ∷ []

-- one `return`
abbrev returning : ℕ → List AttributeInfo → CodeInfo
returning stack attributes = record { max_stack = stack; max_locals = 1; code = 177 ∷ []; table = []; attributes = attributes }

abbrev returns : CodeParts
returns = one_return 2 1

-- max_stack is two more, and attributes of other names than StackMapTable go
abbrev local_variables : AttributeInfo
local_variables = record { name = 3; body = 0 ∷ 0 ∷ [] }

code_rewritten : IsRewrittenCode [] names 4 (returning 2 (local_variables ∷ [])) returns (returning 4 [])
unfolding groups_of code_in instruction_of simple labels_in_groups start form_of
code_rewritten = record {
  laid = record { code = 177 ∷ []; starts = 0 ∷ []; table = [] };
  is_laid = record {
    starts = refl;
    code = refl;
    short = omega arith;
    table = refl;
    labels = record {
      starts = 0 ∷ [];
      cut = record { first = refl; each = (record { later = omega arith; within = omega arith; spelled = record { padding = []; padded = refl; offsets = tt; are = refl }; proper = refl }, tt) };
      targets = (tt, tt);
      rows = refl;
      ranges = tt;
    };
  };
  is = refl;
  valid = record {
    max_stack = omega arith;
    max_locals = omega arith;
    some_code = omega arith;
    few_code = omega arith;
    row_count = omega arith;
    rows = tt;
    attribute_count = omega arith;
    attributes = tt;
  };
}

stack_of_one_more : IsRewrittenCode [] names 4 (returning 2 []) returns (returning 3 []) → ⊥
stack_of_one_more is = let e : 3 ≡ 4 = ap (λ (c : CodeInfo). c.max_stack) is.is in absurd (omega (arith, e))

table_kept : IsRewrittenCode [] names 4 (returning 2 (local_variables ∷ [])) returns (returning 4 (local_variables ∷ [])) → ⊥
table_kept is = let e : 1 ≡ 0 = ap (λ (c : CodeInfo). length c.attributes) is.is in absurd (omega (arith, e))

-- a jump to itself pays for it
abbrev jumps : CodeParts
jumps = record { max_stack = 0; max_locals = 0; labelled = record { code = instrs.Branch goto (pos 0) ∷ []; ranges = [] }; frames = Some [] }

abbrev jumping : ℕ → List ℕ → CodeInfo
jumping stack code = record { max_stack = stack; max_locals = 0; code = code; table = []; attributes = [] }

charge_left_out : IsRewrittenCode [] names 4 (jumping 0 (167 ∷ 0 ∷ 0 ∷ [])) jumps (jumping 2 (167 ∷ 0 ∷ 0 ∷ [])) → ⊥
unfolding groups_of code_in instruction_of simple labels_in_groups start form_of
charge_left_out is =
    let e : 3 ≡ 6 =
    ap (λ (c : CodeInfo). length c.code) is.is
    ∙ ap length is.is_laid.code
    ∙ ap (λ (at : List ℕ). length (flat_map placed_bytes (placed at (instrs.Member 184 9 ∷ instrs.Branch goto (pos 0) ∷ [])))) is.is_laid.starts in
    absurd (omega (arith, e))

-- ---- methods

-- a method of these flags with one attribute
abbrev method : ℕ → CodeInfo → MemberInfo
method flags info = record { flags = flags; name = 1; desc = 2; attributes = record { name = 1; body = code_info_bytes info } ∷ [] }

abbrev own_code : (stack : ℕ) → stack < 2 ^ 16 → IsMethodCode names (method 33 (returning stack (local_variables ∷ []))) (one_return stack 1)
unfolding form_of
own_code stack short = record {
  info = returning stack (local_variables ∷ []);
  own = record {
    body = code_info_bytes (returning stack (local_variables ∷ []));
    own = (0, omega arith, refl);
    is = record {
      spelled = refl;
      valid = record {
        max_stack = short;
        max_locals = omega arith;
        some_code = omega arith;
        few_code = omega arith;
        row_count = omega arith;
        rows = tt;
        attribute_count = omega arith;
        attributes = (record { name = omega arith; body = omega arith }, tt);
      };
    };
  };
  stack = refl;
  locals = refl;
  labels = record {
    starts = 0 ∷ [];
    cut = record { first = refl; each = (record { later = omega arith; within = omega arith; spelled = record { padding = []; padded = refl; offsets = tt; are = refl }; proper = refl }, tt) };
    targets = (tt, tt);
    rows = refl;
    ranges = tt;
  };
  frames = refl;
}

-- ACC_SYNCHRONIZED goes, and the Code attribute has the rewritten code
method_rewritten : IsRewrittenMethod [] names (2 ∷ []) (method 33 (returning 2 (local_variables ∷ []))) (method 1 (returning 4 []))
unfolding appended_texts first_places needs renamed_class renamed_desc type_in desc_in desc_read method_read params_read type_read dims_read of_read class_read name_read reads_class_name return_read field_read form_of
method_rewritten = record {
  attributes = record { name = 1; body = code_info_bytes (returning 4 []) } ∷ [];
  each = (record { parts = returns; code = own_code 2 (omega arith); new = returning 4 []; rewritten = code_rewritten; is = refl }, tt);
  is = refl;
}

still_synchronized : IsRewrittenMethod [] names (2 ∷ []) (method 33 (returning 2 (local_variables ∷ []))) (method 33 (returning 4 [])) → ⊥
still_synchronized is = let e : 33 ≡ 1 = ap (λ (m : MemberInfo). m.flags) is.is in absurd (omega (arith, e))

code_attribute_gone : IsRewrittenMethod [] names (2 ∷ []) (method 33 (returning 2 (local_variables ∷ []))) (record { flags = 1; name = 1; desc = 2; attributes = [] }) → ⊥
code_attribute_gone is = none is.attributes (ap (λ (m : MemberInfo). m.attributes) is.is) is.each where
  none : (attributes : List AttributeInfo) → [] ≡ attributes
      → AreSideBySide (IsRewrittenBody [] names (first_index names (appended_texts names (2 ∷ []))) (method 33 (returning 2 (local_variables ∷ [])))) (record { name = 1; body = code_info_bytes (returning 2 (local_variables ∷ [])) } ∷ []) attributes → ⊥
  none [] e each = each
  none (a ∷ more) e each = absurd cc

-- ---- methods that are too large

-- a class file with one method
abbrev holder : MemberInfo → ClassFile
holder m = record { minor = 0; major = 52; pool = names; flags = 33; this_class = 0; super_class = 0; interfaces = []; fields = []; methods = m ∷ []; attributes = [] }

deep_method : IsTooLargeMethod [] (holder (method 33 (returning 65534 (local_variables ∷ [])))) (method 33 (returning 65534 (local_variables ∷ [])))
deep_method = record { parts = one_return 65534 1; code = own_code 65534 (omega arith); such = inr (inl (omega arith)) }

groups_are : (stack : ℕ) → groups_of [] (code_in names (one_return stack 1)) ≡ plain
unfolding groups_of code_in instruction_of simple
groups_are stack = refl

method_fits : IsTooLargeMethod [] (holder (method 33 (returning 65533 (local_variables ∷ [])))) (method 33 (returning 65533 (local_variables ∷ []))) → ⊥
method_fits is =
    let m = method 33 (returning 65533 (local_variables ∷ [])) in
    let first = first_of_class (holder m) in
    let same : is.parts ≡ one_return 65533 1 = one_parts names m is.parts (one_return 65533 1) refl is.code (own_code 65533 (omega arith)) in
    let such = subst (λ (parts : CodeParts). DoesNotFit first (groups_of [] (code_in names parts)) parts) same is.such in
    stack_fits first 65533 1 (omega arith) (subst (λ (gs : List Group). DoesNotFit first gs (one_return 65533 1)) (groups_are 65533) such)

-- ---- files

-- a class file with nothing in it but a pool
abbrev file : List Constant → List AttributeInfo → ClassFile
file pool attributes = record {
  minor = 0;
  major = 52;
  pool = pool;
  flags = 33;
  this_class = 2;
  super_class = 0;
  interfaces = [];
  fields = [];
  methods = [];
  attributes = attributes;
}

attribute_kept : (pool : List Constant) → IsRewrittenFile [] (file names (local_variables ∷ [])) (file pool (local_variables ∷ [])) → ⊥
attribute_kept pool is = let e : 1 ≡ 0 = ap (λ (c : ClassFile). length c.attributes) is.is in absurd (omega (arith, e))

-- ---- the smallest file

-- class A, which has no superclass
abbrev small : List Constant
small = Utf8 (codes "A") ∷ Class 1 ∷ []

abbrev small_rewritten : List Constant
small_rewritten = Utf8 (codes "A") ∷ Class 3 ∷ Utf8 (codes "sandbox/A") ∷ accounter_constants 4

small_pool : rewritten_pool small [] ≡ small_rewritten
unfolding rewritten_pool renamed_pool appended_texts first_places needs renamed_class renamed_desc type_in desc_in desc_read method_read params_read type_read dims_read of_read class_read name_read reads_class_name return_read field_read
small_pool = refl

text_is : (text : Name) → length text < 2 ^ 16 → has_foreign text ≡ false → IsWhole (Utf8 text) × ⊤
text_is text short e = ((short, (modified_utf8_test-decides text).0 (plain_is text e)), tt)

class_text : (text : Name) → class_name_test text ≡ true → IsClassText text
class_text text e = inl ((class_name_test-decides text).0 e)

desc_is : (text : Name) → method_descriptor_test text ≡ true → IsMethodDescriptor text
desc_is text e = (method_descriptor_test-decides text).0 e

names_are : (name desc : Name) → method_name_test name ≡ true → method_descriptor_test desc ≡ true → (IsUnqualifiedName name × IsFieldDescriptor desc) ⊎ (IsMethodName name × IsMethodDescriptor desc)
names_are name desc n d = inr ((method_name_test-decides name).0 n, desc_is desc d)

small_valid : IsPool small_rewritten
unfolding accounter_constants indexed class_name_test method_name_test unqualified_name_test method_descriptor_test reads_class_name method_read params_read type_read dims_read of_read class_read name_read return_read
small_valid = record {
  constants = small_rewritten;
  indexes = refl;
  each = (
    text_is (codes "A") (omega arith) refl,
    (
      (omega arith, class_text (codes "sandbox/A") refl),
      (
        text_is (codes "sandbox/A") (omega arith) refl,
        (
          text_is (codes "djvm/Accounter") (omega arith) refl,
          (
            (omega arith, class_text (codes "djvm/Accounter") refl),
            (
              text_is (codes "recordJump") (omega arith) refl,
              (
                text_is (codes "()V") (omega arith) refl,
                (
                  ((omega arith, omega arith), names_are (codes "recordJump") (codes "()V") refl refl),
                  (
                    ((omega arith, omega arith), (tt, desc_is (codes "()V") refl)),
                    (
                      text_is (codes "recordInvocation") (omega arith) refl,
                      (
                        text_is (codes "()V") (omega arith) refl,
                        (
                          ((omega arith, omega arith), names_are (codes "recordInvocation") (codes "()V") refl refl),
                          (
                            ((omega arith, omega arith), (tt, desc_is (codes "()V") refl)),
                            (
                              text_is (codes "recordThrow") (omega arith) refl,
                              (
                                text_is (codes "()V") (omega arith) refl,
                                (
                                  ((omega arith, omega arith), names_are (codes "recordThrow") (codes "()V") refl refl),
                                  (
                                    ((omega arith, omega arith), (tt, desc_is (codes "()V") refl)),
                                    (
                                      text_is (codes "recordAllocation") (omega arith) refl,
                                      (
                                        text_is (codes "(I)V") (omega arith) refl,
                                        (
                                          ((omega arith, omega arith), names_are (codes "recordAllocation") (codes "(I)V") refl refl),
                                          (
                                            ((omega arith, omega arith), (tt, desc_is (codes "(I)V") refl)),
                                            (
                                              text_is (codes "recordArray") (omega arith) refl,
                                              (
                                                text_is (codes "(II)V") (omega arith) refl,
                                                (
                                                  ((omega arith, omega arith), names_are (codes "recordArray") (codes "(II)V") refl refl),
                                                  (
                                                    ((omega arith, omega arith), (tt, desc_is (codes "(II)V") refl)),
                                                    (
                                                      text_is (codes "checkCatch") (omega arith) refl,
                                                      (
                                                        text_is (codes "(Lsandbox/java/lang/Object;)V") (omega arith) refl,
                                                        (
                                                          ((omega arith, omega arith), names_are (codes "checkCatch") (codes "(Lsandbox/java/lang/Object;)V") refl refl),
                                                          (
                                                            ((omega arith, omega arith), (tt, desc_is (codes "(Lsandbox/java/lang/Object;)V") refl)),
                                                            tt,
                                                          ),
                                                        ),
                                                      ),
                                                    ),
                                                  ),
                                                ),
                                              ),
                                            ),
                                          ),
                                        ),
                                      ),
                                    ),
                                  ),
                                ),
                              ),
                            ),
                          ),
                        ),
                      ),
                    ),
                  ),
                ),
              ),
            ),
          ),
        ),
      ),
    ),
  );
  count = omega arith;
}

small_file : IsValid (file small_rewritten [])
unfolding accounter_constants class_name_test reads_class_name
small_file = record {
  minor = omega arith;
  major = omega arith;
  pool = small_valid;
  flags = omega arith;
  this_class = (class_name_test-decides (codes "sandbox/A")).0 refl;
  super_class = inl refl;
  interface_count = omega arith;
  interfaces = tt;
  field_count = omega arith;
  fields = tt;
  method_count = omega arith;
  methods = tt;
  attributes = record { count = omega arith; each = tt };
}

file_rewritten : IsRewrittenFile [] (file small (local_variables ∷ [])) (file small_rewritten [])
file_rewritten = record { methods = []; each = tt; is = ap (λ (pool : List Constant). file pool []) (sym small_pool); valid = small_file }

-- the pool is the rewritten one
pool_kept : IsRewrittenFile [] (file small []) (file small []) → ⊥
unfolding rewritten_pool renamed_pool accounter_constants
pool_kept is = let e : length small ≡ length (rewritten_pool small []) = ap (λ (c : ClassFile). length c.pool) is.is in absurd (omega (arith, e, ap length small_pool))

-- ---- classes that are too large

accounter_count : (first : ℕ) → length (accounter_constants first) ≡ 26
unfolding accounter_constants
accounter_count first = refl

rewritten_long : (pool : List Constant) (descs : List ℕ) → length (rewritten_pool pool descs) ≡ length pool + length (appended_texts pool descs) + 26
unfolding rewritten_pool renamed_pool
rewritten_long pool descs = omega (
  arith,
  length-append (renamed_pool pool (appended_texts pool descs)) (accounter_constants (first_index pool (appended_texts pool descs))),
  length-append (map (renamed_constant pool (appended_texts pool descs)) pool) (map Utf8 (appended_texts pool descs)),
  length_map (renamed_constant pool (appended_texts pool descs)) pool,
  length_map Utf8 (appended_texts pool descs),
  accounter_count (first_index pool (appended_texts pool descs)),
)

-- 65,509 constants and the accounter's 26 are one too many
full_class : (pool : List Constant) → length pool ≡ 65509 → IsTooLargeClass [] (file pool [])
full_class pool many = inl (inl (omega (arith, many, rewritten_long pool [])))

not_full : (pool : List Constant) → length pool ≡ 65508 → appended_texts pool [] ≡ [] → IsFull pool [] → ⊥
not_full pool many none full = absurd (omega (arith, many, full, rewritten_long pool [], ap length none))

small_bytes : length (class_bytes (file small_rewritten [])) ≡ 280
unfolding accounter_constants
small_bytes = refl

small_texts : appended_texts small [] ≡ codes "sandbox/A" ∷ []
unfolding appended_texts first_places needs renamed_class renamed_desc type_in desc_in desc_read method_read params_read type_read dims_read of_read class_read name_read reads_class_name return_read field_read
small_texts = refl

no_methods : (methods : List MemberInfo) → AreSideBySide (IsRewrittenMethod [] small []) [] methods → [] ≡ methods
no_methods [] each = refl
no_methods (m ∷ more) each = absurd each

small_fits : IsTooLargeClass [] (file small []) → ⊥
small_fits (inl (inl full)) = absurd (omega (arith, full, rewritten_long small [], ap length small_texts))
small_fits (inl (inr long)) = long (subst (AllByRecursion (λ (text : Name). length text ≤ 65535)) (sym small_texts) (omega arith, tt))
small_fits (inr large) =
    let bare = no_methods large.rewritten.methods large.rewritten.each in
    let is : large.file ≡ file small_rewritten [] =
    large.rewritten.is
    ∙ ap (λ (methods : List MemberInfo). record (file (rewritten_pool small []) []) { methods = methods }) (sym bare)
    ∙ ap (λ (pool : List Constant). file pool []) small_pool in
    absurd (omega (arith, large.past, ap (λ (c : ClassFile). length (class_bytes c)) is, small_bytes))
