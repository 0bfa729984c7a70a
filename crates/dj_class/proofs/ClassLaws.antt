-- A class file that is read is spelled so, one that is spelled so is read, and reading fails exactly where there is a fault.
use Rattle.std.proofs.Common.{◌≡◌, ℕ, if◌then◌else◌, List, [], ◌++◌, length, Result, Ok, Err, refl, sym, ap, subst, ◌∙◌, append_assoc, append-nil, arith}
use Rattle.std.proofs.lemmas.Bool.{eqb-true, eq-eqb}
use Rattle.std.proofs.lemmas.List.{nil_from_length}
use Rattle.dj_cursor.specs.trusted.Spelling.{u2, table_bytes}
use Rattle.dj_cursor.specs.Steps.{◌>>=◌, lifted}
use Rattle.dj_cursor.specs.Reading.{Cursor, start_of, at_end, table_at}
use Rattle.dj_cursor.proofs.Bytes.{IsBytes}
use Rattle.dj_cursor.proofs.Steps.{bind_again, guard_ok, guard_again}
use Rattle.dj_cursor.proofs.Spans.{Spans, Spans-then, Spans-end, Reads, step_takes, step_again, lifted_reads}
use Rattle.dj_cursor.specs.Faults.{AreFew}
use Rattle.dj_cursor.proofs.Parts.{table_reads}
use Rattle.dj_cursor.proofs.FaultLaws.{Refuses, refuses_then, lifted_refuses, table_refuses, end_refuses}
use Rattle.dj_names.specs.Tests.{unqualified_name_test, method_name_test, field_descriptor_test, method_descriptor_test}
use Rattle.dj_names.specs.trusted.Names.{IsUnqualifiedName, IsMethodName}
use Rattle.dj_names.specs.trusted.Descriptors.{IsFieldDescriptor, IsMethodDescriptor}
use Rattle.dj_class.specs.declared.class.ClassError.{ClassError}
use Rattle.dj_class.specs.declared.class.ClassError.TheVariants as class_errors
use Rattle.dj_pool.specs.trusted.Pool.{Constant, pool_bytes, IsPool}
use Rattle.dj_pool.specs.Reading.{pool_at}
use Rattle.dj_pool.proofs.Decides.{TestsDecide}
use Rattle.dj_pool.proofs.PoolLaws.{pool_reads, pool_refuses}
use Rattle.dj_class.specs.Faults.{FieldsFault, MethodsFault, FileFault, IsFault}
use Rattle.dj_class.specs.trusted.ClassFile.{ClassFile, AttributeInfo, MemberInfo, attribute_bytes, member_bytes, header_bytes, class_bytes, IsField, IsMethod, AreAttributes, IsValid, IsClassFile}
use Rattle.dj_class.specs.Reading.{attribute_at, member_at, header_at, Heading, heading_at, class_file_of}
use Rattle.dj_class.proofs.PartLaws.{AreVersions, attributes_read, attributes_refuse, member_reads, member_refuses, header_reads, header_refuses_then, heading_bytes, IsHeading, heading_reads, heading_refuses_then}

pub fields_read : (d : TestsDecide) (pool : List Constant) → IsPool pool → Reads (table_at class_errors.Cut (member_at unqualified_name_test field_descriptor_test pool)) (table_bytes member_bytes) (AreFew (IsField pool))
fields_read d pool valid = table_reads class_errors.Cut (member_reads unqualified_name_test field_descriptor_test IsUnqualifiedName IsFieldDescriptor d.unqualified_name d.field_descriptor pool valid)

pub methods_read : (d : TestsDecide) (pool : List Constant) → IsPool pool → Reads (table_at class_errors.Cut (member_at method_name_test method_descriptor_test pool)) (table_bytes member_bytes) (AreFew (IsMethod pool))
methods_read d pool valid = table_reads class_errors.Cut (member_reads method_name_test method_descriptor_test IsMethodName IsMethodDescriptor d.method_name d.method_descriptor pool valid)

-- what follows the heading, once the rest is known
abbrev pub tail_at : List Constant → ℕ × ℕ → Heading → Cursor → Result ClassFile ClassError
tail_at pool versions h c = do
  fields ← table_at class_errors.Cut (member_at unqualified_name_test field_descriptor_test pool) c
  methods ← table_at class_errors.Cut (member_at method_name_test method_descriptor_test pool) fields.1
  attributes ← table_at class_errors.Cut (attribute_at pool) methods.1
  if at_end attributes.1 then Ok (record {
    minor = versions.0;
    major = versions.1;
    pool = pool;
    flags = h.flags;
    this_class = h.this_class;
    super_class = h.super_class;
    interfaces = h.interfaces;
    fields = fields.0;
    methods = methods.0;
    attributes = attributes.0;
  }) else Err (class_errors.Trailing attributes.1.place)

abbrev whole_of : List Constant → ℕ × ℕ → Heading → List MemberInfo → List MemberInfo → List AttributeInfo → ClassFile
whole_of pool versions h fields methods attributes = record {
  minor = versions.0;
  major = versions.1;
  pool = pool;
  flags = h.flags;
  this_class = h.this_class;
  super_class = h.super_class;
  interfaces = h.interfaces;
  fields = fields;
  methods = methods;
  attributes = attributes;
}

abbrev tail_bytes : List MemberInfo → List MemberInfo → List AttributeInfo → List ℕ
tail_bytes fields methods attributes = table_bytes member_bytes fields ++ (table_bytes member_bytes methods ++ table_bytes attribute_bytes attributes)

record Tail (pool : List Constant) (versions : ℕ × ℕ) (h : Heading) (c : Cursor) (x : ClassFile) : Type 0 where
  fields : List MemberInfo
  methods : List MemberInfo
  attributes : List AttributeInfo
  made : whole_of pool versions h fields methods attributes ≡ x
  parts : c.rest ≡ tail_bytes fields methods attributes
  good_fields : AreFew (IsField pool) fields
  good_methods : AreFew (IsMethod pool) methods
  good_attributes : AreAttributes pool attributes

tail_takes : TestsDecide → (pool : List Constant) → IsPool pool → (versions : ℕ × ℕ) (h : Heading) (c : Cursor) (x : ClassFile) → IsBytes c.rest → tail_at pool versions h c ≡ Ok x → Tail pool versions h c x
tail_takes d pool valid versions h c x fits e =
    let fields = step_takes (fields_read d pool valid) c fits e in
    let methods = step_takes (methods_read d pool valid) fields.next fields.fits fields.rest in
    let attributes = step_takes (attributes_read pool valid) methods.next methods.fits methods.rest in
    let g = guard_ok _ attributes.rest in
    let text : List ℕ = tail_bytes fields.value methods.value attributes.value in
    let spelled : Spans c text attributes.next = Spans-then fields.spans (Spans-then methods.spans attributes.spans) in
    let nothing : attributes.next.rest ≡ [] = nil_from_length attributes.next.rest (eqb-true _ _ g.0) in
    record {
      fields = fields.value;
      methods = methods.value;
      attributes = attributes.value;
      made = g.1;
      parts = Spans-end c text attributes.next spelled nothing;
      good_fields = fields.good;
      good_methods = methods.good;
      good_attributes = attributes.good;
    }

tail_again : TestsDecide → (pool : List Constant) → IsPool pool → (versions : ℕ × ℕ) (h : Heading) (c end : Cursor) (fields methods : List MemberInfo) (attributes : List AttributeInfo)
    → AreFew (IsField pool) fields → AreFew (IsMethod pool) methods → AreAttributes pool attributes → end.rest ≡ [] → Spans c (tail_bytes fields methods attributes) end
    → tail_at pool versions h c ≡ Ok (whole_of pool versions h fields methods attributes)
tail_again d pool valid versions h c end fields methods attributes gf gm ga nothing s =
    let f = step_again (fields_read d pool valid) c fields (table_bytes member_bytes methods ++ table_bytes attribute_bytes attributes) end gf s in
    let m = step_again (methods_read d pool valid) f.0 methods (table_bytes attribute_bytes attributes) end gm f.2 in
    let a = (attributes_read pool valid).again m.0 attributes end ga m.2 in
    bind_again _ f.1 (bind_again _ m.1 (bind_again _ a (guard_again _ (eq-eqb _ _ (ap length nothing)))))

regroup : (v p a b c d f m t : List ℕ) → v ++ (p ++ ((((a ++ b) ++ c) ++ d) ++ (f ++ (m ++ t)))) ≡ (((((((v ++ p) ++ a) ++ b) ++ c) ++ d) ++ f) ++ m) ++ t
regroup v p a b c d f m t = simp append_assoc

-- the bytes, part by part
parts_are : (versions : ℕ × ℕ) (pool : List Constant) (h : Heading) (fields methods : List MemberInfo) (attributes : List AttributeInfo)
    → header_bytes versions.0 versions.1 ++ (pool_bytes pool ++ (heading_bytes h ++ tail_bytes fields methods attributes)) ≡ class_bytes (whole_of pool versions h fields methods attributes)
parts_are versions pool h fields methods attributes =
    regroup (header_bytes versions.0 versions.1) (pool_bytes pool) (u2 h.flags) (u2 h.this_class) (u2 h.super_class) (table_bytes u2 h.interfaces) (table_bytes member_bytes fields) (table_bytes member_bytes methods) (table_bytes attribute_bytes attributes)

regroup_prefix : (v p h r : List ℕ) → (v ++ (p ++ h)) ++ r ≡ v ++ (p ++ (h ++ r))
regroup_prefix v p h r = simp append_assoc

whole_takes : (versions : ℕ × ℕ) (pool : List Constant) (h : Heading) (a b : Cursor) (x : ClassFile)
    → AreVersions versions → IsPool pool → IsHeading pool h → Spans a (header_bytes versions.0 versions.1 ++ (pool_bytes pool ++ heading_bytes h)) b → Tail pool versions h b x → IsClassFile a.rest x
whole_takes versions pool h a b x gv gp gh s t =
    let prefix : a.rest ≡ header_bytes versions.0 versions.1 ++ (pool_bytes pool ++ (heading_bytes h ++ b.rest)) = s.parts ∙ regroup_prefix (header_bytes versions.0 versions.1) (pool_bytes pool) (heading_bytes h) b.rest in
    let all : a.rest ≡ header_bytes versions.0 versions.1 ++ (pool_bytes pool ++ (heading_bytes h ++ tail_bytes t.fields t.methods t.attributes)) = prefix ∙ ap (λ (r : List ℕ). header_bytes versions.0 versions.1 ++ (pool_bytes pool ++ (heading_bytes h ++ r))) t.parts in
    let whole : a.rest ≡ class_bytes (whole_of pool versions h t.fields t.methods t.attributes) = all ∙ parts_are versions pool h t.fields t.methods t.attributes in
    subst (IsClassFile a.rest) t.made (record {
      spelled = whole;
      valid = record {
        minor = gv.0;
        major = gv.1;
        pool = gp;
        flags = gh.flags;
        this_class = gh.this_class;
        super_class = gh.super_class;
        interface_count = gh.interfaces.0;
        interfaces = gh.interfaces.1;
        field_count = t.good_fields.0;
        fields = t.good_fields.1;
        method_count = t.good_methods.0;
        methods = t.good_methods.1;
        attributes = t.good_attributes;
      };
    })

pub class_file_takes : TestsDecide → (bytes : List ℕ) (c : ClassFile) → IsBytes bytes → class_file_of bytes ≡ Ok c → IsClassFile bytes c
unfolding class_file_of
class_file_takes d bytes c fits e =
    let header = step_takes header_reads (start_of bytes) fits e in
    let pool = step_takes (lifted_reads class_errors.Pool (pool_reads d)) header.next header.fits header.rest in
    let heading = step_takes (heading_reads d pool.value pool.good) pool.next pool.fits pool.rest in
    whole_takes header.value pool.value heading.value (start_of bytes) heading.next c header.good pool.good heading.good
    (Spans-then header.spans (Spans-then pool.spans heading.spans))
    (tail_takes d pool.value pool.good header.value heading.value heading.next c heading.fits heading.rest)

abbrev heading_of : ClassFile → Heading
heading_of c = record { flags = c.flags; this_class = c.this_class; super_class = c.super_class; interfaces = c.interfaces }

heading_valid : (c : ClassFile) → IsValid c → IsHeading c.pool (heading_of c)
heading_valid c v = record { flags = v.flags; this_class = v.this_class; super_class = v.super_class; interfaces = (v.interface_count, v.interfaces) }

pub class_file_again : TestsDecide → (bytes : List ℕ) (c : ClassFile) → IsClassFile bytes c → class_file_of bytes ≡ Ok c
unfolding class_file_of
class_file_again d bytes c file =
    let v = file.valid in
    let end : Cursor = record { place = length bytes; rest = [] } in
    let t3 : List ℕ = tail_bytes c.fields c.methods c.attributes in
    let t2 : List ℕ = heading_bytes (heading_of c) ++ t3 in
    let text : List ℕ = header_bytes c.minor c.major ++ (pool_bytes c.pool ++ t2) in
    let spelled : bytes ≡ text = file.spelled ∙ sym (parts_are (c.minor, c.major) c.pool (heading_of c) c.fields c.methods c.attributes) in
    let whole : Spans (start_of bytes) text end = record { parts = spelled ∙ sym (append-nil text); place = omega (arith, ap length spelled) } in
    let header = step_again header_reads (start_of bytes) (c.minor, c.major) (pool_bytes c.pool ++ t2) end (v.minor, v.major) whole in
    let pool = step_again (lifted_reads class_errors.Pool (pool_reads d)) header.0 c.pool t2 end v.pool header.2 in
    let heading = step_again (heading_reads d c.pool v.pool) pool.0 (heading_of c) t3 end (heading_valid c v) pool.2 in
    bind_again _ header.1 (bind_again _ pool.1 (bind_again _ heading.1
    (tail_again d c.pool v.pool (c.minor, c.major) (heading_of c) heading.0 end c.fields c.methods c.attributes (v.field_count, v.fields) (v.method_count, v.methods) v.attributes refl heading.2)))

-- bytes are of one class file only
pub one_class_file : TestsDecide → (bytes : List ℕ) (c e : ClassFile) → IsClassFile bytes c → IsClassFile bytes e → c ≡ e
one_class_file d bytes c e p q =
    let one = class_file_again d bytes c p in
    let other = class_file_again d bytes e q in
    cc

-- ---- faults

fields_refuse : (d : TestsDecide) (pool : List Constant) → IsPool pool → Refuses (table_at class_errors.Cut (member_at unqualified_name_test field_descriptor_test pool)) (FieldsFault pool)
fields_refuse d pool valid = table_refuses class_errors.Cut
    (member_reads unqualified_name_test field_descriptor_test IsUnqualifiedName IsFieldDescriptor d.unqualified_name d.field_descriptor pool valid)
    (member_refuses unqualified_name_test field_descriptor_test IsUnqualifiedName IsFieldDescriptor d.unqualified_name d.field_descriptor pool valid)

methods_refuse : (d : TestsDecide) (pool : List Constant) → IsPool pool → Refuses (table_at class_errors.Cut (member_at method_name_test method_descriptor_test pool)) (MethodsFault pool)
methods_refuse d pool valid = table_refuses class_errors.Cut
    (member_reads method_name_test method_descriptor_test IsMethodName IsMethodDescriptor d.method_name d.method_descriptor pool valid)
    (member_refuses method_name_test method_descriptor_test IsMethodName IsMethodDescriptor d.method_name d.method_descriptor pool valid)

-- the whole file, from where the reader stands
abbrev file_at : Cursor → Result ClassFile ClassError
file_at c = do
  header ← header_at c
  pool ← lifted class_errors.Pool (pool_at header.1)
  heading ← heading_at pool.0 pool.1
  tail_at pool.0 header.0 heading.0 heading.1

file_refuses : TestsDecide → Refuses file_at FileFault
file_refuses d =
    header_refuses_then _ (λ versions _.
    refuses_then _ (lifted_reads class_errors.Pool (pool_reads d)) (lifted_refuses class_errors.Pool (pool_refuses d)) (λ pool valid.
    heading_refuses_then d pool _ valid (λ heading _.
    refuses_then _ (fields_read d pool valid) (fields_refuse d pool valid) (λ fields _.
    refuses_then _ (methods_read d pool valid) (methods_refuse d pool valid) (λ methods _.
    refuses_then _ (attributes_read pool valid) (attributes_refuse pool valid) (λ attributes _.
    end_refuses class_errors.Trailing (whole_of pool versions heading fields methods attributes)))))))

-- the first fault is what the reader meets
pub fault_reported : TestsDecide → (bytes : List ℕ) (e : ClassError) → IsBytes bytes → class_file_of bytes ≡ Err e → IsFault bytes e
unfolding class_file_of
fault_reported d bytes e fits h = (file_refuses d).says (start_of bytes) e fits h

pub fault_again : TestsDecide → (bytes : List ℕ) (e : ClassError) → IsFault bytes e → class_file_of bytes ≡ Err e
unfolding class_file_of
fault_again d bytes e fault = (file_refuses d).again (start_of bytes) e fault
