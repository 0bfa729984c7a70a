-- A text means one file at most.
use Rattle.std.proofs.Common.{◌≡◌, ℕ, ◌+◌, ℤ, unsigned_abs, Bool, true, false, List, [], ◌∷◌, map, refl, sym, ap, ap₂, ◌∙◌, subst}
use Rattle.std.specs.List.{flat_map, AllZip}
use Rattle.dj_names.specs.trusted.Types.{Name}
use Rattle.dj_names.specs.trusted.Descriptors.{slots_of}
use Rattle.dj_names.specs.declared.descriptor.Desc.{Desc}
use Rattle.dj_names.proofs.DescLaws.{described_once}
use Rattle.dj_ops.specs.declared.instruction.Instr.{Instr}
use Rattle.dj_ops.specs.declared.instruction.Instr.TheVariants as instrs
use Rattle.dj_labels.specs.declared.labelled.Protected.{Protected}
use Rattle.dj_labels.specs.declared.labelled.Labelled.{Labelled}
use Rattle.dj_layout.specs.declared.laid.Laid.{Laid}
use Rattle.dj_layout.specs.trusted.Layouts.{IsLaidOut}
use Rattle.dj_layout.proofs.Once.{one_layout_is}
use Rattle.dj_class.specs.trusted.ClassFile.{MemberInfo, ClassFile, class_bytes}
use Rattle.dj_class.specs.trusted.Code.{CodeInfo, code_info_bytes}
use Rattle.dj_asm_source.specs.trusted.Lines.{Operation, Member, Line}
use Rattle.dj_asm_source.specs.trusted.Sources.{Source, MethodSource, Bodiless, Coded, body_lines}
use Rattle.dj_asm_source.proofs.OneSource.{one_source}
use Rattle.dj_asm_pool.specs.trusted.Entries.{Entry, Utf8, pool_of}
use Rattle.dj_asm_pool.specs.trusted.Needs.{member_entry, code_name, entries_of, index_in}
use Rattle.dj_asm.specs.trusted.Codes.{Places, IsInterfaceCall, IsMemberInstr, is_interface_call, IsInstrOf, operation_in, AreInstrsOf, stack_map_of, frames_in, IsCodeOf}
use Rattle.dj_asm.specs.trusted.Files.{field_of, places_of, IsMethodOf, major_of, minor_of, class_index, IsFileOf}
use Rattle.dj_asm.specs.trusted.Texts.{IsTextOfBytes}

-- ---- instructions

call_same : (index : ℕ) (desc : Name) (i j : Instr) → IsInterfaceCall index desc i → IsInterfaceCall index desc j → i ≡ j
call_same index desc i j p q =
    p.instruction ∙ (ap (λ (d : Desc). instrs.Interface index (slots_of d + 1)) (described_once desc p.described q.described p.describes q.describes) ∙ sym q.instruction)

member_same : (interface : Bool) (op index : ℕ) (desc : Name) (i j : Instr) → IsMemberInstr interface op index desc i → IsMemberInstr interface op index desc j → i ≡ j
member_same true op index desc i j p q = call_same index desc i j p q
member_same false op index desc i j p q = p ∙ sym q

-- an operation is one instruction
pub one_instr : (places : Places) (o : Operation) (i j : Instr) → IsInstrOf places o i → IsInstrOf places o j → i ≡ j
one_instr places (Member op class name desc interface) i j p q =
    member_same (is_interface_call op) op (places.index (member_entry op class name desc interface)) desc i j p q
one_instr places o i j p q = p ∙ sym q

zip_same : {A B : Type 0} (R : A → B → Type 0) → ((a : A) (x y : B) → R a x → R a y → x ≡ y) → (items : List A) (xs ys : List B) → AllZip R items xs → AllZip R items ys → xs ≡ ys
zip_same R one [] [] [] p q = refl
zip_same R one [] [] (y ∷ ys) p q = absurd q
zip_same R one [] (x ∷ xs) ys p q = absurd p
zip_same R one (a ∷ items) [] ys p q = absurd p
zip_same R one (a ∷ items) (x ∷ xs) [] p q = absurd q
zip_same R one (a ∷ items) (x ∷ xs) (y ∷ ys) p q = ap₂ (λ z zs. z ∷ zs) (one a x y p.0 q.0) (zip_same R one items xs ys p.1 q.1)

-- a body has one list of instructions
pub one_code : (places : Places) (body : List Line) (xs ys : List Instr) → AreInstrsOf places body xs → AreInstrsOf places body ys → xs ≡ ys
one_code places body xs ys p q = zip_same (IsInstrOf places) (one_instr places) (flat_map operation_in body) xs ys p q

-- ---- methods

labelled_same : (a b : Labelled) → a.code ≡ b.code → a.ranges ≡ b.ranges → a ≡ b
labelled_same a b code ranges = ap₂ (λ (c : List Instr) (r : List Protected). record { code = c; ranges = r }) code ranges

abbrev code_with : Places → ℤ → ℤ → List Line → Laid → CodeInfo
code_with places stack locals body laid = record {
  max_stack = unsigned_abs stack;
  max_locals = unsigned_abs locals;
  code = laid.code;
  table = laid.table;
  attributes = stack_map_of places laid.starts (frames_in places 0 body);
}

-- a body has one Code attribute
pub one_code_info : (places : Places) (stack locals : ℤ) (body : List Line) (c d : CodeInfo) → IsCodeOf places stack locals body c → IsCodeOf places stack locals body d → c ≡ d
one_code_info places stack locals body c d p q =
    let labels : p.labelled ≡ q.labelled =
    labelled_same p.labelled q.labelled (one_code places body p.labelled.code q.labelled.code p.instructions q.instructions) (p.ranges ∙ sym q.ranges) in
    let laid : p.laid ≡ q.laid = one_layout_is q.labelled p.laid q.laid (subst (λ l. IsLaidOut l p.laid) labels p.laid_out) q.laid_out in
    p.code_is ∙ (ap (code_with places stack locals body) laid ∙ sym q.code_is)

method_same : (index : Entry → ℕ) (source : MethodSource) (m n : MemberInfo) → IsMethodOf index source m → IsMethodOf index source n → m ≡ n
method_same index (Bodiless flags name desc) m n p q = p ∙ sym q
method_same index (Coded flags name desc stack locals body) m n p q =
    p.method
    ∙ (ap (λ (c : CodeInfo). record { flags = flags; name = index (Utf8 name); desc = index (Utf8 desc); attributes = record { name = index code_name; body = code_info_bytes c } ∷ [] })
    (one_code_info (places_of index (body_lines body)) stack locals (body_lines body) p.code q.code p.is_code q.is_code)
    ∙ sym q.method)

-- ---- files

-- a source means one file
pub one_class_file : (s : Source) (c d : ClassFile) → IsFileOf s c → IsFileOf s d → c ≡ d
one_class_file s c d p q = p.file ∙ (ap with_methods (zip_same (IsMethodOf (index_in s)) (method_same (index_in s)) s.methods p.methods q.methods p.are_methods q.are_methods) ∙ sym q.file) where
  with_methods : List MemberInfo → ClassFile
  with_methods methods = record {
    minor = minor_of s.version;
    major = major_of s.version;
    pool = pool_of (entries_of s);
    flags = s.flags;
    this_class = class_index s s.name;
    super_class = class_index s s.super;
    interfaces = map (class_index s) s.interfaces;
    fields = map (field_of (index_in s)) s.fields;
    methods = methods;
    attributes = [];
  }

-- a text means one file's bytes at most
pub one_file : (text b c : List ℕ) → IsTextOfBytes text b → IsTextOfBytes text c → b ≡ c
one_file text b c p q =
    let same : p.source ≡ q.source = one_source text p.source q.source p.is_text q.is_text in
    p.spelled ∙ (ap class_bytes (one_class_file q.source p.file q.file (subst (λ s. IsFileOf s p.file) same p.is_file) q.is_file) ∙ sym q.spelled)
