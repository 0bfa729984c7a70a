-- No two members of a class of accepted files are declared alike, nor of a library's.
use Rattle.std.proofs.Common.{◌≡◌, ℕ, zero, suc, ◌<◌, Bool, true, false, ◌&&◌, List, [], ◌∷◌, map, Some, Contains, refl, sym, ap, ◌∙◌, subst, inl, inr, arith, IsTrue}
use Rattle.std.specs.Prelude.{slice_get}
use Rattle.std.specs.List.{list_any}
use Rattle.dj_edge.specs.trusted.Held.{File}
use Rattle.dj_names.specs.trusted.Types.{Name, same_name, same_desc}
use Rattle.dj_names.specs.trusted.Library.{Library, deterministic_library, raw_library}
use Rattle.dj_pool.specs.trusted.Pool.{Constant, text_at}
use Rattle.dj_class.specs.trusted.ClassFile.{MemberInfo, ClassFile, IsMember, IsField, IsMethod}
use Rattle.dj_names.specs.trusted.Descriptors.{IsFieldDescriptor, IsMethodDescriptor}
use Rattle.dj_names.specs.declared.descriptor.Desc.TheVariants as descs
use Rattle.dj_report.specs.trusted.Lines.{file_line}
use Rattle.dj_model.specs.trusted.Program.{Class, Method, Field, is_named}
use Rattle.dj_model.specs.trusted.Libraries.{library_class, library_program}
use Rattle.dj_model.specs.Libraries.{metered_program, raw_program}
use Rattle.dj_model.specs.Sound.{fields_differ, methods_differ, IsSound}
use Rattle.dj_model.proofs.SoundPrograms.{libraries_are_sound}
use Rattle.dj_early_rules.specs.trusted.Heads.{HasRepeats}
use Rattle.dj_declarations.specs.trusted.Files.{name_in, desc_in, declared_method}
use Rattle.dj_declarations.specs.Members.{IsDescriptor}
use Rattle.dj_declarations.proofs.DescTests.{same_name_is, is_descriptor, same_texts}
use Rattle.dj_class_table.proofs.Rising.{members_joined}
use Rattle.dj_loader.proofs.Lists.{some_of_map, member_mapped}
use Rattle.dj_program.specs.trusted.Programs.{AreSideBySide, IsMethodIn, field_in_file}
use Rattle.dj_sound.specs.Accepted.{IsAcceptedBy, OfAcceptedBy}
use Rattle.dj_sound.specs.Laws.{HasApartMembers, MembersDiffer}
use Rattle.dj_sound.proofs.Tests.{text_or, some_and, each_at}
use Rattle.dj_sound.proofs.Origins.{rows_of, IsOfFile, IsRow, origin, no_line}

-- ---- lists

both : (a b : Bool) → (a && b) ≡ true → (a ≡ true) × (b ≡ true)
both true b e = (refl, e)
both false b e = absurd cc

-- of none of which a test holds, one after the other
any_none : {A : Type 0} (test : A → Bool) (xs : List A) → ((k : ℕ) (x : A) → slice_get xs k ≡ Some x → test x ≡ true → ⊥) → list_any test xs ≡ false
any_none test [] none = refl
any_none test (x ∷ xs) none = by (test x) refl (any_none test xs (λ k y e t. none (suc k) y e t)) where
  by : (b : Bool) → test x ≡ b → list_any test xs ≡ false → list_any test (x ∷ xs) ≡ false
  by true e rest = absurd (none zero x refl e)
  by false e rest = rw e rest

fields_apart : (fields : List Field) → ((i k : ℕ) (a b : Field) → i < k → slice_get fields i ≡ Some a → slice_get fields k ≡ Some b → is_named a.name a.desc b.name b.desc ≡ true → ⊥)
    → fields_differ fields ≡ true
fields_apart [] apart = refl
fields_apart (f ∷ fields) apart =
    let first : list_any (λ (other : Field). is_named f.name f.desc other.name other.desc) fields ≡ false =
    any_none (λ (other : Field). is_named f.name f.desc other.name other.desc) fields (λ k x e t. apart zero (suc k) f x (omega arith) refl e t) in
    let rest : fields_differ fields ≡ true = fields_apart fields (λ i k a b lt p q t. apart (suc i) (suc k) a b (omega (arith, lt)) p q t) in
    rw (first, rest) refl

methods_apart : (methods : List Method) → ((i k : ℕ) (a b : Method) → i < k → slice_get methods i ≡ Some a → slice_get methods k ≡ Some b → is_named a.name a.desc b.name b.desc ≡ true → ⊥)
    → methods_differ methods ≡ true
methods_apart [] apart = refl
methods_apart (m ∷ methods) apart =
    let first : list_any (λ (other : Method). is_named m.name m.desc other.name other.desc) methods ≡ false =
    any_none (λ (other : Method). is_named m.name m.desc other.name other.desc) methods (λ k x e t. apart zero (suc k) m x (omega arith) refl e t) in
    let rest : methods_differ methods ≡ true = methods_apart methods (λ i k a b lt p q t. apart (suc i) (suc k) a b (omega (arith, lt)) p q t) in
    rw (first, rest) refl

-- ---- members of class files

pub field_described : (text : List ℕ) → IsFieldDescriptor text → IsDescriptor text
field_described text (ty, is) = is_descriptor text (descs.Field ty) is

pub method_described : (text : List ℕ) → IsMethodDescriptor text → IsDescriptor text
method_described text (params, ret, is) = is_descriptor text (descs.Method params ret) is

module _ (IsName IsDesc : List ℕ → Type 0) (described : (text : List ℕ) → IsDesc text → IsDescriptor text) (pool : List Constant) where
  alike : (a b : MemberInfo) → IsMember IsName IsDesc pool a → IsMember IsName IsDesc pool b
      → is_named (name_in pool a.name) (desc_in (name_in pool a.desc)) (name_in pool b.name) (desc_in (name_in pool b.desc)) ≡ true
      → (text_at pool a.name ≡ text_at pool b.name) × (text_at pool a.desc ≡ text_at pool b.desc)
  alike a b p q e =
      let (an, an_is, an_such) = some_and (text_at pool a.name) IsName p.name in
      let (ad, ad_is, ad_such) = some_and (text_at pool a.desc) IsDesc p.desc in
      let (bn, bn_is, bn_such) = some_and (text_at pool b.name) IsName q.name in
      let (bd, bd_is, bd_such) = some_and (text_at pool b.desc) IsDesc q.desc in
      let a_name : name_in pool a.name ≡ an = ap text_or an_is in
      let a_desc : name_in pool a.desc ≡ ad = ap text_or ad_is in
      let b_name : name_in pool b.name ≡ bn = ap text_or bn_is in
      let b_desc : name_in pool b.desc ≡ bd = ap text_or bd_is in
      let tests = both (same_name (name_in pool b.name) (name_in pool a.name)) (same_desc (desc_in (name_in pool b.desc)) (desc_in (name_in pool a.desc))) e in
      let names : bn ≡ an = sym b_name ∙ (same_name_is (name_in pool b.name) (name_in pool a.name) tests.0 ∙ a_name) in
      let same : same_desc (desc_in bd) (desc_in ad) ≡ true =
      subst (λ (t : Name). same_desc (desc_in bd) (desc_in t) ≡ true) a_desc
      (subst (λ (t : Name). same_desc (desc_in t) (desc_in (name_in pool a.desc)) ≡ true) b_desc tests.1) in
      let descs : bd ≡ ad = same_texts bd ad (described bd bd_such) (described ad ad_such) same in
      (an_is ∙ (ap Some (sym names) ∙ sym bn_is), ad_is ∙ (ap Some (sym descs) ∙ sym bd_is))

-- the method at a place is that of the class file's
pub side_at : {A B : Type 0} (Stand : A → B → Type 0) (xs : List A) (ys : List B) (k : ℕ) (y : B) → AreSideBySide Stand xs ys → slice_get ys k ≡ Some y
    → (x : A) × (slice_get xs k ≡ Some x) × Stand x y
side_at Stand [] [] k y each e = absurd cc
side_at Stand [] (b ∷ ys) k y each e = absurd each
side_at Stand (a ∷ xs) [] k y each e = absurd each
side_at Stand (a ∷ xs) (b ∷ ys) zero y each e = let same : b ≡ y = cc in (a, refl, subst (Stand a) same each.0)
side_at Stand (a ∷ xs) (b ∷ ys) (suc k) y each e = side_at Stand xs ys k y each.1 e

-- ---- classes of files

module _ {judge : Library} (files : List File) (classes : List ClassFile) (accepted : IsAcceptedBy judge files classes) (class : Class) (of : IsOfFile files classes class) where
  -- rule 6
  no_repeats : HasRepeats of.read → ⊥
  no_repeats repeats = no_line files classes accepted (file_line of.file.0 6)
      (inl (inr (inr (record { file = of.file; own = of.among; class = of.read; good = of.good; such = inr repeats; line = refl }))))

  fields_of_file : fields_differ (map (field_in_file of.read.pool) of.read.fields) ≡ true
  fields_of_file = fields_apart (map (field_in_file of.read.pool) of.read.fields) (λ i k a b lt p q t.
      let (one, one_is, one_reported) = some_of_map (field_in_file of.read.pool) of.read.fields i a p in
      let (two, two_is, two_reported) = some_of_map (field_in_file of.read.pool) of.read.fields k b q in
      let t1 : is_named (field_in_file of.read.pool one).name (field_in_file of.read.pool one).desc b.name b.desc ≡ true =
      subst (λ (x : Field). is_named x.name x.desc b.name b.desc ≡ true) (sym one_reported) t in
      let t2 : is_named (field_in_file of.read.pool one).name (field_in_file of.read.pool one).desc (field_in_file of.read.pool two).name (field_in_file of.read.pool two).desc ≡ true =
      subst (λ (x : Field). is_named (field_in_file of.read.pool one).name (field_in_file of.read.pool one).desc x.name x.desc ≡ true) (sym two_reported) t1 in
      let valid = of.good.file.valid.fields in
      let same = alike _ IsFieldDescriptor field_described of.read.pool one two (each_at (IsField of.read.pool) of.read.fields i one valid one_is) (each_at (IsField of.read.pool) of.read.fields k two valid two_is) t2 in
      no_repeats (inl (record { first = i; other = k; apart = lt; one = one; one_is = one_is; two = two; two_is = two_is; name = same.0; desc = same.1 })))

  methods_of_file : methods_differ of.is.methods ≡ true
  methods_of_file = methods_apart of.is.methods (λ i k a b lt p q t.
      let (one, one_is, one_reported) = side_at (IsMethodIn of.read.pool) of.read.methods of.is.methods i a of.is.each p in
      let (two, two_is, two_reported) = side_at (IsMethodIn of.read.pool) of.read.methods of.is.methods k b of.is.each q in
      let t1 : is_named (declared_method of.read.pool one).name (declared_method of.read.pool one).desc b.name b.desc ≡ true =
      subst (λ (x : Method). is_named x.name x.desc b.name b.desc ≡ true) one_reported.is t in
      let t2 : is_named (declared_method of.read.pool one).name (declared_method of.read.pool one).desc (declared_method of.read.pool two).name (declared_method of.read.pool two).desc ≡ true =
      subst (λ (x : Method). is_named (declared_method of.read.pool one).name (declared_method of.read.pool one).desc x.name x.desc ≡ true) two_reported.is t1 in
      let valid = of.good.file.valid.methods in
      let same = alike _ IsMethodDescriptor method_described of.read.pool one two (each_at (IsMethod of.read.pool) of.read.methods i one valid one_is) (each_at (IsMethod of.read.pool) of.read.methods k two valid two_is) t2 in
      no_repeats (inr (record { first = i; other = k; apart = lt; one = one; one_is = one_is; two = two; two_is = two_is; name = same.0; desc = same.1 })))

  pub file_members : IsTrue (fields_differ class.fields) × IsTrue (methods_differ class.methods)
  file_members = (
    subst (λ (x : Class). IsTrue (fields_differ x.fields)) (sym of.is.is) fields_of_file,
    subst (λ (x : Class). IsTrue (methods_differ x.methods)) (sym of.is.is) methods_of_file,
  )

-- ---- classes of libraries

abbrev pub IsSoundLibrary : Library → Type 0
IsSoundLibrary library = IsSound (library_program library) []

pub deterministic_sound : IsSoundLibrary deterministic_library
unfolding metered_program
deterministic_sound = libraries_are_sound.deterministic

pub raw_sound : IsSoundLibrary raw_library
unfolding raw_program
raw_sound = libraries_are_sound.raw

pub row_member : (library : Library) (class : Class) → IsRow library class → Contains (library_program library) class
row_member library class (row, m, e) =
    subst (Contains (library_program library)) e
    ((members_joined (rows_of library) (library_class row)).1 (member_mapped library_class library row m))

row_members : (library : Library) → IsSoundLibrary library → (class : Class) → IsRow library class → IsTrue (fields_differ class.fields) × IsTrue (methods_differ class.methods)
row_members library sound class row =
    let formed = sound.formed.classes class (row_member library class row) in
    (formed.fields, formed.methods)

-- ---- both

pub members : {judge : Library} (library : Library) → IsSoundLibrary library → OfAcceptedBy judge library HasApartMembers
members library sound files classes program accepted is class m =
    elim (origin library files classes program accepted.good is class m) [
      | inl of ↦ file_members files classes accepted class of
      | inr row ↦ row_members library sound class row
    ]

pub members_differ : MembersDiffer
members_differ = record { deterministic = members deterministic_library deterministic_sound; raw = members raw_library raw_sound }
