-- A rewritten file is a valid class file.
use Rattle.std.proofs.Common.{◌≡◌, ℕ, zero, suc, ◌+◌, ◌<◌, ◌≤◌, ◌^◌, Bool, true, false, List, [], ◌∷◌, ◌++◌, map, filter, length, Option, Some, refl, sym, ap, subst, ◌∙◌, arith, codes, if◌then◌else◌}
use Rattle.std.specs.Prelude.{⊤, All, Contains, IsSomeAnd}
use Rattle.std.specs.Option.{option_map}
use Rattle.std.specs.Int.Bits.{bit_and}
use Rattle.std.specs.List.{AllByRecursion}
use Rattle.std.proofs.lemmas.List.Elements.{All-from_recursion}
use Rattle.std.proofs.lemmas.Nat.{and_le_l}
use Rattle.dj_names.specs.declared.descriptor.Desc.TheVariants as descs
use Rattle.dj_names.specs.trusted.Types.{Name}
use Rattle.dj_names.specs.Types.{in_sandbox}
use Rattle.dj_names.specs.trusted.Names.{IsUnqualifiedName, IsMethodName, IsClassName}
use Rattle.dj_names.specs.trusted.Descriptors.{IsFieldDescriptor, IsMethodDescriptor}
use Rattle.dj_pool.specs.trusted.Pool.{Constant, constant_at, text_at, class_name_at, NamesText, IsLinked, IsPool}
use Rattle.dj_class.specs.trusted.ClassFile.{AttributeInfo, MemberInfo, ClassFile, NamesClass, IsAttribute, AreAttributes, IsField, IsMethod, IsValid}
use Rattle.dj_early_rules.specs.trusted.Attributes.{is_named}
use Rattle.dj_model.specs.trusted.Program.{Program}
use Rattle.dj_rename.specs.Names.{renamed_desc}
use Rattle.dj_rename.specs.Pools.{desc_need, rewritten_pool}
use Rattle.dj_rename.specs.Refusals.{IsDescriptor, IsDescIndex}
use Rattle.dj_rename.proofs.NameLaws.{sandbox_name}
use Rattle.dj_rename.proofs.PoolLaws.{text_kept, need_met, in_name}
use Rattle.dj_rewritten.specs.Files.{desc_indexes, new_desc, rewritten_field}
use Rattle.dj_rewritten.proofs.Kept.{there}
use Rattle.dj_rewritten.proofs.Heads.{class_read}
use Rattle.dj_rewritten.proofs.Valid.{field_renamed, method_renamed}
use Rattle.dj_rewritten.proofs.Fields.{IsKnown}
use Rattle.dj_rewritten.proofs.ReadBack.{linked, field_known, method_known}
use Rattle.dj_rewrite.specs.declared.answers.MethodAnswer.{MethodAnswer}
use Rattle.dj_rewrite.specs.declared.answers.MethodAnswer.TheVariants as answers
use Rattle.dj_rewrite.specs.Answers.{desc_of, AnswersMethod, AreAnswers}
use Rattle.dj_rewrite.specs.Members.{method_with, methods_with}
use Rattle.dj_rewrite.proofs.NewMembers.{new_of}

pub at_some : {A : Type 0} (P : A → Type 0) (o : Option A) (a : A) → o ≡ Some a → P a → IsSomeAnd o P
at_some P o a e h = subst (λ (x : Option _). IsSomeAnd x P) (sym e) h

filter_short : (p : AttributeInfo → Bool) (list : List AttributeInfo) → length (filter p list) ≤ length list
filter_short p [] = omega arith
filter_short p (a ∷ list) = go (p a) (filter_short p list) where
  go : (b : Bool) → length (filter p list) ≤ length list → length (if b then a ∷ filter p list else filter p list) ≤ suc (length list)
  go true h = omega (arith, h)
  go false h = omega (arith, h)

filter_all : (P : AttributeInfo → Type 0) (p : AttributeInfo → Bool) (list : List AttributeInfo) → AllByRecursion P list → AllByRecursion P (filter p list)
filter_all P p [] h = tt
filter_all P p (a ∷ list) h = go (p a) (filter_all P p list h.1) where
  go : (b : Bool) → AllByRecursion P (filter p list) → AllByRecursion P (if b then a ∷ filter p list else filter p list)
  go true later = (h.0, later)
  go false later = later

all_contained : {A : Type 0} (P : A → Type 0) (xs : List A) (x : A) → AllByRecursion P xs → Contains xs x → P x
all_contained P [] x h (k, lt, is) = absurd (omega (arith, lt))
all_contained P (y ∷ xs) x h (zero, lt, is) = let e : y ≡ x = is in subst P e h.0
all_contained P (y ∷ xs) x h (suc k, lt, is) = all_contained P xs x h.1 (k, omega (arith, lt), is)

fewer_bits : (flags mask : ℕ) → flags < 2 ^ 16 → bit_and flags mask < 2 ^ 16
fewer_bits flags mask h = let less = and_le_l flags mask in omega (arith, less, h)

module _ (pool : List Constant) (members : List ℕ) (valid : IsPool pool) where
  abbrev new : List Constant
  new = rewritten_pool pool members

  links : (i : ℕ) (k : Constant) → constant_at pool i ≡ Some k → IsLinked pool k
  links = linked pool valid

  text_there : (P : Name → Type 0) (i : ℕ) → NamesText P pool i → NamesText P new i
  text_there P i h = let t = there P (text_at pool i) h in at_some P (text_at new i) t.value (text_kept pool members i t.value t.is) t.such

  pub class_there : (i : ℕ) → NamesClass pool i → NamesClass new i
  class_there i h =
      let t = there IsClassName (class_name_at pool i) h in
      at_some IsClassName (class_name_at new i) (in_sandbox t.value) (class_read pool members i h ∙ ap (option_map in_sandbox) t.is) (sandbox_name t.value t.such)

  pub classes_there : (is : List ℕ) → AllByRecursion (NamesClass pool) is → AllByRecursion (NamesClass new) is
  classes_there [] h = tt
  classes_there (i ∷ is) h = (class_there i h.0, classes_there is h.1)

  attribute_there : (a : AttributeInfo) → IsAttribute pool a → IsAttribute new a
  attribute_there a h = record { name = text_there (λ _. ⊤) a.name h.name; body = h.body }

  attributes_there : (list : List AttributeInfo) → AllByRecursion (IsAttribute pool) list → AllByRecursion (IsAttribute new) list
  attributes_there [] h = tt
  attributes_there (a ∷ list) h = (attribute_there a h.0, attributes_there list h.1)

  desc_there : (P : Name → Type 0) → ((text : Name) → P text → P (renamed_desc text)) → (m : MemberInfo) → NamesText P pool m.desc → IsKnown pool members links m → NamesText P new (new_desc pool members m)
  desc_there P keeps m h known =
      let t = there P (text_at pool m.desc) h in
      at_some P (text_at new (new_desc pool members m)) (renamed_desc t.value)
      (need_met pool members (desc_need pool m.desc m.desc) t.value known.needed t.is ∙ ap (λ (x : Name). Some (renamed_desc x)) (in_name pool members m.desc t.value t.is))
      (keeps t.value t.such)

  pub field_valid : (f : MemberInfo) → IsField pool f → Contains members f.desc → IsField new (rewritten_field pool members f)
  field_valid f h own = record {
    flags = h.flags;
    name = text_there IsUnqualifiedName f.name h.name;
    desc = desc_there IsFieldDescriptor field_renamed f h.desc (field_known pool members links f h own);
    attributes = record {
      count = (let short = filter_short (is_named pool (codes "ConstantValue")) f.attributes in let few = h.attributes.count in omega (arith, short, few));
      each = attributes_there (filter (is_named pool (codes "ConstantValue")) f.attributes) (filter_all (IsAttribute pool) (is_named pool (codes "ConstantValue")) f.attributes h.attributes.each);
    };
  }

  pub fields_valid : (fs : List MemberInfo) → AllByRecursion (IsField pool) fs → ((f : MemberInfo) → Contains fs f → Contains members f.desc) → AllByRecursion (IsField new) (map (rewritten_field pool members) fs)
  fields_valid [] h own = tt
  fields_valid (f ∷ fs) h own = (field_valid f h.0 (own f (0, omega arith, refl)), fields_valid fs h.1 (λ g (k, lt, is). own g (suc k, omega (arith, lt), is)))

  module _ (program : Program) (first : ℕ) where
    code_valid : (m : MemberInfo) (answer : MethodAnswer) → AreAttributes pool m.attributes → AnswersMethod program pool first m answer → AreAttributes new (method_with m answer 0).attributes
    code_valid m answers.Bodiless h a = record { count = omega arith; each = tt }
    code_valid m answers.TooLarge h a = record { count = omega arith; each = tt }
    code_valid m (answers.Rewritten code) h a =
        let named = all_contained (IsAttribute pool) (filter (is_named pool (codes "Code")) m.attributes) a.attribute (filter_all (IsAttribute pool) (is_named pool (codes "Code")) m.attributes h.each)
        (subst (λ (list : List AttributeInfo). Contains list a.attribute) (sym a.one) (0, omega arith, refl)) in
        let same : a.attribute.name ≡ code.name = ap (λ (x : AttributeInfo). x.name) (sym a.body.is) in
        record {
          count = omega arith;
          each = (record { name = subst (NamesText (λ _. ⊤) new) same (text_there (λ _. ⊤) a.attribute.name named.name); body = a.small }, tt);
        }

    pub method_valid : (m : MemberInfo) (answer : MethodAnswer) → IsMethod pool m → Contains members m.desc → AnswersMethod program pool first m answer → IsMethod new (method_with m answer (new_desc pool members m))
    method_valid m answer h own a = record {
      flags = fewer_bits m.flags 65503 h.flags;
      name = text_there IsMethodName m.name h.name;
      desc = desc_there IsMethodDescriptor method_renamed m h.desc (method_known pool members links m h own);
      attributes = code_valid m answer h.attributes a;
    }

    pub methods_valid : (ms : List MemberInfo) (made : List MethodAnswer) → AllByRecursion (IsMethod pool) ms → ((m : MemberInfo) → Contains ms m → Contains members m.desc) → AreAnswers program pool first ms made
        → AllByRecursion (IsMethod new) (methods_with ms made (map (new_of pool members) (map desc_of ms)))
    methods_valid [] [] h own a = tt
    methods_valid [] (x ∷ made) h own a = absurd a
    methods_valid (m ∷ ms) [] h own a = absurd a
    methods_valid (m ∷ ms) (x ∷ made) h own a = (
      method_valid m x h.0 (own m (0, omega arith, refl)) a.0,
      methods_valid ms made h.1 (λ n (k, lt, is). own n (suc k, omega (arith, lt), is)) a.1,
    )

-- ---- descriptors

descs_valid : {P : Name → Type 0} (pool : List Constant) (ms : List MemberInfo) → ((text : Name) → P text → IsDescriptor text) → AllByRecursion (λ (m : MemberInfo). NamesText P pool m.desc) ms
    → AllByRecursion (IsDescIndex pool) (map desc_of ms)
descs_valid pool [] described h = tt
descs_valid {P} pool (m ∷ ms) described h =
    let t = there P (text_at pool m.desc) h.0 in
    (at_some IsDescriptor (text_at pool m.desc) t.value t.is (described t.value t.such), descs_valid pool ms described h.1)

both_valid : (P : ℕ → Type 0) (xs ys : List ℕ) → AllByRecursion P xs → AllByRecursion P ys → AllByRecursion P (xs ++ ys)
both_valid P [] ys h i = i
both_valid P (x ∷ xs) ys h i = (h.0, both_valid P xs ys h.1 i)

field_descs_named : (pool : List Constant) (fs : List MemberInfo) → AllByRecursion (IsField pool) fs → AllByRecursion (λ (m : MemberInfo). NamesText IsFieldDescriptor pool m.desc) fs
field_descs_named pool [] h = tt
field_descs_named pool (f ∷ fs) h = (h.0.desc, field_descs_named pool fs h.1)

method_descs_named : (pool : List Constant) (ms : List MemberInfo) → AllByRecursion (IsMethod pool) ms → AllByRecursion (λ (m : MemberInfo). NamesText IsMethodDescriptor pool m.desc) ms
method_descs_named pool [] h = tt
method_descs_named pool (m ∷ ms) h = (h.0.desc, method_descs_named pool ms h.1)

pub descs_described : (c : ClassFile) → IsValid c → All (IsDescIndex c.pool) (desc_indexes c)
descs_described c valid =
    All-from_recursion (IsDescIndex c.pool) (desc_indexes c)
    (both_valid (IsDescIndex c.pool) (map desc_of c.fields) (map desc_of c.methods)
    (descs_valid c.pool c.fields (λ text d. (descs.Field d.0, d.1)) (field_descs_named c.pool c.fields valid.fields))
    (descs_valid c.pool c.methods (λ text d. (descs.Method d.0 d.1, d.2)) (method_descs_named c.pool c.methods valid.methods)))
