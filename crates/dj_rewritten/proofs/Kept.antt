-- An index of the original constants names the same as before, with `sandbox/` before each class's name.
use Rattle.std.proofs.Common.{◌≡◌, ℕ, List, [], Option, Some, None, option_and_then, refl, sym, ap, ◌∙◌, inl, inr, unwrap_or}
use Rattle.std.specs.Prelude.{IsSomeAnd, ⊤}
use Rattle.std.specs.Option.{option_map}
use Rattle.dj_names.specs.declared.descriptor.Ty.{Ty}
use Rattle.dj_names.specs.declared.descriptor.Desc.{Desc}
use Rattle.dj_names.specs.declared.descriptor.Desc.TheVariants as descs
use Rattle.dj_names.specs.trusted.Types.{Name}
use Rattle.dj_names.specs.Types.{in_sandbox, type_map}
use Rattle.dj_names.specs.trusted.Descriptors.{Describes, IsFieldDescriptor, IsMethodDescriptor}
use Rattle.dj_pool.specs.trusted.Pool.{Constant, Utf8, Integer, Float, Long, Double, Class, Text, Field, Method, InterfaceMethod, NameAndType, Handle, MethodType, Dynamic, Hole, constant_at, text_at, class_text_of, names_of, name_and_type_at, both, IsClassText, NamesAnyClass, NamesDesc, AreNames, IsLinked}
use Rattle.dj_model.specs.trusted.Types.{Member}
use Rattle.dj_model.specs.Types.{member_map}
use Rattle.dj_model.specs.trusted.Instructions.{Named, AText, AClass, AField, AMethod, AnInterfaceMethod}
use Rattle.dj_model.specs.Instructions.{named_map}
use Rattle.dj_declarations.specs.trusted.Files.{type_in, desc_in}
use Rattle.dj_program.specs.trusted.Naming.{units_in, named_at, named_by, named_or_another, member_in, member_from}
use Rattle.dj_rename.specs.Names.{renamed_class, renamed_desc}
use Rattle.dj_rename.specs.Pools.{appended_texts, renamed_constant, rewritten_pool}
use Rattle.dj_rename.proofs.NameLaws.{type_renamed, desc_renamed}
use Rattle.dj_rename.proofs.PoolLaws.{constant_kept, text_kept, class_named, names_named}

-- what is there, and meets a condition
pub record There {A : Type 0} (P : A → Type 0) (o : Option A) : Type 0 where
  pub value : A
  pub is : o ≡ Some value
  pub such : P value

pub there : {A : Type 0} (P : A → Type 0) (o : Option A) → IsSomeAnd o P → There P o
there P (Some a) h = record { value = a; is = refl; such = h }
there P None h = absurd h

-- the class of a constant, with its text
record ClassThere (pool : List Constant) (index : ℕ) : Type 0 where
  name : ℕ
  text : Name
  constant : constant_at pool index ≡ Some (Class name)
  spelled : text_at pool name ≡ Some text
  is_text : IsClassText text

-- a name and descriptor, with their texts
record NamesThere (pool : List Constant) (index : ℕ) : Type 0 where
  name : ℕ
  desc : ℕ
  name_text : Name
  desc_text : Name
  constant : constant_at pool index ≡ Some (NameAndType name desc)
  name_spelled : text_at pool name ≡ Some name_text
  desc_spelled : text_at pool desc ≡ Some desc_text
  d : Desc
  describes : Describes desc_text d

module _ (pool : List Constant) (members : List ℕ) (linked : (i : ℕ) (k : Constant) → constant_at pool i ≡ Some k → IsLinked pool k) where
  abbrev new : List Constant
  new = rewritten_pool pool members

  class_of : (index name : ℕ) → constant_at pool index ≡ Some (Class name) → ClassThere pool index
  class_of index name h = let t = there IsClassText (text_at pool name) (linked index (Class name) h) in
      record { name = name; text = t.value; constant = h; spelled = t.is; is_text = t.such }

  any_class : (index : ℕ) → NamesAnyClass pool index → ClassThere pool index
  any_class index h = go (constant_at pool index) refl h where
    go : (o : Option Constant) → constant_at pool index ≡ o → IsSomeAnd (option_and_then class_text_of o) (λ _. ⊤) → ClassThere pool index
    go (Some (Class name)) e h = class_of index name e
    go None e h = absurd h
    go (Some k) e h = absurd h

  names_from : (index name desc : ℕ) → constant_at pool index ≡ Some (NameAndType name desc) → NamesThere pool index
  names_from index name desc h = go (linked index (NameAndType name desc) h) where
    go : AreNames pool name desc → NamesThere pool index
    go (inl field) = let n = there _ (text_at pool name) field.0 in let d = there IsFieldDescriptor (text_at pool desc) field.1 in
        record { name = name; desc = desc; name_text = n.value; desc_text = d.value; constant = h; name_spelled = n.is; desc_spelled = d.is; d = descs.Field d.such.0; describes = d.such.1 }
    go (inr method) = let n = there _ (text_at pool name) method.0 in let d = there IsMethodDescriptor (text_at pool desc) method.1 in
        record { name = name; desc = desc; name_text = n.value; desc_text = d.value; constant = h; name_spelled = n.is; desc_spelled = d.is; d = descs.Method d.such.0 d.such.1; describes = d.such.2 }

  any_names : (P : Name → Type 0) (index : ℕ) → NamesDesc P pool index → NamesThere pool index
  any_names P index h = go (constant_at pool index) refl h where
    go : (o : Option Constant) → constant_at pool index ≡ o → IsSomeAnd (option_and_then (λ (n : ℕ × ℕ). text_at pool n.1) (option_and_then names_of o)) P → NamesThere pool index
    go (Some (NameAndType name desc)) e h = names_from index name desc e
    go None e h = absurd h
    go (Some k) e h = absurd h

  -- the member that a class and a name and descriptor make
  member_kept : (class names : ℕ) → ClassThere pool class → NamesThere pool names → member_in new class names ≡ option_map (member_map in_sandbox) (member_in pool class names)
  member_kept class names c n =
      ap (λ (o : Option Name). option_map member_from (both o (name_and_type_at new names))) (class_named pool members class c.name c.text c.constant c.spelled)
      ∙ ap (λ (o : Option (Name × Name)). option_map member_from (both (Some (renamed_class c.text)) o))
      (names_named pool members names n.name n.desc n.name_text n.desc_text n.constant n.name_spelled n.desc_spelled)
      ∙ ap (λ (ty : Ty). Some (record { class = ty; name = n.name_text; desc = desc_in (renamed_desc n.desc_text) })) (type_renamed c.text c.is_text)
      ∙ ap (λ (d : Desc). Some (record { class = type_map in_sandbox (type_in c.text); name = n.name_text; desc = d })) (desc_renamed n.desc_text n.d n.describes)
      ∙ sym (ap (option_map (member_map in_sandbox)) before) where
        before : member_in pool class names ≡ Some (member_from (c.text, (n.name_text, n.desc_text)))
        before =
            ap (λ (o : Option Constant). option_map member_from (both (option_and_then (text_at pool) (option_and_then class_text_of o)) (name_and_type_at pool names))) c.constant
            ∙ ap (λ (o : Option Name). option_map member_from (both o (name_and_type_at pool names))) c.spelled
            ∙ ap (λ (o : Option Constant). option_map member_from (both (Some c.text) (option_and_then (λ (x : ℕ × ℕ). both (text_at pool x.0) (text_at pool x.1)) (option_and_then names_of o)))) n.constant
            ∙ ap (λ (o : Option Name). option_map member_from (both (Some c.text) (both o (text_at pool n.desc)))) n.name_spelled
            ∙ ap (λ (o : Option Name). option_map member_from (both (Some c.text) (both (Some n.name_text) o))) n.desc_spelled

  as_named : (A : Member → Named) → ((m : Member) → named_map in_sandbox (A m) ≡ A (member_map in_sandbox m)) → (o p : Option Member) → p ≡ option_map (member_map in_sandbox) o
      → named_or_another (option_map A p) ≡ named_map in_sandbox (named_or_another (option_map A o))
  as_named A maps None p e = ap (λ (x : Option Member). named_or_another (option_map A x)) e
  as_named A maps (Some m) p e = ap (λ (x : Option Member). named_or_another (option_map A x)) e ∙ sym (maps m)

  -- what a constant names
  by_kept : (i : ℕ) (k : Constant) → constant_at pool i ≡ Some k → named_by new (renamed_constant pool (appended_texts pool members) k) ≡ named_map in_sandbox (named_by pool k)
  unfolding named_by class_of
  by_kept i (Utf8 t) h = refl
  by_kept i (Integer n) h = refl
  by_kept i (Float n) h = refl
  by_kept i (Long n) h = refl
  by_kept i (Double n) h = refl
  by_kept i (Class name) h =
      let c = class_of i name h in
      ap (λ (o : Option Name). AClass (type_in (unwrap_or o [])))
      (sym (ap (λ (o : Option Constant). option_and_then (text_at new) (option_and_then class_text_of o)) (constant_kept pool members i (Class name) h))
      ∙ class_named pool members i name c.text h c.spelled)
      ∙ ap AClass (type_renamed c.text c.is_text)
      ∙ sym (ap (λ (o : Option Name). AClass (type_map in_sandbox (type_in (unwrap_or o [])))) c.spelled)
  by_kept i (Text text) h =
      let t = there _ (text_at pool text) (linked i (Text text) h) in
      ap (λ (o : Option Name). AText (units_in (unwrap_or o []))) (text_kept pool members text t.value t.is ∙ sym t.is)
  by_kept i (Field c n) h = let l = linked i (Field c n) h in as_named AField (λ m. refl) (member_in pool c n) (member_in new c n) (member_kept c n (any_class c l.0) (any_names IsFieldDescriptor n l.1))
  by_kept i (Method c n) h = let l = linked i (Method c n) h in as_named AMethod (λ m. refl) (member_in pool c n) (member_in new c n) (member_kept c n (any_class c l.0) (any_names IsMethodDescriptor n l.1))
  by_kept i (InterfaceMethod c n) h = let l = linked i (InterfaceMethod c n) h in as_named AnInterfaceMethod (λ m. refl) (member_in pool c n) (member_in new c n) (member_kept c n (any_class c l.0) (any_names IsMethodDescriptor n l.1))
  by_kept i (NameAndType n d) h = refl
  by_kept i (Handle n m) h = refl
  by_kept i (MethodType n) h = refl
  by_kept i (Dynamic b n) h = refl
  by_kept i Hole h = refl

  pub named_kept : (i : ℕ) (k : Constant) → constant_at pool i ≡ Some k → named_at new i ≡ named_map in_sandbox (named_at pool i)
  named_kept i k h =
      ap (λ (o : Option Constant). named_or_another (option_map (named_by new) o)) (constant_kept pool members i k h)
      ∙ by_kept i k h
      ∙ sym (ap (λ (o : Option Constant). named_map in_sandbox (named_or_another (option_map (named_by pool) o))) h)
