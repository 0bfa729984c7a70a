-- The fields and the heads of a rewritten class, read again.
use Rattle.std.proofs.Common.{◌≡◌, ℕ, Bool, true, false, List, [], ◌∷◌, map, filter, Option, Some, None, refl, sym, ap, ◌∙◌, codes, unwrap_or, nat_eq}
use Rattle.std.specs.List.{list_any, AllByRecursion}
use Rattle.std.specs.Cmp.Lexicographic.{pointwise}
use Rattle.dj_names.specs.declared.descriptor.Desc.{Desc}
use Rattle.dj_names.specs.trusted.Types.{Name}
use Rattle.dj_names.specs.Types.{in_sandbox, desc_map}
use Rattle.dj_names.specs.trusted.Descriptors.{Describes}
use Rattle.dj_pool.specs.trusted.Pool.{Constant, Utf8, Integer, Float, Long, Double, Class, Text, Field, Method, InterfaceMethod, NameAndType, Handle, MethodType, Dynamic, Hole, constant_at, text_at, IsLinked}
use Rattle.dj_class.specs.trusted.ClassFile.{AttributeInfo, MemberInfo}
use Rattle.dj_early_rules.specs.trusted.Attributes.{is_named, bodies_of, values_of}
use Rattle.dj_model.specs.trusted.Program as programs
use Rattle.dj_model.specs.Program.{field_map}
use Rattle.dj_declarations.specs.trusted.Files.{desc_in, name_in}
use Rattle.dj_program.specs.trusted.Naming.{units_in, constant_by, value_index, constant_of_body, constant_of_bodies, constant_in}
use Rattle.dj_program.specs.trusted.Programs.{field_in_file}
use Rattle.dj_rename.specs.Names.{renamed_desc}
use Rattle.dj_rename.specs.Pools.{desc_need, needs, appended_texts, renamed_constant, rewritten_pool}
use Rattle.dj_rewritten.specs.Files.{new_desc, rewritten_field}
use Rattle.dj_rename.proofs.NameLaws.{desc_renamed}
use Rattle.dj_rename.proofs.PoolLaws.{constant_kept, text_kept, need_met, in_name, is_need}
use Rattle.dj_rewritten.proofs.Kept.{there}
use Rattle.dj_rewritten.proofs.Bodies.{same_bodies, bodies_filtered}

abbrev is_named_by : Name → Option Name → Bool
is_named_by name None = false
is_named_by name (Some text) = pointwise nat_eq text name

module _ (pool : List Constant) (members : List ℕ) (linked : (i : ℕ) (k : Constant) → constant_at pool i ≡ Some k → IsLinked pool k) where
  abbrev new : List Constant
  new = rewritten_pool pool members

  -- what is known of a member of a valid file
  pub record IsKnown (m : MemberInfo) : Type 0 where
    pub name : Name
    pub desc : Name
    pub name_is : text_at pool m.name ≡ Some name
    pub desc_is : text_at pool m.desc ≡ Some desc
    pub d : Desc
    pub describes : Describes desc d
    pub needed : list_any (is_need (desc_need pool m.desc m.desc)) (needs pool members) ≡ true

  pub name_read : (m : MemberInfo) → IsKnown m → name_in new m.name ≡ name_in pool m.name
  name_read m h = in_name_new ∙ sym (in_name pool members m.name h.name h.name_is) where
    in_name_new : name_in new m.name ≡ h.name
    in_name_new = ap (λ (o : Option Name). unwrap_or o []) (text_kept pool members m.name h.name h.name_is)

  pub desc_read_again : (m : MemberInfo) → IsKnown m → desc_in (name_in new (new_desc pool members m)) ≡ desc_map in_sandbox (desc_in (name_in pool m.desc))
  desc_read_again m h =
      ap (λ (o : Option Name). desc_in (unwrap_or o [])) (need_met pool members (desc_need pool m.desc m.desc) h.desc h.needed h.desc_is)
      ∙ ap (λ (x : Name). desc_in (renamed_desc x)) (in_name pool members m.desc h.desc h.desc_is)
      ∙ desc_renamed h.desc h.d h.describes
      ∙ sym (ap (λ (x : Name). desc_map in_sandbox (desc_in x)) (in_name pool members m.desc h.desc h.desc_is))

  -- a constant of a field is the same
  value_kept : (i : ℕ) (k : Constant) → constant_at pool i ≡ Some k → constant_by new (renamed_constant pool (appended_texts pool members) k) ≡ constant_by pool k
  value_kept i (Text text) h =
      let t = there _ (text_at pool text) (linked i (Text text) h) in
      ap (λ (o : Option Name). programs.Text (units_in (unwrap_or o []))) (text_kept pool members text t.value t.is ∙ sym t.is)
  value_kept i (Utf8 t) h = refl
  value_kept i (Integer n) h = refl
  value_kept i (Float n) h = refl
  value_kept i (Long n) h = refl
  value_kept i (Double n) h = refl
  value_kept i (Class n) h = refl
  value_kept i (Field c n) h = refl
  value_kept i (Method c n) h = refl
  value_kept i (InterfaceMethod c n) h = refl
  value_kept i (NameAndType n d) h = refl
  value_kept i (Handle n m) h = refl
  value_kept i (MethodType n) h = refl
  value_kept i (Dynamic b n) h = refl
  value_kept i Hole h = refl

  -- the body of each ConstantValue names a constant, which rule 1 asks
  abbrev pub HasValue : List ℕ → Type 0
  HasValue body = (i : ℕ) × (k : Constant) × (value_index body ≡ Some i) × (constant_at pool i ≡ Some k)

  body_kept : (body : List ℕ) → HasValue body → constant_of_body new body ≡ constant_of_body pool body
  body_kept body h =
      let there_new : constant_at new h.0 ≡ Some (renamed_constant pool (appended_texts pool members) h.1) = constant_kept pool members h.0 h.1 h.3 in
      rw (h.2, there_new, h.3) (value_kept h.0 h.1 h.3)

  -- all of them, through what keeps the attributes
  bodies_kept : (bodies : List (List ℕ)) → AllByRecursion HasValue bodies → constant_of_bodies new bodies ≡ constant_of_bodies pool bodies
  bodies_kept [] h = refl
  bodies_kept (body ∷ bodies) h = ap (λ (c : programs.Constant). Some c) (body_kept body h.0)

  unchanged : (xs : List AttributeInfo) → map (λ (a : AttributeInfo). a) xs ≡ xs
  unchanged [] = refl
  unchanged (x ∷ xs) = ap (λ (ys : List AttributeInfo). x ∷ ys) (unchanged xs)

  pub named_kept_too : (name : Name) (a : AttributeInfo) → is_named pool name a ≡ true → is_named new name a ≡ true
  named_kept_too name a h = go (text_at pool a.name) refl h where
    go : (o : Option Name) → text_at pool a.name ≡ o → is_named_by name o ≡ true → is_named new name a ≡ true
    go None e t = absurd cc
    go (Some text) e t = rw (text_kept pool members a.name text e) t

  constant_read : (f : MemberInfo) → AllByRecursion HasValue (values_of pool f) → constant_in new (rewritten_field pool members f) ≡ constant_in pool f
  unfolding constant_in
  constant_read f h =
      ap (constant_of_bodies new)
      (ap (bodies_of new (codes "ConstantValue")) (sym (unchanged (filter (is_named pool (codes "ConstantValue")) f.attributes)))
      ∙ same_bodies pool new (codes "ConstantValue") (λ a. a) f.attributes (named_kept_too (codes "ConstantValue"))
      ∙ sym (bodies_filtered pool (codes "ConstantValue") f.attributes))
      ∙ bodies_kept (values_of pool f) h

  -- A field of the rewritten class is the field with the other names.
  pub field_read : (f : MemberInfo) → IsKnown f → AllByRecursion HasValue (values_of pool f)
      → field_in_file new (rewritten_field pool members f) ≡ field_map in_sandbox (field_in_file pool f)
  field_read f known values =
      ap (λ (x : Name). record { flags = f.flags; name = x; desc = desc_in (name_in new (new_desc pool members f)); constant = constant_in new (rewritten_field pool members f) }) (name_read f known)
      ∙ ap (λ (x : Desc). record { flags = f.flags; name = name_in pool f.name; desc = x; constant = constant_in new (rewritten_field pool members f) }) (desc_read_again f known)
      ∙ ap (λ (x : Option programs.Constant). record { flags = f.flags; name = name_in pool f.name; desc = desc_map in_sandbox (desc_in (name_in pool f.desc)); constant = x }) (constant_read f values)
