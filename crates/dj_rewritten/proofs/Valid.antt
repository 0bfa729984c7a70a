-- The constants of a rewritten class name what belongs in their places.
use Rattle.std.proofs.Common.{◌≡◌, ℕ, List, Option, Some, None, option_and_then, refl, sym, ap, subst, ◌∙◌, inl, inr}
use Rattle.std.specs.Prelude.{IsSomeAnd, ⊤}
use Rattle.dj_names.specs.declared.descriptor.Desc.TheVariants as shapes
use Rattle.dj_names.specs.trusted.Types.{Name}
use Rattle.dj_names.specs.Types.{in_sandbox, type_map}
use Rattle.dj_names.specs.trusted.Names.{IsUnqualifiedName, IsMethodName}
use Rattle.dj_names.specs.trusted.Descriptors.{IsFieldDescriptor, IsMethodDescriptor}
use Rattle.dj_pool.specs.trusted.Pool.{Constant, Utf8, Integer, Float, Long, Double, Class, Text, Field, Method, InterfaceMethod, NameAndType, Handle, MethodType, Dynamic, Hole, constant_at, text_at, class_text_of, names_of, member_of, desc_at, IsClassText, NamesText, NamesAnyClass, NamesMember, NamesDesc, IsLinked}
use Rattle.dj_rename.specs.Names.{renamed_class, renamed_desc}
use Rattle.dj_rename.specs.Pools.{class_need, desc_need, new_index, appended_texts, renamed_constant, rewritten_pool}
use Rattle.dj_rename.proofs.NameLaws.{renamed_class_text, renamed_describes}
use Rattle.dj_rename.proofs.PoolLaws.{constant_kept, text_kept, need_met, class_is_needed, desc_is_needed, type_is_needed, in_name}
use Rattle.dj_rewritten.proofs.Kept.{there}

pub field_renamed : (text : Name) → IsFieldDescriptor text → IsFieldDescriptor (renamed_desc text)
field_renamed text h = (type_map in_sandbox h.0, renamed_describes text (shapes.Field h.0) h.1)

pub method_renamed : (text : Name) → IsMethodDescriptor text → IsMethodDescriptor (renamed_desc text)
method_renamed text h = let d = renamed_describes text (shapes.Method h.0 h.1) h.2 in (_, _, d)

at_some : {A : Type 0} (P : A → Type 0) (o : Option A) (a : A) → o ≡ Some a → P a → IsSomeAnd o P
at_some P o a e h = subst (λ (x : Option _). IsSomeAnd x P) (sym e) h

module _ (pool : List Constant) (members : List ℕ) (linked : (i : ℕ) (k : Constant) → constant_at pool i ≡ Some k → IsLinked pool k) where
  abbrev new : List Constant
  new = rewritten_pool pool members

  text_there : (P : Name → Type 0) (i : ℕ) → NamesText P pool i → NamesText P new i
  text_there P i h = let t = there P (text_at pool i) h in at_some P (text_at new i) t.value (text_kept pool members i t.value t.is) t.such

  class_there : (i : ℕ) → NamesAnyClass pool i → NamesAnyClass new i
  class_there i h = go (constant_at pool i) refl h where
    go : (o : Option Constant) → constant_at pool i ≡ o → IsSomeAnd (option_and_then class_text_of o) (λ _. ⊤) → NamesAnyClass new i
    go (Some (Class name)) e h = subst (λ (x : Option Constant). IsSomeAnd (option_and_then class_text_of x) (λ _. ⊤)) (sym (constant_kept pool members i (Class name) e)) tt
    go None e h = absurd h
    go (Some k) e h = absurd h

  member_there : (i : ℕ) → NamesMember pool i → NamesMember new i
  member_there i h = go (constant_at pool i) refl h where
    go : (o : Option Constant) → constant_at pool i ≡ o → IsSomeAnd (option_and_then member_of o) (λ _. ⊤) → NamesMember new i
    go (Some (Field c n)) e h = subst (λ (x : Option Constant). IsSomeAnd (option_and_then member_of x) (λ _. ⊤)) (sym (constant_kept pool members i (Field c n) e)) tt
    go (Some (Method c n)) e h = subst (λ (x : Option Constant). IsSomeAnd (option_and_then member_of x) (λ _. ⊤)) (sym (constant_kept pool members i (Method c n) e)) tt
    go (Some (InterfaceMethod c n)) e h = subst (λ (x : Option Constant). IsSomeAnd (option_and_then member_of x) (λ _. ⊤)) (sym (constant_kept pool members i (InterfaceMethod c n) e)) tt
    go None e h = absurd h
    go (Some k) e h = absurd h

  desc_there : (P : Name → Type 0) → ((text : Name) → P text → P (renamed_desc text)) → (i : ℕ) → NamesDesc P pool i → NamesDesc P new i
  desc_there P keeps i h = go (constant_at pool i) refl h where
    go : (o : Option Constant) → constant_at pool i ≡ o → IsSomeAnd (option_and_then (λ (n : ℕ × ℕ). text_at pool n.1) (option_and_then names_of o)) P → NamesDesc P new i
    go (Some (NameAndType name desc)) e h =
        let t = there P (text_at pool desc) h in
        at_some P (desc_at new i) (renamed_desc t.value)
        (ap (λ (o : Option Constant). option_and_then (λ (n : ℕ × ℕ). text_at new n.1) (option_and_then names_of o)) (constant_kept pool members i (NameAndType name desc) e)
        ∙ need_met pool members (desc_need pool 0 desc) t.value (desc_is_needed pool members i name desc e) t.is
        ∙ ap (λ (x : Name). Some (renamed_desc x)) (in_name pool members desc t.value t.is))
        (keeps t.value t.such)
    go None e h = absurd h
    go (Some k) e h = absurd h

  -- the renamed text of a name and descriptor, or of a method's type
  named_desc : (P : Name → Type 0) → ((text : Name) → P text → P (renamed_desc text)) → (desc : ℕ)
      → NamesText P pool desc → ((old : Name) → text_at pool desc ≡ Some old → text_at new (new_index pool (appended_texts pool members) (desc_need pool 0 desc)) ≡ Some (desc_need pool 0 desc).text)
      → NamesText P new (new_index pool (appended_texts pool members) (desc_need pool 0 desc))
  named_desc P keeps desc h met =
      let t = there P (text_at pool desc) h in
      at_some P (text_at new (new_index pool (appended_texts pool members) (desc_need pool 0 desc))) (renamed_desc t.value)
      (met t.value t.is ∙ ap (λ (x : Name). Some (renamed_desc x)) (in_name pool members desc t.value t.is)) (keeps t.value t.such)

  -- each original constant is linked in the new pool
  pub linked_kept : (i : ℕ) (k : Constant) → constant_at pool i ≡ Some k → IsLinked new (renamed_constant pool (appended_texts pool members) k)
  linked_kept i (Utf8 t) h = tt
  linked_kept i (Integer n) h = tt
  linked_kept i (Float n) h = tt
  linked_kept i (Long n) h = tt
  linked_kept i (Double n) h = tt
  linked_kept i (Class name) h =
      let t = there IsClassText (text_at pool name) (linked i (Class name) h) in
      at_some IsClassText (text_at new (new_index pool (appended_texts pool members) (class_need pool 0 name))) (renamed_class t.value)
      (need_met pool members (class_need pool 0 name) t.value (class_is_needed pool members i name h) t.is
      ∙ ap (λ (x : Name). Some (renamed_class x)) (in_name pool members name t.value t.is)) (renamed_class_text t.value t.such)
  linked_kept i (Text text) h = text_there (λ _. ⊤) text (linked i (Text text) h)
  linked_kept i (Field c n) h = let l = linked i (Field c n) h in (class_there c l.0, desc_there IsFieldDescriptor field_renamed n l.1)
  linked_kept i (Method c n) h = let l = linked i (Method c n) h in (class_there c l.0, desc_there IsMethodDescriptor method_renamed n l.1)
  linked_kept i (InterfaceMethod c n) h = let l = linked i (InterfaceMethod c n) h in (class_there c l.0, desc_there IsMethodDescriptor method_renamed n l.1)
  linked_kept i (NameAndType name desc) h =
      elim (linked i (NameAndType name desc) h) [
        | inl f ↦ inl (
          text_there IsUnqualifiedName name f.0,
          named_desc IsFieldDescriptor field_renamed desc f.1 (λ old e. need_met pool members (desc_need pool 0 desc) old (desc_is_needed pool members i name desc h) e),
        )
        | inr m ↦ inr (
          text_there IsMethodName name m.0,
          named_desc IsMethodDescriptor method_renamed desc m.1 (λ old e. need_met pool members (desc_need pool 0 desc) old (desc_is_needed pool members i name desc h) e),
        )
      ]
  linked_kept i (Handle kind m) h = member_there m (linked i (Handle kind m) h)
  linked_kept i (MethodType desc) h =
      named_desc IsMethodDescriptor method_renamed desc (linked i (MethodType desc) h) (λ old e. need_met pool members (desc_need pool 0 desc) old (type_is_needed pool members i desc h) e)
  linked_kept i (Dynamic b n) h = desc_there IsMethodDescriptor method_renamed n (linked i (Dynamic b n) h)
  linked_kept i Hole h = tt
