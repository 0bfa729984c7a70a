-- The texts of a valid class file are there.
use Rattle.std.proofs.Common.{◌≡◌, ℕ, ◌⊎◌, List, [], ◌∷◌, All, Option, Some, None, IsSomeAnd, refl, inl, inr}
use Rattle.std.specs.Prelude.{⊤}
use Rattle.std.specs.List.{AllByRecursion}
use Rattle.std.proofs.lemmas.List.Elements.{All-from_recursion}
use Rattle.dj_names.specs.trusted.Names.{IsUnqualifiedName, IsMethodName, IsClassName}
use Rattle.dj_names.specs.trusted.Descriptors.{IsFieldDescriptor, IsMethodDescriptor}
use Rattle.dj_pool.specs.trusted.Pool.{Constant, text_at, class_name_at}
use Rattle.dj_class.specs.trusted.ClassFile.{AttributeInfo, MemberInfo, NamesClass, IsAttribute, AreAttributes, IsMember, IsField, IsMethod}
use Rattle.dj_class.specs.Laws.{HasText, AttributesHaveTexts, MemberHasTexts, ValidHasTexts}

pub has_text : (o : Option (List ℕ)) (P : List ℕ → Type 0) → IsSomeAnd o P → HasText o P
has_text None P h = absurd h
has_text (Some text) P h = record { text = text; found_is = refl; holds = h }

-- what each element has, since each is so
each_has : {A : Type 0} (P Q : A → Type 0) → ((x : A) → P x → Q x) → (xs : List A) → AllByRecursion P xs → AllByRecursion Q xs
each_has P Q f [] h = tt
each_has P Q f (x ∷ xs) h = (f x h.0, each_has P Q f xs h.1)

pub all_have : {A : Type 0} (P Q : A → Type 0) → ((x : A) → P x → Q x) → (xs : List A) → AllByRecursion P xs → All Q xs
all_have P Q f xs h = All-from_recursion Q xs (each_has P Q f xs h)

pub attributes_have : (pool : List Constant) (attributes : List AttributeInfo) → AreAttributes pool attributes → AttributesHaveTexts pool attributes
attributes_have pool attributes h =
    all_have (IsAttribute pool) (λ a. HasText (text_at pool a.name) (λ _. ⊤)) (λ a v. has_text (text_at pool a.name) (λ _. ⊤) v.name) attributes h.each

pub member_has : (IsName IsDescriptor : List ℕ → Type 0) (pool : List Constant) (m : MemberInfo) → IsMember IsName IsDescriptor pool m → MemberHasTexts IsName IsDescriptor pool m
member_has IsName IsDescriptor pool m v = record {
  name = has_text (text_at pool m.name) IsName v.name;
  desc = has_text (text_at pool m.desc) IsDescriptor v.desc;
  attributes = attributes_have pool m.attributes v.attributes;
}

pub class_has : (pool : List Constant) (i : ℕ) → NamesClass pool i → HasText (class_name_at pool i) IsClassName
class_has pool i h = has_text (class_name_at pool i) IsClassName h

super_has : (pool : List Constant) (i : ℕ) → (i ≡ 0) ⊎ NamesClass pool i → (i ≡ 0) ⊎ HasText (class_name_at pool i) IsClassName
super_has pool i (inl none) = inl none
super_has pool i (inr some) = inr (class_has pool i some)

pub valid_has_texts : ValidHasTexts
valid_has_texts c v = record {
  this_class = class_has c.pool c.this_class v.this_class;
  super_class = super_has c.pool c.super_class v.super_class;
  interfaces = all_have (NamesClass c.pool) (λ i. HasText (class_name_at c.pool i) IsClassName) (class_has c.pool) c.interfaces v.interfaces;
  fields = all_have (IsField c.pool) (MemberHasTexts IsUnqualifiedName IsFieldDescriptor c.pool) (member_has IsUnqualifiedName IsFieldDescriptor c.pool) c.fields v.fields;
  methods = all_have (IsMethod c.pool) (MemberHasTexts IsMethodName IsMethodDescriptor c.pool) (member_has IsMethodName IsMethodDescriptor c.pool) c.methods v.methods;
  attributes = attributes_have c.pool c.attributes v.attributes;
}
