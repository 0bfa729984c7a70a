-- What the tests of texts and links decide.
use Rattle.std.proofs.Common.{◌≡◌, ℕ, Bool, true, false, ◌&&◌, ◌||◌, ◌↔◌, ◌⊎◌, List, Option, Some, None, IsTrue, IsSomeAnd, is_some, refl, inl, inr}
use Rattle.std.specs.Prelude.{⊤, option_and_then}
use Rattle.dj_names.specs.Tests.{unqualified_name_test, method_name_test, class_name_test, modified_utf8_test, field_descriptor_test, method_descriptor_test, array_descriptor_test}
use Rattle.dj_names.specs.trusted.ModifiedUtf8.{IsModifiedUtf8}
use Rattle.dj_names.specs.trusted.Names.{IsUnqualifiedName, IsMethodName, IsClassName}
use Rattle.dj_names.specs.trusted.Descriptors.{IsFieldDescriptor, IsMethodDescriptor, IsArrayDescriptor}
use Rattle.dj_names.proofs.TestLaws.{unqualified_name_test-decides, method_name_test-decides, class_name_test-decides, modified_utf8_test-decides, field_descriptor_test-decides, method_descriptor_test-decides, array_descriptor_test-decides}
use Rattle.dj_pool.specs.trusted.Pool.{Constant, Utf8, Integer, Float, Long, Double, Class, Text, Field, Method, InterfaceMethod, NameAndType, Handle, MethodType, Dynamic, Hole, class_text_of, member_of, constant_at, text_at, desc_at, IsClassText, NamesText, NamesAnyClass, NamesMember, NamesDesc, AreNames, IsLinked}
use Rattle.dj_pool.specs.Tests.{passes, class_text_test, text_passes, is_any_class, is_member, desc_passes, are_names, is_linked}

-- a test that passes exactly what is so
abbrev pub DecidesText : (List ℕ → Bool) → (List ℕ → Type 0) → Type 0
DecidesText test P = (text : List ℕ) → IsTrue (test text) ↔ P text

pub record TestsDecide : Type 0 where
  pub unqualified_name : DecidesText unqualified_name_test IsUnqualifiedName
  pub method_name : DecidesText method_name_test IsMethodName
  pub class_name : DecidesText class_name_test IsClassName
  pub modified_utf8 : DecidesText modified_utf8_test IsModifiedUtf8
  pub field_descriptor : DecidesText field_descriptor_test IsFieldDescriptor
  pub method_descriptor : DecidesText method_descriptor_test IsMethodDescriptor
  pub array_descriptor : DecidesText array_descriptor_test IsArrayDescriptor

pub tests_decide : TestsDecide
tests_decide = record {
  unqualified_name = unqualified_name_test-decides;
  method_name = method_name_test-decides;
  class_name = class_name_test-decides;
  modified_utf8 = modified_utf8_test-decides;
  field_descriptor = field_descriptor_test-decides;
  method_descriptor = method_descriptor_test-decides;
  array_descriptor = array_descriptor_test-decides;
}

pub passes_takes : (test : List ℕ → Bool) (P : List ℕ → Type 0) (d : DecidesText test P) (o : Option (List ℕ)) → passes test o ≡ true → IsSomeAnd o P
passes_takes test P d None h = absurd cc
passes_takes test P d (Some text) h = (d text).0 h

pub passes_again : (test : List ℕ → Bool) (P : List ℕ → Type 0) (d : DecidesText test P) (o : Option (List ℕ)) → IsSomeAnd o P → passes test o ≡ true
passes_again test P d None h = absurd h
passes_again test P d (Some text) h = (d text).1 h

pub any_text : DecidesText (λ _. true) (λ _. ⊤)
any_text text = (λ h. tt, λ h. refl)

-- ---- what is asked of two things

-- a value that is true exactly where this is so
pub record Decides (b : Bool) (P : Type 0) : Type 0 where
  pub takes : b ≡ true → P
  pub again : P → b ≡ true

pub always : Decides true ⊤
always = record { takes = λ h. tt; again = λ h. refl }

pub both_decide : (a b : Bool) (P Q : Type 0) → Decides a P → Decides b Q → Decides (a && b) (P × Q)
both_decide true b P Q p q = record { takes = λ h. (p.takes refl, q.takes h); again = λ h. q.again h.1 }
both_decide false b P Q p q = record { takes = λ h. absurd cc; again = λ h. p.again h.0 }

pub either_decides : (a b : Bool) (P Q : Type 0) → Decides a P → Decides b Q → Decides (a || b) (P ⊎ Q)
either_decides true b P Q p q = record { takes = λ h. inl (p.takes refl); again = λ h. refl }
either_decides false b P Q p q = record {
  takes = λ h. inr (q.takes h);
  again = λ h. elim h as (λ _. b ≡ true) [ inl x ↦ (let no : false ≡ true = p.again x in absurd cc) | inr y ↦ q.again y ];
}

-- ---- links

pub class_text : TestsDecide → DecidesText class_text_test IsClassText
class_text d text =
    let name : Decides (class_name_test text) (IsClassName text) = record { takes = (d.class_name text).0; again = (d.class_name text).1 } in
    let array : Decides (array_descriptor_test text) (IsArrayDescriptor text) = record { takes = (d.array_descriptor text).0; again = (d.array_descriptor text).1 } in
    let one = either_decides (class_name_test text) (array_descriptor_test text) (IsClassName text) (IsArrayDescriptor text) name array in
    (one.takes, one.again)

pub texts_decide : (test : List ℕ → Bool) (P : List ℕ → Type 0) → DecidesText test P → (o : Option (List ℕ)) → Decides (passes test o) (IsSomeAnd o P)
texts_decide test P d o = record { takes = passes_takes test P d o; again = passes_again test P d o }

pub some_decides : {A : Type 0} (o : Option A) → Decides (is_some o) (IsSomeAnd o (λ _. ⊤))
some_decides None = record { takes = λ h. absurd cc; again = λ h. absurd h }
some_decides (Some x) = record { takes = λ h. tt; again = λ h. refl }

class_decides : (pool : List Constant) (i : ℕ) → Decides (is_any_class pool i) (NamesAnyClass pool i)
class_decides pool i = some_decides (option_and_then class_text_of (constant_at pool i))

member_decides : (pool : List Constant) (i : ℕ) → Decides (is_member pool i) (NamesMember pool i)
member_decides pool i = some_decides (option_and_then member_of (constant_at pool i))

field_desc_decides : TestsDecide → (pool : List Constant) (i : ℕ) → Decides (desc_passes field_descriptor_test pool i) (NamesDesc IsFieldDescriptor pool i)
field_desc_decides d pool i = texts_decide field_descriptor_test IsFieldDescriptor d.field_descriptor (desc_at pool i)

method_desc_decides : TestsDecide → (pool : List Constant) (i : ℕ) → Decides (desc_passes method_descriptor_test pool i) (NamesDesc IsMethodDescriptor pool i)
method_desc_decides d pool i = texts_decide method_descriptor_test IsMethodDescriptor d.method_descriptor (desc_at pool i)

abbrev text_decides : (test : List ℕ → Bool) (P : List ℕ → Type 0) → DecidesText test P → (pool : List Constant) (i : ℕ) → Decides (text_passes test pool i) (NamesText P pool i)
text_decides test P d pool i = texts_decide test P d (text_at pool i)

names_decide : TestsDecide → (pool : List Constant) (m n : ℕ) → Decides (are_names pool m n) (AreNames pool m n)
names_decide d pool m n =
    either_decides _ _ _ _
    (both_decide _ _ _ _ (text_decides unqualified_name_test IsUnqualifiedName d.unqualified_name pool m) (text_decides field_descriptor_test IsFieldDescriptor d.field_descriptor pool n))
    (both_decide _ _ _ _ (text_decides method_name_test IsMethodName d.method_name pool m) (text_decides method_descriptor_test IsMethodDescriptor d.method_descriptor pool n))

pub link_decides : TestsDecide → (pool : List Constant) (k : Constant) → Decides (is_linked pool k) (IsLinked pool k)
link_decides d pool (Utf8 text) = always
link_decides d pool (Integer n) = always
link_decides d pool (Float n) = always
link_decides d pool (Long n) = always
link_decides d pool (Double n) = always
link_decides d pool (Class name) = text_decides class_text_test IsClassText (class_text d) pool name
link_decides d pool (Text text) = text_decides (λ _. true) (λ _. ⊤) any_text pool text
link_decides d pool (Field m n) = both_decide _ _ _ _ (class_decides pool m) (field_desc_decides d pool n)
link_decides d pool (Method m n) = both_decide _ _ _ _ (class_decides pool m) (method_desc_decides d pool n)
link_decides d pool (InterfaceMethod m n) = both_decide _ _ _ _ (class_decides pool m) (method_desc_decides d pool n)
link_decides d pool (NameAndType m n) = names_decide d pool m n
link_decides d pool (Handle kind m) = member_decides pool m
link_decides d pool (MethodType desc) = text_decides method_descriptor_test IsMethodDescriptor d.method_descriptor pool desc
link_decides d pool (Dynamic row n) = method_desc_decides d pool n
link_decides d pool Hole = always
