-- Pools with one constant more, and pools with another text.
use Rattle.std.proofs.Common.{◌≡◌, ℕ, zero, suc, ◌-◌, ◌<◌, ◌↔◌, true, false, List, [], ◌∷◌, ◌++◌, length, map, get_or, set, Option, Some, None, IsSomeAnd, refl, sym, ap, subst, ◌∙◌, arith, inl, inr, length-append}
use Rattle.std.specs.Prelude.{⊤, slice_get, option_map, option_and_then}
use Rattle.std.specs.List.{AllByRecursion}
use Rattle.std.proofs.lemmas.Option.{slice_get-map, slice_get-get_or, slice_get_within}
use Rattle.std.proofs.lemmas.List.{map-set, length-map}
use Rattle.dj_names.specs.trusted.Names.{IsUnqualifiedName, IsMethodName}
use Rattle.dj_names.specs.trusted.Descriptors.{IsFieldDescriptor, IsMethodDescriptor}
use Rattle.dj_pool.specs.trusted.Pool.{Constant, Utf8, Integer, Float, Long, Double, Class, Text, Field, Method, InterfaceMethod, NameAndType, Handle, MethodType, Dynamic, Hole, takes_two, indexed, constant_at, text_of, class_text_of, names_of, member_of, text_at, class_name_at, name_and_type_at, desc_at, both, IsClassText, NamesText, NamesAnyClass, NamesMember, NamesDesc, AreNames, IsLinked, IsConstant, IsPool}
use Rattle.dj_pool.specs.Pool.{member_at}
use Rattle.dj_pool.specs.declared.pool.Entry.{Entry}
use Rattle.dj_pool.specs.Views.{constant_of}
use Rattle.dj_pool.specs.Answers.{with_text, HasText, MayHaveText, Redirects}
use Rattle.dj_pool.specs.Laws.{AppendedIsPool, PoolLooksUp}
use Rattle.dj_pool.proofs.Slots.{by_width, indexed_wide, indexed_narrow, indexed_none}

-- ---- what is there stays there

-- the one is there wherever the other is, and the same
pub record Keeps {A : Type 0} (o p : Option A) : Type 0 where
  pub kept : (x : A) → o ≡ Some x → p ≡ Some x

by_option : {A P : Type 0} (o : Option A) → (o ≡ None → P) → ((x : A) → o ≡ Some x → P) → P
by_option None one other = one refl
by_option (Some x) one other = other x refl

keeps_same : {A : Type 0} (o : Option A) → Keeps o o
keeps_same o = record { kept = λ x h. h }

keeps_then : {A B : Type 0} (f g : A → Option B) (o p : Option A) → Keeps o p → ((x : A) → Keeps (f x) (g x)) → Keeps (option_and_then f o) (option_and_then g p)
keeps_then f g None p keeps more = record { kept = λ x h. absurd cc }
keeps_then f g (Some a) p keeps more = record { kept = λ x h. ap (option_and_then g) (keeps.kept a refl) ∙ (more a).kept x h }

keeps_some : {A : Type 0} (P : A → Type 0) (o p : Option A) → Keeps o p → IsSomeAnd o P → IsSomeAnd p P
keeps_some P None p keeps h = absurd h
keeps_some P (Some x) p keeps h = subst (λ (q : Option _). IsSomeAnd q P) (sym (keeps.kept x refl)) h

get_kept : (pool more : List Constant) (i : ℕ) (k : Constant) → slice_get pool i ≡ Some k → slice_get (pool ++ more) i ≡ Some k
get_kept [] more i k h = absurd cc
get_kept (x ∷ pool) more zero k h = h
get_kept (x ∷ pool) more (suc i) k h = get_kept pool more i k h

keeps_constant : (pool more : List Constant) (i : ℕ) → Keeps (constant_at pool i) (constant_at (pool ++ more) i)
keeps_constant pool more zero = record { kept = λ k h. absurd cc }
keeps_constant pool more (suc i) = record { kept = λ k h. get_kept pool more i k h }

keeps_of : {A : Type 0} (f : Constant → Option A) (pool more : List Constant) (i : ℕ) → Keeps (option_and_then f (constant_at pool i)) (option_and_then f (constant_at (pool ++ more) i))
keeps_of f pool more i = keeps_then f f (constant_at pool i) (constant_at (pool ++ more) i) (keeps_constant pool more i) (λ k. keeps_same (f k))

keeps_text : (pool more : List Constant) (i : ℕ) → Keeps (text_at pool i) (text_at (pool ++ more) i)
keeps_text pool more i = keeps_of text_of pool more i

keeps_desc : (pool more : List Constant) (i : ℕ) → Keeps (desc_at pool i) (desc_at (pool ++ more) i)
keeps_desc pool more i = keeps_then _ _ _ _ (keeps_of names_of pool more i) (λ (n : ℕ × ℕ). keeps_text pool more n.1)

-- ---- what is linked stays linked

-- whatever an index names in the one pool, it names such in the other
pub record KeepsNames (pool now : List Constant) : Type 0 where
  pub text : (i : ℕ) → Keeps (text_at pool i) (text_at now i)
  pub any_class : (i : ℕ) → NamesAnyClass pool i → NamesAnyClass now i
  pub member : (i : ℕ) → NamesMember pool i → NamesMember now i
  pub field_desc : (i : ℕ) → NamesDesc IsFieldDescriptor pool i → NamesDesc IsFieldDescriptor now i
  pub method_desc : (i : ℕ) → NamesDesc IsMethodDescriptor pool i → NamesDesc IsMethodDescriptor now i

pub text_kept : (P : List ℕ → Type 0) (pool now : List Constant) → KeepsNames pool now → (i : ℕ) → NamesText P pool i → NamesText P now i
text_kept P pool now keeps i h = keeps_some P (text_at pool i) (text_at now i) (keeps.text i) h

names_kept : (pool now : List Constant) → KeepsNames pool now → (m n : ℕ) → AreNames pool m n → AreNames now m n
names_kept pool now keeps m n (inl h) = inl (text_kept IsUnqualifiedName pool now keeps m h.0, text_kept IsFieldDescriptor pool now keeps n h.1)
names_kept pool now keeps m n (inr h) = inr (text_kept IsMethodName pool now keeps m h.0, text_kept IsMethodDescriptor pool now keeps n h.1)

pub link_kept : (pool now : List Constant) → KeepsNames pool now → (k : Constant) → IsLinked pool k → IsLinked now k
link_kept pool now keeps (Utf8 text) h = tt
link_kept pool now keeps (Integer n) h = tt
link_kept pool now keeps (Float n) h = tt
link_kept pool now keeps (Long n) h = tt
link_kept pool now keeps (Double n) h = tt
link_kept pool now keeps (Class n) h = text_kept IsClassText pool now keeps n h
link_kept pool now keeps (Text n) h = text_kept (λ _. ⊤) pool now keeps n h
link_kept pool now keeps (Field m n) h = (keeps.any_class m h.0, keeps.field_desc n h.1)
link_kept pool now keeps (Method m n) h = (keeps.any_class m h.0, keeps.method_desc n h.1)
link_kept pool now keeps (InterfaceMethod m n) h = (keeps.any_class m h.0, keeps.method_desc n h.1)
link_kept pool now keeps (NameAndType m n) h = names_kept pool now keeps m n h
link_kept pool now keeps (Handle kind m) h = keeps.member m h
link_kept pool now keeps (MethodType n) h = text_kept IsMethodDescriptor pool now keeps n h
link_kept pool now keeps (Dynamic row n) h = keeps.method_desc n h
link_kept pool now keeps Hole h = tt

-- a pool with more at its end
pub keeps_names : (pool more : List Constant) → KeepsNames pool (pool ++ more)
keeps_names pool more = record {
  text = keeps_text pool more;
  any_class = λ i h. keeps_some (λ _. ⊤) _ _ (keeps_of class_text_of pool more i) h;
  member = λ i h. keeps_some (λ _. ⊤) _ _ (keeps_of member_of pool more i) h;
  field_desc = λ i h. keeps_some IsFieldDescriptor _ _ (keeps_desc pool more i) h;
  method_desc = λ i h. keeps_some IsMethodDescriptor _ _ (keeps_desc pool more i) h;
}

-- ---- one more

pub indexed_append : (xs ys : List Constant) → indexed (xs ++ ys) ≡ indexed xs ++ indexed ys
indexed_append [] ys = ap (λ (t : List Constant). t ++ indexed ys) (sym indexed_none)
indexed_append (k ∷ xs) ys =
    by_width (takes_two k)
    (λ wide. indexed_wide k (xs ++ ys) wide ∙ ap (λ (t : List Constant). k ∷ (Hole ∷ t)) (indexed_append xs ys) ∙ ap (λ (t : List Constant). t ++ indexed ys) (sym (indexed_wide k xs wide)))
    (λ narrow. indexed_narrow k (xs ++ ys) narrow ∙ ap (λ (t : List Constant). k ∷ t) (indexed_append xs ys) ∙ ap (λ (t : List Constant). t ++ indexed ys) (sym (indexed_narrow k xs narrow)))

each_kept : (pool more : List Constant) (k : Constant) (ks : List Constant) → AllByRecursion (IsConstant pool) ks → IsConstant pool k → AllByRecursion (IsConstant (pool ++ more)) (ks ++ k ∷ [])
each_kept pool more k [] each good = ((good.0, link_kept pool (pool ++ more) (keeps_names pool more) k good.1), tt)
each_kept pool more k (x ∷ ks) each good = ((each.0.0, link_kept pool (pool ++ more) (keeps_names pool more) x each.0.1), each_kept pool more k ks each.1 good)

pub appended_is_pool : AppendedIsPool
appended_is_pool pool k good ok few = record {
  constants = good.constants ++ k ∷ [];
  indexes = ap (λ (t : List Constant). t ++ indexed (k ∷ [])) good.indexes ∙ sym (indexed_append good.constants (k ∷ []));
  each = each_kept pool (indexed (k ∷ [])) k good.constants good.each ok;
  count = omega (arith, few, length-append pool (indexed (k ∷ [])));
}

pub one_wide : (k : Constant) → takes_two k ≡ true → indexed (k ∷ []) ≡ k ∷ (Hole ∷ [])
one_wide k wide = indexed_wide k [] wide ∙ ap (λ (t : List Constant). k ∷ (Hole ∷ t)) indexed_none

pub one_narrow : (k : Constant) → takes_two k ≡ false → indexed (k ∷ []) ≡ k ∷ []
one_narrow k narrow = indexed_narrow k [] narrow ∙ ap (λ (t : List Constant). k ∷ t) indexed_none

-- ---- looking up

abbrev IsThere : {A : Type 0} → Option A → Type 0
IsThere o = IsSomeAnd o (λ _. ⊤)

there : {A : Type 0} (o : Option A) (x : A) → o ≡ Some x → IsThere o
there o x h = subst (λ (p : Option _). IsThere p) (sym h) tt

found : {A : Type 0} (o : Option A) (P : A → Type 0) → IsSomeAnd o P → IsThere o
found None P h = absurd h
found (Some x) P h = tt

not_there : {A P : Type 0} (o : Option A) → o ≡ None → IsThere o → P
not_there o h k = let none : ⊥ = subst (λ (p : Option _). IsThere p) h k in absurd none

-- the one is missing exactly where the other is
missing : {A B : Type 0} (o : Option A) (p : Option B) → (IsThere p → IsThere o) → (p ≡ None → o ≡ None) → (o ≡ None) ↔ (p ≡ None)
missing o p to from = (λ h. by_option p (λ k. k) (λ x k. not_there o h (to (there p x k))), from)

-- what is at an index of a valid pool is linked
slot_linked : (pool ks : List Constant) (j : ℕ) (k : Constant) → AllByRecursion (IsConstant pool) ks → slice_get (indexed ks) j ≡ Some k → IsLinked pool k
slot_linked pool [] j k each h = let none = sym (ap (λ (t : List Constant). slice_get t j) indexed_none) ∙ h in absurd cc
slot_linked pool (x ∷ ks) zero k each h =
    by_width (takes_two x)
    (λ wide. let at : Some x ≡ Some k = sym (ap (λ (t : List Constant). slice_get t 0) (indexed_wide x ks wide)) ∙ h in let same : x ≡ k = cc in subst (IsLinked pool) same each.0.1)
    (λ narrow. let at : Some x ≡ Some k = sym (ap (λ (t : List Constant). slice_get t 0) (indexed_narrow x ks narrow)) ∙ h in let same : x ≡ k = cc in subst (IsLinked pool) same each.0.1)
slot_linked pool (x ∷ ks) (suc zero) k each h =
    by_width (takes_two x)
    (λ wide. let at : Some Hole ≡ Some k = sym (ap (λ (t : List Constant). slice_get t 1) (indexed_wide x ks wide)) ∙ h in let same : Hole ≡ k = cc in subst (IsLinked pool) same tt)
    (λ narrow. slot_linked pool ks zero k each.1 (sym (ap (λ (t : List Constant). slice_get t 1) (indexed_narrow x ks narrow)) ∙ h))
slot_linked pool (x ∷ ks) (suc (suc j)) k each h =
    by_width (takes_two x)
    (λ wide. slot_linked pool ks j k each.1 (sym (ap (λ (t : List Constant). slice_get t (suc (suc j))) (indexed_wide x ks wide)) ∙ h))
    (λ narrow. slot_linked pool ks (suc j) k each.1 (sym (ap (λ (t : List Constant). slice_get t (suc (suc j))) (indexed_narrow x ks narrow)) ∙ h))

linked_at : (pool : List Constant) (i : ℕ) (k : Constant) → IsPool pool → constant_at pool i ≡ Some k → IsLinked pool k
linked_at pool zero k good h = absurd cc
linked_at pool (suc i) k good h = slot_linked pool good.constants i k good.each (sym (ap (λ (t : List Constant). slice_get t i) good.indexes) ∙ h)

-- what a function of the constants finds at an index follows from the link of the constant that is there
from_link : {A : Type 0} (f : Constant → Option A) (P : A → Type 0) (pool : List Constant) → ((k : Constant) (x : A) → f k ≡ Some x → IsLinked pool k → P x) → IsPool pool → (i : ℕ) (x : A) → option_and_then f (constant_at pool i) ≡ Some x → P x
from_link f P pool link good i x h =
    by_option (constant_at pool i)
    (λ e. let none = sym (ap (option_and_then f) e) ∙ h in absurd cc)
    (λ k e. link k x (sym (ap (option_and_then f) e) ∙ h) (linked_at pool i k good e))

class_link : (pool : List Constant) (k : Constant) (n : ℕ) → class_text_of k ≡ Some n → IsLinked pool k → IsThere (text_at pool n)
class_link pool (Utf8 text) n e h = absurd cc
class_link pool (Integer z) n e h = absurd cc
class_link pool (Float x) n e h = absurd cc
class_link pool (Long z) n e h = absurd cc
class_link pool (Double x) n e h = absurd cc
class_link pool (Class m) n e h = let same : m ≡ n = cc in subst (λ (i : ℕ). IsThere (text_at pool i)) same (found (text_at pool m) IsClassText h)
class_link pool (Text x) n e h = absurd cc
class_link pool (Field x y) n e h = absurd cc
class_link pool (Method x y) n e h = absurd cc
class_link pool (InterfaceMethod x y) n e h = absurd cc
class_link pool (NameAndType x y) n e h = absurd cc
class_link pool (Handle x y) n e h = absurd cc
class_link pool (MethodType x) n e h = absurd cc
class_link pool (Dynamic x y) n e h = absurd cc
class_link pool Hole n e h = absurd cc

abbrev AreThere : List Constant → ℕ × ℕ → Type 0
AreThere pool n = IsThere (text_at pool n.0) × IsThere (text_at pool n.1)

names_there : (pool : List Constant) (m n : ℕ) → AreNames pool m n → AreThere pool (m, n)
names_there pool m n (inl h) = (found (text_at pool m) IsUnqualifiedName h.0, found (text_at pool n) IsFieldDescriptor h.1)
names_there pool m n (inr h) = (found (text_at pool m) IsMethodName h.0, found (text_at pool n) IsMethodDescriptor h.1)

names_link : (pool : List Constant) (k : Constant) (n : ℕ × ℕ) → names_of k ≡ Some n → IsLinked pool k → AreThere pool n
names_link pool (Utf8 text) n e h = absurd cc
names_link pool (Integer z) n e h = absurd cc
names_link pool (Float x) n e h = absurd cc
names_link pool (Long z) n e h = absurd cc
names_link pool (Double x) n e h = absurd cc
names_link pool (Class m) n e h = absurd cc
names_link pool (Text x) n e h = absurd cc
names_link pool (Field x y) n e h = absurd cc
names_link pool (Method x y) n e h = absurd cc
names_link pool (InterfaceMethod x y) n e h = absurd cc
names_link pool (NameAndType x y) n e h = let same : (x, y) ≡ n = cc in subst (AreThere pool) same (names_there pool x y h)
names_link pool (Handle x y) n e h = absurd cc
names_link pool (MethodType x) n e h = absurd cc
names_link pool (Dynamic x y) n e h = absurd cc
names_link pool Hole n e h = absurd cc

abbrev HasMember : List Constant → ℕ × ℕ → Type 0
HasMember pool m = NamesAnyClass pool m.0 × IsThere (desc_at pool m.1)

member_link : (pool : List Constant) (k : Constant) (m : ℕ × ℕ) → member_of k ≡ Some m → IsLinked pool k → HasMember pool m
member_link pool (Utf8 text) m e h = absurd cc
member_link pool (Integer z) m e h = absurd cc
member_link pool (Float x) m e h = absurd cc
member_link pool (Long z) m e h = absurd cc
member_link pool (Double x) m e h = absurd cc
member_link pool (Class x) m e h = absurd cc
member_link pool (Text x) m e h = absurd cc
member_link pool (Field x y) m e h = let same : (x, y) ≡ m = cc in subst (HasMember pool) same (h.0, found (desc_at pool y) IsFieldDescriptor h.1)
member_link pool (Method x y) m e h = let same : (x, y) ≡ m = cc in subst (HasMember pool) same (h.0, found (desc_at pool y) IsMethodDescriptor h.1)
member_link pool (InterfaceMethod x y) m e h = let same : (x, y) ≡ m = cc in subst (HasMember pool) same (h.0, found (desc_at pool y) IsMethodDescriptor h.1)
member_link pool (NameAndType x y) m e h = absurd cc
member_link pool (Handle x y) m e h = absurd cc
member_link pool (MethodType x) m e h = absurd cc
member_link pool (Dynamic x y) m e h = absurd cc
member_link pool Hole m e h = absurd cc

-- where the first is there, and the second at what it is, both are
there_then : {A B : Type 0} (f : A → Option B) (o : Option A) → ((x : A) → o ≡ Some x → IsThere (f x)) → IsThere o → IsThere (option_and_then f o)
there_then f None more h = absurd h
there_then f (Some x) more h = more x refl

then_there : {A B : Type 0} (f : A → Option B) (o : Option A) → IsThere (option_and_then f o) → IsThere o
then_there f None h = absurd h
then_there f (Some x) h = tt

both_there : {A B : Type 0} (o : Option A) (p : Option B) → IsThere o → IsThere p → IsThere (both o p)
both_there None p h k = absurd h
both_there (Some x) None h k = absurd k
both_there (Some x) (Some y) h k = tt

class_there : (pool : List Constant) (i : ℕ) → IsPool pool → NamesAnyClass pool i → IsThere (class_name_at pool i)
class_there pool i good h = there_then (text_at pool) (option_and_then class_text_of (constant_at pool i)) (from_link class_text_of (λ n. IsThere (text_at pool n)) pool (class_link pool) good i) h

name_and_type_there : (pool : List Constant) (i : ℕ) → IsPool pool → IsThere (option_and_then names_of (constant_at pool i)) → IsThere (name_and_type_at pool i)
name_and_type_there pool i good h =
    there_then (λ (n : ℕ × ℕ). both (text_at pool n.0) (text_at pool n.1)) (option_and_then names_of (constant_at pool i))
    (λ n e. let t = from_link names_of (AreThere pool) pool (names_link pool) good i n e in both_there (text_at pool n.0) (text_at pool n.1) t.0 t.1) h

member_there : (pool : List Constant) (i : ℕ) → IsPool pool → IsThere (option_and_then member_of (constant_at pool i)) → IsThere (member_at pool i)
member_there pool i good h =
    there_then (λ (m : ℕ × ℕ). both (class_name_at pool m.0) (name_and_type_at pool m.1)) (option_and_then member_of (constant_at pool i))
    (λ m e.
    let t = from_link member_of (HasMember pool) pool (member_link pool) good i m e in
    let names = then_there (λ (n : ℕ × ℕ). text_at pool n.1) (option_and_then names_of (constant_at pool m.1)) t.1 in
    both_there (class_name_at pool m.0) (name_and_type_at pool m.1) (class_there pool m.0 good t.0) (name_and_type_there pool m.1 good names)) h

pub pool_looks_up : PoolLooksUp
pool_looks_up pool i good = record {
  text = (λ h. h, λ h. h);
  class_name = missing (class_name_at pool i) (option_and_then class_text_of (constant_at pool i)) (class_there pool i good) (λ h. ap (option_and_then (text_at pool)) h);
  name_and_type = missing (name_and_type_at pool i) (option_and_then names_of (constant_at pool i)) (name_and_type_there pool i good) (λ h. ap (option_and_then (λ (n : ℕ × ℕ). both (text_at pool n.0) (text_at pool n.1))) h);
  member = missing (member_at pool i) (option_and_then member_of (constant_at pool i)) (member_there pool i good) (λ h. ap (option_and_then (λ (m : ℕ × ℕ). both (class_name_at pool m.0) (name_and_type_at pool m.1))) h);
}

-- ---- another text

pub redirected : (entries : List Entry) (pool : List Constant) (index text : ℕ) (old changed : Entry) → map constant_of entries ≡ pool → MayHaveText pool index text → old ≡ get_or entries (index - 1) old → constant_of changed ≡ with_text text (constant_of old)
    → Redirects pool index text (map constant_of (set entries (index - 1) changed))
redirected entries pool zero text old changed e may at given = absurd may
redirected entries pool (suc i) text old changed e may at given =
    by_option (slice_get pool i)
    (λ none. let never : ⊥ = subst (λ (o : Option Constant). IsSomeAnd o (λ k. HasText k × IsLinked pool (with_text text k))) none may in absurd never)
    (λ k some.
    let n : suc i - 1 ≡ i = omega arith in
    let within : i < length entries = omega (arith, slice_get_within pool i k some, ap length e, length-map entries constant_of) in
    let same : old ≡ get_or entries i old = at ∙ ap (λ (j : ℕ). get_or entries j old) n in
    let here : slice_get pool i ≡ Some (constant_of old) =
    ap (λ (p : List Constant). slice_get p i) (sym e) ∙ slice_get-map constant_of entries i ∙ ap (option_map constant_of) (slice_get-get_or entries i old within) ∙ ap (λ (x : Entry). Some (constant_of x)) (sym same) in
    record {
      constant = constant_of old;
      at = here;
      changed = map-set constant_of entries (suc i - 1) changed ∙ ap (λ (k : Constant). set (map constant_of entries) (suc i - 1) k) given ∙ ap (λ (p : List Constant). set p (suc i - 1) (with_text text (constant_of old))) e;
    })
