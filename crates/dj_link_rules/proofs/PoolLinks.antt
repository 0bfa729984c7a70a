-- What a constant of a valid pool names is there.
use Rattle.std.proofs.Common.{◌≡◌, ℕ, zero, suc, Bool, true, false, cond, List, [], ◌∷◌, Option, Some, None, IsSomeAnd, slice_get, option_and_then, refl, sym, subst}
use Rattle.std.specs.List.{AllByRecursion}
use Rattle.dj_names.specs.declared.descriptor.Desc.TheVariants as descs
use Rattle.dj_names.specs.trusted.Descriptors.{Describes, IsFieldDescriptor, IsMethodDescriptor}
use Rattle.dj_pool.specs.trusted.Pool.{Constant, Class, Field, Method, InterfaceMethod, Hole, takes_two, indexed, constant_at, text_at, class_text_of, names_of, both, IsClassText, NamesText, IsLinked, IsConstant, IsPool}
use Rattle.dj_early_rules.specs.trusted.Classes.{class_text_index, names_at}
use Rattle.dj_declarations.specs.Members.{IsDescriptor}
use Rattle.dj_link_rules.proofs.ClassTexts.{desc_in_is}

-- ---- each constant

abbrev IsLinkedAt : List Constant → Option Constant → Type 0
IsLinkedAt pool None = Unit {0}
IsLinkedAt pool (Some k) = IsLinked pool k

linked_at : (pool : List Constant) (two : Bool) (k : Constant) (ks : List Constant) (i : ℕ) → IsLinked pool k → ((j : ℕ) → IsLinkedAt pool (slice_get ks j)) → IsLinkedAt pool (slice_get (cond two (k ∷ (Hole ∷ ks)) (k ∷ ks)) i)
linked_at pool true k ks zero one more = one
linked_at pool true k ks (suc zero) one more = tt
linked_at pool true k ks (suc (suc i)) one more = more i
linked_at pool false k ks zero one more = one
linked_at pool false k ks (suc i) one more = more i

linked_from : (pool ks : List Constant) → AllByRecursion (IsConstant pool) ks → (i : ℕ) → IsLinkedAt pool (slice_get (indexed ks) i)
unfolding indexed
linked_from pool [] each i = tt
linked_from pool (k ∷ ks) each i = linked_at pool (takes_two k) k (indexed ks) i each.0.1 (linked_from pool ks each.1)

pub linked : (pool : List Constant) (i : ℕ) (k : Constant) → IsPool pool → slice_get pool i ≡ Some k → IsLinked pool k
linked pool i k valid at =
    subst (IsLinkedAt pool) at (subst (λ (ks : List Constant). IsLinkedAt pool (slice_get ks i)) (sym valid.indexes) (linked_from pool valid.constants valid.each i))

pub linked_index : (pool : List Constant) (index : ℕ) (k : Constant) → IsPool pool → constant_at pool index ≡ Some k → IsLinked pool k
linked_index pool zero k valid at = absurd cc
linked_index pool (suc i) k valid at = linked pool i k valid at

-- ---- classes

-- what is found in a class constant
abbrev IsNamedBy : List Constant → Option ℕ → Type 0
IsNamedBy pool None = Unit {0}
IsNamedBy pool (Some index) = NamesText IsClassText pool index

own_text : (pool : List Constant) (k : Constant) → IsLinked pool k → IsNamedBy pool (class_text_of k)
own_text pool (Class name) is = is
own_text pool k is = tt

text_of_class : (pool : List Constant) → IsPool pool → (o : Option Constant) → ((k : Constant) → o ≡ Some k → IsLinked pool k) → IsNamedBy pool (option_and_then class_text_of o)
text_of_class pool valid None each = tt
text_of_class pool valid (Some k) each = own_text pool k (each k refl)

at_class : (pool : List Constant) → IsPool pool → (class : ℕ) → IsNamedBy pool (option_and_then class_text_of (constant_at pool class))
at_class pool valid class = text_of_class pool valid (constant_at pool class) (λ k at. linked_index pool class k valid at)

class_named : (pool : List Constant) (k : Constant) → IsPool pool → IsLinked pool k → IsNamedBy pool (class_text_index pool k)
class_named pool (Class name) valid is = is
class_named pool (Field class names) valid is = at_class pool valid class
class_named pool (Method class names) valid is = at_class pool valid class
class_named pool (InterfaceMethod class names) valid is = at_class pool valid class
class_named pool k valid is = tt

pub class_text_there : (pool : List Constant) (k : Constant) (index : ℕ) → IsPool pool → IsLinked pool k → Some index ≡ class_text_index pool k → NamesText IsClassText pool index
class_text_there pool k index valid is at = subst (IsNamedBy pool) (sym at) (class_named pool k valid is)

-- ---- names

field_described : (text : List ℕ) → IsFieldDescriptor text → IsDescriptor text
field_described text is = subst (Describes text) (sym (desc_in_is text (descs.Field is.0) is.1)) is.1

method_described : (text : List ℕ) → IsMethodDescriptor text → IsDescriptor text
method_described text is = subst (Describes text) (sym (desc_in_is text (descs.Method is.0 is.1) is.2)) is.2

abbrev IsDescribed : Option (List ℕ × List ℕ) → Type 0
IsDescribed None = Unit {0}
IsDescribed (Some x) = IsDescriptor x.1

both_described : (name desc : Option (List ℕ)) → IsSomeAnd desc IsDescriptor → IsDescribed (both name desc)
both_described (Some name) (Some desc) is = is
both_described None desc is = tt
both_described (Some name) None is = tt

names_described : (pool : List Constant) (IsSuch : List ℕ → Type 0) → ((text : List ℕ) → IsSuch text → IsDescriptor text) → (o : Option (ℕ × ℕ)) → IsSomeAnd (option_and_then (λ (n : ℕ × ℕ). text_at pool n.1) o) IsSuch
    → IsDescribed (option_and_then (λ (n : ℕ × ℕ). both (text_at pool n.0) (text_at pool n.1)) o)
names_described pool IsSuch each None is = tt
names_described pool IsSuch each (Some n) is = both_described (text_at pool n.0) (text_at pool n.1) (such (text_at pool n.1) is) where
  such : (o : Option (List ℕ)) → IsSomeAnd o IsSuch → IsSomeAnd o IsDescriptor
  such None is = absurd is
  such (Some text) is = each text is

member_described : (pool : List Constant) (k : Constant) → IsLinked pool k → IsDescribed (names_at pool k)
member_described pool (Field class names) is = names_described pool IsFieldDescriptor field_described (option_and_then names_of (constant_at pool names)) is.1
member_described pool (Method class names) is = names_described pool IsMethodDescriptor method_described (option_and_then names_of (constant_at pool names)) is.1
member_described pool (InterfaceMethod class names) is = names_described pool IsMethodDescriptor method_described (option_and_then names_of (constant_at pool names)) is.1
member_described pool k is = tt

pub names_there : (pool : List Constant) (k : Constant) (name desc : List ℕ) → IsLinked pool k → Some (name, desc) ≡ names_at pool k → IsDescriptor desc
names_there pool k name desc is at = subst IsDescribed (sym at) (member_described pool k is)
