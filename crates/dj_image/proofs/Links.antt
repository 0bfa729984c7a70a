-- Texts that constants of a valid pool name are there.
use Rattle.std.proofs.Common.{◌≡◌, ℕ, zero, suc, Bool, true, false, cond, List, [], ◌∷◌, Option, Some, None, slice_get, option_and_then, refl, sym, subst}
use Rattle.std.specs.Option.{option_map}
use Rattle.std.specs.List.{AllByRecursion}
use Rattle.dj_ops.specs.declared.instruction.Instr.{Instr}
use Rattle.dj_ops.specs.declared.instruction.Instr.TheVariants as instrs
use Rattle.dj_pool.specs.trusted.Pool.{Constant, Class, Text, Field, Method, InterfaceMethod, Hole, takes_two, indexed, constant_at, class_text_of, IsClassText, NamesText, IsLinked, IsConstant, IsPool}
use Rattle.std.specs.Prelude.{nat_eq, if◌then◌else◌}
use Rattle.dj_image.specs.declared.uses.Use.{Use}
use Rattle.dj_image.specs.declared.uses.Use.TheVariants as uses
use Rattle.dj_image.specs.Uses.{class_use, literal_use, use_in}
use Rattle.dj_image.specs.ArrayRows.{IsFitUse}

-- ---- each constant

abbrev IsLinkedAt : List Constant → Option Constant → Type 0
IsLinkedAt pool None = Unit {0}
IsLinkedAt pool (Some k) = IsLinked pool k

linked_at : (pool : List Constant) (two : Bool) (k : Constant) (ks : List Constant) (i : ℕ) → IsLinked pool k → ((j : ℕ) → IsLinkedAt pool (slice_get ks j)) → IsLinkedAt pool (slice_get (cond two (k ∷ (Hole ∷ ks)) (k ∷ ks)) i)
linked_at pool true k ks zero one more = one
linked_at pool true k ks (suc zero) one more = tt
linked_at pool true k ks (suc (suc i)) one more = more i
linked_at pool false k ks zero one more = one
linked_at pool false k ks (suc i) one more = more i

linked_from : (pool ks : List Constant) → AllByRecursion (IsConstant pool) ks → (i : ℕ) → IsLinkedAt pool (slice_get (indexed ks) i)
unfolding indexed
linked_from pool [] each i = tt
linked_from pool (k ∷ ks) each i = linked_at pool (takes_two k) k (indexed ks) i each.0.1 (linked_from pool ks each.1)

linked : (pool : List Constant) (i : ℕ) (k : Constant) → IsPool pool → slice_get pool i ≡ Some k → IsLinked pool k
linked pool i k valid at =
    subst (IsLinkedAt pool) at (subst (λ (ks : List Constant). IsLinkedAt pool (slice_get ks i)) (sym valid.indexes) (linked_from pool valid.constants valid.each i))

pub linked_index : (pool : List Constant) (index : ℕ) (k : Constant) → IsPool pool → constant_at pool index ≡ Some k → IsLinked pool k
linked_index pool zero k valid at = absurd cc
linked_index pool (suc i) k valid at = linked pool i k valid at

-- ---- classes

-- what is found in a class constant
abbrev pub IsNamedBy : List Constant → Option ℕ → Type 0
IsNamedBy pool None = Unit {0}
IsNamedBy pool (Some index) = NamesText IsClassText pool index

own_text : (pool : List Constant) (k : Constant) → IsLinked pool k → IsNamedBy pool (class_text_of k)
own_text pool (Class name) is = is
own_text pool k is = tt

text_of_class : (pool : List Constant) → (o : Option Constant) → ((k : Constant) → o ≡ Some k → IsLinked pool k) → IsNamedBy pool (option_and_then class_text_of o)
text_of_class pool None each = tt
text_of_class pool (Some k) each = own_text pool k (each k refl)

pub at_class : (pool : List Constant) → IsPool pool → (class : ℕ) → IsNamedBy pool (option_and_then class_text_of (constant_at pool class))
at_class pool valid class = text_of_class pool (constant_at pool class) (λ k at. linked_index pool class k valid at)

-- ---- uses

abbrev IsFit : List Constant → Option Use → Type 0
IsFit pool None = Unit {0}
IsFit pool (Some one) = IsFitUse pool one

itself_fit : (pool : List Constant) (o : Option ℕ) → IsNamedBy pool o → IsFit pool (option_map uses.Itself o)
itself_fit pool None is = tt
itself_fit pool (Some text) is = is

either_fit : (pool : List Constant) (element : Bool) (text : ℕ) → NamesText IsClassText pool text → IsFitUse pool (if element then uses.Element text else uses.Itself text)
either_fit pool true text is = is
either_fit pool false text is = is

class_fit : (pool : List Constant) → IsPool pool → (element : Bool) (k : Constant) → IsLinked pool k → IsFit pool (class_use element pool k)
class_fit pool valid element (Class text) is = either_fit pool element text is
class_fit pool valid element (Field class names) is = itself_fit pool _ (at_class pool valid class)
class_fit pool valid element (Method class names) is = itself_fit pool _ (at_class pool valid class)
class_fit pool valid element (InterfaceMethod class names) is = itself_fit pool _ (at_class pool valid class)
class_fit pool valid element k is = tt

pushed_fit : (pool : List Constant) (b : Bool) (text : ℕ) → IsFit pool (if b then None else Some (uses.Pushed text))
pushed_fit pool true text = tt
pushed_fit pool false text = tt

literal_fit : (pool : List Constant) → IsPool pool → (op : ℕ) (k : Constant) → IsLinked pool k → IsFit pool (literal_use op pool k)
literal_fit pool valid op (Text text) is = pushed_fit pool (nat_eq op 20) text
literal_fit pool valid op (Class text) is = class_fit pool valid false (Class text) is
literal_fit pool valid op (Field class names) is = class_fit pool valid false (Field class names) is
literal_fit pool valid op (Method class names) is = class_fit pool valid false (Method class names) is
literal_fit pool valid op (InterfaceMethod class names) is = class_fit pool valid false (InterfaceMethod class names) is
literal_fit pool valid op k is = tt

found_fit : (pool : List Constant) (f : Constant → Option Use) (o : Option Constant) → ((k : Constant) → o ≡ Some k → IsFit pool (f k)) → IsFit pool (option_and_then f o)
found_fit pool f None each = tt
found_fit pool f (Some k) each = each k refl

index_fit : (pool : List Constant) → IsPool pool → (f : Constant → Option Use) → ((k : Constant) → IsLinked pool k → IsFit pool (f k)) → (index : ℕ) → IsFit pool (option_and_then f (constant_at pool index))
index_fit pool valid f each index = found_fit pool f (constant_at pool index) (λ k at. each k (linked_index pool index k valid at))

use_fit : (pool : List Constant) → IsPool pool → (instr : Instr) → IsFit pool (use_in pool instr)
use_fit pool valid (instrs.Literal op index) = index_fit pool valid (literal_use op pool) (literal_fit pool valid op) index
use_fit pool valid (instrs.Member op index) = index_fit pool valid (class_use false pool) (class_fit pool valid false) index
use_fit pool valid (instrs.Interface index count) = index_fit pool valid (class_use false pool) (class_fit pool valid false) index
use_fit pool valid (instrs.Dynamic index) = index_fit pool valid (class_use false pool) (class_fit pool valid false) index
use_fit pool valid (instrs.Class op index) = index_fit pool valid (class_use (nat_eq op 189) pool) (class_fit pool valid (nat_eq op 189)) index
use_fit pool valid (instrs.Multi index dims) = index_fit pool valid (class_use false pool) (class_fit pool valid false) index
use_fit pool valid (instrs.Array base) = tt
use_fit pool valid instr = tt

pub fits : (pool : List Constant) (instr : Instr) (one : Use) → IsPool pool → use_in pool instr ≡ Some one → IsFitUse pool one
fits pool instr one valid e = subst (IsFit pool) e (use_fit pool valid instr)
