-- What is kept of the constants of a valid pool answers what shape asks of them.
use Rattle.std.proofs.Common.{◌≡◌, ℕ, zero, suc, Bool, true, false, cond, List, [], ◌∷◌, map, get_or, Option, Some, None, IsSomeAnd, slice_get, option_and_then, unwrap_or, refl, sym, ap, subst, ◌∙◌, inl, inr}
use Rattle.std.specs.Prelude.{⊤}
use Rattle.std.specs.List.{AllByRecursion}
use Rattle.std.specs.Option.{option_map}
use Rattle.dj_names.specs.declared.descriptor.Base.TheVariants as bases
use Rattle.dj_names.specs.declared.descriptor.Of.{Of}
use Rattle.dj_names.specs.declared.descriptor.Of.TheVariants as ofs
use Rattle.dj_names.specs.declared.descriptor.Desc.{Desc}
use Rattle.dj_names.specs.declared.descriptor.Desc.TheVariants as descs
use Rattle.dj_names.specs.trusted.Descriptors.{Describes, IsFieldDescriptor, IsMethodDescriptor, type_text, desc_text}
use Rattle.dj_names.specs.trusted.Types.{field_kind}
use Rattle.dj_names.proofs.DescLaws.{desc_again}
use Rattle.dj_pool.specs.trusted.Pool.{Constant, Utf8, Integer, Float, Long, Double, Class, Text, Field, Method, InterfaceMethod, NameAndType, Hole, takes_two, indexed, constant_at, text_of, text_at, class_text_of, class_name_at, names_of, name_and_type_at, desc_at, both, NamesAnyClass, NamesDesc, AreNames, IsLinked, IsConstant, IsPool}
use Rattle.dj_model.specs.trusted.Types.{Member}
use Rattle.dj_model.specs.trusted.Instructions.{Named, AField, AMethod, AnInterfaceMethod}
use Rattle.dj_model.specs.trusted.Kinds.{Signature, call_signature}
use Rattle.dj_declarations.specs.trusted.Files.{desc_in, name_in}
use Rattle.dj_declarations.specs.Members.{IsDescriptor}
use Rattle.dj_program.specs.trusted.Naming.{member_from, member_in, named_or_another, named_by, named_at}
use Rattle.dj_shape_rule.specs.Kept.{KeptKinds}
use Rattle.dj_shape_rule.specs.Keeping.{text_kind, field_kept, method_kept, interface_method_kept, desc_index_at, kind_by, call_by, all_kinds, all_calls}
use Rattle.dj_shape_rule.specs.Pools.{call_at, SaysKind, ArePoolKinds}
use Rattle.dj_shape_rule.specs.declared.pool.ConstantKind.{ConstantKind}
use Rattle.dj_shape_rule.specs.declared.pool.ConstantKind.TheVariants as constants
use Rattle.dj_shape_rule.proofs.Keeping.{desc_in_is, field_reported}

-- ---- each constant

abbrev IsLinkedAt : List Constant → Option Constant → Type 0
IsLinkedAt pool None = Unit {0}
IsLinkedAt pool (Some k) = IsLinked pool k

linked_at : (pool : List Constant) (two : Bool) (k : Constant) (ks : List Constant) (i : ℕ) → IsLinked pool k → ((j : ℕ) → IsLinkedAt pool (slice_get ks j)) → IsLinkedAt pool (slice_get (cond two (k ∷ (Hole ∷ ks)) (k ∷ ks)) i)
linked_at pool true k ks zero one more = one
linked_at pool true k ks (suc zero) one more = tt
linked_at pool true k ks (suc (suc i)) one more = more i
linked_at pool false k ks zero one more = one
linked_at pool false k ks (suc i) one more = more i

linked_from : (pool ks : List Constant) → AllByRecursion (IsConstant pool) ks → (i : ℕ) → IsLinkedAt pool (slice_get (indexed ks) i)
unfolding indexed
linked_from pool [] each i = tt
linked_from pool (k ∷ ks) each i = linked_at pool (takes_two k) k (indexed ks) i each.0.1 (linked_from pool ks each.1)

linked : (pool : List Constant) (i : ℕ) (k : Constant) → IsPool pool → slice_get pool i ≡ Some k → IsLinked pool k
linked pool i k valid at =
    subst (IsLinkedAt pool) at (subst (λ (ks : List Constant). IsLinkedAt pool (slice_get ks i)) (sym valid.indexes) (linked_from pool valid.constants valid.each i))

linked_index : (pool : List Constant) (index : ℕ) (k : Constant) → IsPool pool → constant_at pool index ≡ Some k → IsLinked pool k
linked_index pool zero k valid at = absurd cc
linked_index pool (suc i) k valid at = linked pool i k valid at

-- ---- texts that are there

record There (o : Option (List ℕ)) (IsSuch : List ℕ → Type 0) : Type 0 where
  pub text : List ℕ
  pub is : o ≡ Some text
  pub such : IsSuch text

there : (o : Option (List ℕ)) (IsSuch : List ℕ → Type 0) → IsSomeAnd o IsSuch → There o IsSuch
there None IsSuch is = absurd is
there (Some text) IsSuch is = record { text = text; is = refl; such = is }

-- the text of the class
class_in : (pool : List Constant) (o : Option Constant) → ((k : Constant) → o ≡ Some k → IsLinked pool k) → IsSomeAnd (option_and_then class_text_of o) (λ _. ⊤)
    → There (option_and_then (text_at pool) (option_and_then class_text_of o)) (λ _. ⊤)
class_in pool None each is = absurd is
class_in pool (Some (Class name)) each is = let t = there (text_at pool name) _ (each (Class name) refl) in record { text = t.text; is = t.is; such = tt }
class_in pool (Some k) each is = absurd is

class_there : (pool : List Constant) (class : ℕ) → IsPool pool → NamesAnyClass pool class → There (class_name_at pool class) (λ _. ⊤)
class_there pool class valid is = class_in pool (constant_at pool class) (λ k at. linked_index pool class k valid at) is

-- the text of a name
name_text : (pool : List Constant) (name desc : ℕ) → AreNames pool name desc → There (text_at pool name) (λ _. ⊤)
name_text pool name desc (inl x) = let t = there (text_at pool name) _ x.0 in record { text = t.text; is = t.is; such = tt }
name_text pool name desc (inr x) = let t = there (text_at pool name) _ x.0 in record { text = t.text; is = t.is; such = tt }

name_in_pair : (pool : List Constant) (o : Option Constant) → ((k : Constant) → o ≡ Some k → IsLinked pool k) → (names : ℕ × ℕ) → option_and_then names_of o ≡ Some names
    → There (text_at pool names.0) (λ _. ⊤)
name_in_pair pool None each names e = absurd cc
name_in_pair pool (Some (NameAndType name desc)) each names e =
    let same : name ≡ names.0 = cc in
    subst (λ (n : ℕ). There (text_at pool n) (λ _. ⊤)) same (name_text pool name desc (each (NameAndType name desc) refl))
name_in_pair pool (Some k) each names e = absurd cc

-- a name and descriptor, and the descriptor's text
record Pair (pool : List Constant) (o : Option (ℕ × ℕ)) (IsSuch : List ℕ → Type 0) : Type 0 where
  pub names : ℕ × ℕ
  pub is : o ≡ Some names
  pub desc : There (text_at pool names.1) IsSuch

pair : (pool : List Constant) (o : Option (ℕ × ℕ)) (IsSuch : List ℕ → Type 0) → IsSomeAnd (option_and_then (λ (n : ℕ × ℕ). text_at pool n.1) o) IsSuch → Pair pool o IsSuch
pair pool None IsSuch is = absurd is
pair pool (Some names) IsSuch is = record { names = names; is = refl; desc = there (text_at pool names.1) IsSuch is }

-- ---- members that are there

record Found (pool : List Constant) (class names : ℕ) (IsSuch : List ℕ → Type 0) : Type 0 where
  pub place : Member
  pub text : List ℕ
  pub index : ℕ
  pub member : member_in pool class names ≡ Some place
  pub described : place.desc ≡ desc_in text
  pub desc : desc_at pool names ≡ Some text
  pub indexes : desc_index_at pool names ≡ Some index
  pub at : text_at pool index ≡ Some text
  pub such : IsSuch text

found : (pool : List Constant) (class names : ℕ) (IsSuch : List ℕ → Type 0) → IsPool pool → NamesAnyClass pool class → NamesDesc IsSuch pool names → Found pool class names IsSuch
found pool class names IsSuch valid any is =
    let c = class_there pool class valid any in
    let p = pair pool (option_and_then names_of (constant_at pool names)) IsSuch is in
    let n = name_in_pair pool (constant_at pool names) (λ k at. linked_index pool names k valid at) p.names p.is in
    let both_there : name_and_type_at pool names ≡ Some (n.text, p.desc.text) =
    ap (option_and_then (λ (x : ℕ × ℕ). both (text_at pool x.0) (text_at pool x.1))) p.is
    ∙ ap (λ (o : Option (List ℕ)). both o (text_at pool p.names.1)) n.is
    ∙ ap (both (Some n.text)) p.desc.is in
    record {
      place = member_from (c.text, (n.text, p.desc.text));
      text = p.desc.text;
      index = p.names.1;
      member = ap (λ (o : Option (List ℕ)). option_map member_from (both o (name_and_type_at pool names))) c.is
          ∙ ap (λ (o : Option (List ℕ × List ℕ)). option_map member_from (both (Some c.text) o)) both_there;
      described = refl;
      desc = ap (option_and_then (λ (x : ℕ × ℕ). text_at pool x.1)) p.is ∙ p.desc.is;
      indexes = ap (option_map (λ (x : ℕ × ℕ). x.1)) p.is;
      at = p.desc.is;
      such = p.desc.such;
    }

-- ---- calls

no_field : (dims : ℕ) (of : Of) → [] ≡ type_text (record { dims = dims; of = of }) → ⊥
no_field zero (ofs.Base bases.Boolean) e = absurd cc
no_field zero (ofs.Base bases.Byte) e = absurd cc
no_field zero (ofs.Base bases.Char) e = absurd cc
no_field zero (ofs.Base bases.Short) e = absurd cc
no_field zero (ofs.Base bases.Int) e = absurd cc
no_field zero (ofs.Base bases.Long) e = absurd cc
no_field zero (ofs.Base bases.Float) e = absurd cc
no_field zero (ofs.Base bases.Double) e = absurd cc
no_field zero (ofs.Class name) e = absurd cc
no_field (suc dims) of e = absurd cc

-- no descriptor is empty
none_empty : (desc : Desc) → Describes [] desc → ⊥
none_empty (descs.Field ty) d = no_field ty.dims ty.of d.text_is
none_empty (descs.Method params ret) d = let e : [] ≡ desc_text (descs.Method params ret) = d.text_is in absurd cc

text_reported : (text : List ℕ) → IsDescriptor text → call_signature (desc_in text) ≡ call_by (Utf8 text)
text_reported text is = ap (option_and_then call_signature) (sym (desc_again text (desc_in text) is))

call_reported : (k : Constant) → IsDescriptor (unwrap_or (text_of k) []) → call_signature (desc_in (unwrap_or (text_of k) [])) ≡ call_by k
call_reported (Utf8 text) is = text_reported text is
call_reported k is = absurd (none_empty _ is)

call_in : (ks : List Constant) (i : ℕ) → IsDescriptor (unwrap_or (option_and_then text_of (slice_get ks i)) [])
    → call_signature (desc_in (unwrap_or (option_and_then text_of (slice_get ks i)) [])) ≡ get_or (map call_by ks) i None
call_in [] i is = absurd (none_empty _ is)
call_in (k ∷ ks) zero is = call_reported k is
call_in (k ∷ ks) (suc i) is = call_in ks i is

calls_reported : (pool : List Constant) (index : ℕ) → IsDescriptor (name_in pool index) → call_signature (desc_in (name_in pool index)) ≡ call_at (all_calls pool) index
calls_reported pool zero is = absurd (none_empty _ is)
calls_reported pool (suc i) is = call_in pool i is

method_reported : (pool : List Constant) (index : ℕ) (text : List ℕ) → text_at pool index ≡ Some text → IsMethodDescriptor text → call_signature (desc_in text) ≡ call_at (all_calls pool) index
method_reported pool index text at is =
    let same : name_in pool index ≡ text = ap (λ (o : Option (List ℕ)). unwrap_or o []) at in
    let described : IsDescriptor text = subst (Describes text) (sym (desc_in_is text (descs.Method is.0 is.1) is.2)) is.2 in
    ap (λ (t : List ℕ). call_signature (desc_in t)) (sym same) ∙ calls_reported pool index (subst IsDescriptor (sym same) described)

-- ---- constants

both_reported : (calls : List (Option Signature)) (named named' : Named) (kind kind' : ConstantKind) → named ≡ named' → kind ≡ kind' → SaysKind calls named' kind' → SaysKind calls named kind
both_reported calls named named' kind kind' e f t =
    subst (λ (k : ConstantKind). SaysKind calls named k) (sym f) (subst (λ (n : Named). SaysKind calls n kind') (sym e) t)

reported : (pool : List Constant) (k : Constant) → IsPool pool → IsLinked pool k → SaysKind (all_calls pool) (named_by pool k) (kind_by pool k)
unfolding named_by
reported pool (Integer n) valid is = tt
reported pool (Long n) valid is = tt
reported pool (Text index) valid is = tt
reported pool (Class index) valid is = tt
reported pool (Field class names) valid is =
    let f = found pool class names IsFieldDescriptor valid is.0 is.1 in
    both_reported (all_calls pool) _ (AField f.place) _ (constants.Field (text_kind f.text))
    (ap (λ (o : Option Member). named_or_another (option_map AField o)) f.member) (ap field_kept f.desc)
    (ap field_kind f.described ∙ field_reported f.text f.such)
reported pool (Method class names) valid is =
    let f = found pool class names IsMethodDescriptor valid is.0 is.1 in
    both_reported (all_calls pool) _ (AMethod f.place) _ (constants.Method f.index)
    (ap (λ (o : Option Member). named_or_another (option_map AMethod o)) f.member) (ap method_kept f.indexes)
    (ap call_signature f.described ∙ method_reported pool f.index f.text f.at f.such)
reported pool (InterfaceMethod class names) valid is =
    let f = found pool class names IsMethodDescriptor valid is.0 is.1 in
    both_reported (all_calls pool) _ (AnInterfaceMethod f.place) _ (constants.InterfaceMethod f.index)
    (ap (λ (o : Option Member). named_or_another (option_map AnInterfaceMethod o)) f.member) (ap interface_method_kept f.indexes)
    (ap call_signature f.described ∙ method_reported pool f.index f.text f.at f.such)
reported pool k valid is = tt

reported_in : (pool ks : List Constant) (i : ℕ) → ((k : Constant) → slice_get ks i ≡ Some k → SaysKind (all_calls pool) (named_by pool k) (kind_by pool k))
    → SaysKind (all_calls pool) (named_or_another (option_map (named_by pool) (slice_get ks i))) (get_or (map (kind_by pool) ks) i constants.Other)
reported_in pool [] i each = tt
reported_in pool (k ∷ ks) zero each = each k refl
reported_in pool (k ∷ ks) (suc i) each = reported_in pool ks i each

each_reported : (pool : List Constant) → IsPool pool → (index : ℕ) → SaysKind (all_calls pool) (named_at pool index) (get_or (all_kinds pool pool) index constants.Other)
each_reported pool valid zero = tt
each_reported pool valid (suc i) = reported_in pool pool i (λ k at. reported pool k valid (linked pool i k valid at))

pub kept_reported : (pool : List Constant) (kinds : KeptKinds) → IsPool pool → kinds.constants ≡ all_kinds pool pool → kinds.calls ≡ all_calls pool → ArePoolKinds pool kinds
kept_reported pool kinds valid constants_are calls_are = record {
  each = λ index. subst (λ (ks : List ConstantKind). SaysKind kinds.calls (named_at pool index) (get_or ks index constants.Other)) (sym constants_are)
      (subst (λ (calls : List (Option Signature)). SaysKind calls (named_at pool index) (get_or (all_kinds pool pool) index constants.Other)) (sym calls_are) (each_reported pool valid index));
  calls = λ index is. calls_reported pool index is ∙ ap (λ (calls : List (Option Signature)). call_at calls index) (sym calls_are);
}
