-- What is kept of a constant answers what the rules ask of it.
use Rattle.std.proofs.Common.{◌≡◌, ◌≢◌, ℕ, ◌≤◌, Bool, true, false, not, ◌&&◌, ◌||◌, List, Option, Some, None, refl, sym, ap, subst, arith, Decides, unwrap_or, IsTrue, IsFalse, IsSomeAnd, nat_eq}
use Rattle.std.specs.Option.{option_map}
use Rattle.std.specs.Cmp.Lexicographic.{same_text}
use Rattle.std.proofs.lemmas.Bool.Decides.{Decides-like, Decides-at, Decides-and, Decides-or, Decides-not, Decides-eqb}
use Rattle.std.proofs.lemmas.Cmp.{nat_list_eq_equiv}
use Rattle.dj_names.specs.declared.descriptor.Ty.{Ty}
use Rattle.dj_names.specs.trusted.Types.{Name, same_name}
use Rattle.dj_pool.specs.trusted.Pool.{Constant}
use Rattle.dj_model.specs.trusted.Types.{Member, constructor_name}
use Rattle.dj_model.specs.trusted.Program.{Program, Class, class_at, flags_of, is_interface, is_abstract}
use Rattle.dj_declarations.specs.trusted.Members.{has_method_named}
use Rattle.dj_link_rules.specs.trusted.Named.{named_type, class_of_type, named_member, is_static_found, NamesNoClass, NamesNoMember}
use Rattle.dj_link_rules.specs.trusted.Foreign.{IsOfLibrary, IsForeignConstant, IsUnmakeable, NamesUnmakeable}
use Rattle.dj_link_rules.specs.trusted.Unlinked.{IsAbstractClass, IsAbstractType, NamesAbstract}
use Rattle.dj_link_rules.specs.Judged.{is_of_library, judged_class, judged_member, judged}
use Rattle.dj_link_rules.specs.Known.{lacks_class, lacks_member, is_library_class, is_foreign_named, is_unmakeable, AreUnmakeable, is_unmakeable_class, is_abstract_flags, is_abstract_class, is_marked, flags_at}
use Rattle.dj_class_table.specs.Tables.{class_number}
use Rattle.dj_link_rules.proofs.Numbers.{none_decides, lacking, flags_named, marked_named}

-- a test decides that it is true
pub itself : (b : Bool) → Decides b (IsTrue b)
itself b = (λ e. e, λ e. e)

pub names_decide : (a b : Name) → Decides (same_name a b) (a ≡ b)
names_decide a b = (λ e. same_text a b (sym e), λ e. subst (λ (x : Name). same_name a x ≡ true) e (nat_list_eq_equiv.refl a))

-- ---- what is lacking

class_lacking : (program : Program) (ty : Option Ty) → Decides (lacks_class (option_map (judged_class program) ty)) (IsSomeAnd ty (λ t. class_at program (class_of_type t) ≡ None))
class_lacking program None = (λ e. absurd cc, λ is. absurd is)
class_lacking program (Some ty) = lacking program (class_of_type ty)

pub class_decides : (program : Program) (pool : List Constant) (k : Constant) → Decides (lacks_class (judged program pool k).class) (NamesNoClass program pool k)
class_decides program pool k = class_lacking program (named_type pool k)

member_lacking : (program : Program) (k : Constant) (m : Option Member) → Decides (lacks_member (option_map (judged_member program k) m)) (IsSomeAnd m (λ x. is_static_found program k x ≡ None))
member_lacking program k None = (λ e. absurd cc, λ is. absurd is)
member_lacking program k (Some m) = none_decides (is_static_found program k m)

pub member_decides : (program : Program) (pool : List Constant) (k : Constant) → Decides (lacks_member (judged program pool k).member) (NamesNoMember program pool k)
member_decides program pool k = member_lacking program k (named_member pool k)

-- ---- rule 17

pub library_decides : (name : Name) → Decides (is_of_library name) (IsOfLibrary name)
library_decides name = Decides-or _ _ (itself _) (itself _)

library_class : (program : Program) (ty : Option Ty) → Decides (is_library_class (option_map (judged_class program) ty)) (IsSomeAnd ty (λ t. IsOfLibrary (class_of_type t)))
library_class program None = (λ e. absurd cc, λ is. absurd is)
library_class program (Some ty) = library_decides (class_of_type ty)

pub foreign_decides : (program : Program) (pool : List Constant) (k : Constant) → Decides (is_foreign_named (judged program pool k)) (IsForeignConstant program pool k)
foreign_decides program pool k =
    let n = judged program pool k in
    Decides-and (is_library_class n.class) (lacks_class n.class || lacks_member n.member) (library_class program (named_type pool k))
    (Decides-or (lacks_class n.class) (lacks_member n.member) (class_decides program pool k) (member_decides program pool k))

unmakeable_decides : (c : Class) → Decides (is_unmakeable c) (IsUnmakeable c)
unmakeable_decides c = Decides-or (not (has_method_named c.methods constructor_name)) (is_interface c.flags) (not_decides (has_method_named c.methods constructor_name)) (itself (is_interface c.flags)) where
  not_decides : (b : Bool) → Decides (not b) (IsFalse b)
  not_decides true = (λ e. absurd cc, λ e. absurd cc)
  not_decides false = (λ e. refl, λ e. refl)

abbrev HasSuch : Option Class → Type 0
HasSuch found = (c : Class) × (found ≡ Some c) × IsUnmakeable c

same_class : (a b : Class) → Some a ≡ Some b → a ≡ b
same_class a b e = cc

found_unmakeable : (found : Option Class) → Decides (unwrap_or (option_map is_unmakeable found) false) (HasSuch found)
found_unmakeable None = (λ e. absurd cc, λ has. let e = has.1 in absurd cc)
found_unmakeable (Some c) = (
  λ e. (c, refl, (unmakeable_decides c).0 e),
  λ has. (unmakeable_decides c).1 (subst IsUnmakeable (sym (same_class c has.0 has.1)) has.2),
)

-- the same for a type
abbrev TypeUnmakeable : Program → Ty → Type 0
TypeUnmakeable program ty = (ty.dims ≡ 0) × (IsOfLibrary (class_of_type ty) × HasSuch (class_at program (class_of_type ty)))

type_unmakeable : (marks : List Bool) (program : Program) (ty : Option Ty) → AreUnmakeable program marks → Decides (is_unmakeable_class marks (option_map (judged_class program) ty)) (IsSomeAnd ty (TypeUnmakeable program))
type_unmakeable marks program None are = (λ e. absurd cc, λ is. absurd is)
type_unmakeable marks program (Some ty) are =
    let name = class_of_type ty in
    let c = judged_class program ty in
    Decides-and (nat_eq c.dims 0) (c.of_library && is_marked marks c.number) (Decides-eqb c.dims 0)
    (Decides-and c.of_library (is_marked marks c.number) (library_decides name)
    (Decides-at (is_marked marks c.number) _ (marked_named marks program name are) (found_unmakeable (class_at program name))))

as_record : (program : Program) (pool : List Constant) (k : Constant) (ty : Option Ty) → named_type pool k ≡ ty → IsSomeAnd ty (TypeUnmakeable program) → NamesUnmakeable program pool k
as_record program pool k None named is = absurd is
as_record program pool k (Some ty) named is = record { ty = ty; named = named; whole = is.0; library = is.1.0; class = is.1.1.0; there = is.1.1.1; such = is.1.1.2 }

pub makeable_decides : (marks : List Bool) (program : Program) (pool : List Constant) (k : Constant) → AreUnmakeable program marks
    → Decides (is_unmakeable_class marks (judged program pool k).class) (NamesUnmakeable program pool k)
makeable_decides marks program pool k are =
    Decides-like (is_unmakeable_class marks (judged program pool k).class) (as_record program pool k (named_type pool k) refl)
    (λ is. subst (λ (ty : Option Ty). IsSomeAnd ty (TypeUnmakeable program)) (sym is.named) (is.whole, (is.library, (is.class, is.there, is.such))))
    (type_unmakeable marks program (named_type pool k) are)

-- ---- abstract classes

abbrev IsAbstractFound : Option Class → Type 0
IsAbstractFound found = IsSomeAnd found IsAbstractClass

abstract_found : (found : Option Class) → Decides (is_abstract_flags (flags_of found)) (IsAbstractFound found)
abstract_found None = (λ e. absurd cc, λ is. absurd is)
abstract_found (Some c) = itself (is_interface c.flags || is_abstract c.flags)

array_decides : (n : ℕ) → Decides (not (nat_eq n 0)) (1 ≤ n)
array_decides n = Decides-like (not (nat_eq n 0)) (λ (some : n ≢ 0). omega (arith, some)) (λ le e. absurd (omega (arith, le, e))) (Decides-not (nat_eq n 0) (Decides-eqb n 0))

abstract_type : (program : Program) (ty : Option Ty) → Decides (is_abstract_class program (option_map (judged_class program) ty)) (IsSomeAnd ty (IsAbstractType program))
abstract_type program None = (λ e. absurd cc, λ is. absurd is)
abstract_type program (Some ty) =
    let name = class_of_type ty in
    let flags = flags_at program (class_number program name) in
    Decides-or (not (nat_eq ty.dims 0)) (is_abstract_flags flags) (array_decides ty.dims)
    (Decides-at (is_abstract_flags flags) (is_abstract_flags (flags_of (class_at program name))) (ap is_abstract_flags (flags_named program name)) (abstract_found (class_at program name)))

pub abstract_decides : (program : Program) (pool : List Constant) (k : Constant) → Decides (is_abstract_class program (judged program pool k).class) (NamesAbstract program pool k)
abstract_decides program pool k = abstract_type program (named_type pool k)
