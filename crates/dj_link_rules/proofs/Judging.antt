-- The judgement of instructions and handlers by what is kept of constants is that of the rules.
use Rattle.std.proofs.Common.{◌≡◌, ◌≢◌, ℕ, ◌⊎◌, Bool, true, false, not, ◌&&◌, ◌||◌, List, Option, Some, None, refl, ap, inl, inr, Decides, option_and_then, IsTrue, IsFalse, IsSomeAnd, nat_eq}
use Rattle.std.specs.Option.{option_map}
use Rattle.std.proofs.lemmas.Bool.Decides.{Decides-like, Decides-at, Decides-and, Decides-or, Decides-not, Decides-eqb}
use Rattle.dj_names.specs.declared.descriptor.Ty.{Ty}
use Rattle.dj_names.specs.trusted.Types.{Name}
use Rattle.dj_ops.specs.declared.instruction.Instr.{Instr}
use Rattle.dj_ops.specs.declared.instruction.Instr.TheVariants as instrs
use Rattle.dj_pool.specs.trusted.Pool.{Constant, Method, InterfaceMethod, constant_at, both}
use Rattle.dj_model.specs.trusted.Types.{Member, constructor_name, initialiser_name}
use Rattle.dj_model.specs.trusted.Program.{Program, class_at, is_interface}
use Rattle.dj_early_rules.specs.trusted.Classes.{names_at}
use Rattle.dj_early_rules.specs.trusted.Instructions.{index_of, NamesSuch}
use Rattle.dj_link_rules.specs.trusted.Named.{named_type, class_of_type, member_of, named_member, NamesNoClass, NamesNoMember, MakesSuch}
use Rattle.dj_link_rules.specs.trusted.Foreign.{IsForeignConstant, NamesUnmakeable, IsForeign}
use Rattle.dj_link_rules.specs.trusted.Unlinked.{is_class, takes, HasWrongTag, asks_static, differ, IsOtherwiseStatic, is_special, IsMisusedConstructor, IsInitialiser, is_own_or_above, IsFarSpecial, IsUnlinkedMember, is_interface_type, HasWrongKind, NamesAbstract, IsTooDeep, IsUnlinkedType, IsUnlinkedConstant, IsUnlinked, IsUnlinkedCatch}
use Rattle.dj_link_rules.specs.Judged.{tag_of, judged_class, judged_member, judged, kept_at}
use Rattle.dj_link_rules.specs.declared.known.Known.{Known}
use Rattle.dj_link_rules.specs.Known.{lacks_class, lacks_member, is_foreign_named, is_unmakeable_class, is_interface_class, is_abstract_class, makes, makes_array, takes_tag, is_class_tag, is_own_or_above_class, is_far_special, is_misused_member, is_unlinked_member, has_wrong_kind, is_unlinked_class, is_unlinked_named, is_foreign_by, is_foreign, is_unlinked_by, is_unlinked_at, is_unlinked, is_foreign_catch_by, is_foreign_catch, is_unlinked_catch_by, is_unlinked_catch, IsKnown}
use Rattle.dj_link_rules.proofs.Numbers.{flags_named, above_named}
use Rattle.dj_link_rules.proofs.Tags.{class_tag, takes_same}
use Rattle.dj_link_rules.proofs.NamedLaws.{itself, names_decide, class_decides, member_decides, foreign_decides, makeable_decides, abstract_decides}

-- ---- tests

-- the second where the first doesn't hold
or_else : {P Q : Type 0} (x y : Bool) → Decides x P → ((P → ⊥) → Decides y Q) → Decides (x || y) (P ⊎ Q)
or_else true y d k = (λ e. inl (d.0 refl), λ any. refl)
or_else {P = P} false y d k =
    let none : P → ⊥ = λ p. (let e = d.1 p in absurd cc) in
    (λ e. inr ((k none).0 e), λ any. elim any [ inl p ↦ absurd (none p) | inr q ↦ (k none).1 q ])

not_decides : (b : Bool) → Decides (not b) (IsFalse b)
not_decides true = (λ e. absurd cc, λ e. absurd cc)
not_decides false = (λ e. refl, λ e. refl)

-- ---- what an instruction makes

such_of_makes : (IsSuch : List Constant → Constant → Type 0) (pool : List Constant) (instr : Instr) → MakesSuch IsSuch pool instr → IsTrue (makes instr) × NamesSuch IsSuch pool instr
such_of_makes IsSuch pool (instrs.Class op index) is = ((Decides-eqb op 187).1 is.0, is.1)
such_of_makes IsSuch pool instr is = absurd is

makes_of_such : (IsSuch : List Constant → Constant → Type 0) (pool : List Constant) (instr : Instr) → IsTrue (makes instr) → NamesSuch IsSuch pool instr → MakesSuch IsSuch pool instr
makes_of_such IsSuch pool (instrs.Class op index) e is = ((Decides-eqb op 187).0 e, is)
makes_of_such IsSuch pool instr e is = absurd cc

-- a constant that is such, or is made and is such otherwise
abbrev SuchOrMade : (Constant → Type 0) → (Constant → Type 0) → Instr → Constant → Type 0
SuchOrMade Named Made instr k = Named k ⊎ (IsTrue (makes instr) × Made k)

apart : (Named Made : Constant → Type 0) (instr : Instr) (k : Option Constant) → IsSomeAnd k (SuchOrMade Named Made instr) → IsSomeAnd k Named ⊎ (IsTrue (makes instr) × IsSomeAnd k Made)
apart Named Made instr None is = absurd is
apart Named Made instr (Some k) is = is

joined : (Named Made : Constant → Type 0) (instr : Instr) (k : Option Constant) → IsSomeAnd k Named ⊎ (IsTrue (makes instr) × IsSomeAnd k Made) → IsSomeAnd k (SuchOrMade Named Made instr)
joined Named Made instr None is = elim is [ inl n ↦ n | inr m ↦ m.1 ]
joined Named Made instr (Some k) is = is

-- the constant of an instruction
abbrev named_at : List Constant → Instr → Option Constant
named_at pool instr = option_and_then (constant_at pool) (index_of instr)

such_named : (Named Made : List Constant → Constant → Type 0) (pool : List Constant) (instr : Instr) → IsSomeAnd (named_at pool instr) (SuchOrMade (Named pool) (Made pool) instr) → NamesSuch Named pool instr ⊎ MakesSuch Made pool instr
such_named Named Made pool instr is = elim (apart (Named pool) (Made pool) instr (named_at pool instr) is) [
  | inl n ↦ inl n
  | inr m ↦ inr (makes_of_such Made pool instr m.0 m.1)
]

named_such : (Named Made : List Constant → Constant → Type 0) (pool : List Constant) (instr : Instr) → NamesSuch Named pool instr ⊎ MakesSuch Made pool instr → IsSomeAnd (named_at pool instr) (SuchOrMade (Named pool) (Made pool) instr)
named_such Named Made pool instr is = joined (Named pool) (Made pool) instr (named_at pool instr) (elim is [
  | inl n ↦ inl n
  | inr m ↦ inr (such_of_makes Made pool instr m)
])

-- ---- what is kept of the constant of an instruction

kept_named : (own : Name) (pool : List Constant) (known : Known) (index : Option ℕ) → IsKnown own pool known
    → option_and_then (kept_at known.kept.now) index ≡ option_map (judged known.table.now pool) (option_and_then (constant_at pool) index)
kept_named own pool known None is = refl
kept_named own pool known (Some index) is = is.constants index

-- ---- rule 17

foreign_of : (own : Name) (pool : List Constant) (known : Known) (instr : Instr) (k : Option Constant) → IsKnown own pool known
    → Decides (is_foreign_by known instr (option_map (judged known.table.now pool) k)) (IsSomeAnd k (SuchOrMade (IsForeignConstant known.table.now pool) (NamesUnmakeable known.table.now pool) instr))
foreign_of own pool known instr None is = (λ e. absurd cc, λ none. absurd none)
foreign_of own pool known instr (Some k) is =
    let n = judged known.table.now pool k in
    let unmakeable = is_unmakeable_class known.unmakeable.now n.class in
    Decides-or (is_foreign_named n) (makes instr && unmakeable) (foreign_decides known.table.now pool k)
    (Decides-and (makes instr) unmakeable (itself (makes instr)) (makeable_decides known.unmakeable.now known.table.now pool k is.unmakeable))

pub foreign_instr : (own : Name) (pool : List Constant) (known : Known) (instr : Instr) → IsKnown own pool known → Decides (is_foreign known instr) (IsForeign known.table.now pool instr)
foreign_instr own pool known instr is =
    let program = known.table.now in
    Decides-like (is_foreign known instr) (such_named (IsForeignConstant program) (NamesUnmakeable program) pool instr) (named_such (IsForeignConstant program) (NamesUnmakeable program) pool instr)
    (Decides-at (is_foreign known instr) _ (ap (is_foreign_by known instr) (kept_named own pool known (index_of instr) is)) (foreign_of own pool known instr (named_at pool instr) is))

-- ---- rule 18, of members

asked_otherwise : (program : Program) (instr : Instr) (k : Constant) (m : Member) → Decides (differ (asks_static instr) (judged_member program k m).is_static) (IsOtherwiseStatic program instr k m)
asked_otherwise program instr k m = itself _

misused_decides : (program : Program) (instr : Instr) (k : Constant) (m : Member)
    → Decides (is_misused_member instr (judged_member program k m)) (IsOtherwiseStatic program instr k m ⊎ (IsMisusedConstructor instr m ⊎ IsInitialiser m))
misused_decides program instr k m =
    let n = judged_member program k m in
    Decides-or (differ (asks_static instr) n.is_static) ((n.is_constructor && not (is_special instr)) || n.is_initialiser) (asked_otherwise program instr k m)
    (Decides-or (n.is_constructor && not (is_special instr)) n.is_initialiser
    (Decides-and n.is_constructor (not (is_special instr)) (names_decide m.name constructor_name) (not_decides (is_special instr)))
    (names_decide m.name initialiser_name))

own_same : (own : Name) (pool : List Constant) (known : Known) (ty : Ty) → IsKnown own pool known → class_at known.table.now (class_of_type ty) ≢ None
    → is_own_or_above_class known.own (judged_class known.table.now ty) ≡ is_own_or_above known.table.now own ty
own_same own pool known ty is there = ap (λ (b : Bool). nat_eq ty.dims 0 && b) (above_named known.own known.table.now own (class_of_type ty) is.above there)

far_decides : (own : Name) (pool : List Constant) (known : Known) (instr : Instr) (k : Constant) (m : Member) → IsKnown own pool known → class_at known.table.now (class_of_type m.class) ≢ None
    → Decides (is_far_special known.own instr (judged_class known.table.now m.class) (judged_member known.table.now k m)) (IsFarSpecial known.table.now own instr m)
far_decides own pool known instr k m is there =
    let program = known.table.now in
    let n = judged_member program k m in
    let far = not (is_own_or_above_class known.own (judged_class program m.class)) in
    Decides-like (is_special instr && (not n.is_constructor && far)) (λ all. (all.0, all.1.0, all.1.1)) (λ all. (all.0, (all.1, all.2)))
    (Decides-and (is_special instr) (not n.is_constructor && far) (itself (is_special instr))
    (Decides-and (not n.is_constructor) far (Decides-not n.is_constructor (names_decide m.name constructor_name))
    (Decides-at far (not (is_own_or_above program own m.class)) (ap not (own_same own pool known m.class is there)) (not_decides (is_own_or_above program own m.class)))))

member_reported : (own : Name) (pool : List Constant) (known : Known) (instr : Instr) (k : Constant) (m : Member) → IsKnown own pool known → class_at known.table.now (class_of_type m.class) ≢ None
    → Decides (is_misused_member instr (judged_member known.table.now k m) || is_far_special known.own instr (judged_class known.table.now m.class) (judged_member known.table.now k m)) (IsUnlinkedMember known.table.now own instr k m)
member_reported own pool known instr k m is there =
    let program = known.table.now in
    let misused = is_misused_member instr (judged_member program k m) in
    let far = is_far_special known.own instr (judged_class program m.class) (judged_member program k m) in
    Decides-like (misused || far) to from (Decides-or misused far (misused_decides program instr k m) (far_decides own pool known instr k m is there)) where
      to : (IsOtherwiseStatic known.table.now instr k m ⊎ (IsMisusedConstructor instr m ⊎ IsInitialiser m)) ⊎ IsFarSpecial known.table.now own instr m → IsUnlinkedMember known.table.now own instr k m
      to (inl (inl a)) = inl a
      to (inl (inr (inl b))) = inr (inl b)
      to (inl (inr (inr c))) = inr (inr (inl c))
      to (inr d) = inr (inr (inr d))

      from : IsUnlinkedMember known.table.now own instr k m → (IsOtherwiseStatic known.table.now instr k m ⊎ (IsMisusedConstructor instr m ⊎ IsInitialiser m)) ⊎ IsFarSpecial known.table.now own instr m
      from (inl a) = inl (inl a)
      from (inr (inl b)) = inl (inr (inl b))
      from (inr (inr (inl c))) = inl (inr (inr c))
      from (inr (inr (inr d))) = inr d

-- the class of a constant's member is that of the constant
member_both : (own : Name) (pool : List Constant) (known : Known) (instr : Instr) (k : Constant) (ty : Option Ty) (names : Option (List ℕ × List ℕ)) → IsKnown own pool known
    → (IsSomeAnd ty (λ t. class_at known.table.now (class_of_type t) ≡ None) → ⊥)
    → Decides (is_unlinked_member known.own instr (option_map (judged_class known.table.now) ty) (option_map (judged_member known.table.now k) (option_map member_of (both ty names)))) (IsSomeAnd (option_map member_of (both ty names)) (IsUnlinkedMember known.table.now own instr k))
member_both own pool known instr k None None is there = (λ e. absurd cc, λ none. absurd none)
member_both own pool known instr k None (Some names) is there = (λ e. absurd cc, λ none. absurd none)
member_both own pool known instr k (Some ty) None is there = (λ e. absurd cc, λ none. absurd none)
member_both own pool known instr k (Some ty) (Some names) is there = member_reported own pool known instr k (member_of (ty, names)) is there

-- ---- rule 18, of classes

interface_same : (program : Program) (ty : Ty) → is_interface_class program (judged_class program ty) ≡ is_interface_type program ty
interface_same program ty = ap (λ (flags : ℕ). nat_eq ty.dims 0 && is_interface flags) (flags_named program (class_of_type ty))

kind_decides : (program : Program) (k : Constant) (ty : Ty) → Decides (has_wrong_kind program (tag_of k) (judged_class program ty)) (HasWrongKind program k ty)
kind_decides program (Method class names) ty = Decides-at _ (is_interface_type program ty) (interface_same program ty) (itself (is_interface_type program ty))
kind_decides program (InterfaceMethod class names) ty = Decides-at _ (not (is_interface_type program ty)) (ap not (interface_same program ty)) (not_decides (is_interface_type program ty))
kind_decides program k ty = (λ e. absurd cc, λ none. absurd none)

deep_decides : (instr : Instr) (ty : Ty) → Decides (makes_array instr && nat_eq ty.dims 255) (IsTooDeep instr ty)
deep_decides (instrs.Class op index) ty = Decides-and (nat_eq op 189) (nat_eq ty.dims 255) (Decides-eqb op 189) (Decides-eqb ty.dims 255)
deep_decides instr ty = (λ e. absurd cc, λ none. absurd none)

type_reported : (program : Program) (instr : Instr) (k : Constant) (ty : Option Ty)
    → Decides (is_unlinked_class program instr (tag_of k) (option_map (judged_class program) ty)) (IsSomeAnd ty (IsUnlinkedType program instr k))
type_reported program instr k None = (λ e. absurd cc, λ none. absurd none)
type_reported program instr k (Some ty) =
    Decides-or (has_wrong_kind program (tag_of k) (judged_class program ty)) (makes_array instr && nat_eq ty.dims 255) (kind_decides program k ty) (deep_decides instr ty)

-- ---- rule 18, of a constant

abbrev UnlinkedOrMade : Name → List Constant → Known → Instr → Constant → Type 0
UnlinkedOrMade own pool known instr = SuchOrMade (IsUnlinkedConstant known.table.now own instr pool) (NamesAbstract known.table.now pool) instr

constant_reported : (own : Name) (pool : List Constant) (known : Known) (instr : Instr) (k : Constant) → IsKnown own pool known
    → Decides (is_unlinked_named known instr (judged known.table.now pool k)) (UnlinkedOrMade own pool known instr k)
constant_reported own pool known instr k is =
    let program = known.table.now in
    let n = judged program pool k in
    let made = makes instr && is_abstract_class program n.class in
    let member = is_unlinked_member known.own instr n.class n.member in
    let class = is_unlinked_class program instr n.tag n.class in
    Decides-like (is_unlinked_named known instr n) to from
    (or_else (lacks_class n.class || lacks_member n.member) (member || (class || made))
    (Decides-or (lacks_class n.class) (lacks_member n.member) (class_decides program pool k) (member_decides program pool k))
    (λ there. Decides-or member (class || made) (member_both own pool known instr k (named_type pool k) (names_at pool k) is (λ none. there (inl none)))
    (Decides-or class made (type_reported program instr k (named_type pool k))
    (Decides-and (makes instr) (is_abstract_class program n.class) (itself (makes instr)) (abstract_decides program pool k))))) where
      to : (NamesNoClass known.table.now pool k ⊎ NamesNoMember known.table.now pool k) ⊎ (IsSomeAnd (named_member pool k) (IsUnlinkedMember known.table.now own instr k) ⊎ (IsSomeAnd (named_type pool k) (IsUnlinkedType known.table.now instr k) ⊎ (IsTrue (makes instr) × NamesAbstract known.table.now pool k))) → UnlinkedOrMade own pool known instr k
      to (inl (inl a)) = inl (inl a)
      to (inl (inr b)) = inl (inr (inl b))
      to (inr (inl c)) = inl (inr (inr (inl c)))
      to (inr (inr (inl d))) = inl (inr (inr (inr d)))
      to (inr (inr (inr e))) = inr e

      from : UnlinkedOrMade own pool known instr k → (NamesNoClass known.table.now pool k ⊎ NamesNoMember known.table.now pool k) ⊎ (IsSomeAnd (named_member pool k) (IsUnlinkedMember known.table.now own instr k) ⊎ (IsSomeAnd (named_type pool k) (IsUnlinkedType known.table.now instr k) ⊎ (IsTrue (makes instr) × NamesAbstract known.table.now pool k)))
      from (inl (inl a)) = inl (inl a)
      from (inl (inr (inl b))) = inl (inr b)
      from (inl (inr (inr (inl c)))) = inr (inl c)
      from (inl (inr (inr (inr d)))) = inr (inr (inl d))
      from (inr e) = inr (inr (inr e))

-- ---- rule 18, of an instruction

abbrev IsMissing : Instr → Option Constant → Type 0
IsMissing instr k = IsSomeAnd k (λ x. IsTrue (takes instr x)) → ⊥

unlinked_of : (own : Name) (pool : List Constant) (known : Known) (instr : Instr) (k : Option Constant) → IsKnown own pool known
    → Decides (is_unlinked_by known instr (option_map (judged known.table.now pool) k)) (IsMissing instr k ⊎ IsSomeAnd k (UnlinkedOrMade own pool known instr))
unlinked_of own pool known instr None is = (λ e. inl (λ none. none), λ any. refl)
unlinked_of own pool known instr (Some k) is =
    let n = judged known.table.now pool k in
    Decides-or (not (takes_tag instr n.tag)) (is_unlinked_named known instr n)
    (Decides-at (not (takes_tag instr n.tag)) (not (takes instr k)) (ap not (takes_same instr k)) (Decides-not (takes instr k) (itself (takes instr k))))
    (constant_reported own pool known instr k is)

unlinked_at : (own : Name) (pool : List Constant) (known : Known) (instr : Instr) (index : Option ℕ) → IsKnown own pool known
    → Decides (is_unlinked_at known instr index) (IsSomeAnd index (λ i. IsMissing instr (constant_at pool i)) ⊎ IsSomeAnd (option_and_then (constant_at pool) index) (UnlinkedOrMade own pool known instr))
unlinked_at own pool known instr None is = (λ e. absurd cc, λ any. elim any [ inl none ↦ absurd none | inr none ↦ absurd none ])
unlinked_at own pool known instr (Some index) is =
    Decides-at (is_unlinked_by known instr (kept_at known.kept.now index)) _ (ap (is_unlinked_by known instr) (is.constants index)) (unlinked_of own pool known instr (constant_at pool index) is)

pub unlinked_instr : (own : Name) (pool : List Constant) (known : Known) (instr : Instr) → IsKnown own pool known → Decides (is_unlinked known instr) (IsUnlinked known.table.now own pool instr)
unlinked_instr own pool known instr is = Decides-like (is_unlinked known instr) to from (unlinked_at own pool known instr (index_of instr) is) where
  to : HasWrongTag pool instr ⊎ IsSomeAnd (named_at pool instr) (UnlinkedOrMade own pool known instr) → IsUnlinked known.table.now own pool instr
  to (inl wrong) = inl wrong
  to (inr such) = inr (such_named (IsUnlinkedConstant known.table.now own instr) (NamesAbstract known.table.now) pool instr such)

  from : IsUnlinked known.table.now own pool instr → HasWrongTag pool instr ⊎ IsSomeAnd (named_at pool instr) (UnlinkedOrMade own pool known instr)
  from (inl wrong) = inl wrong
  from (inr such) = inr (named_such (IsUnlinkedConstant known.table.now own instr) (NamesAbstract known.table.now) pool instr such)

-- ---- handlers

foreign_caught : (program : Program) (pool : List Constant) (k : Option Constant) → Decides (is_foreign_catch_by (option_map (judged program pool) k)) (IsSomeAnd k (IsForeignConstant program pool))
foreign_caught program pool None = (λ e. absurd cc, λ none. absurd none)
foreign_caught program pool (Some k) = foreign_decides program pool k

pub foreign_catch : (own : Name) (pool : List Constant) (known : Known) (index : ℕ) → IsKnown own pool known → Decides (is_foreign_catch known index) (IsSomeAnd (constant_at pool index) (IsForeignConstant known.table.now pool))
foreign_catch own pool known index is =
    Decides-at (is_foreign_catch known index) _ (ap is_foreign_catch_by (is.constants index)) (foreign_caught known.table.now pool (constant_at pool index))

unlinked_caught : (program : Program) (pool : List Constant) (k : Option Constant)
    → Decides (is_unlinked_catch_by (option_map (judged program pool) k)) ((IsSomeAnd k (λ x. IsTrue (is_class x)) → ⊥) ⊎ IsSomeAnd k (NamesNoClass program pool))
unlinked_caught program pool None = (λ e. inl (λ none. none), λ any. refl)
unlinked_caught program pool (Some k) =
    let n = judged program pool k in
    Decides-or (not (is_class_tag n.tag)) (lacks_class n.class)
    (Decides-at (not (is_class_tag n.tag)) (not (is_class k)) (ap not (class_tag k)) (Decides-not (is_class k) (itself (is_class k))))
    (class_decides program pool k)

pub unlinked_catch : (own : Name) (pool : List Constant) (known : Known) (index : ℕ) → IsKnown own pool known → Decides (is_unlinked_catch known index) (IsUnlinkedCatch known.table.now pool index)
unlinked_catch own pool known index is =
    Decides-and (not (nat_eq index 0)) (is_unlinked_catch_by (kept_at known.kept.now index)) (Decides-not (nat_eq index 0) (Decides-eqb index 0))
    (Decides-at (is_unlinked_catch_by (kept_at known.kept.now index)) _ (ap is_unlinked_catch_by (is.constants index)) (unlinked_caught known.table.now pool (constant_at pool index)))
