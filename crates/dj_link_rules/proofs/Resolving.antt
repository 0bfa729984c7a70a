-- What resolution by numbers says of resolution by names.
use Rattle.std.proofs.Common.{◌≡◌, ℕ, zero, suc, ◌<◌, Bool, true, false, not, cond, eqb, nat_eq, bit_and, List, [], ◌∷◌, length, Option, Some, None, unwrap_or, refl, sym, ap, subst, ◌∙◌, arith, Bor}
use Rattle.std.specs.Option.{option_map}
use Rattle.std.specs.Prelude.{IfSome}
use Rattle.std.specs.List.{flat_map}
use Rattle.std.proofs.lemmas.Bool.Decides.{nat_tests}
use Rattle.std.proofs.lemmas.Nat.Bits.{and_pow, bit_at-lt}
use Rattle.std.specs.Cmp.Lexicographic.{same_text}
use Rattle.dj_names.specs.declared.descriptor.Ty.{Ty}
use Rattle.dj_names.specs.declared.descriptor.Desc.{Desc}
use Rattle.dj_names.specs.trusted.Types.{Name, same_name, class_type}
use Rattle.dj_pool.specs.trusted.Pool.{Constant, Field, Method, InterfaceMethod, both}
use Rattle.dj_model.specs.trusted.Types.{Member, object_name, constructor_name, initialiser_name}
use Rattle.dj_model.specs.trusted.Program as programs
use Rattle.dj_model.specs.trusted.Program.{Program, Class, class_at, is_static, interfaces_of}
use Rattle.dj_model.specs.trusted.Linking.{FoundMethod, chain_of, chain, interfaces_from, interfaces_above, most_classes, first_method, first_field, any_method, is_plain, method_chain, field_order, member_class, or_else, resolve_method, resolve_field}
use Rattle.dj_declarations.specs.trusted.Files.{desc_in}
use Rattle.dj_class_table.specs.Tables.{class_number, name_at}
use Rattle.dj_resolution.specs.Linked.{Linked, member_of, resolved_method, resolved_field}
use Rattle.dj_early_rules.specs.trusted.Classes.{names_at}
use Rattle.dj_link_rules.specs.trusted.Named.{named_type, named_member, is_static_field, is_static_method, is_static_found, class_of_type, member_of as named_of}
use Rattle.dj_link_rules.specs.Judged.{judged_class, judged_member}
use Rattle.dj_link_rules.specs.Constants.{static_at, static_in}
use Rattle.dj_link_rules.specs.declared.named.NamedClass.{NamedClass}
use Rattle.dj_link_rules.specs.declared.named.NamedMember.{NamedMember}

-- ---- flags

pub static_test : (flags : ℕ) → not (nat_eq (bit_and flags 8) 0) ≡ is_static flags
static_test flags = let e = and_pow flags 3 in let lt = bit_at-lt flags 3 in grind (arith, nat_tests)

-- ---- classes by numbers

-- the class of the number that a name has, and that name
record IsNumbered (program : Program) (name : Name) (number : ℕ) : Type 0 where
  within : number < length program
  named : name_at program number ≡ Some name

same_is : (a b : Name) → same_name a b ≡ true → a ≡ b
same_is a b e = same_text a b (sym e)

number_step : (c : Class) (program : Program) (name : Name) (number : ℕ) (o : Option ℕ) → ((n : ℕ) → o ≡ Some n → IsNumbered program name n) → option_map suc o ≡ Some number → IsNumbered (c ∷ program) name number
number_step c program name number None each e = absurd cc
number_step c program name zero (Some n) each e = absurd cc
number_step c program name (suc number) (Some n) each e =
    let same : n ≡ number = cc in
    let is = each number (ap Some same) in
    record { within = omega (arith, is.within); named = is.named }

number_here : (c : Class) (program : Program) (name : Name) (number : ℕ) (b : Bool) → same_name c.name name ≡ b → ((n : ℕ) → class_number program name ≡ Some n → IsNumbered program name n)
    → cond b (Some 0) (option_map suc (class_number program name)) ≡ Some number → IsNumbered (c ∷ program) name number
number_here c program name number true same each e =
    let first : 0 ≡ number = cc in
    subst (λ (n : ℕ). IsNumbered (c ∷ program) name n) first (record { within = omega arith; named = ap Some (same_is c.name name same) })
number_here c program name number false other each e = number_step c program name number (class_number program name) each e

numbered : (program : Program) (name : Name) (number : ℕ) → class_number program name ≡ Some number → IsNumbered program name number
numbered [] name number e = absurd cc
numbered (c ∷ program) name number e = number_here c program name number (same_name c.name name) refl (λ n f. numbered program name n f) e

unnumbered_step : (o : Option ℕ) → None ≡ option_map suc o → None ≡ o
unnumbered_step None e = refl
unnumbered_step (Some n) e = absurd cc

unnumbered_here : (c : Class) (program : Program) (name : Name) (b : Bool) → (None ≡ class_number program name → class_at program name ≡ None) → None ≡ cond b (Some 0) (option_map suc (class_number program name))
    → cond b (Some c) (class_at program name) ≡ None
unnumbered_here c program name true rest e = absurd cc
unnumbered_here c program name false rest e = rest (unnumbered_step (class_number program name) e)

-- a name without a number has no class
unnumbered : (program : Program) (name : Name) → None ≡ class_number program name → class_at program name ≡ None
unnumbered [] name e = refl
unnumbered (c ∷ program) name e = unnumbered_here c program name (same_name c.name name) (unnumbered program name) e

-- ---- where there is no such class

chain_ends : (n : ℕ) (program : Program) → chain_of n program None ≡ []
unfolding chain_of
chain_ends zero program = refl
chain_ends (suc n) program = refl

-- the class alone, or nothing
lone_chain : {A : Type 0} (n : ℕ) (program : Program) (class : Name) (f : List Name → A) (x : A) → class_at program class ≡ None → f [] ≡ x → f (class ∷ []) ≡ x → f (chain_of n program (Some class)) ≡ x
unfolding chain_of
lone_chain zero program class f x none empty one = empty
lone_chain (suc n) program class f x none empty one = rw (none, chain_ends n program) one

no_interfaces : (n : ℕ) (program : Program) → interfaces_from n program [] ≡ []
unfolding interfaces_from
no_interfaces zero program = refl
no_interfaces (suc n) program = refl

no_method_alone : (program : Program) (test : programs.Method → Bool) (name : Name) (desc : Desc) (class : Name) → class_at program class ≡ None → first_method program test name desc (class ∷ []) ≡ None
no_method_alone program test name desc class none = rw none refl

no_method_in_chain : (program : Program) (test : programs.Method → Bool) (name : Name) (desc : Desc) (class : Name) → class_at program class ≡ None → first_method program test name desc (chain program class) ≡ None
no_method_in_chain program test name desc class none = lone_chain most_classes program class (first_method program test name desc) None none refl (no_method_alone program test name desc class none)

-- no interfaces stand above no class
none_above : (program : Program) (class : Name) → class_at program class ≡ None → interfaces_above program class ≡ []
unfolding interfaces_above
none_above program class none =
    lone_chain most_classes program class (flat_map (λ (c : Name). interfaces_from most_classes program (interfaces_of (class_at program c)))) [] none refl (rw (none, no_interfaces most_classes program) refl)

method_chain_is : (program : Program) (class : Name) → class_at program class ≡ None → method_chain program [] class ≡ chain program class
method_chain_is program class none = rw none refl

-- resolution in the class of a name
abbrev method_in_class : Program → Name → Desc → Name → Option FoundMethod
method_in_class program name desc class =
    or_else (first_method program any_method name desc (method_chain program [] class)) (first_method program is_plain name desc (interfaces_above program class))

no_method_in : (program : Program) (name : Name) (desc : Desc) (class : Name) → class_at program class ≡ None → method_in_class program name desc class ≡ None
no_method_in program name desc class none =
    ap (λ (o : Option FoundMethod). or_else o (first_method program is_plain name desc (interfaces_above program class)))
    (ap (first_method program any_method name desc) (method_chain_is program class none) ∙ no_method_in_chain program any_method name desc class none)
    ∙ ap (λ (names : List Name). or_else None (first_method program is_plain name desc names)) (none_above program class none)

no_method : (program : Program) (m : Member) → class_at program (member_class [] m.class) ≡ None → resolve_method program [] m ≡ None
unfolding resolve_method
no_method program m none = no_method_in program m.name m.desc (member_class [] m.class) none

no_field_from : (n : ℕ) (program : Program) (name : Name) (desc : Desc) (class : Name) → class_at program class ≡ None → first_field program name desc (field_order n program class) ≡ None
unfolding field_order
no_field_from zero program name desc class none = refl
no_field_from (suc n) program name desc class none = rw (none, no_interfaces most_classes program) refl

no_field : (program : Program) (m : Member) → class_at program (member_class [] m.class) ≡ None → resolve_field program [] m ≡ None
unfolding resolve_field
no_field program m none = no_field_from most_classes program m.name m.desc (member_class [] m.class) none

-- ---- by numbers

-- what members are looked for in a class depends on its name alone
method_same : (program : Program) (a b : Ty) (name : Name) (desc : Desc) → member_class [] a ≡ member_class [] b → resolve_method program [] (record { class = a; name = name; desc = desc }) ≡ resolve_method program [] (record { class = b; name = name; desc = desc })
unfolding resolve_method
method_same program a b name desc e = ap (method_in_class program name desc) e

field_same : (program : Program) (a b : Ty) (name : Name) (desc : Desc) → member_class [] a ≡ member_class [] b → resolve_field program [] (record { class = a; name = name; desc = desc }) ≡ resolve_field program [] (record { class = b; name = name; desc = desc })
unfolding resolve_field
field_same program a b name desc e = ap (λ (class : Name). first_field program name desc (field_order most_classes program class)) e

abbrev named_by : Ty → Name → List ℕ → Member
named_by ty name desc = record { class = ty; name = name; desc = desc_in desc }

number_names : (program : Program) (ty : Ty) (number : ℕ) → class_number program (member_class [] ty) ≡ Some number → unwrap_or (name_at program number) [] ≡ member_class [] ty
number_names program ty number e = ap (λ (o : Option Name). unwrap_or o []) (numbered program (member_class [] ty) number e).named

method_by_number : (linked : Linked) (ty : Ty) (number : ℕ) (name : Name) (desc : List ℕ) → linked.prefix ≡ [] → class_number linked.program (member_class [] ty) ≡ Some number
    → resolved_method linked number name desc ≡ resolve_method linked.program [] (named_by ty name desc)
method_by_number linked ty number name desc plain e =
    ap (λ (prefix : List ℕ). resolve_method linked.program prefix (member_of linked.program number name desc)) plain
    ∙ method_same linked.program (class_type (unwrap_or (name_at linked.program number) [])) ty name (desc_in desc) (number_names linked.program ty number e)

field_by_number : (linked : Linked) (ty : Ty) (number : ℕ) (name : Name) (desc : List ℕ) → linked.prefix ≡ [] → class_number linked.program (member_class [] ty) ≡ Some number
    → resolved_field linked number name desc ≡ resolve_field linked.program [] (named_by ty name desc)
field_by_number linked ty number name desc plain e =
    ap (λ (prefix : List ℕ). resolve_field linked.program prefix (member_of linked.program number name desc)) plain
    ∙ field_same linked.program (class_type (unwrap_or (name_at linked.program number) [])) ty name (desc_in desc) (number_names linked.program ty number e)

-- ---- whether it is static

static_somewhere : (linked : Linked) (k : Constant) (ty : Ty) (number : ℕ) (name : Name) (desc : List ℕ) → linked.prefix ≡ [] → class_number linked.program (member_class [] ty) ≡ Some number
    → static_at linked k number name desc ≡ is_static_found linked.program k (named_by ty name desc)
static_somewhere linked (Field class names) ty number name desc plain e = ap (option_map is_static_field) (field_by_number linked ty number name desc plain e)
static_somewhere linked (Method class names) ty number name desc plain e = ap (option_map is_static_method) (method_by_number linked ty number name desc plain e)
static_somewhere linked (InterfaceMethod class names) ty number name desc plain e = ap (option_map is_static_method) (method_by_number linked ty number name desc plain e)
static_somewhere linked k ty number name desc plain e = refl

static_nowhere : (program : Program) (k : Constant) (m : Member) → class_at program (member_class [] m.class) ≡ None → None ≡ is_static_found program k m
static_nowhere program (Field class names) m none = sym (ap (option_map is_static_field) (no_field program m none))
static_nowhere program (Method class names) m none = sym (ap (option_map is_static_method) (no_method program m none))
static_nowhere program (InterfaceMethod class names) m none = sym (ap (option_map is_static_method) (no_method program m none))
static_nowhere program k m none = refl

static_is : (linked : Linked) (k : Constant) (ty : Ty) (class : Option ℕ) (name : Name) (desc : List ℕ) → linked.prefix ≡ [] → class ≡ class_number linked.program (member_class [] ty)
    → static_in linked k class name desc ≡ is_static_found linked.program k (named_by ty name desc)
static_is linked k ty None name desc plain e = static_nowhere linked.program k (named_by ty name desc) (unnumbered linked.program (member_class [] ty) e)
static_is linked k ty (Some number) name desc plain e = static_somewhere linked k ty number name desc plain (sym e)

number_of_either : (b : Bool) (f : Name → Option ℕ) (x y : Name) → cond b (f x) (f y) ≡ f (cond b x y)
number_of_either true f x y = refl
number_of_either false f x y = refl

-- the number of the class in which members of a class are looked for
member_number : (program : Program) (ty : Ty) (class : NamedClass) (object : Option ℕ) → class ≡ judged_class program ty → object ≡ class_number program (object_name [])
    → cond (eqb class.dims 0) class.number object ≡ class_number program (member_class [] ty)
member_number program ty class object is other =
    ap (λ (x : NamedClass). cond (eqb x.dims 0) x.number object) is
    ∙ ap (λ (o : Option ℕ). cond (eqb ty.dims 0) (class_number program (class_of_type ty)) o) other
    ∙ number_of_either (eqb ty.dims 0) (class_number program) (class_of_type ty) (object_name [])

-- a number is within the program
abbrev pub IsWithin : Program → Option ℕ → Type 0
IsWithin program class = IfSome class (λ number. number < length program)

number_within : (program : Program) (name : Name) (o : Option ℕ) → o ≡ class_number program name → IsWithin program o
number_within program name None e = tt
number_within program name (Some number) e = (numbered program name number (sym e)).within

pub member_within : (program : Program) (ty : Ty) (class : NamedClass) (object : Option ℕ) → class ≡ judged_class program ty → object ≡ class_number program (object_name []) → IsWithin program (cond (eqb class.dims 0) class.number object)
member_within program ty class object is other = number_within program (member_class [] ty) _ (member_number program ty class object is other)

pub member_static : (linked : Linked) (k : Constant) (ty : Ty) (class : NamedClass) (object : Option ℕ) (name : Name) (desc : List ℕ) → linked.prefix ≡ [] → class ≡ judged_class linked.program ty → object ≡ class_number linked.program (object_name [])
    → static_in linked k (cond (eqb class.dims 0) class.number object) name desc ≡ is_static_found linked.program k (named_by ty name desc)
member_static linked k ty class object name desc plain is other = static_is linked k ty _ name desc plain (member_number linked.program ty class object is other)

-- ---- the class and the member of a constant

-- what is kept is that of the type which the constant names
pub record IsNamed (program : Program) (pool : List Constant) (k : Constant) (class : NamedClass) : Type 0 where
  pub ty : Ty
  pub named : named_type pool k ≡ Some ty
  pub is : class ≡ judged_class program ty

named_in : (program : Program) (pool : List Constant) (k : Constant) (class : NamedClass) (o : Option Ty) → named_type pool k ≡ o → Some class ≡ option_map (judged_class program) o → IsNamed program pool k class
named_in program pool k class None at e = absurd cc
named_in program pool k class (Some ty) at e = record { ty = ty; named = at; is = cc }

pub named : (program : Program) (pool : List Constant) (k : Constant) (found : Option NamedClass) (class : NamedClass) → found ≡ option_map (judged_class program) (named_type pool k) → found ≡ Some class → IsNamed program pool k class
named program pool k found class e is = named_in program pool k class (named_type pool k) refl (sym is ∙ e)

kept_member : Option Bool → Bool → Bool → Option NamedMember
kept_member static constructor initialiser = Some (record { is_static = static; is_constructor = constructor; is_initialiser = initialiser })

pub member_kept : (program : Program) (pool : List Constant) (k : Constant) (class : NamedClass) (n : IsNamed program pool k class) (name : Name) (desc : List ℕ) (static : Option Bool) (constructor initialiser : Bool)
    → Some (name, desc) ≡ names_at pool k → static ≡ is_static_found program k (named_by n.ty name desc) → constructor ≡ same_name name constructor_name → initialiser ≡ same_name name initialiser_name
    → Some (record { is_static = static; is_constructor = constructor; is_initialiser = initialiser }) ≡ option_map (judged_member program k) (named_member pool k)
unfolding kept_member
member_kept program pool k class n name desc static constructor initialiser names s c i =
    let one : named_member pool k ≡ Some (named_by n.ty name desc) =
    ap (λ (o : Option Ty). option_map named_of (both o (names_at pool k))) n.named ∙ ap (λ (o : Option (List ℕ × List ℕ)). option_map named_of (both (Some n.ty) o)) (sym names) in
    ap (λ (x : Option Bool). kept_member x constructor initialiser) s
    ∙ ap (λ (x : Bool). kept_member (is_static_found program k (named_by n.ty name desc)) x initialiser) c
    ∙ ap (λ (x : Bool). kept_member (is_static_found program k (named_by n.ty name desc)) (same_name name constructor_name) x) i
    ∙ sym (ap (option_map (judged_member program k)) one)

-- texts as they are lent
pub lent_names : (found : Option (Bor (List ℕ) × Bor (List ℕ))) (name desc : Bor (List ℕ)) (o : Option (List ℕ × List ℕ)) → found ≡ Some (name, desc) → option_map (λ x. (x.0.now, x.1.now)) found ≡ o → Some (name.now, desc.now) ≡ o
lent_names found name desc o is e = sym (ap (option_map (λ (x : Bor (List ℕ) × Bor (List ℕ)). (x.0.now, x.1.now))) is) ∙ e
