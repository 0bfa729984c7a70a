-- Programs whose classes have other methods, and stand as they did: fields are found as before, and methods where each class has such of the same flags.
use Rattle.std.proofs.Common.{◌≡◌, ℕ, zero, suc, Bool, true, false, not, ◌&&◌, List, [], ◌∷◌, map, Option, Some, None, Contains, refl, ap, ◌∙◌, inl, inr}
use Rattle.std.specs.Prelude.{if◌then◌else◌}
use Rattle.std.specs.Option.{option_map}
use Rattle.std.specs.List.{flat_map}
use Rattle.dj_names.specs.declared.descriptor.Desc.{Desc}
use Rattle.dj_names.specs.trusted.Types.{Name, same_name}
use Rattle.dj_model.specs.trusted.Types.{Member}
use Rattle.dj_model.specs.trusted.Program.{Program, Class, Method, class_at, superclass_of, interfaces_of, flags_of, method_of, field_of, is_private, is_static}
use Rattle.dj_model.specs.trusted.Linking.{most_classes, option_list, chain_of, chain, interfaces_from, interfaces_above, FoundMethod, method_or, first_method, first_field, field_order, is_plain, member_class, method_chain, or_else, resolve_field}
use Rattle.dj_model.proofs.MappedNames.{either}
use Rattle.dj_loader.proofs.Lists.{member_first, member_later}

flat_same : {A : Type 0} (h k : A → List Name) → ((x : A) → k x ≡ h x) → (xs : List A) → flat_map k xs ≡ flat_map h xs
flat_same h k e [] = refl
flat_same h k e (x ∷ xs) = rw (e x, flat_same h k e xs) refl

-- ---- what is found, by its flags

abbrev pub method_flags : Option Method → Option ℕ
method_flags m = option_map (λ (x : Method). x.flags) m

abbrev pub found_flags : Option FoundMethod → Option ℕ
found_flags found = option_map (λ (x : FoundMethod). x.method.flags) found

pub or_else_alike : (a b x y : Option FoundMethod) → found_flags a ≡ found_flags x → found_flags b ≡ found_flags y → found_flags (or_else a b) ≡ found_flags (or_else x y)
or_else_alike None b None y e f = f
or_else_alike None b (Some x) y e f = absurd cc
or_else_alike (Some a) b None y e f = absurd cc
or_else_alike (Some a) b (Some x) y e f = e

-- a class passes a search on with the same flags
abbrev pub PassesOn : Name → (Method → Bool) → Option Method → Option Method → Type 0
PassesOn class test x y = (a b : Option FoundMethod) → found_flags a ≡ found_flags b → found_flags (method_or class test x a) ≡ found_flags (method_or class test y b)

chosen : (p q : Bool) (x y : FoundMethod) (a b : Option FoundMethod) → p ≡ q → x.method.flags ≡ y.method.flags → found_flags a ≡ found_flags b
    → found_flags (if p then Some x else a) ≡ found_flags (if q then Some y else b)
chosen true true x y a b same e f = ap Some e
chosen true false x y a b same e f = absurd cc
chosen false true x y a b same e f = absurd cc
chosen false false x y a b same e f = f

pub passes_alike : (class : Name) (test : Method → Bool) → ((m n : Method) → m.flags ≡ n.flags → test m ≡ test n) → (x y : Option Method) → method_flags x ≡ method_flags y → PassesOn class test x y
passes_alike class test by_flags None None e a b f = f
passes_alike class test by_flags None (Some n) e a b f = absurd cc
passes_alike class test by_flags (Some m) None e a b f = absurd cc
passes_alike class test by_flags (Some m) (Some n) e a b f =
    let same : m.flags ≡ n.flags = cc in
    chosen (test m) (test n) (record { class = class; method = m }) (record { class = class; method = n }) a b (by_flags m n same) same f

pub plain_by_flags : (m n : Method) → m.flags ≡ n.flags → is_plain m ≡ is_plain n
plain_by_flags m n e = ap (λ (flags : ℕ). not (is_private flags) && not (is_static flags)) e

-- a static method that is only in the other isn't seen among interfaces
pub passes_static : (class : Name) (n : Method) → is_static n.flags ≡ true → PassesOn class is_plain None (Some n)
passes_static class n static a b f = by (is_private n.flags) where
  by : (private : Bool) → found_flags a ≡ found_flags (if not private && not (is_static n.flags) then Some (record { class = class; method = n }) else b)
  by true = f
  by false = rw static f

-- ---- classes with other methods

module _ (g : Class → List Method) where
  abbrev pub widened : Class → Class
  widened c = record c { methods = g c }

  module _ (program : Program) where
    abbrev wide : Program
    wide = map widened program

    pub class_wide : (classes : Program) (name : Name) → class_at (map widened classes) name ≡ option_map widened (class_at classes name)
    class_wide [] name = refl
    class_wide (c ∷ classes) name = elim (either (same_name c.name name)) [
      | inl e ↦ rw e refl
      | inr e ↦ rw e (class_wide classes name)
    ]

    super_of : (c : Option Class) → superclass_of (option_map widened c) ≡ superclass_of c
    super_of None = refl
    super_of (Some c) = refl

    interfaces_in : (c : Option Class) → interfaces_of (option_map widened c) ≡ interfaces_of c
    interfaces_in None = refl
    interfaces_in (Some c) = refl

    flags_in : (c : Option Class) → flags_of (option_map widened c) ≡ flags_of c
    flags_in None = refl
    flags_in (Some c) = refl

    super_same : (name : Name) → superclass_of (class_at wide name) ≡ superclass_of (class_at program name)
    super_same name = ap superclass_of (class_wide program name) ∙ super_of (class_at program name)

    interfaces_same : (name : Name) → interfaces_of (class_at wide name) ≡ interfaces_of (class_at program name)
    interfaces_same name = ap interfaces_of (class_wide program name) ∙ interfaces_in (class_at program name)

    flags_same : (name : Name) → flags_of (class_at wide name) ≡ flags_of (class_at program name)
    flags_same name = ap flags_of (class_wide program name) ∙ flags_in (class_at program name)

    chain_of_wide : (n : ℕ) (class : Option Name) → chain_of n wide class ≡ chain_of n program class
    unfolding chain_of
    chain_of_wide zero class = refl
    chain_of_wide (suc n) None = refl
    chain_of_wide (suc n) (Some class) =
        ap (λ (rest : List Name). class ∷ rest) (ap (chain_of n wide) (super_same class) ∙ chain_of_wide n (superclass_of (class_at program class)))

    chain_wide : (class : Name) → chain wide class ≡ chain program class
    chain_wide class = chain_of_wide most_classes (Some class)

    interfaces_from_wide : (n : ℕ) (names : List Name) → interfaces_from n wide names ≡ interfaces_from n program names
    unfolding interfaces_from
    interfaces_from_wide zero names = refl
    interfaces_from_wide (suc n) names = flat_same
        (λ x. x ∷ interfaces_from n program (interfaces_of (class_at program x)))
        (λ x. x ∷ interfaces_from n wide (interfaces_of (class_at wide x)))
        (λ x. ap (λ (rest : List Name). x ∷ rest) (ap (interfaces_from n wide) (interfaces_same x) ∙ interfaces_from_wide n (interfaces_of (class_at program x)))) names

    above_class_wide : (name : Name) → interfaces_from most_classes wide (interfaces_of (class_at wide name)) ≡ interfaces_from most_classes program (interfaces_of (class_at program name))
    above_class_wide name = ap (interfaces_from most_classes wide) (interfaces_same name) ∙ interfaces_from_wide most_classes (interfaces_of (class_at program name))

    pub interfaces_above_wide : (class : Name) → interfaces_above wide class ≡ interfaces_above program class
    unfolding interfaces_above
    interfaces_above_wide class =
        ap (flat_map (λ c. interfaces_from most_classes wide (interfaces_of (class_at wide c)))) (chain_wide class)
        ∙ flat_same (λ c. interfaces_from most_classes program (interfaces_of (class_at program c)))
        (λ c. interfaces_from most_classes wide (interfaces_of (class_at wide c)))
        above_class_wide (chain program class)

    pub method_chain_wide : (class : Name) → method_chain wide [] class ≡ method_chain program [] class
    method_chain_wide class = rw (flags_same class, chain_wide class) refl

    -- ---- fields

    field_of_wide : (c : Option Class) (name : Name) (desc : Desc) → field_of (option_map widened c) name desc ≡ field_of c name desc
    field_of_wide None name desc = refl
    field_of_wide (Some c) name desc = refl

    first_field_wide : (name : Name) (desc : Desc) (classes : List Name) → first_field wide name desc classes ≡ first_field program name desc classes
    first_field_wide name desc [] = refl
    first_field_wide name desc (class ∷ classes) = rw (class_wide program class, field_of_wide (class_at program class) name desc, first_field_wide name desc classes) refl

    field_order_wide : (n : ℕ) (class : Name) → field_order n wide class ≡ field_order n program class
    unfolding field_order
    field_order_wide zero class = refl
    field_order_wide (suc n) class =
        rw (
          above_class_wide class,
          super_same class,
          flat_same (field_order n program) (field_order n wide) (field_order_wide n) (option_list (superclass_of (class_at program class))),
        ) refl

    pub resolve_field_wide : (m : Member) → resolve_field wide [] m ≡ resolve_field program [] m
    unfolding resolve_field
    resolve_field_wide m =
        rw (field_order_wide most_classes (member_class [] m.class)) (first_field_wide m.name m.desc (field_order most_classes program (member_class [] m.class)))

    -- ---- methods

    pub first_alike : (test : Method → Bool) (name : Name) (desc : Desc) (classes : List Name)
        → ((class : Name) → Contains classes class → PassesOn class test (method_of (class_at program class) name desc) (method_of (class_at wide class) name desc))
        → found_flags (first_method program test name desc classes) ≡ found_flags (first_method wide test name desc classes)
    first_alike test name desc [] each = refl
    first_alike test name desc (class ∷ classes) each =
        each class (member_first class classes) (first_method program test name desc classes) (first_method wide test name desc classes)
        (first_alike test name desc classes (λ k m. each k (member_later class classes k m)))
