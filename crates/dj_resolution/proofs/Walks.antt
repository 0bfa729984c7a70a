-- Walks by names are walks by numbers.
use Rattle.std.proofs.Common.{◌≡◌, ℕ, zero, suc, ◌<◌, Bool, List, [], ◌∷◌, ◌++◌, length, Option, Some, None, slice_get, refl, sym, ◌∙◌, ap, inl, inr, arith, append-nil}
use Rattle.std.specs.Prelude.{option_and_then}
use Rattle.std.specs.List.{flat_map}
use Rattle.std.specs.Cmp.Lexicographic.{bytes_decides}
use Rattle.std.proofs.lemmas.Grind.{flat_map-append}
use Rattle.dj_names.specs.declared.descriptor.Desc.{Desc}
use Rattle.dj_names.specs.trusted.Types.{Name, same_name}
use Rattle.dj_model.specs.trusted.Program.{Program, Class, Method, Field, class_at, method_in, method_of, field_in, field_of, superclass_of, interfaces_of}
use Rattle.dj_model.specs.trusted.Linking.{most_classes, option_list, chain_of, interfaces_from, FoundMethod, FoundField, method_or, first_method, field_or, first_field, field_order, or_else}
use Rattle.dj_model.proofs.MappedNames.{either}
use Rattle.dj_class_table.specs.Tables.{class_number, class_numbers, interface_numbers}
use Rattle.dj_resolution.specs.Numbers.{numbers_from, numbers_above, numbers_up, first_some, method_found, field_found}

-- ---- a class by its name and by its number

pub data Looked (program : Program) (name : Name) : Type 0 where
  Missing : class_number program name ≡ None → class_at program name ≡ None → Looked program name
  There : (k : ℕ) (c : Class) → class_number program name ≡ Some k → slice_get program k ≡ Some c → class_at program name ≡ Some c → c.name ≡ name → k < length program → Looked program name

pub looked : (program : Program) (name : Name) → Looked program name
looked [] name = Missing refl refl
looked (c ∷ program) name = elim (either (same_name c.name name)) [
  | inl e ↦ There 0 c (rw e refl) refl (rw e refl) ((bytes_decides c.name name).0 e) (omega arith)
  | inr e ↦ elim (looked program name) [
    | Missing number class ↦ Missing (rw (e, number) refl) (rw (e, class) refl)
    | There k d number at class named lt ↦ There (suc k) d (rw (e, number) refl) at (rw (e, class) refl) named (omega (arith, lt))
  ]
]

-- ---- walks

no_interfaces : (n : ℕ) (program : Program) → interfaces_from n program [] ≡ []
unfolding interfaces_from
no_interfaces zero program = refl
no_interfaces (suc n) program = refl

no_chain : (n : ℕ) (program : Program) → chain_of n program None ≡ []
unfolding chain_of
no_chain zero program = refl
no_chain (suc n) program = refl

pub no_numbers_up : (n : ℕ) (program : Program) → numbers_up n program None ≡ []
unfolding numbers_up
no_numbers_up zero program = refl
no_numbers_up (suc n) program = refl

pub numbers_append : (program : Program) (names others : List Name) → class_numbers program (names ++ others) ≡ class_numbers program names ++ class_numbers program others
numbers_append program names others = flat_map-append (λ name. option_list (class_number program name)) names others

pub numbers_of_interfaces : (n : ℕ) (program : Program) (names : List Name) → class_numbers program (interfaces_from n program names) ≡ numbers_from n program (class_numbers program names)
unfolding interfaces_from numbers_from
numbers_of_interfaces zero program names = refl
numbers_of_interfaces (suc n) program [] = refl
numbers_of_interfaces (suc n) program (name ∷ names) =
    numbers_append program (name ∷ interfaces_from n program (interfaces_of (class_at program name))) (flat_map (λ x. x ∷ interfaces_from n program (interfaces_of (class_at program x))) names)
    ∙ ap (λ (ks : List ℕ). class_numbers program (name ∷ interfaces_from n program (interfaces_of (class_at program name))) ++ ks) (numbers_of_interfaces (suc n) program names)
    ∙ elim (looked program name) [
      | Missing number class ↦ rw (number, class, no_interfaces n program) refl
      | There k c number at class named lt ↦ rw (number, class, at) (ap (λ (ks : List ℕ). (k ∷ ks) ++ flat_map (λ i. i ∷ numbers_from n program (interface_numbers program i)) (class_numbers program names)) (numbers_of_interfaces n program c.interfaces))
    ]

pub numbers_of_chain : (n : ℕ) (program : Program) (class : Option Name) → class_numbers program (chain_of n program class) ≡ numbers_up n program (option_and_then (class_number program) class)
unfolding chain_of numbers_up
numbers_of_chain zero program class = refl
numbers_of_chain (suc n) program None = refl
numbers_of_chain (suc n) program (Some name) = elim (looked program name) [
  | Missing number class ↦ rw (number, class, no_chain n program) refl
  | There k c number at class named lt ↦ rw (number, class) (ap (λ (ks : List ℕ). k ∷ ks) (numbers_of_chain n program c.superclass ∙ ap (λ (o : Option Class). numbers_up n program (option_and_then (class_number program) (superclass_of o))) (sym at)))
]

-- the interfaces of the classes, each with those above it
pub numbers_of_all : (program : Program) (names : List Name)
    → class_numbers program (flat_map (λ c. interfaces_from most_classes program (interfaces_of (class_at program c))) names) ≡ flat_map (numbers_above program) (class_numbers program names)
unfolding numbers_above
numbers_of_all program [] = refl
numbers_of_all program (name ∷ names) =
    numbers_append program (interfaces_from most_classes program (interfaces_of (class_at program name))) (flat_map (λ c. interfaces_from most_classes program (interfaces_of (class_at program c))) names)
    ∙ ap (λ (ks : List ℕ). class_numbers program (interfaces_from most_classes program (interfaces_of (class_at program name))) ++ ks) (numbers_of_all program names)
    ∙ elim (looked program name) [
      | Missing number class ↦ rw (number, class, no_interfaces most_classes program) refl
      | There k c number at class named lt ↦ rw (number, class, at) (ap (λ (ks : List ℕ). ks ++ flat_map (numbers_above program) (class_numbers program names)) (numbers_of_interfaces most_classes program c.interfaces))
    ]

order_above : (n : ℕ) (program : Program) → ((name : Name) → class_numbers program (field_order n program name) ≡ flat_map (λ k. k ∷ numbers_above program k) (numbers_up n program (class_number program name)))
    → (class : Option Name) → class_numbers program (flat_map (field_order n program) (option_list class)) ≡ flat_map (λ k. k ∷ numbers_above program k) (numbers_up n program (option_and_then (class_number program) class))
order_above n program each None = rw (no_numbers_up n program) refl
order_above n program each (Some name) = numbers_append program (field_order n program name) [] ∙ append-nil (class_numbers program (field_order n program name)) ∙ each name

-- the order in which fields are looked for
pub numbers_of_order : (n : ℕ) (program : Program) (name : Name)
    → class_numbers program (field_order n program name) ≡ flat_map (λ k. k ∷ numbers_above program k) (numbers_up n program (class_number program name))
unfolding field_order numbers_up numbers_above
numbers_of_order zero program name = refl
numbers_of_order (suc n) program name =
    numbers_append program (name ∷ interfaces_from most_classes program (interfaces_of (class_at program name))) (flat_map (field_order n program) (option_list (superclass_of (class_at program name))))
    ∙ elim (looked program name) [
      | Missing number class ↦ rw (number, class, no_interfaces most_classes program) refl
      | There k c number at class named lt ↦ rw (number, class, at)
          (ap (λ (ks : List ℕ). (k ∷ ks) ++ class_numbers program (flat_map (field_order n program) (option_list c.superclass))) (numbers_of_interfaces most_classes program c.interfaces)
          ∙ ap (λ (ks : List ℕ). (k ∷ numbers_from most_classes program (class_numbers program c.interfaces)) ++ ks) (order_above n program (numbers_of_order n program) c.superclass))
    ]

-- ---- what is found

method_or_else : (class : Name) (test : Method → Bool) (m : Option Method) (other : Option FoundMethod) → method_or class test m other ≡ or_else (method_or class test m None) other
method_or_else class test None other = refl
method_or_else class test (Some m) other = elim (either (test m)) [ inl e ↦ rw e refl | inr e ↦ rw e refl ]

field_or_else : (class : Name) (f : Option Field) (other : Option FoundField) → field_or class f other ≡ or_else (field_or class f None) other
field_or_else class None other = refl
field_or_else class (Some f) other = refl

pub first_method_found : (program : Program) (test : Method → Bool) (name : Name) (desc : Desc) (classes : List Name)
    → first_method program test name desc classes ≡ first_some (method_found program test name desc) (class_numbers program classes)
first_method_found program test name desc [] = refl
first_method_found program test name desc (class ∷ classes) =
    ap (method_or class test (method_of (class_at program class) name desc)) (first_method_found program test name desc classes)
    ∙ elim (looked program class) [
      | Missing number none ↦ rw (number, none) refl
      | There k c number at there named lt ↦ rw (number, there, at)
          (ap (λ (x : Name). method_or x test (method_in c.methods name desc) (first_some (method_found program test name desc) (class_numbers program classes))) (sym named)
          ∙ method_or_else c.name test (method_in c.methods name desc) (first_some (method_found program test name desc) (class_numbers program classes)))
    ]

pub first_field_found : (program : Program) (name : Name) (desc : Desc) (classes : List Name)
    → first_field program name desc classes ≡ first_some (field_found program name desc) (class_numbers program classes)
first_field_found program name desc [] = refl
first_field_found program name desc (class ∷ classes) =
    ap (field_or class (field_of (class_at program class) name desc)) (first_field_found program name desc classes)
    ∙ elim (looked program class) [
      | Missing number none ↦ rw (number, none) refl
      | There k c number at there named lt ↦ rw (number, there, at)
          (ap (λ (x : Name). field_or x (field_in c.fields name desc) (first_some (field_found program name desc) (class_numbers program classes))) (sym named)
          ∙ field_or_else c.name (field_in c.fields name desc) (first_some (field_found program name desc) (class_numbers program classes)))
    ]
