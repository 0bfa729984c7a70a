-- The method that a call of a receiver takes, by names and by numbers.
use Rattle.std.proofs.Common.{◌≡◌, ℕ, zero, suc, ◌<◌, ◌-◌, Bool, true, false, not, nat_eq, bit_and, List, [], ◌∷◌, length, Option, Some, None, IfSome, slice_get, refl, sym, ◌∙◌, ap, subst, arith, if◌then◌else◌}
use Rattle.std.specs.Prelude.{option_and_then}
use Rattle.std.specs.Option.{option_map}
use Rattle.std.proofs.lemmas.Bool.{false≢true, eq-eqb, eqb-true}
use Rattle.std.proofs.lemmas.Bool.Decides.{nat_tests}
use Rattle.std.proofs.lemmas.Nat.Bits.{and_pow, bit_at-lt}
use Rattle.std.proofs.lemmas.Option.{same_Some, none-some}
use Rattle.dj_names.specs.declared.descriptor.Desc.{Desc}
use Rattle.dj_names.specs.declared.descriptor.Ty.{Ty}
use Rattle.dj_names.specs.trusted.Descriptors.{Describes}
use Rattle.dj_names.specs.trusted.Types.{Name}
use Rattle.dj_model.specs.trusted.Types.{Prefix}
use Rattle.dj_model.specs.trusted.Program.{Program, Class, Method, is_private}
use Rattle.dj_model.specs.trusted.Linking.{most_classes, chain, member_class, is_plain, has_body, with_body, select, FoundMethod}
use Rattle.dj_declarations.specs.trusted.Files.{desc_in}
use Rattle.dj_declarations.specs.Members.{IsDescriptor, method_flags, method_name, method_has_body}
use Rattle.dj_declarations.proofs.DescTests.{desc_in_is, is_descriptor}
use Rattle.dj_class_table.specs.Tables.{class_number, methods_of, methods_at, method_of_class, method_there}
use Rattle.dj_class_table.specs.declared.place.Place.{Place}
use Rattle.dj_resolution.specs.Numbers.{first_some, method_found, numbers_up, SaysMethod}
use Rattle.dj_resolution.proofs.Climbs.{IsClimbed}
use Rattle.dj_resolution.proofs.Finding.{private_set}
use Rattle.dj_resolution.proofs.Walks.{numbers_of_chain, first_method_found}

pub climb_from : {A : Type 0} (f : ℕ → Option A) (program : Program) (levels : ℕ) (first : Option ℕ) → IfSome first (λ k. k < length program) → IsClimbed f program levels first 0 first
climb_from f program levels first within =
    let none : levels - 0 ≡ levels = omega arith in
    record { same = ap (λ (n : ℕ). first_some f (numbers_up n program first)) (sym none); within = within }

-- ---- the method at a place

-- the method at a place is one of its class
pub data Found (program : Program) (place : Place) (found : FoundMethod) : Type 0 where
  Is : place.class < length program → place.member < length (methods_at program place.class) → slice_get (methods_at program place.class) place.member ≡ Some found.method → Found program place found

within_list : {A : Type 0} (xs : List A) (place : ℕ) (x : A) → slice_get xs place ≡ Some x → place < length xs
within_list [] place x at = absurd (none-some x at)
within_list (y ∷ xs) zero x at = omega arith
within_list (y ∷ xs) (suc place) x at = let lt = within_list xs place x at in omega (arith, lt)

found_in : (program : Program) (place : Place) (found : FoundMethod) (o : Option Class) → slice_get program place.class ≡ o → option_and_then (method_of_class place.member) o ≡ Some found → Found program place found
found_in program place found None at there = absurd (none-some found there)
found_in program place found (Some c) at there = by (slice_get c.methods place.member) refl there where
  by : (m : Option Method) → slice_get c.methods place.member ≡ m → option_map (λ (x : Method). record { class = c.name; method = x }) m ≡ Some found → Found program place found
  by None is reported = absurd (none-some found reported)
  by (Some m) is reported =
      let method : m ≡ found.method = ap (λ (f : FoundMethod). f.method) (same_Some (record { class = c.name; method = m }) found reported) in
      let methods : methods_at program place.class ≡ c.methods = ap methods_of at in
      Is (within_list program place.class c at)
      (subst (λ (ms : List Method). place.member < length ms) (sym methods) (within_list c.methods place.member m is))
      (ap (λ (ms : List Method). slice_get ms place.member) methods ∙ is ∙ ap Some method)

pub found_there : (program : Program) (place : Place) (found : FoundMethod) → method_there program place ≡ Some found → Found program place found
found_there program place found there = found_in program place found (slice_get program place.class) refl there

some_of : {A : Type 0} (xs : List A) (place : ℕ) → place < length xs → (x : A) × (slice_get xs place ≡ Some x)
some_of [] place lt = absurd (omega (arith, lt))
some_of (x ∷ xs) zero lt = (x, refl)
some_of (x ∷ xs) (suc place) lt = some_of xs place (omega (arith, lt))

-- where a place is within its class, a method is there
pub there_within : (program : Program) (place : Place) → place.class < length program → place.member < length (methods_at program place.class) → (found : FoundMethod) × (method_there program place ≡ Some found)
there_within program place lt within =
    let class : (c : Class) × (slice_get program place.class ≡ Some c) = some_of program place.class lt in
    let method : (m : Method) × (slice_get class.0.methods place.member ≡ Some m) =
    some_of class.0.methods place.member (subst (λ (o : Option Class). place.member < length (methods_of o)) class.1 within) in
    (record { class = class.0.name; method = method.0 }, rw (class.1, method.1) refl)

-- ---- its flags, its name and its descriptor

reported_of : {B : Type 0} (g : Method → B) (methods : List Method) (place : ℕ) (m : Method) (x : B) → slice_get methods place ≡ Some m → Some x ≡ option_map g (slice_get methods place) → x ≡ g m
reported_of g methods place m x at reported = same_Some x (g m) (reported ∙ ap (option_map g) at)

private_clear : (flags : ℕ) → bit_and flags 2 ≡ 0 → is_private flags ≡ false
private_clear flags none = let bit = and_pow flags 1 in let lt = bit_at-lt flags 1 in grind (arith, nat_tests)

module _ (program : Program) (place : Place) (found : FoundMethod) (there : method_there program place ≡ Some found) where
  abbrev methods : List Method
  methods = methods_at program place.class

  pub own : {B : Type 0} (g : Method → B) (x : B) → Some x ≡ option_map g (slice_get methods place.member) → x ≡ g found.method
  own g x reported = elim (found_there program place found there) [
    | Is lt within at ↦ reported_of g methods place.member found.method x at reported
  ]

  pub is_private_there : (flags : ℕ) → Some flags ≡ option_map method_flags (slice_get methods place.member) → (bit_and flags 2 ≡ 0 → ⊥) → is_private found.method.flags ≡ true
  is_private_there flags reported some = ap is_private (sym (own method_flags flags reported)) ∙ private_set flags some

  pub not_private_there : (flags : ℕ) → Some flags ≡ option_map method_flags (slice_get methods place.member) → bit_and flags 2 ≡ 0 → is_private found.method.flags ≡ false
  not_private_there flags reported none = ap is_private (sym (own method_flags flags reported)) ∙ private_clear flags none

  pub described_there : (desc : Name) → IfSome (slice_get methods place.member) (λ m. Describes desc m.desc) → Describes desc found.method.desc
  described_there desc reported = elim (found_there program place found there) [
    | Is lt within at ↦ subst (λ (o : Option Method). IfSome o (λ m. Describes desc m.desc)) at reported
  ]

  -- the first of its name and its descriptor, looked for by its texts
  pub named_there : (name desc : Name) (classes : List ℕ) (t : Option (Option FoundMethod)) → Some name ≡ option_map method_name (slice_get methods place.member)
      → IfSome (slice_get methods place.member) (λ m. Describes desc m.desc) → t ≡ option_map Some (first_some (method_found program is_plain name (desc_in desc)) classes)
      → t ≡ option_map Some (first_some (method_found program is_plain found.method.name found.method.desc) classes)
  named_there name desc classes t named described reported =
      reported
      ∙ ap (λ (n : Name). option_map Some (first_some (method_found program is_plain n (desc_in desc)) classes)) (own method_name name named)
      ∙ ap (λ (d : Desc). option_map Some (first_some (method_found program is_plain found.method.name d) classes)) (desc_in_is desc found.method.desc (described_there desc described))

-- the text of a descriptor is one, whatever method is there
pub descriptor_there : (methods : List Method) (member : ℕ) (desc : Name) → member < length methods → IfSome (slice_get methods member) (λ m. Describes desc m.desc) → IsDescriptor desc
descriptor_there methods member desc lt reported =
    let method : (m : Method) × (slice_get methods member ≡ Some m) = some_of methods member lt in
    is_descriptor desc method.0.desc (subst (λ (o : Option Method). IfSome o (λ m. Describes desc m.desc)) method.1 reported)

-- ---- what is taken

abbrev pub taken_numbers : Program → FoundMethod → Option ℕ → Option FoundMethod
taken_numbers program found class =
    if is_private found.method.flags then Some found else first_some (method_found program is_plain found.method.name found.method.desc) (numbers_up most_classes program class)

pub taken_private : (program : Program) (found : FoundMethod) (class : Option ℕ) (t : Option FoundMethod) → is_private found.method.flags ≡ true → t ≡ Some found → Some t ≡ option_map Some (taken_numbers program found class)
taken_private program found class t private there = rw private (ap Some there)

pub taken_above : (program : Program) (found : FoundMethod) (class : Option ℕ) (t : Option (Option FoundMethod)) → is_private found.method.flags ≡ false
    → t ≡ option_map Some (first_some (method_found program is_plain found.method.name found.method.desc) (numbers_up most_classes program class)) → t ≡ option_map Some (taken_numbers program found class)
taken_above program found class t other reported = rw other reported

-- a place that was found is that of a method
pub reported_there : (program : Program) (place : Place) (o : Option FoundMethod) → SaysMethod program (Some place) o → (found : FoundMethod) × (o ≡ Some found) × (method_there program place ≡ Some found)
reported_there program place None reported = absurd (none-some (method_there program place) (sym reported))
reported_there program place (Some found) reported = (found, refl, same_Some (method_there program place) (Some found) reported)

pub no_body : (program : Program) (o : Option FoundMethod) → None ≡ option_map Some o → SaysMethod program None (with_body o)
no_body program None reported = refl
no_body program (Some found) reported = absurd (none-some (Some found) reported)

with_body_by : (program : Program) (place : Place) (found : FoundMethod) (b : Bool) → method_there program place ≡ Some found → has_body found.method.body ≡ b
    → SaysMethod program (if b then Some place else None) (with_body (Some found))
with_body_by program place found true there is = rw is (ap Some there)
with_body_by program place found false there is = rw is refl

-- the place is given where its method has a body
pub reported_with_body : (program : Program) (place : Place) (o : Option FoundMethod) (b : Bool) → SaysMethod program (Some place) o → Some b ≡ option_map method_has_body (slice_get (methods_at program place.class) place.member)
    → SaysMethod program (if b then Some place else None) (with_body o)
reported_with_body program place o b reported body =
    let there : (found : FoundMethod) × (o ≡ Some found) × (method_there program place ≡ Some found) = reported_there program place o reported in
    subst (λ (x : Option FoundMethod). SaysMethod program (if b then Some place else None) (with_body x)) (sym there.1)
    (with_body_by program place there.0 b there.2 (sym (own program place there.0 there.2 method_has_body b body)))

-- ---- selection by numbers

pub select_numbers : (program : Program) (prefix : Prefix) (found : FoundMethod) (ty : Ty) (class : Option ℕ) → class ≡ class_number program (member_class prefix ty) → select program prefix found ty ≡ with_body (taken_numbers program found class)
unfolding select
select_numbers program prefix found ty class is =
    ap (λ (o : Option FoundMethod). with_body (if is_private found.method.flags then Some found else o))
    (first_method_found program is_plain found.method.name found.method.desc (chain program (member_class prefix ty))
    ∙ ap (first_some (method_found program is_plain found.method.name found.method.desc))
    (numbers_of_chain most_classes program (Some (member_class prefix ty)) ∙ ap (numbers_up most_classes program) (sym is)))
