-- Methods that are found have numbers.
use Rattle.std.proofs.Common.{◌≡◌, ◌<◌, ℕ, suc, length, arith, ◌&&◌, Bool, true, false, not, List, [], ◌∷◌, ◌++◌, map, Option, Some, None, if◌then◌else◌, refl, sym, ap, subst, ◌∙◌, inl, inr}
use Rattle.std.specs.Prelude.{slice_get, IfSome}
use Rattle.std.specs.Option.{option_map}
use Rattle.std.specs.List.{flat_map}
use Rattle.std.specs.Cmp.Lexicographic.{bytes_decides}
use Rattle.std.proofs.lemmas.Option.{none-some, same_Some}
use Rattle.dj_names.specs.declared.descriptor.Desc.{Desc}
use Rattle.dj_names.specs.declared.descriptor.Ty.{Ty}
use Rattle.dj_names.specs.trusted.Types.{Name, same_name}
use Rattle.dj_model.specs.trusted.Types.{Prefix, Member, constructor_name}
use Rattle.dj_model.specs.trusted.Program.{Program, Class, Method, class_at, method_in, method_of, is_named, is_private}
use Rattle.dj_model.specs.trusted.Linking.{FoundMethod, method_or, first_method, is_plain, is_not_static, with_body, has_body, member_class, chain, superclasses, is_among, select, special_method, resolve_method}
use Rattle.dj_model.proofs.MappedNames.{either}
use Rattle.dj_model.proofs.SoundLinks.{IsThere, resolved_there, there_name}
use Rattle.dj_declarations.proofs.DescTests.{same_name_itself}
use Rattle.dj_numbering.specs.Members.{all_methods, methods_in, method_number, found_method_number}
use Rattle.dj_numbering.specs.declared.types.MethodId.{MethodId}
use Rattle.dj_invocation.specs.Choosing.{IsNumber, IsMethodOrNone}

-- a method of its class by its own name and descriptor
abbrev pub IsOwn : Program → FoundMethod → Type 0
IsOwn program found = IsThere program found.method.name found.method.desc found

-- ---- numbers

pub record HasNumber (all : List FoundMethod) (found : FoundMethod) : Type 0 where
  pub number : ℕ
  pub is : method_number all found ≡ Some number
  pub there : slice_get all number ≡ Some found

abbrev in_class : Name → Method → FoundMethod
in_class class m = record { class = class; method = m }

of_class : (class : Name) (methods : List Method) (found : FoundMethod) (rest : List FoundMethod) → found.class ≡ class
    → method_in methods found.method.name found.method.desc ≡ Some found.method → HasNumber (map (in_class class) methods ++ rest) found
of_class class [] found rest same e = absurd (none-some found.method e)
of_class class (m ∷ methods) found rest same e = elim (either (is_named found.method.name found.method.desc m.name m.desc)) [
  | inl named ↦ let first : m ≡ found.method = same_Some m found.method (rw named at e) in
      record {
        number = 0;
        is = rw (same_name_itself class found.class (sym same), named) refl;
        there = λ i. Some (record { class = sym same i; method = first i });
      }
  | inr other ↦ let r = of_class class methods found rest same (rw other at e) in
      record {
        number = suc r.number;
        is = rw (same_name_itself class found.class (sym same), other) (ap (option_map suc) r.is);
        there = r.there;
      }
]

of_other : (class : Name) (methods : List Method) (found : FoundMethod) (rest : List FoundMethod) → same_name class found.class ≡ false
    → HasNumber rest found → HasNumber (map (in_class class) methods ++ rest) found
of_other class [] found rest other p = p
of_other class (m ∷ methods) found rest other p =
    let r = of_other class methods found rest other p in
    record { number = suc r.number; is = rw other (ap (option_map suc) r.is); there = r.there }

in_all : (program : Program) (found : FoundMethod) (c : Class) → class_at program found.class ≡ Some c
    → method_in c.methods found.method.name found.method.desc ≡ Some found.method → HasNumber (flat_map methods_in program) found
in_all [] found c there m = absurd (none-some c there)
in_all (d ∷ classes) found c there m = elim (either (same_name d.name found.class)) [
  | inl same ↦ let this : d ≡ c = same_Some d c (rw same at there) in
      of_class d.name d.methods found (flat_map methods_in classes) (sym ((bytes_decides d.name found.class).0 same))
      (subst (λ (k : Class). method_in k.methods found.method.name found.method.desc ≡ Some found.method) (sym this) m)
  | inr other ↦ of_other d.name d.methods found (flat_map methods_in classes) other (in_all classes found c (rw other at there) m)
]

pub numbered : (program : Program) (found : FoundMethod) → IsOwn program found → HasNumber (all_methods program) found
unfolding all_methods
numbered program found own = in_all program found own.class own.class_is own.method_is

-- the number of what was found
pub found_numbered : (program : Program) (found : FoundMethod) (n : ℕ) → IsOwn program found → Some n ≡ found_method_number program (Some found)
    → slice_get (all_methods program) n ≡ Some found
found_numbered program found n own e =
    let h = numbered program found own in
    ap (λ (k : ℕ). slice_get (all_methods program) k) (same_Some n h.number (e ∙ h.is)) ∙ h.there

-- ---- what is found is its class's own

own_of : (program : Program) (name : Name) (desc : Desc) (found : FoundMethod) → IsThere program name desc found → IsOwn program found
own_of program name desc found t =
    let named = there_name program name desc found t in
    subst (λ (n : Name). IsThere program n found.method.desc found) (sym named.0) (subst (λ (d : Desc). IsThere program name d found) (sym named.1) t)

first_there : (program : Program) (test : Method → Bool) (name : Name) (desc : Desc) (classes : List Name) (found : FoundMethod)
    → first_method program test name desc classes ≡ Some found → IsThere program name desc found
first_there program test name desc [] found e = absurd (none-some found e)
first_there program test name desc (class ∷ classes) found e = at_class (first_there program test name desc classes found) (class_at program class) refl where
  at_method : (first_method program test name desc classes ≡ Some found → IsThere program name desc found) → (c : Class) → class_at program class ≡ Some c
      → (m : Option Method) → method_in c.methods name desc ≡ m → method_or class test m (first_method program test name desc classes) ≡ Some found → IsThere program name desc found
  at_method more c is None none r = more r
  at_method more c is (Some m) some r = elim (either (test m)) [
    | inl passes ↦ let this : record { class = class; method = m } ≡ found = same_Some (record { class = class; method = m }) found (rw passes at r) in
        subst (IsThere program name desc) this (record { class = c; class_is = is; method_is = some })
    | inr fails ↦ more (rw fails at r)
  ]

  at_class : (first_method program test name desc classes ≡ Some found → IsThere program name desc found) → (c : Option Class) → class_at program class ≡ c → IsThere program name desc found
  at_class more None none = more (subst (λ c. method_or class test (method_of c name desc) (first_method program test name desc classes) ≡ Some found) none e)
  at_class more (Some c) some = at_method more c some (method_in c.methods name desc) refl
      (subst (λ c. method_or class test (method_of c name desc) (first_method program test name desc classes) ≡ Some found) some e)

with_body_is : (found : Option FoundMethod) (f : FoundMethod) → with_body found ≡ Some f → found ≡ Some f
with_body_is None f e = e
with_body_is (Some g) f e = elim (either (has_body g.method.body)) [
  | inl has ↦ rw has at e
  | inr none ↦ absurd (none-some f (rw none at e))
]

-- it is found by the name and the descriptor of the resolved method
pub selected_there : (program : Program) (prefix : Prefix) (resolved : FoundMethod) (class : Ty) (found : FoundMethod) → IsOwn program resolved
    → select program prefix resolved class ≡ Some found → IsThere program resolved.method.name resolved.method.desc found
unfolding select
selected_there program prefix resolved class found own e = go (with_body_is _ found e) where
  go : (if is_private resolved.method.flags then Some resolved else first_method program is_plain resolved.method.name resolved.method.desc (chain program (member_class prefix class))) ≡ Some found
      → IsThere program resolved.method.name resolved.method.desc found
  go f = elim (either (is_private resolved.method.flags)) [
    | inl private ↦ subst (IsThere program resolved.method.name resolved.method.desc) (same_Some resolved found (rw private at f)) own
    | inr public ↦ first_there program is_plain resolved.method.name resolved.method.desc (chain program (member_class prefix class)) found (rw public at f)
  ]

pub special_there : (program : Program) (own_name : Name) (resolved : FoundMethod) (found : FoundMethod) → IsOwn program resolved
    → special_method program own_name resolved ≡ Some found → IsThere program resolved.method.name resolved.method.desc found
unfolding special_method
special_there program own_name resolved found own e =
    elim (either (not (same_name resolved.method.name constructor_name) && is_among (superclasses (chain program own_name)) resolved.class)) [
      | inl upward ↦ first_there program is_not_static resolved.method.name resolved.method.desc (superclasses (chain program own_name)) found (rw upward at e)
      | inr itself ↦ subst (IsThere program resolved.method.name resolved.method.desc) (same_Some resolved found (rw itself at e)) own
    ]

pub own_there : (program : Program) (resolved found : FoundMethod) → IsThere program resolved.method.name resolved.method.desc found → IsOwn program found
own_there program resolved found t = own_of program resolved.method.name resolved.method.desc found t

-- the descriptor is that of the resolved method
pub described_there : (program : Program) (resolved found : FoundMethod) → IsThere program resolved.method.name resolved.method.desc found → found.method.desc ≡ resolved.method.desc
described_there program resolved found t = (there_name program resolved.method.name resolved.method.desc found t).1

pub resolved_own : (program : Program) (prefix : Prefix) (m : Member) (resolved : FoundMethod) → resolve_method program prefix m ≡ Some resolved → IsOwn program resolved
resolved_own program prefix m resolved e = own_of program m.name m.desc resolved (resolved_there program prefix m resolved e)

pub resolved_described : (program : Program) (prefix : Prefix) (m : Member) (resolved : FoundMethod) → resolve_method program prefix m ≡ Some resolved → resolved.method.desc ≡ m.desc
resolved_described program prefix m resolved e = (there_name program m.name m.desc resolved (resolved_there program prefix m resolved e)).1

-- a number is given where a method is found
pub reported_method : (program : Program) (id : Option MethodId) (found : Option FoundMethod) → ((f : FoundMethod) → found ≡ Some f → IsOwn program f)
    → option_map (λ (m : MethodId). m.number) id ≡ found_method_number program found → IsMethodOrNone program id found
reported_method program None None own e = tt
reported_method program None (Some f) own e =
    let h = numbered program f (own f refl) in
    absurd (none-some h.number (e ∙ h.is))
reported_method program (Some id) None own e = absurd (none-some id.number (sym e))
reported_method program (Some id) (Some f) own e = found_numbered program f id.number (own f refl) e

number_within : (all : List FoundMethod) (found : FoundMethod) (n : ℕ) → method_number all found ≡ Some n → n < length all
number_within [] found n e = absurd (none-some n e)
number_within (f ∷ all) found n e = by (same_name f.class found.class && is_named found.method.name found.method.desc f.method.name f.method.desc) (method_number all found) (number_within all found) e where
  by : (b : Bool) (o : Option ℕ) → ((n : ℕ) → o ≡ Some n → n < length all) → (if b then Some 0 else option_map suc o) ≡ Some n → n < suc (length all)
  by true o below e = let first = same_Some 0 n e in omega (arith, first)
  by false None below e = absurd (none-some n e)
  by false (Some k) below e = let first = same_Some (suc k) n e in let less = below k refl in omega (arith, first, less)

-- whatever has a number is there
pub number_there : (program : Program) (id : Option MethodId) (found : Option FoundMethod) → option_map (λ (m : MethodId). m.number) id ≡ found_method_number program found
    → IfSome id (IsNumber program)
number_there program None found e = tt
number_there program (Some id) None e = absurd (none-some id.number (sym e))
number_there program (Some id) (Some f) e = number_within (all_methods program) f id.number (sym e)
