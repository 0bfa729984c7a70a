-- Methods that are found are methods of the program, of the name and the descriptor that was asked.
use Rattle.std.proofs.Common.{◌≡◌, zero, suc, ◌&&◌, Bool, true, false, not, List, [], ◌∷◌, Option, Some, None, nat_eq, refl, sym, ap, subst, ◌∙◌, if◌then◌else◌, inl, inr, arith, Contains}
use Rattle.std.proofs.lemmas.Bool.Decides.{nat_tests}
use Rattle.std.specs.Cmp.Lexicographic.{pointwise, bytes_decides}
use Rattle.dj_names.specs.declared.descriptor.Base.{Base}
use Rattle.dj_names.specs.declared.descriptor.Base.TheVariants as bases
use Rattle.dj_names.specs.declared.descriptor.Of.{Of}
use Rattle.dj_names.specs.declared.descriptor.Of.TheVariants as ofs
use Rattle.dj_names.specs.declared.descriptor.Ty.{Ty}
use Rattle.dj_names.specs.declared.descriptor.Desc.{Desc}
use Rattle.dj_names.specs.declared.descriptor.Desc.TheVariants as descs
use Rattle.dj_names.specs.trusted.Types.{Name, same_name, same_base, same_of, same_type, same_result, same_desc}
use Rattle.dj_model.specs.trusted.Types.{Prefix, Member, constructor_name}
use Rattle.dj_model.specs.trusted.Program.{Program, Class, Method, class_at, method_in, method_of, method_at, is_named, is_static, is_private}
use Rattle.dj_model.specs.trusted.Linking.{FoundMethod, method_or, first_method, or_else, any_method, is_plain, is_not_static, member_class, method_chain, interfaces_above, resolve_method, with_body, has_body, chain, superclasses, is_among, select, special_method, declared_of}
use Rattle.dj_model.proofs.MappedNames.{either}

-- ---- tests of equality

pub both_parts : (a b : Bool) → (a && b) ≡ true → (a ≡ true) × (b ≡ true)
both_parts true b e = (refl, e)
both_parts false b e = absurd cc

same_name_is : (a b : Name) → same_name a b ≡ true → a ≡ b
same_name_is a b e = (bytes_decides a b).0 e

same_base_is : (a b : Base) → same_base a b ≡ true → a ≡ b
same_base_is bases.Boolean bases.Boolean e = refl
same_base_is bases.Byte bases.Byte e = refl
same_base_is bases.Char bases.Char e = refl
same_base_is bases.Short bases.Short e = refl
same_base_is bases.Int bases.Int e = refl
same_base_is bases.Long bases.Long e = refl
same_base_is bases.Float bases.Float e = refl
same_base_is bases.Double bases.Double e = refl
same_base_is _ _ e = absurd cc

same_of_is : (a b : Of) → same_of a b ≡ true → a ≡ b
same_of_is (ofs.Base a) (ofs.Base b) e = ap ofs.Base (same_base_is a b e)
same_of_is (ofs.Base a) (ofs.Class b) e = absurd cc
same_of_is (ofs.Class a) (ofs.Base b) e = absurd cc
same_of_is (ofs.Class a) (ofs.Class b) e = ap ofs.Class (same_name_is a b e)

same_type_is : (a b : Ty) → same_type a b ≡ true → a ≡ b
same_type_is a b e =
    let parts = both_parts (nat_eq a.dims b.dims) (same_of a.of b.of) e in
    let dims : a.dims ≡ b.dims = grind (arith, nat_tests, parts.0) in
    λ i. record { dims = dims i; of = same_of_is a.of b.of parts.1 i }

same_types_are : (a b : List Ty) → pointwise same_type a b ≡ true → a ≡ b
same_types_are [] [] e = refl
same_types_are [] (b ∷ bs) e = absurd cc
same_types_are (a ∷ types) [] e = absurd cc
same_types_are (a ∷ types) (b ∷ others) e =
    let parts = both_parts (same_type a b) (pointwise same_type types others) e in
    λ i. same_type_is a b parts.0 i ∷ same_types_are types others parts.1 i

same_result_is : (a b : Option Ty) → same_result a b ≡ true → a ≡ b
same_result_is None None e = refl
same_result_is None (Some b) e = absurd cc
same_result_is (Some a) None e = absurd cc
same_result_is (Some a) (Some b) e = ap Some (same_type_is a b e)

same_desc_is : (a b : Desc) → same_desc a b ≡ true → a ≡ b
same_desc_is (descs.Field a) (descs.Field b) e = ap descs.Field (same_type_is a b e)
same_desc_is (descs.Field a) (descs.Method qs s) e = absurd cc
same_desc_is (descs.Method ps r) (descs.Field b) e = absurd cc
same_desc_is (descs.Method ps r) (descs.Method qs s) e =
    let parts = both_parts (pointwise same_type ps qs) (same_result r s) e in
    λ i. descs.Method (same_types_are ps qs parts.0 i) (same_result_is r s parts.1 i)

-- ---- members of lists

pub here : {A : Type 0} (x : A) (xs : List A) → Contains (x ∷ xs) x
here x xs = (zero, omega arith, refl)

pub later : {A : Type 0} (x y : A) (xs : List A) → Contains xs x → Contains (y ∷ xs) x
later x y xs c = (suc c.0, omega (arith, c.1), c.2)

pub class_contained : (program : Program) (name : Name) (c : Class) → class_at program name ≡ Some c → Contains program c × (c.name ≡ name)
class_contained [] name c e = absurd cc
class_contained (d ∷ classes) name c e = elim (either (same_name d.name name)) [
  | inl same ↦ let found : Some d ≡ Some c = rw same at e in
      let is : d ≡ c = cc in
      (subst (Contains (d ∷ classes)) is (here d classes), sym (ap (λ (k : Class). k.name) is) ∙ same_name_is d.name name same)
  | inr other ↦ let r = class_contained classes name c (rw other at e) in (later c d classes r.0, r.1)
]

pub method_contained : (methods : List Method) (name : Name) (desc : Desc) (m : Method) → method_in methods name desc ≡ Some m
    → Contains methods m × (m.name ≡ name) × (m.desc ≡ desc)
method_contained [] name desc m e = absurd cc
method_contained (x ∷ methods) name desc m e = elim (either (is_named name desc x.name x.desc)) [
  | inl same ↦ let found : Some x ≡ Some m = rw same at e in
      let is : x ≡ m = cc in
      let parts = both_parts (same_name x.name name) (same_desc x.desc desc) same in (
        subst (Contains (x ∷ methods)) is (here x methods),
        sym (ap (λ (k : Method). k.name) is) ∙ same_name_is x.name name parts.0,
        sym (ap (λ (k : Method). k.desc) is) ∙ same_desc_is x.desc desc parts.1,
      )
  | inr other ↦ let r = method_contained methods name desc m (rw other at e) in (later m x methods r.0, r.1, r.2)
]

-- ---- methods that are found

-- the class is there, and has the method by this name and this descriptor
pub record IsThere (program : Program) (name : Name) (desc : Desc) (found : FoundMethod) : Type 0 where
  pub class : Class
  pub class_is : class_at program found.class ≡ Some class
  pub method_is : method_in class.methods name desc ≡ Some found.method

first_there : (program : Program) (test : Method → Bool) (name : Name) (desc : Desc) (classes : List Name) (found : FoundMethod)
    → first_method program test name desc classes ≡ Some found → IsThere program name desc found × (test found.method ≡ true)
first_there program test name desc [] found e = absurd cc
first_there program test name desc (class ∷ classes) found e = at_class (first_there program test name desc classes found) (class_at program class) refl where
  at_method : (first_method program test name desc classes ≡ Some found → IsThere program name desc found × (test found.method ≡ true))
      → (c : Class) → class_at program class ≡ Some c → (m : Option Method) → method_in c.methods name desc ≡ m
      → method_or class test m (first_method program test name desc classes) ≡ Some found → IsThere program name desc found × (test found.method ≡ true)
  at_method more c is None none r = more r
  at_method more c is (Some m) some r = elim (either (test m)) [
    | inl passes ↦ let same : Some (record { class = class; method = m }) ≡ Some found = rw passes at r in
        let this : record { class = class; method = m } ≡ found = cc in
        subst (λ (k : FoundMethod). IsThere program name desc k × (test k.method ≡ true)) this (record { class = c; class_is = is; method_is = some }, passes)
    | inr fails ↦ more (rw fails at r)
  ]

  at_class : (first_method program test name desc classes ≡ Some found → IsThere program name desc found × (test found.method ≡ true))
      → (c : Option Class) → class_at program class ≡ c → IsThere program name desc found × (test found.method ≡ true)
  at_class more None none = more (subst (λ c. method_or class test (method_of c name desc) (first_method program test name desc classes) ≡ Some found) none e)
  at_class more (Some c) some = at_method more c some (method_in c.methods name desc) refl
      (subst (λ c. method_or class test (method_of c name desc) (first_method program test name desc classes) ≡ Some found) some e)

or_there : (program : Program) (name : Name) (desc : Desc) (a b : Option FoundMethod) (found : FoundMethod)
    → ((f : FoundMethod) → a ≡ Some f → IsThere program name desc f) → ((f : FoundMethod) → b ≡ Some f → IsThere program name desc f)
    → or_else a b ≡ Some found → IsThere program name desc found
or_there program name desc None b found x y e = y found e
or_there program name desc (Some a) b found x y e = x found e

pub resolved_there : (program : Program) (prefix : Prefix) (m : Member) (found : FoundMethod) → resolve_method program prefix m ≡ Some found
    → IsThere program m.name m.desc found
unfolding resolve_method
resolved_there program prefix m found e = or_there program m.name m.desc _ _ found
    (λ f is. (first_there program any_method m.name m.desc (method_chain program prefix (member_class prefix m.class)) f is).0)
    (λ f is. (first_there program is_plain m.name m.desc (interfaces_above program (member_class prefix m.class)) f is).0) e

-- its own name and descriptor are those that were asked
pub there_name : (program : Program) (name : Name) (desc : Desc) (found : FoundMethod) → IsThere program name desc found
    → (found.method.name ≡ name) × (found.method.desc ≡ desc)
there_name program name desc found t = let r = method_contained t.class.methods name desc found.method t.method_is in (r.1, r.2)

with_body_is : (found : Option FoundMethod) (f : FoundMethod) → with_body found ≡ Some f → found ≡ Some f
with_body_is None f e = e
with_body_is (Some g) f e = elim (either (has_body g.method.body)) [
  | inl has ↦ rw has at e
  | inr none ↦ let no : None ≡ Some f = rw none at e in absurd cc
]

-- what is selected is found by the same name and descriptor, and isn't static where the resolved method isn't
pub selected_there : (program : Program) (prefix : Prefix) (name : Name) (desc : Desc) (resolved : FoundMethod) (class : Ty) (found : FoundMethod) → IsThere program name desc resolved
    → is_static resolved.method.flags ≡ false → select program prefix resolved class ≡ Some found → IsThere program name desc found × (is_static found.method.flags ≡ false)
unfolding select
selected_there program prefix name desc resolved class found there not_static e =
    go (with_body_is _ found e) where
      named : (resolved.method.name ≡ name) × (resolved.method.desc ≡ desc)
      named = there_name program name desc resolved there

      go : (if is_private resolved.method.flags then Some resolved else first_method program is_plain resolved.method.name resolved.method.desc (chain program (member_class prefix class))) ≡ Some found
          → IsThere program name desc found × (is_static found.method.flags ≡ false)
      go f = elim (either (is_private resolved.method.flags)) [
        | inl private ↦ let same : Some resolved ≡ Some found = rw private at f in
            let is : resolved ≡ found = cc in
            subst (λ (k : FoundMethod). IsThere program name desc k × (is_static k.method.flags ≡ false)) is (there, not_static)
        | inr public ↦ let r = first_there program is_plain resolved.method.name resolved.method.desc (chain program (member_class prefix class)) found (rw public at f) in (
          subst (λ d. IsThere program name d found) named.1 (subst (λ n. IsThere program n resolved.method.desc found) named.0 r.0),
          plain_not_static found.method r.1,
        )
      ] where
        plain_not_static : (m : Method) → is_plain m ≡ true → is_static m.flags ≡ false
        plain_not_static m p = elim (either (is_static m.flags)) [
          | inl static ↦ let parts = both_parts (not (is_private m.flags)) (not (is_static m.flags)) p in
              let no : not true ≡ true = rw static at parts.1 in absurd cc
          | inr other ↦ other
        ]

pub special_there : (program : Program) (name : Name) (desc : Desc) (own : Name) (resolved found : FoundMethod) → IsThere program name desc resolved
    → is_static resolved.method.flags ≡ false → special_method program own resolved ≡ Some found → IsThere program name desc found × (is_static found.method.flags ≡ false)
unfolding special_method
special_there program name desc own resolved found there not_static e =
    elim (either (not (same_name resolved.method.name constructor_name) && is_among (superclasses (chain program own)) resolved.class)) [
      | inl upward ↦ let r = first_there program is_not_static resolved.method.name resolved.method.desc (superclasses (chain program own)) found (rw upward at e) in
          (subst (λ d. IsThere program name d found) named.1 (subst (λ n. IsThere program n resolved.method.desc found) named.0 r.0), other found.method r.1)
      | inr itself ↦ let same : Some resolved ≡ Some found = rw itself at e in
          let is : resolved ≡ found = cc in
          subst (λ (k : FoundMethod). IsThere program name desc k × (is_static k.method.flags ≡ false)) is (there, not_static)
    ] where
      named : (resolved.method.name ≡ name) × (resolved.method.desc ≡ desc)
      named = there_name program name desc resolved there

      other : (m : Method) → is_not_static m ≡ true → is_static m.flags ≡ false
      other m p = elim (either (is_static m.flags)) [
        | inl static ↦ let no : not true ≡ true = rw static at p in absurd cc
        | inr is ↦ is
      ]

-- a found method is the program's by its own name and descriptor
pub declared_there : (program : Program) (name : Name) (desc : Desc) (found : FoundMethod) → IsThere program name desc found
    → method_at program (declared_of found) ≡ Some found.method
declared_there program name desc found t =
    let named = there_name program name desc found t in
    subst (λ c. method_of c found.method.name found.method.desc ≡ Some found.method) (sym t.class_is)
    (subst (λ n. method_in t.class.methods n found.method.desc ≡ Some found.method) (sym named.0)
    (subst (λ d. method_in t.class.methods name d ≡ Some found.method) (sym named.1) t.method_is))
