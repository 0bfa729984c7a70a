-- What the constants of a valid pool name as classes and members, and where these are in a program without code.
use Rattle.std.proofs.Common.{◌≡◌, ℕ, zero, suc, ◌≤◌, Bool, true, not, List, [], Option, Some, None, option_and_then, refl, sym, ap, ◌∙◌, subst, inl, inr, arith}
use Rattle.std.specs.Prelude.{IsSomeAnd, nat_eq}
use Rattle.std.specs.Option.{option_map}
use Rattle.std.proofs.lemmas.Bool.Decides.{nat_tests}
use Rattle.dj_names.specs.declared.descriptor.Of.{Of}
use Rattle.dj_names.specs.declared.descriptor.Of.TheVariants as ofs
use Rattle.dj_names.specs.declared.descriptor.Ty.{Ty}
use Rattle.dj_names.specs.trusted.Types.{Name, class_type}
use Rattle.dj_pool.specs.trusted.Pool.{Constant, Class, Field, Method, InterfaceMethod, constant_at, text_at, class_text_of, class_name_at, name_and_type_at, both, IsClassText, NamesText, IsLinked, IsPool}
use Rattle.dj_model.specs.trusted.Types.{Member}
use Rattle.dj_model.specs.trusted.Program as programs
use Rattle.dj_model.specs.trusted.Program.{Program, class_at, is_static}
use Rattle.dj_model.specs.trusted.Linking.{FoundField, FoundMethod, resolve_field, resolve_method, class_or_object}
use Rattle.dj_model.specs.trusted.Numbers.{agrees}
use Rattle.dj_model.specs.Sound.{is_there, is_class_of, is_field_found, is_method_found}
use Rattle.dj_early_rules.specs.trusted.Classes.{names_at}
use Rattle.dj_declarations.specs.trusted.Files.{type_in}
use Rattle.dj_declarations.specs.Files.{bare_class}
use Rattle.dj_link_rules.specs.trusted.Named.{named_type, class_of_type, member_of, named_member, is_static_field, is_static_method}
use Rattle.dj_image.proofs.Bare.{bare_program, bare_found, bare_found_field, class_bare, resolve_method_bare, resolve_field_bare}
use Rattle.dj_image.proofs.ClassTexts.{name_type, array_type}
use Rattle.dj_image.proofs.Links.{linked_index}
use Rattle.dj_program.specs.trusted.Naming.{member_from, member_in}

pub there : {A : Type 0} (o : Option A) → (o ≡ None → ⊥) → (x : A) × (o ≡ Some x)
there None some = absurd (some refl)
there (Some x) some = (x, refl)

pub positive : (n : ℕ) → 1 ≤ n → not (nat_eq n 0) ≡ true
positive n some = grind (arith, nat_tests)

-- ---- types of class constants

-- a class by its name, or an array of few dimensions
pub record IsClassType (ty : Ty) : Type 0 where
  pub few : ty.dims ≤ 255
  pub some : (ty.dims ≡ 0) → (name : Name) × (ty ≡ class_type name)

pub class_typed : (text : List ℕ) → IsClassText text → IsClassType (type_in text)
class_typed text (inl name) =
    let is : type_in text ≡ class_type text = name_type text name in
    let none : (type_in text).dims ≡ 0 = ap (λ (ty : Ty). ty.dims) is in
    record { few = omega (arith, none); some = λ zero. (text, is) }
class_typed text (inr (ty, some, described)) =
    let is : type_in text ≡ ty = array_type text ty some described in
    let dims : (type_in text).dims ≡ ty.dims = ap (λ (x : Ty). x.dims) is in
    record { few = (let few = described.valid.few in omega (arith, dims, few)); some = λ zero. absurd (omega (arith, dims, some, zero)) }

-- ---- two programs

-- what look-ups find in the one program they find in the other: each class, and members that are static or aren't
pub record Sees (judged program : Program) : Type 0 where
  pub classes : (name : Name) → (class_at judged name ≡ None → ⊥) → (c : programs.Class) × (class_at program name ≡ Some c)
  pub fields : (m : Member) (b : Bool) → option_map is_static_field (resolve_field judged [] m) ≡ Some b → option_map is_static_field (resolve_field program [] m) ≡ Some b
  pub methods : (m : Member) (b : Bool) → option_map is_static_method (resolve_method judged [] m) ≡ Some b → option_map is_static_method (resolve_method program [] m) ≡ Some b

-- as in one without code
pub sees_bare : (program : Program) → Sees (bare_program program) program
sees_bare program = record {
  classes = λ name some. there (class_at program name) (λ none. some (class_bare program name ∙ ap (option_map bare_class) none));
  fields = λ m b found. same_field (resolve_field program [] m) b (ap (option_map is_static_field) (sym (resolve_field_bare program [] m)) ∙ found);
  methods = λ m b found. same_method (resolve_method program [] m) b (ap (option_map is_static_method) (sym (resolve_method_bare program [] m)) ∙ found);
} where
  same_field : (r : Option FoundField) (b : Bool) → option_map is_static_field (option_map bare_found_field r) ≡ Some b → option_map is_static_field r ≡ Some b
  same_field None b e = absurd cc
  same_field (Some f) b e = e

  same_method : (r : Option FoundMethod) (b : Bool) → option_map is_static_method (option_map bare_found r) ≡ Some b → option_map is_static_method r ≡ Some b
  same_method None b e = absurd cc
  same_method (Some f) b e = e

module _ (judged program : Program) (sees : Sees judged program) where
  -- ---- classes

  named_there : (of : Of) (dims : ℕ) → (dims ≡ 0 → (name : Name) × (record { dims = dims; of = of } ≡ class_type name)) → (class_at judged (class_or_object [] of) ≡ None → ⊥)
      → is_there program of dims ≡ true
  named_there (ofs.Base base) zero named some =
      let (name, e) = named refl in
      let of_is : ofs.Base base ≡ ofs.Class name = ap (λ (ty : Ty). ty.of) e in absurd cc
  named_there (ofs.Base base) (suc n) named some = positive (suc n) (omega arith)
  named_there (ofs.Class name) dims named some = let (c, at) = sees.classes name some in rw at refl

  pub type_there : (ty : Ty) → IsClassType ty → (class_at judged (class_of_type ty) ≡ None → ⊥) → is_class_of program ty ≡ true
  type_there ty is some = named_there ty.of ty.dims is.some some

  -- ---- members

  pub field_static : (m : Member) (static b : Bool) → option_map is_static_field (resolve_field judged [] m) ≡ Some b → agrees static b ≡ true
      → is_field_found static (resolve_field program [] m) ≡ true
  field_static m static b found agree = by (resolve_field program [] m) (sees.fields m b found) where
    by : (r : Option FoundField) → option_map is_static_field r ≡ Some b → is_field_found static r ≡ true
    by None e = absurd cc
    by (Some f) e = let same : is_static f.field.flags ≡ b = cc in ap (agrees static) same ∙ agree

  pub method_static : (m : Member) (static b : Bool) → option_map is_static_method (resolve_method judged [] m) ≡ Some b → agrees static b ≡ true
      → is_method_found static (resolve_method program [] m) ≡ true
  method_static m static b found agree = by (resolve_method program [] m) (sees.methods m b found) where
    by : (r : Option FoundMethod) → option_map is_static_method r ≡ Some b → is_method_found static r ≡ true
    by None e = absurd cc
    by (Some f) e = let same : is_static f.method.flags ≡ b = cc in ap (agrees static) same ∙ agree

-- ---- constants

-- the text of a class constant is that of a class
class_text : (pool : List Constant) → IsPool pool → (class : ℕ) (text : List ℕ) → class_name_at pool class ≡ Some text → IsClassText text
class_text pool valid class text e = by (constant_at pool class) (λ k at. linked_index pool class k valid at) e where
  named : (name : ℕ) → NamesText IsClassText pool name → text_at pool name ≡ Some text → IsClassText text
  named name is at = subst (λ (o : Option (List ℕ)). IsSomeAnd o IsClassText) at is

  by : (o : Option Constant) → ((k : Constant) → o ≡ Some k → IsLinked pool k) → option_and_then (text_at pool) (option_and_then class_text_of o) ≡ Some text → IsClassText text
  by None each e = absurd cc
  by (Some (Class name)) each e = named name (each (Class name) refl) e
  by (Some _) each e = absurd cc

-- a constant of a member names its class, and the member
pub record IsMemberOf (pool : List Constant) (k : Constant) (m : Member) : Type 0 where
  pub class : named_type pool k ≡ Some m.class
  pub named : named_member pool k ≡ Some m
  pub typed : IsClassType m.class

pub data Names (pool : List Constant) (k : Constant) (found : Option Member) : Type 0 where
  Nothing : found ≡ None → Names pool k found
  Something : (m : Member) → found ≡ Some m → IsMemberOf pool k m → Names pool k found

-- by its class and its names
names_of_member : (pool : List Constant) → IsPool pool → (k : Constant) (class names : ℕ) → named_type pool k ≡ option_map type_in (class_name_at pool class) → names_at pool k ≡ name_and_type_at pool names
    → Names pool k (member_in pool class names)
names_of_member pool valid k class names type_is names_are = by (class_name_at pool class) refl (name_and_type_at pool names) refl where
  by : (a : Option (List ℕ)) → class_name_at pool class ≡ a → (b : Option (List ℕ × List ℕ)) → name_and_type_at pool names ≡ b → Names pool k (option_map member_from (both a b))
  by None at b named = Nothing refl
  by (Some text) at None named = Nothing refl
  by (Some text) at (Some x) named =
      let own : named_type pool k ≡ Some (type_in text) = type_is ∙ ap (option_map type_in) at in
      let both_are : names_at pool k ≡ Some x = names_are ∙ named in
      Something (member_from (text, x)) refl (record {
        class = own;
        named = (λ i. option_map member_of (both (own i) (both_are i)));
        typed = class_typed text (class_text pool valid class text at);
      })

pub field_names : (pool : List Constant) → IsPool pool → (class names : ℕ) → Names pool (Field class names) (member_in pool class names)
field_names pool valid class names = names_of_member pool valid (Field class names) class names refl refl

pub method_names : (pool : List Constant) → IsPool pool → (class names : ℕ) → Names pool (Method class names) (member_in pool class names)
method_names pool valid class names = names_of_member pool valid (Method class names) class names refl refl

pub interface_names : (pool : List Constant) → IsPool pool → (class names : ℕ) → Names pool (InterfaceMethod class names) (member_in pool class names)
interface_names pool valid class names = names_of_member pool valid (InterfaceMethod class names) class names refl refl

-- the type of a class constant
pub class_named : (pool : List Constant) → IsPool pool → (index name : ℕ) → constant_at pool index ≡ Some (Class name) → (text : List ℕ) × (text_at pool name ≡ Some text) × IsClassText text
class_named pool valid index name at = by (text_at pool name) (linked_index pool index (Class name) valid at) where
  by : (o : Option (List ℕ)) → IsSomeAnd o IsClassText → (text : List ℕ) × (o ≡ Some text) × IsClassText text
  by None is = absurd is
  by (Some text) is = (text, refl, is)
