-- What a program has under the names of the method of a number.
use Rattle.std.proofs.Common.{◌≡◌, ℕ, zero, suc, Bool, true, false, List, [], ◌∷◌, ◌++◌, map, Option, Some, refl, sym, ap, ◌∙◌, subst, inl, inr, ◌⊎◌, ◌||◌}
use Rattle.std.specs.Prelude.{not, slice_get}
use Rattle.std.specs.Option.{option_map}
use Rattle.std.specs.List.{flat_map, list_any}
use Rattle.std.proofs.lemmas.Bool.{and_parts, false≢true}
use Rattle.std.proofs.lemmas.Option.{same_Some}
use Rattle.dj_names.specs.declared.descriptor.Desc.{Desc}
use Rattle.dj_names.specs.trusted.Types.{Name, same_name, same_desc}
use Rattle.dj_model.specs.trusted.Types.{initialiser_name, no_parameters}
use Rattle.dj_model.specs.trusted.Program.{Program, Class, Method, class_at, is_named, method_in, method_of, method_at, body_code, code_in, code_of, is_initialiser}
use Rattle.dj_model.specs.trusted.Linking.{FoundMethod, declared_of}
use Rattle.dj_model.specs.Sound.{methods_differ, IsProgram}
use Rattle.dj_model.proofs.SoundFrames.{contained}
use Rattle.dj_declarations.proofs.DescTests.{same_name_is, same_name_itself, same_desc_is, same_desc_itself}
use Rattle.dj_class_table.specs.Tables.{name_of}
use Rattle.dj_class_table.proofs.Orders.{rise-from_names_rise}
use Rattle.dj_class_table.proofs.Numbered.{class_at-at, class_number-rise}
use Rattle.dj_numbering.specs.Members.{methods_in, all_methods}
use Rattle.dj_current_method.specs.Activations.{declared_or_none, declared_at}

-- ---- names

named_itself : (name : Name) (desc : Desc) → is_named name desc name desc ≡ true
named_itself name desc = rw (same_name_itself name name refl, same_desc_itself desc) refl

named_is : (name : Name) (desc : Desc) (n : Name) (d : Desc) → is_named name desc n d ≡ true → (n ≡ name) × (d ≡ desc)
named_is name desc n d e =
    let parts = and_parts (same_name n name) (same_desc d desc) e in (same_name_is n name parts.0, same_desc_is d desc parts.1)

-- names that differ do so either way round
other_way : (a b : Method) → is_named a.name a.desc b.name b.desc ≡ false → is_named b.name b.desc a.name a.desc ≡ false
other_way a b differ = by (is_named b.name b.desc a.name a.desc) refl where
  by : (t : Bool) → is_named b.name b.desc a.name a.desc ≡ t → t ≡ false
  by false e = refl
  by true e =
      let same = named_is b.name b.desc a.name a.desc e in
      let itself : is_named a.name a.desc b.name b.desc ≡ true =
      ap (λ (n : Name). is_named a.name a.desc n b.desc) (sym same.0) ∙ (ap (λ (d : Desc). is_named a.name a.desc a.name d) (sym same.1) ∙ named_itself a.name a.desc) in
      absurd (false≢true (sym differ ∙ itself))

not_true : (b : Bool) → not b ≡ true → b ≡ false
not_true true e = absurd cc
not_true false e = refl

none_such : (test : Method → Bool) (methods : List Method) → list_any test methods ≡ false → (k : ℕ) (m : Method) → slice_get methods k ≡ Some m → test m ≡ false
none_such test [] none k m e = absurd cc
none_such test (d ∷ methods) none zero m e =
    let is : d ≡ m = same_Some d m e in subst (λ (x : Method). test x ≡ false) is (first (test d) (list_any test methods) none) where
      first : (a b : Bool) → (a || b) ≡ false → a ≡ false
      first true b f = absurd cc
      first false b f = refl
none_such test (d ∷ methods) none (suc k) m e = none_such test methods (rest (test d) (list_any test methods) none) k m e where
  rest : (a b : Bool) → (a || b) ≡ false → b ≡ false
  rest true b f = absurd cc
  rest false b f = f

-- ---- a class of the program has the method

pub record IsOwn (program : Program) (found : FoundMethod) : Type 0 where
  pub number : ℕ
  pub class : Class
  pub there : slice_get program number ≡ Some class
  pub named : class.name ≡ found.class
  pub member : ℕ
  pub own : slice_get class.methods member ≡ Some found.method

abbrev found_in : Class → Method → FoundMethod
found_in c m = record { class = c.name; method = m }

own_in : (c : Class) (methods : List Method) (n : ℕ) (found : FoundMethod) → slice_get (map (found_in c) methods) n ≡ Some found
    → (c.name ≡ found.class) × (slice_get methods n ≡ Some found.method)
own_in c [] n found e = absurd cc
own_in c (m ∷ methods) zero found e =
    let is : found_in c m ≡ found = same_Some (found_in c m) found e in (ap (λ (f : FoundMethod). f.class) is, ap (λ (f : FoundMethod). Some f.method) is)
own_in c (m ∷ methods) (suc n) found e = own_in c methods n found e

prefix_or_rest : {A : Type 0} (xs ys : List A) (n : ℕ) (x : A) → slice_get (xs ++ ys) n ≡ Some x → (slice_get xs n ≡ Some x) ⊎ ((k : ℕ) × (slice_get ys k ≡ Some x))
prefix_or_rest [] ys n x e = inr (n, e)
prefix_or_rest (y ∷ xs) ys zero x e = inl e
prefix_or_rest (y ∷ xs) ys (suc n) x e = prefix_or_rest xs ys n x e

pub own_of : (program : Program) (n : ℕ) (found : FoundMethod) → slice_get (all_methods program) n ≡ Some found → IsOwn program found
unfolding all_methods
own_of [] n found e = absurd cc
own_of (c ∷ program) n found e = elim (prefix_or_rest (methods_in c) (flat_map methods_in program) n found e) [
  | inl here ↦ let parts = own_in c c.methods n found here in record { number = 0; class = c; there = refl; named = parts.0; member = n; own = parts.1 }
  | inr later ↦ let own = own_of program later.0 found later.1 in
      record { number = suc own.number; class = own.class; there = own.there; named = own.named; member = own.member; own = own.own }
]

-- ---- and the names find it

method_found : (methods : List Method) → methods_differ methods ≡ true → (k : ℕ) (m : Method) → slice_get methods k ≡ Some m → method_in methods m.name m.desc ≡ Some m
method_found [] differ k m e = absurd cc
method_found (d ∷ methods) differ zero m e =
    let first : method_in (d ∷ methods) d.name d.desc ≡ Some d = rw (named_itself d.name d.desc) refl in
    subst (λ (x : Method). method_in (d ∷ methods) x.name x.desc ≡ Some x) (same_Some d m e) first
method_found (d ∷ methods) differ (suc k) m e =
    let parts = and_parts (not (list_any (λ (other : Method). is_named d.name d.desc other.name other.desc) methods)) (methods_differ methods) differ in
    let apart = none_such (λ (other : Method). is_named d.name d.desc other.name other.desc) methods (not_true _ parts.0) k m e in
    let other : is_named m.name m.desc d.name d.desc ≡ false = other_way d m apart in
    rw other (method_found methods parts.1 k m e)

-- the method of a number goes by its names
pub declared_there : (program : Program) (n : ℕ) (found : FoundMethod) → slice_get (all_methods program) n ≡ Some found → declared_at program n ≡ declared_of found
unfolding declared_at
declared_there program n found e = ap declared_or_none e

pub method_of_number : (program : Program) → IsProgram program → (n : ℕ) (found : FoundMethod) → slice_get (all_methods program) n ≡ Some found
    → method_at program (declared_at program n) ≡ Some found.method
method_of_number program formed n found e =
    let own = own_of program n found e in
    let number = class_number-rise program (rise-from_names_rise program formed.names) own.number own.class.name (ap (option_map name_of) own.there) in
    let class : class_at program found.class ≡ Some own.class = ap (class_at program) (sym own.named) ∙ (class_at-at program own.class.name own.number number ∙ own.there) in
    let differ = (formed.classes own.class (contained program own.number own.class own.there)).methods in
    ap (method_at program) (declared_there program n found e)
    ∙ (ap (λ (o : Option Class). method_of o found.method.name found.method.desc) class
    ∙ method_found own.class.methods differ own.member found.method own.own)

-- the code of a number's method is its body's
pub code_of_number : (program : Program) → IsProgram program → (n : ℕ) (found : FoundMethod) → slice_get (all_methods program) n ≡ Some found
    → code_of program (declared_at program n) ≡ body_code found.method.body
unfolding code_of
code_of_number program formed n found e = ap code_in (method_of_number program formed n found e)

pub initialiser_of_number : (program : Program) (n : ℕ) (found : FoundMethod) → slice_get (all_methods program) n ≡ Some found
    → is_initialiser (declared_at program n) ≡ is_named initialiser_name no_parameters found.method.name found.method.desc
initialiser_of_number program n found e = ap is_initialiser (declared_there program n found e)
