-- The names of the interfaces of a class.
use Rattle.std.proofs.Common.{◌≡◌, ℕ, ◌+◌, ◌<◌, ◌≤◌, ◌↔◌, List, [], ◌∷◌, ◌++◌, map, take, length, get_or, Bor, Option, Some, None, IsSomeAnd, refl, sym, ap, ◌∙◌, subst, inl, inr, Contains, IsPermutation, nat_eq}
use Rattle.std.specs.Prelude.{option_and_then}
use Rattle.std.specs.List.{dedup, flat_map}
use Rattle.std.specs.Cmp.{nat_eq_equiv}
use Rattle.std.proofs.lemmas.Bool.{eqb-true}
use Rattle.std.proofs.lemmas.List.{map_push, take_all}
use Rattle.std.proofs.lemmas.List.Elements.{Contains-append_left, Contains-append_right, Contains-append_cases, Contains-push, Contains-push_cases}
use Rattle.dj_pool.specs.trusted.Pool.{Constant, class_text_of, constant_at, text_at, class_name_at}
use Rattle.dj_report.specs.Lines.{Gains}
use Rattle.dj_report.proofs.Sorted.{contains_none, contains_first, contains_cases}
use Rattle.dj_report.proofs.Adding.{adds_same, adds_nothing, adds_one_more, once_members}
use Rattle.dj_early_rules.specs.declared.judged.JudgedText.{JudgedText}
use Rattle.dj_early_rules.specs.Judged.{AreTexts, first_in}
use Rattle.dj_early_rules.specs.trusted.Heads.{names_in}
use Rattle.dj_early_rules.specs.Gathered.{texts_of, IsOfOne, IsClassText, AreClassTexts, HasText, AreTextsAt}
use Rattle.dj_early_rules.proofs.FileLaws.{first_text}

-- ---- one more

pub pushed : {X : Type 0} (x : X) (a b : List X) → b ≡ a ++ x ∷ [] → Gains (λ y. y ≡ x) a b
pushed {X} x a b is = rw is (λ y. (
  λ m. elim (Contains-push_cases a x y m) [ inl old ↦ inl old | inr e ↦ inr (sym e) ],
  λ any. elim any [ inl old ↦ Contains-append_left a (x ∷ []) y old | inr e ↦ subst (λ (z : X). Contains (a ++ x ∷ []) z) (sym e) (Contains-push a x) ],
))

module _ {X : Type 0} (P : ℕ → X → Type 0) where
  abbrev pub IsFor : Option ℕ → X → Type 0
  IsFor found x = IsSomeAnd found (λ index. P index x)

  -- what holds for the index that is there
  pub gains_some : (found : Option ℕ) (index : ℕ) (a b : List X) → found ≡ Some index → Gains (P index) a b → Gains (IsFor found) a b
  gains_some found index a b is = subst (λ (o : Option ℕ). Gains (P index) a b → Gains (IsFor o) a b) (sym is) (λ gains. gains)

  pub gains_none : (found : Option ℕ) (a : List X) → found ≡ None → Gains (IsFor found) a a
  gains_none found a is = subst (λ (o : Option ℕ). Gains (IsFor o) a a) (sym is) (adds_nothing (λ (x : X). ⊥) a (λ x no. no))

-- the index that stands for a text
pub class_text_pushed : (pool : List Constant) (texts : List JudgedText) (index name first : ℕ) (found : Option ℕ) (a b : List ℕ) → found ≡ option_and_then class_text_of (constant_at pool index) → found ≡ Some name → first ≡ first_in texts name
    → b ≡ a ++ first ∷ [] → Gains (IsClassText pool texts index) a b
class_text_pushed pool texts index name first found a b seen is reported push =
    gains_some (λ (n : ℕ) (x : ℕ). x ≡ first_in texts n) (option_and_then class_text_of (constant_at pool index)) name a b (sym seen ∙ is) (subst (λ (f : ℕ). Gains (λ (x : ℕ). x ≡ f) a b) reported (pushed first a b push))

pub no_class_text : (pool : List Constant) (texts : List JudgedText) (index : ℕ) (found : Option ℕ) (a : List ℕ) → found ≡ option_and_then class_text_of (constant_at pool index) → found ≡ None → Gains (IsClassText pool texts index) a a
no_class_text pool texts index found a seen is = gains_none (λ (n : ℕ) (x : ℕ). x ≡ first_in texts n) (option_and_then class_text_of (constant_at pool index)) a (sym seen ∙ is)

same_some : (a b : List ℕ) → Some a ≡ Some b → a ≡ b
same_some a b e = cc

-- the text of an index
pub text_pushed : (pool : List Constant) (index : ℕ) (text : Bor (List ℕ)) (a b : List (Bor (List ℕ))) → text_at pool index ≡ Some text.now → b ≡ a ++ text ∷ [] → Gains (HasText pool index) (texts_of a) (texts_of b)
text_pushed pool index text a b at push =
    adds_same (λ (t : List ℕ). t ≡ text.now) (HasText pool index) (texts_of a) (texts_of b) (λ t. (
      λ e. at ∙ ap Some (sym e),
      λ is. same_some t text.now (sym is ∙ at),
    )) (pushed text.now (texts_of a) (texts_of b) (ap (map (λ (name : Bor (List ℕ)). name.now)) push ∙ map_push (λ (name : Bor (List ℕ)). name.now) a text))

pub no_text : (pool : List Constant) (index : ℕ) (a : List (List ℕ)) → text_at pool index ≡ None → Gains (HasText pool index) a a
no_text pool index a none = adds_nothing (HasText pool index) a (λ t is. let e : None ≡ Some t = sym none ∙ is in absurd cc)

-- ---- all

-- what was gathered from nothing on
pub gathered : {X : Type 0} (P : X → Type 0) (none xs : List X) → none ≡ [] → Gains P none xs → (x : X) → Contains xs x ↔ P x
gathered {X} P none xs empty gains x = (
  λ m. elim ((gains x).0 m) [ inl old ↦ absurd (contains_none x (subst (λ (ys : List X). Contains ys x) empty old)) | inr is ↦ is ],
  λ is. (gains x).1 (inr is),
)

pub once_indexes : (a b c : List ℕ) → IsPermutation a b → c ≡ dedup nat_eq b → (index : ℕ) → Contains c index ↔ Contains a index
once_indexes = once_members nat_eq_equiv (λ x y e. eqb-true x y e)

-- ---- the names of interfaces

contains_flat_map : (f : ℕ → List (List ℕ)) (xs : List ℕ) (t : List ℕ) → Contains (flat_map f xs) t → IsOfOne (λ (index : ℕ) (text : List ℕ). Contains (f index) text) xs t
contains_flat_map f [] t m = absurd (contains_none t m)
contains_flat_map f (x ∷ xs) t m = elim (Contains-append_cases (f x) (flat_map f xs) t m) [
  | inl here ↦ (x, contains_first x xs, here)
  | inr later ↦ let is = contains_flat_map f xs t later in (is.0, Contains-append_right (x ∷ []) xs is.0 is.1, is.2)
]

to_flat_map : (f : ℕ → List (List ℕ)) (xs : List ℕ) (t : List ℕ) → IsOfOne (λ (index : ℕ) (text : List ℕ). Contains (f index) text) xs t → Contains (flat_map f xs) t
to_flat_map f [] t (index, m, is) = absurd (contains_none index m)
to_flat_map f (x ∷ xs) t (index, m, is) = elim (contains_cases x xs index m) [
  | inl same ↦ Contains-append_left (f x) (flat_map f xs) t (subst (λ (k : ℕ). Contains (f k) t) (sym same) is)
  | inr later ↦ Contains-append_right (f x) (flat_map f xs) t (to_flat_map f xs t (index, later, is))
]

name_in : (found : Option (List ℕ)) (t : List ℕ) → Contains (names_in found) t → found ≡ Some t
name_in None t m = absurd (contains_none t m)
name_in (Some name) t m = elim (contains_cases name [] t m) [ inl same ↦ ap Some same | inr none ↦ absurd (contains_none t none) ]

in_names : (found : Option (List ℕ)) (t : List ℕ) → found ≡ Some t → Contains (names_in found) t
in_names found t is = subst (λ (o : Option (List ℕ)). Contains (names_in o) t) (sym is) (contains_first t [])

-- the name of the class of an index is the text of the index that stands for its text
by_first : (pool : List Constant) (texts : List JudgedText) → AreTexts pool texts → (found : Option ℕ) (first : ℕ) (t : List ℕ) → IsSomeAnd found (λ name. first ≡ first_in texts name) → text_at pool first ≡ Some t
    → option_and_then (text_at pool) found ≡ Some t
by_first pool texts are None first t is at = absurd is
by_first pool texts are (Some name) first t is at = sym (ap (text_at pool) is ∙ first_text pool texts name are) ∙ at

to_first : (pool : List Constant) (texts : List JudgedText) → AreTexts pool texts → (found : Option ℕ) (t : List ℕ) → option_and_then (text_at pool) found ≡ Some t
    → (first : ℕ) × IsSomeAnd found (λ name. first ≡ first_in texts name) × (text_at pool first ≡ Some t)
to_first pool texts are None t is = (let e : None ≡ Some t = is in absurd cc)
to_first pool texts are (Some name) t is = (first_in texts name, refl, first_text pool texts name are ∙ is)

pub interfaces_are : (pool : List Constant) (texts : List JudgedText) (interfaces firsts once : List ℕ) (names : List (List ℕ)) → AreTexts pool texts → AreClassTexts pool texts interfaces firsts
    → ((index : ℕ) → Contains once index ↔ Contains firsts index) → AreTextsAt pool once names
    → (name : List ℕ) → Contains names name ↔ Contains (flat_map (λ index. names_in (class_name_at pool index)) interfaces) name
interfaces_are pool texts interfaces firsts once names are first_are once_are names_are t =
    let f : ℕ → List (List ℕ) = λ index. names_in (class_name_at pool index) in (
      λ m.
          let own = (names_are t).0 m in
          let listed = (first_are own.0).0 ((once_are own.0).0 own.1) in
          to_flat_map f interfaces t (listed.0, listed.1, in_names (class_name_at pool listed.0) t (by_first pool texts are (option_and_then class_text_of (constant_at pool listed.0)) own.0 t listed.2 own.2)),
      λ m.
          let own = contains_flat_map f interfaces t m in
          let first = to_first pool texts are (option_and_then class_text_of (constant_at pool own.0)) t (name_in (class_name_at pool own.0) t own.2) in
          (names_are t).1 (first.0, (once_are first.0).1 ((first_are first.0).1 (own.0, own.1, first.1)), first.2),
    )

-- ---- what a loop gathers

module _ {X : Type 0} (P : ℕ → X → Type 0) where
  abbrev pub AreOf : List ℕ → List X → Type 0
  AreOf parts xs = (x : X) → Contains xs x ↔ IsOfOne P parts x

  as_gains : (parts : List ℕ) (xs : List X) → AreOf parts xs → Gains (IsOfOne P parts) [] xs
  as_gains parts xs are x = (
    λ m. inr ((are x).0 m),
    λ any. elim any [ inl none ↦ absurd (contains_none x none) | inr is ↦ (are x).1 is ],
  )

  pub none_of : (parts : List ℕ) (xs : List X) → xs ≡ [] → AreOf (take 0 parts) xs
  none_of parts xs empty x = (
    λ m. absurd (contains_none x (subst (λ (ys : List X). Contains ys x) empty m)),
    λ (part, m, is). absurd (contains_none part m),
  )

  pub one_more_of : (parts : List ℕ) (i d : ℕ) (a b : List X) → i < length parts → AreOf (take i parts) a → Gains (P (get_or parts i d)) a b → AreOf (take (i + 1) parts) b
  one_more_of parts i d a b lt before this = gathered (IsOfOne P (take (i + 1) parts)) [] b refl (adds_one_more P parts i d [] a b lt (as_gains (take i parts) a before) this)

  pub all_of : (parts : List ℕ) (i : ℕ) (xs : List X) → length parts ≤ i → AreOf (take i parts) xs → AreOf parts xs
  all_of parts i xs past are = subst (λ (ps : List ℕ). AreOf ps xs) (take_all i parts past) are
