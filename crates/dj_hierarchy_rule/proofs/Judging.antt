-- What the rule says of a class, by what is known of names.
use Rattle.std.proofs.Common.{◌≡◌, ◌↔◌, ℕ, zero, suc, ◌<◌, ◌^◌, Bool, true, false, ◌||◌, IsTrue, List, [], ◌∷◌, ◌++◌, length, Option, Some, None, Ok, Err, refl, sym, ap, ◌∙◌, subst, inl, inr, Contains, arith, length-append, lit<}
use Rattle.std.specs.Prelude.{◌⊎◌, Result, IfOk, nat_eq, slice_get, option_map, option_and_then}
use Rattle.std.proofs.lemmas.Bool.{or_cases, or_left, or_right, eqb-true, eq-eqb}
use Rattle.std.proofs.lemmas.Option.{same_Some, none-some, slice_get_cases}
use Rattle.std.proofs.lemmas.List.Elements.{Contains-append_left, Contains-append_right, Contains-append_cases}
use Rattle.dj_library.specs.trusted.Heads.{Head, library_heads}
use Rattle.dj_hierarchy_rule.specs.declared.names.Known.{Known}
use Rattle.dj_hierarchy_rule.specs.declared.judge.Hierarchy.{Hierarchy}
use Rattle.dj_hierarchy_rule.specs.trusted.Hierarchy.{IsFinal, IsInterface, HasSuch, IsMissing, IsAbove, Climbs, Stays, Rises, IsBadSuperclass, IsBadInterface}
use Rattle.dj_hierarchy_rule.specs.Hierarchy.{Stands}
use Rattle.dj_hierarchy_rule.specs.Names.{IsKnownAs, IsKnown, Names, known_at, place_of, AreNames}
use Rattle.dj_hierarchy_rule.specs.Known.{heads_of, IsIn, number_of, IsHierarchy}
use Rattle.dj_hierarchy_rule.specs.Judged.{AreJudged, AreMarks}
use Rattle.dj_hierarchy_rule.proofs.Alike.{same_violate}
use Rattle.dj_hierarchy_rule.proofs.Climbing.{is_within, stays_missing, has_name, missing_or_placed, placed_is_there}

-- ---- superclasses and interfaces

module _ (heads : List Head) (names : Names) (name : List ℕ) (known : AreNames heads names) where
  known_as : (k : Known) → known_at names name ≡ Some k → IsKnownAs heads name k
  known_as k e = subst (IsKnown heads name) e (known.each name)

  unknown : known_at names name ≡ None → IsMissing (Contains heads) name
  unknown e = subst (IsKnown heads name) e (known.each name)

  not_missing : (k : Known) → known_at names name ≡ Some k → IsMissing (Contains heads) name → ⊥
  not_missing k e = placed_is_there heads names known name k.place (ap (option_map (λ (x : Known). x.place)) e)

  pub superclass_unknown : known_at names name ≡ None → IsTrue true ↔ IsBadSuperclass (Contains heads) name
  superclass_unknown e = (λ t. inl (unknown e), λ bad. refl)

  pub superclass_known : (k : Known) (b : Bool) → known_at names name ≡ Some k → b ≡ (k.has_interface || k.has_final) → IsTrue b ↔ IsBadSuperclass (Contains heads) name
  superclass_known k b e is =
      let is_so = known_as k e in (
        λ t. elim (or_cases k.has_interface k.has_final (sym is ∙ t)) [ inl i ↦ inr (with_kind IsInterface (λ h p. inl p) (is_so.interfaces.0 i)) | inr f ↦ inr (with_kind IsFinal (λ h p. inr p) (is_so.finals.0 f)) ],
        λ bad. is ∙ elim bad [
          | inl missing ↦ absurd (not_missing k e missing)
          | inr (h, there, named, inl i) ↦ or_left k.has_interface k.has_final (is_so.interfaces.1 (h, there, named, i))
          | inr (h, there, named, inr f) ↦ or_right k.has_interface k.has_final (is_so.finals.1 (h, there, named, f))
        ],
      )
    where
      with_kind : (P : Head → Type 0) → ((h : Head) → P h → IsInterface h ⊎ IsFinal h) → HasSuch (Contains heads) P name → HasSuch (Contains heads) (λ h. IsInterface h ⊎ IsFinal h) name
      with_kind P kind (h, there, named, p) = (h, there, named, kind h p)

  pub interface_unknown : known_at names name ≡ None → IsTrue true ↔ IsBadInterface (Contains heads) name
  interface_unknown e = (λ t. inl (unknown e), λ bad. refl)

  pub interface_known : (k : Known) (b : Bool) → known_at names name ≡ Some k → b ≡ k.has_class → IsTrue b ↔ IsBadInterface (Contains heads) name
  interface_known k b e is =
      let is_so = known_as k e in (
        λ t. inr (is_so.classes.0 (sym is ∙ t)),
        λ bad. is ∙ elim bad [ inl missing ↦ absurd (not_missing k e missing) | inr such ↦ is_so.classes.1 such ],
      )

-- ---- ways back

module _ (hierarchy : Hierarchy) (is : IsHierarchy hierarchy) where
  numbered : (numbers : List ℕ) (o : Option ℕ) (n : ℕ) → option_and_then (λ place. slice_get numbers place) o ≡ Some n → (place : ℕ) × (o ≡ Some place) × (slice_get numbers place ≡ Some n)
  numbered numbers None n e = absurd cc
  numbered numbers (Some place) n e = (place, refl, e)

  not_numbered : (numbers : List ℕ) (o : Option ℕ) (place : ℕ) → option_and_then (λ p. slice_get numbers p) o ≡ None → o ≡ Some place → place < length numbers → ⊥
  not_numbered numbers None place e at lt = absurd cc
  not_numbered numbers (Some p) place e at lt =
      let same : p ≡ place = same_Some p place at in
      elim (slice_get_cases numbers p).1 [ inl (x, l, s, g) ↦ none-some x (sym e ∙ s) | inr (le, n) ↦ omega arith ]

  -- a name with no number is none that a class has
  no_number : (name : List ℕ) → number_of hierarchy name ≡ None → IsMissing (IsIn hierarchy) name
  no_number name e =
      elim (missing_or_placed (heads_of hierarchy) hierarchy.names is.names name) [
        | inl missing ↦ missing
        | inr (place, at) ↦
            let within : place < length (heads_of hierarchy) = is_within (heads_of hierarchy) place name (has_name (heads_of hierarchy) hierarchy.names is.names name place at) in
            absurd (not_numbered hierarchy.numbers.items (place_of hierarchy.names name) place e at (omega (arith, is.joined.all)))
      ]

  -- the name of a class that is there has a number
  pub not_numbered_there : (head : Head) → IsIn hierarchy head → number_of hierarchy head.name ≡ None → ⊥
  not_numbered_there head there none = no_number head.name none (head, there, refl, tt)

  module _ (head : Head) (there : IsIn hierarchy head) (above : List ℕ) (over : IsAbove head above) where
    pub way_back : (m n : ℕ) → number_of hierarchy head.name ≡ Some m → number_of hierarchy above ≡ Some n → (m ≡ n) ↔ Climbs (IsIn hierarchy) above head.name
    way_back m n e f =
        let own = numbered hierarchy.numbers.items (place_of hierarchy.names head.name) m e in
        let other = numbered hierarchy.numbers.items (place_of hierarchy.names above) n f in
        let joins = is.joined.each head.name above own.0 other.0 m n own.1 other.1 own.2 other.2 in
        (λ same. (joins.0 same).1, λ back. joins.1 (Rises head there above above over (Stays above), back))

    pub no_way_back : number_of hierarchy above ≡ None → Climbs (IsIn hierarchy) above head.name → ⊥
    no_way_back none back =
        let missing = no_number above none in
        let same : above ≡ head.name = stays_missing (IsIn hierarchy) above head.name missing back in
        missing (head, there, sym same, tt)

pub eq_reported : {P : Type 0} (m n : ℕ) → ((m ≡ n) ↔ P) → IsTrue (nat_eq m n) ↔ P
eq_reported m n is = (λ t. is.0 (eqb-true m n t), λ p. eq-eqb m n (is.1 p))

pub false_reported : {P : Type 0} → (P → ⊥) → IsTrue false ↔ P
false_reported none = (λ t. absurd cc, λ p. absurd (none p))

-- ---- the answer

pub if_ok_then : {T E : Type 0} {P Q : T → Type 0} (r : Result T E) → ((x : T) → P x → Q x) → IfOk r P → IfOk r Q
if_ok_then (Ok x) f p = f x p
if_ok_then (Err e) f p = p

stands : (heads : List Head) (head : Head) → Contains (heads ++ library_heads) head ↔ Stands heads head
stands heads head = (
  λ m. Contains-append_cases heads library_heads head m,
  λ either. elim either [ inl m ↦ Contains-append_left heads library_heads head m | inr m ↦ Contains-append_right heads library_heads head m ],
)

kept_in_prefix : {X : Type 0} (xs ys : List X) (i : ℕ) (x : X) → slice_get xs i ≡ Some x → slice_get (xs ++ ys) i ≡ Some x
kept_in_prefix [] ys i x e = absurd cc
kept_in_prefix (z ∷ xs) ys zero x e = e
kept_in_prefix (z ∷ xs) ys (suc i) x e = kept_in_prefix xs ys i x e

pub judged : (heads all : List Head) (count : ℕ) (marks : List Bool) → all ≡ heads ++ library_heads → count ≡ length heads → AreMarks all count marks → AreJudged heads marks
judged heads all count marks is same marked =
    let reported : AreMarks (heads ++ library_heads) count marks = subst (λ (hs : List Head). AreMarks hs count marks) is marked in
    record {
      all = reported.all ∙ same;
      each = λ place head mark at there.
          let here = reported.each place head mark (kept_in_prefix heads library_heads place head at) there in
          let both = same_violate (Contains (heads ++ library_heads)) (Stands heads) (stands heads) head in
          (λ t. both.0 (here.0 t), λ bad. here.1 (both.1 bad));
    }

pub few_library : length library_heads < 2 ^ 30
unfolding library_heads
few_library = lit< tt

-- the set and the library are few
pub few_all : (heads all : List Head) → all ≡ heads ++ library_heads → length heads < 2 ^ 30 → length all < 2 ^ 31
few_all heads all is few = let e = ap length is ∙ length-append heads library_heads in let f = few_library in omega arith
