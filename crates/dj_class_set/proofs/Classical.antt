-- What cannot fail to hold, and lists of all that meet a condition.
use Rattle.std.proofs.Common.{◌≡◌, ◌⊎◌, ◌↔◌, List, [], ◌∷◌, ◌++◌, Contains, sym, subst, inl, inr}
use Rattle.std.proofs.lemmas.List.Elements.{Contains-append_left, Contains-append_right, Contains-append_cases}
use Rattle.dj_report.proofs.Sorted.{contains_first, contains_later, contains_none, contains_cases}

-- ---- what cannot fail to hold

abbrev pub NotNot : Type 0 → Type 0
NotNot P = (P → ⊥) → ⊥

pub unit : {P : Type 0} → P → NotNot P
unit p none = none p

pub bind : {P Q : Type 0} → NotNot P → (P → NotNot Q) → NotNot Q
bind p then none = p (λ x. then x none)

pub so : {P Q : Type 0} → NotNot P → (P → Q) → NotNot Q
so p then none = p (λ x. none (then x))

pub decide : (P : Type 0) → NotNot (P ⊎ (P → ⊥))
decide P none = none (inr (λ p. none (inl p)))

-- ---- lists of all that meet a condition

module _ {X : Type 0} where
  -- the list has exactly those of which the condition holds
  abbrev pub Lists : (X → Type 0) → List X → Type 0
  Lists P xs = (x : X) → Contains xs x ↔ P x

  abbrev pub IsFinite : (X → Type 0) → Type 0
  IsFinite P = NotNot ((xs : List X) × Lists P xs)

  pub finite_same : (P Q : X → Type 0) → ((x : X) → P x → Q x) → ((x : X) → Q x → P x) → IsFinite P → IsFinite Q
  finite_same P Q there back finite = so finite (λ l. (l.0, λ x. (λ m. there x ((l.1 x).0 m), λ q. (l.1 x).1 (back x q))))

  pub finite_none : (P : X → Type 0) → ((x : X) → P x → ⊥) → IsFinite P
  finite_none P none = unit ([], λ x. (λ m. absurd (contains_none x m), λ p. absurd (none x p)))

  pub finite_one : (x : X) → IsFinite (λ y. y ≡ x)
  finite_one x = unit (
    x ∷ [],
    λ y. (
      λ m. elim (contains_cases x [] y m) [ inl e ↦ sym e | inr none ↦ absurd (contains_none y none) ],
      λ e. subst (λ z. Contains (x ∷ []) z) (sym e) (contains_first x []),
    ),
  )

  -- the one, where a fact holds
  pub finite_if : (H : Type 0) (x : X) → IsFinite (λ y. H × (y ≡ x))
  finite_if H x = bind (decide H) (elim [
    | inl h ↦ finite_same (λ y. y ≡ x) (λ y. H × (y ≡ x)) (λ y e. (h, e)) (λ y he. he.1) (finite_one x)
    | inr not ↦ finite_none (λ y. H × (y ≡ x)) (λ y he. not he.0)
  ])

  pub finite_either : (P Q : X → Type 0) → IsFinite P → IsFinite Q → IsFinite (λ x. P x ⊎ Q x)
  finite_either P Q p q = bind p (λ a. so q (λ b. (
    a.0 ++ b.0,
    λ x. (
      λ m. elim (Contains-append_cases a.0 b.0 x m) [ inl first ↦ inl ((a.1 x).0 first) | inr second ↦ inr ((b.1 x).0 second) ],
      λ any. elim any [
        | inl is ↦ Contains-append_left a.0 b.0 x ((a.1 x).1 is)
        | inr is ↦ Contains-append_right a.0 b.0 x ((b.1 x).1 is)
      ],
    ),
  )))

-- those of all parts
pub finite_among : {X Y : Type 0} (IsOf : Y → X → Type 0) (parts : List Y) → ((y : Y) → IsFinite (IsOf y)) → IsFinite (λ x. (y : Y) × Contains parts y × IsOf y x)
finite_among {X} {Y} IsOf [] each = finite_none (λ x. (y : Y) × Contains [] y × IsOf y x) (λ x p. contains_none p.0 p.1)
finite_among {X} {Y} IsOf (part ∷ parts) each =
    finite_same (λ x. IsOf part x ⊎ ((y : Y) × Contains parts y × IsOf y x)) (λ x. (y : Y) × Contains (part ∷ parts) y × IsOf y x)
    (λ x any. elim any [ inl is ↦ (part, contains_first part parts, is) | inr more ↦ (more.0, contains_later part parts more.0 more.1, more.2) ])
    (λ x p. elim (contains_cases part parts p.0 p.1) [
      | inl e ↦ inl (subst (λ (y : Y). IsOf y x) (sym e) p.2)
      | inr m ↦ inr (p.0, m, p.2)
    ])
    (finite_either (IsOf part) (λ x. (y : Y) × Contains parts y × IsOf y x) (each part) (finite_among IsOf parts each))
