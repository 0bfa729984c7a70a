-- What adding lines does to those that were found.
use Rattle.std.proofs.Common.{◌≡◌, ℕ, zero, suc, ◌+◌, ◌<◌, ◌⊎◌, ◌↔◌, List, [], ◌∷◌, ◌++◌, map, take, length, get_or, refl, sym, ap, ◌∙◌, subst, inl, inr, arith, Contains, Result, Ok, Err, OnOk, IsPermutation, Bool, true, false}
use Rattle.std.specs.List.{dedup}
use Rattle.std.specs.Cmp.{IsEquivalence}
use Rattle.std.proofs.lemmas.List.{get_or-map, take_more, length-map}
use Rattle.std.proofs.lemmas.List.Elements.{Contains-append_left, Contains-append_right, Contains-append_cases, Contains-push, Contains-push_cases}
use Rattle.std.proofs.lemmas.List.Kept.{Contains-dedup, Contains-from_dedup}
use Rattle.std.proofs.lemmas.List.Sorted.{Contains-permutation, IsPermutation-sym}
use Rattle.dj_report.specs.declared.report.Violation.{Violation}
use Rattle.dj_report.specs.trusted.Lines.{AreExactly}
use Rattle.dj_report.specs.Lines.{Gains, Adds, IsLineAmong}
use Rattle.dj_report.specs.trusted.Order.{IsInOrder}
use Rattle.dj_report.proofs.Sorted.{contains_none}

-- ---- members of a list

pub contains_map : {X Y : Type 0} (f : X → Y) (xs : List X) (x : X) → Contains xs x → Contains (map f xs) (f x)
contains_map f xs x (k, lt, e) = (k, simp length-map lt, get_or-map f xs k x (f x) lt ∙ ap f e)

pub from_contains_map : {X Y : Type 0} (f : X → Y) (xs : List X) (y : Y) → Contains (map f xs) y → (x : X) × Contains xs x × (f x ≡ y)
from_contains_map f [] y (k, lt, e) = absurd (omega arith)
from_contains_map f (x ∷ xs) y (zero, lt, e) = (x, (0, omega arith, refl), e)
from_contains_map f (x ∷ xs) y (suc k, lt, e) =
    let more = from_contains_map f xs y (k, omega arith, e) in
    (more.0, Contains-append_right (x ∷ []) xs more.0 more.1, more.2)

-- ---- what is added

pub adds_same : {L : Type 0} (P Q : L → Type 0) (a b : List L) → ((v : L) → P v ↔ Q v) → Gains P a b → Gains Q a b
adds_same P Q a b same adds v = (
  λ m. elim ((adds v).0 m) [ inl old ↦ inl old | inr is ↦ inr ((same v).0 is) ],
  λ c. (adds v).1 (elim c [ inl old ↦ inl old | inr is ↦ inr ((same v).1 is) ]),
)

pub adds_nothing : {L : Type 0} (P : L → Type 0) (a : List L) → ((v : L) → P v → ⊥) → Gains P a a
adds_nothing P a none v = (λ m. inl m, λ c. elim c [ inl old ↦ old | inr is ↦ absurd (none v is) ])

pub adds_both : {L : Type 0} (P Q : L → Type 0) (a b c : List L) → Gains P a b → Gains Q b c → Gains (λ v. P v ⊎ Q v) a c
adds_both P Q a b c first second v = (
  λ m. elim ((second v).0 m) [
    | inl mid ↦ elim ((first v).0 mid) [ inl old ↦ inl old | inr is ↦ inr (inl is) ]
    | inr is ↦ inr (inr is)
  ],
  λ any. elim any [
    | inl old ↦ (second v).1 (inl ((first v).1 (inl old)))
    | inr is ↦ elim is [ inl p ↦ (second v).1 (inl ((first v).1 (inr p))) | inr q ↦ (second v).1 (inr q) ]
  ],
)

-- where a fact holds
pub adds_when : {L : Type 0} (H : Type 0) (P : L → Type 0) (a b : List L) → H → Gains P a b → Gains (λ v. H × P v) a b
adds_when H P a b h = adds_same P (λ v. H × P v) a b (λ v. (λ p. (h, p), λ hp. hp.1))

-- the members of a list, appended as a list that has the same
pub adds_members : {L : Type 0} (a b c : List L) → ((v : L) → Contains c v ↔ Contains b v) → Gains (λ v. Contains b v) a (a ++ c)
adds_members a b c members v = (
  λ m. elim (Contains-append_cases a c v m) [ inl old ↦ inl old | inr new ↦ inr ((members v).0 new) ],
  λ any. elim any [ inl old ↦ Contains-append_left a c v old | inr is ↦ Contains-append_right a c v ((members v).1 is) ],
)

-- what was gathered apart, and is then added
pub adds_part : {L : Type 0} (P : L → Type 0) (a b c : List L) → Gains P [] b → Gains (λ v. Contains b v) a c → Gains P a c
adds_part P a b c gathered added =
    adds_same (λ v. Contains b v) P a c (λ v. (
      λ m. elim ((gathered v).0 m) [ inl none ↦ absurd (contains_none v none) | inr is ↦ is ],
      λ is. (gathered v).1 (inr is),
    )) added

-- a list that was put in order and then lost its repeats has the same members
pub once_members : {L : Type 0} {E : L → L → Bool} → IsEquivalence E → ((x y : L) → E x y ≡ true → x ≡ y) → (a b c : List L) → IsPermutation a b → c ≡ dedup E b → (v : L) → Contains c v ↔ Contains a v
once_members {L} {E} laws same a b c moved is v =
    rw is (
      λ m. Contains-permutation b a v (IsPermutation-sym a b moved) (Contains-from_dedup E b v m),
      λ m. Contains-dedup laws same b v (Contains-permutation a b v moved m),
    )

-- ---- what is added for parts

-- `IsLineAmong` for values of any type
abbrev pub IsAmong : {X L : Type 0} → (X → L → Type 0) → List X → L → Type 0
IsAmong {X} IsOwn parts v = (part : X) × Contains parts part × IsOwn part v

module _ {X L : Type 0} (IsOwn : X → L → Type 0) where
  pub among_none : (v : L) → IsAmong IsOwn [] v → ⊥
  among_none v (part, m, is) = contains_none part m

  pub among_one_more : (parts : List X) (x : X) (v : L) → (IsAmong IsOwn parts v ⊎ IsOwn x v) ↔ IsAmong IsOwn (parts ++ x ∷ []) v
  among_one_more parts x v = (
    λ any. elim any [
      | inl old ↦ (old.0, Contains-append_left parts (x ∷ []) old.0 old.1, old.2)
      | inr is ↦ (x, Contains-push parts x, is)
    ],
    λ all. elim (Contains-push_cases parts x all.0 all.1) [
      | inl old ↦ inl (all.0, old, all.2)
      | inr e ↦ inr (subst (λ (y : X). IsOwn y v) (sym e) all.2)
    ],
  )

  pub adds_none_yet : (parts : List X) (a : List L) → Gains (IsAmong IsOwn (take 0 parts)) a a
  adds_none_yet parts a = adds_nothing (IsAmong IsOwn (take 0 parts)) a among_none

  pub adds_one_more : (parts : List X) (i : ℕ) (d : X) (a b c : List L) → i < length parts → Gains (IsAmong IsOwn (take i parts)) a b → Gains (IsOwn (get_or parts i d)) b c → Gains (IsAmong IsOwn (take (i + 1) parts)) a c
  adds_one_more parts i d a b c lt before this =
      let more : Gains (IsAmong IsOwn (take i parts ++ get_or parts i d ∷ [])) a c =
      adds_same (λ v. IsAmong IsOwn (take i parts) v ⊎ IsOwn (get_or parts i d) v) (IsAmong IsOwn (take i parts ++ get_or parts i d ∷ [])) a c
      (among_one_more (take i parts) (get_or parts i d)) (adds_both (IsAmong IsOwn (take i parts)) (IsOwn (get_or parts i d)) a b c before this) in
      subst (λ (xs : List X). Gains (IsAmong IsOwn xs) a c) (sym (take_more parts i d lt)) more

  pub adds_read : (parts : List X) (i : ℕ) (x : X) (a b c : List L) → i < length parts → x ≡ get_or parts i x → Gains (IsAmong IsOwn (take i parts)) a b → Gains (IsOwn x) b c → Gains (IsAmong IsOwn (take (i + 1) parts)) a c
  adds_read parts i x a b c lt is before this = adds_one_more parts i x a b c lt before (subst (λ (y : X). Gains (IsOwn y) b c) is this)

-- the parts, seen
pub among_map : {X Y : Type 0} (f : X → Y) (IsOwn : Y → Violation → Type 0) (xs : List X) (v : Violation) → IsLineAmong (λ x. IsOwn (f x)) xs v ↔ IsLineAmong IsOwn (map f xs) v
among_map f IsOwn xs v = (
  λ all. (f all.0, contains_map f xs all.0 all.1, all.2),
  λ all. let seen = from_contains_map f xs all.0 all.1 in (seen.0, seen.1, subst (λ y. IsOwn y v) (sym seen.2) all.2),
)

-- what was found from nothing on, and then put in order
pub exactly_found : (IsLine : Violation → Type 0) (found lines : List Violation) → Adds IsLine [] found → IsInOrder lines → ((v : Violation) → Contains lines v ↔ Contains found v) → AreExactly IsLine lines
exactly_found IsLine found lines adds in_order members = record {
  in_order = in_order;
  all = λ v. (
    λ m. elim ((adds v).0 ((members v).0 m)) [ inl none ↦ absurd (contains_none v none) | inr is ↦ is ],
    λ is. (members v).1 ((adds v).1 (inr is)),
  );
}

-- the same lines, by another condition
pub exactly_same : (P Q : Violation → Type 0) (lines : List Violation) → ((v : Violation) → P v ↔ Q v) → AreExactly P lines → AreExactly Q lines
exactly_same P Q lines same exact = record {
  in_order = exact.in_order;
  all = λ v. (λ m. (same v).0 ((exact.all v).0 m), λ q. (exact.all v).1 ((same v).1 q));
}

-- ---- under the answer of a call

pub not_both : (b : Bool) → b ≡ true → b ≡ false → ⊥
not_both true t f = absurd cc
not_both false t f = absurd cc

pub on_ok : {T E A B : Type 0} (r : Result T E) → (A → B) → OnOk r A → OnOk r B
on_ok (Ok x) f a = f a
on_ok (Err e) f a = tt
