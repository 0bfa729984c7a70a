-- Lists side by side, and by places.
use Rattle.std.proofs.Common.{◌≡◌, ℕ, zero, suc, ◌+◌, ◌<◌, ◌≤◌, List, [], ◌∷◌, ◌++◌, map, take, length, get_or, zero-add, Option, Some, None, Contains, refl, sym, ap, ◌∙◌, subst, arith}
use Rattle.std.specs.Prelude.{slice_get, Result, Ok, Err, IfOk}
use Rattle.std.proofs.lemmas.List.{take_all, map_more}
use Rattle.std.proofs.lemmas.Option.{same_Some}
use Rattle.dj_program.specs.trusted.Programs.{AreSideBySide}

-- ---- side by side

pub side_more : {A B : Type 0} (Stand : A → B → Type 0) (xs : List A) (ys : List B) (a : A) (b : B) → AreSideBySide Stand xs ys → Stand a b → AreSideBySide Stand (xs ++ a ∷ []) (ys ++ b ∷ [])
side_more Stand [] [] a b each stands = (stands, tt)
side_more Stand [] (y ∷ ys) a b each stands = absurd each
side_more Stand (x ∷ xs) [] a b each stands = absurd each
side_more Stand (x ∷ xs) (y ∷ ys) a b each stands = (each.0, side_more Stand xs ys a b each.1 stands)

-- with one more of the items that a list shows
pub side_next : {V A B : Type 0} (see : V → A) (Stand : A → B → Type 0) (views : List V) (i : ℕ) (view : V) (ys old : List B) (b : B) → i < length views → view ≡ get_or views i view
    → AreSideBySide Stand (map see (take i views)) old → Stand (see view) b → ys ≡ old ++ b ∷ [] → AreSideBySide Stand (map see (take (i + 1) views)) ys
side_next {V} {A} {B} see Stand views i view ys old b lt is each stands more =
    let last : map see (take i views) ++ see view ∷ [] ≡ map see (take (i + 1) views) =
    ap (λ (v : V). map see (take i views) ++ see v ∷ []) is ∙ sym (map_more see views i view lt) in
    subst (λ (xs : List A). AreSideBySide Stand xs ys) last (subst (AreSideBySide Stand (map see (take i views) ++ see view ∷ [])) (sym more) (side_more Stand (map see (take i views)) old (see view) b each stands))

pub side_all : {V A B : Type 0} (see : V → A) (Stand : A → B → Type 0) (views : List V) (i : ℕ) (ys : List B) → length views ≤ i → AreSideBySide Stand (map see (take i views)) ys → AreSideBySide Stand (map see views) ys
side_all {V} {A} {B} see Stand views i ys le each = subst (λ (vs : List V). AreSideBySide Stand (map see vs) ys) (take_all i views le) each

-- ---- places

pub place_in_prefix : {A : Type 0} (xs ys : List A) (k : ℕ) (v : A) → slice_get xs k ≡ Some v → slice_get (xs ++ ys) k ≡ Some v
place_in_prefix [] ys k v e = absurd cc
place_in_prefix (x ∷ xs) ys zero v e = e
place_in_prefix (x ∷ xs) ys (suc k) v e = place_in_prefix xs ys k v e

pub place_behind : {A : Type 0} (xs ys : List A) (k : ℕ) (v : A) → slice_get ys k ≡ Some v → slice_get (xs ++ ys) (length xs + k) ≡ Some v
place_behind [] ys k v e = ap (slice_get ys) (zero-add k) ∙ e
place_behind (x ∷ xs) ys k v e = ap (slice_get (x ∷ xs ++ ys)) (let h : length (x ∷ xs) + k ≡ suc (length xs + k) = omega arith in h) ∙ place_behind xs ys k v e

pub place_mapped : {A B : Type 0} (f : A → B) (xs : List A) (k : ℕ) (v : A) → slice_get xs k ≡ Some v → slice_get (map f xs) k ≡ Some (f v)
place_mapped f [] k v e = absurd cc
place_mapped f (x ∷ xs) zero v e = ap Some (ap f (same_Some x v e))
place_mapped f (x ∷ xs) (suc k) v e = place_mapped f xs k v e

-- ---- what holds of an answer

pub ok_with : {T E : Type 0} (r : Result T E) (P Q : T → Type 0) → ((x : T) → P x → Q x) → IfOk r P → IfOk r Q
ok_with (Ok x) P Q to p = to x p
ok_with (Err e) P Q to p = tt
