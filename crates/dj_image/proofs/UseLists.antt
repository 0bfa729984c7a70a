-- Uses that are listed once each.
use Rattle.std.proofs.Common.{◌≡◌, ℕ, zero, suc, ◌+◌, ◌<◌, ◌≤◌, Bool, true, false, List, [], ◌∷◌, ◌++◌, take, length, get_or, set, replicate, Option, Some, None, refl, sym, ap, subst, ◌∙◌, inl, inr, arith, Contains, unwrap_or}
use Rattle.std.specs.Prelude.{slice_get}
use Rattle.std.specs.List.{flat_map, filter_map}
use Rattle.std.proofs.lemmas.List.{take_more, take_all, append_assoc, append-nil}
use Rattle.std.proofs.lemmas.Bool.{cases_eq}
use Rattle.std.proofs.lemmas.List.Elements.{Contains-append_left, Contains-push, Contains-push_cases, filter_map-append}
use Rattle.std.proofs.lemmas.Grind.{flat_map-append}
use Rattle.dj_labels.proofs.Lists.{slice_get-set_other}
use Rattle.dj_image.specs.declared.uses.Use.{Use}
use Rattle.dj_image.specs.declared.uses.Use.TheVariants as uses
use Rattle.dj_image.specs.Uses.{SameMembers, AreSeen, use_place, was_seen}

-- ---- lists of the same members

pub same_itself : {A : Type 0} (xs : List A) → SameMembers xs xs
same_itself xs = λ x. (λ m. m, λ m. m)

pub same_joined : {A : Type 0} (xs ys zs : List A) → SameMembers xs ys → SameMembers ys zs → SameMembers xs zs
same_joined xs ys zs f g = λ x. (λ m. (g x).0 ((f x).0 m), λ m. (f x).1 ((g x).1 m))

pub same_push : {A : Type 0} (xs ys : List A) (y : A) → SameMembers xs ys → SameMembers (xs ++ y ∷ []) (ys ++ y ∷ [])
same_push {A} xs ys y same = λ x. (
  λ m. elim (Contains-push_cases xs y x m) [ inl old ↦ Contains-append_left ys (y ∷ []) x ((same x).0 old) | inr e ↦ subst (λ (z : A). Contains (ys ++ y ∷ []) z) e (Contains-push ys y) ],
  λ m. elim (Contains-push_cases ys y x m) [ inl old ↦ Contains-append_left xs (y ∷ []) x ((same x).1 old) | inr e ↦ subst (λ (z : A). Contains (xs ++ y ∷ []) z) e (Contains-push xs y) ],
)

pub same_known : {A : Type 0} (xs ys : List A) (y : A) → SameMembers xs ys → Contains xs y → SameMembers xs (ys ++ y ∷ [])
same_known {A} xs ys y same known = λ x. (
  λ m. Contains-append_left ys (y ∷ []) x ((same x).0 m),
  λ m. elim (Contains-push_cases ys y x m) [ inl old ↦ (same x).1 old | inr e ↦ subst (λ (z : A). Contains xs z) e known ],
)

-- ---- what was seen

abbrev Apart : Use → Use → Type 0
Apart a b = use_place a ≡ use_place b → a ≡ b

place_once : (a b : Use) → Apart a b
place_once (uses.Base a) (uses.Base b) e = ap uses.Base (omega (arith, e))
place_once (uses.Base a) (uses.Itself b) e = absurd (omega (arith, e))
place_once (uses.Base a) (uses.Element b) e = absurd (omega (arith, e))
place_once (uses.Base a) (uses.Pushed b) e = absurd (omega (arith, e))
place_once (uses.Itself a) (uses.Base b) e = absurd (omega (arith, e))
place_once (uses.Itself a) (uses.Itself b) e = ap uses.Itself (omega (arith, e))
place_once (uses.Itself a) (uses.Element b) e = absurd (omega (arith, e))
place_once (uses.Itself a) (uses.Pushed b) e = absurd (omega (arith, e))
place_once (uses.Element a) (uses.Base b) e = absurd (omega (arith, e))
place_once (uses.Element a) (uses.Itself b) e = absurd (omega (arith, e))
place_once (uses.Element a) (uses.Element b) e = ap uses.Element (omega (arith, e))
place_once (uses.Element a) (uses.Pushed b) e = absurd (omega (arith, e))
place_once (uses.Pushed a) (uses.Base b) e = absurd (omega (arith, e))
place_once (uses.Pushed a) (uses.Itself b) e = absurd (omega (arith, e))
place_once (uses.Pushed a) (uses.Element b) e = absurd (omega (arith, e))
place_once (uses.Pushed a) (uses.Pushed b) e = ap uses.Pushed (omega (arith, e))

seen_by : (seen : List Bool) (place at : ℕ) (P : Type 0) → slice_get (set seen place true) at ≡ Some true → (at ≡ place → P) → (slice_get seen at ≡ Some true → P) → P
seen_by seen place at P e here there = elim (cases_eq at place) [ inl same ↦ here same | inr other ↦ there (sym (slice_get-set_other seen place at true other) ∙ e) ]

pub seen_more : (seen : List Bool) (listed : List Use) (one : Use) → AreSeen seen listed → AreSeen (set seen (use_place one) true) (listed ++ one ∷ [])
seen_more seen listed one are = λ u e. seen_by seen (use_place one) (use_place u) (Contains (listed ++ one ∷ []) u) e
    (λ same. subst (λ (z : Use). Contains (listed ++ one ∷ []) z) (sym (place_once u one same)) (Contains-push listed one))
    (λ old. Contains-append_left listed (one ∷ []) u (are u old))

pub seen_kept : (seen : List Bool) (listed : List Use) (one : Use) → AreSeen seen listed → Contains listed one → AreSeen (set seen (use_place one) true) listed
seen_kept seen listed one are known = λ u e. seen_by seen (use_place one) (use_place u) (Contains listed u) e
    (λ same. subst (λ (z : Use). Contains listed z) (sym (place_once u one same)) known)
    (λ old. are u old)

test_true : (o : Option Bool) → unwrap_or o false ≡ true → o ≡ Some true
test_true None e = absurd cc
test_true (Some b) e = ap Some e

pub listed_if_seen : (seen : List Bool) (listed : List Use) (one : Use) → AreSeen seen listed → was_seen seen (use_place one) ≡ true → Contains listed one
listed_if_seen seen listed one are e = are one (test_true (slice_get seen (use_place one)) e)

pub none_seen : (n : ℕ) (seen : List Bool) → seen ≡ replicate n false → AreSeen seen []
none_seen n seen is = λ u e. absurd (none n (use_place u) (ap (λ (xs : List Bool). slice_get xs (use_place u)) (sym is) ∙ e))
  where
    none : (n i : ℕ) → slice_get (replicate n false) i ≡ Some true → ⊥
    none zero i e = absurd cc
    none (suc n) zero e = absurd cc
    none (suc n) (suc i) e = none n i e

-- ---- lists that grow

pub filter_map_some : {A B : Type 0} (f : A → Option B) (xs : List A) (i : ℕ) (d : A) (b : B) → i < length xs → f (get_or xs i d) ≡ Some b → filter_map f (take (i + 1) xs) ≡ filter_map f (take i xs) ++ b ∷ []
filter_map_some f xs i d b within e = rw (take_more xs i d within, filter_map-append f (take i xs) (get_or xs i d ∷ []), e) refl

pub filter_map_none : {A B : Type 0} (f : A → Option B) (xs : List A) (i : ℕ) (d : A) → i < length xs → f (get_or xs i d) ≡ None → filter_map f (take (i + 1) xs) ≡ filter_map f (take i xs)
filter_map_none f xs i d within e = rw (take_more xs i d within, filter_map-append f (take i xs) (get_or xs i d ∷ []), e) (append-nil (filter_map f (take i xs)))

pub flat_map_more : {A B : Type 0} (f : A → List B) (xs : List A) (i : ℕ) (d : A) → i < length xs → flat_map f (take (i + 1) xs) ≡ flat_map f (take i xs) ++ f (get_or xs i d)
flat_map_more f xs i d within = rw (take_more xs i d within, flat_map-append f (take i xs) (get_or xs i d ∷ [])) (ap (λ ys. flat_map f (take i xs) ++ ys) (append-nil (f (get_or xs i d))))

-- ---- steps of the lists

pub noted : {A B : Type 0} (f : A → Option B) (xs : List A) (i : ℕ) (d : A) (one : B) (old listed new : List B) → i < length xs → f (get_or xs i d) ≡ Some one
    → ((all : List B) → SameMembers old all → SameMembers listed (all ++ filter_map f (take i xs)))
    → ((all : List B) → SameMembers listed all → SameMembers new (all ++ one ∷ []))
    → (all : List B) → SameMembers old all → SameMembers new (all ++ filter_map f (take (i + 1) xs))
noted {A} {B} f xs i d one old listed new within e before step all same =
    subst (λ (ys : List B). SameMembers new ys)
    (append_assoc all (filter_map f (take i xs)) (one ∷ []) ∙ ap (λ (ys : List B). all ++ ys) (sym (filter_map_some f xs i d one within e)))
    (step (all ++ filter_map f (take i xs)) (before all same))

pub passed : {A B : Type 0} (f : A → Option B) (xs : List A) (i : ℕ) (d : A) (old listed : List B) → i < length xs → f (get_or xs i d) ≡ None
    → ((all : List B) → SameMembers old all → SameMembers listed (all ++ filter_map f (take i xs)))
    → (all : List B) → SameMembers old all → SameMembers listed (all ++ filter_map f (take (i + 1) xs))
passed {A} {B} f xs i d old listed within e before all same =
    subst (λ (ys : List B). SameMembers listed (all ++ ys)) (sym (filter_map_none f xs i d within e)) (before all same)

pub all_noted : {A B : Type 0} (f : A → Option B) (xs : List A) (i : ℕ) (old listed : List B) → length xs ≤ i
    → ((all : List B) → SameMembers old all → SameMembers listed (all ++ filter_map f (take i xs)))
    → (all : List B) → SameMembers old all → SameMembers listed (all ++ filter_map f xs)
all_noted {A} {B} f xs i old listed past before all same = subst (λ (ys : List A). SameMembers listed (all ++ filter_map f ys)) (take_all i xs past) (before all same)

-- what was seen is listed, and the list has grown by these
abbrev pub Step : List Use → List Use → List Bool → List Use → Type 0
Step old listed seen more = AreSeen seen listed × ((all : List Use) → SameMembers old all → SameMembers listed (all ++ more))

pub some_step : {A : Type 0} (f : A → Option Use) (xs : List A) (i : ℕ) (d : A) (one : Use) (old listed new now : List Use) (seen flags : List Bool) → i < length xs → f (get_or xs i d) ≡ Some one
    → ((all : List Use) → SameMembers old all → SameMembers listed (all ++ filter_map f (take i xs)))
    → ((all : List Use) → SameMembers listed all → SameMembers new (all ++ one ∷ []))
    → AreSeen seen new → now ≡ new → flags ≡ seen
    → Step old now flags (filter_map f (take (i + 1) xs))
some_step f xs i d one old listed new now seen flags within e before step are now_is flags_is =
    subst (λ (ys : List Use). Step old ys flags (filter_map f (take (i + 1) xs))) (sym now_is)
    (subst (λ (s : List Bool). AreSeen s new) (sym flags_is) are, noted f xs i d one old listed new within e before step)

pub none_step : {A : Type 0} (f : A → Option Use) (xs : List A) (i : ℕ) (d : A) (old listed now : List Use) (seen flags : List Bool) → i < length xs → f (get_or xs i d) ≡ None
    → ((all : List Use) → SameMembers old all → SameMembers listed (all ++ filter_map f (take i xs)))
    → AreSeen seen listed → now ≡ listed → flags ≡ seen
    → Step old now flags (filter_map f (take (i + 1) xs))
none_step f xs i d old listed now seen flags within e before are now_is flags_is =
    subst (λ (ys : List Use). Step old ys flags (filter_map f (take (i + 1) xs))) (sym now_is)
    (subst (λ (s : List Bool). AreSeen s listed) (sym flags_is) are, passed f xs i d old listed within e before)

-- the same for pieces
abbrev pub Listed : List Use → List Bool → List Use → Type 0
Listed listed seen more = AreSeen seen listed × SameMembers listed more

pub piece_step : {A : Type 0} (f : A → List Use) (xs : List A) (i : ℕ) (d : A) (listed new now : List Use) (seen flags : List Bool) → i < length xs
    → SameMembers listed (flat_map f (take i xs))
    → ((all : List Use) → SameMembers listed all → SameMembers new (all ++ f (get_or xs i d)))
    → AreSeen seen new → now ≡ new → flags ≡ seen
    → Listed now flags (flat_map f (take (i + 1) xs))
piece_step f xs i d listed new now seen flags within before step are now_is flags_is =
    subst (λ (ys : List Use). Listed ys flags (flat_map f (take (i + 1) xs))) (sym now_is)
    (subst (λ (s : List Bool). AreSeen s new) (sym flags_is) are, subst (λ (ys : List Use). SameMembers new ys) (sym (flat_map_more f xs i d within)) (step (flat_map f (take i xs)) before))

pub no_piece_step : {A : Type 0} (f : A → List Use) (xs : List A) (i : ℕ) (d : A) (listed now : List Use) (seen flags : List Bool) → i < length xs
    → SameMembers listed (flat_map f (take i xs)) → f (get_or xs i d) ≡ [] → AreSeen seen listed → now ≡ listed → flags ≡ seen
    → Listed now flags (flat_map f (take (i + 1) xs))
no_piece_step f xs i d listed now seen flags within before e are now_is flags_is =
    piece_step f xs i d listed listed now seen flags within before (λ all same. subst (λ (ys : List Use). SameMembers listed ys) (sym (ap (λ (ys : List Use). all ++ ys) e ∙ append-nil all)) same) are now_is flags_is

pub none_listed : (n : ℕ) (seen : List Bool) (listed : List Use) → seen ≡ replicate n false → listed ≡ [] → Listed listed seen []
none_listed n seen listed none empty = subst (λ (ys : List Use). Listed ys seen []) (sym empty) (none_seen n seen none, same_itself [])

pub all_pieces : {A : Type 0} (f : A → List Use) (xs ys : List A) (i : ℕ) (listed : List Use) → ys ≡ xs → length ys ≤ i → SameMembers listed (flat_map f (take i xs)) → SameMembers listed (flat_map f xs)
all_pieces {A} f xs ys i listed same past is = subst (λ (zs : List A). SameMembers listed (flat_map f zs)) (take_all i xs (subst (λ (zs : List A). length zs ≤ i) same past)) is
