-- What is kept of texts and of constants, by their indexes.
use Rattle.std.proofs.Common.{◌≡◌, ℕ, zero, suc, ◌+◌, ◌<◌, ◌≤◌, ◌⊎◌, List, [], ◌∷◌, ◌++◌, map, take, length, get_or, replicate, set, length-set, Option, Some, None, slice_get, refl, sym, ap, subst, ◌∙◌, inl, inr}
use Rattle.std.specs.Prelude.{option_and_then}
use Rattle.std.specs.Option.{option_map}
use Rattle.std.proofs.lemmas.Option.{slice_get-map, slice_get-get_or}
use Rattle.std.proofs.lemmas.List.{take_more, take_all, map-append, length-replicate}
use Rattle.dj_pool.specs.declared.pool.Entry.{Entry}
use Rattle.dj_pool.specs.trusted.Pool.{Constant, text_at, IsLinked, IsPool}
use Rattle.dj_pool.specs.Views.{constant_of}
use Rattle.dj_model.specs.trusted.Program.{Program}
use Rattle.dj_link_rules.specs.Judged.{judged, AreJudged}
use Rattle.dj_member_index.specs.Numberings.{Numbering}
use Rattle.dj_link_rules.specs.Constants.{text_class, AreSeen, AreNumbersSeen}
use Rattle.dj_link_rules.specs.declared.named.NamedClass.{NamedClass}
use Rattle.dj_link_rules.specs.declared.named.NamedConstant.{NamedConstant}
use Rattle.dj_link_rules.proofs.PoolLinks.{linked}

-- ---- texts

abbrev no_class : Option NamedClass
no_class = None

none_at : (n i : ℕ) (class : NamedClass) → slice_get (replicate n no_class) i ≡ Some (Some class) → ⊥
none_at zero i class e = absurd cc
none_at (suc n) zero class e = absurd cc
none_at (suc n) (suc i) class e = none_at n i class e

pub none_seen : (program : Program) (pool : List Constant) (n : ℕ) → n ≡ length pool + 1 → AreSeen program pool (replicate n no_class)
none_seen program pool n count = record {
  all = length-replicate n no_class ∙ count;
  each = λ index class e. absurd (none_at n index class e);
}

none_there : (n i : ℕ) (number : Option ℕ) → slice_get (replicate n None) i ≡ Some (Some number) → ⊥
none_there zero i number e = absurd cc
none_there (suc n) zero number e = absurd cc
none_there (suc n) (suc i) number e = none_there n i number e

pub no_numbers : (directory : Numbering) (pool : List Constant) (n : ℕ) → AreNumbersSeen directory pool (replicate n None)
no_numbers directory pool n = record { each = λ index number e. absurd (none_there n index number e) }

set_at : {A : Type 0} (xs : List A) (i j : ℕ) (y z : A) → slice_get (set xs i y) j ≡ Some z → ((j ≡ i) × (y ≡ z)) ⊎ (slice_get xs j ≡ Some z)
set_at [] i j y z e = inr e
set_at (x ∷ xs) zero zero y z e = inl (refl, cc)
set_at (x ∷ xs) zero (suc j) y z e = inr e
set_at (x ∷ xs) (suc i) zero y z e = inr e
set_at (x ∷ xs) (suc i) (suc j) y z e = elim (set_at xs i j y z e) [ inl (here, same) ↦ inl (ap suc here, same) | inr old ↦ inr old ]

pub one_more_seen : (program : Program) (pool : List Constant) (seen : List (Option NamedClass)) (index at : ℕ) (class : NamedClass) → at ≡ index → Some class ≡ option_map (text_class program) (text_at pool index) → AreSeen program pool seen
    → AreSeen program pool (set seen at (Some class))
one_more_seen program pool seen index at class here is before = record {
  all = length-set seen at (Some class) ∙ before.all;
  each = λ other found e. elim (set_at seen at other (Some class) (Some found) e) [
    | inl (there, same) ↦ sym same ∙ is ∙ ap (λ (i : ℕ). option_map (text_class program) (text_at pool i)) (sym (there ∙ here))
    | inr old ↦ before.each other found old
  ];
}

-- ---- constants

abbrev kept_of : Program → List Constant → Entry → Option NamedConstant
kept_of program pool entry = Some (judged program pool (constant_of entry))

-- what is kept of these, after that of the index 0
abbrev pub all_kept : Program → List Constant → List Entry → List (Option NamedConstant)
all_kept program pool entries = None ∷ map (kept_of program pool) entries

pub one_more_kept : (program : Program) (pool : List Constant) (entries : List Entry) (i : ℕ) (d : Entry) (kept more : List (Option NamedConstant)) (constant : NamedConstant) → i < length entries
    → kept ≡ all_kept program pool (take i entries) → constant ≡ judged program pool (constant_of (get_or entries i d)) → more ≡ kept ++ Some constant ∷ []
    → more ≡ all_kept program pool (take (i + 1) entries)
one_more_kept program pool entries i d kept more constant within before is push =
    push
    ∙ ap (λ (xs : List (Option NamedConstant)). xs ++ Some constant ∷ []) before
    ∙ ap (λ (x : NamedConstant). None ∷ (map (kept_of program pool) (take i entries) ++ Some x ∷ [])) is
    ∙ ap (λ (xs : List (Option NamedConstant)). None ∷ xs) (sym (map-append (kept_of program pool) (take i entries) (get_or entries i d ∷ [])))
    ∙ ap (all_kept program pool) (sym (take_more entries i d within))

kept_is : (program : Program) (pool : List Constant) (o : Option Entry)
    → option_and_then (λ (k : Option NamedConstant). k) (option_map (kept_of program pool) o) ≡ option_map (judged program pool) (option_map constant_of o)
kept_is program pool None = refl
kept_is program pool (Some entry) = refl

kept_judged : (program : Program) (pool : List Constant) (entries : List Entry) → map constant_of entries ≡ pool → AreJudged program pool (all_kept program pool entries)
kept_judged program pool entries are zero = refl
kept_judged program pool entries are (suc i) =
    ap (option_and_then (λ (k : Option NamedConstant). k)) (slice_get-map (kept_of program pool) entries i)
    ∙ kept_is program pool (slice_get entries i)
    ∙ ap (option_map (judged program pool)) (sym (slice_get-map constant_of entries i) ∙ ap (λ (ks : List Constant). slice_get ks i) are)

pub all_judged : (program : Program) (pool : List Constant) (entries : List Entry) (i : ℕ) (kept : List (Option NamedConstant)) → map constant_of entries ≡ pool → length entries ≤ i
    → kept ≡ all_kept program pool (take i entries) → AreJudged program pool kept
all_judged program pool entries i kept are past is =
    subst (AreJudged program pool) (sym (is ∙ ap (all_kept program pool) (take_all i entries past))) (kept_judged program pool entries are)

pub entry_linked : (pool : List Constant) (entries : List Entry) (i : ℕ) (d : Entry) → IsPool pool → map constant_of entries ≡ pool → i < length entries → IsLinked pool (constant_of (get_or entries i d))
entry_linked pool entries i d valid are within =
    linked pool i (constant_of (get_or entries i d)) valid
    (ap (λ (ks : List Constant). slice_get ks i) (sym are) ∙ slice_get-map constant_of entries i ∙ ap (option_map constant_of) (slice_get-get_or entries i d within))
