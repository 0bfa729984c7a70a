-- What is known of names, with a class more.
use Rattle.std.proofs.Common.{◌≡◌, ◌≢◌, ◌↔◌, ℕ, suc, zero, Bool, true, false, not, ◌||◌, IsTrue, List, [], ◌∷◌, ◌++◌, length, Option, Some, None, Bor, cond, refl, sym, ap, ◌∙◌, subst, inl, inr, Contains, arith}
use Rattle.std.specs.Prelude.{◌⊎◌, ⊤, slice_get, bytes_eq}
use Rattle.std.proofs.lemmas.Bool.{or_cases, or_left, or_right, false_from_ne_true, not-true, not_from_false, both_ways}
use Rattle.std.specs.Ordering.{nat_cmp}
use Rattle.std.specs.Cmp.Lexicographic.{slice_cmp}
use Rattle.std.specs.Map.{lookup}
use Rattle.std.specs.BTreeMap.{is_at, UpdatesBy}
use Rattle.std.proofs.lemmas.Slice.Eq.{bytes_eq-Decides}
use Rattle.std.proofs.lemmas.Map.Text.{btree_map_updates_str}
use Rattle.std.proofs.lemmas.List.Elements.{Contains-append_left, Contains-push, Contains-push_cases}
use Rattle.dj_library.specs.trusted.Heads.{Head}
use Rattle.dj_hierarchy_rule.specs.declared.names.Known.{Known}
use Rattle.dj_hierarchy_rule.specs.trusted.Hierarchy.{HasSuch, IsMissing, IsInterface, IsFinal}
use Rattle.dj_hierarchy_rule.specs.Names.{IsNamedAt, IsKnownAs, IsKnown, Names, known_at, AreNames, widened_known}

-- ---- lists

module _ {X : Type 0} where
  pub get_kept : (xs : List X) (y : X) (k : ℕ) (x : X) → slice_get xs k ≡ Some x → slice_get (xs ++ y ∷ []) k ≡ Some x
  get_kept [] y k x e = absurd cc
  get_kept (z ∷ xs) y zero x e = e
  get_kept (z ∷ xs) y (suc k) x e = get_kept xs y k x e

  pub get_last : (xs : List X) (y : X) → slice_get (xs ++ y ∷ []) (length xs) ≡ Some y
  get_last [] y = refl
  get_last (z ∷ xs) y = get_last xs y

-- ---- flags

not_flag : {A : Type 0} (b : Bool) → (IsTrue b ↔ A) → IsTrue (not b) ↔ (A → ⊥)
not_flag b is = (λ t a. both_ways b (not-true b t) (is.1 a), λ none. not_from_false b (false_from_ne_true b (λ t. none (is.0 t))))

such_kept : (heads : List Head) (head : Head) (P : Head → Type 0) (name : List ℕ) → HasSuch (Contains heads) P name → HasSuch (Contains (heads ++ head ∷ [])) P name
such_kept heads head P name (h, there, named, p) = (h, Contains-append_left heads (head ∷ []) h there, named, p)

such_last : (heads : List Head) (head : Head) (P : Head → Type 0) → P head → HasSuch (Contains (heads ++ head ∷ [])) P head.name
such_last heads head P p = (head, Contains-push heads head, refl, p)

such_cases : (heads : List Head) (head : Head) (P : Head → Type 0) (name : List ℕ) → HasSuch (Contains (heads ++ head ∷ [])) P name → HasSuch (Contains heads) P name ⊎ ((head.name ≡ name) × P head)
such_cases heads head P name (h, there, named, p) =
    elim (Contains-push_cases heads head h there) [
      | inl old ↦ inl (h, old, named, p)
      | inr e ↦ inr (ap (λ (x : Head). x.name) e ∙ named, subst P (sym e) p)
    ]

module _ (heads : List Head) (head : Head) (P : Head → Type 0) where
  first_flag : (b : Bool) → IsMissing (Contains heads) head.name → (IsTrue b ↔ P head) → IsTrue b ↔ HasSuch (Contains (heads ++ head ∷ [])) P head.name
  first_flag b missing is = (
    λ t. such_last heads head P (is.0 t),
    λ such. elim (such_cases heads head P head.name such) [ inl old ↦ absurd (missing (old.0, old.1, old.2, tt)) | inr new ↦ is.1 new.1 ],
  )

  later_flag : (old b : Bool) → (IsTrue old ↔ HasSuch (Contains heads) P head.name) → (IsTrue b ↔ P head) → IsTrue (old || b) ↔ HasSuch (Contains (heads ++ head ∷ [])) P head.name
  later_flag old b had is = (
    λ t. elim (or_cases old b t) [ inl o ↦ such_kept heads head P head.name (had.0 o) | inr n ↦ such_last heads head P (is.0 n) ],
    λ such. elim (such_cases heads head P head.name such) [ inl o ↦ or_left old b (had.1 o) | inr new ↦ or_right old b (is.1 new.1) ],
  )

  kept_flag : (name : List ℕ) (b : Bool) → head.name ≢ name → (IsTrue b ↔ HasSuch (Contains heads) P name) → IsTrue b ↔ HasSuch (Contains (heads ++ head ∷ [])) P name
  kept_flag name b differs had = (
    λ t. such_kept heads head P name (had.0 t),
    λ such. elim (such_cases heads head P name such) [ inl o ↦ had.1 o | inr new ↦ absurd (differs new.0) ],
  )

-- ---- a class more

place_kept : (heads : List Head) (head : Head) (place : ℕ) (name : List ℕ) → IsNamedAt heads place name → IsNamedAt (heads ++ head ∷ []) place name
place_kept heads head place name (h, at, named) = (h, get_kept heads head place h at, named)

pub known_more : (heads : List Head) (head : Head) (known : Option Known) (i f : Bool) → IsKnown heads head.name known → (IsTrue i ↔ IsInterface head) → (IsTrue f ↔ IsFinal head)
    → IsKnownAs (heads ++ head ∷ []) head.name (widened_known known (length heads) i f)
known_more heads head None i f missing is_interface is_final = record {
  place = (head, get_last heads head, refl);
  interfaces = first_flag heads head IsInterface i missing is_interface;
  classes = first_flag heads head (λ h. IsInterface h → ⊥) (not i) missing (not_flag i is_interface);
  finals = first_flag heads head IsFinal f missing is_final;
}
known_more heads head (Some known) i f had is_interface is_final = record {
  place = place_kept heads head known.place head.name had.place;
  interfaces = later_flag heads head IsInterface known.has_interface i had.interfaces is_interface;
  classes = later_flag heads head (λ h. IsInterface h → ⊥) known.has_class (not i) had.classes (not_flag i is_interface);
  finals = later_flag heads head IsFinal known.has_final f had.finals is_final;
}

pub known_kept : (heads : List Head) (head : Head) (name : List ℕ) (known : Option Known) → head.name ≢ name → IsKnown heads name known → IsKnown (heads ++ head ∷ []) name known
known_kept heads head name None differs missing = λ such. elim (such_cases heads head (λ _. ⊤) name such) [ inl o ↦ missing o | inr new ↦ differs new.0 ]
known_kept heads head name (Some known) differs had = record {
  place = place_kept heads head known.place name had.place;
  interfaces = kept_flag heads head IsInterface name known.has_interface differs had.interfaces;
  classes = kept_flag heads head (λ h. IsInterface h → ⊥) name known.has_class differs had.classes;
  finals = kept_flag heads head IsFinal name known.has_final differs had.finals;
}

-- what is known of each name, with a class more
pub names_more : (heads : List Head) (head : Head) (m n : Names) (known : Option Known) (place : ℕ) (i f : Bool) (more : Known) → AreNames heads m → known ≡ known_at m head.name → place ≡ length heads
    → more ≡ widened_known known place i f → UpdatesBy (λ x y. slice_cmp nat_cmp x.now y.now) (λ key. slice_cmp nat_cmp head.name key.now) m n (Some more) → (IsTrue i ↔ IsInterface head) → (IsTrue f ↔ IsFinal head)
    → AreNames (heads ++ head ∷ []) n
names_more heads head m n known place i f more had known_is place_is more_is updates is_interface is_final = record { each = each }
  where
    so : more ≡ widened_known (known_at m head.name) (length heads) i f
    so = more_is ∙ ap (λ (k : Option Known). widened_known k place i f) known_is ∙ ap (λ (p : ℕ). widened_known (known_at m head.name) p i f) place_is

    by_test : (name : List ℕ) (test : Bool) → bytes_eq head.name name ≡ test → known_at n name ≡ cond test (Some more) (known_at m name) → IsKnown (heads ++ head ∷ []) name (known_at n name)
    by_test name true same e =
        let is : head.name ≡ name = (bytes_eq-Decides head.name name).0 same in
        let widened : IsKnownAs (heads ++ head ∷ []) head.name more =
        subst (λ (k : Known). IsKnownAs (heads ++ head ∷ []) head.name k) (sym so) (known_more heads head (known_at m head.name) i f (had.each head.name) is_interface is_final) in
        subst (IsKnown (heads ++ head ∷ []) name) (sym e) (subst (λ (t : List ℕ). IsKnownAs (heads ++ head ∷ []) t more) is widened)
    by_test name false differs e =
        let apart : head.name ≢ name = λ same. both_ways (bytes_eq head.name name) differs ((bytes_eq-Decides head.name name).1 same) in
        subst (IsKnown (heads ++ head ∷ []) name) (sym e) (known_kept heads head name (known_at m name) apart (had.each name))

    each : (name : List ℕ) → IsKnown (heads ++ head ∷ []) name (known_at n name)
    each name = by_test name (bytes_eq head.name name) refl (btree_map_updates_str head.name m n (Some more) updates name)

pub no_names : (m : Names) → m.entries ≡ [] → AreNames [] m
no_names m empty = record { each = λ name. subst (IsKnown [] name) (sym (ap (lookup (is_at (λ (key : Bor (List ℕ)). slice_cmp nat_cmp name key.now))) empty)) (none name) }
  where
    none : (name : List ℕ) → IsMissing (Contains []) name
    none name such = let h = such.1.1 in omega arith
