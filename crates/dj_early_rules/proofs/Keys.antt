-- Texts in sets of slices.
use Rattle.std.proofs.Common.{◌≡◌, ℕ, ◌↔◌, true, false, ◌||◌, List, [], ◌∷◌, map, Bor, refl, sym, ap, ◌∙◌, subst, inl, inr, Contains, IsTrue, Ordering}
use Rattle.std.specs.declared.cmp.Ordering.TheVariants.{Less, Equal, Greater}
use Rattle.std.specs.Cmp.Lexicographic.{slice_cmp}
use Rattle.std.proofs.lemmas.Cmp.{nat_list_cmp_total, tied_itself}
use Rattle.std.specs.FinMap.{slice_cmp-IsAntisymmetric, nat_cmp-IsAntisymmetric}
use Rattle.std.specs.Ordering.{nat_cmp, is_eq}
use Rattle.std.specs.BTreeSet.{BTreeSet, insert_key}
use Rattle.std.specs.BTreeMap.{is_at}
use Rattle.std.specs.List.{list_any}
use Rattle.dj_early_rules.specs.Doubles.{texts_in}
use Rattle.dj_report.specs.Lines.{Gains}
use Rattle.dj_report.proofs.Sorted.{contains_first, contains_later, contains_none, contains_cases}

abbrev Text : Type 0
Text = Bor (List ℕ)

abbrev pub now_of : Text → List ℕ
now_of name = name.now

gains_prefix : (y : List ℕ) (xs : List (List ℕ)) → Gains (λ t. t ≡ y) xs (y ∷ xs)
gains_prefix y xs t = (
  λ m. elim (contains_cases y xs t m) [ inl e ↦ inr (sym e) | inr old ↦ inl old ],
  λ any. elim any [ inl old ↦ contains_later y xs t old | inr e ↦ subst (λ (z : List ℕ). Contains (y ∷ xs) z) (sym e) (contains_first y xs) ],
)

gains_same : (y x : List ℕ) (xs : List (List ℕ)) → y ≡ x → Gains (λ t. t ≡ y) (x ∷ xs) (x ∷ xs)
gains_same y x xs e t = (
  λ m. inl m,
  λ any. elim any [ inl old ↦ old | inr is ↦ subst (λ (z : List ℕ). Contains (x ∷ xs) z) (sym (is ∙ e)) (contains_first x xs) ],
)

gains_later : (P : List ℕ → Type 0) (x : List ℕ) (a b : List (List ℕ)) → Gains P a b → Gains P (x ∷ a) (x ∷ b)
gains_later P x a b more t = (
  λ m. elim (contains_cases x b t m) [
    | inl e ↦ inl (subst (λ (z : List ℕ). Contains (x ∷ a) z) e (contains_first x a))
    | inr l ↦ elim ((more t).0 l) [ inl old ↦ inl (contains_later x a t old) | inr p ↦ inr p ]
  ],
  λ any. elim any [
    | inl old ↦ elim (contains_cases x a t old) [
      | inl e ↦ subst (λ (z : List ℕ). Contains (x ∷ b) z) e (contains_first x b)
      | inr l ↦ contains_later x b t ((more t).1 (inl l))
    ]
    | inr p ↦ contains_later x b t ((more t).1 (inr p))
  ],
)

-- the order of slices
abbrev pub text_order : Text → Text → Ordering
text_order x y = slice_cmp nat_cmp x.now y.now

same_text : (x y : Text) → text_order x y ≡ Equal → x.now ≡ y.now
same_text x y e = slice_cmp-IsAntisymmetric nat_cmp-IsAntisymmetric x.now y.now e

-- ---- a name more

by_order : (x : Text) (xs : List Text) (k : Text) (r : Ordering) → text_order k x ≡ r → Gains (λ t. t ≡ k.now) (map now_of xs) (map now_of (insert_key text_order xs k))
    → Gains (λ t. t ≡ k.now) (map now_of (x ∷ xs)) (map now_of (insert_key text_order (x ∷ xs) k))
by_order x xs k Less e rest = rw e (gains_prefix k.now (x.now ∷ map now_of xs))
by_order x xs k Equal e rest = rw e (gains_same k.now x.now (map now_of xs) (same_text k x e))
by_order x xs k Greater e rest = rw e (gains_later (λ t. t ≡ k.now) x.now (map now_of xs) (map now_of (insert_key text_order xs k)) rest)

inserted : (xs : List Text) (k : Text) → Gains (λ t. t ≡ k.now) (map now_of xs) (map now_of (insert_key text_order xs k))
inserted [] k = gains_prefix k.now []
inserted (x ∷ xs) k = by_order x xs k (text_order k x) refl (inserted xs k)

pub noted : (names more : BTreeSet Text) (k : Text) → more.keys ≡ insert_key text_order names.keys k → Gains (λ t. t ≡ k.now) (texts_in names) (texts_in more)
noted names more k keys = subst (λ (ks : List Text). Gains (λ t. t ≡ k.now) (map now_of names.keys) (map now_of ks)) (sym keys) (inserted names.keys k)

-- ---- a name that is there

apart : (x k : Text) (r : Ordering) → text_order k x ≡ r → is_eq r ≡ false → x.now ≡ k.now → ⊥
apart x k r e differs same =
    let tied : text_order k x ≡ Equal = ap (λ (t : List ℕ). slice_cmp nat_cmp k.now t) same ∙ tied_itself nat_list_cmp_total k.now in
    let differs' : true ≡ false = ap is_eq (sym tied ∙ e) ∙ differs in
    absurd cc

found_by : (x : Text) (xs : List Text) (k : Text) (r : Ordering) → text_order k x ≡ r → (IsTrue (list_any (is_at (text_order k)) xs) ↔ Contains (map now_of xs) k.now)
    → IsTrue (is_eq r || list_any (is_at (text_order k)) xs) ↔ Contains (x.now ∷ map now_of xs) k.now
found_by x xs k Less e rest = (
  λ t. contains_later x.now (map now_of xs) k.now (rest.0 t),
  λ m. elim (contains_cases x.now (map now_of xs) k.now m) [ inl same ↦ absurd (apart x k Less e refl same) | inr later ↦ rest.1 later ],
)
found_by x xs k Equal e rest = (
  λ t. subst (λ (z : List ℕ). Contains (x.now ∷ map now_of xs) z) (sym (same_text k x e)) (contains_first x.now (map now_of xs)),
  λ m. refl,
)
found_by x xs k Greater e rest = (
  λ t. contains_later x.now (map now_of xs) k.now (rest.0 t),
  λ m. elim (contains_cases x.now (map now_of xs) k.now m) [ inl same ↦ absurd (apart x k Greater e refl same) | inr later ↦ rest.1 later ],
)

pub found : (xs : List Text) (k : Text) → IsTrue (list_any (is_at (text_order k)) xs) ↔ Contains (map now_of xs) k.now
found [] k = ((λ t. absurd cc), (λ m. absurd (contains_none k.now m)))
found (x ∷ xs) k = found_by x xs k (text_order k x) refl (found xs k)
