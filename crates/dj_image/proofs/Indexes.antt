-- What is kept of more and more indexes.
use Rattle.std.proofs.Common.{◌≡◌, ℕ, zero, suc, ◌+◌, ◌<◌, ◌≤◌, List, [], ◌∷◌, ◌++◌, length, Option, Some, None, slice_get, get_or, refl, sym, ap, subst, ◌∙◌, inl, inr, arith}
use Rattle.std.proofs.lemmas.Bool.{cases_lt}
use Rattle.std.proofs.lemmas.List.{length-append}
use Rattle.std.proofs.lemmas.Option.{get_or_from_slice_get}
use Rattle.std.specs.Prelude.{nat_eq, if◌then◌else◌}
use Rattle.std.specs.Cmp.Lexicographic.{pointwise}
use Rattle.std.specs.Option.{option_map}
use Rattle.dj_names.specs.trusted.Types.{Name}
use Rattle.dj_numbering.specs.Typed.{place_of_text}
use Rattle.dj_image.specs.Indexed.{Holds}
use Rattle.dj_image.specs.Operands.{units_number}

module _ {A : Type 0} where
  stays : (xs : List A) (x : A) (i : ℕ) → i < length xs → slice_get (xs ++ x ∷ []) i ≡ slice_get xs i
  stays [] x i lt = absurd (omega arith)
  stays (y ∷ xs) x zero lt = refl
  stays (y ∷ xs) x (suc i) lt = stays xs x i (omega arith)

  last : (xs : List A) (x : A) → slice_get (xs ++ x ∷ []) (length xs) ≡ Some x
  last [] x = refl
  last (y ∷ xs) x = last xs x

  pub none_held : (f : ℕ → A) → Holds f 0 []
  none_held f = record { all = refl; each = λ i lt. absurd (omega (arith, lt)) }

  pub one_more_held : (f : ℕ → A) (count : ℕ) (kept more : List A) (x : A) → Holds f count kept → x ≡ f count → more ≡ kept ++ x ∷ [] → Holds f (count + 1) more
  one_more_held f count kept more x held is push = subst (Holds f (count + 1)) (sym push) (record {
    all = length-append kept (x ∷ []) ∙ ap (λ (n : ℕ). n + 1) held.all;
    each = λ i lt. elim (cases_lt i count) [
      | inl before ↦ stays kept x i (omega (arith, held.all, before)) ∙ held.each i before
      | inr after ↦
          let here : i ≡ length kept = omega (arith, held.all, after, lt) in
          ap (slice_get (kept ++ x ∷ [])) here ∙ last kept x ∙ ap Some (is ∙ ap f (sym held.all ∙ sym here))
    ];
  })

  pub all_held : (f : ℕ → A) (count i : ℕ) (kept : List A) → Holds f i kept → i ≡ count → Holds f count kept
  all_held f count i kept held e = subst (λ (n : ℕ). Holds f n kept) e held

past : {A : Type 0} (xs : List A) (i : ℕ) (d : A) → length xs ≤ i → get_or xs i d ≡ d
past [] i d le = refl
past (x ∷ xs) zero d le = absurd (omega (arith, le))
past (x ∷ xs) (suc i) d le = past xs i d (omega (arith, le))

-- what is kept at an index, and past the last one nothing
pub held_at : {A : Type 0} (f : ℕ → Option A) (count : ℕ) (kept : List (Option A)) → Holds f count kept → ((i : ℕ) → count ≤ i → f i ≡ None) → (i : ℕ) → get_or kept i None ≡ f i
held_at f count kept held none i = elim (cases_lt i count) [
  | inl within ↦ get_or_from_slice_get kept i (f i) None (held.each i within)
  | inr after ↦ past kept i None (omega (arith, held.all, after)) ∙ sym (none i after)
]

-- ---- the place of a text

pub same_place : (texts : List Name) (text : Name) → units_number texts text ≡ place_of_text texts text
same_place [] text = refl
same_place (x ∷ texts) text = ap (λ (o : Option ℕ). if pointwise nat_eq x text then Some 0 else option_map suc o) (same_place texts text)
