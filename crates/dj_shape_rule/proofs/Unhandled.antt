-- The least first instruction of a handler that has no handler's frame, with a row more.
use Rattle.std.proofs.Common.{◌≡◌, ℕ, zero, suc, ◌<◌, ◌⊎◌, min, List, [], ◌∷◌, ◌++◌, length, Option, Some, None, slice_get, refl, sym, ap, subst, inl, inr, arith}
use Rattle.std.proofs.lemmas.Bool.{cases_lt}
use Rattle.dj_labels.specs.declared.labelled.Protected.{Protected}
use Rattle.dj_shape_rule.specs.Reported.{ReportedFrames}
use Rattle.dj_shape_rule.specs.Passing.{HasHandlerFrame, IsUnhandled, IsFirstUnhandled, least_of}

kept_at : (rows : List Protected) (row : Protected) (k : ℕ) (r : Protected) → slice_get rows k ≡ Some r → slice_get (rows ++ row ∷ []) k ≡ Some r
kept_at [] row k r at = absurd cc
kept_at (x ∷ rows) row zero r at = at
kept_at (x ∷ rows) row (suc k) r at = kept_at rows row k r at

last_at : (rows : List Protected) (row : Protected) → slice_get (rows ++ row ∷ []) (length rows) ≡ Some row
last_at [] row = refl
last_at (x ∷ rows) row = last_at rows row

split_at : (rows : List Protected) (row : Protected) (k : ℕ) (r : Protected) → slice_get (rows ++ row ∷ []) k ≡ Some r → (slice_get rows k ≡ Some r) ⊎ (row ≡ r)
split_at [] row zero r at = inr cc
split_at [] row (suc k) r at = absurd cc
split_at (x ∷ rows) row zero r at = inl at
split_at (x ∷ rows) row (suc k) r at = split_at rows row k r at

module _ (frames : ReportedFrames) (rows : List Protected) (row : Protected) where
  still : (n : ℕ) → IsUnhandled frames rows n → IsUnhandled frames (rows ++ row ∷ []) n
  still n (k, r, at, own, none) = (k, r, kept_at rows row k r at, own, none)

  here : (HasHandlerFrame frames row.handler → ⊥) → IsUnhandled frames (rows ++ row ∷ []) row.handler
  here none = (length rows, row, last_at rows row, refl, none)

  pub more_has : (least : Option ℕ) → HasHandlerFrame frames row.handler → IsFirstUnhandled frames rows least → IsFirstUnhandled frames (rows ++ row ∷ []) least
  more_has None has first =
      λ k r at. elim (split_at rows row k r at) [ inl old ↦ first k r old | inr new ↦ subst (λ (x : Protected). HasHandlerFrame frames x.handler) new has ]
  more_has (Some least) has first = (
    still least first.0,
    λ k r at less. elim (split_at rows row k r at) [ inl old ↦ first.1 k r old less | inr new ↦ subst (λ (x : Protected). HasHandlerFrame frames x.handler) new has ],
  )

  pub more_lacks : (least : Option ℕ) → (HasHandlerFrame frames row.handler → ⊥) → IsFirstUnhandled frames rows least
      → IsFirstUnhandled frames (rows ++ row ∷ []) (Some (least_of least row.handler))
  more_lacks None none first = (
    here none,
    λ k r at less. elim (split_at rows row k r at) [ inl old ↦ first k r old | inr new ↦ let same : row.handler ≡ r.handler = ap (λ (x : Protected). x.handler) new in absurd (omega arith) ],
  )
  more_lacks (Some least) none first = elim (cases_lt row.handler least) [
    | inl below ↦
        let e : min least row.handler ≡ row.handler = omega arith in
        subst (λ (n : ℕ). IsFirstUnhandled frames (rows ++ row ∷ []) (Some n)) (sym e) (
          here none,
          λ k r at less. elim (split_at rows row k r at) [
            | inl old ↦ let under : r.handler < least = omega arith in first.1 k r old under
            | inr new ↦ let same : row.handler ≡ r.handler = ap (λ (x : Protected). x.handler) new in absurd (omega arith)
          ],
        )
    | inr above ↦
        let e : min least row.handler ≡ least = omega arith in
        subst (λ (n : ℕ). IsFirstUnhandled frames (rows ++ row ∷ []) (Some n)) (sym e) (
          still least first.0,
          λ k r at less. elim (split_at rows row k r at) [
            | inl old ↦ first.1 k r old less
            | inr new ↦ let same : row.handler ≡ r.handler = ap (λ (x : Protected). x.handler) new in absurd (omega arith)
          ],
        )
  ]
