-- Which instructions are the first of a handler, range by range.
use Rattle.std.proofs.Common.{◌≡◌, ℕ, ◌+◌, ◌<◌, Bool, true, false, ◌||◌, List, [], ◌∷◌, ◌++◌, map, take, length, get_or, set, replicate, Some, nat_eq, refl, sym, ap, ◌∙◌, arith}
use Rattle.std.specs.List.{list_any}
use Rattle.std.proofs.lemmas.Bool.{eqb-true, eqb-false}
use Rattle.std.proofs.lemmas.Grind.{get_or-set_at}
use Rattle.std.proofs.lemmas.List.{take_more, get_or-set_other, get_or-replicate, length-set, length-replicate}
use Rattle.std.proofs.lemmas.List.Folds.{list_any-append}
use Rattle.dj_labels.specs.declared.labelled.Protected.{Protected}
use Rattle.dj_pool.specs.trusted.Pool.{Constant}
use Rattle.dj_model.specs.Runs.{starts_handler}
use Rattle.dj_program.specs.trusted.Codes.{CodeParts, code_in, range_in}
use Rattle.dj_emit.specs.Arrivals.{handles, AreArrivals}

pub arrivals_none : (count : ℕ) (ranges : List Protected) → AreArrivals count (take 0 ranges) (replicate count false)
arrivals_none count ranges = record { all = length-replicate count false; each = λ k less. get_or-replicate count k false false less }

pub arrivals_more : (count : ℕ) (ranges : List Protected) (arrives : List Bool) (i : ℕ) (d : Protected) → i < length ranges → (get_or ranges i d).handler < count
    → AreArrivals count (take i ranges) arrives → AreArrivals count (take (i + 1) ranges) (set arrives (get_or ranges i d).handler true)
arrivals_more count ranges arrives i d within handled before = record {
  all = length-set arrives (get_or ranges i d).handler true ∙ before.all;
  each = λ k less. go k less (nat_eq k (get_or ranges i d).handler) refl ∙ sym (seen k);
} where
  seen : (k : ℕ) → handles (take (i + 1) ranges) k ≡ (handles (take i ranges) k || (nat_eq k (get_or ranges i d).handler || false))
  seen k = ap (λ (x : List Protected). handles x k) (take_more ranges i d within) ∙ list_any-append (λ (range : Protected). nat_eq k range.handler) (take i ranges) (get_or ranges i d ∷ [])

  last : (b : Bool) → b ≡ (b || (false || false))
  last true = refl
  last false = refl

  here : (b : Bool) → true ≡ (b || (true || false))
  here true = refl
  here false = refl

  go : (k : ℕ) → k < count → (same : Bool) → nat_eq k (get_or ranges i d).handler ≡ same
      → get_or (set arrives (get_or ranges i d).handler true) k false ≡ (handles (take i ranges) k || (same || false))
  go k less true e =
      get_or-set_at arrives (get_or ranges i d).handler k true false (eqb-true k (get_or ranges i d).handler e) (omega (arith, before.all, handled)) ∙ here (handles (take i ranges) k)
  go k less false e =
      get_or-set_other arrives (get_or ranges i d).handler k true false (eqb-false k (get_or ranges i d).handler e) ∙ before.each k less ∙ last (handles (take i ranges) k)

-- the same of the model's code
pub handler_is : (pool : List Constant) (parts : CodeParts) (k : ℕ) → starts_handler (Some (code_in pool parts)) k ≡ handles parts.labelled.ranges k
unfolding code_in
handler_is pool parts k = go parts.labelled.ranges where
  go : (ranges : List Protected) → list_any (λ range. nat_eq k range.handler) (map (range_in pool) ranges) ≡ handles ranges k
  go [] = refl
  go (range ∷ ranges) = ap (λ (b : Bool). nat_eq k range.handler || b) (go ranges)
