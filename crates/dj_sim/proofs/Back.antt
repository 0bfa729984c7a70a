-- A plain run that ended shows that the metered run ended.
use Rattle.std.proofs.Common.{◌≡◌, ℕ, zero, suc, ◌+◌, ◌-◌, ◌*◌, ◌≤◌, ◌⊎◌, nat_le, refl, sym, ap, subst, ◌∙◌, inl, inr, arith}
use Rattle.std.specs.Prelude.{⊤}
use Rattle.std.proofs.lemmas.Bool.Decides.{nat_tests}
use Rattle.dj_names.specs.declared.run.Costs.{Costs}
use Rattle.dj_names.specs.declared.run.Outcome.{Outcome}
use Rattle.dj_names.specs.Types.{in_sandbox}
use Rattle.dj_model.specs.trusted.Types.{Prefix}
use Rattle.dj_model.specs.trusted.Program.{Program}
use Rattle.dj_model.specs.trusted.State.{Terms, State}
use Rattle.dj_model.specs.trusted.Step.{StepAnswer, Went, Ended, IllFormed, step}
use Rattle.dj_model.specs.trusted.Runs.{Ran, Going, Finished, NoStep, one_more, then_steps, from_start, steps}
use Rattle.dj_model.specs.Runs.{Run, Underway, RunEnds, Stuck}
use Rattle.dj_model.specs.Mapping.{outcome_map}
use Rattle.dj_sim.proofs.Places.{either}

-- ---- a run that has ended stays so

abbrev pub IsOver : Ran → Type 0
IsOver (Going s) = ⊥
IsOver (Finished outcome s n) = ⊤
IsOver NoStep = ⊤

module _ (program : Program) (prefix : Prefix) (terms : Terms) where
  over_more : (r : Ran) → IsOver (one_more r) → IsOver r
  over_more (Going s) o = o
  over_more (Finished outcome s n) o = tt
  over_more NoStep o = tt

  stays_over : (k d : ℕ) (s : State) → IsOver (steps program prefix terms k s) → steps program prefix terms (k + d) s ≡ steps program prefix terms k s
  unfolding steps
  stays_over zero d s o = absurd o
  stays_over (suc k) d s o =
      let e : suc k + d ≡ suc (k + d) = omega arith in
      ap (λ n. steps program prefix terms n s) e ∙ go (step program prefix terms s) o (λ t p. stays_over k d t p) where
        go : (a : StepAnswer) → IsOver (then_steps (steps program prefix terms k) a) → ((t : State) → IsOver (steps program prefix terms k t) → steps program prefix terms (k + d) t ≡ steps program prefix terms k t)
            → then_steps (steps program prefix terms (k + d)) a ≡ then_steps (steps program prefix terms k) a
        go (Went t) o more = ap one_more (more t (over_more (steps program prefix terms k t) o))
        go (Ended outcome t) o more = refl
        go IllFormed o more = refl

  pub from_start_stays : (k j : ℕ) (a : StepAnswer) → k ≤ j → IsOver (from_start (steps program prefix terms k) a) → from_start (steps program prefix terms j) a ≡ from_start (steps program prefix terms k) a
  from_start_stays k j (Went s) l o = let e : j ≡ k + (j - k) = omega (arith, l) in ap (λ n. steps program prefix terms n s) e ∙ stays_over k (j - k) s o
  from_start_stays k j (Ended outcome s) l o = refl
  from_start_stays k j IllFormed l o = refl

-- ---- what the runs have in common after n turns

module _ (R : Program) (q : Prefix) (terms : Terms) (begun : StepAnswer) (metered : ℕ → Run) where
  abbrev At : ℕ → Ran
  At j = from_start (steps R q terms j) begun

  abbrev pub Follows : ℕ → Run → Type 0
  Follows n (Underway s) = (j : ℕ) × (n ≤ 2 * j + 1) × (r : State) × (At j ≡ Going r)
  Follows n (RunEnds outcome costs) = (j : ℕ) × (t : State) × (m : ℕ) × (At j ≡ Finished (outcome_map in_sandbox outcome) t m) × (t.account.costs ≡ costs)
  Follows n Stuck = ⊥

  pub back : ((n : ℕ) → Follows n (metered n)) → (k m : ℕ) (outcome : Outcome) (t : State) → At k ≡ Finished outcome t m
      → (n : ℕ) × (o : Outcome) × (metered n ≡ RunEnds o t.account.costs) × (outcome_map in_sandbox o ≡ outcome)
  back follows k m outcome t ended = go (metered (2 * (k + 1))) refl (follows (2 * (k + 1))) where
    over : IsOver (At k)
    over = subst IsOver (sym ended) tt

    outcome_in : Ran → Outcome
    outcome_in (Going s) = outcome
    outcome_in (Finished o s n) = o
    outcome_in NoStep = outcome

    costs_in : Ran → Costs
    costs_in (Going s) = t.account.costs
    costs_in (Finished o s n) = s.account.costs
    costs_in NoStep = t.account.costs

    meet : (j : ℕ) → (At j ≡ At k) ⊎ (IsOver (At j) → At k ≡ At j)
    meet j = elim (either (nat_le k j)) [
      | inl e ↦ inl (from_start_stays R q terms k j begun (grind (arith, nat_tests, e)) over)
      | inr e ↦ inr (from_start_stays R q terms j k begun (grind (arith, nat_tests, e)))
    ]

    same : (j : ℕ) (o : Outcome) (u : State) (i : ℕ) → At j ≡ Finished o u i → (o ≡ outcome) × (u.account.costs ≡ t.account.costs)
    same j o u i e = by (meet j) where
      by : (At j ≡ At k) ⊎ (IsOver (At j) → At k ≡ At j) → (o ≡ outcome) × (u.account.costs ≡ t.account.costs)
      by (inl one) = let f : Finished o u i ≡ Finished outcome t m = sym e ∙ (one ∙ ended) in (ap outcome_in f, ap costs_in f)
      by (inr later) = let f : Finished o u i ≡ Finished outcome t m = sym e ∙ (sym (later (subst IsOver (sym e) tt)) ∙ ended) in (ap outcome_in f, ap costs_in f)

    go : (run : Run) → metered (2 * (k + 1)) ≡ run → Follows (2 * (k + 1)) run → (n : ℕ) × (o : Outcome) × (metered n ≡ RunEnds o t.account.costs) × (outcome_map in_sandbox o ≡ outcome)
    go (Underway s) e (j, l, r, going) = absurd (subst IsOver (sym (from_start_stays R q terms k j begun (omega (arith, l)) over) ∙ going) over)
    go (RunEnds o c) e (j, u, i, finished, costs) =
        let b = same j (outcome_map in_sandbox o) u i finished in
        (2 * (k + 1), o, e ∙ ap (RunEnds o) (sym costs ∙ b.1), b.0)
    go Stuck e f = absurd f
