-- A metered run ends in one way, at one cost.
use Rattle.std.proofs.Common.{◌≡◌, ℕ, zero, suc, ◌+◌, List, [], sym, ap, subst, ◌∙◌, arith}
use Rattle.dj_names.specs.declared.run.Outcome.{Outcome}
use Rattle.dj_names.specs.declared.run.Costs.{Costs}
use Rattle.dj_names.specs.declared.run.Thresholds.{Thresholds}
use Rattle.dj_model.specs.trusted.Types.{Declared}
use Rattle.dj_model.specs.trusted.Program.{Program}
use Rattle.dj_model.specs.trusted.State.{State}
use Rattle.dj_model.specs.trusted.Runs.{begin}
use Rattle.dj_model.specs.Runs.{Run, Underway, RunEnds, Stuck, turn, turns, then_turn, metered_run, RunsTo, metered_terms, answer_run}

ended_more : (first more : State → Run) (outcome : Outcome) (costs : Costs) (r : Run)
    → ((t : State) → first t ≡ RunEnds outcome costs → more t ≡ RunEnds outcome costs) → then_turn first r ≡ RunEnds outcome costs
    → then_turn more r ≡ RunEnds outcome costs
ended_more first more outcome costs (Underway t) each e = each t e
ended_more first more outcome costs (RunEnds o c) each e = e
ended_more first more outcome costs Stuck each e = e

turns_ended : (program : Program) (most : Thresholds) (m n : ℕ) (s : State) (outcome : Outcome) (costs : Costs)
    → turns program most m s ≡ RunEnds outcome costs → turns program most (m + n) s ≡ RunEnds outcome costs
unfolding turns
turns_ended program most zero n s outcome costs e = absurd cc
turns_ended program most (suc m) n s outcome costs e =
    let next : suc (m + n) ≡ suc m + n = omega arith in
    subst (λ k. turns program most k s ≡ RunEnds outcome costs) next
    (ended_more (turns program most m) (turns program most (m + n)) outcome costs (turn program most s) (λ t h. turns_ended program most m n t outcome costs h) e)

run_ended : (program : Program) (entry : Declared) (input : List ℕ) (most : Thresholds) (m n : ℕ) (outcome : Outcome) (costs : Costs)
    → metered_run program entry input most m ≡ RunEnds outcome costs → metered_run program entry input most (m + n) ≡ RunEnds outcome costs
unfolding metered_run
run_ended program entry input most m n outcome costs e =
    ended_more (turns program most m) (turns program most (m + n)) outcome costs (answer_run (begin program [] (metered_terms most) entry input []))
    (λ t h. turns_ended program most m n t outcome costs h) e

pub same_end : (program : Program) (entry : Declared) (input : List ℕ) (most : Thresholds) (o o' : Outcome) (c c' : Costs)
    → RunsTo program entry input most o c → RunsTo program entry input most o' c' → (o ≡ o') × (c ≡ c')
same_end program entry input most o o' c c' a b =
    let left : metered_run program entry input most (a.0 + b.0) ≡ RunEnds o c = run_ended program entry input most a.0 b.0 o c a.1 in
    let right : metered_run program entry input most (b.0 + a.0) ≡ RunEnds o' c' = run_ended program entry input most b.0 a.0 o' c' b.1 in
    let turned : b.0 + a.0 ≡ a.0 + b.0 = omega arith in
    let both : RunEnds o c ≡ RunEnds o' c' = sym left ∙ (ap (λ n. metered_run program entry input most n) (sym turned) ∙ right) in
    (cc, cc)
