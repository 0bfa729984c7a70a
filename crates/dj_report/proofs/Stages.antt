-- Stages decide one report at most, and where each answers in its turn they are not without one.
use Rattle.std.proofs.Common.{◌≡◌, List, [], ◌∷◌, Option, Some, None, inl, inr}
use Rattle.dj_report.specs.trusted.Stages.{Stage, IsDecided}
use Rattle.dj_report.specs.Stages.{DecideOne, AnswerInTurn}

pub one_decided : {A : Type 0} (stages : List (Stage A)) → DecideOne stages → (a b : A) → IsDecided stages a → IsDecided stages b → a ≡ b
one_decided [] one a b p q = absurd p
one_decided (stage ∷ stages) one a b (inl p) (inl q) = let same = one.0 (Some a) (Some b) p q in cc
one_decided (stage ∷ stages) one a b (inl p) (inr q) = let same = one.0 (Some a) None p q.0 in absurd cc
one_decided (stage ∷ stages) one a b (inr p) (inl q) = let same = one.0 None (Some b) p.0 q in absurd cc
one_decided (stage ∷ stages) one a b (inr p) (inr q) = one_decided stages one.1 a b p.1 q.1

-- where each answer of a stage leads to a contradiction the stage would be without one
no_answer : {A : Type 0} (stage : Stage A) → ((a : A) → stage (Some a) → ⊥) → (stage None → ⊥) → (a : Option A) → stage a → ⊥
no_answer stage decides hands_on (Some a) p = decides a p
no_answer stage decides hands_on None p = hands_on p

pub some_decided : {A : Type 0} (stages : List (Stage A)) → AnswerInTurn stages → ((a : A) → IsDecided stages a → ⊥) → ⊥
some_decided [] in_turn none = in_turn
some_decided (stage ∷ stages) in_turn none =
    in_turn.0 (no_answer stage (λ a p. none a (inl p)) (λ p. some_decided stages (in_turn.1 p) (λ b q. none b (inr (p, q)))))
