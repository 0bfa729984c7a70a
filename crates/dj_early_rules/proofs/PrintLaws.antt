-- Texts whose numbers differ.
use Rattle.std.proofs.Common.{◌≡◌, ℕ, zero, suc, ◌+◌, ◌<◌, ◌≤◌, ◌⊎◌, Bool, true, false, List, [], ◌∷◌, length, slice_get, Some, refl, sym, ap, ◌∙◌, inl, inr, arith, IsTrue}
use Rattle.std.proofs.lemmas.Bool.{cases_lt}
use Rattle.std.specs.BTreeSet.{BTreeSet}
use Rattle.dj_pool.specs.trusted.Pool.{Constant, text_at}
use Rattle.dj_early_rules.specs.Judged.{IsMarked}
use Rattle.dj_early_rules.specs.Prints.{print_of, NotesPrint, AreDistinct, AreNoted}

-- ---- indexes

pub none_noted : (prints : BTreeSet ℕ) (pool : List Constant) (marks : List Bool) → AreNoted prints pool marks 0
none_noted prints pool marks = record {
  all = λ i text lt m at. absurd (omega (arith, lt));
  distinct = λ i j text lt lj m n at bt. absurd (omega (arith, lt));
}

before : (i count : ℕ) → i < count + 1 → (i < count) ⊎ (i ≡ count)
before i count lt = elim (cases_lt i count) [ inl less ↦ inl less | inr past ↦ inr (omega (arith, lt, past)) ]

marks_own : (marks : List Bool) (count i : ℕ) (marked : Bool) → slice_get marks count ≡ Some marked → i ≡ count → IsMarked marks i → IsTrue marked
marks_own marks count i marked own here m = some_true marked (sym own ∙ sym (ap (slice_get marks) here) ∙ m)
  where
    some_true : (b : Bool) → Some b ≡ Some true → IsTrue b
    some_true true e = refl
    some_true false e = absurd cc

-- one more
pub one_more_noted : (old new : BTreeSet ℕ) (pool : List Constant) (marks : List Bool) (count : ℕ) (marked first : Bool) → slice_get marks count ≡ Some marked → IsTrue first → NotesPrint old new pool count marked first
    → AreNoted old pool marks count → AreNoted new pool marks (count + 1)
one_more_noted old new pool marks count marked first own is notes noted = record {
  all = λ i text lt m at. elim (before i count lt) [
    | inl less ↦ notes.kept (print_of 0 text) (noted.all i text less m at)
    | inr here ↦ notes.own (marks_own marks count i marked own here m) text (sym (ap (text_at pool) here) ∙ at)
  ];
  distinct = λ i j text lt lj m n at bt. elim (before i count lt) [
    | inl less ↦ elim (before j count lj) [
      | inl other ↦ noted.distinct i j text less other m n at bt
      | inr there ↦ absurd (notes.first is (marks_own marks count j marked own there n) text (sym (ap (text_at pool) there) ∙ bt) (noted.all i text less m at))
    ]
    | inr here ↦ elim (before j count lj) [
      | inl other ↦ absurd (notes.first is (marks_own marks count i marked own here m) text (sym (ap (text_at pool) here) ∙ at) (noted.all j text other n bt))
      | inr there ↦ here ∙ sym there
    ]
  ];
}

marked_within : (marks : List Bool) (i : ℕ) → IsMarked marks i → i < length marks
marked_within [] i m = absurd cc
marked_within (mark ∷ marks) zero m = omega arith
marked_within (mark ∷ marks) (suc i) m = let lt = marked_within marks i m in omega (arith, lt)

pub all_distinct : (prints : BTreeSet ℕ) (pool : List Constant) (marks : List Bool) (count : ℕ) → length marks ≤ count → AreNoted prints pool marks count → AreDistinct pool marks
all_distinct prints pool marks count le noted i j text m n at bt =
    let li = marked_within marks i m in
    let lj = marked_within marks j n in
    noted.distinct i j text (omega (arith, li, le)) (omega (arith, lj, le)) m n at bt
