-- The starts of the open components: the last ones are taken away until none is past a place.
use Rattle.std.proofs.Common.{◌≡◌, ℕ, ◌-◌, ◌<◌, ◌≤◌, List, length, take, subst, inl, inr, arith}
use Rattle.std.proofs.lemmas.List.{length-take}
use Rattle.dj_graph.specs.Searches.{Joins, Rises, IsLast}
use Rattle.dj_graph.proofs.Lists.{At, of_take, in_take, at_within, one_at, same_or_not, earlier}

-- only what is past the place was taken away
pub record IsJoining (place : ℕ) (old now : List ℕ) : Type 0 where
  pub count : length now ≤ length old
  pub before : (s x : ℕ) → At now s x → At old s x
  pub kept : (s x : ℕ) → At old s x → x ≤ place → At now s x

pub joining_none : (place : ℕ) (old : List ℕ) → IsJoining place old old
joining_none place old = record { count = omega arith; before = λ s x at. at; kept = λ s x at le. at }

pub joining_more : (place last : ℕ) (old now : List ℕ) → IsJoining place old now → IsLast now last → place < last → IsJoining place old (take (length now - 1) now)
joining_more place last old now so_far is_last past = record {
  count = let n = length-take (length now - 1) now in omega (arith, n, so_far.count);
  before = λ s x at. so_far.before s x (of_take (length now - 1) now s x at).1;
  kept = λ s x at le.
      let here = so_far.kept s x at le in
      let within = at_within now s x here in
      let lt : s < length now - 1 = earlier now (length now - 1) s x last is_last.1 here (omega (arith, within)) (λ same. omega (arith, same, past, le)) in
      in_take (length now - 1) now s x lt here;
}

pub joined : (place last : ℕ) (old now : List ℕ) → Rises old → IsJoining place old now → IsLast now last → last ≤ place → Joins place old now
joined place last old now rises so_far is_last le = record {
  count = so_far.count;
  before = so_far.before;
  kept = so_far.kept;
  below = λ s x at.
      let within = at_within now s x at in
      elim (same_or_not s (length now - 1)) [
        | inl same ↦ let e : x ≡ last = one_at now (length now - 1) x last (subst (λ j. At now j x) same at) is_last.1 in omega (arith, e, le)
        | inr other ↦
            let lt : x < last = rises s (length now - 1) x last (omega (arith, within, other)) (so_far.before s x at) (so_far.before (length now - 1) last is_last.1) in
            omega (arith, lt, le)
      ];
}

pub joined_none : (place : ℕ) (old now : List ℕ) → IsJoining place old now → length now ≡ 0 → Joins place old now
joined_none place old now so_far none = record {
  count = so_far.count;
  before = so_far.before;
  kept = so_far.kept;
  below = λ s x at. let within = at_within now s x at in omega (arith, within, none);
}
