-- The last component is closed: what held holds still.
use Rattle.std.proofs.Common.{◌≡◌, ℕ, ◌+◌, ◌-◌, ◌<◌, ◌≤◌, ◌⊎◌, List, length, take, drop, slice_get, refl, sym, ◌∙◌, ap, subst, inl, inr, arith}
use Rattle.std.proofs.lemmas.List.{length-take}
use Rattle.std.proofs.lemmas.Bool.{cases_lt}
use Rattle.dj_graph.specs.declared.mark.NodeMark.{NodeMark}
use Rattle.dj_graph.specs.declared.mark.NodeMark.TheVariants.{Unfound, Open, Closed}
use Rattle.dj_graph.specs.Graphs.{Edges}
use Rattle.dj_graph.specs.Searches.{IsClosed, Rises, IsPath, IsLinked, AreStarts, ArePlaces, Numbers, IsLast}
use Rattle.dj_graph.proofs.Lists.{At, at_within, at_some, one_at, same_or_not, of_take, in_take, of_drop, earlier}

-- what became of a node
pub record IsClosing (start number : ℕ) (old new : List NodeMark) : Type 0 where
  pub stays : (a m : ℕ) → At old a (Closed m) → At new a (Closed m)
  pub below : (a i : ℕ) → At old a (Open i) → i < start → At new a (Open i)
  pub above : (a i : ℕ) → At old a (Open i) → start ≤ i → At new a (Closed number)
  pub was_closed : (a m : ℕ) → At new a (Closed m) → At old a (Closed m) ⊎ ((i : ℕ) × At old a (Open i) × (start ≤ i) × (m ≡ number))
  pub was_open : (a i : ℕ) → At new a (Open i) → At old a (Open i) × (i < start)
  pub was_unfound : (a : ℕ) → At new a Unfound → At old a Unfound

-- a node that isn't in the last part of the path keeps its mark
kept_mark : (path : List ℕ) (start number a : ℕ) (old new : List NodeMark) → IsPath old path → Numbers (drop start path) number old new → ((i : ℕ) → At old a (Open i) → start ≤ i → ⊥) → slice_get new a ≡ slice_get old a
kept_mark path start number a old new is numbers apart =
    numbers.others a (λ i at. apart (start + i) (is.placed (start + i) a (sym (of_drop start path i) ∙ at)) (omega arith))

closing_above : (path : List ℕ) (start number a i : ℕ) (old new : List NodeMark) → IsPath old path → Numbers (drop start path) number old new → At old a (Open i) → start ≤ i → At new a (Closed number)
closing_above path start number a i old new is numbers at le =
    let split : start + (i - start) ≡ i = omega (arith, le) in
    numbers.among (i - start) a (of_drop start path (i - start) ∙ ap (slice_get path) split ∙ is.listed i a at)

-- a mark that isn't of the last part of the path stayed, and is not of that part
stayed : (path : List ℕ) (start number a : ℕ) (mark x : NodeMark) (old new : List NodeMark) → IsPath old path → Numbers (drop start path) number old new → At new a mark → At old a x → ((i : ℕ) → x ≡ Open i → i < start) → At old a mark × ((i : ℕ) → mark ≡ Open i → i < start)
stayed path start number a mark x old new is numbers at was low =
    let kept : slice_get new a ≡ slice_get old a =
    kept_mark path start number a old new is numbers (λ i open_ le. let e = one_at old a x (Open i) was open_ in let h = low i e in omega (arith, h, le)) in
    let here : At old a mark = sym kept ∙ at in
    let same : x ≡ mark = one_at old a x mark was here in
    (here, λ i e. low i (same ∙ e))

-- the mark that a node had: not one of the last part of the path, or one of it
had : (path : List ℕ) (start number a : ℕ) (mark x : NodeMark) (old new : List NodeMark) → IsPath old path → Numbers (drop start path) number old new → At new a mark → At old a x → (At old a mark × ((i : ℕ) → mark ≡ Open i → i < start)) ⊎ ((i : ℕ) × At old a (Open i) × (start ≤ i) × (mark ≡ Closed number))
had path start number a mark Unfound old new is numbers at was = inl (stayed path start number a mark Unfound old new is numbers at was (λ i e. absurd cc))
had path start number a mark (Closed m) old new is numbers at was = inl (stayed path start number a mark (Closed m) old new is numbers at was (λ i e. absurd cc))
had path start number a mark (Open j) old new is numbers at was =
    elim (cases_lt j start) [
      | inl low ↦ inl (stayed path start number a mark (Open j) old new is numbers at was (λ i e. let same : j ≡ i = cc in omega (arith, same, low)))
      | inr high ↦ inr (j, was, high, one_at new a mark (Closed number) at (closing_above path start number a j old new is numbers was high))
    ]

had_mark : (path : List ℕ) (start number a : ℕ) (mark : NodeMark) (old new : List NodeMark) → IsPath old path → Numbers (drop start path) number old new → At new a mark → (At old a mark × ((i : ℕ) → mark ≡ Open i → i < start)) ⊎ ((i : ℕ) × At old a (Open i) × (start ≤ i) × (mark ≡ Closed number))
had_mark path start number a mark old new is numbers at =
    let within = at_within new a mark at in
    let found : (x : NodeMark) × At old a x = at_some old a (omega (arith, within, numbers.count)) in
    had path start number a mark found.0 old new is numbers at found.1

pub closing : (path : List ℕ) (start number : ℕ) (old new : List NodeMark) → IsPath old path → Numbers (drop start path) number old new → IsClosing start number old new
closing path start number old new is numbers = record {
  stays = λ a m at. kept_mark path start number a old new is numbers (λ i open_ le. let e = one_at old a (Closed m) (Open i) at open_ in absurd cc) ∙ at;
  below = λ a i at lt. kept_mark path start number a old new is numbers (λ j open_ le. let e = one_at old a (Open i) (Open j) at open_ in let same : i ≡ j = cc in omega (arith, same, lt, le)) ∙ at;
  above = λ a i at le. closing_above path start number a i old new is numbers at le;
  was_closed = λ a m at. elim (had_mark path start number a (Closed m) old new is numbers at) [
    | inl same ↦ inl same.0
    | inr last ↦ inr (last.0, last.1, last.2, let e = last.3 in cc)
  ];
  was_open = λ a i at. elim (had_mark path start number a (Open i) old new is numbers at) [
    | inl same ↦ (same.0, same.1 i refl)
    | inr last ↦ let e = last.3 in absurd cc
  ];
  was_unfound = λ a at. elim (had_mark path start number a Unfound old new is numbers at) [
    | inl same ↦ same.0
    | inr last ↦ let e = last.3 in absurd cc
  ];
}

-- ---- what holds after it

pub closed_still : (start number a : ℕ) (old new : List NodeMark) → IsClosing start number old new → IsClosed old a → IsClosed new a
closed_still start number a old new closes closed = (closed.0, closes.stays a closed.0 closed.1)

pub closed_path : (path : List ℕ) (start number : ℕ) (old new : List NodeMark) → IsPath old path → IsClosing start number old new → IsPath new (take start path)
closed_path path start number old new is closes = record {
  placed = λ i a at. let there = of_take start path i a at in closes.below a i (is.placed i a there.1) there.0;
  listed = λ i a at. let there = closes.was_open a i at in in_take start path i a there.1 (is.listed i a there.0);
}

-- a start that isn't the last is before it
pub before_last : (starts : List ℕ) (start s x : ℕ) → Rises starts → IsLast starts start → At starts s x → x ≤ start
before_last starts start s x rises last at =
    let within = at_within starts s x at in
    elim (same_or_not s (length starts - 1)) [
      | inl same ↦ let e : x ≡ start = one_at starts (length starts - 1) x start (subst (λ j. At starts j x) same at) last.1 in omega (arith, e)
      | inr other ↦ let lt : x < start = rises s (length starts - 1) x start (omega (arith, within, other)) at last.1 in omega (arith, lt)
    ]

pub closed_linked : (edges : Edges) (path starts : List ℕ) (start : ℕ) → IsLinked edges path starts → IsLast starts start → IsLinked edges (take start path) (take (length starts - 1) starts)
closed_linked edges path starts start linked last = record {
  onward = λ i j a b le first second. linked.onward i j a b le (of_take start path i a first).1 (of_take start path j b second).1;
  back = λ i j a b le first second none.
      let there = of_take start path j b second in
      linked.back i j a b le (of_take start path i a first).1 there.1 (λ s x at above most.
      let within = at_within starts s x at in
      none s x (in_take (length starts - 1) starts s x (earlier starts (length starts - 1) s x start last.1 at (omega (arith, within)) (λ same. omega (arith, same, most, there.0))) at) above most);
}

closed_first : (path starts : List ℕ) (start : ℕ) → AreStarts path starts → IsLast starts start → 0 < start → At (take (length starts - 1) starts) 0 0
closed_first path starts start are last some =
    let inside = are.inside (length starts - 1) start last.1 in
    let first : At starts 0 0 = are.first (omega (arith, inside)) in
    in_take (length starts - 1) starts 0 0 (earlier starts (length starts - 1) 0 0 start last.1 first (omega arith) (λ same. omega (arith, same, some))) first

pub closed_starts : (path starts : List ℕ) (start : ℕ) → AreStarts path starts → IsLast starts start → AreStarts (take start path) (take (length starts - 1) starts)
closed_starts path starts start are last = record {
  rising = λ i j x y lt first second. are.rising i j x y lt (of_take (length starts - 1) starts i x first).1 (of_take (length starts - 1) starts j y second).1;
  inside = λ s x at.
      let there = of_take (length starts - 1) starts s x at in
      let lt : x < start = are.rising s (length starts - 1) x start there.0 there.1 last.1 in
      let within = are.inside (length starts - 1) start last.1 in
      let count = length-take start path in
      omega (arith, lt, within, count);
  first = λ some. closed_first path starts start are last (let count = length-take start path in omega (arith, some, count));
}

pub closed_work : (path work : List ℕ) (start : ℕ) → ArePlaces path work → ((s x : ℕ) → At work s x → x < start) → ArePlaces (take start path) work
closed_work path work start are low = record {
  rising = are.rising;
  inside = λ s x at.
      let lt = low s x at in
      let within = are.inside s x at in
      let count = length-take start path in
      omega (arith, lt, within, count);
}
