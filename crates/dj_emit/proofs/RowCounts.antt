-- How many pieces ranges have.
use Rattle.std.proofs.Common.{◌≡◌, ℕ, zero, suc, ◌+◌, ◌-◌, ◌<◌, ◌≤◌, Bool, true, false, List, [], ◌∷◌, ◌++◌, map, filter, take, length, length-append, get_or, nat_lt, refl, sym, ap, subst, ◌∙◌, arith, if◌then◌else◌}
use Rattle.std.specs.Prelude.{◌↔◌, IsTrue, nat_le}
use Rattle.std.specs.List.{flat_map, range_with_len}
use Rattle.std.proofs.lemmas.Bool.{lt-ltb, le-ltb, leb-true, leb-false}
use Rattle.std.proofs.lemmas.List.FromFn.{get_or-map-range_with_len, length-range_with_len}
use Rattle.dj_labels.specs.declared.labelled.Protected.{Protected}
use Rattle.dj_groups.specs.Groups.{Group, group_at, start, own, cut, pieces, is_some_range}
use Rattle.dj_groups.specs.Grouped.{protected_pieces}
use Rattle.dj_groups.proofs.GroupLaws.{own_next, rises_to}
use Rattle.dj_emit.specs.Filed.{arrivals_from, arrivals_before, rows_of}
use Rattle.dj_emit.proofs.Orders.{length_map}
use Rattle.dj_emit.proofs.CutFacts.{flat_more}

-- ---- arrivals

abbrev pub one : Bool → ℕ
one b = if b then 1 else 0

pub split : (gs : List Group) (k n m : ℕ) → arrivals_from gs k (n + m) ≡ arrivals_from gs k n + arrivals_from gs (k + n) m
split gs k zero m =
    let a : arrivals_from gs k (0 + m) ≡ arrivals_from gs k m = ap (arrivals_from gs k) (omega arith) in
    let b : arrivals_from gs (k + 0) m ≡ arrivals_from gs k m = ap (λ (j : ℕ). arrivals_from gs j m) (omega arith) in
    omega (arith, a, b)
split gs k (suc n) m =
    let e : suc n + m ≡ suc (n + m) = omega arith in
    let a : arrivals_from gs k (suc n + m) ≡ arrivals_from gs k (suc (n + m)) = ap (arrivals_from gs k) e in
    let b : arrivals_from gs (suc k + n) m ≡ arrivals_from gs (k + suc n) m = ap (λ (j : ℕ). arrivals_from gs j m) (omega arith) in
    omega (arith, a, b, split gs (suc k) n m)

pub more : (gs : List Group) (k : ℕ) → arrivals_from gs 0 (k + 1) ≡ arrivals_from gs 0 k + (if (group_at gs k).arrives then 1 else 0)
more gs k =
    let here : arrivals_from gs (0 + k) 1 ≡ arrivals_from gs k 1 = ap (λ (j : ℕ). arrivals_from gs j 1) (omega arith) in
    omega (arith, split gs 0 k 1, here)

pub at_most : (gs : List Group) (k n : ℕ) → arrivals_from gs k n ≤ n
at_most gs k zero = omega arith
at_most gs k (suc n) = go (group_at gs k).arrives (at_most gs (suc k) n) where
  go : (b : Bool) → arrivals_from gs (suc k) n ≤ n → one b + arrivals_from gs (suc k) n ≤ suc n
  go true h = omega (arith, h)
  go false h = omega (arith, h)

pub counted : (gs : List Group) (k d : ℕ) → k ≤ length gs → get_or (arrivals_before gs) k d ≡ arrivals_from gs 0 k
counted gs k d less = get_or-map-range_with_len (arrivals_from gs 0) 0 (length gs + 1) k k d (omega (arith, less)) (omega arith)

-- ---- pieces

some : (a b : ℕ) → a < b → is_some_range (a, b) ≡ true
some a b less = lt-ltb a b less

kept : (p : ℕ × ℕ) (ps : List (ℕ × ℕ)) → is_some_range p ≡ true → length (filter is_some_range (p ∷ ps)) ≡ suc (length (filter is_some_range ps))
kept p ps e = rw e refl

dropped : (p : ℕ × ℕ) (ps : List (ℕ × ℕ)) → is_some_range p ≡ false → length (filter is_some_range (p ∷ ps)) ≡ length (filter is_some_range ps)
dropped p ps e = rw e refl

pub cut_count : (gs : List Group) (from k n : ℕ) → from < start gs k → length (filter is_some_range (cut gs from k n)) ≡ suc (arrivals_from gs k n)
unfolding cut
cut_count gs from k zero less = kept (from, start gs k) [] (some from (start gs k) less)
cut_count gs from k (suc n) less =
    go (group_at gs k).arrives
    (cut_count gs (own gs k) (suc k) n (let e = own_next gs k in omega (arith, e)))
    (cut_count gs from (suc k) n (let e = rises_to gs k (suc k) (omega arith) in omega (arith, e, less))) where
      go : (b : Bool) → length (filter is_some_range (cut gs (own gs k) (suc k) n)) ≡ suc (arrivals_from gs (suc k) n)
          → length (filter is_some_range (cut gs from (suc k) n)) ≡ suc (arrivals_from gs (suc k) n)
          → length (filter is_some_range (if b then (from, start gs k) ∷ cut gs (own gs k) (suc k) n else cut gs from (suc k) n)) ≡ suc (one b + arrivals_from gs (suc k) n)
      go true h j = let e = kept (from, start gs k) (cut gs (own gs k) (suc k) n) (some from (start gs k) less) in omega (arith, e, h)
      go false h j = omega (arith, j)

never : (a : ℕ) → nat_lt a a ≡ false
never a = le-ltb a a (omega arith)

first_piece : (gs : List Group) (from n : ℕ) → length (filter is_some_range (cut gs (start gs from) from (suc n))) ≡ suc (arrivals_from gs (suc from) n)
unfolding cut
first_piece gs from n = go (group_at gs from).arrives where
  go : (b : Bool) → length (filter is_some_range (if b then (start gs from, start gs from) ∷ cut gs (own gs from) (suc from) n else cut gs (start gs from) (suc from) n)) ≡ suc (arrivals_from gs (suc from) n)
  go true =
      dropped (start gs from, start gs from) (cut gs (own gs from) (suc from) n) (never (start gs from))
      ∙ cut_count gs (own gs from) (suc from) n (let e = own_next gs from in omega (arith, e))
  go false = cut_count gs (start gs from) (suc from) n (let e = own_next gs from in omega (arith, e))

pub piece_count : (gs : List Group) (from end : ℕ) → from < end → length (pieces gs from end) ≡ suc (arrivals_from gs (suc from) (end - suc from))
piece_count gs from end less =
    let e : end - from ≡ suc (end - suc from) = omega (arith, less) in
    ap (λ (n : ℕ). length (filter is_some_range (cut gs (start gs from) from n))) e ∙ first_piece gs from (end - suc from)

-- by what is counted before two numbers
pub range_count : (gs : List Group) (range : Protected) → range.start < range.end
    → length (protected_pieces gs range) ≡ (arrivals_from gs 0 range.end - arrivals_from gs 0 (range.start + 1)) + 1
range_count gs range less =
    length_map _ (pieces gs range.start range.end)
    ∙ piece_count gs range.start range.end less
    ∙ (let all : arrivals_from gs 0 range.end ≡ arrivals_from gs 0 (range.start + 1 + (range.end - suc range.start)) = ap (arrivals_from gs 0) (omega (arith, less)) in
    let later : arrivals_from gs (0 + (range.start + 1)) (range.end - suc range.start) ≡ arrivals_from gs (suc range.start) (range.end - suc range.start) =
    ap (λ (j : ℕ). arrivals_from gs j (range.end - suc range.start)) (omega arith) in
    omega (arith, all, later, split gs 0 (range.start + 1) (range.end - suc range.start)))

-- ---- rows

pub rows_more : (gs : List Group) (ranges : List Protected) (i : ℕ) (d : Protected) → i < length ranges
    → length (rows_of gs (take (i + 1) ranges)) ≡ length (rows_of gs (take i ranges)) + length (protected_pieces gs (get_or ranges i d))
rows_more gs ranges i d less =
    ap length (flat_more (protected_pieces gs) ranges i d less) ∙ length-append (rows_of gs (take i ranges)) (protected_pieces gs (get_or ranges i d))

pub rows_within : (gs : List Group) (ranges : List Protected) (i : ℕ) → length (rows_of gs (take i ranges)) ≤ length (rows_of gs ranges)
rows_within gs [] zero = omega arith
rows_within gs [] (suc i) = omega arith
rows_within gs (range ∷ ranges) zero = omega arith
rows_within gs (range ∷ ranges) (suc i) =
    let a = length-append (protected_pieces gs range) (rows_of gs (take i ranges)) in
    let b = length-append (protected_pieces gs range) (rows_of gs ranges) in
    omega (arith, a, b, rows_within gs ranges i)

-- ---- what is looked up

pub counts_length : (gs : List Group) → length (arrivals_before gs) ≡ length gs + 1
counts_length gs = length_map (arrivals_from gs 0) (range_with_len 0 (length gs + 1)) ∙ length-range_with_len 0 (length gs + 1)

pub rising : (gs : List Group) (k m : ℕ) → k ≤ m → arrivals_from gs 0 k ≤ arrivals_from gs 0 m
rising gs k m h =
    let e : k + (m - k) ≡ m = omega (arith, h) in
    let all : arrivals_from gs 0 (k + (m - k)) ≡ arrivals_from gs 0 m = ap (arrivals_from gs 0) e in
    omega (arith, all, split gs 0 k (m - k))

-- ---- what is told

pub few_told : (b : Bool) (n : ℕ) → (IsTrue b ↔ n ≤ 65535) → b ≡ true → n ≤ 65535
few_told b n told e = told.0 e

pub many_told : (b : Bool) (n : ℕ) → (IsTrue b ↔ n ≤ 65535) → b ≡ false → 65535 < n
many_told b n told e = go (nat_le n 65535) refl where
  go : (l : Bool) → nat_le n 65535 ≡ l → 65535 < n
  go true h = let both : true ≡ false = sym (told.1 (leb-true n 65535 h)) ∙ e in absurd cc
  go false h = leb-false n 65535 h
