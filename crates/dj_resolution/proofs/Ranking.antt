-- Ranks of classes, and the bits of their superclasses.
use Rattle.std.proofs.Common.{◌≡◌, ℕ, zero, suc, ◌+◌, ◌*◌, ◌<◌, ◌≤◌, ◌^◌, Bool, true, false, List, [], ◌∷◌, map, length, set, get_or, replicate, Option, Some, None, IfSome, nat_eq, refl, sym, ◌∙◌, ap, subst, inl, inr, arith, if◌then◌else◌, get_or-set_other, get_or-set_same, eqb-true}
use Rattle.std.specs.Global.{Vec}
use Rattle.std.proofs.lemmas.Bool.{false≢true, eqb-false}
use Rattle.std.proofs.lemmas.Option.{same_Some, none-some}
use Rattle.std.proofs.lemmas.List.{length-map, map-set}
use Rattle.std.proofs.Math.ListN.{length-set, length-replicate}
use Rattle.dj_model.specs.trusted.Program.{Program}
use Rattle.dj_model.specs.trusted.Linking.{most_classes}
use Rattle.dj_model.proofs.MappedNames.{either, alike}
use Rattle.dj_class_table.specs.Tables.{super_number}
use Rattle.dj_resolution.specs.Bits.{AreBits, in_bits, words_for}
use Rattle.dj_resolution.specs.Chained.{IsShort}
use Rattle.dj_resolution.specs.Numbers.{has, lists_of, most_above, numbers_up}
use Rattle.dj_resolution.specs.Ranked.{AreRanked, AreRanks, HasRow, IsRanked, IsRow, IsRowAbove, rank_in}
use Rattle.dj_resolution.proofs.Bits.{bits_none}
use Rattle.dj_resolution.proofs.Chained.{short_at, short_first, short_more, short_next, up_one}
use Rattle.dj_resolution.proofs.Climbs.{most_above_is, one_more_level}
use Rattle.dj_resolution.proofs.Lists.{has_cases, has_here, has_more, has_self}
use Rattle.dj_resolution.proofs.Marks.{item_is}
use Rattle.dj_resolution.proofs.Walks.{no_numbers_up}

-- ---- numbers of numbers

pub has_mapped : (f : ℕ → ℕ) (xs : List ℕ) (z : ℕ) → has xs z ≡ true → has (map f xs) (f z) ≡ true
has_mapped f [] z there = absurd (false≢true there)
has_mapped f (x ∷ xs) z there = elim (has_cases xs x z there) [
  | inl e ↦ has_here (map f xs) (f x) (f z) (ap f e)
  | inr h ↦ has_more (map f xs) (f x) (f z) (has_mapped f xs z h)
]

pub mapped_has : (f : ℕ → ℕ) (xs : List ℕ) (r : ℕ) → has (map f xs) r ≡ true → (z : ℕ) × (has xs z ≡ true) × (f z ≡ r)
mapped_has f [] r there = absurd (false≢true there)
mapped_has f (x ∷ xs) r there = elim (has_cases (map f xs) (f x) r there) [
  | inl e ↦ (x, has_self xs x, e)
  | inr h ↦ (let rest = mapped_has f xs r h in (rest.0, has_more xs x rest.0 rest.1, rest.2))
]

-- ---- one class

above_same : (program : Program) (levels class : ℕ) → IsShort program levels class → levels < 2 ^ 32 → numbers_up most_above program (Some class) ≡ numbers_up most_classes program (Some class)
above_same program levels class short lt =
    let most = most_above_is in
    let one = one_more_level in
    let few : levels ≤ most_above = omega (arith, most, lt) in
    let all : levels ≤ most_classes = omega (arith, most, one, lt) in
    short_at program levels class most_above short few ∙ sym (short_at program levels class most_classes short all)

module _ (program : Program) (order ranks : List ℕ) (rows : List (List ℕ)) (levels : ℕ) (ranked : AreRanked program order ranks rows levels) where
  next_has : (k : ℕ) → HasRow rows k → (o : Option ℕ) → super_number program k ≡ o → IfSome o (HasRow rows)
  next_has k have None is = tt
  next_has k have (Some j) is = ((ranked.each k have).next j is).0

  -- the superclasses have bits too
  pub all_have : (n : ℕ) (o : Option ℕ) → IfSome o (HasRow rows) → (z : ℕ) → has (numbers_up n program o) z ≡ true → HasRow rows z
  unfolding numbers_up
  all_have zero o have z there = absurd (false≢true there)
  all_have (suc n) None have z there = absurd (false≢true there)
  all_have (suc n) (Some k) have z there = elim (has_cases (numbers_up n program (super_number program k)) k z there) [
    | inl e ↦ subst (HasRow rows) e have
    | inr h ↦ all_have n (super_number program k) (next_has k have (super_number program k) refl) z h
  ]

  same_rank : (k j : ℕ) → HasRow rows k → HasRow rows j → rank_in ranks k ≡ rank_in ranks j → k ≡ j
  same_rank k j one two e = sym (ranked.each k one).placed ∙ ap (λ (r : ℕ). get_or order r 0) e ∙ (ranked.each j two).placed

  row_decides : (class other : ℕ) → HasRow rows class → HasRow rows other → in_bits (get_or rows class []) (rank_in ranks other) ≡ has (numbers_up most_classes program (Some class)) other
  row_decides class other own there =
      let up : List ℕ = numbers_up most_classes program (Some class) in
      (ranked.each class own).row.bits (rank_in ranks other)
      ∙ alike (has (map (rank_in ranks) up) (rank_in ranks other)) (has up other)
      (λ e. (let one = mapped_has (rank_in ranks) up (rank_in ranks other) e in
      subst (λ (z : ℕ). has up z ≡ true) (same_rank one.0 other (all_have most_classes (Some class) own one.0 one.1) there one.2) one.1))
      (has_mapped (rank_in ranks) up other)

  not_up : (class other : ℕ) → HasRow rows class → (HasRow rows other → ⊥) → false ≡ has (numbers_up most_above program (Some class)) other
  not_up class other own none = elim (either (has (numbers_up most_above program (Some class)) other)) [
    | inl e ↦ absurd (none (all_have most_above (Some class) own other e))
    | inr e ↦ sym e
  ]

pub up_reported : (program : Program) (order ranks : List ℕ) (rows : List (List ℕ)) (class other rank : ℕ) (row : List ℕ) (b : Bool) → AreRanks program order ranks rows → row ≡ get_or rows class [] → 0 < length row
    → HasRow rows other → rank ≡ rank_in ranks other → b ≡ in_bits row rank → b ≡ has (numbers_up most_above program (Some class)) other
up_reported program order ranks rows class other rank row b are is some there same reported =
    let own : HasRow rows class = subst (λ (ws : List ℕ). 0 < length ws) is some in
    reported
    ∙ ap (λ (ws : List ℕ). in_bits ws rank) is
    ∙ ap (in_bits (get_or rows class [])) same
    ∙ row_decides program order ranks rows are.levels are.ranked class other own there
    ∙ ap (λ (ks : List ℕ). has ks other) (sym (above_same program are.levels class (are.ranked.each class own).row.short are.few))

pub none_up : (program : Program) (order ranks : List ℕ) (rows : List (List ℕ)) (class other : ℕ) (row : List ℕ) → AreRanks program order ranks rows → row ≡ get_or rows class [] → 0 < length row
    → (HasRow rows other → ⊥) → false ≡ has (numbers_up most_above program (Some class)) other
none_up program order ranks rows class other row are is some none =
    not_up program order ranks rows are.levels are.ranked class other (subst (λ (ws : List ℕ). 0 < length ws) is some) none

-- the rank's bit is among those of the class
pub rank_within : (program : Program) (order ranks : List ℕ) (rows : List (List ℕ)) (class other rank : ℕ) (row : List ℕ) → AreRanks program order ranks rows → row ≡ get_or rows class [] → 0 < length row
    → HasRow rows other → rank ≡ rank_in ranks other → rank < length row * 64
rank_within program order ranks rows class other rank row are is some there same =
    let own : HasRow rows class = subst (λ (ws : List ℕ). 0 < length ws) is some in
    let words : length row ≡ words_for (length program) = ap length is ∙ (are.ranked.each class own).row.words in
    let bound = (are.ranked.each other there).bound in
    omega (arith, words, bound, same)

-- ---- what stands above a class

pub first_above : (program : Program) (ranks : List ℕ) (rows : List (List ℕ)) (class rank n : ℕ) (row : List ℕ) → super_number program class ≡ None → row ≡ replicate n 0 → n ≡ words_for (length program)
    → IsRowAbove program ranks rows class rank row
first_above program ranks rows class rank n row first none count = record {
  bits = λ z. bits_none row n none z ∙ ap (λ (ks : List ℕ). has (map (rank_in ranks) ks) z) (sym (ap (numbers_up most_above program) first ∙ no_numbers_up most_above program));
  words = ap length none ∙ length-replicate n 0 ∙ count;
  short = short_first program rank class first;
  next = λ other is. absurd (none-some other (sym first ∙ is));
}

pub next_above : (program : Program) (ranks : List ℕ) (rows : List (List ℕ)) (class rank next : ℕ) (row : List ℕ) → super_number program class ≡ Some next → row ≡ get_or rows next [] → 0 < length row
    → ((k : ℕ) → HasRow rows k → IsRow program ranks rows rank k) → rank_in ranks next < rank → rank < 2 ^ 32 → IsRowAbove program ranks rows class rank row
next_above program ranks rows class rank next row is same some each lower few =
    let own : HasRow rows next = subst (λ (ws : List ℕ). 0 < length ws) same some in
    let known : IsRow program ranks rows rank next = each next own in
    record {
      bits = λ z. ap (λ (ws : List ℕ). in_bits ws z) same ∙ known.bits z
          ∙ ap (λ (ks : List ℕ). has (map (rank_in ranks) ks) z) (sym (ap (numbers_up most_above program) is ∙ above_same program rank next known.short few));
      words = ap length same ∙ known.words;
      short = short_next program rank class next is known.short;
      next = λ other reported. (let e : next ≡ other = same_Some next other (sym is ∙ reported) in (subst (HasRow rows) e own, subst (λ (k : ℕ). rank_in ranks k < rank) e lower));
    }

-- ---- a class more

module _ (program : Program) (order ranks : List ℕ) (rows : List (List ℕ)) (rank class : ℕ) (above row : List ℕ) (ranked : AreRanked program order ranks rows rank) (lt : class < length program) (below : rank < length program)
    (at : get_or order rank 0 ≡ class) (is : rank_in ranks class ≡ rank) (known : IsRowAbove program ranks rows class rank above) (put : (z : ℕ) → in_bits row z ≡ (if nat_eq rank z then true else in_bits above z)) (count : length row ≡ length above) where
  within : class < length rows
  within = omega (arith, lt, ranked.rows_count)

  more : List (List ℕ)
  more = set rows class row

  some_words : 0 < length row
  some_words = omega (arith, count, known.words)

  still : (k : ℕ) → HasRow rows k → HasRow (set rows class row) k
  still k there = elim (either (nat_eq k class)) [
    | inl e ↦ subst (λ (j : ℕ). HasRow (set rows class row) j) (sym (eqb-true k class e)) (subst (λ (ws : List ℕ). 0 < length ws) (sym (get_or-set_same rows class row [] within)) some_words)
    | inr e ↦ subst (λ (ws : List ℕ). 0 < length ws) (sym (get_or-set_other rows class k row [] (eqb-false k class e))) there
  ]

  own_row : IsRow program ranks (set rows class row) (rank + 1) class
  own_row = record {
    bits = λ z.
        ap (λ (ws : List ℕ). in_bits ws z) (get_or-set_same rows class row [] within)
        ∙ put z
        ∙ ap (λ (b : Bool). if nat_eq rank z then true else b) (known.bits z)
        ∙ ap (λ (r : ℕ). has (r ∷ map (rank_in ranks) (numbers_up most_above program (super_number program class))) z) (sym is)
        ∙ sym (ap (λ (ks : List ℕ). has (map (rank_in ranks) ks) z) (up_one program class));
    words = ap length (get_or-set_same rows class row [] within) ∙ count ∙ known.words;
    short = known.short;
  }

  own : IsRanked program order ranks (set rows class row) (rank + 1) class
  own = record {
    row = own_row;
    placed = ap (λ (r : ℕ). get_or order r 0) is ∙ at;
    bound = subst (λ (r : ℕ). r < length program) (sym is) below;
    next = λ other s. (let n = known.next other s in (still other n.0, subst (λ (r : ℕ). rank_in ranks other < r) (sym is) n.1));
  }

  kept : (k : ℕ) → get_or (set rows class row) k [] ≡ get_or rows k [] → HasRow rows k → IsRanked program order ranks (set rows class row) (rank + 1) k
  kept k other there = record {
    row = record {
      bits = subst (AreBits (map (rank_in ranks) (numbers_up most_classes program (Some k)))) (sym other) (ranked.each k there).row.bits;
      words = ap length other ∙ (ranked.each k there).row.words;
      short = short_more program rank k (ranked.each k there).row.short;
    };
    placed = (ranked.each k there).placed;
    bound = (ranked.each k there).bound;
    next = λ j s. (let n = (ranked.each k there).next j s in (still j n.0, n.1));
  }

  pub learnt : AreRanked program order ranks (set rows class row) (rank + 1)
  learnt = record {
    rows_count = length-set rows class row ∙ ranked.rows_count;
    ranks_count = ranked.ranks_count;
    each = λ k there. elim (either (nat_eq k class)) [
      | inl e ↦ subst (IsRanked program order ranks (set rows class row) (rank + 1)) (sym (eqb-true k class e)) own
      | inr e ↦ (let other = get_or-set_other rows class k row [] (eqb-false k class e) in kept k other (subst (λ (ws : List ℕ). 0 < length ws) other there))
    ];
  }

pub not_learnt : (program : Program) (order ranks : List ℕ) (rows : List (List ℕ)) (rank : ℕ) → AreRanked program order ranks rows rank → AreRanked program order ranks rows (rank + 1)
not_learnt program order ranks rows rank ranked = record {
  rows_count = ranked.rows_count;
  ranks_count = ranked.ranks_count;
  each = λ k there. record {
    row = record { bits = (ranked.each k there).row.bits; words = (ranked.each k there).row.words; short = short_more program rank k (ranked.each k there).row.short };
    placed = (ranked.each k there).placed;
    bound = (ranked.each k there).bound;
    next = (ranked.each k there).next;
  };
}

-- ---- rows as the code holds them

pub some_in : (xs : List ℕ) → nat_eq (length xs) 0 ≡ false → 0 < length xs
some_in [] test = absurd (false≢true (sym test))
some_in (x ∷ xs) test = omega arith

pub row_is_at : (rows : List (Vec ℕ)) (n class : ℕ) (found : Vec ℕ) → length (lists_of rows) ≡ n → class < n → found ≡ get_or rows class found → found.items ≡ get_or (lists_of rows) class []
row_is_at rows n class found count lt is = let mapped = length-map rows (λ (l : Vec ℕ). l.items) in item_is rows class found (omega (arith, mapped, count, lt)) is

pub learnt_rows : (program : Program) (order ranks : List ℕ) (rows : List (Vec ℕ)) (rank class : ℕ) (above : List ℕ) (row : Vec ℕ) → AreRanked program order ranks (lists_of rows) rank → class < length program → rank < length program
    → get_or order rank 0 ≡ class → rank_in ranks class ≡ rank → IsRowAbove program ranks (lists_of rows) class rank above → ((z : ℕ) → in_bits row.items z ≡ (if nat_eq rank z then true else in_bits above z))
    → length row.items ≡ length above → AreRanked program order ranks (lists_of (set rows class row)) (rank + 1)
learnt_rows program order ranks rows rank class above row ranked lt below at is known put count =
    subst (λ (ls : List (List ℕ)). AreRanked program order ranks ls (rank + 1)) (sym (map-set (λ (l : Vec ℕ). l.items) rows class row))
    (learnt program order ranks (lists_of rows) rank class above row.items ranked lt below at is known put count)

pub bit_reported : (program : Program) (order ranks : List ℕ) (rows : List (List ℕ)) (class other rank : ℕ) (row : List ℕ) (b : Bool) → AreRanks program order ranks rows → row ≡ get_or rows class [] → HasRow rows class
    → HasRow rows other → rank ≡ rank_in ranks other → b ≡ in_bits row rank → b ≡ has (numbers_up most_classes program (Some class)) other
bit_reported program order ranks rows class other rank row b are is own there same reported =
    reported ∙ ap (λ (ws : List ℕ). in_bits ws rank) is ∙ ap (in_bits (get_or rows class [])) same ∙ row_decides program order ranks rows are.levels are.ranked class other own there

pub not_among : (program : Program) (order ranks : List ℕ) (rows : List (List ℕ)) (class other : ℕ) → AreRanks program order ranks rows → HasRow rows class → (HasRow rows other → ⊥)
    → has (numbers_up most_classes program (Some class)) other ≡ false
not_among program order ranks rows class other are own none = elim (either (has (numbers_up most_classes program (Some class)) other)) [
  | inl e ↦ absurd (none (all_have program order ranks rows are.levels are.ranked most_classes (Some class) own other e))
  | inr e ↦ e
]
