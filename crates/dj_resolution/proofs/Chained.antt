-- How the lists of the rows up the superclasses come to be known.
use Rattle.std.proofs.Common.{◌≡◌, ℕ, zero, suc, ◌+◌, ◌-◌, ◌<◌, ◌≤◌, ◌^◌, Bool, true, false, List, [], ◌∷◌, ◌++◌, length, set, get_or, replicate, Option, Some, None, IfSome, is_some, nat_eq, slice_get, refl, sym, ◌∙◌, ap, subst, inl, inr, arith, get_or-set_other, get_or-set_same, eqb-true, append-nil}
use Rattle.std.specs.Prelude.{Err, IfOk, Ok, OnOk, Result, option_and_then}
use Rattle.std.specs.Global.{Vec}
use Rattle.std.specs.List.{flat_map}
use Rattle.std.specs.Option.{option_map}
use Rattle.std.proofs.lemmas.Bool.{cases_lt, false≢true, eqb-false}
use Rattle.std.proofs.lemmas.Option.{get_or_from_slice_get, same_Some, slice_get_within, none-some}
use Rattle.std.proofs.lemmas.List.{get_or_past, length-map, nil_from_length}
use Rattle.std.proofs.Math.ListN.{length-set, length-replicate}
use Rattle.dj_model.specs.trusted.Program.{Program}
use Rattle.dj_model.specs.trusted.Linking.{most_classes}
use Rattle.dj_model.proofs.MappedNames.{either}
use Rattle.dj_class_table.specs.Tables.{super_number}
use Rattle.dj_resolution.specs.declared.chains.Chains.{Chains}
use Rattle.dj_resolution.specs.Numbers.{has, with_all, first_places, numbers_up, most_above, lists_of, AreBelow, AreInside}
use Rattle.dj_resolution.specs.Chained.{AreChained, AreLearnt, AreListsOf, AreRows, IsShort, known_count, once_up, row_at}
use Rattle.dj_resolution.proofs.Finding.{super_within}
use Rattle.dj_resolution.proofs.Climbs.{most_above_is, one_more_level}
use Rattle.dj_resolution.proofs.Lists.{has_cases, has_either, has_flat, flat_alike, all_append, all_cases, all_of_places}
use Rattle.dj_resolution.proofs.Marks.{below_none, get_none, item_is}
use Rattle.dj_resolution.proofs.Walks.{no_numbers_up}

-- ---- superclasses

one_up : (program : Program) (n class : ℕ) (next : Option ℕ) → super_number program class ≡ next → numbers_up (suc n) program (Some class) ≡ class ∷ numbers_up n program next
unfolding numbers_up
one_up program n class next is = ap (λ (o : Option ℕ). class ∷ numbers_up n program o) is

pub up_one : (program : Program) (class : ℕ) → numbers_up most_classes program (Some class) ≡ class ∷ numbers_up most_above program (super_number program class)
up_one program class = ap (λ (n : ℕ). numbers_up n program (Some class)) one_more_level ∙ one_up program most_above class (super_number program class) refl

pub short_more : (program : Program) (levels class : ℕ) → IsShort program levels class → IsShort program (levels + 1) class
short_more program levels class short = record {
  same = λ n.
      (let more : n + (levels + 1) ≡ (n + 1) + levels = omega arith in
      let one : levels + 1 ≡ 1 + levels = omega arith in
      ap (λ (m : ℕ). numbers_up m program (Some class)) more ∙ short.same (n + 1) ∙ sym (ap (λ (m : ℕ). numbers_up m program (Some class)) one ∙ short.same 1));
}

pub short_first : (program : Program) (levels class : ℕ) → super_number program class ≡ None → IsShort program (levels + 1) class
short_first program levels class is = record {
  same = λ n.
      (let more : n + (levels + 1) ≡ suc (n + levels) = omega arith in
      let one : levels + 1 ≡ suc levels = omega arith in
      ap (λ (m : ℕ). numbers_up m program (Some class)) more
      ∙ one_up program (n + levels) class None is
      ∙ ap (λ (ks : List ℕ). class ∷ ks) (no_numbers_up (n + levels) program ∙ sym (no_numbers_up levels program))
      ∙ sym (ap (λ (m : ℕ). numbers_up m program (Some class)) one ∙ one_up program levels class None is));
}

pub short_next : (program : Program) (levels class next : ℕ) → super_number program class ≡ Some next → IsShort program levels next → IsShort program (levels + 1) class
short_next program levels class next is short = record {
  same = λ n.
      (let more : n + (levels + 1) ≡ suc (n + levels) = omega arith in
      let one : levels + 1 ≡ suc levels = omega arith in
      ap (λ (m : ℕ). numbers_up m program (Some class)) more
      ∙ one_up program (n + levels) class (Some next) is
      ∙ ap (λ (ks : List ℕ). class ∷ ks) (short.same n)
      ∙ sym (ap (λ (m : ℕ). numbers_up m program (Some class)) one ∙ one_up program levels class (Some next) is));
}

pub short_at : (program : Program) (levels class m : ℕ) → IsShort program levels class → levels ≤ m → numbers_up m program (Some class) ≡ numbers_up levels program (Some class)
short_at program levels class m short le =
    let whole : m ≡ (m - levels) + levels = omega arith in
    ap (λ (n : ℕ). numbers_up n program (Some class)) whole ∙ short.same (m - levels)

up_first : (program : Program) (class : ℕ) → super_number program class ≡ None → numbers_up most_classes program (Some class) ≡ class ∷ []
up_first program class is =
    ap (λ (n : ℕ). numbers_up n program (Some class)) one_more_level ∙ one_up program most_above class None is ∙ ap (λ (ks : List ℕ). class ∷ ks) (no_numbers_up most_above program)

pub up_next : (program : Program) (levels class next : ℕ) → super_number program class ≡ Some next → IsShort program levels next → levels < 2 ^ 32
    → numbers_up most_classes program (Some class) ≡ class ∷ numbers_up most_classes program (Some next)
up_next program levels class next is short lt =
    let most = most_above_is in
    let one = one_more_level in
    let few : levels ≤ most_above = omega (arith, most, lt) in
    let all : levels ≤ most_classes = omega (arith, most, one, lt) in
    ap (λ (n : ℕ). numbers_up n program (Some class)) one_more_level
    ∙ one_up program most_above class (Some next) is
    ∙ ap (λ (ks : List ℕ). class ∷ ks) (short_at program levels next most_above short few ∙ sym (short_at program levels next most_classes short all))

-- ---- rows up the superclasses

pub once_first : (program : Program) (row : ℕ → List ℕ) (class : ℕ) → super_number program class ≡ None → once_up program row class ≡ first_places (row class)
once_first program row class is = ap (λ (ks : List ℕ). first_places (flat_map row ks)) (up_first program class is) ∙ ap first_places (append-nil (row class))

pub once_next : (program : Program) (row : ℕ → List ℕ) (levels class next : ℕ) → super_number program class ≡ Some next → IsShort program levels next → levels < 2 ^ 32
    → once_up program row class ≡ with_all (first_places (row class)) (once_up program row next)
once_next program row levels class next is short lt =
    let above : List ℕ = flat_map row (numbers_up most_classes program (Some next)) in
    ap (λ (ks : List ℕ). first_places (flat_map row ks)) (up_next program levels class next is short lt)
    ∙ all_append [] (row class) above
    ∙ sym (all_of_places (first_places (row class)) above)

pub once_shared : (program : Program) (row : ℕ → List ℕ) (levels class next : ℕ) → super_number program class ≡ Some next → IsShort program levels next → levels < 2 ^ 32 → row class ≡ []
    → once_up program row next ≡ once_up program row class
once_shared program row levels class next is short lt empty =
    sym (once_next program row levels class next is short lt
    ∙ ap (λ (xs : List ℕ). with_all (first_places xs) (once_up program row next)) empty
    ∙ all_of_places [] (flat_map row (numbers_up most_classes program (Some next))))

-- a class and its superclasses are there
pub up_within : (n : ℕ) (program : Program) (next : Option ℕ) → IfSome next (λ k. k < length program) → AreBelow (length program) (numbers_up n program next)
unfolding numbers_up
up_within zero program next within z there = absurd (false≢true there)
up_within (suc n) program None within z there = absurd (false≢true there)
up_within (suc n) program (Some k) within z there = elim (has_cases (numbers_up n program (super_number program k)) k z there) [
  | inl e ↦ omega (arith, e, within)
  | inr h ↦ up_within n program (super_number program k) (super_within program (slice_get program k)) z h
]

-- the numbers of the rows are below the bound
pub rows_below : (program : Program) (row : ℕ → List ℕ) (bound class : ℕ) → class < length program → ((k : ℕ) → k < length program → AreBelow bound (row k)) → AreBelow bound (once_up program row class)
rows_below program row bound class lt each z there = elim (all_cases [] (flat_map row (numbers_up most_classes program (Some class))) z there) [
  | inl none ↦ absurd (false≢true none)
  | inr h ↦ (let above = has_flat row (numbers_up most_classes program (Some class)) z h in each above.0 (up_within most_classes program (Some class) lt above.0 above.1) z above.2)
]

reported_within : (places : List (Option ℕ)) (k place : ℕ) → get_or places k None ≡ Some place → k < length places
reported_within [] k place reported = absurd (none-some place reported)
reported_within (o ∷ places) zero place reported = omega arith
reported_within (o ∷ places) (suc k) place reported = let rest = reported_within places k place reported in omega (arith, rest)

-- rows that are the same have the same lists
pub chained_alike : (program : Program) (row other : ℕ → List ℕ) (lists : List (List ℕ)) (places : List (Option ℕ)) → ((k : ℕ) → k < length program → row k ≡ other k) → AreChained program row lists places → AreChained program other lists places
chained_alike program row other lists places same are = record {
  count = are.count;
  each = λ k p reported.
      (let lt : k < length program = (let within = reported_within places k p reported in omega (arith, within, are.count)) in
      are.each k p reported
      ∙ ap (λ (xs : List ℕ). Some (first_places xs)) (flat_alike row other (numbers_up most_classes program (Some k)) (λ x there. same x (up_within most_classes program (Some k) lt x there))));
}

-- rows by their lists are inside the bound
pub rows_inside : (program : Program) (row : ℕ → List ℕ) (lists : List (List ℕ)) → AreRows program row lists → ((k : ℕ) → k < length program → AreBelow (length program) (row k)) → AreInside (length program) lists
rows_inside program row lists rows below = record {
  count = rows.count;
  each = λ k. elim (cases_lt k (length program)) [
    | inl lt ↦ subst (AreBelow (length program)) (sym (rows.each k lt)) (below k lt)
    | inr past ↦ subst (AreBelow (length program)) (sym (get_or_past lists k [] (omega (arith, rows.count, past)))) (below_none (length program))
  ];
}

-- ---- what is known

few_known : (places : List (Option ℕ)) → known_count places ≤ length places
few_known [] = omega arith
few_known (None ∷ places) = let rest = few_known places in omega (arith, rest)
few_known (Some place ∷ places) = let rest = few_known places in omega (arith, rest)

pub few_levels : (program : Program) (row : ℕ → List ℕ) (lists : List (List ℕ)) (places : List (Option ℕ)) → AreLearnt program row lists places → length program < 2 ^ 31 → known_count places < 2 ^ 32
few_levels program row lists places are few = let le = few_known places in omega (arith, le, are.chained.count, few)

more_known : (places : List (Option ℕ)) (class place : ℕ) → class < length places → get_or places class None ≡ None → known_count (set places class (Some place)) ≡ known_count places + 1
more_known [] class place lt new = absurd (omega (arith, lt))
more_known (o ∷ places) zero place lt new = rw new refl
more_known (None ∷ places) (suc class) place lt new = more_known places class place (omega (arith, lt)) new
more_known (Some p ∷ places) (suc class) place lt new = let rest = more_known places class place (omega (arith, lt)) new in omega (arith, rest)

-- a class has a place
pub learnt_share : (program : Program) (row : ℕ → List ℕ) (lists : List (List ℕ)) (places : List (Option ℕ)) (class place : ℕ) → AreLearnt program row lists places → class < length program → get_or places class None ≡ None
    → slice_get lists place ≡ Some (once_up program row class) → IsShort program (known_count places + 1) class → AreLearnt program row lists (set places class (Some place))
learnt_share program row lists places class place are lt new there short =
    let within : class < length places = omega (arith, are.chained.count, lt) in
    let own : get_or (set places class (Some place)) class None ≡ Some place = get_or-set_same places class (Some place) None within in
    record {
      chained = record {
        count = length-set places class (Some place) ∙ are.chained.count;
        each = λ k p reported. elim (either (nat_eq k class)) [
          | inl e ↦
              (let same : k ≡ class = eqb-true k class e in
              let at : place ≡ p = same_Some place p (sym own ∙ ap (λ (j : ℕ). get_or (set places class (Some place)) j None) (sym same) ∙ reported) in
              ap (slice_get lists) (sym at) ∙ there ∙ ap (λ (j : ℕ). Some (once_up program row j)) (sym same))
          | inr e ↦ are.chained.each k p (sym (get_or-set_other places class k (Some place) None (eqb-false k class e)) ∙ reported)
        ];
      };
      short = λ k p reported.
          subst (λ (n : ℕ). IsShort program n k) (sym (more_known places class place within new)) (elim (either (nat_eq k class)) [
            | inl e ↦ subst (IsShort program (known_count places + 1)) (sym (eqb-true k class e)) short
            | inr e ↦ short_more program (known_count places) k (are.short k p (sym (get_or-set_other places class k (Some place) None (eqb-false k class e)) ∙ reported))
          ]);
    }

still_there : {A : Type 0} (xs ys : List A) (k : ℕ) (x : A) → slice_get xs k ≡ Some x → slice_get (xs ++ ys) k ≡ Some x
still_there [] ys k x there = absurd (none-some x there)
still_there (y ∷ xs) ys zero x there = there
still_there (y ∷ xs) ys (suc k) x there = still_there xs ys k x there

at_end : {A : Type 0} (xs : List A) (x : A) → slice_get (xs ++ x ∷ []) (length xs) ≡ Some x
at_end [] x = refl
at_end (y ∷ xs) x = at_end xs x

-- a class has a list of its own
pub learnt_put : (program : Program) (row : ℕ → List ℕ) (lists : List (List ℕ)) (places : List (Option ℕ)) (class : ℕ) (list : List ℕ) → AreLearnt program row lists places → class < length program → get_or places class None ≡ None
    → list ≡ once_up program row class → IsShort program (known_count places + 1) class → AreLearnt program row (lists ++ list ∷ []) (set places class (Some (length lists)))
learnt_put program row lists places class list are lt new is short =
    learnt_share program row (lists ++ list ∷ []) places class (length lists)
    (record {
      chained = record { count = are.chained.count; each = λ k p reported. still_there lists (list ∷ []) p (once_up program row k) (are.chained.each k p reported) };
      short = are.short;
    })
    lt new (at_end lists list ∙ ap Some is) short

pub learnt_none : (program : Program) (row : ℕ → List ℕ) (lists : List (List ℕ)) (places : List (Option ℕ)) (n : ℕ) → n ≡ length program → places ≡ replicate n None → AreLearnt program row lists places
learnt_none program row lists places n count none = record {
  chained = record {
    count = ap length none ∙ length-replicate n None ∙ count;
    each = λ k p reported. absurd (none-some p (sym (ap (λ (os : List (Option ℕ)). get_or os k None) none ∙ get_none n k None) ∙ reported));
  };
  short = λ k p reported. absurd (none-some p (sym (ap (λ (os : List (Option ℕ)). get_or os k None) none ∙ get_none n k None) ∙ reported));
}

-- ---- what is there

-- a list that is found is the class's
pub list_reported : (program : Program) (row : ℕ → List ℕ) (lists : List (List ℕ)) (places : List (Option ℕ)) (class : ℕ) (list : List ℕ) → AreChained program row lists places
    → Some list ≡ option_and_then (slice_get lists) (get_or places class None) → list ≡ once_up program row class
list_reported program row lists places class list are reported = go (get_or places class None) refl reported where
  go : (o : Option ℕ) → get_or places class None ≡ o → Some list ≡ option_and_then (slice_get lists) o → list ≡ once_up program row class
  go None is reported = absurd (none-some list (sym reported))
  go (Some p) is reported = same_Some list (once_up program row class) (reported ∙ are.each class p is)

-- whether it has a number
pub has_reported : (program : Program) (row : ℕ → List ℕ) (lists : List (List ℕ)) (places : List (Option ℕ)) (class number : ℕ) (there : Bool) → AreChained program row lists places
    → Some there ≡ option_map (λ list. has list number) (option_and_then (slice_get lists) (get_or places class None)) → there ≡ has (once_up program row class) number
has_reported program row lists places class number there are reported = go (option_and_then (slice_get lists) (get_or places class None)) refl reported where
  go : (o : Option (List ℕ)) → option_and_then (slice_get lists) (get_or places class None) ≡ o → Some there ≡ option_map (λ list. has list number) o → there ≡ has (once_up program row class) number
  go None is reported = absurd (none-some there (sym reported))
  go (Some list) is reported = same_Some there (has list number) reported ∙ ap (λ (xs : List ℕ). has xs number) (list_reported program row lists places class list are (sym is))

-- ---- one class

pub next_within : (program : Program) (class next : ℕ) → super_number program class ≡ Some next → next < length program
next_within program class next is = subst (λ (o : Option ℕ). IfSome o (λ k. k < length program)) is (super_within program (slice_get program class))

module _ (program : Program) (rows lists : List (List ℕ)) (places : List (Option ℕ)) (class : ℕ) (few : length program < 2 ^ 31) (lt : class < length program) (new : get_or places class None ≡ None) (are : AreLearnt program (row_at rows) lists places) where
  pub first_put : (list : List ℕ) → super_number program class ≡ None → list ≡ with_all (first_places (get_or rows class [])) [] → AreLearnt program (row_at rows) (lists ++ list ∷ []) (set places class (Some (length lists)))
  first_put list first is =
      learnt_put program (row_at rows) lists places class list are lt new (is ∙ sym (once_first program (row_at rows) class first)) (short_first program (known_count places) class first)

  pub shared_below : (next place : ℕ) → super_number program class ≡ Some next → get_or places next None ≡ Some place → get_or rows class [] ≡ [] → AreLearnt program (row_at rows) lists (set places class (Some place))
  shared_below next place is reported empty =
      learnt_share program (row_at rows) lists places class place are lt new
      (are.chained.each next place reported
      ∙ ap Some (once_shared program (row_at rows) (known_count places) class next is (are.short next place reported) (few_levels program (row_at rows) lists places are few) empty))
      (short_next program (known_count places) class next is (are.short next place reported))

  pub put_below : (list : List ℕ) (next place : ℕ) → super_number program class ≡ Some next → get_or places next None ≡ Some place
      → list ≡ with_all (first_places (get_or rows class [])) (once_up program (row_at rows) next) → AreLearnt program (row_at rows) (lists ++ list ∷ []) (set places class (Some (length lists)))
  put_below list next place is reported joined =
      learnt_put program (row_at rows) lists places class list are lt new
      (joined ∙ sym (once_next program (row_at rows) (known_count places) class next is (are.short next place reported) (few_levels program (row_at rows) lists places are few)))
      (short_next program (known_count places) class next is (are.short next place reported))

-- ---- lists and places as the code holds them

pub next_place : (program : Program) (places : List (Option ℕ)) (class next : ℕ) → length places ≡ length program → super_number program class ≡ Some next → next < length places
next_place program places class next count is = let lt = next_within program class next is in omega (arith, lt, count)

pub item_at : {A : Type 0} (xs : List A) (k : ℕ) (x d : A) → k < length xs → x ≡ get_or xs k x → get_or xs k d ≡ x
item_at [] k x d lt is = absurd (omega (arith, lt))
item_at (y ∷ xs) zero x d lt is = sym is
item_at (y ∷ xs) (suc k) x d lt is = item_at xs k x d (omega (arith, lt)) is

-- the place that the superclass has
pub place_reported : (program : Program) (places : List (Option ℕ)) (class next place : ℕ) (o : Option ℕ) → length places ≡ length program → super_number program class ≡ Some next → o ≡ get_or places next o → o ≡ Some place → get_or places next None ≡ Some place
place_reported program places class next place o count is at reported = item_at places next o None (next_place program places class next count is) at ∙ reported

no_place : (o : Option ℕ) → is_some o ≡ false → o ≡ None
no_place None none = refl
no_place (Some place) none = absurd (false≢true (sym none))

pub not_yet : (places : List (Option ℕ)) (class : ℕ) (o : Option ℕ) (known : Bool) → class < length places → o ≡ get_or places class o → known ≡ is_some o → known ≡ false → get_or places class None ≡ None
not_yet places class o known lt at is none = item_at places class o None lt at ∙ no_place o (sym is ∙ none)

pub place_within : (lists : List (Vec ℕ)) (place : ℕ) (list : List ℕ) → slice_get (lists_of lists) place ≡ Some list → place < length lists
place_within lists place list there =
    let within = slice_get_within (lists_of lists) place list there in
    let count = length-map lists (λ (l : Vec ℕ). l.items) in
    omega (arith, within, count)

pub list_is : (lists : List (Vec ℕ)) (place : ℕ) (found : Vec ℕ) (list : List ℕ) → slice_get (lists_of lists) place ≡ Some list → found ≡ get_or lists place found → found.items ≡ list
list_is lists place found list there is = item_is lists place found (place_within lists place list there) is ∙ get_or_from_slice_get (lists_of lists) place list [] there

pub row_is : (bound : ℕ) (rows : List (Vec ℕ)) (class : ℕ) (found : Vec ℕ) → AreInside bound (lists_of rows) → class < bound → found ≡ get_or rows class found → found.items ≡ get_or (lists_of rows) class []
row_is bound rows class found inside lt is = let count = length-map rows (λ (l : Vec ℕ). l.items) in item_is rows class found (omega (arith, count, inside.count, lt)) is

pub nothing_in : (xs : List ℕ) → nat_eq (length xs) 0 ≡ true → xs ≡ []
nothing_in xs test = nil_from_length xs (eqb-true (length xs) 0 test)

pub rows_count : (bound : ℕ) (rows : List (Vec ℕ)) → AreInside bound (lists_of rows) → bound ≡ length rows
rows_count bound rows inside = let count = length-map rows (λ (l : Vec ℕ). l.items) in omega (arith, count, inside.count)

pub below_is : (bound other : ℕ) (xs ys : List ℕ) → bound ≡ other → ys ≡ xs → AreBelow bound xs → AreBelow other ys
below_is bound other xs ys same is below z there = subst (λ (n : ℕ). z < n) same (below z (subst (λ (ws : List ℕ). has ws z ≡ true) is there))

-- what was put
pub learnt_ok : {T E : Type 0} (r : Result T E) (program : Program) (row : ℕ → List ℕ) (lists : List (List ℕ)) (places : List (Option ℕ)) (more : List (List ℕ)) (others : List (Option ℕ)) → OnOk r (more ≡ lists) → OnOk r (others ≡ places)
    → AreLearnt program row lists places → OnOk r (AreLearnt program row more others)
learnt_ok (Ok x) program row lists places more others same_lists same_places are =
    subst (λ (ls : List (List ℕ)). AreLearnt program row ls others) (sym same_lists) (subst (AreLearnt program row lists) (sym same_places) are)
learnt_ok (Err e) program row lists places more others same_lists same_places are = tt

-- ---- all classes

pub below_append : (bound : ℕ) (xs ys zs : List ℕ) → AreBelow bound xs → AreBelow bound ys → zs ≡ xs ++ ys → AreBelow bound zs
below_append bound xs ys zs one two is z there = elim (has_either xs ys z (subst (λ (ws : List ℕ). has ws z ≡ true) is there)) [ inl h ↦ one z h | inr h ↦ two z h ]

-- the lists of rows that are the same
pub lists_ok : {E : Type 0} (r : Result Chains E) (program : Program) (row other : ℕ → List ℕ) → ((k : ℕ) → k < length program → row k ≡ other k) → IfOk r (AreListsOf program row) → IfOk r (AreListsOf program other)
lists_ok (Ok chains) program row other same are = chained_alike program row other (lists_of chains.lists.items) chains.places.items same are
lists_ok (Err e) program row other same are = tt
