-- How the interfaces above each class come to be known.
use Rattle.std.proofs.Common.{◌≡◌, ℕ, zero, suc, ◌+◌, ◌<◌, ◌≤◌, ◌^◌, Bool, true, false, List, [], ◌∷◌, ◌++◌, length, take, set, get_or, replicate, nat_eq, sym, ◌∙◌, ap, subst, inl, inr, arith, get_or-set_other, get_or-set_same, eqb-true, append-nil}
use Rattle.std.specs.List.{flat_map}
use Rattle.std.specs.Global.{Vec}
use Rattle.std.proofs.lemmas.Bool.{false≢true, eqb-false}
use Rattle.std.proofs.lemmas.List.{take_more, take_all, map-set}
use Rattle.std.proofs.lemmas.Grind.{flat_map-append}
use Rattle.std.proofs.Math.ListN.{length-set, length-replicate}
use Rattle.dj_model.specs.trusted.Program.{Program}
use Rattle.dj_model.proofs.MappedNames.{either}
use Rattle.dj_class_table.specs.Tables.{interface_numbers}
use Rattle.dj_resolution.specs.Bits.{words_for}
use Rattle.dj_resolution.specs.Numbers.{has, with_new, with_all, with_above, AreBelow, AreAbove, AreKnown, IsEnough, marked_count, numbers_above, once_above, lists_of}
use Rattle.dj_resolution.proofs.Lists.{has_cases, has_either, all_append, all_of_places}
use Rattle.dj_resolution.proofs.Levels.{IsClosed, closed_none, closed_more, nothing_new, above_listed, enough_more, enough_next}
use Rattle.dj_resolution.proofs.Marks.{once_below, get_none}

-- ---- one class

-- the first i interfaces that the class lists are known, and are in the list with those above them
pub record IsGathered (program : Program) (known : List Bool) (class i : ℕ) (list words : List ℕ) : Type 0 where
  pub bound : length words ≡ words_for (length program)
  pub gathered : list ≡ with_all [] (flat_map (λ k. k ∷ numbers_above program k) (take i (interface_numbers program class)))
  pub closed : IsClosed program list
  pub enough : (k : ℕ) → has (take i (interface_numbers program class)) k ≡ true → IsEnough program (marked_count known) k

pub gathered_none : (program : Program) (known : List Bool) (class : ℕ) (list words : List ℕ) → list ≡ [] → length words ≡ words_for (length program) → IsGathered program known class 0 list words
gathered_none program known class list words none bound = record {
  bound = bound;
  gathered = none;
  closed = subst (IsClosed program) (sym none) (closed_none program);
  enough = λ k there. absurd (false≢true there);
}

few_marked : (marks : List Bool) → marked_count marks ≤ length marks
few_marked [] = omega arith
few_marked (true ∷ marks) = let rest = few_marked marks in omega (arith, rest)
few_marked (false ∷ marks) = let rest = few_marked marks in omega (arith, rest)

few_marks : (program : Program) (lists : List (List ℕ)) (known : List Bool) → AreKnown program lists known → length program < 2 ^ 31 → marked_count known < 2 ^ 32
few_marks program lists known are few = let le = few_marked known in omega (arith, le, are.marks_count, few)

comes : (program : Program) (lists : List (List ℕ)) (known : List Bool) (list : List ℕ) (j : ℕ) → AreKnown program lists known → IsClosed program list → get_or known j false ≡ true
    → with_above lists list j ≡ with_all list (j ∷ numbers_above program j)
comes program lists known list j are closed marked = elim (either (has list j)) [
  | inl e ↦ rw e (sym (nothing_new program list j closed e))
  | inr e ↦ rw (e, are.each j marked) (all_of_places (with_new list j) (numbers_above program j))
]

pub gathered_more : (program : Program) (lists : List (List ℕ)) (known : List Bool) (class i : ℕ) (list more words others : List ℕ) → AreKnown program lists known → length program < 2 ^ 31
    → IsGathered program known class i list words → i < length (interface_numbers program class)
    → get_or known (get_or (interface_numbers program class) i 0) false ≡ true
    → more ≡ with_above lists list (get_or (interface_numbers program class) i 0) → length others ≡ length words
    → IsGathered program known class (i + 1) more others
gathered_more program lists known class i list more words others are few so_far lt marked is bound =
    let listed : List ℕ = interface_numbers program class in
    let j : ℕ = get_or (interface_numbers program class) i 0 in
    let next : more ≡ with_all list (j ∷ numbers_above program j) = is ∙ comes program lists known list j are so_far.closed marked in
    let step : take (i + 1) listed ≡ take i listed ++ j ∷ [] = take_more listed i 0 lt in
    record {
      bound = bound ∙ so_far.bound;
      gathered =
          next ∙ ap (λ (xs : List ℕ). with_all xs (j ∷ numbers_above program j)) so_far.gathered
          ∙ sym (ap (λ (xs : List ℕ). with_all [] (flat_map (λ k. k ∷ numbers_above program k) xs)) step
          ∙ ap (with_all []) (flat_map-append (λ k. k ∷ numbers_above program k) (take i listed) (j ∷ []) ∙ ap (λ (xs : List ℕ). flat_map (λ k. k ∷ numbers_above program k) (take i listed) ++ xs) (append-nil (j ∷ numbers_above program j)))
          ∙ all_append [] (flat_map (λ k. k ∷ numbers_above program k) (take i listed)) (j ∷ numbers_above program j));
      closed = subst (IsClosed program) (sym next) (closed_more program (marked_count known) list j so_far.closed (are.enough j marked) (few_marks program lists known are few));
      enough = λ k there.
          elim (has_either (take i listed) (j ∷ []) k (subst (λ (xs : List ℕ). has xs k ≡ true) step there)) [
            | inl h ↦ so_far.enough k h
            | inr h ↦ elim (has_cases [] j k h) [ inl e ↦ subst (IsEnough program (marked_count known)) e (are.enough j marked) | inr none ↦ absurd (false≢true none) ]
          ];
    }

-- the same by the row in which the code finds what is listed
pub gathered_row : (program : Program) (lists : List (List ℕ)) (known : List Bool) (class i : ℕ) (list more words others : List ℕ) (row : List ℕ) → row ≡ interface_numbers program class
    → AreKnown program lists known → length program < 2 ^ 31 → IsGathered program known class i list words → i < length row
    → get_or known (get_or row i 0) false ≡ true → more ≡ with_above lists list (get_or row i 0) → length others ≡ length words → IsGathered program known class (i + 1) more others
gathered_row program lists known class i list more words others row same are few so_far lt marked is bound =
    gathered_more program lists known class i list more words others are few so_far (subst (λ (xs : List ℕ). i < length xs) same lt) (subst (λ (xs : List ℕ). get_or known (get_or xs i 0) false ≡ true) same marked)
    (subst (λ (xs : List ℕ). more ≡ with_above lists list (get_or xs i 0)) same is) bound

pub gathered_enough : (program : Program) (known : List Bool) (class i : ℕ) (list words : List ℕ) → IsGathered program known class i list words → length (interface_numbers program class) ≤ i
    → IsEnough program (marked_count known + 1) class
gathered_enough program known class i list words so_far le =
    let all : take i (interface_numbers program class) ≡ interface_numbers program class = take_all i (interface_numbers program class) le in
    enough_next program (marked_count known) class (λ k there. so_far.enough k (subst (λ (xs : List ℕ). has xs k ≡ true) (sym all) there))

pub gathered_all : (program : Program) (lists : List (List ℕ)) (known : List Bool) (class i : ℕ) (list words : List ℕ) → AreKnown program lists known → length program < 2 ^ 31
    → IsGathered program known class i list words → length (interface_numbers program class) ≤ i → list ≡ once_above program class
gathered_all program lists known class i list words are few so_far le =
    let all : take i (interface_numbers program class) ≡ interface_numbers program class = take_all i (interface_numbers program class) le in
    so_far.gathered
    ∙ ap (λ (xs : List ℕ). with_all [] (flat_map (λ k. k ∷ numbers_above program k) xs)) all
    ∙ ap (with_all []) (sym (above_listed program (marked_count known) class (λ k there. so_far.enough k (subst (λ (xs : List ℕ). has xs k ≡ true) (sym all) there)) (few_marks program lists known are few)))

-- ---- all classes

more_marked : (marks : List Bool) (class : ℕ) → class < length marks → get_or marks class false ≡ false → marked_count (set marks class true) ≡ marked_count marks + 1
more_marked [] class lt not_yet = absurd (omega (arith, lt))
more_marked (b ∷ marks) zero lt not_yet = rw not_yet (omega arith)
more_marked (true ∷ marks) (suc class) lt not_yet = let rest = more_marked marks class (omega (arith, lt)) not_yet in omega (arith, rest)
more_marked (false ∷ marks) (suc class) lt not_yet = more_marked marks class (omega (arith, lt)) not_yet

pub known_more : (program : Program) (lists : List (List ℕ)) (marks : List Bool) (class : ℕ) (list : List ℕ) → AreKnown program lists marks → class < length program → get_or marks class false ≡ false
    → list ≡ once_above program class → IsEnough program (marked_count marks + 1) class → AreKnown program (set lists class list) (set marks class true)
known_more program lists marks class list are lt not_yet is enough = record {
  lists_count = length-set lists class list ∙ are.lists_count;
  marks_count = length-set marks class true ∙ are.marks_count;
  each = λ k marked. elim (either (nat_eq k class)) [
    | inl e ↦ subst (λ (j : ℕ). get_or (set lists class list) j [] ≡ once_above program j) (sym (eqb-true k class e)) (get_or-set_same lists class list [] (omega (arith, are.lists_count, lt)) ∙ is)
    | inr e ↦ get_or-set_other lists class k list [] (eqb-false k class e) ∙ are.each k (sym (get_or-set_other marks class k true false (eqb-false k class e)) ∙ marked)
  ];
  enough = λ k marked.
      (let count : marked_count (set marks class true) ≡ marked_count marks + 1 = more_marked marks class (omega (arith, are.marks_count, lt)) not_yet in
      subst (λ (n : ℕ). IsEnough program n k) (sym count) (elim (either (nat_eq k class)) [
        | inl e ↦ subst (IsEnough program (marked_count marks + 1)) (sym (eqb-true k class e)) enough
        | inr e ↦ enough_more program (marked_count marks) k (are.enough k (sym (get_or-set_other marks class k true false (eqb-false k class e)) ∙ marked))
      ]));
}

pub known_none : (program : Program) (lists : List (List ℕ)) (marks : List Bool) (n : ℕ) → n ≡ length program → lists ≡ replicate n [] → marks ≡ replicate n false → AreKnown program lists marks
known_none program lists marks n count no_lists no_marks = record {
  lists_count = ap length no_lists ∙ length-replicate n [] ∙ count;
  marks_count = ap length no_marks ∙ length-replicate n false ∙ count;
  each = λ k marked. absurd (false≢true (sym (ap (λ (bs : List Bool). get_or bs k false) no_marks ∙ get_none n k false) ∙ marked));
  enough = λ k marked. absurd (false≢true (sym (ap (λ (bs : List Bool). get_or bs k false) no_marks ∙ get_none n k false) ∙ marked));
}

pub known_below : (program : Program) (lists : List (List ℕ)) (marks : List Bool) → AreKnown program lists marks → (k : ℕ) → get_or marks k false ≡ true → AreBelow (length program) (get_or lists k [])
known_below program lists marks are k marked = subst (AreBelow (length program)) (sym (are.each k marked)) (once_below program k)

pub all_known : (program : Program) (lists : List (List ℕ)) (marks : List Bool) → AreKnown program lists marks → ((k : ℕ) → k < length marks → get_or marks k false ≡ true) → AreAbove program lists
all_known program lists marks are all = record { count = are.lists_count; each = λ k lt. are.each k (all k (omega (arith, are.marks_count, lt))) }

-- the same by the lists as the code holds them
pub known_learnt : (program : Program) (lists : List (Vec ℕ)) (marks : List Bool) (class : ℕ) (list : Vec ℕ) → AreKnown program (lists_of lists) marks → class < length program → get_or marks class false ≡ false
    → list.items ≡ once_above program class → IsEnough program (marked_count marks + 1) class → AreKnown program (lists_of (set lists class list)) (set marks class true)
known_learnt program lists marks class list are lt not_yet is enough =
    subst (λ (ls : List (List ℕ)). AreKnown program ls (set marks class true)) (sym (map-set (λ (l : Vec ℕ). l.items) lists class list))
    (known_more program (lists_of lists) marks class list.items are lt not_yet is enough)
