-- Marks of numbers, and numbers that are put to a list.
use Rattle.std.proofs.Common.{◌≡◌, ℕ, zero, suc, ◌+◌, ◌<◌, Bool, true, false, List, [], ◌∷◌, ◌++◌, length, take, set, get_or, replicate, nat_eq, refl, sym, ◌∙◌, ap, subst, slice_get, inl, inr, arith, get_or-set_other, get_or-set_same, eqb-true}
use Rattle.std.proofs.lemmas.Bool.{false≢true, eqb-false}
use Rattle.std.specs.Global.{Vec}
use Rattle.std.proofs.lemmas.List.{take_more, get_or-map, length-map, map-set}
use Rattle.std.proofs.Math.ListN.{length-set, length-replicate}
use Rattle.dj_model.specs.trusted.Program.{Program, interfaces_of}
use Rattle.dj_names.specs.trusted.Types.{Name}
use Rattle.dj_model.specs.trusted.Linking.{most_classes}
use Rattle.dj_model.proofs.MappedNames.{either}
use Rattle.dj_class_table.specs.Tables.{class_numbers, interface_numbers}
use Rattle.dj_resolution.specs.Numbers.{has, with_new, with_all, AreBelow, numbers_from, numbers_above, once_above, lists_of, AreAbove, AreInside}
use Rattle.dj_resolution.proofs.Lists.{has_cases, has_either, has_flat, all_append, all_cases}
use Rattle.dj_resolution.proofs.Finding.{has_at}
use Rattle.dj_resolution.proofs.Walks.{Missing, There, looked}

pub has_push_other : (xs : List ℕ) (x k : ℕ) → nat_eq x k ≡ false → has (xs ++ x ∷ []) k ≡ has xs k
has_push_other [] x k apart = rw apart refl
has_push_other (y ∷ xs) x k apart = elim (either (nat_eq y k)) [ inl e ↦ rw e refl | inr e ↦ rw e (has_push_other xs x k apart) ]

pub get_none : {A : Type 0} (n k : ℕ) (x : A) → get_or (replicate n x) k x ≡ x
get_none zero k x = refl
get_none (suc n) zero x = refl
get_none (suc n) (suc k) x = get_none n k x

pub all_more : (xs ys : List ℕ) (i : ℕ) → i < length ys → with_all xs (take (i + 1) ys) ≡ with_new (with_all xs (take i ys)) (get_or ys i 0)
all_more xs ys i lt = ap (with_all xs) (take_more ys i 0 lt) ∙ all_append xs (take i ys) (get_or ys i 0 ∷ [])

-- ---- bounds

pub numbers_below : (program : Program) (names : List Name) → AreBelow (length program) (class_numbers program names)
numbers_below program [] z there = absurd (false≢true there)
numbers_below program (name ∷ names) z there = elim (looked program name) [
  | Missing number class ↦ numbers_below program names z (rw number at there)
  | There k c number at class named lt ↦ elim (has_cases (class_numbers program names) k z (rw number at there)) [ inl e ↦ omega (arith, e, lt) | inr h ↦ numbers_below program names z h ]
]

levels_below : (n : ℕ) (program : Program) (classes : List ℕ) → AreBelow (length program) classes → AreBelow (length program) (numbers_from n program classes)
unfolding numbers_from
levels_below zero program classes below z there = absurd (false≢true there)
levels_below (suc n) program classes below z there =
    let above : (k : ℕ) × (has classes k ≡ true) × (has (k ∷ numbers_from n program (interface_numbers program k)) z ≡ true) =
    has_flat (λ k. k ∷ numbers_from n program (interface_numbers program k)) classes z there in
    elim (has_cases (numbers_from n program (interface_numbers program above.0)) above.0 z above.2) [
      | inl e ↦ (let lt = below above.0 above.1 in omega (arith, e, lt))
      | inr h ↦ levels_below n program (interface_numbers program above.0) (listed_below above.0) z h
    ] where
      listed_below : (k : ℕ) → AreBelow (length program) (interface_numbers program k)
      listed_below k = numbers_below program (interfaces_of (slice_get program k))

pub once_below : (program : Program) (class : ℕ) → AreBelow (length program) (once_above program class)
unfolding numbers_above
once_below program class z there = elim (all_cases [] (numbers_above program class) z there) [
  | inl none ↦ absurd (false≢true none)
  | inr h ↦ levels_below most_classes program (interface_numbers program class) (numbers_below program (interfaces_of (slice_get program class))) z h
]

-- ---- the lists as the code holds them

pub item_is : (lists : List (Vec ℕ)) (k : ℕ) (list : Vec ℕ) → k < length lists → list ≡ get_or lists k list → list.items ≡ get_or (lists_of lists) k []
item_is lists k list lt is = ap (λ (l : Vec ℕ). l.items) is ∙ sym (get_or-map (λ (l : Vec ℕ). l.items) lists k list [] lt)

pub above_is : (program : Program) (lists : List (Vec ℕ)) (k : ℕ) (list : Vec ℕ) → AreAbove program (lists_of lists) → k < length program → list ≡ get_or lists k list → list.items ≡ once_above program k
above_is program lists k list above lt is =
    let count = length-map lists (λ (l : Vec ℕ). l.items) in
    item_is lists k list (omega (arith, count, above.count, lt)) is ∙ above.each k lt

-- ---- lists below a bound

pub below_none : (bound : ℕ) → AreBelow bound []
below_none bound z there = absurd (false≢true there)

pub below_push : (bound : ℕ) (xs ys : List ℕ) (x : ℕ) → AreBelow bound xs → x < bound → ys ≡ xs ++ x ∷ [] → AreBelow bound ys
below_push bound xs ys x below lt is z there = elim (has_either xs (x ∷ []) z (subst (λ (ws : List ℕ). has ws z ≡ true) is there)) [
  | inl h ↦ below z h
  | inr h ↦ elim (has_cases [] x z h) [ inl e ↦ omega (arith, e, lt) | inr none ↦ absurd (false≢true none) ]
]

pub inside_none : (bound : ℕ) (lists : List (List ℕ)) → lists ≡ replicate bound [] → AreInside bound lists
inside_none bound lists none = record {
  count = ap length none ∙ length-replicate bound [];
  each = λ k z there. absurd (false≢true (subst (λ (xs : List ℕ). has xs z ≡ true) (ap (λ (ls : List (List ℕ)). get_or ls k []) none ∙ get_none bound k []) there));
}

pub inside_more : (bound : ℕ) (lists : List (Vec ℕ)) (i class : ℕ) (old new : Vec ℕ) → AreInside bound (lists_of lists) → i < bound → class < bound → new.items ≡ (get_or lists i old).items ++ class ∷ []
    → AreInside bound (lists_of (set lists i new))
inside_more bound lists i class old new inside there lt is =
    let within : i < length (lists_of lists) = omega (arith, inside.count, there) in
    let within_lists : i < length lists = omega (arith, within, length-map lists (λ (l : Vec ℕ). l.items)) in
    let moved : lists_of (set lists i new) ≡ set (lists_of lists) i new.items = map-set (λ (l : Vec ℕ). l.items) lists i new in
    record {
      count = ap length moved ∙ length-set (lists_of lists) i new.items ∙ inside.count;
      each = λ k. subst (λ (ls : List (List ℕ)). AreBelow bound (get_or ls k [])) (sym moved) (elim (either (nat_eq k i)) [
        | inl e ↦ subst (λ (j : ℕ). AreBelow bound (get_or (set (lists_of lists) i new.items) j [])) (sym (eqb-true k i e))
            (below_push bound (get_or (lists_of lists) i []) (get_or (set (lists_of lists) i new.items) i []) class (inside.each i) lt
            (get_or-set_same (lists_of lists) i new.items [] within ∙ is ∙ ap (λ (xs : List ℕ). xs ++ class ∷ []) (sym (get_or-map (λ (l : Vec ℕ). l.items) lists i old [] within_lists))))
        | inr e ↦ subst (AreBelow bound) (sym (get_or-set_other (lists_of lists) i k new.items [] (eqb-false k i e))) (inside.each k)
      ]);
    }

-- what stands in the order is below the bound
pub found_below : (bound : ℕ) (order row : List ℕ) (turn x : ℕ) → AreBelow bound order → row ≡ order → turn < length row → x ≡ get_or row turn 0 → x < bound
found_below bound order row turn x below same lt is = subst (λ (y : ℕ). y < bound) (sym is) (below (get_or row turn 0) (subst (λ (xs : List ℕ). has xs (get_or row turn 0) ≡ true) same (has_at row turn lt)))

pub row_below : (bound : ℕ) (lists : List (Vec ℕ)) (k : ℕ) (list : Vec ℕ) (row : List ℕ) → AreInside bound (lists_of lists) → k < bound → list ≡ get_or lists k list → row ≡ list.items → AreBelow bound row
row_below bound lists k list row inside lt is same =
    let count = length-map lists (λ (l : Vec ℕ). l.items) in
    subst (AreBelow bound) (sym (same ∙ item_is lists k list (omega (arith, count, inside.count, lt)) is)) (inside.each k)

pub listed_row_below : (bound : ℕ) (lists : List (Vec ℕ)) (k : ℕ) (list : Vec ℕ) (row : List ℕ) → k < length lists → list ≡ get_or lists k list → row ≡ list.items → AreBelow bound (get_or (lists_of lists) k []) → AreBelow bound row
listed_row_below bound lists k list row lt is same below = subst (AreBelow bound) (sym (same ∙ item_is lists k list lt is)) below

pub mark_at : (marks : List Bool) (k : ℕ) (mark : Bool) → k < length marks → mark ≡ get_or marks k mark → get_or marks k false ≡ mark
mark_at [] k mark lt is = absurd (omega (arith, lt))
mark_at (m ∷ marks) zero mark lt is = sym is
mark_at (m ∷ marks) (suc k) mark lt is = mark_at marks k mark (omega (arith, lt)) is
