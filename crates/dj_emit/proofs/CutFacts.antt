-- Pieces one after another.
use Rattle.std.proofs.Common.{◌≡◌, ℕ, ◌+◌, ◌-◌, ◌<◌, ◌≤◌, List, [], ◌∷◌, ◌++◌, map, filter, take, length, get_or, refl, sym, ap, subst, ◌∙◌, arith, append_assoc, Ok, Err, Result, OnOk}
use Rattle.std.specs.List.{flat_map}
use Rattle.std.proofs.lemmas.Grind.{flat_map-append}
use Rattle.std.proofs.lemmas.List.{take_more, map-append, get_or_default}
use Rattle.std.proofs.lemmas.List.Elements.{filter-append}
use Rattle.dj_labels.specs.declared.labelled.Protected.{Protected}
use Rattle.dj_groups.specs.Groups.{Group, start, own, group_at, is_some_range, cut}
use Rattle.dj_emit.specs.declared.places.Places.{Places}
use Rattle.dj_emit.specs.Parts.{groups_seen}
use Rattle.dj_emit.specs.Places.{IsNext, ArePlaces}
use Rattle.dj_emit.proofs.Steps.{length_groups}
use Rattle.dj_emit.proofs.TargetFacts.{length_starts, length_owns, start_at, own_at}
use Rattle.dj_emit.specs.Cuts.{piece}
use Rattle.dj_emit.proofs.NextFacts.{cut_at_next, cut_at_end}

append_none : {X : Type 0} (xs : List X) → xs ++ [] ≡ xs
append_none [] = refl
append_none (x ∷ xs) = ap (λ (ys : List _). x ∷ ys) (append_none xs)

-- the pieces that are left, as ranges
abbrev pub left : Protected → List (ℕ × ℕ) → List Protected
left range ps = map (piece range) (filter is_some_range ps)

split_left : (range : Protected) (p : ℕ × ℕ) (ps : List (ℕ × ℕ)) → left range (p ∷ ps) ≡ left range (p ∷ []) ++ left range ps
split_left range p ps = ap (map (piece range)) (filter-append is_some_range (p ∷ []) ps) ∙ map-append (piece range) (filter is_some_range (p ∷ [])) (filter is_some_range ps)

-- the piece up to the next handler is put out
pub put_next : (gs : List Group) (range : Protected) (out whole : List Protected) (from k end next : ℕ) → IsNext gs k next → next < end → end ≤ length gs
    → out ++ left range (cut gs from k (end - k)) ≡ whole
    → (out ++ left range ((from, start gs next) ∷ [])) ++ left range (cut gs (own gs next) (next + 1) (end - (next + 1))) ≡ whole
put_next gs range out whole from k end next n less within before =
    append_assoc out (left range ((from, start gs next) ∷ [])) (left range (cut gs (own gs next) (next + 1) (end - (next + 1))))
    ∙ ap (λ (xs : List Protected). out ++ xs) (sym (split_left range (from, start gs next) (cut gs (own gs next) (next + 1) (end - (next + 1)))))
    ∙ ap (λ (ps : List (ℕ × ℕ)). out ++ left range ps) (sym (cut_at_next gs from k end next n less within))
    ∙ before

-- the last piece is put out
pub put_last : (gs : List Group) (range : Protected) (out whole : List Protected) (from k end next : ℕ) → IsNext gs k next → end ≤ next → k ≤ end
    → out ++ left range (cut gs from k (end - k)) ≡ whole → out ++ left range ((from, start gs end) ∷ []) ≡ whole
put_last gs range out whole from k end next n past low before =
    ap (λ (ps : List (ℕ × ℕ)). out ++ left range ps) (sym (cut_at_end gs from k end next n past low)) ∙ before

pub flat_more : {X Y : Type 0} (f : X → List Y) (xs : List X) (i : ℕ) (d : X) → i < length xs → flat_map f (take (i + 1) xs) ≡ flat_map f (take i xs) ++ f (get_or xs i d)
flat_more f xs i d less =
    ap (flat_map f) (take_more xs i d less) ∙ flat_map-append f (take i xs) (get_or xs i d ∷ []) ∙ ap (λ (ys : List _). flat_map f (take i xs) ++ ys) (append_none (f (get_or xs i d)))

-- ---- what is looked up in the places

pub start_length : (places : Places) → ArePlaces places → length places.start.items ≡ length places.groups.items + 1
start_length places h = ap length h.start ∙ length_starts (groups_seen places.groups.items) ∙ ap (λ (n : ℕ). n + 1) (length_groups places.groups.items)

pub own_length : (places : Places) → ArePlaces places → length places.own.items ≡ length places.groups.items + 1
own_length places h = ap length h.own ∙ length_owns (groups_seen places.groups.items) ∙ ap (λ (n : ℕ). n + 1) (length_groups places.groups.items)

pub next_length : (places : Places) → ArePlaces places → length places.next.items ≡ length places.groups.items + 1
next_length places h = h.next.all ∙ ap (λ (n : ℕ). n + 1) (length_groups places.groups.items)

pub found_start : (places : Places) (k x : ℕ) → ArePlaces places → k ≤ length places.groups.items → x ≡ get_or places.start.items k x → x ≡ start (groups_seen places.groups.items) k
found_start places k x h less is =
    is ∙ ap (λ (xs : List ℕ). get_or xs k x) h.start ∙ start_at (groups_seen places.groups.items) k x (omega (arith, less, length_groups places.groups.items))

pub found_own : (places : Places) (k x : ℕ) → ArePlaces places → k ≤ length places.groups.items → x ≡ get_or places.own.items k x → x ≡ own (groups_seen places.groups.items) k
found_own places k x h less is =
    is ∙ ap (λ (xs : List ℕ). get_or xs k x) h.own ∙ own_at (groups_seen places.groups.items) k x (omega (arith, less, length_groups places.groups.items))

pub found_next : (places : Places) (k x : ℕ) → ArePlaces places → k ≤ length places.groups.items → x ≡ get_or places.next.items k x → IsNext (groups_seen places.groups.items) k x
found_next places k x h less is =
    subst (IsNext (groups_seen places.groups.items) k) (sym (is ∙ get_or_default places.next.items k x 0 (omega (arith, less, next_length places h))))
    (h.next.each k (omega (arith, less, length_groups places.groups.items)))

pub same_found : (places : Places) (k x y : ℕ) → ArePlaces places → k ≤ length places.groups.items → x ≡ get_or places.next.items k x → y ≡ get_or places.next.items k y → x ≡ y
same_found places k x y h less is other = is ∙ get_or_default places.next.items k x y (omega (arith, less, next_length places h)) ∙ sym other

pub on_ok_same : {A E : Type 0} (r : Result A E) (P Q : Type 0) → (P → Q) → OnOk r P → OnOk r Q
on_ok_same (Ok a) P Q f h = f h
on_ok_same (Err e) P Q f h = tt
