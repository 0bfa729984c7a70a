-- Labelled code in groups is well formed where the labelled code is, the calls have indexes, and no object is too large.
use Rattle.std.proofs.Common.{◌≡◌, ℕ, zero, suc, ◌+◌, ◌-◌, ◌^◌, ◌<◌, ◌≤◌, Bool, true, false, ℤ, pos, negsuc, List, [], ◌∷◌, ◌++◌, map, filter, length, get_or, refl, sym, ap, subst, ◌∙◌, arith, nat_lt, if◌then◌else◌, length-append}
use Rattle.std.specs.Prelude.{◌<ℤ◌, ◌+ℤ◌, ◌-ℤ◌, ⊤, FitsSigned, AllPairs}
use Rattle.std.specs.Int.{w32}
use Rattle.std.specs.List.{flat_map, AllByRecursion}
use Rattle.std.proofs.lemmas.Int.{ints}
use Rattle.std.proofs.lemmas.List.{get_or-map}
use Rattle.std.proofs.lemmas.Bool.{ltb-true}
use Rattle.dj_names.specs.declared.run.Element.TheVariants as elements
use Rattle.dj_ops.specs.declared.instruction.Instr.{Instr}
use Rattle.dj_ops.specs.declared.instruction.Instr.TheVariants as instrs
use Rattle.dj_ops.specs.trusted.Forms.{form_of}
use Rattle.dj_ops.specs.trusted.Instructions.{IsProper}
use Rattle.dj_labels.specs.declared.labelled.Protected.{Protected}
use Rattle.dj_labels.specs.declared.labelled.Labelled.{Labelled}
use Rattle.dj_labels.specs.trusted.Targets.{with_targets}
use Rattle.dj_labels.specs.trusted.Labels.{IsNumber, HasNumbers, IsRange}
use Rattle.dj_labels.specs.Labels.{IsWellFormed}
use Rattle.dj_groups.specs.Groups.{Counter, Jumps, Invocations, Throws, Allocations, Arrays, Catches, Inserted, Copy, ObjectBytes, ElementBytes, Record, Own, Kept, Popped, Group, inserted, start, own, group_at, cut, is_some_range, pieces, spelled, regrouped}
use Rattle.dj_groups.specs.Rewritten.{place}
use Rattle.dj_groups.specs.Laws.{FitsObject}
use Rattle.dj_groups.specs.Grouped.{inserted_instr, new_target, own_instr, protected_pieces, labels_in_groups}
use Rattle.dj_groups.proofs.GroupLaws.{own_next, rises_to, length_spelled}

-- ---- lists

all_append : {A : Type 0} (P : A → Type 0) (xs ys : List A) → AllByRecursion P xs → AllByRecursion P ys → AllByRecursion P (xs ++ ys)
all_append P [] ys p q = q
all_append P (x ∷ xs) ys p q = (p.0, all_append P xs ys p.1 q)

all_map : {A B : Type 0} (P : B → Type 0) (f : A → B) (xs : List A) → AllByRecursion (λ a. P (f a)) xs → AllByRecursion P (map f xs)
all_map P f [] p = tt
all_map P f (x ∷ xs) p = (p.0, all_map P f xs p.1)

-- ---- sizes

pub length_regrouped : {I : Type 0} (spell : Inserted → I) (become : Own → I → I) (gs : List Group) (is : List I) → length gs ≡ length is
    → length (regrouped spell become gs is) ≡ start gs (length gs)
unfolding start
length_regrouped spell become [] is e = refl
length_regrouped spell become (g ∷ gs) [] e = absurd (omega (arith, e))
length_regrouped spell become (g ∷ gs) (i ∷ is) e =
    length-append (spelled spell become (g, i)) (regrouped spell become gs is)
    ∙ omega (arith, length_spelled spell become g i, length_regrouped spell become gs is (omega (arith, e)))

pub rises_strictly : (gs : List Group) (k m : ℕ) → k < m → start gs k < start gs m
rises_strictly gs k m h = omega (arith, own_next gs k, rises_to gs (suc k) m h)

-- ---- instructions

few_places : (c : Counter) → place c ≤ 5
few_places Jumps = omega arith
few_places Invocations = omega arith
few_places Throws = omega arith
few_places Allocations = omega arith
few_places Arrays = omega arith
few_places Catches = omega arith

pub inserted_proper : (first : ℕ) (x : Inserted) → first + 25 < 2 ^ 16 → FitsObject x → IsProper (inserted_instr first x)
unfolding form_of
inserted_proper first Copy few fits = refl
inserted_proper first (ObjectBytes n) few fits = record { sfits = omega (arith, fits) }
inserted_proper first (ElementBytes elements.Boolean) few fits = refl
inserted_proper first (ElementBytes elements.Byte) few fits = refl
inserted_proper first (ElementBytes elements.Char) few fits = refl
inserted_proper first (ElementBytes elements.Short) few fits = refl
inserted_proper first (ElementBytes elements.Int) few fits = refl
inserted_proper first (ElementBytes elements.Long) few fits = record { sfits = omega arith }
inserted_proper first (ElementBytes elements.Ref) few fits = refl
inserted_proper first (Record c) few fits = (refl, omega (arith, few, few_places c))

abbrev aim : (ℕ → ℕ) → ℤ × ℤ → ℤ × ℤ
aim to pair = (pair.0, new_target to pair.1)

abbrev Rises : ℤ × ℤ → ℤ × ℤ → Type 0
Rises a b = a.0 <ℤ b.0

length_map : {A B : Type 0} (f : A → B) (xs : List A) → length (map f xs) ≡ length xs
length_map f [] = refl
length_map f (x ∷ xs) = ap suc (length_map f xs)

same_pairs : (to : ℕ → ℕ) (pairs : List (ℤ × ℤ)) → AllPairs Rises pairs → AllPairs Rises (map (aim to) pairs)
same_pairs to pairs h i j d before within =
    let short : j < length pairs = omega (arith, length_map (aim to) pairs, within) in
    subst (λ (x : ℤ × ℤ). Rises x (get_or (map (aim to) pairs) j d)) (sym (get_or-map (aim to) pairs i d d (omega (arith, before, short))))
    (subst (λ (x : ℤ × ℤ). Rises (aim to (get_or pairs i d)) x) (sym (get_or-map (aim to) pairs j d d short)) (h i j d before short))

all_matches : (to : ℕ → ℕ) (P : ℤ → Type 0) (pairs : List (ℤ × ℤ)) → AllByRecursion (λ (pair : ℤ × ℤ). P pair.0) pairs → AllByRecursion (λ (pair : ℤ × ℤ). P pair.0) (map (aim to) pairs)
all_matches to P [] h = tt
all_matches to P (pair ∷ pairs) h = (h.0, all_matches to P pairs h.1)

aimed_proper : (to : ℕ → ℕ) (instr : Instr) → IsProper instr → IsProper (with_targets (new_target to) instr)
aimed_proper to (instrs.Simple op) h = h
aimed_proper to (instrs.Push op value) h = h
aimed_proper to (instrs.Literal op index) h = h
aimed_proper to (instrs.Local op slot wide) h = h
aimed_proper to (instrs.Inc slot by wide) h = h
aimed_proper to (instrs.Branch op target) h = h
aimed_proper to (instrs.Table low default targets) h = record {
  some = subst (λ (n : ℕ). 0 < n) (sym (length_map (new_target to) targets)) h.some;
  low_fits = h.low_fits;
  high_fits = subst (λ (n : ℕ). FitsSigned w32 (low +ℤ pos n -ℤ pos 1)) (sym (length_map (new_target to) targets)) h.high_fits;
}
aimed_proper to (instrs.Lookup default pairs) h = record {
  count = subst (λ (n : ℕ). n < 2 ^ 31) (sym (length_map (aim to) pairs)) h.count;
  matches = all_matches to (FitsSigned w32) pairs h.matches;
  rising = same_pairs to pairs h.rising;
}
aimed_proper to (instrs.Member op index) h = h
aimed_proper to (instrs.Interface index count) h = h
aimed_proper to (instrs.Dynamic index) h = h
aimed_proper to (instrs.Class op index) h = h
aimed_proper to (instrs.Array base) h = h
aimed_proper to (instrs.Multi index dims) h = h

own_proper : (to : ℕ → ℕ) (o : Own) (instr : Instr) → IsProper instr → IsProper (own_instr to o instr)
unfolding form_of
own_proper to Kept instr h = aimed_proper to instr h
own_proper to Popped instr h = refl

-- what is inserted jumps nowhere
inserted_still : (first : ℕ) (count : ℕ) (x : Inserted) → HasNumbers count (inserted_instr first x)
inserted_still first count Copy = tt
inserted_still first count (ObjectBytes n) = tt
inserted_still first count (ElementBytes elements.Boolean) = tt
inserted_still first count (ElementBytes elements.Byte) = tt
inserted_still first count (ElementBytes elements.Char) = tt
inserted_still first count (ElementBytes elements.Short) = tt
inserted_still first count (ElementBytes elements.Int) = tt
inserted_still first count (ElementBytes elements.Long) = tt
inserted_still first count (ElementBytes elements.Ref) = tt
inserted_still first count (Record c) = tt

-- a number of an instruction becomes the number at which its group starts
number_moved : (gs : List Group) (n : ℕ) (target : ℤ) → IsNumber n target → IsNumber (start gs n) (new_target (start gs) target)
number_moved gs n (pos t) h = let less : t < n = omega (arith, ints, h.1) in (omega (arith, ints), omega (arith, ints, rises_strictly gs t n less))
number_moved gs n (negsuc t) h = absurd (omega (arith, ints, h.0))

numbers_moved : (gs : List Group) (n : ℕ) (targets : List ℤ) → AllByRecursion (IsNumber n) targets → AllByRecursion (IsNumber (start gs n)) (map (new_target (start gs)) targets)
numbers_moved gs n [] h = tt
numbers_moved gs n (t ∷ ts) h = (number_moved gs n t h.0, numbers_moved gs n ts h.1)

pairs_moved : (gs : List Group) (n : ℕ) (pairs : List (ℤ × ℤ)) → AllByRecursion (IsNumber n) (map (λ pair. pair.1) pairs)
    → AllByRecursion (IsNumber (start gs n)) (map (λ pair. pair.1) (map (aim (start gs)) pairs))
pairs_moved gs n [] h = tt
pairs_moved gs n (pair ∷ pairs) h = (number_moved gs n pair.1 h.0, pairs_moved gs n pairs h.1)

own_numbers : (gs : List Group) (n : ℕ) (o : Own) (instr : Instr) → HasNumbers n instr → HasNumbers (start gs n) (own_instr (start gs) o instr)
own_numbers gs n Popped instr h = tt
own_numbers gs n Kept (instrs.Branch op target) h = (number_moved gs n target h.0, tt)
own_numbers gs n Kept (instrs.Table low default targets) h = (number_moved gs n default h.0, numbers_moved gs n targets h.1)
own_numbers gs n Kept (instrs.Lookup default pairs) h = (number_moved gs n default h.0, pairs_moved gs n pairs h.1)
own_numbers gs n Kept (instrs.Simple op) h = tt
own_numbers gs n Kept (instrs.Push op value) h = tt
own_numbers gs n Kept (instrs.Literal op index) h = tt
own_numbers gs n Kept (instrs.Local op slot wide) h = tt
own_numbers gs n Kept (instrs.Inc slot by wide) h = tt
own_numbers gs n Kept (instrs.Member op index) h = tt
own_numbers gs n Kept (instrs.Interface index count) h = tt
own_numbers gs n Kept (instrs.Dynamic index) h = tt
own_numbers gs n Kept (instrs.Class op index) h = tt
own_numbers gs n Kept (instrs.Array base) h = tt
own_numbers gs n Kept (instrs.Multi index dims) h = tt

-- ---- all instructions

all_regrouped : {I : Type 0} (spell : Inserted → I) (become : Own → I → I) (P : I → Type 0) (Q : Inserted → Type 0) → ((x : Inserted) → Q x → P (spell x))
    → (gs : List Group) (is : List I) → AllByRecursion (λ g. AllByRecursion Q (inserted g)) gs → AllByRecursion (λ i. (o : Own) → P (become o i)) is
    → AllByRecursion P (regrouped spell become gs is)
all_regrouped spell become P Q each [] is a b = tt
all_regrouped spell become P Q each (g ∷ gs) [] a b = tt
all_regrouped spell become P Q each (g ∷ gs) (i ∷ is) a b =
    all_append P (spelled spell become (g, i)) (regrouped spell become gs is)
    (all_append P (map spell (inserted g)) (become g.own i ∷ []) (all_map P spell (inserted g) (turned (inserted g) a.0)) (b.0 g.own, tt))
    (all_regrouped spell become P Q each gs is a.1 b.1) where
      turned : (xs : List Inserted) → AllByRecursion Q xs → AllByRecursion (λ x. P (spell x)) xs
      turned [] h = tt
      turned (x ∷ xs) h = (each x h.0, turned xs h.1)

each_of : {A : Type 0} (P Q : A → Type 0) (xs : List A) → ((a : A) → P a → Q a) → AllByRecursion P xs → AllByRecursion Q xs
each_of P Q [] f h = tt
each_of P Q (x ∷ xs) f h = (f x h.0, each_of P Q xs f h.1)

all_of : {A : Type 0} (P : A → Type 0) (xs : List A) → ((a : A) → P a) → AllByRecursion P xs
all_of P [] f = tt
all_of P (x ∷ xs) f = (f x, all_of P xs f)

-- ---- ranges

ends_low : (gs : List Group) (from k n : ℕ) → AllByRecursion (λ (p : ℕ × ℕ). p.1 ≤ start gs (k + n)) (cut gs from k n)
unfolding cut
ends_low gs from k zero = (omega (arith, rises_to gs k (k + 0) (omega arith)), tt)
ends_low gs from k (suc n) =
    step (group_at gs k).arrives (omega (arith, rises_to gs k (k + suc n) (omega arith)))
    (shifted (cut gs (own gs k) (suc k) n) (ends_low gs (own gs k) (suc k) n)) (shifted (cut gs from (suc k) n) (ends_low gs from (suc k) n)) where
      step : (b : Bool) → start gs k ≤ start gs (k + suc n) → AllByRecursion (λ (p : ℕ × ℕ). p.1 ≤ start gs (k + suc n)) (cut gs (own gs k) (suc k) n)
          → AllByRecursion (λ (p : ℕ × ℕ). p.1 ≤ start gs (k + suc n)) (cut gs from (suc k) n)
          → AllByRecursion (λ (p : ℕ × ℕ). p.1 ≤ start gs (k + suc n)) (if b then (from, start gs k) ∷ cut gs (own gs k) (suc k) n else cut gs from (suc k) n)
      step true low later same = (low, later)
      step false low later same = same

      shifted : (ps : List (ℕ × ℕ)) → AllByRecursion (λ (p : ℕ × ℕ). p.1 ≤ start gs (suc k + n)) ps → AllByRecursion (λ (p : ℕ × ℕ). p.1 ≤ start gs (k + suc n)) ps
      shifted ps h = subst (λ (x : ℕ). AllByRecursion (λ (p : ℕ × ℕ). p.1 ≤ start gs x) ps) (omega arith) h

some_kept : (ps : List (ℕ × ℕ)) (count : ℕ) → AllByRecursion (λ (p : ℕ × ℕ). p.1 ≤ count) ps
    → AllByRecursion (λ (p : ℕ × ℕ). (p.0 < p.1) × (p.1 ≤ count)) (filter is_some_range ps)
some_kept [] count h = tt
some_kept (p ∷ ps) count h = go (nat_lt p.0 p.1) refl (some_kept ps count h.1) where
  go : (b : Bool) → nat_lt p.0 p.1 ≡ b → AllByRecursion (λ (p : ℕ × ℕ). (p.0 < p.1) × (p.1 ≤ count)) (filter is_some_range ps)
      → AllByRecursion (λ (p : ℕ × ℕ). (p.0 < p.1) × (p.1 ≤ count)) (if b then p ∷ filter is_some_range ps else filter is_some_range ps)
  go true e later = ((ltb-true p.0 p.1 e, h.0), later)
  go false e later = later

range_good : (gs : List Group) (n : ℕ) (range : Protected) → IsRange n range → AllByRecursion (IsRange (start gs n)) (protected_pieces gs range)
range_good gs n range r =
    all_map (IsRange (start gs n)) (λ (p : ℕ × ℕ). record range { start = p.0; end = p.1; handler = start gs range.handler }) (pieces gs range.start range.end)
    (each_of (λ (p : ℕ × ℕ). (p.0 < p.1) × (p.1 ≤ start gs n)) _ (pieces gs range.start range.end)
    (λ p h. record { some = h.0; within = h.1; handled = rises_strictly gs range.handler n r.handled })
    (some_kept (cut gs (start gs range.start) range.start (range.end - range.start)) (start gs n)
    (each_of (λ (p : ℕ × ℕ). p.1 ≤ start gs (range.start + (range.end - range.start))) (λ (p : ℕ × ℕ). p.1 ≤ start gs n) (cut gs (start gs range.start) range.start (range.end - range.start))
    (λ p h. omega (arith, h, rises_to gs (range.start + (range.end - range.start)) n (omega (arith, r.some, r.within))))
    (ends_low gs (start gs range.start) range.start (range.end - range.start)))))

ranges_good : (gs : List Group) (n : ℕ) (ranges : List Protected) → AllByRecursion (IsRange n) ranges → AllByRecursion (IsRange (start gs n)) (flat_map (protected_pieces gs) ranges)
ranges_good gs n [] h = tt
ranges_good gs n (range ∷ ranges) h =
    all_append (IsRange (start gs n)) (protected_pieces gs range) (flat_map (protected_pieces gs) ranges) (range_good gs n range h.0) (ranges_good gs n ranges h.1)

-- Labelled code in groups is well formed, so that it can be laid out.
pub grouped_is_well_formed : (first : ℕ) (gs : List Group) (labelled : Labelled) → length gs ≡ length labelled.code → first + 25 < 2 ^ 16
    → AllByRecursion (λ g. AllByRecursion FitsObject (inserted g)) gs → IsWellFormed labelled → IsWellFormed (labels_in_groups first gs labelled)
unfolding labels_in_groups
grouped_is_well_formed first gs labelled same few fits well =
    let count : start gs (length labelled.code) ≡ length (regrouped (inserted_instr first) (own_instr (start gs)) gs labelled.code) =
    sym (length_regrouped (inserted_instr first) (own_instr (start gs)) gs labelled.code same ∙ ap (start gs) same) in
    record {
      proper = all_regrouped (inserted_instr first) (own_instr (start gs)) IsProper FitsObject (λ x h. inserted_proper first x few h) gs labelled.code fits
          (each_of IsProper _ labelled.code (λ instr h o. own_proper (start gs) o instr h) well.proper);
      targets = subst (λ (n : ℕ). AllByRecursion (HasNumbers n) (regrouped (inserted_instr first) (own_instr (start gs)) gs labelled.code)) count
          (all_regrouped (inserted_instr first) (own_instr (start gs)) (HasNumbers (start gs (length labelled.code))) (λ _. ⊤)
          (λ x h. inserted_still first (start gs (length labelled.code)) x) gs labelled.code
          (all_of (λ g. AllByRecursion (λ _. ⊤) (inserted g)) gs (λ g. all_of (λ _. ⊤) (inserted g) (λ _. tt)))
          (each_of (HasNumbers (length labelled.code)) _ labelled.code (λ instr h o. own_numbers gs (length labelled.code) o instr h) well.targets));
      ranges = subst (λ (n : ℕ). AllByRecursion (IsRange n) (flat_map (protected_pieces gs) labelled.ranges)) count (ranges_good gs (length labelled.code) labelled.ranges well.ranges);
    }
