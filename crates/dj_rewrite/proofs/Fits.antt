-- What fits doesn't depend on where the accounter's constants begin.
use Rattle.std.proofs.Common.{◌≡◌, ℕ, zero, suc, ◌+◌, ◌<◌, ◌≤◌, ℤ, List, [], ◌∷◌, map, take, length, zip, Some, slice_get, refl, sym, ap, subst, ◌∙◌, arith, inl, inr}
use Rattle.std.specs.List.{AllByRecursion}
use Rattle.std.proofs.lemmas.List.{take_all, length-map}
use Rattle.std.proofs.lemmas.Option.{none-some, same_Some}
use Rattle.dj_ops.specs.declared.instruction.Instr.{Instr}
use Rattle.dj_ops.specs.trusted.Instructions.{length_at}
use Rattle.dj_labels.specs.declared.labelled.Labelled.{Labelled}
use Rattle.dj_labels.specs.trusted.Targets.{with_targets}
use Rattle.dj_labels.specs.trusted.Labels.{address_of}
use Rattle.dj_labels.specs.Faults.{IsFirstWithout}
use Rattle.dj_layout.specs.declared.errors.LayError.{LayError}
use Rattle.dj_layout.specs.declared.errors.LayError.TheVariants as errors
use Rattle.dj_layout.specs.trusted.Places.{starts_from, end_from}
use Rattle.dj_layout.specs.trusted.Layouts.{placed, most_bytes}
use Rattle.dj_layout.specs.trusted.Faults.{Reaches}
use Rattle.dj_layout.specs.Faults.{IsFirstPast, IsFirstFar, Refuses}
use Rattle.dj_groups.specs.Groups.{Group, start}
use Rattle.dj_groups.specs.Grouped.{own_instr, labels_in_groups}
use Rattle.dj_program.specs.trusted.Codes.{CodeParts}
use Rattle.dj_rewritten.specs.TooLarge.{DoesNotFit}
use Rattle.dj_rewritten.proofs.Indexes.{AreAlike, regrouped_alike, same_starts, same_ends, same_reach}

-- ---- lists

below : {A : Type 0} (xs : List A) (n : ℕ) (x : A) → slice_get xs n ≡ Some x → n < length xs
below [] n x e = absurd (none-some x e)
below (y ∷ xs) zero x e = omega arith
below (y ∷ xs) (suc n) x e = let h = below xs n x e in omega (arith, h)

get_there : {A : Type 0} (xs : List A) (n : ℕ) → n < length xs → (x : A) × (slice_get xs n ≡ Some x)
get_there [] n lt = absurd (omega (arith, lt))
get_there (y ∷ xs) zero lt = (y, refl)
get_there (y ∷ xs) (suc n) lt = get_there xs n (omega (arith, lt))

all_next : {A : Type 0} (P : A → Type 0) (xs : List A) (n : ℕ) (x : A) → AllByRecursion P (take n xs) → slice_get xs n ≡ Some x → P x → AllByRecursion P (take (suc n) xs)
all_next P [] n x h e p = absurd (none-some x e)
all_next P (y ∷ xs) zero x h e p = (subst P (sym (same_Some y x e)) p, tt)
all_next P (y ∷ xs) (suc n) x h e p = (h.0, all_next P xs n x h.1 e p)

all_at : {A : Type 0} (P : A → Type 0) (xs : List A) (n : ℕ) (x : A) → AllByRecursion P (take (suc n) xs) → slice_get xs n ≡ Some x → P x
all_at P [] n x h e = absurd (none-some x e)
all_at P (y ∷ xs) zero x h e = subst P (same_Some y x e) h.0
all_at P (y ∷ xs) (suc n) x h e = all_at P xs n x h.1 e

zip_many : {A B : Type 0} (starts : List A) (xs ys : List B) → length xs ≡ length ys → length (zip starts xs) ≡ length (zip starts ys)
zip_many [] xs ys e = refl
zip_many (s ∷ starts) [] [] e = refl
zip_many (s ∷ starts) [] (y ∷ ys) e = absurd (omega (arith, e))
zip_many (s ∷ starts) (x ∷ xs) [] e = absurd (omega (arith, e))
zip_many (s ∷ starts) (x ∷ xs) (y ∷ ys) e = ap suc (zip_many starts xs ys (omega (arith, e)))

-- ---- alike instructions

many_starts : (at : ℕ) (xs : List Instr) → length (starts_from at xs) ≡ length xs
many_starts at [] = refl
many_starts at (x ∷ xs) = ap suc (many_starts (at + length_at at x) xs)

as_many : (xs ys : List Instr) → AreAlike xs ys → length xs ≡ length ys
as_many xs ys h = sym (many_starts 0 xs) ∙ ap (λ (s : List ℕ). length s) (same_starts 0 xs ys h) ∙ many_starts 0 ys

same_end : (at : ℕ) (xs ys : List Instr) → AreAlike xs ys → end_from at xs ≡ end_from at ys
same_end at xs ys h =
    let many = as_many xs ys h in
    ap (end_from at) (sym (take_all (length xs) xs (omega arith)))
    ∙ same_ends at (length xs) xs ys h
    ∙ ap (end_from at) (take_all (length xs) ys (omega (arith, many)))

-- the jump at the same place, which doesn't reach its target either
record IsFarToo (places : List (ℕ × Instr)) (number : ℕ) : Type 0 where
  jump : ℕ × Instr
  found : slice_get places number ≡ Some jump
  lacks : Reaches jump → ⊥

far_too : (f : ℤ → ℤ) (starts : List ℕ) (xs ys : List Instr) (number : ℕ) (jump : ℕ × Instr) → AreAlike xs ys → AreAlike ys xs
    → AllByRecursion Reaches (take number (zip starts (map (with_targets f) ys))) → slice_get (zip starts (map (with_targets f) xs)) number ≡ Some jump → (Reaches jump → ⊥)
    → IsFarToo (zip starts (map (with_targets f) ys)) number
far_too f starts xs ys number jump h back before found lacks =
    let many = length-map xs (with_targets f) ∙ as_many xs ys h ∙ sym (length-map ys (with_targets f)) in
    let same = zip_many starts (map (with_targets f) xs) (map (with_targets f) ys) many in
    let lt = below (zip starts (map (with_targets f) xs)) number jump found in
    let other = get_there (zip starts (map (with_targets f) ys)) number (omega (arith, same, lt)) in
    record {
      jump = other.0;
      found = other.1;
      lacks = λ reaches. lacks (all_at Reaches (zip starts (map (with_targets f) xs)) number jump
          (same_reach f starts ys xs (suc number) back (all_next Reaches (zip starts (map (with_targets f) ys)) number other.0 before other.1 reaches)) found);
    }

past_too : (xs ys : List Instr) (number : ℕ) → AreAlike xs ys → IsFirstPast xs number → IsFirstPast ys number
past_too xs ys number h first =
    let a = same_ends 0 number xs ys h in
    let b = same_ends 0 (number + 1) xs ys h in
    record {
      within = (let e = as_many xs ys h in let w = first.within in omega (arith, e, w));
      before = subst (λ (n : ℕ). n ≤ most_bytes) a first.before;
      past = subst (λ (n : ℕ). most_bytes < n) b first.past;
    }

far_first : (xs ys : List Instr) (number : ℕ) → AreAlike xs ys → AreAlike ys xs → IsFirstFar xs number → IsFirstFar ys number
far_first xs ys number h back first =
    let places = starts_from 0 xs in
    let same = same_starts 0 xs ys h in
    let f = address_of places in
    let before = same_reach f places xs ys number h first.first.before in
    let far = far_too f places xs ys number first.jump h back before first.first.found first.first.lacks in
    let P : List ℕ → Type 0 = λ s. IsFirstWithout Reaches (placed s ys) number far.jump in
    record {
      short = subst (λ (n : ℕ). n ≤ most_bytes) (same_end 0 xs ys h) first.short;
      jump = far.jump;
      first = subst P same (record { found = far.found; lacks = far.lacks; before = before });
    }

refused_too : (a b : ℕ) (gs : List Group) (labelled : Labelled) (e : LayError) → Refuses (labels_in_groups a gs labelled) e → Refuses (labels_in_groups b gs labelled) e
unfolding labels_in_groups
refused_too a b gs labelled (errors.TooLong number) first = past_too _ _ number (regrouped_alike a b (own_instr (start gs)) gs labelled.code) first
refused_too a b gs labelled (errors.Far number) first = far_first _ _ number (regrouped_alike a b (own_instr (start gs)) gs labelled.code) (regrouped_alike b a (own_instr (start gs)) gs labelled.code) first
refused_too a b gs labelled errors.Memory none = none

pub same_fit : (a b : ℕ) (gs : List Group) (parts : CodeParts) → DoesNotFit a gs parts → DoesNotFit b gs parts
unfolding labels_in_groups
same_fit a b gs parts (inl big) = inl big
same_fit a b gs parts (inr (inl stack)) = inr (inl stack)
same_fit a b gs parts (inr (inr (inl rows))) = inr (inr (inl (same_rows rows))) where
  same_rows : 65535 < length (labels_in_groups a gs parts.labelled).ranges → 65535 < length (labels_in_groups b gs parts.labelled).ranges
  same_rows h = h
same_fit a b gs parts (inr (inr (inr (e, refused)))) = inr (inr (inr (e, refused_too a b gs parts.labelled e refused)))
