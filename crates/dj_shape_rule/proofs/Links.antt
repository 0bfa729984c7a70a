-- Slots of local variables, each above those before it.
use Rattle.std.proofs.Common.{◌≡◌, ℕ, zero, suc, ◌+◌, ◌-◌, ◌<◌, ◌≤◌, ◌⊎◌, List, [], ◌∷◌, ◌++◌, length, length-append, append_assoc, get_or, reverse, Option, Some, None, slice_get, refl, sym, ap, subst, ◌∙◌, inl, inr, arith}
use Rattle.std.proofs.lemmas.List.{reverse-append}
use Rattle.std.proofs.lemmas.Option.{slice_get-get_or}
use Rattle.dj_names.specs.declared.descriptor.Kind.{Kind}
use Rattle.dj_shape_rule.specs.declared.arena.Slot.{Slot}
use Rattle.dj_shape_rule.specs.declared.arena.LocalsPlace.{LocalsPlace}
use Rattle.dj_shape_rule.specs.Arena.{slot_at, with_slot, slots_within, slots_at, AreLinked, IsIn, IsAt, IsShared, Extends}

-- ---- lists with one more, or more

get_append : {A : Type 0} (xs ys : List A) (k : ℕ) → k < length xs → slice_get (xs ++ ys) k ≡ slice_get xs k
get_append [] ys k h = absurd (omega arith)
get_append (x ∷ xs) ys zero h = refl
get_append (x ∷ xs) ys (suc k) h = get_append xs ys k (omega arith)

pub split_last : {A : Type 0} (xs : List A) (x y : A) (k : ℕ) → slice_get (xs ++ x ∷ []) k ≡ Some y → (slice_get xs k ≡ Some y) ⊎ ((k ≡ length xs) × (x ≡ y))
split_last [] x y zero at = inr (refl, cc)
split_last [] x y (suc k) at = absurd cc
split_last (z ∷ xs) x y zero at = inl at
split_last (z ∷ xs) x y (suc k) at = elim (split_last xs x y k at) [ inl there ↦ inl there | inr last ↦ inr (ap suc last.0, last.1) ]

last_of : {A : Type 0} (xs : List A) (x : A) → slice_get (xs ++ x ∷ []) (length xs) ≡ Some x
last_of [] x = refl
last_of (y ∷ xs) x = last_of xs x

-- ---- the slot at which local variables end

pub slot_below : (slots : List Slot) (end : ℕ) → 0 < end → slot_at slots end ≡ slice_get slots (end - 1)
slot_below slots zero h = absurd (omega arith)
slot_below slots (suc k) h = ap (λ (n : ℕ). slice_get slots n) (omega arith)

-- ---- local variables

slots_few : (most : ℕ) (slots : List Slot) (end : ℕ) → length (slots_within most slots end) ≤ most
unfolding slots_within
slots_few zero slots end = omega arith
slots_few (suc most) slots end = by (slot_at slots end) (λ before. slots_few most slots before) where
  by : (o : Option Slot) → ((before : ℕ) → length (slots_within most slots before) ≤ most) → length (with_slot o (λ before. slots_within most slots before)) ≤ suc most
  by None few = omega arith
  by (Some slot) few = omega (arith, few slot.before, length-append (slots_within most slots slot.before) (slot.kind ∷ []))

-- they aren't more than the slots up to the last
pub few_slots : (slots : List Slot) (end : ℕ) → length (slots_at slots end) ≤ end
unfolding slots_at
few_slots slots end = slots_few end slots end

same_within : (slots : List Slot) → AreLinked slots → (f g end : ℕ) → end ≤ f → end ≤ g → slots_within f slots end ≡ slots_within g slots end
unfolding slots_within
same_within slots linked zero zero end a b = refl
same_within slots linked zero (suc g) zero a b = refl
same_within slots linked zero (suc g) (suc k) a b = absurd (omega arith)
same_within slots linked (suc f) zero zero a b = refl
same_within slots linked (suc f) zero (suc k) a b = absurd (omega arith)
same_within slots linked (suc f) (suc g) end a b = by (slot_at slots end) refl (λ before c d. same_within slots linked f g before c d) where
  by : (o : Option Slot) → slot_at slots end ≡ o → ((before : ℕ) → before ≤ f → before ≤ g → slots_within f slots before ≡ slots_within g slots before)
      → with_slot o (λ before. slots_within f slots before) ≡ with_slot o (λ before. slots_within g slots before)
  by None e same = refl
  by (Some slot) e same =
      let less : slot.before < end = linked end slot e in
      ap (λ (l : List (Option Kind)). l ++ slot.kind ∷ []) (same slot.before (omega arith) (omega arith))

pub slots_above : (slots : List Slot) → AreLinked slots → (end : ℕ) (slot : Slot) → slot_at slots end ≡ Some slot → slots_at slots end ≡ slots_at slots slot.before ++ slot.kind ∷ []
unfolding slots_within slots_at
slots_above slots linked zero slot e = absurd cc
slots_above slots linked (suc k) slot e =
    let less : slot.before < suc k = linked (suc k) slot e in
    ap (λ (o : Option Slot). with_slot o (λ before. slots_within k slots before)) e
    ∙ ap (λ (l : List (Option Kind)). l ++ slot.kind ∷ []) (same_within slots linked k slot.before slot.before (omega arith) (omega arith))

pub no_slots : (slots : List Slot) (end : ℕ) → slot_at slots end ≡ None → slots_at slots end ≡ []
unfolding slots_within slots_at
no_slots slots zero e = refl
no_slots slots (suc k) e = ap (λ (o : Option Slot). with_slot o (λ before. slots_within k slots before)) e

pub no_place : (slots : List Slot) → slots_at slots 0 ≡ []
no_place slots = no_slots slots 0 refl

-- ---- more slots

grown_within : (slots more : List Slot) → AreLinked slots → (f end : ℕ) → end ≤ length slots → slots_within f (slots ++ more) end ≡ slots_within f slots end
unfolding slots_within
grown_within slots more linked zero end within = refl
grown_within slots more linked (suc f) zero within = refl
grown_within slots more linked (suc f) (suc k) within =
    ap (λ (o : Option Slot). with_slot o (λ before. slots_within f (slots ++ more) before)) (get_append slots more k (omega arith))
    ∙ by (slice_get slots k) refl (λ before c. grown_within slots more linked f before c) where
      by : (o : Option Slot) → slice_get slots k ≡ o → ((before : ℕ) → before ≤ length slots → slots_within f (slots ++ more) before ≡ slots_within f slots before)
          → with_slot o (λ before. slots_within f (slots ++ more) before) ≡ with_slot o (λ before. slots_within f slots before)
      by None e same = refl
      by (Some slot) e same =
          let less : slot.before < suc k = linked (suc k) slot e in
          ap (λ (l : List (Option Kind)). l ++ slot.kind ∷ []) (same slot.before (omega arith))

pub grown_slots : (old new : List Slot) → AreLinked old → Extends old new → (end : ℕ) → end ≤ length old → slots_at new end ≡ slots_at old end
unfolding slots_at
grown_slots old new linked (more, e) end within = ap (λ (l : List Slot). slots_within end l end) e ∙ grown_within old more linked end end within

pub linked_more : (slots : List Slot) (slot : Slot) → AreLinked slots → slot.before ≤ length slots → AreLinked (slots ++ slot ∷ [])
linked_more slots slot linked within zero s e = absurd cc
linked_more slots slot linked within (suc k) s e = elim (split_last slots slot s k e) [
  | inl there ↦ linked (suc k) s there
  | inr last ↦ let same : slot.before ≡ s.before = ap (λ (x : Slot). x.before) last.1 in let k_is : k ≡ length slots = last.0 in omega arith
]

grown_length : (old new : List Slot) → Extends old new → length old ≤ length new
grown_length old new (more, e) = omega (arith, ap length e, length-append old more)

pub extends_more : (a b c : List Slot) → Extends a b → Extends b c → Extends a c
extends_more a b c (x, e) (y, f) = (x ++ y, f ∙ ap (λ (l : List Slot). l ++ y) e ∙ append_assoc a x y)

-- ---- places

pub at_in : (slots : List Slot) (place : LocalsPlace) (locals : List (Option Kind)) → IsAt slots place locals → IsIn slots place
at_in slots place locals at = (at.within, at.count ∙ sym (ap length at.are))

pub in_grown : (old new : List Slot) → AreLinked old → Extends old new → (place : LocalsPlace) → IsIn old place → IsIn new place
in_grown old new linked grows place is =
    let more = grown_length old new grows in
    let within = is.0 in
    (omega arith, is.1 ∙ sym (ap length (grown_slots old new linked grows place.end is.0)))

pub at_grown : (old new : List Slot) → AreLinked old → Extends old new → (place : LocalsPlace) (locals : List (Option Kind)) → IsAt old place locals → IsAt new place locals
at_grown old new linked grows place locals at =
    let more = grown_length old new grows in
    let within = at.within in
    record { within = omega arith; are = grown_slots old new linked grows place.end at.within ∙ at.are; count = at.count }

-- a local variable more, above those of a place
pub one_more : (slots new : List Slot) (place : LocalsPlace) (kind : Option Kind) (end : ℕ) → AreLinked slots → IsIn slots place → new ≡ slots ++ record { kind = kind; before = place.end } ∷ []
    → end ≡ length slots + 1 → IsAt new (record { end = end; count = place.count + 1 }) (slots_at slots place.end ++ kind ∷ [])
one_more slots new place kind end linked is e f =
    let slot : Slot = record { kind = kind; before = place.end } in
    let within : place.end ≤ length slots = is.0 in
    let grows : Extends slots new = (slot ∷ [], e) in
    let linked_new : AreLinked new = subst AreLinked (sym e) (linked_more slots slot linked within) in
    let last : end ≡ suc (length slots) = omega arith in
    let at : slot_at new end ≡ Some slot = ap (slot_at new) last ∙ ap (λ (l : List Slot). slice_get l (length slots)) e ∙ last_of slots slot in
    let below : slots_at new place.end ≡ slots_at slots place.end = grown_slots slots new linked grows place.end within in
    let count : place.count ≡ length (slots_at slots place.end) = is.1 in
    record {
      within = omega (arith, ap length e, length-append slots (slot ∷ []));
      are = slots_above new linked_new end slot at ∙ ap (λ (l : List (Option Kind)). l ++ kind ∷ []) below;
      count = omega (arith, length-append (slots_at slots place.end) (kind ∷ []));
    }

-- one less
pub one_less : (slots : List Slot) → AreLinked slots → (place : LocalsPlace) (slot : Slot) → IsIn slots place → slot_at slots place.end ≡ Some slot
    → place.count ≡ length (slots_at slots slot.before) + 1
one_less slots linked place slot is at =
    let count = is.1 in
    let e = ap length (slots_above slots linked place.end slot at) in
    omega (arith, length-append (slots_at slots slot.before) (slot.kind ∷ []))

pub before_within : (slots : List Slot) → AreLinked slots → (place : LocalsPlace) (slot : Slot) → IsIn slots place → slot_at slots place.end ≡ Some slot → slot.before ≤ length slots
before_within slots linked place slot is at =
    let less : slot.before < place.end = linked place.end slot at in
    let within = is.0 in
    omega arith

-- ---- below a place

pub below_is : (slots : List Slot) → AreLinked slots → (place : LocalsPlace) (none slot : Slot) → IsIn slots place → 0 < place.end → slot ≡ get_or slots (place.end - 1) none
    → (0 < place.count) × IsIn slots (record { end = slot.before; count = place.count - 1 }) × (slot.before < place.end) × (slots_at slots place.end ≡ slots_at slots slot.before ++ slot.kind ∷ [])
below_is slots linked place none slot is some got =
    let within = is.0 in
    let there : slice_get slots (place.end - 1) ≡ Some slot = slice_get-get_or slots (place.end - 1) none (omega (arith, within, some)) ∙ ap (λ (x : Slot). Some x) (sym got) in
    let at : slot_at slots place.end ≡ Some slot = slot_below slots place.end some ∙ there in
    let count = one_less slots linked place slot is at in (
      omega (arith, count),
      (before_within slots linked place slot is at, omega (arith, count)),
      linked place.end slot at,
      slots_above slots linked place.end slot at,
    )

-- what stands above a place, from the last on
pub more_above : (all rest under kept more : List (Option Kind)) (x : Option Kind) → all ≡ rest ++ reverse kept → rest ≡ under ++ x ∷ [] → more ≡ kept ++ x ∷ [] → all ≡ under ++ reverse more
more_above all rest under kept more x split last pushed =
    let e : reverse more ≡ x ∷ reverse kept = ap reverse pushed ∙ reverse-append kept (x ∷ []) in
    split ∙ ap (λ (l : List (Option Kind)). l ++ reverse kept) last ∙ append_assoc under (x ∷ []) (reverse kept) ∙ sym (ap (λ (l : List (Option Kind)). under ++ l) e)

pub gone_more : (all rest under gone : List (Option Kind)) (x : Option Kind) → all ≡ rest ++ gone → rest ≡ under ++ x ∷ [] → all ≡ under ++ x ∷ gone
gone_more all rest under gone x split last = split ∙ ap (λ (l : List (Option Kind)). l ++ gone) last ∙ append_assoc under (x ∷ []) gone

pub nothing_above : (all : List (Option Kind)) → all ≡ all ++ []
nothing_above [] = refl
nothing_above (x ∷ all) = ap (λ (l : List (Option Kind)). x ∷ l) (nothing_above all)

-- where the places are the same
pub shared_is : (slots : List Slot) (old new first second : LocalsPlace) (gone kept kinds : List (Option Kind)) → IsIn slots second → first.end ≡ second.end → slots_at slots old.end ≡ slots_at slots first.end ++ gone
    → slots_at slots new.end ≡ slots_at slots second.end ++ reverse kept → kinds ≡ reverse kept → IsShared (slots_at slots old.end) (slots_at slots new.end) second.count kinds
shared_is slots old new first second gone kept kinds is same before after turned = record {
  shared = slots_at slots second.end;
  gone = gone;
  before = before ∙ ap (λ (n : ℕ). slots_at slots n ++ gone) same;
  after = after ∙ ap (λ (l : List (Option Kind)). slots_at slots second.end ++ l) (sym turned);
  count = is.1;
}
