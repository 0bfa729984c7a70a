-- The places of the entries of a frame's local variables, and the frames that are kept.
use Rattle.std.proofs.Common.{◌≡◌, ℕ, zero, suc, ◌+◌, ◌-◌, ◌<◌, ◌≤◌, ◌⊎◌, Bool, true, false, List, [], ◌∷◌, ◌++◌, length, take, min, get_or, Option, Some, None, slice_get, nat_eq, nat_le, if◌then◌else◌, refl, sym, ap, subst, ◌∙◌, inl, inr, arith}
use Rattle.std.specs.Option.{option_map}
use Rattle.std.proofs.lemmas.List.{take-append-le, take_all, take_more}
use Rattle.std.proofs.lemmas.Option.{slice_get-get_or}
use Rattle.dj_names.specs.declared.descriptor.Kind.{Kind}
use Rattle.dj_ops.specs.declared.frames.Form.{Form}
use Rattle.dj_ops.specs.declared.frames.Form.TheVariants as forms
use Rattle.dj_model.specs.trusted.Linking.{or_else}
use Rattle.dj_model.specs.trusted.Program.{Code}
use Rattle.dj_model.specs.trusted.Kinds.{Entries, entry_slots, entries_of, form_entries, with_locals, with_stack}
use Rattle.dj_shape_rule.specs.declared.arena.Slot.{Slot}
use Rattle.dj_shape_rule.specs.declared.arena.LocalsPlace.{LocalsPlace}
use Rattle.dj_shape_rule.specs.declared.frames.KeptFrame.{KeptFrame}
use Rattle.dj_shape_rule.specs.Arena.{slots_at, AreLinked, IsIn, IsAt, Extends}
use Rattle.dj_shape_rule.specs.declared.numbered.NumberedFrames.{NumberedFrames}
use Rattle.dj_shape_rule.specs.Numbered.{frame_at}
use Rattle.dj_shape_rule.specs.Placing.{kept_at, number_place, ArePlaced, HasOneMore}
use Rattle.dj_shape_rule.specs.Reported.{Reported, ReportedFrames, reported_at, reported_in, Grows, IsKept}
use Rattle.dj_shape_rule.specs.declared.reading.Reader.{Reader}
use Rattle.dj_shape_rule.specs.Reading.{ChangesTo, ArePlaces, IsReading, kept_entries}
use Rattle.dj_shape_rule.proofs.Entries.{slots_more}
use Rattle.dj_shape_rule.proofs.Links.{split_last, grown_slots, at_grown, in_grown, no_place, extends_more}

-- ---- the first of a list

take_take : {A : Type 0} (m n : ℕ) (xs : List A) → m ≤ n → take m (take n xs) ≡ take m xs
take_take zero n xs h = refl
take_take (suc m) zero xs h = absurd (omega arith)
take_take (suc m) (suc n) [] h = refl
take_take (suc m) (suc n) (x ∷ xs) h = ap (λ l. x ∷ l) (take_take m n xs (omega arith))

at_take : {A : Type 0} (n : ℕ) (xs : List A) (k : ℕ) (x : A) → slice_get (take n xs) k ≡ Some x → (k < n) × (slice_get xs k ≡ Some x)
at_take zero xs k x e = absurd cc
at_take (suc n) [] k x e = absurd cc
at_take (suc n) (y ∷ xs) zero x e = (omega arith, e)
at_take (suc n) (y ∷ xs) (suc k) x e = let there = at_take n xs k x e in (let less = there.0 in omega arith, there.1)

-- ---- what a form keeps

keeps_same : (old : List (Option Kind)) (x : Entries) (o : Option (List (Option Kind))) → with_stack old o ≡ Some x → x.locals ≡ old
keeps_same old x None e = absurd cc
keeps_same old x (Some s) e =
    let r : ◌≡◌ {A = Entries} (record { locals = old; stack = s }) x = cc in
    sym (ap (λ (y : Entries). y.locals) r)

keeps_before : (old : List (Option Kind)) (x : Entries) (o : Option (List (Option Kind))) → with_locals old o ≡ Some x → (more : List (Option Kind)) × (x.locals ≡ old ++ more)
keeps_before old x None e = absurd cc
keeps_before old x (Some more) e =
    let r : ◌≡◌ {A = Entries} (record { locals = old ++ more; stack = [] }) x = cc in
    (more, sym (ap (λ (y : Entries). y.locals) r))

keeps_first : (n : ℕ) (old : List (Option Kind)) (x : Entries) (b : Bool)
    → ◌≡◌ {A = Option Entries} (if b then Some (record { locals = take n old; stack = [] }) else None) (Some x) → x.locals ≡ take n old
keeps_first n old x true e =
    let r : ◌≡◌ {A = Entries} (record { locals = take n old; stack = [] }) x = cc in
    sym (ap (λ (y : Entries). y.locals) r)
keeps_first n old x false e = absurd cc

pub length_take : {A : Type 0} (n : ℕ) (xs : List A) → length (take n xs) ≤ n
length_take zero xs = omega arith
length_take (suc n) [] = omega arith
length_take (suc n) (x ∷ xs) = omega (arith, length_take n xs)

pub kept_same : (code : Code) (old : List (Option Kind)) (form : Form) (stack : List Kind) (new : List (Option Kind)) → ChangesTo (Some stack) (form_entries code old form) new
    → take (kept_entries form (length old) (length new)) new ≡ take (kept_entries form (length old) (length new)) old
kept_same code old forms.Same stack new c =
    let s : ◌≡◌ {A = Entries} (record { locals = old; stack = [] }) c.0 = cc in
    ap (take (min (length old) (length new))) (sym c.2 ∙ sym (ap (λ (y : Entries). y.locals) s))
kept_same code old (forms.Stack1 type) stack new c = ap (take (min (length old) (length new))) (sym c.2 ∙ keeps_same old c.0 (entries_of code (type ∷ [])) c.1)
kept_same code old (forms.Chop n) stack new c =
    let e : new ≡ take (length old - n) old = sym c.2 ∙ keeps_first (length old - n) old c.0 (nat_le n (length old)) c.1 in
    let few : length new ≤ length old - n = omega (arith, ap length e, length_take (length old - n) old) in
    ap (take (min (length old) (length new))) e ∙ take_take (min (length old) (length new)) (length old - n) old (omega arith)
kept_same code old (forms.Append more) stack new c =
    let k = keeps_before old c.0 (entries_of code more) c.1 in
    let less : min (length old) (length new) ≤ length old = omega arith in
    ap (take (min (length old) (length new))) (sym c.2 ∙ k.1) ∙ take-append-le (min (length old) (length new)) old k.0 less
kept_same code old (forms.Full locals stack_of) stack new c = refl

pub kept_few : (form : Form) (before now : ℕ) → kept_entries form before now ≤ now
kept_few forms.Same before now = omega arith
kept_few (forms.Stack1 type) before now = omega arith
kept_few (forms.Chop n) before now = omega arith
kept_few (forms.Append more) before now = omega arith
kept_few (forms.Full locals stack) before now = omega arith

-- ---- places

pub places_kept : (slots : List Slot) (places : List LocalsPlace) (old new : List (Option Kind)) (n : ℕ) → take n new ≡ take n old → ArePlaces slots places old → ArePlaces slots (take n places) new
places_kept slots places old new n same are k place e =
    let at = at_take n places k place e in
    let less = at.0 in
    let within : suc k ≤ n = omega arith in
    let first : take (suc k) old ≡ take (suc k) new = sym (take_take (suc k) n old within) ∙ ap (take (suc k)) (sym same) ∙ take_take (suc k) n new within in
    subst (λ (l : List (Option Kind)). IsAt slots place (entry_slots l)) first (are k place at.1)

pub places_grown : (old new : List Slot) (places : List LocalsPlace) (entries : List (Option Kind)) → AreLinked old → Extends old new → ArePlaces old places entries → ArePlaces new places entries
places_grown old new places entries linked grows are k place e = at_grown old new linked grows place (entry_slots (take (suc k) entries)) (are k place e)

pub places_more : (slots : List Slot) (places : List LocalsPlace) (place : LocalsPlace) (entries : List (Option Kind)) → ArePlaces slots places entries
    → IsAt slots place (entry_slots (take (suc (length places)) entries)) → ArePlaces slots (places ++ place ∷ []) entries
places_more slots places place entries are at k p e = elim (split_last places place p k e) [
  | inl there ↦ are k p there
  | inr last ↦
      subst (λ (q : LocalsPlace). IsAt slots q (entry_slots (take (suc k) entries))) last.1
      (subst (λ (n : ℕ). IsAt slots place (entry_slots (take (suc n) entries))) (sym last.0) at)
]

-- the slots of one entry more
entry_more : (entries : List (Option Kind)) (k : ℕ) (d : Option Kind) → k < length entries → entry_slots (take k entries) ++ entry_slots (get_or entries k d ∷ []) ≡ entry_slots (take (suc k) entries)
entry_more entries k d within =
    let next : suc k ≡ k + 1 = omega arith in
    sym (ap (λ (n : ℕ). entry_slots (take n entries)) next ∙ ap entry_slots (take_more entries k d within) ∙ slots_more (take k entries) (get_or entries k d))

pub next_place : (slots new : List Slot) (last more : LocalsPlace) (entries : List (Option Kind)) (k : ℕ) (entry : Option Kind) → k < length entries → entry ≡ get_or entries k entry
    → IsAt slots last (entry_slots (take k entries)) → IsAt new more (slots_at slots last.end ++ entry_slots (entry ∷ [])) → IsAt new more (entry_slots (take (suc k) entries))
next_place slots new last more entries k entry within e at added =
    subst (IsAt new more)
    (ap (λ (l : List (Option Kind)). l ++ entry_slots (entry ∷ [])) at.are ∙ ap (λ (x : Option Kind). entry_slots (take k entries) ++ entry_slots (x ∷ [])) e ∙ entry_more entries k entry within) added

-- the place of all of them
pub place_of_all : (slots : List Slot) (place : LocalsPlace) (entries : List (Option Kind)) (n : ℕ) → n ≡ length entries → IsAt slots place (entry_slots (take n entries)) → IsAt slots place (entry_slots entries)
place_of_all slots place entries n e at = subst (λ (l : List (Option Kind)). IsAt slots place (entry_slots l)) (take_all n entries (omega arith)) at

pub first_place : (slots : List Slot) (entries : List (Option Kind)) → IsAt slots (record { end = 0; count = 0 }) (entry_slots (take 0 entries))
first_place slots entries = record { within = omega arith; are = no_place slots; count = refl }

-- the place of the last
pub first_of_none : (slots : List Slot) (places : List LocalsPlace) (entries : List (Option Kind)) → slice_get places (length places - 1) ≡ None
    → IsAt slots (record { end = 0; count = 0 }) (entry_slots (take (length places) entries))
first_of_none slots [] entries e = first_place slots entries
first_of_none slots (place ∷ places) entries e = absurd (nothing places place e) where
  nothing : (l : List LocalsPlace) (x : LocalsPlace) → slice_get (x ∷ l) (length (x ∷ l) - 1) ≡ None → ⊥
  nothing l x f = let s : Some (get_or (x ∷ l) (length (x ∷ l) - 1) x) ≡ None = sym (slice_get-get_or (x ∷ l) (length (x ∷ l) - 1) x (omega arith)) ∙ f in absurd cc

pub last_of_some : (slots : List Slot) (places : List LocalsPlace) (entries : List (Option Kind)) (place : LocalsPlace) → ArePlaces slots places entries
    → slice_get places (length places - 1) ≡ Some place → IsAt slots place (entry_slots (take (length places) entries))
last_of_some slots [] entries place are e = absurd cc
last_of_some slots (x ∷ places) entries place are e =
    let last : suc (length (x ∷ places) - 1) ≡ length (x ∷ places) = omega arith in
    subst (λ (n : ℕ). IsAt slots place (entry_slots (take n entries))) last (are (length (x ∷ places) - 1) place e)

-- ---- frames that are kept

pub placed_grown : (old new : List Slot) (reported : NumberedFrames) → AreLinked old → Extends old new → ArePlaced old reported → ArePlaced new reported
placed_grown old new reported linked grows placed number kept at = in_grown old new linked grows kept.place (placed number kept at)

pub placed_none : (slots : List Slot) (reported : NumberedFrames) → reported.kept.items ≡ [] → ArePlaced slots reported
placed_none slots reported none index kept at = absurd (let e = subst (λ (l : List KeptFrame). slice_get l index ≡ Some kept) none at in cc)

-- a frame more, or none
pub placed_after : (slots : List Slot) (old new : NumberedFrames) (kept : KeptFrame) → (new.kept.items ≡ old.kept.items) ⊎ (new.kept.items ≡ old.kept.items ++ kept ∷ []) → IsIn slots kept.place
    → ArePlaced slots old → ArePlaced slots new
placed_after slots old new kept (inl same) is placed index k at = placed index k (sym (ap (λ (l : List KeptFrame). slice_get l index) same) ∙ at)
placed_after slots old new kept (inr more) is placed index k at = elim (split_last old.kept.items kept k index (sym (ap (λ (l : List KeptFrame). slice_get l index) more) ∙ at)) [
  | inl there ↦ placed index k there
  | inr last ↦ subst (λ (x : KeptFrame). IsIn slots x.place) last.1 is
]

-- the frame at an instruction
pub placed_at : (slots : List Slot) (reported : NumberedFrames) (number : ℕ) (kept : KeptFrame) → ArePlaced slots reported → kept_at reported number ≡ Some kept → IsIn slots kept.place
placed_at slots reported number kept placed at = by (number_place reported number) at where
  by : (place : ℕ) → frame_at reported.kept.items place ≡ Some kept → IsIn slots kept.place
  by zero e = absurd cc
  by (suc index) e = placed index kept e

pub reported_none : (frames : ReportedFrames) (number : ℕ) → kept_at frames.reported number ≡ None → reported_at frames number ≡ None
unfolding reported_at
reported_none frames number e = ap (option_map (reported_in frames.slots.items)) e

pub reported_some : (frames : ReportedFrames) (number : ℕ) (kept : KeptFrame) → kept_at frames.reported number ≡ Some kept → reported_at frames number ≡ Some (reported_in frames.slots.items kept)
unfolding reported_at
reported_some frames number kept e = ap (option_map (reported_in frames.slots.items)) e

-- a frame more
pub reported_more : (old new : ReportedFrames) (at : ℕ) (kept : KeptFrame) → new.slots.items ≡ old.slots.items → HasOneMore old.reported new.reported at kept → IsKept old new at (reported_in old.slots.items kept)
unfolding reported_at
reported_more old new at kept slots more number =
    ap (λ (l : List Slot). option_map (reported_in l) (kept_at new.reported number)) slots ∙ ap (option_map (reported_in old.slots.items)) (more number) ∙ by (kept_at old.reported number) (nat_eq at number) where
      by : (o : Option KeptFrame) (b : Bool) → option_map (reported_in old.slots.items) (or_else o (if b then Some kept else None))
          ≡ or_else (option_map (reported_in old.slots.items) o) (if b then Some (reported_in old.slots.items kept) else None)
      by (Some x) b = refl
      by None true = refl
      by None false = refl

-- more slots change nothing of what frames declare
pub reported_still : (old new : ReportedFrames) → Grows old new → (number : ℕ) → reported_at new number ≡ reported_at old number
unfolding reported_at
reported_still old new grows number =
    ap (λ (m : NumberedFrames). option_map (reported_in new.slots.items) (kept_at m number)) grows.1 ∙ by (kept_at old.reported number) (λ kept e. placed_at old.slots.items old.reported number kept old.placed e) where
      by : (o : Option KeptFrame) → ((kept : KeptFrame) → o ≡ Some kept → IsIn old.slots.items kept.place)
          → option_map (reported_in new.slots.items) o ≡ option_map (reported_in old.slots.items) o
      by None placed = refl
      by (Some kept) placed =
          ap (λ (l : List (Option Kind)). Some (record { locals = l; stack = kept.stack.items }))
          (grown_slots old.slots.items new.slots.items old.linked grows.0 kept.place.end (placed kept refl).0)

pub grows_more : (a b c : ReportedFrames) → Grows a b → Grows b c → Grows a c
grows_more a b c x y = (extends_more a.slots.items b.slots.items c.slots.items x.0 y.0, y.1 ∙ x.1)

-- a frame is kept after slots were added
pub kept_after : (a b c : ReportedFrames) (at : ℕ) (reported : Reported) → Grows a b → IsKept b c at reported → IsKept a c at reported
kept_after a b c at reported grows kept number = kept number ∙ ap (λ (o : Option Reported). or_else o (if nat_eq at number then Some reported else None)) (reported_still a b grows number)

pub reading_still : (reader : Reader) (frames : ReportedFrames) → frames.slots.items ≡ reader.frames.slots.items → IsReading reader → IsReading (record reader { frames = frames })
reading_still reader frames same is =
    record { count = is.count; places = subst (λ (l : List Slot). ArePlaces l reader.places.items reader.entries.items) (sym same) is.places }
