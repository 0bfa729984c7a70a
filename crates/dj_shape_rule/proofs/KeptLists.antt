-- The local variables of frames, kept as lists.
use Rattle.std.proofs.Common.{◌≡◌, ℕ, zero, suc, ◌+◌, ◌-◌, ◌<◌, ◌≤◌, List, [], ◌∷◌, ◌++◌, length, length-append, get_or, replicate, Option, Some, None, slice_get, refl, sym, ap, subst, ◌∙◌, inl, inr, arith}
use Rattle.std.specs.Option.{option_map}
use Rattle.std.proofs.lemmas.Option.{same_Some}
use Rattle.dj_names.specs.declared.descriptor.Kind.{Kind}
use Rattle.dj_kind_trees.specs.Nodes.{listed}
use Rattle.dj_kind_lists.specs.Lists.{IsChanged}
use Rattle.dj_model.specs.trusted.Initialisation.{padded}
use Rattle.dj_shape_rule.specs.declared.arena.LocalsPlace.{LocalsPlace}
use Rattle.dj_shape_rule.specs.declared.frames.KeptFrame.{KeptFrame}
use Rattle.dj_shape_rule.specs.Arena.{slots_at, IsIn, IsShared}
use Rattle.dj_shape_rule.specs.Numbered.{frame_at}
use Rattle.dj_shape_rule.specs.Placing.{number_place}
use Rattle.dj_shape_rule.specs.Reported.{Reported, ReportedFrames, reported_at, reported_in, frame_place}
use Rattle.dj_shape_rule.specs.Standing.{Standing, IsListed}
use Rattle.dj_shape_rule.specs.Listed.{AreListed, AreListedBelow, AreFew, IsLast}
use Rattle.dj_shape_rule.proofs.Links.{no_place}
use Rattle.dj_kind_lists.proofs.Listing.{same_lists}
use Rattle.dj_shape_rule.proofs.Lists.{order, changed_shared, changed_same, get_last, got_before, got_last, listed_padded, many_padded}

listed_none : (n slot : ℕ) → listed (replicate n None) slot ≡ None
listed_none zero slot = refl
listed_none (suc n) zero = refl
listed_none (suc n) (suc slot) = listed_none n slot

-- ---- at first

pub none_below : (frames : ReportedFrames) (s : Standing) → s.frames ≡ replicate s.max_locals None ∷ [] → AreListedBelow frames s 1
none_below frames s one = record {
  many = ap length one;
  each = λ index kept at less few. absurd (omega (arith, less));
}

pub none_last : (frames : ReportedFrames) (s : Standing) → s.frames ≡ replicate s.max_locals None ∷ [] → IsLast frames s 0 (record { end = 0; count = 0 })
none_last frames s one = record {
  within = (omega arith, sym (ap length (no_place frames.slots.items)));
  same = λ slot less.
      ap (λ (l : List (List (Option Kind))). listed (get_or l 0 []) slot) one ∙ listed_none s.max_locals slot
      ∙ sym (ap (λ (l : List (Option Kind)). listed l slot) (no_place frames.slots.items));
}

-- ---- one more

module _ (frames : ReportedFrames) (s t : Standing) (index : ℕ) (made : List (Option Kind)) (below : AreListedBelow frames s (index + 1)) (room : t.max_locals ≡ s.max_locals) (added : t.frames ≡ s.frames ++ made ∷ []) where
  pub one_below : ((kept : KeptFrame) → slice_get frames.reported.kept.items index ≡ Some kept → length (slots_at frames.slots.items kept.place.end) ≤ s.max_locals
      → made ≡ padded s.max_locals (slots_at frames.slots.items kept.place.end)) → AreListedBelow frames t (index + 2)
  one_below own = record {
    many = let m = below.many in omega (arith, m, ap length added, length-append s.frames (made ∷ []));
    each = λ i kept at less few.
        let m = below.many in
        let few_s : length (slots_at frames.slots.items kept.place.end) ≤ s.max_locals = omega (arith, few, room) in
        ap (λ (l : List (List (Option Kind))). slice_get l (suc i)) added ∙ elim (order (suc i) (index + 1)) [
          | inl before ↦
              got_before s.frames made (suc i) (omega (arith, before, m)) ∙ below.each i kept at before few_s
              ∙ ap (λ (n : ℕ). Some (padded n (slots_at frames.slots.items kept.place.end))) (sym room)
          | inr past ↦
              let same : suc i ≡ length s.frames = omega (arith, past, less, m) in
              let here : i ≡ index = omega (arith, past, less) in
              ap (λ (k : ℕ). slice_get (s.frames ++ made ∷ []) k) same ∙ got_last s.frames made
              ∙ ap (λ (l : List (Option Kind)). Some l) (own kept (subst (λ (k : ℕ). slice_get frames.reported.kept.items k ≡ Some kept) here at) few_s)
              ∙ ap (λ (n : ℕ). Some (padded n (slots_at frames.slots.items kept.place.end))) (sym room)
        ];
  }

  pub one_last : (place : LocalsPlace) → IsIn frames.slots.items place → ((slot : ℕ) → slot < s.max_locals → listed made slot ≡ listed (slots_at frames.slots.items place.end) slot)
      → IsLast frames t (index + 1) place
  one_last place within same = record {
    within = within;
    same = λ slot less.
        let m = below.many in
        ap (λ (l : List (List (Option Kind))). listed (get_or l (index + 1) []) slot) added
        ∙ ap (λ (k : ℕ). listed (get_or (s.frames ++ made ∷ []) k []) slot) (sym m)
        ∙ ap (λ (l : List (Option Kind)). listed l slot) (get_last s.frames made) ∙ same slot (omega (arith, less, room));
  }

-- a frame that doesn't fit
module _ (frames : ReportedFrames) (s t : Standing) (index : ℕ) (last place : LocalsPlace) (below : AreListedBelow frames s (index + 1)) (is_last : IsLast frames s index last) (room : t.max_locals ≡ s.max_locals) (places : (kept : KeptFrame) → slice_get frames.reported.kept.items index ≡ Some kept → place ≡ kept.place) (within : IsIn frames.slots.items place) where
  pub unfit_listed : (made : List (Option Kind)) → t.frames ≡ s.frames ++ made ∷ [] → s.max_locals < place.count → AreListedBelow frames t (index + 2)
  unfit_listed made added unfit = one_below frames s t index made below room added (λ kept at few. absurd (
      let count = within.1 in
      let e = ap (λ (p : LocalsPlace). length (slots_at frames.slots.items p.end)) (places kept at) in
      omega (arith, few, unfit, count, e)))

  pub unfit_last : (made : List (Option Kind)) → t.frames ≡ s.frames ++ made ∷ [] → IsChanged s.max_locals (get_or s.frames index []) s.max_locals [] made → IsLast frames t (index + 1) last
  unfit_last made added changed = one_last frames s t index made below room added last is_last.within
      (changed_same s.max_locals (get_or s.frames index []) (slots_at frames.slots.items last.end) made s.max_locals changed (omega arith) is_last.same)

  -- where it is the one before it
  pub same_listed : (made : List (Option Kind)) → t.frames ≡ s.frames ++ made ∷ [] → place.end ≡ last.end → IsChanged s.max_locals (get_or s.frames index []) s.max_locals [] made → AreListedBelow frames t (index + 2)
  same_listed made added same changed = one_below frames s t index made below room added (λ kept at few.
      let own : slots_at frames.slots.items kept.place.end ≡ slots_at frames.slots.items last.end = ap (λ (p : LocalsPlace). slots_at frames.slots.items p.end) (sym (places kept at)) ∙ ap (slots_at frames.slots.items) same in
      let many = many_padded s.max_locals (slots_at frames.slots.items kept.place.end) few in
      let made_many = changed.many in
      same_lists made (padded s.max_locals (slots_at frames.slots.items kept.place.end)) (omega (arith, many, made_many)) (λ slot less.
      changed_same s.max_locals (get_or s.frames index []) (slots_at frames.slots.items last.end) made s.max_locals changed (omega arith) is_last.same slot (omega (arith, less, made_many))
      ∙ sym (listed_padded s.max_locals (slots_at frames.slots.items kept.place.end) slot ∙ ap (λ (l : List (Option Kind)). listed l slot) own)))

  pub same_last : (made : List (Option Kind)) → t.frames ≡ s.frames ++ made ∷ [] → place.end ≡ last.end → IsChanged s.max_locals (get_or s.frames index []) s.max_locals [] made → IsLast frames t (index + 1) place
  same_last made added same changed = one_last frames s t index made below room added place within (λ slot less.
      changed_same s.max_locals (get_or s.frames index []) (slots_at frames.slots.items last.end) made s.max_locals changed (omega arith) is_last.same slot less
      ∙ ap (λ (n : ℕ). listed (slots_at frames.slots.items n) slot) (sym same))

  module _ (made : List (Option Kind)) (from : ℕ) (kinds : List (Option Kind)) (added : t.frames ≡ s.frames ++ made ∷ []) (fit : place.count ≤ s.max_locals) (shared : IsShared (slots_at frames.slots.items last.end) (slots_at frames.slots.items place.end) from kinds) (changed : IsChanged s.max_locals (get_or s.frames index []) from kinds made) where
    made_is : made ≡ padded s.max_locals (slots_at frames.slots.items place.end)
    made_is =
        let count = within.1 in
        changed_shared s.max_locals (get_or s.frames index []) (slots_at frames.slots.items last.end) (slots_at frames.slots.items place.end) from kinds made changed shared is_last.same (omega (arith, fit, count))

    pub fit_listed : AreListedBelow frames t (index + 2)
    fit_listed = one_below frames s t index made below room added (λ kept at few.
        made_is ∙ ap (λ (p : LocalsPlace). padded s.max_locals (slots_at frames.slots.items p.end)) (places kept at))

    pub fit_last : IsLast frames t (index + 1) place
    fit_last = one_last frames s t index made below room added place within (λ slot less.
        ap (λ (l : List (Option Kind)). listed l slot) made_is ∙ listed_padded s.max_locals (slots_at frames.slots.items place.end) slot)

-- ---- all

pub all_listed : (frames : ReportedFrames) (s : Standing) (count : ℕ) → length frames.reported.kept.items + 1 ≤ count → AreListedBelow frames s count → AreFew frames s.max_locals → AreListed frames s
unfolding reported_at
all_listed frames s count most below few number reported e = by (number_place frames.reported number) refl where
  at_index : (index : ℕ) (o : Option KeptFrame) → slice_get frames.reported.kept.items index ≡ o → option_map (reported_in frames.slots.items) o ≡ Some reported → IsListed s (suc index) reported.locals
  at_index index None at f = absurd cc
  at_index index (Some kept) at f =
      let same : reported_in frames.slots.items kept ≡ reported = same_Some _ _ f in
      let within = slice_within frames.reported.kept.items index kept at in
      let short : length reported.locals ≤ s.max_locals = few number reported e in
      let locals : slots_at frames.slots.items kept.place.end ≡ reported.locals = ap (λ (r : Reported). r.locals) same in
      record {
        few = short;
        at = below.each index kept at (omega (arith, within, most)) (let n = ap length locals in omega (arith, n, short))
            ∙ ap (λ (l : List (Option Kind)). Some (padded s.max_locals l)) locals;
      } where
        slice_within : (l : List KeptFrame) (k : ℕ) (x : KeptFrame) → slice_get l k ≡ Some x → k < length l
        slice_within [] k x h = absurd cc
        slice_within (y ∷ l) zero x h = omega arith
        slice_within (y ∷ l) (suc k) x h = let w = slice_within l k x h in omega (arith, w)

  by : (place : ℕ) → number_place frames.reported number ≡ place → IsListed s (frame_place frames number) reported.locals
  by zero f = absurd (let none = sym (ap (λ (n : ℕ). option_map (reported_in frames.slots.items) (frame_at frames.reported.kept.items n)) f) ∙ e in cc)
  by (suc index) f =
      subst (λ (n : ℕ). IsListed s n reported.locals) (sym f)
      (at_index index (slice_get frames.reported.kept.items index) refl (sym (ap (λ (n : ℕ). option_map (reported_in frames.slots.items) (frame_at frames.reported.kept.items n)) f) ∙ e))
