-- Local variables in lists of kinds.
use Rattle.std.proofs.Common.{◌≡◌, ℕ, zero, suc, ◌+◌, ◌-◌, ◌<◌, ◌≤◌, ◌⊎◌, Bool, ℤ, List, [], ◌∷◌, ◌++◌, length, length-append, get_or, replicate, Option, Some, None, slice_get, refl, sym, ap, subst, ◌∙◌, inl, inr, arith, Decides}
use Rattle.std.proofs.lemmas.List.{length-replicate}
use Rattle.dj_names.specs.declared.descriptor.Kind.{Kind}
use Rattle.dj_kind_trees.specs.Nodes.{listed}
use Rattle.dj_kind_lists.specs.Lists.{IsChanged, ListFlows}
use Rattle.dj_kind_lists.proofs.Listing.{same_lists}
use Rattle.dj_model.specs.trusted.Values.{local_at}
use Rattle.dj_model.specs.trusted.Initialisation.{padded}
use Rattle.dj_shape_rule.specs.Arena.{IsShared}
use Rattle.dj_shape_rule.specs.Flows.{LocalsFlow}
use Rattle.dj_shape_rule.specs.Standing.{Standing, IsListed}
use Rattle.dj_shape_rule.specs.Listed.{AreListed}
use Rattle.dj_shape_rule.specs.Forms.{FlowsAt}
use Rattle.dj_shape_rule.specs.declared.frames.LentFrame.{LentFrame}
use Rattle.dj_shape_rule.specs.Reported.{ReportedFrames, reported_at, reported_by, frame_place}
use Rattle.dj_shape_rule.proofs.Slots.{at_padded}

pub order : (a b : ℕ) → (a < b) ⊎ (b ≤ a)
order a zero = inr (omega arith)
order zero (suc b) = inl (omega arith)
order (suc a) (suc b) = elim (order a b) [ inl l ↦ inl (omega (arith, l)) | inr g ↦ inr (omega (arith, g)) ]

-- ---- a slot

pub at_listed : (list : List (Option Kind)) (slot : ℕ) → local_at list slot ≡ listed list slot
at_listed [] slot = refl
at_listed (None ∷ list) zero = refl
at_listed (Some kind ∷ list) zero = refl
at_listed (x ∷ list) (suc slot) = at_listed list slot

pub listed_padded : (n : ℕ) (list : List (Option Kind)) (slot : ℕ) → listed (padded n list) slot ≡ listed list slot
listed_padded n list slot = sym (at_listed (padded n list) slot) ∙ at_padded n list slot ∙ at_listed list slot

pub many_padded : (n : ℕ) (list : List (Option Kind)) → length list ≤ n → length (padded n list) ≡ n
many_padded n list few =
    let none : Option Kind = None in
    omega (arith, few, length-append list (replicate (n - length list) none), length-replicate (n - length list) none)

listed_left : (xs ys : List (Option Kind)) (k : ℕ) → k < length xs → listed (xs ++ ys) k ≡ listed xs k
listed_left [] ys k h = absurd (omega (arith, h))
listed_left (x ∷ xs) ys zero h = refl
listed_left (x ∷ xs) ys (suc k) h = listed_left xs ys k (omega (arith, h))

listed_right : (xs ys : List (Option Kind)) (k : ℕ) → length xs ≤ k → listed (xs ++ ys) k ≡ listed ys (k - length xs)
listed_right [] ys k h = ap (listed ys) (omega arith)
listed_right (x ∷ xs) ys zero h = absurd (omega (arith, h))
listed_right (x ∷ xs) ys (suc k) h = listed_right xs ys k (omega (arith, h)) ∙ ap (listed ys) (omega arith)

-- ---- lists that are added

pub changed_shared : (count : ℕ) (base old new : List (Option Kind)) (from : ℕ) (kinds made : List (Option Kind)) → IsChanged count base from kinds made → IsShared old new from kinds
    → ((slot : ℕ) → slot < count → listed base slot ≡ listed old slot) → length new ≤ count → made ≡ padded count new
changed_shared count base old new from kinds made changed shared same few =
    let many = many_padded count new few in
    let made_many = changed.many in
    let start = shared.count in
    same_lists made (padded count new) (omega (arith, many, made_many)) (λ slot within.
    let less : slot < count = omega (arith, within, made_many) in
    elim (order slot from) [
      | inl before ↦
          let short : slot < length shared.shared = omega (arith, before, start) in
          changed.before slot less before ∙ same slot less ∙ ap (λ (l : List (Option Kind)). listed l slot) shared.before ∙ listed_left shared.shared shared.gone slot short
          ∙ sym (listed_padded count new slot ∙ ap (λ (l : List (Option Kind)). listed l slot) shared.after ∙ listed_left shared.shared kinds slot short)
      | inr past ↦
          let long : length shared.shared ≤ slot = omega (arith, past, start) in
          let e : slot - from ≡ slot - length shared.shared = ap (λ (n : ℕ). slot - n) start in
          changed.after slot less past ∙ ap (listed kinds) e
          ∙ sym (listed_padded count new slot ∙ ap (λ (l : List (Option Kind)). listed l slot) shared.after ∙ listed_right shared.shared kinds slot long)
    ])

pub shared_few : (old new : List (Option Kind)) (from count : ℕ) (kinds : List (Option Kind)) → IsShared old new from kinds → length new ≤ count → from + length kinds ≤ count
shared_few old new from count kinds shared few =
    let start = shared.count in
    omega (arith, few, start, ap length shared.after, length-append shared.shared kinds)

-- all of a list's kinds are new where nothing was before
pub shared_none : (new : List (Option Kind)) (from : ℕ) (kinds : List (Option Kind)) → IsShared [] new from kinds → kinds ≡ new
shared_none new from kinds shared = by shared.shared shared.before shared.after where
  by : (rest : List (Option Kind)) → [] ≡ rest ++ shared.gone → new ≡ rest ++ kinds → kinds ≡ new
  by [] e f = sym f
  by (x ∷ rest) e f = absurd cc

pub changed_first : (count : ℕ) (kinds made : List (Option Kind)) → IsChanged count [] 0 kinds made → length kinds ≤ count → made ≡ padded count kinds
changed_first count kinds made changed few =
    changed_shared count [] [] kinds 0 kinds made changed (record { shared = []; gone = []; before = refl; after = refl; count = refl }) (λ slot less. refl) few

-- a list that is the one before it
pub changed_same : (count : ℕ) (base old made : List (Option Kind)) (from : ℕ) → IsChanged count base from [] made → count ≤ from → ((slot : ℕ) → slot < count → listed base slot ≡ listed old slot)
    → (slot : ℕ) → slot < count → listed made slot ≡ listed old slot
changed_same count base old made from changed most same slot less = changed.before slot less (omega (arith, less, most)) ∙ same slot less

pub get_last : (lists : List (List (Option Kind))) (made : List (Option Kind)) → get_or (lists ++ made ∷ []) (length lists) [] ≡ made
get_last [] made = refl
get_last (x ∷ lists) made = get_last lists made

pub get_before : (lists : List (List (Option Kind))) (made : List (Option Kind)) (k : ℕ) → k < length lists → get_or (lists ++ made ∷ []) k [] ≡ get_or lists k []
get_before [] made k h = absurd (omega (arith, h))
get_before (x ∷ lists) made zero h = refl
get_before (x ∷ lists) made (suc k) h = get_before lists made k (omega (arith, h))

pub got_before : (lists : List (List (Option Kind))) (made : List (Option Kind)) (k : ℕ) → k < length lists → slice_get (lists ++ made ∷ []) k ≡ slice_get lists k
got_before [] made k h = absurd (omega (arith, h))
got_before (x ∷ lists) made zero h = refl
got_before (x ∷ lists) made (suc k) h = got_before lists made k (omega (arith, h))

pub got_last : (lists : List (List (Option Kind))) (made : List (Option Kind)) → slice_get (lists ++ made ∷ []) (length lists) ≡ Some made
got_last [] made = refl
got_last (x ∷ lists) made = got_last lists made

-- ---- flowing

pub locals_flow : (n : ℕ) (locals reported : List (Option Kind)) → ListFlows locals (padded n reported) → LocalsFlow locals reported
locals_flow n locals reported flows slot kind at =
    at_listed locals slot ∙ flows.each slot kind (listed_padded n reported slot ∙ sym (at_listed reported slot) ∙ at)

pub lists_flow : (n : ℕ) (locals reported : List (Option Kind)) → LocalsFlow locals reported → ListFlows locals (padded n reported)
lists_flow n locals reported flows = record {
  each = λ slot kind at. sym (at_listed locals slot) ∙ flows slot kind (at_listed reported slot ∙ sym (listed_padded n reported slot) ∙ at);
}

pub listed_still : (s t : Standing) (place : ℕ) (locals : List (Option Kind)) → t.max_locals ≡ s.max_locals → t.frames ≡ s.frames → IsListed s place locals → IsListed t place locals
listed_still s t place locals e f is = record {
  few = let few = is.few in omega (arith, few, e);
  at = ap (λ (l : List (List (Option Kind))). slice_get l place) f ∙ is.at ∙ ap (λ (n : ℕ). Some (padded n locals)) (sym e);
}

-- ---- states that are the same

pub are_still : (frames : ReportedFrames) (s t : Standing) → t ≡ s → AreListed frames s → AreListed frames t
are_still frames s t e are = subst (AreListed frames) (sym e) are

pub are_kept : (frames : ReportedFrames) (s t : Standing) → t.max_locals ≡ s.max_locals → t.frames ≡ s.frames → AreListed frames s → AreListed frames t
are_kept frames s t e f are number reported at = listed_still s t (frame_place frames number) reported.locals e f (are number reported at)

pub flows_of : (frames : ReportedFrames) (s t : Standing) (target given : ℤ) (b : Bool) → given ≡ target → t ≡ s → Decides b (FlowsAt t.kinds frames given) → Decides b (FlowsAt s.kinds frames target)
flows_of frames s t target given b at e decides =
    subst (λ (z : ℤ). Decides b (FlowsAt s.kinds frames z)) at (subst (λ (x : Standing). Decides b (FlowsAt x.kinds frames given)) e decides)

-- a frame as it is looked at
pub lent_listed : (frames : ReportedFrames) (s : Standing) (number : ℕ) (lent_frame : LentFrame) → AreListed frames s → reported_at frames number ≡ Some (reported_by lent_frame) → lent_frame.place ≡ frame_place frames number
    → IsListed s lent_frame.place lent_frame.locals
lent_listed frames s number lent_frame are at place = subst (λ (n : ℕ). IsListed s n lent_frame.locals) (sym place) (are number (reported_by lent_frame) at)
