-- What the handlers of ranges ask of the local variables before an instruction.
use Rattle.std.proofs.Common.{◌≡◌, ℕ, ◌<◌, ◌≤◌, List, [], map, get_or, Option, Some, None, slice_get, length, refl, sym, ap, subst, ◌∙◌, arith}
use Rattle.std.proofs.lemmas.List.{length-map}
use Rattle.std.proofs.lemmas.List.Elements.{All-map, All-get_or}
use Rattle.std.proofs.lemmas.Option.{slice_get_within, get_or_from_slice_get, slice_get-get_or, slice_get-map}
use Rattle.std.specs.Option.{option_map}
use Rattle.dj_names.specs.declared.descriptor.Kind.{Kind}
use Rattle.dj_labels.specs.declared.labelled.Protected.{Protected}
use Rattle.dj_kind_trees.specs.Nodes.{listed}
use Rattle.dj_kind_lists.specs.declared.ranges.KindRange.{KindRange}
use Rattle.dj_kind_lists.specs.Lists.{HoldsIn, AllFlow, ListFlows}
use Rattle.dj_model.specs.trusted.Values.{local_at}
use Rattle.dj_model.specs.trusted.Initialisation.{padded}
use Rattle.dj_shape_rule.specs.Standing.{Standing}
use Rattle.dj_shape_rule.specs.Listed.{AreListed}
use Rattle.dj_shape_rule.specs.Reported.{Reported, ReportedFrames, reported_at, frame_place}
use Rattle.dj_shape_rule.specs.Handlers.{Says, Handled, range_with, range_of}
use Rattle.dj_shape_rule.proofs.Lists.{at_listed, listed_padded}

module _ (frames : ReportedFrames) (s : Standing) (rows : List Protected) (listed_are : AreListed frames s) (number : ℕ) where
  abbrev Locals : List (Option Kind)
  Locals = get_or s.states number []

  abbrev Holds : KindRange → Type 0
  Holds range = HoldsIn s.states s.frames number range

  -- the list of a frame
  list_is : (row : Protected) (reported : Reported) → reported_at frames row.handler ≡ Some reported → get_or s.frames (frame_place frames row.handler) [] ≡ padded s.max_locals reported.locals
  list_is row reported e = get_or_from_slice_get s.frames (frame_place frames row.handler) (padded s.max_locals reported.locals) [] (listed_are row.handler reported e).at

  row_holds : (row : Protected) → ((slot : ℕ) (kind : Kind) → row.start ≤ number → number < row.end → Says frames row slot kind → local_at Locals slot ≡ Some kind)
      → (o : Option Reported) → reported_at frames row.handler ≡ o → Holds (range_with o (frame_place frames row.handler) row)
  row_holds row each None e a b = absurd (omega (arith, b))
  row_holds row each (Some reported) e a b = record {
    each = λ slot kind at. sym (at_listed Locals slot) ∙ each slot kind a b (record {
      reported = reported;
      at = e;
      says = at_listed reported.locals slot ∙ sym (listed_padded s.max_locals reported.locals slot) ∙ sym (ap (λ (l : List (Option Kind)). listed l slot) (list_is row reported e)) ∙ at;
    });
  }

  pub all_flow : Handled rows frames number Locals → AllFlow s.states s.frames (map (range_of frames) rows) number
  all_flow handled = All-map Holds (range_of frames) rows (λ k d within.
      row_holds (get_or rows k d) (λ slot kind a b says. handled k (get_or rows k d) slot kind (slice_get-get_or rows k d within) a b says) (reported_at frames (get_or rows k d).handler) refl)

  row_says : (row : Protected) (slot : ℕ) (kind : Kind) → Says frames row slot kind → row.start ≤ number → number < row.end → Holds (range_of frames row) → local_at Locals slot ≡ Some kind
  row_says row slot kind says a b holds =
      let own : Holds (range_with (Some says.reported) (frame_place frames row.handler) row) = subst (λ (o : Option Reported). Holds (range_with o (frame_place frames row.handler) row)) says.at holds in
      let flows : ListFlows Locals (get_or s.frames (frame_place frames row.handler) []) = own a b in
      at_listed Locals slot ∙ flows.each slot kind
      (ap (λ (l : List (Option Kind)). listed l slot) (list_is row says.reported says.at) ∙ listed_padded s.max_locals says.reported.locals slot
      ∙ sym (at_listed says.reported.locals slot) ∙ says.says)

  pub handled_so : AllFlow s.states s.frames (map (range_of frames) rows) number → Handled rows frames number Locals
  handled_so all k row slot kind at a b says =
      let within : k < length (map (range_of frames) rows) = let w = slice_get_within rows k row at in let n = length-map rows (range_of frames) in omega (arith, w, n) in
      let there : slice_get (map (range_of frames) rows) k ≡ Some (range_of frames row) = slice_get-map (range_of frames) rows k ∙ ap (option_map (range_of frames)) at in
      let same : get_or (map (range_of frames) rows) k (range_of frames row) ≡ range_of frames row = get_or_from_slice_get (map (range_of frames) rows) k (range_of frames row) (range_of frames row) there in
      row_says row slot kind says a b (subst Holds same (All-get_or Holds (map (range_of frames) rows) k (range_of frames row) within all))
