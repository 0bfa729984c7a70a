-- What an instruction has to meet, part by part: by the model, and by what is kept.
use Rattle.std.proofs.Common.{◌≡◌, ℕ, zero, suc, ◌<◌, ◌≤◌, Bool, true, false, not, ◌&&◌, ◌||◌, IsTrue, List, [], ◌∷◌, map, reverse, Option, Some, None, Contains, slice_get, nat_eq, nat_lt, nat_le, refl, sym, ap, subst, ◌∙◌, inl, inr, arith}
use Rattle.std.specs.List.{list_all}
use Rattle.std.specs.Cmp.Lexicographic.{pointwise}
use Rattle.std.proofs.lemmas.Bool.Decides.{nat_tests, eqb_tells}
use Rattle.std.proofs.lemmas.Option.{slice_get_within, get_or_from_slice_get, slice_get-get_or}
use Rattle.dj_names.specs.declared.descriptor.Kind.{Kind}
use Rattle.dj_names.specs.declared.descriptor.Kind.TheVariants as kinds
use Rattle.dj_labels.specs.declared.labelled.Protected.{Protected}
use Rattle.dj_pool.specs.trusted.Pool.{Constant}
use Rattle.dj_program.specs.trusted.Codes.{range_in}
use Rattle.dj_model.specs.trusted.Program.{Range}
use Rattle.dj_model.specs.trusted.Numbers.{same_kind}
use Rattle.dj_model.specs.trusted.Values.{local_at}
use Rattle.dj_model.specs.trusted.Initialisation.{padded}
use Rattle.dj_model.specs.trusted.Kinds.{Kinds, Placed, placed_at}
use Rattle.dj_model.specs.trusted.Shape.{flows_to, flows_to_frame, locals_flow_to, is_handler_frame, covers}
use Rattle.dj_shape_rule.specs.Reported.{Reported, ReportedFrames, reported_at, reported_kinds, IsReportedAs, AreReported}
use Rattle.dj_shape_rule.specs.Flows.{FlowsTo, FlowsToFrame}
use Rattle.dj_shape_rule.specs.Handlers.{Says, Handled}
use Rattle.dj_shape_rule.specs.Passing.{HasHandlerFrame, JumpsFlow}
use Rattle.dj_shape_rule.proofs.Slots.{from_flows, to_flows, from_flow, to_flow, reported_padded, unpadded_flow, same_stacks, stack_itself, reverse_injects}

-- ---- each of a list

pub list_all_from : {A : Type 0} (p : A → Bool) (xs : List A) → ((k : ℕ) (x : A) → slice_get xs k ≡ Some x → IsTrue (p x)) → IsTrue (list_all p xs)
list_all_from p [] each = refl
list_all_from p (x ∷ xs) each = both_so (p x) (list_all p xs) (each 0 x refl) (list_all_from p xs (λ k y at. each (suc k) y at)) where
  both_so : (a b : Bool) → IsTrue a → IsTrue b → IsTrue (a && b)
  both_so true b t u = u
  both_so false b t u = absurd cc

pub list_all_at : {A : Type 0} (p : A → Bool) (xs : List A) → IsTrue (list_all p xs) → (k : ℕ) (x : A) → slice_get xs k ≡ Some x → IsTrue (p x)
list_all_at p [] t k x at = absurd cc
list_all_at p (y ∷ xs) t zero x at =
    let same : y ≡ x = cc in
    subst (λ z. IsTrue (p z)) same (left_so (p y) (list_all p xs) t) where
      left_so : (a b : Bool) → IsTrue (a && b) → IsTrue a
      left_so true b u = refl
      left_so false b u = absurd cc
list_all_at p (y ∷ xs) t (suc k) x at = list_all_at p xs (right_so (p y) (list_all p xs) t) k x at where
  right_so : (a b : Bool) → IsTrue (a && b) → IsTrue b
  right_so true b u = u
  right_so false b u = absurd cc

map_at : {A B : Type 0} (f : A → B) (xs : List A) (k : ℕ) (x : A) → slice_get xs k ≡ Some x → slice_get (map f xs) k ≡ Some (f x)
map_at f [] k x at = absurd cc
map_at f (y ∷ xs) zero x at = let same : y ≡ x = cc in ap (λ z. Some (f z)) same
map_at f (y ∷ xs) (suc k) x at = map_at f xs k x at

pub map_list_all_from : {A B : Type 0} (f : A → B) (p : B → Bool) (xs : List A) → ((k : ℕ) (x : A) → slice_get xs k ≡ Some x → IsTrue (p (f x))) → IsTrue (list_all p (map f xs))
map_list_all_from f p [] each = refl
map_list_all_from f p (x ∷ xs) each = both_so (p (f x)) (list_all p (map f xs)) (each 0 x refl) (map_list_all_from f p xs (λ k y at. each (suc k) y at)) where
  both_so : (a b : Bool) → IsTrue a → IsTrue b → IsTrue (a && b)
  both_so true b t u = u
  both_so false b t u = absurd cc

pub map_list_all_at : {A B : Type 0} (f : A → B) (p : B → Bool) (xs : List A) → IsTrue (list_all p (map f xs)) → (k : ℕ) (x : A) → slice_get xs k ≡ Some x → IsTrue (p (f x))
map_list_all_at f p xs t k x at = list_all_at p (map f xs) t k (f x) (map_at f xs k x at)

pub contains_at : {A : Type 0} (xs : List A) (k : ℕ) (x : A) → slice_get xs k ≡ Some x → Contains xs x
contains_at xs k x at = (k, slice_get_within xs k x at, get_or_from_slice_get xs k x x at)

pub at_contains : {A : Type 0} (xs : List A) (x : A) → Contains xs x → (k : ℕ) × (slice_get xs k ≡ Some x)
at_contains xs x (k, within, at) = (k, slice_get-get_or xs k x within ∙ ap (λ y. Some y) at)

-- ---- one or the other

pub or_not : (a b : Bool) → (IsTrue a → IsTrue b) → IsTrue (not a || b)
or_not true b f = f refl
or_not false b f = refl

pub from_or_not : (a b : Bool) → IsTrue (not a || b) → IsTrue a → IsTrue b
from_or_not true b t u = t
from_or_not false b t u = absurd cc

pub or_so : (a b : Bool) → (a ≡ false → IsTrue b) → IsTrue (a || b)
or_so true b f = refl
or_so false b f = f refl

pub from_or : (a b : Bool) → IsTrue (a || b) → a ≡ false → IsTrue b
from_or true b t f = absurd cc
from_or false b t f = t

-- ---- a frame

module _ (max_stack max_locals : ℕ) where
  to_flows_to : (left : Kinds) (reported : Option Reported) (placed : Option Kinds) → IsReportedAs max_stack max_locals reported placed → FlowsTo left reported → IsTrue (flows_to left placed)
  to_flows_to left None placed is f = subst (λ (p : Option Kinds). IsTrue (flows_to left p)) (sym is) refl
  to_flows_to left (Some reported) placed is f =
      subst (λ (p : Option Kinds). IsTrue (flows_to left p)) (sym is.0)
      (to_flows left (reported_kinds max_locals reported) (reported_padded max_locals left.locals reported.locals f.0) f.1)

  from_flows_to : (left : Kinds) (reported : Option Reported) (placed : Option Kinds) → IsReportedAs max_stack max_locals reported placed → IsTrue (flows_to left placed) → FlowsTo left reported
  from_flows_to left None placed is t = tt
  from_flows_to left (Some reported) placed is t =
      let f = from_flows left (reported_kinds max_locals reported) (subst (λ (p : Option Kinds). IsTrue (flows_to left p)) is.0 t) in
      (unpadded_flow max_locals left.locals reported.locals f.0, f.1)

  to_flows_to_frame : (left : Kinds) (reported : Option Reported) (placed : Option Kinds) → IsReportedAs max_stack max_locals reported placed → FlowsToFrame left reported → IsTrue (flows_to_frame left placed)
  to_flows_to_frame left None placed is f = absurd f
  to_flows_to_frame left (Some reported) placed is f =
      subst (λ (p : Option Kinds). IsTrue (flows_to_frame left p)) (sym is.0)
      (to_flows left (reported_kinds max_locals reported) (reported_padded max_locals left.locals reported.locals f.0) f.1)

  from_flows_to_frame : (left : Kinds) (reported : Option Reported) (placed : Option Kinds) → IsReportedAs max_stack max_locals reported placed → IsTrue (flows_to_frame left placed) → FlowsToFrame left reported
  from_flows_to_frame left None placed is t = absurd (let no_frame : IsTrue false = subst (λ (p : Option Kinds). IsTrue (flows_to_frame left p)) is t in cc)
  from_flows_to_frame left (Some reported) placed is t =
      let f = from_flows left (reported_kinds max_locals reported) (subst (λ (p : Option Kinds). IsTrue (flows_to_frame left p)) is.0 t) in
      (unpadded_flow max_locals left.locals reported.locals f.0, f.1)

  -- ---- of all frames

  module _ (placed : List Placed) (frames : ReportedFrames) (are : AreReported max_stack max_locals placed frames) where
    pub to_goes : (left : Kinds) (number : ℕ) → FlowsTo left (reported_at frames number) → IsTrue (flows_to left (placed_at placed number))
    to_goes left number = to_flows_to left (reported_at frames number) (placed_at placed number) (are number)

    pub from_goes : (left : Kinds) (number : ℕ) → IsTrue (flows_to left (placed_at placed number)) → FlowsTo left (reported_at frames number)
    from_goes left number = from_flows_to left (reported_at frames number) (placed_at placed number) (are number)

    pub to_jumps : (left : Kinds) (targets : List ℕ) → JumpsFlow left frames targets → IsTrue (list_all (λ target. flows_to_frame left (placed_at placed target)) targets)
    to_jumps left targets flow =
        list_all_from (λ target. flows_to_frame left (placed_at placed target)) targets
        (λ k target at. to_flows_to_frame left (reported_at frames target) (placed_at placed target) (are target) (flow target (contains_at targets k target at)))

    pub from_jumps : (left : Kinds) (targets : List ℕ) → IsTrue (list_all (λ target. flows_to_frame left (placed_at placed target)) targets) → JumpsFlow left frames targets
    from_jumps left targets t target there =
        let at = at_contains targets target there in
        from_flows_to_frame left (reported_at frames target) (placed_at placed target) (are target)
        (list_all_at (λ n. flows_to_frame left (placed_at placed n)) targets t at.0 target at.1)

    -- ---- handlers

    handler_of : (reported : Option Reported) (say : Option Kinds) → IsReportedAs max_stack max_locals reported say → IsTrue (is_handler_frame say)
        → (t : Reported) × (reported ≡ Some t) × (t.stack ≡ kinds.Ref ∷ [])
    handler_of None say is t = absurd (let no_frame : IsTrue false = subst (λ (p : Option Kinds). IsTrue (is_handler_frame p)) is t in cc)
    handler_of (Some reported) say is t =
        let one : IsTrue (pointwise same_kind (reverse reported.stack) (kinds.Ref ∷ [])) = subst (λ (p : Option Kinds). IsTrue (is_handler_frame p)) is.0 t in
        (reported, refl, reverse_injects reported.stack (kinds.Ref ∷ []) (same_stacks (reverse reported.stack) (kinds.Ref ∷ []) one))

    to_handler : (reported : Option Reported) (say : Option Kinds) (t : Reported) → IsReportedAs max_stack max_locals reported say → reported ≡ Some t → t.stack ≡ kinds.Ref ∷ []
        → IsTrue (is_handler_frame say)
    to_handler None say t is e one = absurd cc
    to_handler (Some reported) say t is e one =
        let same : reported ≡ t = cc in
        let stack : reverse reported.stack ≡ kinds.Ref ∷ [] = ap (λ (x : Reported). reverse x.stack) same ∙ ap reverse one in
        subst (λ (p : Option Kinds). IsTrue (is_handler_frame p)) (sym is.0)
        (subst (λ (s : List Kind). IsTrue (pointwise same_kind s (kinds.Ref ∷ []))) (sym stack) (stack_itself (kinds.Ref ∷ [])))

    module _ (pool : List Constant) (rows : List Protected) (number : ℕ) where
      abbrev handles_test : Range → Bool
      handles_test range = not (nat_eq number range.handler) || is_handler_frame (placed_at placed number)

      same_number : (a b : ℕ) → IsTrue (nat_eq a b) → a ≡ b
      same_number a b t = elim (eqb_tells a b) [ inl e ↦ e.1 | inr e ↦ absurd cc ]

      pub to_handles : ((k : ℕ) (row : Protected) → slice_get rows k ≡ Some row → row.handler ≡ number → HasHandlerFrame frames number)
          → IsTrue (list_all handles_test (map (range_in pool) rows))
      to_handles each = map_list_all_from (range_in pool) handles_test rows (λ k row at. or_not (nat_eq number row.handler) (is_handler_frame (placed_at placed number)) (λ t.
          let has = each k row at (sym (same_number number row.handler t)) in
          to_handler (reported_at frames number) (placed_at placed number) has.reported (are number) has.at has.one))

      pub from_handles : IsTrue (list_all handles_test (map (range_in pool) rows)) → (k : ℕ) (row : Protected) → slice_get rows k ≡ Some row → row.handler ≡ number
          → HasHandlerFrame frames number
      from_handles t k row at e =
          let own : IsTrue (nat_eq number row.handler) = grind (arith, nat_tests) in
          let frame = from_or_not (nat_eq number row.handler) (is_handler_frame (placed_at placed number)) (map_list_all_at (range_in pool) handles_test rows t k row at) own in
          let has = handler_of (reported_at frames number) (placed_at placed number) (are number) frame in
          record { reported = has.0; at = has.1; one = has.2 }

      -- ---- local variables of the instructions in ranges

      module _ (before : Kinds) where
        abbrev handled_test : Range → Bool
        handled_test range = not (covers range number) || locals_flow_to before (placed_at placed range.handler)

        to_locals : (row : Protected) (reported : Option Reported) (kinds : Option Kinds) → IsReportedAs max_stack max_locals reported kinds → reported_at frames row.handler ≡ reported
            → ((slot : ℕ) (kind : Kind) → Says frames row slot kind → local_at before.locals slot ≡ Some kind) → IsTrue (locals_flow_to before kinds)
        to_locals row None kinds is e each = subst (λ (p : Option Kinds). IsTrue (locals_flow_to before p)) (sym is) refl
        to_locals row (Some reported) kinds is e each =
            subst (λ (p : Option Kinds). IsTrue (locals_flow_to before p)) (sym is.0)
            (to_flow before.locals (padded max_locals reported.locals)
            (reported_padded max_locals before.locals reported.locals (λ slot kind at. each slot kind (record { reported = reported; at = e; says = at }))))

        from_locals : (row : Protected) (kinds : Option Kinds) (slot : ℕ) (kind : Kind) → IsReportedAs max_stack max_locals (reported_at frames row.handler) kinds → Says frames row slot kind
            → IsTrue (locals_flow_to before kinds) → local_at before.locals slot ≡ Some kind
        from_locals row kinds slot kind is says t =
            let own : IsReportedAs max_stack max_locals (Some says.reported) kinds = subst (λ (x : Option Reported). IsReportedAs max_stack max_locals x kinds) says.at is in
            let flow = from_flow before.locals (padded max_locals says.reported.locals) (subst (λ (p : Option Kinds). IsTrue (locals_flow_to before p)) own.0 t) in
            unpadded_flow max_locals before.locals says.reported.locals flow slot kind says.says

        within_range : (row : Protected) → IsTrue (covers (range_in pool row) number) → (row.start ≤ number) × (number < row.end)
        within_range row t = both_ways (nat_le row.start number) (nat_lt number row.end) t refl refl where
          both_ways : (a b : Bool) → IsTrue (a && b) → a ≡ nat_le row.start number → b ≡ nat_lt number row.end → (row.start ≤ number) × (number < row.end)
          both_ways true true u e f = (grind (arith, nat_tests), grind (arith, nat_tests))
          both_ways true false u e f = absurd cc
          both_ways false b u e f = absurd cc

        covered : (row : Protected) → row.start ≤ number → number < row.end → IsTrue (covers (range_in pool row) number)
        covered row from to =
            let a : nat_le row.start number ≡ true = grind (arith, nat_tests) in
            let b : nat_lt number row.end ≡ true = grind (arith, nat_tests) in
            rw (a, b) refl

        pub to_handled : Handled rows frames number before.locals → IsTrue (list_all handled_test (map (range_in pool) rows))
        to_handled handled =
            map_list_all_from (range_in pool) handled_test rows (λ k row at. or_not (covers (range_in pool row) number) (locals_flow_to before (placed_at placed row.handler)) (λ t.
            let in' = within_range row t in
            to_locals row (reported_at frames row.handler) (placed_at placed row.handler) (are row.handler) refl (λ slot kind says. handled k row slot kind at in'.0 in'.1 says)))

        pub from_handled : IsTrue (list_all handled_test (map (range_in pool) rows)) → Handled rows frames number before.locals
        from_handled t k row slot kind at from to says =
            from_locals row (placed_at placed row.handler) slot kind (are row.handler) says
            (from_or_not (covers (range_in pool row) number) (locals_flow_to before (placed_at placed row.handler)) (map_list_all_at (range_in pool) handled_test rows t k row at) (covered row from to))
