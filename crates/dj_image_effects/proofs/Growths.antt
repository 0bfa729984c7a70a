-- An action grows the operands by at most its stated growth.
use Rattle.std.proofs.Common.{◌≡◌, ◌+◌, ◌≤◌, ◌&&◌, ℕ, Bool, true, false, ℤ, List, [], ◌∷◌, ◌++◌, length, Option, Some, None, Result, Ok, Err, if◌then◌else◌, arith}
use Rattle.std.proofs.lemmas.List.{length-append}
use Rattle.std.specs.Prelude.{⊤, nat_lt}
use Rattle.dj_names.specs.declared.descriptor.Kind.{Kind}
use Rattle.dj_names.specs.declared.run.Raised.{Raised}
use Rattle.dj_names.specs.declared.run.Value.{Value}
use Rattle.dj_names.specs.declared.run.Value.TheVariants as values
use Rattle.dj_names.specs.trusted.Heaps.{number_value, value_number}
use Rattle.dj_model.specs.trusted.Instructions as model
use Rattle.dj_model.specs.trusted.Numbers.{is_of_kind, is_long, left_kind, right_kind, given_kind, compute, taken_kind, converted_kind, convert}
use Rattle.dj_model.specs.trusted.State.{Next}
use Rattle.dj_model.specs.trusted.Values as model_values
use Rattle.dj_model.specs.trusted.Values.{Values, Cut, on_values, left, pushed, local_at, stored, last_slot, moved}
use Rattle.dj_stack.specs.Frames.{StackFrame, top_locals, top_operands, top_room}
use Rattle.dj_effects.specs.declared.actions.Slots.TheVariants as slots
use Rattle.dj_effects.specs.declared.actions.Movement.{Movement}
use Rattle.dj_effects.specs.declared.actions.Movement.TheVariants as moves
use Rattle.dj_effects.specs.declared.actions.PlainAction.{PlainAction}
use Rattle.dj_effects.specs.declared.actions.PlainAction.TheVariants as actions
use Rattle.dj_effects.specs.Actions.{action_view, binary_view, move_view, test_view, unary_view}
use Rattle.dj_effects.specs.Does.{FitsIn}
use Rattle.dj_model.specs.trusted.Opcodes.{table_pairs, lookup_pairs}
use Rattle.dj_image_effects.specs.Acting.{HasRoom}
use Rattle.dj_image_effects.specs.Growing.{growth, move_growth}

-- ---- operands that move

-- this many at most are cut off, and none is lost
abbrev IsCut : ℕ → ℕ → Option (Cut Value) → Type 0
IsCut most count None = ⊤
IsCut most count (Some cut) = (length cut.top ≤ most) × (length cut.top + length cut.rest ≡ count)

one_cut : (operands : List Value) → IsCut 1 (length operands) (model_values.one_slot is_long operands)
one_cut [] = tt
one_cut (v ∷ rest) = by (is_long v) where
  by : (b : Bool) → IsCut 1 (length (v ∷ rest)) (if b then None else Some (record { top = v ∷ []; rest = rest }))
  by true = tt
  by false = (omega arith, omega arith)

two_cut : (operands : List Value) → IsCut 2 (length operands) (model_values.two_slots is_long operands)
two_cut [] = tt
two_cut (v ∷ rest) = by (is_long v) (model_values.one_slot is_long rest) (one_cut rest) where
  by : (b : Bool) (o : Option (Cut Value)) → IsCut 1 (length rest) o → IsCut 2 (length (v ∷ rest)) (if b then Some (record { top = v ∷ []; rest = rest }) else model_values.on_top v o)
  by true o is = (omega arith, omega arith)
  by false None is = tt
  by false (Some cut) is =
      let less = is.0 in
      let all = is.1 in (omega (arith, less), omega (arith, all))

module _ (room : ℕ) (locals : List (Option Value)) where
  moved_so : (operands : List Value) → length operands ≤ room → FitsIn room (model_values.with_moved locals (Some operands))
  moved_so operands le = le

  dropped : (most count : ℕ) (o : Option (Cut Value)) → IsCut most count o → count ≤ room → FitsIn room (model_values.with_moved locals (model_values.dropped o))
  dropped most count None is le = tt
  dropped most count (Some cut) is le = let all = is.1 in omega (arith, all, le)

  doubled : (most count : ℕ) (o : Option (Cut Value)) → IsCut most count o → count + most ≤ room → FitsIn room (model_values.with_moved locals (model_values.doubled o))
  doubled most count None is le = tt
  doubled most count (Some cut) is le =
      let less = is.0 in
      let all = is.1 in
      let outer = length-append (cut.top ++ cut.top) cut.rest in
      let inner = length-append cut.top cut.top in
      moved_so (cut.top ++ cut.top ++ cut.rest) (omega (arith, less, all, outer, inner, le))

  under : (top : List Value) (most count : ℕ) (o : Option (Cut Value)) → IsCut most count o → length top + length top + count ≤ room
      → FitsIn room (model_values.with_moved locals (model_values.under top o))
  under top most count None is le = tt
  under top most count (Some cut) is le =
      let all = is.1 in
      let outer = length-append (top ++ cut.top ++ top) cut.rest in
      let middle = length-append (top ++ cut.top) top in
      let inner = length-append top cut.top in
      moved_so (top ++ cut.top ++ top ++ cut.rest) (omega (arith, all, outer, middle, inner, le))

  under_one : (most count : ℕ) (o : Option (Cut Value)) → IsCut most count o → count + most ≤ room → FitsIn room (model_values.with_moved locals (model_values.under_one is_long o))
  under_one most count None is le = tt
  under_one most count (Some cut) is le =
      let less = is.0 in
      let all = is.1 in
      under cut.top 1 (length cut.rest) (model_values.one_slot is_long cut.rest) (one_cut cut.rest) (omega (arith, less, all, le))

  under_two : (most count : ℕ) (o : Option (Cut Value)) → IsCut most count o → count + most ≤ room → FitsIn room (model_values.with_moved locals (model_values.under_two is_long o))
  under_two most count None is le = tt
  under_two most count (Some cut) is le =
      let less = is.0 in
      let all = is.1 in
      under cut.top 2 (length cut.rest) (model_values.two_slots is_long cut.rest) (two_cut cut.rest) (omega (arith, less, all, le))

  below : (top : List Value) (most count : ℕ) (o : Option (Cut Value)) → IsCut most count o → length top + count ≤ room → FitsIn room (model_values.with_moved locals (model_values.below top o))
  below top most count None is le = tt
  below top most count (Some cut) is le =
      let all = is.1 in
      let outer = length-append (cut.top ++ top) cut.rest in
      let inner = length-append cut.top top in
      moved_so (cut.top ++ top ++ cut.rest) (omega (arith, all, outer, inner, le))

  swapped : (most count : ℕ) (o : Option (Cut Value)) → IsCut most count o → count ≤ room → FitsIn room (model_values.with_moved locals (model_values.swapped is_long o))
  swapped most count None is le = tt
  swapped most count (Some cut) is le =
      let all = is.1 in
      below cut.top 1 (length cut.rest) (model_values.one_slot is_long cut.rest) (one_cut cut.rest) (omega (arith, all, le))

  moves_in : (movement : Movement) (operands : List Value) → length operands + move_growth movement ≤ room
      → FitsIn room (model_values.with_moved locals (moved is_long (move_view movement) operands))
  unfolding moved
  moves_in (moves.Drop slots.One) operands le = dropped 1 (length operands) _ (one_cut operands) (omega (arith, le))
  moves_in (moves.Drop slots.Two) operands le = dropped 2 (length operands) _ (two_cut operands) (omega (arith, le))
  moves_in (moves.Double slots.One) operands le = doubled 1 (length operands) _ (one_cut operands) le
  moves_in (moves.Double slots.Two) operands le = doubled 2 (length operands) _ (two_cut operands) le
  moves_in (moves.Under slots.One slots.One) operands le = under_one 1 (length operands) _ (one_cut operands) le
  moves_in (moves.Under slots.One slots.Two) operands le = under_two 1 (length operands) _ (one_cut operands) le
  moves_in (moves.Under slots.Two slots.One) operands le = under_one 2 (length operands) _ (two_cut operands) le
  moves_in (moves.Under slots.Two slots.Two) operands le = under_two 2 (length operands) _ (two_cut operands) le
  moves_in moves.Swap operands le = swapped 1 (length operands) _ (one_cut operands) (omega (arith, le))

  -- ---- the other families

  if_fits : (b : Bool) (v : Values) → length v.operands ≤ room → FitsIn room (if b then Some v else None)
  if_fits true v le = le
  if_fits false v le = tt

  loads_in : (operands : List Value) (kind : Kind) (o : Option Value) → length operands + 1 ≤ room → FitsIn room (model_values.load_value locals operands kind o)
  loads_in operands kind None le = tt
  loads_in operands kind (Some v) le = if_fits (is_of_kind kind v) (pushed locals operands v) (omega (arith, le))

  stores_in : (kind : Kind) (slot : ℕ) (operands : List Value) → length operands ≤ room → FitsIn room (model_values.store_top locals kind slot operands)
  stores_in kind slot [] le = tt
  stores_in kind slot (v ∷ rest) le =
      if_fits (is_of_kind kind v && nat_lt (last_slot (is_long v) slot) (length locals)) (left (stored is_long locals slot v) rest Next) (omega (arith, le))

  increments_in : (operands : List Value) (slot : ℕ) (by : ℤ) (o : Option Value) → length operands ≤ room → FitsIn room (model_values.increment locals operands slot by o)
  increments_in operands slot by None le = tt
  increments_in operands slot by (Some (values.Int z)) le = le
  increments_in operands slot by (Some (values.Long z)) le = tt
  increments_in operands slot by (Some (values.Ref r)) le = tt

  computed_in : (operands rest : List Value) (kind : Kind) (r : Result ℤ Raised) → length operands ≤ room → length rest + 1 ≤ room → length (model_values.computed locals operands rest kind r).operands ≤ room
  computed_in operands rest kind (Ok z) all less = omega (arith, less)
  computed_in operands rest kind (Err raised) all less = all

  computes_in : (operation : model.BinaryOperation) (operands : List Value) → length operands ≤ room → FitsIn room (model_values.compute_two locals operation operands)
  computes_in operation [] le = tt
  computes_in operation (b ∷ []) le = tt
  computes_in operation (b ∷ (a ∷ rest)) le =
      if_fits (is_of_kind (right_kind operation) b && is_of_kind (left_kind operation) a)
      (model_values.computed locals (b ∷ (a ∷ rest)) rest (given_kind operation) (compute operation (value_number a) (value_number b)))
      (computed_in (b ∷ (a ∷ rest)) rest (given_kind operation) (compute operation (value_number a) (value_number b)) le (omega (arith, le)))

  converts_in : (operation : model.UnaryOperation) (operands : List Value) → length operands ≤ room → FitsIn room (model_values.convert_one locals operation operands)
  converts_in operation [] le = tt
  converts_in operation (a ∷ rest) le =
      if_fits (is_of_kind (taken_kind operation) a) (pushed locals rest (number_value (converted_kind operation) (convert operation (value_number a)))) (omega (arith, le))

  branches_in : (test : model.Test) (target : ℕ) (operands : List Value) → length operands ≤ room → FitsIn room (model_values.branch locals test target operands)
  branches_in (model.WithZero condition) target (values.Int a ∷ rest) le = omega (arith, le)
  branches_in (model.OfInts condition) target (values.Int b ∷ (values.Int a ∷ rest)) le = omega (arith, le)
  branches_in (model.OfReferences same) target (values.Ref b ∷ (values.Ref a ∷ rest)) le = omega (arith, le)
  branches_in (model.OfNull null) target (values.Ref a ∷ rest) le = omega (arith, le)
  branches_in test target _ le = tt

  switches_in : (pairs : List (ℤ × ℕ)) (default : ℕ) (operands : List Value) → length operands ≤ room → FitsIn room (model_values.switch locals pairs default operands)
  switches_in pairs default (values.Int z ∷ rest) le = omega (arith, le)
  switches_in pairs default _ le = tt

  returns_in : (kind : Option Kind) (operands : List Value) → length operands ≤ room → FitsIn room (model_values.return_top locals kind operands)
  returns_in None operands le = le
  returns_in (Some kind) [] le = tt
  returns_in (Some kind) (v ∷ rest) le = if_fits (is_of_kind kind v) _ (omega (arith, le))

  unlocks_in : (operands : List Value) → length operands ≤ room → FitsIn room (model_values.unlock locals operands)
  unlocks_in (values.Ref r ∷ rest) le = omega (arith, le)
  unlocks_in _ le = tt

-- ---- all actions

pub grown : (action : PlainAction) (room : ℕ) (locals : List (Option Value)) (operands : List Value) → length operands + growth action ≤ room
    → FitsIn room (on_values (action_view action) locals operands)
unfolding on_values
grown actions.Nop room locals operands le = omega (arith, le)
grown (actions.Push v) room locals operands le = omega (arith, le)
grown (actions.Load kind slot) room locals operands le = loads_in room locals operands kind (local_at locals slot) le
grown (actions.Store kind slot) room locals operands le = stores_in room locals kind slot operands (omega (arith, le))
grown (actions.Increment slot by) room locals operands le = increments_in room locals operands slot by (local_at locals slot) (omega (arith, le))
grown (actions.LoadElement access) room locals operands le = tt
grown (actions.StoreElement access) room locals operands le = tt
grown (actions.Move movement) room locals operands le = moves_in room locals movement operands le
grown (actions.Compute operation) room locals operands le = computes_in room locals (binary_view operation) operands (omega (arith, le))
grown (actions.Convert operation) room locals operands le = converts_in room locals (unary_view operation) operands (omega (arith, le))
grown (actions.Branch test target) room locals operands le = branches_in room locals (test_view test) target operands (omega (arith, le))
grown (actions.Goto target) room locals operands le = omega (arith, le)
grown (actions.Table default low targets) room locals operands le = switches_in room locals (table_pairs low targets.now) default operands (omega (arith, le))
grown (actions.Lookup default pairs) room locals operands le = switches_in room locals (lookup_pairs pairs.now) default operands (omega (arith, le))
grown (actions.Return kind) room locals operands le = returns_in room locals kind operands (omega (arith, le))
grown (actions.NewArray base element) room locals operands le = tt
grown actions.ArrayLength room locals operands le = tt
grown actions.Throw room locals operands le = tt
grown actions.Monitor room locals operands le = unlocks_in room locals operands (omega (arith, le))

abbrev HasRoomAfter : PlainAction → List StackFrame → Type 0
HasRoomAfter action frames = FitsIn (top_room frames) (on_values (action_view action) (top_locals frames) (top_operands frames)) × (length (top_operands frames) ≤ top_room frames)

both : (action : PlainAction) (frames : List StackFrame) → length (top_operands frames) + growth action ≤ top_room frames → HasRoomAfter action frames
both action frames le = (grown action (top_room frames) (top_locals frames) (top_operands frames) le, omega (arith, le))

-- what an action leaves has room, where there is room for as many more
pub room_for : (action : PlainAction) (frames : List StackFrame) → length (top_operands frames) + growth action ≤ top_room frames → HasRoom (action_view action) frames
room_for actions.Nop frames le = both actions.Nop frames le
room_for (actions.Push v) frames le = both (actions.Push v) frames le
room_for (actions.Load kind slot) frames le = both (actions.Load kind slot) frames le
room_for (actions.Store kind slot) frames le = both (actions.Store kind slot) frames le
room_for (actions.Increment slot by) frames le = both (actions.Increment slot by) frames le
room_for (actions.LoadElement access) frames le = both (actions.LoadElement access) frames le
room_for (actions.StoreElement access) frames le = both (actions.StoreElement access) frames le
room_for (actions.Move movement) frames le = both (actions.Move movement) frames le
room_for (actions.Compute operation) frames le = both (actions.Compute operation) frames le
room_for (actions.Convert operation) frames le = both (actions.Convert operation) frames le
room_for (actions.Branch test target) frames le = both (actions.Branch test target) frames le
room_for (actions.Goto target) frames le = both (actions.Goto target) frames le
room_for (actions.Table default low targets) frames le = both (actions.Table default low targets) frames le
room_for (actions.Lookup default pairs) frames le = both (actions.Lookup default pairs) frames le
room_for (actions.Return kind) frames le = both (actions.Return kind) frames le
room_for (actions.NewArray base element) frames le = both (actions.NewArray base element) frames le
room_for actions.ArrayLength frames le = both actions.ArrayLength frames le
room_for actions.Throw frames le = both actions.Throw frames le
room_for actions.Monitor frames le = both actions.Monitor frames le
