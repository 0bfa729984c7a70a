-- An instruction that needs no memory is never stuck, and what it pushes has room.
use Rattle.std.proofs.Common.{◌≡◌, ◌+◌, ◌≤◌, ◌++◌, ℕ, Bool, true, false, List, [], ◌∷◌, length, map, Option, Some, None, if◌then◌else◌, refl, sym, ap, subst, ◌∙◌, arith}
use Rattle.std.specs.Prelude.{⊤, slice_index}
use Rattle.std.specs.Option.{option_map}
use Rattle.std.proofs.lemmas.Bool.{both_ways}
use Rattle.std.proofs.lemmas.Option.{none-some, same_Some}
use Rattle.dj_names.specs.declared.descriptor.Kind.{Kind}
use Rattle.dj_names.specs.declared.run.Value.{Value}
use Rattle.dj_names.specs.declared.run.Value.TheVariants as values
use Rattle.dj_names.specs.trusted.Heaps.{field_value}
use Rattle.dj_names.specs.trusted.Types.{field_kind}
use Rattle.dj_names.specs.trusted.Values.{value_kind}
use Rattle.dj_model.specs.trusted.Types.{Member}
use Rattle.dj_model.specs.trusted.Program.{Program, Code}
use Rattle.dj_model.specs.trusted.Instructions as model
use Rattle.dj_model.specs.trusted.Instructions.{Instruction}
use Rattle.dj_model.specs.trusted.Kinds.{Kinds, Signature, depth}
use Rattle.dj_model.specs.trusted.Linking.{FoundField, place_of_static, resolve_field}
use Rattle.dj_model.specs.trusted.Members.{get_static}
use Rattle.dj_model.specs.trusted.Numbers.{is_long, is_of_kind}
use Rattle.dj_model.specs.Standing.{IsSoundFlow}
use Rattle.dj_model.specs.trusted.State.{Part, Next, To, Raise, Back, Flow, Goes, Catch, Stop, Call, End, Effect, pushes}
use Rattle.dj_model.specs.trusted.Values as model_values
use Rattle.dj_model.specs.trusted.Values.{Values, Cut, local_at, moved, on_values, pushed}
use Rattle.dj_model.specs.trusted.Effects as effects
use Rattle.dj_model.specs.trusted.Effects.{values_effect}
use Rattle.dj_stack.specs.Frames.{top_locals, top_operands, top_room}
use Rattle.dj_effects.specs.Actions.{action_view, move_view}
use Rattle.dj_effects.specs.declared.actions.Movement.{Movement}
use Rattle.dj_effects.specs.declared.actions.Movement.TheVariants as moves
use Rattle.dj_effects.specs.declared.actions.PlainAction.{PlainAction}
use Rattle.dj_effects.specs.declared.actions.PlainAction.TheVariants as actions
use Rattle.dj_effects.specs.declared.actions.Slots.TheVariants as slots
use Rattle.dj_image.specs.Imaged.{Imaged, program_of}
use Rattle.dj_image_effects.specs.declared.acted.Acted.TheVariants as acts
use Rattle.dj_image_effects.specs.Acting.{Acts, Machine, part_of}
use Rattle.dj_image_effects.specs.Frugal.{HasRoomAfter, IsFrugal, makes}
use Rattle.dj_image_effects.specs.Growing.{growth, move_growth}
use Rattle.dj_image_effects.proofs.Effects.{action_on_values, is_on_values, push_on_values}

-- ---- from what keeps the kinds of sound code

-- what such an effect leaves has room, where the kinds have
pub sound_room : (program : Program) (signature : Signature) (code : Code) (i : Instruction) (before left : Kinds) (room : ℕ) (p : Part) (flow : Flow) → depth left.stack ≤ room
    → IsSoundFlow program signature code i before left p flow → HasRoomAfter room p.operands flow
sound_room program signature code i before left room p (Goes Next) fits is = subst (λ (stack : List Kind). depth stack ≤ room) (sym is.0.kinds.operands) fits
sound_room program signature code i before left room p (Goes (To number)) fits is = subst (λ (stack : List Kind). depth stack ≤ room) (sym is.0.kinds.operands) fits
sound_room program signature code i before left room p (Goes (Raise raised)) fits is = tt
sound_room program signature code i before left room p (Goes (Back result)) fits is = tt
sound_room program signature code i before left room p (Catch exception) fits is = tt
sound_room program signature code i before left room p Stop fits is = tt
sound_room program signature code i before left room p (Call m arguments) fits is = tt
sound_room program signature code i before left room p (End outcome) fits is = tt

-- ---- the effect

abbrev HasRoomIn : ℕ → Effect → Type 0
HasRoomIn room e = HasRoomAfter room e.part.operands e.flow

pub never_stuck : (imaged : Imaged) (i : Instruction) (before after : Machine) → IsFrugal imaged i before → Acts imaged i before after acts.Stuck → ⊥
never_stuck imaged i before after frugal acts =
    none-some frugal.does (sym (acts.effect frugal.terms frugal.own frugal.account frugal.answers frugal.limit) ∙ frugal.has)

pub makes_nothing : (imaged : Imaged) (i j : Instruction) (m : Machine) → IsFrugal imaged i m → i ≡ j → makes j ≡ true → ⊥
makes_nothing imaged i j m frugal is made = both_ways (makes i) frugal.makes (ap makes is ∙ made)

-- ---- slots

abbrev slots_of : List Value → ℕ
slots_of operands = depth (map value_kind operands)

slots_append : (a b : List Value) → slots_of (a ++ b) ≡ slots_of a + slots_of b
slots_append [] b = omega arith
slots_append (v ∷ a) b = let rest = slots_append a b in omega (arith, rest)

shallow_one : (v : Value) → 1 ≤ slots_of (v ∷ [])
shallow_one (values.Int z) = omega arith
shallow_one (values.Long z) = omega arith
shallow_one (values.Ref r) = omega arith

shallow : (operands : List Value) → length operands ≤ slots_of operands
shallow [] = omega arith
shallow (v ∷ operands) =
    let one = shallow_one v in
    let rest = shallow operands in
    omega (arith, one, rest)

one_more : (v : Value) (operands : List Value) (room : ℕ) → slots_of (v ∷ operands) ≤ room → length operands + 1 ≤ room
one_more v operands room le =
    let one = shallow_one v in
    let rest = shallow operands in
    omega (arith, one, rest, le)

-- ---- values

-- an effect on values leaves what has room
abbrev FitsAfter : ℕ → Option Values → Type 0
FitsAfter room None = ⊥
FitsAfter room (Some v) = HasRoomAfter room v.operands (Goes v.way)

values_room : (room : ℕ) (p : Part) (o : Option Values) (e : Effect) → option_map (values_effect p) o ≡ Some e → HasRoomIn room e → FitsAfter room o
values_room room p None e is fits = none-some e is
values_room room p (Some v) e is fits = subst (HasRoomIn room) (sym (same_Some (values_effect p v) e is)) fits

-- this many slots are cut off, and none is lost
abbrev IsCut : ℕ → List Value → Option (Cut Value) → Type 0
IsCut count operands None = ⊤
IsCut count operands (Some cut) = (slots_of cut.top ≡ count) × (cut.top ++ cut.rest ≡ operands)

narrow : (v : Value) → is_long v ≡ false → slots_of (v ∷ []) ≡ 1
narrow (values.Int z) e = refl
narrow (values.Long z) e = absurd cc
narrow (values.Ref r) e = refl

wide : (v : Value) → is_long v ≡ true → slots_of (v ∷ []) ≡ 2
wide (values.Int z) e = absurd cc
wide (values.Long z) e = refl
wide (values.Ref r) e = absurd cc

one_cut : (operands : List Value) → IsCut 1 operands (model_values.one_slot is_long operands)
one_cut [] = tt
one_cut (v ∷ rest) = by (is_long v) refl where
  by : (b : Bool) → is_long v ≡ b → IsCut 1 (v ∷ rest) (if b then None else Some (record { top = v ∷ []; rest = rest }))
  by true e = tt
  by false e = (narrow v e, refl)

two_cut : (operands : List Value) → IsCut 2 operands (model_values.two_slots is_long operands)
two_cut [] = tt
two_cut (v ∷ rest) = by (is_long v) refl (model_values.one_slot is_long rest) (one_cut rest) where
  by : (b : Bool) → is_long v ≡ b → (o : Option (Cut Value)) → IsCut 1 rest o → IsCut 2 (v ∷ rest) (if b then Some (record { top = v ∷ []; rest = rest }) else model_values.on_top v o)
  by true e o is = (wide v e, refl)
  by false e None is = tt
  by false e (Some cut) is =
      let one = narrow v e in
      let others = is.0 in
      (omega (arith, one, others), ap (λ (l : List Value). v ∷ l) is.1)

module _ (room : ℕ) (locals : List (Option Value)) where
  cut_length : (count : ℕ) (operands : List Value) (cut : Cut Value) → IsCut count operands (Some cut) → length operands ≤ count + slots_of cut.rest
  cut_length count operands cut is =
      let all : slots_of operands ≡ slots_of cut.top + slots_of cut.rest = ap (λ (l : List Value). slots_of l) (sym is.1) ∙ slots_append cut.top cut.rest in
      let top = is.0 in
      let few = shallow operands in
      omega (arith, all, top, few)

  doubled : (count : ℕ) (operands : List Value) (o : Option (Cut Value)) → IsCut count operands o → FitsAfter room (model_values.with_moved locals (model_values.doubled o)) → length operands + count ≤ room
  doubled count operands None is fits = absurd fits
  doubled count operands (Some cut) is fits =
      let few = cut_length count operands cut is in
      let outer = slots_append (cut.top ++ cut.top) cut.rest in
      let inner = slots_append cut.top cut.top in
      let top = is.0 in
      omega (arith, few, outer, inner, top, fits)

  under : (top : List Value) (most : ℕ) (operands : List Value) (o : Option (Cut Value)) → IsCut most operands o → FitsAfter room (model_values.with_moved locals (model_values.under top o))
      → slots_of top + slots_of top + slots_of operands ≤ room
  under top most operands None is fits = absurd fits
  under top most operands (Some cut) is fits =
      let all : slots_of operands ≡ slots_of cut.top + slots_of cut.rest = ap (λ (l : List Value). slots_of l) (sym is.1) ∙ slots_append cut.top cut.rest in
      let outer = slots_append (top ++ cut.top ++ top) cut.rest in
      let middle = slots_append (top ++ cut.top) top in
      let inner = slots_append top cut.top in
      omega (arith, all, outer, middle, inner, fits)

  under_any : (count : ℕ) (operands : List Value) (cut : Cut Value) → IsCut count operands (Some cut) → slots_of cut.top + slots_of cut.top + slots_of cut.rest ≤ room → length operands + count ≤ room
  under_any count operands cut is le =
      let few = cut_length count operands cut is in
      let top = is.0 in
      omega (arith, few, top, le)

  under_one : (count : ℕ) (operands : List Value) (o : Option (Cut Value)) → IsCut count operands o → FitsAfter room (model_values.with_moved locals (model_values.under_one is_long o))
      → length operands + count ≤ room
  under_one count operands None is fits = absurd fits
  under_one count operands (Some cut) is fits =
      under_any count operands cut is (under cut.top 1 cut.rest (model_values.one_slot is_long cut.rest) (one_cut cut.rest) fits)

  under_two : (count : ℕ) (operands : List Value) (o : Option (Cut Value)) → IsCut count operands o → FitsAfter room (model_values.with_moved locals (model_values.under_two is_long o))
      → length operands + count ≤ room
  under_two count operands None is fits = absurd fits
  under_two count operands (Some cut) is fits =
      under_any count operands cut is (under cut.top 2 cut.rest (model_values.two_slots is_long cut.rest) (two_cut cut.rest) fits)

  moves_back : (movement : Movement) (operands : List Value) → length operands ≤ room → FitsAfter room (model_values.with_moved locals (moved is_long (move_view movement) operands))
      → length operands + move_growth movement ≤ room
  unfolding moved
  moves_back (moves.Drop slots.One) operands le fits = omega (arith, le)
  moves_back (moves.Drop slots.Two) operands le fits = omega (arith, le)
  moves_back (moves.Double slots.One) operands le fits = doubled 1 operands (model_values.one_slot is_long operands) (one_cut operands) fits
  moves_back (moves.Double slots.Two) operands le fits = doubled 2 operands (model_values.two_slots is_long operands) (two_cut operands) fits
  moves_back (moves.Under slots.One slots.One) operands le fits = under_one 1 operands (model_values.one_slot is_long operands) (one_cut operands) fits
  moves_back (moves.Under slots.One slots.Two) operands le fits = under_two 1 operands (model_values.one_slot is_long operands) (one_cut operands) fits
  moves_back (moves.Under slots.Two slots.One) operands le fits = under_one 2 operands (model_values.two_slots is_long operands) (two_cut operands) fits
  moves_back (moves.Under slots.Two slots.Two) operands le fits = under_two 2 operands (model_values.two_slots is_long operands) (two_cut operands) fits
  moves_back moves.Swap operands le fits = omega (arith, le)

  loads_back : (operands : List Value) (kind : Kind) (o : Option Value) → FitsAfter room (model_values.load_value locals operands kind o) → length operands + 1 ≤ room
  loads_back operands kind None fits = absurd fits
  loads_back operands kind (Some v) fits = by (is_of_kind kind v) fits where
    by : (b : Bool) → FitsAfter room (if b then Some (pushed locals operands v) else None) → length operands + 1 ≤ room
    by true le = one_more v operands room le
    by false none = absurd none

  -- an action on values has room for what it grows the operands by
  grown_back : (action : PlainAction) (operands : List Value) → is_on_values action ≡ true → length operands ≤ room → FitsAfter room (on_values (action_view action) locals operands)
      → length operands + growth action ≤ room
  unfolding on_values
  grown_back actions.Nop operands is le fits = omega (arith, le)
  grown_back (actions.Push v) operands is le fits = one_more v operands room fits
  grown_back (actions.Load kind slot) operands is le fits = loads_back operands kind (local_at locals slot) fits
  grown_back (actions.Store kind slot) operands is le fits = omega (arith, le)
  grown_back (actions.Increment slot by) operands is le fits = omega (arith, le)
  grown_back (actions.Move movement) operands is le fits = moves_back movement operands le fits
  grown_back (actions.Compute operation) operands is le fits = omega (arith, le)
  grown_back (actions.Convert operation) operands is le fits = omega (arith, le)
  grown_back (actions.Branch test target) operands is le fits = omega (arith, le)
  grown_back (actions.Goto target) operands is le fits = omega (arith, le)
  grown_back (actions.Table default low targets) operands is le fits = omega (arith, le)
  grown_back (actions.Lookup default pairs) operands is le fits = omega (arith, le)
  grown_back (actions.Return kind) operands is le fits = omega (arith, le)
  grown_back actions.Monitor operands is le fits = omega (arith, le)
  grown_back action operands is le fits = absurd cc

no_growth : (action : PlainAction) → is_on_values action ≡ false → growth action ≡ 0
no_growth (actions.LoadElement access) e = refl
no_growth (actions.StoreElement access) e = refl
no_growth (actions.NewArray base element) e = refl
no_growth actions.ArrayLength e = refl
no_growth actions.Throw e = refl
no_growth action e = absurd cc

-- ---- room for what is pushed

pub action_room : (imaged : Imaged) (action : PlainAction) (m : Machine) → length (top_operands m.frames) ≤ top_room m.frames → IsFrugal imaged (action_view action) m
    → length (top_operands m.frames) + growth action ≤ top_room m.frames
action_room imaged action m le frugal = by (is_on_values action) refl where
  by : (b : Bool) → is_on_values action ≡ b → length (top_operands m.frames) + growth action ≤ top_room m.frames
  by true is =
      grown_back (top_room m.frames) (top_locals m.frames) action (top_operands m.frames) is le
      (values_room (top_room m.frames) (part_of imaged m frugal.account frugal.answers) (on_values (action_view action) (top_locals m.frames) (top_operands m.frames)) frugal.does
      (sym (action_on_values imaged action is frugal.terms frugal.own (part_of imaged m frugal.account frugal.answers)) ∙ frugal.has) frugal.room)
  by false is = let none = no_growth action is in omega (arith, le, none)

pub push_room : (imaged : Imaged) (v : Value) (m : Machine) → IsFrugal imaged (model.Push v) m → length (top_operands m.frames) + 1 ≤ top_room m.frames
unfolding on_values
push_room imaged v m frugal =
    one_more v (top_operands m.frames) (top_room m.frames)
    (values_room (top_room m.frames) (part_of imaged m frugal.account frugal.answers) (on_values (model.Push v) (top_locals m.frames) (top_operands m.frames)) frugal.does
    (sym (push_on_values imaged v frugal.terms frugal.own (part_of imaged m frugal.account frugal.answers)) ∙ frugal.has) frugal.room)

got_room : (room : ℕ) (program : Program) (p : Part) (kind : Option Kind) (found : Option FoundField) (e : Effect) → get_static program p kind found ≡ Some e → HasRoomIn room e
    → length p.operands + 1 ≤ room
got_room room program p None found e is fits = absurd (none-some e is)
got_room room program p (Some kind) None e is fits = absurd (none-some e is)
got_room room program p (Some kind) (Some found) e is fits =
    let v : Value = field_value kind (slice_index p.statics (place_of_static program found)) in
    one_more v p.operands room (subst (HasRoomIn room) (sym (same_Some (pushes p p.operands v) e is)) fits)

pub static_room : (imaged : Imaged) (member : Member) (m : Machine) → IsFrugal imaged (model.GetStatic member) m → length (top_operands m.frames) + 1 ≤ top_room m.frames
unfolding effects.effect
static_room imaged member m frugal =
    got_room (top_room m.frames) (program_of imaged) (part_of imaged m frugal.account frugal.answers) (field_kind member.desc) (resolve_field (program_of imaged) imaged.prefix member) frugal.does
    frugal.has frugal.room
