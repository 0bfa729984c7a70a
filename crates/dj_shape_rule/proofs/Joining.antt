-- The first instruction that doesn't hold, from what was found without the handlers of ranges, and of them.
use Rattle.std.proofs.Common.{◌≡◌, ℕ, ◌<◌, ◌≤◌, Bool, true, List, [], map, get_or, length, Option, Some, None, slice_get, sym, ap, subst, ◌∙◌, arith}
use Rattle.std.proofs.lemmas.List.{length-map}
use Rattle.std.proofs.lemmas.Option.{slice_get-get_or}
use Rattle.dj_names.specs.declared.descriptor.Kind.{Kind}
use Rattle.dj_ops.specs.declared.instruction.Instr.TheVariants as instrs
use Rattle.dj_program.specs.trusted.Naming.{instruction_in}
use Rattle.dj_kind_lists.specs.declared.ranges.KindRange.{KindRange}
use Rattle.dj_kind_lists.specs.Lists.{AllFlow, IsFirstLack}
use Rattle.dj_model.specs.trusted.Kinds.{Kinds}
use Rattle.dj_model.specs.trusted.Linking.{or_else}
use Rattle.dj_model.specs.trusted.Shape.{HoldsAt, first_kinds}
use Rattle.dj_shape_rule.specs.declared.pass.Method.{Method}
use Rattle.dj_shape_rule.specs.declared.pass.Pass.{Pass}
use Rattle.dj_shape_rule.specs.Standing.{Standing, HasRoomOf}
use Rattle.dj_shape_rule.specs.Listed.{AreListed}
use Rattle.dj_shape_rule.specs.Handlers.{Handled, range_of}
use Rattle.dj_shape_rule.specs.Passing.{Case, IsCase, HeldBut, IsFirstBut, IsFirst, Before, IsFirstUnhandled, kept, limit_of}
use Rattle.dj_shape_rule.proofs.Handling.{all_flow, handled_so}
use Rattle.dj_shape_rule.proofs.Steps.{has_handled}

module _ (method : Method) (c : Case) (is : IsCase method c) (pass : Pass) (listed : AreListed method.frames pass.state) where
  count : length c.code.instructions ≡ length method.code.now
  count = ap length is.instructions ∙ length-map method.code.now (instruction_in c.pool)

  abbrev Flow : ℕ → Type 0
  Flow number = AllFlow pass.state.states pass.state.frames (map (range_of method.frames) method.rows.now) number

  abbrev Good : ℕ → Type 0
  Good number = HoldsAt c.signature c.code c.placed number

  holds_at : (number : ℕ) → Flow number → HeldBut method c pass.state.states number → Good number
  holds_at number flow held =
      held.holds (subst (λ (l : List (Option Kind)). Handled method.rows.now method.frames number l) held.kept (handled_so method.frames pass.state method.rows.now listed number flow))

  lacks_at : (number : ℕ) → number < length method.code.now → (Flow number → ⊥) → HeldBut method c pass.state.states number → Good number → ⊥
  lacks_at number within lacks held h =
      let at : slice_get method.code.now number ≡ Some (get_or method.code.now number (instrs.Simple 0)) = slice_get-get_or method.code.now number (instrs.Simple 0) within in
      let handled = has_handled method c is number (get_or method.code.now number (instrs.Simple 0)) at held.before held.state h in
      lacks (all_flow method.frames pass.state method.rows.now listed number (subst (λ (l : List (Option Kind)). Handled method.rows.now method.frames number l) (sym held.kept) handled))

  held_below : (fault : Option ℕ) → IsFirstBut method c fault pass → (number : ℕ) → number < limit_of fault (length method.code.now) → HeldBut method c pass.state.states number
  held_below None first number less = first.each number (omega (arith, less, count))
  held_below (Some q) first number less = first.2.each number less

  limit_within : (fault : Option ℕ) → IsFirstBut method c fault pass → limit_of fault (length method.code.now) ≤ length method.code.now
  limit_within None first = omega arith
  limit_within (Some q) first = let within = first.0 in omega (arith, within, count)

  pub none_lacks : (fault : Option ℕ) → IsFirstBut method c fault pass → ((number : ℕ) → number < limit_of fault (length method.code.now) → Flow number) → IsFirst c fault
  none_lacks None first flow = λ number within. let less : number < length method.code.now = omega (arith, within, count) in holds_at number (flow number less) (first.each number within)
  none_lacks (Some q) first flow = record {
    within = first.0;
    before = λ other less. holds_at other (flow other less) (first.2.each other less);
    fault = first.1;
  }

  pub one_lacks : (fault : Option ℕ) (number : ℕ) → IsFirstBut method c fault pass → number < limit_of fault (length method.code.now) → (Flow number → ⊥)
      → ((other : ℕ) → other < number → Flow other) → IsFirst c (Some number)
  one_lacks fault number first less lacks before =
      let most = limit_within fault first in
      let within : number < length method.code.now = omega (arith, less, most) in
      record {
        within = omega (arith, within, count);
        before = λ other under. holds_at other (before other under) (held_below fault first other (omega (arith, under, less)));
        fault = lacks_at number within lacks (held_below fault first number less);
      }

  pub joined : (fault found : Option ℕ) (ranges : List KindRange) (limit : ℕ) → IsFirstBut method c fault pass → limit ≡ limit_of fault (length method.code.now)
      → ranges ≡ map (range_of method.frames) method.rows.now → IsFirstLack pass.state.states pass.state.frames ranges limit found → IsFirst c (or_else found fault)
  joined fault None ranges limit first is are lack = none_lacks fault first (λ number less.
      subst (λ (l : List KindRange). AllFlow pass.state.states pass.state.frames l number) are (lack number (omega (arith, less, is))))
  joined fault (Some number) ranges limit first is are lack = one_lacks fault number first (let less = lack.0 in omega (arith, less, is))
      (λ flow. lack.1 (subst (λ (l : List KindRange). AllFlow pass.state.states pass.state.frames l number) (sym are) flow))
      (λ other less. subst (λ (l : List KindRange). AllFlow pass.state.states pass.state.frames l other) are (lack.2 other less))

-- before the first instruction
pub begins : (method : Method) (c : Case) (pass : Pass) (s : Standing) → pass.state ≡ s → pass.going ≡ true → HasRoomOf s c.code → s.kinds ≡ first_kinds c.signature c.code → s.states ≡ []
    → IsFirstUnhandled method.frames method.rows.now method.unhandled → Before method c 0 pass
begins method c pass s is going room kinds none unhandled = record {
  room = subst (λ (x : Standing). HasRoomOf x c.code) (sym is) room;
  arrives = subst (λ (b : Bool). Some (first_kinds c.signature c.code) ≡ kept b pass.state.kinds) (sym going) (ap (λ (k : Kinds). Some k) (sym kinds ∙ ap (λ (x : Standing). x.kinds) (sym is)));
  unhandled = unhandled;
  later = λ least e. omega arith;
  many = ap (λ (x : Standing). length x.states) is ∙ ap length none;
  held = λ other less. absurd (omega (arith, less));
}
