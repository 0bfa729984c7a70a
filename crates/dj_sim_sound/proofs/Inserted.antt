-- What is inserted before an instruction finds the kinds that it takes, and leaves those before the instruction as they are.
use Rattle.std.proofs.Common.{◌≡◌, ℕ, ◌+◌, ◌≤◌, Bool, true, false, List, [], ◌∷◌, map, Option, Some, nat_le, refl, sym, subst, arith}
use Rattle.std.proofs.lemmas.Option.{none-some}
use Rattle.std.proofs.lemmas.Bool.Decides.{nat_tests}
use Rattle.dj_names.specs.declared.descriptor.Kind.{Kind}
use Rattle.dj_names.specs.declared.descriptor.Kind.TheVariants as kinds
use Rattle.dj_names.specs.declared.run.Element.{Element}
use Rattle.dj_model.specs.trusted.Instructions.{Instruction, Branch, Goto, Switch, Invoke, New, NewArray, Throw, Other}
use Rattle.dj_model.specs.trusted.Program.{Program, Code}
use Rattle.dj_model.specs.trusted.Values.{moved}
use Rattle.dj_model.specs.trusted.Kinds.{Signature, Kinds, depth}
use Rattle.dj_model.specs.trusted.Shape.{after}
use Rattle.dj_groups.specs.Groups.{charge_of, inserted, group_of}
use Rattle.dj_groups.specs.Rewritten.{inserted_instruction}
use Rattle.dj_sim.specs.Paying.{copy, push_bytes, push_element, record_jump, record_invocation, record_throw, record_allocation, record_array, check_catch}
use Rattle.dj_sim.proofs.SoundTurns.{taken_int}
use Rattle.dj_sim_sound.proofs.Befores.{PassesAll, passes_both}
use Rattle.dj_sim_sound.proofs.Fits.{Fits}

module _ (signature : Signature) (code now : Code) (room : now.max_stack ≡ code.max_stack + 2) where
  jump_passes : (b : Kinds) → Fits code b → PassesAll signature now (record_jump ∷ []) b b
  unfolding after
  jump_passes b fits =
      let deep : nat_le (depth b.stack) now.max_stack ≡ true = grind (arith, nat_tests, room, fits) in
      (b, record { on = refl; still = refl; found = rw deep refl; locals = refl }, refl)

  invocation_passes : (b : Kinds) → Fits code b → PassesAll signature now (record_invocation ∷ []) b b
  unfolding after
  invocation_passes b fits =
      let deep : nat_le (depth b.stack) now.max_stack ≡ true = grind (arith, nat_tests, room, fits) in
      (b, record { on = refl; still = refl; found = rw deep refl; locals = refl }, refl)

  throw_passes : (b : Kinds) → Fits code b → PassesAll signature now (record_throw ∷ []) b b
  unfolding after
  throw_passes b fits =
      let deep : nat_le (depth b.stack) now.max_stack ≡ true = grind (arith, nat_tests, room, fits) in
      (b, record { on = refl; still = refl; found = rw deep refl; locals = refl }, refl)

  allocation_passes : (n : ℕ) (b : Kinds) → Fits code b → PassesAll signature now (push_bytes n ∷ record_allocation ∷ []) b b
  unfolding after
  allocation_passes n b fits =
      let deep : nat_le (depth b.stack) now.max_stack ≡ true = grind (arith, nat_tests, room, fits) in
      let more : nat_le (1 + depth b.stack) now.max_stack ≡ true = grind (arith, nat_tests, room, fits) in
      let pushed : Kinds = record { locals = b.locals; stack = kinds.Int ∷ b.stack } in (
        pushed,
        record { on = refl; still = refl; found = rw more refl; locals = refl },
        (b, record { on = refl; still = refl; found = rw deep refl; locals = refl }, refl),
      )

  -- the length and its copy are ints
  array_passes : (element : Element) (locals : List (Option Kind)) (rest : List Kind) → Fits code (record { locals = locals; stack = kinds.Int ∷ rest })
      → PassesAll signature now (copy ∷ push_element element ∷ record_array ∷ []) (record { locals = locals; stack = kinds.Int ∷ rest }) (record { locals = locals; stack = kinds.Int ∷ rest })
  unfolding after moved
  array_passes element locals rest fits =
      let few : 1 + depth rest ≤ code.max_stack = fits in
      let one : nat_le (1 + depth rest) now.max_stack ≡ true = grind (arith, nat_tests, room, few) in
      let two : nat_le (1 + (1 + depth rest)) now.max_stack ≡ true = grind (arith, nat_tests, room, few) in
      let three : nat_le (1 + (1 + (1 + depth rest))) now.max_stack ≡ true = grind (arith, nat_tests, room, few) in (
        record { locals = locals; stack = kinds.Int ∷ kinds.Int ∷ rest },
        record { on = refl; still = refl; found = rw two refl; locals = refl },
        (
          record { locals = locals; stack = kinds.Int ∷ kinds.Int ∷ kinds.Int ∷ rest },
          record { on = refl; still = refl; found = rw three refl; locals = refl },
          (record { locals = locals; stack = kinds.Int ∷ rest }, record { on = refl; still = refl; found = rw one refl; locals = refl }, refl),
        ),
      )

  -- the exception and its copy are references
  arrival_passes : (locals : List (Option Kind)) (rest : List Kind) → Fits code (record { locals = locals; stack = kinds.Ref ∷ rest })
      → PassesAll signature now (copy ∷ check_catch ∷ record_throw ∷ []) (record { locals = locals; stack = kinds.Ref ∷ rest }) (record { locals = locals; stack = kinds.Ref ∷ rest })
  unfolding after moved
  arrival_passes locals rest fits =
      let few : 1 + depth rest ≤ code.max_stack = fits in
      let one : nat_le (1 + depth rest) now.max_stack ≡ true = grind (arith, nat_tests, room, few) in
      let two : nat_le (1 + (1 + depth rest)) now.max_stack ≡ true = grind (arith, nat_tests, room, few) in
      let same : Kinds = record { locals = locals; stack = kinds.Ref ∷ rest } in (
        record { locals = locals; stack = kinds.Ref ∷ kinds.Ref ∷ rest },
        record { on = refl; still = refl; found = rw two refl; locals = refl },
        (
          same,
          record { on = refl; still = refl; found = rw one refl; locals = refl },
          (same, record { on = refl; still = refl; found = rw one refl; locals = refl }, refl),
        ),
      )

  -- what is inserted for the charge of the instruction itself
  charge_passes : (program : Program) (i : Instruction) (b left : Kinds) → Fits code b → after signature code i b ≡ Some left
      → PassesAll signature now (map inserted_instruction (charge_of program i)) b b
  unfolding after
  charge_passes program (Branch test target) b left fits e = jump_passes b fits
  charge_passes program (Goto target) b left fits e = jump_passes b fits
  charge_passes program (Switch pairs default) b left fits e = jump_passes b fits
  charge_passes program (Invoke mode m) b left fits e = invocation_passes b fits
  charge_passes program Throw b left fits e = throw_passes b fits
  charge_passes program (New class) b left fits e = allocation_passes _ b fits
  charge_passes program (NewArray class element) b left fits e =
      let t = taken_int code b b.stack (Some kinds.Ref) left e in
      subst (λ (stack : List Kind). PassesAll signature now (copy ∷ push_element element ∷ record_array ∷ []) (record { locals = b.locals; stack = stack }) (record { locals = b.locals; stack = stack }))
      (sym t.1) (array_passes element b.locals t.0 (subst (λ (stack : List Kind). depth stack ≤ code.max_stack) t.1 fits))
  charge_passes program (Other op named) b left fits e = absurd (none-some left e)
  charge_passes program i b left fits e = refl

  -- whether the instruction is the first of a handler or not; where it is, an exception is at the top
  pub group_passes : (program : Program) (arrives : Bool) (i : Instruction) (b left : Kinds) → (arrives ≡ true → (rest : List Kind) × (b.stack ≡ kinds.Ref ∷ rest)) → Fits code b
      → after signature code i b ≡ Some left → PassesAll signature now (map inserted_instruction (inserted (group_of program arrives i))) b b
  group_passes program false i b left arrived fits e = charge_passes program i b left fits e
  group_passes program true i b left arrived fits e =
      let t = arrived refl in
      let first : PassesAll signature now (copy ∷ check_catch ∷ record_throw ∷ []) b b =
      subst (λ (stack : List Kind). PassesAll signature now (copy ∷ check_catch ∷ record_throw ∷ []) (record { locals = b.locals; stack = stack }) (record { locals = b.locals; stack = stack }))
      (sym t.1) (arrival_passes b.locals t.0 (subst (λ (stack : List Kind). depth stack ≤ code.max_stack) t.1 fits)) in
      passes_both signature now (copy ∷ check_catch ∷ record_throw ∷ []) (map inserted_instruction (charge_of program i)) b b b first (charge_passes program i b left fits e)
