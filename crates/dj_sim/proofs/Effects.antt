-- The effect of an instruction in rewritten code: the same, at other places and under other names.
use Rattle.std.proofs.Common.{◌≡◌, ℕ, Bool, true, false, ℤ, pos, List, [], ◌∷◌, map, Option, Some, None, nat_eq, refl, ap, subst, ◌∙◌, if◌then◌else◌}
use Rattle.std.specs.Option.{option_map}
use Rattle.std.proofs.lemmas.Option.{none-some}
use Rattle.dj_names.specs.declared.run.Value.{Value}
use Rattle.dj_names.specs.declared.run.Value.TheVariants as values
use Rattle.dj_names.specs.trusted.Types.{Name}
use Rattle.dj_names.specs.Types.{in_sandbox, sandbox_prefix}
use Rattle.dj_model.specs.trusted.Instructions.{Instruction, Nop, Push, PushText, Load, Store, Increment, LoadElement, StoreElement, Move, Compute, Convert, Branch, Goto, Switch, Return, GetStatic, PutStatic, GetField, PutField, Invoke, New, NewArray, ArrayLength, Throw, CheckCast, InstanceOf, Monitor, Other, Test, WithZero, OfInts, OfReferences, OfNull, targets, Pop}
use Rattle.dj_model.specs.Instructions.{instruction_map}
use Rattle.dj_model.specs.trusted.Program.{Program}
use Rattle.dj_model.specs.trusted.Numbers.{target_of, same_number, holds, agrees}
use Rattle.dj_model.specs.trusted.Values.{Values, jumps_if, branch, switch, on_values, moved}
use Rattle.dj_model.specs.trusted.State.{Terms, Part, Next, To, Raise, Back, Flow, Goes, Catch, Stop, Call, End, Effect}
use Rattle.dj_model.specs.State.{part_map, flow_map, effect_map}
use Rattle.dj_model.specs.trusted.Effects.{values_effect, effect}
use Rattle.dj_model.specs.Standing.{IsAmong}
use Rattle.dj_model.proofs.MappedEffects as effects
use Rattle.dj_model.proofs.NameMaps.{sandbox_map}
use Rattle.dj_groups.specs.Rewritten.{rewritten_code}
use Rattle.dj_sim.specs.Simulation.{JumpsAmong}
use Rattle.dj_sim.proofs.Acts.{moved_to, way_at, flow_image, other, at, statics}

module _ (program : Program) (place : ℕ → ℕ) (terms : Terms) where
  abbrev pub effect_image : Effect → Effect
  effect_image e = record { part = part_map in_sandbox e.part; flow = flow_image place e.flow }

  abbrev values_at : Values → Values
  values_at v = record { locals = v.locals; operands = v.operands; way = way_at place v.way }

  by_test : (locals : List (Option Value)) (rest : List Value) (b : Bool) (target : ℕ) → jumps_if locals rest b (place target) ≡ values_at (jumps_if locals rest b target)
  by_test locals rest true target = refl
  by_test locals rest false target = refl

  branch_at : (locals : List (Option Value)) (test : Test) (target : ℕ) (operands : List Value)
      → branch locals test (place target) operands ≡ option_map values_at (branch locals test target operands)
  branch_at locals (WithZero condition) target (values.Int a ∷ rest) = ap Some (by_test locals rest (holds condition a (pos 0)) target)
  branch_at locals (OfInts condition) target (values.Int b ∷ (values.Int a ∷ rest)) = ap Some (by_test locals rest (holds condition a b) target)
  branch_at locals (OfReferences same) target (values.Ref b ∷ (values.Ref a ∷ rest)) = ap Some (by_test locals rest (agrees same (nat_eq a b)) target)
  branch_at locals (OfNull null) target (values.Ref a ∷ rest) = ap Some (by_test locals rest (agrees null (nat_eq a 0)) target)
  branch_at locals test target operands = refl

  target_at : (pairs : List (ℤ × ℕ)) (default : ℕ) (z : ℤ) → target_of (map (λ pair. (pair.0, place pair.1)) pairs) (place default) z ≡ place (target_of pairs default z)
  target_at [] default z = refl
  target_at (pair ∷ pairs) default z = rw (target_at pairs default z) (go (same_number pair.0 z)) where
    go : (b : Bool) → (if b then place pair.1 else place (target_of pairs default z)) ≡ place (if b then pair.1 else target_of pairs default z)
    go true = refl
    go false = refl

  switch_at : (locals : List (Option Value)) (pairs : List (ℤ × ℕ)) (default : ℕ) (operands : List Value)
      → switch locals (map (λ pair. (pair.0, place pair.1)) pairs) (place default) operands ≡ option_map values_at (switch locals pairs default operands)
  switch_at locals pairs default (values.Int z ∷ rest) = ap (λ n. Some (record { locals = locals; operands = rest; way = To n })) (target_at pairs default z)
  switch_at locals pairs default operands = refl

  values_image : (x : Part) (v : Option Values) → option_map (values_effect (part_map in_sandbox x)) (option_map values_at v) ≡ option_map effect_image (option_map (values_effect x) v)
  values_image x None = refl
  values_image x (Some v) = refl

  -- no other instruction jumps
  stays : (i : Instruction) (flow : Flow) → targets i ≡ [] → JumpsAmong i flow → flow_map in_sandbox flow ≡ flow_image place flow
  stays i (Goes Next) none k = refl
  stays i (Goes (To number)) none k = absurd (subst (λ (numbers : List ℕ). IsAmong numbers number) none k)
  stays i (Goes (Raise raised)) none k = refl
  stays i (Goes (Back result)) none k = refl
  stays i (Catch exception) none k = refl
  stays i Stop none k = refl
  stays i (Call m arguments) none k = refl
  stays i (End outcome) none k = refl

  straight : (own : Name) (i : Instruction) (x : Part) (e : Effect) → targets i ≡ [] → effect program [] terms own i x ≡ Some e → JumpsAmong i e.flow
      → effect (other program) sandbox_prefix terms (in_sandbox own) (instruction_map in_sandbox i) (part_map in_sandbox x) ≡ Some (effect_image e)
  straight own i x e none has k =
      effects.effect_mapped in_sandbox (rewritten_code program) [] sandbox_prefix sandbox_map program (other program) (at program) (statics program) terms own i x
      ∙ (ap (option_map (effect_map in_sandbox)) has
      ∙ ap (λ (flow : Flow). Some (record { part = part_map in_sandbox e.part; flow = flow })) (stays i e.flow none k))

  pub effect_at : (own : Name) (i : Instruction) (x : Part) (e : Effect) → effect program [] terms own i x ≡ Some e → JumpsAmong i e.flow
      → effect (other program) sandbox_prefix terms (in_sandbox own) (moved_to place i) (part_map in_sandbox x) ≡ Some (effect_image e)
  unfolding effect on_values moved
  effect_at own (Branch test target) x e has k =
      ap (option_map (values_effect (part_map in_sandbox x))) (branch_at x.locals test target x.operands)
      ∙ (values_image x (branch x.locals test target x.operands) ∙ ap (option_map effect_image) has)
  effect_at own (Goto target) x e has k = ap (option_map effect_image) has
  effect_at own (Switch pairs default) x e has k =
      ap (option_map (values_effect (part_map in_sandbox x))) (switch_at x.locals pairs default x.operands)
      ∙ (values_image x (switch x.locals pairs default x.operands) ∙ ap (option_map effect_image) has)
  effect_at own Monitor x e has k = unlocked x.operands refl has where
    unlocked : (operands : List Value) → x.operands ≡ operands → option_map (values_effect x) (on_values Monitor x.locals operands) ≡ Some e
        → option_map (values_effect (part_map in_sandbox x)) (on_values (Move Pop) x.locals operands) ≡ Some (effect_image e)
    unlocked [] same has = absurd (none-some e has)
    unlocked (values.Int z ∷ rest) same has = absurd (none-some e has)
    unlocked (values.Long z ∷ rest) same has = absurd (none-some e has)
    unlocked (values.Ref r ∷ rest) same has = ap (option_map effect_image) has
  effect_at own Nop x e has k = straight own Nop x e refl has k
  effect_at own (Push v) x e has k = straight own (Push v) x e refl has k
  effect_at own (PushText units) x e has k = straight own (PushText units) x e refl has k
  effect_at own (Load kind slot) x e has k = straight own (Load kind slot) x e refl has k
  effect_at own (Store kind slot) x e has k = straight own (Store kind slot) x e refl has k
  effect_at own (Increment slot by) x e has k = straight own (Increment slot by) x e refl has k
  effect_at own (LoadElement access) x e has k = straight own (LoadElement access) x e refl has k
  effect_at own (StoreElement access) x e has k = straight own (StoreElement access) x e refl has k
  effect_at own (Move operation) x e has k = straight own (Move operation) x e refl has k
  effect_at own (Compute operation) x e has k = straight own (Compute operation) x e refl has k
  effect_at own (Convert operation) x e has k = straight own (Convert operation) x e refl has k
  effect_at own (Return kind) x e has k = straight own (Return kind) x e refl has k
  effect_at own (GetStatic m) x e has k = straight own (GetStatic m) x e refl has k
  effect_at own (PutStatic m) x e has k = straight own (PutStatic m) x e refl has k
  effect_at own (GetField m) x e has k = straight own (GetField m) x e refl has k
  effect_at own (PutField m) x e has k = straight own (PutField m) x e refl has k
  effect_at own (Invoke mode m) x e has k = straight own (Invoke mode m) x e refl has k
  effect_at own (New class) x e has k = straight own (New class) x e refl has k
  effect_at own (NewArray class element) x e has k = straight own (NewArray class element) x e refl has k
  effect_at own ArrayLength x e has k = straight own ArrayLength x e refl has k
  effect_at own Throw x e has k = straight own Throw x e refl has k
  effect_at own (CheckCast class) x e has k = straight own (CheckCast class) x e refl has k
  effect_at own (InstanceOf class) x e has k = straight own (InstanceOf class) x e refl has k
  effect_at own (Other op named) x e has k = straight own (Other op named) x e refl has k
