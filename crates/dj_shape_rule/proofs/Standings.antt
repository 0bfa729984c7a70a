-- What the steps of a state do, by what they do to its lists and operands.
use Rattle.std.proofs.Common.{◌≡◌, ℕ, ◌+◌, ◌≤◌, Bool, true, false, ◌&&◌, List, [], ◌∷◌, ◌++◌, length, reverse, replicate, Option, Some, None, nat_le, if◌then◌else◌, refl, sym, ap, subst, ◌∙◌, arith}
use Rattle.std.proofs.lemmas.Bool.Decides.{nat_tests}
use Rattle.std.proofs.lemmas.Option.{same_Some}
use Rattle.dj_names.specs.declared.descriptor.Kind.{Kind}
use Rattle.dj_kind_lists.specs.Lists.{Lists, SameLists, SameButFrames, SameButStates, IsChanged}
use Rattle.dj_model.specs.trusted.Initialisation.{padded}
use Rattle.dj_model.specs.trusted.Kinds.{Kinds, depth}
use Rattle.dj_shape_rule.specs.Standing.{Standing, IsBegun, IsListed, IsNoted, SameButLists, SameLocals, SameRoom, Leaves, standing_in}
use Rattle.dj_shape_rule.proofs.Lists.{changed_first}

-- a state as its parts show it
abbrev pub standing_of : ℕ → Lists → List Kind → Standing
standing_of max_stack lists stack = record {
  max_stack = max_stack;
  max_locals = lists.count;
  kinds = record { locals = lists.current; stack = stack };
  frames = lists.frames;
  states = lists.states;
}

-- the kinds with other local variables
kinds_with : (stack : List Kind) (a b : List (Option Kind)) → a ≡ b → ◌≡◌ {A = Kinds} (record { locals = a; stack = stack }) (record { locals = b; stack = stack })
kinds_with stack a b e = ap (λ (l : List (Option Kind)). record { locals = l; stack = stack }) e

module _ (max_stack : ℕ) (stack : List Kind) (old new : Lists) where
  abbrev Old : Standing
  Old = standing_of max_stack old stack

  abbrev New : Standing
  New = standing_of max_stack new stack

  pub same_room : SameLists old new → SameRoom Old New
  same_room same = (refl, same.count, same.frames, same.states)

  pub but_lists : SameButFrames old new → SameButLists Old New
  but_lists same = (refl, same.count, kinds_with stack new.current old.current same.current, same.states)

  pub but_states : SameButStates old new → (New.max_stack ≡ Old.max_stack) × (New.max_locals ≡ Old.max_locals) × (New.frames ≡ Old.frames)
  but_states same = (refl, same.count, same.frames)

  pub noted : SameButStates old new → new.states ≡ old.states ++ old.current ∷ [] → IsNoted Old New
  noted same more = record {
    max_stack = refl;
    max_locals = same.count;
    kinds = kinds_with stack new.current old.current same.current;
    frames = same.frames;
    states = more;
  }

pub room_after : (a b c : Standing) → SameRoom a b → SameRoom b c → SameRoom a c
room_after a b c x y = (y.0 ∙ x.0, y.1 ∙ x.1, y.2 ∙ x.2, y.3 ∙ x.3)

-- ---- at first

pub begun : (max_stack max_locals : ℕ) (locals : List (Option Kind)) (stack : List Kind) (made new : Lists) → length locals ≤ max_locals → made.count ≡ max_locals
    → made.frames ≡ replicate max_locals None ∷ [] → made.states ≡ [] → SameLists made new → IsChanged made.count [] 0 locals new.current → stack ≡ []
    → IsBegun max_stack max_locals locals (standing_of max_stack new stack)
begun max_stack max_locals locals stack made new few count frames states same changed none = record {
  few = few;
  stack_room = refl;
  locals_room = same.count ∙ count;
  kinds =
      let own : new.current ≡ padded max_locals locals = changed_first made.count locals new.current changed (omega (arith, few, count)) ∙ ap (λ (n : ℕ). padded n locals) count in
      kinds_with stack new.current (padded max_locals locals) own ∙ ap (λ (l : List Kind). record { locals = padded max_locals locals; stack = l }) none;
  frames = same.frames ∙ frames;
  states = same.states ∙ states;
}

-- ---- a frame

pub set_so : (s t u : Standing) (place : ℕ) (locals : List (Option Kind)) (stack : List Kind) (fits : Bool) → IsListed s place locals → t.kinds.locals ≡ padded s.max_locals locals → t.max_stack ≡ s.max_stack
    → SameLocals t u → Leaves fits (if nat_le (depth stack) t.max_stack then Some (reverse stack) else None) u.kinds.stack → Leaves fits (standing_in s locals stack) u.kinds
set_so s t u place locals stack fits listed own room same left =
    let few : nat_le (length locals) s.max_locals ≡ true = (let f = listed.few in grind (arith, nat_tests)) in
    let left_s = subst (λ (n : ℕ). Leaves fits (if nat_le (depth stack) n then Some (reverse stack) else None) u.kinds.stack) room left in
    subst (λ (b : Bool). Leaves fits (if b && nat_le (depth stack) s.max_stack then Some (record { locals = padded s.max_locals locals; stack = reverse stack }) else None) u.kinds) (sym few)
    (by (nat_le (depth stack) s.max_stack) fits left_s) where
      locals_are : padded s.max_locals locals ≡ u.kinds.locals
      locals_are = sym own ∙ sym same.0

      by : (b f : Bool) → Leaves f (if b then Some (reverse stack) else None) u.kinds.stack → Leaves f (if b then Some (record { locals = padded s.max_locals locals; stack = reverse stack }) else None) u.kinds
      by true true e =
          ap (λ (l : List (Option Kind)). Some (record { locals = l; stack = reverse stack })) locals_are
          ∙ ap (λ (l : List Kind). Some (record { locals = u.kinds.locals; stack = l })) (same_Some _ _ e)
      by true false e = absurd cc
      by false true e = absurd cc
      by false false e = refl
