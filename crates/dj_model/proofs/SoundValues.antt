-- Instructions on values keep the kinds that shape says.
use Rattle.std.proofs.Common.{◌≡◌, ℕ, Bool, true, false, ℤ, pos, List, [], ◌∷◌, ◌++◌, length, map, set, Option, Some, None, Result, Ok, Err, nat_eq, nat_lt, nat_le, refl, sym, ap, subst, ◌∙◌, inl, inr, length-set, IsTrue, IsFalse}
use Rattle.std.proofs.lemmas.List.{map-append}
use Rattle.std.specs.Option.{option_map}
use Rattle.std.specs.Int.{w32, int_wrap}
use Rattle.std.specs.Prelude.{◌+ℤ◌}
use Rattle.dj_names.specs.declared.descriptor.Kind.{Kind}
use Rattle.dj_names.specs.declared.descriptor.Kind.TheVariants as kinds
use Rattle.dj_names.specs.declared.run.Value.{Value}
use Rattle.dj_names.specs.declared.run.Value.TheVariants as values
use Rattle.dj_names.specs.declared.run.Raised.{Raised}
use Rattle.dj_names.specs.trusted.Values.{value_kind}
use Rattle.dj_names.specs.trusted.Heaps.{value_number, number_value}
use Rattle.dj_model.specs.trusted.Instructions.{Instruction, Load, Store, Increment, Move, Compute, Convert, Branch, Switch, Return, Monitor, StackOperation, Pop, Pop2, Dup, DupX1, DupX2, Dup2, Dup2X1, Dup2X2, Swap, BinaryOperation, UnaryOperation, Test, WithZero, OfInts, OfReferences, OfNull, ends, targets}
use Rattle.dj_model.specs.trusted.Numbers.{is_wide, is_long, left_kind, right_kind, given_kind, compute, taken_kind, converted_kind, convert, holds, agrees, target_of, same_number, tested_kinds}
use Rattle.dj_model.specs.trusted.Program.{Code}
use Rattle.dj_model.specs.trusted.State.{Way, Next, To, Raise, Back}
use Rattle.dj_model.specs.trusted.Values.{Values, pushed, left, local_at, last_slot, stored, load_value, store_top, increment, Cut, one_slot, on_top, two_slots, dropped, doubled, under, under_one, under_two, below, swapped, moved, with_moved, computed, compute_two, convert_one, jumps_if, branch, switch, return_top, unlock}
use Rattle.dj_model.specs.trusted.Kinds.{Signature, Kinds, depth}
use Rattle.dj_model.specs.trusted.Shape.{is_kind, leaving, gives, store_kind, same_result, result_list, after}
use Rattle.dj_model.specs.Standing.{LocalsHave, Leaves, Keeps, IsAmong}
use Rattle.dj_model.proofs.MappedNames.{either}
use Rattle.dj_model.proofs.Flows.{either_way}
use Rattle.dj_model.proofs.Standing.{some_if, same_kind_is, of_kind, HasLocal, local_has, replace_has, stored_has, stored_length, Gives, gives_parts}

-- ---- stack operations move kinds as they move values

abbrev cut_map : Option (Cut Value) → Option (Cut Kind)
cut_map None = None
cut_map (Some cut) = Some (record { top = map value_kind cut.top; rest = map value_kind cut.rest })

one_mapped : (vs : List Value) → one_slot is_wide (map value_kind vs) ≡ cut_map (one_slot is_long vs)
one_mapped [] = refl
one_mapped (v ∷ rest) = elim (either (is_long v)) [ inl e ↦ rw e refl | inr e ↦ rw e refl ]

on_top_mapped : (v : Value) (cut : Option (Cut Value)) → on_top (value_kind v) (cut_map cut) ≡ cut_map (on_top v cut)
on_top_mapped v None = refl
on_top_mapped v (Some cut) = refl

two_mapped : (vs : List Value) → two_slots is_wide (map value_kind vs) ≡ cut_map (two_slots is_long vs)
two_mapped [] = refl
two_mapped (v ∷ rest) = rw (one_mapped rest, on_top_mapped v (one_slot is_long rest)) (elim (either (is_long v)) [ inl e ↦ rw e refl | inr e ↦ rw e refl ])

dropped_mapped : (cut : Option (Cut Value)) → dropped (cut_map cut) ≡ option_map (map value_kind) (dropped cut)
dropped_mapped None = refl
dropped_mapped (Some cut) = refl

three_mapped : (a b c : List Value) → map value_kind (a ++ b ++ c) ≡ map value_kind a ++ map value_kind b ++ map value_kind c
three_mapped a b c = map-append value_kind (a ++ b) c ∙ ap (λ l. l ++ map value_kind c) (map-append value_kind a b)

doubled_mapped : (cut : Option (Cut Value)) → doubled (cut_map cut) ≡ option_map (map value_kind) (doubled cut)
doubled_mapped None = refl
doubled_mapped (Some cut) = ap Some (sym (three_mapped cut.top cut.top cut.rest))

under_mapped : (top : List Value) (cut : Option (Cut Value)) → under (map value_kind top) (cut_map cut) ≡ option_map (map value_kind) (under top cut)
under_mapped top None = refl
under_mapped top (Some cut) = ap Some (sym (map-append value_kind (top ++ cut.top ++ top) cut.rest ∙ ap (λ l. l ++ map value_kind cut.rest) (three_mapped top cut.top top)))

under_one_mapped : (cut : Option (Cut Value)) → under_one is_wide (cut_map cut) ≡ option_map (map value_kind) (under_one is_long cut)
under_one_mapped None = refl
under_one_mapped (Some cut) = ap (under (map value_kind cut.top)) (one_mapped cut.rest) ∙ under_mapped cut.top (one_slot is_long cut.rest)

under_two_mapped : (cut : Option (Cut Value)) → under_two is_wide (cut_map cut) ≡ option_map (map value_kind) (under_two is_long cut)
under_two_mapped None = refl
under_two_mapped (Some cut) = ap (under (map value_kind cut.top)) (two_mapped cut.rest) ∙ under_mapped cut.top (two_slots is_long cut.rest)

below_mapped : (top : List Value) (cut : Option (Cut Value)) → below (map value_kind top) (cut_map cut) ≡ option_map (map value_kind) (below top cut)
below_mapped top None = refl
below_mapped top (Some cut) = ap Some (sym (three_mapped cut.top top cut.rest))

swapped_mapped : (cut : Option (Cut Value)) → swapped is_wide (cut_map cut) ≡ option_map (map value_kind) (swapped is_long cut)
swapped_mapped None = refl
swapped_mapped (Some cut) = ap (below (map value_kind cut.top)) (one_mapped cut.rest) ∙ below_mapped cut.top (one_slot is_long cut.rest)

moved_mapped : (operation : StackOperation) (vs : List Value) → moved is_wide operation (map value_kind vs) ≡ option_map (map value_kind) (moved is_long operation vs)
unfolding moved
moved_mapped Pop vs = ap dropped (one_mapped vs) ∙ dropped_mapped (one_slot is_long vs)
moved_mapped Pop2 vs = ap dropped (two_mapped vs) ∙ dropped_mapped (two_slots is_long vs)
moved_mapped Dup vs = ap doubled (one_mapped vs) ∙ doubled_mapped (one_slot is_long vs)
moved_mapped DupX1 vs = ap (under_one is_wide) (one_mapped vs) ∙ under_one_mapped (one_slot is_long vs)
moved_mapped DupX2 vs = ap (under_two is_wide) (one_mapped vs) ∙ under_two_mapped (one_slot is_long vs)
moved_mapped Dup2 vs = ap doubled (two_mapped vs) ∙ doubled_mapped (two_slots is_long vs)
moved_mapped Dup2X1 vs = ap (under_one is_wide) (two_mapped vs) ∙ under_one_mapped (two_slots is_long vs)
moved_mapped Dup2X2 vs = ap (under_two is_wide) (two_mapped vs) ∙ under_two_mapped (two_slots is_long vs)
moved_mapped Swap vs = ap (swapped is_wide) (one_mapped vs) ∙ swapped_mapped (one_slot is_long vs)

-- ---- what follows an instruction on values

abbrev pub SoundWay : Signature → Code → Instruction → Kinds → Kinds → List (Option Value) → List Value → Way → Type 0
SoundWay signature code i before after variables operands Next = Leaves code after variables operands × IsFalse (ends i)
SoundWay signature code i before after variables operands (To number) = Leaves code after variables operands × IsAmong (targets i) number
SoundWay signature code i before after variables operands (Raise raised) = Keeps code before variables
SoundWay signature code i before after variables operands (Back result) = IsTrue (ends i) × (option_map value_kind result ≡ signature.result)

pub record SoundValues (signature : Signature) (code : Code) (i : Instruction) (before after : Kinds) (v : Option Values) : Type 0 where
  pub does : Values
  pub has : v ≡ Some does
  pub sound : SoundWay signature code i before after does.locals does.operands does.way

number_kind : (kind : Kind) (z : ℤ) → value_kind (number_value kind z) ≡ kind
number_kind kinds.Int z = refl
number_kind kinds.Long z = refl
number_kind kinds.Ref z = refl

pub is_int : (v : Value) → value_kind v ≡ kinds.Int → (z : ℤ) × (v ≡ values.Int z)
is_int (values.Int z) e = (z, refl)
is_int (values.Long z) e = absurd cc
is_int (values.Ref r) e = absurd cc

pub is_reference : (v : Value) → value_kind v ≡ kinds.Ref → (r : ℕ) × (v ≡ values.Ref r)
is_reference (values.Int z) e = absurd cc
is_reference (values.Long z) e = absurd cc
is_reference (values.Ref r) e = (r, refl)

among_targets : (pairs : List (ℤ × ℕ)) (default : ℕ) (z : ℤ) → IsAmong (default ∷ map (λ pair. pair.1) pairs) (target_of pairs default z)
among_targets [] default z = inl refl
among_targets (pair ∷ pairs) default z = either_way (IsAmong (default ∷ map (λ pair. pair.1) (pair ∷ pairs))) (same_number pair.0 z) _ _ (inr (inl refl)) (later (among_targets pairs default z)) where
  later : IsAmong (default ∷ map (λ pair. pair.1) pairs) (target_of pairs default z) → IsAmong (default ∷ map (λ pair. pair.1) (pair ∷ pairs)) (target_of pairs default z)
  later (inl e) = inl e
  later (inr e) = inr (inr e)

module _ (signature : Signature) (code : Code) (k after_kinds : Kinds) (variables : List (Option Value)) (h : LocalsHave variables k.locals) (room : length variables ≡ code.max_locals) where
  -- the local variables stay, and these operands are left
  pub left_with : (operands : List Value) → k.locals ≡ after_kinds.locals → map value_kind operands ≡ after_kinds.stack → Leaves code after_kinds variables operands
  left_with operands locals stack = record { kinds = record { locals = subst (LocalsHave variables) locals h; operands = stack }; room = room }

  keeps : Keeps code k variables
  keeps = record { kinds = h; room = room }

  pub nothing_taken : (i : Instruction) (operands : List Value) → IsFalse (ends i) → Gives k operands [] None after_kinds
      → SoundValues signature code i k after_kinds (Some (left variables operands Next))
  nothing_taken i operands goes g = record { does = left variables operands Next; has = refl; sound = (left_with operands g.locals (g.takes ∙ g.stack), goes) }

  pub push_sound : (i : Instruction) (v : Value) (operands : List Value) (kind : Kind) → value_kind v ≡ kind → IsFalse (ends i) → Gives k operands [] (Some kind) after_kinds
      → SoundValues signature code i k after_kinds (Some (pushed variables operands v))
  push_sound i v operands kind is goes g = record {
    does = pushed variables operands v;
    has = refl;
    sound = (left_with (v ∷ operands) g.locals ((λ j. is j ∷ g.takes j) ∙ g.stack), goes);
  }

  pub load_sound : (kind : Kind) (slot : ℕ) (operands : List Value) → HasLocal variables slot kind → Gives k operands [] (Some kind) after_kinds
      → SoundValues signature code (Load kind slot) k after_kinds (load_value variables operands kind (local_at variables slot))
  load_sound kind slot operands l g = rw (l.found, of_kind kind l.value l.kind_is) (push_sound (Load kind slot) l.value operands kind l.kind_is refl g)

  pub compute_sound : (operation : BinaryOperation) (operands : List Value) → Gives k operands (right_kind operation ∷ left_kind operation ∷ []) (Some (given_kind operation)) after_kinds
      → SoundValues signature code (Compute operation) k after_kinds (compute_two variables operation operands)
  compute_sound operation [] g = absurd g.takes
  compute_sound operation (b ∷ []) g = absurd g.takes.1
  compute_sound operation (b ∷ (a ∷ rest)) g =
      rw (of_kind (right_kind operation) b g.takes.0, of_kind (left_kind operation) a g.takes.1.0)
      (by (compute operation (value_number a) (value_number b))) where
        by : (r : Result ℤ Raised) → SoundValues signature code (Compute operation) k after_kinds (Some (computed variables (b ∷ (a ∷ rest)) rest (given_kind operation) r))
        by (Ok z) = record {
          does = pushed variables rest (number_value (given_kind operation) z);
          has = refl;
          sound = (left_with _ g.locals ((λ j. number_kind (given_kind operation) z j ∷ g.takes.1.1 j) ∙ g.stack), refl);
        }
        by (Err raised) = record { does = left variables (b ∷ (a ∷ rest)) (Raise raised); has = refl; sound = keeps }

  pub convert_sound : (operation : UnaryOperation) (operands : List Value) → Gives k operands (taken_kind operation ∷ []) (Some (converted_kind operation)) after_kinds
      → SoundValues signature code (Convert operation) k after_kinds (convert_one variables operation operands)
  convert_sound operation [] g = absurd g.takes
  convert_sound operation (a ∷ rest) g = rw (of_kind (taken_kind operation) a g.takes.0) (record {
    does = pushed variables rest (number_value (converted_kind operation) (convert operation (value_number a)));
    has = refl;
    sound = (left_with _ g.locals ((λ j. number_kind (converted_kind operation) (convert operation (value_number a)) j ∷ g.takes.1 j) ∙ g.stack), refl);
  })

  jump_sound : (test : Test) (target : ℕ) (rest : List Value) (b : Bool) → k.locals ≡ after_kinds.locals → map value_kind rest ≡ after_kinds.stack
      → SoundValues signature code (Branch test target) k after_kinds (Some (jumps_if variables rest b target))
  jump_sound test target rest true locals stack = record { does = left variables rest (To target); has = refl; sound = (left_with rest locals stack, inl refl) }
  jump_sound test target rest false locals stack = record { does = left variables rest Next; has = refl; sound = (left_with rest locals stack, refl) }

  pub branch_sound : (test : Test) (target : ℕ) (operands : List Value) → Gives k operands (tested_kinds test) None after_kinds
      → SoundValues signature code (Branch test target) k after_kinds (branch variables test target operands)
  branch_sound (WithZero condition) target (values.Int a ∷ rest) g = jump_sound (WithZero condition) target rest (holds condition a (pos 0)) g.locals (g.takes.1 ∙ g.stack)
  branch_sound (WithZero condition) target (values.Long a ∷ rest) g = absurd (let e = g.takes.0 in cc)
  branch_sound (WithZero condition) target (values.Ref a ∷ rest) g = absurd (let e = g.takes.0 in cc)
  branch_sound (WithZero condition) target [] g = absurd g.takes
  branch_sound (OfInts condition) target (values.Int b ∷ (values.Int a ∷ rest)) g = jump_sound (OfInts condition) target rest (holds condition a b) g.locals (g.takes.1.1 ∙ g.stack)
  branch_sound (OfInts condition) target (values.Int b ∷ (values.Long a ∷ rest)) g = absurd (let e = g.takes.1.0 in cc)
  branch_sound (OfInts condition) target (values.Int b ∷ (values.Ref a ∷ rest)) g = absurd (let e = g.takes.1.0 in cc)
  branch_sound (OfInts condition) target (values.Int b ∷ []) g = absurd g.takes.1
  branch_sound (OfInts condition) target (values.Long b ∷ rest) g = absurd (let e = g.takes.0 in cc)
  branch_sound (OfInts condition) target (values.Ref b ∷ rest) g = absurd (let e = g.takes.0 in cc)
  branch_sound (OfInts condition) target [] g = absurd g.takes
  branch_sound (OfReferences same) target (values.Ref b ∷ (values.Ref a ∷ rest)) g = jump_sound (OfReferences same) target rest (agrees same (nat_eq a b)) g.locals (g.takes.1.1 ∙ g.stack)
  branch_sound (OfReferences same) target (values.Ref b ∷ (values.Long a ∷ rest)) g = absurd (let e = g.takes.1.0 in cc)
  branch_sound (OfReferences same) target (values.Ref b ∷ (values.Int a ∷ rest)) g = absurd (let e = g.takes.1.0 in cc)
  branch_sound (OfReferences same) target (values.Ref b ∷ []) g = absurd g.takes.1
  branch_sound (OfReferences same) target (values.Long b ∷ rest) g = absurd (let e = g.takes.0 in cc)
  branch_sound (OfReferences same) target (values.Int b ∷ rest) g = absurd (let e = g.takes.0 in cc)
  branch_sound (OfReferences same) target [] g = absurd g.takes
  branch_sound (OfNull null) target (values.Ref a ∷ rest) g = jump_sound (OfNull null) target rest (agrees null (nat_eq a 0)) g.locals (g.takes.1 ∙ g.stack)
  branch_sound (OfNull null) target (values.Long a ∷ rest) g = absurd (let e = g.takes.0 in cc)
  branch_sound (OfNull null) target (values.Int a ∷ rest) g = absurd (let e = g.takes.0 in cc)
  branch_sound (OfNull null) target [] g = absurd g.takes

  pub switch_sound : (pairs : List (ℤ × ℕ)) (default : ℕ) (operands : List Value) → Gives k operands (kinds.Int ∷ []) None after_kinds
      → SoundValues signature code (Switch pairs default) k after_kinds (switch variables pairs default operands)
  switch_sound pairs default (values.Int z ∷ rest) g = record {
    does = left variables rest (To (target_of pairs default z));
    has = refl;
    sound = (left_with rest g.locals (g.takes.1 ∙ g.stack), among_targets pairs default z);
  }
  switch_sound pairs default (values.Long z ∷ rest) g = absurd (let e = g.takes.0 in cc)
  switch_sound pairs default (values.Ref r ∷ rest) g = absurd (let e = g.takes.0 in cc)
  switch_sound pairs default [] g = absurd g.takes

  pub unlock_sound : (operands : List Value) → Gives k operands (kinds.Ref ∷ []) None after_kinds
      → SoundValues signature code Monitor k after_kinds (unlock variables operands)
  unlock_sound (values.Ref r ∷ rest) g = record { does = left variables rest Next; has = refl; sound = (left_with rest g.locals (g.takes.1 ∙ g.stack), refl) }
  unlock_sound (values.Int z ∷ rest) g = absurd (let e = g.takes.0 in cc)
  unlock_sound (values.Long z ∷ rest) g = absurd (let e = g.takes.0 in cc)
  unlock_sound [] g = absurd g.takes

  pub return_sound : (kind : Option Kind) (operands : List Value) → same_result kind signature.result ≡ true → Gives k operands (result_list kind) None after_kinds
      → SoundValues signature code (Return kind) k after_kinds (return_top variables kind operands)
  return_sound None operands same g = record { does = left variables operands (Back None); has = refl; sound = (refl, none signature.result same) } where
    none : (result : Option Kind) → same_result None result ≡ true → None ≡ result
    none None e = refl
    none (Some kind) e = absurd cc
  return_sound (Some kind) [] same g = absurd g.takes
  return_sound (Some kind) (v ∷ rest) same g = rw (of_kind kind v g.takes.0) (record {
    does = left variables rest (Back (Some v));
    has = refl;
    sound = (refl, ap Some g.takes.0 ∙ some signature.result same);
  }) where
    some : (result : Option Kind) → same_result (Some kind) result ≡ true → Some kind ≡ result
    some None e = absurd cc
    some (Some other) e = ap Some (same_kind_is kind other e)

  pub increment_sound : (slot : ℕ) (by : ℤ) (operands : List Value) → is_kind kinds.Int (local_at k.locals slot) ≡ true → Gives k operands [] None after_kinds
      → SoundValues signature code (Increment slot by) k after_kinds (increment variables operands slot by (local_at variables slot))
  increment_sound slot by operands is g =
      let l = local_has variables k.locals slot kinds.Int h is in
      let int = is_int l.value l.kind_is in
      rw (l.found, int.1) (record {
        does = left (set variables slot (Some (values.Int (int_wrap w32 (int.0 +ℤ by))))) operands Next;
        has = refl;
        sound = (
          record {
            kinds = record {
              locals = subst (LocalsHave (set variables slot (Some (values.Int (int_wrap w32 (int.0 +ℤ by)))))) g.locals
                  (replace_has variables k.locals slot (values.Int (int_wrap w32 (int.0 +ℤ by))) h is);
              operands = g.takes ∙ g.stack;
            };
            room = length-set variables slot (Some (values.Int (int_wrap w32 (int.0 +ℤ by)))) ∙ room;
          },
          refl,
        );
      })

  pub move_sound : (operation : StackOperation) (operands : List Value) → map value_kind operands ≡ k.stack → leaving code k.locals (moved is_wide operation k.stack) ≡ Some after_kinds
      → SoundValues signature code (Move operation) k after_kinds (with_moved variables (moved is_long operation operands))
  move_sound operation operands stack e = go (moved is_long operation operands) refl where
    go : (m : Option (List Value)) → moved is_long operation operands ≡ m → SoundValues signature code (Move operation) k after_kinds (with_moved variables m)
    go None is =
        let none : moved is_wide operation k.stack ≡ None = ap (moved is_wide operation) (sym stack) ∙ (moved_mapped operation operands ∙ ap (option_map (map value_kind)) is) in
        let no : None ≡ Some after_kinds = subst (λ m. leaving code k.locals m ≡ Some after_kinds) none e in absurd cc
    go (Some now) is =
        let some : moved is_wide operation k.stack ≡ Some (map value_kind now) = ap (moved is_wide operation) (sym stack) ∙ (moved_mapped operation operands ∙ ap (option_map (map value_kind)) is) in
        let there : leaving code k.locals (Some (map value_kind now)) ≡ Some after_kinds = subst (λ m. leaving code k.locals m ≡ Some after_kinds) some e in
        let parts = some_if (nat_le (depth (map value_kind now)) code.max_stack) (Some (record { locals = k.locals; stack = map value_kind now })) after_kinds there in
        let both : Some (record { locals = k.locals; stack = map value_kind now }) ≡ Some after_kinds = parts.1 in
        let same : record { locals = k.locals; stack = map value_kind now } ≡ after_kinds = cc in
        record { does = left variables now Next; has = refl; sound = (left_with now (ap (λ (x : Kinds). x.locals) same) (ap (λ (x : Kinds). x.stack) same), refl) }

  pub store_sound : (kind : Kind) (slot : ℕ) (operands : List Value) → map value_kind operands ≡ k.stack → store_kind code kind slot (gives code k (kind ∷ []) None) ≡ Some after_kinds
      → SoundValues signature code (Store kind slot) k after_kinds (store_top variables kind slot operands)
  store_sound kind slot operands stack e = go (gives code k (kind ∷ []) None) refl where
    top : (operands : List Value) (middle : Kinds) → Gives k operands (kind ∷ []) None middle → nat_lt (last_slot (is_wide kind) slot) code.max_locals ≡ true
        → record middle { locals = stored is_wide middle.locals slot kind } ≡ after_kinds
        → SoundValues signature code (Store kind slot) k after_kinds (store_top variables kind slot operands)
    top [] middle g fits same = absurd g.takes
    top (v ∷ rest) middle g fits same =
        let inside : nat_lt (last_slot (is_long v) slot) (length variables) ≡ true =
        subst (λ n. nat_lt (last_slot (is_long v) slot) n ≡ true) (sym room)
        (subst (λ w. nat_lt (last_slot w slot) code.max_locals ≡ true) (sym (ap is_wide g.takes.0)) fits) in
        rw (of_kind kind v g.takes.0, inside) (record {
          does = left (stored is_long variables slot v) rest Next;
          has = refl;
          sound = (
            record {
              kinds = record {
                locals = subst (LocalsHave (stored is_long variables slot v)) (ap (λ (x : Kinds). x.locals) same)
                    (stored_has variables middle.locals slot v kind g.takes.0 (subst (LocalsHave variables) g.locals h));
                operands = g.takes.1 ∙ (g.stack ∙ ap (λ (x : Kinds). x.stack) same);
              };
              room = stored_length variables slot v ∙ room;
            },
            refl,
          );
        })

    go : (m : Option Kinds) → gives code k (kind ∷ []) None ≡ m → SoundValues signature code (Store kind slot) k after_kinds (store_top variables kind slot operands)
    go None is = let no : None ≡ Some after_kinds = subst (λ m. store_kind code kind slot m ≡ Some after_kinds) is e in absurd cc
    go (Some middle) is =
        let there : store_kind code kind slot (Some middle) ≡ Some after_kinds = subst (λ m. store_kind code kind slot m ≡ Some after_kinds) is e in
        let parts = some_if (nat_lt (last_slot (is_wide kind) slot) code.max_locals) (Some (record middle { locals = stored is_wide middle.locals slot kind })) after_kinds there in
        let both : Some (record middle { locals = stored is_wide middle.locals slot kind }) ≡ Some after_kinds = parts.1 in
        let same : record middle { locals = stored is_wide middle.locals slot kind } ≡ after_kinds = cc in
        top operands middle (gives_parts code k operands (kind ∷ []) None middle stack is) parts.0 same
