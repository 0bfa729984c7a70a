-- Rewritten code is well formed, and links and catches what the code does.
use Rattle.std.proofs.Common.{◌≡◌, ℕ, zero, suc, ◌+◌, ◌-◌, ◌<◌, ◌≤◌, ◌&&◌, Bool, true, false, List, [], ◌∷◌, map, length, Option, Some, None, nat_eq, nat_lt, nat_le, slice_get, refl, sym, ap, subst, ◌∙◌, inl, inr, arith, Contains}
use Rattle.std.specs.Prelude.{bit_and}
use Rattle.std.specs.Int.{bit_at}
use Rattle.std.specs.Option.{option_map}
use Rattle.std.specs.List.{list_all}
use Rattle.std.proofs.lemmas.Nat.Bits.{bit_at_and}
use Rattle.std.proofs.lemmas.Bool.Decides.{nat_tests}
use Rattle.std.proofs.lemmas.Option.{slice_get_within}
use Rattle.dj_names.specs.declared.descriptor.Of.{Of}
use Rattle.dj_names.specs.declared.descriptor.Of.TheVariants as ofs
use Rattle.dj_names.specs.declared.descriptor.Ty.{Ty}
use Rattle.dj_names.specs.trusted.Types.{same_name, of_map}
use Rattle.dj_names.specs.Types.{in_sandbox, sandbox_prefix, type_map}
use Rattle.dj_ops.specs.declared.frames.Frame.{Frame}
use Rattle.dj_frames.specs.Moves.{moved_frame}
use Rattle.dj_model.specs.trusted.Types.{Member, string_name}
use Rattle.dj_model.specs.Types.{member_map}
use Rattle.dj_model.specs.trusted.Instructions.{Named, AClass, Instruction, GetStatic, PutStatic, GetField, PutField, Invoke, New, NewArray, CheckCast, InstanceOf, Other, targets}
use Rattle.dj_model.specs.Instructions.{named_map}
use Rattle.dj_model.specs.trusted.Program.{Program, Class, Code, Range, class_at, has_flag, is_static}
use Rattle.dj_model.specs.trusted.Linking.{FoundField, FoundMethod, most_classes, chain_of, resolve_field, resolve_method, member_class}
use Rattle.dj_model.specs.trusted.Shape.{is_static_mode}
use Rattle.dj_model.specs.Sound.{IsCode, is_there, is_class_of, is_field_found, is_method_found, is_field_linked, is_method_linked, is_new, is_linked, is_caught}
use Rattle.dj_model.proofs.MappedNames as names
use Rattle.dj_model.proofs.NameMaps.{sandbox_map}
use Rattle.dj_model.proofs.SoundLinks.{both_parts}
use Rattle.dj_model.proofs.SoundFrames.{all_at, contained}
use Rattle.dj_groups.specs.Groups.{Jumps, Invocations, Throws, Allocations, Arrays, Catches, Inserted, Copy, ObjectBytes, ElementBytes, Record, Group, inserted, group_at, groups_of, start, own, starts, owns, cut, is_some_range, pieces}
use Rattle.dj_groups.specs.Rewritten.{inserted_instruction, in_groups, rewritten_code}
use Rattle.dj_groups.specs.Laws.{is_in}
use Rattle.dj_groups.proofs.GroupLaws.{own_next}
use Rattle.dj_groups.proofs.WellFormed.{rises_strictly}
use Rattle.dj_sim.specs.Simulation.{part_at}
use Rattle.dj_sim.proofs.Places.{either, own_is, next_start, starts_follow, something_within}
use Rattle.dj_sim.proofs.Acts.{moved_to, regrouped_instruction, ranges_of, other, at, itself_at, part_there}
use Rattle.dj_sim_sound.proofs.Lists.{both, all_numbered, mapped_from, filter_passes}
use Rattle.dj_sim_sound.proofs.Befores.{targets_moved}
use Rattle.dj_sim_sound.proofs.StackMaps.{start_index}
use Rattle.dj_sim_sound.proofs.Holds.{InGroup, in_group, pieces_pass, piece_within, length_now}

-- ---- instructions

-- each instruction of rewritten code is one that is inserted, or one of the code itself
pub each_instruction : (program : Program) (code : Code) (test : Instruction → Bool) → ((x : Inserted) → test (inserted_instruction x) ≡ true)
    → ((k : ℕ) (i : Instruction) → slice_get code.instructions k ≡ Some i → test (regrouped_instruction (groups_of program code) i) ≡ true)
    → list_all test (rewritten_code program code).instructions ≡ true
each_instruction program code test part itself = all_numbered test (rewritten_code program code).instructions each where
  within : (n : ℕ) (i : Instruction) → slice_get (rewritten_code program code).instructions n ≡ Some i → InGroup (groups_of program code) (length code.instructions) n
  within n i there = in_group (groups_of program code) (length code.instructions) n
      (omega (arith, slice_get_within (rewritten_code program code).instructions n i there, length_now program code))

  of_part : (k j n : ℕ) (i : Instruction) → n ≡ start (groups_of program code) k + j → j < length (part_at (groups_of program code) k)
      → slice_get (rewritten_code program code).instructions n ≡ Some i → test i ≡ true
  of_part k j n i is l there =
      let found : slice_get (part_at (groups_of program code) k) j ≡ Some i = sym (part_there program code k j l) ∙ (ap (slice_get (rewritten_code program code).instructions) (sym is) ∙ there) in
      let m = mapped_from inserted_instruction (inserted (group_at (groups_of program code) k)) i (contained (part_at (groups_of program code) k) j i found) in
      subst (λ (y : Instruction). test y ≡ true) m.2 (part m.0)

  of_own : (k n : ℕ) (i : Instruction) → own (groups_of program code) k ≡ n → k < length code.instructions → slice_get (rewritten_code program code).instructions n ≡ Some i → test i ≡ true
  of_own k n i place l there =
      let first : (x : Instruction) × (slice_get code.instructions k ≡ Some x) = something_within code.instructions k l in
      let found : option_map (regrouped_instruction (groups_of program code)) (slice_get code.instructions k) ≡ Some i =
      sym (itself_at program code k) ∙ (ap (slice_get (rewritten_code program code).instructions) place ∙ there) in
      let some : Some (regrouped_instruction (groups_of program code) first.0) ≡ Some i = sym (ap (option_map (regrouped_instruction (groups_of program code))) first.1) ∙ found in
      let same : regrouped_instruction (groups_of program code) first.0 ≡ i = cc in
      subst (λ (y : Instruction). test y ≡ true) same (itself k first.0 first.1)

  each : (n : ℕ) (i : Instruction) → slice_get (rewritten_code program code).instructions n ≡ Some i → test i ≡ true
  each n i there =
      let r : InGroup (groups_of program code) (length code.instructions) n = within n i there in
      elim (either (nat_lt r.part (length (part_at (groups_of program code) r.group)))) [
        | inl e ↦ of_part r.group r.part n i r.is (grind (arith, nat_tests, e)) there
        | inr e ↦ let last : length (part_at (groups_of program code) r.group) ≤ r.part = grind (arith, nat_tests, e) in
            of_own r.group n i (omega (arith, last, r.within, r.is, own_is (groups_of program code) r.group)) r.below there
      ]

-- ---- well-formed code

inserted_still : (test : ℕ → Bool) (x : Inserted) → list_all test (targets (inserted_instruction x)) ≡ true
inserted_still test Copy = refl
inserted_still test (ObjectBytes n) = refl
inserted_still test (ElementBytes element) = refl
inserted_still test (Record Jumps) = refl
inserted_still test (Record Invocations) = refl
inserted_still test (Record Throws) = refl
inserted_still test (Record Allocations) = refl
inserted_still test (Record Arrays) = refl
inserted_still test (Record Catches) = refl

start_above : (gs : List Group) (k : ℕ) → k ≤ start gs k
start_above gs zero = omega arith
start_above gs (suc k) = omega (arith, start_above gs k, own_next gs k)

-- the end of a piece is at most where the group after the range's last instruction starts
piece_ends : (gs : List Group) (from end count : ℕ) (p : ℕ × ℕ) → from < end → end ≤ count → p.0 < p.1 → Contains (pieces gs from end) p → p.1 ≤ start gs count
piece_ends gs from end count p some low full there =
    let r : InGroup gs (suc (p.1 - 1)) (p.1 - 1) = in_group gs (suc (p.1 - 1)) (p.1 - 1) (omega (arith, start_above gs (suc (p.1 - 1)))) in
    let is : p.1 ≡ suc (start gs r.group + r.part) = omega (arith, r.is, full) in
    let over : is_in (start gs r.group + r.part) p ≡ true = grind (arith, nat_tests, is, full) in
    let inside = both_parts (nat_le from r.group) (nat_lt r.group end) (piece_within gs from end r.group r.part p some r.within there over) in
    let below : suc r.group ≤ end = grind (arith, nat_tests, inside.1) in
    omega (arith, is, r.within, own_is gs r.group, next_start gs r.group, starts_follow gs (suc r.group) count (omega (arith, below, low)))

module _ (program : Program) (code : Code) (formed : IsCode code) where
  abbrev gs : List Group
  gs = groups_of program code

  abbrev code_now : Code
  code_now = rewritten_code program code

  ranges_are : (test : Range → Bool) → list_all test (ranges_of gs code.ranges) ≡ true → (range : Range) → Contains code_now.ranges range → test range ≡ true
  unfolding rewritten_code in_groups
  ranges_are test all range there = all_at test (ranges_of gs code.ranges) range all there

  start_within : (k : ℕ) → k < length code.instructions → nat_lt (start gs k) (length code_now.instructions) ≡ true
  start_within k l = let rise : start gs k < start gs (length code.instructions) = rises_strictly gs k (length code.instructions) l in grind (arith, nat_tests, rise, length_now program code)

  targets_now : (ts : List ℕ) → list_all (λ target. nat_lt target (length code.instructions)) ts ≡ true → list_all (λ target. nat_lt target (length code_now.instructions)) (map (start gs) ts) ≡ true
  targets_now [] e = refl
  targets_now (t ∷ ts) e =
      let p = both_parts (nat_lt t (length code.instructions)) (list_all (λ target. nat_lt target (length code.instructions)) ts) e in
      both (nat_lt (start gs t) (length code_now.instructions)) (list_all (λ target. nat_lt target (length code_now.instructions)) (map (start gs) ts))
      (start_within t (grind (arith, nat_tests, p.0))) (targets_now ts p.1)

  all_targets : list_all (λ (i : Instruction). list_all (λ target. nat_lt target (length code_now.instructions)) (targets i)) code_now.instructions ≡ true
  all_targets =
      each_instruction program code (λ (i : Instruction). list_all (λ target. nat_lt target (length code_now.instructions)) (targets i))
      (inserted_still (λ target. nat_lt target (length code_now.instructions)))
      (λ k i there. rw (targets_moved (start gs) i) (targets_now (targets i) (formed.targets_within i (contained code.instructions k i there))))

  handler_now : (range : Range) → Contains code_now.ranges range → nat_lt range.handler (length code_now.instructions) ≡ true
  handler_now = ranges_are (λ (range : Range). nat_lt range.handler (length code_now.instructions))
      (pieces_pass gs (λ (range : Range). nat_lt range.handler (length code_now.instructions)) code.ranges (λ range c p d. start_within range.handler (formed.handlers_within range c)))

  range_now : (range : Range) → Contains code_now.ranges range → nat_lt range.start range.end && nat_le range.end (length code_now.instructions) ≡ true
  range_now = ranges_are (λ (range : Range). nat_lt range.start range.end && nat_le range.end (length code_now.instructions))
      (pieces_pass gs (λ (range : Range). nat_lt range.start range.end && nat_le range.end (length code_now.instructions)) code.ranges (λ range c p d.
      let some : nat_lt p.0 p.1 ≡ true = filter_passes is_some_range (cut gs (start gs range.start) range.start (range.end - range.start)) p d in
      let full : p.0 < p.1 = grind (arith, nat_tests, some) in
      let w = formed.ranges_within range c in
      let low : p.1 ≤ start gs (length code.instructions) = piece_ends gs range.start range.end (length code.instructions) p w.0 w.1 full d in
      both (nat_lt p.0 p.1) (nat_le p.1 (length code_now.instructions)) some (grind (arith, nat_tests, low, length_now program code))))

  frame_now : (frames : List Frame) → code_now.frames ≡ Some frames → (f : Frame) → Contains frames f → f.at < length code_now.instructions
  unfolding rewritten_code in_groups
  frame_now frames e f there = by code.frames refl e where
    by : (before : Option (List Frame)) → code.frames ≡ before → option_map (map (moved_frame (starts gs) (owns gs))) before ≡ Some frames → f.at < length code_now.instructions
    by None is e = absurd cc
    by (Some fs) is e =
        let same : map (moved_frame (starts gs) (owns gs)) fs ≡ frames = cc in
        let m = mapped_from (moved_frame (starts gs) (owns gs)) fs f (subst (λ (l : List Frame). Contains l f) (sym same) there) in
        let small : m.0.at < length code.instructions = formed.frames_within fs is m.0 m.1 in
        let place : f.at ≡ start gs m.0.at = sym (ap (λ (g : Frame). g.at) m.2) ∙ start_index program code m.0.at (omega (arith, small)) in
        omega (arith, place, rises_strictly gs m.0.at (length code.instructions) small, length_now program code)

  pub formed_now : IsCode code_now
  formed_now = record {
    some = omega (arith, length_now program code, rises_strictly gs 0 (length code.instructions) formed.some);
    targets_within = λ i there. all_at (λ (i : Instruction). list_all (λ target. nat_lt target (length code_now.instructions)) (targets i)) code_now.instructions i all_targets there;
    handlers_within = λ range there. below (handler_now range there);
    ranges_within = λ range there. let p = both_parts (nat_lt range.start range.end) (nat_le range.end (length code_now.instructions)) (range_now range there) in (below p.0, at_most p.1);
    frames_within = frame_now;
  } where
    below : {m n : ℕ} → nat_lt m n ≡ true → m < n
    below {m = m} {n = n} e = grind (arith, nat_tests, e)

    at_most : {m n : ℕ} → nat_le m n ≡ true → m ≤ n
    at_most {m = m} {n = n} e = grind (arith, nat_tests, e)

-- ---- what operands and catch types name

flag_kept : (flags bit : ℕ) → bit_at 65503 bit ≡ 1 → has_flag bit (bit_and flags 65503) ≡ has_flag bit flags
flag_kept flags bit on = ap (λ b. nat_eq b 1) (let e = bit_at_and flags 65503 bit in omega (arith, e, on))

pub static_kept : (flags : ℕ) → is_static (bit_and flags 65503) ≡ is_static flags
static_kept flags = flag_kept flags 3 refl

module _ (program : Program) where
  there_alike : (of : Of) (dims : ℕ) → is_there (other program) (of_map in_sandbox of) dims ≡ is_there program of dims
  there_alike (ofs.Base base) dims = refl
  there_alike (ofs.Class name) dims = by (class_at program name) refl where
    by : (c : Option Class) → class_at program name ≡ c → is_there (other program) (ofs.Class (in_sandbox name)) dims ≡ is_there program (ofs.Class name) dims
    by None e = rw (at program name, e) refl
    by (Some c) e = rw (at program name, e) refl

  class_alike : (ty : Ty) → is_class_of (other program) (type_map in_sandbox ty) ≡ is_class_of program ty
  class_alike ty = there_alike ty.of ty.dims

  found_field_alike : (static : Bool) (found : Option FoundField)
      → is_field_found static (option_map (names.found_field_map in_sandbox (rewritten_code program) [] sandbox_prefix sandbox_map) found) ≡ is_field_found static found
  found_field_alike static None = refl
  found_field_alike static (Some found) = refl

  found_method_alike : (static : Bool) (found : Option FoundMethod)
      → is_method_found static (option_map (names.found_map in_sandbox (rewritten_code program) [] sandbox_prefix sandbox_map) found) ≡ is_method_found static found
  found_method_alike static None = refl
  found_method_alike static (Some found) = rw (static_kept found.method.flags) refl

  field_alike : (static : Bool) (m : Member) → is_field_linked (other program) sandbox_prefix static (member_map in_sandbox m) ≡ is_field_linked program [] static m
  field_alike static m =
      rw (
        class_alike m.class,
        names.resolve_field_mapped in_sandbox (rewritten_code program) [] sandbox_prefix sandbox_map program (other program) (at program) m,
        found_field_alike static (resolve_field program [] m),
      ) refl

  method_alike : (static : Bool) (m : Member) → is_method_linked (other program) sandbox_prefix static (member_map in_sandbox m) ≡ is_method_linked program [] static m
  method_alike static m =
      rw (
        class_alike m.class,
        names.resolve_method_mapped in_sandbox (rewritten_code program) [] sandbox_prefix sandbox_map program (other program) (at program) m,
        found_method_alike static (resolve_method program [] m),
      ) refl

  new_alike : (ty : Ty) → is_new (other program) sandbox_prefix (type_map in_sandbox ty) ≡ is_new program [] ty
  new_alike ty =
      let text : same_name (in_sandbox (member_class [] ty)) (string_name sandbox_prefix) ≡ same_name (member_class [] ty) (string_name []) =
      names.same_names in_sandbox (rewritten_code program) [] sandbox_prefix sandbox_map (member_class [] ty) (string_name []) in
      rw (class_alike ty, names.member_class_mapped in_sandbox (rewritten_code program) [] sandbox_prefix sandbox_map ty, text, sandbox_map.stop ty) refl

  linked_moved : (place : ℕ → ℕ) (i : Instruction) → is_linked program [] i ≡ true → is_linked (other program) sandbox_prefix (moved_to place i) ≡ true
  unfolding is_linked
  linked_moved place (GetStatic m) e = field_alike true m ∙ e
  linked_moved place (PutStatic m) e = field_alike true m ∙ e
  linked_moved place (GetField m) e = field_alike false m ∙ e
  linked_moved place (PutField m) e = field_alike false m ∙ e
  linked_moved place (Invoke mode m) e = method_alike (is_static_mode mode) m ∙ e
  linked_moved place (New class) e = new_alike class ∙ e
  linked_moved place (NewArray class element) e = rw (class_alike class) e
  linked_moved place (CheckCast class) e = class_alike class ∙ e
  linked_moved place (InstanceOf class) e = class_alike class ∙ e
  linked_moved place (Other op named) e = absurd cc
  linked_moved place i e = refl

  -- the accounter has the methods that are called
  inserted_linked : (x : Inserted) → is_linked (other program) sandbox_prefix (inserted_instruction x) ≡ true
  unfolding is_linked resolve_method most_classes chain_of
  inserted_linked Copy = refl
  inserted_linked (ObjectBytes n) = refl
  inserted_linked (ElementBytes element) = refl
  inserted_linked (Record Jumps) = refl
  inserted_linked (Record Invocations) = refl
  inserted_linked (Record Throws) = refl
  inserted_linked (Record Allocations) = refl
  inserted_linked (Record Arrays) = refl
  inserted_linked (Record Catches) = refl

  pub code_linked : (code : Code) → list_all (is_linked program []) code.instructions ≡ true → list_all (is_linked (other program) sandbox_prefix) (rewritten_code program code).instructions ≡ true
  code_linked code all = each_instruction program code (is_linked (other program) sandbox_prefix) inserted_linked
      (λ k i there. linked_moved (start (groups_of program code)) i (all_at (is_linked program []) code.instructions i all (contained code.instructions k i there)))

  caught_alike : (named : Option Named) → is_caught program named ≡ true → is_caught (other program) (option_map (named_map in_sandbox) named) ≡ true
  caught_alike None e = refl
  caught_alike (Some (AClass class)) e = class_alike class ∙ e
  caught_alike (Some named) e = absurd cc

  pub code_caught : (code : Code) → list_all (λ (range : Range). is_caught program range.catches) code.ranges ≡ true
      → list_all (λ (range : Range). is_caught (other program) range.catches) (rewritten_code program code).ranges ≡ true
  unfolding rewritten_code in_groups
  code_caught code all = pieces_pass (groups_of program code) (λ (range : Range). is_caught (other program) range.catches) code.ranges
      (λ range c p d. caught_alike range.catches (all_at (λ (r : Range). is_caught program r.catches) code.ranges range all c))
