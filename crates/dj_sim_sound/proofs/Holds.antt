-- Each instruction of rewritten code holds where each of the code does.
use Rattle.std.proofs.Common.{◌≡◌, ℕ, zero, suc, ◌+◌, ◌-◌, ◌<◌, ◌≤◌, ◌||◌, not, Bool, true, false, List, [], ◌∷◌, map, length, Option, Some, None, nat_eq, nat_lt, refl, sym, ap, subst, ◌∙◌, inl, inr, arith, Contains}
use Rattle.std.specs.Option.{option_map}
use Rattle.std.specs.List.{list_all}
use Rattle.std.proofs.lemmas.List.{length-map}
use Rattle.std.proofs.lemmas.Bool.Decides.{nat_tests}
use Rattle.dj_names.specs.declared.descriptor.Kind.{Kind}
use Rattle.dj_names.specs.declared.descriptor.Kind.TheVariants as kinds
use Rattle.dj_names.specs.Types.{in_sandbox}
use Rattle.dj_model.specs.trusted.Instructions.{Instruction, ends, targets}
use Rattle.dj_model.specs.Instructions.{instruction_map}
use Rattle.dj_model.specs.trusted.Program.{Program, Code, Range}
use Rattle.dj_model.specs.Program.{range_map}
use Rattle.dj_model.specs.trusted.Kinds.{Signature, Kinds, Placed, Map, Read, Faulty, NoMap, map_of, placed_at}
use Rattle.dj_model.specs.trusted.Shape.{first_kinds, after, locals_flow_to, flows_to, flows_to_frame, is_handler_frame, state_before, covers, HoldsAt}
use Rattle.dj_model.specs.Shape.{AllHold, HasShape}
use Rattle.dj_model.specs.Runs.{starts_handler}
use Rattle.dj_model.specs.Sound.{IsCode}
use Rattle.dj_model.proofs.SoundLinks.{both_parts, later}
use Rattle.dj_model.proofs.SoundFrames.{all_at}
use Rattle.dj_groups.specs.Groups.{Group, inserted, group_at, groups_of, start, own, pieces}
use Rattle.dj_groups.specs.Rewritten.{inserted_instruction, own_instruction, range_pieces, in_groups, rewritten_code}
use Rattle.dj_groups.specs.Laws.{is_in, keeps}
use Rattle.dj_groups.proofs.GroupLaws.{in_pieces, start_zero}
use Rattle.dj_groups.proofs.WellFormed.{length_regrouped, rises_strictly}
use Rattle.dj_sim.specs.Simulation.{part_at}
use Rattle.dj_sim.proofs.Places.{either, own_is, next_start, starts_follow}
use Rattle.dj_sim.proofs.Acts.{regrouped_instruction, piece_of, ranges_of, as_many_groups, group_there, itself_at}
use Rattle.dj_sim.proofs.SoundTurns.{handler_stack}
use Rattle.dj_sim_sound.proofs.Lists.{or_right, first_or, not_or, implied, all_from, all_append, any_from, some_of_all, mapped_from}
use Rattle.dj_sim_sound.proofs.Shapes.{after_more}
use Rattle.dj_sim_sound.proofs.Befores.{at_start, same_start, placed_start, not_start, placed_inside, PassesAll, PassedAt, passed_at, ends_alike, targets_moved, stands_group, own_before, start_before}
use Rattle.dj_sim_sound.proofs.Fits.{Fits, placed_fits, state_fits}
use Rattle.dj_sim_sound.proofs.StackMaps.{Moved, map_moved}
use Rattle.dj_sim_sound.proofs.Inserted.{group_passes}

-- ---- numbers

-- a number is in the group of an instruction
pub record InGroup (gs : List Group) (count n : ℕ) : Type 0 where
  pub group : ℕ
  pub part : ℕ
  pub below : group < count
  pub within : part ≤ length (part_at gs group)
  pub is : n ≡ start gs group + part

pub in_group : (gs : List Group) (count n : ℕ) → n < start gs count → InGroup gs count n
in_group gs zero n l = absurd (omega (arith, l, start_zero gs))
in_group gs (suc m) n l = elim (either (nat_lt n (start gs m))) [
  | inl e ↦ let r = in_group gs m n (grind (arith, nat_tests, e)) in
      record { group = r.group; part = r.part; below = omega (arith, r.below); within = r.within; is = r.is }
  | inr e ↦ let low : start gs m ≤ n = grind (arith, nat_tests, e) in
      record { group = m; part = n - start gs m; below = omega arith; within = omega (arith, l, low, next_start gs m, own_is gs m); is = omega (arith, low) }
]

-- ---- ranges

-- each piece of a range, with the handler's new place, passes
pub pieces_pass : (gs : List Group) (test : Range → Bool) (ranges : List Range)
    → ((range : Range) → Contains ranges range → (p : ℕ × ℕ) → Contains (pieces gs range.start range.end) p → test (piece_of gs (range_map in_sandbox range) p) ≡ true)
    → list_all test (ranges_of gs ranges) ≡ true
pieces_pass gs test [] each = refl
pieces_pass gs test (range ∷ ranges) each =
    all_append test (range_pieces gs (range_map in_sandbox range)) (ranges_of gs ranges)
    (all_from test (range_pieces gs (range_map in_sandbox range)) one)
    (pieces_pass gs test ranges (λ r c. each r (later r range ranges c))) where
      one : (x : Range) → Contains (range_pieces gs (range_map in_sandbox range)) x → test x ≡ true
      one x c =
          let m = mapped_from (piece_of gs (range_map in_sandbox range)) (pieces gs range.start range.end) x c in
          subst (λ (y : Range). test y ≡ true) m.2 (each range (zero, omega arith, refl) m.0 m.1)

-- a piece has numbers of groups of the range's instructions alone
pub piece_within : (gs : List Group) (from end k j : ℕ) (p : ℕ × ℕ) → from < end → j ≤ length (part_at gs k) → Contains (pieces gs from end) p → is_in (start gs k + j) p ≡ true → is_in k (from, end) ≡ true
piece_within gs from end k j p some within there over =
    let g : Group = group_at gs k in
    let small : j < length (inserted g) + 1 = omega (arith, within, length-map (inserted g) inserted_instruction) in
    (both_parts (is_in k (from, end)) (keeps gs k j) (sym (in_pieces gs from end k j some small) ∙ any_from (is_in (start gs k + j)) (pieces gs from end) p there over)).0

-- whether kinds flow into those of a frame depends on the local variables alone
flow_alike : (a b : Kinds) (o : Option Kinds) → a.locals ≡ b.locals → locals_flow_to b o ≡ true → locals_flow_to a o ≡ true
flow_alike a b None same e = refl
flow_alike a b (Some reported) same e = rw same e

-- ---- the instructions of rewritten code

pub length_now : (program : Program) (code : Code) → length (rewritten_code program code).instructions ≡ start (groups_of program code) (length code.instructions)
unfolding rewritten_code in_groups
length_now program code =
    length_regrouped inserted_instruction (own_instruction (start (groups_of program code))) (groups_of program code) (map (instruction_map in_sandbox) code.instructions)
    (as_many_groups program code ∙ sym (length-map code.instructions (instruction_map in_sandbox)))
    ∙ ap (start (groups_of program code)) (as_many_groups program code)

module _ (signature : Signature) (program : Program) (code : Code) (placed : List Placed) (formed : IsCode code)
    (fits : (number : ℕ) (reported : Kinds) → placed_at placed number ≡ Some reported → Fits code reported)
    (holds : (k : ℕ) → k < length code.instructions → HoldsAt signature code placed k) where
  abbrev gs : List Group
  gs = groups_of program code

  abbrev code_now : Code
  code_now = rewritten_code program code

  abbrev placed_now : List Placed
  placed_now = map (at_start (groups_of program code)) placed

  ranges_now : (test : Range → Bool) → list_all test (ranges_of gs code.ranges) ≡ true → list_all test code_now.ranges ≡ true
  unfolding rewritten_code in_groups
  ranges_now test e = e

  arrived : (k : ℕ) (h : HoldsAt signature code placed k) → starts_handler (Some code) k ≡ true → (rest : List Kind) × (h.before.stack ≡ kinds.Ref ∷ rest)
  arrived k h e = (
    [],
    handler_stack signature code placed k h.before
        (some_of_all (λ (range : Range). nat_eq k range.handler) (is_handler_frame (placed_at placed k)) code.ranges e h.handles) h.state,
  )

  part_passes : (k : ℕ) (b : Kinds) → k < length code.instructions → state_before signature code placed k ≡ Some b → PassesAll signature code_now (part_at gs k) b b
  unfolding rewritten_code in_groups
  part_passes k b l state =
      let h : HoldsAt signature code placed k = holds k l in
      let both_are : Some h.before ≡ Some b = sym h.state ∙ state in
      let same : h.before ≡ b = cc in
      subst (λ (c : Kinds). PassesAll signature code_now (part_at gs k) c c) same
      (subst (λ (g : Group). PassesAll signature code_now (map inserted_instruction (inserted g)) h.before h.before) (sym (group_there program code k h.instruction h.at))
      (group_passes signature code code_now refl program (starts_handler (Some code) k) h.instruction h.before h.left (arrived k h)
      (state_fits signature code placed fits k h.before h.state) h.found))

  -- ---- conditions that each instruction of a group has

  begins_now : flows_to (first_kinds signature code_now) (placed_at placed_now 0) ≡ true
  unfolding rewritten_code in_groups
  begins_now = rw (ap (placed_at placed_now) (sym (start_zero gs)) ∙ placed_start gs placed 0) (holds 0 formed.some).begins

  handles_now : (k j : ℕ) → k < length code.instructions → j ≤ length (part_at gs k)
      → list_all (λ (range : Range). not (nat_eq (start gs k + j) range.handler) || is_handler_frame (placed_at placed_now (start gs k + j))) code_now.ranges ≡ true
  handles_now k zero l m =
      let e : start gs k ≡ start gs k + 0 = omega arith in
      subst (λ (n : ℕ). list_all (λ (range : Range). not (nat_eq n range.handler) || is_handler_frame (placed_at placed_now n)) code_now.ranges ≡ true) e
      (ranges_now (λ (range : Range). not (nat_eq (start gs k) range.handler) || is_handler_frame (placed_at placed_now (start gs k)))
      (pieces_pass gs (λ (range : Range). not (nat_eq (start gs k) range.handler) || is_handler_frame (placed_at placed_now (start gs k))) code.ranges (λ range c p d.
      rw (same_start gs k range.handler, placed_start gs placed k)
      (all_at (λ (r : Range). not (nat_eq k r.handler) || is_handler_frame (placed_at placed k)) code.ranges range (holds k l).handles c))))
  handles_now k (suc j) l m =
      ranges_now (λ (range : Range). not (nat_eq (start gs k + suc j) range.handler) || is_handler_frame (placed_at placed_now (start gs k + suc j)))
      (pieces_pass gs (λ (range : Range). not (nat_eq (start gs k + suc j) range.handler) || is_handler_frame (placed_at placed_now (start gs k + suc j))) code.ranges (λ range c p d.
      let other : nat_eq (start gs range.handler) (start gs k + suc j) ≡ false = not_start gs range.handler k (suc j) (omega arith) (omega (arith, m, next_start gs k, own_is gs k)) in
      let turned : nat_eq (start gs k + suc j) (start gs range.handler) ≡ false = grind (arith, nat_tests, other) in
      rw turned refl))

  handled_now : (k j : ℕ) (b : Kinds) (l : k < length code.instructions) → j ≤ length (part_at gs k) → b.locals ≡ (holds k l).before.locals
      → list_all (λ (range : Range). not (covers range (start gs k + j)) || locals_flow_to b (placed_at placed_now range.handler)) code_now.ranges ≡ true
  handled_now k j b l m same =
      ranges_now (λ (range : Range). not (covers range (start gs k + j)) || locals_flow_to b (placed_at placed_now range.handler))
      (pieces_pass gs (λ (range : Range). not (covers range (start gs k + j)) || locals_flow_to b (placed_at placed_now range.handler)) code.ranges (λ range c p d.
      implied (is_in (start gs k + j) p) (locals_flow_to b (placed_at placed_now (start gs range.handler))) (λ over.
      rw (placed_start gs placed range.handler)
      (flow_alike b (holds k l).before (placed_at placed range.handler) same
      (not_or (covers range k) (locals_flow_to (holds k l).before (placed_at placed range.handler))
      (all_at (λ (r : Range). not (covers r k) || locals_flow_to (holds k l).before (placed_at placed r.handler)) code.ranges range (holds k l).handled c)
      (piece_within gs range.start range.end k j p (formed.ranges_within range c).0 m d over))))))

  -- ---- what is inserted

  part_holds : (k j : ℕ) → k < length code.instructions → j < length (part_at gs k) → HoldsAt signature code_now placed_now (start gs k + j)
  part_holds k j l m =
      let h : HoldsAt signature code placed k = holds k l in
      let p : PassedAt signature code_now placed_now (start gs k + j) h.before.locals =
      passed_at signature code_now placed_now (part_at gs k) (start gs k) h.before h.before (stands_group signature program code placed k)
      (start_before signature program code placed holds part_passes k l ∙ h.state) (part_passes k h.before l h.state) j m in
      let more : suc (start gs k + j) < start gs (suc k) = omega (arith, m, next_start gs k, own_is gs k) in
      let inside : nat_lt (suc (start gs k + j)) (length code_now.instructions) ≡ true = grind (arith, nat_tests, more, length_now program code, rises_upto (suc k) (omega (arith, l))) in
      let e : suc (start gs k + j) ≡ start gs k + suc j = omega arith in
      let none : placed_at placed_now (suc (start gs k + j)) ≡ None = ap (placed_at placed_now) e ∙ placed_inside gs placed k (suc j) (omega arith) (omega (arith, more)) in
      record {
        before = p.before;
        left = p.left;
        instruction = p.instruction;
        state = p.state;
        at = p.at;
        found = p.passes.found;
        last = or_right (ends p.instruction) _ inside;
        begins = or_right (not (nat_eq (start gs k + j) 0)) _ begins_now;
        goes_on = or_right (ends p.instruction) _ (rw none refl);
        jumps = rw p.passes.still refl;
        handles = handles_now k j l (omega (arith, m));
        handled = handled_now k j p.before l (omega (arith, m)) p.kept;
      } where
        rises_upto : (a : ℕ) → a ≤ length code.instructions → start gs a ≤ start gs (length code.instructions)
        rises_upto a l = starts_follow gs a (length code.instructions) l

  -- ---- the instruction itself

  targets_flow : (left : Kinds) (ts : List ℕ) → list_all (λ target. flows_to_frame left (placed_at placed target)) ts ≡ true
      → list_all (λ target. flows_to_frame left (placed_at placed_now target)) (map (start gs) ts) ≡ true
  targets_flow left [] e = refl
  targets_flow left (t ∷ ts) e =
      let p = both_parts (flows_to_frame left (placed_at placed t)) (list_all (λ target. flows_to_frame left (placed_at placed target)) ts) e in
      rw (placed_start gs placed t, p.0) (targets_flow left ts p.1)

  after_itself : (i : Instruction) (k left : Kinds) → after signature code i k ≡ Some left → after signature code_now (regrouped_instruction gs i) k ≡ Some left
  unfolding rewritten_code in_groups
  after_itself i k left e = after_more signature code code_now (omega arith) refl (start gs) i k left e

  own_holds : (k : ℕ) → k < length code.instructions → HoldsAt signature code_now placed_now (own gs k)
  own_holds k l =
      let h : HoldsAt signature code placed k = holds k l in
      let e : suc (own gs k) ≡ start gs (suc k) = omega (arith, next_start gs k) in
      let next : placed_at placed_now (suc (own gs k)) ≡ placed_at placed (suc k) = ap (placed_at placed_now) e ∙ placed_start gs placed (suc k) in
      let place : start gs k + length (part_at gs k) ≡ own gs k = sym (own_is gs k) in
      record {
        before = h.before;
        left = h.left;
        instruction = regrouped_instruction gs h.instruction;
        state = own_before signature program code placed holds part_passes k l (start_before signature program code placed holds part_passes k l) ∙ h.state;
        at = itself_at program code k ∙ ap (option_map (regrouped_instruction gs)) h.at;
        found = after_itself h.instruction h.before h.left h.found;
        last = rw (ends_alike (start gs) h.instruction) (elim (either (ends h.instruction)) [
          | inl ending ↦ rw ending refl
          | inr going ↦ or_right (ends h.instruction) _ (more (first_or (ends h.instruction) (nat_lt (suc k) (length code.instructions)) h.last going))
        ]);
        begins = or_right (not (nat_eq (own gs k) 0)) _ begins_now;
        goes_on = rw (ends_alike (start gs) h.instruction, next) h.goes_on;
        jumps = rw (targets_moved (start gs) h.instruction) (targets_flow h.left (targets h.instruction) h.jumps);
        handles = subst (λ (n : ℕ). list_all (λ (range : Range). not (nat_eq n range.handler) || is_handler_frame (placed_at placed_now n)) code_now.ranges ≡ true) place
            (handles_now k (length (part_at gs k)) l (omega arith));
        handled = subst (λ (n : ℕ). list_all (λ (range : Range). not (covers range n) || locals_flow_to h.before (placed_at placed_now range.handler)) code_now.ranges ≡ true) place
            (handled_now k (length (part_at gs k)) h.before l (omega arith) refl);
      } where
        more : nat_lt (suc k) (length code.instructions) ≡ true → nat_lt (suc (own gs k)) (length code_now.instructions) ≡ true
        more f =
            let within : suc k < length code.instructions = grind (arith, nat_tests, f) in
            let rise : start gs (suc k) < start gs (length code.instructions) = rises_strictly gs (suc k) (length code.instructions) within in
            grind (arith, nat_tests, rise, next_start gs k, length_now program code)

  pub all_hold : (n : ℕ) → n < length code_now.instructions → HoldsAt signature code_now placed_now n
  all_hold n l =
      let r : InGroup gs (length code.instructions) n = in_group gs (length code.instructions) n (omega (arith, l, length_now program code)) in
      elim (either (nat_lt r.part (length (part_at gs r.group)))) [
        | inl e ↦ subst (HoldsAt signature code_now placed_now) (sym r.is) (part_holds r.group r.part r.below (grind (arith, nat_tests, e)))
        | inr e ↦ let last : length (part_at gs r.group) ≤ r.part = grind (arith, nat_tests, e) in
            let place : own gs r.group ≡ n = omega (arith, last, r.within, r.is, own_is gs r.group) in
            subst (HoldsAt signature code_now placed_now) place (own_holds r.group r.below)
      ]

-- ---- shape

module _ (signature : Signature) (program : Program) (code : Code) (formed : IsCode code) where
  map_now : (placed : List Placed) → map_of signature code ≡ Read placed → ((k : ℕ) → k < length code.instructions → HoldsAt signature code placed k)
      → AllHold signature (rewritten_code program code) (map_of signature (rewritten_code program code))
  map_now placed e holds =
      let m : Moved program code placed (map_of signature (rewritten_code program code)) = map_moved program code signature placed formed.frames_within e in
      subst (AllHold signature (rewritten_code program code)) (sym m.read) (all_hold signature program code placed formed (placed_fits code placed m.fit) holds)

  pub shape_now : HasShape signature code → HasShape signature (rewritten_code program code)
  unfolding rewritten_code in_groups
  shape_now shape = record { parameters = shape.parameters; each = by (map_of signature code) refl shape.each } where
    by : (m : Map) → map_of signature code ≡ m → AllHold signature code m → AllHold signature (rewritten_code program code) (map_of signature (rewritten_code program code))
    by (Faulty at) e each = absurd each
    by NoMap e each = absurd each
    by (Read placed) e each = map_now placed e each
