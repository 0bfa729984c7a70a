-- Frames that have the kinds that shape says: where an instruction leaves them, at a handler, and where they begin.
use Rattle.std.proofs.Common.{◌≡◌, ℕ, zero, suc, ◌+◌, ◌-◌, ◌<◌, ◌≤◌, ◌&&◌, ◌||◌, Bool, true, false, not, List, [], ◌∷◌, ◌++◌, length, map, replicate, Option, Some, None, nat_eq, nat_lt, nat_le, refl, sym, ap, subst, ◌∙◌, inl, inr, arith, IsTrue, Contains}
use Rattle.std.specs.Prelude.{slice_get}
use Rattle.std.specs.Option.{option_map}
use Rattle.std.specs.List.{list_all}
use Rattle.std.specs.Cmp.Lexicographic.{pointwise}
use Rattle.std.proofs.lemmas.Bool.Decides.{nat_tests}
use Rattle.std.proofs.lemmas.List.{length-append, length-replicate}
use Rattle.std.proofs.lemmas.Option.{slice_get_within}
use Rattle.dj_names.specs.declared.descriptor.Kind.{Kind}
use Rattle.dj_names.specs.declared.descriptor.Kind.TheVariants as kinds
use Rattle.dj_names.specs.declared.descriptor.Desc.{Desc}
use Rattle.dj_names.specs.declared.run.Value.{Value}
use Rattle.dj_names.specs.declared.run.Value.TheVariants as values
use Rattle.dj_names.specs.trusted.Values.{value_kind}
use Rattle.dj_names.specs.trusted.Types.{Name}
use Rattle.dj_ops.specs.declared.frames.Frame.{Frame as MapFrame}
use Rattle.dj_model.specs.trusted.Types.{Prefix, Declared, no_parameters}
use Rattle.dj_model.specs.trusted.Instructions.{Instruction, ends, targets}
use Rattle.dj_model.specs.trusted.Program.{Program, Class, Method, Body, Abstract, Native, Runs, Code, Range, class_at, method_of, method_at, code_of, code_in, is_static, initialiser_of, body_code, has_code, runs_static, has_initialiser}
use Rattle.dj_model.specs.trusted.State.{Frame}
use Rattle.dj_model.specs.trusted.Numbers.{same_kind, is_wide, is_long}
use Rattle.dj_model.specs.trusted.Values.{in_slots}
use Rattle.dj_model.specs.trusted.Initialisation.{padded, locals_for, new_frame}
use Rattle.dj_model.specs.trusted.Kinds.{Signature, Kinds, signature_of, depth, entry_slots, fitting, Entries, form_entries, stack_of, Placed, Map, Read, Faulty, NoMap, and_then, with_fitting, with_frame, frames_after, frames_in, parameter_entries, map_of, placed_at}
use Rattle.dj_model.specs.trusted.Shape.{locals_flow, locals_flow_to, flows_into, flows_to, flows_to_frame, is_handler_frame, state_before, after, first_kinds, covers, HoldsAt}
use Rattle.dj_model.specs.Shape.{AllHold, HasShape}
use Rattle.dj_model.specs.Sound.{is_linked, IsCode, IsBody, IsSoundCode, IsSoundBody, IsSound}
use Rattle.dj_model.specs.Standing.{LocalsHave, HasKinds, IsAmong, IsAt, IsReady}
use Rattle.dj_model.proofs.MappedNames.{either}
use Rattle.dj_model.proofs.Standing.{some_if, same_kind_is}
use Rattle.dj_model.proofs.SoundLinks.{both_parts, class_contained, method_contained}

-- ---- kinds that flow into those of a frame

pub flow_stack : (a b : List Kind) → pointwise same_kind a b ≡ true → a ≡ b
flow_stack [] [] e = refl
flow_stack [] (b ∷ bs) e = absurd cc
flow_stack (a ∷ x) [] e = absurd cc
flow_stack (a ∷ x) (b ∷ y) e = let p = both_parts (same_kind a b) (pointwise same_kind x y) e in
    λ i. same_kind_is a b p.0 i ∷ flow_stack x y p.1 i

flow_has : (vs : List (Option Value)) (ks reported : List (Option Kind)) → length vs ≡ length reported → LocalsHave vs ks → locals_flow ks reported ≡ true → LocalsHave vs reported
flow_has [] [] [] n h e = tt
flow_has [] (k ∷ ks) reported n h e = absurd h
flow_has [] [] (t ∷ reported) n h e = absurd (omega arith)
flow_has (v ∷ vs) ks [] n h e = absurd (omega arith)
flow_has (None ∷ vs) [] (t ∷ reported) n h e = absurd h
flow_has (Some v ∷ vs) [] (t ∷ reported) n h e = absurd h
flow_has (None ∷ vs) (None ∷ ks) (None ∷ reported) n h e = flow_has vs ks reported (omega arith) h e
flow_has (Some v ∷ vs) (None ∷ ks) (None ∷ reported) n h e = flow_has vs ks reported (omega arith) h e
flow_has (None ∷ vs) (Some k ∷ ks) (t ∷ reported) n h e = absurd h
flow_has (Some v ∷ vs) (Some k ∷ ks) (None ∷ reported) n h e = flow_has vs ks reported (omega arith) h.1 e
flow_has (None ∷ vs) (None ∷ ks) (Some t ∷ reported) n h e = absurd cc
flow_has (Some v ∷ vs) (None ∷ ks) (Some t ∷ reported) n h e = absurd cc
flow_has (Some v ∷ vs) (Some k ∷ ks) (Some t ∷ reported) n h e = let p = both_parts (same_kind t k) (locals_flow ks reported) e in
    (h.0 ∙ sym (same_kind_is t k p.0), flow_has vs ks reported (omega arith) h.1 p.1)

-- ---- frames of a stack map have kinds of as many local variables as the code has

padded_room : {A : Type 0} (n : ℕ) (slots : List (Option A)) → length slots ≤ n → length (padded n slots) ≡ n
padded_room {A = A} n slots le =
    length-append slots (replicate {A = Option A} (n - length slots) None) ∙ (ap (λ (m : ℕ). length slots + m) (length-replicate {A = Option A} (n - length slots) None) ∙ omega (arith, le))

fitting_room : (code : Code) (locals : List (Option Kind)) (stack : Option (List Kind)) (k : Kinds) → fitting code locals stack ≡ Some k → length k.locals ≡ code.max_locals
fitting_room code locals None k e = absurd cc
fitting_room code locals (Some stack) k e =
    let fits = nat_le (length (entry_slots locals)) code.max_locals in
    let p = some_if (fits && nat_le (depth stack) code.max_stack) _ k e in
    let f = both_parts fits (nat_le (depth stack) code.max_stack) p.0 in
    let le : length (entry_slots locals) ≤ code.max_locals = grind (arith, nat_tests, f.0) in
    let same : Some (padded code.max_locals (entry_slots locals)) ≡ Some k.locals = ap (option_map (λ (j : Kinds). j.locals)) p.1 in
    let is : padded code.max_locals (entry_slots locals) ≡ k.locals = cc in
    sym (ap (λ (l : List (Option Kind)). length l) is) ∙ padded_room code.max_locals (entry_slots locals) le

placed_room : (code : Code) (before : List (Option Kind)) (frames : List MapFrame) (placed : List Placed) → frames_after code before frames ≡ Read placed
    → (number : ℕ) (reported : Kinds) → placed_at placed number ≡ Some reported → length reported.locals ≡ code.max_locals
unfolding frames_after
placed_room code before [] placed e number reported at =
    let none : [] ≡ placed = cc in
    let no : None ≡ Some reported = subst (λ (l : List Placed). placed_at l number ≡ Some reported) (sym none) at in absurd cc
placed_room code before (f ∷ rest) placed e number reported at =
    by_entries (form_entries code before f.form) (λ locals more is. placed_room code locals rest more is number reported) e where
      by_map : (k : Kinds) (map : Map) → length k.locals ≡ code.max_locals
          → ((more : List Placed) → map ≡ Read more → placed_at more number ≡ Some reported → length reported.locals ≡ code.max_locals)
          → and_then (record { at = f.at; kinds = k }) map ≡ Read placed → length reported.locals ≡ code.max_locals
      by_map k (Faulty other) room each e = absurd cc
      by_map k NoMap room each e = absurd cc
      by_map k (Read more) room each e =
          let is : record { at = f.at; kinds = k } ∷ more ≡ placed = cc in
          let there : placed_at (record { at = f.at; kinds = k } ∷ more) number ≡ Some reported = subst (λ (l : List Placed). placed_at l number ≡ Some reported) (sym is) at in
          elim (either (nat_eq f.at number)) [
            | inl here ↦ let same : Some k ≡ Some reported = rw here at there in
                let kinds_are : k ≡ reported = cc in subst (λ (j : Kinds). length j.locals ≡ code.max_locals) kinds_are room
            | inr later ↦ each more refl (rw later at there)
          ]

      by_fitting : (k : Option Kinds) (map : Map) → ((j : Kinds) → k ≡ Some j → length j.locals ≡ code.max_locals)
          → ((more : List Placed) → map ≡ Read more → placed_at more number ≡ Some reported → length reported.locals ≡ code.max_locals)
          → with_fitting f.at k map ≡ Read placed → length reported.locals ≡ code.max_locals
      by_fitting None map room each e = absurd cc
      by_fitting (Some k) map room each e = by_map k map (room k refl) each e

      by_entries : (entries : Option Entries)
          → ((locals : List (Option Kind)) (more : List Placed) → frames_after code locals rest ≡ Read more → placed_at more number ≡ Some reported → length reported.locals ≡ code.max_locals)
          → with_frame code f.at entries (λ locals. frames_after code locals rest) ≡ Read placed → length reported.locals ≡ code.max_locals
      by_entries None each e = absurd cc
      by_entries (Some entries) each e = by_fitting (fitting code entries.locals (stack_of entries.stack)) (frames_after code entries.locals rest)
          (fitting_room code entries.locals (stack_of entries.stack)) (each entries.locals) e

reported_room : (signature : Signature) (code : Code) (placed : List Placed) → map_of signature code ≡ Read placed → (number : ℕ) (reported : Kinds) → placed_at placed number ≡ Some reported
    → length reported.locals ≡ code.max_locals
reported_room signature code placed e number reported at = by code.frames e where
  by : (frames : Option (List MapFrame)) → frames_in code (parameter_entries signature) frames ≡ Read placed → length reported.locals ≡ code.max_locals
  by None e = absurd cc
  by (Some frames) e = placed_room code (parameter_entries signature) frames placed e number reported at

-- ---- parameters in their slots

-- local variables without values
none_have : (n : ℕ) → LocalsHave (replicate n None) (replicate n None)
none_have zero = tt
none_have (suc n) = none_have n

slots_have : (args : List Value) (n : ℕ) → LocalsHave (in_slots is_long args ++ replicate n None) (in_slots is_wide (map value_kind args) ++ replicate n None)
slots_have [] n = none_have n
slots_have (v ∷ rest) n = elim (either (is_wide (value_kind v))) [
  | inl wide ↦ rw wide (refl, slots_have rest n)
  | inr one ↦ rw one (refl, slots_have rest n)
]

slots_length : (args : List Value) → length (in_slots is_long args) ≡ length (in_slots is_wide (map value_kind args))
slots_length [] = refl
slots_length (v ∷ rest) = elim (either (is_wide (value_kind v))) [
  | inl wide ↦ rw wide (ap (λ n. suc (suc n)) (slots_length rest))
  | inr one ↦ rw one (ap suc (slots_length rest))
]

new_have : (args : List Value) (parameters : List Kind) (n : ℕ) → map value_kind args ≡ parameters
    → LocalsHave (padded n (in_slots is_long args)) (padded n (in_slots is_wide parameters))
new_have args parameters n is = subst (λ (ks : List Kind). LocalsHave (padded n (in_slots is_long args)) (padded n (in_slots is_wide ks))) is
    (subst (λ (m : ℕ). LocalsHave (in_slots is_long args ++ replicate (n - length (in_slots is_long args)) None) (in_slots is_wide (map value_kind args) ++ replicate (n - m) None))
    (slots_length args) (slots_have args (n - length (in_slots is_long args))))

-- ---- tests on all elements of a list

pub all_at : {A : Type 0} (test : A → Bool) (xs : List A) (x : A) → list_all test xs ≡ true → Contains xs x → test x ≡ true
all_at test [] x e c = absurd (omega (arith, c.1))
all_at test (y ∷ xs) x e (zero, lt, is) = subst (λ z. test z ≡ true) is (both_parts (test y) (list_all test xs) e).0
all_at test (y ∷ xs) x e (suc k, lt, is) = all_at test xs x (both_parts (test y) (list_all test xs) e).1 (k, omega (arith, lt), is)

first_or : (a b : Bool) → (a || b) ≡ true → a ≡ false → b ≡ true
first_or true b e f = absurd cc
first_or false b e f = e

not_or : (a b : Bool) → (not a || b) ≡ true → a ≡ true → b ≡ true
not_or true b e f = e
not_or false b e f = absurd cc

pub contained : {A : Type 0} (xs : List A) (number : ℕ) (x : A) → slice_get xs number ≡ Some x → Contains xs x
contained [] number x e = absurd cc
contained (y ∷ xs) zero x e = (zero, omega arith, (let is : y ≡ x = cc in is))
contained (y ∷ xs) (suc number) x e = let c = contained xs number x e in (suc c.0, omega (arith, c.1), c.2)

-- ---- methods of a sound program

pub record IsMethod (program : Program) (m : Declared) (method : Method) : Type 0 where
  pub class : Class
  pub class_in : Contains program class
  pub method_in : Contains class.methods method
  pub desc : method.desc ≡ m.desc

pub method_is : (program : Program) (m : Declared) (method : Method) → method_at program m ≡ Some method → IsMethod program m method
method_is program m method e = by (class_at program m.class) refl where
  by : (c : Option Class) → class_at program m.class ≡ c → IsMethod program m method
  by None none = absurd (let no : None ≡ Some method = subst (λ (c : Option Class). method_of c m.name m.desc ≡ Some method) none e in cc)
  by (Some c) some =
      let in_class = method_contained c.methods m.name m.desc method (subst (λ (k : Option Class). method_of k m.name m.desc ≡ Some method) some e) in
      record { class = c; class_in = (class_contained program m.class c some).0; method_in = in_class.0; desc = in_class.2 }

pub code_is : (program : Program) (m : Declared) (method : Method) (code : Code) → method_at program m ≡ Some method → method.body ≡ Runs code → code_of program m ≡ Some code
unfolding code_of
code_is program m method code there body =
    subst (λ (x : Option Method). code_in x ≡ Some code) (sym there) (in_body method.body body) where
      in_body : (b : Body) → b ≡ Runs code → body_code b ≡ Some code
      in_body b e = ap body_code e

-- the code of a sound program: each instruction holds
pub record IsHeld (program : Program) (prefix : Prefix) (signature : Signature) (code : Code) (placed : List Placed) : Type 0 where
  pub holds : (number : ℕ) → number < length code.instructions → HoldsAt signature code placed number
  pub formed : IsCode code
  pub linked : IsTrue (list_all (is_linked program prefix) code.instructions)

pub sound_code : (program : Program) (prefix : Prefix) → IsSound program prefix → (m : Declared) (method : Method) (code : Code) → method_at program m ≡ Some method → method.body ≡ Runs code
    → IsSoundCode program prefix method code × IsCode code
sound_code program prefix is m method code there body =
    let r = method_is program m method there in
    let sound : IsSoundBody program prefix method method.body = (is.classes r.class r.class_in).bodies method r.method_in in
    let formed : IsBody method.body = (is.formed.classes r.class r.class_in).codes method r.method_in in
    (subst (IsSoundBody program prefix method) body sound, subst IsBody body formed)

pub held : (program : Program) (prefix : Prefix) → IsSound program prefix → (m : Declared) (method : Method) (code : Code) (signature : Signature) (placed : List Placed)
    → method_at program m ≡ Some method → method.body ≡ Runs code → signature_of (is_static method.flags) method.desc ≡ Some signature → map_of signature code ≡ Read placed
    → IsHeld program prefix signature code placed
held program prefix is m method code signature placed there body described map_is =
    let c = sound_code program prefix is m method code there body in
    let signed : Some c.0.signature ≡ Some signature = sym c.0.described ∙ described in
    let same : c.0.signature ≡ signature = cc in
    let each : AllHold signature code (map_of signature code) = subst (λ (s : Signature). AllHold s code (map_of s code)) same c.0.shape.each in
    record { holds = subst (AllHold signature code) map_is each; formed = c.1; linked = c.0.linked }

-- ---- where a frame stands

-- before an instruction with a frame stands what the frame declares
placed_state : (signature : Signature) (code : Code) (placed : List Placed) (number : ℕ) (reported : Kinds) → placed_at placed number ≡ Some reported
    → state_before signature code placed number ≡ Some reported
unfolding state_before
placed_state signature code placed zero reported e = rw e refl
placed_state signature code placed (suc number) reported e = rw e refl

-- an instruction of the code is below its length, and one below has an instruction
module _ (program : Program) (prefix : Prefix) (is : IsSound program prefix) (f : Frame Declared) (s : IsAt program f) where
  abbrev Room : List (Option Value) → Type 0
  Room vs = length vs ≡ s.code.max_locals

  abbrev pub moved : ℕ → List (Option Value) → List Value → Frame Declared
  moved number vs os = record { method = f.method; number = number; locals = vs; operands = os; paid = false }

  pub is_held : IsHeld program prefix s.signature s.code s.placed
  is_held = held program prefix is f.method s.method s.code s.signature s.placed s.there s.body s.described s.map

  pub within : f.number < length s.code.instructions
  within = slice_get_within s.code.instructions f.number s.instruction s.at

  -- what holds at the frame's instruction, in the frame's words
  record Here (left : Kinds) : Type 0 where
    last : IsTrue (ends s.instruction || nat_lt (suc f.number) (length s.code.instructions))
    goes_on : IsTrue (ends s.instruction || flows_to left (placed_at s.placed (suc f.number)))
    jumps : IsTrue (list_all (λ target. flows_to_frame left (placed_at s.placed target)) (targets s.instruction))

  pub left_there : (left : Kinds) × (after s.signature s.code s.instruction s.before ≡ Some left)
  left_there =
      let h = is_held.holds f.number within in
      let b : Some h.before ≡ Some s.before = sym h.state ∙ s.state in
      let j : Some h.instruction ≡ Some s.instruction = sym h.at ∙ s.at in
      let same_b : h.before ≡ s.before = cc in
      let same_i : h.instruction ≡ s.instruction = cc in (
        h.left,
        subst (λ (k : Kinds). after s.signature s.code s.instruction k ≡ Some h.left) same_b
            (subst (λ (i : Instruction). after s.signature s.code i h.before ≡ Some h.left) same_i h.found),
      )

  here : (left : Kinds) → after s.signature s.code s.instruction s.before ≡ Some left → Here left
  here left e =
      let h = is_held.holds f.number within in
      let b : Some h.before ≡ Some s.before = sym h.state ∙ s.state in
      let j : Some h.instruction ≡ Some s.instruction = sym h.at ∙ s.at in
      let same_b : h.before ≡ s.before = cc in
      let same_i : h.instruction ≡ s.instruction = cc in
      let there : after s.signature s.code s.instruction s.before ≡ Some h.left = subst (λ (k : Kinds). after s.signature s.code s.instruction k ≡ Some h.left) same_b
      (subst (λ (i : Instruction). after s.signature s.code i h.before ≡ Some h.left) same_i h.found) in
      let l : Some h.left ≡ Some left = sym there ∙ e in
      let same_l : h.left ≡ left = cc in
      record {
        last = subst (λ (i : Instruction). IsTrue (ends i || nat_lt (suc f.number) (length s.code.instructions))) same_i h.last;
        goes_on = subst (λ (k : Kinds). IsTrue (ends s.instruction || flows_to k (placed_at s.placed (suc f.number)))) same_l
            (subst (λ (i : Instruction). IsTrue (ends i || flows_to h.left (placed_at s.placed (suc f.number)))) same_i h.goes_on);
        jumps = subst (λ (k : Kinds). IsTrue (list_all (λ target. flows_to_frame k (placed_at s.placed target)) (targets s.instruction))) same_l
            (subst (λ (i : Instruction). IsTrue (list_all (λ target. flows_to_frame h.left (placed_at s.placed target)) (targets i))) same_i h.jumps);
      }

  handled_here : IsTrue (list_all (λ (range : Range). not (covers range f.number) || locals_flow_to s.before (placed_at s.placed range.handler)) s.code.ranges)
  handled_here =
      let h = is_held.holds f.number within in
      let b : Some h.before ≡ Some s.before = sym h.state ∙ s.state in
      let same_b : h.before ≡ s.before = cc in
      subst (λ (k : Kinds). IsTrue (list_all (λ (range : Range). not (covers range f.number) || locals_flow_to k (placed_at s.placed range.handler)) s.code.ranges)) same_b h.handled

  -- the frame at another instruction before which these kinds stand
  at_place : (number : ℕ) → number < length s.code.instructions → (k : Kinds) → state_before s.signature s.code s.placed number ≡ Some k
      → (vs : List (Option Value)) (os : List Value) → LocalsHave vs k.locals → Room vs → IsAt program (moved number vs os)
  at_place number lt k state vs os have room =
      let h = is_held.holds number lt in
      record {
        method = s.method;
        there = s.there;
        code = s.code;
        body = s.body;
        signature = s.signature;
        described = s.described;
        placed = s.placed;
        map = s.map;
        instruction = h.instruction;
        at = h.at;
        before = k;
        state = state;
        locals = have;
        room = room;
      }

  ready_at : (number : ℕ) → number < length s.code.instructions → (k : Kinds) → state_before s.signature s.code s.placed number ≡ Some k
      → (vs : List (Option Value)) (os : List Value) → HasKinds vs os k → Room vs → IsReady program (moved number vs os)
  unfolding at_place
  ready_at number lt k state vs os have room = record { at = at_place number lt k state vs os have.locals room; operands = have.operands }

  -- what is left flows into a frame
  flows_in : (left reported : Kinds) (number : ℕ) → placed_at s.placed number ≡ Some reported → flows_into left reported ≡ true → (vs : List (Option Value)) (os : List Value)
      → HasKinds vs os left → Room vs → HasKinds vs os reported
  flows_in left reported number at flows vs os have room =
      let p = both_parts (locals_flow left.locals reported.locals) (pointwise same_kind left.stack reported.stack) flows in
      record {
        locals = flow_has vs left.locals reported.locals (room ∙ sym (reported_room s.signature s.code s.placed s.map number reported at)) have.locals p.0;
        operands = have.operands ∙ flow_stack left.stack reported.stack p.1;
      }

  pub goes_next : (left : Kinds) → after s.signature s.code s.instruction s.before ≡ Some left → ends s.instruction ≡ false → (vs : List (Option Value)) (os : List Value)
      → HasKinds vs os left → Room vs → IsReady program (moved (f.number + 1) vs os)
  unfolding state_before
  goes_next left e goes_on vs os have room =
      let next : suc f.number ≡ f.number + 1 = omega arith in
      subst (λ (n : ℕ). IsReady program (moved n vs os)) next (by (placed_at s.placed (suc f.number)) refl) where
        h : Here left
        h = here left e

        lt : suc f.number < length s.code.instructions
        lt = let t = first_or (ends s.instruction) _ h.last goes_on in grind (arith, nat_tests, t)

        by : (reported : Option Kinds) → placed_at s.placed (suc f.number) ≡ reported → IsReady program (moved (suc f.number) vs os)
        by None none = ready_at (suc f.number) lt left after_it vs os have room where
          after_it : state_before s.signature s.code s.placed (suc f.number) ≡ Some left
          after_it = rw (none, s.state, s.at, goes_on) e
        by (Some reported) some =
            let flows : flows_to left (Some reported) ≡ true = subst (λ (t : Option Kinds). flows_to left t ≡ true) some (first_or (ends s.instruction) _ h.goes_on goes_on) in
            ready_at (suc f.number) lt reported (placed_state s.signature s.code s.placed (suc f.number) reported some) vs os (flows_in left reported (suc f.number) some flows vs os have room) room

  among : (xs : List ℕ) (test : ℕ → Bool) (n : ℕ) → IsTrue (list_all test xs) → IsAmong xs n → test n ≡ true
  among [] test n all a = absurd a
  among (m ∷ others) test n all (inl is) = subst (λ k. test k ≡ true) (sym is) (both_parts (test m) (list_all test others) all).0
  among (m ∷ others) test n all (inr later) = among others test n (both_parts (test m) (list_all test others) all).1 later

  pub jumps_to : (left : Kinds) → after s.signature s.code s.instruction s.before ≡ Some left → (target : ℕ) → IsAmong (targets s.instruction) target
      → (vs : List (Option Value)) (os : List Value) → HasKinds vs os left → Room vs → IsReady program (moved target vs os)
  jumps_to left e target a vs os have room = by (placed_at s.placed target) refl where
    within_code : target < length s.code.instructions
    within_code =
        let lt = among (targets s.instruction) (λ t. nat_lt t (length s.code.instructions)) target (is_held.formed.targets_within s.instruction (contained s.code.instructions f.number s.instruction s.at)) a in
        grind (arith, nat_tests, lt)

    frame : flows_to_frame left (placed_at s.placed target) ≡ true
    frame = among (targets s.instruction) (λ t. flows_to_frame left (placed_at s.placed t)) target (here left e).jumps a

    by : (reported : Option Kinds) → placed_at s.placed target ≡ reported → IsReady program (moved target vs os)
    by None none = absurd (let no : flows_to_frame left None ≡ true = subst (λ (t : Option Kinds). flows_to_frame left t ≡ true) none frame in cc)
    by (Some reported) some = ready_at target within_code reported (placed_state s.signature s.code s.placed target reported some) vs os
        (flows_in left reported target some (subst (λ (t : Option Kinds). flows_to_frame left t ≡ true) some frame) vs os have room) room

  -- an exception comes to a handler that finds its frame
  handler_reported : (number : ℕ) → is_handler_frame (placed_at s.placed number) ≡ true → (reported : Kinds) × (placed_at s.placed number ≡ Some reported) × (reported.stack ≡ kinds.Ref ∷ [])
  handler_reported number e = by (placed_at s.placed number) refl e where
    by : (reported : Option Kinds) → placed_at s.placed number ≡ reported → is_handler_frame reported ≡ true → (reported : Kinds) × (placed_at s.placed number ≡ Some reported) × (reported.stack ≡ kinds.Ref ∷ [])
    by None none h = absurd cc
    by (Some reported) some h = (reported, some, flow_stack reported.stack (kinds.Ref ∷ []) h)

  equal_self : (n : ℕ) → nat_eq n n ≡ true
  equal_self n = grind (arith, nat_tests)

  pub caught_at : (range : Range) → Contains s.code.ranges range → covers range f.number ≡ true → (exception : ℕ) → IsReady program (moved range.handler f.locals (values.Ref exception ∷ []))
  caught_at range there covered exception =
      let lt = is_held.formed.handlers_within range there in
      let h = is_held.holds range.handler lt in
      let frame = not_or (nat_eq range.handler range.handler) (is_handler_frame (placed_at s.placed range.handler))
      (all_at (λ (r : Range). not (nat_eq range.handler r.handler) || is_handler_frame (placed_at s.placed range.handler)) s.code.ranges range h.handles there) (equal_self range.handler) in
      let reported = handler_reported range.handler frame in
      let flows = not_or (covers range f.number) (locals_flow_to s.before (placed_at s.placed range.handler))
      (all_at (λ (r : Range). not (covers r f.number) || locals_flow_to s.before (placed_at s.placed r.handler)) s.code.ranges range handled_here there) covered in
      let flow : locals_flow s.before.locals reported.0.locals ≡ true = subst (λ (t : Option Kinds). locals_flow_to s.before t ≡ true) reported.1 flows in
      ready_at range.handler lt reported.0 (placed_state s.signature s.code s.placed range.handler reported.0 reported.1) f.locals (values.Ref exception ∷ [])
      (record {
        locals = flow_has f.locals s.before.locals reported.0.locals (s.room ∙ sym (reported_room s.signature s.code s.placed s.map range.handler reported.0 reported.1)) s.locals flow;
        operands = sym reported.2;
      }) s.room

-- ---- a frame at its first instruction

begins_ready : (program : Program) (prefix : Prefix) (is : IsSound program prefix) (m : Declared) (method : Method) (code : Code) (signature : Signature) (placed : List Placed)
    → method_at program m ≡ Some method → method.body ≡ Runs code → signature_of (is_static method.flags) method.desc ≡ Some signature → map_of signature code ≡ Read placed
    → length (in_slots is_wide signature.parameters) ≤ code.max_locals → (args : List Value) → map value_kind args ≡ signature.parameters
    → IsReady program (record { method = m; number = 0; locals = padded code.max_locals (in_slots is_long args); operands = []; paid = false })
unfolding state_before
begins_ready program prefix is m method code signature placed there body described map_is fit args takes =
    by (placed_at placed 0) refl where
      k : IsHeld program prefix signature code placed
      k = held program prefix is m method code signature placed there body described map_is

      h : HoldsAt signature code placed 0
      h = k.holds 0 k.formed.some

      have : LocalsHave (padded code.max_locals (in_slots is_long args)) (padded code.max_locals (in_slots is_wide signature.parameters))
      have = new_have args signature.parameters code.max_locals takes

      room : length (padded code.max_locals (in_slots is_long args)) ≡ code.max_locals
      room = padded_room code.max_locals (in_slots is_long args)
          (let same = slots_length args ∙ ap (λ (ks : List Kind). length (in_slots is_wide ks)) takes in omega (arith, same, fit))

      ready : (before : Kinds) → state_before signature code placed 0 ≡ Some before → LocalsHave (padded code.max_locals (in_slots is_long args)) before.locals → [] ≡ before.stack
          → IsReady program (record { method = m; number = 0; locals = padded code.max_locals (in_slots is_long args); operands = []; paid = false })
      ready before state locals operands = record {
        at = record {
          method = method;
          there = there;
          code = code;
          body = body;
          signature = signature;
          described = described;
          placed = placed;
          map = map_is;
          instruction = h.instruction;
          at = h.at;
          before = before;
          state = state;
          locals = locals;
          room = room;
        };
        operands = operands;
      }

      by : (reported : Option Kinds) → placed_at placed 0 ≡ reported → IsReady program (record { method = m; number = 0; locals = padded code.max_locals (in_slots is_long args); operands = []; paid = false })
      by None none = ready (first_kinds signature code) (rw none refl) have refl
      by (Some reported) some =
          let flows : flows_into (first_kinds signature code) reported ≡ true = subst (λ (t : Option Kinds). flows_to (first_kinds signature code) t ≡ true) some h.begins in
          let p = both_parts (locals_flow (padded code.max_locals (in_slots is_wide signature.parameters)) reported.locals) (pointwise same_kind [] reported.stack) flows in
          ready reported (rw some refl) (flow_has (padded code.max_locals (in_slots is_long args)) (padded code.max_locals (in_slots is_wide signature.parameters)) reported.locals
          (room ∙ sym (reported_room signature code placed map_is 0 reported some)) have p.0) (flow_stack [] reported.stack p.1)

pub starts_ready : (program : Program) (prefix : Prefix) → IsSound program prefix → (m : Declared) (method : Method) (code : Code) (signature : Signature) → method_at program m ≡ Some method
    → method.body ≡ Runs code → signature_of (is_static method.flags) method.desc ≡ Some signature → (args : List Value) → map value_kind args ≡ signature.parameters
    → IsReady program (new_frame program m args)
starts_ready program prefix is m method code signature there body described args takes =
    let c = sound_code program prefix is m method code there body in
    let signed : Some c.0.signature ≡ Some signature = sym c.0.described ∙ described in
    let same : c.0.signature ≡ signature = cc in
    let shape = subst (λ (s : Signature). HasShape s code) same c.0.shape in
    subst (λ (x : Option Code). IsReady program (record { method = m; number = 0; locals = locals_for x args; operands = []; paid = false }))
    (sym (code_is program m method code there body)) (by (map_of signature code) refl shape) where
      by : (map : Map) → map_of signature code ≡ map → HasShape signature code
          → IsReady program (record { method = m; number = 0; locals = padded code.max_locals (in_slots is_long args); operands = []; paid = false })
      by (Read placed) e shape = begins_ready program prefix is m method code signature placed there body described e shape.parameters args takes
      by (Faulty at) e shape = absurd (subst (AllHold signature code) e shape.each)
      by NoMap e shape = absurd (subst (AllHold signature code) e shape.each)

-- ---- initialisers

pub initialiser_ready : (program : Program) (prefix : Prefix) → IsSound program prefix → (class : Name) → has_initialiser program class ≡ true → IsReady program (new_frame program (initialiser_of class) [])
unfolding has_initialiser
initialiser_ready program prefix is class has = by (method_at program (initialiser_of class)) refl has where
  in_body : (method : Method) → method_at program (initialiser_of class) ≡ Some method → is_static method.flags ≡ true → (body : Body) → method.body ≡ body → has_code body ≡ true
      → IsReady program (new_frame program (initialiser_of class) [])
  in_body method there static Abstract body has = absurd cc
  in_body method there static (Native id) body has = absurd cc
  in_body method there static (Runs code) body has =
      let desc = (method_is program (initialiser_of class) method there).desc in
      starts_ready program prefix is (initialiser_of class) method code (record { parameters = []; result = None }) there body
      (subst (λ (d : Desc). signature_of (is_static method.flags) d ≡ Some (record { parameters = []; result = None })) (sym desc)
      (subst (λ (b : Bool). signature_of b no_parameters ≡ Some (record { parameters = []; result = None })) (sym static) refl)) [] refl

  by : (method : Option Method) → method_at program (initialiser_of class) ≡ method → runs_static method ≡ true → IsReady program (new_frame program (initialiser_of class) [])
  by None none has = absurd cc
  by (Some method) some has = let p = both_parts (is_static method.flags) (has_code method.body) has in in_body method some p.0 method.body refl p.1
