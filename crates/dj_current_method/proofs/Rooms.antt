-- Sound code has room for what its frames hold: for an exception at each handler, and for the result of a call under way.
use Rattle.std.proofs.Common.{◌≡◌, ℕ, ◌+◌, ◌<◌, ◌≤◌, Bool, true, false, not, ◌&&◌, ◌||◌, List, [], ◌∷◌, ◌++◌, length, map, reverse, Option, Some, None, nat_eq, nat_le, refl, sym, ap, subst, ◌∙◌, inl, inr, arith, Contains}
use Rattle.std.specs.Option.{option_map}
use Rattle.std.proofs.lemmas.Bool.Decides.{nat_tests}
use Rattle.std.proofs.lemmas.Grind.{reverse_onto}
use Rattle.dj_names.specs.declared.descriptor.Kind.{Kind}
use Rattle.dj_names.specs.declared.descriptor.Kind.TheVariants as kinds
use Rattle.dj_names.specs.declared.run.Value.{Value}
use Rattle.dj_names.specs.trusted.Values.{value_kind}
use Rattle.dj_ops.specs.declared.frames.Frame.{Frame as MapFrame}
use Rattle.dj_model.specs.trusted.Types.{Prefix, Declared}
use Rattle.dj_model.specs.trusted.Program.{Program, Method, Runs, Code, Range, method_at}
use Rattle.dj_model.specs.trusted.Numbers.{is_wide}
use Rattle.dj_model.specs.trusted.Kinds.{Signature, signature_of, Kinds, kind_slots, depth, entry_slots, fitting, Entries, form_entries, stack_of, Placed, Map, Read, Faulty, NoMap, and_then, with_fitting, with_frame, frames_after, frames_in, parameter_entries, map_of, placed_at}
use Rattle.dj_model.specs.trusted.Instructions.{Instruction, Invoke}
use Rattle.dj_model.specs.Instructions.{calls}
use Rattle.dj_model.specs.trusted.Shape.{taken, leaving, with_result, counts, is_static_mode, call_kinds, after, is_handler_frame, HoldsAt}
use Rattle.dj_model.specs.Shape.{AllHold}
use Rattle.dj_model.specs.Sound.{IsCode, IsSoundCode, IsSound}
use Rattle.dj_model.proofs.MappedNames.{either}
use Rattle.dj_model.proofs.Standing.{some_if}
use Rattle.dj_model.proofs.SoundLinks.{both_parts}
use Rattle.dj_model.proofs.SoundFrames.{flow_stack, all_at, sound_code}

-- ---- what a frame of the stack map declares fits

abbrev Fits : Code → Kinds → Type 0
Fits code k = depth k.stack ≤ code.max_stack

depth_append : (a b : List Kind) → depth (a ++ b) ≡ depth a + depth b
depth_append [] b = omega arith
depth_append (k ∷ a) b = let rest = depth_append a b in omega (arith, rest)

depth_reverse : (stack : List Kind) → depth (reverse stack) ≡ depth stack
depth_reverse [] = refl
depth_reverse (k ∷ stack) =
    let rest : depth (reverse stack) ≡ depth stack = depth_reverse stack in
    ap depth (reverse_onto stack k []) ∙ (depth_append (reverse stack) (k ∷ []) ∙ omega (arith, rest))

fitting_fits : (code : Code) (locals : List (Option Kind)) (stack : Option (List Kind)) (k : Kinds) → fitting code locals stack ≡ Some k → Fits code k
fitting_fits code locals None k e = absurd cc
fitting_fits code locals (Some stack) k e =
    let few = nat_le (length (entry_slots locals)) code.max_locals in
    let p = some_if (few && nat_le (depth stack) code.max_stack) _ k e in
    let f = both_parts few (nat_le (depth stack) code.max_stack) p.0 in
    let le : depth stack ≤ code.max_stack = grind (arith, nat_tests, f.1) in
    let same : Some (reverse stack) ≡ Some k.stack = ap (option_map (λ (j : Kinds). j.stack)) p.1 in
    let is : reverse stack ≡ k.stack = cc in
    let deep : depth k.stack ≡ depth stack = ap depth (sym is) ∙ depth_reverse stack in
    omega (arith, le, deep)

placed_fits : (code : Code) (before : List (Option Kind)) (frames : List MapFrame) (placed : List Placed) → frames_after code before frames ≡ Read placed
    → (number : ℕ) (reported : Kinds) → placed_at placed number ≡ Some reported → Fits code reported
unfolding frames_after
placed_fits code before [] placed e number reported at =
    let none : [] ≡ placed = cc in
    let no : None ≡ Some reported = subst (λ (l : List Placed). placed_at l number ≡ Some reported) (sym none) at in absurd cc
placed_fits code before (f ∷ rest) placed e number reported at =
    by_entries (form_entries code before f.form) (λ locals more is. placed_fits code locals rest more is number reported) e where
      by_map : (k : Kinds) (map : Map) → Fits code k → ((more : List Placed) → map ≡ Read more → placed_at more number ≡ Some reported → Fits code reported)
          → and_then (record { at = f.at; kinds = k }) map ≡ Read placed → Fits code reported
      by_map k (Faulty other) fits each e = absurd cc
      by_map k NoMap fits each e = absurd cc
      by_map k (Read more) fits each e =
          let is : record { at = f.at; kinds = k } ∷ more ≡ placed = cc in
          let there : placed_at (record { at = f.at; kinds = k } ∷ more) number ≡ Some reported = subst (λ (l : List Placed). placed_at l number ≡ Some reported) (sym is) at in
          elim (either (nat_eq f.at number)) [
            | inl here ↦ let same : Some k ≡ Some reported = rw here at there in let kinds_are : k ≡ reported = cc in subst (Fits code) kinds_are fits
            | inr later ↦ each more refl (rw later at there)
          ]

      by_fitting : (k : Option Kinds) (map : Map) → ((j : Kinds) → k ≡ Some j → Fits code j)
          → ((more : List Placed) → map ≡ Read more → placed_at more number ≡ Some reported → Fits code reported) → with_fitting f.at k map ≡ Read placed → Fits code reported
      by_fitting None map fits each e = absurd cc
      by_fitting (Some k) map fits each e = by_map k map (fits k refl) each e

      by_entries : (entries : Option Entries)
          → ((locals : List (Option Kind)) (more : List Placed) → frames_after code locals rest ≡ Read more → placed_at more number ≡ Some reported → Fits code reported)
          → with_frame code f.at entries (λ locals. frames_after code locals rest) ≡ Read placed → Fits code reported
      by_entries None each e = absurd cc
      by_entries (Some entries) each e = by_fitting (fitting code entries.locals (stack_of entries.stack)) (frames_after code entries.locals rest)
          (fitting_fits code entries.locals (stack_of entries.stack)) (each entries.locals) e

reported_fits : (signature : Signature) (code : Code) (placed : List Placed) → map_of signature code ≡ Read placed → (number : ℕ) (reported : Kinds) → placed_at placed number ≡ Some reported
    → Fits code reported
reported_fits signature code placed e number reported at = by code.frames e where
  by : (frames : Option (List MapFrame)) → frames_in code (parameter_entries signature) frames ≡ Read placed → Fits code reported
  by None e = absurd cc
  by (Some frames) e = placed_fits code (parameter_entries signature) frames placed e number reported at

-- ---- handlers

not_or : (a b : Bool) → (not a || b) ≡ true → a ≡ true → b ≡ true
not_or true b e f = e
not_or false b e f = absurd cc

equal_self : (n : ℕ) → nat_eq n n ≡ true
equal_self n = grind (arith, nat_tests)

one_fits : (code : Code) (reported : Option Kinds) → is_handler_frame reported ≡ true → ((k : Kinds) → reported ≡ Some k → Fits code k) → 1 ≤ code.max_stack
one_fits code None e fits = absurd cc
one_fits code (Some k) e fits =
    let stack : k.stack ≡ kinds.Ref ∷ [] = flow_stack k.stack (kinds.Ref ∷ []) e in
    let deep : depth k.stack ≡ 1 = ap depth stack in
    let fit : depth k.stack ≤ code.max_stack = fits k refl in
    omega (arith, deep, fit)

-- code with a handler has room for an exception
pub handler_room : (program : Program) (prefix : Prefix) → IsSound program prefix → (m : Declared) (method : Method) (code : Code) → method_at program m ≡ Some method → method.body ≡ Runs code
    → (range : Range) → Contains code.ranges range → 1 ≤ code.max_stack
handler_room program prefix is m method code there body range own = by (map_of signature code) refl c.0.shape.each where
  c : IsSoundCode program prefix method code × IsCode code
  c = sound_code program prefix is m method code there body

  signature : Signature
  signature = c.0.signature

  by : (map : Map) → map_of signature code ≡ map → AllHold signature code map → 1 ≤ code.max_stack
  by (Faulty at) e each = absurd each
  by NoMap e each = absurd each
  by (Read placed) e each =
      let h : HoldsAt signature code placed range.handler = each range.handler (c.1.handlers_within range own) in
      let frame = not_or (nat_eq range.handler range.handler) (is_handler_frame (placed_at placed range.handler))
      (all_at (λ (r : Range). not (nat_eq range.handler r.handler) || is_handler_frame (placed_at placed range.handler)) code.ranges range h.handles own) (equal_self range.handler) in
      one_fits code (placed_at placed range.handler) frame (reported_fits signature code placed e range.handler)

-- ---- results

leaving_fits : (code : Code) (locals : List (Option Kind)) (stack : Option (List Kind)) (left : Kinds) → leaving code locals stack ≡ Some left → Fits code left
leaving_fits code locals None left e = absurd cc
leaving_fits code locals (Some stack) left e =
    let p = some_if (nat_le (depth stack) code.max_stack) (Some (record { locals = locals; stack = stack })) left e in
    let some : Some (record { locals = locals; stack = stack }) ≡ Some left = p.1 in
    let same : record { locals = locals; stack = stack } ≡ left = cc in
    let le : depth stack ≤ code.max_stack = grind (arith, nat_tests, p.0) in
    subst (Fits code) same le

call_fits : (code : Code) (k : Kinds) (signature : Option Signature) (left : Kinds) → call_kinds code k signature ≡ Some left → Fits code left
call_fits code k None left e = absurd cc
call_fits code k (Some s) left e = leaving_fits code k.locals (with_result s.result (taken (reverse s.parameters) k.stack)) left e

called_fits : (signature : Signature) (code : Code) (i : Instruction) (before left : Kinds) → calls i ≡ true → after signature code i before ≡ Some left → Fits code left
unfolding after
called_fits signature code (Invoke mode m) before left is e =
    let p = some_if (counts mode m.desc) _ left e in call_fits code before (signature_of (is_static_mode mode) m.desc) left p.1
called_fits signature code i before left is e = absurd cc

one_slot : (kind : Kind) → 1 ≤ kind_slots kind
one_slot kind = elim (either (is_wide kind)) [ inl e ↦ rw e (omega arith) | inr e ↦ rw e (omega arith) ]

shallow : (operands : List Value) → length operands ≤ depth (map value_kind operands)
shallow [] = omega arith
shallow (v ∷ operands) =
    let rest = shallow operands in
    let slots = one_slot (value_kind v) in
    omega (arith, rest, slots)

-- after a call there is room for its result
pub result_room : (signature : Signature) (code : Code) (i : Instruction) (before left : Kinds) (result : Kind) (operands : List Value) → calls i ≡ true → after signature code i before ≡ Some left
    → result ∷ map value_kind operands ≡ left.stack → length operands < code.max_stack
result_room signature code i before left result operands is e gives =
    let fits : depth left.stack ≤ code.max_stack = called_fits signature code i before left is e in
    let deep : depth left.stack ≡ kind_slots result + depth (map value_kind operands) = sym (ap depth gives) in
    let slots = one_slot result in
    let few = shallow operands in
    omega (arith, fits, deep, slots, few)
