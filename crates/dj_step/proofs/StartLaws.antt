-- The frame with which a run begins.
use Rattle.std.proofs.Common.{◌≡◌, ◌<◌, ℕ, zero, suc, ◌-◌, List, [], ◌∷◌, length, set, replicate, Option, Some, None, sym, ap, subst, ◌∙◌, arith, false}
use Rattle.std.specs.Prelude.{slice_get}
use Rattle.std.proofs.lemmas.Option.{same_Some, none-some}
use Rattle.dj_names.specs.declared.run.Value.TheVariants as values
use Rattle.dj_model.specs.trusted.Types.{Declared}
use Rattle.dj_model.specs.trusted.Program.{Program, Method, Code, Runs, code_of}
use Rattle.dj_model.specs.trusted.Linking.{FoundMethod}
use Rattle.dj_model.specs.trusted.Initialisation.{locals_for, new_frame}
use Rattle.dj_model.specs.Sound.{IsSound}
use Rattle.dj_model.specs.Standing.{IsEntry}
use Rattle.dj_model.proofs.SoundFrames.{code_is, starts_ready}
use Rattle.dj_stack.specs.Frames as stack
use Rattle.dj_stack.specs.Frames.{StackFrame, SameButLocals, top_locals}
use Rattle.dj_program.specs.trusted.Codes.{code_in}
use Rattle.dj_program.specs.Views.{parts_of}
use Rattle.dj_program.specs.declared.code.MethodCode.{MethodCode}
use Rattle.dj_numbering.specs.Members.{all_methods}
use Rattle.dj_numbering.proofs.Starts.{some_there}
use Rattle.dj_image.specs.Imaged.{Imaged, program_of}
use Rattle.dj_current_method.specs.Activations.{declared_at, frames_seen, AreActivations}
use Rattle.dj_current_method.specs.Reported.{IsCodeOf}
use Rattle.dj_current_method.proofs.Numbers.{method_of_number}
use Rattle.dj_step.specs.Running.{HoldsEntry}

module _ (imaged : Imaged) (n : ℕ) (sound : IsSound (program_of imaged) imaged.prefix) (entry : IsEntry (program_of imaged) (declared_at (program_of imaged) n)) where
  abbrev program : Program
  program = program_of imaged

  abbrev m : Declared
  m = declared_at program n

  own_code : code_of program m ≡ Some entry.code
  own_code = code_is program m entry.method entry.code entry.there entry.body

  pub entry_runs : code_of program m ≡ None → ⊥
  entry_runs none = none-some entry.code (sym none ∙ own_code)

  same_body : (a b : Code) → Runs a ≡ Runs b → a ≡ b
  same_body a b e = cc

  room_of : (code : Code) → code ≡ entry.code → 0 < code.max_locals
  room_of code is =
      let ready = starts_ready program imaged.prefix sound m entry.method entry.code entry.signature entry.there entry.body entry.described (values.Ref 1 ∷ []) (sym entry.takes) in
      let method : ready.at.method ≡ entry.method = same_Some ready.at.method entry.method (sym ready.at.there ∙ entry.there) in
      let body : ready.at.code ≡ entry.code = same_body ready.at.code entry.code (sym ready.at.body ∙ (ap (λ (x : Method). x.body) method ∙ entry.body)) in
      let long : length (locals_for (code_of program m) (values.Ref 1 ∷ [])) ≡ entry.code.max_locals = ready.at.room ∙ ap (λ (c : Code). c.max_locals) body in
      let count : length (locals_for (Some entry.code) (values.Ref 1 ∷ [])) ≡ entry.code.max_locals = subst (λ (o : Option Code). length (locals_for o (values.Ref 1 ∷ [])) ≡ entry.code.max_locals) own_code long in
      let some : 0 < entry.code.max_locals = omega (arith, count) in
      subst (λ (c : Code). 0 < c.max_locals) (sym is) some

  module _ (code : MethodCode) (reported : IsCodeOf imaged n code) where
    code_same : code_in reported.pool (parts_of code) ≡ entry.code
    code_same = same_Some (code_in reported.pool (parts_of code)) entry.code (sym reported.is ∙ own_code)

    pub entry_room : 0 < code.max_locals
    unfolding code_in
    entry_room = room_of (code_in reported.pool (parts_of code)) code_same

    locals_are : (k : ℕ) → k ≡ entry.code.max_locals → 0 < k → locals_for (code_of program m) (values.Ref 1 ∷ []) ≡ set (replicate k None) 0 (Some (values.Ref 1))
    locals_are zero is some = absurd (omega (arith, some))
    locals_are (suc k) is some =
        let left : entry.code.max_locals - 1 ≡ k = omega (arith, is) in
        ap (λ (o : Option Code). locals_for o (values.Ref 1 ∷ [])) own_code
        ∙ ap (λ (count : ℕ). Some (values.Ref 1) ∷ replicate count None) left

    max_is : code.max_locals ≡ entry.code.max_locals
    unfolding code_in
    max_is = ap (λ (c : Code). c.max_locals) code_same

    room_is : code.max_stack ≡ entry.code.max_stack
    unfolding code_in
    room_is = ap (λ (c : Code). c.max_stack) code_same

    seen : (new : List StackFrame) → SameButLocals (stack.new_frame n code.max_locals code.max_stack ∷ []) new
        → top_locals new ≡ set (replicate code.max_locals None) 0 (Some (values.Ref 1)) → frames_seen program new ≡ new_frame program m (values.Ref 1 ∷ []) ∷ []
    seen [] same locals = absurd (omega (arith, same.frames.count))
    seen (g ∷ rest) same locals =
        let own : g.locals ≡ locals_for (code_of program m) (values.Ref 1 ∷ []) = locals ∙ sym (locals_are code.max_locals max_is entry_room) in
        λ i. record {
          method = declared_at program (same.frames.method i);
          number = same.number i;
          locals = own i;
          operands = same.operands i;
          paid = false;
        } ∷ frames_seen program (same.frames.below i)

    stands : (new : List StackFrame) → n < length (all_methods program) → SameButLocals (stack.new_frame n code.max_locals code.max_stack ∷ []) new → AreActivations imaged new
    stands [] lt same = tt
    stands (g ∷ rest) lt same =
        let found : (found : FoundMethod) × (slice_get (all_methods program) n ≡ Some found) = some_there (all_methods program) n lt in
        let method : found.0.method ≡ entry.method = same_Some found.0.method entry.method (sym (method_of_number program sound.formed n found.0 found.1) ∙ entry.there) in (
          record {
            found = found.0;
            there = ap (slice_get (all_methods program)) same.frames.method ∙ found.1;
            code = entry.code;
            runs = ap (λ (x : Method). x.body) method ∙ entry.body;
            room = same.frames.room ∙ room_is;
          },
          subst (λ (frames : List StackFrame). AreActivations imaged frames) (sym same.frames.below) tt,
        )

    pub entry_holds : (old mid new : List StackFrame) → n < length (all_methods program) → old ≡ [] → mid ≡ stack.new_frame n code.max_locals code.max_stack ∷ old → SameButLocals mid new
        → top_locals new ≡ set (top_locals mid) 0 (Some (values.Ref 1)) → HoldsEntry imaged n new
    entry_holds old mid new lt none pushed same locals =
        let alone : mid ≡ stack.new_frame n code.max_locals code.max_stack ∷ [] = pushed ∙ ap (λ (frames : List StackFrame). stack.new_frame n code.max_locals code.max_stack ∷ frames) none in
        let from : SameButLocals (stack.new_frame n code.max_locals code.max_stack ∷ []) new = subst (λ (frames : List StackFrame). SameButLocals frames new) alone same in
        record {
          seen = seen new from (locals ∙ ap (λ (frames : List StackFrame). set (top_locals frames) 0 (Some (values.Ref 1))) alone);
          stand = stands new lt from;
        }
