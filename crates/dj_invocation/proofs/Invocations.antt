-- Calls on a receiver, as the code makes them.
use Rattle.std.proofs.Common.{◌≡◌, ℕ, ◌+◌, true, List, length, reverse, Some, None, sym, ap, subst, ◌∙◌}
use Rattle.dj_names.specs.declared.descriptor.Kind.{Kind}
use Rattle.dj_names.specs.declared.run.Raised.TheVariants as raises
use Rattle.dj_names.specs.declared.run.Outcome.TheVariants as outcomes
use Rattle.dj_names.specs.trusted.Types.{parameters_of}
use Rattle.dj_model.specs.trusted.Linking.{FoundMethod, resolve_method}
use Rattle.dj_model.specs.trusted.State.{Raise, Goes, End}
use Rattle.dj_model.specs.trusted.Members.{kinds_of}
use Rattle.dj_stack.specs.Frames.{StackFrame, top_operands}
use Rattle.dj_numbering.specs.declared.types.MethodId.{MethodId}
use Rattle.dj_image.specs.Imaged.{program_of}
use Rattle.dj_invocation.specs.declared.choosing.Mode.TheVariants as modes
use Rattle.dj_invocation.specs.declared.choosing.Chosen.TheVariants as chosen
use Rattle.dj_invocation.specs.Operands.{fit, receiver_in}
use Rattle.dj_invocation.specs.Receivers.{typed_heap}
use Rattle.dj_invocation.specs.Choosing.{IsMethod, IsChosen, reported_mode, choice_of}
use Rattle.dj_invocation.specs.Invoking.{Site, CallIs, GoesOn, RunsBody, left_values, left_frames}
use Rattle.dj_invocation.proofs.Found.{resolved_own, resolved_described}
use Rattle.dj_invocation.proofs.Sites.{is_null, is_broken, is_method, call_no_receiver, runs_received, goes_null, goes_broken}

module _ (s : Site) (resolved : FoundMethod) (kinds : List Kind) (count : ℕ) (n : count ≡ length kinds)
    (found : resolve_method (program_of s.imaged) s.imaged.prefix s.member ≡ Some resolved) (kinds_are : kinds_of (parameters_of s.member.desc) ≡ Some kinds)
    (fits : fit (reverse kinds) (top_operands s.frames) ≡ true) (other : reported_mode s.mode ≡ modes.Static → ⊥) where
  pub absent : receiver_in (left_values s count) ≡ None → CallIs s (λ terms p. None)
  absent none = call_no_receiver s resolved kinds found kinds_are other fits (sym (ap (λ (k : ℕ). receiver_in (left_values s k)) n) ∙ none)

  some_there : (r : ℕ) → Some r ≡ receiver_in (left_values s count) → receiver_in (left_values s (length kinds)) ≡ Some r
  some_there r e = sym (e ∙ ap (λ (k : ℕ). receiver_in (left_values s k)) n)

  pub record Taken (id : MethodId) : Type 0 where
    pub method : FoundMethod
    pub there : IsMethod (program_of s.imaged) id method
    pub runs : RunsBody s (count + 1) count method

  pub method_runs : (r : ℕ) (id : MethodId) → Some r ≡ receiver_in (left_values s count)
      → IsChosen (program_of s.imaged) (chosen.Method id) (choice_of (program_of s.imaged) s.imaged.prefix (typed_heap s.imaged s.heap) s.own s.mode resolved r) → Taken id
  method_runs r id some reported =
      let t = is_method (program_of s.imaged) id (choice_of (program_of s.imaged) s.imaged.prefix (typed_heap s.imaged s.heap) s.own s.mode resolved r) reported in
      record {
        method = t.0;
        there = t.2;
        runs = subst (λ (k : ℕ). RunsBody s (k + 1) k t.0) (sym n)
            (runs_received s resolved kinds found kinds_are r t.0 other fits (some_there r some) (resolved_own (program_of s.imaged) s.imaged.prefix s.member resolved found)
            (resolved_described (program_of s.imaged) s.imaged.prefix s.member resolved found) t.1);
      }

  pub null_goes : (r : ℕ) (new : List StackFrame) → Some r ≡ receiver_in (left_values s count)
      → IsChosen (program_of s.imaged) chosen.Null (choice_of (program_of s.imaged) s.imaged.prefix (typed_heap s.imaged s.heap) s.own s.mode resolved r)
      → new ≡ left_frames s (count + 1) → GoesOn s new (Goes (Raise raises.NullPointer))
  null_goes r new some reported left =
      goes_null s resolved kinds found kinds_are r new other fits (some_there r some)
      (is_null (program_of s.imaged) (choice_of (program_of s.imaged) s.imaged.prefix (typed_heap s.imaged s.heap) s.own s.mode resolved r) reported)
      (left ∙ ap (λ (k : ℕ). left_frames s (k + 1)) n)

  pub link_goes : (r : ℕ) (new : List StackFrame) → Some r ≡ receiver_in (left_values s count)
      → IsChosen (program_of s.imaged) chosen.Link (choice_of (program_of s.imaged) s.imaged.prefix (typed_heap s.imaged s.heap) s.own s.mode resolved r)
      → new ≡ left_frames s (count + 1) → GoesOn s new (End outcomes.Link)
  link_goes r new some reported left =
      goes_broken s resolved kinds found kinds_are r new other fits (some_there r some)
      (is_broken (program_of s.imaged) (choice_of (program_of s.imaged) s.imaged.prefix (typed_heap s.imaged s.heap) s.own s.mode resolved r) reported)
      (left ∙ ap (λ (k : ℕ). left_frames s (k + 1)) n)
