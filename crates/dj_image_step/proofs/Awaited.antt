-- Answers of native methods for which a run is ready.
use Rattle.std.proofs.Common.{◌≡◌, ◌<◌, ℕ, Bool, true, false, List, length, refl, sym, subst}
use Rattle.std.proofs.lemmas.Bool.{false≢true}
use Rattle.dj_names.specs.declared.run.Value.{Value}
use Rattle.dj_names.specs.declared.native.NativeId.{NativeId}
use Rattle.dj_names.specs.declared.native.NativeId.TheVariants as natives
use Rattle.dj_model.specs.trusted.Natives.{reference}
use Rattle.dj_heap.specs.Heaps.{LimitedHeap}
use Rattle.dj_stack.specs.Frames.{StackFrame, top_operands, top_room}
use Rattle.dj_natives.specs.declared.answer.NativeAnswer.{NativeAnswer}
use Rattle.dj_natives.specs.declared.answer.NativeAnswer.TheVariants as reported
use Rattle.dj_image.specs.Imaged.{Imaged}
use Rattle.dj_settling.specs.Settling.{IsRewritten, IsThrown, StopsBy}
use Rattle.dj_image_step.specs.Natives.{IsAwaited}

-- ---- what may stop the run

pub again : (imaged : Imaged) (h : LimitedHeap) (id : NativeId) (args : List Value) (r : ℕ) → id ≡ natives.CheckCatch → r ≡ reference 0 args → IsThrown imaged h r → StopsBy imaged h id args
again imaged h id args r is e thrown = subst (λ (i : NativeId). StopsBy imaged h i args) (sym is) (subst (IsThrown imaged h) e thrown)

pub by_charge : (imaged : Imaged) (h : LimitedHeap) (id : NativeId) (args : List Value) → (id ≡ natives.CheckCatch → ⊥) → IsRewritten imaged.prefix → StopsBy imaged h id args
by_charge imaged h natives.CheckCatch args other by = absurd (other refl)
by_charge imaged h id args other by = by

-- ---- answers

abbrev pub goes_plainly : NativeAnswer → Bool
goes_plainly reported.Nothing = true
goes_plainly (reported.Raise raised) = true
goes_plainly (reported.Full used size) = true
goes_plainly answer = false

module _ (imaged : Imaged) (h : LimitedHeap) (frames : List StackFrame) (id : NativeId) (args : List Value) where
  pub plainly_awaited : (answer : NativeAnswer) → goes_plainly answer ≡ true → IsAwaited imaged h frames id args answer
  plainly_awaited reported.Nothing e = record { flow = _; reported = refl; expected = tt }
  plainly_awaited (reported.Raise raised) e = record { flow = _; reported = refl; expected = tt }
  plainly_awaited (reported.Full used size) e = record { flow = _; reported = refl; expected = tt }
  plainly_awaited (reported.Gives v) e = absurd (false≢true e)
  plainly_awaited reported.Stop e = absurd (false≢true e)
  plainly_awaited reported.Memory e = absurd (false≢true e)

  pub given_awaited : (answer : NativeAnswer) (v : Value) → answer ≡ reported.Gives v → length (top_operands frames) < top_room frames → IsAwaited imaged h frames id args answer
  given_awaited answer v is room = subst (IsAwaited imaged h frames id args) (sym is) (record { flow = _; reported = refl; expected = room })

  pub stop_awaited : (answer : NativeAnswer) → answer ≡ reported.Stop → StopsBy imaged h id args → IsAwaited imaged h frames id args answer
  stop_awaited answer is by = subst (IsAwaited imaged h frames id args) (sym is) (record { flow = _; reported = refl; expected = by })
