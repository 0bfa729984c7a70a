-- What a call of a native method that the host answers does to the heap, and which answers it takes.
use Rattle.std.specs.Prelude.{◌≡◌, ⊤, Bool, true, false, ℤ, List, [], ◌∷◌, ◌++◌, Option, Some, None, IsSome}
use Rattle.dj_names.specs.declared.descriptor.Ty.{Ty}
use Rattle.dj_names.specs.declared.run.Value.{Value}
use Rattle.dj_names.specs.declared.native.NativeId.{NativeId}
use Rattle.dj_names.specs.declared.native.NativeId.TheVariants as natives
use Rattle.dj_edge.specs.declared.host.HostAnswer.{HostAnswer}
use Rattle.dj_heap.specs.Heaps.{LimitedHeap}
use Rattle.dj_model.specs.trusted.Types.{Prefix}
use Rattle.dj_model.specs.trusted.Program.{Program}
use Rattle.dj_model.specs.trusted.State.{Part, Flow}
use Rattle.dj_model.specs.trusted.Natives.{Question, asks, answered}
use Rattle.dj_model.specs.trusted.Performing.{native}
use Rattle.dj_natives.specs.declared.answer.NativeAnswer.{NativeAnswer}
use Rattle.dj_natives.specs.declared.answer.NativeAnswer.TheVariants as reported
use Rattle.dj_natives.specs.Calls.{terms_of, part_with, effect_with, flow_reported, KeepsHeap}
use Rattle.dj_natives.specs.Known.{AreKnown}
use Rattle.dj_host.specs.trusted.Hosted.{given_since}

-- the native methods of the raw library that the host answers
abbrev pub is_hosted : NativeId → Bool
is_hosted natives.HostHashCode = true
is_hosted natives.HostToString = true
is_hosted natives.HostIdentityHashCode = true
is_hosted natives.NanoTime = true
is_hosted natives.CurrentTimeMillis = true
is_hosted id = false

-- ---- what the host gives

-- no answer, or one answer of the kind that the question asks for
abbrev pub AreOfKind : Option Question → List HostAnswer → Type 0
AreOfKind question [] = ⊤
AreOfKind None (first ∷ more) = ⊥
AreOfKind (Some question) (first ∷ more) = IsSome (answered question first) × (more ≡ [])

-- ---- what a call does

abbrev pub with_answers : List HostAnswer → Part → Part
with_answers answers p = record p { answers = answers }

-- where these answers come first, the model's native method takes them and leaves the rest, and has this effect, whatever the rest of the state is.
-- Nothing is said of a call that had no memory
abbrev pub Takes : Program → Prefix → List Ty → LimitedHeap → LimitedHeap → List HostAnswer → NativeId → List Value → NativeAnswer → Option Flow → Type 0
Takes program prefix types old new taken id args result None = ⊤
Takes program prefix types old new taken id args result (Some flow) = (p : Part) (rest : List HostAnswer)
    → native program prefix (terms_of old None) (part_with types old None (with_answers (taken ++ rest) p)) id args
    ≡ Some (effect_with types new None result (with_answers rest p) flow)

-- before and after are all answers that the host had given before and after the call
pub record CallsHost (program : Program) (prefix : Prefix) (types : List Ty) (old new : LimitedHeap) (before after : List HostAnswer) (id : NativeId) (args : List Value)
    (result : NativeAnswer) : Type 0 where
  pub does : Takes program prefix types old new (given_since before after) id args result (flow_reported id args result)
  pub heap : KeepsHeap old new result
  pub known : AreKnown types new
  pub given : after ≡ before ++ given_since before after
  pub kind : AreOfKind (asks id args) (given_since before after)

-- ---- parts of a call

-- the host's answer is of this kind, and the method returns it; where there was no memory the host gave none
abbrev pub Passes : (ℤ → HostAnswer) → (ℤ → Value) → List HostAnswer → List HostAnswer → NativeAnswer → Type 0
Passes kind value before after (reported.Gives v) = (z : ℤ) × (after ≡ before ++ kind z ∷ []) × (v ≡ value z)
Passes kind value before after reported.Memory = after ≡ before
Passes kind value before after _ = ⊥
