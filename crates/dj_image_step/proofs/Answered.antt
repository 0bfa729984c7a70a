-- What follows a native method's answer is what the model has.
use Rattle.std.proofs.Common.{◌≡◌, ◌<◌, ℕ, Bool, false, List, [], ◌∷◌, ◌++◌, length, drop, Option, Some, None, refl, sym, ap, subst, ◌∙◌, arith}
use Rattle.std.specs.Prelude.{Result, Ok, Err, IfOk, IfSome}
use Rattle.dj_names.specs.declared.descriptor.Ty.{Ty}
use Rattle.std.specs.declared.alloc.AllocError.{AllocError}
use Rattle.dj_names.specs.trusted.Types.{Name}
use Rattle.dj_names.specs.declared.native.NativeId.{NativeId}
use Rattle.dj_names.specs.declared.run.Charge.{Charge}
use Rattle.dj_names.specs.declared.run.Value.{Value}
use Rattle.dj_edge.specs.declared.host.HostAnswer.{HostAnswer}
use Rattle.dj_model.specs.trusted.Types.{Declared, Prefix}
use Rattle.dj_model.specs.trusted.Program.{Program}
use Rattle.dj_model.specs.trusted.Instructions.{Instruction}
use Rattle.dj_model.specs.trusted.State.{Terms, State, Frame, Flow, Part, Effect}
use Rattle.dj_model.specs.trusted.Effects.{effect}
use Rattle.dj_model.specs.trusted.Performing.{native}
use Rattle.dj_model.specs.trusted.Step.{settled, part_of}
use Rattle.dj_model.specs.Laws.{Grows}
use Rattle.dj_model.proofs.Fits.{Fits}
use Rattle.dj_model.proofs.EffectFits as effects
use Rattle.dj_heap.specs.Heaps.{LimitedHeap}
use Rattle.dj_stack.specs.Frames.{StackFrame, SameButOperands, top_method, top_operands}
use Rattle.dj_natives.specs.declared.answer.NativeAnswer.{NativeAnswer}
use Rattle.dj_natives.specs.declared.answer.NativeAnswer.TheVariants as reported
use Rattle.dj_natives.specs.Counting.{Counter}
use Rattle.dj_natives.specs.Calls.{KeepsCounter, KeepsHeap, counting_of, flow_reported, given, part_with, typed_heap}
use Rattle.dj_host.specs.Hosted.{with_answers}
use Rattle.dj_numbering.specs.Typed.{types_of}
use Rattle.dj_image.specs.Imaged.{Imaged, program_of, typed_of}
use Rattle.dj_current_method.specs.Activations.{AreActivations, declared_at, frame_seen, frames_seen}
use Rattle.dj_current_method.proofs.Standing.{same_stand}
use Rattle.dj_member_effects.specs.Literals.{LiteralTable}
use Rattle.dj_initialisation.specs.Preparing.{parts}
use Rattle.dj_initialisation.specs.Store.{store}
use Rattle.dj_settling.specs.declared.settled.Settled.{Settled}
use Rattle.dj_settling.specs.Reported.{reported_of}
use Rattle.dj_settling.specs.Settling.{IsRewritten, IsStop, KeepsStop, Settles, native_settled, settled_reported}
use Rattle.dj_settling.proofs.WayLaws.{settled_alike}
use Rattle.dj_image_step.specs.Running.{Counts, Running, account_of, state_of, terms_of}
use Rattle.dj_image_step.specs.Doing.{IsStill, TurnsBy, doing}
use Rattle.dj_image_step.specs.Natives.{AnswersNative, CallsNative, NativeSettles, arguments_in}
use Rattle.dj_image_step.proofs.Stops.{stop_kept}

-- ---- who counts

pub same_limit : (old new : LimitedHeap) (answer : NativeAnswer) → KeepsHeap old new answer → new.limit ≡ old.limit
same_limit old new reported.Nothing keeps = keeps
same_limit old new (reported.Gives v) keeps = keeps
same_limit old new (reported.Raise raised) keeps = keeps
same_limit old new reported.Stop keeps = ap (λ (h : LimitedHeap). h.limit) keeps
same_limit old new (reported.Full used size) keeps = ap (λ (h : LimitedHeap). h.limit) keeps
same_limit old new reported.Memory keeps = ap (λ (h : LimitedHeap). h.limit) keeps

counting_kept : (old new : Option Counter) → KeepsCounter old new → counting_of new ≡ counting_of old
counting_kept None None keeps = refl
counting_kept (Some old) (Some new) keeps = ap (λ l. counting_of (Some (record old { limits = l }))) keeps
counting_kept None (Some new) keeps = absurd keeps
counting_kept (Some old) None keeps = absurd keeps

counts_kept : (prefix : Prefix) (old new : Option Counter) → KeepsCounter old new → Counts prefix old → Counts prefix new
counts_kept [] None None keeps counts = counts
counts_kept (byte ∷ prefix) (Some old) (Some new) keeps counts = tt
counts_kept prefix None (Some new) keeps counts = absurd keeps
counts_kept prefix (Some old) None keeps counts = absurd keeps
counts_kept [] (Some old) (Some new) keeps counts = absurd counts
counts_kept (byte ∷ prefix) None None keeps counts = absurd counts

pub counts_rewritten : (prefix : Prefix) (counter : Option Counter) (c : Counter) → Counts prefix counter → counter ≡ Some c → IsRewritten prefix
counts_rewritten [] None c counts e = absurd cc
counts_rewritten [] (Some d) c counts e = absurd counts
counts_rewritten (byte ∷ prefix) None c counts e = absurd counts
counts_rewritten (byte ∷ prefix) (Some d) c counts e = tt

-- ---- the effect of the call

counted_before : (types : List Ty) (h : LimitedHeap) (counter : Option Counter) (p : Part) → p.heap ≡ typed_heap types h → p.account ≡ account_of counter → part_with types h counter p ≡ p
counted_before types h None p heap account = λ i. record p { heap = sym heap i }
counted_before types h (Some c) p heap account = λ i. record p { heap = sym heap i; account = sym account i }

counted_after : (types : List Ty) (h : LimitedHeap) (old new : Option Counter) (p : Part) → KeepsCounter old new → p.account ≡ account_of old
    → part_with types h new p ≡ record p { heap = typed_heap types h; account = account_of new }
counted_after types h None None p keeps account = λ i. record p { heap = typed_heap types h; account = account i }
counted_after types h (Some old) (Some new) p keeps account = refl
counted_after types h None (Some new) p keeps account = absurd keeps
counted_after types h (Some old) None p keeps account = absurd keeps

module _ (imaged : Imaged) (i : Instruction) (fs : List StackFrame) (heap mid : LimitedHeap) (old new : Option Counter) (gave : List HostAnswer) (id : NativeId) (count : ℕ) (answer : NativeAnswer)
    (calls : CallsNative imaged i fs heap id count) (answers : AnswersNative imaged heap mid old new gave id (arguments_in fs count) answer) where
  abbrev P : Program
  P = program_of imaged

  abbrev types : List Ty
  types = types_of (typed_of imaged)

  abbrev terms : Terms
  terms = record { limit = Some heap.limit; counting = counting_of old }

  abbrev own : Name
  own = (declared_at P (top_method fs)).class

  -- what the call leaves of a part
  abbrev left : Part → List HostAnswer → Part
  left x rest = record x { operands = given answer ++ drop count (top_operands fs); heap = typed_heap types mid; account = account_of new; answers = rest }

  pub effect_is : (x : Part) (rest : List HostAnswer) (flow : Flow) → x.operands ≡ top_operands fs → x.heap ≡ typed_heap types heap → x.account ≡ account_of old → x.answers ≡ gave ++ rest
      → flow_reported id (arguments_in fs count) answer ≡ Some flow → effect P imaged.prefix terms own i x ≡ Some (record { part = left x rest; flow = flow })
  effect_is x rest flow operands heap_is account answers_are reported =
      let p : Part = record x { operands = drop count (top_operands fs) } in
      let asked : with_answers (gave ++ rest) p ≡ p = λ k. record p { answers = sym answers_are k } in
      let before : part_with types heap old (with_answers (gave ++ rest) p) ≡ p = ap (part_with types heap old) asked ∙ counted_before types heap old p heap_is account in
      let after : part_with types mid new (with_answers rest p) ≡ record (with_answers rest p) { heap = typed_heap types mid; account = account_of new } =
      counted_after types mid old new (with_answers rest p) answers.counter account in
      calls terms x operands heap_is
      ∙ (ap (λ (y : Part). native P imaged.prefix terms y id (arguments_in fs count)) (sym before)
      ∙ (answers.does flow reported p rest
      ∙ ap (λ (y : Part). Some (record { part = record y { operands = given answer ++ drop count (top_operands fs) }; flow = flow })) after))

  grows : (flow : Flow) → flow_reported id (arguments_in fs count) answer ≡ Some flow → Grows (typed_heap types heap) (typed_heap types mid)
  grows flow reported =
      let x : Part = record { locals = []; operands = top_operands fs; heap = typed_heap types heap; statics = []; literals = []; account = account_of old; answers = gave ++ [] } in
      let fits : Fits terms.counting x (record { part = left x []; flow = flow }) =
      subst (λ (o : Option Effect). IfSome o (Fits terms.counting x)) (effect_is x [] flow refl refl refl refl reported) (effects.effect_fits P imaged.prefix terms own i x) in
      fits.heap

  pub mid_stop : (stop : ℕ) → IsStop imaged heap stop → IsStop imaged mid stop
  mid_stop stop is = by answer refl answers.heap where
    by : (a : NativeAnswer) → answer ≡ a → KeepsHeap heap mid a → IsStop imaged mid stop
    by reported.Nothing e keeps = stop_kept imaged heap mid stop (grows _ (ap (flow_reported id (arguments_in fs count)) e)) is
    by (reported.Gives v) e keeps = stop_kept imaged heap mid stop (grows _ (ap (flow_reported id (arguments_in fs count)) e)) is
    by (reported.Raise raised) e keeps = stop_kept imaged heap mid stop (grows _ (ap (flow_reported id (arguments_in fs count)) e)) is
    by reported.Stop e keeps = subst (λ (h : LimitedHeap). IsStop imaged h stop) (sym keeps) is
    by (reported.Full used size) e keeps = subst (λ (h : LimitedHeap). IsStop imaged h stop) (sym keeps) is
    by reported.Memory e keeps = subst (λ (h : LimitedHeap). IsStop imaged h stop) (sym keeps) is

-- ---- what is left of the frames

taken_seen : (program : Program) (f : StackFrame) (below mid : List StackFrame) (operands : List Value) → SameButOperands (f ∷ below) mid → top_operands mid ≡ operands
    → record (frame_seen program f) { operands = operands } ∷ frames_seen program below ≡ frames_seen program mid
taken_seen program f below [] operands same e = absurd (let count = same.frames.count in omega (arith, count))
taken_seen program f below (g ∷ rest) operands same e = λ i. record {
  method = declared_at program (sym same.frames.method i);
  number = sym same.number i;
  locals = sym same.locals i;
  operands = sym e i;
  paid = false;
} ∷ frames_seen program (sym same.frames.below i)

pub taken_stand : (imaged : Imaged) (old new : List StackFrame) → SameButOperands old new → AreActivations imaged old → AreActivations imaged new
taken_stand imaged old new same stand = same_stand imaged old new same.frames stand

pub taken_some : (old new : List StackFrame) → SameButOperands old new → 0 < length old → 0 < length new
taken_some old new same some = let count = same.frames.count in omega (arith, count, some)

-- ---- the whole

module _ (imaged : Imaged) (i : Instruction) (flags : List Bool) (statics : List ℕ) (literals : LiteralTable) (heap mid last : LimitedHeap) (old new : Option Counter) (stop next : ℕ)
    (gave : List HostAnswer) (id : NativeId) (count : ℕ) (answer : NativeAnswer) (taken frames : List StackFrame) where
  abbrev begun : List StackFrame → Running
  begun fs = record { parts = parts flags (store heap statics literals) fs; counter = old; stop = stop }

  abbrev ended : Running
  ended = record { parts = parts flags (store last statics literals) frames; counter = new; stop = next }

  says : (fs : List StackFrame) (result : Settled) → 0 < length fs → CallsNative imaged i fs heap id count → AnswersNative imaged heap mid old new gave id (arguments_in fs count) answer
      → SameButOperands fs taken → top_operands taken ≡ drop count (top_operands fs)
      → NativeSettles imaged (account_of new).exceeded id (arguments_in fs count) answer mid last taken frames result
      → (rest : List HostAnswer) → reported_of (doing imaged i (terms_of (begun fs)) (state_of imaged (gave ++ rest) (begun fs))) ≡ settled_reported result (state_of imaged rest ended)
  says [] result some calls answers same operands settles rest = absurd (omega (arith, some))
  says (f ∷ below) result some calls answers same operands settles rest =
      let P : Program = program_of imaged in
      let terms : Terms = terms_of (begun (f ∷ below)) in
      let s : State = state_of imaged (gave ++ rest) (begun (f ∷ below)) in
      let F : Frame Declared = frame_seen P f in
      let B : List (Frame Declared) = frames_seen P below in
      let G : Frame Declared = record F { operands = drop count f.operands } in
      let H : Frame Declared = record F { operands = given answer ++ drop count f.operands } in
      let t : State = record s { heap = typed_heap (types_of (typed_of imaged)) mid; account = account_of new; answers = rest } in
      ap (λ (o : Option Effect). reported_of (settled P imaged.prefix terms s F B o))
      (effect_is imaged i (f ∷ below) heap mid old new gave id count answer calls answers (part_of F s) rest settles.flow refl refl refl refl settles.reported)
      ∙ (settled_alike P imaged.prefix terms t H B settles.flow
      ∙ (sym (settled_alike P imaged.prefix terms (record t { frames = G ∷ B }) H B settles.flow)
      ∙ (ap (λ (frames : List (Frame Declared)). reported_of (native_settled P imaged.prefix (given answer) settles.flow terms (record t { frames = frames })))
      (taken_seen P f below taken (drop count f.operands) same operands)
      ∙ settles.settles.answers terms t (ap Some (sym (same_limit heap mid answer answers.heap))) refl)))

  pub native_turns : (fs : List StackFrame) (result : Settled) → 0 < length fs → IsStill imaged (begun fs) → CallsNative imaged i fs heap id count
      → AnswersNative imaged heap mid old new gave id (arguments_in fs count) answer → SameButOperands fs taken → top_operands taken ≡ drop count (top_operands fs)
      → NativeSettles imaged (account_of new).exceeded id (arguments_in fs count) answer mid last taken frames result → KeepsStop imaged last stop next
      → TurnsBy imaged (doing imaged i) (begun fs) ended gave result
  native_turns fs result some still calls answers same operands settles kept = record {
    says = says fs result some calls answers same operands settles;
    limit = settles.settles.limit ∙ same_limit heap mid answer answers.heap;
    counting = counting_kept old new answers.counter;
    still = record {
      flags = still.flags;
      store = record { statics = still.store.statics; count = still.store.count; texts = still.store.texts };
      activations = settles.settles.stand;
      known = settles.settles.known;
      counts = counts_kept imaged.prefix old new answers.counter still.counts;
    };
    stop = kept;
  }

  pub native_then : (fs : List StackFrame) (result : Result Settled AllocError) → 0 < length fs → IsStill imaged (begun fs) → CallsNative imaged i fs heap id count
      → AnswersNative imaged heap mid old new gave id (arguments_in fs count) answer → SameButOperands fs taken → top_operands taken ≡ drop count (top_operands fs)
      → IfOk result (NativeSettles imaged (account_of new).exceeded id (arguments_in fs count) answer mid last taken frames) → IfOk result (λ _. KeepsStop imaged last stop next)
      → IfOk result (TurnsBy imaged (doing imaged i) (begun fs) ended gave)
  native_then fs (Err e) some still calls answers same operands settles kept = tt
  native_then fs (Ok result) some still calls answers same operands settles kept = native_turns fs result some still calls answers same operands settles kept

pub settles_then : (imaged : Imaged) (exceeded : Option Charge) (id : NativeId) (args : List Value) (answer : NativeAnswer) (before after : LimitedHeap) (old new : List StackFrame)
    (result : Result Settled AllocError) (flow : Flow) → flow_reported id args answer ≡ Some flow
    → IfOk result (λ settled. Settles imaged exceeded (native_settled (program_of imaged) imaged.prefix (given answer) flow) before after old new settled)
    → IfOk result (NativeSettles imaged exceeded id args answer before after old new)
settles_then imaged exceeded id args answer before after old new (Err e) flow reported settles = tt
settles_then imaged exceeded id args answer before after old new (Ok result) flow reported settles = record { flow = flow; reported = reported; settles = settles }
