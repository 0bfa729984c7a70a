-- Exceptions that are thrown, in the model and over an image.
use Rattle.std.proofs.Common.{◌≡◌, ◌<◌, ℕ, ◌+◌, Bool, true, false, List, length, Option, Some, None, IsSome, nat_lt, if◌then◌else◌, refl, sym, ap, subst, ◌∙◌, inl, inr, arith}
use Rattle.std.specs.Prelude.{replicate, Result, Ok, Err, IfOk}
use Rattle.std.specs.Option.{option_map}
use Rattle.std.proofs.lemmas.Bool.{le-ltb, lt-ltb}
use Rattle.std.proofs.lemmas.List.{length-replicate}
use Rattle.dj_names.specs.declared.run.Charge.{Charge}
use Rattle.dj_names.specs.declared.run.Message.{Message}
use Rattle.dj_names.specs.declared.run.Outcome.{Outcome}
use Rattle.dj_names.specs.declared.run.Outcome.TheVariants as outcomes
use Rattle.dj_names.specs.declared.descriptor.Ty.{Ty}
use Rattle.dj_names.specs.trusted.Types.{Name}
use Rattle.dj_names.specs.trusted.Heaps.{Object, Instance, Heap, class_of, object_size, instance_size, with_new, next_number}
use Rattle.dj_names.specs.Heaps.{object_map, heap_map}
use Rattle.dj_model.specs.trusted.Types.{is_stop}
use Rattle.dj_model.specs.trusted.Linking.{member_class}
use Rattle.dj_model.specs.trusted.State.{Terms, State}
use Rattle.dj_model.specs.trusted.Arrays.{passes_limit}
use Rattle.dj_model.specs.trusted.Performing.{class_in, class_at_number}
use Rattle.dj_model.specs.trusted.Step.{StepAnswer, Ended, stopped_by, message_of, throw}
use Rattle.dj_model.proofs.MappedHeaps.{class_of_mapped, new_mapped, number_alike}
use Rattle.dj_library_types.specs.Numbered as numbered
use Rattle.dj_heap.specs.Heaps.{LimitedHeap, object_in, Makes, Refuses}
use Rattle.dj_heap.specs.declared.errors.HeapError.TheVariants as errors
use Rattle.dj_stack.specs.Frames.{StackFrame}
use Rattle.dj_natives.specs.Calls.{typed_heap}
use Rattle.dj_natives.specs.Known.{AreKnown}
use Rattle.dj_natives.proofs.SeenFacts.{object_alike}
use Rattle.dj_natives.proofs.HeapLaws.{made_there}
use Rattle.dj_natives.proofs.Performed.{known_made}
use Rattle.dj_numbering.specs.Typed.{types_of, type_at}
use Rattle.dj_image.specs.Imaged.{Imaged, program_of, typed_of}
use Rattle.dj_image.specs.Numbering.{AreSettled}
use Rattle.dj_current_method.specs.Activations.{AreActivations}
use Rattle.dj_unwinding.specs.Unwinding.{IsClassNumber, IsUnwound, unwound_reported, frames_unwound, class_name_at}
use Rattle.dj_unwinding.specs.declared.unwinding.Unwound.{Unwound}
use Rattle.dj_unwinding.specs.declared.unwinding.Unwound.TheVariants as unwinds
use Rattle.std.specs.declared.alloc.AllocError.{AllocError}
use Rattle.dj_settling.specs.declared.settled.Settled.{Settled}
use Rattle.dj_settling.specs.declared.settled.Settled.TheVariants as settles
use Rattle.dj_settling.specs.Reported.{Over, reported_of}
use Rattle.dj_settling.specs.Settling.{seen_in, settled_reported, Settles, IsThrown, IsMade, stopping, uncaught_outcome, settled_by, throwing, throwing_new}
use Rattle.dj_settling.proofs.MessageLaws.{message_alike}
use Rattle.dj_settling.proofs.EndLaws.{class_typed, class_within, named_by_type}

-- ---- the class of an object

pub class_there : (types : List Ty) (h : LimitedHeap) (r class : ℕ) → option_map class_of (object_in h r) ≡ Some class → class_at_number (typed_heap types h) r ≡ numbered.type_at types class
class_there types h r class e = ap class_in (object_alike types h r) ∙ by (object_in h r) e where
  by : (o : Option (Object ℕ)) → option_map class_of o ≡ Some class → class_in (option_map (object_map (numbered.type_at types)) o) ≡ numbered.type_at types class
  by None e = absurd cc
  by (Some object) e = let same : class_of object ≡ class = cc in class_of_mapped (numbered.type_at types) object ∙ ap (numbered.type_at types) same

pub class_is : (imaged : Imaged) (h : LimitedHeap) (r class : ℕ) → IsThrown imaged h r → option_map class_of (object_in h r) ≡ Some class → IsClassNumber (typed_of imaged) class
class_is imaged h r class thrown e =
    let is : Some (class_of thrown.object) ≡ Some class = sym (ap (option_map class_of) thrown.there) ∙ e in
    let same : class_of thrown.object ≡ class = cc in
    subst (IsClassNumber (typed_of imaged)) same thrown.class

pub is_there : (imaged : Imaged) (h : LimitedHeap) (r : ℕ) → IsThrown imaged h r → IsSome (object_in h r)
is_there imaged h r thrown = subst IsSome (sym thrown.there) refl

pub plain_class : (imaged : Imaged) (h : LimitedHeap) (r class : ℕ) → AreSettled (typed_of imaged) → IsThrown imaged h r → option_map class_of (object_in h r) ≡ Some class → class < length (program_of imaged)
plain_class imaged h r class settled thrown e = class_within imaged class settled (class_is imaged h r class thrown e)

-- ---- how it ends

module _ (imaged : Imaged) (h : LimitedHeap) (exceeded : Option Charge) (class exception : ℕ) (lt : class < length (program_of imaged)) (new : List StackFrame)
    (s : State) (charge : s.account.exceeded ≡ exceeded) where
  abbrev seen : List StackFrame → State
  seen frames = seen_in imaged h frames s

  ends : (test : Bool) (outcome : Outcome)
      → reported_of (Ended (if test then stopped_by s.account.exceeded outcome else outcome) (seen new)) ≡ Over (stopped_by (if test then exceeded else None) outcome) s.account s.answers
  ends true outcome = ap (λ (c : Option Charge). Over (stopped_by c outcome) s.account s.answers) charge
  ends false outcome = refl

  reported_end : (old : List StackFrame) (how : Unwound) → reported_of (unwound_reported imaged (seen old) (type_at (typed_of imaged) class) exception new how)
      ≡ settled_reported (settled_by imaged h exceeded class exception how) (seen new)
  reported_end old unwinds.Caught = refl
  reported_end old (unwinds.Init left) =
      ends (is_stop imaged.prefix (type_at (typed_of imaged) class)) (outcomes.Init (class_name_at (program_of imaged) left) (member_class imaged.prefix (type_at (typed_of imaged) class)) (message_of (typed_heap (types_of (typed_of imaged)) h) exception))
      ∙ (ap (λ (n : Name). Over (stopped_by (stopping imaged exceeded class) (outcomes.Init (class_name_at (program_of imaged) left) n (message_of (typed_heap (types_of (typed_of imaged)) h) exception))) s.account s.answers) (sym (named_by_type imaged class lt))
      ∙ ap (λ (m : Message). Over (stopped_by (stopping imaged exceeded class) (outcomes.Init (class_name_at (program_of imaged) left) (class_name_at (program_of imaged) class) m)) s.account s.answers) (message_alike (types_of (typed_of imaged)) h exception))
  reported_end old unwinds.Threw =
      ends (is_stop imaged.prefix (type_at (typed_of imaged) class)) (outcomes.Threw (member_class imaged.prefix (type_at (typed_of imaged) class)) (message_of (typed_heap (types_of (typed_of imaged)) h) exception))
      ∙ (ap (λ (n : Name). Over (stopped_by (stopping imaged exceeded class) (outcomes.Threw n (message_of (typed_heap (types_of (typed_of imaged)) h) exception))) s.account s.answers) (sym (named_by_type imaged class lt))
      ∙ ap (λ (m : Message). Over (stopped_by (stopping imaged exceeded class) (outcomes.Threw (class_name_at (program_of imaged) class) m)) s.account s.answers) (message_alike (types_of (typed_of imaged)) h exception))

-- the exception went so up the frames
pub threw : (imaged : Imaged) (h : LimitedHeap) (exceeded : Option Charge) (class exception : ℕ) (old new : List StackFrame) (how : Unwound) → class < length (program_of imaged)
    → AreKnown (types_of (typed_of imaged)) h → option_map class_of (object_in h exception) ≡ Some class → IsUnwound imaged (type_at (typed_of imaged) class) exception old new how
    → AreActivations imaged new → Settles imaged exceeded (throwing imaged exception) h h old new (settled_by imaged h exceeded class exception how)
threw imaged h exceeded class exception old new how lt known is gone stand = record {
  answers = λ terms s limit charge.
      ap (λ (ty : Ty). reported_of (frames_unwound imaged (seen_in imaged h old s) ty exception old)) (class_there (types_of (typed_of imaged)) h exception class is)
      ∙ (ap reported_of (gone (seen_in imaged h old s)) ∙ reported_end imaged h exceeded class exception lt new s charge old how);
  limit = refl;
  known = known;
  stand = stand;
}

pub threw_caught : (imaged : Imaged) (h : LimitedHeap) (exceeded : Option Charge) (class exception : ℕ) (old new : List StackFrame) → class < length (program_of imaged)
    → AreKnown (types_of (typed_of imaged)) h → option_map class_of (object_in h exception) ≡ Some class → IsUnwound imaged (type_at (typed_of imaged) class) exception old new unwinds.Caught
    → AreActivations imaged new → Settles imaged exceeded (throwing imaged exception) h h old new settles.Went
threw_caught imaged h exceeded class exception old new lt known is gone stand = threw imaged h exceeded class exception old new unwinds.Caught lt known is gone stand

pub threw_out : (imaged : Imaged) (h : LimitedHeap) (exceeded : Option Charge) (class exception left : ℕ) (old new : List StackFrame) (result : Result Settled AllocError) → class < length (program_of imaged)
    → AreKnown (types_of (typed_of imaged)) h → option_map class_of (object_in h exception) ≡ Some class → IsUnwound imaged (type_at (typed_of imaged) class) exception old new (unwinds.Init left)
    → AreActivations imaged new → IfOk result (λ settled. settled ≡ settles.Ended (uncaught_outcome imaged h exceeded class exception (Some left)))
    → IfOk result (λ settled. Settles imaged exceeded (throwing imaged exception) h h old new settled)
threw_out imaged h exceeded class exception left old new (Err e) lt known is gone stand ends = tt
threw_out imaged h exceeded class exception left old new (Ok result) lt known is gone stand ends =
    subst (Settles imaged exceeded (throwing imaged exception) h h old new) (sym ends) (threw imaged h exceeded class exception old new (unwinds.Init left) lt known is gone stand)

pub threw_last : (imaged : Imaged) (h : LimitedHeap) (exceeded : Option Charge) (class exception : ℕ) (old new : List StackFrame) (result : Result Settled AllocError) → class < length (program_of imaged)
    → AreKnown (types_of (typed_of imaged)) h → option_map class_of (object_in h exception) ≡ Some class → IsUnwound imaged (type_at (typed_of imaged) class) exception old new unwinds.Threw
    → AreActivations imaged new → IfOk result (λ settled. settled ≡ settles.Ended (uncaught_outcome imaged h exceeded class exception None))
    → IfOk result (λ settled. Settles imaged exceeded (throwing imaged exception) h h old new settled)
threw_last imaged h exceeded class exception old new (Err e) lt known is gone stand ends = tt
threw_last imaged h exceeded class exception old new (Ok result) lt known is gone stand ends =
    subst (Settles imaged exceeded (throwing imaged exception) h h old new) (sym ends) (threw imaged h exceeded class exception old new unwinds.Threw lt known is gone stand)

-- ---- a new one

abbrev made : ℕ → ℕ → Object ℕ
made class fields = Instance class (replicate fields 0)

pub made_thrown : (imaged : Imaged) (before after : LimitedHeap) (class fields r : ℕ) → Makes before after (Instance class (replicate fields 0)) r → IsClassNumber (typed_of imaged) class → IsThrown imaged after r
made_thrown imaged before after class fields r makes plain = record { object = made class fields; there = made_there before after (made class fields) r makes; class = plain }

pub made_known : (imaged : Imaged) (before after : LimitedHeap) (class fields r : ℕ) → AreSettled (typed_of imaged) → Makes before after (Instance class (replicate fields 0)) r
    → IsClassNumber (typed_of imaged) class → AreKnown (types_of (typed_of imaged)) before → AreKnown (types_of (typed_of imaged)) after
made_known imaged before after class fields r settled makes plain known =
    known_made (types_of (typed_of imaged)) before after (made class fields) r makes known (record { class = plain.within; holds = class_typed imaged class settled plain })

module _ (imaged : Imaged) (exceeded : Option Charge) (class fields : ℕ) (before : LimitedHeap) where
  abbrev type_of : ℕ → Ty
  type_of = numbered.type_at (types_of (typed_of imaged))

  abbrev size : ℕ
  size = object_size (made class fields)

  abbrev by_limit : Bool → State → StepAnswer
  by_limit past t = if past then Ended (outcomes.HeapFull before.heap.used size) t
      else throw (program_of imaged) imaged.prefix (record t { heap = with_new (heap_map type_of before.heap) (object_map type_of (made class fields)) }) (next_number (heap_map type_of before.heap))

  answer_is : (terms : Terms) (s : State) (frames : List StackFrame) (past : Bool) → terms.limit ≡ Some before.limit → nat_lt before.limit (before.heap.used + size) ≡ past
      → throwing_new imaged class fields terms (seen_in imaged before frames s) ≡ by_limit past (seen_in imaged before frames s)
  answer_is terms s frames past limit e =
      ap (λ (limit : Option ℕ). by_limit (passes_limit limit (before.heap.used + size)) (seen_in imaged before frames s)) limit
      ∙ ap (λ (past : Bool). by_limit past (seen_in imaged before frames s)) e

  made_then : (after : LimitedHeap) (r : ℕ) (old new : List StackFrame) (result : Settled) → Makes before after (Instance class (replicate fields 0)) r
      → Settles imaged exceeded (throwing imaged r) after after old new result → Settles imaged exceeded (throwing_new imaged class fields) before after old new result
  made_then after r old new result makes settles =
      let limits : after.limit ≡ before.limit = ap (λ (h : LimitedHeap). h.limit) makes.heap in
      let fits : nat_lt before.limit (before.heap.used + size) ≡ false = le-ltb before.limit (before.heap.used + size) makes.fits in
      let heap : with_new (heap_map type_of before.heap) (object_map type_of (made class fields)) ≡ heap_map type_of after.heap =
      new_mapped type_of before.heap (made class fields) ∙ ap (λ (h : LimitedHeap). heap_map type_of h.heap) (sym makes.heap) in
      let number : next_number (heap_map type_of before.heap) ≡ r = number_alike type_of before.heap ∙ sym makes.number in
      record {
        answers = λ terms s limit charge.
            ap reported_of (answer_is terms s old false limit fits)
            ∙ (ap (λ (h : Heap Ty). reported_of (throw (program_of imaged) imaged.prefix (record (seen_in imaged before old s) { heap = h }) (next_number (heap_map type_of before.heap)))) heap
            ∙ (ap (λ (n : ℕ). reported_of (throw (program_of imaged) imaged.prefix (seen_in imaged after old s) n)) number
            ∙ settles.answers terms s (limit ∙ ap Some (sym limits)) charge));
        limit = limits;
        known = settles.known;
        stand = settles.stand;
      }

  pub made_and_threw : (after : LimitedHeap) (r : ℕ) (old new : List StackFrame) (result : Result Settled AllocError) → Makes before after (Instance class (replicate fields 0)) r
      → IfOk result (λ settled. Settles imaged exceeded (throwing imaged r) after after old new settled)
      → IfOk result (λ settled. Settles imaged exceeded (throwing_new imaged class fields) before after old new settled)
  made_and_threw after r old new (Err e) makes settles = tt
  made_and_threw after r old new (Ok result) makes settles = made_then after r old new result makes settles

  pub made_full : (after : LimitedHeap) (frames : List StackFrame) (used bytes : ℕ) → Refuses before (instance_size fields) (errors.Full used bytes) → after ≡ before
      → AreKnown (types_of (typed_of imaged)) before → AreActivations imaged frames
      → Settles imaged exceeded (throwing_new imaged class fields) before after frames frames (settles.Ended (outcomes.HeapFull used bytes))
  made_full after frames used bytes refuses same known stand =
      let sizes : size ≡ instance_size fields = ap instance_size (length-replicate fields 0) in
      let past : nat_lt before.limit (before.heap.used + size) ≡ true = lt-ltb before.limit (before.heap.used + size) (omega (arith, refuses.2, sizes)) in
      subst (λ (h : LimitedHeap). Settles imaged exceeded (throwing_new imaged class fields) before h frames frames (settles.Ended (outcomes.HeapFull used bytes))) (sym same) (record {
        answers = λ terms s limit charge.
            ap reported_of (answer_is terms s frames true limit past)
            ∙ (ap (λ (n : ℕ). Over (outcomes.HeapFull n size) s.account s.answers) (sym refuses.0)
            ∙ ap (λ (n : ℕ). Over (outcomes.HeapFull used n) s.account s.answers) (sizes ∙ sym refuses.1));
        limit = refl;
        known = known;
        stand = stand;
      })

pub was_made : (before after : LimitedHeap) (object : Object ℕ) (old r : ℕ) → Makes before after object r → IsMade before after object old r
was_made before after object old r makes = inl makes

pub none_made : (before after : LimitedHeap) (object : Object ℕ) (old : ℕ) → after ≡ before → IsMade before after object old old
none_made before after object old same = inr (same, refl)
