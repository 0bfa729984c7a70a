-- The object that stops a run, as native methods come to throw it.
use Rattle.std.proofs.Common.{◌≡◌, ◌<◌, ℕ, List, length, Option, Some, None, true, [], ◌∷◌, nat_eq, refl, sym, ap, subst, ◌∙◌, inl, inr, arith, eqb-true}
use Rattle.std.specs.Prelude.{Result, Ok, Err, IfOk}
use Rattle.std.specs.Option.{option_map}
use Rattle.std.proofs.lemmas.Bool.{false≢true, and_parts}
use Rattle.dj_names.specs.declared.descriptor.Ty.{Ty}
use Rattle.dj_names.specs.trusted.Heaps.{Object, class_of}
use Rattle.dj_names.specs.Heaps.{object_map}
use Rattle.dj_names.specs.trusted.Types.{class_type, same_of}
use Rattle.dj_names.specs.trusted.Library.{stop_class}
use Rattle.dj_model.specs.trusted.Types.{Prefix, is_stop}
use Rattle.dj_model.specs.trusted.Performing.{class_at_number, class_in}
use Rattle.dj_model.proofs.MappedHeaps.{class_of_mapped}
use Rattle.dj_library_types.specs.Numbered as numbered
use Rattle.dj_names.specs.declared.run.Value.{Value}
use Rattle.dj_names.specs.declared.run.Charge.{Charge}
use Rattle.dj_names.specs.declared.native.NativeId.{NativeId}
use Rattle.dj_names.specs.declared.native.NativeId.TheVariants as natives
use Rattle.std.specs.declared.alloc.AllocError.{AllocError}
use Rattle.dj_model.specs.trusted.State.{Flow, Catch, Stop}
use Rattle.dj_model.specs.trusted.Natives.{reference}
use Rattle.dj_heap.specs.Heaps.{LimitedHeap, object_in}
use Rattle.dj_stack.specs.Frames.{StackFrame}
use Rattle.dj_natives.specs.Calls.{stop_reported, typed_heap}
use Rattle.dj_natives.specs.Known.{AreKnown}
use Rattle.dj_natives.proofs.Performed.{known_at}
use Rattle.dj_natives.proofs.SeenFacts.{object_alike}
use Rattle.dj_numbering.specs.Typed.{types_of}
use Rattle.dj_image.specs.Imaged.{Imaged, program_of, typed_of}
use Rattle.dj_settling.specs.declared.settled.Settled.{Settled}
use Rattle.dj_settling.specs.Settling.{IsRewritten, IsStop, IsThrown, KeepsStop, Settles, StopsBy, throwing, throwing_stop, top_settled}
use Rattle.dj_settling.proofs.WayLaws.{as_caught, as_stopped}

-- ---- what is thrown

pub again : (imaged : Imaged) (h : LimitedHeap) (id : NativeId) (args : List Value) (exception : ℕ) → id ≡ natives.CheckCatch → StopsBy imaged h id args → exception ≡ reference 0 args
    → IsThrown imaged h exception
again imaged h id args exception is by e = subst (IsThrown imaged h) (sym e) (subst (λ (i : NativeId). StopsBy imaged h i args) is by)

pub rewritten : (imaged : Imaged) (h : LimitedHeap) (args : List Value) (id : NativeId) → (id ≡ natives.CheckCatch → ⊥) → StopsBy imaged h id args → IsRewritten imaged.prefix
rewritten imaged h args natives.ObjectNew other by = by
rewritten imaged h args natives.ObjectEquals other by = by
rewritten imaged h args natives.ObjectHashCode other by = by
rewritten imaged h args natives.ObjectToString other by = by
rewritten imaged h args natives.StringLength other by = by
rewritten imaged h args natives.StringIsEmpty other by = by
rewritten imaged h args natives.StringToString other by = by
rewritten imaged h args natives.StringCharAt other by = by
rewritten imaged h args natives.StringEquals other by = by
rewritten imaged h args natives.StringHashCode other by = by
rewritten imaged h args natives.StringCompareTo other by = by
rewritten imaged h args natives.StringCompareToObject other by = by
rewritten imaged h args natives.StringStartsWith other by = by
rewritten imaged h args natives.StringConcat other by = by
rewritten imaged h args natives.StringSubstringFrom other by = by
rewritten imaged h args natives.StringSubstring other by = by
rewritten imaged h args natives.StringToCharArray other by = by
rewritten imaged h args natives.StringValueOfChars other by = by
rewritten imaged h args natives.StringValueOfChar other by = by
rewritten imaged h args natives.StringValueOfInt other by = by
rewritten imaged h args natives.StringValueOfLong other by = by
rewritten imaged h args natives.StringValueOfBoolean other by = by
rewritten imaged h args natives.BuilderNew other by = by
rewritten imaged h args natives.BuilderNewText other by = by
rewritten imaged h args natives.BuilderAppendText other by = by
rewritten imaged h args natives.BuilderAppendChar other by = by
rewritten imaged h args natives.BuilderAppendInt other by = by
rewritten imaged h args natives.BuilderAppendLong other by = by
rewritten imaged h args natives.BuilderAppendBoolean other by = by
rewritten imaged h args natives.BuilderLength other by = by
rewritten imaged h args natives.BuilderCharAt other by = by
rewritten imaged h args natives.BuilderToString other by = by
rewritten imaged h args natives.ThrowableNew other by = by
rewritten imaged h args natives.ThrowableNewMessage other by = by
rewritten imaged h args natives.ThrowableNewCause other by = by
rewritten imaged h args natives.GetMessage other by = by
rewritten imaged h args natives.GetCause other by = by
rewritten imaged h args natives.AbsInt other by = by
rewritten imaged h args natives.AbsLong other by = by
rewritten imaged h args natives.MaxInts other by = by
rewritten imaged h args natives.MaxLongs other by = by
rewritten imaged h args natives.MinInts other by = by
rewritten imaged h args natives.MinLongs other by = by
rewritten imaged h args natives.IdentityHashCode other by = by
rewritten imaged h args natives.ArrayCopy other by = by
rewritten imaged h args natives.HostHashCode other by = by
rewritten imaged h args natives.HostToString other by = by
rewritten imaged h args natives.HostIdentityHashCode other by = by
rewritten imaged h args natives.NanoTime other by = by
rewritten imaged h args natives.CurrentTimeMillis other by = by
rewritten imaged h args natives.RecordJump other by = by
rewritten imaged h args natives.RecordInvocation other by = by
rewritten imaged h args natives.RecordThrow other by = by
rewritten imaged h args natives.RecordAllocation other by = by
rewritten imaged h args natives.RecordArray other by = by
rewritten imaged h args natives.CheckCatch other by = absurd (other refl)

stop_flow : (args : List Value) (id : NativeId) → (id ≡ natives.CheckCatch → ⊥) → stop_reported id args ≡ Stop
stop_flow args natives.ObjectNew other = refl
stop_flow args natives.ObjectEquals other = refl
stop_flow args natives.ObjectHashCode other = refl
stop_flow args natives.ObjectToString other = refl
stop_flow args natives.StringLength other = refl
stop_flow args natives.StringIsEmpty other = refl
stop_flow args natives.StringToString other = refl
stop_flow args natives.StringCharAt other = refl
stop_flow args natives.StringEquals other = refl
stop_flow args natives.StringHashCode other = refl
stop_flow args natives.StringCompareTo other = refl
stop_flow args natives.StringCompareToObject other = refl
stop_flow args natives.StringStartsWith other = refl
stop_flow args natives.StringConcat other = refl
stop_flow args natives.StringSubstringFrom other = refl
stop_flow args natives.StringSubstring other = refl
stop_flow args natives.StringToCharArray other = refl
stop_flow args natives.StringValueOfChars other = refl
stop_flow args natives.StringValueOfChar other = refl
stop_flow args natives.StringValueOfInt other = refl
stop_flow args natives.StringValueOfLong other = refl
stop_flow args natives.StringValueOfBoolean other = refl
stop_flow args natives.BuilderNew other = refl
stop_flow args natives.BuilderNewText other = refl
stop_flow args natives.BuilderAppendText other = refl
stop_flow args natives.BuilderAppendChar other = refl
stop_flow args natives.BuilderAppendInt other = refl
stop_flow args natives.BuilderAppendLong other = refl
stop_flow args natives.BuilderAppendBoolean other = refl
stop_flow args natives.BuilderLength other = refl
stop_flow args natives.BuilderCharAt other = refl
stop_flow args natives.BuilderToString other = refl
stop_flow args natives.ThrowableNew other = refl
stop_flow args natives.ThrowableNewMessage other = refl
stop_flow args natives.ThrowableNewCause other = refl
stop_flow args natives.GetMessage other = refl
stop_flow args natives.GetCause other = refl
stop_flow args natives.AbsInt other = refl
stop_flow args natives.AbsLong other = refl
stop_flow args natives.MaxInts other = refl
stop_flow args natives.MaxLongs other = refl
stop_flow args natives.MinInts other = refl
stop_flow args natives.MinLongs other = refl
stop_flow args natives.IdentityHashCode other = refl
stop_flow args natives.ArrayCopy other = refl
stop_flow args natives.HostHashCode other = refl
stop_flow args natives.HostToString other = refl
stop_flow args natives.HostIdentityHashCode other = refl
stop_flow args natives.NanoTime other = refl
stop_flow args natives.CurrentTimeMillis other = refl
stop_flow args natives.RecordJump other = refl
stop_flow args natives.RecordInvocation other = refl
stop_flow args natives.RecordThrow other = refl
stop_flow args natives.RecordAllocation other = refl
stop_flow args natives.RecordArray other = refl
stop_flow args natives.CheckCatch other = absurd (other refl)

module _ (imaged : Imaged) (exceeded : Option Charge) (before after : LimitedHeap) (old new : List StackFrame) where
  by_flow : (own flow : Flow) (result : Result Settled AllocError) → own ≡ flow
      → IfOk result (λ settled. Settles imaged exceeded (top_settled (program_of imaged) imaged.prefix own) before after old new settled)
      → IfOk result (λ settled. Settles imaged exceeded (top_settled (program_of imaged) imaged.prefix flow) before after old new settled)
  by_flow own flow result same settles =
      subst (λ (f : Flow). IfOk result (λ settled. Settles imaged exceeded (top_settled (program_of imaged) imaged.prefix f) before after old new settled)) same settles

  pub by_charge : (id : NativeId) (args : List Value) (result : Result Settled AllocError) → 0 < length old → (id ≡ natives.CheckCatch → ⊥)
      → IfOk result (λ settled. Settles imaged exceeded (throwing_stop imaged) before after old new settled)
      → IfOk result (λ settled. Settles imaged exceeded (top_settled (program_of imaged) imaged.prefix (stop_reported id args)) before after old new settled)
  by_charge id args result some other settles = by_flow Stop (stop_reported id args) result (sym (stop_flow args id other)) (as_stopped imaged exceeded before after old new result some settles)

pub by_object : (imaged : Imaged) (exceeded : Option Charge) (h : LimitedHeap) (old new : List StackFrame) (id : NativeId) (args : List Value) (exception : ℕ) (result : Result Settled AllocError)
    → 0 < length old → id ≡ natives.CheckCatch → exception ≡ reference 0 args
    → IfOk result (λ settled. Settles imaged exceeded (throwing imaged exception) h h old new settled)
    → IfOk result (λ settled. Settles imaged exceeded (top_settled (program_of imaged) imaged.prefix (stop_reported id args)) h h old new settled)
by_object imaged exceeded h old new id args exception result some is e settles =
    by_flow imaged exceeded h h old new (Catch exception) (stop_reported id args) result (ap Catch e ∙ sym (ap (λ (i : NativeId). stop_reported i args) is))
    (as_caught imaged exceeded exception h old new result some settles)

-- ---- whether its number is known

pub reported_before : (imaged : Imaged) (h : LimitedHeap) (stop : ℕ) (result : Result Settled AllocError) → IfOk result (λ settled. KeepsStop imaged h stop stop)
reported_before imaged h stop (Err e) = tt
reported_before imaged h stop (Ok settled) = inl refl

pub reported_now : (imaged : Imaged) (h : LimitedHeap) (old stop : ℕ) (result : Result Settled AllocError) → IfOk result (λ settled. IsStop imaged h stop) → IfOk result (λ settled. KeepsStop imaged h old stop)
reported_now imaged h old stop (Err e) is = tt
reported_now imaged h old stop (Ok settled) is = inr is

-- ---- what checkCatch throws again is an object of a class

plain_stop : (prefix : Prefix) (ty : Ty) → is_stop prefix ty ≡ true → ty.dims ≡ 0
plain_stop [] ty e = absurd (false≢true e)
plain_stop (byte ∷ prefix) ty e = eqb-true ty.dims 0 ((and_parts (nat_eq ty.dims 0) (same_of ty.of (class_type stop_class).of) e).0)

pub rethrown : (imaged : Imaged) (h : LimitedHeap) (r : ℕ) → AreKnown (types_of (typed_of imaged)) h → is_stop imaged.prefix (class_at_number (typed_heap (types_of (typed_of imaged)) h) r) ≡ true
    → IsThrown imaged h r
rethrown imaged h r known e = by (object_in h r) refl (sym (ap (λ (o : Option (Object Ty)). is_stop imaged.prefix (class_in o)) (object_alike (types_of (typed_of imaged)) h r)) ∙ e) where
  by : (o : Option (Object ℕ)) → object_in h r ≡ o → is_stop imaged.prefix (class_in (option_map (object_map (numbered.type_at (types_of (typed_of imaged)))) o)) ≡ true → IsThrown imaged h r
  by None is test = let none : 1 ≡ 0 = plain_stop imaged.prefix (class_in None) test in absurd (omega (arith, none))
  by (Some object) is test = record {
    object = object;
    there = is;
    class = record {
      within = (known_at (types_of (typed_of imaged)) h r object is known).class;
      plain = plain_stop imaged.prefix (numbered.type_at (types_of (typed_of imaged)) (class_of object)) (sym (ap (is_stop imaged.prefix) (class_of_mapped (numbered.type_at (types_of (typed_of imaged))) object)) ∙ test);
    };
  }
