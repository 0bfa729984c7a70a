-- What native methods answer, whether the host is asked or not.
use Rattle.std.proofs.Common.{◌≡◌, ℕ, Bool, true, false, List, [], ◌∷◌, ◌++◌, length, drop, Option, Some, None, refl, sym, ap, subst, ◌∙◌}
use Rattle.std.specs.Option.{option_map}
use Rattle.std.proofs.lemmas.Bool.{false≢true}
use Rattle.std.proofs.lemmas.List.{append-nil}
use Rattle.std.proofs.Math.Seq.{drop-append_seam}
use Rattle.dj_names.specs.declared.descriptor.Ty.{Ty}
use Rattle.dj_names.specs.declared.run.Element.{Element}
use Rattle.dj_names.specs.declared.run.Element.TheVariants as elements
use Rattle.dj_names.specs.declared.run.Value.{Value}
use Rattle.dj_names.specs.declared.native.NativeId.{NativeId}
use Rattle.dj_names.specs.declared.native.NativeId.TheVariants as natives
use Rattle.dj_names.specs.trusted.Heaps.{Object, Instance, Array, Text}
use Rattle.dj_edge.specs.declared.host.HostAnswer.{HostAnswer}
use Rattle.dj_model.specs.trusted.Natives.{Question, asks, reference}
use Rattle.dj_model.specs.trusted.State.{Flow}
use Rattle.dj_heap.specs.Heaps.{LimitedHeap, object_in}
use Rattle.dj_heap.specs.Calls.{made_as}
use Rattle.dj_heap.specs.declared.object.Made.TheVariants as made
use Rattle.dj_natives.specs.declared.answer.NativeAnswer.{NativeAnswer}
use Rattle.dj_natives.specs.Counting.{Counter}
use Rattle.dj_natives.specs.Calls.{Calls, Does, flow_reported}
use Rattle.dj_natives.specs.Known.{IsFitting, IsOfChars}
use Rattle.dj_host.specs.trusted.Hosted.{given_since}
use Rattle.dj_host.specs.Hosted.{AreOfKind, CallsHost, Takes, is_hosted, with_answers}
use Rattle.dj_numbering.specs.Typed.{types_of}
use Rattle.dj_image.specs.Imaged.{Imaged, program_of, typed_of}
use Rattle.dj_image_step.specs.Natives.{AnswersNative, IsQuiet}

-- ---- arguments

pub fits_chars : (h : LimitedHeap) (id : NativeId) (args : List Value) (r : ℕ) → id ≡ natives.StringValueOfChars → r ≡ reference 0 args → IsOfChars (object_in h r) → IsFitting id h args
fits_chars h id args r is e chars = subst (λ (i : NativeId). IsFitting i h args) (sym is) (subst (λ (k : ℕ). IsOfChars (object_in h k)) e chars)

pub fits_other : (h : LimitedHeap) (id : NativeId) (args : List Value) → (id ≡ natives.StringValueOfChars → ⊥) → IsFitting id h args
fits_other h natives.StringValueOfChars args other = absurd (other refl)
fits_other h id args other = tt

pub null_of_chars : (h : LimitedHeap) (r : ℕ) → r ≡ 0 → IsOfChars (object_in h r)
null_of_chars h r e = subst (λ (k : ℕ). IsOfChars (object_in h k)) (sym e) tt

pub instance_of_chars : (h : LimitedHeap) (r : ℕ) → option_map made_as (object_in h r) ≡ Some made.Instance → IsOfChars (object_in h r)
instance_of_chars h r e = by (object_in h r) e where
  by : (o : Option (Object ℕ)) → option_map made_as o ≡ Some made.Instance → IsOfChars o
  by None e = tt
  by (Some (Instance class fields)) e = tt
  by (Some (Array class element contents)) e = absurd cc
  by (Some (Text class units)) e = tt

pub text_of_chars : (h : LimitedHeap) (r : ℕ) → option_map made_as (object_in h r) ≡ Some made.Text → IsOfChars (object_in h r)
text_of_chars h r e = by (object_in h r) e where
  by : (o : Option (Object ℕ)) → option_map made_as o ≡ Some made.Text → IsOfChars o
  by None e = tt
  by (Some (Instance class fields)) e = tt
  by (Some (Array class element contents)) e = absurd cc
  by (Some (Text class units)) e = tt

pub chars_of_chars : (h : LimitedHeap) (r : ℕ) (element : Element) → option_map made_as (object_in h r) ≡ Some (made.Array element) → element ≡ elements.Char → IsOfChars (object_in h r)
chars_of_chars h r element e is = by (object_in h r) (e ∙ ap (λ (x : Element). Some (made.Array x)) is) where
  by : (o : Option (Object ℕ)) → option_map made_as o ≡ Some (made.Array elements.Char) → IsOfChars o
  by None e = tt
  by (Some (Instance class fields)) e = tt
  by (Some (Array class elements.Char contents)) e = tt
  by (Some (Array class element contents)) e = absurd cc
  by (Some (Text class units)) e = tt

pub asks_none : (id : NativeId) (args : List Value) → is_hosted id ≡ false → asks id args ≡ None
asks_none natives.HostHashCode args e = absurd (false≢true (sym e))
asks_none natives.HostToString args e = absurd (false≢true (sym e))
asks_none natives.HostIdentityHashCode args e = absurd (false≢true (sym e))
asks_none natives.NanoTime args e = absurd (false≢true (sym e))
asks_none natives.CurrentTimeMillis args e = absurd (false≢true (sym e))
asks_none id args e = refl

-- ---- answers

pub plain_answers : (imaged : Imaged) (old new : LimitedHeap) (before after : Option Counter) (id : NativeId) (args : List Value) (result : NativeAnswer)
    → Calls (program_of imaged) imaged.prefix (types_of (typed_of imaged)) old new before after id args result → AnswersNative imaged old new before after [] id args result
plain_answers imaged old new before after id args result calls = record {
  does = λ flow reported p rest.
      let does : Does (program_of imaged) imaged.prefix (types_of (typed_of imaged)) old new before after id args result (Some flow) =
      subst (Does (program_of imaged) imaged.prefix (types_of (typed_of imaged)) old new before after id args result) reported calls.does in
      does (with_answers rest p);
  heap = calls.heap;
  known = calls.known;
  counter = calls.counter;
}

pub hosted_answers : (imaged : Imaged) (old new : LimitedHeap) (before after : List HostAnswer) (id : NativeId) (args : List Value) (result : NativeAnswer)
    → CallsHost (program_of imaged) imaged.prefix (types_of (typed_of imaged)) old new before after id args result → AnswersNative imaged old new None None (given_since before after) id args result
hosted_answers imaged old new before after id args result calls = record {
  does = λ flow reported p rest.
      let does : Takes (program_of imaged) imaged.prefix (types_of (typed_of imaged)) old new (given_since before after) id args result (Some flow) =
      subst (Takes (program_of imaged) imaged.prefix (types_of (typed_of imaged)) old new (given_since before after) id args result) reported calls.does in
      does p rest;
  heap = calls.heap;
  known = calls.known;
  counter = tt;
}

-- ---- a host that isn't asked

pub none_given : (answers : List HostAnswer) → given_since answers answers ≡ []
none_given answers = ap (drop (length answers)) (sym (append-nil answers)) ∙ drop-append_seam answers []

pub still_given : (answers : List HostAnswer) → answers ≡ answers ++ given_since answers answers
still_given answers = sym (append-nil answers) ∙ ap (λ (l : List HostAnswer). answers ++ l) (sym (none_given answers))

-- a method that asks nothing is given nothing
none_of_kind : (question : Option Question) (given : List HostAnswer) → question ≡ None → AreOfKind question given → given ≡ []
none_of_kind question [] none kind = refl
none_of_kind question (first ∷ more) none kind = absurd (subst (λ (q : Option Question). AreOfKind q (first ∷ more)) none kind)

pub quietly_asked : (imaged : Imaged) (old new : LimitedHeap) (before after : List HostAnswer) (id : NativeId) (args : List Value) (result : NativeAnswer)
    → CallsHost (program_of imaged) imaged.prefix (types_of (typed_of imaged)) old new before after id args result → IsQuiet id → after ≡ before
quietly_asked imaged old new before after id args result calls quiet =
    calls.given ∙ (ap (λ (l : List HostAnswer). before ++ l) (none_of_kind (asks id args) (given_since before after) (quiet args) calls.kind) ∙ append-nil before)
