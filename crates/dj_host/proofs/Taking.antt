-- What follows where the host has answered, where it isn't asked, and where it had no memory.
use Rattle.std.proofs.Common.{◌≡◌, ℕ, ℤ, pos, List, [], ◌∷◌, ◌++◌, length, drop, Option, Some, None, refl, ap, sym, subst, ◌∙◌}
use Rattle.std.specs.Prelude.{IsSome, nat_eq, if◌then◌else◌}
use Rattle.std.proofs.Math.Seq.{drop-append_seam}
use Rattle.std.proofs.lemmas.Bool.{ne_eqb}
use Rattle.std.specs.Int.{w32, cast_unsigned}
use Rattle.dj_names.specs.declared.descriptor.Ty.{Ty}
use Rattle.dj_names.specs.declared.run.Value.{Value}
use Rattle.dj_names.specs.declared.run.Value.TheVariants as values
use Rattle.dj_names.specs.declared.native.NativeId.{NativeId}
use Rattle.dj_names.specs.declared.native.NativeId.TheVariants as natives
use Rattle.dj_edge.specs.declared.host.HostAnswer.{HostAnswer}
use Rattle.dj_edge.specs.declared.host.HostAnswer.TheVariants as host
use Rattle.dj_heap.specs.Heaps.{LimitedHeap}
use Rattle.dj_model.specs.trusted.Types.{Prefix}
use Rattle.dj_model.specs.trusted.Program.{Program}
use Rattle.dj_model.specs.trusted.State.{Terms, Part, Flow}
use Rattle.dj_model.specs.trusted.Natives.{Answer, Returns, MakesText, Question, Word, Nanos, Millis, object_text, reference, asks, answered, answer, host_answer}
use Rattle.dj_model.specs.trusted.Performing.{seen, native, native_asked, with_answer, perform}
use Rattle.dj_natives.specs.declared.answer.NativeAnswer.{NativeAnswer}
use Rattle.dj_natives.specs.declared.answer.NativeAnswer.TheVariants as reported
use Rattle.dj_natives.specs.Calls.{seen_of, terms_of, part_with, flow_of, flow_reported, Performs, Done}
use Rattle.dj_natives.specs.Known.{AreKnown}
use Rattle.dj_natives.specs.Names.{shown_at}
use Rattle.dj_natives.proofs.SeenFacts.{shown_alike}
use Rattle.dj_natives.proofs.Counted.{DoesPlainly, native_does}
use Rattle.dj_natives.proofs.Performed.{returns_done}
use Rattle.dj_host.specs.trusted.Hosted.{given_since}
use Rattle.dj_host.specs.Hosted.{AreOfKind, with_answers, Takes, CallsHost, Passes}

-- ---- what the host gave

since_is : (before after more : List HostAnswer) → after ≡ before ++ more → given_since before after ≡ more
since_is before after more e = ap (drop (length before)) e ∙ drop-append_seam before more

since_all : (before after more : List HostAnswer) → after ≡ before ++ more → after ≡ before ++ given_since before after
since_all before after more e = e ∙ ap (λ l. before ++ l) (sym (since_is before after more e))

and_none : (before : List HostAnswer) → before ≡ before ++ []
and_none [] = refl
and_none (first ∷ more) = ap (λ l. first ∷ l) (and_none more)

some_is : (o : Option ℤ) (z : ℤ) → o ≡ Some z → IsSome o
some_is o z e = subst IsSome (sym e) refl

-- ---- the model's native method, where its host is asked

native_asks : (program : Program) (prefix : Prefix) (terms : Terms) (p : Part) (id : NativeId) (args : List Value) (question : Question) (first : HostAnswer) (rest : List HostAnswer)
    (z : ℤ) → asks id args ≡ Some question → answered question first ≡ Some z
    → native program prefix terms (with_answers (first ∷ rest) p) id args
    ≡ Some (perform prefix terms (with_answers rest p) (host_answer id (seen program prefix p.heap) z args))
unfolding native
native_asks program prefix terms p id args question first rest z asked is =
    ap (native_asked program prefix terms (with_answers (first ∷ rest) p) id args) asked
    ∙ ap (with_answer program prefix terms (with_answers rest p) id args) is

module _ (program : Program) (prefix : Prefix) (types : List Ty) (old new : LimitedHeap) (id : NativeId) (args : List Value) where
  module _ (question : Question) (first : HostAnswer) (z : ℤ) (asked : asks id args ≡ Some question) (is : answered question first ≡ Some z)
      (a : Answer) (same : host_answer id (seen_of program prefix types old) z args ≡ a) where
    takes_with : (result : NativeAnswer) (flow : Flow) → DoesPlainly prefix types old new a result flow → Takes program prefix types old new (first ∷ []) id args result (Some flow)
    takes_with result flow does p rest =
        native_asks program prefix (terms_of old None) (part_with types old None p) id args question first rest z asked is
        ∙ ap (λ x. Some (perform prefix (terms_of old None) (part_with types old None (with_answers rest p)) x)) same
        ∙ ap Some (does (with_answers rest p))

    takes_done : (result : NativeAnswer) → Performs prefix types old new a result → Takes program prefix types old new (first ∷ []) id args result (flow_reported id args result)
    takes_done reported.Nothing does = takes_with reported.Nothing (flow_of reported.Nothing) does
    takes_done (reported.Gives v) does = takes_with (reported.Gives v) (flow_of (reported.Gives v)) does
    takes_done (reported.Raise raised) does = takes_with (reported.Raise raised) (flow_of (reported.Raise raised)) does
    takes_done reported.Stop does = absurd does
    takes_done (reported.Full used size) does = takes_with (reported.Full used size) (flow_of (reported.Full used size)) does
    takes_done reported.Memory does = tt

    pub calls_asked : (before after : List HostAnswer) (result : NativeAnswer) → after ≡ before ++ first ∷ [] → Done prefix types old new a result
        → CallsHost program prefix types old new before after id args result
    calls_asked before after result e done =
        let one : given_since before after ≡ first ∷ [] = since_is before after (first ∷ []) e in
        let kinds : AreOfKind (Some question) (first ∷ []) = (some_is (answered question first) z is, refl) in
        record {
          does = subst (λ l. Takes program prefix types old new l id args result (flow_reported id args result)) (sym one) (takes_done result done.does);
          heap = done.heap;
          known = done.known;
          given = since_all before after (first ∷ []) e;
          kind = subst (AreOfKind (asks id args)) (sym one) (subst (λ q. AreOfKind q (first ∷ [])) (sym asked) kinds);
        }

-- ---- where nothing was given

none_given : (before after : List HostAnswer) → after ≡ before → given_since before after ≡ []
none_given before after e = since_is before after [] (e ∙ and_none before)

module _ (program : Program) (prefix : Prefix) (types : List Ty) (h : LimitedHeap) (before after : List HostAnswer) (id : NativeId) (args : List Value)
    (same : after ≡ before) (known : AreKnown types h) where
  kind_none : AreOfKind (asks id args) (given_since before after)
  kind_none = subst (AreOfKind (asks id args)) (sym (none_given before after same)) tt

  pub calls_without : CallsHost program prefix types h h before after id args reported.Memory
  calls_without = record { does = tt; heap = refl; known = known; given = since_all before after [] (same ∙ and_none before); kind = kind_none }

  pub calls_silent : (v : Value) → asks id args ≡ None → answer id (seen_of program prefix types h) args ≡ Returns (Some v)
      → CallsHost program prefix types h h before after id args (reported.Gives v)
  calls_silent v silent is = record {
    does = subst (λ l. Takes program prefix types h h l id args (reported.Gives v) (Some (flow_of (reported.Gives v)))) (sym (none_given before after same))
        (λ p rest. native_does program prefix types h None (with_answers rest p) id args (Returns (Some v)) silent is
        ∙ ap Some ((returns_done prefix types h (Some v) known).does (with_answers rest p)));
    heap = refl;
    known = known;
    given = since_all before after [] (same ∙ and_none before);
    kind = kind_none;
  }

-- ---- where the method returns what the host gave

module _ (program : Program) (prefix : Prefix) (types : List Ty) (h : LimitedHeap) (before after : List HostAnswer) (args : List Value) (result : NativeAnswer)
    (known : AreKnown types h) where
  passed : (id : NativeId) (question : Question) (kind : ℤ → HostAnswer) (value : ℤ → Value) (r : NativeAnswer) → asks id args ≡ Some question
      → ((z : ℤ) → answered question (kind z) ≡ Some z) → ((z : ℤ) → host_answer id (seen_of program prefix types h) z args ≡ Returns (Some (value z)))
      → Passes kind value before after r → CallsHost program prefix types h h before after id args r
  passed id question kind value (reported.Gives v) asked is same passes =
      subst (λ x. CallsHost program prefix types h h before after id args (reported.Gives x)) (sym passes.2)
      (calls_asked program prefix types h h id args question (kind passes.0) passes.0 asked (is passes.0) (Returns (Some (value passes.0))) (same passes.0) before after
      (reported.Gives (value passes.0)) passes.1 (returns_done prefix types h (Some (value passes.0)) known))
  passed id question kind value reported.Memory asked is same passes = calls_without program prefix types h before after id args passes known
  passed id question kind value reported.Nothing asked is same passes = absurd passes
  passed id question kind value (reported.Raise raised) asked is same passes = absurd passes
  passed id question kind value reported.Stop asked is same passes = absurd passes
  passed id question kind value (reported.Full used size) asked is same passes = absurd passes

  pub hash_passed : Passes host.Word values.Int before after result → CallsHost program prefix types h h before after natives.HostHashCode args result
  unfolding host_answer
  hash_passed passes = passed natives.HostHashCode Word host.Word values.Int result refl (λ z. refl) (λ z. refl) passes

  pub nanos_passed : Passes host.Nanos values.Long before after result → CallsHost program prefix types h h before after natives.NanoTime args result
  unfolding host_answer
  nanos_passed passes = passed natives.NanoTime Nanos host.Nanos values.Long result refl (λ z. refl) (λ z. refl) passes

  pub millis_passed : Passes host.Millis values.Long before after result → CallsHost program prefix types h h before after natives.CurrentTimeMillis args result
  unfolding host_answer
  millis_passed passes = passed natives.CurrentTimeMillis Millis host.Millis values.Long result refl (λ z. refl) (λ z. refl) passes

  word_asked : (r : ℕ) → (r ≡ 0 → ⊥) → (if nat_eq r 0 then None else Some Word) ≡ Some Word
  word_asked r apart = ap (λ t. if t then None else Some Word) (ne_eqb r 0 apart)

  pub identity_passed : (reference 0 args ≡ 0 → ⊥) → Passes host.Word values.Int before after result
      → CallsHost program prefix types h h before after natives.HostIdentityHashCode args result
  unfolding host_answer
  identity_passed apart passes =
      passed natives.HostIdentityHashCode Word host.Word values.Int result (word_asked (reference 0 args) apart) (λ z. refl) (λ z. refl) passes

pub identity_of_null : (program : Program) (prefix : Prefix) (types : List Ty) (h : LimitedHeap) (given : List HostAnswer) (args : List Value) → AreKnown types h
    → reference 0 args ≡ 0 → CallsHost program prefix types h h given given natives.HostIdentityHashCode args (reported.Gives (values.Int (pos 0)))
unfolding answer
identity_of_null program prefix types h given args known null =
    calls_silent program prefix types h given given natives.HostIdentityHashCode args refl known (values.Int (pos 0)) (ap (λ r. if nat_eq r 0 then None else Some Word) null) refl

-- ---- the text of an object

pub text_called : (program : Program) (prefix : Prefix) (types : List Ty) (old new : LimitedHeap) (before after : List HostAnswer) (args : List Value) (result : NativeAnswer) (z : ℤ)
    (r word : ℕ) → after ≡ before ++ host.Word z ∷ [] → r ≡ reference 0 args → word ≡ cast_unsigned w32 z
    → Done prefix types old new (MakesText (object_text (shown_at prefix types old r) word)) result
    → CallsHost program prefix types old new before after natives.HostToString args result
unfolding host_answer
text_called program prefix types old new before after args result z r word e object unsigned done =
    calls_asked program prefix types old new natives.HostToString args Word (host.Word z) z refl refl (MakesText (object_text (shown_at prefix types old r) word))
    (ap (λ units. MakesText (object_text units (cast_unsigned w32 z))) (shown_alike types prefix old (reference 0 args))
    ∙ ap (λ (k : ℕ). MakesText (object_text (shown_at prefix types old k) (cast_unsigned w32 z))) (sym object)
    ∙ ap (λ (k : ℕ). MakesText (object_text (shown_at prefix types old r) k)) (sym unsigned))
    before after result e done
