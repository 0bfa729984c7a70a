-- What the host gives and what is made of it, at plain values.
use Rattle.std.proofs.Common.{◌≡◌, ℕ, true, false, pos, negsuc, List, [], ◌∷◌, ◌++◌, Option, Some, None, codes, refl, ap, arith}
use Rattle.std.proofs.lemmas.List.Elements.{All-nil, All-push}
use Rattle.std.specs.Fmt.{digits}
use Rattle.dj_names.specs.declared.descriptor.Ty.{Ty}
use Rattle.dj_names.specs.declared.run.Value.TheVariants as values
use Rattle.dj_names.specs.declared.native.NativeId.TheVariants as natives
use Rattle.dj_names.specs.trusted.Heaps.{Instance, Text}
use Rattle.dj_names.specs.trusted.Library.{string}
use Rattle.dj_names.specs.trusted.Tests.{units_read}
use Rattle.dj_names.specs.trusted.UnitReading.{two_read, three_read, long_read, unit_read}
use Rattle.dj_names.specs.trusted.Types.{class_type}
use Rattle.dj_edge.specs.declared.host.HostAnswer.{HostAnswer}
use Rattle.dj_edge.specs.declared.host.HostAnswer.TheVariants as host
use Rattle.dj_heap.specs.Heaps.{LimitedHeap}
use Rattle.dj_model.specs.trusted.State.{Part, Effect, Goes, Next}
use Rattle.dj_model.specs.trusted.Charging.{new_account}
use Rattle.dj_model.specs.trusted.Natives.{Word, Nanos, Millis, answer, host_answer}
use Rattle.dj_model.specs.trusted.Performing.{native, perform}
use Rattle.dj_natives.specs.declared.answer.NativeAnswer.TheVariants as reported
use Rattle.dj_natives.specs.Known.{AreKnown, IsKnown}
use Rattle.dj_host.specs.trusted.Hosted.{given_since}
use Rattle.dj_host.specs.Hosted.{is_hosted, AreOfKind, with_answers, Takes, CallsHost, Passes}

-- ---- methods that the host answers

hosted : is_hosted natives.HostHashCode ∷ is_hosted natives.HostToString ∷ is_hosted natives.HostIdentityHashCode ∷ is_hosted natives.NanoTime ∷ is_hosted natives.CurrentTimeMillis ∷ []
    ≡ true ∷ true ∷ true ∷ true ∷ true ∷ []
hosted = refl

-- those of the other libraries that have their names aren't
not_hosted : is_hosted natives.ObjectHashCode ∷ is_hosted natives.ObjectToString ∷ is_hosted natives.IdentityHashCode ∷ is_hosted natives.StringHashCode ∷ is_hosted natives.CheckCatch ∷ []
    ≡ false ∷ false ∷ false ∷ false ∷ false ∷ []
not_hosted = refl

-- ---- what was given

abbrev before : List HostAnswer
before = host.Word (pos 1) ∷ []

last_given : given_since before (before ++ host.Nanos (pos 2) ∷ []) ≡ host.Nanos (pos 2) ∷ []
last_given = refl

nothing_given : given_since before before ≡ []
nothing_given = refl

one_word : AreOfKind (Some Word) (host.Word (pos 1) ∷ [])
one_word = (refl, refl)

-- where there was no memory for an answer
no_word : AreOfKind (Some Word) []
no_word = tt

not_two_words : AreOfKind (Some Word) (host.Word (pos 1) ∷ host.Word (pos 1) ∷ []) → ⊥
not_two_words are = let none = are.1 in absurd cc

not_millis_for_nanos : AreOfKind (Some Nanos) (host.Millis (pos 1) ∷ []) → ⊥
not_millis_for_nanos are = let kind = are.0 in absurd cc

not_unasked : AreOfKind None (host.Word (pos 1) ∷ []) → ⊥
not_unasked are = are

-- ---- what the model's native method takes

abbrev types : List Ty
types = class_type (codes "p/q/R") ∷ string ∷ []

abbrev heap : LimitedHeap
heap = record { heap = record { objects = Instance 0 [] ∷ []; used = 16 }; limit = 100 }

abbrev with_text : List ℕ → LimitedHeap
with_text units = record { heap = record { objects = Instance 0 [] ∷ Text 1 units ∷ []; used = 64 }; limit = 100 }

abbrev part : Part
part = record { locals = []; operands = []; heap = record { objects = []; used = 0 }; statics = []; literals = []; account = new_account; answers = [] }

abbrev left_of : Option Effect → List HostAnswer
left_of None = []
left_of (Some e) = e.part.answers

left : (with_answers before part).answers ≡ before
left = refl

nanos_taken : Takes [] [] types heap heap (host.Nanos (negsuc 4) ∷ []) natives.NanoTime [] (reported.Gives (values.Long (negsuc 4))) (Some (Goes Next))
unfolding native host_answer perform
nanos_taken p rest = refl

-- a word as an unsigned number of 32 bits
text_taken : Takes [] [] types heap (with_text (codes "p.q.R@ffffffff")) (host.Word (negsuc 0) ∷ []) natives.HostToString (values.Ref 1 ∷ []) (reported.Gives (values.Ref 2)) (Some (Goes Next))
unfolding native host_answer perform digits units_read unit_read long_read two_read three_read
text_taken p rest = refl

not_millis : Takes [] [] types heap heap (host.Millis (pos 5) ∷ []) natives.NanoTime [] (reported.Gives (values.Long (pos 5))) (Some (Goes Next)) → ⊥
unfolding native host_answer perform
not_millis takes = let none = takes part [] in absurd cc

not_untaken : Takes [] [] types heap heap [] natives.NanoTime [] (reported.Gives (values.Long (pos 5))) (Some (Goes Next)) → ⊥
unfolding native host_answer perform
not_untaken takes = let none = takes part [] in absurd cc

-- of two words the second would be left
not_both : Takes [] [] types heap heap (host.Word (pos 5) ∷ host.Word (pos 6) ∷ []) natives.HostHashCode (values.Ref 1 ∷ []) (reported.Gives (values.Int (pos 5))) (Some (Goes Next)) → ⊥
unfolding native host_answer perform
not_both takes = let rest : host.Word (pos 6) ∷ [] ≡ [] = ap left_of (takes part []) in absurd cc

-- ---- a whole call

known : AreKnown types heap
known = All-push (IsKnown types) [] (Instance 0 []) (All-nil (IsKnown types)) (record { class = omega arith; holds = (codes "p/q/R", refl) })

null_called : CallsHost [] [] types heap heap before before natives.HostIdentityHashCode (values.Ref 0 ∷ []) (reported.Gives (values.Int (pos 0)))
unfolding native answer perform
null_called = record { does = λ p rest. refl; heap = refl; known = known; given = refl; kind = tt }

hash_called : CallsHost [] [] types heap heap before (before ++ host.Word (pos 7) ∷ []) natives.HostIdentityHashCode (values.Ref 1 ∷ []) (reported.Gives (values.Int (pos 7)))
unfolding native host_answer perform
hash_called = record { does = λ p rest. refl; heap = refl; known = known; given = refl; kind = (refl, refl) }

-- null isn't asked for
not_asked_of_null : CallsHost [] [] types heap heap before (before ++ host.Word (pos 0) ∷ []) natives.HostIdentityHashCode (values.Ref 0 ∷ []) (reported.Gives (values.Int (pos 0))) → ⊥
not_asked_of_null calls = calls.kind

-- nothing that was given before is taken back
not_taken_back : CallsHost [] [] types heap heap before [] natives.NanoTime [] reported.Memory → ⊥
not_taken_back calls = let given = calls.given in absurd cc

-- ---- parts

word_passes : Passes host.Word values.Int before (before ++ host.Word (pos 9) ∷ []) (reported.Gives (values.Int (pos 9)))
word_passes = (pos 9, refl, refl)

none_passes : Passes host.Word values.Int before before reported.Memory
none_passes = refl

not_other_kind : Passes host.Nanos values.Long [] (host.Millis (pos 9) ∷ []) (reported.Gives (values.Long (pos 9))) → ⊥
not_other_kind passes = let given = passes.1 in absurd cc

not_nothing : Passes host.Word values.Int before before reported.Nothing → ⊥
not_nothing passes = passes
