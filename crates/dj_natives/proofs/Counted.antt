-- What is charged before anything of an answer is done, and what the answer does then.
use Rattle.std.proofs.Common.{◌≡◌, ℕ, ◌+◌, ◌*◌, true, false, List, pos, length, map, Option, Some, None, refl, ap, sym, subst, ◌∙◌, arith}
use Rattle.std.proofs.lemmas.List.{length-map}
use Rattle.std.specs.Prelude.{IfSome}
use Rattle.dj_names.specs.declared.descriptor.Ty.{Ty}
use Rattle.dj_names.specs.declared.run.Charge.{Charge}
use Rattle.dj_names.specs.declared.run.Charge.TheVariants as charges
use Rattle.dj_names.specs.declared.run.Value.{Value}
use Rattle.dj_names.specs.declared.native.NativeId.{NativeId}
use Rattle.dj_names.specs.trusted.Heaps.{Object, object_size, rounded}
use Rattle.dj_heap.specs.Heaps.{LimitedHeap}
use Rattle.dj_model.specs.trusted.Types.{Prefix}
use Rattle.dj_model.specs.trusted.Program.{Program}
use Rattle.dj_model.specs.trusted.State.{Terms, Counting, Uncounted, Accounted, Part, Flow, Goes, Stop, Effect, goes}
use Rattle.dj_model.specs.trusted.Charging as charging
use Rattle.dj_model.specs.trusted.Charging.{charge_one}
use Rattle.dj_model.specs.trusted.Natives.{Answer, Returns, Raises, MakesText, KeepsText, MakesChars, SetsFields, SetsElements, Adds, Rethrows, Seen, answer, asks}
use Rattle.dj_model.specs.trusted.Performing.{Counted, Within, Halts, counted, thrown_by, with_account, making_then, returns_made, keeps_made, goes_on, text_object, chars_object, seen, perform, native, native_asked}
use Rattle.dj_natives.specs.declared.accounter.Charged.{Charged}
use Rattle.dj_natives.specs.declared.accounter.Charged.TheVariants as charged
use Rattle.dj_natives.specs.declared.answer.Answer as calls
use Rattle.dj_natives.specs.declared.answer.NativeAnswer.{NativeAnswer}
use Rattle.dj_natives.specs.declared.answer.NativeAnswer.TheVariants as reported
use Rattle.dj_natives.specs.Counting as counting
use Rattle.dj_natives.specs.Counting.{Counter, Counts, owed, text_amount, charged_by}
use Rattle.dj_natives.specs.Calls.{typed_heap, seen_of, counting_of, terms_of, part_with, with_counter, given, effect_with, flow_of, flow_reported, stop_reported, Does, Performs, KeepsHeap, KeepsCounter, Calls, Done, Finished, Acts, Finishes}
use Rattle.dj_natives.specs.Known.{AreKnown}
use Rattle.dj_natives.specs.Answers.{Says, answer_view, is_answered, IsDue, IsDueOf}
use Rattle.dj_natives.proofs.Groups.{stops_plainly}

-- ---- the charge comes first

abbrev pub after_count : Counted → (Part → Effect) → Effect
after_count (Within p) then_does = then_does p
after_count (Halts e) then_does = e

abbrev pub counted_by : Counting → Option (Charge × ℕ) → Part → Counted
counted_by who None p = Within p
counted_by who (Some due) p = counted who p due.0 due.1

abbrev pub uncounted : Option ℕ → Terms
uncounted limit = record { limit = limit; counting = Uncounted }

text_first : (prefix : Prefix) (limit : Option ℕ) (units : List ℕ) (c : Counted)
    → returns_made (making_then limit (text_object prefix units) c) ≡ after_count c (λ q. perform prefix (uncounted limit) q (MakesText units))
unfolding perform
text_first prefix limit units (Within q) = refl
text_first prefix limit units (Halts e) = refl

kept_first : (prefix : Prefix) (limit : Option ℕ) (object : ℕ) (units : List ℕ) (c : Counted)
    → keeps_made object (making_then limit (text_object prefix units) c) ≡ after_count c (λ q. perform prefix (uncounted limit) q (KeepsText object units))
unfolding perform
kept_first prefix limit object units (Within q) = refl
kept_first prefix limit object units (Halts e) = refl

chars_first : (prefix : Prefix) (limit : Option ℕ) (units : List ℕ) (c : Counted)
    → returns_made (making_then limit (chars_object units) c) ≡ after_count c (λ q. perform prefix (uncounted limit) q (MakesChars units))
unfolding perform
chars_first prefix limit units (Within q) = refl
chars_first prefix limit units (Halts e) = refl

adds_first : (prefix : Prefix) (limit : Option ℕ) (charge : Charge) (n : ℕ) (c : Counted)
    → goes_on c ≡ after_count c (λ q. perform prefix (uncounted limit) q (Adds charge n))
unfolding perform
adds_first prefix limit charge n (Within q) = refl
adds_first prefix limit charge n (Halts e) = refl

pub chars_size : (units : List ℕ) → object_size (chars_object units) ≡ text_amount (length units)
chars_size units = ap (λ n. 16 + rounded n) (ap (λ n. n * 2) (length-map units pos) ∙ omega arith)

pub charged_first : (prefix : Prefix) (terms : Terms) (p : Part) (a : Answer)
    → perform prefix terms p a ≡ after_count (counted_by terms.counting (owed a) p) (λ q. perform prefix (uncounted terms.limit) q a)
unfolding perform
charged_first prefix terms p (Returns result) = refl
charged_first prefix terms p (Raises raised) = refl
charged_first prefix terms p (MakesText units) = text_first prefix terms.limit units (counted terms.counting p charges.Alloc (text_amount (length units)))
charged_first prefix terms p (KeepsText object units) = kept_first prefix terms.limit object units (counted terms.counting p charges.Alloc (text_amount (length units)))
charged_first prefix terms p (MakesChars units) =
    ap (λ n. returns_made (making_then terms.limit (chars_object units) (counted terms.counting p charges.Alloc n))) (chars_size units)
    ∙ chars_first prefix terms.limit units (counted terms.counting p charges.Alloc (text_amount (length units)))
charged_first prefix terms p (SetsFields object vs) = refl
charged_first prefix terms p (SetsElements array contents raised) = refl
charged_first prefix terms p (Adds charge n) = adds_first prefix terms.limit charge n (counted terms.counting p charge n)
charged_first prefix terms p (Rethrows object) = refl

-- ---- what the accounter makes of it

fine_exceeds_none : (e : Option Charge) → charged.Fine ≡ counting.reported e → e ≡ None
fine_exceeds_none None is = refl
fine_exceeds_none (Some charge) is = absurd cc

thrown_fine : (p : Part) (c : Counter) (e : Option Charge) → e ≡ None → thrown_by p (charged_by c.account e) ≡ Within (with_account p c.account)
thrown_fine p c e none = rw none refl

thrown_stop : (p : Part) (c : Counter) (e : Option Charge) → charged.Stop ≡ counting.reported e → thrown_by p (charged_by c.account e) ≡ Halts (goes (with_account p c.account) Stop)
thrown_stop p c None is = absurd cc
thrown_stop p c (Some charge) is = refl

module _ (types : List Ty) (h : LimitedHeap) (p : Part) where
  pub counted_fine : (due : Option (Charge × ℕ)) (before after : Option Counter) → Counts due before after charged.Fine
      → counted_by (counting_of before) due (part_with types h before p) ≡ Within (part_with types h after p)
  counted_fine None before after counts = ap (λ (c : Option Counter). Within (part_with types h c p)) (sym counts.0)
  counted_fine (Some due) None after counts = ap (λ (c : Option Counter). Within (part_with types h c p)) (sym counts.0)
  counted_fine (Some due) (Some before) None counts = absurd counts
  counted_fine (Some due) (Some before) (Some after) counts =
      ap (thrown_by (part_with types h (Some before) p)) counts.account
      ∙ thrown_fine (part_with types h (Some before) p) after after.account.exceeded (fine_exceeds_none after.account.exceeded counts.answer)

  pub counted_stop : (due : Option (Charge × ℕ)) (before after : Option Counter) → Counts due before after charged.Stop
      → counted_by (counting_of before) due (part_with types h before p) ≡ Halts (goes (part_with types h after p) Stop)
  counted_stop None before after counts = let is = counts.1 in absurd cc
  counted_stop (Some due) None after counts = let is = counts.1 in absurd cc
  counted_stop (Some due) (Some before) None counts = absurd counts
  counted_stop (Some due) (Some before) (Some after) counts =
      ap (thrown_by (part_with types h (Some before) p)) counts.account
      ∙ thrown_stop (part_with types h (Some before) p) after after.account.exceeded counts.answer

keeps_same : (c : Option Counter) → KeepsCounter c c
keeps_same None = tt
keeps_same (Some c) = refl

pub keeps_counter : (due : Option (Charge × ℕ)) (before after : Option Counter) (result : Charged) → Counts due before after result → KeepsCounter before after
keeps_counter None before after result counts = subst (λ (c : Option Counter). KeepsCounter before c) (sym counts.0) (keeps_same before)
keeps_counter (Some due) None after result counts = subst (λ (c : Option Counter). KeepsCounter None c) (sym counts.0) tt
keeps_counter (Some due) (Some before) None result counts = absurd counts
keeps_counter (Some due) (Some before) (Some after) result counts = counts.limits

-- ---- the model's native method

native_is : (program : Program) (prefix : Prefix) (terms : Terms) (p : Part) (id : NativeId) (args : List Value) → asks id args ≡ None
    → native program prefix terms p id args ≡ Some (perform prefix terms p (answer id (seen program prefix p.heap) args))
unfolding native
native_is program prefix terms p id args e = ap (native_asked program prefix terms p id args) e

pub heap_of : (types : List Ty) (h : LimitedHeap) (c : Option Counter) (p : Part) → (part_with types h c p).heap ≡ typed_heap types h
heap_of types h None p = refl
heap_of types h (Some c) p = refl

pub native_does : (program : Program) (prefix : Prefix) (types : List Ty) (h : LimitedHeap) (c : Option Counter) (p : Part) (id : NativeId) (args : List Value) (a : Answer)
    → asks id args ≡ None → answer id (seen_of program prefix types h) args ≡ a
    → native program prefix (terms_of h c) (part_with types h c p) id args ≡ Some (perform prefix (terms_of h c) (part_with types h c p) a)
native_does program prefix types h c p id args a silent is =
    native_is program prefix (terms_of h c) (part_with types h c p) id args silent
    ∙ ap (λ heap. Some (perform prefix (terms_of h c) (part_with types h c p) (answer id (seen program prefix heap) args))) (heap_of types h c p)
    ∙ ap (λ x. Some (perform prefix (terms_of h c) (part_with types h c p) x)) is

-- ---- where the charge was within its threshold

abbrev pub DoesPlainly : Prefix → List Ty → LimitedHeap → LimitedHeap → Answer → NativeAnswer → Flow → Type 0
DoesPlainly prefix types old new a result flow =
    (p : Part) → perform prefix (terms_of old None) (part_with types old None p) a ≡ effect_with types new None result p flow

module _ (prefix : Prefix) (types : List Ty) (old new : LimitedHeap) (a : Answer) (result : NativeAnswer) (flow : Flow) where
  at_account : (after : Option Counter) → DoesPlainly prefix types old new a result flow → (p : Part)
      → perform prefix (uncounted (Some old.limit)) (part_with types old after p) a ≡ effect_with types new after result p flow
  at_account None does p = does p
  at_account (Some c) does p = does (record p { account = c.account })

  pub does_counted : (due : Option (Charge × ℕ)) (before after : Option Counter) → owed a ≡ due → Counts due before after charged.Fine
      → DoesPlainly prefix types old new a result flow → (p : Part)
      → perform prefix (terms_of old before) (part_with types old before p) a ≡ effect_with types new after result p flow
  does_counted due before after owes counts does p =
      charged_first prefix (terms_of old before) (part_with types old before p) a
      ∙ ap (λ d. after_count (counted_by (counting_of before) d (part_with types old before p)) (λ q. perform prefix (uncounted (Some old.limit)) q a)) owes
      ∙ ap (λ c. after_count c (λ q. perform prefix (uncounted (Some old.limit)) q a)) (counted_fine types old p due before after counts)
      ∙ at_account after does p

module _ (program : Program) (prefix : Prefix) (types : List Ty) (old new : LimitedHeap) (due : Option (Charge × ℕ)) (before after : Option Counter)
    (id : NativeId) (args : List Value) (a : Answer) where
  does_reported : (result : NativeAnswer) (flow : Flow) → asks id args ≡ None → answer id (seen_of program prefix types old) args ≡ a → owed a ≡ due
      → Counts due before after charged.Fine → DoesPlainly prefix types old new a result flow
      → Does program prefix types old new before after id args result (Some flow)
  does_reported result flow silent is owes counts does p =
      native_does program prefix types old before p id args a silent is
      ∙ ap Some (does_counted prefix types old new a result flow due before after owes counts does p)

  pub does_fine : (result : NativeAnswer) → asks id args ≡ None → answer id (seen_of program prefix types old) args ≡ a → owed a ≡ due
      → Counts due before after charged.Fine → Performs prefix types old new a result
      → Does program prefix types old new before after id args result (flow_reported id args result)
  does_fine reported.Nothing silent is owes counts does = does_reported reported.Nothing (flow_of reported.Nothing) silent is owes counts does
  does_fine (reported.Gives v) silent is owes counts does = does_reported (reported.Gives v) (flow_of (reported.Gives v)) silent is owes counts does
  does_fine (reported.Raise raised) silent is owes counts does = does_reported (reported.Raise raised) (flow_of (reported.Raise raised)) silent is owes counts does
  does_fine reported.Stop silent is owes counts does = absurd does
  does_fine (reported.Full used size) silent is owes counts does = does_reported (reported.Full used size) (flow_of (reported.Full used size)) silent is owes counts does
  does_fine reported.Memory silent is owes counts does = tt

-- a method that is charged for nothing does the same, whoever counts
pub acts_done : (program : Program) (prefix : Prefix) (types : List Ty) (old new : LimitedHeap) (id : NativeId) (args : List Value) (a : Answer) (result : NativeAnswer)
    → asks id args ≡ None → answer id (seen_of program prefix types old) args ≡ a → owed a ≡ None → Done prefix types old new a result
    → Acts program prefix types old new id args result
acts_done program prefix types old new id args a result silent is owes done = record {
  does = λ c. does_fine program prefix types old new None c c id args a result silent is owes (refl, refl) done.does;
  heap = done.heap;
  known = done.known;
}

-- ---- where it passed it

stop_effect : (types : List Ty) (h : LimitedHeap) (c : Option Counter) (p : Part) → goes (part_with types h c p) Stop ≡ effect_with types h c reported.Stop p Stop
stop_effect types h None p = refl
stop_effect types h (Some c) p = refl

does_stop : (program : Program) (prefix : Prefix) (types : List Ty) (h : LimitedHeap) (due : Option (Charge × ℕ)) (before after : Option Counter)
    (id : NativeId) (args : List Value) (a : Answer) → asks id args ≡ None → answer id (seen_of program prefix types h) args ≡ a → owed a ≡ due
    → Counts due before after charged.Stop → Does program prefix types h h before after id args reported.Stop (Some Stop)
does_stop program prefix types h due before after id args a silent is owes counts p =
    native_does program prefix types h before p id args a silent is
    ∙ ap Some (charged_first prefix (terms_of h before) (part_with types h before p) a
    ∙ ap (λ d. after_count (counted_by (counting_of before) d (part_with types h before p)) (λ q. perform prefix (uncounted (Some h.limit)) q a)) owes
    ∙ ap (λ c. after_count c (λ q. perform prefix (uncounted (Some h.limit)) q a)) (counted_stop types h p due before after counts)
    ∙ stop_effect types h after p)

is_due : (due : Option (Charge × ℕ)) (before after : Option Counter) → Counts due before after charged.Stop → (d : Charge × ℕ) × (due ≡ Some d)
is_due None before after counts = let is = counts.1 in absurd cc
is_due (Some d) before after counts = (d, refl)

pub stop_calls : (program : Program) (prefix : Prefix) (types : List Ty) (h : LimitedHeap) (due : Option (Charge × ℕ)) (before after : Option Counter)
    (id : NativeId) (args : List Value) (a : Answer) → asks id args ≡ None → answer id (seen_of program prefix types h) args ≡ a → owed a ≡ due
    → Counts due before after charged.Stop → AreKnown types h → Calls program prefix types h h before after id args reported.Stop
stop_calls program prefix types h due before after id args a silent is owes counts known =
    let some = is_due due before after counts in
    let plainly = stops_plainly id (seen_of program prefix types h) args some.0 (ap owed is ∙ owes ∙ some.1) in
    record {
      does = subst (λ (flow : Flow). Does program prefix types h h before after id args reported.Stop (Some flow)) (sym plainly)
          (does_stop program prefix types h due before after id args a silent is owes counts);
      heap = refl;
      known = known;
      counter = keeps_counter due before after charged.Stop counts;
    }

-- ---- both, by the answer

module _ (program : Program) (prefix : Prefix) (types : List Ty) (old new : LimitedHeap) (due : Option (Charge × ℕ)) (before after : Option Counter)
    (id : NativeId) (args : List Value) (result : NativeAnswer) (silent : asks id args ≡ None) (known : AreKnown types old) where
  fine_viewed : (view : Option Answer) → IfSome view (λ a. answer id (seen_of program prefix types old) args ≡ a) → IsDueOf view due
      → Counts due before after charged.Fine → Finished prefix types old new view result → Calls program prefix types old new before after id args result
  fine_viewed None is owes counts done =
      subst (λ (r : NativeAnswer). Calls program prefix types old new before after id args r) (sym done.0)
      (record { does = tt; heap = done.1; known = subst (AreKnown types) (sym done.1) known; counter = keeps_counter due before after charged.Fine counts })
  fine_viewed (Some a) is owes counts done = record {
    does = does_fine program prefix types old new due before after id args a result silent is owes counts done.does;
    heap = done.heap;
    known = done.known;
    counter = keeps_counter due before after charged.Fine counts;
  }

  pub fine_calls : (reported_by : Option calls.Answer) → Says is_answered id (seen_of program prefix types old) args reported_by → IsDue reported_by due
      → Counts due before after charged.Fine → Finishes program prefix types old new id args reported_by result → Calls program prefix types old new before after id args result
  fine_calls None is owes counts acts =
      let same : after ≡ before = (subst (λ d. Counts d before after charged.Fine) owes counts).0 in
      subst (λ (c : Option Counter). Calls program prefix types old new before c id args result) (sym same)
      (record { does = acts.does before; heap = acts.heap; known = acts.known; counter = keeps_same before })
  fine_calls (Some reported_by) is owes counts done = fine_viewed (answer_view reported_by) is owes counts done

  stop_viewed : (view : Option Answer) → IfSome view (λ a. answer id (seen_of program prefix types old) args ≡ a) → IsDueOf view due
      → Counts due before after charged.Stop → Calls program prefix types old old before after id args reported.Stop
  stop_viewed None is owes counts = let some = is_due due before after counts in absurd cc
  stop_viewed (Some a) is owes counts = stop_calls program prefix types old due before after id args a silent is owes counts known

  pub stop_calls_all : (reported_by : Option calls.Answer) → Says is_answered id (seen_of program prefix types old) args reported_by → IsDue reported_by due
      → Counts due before after charged.Stop → Calls program prefix types old old before after id args reported.Stop
  stop_calls_all None is owes counts = let some = is_due due before after counts in absurd cc
  stop_calls_all (Some reported_by) is owes counts = stop_viewed (answer_view reported_by) is owes counts

-- ---- where nobody counts

abbrev view_due : Option Answer → Option (Charge × ℕ)
view_due None = None
view_due (Some a) = owed a

viewed : (view : Option Answer) → IsDueOf view (view_due view)
viewed None = refl
viewed (Some a) = refl

abbrev pub plain_due : Option calls.Answer → Option (Charge × ℕ)
plain_due None = None
plain_due (Some a) = view_due (answer_view a)

pub is_plain : (o : Option calls.Answer) → IsDue o (plain_due o)
is_plain None = refl
is_plain (Some a) = viewed (answer_view a)

pub counts_none : (due : Option (Charge × ℕ)) → Counts due None None charged.Fine
counts_none None = (refl, refl)
counts_none (Some d) = (refl, refl)
