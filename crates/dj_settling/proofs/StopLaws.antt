-- The object that stops a run, by the number of its class.
use Rattle.std.proofs.Common.{◌≡◌, ◌<◌, ◌≤◌, ℕ, zero, suc, ◌+◌, ◌-◌, Bool, true, false, List, [], ◌∷◌, ◌++◌, length, map, Option, Some, None, nat_eq, if◌then◌else◌, refl, sym, ap, subst, ◌∙◌, inl, inr, arith, eqb-true}
use Rattle.std.specs.Prelude.{slice_get, is_some, drop, IsSome, Result, Ok, Err, IfOk}
use Rattle.std.specs.List.{All}
use Rattle.std.specs.Option.{option_map}
use Rattle.std.proofs.Math.ListN.{drop_of_length-le}
use Rattle.std.proofs.lemmas.Bool.{false≢true, ne_eqb, eq-eqb}
use Rattle.std.proofs.lemmas.List.Elements.{All-head, All-tail}
use Rattle.std.proofs.lemmas.Option.{none-some, same_Some}
use Rattle.dj_names.specs.declared.run.Charge.{Charge}
use Rattle.dj_names.specs.declared.descriptor.Ty.{Ty}
use Rattle.dj_names.specs.trusted.Heaps.{Object, Instance, class_of}
use Rattle.dj_names.specs.Heaps.{object_map}
use Rattle.dj_names.specs.trusted.Types.{class_type}
use Rattle.dj_names.specs.trusted.Library.{stop_class}
use Rattle.dj_model.specs.trusted.Types.{Prefix, is_stop}
use Rattle.dj_model.specs.trusted.Step.{stop_from, throw_new, throw_stop_or}
use Rattle.dj_model.proofs.MappedHeaps.{class_of_mapped}
use Rattle.dj_library_types.specs.Numbered as numbered
use Rattle.dj_library_types.specs.Numbered.{SaysStop}
use Rattle.dj_heap.specs.Heaps.{LimitedHeap, object_in}
use Rattle.dj_stack.specs.Frames.{StackFrame}
use Rattle.dj_natives.specs.Known.{AreKnown, IsKnown}
use Rattle.dj_numbering.specs.Typed.{types_of, stop_at, stop_under}
use Rattle.dj_image.specs.Imaged.{Imaged, program_of, typed_of}
use Rattle.dj_image.specs.Numbering.{AreSettled}
use Rattle.dj_image.proofs.Numbering.{stop_alone}
use Rattle.dj_unwinding.specs.Unwinding.{IsClassNumber}
use Rattle.std.specs.declared.alloc.AllocError.{AllocError}
use Rattle.dj_settling.specs.declared.settled.Settled.{Settled}
use Rattle.dj_settling.specs.Reported.{reported_of}
use Rattle.dj_settling.specs.Settling.{HasOwn, HasStop, IsClassOf, IsMade, IsRewritten, IsStop, IsThrown, Settles, seen_in, stop_found, stop_number_from, throwing, throwing_new, throwing_stop}
use Rattle.dj_settling.proofs.RaiseLaws.{class_of_number}

-- ---- its class

pub class_lacks : (imaged : Imaged) → HasOwn imaged → IsRewritten imaged.prefix → None ≡ stop_at (typed_of imaged) → ⊥
class_lacks imaged own rewritten e = by imaged.prefix own.stop rewritten e where
  by : (prefix : Prefix) → HasStop prefix (program_of imaged) → IsRewritten prefix → None ≡ stop_under prefix (program_of imaged) → ⊥
  by [] has rewritten e = absurd rewritten
  by (byte ∷ prefix) has rewritten e = false≢true (ap is_some e ∙ has)

class_reported : (imaged : Imaged) (class : ℕ) → Some class ≡ stop_at (typed_of imaged) → IsClassOf imaged (class_type stop_class) class
class_reported imaged class e = by imaged.prefix e where
  by : (prefix : Prefix) → Some class ≡ stop_under prefix (program_of imaged) → IsClassOf imaged (class_type stop_class) class
  by [] e = absurd cc
  by (byte ∷ prefix) e = class_of_number imaged stop_class class (sym e)

pub class_is : (imaged : Imaged) (class : ℕ) → Some class ≡ stop_at (typed_of imaged) → IsClassNumber (typed_of imaged) class
class_is imaged class e = (class_reported imaged class e).number

-- ---- the first one

found_by : (types : List Ty) (prefix : Prefix) (class : ℕ) → SaysStop types prefix (Some class) → (objects : List (Object ℕ)) (r : ℕ) → All (IsKnown types) objects
    → stop_from prefix r (map (object_map (numbered.type_at types)) objects) ≡ stop_number_from class r objects
found_by types prefix class says [] r known = refl
found_by types prefix class says (object ∷ objects) r known =
    let test : is_stop prefix (class_of (object_map (numbered.type_at types) object)) ≡ nat_eq class (class_of object) =
    ap (is_stop prefix) (class_of_mapped (numbered.type_at types) object) ∙ says (class_of object) (All-head (IsKnown types) object objects known).class in
    ap (λ (b : Bool). if b then Some r else stop_from prefix (r + 1) (map (object_map (numbered.type_at types)) objects)) test
    ∙ ap (λ (o : Option ℕ). if nat_eq class (class_of object) then Some r else o) (found_by types prefix class says objects (r + 1) (All-tail (IsKnown types) object objects known))

pub by_number : (imaged : Imaged) (h : LimitedHeap) (class : ℕ) → AreSettled (typed_of imaged) → Some class ≡ stop_at (typed_of imaged) → AreKnown (types_of (typed_of imaged)) h
    → stop_number_from class 1 h.heap.objects ≡ stop_found imaged h
by_number imaged h class settled e known =
    sym (found_by (types_of (typed_of imaged)) imaged.prefix class (stop_alone (typed_of imaged) settled (Some class) e) h.heap.objects 1 known)

pub reported_is : (imaged : Imaged) (h : LimitedHeap) (stop : ℕ) → (stop ≡ 0 → ⊥) → IsStop imaged h stop → Some stop ≡ stop_found imaged h
reported_is imaged h stop some is = sym (is some)

pub found_is : (imaged : Imaged) (h : LimitedHeap) (stop : ℕ) → Some stop ≡ stop_found imaged h → IsStop imaged h stop
found_is imaged h stop e some = sym e

record IsPlace (class r n : ℕ) (objects : List (Object ℕ)) : Type 0 where
  pub at : ℕ
  pub number : n ≡ r + at
  pub object : Object ℕ
  pub there : slice_get objects at ≡ Some object
  pub own : class_of object ≡ class

place_found : (class r n : ℕ) (objects : List (Object ℕ)) → stop_number_from class r objects ≡ Some n → IsPlace class r n objects
place_found class r n [] e = absurd (none-some n e)
place_found class r n (object ∷ objects) e = by (nat_eq class (class_of object)) refl (place_found class (r + 1) n objects) e where
  by : (b : Bool) → nat_eq class (class_of object) ≡ b → (stop_number_from class (r + 1) objects ≡ Some n → IsPlace class (r + 1) n objects)
      → (if b then Some r else stop_number_from class (r + 1) objects) ≡ Some n → IsPlace class r n (object ∷ objects)
  by true test later e = record { at = 0; number = (let same : r ≡ n = cc in omega (arith, same)); object = object; there = refl; own = sym (eqb-true class (class_of object) test) }
  by false test later e = let more = later e in record { at = suc more.at; number = omega (arith, more.number); object = more.object; there = more.there; own = more.own }

pub found_thrown : (imaged : Imaged) (h : LimitedHeap) (class stop : ℕ) → AreSettled (typed_of imaged) → Some class ≡ stop_at (typed_of imaged) → AreKnown (types_of (typed_of imaged)) h
    → Some stop ≡ stop_found imaged h → IsThrown imaged h stop
found_thrown imaged h class stop settled is known e =
    let place = place_found class 1 stop h.heap.objects (by_number imaged h class settled is known ∙ sym e) in
    let before : stop - 1 ≡ place.at = omega (arith, place.number) in
    let some : nat_eq stop 0 ≡ false = ne_eqb stop 0 (λ none. omega (arith, place.number, none)) in
    record {
      object = place.object;
      there = ap (λ (b : Bool). if b then None else slice_get h.heap.objects (stop - 1)) some ∙ (ap (slice_get h.heap.objects) before ∙ place.there);
      class = subst (IsClassNumber (typed_of imaged)) (sym place.own) (class_is imaged class is);
    }

-- ---- how it is looked for

abbrev pub IsFirstFrom : ℕ → ℕ → List (Object ℕ) → Type 0
IsFirstFrom class at objects = stop_number_from class 1 objects ≡ stop_number_from class (at + 1) (drop at objects)

record IsNext (objects : List (Object ℕ)) (at : ℕ) : Type 0 where
  pub object : Object ℕ
  pub there : slice_get objects at ≡ Some object
  pub rest : drop at objects ≡ object ∷ drop (suc at) objects

next : (objects : List (Object ℕ)) (at : ℕ) → at < length objects → IsNext objects at
next [] at lt = absurd (omega (arith, lt))
next (o ∷ objects) zero lt = record { object = o; there = refl; rest = refl }
next (o ∷ objects) (suc at) lt = let more = next objects at (omega (arith, lt)) in record { object = more.object; there = more.there; rest = more.rest }

at_number : (h : LimitedHeap) (at : ℕ) → object_in h (at + 1) ≡ slice_get h.heap.objects at
at_number h at =
    let some : nat_eq (at + 1) 0 ≡ false = ne_eqb (at + 1) 0 (λ none. omega (arith, none)) in
    ap (λ (b : Bool). if b then None else slice_get h.heap.objects (at + 1 - 1)) some ∙ ap (slice_get h.heap.objects) (omega arith)

pub object_there : (h : LimitedHeap) (at : ℕ) → at < length h.heap.objects → IsSome (object_in h (at + 1))
object_there h at lt = let found = next h.heap.objects at lt in subst IsSome (sym (at_number h at ∙ found.there)) refl

next_rest : (h : LimitedHeap) (at : ℕ) (found : IsNext h.heap.objects at) → drop at h.heap.objects ≡ found.object ∷ drop (at + 1) h.heap.objects
next_rest h at found = let next : suc at ≡ at + 1 = omega arith in found.rest ∙ ap (λ (n : ℕ). found.object ∷ drop n h.heap.objects) next

own_class : (h : LimitedHeap) (at own : ℕ) (found : IsNext h.heap.objects at) → option_map class_of (object_in h (at + 1)) ≡ Some own → class_of found.object ≡ own
own_class h at own found e = same_Some (class_of found.object) own (sym (ap (option_map class_of) (at_number h at ∙ found.there)) ∙ e)

pub first_here : (h : LimitedHeap) (class at own : ℕ) → at < length h.heap.objects → IsFirstFrom class at h.heap.objects → option_map class_of (object_in h (at + 1)) ≡ Some own → class ≡ own
    → Some (at + 1) ≡ stop_number_from class 1 h.heap.objects
first_here h class at own lt so_far e same =
    let found = next h.heap.objects at lt in
    let test : nat_eq class (class_of found.object) ≡ true = eq-eqb class (class_of found.object) (same ∙ sym (own_class h at own found e)) in
    sym (so_far ∙ (ap (stop_number_from class (at + 1)) (next_rest h at found)
    ∙ ap (λ (b : Bool). if b then Some (at + 1) else stop_number_from class (at + 1 + 1) (drop (at + 1) h.heap.objects)) test))

pub first_past : (h : LimitedHeap) (class at own : ℕ) → at < length h.heap.objects → IsFirstFrom class at h.heap.objects → option_map class_of (object_in h (at + 1)) ≡ Some own → (class ≡ own → ⊥)
    → IsFirstFrom class (at + 1) h.heap.objects
first_past h class at own lt so_far e other =
    let found = next h.heap.objects at lt in
    let test : nat_eq class (class_of found.object) ≡ false = ne_eqb class (class_of found.object) (λ same. other (same ∙ own_class h at own found e)) in
    so_far ∙ (ap (stop_number_from class (at + 1)) (next_rest h at found)
    ∙ ap (λ (b : Bool). if b then Some (at + 1) else stop_number_from class (at + 1 + 1) (drop (at + 1) h.heap.objects)) test)

pub first_nowhere : (h : LimitedHeap) (class at : ℕ) → length h.heap.objects ≤ at → IsFirstFrom class at h.heap.objects → None ≡ stop_number_from class 1 h.heap.objects
first_nowhere h class at le so_far = sym (so_far ∙ ap (stop_number_from class (at + 1)) (drop_of_length-le h.heap.objects le))

-- ---- its throw

pub found_threw : (imaged : Imaged) (exceeded : Option Charge) (h : LimitedHeap) (stop : ℕ) (old new : List StackFrame) (result : Result Settled AllocError) → Some stop ≡ stop_found imaged h
    → IfOk result (λ settled. Settles imaged exceeded (throwing imaged stop) h h old new settled) → IfOk result (λ settled. Settles imaged exceeded (throwing_stop imaged) h h old new settled)
found_threw imaged exceeded h stop old new (Err error) e settles = tt
found_threw imaged exceeded h stop old new (Ok result) e settles = record {
  answers = λ terms s limit charge.
      ap (λ (o : Option ℕ). reported_of (throw_stop_or (program_of imaged) imaged.prefix terms (seen_in imaged h old s) o)) (sym e) ∙ settles.answers terms s limit charge;
  limit = settles.limit;
  known = settles.known;
  stand = settles.stand;
}

pub made_threw : (imaged : Imaged) (exceeded : Option Charge) (before after : LimitedHeap) (class : ℕ) (old new : List StackFrame) (result : Result Settled AllocError) → Some class ≡ stop_at (typed_of imaged)
    → None ≡ stop_found imaged before → IfOk result (λ settled. Settles imaged exceeded (throwing_new imaged class 0) before after old new settled)
    → IfOk result (λ settled. Settles imaged exceeded (throwing_stop imaged) before after old new settled)
made_threw imaged exceeded before after class old new (Err error) is e settles = tt
made_threw imaged exceeded before after class old new (Ok result) is e settles = record {
  answers = λ terms s limit charge.
      ap (λ (o : Option ℕ). reported_of (throw_stop_or (program_of imaged) imaged.prefix terms (seen_in imaged before old s) o)) (sym e)
      ∙ (ap (λ (ty : Ty). reported_of (throw_new (program_of imaged) imaged.prefix terms (seen_in imaged before old s) (Instance ty []))) (sym (class_reported imaged class is).is)
      ∙ settles.answers terms s limit charge);
  limit = settles.limit;
  known = settles.known;
  stand = settles.stand;
}

last_found : (class r : ℕ) (objects : List (Object ℕ)) (object : Object ℕ) → class_of object ≡ class → stop_number_from class r objects ≡ None
    → stop_number_from class r (objects ++ object ∷ []) ≡ Some (length objects + r)
last_found class r [] object own e = ap (λ (b : Bool). if b then Some r else None) (eq-eqb class (class_of object) (sym own)) ∙ ap Some (omega arith)
last_found class r (o ∷ objects) object own e = by (nat_eq class (class_of o)) (last_found class (r + 1) objects object own) e where
  by : (b : Bool) → (stop_number_from class (r + 1) objects ≡ None → stop_number_from class (r + 1) (objects ++ object ∷ []) ≡ Some (length objects + (r + 1)))
      → (if b then Some r else stop_number_from class (r + 1) objects) ≡ None
      → (if b then Some r else stop_number_from class (r + 1) (objects ++ object ∷ [])) ≡ Some (length (o ∷ objects) + r)
  by true later e = absurd cc
  by false later e = later e ∙ ap Some (omega arith)

made_so : (imaged : Imaged) (before after : LimitedHeap) (class old new : ℕ) → AreSettled (typed_of imaged) → Some class ≡ stop_at (typed_of imaged)
    → AreKnown (types_of (typed_of imaged)) before → AreKnown (types_of (typed_of imaged)) after → None ≡ stop_found imaged before → IsStop imaged before old
    → IsMade before after (Instance class []) old new → IsStop imaged after new
made_so imaged before after class old new settled is known now e kept made some = elim made [
  | inl makes ↦
      let none : stop_number_from class 1 before.heap.objects ≡ None = by_number imaged before class settled is known ∙ sym e in
      let found = last_found class 1 before.heap.objects (Instance class []) refl none in
      sym (by_number imaged after class settled is now)
      ∙ (ap (λ (h : LimitedHeap). stop_number_from class 1 h.heap.objects) makes.heap
      ∙ (found ∙ ap Some (sym makes.number)))
  | inr same ↦ absurd (none-some old (e ∙ kept (λ null. some (same.1 ∙ null))))
]

pub made_is : (imaged : Imaged) (exceeded : Option Charge) (before after : LimitedHeap) (class old stop : ℕ) (frames left : List StackFrame) (result : Result Settled AllocError) → AreSettled (typed_of imaged)
    → Some class ≡ stop_at (typed_of imaged) → AreKnown (types_of (typed_of imaged)) before → None ≡ stop_found imaged before → IsStop imaged before old
    → IfOk result (λ settled. Settles imaged exceeded (throwing_new imaged class 0) before after frames left settled)
    → IfOk result (λ settled. IsMade before after (Instance class []) old stop) → IfOk result (λ settled. IsStop imaged after stop)
made_is imaged exceeded before after class old stop frames left (Err error) settled is known e kept settles made = tt
made_is imaged exceeded before after class old stop frames left (Ok result) settled is known e kept settles made = made_so imaged before after class old stop settled is known settles.known e kept made
