-- Literals by the numbers of their texts.
use Rattle.std.proofs.Common.{◌≡◌, ◌<◌, ◌+◌, ℕ, zero, suc, Bool, true, false, List, [], ◌∷◌, ◌++◌, length, replicate, set, get_or, Option, Some, None, nat_eq, nat_lt, Ok, Err, if◌then◌else◌, refl, sym, ap, subst, ◌∙◌, arith}
use Rattle.std.proofs.lemmas.Bool.{lt-ltb, le-ltb, eqb-false}
use Rattle.std.proofs.lemmas.Grind.{get_or-set_at}
use Rattle.std.proofs.lemmas.List.{get_or-set_other}
use Rattle.std.proofs.Common.{eqb-true}
use Rattle.dj_effects.proofs.ArrayFacts.{not_null}
use Rattle.dj_names.specs.declared.run.Value.{Value}
use Rattle.dj_names.specs.declared.run.Value.TheVariants as values
use Rattle.dj_names.specs.declared.run.Outcome.TheVariants as outcomes
use Rattle.dj_names.specs.trusted.Heaps.{Heap, Text, next_number, text_size, with_new}
use Rattle.dj_model.specs.trusted.State.{Next}
use Rattle.dj_heap.specs.Heaps.{LimitedHeap, Makes, Refuses}
use Rattle.dj_heap.specs.declared.errors.HeapError.TheVariants as errors
use Rattle.dj_member_effects.specs.Literals.{KeptBy, kept_by, kept_or_made_by, literal_flows, object_of, object_reported, push_text_by, pushed}

zeros : (n text : ℕ) → ◌≡◌ {A = ℕ} (get_or (replicate n 0) text 0) 0
zeros zero text = refl
zeros (suc n) zero = refl
zeros (suc n) (suc text) = zeros n text

pub none_made : (n text : ℕ) → object_reported (get_or (replicate n 0) text 0) ≡ None
none_made n text = ap object_reported (zeros n text)

-- ---- one literal more

more_at : (l : ℕ × ℕ) (made more : List (ℕ × ℕ)) (text object other : ℕ) (a b c : Bool) → nat_eq l.0 text ≡ a → nat_eq l.0 other ≡ b → nat_eq text other ≡ c
    → (if a then Some l.1 else object_of made text) ≡ None
    → (object_of made text ≡ None → object_of more other ≡ (if nat_eq text other then Some object else object_of made other))
    → (if b then Some l.1 else object_of more other) ≡ (if c then Some object else (if b then Some l.1 else object_of made other))
more_at l made more text object other true b c ea eb ec none rest = absurd cc
more_at l made more text object other false false c ea eb ec none rest =
    rest none ∙ ap (λ (c : Bool). if c then Some object else object_of made other) ec
more_at l made more text object other false true false ea eb ec none rest = refl
more_at l made more text object other false true true ea eb ec none rest =
    let one : l.0 ≡ other = eqb-true l.0 other eb in
    let two : text ≡ other = eqb-true text other ec in
    let same : nat_eq l.0 text ≡ true = subst (λ (k : ℕ). nat_eq l.0 k ≡ true) (sym two) eb in
    absurd cc

object_of_more : (made : List (ℕ × ℕ)) (text object other : ℕ) → object_of made text ≡ None
    → object_of (made ++ (text, object) ∷ []) other ≡ (if nat_eq text other then Some object else object_of made other)
object_of_more [] text object other none = refl
object_of_more (l ∷ made) text object other none =
    more_at l made (made ++ (text, object) ∷ []) text object other (nat_eq l.0 text) (nat_eq l.0 other) (nat_eq text other) refl refl refl none
    (object_of_more made text object other)

reported_of : (object : ℕ) → 0 < object → object_reported object ≡ Some object
reported_of object some = ap (λ (b : Bool). if b then None else Some object) (not_null object (λ null. omega (arith, null, some)))

reported_at : (b : Bool) (objects : List ℕ) (text object other : ℕ) (y : Option ℕ) → nat_eq text other ≡ b → text < length objects → 0 < object
    → object_reported (get_or objects other 0) ≡ y
    → object_reported (get_or (set objects text object) other 0) ≡ (if b then Some object else y)
reported_at true objects text object other y e less some reported =
    let same : other ≡ text = sym (eqb-true text other e) in
    ap object_reported (get_or-set_at objects text other object 0 same less) ∙ reported_of object some
reported_at false objects text object other y e less some reported =
    ap object_reported (get_or-set_other objects text other object 0 (λ same. eqb-false text other e (sym same))) ∙ reported

pub keeps_reported : (objects : List ℕ) (made : List (ℕ × ℕ)) (text object : ℕ) → ((other : ℕ) → object_reported (get_or objects other 0) ≡ object_of made other)
    → text < length objects → 0 < object → object_of made text ≡ None
    → (other : ℕ) → object_reported (get_or (set objects text object) other 0) ≡ object_of (made ++ (text, object) ∷ []) other
keeps_reported objects made text object reported less some first other =
    reported_at (nat_eq text other) objects text object other (object_of made other) refl less some (reported other) ∙ sym (object_of_more made text object other first)

-- ---- what is pushed

pub pushes_kept : (limit : Option ℕ) (class text r : ℕ) (units : List ℕ) (heap : Heap ℕ) (made : List (ℕ × ℕ)) (operands after : List Value)
    → Some r ≡ object_of made text → after ≡ values.Ref r ∷ operands
    → push_text_by limit class text units heap made operands ≡ literal_flows heap made after (Ok Next)
pushes_kept limit class text r units heap made operands after there left =
    ap (pushed limit class text units heap made operands) (sym there) ∙ ap (λ (after : List Value). literal_flows heap made after (Ok Next)) (sym left)

pub pushes_new : (old new : LimitedHeap) (class text r : ℕ) (units : List ℕ) (made now : List (ℕ × ℕ)) (operands after : List Value)
    → None ≡ object_of made text → Makes old new (Text class units) r → now ≡ made ++ (text, r) ∷ [] → after ≡ values.Ref r ∷ operands
    → push_text_by (Some old.limit) class text units old.heap made operands ≡ literal_flows new.heap now after (Ok Next)
pushes_new old new class text r units made now operands after none m kept left =
    let fits : nat_lt old.limit (old.heap.used + text_size units) ≡ false = le-ltb old.limit (old.heap.used + text_size units) m.fits in
    ap (pushed (Some old.limit) class text units old.heap made operands) (sym none)
    ∙ (ap (λ (b : Bool). if b then literal_flows old.heap made operands (Err (outcomes.HeapFull old.heap.used (text_size units)))
    else literal_flows (with_new old.heap (Text class units)) (made ++ (text, next_number old.heap) ∷ []) (values.Ref (next_number old.heap) ∷ operands) (Ok Next)) fits
    ∙ (ap (λ (h : LimitedHeap). literal_flows h.heap (made ++ (text, next_number old.heap) ∷ []) (values.Ref (next_number old.heap) ∷ operands) (Ok Next)) (sym m.heap)
    ∙ (ap (λ (r : ℕ). literal_flows new.heap (made ++ (text, r) ∷ []) (values.Ref r ∷ operands) (Ok Next)) (sym m.number)
    ∙ (ap (λ (now : List (ℕ × ℕ)). literal_flows new.heap now (values.Ref r ∷ operands) (Ok Next)) (sym kept)
    ∙ ap (λ (after : List Value). literal_flows new.heap now after (Ok Next)) (sym left)))))

pub pushes_none : (h : LimitedHeap) (class text used size : ℕ) (units : List ℕ) (made : List (ℕ × ℕ)) (operands : List Value)
    → None ≡ object_of made text → Refuses h (text_size units) (errors.Full used size)
    → push_text_by (Some h.limit) class text units h.heap made operands ≡ literal_flows h.heap made operands (Err (outcomes.HeapFull used size))
pushes_none h class text used size units made operands none cause =
    let past : nat_lt h.limit (h.heap.used + text_size units) ≡ true = lt-ltb h.limit (h.heap.used + text_size units) cause.2 in
    ap (pushed (Some h.limit) class text units h.heap made operands) (sym none)
    ∙ (ap (λ (b : Bool). if b then literal_flows h.heap made operands (Err (outcomes.HeapFull h.heap.used (text_size units)))
    else literal_flows (with_new h.heap (Text class units)) (made ++ (text, next_number h.heap) ∷ []) (values.Ref (next_number h.heap) ∷ operands) (Ok Next)) past
    ∙ (ap (λ (used : ℕ). literal_flows h.heap made operands (Err (outcomes.HeapFull used (text_size units)))) (sym cause.0)
    ∙ ap (λ (size : ℕ). literal_flows h.heap made operands (Err (outcomes.HeapFull used size))) (sym cause.1)))

-- ---- what is kept

abbrev kept_as : ℕ → Heap ℕ → List (ℕ × ℕ) → KeptBy
kept_as r heap made = record { object = r; heap = heap; literals = made }

pub kept_there : (limit : Option ℕ) (class text r : ℕ) (units : List ℕ) (heap : Heap ℕ) (made : List (ℕ × ℕ)) → Some r ≡ object_of made text
    → kept_by limit class text units heap made ≡ Some (record { object = r; heap = heap; literals = made })
kept_there limit class text r units heap made there = ap (kept_or_made_by limit class text units heap made) (sym there)

pub kept_new : (old new : LimitedHeap) (class text r : ℕ) (units : List ℕ) (made now : List (ℕ × ℕ))
    → None ≡ object_of made text → Makes old new (Text class units) r → now ≡ made ++ (text, r) ∷ []
    → kept_by (Some old.limit) class text units old.heap made ≡ Some (record { object = r; heap = new.heap; literals = now })
kept_new old new class text r units made now none m kept =
    let fits : nat_lt old.limit (old.heap.used + text_size units) ≡ false = le-ltb old.limit (old.heap.used + text_size units) m.fits in
    ap (kept_or_made_by (Some old.limit) class text units old.heap made) (sym none)
    ∙ (ap (λ (b : Bool). if b then None else Some (kept_as (next_number old.heap) (with_new old.heap (Text class units)) (made ++ (text, next_number old.heap) ∷ []))) fits
    ∙ (ap (λ (h : LimitedHeap). Some (kept_as (next_number old.heap) h.heap (made ++ (text, next_number old.heap) ∷ []))) (sym m.heap)
    ∙ (ap (λ (r : ℕ). Some (kept_as r new.heap (made ++ (text, r) ∷ []))) (sym m.number)
    ∙ ap (λ (now : List (ℕ × ℕ)). Some (kept_as r new.heap now)) (sym kept))))

pub kept_none : (h : LimitedHeap) (class text used size : ℕ) (units : List ℕ) (made : List (ℕ × ℕ))
    → None ≡ object_of made text → Refuses h (text_size units) (errors.Full used size) → kept_by (Some h.limit) class text units h.heap made ≡ None
kept_none h class text used size units made none cause =
    let past : nat_lt h.limit (h.heap.used + text_size units) ≡ true = lt-ltb h.limit (h.heap.used + text_size units) cause.2 in
    ap (kept_or_made_by (Some h.limit) class text units h.heap made) (sym none)
    ∙ ap (λ (b : Bool). if b then None else Some (kept_as (next_number h.heap) (with_new h.heap (Text class units)) (made ++ (text, next_number h.heap) ∷ []))) past
