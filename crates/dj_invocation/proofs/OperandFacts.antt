-- The upper operands of a frame, from the top down.
use Rattle.std.proofs.Common.{◌≡◌, ◌<◌, ◌≤◌, ℕ, zero, suc, ◌+◌, ◌-◌, ◌&&◌, Bool, true, false, List, [], ◌∷◌, ◌++◌, map, length, reverse, take, drop, get_or, if◌then◌else◌, Option, Some, None, slice_get, IsSome, refl, sym, ap, ◌∙◌, subst, arith}
use Rattle.std.specs.Prelude.{option_and_then, nat_le}
use Rattle.std.proofs.lemmas.Bool.Decides.{nat_tests}
use Rattle.std.proofs.lemmas.Grind.{reverse_onto}
use Rattle.std.proofs.lemmas.List.{length-reverse, get_or-reverse, length-take-le, map-append, reverse-reverse}
use Rattle.std.proofs.Math.Seq.{take-suc}
use Rattle.std.proofs.lemmas.Option.{slice_get-get_or, get_or_from_slice_get, none-some, same_Some}
use Rattle.dj_names.specs.declared.descriptor.Kind.{Kind}
use Rattle.dj_names.specs.declared.descriptor.Kind.TheVariants as tags
use Rattle.dj_names.specs.trusted.Values.{value_kind}
use Rattle.dj_names.specs.declared.run.Value.{Value}
use Rattle.dj_names.specs.declared.run.Value.TheVariants as values
use Rattle.dj_model.specs.trusted.Numbers.{is_of_kind, same_kind}
use Rattle.dj_model.specs.trusted.Members.{with_last, taken_from}
use Rattle.dj_stack.specs.Frames.{StackFrame, SameButOperands, operand_at, top_operands}
use Rattle.dj_effects.proofs.TopFacts.{last_frame}
use Rattle.dj_invocation.specs.Operands.{fit, receiver_in, with_operands}

-- ---- from the top

-- an element from the end
pub from_end : {A : Type 0} (xs : List A) (i j : ℕ) → i + j + 1 ≡ length xs → slice_get (reverse xs) i ≡ slice_get xs j
from_end [] i j e = absurd (omega (arith, e))
from_end (x ∷ xs) i j e =
    let long : length (reverse (x ∷ xs)) ≡ length (x ∷ xs) = length-reverse (x ∷ xs) in
    let place : length (x ∷ xs) - 1 - i ≡ j = omega (arith, e) in
    slice_get-get_or (reverse (x ∷ xs)) i x (omega (arith, e, long))
    ∙ (ap Some (get_or-reverse (x ∷ xs) i x (omega (arith, e)) ∙ ap (λ (k : ℕ). get_or (x ∷ xs) k x) place)
    ∙ sym (slice_get-get_or (x ∷ xs) j x (omega (arith, e))))

at_top : (frames : List StackFrame) (f i j : ℕ) → f + 1 ≡ length frames → i + j + 1 ≡ length (top_operands frames)
    → operand_at frames f i ≡ slice_get (top_operands frames) j
at_top [] f i j e k = absurd (omega (arith, e))
at_top (top ∷ below) f i j e k =
    ap (λ (o : Option StackFrame). option_and_then (λ (frame : StackFrame). slice_get (reverse frame.operands) i) o) (last_frame (top ∷ below) f e)
    ∙ from_end top.operands i j k

pub some_operand : (frames : List StackFrame) (f i j : ℕ) → f + 1 ≡ length frames → i + j + 1 ≡ length (top_operands frames) → IsSome (operand_at frames f i)
some_operand frames f i j e k = subst IsSome (sym (at_top frames f i j e k)) (there (top_operands frames) j (omega (arith, k))) where
  there : {A : Type 0} (xs : List A) (j : ℕ) → j < length xs → IsSome (slice_get xs j)
  there [] j less = absurd (omega (arith, less))
  there (x ∷ xs) zero less = refl
  there (x ∷ xs) (suc j) less = there xs j (omega (arith, less))

pub from_top : (frames : List StackFrame) (f i j : ℕ) (v : Value) → f + 1 ≡ length frames → i + j + 1 ≡ length (top_operands frames) → operand_at frames f i ≡ Some v
    → slice_get (top_operands frames) j ≡ Some v
from_top frames f i j v e k is = sym (at_top frames f i j e k) ∙ is

-- ---- kinds

pub too_few : (kinds : List Kind) (operands : List Value) → length operands < length kinds → fit kinds operands ≡ false
too_few [] operands less = absurd (omega (arith, less))
too_few (kind ∷ kinds) [] less = refl
too_few (kind ∷ kinds) (v ∷ operands) less = by (is_of_kind kind v) (too_few kinds operands (omega (arith, less))) where
  by : (b : Bool) → fit kinds operands ≡ false → (b && fit kinds operands) ≡ false
  by true e = e
  by false e = refl

next : (n : ℕ) → suc n ≡ n + 1
next n = omega arith

after_one : (kinds : List Kind) (operands : List Value) (at : ℕ) (kind : Kind) (v : Value) → slice_get kinds at ≡ Some kind → slice_get operands at ≡ Some v
    → fit (drop at kinds) (drop at operands) ≡ (is_of_kind kind v && fit (drop (suc at) kinds) (drop (suc at) operands))
after_one [] operands at kind v k o = absurd (none-some kind k)
after_one (c ∷ kinds) [] at kind v k o = absurd (none-some v o)
after_one (c ∷ kinds) (w ∷ operands) zero kind v k o =
    ap (λ (c : Kind). is_of_kind c w && fit kinds operands) (same_Some c kind k) ∙ ap (λ (w : Value). is_of_kind kind w && fit kinds operands) (same_Some w v o)
after_one (c ∷ kinds) (w ∷ operands) (suc at) kind v k o = after_one kinds operands at kind v k o

-- one more is looked at
pub one_more : (kinds : List Kind) (operands : List Value) (at : ℕ) (kind : Kind) (v : Value) → slice_get kinds at ≡ Some kind → slice_get operands at ≡ Some v
    → fit (drop at kinds) (drop at operands) ≡ (is_of_kind kind v && fit (drop (at + 1) kinds) (drop (at + 1) operands))
one_more kinds operands at kind v k o =
    after_one kinds operands at kind v k o ∙ ap (λ (n : ℕ). is_of_kind kind v && fit (drop n kinds) (drop n operands)) (next at)

pub kind_at : (kinds : List Kind) (at : ℕ) (d : Kind) → at < length kinds → slice_get (reverse kinds) at ≡ Some (get_or kinds (length kinds - 1 - at) d)
kind_at kinds at d less =
    let long = length-reverse kinds in
    slice_get-get_or (reverse kinds) at d (omega (arith, less, long)) ∙ ap Some (get_or-reverse kinds at d less)

none_short : (kinds : List Kind) (at : ℕ) → length kinds ≤ at → fit (drop at kinds) [] ≡ true
none_short [] zero e = refl
none_short [] (suc at) e = refl
none_short (kind ∷ kinds) zero e = absurd (omega (arith, e))
none_short (kind ∷ kinds) (suc at) e = none_short kinds at (omega (arith, e))

pub none_left : (kinds : List Kind) (operands : List Value) (at : ℕ) → length kinds ≤ at → fit (drop at kinds) (drop at operands) ≡ true
none_left [] operands zero e = refl
none_left [] operands (suc at) e = refl
none_left (kind ∷ kinds) operands zero e = absurd (omega (arith, e))
none_left (kind ∷ kinds) [] (suc at) e = none_short kinds at (omega (arith, e))
none_left (kind ∷ kinds) (v ∷ operands) (suc at) e = none_left kinds operands at (omega (arith, e))

-- ---- operands that are taken

pub same_frames : (frames : List StackFrame) → SameButOperands frames frames
same_frames frames = record { frames = record { count = refl; method = refl; room = refl; below = refl }; number = refl; locals = refl }

pub same_later : (a b c : List StackFrame) → SameButOperands a b → SameButOperands b c → SameButOperands a c
same_later a b c x y = record {
  frames = record {
    count = y.frames.count ∙ x.frames.count;
    method = y.frames.method ∙ x.frames.method;
    room = y.frames.room ∙ x.frames.room;
    below = y.frames.below ∙ x.frames.below;
  };
  number = y.number ∙ x.number;
  locals = y.locals ∙ x.locals;
}

dropped_first : {A : Type 0} (xs ys : List A) (at : ℕ) (x : A) → drop at xs ≡ x ∷ ys → ys ≡ drop (suc at) xs
dropped_first [] ys zero x e = absurd cc
dropped_first [] ys (suc at) x e = absurd cc
dropped_first (w ∷ xs) ys zero x e = cc
dropped_first (w ∷ xs) ys (suc at) x e = dropped_first xs ys at x e

-- and one more
pub dropped_one : {A : Type 0} (xs ys : List A) (at : ℕ) (x : A) → drop at xs ≡ x ∷ ys → ys ≡ drop (at + 1) xs
dropped_one xs ys at x e = dropped_first xs ys at x e ∙ ap (λ (n : ℕ). drop n xs) (next at)

-- ---- operands that are copied

pub within_take : {A : Type 0} (xs : List A) (n i : ℕ) → i < n → slice_get (take n xs) i ≡ slice_get xs i
within_take xs zero i less = absurd (omega (arith, less))
within_take [] (suc n) i less = refl
within_take (x ∷ xs) (suc n) zero less = refl
within_take (x ∷ xs) (suc n) (suc i) less = within_take xs n i (omega (arith, less))

-- one more, from the lowest up
pub copied_one : (operands items : List Value) (count at : ℕ) (v : Value) → count ≤ length operands → at < count → slice_get operands (count - 1 - at) ≡ Some v
    → items ≡ take at (reverse (take count operands)) → items ++ v ∷ [] ≡ take (at + 1) (reverse (take count operands))
copied_one operands items count at v few less is so_far =
    let xs : List Value = reverse (take count operands) in
    let taken : length (take count operands) ≡ count = length-take-le count operands few in
    let long : length xs ≡ length (take count operands) = length-reverse (take count operands) in
    let got : slice_get xs at ≡ Some v =
    from_end (take count operands) at (count - 1 - at) (omega (arith, taken, less)) ∙ (within_take operands count (count - 1 - at) (omega (arith, less)) ∙ is) in
    ap (λ (prefix : List Value). prefix ++ v ∷ []) so_far
    ∙ (ap (λ (x : Value). take at xs ++ x ∷ []) (sym (get_or_from_slice_get xs at v v got))
    ∙ (sym (take-suc xs at v (omega (arith, less, long, taken))) ∙ ap (λ (n : ℕ). take n xs) (next at)))

-- the frames with the operands that are left
pub frames_left : (old new : List StackFrame) (operands : List Value) → SameButOperands old new → top_operands new ≡ operands → new ≡ with_operands operands old
frames_left [] [] operands same e = refl
frames_left [] (frame ∷ below) operands same e = let count = same.frames.count in absurd (omega (arith, count))
frames_left (frame ∷ below) [] operands same e = let count = same.frames.count in absurd (omega (arith, count))
frames_left (f ∷ old) (g ∷ new) operands same e = λ i. record {
  method = same.frames.method i;
  number = same.number i;
  locals = same.locals i;
  operands = e i;
  room = same.frames.room i;
} ∷ same.frames.below i

-- ---- what stands below

pub first_left : {A : Type 0} (xs : List A) (at : ℕ) (x : A) → slice_get xs at ≡ Some x → drop at xs ≡ x ∷ drop (suc at) xs
first_left [] at x e = absurd (none-some x e)
first_left (y ∷ xs) zero x e = ap (λ (y : _). y ∷ xs) (same_Some y x e)
first_left (y ∷ xs) (suc at) x e = first_left xs at x e

pub receiver_at : (operands : List Value) (at : ℕ) (v : Value) → slice_get operands at ≡ Some v → receiver_in (drop at operands) ≡ receiver_in (v ∷ [])
receiver_at operands at v e = ap receiver_in (first_left operands at v e) ∙ by v where
  by : (v : Value) → receiver_in (v ∷ drop (suc at) operands) ≡ receiver_in (v ∷ [])
  by (values.Int z) = refl
  by (values.Long z) = refl
  by (values.Ref r) = refl

pub no_receiver : (operands : List Value) (at : ℕ) → length operands ≤ at → receiver_in (drop at operands) ≡ None
no_receiver [] zero e = refl
no_receiver [] (suc at) e = refl
no_receiver (v ∷ operands) zero e = absurd (omega (arith, e))
no_receiver (v ∷ operands) (suc at) e = no_receiver operands at (omega (arith, e))

pub not_reference : (operands : List Value) (at : ℕ) (v : Value) → slice_get operands at ≡ Some v → ((r : ℕ) → v ≡ values.Ref r → ⊥) → receiver_in (drop at operands) ≡ None
not_reference operands at v e other = receiver_at operands at v e ∙ by v other where
  by : (v : Value) → ((r : ℕ) → v ≡ values.Ref r → ⊥) → receiver_in (v ∷ []) ≡ None
  by (values.Int z) other = refl
  by (values.Long z) other = refl
  by (values.Ref r) other = absurd (other r refl)

-- what a receiver and the operands above it are together
pub with_receiver : (operands : List Value) (at r : ℕ) → receiver_in (drop at operands) ≡ Some r
    → (drop at operands ≡ values.Ref r ∷ drop (at + 1) operands) × (values.Ref r ∷ reverse (take at operands) ≡ reverse (take (at + 1) operands)) × (at < length operands)
with_receiver [] zero r e = absurd (none-some r e)
with_receiver [] (suc at) r e = absurd (none-some r e)
with_receiver (values.Int z ∷ operands) zero r e = absurd (none-some r e)
with_receiver (values.Long z ∷ operands) zero r e = absurd (none-some r e)
with_receiver (values.Ref s ∷ operands) zero r e = let same = same_Some s r e in (ap (λ (n : ℕ). values.Ref n ∷ operands) same, ap (λ (n : ℕ). values.Ref n ∷ []) (sym same), omega arith)
with_receiver (v ∷ operands) (suc at) r e =
    let h = with_receiver operands at r e in
    let more : suc (at + 1) ≡ suc at + 1 = omega arith in (
      h.0 ∙ ap (λ (n : ℕ). values.Ref r ∷ drop n (v ∷ operands)) more,
      ap (λ (xs : List Value). values.Ref r ∷ xs) (reverse_onto (take at operands) v [])
          ∙ (ap (λ (xs : List Value). xs ++ v ∷ []) h.1 ∙ (sym (reverse_onto (take (at + 1) operands) v []) ∙ ap (λ (n : ℕ). reverse (take n (v ∷ operands))) more)),
      omega (arith, h.2),
    )

-- ---- arguments in the model

pub taken_fit : (kinds : List Kind) (operands : List Value) → fit kinds operands ≡ true
    → taken_from kinds operands ≡ Some (record { values = reverse (take (length kinds) operands); rest = drop (length kinds) operands })
taken_fit [] operands e = refl
taken_fit (kind ∷ kinds) [] e = absurd cc
taken_fit (kind ∷ kinds) (v ∷ operands) e = by (taken_fit kinds operands) (is_of_kind kind v) e where
  by : (fit kinds operands ≡ true → taken_from kinds operands ≡ Some (record { values = reverse (take (length kinds) operands); rest = drop (length kinds) operands }))
      → (b : Bool) → (b && fit kinds operands) ≡ true
      → (if b then with_last v (taken_from kinds operands) else None)
      ≡ Some (record { values = reverse (v ∷ take (length kinds) operands); rest = drop (length kinds) operands })
  by below true e = ap (with_last v) (below e)
      ∙ ap (λ (xs : List Value). Some (record { values = xs; rest = drop (length kinds) operands })) (sym (reverse_onto (take (length kinds) operands) v []))
  by below false e = absurd cc

pub taken_not : (kinds : List Kind) (operands : List Value) → fit kinds operands ≡ false → taken_from kinds operands ≡ None
taken_not [] operands e = absurd cc
taken_not (kind ∷ kinds) [] e = refl
taken_not (kind ∷ kinds) (v ∷ operands) e = by (taken_not kinds operands) (is_of_kind kind v) e where
  by : (fit kinds operands ≡ false → taken_from kinds operands ≡ None) → (b : Bool) → (b && fit kinds operands) ≡ false → (if b then with_last v (taken_from kinds operands) else None) ≡ None
  by below true e = ap (with_last v) (below e)
  by below false e = refl

pub fit_within : (kinds : List Kind) (operands : List Value) → fit kinds operands ≡ true → length kinds ≤ length operands
fit_within kinds operands e = by (nat_le (length kinds) (length operands)) refl where
  by : (b : Bool) → nat_le (length kinds) (length operands) ≡ b → length kinds ≤ length operands
  by true is = grind (arith, nat_tests, is)
  by false is = let less : length operands < length kinds = grind (arith, nat_tests, is) in
      let fits : false ≡ true = sym (too_few kinds operands less) ∙ e in absurd cc

-- ---- kinds of what is taken

pub same_kind_is : (a b : Kind) → same_kind a b ≡ true → a ≡ b
same_kind_is tags.Int tags.Int e = refl
same_kind_is tags.Long tags.Long e = refl
same_kind_is tags.Ref tags.Ref e = refl
same_kind_is _ _ e = absurd cc

kinds_taken : (asked : List Kind) (operands : List Value) → fit asked operands ≡ true → map value_kind (take (length asked) operands) ≡ asked
kinds_taken [] operands e = refl
kinds_taken (kind ∷ asked) [] e = absurd cc
kinds_taken (kind ∷ asked) (v ∷ operands) e = by (is_of_kind kind v) refl e (kinds_taken asked operands) where
  by : (b : Bool) → is_of_kind kind v ≡ b → (b && fit asked operands) ≡ true → (fit asked operands ≡ true → map value_kind (take (length asked) operands) ≡ asked)
      → value_kind v ∷ map value_kind (take (length asked) operands) ≡ kind ∷ asked
  by false is e below = absurd cc
  by true is e below = λ i. sym (same_kind_is kind (value_kind v) is) i ∷ below e i

map_reversed : (xs : List Value) → map value_kind (reverse xs) ≡ reverse (map value_kind xs)
map_reversed [] = refl
map_reversed (x ∷ xs) =
    ap (map value_kind) (reverse_onto xs x [])
    ∙ (map-append value_kind (reverse xs) (x ∷ [])
    ∙ (ap (λ (l : List Kind). l ++ value_kind x ∷ []) (map_reversed xs) ∙ sym (reverse_onto (map value_kind xs) (value_kind x) [])))

pub values_taken : (asked : List Kind) (operands : List Value) → fit (reverse asked) operands ≡ true → map value_kind (reverse (take (length asked) operands)) ≡ asked
values_taken asked operands e =
    map_reversed (take (length asked) operands)
    ∙ (ap reverse (ap (λ (n : ℕ). map value_kind (take n operands)) (sym (length-reverse asked)) ∙ kinds_taken (reverse asked) operands e)
    ∙ reverse-reverse asked)
