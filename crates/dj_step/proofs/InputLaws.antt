-- The input as the first object of a heap.
use Rattle.std.proofs.Common.{◌≡◌, ◌≤◌, ℕ, zero, suc, ◌+◌, ℤ, pos, List, [], ◌∷◌, ◌++◌, length, map, set, replicate, Option, Some, IsSome, refl, sym, ap, subst, ◌∙◌, arith, Fits, FitsSigned}
use Rattle.std.specs.Prelude.{slice_get, unwrap_or}
use Rattle.std.specs.Int.{w8, cast_signed, int_wrap}
use Rattle.std.proofs.Math.Nat.{mod-eq_of_lt}
use Rattle.std.proofs.lemmas.Int.{SFits-int_wrap, int_wrap_fits}
use Rattle.std.specs.List.{All}
use Rattle.std.proofs.lemmas.Bool.{false≢true}
use Rattle.std.proofs.lemmas.List.{length-map, length-replicate}
use Rattle.std.proofs.lemmas.List.Elements.{All-nil, All-push}
use Rattle.std.proofs.lemmas.Option.{same_Some, none-some, slice_get-get_or, slice_get_within}
use Rattle.dj_names.specs.declared.descriptor.Base.TheVariants as bases
use Rattle.dj_names.specs.declared.descriptor.Ty.{Ty}
use Rattle.dj_names.specs.declared.run.Element.TheVariants as elements
use Rattle.dj_names.specs.trusted.Heaps.{Array, object_size, array_size}
use Rattle.dj_names.specs.Heaps.{heap_map}
use Rattle.dj_names.specs.trusted.Types.{class_type, base_array}
use Rattle.dj_model.specs.trusted.Runs.{input_array}
use Rattle.dj_library_types.specs.Numbered as numbered
use Rattle.dj_heap.specs.Heaps.{LimitedHeap, Makes, Refuses, Replaces, element_in, low_bits, with_number}
use Rattle.dj_heap.specs.declared.errors.HeapError.{HeapError}
use Rattle.dj_heap.specs.declared.errors.HeapError.TheVariants as errors
use Rattle.dj_natives.specs.Known.{IsKnown}
use Rattle.dj_numbering.specs.Typed.{types_of}
use Rattle.dj_image.specs.Imaged.{Imaged, typed_of}
use Rattle.dj_step.specs.declared.answers.StartError.{StartError}
use Rattle.dj_step.specs.Running.{FillsBytes, FillsTo, HasZeros, HoldsInput, RefusesInput, bytes_heap, filled, start_error}

-- ---- bytes that are filled in

zeros_are : (input : List ℕ) → filled 0 input ≡ replicate (length input) (pos 0)
zeros_are [] = refl
zeros_are (byte ∷ bytes) = ap (λ (zs : List ℤ). pos 0 ∷ zs) (zeros_are bytes)

whole : (input : List ℕ) (at : ℕ) → length input ≤ at → filled at input ≡ map (cast_signed w8) input
whole [] at le = refl
whole (byte ∷ bytes) zero le = absurd (omega (arith, le))
whole (byte ∷ bytes) (suc at) le = ap (λ (zs : List ℤ). cast_signed w8 byte ∷ zs) (whole bytes at (omega (arith, le)))

as_long : (input : List ℕ) (at : ℕ) → length (filled at input) ≡ length input
as_long [] at = refl
as_long (byte ∷ bytes) zero = ap suc (as_long bytes zero)
as_long (byte ∷ bytes) (suc at) = ap suc (as_long bytes at)

one_more : (input : List ℕ) (at byte : ℕ) → slice_get input at ≡ Some byte → set (filled at input) at (cast_signed w8 byte) ≡ filled (suc at) input
one_more [] at byte e = absurd (none-some byte e)
one_more (x ∷ bytes) zero byte e = ap (λ (b : ℕ). cast_signed w8 b ∷ filled zero bytes) (sym (same_Some x byte e))
one_more (x ∷ bytes) (suc at) byte e = ap (λ (zs : List ℤ). cast_signed w8 x ∷ zs) (one_more bytes at byte e)

wrapped_byte : (byte : ℕ) → Fits w8 byte → int_wrap w8 (pos byte) ≡ cast_signed w8 byte
unfolding int_wrap
wrapped_byte byte few = ap (cast_signed w8) (mod-eq_of_lt few.fits)

kept_byte : (byte : ℕ) → Fits w8 byte → low_bits elements.Byte (cast_signed w8 byte) ≡ cast_signed w8 byte
kept_byte byte few = int_wrap_fits w8 (cast_signed w8 byte) (subst (FitsSigned w8) (wrapped_byte byte few) (SFits-int_wrap w8 (pos byte)))

-- ---- the heap

pub filled_none : (input : List ℕ) (h : LimitedHeap) → FillsTo input 0 h h
filled_none input h class e = e

pub filled_all : (input : List ℕ) (at : ℕ) (old new : LimitedHeap) → length input ≤ at → FillsTo input at old new → FillsBytes input old new
filled_all input at old new le so_far class e = so_far class e ∙ ap (bytes_heap class old.limit) (whole input at le)

pub byte_within : (input : List ℕ) (at byte : ℕ) (old now : LimitedHeap) → HasZeros input old → slice_get input at ≡ Some byte → FillsTo input at old now → IsSome (element_in now 1 at)
byte_within input at byte old now zeros got so_far =
    let is = so_far zeros.class zeros.is in
    let long = as_long input at in
    let lt = slice_get_within input at byte got in
    subst (λ (h : LimitedHeap). IsSome (element_in h 1 at)) (sym is) (subst IsSome (sym (slice_get-get_or (filled at input) at (pos 0) (omega (arith, long, lt)))) refl)

pub filled_more : (input : List ℕ) (at byte : ℕ) (z : ℤ) (old now new : LimitedHeap) → z ≡ cast_signed w8 byte → slice_get input at ≡ Some byte → Fits w8 byte → FillsTo input at old now
    → Replaces now new 1 (λ object. with_number object at z) → FillsTo input (at + 1) old new
filled_more input at byte z old now new same got few so_far changes class e =
    let replaces = subst (λ (n : ℤ). Replaces now new 1 (λ object. with_number object at n)) same changes in
    let is = so_far class e in
    let there : Some (Array class elements.Byte (filled at input)) ≡ Some (Array class elements.Byte (filled at input)) = refl in
    let next : suc at ≡ at + 1 = omega arith in
    let long : length (filled at input) ≡ length (filled (at + 1) input) = as_long input at ∙ sym (as_long input (at + 1)) in
    let contents : set (filled at input) at (low_bits elements.Byte (cast_signed w8 byte)) ≡ filled (at + 1) input =
    ap (set (filled at input) at) (kept_byte byte few) ∙ (one_more input at byte got ∙ ap (λ (n : ℕ). filled n input) next) in
    subst (λ (h : LimitedHeap). (Replaces h new 1 (λ object. with_number object at (cast_signed w8 byte))) → new ≡ bytes_heap class old.limit (filled (at + 1) input)) (sym is)
    (λ changed. changed (Array class elements.Byte (filled at input)) refl
    ∙ (ap (λ (zs : List ℤ). record { heap = record { objects = Array class elements.Byte zs ∷ []; used = array_size elements.Byte (length (filled at input)) }; limit = old.limit }) contents
    ∙ ap (λ (n : ℕ). record { heap = record { objects = Array class elements.Byte (filled (at + 1) input) ∷ []; used = array_size elements.Byte n }; limit = old.limit }) long)) replaces

-- ---- how it begins

abbrev empty : ℕ → LimitedHeap
empty limit = record { heap = record { objects = []; used = 0 }; limit = limit }

made_zeros : (input : List ℕ) (limit class count r : ℕ) (old new : LimitedHeap) → old ≡ empty limit → count ≡ length input → Makes old new (Array class elements.Byte (replicate count (pos 0))) r
    → new ≡ bytes_heap class limit (filled 0 input)
made_zeros input limit class count r old new none long makes =
    let size : length (replicate count (pos 0)) ≡ length (filled 0 input) = length-replicate count (pos 0) ∙ (long ∙ sym (as_long input 0)) in
    let zeros : replicate count (pos 0) ≡ filled 0 input = ap (λ (n : ℕ). replicate n (pos 0)) long ∙ sym (zeros_are input) in
    makes.heap
    ∙ (ap (λ (h : LimitedHeap). record h { heap = record { objects = h.heap.objects ++ Array class elements.Byte (replicate count (pos 0)) ∷ []; used = h.heap.used + array_size elements.Byte (length (replicate count (pos 0))) } }) none
    ∙ (ap (λ (n : ℕ). record { heap = record { objects = Array class elements.Byte (replicate count (pos 0)) ∷ []; used = n }; limit = limit })
    (let none_used : 0 + array_size elements.Byte (length (replicate count (pos 0))) ≡ array_size elements.Byte (length (replicate count (pos 0))) = omega arith in none_used ∙ ap (array_size elements.Byte) size)
    ∙ ap (λ (zs : List ℤ). record { heap = record { objects = Array class elements.Byte zs ∷ []; used = array_size elements.Byte (length (filled 0 input)) }; limit = limit }) zeros))

pub zeros : (input : List ℕ) (limit class count r : ℕ) (old new : LimitedHeap) → old ≡ empty limit → count ≡ length input → Makes old new (Array class elements.Byte (replicate count (pos 0))) r
    → HasZeros input new
zeros input limit class count r old new none long makes =
    let is = made_zeros input limit class count r old new none long makes in
    record { class = class; is = is ∙ ap (λ (n : ℕ). bytes_heap class n (filled 0 input)) (sym (ap (λ (h : LimitedHeap). h.limit) is)) }

pub holds : (imaged : Imaged) (input : List ℕ) (limit class count r : ℕ) (old mid new : LimitedHeap) → slice_get (types_of (typed_of imaged)) class ≡ Some (base_array bases.Byte)
    → old ≡ empty limit → count ≡ length input → Makes old mid (Array class elements.Byte (replicate count (pos 0))) r → FillsBytes input mid new → HoldsInput imaged input limit new
holds imaged input limit class count r old mid new typed none long makes fills =
    let is = made_zeros input limit class count r old mid none long makes in
    let limits : mid.limit ≡ limit = ap (λ (h : LimitedHeap). h.limit) is in
    let now : new ≡ bytes_heap class limit (map (cast_signed w8) input) =
    fills class (is ∙ ap (λ (n : ℕ). bytes_heap class n (filled 0 input)) (sym limits)) ∙ ap (λ (n : ℕ). bytes_heap class n (map (cast_signed w8) input)) limits in
    let ty : numbered.type_at (types_of (typed_of imaged)) class ≡ base_array bases.Byte = ap (λ (o : Option Ty). unwrap_or o (class_type [])) typed in
    let size : length (replicate count (pos 0)) ≡ length (map (cast_signed w8) input) = length-replicate count (pos 0) ∙ (long ∙ sym (length-map input (cast_signed w8))) in
    let sizes : array_size elements.Byte (length (replicate count (pos 0))) ≡ object_size (input_array input) = ap (array_size elements.Byte) size in
    let used : old.heap.used ≡ 0 = ap (λ (h : LimitedHeap). h.heap.used) none in
    let limited : old.limit ≡ limit = ap (λ (h : LimitedHeap). h.limit) none in
    let room = makes.fits in
    record {
      is = ap (λ (h : LimitedHeap). heap_map (numbered.type_at (types_of (typed_of imaged))) h.heap) now
          ∙ ap (λ (t : Ty). record { objects = Array t elements.Byte (map (cast_signed w8) input) ∷ []; used = object_size (input_array input) }) ty;
      limited = ap (λ (h : LimitedHeap). h.limit) now;
      fits = omega (arith, room, used, limited, sizes);
      known = subst (λ (h : LimitedHeap). All (IsKnown (types_of (typed_of imaged))) h.heap.objects) (sym now)
          (All-push (IsKnown (types_of (typed_of imaged))) [] (Array class elements.Byte (map (cast_signed w8) input)) (All-nil (IsKnown (types_of (typed_of imaged))))
          (record { class = slice_get_within (types_of (typed_of imaged)) class (base_array bases.Byte) typed; holds = λ none. absurd (false≢true none) }));
    }

refused_by : (input : List ℕ) (limit count : ℕ) (h : LimitedHeap) (e : HeapError) → h ≡ empty limit → count ≡ length input → Refuses h (array_size elements.Byte count) e
    → RefusesInput input limit (start_error e)
refused_by input limit count h errors.Memory none long refuses = tt
refused_by input limit count h (errors.Full used size) none long refuses =
    let nothing : h.heap.used ≡ 0 = ap (λ (h : LimitedHeap). h.heap.used) none in
    let limited : h.limit ≡ limit = ap (λ (h : LimitedHeap). h.limit) none in
    let sizes : array_size elements.Byte count ≡ object_size (input_array input) = ap (array_size elements.Byte) (long ∙ sym (length-map input (cast_signed w8))) in
    let past = refuses.2 in
    (refuses.0 ∙ nothing, refuses.1 ∙ sizes, omega (arith, past, nothing, limited, sizes))

pub refused : (input : List ℕ) (limit count : ℕ) (h : LimitedHeap) (e : HeapError) (start : StartError) → h ≡ empty limit → count ≡ length input → Refuses h (array_size elements.Byte count) e
    → start ≡ start_error e → RefusesInput input limit start
refused input limit count h e start none long refuses same = subst (RefusesInput input limit) (sym same) (refused_by input limit count h e none long refuses)
