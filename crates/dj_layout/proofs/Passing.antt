-- What the passes hand on from one instruction to the next.
use Rattle.std.proofs.Common.{◌≡◌, ℕ, zero, suc, ◌+◌, ◌<◌, ◌≤◌, ◌⊎◌, Bool, true, false, nat_le, MatchBool, ℤ, pos, List, [], ◌∷◌, ◌++◌, map, zip, length, take, get_or, slice_get, Some, Err, FitsSigned, refl, sym, ap, ap₂, subst, ◌∙◌, arith, inl, inr}
use Rattle.std.specs.Prelude.{unsigned_abs}
use Rattle.std.specs.List.{flat_map, AllByRecursion}
use Rattle.std.specs.Int.{w16, w64}
use Rattle.std.proofs.Math.Facts.{sfits_lit}
use Rattle.std.proofs.lemmas.Bool.{le-leb}
use Rattle.std.proofs.lemmas.Int.{ints}
use Rattle.std.proofs.lemmas.Option.{same_Some, none-some}
use Rattle.std.proofs.lemmas.List.{take_all, flat_map_more}
use Rattle.std.proofs.lemmas.List.Elements.{All-from_recursion}
use Rattle.dj_ops.specs.declared.instruction.Instr.{Instr}
use Rattle.dj_ops.specs.declared.instruction.Instr.TheVariants as instrs
use Rattle.dj_ops.specs.trusted.Forms.{OperandForm, ShortOffset, LongOffset, Reserved, form_of}
use Rattle.dj_ops.specs.trusted.Instructions.{IsProper, IsOffset, IsFar, AreOffsets, offset, length_at}
use Rattle.dj_ops.proofs.FormFacts.{short_form, long_form, opcode_below}
use Rattle.dj_labels.specs.trusted.Targets.{targets_of, with_targets}
use Rattle.dj_labels.specs.trusted.Labels.{IsNumber, HasNumbers, address_of}
use Rattle.dj_labels.proofs.Lists.{each_then, each_map, each_of_map, each_more}
use Rattle.dj_layout.specs.declared.errors.LayError.{LayError}
use Rattle.dj_layout.specs.declared.errors.LayError.TheVariants as errors
use Rattle.dj_layout.specs.trusted.Places.{starts_from, end_from}
use Rattle.dj_layout.specs.trusted.Layouts.{placed, placed_bytes, most_bytes}
use Rattle.dj_layout.specs.trusted.Faults.{Reaches}
use Rattle.dj_layout.specs.Faults.{IsFirstPast}
use Rattle.dj_layout.specs.Passes.{ArePlaces, IsAddress, IsWritten, AreBytes, HasFirstFar, IsByteFault}
use Rattle.dj_layout.proofs.Ends.{pair_with, same_length, end_more, end_within, starts_more, starts_length, start_at, number_below}

-- ---- places

end_is_next : (instrs : List Instr) (k at : ℕ) (x : Instr) → at ≡ end_from 0 (take k instrs) → k < length instrs → x ≡ get_or instrs k x → end_from 0 (take (k + 1) instrs) ≡ at + length_at at x
end_is_next instrs k at x e lt is = end_more 0 k instrs x lt ∙ ap₂ (λ (a : ℕ) (i : Instr). a + length_at a i) (sym e) (sym is)

pub past_at : (instrs : List Instr) (starts : List ℕ) (k at : ℕ) (x : Instr) → ArePlaces (take k instrs) starts at → k < length instrs → x ≡ get_or instrs k x → most_bytes < at + length_at at x → IsFirstPast instrs k
past_at instrs starts k at x places lt is past = record {
  within = lt;
  before = omega (arith, places.end_is, places.short);
  past = omega (arith, past, end_is_next instrs k at x places.end_is lt is);
}

pub more_placed : (instrs : List Instr) (starts : List ℕ) (k at next : ℕ) (x : Instr) → ArePlaces (take k instrs) starts at → k < length instrs → x ≡ get_or instrs k x → next ≡ at + length_at at x → next ≤ most_bytes
    → ArePlaces (take (k + 1) instrs) (starts ++ at ∷ []) next
more_placed instrs starts k at next x places lt is to short = record {
  starts_are = ap₂ (λ (s : List ℕ) (a : ℕ). s ++ a ∷ []) places.starts_are places.end_is ∙ sym (starts_more 0 k instrs lt);
  end_is = to ∙ sym (end_is_next instrs k at x places.end_is lt is);
  short = short;
}

-- numbers of instructions that are placed are few
pub number_few : (instrs : List Instr) (starts : List ℕ) (k at : ℕ) → ArePlaces (take k instrs) starts at → k < length instrs → k ≤ most_bytes
number_few instrs starts k at places lt = omega (arith, places.end_is, places.short, number_below k instrs (omega (arith, lt)))

-- ---- which instructions reach their targets

far_is : (at : ℕ) (z : ℤ) → at ≤ most_bytes → IsAddress z → IsFar at z
far_is at z le is = omega (arith, ints, le, is.0, is.1)

pub others_reach : (at : ℕ) (instr : Instr) → at ≤ most_bytes → AllByRecursion IsAddress (targets_of instr) → ((op : ℕ) (target : ℤ) → instr ≡ instrs.Branch op target → ⊥) → AreOffsets at instr
others_reach at (instrs.Branch op target) le are other = absurd (other op target refl)
others_reach at (instrs.Table low default targets) le are other = (far_is at default le are.0, each_then IsAddress (IsFar at) (λ z is. far_is at z le is) targets are.1)
others_reach at (instrs.Lookup default pairs) le are other =
    (far_is at default le are.0, each_then (λ pair. IsAddress pair.1) (λ pair. IsFar at pair.1) (λ pair is. far_is at pair.1 le is) pairs (each_of_map IsAddress (λ pair. pair.1) pairs are.1))
others_reach at _ le are other = tt

-- a jump to itself has an offset of any form
jump_form : (op : ℕ) → (form_of op ≡ ShortOffset) ⊎ (form_of op ≡ LongOffset) → IsOffset (form_of op) (pos 0)
jump_form op h =
    elim h [
      | inl e ↦ subst (λ (f : OperandForm). IsOffset f (pos 0)) (sym e) (sfits_lit tt)
      | inr e ↦ subst (λ (f : OperandForm). IsOffset f (pos 0)) (sym e) (sfits_lit tt)
    ]

jump_opcode : (op : ℕ) → (form_of op ≡ ShortOffset) ⊎ (form_of op ≡ LongOffset) → op < 256
jump_opcode op h =
    opcode_below op (λ r.
    elim h [
      | inl e ↦ let same : ShortOffset ≡ Reserved = sym e ∙ r in absurd cc (same)
      | inr e ↦ let same : LongOffset ≡ Reserved = sym e ∙ r in absurd cc (same)
    ])

long_reaches : (at op : ℕ) (target : ℤ) → 200 ≤ op → IsProper (instrs.Branch op target) → at ≤ most_bytes → IsAddress target → AreOffsets at (instrs.Branch op target)
long_reaches at op target high proper le is =
    subst (λ (f : OperandForm). IsOffset f (offset at target)) (sym (long_form op (pos 0) (jump_opcode op proper) high (jump_form op proper))) (far_is at target le is)

pub long_is : (instr : Instr) (at op : ℕ) (target : ℤ) → instr ≡ instrs.Branch op target → 200 ≤ op → IsProper instr → at ≤ most_bytes → AllByRecursion IsAddress (targets_of instr)
    → MatchBool (nat_le 200 op) (AreOffsets at instr) (AreOffsets at instr → ⊥)
long_is instr at op target e high proper le are =
    let reach : AreOffsets at instr = subst (λ (i : Instr). IsProper i → AllByRecursion IsAddress (targets_of i) → AreOffsets at i) (sym e) (λ p a. long_reaches at op target high p le a.0) proper are in
    subst (λ (b : Bool). MatchBool b (AreOffsets at instr) (AreOffsets at instr → ⊥)) (sym (le-leb 200 op high)) reach

match_same : (r : Bool) (P Q : Type 0) → (P → Q) → (Q → P) → MatchBool r P (P → ⊥) → MatchBool r Q (Q → ⊥)
match_same true P Q f g h = f h
match_same false P Q f g h = λ q. h (g q)

address_fits : (z : ℤ) → IsAddress z → FitsSigned w64 z
address_fits z is = omega (arith, ints, is.0, is.1)

pub target_fits : (instr : Instr) (op : ℕ) (target : ℤ) → instr ≡ instrs.Branch op target → AllByRecursion IsAddress (targets_of instr) → FitsSigned w64 target
target_fits instr op target e are =
    let all : AllByRecursion IsAddress (targets_of (instrs.Branch op target)) = subst (λ (i : Instr). AllByRecursion IsAddress (targets_of i)) e are in
    address_fits target all.0

pub near_is : (r : Bool) (instr : Instr) (at op : ℕ) (target same : ℤ) → instr ≡ instrs.Branch op target → same ≡ target → op < 200 → IsProper instr
    → MatchBool r (FitsSigned w16 (offset at same)) (FitsSigned w16 (offset at same) → ⊥) → MatchBool r (AreOffsets at instr) (AreOffsets at instr → ⊥)
near_is r instr at op target same e t low proper h =
    let form : form_of op ≡ ShortOffset = short_form op (pos 0) low (jump_form op (subst IsProper e proper)) in
    let way : ℤ = offset at target in
    match_same r (FitsSigned w16 (offset at same)) (AreOffsets at instr)
    (λ near. subst (AreOffsets at) (sym e) (subst (λ (f : OperandForm). IsOffset f way) (sym form) (subst (λ (z : ℤ). FitsSigned w16 (offset at z)) t near)))
    (λ there. subst (λ (z : ℤ). FitsSigned w16 (offset at z)) (sym t) (subst (λ (f : OperandForm). IsOffset f way) form (subst (AreOffsets at) e there)))
    h

-- ---- the instruction of a number

-- the targets of a lookup are numbers
pub pairs_numbers : (count : ℕ) (instr : Instr) (default : ℤ) (pairs slice : List (ℤ × ℤ)) → instr ≡ instrs.Lookup default pairs → slice ≡ pairs → HasNumbers count instr → AllByRecursion (λ pair. IsNumber count pair.1) slice
pairs_numbers count instr default pairs slice is same numbers =
    let all : HasNumbers count (instrs.Lookup default pairs) = subst (HasNumbers count) is numbers in
    subst (λ (l : List (ℤ × ℤ)). AllByRecursion (λ pair. IsNumber count pair.1) l) (sym same) (each_of_map (IsNumber count) (λ pair. pair.1) pairs all.1)

pub item_is : (P : Instr → Type 0) (instrs : List Instr) (k : ℕ) (x : Instr) → AllByRecursion P instrs → k < length instrs → x ≡ get_or instrs k x → P x
item_is P instrs k x all lt is = subst P (sym is) (All-from_recursion P instrs all k x lt)

-- what is replaced is each target
targets_with : (f : ℤ → ℤ) (instr : Instr) → targets_of (with_targets f instr) ≡ map f (targets_of instr)
targets_with f (instrs.Branch op target) = refl
targets_with f (instrs.Table low default targets) = refl
targets_with f (instrs.Lookup default pairs) = ap (λ (l : List ℤ). f default ∷ l) (pairs_with f pairs)
  where
    pairs_with : (f : ℤ → ℤ) (pairs : List (ℤ × ℤ)) → map (λ (pair : ℤ × ℤ). pair.1) (map (pair_with f) pairs) ≡ map f (map (λ (pair : ℤ × ℤ). pair.1) pairs)
    pairs_with f [] = refl
    pairs_with f (pair ∷ pairs) = ap (λ (l : List ℤ). f pair.1 ∷ l) (pairs_with f pairs)
targets_with f _ = refl

-- starts of instructions that are short enough
pub start_short : (instrs : List Instr) (k d : ℕ) → k < length instrs → end_from 0 instrs ≤ most_bytes → get_or (starts_from 0 instrs) k d ≤ most_bytes
start_short instrs k d lt short = omega (arith, short, start_at 0 k instrs d lt, end_within 0 k instrs)

address_short : (instrs : List Instr) (z : ℤ) → end_from 0 instrs ≤ most_bytes → IsNumber (length instrs) z → IsAddress (address_of (starts_from 0 instrs) z)
address_short instrs z short is =
    let below : unsigned_abs z < length instrs = omega (arith, ints, is.0, is.1) in
    (omega (arith, ints), omega (arith, ints, start_short instrs (unsigned_abs z) 0 below short))

pub addresses_short : (instrs : List Instr) (starts : List ℕ) (instr : Instr) → starts ≡ starts_from 0 instrs → end_from 0 instrs ≤ most_bytes → HasNumbers (length instrs) instr → AllByRecursion IsAddress (targets_of (with_targets (address_of starts) instr))
addresses_short instrs starts instr e short numbers =
    let f : ℤ → ℤ = address_of starts in
    let each : AllByRecursion (λ z. IsAddress (f z)) (targets_of instr) =
    each_then (IsNumber (length instrs)) (λ z. IsAddress (f z)) (λ z is. subst (λ (s : List ℕ). IsAddress (address_of s z)) (sym e) (address_short instrs z short is)) (targets_of instr) numbers in
    subst (AllByRecursion IsAddress) (sym (targets_with f instr)) (each_map IsAddress f (targets_of instr) each)

-- it ends within the code
pub nth_short : (f : ℤ → ℤ) (instrs : List Instr) (starts : List ℕ) (k d : ℕ) (x : Instr) → starts ≡ starts_from 0 instrs → end_from 0 instrs ≤ most_bytes → k < length instrs → x ≡ get_or instrs k x
    → get_or starts k d + length_at (get_or starts k d) (with_targets f x) ≤ most_bytes
nth_short f instrs starts k d x e short lt is =
    let at : ℕ = get_or starts k d in
    let here : at ≡ end_from 0 (take k instrs) = ap (λ (s : List ℕ). get_or s k d) e ∙ start_at 0 k instrs d lt in
    omega (arith, short, end_within 0 (k + 1) instrs, end_is_next instrs k at x here lt is, same_length f at x)

-- ---- the instructions with their addresses, one by one

pub placed_get : (f : ℤ → ℤ) (starts : List ℕ) (instrs : List Instr) (k d : ℕ) (x : Instr) → k < length starts → k < length instrs
    → slice_get (zip starts (map (with_targets f) instrs)) k ≡ Some (get_or starts k d, with_targets f (get_or instrs k x))
placed_get f [] instrs k d x lt within = absurd (omega (arith, lt))
placed_get f (s ∷ ss) [] k d x lt within = absurd (omega (arith, within))
placed_get f (s ∷ ss) (i ∷ is) zero d x lt within = refl
placed_get f (s ∷ ss) (i ∷ is) (suc k) d x lt within = placed_get f ss is k d x (omega (arith, lt)) (omega (arith, within))

pub placed_length : (f : ℤ → ℤ) (starts : List ℕ) (instrs : List Instr) → length starts ≡ length instrs → length (zip starts (map (with_targets f) instrs)) ≡ length instrs
placed_length f [] [] e = refl
placed_length f [] (i ∷ is) e = absurd (omega (arith, e))
placed_length f (s ∷ ss) [] e = absurd (omega (arith, e))
placed_length f (s ∷ ss) (i ∷ is) e = ap suc (placed_length f ss is (omega (arith, e)))

pub placed_there : (f : ℤ → ℤ) (starts : List ℕ) (instrs : List Instr) (k : ℕ) → k < length starts → k < length instrs
    → (p : ℕ × Instr) × (slice_get (zip starts (map (with_targets f) instrs)) k ≡ Some p)
placed_there f [] instrs k lt within = absurd (omega (arith, lt))
placed_there f (s ∷ ss) [] k lt within = absurd (omega (arith, within))
placed_there f (s ∷ ss) (i ∷ is) zero lt within = ((s, with_targets f i), refl)
placed_there f (s ∷ ss) (i ∷ is) (suc k) lt within = placed_there f ss is k (omega (arith, lt)) (omega (arith, within))

pub starts_many : (instrs : List Instr) (starts : List ℕ) → starts ≡ starts_from 0 instrs → length starts ≡ length instrs
starts_many instrs starts e = ap length e ∙ starts_length 0 instrs

pub nth_few : (instrs : List Instr) (k : ℕ) → end_from 0 instrs ≤ most_bytes → k < length instrs → k ≤ most_bytes
nth_few instrs k short lt = omega (arith, short, end_within 0 k instrs, number_below k instrs (omega (arith, lt)))

-- the one at a place
pub nth_is : (f : ℤ → ℤ) (starts : List ℕ) (instrs : List Instr) (k d : ℕ) (x : Instr) (p : ℕ × Instr) → k < length starts → k < length instrs → x ≡ get_or instrs k x
    → slice_get (zip starts (map (with_targets f) instrs)) k ≡ Some p → (get_or starts k d, with_targets f x) ≡ p
nth_is f starts instrs k d x p lt within is found =
    let here : slice_get (zip starts (map (with_targets f) instrs)) k ≡ Some (get_or starts k d, with_targets f x) =
    placed_get f starts instrs k d x lt within ∙ ap (λ (i : Instr). Some (get_or starts k d, with_targets f i)) (sym is) in
    same_Some (get_or starts k d, with_targets f x) p (sym here ∙ found)

taken_next : {A : Type 0} (xs : List A) (k : ℕ) (x : A) → slice_get xs k ≡ Some x → take (suc k) xs ≡ take k xs ++ x ∷ []
taken_next [] k x at = absurd (none-some x at)
taken_next (y ∷ ys) zero x at = ap (λ (z : _). z ∷ []) (same_Some y x at)
taken_next (y ∷ ys) (suc k) x at = ap (λ (l : List _). y ∷ l) (taken_next ys k x at)

one_next : (k : ℕ) → suc k ≡ k + 1
one_next k = omega arith

pub taken_more : {A : Type 0} (xs : List A) (k : ℕ) (x : A) → slice_get xs k ≡ Some x → take (k + 1) xs ≡ take k xs ++ x ∷ []
taken_more {A} xs k x at = subst (λ (n : ℕ). take n xs ≡ take k xs ++ x ∷ []) (one_next k) (taken_next xs k x at)

-- the bytes of the first n, and that they reach their targets
pub record WrittenTo (starts : List ℕ) (instrs : List Instr) (k : ℕ) (bytes : List ℕ) : Type 0 where
  pub bytes_are : bytes ≡ flat_map placed_bytes (take k (placed starts instrs))
  pub reach : AllByRecursion Reaches (take k (placed starts instrs))

pub written_more : (starts : List ℕ) (instrs : List Instr) (k : ℕ) (old new : List ℕ) (p : ℕ × Instr) → slice_get (placed starts instrs) k ≡ Some p → WrittenTo starts instrs k old → new ≡ old ++ placed_bytes p → Reaches p
    → WrittenTo starts instrs (k + 1) new
written_more starts instrs k old new p found before e reach =
    let prefix : List (ℕ × Instr) = take k (placed starts instrs) in
    let more : take (k + 1) (placed starts instrs) ≡ prefix ++ p ∷ [] = taken_more (placed starts instrs) k p found in
    record {
      bytes_are = e ∙ ap (λ (b : List ℕ). b ++ placed_bytes p) before.bytes_are ∙ flat_map_more placed_bytes [] prefix p ∙ ap (flat_map placed_bytes) (sym more);
      reach = subst (AllByRecursion Reaches) (sym more) (each_more Reaches prefix p before.reach reach);
    }

pub written_whole : (starts : List ℕ) (instrs : List Instr) (k : ℕ) (bytes : List ℕ) → length starts ≡ length instrs → length instrs ≤ k → WrittenTo starts instrs k bytes → AreBytes starts instrs bytes
written_whole starts instrs k bytes many le w =
    let all : take k (placed starts instrs) ≡ placed starts instrs = take_all k (placed starts instrs) (omega (arith, le, placed_length (address_of starts) starts instrs many)) in
    record { bytes_are = w.bytes_are ∙ ap (flat_map placed_bytes) all; reach = subst (AllByRecursion Reaches) all w.reach }

pub first_far : (starts : List ℕ) (instrs : List Instr) (k : ℕ) (old new : List ℕ) (p : ℕ × Instr) (e : LayError) → slice_get (placed starts instrs) k ≡ Some p → WrittenTo starts instrs k old → IsWritten (Err e) k old new p → IsByteFault starts instrs e
first_far starts instrs k old new p (errors.Far far) found before h =
    subst (HasFirstFar starts instrs) (sym h.0) (record { jump = p; first = record { found = found; lacks = h.1; before = before.reach } })
first_far starts instrs k old new p errors.Memory found before h = tt
first_far starts instrs k old new p (errors.TooLong number) found before h = h
