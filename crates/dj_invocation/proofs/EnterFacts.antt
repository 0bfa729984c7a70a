-- Arguments in the local variables of a frame.
use Rattle.std.proofs.Common.{◌≡◌, ◌<◌, ◌≤◌, ℕ, zero, suc, ◌+◌, ◌-◌, List, [], ◌∷◌, ◌++◌, length, replicate, set, take, get_or, max, Option, Some, None, refl, sym, ap, ◌∙◌, subst, arith, append_assoc}
use Rattle.std.proofs.Math.Seq.{set-append_seam, take-suc}
use Rattle.std.proofs.lemmas.List.{length-append, length-replicate}
use Rattle.dj_names.specs.declared.run.Value.{Value}
use Rattle.dj_names.specs.declared.run.Value.TheVariants as values
use Rattle.dj_model.specs.trusted.Numbers.{is_long}
use Rattle.dj_model.specs.trusted.Values.{in_slots}
use Rattle.dj_model.specs.trusted.Initialisation.{padded}
use Rattle.dj_stack.specs.Frames.{StackFrame, SameButLocals, SameButOperands, top_locals, top_operands, new_frame}
use Rattle.dj_invocation.specs.Operands.{with_operands}
use Rattle.dj_invocation.specs.Entering.{entered}
use Rattle.dj_invocation.proofs.OperandFacts.{frames_left}

-- ---- slots

pub slots_append : (xs ys : List Value) → in_slots is_long (xs ++ ys) ≡ in_slots is_long xs ++ in_slots is_long ys
slots_append [] ys = refl
slots_append (values.Int z ∷ xs) ys = ap (λ (rest : List (Option Value)). Some (values.Int z) ∷ rest) (slots_append xs ys)
slots_append (values.Long z ∷ xs) ys = ap (λ (rest : List (Option Value)). Some (values.Long z) ∷ None ∷ rest) (slots_append xs ys)
slots_append (values.Ref r ∷ xs) ys = ap (λ (rest : List (Option Value)). Some (values.Ref r) ∷ rest) (slots_append xs ys)

-- one more value
pub slots_more : (xs : List Value) (at : ℕ) (d : Value) → at < length xs
    → in_slots is_long (take (at + 1) xs) ≡ in_slots is_long (take at xs) ++ in_slots is_long (get_or xs at d ∷ [])
slots_more xs at d less =
    ap (in_slots is_long) (ap (λ (n : ℕ). take n xs) (let next : at + 1 ≡ suc at = omega arith in next) ∙ take-suc xs at d less)
    ∙ slots_append (take at xs) (get_or xs at d ∷ [])

pub slots_of_one : (v : Value) → length (in_slots is_long (v ∷ [])) ≤ 2
slots_of_one (values.Int z) = omega arith
slots_of_one (values.Long z) = omega arith
slots_of_one (values.Ref r) = omega arith

pub count_more : (xs : List Value) (at : ℕ) (d : Value) → at < length xs
    → length (in_slots is_long (take (at + 1) xs)) ≡ length (in_slots is_long (take at xs)) + length (in_slots is_long (get_or xs at d ∷ []))
count_more xs at d less =
    ap (length {A = Option Value}) (slots_more xs at d less) ∙ length-append (in_slots is_long (take at xs)) (in_slots is_long (get_or xs at d ∷ []))

-- so far there are no more than in all
pub slots_within : (xs : List Value) (at : ℕ) → length (in_slots is_long (take at xs)) ≤ length (in_slots is_long xs)
slots_within [] zero = omega arith
slots_within [] (suc at) = omega arith
slots_within (v ∷ xs) zero = omega arith
slots_within (values.Int z ∷ xs) (suc at) = let ih = slots_within xs at in omega (arith, ih)
slots_within (values.Long z ∷ xs) (suc at) = let ih = slots_within xs at in omega (arith, ih)
slots_within (values.Ref r ∷ xs) (suc at) = let ih = slots_within xs at in omega (arith, ih)

-- ---- local variables

-- those that have no value yet
abbrev pub rest_of : ℕ → List (Option Value) → List (Option Value)
rest_of most xs = replicate (most - length xs) None

set_next : (most : ℕ) (xs : List (Option Value)) (v : Option Value) → length xs < most → set (padded most xs) (length xs) v ≡ padded most (xs ++ v ∷ [])
set_next most xs v less =
    let long = length-append xs (v ∷ []) in
    let left : most - length xs ≡ suc (most - length (xs ++ v ∷ [])) = omega (arith, less, long) in
    ap (λ (n : ℕ). set (xs ++ replicate n None) (length xs) v) left
    ∙ (set-append_seam xs None (replicate (most - length (xs ++ v ∷ [])) None) v
    ∙ sym (append_assoc xs (v ∷ []) (replicate (most - length (xs ++ v ∷ [])) None)))

-- a local variable without a value is added to those that are given
padded_none : (most : ℕ) (xs : List (Option Value)) → length xs < most → padded most xs ≡ padded most (xs ++ None ∷ [])
padded_none most xs less =
    let none : List (Option Value) = None ∷ [] in
    let long = length-append xs none in
    let left : most - length xs ≡ suc (most - length (xs ++ none)) = omega (arith, less, long) in
    ap (λ (n : ℕ). xs ++ replicate n None) left
    ∙ sym (append_assoc xs none (replicate (most - length (xs ++ none)) None))

pub set_argument : (most : ℕ) (xs : List (Option Value)) (v : Value) → length xs + length (in_slots is_long (v ∷ [])) ≤ most
    → set (padded most xs) (length xs) (Some v) ≡ padded most (xs ++ in_slots is_long (v ∷ []))
set_argument most xs (values.Int z) fits = set_next most xs (Some (values.Int z)) (omega (arith, fits))
set_argument most xs (values.Ref r) fits = set_next most xs (Some (values.Ref r)) (omega (arith, fits))
set_argument most xs (values.Long z) fits =
    let long = length-append xs (Some (values.Long z) ∷ []) in
    set_next most xs (Some (values.Long z)) (omega (arith, fits))
    ∙ (padded_none most (xs ++ Some (values.Long z) ∷ []) (omega (arith, fits, long))
    ∙ ap (padded most) (append_assoc xs (Some (values.Long z) ∷ []) (None ∷ [])))

-- where there are more local variables than are asked, they are for the arguments
pub padded_most : (most slots : ℕ) (xs : List (Option Value)) → slots ≡ length xs → padded (max most slots) xs ≡ padded most xs
padded_most most slots xs e =
    let left : max most slots - length xs ≡ most - length xs = omega (arith, e) in
    ap (λ (n : ℕ). xs ++ replicate n None) left

pub padded_length : (most : ℕ) (xs : List (Option Value)) → length xs ≤ most → length (padded most xs) ≡ most
padded_length most xs fits =
    let none : List (Option Value) = replicate (most - length xs) None in
    let long = length-append xs none in
    let one : Option Value = None in
    let rest = length-replicate (most - length xs) one in
    omega (arith, fits, long, rest)

pub argument_fits : (xs : List Value) (at : ℕ) (d : Value) → at < length xs
    → length (in_slots is_long (take at xs)) + length (in_slots is_long (get_or xs at d ∷ [])) ≤ length (in_slots is_long xs)
argument_fits xs at d less =
    let more = count_more xs at d less in
    let within = slots_within xs (at + 1) in
    omega (arith, more, within)

pub some_slot : (v : Value) → 1 ≤ length (in_slots is_long (v ∷ []))
some_slot (values.Int z) = omega arith
some_slot (values.Long z) = omega arith
some_slot (values.Ref r) = omega arith

-- ---- frames with other local variables

pub same_locals : (frames : List StackFrame) → SameButLocals frames frames
same_locals frames = record { frames = record { count = refl; method = refl; room = refl; below = refl }; number = refl; operands = refl }

pub locals_later : (a b c : List StackFrame) → SameButLocals a b → SameButLocals b c → SameButLocals a c
locals_later a b c x y = record {
  frames = record {
    count = y.frames.count ∙ x.frames.count;
    method = y.frames.method ∙ x.frames.method;
    room = y.frames.room ∙ x.frames.room;
    below = y.frames.below ∙ x.frames.below;
  };
  number = y.number ∙ x.number;
  operands = y.operands ∙ x.operands;
}

-- a frame that was pushed, with arguments
pub frames_entered : (method locals slots room : ℕ) (arguments : List Value) (old new : List StackFrame)
    → slots ≡ length (in_slots is_long arguments)
    → SameButLocals (new_frame method (max locals slots) room ∷ old) new
    → top_locals new ≡ padded (length (top_locals (new_frame method (max locals slots) room ∷ old))) (in_slots is_long arguments)
    → new ≡ entered method locals room arguments ∷ old
frames_entered method locals slots room arguments old [] count same is = let c = same.frames.count in absurd (omega (arith, c))
frames_entered method locals slots room arguments old (f ∷ new) count same is =
    let one : Option Value = None in
    let long : length (replicate (max locals slots) one) ≡ max locals slots = length-replicate (max locals slots) one in
    let reported : f.locals ≡ padded locals (in_slots is_long arguments) =
    is ∙ (ap (λ (n : ℕ). padded n (in_slots is_long arguments)) long ∙ padded_most locals slots (in_slots is_long arguments) count) in
    λ i. record {
      method = same.frames.method i;
      number = same.number i;
      locals = reported i;
      operands = same.operands i;
      room = same.frames.room i;
    } ∷ same.frames.below i

pub pushed_length : (method most room : ℕ) (below new : List StackFrame) → new ≡ new_frame method most room ∷ below → length (top_locals new) ≡ most
pushed_length method most room below new e =
    let one : Option Value = None in
    ap (λ (frames : List StackFrame). length (top_locals frames)) e ∙ length-replicate most one

pub pushed_empty : (method most room : ℕ) (below new : List StackFrame) → new ≡ new_frame method most room ∷ below
    → top_locals new ≡ replicate (length (top_locals new)) None
pushed_empty method most room below new e = ap top_locals e ∙ ap (λ (n : ℕ). replicate n None) (sym (pushed_length method most room below new e))

pub entered_reported : (method locals slots most room : ℕ) (arguments : List Value) (old left pushed new : List StackFrame) (operands : List Value)
    → most ≡ max locals slots → slots ≡ length (in_slots is_long arguments) → pushed ≡ new_frame method most room ∷ left
    → SameButOperands old left → top_operands left ≡ operands → SameButLocals pushed new
    → top_locals new ≡ padded (length (top_locals pushed)) (in_slots is_long arguments)
    → new ≡ entered method locals room arguments ∷ with_operands operands old
entered_reported method locals slots most room arguments old left pushed new operands m s p same e kept reported =
    let is : pushed ≡ new_frame method (max locals slots) room ∷ left = p ∙ ap (λ (n : ℕ). new_frame method n room ∷ left) m in
    frames_entered method locals slots room arguments left new s (subst (λ (frames : List StackFrame). SameButLocals frames new) is kept)
    (subst (λ (frames : List StackFrame). top_locals new ≡ padded (length (top_locals frames)) (in_slots is_long arguments)) is reported)
    ∙ ap (λ (frames : List StackFrame). entered method locals room arguments ∷ frames) (frames_left old left operands same e)
