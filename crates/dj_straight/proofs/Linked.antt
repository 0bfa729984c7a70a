-- Where no reference but null is pushed, each reference is null or of an array of bytes that was made.
use Rattle.std.proofs.Common.{◌≡◌, ℕ, zero, suc, ◌+◌, ◌-◌, ◌≤◌, ◌<◌, Bool, true, false, ◌&&◌, nat_lt, ℤ, pos, negsuc, List, [], ◌∷◌, ◌++◌, length, set, replicate, get_or, All, Option, Some, None, slice_get, codes, sym, subst, ◌∙◌, inl, inr, arith, if◌then◌else◌, length-append}
use Rattle.std.specs.Prelude.{⊤}
use Rattle.std.proofs.lemmas.List.{length-set}
use Rattle.dj_names.specs.declared.descriptor.Kind.{Kind}
use Rattle.dj_names.specs.declared.descriptor.Kind.TheVariants as kinds
use Rattle.dj_names.specs.declared.run.Value.{Value}
use Rattle.dj_names.specs.declared.run.Value.TheVariants as values
use Rattle.dj_names.specs.declared.run.Element.{Element}
use Rattle.dj_names.specs.declared.run.Element.TheVariants as elements
use Rattle.dj_names.specs.declared.run.Charge.TheVariants as charges
use Rattle.dj_names.specs.declared.run.Costs.{Costs}
use Rattle.dj_names.specs.declared.run.Thresholds.{Thresholds}
use Rattle.dj_names.specs.declared.run.Outcome.{Outcome}
use Rattle.dj_names.specs.declared.run.Outcome.TheVariants as outcomes
use Rattle.dj_names.specs.declared.run.Message.TheVariants as messages
use Rattle.dj_names.specs.trusted.Values.{value_kind, raised_class}
use Rattle.dj_straight.specs.trusted.Objects.{Object, Array}
use Rattle.dj_straight.specs.trusted.Program.{Name}
use Rattle.dj_straight.specs.trusted.State.{Heap, Static, Literal}
use Rattle.dj_straight.specs.trusted.Instructions as model
use Rattle.dj_straight.specs.trusted.Instructions.{Instruction}
use Rattle.dj_straight.specs.trusted.Effects.{StraightPart, Flow, Next, To, Raise, Throw, Back, Broken, Full, Effect, effect, goes, same_kind, is_of_kind, slots_of, local_at, is_long, without_long_before, stored, load_value, Found, Null, NoArray, IsArray, array_at, array_in, only, reached, load_found, element_at, store_found, new_contents}
use Rattle.dj_straight.specs.trusted.Step.{result_outcome, bytes_in}
use Rattle.dj_straight.specs.declared.program.Action.{Action}
use Rattle.dj_straight.specs.declared.program.Action.TheVariants as actions
use Rattle.dj_straight.specs.declared.machine.StraightEnding.{StraightEnding}
use Rattle.dj_straight.specs.declared.machine.turns.Advance.TheVariants as ways
use Rattle.dj_straight.specs.Methods.{action_view}
use Rattle.dj_straight.specs.Machines.{straight_effect}
use Rattle.dj_straight.specs.Turns.{TurnsDo, FlowEnds}
use Rattle.dj_straight.specs.Running.{PushesNull}
use Rattle.dj_straight.proofs.StraightRuns.{first_part}

-- a reference is null or the number of one of this many objects
abbrev pub Made : ℕ → Value → Type 0
Made n (values.Ref r) = r ≤ n
Made n (values.Int z) = ⊤
Made n (values.Long z) = ⊤

abbrev pub LocalsMade : ℕ → List (Option Value) → Type 0
LocalsMade n [] = ⊤
LocalsMade n (None ∷ vs) = LocalsMade n vs
LocalsMade n (Some v ∷ vs) = Made n v × LocalsMade n vs

abbrev pub OperandsMade : ℕ → List Value → Type 0
OperandsMade n [] = ⊤
OperandsMade n (v ∷ vs) = Made n v × OperandsMade n vs

abbrev IsBytes : Object → Type 0
IsBytes (Array class elements.Byte contents) = ⊤
IsBytes _ = ⊥

abbrev pub AreArrays : List Object → Type 0
AreArrays [] = ⊤
AreArrays (o ∷ objects) = IsBytes o × AreArrays objects

pub record IsLinked (p : StraightPart) : Type 0 where
  pub locals : LocalsMade (length p.heap.objects) p.locals
  pub operands : OperandsMade (length p.heap.objects) p.operands
  pub arrays : AreArrays p.heap.objects

-- ---- objects

abbrev FoundBytes : Found → Type 0
FoundBytes Null = ⊤
FoundBytes (IsArray class elements.Byte contents) = ⊤
FoundBytes _ = ⊥

abbrev AreBytes : Found → Type 0
AreBytes (IsArray class elements.Byte contents) = ⊤
AreBytes _ = ⊥

found_bytes : (found : Found) → AreBytes found → FoundBytes found
found_bytes (IsArray class elements.Byte contents) is = tt
found_bytes _ is = absurd is

bytes_in_list : (objects : List Object) (n : ℕ) → n < length objects → AreArrays objects → AreBytes (array_in (slice_get objects n))
bytes_in_list [] n within all = absurd (omega arith)
bytes_in_list (Array class elements.Byte contents ∷ objects) zero within all = tt
bytes_in_list (o ∷ objects) zero within all = absurd_object o all.0 where
  absurd_object : (o : Object) → IsBytes o → AreBytes (array_in (Some o))
  absurd_object (Array class elements.Byte contents) is = tt
  absurd_object _ is = absurd is
bytes_in_list (o ∷ objects) (suc n) within all = bytes_in_list objects n (omega arith) all.1

bytes_at : (objects : List Object) (r : ℕ) → r ≤ length objects → AreArrays objects → FoundBytes (array_at objects r)
bytes_at objects zero within all = tt
bytes_at objects (suc n) within all = found_bytes _ (bytes_in_list objects n (omega arith) all)

arrays_set : (objects : List Object) (n : ℕ) (class : Name) (contents : List ℤ) → AreArrays objects → AreArrays (set objects n (Array class elements.Byte contents))
arrays_set [] n class contents all = tt
arrays_set (o ∷ objects) zero class contents all = (tt, all.1)
arrays_set (o ∷ objects) (suc n) class contents all = (all.0, arrays_set objects n class contents all.1)

arrays_more : (objects : List Object) (class : Name) (contents : List ℤ) → AreArrays objects → AreArrays (objects ++ Array class elements.Byte contents ∷ [])
arrays_more [] class contents all = (tt, tt)
arrays_more (o ∷ objects) class contents all = (all.0, arrays_more objects class contents all.1)

-- ---- values

made_more : (m n : ℕ) (v : Value) → m ≤ n → Made m v → Made n v
made_more m n (values.Ref r) le made = omega arith
made_more m n (values.Int z) le made = tt
made_more m n (values.Long z) le made = tt

locals_more : (m n : ℕ) (vs : List (Option Value)) → m ≤ n → LocalsMade m vs → LocalsMade n vs
locals_more m n [] le all = tt
locals_more m n (None ∷ vs) le all = locals_more m n vs le all
locals_more m n (Some v ∷ vs) le all = (made_more m n v le all.0, locals_more m n vs le all.1)

operands_more : (m n : ℕ) (vs : List Value) → m ≤ n → OperandsMade m vs → OperandsMade n vs
operands_more m n [] le all = tt
operands_more m n (v ∷ vs) le all = (made_more m n v le all.0, operands_more m n vs le all.1)

abbrev SomeMade : ℕ → Option Value → Type 0
SomeMade n None = ⊤
SomeMade n (Some v) = Made n v

local_made : (n : ℕ) (vs : List (Option Value)) (slot : ℕ) → LocalsMade n vs → SomeMade n (local_at vs slot)
local_made n [] slot all = tt
local_made n (None ∷ vs) zero all = tt
local_made n (Some v ∷ vs) zero all = all.0
local_made n (None ∷ vs) (suc slot) all = local_made n vs slot all
local_made n (Some v ∷ vs) (suc slot) all = local_made n vs slot all.1

set_made : (n : ℕ) (vs : List (Option Value)) (slot : ℕ) (v : Value) → Made n v → LocalsMade n vs → LocalsMade n (set vs slot (Some v))
set_made n [] slot v made all = tt
set_made n (None ∷ vs) zero v made all = (made, all)
set_made n (Some w ∷ vs) zero v made all = (made, all.1)
set_made n (None ∷ vs) (suc slot) v made all = set_made n vs slot v made all
set_made n (Some w ∷ vs) (suc slot) v made all = (all.0, set_made n vs slot v made all.1)

clear_made : (n : ℕ) (vs : List (Option Value)) (slot : ℕ) → LocalsMade n vs → LocalsMade n (set vs slot None)
clear_made n [] slot all = tt
clear_made n (None ∷ vs) zero all = all
clear_made n (Some w ∷ vs) zero all = all.1
clear_made n (None ∷ vs) (suc slot) all = clear_made n vs slot all
clear_made n (Some w ∷ vs) (suc slot) all = (all.0, clear_made n vs slot all.1)

if_made : (n : ℕ) (b : Bool) (xs ys : List (Option Value)) → LocalsMade n xs → LocalsMade n ys → LocalsMade n (if b then xs else ys)
if_made n true xs ys x y = x
if_made n false xs ys x y = y

without_made : (n : ℕ) (vs : List (Option Value)) (slot : ℕ) → LocalsMade n vs → LocalsMade n (without_long_before vs slot)
without_made n vs zero all = all
without_made n vs (suc before) all = if_made n (is_long (local_at vs before)) (set vs before None) vs (clear_made n vs before all) all

stored_made : (n : ℕ) (vs : List (Option Value)) (slot : ℕ) (v : Value) → Made n v → LocalsMade n vs → LocalsMade n (stored vs slot v)
stored_made n vs slot (values.Int z) made all = set_made n _ slot (values.Int z) made (without_made n vs slot all)
stored_made n vs slot (values.Long z) made all = clear_made n _ (slot + 1) (set_made n _ slot (values.Long z) made (without_made n vs slot all))
stored_made n vs slot (values.Ref r) made all = set_made n _ slot (values.Ref r) made (without_made n vs slot all)

-- ---- effects

-- what holds after an instruction
abbrev pub After : StraightPart → Flow → Type 0
After p Next = IsLinked p
After p (Back (Some (values.Ref r))) = (r ≤ length p.heap.objects) × AreArrays p.heap.objects
After p (Raise raised) = ⊤
After p _ = ⊥

abbrev pub OnEffect : Option Effect → Type 0
OnEffect None = ⊤
OnEffect (Some e) = After e.part e.flow

on_if : (b : Bool) (x : Option Effect) → OnEffect x → OnEffect (if b then x else None)
on_if true x on = on
on_if false x on = tt

on_if_not : (b : Bool) (x : Option Effect) → OnEffect x → OnEffect (if b then None else x)
on_if_not true x on = tt
on_if_not false x on = on

module _ (locals : List (Option Value)) (heap : Heap) (statics : List Static) (literals : List Literal) (all : LocalsMade (length heap.objects) locals) (arrays : AreArrays heap.objects) where
  abbrev part : List Value → StraightPart
  part operands = record { locals = locals; operands = operands; heap = heap; statics = statics; literals = literals }

  abbrev AreMade : List Value → Type 0
  AreMade operands = OperandsMade (length heap.objects) operands

  -- at the next instruction, with these operands
  there : (operands : List Value) → AreMade operands → IsLinked (part operands)
  there operands made = record { locals = all; operands = made; arrays = arrays }

  load_linked : (operands : List Value) (kind : Kind) (found : Option Value) → AreMade operands → SomeMade (length heap.objects) found
      → OnEffect (load_value (part operands) kind found)
  load_linked operands kind None made is = tt
  load_linked operands kind (Some v) made is = on_if (is_of_kind kind v) _ (there (v ∷ operands) (is, made))

  -- an array of bytes that is asked for
  reached_linked : (operands : List Value) (found : Found) (next : Name → Element → List ℤ → Effect) → FoundBytes found
      → ((class : Name) (contents : List ℤ) → OnEffect (Some (next class elements.Byte contents))) → OnEffect (Some (reached (part operands) found next))
  reached_linked operands Null next is each = tt
  reached_linked operands NoArray next is each = absurd is
  reached_linked operands (IsArray class elements.Byte contents) next is each = each class contents
  reached_linked operands (IsArray class element contents) next is each = absurd is

  only_bytes : (found : Found) → FoundBytes found → FoundBytes (only model.Bytes found)
  only_bytes Null is = tt
  only_bytes NoArray is = is
  only_bytes (IsArray class elements.Byte contents) is = tt
  only_bytes (IsArray class element contents) is = absurd is

  found_linked : (operands rest : List Value) (found : Option ℤ) → AreMade rest → OnEffect (Some (load_found (part operands) rest elements.Byte found))
  found_linked operands rest None made = tt
  found_linked operands rest (Some z) made = there (values.Int z ∷ rest) (tt, made)

  put_linked : (operands rest : List Value) (r : ℕ) (class : Name) (contents : List ℤ) (found : Option ℤ) → AreMade rest
      → OnEffect (Some (store_found (part operands) rest r (Array class elements.Byte contents) found None))
  put_linked operands rest r class contents None made = tt
  put_linked operands rest r class contents (Some z) made =
      let same : length (set heap.objects (r - 1) (Array class elements.Byte contents)) ≡ length heap.objects = length-set heap.objects (r - 1) (Array class elements.Byte contents) in
      record {
        locals = rw same all;
        operands = rw same made;
        arrays = arrays_set heap.objects (r - 1) class contents arrays;
      }

  load_element_linked : (operands : List Value) → AreMade operands → OnEffect (straight_effect (model.LoadElement model.Bytes) (part operands))
  unfolding effect
  load_element_linked (values.Int index ∷ (values.Ref r ∷ rest)) made =
      reached_linked (values.Int index ∷ (values.Ref r ∷ rest)) (only model.Bytes (array_at heap.objects r)) _
      (only_bytes (array_at heap.objects r) (bytes_at heap.objects r made.1.0 arrays))
      (λ class contents. found_linked (values.Int index ∷ (values.Ref r ∷ rest)) rest (element_at contents index) made.1.1)
  load_element_linked _ made = tt

  store_element_linked : (operands : List Value) → AreMade operands → OnEffect (straight_effect (model.StoreElement model.Bytes) (part operands))
  unfolding effect
  store_element_linked (v ∷ (values.Int index ∷ (values.Ref r ∷ rest))) made =
      on_if (is_of_kind kinds.Int v) _ (reached_linked (v ∷ (values.Int index ∷ (values.Ref r ∷ rest))) (only model.Bytes (array_at heap.objects r)) _
      (only_bytes (array_at heap.objects r) (bytes_at heap.objects r made.1.1.0 arrays))
      (λ class contents. put_linked (v ∷ (values.Int index ∷ (values.Ref r ∷ rest))) rest r class _ (element_at contents index) made.1.1.1))
  store_element_linked _ made = tt

  length_linked : (operands : List Value) → AreMade operands → OnEffect (straight_effect model.ArrayLength (part operands))
  unfolding effect
  length_linked (values.Ref r ∷ rest) made =
      reached_linked (values.Ref r ∷ rest) (array_at heap.objects r) _ (bytes_at heap.objects r made.0 arrays)
      (λ class contents. there (values.Int (pos (length contents)) ∷ rest) (tt, made.1))
  length_linked _ made = tt

  new_array_linked : (operands : List Value) → AreMade operands → OnEffect (straight_effect (model.NewArray model.byte_array_class elements.Byte) (part operands))
  unfolding effect
  new_array_linked (values.Int (pos n) ∷ rest) made =
      let object : Object = Array (codes "[B") elements.Byte (new_contents n) in
      let count : length (heap.objects ++ object ∷ []) ≡ length heap.objects + 1 = length-append heap.objects (object ∷ []) in
      let more : length heap.objects ≤ length (heap.objects ++ object ∷ []) = omega arith in
      record {
        locals = locals_more (length heap.objects) (length (heap.objects ++ object ∷ [])) locals more all;
        operands = (omega arith, operands_more (length heap.objects) (length (heap.objects ++ object ∷ [])) rest more made.1);
        arrays = arrays_more heap.objects (codes "[B") (new_contents n) arrays;
      }
  new_array_linked (values.Int (negsuc n) ∷ rest) made = tt
  new_array_linked _ made = tt

  return_linked : (operands : List Value) → AreMade operands → OnEffect (straight_effect (model.Return (Some kinds.Ref)) (part operands))
  unfolding effect
  return_linked [] made = tt
  return_linked (values.Ref r ∷ rest) made = (made.0, arrays)
  return_linked (values.Int z ∷ rest) made = tt
  return_linked (values.Long z ∷ rest) made = tt

  store_linked : (kind : Kind) (slot : ℕ) (operands : List Value) → AreMade operands → OnEffect (straight_effect (model.Store kind slot) (part operands))
  unfolding effect
  store_linked kind slot [] made = tt
  store_linked kind slot (v ∷ rest) made =
      let next : StraightPart = record (part rest) { locals = stored locals slot v } in
      let linked : IsLinked next = record { locals = stored_made (length heap.objects) locals slot v made.0 all; operands = made.1; arrays = arrays } in
      on_if (is_of_kind kind v && nat_lt (slot + slots_of kind - 1) (length locals)) (Some (goes next Next)) linked

  move_linked : (operation : model.StackOperation) (operands : List Value) → AreMade operands → OnEffect (straight_effect (model.Move operation) (part operands))
  unfolding effect
  move_linked model.Pop [] made = tt
  move_linked model.Dup [] made = tt
  move_linked model.Pop (v ∷ rest) made = on_if_not (same_kind kinds.Long (value_kind v)) _ (there rest made.1)
  move_linked model.Dup (v ∷ rest) made = on_if_not (same_kind kinds.Long (value_kind v)) _ (there (v ∷ (v ∷ rest)) (made.0, made))

  compute_linked : (operation : model.IntOperation) (operands : List Value) → AreMade operands → OnEffect (straight_effect (model.Compute operation) (part operands))
  unfolding effect
  compute_linked model.Add (values.Int b ∷ (values.Int a ∷ rest)) made = there _ (tt, made.1.1)
  compute_linked model.Subtract (values.Int b ∷ (values.Int a ∷ rest)) made = there _ (tt, made.1.1)
  compute_linked model.Multiply (values.Int b ∷ (values.Int a ∷ rest)) made = there _ (tt, made.1.1)
  compute_linked model.And (values.Int b ∷ (values.Int a ∷ rest)) made = there _ (tt, made.1.1)
  compute_linked model.Or (values.Int b ∷ (values.Int a ∷ rest)) made = there _ (tt, made.1.1)
  compute_linked model.Xor (values.Int b ∷ (values.Int a ∷ rest)) made = there _ (tt, made.1.1)
  compute_linked operation _ made = tt

  push_linked : (v : Value) (operands : List Value) → PushesNull (model.Push v) → AreMade operands → OnEffect (straight_effect (model.Push v) (part operands))
  unfolding effect
  push_linked (values.Int z) operands null made = there (values.Int z ∷ operands) (tt, made)
  push_linked (values.Long z) operands null made = there (values.Long z ∷ operands) (tt, made)
  push_linked (values.Ref zero) operands null made = there (values.Ref zero ∷ operands) (omega arith, made)
  push_linked (values.Ref (suc n)) operands null made = absurd null

  action_linked : (a : Action) (operands : List Value) → PushesNull (action_view a) → AreMade operands → OnEffect (straight_effect (action_view a) (part operands))
  unfolding effect
  action_linked actions.Nop operands null made = there operands made
  action_linked (actions.Push v) operands null made = push_linked v operands null made
  action_linked (actions.Load kind slot) operands null made =
      load_linked operands kind (local_at locals slot) made (local_made (length heap.objects) locals slot all)
  action_linked (actions.Store kind slot) operands null made = store_linked kind slot operands made
  action_linked actions.LoadByte operands null made = load_element_linked operands made
  action_linked actions.StoreByte operands null made = store_element_linked operands made
  action_linked actions.Pop operands null made = move_linked model.Pop operands made
  action_linked actions.Dup operands null made = move_linked model.Dup operands made
  action_linked (actions.Compute operation) operands null made = compute_linked _ operands made
  action_linked actions.ReturnReference operands null made = return_linked operands made
  action_linked actions.ArrayLength operands null made = length_linked operands made
  action_linked actions.NewByteArray operands null made = new_array_linked operands made
  action_linked (actions.Other op) operands null made = tt

effect_linked : (a : Action) (p q : StraightPart) (flow : Flow) → PushesNull (action_view a) → IsLinked p → straight_effect (action_view a) p ≡ Some (goes q flow) → After q flow
effect_linked a p q flow null linked e = subst OnEffect e (action_linked p.locals p.heap p.statics p.literals linked.locals linked.arrays a p.operands null linked.operands)

-- ---- a run

none_made : (n count : ℕ) → LocalsMade n (replicate count None)
none_made n zero = tt
none_made n (suc count) = none_made n count

pub first_linked : (max_locals : ℕ) (input : List ℕ) (p : StraightPart) → p ≡ first_part max_locals input → IsLinked p
first_linked max_locals input p is =
    rw is (record { locals = (omega arith, none_made 1 (max_locals - 1)); operands = tt; arrays = (tt, tt) })

-- the instruction at the index
pub action_null : (all items : List Action) (n : ℕ) (d : Action) → items ≡ all → n < length items → All (λ (a : Action). PushesNull (action_view a)) all
    → PushesNull (action_view (get_or items n d))
action_null all items n d is within null = subst (λ (xs : List Action). PushesNull (action_view (get_or xs n d))) (sym is) (null n d (subst (λ (xs : List Action). n < length xs) is within))

pub next_linked : (most : Thresholds) (costs now : Costs) (a : Action) (p next : StraightPart) → PushesNull (action_view a) → IsLinked p
    → TurnsDo most costs (action_view a) p next (ways.Go now) → IsLinked next
next_linked most costs now a p next null linked (inl done) = effect_linked a p next Next null linked done.2.1
next_linked most costs now a p next null linked (inr stopped) = absurd stopped

no_link : (a b : Outcome) → a ≡ b → (b ≡ outcomes.Link → ⊥) → a ≡ outcomes.Link → ⊥
no_link a b is other link = other (sym is ∙ link)

bytes_no_link : (found : Found) → AreBytes found → bytes_in found ≡ outcomes.Link → ⊥
bytes_no_link (IsArray class elements.Byte contents) is link = absurd cc
bytes_no_link _ is link = is

result_no_link : (heap : Heap) (r : ℕ) → r ≤ length heap.objects → AreArrays heap.objects → result_outcome heap (Some (values.Ref r)) ≡ outcomes.Link → ⊥
result_no_link heap zero within arrays link = absurd cc
result_no_link heap (suc n) within arrays link = bytes_no_link (array_at heap.objects (suc n)) (bytes_in_list heap.objects n (omega arith) arrays) link

flow_no_link : (q : StraightPart) (flow : Flow) (outcome : Outcome) → After q flow → FlowEnds q.heap flow outcome → outcome ≡ outcomes.Link → ⊥
flow_no_link q (Raise raised) outcome after end link =
    let other : outcomes.Threw (raised_class raised) messages.Null ≡ outcomes.Link = sym end ∙ link in absurd cc
flow_no_link q (Back (Some (values.Ref r))) outcome after end link = result_no_link q.heap r after.0 after.1 (sym end ∙ link)
flow_no_link q Next outcome after end link = end
flow_no_link q (To n) outcome after end link = end
flow_no_link q (Throw n) outcome after end link = end
flow_no_link q (Full used size) outcome after end link = end
flow_no_link q Broken outcome after end link = after
flow_no_link q (Back _) outcome after end link = after

pub end_linked : (most : Thresholds) (costs : Costs) (a : Action) (p next : StraightPart) (e : StraightEnding) → PushesNull (action_view a) → IsLinked p
    → TurnsDo most costs (action_view a) p next (ways.End e) → e.outcome ≡ outcomes.Link → ⊥
end_linked most costs a p next e null linked (inl done) link =
    flow_no_link done.2.1 done.2.2 e.outcome (effect_linked a p done.2.1 done.2.2 null linked done.2.3) done.2.4 link
end_linked most costs a p next e null linked (inr stopped) link =
    let other : outcomes.Stopped charges.Alloc ≡ outcomes.Link = sym stopped.1 ∙ link in absurd cc
