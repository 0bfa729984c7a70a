-- Values keep the kinds that shape says, whatever instruction is done.
use Rattle.std.proofs.Common.{◌≡◌, ℕ, zero, suc, ◌+◌, ◌-◌, ◌≤◌, Bool, true, false, ℤ, pos, negsuc, List, [], ◌∷◌, length, map, set, replicate, Option, Some, None, nat_lt, refl, sym, ap, subst, ◌∙◌, if◌then◌else◌, ◌⊎◌, inl, inr, length-set, arith, IsFalse}
use Rattle.std.proofs.lemmas.List.{length-replicate}
use Rattle.dj_names.specs.declared.descriptor.Kind.{Kind}
use Rattle.dj_names.specs.declared.descriptor.Kind.TheVariants as kinds
use Rattle.dj_names.specs.declared.run.Value.{Value}
use Rattle.dj_names.specs.declared.run.Value.TheVariants as values
use Rattle.dj_names.specs.declared.run.Element.{Element}
use Rattle.dj_names.specs.declared.run.Element.TheVariants as elements
use Rattle.dj_names.specs.trusted.Values.{value_kind}
use Rattle.dj_straight.specs.trusted.Objects.{Object, Array}
use Rattle.dj_straight.specs.trusted.Program.{Name, Code, Program, MethodName, code_of}
use Rattle.dj_straight.specs.trusted.State.{Heap, Static, Literal}
use Rattle.dj_straight.specs.trusted.Instructions.{Instruction, Nop, Push, Load, Store, LoadElement, StoreElement, Move, Compute, Return, ArrayLength, NewArray, Other, StackOperation, Pop, Dup, IntOperation, Add, Subtract, Multiply, And, Or, Xor, Access, Bytes, Chars, Shorts, Ints, Longs, ends}
use Rattle.dj_straight.specs.Instructions.{asks_program}
use Rattle.dj_straight.specs.trusted.Effects.{Terms, StraightPart, Next, Effect, effect, same_kind, is_of_kind, local_at, is_long, without_long_before, stored, slots_of, access_kind, reaches, Found, Null, NoArray, IsArray, only, array_at, reached, element_value, passes_limit, array_size, new_contents, make, load_found, element_at, store_found, with_object, with_element, kept, value_number, pushes, goes, Back, next_number, with_new}
use Rattle.dj_straight.specs.trusted.Shape as shape
use Rattle.dj_straight.specs.trusted.FrameKinds.{Signature, Kinds}
use Rattle.dj_straight.specs.trusted.Shape.{ParametersFit, first_kinds, is_kind, kind_at, set_kind, pushed, taken, takes, store_kind, after, same_result, result_list}
use Rattle.dj_straight.specs.trusted.Initialisation.{new_frame}
use Rattle.dj_straight.specs.Sound.{LocalsHave, HasKinds, IsSoundFlow, HasSoundEffect}

-- ---- tests

some_if : {A : Type 0} (b : Bool) (x y : A) → (if b then Some x else None) ≡ Some y → (b ≡ true) × (x ≡ y)
some_if true x y e = (refl, cc)
some_if false x y e = absurd cc

some_if_some : {A : Type 0} (b : Bool) (x : Option A) (y : A) → (if b then x else None) ≡ Some y → (b ≡ true) × (x ≡ Some y)
some_if_some true x y e = (refl, e)
some_if_some false x y e = absurd cc

none_if : {A : Type 0} (b : Bool) (x : Option A) (y : A) → (if b then None else x) ≡ Some y → (b ≡ false) × (x ≡ Some y)
none_if true x y e = absurd cc
none_if false x y e = (refl, e)

either : (b : Bool) → (b ≡ true) ⊎ (b ≡ false)
either true = inl refl
either false = inr refl

same_kind_is : (a b : Kind) → same_kind a b ≡ true → a ≡ b
same_kind_is kinds.Int kinds.Int e = refl
same_kind_is kinds.Long kinds.Long e = refl
same_kind_is kinds.Ref kinds.Ref e = refl
same_kind_is _ _ e = absurd cc

no_result : (result : Option Kind) → same_result None result ≡ true → None ≡ result
no_result None e = refl
no_result (Some kind) e = absurd cc

some_kind : (kind : Kind) (found : Option Kind) → is_kind kind found ≡ true → Some kind ≡ found
some_kind kind None e = absurd cc
some_kind kind (Some other) e = ap Some (same_kind_is kind other e)

-- ---- local variables

-- a local variable of this kind has a value of it
record HasLocal (vs : List (Option Value)) (slot : ℕ) (kind : Kind) : Type 0 where
  value : Value
  found : local_at vs slot ≡ Some value
  is_of : is_of_kind kind value ≡ true
  kind_is : value_kind value ≡ kind

local_has : (vs : List (Option Value)) (ks : List (Option Kind)) (slot : ℕ) (kind : Kind) → LocalsHave vs ks
    → is_kind kind (kind_at ks slot) ≡ true → HasLocal vs slot kind
local_has [] [] slot kind h e = absurd cc
local_has [] (k ∷ ks) slot kind h e = absurd h
local_has (v ∷ vs) [] slot kind h e = absurd cc
local_has (v ∷ vs) (None ∷ ks) zero kind h e = absurd cc
local_has (None ∷ vs) (Some k ∷ ks) zero kind h e = absurd h
local_has (Some v ∷ vs) (Some k ∷ ks) zero kind h e =
    record { value = v; found = refl; is_of = rw h.0 e; kind_is = h.0 ∙ sym (same_kind_is kind k e) }
local_has (v ∷ vs) (None ∷ ks) (suc slot) kind h e = let r = local_has vs ks slot kind h e in
    record { value = r.value; found = r.found; is_of = r.is_of; kind_is = r.kind_is }
local_has (None ∷ vs) (Some k ∷ ks) (suc slot) kind h e = absurd h
local_has (Some v ∷ vs) (Some k ∷ ks) (suc slot) kind h e = let r = local_has vs ks slot kind h.1 e in
    record { value = r.value; found = r.found; is_of = r.is_of; kind_is = r.kind_is }

set_has : (vs : List (Option Value)) (ks : List (Option Kind)) (slot : ℕ) (v : Value) (kind : Kind) → value_kind v ≡ kind
    → LocalsHave vs ks → LocalsHave (set vs slot (Some v)) (set ks slot (Some kind))
set_has [] [] slot v kind is h = tt
set_has [] (k ∷ ks) slot v kind is h = absurd h
set_has (None ∷ vs) [] slot v kind is h = absurd h
set_has (Some w ∷ vs) [] slot v kind is h = absurd h
set_has (None ∷ vs) (None ∷ ks) zero v kind is h = (is, h)
set_has (Some w ∷ vs) (None ∷ ks) zero v kind is h = (is, h)
set_has (None ∷ vs) (Some k ∷ ks) zero v kind is h = absurd h
set_has (Some w ∷ vs) (Some k ∷ ks) zero v kind is h = (is, h.1)
set_has (None ∷ vs) (None ∷ ks) (suc slot) v kind is h = set_has vs ks slot v kind is h
set_has (Some w ∷ vs) (None ∷ ks) (suc slot) v kind is h = set_has vs ks slot v kind is h
set_has (None ∷ vs) (Some k ∷ ks) (suc slot) v kind is h = absurd h
set_has (Some w ∷ vs) (Some k ∷ ks) (suc slot) v kind is h = (h.0, set_has vs ks slot v kind is h.1)

-- a local variable loses its value and its kind
clear_has : (vs : List (Option Value)) (ks : List (Option Kind)) (slot : ℕ) → LocalsHave vs ks
    → LocalsHave (set vs slot None) (set ks slot None)
clear_has [] [] slot h = tt
clear_has [] (k ∷ ks) slot h = absurd h
clear_has (None ∷ vs) [] slot h = absurd h
clear_has (Some w ∷ vs) [] slot h = absurd h
clear_has (None ∷ vs) (None ∷ ks) zero h = h
clear_has (Some w ∷ vs) (None ∷ ks) zero h = h
clear_has (None ∷ vs) (Some k ∷ ks) zero h = absurd h
clear_has (Some w ∷ vs) (Some k ∷ ks) zero h = h.1
clear_has (None ∷ vs) (None ∷ ks) (suc slot) h = clear_has vs ks slot h
clear_has (Some w ∷ vs) (None ∷ ks) (suc slot) h = clear_has vs ks slot h
clear_has (None ∷ vs) (Some k ∷ ks) (suc slot) h = absurd h
clear_has (Some w ∷ vs) (Some k ∷ ks) (suc slot) h = (h.0, clear_has vs ks slot h.1)

is_long_value : (v : Value) → is_long (Some v) ≡ same_kind kinds.Long (value_kind v)
is_long_value (values.Int z) = refl
is_long_value (values.Long z) = refl
is_long_value (values.Ref r) = refl

-- a local variable without the kind of a long may lose a long, as it has no kind then
lose_has : (vs : List (Option Value)) (ks : List (Option Kind)) (slot : ℕ) → is_long (local_at vs slot) ≡ true
    → is_kind kinds.Long (kind_at ks slot) ≡ false
    → LocalsHave vs ks → LocalsHave (set vs slot None) ks
lose_has [] ks slot l k h = h
lose_has (None ∷ vs) [] slot l k h = absurd h
lose_has (Some w ∷ vs) [] slot l k h = absurd h
lose_has (None ∷ vs) (None ∷ ks) zero l k h = h
lose_has (Some w ∷ vs) (None ∷ ks) zero l k h = h
lose_has (None ∷ vs) (Some kind ∷ ks) slot l k h = absurd h
lose_has (Some w ∷ vs) (Some kind ∷ ks) zero l k h =
    let long : same_kind kinds.Long kind ≡ true = rw (← h.0) (sym (is_long_value w) ∙ l) in absurd cc
lose_has (None ∷ vs) (None ∷ ks) (suc slot) l k h = lose_has vs ks slot l k h
lose_has (Some w ∷ vs) (None ∷ ks) (suc slot) l k h = lose_has vs ks slot l k h
lose_has (Some w ∷ vs) (Some kind ∷ ks) (suc slot) l k h = (h.0, lose_has vs ks slot l k h.1)

without_has : (vs : List (Option Value)) (ks : List (Option Kind)) (slot : ℕ) → LocalsHave vs ks
    → LocalsHave (without_long_before vs slot) (shape.kinds_without_long_before ks slot)
without_has vs ks zero h = h
without_has vs ks (suc before) h = elim (either (is_kind kinds.Long (kind_at ks before))) [
  | inl is ↦ let r = local_has vs ks before kinds.Long h is in
      rw (is, r.found, is_long_value r.value, r.is_of) (clear_has vs ks before h)
  | inr other ↦ elim (either (is_long (local_at vs before))) [
    | inl long ↦ rw (other, long) (lose_has vs ks before long other h)
    | inr short ↦ rw (other, short) h
  ]
]

stored_has : (vs : List (Option Value)) (ks : List (Option Kind)) (slot : ℕ) (v : Value) → LocalsHave vs ks
    → LocalsHave (stored vs slot v) (set_kind (shape.kinds_without_long_before ks slot) slot (value_kind v))
stored_has vs ks slot (values.Int z) h = set_has _ _ slot (values.Int z) kinds.Int refl (without_has vs ks slot h)
stored_has vs ks slot (values.Long z) h =
    clear_has _ _ (slot + 1) (set_has _ _ slot (values.Long z) kinds.Long refl (without_has vs ks slot h))
stored_has vs ks slot (values.Ref r) h = set_has _ _ slot (values.Ref r) kinds.Ref refl (without_has vs ks slot h)

without_length : (vs : List (Option Value)) (slot : ℕ) → length (without_long_before vs slot) ≡ length vs
without_length vs zero = refl
without_length vs (suc before) = elim (either (is_long (local_at vs before))) [
  | inl long ↦ rw long (length-set vs before None)
  | inr short ↦ rw short refl
]

stored_length : (vs : List (Option Value)) (slot : ℕ) (v : Value) → length (stored vs slot v) ≡ length vs
stored_length vs slot (values.Int z) = length-set _ slot _ ∙ without_length vs slot
stored_length vs slot (values.Long z) = length-set _ (slot + 1) _ ∙ (length-set _ slot _ ∙ without_length vs slot)
stored_length vs slot (values.Ref r) = length-set _ slot _ ∙ without_length vs slot

-- ---- arrays

-- an array that an access reaches has elements of its kind
reached_kind : (access : Access) (element : Element) (z : ℤ) → reaches access element ≡ true
    → value_kind (element_value element z) ≡ access_kind access
reached_kind Bytes elements.Boolean z e = refl
reached_kind Bytes elements.Byte z e = refl
reached_kind Chars elements.Char z e = refl
reached_kind Shorts elements.Short z e = refl
reached_kind Ints elements.Int z e = refl
reached_kind Longs elements.Long z e = refl
reached_kind _ _ z e = absurd cc

-- what an access finds
only_cases : (P : Found → Type 0) (access : Access) (found : Found) → P Null → P NoArray
    → ((class : Name) (element : Element) (contents : List ℤ) → reaches access element ≡ true → P (IsArray class element contents))
    → P (only access found)
only_cases P access Null null none array = null
only_cases P access NoArray null none array = none
only_cases P access (IsArray class element contents) null none array = elim (either (reaches access element)) [
  | inl is ↦ rw is (array class element contents is)
  | inr other ↦ rw other none
]

found_cases : (P : Found → Type 0) (found : Found) → P Null → P NoArray
    → ((class : Name) (element : Element) (contents : List ℤ) → P (IsArray class element contents)) → P found
found_cases P Null null none array = null
found_cases P NoArray null none array = none
found_cases P (IsArray class element contents) null none array = array class element contents

-- ---- kinds that are taken

takes_parts : (k : Kinds) (wanted : List Kind) (left : Kinds) → takes k wanted ≡ Some left
    → (taken wanted k.stack ≡ Some left.stack) × (record { locals = k.locals; stack = left.stack } ≡ left)
takes_parts k wanted left e = go (taken wanted k.stack) refl where
  go : (below : Option (List Kind)) → taken wanted k.stack ≡ below
      → (taken wanted k.stack ≡ Some left.stack) × (record { locals = k.locals; stack = left.stack } ≡ left)
  go None h = let none : None ≡ Some left = rw h at e in absurd cc
  go (Some stack) h =
      let some : Some (record k { stack = stack }) ≡ Some left = rw h at e in
      let is : record k { stack = stack } ≡ left = cc in
      rw (← is) (h, refl)

-- a kind that is stored
record Stored (code : Code) (ks : List (Option Kind)) (slot : ℕ) (kind : Kind) (found : Option Kinds) (left : Kinds) : Type 0 where
  below : Kinds
  taken : found ≡ Some below
  fits : nat_lt (slot + slots_of kind - 1) code.max_locals ≡ true
  left_is : record { locals = set_kind (shape.kinds_without_long_before ks slot) slot kind; stack = below.stack } ≡ left

store_parts : (code : Code) (ks : List (Option Kind)) (slot : ℕ) (kind : Kind) (found : Option Kinds) (left : Kinds)
    → store_kind code ks slot kind found ≡ Some left → Stored code ks slot kind found left
store_parts code ks slot kind None left e = absurd cc
store_parts code ks slot kind (Some k) left e =
    let locals : List (Option Kind) = set_kind (shape.kinds_without_long_before ks slot) slot kind in
    let r = some_if (nat_lt (slot + slots_of kind - 1) code.max_locals) (record k { locals = locals }) left e in
    record { below = k; taken = refl; fits = r.0; left_is = r.1 }

-- ---- families

module _ (program : Program) (terms : Terms) (signature : Signature) (code : Code) (left : Kinds)
    (locals : List (Option Value)) (ks : List (Option Kind)) (heap : Heap) (statics : List Static) (literals : List Literal)
    (has : LocalsHave locals ks) (long : length locals ≡ code.max_locals) where
  abbrev at_kinds : List Value → Kinds
  at_kinds operands = record { locals = ks; stack = map value_kind operands }

  abbrev part : List Value → StraightPart
  part operands = record { locals = locals; operands = operands; heap = heap; statics = statics; literals = literals }

  abbrev Sound : Instruction → Effect → Type 0
  Sound i e = IsSoundFlow signature code i left e.part e.flow

  abbrev Good : Instruction → List Value → Type 0
  Good i operands = after signature code i (at_kinds operands) ≡ Some left → HasSoundEffect program terms signature code i left (part operands)

  -- the next instruction finds these operands
  next : (i : Instruction) → IsFalse (ends i) → (operands : List Value) (other : Heap) → at_kinds operands ≡ left
      → IsSoundFlow signature code i left (record { locals = locals; operands = operands; heap = other; statics = statics; literals = literals }) Next
  next i goes_on operands other e = rw (← e) ((record { locals = has; operands = refl }, long), goes_on)

  pushed_is : (variables : List (Option Kind)) (stack : List Kind) (kind : Kind) → pushed code variables stack kind ≡ Some left
      → record { locals = variables; stack = kind ∷ stack } ≡ left
  pushed_is variables stack kind e = (some_if _ _ _ e).1

  nop_good : (operands : List Value) → Good Nop operands
  unfolding after effect
  nop_good operands a = (_, refl, next Nop refl operands heap cc)

  push_good : (v : Value) (operands : List Value) → Good (Push v) operands
  unfolding after effect
  push_good v operands a = (_, refl, next (Push v) refl (v ∷ operands) heap (pushed_is _ _ _ a))

  loaded : (kind : Kind) (slot : ℕ) (operands : List Value) → HasLocal locals slot kind
      → pushed code ks (map value_kind operands) kind ≡ Some left
      → HasSoundEffect program terms signature code (Load kind slot) left (part operands)
  unfolding effect
  loaded kind slot operands l a =
      let kinds_are : at_kinds (l.value ∷ operands) ≡ left = pushed_is ks (map value_kind operands) (value_kind l.value) (rw l.kind_is a) in
      (pushes (part operands) operands l.value, rw (l.found, l.is_of) refl, next (Load kind slot) refl (l.value ∷ operands) heap kinds_are)

  load_good : (kind : Kind) (slot : ℕ) (operands : List Value) → Good (Load kind slot) operands
  unfolding after
  load_good kind slot operands a =
      let r = some_if_some (is_kind kind (kind_at ks slot)) (pushed code ks (map value_kind operands) kind) left a in
      loaded kind slot operands (local_has locals ks slot kind has r.0) r.1

  store_good : (kind : Kind) (slot : ℕ) (operands : List Value) → Good (Store kind slot) operands
  unfolding after effect
  store_good kind slot [] a = absurd cc
  store_good kind slot (v ∷ rest) a =
      let s = store_parts code ks slot kind (takes (at_kinds (v ∷ rest)) (kind ∷ [])) left a in
      let t = takes_parts (at_kinds (v ∷ rest)) (kind ∷ []) s.below s.taken in
      let r = some_if (same_kind kind (value_kind v)) (map value_kind rest) s.below.stack t.0 in
      let is : kind ≡ value_kind v = same_kind_is kind (value_kind v) r.0 in
      let kept : LocalsHave (stored locals slot v) (set_kind (shape.kinds_without_long_before ks slot) slot kind) =
      rw is (stored_has locals ks slot v has) in
      let length_is : length (stored locals slot v) ≡ code.max_locals = stored_length locals slot v ∙ long in
      let there : HasKinds (stored locals slot v) rest left = rw (← s.left_is) (record { locals = kept; operands = r.1 }) in
      let p : StraightPart = record (part rest) { locals = stored locals slot v } in
      (record { part = p; flow = Next }, rw (r.0, long, s.fits) refl, ((there, length_is), refl))

  load_found_sound : (access : Access) (operands rest : List Value) (element : Element) (found : Option ℤ) → reaches access element ≡ true
      → pushed code ks (map value_kind rest) (access_kind access) ≡ Some left
      → Sound (LoadElement access) (load_found (part operands) rest element found)
  load_found_sound access operands rest element None is a = tt
  load_found_sound access operands rest element (Some z) is a =
      next (LoadElement access) refl (element_value element z ∷ rest) heap
      (pushed_is ks (map value_kind rest) (value_kind (element_value element z)) (rw (reached_kind access element z is) a))

  load_element_good : (access : Access) (operands : List Value) → Good (LoadElement access) operands
  unfolding after effect
  load_element_good access (values.Int index ∷ (values.Ref r ∷ rest)) a =
      let operands : List Value = values.Int index ∷ (values.Ref r ∷ rest) in
      let load : Name → Element → List ℤ → Effect = λ class element contents.
      load_found (part operands) rest element (element_at contents index) in (
        reached (part operands) (only access (array_at heap.objects r)) load,
        refl,
        only_cases (λ found. Sound (LoadElement access) (reached (part operands) found load)) access (array_at heap.objects r) tt tt
            (λ class element contents is. load_found_sound access operands rest element (element_at contents index) is a),
      )
  load_element_good access _ a = absurd cc

  store_found_sound : (access : Access) (operands rest : List Value) (r : ℕ) (object : Object) (found : Option ℤ) → at_kinds rest ≡ left
      → Sound (StoreElement access) (store_found (part operands) rest r object found None)
  store_found_sound access operands rest r object None e = tt
  store_found_sound access operands rest r object (Some z) e = next (StoreElement access) refl rest (with_object heap r object) e

  element_stored : (access : Access) (v : Value) (rest : List Value) → same_kind (access_kind access) (value_kind v) ≡ true
      → taken (kinds.Int ∷ (kinds.Ref ∷ [])) (map value_kind rest) ≡ Some left.stack → record { locals = ks; stack = left.stack } ≡ left
      → HasSoundEffect program terms signature code (StoreElement access) left (part (v ∷ rest))
  unfolding effect
  element_stored access v (values.Int index ∷ (values.Ref r ∷ rest)) is t e =
      let operands : List Value = v ∷ (values.Int index ∷ (values.Ref r ∷ rest)) in
      let p : StraightPart = part operands in
      let same : map value_kind rest ≡ left.stack = cc in
      let kinds_are : at_kinds rest ≡ left = ap (λ stack. record { locals = ks; stack = stack }) same ∙ e in
      let store : Name → Element → List ℤ → Effect = λ class element contents.
      store_found p rest r (Array class element (with_element contents index (kept element (value_number v)))) (element_at contents index) None in (
        reached p (only access (array_at heap.objects r)) store,
        rw is refl,
        only_cases (λ found. Sound (StoreElement access) (reached p found store)) access (array_at heap.objects r) tt tt
            (λ class element contents reaches_it. store_found_sound access operands rest r _ (element_at contents index) kinds_are),
      )
  element_stored access v _ is t e = absurd cc

  store_element_good : (access : Access) (operands : List Value) → Good (StoreElement access) operands
  unfolding after
  store_element_good access [] a = absurd cc
  store_element_good access (v ∷ rest) a =
      let t = takes_parts (at_kinds (v ∷ rest)) (access_kind access ∷ (kinds.Int ∷ (kinds.Ref ∷ []))) left a in
      let below : Option (List Kind) = taken (kinds.Int ∷ (kinds.Ref ∷ [])) (map value_kind rest) in
      let r = some_if_some (same_kind (access_kind access) (value_kind v)) below left.stack t.0 in
      element_stored access v rest r.0 r.1 t.1

  move_good : (operation : StackOperation) (operands : List Value) → Good (Move operation) operands
  unfolding after effect
  move_good Pop [] a = absurd cc
  move_good Dup [] a = absurd cc
  move_good Pop (v ∷ rest) a =
      let r = none_if (same_kind kinds.Long (value_kind v)) (Some (at_kinds rest)) left a in
      let kinds_are : at_kinds rest ≡ left = cc in
      (goes (part rest) Next, rw r.0 refl, next (Move Pop) refl rest heap kinds_are)
  move_good Dup (v ∷ rest) a =
      let r = none_if (same_kind kinds.Long (value_kind v)) (pushed code ks (value_kind v ∷ map value_kind rest) (value_kind v)) left a in
      (pushes (part (v ∷ rest)) (v ∷ rest) v, rw r.0 refl, next (Move Dup) refl (v ∷ (v ∷ rest)) heap (pushed_is _ _ _ r.1))

  compute_good : (operation : IntOperation) (operands : List Value) → Good (Compute operation) operands
  unfolding after effect
  compute_good Add (values.Int b ∷ (values.Int a ∷ rest)) h = (_, refl, next (Compute Add) refl (values.Int _ ∷ rest) heap (pushed_is _ _ _ h))
  compute_good Subtract (values.Int b ∷ (values.Int a ∷ rest)) h = (_, refl, next (Compute Subtract) refl (values.Int _ ∷ rest) heap (pushed_is _ _ _ h))
  compute_good Multiply (values.Int b ∷ (values.Int a ∷ rest)) h = (_, refl, next (Compute Multiply) refl (values.Int _ ∷ rest) heap (pushed_is _ _ _ h))
  compute_good And (values.Int b ∷ (values.Int a ∷ rest)) h = (_, refl, next (Compute And) refl (values.Int _ ∷ rest) heap (pushed_is _ _ _ h))
  compute_good Or (values.Int b ∷ (values.Int a ∷ rest)) h = (_, refl, next (Compute Or) refl (values.Int _ ∷ rest) heap (pushed_is _ _ _ h))
  compute_good Xor (values.Int b ∷ (values.Int a ∷ rest)) h = (_, refl, next (Compute Xor) refl (values.Int _ ∷ rest) heap (pushed_is _ _ _ h))
  compute_good operation _ h = absurd cc

  return_good : (kind : Option Kind) (operands : List Value) → Good (Return kind) operands
  unfolding after effect
  return_good None operands a =
      let r = some_if_some (same_result None signature.result) (takes (at_kinds operands) []) left a in
      (_, refl, (refl, no_result signature.result r.0))
  return_good (Some kind) operands a =
      let r = some_if_some (is_kind kind signature.result) (takes (at_kinds operands) (kind ∷ [])) left a in
      returned kind operands (some_kind kind signature.result r.0) (takes_parts (at_kinds operands) (kind ∷ []) left r.1).0 where
        returned : (kind : Kind) (operands : List Value) → Some kind ≡ signature.result → taken (kind ∷ []) (map value_kind operands) ≡ Some left.stack
            → HasSoundEffect program terms signature code (Return (Some kind)) left (part operands)
        returned kind [] is t = absurd cc
        returned kind (v ∷ rest) is t =
            let r = some_if (same_kind kind (value_kind v)) (map value_kind rest) left.stack t in
            (goes (part (v ∷ rest)) (Back (Some v)), rw r.0 refl, (refl, ap Some (sym (same_kind_is kind (value_kind v) r.0)) ∙ is))

  length_good : (operands : List Value) → Good ArrayLength operands
  unfolding after effect
  length_good (values.Ref r ∷ rest) a =
      let p : StraightPart = part (values.Ref r ∷ rest) in
      let count : Name → Element → List ℤ → Effect = λ class element contents. pushes p rest (values.Int (pos (length contents))) in (
        reached p (array_at heap.objects r) count,
        refl,
        found_cases (λ found. Sound ArrayLength (reached p found count)) (array_at heap.objects r) tt tt
            (λ class element contents. next ArrayLength refl (values.Int (pos (length contents)) ∷ rest) heap (pushed_is _ _ _ a)),
      )
  length_good _ a = absurd cc

  made : (class : Name) (element : Element) (operands rest : List Value) (size : ℕ) (object : Object)
      → pushed code ks (map value_kind rest) kinds.Ref ≡ Some left
      → (full : Bool) → passes_limit terms.limit (heap.used + size) ≡ full
      → Sound (NewArray class element) (make terms.limit (part operands) rest size object)
  made class element operands rest size object a true e = rw e tt
  made class element operands rest size object a false e =
      rw e (next (NewArray class element) refl (values.Ref (next_number heap) ∷ rest) (with_new heap size object) (pushed_is _ _ _ a))

  new_array_good : (class : Name) (element : Element) (operands : List Value) → Good (NewArray class element) operands
  unfolding after effect
  new_array_good class element (values.Int (pos n) ∷ rest) a =
      let object : Object = Array class element (new_contents n) in
      (_, refl, made class element (values.Int (pos n) ∷ rest) rest (array_size element n) object a _ refl)
  new_array_good class element (values.Int (negsuc n) ∷ rest) a = (_, refl, tt)
  new_array_good class element _ a = absurd cc

  other_good : (op : ℕ) (operands : List Value) → Good (Other op) operands
  unfolding after
  other_good op operands a = absurd cc

  pub good : (i : Instruction) (operands : List Value) → Good i operands
  good Nop operands = nop_good operands
  good (Push v) operands = push_good v operands
  good (Load kind slot) operands = load_good kind slot operands
  good (Store kind slot) operands = store_good kind slot operands
  good (LoadElement access) operands = load_element_good access operands
  good (StoreElement access) operands = store_element_good access operands
  good (Move operation) operands = move_good operation operands
  good (Compute operation) operands = compute_good operation operands
  good (Return kind) operands = return_good kind operands
  good ArrayLength operands = length_good operands
  good (NewArray class element) operands = new_array_good class element operands
  good (Other op) operands = other_good op operands

pub sound_effect : (program : Program) (terms : Terms) (signature : Signature) (code : Code) (i : Instruction) (k left : Kinds) (p : StraightPart)
    → IsFalse (asks_program i) → HasKinds p.locals p.operands k → length p.locals ≡ code.max_locals → after signature code i k ≡ Some left
    → HasSoundEffect program terms signature code i left p
sound_effect program terms signature code i k left p asks has long a =
    good program terms signature code left p.locals k.locals p.heap p.statics p.literals has.locals long i p.operands
    (subst (λ stack. after signature code i (record { locals = k.locals; stack = stack }) ≡ Some left) (sym has.operands) a)

-- ---- the beginning

none_have : (n : ℕ) → LocalsHave (replicate n None) (replicate n None)
none_have zero = tt
none_have (suc n) = none_have n

pub first_kinds_hold : (signature : Signature) (code : Code) (program : Program) (method : MethodName) (r : ℕ)
    → code_of program method ≡ Some code
    → signature.parameters ≡ kinds.Ref ∷ [] → ParametersFit signature code
    → HasKinds (new_frame program method (values.Ref r ∷ [])).locals [] (first_kinds signature code)
    × (length (new_frame program method (values.Ref r ∷ [])).locals ≡ code.max_locals)
first_kinds_hold signature code program method r is one fits =
    let some : 1 ≤ code.max_locals = rw one at fits in
    let count : length (replicate {A = Option Value} (code.max_locals - 1) None) ≡ code.max_locals - 1 =
    length-replicate (code.max_locals - 1) None in
    rw (is, one) (record { locals = (refl, none_have (code.max_locals - 1)); operands = refl }, omega arith)
