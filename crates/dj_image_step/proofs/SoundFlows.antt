-- How a run goes on after an instruction of a sound program: an object that is thrown is of a class; the numbers at which the run goes on are those of instructions; and what a step that
-- needs no memory says of the effect.
use Rattle.std.proofs.Common.{◌≡◌, ℕ, zero, suc, ◌+◌, ◌<◌, Bool, true, false, ◌||◌, ◌&&◌, List, [], ◌∷◌, ◌++◌, length, Option, Some, None, nat_eq, nat_lt, refl, sym, ap, subst, ◌∙◌, inl, inr, arith, IsTrue, IsFalse, if◌then◌else◌, ℤ}
use Rattle.std.specs.Prelude.{⊤, IfSome, Result, Ok, Err, codes}
use Rattle.std.specs.Option.{option_map}
use Rattle.std.specs.List.{list_all}
use Rattle.std.proofs.lemmas.Bool.Decides.{nat_tests}
use Rattle.std.proofs.lemmas.Option.{same_Some}
use Rattle.dj_names.specs.declared.descriptor.Kind.{Kind}
use Rattle.dj_names.specs.declared.descriptor.Desc.{Desc}
use Rattle.dj_names.specs.declared.descriptor.Of.TheVariants as ofs
use Rattle.dj_names.specs.declared.descriptor.Ty.{Ty}
use Rattle.dj_names.specs.declared.native.NativeId.{NativeId}
use Rattle.dj_names.specs.declared.run.Charge.{Charge}
use Rattle.dj_names.specs.declared.run.Charge.TheVariants as charges
use Rattle.dj_names.specs.declared.run.Outcome.{Outcome}
use Rattle.dj_names.specs.declared.run.Raised.{Raised}
use Rattle.dj_names.specs.declared.run.Raised.TheVariants as raises
use Rattle.dj_names.specs.declared.run.Value.{Value}
use Rattle.dj_names.specs.declared.run.Value.TheVariants as values
use Rattle.dj_names.specs.trusted.Heaps.{Heap, Object, object_size}
use Rattle.dj_names.specs.trusted.Library.{stop_class}
use Rattle.dj_names.specs.trusted.Types.{Name, class_type, field_kind, parameters_of, same_name, same_of}
use Rattle.dj_edge.specs.declared.host.HostAnswer.{HostAnswer}
use Rattle.dj_model.specs.trusted.Types.{Declared, Member, Prefix, is_stop, throwable_name}
use Rattle.dj_model.specs.trusted.Instructions.{Mode, Virtual, Special, Static, Interface, Instruction, Nop, Push, PushText, Load, Store, Increment, LoadElement, StoreElement, Move, Compute, Convert, Branch, Goto, Switch, Return, GetStatic, PutStatic, GetField, PutField, Invoke, New, NewArray, ArrayLength, Throw, CheckCast, InstanceOf, Monitor, Other, ends, targets}
use Rattle.dj_model.specs.trusted.Arrays.{OnHeap, make, passes_limit}
use Rattle.dj_model.specs.trusted.Numbers.{is_of_kind}
use Rattle.dj_model.specs.trusted.Program.{Program, Body, Abstract, Native, Runs}
use Rattle.dj_model.specs.trusted.Linking.{FoundField, FoundMethod, is_below, is_subtype, place_of, resolve_field, resolve_method, select, special_method, takes_arrays}
use Rattle.dj_model.specs.trusted.State.{Terms, Counting, Uncounted, Metered, Accounted, State, Frame, Part, Way, Next, Raise, Flow, Goes, Catch, Stop, Call, End, Effect, goes}
use Rattle.dj_model.specs.trusted.Values.{Values}
use Rattle.dj_model.specs.trusted.Charging.{Charged, Fine, Over, charge_one}
use Rattle.dj_model.specs.trusted.Natives.{Answer, Returns, Raises, MakesText, KeepsText, MakesChars, SetsFields, SetsElements, Adds, Rethrows, Question, asks, answered, answer, host_answer}
use Rattle.dj_model.specs.trusted.Performing.{class_at_number, is_instance, seen, Counted, Within, Halts, ended_by, thrown_by, counted, Making, Made, NotMade, making, making_then, text_object, chars_object, set_elements, raises_after, returns_made, keeps_made, goes_on, perform, with_answer, host_asked, native_asked, native}
use Rattle.dj_model.specs.trusted.Members.{Arguments, Holder, NullHolder, NoHolder, Holds, Kept, are_instances, arguments_of, asked_class, broken, call, call_with, check_cast, get_field, get_from, get_static, holder_at, instance_of, invoke, kinds_of, push_kept, put_field, put_in, put_static, received, run_body, run_method, throw_top, with_literal}
use Rattle.dj_model.specs.trusted.Effects.{effect, flow_of, heap_effect, new_object, values_effect}
use Rattle.dj_model.specs.trusted.Initialisation.{Initialised}
use Rattle.dj_model.specs.trusted.Step.{Went, act, done, part_of, settled, step, step_of}
use Rattle.dj_model.specs.Sound.{IsSound}
use Rattle.dj_model.specs.Standing.{IsAmong, IsAt}
use Rattle.dj_model.proofs.Flows.{either_way}
use Rattle.dj_model.proofs.SoundLinks.{both_parts}
use Rattle.dj_model.proofs.SoundFrames.{contained, is_held, within}
use Rattle.dj_image_step.specs.Memory.{NeedsNoMemory}

-- ---- types of thrown objects

nat_itself : (n : ℕ) → nat_eq n n ≡ true
nat_itself n = grind (arith, nat_tests)

prefixed : (prefix a b : List ℕ) → same_name (prefix ++ a) (prefix ++ b) ≡ same_name a b
prefixed [] a b = refl
prefixed (x ∷ prefix) a b = rw (nat_itself x) (prefixed prefix a b)

-- arrays are of no such class as Throwable
takes_none : (prefix : Prefix) → takes_arrays prefix (ofs.Class (throwable_name prefix)) ≡ false
takes_none prefix =
    rw (
      prefixed prefix (codes "java/lang/Throwable") (codes "java/lang/Object"),
      prefixed prefix (codes "java/lang/Throwable") (codes "java/lang/Cloneable"),
      prefixed prefix (codes "java/lang/Throwable") (codes "java/io/Serializable"),
    ) refl

second_or : (a b : Bool) → (a || b) ≡ true → a ≡ false → b ≡ true
second_or true b e f = absurd cc
second_or false b e f = e

plain_below : (program : Program) (prefix : Prefix) (class : Ty) → is_subtype program prefix class (class_type (throwable_name prefix)) ≡ true → class.dims ≡ 0
unfolding is_subtype
plain_below program prefix class below = by class.dims refl below where
  by : (dims : ℕ) → class.dims ≡ dims
      → (if nat_lt 0 dims then takes_arrays prefix (ofs.Class (throwable_name prefix)) else nat_eq dims 0 && is_below program class.of (ofs.Class (throwable_name prefix))) ≡ true
      → class.dims ≡ 0
  by zero is below = is
  by (suc n) is below =
      let less : nat_lt 0 (suc n) ≡ true = grind (arith, nat_tests) in
      let takes : takes_arrays prefix (ofs.Class (throwable_name prefix)) ≡ true = rw less at below in
      absurd (let no : false ≡ true = sym (takes_none prefix) ∙ takes in cc)

plain_stop : (prefix : Prefix) (class : Ty) → is_stop prefix class ≡ true → class.dims ≡ 0
plain_stop [] class e = absurd cc
plain_stop (byte ∷ prefix) class e =
    let dims = (both_parts (nat_eq class.dims 0) (same_of class.of (class_type stop_class).of) e).0 in
    grind (arith, nat_tests, dims)

-- ---- objects that are thrown

-- an object of a class and of no array
abbrev pub IsThrowable : Heap Ty → Flow → Type 0
IsThrowable heap (Catch r) = (class_at_number heap r).dims ≡ 0
IsThrowable heap (Goes way) = ⊤
IsThrowable heap Stop = ⊤
IsThrowable heap (Call m arguments) = ⊤
IsThrowable heap (End outcome) = ⊤

abbrev IsFair : Effect → Type 0
IsFair e = IsThrowable e.part.heap e.flow

abbrev pub ThrowsThrowable : Option Effect → Type 0
ThrowsThrowable o = IfSome o IsFair

by_values : (x : Part) (v : Option Values) → ThrowsThrowable (option_map (values_effect x) v)
by_values x None = tt
by_values x (Some v) = tt

by_result : (heap : Heap Ty) (r : Result Way Outcome) → IsThrowable heap (flow_of r)
by_result heap (Ok way) = tt
by_result heap (Err outcome) = tt

by_heap : (x : Part) (e : Option (OnHeap Ty)) → ThrowsThrowable (option_map (heap_effect x) e)
by_heap x None = tt
by_heap x (Some e) = by_result e.heap e.result

abbrev CountsThrowable : Counted → Type 0
CountsThrowable (Within x) = ⊤
CountsThrowable (Halts e) = IsFair e

abbrev MakesThrowable : Making → Type 0
MakesThrowable (Made x r) = ⊤
MakesThrowable (NotMade e) = IsFair e

by_end : (x : Part) (c : Charged) → CountsThrowable (ended_by x c)
by_end x (Fine account) = tt
by_end x (Over charge account) = tt

by_stop : (x : Part) (c : Charged) → CountsThrowable (thrown_by x c)
by_stop x (Fine account) = tt
by_stop x (Over charge account) = tt

by_charge : (counting : Counting) (x : Part) (charge : Charge) (n : ℕ) → CountsThrowable (counted counting x charge n)
by_charge Uncounted x charge n = tt
by_charge (Metered most) x charge n = by_end x (charge_one most x.account charge n)
by_charge (Accounted most) x charge n = by_stop x (charge_one most x.account charge n)

by_making : (limit : Option ℕ) (x : Part) (o : Object Ty) → MakesThrowable (making limit x o)
by_making limit x o = either_way MakesThrowable (passes_limit limit (x.heap.used + object_size o)) _ _ tt tt

by_making_then : (limit : Option ℕ) (o : Object Ty) (c : Counted) → CountsThrowable c → MakesThrowable (making_then limit o c)
by_making_then limit o (Within x) k = by_making limit x o
by_making_then limit o (Halts e) k = k

by_returns : (m : Making) → MakesThrowable m → IsFair (returns_made m)
by_returns (Made x r) k = tt
by_returns (NotMade e) k = k

by_keeps : (object : ℕ) (m : Making) → MakesThrowable m → IsFair (keeps_made object m)
by_keeps object (Made x r) k = tt
by_keeps object (NotMade e) k = k

by_goes : (c : Counted) → CountsThrowable c → IsFair (goes_on c)
by_goes (Within x) k = tt
by_goes (Halts e) k = k

by_raises : (x : Part) (raised : Option Raised) → IsFair (raises_after x raised)
by_raises x None = tt
by_raises x (Some raised) = tt

module _ (program : Program) (prefix : Prefix) (terms : Terms) where
  -- ---- native methods

  by_answer : (x : Part) (a : Answer) → IsFair (perform prefix terms x a)
  unfolding perform
  by_answer x (Returns result) = tt
  by_answer x (Raises raised) = tt
  by_answer x (MakesText units) =
      by_returns _ (by_making_then terms.limit (text_object prefix units) _ (by_charge terms.counting x charges.Alloc _))
  by_answer x (KeepsText object units) =
      by_keeps object _ (by_making_then terms.limit (text_object prefix units) _ (by_charge terms.counting x charges.Alloc _))
  by_answer x (MakesChars units) =
      by_returns _ (by_making_then terms.limit (chars_object units) _ (by_charge terms.counting x charges.Alloc _))
  by_answer x (SetsFields object vs) = tt
  by_answer x (SetsElements array contents raised) = by_raises (set_elements x array contents) raised
  by_answer x (Adds charge n) = by_goes _ (by_charge terms.counting x charge n)
  by_answer x (Rethrows object) = by (is_stop prefix (class_at_number x.heap object)) refl where
    by : (b : Bool) → is_stop prefix (class_at_number x.heap object) ≡ b → IsThrowable x.heap (if b then Catch object else Goes Next)
    by true e = plain_stop prefix (class_at_number x.heap object) e
    by false e = tt

  by_host_answer : (x : Part) (id : NativeId) (args : List Value) (z : Option ℤ) → ThrowsThrowable (with_answer program prefix terms x id args z)
  by_host_answer x id args None = tt
  by_host_answer x id args (Some z) = by_answer x (host_answer id (seen program prefix x.heap) z args)

  by_host : (x : Part) (id : NativeId) (args : List Value) (question : Question) (answers : List HostAnswer)
      → ThrowsThrowable (host_asked program prefix terms x id args question answers)
  by_host x id args question [] = tt
  by_host x id args question (first ∷ rest) = by_host_answer (record x { answers = rest }) id args (answered question first)

  by_asking : (x : Part) (id : NativeId) (args : List Value) (question : Option Question) → ThrowsThrowable (native_asked program prefix terms x id args question)
  by_asking x id args None = by_answer x (answer id (seen program prefix x.heap) args)
  by_asking x id args (Some question) = by_host x id args question x.answers

  by_native : (x : Part) (id : NativeId) (args : List Value) → ThrowsThrowable (native program prefix terms x id args)
  unfolding native
  by_native x id args = by_asking x id args (asks id args)

  -- ---- members

  by_get_static : (x : Part) (kind : Option Kind) (found : Option FoundField) → ThrowsThrowable (get_static program x kind found)
  by_get_static x None found = tt
  by_get_static x (Some kind) None = tt
  by_get_static x (Some kind) (Some found) = tt

  by_put_static : (x : Part) (kind : Option Kind) (found : Option FoundField) (operands : List Value) → ThrowsThrowable (put_static program x kind found operands)
  by_put_static x None found operands = tt
  by_put_static x (Some kind) None operands = tt
  by_put_static x (Some kind) (Some found) [] = tt
  by_put_static x (Some kind) (Some found) (v ∷ rest) = either_way ThrowsThrowable (is_of_kind kind v) _ _ tt tt

  by_get_from : (x : Part) (rest : List Value) (kind : Kind) (place : ℕ) (h : Holder) → IsFair (get_from x rest kind place h)
  by_get_from x rest kind place NullHolder = tt
  by_get_from x rest kind place NoHolder = tt
  by_get_from x rest kind place (Holds class fields) = tt

  by_put_in : (x : Part) (rest : List Value) (place r : ℕ) (v : Value) (h : Holder) → IsFair (put_in x rest place r v h)
  by_put_in x rest place r v NullHolder = tt
  by_put_in x rest place r v NoHolder = tt
  by_put_in x rest place r v (Holds class fields) = tt

  by_get_field : (x : Part) (kind : Option Kind) (found : Option FoundField) (operands : List Value) → ThrowsThrowable (get_field program prefix x kind found operands)
  by_get_field x (Some kind) (Some found) (values.Ref r ∷ rest) = by_get_from x rest kind (place_of program found) (holder_at program prefix found.class x.heap r)
  by_get_field x (Some kind) (Some found) _ = tt
  by_get_field x (Some kind) None operands = tt
  by_get_field x None found operands = tt

  by_put_field : (x : Part) (kind : Option Kind) (found : Option FoundField) (operands : List Value) → ThrowsThrowable (put_field program prefix x kind found operands)
  by_put_field x (Some kind) (Some found) (v ∷ (values.Ref r ∷ rest)) = go (is_of_kind kind v) where
    go : (b : Bool) → ThrowsThrowable (if b then Some (put_in x rest (place_of program found) r v (holder_at program prefix found.class x.heap r)) else None)
    go true = by_put_in x rest (place_of program found) r v (holder_at program prefix found.class x.heap r)
    go false = tt
  by_put_field x (Some kind) (Some found) _ = tt
  by_put_field x (Some kind) None operands = tt
  by_put_field x None found operands = tt

  by_push : (x : Part) (units : List ℕ) (k : Option Kept) → IsFair (push_kept x units k)
  by_push x units None = tt
  by_push x units (Some k) = tt

  by_cast : (x : Part) (class : Ty) (operands : List Value) → ThrowsThrowable (check_cast program prefix x class operands)
  by_cast x class (values.Ref r ∷ rest) = either_way IsFair (is_instance program prefix x.heap r class) _ _ tt tt
  by_cast x class _ = tt

  by_instance : (x : Part) (class : Ty) (operands : List Value) → ThrowsThrowable (instance_of program prefix x class operands)
  by_instance x class (values.Ref r ∷ rest) = tt
  by_instance x class _ = tt

  by_throw : (x : Part) (operands : List Value) → ThrowsThrowable (throw_top program prefix x operands)
  by_throw x (values.Ref r ∷ rest) = by (nat_eq r 0) refl (is_instance program prefix x.heap r (class_type (throwable_name prefix))) refl where
    by : (null : Bool) → nat_eq r 0 ≡ null → (fits : Bool) → is_instance program prefix x.heap r (class_type (throwable_name prefix)) ≡ fits
        → IsFair (if null then goes x (Goes (Raise raises.NullPointer)) else if fits then goes x (Catch r) else broken x)
    by true n fits f = tt
    by false n true f = plain_below program prefix (class_at_number x.heap r) (second_or (nat_eq r 0) (is_subtype program prefix (class_at_number x.heap r) (class_type (throwable_name prefix))) f n)
    by false n false f = tt
  by_throw x _ = tt

  by_body : (x : Part) (found : FoundMethod) (receiver args : List Value) (types : List Ty) (body : Body)
      → ThrowsThrowable (run_body program prefix terms x found receiver args types body)
  by_body x found receiver args types Abstract = tt
  by_body x found receiver args types (Runs code) = tt
  by_body x found receiver args types (Native id) =
      either_way ThrowsThrowable (are_instances program prefix x.heap types args) _ _ (by_native x id (receiver ++ args)) tt

  by_run : (x : Part) (receiver args : List Value) (types : List Ty) (found : Option FoundMethod)
      → ThrowsThrowable (run_method program prefix terms x receiver args types found)
  by_run x receiver args types None = tt
  by_run x receiver args types (Some found) = by_body x found receiver args types found.method.body

  by_received : (x : Part) (r : ℕ) (declaring : Name) (e : Option Effect) → ThrowsThrowable e → ThrowsThrowable (received program prefix x r declaring e)
  by_received x r declaring e k =
      either_way ThrowsThrowable (nat_eq r 0) _ _ tt (either_way ThrowsThrowable (is_instance program prefix x.heap r (class_type declaring)) _ _ k tt)

  by_call : (own : Name) (mode : Mode) (x : Part) (resolved : FoundMethod) (types : List Ty) (args rest : List Value)
      → ThrowsThrowable (call program prefix terms own mode x resolved types args rest)
  by_call own Static x resolved types args rest = by_run (record x { operands = rest }) [] args types (Some resolved)
  by_call own Special x resolved types args (values.Ref r ∷ rest) =
      by_received (record x { operands = rest }) r (asked_class resolved (special_method program own resolved)) _
      (by_run (record x { operands = rest }) (values.Ref r ∷ []) args types (special_method program own resolved))
  by_call own Virtual x resolved types args (values.Ref r ∷ rest) =
      by_received (record x { operands = rest }) r resolved.class _
      (by_run (record x { operands = rest }) (values.Ref r ∷ []) args types (select program prefix resolved (class_at_number x.heap r)))
  by_call own (Interface count) x resolved types args (values.Ref r ∷ rest) =
      by_received (record x { operands = rest }) r resolved.class _
      (by_run (record x { operands = rest }) (values.Ref r ∷ []) args types (select program prefix resolved (class_at_number x.heap r)))
  by_call own mode x resolved types args _ = tt

  by_call_with : (own : Name) (mode : Mode) (desc : Desc) (x : Part) (found : Option FoundMethod) (a : Option Arguments)
      → ThrowsThrowable (call_with program prefix terms own mode desc x found a)
  by_call_with own mode desc x None a = tt
  by_call_with own mode desc x (Some resolved) None = tt
  by_call_with own mode desc x (Some resolved) (Some a) = by_call own mode x resolved (parameters_of desc) a.values a.rest

  by_invoke : (own : Name) (mode : Mode) (m : Member) (x : Part) → ThrowsThrowable (invoke program prefix terms own mode m x)
  unfolding invoke
  by_invoke own mode m x = by_call_with own mode m.desc x (resolve_method program prefix m) (arguments_of (kinds_of (parameters_of m.desc)) x.operands)

  -- ---- every instruction

  pub effect_throwable : (own : Name) (i : Instruction) (x : Part) → ThrowsThrowable (effect program prefix terms own i x)
  unfolding effect
  effect_throwable own (PushText units) x = by_push x units (with_literal terms.limit prefix x.heap x.literals units)
  effect_throwable own (LoadElement access) x = by_heap x _
  effect_throwable own (StoreElement access) x = by_heap x _
  effect_throwable own (GetStatic m) x = by_get_static x (field_kind m.desc) (resolve_field program prefix m)
  effect_throwable own (PutStatic m) x = by_put_static x (field_kind m.desc) (resolve_field program prefix m) x.operands
  effect_throwable own (GetField m) x = by_get_field x (field_kind m.desc) (resolve_field program prefix m) x.operands
  effect_throwable own (PutField m) x = by_put_field x (field_kind m.desc) (resolve_field program prefix m) x.operands
  effect_throwable own (Invoke mode m) x = by_invoke own mode m x
  effect_throwable own (New class) x = by_result (make terms.limit x.heap x.operands x.operands (new_object program prefix class)).heap (make terms.limit x.heap x.operands x.operands (new_object program prefix class)).result
  effect_throwable own (NewArray class element) x = by_heap x _
  effect_throwable own ArrayLength x = by_heap x _
  effect_throwable own Throw x = by_throw x x.operands
  effect_throwable own (CheckCast class) x = by_cast x class x.operands
  effect_throwable own (InstanceOf class) x = by_instance x class x.operands
  effect_throwable own Nop x = by_values x _
  effect_throwable own (Push v) x = by_values x _
  effect_throwable own (Load kind slot) x = by_values x _
  effect_throwable own (Store kind slot) x = by_values x _
  effect_throwable own (Increment slot by) x = by_values x _
  effect_throwable own (Move operation) x = by_values x _
  effect_throwable own (Compute operation) x = by_values x _
  effect_throwable own (Convert operation) x = by_values x _
  effect_throwable own (Branch test target) x = by_values x _
  effect_throwable own (Goto target) x = by_values x _
  effect_throwable own (Switch pairs default) x = by_values x _
  effect_throwable own (Return kind) x = by_values x _
  effect_throwable own Monitor x = by_values x _
  effect_throwable own (Other op named) x = by_values x _

-- ---- numbers of instructions

among_all : (test : ℕ → Bool) (xs : List ℕ) (n : ℕ) → list_all test xs ≡ true → IsAmong xs n → test n ≡ true
among_all test [] n e a = absurd a
among_all test (x ∷ xs) n e (inl same) = subst (λ (k : ℕ). test k ≡ true) (sym same) (both_parts (test x) (list_all test xs) e).0
among_all test (x ∷ xs) n e (inr more) = among_all test xs n (both_parts (test x) (list_all test xs) e).1 more

module _ (program : Program) (prefix : Prefix) (is : IsSound program prefix) (f : Frame Declared) (s : IsAt program f) where
  -- the instruction after one at which a run may go on is there
  pub next_within : IsFalse (ends s.instruction) → f.number + 1 < length s.code.instructions
  next_within plain =
      let h = (is_held program prefix is f s).holds f.number (within program prefix is f s) in
      let same : h.instruction ≡ s.instruction = same_Some h.instruction s.instruction (sym h.at ∙ s.at) in
      let last : (ends s.instruction || nat_lt (suc f.number) (length s.code.instructions)) ≡ true =
      subst (λ (i : Instruction). (ends i || nat_lt (suc f.number) (length s.code.instructions)) ≡ true) same h.last in
      let less : nat_lt (suc f.number) (length s.code.instructions) ≡ true = second_or (ends s.instruction) _ last plain in
      let more : suc f.number < length s.code.instructions = grind (arith, nat_tests, less) in
      omega (arith, more)

  -- and so are those to which it may jump
  pub target_within : (n : ℕ) → IsAmong (targets s.instruction) n → n < length s.code.instructions
  target_within n among =
      let less : nat_lt n (length s.code.instructions) ≡ true = among_all (λ (target : ℕ). nat_lt target (length s.code.instructions)) (targets s.instruction) n
      ((is_held program prefix is f s).formed.targets_within s.instruction (contained s.code.instructions f.number s.instruction s.at)) among in
      grind (arith, nat_tests, less)

-- ---- steps that need no memory

-- the run goes on after the effect
pub effect_went : (program : Program) (prefix : Prefix) (terms : Terms) (s : State) (n : NeedsNoMemory program prefix terms s)
    → settled program prefix terms s n.top n.below (effect program prefix terms n.top.method.class n.instruction (part_of n.top s)) ≡ Went n.next
unfolding step
effect_went program prefix terms s n =
    sym (ap (λ (frames : List (Frame Declared)). step_of program prefix terms s frames) n.frames
    ∙ (ap (λ (o : Option Instruction). act program prefix terms s n.top n.below o) n.at
    ∙ ap (λ (i : Initialised). done program prefix terms n.top n.below n.instruction i) n.ready))
    ∙ n.goes
