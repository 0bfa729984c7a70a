-- What native methods, members and calls leave of the heap and of the account, and so each instruction.
use Rattle.std.proofs.Common.{◌≡◌, ℕ, ◌+◌, ℤ, List, [], ◌∷◌, ◌++◌, set, Option, Some, None, nat_eq, refl, sym, subst}
use Rattle.std.proofs.lemmas.List.{length-set}
use Rattle.std.specs.Prelude.{⊤, IfSome}
use Rattle.dj_names.specs.declared.descriptor.Kind.{Kind}
use Rattle.dj_names.specs.declared.descriptor.Ty.{Ty}
use Rattle.dj_names.specs.declared.descriptor.Desc.{Desc}
use Rattle.dj_names.specs.declared.run.Value.{Value}
use Rattle.dj_names.specs.declared.run.Value.TheVariants as values
use Rattle.dj_names.specs.declared.run.Raised.{Raised}
use Rattle.dj_names.specs.declared.run.Charge.{Charge}
use Rattle.dj_names.specs.declared.run.Charge.TheVariants as charges
use Rattle.dj_names.specs.declared.run.Thresholds.{Thresholds}
use Rattle.dj_names.specs.declared.native.NativeId.{NativeId}
use Rattle.dj_names.specs.trusted.Heaps.{Object, Instance, Array, Text, Heap, object_at, object_size, text_size, field_bits}
use Rattle.dj_names.specs.trusted.Types.{Name, field_kind, parameters_of, class_type}
use Rattle.dj_edge.specs.declared.host.HostAnswer.{HostAnswer}
use Rattle.dj_model.specs.trusted.Types.{Prefix, Member, is_stop, throwable_name}
use Rattle.dj_model.specs.trusted.Instructions.{Mode, Virtual, Special, Static, Interface, Instruction, Nop, Push, PushText, Load, Store, Increment, LoadElement, StoreElement, Move, Compute, Convert, Branch, Goto, Switch, Return, GetStatic, PutStatic, GetField, PutField, Invoke, New, NewArray, ArrayLength, Throw, CheckCast, InstanceOf, Monitor, Other}
use Rattle.dj_model.specs.trusted.Numbers.{is_of_kind}
use Rattle.dj_model.specs.trusted.Program.{Program, Body, Abstract, Native, Runs}
use Rattle.dj_model.specs.trusted.Linking.{FoundMethod, FoundField, is_among, chain, member_class, resolve_method, resolve_field, select, special_method, place_of}
use Rattle.dj_model.specs.trusted.State.{Terms, Counting, Uncounted, Metered, Accounted, Literal, Part, Flow, Effect}
use Rattle.dj_model.specs.trusted.Arrays.{passes_limit, make}
use Rattle.dj_model.specs.trusted.Charging.{Charged, Fine, Over, charge_one}
use Rattle.dj_model.specs.trusted.Natives.{Answer, Returns, Raises, MakesText, KeepsText, MakesChars, SetsFields, SetsElements, Adds, Rethrows, Question, asks, answered, answer, host_answer}
use Rattle.dj_model.specs.trusted.Performing.{class_at_number, is_instance, takes, seen, ended_by, thrown_by, counted, Making, Made, NotMade, text_object, chars_object, set_elements, raises_after, keeps_made, perform, with_answer, host_asked, native_asked, native}
use Rattle.dj_model.specs.trusted.Members.{get_static, put_static, Holder, NullHolder, NoHolder, Holds, holder_in, holder_at, get_from, put_in, get_field, put_field, Kept, kept_or_made, literal_in, with_literal, push_kept, check_cast, instance_of, throw_top, kinds_of, Arguments, arguments_of, are_instances, run_body, run_method, received, asked_class, call, call_with, invoke}
use Rattle.dj_model.specs.trusted.Effects.{new_object, effect}
use Rattle.dj_model.specs.Laws.{Grows, IsPaid, IsReported}
use Rattle.dj_model.proofs.Flows.{either_way}
use Rattle.dj_model.proofs.Growth.{grows_same, grows_new, grows_set, same_fields}
use Rattle.dj_model.proofs.Fits.{PlainFlow, ChargedFits, charge_fits, ChargedReported, charge_reported, Fits, part_same, go_plain, simple, values_fit, heap_fits, load_fits, store_fits, length_fits, make_fits, make_array_fits, CountedFits, MakingFits, making_then_fits, returns_fit, goes_fit, SetFits, fields_fit, elements_fit}

-- ---- native methods

ended_fits : (most : Thresholds) (x : Part) (c : Charged) → (IsPaid most x.account → ChargedFits most x.account c) → CountedFits (Metered most) x (ended_by x c)
ended_fits most x (Fine account) k = record { heap = grows_same x.heap; account = k }
ended_fits most x (Over charge account) k = record { heap = grows_same x.heap; account = k }

thrown_fits : (most : Thresholds) (x : Part) (c : Charged) → (IsReported most x.account → ChargedReported most x.account c) → CountedFits (Accounted most) x (thrown_by x c)
thrown_fits most x (Fine account) k = record { heap = grows_same x.heap; account = k }
thrown_fits most x (Over charge account) k = record { heap = grows_same x.heap; account = λ reported. let now = k reported in (now.0, now.1, tt) }

counted_fits : (counting : Counting) (x : Part) (charge : Charge) (n : ℕ) → CountedFits counting x (counted counting x charge n)
counted_fits Uncounted x charge n = part_same Uncounted x
counted_fits (Metered most) x charge n = ended_fits most x (charge_one most x.account charge n) (charge_fits most x.account charge n)
counted_fits (Accounted most) x charge n = thrown_fits most x (charge_one most x.account charge n) (charge_reported most x.account charge n)

keeps_fit : (counting : Counting) (x : Part) (object : ℕ) (m : Making) → MakingFits counting x m → Fits counting x (keeps_made object m)
keeps_fit counting x object (Made y r) fits =
    let set = fields_fit y object (values.Ref r ∷ []) in go_plain counting x y _ fits set.0 set.1 tt
keeps_fit counting x object (NotMade e) fits = fits

raises_fit : (counting : Counting) (x y : Part) (raised : Option Raised) → SetFits x y → Fits counting x (raises_after y raised)
raises_fit counting x y None set = simple counting x _ set.0 set.1 tt
raises_fit counting x y (Some raised) set = simple counting x _ set.0 set.1 tt

perform_fits : (prefix : Prefix) (terms : Terms) (x : Part) (a : Answer) → Fits terms.counting x (perform prefix terms x a)
unfolding perform
perform_fits prefix terms x (Returns result) = simple terms.counting x _ (grows_same x.heap) refl tt
perform_fits prefix terms x (Raises raised) = simple terms.counting x _ (grows_same x.heap) refl tt
perform_fits prefix terms x (MakesText units) = returns_fit terms.counting x _
    (making_then_fits terms.counting terms.limit x (text_object prefix units) _ (counted_fits terms.counting x charges.Alloc (object_size (text_object prefix units))))
perform_fits prefix terms x (KeepsText object units) = keeps_fit terms.counting x object _
    (making_then_fits terms.counting terms.limit x (text_object prefix units) _ (counted_fits terms.counting x charges.Alloc (object_size (text_object prefix units))))
perform_fits prefix terms x (MakesChars units) = returns_fit terms.counting x _
    (making_then_fits terms.counting terms.limit x (chars_object units) _ (counted_fits terms.counting x charges.Alloc (object_size (chars_object units))))
perform_fits prefix terms x (SetsFields object vs) = let set = fields_fit x object vs in simple terms.counting x _ set.0 set.1 tt
perform_fits prefix terms x (SetsElements array contents raised) = raises_fit terms.counting x (set_elements x array contents) raised (elements_fit x array contents)
perform_fits prefix terms x (Adds charge n) = goes_fit terms.counting x _ (counted_fits terms.counting x charge n)
perform_fits prefix terms x (Rethrows object) = either_way (λ (flow : Flow). Fits terms.counting x (record { part = x; flow = flow }))
    (is_stop prefix (class_at_number x.heap object)) _ _ (simple terms.counting x _ (grows_same x.heap) refl tt) (simple terms.counting x _ (grows_same x.heap) refl tt)

module _ (program : Program) (prefix : Prefix) (terms : Terms) where
  abbrev pub FitsSome : Part → Option Effect → Type 0
  FitsSome x e = IfSome e (Fits terms.counting x)

  same_fits : (x : Part) (e : Effect) → e.part.heap ≡ x.heap → e.part.account ≡ x.account → PlainFlow e.flow → Fits terms.counting x e
  same_fits x e h a plain = simple terms.counting x e (subst (Grows x.heap) (sym h) (grows_same x.heap)) a plain

  answer_fits : (x : Part) (id : NativeId) (args : List Value) (z : Option ℤ) → FitsSome x (with_answer program prefix terms x id args z)
  answer_fits x id args None = tt
  answer_fits x id args (Some z) = perform_fits prefix terms x (host_answer id (seen program prefix x.heap) z args)

  host_fits : (x : Part) (id : NativeId) (args : List Value) (question : Question) (answers : List HostAnswer)
      → FitsSome x (host_asked program prefix terms x id args question answers)
  host_fits x id args question [] = tt
  host_fits x id args question (first ∷ rest) = moved (with_answer program prefix terms (record x { answers = rest }) id args (answered question first))
      (answer_fits (record x { answers = rest }) id args (answered question first)) where
        moved : (e : Option Effect) → FitsSome (record x { answers = rest }) e → FitsSome x e
        moved None k = tt
        moved (Some e) k = record { heap = k.heap; account = k.account }

  asked_fits : (x : Part) (id : NativeId) (args : List Value) (question : Option Question) → FitsSome x (native_asked program prefix terms x id args question)
  asked_fits x id args None = perform_fits prefix terms x (answer id (seen program prefix x.heap) args)
  asked_fits x id args (Some question) = host_fits x id args question x.answers

  native_fits : (x : Part) (id : NativeId) (args : List Value) → FitsSome x (native program prefix terms x id args)
  unfolding native
  native_fits x id args = asked_fits x id args (asks id args)

  -- ---- members

  get_static_fits : (x : Part) (kind : Option Kind) (found : Option FoundField) → FitsSome x (get_static program x kind found)
  get_static_fits x None found = tt
  get_static_fits x (Some kind) None = tt
  get_static_fits x (Some kind) (Some found) = same_fits x _ refl refl tt

  put_static_fits : (x : Part) (kind : Option Kind) (found : Option FoundField) (operands : List Value) → FitsSome x (put_static program x kind found operands)
  put_static_fits x None found operands = tt
  put_static_fits x (Some kind) None operands = tt
  put_static_fits x (Some kind) (Some found) [] = tt
  put_static_fits x (Some kind) (Some found) (v ∷ rest) = either_way (FitsSome x) (is_of_kind kind v) _ _ (same_fits x _ refl refl tt) tt

  get_from_fits : (x : Part) (rest : List Value) (kind : Kind) (place : ℕ) (h : Holder) → Fits terms.counting x (get_from x rest kind place h)
  get_from_fits x rest kind place NullHolder = same_fits x _ refl refl tt
  get_from_fits x rest kind place NoHolder = same_fits x _ refl refl tt
  get_from_fits x rest kind place (Holds class fields) = same_fits x _ refl refl tt

  abbrev HolderThere : Part → ℕ → Holder → Type 0
  HolderThere x r NullHolder = ⊤
  HolderThere x r NoHolder = ⊤
  HolderThere x r (Holds class fields) = object_at x.heap.objects r ≡ Some (Instance class fields)

  holder_there : (x : Part) (declaring : Name) (r : ℕ) → HolderThere x r (holder_at program prefix declaring x.heap r)
  holder_there x declaring r = either_way (HolderThere x r) (nat_eq r 0) _ _ tt (go (object_at x.heap.objects r) refl) where
    go : (o : Option (Object Ty)) → object_at x.heap.objects r ≡ o → HolderThere x r (holder_in program prefix declaring o)
    go None e = tt
    go (Some (Instance class fields)) e = either_way (HolderThere x r) (is_among (chain program (member_class prefix class)) declaring) _ _ e tt
    go (Some (Array class element contents)) e = tt
    go (Some (Text class units)) e = tt

  put_in_fits : (x : Part) (rest : List Value) (place r : ℕ) (v : Value) (h : Holder) → HolderThere x r h → Fits terms.counting x (put_in x rest place r v h)
  put_in_fits x rest place r v NullHolder k = same_fits x _ refl refl tt
  put_in_fits x rest place r v NoHolder k = same_fits x _ refl refl tt
  put_in_fits x rest place r v (Holds class fields) k = simple terms.counting x _
      (grows_set x.heap r (Instance class fields) (Instance class (set fields place (field_bits v))) k (same_fields class _ fields (length-set fields place (field_bits v)))) refl tt

  get_field_fits : (x : Part) (kind : Option Kind) (found : Option FoundField) (operands : List Value) → FitsSome x (get_field program prefix x kind found operands)
  get_field_fits x (Some kind) (Some found) (values.Ref r ∷ rest) = get_from_fits x rest kind (place_of program found) (holder_at program prefix found.class x.heap r)
  get_field_fits x (Some kind) (Some found) _ = tt
  get_field_fits x (Some kind) None operands = tt
  get_field_fits x None found operands = tt

  put_field_fits : (x : Part) (kind : Option Kind) (found : Option FoundField) (operands : List Value) → FitsSome x (put_field program prefix x kind found operands)
  put_field_fits x (Some kind) (Some found) (v ∷ (values.Ref r ∷ rest)) = either_way (FitsSome x) (is_of_kind kind v) _ _
      (put_in_fits x rest (place_of program found) r v (holder_at program prefix found.class x.heap r) (holder_there x found.class r)) tt
  put_field_fits x (Some kind) (Some found) _ = tt
  put_field_fits x (Some kind) None operands = tt
  put_field_fits x None found operands = tt

  pub kept_fits : (limit : Option ℕ) (heap : Heap Ty) (literals : List Literal) (units : List ℕ) → IfSome (with_literal limit prefix heap literals units) (λ k. Grows heap k.heap)
  unfolding with_literal
  kept_fits limit heap literals units = go (literal_in literals units) where
    go : (r : Option ℕ) → IfSome (kept_or_made limit prefix heap literals units r) (λ k. Grows heap k.heap)
    go (Some r) = grows_same heap
    go None = either_way (λ (k : Option Kept). IfSome k (λ k. Grows heap k.heap)) (passes_limit limit (heap.used + text_size units)) _ _ tt
        (grows_new heap (text_object prefix units))

  push_fits : (x : Part) (units : List ℕ) (k : Option Kept) → IfSome k (λ k. Grows x.heap k.heap) → Fits terms.counting x (push_kept x units k)
  push_fits x units None g = same_fits x _ refl refl tt
  push_fits x units (Some k) g = simple terms.counting x _ g refl tt

  cast_fits : (x : Part) (class : Ty) (operands : List Value) → FitsSome x (check_cast program prefix x class operands)
  cast_fits x class (values.Ref r ∷ rest) =
      either_way (Fits terms.counting x) (is_instance program prefix x.heap r class) _ _ (same_fits x _ refl refl tt) (same_fits x _ refl refl tt)
  cast_fits x class _ = tt

  instance_of_fits : (x : Part) (class : Ty) (operands : List Value) → FitsSome x (instance_of program prefix x class operands)
  instance_of_fits x class (values.Ref r ∷ rest) = same_fits x _ refl refl tt
  instance_of_fits x class _ = tt

  throw_fits : (x : Part) (operands : List Value) → FitsSome x (throw_top program prefix x operands)
  throw_fits x (values.Ref r ∷ rest) =
      either_way (Fits terms.counting x) (nat_eq r 0) _ _ (same_fits x _ refl refl tt)
      (either_way (Fits terms.counting x) (is_instance program prefix x.heap r (class_type (throwable_name prefix))) _ _ (same_fits x _ refl refl tt) (same_fits x _ refl refl tt))
  throw_fits x _ = tt

  body_fits : (x : Part) (found : FoundMethod) (receiver args : List Value) (types : List Ty) (body : Body)
      → FitsSome x (run_body program prefix terms x found receiver args types body)
  body_fits x found receiver args types Abstract = same_fits x _ refl refl tt
  body_fits x found receiver args types (Runs code) = same_fits x _ refl refl tt
  body_fits x found receiver args types (Native id) =
      either_way (FitsSome x) (are_instances program prefix x.heap types args) _ _ (native_fits x id (receiver ++ args)) (same_fits x _ refl refl tt)

  run_fits : (x : Part) (receiver args : List Value) (types : List Ty) (found : Option FoundMethod)
      → FitsSome x (run_method program prefix terms x receiver args types found)
  run_fits x receiver args types None = same_fits x _ refl refl tt
  run_fits x receiver args types (Some found) = body_fits x found receiver args types found.method.body

  received_fits : (x : Part) (r : ℕ) (declaring : Name) (e : Option Effect) → FitsSome x e → FitsSome x (received program prefix x r declaring e)
  received_fits x r declaring e k =
      either_way (FitsSome x) (nat_eq r 0) _ _ (same_fits x _ refl refl tt)
      (either_way (FitsSome x) (is_instance program prefix x.heap r (class_type declaring)) _ _ k (same_fits x _ refl refl tt))

  -- what was taken from the operands doesn't matter
  taken_fits : (x : Part) (rest : List Value) (e : Option Effect) → FitsSome (record x { operands = rest }) e → FitsSome x e
  taken_fits x rest None k = tt
  taken_fits x rest (Some e) k = record { heap = k.heap; account = k.account }

  call_fits : (own : Name) (mode : Mode) (x : Part) (resolved : FoundMethod) (types : List Ty) (args rest : List Value)
      → FitsSome x (call program prefix terms own mode x resolved types args rest)
  call_fits own Static x resolved types args rest = taken_fits x rest _ (run_fits (record x { operands = rest }) [] args types (Some resolved))
  call_fits own Special x resolved types args (values.Ref r ∷ rest) =
      taken_fits x rest _ (received_fits (record x { operands = rest }) r (asked_class resolved (special_method program own resolved)) _
      (run_fits (record x { operands = rest }) (values.Ref r ∷ []) args types (special_method program own resolved)))
  call_fits own Virtual x resolved types args (values.Ref r ∷ rest) =
      taken_fits x rest _ (received_fits (record x { operands = rest }) r resolved.class _
      (run_fits (record x { operands = rest }) (values.Ref r ∷ []) args types (select program prefix resolved (class_at_number x.heap r))))
  call_fits own (Interface count) x resolved types args (values.Ref r ∷ rest) =
      taken_fits x rest _ (received_fits (record x { operands = rest }) r resolved.class _
      (run_fits (record x { operands = rest }) (values.Ref r ∷ []) args types (select program prefix resolved (class_at_number x.heap r))))
  call_fits own mode x resolved types args _ = tt

  call_with_fits : (own : Name) (mode : Mode) (desc : Desc) (x : Part) (found : Option FoundMethod) (a : Option Arguments)
      → FitsSome x (call_with program prefix terms own mode desc x found a)
  call_with_fits own mode desc x None a = tt
  call_with_fits own mode desc x (Some resolved) None = tt
  call_with_fits own mode desc x (Some resolved) (Some a) = call_fits own mode x resolved (parameters_of desc) a.values a.rest

  invoke_fits : (own : Name) (mode : Mode) (m : Member) (x : Part) → FitsSome x (invoke program prefix terms own mode m x)
  unfolding invoke
  invoke_fits own mode m x = call_with_fits own mode m.desc x (resolve_method program prefix m) (arguments_of (kinds_of (parameters_of m.desc)) x.operands)

  -- ---- every family

  pub effect_fits : (own : Name) (i : Instruction) (x : Part) → FitsSome x (effect program prefix terms own i x)
  unfolding effect
  effect_fits own (PushText units) x = push_fits x units (with_literal terms.limit prefix x.heap x.literals units) (kept_fits terms.limit x.heap x.literals units)
  effect_fits own (LoadElement access) x = heap_fits terms.counting x _ (load_fits access x.heap x.operands)
  effect_fits own (StoreElement access) x = heap_fits terms.counting x _ (store_fits (takes program prefix x.heap) access x.heap x.operands)
  effect_fits own (GetStatic m) x = get_static_fits x (field_kind m.desc) (resolve_field program prefix m)
  effect_fits own (PutStatic m) x = put_static_fits x (field_kind m.desc) (resolve_field program prefix m) x.operands
  effect_fits own (GetField m) x = get_field_fits x (field_kind m.desc) (resolve_field program prefix m) x.operands
  effect_fits own (PutField m) x = put_field_fits x (field_kind m.desc) (resolve_field program prefix m) x.operands
  effect_fits own (Invoke mode m) x = invoke_fits own mode m x
  effect_fits own (New class) x = heap_fits terms.counting x (Some (make terms.limit x.heap x.operands x.operands (new_object program prefix class)))
      (make_fits terms.limit x.heap x.operands x.operands (new_object program prefix class))
  effect_fits own (NewArray class element) x = heap_fits terms.counting x _ (make_array_fits terms.limit class element x.heap x.operands)
  effect_fits own ArrayLength x = heap_fits terms.counting x _ (length_fits x.heap x.operands)
  effect_fits own Throw x = throw_fits x x.operands
  effect_fits own (CheckCast class) x = cast_fits x class x.operands
  effect_fits own (InstanceOf class) x = instance_of_fits x class x.operands
  effect_fits own Nop x = values_fit terms.counting x _
  effect_fits own (Push v) x = values_fit terms.counting x _
  effect_fits own (Load kind slot) x = values_fit terms.counting x _
  effect_fits own (Store kind slot) x = values_fit terms.counting x _
  effect_fits own (Increment slot by) x = values_fit terms.counting x _
  effect_fits own (Move operation) x = values_fit terms.counting x _
  effect_fits own (Compute operation) x = values_fit terms.counting x _
  effect_fits own (Convert operation) x = values_fit terms.counting x _
  effect_fits own (Branch test target) x = values_fit terms.counting x _
  effect_fits own (Goto target) x = values_fit terms.counting x _
  effect_fits own (Switch pairs default) x = values_fit terms.counting x _
  effect_fits own (Return kind) x = values_fit terms.counting x _
  effect_fits own Monitor x = values_fit terms.counting x _
  effect_fits own (Other op named) x = values_fit terms.counting x _
