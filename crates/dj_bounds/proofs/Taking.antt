-- The bytes that each instruction takes: those of literals, and those that were paid.
use Rattle.std.proofs.Common.{◌≡◌, ℕ, ◌+◌, ◌≤◌, ◌⊎◌, Bool, true, false, ℤ, pos, negsuc, List, [], ◌∷◌, ◌++◌, length, replicate, Option, Some, None, nat_eq, nat_lt, refl, sym, ap, subst, ◌∙◌, inl, inr, arith, if◌then◌else◌}
use Rattle.std.specs.Prelude.{⊤, IfSome}
use Rattle.std.specs.Option.{option_map}
use Rattle.std.proofs.lemmas.List.{length-replicate}
use Rattle.std.proofs.lemmas.Bool.Decides.{nat_tests}
use Rattle.dj_names.specs.declared.descriptor.Kind.{Kind}
use Rattle.dj_names.specs.declared.descriptor.Ty.{Ty}
use Rattle.dj_names.specs.declared.run.Outcome.TheVariants as outcomes
use Rattle.dj_names.specs.declared.run.Value.{Value}
use Rattle.dj_names.specs.declared.run.Value.TheVariants as values
use Rattle.dj_names.specs.declared.run.Raised.{Raised}
use Rattle.dj_names.specs.declared.run.Element.{Element}
use Rattle.dj_names.specs.declared.run.Charge.{Charge}
use Rattle.dj_names.specs.declared.run.Charge.TheVariants as charges
use Rattle.dj_names.specs.declared.run.Thresholds.{Thresholds}
use Rattle.dj_names.specs.declared.native.NativeId.{NativeId}
use Rattle.dj_names.specs.trusted.Heaps.{Object, Instance, Array, Text, Heap, object_at, object_size, array_size, instance_size, text_size, element_at, with_element, kept, value_number}
use Rattle.dj_names.specs.trusted.Types.{Name, class_type, parameters_of, field_kind}
use Rattle.dj_edge.specs.declared.host.HostAnswer.{HostAnswer}
use Rattle.dj_model.specs.trusted.Types.{Prefix, Member, throwable_name, is_stop}
use Rattle.dj_model.specs.trusted.Instructions.{Access, Mode, Virtual, Special, Static, Interface, Instruction, Nop, Push, PushText, Load, Store, Increment, LoadElement, StoreElement, Move, Compute, Convert, Branch, Goto, Switch, Return, GetStatic, PutStatic, GetField, PutField, Invoke, New, NewArray, ArrayLength, Throw, CheckCast, InstanceOf, Monitor, Other}
use Rattle.dj_model.specs.trusted.Numbers.{is_of_kind}
use Rattle.dj_model.specs.trusted.Program.{Program, Body, Abstract, Native, Runs}
use Rattle.dj_model.specs.trusted.Linking.{member_class, field_count, FoundMethod, FoundField, resolve_method, resolve_field, select, special_method, place_of}
use Rattle.dj_model.specs.trusted.State.{Terms, Counting, Uncounted, Metered, Accounted, Literal, Account, Part, Next, Flow, Goes, Stop, Effect, goes, End}
use Rattle.dj_model.specs.trusted.Values.{Values}
use Rattle.dj_model.specs.trusted.Charging.{Charged, Fine, Over, passes, added, charge_after, charge_one}
use Rattle.dj_model.specs.trusted.Arrays.{OnHeap, Found, Null, NoArray, IsArray, array_at, only, access_kind, load_at, load_from, store_at, store_in, is_taken, length_of, load_element, store_element, array_length, make, make_elements, make_array, passes_limit}
use Rattle.dj_model.specs.trusted.Natives.{Answer, Returns, Raises, MakesText, KeepsText, MakesChars, SetsFields, SetsElements, Adds, Rethrows, Question, asks, answered, answer, host_answer}
use Rattle.dj_model.specs.trusted.Performing.{class_at_number, is_instance, takes, seen, ended_by, thrown_by, counted, Making, Made, NotMade, making_then, text_object, chars_object, with_fields_in, with_elements_in, set_object, set_fields, set_elements, raises_after, returns_made, keeps_made, goes_on, perform, with_answer, host_asked, native_asked, native}
use Rattle.dj_model.specs.trusted.Members.{get_static, put_static, Holder, NullHolder, NoHolder, Holds, holder_at, get_from, put_in, get_field, put_field, Kept, kept_or_made, literal_in, with_literal, push_kept, check_cast, instance_of, throw_top, kinds_of, Arguments, arguments_of, are_instances, run_body, run_method, received, asked_class, call, call_with, invoke}
use Rattle.dj_model.specs.trusted.Effects.{values_effect, flow_of, heap_effect, new_object, effect}
use Rattle.dj_model.specs.Effects.{array_charge, pays}
use Rattle.dj_model.proofs.Flows.{either_way}
use Rattle.dj_bounds.specs.Bytes.{alloc_of, literal_bytes}

-- the object that stops a run isn't thrown
abbrev pub NotStopped : Flow → Type 0
NotStopped Stop = ⊥
NotStopped flow = ⊤

-- in a metered run these bytes were paid before, or are charged now and within the threshold
abbrev pub Covers : Counting → ℕ → Account → Account → Flow → ℕ → Type 0
Covers Uncounted paid before after flow made = ⊤
Covers (Accounted most) paid before after flow made = ⊤
Covers (Metered most) paid before after flow made = NotStopped flow
    × (((made ≤ paid) × (before.costs.alloc ≤ after.costs.alloc)) ⊎ ((made + before.costs.alloc ≤ after.costs.alloc) × (after.costs.alloc ≤ most.alloc)))

-- the text that an instruction pushes
abbrev pub text_of : Instruction → Option (List ℕ)
text_of (PushText units) = Some units
text_of i = None

-- no other literal is made, and this one only where there was none of its text
abbrev pub NewText : Option (List ℕ) → List Literal → List Literal → Type 0
NewText None before after = after ≡ before
NewText (Some units) before after = (after ≡ before) ⊎ ((object : ℕ) × (literal_in before units ≡ None) × (after ≡ before ++ record { units = units; object = object } ∷ []))

-- so many bytes are taken beside those of literals
pub record Takes (counting : Counting) (text : Option (List ℕ)) (paid : ℕ) (x : Part) (e : Effect) : Type 0 where
  pub made : ℕ
  pub bytes : e.part.heap.used + literal_bytes x.literals ≡ x.heap.used + literal_bytes e.part.literals + made
  pub covered : Covers counting paid x.account e.part.account e.flow made
  pub texts : NewText text x.literals e.part.literals

module _ (counting : Counting) where
  abbrev TakesSome : ℕ → Part → Option Effect → Type 0
  TakesSome paid x o = IfSome o (Takes counting None paid x)

  paid_before : (paid : ℕ) (a b : Account) (flow : Flow) (made : ℕ) → NotStopped flow → made ≤ paid → a.costs.alloc ≤ b.costs.alloc → Covers counting paid a b flow made
  paid_before paid a b flow made plain within less = by counting where
    by : (c : Counting) → Covers c paid a b flow made
    by Uncounted = tt
    by (Accounted most) = tt
    by (Metered most) = (plain, inl (within, less))

  -- nothing is taken
  quiet : (paid : ℕ) (x : Part) (e : Effect) → e.part.heap.used ≡ x.heap.used → e.part.literals ≡ x.literals → e.part.account ≡ x.account → NotStopped e.flow → Takes counting None paid x e
  quiet paid x e used literals account plain = record {
    made = 0;
    bytes = omega (arith, used, ap literal_bytes literals);
    covered = paid_before paid x.account e.part.account e.flow 0 plain (omega arith) (omega (arith, ap (λ (a : Account). a.costs.alloc) account));
    texts = literals;
  }

  -- ---- arrays

  abbrev HeapQuiet : Heap Ty → OnHeap Ty → Type 0
  HeapQuiet heap e = (e.heap.used ≡ heap.used) × NotStopped (flow_of e.result)

  values_take : (x : Part) (v : Option Values) → TakesSome 0 x (option_map (values_effect x) v)
  values_take x None = tt
  values_take x (Some v) = quiet 0 x (values_effect x v) refl refl refl tt

  heap_takes : (x : Part) (o : Option (OnHeap Ty)) → IfSome o (HeapQuiet x.heap) → TakesSome 0 x (option_map (heap_effect x) o)
  heap_takes x None k = tt
  heap_takes x (Some e) k = quiet 0 x (heap_effect x e) k.0 refl refl k.1

  load_at_quiet : (heap : Heap Ty) (operands rest : List Value) (element : Element) (z : Option ℤ) → HeapQuiet heap (load_at heap operands rest element z)
  load_at_quiet heap operands rest element None = (refl, tt)
  load_at_quiet heap operands rest element (Some z) = (refl, tt)

  load_from_quiet : (heap : Heap Ty) (operands rest : List Value) (index : ℤ) (found : Found Ty) → HeapQuiet heap (load_from heap operands rest index found)
  load_from_quiet heap operands rest index Null = (refl, tt)
  load_from_quiet heap operands rest index NoArray = (refl, tt)
  load_from_quiet heap operands rest index (IsArray class element contents) = load_at_quiet heap operands rest element (element_at contents index)

  load_quiet : (access : Access) (heap : Heap Ty) (operands : List Value) → IfSome (load_element access heap operands) (HeapQuiet heap)
  unfolding load_element
  load_quiet access heap (values.Int index ∷ (values.Ref r ∷ rest)) = load_from_quiet heap (values.Int index ∷ (values.Ref r ∷ rest)) rest index (only access (array_at heap r))
  load_quiet access heap _ = tt

  store_at_quiet : (heap : Heap Ty) (operands rest : List Value) (r : ℕ) (now : Object Ty) (z : Option ℤ) (takes : Bool) → HeapQuiet heap (store_at heap operands rest r now z takes)
  store_at_quiet heap operands rest r now None takes = (refl, tt)
  store_at_quiet heap operands rest r now (Some z) true = (refl, tt)
  store_at_quiet heap operands rest r now (Some z) false = (refl, tt)

  store_in_quiet : (heap : Heap Ty) (operands rest : List Value) (r : ℕ) (index : ℤ) (v : Value) (takes : Bool) (found : Found Ty) → HeapQuiet heap (store_in heap operands rest r index v takes found)
  store_in_quiet heap operands rest r index v takes Null = (refl, tt)
  store_in_quiet heap operands rest r index v takes NoArray = (refl, tt)
  store_in_quiet heap operands rest r index v takes (IsArray class element contents) =
      store_at_quiet heap operands rest r (Array class element (with_element contents index (kept element (value_number v)))) (element_at contents index) takes

  store_quiet : (takes : ℕ → ℕ → Bool) (access : Access) (heap : Heap Ty) (operands : List Value) → IfSome (store_element takes access heap operands) (HeapQuiet heap)
  unfolding store_element
  store_quiet takes access heap (v ∷ (values.Int index ∷ (values.Ref r ∷ rest))) = either_way (λ (e : Option (OnHeap Ty)). IfSome e (HeapQuiet heap)) (is_of_kind (access_kind access) v) _ _
      (store_in_quiet heap (v ∷ (values.Int index ∷ (values.Ref r ∷ rest))) rest r index v (is_taken takes r v) (only access (array_at heap r))) tt
  store_quiet takes access heap _ = tt

  length_of_quiet : (heap : Heap Ty) (operands rest : List Value) (found : Found Ty) → HeapQuiet heap (length_of heap operands rest found)
  length_of_quiet heap operands rest Null = (refl, tt)
  length_of_quiet heap operands rest NoArray = (refl, tt)
  length_of_quiet heap operands rest (IsArray class element contents) = (refl, tt)

  length_quiet : (heap : Heap Ty) (operands : List Value) → IfSome (array_length heap operands) (HeapQuiet heap)
  unfolding array_length
  length_quiet heap (values.Ref r ∷ rest) = length_of_quiet heap (values.Ref r ∷ rest) rest (array_at heap r)
  length_quiet heap _ = tt

  -- ---- natives

  -- the parts that a changed object leaves as they are
  abbrev SameBytes : Part → Part → Type 0
  SameBytes x y = (y.heap.used ≡ x.heap.used) × (y.literals ≡ x.literals) × (y.account ≡ x.account)

  fields_same : (x : Part) (r : ℕ) (vs : List Value) → SameBytes x (set_fields x r vs)
  fields_same x r vs = go (object_at x.heap.objects r) where
    go : (o : Option (Object Ty)) → SameBytes x (set_object x r (with_fields_in o vs))
    go None = (refl, refl, refl)
    go (Some (Instance class fields)) = (refl, refl, refl)
    go (Some (Array class element contents)) = (refl, refl, refl)
    go (Some (Text class units)) = (refl, refl, refl)

  elements_same : (x : Part) (r : ℕ) (now : List ℤ) → SameBytes x (set_elements x r now)
  elements_same x r now = go (object_at x.heap.objects r) where
    go : (o : Option (Object Ty)) → SameBytes x (set_object x r (with_elements_in o now))
    go None = (refl, refl, refl)
    go (Some (Instance class fields)) = (refl, refl, refl)
    go (Some (Array class element contents)) = either_way (λ (o : Option (Object Ty)). SameBytes x (set_object x r o)) (nat_eq (length now) (length contents)) _ _ (refl, refl, refl) (refl, refl, refl)
    go (Some (Text class units)) = (refl, refl, refl)

  raises_take : (x y : Part) (raised : Option Raised) → SameBytes x y → Takes counting None 0 x (raises_after y raised)
  raises_take x y None k = quiet 0 x _ k.0 k.1 k.2 tt
  raises_take x y (Some raised) k = quiet 0 x _ k.0 k.1 k.2 tt

  -- a charge, and what it leads to
  abbrev ChargesSo : Thresholds → Account → ℕ → Charged → Type 0
  ChargesSo most a n (Fine b) = (n + a.costs.alloc ≤ b.costs.alloc) × (b.costs.alloc ≤ most.alloc)
  ChargesSo most a n (Over charge b) = a.costs.alloc ≤ b.costs.alloc

  charges_so : (most : Thresholds) (a : Account) (n : ℕ) → ChargesSo most a n (charge_one most a charges.Alloc n)
  unfolding charge_one
  charges_so most a n = go a.exceeded where
    test : (b : Bool) → nat_lt most.alloc (a.costs.alloc + n) ≡ b → ChargesSo most a n (if b then Over charges.Alloc (record { costs = added a.costs charges.Alloc n; exceeded = Some charges.Alloc }) else Fine (record { costs = added a.costs charges.Alloc n; exceeded = None }))
    test true e = omega arith
    test false e = (omega arith, grind (arith, nat_tests, e))

    go : (before : Option Charge) → ChargesSo most a n (charge_after most a charges.Alloc n before)
    go None = test (nat_lt most.alloc (a.costs.alloc + n)) refl
    go (Some before) = omega arith

  abbrev Rises : Account → Charged → Type 0
  Rises a (Fine b) = a.costs.alloc ≤ b.costs.alloc
  Rises a (Over charge b) = a.costs.alloc ≤ b.costs.alloc

  added_rises : (c : Charge) (a : Account) (n : ℕ) → a.costs.alloc ≤ (added a.costs c n).alloc
  added_rises charges.Alloc a n = omega arith
  added_rises charges.Invoke a n = omega arith
  added_rises charges.Jump a n = omega arith
  added_rises charges.Throw a n = omega arith

  rises : (most : Thresholds) (a : Account) (charge : Charge) (n : ℕ) → Rises a (charge_one most a charge n)
  unfolding charge_one
  rises most a charge n = go a.exceeded where
    go : (before : Option Charge) → Rises a (charge_after most a charge n before)
    go None = either_way (Rises a) (passes most (added a.costs charge n) charge) _ _ (added_rises charge a n) (added_rises charge a n)
    go (Some before) = omega arith

  -- what is made took so many bytes, which were charged
  abbrev MakesSo : ℕ → Part → Making → Type 0
  MakesSo size x (Made y r) = (y.heap.used ≡ x.heap.used + size) × (y.literals ≡ x.literals) × ((flow : Flow) → NotStopped flow → Covers counting 0 x.account y.account flow size)
  MakesSo size x (NotMade e) = Takes counting None 0 x e

  returns_take : (size : ℕ) (x : Part) (m : Making) → MakesSo size x m → Takes counting None 0 x (returns_made m)
  returns_take size x (Made y r) k = record { made = size; bytes = omega (arith, k.0, ap literal_bytes k.1); covered = k.2 (Goes Next) tt; texts = k.1 }
  returns_take size x (NotMade e) k = k

  keeps_take : (size : ℕ) (x : Part) (object : ℕ) (m : Making) → MakesSo size x m → Takes counting None 0 x (keeps_made object m)
  keeps_take size x object (Made y r) k =
      let set = fields_same y object (values.Ref r ∷ []) in
      record {
        made = size;
        bytes = omega (arith, k.0, set.0, ap literal_bytes (set.1 ∙ k.1));
        covered = subst (λ (a : Account). Covers counting 0 x.account a (Goes Next) size) (sym set.2) (k.2 (Goes Next) tt);
        texts = set.1 ∙ k.1;
      }
  keeps_take size x object (NotMade e) k = k

-- by who counts
counted_makes : (counting : Counting) (limit : Option ℕ) (x : Part) (o : Object Ty) → MakesSo counting (object_size o) x (making_then limit o (counted counting x charges.Alloc (object_size o)))
counted_makes Uncounted limit x o = either_way (MakesSo Uncounted (object_size o) x) (passes_limit limit (x.heap.used + object_size o)) _ _ (quiet Uncounted 0 x _ refl refl refl tt) (refl, refl, λ flow plain. tt)
counted_makes (Accounted most) limit x o = go (charge_one most x.account charges.Alloc (object_size o)) where
  go : (c : Charged) → MakesSo (Accounted most) (object_size o) x (making_then limit o (thrown_by x c))
  go (Fine account) = either_way (MakesSo (Accounted most) (object_size o) x) (passes_limit limit (x.heap.used + object_size o)) _ _
      (record { made = 0; bytes = omega arith; covered = tt; texts = refl }) (refl, refl, λ flow plain. tt)
  go (Over charge account) = record { made = 0; bytes = omega arith; covered = tt; texts = refl }
counted_makes (Metered most) limit x o = go (charge_one most x.account charges.Alloc (object_size o)) (charges_so (Metered most) most x.account (object_size o)) where
  go : (c : Charged) → ChargesSo (Metered most) most x.account (object_size o) c → MakesSo (Metered most) (object_size o) x (making_then limit o (ended_by x c))
  go (Fine account) k = either_way (MakesSo (Metered most) (object_size o) x) (passes_limit limit (x.heap.used + object_size o)) _ _
      (record { made = 0; bytes = omega arith; covered = (tt, inl (omega arith, omega (arith, k.0))); texts = refl }) (refl, refl, λ flow plain. (plain, inr k))
  go (Over charge account) k = record { made = 0; bytes = omega arith; covered = (tt, inl (omega arith, k)); texts = refl }

counted_goes : (counting : Counting) (x : Part) (charge : Charge) (n : ℕ) → Takes counting None 0 x (goes_on (counted counting x charge n))
counted_goes Uncounted x charge n = quiet Uncounted 0 x _ refl refl refl tt
counted_goes (Accounted most) x charge n = go (charge_one most x.account charge n) where
  go : (c : Charged) → Takes (Accounted most) None 0 x (goes_on (thrown_by x c))
  go (Fine account) = record { made = 0; bytes = omega arith; covered = tt; texts = refl }
  go (Over over account) = record { made = 0; bytes = omega arith; covered = tt; texts = refl }
counted_goes (Metered most) x charge n = go (charge_one most x.account charge n) (rises (Metered most) most x.account charge n) where
  go : (c : Charged) → Rises (Metered most) x.account c → Takes (Metered most) None 0 x (goes_on (ended_by x c))
  go (Fine account) k = record { made = 0; bytes = omega arith; covered = (tt, inl (omega arith, k)); texts = refl }
  go (Over over account) k = record { made = 0; bytes = omega arith; covered = (tt, inl (omega arith, k)); texts = refl }

literals_append : (a b : List Literal) → literal_bytes (a ++ b) ≡ literal_bytes a + literal_bytes b
literals_append [] b = omega arith
literals_append (l ∷ a) b = omega (arith, literals_append a b)

module _ (program : Program) (prefix : Prefix) (terms : Terms) where
  abbrev Taken : ℕ → Part → Option Effect → Type 0
  Taken paid x o = IfSome o (Takes terms.counting None paid x)

  quiets : (x : Part) (e : Effect) → e.part.heap.used ≡ x.heap.used → e.part.literals ≡ x.literals → e.part.account ≡ x.account → NotStopped e.flow → Takes terms.counting None 0 x e
  quiets x e used literals account plain = quiet terms.counting 0 x e used literals account plain

  performs : (x : Part) (a : Answer) → Takes terms.counting None 0 x (perform prefix terms x a)
  unfolding perform
  performs x (Returns result) = quiets x _ refl refl refl tt
  performs x (Raises raised) = quiets x _ refl refl refl tt
  performs x (MakesText units) = returns_take terms.counting (object_size (text_object prefix units)) x _ (counted_makes terms.counting terms.limit x (text_object prefix units))
  performs x (KeepsText object units) = keeps_take terms.counting (object_size (text_object prefix units)) x object _ (counted_makes terms.counting terms.limit x (text_object prefix units))
  performs x (MakesChars units) = returns_take terms.counting (object_size (chars_object units)) x _ (counted_makes terms.counting terms.limit x (chars_object units))
  performs x (SetsFields object vs) = let set = fields_same terms.counting x object vs in quiets x _ set.0 set.1 set.2 tt
  performs x (SetsElements array contents raised) = raises_take terms.counting x (set_elements x array contents) raised (elements_same terms.counting x array contents)
  performs x (Adds charge n) = counted_goes terms.counting x charge n
  performs x (Rethrows object) = either_way (λ (flow : Flow). Takes terms.counting None 0 x (goes x flow)) (is_stop prefix (class_at_number x.heap object)) _ _ (quiets x _ refl refl refl tt) (quiets x _ refl refl refl tt)

  answer_takes : (x : Part) (id : NativeId) (args : List Value) (z : Option ℤ) → Taken 0 x (with_answer program prefix terms x id args z)
  answer_takes x id args None = tt
  answer_takes x id args (Some z) = performs x (host_answer id (seen program prefix x.heap) z args)

  moved : (x : Part) (answers : List HostAnswer) (o : Option Effect) → Taken 0 (record x { answers = answers }) o → Taken 0 x o
  moved x answers None k = tt
  moved x answers (Some e) k = record { made = k.made; bytes = k.bytes; covered = k.covered; texts = k.texts }

  host_takes : (x : Part) (id : NativeId) (args : List Value) (question : Question) (answers : List HostAnswer) → Taken 0 x (host_asked program prefix terms x id args question answers)
  host_takes x id args question [] = tt
  host_takes x id args question (first ∷ rest) = moved x rest (with_answer program prefix terms (record x { answers = rest }) id args (answered question first))
      (answer_takes (record x { answers = rest }) id args (answered question first))

  asked_takes : (x : Part) (id : NativeId) (args : List Value) (question : Option Question) → Taken 0 x (native_asked program prefix terms x id args question)
  asked_takes x id args None = performs x (answer id (seen program prefix x.heap) args)
  asked_takes x id args (Some question) = host_takes x id args question x.answers

  native_takes : (x : Part) (id : NativeId) (args : List Value) → Taken 0 x (native program prefix terms x id args)
  unfolding native
  native_takes x id args = asked_takes x id args (asks id args)

  -- ---- members

  get_static_takes : (x : Part) (kind : Option Kind) (found : Option FoundField) → Taken 0 x (get_static program x kind found)
  get_static_takes x None found = tt
  get_static_takes x (Some kind) None = tt
  get_static_takes x (Some kind) (Some found) = quiets x _ refl refl refl tt

  put_static_takes : (x : Part) (kind : Option Kind) (found : Option FoundField) (operands : List Value) → Taken 0 x (put_static program x kind found operands)
  put_static_takes x None found operands = tt
  put_static_takes x (Some kind) None operands = tt
  put_static_takes x (Some kind) (Some found) [] = tt
  put_static_takes x (Some kind) (Some found) (v ∷ rest) = either_way (Taken 0 x) (is_of_kind kind v) _ _ (quiets x _ refl refl refl tt) tt

  get_from_takes : (x : Part) (rest : List Value) (kind : Kind) (place : ℕ) (h : Holder) → Takes terms.counting None 0 x (get_from x rest kind place h)
  get_from_takes x rest kind place NullHolder = quiets x _ refl refl refl tt
  get_from_takes x rest kind place NoHolder = quiets x _ refl refl refl tt
  get_from_takes x rest kind place (Holds class fields) = quiets x _ refl refl refl tt

  put_in_takes : (x : Part) (rest : List Value) (place r : ℕ) (v : Value) (h : Holder) → Takes terms.counting None 0 x (put_in x rest place r v h)
  put_in_takes x rest place r v NullHolder = quiets x _ refl refl refl tt
  put_in_takes x rest place r v NoHolder = quiets x _ refl refl refl tt
  put_in_takes x rest place r v (Holds class fields) = quiets x _ refl refl refl tt

  get_field_takes : (x : Part) (kind : Option Kind) (found : Option FoundField) (operands : List Value) → Taken 0 x (get_field program prefix x kind found operands)
  get_field_takes x (Some kind) (Some found) (values.Ref r ∷ rest) = get_from_takes x rest kind (place_of program found) (holder_at program prefix found.class x.heap r)
  get_field_takes x (Some kind) (Some found) _ = tt
  get_field_takes x (Some kind) None operands = tt
  get_field_takes x None found operands = tt

  put_field_takes : (x : Part) (kind : Option Kind) (found : Option FoundField) (operands : List Value) → Taken 0 x (put_field program prefix x kind found operands)
  put_field_takes x (Some kind) (Some found) (v ∷ (values.Ref r ∷ rest)) = either_way (Taken 0 x) (is_of_kind kind v) _ _
      (put_in_takes x rest (place_of program found) r v (holder_at program prefix found.class x.heap r)) tt
  put_field_takes x (Some kind) (Some found) _ = tt
  put_field_takes x (Some kind) None operands = tt
  put_field_takes x None found operands = tt

  cast_takes : (x : Part) (class : Ty) (operands : List Value) → Taken 0 x (check_cast program prefix x class operands)
  cast_takes x class (values.Ref r ∷ rest) = either_way (Takes terms.counting None 0 x) (is_instance program prefix x.heap r class) _ _ (quiets x _ refl refl refl tt) (quiets x _ refl refl refl tt)
  cast_takes x class _ = tt

  instance_of_takes : (x : Part) (class : Ty) (operands : List Value) → Taken 0 x (instance_of program prefix x class operands)
  instance_of_takes x class (values.Ref r ∷ rest) = quiets x _ refl refl refl tt
  instance_of_takes x class _ = tt

  throw_takes : (x : Part) (operands : List Value) → Taken 0 x (throw_top program prefix x operands)
  throw_takes x (values.Ref r ∷ rest) = either_way (Takes terms.counting None 0 x) (nat_eq r 0) _ _ (quiets x _ refl refl refl tt)
      (either_way (Takes terms.counting None 0 x) (is_instance program prefix x.heap r (class_type (throwable_name prefix))) _ _ (quiets x _ refl refl refl tt) (quiets x _ refl refl refl tt))
  throw_takes x _ = tt

  -- a literal is told by its bytes, and is of a text that had none
  abbrev pub IsKept : List ℕ → Heap Ty → List Literal → Kept → Type 0
  IsKept units heap literals k = (k.heap.used + literal_bytes literals ≡ heap.used + literal_bytes k.literals) × NewText (Some units) literals k.literals

  pub literal_taken : (limit : Option ℕ) (heap : Heap Ty) (literals : List Literal) (units : List ℕ) → IfSome (with_literal limit prefix heap literals units) (IsKept units heap literals)
  unfolding with_literal
  literal_taken limit heap literals units = go (literal_in literals units) refl where
    go : (r : Option ℕ) → literal_in literals units ≡ r → IfSome (kept_or_made limit prefix heap literals units r) (IsKept units heap literals)
    go (Some r) e = (refl, inl refl)
    go None e = either_way (λ (k : Option Kept). IfSome k (IsKept units heap literals)) (passes_limit limit (heap.used + text_size units)) _ _ tt
        (omega (arith, literals_append literals (record { units = units; object = length heap.objects + 1 } ∷ [])), inr (length heap.objects + 1, e, refl))

  text_takes : (x : Part) (units : List ℕ) (k : Option Kept) → IfSome k (IsKept units x.heap x.literals) → Takes terms.counting (Some units) 0 x (push_kept x units k)
  text_takes x units None e = record {
    made = 0;
    bytes = omega arith;
    covered = paid_before terms.counting 0 x.account x.account (End (outcomes.HeapFull x.heap.used (text_size units))) 0 tt (omega arith) (omega arith);
    texts = inl refl;
  }
  text_takes x units (Some k) e = record {
    made = 0;
    bytes = omega (arith, e.0);
    covered = paid_before terms.counting 0 x.account x.account (Goes Next) 0 tt (omega arith) (omega arith);
    texts = e.1;
  }

  -- ---- calls

  body_takes : (x : Part) (found : FoundMethod) (receiver args : List Value) (types : List Ty) (body : Body) → Taken 0 x (run_body program prefix terms x found receiver args types body)
  body_takes x found receiver args types Abstract = quiets x _ refl refl refl tt
  body_takes x found receiver args types (Runs code) = quiets x _ refl refl refl tt
  body_takes x found receiver args types (Native id) = either_way (Taken 0 x) (are_instances program prefix x.heap types args) _ _ (native_takes x id (receiver ++ args)) (quiets x _ refl refl refl tt)

  method_takes : (x : Part) (receiver args : List Value) (types : List Ty) (found : Option FoundMethod) → Taken 0 x (run_method program prefix terms x receiver args types found)
  method_takes x receiver args types None = quiets x _ refl refl refl tt
  method_takes x receiver args types (Some found) = body_takes x found receiver args types found.method.body

  received_takes : (x : Part) (r : ℕ) (declaring : Name) (o : Option Effect) → Taken 0 x o → Taken 0 x (received program prefix x r declaring o)
  received_takes x r declaring o k = either_way (Taken 0 x) (nat_eq r 0) _ _ (quiets x _ refl refl refl tt)
      (either_way (Taken 0 x) (is_instance program prefix x.heap r (class_type declaring)) _ _ k (quiets x _ refl refl refl tt))

  below_arguments : (x : Part) (rest : List Value) (o : Option Effect) → Taken 0 (record x { operands = rest }) o → Taken 0 x o
  below_arguments x rest None k = tt
  below_arguments x rest (Some e) k = record { made = k.made; bytes = k.bytes; covered = k.covered; texts = k.texts }

  call_takes : (own : Name) (mode : Mode) (x : Part) (resolved : FoundMethod) (types : List Ty) (args rest : List Value) → Taken 0 x (call program prefix terms own mode x resolved types args rest)
  call_takes own Static x resolved types args rest = below_arguments x rest _ (method_takes (record x { operands = rest }) [] args types (Some resolved))
  call_takes own Special x resolved types args (values.Ref r ∷ rest) = below_arguments x rest _ (received_takes (record x { operands = rest }) r (asked_class resolved (special_method program own resolved)) _
      (method_takes (record x { operands = rest }) (values.Ref r ∷ []) args types (special_method program own resolved)))
  call_takes own Virtual x resolved types args (values.Ref r ∷ rest) = below_arguments x rest _ (received_takes (record x { operands = rest }) r resolved.class _
      (method_takes (record x { operands = rest }) (values.Ref r ∷ []) args types (select program prefix resolved (class_at_number x.heap r))))
  call_takes own (Interface count) x resolved types args (values.Ref r ∷ rest) = below_arguments x rest _ (received_takes (record x { operands = rest }) r resolved.class _
      (method_takes (record x { operands = rest }) (values.Ref r ∷ []) args types (select program prefix resolved (class_at_number x.heap r))))
  call_takes own mode x resolved types args rest = tt

  invoke_takes : (own : Name) (mode : Mode) (m : Member) (x : Part) → Taken 0 x (invoke program prefix terms own mode m x)
  unfolding invoke
  invoke_takes own mode m x = go (resolve_method program prefix m) (arguments_of (kinds_of (parameters_of m.desc)) x.operands) where
    go : (resolved : Option FoundMethod) (a : Option Arguments) → Taken 0 x (call_with program prefix terms own mode m.desc x resolved a)
    go (Some resolved) (Some a) = call_takes own mode x resolved (parameters_of m.desc) a.values a.rest
    go resolved a = tt

  -- ---- new objects

  makes_object : (x : Part) (o : Object Ty) → Takes terms.counting None (object_size o) x (heap_effect x (make terms.limit x.heap x.operands x.operands o))
  makes_object x o = either_way (λ (e : OnHeap Ty). Takes terms.counting None (object_size o) x (heap_effect x e)) (passes_limit terms.limit (x.heap.used + object_size o)) _ _
      (quiet terms.counting (object_size o) x _ refl refl refl tt)
      (record { made = object_size o; bytes = omega arith; covered = paid_before terms.counting (object_size o) x.account x.account (Goes Next) (object_size o) tt (omega arith) (omega arith); texts = refl })

  makes_elements : (x : Part) (full : Bool) (class : Ty) (element : Element) (operands rest : List Value) (n : ℕ)
      → Takes terms.counting None (array_size element n) x (heap_effect x (make_elements full class element x.heap operands rest n))
  makes_elements x true class element operands rest n = quiet terms.counting (array_size element n) x _ refl refl refl tt
  makes_elements x false class element operands rest n =
      let same : array_size element (length (replicate n (pos 0))) ≡ array_size element n = ap (array_size element) (length-replicate n (pos 0)) in
      record {
        made = array_size element (length (replicate n (pos 0)));
        bytes = omega arith;
        covered = paid_before terms.counting (array_size element n) x.account x.account (Goes Next) (array_size element (length (replicate n (pos 0)))) tt (omega (arith, same)) (omega arith);
        texts = refl;
      }

  new_takes : (x : Part) (class : Ty) → Takes terms.counting None (instance_size (field_count program (member_class prefix class)) + 0) x (heap_effect x (make terms.limit x.heap x.operands x.operands (new_object program prefix class)))
  new_takes x class =
      let n : ℕ = field_count program (member_class prefix class) in
      let same : instance_size (length (replicate n 0)) ≡ instance_size n + 0 = ap instance_size (length-replicate n 0) ∙ omega arith in
      subst (λ (size : ℕ). Takes terms.counting None size x (heap_effect x (make terms.limit x.heap x.operands x.operands (new_object program prefix class)))) same
      (makes_object x (new_object program prefix class))

  array_takes : (x : Part) (class : Ty) (element : Element) (operands : List Value) → Taken (array_charge element operands + 0) x (option_map (heap_effect x) (make_array terms.limit class element x.heap operands))
  unfolding make_array
  array_takes x class element (values.Int (pos n) ∷ rest) =
      let same : array_size element n ≡ array_size element n + 0 = omega arith in
      subst (λ (size : ℕ). Takes terms.counting None size x (heap_effect x (make_elements (passes_limit terms.limit (x.heap.used + array_size element n)) class element x.heap (values.Int (pos n) ∷ rest) rest n))) same
      (makes_elements x (passes_limit terms.limit (x.heap.used + array_size element n)) class element (values.Int (pos n) ∷ rest) rest n)
  array_takes x class element (values.Int (negsuc n) ∷ rest) = quiets x _ refl refl refl tt
  array_takes x class element _ = tt

  -- ---- every instruction, for what it pays

  pub effect_takes : (own : Name) (i : Instruction) (x : Part) → IfSome (effect program prefix terms own i x) (Takes terms.counting (text_of i) (alloc_of (pays program prefix i x.operands)) x)
  unfolding effect pays
  effect_takes own (PushText units) x = text_takes x units _ (literal_taken terms.limit x.heap x.literals units)
  effect_takes own (LoadElement access) x = heap_takes terms.counting x _ (load_quiet terms.counting access x.heap x.operands)
  effect_takes own (StoreElement access) x = heap_takes terms.counting x _ (store_quiet terms.counting (takes program prefix x.heap) access x.heap x.operands)
  effect_takes own (GetStatic m) x = get_static_takes x (field_kind m.desc) (resolve_field program prefix m)
  effect_takes own (PutStatic m) x = put_static_takes x (field_kind m.desc) (resolve_field program prefix m) x.operands
  effect_takes own (GetField m) x = get_field_takes x (field_kind m.desc) (resolve_field program prefix m) x.operands
  effect_takes own (PutField m) x = put_field_takes x (field_kind m.desc) (resolve_field program prefix m) x.operands
  effect_takes own (Invoke mode m) x = invoke_takes own mode m x
  effect_takes own (New class) x = new_takes x class
  effect_takes own (NewArray class element) x = array_takes x class element x.operands
  effect_takes own ArrayLength x = heap_takes terms.counting x _ (length_quiet terms.counting x.heap x.operands)
  effect_takes own Throw x = throw_takes x x.operands
  effect_takes own (CheckCast class) x = cast_takes x class x.operands
  effect_takes own (InstanceOf class) x = instance_of_takes x class x.operands
  effect_takes own Nop x = values_take terms.counting x _
  effect_takes own (Push v) x = values_take terms.counting x _
  effect_takes own (Load kind slot) x = values_take terms.counting x _
  effect_takes own (Store kind slot) x = values_take terms.counting x _
  effect_takes own (Increment slot by) x = values_take terms.counting x _
  effect_takes own (Move operation) x = values_take terms.counting x _
  effect_takes own (Compute operation) x = values_take terms.counting x _
  effect_takes own (Convert operation) x = values_take terms.counting x _
  effect_takes own (Branch test target) x = values_take terms.counting x _
  effect_takes own (Goto target) x = values_take terms.counting x _
  effect_takes own (Switch pairs default) x = values_take terms.counting x _
  effect_takes own (Return kind) x = values_take terms.counting x _
  effect_takes own Monitor x = values_take terms.counting x _
  effect_takes own (Other op named) x = values_take terms.counting x _
