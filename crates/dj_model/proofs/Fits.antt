-- What an instruction leaves of the heap and of the account.
use Rattle.std.proofs.Common.{◌≡◌, ℕ, suc, ◌+◌, Bool, true, false, ℤ, pos, negsuc, List, [], ◌∷◌, length, Option, Some, None, nat_eq, nat_lt, refl, sym, ap, subst, inl, inr, arith}
use Rattle.std.proofs.lemmas.Bool.Decides.{nat_tests}
use Rattle.std.specs.Option.{option_map}
use Rattle.std.specs.Prelude.{⊤, IfSome}
use Rattle.dj_names.specs.declared.descriptor.Ty.{Ty}
use Rattle.dj_names.specs.declared.run.Value.{Value}
use Rattle.dj_names.specs.declared.run.Value.TheVariants as values
use Rattle.dj_names.specs.declared.run.Element.{Element}
use Rattle.dj_names.specs.declared.run.Charge.{Charge}
use Rattle.dj_names.specs.declared.run.Charge.TheVariants as charges
use Rattle.dj_names.specs.declared.run.Costs.{Costs}
use Rattle.dj_names.specs.declared.run.Thresholds.{Thresholds}
use Rattle.dj_names.specs.declared.run.Outcome.{Outcome}
use Rattle.dj_names.specs.declared.run.Outcome.TheVariants as outcomes
use Rattle.dj_names.specs.trusted.Heaps.{Object, Instance, Array, Text, Heap, object_at, object_size, array_size, element_at, with_element, kept, value_number}
use Rattle.dj_model.specs.trusted.Instructions.{Access}
use Rattle.dj_model.specs.trusted.Numbers.{is_of_kind}
use Rattle.dj_model.specs.trusted.State.{Counting, Uncounted, Metered, Accounted, Account, Part, Flow, Goes, Catch, Stop, Call, End, Effect}
use Rattle.dj_model.specs.trusted.Values.{Values}
use Rattle.dj_model.specs.trusted.Arrays.{OnHeap, Found, Null, NoArray, IsArray, array_in, array_at, only, reaches, access_kind, load_at, load_from, load_element, store_at, store_in, is_taken, store_element, length_of, array_length, passes_limit, make, make_elements, make_array}
use Rattle.dj_model.specs.trusted.Charging.{added, passes, Charged, Fine, Over, compared_with, charge_after, charge_one}
use Rattle.dj_model.specs.trusted.Performing.{takes, Counted, Within, Halts, Making, Made, NotMade, making, making_then, with_fields, with_fields_in, with_elements_in, set_object, set_fields, set_elements, returns_made, goes_on}
use Rattle.dj_model.specs.trusted.Effects.{values_effect, flow_of, heap_effect}
use Rattle.dj_model.specs.Laws.{blank, Grows, IsLess, IsOver, IsPaid, IsReportedBy, IsReported}
use Rattle.dj_model.proofs.MappedNames.{either}
use Rattle.dj_model.proofs.Flows.{either_way}
use Rattle.dj_model.proofs.Growth.{grows_same, grows_new, grows_then, grows_set, same_length, same_fields, element_length}

-- ---- ends and accounts

-- any end but that by a charge
abbrev pub PlainOutcome : Outcome → Type 0
PlainOutcome (outcomes.Stopped charge) = ⊥
PlainOutcome outcomes.OkNull = ⊤
PlainOutcome (outcomes.OkBytes bytes) = ⊤
PlainOutcome (outcomes.Threw class message) = ⊤
PlainOutcome (outcomes.Init class exception message) = ⊤
PlainOutcome outcomes.Link = ⊤
PlainOutcome outcomes.TooDeep = ⊤
PlainOutcome (outcomes.HeapFull used size) = ⊤
PlainOutcome (outcomes.OutOfSteps steps) = ⊤

abbrev pub PlainFlow : Flow → Type 0
PlainFlow (Goes way) = ⊤
PlainFlow (Catch exception) = ⊤
PlainFlow Stop = ⊥
PlainFlow (Call m arguments) = ⊤
PlainFlow (End outcome) = PlainOutcome outcome

-- an end by a charge has its sum above the threshold, and nothing else has
abbrev pub OutcomePaid : Thresholds → Account → Outcome → Type 0
OutcomePaid most a (outcomes.Stopped charge) = IsOver most charge a.costs
OutcomePaid most a outcomes.OkNull = IsPaid most a
OutcomePaid most a (outcomes.OkBytes bytes) = IsPaid most a
OutcomePaid most a (outcomes.Threw class message) = IsPaid most a
OutcomePaid most a (outcomes.Init class exception message) = IsPaid most a
OutcomePaid most a outcomes.Link = IsPaid most a
OutcomePaid most a outcomes.TooDeep = IsPaid most a
OutcomePaid most a (outcomes.HeapFull used size) = IsPaid most a
OutcomePaid most a (outcomes.OutOfSteps steps) = IsPaid most a

abbrev pub FlowPaid : Thresholds → Account → Flow → Type 0
FlowPaid most a (End outcome) = OutcomePaid most a outcome
FlowPaid most a (Goes way) = IsPaid most a
FlowPaid most a (Catch exception) = IsPaid most a
FlowPaid most a Stop = IsPaid most a
FlowPaid most a (Call m arguments) = IsPaid most a

pub plain_outcome : (most : Thresholds) (a : Account) (outcome : Outcome) → PlainOutcome outcome → IsPaid most a → OutcomePaid most a outcome
plain_outcome most a (outcomes.Stopped charge) plain paid = absurd plain
plain_outcome most a outcomes.OkNull plain paid = paid
plain_outcome most a (outcomes.OkBytes bytes) plain paid = paid
plain_outcome most a (outcomes.Threw class message) plain paid = paid
plain_outcome most a (outcomes.Init class exception message) plain paid = paid
plain_outcome most a outcomes.Link plain paid = paid
plain_outcome most a outcomes.TooDeep plain paid = paid
plain_outcome most a (outcomes.HeapFull used size) plain paid = paid
plain_outcome most a (outcomes.OutOfSteps steps) plain paid = paid

plain_flow : (most : Thresholds) (a : Account) (flow : Flow) → PlainFlow flow → IsPaid most a → FlowPaid most a flow
plain_flow most a (Goes way) plain paid = paid
plain_flow most a (Catch exception) plain paid = paid
plain_flow most a Stop plain paid = paid
plain_flow most a (Call m arguments) plain paid = paid
plain_flow most a (End outcome) plain paid = plain_outcome most a outcome plain paid

pub less_same : (c : Costs) → IsLess c c
less_same c = record { alloc = omega arith; invoke = omega arith; jump = omega arith; throw = omega arith }

pub less_then : (a b c : Costs) → IsLess a b → IsLess b c → IsLess a c
less_then a b c x y = record {
  alloc = omega (arith, x.alloc, y.alloc);
  invoke = omega (arith, x.invoke, y.invoke);
  jump = omega (arith, x.jump, y.jump);
  throw = omega (arith, x.throw, y.throw);
}

-- the run doesn't end by a charge, but the object that stops it may be thrown
abbrev pub EndsPlainly : Flow → Type 0
EndsPlainly (Goes way) = ⊤
EndsPlainly (Catch exception) = ⊤
EndsPlainly Stop = ⊤
EndsPlainly (Call m arguments) = ⊤
EndsPlainly (End outcome) = PlainOutcome outcome

ends_plainly : (flow : Flow) → PlainFlow flow → EndsPlainly flow
ends_plainly (Goes way) plain = tt
ends_plainly (Catch exception) plain = tt
ends_plainly Stop plain = tt
ends_plainly (Call m arguments) plain = tt
ends_plainly (End outcome) plain = plain

-- what is paid stays paid, what is reported stays reported, and sums only grow
abbrev pub StaysPaid : Counting → Account → Account → Type 0
StaysPaid Uncounted a b = ⊤
StaysPaid (Accounted most) a b = IsReported most a → IsReported most b × IsLess a.costs b.costs
StaysPaid (Metered most) a b = IsPaid most a → IsPaid most b × IsLess a.costs b.costs

abbrev pub Accounts : Counting → Account → Account → Flow → Type 0
Accounts Uncounted a b flow = ⊤
Accounts (Accounted most) a b flow = IsReported most a → IsReported most b × IsLess a.costs b.costs × EndsPlainly flow
Accounts (Metered most) a b flow = IsPaid most a → FlowPaid most b flow × IsLess a.costs b.costs

pub record PartFits (counting : Counting) (x y : Part) : Type 0 where
  pub heap : Grows x.heap y.heap
  pub account : StaysPaid counting x.account y.account

pub record Fits (counting : Counting) (x : Part) (e : Effect) : Type 0 where
  pub heap : Grows x.heap e.part.heap
  pub account : Accounts counting x.account e.part.account e.flow

stays_same : (counting : Counting) (a : Account) → StaysPaid counting a a
stays_same Uncounted a = tt
stays_same (Accounted most) a = λ reported. (reported, less_same a.costs)
stays_same (Metered most) a = λ paid. (paid, less_same a.costs)

then_plain : (counting : Counting) (a b c : Account) (flow : Flow) → StaysPaid counting a b → c ≡ b → PlainFlow flow → Accounts counting a c flow
then_plain Uncounted a b c flow s e plain = tt
then_plain (Accounted most) a b c flow s e plain = λ reported.
    let now = s reported in
    (subst (IsReported most) (sym e) now.0, subst (λ k. IsLess a.costs k.costs) (sym e) now.1, ends_plainly flow plain)
then_plain (Metered most) a b c flow s e plain = λ paid.
    let now = s paid in
    (plain_flow most c flow plain (subst (IsPaid most) (sym e) now.0), subst (λ k. IsLess a.costs k.costs) (sym e) now.1)

pub part_same : (counting : Counting) (x : Part) → PartFits counting x x
part_same counting x = record { heap = grows_same x.heap; account = stays_same counting x.account }

pub go_plain : (counting : Counting) (x y : Part) (e : Effect) → PartFits counting x y → Grows y.heap e.part.heap → e.part.account ≡ y.account → PlainFlow e.flow
    → Fits counting x e
go_plain counting x y e fits grows same plain = record {
  heap = grows_then x.heap y.heap e.part.heap fits.heap grows;
  account = then_plain counting x.account y.account e.part.account e.flow fits.account same plain;
}

pub simple : (counting : Counting) (x : Part) (e : Effect) → Grows x.heap e.part.heap → e.part.account ≡ x.account → PlainFlow e.flow → Fits counting x e
simple counting x e grows same plain = go_plain counting x x e (part_same counting x) grows same plain

-- ---- charges

abbrev pub ChargedFits : Thresholds → Account → Charged → Type 0
ChargedFits most a (Fine b) = IsPaid most b × IsLess a.costs b.costs
ChargedFits most a (Over charge b) = IsOver most charge b.costs × IsLess a.costs b.costs

compared_fits : (most : Thresholds) (a : Account) (charge : Charge) (n : ℕ) → IsPaid most a → ChargedFits most a (compared_with most charge (added a.costs charge n))
compared_fits most a charges.Alloc n paid = elim (either (nat_lt most.alloc (a.costs.alloc + n))) [
  | inl e ↦ rw e ((grind (arith, nat_tests, e), paid.within.invoke, paid.within.jump, paid.within.throw), record { alloc = omega arith; invoke = omega arith; jump = omega arith; throw = omega arith })
  | inr e ↦ rw e (
    record { none = refl; within = record { alloc = grind (arith, nat_tests, e); invoke = paid.within.invoke; jump = paid.within.jump; throw = paid.within.throw } },
    record { alloc = omega arith; invoke = omega arith; jump = omega arith; throw = omega arith },
  )
]
compared_fits most a charges.Invoke n paid = elim (either (nat_lt most.invoke (a.costs.invoke + n))) [
  | inl e ↦ rw e ((paid.within.alloc, grind (arith, nat_tests, e), paid.within.jump, paid.within.throw), record { alloc = omega arith; invoke = omega arith; jump = omega arith; throw = omega arith })
  | inr e ↦ rw e (
    record { none = refl; within = record { alloc = paid.within.alloc; invoke = grind (arith, nat_tests, e); jump = paid.within.jump; throw = paid.within.throw } },
    record { alloc = omega arith; invoke = omega arith; jump = omega arith; throw = omega arith },
  )
]
compared_fits most a charges.Jump n paid = elim (either (nat_lt most.jump (a.costs.jump + n))) [
  | inl e ↦ rw e ((paid.within.alloc, paid.within.invoke, grind (arith, nat_tests, e), paid.within.throw), record { alloc = omega arith; invoke = omega arith; jump = omega arith; throw = omega arith })
  | inr e ↦ rw e (
    record { none = refl; within = record { alloc = paid.within.alloc; invoke = paid.within.invoke; jump = grind (arith, nat_tests, e); throw = paid.within.throw } },
    record { alloc = omega arith; invoke = omega arith; jump = omega arith; throw = omega arith },
  )
]
compared_fits most a charges.Throw n paid = elim (either (nat_lt most.throw (a.costs.throw + n))) [
  | inl e ↦ rw e ((paid.within.alloc, paid.within.invoke, paid.within.jump, grind (arith, nat_tests, e)), record { alloc = omega arith; invoke = omega arith; jump = omega arith; throw = omega arith })
  | inr e ↦ rw e (
    record { none = refl; within = record { alloc = paid.within.alloc; invoke = paid.within.invoke; jump = paid.within.jump; throw = grind (arith, nat_tests, e) } },
    record { alloc = omega arith; invoke = omega arith; jump = omega arith; throw = omega arith },
  )
]

pub charge_fits : (most : Thresholds) (a : Account) (charge : Charge) (n : ℕ) → IsPaid most a → ChargedFits most a (charge_one most a charge n)
unfolding charge_one
charge_fits most a charge n paid =
    subst (λ before. ChargedFits most a (charge_after most a charge n before)) (sym paid.none) (compared_fits most a charge n paid)

-- ---- what is reported as exceeded

abbrev NamesCharge : Charged → Type 0
NamesCharge (Fine b) = ⊤
NamesCharge (Over charge b) = b.exceeded ≡ Some charge

compared_names : (most : Thresholds) (charge : Charge) (c : Costs) → NamesCharge (compared_with most charge c)
compared_names most charge c = either_way NamesCharge (passes most c charge) _ _ refl tt

abbrev pub ChargedReported : Thresholds → Account → Charged → Type 0
ChargedReported most a (Fine b) = IsReported most b × IsLess a.costs b.costs
ChargedReported most a (Over charge b) = IsReported most b × IsLess a.costs b.costs

to_reported : (most : Thresholds) (a : Account) (c : Charged) → ChargedFits most a c → NamesCharge c → ChargedReported most a c
to_reported most a (Fine b) k e = (subst (IsReportedBy most b.costs) (sym k.0.none) k.0.within, k.1)
to_reported most a (Over charge b) k e = (subst (IsReportedBy most b.costs) (sym e) k.0, k.1)

pub charge_reported : (most : Thresholds) (a : Account) (charge : Charge) (n : ℕ) → IsReported most a → ChargedReported most a (charge_one most a charge n)
unfolding charge_one
charge_reported most a charge n reported = go a.exceeded refl where
  go : (before : Option Charge) → a.exceeded ≡ before → ChargedReported most a (charge_after most a charge n before)
  go None e = to_reported most a (compared_with most charge (added a.costs charge n))
      (compared_fits most a charge n (record { none = e; within = subst (IsReportedBy most a.costs) e reported })) (compared_names most charge (added a.costs charge n))
  go (Some before) e = (reported, less_same a.costs)

-- ---- values and arrays

pub values_fit : (counting : Counting) (x : Part) (v : Option Values) → IfSome (option_map (values_effect x) v) (Fits counting x)
values_fit counting x None = tt
values_fit counting x (Some v) = simple counting x (values_effect x v) (grows_same x.heap) refl tt

abbrev PlainResult : OnHeap Ty → Type 0
PlainResult e = PlainFlow (flow_of e.result)

abbrev HeapFits : Heap Ty → OnHeap Ty → Type 0
HeapFits heap e = Grows heap e.heap × PlainResult e

pub heap_fits : (counting : Counting) (x : Part) (e : Option (OnHeap Ty)) → IfSome e (HeapFits x.heap) → IfSome (option_map (heap_effect x) e) (Fits counting x)
heap_fits counting x None k = tt
heap_fits counting x (Some e) k = simple counting x (heap_effect x e) k.0 refl k.1

load_at_fits : (heap : Heap Ty) (operands rest : List Value) (element : Element) (z : Option ℤ) → HeapFits heap (load_at heap operands rest element z)
load_at_fits heap operands rest element None = (grows_same heap, tt)
load_at_fits heap operands rest element (Some z) = (grows_same heap, tt)

load_from_fits : (heap : Heap Ty) (operands rest : List Value) (index : ℤ) (found : Found Ty) → HeapFits heap (load_from heap operands rest index found)
load_from_fits heap operands rest index Null = (grows_same heap, tt)
load_from_fits heap operands rest index NoArray = (grows_same heap, tt)
load_from_fits heap operands rest index (IsArray class element contents) = load_at_fits heap operands rest element (element_at contents index)

pub load_fits : (access : Access) (heap : Heap Ty) (operands : List Value) → IfSome (load_element access heap operands) (HeapFits heap)
unfolding load_element
load_fits access heap (values.Int index ∷ (values.Ref r ∷ rest)) =
    load_from_fits heap (values.Int index ∷ (values.Ref r ∷ rest)) rest index (only access (array_at heap r))
load_fits access heap _ = tt

-- where a reference is an array, the object is there
IsThere : Heap Ty → ℕ → Found Ty → Type 0
IsThere heap r Null = ⊤
IsThere heap r NoArray = ⊤
IsThere heap r (IsArray class element contents) = object_at heap.objects r ≡ Some (Array class element contents)

array_there : (heap : Heap Ty) (r : ℕ) → IsThere heap r (array_at heap r)
unfolding IsThere
array_there heap r = either_way (IsThere heap r) (nat_eq r 0) _ _ tt (go (object_at heap.objects r) refl) where
  go : (o : Option (Object Ty)) → object_at heap.objects r ≡ o → IsThere heap r (array_in o)
  go None e = tt
  go (Some (Instance class fields)) e = tt
  go (Some (Array class element contents)) e = e
  go (Some (Text class units)) e = tt

only_there : (access : Access) (heap : Heap Ty) (r : ℕ) (found : Found Ty) → IsThere heap r found → IsThere heap r (only access found)
unfolding IsThere
only_there access heap r Null k = tt
only_there access heap r NoArray k = tt
only_there access heap r (IsArray class element contents) k = either_way (IsThere heap r) (reaches access element) _ _ k tt

store_at_fits : (heap : Heap Ty) (operands rest : List Value) (r : ℕ) (now old : Object Ty) (z : Option ℤ) (takes : Bool)
    → object_at heap.objects r ≡ Some old → blank now ≡ blank old → HeapFits heap (store_at heap operands rest r now z takes)
store_at_fits heap operands rest r now old None takes e same = (grows_same heap, tt)
store_at_fits heap operands rest r now old (Some z) true e same = (grows_set heap r old now e same, tt)
store_at_fits heap operands rest r now old (Some z) false e same = (grows_same heap, tt)

store_in_fits : (heap : Heap Ty) (operands rest : List Value) (r : ℕ) (index : ℤ) (v : Value) (takes : Bool) (found : Found Ty) → IsThere heap r found
    → HeapFits heap (store_in heap operands rest r index v takes found)
unfolding IsThere
store_in_fits heap operands rest r index v takes Null k = (grows_same heap, tt)
store_in_fits heap operands rest r index v takes NoArray k = (grows_same heap, tt)
store_in_fits heap operands rest r index v takes (IsArray class element contents) k =
    store_at_fits heap operands rest r (Array class element (with_element contents index (kept element (value_number v)))) (Array class element contents) (element_at contents index) takes k
    (same_length class element _ contents (element_length contents index (kept element (value_number v))))

pub store_fits : (takes : ℕ → ℕ → Bool) (access : Access) (heap : Heap Ty) (operands : List Value) → IfSome (store_element takes access heap operands) (HeapFits heap)
unfolding store_element
store_fits takes access heap (v ∷ (values.Int index ∷ (values.Ref r ∷ rest))) =
    either_way (λ (e : Option (OnHeap Ty)). IfSome e (HeapFits heap)) (is_of_kind (access_kind access) v) _ _
    (store_in_fits heap (v ∷ (values.Int index ∷ (values.Ref r ∷ rest))) rest r index v (is_taken takes r v) (only access (array_at heap r))
    (only_there access heap r (array_at heap r) (array_there heap r))) tt
store_fits takes access heap _ = tt

length_of_fits : (heap : Heap Ty) (operands rest : List Value) (found : Found Ty) → HeapFits heap (length_of heap operands rest found)
length_of_fits heap operands rest Null = (grows_same heap, tt)
length_of_fits heap operands rest NoArray = (grows_same heap, tt)
length_of_fits heap operands rest (IsArray class element contents) = (grows_same heap, tt)

pub length_fits : (heap : Heap Ty) (operands : List Value) → IfSome (array_length heap operands) (HeapFits heap)
unfolding array_length
length_fits heap (values.Ref r ∷ rest) = length_of_fits heap (values.Ref r ∷ rest) rest (array_at heap r)
length_fits heap _ = tt

pub make_fits : (limit : Option ℕ) (heap : Heap Ty) (operands rest : List Value) (o : Object Ty) → HeapFits heap (make limit heap operands rest o)
make_fits limit heap operands rest o =
    either_way (HeapFits heap) (passes_limit limit (heap.used + object_size o)) _ _ (grows_same heap, tt) (grows_new heap o, tt)

make_elements_fits : (full : Bool) (class : Ty) (element : Element) (heap : Heap Ty) (operands rest : List Value) (n : ℕ)
    → HeapFits heap (make_elements full class element heap operands rest n)
make_elements_fits true class element heap operands rest n = (grows_same heap, tt)
make_elements_fits false class element heap operands rest n = (grows_new heap _, tt)

pub make_array_fits : (limit : Option ℕ) (class : Ty) (element : Element) (heap : Heap Ty) (operands : List Value)
    → IfSome (make_array limit class element heap operands) (HeapFits heap)
unfolding make_array
make_array_fits limit class element heap (values.Int (pos n) ∷ rest) =
    make_elements_fits (passes_limit limit (heap.used + array_size element n)) class element heap (values.Int (pos n) ∷ rest) rest n
make_array_fits limit class element heap (values.Int (negsuc n) ∷ rest) = (grows_same heap, tt)
make_array_fits limit class element heap _ = tt

-- ---- native methods

module _ (counting : Counting) where
  abbrev pub CountedFits : Part → Counted → Type 0
  CountedFits x (Within y) = PartFits counting x y
  CountedFits x (Halts e) = Fits counting x e

  abbrev pub MakingFits : Part → Making → Type 0
  MakingFits x (Made y r) = PartFits counting x y
  MakingFits x (NotMade e) = Fits counting x e

  making_fits : (limit : Option ℕ) (x y : Part) (o : Object Ty) → PartFits counting x y → MakingFits x (making limit y o)
  making_fits limit x y o fits = either_way (MakingFits x) (passes_limit limit (y.heap.used + object_size o)) _ _
      (go_plain counting x y _ fits (grows_same y.heap) refl tt)
      (record { heap = grows_then x.heap y.heap _ fits.heap (grows_new y.heap o); account = fits.account })

  pub making_then_fits : (limit : Option ℕ) (x : Part) (o : Object Ty) (c : Counted) → CountedFits x c → MakingFits x (making_then limit o c)
  making_then_fits limit x o (Within y) fits = making_fits limit x y o fits
  making_then_fits limit x o (Halts e) fits = fits

  pub returns_fit : (x : Part) (m : Making) → MakingFits x m → Fits counting x (returns_made m)
  returns_fit x (Made y r) fits = go_plain counting x y _ fits (grows_same y.heap) refl tt
  returns_fit x (NotMade e) fits = fits

  pub goes_fit : (x : Part) (c : Counted) → CountedFits x c → Fits counting x (goes_on c)
  goes_fit x (Within y) fits = go_plain counting x y _ fits (grows_same y.heap) refl tt
  goes_fit x (Halts e) fits = fits

fields_length : (fields : List ℕ) (vs : List Value) → length (with_fields fields vs) ≡ length fields
fields_length fields [] = refl
fields_length [] (v ∷ vs) = refl
fields_length (bits ∷ fields) (v ∷ vs) = ap suc (fields_length fields vs)

abbrev pub SetFits : Part → Part → Type 0
SetFits x y = Grows x.heap y.heap × (y.account ≡ x.account)

fields_go : (x : Part) (r : ℕ) (vs : List Value) (o : Option (Object Ty)) → object_at x.heap.objects r ≡ o → SetFits x (set_object x r (with_fields_in o vs))
fields_go x r vs None e = (grows_same x.heap, refl)
fields_go x r vs (Some (Instance class fields)) e =
    (grows_set x.heap r (Instance class fields) (Instance class (with_fields fields vs)) e (same_fields class (with_fields fields vs) fields (fields_length fields vs)), refl)
fields_go x r vs (Some (Array class element contents)) e = (grows_same x.heap, refl)
fields_go x r vs (Some (Text class units)) e = (grows_same x.heap, refl)

pub fields_fit : (x : Part) (r : ℕ) (vs : List Value) → SetFits x (set_fields x r vs)
fields_fit x r vs = fields_go x r vs (object_at x.heap.objects r) refl

elements_go : (x : Part) (r : ℕ) (now : List ℤ) (o : Option (Object Ty)) → object_at x.heap.objects r ≡ o → SetFits x (set_object x r (with_elements_in o now))
elements_go x r now None e = (grows_same x.heap, refl)
elements_go x r now (Some (Instance class fields)) e = (grows_same x.heap, refl)
elements_go x r now (Some (Text class units)) e = (grows_same x.heap, refl)
elements_go x r now (Some (Array class element contents)) e = elim (either (nat_eq (length now) (length contents))) [
  | inl same ↦ rw same (
    grows_set x.heap r (Array class element contents) (Array class element now) e
        (same_length class element now contents (grind (arith, nat_tests, same))),
    refl,
  )
  | inr other ↦ rw other (grows_same x.heap, refl)
]

pub elements_fit : (x : Part) (r : ℕ) (now : List ℤ) → SetFits x (set_elements x r now)
elements_fit x r now = elements_go x r now (object_at x.heap.objects r) refl
