-- What is done to fields of instances.
use Rattle.std.proofs.Common.{◌≡◌, ℕ, Bool, true, false, List, [], ◌∷◌, set, Some, None, Ok, Err, if◌then◌else◌, refl, sym, ap, ◌∙◌}
use Rattle.std.specs.Prelude.{slice_index}
use Rattle.dj_names.specs.declared.descriptor.Kind.{Kind}
use Rattle.dj_names.specs.declared.run.Value.{Value}
use Rattle.dj_names.specs.declared.run.Value.TheVariants as values
use Rattle.dj_names.specs.declared.run.Raised.TheVariants as raises
use Rattle.dj_names.specs.trusted.Heaps.{Instance, Heap, with_object, field_bits, field_value}
use Rattle.dj_model.specs.trusted.Numbers.{is_of_kind}
use Rattle.dj_model.specs.trusted.State.{Next}
use Rattle.dj_model.specs.trusted.Arrays.{flows}
use Rattle.dj_heap.specs.Heaps.{LimitedHeap}
use Rattle.dj_stack.specs.Frames.{StackFrame, top_operands}
use Rattle.dj_effects.specs.declared.way.Way.TheVariants as ways
use Rattle.dj_effects.specs.declared.way.Flow.{Flow}
use Rattle.dj_effects.specs.declared.way.Flow.TheVariants as goes
use Rattle.dj_effects.specs.DoesOnHeap.{flow_view, reported_beside}
use Rattle.dj_member_effects.specs.Fields.{Holder, Null, NoHolder, Holds, HasFields, PutsField, fields_at, fields_in, holder_by, holder_reported, get_field_by, get_from, put_field_by, put_in}
use Rattle.dj_member_effects.proofs.HolderFacts.{held}

-- ---- a field that is read

pub gets : (has : ℕ → Bool) (kind : Kind) (place : ℕ) (heap : Heap ℕ) (operands rest after : List Value) (r count bits : ℕ) (v : Value)
    → operands ≡ values.Ref r ∷ rest → Ok count ≡ holder_reported (holder_by has heap r) → HasFields heap r count
    → bits ≡ slice_index (fields_at heap r) place → v ≡ field_value kind bits → after ≡ v ∷ rest
    → get_field_by has kind place heap operands ≡ Some (flows heap after (Ok Next))
unfolding get_field_by
gets has kind place heap operands rest after r count bits v all reported f read is left =
    let there : fields_at heap r ≡ f.fields = ap fields_in f.object in
    let same : v ≡ field_value kind (slice_index f.fields place) =
    is ∙ ap (field_value kind) (read ∙ ap (λ (fields : List ℕ). slice_index fields place) there) in
    ap (get_field_by has kind place heap) all
    ∙ (ap (λ (h : Holder). Some (get_from heap (values.Ref r ∷ rest) rest kind place h)) (held has heap r count f reported)
    ∙ (ap (λ (v : Value). Some (flows heap (v ∷ rest) (Ok Next))) (sym same) ∙ ap (λ (after : List Value). Some (flows heap after (Ok Next))) (sym left)))

no_get : (heap : Heap ℕ) (operands rest : List Value) (kind : Kind) (place : ℕ) (h : Holder) (flow : Flow) → Err flow ≡ holder_reported h
    → get_from heap operands rest kind place h ≡ flows heap operands (flow_view flow)
no_get heap operands rest kind place Null flow e =
    let same : goes.Goes (ways.Raise raises.NullPointer) ≡ flow = cc in
    ap (λ (flow : Flow). flows heap operands (flow_view flow)) same
no_get heap operands rest kind place NoHolder flow e =
    let same : goes.Link ≡ flow = cc in
    ap (λ (flow : Flow). flows heap operands (flow_view flow)) same
no_get heap operands rest kind place (Holds class fields) flow e = absurd cc

before_of : (old new : List StackFrame) (h : Holder) (flow : Flow) → Err flow ≡ holder_reported h → reported_beside old new flow ≡ top_operands old
before_of old new Null flow e =
    let same : goes.Goes (ways.Raise raises.NullPointer) ≡ flow = cc in
    ap (reported_beside old new) (sym same)
before_of old new NoHolder flow e =
    let same : goes.Link ≡ flow = cc in
    ap (reported_beside old new) (sym same)
before_of old new (Holds class fields) flow e = absurd cc

pub gets_nothing : (has : ℕ → Bool) (kind : Kind) (place : ℕ) (heap : Heap ℕ) (old new : List StackFrame) (rest : List Value) (r : ℕ) (flow : Flow)
    → top_operands old ≡ values.Ref r ∷ rest → Err flow ≡ holder_reported (holder_by has heap r)
    → get_field_by has kind place heap (top_operands old) ≡ Some (flows heap (reported_beside old new flow) (flow_view flow))
unfolding get_field_by
gets_nothing has kind place heap old new rest r flow all reported =
    ap (get_field_by has kind place heap) all
    ∙ (ap Some (no_get heap (values.Ref r ∷ rest) rest kind place (holder_by has heap r) flow reported)
    ∙ ap (λ (operands : List Value). Some (flows heap operands (flow_view flow))) (sym all ∙ sym (before_of old new (holder_by has heap r) flow reported)))

-- ---- a field that is written

pub puts : (has : ℕ → Bool) (kind : Kind) (place : ℕ) (h now : LimitedHeap) (operands rest : List Value) (r count bits : ℕ) (v : Value)
    → operands ≡ v ∷ (values.Ref r ∷ rest) → true ≡ is_of_kind kind v → Ok count ≡ holder_reported (holder_by has h.heap r) → HasFields h.heap r count
    → bits ≡ field_bits v → PutsField h now r place bits
    → put_field_by has kind place h.heap operands ≡ Some (flows now.heap rest (Ok Next))
unfolding put_field_by
puts has kind place h now operands rest r count bits v all fits reported f is put =
    let after : now ≡ record h { heap = with_object h.heap r (Instance f.class (set f.fields place bits)) } = put f.class f.fields f.object in
    ap (put_field_by has kind place h.heap) all
    ∙ (ap (λ (b : Bool). if b then Some (put_in h.heap (v ∷ (values.Ref r ∷ rest)) rest place r v (holder_by has h.heap r)) else None) (sym fits)
    ∙ (ap (λ (holder : Holder). Some (put_in h.heap (v ∷ (values.Ref r ∷ rest)) rest place r v holder)) (held has h.heap r count f reported)
    ∙ (ap (λ (bits : ℕ). Some (flows (with_object h.heap r (Instance f.class (set f.fields place bits))) rest (Ok Next))) (sym is)
    ∙ ap (λ (now : LimitedHeap). Some (flows now.heap rest (Ok Next))) (sym after))))

pub puts_limit : (h now : LimitedHeap) (r count place bits : ℕ) → HasFields h.heap r count → PutsField h now r place bits → now.limit ≡ h.limit
puts_limit h now r count place bits f put = ap (λ (h : LimitedHeap). h.limit) (put f.class f.fields f.object)

no_put : (heap : Heap ℕ) (operands rest : List Value) (place r : ℕ) (v : Value) (h : Holder) (flow : Flow) → Err flow ≡ holder_reported h
    → put_in heap operands rest place r v h ≡ flows heap operands (flow_view flow)
no_put heap operands rest place r v Null flow e =
    let same : goes.Goes (ways.Raise raises.NullPointer) ≡ flow = cc in
    ap (λ (flow : Flow). flows heap operands (flow_view flow)) same
no_put heap operands rest place r v NoHolder flow e =
    let same : goes.Link ≡ flow = cc in
    ap (λ (flow : Flow). flows heap operands (flow_view flow)) same
no_put heap operands rest place r v (Holds class fields) flow e = absurd cc

pub puts_nothing : (has : ℕ → Bool) (kind : Kind) (place : ℕ) (heap : Heap ℕ) (old new : List StackFrame) (rest : List Value) (r : ℕ) (v : Value) (flow : Flow)
    → top_operands old ≡ v ∷ (values.Ref r ∷ rest) → true ≡ is_of_kind kind v → Err flow ≡ holder_reported (holder_by has heap r)
    → put_field_by has kind place heap (top_operands old) ≡ Some (flows heap (reported_beside old new flow) (flow_view flow))
unfolding put_field_by
puts_nothing has kind place heap old new rest r v flow all fits reported =
    ap (put_field_by has kind place heap) all
    ∙ (ap (λ (b : Bool). if b then Some (put_in heap (v ∷ (values.Ref r ∷ rest)) rest place r v (holder_by has heap r)) else None) (sym fits)
    ∙ (ap Some (no_put heap (v ∷ (values.Ref r ∷ rest)) rest place r v (holder_by has heap r) flow reported)
    ∙ ap (λ (operands : List Value). Some (flows heap operands (flow_view flow))) (sym all ∙ sym (before_of old new (holder_by has heap r) flow reported))))

other_under : (has : ℕ → Bool) (kind : Kind) (place : ℕ) (heap : Heap ℕ) (v : Value) (rest : List Value) → is_of_kind kind v ≡ false
    → put_field_by has kind place heap (v ∷ rest) ≡ None
unfolding put_field_by
other_under has kind place heap v [] e = refl
other_under has kind place heap v (values.Int z ∷ rest) e = refl
other_under has kind place heap v (values.Long z ∷ rest) e = refl
other_under has kind place heap v (values.Ref r ∷ rest) e =
    ap (λ (b : Bool). if b then Some (put_in heap (v ∷ (values.Ref r ∷ rest)) rest place r v (holder_by has heap r)) else None) e

pub puts_no_such : (has : ℕ → Bool) (kind : Kind) (place : ℕ) (heap : Heap ℕ) (operands rest : List Value) (v : Value) → operands ≡ v ∷ rest
    → is_of_kind kind v ≡ false → put_field_by has kind place heap operands ≡ None
puts_no_such has kind place heap operands rest v all e = ap (put_field_by has kind place heap) all ∙ other_under has kind place heap v rest e
