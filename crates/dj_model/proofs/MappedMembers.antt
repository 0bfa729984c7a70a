-- Native methods, fields, casts and calls in a program with other names of classes and other code.
use Rattle.std.proofs.Common.{length, ◌≡◌, ℕ, ◌+◌, ◌-◌, Bool, true, false, ℤ, List, [], ◌∷◌, ◌++◌, map, set, Option, Some, None, nat_eq, refl, sym, ap, ◌∙◌, if◌then◌else◌, inl, inr, codes}
use Rattle.std.proofs.lemmas.List.{map-append, map-set, length-map}
use Rattle.std.specs.Option.{option_map}
use Rattle.dj_names.specs.declared.descriptor.Kind.{Kind}
use Rattle.dj_names.specs.declared.descriptor.Of.{Of}
use Rattle.dj_names.specs.declared.descriptor.Of.TheVariants as ofs
use Rattle.dj_names.specs.declared.descriptor.Ty.{Ty}
use Rattle.dj_names.specs.declared.descriptor.Desc.{Desc}
use Rattle.dj_names.specs.declared.run.Value.{Value}
use Rattle.dj_names.specs.declared.run.Value.TheVariants as values
use Rattle.dj_names.specs.declared.run.Raised.{Raised}
use Rattle.dj_names.specs.declared.run.Raised.TheVariants as raises
use Rattle.dj_names.specs.declared.run.Charge.{Charge}
use Rattle.dj_names.specs.declared.run.Charge.TheVariants as charges
use Rattle.dj_names.specs.declared.native.NativeId.{NativeId}
use Rattle.dj_names.specs.trusted.Heaps.{Object, Instance, Array, Text, Heap, class_of, object_at, object_size, text_size, field_bits}
use Rattle.dj_names.specs.Heaps.{object_map, heap_map}
use Rattle.dj_names.specs.trusted.Types.{Name, class_type, component_type, parameters_of, of_map}
use Rattle.dj_names.specs.Types.{type_map, desc_map}
use Rattle.dj_edge.specs.declared.host.HostAnswer.{HostAnswer}
use Rattle.dj_model.specs.trusted.Types.{Prefix, Member, throwable_name, is_stop}
use Rattle.dj_model.specs.Types.{member_map}
use Rattle.dj_model.specs.trusted.Instructions.{Mode, Virtual, Special, Static, Interface}
use Rattle.dj_model.specs.trusted.Numbers.{is_of_kind}
use Rattle.dj_model.specs.trusted.Program.{Program, Code, Body, Abstract, Native, Runs, class_at}
use Rattle.dj_model.specs.Program.{body_map, class_map}
use Rattle.dj_model.specs.trusted.Linking.{is_among, chain, member_class, FoundMethod, FoundField, resolve_method, select, special_method, place_of, static_place}
use Rattle.dj_model.specs.trusted.State.{Terms, Counting, Uncounted, Metered, Accounted, Literal, Part, Raise, Goes, Catch, goes, Effect}
use Rattle.dj_model.specs.State.{part_map, effect_map}
use Rattle.dj_model.specs.trusted.Arrays.{passes_limit}
use Rattle.dj_model.specs.trusted.Charging.{Charged, Fine, Over, charge_one}
use Rattle.dj_model.specs.trusted.Natives.{Answer, Returns, Raises, MakesText, KeepsText, MakesChars, SetsFields, SetsElements, Adds, Rethrows, Question, asks, answered, answer, host_answer, plain_class, class_text, with_dots}
use Rattle.dj_model.specs.trusted.Performing.{class_in, class_at_number, is_instance, takes, units_in, is_text_in, object_field, elements_in, shown_in, seen, Counted, Within, Halts, ended_by, thrown_by, counted, Making, Made, NotMade, making, making_then, made_charged, text_object, chars_object, with_fields_in, with_elements_in, set_object, set_fields, set_elements, returns, raises_after, returns_made, keeps_made, goes_on, perform, with_answer, host_asked, native_asked, native}
use Rattle.dj_model.specs.trusted.Members.{broken, get_static, put_static, Holder, NullHolder, NoHolder, Holds, holder_in, holder_at, get_from, put_in, get_field, put_field, literal_in, Kept, kept_or_made, with_literal, push_kept, check_cast, instance_of, throw_top, kinds_of, Arguments, arguments_of, are_instances, run_body, run_method, received, call_special, call_virtual, call, call_with, invoke}
use Rattle.dj_model.specs.Mapping.{IsNameMap}
use Rattle.dj_model.proofs.MappedNames as names
use Rattle.dj_model.proofs.MappedNames.{either}
use Rattle.dj_model.proofs.MappedHeaps.{object_at_mapped, class_of_mapped, size_alike}

module _ (f : Name → Name) (g : Code → Code) (p q : Prefix) (is : IsNameMap f p q) (program other : Program)
    (at : (name : Name) → class_at other (f name) ≡ option_map (class_map f g) (class_at program name))
    (statics : (class name : Name) (desc : Desc) → static_place other (f class) name (desc_map f desc) ≡ static_place program class name desc) where
  abbrev pub heap_with : Heap Ty → Heap Ty
  heap_with heap = heap_map (type_map f) heap

  -- ---- classes of objects

  class_in_mapped : (o : Option (Object Ty)) → class_in (option_map (object_map (type_map f)) o) ≡ type_map f (class_in o)
  class_in_mapped None = refl
  class_in_mapped (Some o) = class_of_mapped (type_map f) o

  pub class_at_mapped : (heap : Heap Ty) (r : ℕ) → class_at_number (heap_with heap) r ≡ type_map f (class_at_number heap r)
  class_at_mapped heap r = ap class_in (object_at_mapped (type_map f) heap.objects r) ∙ class_in_mapped (object_at heap.objects r)

  pub instance_alike : (heap : Heap Ty) (r : ℕ) (class : Ty) → is_instance other q (heap_with heap) r (type_map f class) ≡ is_instance program p heap r class
  instance_alike heap r class =
      rw (class_at_mapped heap r, names.subtype_alike f g p q is program other at (class_at_number heap r) class) refl

  pub takes_alike : (heap : Heap Ty) (array r : ℕ) → takes other q (heap_with heap) array r ≡ takes program p heap array r
  takes_alike heap array r = rw (class_at_mapped heap array) (instance_alike heap r (component_type (class_at_number heap array)))

  -- ---- what native methods see

  units_alike : (o : Option (Object Ty)) → units_in (option_map (object_map (type_map f)) o) ≡ units_in o
  units_alike None = refl
  units_alike (Some (Instance class fields)) = refl
  units_alike (Some (Array class element contents)) = refl
  units_alike (Some (Text class units)) = refl

  is_text_alike : (o : Option (Object Ty)) → is_text_in (option_map (object_map (type_map f)) o) ≡ is_text_in o
  is_text_alike None = refl
  is_text_alike (Some (Instance class fields)) = refl
  is_text_alike (Some (Array class element contents)) = refl
  is_text_alike (Some (Text class units)) = refl

  pub field_alike : (o : Option (Object Ty)) (place : ℕ) → object_field (option_map (object_map (type_map f)) o) place ≡ object_field o place
  field_alike None place = refl
  field_alike (Some (Instance class fields)) place = refl
  field_alike (Some (Array class element contents)) place = refl
  field_alike (Some (Text class units)) place = refl

  elements_alike : (o : Option (Object Ty)) → elements_in (option_map (object_map (type_map f)) o) ≡ elements_in o
  elements_alike None = refl
  elements_alike (Some (Instance class fields)) = refl
  elements_alike (Some (Array class element contents)) = refl
  elements_alike (Some (Text class units)) = refl

  plain_of_alike : (ty : Ty) → plain_class q (type_map f ty) ≡ plain_class p ty
  plain_of_alike ty = go ty.dims ty.of where
    go : (dims : ℕ) (of : Of) → plain_class q (record { dims = dims; of = of_map f of }) ≡ plain_class p (record { dims = dims; of = of })
    go dims (ofs.Base base) = refl
    go dims (ofs.Class name) = ap (λ (n : Name). record { dims = dims; of = ofs.Class n }) (is.shown name)

  shown_alike : (o : Option (Object Ty)) → shown_in q (option_map (object_map (type_map f)) o) ≡ shown_in p o
  shown_alike None = refl
  shown_alike (Some o) = ap (λ ty. with_dots (class_text (plain_class q ty))) (class_of_mapped (type_map f) o) ∙ ap (λ ty. with_dots (class_text ty)) (plain_of_alike (class_of o))

  pub seen_alike : (heap : Heap Ty) → seen other q (heap_with heap) ≡ seen program p heap
  seen_alike heap = λ i. record {
    units = λ r. (ap units_in (object_at_mapped (type_map f) heap.objects r) ∙ units_alike (object_at heap.objects r)) i;
    is_text = λ r. (ap is_text_in (object_at_mapped (type_map f) heap.objects r) ∙ is_text_alike (object_at heap.objects r)) i;
    field = λ r place. (ap (λ o. object_field o place) (object_at_mapped (type_map f) heap.objects r) ∙ field_alike (object_at heap.objects r) place) i;
    elements = λ r. (ap elements_in (object_at_mapped (type_map f) heap.objects r) ∙ elements_alike (object_at heap.objects r)) i;
    takes = λ array r. takes_alike heap array r i;
    class_text = λ r. (ap (shown_in q) (object_at_mapped (type_map f) heap.objects r) ∙ shown_alike (object_at heap.objects r)) i;
  }

  -- ---- what follows an answer

  abbrev counted_map : Counted → Counted
  counted_map (Within x) = Within (part_map f x)
  counted_map (Halts e) = Halts (effect_map f e)

  abbrev making_map : Making → Making
  making_map (Made x r) = Made (part_map f x) r
  making_map (NotMade e) = NotMade (effect_map f e)

  ended_mapped : (x : Part) (c : Charged) → ended_by (part_map f x) c ≡ counted_map (ended_by x c)
  ended_mapped x (Fine account) = refl
  ended_mapped x (Over charge account) = refl

  thrown_mapped : (x : Part) (c : Charged) → thrown_by (part_map f x) c ≡ counted_map (thrown_by x c)
  thrown_mapped x (Fine account) = refl
  thrown_mapped x (Over charge account) = refl

  counted_mapped : (counting : Counting) (x : Part) (charge : Charge) (n : ℕ) → counted counting (part_map f x) charge n ≡ counted_map (counted counting x charge n)
  counted_mapped Uncounted x charge n = refl
  counted_mapped (Metered most) x charge n = ended_mapped x (charge_one most x.account charge n)
  counted_mapped (Accounted most) x charge n = thrown_mapped x (charge_one most x.account charge n)

  making_mapped : (limit : Option ℕ) (x : Part) (o : Object Ty) → making limit (part_map f x) (object_map (type_map f) o) ≡ making_map (making limit x o)
  making_mapped limit x o =
      rw (size_alike (type_map f) o, ← map-append (object_map (type_map f)) x.heap.objects (o ∷ []), length-map x.heap.objects (object_map (type_map f)))
      (elim (either (passes_limit limit (x.heap.used + object_size o))) [ inl e ↦ rw e refl | inr e ↦ rw e refl ])

  making_then_mapped : (limit : Option ℕ) (o : Object Ty) (c : Counted)
      → making_then limit (object_map (type_map f) o) (counted_map c) ≡ making_map (making_then limit o c)
  making_then_mapped limit o (Within x) = making_mapped limit x o
  making_then_mapped limit o (Halts e) = refl

  made_mapped : (terms : Terms) (x : Part) (o : Object Ty) → made_charged terms (part_map f x) (object_map (type_map f) o) ≡ making_map (made_charged terms x o)
  made_mapped terms x o =
      rw (size_alike (type_map f) o, counted_mapped terms.counting x charges.Alloc (object_size o))
      (making_then_mapped terms.limit o (counted terms.counting x charges.Alloc (object_size o)))

  text_mapped : (units : List ℕ) → text_object q units ≡ object_map (type_map f) (text_object p units)
  text_mapped units = ap (λ (name : Name). Text (class_type name) units) (sym (is.library (codes "java/lang/String")))

  fields_in_mapped : (o : Option (Object Ty)) (vs : List Value)
      → with_fields_in (option_map (object_map (type_map f)) o) vs ≡ option_map (object_map (type_map f)) (with_fields_in o vs)
  fields_in_mapped None vs = refl
  fields_in_mapped (Some (Instance class fields)) vs = refl
  fields_in_mapped (Some (Array class element contents)) vs = refl
  fields_in_mapped (Some (Text class units)) vs = refl

  elements_in_mapped : (o : Option (Object Ty)) (now : List ℤ)
      → with_elements_in (option_map (object_map (type_map f)) o) now ≡ option_map (object_map (type_map f)) (with_elements_in o now)
  elements_in_mapped None now = refl
  elements_in_mapped (Some (Instance class fields)) now = refl
  elements_in_mapped (Some (Array class element contents)) now =
      elim (either (nat_eq (length now) (length contents))) [ inl e ↦ rw e refl | inr e ↦ rw e refl ]
  elements_in_mapped (Some (Text class units)) now = refl

  set_mapped : (x : Part) (r : ℕ) (o : Option (Object Ty)) → set_object (part_map f x) r (option_map (object_map (type_map f)) o) ≡ part_map f (set_object x r o)
  set_mapped x r None = refl
  set_mapped x r (Some o) = rw (map-set (object_map (type_map f)) x.heap.objects (r - 1) o) refl

  set_fields_mapped : (x : Part) (r : ℕ) (vs : List Value) → set_fields (part_map f x) r vs ≡ part_map f (set_fields x r vs)
  set_fields_mapped x r vs =
      rw (object_at_mapped (type_map f) x.heap.objects r, fields_in_mapped (object_at x.heap.objects r) vs)
      (set_mapped x r (with_fields_in (object_at x.heap.objects r) vs))

  set_elements_mapped : (x : Part) (r : ℕ) (now : List ℤ) → set_elements (part_map f x) r now ≡ part_map f (set_elements x r now)
  set_elements_mapped x r now =
      rw (object_at_mapped (type_map f) x.heap.objects r, elements_in_mapped (object_at x.heap.objects r) now)
      (set_mapped x r (with_elements_in (object_at x.heap.objects r) now))

  raises_mapped : (x : Part) (raised : Option Raised) → raises_after (part_map f x) raised ≡ effect_map f (raises_after x raised)
  raises_mapped x None = refl
  raises_mapped x (Some raised) = refl

  returns_mapped : (m : Making) → returns_made (making_map m) ≡ effect_map f (returns_made m)
  returns_mapped (Made x r) = refl
  returns_mapped (NotMade e) = refl

  keeps_mapped : (object : ℕ) (m : Making) → keeps_made object (making_map m) ≡ effect_map f (keeps_made object m)
  keeps_mapped object (Made x r) = ap (λ y. returns y (Some (values.Ref object))) (set_fields_mapped x object (values.Ref r ∷ []))
  keeps_mapped object (NotMade e) = refl

  goes_mapped : (c : Counted) → goes_on (counted_map c) ≡ effect_map f (goes_on c)
  goes_mapped (Within x) = refl
  goes_mapped (Halts e) = refl

  pub perform_mapped : (terms : Terms) (x : Part) (a : Answer) → perform q terms (part_map f x) a ≡ effect_map f (perform p terms x a)
  unfolding perform
  perform_mapped terms x (Returns result) = refl
  perform_mapped terms x (Raises raised) = refl
  perform_mapped terms x (MakesText units) =
      ap returns_made (ap (made_charged terms (part_map f x)) (text_mapped units) ∙ made_mapped terms x (text_object p units))
      ∙ returns_mapped (made_charged terms x (text_object p units))
  perform_mapped terms x (KeepsText object units) =
      ap (keeps_made object) (ap (made_charged terms (part_map f x)) (text_mapped units) ∙ made_mapped terms x (text_object p units))
      ∙ keeps_mapped object (made_charged terms x (text_object p units))
  perform_mapped terms x (MakesChars units) =
      ap returns_made (made_mapped terms x (chars_object units)) ∙ returns_mapped (made_charged terms x (chars_object units))
  perform_mapped terms x (SetsFields object vs) = rw (set_fields_mapped x object vs) refl
  perform_mapped terms x (SetsElements array contents raised) =
      ap (λ y. raises_after y raised) (set_elements_mapped x array contents) ∙ raises_mapped (set_elements x array contents) raised
  perform_mapped terms x (Adds charge n) = ap goes_on (counted_mapped terms.counting x charge n) ∙ goes_mapped (counted terms.counting x charge n)
  perform_mapped terms x (Rethrows object) =
      rw (class_at_mapped x.heap object, is.stop (class_at_number x.heap object))
      (elim (either (is_stop p (class_at_number x.heap object))) [ inl e ↦ rw e refl | inr e ↦ rw e refl ])

  with_answer_mapped : (terms : Terms) (x : Part) (id : NativeId) (args : List Value) (z : Option ℤ)
      → with_answer other q terms (part_map f x) id args z ≡ option_map (effect_map f) (with_answer program p terms x id args z)
  with_answer_mapped terms x id args None = refl
  with_answer_mapped terms x id args (Some z) =
      ap Some (ap (λ s. perform q terms (part_map f x) (host_answer id s z args)) (seen_alike x.heap)
      ∙ perform_mapped terms x (host_answer id (seen program p x.heap) z args))

  host_asked_mapped : (terms : Terms) (x : Part) (id : NativeId) (args : List Value) (question : Question) (answers : List HostAnswer)
      → host_asked other q terms (part_map f x) id args question answers ≡ option_map (effect_map f) (host_asked program p terms x id args question answers)
  host_asked_mapped terms x id args question [] = refl
  host_asked_mapped terms x id args question (first ∷ rest) = with_answer_mapped terms (record x { answers = rest }) id args (answered question first)

  asked_mapped : (terms : Terms) (x : Part) (id : NativeId) (args : List Value) (question : Option Question)
      → native_asked other q terms (part_map f x) id args question ≡ option_map (effect_map f) (native_asked program p terms x id args question)
  asked_mapped terms x id args None =
      ap Some (ap (λ s. perform q terms (part_map f x) (answer id s args)) (seen_alike x.heap)
      ∙ perform_mapped terms x (answer id (seen program p x.heap) args))
  asked_mapped terms x id args (Some question) = host_asked_mapped terms x id args question x.answers

  native_mapped : (terms : Terms) (x : Part) (id : NativeId) (args : List Value)
      → native other q terms (part_map f x) id args ≡ option_map (effect_map f) (native program p terms x id args)
  unfolding native
  native_mapped terms x id args = asked_mapped terms x id args (asks id args)

  -- ---- fields

  abbrev field_found : FoundField → FoundField
  field_found found = names.found_field_map f g p q is found

  abbrev method_found : FoundMethod → FoundMethod
  method_found found = names.found_map f g p q is found

  pub get_static_mapped : (x : Part) (kind : Option Kind) (found : Option FoundField)
      → get_static other (part_map f x) kind (option_map field_found found) ≡ option_map (effect_map f) (get_static program x kind found)
  get_static_mapped x None found = refl
  get_static_mapped x (Some kind) None = refl
  get_static_mapped x (Some kind) (Some found) = rw (statics found.class found.field.name found.field.desc) refl

  pub put_static_mapped : (x : Part) (kind : Option Kind) (found : Option FoundField) (operands : List Value)
      → put_static other (part_map f x) kind (option_map field_found found) operands ≡ option_map (effect_map f) (put_static program x kind found operands)
  put_static_mapped x None found operands = refl
  put_static_mapped x (Some kind) None operands = refl
  put_static_mapped x (Some kind) (Some found) [] = refl
  put_static_mapped x (Some kind) (Some found) (v ∷ rest) =
      rw (statics found.class found.field.name found.field.desc)
      (elim (either (is_of_kind kind v)) [ inl e ↦ rw e refl | inr e ↦ rw e refl ])

  abbrev holder_map : Holder → Holder
  holder_map NullHolder = NullHolder
  holder_map NoHolder = NoHolder
  holder_map (Holds class fields) = Holds (type_map f class) fields

  holder_in_mapped : (declaring : Name) (o : Option (Object Ty))
      → holder_in other q (f declaring) (option_map (object_map (type_map f)) o) ≡ holder_map (holder_in program p declaring o)
  holder_in_mapped declaring None = refl
  holder_in_mapped declaring (Some (Instance class fields)) =
      rw (
        names.member_class_mapped f g p q is class,
        names.chain_mapped f g p q is program other at (member_class p class),
        names.among_alike f g p q is (chain program (member_class p class)) declaring,
      )
      (elim (either (is_among (chain program (member_class p class)) declaring)) [ inl e ↦ rw e refl | inr e ↦ rw e refl ])
  holder_in_mapped declaring (Some (Array class element contents)) = refl
  holder_in_mapped declaring (Some (Text class units)) = refl

  holder_mapped : (declaring : Name) (heap : Heap Ty) (r : ℕ)
      → holder_at other q (f declaring) (heap_with heap) r ≡ holder_map (holder_at program p declaring heap r)
  holder_mapped declaring heap r =
      rw (object_at_mapped (type_map f) heap.objects r, holder_in_mapped declaring (object_at heap.objects r))
      (elim (either (nat_eq r 0)) [ inl e ↦ rw e refl | inr e ↦ rw e refl ])

  get_from_mapped : (x : Part) (rest : List Value) (kind : Kind) (place : ℕ) (h : Holder)
      → get_from (part_map f x) rest kind place (holder_map h) ≡ effect_map f (get_from x rest kind place h)
  get_from_mapped x rest kind place NullHolder = refl
  get_from_mapped x rest kind place NoHolder = refl
  get_from_mapped x rest kind place (Holds class fields) = refl

  put_in_mapped : (x : Part) (rest : List Value) (place r : ℕ) (v : Value) (h : Holder)
      → put_in (part_map f x) rest place r v (holder_map h) ≡ effect_map f (put_in x rest place r v h)
  put_in_mapped x rest place r v NullHolder = refl
  put_in_mapped x rest place r v NoHolder = refl
  put_in_mapped x rest place r v (Holds class fields) = rw (map-set (object_map (type_map f)) x.heap.objects (r - 1) (Instance class (set fields place (field_bits v)))) refl

  pub get_field_mapped : (x : Part) (kind : Option Kind) (found : Option FoundField) (operands : List Value)
      → get_field other q (part_map f x) kind (option_map field_found found) operands ≡ option_map (effect_map f) (get_field program p x kind found operands)
  get_field_mapped x (Some kind) (Some found) (values.Ref r ∷ rest) =
      rw (names.place_alike f g p q is program other at found, holder_mapped found.class x.heap r)
      (ap Some (get_from_mapped x rest kind (place_of program found) (holder_at program p found.class x.heap r)))
  get_field_mapped x (Some kind) (Some found) _ = refl
  get_field_mapped x (Some kind) None operands = refl
  get_field_mapped x None found operands = refl

  pub put_field_mapped : (x : Part) (kind : Option Kind) (found : Option FoundField) (operands : List Value)
      → put_field other q (part_map f x) kind (option_map field_found found) operands ≡ option_map (effect_map f) (put_field program p x kind found operands)
  put_field_mapped x (Some kind) (Some found) (v ∷ (values.Ref r ∷ rest)) =
      rw (names.place_alike f g p q is program other at found, holder_mapped found.class x.heap r) (elim (either (is_of_kind kind v)) [
        | inl e ↦ rw e (ap Some (put_in_mapped x rest (place_of program found) r v (holder_at program p found.class x.heap r)))
        | inr e ↦ rw e refl
      ])
  put_field_mapped x (Some kind) (Some found) _ = refl
  put_field_mapped x (Some kind) None operands = refl
  put_field_mapped x None found operands = refl

  -- ---- literals, casts and thrown objects

  abbrev pub kept_map : Kept → Kept
  kept_map k = record { object = k.object; heap = heap_with k.heap; literals = k.literals }

  kept_mapped : (limit : Option ℕ) (heap : Heap Ty) (literals : List Literal) (units : List ℕ) (r : Option ℕ)
      → kept_or_made limit q (heap_with heap) literals units r ≡ option_map kept_map (kept_or_made limit p heap literals units r)
  kept_mapped limit heap literals units (Some r) = refl
  kept_mapped limit heap literals units None =
      rw (text_mapped units, ← map-append (object_map (type_map f)) heap.objects (text_object p units ∷ []), length-map heap.objects (object_map (type_map f)))
      (elim (either (passes_limit limit (heap.used + text_size units))) [ inl e ↦ rw e refl | inr e ↦ rw e refl ])

  pub literal_mapped : (limit : Option ℕ) (heap : Heap Ty) (literals : List Literal) (units : List ℕ)
      → with_literal limit q (heap_with heap) literals units ≡ option_map kept_map (with_literal limit p heap literals units)
  unfolding with_literal
  literal_mapped limit heap literals units = kept_mapped limit heap literals units (literal_in literals units)

  pub push_mapped : (x : Part) (units : List ℕ) (k : Option Kept) → push_kept (part_map f x) units (option_map kept_map k) ≡ effect_map f (push_kept x units k)
  push_mapped x units None = refl
  push_mapped x units (Some k) = refl

  pub cast_mapped : (x : Part) (class : Ty) (operands : List Value)
      → check_cast other q (part_map f x) (type_map f class) operands ≡ option_map (effect_map f) (check_cast program p x class operands)
  cast_mapped x class (values.Ref r ∷ rest) = rw (instance_alike x.heap r class)
      (elim (either (is_instance program p x.heap r class)) [ inl i ↦ rw i refl | inr i ↦ rw i refl ])
  cast_mapped x class _ = refl

  pub instance_of_mapped : (x : Part) (class : Ty) (operands : List Value)
      → instance_of other q (part_map f x) (type_map f class) operands ≡ option_map (effect_map f) (instance_of program p x class operands)
  instance_of_mapped x class (values.Ref r ∷ rest) = rw (instance_alike x.heap r class) refl
  instance_of_mapped x class _ = refl

  pub throw_mapped : (x : Part) (operands : List Value)
      → throw_top other q (part_map f x) operands ≡ option_map (effect_map f) (throw_top program p x operands)
  throw_mapped x (values.Ref r ∷ rest) =
      rw (← is.library (codes "java/lang/Throwable"), instance_alike x.heap r (class_type (throwable_name p)))
      (go (nat_eq r 0) (is_instance program p x.heap r (class_type (throwable_name p)))) where
        go : (null instance : Bool)
            → Some (if null then goes (part_map f x) (Goes (Raise raises.NullPointer)) else if instance then goes (part_map f x) (Catch r) else broken (part_map f x))
            ≡ option_map (effect_map f) (Some (if null then goes x (Goes (Raise raises.NullPointer)) else if instance then goes x (Catch r) else broken x))
        go true instance = refl
        go false true = refl
        go false false = refl
  throw_mapped x _ = refl

  -- ---- calls

  instances_alike : (heap : Heap Ty) (types : List Ty) (args : List Value)
      → are_instances other q (heap_with heap) (map (type_map f) types) args ≡ are_instances program p heap types args
  instances_alike heap [] args = refl
  instances_alike heap (type ∷ types) [] = refl
  instances_alike heap (type ∷ types) (values.Int z ∷ args) = instances_alike heap types args
  instances_alike heap (type ∷ types) (values.Long z ∷ args) = instances_alike heap types args
  instances_alike heap (type ∷ types) (values.Ref r ∷ args) = rw (instance_alike heap r type, instances_alike heap types args) refl

  body_mapped : (terms : Terms) (x : Part) (found : FoundMethod) (receiver args : List Value) (types : List Ty) (body : Body)
      → run_body other q terms (part_map f x) (method_found found) receiver args (map (type_map f) types) (body_map g body)
      ≡ option_map (effect_map f) (run_body program p terms x found receiver args types body)
  body_mapped terms x found receiver args types Abstract = refl
  body_mapped terms x found receiver args types (Runs code) = refl
  body_mapped terms x found receiver args types (Native id) = rw (instances_alike x.heap types args)
      (elim (either (are_instances program p x.heap types args)) [
        | inl i ↦ rw i (native_mapped terms x id (receiver ++ args))
        | inr i ↦ rw i refl
      ])

  run_mapped : (terms : Terms) (x : Part) (receiver args : List Value) (types : List Ty) (found : Option FoundMethod)
      → run_method other q terms (part_map f x) receiver args (map (type_map f) types) (option_map method_found found)
      ≡ option_map (effect_map f) (run_method program p terms x receiver args types found)
  run_mapped terms x receiver args types None = refl
  run_mapped terms x receiver args types (Some found) = body_mapped terms x found receiver args types found.method.body

  received_mapped : (x : Part) (r : ℕ) (declaring : Name) (a b : Option Effect) → b ≡ option_map (effect_map f) a
      → received other q (part_map f x) r (f declaring) b ≡ option_map (effect_map f) (received program p x r declaring a)
  received_mapped x r declaring a b e = rw (instance_alike x.heap r (class_type declaring), e)
      (go (nat_eq r 0) (is_instance program p x.heap r (class_type declaring))) where
        go : (null instance : Bool)
            → (if null then Some (goes (part_map f x) (Goes (Raise raises.NullPointer))) else if instance then option_map (effect_map f) a else Some (broken (part_map f x)))
            ≡ option_map (effect_map f) (if null then Some (goes x (Goes (Raise raises.NullPointer))) else if instance then a else Some (broken x))
        go true instance = refl
        go false true = refl
        go false false = refl

  special_mapped : (terms : Terms) (x : Part) (resolved : FoundMethod) (r : ℕ) (args : List Value) (types : List Ty) (found : Option FoundMethod)
      → call_special other q terms (part_map f x) (method_found resolved) r args (map (type_map f) types) (option_map method_found found)
      ≡ option_map (effect_map f) (call_special program p terms x resolved r args types found)
  special_mapped terms x resolved r args types None = received_mapped x r resolved.class _ _ (run_mapped terms x (values.Ref r ∷ []) args types None)
  special_mapped terms x resolved r args types (Some found) = received_mapped x r found.class _ _ (run_mapped terms x (values.Ref r ∷ []) args types (Some found))

  virtual_mapped : (terms : Terms) (x : Part) (resolved : FoundMethod) (r : ℕ) (args : List Value) (types : List Ty)
      → call_virtual other q terms (part_map f x) (method_found resolved) r args (map (type_map f) types)
      ≡ option_map (effect_map f) (call_virtual program p terms x resolved r args types)
  virtual_mapped terms x resolved r args types =
      ap (λ (class : Ty). received other q (part_map f x) r (f resolved.class)
      (run_method other q terms (part_map f x) (values.Ref r ∷ []) args (map (type_map f) types) (select other q (method_found resolved) class)))
      (class_at_mapped x.heap r)
      ∙ (ap (λ (found : Option FoundMethod). received other q (part_map f x) r (f resolved.class)
      (run_method other q terms (part_map f x) (values.Ref r ∷ []) args (map (type_map f) types) found))
      (names.select_mapped f g p q is program other at resolved (class_at_number x.heap r))
      ∙ received_mapped x r resolved.class _ _ (run_mapped terms x (values.Ref r ∷ []) args types (select program p resolved (class_at_number x.heap r))))

  call_mapped : (terms : Terms) (own : Name) (mode : Mode) (x : Part) (resolved : FoundMethod) (types : List Ty) (args rest : List Value)
      → call other q terms (f own) mode (part_map f x) (method_found resolved) (map (type_map f) types) args rest
      ≡ option_map (effect_map f) (call program p terms own mode x resolved types args rest)
  call_mapped terms own Static x resolved types args rest = run_mapped terms (record x { operands = rest }) [] args types (Some resolved)
  call_mapped terms own Special x resolved types args (values.Ref r ∷ rest) =
      rw (names.special_mapped f g p q is program other at own resolved)
      (special_mapped terms (record x { operands = rest }) resolved r args types (special_method program own resolved))
  call_mapped terms own Virtual x resolved types args (values.Ref r ∷ rest) = virtual_mapped terms (record x { operands = rest }) resolved r args types
  call_mapped terms own (Interface count) x resolved types args (values.Ref r ∷ rest) = virtual_mapped terms (record x { operands = rest }) resolved r args types
  call_mapped terms own mode x resolved types args _ = refl

  call_with_mapped : (terms : Terms) (own : Name) (mode : Mode) (desc : Desc) (x : Part) (found : Option FoundMethod) (a : Option Arguments)
      → call_with other q terms (f own) mode (desc_map f desc) (part_map f x) (option_map method_found found) a
      ≡ option_map (effect_map f) (call_with program p terms own mode desc x found a)
  call_with_mapped terms own mode desc x None a = refl
  call_with_mapped terms own mode desc x (Some resolved) None = refl
  call_with_mapped terms own mode desc x (Some resolved) (Some a) =
      rw (names.parameters_mapped f g p q is desc) (call_mapped terms own mode x resolved (parameters_of desc) a.values a.rest)

  pub invoke_mapped : (terms : Terms) (own : Name) (mode : Mode) (m : Member) (x : Part)
      → invoke other q terms (f own) mode (member_map f m) (part_map f x) ≡ option_map (effect_map f) (invoke program p terms own mode m x)
  unfolding invoke
  invoke_mapped terms own mode m x =
      rw (names.resolve_method_mapped f g p q is program other at m, names.parameters_mapped f g p q is m.desc, names.kinds_alike f g p q is (parameters_of m.desc))
      (call_with_mapped terms own mode m.desc x (resolve_method program p m) (arguments_of (kinds_of (parameters_of m.desc)) x.operands))
