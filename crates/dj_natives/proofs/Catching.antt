-- The object that stops the run, and whether it is caught.
use Rattle.std.proofs.Common.{◌≡◌, ℕ, ◌<◌, true, false, List, [], ◌∷◌, length, Option, Some, None, refl, ap, sym, subst, ◌∙◌}
use Rattle.std.specs.Option.{option_map}
use Rattle.dj_names.specs.declared.descriptor.Base.TheVariants as bases
use Rattle.dj_names.specs.declared.descriptor.Ty.{Ty}
use Rattle.dj_names.specs.declared.run.Value.{Value}
use Rattle.dj_names.specs.declared.native.NativeId.TheVariants as natives
use Rattle.dj_names.specs.trusted.Types.{base_array}
use Rattle.dj_names.specs.trusted.Heaps.{Object, class_of}
use Rattle.dj_names.specs.Heaps.{object_map}
use Rattle.dj_heap.specs.Heaps.{LimitedHeap, object_in}
use Rattle.dj_model.specs.trusted.Types.{Prefix, is_stop}
use Rattle.dj_model.specs.trusted.Program.{Program}
use Rattle.dj_model.specs.trusted.State.{Terms, Part, Flow, Goes, Next, Catch, goes}
use Rattle.dj_model.specs.trusted.Natives.{Rethrows, reference, answer}
use Rattle.dj_model.specs.trusted.Performing.{class_in, class_at_number, perform}
use Rattle.dj_model.proofs.MappedHeaps.{object_at_mapped, class_of_mapped}
use Rattle.dj_library_types.specs.Numbered.{type_at, is_number, SaysStop}
use Rattle.dj_natives.specs.declared.answer.NativeAnswer.{NativeAnswer}
use Rattle.dj_natives.specs.declared.answer.NativeAnswer.TheVariants as reported
use Rattle.dj_natives.specs.Counting.{Counter}
use Rattle.dj_natives.specs.Calls.{typed_heap, terms_of, part_with, effect_with, Acts}
use Rattle.dj_natives.specs.Known.{AreKnown}
use Rattle.dj_natives.proofs.Counted.{native_does, heap_of}
use Rattle.dj_natives.proofs.Performed.{known_at}

class_found : (types : List Ty) (o : Option (Object ℕ)) (class : ℕ) → option_map class_of o ≡ Some class → class_in (option_map (object_map (type_at types)) o) ≡ type_at types class
class_found types None class e = absurd cc
class_found types (Some o) class e = let same : class_of o ≡ class = cc in class_of_mapped (type_at types) o ∙ ap (type_at types) same

pub class_typed : (types : List Ty) (h : LimitedHeap) (r class : ℕ) → option_map class_of (object_in h r) ≡ Some class → class_at_number (typed_heap types h) r ≡ type_at types class
class_typed types h r class e = ap class_in (object_at_mapped (type_at types) h.heap.objects r) ∙ class_found types (object_in h r) class e

no_class : (types : List Ty) (h : LimitedHeap) (r : ℕ) → object_in h r ≡ None → class_at_number (typed_heap types h) r ≡ base_array bases.Boolean
no_class types h r e = ap class_in (object_at_mapped (type_at types) h.heap.objects r) ∙ ap (λ o. class_in (option_map (object_map (type_at types)) o)) e

known_class : (types : List Ty) (h : LimitedHeap) (r class : ℕ) (o : Option (Object ℕ)) → object_in h r ≡ o → option_map class_of o ≡ Some class → AreKnown types h → class < length types
known_class types h r class None is e known = absurd cc
known_class types h r class (Some o) is e known =
    let same : class_of o ≡ class = cc in
    subst (λ k. k < length types) same (known_at types h r o is known).class

pub class_known : (types : List Ty) (h : LimitedHeap) (r class : ℕ) → option_map class_of (object_in h r) ≡ Some class → AreKnown types h → class < length types
class_known types h r class e known = known_class types h r class (object_in h r) refl e known

pub stop_found : (prefix : Prefix) (types : List Ty) (h : LimitedHeap) (r n class : ℕ) (stop : Option ℕ) → n ≡ r → option_map class_of (object_in h n) ≡ Some class
    → AreKnown types h → SaysStop types prefix stop → is_number stop class ≡ is_stop prefix (class_at_number (typed_heap types h) r)
stop_found prefix types h r n class stop same e known says =
    sym (ap (λ k. is_stop prefix (class_at_number (typed_heap types h) k)) (sym same)
    ∙ ap (is_stop prefix) (class_typed types h n class e) ∙ says class (class_known types h n class e known))

-- an array is no class that stops the run
no_stop : (prefix : Prefix) → is_stop prefix (base_array bases.Boolean) ≡ false
no_stop [] = refl
no_stop (byte ∷ prefix) = refl

pub stop_none : (prefix : Prefix) (types : List Ty) (h : LimitedHeap) (r : ℕ) → object_in h r ≡ None → is_stop prefix (class_at_number (typed_heap types h) r) ≡ false
stop_none prefix types h r e = ap (is_stop prefix) (no_class types h r e) ∙ no_stop prefix

-- ---- checkCatch

catches_at : (prefix : Prefix) (terms : Terms) (p : Part) (r : ℕ) → is_stop prefix (class_at_number p.heap r) ≡ true → perform prefix terms p (Rethrows r) ≡ goes p (Catch r)
unfolding perform
catches_at prefix terms p r e = rw e refl

passes_at : (prefix : Prefix) (terms : Terms) (p : Part) (r : ℕ) → is_stop prefix (class_at_number p.heap r) ≡ false → perform prefix terms p (Rethrows r) ≡ goes p (Goes Next)
unfolding perform
passes_at prefix terms p r e = rw e refl

effect_reported : (types : List Ty) (h : LimitedHeap) (c : Option Counter) (p : Part) (flow : Flow) → goes (part_with types h c p) flow ≡ effect_with types h c reported.Stop p flow
effect_reported types h None p flow = refl
effect_reported types h (Some c) p flow = refl

module _ (program : Program) (prefix : Prefix) (types : List Ty) (h : LimitedHeap) (args : List Value) (known : AreKnown types h) where
  pub catches : is_stop prefix (class_at_number (typed_heap types h) (reference 0 args)) ≡ true → Acts program prefix types h h natives.CheckCatch args reported.Stop
  unfolding answer
  catches e = record {
    does = λ c p. native_does program prefix types h c p natives.CheckCatch args (Rethrows (reference 0 args)) refl refl
        ∙ ap Some (catches_at prefix (terms_of h c) (part_with types h c p) (reference 0 args)
        (ap (λ heap. is_stop prefix (class_at_number heap (reference 0 args))) (heap_of types h c p) ∙ e) ∙ effect_reported types h c p (Catch (reference 0 args)));
    heap = refl;
    known = known;
  }

  pub passes_by : is_stop prefix (class_at_number (typed_heap types h) (reference 0 args)) ≡ false → Acts program prefix types h h natives.CheckCatch args reported.Nothing
  unfolding answer
  passes_by e = record {
    does = λ c p. native_does program prefix types h c p natives.CheckCatch args (Rethrows (reference 0 args)) refl refl
        ∙ ap Some (passes_at prefix (terms_of h c) (part_with types h c p) (reference 0 args)
        (ap (λ heap. is_stop prefix (class_at_number heap (reference 0 args))) (heap_of types h c p) ∙ e) ∙ effect_reported types h c p (Goes Next));
    heap = refl;
    known = known;
  }
