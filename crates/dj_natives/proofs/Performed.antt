-- What is done of an answer, where what it owes is charged.
use Rattle.std.proofs.Common.{◌≡◌, ℕ, ◌+◌, ◌*◌, ◌^◌, ◌-◌, ◌<◌, true, false, List, [], ◌∷◌, ◌++◌, ℤ, pos, length, map, replicate, set, Option, Some, None, refl, ap, sym, subst, ◌∙◌, arith, get_or, Fits, w16}
use Rattle.std.specs.Prelude.{slice_get, unwrap_or, IsTrue}
use Rattle.std.specs.Option.{option_map}
use Rattle.std.specs.List.{All}
use Rattle.std.specs.Int.{int_rem_euclid}
use Rattle.std.proofs.lemmas.List.{length-map, length-replicate}
use Rattle.std.proofs.lemmas.List.Elements.{All-push, All-same, All-set, All-get_or, All-from_get_or}
use Rattle.std.proofs.lemmas.Bool.{le-ltb, lt-ltb}
use Rattle.std.proofs.lemmas.Option.{slice_get_within}
use Rattle.dj_names.specs.declared.descriptor.Base.TheVariants as bases
use Rattle.dj_names.specs.declared.descriptor.Ty.{Ty}
use Rattle.dj_names.specs.declared.run.Element.TheVariants as elements
use Rattle.dj_names.specs.declared.run.Outcome.TheVariants as outcomes
use Rattle.dj_names.specs.declared.run.Value.{Value}
use Rattle.dj_names.specs.declared.run.Value.TheVariants as values
use Rattle.dj_names.specs.declared.run.Raised.{Raised}
use Rattle.dj_names.specs.declared.run.Charge.{Charge}
use Rattle.dj_names.specs.trusted.Heaps.{Object, Instance, Array, Text, object_at, object_size, with_new, with_object, next_number, class_of, array_size}
use Rattle.dj_names.specs.Heaps.{object_map, heap_map}
use Rattle.dj_names.specs.trusted.Types.{class_type, base_array}
use Rattle.dj_heap.specs.Heaps as heaps
use Rattle.dj_heap.specs.Heaps.{LimitedHeap, object_in, Refuses}
use Rattle.dj_heap.specs.declared.errors.HeapError.{HeapError}
use Rattle.dj_heap.specs.declared.errors.HeapError.TheVariants as errors
use Rattle.dj_model.specs.trusted.Types.{Prefix, string_name}
use Rattle.dj_model.specs.trusted.State.{Part, Next, Goes, End, goes}
use Rattle.dj_model.specs.trusted.Arrays.{passes_limit}
use Rattle.dj_model.specs.trusted.Natives.{Answer, Returns, Raises, MakesText, KeepsText, MakesChars, SetsFields, Adds, is_reference}
use Rattle.dj_model.specs.trusted.Performing.{Making, Made, NotMade, making, returns_made, keeps_made, returns, text_object, chars_object, set_fields, set_object, with_fields, with_fields_in, perform}
use Rattle.dj_model.proofs.MappedHeaps.{object_at_mapped, size_alike, new_mapped, number_alike, object_set}
use Rattle.dj_library_types.specs.Numbered.{type_at}
use Rattle.dj_natives.specs.declared.answer.NativeAnswer.{NativeAnswer}
use Rattle.dj_natives.specs.declared.answer.NativeAnswer.TheVariants as reported
use Rattle.dj_natives.specs.Calls.{typed_heap, part_with, terms_of, Done, Performs, SetsField, set_in, with_reference, with_values, returned, refused_as, Fills, effect_with}
use Rattle.dj_natives.specs.Known.{AreKnown, IsKnown}
use Rattle.dj_natives.proofs.HeapLaws.{set_twice, there_within, there_is, there_set, remade, made_there}

-- ---- objects are made

making_fits : (limit : Option ℕ) (p : Part) (object : Object Ty) → passes_limit limit (p.heap.used + object_size object) ≡ false
    → making limit p object ≡ Made (record p { heap = with_new p.heap object }) (next_number p.heap)
making_fits limit p object e = rw e refl

making_full : (limit : Option ℕ) (p : Part) (object : Object Ty) → passes_limit limit (p.heap.used + object_size object) ≡ true
    → making limit p object ≡ NotMade (goes p (End (outcomes.HeapFull p.heap.used (object_size object))))
making_full limit p object e = rw e refl

module _ (types : List Ty) where
  pub type_is : (class : ℕ) (ty : Ty) → slice_get types class ≡ Some ty → type_at types class ≡ ty
  type_is class ty e = ap (λ o. unwrap_or o (class_type [])) e

  pub made : (old new : LimitedHeap) (o : Object ℕ) (r : ℕ) → heaps.Makes old new o r → (p : Part)
      → making (Some old.limit) (part_with types old None p) (object_map (type_at types) o) ≡ Made (part_with types new None p) r
  made old new o r makes p =
      let f = type_at types in
      let fits : passes_limit (Some old.limit) (old.heap.used + object_size (object_map f o)) ≡ false =
      ap (λ s. passes_limit (Some old.limit) (old.heap.used + s)) (size_alike f o) ∙ le-ltb old.limit (old.heap.used + object_size o) makes.fits in
      making_fits (Some old.limit) (part_with types old None p) (object_map f o) fits
      ∙ ap (λ heap. Made (record p { heap = heap }) (next_number (typed_heap types old))) (new_mapped f old.heap o ∙ ap (λ h. typed_heap types h) (sym makes.heap))
      ∙ ap (Made (part_with types new None p)) (number_alike f old.heap ∙ sym makes.number)

  pub full : (old : LimitedHeap) (o : Object ℕ) (used size : ℕ) → Refuses old (object_size o) (errors.Full used size) → (p : Part)
      → making (Some old.limit) (part_with types old None p) (object_map (type_at types) o)
      ≡ NotMade (goes (part_with types old None p) (End (outcomes.HeapFull used size)))
  full old o used size refuses p =
      let f = type_at types in
      let past : passes_limit (Some old.limit) (old.heap.used + object_size (object_map f o)) ≡ true =
      ap (λ s. passes_limit (Some old.limit) (old.heap.used + s)) (size_alike f o) ∙ lt-ltb old.limit (old.heap.used + object_size o) refuses.2 in
      making_full (Some old.limit) (part_with types old None p) (object_map f o) past
      ∙ ap (λ n. NotMade (goes (part_with types old None p) (End (outcomes.HeapFull old.heap.used n)))) (size_alike f o ∙ sym refuses.1)
      ∙ ap (λ n. NotMade (goes (part_with types old None p) (End (outcomes.HeapFull n size)))) (sym refuses.0)

-- ---- what is known of the heap

pub known_made : (types : List Ty) (old new : LimitedHeap) (o : Object ℕ) (r : ℕ) → heaps.Makes old new o r → AreKnown types old → IsKnown types o → AreKnown types new
known_made types old new o r makes known is =
    let listed : new.heap.objects ≡ old.heap.objects ++ o ∷ [] = ap (λ (h : LimitedHeap). h.heap.objects) makes.heap in
    All-same (IsKnown types) new.heap.objects (old.heap.objects ++ o ∷ []) listed (All-push (IsKnown types) old.heap.objects o known is)

known_text : (types : List Ty) (class : ℕ) (units : List ℕ) (ty : Ty) → slice_get types class ≡ Some ty → IsKnown types (Text class units)
known_text types class units ty e = record { class = slice_get_within types class ty e; holds = tt }

known_instance : (types : List Ty) (class : ℕ) (fields others : List ℕ) → IsKnown types (Instance class fields) → IsKnown types (Instance class others)
known_instance types class fields others known = record { class = known.class; holds = known.holds }

pub known_at : (types : List Ty) (h : LimitedHeap) (r : ℕ) (o : Object ℕ) → object_in h r ≡ Some o → AreKnown types h → IsKnown types o
known_at types h r o e known =
    let within = there_within h.heap.objects r o e in
    subst (IsKnown types) (there_is h.heap.objects r o e) (All-get_or (IsKnown types) h.heap.objects (r - 1) o within known)

-- one object is another that is known
pub known_set : (types : List Ty) (h : LimitedHeap) (r : ℕ) (changed : Object ℕ) → AreKnown types h → IsKnown types changed
    → AreKnown types (record h { heap = with_object h.heap r changed })
known_set types h r changed known is = All-set (IsKnown types) h.heap.objects (r - 1) changed is known

-- ---- fields are set

sets_found : (types : List Ty) (h : LimitedHeap) (object : ℕ) (vs : List Value) (p : Part) (o : Option (Object ℕ))
    → set_object (part_with types h None p) object (with_fields_in (option_map (object_map (type_at types)) o) vs) ≡ part_with types (set_in h object (with_values o vs)) None p
sets_found types h object vs p None = refl
sets_found types h object vs p (Some (Instance class fields)) =
    ap (λ heap. record p { heap = heap }) (object_set (type_at types) h.heap object (Instance class (with_fields fields vs)))
sets_found types h object vs p (Some (Array class element contents)) = refl
sets_found types h object vs p (Some (Text class units)) = refl

pub sets_typed : (types : List Ty) (h : LimitedHeap) (object : ℕ) (vs : List Value) (p : Part)
    → set_fields (part_with types h None p) object vs ≡ part_with types (set_in h object (with_values (object_in h object) vs)) None p
sets_typed types h object vs p =
    ap (λ o. set_object (part_with types h None p) object (with_fields_in o vs)) (object_at_mapped (type_at types) h.heap.objects object)
    ∙ sets_found types h object vs p (object_in h object)

pub one_value : (o : Option (Object ℕ)) (r : ℕ) → with_reference o 0 r ≡ with_values o (values.Ref r ∷ [])
one_value None r = refl
one_value (Some (Instance class [])) r = refl
one_value (Some (Instance class (bits ∷ fields))) r = refl
one_value (Some (Array class element contents)) r = refl
one_value (Some (Text class units)) r = refl

two_fields : (fields : List ℕ) (a b : ℕ) → set (set fields 0 a) 1 b ≡ with_fields fields (values.Ref a ∷ values.Ref b ∷ [])
two_fields [] a b = refl
two_fields (x ∷ []) a b = refl
two_fields (x ∷ (y ∷ fields)) a b = refl

two_found : (h : LimitedHeap) (object a b : ℕ) (o : Option (Object ℕ)) → object_in h object ≡ o
    → set_in (set_in h object (with_reference o 0 a)) object (with_reference (object_in (set_in h object (with_reference o 0 a)) object) 1 b)
    ≡ set_in h object (with_values o (values.Ref a ∷ values.Ref b ∷ []))
two_found h object a b None e = ap (λ o. set_in h object (with_reference o 1 b)) e
two_found h object a b (Some (Array class element contents)) e = ap (λ o. set_in h object (with_reference o 1 b)) e
two_found h object a b (Some (Text class units)) e = ap (λ o. set_in h object (with_reference o 1 b)) e
two_found h object a b (Some (Instance class fields)) e =
    let first : LimitedHeap = record h { heap = with_object h.heap object (Instance class (set fields 0 a)) } in
    ap (λ o. set_in first object (with_reference o 1 b)) (there_set h.heap.objects object (Instance class fields) e (Instance class (set fields 0 a)))
    ∙ ap (λ l. record { heap = record { objects = l; used = h.heap.used }; limit = h.limit })
    (set_twice h.heap.objects (object - 1) (Instance class (set fields 0 a)) (Instance class (set (set fields 0 a) 1 b)))
    ∙ ap (λ l. record h { heap = with_object h.heap object (Instance class l) }) (two_fields fields a b)

pub two_values : (h mid new : LimitedHeap) (object a b : ℕ) → SetsField h mid object 0 a → SetsField mid new object 1 b
    → new ≡ set_in h object (with_values (object_in h object) (values.Ref a ∷ values.Ref b ∷ []))
two_values h mid new object a b first second =
    second ∙ ap (λ (m : LimitedHeap). set_in m object (with_reference (object_in m object) 1 b)) first ∙ two_found h object a b (object_in h object) refl

known_found : (types : List Ty) (h : LimitedHeap) (object : ℕ) (vs : List Value) (o : Option (Object ℕ)) → object_in h object ≡ o → AreKnown types h
    → AreKnown types (set_in h object (with_values o vs))
known_found types h object vs None e known = known
known_found types h object vs (Some (Array class element contents)) e known = known
known_found types h object vs (Some (Text class units)) e known = known
known_found types h object vs (Some (Instance class fields)) e known =
    known_set types h object (Instance class (with_fields fields vs)) known
    (known_instance types class fields (with_fields fields vs) (known_at types h object (Instance class fields) e known))

pub known_values : (types : List Ty) (h : LimitedHeap) (object : ℕ) (vs : List Value) → AreKnown types h
    → AreKnown types (set_in h object (with_values (object_in h object) vs))
known_values types h object vs known = known_found types h object vs (object_in h object) refl known

limit_found : (h : LimitedHeap) (object : ℕ) (o : Option (Object ℕ)) → (set_in h object o).limit ≡ h.limit
limit_found h object None = refl
limit_found h object (Some changed) = refl

-- each unit has 16 bits
pub few_units : (us : List ℕ) → ((k : ℕ) → Fits w16 (get_or us k 0)) → All (λ u. u < 2 ^ 16) us
few_units us fits = All-from_get_or (λ u. u < 2 ^ 16) us 0 (λ i within. omega (arith, fits i))

-- ---- answers that are done

module _ (prefix : Prefix) (types : List Ty) where
  pub returns_done : (h : LimitedHeap) (result : Option Value) → AreKnown types h → Done prefix types h h (Returns result) (returned result)
  unfolding perform
  returns_done h None known = record { does = λ p. refl; heap = refl; known = known }
  returns_done h (Some v) known = record { does = λ p. refl; heap = refl; known = known }

  pub raises_done : (h : LimitedHeap) (raised : Raised) → AreKnown types h → Done prefix types h h (Raises raised) (reported.Raise raised)
  unfolding perform
  raises_done h raised known = record { does = λ p. refl; heap = refl; known = known }

  pub adds_done : (h : LimitedHeap) (charge : Charge) (n : ℕ) → AreKnown types h → Done prefix types h h (Adds charge n) reported.Nothing
  unfolding perform
  adds_done h charge n known = record { does = λ p. refl; heap = refl; known = known }

  pub memory_done : (h : LimitedHeap) (a : Answer) → AreKnown types h → Done prefix types h h a reported.Memory
  memory_done h a known = record { does = tt; heap = refl; known = known }

  pub sets_done : (old new : LimitedHeap) (object : ℕ) (vs : List Value) → new ≡ set_in old object (with_values (object_in old object) vs) → AreKnown types old
      → Done prefix types old new (SetsFields object vs) reported.Nothing
  unfolding perform
  sets_done old new object vs is known =
      subst (λ (h : LimitedHeap). Done prefix types old h (SetsFields object vs) reported.Nothing) (sym is)
      (record {
        does = λ p. ap (λ q. goes q (Goes Next)) (sets_typed types old object vs p);
        heap = limit_found old object (with_values (object_in old object) vs);
        known = known_values types old object vs known;
      })

  -- ---- texts

  module _ (class : ℕ) (units : List ℕ) (is : slice_get types class ≡ Some (class_type (string_name prefix))) where
    text_is : (limit : Option ℕ) (p : Part) → making limit p (text_object prefix units) ≡ making limit p (object_map (type_at types) (Text class units))
    text_is limit p = ap (λ ty. making limit p (Text ty units)) (sym (type_is types class (class_type (string_name prefix)) is))

    pub text_made : (old new : LimitedHeap) (r : ℕ) → heaps.Makes old new (Text class units) r → AreKnown types old
        → Done prefix types old new (MakesText units) (reported.Gives (values.Ref r))
    unfolding perform
    text_made old new r makes known = record {
      does = λ p. ap returns_made (text_is (Some old.limit) (part_with types old None p) ∙ made types old new (Text class units) r makes p);
      heap = ap (λ (h : LimitedHeap). h.limit) makes.heap;
      known = known_made types old new (Text class units) r makes known (known_text types class units (class_type (string_name prefix)) is);
    }

    pub text_full : (old : LimitedHeap) (used size : ℕ) → Refuses old (object_size (Text class units)) (errors.Full used size) → AreKnown types old
        → Done prefix types old old (MakesText units) (reported.Full used size)
    unfolding perform
    text_full old used size refuses known = record {
      does = λ p. ap returns_made (text_is (Some old.limit) (part_with types old None p) ∙ full types old (Text class units) used size refuses p);
      heap = refl;
      known = known;
    }

    pub kept_made : (old mid new : LimitedHeap) (object r : ℕ) → heaps.Makes old mid (Text class units) r → SetsField mid new object 0 r → AreKnown types old
        → Done prefix types old new (KeepsText object units) (reported.Gives (values.Ref object))
    unfolding perform
    kept_made old mid new object r makes sets known =
        let middle = known_made types old mid (Text class units) r makes known (known_text types class units (class_type (string_name prefix)) is) in
        let now : new ≡ set_in mid object (with_values (object_in mid object) (values.Ref r ∷ [])) = sets ∙ ap (set_in mid object) (one_value (object_in mid object) r) in
        subst (λ (h : LimitedHeap). Done prefix types old h (KeepsText object units) (reported.Gives (values.Ref object))) (sym now)
        (record {
          does = λ p. ap (keeps_made object) (text_is (Some old.limit) (part_with types old None p) ∙ made types old mid (Text class units) r makes p)
              ∙ ap (λ q. returns q (Some (values.Ref object))) (sets_typed types mid object (values.Ref r ∷ []) p);
          heap = limit_found mid object (with_values (object_in mid object) (values.Ref r ∷ [])) ∙ ap (λ (h : LimitedHeap). h.limit) makes.heap;
          known = known_values types mid object (values.Ref r ∷ []) middle;
        })

    pub kept_full : (old : LimitedHeap) (object used size : ℕ) → Refuses old (object_size (Text class units)) (errors.Full used size) → AreKnown types old
        → Done prefix types old old (KeepsText object units) (reported.Full used size)
    unfolding perform
    kept_full old object used size refuses known = record {
      does = λ p. ap (keeps_made object) (text_is (Some old.limit) (part_with types old None p) ∙ full types old (Text class units) used size refuses p);
      heap = refl;
      known = known;
    }

    pub text_refused : (old new : LimitedHeap) (error : HeapError) (result : NativeAnswer) → result ≡ refused_as error → new ≡ old
        → Refuses old (object_size (Text class units)) error → AreKnown types old → Done prefix types old new (MakesText units) result
    text_refused old new (errors.Full used size) result e same refuses known =
        subst (λ (h : LimitedHeap). Done prefix types old h (MakesText units) result) (sym same)
        (subst (λ (r : NativeAnswer). Done prefix types old old (MakesText units) r) (sym e) (text_full old used size refuses known))
    text_refused old new errors.Memory result e same refuses known =
        subst (λ (h : LimitedHeap). Done prefix types old h (MakesText units) result) (sym same)
        (subst (λ (r : NativeAnswer). Done prefix types old old (MakesText units) r) (sym e) (memory_done old (MakesText units) known))

    pub kept_refused : (old new : LimitedHeap) (object : ℕ) (error : HeapError) (result : NativeAnswer) → result ≡ refused_as error → new ≡ old
        → Refuses old (object_size (Text class units)) error → AreKnown types old → Done prefix types old new (KeepsText object units) result
    kept_refused old new object (errors.Full used size) result e same refuses known =
        subst (λ (h : LimitedHeap). Done prefix types old h (KeepsText object units) result) (sym same)
        (subst (λ (r : NativeAnswer). Done prefix types old old (KeepsText object units) r) (sym e) (kept_full old object used size refuses known))
    kept_refused old new object errors.Memory result e same refuses known =
        subst (λ (h : LimitedHeap). Done prefix types old h (KeepsText object units) result) (sym same)
        (subst (λ (r : NativeAnswer). Done prefix types old old (KeepsText object units) r) (sym e) (memory_done old (KeepsText object units) known))

  -- ---- arrays of chars

  module _ (class : ℕ) (units : List ℕ) (is : slice_get types class ≡ Some (base_array bases.Char)) (few : All (λ u. u < 2 ^ 16) units) where
    abbrev chars : Object ℕ
    chars = Array class elements.Char (map pos units)

    chars_is : (limit : Option ℕ) (p : Part) → making limit p (chars_object units) ≡ making limit p (object_map (type_at types) chars)
    chars_is limit p = ap (λ ty. making limit p (Array ty elements.Char (map pos units))) (sym (type_is types class (base_array bases.Char) is))

    known_chars : IsKnown types chars
    known_chars = record { class = slice_get_within types class (base_array bases.Char) is; holds = λ ref. absurd cc }

    pub chars_made : (old new : LimitedHeap) (r : ℕ) → heaps.Makes old new chars r → AreKnown types old
        → Done prefix types old new (MakesChars units) (reported.Gives (values.Ref r))
    unfolding perform
    chars_made old new r makes known = record {
      does = λ p. ap returns_made (chars_is (Some old.limit) (part_with types old None p) ∙ made types old new chars r makes p);
      heap = ap (λ (h : LimitedHeap). h.limit) makes.heap;
      known = known_made types old new chars r makes known known_chars;
    }

    pub chars_full : (old : LimitedHeap) (used size : ℕ) → Refuses old (object_size chars) (errors.Full used size) → AreKnown types old
        → Done prefix types old old (MakesChars units) (reported.Full used size)
    unfolding perform
    chars_full old used size refuses known = record {
      does = λ p. ap returns_made (chars_is (Some old.limit) (part_with types old None p) ∙ full types old chars used size refuses p);
      heap = refl;
      known = known;
    }

    pub chars_refused : (old new : LimitedHeap) (n : ℕ) (error : HeapError) (result : NativeAnswer) → n ≡ length units → result ≡ refused_as error → new ≡ old
        → Refuses old (array_size elements.Char n) error → AreKnown types old → Done prefix types old new (MakesChars units) result
    chars_refused old new n (errors.Full used size) result long e same refuses known =
        let as_many : array_size elements.Char n ≡ object_size chars = ap (array_size elements.Char) (long ∙ sym (length-map units pos)) in
        subst (λ (h : LimitedHeap). Done prefix types old h (MakesChars units) result) (sym same)
        (subst (λ (r : NativeAnswer). Done prefix types old old (MakesChars units) r) (sym e)
        (chars_full old used size (subst (λ (n : ℕ). Refuses old n (errors.Full used size)) as_many refuses) known))
    chars_refused old new n errors.Memory result long e same refuses known =
        subst (λ (h : LimitedHeap). Done prefix types old h (MakesChars units) result) (sym same)
        (subst (λ (r : NativeAnswer). Done prefix types old old (MakesChars units) r) (sym e) (memory_done old (MakesChars units) known))

    pub filled : (old mid new : LimitedHeap) (r n : ℕ) → n ≡ length units → heaps.Makes old mid (Array class elements.Char (replicate n (pos 0))) r → Fills mid new r units
        → AreKnown types old → Done prefix types old new (MakesChars units) (reported.Gives (values.Ref r))
    filled old mid new r n long makes fills known =
        let size : array_size elements.Char (length (map pos units)) ≡ array_size elements.Char (length (replicate n (pos 0))) =
        ap (array_size elements.Char) (length-map units pos ∙ sym long ∙ sym (length-replicate n (pos 0))) in
        chars_made old new r
        (remade old mid new (Array class elements.Char (replicate n (pos 0))) chars r makes size
        (fills class (replicate n (pos 0)) (made_there old mid (Array class elements.Char (replicate n (pos 0))) r makes)))
        known
