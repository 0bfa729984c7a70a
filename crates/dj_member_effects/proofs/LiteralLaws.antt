-- Literals by the numbers of their texts are those of the model.
use Rattle.std.proofs.lemmas.Option.{none-some, same_Some}
use Rattle.std.proofs.Common.{◌≡◌, ◌<◌, ◌+◌, subst, ℕ, Bool, true, false, List, [], ◌∷◌, ◌++◌, length, Option, Some, None, nat_eq, Ok, Err, if◌then◌else◌, refl, sym, ap, ◌∙◌}
use Rattle.std.specs.Option.{option_map}
use Rattle.std.proofs.lemmas.List.{map-append}
use Rattle.dj_names.specs.declared.descriptor.Ty.{Ty}
use Rattle.dj_names.specs.declared.run.Value.TheVariants as values
use Rattle.dj_names.specs.declared.run.Outcome.TheVariants as outcomes
use Rattle.dj_names.specs.trusted.Heaps.{Text, Heap, next_number, text_size, with_new}
use Rattle.dj_names.specs.Heaps.{heap_map}
use Rattle.dj_names.specs.trusted.Types.{class_type}
use Rattle.dj_model.specs.trusted.Types.{Prefix, string_name}
use Rattle.dj_model.specs.trusted.State.{Literal, Part, Effect, Goes, Next}
use Rattle.dj_model.specs.trusted.Arrays.{passes_limit}
use Rattle.dj_model.specs.trusted.Members as members
use Rattle.dj_model.specs.trusted.Members.{kept_or_made, literal_in, push_kept, with_literal}
use Rattle.dj_model.proofs.MappedHeaps.{new_mapped, number_alike}
use Rattle.dj_library_types.specs.Numbered.{type_at}
use Rattle.dj_member_effects.specs.Literals.{AreTexts, Differ, KeptBy, kept_by, kept_map, kept_or_made_by, literal_flows, literals_effect, literals_map, object_of, push_text_by, pushed, text_at}

pub literal_found : (texts : List (List ℕ)) (made : List (ℕ × ℕ)) (text : ℕ) → Differ texts → AreTexts (length texts) made → text < length texts
    → literal_in (literals_map texts made) (text_at texts text) ≡ object_of made text
literal_found texts [] text differ known less = refl
literal_found texts (l ∷ made) text differ known less =
    ap (λ (b : Bool). if b then Some l.1 else literal_in (literals_map texts made) (text_at texts text)) (differ l.0 text known.0 less)
    ∙ ap (λ (o : Option ℕ). if nat_eq l.0 text then Some l.1 else o) (literal_found texts made text differ known.1 less)

-- the part with this heap and these literals
abbrev with_literals : Part → Heap Ty → List Literal → Part
with_literals p heap literals = record p { heap = heap; literals = literals }

abbrev made_effect : Part → ℕ → Heap Ty → List Literal → Effect
made_effect p n heap literals = record { part = record p { operands = values.Ref n ∷ p.operands; heap = heap; literals = literals }; flow = Goes Next }

abbrev literal : List ℕ → ℕ → Literal
literal units object = record { units = units; object = object }

module _ (prefix : Prefix) (types : List Ty) (texts : List (List ℕ)) (class text : ℕ) (is : type_at types class ≡ class_type (string_name prefix))
    (p : Part) (heap : Heap ℕ) (made : List (ℕ × ℕ)) where
  made_mapped : made_effect p (next_number (heap_map (type_at types) heap)) (with_new (heap_map (type_at types) heap) (Text (class_type (string_name prefix)) (text_at texts text)))
      (literals_map texts made ++ literal (text_at texts text) (next_number (heap_map (type_at types) heap)) ∷ [])
      ≡ made_effect p (next_number heap) (heap_map (type_at types) (with_new heap (Text class (text_at texts text)))) (literals_map texts (made ++ (text, next_number heap) ∷ []))
  made_mapped =
      ap (λ (n : ℕ). made_effect p n (with_new (heap_map (type_at types) heap) (Text (class_type (string_name prefix)) (text_at texts text)))
      (literals_map texts made ++ literal (text_at texts text) n ∷ [])) (number_alike (type_at types) heap)
      ∙ (ap (λ (c : Ty). made_effect p (next_number heap) (with_new (heap_map (type_at types) heap) (Text c (text_at texts text)))
      (literals_map texts made ++ literal (text_at texts text) (next_number heap) ∷ [])) (sym is)
      ∙ (ap (λ (h : Heap Ty). made_effect p (next_number heap) h (literals_map texts made ++ literal (text_at texts text) (next_number heap) ∷ []))
      (new_mapped (type_at types) heap (Text class (text_at texts text)))
      ∙ ap (made_effect p (next_number heap) (heap_map (type_at types) (with_new heap (Text class (text_at texts text)))))
      (sym (map-append (λ (l : ℕ × ℕ). literal (text_at texts l.0) l.1) made ((text, next_number heap) ∷ [])))))

  kept_if : (b : Bool) (r : ℕ)
      → push_kept (with_literals p (heap_map (type_at types) heap) (literals_map texts made)) (text_at texts text)
      (if b then None
      else Some (record {
        object = next_number (heap_map (type_at types) heap);
        heap = with_new (heap_map (type_at types) heap) (Text (class_type (string_name prefix)) (text_at texts text));
        literals = literals_map texts made ++ literal (text_at texts text) (next_number (heap_map (type_at types) heap)) ∷ [];
      }))
      ≡ literals_effect types texts (with_literals p (heap_map (type_at types) heap) (literals_map texts made))
      (if b then literal_flows heap made p.operands (Err (outcomes.HeapFull heap.used (text_size (text_at texts text))))
      else literal_flows (with_new heap (Text class (text_at texts text))) (made ++ (text, next_number heap) ∷ []) (values.Ref (next_number heap) ∷ p.operands) (Ok Next))
  kept_if true r = refl
  kept_if false r = made_mapped

  kept_mapped : (limit : Option ℕ) (o : Option ℕ)
      → push_kept (with_literals p (heap_map (type_at types) heap) (literals_map texts made)) (text_at texts text)
      (kept_or_made limit prefix (heap_map (type_at types) heap) (literals_map texts made) (text_at texts text) o)
      ≡ literals_effect types texts (with_literals p (heap_map (type_at types) heap) (literals_map texts made)) (pushed limit class text (text_at texts text) heap made p.operands o)
  kept_mapped limit (Some r) = refl
  kept_mapped limit None = kept_if (passes_limit limit (heap.used + text_size (text_at texts text))) 0

  text_mapped : (limit : Option ℕ) → Differ texts → AreTexts (length texts) made → text < length texts
      → push_kept (with_literals p (heap_map (type_at types) heap) (literals_map texts made)) (text_at texts text)
      (with_literal limit prefix (heap_map (type_at types) heap) (literals_map texts made) (text_at texts text))
      ≡ literals_effect types texts (with_literals p (heap_map (type_at types) heap) (literals_map texts made)) (push_text_by limit class text (text_at texts text) heap made p.operands)
  unfolding with_literal
  text_mapped limit differ known less =
      ap (λ (o : Option ℕ). push_kept (with_literals p (heap_map (type_at types) heap) (literals_map texts made)) (text_at texts text)
      (kept_or_made limit prefix (heap_map (type_at types) heap) (literals_map texts made) (text_at texts text) o)) (literal_found texts made text differ known less)
      ∙ kept_mapped limit (object_of made text)

at_literals : (p : Part) (heap : Heap Ty) (literals : List Literal) → p.heap ≡ heap → p.literals ≡ literals → with_literals p heap literals ≡ p
at_literals p heap literals e f =
    ap (λ (heap : Heap Ty). with_literals p heap literals) (sym e) ∙ ap (with_literals p p.heap) (sym f)

pub push_text_is : (prefix : Prefix) (types : List Ty) (texts : List (List ℕ)) (limit : Option ℕ) (class text : ℕ) (p : Part) (heap : Heap ℕ) (made : List (ℕ × ℕ))
    → type_at types class ≡ class_type (string_name prefix) → Differ texts → AreTexts (length texts) made → text < length texts
    → p.heap ≡ heap_map (type_at types) heap → p.literals ≡ literals_map texts made
    → push_kept p (text_at texts text) (with_literal limit prefix p.heap p.literals (text_at texts text))
    ≡ literals_effect types texts p (push_text_by limit class text (text_at texts text) heap made p.operands)
push_text_is prefix types texts limit class text p heap made is differ known less e f =
    ap (λ (q : Part). push_kept q (text_at texts text) (with_literal limit prefix q.heap q.literals (text_at texts text)))
    (sym (at_literals p (heap_map (type_at types) heap) (literals_map texts made) e f))
    ∙ (text_mapped prefix types texts class text is p heap made limit differ known less
    ∙ ap (λ (q : Part). literals_effect types texts q (push_text_by limit class text (text_at texts text) heap made p.operands))
    (at_literals p (heap_map (type_at types) heap) (literals_map texts made) e f))

-- ---- a literal's object by itself

abbrev kept_as : ℕ → Heap Ty → List Literal → members.Kept
kept_as n heap literals = record { object = n; heap = heap; literals = literals }

module _ (prefix : Prefix) (types : List Ty) (texts : List (List ℕ)) (class text : ℕ) (is : type_at types class ≡ class_type (string_name prefix))
    (heap : Heap ℕ) (made : List (ℕ × ℕ)) where
  kept_as_mapped : kept_as (next_number (heap_map (type_at types) heap)) (with_new (heap_map (type_at types) heap) (Text (class_type (string_name prefix)) (text_at texts text)))
      (literals_map texts made ++ literal (text_at texts text) (next_number (heap_map (type_at types) heap)) ∷ [])
      ≡ kept_as (next_number heap) (heap_map (type_at types) (with_new heap (Text class (text_at texts text)))) (literals_map texts (made ++ (text, next_number heap) ∷ []))
  kept_as_mapped =
      ap (λ (n : ℕ). kept_as n (with_new (heap_map (type_at types) heap) (Text (class_type (string_name prefix)) (text_at texts text)))
      (literals_map texts made ++ literal (text_at texts text) n ∷ [])) (number_alike (type_at types) heap)
      ∙ (ap (λ (c : Ty). kept_as (next_number heap) (with_new (heap_map (type_at types) heap) (Text c (text_at texts text)))
      (literals_map texts made ++ literal (text_at texts text) (next_number heap) ∷ [])) (sym is)
      ∙ (ap (λ (h : Heap Ty). kept_as (next_number heap) h (literals_map texts made ++ literal (text_at texts text) (next_number heap) ∷ []))
      (new_mapped (type_at types) heap (Text class (text_at texts text)))
      ∙ ap (kept_as (next_number heap) (heap_map (type_at types) (with_new heap (Text class (text_at texts text)))))
      (sym (map-append (λ (l : ℕ × ℕ). literal (text_at texts l.0) l.1) made ((text, next_number heap) ∷ [])))))

  kept_as_if : (b : Bool)
      → (if b then None
      else Some (kept_as (next_number (heap_map (type_at types) heap)) (with_new (heap_map (type_at types) heap) (Text (class_type (string_name prefix)) (text_at texts text)))
      (literals_map texts made ++ literal (text_at texts text) (next_number (heap_map (type_at types) heap)) ∷ [])))
      ≡ option_map (kept_map types texts)
      (if b then None
      else Some (record { object = next_number heap; heap = with_new heap (Text class (text_at texts text)); literals = made ++ (text, next_number heap) ∷ [] }))
  kept_as_if true = refl
  kept_as_if false = ap Some kept_as_mapped

  kept_as_or_made : (limit : Option ℕ) (o : Option ℕ)
      → kept_or_made limit prefix (heap_map (type_at types) heap) (literals_map texts made) (text_at texts text) o
      ≡ option_map (kept_map types texts) (kept_or_made_by limit class text (text_at texts text) heap made o)
  kept_as_or_made limit (Some r) = refl
  kept_as_or_made limit None = kept_as_if (passes_limit limit (heap.used + text_size (text_at texts text)))

pub keep_text_is : (prefix : Prefix) (types : List Ty) (texts : List (List ℕ)) (limit : Option ℕ) (class text : ℕ) (heap : Heap ℕ) (made : List (ℕ × ℕ))
    → type_at types class ≡ class_type (string_name prefix) → Differ texts → AreTexts (length texts) made → text < length texts
    → with_literal limit prefix (heap_map (type_at types) heap) (literals_map texts made) (text_at texts text)
    ≡ option_map (kept_map types texts) (kept_by limit class text (text_at texts text) heap made)
unfolding with_literal
keep_text_is prefix types texts limit class text heap made is differ known less =
    ap (kept_or_made limit prefix (heap_map (type_at types) heap) (literals_map texts made) (text_at texts text)) (literal_found texts made text differ known less)
    ∙ kept_as_or_made prefix types texts class text is heap made limit (object_of made text)

-- ---- the texts of literals

pub texts_more : (count text object : ℕ) (made : List (ℕ × ℕ)) → AreTexts count made → text < count → AreTexts count (made ++ (text, object) ∷ [])
texts_more count text object [] known less = (less, tt)
texts_more count text object (l ∷ made) known less = (known.0, texts_more count text object made known.1 less)

texts_or_made : (limit : Option ℕ) (class text count : ℕ) (units : List ℕ) (heap : Heap ℕ) (made : List (ℕ × ℕ)) (o : Option ℕ) (k : KeptBy)
    → AreTexts count made → text < count → kept_or_made_by limit class text units heap made o ≡ Some k → AreTexts count k.literals
texts_or_made limit class text count units heap made (Some r) k known less is =
    subst (λ (literals : List (ℕ × ℕ)). AreTexts count literals) (ap (λ (k : KeptBy). k.literals) (same_Some _ k is)) known
texts_or_made limit class text count units heap made None k known less is = by (passes_limit limit (heap.used + text_size units)) is where
  by : (b : Bool)
      → (if b then None else Some (record { object = next_number heap; heap = with_new heap (Text class units); literals = made ++ (text, next_number heap) ∷ [] })) ≡ Some k
      → AreTexts count k.literals
  by true e = absurd (none-some k e)
  by false e =
      subst (λ (literals : List (ℕ × ℕ)). AreTexts count literals) (ap (λ (k : KeptBy). k.literals) (same_Some _ k e)) (texts_more count text (next_number heap) made known less)

-- one literal more is of one of the texts too
pub texts_kept : (limit : Option ℕ) (class text count : ℕ) (units : List ℕ) (heap : Heap ℕ) (made : List (ℕ × ℕ)) (k : KeptBy)
    → AreTexts count made → text < count → kept_by limit class text units heap made ≡ Some k → AreTexts count k.literals
texts_kept limit class text count units heap made k known less is = texts_or_made limit class text count units heap made (object_of made text) k known less is
