-- What words say of types: those of frames, base types, and classes that are caught.
use Rattle.std.proofs.Common.{◌≡◌, ◌≢◌, ℕ, zero, suc, ◌+◌, ◌-◌, ◌/◌, ◌%◌, ◌<◌, ◌≤◌, Bool, true, false, cond, leb, ◌&&◌, ◌||◌, List, [], ◌∷◌, ◌++◌, length, take, drop, Option, Some, None, IfSome, codes, bytes_eq, slice_get, option_map, refl, sym, ap, ◌∙◌, subst, arith, true≢false, Decides, unwrap_or}
use Rattle.std.proofs.lemmas.Bool.{le-leb}
use Rattle.std.proofs.lemmas.Bool.Decides.{Decides-or}
use Rattle.std.proofs.lemmas.Slice.Eq.{bytes_eq-Decides}
use Rattle.std.proofs.lemmas.List.{take-append-drop}
use Rattle.dj_cursor.proofs.Options.{some_is, chose_some}
use Rattle.dj_names.specs.trusted.Types.{Name}
use Rattle.dj_names.specs.trusted.ModifiedUtf8.{units_text}
use Rattle.dj_ops.specs.trusted.Instructions.{IsArrayType}
use Rattle.dj_pool.specs.trusted.Pool.{IsClassText}
use Rattle.dj_asm_tokens.specs.trusted.Words.{Token, Word}
use Rattle.dj_asm_source.specs.trusted.Items.{Exactly, Says}
use Rattle.dj_asm_tokens.specs.trusted.Mnemonics.{base_words, base_word}
use Rattle.dj_asm_source.specs.trusted.Lines.{FrameType, Simple, Object, New, IsFrameType, IsSimpleType, type_item, catch_item}
use Rattle.dj_asm_tokens.specs.WordReading.{tested, place_from, is_some_label, class_text_test}
use Rattle.dj_asm_source.specs.Reading.{is_simple_type, long_type, type_in, type_of, caught_in, caught_of, base_of}
use Rattle.dj_asm_source.proofs.Choices.{IsReported}
use Rattle.dj_asm_source.proofs.WordLaws.{IsWordReported, word_reported, place_sound, place_whole, apart, class_text_decides}

-- ---- options

pub mapped_some : {A B : Type 0} (f : A → B) (o : Option A) (y : B) → option_map f o ≡ Some y → (x : A) × (o ≡ Some x) × (f x ≡ y)
mapped_some f (Some x) y e = (x, refl, some_is (f x) y e)
mapped_some f None y e = absurd cc

-- ---- words of a list, by their places

pub there : (words : List (List ℕ)) (k : ℕ) → k < length words → slice_get words k ≡ Some (unwrap_or (slice_get words k) [])
there [] k l = absurd (omega (arith, l))
there (w ∷ ws) zero l = refl
there (w ∷ ws) (suc k) l = there ws k (omega (arith, l))

module _ (n : ℕ) (words : List (List ℕ)) (differ : apart words ≡ true) where
  pub places_reported : IsWordReported (λ i. Exactly (unwrap_or (slice_get words (i - n)) [])) (λ i. (n ≤ i) × (i < n + length words)) (place_from n words)
  places_reported = record { sound = sound; whole = whole } where
    sound : (word : List ℕ) (i : ℕ) → place_from n words word ≡ Some i → ((n ≤ i) × (i < n + length words)) × (Word word ≡ Word (unwrap_or (slice_get words (i - n)) []))
    sound word i e =
        let p = place_sound n words word i e in
        let at : i - n ≡ p.0 = omega (arith, p.1) in
        ((omega (arith, p.1), omega (arith, p.1, p.3)), ap Word (sym (ap (λ o. unwrap_or o []) (ap (slice_get words) at ∙ p.2))))

    whole : (token : Token) (i : ℕ) → (n ≤ i) × (i < n + length words) → token ≡ Word (unwrap_or (slice_get words (i - n)) []) → (word : List ℕ) × (token ≡ Word word) × (place_from n words word ≡ Some i)
    whole token i l e =
        let low : n ≤ i = l.0 in
        let high : i < n + length words = l.1 in
        let within : i - n < length words = omega (arith, low, high) in
        let at : n + (i - n) ≡ i = omega (arith, low) in
        let word = unwrap_or (slice_get words (i - n)) [] in
        (word, e, place_whole n words (i - n) word differ (there words (i - n) within) ∙ ap (λ k. Some k) at)

base_word_reported : IsWordReported (λ base. Exactly (base_word base)) IsArrayType (place_from 4 base_words)
base_word_reported = record {
  sound = λ word i e. let s = p.sound word i e in ((s.0.0, omega (arith, s.0.1)), s.1);
  whole = λ token i l e. p.whole token i (l.0, omega (arith, l.1)) e;
} where
  p : IsWordReported (λ i. Exactly (unwrap_or (slice_get base_words (i - 4)) [])) (λ i. (4 ≤ i) × (i < 4 + length base_words)) (place_from 4 base_words)
  p = places_reported 4 base_words refl

pub base_reported : IsReported (λ base. Exactly (base_word base)) IsArrayType base_of
base_reported = word_reported (λ base. Exactly (base_word base)) IsArrayType (place_from 4 base_words) base_word_reported

-- ---- labels that aren't empty

pub some_label_decides : (label : List ℕ) → Decides (is_some_label label) (label ≢ [])
some_label_decides [] = ((λ e. absurd cc), (λ n. absurd (n refl)))
some_label_decides (b ∷ bs) = ((λ e. λ same. absurd cc), (λ n. le-leb 1 (length (b ∷ bs)) (omega arith)))

-- ---- types of frames

simple_decides : (word : List ℕ) → Decides (is_simple_type word) (IsSimpleType word)
simple_decides w =
    Decides-or (bytes_eq w (codes "top")) (bytes_eq w (codes "int") || (bytes_eq w (codes "float") || (bytes_eq w (codes "double") || (bytes_eq w (codes "long") || (bytes_eq w (codes "null") || bytes_eq w (codes "this")))))) (bytes_eq-Decides w (codes "top"))
    (Decides-or (bytes_eq w (codes "int")) (bytes_eq w (codes "float") || (bytes_eq w (codes "double") || (bytes_eq w (codes "long") || (bytes_eq w (codes "null") || bytes_eq w (codes "this"))))) (bytes_eq-Decides w (codes "int"))
    (Decides-or (bytes_eq w (codes "float")) (bytes_eq w (codes "double") || (bytes_eq w (codes "long") || (bytes_eq w (codes "null") || bytes_eq w (codes "this")))) (bytes_eq-Decides w (codes "float"))
    (Decides-or (bytes_eq w (codes "double")) (bytes_eq w (codes "long") || (bytes_eq w (codes "null") || bytes_eq w (codes "this"))) (bytes_eq-Decides w (codes "double"))
    (Decides-or (bytes_eq w (codes "long")) (bytes_eq w (codes "null") || bytes_eq w (codes "this")) (bytes_eq-Decides w (codes "long"))
    (Decides-or (bytes_eq w (codes "null")) (bytes_eq w (codes "this")) (bytes_eq-Decides w (codes "null")) (bytes_eq-Decides w (codes "this")))))))

begins_with : (word prefix : List ℕ) → bytes_eq (take 4 word) prefix ≡ true → word ≡ prefix ++ drop 4 word
begins_with word prefix t = sym (take-append-drop 4 word) ∙ ap (λ first. first ++ drop 4 word) ((bytes_eq-Decides (take 4 word) prefix).0 t)

abbrev IsSaid : FrameType → List ℕ → Type 0
IsSaid type word = IsFrameType type × Says (type_item type) (Word word)

object_sound : (word : List ℕ) (type : FrameType) → word ≡ codes "ref:" ++ drop 4 word → option_map Object (tested class_text_test (units_text (drop 4 word))) ≡ Some type → IsSaid type word
object_sound word type is e =
    let m = mapped_some Object (tested class_text_test (units_text (drop 4 word))) type e in
    let c = chose_some (class_text_test (units_text (drop 4 word))) (units_text (drop 4 word)) m.0 m.1 in
    subst (λ t. IsSaid t word) m.2
    (subst IsClassText c.1 ((class_text_decides (units_text (drop 4 word))).0 c.0), record { units = drop 4 word; word = ap Word is; value = sym c.1 })

new_sound : (word : List ℕ) (type : FrameType) → word ≡ codes "new:" ++ drop 4 word → option_map New (tested is_some_label (drop 4 word)) ≡ Some type → IsSaid type word
new_sound word type is e =
    let m = mapped_some New (tested is_some_label (drop 4 word)) type e in
    let c = chose_some (is_some_label (drop 4 word)) (drop 4 word) m.0 m.1 in
    subst (λ t. IsSaid t word) m.2
    (subst (λ l. l ≢ []) c.1 ((some_label_decides (drop 4 word)).0 c.0), ap Word (is ∙ ap (λ l. codes "new:" ++ l) c.1))

long_sound : (word : List ℕ) (type : FrameType) → long_type word ≡ Some type → IsSaid type word
long_sound word type e = by (bytes_eq (take 4 word) (codes "ref:")) refl e where
  new : (t : Bool) → bytes_eq (take 4 word) (codes "new:") ≡ t → cond t (option_map New (tested is_some_label (drop 4 word))) None ≡ Some type → IsSaid type word
  new true t e = new_sound word type (begins_with word (codes "new:") t) e
  new false t e = absurd cc

  by : (t : Bool) → bytes_eq (take 4 word) (codes "ref:") ≡ t
      → cond t (option_map Object (tested class_text_test (units_text (drop 4 word)))) (cond (bytes_eq (take 4 word) (codes "new:")) (option_map New (tested is_some_label (drop 4 word))) None) ≡ Some type
      → IsSaid type word
  by true t e = object_sound word type (begins_with word (codes "ref:") t) e
  by false t e = new (bytes_eq (take 4 word) (codes "new:")) refl e

type_sound : (word : List ℕ) (type : FrameType) → type_in word ≡ Some type → IsSaid type word
type_sound word type e = by (is_simple_type word) refl e where
  by : (t : Bool) → is_simple_type word ≡ t → cond t (Some (Simple word)) (long_type word) ≡ Some type → IsSaid type word
  by true t e = subst (λ k. IsSaid k word) (some_is (Simple word) type e) ((simple_decides word).0 t, refl)
  by false t e = long_sound word type e

type_whole : (token : Token) (type : FrameType) → IsFrameType type → Says (type_item type) token → (word : List ℕ) × (token ≡ Word word) × (type_in word ≡ Some type)
type_whole token (Simple word) i e = (word, e, ap (λ t. cond t (Some (Simple word)) (long_type word)) ((simple_decides word).1 i))
type_whole token (Object name) i s = (
  codes "ref:" ++ s.units,
  s.word,
  ap (λ t. option_map Object (cond t (Some (units_text s.units)) None)) ((class_text_decides (units_text s.units)).1 (subst IsClassText s.value i)) ∙ ap (λ n. Some (Object n)) (sym s.value),
)
type_whole token (New label) i e = (codes "new:" ++ label, e, ap (λ t. option_map New (cond t (Some label) None)) ((some_label_decides label).1 i))

pub type_reported : IsReported type_item IsFrameType type_of
type_reported = word_reported type_item IsFrameType type_in (record { sound = type_sound; whole = type_whole })

-- ---- classes that are caught

-- a unit below 128 is spelled by itself alone
plain_unit : (us : List ℕ) (b : ℕ) (bs : List ℕ) → b < 128 → units_text us ≡ b ∷ bs → (vs : List ℕ) × (us ≡ b ∷ vs) × (units_text vs ≡ bs)
plain_unit [] b bs l e = absurd cc
plain_unit (u ∷ us) b bs l e = by (leb 1 u && leb u 127) e where
  two : (t : Bool) → cond t ((192 + u / 64) ∷ (128 + u % 64) ∷ []) ((224 + u / 4096) ∷ (128 + u / 64 % 64) ∷ (128 + u % 64) ∷ []) ++ units_text us ≡ b ∷ bs → ⊥
  two true e = let same : 192 + u / 64 ≡ b = cc in omega (arith, same, l)
  two false e = let same : 224 + u / 4096 ≡ b = cc in omega (arith, same, l)

  by : (t : Bool) → cond t (u ∷ []) (cond (leb u 2047) ((192 + u / 64) ∷ (128 + u % 64) ∷ []) ((224 + u / 4096) ∷ (128 + u / 64 % 64) ∷ (128 + u % 64) ∷ [])) ++ units_text us ≡ b ∷ bs
      → (vs : List ℕ) × (u ∷ us ≡ b ∷ vs) × (units_text vs ≡ bs)
  by true e = let same : u ≡ b = cc in (us, ap (λ v. v ∷ us) same, cc)
  by false e = absurd (two (leb u 2047) e)

no_units : (us : List ℕ) → units_text us ≡ [] → us ≡ []
no_units [] e = refl
no_units (u ∷ us) e = by (leb 1 u && leb u 127) e where
  two : (t : Bool) → cond t ((192 + u / 64) ∷ (128 + u % 64) ∷ []) ((224 + u / 4096) ∷ (128 + u / 64 % 64) ∷ (128 + u % 64) ∷ []) ++ units_text us ≡ [] → u ∷ us ≡ []
  two true e = absurd cc
  two false e = absurd cc

  by : (t : Bool) → cond t (u ∷ []) (cond (leb u 2047) ((192 + u / 64) ∷ (128 + u % 64) ∷ []) ((224 + u / 4096) ∷ (128 + u / 64 % 64) ∷ (128 + u % 64) ∷ [])) ++ units_text us ≡ [] → u ∷ us ≡ []
  by true e = absurd cc
  by false e = two (leb u 2047) e

any_text : (us : List ℕ) → units_text us ≡ codes "any" → us ≡ codes "any"
any_text us e =
    let a = plain_unit us 97 (110 ∷ 121 ∷ []) (omega arith) e in
    let n = plain_unit a.0 110 (121 ∷ []) (omega arith) a.2 in
    let y = plain_unit n.0 121 [] (omega arith) n.2 in
    a.1 ∙ (ap (λ l. 97 ∷ l) n.1 ∙ (ap (λ l. 97 ∷ 110 ∷ l) y.1 ∙ ap (λ l. 97 ∷ 110 ∷ 121 ∷ l) (no_units y.0 y.2)))

abbrev pub IsCaught : Option Name → Type 0
IsCaught class = IfSome class (λ name. IsClassText name × (name ≢ codes "any"))

caught_sound : (word : List ℕ) (class : Option Name) → caught_in word ≡ Some class → IsCaught class × Says (catch_item class) (Word word)
caught_sound word class e = by (bytes_eq (codes "any") word) refl e where
  by : (t : Bool) → bytes_eq (codes "any") word ≡ t → cond t (Some None) (option_map (λ name. Some name) (tested class_text_test (units_text word))) ≡ Some class → IsCaught class × Says (catch_item class) (Word word)
  by true t e = subst (λ c. IsCaught c × Says (catch_item c) (Word word)) (some_is None class e) (tt, ap Word (sym ((bytes_eq-Decides (codes "any") word).0 t)))
  by false t e =
      let m = mapped_some (λ name. Some name) (tested class_text_test (units_text word)) class e in
      let c = chose_some (class_text_test (units_text word)) (units_text word) m.0 m.1 in
      let other : units_text word ≡ codes "any" → ⊥ = λ same. true≢false (sym ((bytes_eq-Decides (codes "any") word).1 (sym (any_text word same))) ∙ t) in
      subst (λ k. IsCaught k × Says (catch_item k) (Word word)) m.2
      ((subst IsClassText c.1 ((class_text_decides (units_text word)).0 c.0), λ same. other (c.1 ∙ same)), record { units = word; word = refl; value = sym c.1 })

caught_whole : (token : Token) (class : Option Name) → IsCaught class → Says (catch_item class) token → (word : List ℕ) × (token ≡ Word word) × (caught_in word ≡ Some class)
caught_whole token None i e = (codes "any", e, refl)
caught_whole token (Some name) i s = (s.units, s.word, by (bytes_eq (codes "any") s.units) refl) where
  by : (t : Bool) → bytes_eq (codes "any") s.units ≡ t → cond t (Some None) (option_map (λ n. Some n) (tested class_text_test (units_text s.units))) ≡ Some (Some name)
  by true t = absurd (i.1 (s.value ∙ ap units_text (sym ((bytes_eq-Decides (codes "any") s.units).0 t))))
  by false t =
      ap (λ b. option_map (λ n. Some n) (cond b (Some (units_text s.units)) None)) ((class_text_decides (units_text s.units)).1 (subst IsClassText s.value i.0))
      ∙ ap (λ n. Some (Some n)) (sym s.value)

pub caught_reported : IsReported catch_item IsCaught caught_of
caught_reported = word_reported catch_item IsCaught caught_in (record { sound = caught_sound; whole = caught_whole })
