-- The readers of frames: types up to the end of a line or to a slash, and each frame by its word.
use Rattle.std.proofs.Common.{◌≡◌, ℕ, zero, suc, ◌≤◌, Bool, true, false, cond, ℤ, pos, List, [], ◌∷◌, ◌++◌, length, map, drop, Option, Some, None, is_some, codes, option_map, refl, sym, ap, ◌∙◌, subst, inl, inr, arith, append_assoc}
use Rattle.std.specs.Prelude.{⊤}
use Rattle.std.specs.List.{AllByRecursion}
use Rattle.dj_cursor.proofs.Options.{some_is}
use Rattle.dj_asm_tokens.specs.trusted.Words.{Token, Word, Quoted, Bad, LineEnd, Placed}
use Rattle.dj_asm_source.specs.trusted.Items.{Item, Exactly, Ended, Says}
use Rattle.dj_asm_source.specs.trusted.Lines.{FrameType, Simple, Object, New, IsFrameType, type_item, Frame, Same, Stack1, Chop, Append, Full, frame_items, IsFrame, IsSizedFrame}
use Rattle.dj_asm_tokens.specs.WordReading.{row_of}
use Rattle.dj_asm_source.specs.Reading.{Read, Got, Wrong, read_map, exactly, type_of, is_between, ◌&◌}
use Rattle.dj_asm_source.specs.LineReading.{line_end, number, frame_type, types_from, types_until, types_up_to, is_end, is_slash, FrameStart, SameWord, StackWord, ChopWord, AppendWord, FullWord, frame_start, frame_after, frame}
use Rattle.dj_asm_source.proofs.Readers.{Lang, Said, Started, ReadFrom, IsReader, GotFrom, both, sequence_reads, IsMade, IsSeenAs, seen_read, mapped_reads}
use Rattle.dj_asm_source.proofs.Choices.{after_first, HasFirst, IsChoice, IsReported, kind_read, none_begun, nothing_left, choose_reads, place}
use Rattle.dj_asm_source.proofs.WordLaws.{exactly_reported, chop_decides, rows_reported}
use Rattle.dj_asm_source.proofs.TypeWords.{type_reported, mapped_some}
use Rattle.dj_asm_source.proofs.FieldReaders.{all, end_lang, end_reads, type_lang, type_reads, number_lang, number_reads}

-- ---- types up to an end

-- types, and the item that ends them
abbrev pub types_lang : Item → (List FrameType → Type 0) → Lang (List FrameType)
types_lang last is = record { items = λ types. map type_item types ++ last ∷ []; is = is; fits = all }

-- a test recognises the end, which is no type
pub record IsEnd (last : Item) (ends : Token → Bool) : Type 0 where
  pub sound : (token : Token) → ends token ≡ true → Says last token
  pub whole : (token : Token) → Says last token → ends token ≡ true
  pub apart : (token : Token) (type : FrameType) → IsFrameType type → Says (type_item type) token → ends token ≡ false

-- what may stand here, and after a type
pub record IsNext (is later : List FrameType → Type 0) : Type 0 where
  pub none : is []
  pub more : (type : FrameType) (types : List FrameType) → IsFrameType type → later types → is (type ∷ types)
  pub less : (type : FrameType) (types : List FrameType) → is (type ∷ types) → IsFrameType type × later types

abbrev type_start : (Token → Bool) → Token → Option (Option FrameType)
type_start ends token = cond (ends token) (Some None) (option_map (λ type. Some type) (type_of token))

module _ (last : Item) (ends : Token → Bool) (end : IsEnd last ends) (is later : List FrameType → Type 0) (next : IsNext is later) where
  abbrev N : Lang (List FrameType)
  N = types_lang last is

  abbrev one_more : FrameType → List FrameType → List FrameType
  one_more type types = type ∷ types

  abbrev AreTypes : Option FrameType → List FrameType → Type 0
  AreTypes None types = types ≡ []
  AreTypes (Some type) types = IsFrameType type × IsMade (one_more type) later types

  abbrev item_of : Option FrameType → Item
  item_of None = last
  item_of (Some type) = type_item type

  start_sound : (token : Token) (k : Option FrameType) → type_start ends token ≡ Some k → Says (item_of k) token
  start_sound token k e = by (ends token) refl e where
    by : (t : Bool) → ends token ≡ t → cond t (Some None) (option_map (λ type. Some type) (type_of token)) ≡ Some k → Says (item_of k) token
    by true t e = subst (λ j. Says (item_of j) token) (some_is None k e) (end.sound token t)
    by false t e =
        let m = mapped_some (λ type. Some type) (type_of token) k e in
        subst (λ j. Says (item_of j) token) m.2 (type_reported.sound token m.0 m.1).1

  type_first : (token : Token) (type : FrameType) → IsFrameType type → Says (type_item type) token → type_start ends token ≡ Some (Some type)
  type_first token type i said =
      ap (λ t. cond t (Some None) (option_map (λ k. Some k) (type_of token))) (end.apart token type i said) ∙ ap (option_map (λ k. Some k)) (type_reported.whole token type i said)

  choice : IsChoice N AreTypes item_of (type_start ends)
  choice = record { sound = start_sound; whole = whole; kind = kind; is = allowed; items = items } where
    whole : (token : Token) (k : Option FrameType) (types : List FrameType) → AreTypes k types → Says (item_of k) token → type_start ends token ≡ Some k
    whole token None types p said = ap (λ t. cond t (Some None) (option_map (λ k. Some k) (type_of token))) (end.whole token said)
    whole token (Some type) types p said = type_first token type p.0 said

    kind : (types : List FrameType) → is types → (k : Option FrameType) × AreTypes k types
    kind [] i = (None, refl)
    kind (type ∷ types) i = let l = next.less type types i in (Some type, (l.0, (types, refl, l.1)))

    allowed : (k : Option FrameType) (types : List FrameType) → AreTypes k types → is types
    allowed None types p = subst is (sym p) next.none
    allowed (Some type) types p = subst is (sym p.1.1) (next.more type p.1.0 p.0 p.1.2)

    items : (k : Option FrameType) (types : List FrameType) → AreTypes k types → HasFirst N (item_of k) types
    items None types p = subst (HasFirst N last) (sym p) refl
    items (Some type) types p = subst (HasFirst N (type_item type)) (sym p.1.1) refl

  got_end : (rest : List Placed) → GotFrom (after_first N AreTypes None) rest [] rest
  got_end rest = record { prefix = []; parts = refl; is = refl; fits = tt; said = tt; unique = unique } where
    unique : (types : List FrameType) (us more after : List Placed) → types ≡ [] → Said (drop 1 (map type_item types ++ last ∷ [])) us → us ++ more ≡ after → (types ≡ []) × (more ≡ after)
    unique types [] more after i said e = (i, e)
    unique [] (u ∷ us) more after i said e = absurd said
    unique (t ∷ ts) (u ∷ us) more after i said e = absurd cc

  type_seen : (type : FrameType) → IsFrameType type → IsSeenAs (types_lang last later) (after_first N AreTypes (Some type)) (one_more type)
  type_seen type i = record { items = λ types l. refl; is = λ types l. (i, (types, refl, l)); fits = λ types f. tt; unfit = λ types f. tt; onto = λ types p. p.1 }

  pub types_some : (token : Token) → Says last token → Started N []
  types_some token said = record { value = []; is = next.none; fits = tt; more = place token ∷ []; said = (said, tt) }

  module _ (some : Started N []) where
    pub types_step : (here : Placed) (rest : List Placed) (more : Read (List FrameType)) → ReadFrom (types_lang last later) rest more
        → ReadFrom N (here ∷ rest) (types_from (ends here.token) (type_of here.token) here rest more)
    types_step here rest more each = by (ends here.token) (type_of here.token) refl refl where
      by : (t : Bool) (o : Option FrameType) → ends here.token ≡ t → type_of here.token ≡ o → ReadFrom N (here ∷ rest) (types_from t o here rest more)
      by true o t e =
          kind_read N AreTypes item_of (type_start ends) choice here rest None (ap (λ b. cond b (Some None) (option_map (λ k. Some k) (type_of here.token))) t) (Got [] rest) (got_end rest)
      by false None t e =
          none_begun N AreTypes item_of (type_start ends) choice some here rest
          (ap (λ b. cond b (Some None) (option_map (λ k. Some k) (type_of here.token))) t ∙ ap (option_map (λ k. Some k)) e)
      by false (Some type) t e =
          kind_read N AreTypes item_of (type_start ends) choice here rest (Some type)
          (ap (λ b. cond b (Some None) (option_map (λ k. Some k) (type_of here.token))) t ∙ ap (option_map (λ k. Some k)) e) (read_map (one_more type) more)
          (seen_read (types_lang last later) (after_first N AreTypes (Some type)) (one_more type) (type_seen type (type_reported.sound here.token type e).0) rest more each)

    pub no_types : ReadFrom N [] (Wrong [])
    no_types = nothing_left N AreTypes item_of (type_start ends) choice some

-- ---- any count of them

abbrev pub AreFrameTypes : List FrameType → Type 0
AreFrameTypes types = AllByRecursion IsFrameType types

any_next : IsNext AreFrameTypes AreFrameTypes
any_next = record { none = tt; more = λ type types i l. (i, l); less = λ type types i. i }

module _ (last : Item) (ends : Token → Bool) (end : IsEnd last ends) (token : Token) (said : Says last token) where
  until_some : Started (types_lang last AreFrameTypes) []
  until_some = types_some last ends end AreFrameTypes AreFrameTypes any_next token said

  until_each : (tokens : List Placed) → ReadFrom (types_lang last AreFrameTypes) tokens (types_until ends tokens)
  unfolding types_until
  until_each [] = no_types last ends end AreFrameTypes AreFrameTypes any_next until_some
  until_each (here ∷ rest) = types_step last ends end AreFrameTypes AreFrameTypes any_next until_some here rest (types_until ends rest) (until_each rest)

  pub until_reads : IsReader (types_lang last AreFrameTypes) (types_until ends)
  until_reads = record { some = until_some; each = until_each }

-- the two ends

end_type : IsEnd Ended is_end
end_type = record { sound = sound; whole = λ token e. ap is_end e; apart = apart } where
  sound : (token : Token) → is_end token ≡ true → token ≡ LineEnd
  sound LineEnd e = refl
  sound (Word word) e = absurd cc
  sound (Quoted units) e = absurd cc
  sound Bad e = absurd cc

  apart : (token : Token) (type : FrameType) → IsFrameType type → Says (type_item type) token → is_end token ≡ false
  apart token (Simple word) i e = ap is_end e
  apart token (Object name) i s = ap is_end s.word
  apart token (New label) i e = ap is_end e

slash_type : IsEnd (Exactly (codes "/")) is_slash
slash_type = record { sound = sound; whole = λ token e. ap is_slash e; apart = apart } where
  from : (token : Token) (o : Option ⊤) → exactly (codes "/") token ≡ o → is_some o ≡ true → token ≡ Word (codes "/")
  from token (Some x) e t = ((exactly_reported (codes "/")).sound token x e).1
  from token None e t = absurd cc

  sound : (token : Token) → is_slash token ≡ true → token ≡ Word (codes "/")
  sound token e = from token (exactly (codes "/") token) refl e

  simple : (token : Token) (word : List ℕ) → is_slash (Word word) ≡ false → token ≡ Word word → is_slash token ≡ false
  simple token word f e = ap is_slash e ∙ f

  apart : (token : Token) (type : FrameType) → IsFrameType type → Says (type_item type) token → is_slash token ≡ false
  apart token (Simple word) (inl i) e = ap is_slash (e ∙ ap Word i)
  apart token (Simple word) (inr (inl i)) e = ap is_slash (e ∙ ap Word i)
  apart token (Simple word) (inr (inr (inl i))) e = ap is_slash (e ∙ ap Word i)
  apart token (Simple word) (inr (inr (inr (inl i)))) e = ap is_slash (e ∙ ap Word i)
  apart token (Simple word) (inr (inr (inr (inr (inl i))))) e = ap is_slash (e ∙ ap Word i)
  apart token (Simple word) (inr (inr (inr (inr (inr (inl i)))))) e = ap is_slash (e ∙ ap Word i)
  apart token (Simple word) (inr (inr (inr (inr (inr (inr i)))))) e = ap is_slash (e ∙ ap Word i)
  apart token (Object name) i s = ap is_slash s.word
  apart token (New label) i e = ap is_slash e

-- ---- this many at most

abbrev pub AreFew : ℕ → List FrameType → Type 0
AreFew most types = AreFrameTypes types × (length types ≤ most)

few_next : (most : ℕ) → IsNext (AreFew (suc most)) (AreFew most)
few_next most = record {
  none = (tt, omega arith);
  more = λ type types i l. ((i, l.0), omega (arith, l.1));
  less = λ type types i. (i.0.0, (i.0.1, omega (arith, i.1)));
}

no_type_seen : IsSeenAs end_lang (types_lang Ended (AreFew 0)) (λ (x : ⊤). [])
no_type_seen = record { items = λ x i. refl; is = λ x i. (tt, omega arith); fits = λ x f. tt; unfit = λ x f. tt; onto = onto } where
  onto : (types : List FrameType) → AreFew 0 types → IsMade (λ (x : ⊤). []) all types
  onto [] i = (tt, refl, tt)
  onto (type ∷ types) i = absurd (omega (arith, i.1))

few_some : (most : ℕ) → Started (types_lang Ended (AreFew most)) []
few_some most = record { value = []; is = (tt, omega arith); fits = tt; more = place LineEnd ∷ []; said = (refl, tt) }

few_each : (most : ℕ) (tokens : List Placed) → ReadFrom (types_lang Ended (AreFew most)) tokens (types_up_to most tokens)
unfolding types_up_to
few_each zero tokens = seen_read end_lang (types_lang Ended (AreFew 0)) (λ (x : ⊤). []) no_type_seen tokens (line_end tokens) (end_reads.each tokens)
few_each (suc most) [] = no_types Ended is_end end_type (AreFew (suc most)) (AreFew most) (few_next most) (few_some (suc most))
few_each (suc most) (here ∷ rest) =
    types_step Ended is_end end_type (AreFew (suc most)) (AreFew most) (few_next most) (few_some (suc most)) here rest (types_up_to most rest) (few_each most rest)

pub few_reads : (most : ℕ) → IsReader (types_lang Ended (AreFew most)) (types_up_to most)
few_reads most = record { some = few_some most; each = few_each most }

-- ---- frames by their words

abbrev pub frames_lang : Lang Frame
frames_lang = record { items = λ f. frame_items f ++ Ended ∷ []; is = IsFrame; fits = IsSizedFrame }

abbrev IsChop : ℤ → Type 0
IsChop n = (m : ℕ) × (n ≡ pos m) × (1 ≤ m) × (m ≤ 3)

abbrev stack_lang : Lang (FrameType × ⊤)
stack_lang = both type_lang end_lang

abbrev chop_lang : Lang (ℤ × ⊤)
chop_lang = both (number_lang IsChop) end_lang

abbrev append_lang : Lang (FrameType × List FrameType)
append_lang = both type_lang (types_lang Ended (AreFew 2))

abbrev full_lang : Lang (List FrameType × List FrameType)
full_lang = both (types_lang (Exactly (codes "/")) AreFrameTypes) (types_lang Ended AreFrameTypes)

abbrev same_of : ⊤ → Frame
same_of x = Same

abbrev stack_of : FrameType × ⊤ → Frame
stack_of x = Stack1 x.0

abbrev chop_of : ℤ × ⊤ → Frame
chop_of x = Chop x.0

abbrev append_of : FrameType × List FrameType → Frame
append_of x = Append (x.0 ∷ x.1)

abbrev full_of : List FrameType × List FrameType → Frame
full_of x = Full x.0 x.1

abbrev IsFrameOf : FrameStart → Frame → Type 0
IsFrameOf SameWord f = IsMade same_of all f
IsFrameOf StackWord f = IsMade stack_of stack_lang.is f
IsFrameOf ChopWord f = IsMade chop_of chop_lang.is f
IsFrameOf AppendWord f = IsMade append_of append_lang.is f
IsFrameOf FullWord f = IsMade full_of full_lang.is f

abbrev frame_word : FrameStart → List ℕ
frame_word SameWord = codes "same"
frame_word StackWord = codes "stack1"
frame_word ChopWord = codes "chop"
frame_word AppendWord = codes "append"
frame_word FullWord = codes "full"

abbrev frame_first : FrameStart → Item
frame_first start = Exactly (frame_word start)

abbrev frame_rows : List (List ℕ × FrameStart)
frame_rows = (codes "same", SameWord) ∷ (codes "stack1", StackWord) ∷ (codes "chop", ChopWord) ∷ (codes "append", AppendWord) ∷ (codes "full", FullWord) ∷ []

frame_row : (k : FrameStart) → row_of frame_rows (frame_word k) ≡ Some k
frame_row SameWord = refl
frame_row StackWord = refl
frame_row ChopWord = refl
frame_row AppendWord = refl
frame_row FullWord = refl

frame_reported : IsReported frame_first all frame_start
frame_reported = rows_reported frame_word frame_rows (refl, (refl, (refl, (refl, (refl, tt))))) frame_row

frames_choice : IsChoice frames_lang IsFrameOf frame_first frame_start
frames_choice = record {
  sound = λ token k e. (frame_reported.sound token k e).1;
  whole = λ token k f p said. frame_reported.whole token k tt said;
  kind = kind;
  is = is;
  items = items;
} where
  kind : (f : Frame) → IsFrame f → (k : FrameStart) × IsFrameOf k f
  kind Same i = (SameWord, (tt, refl, tt))
  kind (Stack1 type) i = (StackWord, ((type, tt), refl, (i, tt)))
  kind (Chop n) i = (ChopWord, ((n, tt), refl, (tt, tt)))
  kind (Append []) i = absurd (omega (arith, i.0))
  kind (Append (type ∷ types)) i = (AppendWord, ((type, types), refl, (i.2.0, (i.2.1, omega (arith, i.1)))))
  kind (Full locals stack) i = (FullWord, ((locals, stack), refl, i))

  is : (k : FrameStart) (f : Frame) → IsFrameOf k f → IsFrame f
  is SameWord f p = subst IsFrame (sym p.1) tt
  is StackWord f p = subst IsFrame (sym p.1) p.2.0
  is ChopWord f p = subst IsFrame (sym p.1) tt
  is AppendWord f p = subst IsFrame (sym p.1) (omega arith, omega (arith, p.2.1.1), (p.2.0, p.2.1.0))
  is FullWord f p = subst IsFrame (sym p.1) p.2

  items : (k : FrameStart) (f : Frame) → IsFrameOf k f → HasFirst frames_lang (frame_first k) f
  items SameWord f p = subst (HasFirst frames_lang (Exactly (codes "same"))) (sym p.1) refl
  items StackWord f p = subst (HasFirst frames_lang (Exactly (codes "stack1"))) (sym p.1) refl
  items ChopWord f p = subst (HasFirst frames_lang (Exactly (codes "chop"))) (sym p.1) refl
  items AppendWord f p = subst (HasFirst frames_lang (Exactly (codes "append"))) (sym p.1) refl
  items FullWord f p = subst (HasFirst frames_lang (Exactly (codes "full"))) (sym p.1) refl

abbrev After : FrameStart → Lang Frame
After k = after_first frames_lang IsFrameOf k

full_items : (locals stack : List FrameType) → (map type_item locals ++ Exactly (codes "/") ∷ map type_item stack) ++ Ended ∷ [] ≡ (map type_item locals ++ Exactly (codes "/") ∷ []) ++ (map type_item stack ++ Ended ∷ [])
full_items locals stack =
    append_assoc (map type_item locals) (Exactly (codes "/") ∷ map type_item stack) (Ended ∷ [])
    ∙ sym (append_assoc (map type_item locals) (Exactly (codes "/") ∷ []) (map type_item stack ++ Ended ∷ []))

frame_each : (k : FrameStart) → IsReader (After k) (frame_after k)
frame_each SameWord =
    mapped_reads end_lang (After SameWord) same_of line_end
    (record { items = λ x i. refl; is = λ x i. (x, refl, i); fits = λ x f. tt; unfit = λ x f. tt; onto = λ f p. p }) end_reads
frame_each StackWord =
    mapped_reads stack_lang (After StackWord) stack_of (frame_type & line_end)
    (record { items = λ x i. refl; is = λ x i. (x, refl, i); fits = λ x f. tt; unfit = λ x f. (tt, tt); onto = λ f p. p })
    (sequence_reads type_lang end_lang frame_type line_end type_reads end_reads)
frame_each ChopWord =
    mapped_reads chop_lang (After ChopWord) chop_of (number (is_between 1 3) & line_end)
    (record { items = λ x i. refl; is = λ x i. (x, refl, i); fits = λ x f. f.0; unfit = λ x f. (f, tt); onto = λ f p. p })
    (sequence_reads (number_lang IsChop) end_lang (number (is_between 1 3)) line_end (number_reads (is_between 1 3) IsChop chop_decides refl) end_reads)
frame_each AppendWord =
    mapped_reads append_lang (After AppendWord) append_of (frame_type & types_up_to 2)
    (record { items = λ x i. refl; is = λ x i. (x, refl, i); fits = λ x f. tt; unfit = λ x f. (tt, tt); onto = λ f p. p })
    (sequence_reads type_lang (types_lang Ended (AreFew 2)) frame_type (types_up_to 2) type_reads (few_reads 2))
frame_each FullWord =
    mapped_reads full_lang (After FullWord) full_of (types_until is_slash & types_until is_end)
    (record { items = λ x i. full_items x.0 x.1; is = λ x i. (x, refl, i); fits = λ x f. tt; unfit = λ x f. (tt, tt); onto = λ f p. p })
    (sequence_reads (types_lang (Exactly (codes "/")) AreFrameTypes) (types_lang Ended AreFrameTypes) (types_until is_slash) (types_until is_end)
    (until_reads (Exactly (codes "/")) is_slash slash_type (Word (codes "/")) refl) (until_reads Ended is_end end_type LineEnd refl))

frames_some : Started frames_lang []
frames_some = record { value = Same; is = tt; fits = tt; more = place (Word (codes "same")) ∷ place LineEnd ∷ []; said = (refl, (refl, tt)) }

pub frame_reads : IsReader frames_lang frame
frame_reads = choose_reads frames_lang IsFrameOf frame_first frame_start frames_choice frame_after frames_some (λ token k e. frame_each k)
