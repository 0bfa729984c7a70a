-- The readers of lists: targets up to a default, matches with their targets, and types of frames.
use Rattle.std.proofs.Common.{◌≡◌, ◌≢◌, ℕ, Bool, true, false, cond, ℤ, FitsSigned, List, [], ◌∷◌, ◌++◌, map, Option, Some, None, codes, bytes_eq, option_map, refl, sym, ap, ◌∙◌, subst, true≢false}
use Rattle.std.specs.Prelude.{⊤}
use Rattle.std.specs.List.{flat_map, AllByRecursion}
use Rattle.std.specs.Int.{w32}
use Rattle.std.proofs.lemmas.Slice.Eq.{bytes_eq-Decides}
use Rattle.dj_cursor.proofs.Options.{some_is}
use Rattle.dj_asm_tokens.specs.trusted.Words.{Token, Word, Quoted, Bad, LineEnd, Placed}
use Rattle.dj_asm_source.specs.trusted.Items.{Item, Exactly, Number, Ended, Says}
use Rattle.dj_asm_source.specs.trusted.Lines.{Label, IsTarget, pair_items, default_items}
use Rattle.dj_asm_tokens.specs.WordReading.{number_in}
use Rattle.dj_asm_source.specs.Reading.{Read, Large, read_map, word_of, is_signed, ◌&◌}
use Rattle.dj_asm_source.specs.LineReading.{label, line_end, TargetStart, DefaultWord, Target, target_start, default_after, targets_from, targets, MatchStart, DefaultMatch, MatchOf, match_in, match_start, LabelPairs, matches_from, target_from, pairs_after}
use Rattle.dj_asm_source.proofs.Readers.{Lang, Started, LargeFrom, ReadFrom, IsReader, both, sequence_reads, IsMade, IsSeenAs, seen_read, mapped_reads}
use Rattle.dj_asm_source.proofs.Choices.{after_first, HasFirst, IsChoice, IsReported, of_kind, kind_read, none_begun, nothing_left, place}
use Rattle.dj_asm_source.proofs.WordLaws.{word_reported, number_word_reported, signed_32}
use Rattle.dj_asm_source.proofs.TypeWords.{mapped_some}
use Rattle.dj_asm_source.proofs.FieldReaders.{all, label_lang, label_reads, end_lang, end_reads}

-- ---- the default

abbrev pub default_lang : Lang Label
default_lang = record { items = λ last. Exactly last ∷ Ended ∷ []; is = all; fits = all }

pub default_reads : IsReader default_lang default_after
default_reads =
    mapped_reads (both label_lang end_lang) default_lang (λ (x : Label × ⊤). x.0) (label & line_end)
    (record { items = λ x i. refl; is = λ x i. tt; fits = λ x f. tt; unfit = λ x f. (tt, tt); onto = λ l i. ((l, tt), refl, (tt, tt)) })
    (sequence_reads label_lang end_lang label line_end label_reads end_reads)

default_word : (word : List ℕ) → bytes_eq (codes "default") word ≡ true → word ≡ codes "default"
default_word word t = sym ((bytes_eq-Decides (codes "default") word).0 t)

no_default : (word : List ℕ) → bytes_eq (codes "default") word ≡ false → word ≢ codes "default"
no_default word t e = true≢false (sym ((bytes_eq-Decides (codes "default") word).1 (sym e)) ∙ t)

not_default : (word : List ℕ) → word ≢ codes "default" → bytes_eq (codes "default") word ≡ false
not_default word n = by (bytes_eq (codes "default") word) refl where
  by : (t : Bool) → bytes_eq (codes "default") word ≡ t → t ≡ false
  by false t = refl
  by true t = absurd (n (default_word word t))

-- ---- targets

abbrev pub targets_lang : Lang (List Label × Label)
targets_lang = record {
  items = λ x. (map Exactly x.0 ++ default_items x.1) ++ Ended ∷ [];
  is = λ x. AllByRecursion IsTarget x.0;
  fits = all;
}

abbrev no_targets : Label → List Label × Label
no_targets last = ([], last)

abbrev one_target : Label → List Label × Label → List Label × Label
one_target first x = (first ∷ x.0, x.1)

abbrev IsTargets : TargetStart → List Label × Label → Type 0
IsTargets DefaultWord x = IsMade no_targets all x
IsTargets (Target first) x = IsTarget first × IsMade (one_target first) (λ (y : List Label × Label). AllByRecursion IsTarget y.0) x

abbrev target_item : TargetStart → Item
target_item DefaultWord = Exactly (codes "default")
target_item (Target first) = Exactly first

abbrev IsTargetStart : TargetStart → Type 0
IsTargetStart DefaultWord = ⊤
IsTargetStart (Target first) = IsTarget first

target_sound : (token : Token) (start : TargetStart) → target_start token ≡ Some start → IsTargetStart start × Says (target_item start) token
target_sound (Word word) start e = by (bytes_eq (codes "default") word) refl e where
  by : (t : Bool) → bytes_eq (codes "default") word ≡ t → Some (cond t DefaultWord (Target word)) ≡ Some start → IsTargetStart start × Says (target_item start) (Word word)
  by true t e = subst (λ k. IsTargetStart k × Says (target_item k) (Word word)) (some_is DefaultWord start e) (tt, ap Word (default_word word t))
  by false t e = subst (λ k. IsTargetStart k × Says (target_item k) (Word word)) (some_is (Target word) start e) (no_default word t, refl)
target_sound token start e = absurd cc

targets_choice : IsChoice targets_lang IsTargets target_item target_start
targets_choice = record { sound = λ token k e. (target_sound token k e).1; whole = whole; kind = kind; is = is; items = items } where
  whole : (token : Token) (k : TargetStart) (x : List Label × Label) → IsTargets k x → Says (target_item k) token → target_start token ≡ Some k
  whole token DefaultWord x p e = ap target_start e
  whole token (Target first) x p e = ap target_start e ∙ ap (λ b. Some (cond b DefaultWord (Target first))) (not_default first p.0)

  kind : (x : List Label × Label) → AllByRecursion IsTarget x.0 → (k : TargetStart) × IsTargets k x
  kind ([], last) i = (DefaultWord, (last, refl, tt))
  kind (first ∷ others, last) i = (Target first, (i.0, ((others, last), refl, i.1)))

  is : (k : TargetStart) (x : List Label × Label) → IsTargets k x → AllByRecursion IsTarget x.0
  is DefaultWord x p = subst (λ (y : List Label × Label). AllByRecursion IsTarget y.0) (sym p.1) tt
  is (Target first) x p = subst (λ (y : List Label × Label). AllByRecursion IsTarget y.0) (sym p.1.1) (p.0, p.1.2)

  items : (k : TargetStart) (x : List Label × Label) → IsTargets k x → HasFirst targets_lang (target_item k) x
  items DefaultWord x p = subst (HasFirst targets_lang (Exactly (codes "default"))) (sym p.1) refl
  items (Target first) x p = subst (HasFirst targets_lang (Exactly first)) (sym p.1.1) refl

targets_some : Started targets_lang []
targets_some = record { value = ([], []); is = tt; fits = tt; more = place (Word (codes "default")) ∷ place (Word []) ∷ place LineEnd ∷ []; said = (refl, (refl, (refl, tt))) }

default_seen : IsSeenAs default_lang (after_first targets_lang IsTargets DefaultWord) no_targets
default_seen = record { items = λ l i. refl; is = λ l i. (l, refl, tt); fits = λ l f. tt; unfit = λ l f. tt; onto = λ x p. p }

target_seen : (first : Label) → IsTarget first → IsSeenAs targets_lang (after_first targets_lang IsTargets (Target first)) (one_target first)
target_seen first n = record { items = λ x i. refl; is = λ x i. (n, (x, refl, i)); fits = λ x f. tt; unfit = λ x f. tt; onto = λ x p. p.1 }

targets_each : (tokens : List Placed) → ReadFrom targets_lang tokens (targets tokens)
unfolding targets
targets_each [] = nothing_left targets_lang IsTargets target_item target_start targets_choice targets_some
targets_each (here ∷ rest) = by (target_start here.token) refl (targets_each rest) where
  by : (o : Option TargetStart) → target_start here.token ≡ o → ReadFrom targets_lang rest (targets rest) → ReadFrom targets_lang (here ∷ rest) (targets_from o here rest (targets rest))
  by None e more = none_begun targets_lang IsTargets target_item target_start targets_choice targets_some here rest e
  by (Some DefaultWord) e more =
      kind_read targets_lang IsTargets target_item target_start targets_choice here rest DefaultWord e (read_map no_targets (default_after rest))
      (seen_read default_lang (after_first targets_lang IsTargets DefaultWord) no_targets default_seen rest (default_after rest) (default_reads.each rest))
  by (Some (Target first)) e more =
      kind_read targets_lang IsTargets target_item target_start targets_choice here rest (Target first) e (read_map (one_target first) (targets rest))
      (seen_read targets_lang (after_first targets_lang IsTargets (Target first)) (one_target first) (target_seen first (target_sound here.token (Target first) e).0) rest (targets rest) more)

pub targets_reads : IsReader targets_lang targets
targets_reads = record { some = targets_some; each = targets_each }

-- ---- matches with their targets

abbrev pub IsSmallPair : ℤ × Label → Type 0
IsSmallPair pair = FitsSigned w32 pair.0

abbrev pub pairs_lang : Lang LabelPairs
pairs_lang = record {
  items = λ x. (flat_map pair_items x.0 ++ default_items x.1) ++ Ended ∷ [];
  is = all;
  fits = λ x. AllByRecursion IsSmallPair x.0;
}

abbrev no_pairs : Label → LabelPairs
no_pairs last = ([], last)

abbrev one_pair : ℤ → Label × LabelPairs → LabelPairs
one_pair n x = ((n, x.0) ∷ x.1.0, x.1.1)

abbrev pair_of : ℤ → Label → LabelPairs → LabelPairs
pair_of n first x = ((n, first) ∷ x.0, x.1)

abbrev ArePairs : MatchStart → LabelPairs → Type 0
ArePairs DefaultMatch x = IsMade no_pairs all x
ArePairs (MatchOf n) x = IsMade (one_pair n) all x

abbrev match_item : MatchStart → Item
match_item DefaultMatch = Exactly (codes "default")
match_item (MatchOf n) = Number n

match_word_sound : (word : List ℕ) (start : MatchStart) → match_in word ≡ Some start → ⊤ × Says (match_item start) (Word word)
match_word_sound word start e = by (bytes_eq (codes "default") word) refl e where
  by : (t : Bool) → bytes_eq (codes "default") word ≡ t → cond t (Some DefaultMatch) (option_map (λ n. MatchOf n) (number_in word)) ≡ Some start → ⊤ × Says (match_item start) (Word word)
  by true t e = (tt, subst (λ k. Says (match_item k) (Word word)) (some_is DefaultMatch start e) (ap Word (default_word word t)))
  by false t e =
      let m = mapped_some (λ n. MatchOf n) (number_in word) start e in
      (tt, subst (λ k. Says (match_item k) (Word word)) m.2 (number_word_reported.sound word m.0 m.1).1)

-- a number is no default
number_first : (word : List ℕ) (n : ℤ) → number_in word ≡ Some n → match_in word ≡ Some (MatchOf n)
number_first word n e = by (bytes_eq (codes "default") word) refl where
  by : (t : Bool) → bytes_eq (codes "default") word ≡ t → cond t (Some DefaultMatch) (option_map (λ m. MatchOf m) (number_in word)) ≡ Some (MatchOf n)
  by false t = ap (option_map (λ m. MatchOf m)) e
  by true t = absurd (no_number (sym (ap number_in (default_word word t)) ∙ e)) where
    no_number : number_in (codes "default") ≡ Some n → ⊥
    no_number e = absurd cc

match_word_whole : (token : Token) (start : MatchStart) → ⊤ → Says (match_item start) token → (word : List ℕ) × (token ≡ Word word) × (match_in word ≡ Some start)
match_word_whole token DefaultMatch i e = (codes "default", e, refl)
match_word_whole token (MatchOf n) i s = let w = number_word_reported.whole token n tt s in (w.0, w.1, number_first w.0 n w.2)

match_reported : IsReported match_item all match_start
match_reported = word_reported match_item all match_in (record { sound = match_word_sound; whole = match_word_whole })

pairs_choice : IsChoice pairs_lang ArePairs match_item match_start
pairs_choice = record {
  sound = λ token k e. (match_reported.sound token k e).1;
  whole = λ token k x p said. match_reported.whole token k tt said;
  kind = kind;
  is = λ k x p. tt;
  items = items;
} where
  kind : (x : LabelPairs) → ⊤ → (k : MatchStart) × ArePairs k x
  kind ([], last) i = (DefaultMatch, (last, refl, tt))
  kind ((n, first) ∷ others, last) i = (MatchOf n, ((first, (others, last)), refl, tt))

  items : (k : MatchStart) (x : LabelPairs) → ArePairs k x → HasFirst pairs_lang (match_item k) x
  items DefaultMatch x p = subst (HasFirst pairs_lang (Exactly (codes "default"))) (sym p.1) refl
  items (MatchOf n) x p = subst (HasFirst pairs_lang (Number n)) (sym p.1) refl

pairs_some : Started pairs_lang []
pairs_some = record { value = ([], []); is = tt; fits = tt; more = place (Word (codes "default")) ∷ place (Word []) ∷ place LineEnd ∷ []; said = (refl, (refl, (refl, tt))) }

-- after a match its target stands
abbrev after_match : ℤ → Lang LabelPairs
after_match n = after_first pairs_lang ArePairs (MatchOf n)

abbrev IsPairOf : ℤ → Label → LabelPairs → Type 0
IsPairOf n first x = IsMade (pair_of n first) all x

target_choice : (n : ℤ) → IsChoice (after_match n) (IsPairOf n) Exactly word_of
target_choice n = record {
  sound = λ token l e. word_is token l e;
  whole = λ token l x p e. ap word_of e;
  kind = λ x p. (p.0.0, (p.0.1, p.1, tt));
  is = λ l x p. ((l, p.0), p.1, tt);
  items = λ l x p. subst (HasFirst (after_match n) (Exactly l)) (sym p.1) refl;
} where
  word_is : (token : Token) (l : Label) → word_of token ≡ Some l → token ≡ Word l
  word_is (Word word) l e = ap Word (some_is word l e)
  word_is (Quoted units) l e = absurd cc
  word_is Bad l e = absurd cc
  word_is LineEnd l e = absurd cc

after_match_some : (n : ℤ) → FitsSigned w32 n → Started (after_match n) []
after_match_some n fit = record {
  value = ((n, []) ∷ [], []);
  is = (([], ([], [])), refl, tt);
  fits = (fit, tt);
  more = place (Word []) ∷ place (Word (codes "default")) ∷ place (Word []) ∷ place LineEnd ∷ [];
  said = (refl, (refl, (refl, (refl, tt))));
}

default_pairs : IsSeenAs default_lang (after_first pairs_lang ArePairs DefaultMatch) no_pairs
default_pairs = record { items = λ l i. refl; is = λ l i. (l, refl, tt); fits = λ l f. tt; unfit = λ l f. tt; onto = λ x p. p }

pair_seen : (n : ℤ) (first : Label) → FitsSigned w32 n → IsSeenAs pairs_lang (after_first (after_match n) (IsPairOf n) first) (pair_of n first)
pair_seen n first fit = record { items = λ x i. refl; is = λ x i. (x, refl, tt); fits = λ x f. (fit, f); unfit = λ x f. f.1; onto = λ x p. p }

-- a match that doesn't fit
large_match : (here : Placed) (rest : List Placed) (n : ℤ) → match_start here.token ≡ Some (MatchOf n) → is_signed 31 n ≡ false → LargeFrom pairs_lang (here ∷ rest) (here ∷ rest)
large_match here rest n e unfit = record {
  prefix = [];
  here = here;
  others = rest;
  rest_is = refl;
  parts = refl;
  good = pairs_some;
  some = record {
    value = ((n, []) ∷ [], []);
    is = tt;
    more = place (Word []) ∷ place (Word (codes "default")) ∷ place (Word []) ∷ place LineEnd ∷ [];
    said = ((match_reported.sound here.token (MatchOf n) e).1, (refl, (refl, (refl, (refl, tt)))));
  };
  none = λ x us more after i fits said same.
      let o = of_kind pairs_lang ArePairs match_item match_start pairs_choice here rest (MatchOf n) e x us more after i said same in
      let small : AllByRecursion IsSmallPair (one_pair n o.1.0).0 = subst (λ (y : LabelPairs). AllByRecursion IsSmallPair y.0) o.1.1 fits in
      true≢false (sym ((signed_32 n).1 small.0) ∙ unfit);
}

abbrev pending_lang : Option ℤ → Lang LabelPairs
pending_lang None = pairs_lang
pending_lang (Some n) = after_match n

abbrev IsSmallPending : Option ℤ → Type 0
IsSmallPending None = ⊤
IsSmallPending (Some n) = FitsSigned w32 n

pending_some : (pending : Option ℤ) → IsSmallPending pending → Started (pending_lang pending) []
pending_some None small = pairs_some
pending_some (Some n) small = after_match_some n small

match_step : (here : Placed) (rest : List Placed) (o : Option MatchStart) (more : ℤ → Read LabelPairs) → match_start here.token ≡ o
    → ((n : ℤ) → FitsSigned w32 n → ReadFrom (after_match n) rest (more n)) → ReadFrom pairs_lang (here ∷ rest) (matches_from o here rest more)
match_step here rest None more e each = none_begun pairs_lang ArePairs match_item match_start pairs_choice pairs_some here rest e
match_step here rest (Some DefaultMatch) more e each =
    kind_read pairs_lang ArePairs match_item match_start pairs_choice here rest DefaultMatch e (read_map no_pairs (default_after rest))
    (seen_read default_lang (after_first pairs_lang ArePairs DefaultMatch) no_pairs default_pairs rest (default_after rest) (default_reads.each rest))
match_step here rest (Some (MatchOf n)) more e each = by (is_signed 31 n) refl where
  by : (t : Bool) → is_signed 31 n ≡ t → ReadFrom pairs_lang (here ∷ rest) (cond t (more n) (Large (here ∷ rest)))
  by true t = kind_read pairs_lang ArePairs match_item match_start pairs_choice here rest (MatchOf n) e (more n) (each n ((signed_32 n).0 t))
  by false t = large_match here rest n e t

target_step : (n : ℤ) → FitsSigned w32 n → (here : Placed) (rest : List Placed) (o : Option Label) (more : Read LabelPairs) → word_of here.token ≡ o → ReadFrom pairs_lang rest more
    → ReadFrom (after_match n) (here ∷ rest) (target_from n o here rest more)
target_step n fit here rest None more e each = none_begun (after_match n) (IsPairOf n) Exactly word_of (target_choice n) (after_match_some n fit) here rest e
target_step n fit here rest (Some first) more e each =
    kind_read (after_match n) (IsPairOf n) Exactly word_of (target_choice n) here rest first e (read_map (pair_of n first) more)
    (seen_read pairs_lang (after_first (after_match n) (IsPairOf n) first) (pair_of n first) (pair_seen n first fit) rest more each)

pairs_each : (tokens : List Placed) (pending : Option ℤ) → IsSmallPending pending → ReadFrom (pending_lang pending) tokens (pairs_after pending tokens)
unfolding pairs_after
pairs_each [] None small = nothing_left pairs_lang ArePairs match_item match_start pairs_choice pairs_some
pairs_each [] (Some n) small = nothing_left (after_match n) (IsPairOf n) Exactly word_of (target_choice n) (after_match_some n small)
pairs_each (here ∷ rest) None small =
    match_step here rest (match_start here.token) (λ n. pairs_after (Some n) rest) refl (λ n fit. pairs_each rest (Some n) fit)
pairs_each (here ∷ rest) (Some n) small = target_step n small here rest (word_of here.token) (pairs_after None rest) refl (pairs_each rest None tt)

pub pairs_reads : IsReader pairs_lang (pairs_after None)
pairs_reads = record { some = pairs_some; each = λ tokens. pairs_each tokens None tt }
