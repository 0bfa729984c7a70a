-- Each text is one source's or has a fault in its words, and reading says which.
use Rattle.std.proofs.Common.{◌≡◌, ◌⊎◌, ℕ, List, [], ◌∷◌, ◌++◌, map, Ok, Err, refl, sym, ap, ◌∙◌, subst, inl, inr, append_assoc}
use Rattle.std.specs.List.{flat_map, AllByRecursion, AllZip, enumerate_from}
use Rattle.std.specs.Str.Lines.{lines}
use Rattle.dj_asm_source.specs.declared.error.AsmError.{AsmError}
use Rattle.dj_asm_tokens.specs.trusted.Words.{Token, Placed, line_tokens, tokens_of, end_line}
use Rattle.dj_asm_source.specs.trusted.Items.{Item, Says}
use Rattle.dj_asm_source.specs.trusted.Lines.{Line, IsLine, IsSized}
use Rattle.dj_asm_source.specs.trusted.Sources.{Source, IsSource, IsSizedSource, Reads, line_items, lines_of, token_of, IsTextOf}
use Rattle.dj_asm_source.specs.Order.{AtClass}
use Rattle.dj_asm_source.specs.trusted.Faults.{Begins, IsAt, IsMisplaced, IsLargeNumber, IsUnfinished, WordFault}
use Rattle.dj_asm_source.specs.LineReading.{AreRead, text_read}
use Rattle.dj_asm_source.proofs.FaultLaws.{no_fault_of_text}
use Rattle.dj_asm_source.proofs.OrderLaws.{lines_follow}
use Rattle.dj_asm_source.proofs.OrderSources.{source_of}
use Rattle.dj_asm_source.proofs.Readers.{Said, Started, Allowed}
use Rattle.dj_asm_source.proofs.Choices.{place}
use Rattle.dj_asm_tokens.proofs.TokenLaws.{IsRowOrNone, line_row}
use Rattle.dj_asm_source.proofs.TextReading.{rest_lang, Stops, IsWrong, IsLarge, IsShort, AreLines, IsRead, joined, rows_read}

-- ---- tokens with their places, and without

tokens_said : (items : List Item) (tokens : List Placed) → Said items tokens → AllZip Says items (map token_of tokens)
tokens_said [] [] said = tt
tokens_said [] (t ∷ ts) said = absurd said
tokens_said (x ∷ items) [] said = absurd said
tokens_said (x ∷ items) (t ∷ ts) (reported, said) = (reported, tokens_said items ts said)

said_tokens : (items : List Item) (tokens : List Placed) → AllZip Says items (map token_of tokens) → Said items tokens
said_tokens [] [] said = tt
said_tokens [] (t ∷ ts) said = absurd said
said_tokens (x ∷ items) [] said = absurd said
said_tokens (x ∷ items) (t ∷ ts) (reported, said) = (reported, said_tokens items ts said)

map_more : (xs ys : List Placed) → map token_of (xs ++ ys) ≡ map token_of xs ++ map token_of ys
map_more [] ys = refl
map_more (x ∷ xs) ys = ap (λ ts. token_of x ∷ ts) (map_more xs ys)

placed_back : (tokens : List Token) → map token_of (map place tokens) ≡ tokens
placed_back [] = refl
placed_back (t ∷ ts) = ap (λ us. t ∷ us) (placed_back ts)

-- tokens with places, and others after them
said_more : (items : List Item) (tokens : List Placed) (more : List Token) → AllZip Says items (map token_of tokens ++ more) → Said items (tokens ++ map place more)
said_more items tokens more said =
    said_tokens items (tokens ++ map place more)
    (subst (λ ts. AllZip Says items ts) (sym (map_more tokens (map place more) ∙ ap (λ ts. map token_of tokens ++ ts) (placed_back more))) said)

-- ---- lines and sources

follows : (s : Source) → IsSource s → (rest_lang AtClass).is (lines_of s)
follows s is = (is, lines_follow s)

begins_sized : (prefix : List Placed) → Started (rest_lang AtClass) prefix → Begins IsSizedSource (map token_of prefix)
begins_sized prefix s = begun (source_of s.value s.is.1) where
  begun : (source : Source) × (s.value ≡ lines_of source) → Begins IsSizedSource (map token_of prefix)
  begun (source, e) = record {
    source = source;
    such = (subst (AllByRecursion IsLine) e s.is.0, subst (AllByRecursion IsSized) e s.fits);
    rest = map token_of s.more;
    read = subst (λ ls. AllZip Says (flat_map line_items ls) (map token_of prefix ++ map token_of s.more)) e
        (subst (λ ts. AllZip Says (flat_map line_items s.value) ts) (map_more prefix s.more) (tokens_said (flat_map line_items s.value) (prefix ++ s.more) s.said));
  }

begins_any : (prefix : List Placed) → Allowed (rest_lang AtClass) prefix → Begins IsSource (map token_of prefix)
begins_any prefix s = begun (source_of s.value s.is.1) where
  begun : (source : Source) × (s.value ≡ lines_of source) → Begins IsSource (map token_of prefix)
  begun (source, e) = record {
    source = source;
    such = subst (AllByRecursion IsLine) e s.is.0;
    rest = map token_of s.more;
    read = subst (λ ls. AllZip Says (flat_map line_items ls) (map token_of prefix ++ map token_of s.more)) e
        (subst (λ ts. AllZip Says (flat_map line_items s.value) ts) (map_more prefix s.more) (tokens_said (flat_map line_items s.value) (prefix ++ s.more) s.said));
  }

-- the lines of a source that begins with these tokens
said_on : (source : Source) (prefix : List Placed) (here : Placed) (rest : List Token) → Reads source (map token_of (prefix ++ here ∷ []) ++ rest)
    → Said (flat_map line_items (lines_of source)) (prefix ++ here ∷ map place rest)
said_on source prefix here rest read =
    subst (λ ts. Said (flat_map line_items (lines_of source)) ts) (append_assoc prefix (here ∷ []) (map place rest))
    (said_more (flat_map line_items (lines_of source)) (prefix ++ here ∷ []) rest read)

-- ---- a text

-- reading gives the lines of the text's source, or the fault
abbrev pub IsReadRightly : List ℕ → AreRead → Type 0
IsReadRightly text (Ok lines) = (s : Source) × (lines ≡ lines_of s) × IsTextOf text s
IsReadRightly text (Err e) = WordFault text e

module _ (text : List ℕ) where
  at : (prefix : List Placed) (here : Placed) → Stops AtClass (tokens_of text) prefix here → IsAt text prefix here
  at prefix here s = record { rest = s.others; parts = s.parts; good = begins_sized prefix s.good }

  misplaced : (e : AsmError) → IsWrong AtClass (tokens_of text) e → IsMisplaced text e
  misplaced e w = record {
    prefix = w.prefix;
    here = w.here;
    at = at w.prefix w.here w.stops;
    none = λ b. w.none (lines_of b.source) (map place b.rest) (follows b.source b.such) (said_on b.source w.prefix w.here b.rest b.read);
    reported = w.reported;
  }

  too_large : (e : AsmError) → IsLarge AtClass (tokens_of text) e → IsLargeNumber text e
  too_large e w = record {
    prefix = w.prefix;
    here = w.here;
    at = at w.prefix w.here w.stops;
    some = begins_any (w.prefix ++ w.here ∷ []) w.some;
    none = λ b. w.none (lines_of b.source) (map place b.rest) (follows b.source b.such.0) b.such.1 (said_on b.source w.prefix w.here b.rest b.read);
    reported = w.reported;
  }

  unfinished : (e : AsmError) → IsShort (end_line text) AtClass (tokens_of text) e → IsUnfinished text e
  unfinished e w = record {
    good = begins_sized (tokens_of text) w.good;
    none = λ s is. w.none (lines_of s) (follows s is.allowed.0) (said_tokens (flat_map line_items (lines_of s)) (tokens_of text) is.read);
    reported = w.reported;
  }

  of_text : (found : List Line) → AreLines AtClass (tokens_of text) found → (s : Source) × (found ≡ lines_of s) × IsTextOf text s
  of_text found a = from (source_of found a.is.1) where
    from : (s : Source) × (found ≡ lines_of s) → (s : Source) × (found ≡ lines_of s) × IsTextOf text s
    from (s, e) = (
      s,
      e,
      record {
        allowed = (subst (AllByRecursion IsLine) e a.is.0, subst (AllByRecursion IsSized) e a.fits);
        read = subst (λ ls. AllZip Says (flat_map line_items ls) (map token_of (tokens_of text))) e (tokens_said (flat_map line_items found) (tokens_of text) a.said);
      },
    )

  rightly : (r : AreRead) → IsRead (end_line text) AtClass (tokens_of text) r → IsReadRightly text r
  rightly (Ok found) a = of_text found a
  rightly (Err e) (inl w) = inl (misplaced e w)
  rightly (Err e) (inr (inl w)) = inr (inl (too_large e w))
  rightly (Err e) (inr (inr w)) = inr (inr (unfinished e w))

join_lines : (all : List (ℕ × List ℕ)) → joined (map line_tokens all) ≡ flat_map line_tokens all
join_lines [] = refl
join_lines (l ∷ all) = ap (λ ts. line_tokens l ++ ts) (join_lines all)

line_rows : (all : List (ℕ × List ℕ)) → AllByRecursion IsRowOrNone (map line_tokens all)
line_rows [] = tt
line_rows (l ∷ all) = (line_row l, line_rows all)

text_is_read : (text : List ℕ) → IsRead (end_line text) AtClass (tokens_of text) (text_read text)
text_is_read text =
    let all = enumerate_from 1 (lines text) in
    subst (λ ts. IsRead (end_line text) AtClass ts (text_read text)) (join_lines all) (rows_read (end_line text) AtClass (map line_tokens all) (line_rows all))

-- what reading gives is right
pub text_read_rightly : (text : List ℕ) → IsReadRightly text (text_read text)
text_read_rightly text = rightly text (text_read text) (text_is_read text)

-- each text is a source's, or it has a fault in its words
pub word_fault_or_text : (text : List ℕ) → ((s : Source) × IsTextOf text s) ⊎ ((e : AsmError) × WordFault text e)
word_fault_or_text text = from (text_read text) (text_read_rightly text) where
  from : (r : AreRead) → IsReadRightly text r → ((s : Source) × IsTextOf text s) ⊎ ((e : AsmError) × WordFault text e)
  from (Ok found) (s, e, is) = inl (s, is)
  from (Err e) fault = inr (e, fault)

-- reading a source's text gives its lines
pub lines_are_read : (text : List ℕ) (s : Source) → IsTextOf text s → text_read text ≡ Ok (lines_of s)
lines_are_read text s p = from (text_read text) (text_is_read text) where
  from : (r : AreRead) → IsRead (end_line text) AtClass (tokens_of text) r → r ≡ Ok (lines_of s)
  from (Ok found) is = ap Ok (sym (is.unique (lines_of s) (follows s p.allowed.0) (said_tokens (flat_map line_items (lines_of s)) (tokens_of text) p.read)))
  from (Err e) fault = absurd (no_fault_of_text text s e p (rightly text (Err e) fault))

abbrev ok_lines : List Line → AreRead
ok_lines found = Ok found

ok_is : (xs ys : List Line) → ok_lines xs ≡ ok_lines ys → xs ≡ ys
ok_is xs ys e = cc

-- the lines that a text says
pub text_lines : (text : List ℕ) (a b : Source) → IsTextOf text a → IsTextOf text b → lines_of a ≡ lines_of b
text_lines text a b p q = ok_is (lines_of a) (lines_of b) (sym (lines_are_read text a p) ∙ lines_are_read text b q)
