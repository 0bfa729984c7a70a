-- All lines of a text are read, or its first fault is reported: line by line, from a state on.
use Rattle.std.proofs.Common.{◌≡◌, ◌⊎◌, ℕ, Bool, true, false, cond, List, [], ◌∷◌, ◌++◌, map, Option, Some, None, Ok, Err, is_some, refl, sym, ap, ◌∙◌, subst, inl, inr, true≢false, append_assoc}
use Rattle.std.specs.List.{flat_map, AllByRecursion, AllZip}
use Rattle.std.proofs.lemmas.List.{append-nil}
use Rattle.dj_asm_source.specs.declared.error.AsmError.{AsmError}
use Rattle.dj_asm_source.specs.declared.error.AsmError.TheVariants as asm_errors
use Rattle.dj_asm_tokens.specs.trusted.Words.{Token, Placed}
use Rattle.dj_asm_source.specs.trusted.Items.{Item, Says}
use Rattle.dj_asm_source.specs.trusted.Lines.{Line, items_of, IsLine, IsSized}
use Rattle.dj_asm_source.specs.trusted.Sources.{line_items}
use Rattle.dj_asm_source.specs.Order.{State, after, run, is_final}
use Rattle.dj_asm_source.specs.Reading.{Read, Got, Wrong, Large}
use Rattle.dj_asm_source.specs.LineReading.{line, AreRead, missing, wrong_at, large_at, with_line, lines_from, lines_read}
use Rattle.dj_asm_source.proofs.Beginnings.{closing, closing_final, closing_lines, closing_sizes, closing_tokens, closing_said}
use Rattle.dj_asm_source.proofs.Readers.{Lang, Said, Started, Allowed, GotFrom, WrongFrom, LargeFrom, ReadFrom, split, said_append}
use Rattle.dj_asm_source.proofs.Choices.{place}
use Rattle.dj_asm_source.proofs.LineReaders.{lines_lang, line_reads}
use Rattle.dj_asm_tokens.proofs.TokenLaws.{IsRow, IsRowOrNone, at_end}
use Rattle.dj_asm_source.proofs.ItemLaws.{line_is_over, no_line_said, last_said}

-- ---- the lines from a state on

abbrev pub rest_lang : State → Lang (List Line)
rest_lang state = record {
  items = λ lines. flat_map line_items lines;
  is = λ lines. AllByRecursion IsLine lines × (is_final (run (Some state) lines) ≡ true);
  fits = λ lines. AllByRecursion IsSized lines;
}

pub placed_said : (items : List Item) (tokens : List Token) → AllZip Says items tokens → Said items (map place tokens)
placed_said [] [] said = tt
placed_said [] (t ∷ ts) said = absurd said
placed_said (x ∷ items) [] said = absurd said
placed_said (x ∷ items) (t ∷ ts) (reported, said) = (reported, placed_said items ts said)

closing_started : (state : State) → Started (rest_lang state) []
closing_started state = record {
  value = closing state;
  is = (closing_lines state, closing_final state);
  fits = closing_sizes state;
  more = map place (closing_tokens state);
  said = placed_said (flat_map line_items (closing state)) (closing_tokens state) (closing_said state);
}

-- ---- faults

pub record Stops (state : State) (tokens : List Placed) (prefix : List Placed) (here : Placed) : Type 0 where
  pub others : List Placed
  pub parts : tokens ≡ prefix ++ here ∷ others
  pub good : Started (rest_lang state) prefix

pub record IsWrong (state : State) (tokens : List Placed) (e : AsmError) : Type 0 where
  pub prefix : List Placed
  pub here : Placed
  pub stops : Stops state tokens prefix here
  pub none : (lines : List Line) (more : List Placed) → (rest_lang state).is lines → Said (flat_map line_items lines) (prefix ++ here ∷ more) → ⊥
  pub reported : e ≡ asm_errors.Syntax here.line here.column

pub record IsLarge (state : State) (tokens : List Placed) (e : AsmError) : Type 0 where
  pub prefix : List Placed
  pub here : Placed
  pub stops : Stops state tokens prefix here
  pub some : Allowed (rest_lang state) (prefix ++ here ∷ [])
  pub none : (lines : List Line) (more : List Placed) → (rest_lang state).is lines → AllByRecursion IsSized lines → Said (flat_map line_items lines) (prefix ++ here ∷ more) → ⊥
  pub reported : e ≡ asm_errors.Large here.line

pub record IsShort (end : ℕ) (state : State) (tokens : List Placed) (e : AsmError) : Type 0 where
  pub good : Started (rest_lang state) tokens
  pub none : (lines : List Line) → (rest_lang state).is lines → Said (flat_map line_items lines) tokens → ⊥
  pub reported : e ≡ missing end

pub record AreLines (state : State) (tokens : List Placed) (lines : List Line) : Type 0 where
  pub is : (rest_lang state).is lines
  pub fits : AllByRecursion IsSized lines
  pub said : Said (flat_map line_items lines) tokens
  pub unique : (others : List Line) → (rest_lang state).is others → Said (flat_map line_items others) tokens → others ≡ lines

abbrev pub IsRead : ℕ → State → List Placed → AreRead → Type 0
IsRead end state tokens (Ok lines) = AreLines state tokens lines
IsRead end state tokens (Err e) = IsWrong state tokens e ⊎ (IsLarge state tokens e ⊎ IsShort end state tokens e)

-- ---- a line, and those after it

-- the state after a line that may stand
pub record Next (state : State) (first : Line) : Type 0 where
  pub state_after : State
  pub is : after state first ≡ Some state_after

next_of : (state : State) (first : Line) → is_some (after state first) ≡ true → Next state first
next_of state first e = from (after state first) refl e where
  from : (o : Option State) → after state first ≡ o → is_some o ≡ true → Next state first
  from (Some next) same e = record { state_after = next; is = same }
  from None same e = absurd cc

-- what ends finally goes on after its first line
goes_on : (state : State) (first : Line) (lines : List Line) → is_final (run (Some state) (first ∷ lines)) ≡ true → is_some (after state first) ≡ true
unfolding run
goes_on state first lines e = from (after state first) lines e where
  from : (o : Option State) (lines : List Line) → is_final (run o lines) ≡ true → is_some o ≡ true
  from (Some next) lines e = refl
  from None [] e = absurd cc
  from None (l ∷ lines) e = absurd cc

run_on : (state next : State) (first : Line) (lines : List Line) → after state first ≡ Some next → run (Some state) (first ∷ lines) ≡ run (Some next) lines
unfolding run
run_on state next first lines e = ap (λ o. run o lines) e

-- a line that was begun can be finished, and the text after it
line_started : (state : State) (tokens : List Placed) → Started (lines_lang state) tokens → Started (rest_lang state) tokens
line_started state tokens s =
    let n = next_of state s.value s.is.1 in
    let c = closing_started n.state_after in
    record {
      value = s.value ∷ c.value;
      is = ((s.is.0, c.is.0), ap is_final (run_on state n.state_after s.value c.value n.is) ∙ c.is.1);
      fits = (s.fits, c.fits);
      more = s.more ++ c.more;
      said = subst (λ ts. Said (line_items s.value ++ flat_map line_items c.value) ts) (append_assoc tokens s.more c.more)
          (said_append (line_items s.value) (flat_map line_items c.value) (tokens ++ s.more) c.more s.said c.said);
    }

line_allowed : (state : State) (tokens : List Placed) → Allowed (lines_lang state) tokens → Allowed (rest_lang state) tokens
line_allowed state tokens s =
    let n = next_of state s.value s.is.1 in
    let c = closing_started n.state_after in
    record {
      value = s.value ∷ c.value;
      is = ((s.is.0, c.is.0), ap is_final (run_on state n.state_after s.value c.value n.is) ∙ c.is.1);
      more = s.more ++ c.more;
      said = subst (λ ts. Said (line_items s.value ++ flat_map line_items c.value) ts) (append_assoc tokens s.more c.more)
          (said_append (line_items s.value) (flat_map line_items c.value) (tokens ++ s.more) c.more s.said c.said);
    }

-- the first of lines that are said by tokens
record First (state : State) (lines : List Line) (tokens : List Placed) : Type 0 where
  pub first : Line
  pub others : List Line
  pub lines_are : lines ≡ first ∷ others
  pub allowed : (lines_lang state).is first
  pub are : AllByRecursion IsLine others
  pub prefix : List Placed
  pub rest : List Placed
  pub parts : tokens ≡ prefix ++ rest
  pub said : Said (line_items first) prefix
  pub also : Said (flat_map line_items others) rest

first_of : (state : State) (lines : List Line) (tokens : List Placed) → (Said [] tokens → ⊥) → (rest_lang state).is lines → Said (flat_map line_items lines) tokens → First state lines tokens
first_of state [] tokens some is said = absurd (some said)
first_of state (l ∷ ls) tokens some is said =
    let s = split (line_items l) (flat_map line_items ls) tokens said in
    record {
      first = l;
      others = ls;
      lines_are = refl;
      allowed = (is.0.0, goes_on state l ls is.1);
      are = is.0.1;
      prefix = s.first;
      rest = s.second;
      parts = s.parts;
      said = s.said;
      also = s.also;
    }

not_nil : (prefix : List Placed) (here : Placed) (more : List Placed) → Said [] (prefix ++ here ∷ more) → ⊥
not_nil [] here more said = said
not_nil (f ∷ prefix) here more said = said

not_nil_prefix : (prefix : List Placed) (here : Placed) (more : List Placed) → Said [] ((prefix ++ here ∷ []) ++ more) → ⊥
not_nil_prefix [] here more said = said
not_nil_prefix (f ∷ prefix) here more said = said

module _ (end : ℕ) (state : State) (row tokens : List Placed) (is_row : IsRow row) where
  row_some : (more : List Placed) → Said [] (row ++ more) → ⊥
  row_some more said = not_nil_prefix is_row.body is_row.last more (subst (λ ts. Said [] (ts ++ more)) is_row.parts said)

  -- ---- a line that was read

  module _ (l : Line) (rest : List Placed) (g : GotFrom (lines_lang state) row l rest) (next : State) (is_next : after state l ≡ Some next) where
    nothing_after : rest ≡ []
    nothing_after =
        let s = last_said (items_of l) g.prefix g.said in
        let whole : row ≡ s.0 ++ s.1 ∷ rest = g.parts ∙ (ap (λ ts. ts ++ rest) s.2 ∙ append_assoc s.0 (s.1 ∷ []) rest) in
        at_end is_row.body is_row.last s.0 s.1 rest is_row.plain s.3 (sym whole ∙ is_row.parts)

    row_is : row ≡ g.prefix
    row_is = g.parts ∙ (ap (λ ts. g.prefix ++ ts) nothing_after ∙ append-nil g.prefix)

    row_said : Said (line_items l) row
    row_said = subst (λ ts. Said (line_items l) ts) (sym row_is) g.said

    -- the lines that are said by this line's tokens and others are this line, and lines that are said by the others
    record Peeled (lines : List Line) (more : List Placed) : Type 0 where
      others : List Line
      lines_are : lines ≡ l ∷ others
      is : (rest_lang next).is others
      said : Said (flat_map line_items others) more

    peel : (lines : List Line) (more : List Placed) → (rest_lang state).is lines → Said (flat_map line_items lines) (row ++ more) → Peeled lines more
    peel lines more is said =
        let f = first_of state lines (row ++ more) (row_some more) is said in
        let u = g.unique f.first f.prefix f.rest more f.allowed f.said (sym f.parts ∙ ap (λ ts. ts ++ more) row_is) in
        record {
          others = f.others;
          lines_are = f.lines_are ∙ ap (λ k. k ∷ f.others) u.0;
          is = (f.are, sym (ap is_final (run_on state next f.first f.others (ap (after state) u.0 ∙ is_next))) ∙ subst (λ ls. is_final (run (Some state) ls) ≡ true) f.lines_are is.1);
          said = subst (λ ts. Said (flat_map line_items f.others) ts) u.1 f.also;
        }

    with_row : (lines : List Line) → (rest_lang next).is lines → (rest_lang state).is (l ∷ lines)
    with_row lines is = ((g.is.0, is.0), ap is_final (run_on state next l lines is_next) ∙ is.1)

    row_started : (more : List Placed) → Started (rest_lang next) more → Started (rest_lang state) (row ++ more)
    row_started more s = record {
      value = l ∷ s.value;
      is = with_row s.value s.is;
      fits = (g.fits, s.fits);
      more = s.more;
      said = subst (λ ts. Said (flat_map line_items (l ∷ s.value)) ts) (sym (append_assoc row more s.more))
          (said_append (line_items l) (flat_map line_items s.value) row (more ++ s.more) row_said s.said);
    }

    row_allowed : (more : List Placed) → Allowed (rest_lang next) more → Allowed (rest_lang state) (row ++ more)
    row_allowed more s = record {
      value = l ∷ s.value;
      is = with_row s.value s.is;
      more = s.more;
      said = subst (λ ts. Said (flat_map line_items (l ∷ s.value)) ts) (sym (append_assoc row more s.more))
          (said_append (line_items l) (flat_map line_items s.value) row (more ++ s.more) row_said s.said);
    }

    row_stops : (prefix : List Placed) (here : Placed) → Stops next tokens prefix here → Stops state (row ++ tokens) (row ++ prefix) here
    row_stops prefix here s = record {
      others = s.others;
      parts = ap (λ ts. row ++ ts) s.parts ∙ sym (append_assoc row prefix (here ∷ s.others));
      good = row_started prefix s.good;
    }

    got_lines : (lines : List Line) → AreLines next tokens lines → AreLines state (row ++ tokens) (l ∷ lines)
    got_lines lines a = record {
      is = with_row lines a.is;
      fits = (g.fits, a.fits);
      said = said_append (line_items l) (flat_map line_items lines) row tokens row_said a.said;
      unique = λ others is said. let p = peel others tokens is said in p.lines_are ∙ ap (λ ls. l ∷ ls) (a.unique p.others p.is p.said);
    }

    got_wrong : (e : AsmError) → IsWrong next tokens e → IsWrong state (row ++ tokens) e
    got_wrong e w = record {
      prefix = row ++ w.prefix;
      here = w.here;
      stops = row_stops w.prefix w.here w.stops;
      none = λ lines more is said.
          let p = peel lines (w.prefix ++ w.here ∷ more) is (subst (λ ts. Said (flat_map line_items lines) ts) (append_assoc row w.prefix (w.here ∷ more)) said) in
          w.none p.others more p.is p.said;
      reported = w.reported;
    }

    got_large : (e : AsmError) → IsLarge next tokens e → IsLarge state (row ++ tokens) e
    got_large e w = record {
      prefix = row ++ w.prefix;
      here = w.here;
      stops = row_stops w.prefix w.here w.stops;
      some = subst (λ ts. Allowed (rest_lang state) ts) (sym (append_assoc row w.prefix (w.here ∷ []))) (row_allowed (w.prefix ++ w.here ∷ []) w.some);
      none = λ lines more is sized said.
          let p = peel lines (w.prefix ++ w.here ∷ more) is (subst (λ ts. Said (flat_map line_items lines) ts) (append_assoc row w.prefix (w.here ∷ more)) said) in
          w.none p.others more p.is (subst (λ ls. AllByRecursion IsSized ls) p.lines_are sized).1 p.said;
      reported = w.reported;
    }

    got_short : (e : AsmError) → IsShort end next tokens e → IsShort end state (row ++ tokens) e
    got_short e w = record {
      good = row_started tokens w.good;
      none = λ lines is said. let p = peel lines tokens is said in w.none p.others p.is p.said;
      reported = w.reported;
    }

    got_step : (r : AreRead) → IsRead end next tokens r → IsRead end state (row ++ tokens) (with_line l r)
    got_step (Ok lines) a = got_lines lines a
    got_step (Err e) (inl w) = inl (got_wrong e w)
    got_step (Err e) (inr (inl w)) = inr (inl (got_large e w))
    got_step (Err e) (inr (inr w)) = inr (inr (got_short e w))

  -- ---- a line with a fault

  -- a line's tokens are never all read without it
  no_wrong_end : WrongFrom (lines_lang state) row [] → ⊥
  no_wrong_end w =
      let prefix_is : w.prefix ≡ is_row.body ++ is_row.last ∷ [] = sym (append-nil w.prefix) ∙ (sym w.parts ∙ is_row.parts) in
      let whole : w.prefix ++ w.good.more ≡ is_row.body ++ is_row.last ∷ w.good.more = ap (λ ts. ts ++ w.good.more) prefix_is ∙ append_assoc is_row.body (is_row.last ∷ []) w.good.more in
      let over = line_is_over w.good.value is_row.body is_row.last w.good.more (subst (λ ts. Said (line_items w.good.value) ts) whole w.good.said) is_row.ended in
      let said : Said (line_items w.good.value) w.prefix = subst (λ ts. Said (line_items w.good.value) ts) (ap (λ ts. w.prefix ++ ts) over ∙ append-nil w.prefix) w.good.said in
      w.none w.good.value w.prefix [] [] w.good.is said refl

  wrong_step : (rest : List Placed) → WrongFrom (lines_lang state) row rest → IsWrong state (row ++ tokens) (wrong_at end rest)
  wrong_step [] w = absurd (no_wrong_end w)
  wrong_step (here ∷ others) w = record {
    prefix = w.prefix;
    here = here;
    stops = record { others = others ++ tokens; parts = ap (λ ts. ts ++ tokens) w.parts ∙ append_assoc w.prefix (here ∷ others) tokens; good = line_started state w.prefix w.good };
    none = λ lines more is said.
        let f = first_of state lines (w.prefix ++ here ∷ more) (not_nil w.prefix here more) is said in
        w.none f.first f.prefix f.rest more f.allowed f.said (sym f.parts);
    reported = refl;
  }

  large_step : (rest : List Placed) → LargeFrom (lines_lang state) row rest → IsLarge state (row ++ tokens) (large_at end rest)
  large_step rest w = record {
    prefix = w.prefix;
    here = w.here;
    stops = record {
      others = w.others ++ tokens;
      parts = ap (λ ts. ts ++ tokens) w.parts ∙ (ap (λ ts. (w.prefix ++ ts) ++ tokens) w.rest_is ∙ append_assoc w.prefix (w.here ∷ w.others) tokens);
      good = line_started state w.prefix w.good;
    };
    some = line_allowed state (w.prefix ++ w.here ∷ []) w.some;
    none = λ lines more is sized said.
        let f = first_of state lines (w.prefix ++ w.here ∷ more) (not_nil w.prefix w.here more) is said in
        w.none f.first f.prefix f.rest more f.allowed (subst (λ ls. AllByRecursion IsSized ls) f.lines_are sized).0 f.said (sym f.parts);
    reported = ap (large_at end) w.rest_is;
  }

  pub row_step : (k : Option State → AreRead) → ((next : State) → IsRead end next tokens (k (Some next))) → (x : Read Line) → ReadFrom (lines_lang state) row x
      → IsRead end state (row ++ tokens) (lines_from end state x k)
  row_step k ih (Got l rest) g =
      let n = next_of state l g.is.1 in
      subst (λ o. IsRead end state (row ++ tokens) (with_line l (k o))) (sym n.is) (got_step l rest g n.state_after n.is (k (Some n.state_after)) (ih n.state_after))
  row_step k ih (Wrong rest) w = inl (wrong_step rest w)
  row_step k ih (Large rest) w = inr (inl (large_step rest w))

-- ---- all lines

abbrev pub joined : List (List Placed) → List Placed
joined [] = []
joined (row ∷ rows) = row ++ joined rows

no_lines : (state : State) (lines : List Line) → Said (flat_map line_items lines) [] → lines ≡ []
no_lines state [] said = refl
no_lines state (l ∷ lines) said = absurd (no_line_said (items_of l) (flat_map line_items lines) said)

no_rows : (end : ℕ) (state : State) (b : Bool) → is_final (Some state) ≡ b → IsRead end state [] (cond b (Ok []) (Err (missing end)))
unfolding run
no_rows end state true e = record { is = (tt, e); fits = tt; said = tt; unique = λ others is said. no_lines state others said }
no_rows end state false e = inr (inr (record {
  good = closing_started state;
  none = λ lines is said. true≢false (sym (subst (λ ls. is_final (run (Some state) ls) ≡ true) (no_lines state lines said) is.1) ∙ e);
  reported = refl;
}))

pub rows_read : (end : ℕ) (state : State) (rows : List (List Placed)) → AllByRecursion IsRowOrNone rows → IsRead end state (joined rows) (lines_read end (Some state) rows)
unfolding lines_read
rows_read end state [] all = no_rows end state (is_final (Some state)) refl
rows_read end state ([] ∷ rows) all = rows_read end state rows all.1
rows_read end state ((here ∷ rest) ∷ rows) (inl none, all) = absurd cc
rows_read end state ((here ∷ rest) ∷ rows) (inr is_row, all) =
    row_step end state (here ∷ rest) (joined rows) is_row (λ next. lines_read end next rows) (λ next. rows_read end next rows all) (line state (here ∷ rest)) ((line_reads state).each (here ∷ rest))
