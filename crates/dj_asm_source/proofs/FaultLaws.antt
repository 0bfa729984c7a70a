-- A text that says a source has no fault in its words, and a text has one such fault at most.
use Rattle.std.proofs.Common.{◌≡◌, ℕ, ◌⊎◌, List, [], ◌∷◌, ◌++◌, map, refl, sym, ap, ◌∙◌, subst, inl, inr, append_assoc}
use Rattle.dj_asm_source.specs.declared.error.AsmError.{AsmError}
use Rattle.dj_asm_source.specs.declared.error.AsmError.TheVariants as asm_errors
use Rattle.dj_asm_tokens.specs.trusted.Words.{Token, Placed, tokens_of}
use Rattle.dj_asm_source.specs.trusted.Sources.{Source, IsSource, IsSizedSource, Reads, token_of, IsTextOf}
use Rattle.dj_asm_source.specs.trusted.Faults.{Begins, IsMisplaced, IsLargeNumber, WordFault}

map_append : (xs ys : List Placed) → map token_of (xs ++ ys) ≡ map token_of xs ++ map token_of ys
map_append [] ys = refl
map_append (x ∷ xs) ys = ap (λ tokens. token_of x ∷ tokens) (map_append xs ys)

-- the tokens up to one, and those after it
cut_after : (prefix : List Placed) (here : Placed) (rest : List Placed) → map token_of (prefix ++ here ∷ rest) ≡ map token_of (prefix ++ here ∷ []) ++ map token_of rest
cut_after [] here rest = refl
cut_after (x ∷ prefix) here rest = ap (λ tokens. token_of x ∷ tokens) (cut_after prefix here rest)

sized_is_source : (tokens : List Token) → Begins IsSizedSource tokens → Begins IsSource tokens
sized_is_source tokens b = record { source = b.source; such = b.such.0; rest = b.rest; read = b.read }

-- what begins with more tokens begins with fewer
fewer : (IsSuch : Source → Type 0) (tokens more : List Token) → Begins IsSuch (tokens ++ more) → Begins IsSuch tokens
fewer IsSuch tokens more b = record { source = b.source; such = b.such; rest = more ++ b.rest; read = subst (Reads b.source) (append_assoc tokens more b.rest) b.read }

-- the tokens of a text up to one of them begin its source
text_begins : (text : List ℕ) (s : Source) (prefix : List Placed) (here : Placed) (rest : List Placed)
    → IsTextOf text s → tokens_of text ≡ prefix ++ here ∷ rest → Begins IsSizedSource (map token_of (prefix ++ here ∷ []))
text_begins text s prefix here rest is parts = record {
  source = s;
  such = is.allowed;
  rest = map token_of rest;
  read = subst (Reads s) (ap (map token_of) parts ∙ cut_after prefix here rest) is.read;
}

pub no_fault_of_text : (text : List ℕ) (s : Source) (e : AsmError) → IsTextOf text s → WordFault text e → ⊥
no_fault_of_text text s e is (inl fault) =
    fault.none (sized_is_source (map token_of (fault.prefix ++ fault.here ∷ [])) (text_begins text s fault.prefix fault.here fault.at.rest is fault.at.parts))
no_fault_of_text text s e is (inr (inl fault)) = fault.none (text_begins text s fault.prefix fault.here fault.at.rest is fault.at.parts)
no_fault_of_text text s e is (inr (inr fault)) = fault.none s is

-- ---- one fault

-- where the tokens of a text stop beginning a source whose numbers fit
record IsStop (text : List ℕ) (prefix : List Placed) (here : Placed) : Type 0 where
  rest : List Placed
  parts : tokens_of text ≡ prefix ++ here ∷ rest
  good : Begins IsSizedSource (map token_of prefix)
  none : Begins IsSizedSource (map token_of (prefix ++ here ∷ [])) → ⊥

misplaced_stop : (text : List ℕ) (e : AsmError) (fault : IsMisplaced text e) → IsStop text fault.prefix fault.here
misplaced_stop text e fault = record {
  rest = fault.at.rest;
  parts = fault.at.parts;
  good = fault.at.good;
  none = λ b. fault.none (sized_is_source (map token_of (fault.prefix ++ fault.here ∷ [])) b);
}

large_stop : (text : List ℕ) (e : AsmError) (fault : IsLargeNumber text e) → IsStop text fault.prefix fault.here
large_stop text e fault = record { rest = fault.at.rest; parts = fault.at.parts; good = fault.at.good; none = fault.none }

-- of two places in one list, they are the same or one is before the other
places : (xs ys : List Placed) (a b : Placed) (rest others : List Placed) → xs ++ a ∷ rest ≡ ys ++ b ∷ others
    → ((xs ≡ ys) × (a ≡ b)) ⊎ (((m : List Placed) × (ys ≡ (xs ++ a ∷ []) ++ m)) ⊎ ((m : List Placed) × (xs ≡ (ys ++ b ∷ []) ++ m)))
places [] [] a b rest others e = inl (refl, cc)
places [] (y ∷ ys) a b rest others e = let same : y ≡ a = cc in inr (inl (ys, ap (λ p. p ∷ ys) same))
places (x ∷ xs) [] a b rest others e = let same : x ≡ b = cc in inr (inr (xs, ap (λ p. p ∷ xs) same))
places (x ∷ xs) (y ∷ ys) a b rest others e = further (places xs ys a b rest others tails) where
  same : x ≡ y
  same = cc

  tails : xs ++ a ∷ rest ≡ ys ++ b ∷ others
  tails = cc

  further : ((xs ≡ ys) × (a ≡ b)) ⊎ (((m : List Placed) × (ys ≡ (xs ++ a ∷ []) ++ m)) ⊎ ((m : List Placed) × (xs ≡ (ys ++ b ∷ []) ++ m)))
      → ((x ∷ xs ≡ y ∷ ys) × (a ≡ b)) ⊎ (((m : List Placed) × (y ∷ ys ≡ (x ∷ xs ++ a ∷ []) ++ m)) ⊎ ((m : List Placed) × (x ∷ xs ≡ (y ∷ ys ++ b ∷ []) ++ m)))
  further (inl (prefixes, heres)) = inl (cc, heres)
  further (inr (inl (m, is))) = inr (inl (m, cc))
  further (inr (inr (m, is))) = inr (inr (m, cc))

-- a place after a stop has no beginning before it
later : (text : List ℕ) (prefix other : List Placed) (here : Placed) (m : List Placed) → IsStop text prefix here → Begins IsSizedSource (map token_of other) → other ≡ (prefix ++ here ∷ []) ++ m → ⊥
later text prefix other here m stop good is =
    stop.none (fewer IsSizedSource (map token_of (prefix ++ here ∷ [])) (map token_of m)
    (subst (Begins IsSizedSource) (ap (map token_of) is ∙ map_append (prefix ++ here ∷ []) m) good))

one_stop : (text : List ℕ) (xs ys : List Placed) (a b : Placed) → IsStop text xs a → IsStop text ys b → (xs ≡ ys) × (a ≡ b)
one_stop text xs ys a b one two = decide (places xs ys a b one.rest two.rest (sym one.parts ∙ two.parts)) where
  decide : ((xs ≡ ys) × (a ≡ b)) ⊎ (((m : List Placed) × (ys ≡ (xs ++ a ∷ []) ++ m)) ⊎ ((m : List Placed) × (xs ≡ (ys ++ b ∷ []) ++ m))) → (xs ≡ ys) × (a ≡ b)
  decide (inl same) = same
  decide (inr (inl (m, is))) = absurd (later text xs ys a m one two.good is)
  decide (inr (inr (m, is))) = absurd (later text ys xs b m two one.good is)

-- nothing stops where all tokens begin a source
no_stop : (text : List ℕ) (prefix : List Placed) (here : Placed) → Begins IsSizedSource (map token_of (tokens_of text)) → IsStop text prefix here → ⊥
no_stop text prefix here good stop =
    stop.none (fewer IsSizedSource (map token_of (prefix ++ here ∷ [])) (map token_of stop.rest)
    (subst (Begins IsSizedSource) (ap (map token_of) stop.parts ∙ cut_after prefix here stop.rest) good))

-- a token that no source has there is not one that a source has there
not_both : (text : List ℕ) (e f : AsmError) → IsMisplaced text e → IsLargeNumber text f → ⊥
not_both text e f one two =
    let same = one_stop text one.prefix two.prefix one.here two.here (misplaced_stop text e one) (large_stop text f two) in
    let tokens : map token_of (two.prefix ++ two.here ∷ []) ≡ map token_of (one.prefix ++ one.here ∷ []) = cc (same.0, same.1) in
    one.none (subst (Begins IsSource) tokens two.some)

pub one_word_fault : (text : List ℕ) (e f : AsmError) → WordFault text e → WordFault text f → e ≡ f
one_word_fault text e f (inl one) (inl two) =
    one.reported ∙ (ap (λ (here : Placed). asm_errors.Syntax here.line here.column) (one_stop text one.prefix two.prefix one.here two.here (misplaced_stop text e one) (misplaced_stop text f two)).1 ∙ sym two.reported)
one_word_fault text e f (inl one) (inr (inl two)) = absurd (not_both text e f one two)
one_word_fault text e f (inl one) (inr (inr two)) = absurd (no_stop text one.prefix one.here two.good (misplaced_stop text e one))
one_word_fault text e f (inr (inl one)) (inl two) = absurd (not_both text f e two one)
one_word_fault text e f (inr (inl one)) (inr (inl two)) =
    one.reported ∙ (ap (λ (here : Placed). asm_errors.Large here.line) (one_stop text one.prefix two.prefix one.here two.here (large_stop text e one) (large_stop text f two)).1 ∙ sym two.reported)
one_word_fault text e f (inr (inl one)) (inr (inr two)) = absurd (no_stop text one.prefix one.here two.good (large_stop text e one))
one_word_fault text e f (inr (inr one)) (inl two) = absurd (no_stop text two.prefix two.here one.good (misplaced_stop text f two))
one_word_fault text e f (inr (inr one)) (inr (inl two)) = absurd (no_stop text two.prefix two.here one.good (large_stop text f two))
one_word_fault text e f (inr (inr one)) (inr (inr two)) = one.reported ∙ sym two.reported
