-- The fault of a text whose words mean no source: the first token, in reading order, with which no text begins that has the tokens before it.
use Rattle.std.specs.Prelude.{◌≡◌, ℕ, ◌⊎◌, List, [], ◌∷◌, ◌++◌, map}
use Rattle.dj_asm_source.specs.declared.error.AsmError.{AsmError}
use Rattle.dj_asm_source.specs.declared.error.AsmError.TheVariants as asm_errors
use Rattle.dj_asm_tokens.specs.trusted.Words.{Token, Placed, tokens_of, end_line}
use Rattle.dj_asm_source.specs.trusted.Sources.{Source, IsSource, IsSizedSource, Reads, token_of, IsTextOf}

-- such a source begins with these tokens
pub record Begins (IsSuch : Source → Type 0) (tokens : List Token) : Type 0 where
  pub source : Source
  pub such : IsSuch source
  pub rest : List Token
  pub read : Reads source (tokens ++ rest)

-- the tokens before this one begin a source in which all numbers fit their fields
pub record IsAt (text : List ℕ) (prefix : List Placed) (here : Placed) : Type 0 where
  pub rest : List Placed
  pub parts : tokens_of text ≡ prefix ++ here ∷ rest
  pub good : Begins IsSizedSource (map token_of prefix)

-- no source has this token here: the fault is at its line and column
pub record IsMisplaced (text : List ℕ) (e : AsmError) : Type 0 where
  pub prefix : List Placed
  pub here : Placed
  pub at : IsAt text prefix here
  pub none : Begins IsSource (map token_of (prefix ++ here ∷ [])) → ⊥
  pub reported : e ≡ asm_errors.Syntax here.line here.column

-- a source may have this token here, but its number doesn't fit its field: the fault is in its line
pub record IsLargeNumber (text : List ℕ) (e : AsmError) : Type 0 where
  pub prefix : List Placed
  pub here : Placed
  pub at : IsAt text prefix here
  pub some : Begins IsSource (map token_of (prefix ++ here ∷ []))
  pub none : Begins IsSizedSource (map token_of (prefix ++ here ∷ [])) → ⊥
  pub reported : e ≡ asm_errors.Large here.line

-- all tokens begin a source, but lines are missing: the fault is in the line after the last
pub record IsUnfinished (text : List ℕ) (e : AsmError) : Type 0 where
  pub good : Begins IsSizedSource (map token_of (tokens_of text))
  pub none : (s : Source) → IsTextOf text s → ⊥
  pub reported : e ≡ asm_errors.Syntax (end_line text) 1

-- the first fault of the text's words
abbrev pub WordFault : List ℕ → AsmError → Type 0
WordFault text e = IsMisplaced text e ⊎ (IsLargeNumber text e ⊎ IsUnfinished text e)
