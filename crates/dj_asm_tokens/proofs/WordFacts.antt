-- Words, strings and comments at plain values, and the lines and columns at which they begin.
use Rattle.std.proofs.Common.{◌≡◌, ℕ, [], ◌∷◌, ◌++◌, map, Some, None, codes, refl}
use Rattle.dj_asm_tokens.specs.trusted.Words.{Token, Word, Quoted, Bad, LineEnd, Placed, word_units, string_units, tokens_after, tokens_of, end_line}

-- ---- units

-- an escape is its unit; what begins none stands for itself, and escapes stand in words without blanks between
escaped_word : word_units 0 (codes "\\u0041b\\\\u00e9\\uFFFF") ≡ 65 ∷ 98 ∷ 92 ∷ 233 ∷ 65535 ∷ []
unfolding word_units
escaped_word = refl

no_escapes : map (word_units 0) (codes "\\u" ∷ codes "\\u12" ∷ codes "\\u00g0" ∷ codes "\\U0041" ∷ codes "\\\"" ∷ [])
    ≡ codes "\\u" ∷ codes "\\u12" ∷ codes "\\u00g0" ∷ codes "\\U0041" ∷ codes "\\\"" ∷ []
unfolding word_units
no_escapes = refl

-- a string ends at its quote
plain_string : string_units 0 (codes "a #\" x") ≡ Some (codes "a #", codes " x")
unfolding string_units
plain_string = refl

escaped_string : string_units 0 (codes "\\\"\\\\\\u0022\\ud800\"") ≡ Some (34 ∷ 92 ∷ 34 ∷ 55296 ∷ [], [])
unfolding string_units
escaped_string = refl

-- open, open by an escaped quote, of another escape, of a short one, of a tab, of the byte E9
no_strings : map (string_units 0) (codes "abc" ∷ codes "abc\\\"" ∷ codes "a\\n\"" ∷ codes "\\u12\"" ∷ (9 ∷ 34 ∷ []) ∷ (233 ∷ 34 ∷ []) ∷ [])
    ≡ None ∷ None ∷ None ∷ None ∷ None ∷ None ∷ []
unfolding string_units
no_strings = refl

-- ---- tokens of a line

abbrev at : ℕ → ℕ → Token → Placed
at line column token = record { line = line; column = column; token = token }

-- a tab is one column
blanks : tokens_after 7 1 0 (32 ∷ 97 ∷ 9 ∷ 98 ∷ 99 ∷ 32 ∷ 9 ∷ 100 ∷ 32 ∷ []) ≡ at 7 2 (Word (97 ∷ [])) ∷ at 7 4 (Word (98 ∷ 99 ∷ [])) ∷ at 7 8 (Word (100 ∷ [])) ∷ []
unfolding tokens_after word_units
blanks = refl

-- a comment begins where a word would, and not within one
comments : tokens_after 1 1 0 (codes "a#b # c \"d") ≡ at 1 1 (Word (codes "a#b")) ∷ []
unfolding tokens_after word_units
comments = refl

whole_comment : tokens_after 1 1 0 (codes "  # c") ≡ []
unfolding tokens_after
whole_comment = refl

-- an escape has six columns, and an escaped sign begins no comment and no string
escape_columns : tokens_after 1 1 0 (codes "\\u0023 \\u0022a b") ≡ at 1 1 (Word (35 ∷ [])) ∷ at 1 8 (Word (34 ∷ 97 ∷ [])) ∷ at 1 16 (Word (98 ∷ [])) ∷ []
unfolding tokens_after word_units
escape_columns = refl

strings : tokens_after 1 1 0 (codes "\"a # b\" \"\" c\"d\"") ≡ at 1 1 (Quoted (codes "a # b")) ∷ at 1 9 (Quoted []) ∷ at 1 12 (Word (codes "c\"d\"")) ∷ []
unfolding tokens_after word_units string_units
strings = refl

-- bytes outside the grammar make the whole word, string or comment bad, at its own first column
bad_word : tokens_after 1 1 0 (97 ∷ 32 ∷ 98 ∷ 127 ∷ []) ≡ at 1 1 (Word (97 ∷ [])) ∷ at 1 3 Bad ∷ []
unfolding tokens_after word_units
bad_word = refl

bad_comment : tokens_after 1 1 0 (97 ∷ 32 ∷ 35 ∷ 32 ∷ 233 ∷ []) ≡ at 1 1 (Word (97 ∷ [])) ∷ at 1 3 Bad ∷ []
unfolding tokens_after word_units
bad_comment = refl

-- a string after which no blank stands, also where a comment or a string would
glued : map (tokens_after 1 1 0) (codes "\"a\"b" ∷ codes "\"a\"#c" ∷ codes "\"a\"\"b\"" ∷ codes "\"a" ∷ []) ≡ (at 1 1 Bad ∷ []) ∷ (at 1 1 Bad ∷ []) ∷ (at 1 1 Bad ∷ []) ∷ (at 1 1 Bad ∷ []) ∷ []
unfolding tokens_after string_units
glued = refl

-- ---- whole texts

-- empty lines and lines of comments are counted, and have no tokens
skipped : tokens_of (10 ∷ 10 ∷ codes "# c" ++ 10 ∷ codes "x" ++ 10 ∷ []) ≡ at 4 1 (Word (codes "x")) ∷ at 4 2 LineEnd ∷ []
unfolding tokens_after word_units
skipped = refl

-- one carriage return before a line feed is dropped
returns : tokens_of (97 ∷ 13 ∷ 10 ∷ 13 ∷ 10 ∷ 98 ∷ 13 ∷ 10 ∷ []) ≡ at 1 1 (Word (97 ∷ [])) ∷ at 1 2 LineEnd ∷ at 3 1 (Word (98 ∷ [])) ∷ at 3 2 LineEnd ∷ []
unfolding tokens_after word_units
returns = refl

-- any other is a byte outside the grammar: the first of two, one within a line, and one at the end of a text
other_returns : map tokens_of ((97 ∷ 13 ∷ 13 ∷ 10 ∷ []) ∷ (97 ∷ 13 ∷ 98 ∷ 10 ∷ []) ∷ (97 ∷ 13 ∷ []) ∷ [])
    ≡ (at 1 1 Bad ∷ at 1 3 LineEnd ∷ []) ∷ (at 1 1 Bad ∷ at 1 4 LineEnd ∷ []) ∷ (at 1 1 Bad ∷ at 1 3 LineEnd ∷ []) ∷ []
unfolding tokens_after
other_returns = refl

-- the line's last byte may be one of a blank or of a comment
ends : tokens_of (97 ∷ 32 ∷ 9 ∷ 10 ∷ codes "b # c") ≡ at 1 1 (Word (97 ∷ [])) ∷ at 1 4 LineEnd ∷ at 2 1 (Word (98 ∷ [])) ∷ at 2 6 LineEnd ∷ []
unfolding tokens_after word_units
ends = refl

-- the last line feed may be absent, and begins no line
end_lines : map end_line ([] ∷ (97 ∷ []) ∷ (97 ∷ 10 ∷ []) ∷ (97 ∷ 10 ∷ 10 ∷ []) ∷ (97 ∷ 10 ∷ 98 ∷ []) ∷ []) ≡ 1 ∷ 2 ∷ 2 ∷ 3 ∷ 3 ∷ []
end_lines = refl

-- a tab is one column and not eight, and columns begin at 1
column_of_tab : map (λ (placed : Placed). placed.column) (tokens_after 1 1 0 (9 ∷ 97 ∷ [])) ≡ 2 ∷ []
unfolding tokens_after word_units
column_of_tab = refl
