-- Pairs of switches, read one after the other.
use Rattle.std.proofs.Common.{◌≡◌, ℕ, ◌<◌, ◌++◌, Bool, true, false, cond, length, ℤ, List, [], ◌∷◌, Option, Some, None, codes, bytes_eq, option_map, refl, sym, ap, subst, ◌∙◌, append_assoc, inl, inr, arith}
use Rattle.std.proofs.lemmas.List.{append-nil}
use Rattle.std.proofs.lemmas.Bool.{cases_Bool}
use Rattle.dj_cursor.specs.trusted.Options.{◌>>=◌}
use Rattle.dj_asm_source.specs.declared.reader.Stop.{Stop}
use Rattle.dj_asm_source.specs.declared.reader.Stop.TheVariants as stops
use Rattle.dj_asm_tokens.specs.trusted.Words.{Word, Placed}
use Rattle.dj_asm_source.specs.trusted.Lines.{Label}
use Rattle.dj_asm_tokens.specs.WordReading.{number_in}
use Rattle.dj_asm_source.specs.Reading.{Read, Got, Wrong, Large, read_map, said_by, any_size, word_of, number_of, is_signed}
use Rattle.dj_asm_source.specs.LineReading.{LabelPairs, DefaultMatch, MatchOf, default_after, number, label, pairs_after, matches_from, match_in, target_from}
use Rattle.dj_asm_source.specs.Stops.{Stops, IsNoWord}
use Rattle.dj_asm_source.proofs.TypeLists.{stop_map, wrong_any, got_never}
use Rattle.dj_asm_source.proofs.SwitchLists.{no_word_wrong}

abbrev onto : List (ℤ × Label) → LabelPairs → LabelPairs
onto prefix x = (prefix ++ x.0, x.1)

onto_more : (prefix : List (ℤ × Label)) (pair : ℤ × Label) (read : Read LabelPairs) → read_map (onto (prefix ++ pair ∷ [])) read ≡ read_map (onto prefix) (read_map (λ (x : LabelPairs). (pair ∷ x.0, x.1)) read)
onto_more prefix pair (Got x rest) = ap (λ (ps : List (ℤ × Label)). Got (ps, x.1) rest) (append_assoc prefix (pair ∷ []) x.0)
onto_more prefix pair (Wrong rest) = refl
onto_more prefix pair (Large rest) = refl

onto_default : (prefix : List (ℤ × Label)) (read : Read Label) → read_map (onto prefix) (read_map (λ (last : Label). ([], last)) read) ≡ read_map (λ (last : Label). (prefix, last)) read
onto_default prefix (Got last rest) = ap (λ (ps : List (ℤ × Label)). Got (ps, last) rest) (append-nil prefix)
onto_default prefix (Wrong rest) = refl
onto_default prefix (Large rest) = refl

abbrev at_word : ℕ → ℕ → Label → Placed
at_word line column units = record { line = line; column = column; token = Word units }

at_default : (tokens rest : List Placed) (line column : ℕ) (units : Label) → tokens ≡ at_word line column units ∷ rest → bytes_eq (codes "default") units ≡ true
    → pairs_after None tokens ≡ read_map (λ (last : Label). ([], last)) (default_after rest)
unfolding pairs_after
at_default tokens rest line column units here e =
    ap (pairs_after None) here
    ∙ ap (λ (t : Bool). matches_from (cond t (Some DefaultMatch) (option_map (λ n. MatchOf n) (number_in units))) (at_word line column units) rest (λ n. pairs_after (Some n) rest)) e

-- a number, where it is no default
abbrev number_then : Option ℤ → Placed → List Placed → Read LabelPairs
number_then o here rest = matches_from (option_map (λ n. MatchOf n) o) here rest (λ n. pairs_after (Some n) rest)

at_number : (tokens rest : List Placed) (line column : ℕ) (units : Label) → tokens ≡ at_word line column units ∷ rest → bytes_eq (codes "default") units ≡ false
    → pairs_after None tokens ≡ number_then (number_in units) (at_word line column units) rest
unfolding pairs_after
at_number tokens rest line column units here e =
    ap (pairs_after None) here
    ∙ ap (λ (t : Bool). matches_from (cond t (Some DefaultMatch) (option_map (λ n. MatchOf n) (number_in units))) (at_word line column units) rest (λ n. pairs_after (Some n) rest)) e

number_got : (o : Option ℤ) (here : Placed) (rest after : List Placed) (key : ℤ) → said_by (is_signed 31) o here rest ≡ Got key after → number_then o here rest ≡ pairs_after (Some key) after
unfolding pairs_after
number_got None here rest after key e = absurd (cc)
number_got (Some n) here rest after key e =
    elim (cases_Bool (is_signed 31 n)) [
      | inl fits ↦
          let f : Got n rest ≡ Got key after = sym (ap (λ (t : Bool). cond t (Got n rest) (Large (here ∷ rest))) fits) ∙ e in
          let same : n ≡ key = cc in
          let left : rest ≡ after = cc in
          ap (λ (t : Bool). cond t (pairs_after (Some n) rest) (Large (here ∷ rest))) fits ∙ ap (λ (k : ℤ). pairs_after (Some k) rest) same ∙ ap (pairs_after (Some key)) left
      | inr out ↦ absurd (let f : Large (here ∷ rest) ≡ Got key after = sym (ap (λ (t : Bool). cond t (Got n rest) (Large (here ∷ rest))) out) ∙ e in cc)
    ]

large_any : (A B : Type 0) (stop : Stop) (rest : List Placed) → Stops {A = A} stop (Large rest) → Stops {A = B} stop (Large rest)
large_any A B stops.Memory rest s = tt
large_any A B (stops.Wrong line column) rest s = s
large_any A B (stops.Large line) rest s = s
large_any A B stops.Missing rest s = s

number_stops : (o : Option ℤ) (here : Placed) (rest : List Placed) (stop : Stop) → Stops stop (said_by (is_signed 31) o here rest) → Stops stop (number_then o here rest)
number_stops None here rest stop s = wrong_any ℤ LabelPairs stop (here ∷ rest) s
number_stops (Some n) here rest stop s =
    elim (cases_Bool (is_signed 31 n)) [
      | inl fits ↦ got_never stop n rest (number_then (Some n) here rest) (subst (λ (t : Bool). Stops stop (cond t (Got n rest) (Large (here ∷ rest)))) fits s)
      | inr out ↦
          subst (λ (t : Bool). Stops stop (cond t (pairs_after (Some n) rest) (Large (here ∷ rest)))) (sym out)
          (large_any ℤ LabelPairs stop (here ∷ rest) (subst (λ (t : Bool). Stops stop (cond t (Got n rest) (Large (here ∷ rest)))) out s))
    ]

target_got : (key : ℤ) (tokens rest : List Placed) (target : Label) → label tokens ≡ Got target rest → pairs_after (Some key) tokens ≡ read_map (λ (x : LabelPairs). ((key, target) ∷ x.0, x.1)) (pairs_after None rest)
unfolding pairs_after
target_got key [] rest target e = absurd (cc)
target_got key (here ∷ more) rest target e = said (word_of here.token) e where
  said : (o : Option Label) → said_by any_size o here more ≡ Got target rest → target_from key o here more (pairs_after None more) ≡ read_map (λ (x : LabelPairs). ((key, target) ∷ x.0, x.1)) (pairs_after None rest)
  said None f = absurd (cc)
  said (Some word) f =
      let same : word ≡ target = cc in
      let left : more ≡ rest = cc in
      ap (λ (w : Label). read_map (λ (x : LabelPairs). ((key, w) ∷ x.0, x.1)) (pairs_after None more)) same ∙ ap (λ (ts : List Placed). read_map (λ (x : LabelPairs). ((key, target) ∷ x.0, x.1)) (pairs_after None ts)) left

target_stops : (key : ℤ) (tokens : List Placed) (stop : Stop) → Stops stop (label tokens) → Stops stop (pairs_after (Some key) tokens)
unfolding pairs_after
target_stops key [] stop s = wrong_any Label LabelPairs stop [] s
target_stops key (here ∷ more) stop s = said (word_of here.token) s where
  said : (o : Option Label) → Stops stop (said_by any_size o here more) → Stops stop (target_from key o here more (pairs_after None more))
  said None t = wrong_any Label LabelPairs stop (here ∷ more) t
  said (Some word) t = got_never stop word more (target_from key (Some word) here more (pairs_after None more)) t

none_stops : (tokens : List Placed) (stop : Stop) → IsNoWord stop tokens → Stops stop (pairs_after None tokens)
unfolding pairs_after
none_stops [] stop none = no_word_wrong LabelPairs stop [] none
none_stops (here ∷ rest) stop none =
    subst (λ (o : Option Label). Stops stop (matches_from (o >>= match_in) here rest (λ n. pairs_after (Some n) rest))) (sym none.0) (no_word_wrong LabelPairs stop (here ∷ rest) none)

-- ---- in the loop

pub pairs_end : (prefix : List (ℤ × Label)) (tokens rest after : List Placed) (line column : ℕ) (units last : Label) (all : Read LabelPairs)
    → tokens ≡ record { line = line; column = column; token = Word units } ∷ rest → bytes_eq (codes "default") units ≡ true → default_after rest ≡ Got last after
    → read_map (λ (x : LabelPairs). (prefix ++ x.0, x.1)) (pairs_after None tokens) ≡ all → all ≡ Got (prefix, last) after
pairs_end prefix tokens rest after line column units last all here e d inv =
    sym inv ∙ ap (read_map (onto prefix)) (at_default tokens rest line column units here e) ∙ onto_default prefix (default_after rest) ∙ ap (read_map (λ (l : Label). (prefix, l))) d

pub pairs_end_stop : (prefix : List (ℤ × Label)) (tokens rest : List Placed) (line column : ℕ) (units : Label) (stop : Stop) (all : Read LabelPairs)
    → tokens ≡ record { line = line; column = column; token = Word units } ∷ rest → bytes_eq (codes "default") units ≡ true → Stops stop (default_after rest)
    → read_map (λ (x : LabelPairs). (prefix ++ x.0, x.1)) (pairs_after None tokens) ≡ all → Stops stop all
pairs_end_stop prefix tokens rest line column units stop all here e s inv =
    subst (λ (r : Read LabelPairs). Stops stop r) (sym (ap (read_map (onto prefix)) (at_default tokens rest line column units here e) ∙ onto_default prefix (default_after rest)) ∙ inv)
    (stop_map (λ (last : Label). (prefix, last)) stop (default_after rest) s)

pub pairs_stop : (prefix : List (ℤ × Label)) (tokens : List Placed) (stop : Stop) (all : Read LabelPairs) → IsNoWord stop tokens
    → read_map (λ (x : LabelPairs). (prefix ++ x.0, x.1)) (pairs_after None tokens) ≡ all → Stops stop all
pairs_stop prefix tokens stop all none inv =
    subst (λ (r : Read LabelPairs). Stops stop r) inv (stop_map (onto prefix) stop (pairs_after None tokens) (none_stops tokens stop none))

pub pairs_key_stop : (prefix : List (ℤ × Label)) (tokens rest : List Placed) (line column : ℕ) (units : Label) (stop : Stop) (all : Read LabelPairs)
    → tokens ≡ record { line = line; column = column; token = Word units } ∷ rest → bytes_eq (codes "default") units ≡ false → Stops stop (number (is_signed 31) tokens)
    → read_map (λ (x : LabelPairs). (prefix ++ x.0, x.1)) (pairs_after None tokens) ≡ all → Stops stop all
pairs_key_stop prefix tokens rest line column units stop all here e s inv =
    let t : Stops stop (said_by (is_signed 31) (number_in units) (at_word line column units) rest) = subst (λ (ts : List Placed). Stops stop (number (is_signed 31) ts)) here s in
    let u : Stops stop (pairs_after None tokens) = subst (λ (r : Read LabelPairs). Stops stop r) (sym (at_number tokens rest line column units here e)) (number_stops (number_in units) (at_word line column units) rest stop t) in
    subst (λ (r : Read LabelPairs). Stops stop r) inv (stop_map (onto prefix) stop (pairs_after None tokens) u)

key_got : (tokens rest after : List Placed) (line column : ℕ) (units : Label) (key : ℤ) → tokens ≡ at_word line column units ∷ rest → bytes_eq (codes "default") units ≡ false
    → number (is_signed 31) tokens ≡ Got key after → pairs_after None tokens ≡ pairs_after (Some key) after
key_got tokens rest after line column units key here e n =
    at_number tokens rest line column units here e ∙ number_got (number_in units) (at_word line column units) rest after key (sym (ap (number (is_signed 31)) here) ∙ n)

pub pairs_target_stop : (prefix : List (ℤ × Label)) (tokens rest after : List Placed) (line column : ℕ) (units : Label) (key : ℤ) (stop : Stop) (all : Read LabelPairs)
    → tokens ≡ record { line = line; column = column; token = Word units } ∷ rest → bytes_eq (codes "default") units ≡ false → number (is_signed 31) tokens ≡ Got key after → Stops stop (label after)
    → read_map (λ (x : LabelPairs). (prefix ++ x.0, x.1)) (pairs_after None tokens) ≡ all → Stops stop all
pairs_target_stop prefix tokens rest after line column units key stop all here e n s inv =
    let u : Stops stop (pairs_after None tokens) = subst (λ (r : Read LabelPairs). Stops stop r) (sym (key_got tokens rest after line column units key here e n)) (target_stops key after stop s) in
    subst (λ (r : Read LabelPairs). Stops stop r) inv (stop_map (onto prefix) stop (pairs_after None tokens) u)

pub pairs_more : (prefix : List (ℤ × Label)) (tokens rest after last : List Placed) (line column : ℕ) (units target : Label) (key : ℤ) (all : Read LabelPairs)
    → tokens ≡ record { line = line; column = column; token = Word units } ∷ rest → bytes_eq (codes "default") units ≡ false → number (is_signed 31) tokens ≡ Got key after → label after ≡ Got target last
    → read_map (λ (x : LabelPairs). (prefix ++ x.0, x.1)) (pairs_after None tokens) ≡ all → read_map (λ (x : LabelPairs). ((prefix ++ (key, target) ∷ []) ++ x.0, x.1)) (pairs_after None last) ≡ all
pairs_more prefix tokens rest after last line column units target key all here e n t inv =
    onto_more prefix (key, target) (pairs_after None last)
    ∙ ap (read_map (onto prefix)) (sym (target_got key after last target t) ∙ sym (key_got tokens rest after line column units key here e n)) ∙ inv

-- ---- fewer are left

said_rest : {A : Type 0} (fits : A → Bool) (o : Option A) (here : Placed) (more rest : List Placed) (a : A) → said_by fits o here more ≡ Got a rest → more ≡ rest
said_rest fits None here more rest a e = absurd (cc)
said_rest fits (Some x) here more rest a e =
    elim (cases_Bool (fits x)) [
      | inl h ↦ let f : Got x more ≡ Got a rest = sym (ap (λ (t : Bool). cond t (Got x more) (Large (here ∷ more))) h) ∙ e in cc
      | inr h ↦ absurd (let f : Large (here ∷ more) ≡ Got a rest = sym (ap (λ (t : Bool). cond t (Got x more) (Large (here ∷ more))) h) ∙ e in cc)
    ]

number_shorter : (tokens rest : List Placed) (key : ℤ) → number (is_signed 31) tokens ≡ Got key rest → length rest < length tokens
number_shorter [] rest key e = absurd (cc)
number_shorter (here ∷ more) rest key e = let same : more ≡ rest = said_rest (is_signed 31) (number_of here.token) here more rest key e in omega (arith, ap length same)

label_shorter : (tokens rest : List Placed) (target : Label) → label tokens ≡ Got target rest → length rest < length tokens
label_shorter [] rest target e = absurd (cc)
label_shorter (here ∷ more) rest target e = let same : more ≡ rest = said_rest any_size (word_of here.token) here more rest target e in omega (arith, ap length same)

pub pair_shorter : (tokens after last : List Placed) (key : ℤ) (target : Label) → number (is_signed 31) tokens ≡ Got key after → label after ≡ Got target last → length last < length tokens
pair_shorter tokens after last key target n l = omega (arith, number_shorter tokens after key n, label_shorter after last target l)
