-- Targets and pairs of switches, read one after the other.
use Rattle.std.proofs.Common.{◌≡◌, ℕ, ◌++◌, Bool, true, false, cond, List, [], ◌∷◌, Option, Some, codes, bytes_eq, option_map, refl, sym, ap, subst, ◌∙◌, append_assoc}
use Rattle.std.proofs.lemmas.List.{append-nil}
use Rattle.dj_asm_source.specs.declared.reader.Stop.{Stop}
use Rattle.dj_asm_tokens.specs.trusted.Words.{Word, Placed}
use Rattle.dj_asm_source.specs.trusted.Lines.{Label}
use Rattle.dj_asm_source.specs.Reading.{Read, Got, Wrong, Large, read_map}
use Rattle.dj_asm_source.specs.LineReading.{Target, DefaultWord, default_after, targets, targets_from, target_named}
use Rattle.dj_asm_source.specs.Stops.{Stops, IsNoWord}
use Rattle.dj_asm_source.proofs.TypeLists.{stop_map}

abbrev Targets : Type 0
Targets = List Label × Label

abbrev onto : List Label → Targets → Targets
onto prefix x = (prefix ++ x.0, x.1)

onto_more : (prefix : List Label) (label : Label) (read : Read Targets) → read_map (onto (prefix ++ label ∷ [])) read ≡ read_map (onto prefix) (read_map (λ (x : Targets). (label ∷ x.0, x.1)) read)
onto_more prefix label (Got x rest) = ap (λ (ls : List Label). Got (ls, x.1) rest) (append_assoc prefix (label ∷ []) x.0)
onto_more prefix label (Wrong rest) = refl
onto_more prefix label (Large rest) = refl

onto_default : (prefix : List Label) (read : Read Label) → read_map (onto prefix) (read_map (λ (last : Label). ([], last)) read) ≡ read_map (λ (last : Label). (prefix, last)) read
onto_default prefix (Got last rest) = ap (λ (ls : List Label). Got (ls, last) rest) (append-nil prefix)
onto_default prefix (Wrong rest) = refl
onto_default prefix (Large rest) = refl

at_default : (tokens rest : List Placed) (line column : ℕ) (units : List ℕ) → tokens ≡ record { line = line; column = column; token = Word units } ∷ rest → bytes_eq (codes "default") units ≡ true
    → targets tokens ≡ read_map (λ (last : Label). ([], last)) (default_after rest)
unfolding targets
at_default tokens rest line column units here e =
    ap targets here
    ∙ ap (λ (t : Bool). targets_from (Some (cond t DefaultWord (Target units))) (record { line = line; column = column; token = Word units }) rest (targets rest)) e

at_target : (tokens rest : List Placed) (line column : ℕ) (units : List ℕ) → tokens ≡ record { line = line; column = column; token = Word units } ∷ rest → bytes_eq (codes "default") units ≡ false
    → targets tokens ≡ read_map (λ (x : Targets). (units ∷ x.0, x.1)) (targets rest)
unfolding targets
at_target tokens rest line column units here e =
    ap targets here
    ∙ ap (λ (t : Bool). targets_from (Some (cond t DefaultWord (Target units))) (record { line = line; column = column; token = Word units }) rest (targets rest)) e

pub no_word_wrong : (A : Type 0) (stop : Stop) (tokens : List Placed) → IsNoWord stop tokens → Stops {A = A} stop (Wrong tokens)
no_word_wrong A stop [] none = subst (λ (s : Stop). Stops {A = A} s (Wrong [])) (sym none) refl
no_word_wrong A stop (here ∷ rest) none = subst (λ (s : Stop). Stops {A = A} s (Wrong (here ∷ rest))) (sym none.1) refl

at_none : (tokens : List Placed) (stop : Stop) → IsNoWord stop tokens → Stops stop (targets tokens)
unfolding targets
at_none [] stop none = no_word_wrong Targets stop [] none
at_none (here ∷ rest) stop none =
    subst (λ (o : Option (List ℕ)). Stops stop (targets_from (option_map target_named o) here rest (targets rest))) (sym none.0) (no_word_wrong Targets stop (here ∷ rest) none)

pub targets_end : (prefix : List Label) (tokens rest after : List Placed) (line column : ℕ) (units last : Label) (all : Read Targets)
    → tokens ≡ record { line = line; column = column; token = Word units } ∷ rest → bytes_eq (codes "default") units ≡ true → default_after rest ≡ Got last after
    → read_map (λ (x : Targets). (prefix ++ x.0, x.1)) (targets tokens) ≡ all → all ≡ Got (prefix, last) after
targets_end prefix tokens rest after line column units last all here e d inv =
    sym inv ∙ ap (read_map (onto prefix)) (at_default tokens rest line column units here e) ∙ onto_default prefix (default_after rest) ∙ ap (read_map (λ (l : Label). (prefix, l))) d

pub targets_end_stop : (prefix : List Label) (tokens rest : List Placed) (line column : ℕ) (units : Label) (stop : Stop) (all : Read Targets)
    → tokens ≡ record { line = line; column = column; token = Word units } ∷ rest → bytes_eq (codes "default") units ≡ true → Stops stop (default_after rest)
    → read_map (λ (x : Targets). (prefix ++ x.0, x.1)) (targets tokens) ≡ all → Stops stop all
targets_end_stop prefix tokens rest line column units stop all here e s inv =
    subst (λ (r : Read Targets). Stops stop r) (sym (ap (read_map (onto prefix)) (at_default tokens rest line column units here e) ∙ onto_default prefix (default_after rest)) ∙ inv)
    (stop_map (λ (last : Label). (prefix, last)) stop (default_after rest) s)

pub targets_more : (prefix : List Label) (tokens rest : List Placed) (line column : ℕ) (units : Label) (all : Read Targets)
    → tokens ≡ record { line = line; column = column; token = Word units } ∷ rest → bytes_eq (codes "default") units ≡ false
    → read_map (λ (x : Targets). (prefix ++ x.0, x.1)) (targets tokens) ≡ all → read_map (λ (x : Targets). ((prefix ++ units ∷ []) ++ x.0, x.1)) (targets rest) ≡ all
targets_more prefix tokens rest line column units all here e inv =
    onto_more prefix units (targets rest) ∙ ap (read_map (onto prefix)) (sym (at_target tokens rest line column units here e)) ∙ inv

pub targets_stop : (prefix : List Label) (tokens : List Placed) (stop : Stop) (all : Read Targets) → IsNoWord stop tokens
    → read_map (λ (x : Targets). (prefix ++ x.0, x.1)) (targets tokens) ≡ all → Stops stop all
targets_stop prefix tokens stop all none inv =
    subst (λ (r : Read Targets). Stops stop r) inv (stop_map (onto prefix) stop (targets tokens) (at_none tokens stop none))
