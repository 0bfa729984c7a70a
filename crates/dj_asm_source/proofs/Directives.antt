-- A table of directives, seen through their views.
use Rattle.std.proofs.Common.{◌≡◌, ℕ, Bool, true, false, cond, List, [], ◌∷◌, map, Option, Some, option_map, codes, bytes_eq, refl, ap, ◌∙◌}
use Rattle.dj_asm_source.specs.declared.start.Directive.{Directive}
use Rattle.dj_asm_source.specs.declared.start.Directive.TheVariants as rows
use Rattle.dj_asm_tokens.specs.WordReading.{row_of}
use Rattle.dj_asm_source.specs.LineReading.{directives}
use Rattle.dj_asm_source.specs.LineStarts.{directive_view}

on_row : {K L : Type 0} (f : K → L) (t : Bool) (k : K) (o : Option K) → option_map f (cond t (Some k) o) ≡ cond t (Some (f k)) (option_map f o)
on_row f true k o = refl
on_row f false k o = refl

pub row_of-map : {K L : Type 0} (f : K → L) (rows : List (List ℕ × K)) (word : List ℕ) → option_map f (row_of rows word) ≡ row_of (map (λ (row : List ℕ × K). (row.0, f row.1)) rows) word
row_of-map f [] word = refl
row_of-map f (row ∷ rows) word = on_row f (bytes_eq row.0 word) row.1 (row_of rows word) ∙ ap (cond (bytes_eq row.0 word) (Some (f row.1))) (row_of-map f rows word)

abbrev pub directive_rows : List (List ℕ × Directive)
directive_rows =
    (codes ".class", rows.Class) ∷ (codes ".version", rows.Version) ∷ (codes ".super", rows.Super) ∷ (codes ".implements", rows.Implements) ∷ (codes ".field", rows.Field)
    ∷ (codes ".abstract", rows.Abstract) ∷ (codes ".method", rows.Method) ∷ (codes ".stack", rows.Stack) ∷ (codes ".locals", rows.Locals) ∷ (codes ".catch", rows.Catch)
    ∷ (codes ".frame", rows.Frame) ∷ (codes ".end", rows.End) ∷ []

pub directives_are : (word : List ℕ) (found : Option Directive) → found ≡ row_of directive_rows word → option_map directive_view found ≡ row_of directives word
directives_are word found e = ap (option_map directive_view) e ∙ row_of-map directive_view directive_rows word
