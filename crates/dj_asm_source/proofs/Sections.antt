-- The lines of a source, cut where a method begins.
use Rattle.std.proofs.Common.{◌≡◌, ℕ, ℤ, suc, ◌+◌, Bool, true, false, not, cond, List, [], ◌∷◌, ◌++◌, map, take, drop, Option, Some, None, refl, sym, ap, ◌∙◌, subst, arith}
use Rattle.std.specs.List.{flat_map, list_all, prefix_len}
use Rattle.std.proofs.lemmas.Bool.{and_parts, and_from, not-false}
use Rattle.std.proofs.lemmas.List.{append_assoc, take-append-drop}
use Rattle.dj_asm_source.specs.trusted.Lines.{Line, Aside, Class, Super, Implements, Abstract, Method, Stack, Locals, Beside, Does, End}
use Rattle.dj_asm_source.specs.trusted.Sources.{Source, FieldSource, BodyPart, Mark, Step, FrameStep, MethodSource, Bodiless, Coded, version_lines, field_line, body_lines, method_lines, head_lines, lines_of}
use Rattle.dj_asm_source.specs.LabelReading.{begins_method, is_cut, with_line_first, sections_of, is_inside, section_size}

-- ---- one section, and those after it

cut_first : (b : Bool) → b ≡ true → (line : Line) (sections : List (List Line)) → with_line_first b line sections ≡ (line ∷ []) ∷ sections
cut_first true e line sections = refl
cut_first false e line sections = absurd cc

joined : (b : Bool) → not b ≡ true → (line : Line) (section : List Line) (sections : List (List Line)) → with_line_first b line (section ∷ sections) ≡ (line ∷ section) ∷ sections
joined true e line section sections = absurd cc
joined false e line section sections = refl

inside_first : (line : Line) (lines : List Line) → list_all is_inside (line ∷ lines) ≡ true → (is_inside line ≡ true) × (list_all is_inside lines ≡ true)
inside_first line lines e = and_parts (is_inside line) (list_all is_inside lines) e

-- a line with those after it up to a method, and the sections after them
pub section_first : (line : Line) (inside more : List Line) → list_all is_inside inside ≡ true → is_cut more ≡ true
    → sections_of (line ∷ (inside ++ more)) ≡ (line ∷ inside) ∷ sections_of more
unfolding sections_of
section_first line [] more all cut = cut_first (is_cut more) cut line (sections_of more)
section_first line (next ∷ inside) more all cut =
    let parts = inside_first next inside all in
    ap (with_line_first (begins_method next) line) (section_first next inside more parts.1 cut)
    ∙ joined (begins_method next) parts.0 line (next ∷ inside) (sections_of more)

-- ---- the sections of a source

asides_inside : (asides : List Aside) (more : List Line) → list_all is_inside more ≡ true → list_all is_inside (map Beside asides ++ more) ≡ true
asides_inside [] more e = e
asides_inside (aside ∷ asides) more e = asides_inside asides more e

body_inside : (body : List BodyPart) (more : List Line) → list_all is_inside more ≡ true → list_all is_inside (body_lines body ++ more) ≡ true
body_inside [] more e = e
body_inside (Mark aside ∷ body) more e = body_inside body more e
body_inside (Step operation ∷ body) more e = body_inside body more e
body_inside (FrameStep frame asides operation ∷ body) more e =
    let whole : (map Beside asides ++ Does operation ∷ []) ++ body_lines body ++ more ≡ map Beside asides ++ (Does operation ∷ (body_lines body ++ more)) =
    append_assoc (map Beside asides ++ Does operation ∷ []) (body_lines body) more ∙ append_assoc (map Beside asides) (Does operation ∷ []) (body_lines body ++ more) in
    ap (list_all is_inside) whole ∙ asides_inside asides (Does operation ∷ (body_lines body ++ more)) (body_inside body more e)

methods_cut : (methods : List MethodSource) → is_cut (flat_map method_lines methods) ≡ true
methods_cut [] = refl
methods_cut (Bodiless flags name desc ∷ methods) = refl
methods_cut (Coded flags name desc stack locals body ∷ methods) = refl

method_sections : (methods : List MethodSource) → sections_of (flat_map method_lines methods) ≡ map method_lines methods
unfolding sections_of
method_sections [] = refl
method_sections (Bodiless flags name desc ∷ methods) =
    cut_first (is_cut (flat_map method_lines methods)) (methods_cut methods) (Abstract flags name desc) (sections_of (flat_map method_lines methods))
    ∙ ap (λ sections. (Abstract flags name desc ∷ []) ∷ sections) (method_sections methods)
method_sections (Coded flags name desc stack locals body ∷ methods) =
    let inside = Stack stack ∷ Locals locals ∷ (body_lines body ++ End ∷ []) in
    section_first (Method flags name desc) inside (flat_map method_lines methods) (body_inside body (End ∷ []) refl) (methods_cut methods)
    ∙ ap (λ sections. (Method flags name desc ∷ inside) ∷ sections) (method_sections methods)

fields_inside : (fields : List FieldSource) → list_all is_inside (map field_line fields) ≡ true
fields_inside [] = refl
fields_inside (field ∷ fields) = fields_inside fields

names_inside : (names : List (List ℕ)) (more : List Line) → list_all is_inside more ≡ true → list_all is_inside (map Implements names ++ more) ≡ true
names_inside [] more e = e
names_inside (name ∷ names) more e = names_inside names more e

head_inside : (version : Option (ℤ × ℤ)) (super : List ℕ) (names : List (List ℕ)) (fields : List FieldSource)
    → list_all is_inside (version_lines version ++ Super super ∷ map Implements names ++ map field_line fields) ≡ true
head_inside None super names fields = names_inside names (map field_line fields) (fields_inside fields)
head_inside (Some (major, minor)) super names fields = names_inside names (map field_line fields) (fields_inside fields)

-- the lines before the methods, and those of each
pub source_sections : (s : Source) → sections_of (lines_of s) ≡ head_lines s ∷ map method_lines s.methods
source_sections s =
    section_first (Class s.flags s.name) (version_lines s.version ++ Super s.super ∷ map Implements s.interfaces ++ map field_line s.fields) (flat_map method_lines s.methods)
    (head_inside s.version s.super s.interfaces s.fields) (methods_cut s.methods)
    ∙ ap (λ sections. head_lines s ∷ sections) (method_sections s.methods)

-- ---- the first section, counted

suc_is : (n : ℕ) → suc n ≡ 1 + n
suc_is n = omega arith

-- up to the first line that begins a method
record AreParts (lines : List Line) (n : ℕ) : Type 0 where
  inside : list_all is_inside (take n lines) ≡ true
  cut : is_cut (drop n lines) ≡ true

parts_at : (lines : List Line) → AreParts lines (prefix_len is_inside lines)
parts_at [] = record { inside = refl; cut = refl }
parts_at (line ∷ lines) = by (is_inside line) refl (parts_at lines) where
  by : (b : Bool) → is_inside line ≡ b → AreParts lines (prefix_len is_inside lines) → AreParts (line ∷ lines) (cond b (1 + prefix_len is_inside lines) 0)
  by true t parts =
      subst (AreParts (line ∷ lines)) (suc_is (prefix_len is_inside lines))
      (record { inside = and_from (is_inside line) (list_all is_inside (take (prefix_len is_inside lines) lines)) t parts.inside; cut = parts.cut })
  by false t parts = record { inside = refl; cut = not-false (begins_method line) t }

-- lines begin with their first section
pub section_step : (line : Line) (lines : List Line)
    → sections_of (line ∷ lines) ≡ take (section_size (line ∷ lines)) (line ∷ lines) ∷ sections_of (drop (section_size (line ∷ lines)) (line ∷ lines))
section_step line lines =
    let n = prefix_len is_inside lines in
    let parts = parts_at lines in
    ap (λ ls. sections_of (line ∷ ls)) (sym (take-append-drop n lines))
    ∙ (section_first line (take n lines) (drop n lines) parts.inside parts.cut
    ∙ ap (λ k. take k (line ∷ lines) ∷ sections_of (drop k (line ∷ lines))) (suc_is n))
