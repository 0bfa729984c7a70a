-- The lines of a source follow their order to its end.
use Rattle.std.proofs.Common.{◌≡◌, ℕ, ℤ, append_assoc, true, List, [], ◌∷◌, ◌++◌, map, Option, Some, None, refl, sym, ap, ◌∙◌, subst}
use Rattle.std.specs.List.{flat_map}
use Rattle.dj_asm_source.specs.trusted.Lines.{Line, Aside, Implements, Beside, Does, End}
use Rattle.dj_asm_source.specs.trusted.Sources.{Source, FieldSource, BodyPart, Mark, Step, FrameStep, MethodSource, Bodiless, Coded, field_line, body_lines, part_lines, method_lines, lines_of}
use Rattle.dj_asm_source.specs.Order.{State, AtClass, AtInterfaces, AtFields, AtMethods, InBody, InFrame, after, run, is_final}

pub run_append : (state : Option State) (xs ys : List Line) → run state (xs ++ ys) ≡ run (run state xs) ys
unfolding run
run_append state [] ys = refl
run_append None (x ∷ xs) [] = refl
run_append None (x ∷ xs) (y ∷ ys) = refl
run_append (Some state) (x ∷ xs) ys = run_append (after state x) xs ys

asides_run : (asides : List Aside) → run (Some InFrame) (map Beside asides) ≡ Some InFrame
unfolding run
asides_run [] = refl
asides_run (aside ∷ asides) = asides_run asides

part_run : (part : BodyPart) → run (Some InBody) (part_lines part) ≡ Some InBody
unfolding run
part_run (Mark aside) = refl
part_run (Step operation) = refl
part_run (FrameStep frame asides operation) =
    run_append (Some InFrame) (map Beside asides) (Does operation ∷ []) ∙ ap (λ state. run state (Does operation ∷ [])) (asides_run asides)

body_run : (parts : List BodyPart) → run (Some InBody) (body_lines parts) ≡ Some InBody
unfolding run
body_run [] = refl
body_run (part ∷ parts) =
    run_append (Some InBody) (part_lines part) (body_lines parts) ∙ (ap (λ state. run state (body_lines parts)) (part_run part) ∙ body_run parts)

method_run : (method : MethodSource) → run (Some AtMethods) (method_lines method) ≡ Some AtMethods
unfolding run
method_run (Bodiless flags name desc) = refl
method_run (Coded flags name desc stack locals body) =
    run_append (Some InBody) (body_lines body) (End ∷ []) ∙ ap (λ state. run state (End ∷ [])) (body_run body)

methods_run : (methods : List MethodSource) → run (Some AtMethods) (flat_map method_lines methods) ≡ Some AtMethods
unfolding run
methods_run [] = refl
methods_run (method ∷ methods) =
    run_append (Some AtMethods) (method_lines method) (flat_map method_lines methods)
    ∙ (ap (λ state. run state (flat_map method_lines methods)) (method_run method) ∙ methods_run methods)

-- the first method may stand right after interfaces or fields
first_method : (method : MethodSource) (lines : List Line) → run (Some AtInterfaces) (method_lines method ++ lines) ≡ run (Some AtMethods) (method_lines method ++ lines)
unfolding run
first_method (Bodiless flags name desc) lines = refl
first_method (Coded flags name desc stack locals body) lines = refl

method_after_fields : (method : MethodSource) (lines : List Line) → run (Some AtFields) (method_lines method ++ lines) ≡ run (Some AtMethods) (method_lines method ++ lines)
unfolding run
method_after_fields (Bodiless flags name desc) lines = refl
method_after_fields (Coded flags name desc stack locals body) lines = refl

after_interfaces : (methods : List MethodSource) → is_final (run (Some AtInterfaces) (flat_map method_lines methods)) ≡ true
unfolding run
after_interfaces [] = refl
after_interfaces (method ∷ methods) = ap is_final (first_method method (flat_map method_lines methods) ∙ methods_run (method ∷ methods))

after_fields : (methods : List MethodSource) → is_final (run (Some AtFields) (flat_map method_lines methods)) ≡ true
unfolding run
after_fields [] = refl
after_fields (method ∷ methods) = ap is_final (method_after_fields method (flat_map method_lines methods) ∙ methods_run (method ∷ methods))

interfaces_run : (names : List (List ℕ)) → run (Some AtInterfaces) (map Implements names) ≡ Some AtInterfaces
unfolding run
interfaces_run [] = refl
interfaces_run (name ∷ names) = interfaces_run names

fields_run : (fields : List FieldSource) → run (Some AtFields) (map field_line fields) ≡ Some AtFields
unfolding run
fields_run [] = refl
fields_run (field ∷ fields) = fields_run fields

-- fields and methods
members_run : (fields : List FieldSource) (methods : List MethodSource) → is_final (run (Some AtInterfaces) (map field_line fields ++ flat_map method_lines methods)) ≡ true
unfolding run
members_run [] methods = after_interfaces methods
members_run (field ∷ fields) methods =
    ap is_final (run_append (Some AtFields) (map field_line fields) (flat_map method_lines methods) ∙ ap (λ state. run state (flat_map method_lines methods)) (fields_run fields))
    ∙ after_fields methods

-- what follows the superclass
tail_run : (names : List (List ℕ)) (fields : List FieldSource) (methods : List MethodSource)
    → is_final (run (Some AtInterfaces) (map Implements names ++ (map field_line fields ++ flat_map method_lines methods))) ≡ true
tail_run names fields methods =
    ap is_final (run_append (Some AtInterfaces) (map Implements names) (map field_line fields ++ flat_map method_lines methods)
    ∙ ap (λ state. run state (map field_line fields ++ flat_map method_lines methods)) (interfaces_run names))
    ∙ members_run fields methods

-- the tail as the lines of a source have it
abbrev tail_lines : List (List ℕ) → List FieldSource → List MethodSource → List Line
tail_lines names fields methods = (map Implements names ++ map field_line fields) ++ flat_map method_lines methods

tail_final : (names : List (List ℕ)) (fields : List FieldSource) (methods : List MethodSource) → is_final (run (Some AtInterfaces) (tail_lines names fields methods)) ≡ true
tail_final names fields methods =
    subst (λ lines. is_final (run (Some AtInterfaces) lines) ≡ true) (sym (append_assoc (map Implements names) (map field_line fields) (flat_map method_lines methods)))
    (tail_run names fields methods)

by_version : (flags : ℕ) (name : List ℕ) (version : Option (ℤ × ℤ)) (super : List ℕ) (names : List (List ℕ)) (fields : List FieldSource) (methods : List MethodSource)
    → is_final (run (Some AtClass) (lines_of (record { flags = flags; name = name; version = version; super = super; interfaces = names; fields = fields; methods = methods }))) ≡ true
unfolding run
by_version flags name None super names fields methods = tail_final names fields methods
by_version flags name (Some (major, minor)) super names fields methods = tail_final names fields methods

-- the lines of a source follow their order, and the text may end after them
pub lines_follow : (s : Source) → is_final (run (Some AtClass) (lines_of s)) ≡ true
lines_follow s = by_version s.flags s.name s.version s.super s.interfaces s.fields s.methods
