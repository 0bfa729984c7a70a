-- The members of a class as it is declared have no code and no constants.
use Rattle.std.proofs.Common.{◌≡◌, List, [], ◌∷◌, map, refl, ap, ◌∙◌}
use Rattle.dj_model.specs.trusted.Program.{Class, Method, Field, Body}
use Rattle.dj_model.specs.Program.{body_map}
use Rattle.dj_declarations.specs.declared.members.MemberBody.{MemberBody}
use Rattle.dj_declarations.specs.declared.members.MemberBody.TheVariants as bodies
use Rattle.dj_declarations.specs.declared.members.MemberRow.{MemberRow}
use Rattle.dj_declarations.specs.trusted.Files.{no_code}
use Rattle.dj_declarations.specs.Files.{bare_method, bare_field, bare_class}
use Rattle.dj_declarations.specs.MemberRows.{body_of, row_method, row_field}
use Rattle.dj_declarations.specs.Texts.{Numbers}

bare_body : (body : MemberBody) → body_map (λ code. no_code) (body_of body) ≡ body_of body
bare_body bodies.Empty = refl
bare_body (bodies.Native id) = refl
bare_body bodies.Code = refl

bare_methods : (numbers : Numbers) (rows : List MemberRow) → map bare_method (map (row_method numbers) rows) ≡ map (row_method numbers) rows
bare_methods numbers [] = refl
bare_methods numbers (row ∷ rows) =
    ap (λ (body : Body). record (row_method numbers row) { body = body } ∷ map bare_method (map (row_method numbers) rows)) (bare_body row.body)
    ∙ ap (λ (methods : List Method). row_method numbers row ∷ methods) (bare_methods numbers rows)

bare_fields : (numbers : Numbers) (rows : List MemberRow) → map bare_field (map (row_field numbers) rows) ≡ map (row_field numbers) rows
bare_fields numbers [] = refl
bare_fields numbers (row ∷ rows) = ap (λ (fields : List Field). row_field numbers row ∷ fields) (bare_fields numbers rows)

pub bare_members : (c : Class) (numbers : Numbers) (fields methods : List MemberRow) → c.fields ≡ map (row_field numbers) fields → c.methods ≡ map (row_method numbers) methods
    → bare_class c ≡ c
bare_members c numbers fields methods f m =
    let same_fields : map bare_field c.fields ≡ c.fields = rw f (bare_fields numbers fields) in
    let same_methods : map bare_method c.methods ≡ c.methods = rw m (bare_methods numbers methods) in
    ap (λ (fs : List Field). record c { fields = fs; methods = map bare_method c.methods }) same_fields
    ∙ ap (λ (ms : List Method). record c { methods = ms }) same_methods
