use Rattle.std.proofs.Common.{◌≡◌, Some, ap, subst, sym, ◌∙◌}
use Rattle.dj_names.specs.trusted.Descriptors.{desc_text}
use Rattle.dj_model.specs.trusted.Libraries.{library_method}
use Rattle.dj_library_types.specs.Views.{library_method_view}
use Rattle.dj_declarations.specs.declared.members.MemberBody.{MemberBody}
use Rattle.dj_declarations.specs.Texts.{number_in}
use Rattle.dj_declarations.specs.MemberRows.{IsRowOf}
use Rattle.dj_declarations.proofs.LibraryLaws.{row_of_method}
use Rattle.dj_declarations.proofs.library.method_row.Goals as goal

pub returns : goal.returns
returns c =
    let m = c.args.method.now in
    let texts = c.args.texts.now in
    let name : number_in texts m.name ≡ Some c.in_ok-name.name = ap (number_in texts) (sym c.as_slice.ensures) ∙ c.in_ok-name.ensures in
    let spelled : c.as_slice-2.result.now ≡ desc_text m.desc = c.as_slice-2.ensures ∙ c.in_ok-text.ensures in
    let is = row_of_method texts m c.as_slice-2.result.now c.in_ok-name.name c.in_ok-desc.desc c.requires spelled name c.in_ok-desc.ensures in
    subst (λ (body : MemberBody). IsRowOf texts (record { flags = m.flags; name = c.in_ok-name.name; desc = c.in_ok-desc.desc; body = body }) (library_method (library_method_view m))) (sym c.body_of.ensures) is
