use Rattle.std.proofs.Common.{true, false, sym, ap, inl, inr}
use Rattle.dj_model.specs.trusted.Linking.{has_body}
use Rattle.dj_declarations.specs.declared.members.MemberBody.{MemberBody}
use Rattle.dj_declarations.specs.MemberRows.{row_method, body_of}
use Rattle.dj_declarations.specs.Members.{method_has_body}
use Rattle.dj_declarations.proofs.CountLaws.{reported_at}
use Rattle.dj_declarations.proofs.tables.ClassMembers.method_has_body.Goals as goal

pub returns-in-Empty : goal.returns-in-Empty
returns-in-Empty c =
    let members = c.args.self.now in
    reported_at (row_method members.texts) method_has_body members.methods.rows.items c.args.place c.row.result false c.row.ensures
    (ap (λ (body : MemberBody). has_body (body_of body)) (sym c.in-Empty.is))

pub returns-in-Native : goal.returns-in-Native
returns-in-Native c =
    let members = c.args.self.now in
    reported_at (row_method members.texts) method_has_body members.methods.rows.items c.args.place c.row.result true c.row.ensures
    (elim c.in-Native.is [
      | inl some ↦ ap (λ (body : MemberBody). has_body (body_of body)) (sym some.1)
      | inr code ↦ ap (λ (body : MemberBody). has_body (body_of body)) (sym code)
    ])
