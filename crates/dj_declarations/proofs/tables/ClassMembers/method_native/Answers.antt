use Rattle.std.proofs.Common.{Some, None, sym, ap, inl, inr}
use Rattle.dj_declarations.specs.declared.members.MemberBody.{MemberBody}
use Rattle.dj_declarations.specs.MemberRows.{row_method, body_of}
use Rattle.dj_declarations.specs.Members.{native_in, method_native}
use Rattle.dj_declarations.proofs.CountLaws.{reported_at}
use Rattle.dj_declarations.proofs.tables.ClassMembers.method_native.Goals as goal

pub returns-in-Native : goal.returns-in-Native
returns-in-Native c =
    let members = c.args.self.now in
    reported_at (row_method members.texts) method_native members.methods.rows.items c.args.place c.row.result (Some c.in-Native.id) c.row.ensures
    (ap (λ (body : MemberBody). native_in (body_of body)) (sym c.in-Native.is))

pub returns-in-Empty : goal.returns-in-Empty
returns-in-Empty c =
    let members = c.args.self.now in
    reported_at (row_method members.texts) method_native members.methods.rows.items c.args.place c.row.result None c.row.ensures
    (elim c.in-Empty.is [
      | inl none ↦ ap (λ (body : MemberBody). native_in (body_of body)) (sym none)
      | inr code ↦ ap (λ (body : MemberBody). native_in (body_of body)) (sym code)
    ])
