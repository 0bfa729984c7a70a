use Rattle.dj_declarations.specs.MemberRows.{row_method}
use Rattle.dj_declarations.specs.Members.{method_name}
use Rattle.dj_declarations.proofs.CountLaws.{sound_at, reported_at}
use Rattle.dj_declarations.proofs.tables.ClassMembers.method_name.Goals as goal

pub text-requires : goal.text-requires
text-requires c =
    let members = c.args.self.now in
    (sound_at members.texts members.methods.rows.items c.args.place c.row.result members.sound.methods_are c.row.ensures).name

pub returns : goal.returns
returns c =
    let members = c.args.self.now in
    reported_at (row_method members.texts) method_name members.methods.rows.items c.args.place c.row.result c.text.result.now c.row.ensures c.text.ensures
