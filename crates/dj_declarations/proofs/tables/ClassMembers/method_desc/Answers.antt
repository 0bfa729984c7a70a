use Rattle.dj_names.specs.trusted.Descriptors.{Describes}
use Rattle.dj_declarations.specs.MemberRows.{row_method}
use Rattle.dj_declarations.proofs.CountLaws.{sound_at, holds_at, described}
use Rattle.dj_declarations.proofs.tables.ClassMembers.method_desc.Goals as goal

pub text-requires : goal.text-requires
text-requires c =
    let members = c.args.self.now in
    (sound_at members.texts members.methods.rows.items c.args.place c.row.result members.sound.methods_are c.row.ensures).desc

pub returns : goal.returns
returns c =
    let members = c.args.self.now in
    holds_at (row_method members.texts) (λ m. Describes c.text.result.now m.desc) members.methods.rows.items c.args.place c.row.result c.row.ensures
    (described members.texts c.row.result c.text.result.now (sound_at members.texts members.methods.rows.items c.args.place c.row.result members.sound.methods_are c.row.ensures) c.text.ensures)
