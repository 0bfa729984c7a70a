use Rattle.dj_declarations.proofs.LookupLaws.{flags_of_field}
use Rattle.dj_declarations.proofs.tables.ClassMembers.field_flags.Goals as goal

pub returns : goal.returns
returns c =
    let members = c.args.self.now in
    flags_of_field members.texts members.fields.rows.items c.args.place c.flags.result c.flags.ensures
