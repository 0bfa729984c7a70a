use Rattle.dj_declarations.proofs.LookupLaws.{flags_of_method}
use Rattle.dj_declarations.proofs.tables.ClassMembers.method_flags.Goals as goal

pub returns : goal.returns
returns c =
    let members = c.args.self.now in
    flags_of_method members.texts members.methods.rows.items c.args.place c.flags.result c.flags.ensures
