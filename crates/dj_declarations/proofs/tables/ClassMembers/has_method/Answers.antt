use Rattle.std.proofs.Common.{sym}
use Rattle.dj_declarations.proofs.LookupLaws.{any_named, none_named}
use Rattle.dj_declarations.proofs.TextLaws.{leads_back}
use Rattle.dj_declarations.proofs.tables.ClassMembers.has_method.Goals as goal

pub returns-in-Some : goal.returns-in-Some
returns-in-Some c =
    let members = c.args.self.now in
    any_named members.texts (leads_back members.texts) c.args.name.now members.methods.rows.items c.in-Some.name c.has_name.result members.sound.methods_are (sym c.in-Some.ensures) c.has_name.ensures

pub returns-in-None : goal.returns-in-None
returns-in-None c =
    let members = c.args.self.now in
    none_named members.texts (leads_back members.texts) c.args.name.now members.methods.rows.items members.sound.methods_are (sym c.in-None.ensures)
