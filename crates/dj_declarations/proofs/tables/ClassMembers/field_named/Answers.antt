use Rattle.dj_declarations.proofs.LookupLaws.{fields_found, field_placed}
use Rattle.dj_declarations.proofs.TextLaws.{leads_back}
use Rattle.dj_declarations.proofs.tables.ClassMembers.field_named.Goals as goal

pub returns-clause-found : goal.returns-clause-found
returns-clause-found c =
    let members = c.args.self.now in
    fields_found members.texts (leads_back members.texts) c.args.name.now c.args.desc.now c.requires members.fields.rows.items c.find_named.result members.sound.fields_are c.find_named.ensures

pub returns-clause-first : goal.returns-clause-first
returns-clause-first c =
    let members = c.args.self.now in
    field_placed members.texts (leads_back members.texts) c.args.name.now c.args.desc.now c.requires members.fields.rows.items c.find_named.result members.sound.fields_are c.find_named.ensures
