use Rattle.dj_declarations.proofs.LookupLaws.{methods_found, method_placed}
use Rattle.dj_declarations.proofs.TextLaws.{leads_back}
use Rattle.dj_declarations.proofs.tables.ClassMembers.method_named.Goals as goal

pub returns-clause-found : goal.returns-clause-found
returns-clause-found c =
    let members = c.args.self.now in
    methods_found members.texts (leads_back members.texts) c.args.name.now c.args.desc.now c.requires members.methods.rows.items c.find_named.result members.sound.methods_are c.find_named.ensures

pub returns-clause-first : goal.returns-clause-first
returns-clause-first c =
    let members = c.args.self.now in
    method_placed members.texts (leads_back members.texts) c.args.name.now c.args.desc.now c.requires members.methods.rows.items c.find_named.result members.sound.methods_are c.find_named.ensures
