use Rattle.std.proofs.Common.{subst}
use Rattle.dj_member_index.proofs.PlaceLaws.{NamesMethods, NamesFields, names_methods, names_fields}
use Rattle.dj_member_index.proofs.directory.Directory.names_all.Goals as goal

pub returns-clause-methods : goal.returns-clause-methods
returns-clause-methods c =
    subst NamesMethods c.self.view_is (names_methods c.self.inside.table.now c.self.inside.numbers c.self.inside.methods.items c.self.inside.fields.items c.self.inside.first_methods.items c.self.inside.first_fields.items c.self.invariant)

pub returns-clause-fields : goal.returns-clause-fields
returns-clause-fields c =
    subst NamesFields c.self.view_is (names_fields c.self.inside.table.now c.self.inside.numbers c.self.inside.methods.items c.self.inside.fields.items c.self.inside.first_methods.items c.self.inside.first_fields.items c.self.invariant)
