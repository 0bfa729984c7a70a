use Rattle.std.proofs.Common.{◌≡◌, ◌<◌, ℕ, List, Contains, Some, length, subst}
use Rattle.dj_declarations.specs.trusted.Files.{desc_in}
use Rattle.dj_declarations.specs.Members.{IsDescriptor}
use Rattle.dj_member_index.specs.declared.rows.MemberRow.{MemberRow}
use Rattle.dj_member_index.specs.Numberings.{DeclareFields, Numbering, number_of}
use Rattle.dj_member_index.specs.DirectoryRows.{AreRowsWith}
use Rattle.dj_member_index.proofs.FirstLaws.{classes_differ}
use Rattle.dj_member_index.proofs.PlaceLaws.{field_there, fields_declared}
use Rattle.dj_member_index.proofs.directory.Directory.fields_of.Goals as goal

pub returns-clause-there : goal.returns-clause-there
returns-clause-there c =
    subst (λ (d : Numbering). (row : MemberRow) → Contains c.rows_with.result.now row → row.class < length d.program) c.self.view_is
    (λ row there. field_there c.self.inside.table.now c.self.inside.numbers c.self.inside.methods.items c.self.inside.fields.items c.self.inside.first_methods.items c.self.inside.first_fields.items c.self.invariant c.args.name c.args.desc row
    (c.self.invariant.first_fields_are.within row ((subst (λ (rows : List MemberRow). AreRowsWith rows c.args.name c.args.desc c.rows_with.result.now) c.deref.ensures.value c.rows_with.ensures).each row there).0))

pub returns-clause-declare : goal.returns-clause-declare
returns-clause-declare c =
    subst (λ (numbering : Numbering). (n d : List ℕ) → number_of numbering n ≡ Some c.args.name → number_of numbering d ≡ Some c.args.desc → IsDescriptor d → DeclareFields numbering.program n (desc_in d) c.rows_with.result.now) c.self.view_is
    (fields_declared c.self.inside.table.now c.self.inside.numbers c.self.inside.methods.items c.self.inside.fields.items c.self.inside.first_methods.items c.self.inside.first_fields.items c.self.invariant c.args.name c.args.desc c.rows_with.result.now c.class_count.ensures.few
    (subst (λ (rows : List MemberRow). AreRowsWith rows c.args.name c.args.desc c.rows_with.result.now) c.deref.ensures.value c.rows_with.ensures))

pub returns-clause-once : goal.returns-clause-once
returns-clause-once c =
    classes_differ c.self.inside.fields.items c.self.inside.first_fields.items c.rows_with.result.now c.args.name c.args.desc c.self.invariant.first_fields_are
    (subst (λ (rows : List MemberRow). AreRowsWith rows c.args.name c.args.desc c.rows_with.result.now) c.deref.ensures.value c.rows_with.ensures)
