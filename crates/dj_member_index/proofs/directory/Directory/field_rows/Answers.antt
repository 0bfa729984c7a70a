use Rattle.std.proofs.Common.{◌≡◌, ℕ, ◌<◌, List, Contains, Some, length, subst, sym}
use Rattle.dj_names.specs.declared.descriptor.Desc.{Desc}
use Rattle.dj_names.specs.trusted.Types.{Name}
use Rattle.dj_declarations.specs.Members.{field_place}
use Rattle.dj_class_table.specs.Tables.{fields_at}
use Rattle.dj_member_index.specs.declared.rows.MemberRow.{MemberRow}
use Rattle.dj_member_index.specs.Numberings.{Numbering, number_of}
use Rattle.dj_member_index.specs.DirectoryRows.{AreInOrder, IsRow, IsThere, RowsDiffer, fields_named}
use Rattle.dj_member_index.proofs.PlaceLaws.{first_field_there, field_row, field_there}
use Rattle.dj_member_index.proofs.directory.Directory.field_rows.Goals as goal

pub returns-clause-there : goal.returns-clause-there
returns-clause-there c =
    subst (λ (d : Numbering). (row : MemberRow) → Contains c.deref.result.now row → row.class < length d.program) c.self.view_is
    (λ row there. field_there c.self.inside.table.now c.self.inside.numbers c.self.inside.methods.items c.self.inside.fields.items c.self.inside.first_methods.items c.self.inside.first_fields.items c.self.invariant 0 0 row
    (c.self.invariant.first_fields_are.within row (subst (λ (rows : List MemberRow). Contains rows row) c.deref.ensures.value there)))

pub returns-clause-named : goal.returns-clause-named
returns-clause-named c =
    subst (λ (d : Numbering). (row : MemberRow) → Contains c.deref.result.now row → IsRow (number_of d) (fields_named d.program) row) c.self.view_is
    (λ row there. field_row c.self.inside.table.now c.self.inside.numbers c.self.inside.methods.items c.self.inside.fields.items c.self.inside.first_methods.items c.self.inside.first_fields.items c.self.invariant row
    (c.self.invariant.first_fields_are.within row (subst (λ (rows : List MemberRow). Contains rows row) c.deref.ensures.value there)))

pub returns-clause-whole : goal.returns-clause-whole
returns-clause-whole c =
    subst (λ (d : Numbering). (class place : ℕ) (name : Name) (desc : Desc) → class < length d.program → field_place (fields_at d.program class) name desc ≡ Some place → IsThere c.deref.result.now class place) c.self.view_is
    (λ class place name desc less reported. subst (λ (rows : List MemberRow). IsThere rows class place) (sym c.deref.ensures.value)
    (first_field_there c.self.inside.table.now c.self.inside.numbers c.self.inside.methods.items c.self.inside.fields.items c.self.inside.first_methods.items c.self.inside.first_fields.items c.self.invariant class place name desc less reported))

pub returns-clause-once : goal.returns-clause-once
returns-clause-once c = subst RowsDiffer (sym c.deref.ensures.value) c.self.invariant.first_fields_are.once

pub returns-clause-order : goal.returns-clause-order
returns-clause-order c = subst AreInOrder (sym c.deref.ensures.value) c.self.invariant.first_fields_are.order
