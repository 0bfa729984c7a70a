use Rattle.std.proofs.Common.{◌<◌, IfSome, List, length, sym, subst}
use Rattle.dj_class_table.specs.Tables.{fields_at}
use Rattle.dj_member_index.specs.declared.rows.MemberRow.{MemberRow}
use Rattle.dj_member_index.specs.Numberings.{Numbering}
use Rattle.dj_member_index.specs.DirectoryRows.{IsLeastOrNone}
use Rattle.dj_member_index.proofs.PlaceLaws.{IsFirstField, first_field, field_within}
use Rattle.dj_member_index.proofs.directory.Directory.field_in.Goals as goal

pub returns-clause-first : goal.returns-clause-first
returns-clause-first c =
    subst (λ (d : Numbering). IsFirstField c.args.class c.args.name c.args.desc c.place_in.result d) c.self.view_is
    (first_field c.self.inside.table.now c.self.inside.numbers c.self.inside.methods.items c.self.inside.fields.items c.self.inside.first_methods.items c.self.inside.first_fields.items c.self.invariant c.args.class c.args.name c.args.desc c.place_in.result
    (subst (λ (d : Numbering). c.args.class < length d.program) (sym c.self.view_is) c.requires)
    (subst (λ (rows : List MemberRow). IsLeastOrNone rows c.args.name c.args.desc c.args.class c.place_in.result) c.deref.ensures.value c.place_in.ensures))

pub returns-clause-within : goal.returns-clause-within
returns-clause-within c =
    subst (λ (d : Numbering). IfSome c.place_in.result (λ place. place < length (fields_at d.program c.args.class))) c.self.view_is
    (field_within c.self.inside.table.now c.self.inside.numbers c.self.inside.methods.items c.self.inside.fields.items c.self.inside.first_methods.items c.self.inside.first_fields.items c.self.invariant c.args.class c.args.name c.args.desc c.place_in.result
    (subst (λ (rows : List MemberRow). IsLeastOrNone rows c.args.name c.args.desc c.args.class c.place_in.result) c.deref.ensures.value c.place_in.ensures))
