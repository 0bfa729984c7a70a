use Rattle.std.proofs.Common.{ℕ, ◌+◌, ◌<◌, Some, length, sym, ap, subst, ◌∙◌, arith}
use Rattle.std.proofs.lemmas.Option.{none-some, same_Some}
use Rattle.dj_model.specs.trusted.Program.{Program}
use Rattle.dj_class_table.specs.Tables.{fields_at}
use Rattle.dj_numbering.specs.Typed.{Typed}
use Rattle.dj_numbering.specs.Members.{fields_before}
use Rattle.dj_numbering.proofs.First.{first_field_reported, field_described}
use Rattle.dj_numbering.proofs.types.Types.first_field.Goals as goal

abbrev program : Typed → Program
program typed = typed.program

pub field_named-requires-clause-described : goal.field_named-requires-clause-described
field_named-requires-clause-described c =
    let place = c.args.place in
    let classes = c.classes-table.ensures ∙ ap program c.self.view_is in
    field_described (fields_at c.classes-table.result.now place.class) place.member c.field_desc-desc.result.now
    (subst (λ (p : Program). place.member < length (fields_at p place.class)) (sym classes) c.requires.within) c.field_desc-desc.ensures

pub field_id-requires-clause-within : goal.field_id-requires-clause-within
field_id-requires-clause-within c =
    let first = first_field_reported c.classes-table.result.now c.args.self.now.program c.args.place c.field_name-name.result.now c.field_desc-desc.result.now c.field_named.result (c.classes-table.ensures ∙ ap program c.self.view_is) c.names_differ.ensures
    c.requires.there c.requires.within c.field_name-name.ensures c.field_desc-desc.ensures c.field_named.ensures.first in
    let same = same_Some c.in-Some.first first.first (sym c.in-Some.is ∙ first.is) in
    let within = first.within in
    omega (arith, same, within)

pub unreachable-requires : goal.unreachable-requires
unreachable-requires c =
    let first = first_field_reported c.classes-table.result.now c.args.self.now.program c.args.place c.field_name-name.result.now c.field_desc-desc.result.now c.field_named.result (c.classes-table.ensures ∙ ap program c.self.view_is) c.names_differ.ensures
    c.requires.there c.requires.within c.field_name-name.ensures c.field_desc-desc.ensures c.field_named.ensures.first in
    none-some first.first (sym c.in-None.is ∙ first.is)

pub returns : goal.returns
returns c =
    let first = first_field_reported c.classes-table.result.now c.args.self.now.program c.args.place c.field_name-name.result.now c.field_desc-desc.result.now c.field_named.result (c.classes-table.ensures ∙ ap program c.self.view_is) c.names_differ.ensures
    c.requires.there c.requires.within c.field_name-name.ensures c.field_desc-desc.ensures c.field_named.ensures.first in
    let same = same_Some c.in-Some.first first.first (sym c.in-Some.is ∙ first.is) in
    ap Some c.field_id.ensures.number ∙ ap (λ (n : ℕ). Some (fields_before c.args.self.now.program c.args.place.class + n)) same ∙ sym first.numbered
