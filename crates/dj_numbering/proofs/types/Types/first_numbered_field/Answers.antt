use Rattle.std.proofs.Common.{ℕ, ◌+◌, Some, sym, ap, subst, ◌∙◌, arith}
use Rattle.std.proofs.lemmas.Option.{none-some, same_Some}
use Rattle.dj_model.specs.trusted.Program.{Program}
use Rattle.dj_declarations.specs.trusted.Files.{desc_in}
use Rattle.dj_resolution.proofs.Resolution.{DoNamesDiffer}
use Rattle.dj_numbering.specs.Typed.{Typed}
use Rattle.dj_numbering.specs.Members.{fields_before}
use Rattle.dj_numbering.proofs.First.{first_field_named}
use Rattle.dj_numbering.proofs.types.Types.first_numbered_field.Goals as goal

abbrev program : Typed → Program
program typed = typed.program

pub field_id-requires-clause-within : goal.field_id-requires-clause-within
field_id-requires-clause-within c =
    let first = first_field_named c.args.directory.now.program c.args.self.now.program c.args.place c.args.named.name.now (desc_in c.args.named.desc.now) c.field_in.result c.requires.same
    (subst DoNamesDiffer (c.classes.ensures ∙ ap program c.self.view_is) c.names_differ.ensures) c.requires.there c.requires.within c.requires.is c.field_in.ensures in
    let same = same_Some c.in-Some.first first.first (sym c.in-Some.is ∙ first.is) in
    let within = first.within in
    omega (arith, same, within)

pub unreachable-requires : goal.unreachable-requires
unreachable-requires c =
    let first = first_field_named c.args.directory.now.program c.args.self.now.program c.args.place c.args.named.name.now (desc_in c.args.named.desc.now) c.field_in.result c.requires.same
    (subst DoNamesDiffer (c.classes.ensures ∙ ap program c.self.view_is) c.names_differ.ensures) c.requires.there c.requires.within c.requires.is c.field_in.ensures in
    none-some first.first (sym c.in-None.is ∙ first.is)

pub returns : goal.returns
returns c =
    let first = first_field_named c.args.directory.now.program c.args.self.now.program c.args.place c.args.named.name.now (desc_in c.args.named.desc.now) c.field_in.result c.requires.same
    (subst DoNamesDiffer (c.classes.ensures ∙ ap program c.self.view_is) c.names_differ.ensures) c.requires.there c.requires.within c.requires.is c.field_in.ensures in
    let same = same_Some c.in-Some.first first.first (sym c.in-Some.is ∙ first.is) in
    ap Some c.field_id.ensures.number ∙ ap (λ (n : ℕ). Some (fields_before c.args.self.now.program c.args.place.class + n)) same ∙ sym first.numbered
