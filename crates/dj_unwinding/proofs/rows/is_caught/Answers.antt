use Rattle.std.proofs.Common.{Some, None, ◌∙◌}
use Rattle.dj_model.specs.trusted.Program.{Range}
use Rattle.dj_program.specs.trusted.Codes.{range_in}
use Rattle.dj_unwinding.proofs.Catching.{row_reported, caught_is, caught_known}
use Rattle.dj_unwinding.proofs.Numbering.{caught_within, caught_reported}
use Rattle.dj_unwinding.proofs.rows.is_caught.Goals as goal

pub sub_type-requires-clause-second : goal.sub_type-requires-clause-second
sub_type-requires-clause-second c =
    let image = c.args.image.now in
    let has = c.requires.row in
    let range : Range = range_in has.is.reported.pool has.row in
    caught_within image range.catches c.in-Some.caught
    (caught_is image c.args.method.number c.args.row has (Some c.in-Some.caught) c.in-Some.ensures range (row_reported image c.args.method.number c.args.row has.row has.is))

pub returns-in-Some : goal.returns-in-Some
returns-in-Some c = λ range e some.
    let image = c.args.image.now in
    c.sub_type.ensures
    ∙ caught_reported image c.are_plain.ensures c.args.class c.requires.class range.catches (caught_known image c.requires.sound c.args.method.number c.args.row range e) some
    (Some c.in-Some.caught) (caught_is image c.args.method.number c.args.row c.requires.row (Some c.in-Some.caught) c.in-Some.ensures range e)

pub returns-in-None : goal.returns-in-None
returns-in-None c = λ range e some.
    let image = c.args.image.now in
    caught_reported image c.are_plain.ensures c.args.class c.requires.class range.catches (caught_known image c.requires.sound c.args.method.number c.args.row range e) some
    None (caught_is image c.args.method.number c.args.row c.requires.row None c.in-None.ensures range e)
