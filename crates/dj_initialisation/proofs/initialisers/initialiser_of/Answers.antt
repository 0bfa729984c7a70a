use Rattle.std.proofs.Common.{sym, ap, ◌∙◌, length}
use Rattle.std.specs.Option.{option_map}
use Rattle.dj_class_table.specs.Tables.{methods_at}
use Rattle.dj_numbering.specs.Members.{methods_before, number_of_method}
use Rattle.dj_image.specs.Imaged.{program_of}
use Rattle.dj_initialisation.proofs.FieldLaws.{unreported_if}
use Rattle.dj_initialisation.proofs.InitialiserLaws.{found_so, method_number_within, method_reported, none_more, none_there, other_named}
use Rattle.dj_initialisation.proofs.initialisers.initialiser_of.Goals as goal

pub returns-in_default : goal.returns-in_default
returns-in_default c = λ lt.
    let program = program_of c.args.image.now in
    none_there program c.args.class c.loop-at.at c.requires.formed lt
    (unreported_if c.loop-at.at (length (methods_at program c.args.class)) (methods_before program c.args.class) _ c.method_at.ensures (ap (option_map number_of_method) c.in_default.is)) c.loop-at.invariant

pub method-member-requires : goal.method-member-requires
method-member-requires c =
    let program = program_of c.args.image.now in
    method_number_within program c.args.class c.loop-at.at c.in-Some.method.number
    (method_reported program c.args.class c.loop-at.at _ c.method_at.ensures c.in-Some.method.number (ap (option_map number_of_method) c.in-Some.is))

pub running-requires : goal.running-requires
running-requires c =
    let program = program_of c.args.image.now in
    method_number_within program c.args.class c.loop-at.at c.in-Some.method.number
    (method_reported program c.args.class c.loop-at.at _ c.method_at.ensures c.in-Some.method.number (ap (option_map number_of_method) c.in-Some.is))

pub returns-then-is_initialiser : goal.returns-then-is_initialiser
returns-then-is_initialiser c = λ lt.
    let program = program_of c.args.image.now in
    let m = method_reported program c.args.class c.loop-at.at _ c.method_at.ensures c.in-Some.method.number (ap (option_map number_of_method) c.in-Some.is) in
    found_so c.args.image.now c.args.class c.loop-at.at c.in-Some.method.number c.method-member.result c.running.result c.requires.formed m c.method-member.ensures
    (sym c.is_initialiser.ensures ∙ c.if-is_initialiser.true) c.running.ensures

pub loop-at-preserved : goal.loop-at-preserved
loop-at-preserved c =
    let program = program_of c.args.image.now in
    let m = method_reported program c.args.class c.loop-at.at _ c.method_at.ensures c.in-Some.method.number (ap (option_map number_of_method) c.in-Some.is) in
    none_more (methods_at program c.args.class) c.loop-at.at m.method m.stands
    (other_named c.args.image.now c.args.class c.loop-at.at c.in-Some.method.number c.method-member.result m c.method-member.ensures (sym c.is_initialiser.ensures ∙ c.if-is_initialiser.false))
    c.loop-at.invariant
