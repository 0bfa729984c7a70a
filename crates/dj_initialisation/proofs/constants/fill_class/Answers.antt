use Rattle.std.proofs.Common.{ap, subst, length}
use Rattle.std.specs.Option.{option_map}
use Rattle.dj_class_table.specs.Tables.{fields_at}
use Rattle.dj_numbering.specs.Members.{fields_before, number_of_field}
use Rattle.dj_image.specs.Imaged.{program_of}
use Rattle.dj_initialisation.specs.declared.filled.Filled.{Filled}
use Rattle.dj_initialisation.specs.Store.{FillsField, class_constants, store}
use Rattle.dj_initialisation.proofs.FieldLaws.{class_end, class_full, class_on, field_reported, number_within, unreported_if}
use Rattle.dj_initialisation.proofs.constants.fill_class.Goals as goal

pub returns-in_default : goal.returns-in_default
returns-in_default c =
    let program = program_of c.args.image.now in
    class_end c.args.image.now c.args.class c.loop-at.at (class_constants c.args.image.now c.args.class) (store c.args.heap.now c.args.statics.now c.args.literals.now)
    (store c.loop-at.heap c.loop-at.statics c.loop-at.literals)
    (unreported_if c.loop-at.at (length (fields_at program c.args.class)) (fields_before program c.args.class) _ c.field_at.ensures (ap (option_map number_of_field) c.in_default.is)) c.loop-at.invariant

pub fill_field-requires-clause-there : goal.fill_field-requires-clause-there
fill_field-requires-clause-there c =
    let program = program_of c.args.image.now in
    number_within program c.args.class c.loop-at.at c.in-Some.field.number
    (field_reported program c.args.class c.loop-at.at _ c.field_at.ensures c.in-Some.field.number (ap (option_map number_of_field) c.in-Some.is))

pub returns-in-HeapFull : goal.returns-in-HeapFull
returns-in-HeapFull c =
    let image = c.args.image.now in
    let now = store c.loop-at.heap c.loop-at.statics c.loop-at.literals in
    let after = store c.fill_field.new.heap c.fill_field.new.statics c.fill_field.new.literals in
    let f = field_reported (program_of image) c.args.class c.loop-at.at _ c.field_at.ensures c.in-Some.field.number (ap (option_map number_of_field) c.in-Some.is) in
    class_full image c.args.class c.loop-at.at c.in-Some.field.number (class_constants image c.args.class) (store c.args.heap.now c.args.statics.now c.args.literals.now) now after
    c.in-HeapFull.used c.in-HeapFull.size f c.loop-at.invariant
    (subst (λ (filled : Filled). FillsField image c.in-Some.field.number now after filled) c.in-HeapFull.is c.in_ok-filled.ensures)

pub loop-at-preserved : goal.loop-at-preserved
loop-at-preserved c =
    let image = c.args.image.now in
    let now = store c.loop-at.heap c.loop-at.statics c.loop-at.literals in
    let after = store c.fill_field.new.heap c.fill_field.new.statics c.fill_field.new.literals in
    let f = field_reported (program_of image) c.args.class c.loop-at.at _ c.field_at.ensures c.in-Some.field.number (ap (option_map number_of_field) c.in-Some.is) in
    class_on image c.args.class c.loop-at.at c.in-Some.field.number (class_constants image c.args.class) (store c.args.heap.now c.args.statics.now c.args.literals.now) now after
    f c.loop-at.invariant
    (subst (λ (filled : Filled). FillsField image c.in-Some.field.number now after filled) c.in-Done.is c.in_ok-filled.ensures)
