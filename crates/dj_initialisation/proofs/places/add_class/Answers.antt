use Rattle.std.proofs.Common.{ℕ, ◌+◌, ap, ◌∙◌}
use Rattle.std.specs.Option.{option_map}
use Rattle.dj_class_table.specs.Tables.{fields_at}
use Rattle.dj_numbering.specs.Members.{number_of_field}
use Rattle.dj_image.specs.Imaged.{program_of}
use Rattle.dj_initialisation.specs.Places.{one_if_static}
use Rattle.dj_initialisation.proofs.FieldLaws.{field_reported, number_within, same_flags}
use Rattle.dj_initialisation.proofs.PlaceLaws.{counted_more}
use Rattle.dj_initialisation.proofs.places.add_class.Goals as goal

pub field-requires : goal.field-requires
field-requires c =
    let program = program_of c.args.image.now in
    number_within program c.args.class c.loop-at.at c.in-Some.field.number
    (field_reported program c.args.class c.loop-at.at _ c.field_at.ensures c.in-Some.field.number (ap (option_map number_of_field) c.in-Some.is))

pub loop-at-preserved : goal.loop-at-preserved
loop-at-preserved c =
    let program = program_of c.args.image.now in
    let f = field_reported program c.args.class c.loop-at.at _ c.field_at.ensures c.in-Some.field.number (ap (option_map number_of_field) c.in-Some.is) in
    counted_more (fields_at program c.args.class) c.loop-at.at f.field c.args.each.now.items c.loop-at.each.items c.push.new.self.items c.args.before c.loop-at.count c.in_ok-count.count
    f.stands c.loop-at.invariant c.in_ok-push.ensures.items
    (c.in_ok-count.ensures ∙ ap (λ (n : ℕ). c.loop-at.count + one_if_static n) (same_flags c.args.image.now c.args.class c.loop-at.at c.in-Some.field.number c.field.result f c.field.ensures))
