use Rattle.std.proofs.Common.{Some}
use Rattle.dj_model.specs.trusted.Program.{Text}
use Rattle.dj_member_effects.specs.Literals.{text_at}
use Rattle.dj_initialisation.specs.Store.{Fills, FillsConstant, one_constant, store}
use Rattle.dj_initialisation.proofs.Members.{if_ok_map}
use Rattle.dj_initialisation.proofs.StoreLaws.{text_constant, text_known}
use Rattle.dj_initialisation.proofs.FieldLaws.{nothing_set}
use Rattle.dj_initialisation.proofs.constants.set_constant.Goals as goal

pub set_text-requires-clause-known : goal.set_text-requires-clause-known
set_text-requires-clause-known c = text_known c.args.image.now c.args.field.number c.in-Text.text c.in-Text.ensures

pub returns-in-Text : goal.returns-in-Text
returns-in-Text c =
    let image = c.args.image.now in
    let before = store c.args.heap.now c.args.statics.now c.args.literals.now in
    let after = store c.set_text.new.heap c.set_text.new.statics c.set_text.new.literals in
    if_ok_map c.set_text.result (λ filled. Fills image (one_constant image c.args.place (Some (Text (text_at image.texts c.in-Text.text)))) before after filled)
    (λ filled. FillsConstant image c.args.place c.args.field.number before after filled)
    (λ filled fills. text_constant image c.args.field.number c.args.place c.in-Text.text c.constant.result before after filled c.constant.ensures c.in-Text.is fills)
    c.set_text.ensures

pub returns-in_default : goal.returns-in_default
returns-in_default c =
    nothing_set c.args.image.now c.args.field.number c.args.place c.constant.result (store c.args.heap.now c.args.statics.now c.args.literals.now) c.constant.ensures
    c.in_default.not-Int c.in_default.not-Long c.in_default.not-Text c.requires.texts c.requires.are
