use Rattle.std.proofs.Common.{subst}
use Rattle.dj_member_effects.specs.Literals.{Keeps}
use Rattle.dj_member_effects.specs.declared.literals.Kept as keeping
use Rattle.dj_initialisation.proofs.StoreLaws.{text_set, text_full, units_reported}
use Rattle.dj_initialisation.proofs.constants.set_text.Goals as goal

pub returns-in-Object : goal.returns-in-Object
returns-in-Object c =
    text_set c.args.image.now c.string.result c.args.text c.args.place c.text.result.now c.args.heap.now c.keep_text.new.heap c.args.statics.now c.args.literals.now c.keep_text.new.literals
    c.string.ensures c.requires.texts (units_reported c.args.image.now.texts c.args.text c.text.result.now c.text.ensures) c.requires.known c.requires.are
    c.in-Object.r c.field_bits.result c.set.new.self
    (subst (λ (k : keeping.Kept). Keeps c.string.result c.args.text c.text.result.now c.args.heap.now c.keep_text.new.heap c.args.literals.now c.keep_text.new.literals k) c.in-Object.is c.in_ok-r.ensures)
    c.field_bits.ensures c.set.ensures

pub returns-in-HeapFull : goal.returns-in-HeapFull
returns-in-HeapFull c =
    text_full c.args.image.now c.string.result c.args.text c.args.place c.text.result.now c.args.heap.now c.keep_text.new.heap c.args.statics.now c.args.literals.now c.keep_text.new.literals
    c.string.ensures c.requires.texts (units_reported c.args.image.now.texts c.args.text c.text.result.now c.text.ensures) c.requires.known c.requires.are
    c.in-HeapFull.used c.in-HeapFull.size
    (subst (λ (k : keeping.Kept). Keeps c.string.result c.args.text c.text.result.now c.args.heap.now c.keep_text.new.heap c.args.literals.now c.keep_text.new.literals k) c.in-HeapFull.is c.in_ok-r.ensures)
