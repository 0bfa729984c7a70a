use Rattle.std.proofs.Common.{◌<◌, length, sym, ◌∙◌, arith}
use Rattle.dj_resolution.proofs.Bits.{bits_learnt}
use Rattle.dj_resolution.proofs.Knowing.{known_learnt}
use Rattle.dj_resolution.proofs.Marks.{mark_at}
use Rattle.dj_resolution.proofs.above.Known.learn.Goals as goal

pub returns-in_ok-list-clause-known : goal.returns-in_ok-list-clause-known
returns-in_ok-list-clause-known c =
    let within : c.args.class < length c.args.self.now.marks.items = omega (arith, c.requires.there, c.requires.known.marks_count) in
    known_learnt c.args.table.now c.args.self.now.lists.items c.args.self.now.marks.items c.args.class c.in_ok-list.field-0.list c.requires.known c.requires.there
    (mark_at c.args.self.now.marks.items c.args.class c.index.result.now within c.index.ensures ∙ c.if-not-index.true) c.in_ok-list.ensures.list c.in_ok-list.ensures.enough

pub returns-in_ok-list-clause-bits : goal.returns-in_ok-list-clause-bits
returns-in_ok-list-clause-bits c =
    let within : c.args.class < length c.args.self.now.marks.items = omega (arith, c.requires.there, c.requires.known.marks_count) in
    bits_learnt c.args.self.now.lists.items c.args.self.now.rows.items c.args.self.now.marks.items c.args.class c.in_ok-list.field-0.list c.in_ok-list.field-0.bits c.requires.bits within
    (c.requires.known.lists_count ∙ sym c.requires.known.marks_count) c.in_ok-list.field-0.marked c.in_ok-list.ensures.bound
