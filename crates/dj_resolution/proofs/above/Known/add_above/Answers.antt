use Rattle.std.proofs.Common.{◌<◌, length, sym, ◌∙◌, arith}
use Rattle.dj_resolution.specs.Numbers.{lists_of}
use Rattle.dj_resolution.proofs.Bits.{alone_new, below_words, bits_row}
use Rattle.dj_resolution.proofs.Marks.{listed_row_below, mark_at}
use Rattle.dj_resolution.proofs.above.Known.add_above.Goals as goal

pub returns-then-has_all-clause-list : goal.returns-then-has_all-clause-list
returns-then-has_all-clause-list c =
    alone_new (lists_of c.args.self.now.lists.items) (lists_of c.args.self.now.rows.items) c.args.self.now.marks.items c.args.numbers.now.list.items c.add.new.self.list.items c.deref.result.now c.args.class c.requires.bits
    (mark_at c.args.self.now.marks.items c.args.class c.index.result.now c.requires.there c.index.ensures ∙ c.if-not-index.false)
    (sym c.has.ensures ∙ c.if-has.false) c.in_ok-add.ensures.list
    (bits_row (lists_of c.args.self.now.lists.items) c.args.self.now.rows.items c.args.self.now.marks.items c.args.class c.index-2.result.now c.deref.result.now c.requires.bits c.requires.there c.index-2.ensures c.deref.ensures.value)
    (c.has_all.ensures c.if-has_all.true)

pub add_all-requires : goal.add_all-requires
add_all-requires c =
    let within : c.args.class < length c.args.self.now.lists.items = omega (arith, c.requires.lists, c.requires.there) in
    below_words (length c.args.self.now.marks.items) (length c.add.new.self.bits.items) c.deref-2.result.now
    (listed_row_below (length c.args.self.now.marks.items) c.args.self.now.lists.items c.args.class c.index-3.result.now c.deref-2.result.now within c.index-3.ensures c.deref-2.ensures.value
    (c.requires.below c.args.class (mark_at c.args.self.now.marks.items c.args.class c.index.result.now c.requires.there c.index.ensures ∙ c.if-not-index.false)))
    (c.in_ok-add.ensures.bound ∙ c.requires.bound)
