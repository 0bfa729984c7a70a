use Rattle.std.proofs.Common.{arith}
use Rattle.dj_member_index.proofs.GatherLaws.{none_numbered, numbered_more, all_numbered}
use Rattle.dj_member_index.proofs.gather.number_texts.Goals as goal

pub loop-place-init : goal.loop-place-init
loop-place-init c = none_numbered c.args.numbers.now c.args.texts.now.texts c.in_ok-known.known.items c.in_ok-known.ensures.items c.requires

pub number_text-requires : goal.number_text-requires
number_text-requires c = c.loop-place.invariant.different

pub loop-place-preserved : goal.loop-place-preserved
loop-place-preserved c =
    numbered_more c.args.numbers.now c.loop-place.numbers c.number_text.new.numbers c.args.texts.now.texts c.loop-place.place c.loop-place.known.items c.push.new.self.items c.text.result.now c.in_ok-number.number
    c.loop-place.invariant c.text.ensures c.in_ok-number.ensures c.in_ok-push.ensures.items

pub returns : goal.returns
returns c =
    all_numbered c.args.numbers.now c.loop-place.numbers c.args.texts.now.texts c.loop-place.place c.loop-place.known.items (omega (arith, c.loop-place-test.false, c.loop-place.auto.place-end, c.count-count.ensures)) c.loop-place.invariant
