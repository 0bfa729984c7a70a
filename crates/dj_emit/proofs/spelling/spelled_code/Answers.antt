use Rattle.std.proofs.Common.{◌≡◌, ◌<◌, length, sym, ◌∙◌, arith}
use Rattle.dj_emit.proofs.SpellingFacts.{none_spelled, numbers_at, code_more}
use Rattle.dj_emit.proofs.spelling.spelled_code.Goals as goal

pub loop-i-init : goal.loop-i-init
loop-i-init c = c.in_ok-out.ensures ∙ sym (none_spelled c.args.first c.args.places.now.groups.items c.args.code.now)

pub put_group-requires-clause-numbers : goal.put_group-requires-clause-numbers
put_group-requires-clause-numbers c =
    let within : c.loop-i.i < length c.args.places.now.groups.items = omega (arith, c.loop-i-test.true, c.requires.same) in
    numbers_at c.args.places.now.groups.items c.args.code.now c.deref.result.now c.loop-i.i c.index-code-i.result within c.requires.same c.requires.numbers
    (c.deref.ensures.value ∙ c.requires.places.start) c.index-code-i.is

pub loop-i-preserved : goal.loop-i-preserved
loop-i-preserved c =
    let within : c.loop-i.i < length c.args.places.now.groups.items = omega (arith, c.loop-i-test.true, c.requires.same) in
    c.in_ok-put_group.ensures
    ∙ code_more c.args.first c.args.places.now.groups.items c.args.code.now c.deref.result.now c.loop-i.out c.loop-i.i c.index.result.now c.index-code-i.result within c.requires.same c.requires.numbers
    (c.deref.ensures.value ∙ c.requires.places.start) c.index.ensures c.index-code-i.is c.loop-i.invariant
