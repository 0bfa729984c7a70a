use Rattle.std.proofs.Common.{◌≤◌, length, map, ap, arith}
use Rattle.std.proofs.lemmas.List.{length-map}
use Rattle.dj_member_index.specs.DirectoryRows.{method_named}
use Rattle.dj_member_index.proofs.GatherLaws.{method_at, next_member, class_done}
use Rattle.dj_member_index.proofs.gather.add_methods.Goals as goal

pub loop-place-init : goal.loop-place-init
loop-place-init c number members are is far = far

pub row_of-requires-clause-name : goal.row_of-requires-clause-name
row_of-requires-clause-name c =
    let found = method_at c.args.texts.now.methods c.loop-place.place c.args.texts.now.texts c.method-named.result.0 c.method-named.result.1
    (omega (arith, c.loop-place-test.true, c.in_ok-count.ensures, c.method_count.ensures)) c.method-named.ensures in
    let within = found.by.name_within in
    omega (arith, within, c.requires)

pub row_of-requires-clause-desc : goal.row_of-requires-clause-desc
row_of-requires-clause-desc c =
    let found = method_at c.args.texts.now.methods c.loop-place.place c.args.texts.now.texts c.method-named.result.0 c.method-named.result.1
    (omega (arith, c.loop-place-test.true, c.in_ok-count.ensures, c.method_count.ensures)) c.method-named.ensures in
    let within = found.by.desc_within in
    omega (arith, within, c.requires)

pub loop-place-preserved : goal.loop-place-preserved
loop-place-preserved c number members are is far =
    next_member number members c.args.texts.now.texts c.args.known.now (map method_named c.args.texts.now.methods) c.args.class c.loop-place.place c.method-named.result.0 c.method-named.result.1 c.loop-place.rows.items c.push.new.self.items c.row_of.result
    are is (method_at c.args.texts.now.methods c.loop-place.place c.args.texts.now.texts c.method-named.result.0 c.method-named.result.1
    (omega (arith, c.loop-place-test.true, c.in_ok-count.ensures, c.method_count.ensures)) c.method-named.ensures)
    c.row_of.ensures c.in_ok-push.ensures.items (c.loop-place.invariant number members are is far)

pub returns : goal.returns
returns c number members are is far =
    let many = length-map c.args.texts.now.methods method_named in
    let all = ap length is in
    let past : length (members c.args.class) ≤ c.loop-place.place = omega (arith, all, many, c.loop-place-test.false, c.in_ok-count.ensures, c.method_count.ensures) in
    class_done number members c.args.class c.loop-place.place c.loop-place.rows.items past (c.loop-place.invariant number members are is far)
