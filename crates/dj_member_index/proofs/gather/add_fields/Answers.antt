use Rattle.std.proofs.Common.{◌≤◌, length, map, ap, arith}
use Rattle.std.proofs.lemmas.List.{length-map}
use Rattle.dj_member_index.specs.DirectoryRows.{field_named}
use Rattle.dj_member_index.proofs.GatherLaws.{field_at, next_member, class_done}
use Rattle.dj_member_index.proofs.gather.add_fields.Goals as goal

pub loop-place-init : goal.loop-place-init
loop-place-init c number members are is far = far

pub row_of-requires-clause-name : goal.row_of-requires-clause-name
row_of-requires-clause-name c =
    let found = field_at c.args.texts.now.fields c.loop-place.place c.args.texts.now.texts c.field-named.result.0 c.field-named.result.1
    (omega (arith, c.loop-place-test.true, c.in_ok-count.ensures, c.field_count.ensures)) c.field-named.ensures in
    let within = found.by.name_within in
    omega (arith, within, c.requires)

pub row_of-requires-clause-desc : goal.row_of-requires-clause-desc
row_of-requires-clause-desc c =
    let found = field_at c.args.texts.now.fields c.loop-place.place c.args.texts.now.texts c.field-named.result.0 c.field-named.result.1
    (omega (arith, c.loop-place-test.true, c.in_ok-count.ensures, c.field_count.ensures)) c.field-named.ensures in
    let within = found.by.desc_within in
    omega (arith, within, c.requires)

pub loop-place-preserved : goal.loop-place-preserved
loop-place-preserved c number members are is far =
    next_member number members c.args.texts.now.texts c.args.known.now (map field_named c.args.texts.now.fields) c.args.class c.loop-place.place c.field-named.result.0 c.field-named.result.1 c.loop-place.rows.items c.push.new.self.items c.row_of.result
    are is (field_at c.args.texts.now.fields c.loop-place.place c.args.texts.now.texts c.field-named.result.0 c.field-named.result.1
    (omega (arith, c.loop-place-test.true, c.in_ok-count.ensures, c.field_count.ensures)) c.field-named.ensures)
    c.row_of.ensures c.in_ok-push.ensures.items (c.loop-place.invariant number members are is far)

pub returns : goal.returns
returns c number members are is far =
    let many = length-map c.args.texts.now.fields field_named in
    let all = ap length is in
    let past : length (members c.args.class) ≤ c.loop-place.place = omega (arith, all, many, c.loop-place-test.false, c.in_ok-count.ensures, c.field_count.ensures) in
    class_done number members c.args.class c.loop-place.place c.loop-place.rows.items past (c.loop-place.invariant number members are is far)
