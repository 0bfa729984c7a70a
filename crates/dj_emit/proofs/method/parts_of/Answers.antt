use Rattle.std.proofs.Common.{◌≡◌, ◌<◌, ◌≤◌, List, length, get_or, ap, ◌∙◌, arith}
use Rattle.std.proofs.lemmas.Result.{err_from_is_err_and}
use Rattle.dj_ops.specs.declared.instruction.Instr.{Instr}
use Rattle.dj_emit.specs.declared.parts.GroupPart.{GroupPart}
use Rattle.dj_emit.specs.Parts.{groups_seen}
use Rattle.dj_emit.specs.Arrivals.{handles}
use Rattle.dj_emit.proofs.WholeFacts.{stands_at, arrives_here, parts_more, parts_whole, refused_at}
use Rattle.dj_emit.proofs.method.parts_of.Goals as goal

pub group_part-requires : goal.group_part-requires
group_part-requires c =
    let i = c.loop-i.i in
    let instr = c.index-code-i.result in
    let less : i < length c.args.labelled.now.code = omega (arith, c.loop-i-test.true, ap length c.as_slice-code.ensures) in
    let is : instr ≡ get_or c.args.labelled.now.code i instr = c.index-code-i.is ∙ ap (λ (xs : List Instr). get_or xs i instr) c.as_slice-code.ensures in
    stands_at c.args.image.now c.args.method.number c.args.labelled.now c.requires i instr less is

pub returns-in_err-part : goal.returns-in_err-part
returns-in_err-part c =
    let i = c.loop-i.i in
    let instr = c.index-code-i.result in
    let labelled = c.args.labelled.now in
    let less : i < length c.args.labelled.now.code = omega (arith, c.loop-i-test.true, ap length c.as_slice-code.ensures) in
    let is : instr ≡ get_or c.args.labelled.now.code i instr = c.index-code-i.is ∙ ap (λ (xs : List Instr). get_or xs i instr) c.as_slice-code.ensures in
    let here : c.index.result.now ≡ handles c.args.labelled.now.ranges i =
    arrives_here c.args.image.now c.args.method.number labelled c.requires c.in_ok-arrives.arrives.items (length c.as_slice-code.result.now) c.as_slice.result.now i c.index.result.now c.in_ok-arrives.ensures c.as_slice.ensures c.loop-i-test.true
    c.index.ensures in
    let p = err_from_is_err_and c.from_residual-in_err-part.result c.from_residual-in_err-part.ensures.1 in
    rw (p.1, p.2)
    (refused_at c.args.image.now c.args.method.number labelled c.requires c.loop-i.parts.items i instr c.index.result.now c.in_err-part.field-0.0 less is here c.loop-i.invariant c.in_err-part.ensures)

pub loop-i-preserved : goal.loop-i-preserved
loop-i-preserved c =
    let i = c.loop-i.i in
    let instr = c.index-code-i.result in
    let labelled = c.args.labelled.now in
    let less : i < length c.args.labelled.now.code = omega (arith, c.loop-i-test.true, ap length c.as_slice-code.ensures) in
    let is : instr ≡ get_or c.args.labelled.now.code i instr = c.index-code-i.is ∙ ap (λ (xs : List Instr). get_or xs i instr) c.as_slice-code.ensures in
    let here : c.index.result.now ≡ handles c.args.labelled.now.ranges i =
    arrives_here c.args.image.now c.args.method.number labelled c.requires c.in_ok-arrives.arrives.items (length c.as_slice-code.result.now) c.as_slice.result.now i c.index.result.now c.in_ok-arrives.ensures c.as_slice.ensures c.loop-i-test.true
    c.index.ensures in
    ap (λ (ps : List GroupPart). groups_seen ps) c.in_ok-push.ensures.items
    ∙ parts_more c.args.image.now c.args.method.number labelled c.requires c.loop-i.parts.items c.in_ok-part.part i instr c.index.result.now less is here c.loop-i.invariant c.in_ok-part.ensures

pub returns : goal.returns
returns c =
    parts_whole c.args.image.now c.args.method.number c.args.labelled.now c.requires c.loop-i.parts.items c.loop-i.i (omega (arith, c.loop-i-test.false, ap length c.as_slice-code.ensures)) c.loop-i.invariant
