use Rattle.std.proofs.Common.{◌≡◌, ℕ, ◌+◌, ◌<◌, ◌≤◌, Bool, false, List, take, length, get_or, Result, Ok, Err, sym, ap, subst, ◌∙◌, arith}
use Rattle.std.specs.Global.{Vec}
use Rattle.std.proofs.lemmas.Result.{err_from_is_err_and}
use Rattle.std.proofs.lemmas.List.{get_or_default}
use Rattle.dj_ops.specs.declared.instruction.Instr.{Instr}
use Rattle.dj_labels.specs.declared.labelled.Protected.{Protected}
use Rattle.dj_program.specs.trusted.Naming.{instruction_in}
use Rattle.dj_image.specs.Imaged.{program_of}
use Rattle.dj_emit.specs.declared.error.EmitError.{EmitError}
use Rattle.dj_emit.specs.declared.parts.GroupPart.{GroupPart}
use Rattle.dj_emit.specs.Parts.{groups_seen}
use Rattle.dj_emit.specs.Arrivals.{handles}
use Rattle.dj_emit.specs.Filed.{groups_in, IsPartOf, ArePartsOf}
use Rattle.dj_emit.proofs.FiledFacts as facts
use Rattle.dj_emit.proofs.filed.parts_in.Goals as goal

pub group_part-requires-clause-known : goal.group_part-requires-clause-known
group_part-requires-clause-known c =
    let code = c.as_slice-code.ensures in
    let less = subst (λ (is : List Instr). c.loop-i.i < length is) code c.loop-i-test.true in
    facts.known_at (program_of c.args.image.now) c.args.pool.now c.args.labelled.now c.requires c.loop-i.i c.index-code-i.result less
    (c.index-code-i.is ∙ ap (λ (is : List Instr). get_or is c.loop-i.i c.index-code-i.result) code)

pub returns-in_err-part : goal.returns-in_err-part
returns-in_err-part c =
    let program = program_of c.args.image.now in
    let code = c.as_slice-code.ensures in
    let less = subst (λ (is : List Instr). c.loop-i.i < length is) code c.loop-i-test.true in
    let is = c.index-code-i.is ∙ ap (λ (is : List Instr). get_or is c.loop-i.i c.index-code-i.result) code in
    let here =
    c.index.ensures ∙ get_or_default c.in_ok-arrives.arrives.items c.loop-i.i c.index.result.now false (let e = c.in_ok-arrives.ensures.all in omega (arith, e, c.loop-i-test.true))
    ∙ c.in_ok-arrives.ensures.each c.loop-i.i c.loop-i-test.true ∙ ap (λ (rs : List Protected). handles rs c.loop-i.i) c.as_slice.ensures in
    let p = err_from_is_err_and c.from_residual-in_err-part.result c.from_residual-in_err-part.ensures.1 in
    let given : IsPartOf program (instruction_in c.args.pool.now c.index-code-i.result) c.loop-i.i c.index.result.now (Err p.0) =
    subst (λ (e : EmitError). IsPartOf program (instruction_in c.args.pool.now c.index-code-i.result) c.loop-i.i c.index.result.now (Err e)) (sym p.2) c.in_err-part.ensures in
    let refused = facts.refused_by program c.args.pool.now c.args.labelled.now c.requires c.loop-i.parts.items c.loop-i.i c.index-code-i.result c.index.result.now less is here c.loop-i.invariant p.0 given in
    subst (λ (r : Result (Vec GroupPart) EmitError). ArePartsOf (groups_in program c.args.pool.now c.args.labelled.now) r) (sym p.1) refused

pub loop-i-preserved : goal.loop-i-preserved
loop-i-preserved c =
    let code = c.as_slice-code.ensures in
    let less = subst (λ (is : List Instr). c.loop-i.i < length is) code c.loop-i-test.true in
    let is = c.index-code-i.is ∙ ap (λ (is : List Instr). get_or is c.loop-i.i c.index-code-i.result) code in
    let here =
    c.index.ensures ∙ get_or_default c.in_ok-arrives.arrives.items c.loop-i.i c.index.result.now false (let e = c.in_ok-arrives.ensures.all in omega (arith, e, c.loop-i-test.true))
    ∙ c.in_ok-arrives.ensures.each c.loop-i.i c.loop-i-test.true ∙ ap (λ (rs : List Protected). handles rs c.loop-i.i) c.as_slice.ensures in
    ap groups_seen c.in_ok-push.ensures.items
    ∙ facts.parts_more (program_of c.args.image.now) c.args.pool.now c.args.labelled.now c.requires c.loop-i.parts.items c.in_ok-part.part c.loop-i.i c.index-code-i.result c.index.result.now less is here
    c.loop-i.invariant c.in_ok-part.ensures

pub returns : goal.returns
returns c =
    let code = c.as_slice-code.ensures in
    let past = subst (λ (is : List Instr). length is ≤ c.loop-i.i) code (omega (arith, c.loop-i-test.false)) in
    facts.parts_whole (program_of c.args.image.now) c.args.pool.now c.args.labelled.now c.requires c.loop-i.parts.items c.loop-i.i past c.loop-i.invariant
