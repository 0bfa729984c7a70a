use Rattle.std.proofs.Common.{◌<◌, List, [], ◌∷◌, ◌++◌, length, ap₂, sym, ◌∙◌, arith}
use Rattle.dj_class.specs.trusted.ClassFile.{MemberInfo}
use Rattle.dj_rewrite.proofs.NewMembers.{fields_more, fields_all}
use Rattle.dj_rewrite.proofs.members.fields_with.Goals as goal

pub loop-i-preserved : goal.loop-i-preserved
loop-i-preserved c =
    let less : c.loop-i.i < length c.args.descs.now = omega arith in
    c.in_ok-push.ensures.ok ∙ ap₂ (λ (old : List MemberInfo) (m : MemberInfo). old ++ m ∷ []) c.loop-i.invariant c.in_ok-new.ensures
    ∙ sym (fields_more c.args.pool.now c.args.fields.now c.args.descs.now c.loop-i.i c.index-fields-i.result c.loop-i-test.true less c.index-fields-i.is)

pub returns : goal.returns
returns c = c.loop-i.invariant ∙ fields_all c.args.pool.now c.args.fields.now c.args.descs.now c.loop-i.i c.loop-i-test.false
