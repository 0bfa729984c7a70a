use Rattle.std.proofs.Common.{◌<◌, List, [], ◌∷◌, ◌++◌, length, ap₂, sym, ◌∙◌, arith}
use Rattle.dj_class.specs.trusted.ClassFile.{MemberInfo}
use Rattle.dj_rewrite.proofs.NewMembers.{methods_more, methods_all}
use Rattle.dj_rewrite.proofs.members.methods_with.Goals as goal

pub loop-i-preserved : goal.loop-i-preserved
loop-i-preserved c =
    let less : c.loop-i.i < length c.args.answers.now = omega arith in
    let few : c.loop-i.i < length c.args.descs.now = omega arith in
    c.in_ok-push.ensures.ok ∙ ap₂ (λ (old : List MemberInfo) (m : MemberInfo). old ++ m ∷ []) c.loop-i.invariant c.in_ok-new.ensures
    ∙ sym (methods_more c.args.methods.now c.args.answers.now c.args.descs.now c.loop-i.i c.index-methods-i.result c.index-answers-i.result c.loop-i-test.true less few c.index-methods-i.is c.index-answers-i.is)

pub returns : goal.returns
returns c = c.loop-i.invariant ∙ methods_all c.args.methods.now c.args.answers.now c.args.descs.now c.loop-i.i c.loop-i-test.false
