use Rattle.std.proofs.Common.{◌<◌, All, subst, arith}
use Rattle.std.proofs.lemmas.List.{take_all}
use Rattle.std.proofs.lemmas.List.Elements.{All-more, All-contains}
use Rattle.dj_report.specs.declared.report.Violation.{Violation}
use Rattle.dj_class_set.proofs.judging.breaks_hierarchy.Goals as goal

-- of a rule after 6
abbrev IsLater : Violation → Type 0
IsLater v = 6 < v.rule

pub loop-line-preserved : goal.loop-line-preserved
loop-line-preserved c =
    All-more IsLater c.args.lines.now c.loop-line.line-index c.line-item.result c.loop-line-test.true c.loop-line.invariant
    (subst IsLater c.line-item.is c.if-line-le-HIERARCHY.false)

pub returns : goal.returns
returns c = (
  λ t. absurd cc,
  λ (v, among, small).
      let all : All IsLater c.args.lines.now =
      subst (All IsLater) (take_all c.loop-line.line-index c.args.lines.now c.loop-line-test.false) c.loop-line.invariant in
      let later : 6 < v.rule = All-contains IsLater c.args.lines.now v all among in
      absurd (omega (arith, small, later)),
)
