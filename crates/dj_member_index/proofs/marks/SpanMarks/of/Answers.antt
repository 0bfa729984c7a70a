use Rattle.std.proofs.Common.{ℕ, List, Option, IfSome, subst}
use Rattle.std.specs.Global.{Vec}
use Rattle.dj_member_index.specs.declared.rows.MemberRow.{MemberRow}
use Rattle.dj_member_index.specs.Spans.{AreNearest}
use Rattle.dj_member_index.proofs.marks.SpanMarks.of.Goals as goal

pub returns : goal.returns
returns c = record {
  marks_are = c.in_ok-marks.ensures;
  nearest_are = subst (λ (rows : List MemberRow). AreNearest c.args.spans.now rows c.in-Some.nearest.items) c.deref.ensures.value
      (subst (λ (o : Option (Vec (Option ℕ))). IfSome o (λ nearest. AreNearest c.args.spans.now c.deref.result.now nearest.items)) c.in-Some.is c.in_ok-nearest.ensures);
}
