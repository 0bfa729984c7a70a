use Rattle.std.proofs.Common.{ℕ, ◌+◌, get_or, sym, ap, ◌∙◌, add-zero}
use Rattle.dj_declarations.specs.declared.members.MemberBody.TheVariants.{Empty}
use Rattle.dj_declarations.specs.declared.members.MemberRow.{MemberRow}
use Rattle.dj_declarations.proofs.CountLaws.{counted_more, one_counted, none_counted}
use Rattle.dj_declarations.proofs.members.instance_counts_of.Goals as goal
use Rattle.dj_declarations.proofs.members.instance_counts_of.Goals.{then-row-eq0+in-Some, else-row-eq0}

pub loop-row-preserved : goal.loop-row-preserved
loop-row-preserved c =
    let none : MemberRow = record { flags = 0; name = 0; desc = 0; body = Empty } in
    counted_more c.args.rows.now c.loop-row.row-index none c.loop-row.counts.items c.push.new.self.items c.loop-row.count c.if-row-eq0.count c.loop-row-test.true c.loop-row.invariant c.in_ok-push.ensures.items
    (elim c.if-row-eq0.branch [
      | then-row-eq0+in-Some w ↦
          w.count-is ∙ w.in-Some.ensures.1 ∙ ap (λ (n : ℕ). c.loop-row.count + n) (sym (one_counted (get_or c.args.rows.now c.loop-row.row-index none) w.if-row-eq0.true))
      | else-row-eq0 w ↦
          w.count-is ∙ sym (add-zero c.loop-row.count) ∙ ap (λ (n : ℕ). c.loop-row.count + n) (sym (none_counted (get_or c.args.rows.now c.loop-row.row-index none) w.if-row-eq0.false))
    ])
