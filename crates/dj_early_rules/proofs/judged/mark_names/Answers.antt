use Rattle.dj_class.specs.Members.{member_of}
use Rattle.dj_early_rules.proofs.MarkedNames.{stay_same, stay_both, member_marked, none_marked, more_marked, all_marked}
use Rattle.dj_early_rules.proofs.judged.mark_names.Goals as goal

pub loop-member-init : goal.loop-member-init
loop-member-init c = record { stay = stay_same c.args.marks.now; own = none_marked c.args.members.now c.args.marks.now }

pub loop-member-preserved : goal.loop-member-preserved
loop-member-preserved c =
    let old = c.loop-member.marks in
    let mid = c.mark_index.new.marks in
    let new = c.mark_index-in-loop-member.new.marks in
    let stay = stay_both old mid new c.mark_index.ensures.stay c.mark_index-in-loop-member.ensures.stay in
    record {
      stay = stay_both c.args.marks.now old new c.loop-member.invariant.stay stay;
      own = more_marked c.args.members.now c.loop-member.member-index c.member-item.result old new c.loop-member-test.true c.member-item.is stay
          (member_marked old mid new (member_of c.member-item.result) c.mark_index.ensures.own c.mark_index-in-loop-member.ensures.stay c.mark_index-in-loop-member.ensures.own)
          c.loop-member.invariant.own;
    }

pub returns-clause-stay : goal.returns-clause-stay
returns-clause-stay c = c.loop-member.invariant.stay

pub returns-clause-own : goal.returns-clause-own
returns-clause-own c = all_marked c.args.members.now c.loop-member.member-index c.loop-member.marks c.loop-member-test.false c.loop-member.invariant.own
