use Rattle.std.proofs.Common.{map, refl, arith}
use Rattle.dj_class.specs.Members.{member_of}
use Rattle.dj_early_rules.specs.Gathered.{names_of}
use Rattle.dj_early_rules.proofs.RepeatLaws.{one_more_seen, seen_again, none_again, names_at, names_length}
use Rattle.dj_early_rules.proofs.repeats.has_again.Goals as goal

pub returns-then-not-new : goal.returns-then-not-new
returns-then-not-new c = (
  λ t.
      seen_again (names_of c.args.texts.now (map member_of c.args.members.now)) c.loop-member.member-index c.names_of.result c.in_ok-new.new c.loop-member.seen
      (names_at c.args.texts.now c.args.members.now c.loop-member.member-index c.member-item.result c.names_of.result c.loop-member-test.true c.member-item.is c.names_of.ensures)
      c.in_ok-new.ensures.added c.if-not-new.true c.loop-member.invariant,
  λ again. refl,
)

pub loop-member-preserved : goal.loop-member-preserved
loop-member-preserved c =
    one_more_seen (names_of c.args.texts.now (map member_of c.args.members.now)) c.loop-member.member-index c.names_of.result c.in_ok-new.new c.loop-member.seen c.insert.new.self
    (names_at c.args.texts.now c.args.members.now c.loop-member.member-index c.member-item.result c.names_of.result c.loop-member-test.true c.member-item.is c.names_of.ensures)
    c.in_ok-new.ensures.added c.if-not-new.false (λ q. c.in_ok-new.ensures.updates.0 q) c.loop-member.invariant

pub returns : goal.returns
returns c =
    let many = names_length c.args.texts.now c.args.members.now in
    let past = c.loop-member-test.false in (
      λ t. absurd cc,
      λ again. absurd (none_again (names_of c.args.texts.now (map member_of c.args.members.now)) c.loop-member.member-index c.loop-member.seen (omega (arith, many, past)) c.loop-member.invariant again),
    )
