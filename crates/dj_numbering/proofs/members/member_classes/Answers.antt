use Rattle.std.proofs.Common.{length, ap, ◌∙◌, arith}
use Rattle.std.proofs.lemmas.List.{length_push}
use Rattle.dj_numbering.proofs.Starts.{begun_later, homes_more}
use Rattle.dj_numbering.proofs.members.member_classes.Goals as goal

pub place_in-requires-clause-begun : goal.place_in-requires-clause-begun
place_in-requires-clause-begun c = begun_later c.args.starts.now c.loop-number.number (c.requires.begun (let some = c.loop-number-test.true in omega (arith, some)))

pub loop-number-preserved : goal.loop-number-preserved
loop-number-preserved c =
    let long = c.loop-number.invariant.long in
    let count = ap length c.in_ok-push.ensures.items ∙ length_push c.loop-number.classes.items c.place_in.result.class in
    record {
      long = omega (arith, long, count);
      homes =
          homes_more c.args.starts.now c.loop-number.classes.items c.push.new.self.items c.loop-number.number c.place_in.result long
          c.loop-number.invariant.homes c.place_in.ensures c.in_ok-push.ensures.items;
    }
