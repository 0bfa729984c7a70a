use Rattle.std.proofs.Common.{arith}
use Rattle.std.proofs.lemmas.Option.{slice_get_within}
use Rattle.dj_numbering.specs.Members.{all_methods}
use Rattle.dj_image.specs.Imaged.{program_of}
use Rattle.dj_invocation.proofs.NativeFacts.{rows_more, rows_long}
use Rattle.dj_invocation.proofs.natives.Natives.of.Goals as goal

pub loop-number-preserved : goal.loop-number-preserved
loop-number-preserved c = record {
  long = rows_long c.loop-number.rows.items c.push.new.self.items c.in_ok-row_of.field-0 c.loop-number.number c.in_ok-push.ensures.items c.loop-number.invariant.long;
  rows = rows_more c.args.image.now c.loop-number.number c.loop-number.rows.items c.push.new.self.items c.in_ok-row_of.field-0 c.in_ok-push.ensures.items c.loop-number.invariant.long
      c.loop-number.invariant.rows (λ found id there body. c.in_ok-row_of.ensures found id there body);
}

pub returns : goal.returns
returns c = λ number found id there body.
    let within = slice_get_within (all_methods (program_of c.args.image.now)) number found there in
    c.loop-number.invariant.rows number found id (omega (arith, within, c.in_ok-count.ensures, c.loop-number-test.false)) there body
