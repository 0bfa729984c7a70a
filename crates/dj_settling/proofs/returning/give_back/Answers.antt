use Rattle.std.proofs.Common.{subst}
use Rattle.dj_image.specs.Imaged.{program_of}
use Rattle.dj_unwinding.specs.Returns.{IsReturned}
use Rattle.dj_settling.proofs.FrugalLaws.{never_last}
use Rattle.dj_settling.proofs.WayLaws.{went_back, last_ended}
use Rattle.dj_settling.proofs.returning.give_back.Goals as goal

pub returns-in-Back-clause-settles : goal.returns-in-Back-clause-settles
returns-in-Back-clause-settles c = λ exceeded.
    went_back c.args.image.now exceeded c.args.heap.now c.args.frames.now c.go_back.new.frames c.args.value c.requires.some
    (subst (IsReturned (program_of c.args.image.now) c.args.frames.now c.go_back.new.frames c.args.value) c.in-Back.is c.in_ok-go_back.ensures.reported)
    c.requires.known c.in_ok-go_back.ensures.stand

pub returns-in_ok-result_outcome-in-Last-clause-settles : goal.returns-in_ok-result_outcome-in-Last-clause-settles
returns-in_ok-result_outcome-in-Last-clause-settles c = λ exceeded.
    last_ended c.args.image.now exceeded c.args.heap.now c.args.frames.now c.go_back.new.frames c.args.value c.in_ok-result_outcome-in-Last.field-0 c.requires.some
    (subst (IsReturned (program_of c.args.image.now) c.args.frames.now c.go_back.new.frames c.args.value) c.in-Last.is c.in_ok-go_back.ensures.reported)
    c.in_ok-result_outcome-in-Last.ensures c.requires.known c.in_ok-go_back.ensures.stand

pub returns-in_err-result_outcome-in-Last-clause-frugal : goal.returns-in_err-result_outcome-in-Last-clause-frugal
returns-in_err-result_outcome-in-Last-clause-frugal c = λ frugal.
    absurd (never_last (program_of c.args.image.now) c.args.frames.now c.go_back.new.frames c.args.value frugal
    (subst (IsReturned (program_of c.args.image.now) c.args.frames.now c.go_back.new.frames c.args.value) c.in-Last.is c.in_ok-go_back.ensures.reported))
