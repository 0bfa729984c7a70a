use Rattle.std.proofs.Common.{◌≡◌, Some, subst, sym}
use Rattle.std.specs.Prelude.{Ok, IfOk}
use Rattle.dj_names.specs.declared.run.Outcome.TheVariants as outcomes
use Rattle.dj_model.specs.trusted.State.{Goes, Next, End}
use Rattle.dj_natives.specs.Calls.{flow_reported, given}
use Rattle.dj_natives.specs.declared.answer.NativeAnswer.{NativeAnswer}
use Rattle.dj_image.specs.Imaged.{program_of}
use Rattle.dj_settling.specs.declared.settled.Settled.TheVariants as settles
use Rattle.dj_settling.specs.Settling.{Settles, native_settled}
use Rattle.dj_settling.proofs.WayLaws.{as_ended, as_native}
use Rattle.dj_settling.proofs.native.settle_native.Goals as goal

pub returns-in-Nothing-clause-settles : goal.returns-in-Nothing-clause-settles
returns-in-Nothing-clause-settles c = λ flow e.
    let image = c.args.image.now in
    subst (λ (answer : NativeAnswer). flow_reported c.args.id c.args.args.now answer ≡ Some flow
    → IfOk c.go_next.result (λ settled. Settles image c.args.exceeded (native_settled (program_of image) image.prefix (given answer) flow) c.args.heap.now c.args.heap.now c.args.frames.now c.go_next.new.frames settled))
    (sym c.in-Nothing.is)
    (λ reported. as_native image c.args.exceeded flow (Goes Next) c.args.heap.now c.args.heap.now c.args.frames.now c.go_next.new.frames c.go_next.result (c.go_next.ensures.settles c.args.exceeded) reported) e

pub returns-in-Full-clause-settles : goal.returns-in-Full-clause-settles
returns-in-Full-clause-settles c = λ flow e.
    let image = c.args.image.now in
    let outcome = outcomes.HeapFull c.in-Full.used c.in-Full.size in
    subst (λ (answer : NativeAnswer). flow_reported c.args.id c.args.args.now answer ≡ Some flow
    → Settles image c.args.exceeded (native_settled (program_of image) image.prefix (given answer) flow) c.args.heap.now c.args.heap.now c.args.frames.now c.args.frames.now (settles.Ended outcome))
    (sym c.in-Full.is)
    (λ reported. as_native image c.args.exceeded flow (End outcome) c.args.heap.now c.args.heap.now c.args.frames.now c.args.frames.now (Ok (settles.Ended outcome))
    (as_ended image c.args.exceeded outcome c.args.heap.now c.args.frames.now c.requires.some c.requires.known c.requires.stand) reported) e
