use Rattle.std.proofs.Common.{◌≡◌, Some, subst, sym, ◌∙◌}
use Rattle.std.specs.Prelude.{IfOk}
use Rattle.dj_model.specs.trusted.Instructions.{Instruction}
use Rattle.dj_current_method.specs.Instructions.{instruction_of_number}
use Rattle.dj_initialisation.specs.Preparing.{parts}
use Rattle.dj_initialisation.specs.Store.{store}
use Rattle.dj_initialisation.specs.declared.prepare.Prepared.TheVariants as prepares
use Rattle.dj_initialisation.proofs.PrepareLaws.{prepared_already}
use Rattle.dj_image_step.specs.Running.{IsRunning, Running}
use Rattle.dj_image_step.specs.Doing.{IsUsed, PreparesNext}
use Rattle.dj_image_step.specs.Frugal.{IsFrugalRun}
use Rattle.dj_image_step.proofs.Prepared.{prepared_class, prepared_then}
use Rattle.dj_image_step.proofs.SoundRuns.{loads_at, never_waits, next_makes_none}
use Rattle.dj_image_step.proofs.preparing.prepare.Goals as goal

pub returns-in_err-class-clause-frugal : goal.returns-in_err-class-clause-frugal
returns-in_err-class-clause-frugal c = λ n.
    let image = c.args.image.now in
    let v : Running = record { parts = parts c.run.inside.flags (store c.run.inside.heap c.run.inside.statics c.run.inside.literals) c.run.inside.frames; counter = c.run.inside.accounter; stop = c.run.inside.stop } in
    let running : IsRunning image v = subst (IsRunning image) (sym c.run.view_is) c.requires.running in
    let next = next_makes_none image v c.top_of-top.result.method.number c.top_of-top.result.number c.top_of-top.ensures (subst (IsFrugalRun image) (sym c.run.view_is) n) in
    absurd (c.in_err-class.ensures.frugal next.0 next.1 next.2
    (loads_at image c.requires.kept.bounded v c.top_of-top.result.method.number c.top_of-top.result.number running c.top_of-top.ensures))

pub returns-then-has_begun-clause-prepares : goal.returns-then-has_begun-clause-prepares
returns-then-has_begun-clause-prepares c =
    let image = c.args.image.now in
    let v : Running = record { parts = parts c.run.inside.flags (store c.run.inside.heap c.run.inside.statics c.run.inside.literals) c.run.inside.frames; counter = c.run.inside.accounter; stop = c.run.inside.stop } in
    let running : IsRunning image v = subst (IsRunning image) (sym c.run.view_is) c.requires.running in
    let used : (i : Instruction) → instruction_of_number image c.top_of-top.result.method.number c.top_of-top.result.number ≡ Some i → IsUsed image i (Some c.in-Some.class) =
    λ i reported. subst (IsUsed image i) c.in-Some.is (c.in_ok-class.ensures.used i reported) in
    let within = (used c.top_of-top.ensures.stands.instruction c.top_of-top.ensures.stands.at).0 in
    subst (λ (r : Running). PreparesNext image r r prepares.Ready) c.run.view_is
    (prepared_class image v c.top_of-top.result.method.number c.top_of-top.result.number c.in-Some.class v.parts prepares.Ready running c.top_of-top.ensures used
    (prepared_already image c.in-Some.class v.parts.flags v.parts.store v.parts.frames c.requires.kept.sound.formed within running.flags running.store (sym c.has_begun.ensures ∙ c.if-has_begun.true)) running.known)

pub returns-else-has_begun-clause-prepares : goal.returns-else-has_begun-clause-prepares
returns-else-has_begun-clause-prepares c =
    let v : Running = record { parts = parts c.run.inside.flags (store c.run.inside.heap c.run.inside.statics c.run.inside.literals) c.run.inside.frames; counter = c.run.inside.accounter; stop = c.run.inside.stop } in
    let after = parts c.initialise.new.flags (store c.initialise.new.heap c.initialise.new.statics c.initialise.new.literals) c.initialise.new.frames in
    let running : IsRunning c.args.image.now v = subst (IsRunning c.args.image.now) (sym c.run.view_is) c.requires.running in
    subst (λ (r : Running). IfOk c.initialise.result (PreparesNext c.args.image.now r (record v { parts = after }))) c.run.view_is
    (prepared_then c.args.image.now v c.top_of-top.result.method.number c.top_of-top.result.number c.in-Some.class after c.initialise.result running c.top_of-top.ensures
    (λ i reported. subst (IsUsed c.args.image.now i) c.in-Some.is (c.in_ok-class.ensures.used i reported)) c.initialise.ensures.prepares (c.initialise.ensures.known running.known))

pub returns-else-has_begun-clause-frugal : goal.returns-else-has_begun-clause-frugal
returns-else-has_begun-clause-frugal c = λ n.
    let image = c.args.image.now in
    let v : Running = record { parts = parts c.run.inside.flags (store c.run.inside.heap c.run.inside.statics c.run.inside.literals) c.run.inside.frames; counter = c.run.inside.accounter; stop = c.run.inside.stop } in
    absurd (never_waits image c.requires.kept.sound.formed v c.top_of-top.result.method.number c.top_of-top.result.number c.in-Some.class c.top_of-top.ensures
    (λ i reported. subst (IsUsed image i) c.in-Some.is (c.in_ok-class.ensures.used i reported)) (sym c.has_begun.ensures ∙ c.if-has_begun.false) (subst (IsFrugalRun image) (sym c.run.view_is) n))
