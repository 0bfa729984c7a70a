use Rattle.std.proofs.Common.{subst, sym}
use Rattle.dj_effects.specs.Actions.{action_view}
use Rattle.dj_initialisation.specs.Preparing.{parts}
use Rattle.dj_initialisation.specs.Store.{store}
use Rattle.dj_image_step.specs.Begun.{Begins, with_heap}
use Rattle.dj_image_step.specs.Running.{IsRunning, Running}
use Rattle.dj_image_step.proofs.BegunLaws.{begins_so, begun_so, frugal_so}
use Rattle.dj_image_step.proofs.UnnamedLaws.{none_called, none_used, unnamed_at}
use Rattle.dj_image_step.proofs.unnamed.begin_turn.Goals as goal

pub begin-requires-clause-store : goal.begin-requires-clause-store
begin-requires-clause-store c =
    let running : IsRunning c.args.image.now _ = subst (IsRunning c.args.image.now) (sym c.run.view_is) c.requires.running in
    (c.run.inside.statics, c.run.inside.literals, running.store)

pub returns-in-Some-clause-begins : goal.returns-in-Some-clause-begins
returns-in-Some-clause-begins c =
    let r : Running = record { parts = parts c.run.inside.flags (store c.run.inside.heap c.run.inside.statics c.run.inside.literals) c.run.inside.frames; counter = c.run.inside.accounter; stop = c.run.inside.stop } in
    let running : IsRunning c.args.image.now r = subst (IsRunning c.args.image.now) (sym c.run.view_is) c.requires.running in
    subst (λ (old : Running). Begins c.args.image.now old (with_heap r c.begin.new.heap c.begin.new.frames) c.begin.result) c.run.view_is
    (begins_so c.args.image.now r c.requires.sound running c.top_of-top.result.method.number c.top_of-top.result.number c.top_of-top.ensures (action_view c.in-Some.action)
    (unnamed_at c.args.image.now c.top_of-top.result.method.number c.top_of-top.result.number c.instr_of.result.now c.instr_of.ensures.0 c.in-Some.action c.instr_of.ensures.1 c.in-Some.ensures)
    (none_used c.args.image.now c.in-Some.action) (none_called c.in-Some.action) c.begin.new.heap c.begin.new.frames c.begin.result c.begin.ensures.begins c.begin.ensures.known)

pub returns-in-Some-clause-begun : goal.returns-in-Some-clause-begun
returns-in-Some-clause-begun c = begun_so c.args.image.now c.args.run.now _ c.begin.result c.requires.running (returns-in-Some-clause-begins c)

pub returns-in-Some-clause-frugal : goal.returns-in-Some-clause-frugal
returns-in-Some-clause-frugal c = frugal_so c.args.image.now c.args.run.now _ c.begin.result c.requires.running (returns-in-Some-clause-begins c)
