use Rattle.dj_step.proofs.StartLaws.{entry_holds, entry_runs}
use Rattle.dj_step.proofs.entry.entry_frames.Goals as goal

pub unreachable-requires : goal.unreachable-requires
unreachable-requires c = entry_runs c.args.image.now c.args.entry.number c.requires.sound c.requires.entry c.in_default.ensures

pub returns-clause-holds : goal.returns-clause-holds
returns-clause-holds c =
    entry_holds c.args.image.now c.args.entry.number c.requires.sound c.requires.entry c.in-Some.code.now c.in-Some.ensures _ _ c.set_local.new.self c.requires.method c.new-frames.ensures
    c.in-Ok.ensures.pushed c.set_local.ensures.rest c.set_local.ensures.locals
