use Rattle.std.proofs.Common.{◌≡◌, ◌<◌, [], List, Option, length, subst, sym}
use Rattle.std.specs.Prelude.{IfOk}
use Rattle.dj_names.specs.declared.run.Charge.{Charge}
use Rattle.dj_initialisation.specs.Preparing.{parts}
use Rattle.dj_initialisation.specs.Store.{store}
use Rattle.dj_image_step.specs.Running.{IsRunning, Running}
use Rattle.dj_image_step.specs.Doing.{ActedSettles, IsStill, IsTop, IsUsed, PreparesNext, TurnsBy, doing}
use Rattle.dj_image_step.proofs.Prepared.{next_turns}
use Rattle.dj_image_step.proofs.Performed.{none_then, own_class, still_of}
use Rattle.dj_image_step.proofs.SoundRuns.{never_called}
use Rattle.dj_image_step.proofs.UsedLaws.{site_within}
use Rattle.dj_image_step.proofs.turning.perform.Goals as goal

pub call-requires-clause-still : goal.call-requires-clause-still
call-requires-clause-still g c = still_of _ _ c.requires.running

pub call-requires-clause-there : goal.call-requires-clause-there
call-requires-clause-there g c = site_within _ _ _ _ c.in-Some.ensures.calls

pub call-requires-clause-own : goal.call-requires-clause-own
call-requires-clause-own g c = (own_class _ _ _ _ _ c.top_of-top.ensures c.method-own.ensures).0

pub call-requires-clause-named : goal.call-requires-clause-named
call-requires-clause-named g c =
    (own_class c.args.image.now c.args.run.now.parts.frames c.top_of-top.result.method.number c.top_of-top.result.number c.method-own.result (subst (λ (r : Running). IsTop c.args.image.now r.parts.frames c.top_of-top.result.method.number c.top_of-top.result.number) c.run.view_is c.top_of-top.ensures) c.method-own.ensures).1

pub call-requires-clause-called : goal.call-requires-clause-called
call-requires-clause-called g c = let at = c.in-Some.ensures.calls in (at.called, at.member, at.resolved, at.mode, at.resolves, at.method, at.kinds)

pub returns-in-Some-clause-turns : goal.returns-in-Some-clause-turns
returns-in-Some-clause-turns g c =
    let at = c.in-Some.ensures.calls in
    next_turns c.args.image.now c.args.run.now c.call.new.run _ _ _ _ c.call.result
    (subst (λ (r : Running). IsTop c.args.image.now r.parts.frames c.top_of-top.result.method.number c.top_of-top.result.number) c.run.view_is c.top_of-top.ensures) at.is
    (c.call.ensures.turns at.called at.member at.resolved at.mode at.resolves at.method at.kinds)

pub returns-in-None-clause-turns : goal.returns-in-None-clause-turns
returns-in-None-clause-turns g c =
    let stands = c.top_of-top.ensures.stands in
    next_turns c.args.image.now c.args.run.now c.act_next.new.run _ _ _ stands.instruction c.act_next.result
    (subst (λ (r : Running). IsTop c.args.image.now r.parts.frames c.top_of-top.result.method.number c.top_of-top.result.number) c.run.view_is c.top_of-top.ensures) stands.at
    (none_then c.args.image.now (doing c.args.image.now stands.instruction) c.args.run.now c.act_next.new.run (g.H.Host.given c.args.host.now) c.act_next.result (c.act_next.ensures.turns stands.instruction stands.at))

pub returns-in-Some-clause-frugal : goal.returns-in-Some-clause-frugal
returns-in-Some-clause-frugal g c = λ n.
    let at = c.in-Some.ensures.calls in
    absurd (never_called c.args.image.now c.args.run.now c.top_of-top.result.method.number c.top_of-top.result.number at.called at.member
    (subst (λ (r : Running). IsTop c.args.image.now r.parts.frames c.top_of-top.result.method.number c.top_of-top.result.number) c.run.view_is c.top_of-top.ensures) at.is n)
