use Rattle.std.proofs.Common.{◌≡◌, ◌<◌, [], List, Option, length, subst, sym, ◌∙◌}
use Rattle.std.specs.Prelude.{IfOk}
use Rattle.dj_names.specs.declared.run.Charge.{Charge}
use Rattle.dj_initialisation.specs.Preparing.{parts}
use Rattle.dj_initialisation.specs.Store.{store}
use Rattle.dj_image_step.specs.Running.{IsRunning, Running}
use Rattle.dj_image_step.specs.Doing.{ActedSettles, IsStill, IsTop, IsUsed, PreparesNext, TurnsBy, doing}
use Rattle.dj_image_effects.specs.Acting.{machine}
use Rattle.dj_image_step.proofs.ActedLaws.{acted_then}
use Rattle.dj_image_step.proofs.Performed.{still_of}
use Rattle.dj_image_step.specs.Frugal.{IsFrugalRun}
use Rattle.dj_image_step.proofs.ShortTables.{are_short}
use Rattle.dj_image_step.proofs.SoundRuns.{acting_frugal, frugal_for, loads_at, next_makes_none, ready_for}
use Rattle.dj_image_step.proofs.Tops.{next_is}
use Rattle.dj_image_step.proofs.acting.act_next.Goals as goal

pub returns-clause-turns : goal.returns-clause-turns
returns-clause-turns c = λ i reported.
    let st = store c.run.inside.heap c.run.inside.statics c.run.inside.literals in
    let m = machine c.act.new.frames (store c.act.new.heap c.act.new.statics c.act.new.literals) in
    subst (λ (r : Running). IfOk c.settle_acted.result (TurnsBy c.args.image.now (doing c.args.image.now i) r (record { parts = parts c.run.inside.flags (store c.settle_acted.new.heap c.act.new.statics c.act.new.literals) c.settle_acted.new.frames; counter = c.run.inside.accounter; stop = c.run.inside.stop }) []))
    c.run.view_is
    (acted_then c.args.image.now i c.run.inside.flags st c.run.inside.accounter c.run.inside.stop m c.settle_acted.new.heap c.settle_acted.new.frames c.run.inside.frames c.in_ok-acted.acted c.settle_acted.result
    (subst (λ (r : Running). 0 < length r.parts.frames) (sym c.run.view_is) c.requires.top.some) (still_of c.args.image.now _ (subst (IsRunning c.args.image.now) (sym c.run.view_is) c.requires.running)) (c.in_ok-acted.ensures.done i reported)
    (subst (λ (e : Option Charge). IfOk c.settle_acted.result (ActedSettles c.args.image.now e c.in_ok-acted.acted c.act.new.heap c.settle_acted.new.heap c.act.new.frames c.settle_acted.new.frames))
    c.exceeded-charge.ensures c.settle_acted.ensures.settles))

pub settle_acted-requires-clause-ready : goal.settle_acted-requires-clause-ready
settle_acted-requires-clause-ready c =
    let image = c.args.image.now in
    let v : Running = record { parts = parts c.run.inside.flags (store c.run.inside.heap c.run.inside.statics c.run.inside.literals) c.run.inside.frames; counter = c.run.inside.accounter; stop = c.run.inside.stop } in
    let running : IsRunning image v = subst (IsRunning image) (sym c.run.view_is) c.requires.running in
    let top : IsTop image v.parts.frames c.args.method.number c.args.number = subst (λ (r : Running). IsTop image r.parts.frames c.args.method.number c.args.number) (sym c.run.view_is) c.requires.top in
    let m = machine c.act.new.frames (store c.act.new.heap c.act.new.statics c.act.new.literals) in
    let stands = top.stands in
    ready_for image c.requires.kept.sound v.parts.frames stands.instruction v.parts.store m running.activations running.standing (next_is image v.parts.frames c.args.method.number c.args.number top ∙ stands.at)
    c.in_ok-acted.acted (c.in_ok-acted.ensures.done stands.instruction stands.at) c.in_ok-acted.ensures.known

pub returns-clause-frugal : goal.returns-clause-frugal
returns-clause-frugal c = λ n.
    let image = c.args.image.now in
    let v : Running = record { parts = parts c.run.inside.flags (store c.run.inside.heap c.run.inside.statics c.run.inside.literals) c.run.inside.frames; counter = c.run.inside.accounter; stop = c.run.inside.stop } in
    let running : IsRunning image v = subst (IsRunning image) (sym c.run.view_is) c.requires.running in
    let top : IsTop image v.parts.frames c.args.method.number c.args.number = subst (λ (r : Running). IsTop image r.parts.frames c.args.method.number c.args.number) (sym c.run.view_is) c.requires.top in
    let m = machine c.act.new.frames (store c.act.new.heap c.act.new.statics c.act.new.literals) in
    let stands = top.stands in
    c.settle_acted.ensures.frugal
    (frugal_for image c.requires.kept.sound (are_short image c.requires.kept.bounded) v running stands.instruction (next_is image v.parts.frames c.args.method.number c.args.number top ∙ stands.at) m
    c.in_ok-acted.acted (c.in_ok-acted.ensures.done stands.instruction stands.at) (subst (IsFrugalRun image) (sym c.run.view_is) n))

pub returns-in_err-acted-clause-frugal : goal.returns-in_err-acted-clause-frugal
returns-in_err-acted-clause-frugal c = λ n.
    let image = c.args.image.now in
    let v : Running = record { parts = parts c.run.inside.flags (store c.run.inside.heap c.run.inside.statics c.run.inside.literals) c.run.inside.frames; counter = c.run.inside.accounter; stop = c.run.inside.stop } in
    let running : IsRunning image v = subst (IsRunning image) (sym c.run.view_is) c.requires.running in
    let top : IsTop image v.parts.frames c.args.method.number c.args.number = subst (λ (r : Running). IsTop image r.parts.frames c.args.method.number c.args.number) (sym c.run.view_is) c.requires.top in
    let next = next_makes_none image v c.args.method.number c.args.number top (subst (IsFrugalRun image) (sym c.run.view_is) n) in
    absurd (c.in_err-acted.ensures.frugal next.0 next.1 (loads_at image c.requires.kept.bounded v c.args.method.number c.args.number running top)
    (acting_frugal image c.requires.kept.sound v c.args.method.number c.args.number next.0 running top next.1 next.2))
