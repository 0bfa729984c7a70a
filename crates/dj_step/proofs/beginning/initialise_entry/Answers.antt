use Rattle.std.proofs.Common.{sym, ap, subst}
use Rattle.std.specs.Prelude.{IfOk}
use Rattle.dj_natives.specs.Known.{AreKnown}
use Rattle.dj_numbering.specs.Typed.{types_of}
use Rattle.dj_image.specs.Imaged.{program_of, typed_of}
use Rattle.dj_initialisation.specs.Flags.{AreFlags}
use Rattle.dj_initialisation.specs.Store.{IsStore, store}
use Rattle.dj_initialisation.specs.Preparing.{Parts, parts}
use Rattle.dj_image_step.specs.Running.{Running}
use Rattle.dj_step.specs.Running.{PreparesEntry}
use Rattle.dj_step.proofs.FirstLaws.{entry_prepared, known_after}
use Rattle.dj_step.proofs.beginning.initialise_entry.Goals as goal

pub initialise-requires-clause-flags : goal.initialise-requires-clause-flags
initialise-requires-clause-flags c = subst (λ (r : Running). AreFlags (program_of c.args.image.now) r.parts.flags) (sym c.run.view_is) c.requires.flags

pub initialise-requires-clause-are : goal.initialise-requires-clause-are
initialise-requires-clause-are c = subst (λ (r : Running). IsStore c.args.image.now r.parts.store) (sym c.run.view_is) c.requires.are

pub returns-clause-prepares : goal.returns-clause-prepares
returns-clause-prepares c =
    let image = c.args.image.now in
    let before : Parts = parts c.run.inside.flags (store c.run.inside.heap c.run.inside.statics c.run.inside.literals) c.run.inside.frames in
    let after : Parts = parts c.initialise.new.flags (store c.initialise.new.heap c.initialise.new.statics c.initialise.new.literals) c.initialise.new.frames in
    subst (λ (r : Running). IfOk c.initialise.result (PreparesEntry image c.args.entry.number r.parts after)) c.run.view_is
    (entry_prepared image c.args.entry.number c.method-class.result before after c.initialise.result c.method-class.ensures c.initialise.ensures.prepares)

pub returns-clause-known : goal.returns-clause-known
returns-clause-known c =
    let types = types_of (typed_of c.args.image.now) in
    subst (λ (r : Running). IfOk c.initialise.result (λ _. AreKnown types r.parts.store.heap → AreKnown types c.initialise.new.heap)) c.run.view_is
    (known_after types c.run.inside.heap c.initialise.new.heap c.initialise.result c.initialise.ensures.known)

pub returns-clause-counter : goal.returns-clause-counter
returns-clause-counter c = ap (λ (r : Running). r.counter) c.run.view_is

pub returns-clause-stop : goal.returns-clause-stop
returns-clause-stop c = ap (λ (r : Running). r.stop) c.run.view_is
