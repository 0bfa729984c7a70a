use Rattle.std.proofs.Common.{ℕ, List, reverse, sym, subst, ◌∙◌}
use Rattle.dj_numbering.specs.Typed.{types_of}
use Rattle.dj_image.specs.Imaged.{typed_of}
use Rattle.dj_natives.specs.Known.{AreKnown}
use Rattle.dj_initialisation.specs.declared.filled.Filled.{Filled}
use Rattle.dj_initialisation.specs.declared.filled.Filled.TheVariants as filled
use Rattle.dj_initialisation.specs.Preparing.{Prepares, Pushes, parts}
use Rattle.dj_initialisation.specs.Store.{Fills, all_constants, store}
use Rattle.dj_initialisation.proofs.Members.{if_ok_map}
use Rattle.dj_initialisation.proofs.PrepareLaws.{prepared_already, prepared_full, prepared_on}
use Rattle.dj_initialisation.proofs.prepare.initialise.Goals as goal

pub returns-then-has_begun-clause-prepares : goal.returns-then-has_begun-clause-prepares
returns-then-has_begun-clause-prepares c =
    prepared_already c.args.image.now c.args.class c.args.flags.now (store c.args.heap.now c.args.statics.now c.args.literals.now) c.args.frames.now c.requires.formed c.requires.there c.requires.flags c.requires.are
    (sym c.has_begun.ensures ∙ c.if-has_begun.true)

pub returns-in-Done-clause-prepares : goal.returns-in-Done-clause-prepares
returns-in-Done-clause-prepares c =
    let image = c.args.image.now in
    let each = c.args.initialisers.now in
    let classes = c.in_ok-classes.classes.items in
    let before = store c.args.heap.now c.args.statics.now c.args.literals.now in
    let after = store c.fill_all.new.heap c.fill_all.new.statics c.fill_all.new.literals in
    let fills = subst (λ (ks : List ℕ). Fills image (all_constants image (reverse ks)) before after filled.Done) c.deref.ensures.value
    (subst (λ (result : Filled). Fills image (all_constants image (reverse c.deref.result.now)) before after result) c.in-Done.is c.in_ok-filled.ensures) in
    if_ok_map c.stand_above.result (λ prepared. Pushes each c.deref-in-Done.result.now c.args.frames.now c.stand_above.new.frames prepared)
    (λ prepared. Prepares image c.args.class (parts c.args.flags.now before c.args.frames.now) (parts c.begin_upward.new.flags after c.stand_above.new.frames) prepared)
    (λ prepared pushes. prepared_on image c.args.class c.args.flags.now c.begin_upward.new.flags before after c.args.frames.now classes c.in_ok-classes.ensures each c.stand_above.new.frames prepared c.requires.initialisers
    (subst (λ (ks : List ℕ). Pushes each ks c.args.frames.now c.stand_above.new.frames prepared) c.deref-in-Done.ensures.value pushes) fills)
    c.stand_above.ensures

pub returns-clause-prepares : goal.returns-clause-prepares
returns-clause-prepares c =
    let image = c.args.image.now in
    let before = store c.args.heap.now c.args.statics.now c.args.literals.now in
    let after = store c.fill_all.new.heap c.fill_all.new.statics c.fill_all.new.literals in
    let fills = subst (λ (ks : List ℕ). Fills image (all_constants image (reverse ks)) before after (filled.HeapFull c.in-HeapFull.used c.in-HeapFull.size)) c.deref.ensures.value
    (subst (λ (result : Filled). Fills image (all_constants image (reverse c.deref.result.now)) before after result) c.in-HeapFull.is c.in_ok-filled.ensures) in
    prepared_full image c.args.class c.args.flags.now c.begin_upward.new.flags before after c.args.frames.now c.in_ok-classes.classes.items c.in_ok-classes.ensures c.in-HeapFull.used c.in-HeapFull.size fills

pub returns-in-Done-clause-known : goal.returns-in-Done-clause-known
returns-in-Done-clause-known c = λ all.
    if_ok_map c.stand_above.result (λ prepared. Pushes c.args.initialisers.now c.deref-in-Done.result.now c.args.frames.now c.stand_above.new.frames prepared)
    (λ prepared. AreKnown (types_of (typed_of c.args.image.now)) c.fill_all.new.heap) (λ prepared pushes. c.in_ok-filled.ensures.known all) c.stand_above.ensures

pub returns-clause-known : goal.returns-clause-known
returns-clause-known c = λ all. c.in_ok-filled.ensures.known all
