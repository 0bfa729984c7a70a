use Rattle.std.proofs.Common.{◌+◌, ◌^◌, ◌<◌, ℕ, sym, subst}
use Rattle.std.proofs.lemmas.Result.{on_ok_weaker}
use Rattle.dj_pool.specs.Views.{constant_of}
use Rattle.dj_rename.proofs.Halfway.{next_at, past_at}
use Rattle.dj_rename.proofs.PoolTexts.{wanted_at}
use Rattle.dj_rename.proofs.Settled.{settled_at}
use Rattle.dj_rename.proofs.States.{index_fits}
use Rattle.dj_rename.proofs.renamed.redirect_one.Goals as goal

pub returns-in-None-clause-half : goal.returns-in-None-clause-half
returns-in-None-clause-half c = past_at c.args.pool.now c.args.texts.now c.args.place c.args.now.now (constant_of c.args.entry.now) c.requires.valid c.requires.half c.requires.at c.in-None.ensures

pub returns-in_ok-index-in-Some-clause-half : goal.returns-in_ok-index-in-Some-clause-half
returns-in_ok-index-in-Some-clause-half c =
    let k = constant_of c.args.entry.now in
    let settled = settled_at c.args.pool.now c.args.texts.now c.args.place (c.args.place + 1) k c.in-Some.wanted c.requires.settled c.requires.at c.in-Some.ensures in
    let wanted = wanted_at c.args.pool.now c.args.place k c.in-Some.wanted c.requires.valid c.requires.at c.in-Some.ensures in
    let fits = index_fits c.args.pool.now c.args.texts.now c.in-Some.wanted c.requires.state.few wanted settled in
    let low : c.in_ok-index-in-Some.index < 2 ^ 16 = subst (λ (n : ℕ). n < 2 ^ 16) (sym c.in_ok-index-in-Some.ensures.ok) fits in
    on_ok_weaker c.redirect.result
    (λ r. next_at c.args.pool.now c.args.texts.now c.args.place c.args.now.now k c.in-Some.wanted c.in_ok-index-in-Some.index c.redirect.new.now c.requires.valid c.requires.half c.requires.at
    c.in-Some.ensures c.in_ok-index-in-Some.ensures.ok settled low r)
    c.redirect.ensures.ok
