use Rattle.std.proofs.Common.{List, ℕ, All, inl, sym, subst}
use Rattle.dj_class.specs.Views.{class_of}
use Rattle.dj_rename.specs.Pools.{IsFull}
use Rattle.dj_rename.specs.Refusals.{IsDescIndex, AreAppended, RefusesAccounter}
use Rattle.dj_rewrite.proofs.Validity.{descs_described}
use Rattle.dj_rewrite.proofs.Refusals.{new_pool, new_first}
use Rattle.dj_rewrite.proofs.file.with_texts.Goals as goal

pub rewrite_pool-requires-clause-described : goal.rewrite_pool-requires-clause-described
rewrite_pool-requires-clause-described c = subst (λ (ds : List ℕ). All (IsDescIndex c.args.view.now.pool) ds) (sym c.requires.descs) (descs_described (class_of c.args.view.now) c.requires.known.valid)

pub rewrite_pool-requires-clause-appended : goal.rewrite_pool-requires-clause-appended
rewrite_pool-requires-clause-appended c = subst (λ (ds : List ℕ). AreAppended c.args.view.now.pool ds c.args.texts.now) (sym c.requires.descs) c.requires.texts

pub with_pool-requires-clause-pool : goal.with_pool-requires-clause-pool
with_pool-requires-clause-pool c =
    new_pool (class_of c.args.view.now) c.args.descs.now c.args.texts.now c.in-Ok.new.pool c.in-Ok.new.descs c.requires.descs c.requires.texts c.in-Ok.ensures.pool c.in-Ok.ensures.valid c.in-Ok.ensures.descs

pub with_pool-requires-clause-first : goal.with_pool-requires-clause-first
with_pool-requires-clause-first c = new_first (class_of c.args.view.now) c.args.descs.now c.in-Ok.new.first c.requires.descs c.in-Ok.ensures.first

pub large_pool-requires-clause-large : goal.large_pool-requires-clause-large
large_pool-requires-clause-large c =
    inl (subst (IsFull c.args.view.now.pool) c.requires.descs (subst (RefusesAccounter c.args.view.now.pool c.args.descs.now) c.in-Err-Full.field-0-is c.in-Err-Full.ensures.err))

pub unreachable-requires : goal.unreachable-requires
unreachable-requires c = subst (RefusesAccounter c.args.view.now.pool c.args.descs.now) c.in-Err-Long.field-0-is c.in-Err-Long.ensures.err
