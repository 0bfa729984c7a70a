use Rattle.std.proofs.Common.{ℕ}
use Rattle.std.proofs.lemmas.List.Elements.{recursion_from_All, All-from_recursion}
use Rattle.dj_rename.specs.Pools.{desc_need}
use Rattle.dj_rename.specs.Refusals.{IsDescIndex}
use Rattle.dj_rename.specs.Renaming.{IsSettled}
use Rattle.dj_rename.proofs.Appended.{appended_whole, appended_few}
use Rattle.dj_rename.proofs.Settled.{descs_settled}
use Rattle.dj_rename.proofs.States.{state_start}
use Rattle.dj_rename.proofs.renamed.rename_pool.Goals as goal

pub with_texts-requires-clause-few : goal.with_texts-requires-clause-few
with_texts-requires-clause-few c =
    appended_few c.args.pool.now c.args.descs.now c.args.texts.now c.requires.valid (recursion_from_All (IsDescIndex c.args.pool.now) c.args.descs.now c.requires.described) c.requires.appended

pub with_texts-requires-clause-whole : goal.with_texts-requires-clause-whole
with_texts-requires-clause-whole c =
    appended_whole c.args.pool.now c.args.descs.now c.args.texts.now c.requires.valid (recursion_from_All (IsDescIndex c.args.pool.now) c.args.descs.now c.requires.described) c.requires.appended

pub redirect_all-requires-clause-state : goal.redirect_all-requires-clause-state
redirect_all-requires-clause-state c =
    state_start c.args.pool.now c.args.texts.now c.in_ok-known.known c.as_slice.result.now c.as_slice.ensures
    (appended_few c.args.pool.now c.args.descs.now c.args.texts.now c.requires.valid (recursion_from_All (IsDescIndex c.args.pool.now) c.args.descs.now c.requires.described) c.requires.appended)
    c.in_ok-known.ensures

pub new_descs-requires-clause-settled : goal.new_descs-requires-clause-settled
new_descs-requires-clause-settled c =
    All-from_recursion (λ (desc : ℕ). IsSettled c.args.pool.now c.args.texts.now (desc_need c.args.pool.now desc desc)) c.args.descs.now
    (descs_settled c.args.pool.now c.args.descs.now c.args.texts.now c.requires.appended.same)
