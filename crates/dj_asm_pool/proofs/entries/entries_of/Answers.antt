use Rattle.std.proofs.Common.{◌∷◌, ◌++◌, [], map, take, sym, ap, ◌∙◌}
use Rattle.std.proofs.lemmas.Option.{slice_get-get_or}
use Rattle.dj_pool.specs.trusted.Pool.{indexed}
use Rattle.dj_pool.specs.Views.{constant_of}
use Rattle.dj_asm_pool.specs.Pooling.{constants_in}
use Rattle.dj_asm_pool.proofs.PoolEntries.{entries_more, indexed_nothing}
use Rattle.dj_asm_pool.proofs.entries.entries_of.Goals as goal

pub loop-key-init : goal.loop-key-init
loop-key-init c = ap (map constant_of) c.new-list.ensures.items ∙ sym indexed_nothing

pub loop-key-preserved : goal.loop-key-preserved
loop-key-preserved c =
    c.in_ok-push_entry.ensures
    ∙ (ap (λ l. l ++ indexed (constant_of c.entry_of.result ∷ [])) c.loop-key.invariant
    ∙ (ap (λ k. indexed (constants_in c.args.texts.now (take c.loop-key.key-index c.args.keys.now)) ++ indexed (k ∷ [])) c.entry_of.ensures
    ∙ entries_more c.args.texts.now c.args.keys.now c.loop-key.key-index _ (slice_get-get_or c.args.keys.now c.loop-key.key-index _ c.loop-key-test.true)))
