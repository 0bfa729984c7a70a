use Rattle.std.proofs.Common.{Some, ap, ◌∙◌, sym, List, arith}
use Rattle.dj_pool.specs.trusted.Pool.{Constant, constant_at}
use Rattle.dj_image.specs.declared.owned.OwnedEntry.{OwnedEntry}
use Rattle.dj_image.specs.Owned.{constant_of_owned}
use Rattle.dj_image.proofs.OwnedFacts.{entry_found, entry_missing}
use Rattle.dj_image.proofs.owned.OwnedPool.entry.Goals as goal

pub returns-then-at-len : goal.returns-then-at-len
returns-then-at-len c =
    ap (λ (e : OwnedEntry). Some (constant_of_owned e)) c.index.ensures
    ∙ entry_found c.self.inside.entries.items c.from-at.result c.index.result.now (λ e. c.if-index-eq0.false (sym c.from-at.ensures ∙ e)) (omega (arith, c.if-at-len.true, c.len.ensures))
    ∙ ap (λ (pool : List Constant). constant_at pool c.from-at.result) c.self.view_is
    ∙ ap (constant_at c.args.self.now) c.from-at.ensures

pub returns-else-at-len : goal.returns-else-at-len
returns-else-at-len c =
    entry_missing c.self.inside.entries.items c.from-at.result (λ e. c.if-index-eq0.false (sym c.from-at.ensures ∙ e)) (omega (arith, c.if-at-len.false, c.len.ensures))
    ∙ ap (λ (pool : List Constant). constant_at pool c.from-at.result) c.self.view_is
    ∙ ap (constant_at c.args.self.now) c.from-at.ensures
