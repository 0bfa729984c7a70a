use Rattle.std.proofs.Common.{◌-◌, ◌<◌, ◌≤◌, List, length, Some, ap, ◌∙◌, arith}
use Rattle.std.specs.Prelude.{option_map}
use Rattle.dj_pool.specs.trusted.Pool.{Constant, constant_at}
use Rattle.dj_pool.specs.Tests.{kinds_of}
use Rattle.dj_pool.proofs.Found.{kinds_found, kinds_missing}
use Rattle.dj_pool.proofs.judged.JudgedPool.kinds_at.Goals as goal

pub returns-then-at-len : goal.returns-then-at-len
returns-then-at-len c =
    let lt : c.args.index - 1 < length c.self.inside.kinds.items = omega (arith, c.len.ensures, c.if-at-len.true) in
    ap Some c.index.ensures
    ∙ kinds_found c.self.inside.kinds.items c.self.inside.pool c.args.index c.index.result.now c.self.invariant c.if-index-eq0.false lt
    ∙ ap (λ (p : List Constant). option_map kinds_of (constant_at p c.args.index)) c.self.view_is

pub returns-else-at-len : goal.returns-else-at-len
returns-else-at-len c =
    let le : length c.self.inside.kinds.items ≤ c.args.index - 1 = omega (arith, c.len.ensures, c.if-at-len.false) in
    kinds_missing c.self.inside.kinds.items c.self.inside.pool c.args.index c.self.invariant c.if-index-eq0.false le
    ∙ ap (λ (p : List Constant). option_map kinds_of (constant_at p c.args.index)) c.self.view_is
