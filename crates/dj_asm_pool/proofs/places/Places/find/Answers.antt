use Rattle.std.proofs.Common.{None, sym, subst}
use Rattle.dj_asm_pool.specs.Keys.{FindsKey}
use Rattle.dj_asm_pool.proofs.FoundEntries.{found_key, no_key}
use Rattle.dj_asm_pool.proofs.places.Places.find.Goals as goal

pub returns-in-Some : goal.returns-in-Some
returns-in-Some c =
    subst (λ l. FindsKey l c.args.key c.within.result) c.self.view_is
    (found_key c.self.inside.indexes.entries c.self.inside.next c.args.key c.in-Some.index.now c.within.result c.self.invariant (sym c.in-Some.ensures.value) c.within.ensures)

pub returns-in-None : goal.returns-in-None
returns-in-None c =
    subst (λ l. FindsKey l c.args.key None) c.self.view_is
    (no_key c.self.inside.indexes.entries c.self.inside.next c.args.key c.self.invariant (sym c.in-None.ensures.value))
