use Rattle.std.proofs.Common.{◌≡◌, ◌∙◌, subst}
use Rattle.dj_asm_pool.specs.trusted.Entries.{Utf8}
use Rattle.dj_asm_pool.specs.Pooling.{found_index}
use Rattle.dj_asm_pool.proofs.FoundEntries.{text_found, no_text_found}
use Rattle.dj_asm_pool.proofs.pool.PoolBuilder.utf8_index.Goals as goal

pub returns-in-Some : goal.returns-in-Some
returns-in-Some c =
    subst (λ l. c.unwrap_or.result ≡ found_index l (Utf8 c.args.text.now)) c.self.view_is
    (c.unwrap_or.ensures ∙ text_found c.self.inside.texts c.self.inside.places c.self.invariant c.args.text.now c.in-Some.number c.find-in-Some.result c.in-Some.ensures c.find-in-Some.ensures)

pub returns-in-None : goal.returns-in-None
returns-in-None c =
    subst (λ l. 0 ≡ found_index l (Utf8 c.args.text.now)) c.self.view_is
    (no_text_found c.self.inside.texts c.self.inside.places c.self.invariant c.args.text.now c.in-None.ensures)
