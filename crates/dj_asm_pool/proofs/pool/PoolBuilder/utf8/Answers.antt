use Rattle.std.proofs.Common.{IfOk, None, sym, ◌∙◌, subst}
use Rattle.dj_asm_pool.specs.trusted.Entries.{Utf8}
use Rattle.dj_asm_pool.specs.Pooling.{AreKeysOf, keyed_entries, PutsOne}
use Rattle.dj_asm_pool.proofs.PoolChains.{text_fields, text_puts, new_fields, new_puts}
use Rattle.dj_asm_pool.proofs.PoolEntries.{full_test}
use Rattle.dj_asm_pool.proofs.pool.PoolBuilder.utf8.Goals as goal

pub invariant_of-self : goal.invariant_of-self
invariant_of-self c =
    text_fields c.self.inside.texts c.self.inside.places c.add.new.self c.self.invariant c.add.result c.args.text.now c.in-Some.number c.in-Some.ensures c.add.ensures

pub invariant_of-self-in_err-number-in-None : goal.invariant_of-self-in_err-number-in-None
invariant_of-self-in_err-number-in-None c =
    subst (λ l. AreKeysOf l c.self.inside.places (keyed_entries l c.self.inside.places)) (sym c.in_err-number-in-None.ensures) c.self.invariant

pub invariant_of-self-in-None : goal.invariant_of-self-in-None
invariant_of-self-in-None c =
    new_fields c.self.inside.texts c.self.inside.places c.add-in-None.new.self c.self.invariant c.add-in-None.result c.args.text.now c.in_ok-number-in-None.number
    c.push.new.self c.in-None.ensures c.in_ok-number-in-None.ensures c.add-in-None.ensures

pub returns-in-Some : goal.returns-in-Some
returns-in-Some c =
    subst (λ l. IfOk c.add.result (λ answer. PutsOne l (Utf8 c.args.text.now) (keyed_entries c.self.inside.texts c.add.new.self) answer)) c.self.view_is
    (text_puts c.self.inside.texts c.self.inside.places c.add.new.self c.self.invariant c.add.result c.args.text.now c.in-Some.number c.in-Some.ensures c.add.ensures)

pub returns-in_ok-number-in-None : goal.returns-in_ok-number-in-None
returns-in_ok-number-in-None c =
    subst (λ l. IfOk c.add-in-None.result (λ answer. PutsOne l (Utf8 c.args.text.now) (keyed_entries c.push.new.self c.add-in-None.new.self) answer)) c.self.view_is
    (new_puts c.self.inside.texts c.self.inside.places c.add-in-None.new.self c.self.invariant c.add-in-None.result c.args.text.now c.in_ok-number-in-None.number
    c.push.new.self c.in-None.ensures c.in_ok-number-in-None.ensures c.add-in-None.ensures)

pub returns-then-is_full : goal.returns-then-is_full
returns-then-is_full c =
    subst (λ l. PutsOne l (Utf8 c.args.text.now) l None) c.self.view_is
    (full_test c.self.inside.texts c.self.inside.places c.args.text.now c.self.invariant c.in-None.ensures (sym c.is_full.ensures ∙ c.if-is_full.true))
