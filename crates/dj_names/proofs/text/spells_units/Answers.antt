use Rattle.std.proofs.Common.{sym, ◌∙◌}
use Rattle.dj_names.proofs.UnitLaws.{unit_then, unit_before, not_modified, some_left}
use Rattle.dj_names.proofs.text.spells_units.Goals as goal

pub loop-rest-preserved : goal.loop-rest-preserved
loop-rest-preserved c = record {
  up = λ m. c.loop-rest.invariant.up (unit_then c.loop-rest.rest.now c.in-Some.field-0-0 c.in-Some.after.now (sym c.in-Some.ensures.reads) m);
  down = λ m. unit_before c.loop-rest.rest.now c.in-Some.field-0-0 c.in-Some.after.now (sym c.in-Some.ensures.reads) (c.loop-rest.invariant.down m);
}

pub returns-in-None : goal.returns-in-None
returns-in-None c = (
  (λ e. absurd (cc)),
  (λ m. absurd (not_modified c.loop-rest.rest.now (some_left c.loop-rest.rest.now (sym c.is_empty.ensures ∙ c.loop-rest-test.true)) (sym c.in-None.ensures.reads) (c.loop-rest.invariant.down m))),
)
