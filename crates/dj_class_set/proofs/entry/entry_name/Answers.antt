use Rattle.std.proofs.Common.{ℕ, ◌==◌, if◌then◌else◌, ap, ◌∙◌}
use Rattle.std.proofs.lemmas.List.{take_all}
use Rattle.dj_names.specs.trusted.ModifiedUtf8.{units_text}
use Rattle.dj_class_set.specs.trusted.Entry.{with_slashes}
use Rattle.dj_class_set.proofs.Entries.{spelled_more}
use Rattle.dj_class_set.proofs.entry.entry_name.Goals as goal

pub loop-unit-preserved : goal.loop-unit-preserved
loop-unit-preserved c =
    spelled_more (λ (u : ℕ). if u == 46 then 47 else u) c.deref-unit-items.result.now c.loop-unit.unit-index c.with_slash.result c.loop-unit.name c.add_unit.new.text
    c.loop-unit-test.true c.with_slash.ensures c.loop-unit.invariant c.in_ok-add_unit.ensures

pub returns : goal.returns
returns c =
    c.loop-unit.invariant
    ∙ ap (λ us. units_text (with_slashes us)) (take_all c.loop-unit.unit-index c.deref-unit-items.result.now c.loop-unit-test.false ∙ c.deref-unit-items.ensures.value ∙ c.in_ok-units.ensures)
