use Rattle.std.proofs.Common.{◌≡◌, take}
use Rattle.dj_names.specs.trusted.ModifiedUtf8.{units_text}
use Rattle.dj_class_set.specs.trusted.Entry.{with_slashes}
use Rattle.dj_class_set.proofs.entry.entry_name.Given as goal

abbrev pub invariant-loop-unit : goal.invariant-loop-unit
invariant-loop-unit l = l.name ≡ units_text (with_slashes (take l.unit-index l.unit-items))
