use Rattle.std.proofs.Common.{subst}
use Rattle.dj_model.specs.trusted.Program.{Program}
use Rattle.dj_report.specs.Lines.{Adds}
use Rattle.dj_class_set.specs.RawEntry.{EntryLine}
use Rattle.dj_class_set.proofs.raw_rules.with_entry_line.Goals as goal

pub returns : goal.returns
returns c =
    subst (λ (p : Program). Adds (EntryLine p c.args.entry.now) c.args.found.items c.add_entry_line.new.found.items) c.classes.ensures c.in_ok-add_entry_line.ensures
