use Rattle.std.proofs.Common.{◌∙◌, sym}
use Rattle.dj_class_table.proofs.Numbered.{class_number-within}
use Rattle.dj_class_set.proofs.RawLaws.{entry_at, entry_nowhere}
use Rattle.dj_class_set.proofs.raw_rules.runs_entry.Goals as goal

pub runs_entry_of-requires : goal.runs_entry_of-requires
runs_entry_of-requires c = class_number-within c.args.table.now c.args.entry.now c.in-Some.class (sym c.class_named.ensures ∙ c.in-Some.is)

pub returns-in-Some : goal.returns-in-Some
returns-in-Some c = c.runs_entry_of.ensures ∙ entry_at c.args.table.now c.args.entry.now c.in-Some.class (sym c.class_named.ensures ∙ c.in-Some.is)

pub returns-in-None : goal.returns-in-None
returns-in-None c = entry_nowhere c.args.table.now c.args.entry.now (sym c.class_named.ensures ∙ c.in-None.is)
