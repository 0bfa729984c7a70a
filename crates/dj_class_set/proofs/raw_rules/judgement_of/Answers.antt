use Rattle.std.proofs.Common.{subst}
use Rattle.dj_class_set.specs.Late.{IsLinkedWhereHeld}
use Rattle.dj_class_set.proofs.RawLaws.{raw_broken}
use Rattle.dj_names.specs.trusted.Library.{raw_library}
use Rattle.dj_class_set.proofs.raw_rules.judgement_of.Goals as goal

pub returns-in-Some : goal.returns-in-Some
returns-in-Some c = λ files is. c.judge_entry.ensures files is.lines (subst (IsLinkedWhereHeld raw_library files) c.in-Some.is is.linked)

pub returns-in-None : goal.returns-in-None
returns-in-None c = λ files is.
    raw_broken files c.args.entry.now c.args.judged c.in_order.result is c.in-None.is c.in_order.ensures.ordered c.in_order.ensures.members
