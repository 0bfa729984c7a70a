use Rattle.std.proofs.Common.{List, subst}
use Rattle.dj_edge.specs.trusted.Held.{File}
use Rattle.dj_report.specs.trusted.Stages.{IsDecided}
use Rattle.dj_class_set.specs.trusted.Judging.{check_stages}
use Rattle.dj_class_set.proofs.Lending.{lent_view, lent_few, lent_short}
use Rattle.dj_class_set.proofs.checking.check.Goals as goal

pub check_files-requires-clause-few : goal.check_files-requires-clause-few
check_files-requires-clause-few c = lent_few c.deref.result.now c.in_ok-files.files.items c.args.set.now c.deref.ensures.value c.in_ok-files.ensures.lent c.path_files.ensures.set

pub check_files-requires-clause-short : goal.check_files-requires-clause-short
check_files-requires-clause-short c = lent_short c.deref.result.now c.in_ok-files.files.items c.args.set.now c.deref.ensures.value c.in_ok-files.ensures.lent c.path_files.ensures.set

pub returns-clause-decided : goal.returns-clause-decided
returns-clause-decided c =
    subst (λ (files : List File). IsDecided (check_stages files) c.in_ok-check_files.field-0)
    (lent_view c.deref.result.now c.in_ok-files.files.items c.args.set.now c.deref.ensures.value c.in_ok-files.ensures.lent) c.in_ok-check_files.ensures.decided
