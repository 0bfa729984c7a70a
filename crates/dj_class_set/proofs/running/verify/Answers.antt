use Rattle.std.proofs.Common.{List, subst}
use Rattle.dj_edge.specs.trusted.Held.{File}
use Rattle.dj_report.specs.trusted.Stages.{IsDecided}
use Rattle.dj_class_set.specs.trusted.Judging.{run_stages}
use Rattle.dj_class_set.proofs.Lending.{lent_view, lent_short}
use Rattle.dj_class_set.proofs.running.verify.Goals as goal

pub verify_files-requires-clause-short : goal.verify_files-requires-clause-short
verify_files-requires-clause-short c = lent_short c.deref.result.now c.in_ok-files.files.items c.args.set.now c.deref.ensures.value c.in_ok-files.ensures.lent c.path_files.ensures.set

pub returns-clause-decided : goal.returns-clause-decided
returns-clause-decided c =
    subst (λ (files : List File). IsDecided (run_stages files c.args.class.now c.args.input.now c.args.thresholds) c.in_ok-verify_files.field-0)
    (lent_view c.deref.result.now c.in_ok-files.files.items c.args.set.now c.deref.ensures.value c.in_ok-files.ensures.lent) c.in_ok-verify_files.ensures.decided
