use Rattle.dj_class.specs.Views.{class_of}
use Rattle.dj_report.proofs.Adding.{not_both}
use Rattle.dj_loader_tests.proofs.Asked.{whole_file}
use Rattle.dj_loader_tests.proofs.judged.is_whole.Goals as goal

pub returns-in-Ok-false : goal.returns-in-Ok-false
returns-in-Ok-false c = λ t. whole_file c.args.bytes.now (class_of c.in-Ok.view) c.in-Ok.ensures (λ bad. not_both c.in-Ok-false.field-0 (c.in-Ok-false.ensures.1 bad) c.in-Ok-false.field-0-test)
