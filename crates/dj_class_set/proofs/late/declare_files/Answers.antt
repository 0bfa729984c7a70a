use Rattle.std.proofs.Common.{◌+◌, List, map, take, sym, subst}
use Rattle.dj_model.specs.trusted.Program.{Class}
use Rattle.dj_file_rules.specs.Views.{path_file_view}
use Rattle.dj_class_set.specs.Late.{IsDeclaredFrom, AreDeclared}
use Rattle.dj_class_set.proofs.LateLaws.{one_more_declared, has_malformed}
use Rattle.dj_class_set.proofs.late.declare_files.Goals as goal

pub loop-file-preserved : goal.loop-file-preserved
loop-file-preserved c =
    let files = c.args.files.now in
    let i = c.loop-file.file-index in
    let reported = subst (IsDeclaredFrom _) c.in-Some.is c.in_ok-class.ensures in
    subst (λ (declared : List Class). AreDeclared (map path_file_view (take (i + 1) files)) declared) (sym {A = List Class} c.in_ok-push-in-Some.ensures.items)
    (one_more_declared files i _ c.loop-file.declared.items c.in-Some.class c.loop-file-test.true c.loop-file.invariant reported)

pub returns-in-None : goal.returns-in-None
returns-in-None c = has_malformed c.args.files.now c.loop-file.file-index _ c.loop-file-test.true (subst (IsDeclaredFrom _) c.in-None.is c.in_ok-class.ensures)
