use Rattle.std.proofs.Common.{IsTrue, subst, sym}
use Rattle.dj_edge.specs.trusted.Held.{is_class_path}
use Rattle.djvm_cli.proofs.Folders.{cut_after_folder}
use Rattle.djvm_cli.proofs.cut.cut_folder.Goals as goal

pub range_from-requires : goal.range_from-requires
range_from-requires c =
    λ _. cut_after_folder c.args.folder.now c.as_str-path.result.now c.as_str-path.utf8
    (subst (λ p. IsTrue (is_class_path c.args.folder.now p)) (sym c.as_str-path.ensures.value) c.requires)
