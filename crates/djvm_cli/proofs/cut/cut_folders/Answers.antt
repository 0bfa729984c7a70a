use Rattle.std.proofs.Common.{length, map, map-id, IsTrue, string_bytes, rules, sym, ap, ◌∙◌}
use Rattle.std.proofs.lemmas.Iterator.Adapters.{YieldsList-from_vec}
use Rattle.std.proofs.lemmas.Iterator.Consumers.{YieldsList-turn, YieldsList-end}
use Rattle.dj_edge.specs.trusted.Held.{is_class_path}
use Rattle.djvm_cli.specs.declared.load.SourceFile.{SourceFile}
use Rattle.djvm_cli.specs.trusted.Report.{within_folder}
use Rattle.djvm_cli.specs.Views.{source_view}
use Rattle.djvm_cli.proofs.Cutting.{at_turn, cut_more}
use Rattle.djvm_cli.proofs.cut.cut_folders.Goals as goal

pub cut_folder-requires : goal.cut_folder-requires
cut_folder-requires c =
    at_turn (λ (file : SourceFile). IsTrue (is_class_path c.args.folder.now (string_bytes file.path))) c.args.files.items (length c.loop-file.yielded) c.in-Some.file c.requires
    (YieldsList-turn (YieldsList-from_vec {s = c.into_iter-file-iterator.result} c.args.files.items (search rules) (search rules))
    c.loop-file.yielded c.loop-file.file-iterator c.loop-file.yielded_by c.next.result c.next.new.self c.in-Some.file c.in-Some.is c.next.ensures.steps)

pub loop-file-preserved : goal.loop-file-preserved
loop-file-preserved c =
    cut_more c.args.folder.now c.loop-file.yielded c.in-Some.file c.loop-file.within.items c.push.new.self.items c.in_ok-cut_folder.field-0
    c.in_ok-push.ensures.items c.in_ok-cut_folder.ensures c.loop-file.invariant

pub returns : goal.returns
returns c =
    let end = YieldsList-end (YieldsList-from_vec {s = c.into_iter-file-iterator.result} c.args.files.items (search rules) (search rules))
    c.loop-file.yielded c.loop-file.file-iterator c.loop-file.yielded_by c.next.result c.next.new.self c.in-None.is c.next.ensures.steps in
    c.loop-file.invariant ∙ ap (λ files. map (within_folder c.args.folder.now) (map source_view files)) (sym (map-id c.loop-file.yielded) ∙ end.0)
