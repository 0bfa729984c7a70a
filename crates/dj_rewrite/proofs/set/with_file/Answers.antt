use Rattle.std.proofs.Common.{refl}
use Rattle.dj_class.specs.Views.{class_of}
use Rattle.dj_rewrite.specs.declared.rewritten.RewrittenFile.{RewrittenFile}
use Rattle.dj_rewrite.specs.declared.set.Progress.{Progress}
use Rattle.dj_rewrite.proofs.LeastParts.{progress_written}
use Rattle.dj_rewrite.proofs.set.with_file.Goals as goal

pub returns : goal.returns
returns c = λ program done written is.
    let file : RewrittenFile = record { name = c.in_ok-name.name; bytes = c.args.bytes } in
    let now : Progress = record { files = c.push.new.self; least = c.args.before.least } in
    progress_written program done (class_of c.args.view.now) file (record { name = c.in_ok-name.ensures; written = written }) c.args.before now refl c.in_ok-push.ensures.items is
