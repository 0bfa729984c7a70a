use Rattle.std.proofs.Common.{Some, ap}
use Rattle.dj_class.specs.Views.{class_of}
use Rattle.dj_rewrite.specs.declared.least.Part.{Part}
use Rattle.dj_rewrite.specs.declared.set.Progress.{Progress}
use Rattle.dj_rewrite.proofs.LeastParts.{progress_large}
use Rattle.dj_rewrite.proofs.set.with_large.Goals as goal

pub returns : goal.returns
returns c = λ program done large is.
    let now : Progress = record { files = c.args.before.files; least = Some c.lesser-least.result } in
    progress_large program done (class_of c.args.view.now) c.args.members.now large c.in_ok-part.part c.in_ok-part.ensures c.args.before now (ap (λ (part : Part). Some part) c.lesser-least.ensures) is
