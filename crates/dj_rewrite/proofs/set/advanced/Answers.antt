use Rattle.std.proofs.Common.{◌<◌, List, length, sym, subst}
use Rattle.std.proofs.lemmas.Result.{IfOk-weaker}
use Rattle.dj_names.specs.trusted.Types.{Name}
use Rattle.dj_class.specs.Views.{class_of}
use Rattle.dj_image.specs.Imaged.{program_of}
use Rattle.dj_rewrite.specs.Answers.{AnswersFile, AreTooLarge}
use Rattle.dj_rewrite.proofs.set.advanced.Goals as goal

pub returns-in-Written : goal.returns-in-Written
returns-in-Written c =
    let written = subst (AnswersFile (program_of c.args.image.now) (class_of c.args.view.now)) c.in-Written.is c.in_ok-answer.ensures in
    IfOk-weaker c.with_file.result _ _ (λ now advances done is. advances (program_of c.args.image.now) done written is) c.with_file.ensures

pub with_large-requires : goal.with_large-requires
with_large-requires c =
    let large = subst (AnswersFile (program_of c.args.image.now) (class_of c.args.view.now)) c.in-TooLarge.is c.in_ok-answer.ensures in
    subst (λ (members : List Name). 0 < length members) (sym c.deref.ensures.value) large.some

pub returns-in-TooLarge : goal.returns-in-TooLarge
returns-in-TooLarge c =
    let large = subst (AnswersFile (program_of c.args.image.now) (class_of c.args.view.now)) c.in-TooLarge.is c.in_ok-answer.ensures in
    let told : AreTooLarge (program_of c.args.image.now) (class_of c.args.view.now) c.deref.result.now =
    subst (AreTooLarge (program_of c.args.image.now) (class_of c.args.view.now)) (sym c.deref.ensures.value) large in
    IfOk-weaker c.with_large.result _ _ (λ now advances done is. advances (program_of c.args.image.now) done told is) c.with_large.ensures
