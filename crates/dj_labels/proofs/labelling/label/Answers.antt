use Rattle.std.proofs.lemmas.Result.{err_from_is_err_and}
use Rattle.dj_labels.proofs.Whole.{labelled_all_labelled, labelled_all_refused, refused_all_labelled, refused_all_refused}
use Rattle.dj_labels.proofs.labelling.label.Goals as goal

pub returns-clause-all_labelled : goal.returns-clause-all_labelled
returns-clause-all_labelled c = labelled_all_labelled c.args.code.now c.args.table.now _ c.in_ok-labelling.ensures.labelled

pub returns-clause-all_refused : goal.returns-clause-all_refused
returns-clause-all_refused c = labelled_all_refused c.args.code.now c.args.table.now _ c.in_ok-labelling.ensures.labelled

pub returns-in_err-labelling-clause-all_labelled : goal.returns-in_err-labelling-clause-all_labelled
returns-in_err-labelling-clause-all_labelled c =
    let p = err_from_is_err_and c.from_residual.result c.from_residual.ensures.1 in
    rw (p.1, p.2) (refused_all_labelled c.args.code.now c.args.table.now c.in_err-labelling.field-0.0 c.in_err-labelling.ensures.refused)

pub returns-in_err-labelling-clause-all_refused : goal.returns-in_err-labelling-clause-all_refused
returns-in_err-labelling-clause-all_refused c =
    let p = err_from_is_err_and c.from_residual.result c.from_residual.ensures.1 in
    rw (p.1, p.2) (refused_all_refused c.args.code.now c.args.table.now c.in_err-labelling.field-0.0 c.in_err-labelling.ensures.refused)
