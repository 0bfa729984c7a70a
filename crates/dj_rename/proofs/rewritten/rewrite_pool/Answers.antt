use Rattle.std.proofs.lemmas.Result.{err_from_is_err_and}
use Rattle.dj_rename.proofs.Fitting.{rewritten_is, first_is, descs_are, refused_ends, memory_ends}
use Rattle.dj_rename.proofs.rewritten.rewrite_pool.Goals as goal

pub returns-clause-pool : goal.returns-clause-pool
returns-clause-pool c =
    rewritten_is c.args.pool.now c.args.descs.now c.args.texts.now c.requires.appended c.in_ok-renamed.renamed.pool c.in_ok-renamed.ensures.pool c.in_ok-first.first
    c.append_accounter.new.now c.in_ok-first.ensures.0 c.in_ok-first.ensures.1

pub append_accounter-requires : goal.append_accounter-requires
append_accounter-requires c = c.in_ok-renamed.ensures.valid

pub returns-clause-valid : goal.returns-clause-valid
returns-clause-valid c = c.in_ok-first.ensures.2

pub returns-clause-descs : goal.returns-clause-descs
returns-clause-descs c = descs_are c.args.pool.now c.args.descs.now c.in_ok-renamed.renamed.descs c.args.texts.now c.requires.appended c.in_ok-renamed.ensures.descs

pub returns-clause-first : goal.returns-clause-first
returns-clause-first c =
    first_is c.args.pool.now c.args.descs.now c.args.texts.now c.requires.appended c.in_ok-renamed.renamed.pool c.in_ok-renamed.ensures.pool c.in_ok-first.first
    c.in_ok-first.ensures.0

pub returns-in_err-first-clause-err : goal.returns-in_err-first-clause-err
returns-in_err-first-clause-err c =
    let p = err_from_is_err_and c.from_residual-in_err-first.result c.from_residual-in_err-first.ensures.1 in
    refused_ends c.args.pool.now c.args.descs.now c.args.texts.now c.requires.appended c.in_ok-renamed.renamed.pool c.in_ok-renamed.ensures.pool
    c.from_residual-in_err-first.result c.append_accounter.new.now p.0 c.in_err-first.field-0.0 p.1 p.2 c.in_err-first.ensures

pub returns-in_err-renamed-clause-err : goal.returns-in_err-renamed-clause-err
returns-in_err-renamed-clause-err c =
    let p = err_from_is_err_and c.from_residual.result c.from_residual.ensures.1 in
    memory_ends c.args.pool.now c.args.descs.now c.from_residual.result p.0 c.in_err-renamed.field-0.0 p.1 p.2 c.in_err-renamed.ensures.err
