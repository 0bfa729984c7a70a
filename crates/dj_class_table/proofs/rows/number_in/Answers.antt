use Rattle.std.proofs.Common.{rules, sym}
use Rattle.std.proofs.lemmas.Fn.{always_returns_same}
use Rattle.dj_class_table.proofs.Numbered.{against, number_found, number_missing}
use Rattle.dj_class_table.proofs.rows.number_in.Goals as goal

pub returns-in-Ok : goal.returns-in-Ok
returns-in-Ok c =
    let equal = c.in-Ok.ensures.position (against c.args.name.now) (always_returns_same _ _ _ (λ a r f called. search rules)) in
    sym (number_found c.args.rows.now c.requires.rise c.args.name.now _ c.in-Ok.ensures.bound equal)

pub returns-in-Err : goal.returns-in-Err
returns-in-Err c =
    let parted = c.in-Err.ensures.position (against c.args.name.now) (always_returns_same _ _ _ (λ a r f called. search rules)) in
    sym (number_missing c.args.rows.now c.requires.rise c.args.name.now _ parted)
