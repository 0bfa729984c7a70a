use Rattle.std.proofs.Common.{rules, pos, get_or, w64, SFits, ◌∙◌, ◌+◌, ◌<◌, ℤ, List, [], ◌∷◌, ◌++◌, take, length, sym, subst, arith}
use Rattle.std.proofs.lemmas.List.{take_all, get_or_default}
use Rattle.std.proofs.lemmas.Int.{to_z-of_z}
use Rattle.std.proofs.lemmas.Result.{err_from_is_err_and}
use Rattle.dj_labels.specs.Passes.{AreNumbers}
use Rattle.dj_labels.proofs.TargetLaws.{lacks_at, numbers_none, numbers_more}
use Rattle.dj_labels.proofs.targets.number_targets.Goals as goal

pub loop-target-init : goal.loop-target-init
loop-target-init c = subst (AreNumbers c.args.table.now.starts.items []) (sym c.in_ok-numbers.ensures) (numbers_none c.args.table.now.starts.items)

pub returns-in_err-number_of-clause-refused : goal.returns-in_err-number_of-clause-refused
returns-in_err-number_of-clause-refused c =
    let p = err_from_is_err_and c.from_residual-in_err-number_of.result c.from_residual-in_err-number_of.ensures.1 in
    let within : c.loop-target.target-index < length c.args.targets.now = omega (arith, c.loop-target-test.true) in
    let fits : SFits w64 (get_or c.args.targets.now c.loop-target.target-index (pos 0)) = search rules in
    rw (p.1, p.2) (lacks_at c.args.table.now.starts.items c.args.at c.args.targets.now c.loop-target.target-index _ c.in_err-number_of.field-0.0 within (to_z-of_z w64 _ fits ∙ get_or_default c.args.targets.now c.loop-target.target-index _ _ within) c.in_err-number_of.ensures.refused)

pub loop-target-preserved : goal.loop-target-preserved
loop-target-preserved c =
    let starts = c.args.table.now.starts.items in
    let targets = c.args.targets.now in
    let i = c.loop-target.target-index in
    let within : i < length targets = omega (arith, c.loop-target-test.true) in
    let fits : SFits w64 (get_or targets i (pos 0)) = search rules in
    let number_fits : SFits w64 c.in_ok-number_of.field-0 = search rules in
    let one = numbers_more starts targets c.loop-target.numbers i _ _ within (to_z-of_z w64 _ fits ∙ get_or_default targets i _ _ within) c.loop-target.invariant c.in_ok-number_of.ensures.found in
    subst (AreNumbers starts (take (i + 1) targets)) (sym c.in_ok-push.ensures.ok)
    (subst (λ (n : ℤ). AreNumbers starts (take (i + 1) targets) (c.loop-target.numbers ++ n ∷ [])) (sym (to_z-of_z w64 c.in_ok-number_of.field-0 number_fits)) one)

pub returns-clause-found : goal.returns-clause-found
returns-clause-found c =
    subst (λ (targets : List ℤ). AreNumbers c.args.table.now.starts.items targets c.loop-target.numbers) (take_all c.loop-target.target-index c.args.targets.now (omega (arith, c.loop-target-test.false))) c.loop-target.invariant
