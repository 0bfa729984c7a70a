use Rattle.std.proofs.Common.{rules, ◌+◌, ◌<◌, ℤ, pos, List, [], ◌∷◌, ◌++◌, take, get_or, length, w32, w64, SFits, to_z, of_z, ◌≡◌, ap₂, sym, subst, ◌∙◌, arith}
use Rattle.std.proofs.lemmas.List.{take_all, get_or_default}
use Rattle.std.proofs.lemmas.Int.{to_z-of_z}
use Rattle.std.proofs.lemmas.Result.{err_from_is_err_and}
use Rattle.dj_labels.specs.Passes.{ArePairs}
use Rattle.dj_labels.proofs.TargetLaws.{pairs_lack, pairs_none, pairs_more}
use Rattle.dj_labels.proofs.targets.number_pairs.Goals as goal

pub loop-key-init : goal.loop-key-init
loop-key-init c = subst (ArePairs c.args.table.now.starts.items []) (sym c.in_ok-numbered.ensures) (pairs_none c.args.table.now.starts.items)

pub returns-in_err-number_of-clause-refused : goal.returns-in_err-number_of-clause-refused
returns-in_err-number_of-clause-refused c =
    let p = err_from_is_err_and c.from_residual-in_err-number_of.result c.from_residual-in_err-number_of.ensures.1 in
    let pairs = c.args.pairs.now in
    let i = c.loop-key.key-index in
    let within : i < length pairs = omega (arith, c.loop-key-test.true) in
    let pair : ℤ × ℤ = get_or pairs i (pos 0, pos 0) in
    let key_fits : SFits w32 pair.0 = search rules in
    let target_fits : SFits w64 pair.1 = search rules in
    let same : ◌≡◌ {A = ℤ × ℤ} (to_z w32 (of_z w32 pair.0), to_z w64 (of_z w64 pair.1)) pair = ap₂ (λ (k t : ℤ). (k, t)) (to_z-of_z w32 pair.0 key_fits) (to_z-of_z w64 pair.1 target_fits) in
    let here = same ∙ get_or_default pairs i _ (to_z w32 (of_z w32 pair.0), to_z w64 (of_z w64 pair.1)) within in
    rw (p.1, p.2) (pairs_lack c.args.table.now.starts.items c.args.at pairs i _ _ c.in_err-number_of.field-0.0 within here c.in_err-number_of.ensures.refused)

pub loop-key-preserved : goal.loop-key-preserved
loop-key-preserved c =
    let pairs = c.args.pairs.now in
    let i = c.loop-key.key-index in
    let within : i < length pairs = omega (arith, c.loop-key-test.true) in
    let pair : ℤ × ℤ = get_or pairs i (pos 0, pos 0) in
    let key_fits : SFits w32 pair.0 = search rules in
    let target_fits : SFits w64 pair.1 = search rules in
    let same : ◌≡◌ {A = ℤ × ℤ} (to_z w32 (of_z w32 pair.0), to_z w64 (of_z w64 pair.1)) pair = ap₂ (λ (k t : ℤ). (k, t)) (to_z-of_z w32 pair.0 key_fits) (to_z-of_z w64 pair.1 target_fits) in
    let here = same ∙ get_or_default pairs i _ (to_z w32 (of_z w32 pair.0), to_z w64 (of_z w64 pair.1)) within in
    let starts = c.args.table.now.starts.items in
    let number_fits : SFits w64 c.in_ok-number_of.field-0 = search rules in
    let one = pairs_more starts pairs c.loop-key.numbered i _ _ c.in_ok-number_of.field-0 within here c.loop-key.invariant c.in_ok-number_of.ensures.found in
    subst (ArePairs starts (take (i + 1) pairs)) (sym c.in_ok-push.ensures.ok)
    (subst (λ (n : ℤ). ArePairs starts (take (i + 1) pairs) (c.loop-key.numbered ++ (to_z w32 (of_z w32 pair.0), n) ∷ [])) (sym (to_z-of_z w64 c.in_ok-number_of.field-0 number_fits)) one)

pub returns-clause-found : goal.returns-clause-found
returns-clause-found c =
    subst (λ (pairs : List (ℤ × ℤ)). ArePairs c.args.table.now.starts.items pairs c.loop-key.numbered) (take_all c.loop-key.key-index c.args.pairs.now (omega (arith, c.loop-key-test.false))) c.loop-key.invariant
