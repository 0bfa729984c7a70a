use Rattle.std.proofs.Common.{◌≡◌, false, ℤ, pos, ◌-ℤ◌, unsigned_abs, int_lt, get_or, sym, ap, ◌∙◌, w32, w64, to_z, of_z, SFits, rules, arith}
use Rattle.std.proofs.lemmas.Int.{ints, to_z-of_z}
use Rattle.dj_effects.proofs.SwitchFacts.{table_found}
use Rattle.dj_effects.proofs.jumps.table_target.Goals as goal

pub returns-then-place-targets : goal.returns-then-place-targets
returns-then-place-targets c =
    let z = to_z-of_z w32 c.args.z c.ranges.z in
    let low = to_z-of_z w32 c.args.low c.ranges.low in
    let over : int_lt c.args.z c.args.low ≡ false =
    sym (ap (λ (l : ℤ). int_lt (to_z w32 (of_z w32 c.args.z)) l) low ∙ ap (λ (k : ℤ). int_lt k c.args.low) z) ∙ c.if-z-low.false in
    let distance : to_z w64 (of_z w64 (to_z w64 (of_z w64 c.from.result) -ℤ to_z w64 (of_z w64 c.from-2.result))) ≡ c.args.z -ℤ c.args.low =
    omega (arith, ints, c.from.ensures, c.from-2.ensures) in
    let fits : SFits w64 (get_or c.args.targets.now c.unsigned_abs-place.result (pos 0)) = search rules in
    c.unsigned_abs.ensures.value
    ∙ (ap unsigned_abs (to_z-of_z w64 (get_or c.args.targets.now c.unsigned_abs-place.result (pos 0)) fits)
    ∙ sym (table_found c.args.targets.now c.args.low c.args.z (to_z w64 (of_z w64 (to_z w64 (of_z w64 c.from.result) -ℤ to_z w64 (of_z w64 c.from-2.result))))
    c.args.default c.unsigned_abs-place.result over c.unsigned_abs-place.ensures.value distance c.if-place-targets.true))
