use Rattle.std.proofs.Common.{◌≡◌, ℤ, pos, ap, ◌∙◌, w8, w32, to_z, of_z, unsigned_abs}
use Rattle.std.specs.Int.{int_wrap, int_rem_euclid}
use Rattle.std.proofs.lemmas.Int.{to_z-of_z}
use Rattle.dj_straight.proofs.machine.values.low_byte.Goals as goal

pub returns : goal.returns
unfolding int_wrap
returns c =
    let value : to_z w32 (of_z w32 c.args.value) ≡ c.args.value = to_z-of_z w32 c.args.value c.ranges.value in
    let rest : to_z w32 (of_z w32 c.rem_euclid.result) ≡ c.rem_euclid.result = to_z-of_z w32 c.rem_euclid.result (record { sfits = c.rem_euclid.type_inv }) in
    let byte : to_z w8 (of_z w8 c.cast_signed.result) ≡ c.cast_signed.result = to_z-of_z w8 c.cast_signed.result (record { sfits = c.cast_signed.type_inv }) in
    byte ∙ c.cast_signed.ensures
    ∙ ap (λ (z : ℤ). to_z w8 (unsigned_abs z)) (rest ∙ c.rem_euclid.ensures.value ∙ ap (λ (z : ℤ). int_rem_euclid z (pos 256)) value)
