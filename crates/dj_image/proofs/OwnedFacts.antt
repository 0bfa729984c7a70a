-- The constant of an index among kept entries.
use Rattle.std.proofs.Common.{◌≡◌, ℕ, zero, suc, ◌-◌, ◌<◌, ◌≤◌, List, length, map, get_or, Some, None, refl, arith}
use Rattle.std.proofs.lemmas.Option.{slice_get-map, slice_get-get_or, slice_get_past}
use Rattle.dj_pool.specs.trusted.Pool.{constant_at}
use Rattle.dj_image.specs.declared.owned.OwnedEntry.{OwnedEntry}
use Rattle.dj_image.specs.Owned.{constant_of_owned}

pub entry_found : (entries : List OwnedEntry) (index : ℕ) (d : OwnedEntry) → (index ≡ 0 → ⊥) → index - 1 < length entries → Some (constant_of_owned (get_or entries (index - 1) d)) ≡ constant_at (map constant_of_owned entries) index
entry_found entries zero d some lt = absurd (some refl)
entry_found entries (suc i) d some lt =
    let k : suc i - 1 ≡ i = omega arith in
    let within : i < length entries = omega arith in
    rw (k, slice_get-map constant_of_owned entries i, slice_get-get_or entries i d within) refl

pub entry_missing : (entries : List OwnedEntry) (index : ℕ) → (index ≡ 0 → ⊥) → length entries ≤ index - 1 → None ≡ constant_at (map constant_of_owned entries) index
entry_missing entries zero some le = absurd (some refl)
entry_missing entries (suc i) some le =
    let past : length entries ≤ i = omega arith in
    rw (slice_get-map constant_of_owned entries i, slice_get_past entries i past) refl
