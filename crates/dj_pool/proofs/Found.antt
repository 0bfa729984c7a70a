-- The constant of an index, what it is as a text, and the first that is not linked, as a loop finds it.
use Rattle.std.proofs.Common.{◌≡◌, ℕ, zero, suc, ◌+◌, ◌-◌, ◌<◌, ◌≤◌, true, false, List, length, map, drop, get_or, Option, Some, None, refl, sym, ap, ◌∙◌, arith, add-one, drop-cons}
use Rattle.std.specs.Prelude.{slice_get, option_map}
use Rattle.std.proofs.lemmas.Option.{slice_get-map, slice_get-get_or, slice_get_past}
use Rattle.std.proofs.lemmas.List.{drop_all}
use Rattle.dj_pool.specs.declared.pool.Entry.{Entry}
use Rattle.dj_pool.specs.declared.kinds.TextKinds.{TextKinds}
use Rattle.dj_pool.specs.trusted.Pool.{Constant, constant_at}
use Rattle.dj_pool.specs.Views.{constant_of}
use Rattle.dj_pool.specs.Tests.{kinds_of, is_fit}
use Rattle.dj_pool.specs.Reading.{first_unlinked}

pub entry_found : (entries : List Entry) (index : ℕ) (d : Entry) → (index ≡ 0 → ⊥) → index - 1 < length entries → Some (constant_of (get_or entries (index - 1) d)) ≡ constant_at (map constant_of entries) index
entry_found entries zero d some lt = absurd (some refl)
entry_found entries (suc i) d some lt =
    let k : suc i - 1 ≡ i = omega arith in
    let within : i < length entries = omega arith in
    rw (k, slice_get-map constant_of entries i, slice_get-get_or entries i d within) refl

pub entry_missing : (entries : List Entry) (index : ℕ) → (index ≡ 0 → ⊥) → length entries ≤ index - 1 → None ≡ constant_at (map constant_of entries) index
entry_missing entries zero some le = absurd (some refl)
entry_missing entries (suc i) some le =
    let past : length entries ≤ i = omega arith in
    rw (slice_get-map constant_of entries i, slice_get_past entries i past) refl

pub kinds_found : (kinds : List TextKinds) (pool : List Constant) (index : ℕ) (d : TextKinds) → kinds ≡ map kinds_of pool → (index ≡ 0 → ⊥) → index - 1 < length kinds → Some (get_or kinds (index - 1) d) ≡ option_map kinds_of (constant_at pool index)
kinds_found kinds pool zero d same some lt = absurd (some refl)
kinds_found kinds pool (suc i) d same some lt =
    let k : suc i - 1 ≡ i = omega arith in
    let within : i < length kinds = omega arith in
    let here : Some (get_or kinds i d) ≡ slice_get kinds i = sym (slice_get-get_or kinds i d within) in
    let there : slice_get kinds i ≡ option_map kinds_of (slice_get pool i) = ap (λ (xs : List TextKinds). slice_get xs i) same ∙ slice_get-map kinds_of pool i in
    rw k (here ∙ there)

pub kinds_missing : (kinds : List TextKinds) (pool : List Constant) (index : ℕ) → kinds ≡ map kinds_of pool → (index ≡ 0 → ⊥) → length kinds ≤ index - 1 → None ≡ option_map kinds_of (constant_at pool index)
kinds_missing kinds pool zero same some le = absurd (some refl)
kinds_missing kinds pool (suc i) same some le =
    let past : length kinds ≤ i = omega arith in
    sym (slice_get_past kinds i past) ∙ ap (λ (xs : List TextKinds). slice_get xs i) same ∙ slice_get-map kinds_of pool i

-- what is left of the search at an index
abbrev pub unlinked_from : List Constant → List Entry → ℕ → Option ℕ
unlinked_from pool entries i = first_unlinked pool (i + 1) (map constant_of (drop i entries))

pub unlinked-fit : (pool : List Constant) (entries : List Entry) (i : ℕ) (d : Entry) → i < length entries → is_fit pool (i + 1) (constant_of (get_or entries i d)) ≡ true → unlinked_from pool entries i ≡ unlinked_from pool entries (i + 1)
unfolding first_unlinked
unlinked-fit pool entries i d lt h = rw (drop-cons entries i d, h, add-one i) refl

pub unlinked-here : (pool : List Constant) (entries : List Entry) (i : ℕ) (d : Entry) → i < length entries → is_fit pool (i + 1) (constant_of (get_or entries i d)) ≡ false → unlinked_from pool entries i ≡ Some (i + 1)
unfolding first_unlinked
unlinked-here pool entries i d lt h = rw (drop-cons entries i d, h) refl

pub unlinked-end : (pool : List Constant) (entries : List Entry) (i : ℕ) → length entries ≤ i → unlinked_from pool entries i ≡ None
unfolding first_unlinked
unlinked-end pool entries i le = rw (drop_all i entries le) refl
