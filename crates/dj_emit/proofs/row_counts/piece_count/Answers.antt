use Rattle.std.proofs.Common.{◌≡◌, ℕ, ◌+◌, ◌-◌, ◌<◌, ◌≤◌, List, length, ap, ◌∙◌, arith}
use Rattle.std.specs.Prelude.{slice_index_or}
use Rattle.dj_groups.specs.Groups.{Group}
use Rattle.dj_emit.specs.Parts.{groups_seen}
use Rattle.dj_emit.specs.Filed.{arrivals_from, arrivals_before}
use Rattle.dj_emit.proofs.Steps.{length_groups}
use Rattle.dj_emit.proofs.RowCounts.{counts_length, counted, rising, at_most, range_count}
use Rattle.dj_emit.proofs.row_counts.piece_count.Goals as goal

as_many : (gs : List Group) (counts : List ℕ) (n : ℕ) → counts ≡ arrivals_before gs → length gs ≡ n → length counts ≡ n + 1
as_many gs counts n e same = let l = ap length e ∙ counts_length gs in omega (arith, l, same)

at : (gs : List Group) (counts : List ℕ) (k : ℕ) → counts ≡ arrivals_before gs → k ≤ length gs → slice_index_or counts k 0 ≡ arrivals_from gs 0 k
at gs counts k e less = ap (λ (xs : List ℕ). slice_index_or xs k 0) e ∙ counted gs k 0 less

pub bounds-counts-range : goal.bounds-counts-range
bounds-counts-range c =
    let many = as_many (groups_seen c.args.parts.now) c.args.counts.now (length c.args.parts.now) c.requires.counts (length_groups c.args.parts.now) in
    omega (arith, many, c.requires.within.within)

pub bounds-counts-range-2 : goal.bounds-counts-range-2
bounds-counts-range-2 c =
    let many = as_many (groups_seen c.args.parts.now) c.args.counts.now (length c.args.parts.now) c.requires.counts (length_groups c.args.parts.now) in
    omega (arith, many, c.requires.within.within, c.requires.within.some)

pub overflow_sub-result : goal.overflow_sub-result
overflow_sub-result c =
    let gs = groups_seen c.args.parts.now in
    let many = length_groups c.args.parts.now in
    let range = c.args.range in
    let a = at gs c.args.counts.now (range.start + 1) c.requires.counts (omega (arith, many, c.requires.within.within, c.requires.within.some)) in
    let b = at gs c.args.counts.now range.end c.requires.counts (omega (arith, many, c.requires.within.within)) in
    omega (arith, a, b, rising gs (range.start + 1) range.end (omega (arith, c.requires.within.some)))

pub overflow_add-result-2 : goal.overflow_add-result-2
overflow_add-result-2 c =
    let gs = groups_seen c.args.parts.now in
    let many = length_groups c.args.parts.now in
    let range = c.args.range in
    let b = at gs c.args.counts.now range.end c.requires.counts (omega (arith, many, c.requires.within.within)) in
    omega (arith, b, at_most gs 0 range.end, c.requires.within.within, c.requires.few)

pub returns-clause-is : goal.returns-clause-is
returns-clause-is c =
    let gs = groups_seen c.args.parts.now in
    let many = length_groups c.args.parts.now in
    let range = c.args.range in
    let a = at gs c.args.counts.now (range.start + 1) c.requires.counts (omega (arith, many, c.requires.within.within, c.requires.within.some)) in
    let b = at gs c.args.counts.now range.end c.requires.counts (omega (arith, many, c.requires.within.within)) in
    omega (arith, a, b, range_count gs range c.requires.within.some)

pub returns-clause-few : goal.returns-clause-few
returns-clause-few c =
    let gs = groups_seen c.args.parts.now in
    let many = length_groups c.args.parts.now in
    let range = c.args.range in
    let b = at gs c.args.counts.now range.end c.requires.counts (omega (arith, many, c.requires.within.within)) in
    omega (arith, b, at_most gs 0 range.end, c.requires.within.within, c.requires.few)
