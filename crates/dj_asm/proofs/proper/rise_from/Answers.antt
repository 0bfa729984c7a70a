use Rattle.std.proofs.Common.{rules, ◌≡◌, ◌+◌, ◌<◌, ◌≤ℤ◌, ◌<ℤ◌, ℤ, pos, [], length, map, drop, slice_index_or, w32, SFits, to_z, of_z, ap, ◌∙◌, arith}
use Rattle.std.proofs.lemmas.Int.{to_z-of_z}
use Rattle.std.proofs.lemmas.List.{get_or_default}
use Rattle.dj_asm_source.specs.declared.targets.Pair as the_pair
use Rattle.dj_asm_source.specs.PairViews.{pair_view}
use Rattle.dj_asm.specs.Judging.{rise_from}
use Rattle.dj_asm.proofs.JudgedLines.{rise_stops, rise_goes}
use Rattle.dj_asm.proofs.proper.rise_from.Goals as goal

pub returns-then-pair-last : goal.returns-then-pair-last
returns-then-pair-last c =
    let pairs = c.args.pairs.now in
    let i = c.loop-pair.pair-index in
    let within : i < length pairs = omega (arith, c.loop-pair-test.true) in
    let pair : the_pair.Pair = slice_index_or pairs i (record { key = pos 0; target = record { bytes = record { ref_ptr = (0, 0); now = [] } } }) in
    let le : pair.key ≤ℤ c.loop-pair.last = search rules in
    let last_is : c.loop-pair.last ≡ to_z w32 c.loop-pair.last-bits = search rules in
    let key_fits : SFits w32 c.args.key = search rules in
    let so_far : rise_from (to_z w32 c.loop-pair.last-bits) (map pair_view (drop i pairs)) ≡ rise_from (to_z w32 (of_z w32 c.args.key)) (map pair_view pairs) = c.loop-pair.invariant in
    rise_stops pairs i pair c.loop-pair.last within (get_or_default pairs i _ pair within) le
    ∙ (ap (λ (k : ℤ). rise_from k (map pair_view (drop i pairs))) last_is ∙ (so_far ∙ ap (λ (k : ℤ). rise_from k (map pair_view pairs)) (to_z-of_z w32 c.args.key key_fits)))

pub loop-pair-preserved : goal.loop-pair-preserved
loop-pair-preserved c =
    let pairs = c.args.pairs.now in
    let i = c.loop-pair.pair-index in
    let within : i < length pairs = omega (arith, c.loop-pair-test.true) in
    let pair : the_pair.Pair = slice_index_or pairs i (record { key = pos 0; target = record { bytes = record { ref_ptr = (0, 0); now = [] } } }) in
    let fits : SFits w32 pair.key = search rules in
    let less : c.loop-pair.last <ℤ pair.key = search rules in
    let last_is : c.loop-pair.last ≡ to_z w32 c.loop-pair.last-bits = search rules in
    let so_far : rise_from (to_z w32 c.loop-pair.last-bits) (map pair_view (drop i pairs)) ≡ rise_from (to_z w32 (of_z w32 c.args.key)) (map pair_view pairs) = c.loop-pair.invariant in
    ap (λ (k : ℤ). rise_from k (map pair_view (drop (i + 1) pairs))) (to_z-of_z w32 pair.key fits)
    ∙ (rise_goes pairs i pair c.loop-pair.last within (get_or_default pairs i _ pair within) less
    ∙ (ap (λ (k : ℤ). rise_from k (map pair_view (drop i pairs))) last_is ∙ so_far))
