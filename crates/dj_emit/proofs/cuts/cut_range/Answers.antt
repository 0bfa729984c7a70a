use Rattle.std.proofs.Common.{◌≡◌, ℕ, ◌+◌, ◌-◌, ◌<◌, ◌≤◌, List, [], ◌∷◌, ◌++◌, map, length, ap, ap₂, sym, ◌∙◌, arith}
use Rattle.dj_labels.specs.declared.labelled.Protected.{Protected}
use Rattle.dj_groups.specs.Groups.{start, own, cut, pieces}
use Rattle.dj_groups.specs.Grouped.{protected_pieces}
use Rattle.dj_emit.specs.Parts.{groups_seen}
use Rattle.dj_emit.specs.Cuts.{piece}
use Rattle.dj_emit.proofs.Steps.{length_groups}
use Rattle.dj_emit.proofs.CutFacts.{left, put_next, put_last, start_length, own_length, found_start, found_own, found_next, same_found, on_ok_same}
use Rattle.dj_emit.proofs.cuts.cut_range.Goals as goal

pub index-requires : goal.index-requires
index-requires c = omega (arith, start_length c.args.places.now c.requires.places, c.requires.within.handled)

pub index-from-requires : goal.index-from-requires
index-from-requires c = omega (arith, start_length c.args.places.now c.requires.places, c.requires.within.some, c.requires.within.within)

pub loop-at-init : goal.loop-at-init
loop-at-init c =
    let gs = groups_seen c.args.places.now.groups.items in
    let range = c.args.range in
    let handled : Protected = record { start = range.start; end = range.end; handler = c.index.result.now; catch_type = range.catch_type } in
    let from : c.index-from.result.now ≡ start gs range.start =
    found_start c.args.places.now range.start c.index-from.result.now c.requires.places (omega (arith, c.requires.within.some, c.requires.within.within)) c.index-from.ensures in
    record {
      low = omega (arith, c.requires.within.some);
      here = ap (λ (x : ℕ). c.args.out.now ++ left handled (cut gs x range.start (range.end - range.start))) from;
    }

pub index-requires-in-loop-at-2 : goal.index-requires-in-loop-at-2
index-requires-in-loop-at-2 c =
    let low : c.loop-at.k ≤ length c.args.places.now.groups.items = omega (arith, c.loop-at.invariant.low, c.requires.within.within) in
    let same = same_found c.args.places.now c.loop-at.k c.index-at.result.now c.index-in-loop-at.result.now c.requires.places low c.index-at.ensures c.index-in-loop-at.ensures in
    omega (arith, same, c.loop-at-test.true, c.requires.within.within, start_length c.args.places.now c.requires.places)

pub index-from-requires-in-loop-at : goal.index-from-requires-in-loop-at
index-from-requires-in-loop-at c =
    let low : c.loop-at.k ≤ length c.args.places.now.groups.items = omega (arith, c.loop-at.invariant.low, c.requires.within.within) in
    let same = same_found c.args.places.now c.loop-at.k c.index-at.result.now c.index-in-loop-at.result.now c.requires.places low c.index-at.ensures c.index-in-loop-at.ensures in
    omega (arith, same, c.loop-at-test.true, c.requires.within.within, own_length c.args.places.now c.requires.places)

pub loop-at-smaller : goal.loop-at-smaller
loop-at-smaller c =
    let low : c.loop-at.k ≤ length c.args.places.now.groups.items = omega (arith, c.loop-at.invariant.low, c.requires.within.within) in
    let same = same_found c.args.places.now c.loop-at.k c.index-at.result.now c.index-in-loop-at.result.now c.requires.places low c.index-at.ensures c.index-in-loop-at.ensures in
    let next = found_next c.args.places.now c.loop-at.k c.index-at.result.now c.requires.places low c.index-at.ensures in
    omega (arith, same, c.loop-at-test.true, next.low)

pub loop-at-preserved : goal.loop-at-preserved
loop-at-preserved c =
    let places = c.args.places.now in
    let gs = groups_seen places.groups.items in
    let range = c.args.range in
    let handled : Protected = record { start = range.start; end = range.end; handler = c.index.result.now; catch_type = range.catch_type } in
    let low : c.loop-at.k ≤ length places.groups.items = omega (arith, c.loop-at.invariant.low, c.requires.within.within) in
    let at = c.index-at.result.now in
    let same = same_found places c.loop-at.k at c.index-in-loop-at.result.now c.requires.places low c.index-at.ensures c.index-in-loop-at.ensures in
    let next = found_next places c.loop-at.k at c.requires.places low c.index-at.ensures in
    let less : at < range.end = omega (arith, same, c.loop-at-test.true) in
    let within : at ≤ length places.groups.items = omega (arith, less, c.requires.within.within) in
    let all : range.end ≤ length gs = omega (arith, c.requires.within.within, length_groups places.groups.items) in
    let to : c.index-in-loop-at-2.result.now ≡ start gs at = found_start places at c.index-in-loop-at-2.result.now c.requires.places within c.index-in-loop-at-2.ensures in
    let own_is : c.index-from-in-loop-at.result.now ≡ own gs at = found_own places at c.index-from-in-loop-at.result.now c.requires.places within c.index-from-in-loop-at.ensures in
    record {
      low = omega (arith, less);
      here = ap₂ (λ (out : List Protected) (from : ℕ). out ++ left handled (cut gs from (at + 1) (range.end - (at + 1))))
          (c.in_ok-put_piece.ensures ∙ ap (λ (x : ℕ). c.loop-at.out ++ left handled ((c.loop-at.from, x) ∷ [])) to) own_is
          ∙ put_next gs handled c.loop-at.out _ c.loop-at.from c.loop-at.k range.end at next less all c.loop-at.invariant.here;
    }

pub index-requires-2 : goal.index-requires-2
index-requires-2 c = omega (arith, start_length c.args.places.now c.requires.places, c.requires.within.within)

pub returns : goal.returns
returns c =
    let places = c.args.places.now in
    let gs = groups_seen places.groups.items in
    let range = c.args.range in
    let handled : Protected = record { start = range.start; end = range.end; handler = c.index.result.now; catch_type = range.catch_type } in
    let low : c.loop-at.k ≤ length places.groups.items = omega (arith, c.loop-at.invariant.low, c.requires.within.within) in
    let next = found_next places c.loop-at.k c.index-in-loop-at.result.now c.requires.places low c.index-in-loop-at.ensures in
    let handler : c.index.result.now ≡ start gs range.handler = found_start places range.handler c.index.result.now c.requires.places (omega (arith, c.requires.within.handled)) c.index.ensures in
    let to : c.index-2.result.now ≡ start gs range.end = found_start places range.end c.index-2.result.now c.requires.places c.requires.within.within c.index-2.ensures in
    on_ok_same c.put_piece-2.result (c.put_piece-2.new.out ≡ c.loop-at.out ++ left handled ((c.loop-at.from, c.index-2.result.now) ∷ []))
    (c.put_piece-2.new.out ≡ c.args.out.now ++ protected_pieces gs range)
    (λ put.
    put ∙ ap (λ (x : ℕ). c.loop-at.out ++ left handled ((c.loop-at.from, x) ∷ [])) to
    ∙ put_last gs handled c.loop-at.out _ c.loop-at.from c.loop-at.k range.end c.index-in-loop-at.result.now next c.loop-at-test.false c.loop-at.invariant.low c.loop-at.invariant.here
    ∙ ap (λ (x : ℕ). c.args.out.now ++ map (piece (record { start = range.start; end = range.end; handler = x; catch_type = range.catch_type })) (pieces gs range.start range.end)) handler)
    c.put_piece-2.ensures
