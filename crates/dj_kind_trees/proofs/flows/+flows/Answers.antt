use Rattle.std.proofs.Common.{◌≡◌, suc, ◌-◌, true, refl, arith}
use Rattle.std.proofs.lemmas.Bool.Decides.{nat_tests}
use Rattle.dj_kind_trees.proofs.Growing.{meets_kept, keeps_itself, keeps_twice}
use Rattle.dj_kind_trees.proofs.Flowing.{meets_same, meets_first, meets_known, low_meets, meets_low, lefts_meet, rights_meet, halves_meet}
use Rattle.dj_kind_trees.proofs.flows.+flows.Goals as goal
use Rattle.dj_kind_trees.proofs.flows.+flows.Goals.{then-s-f-via-then-s-f, then-s-f-via-else-s-f+then-f-eq0}

pub returns-then-s-f-clause-decides : goal.returns-then-s-f-clause-decides
returns-then-s-f-clause-decides t c = (
  λ e. elim c.then-s-f.branch [
    | then-s-f-via-then-s-f w ↦ meets_same c.args.nodes.now c.args.height c.args.s c.args.f w.if-s-f.true
    | then-s-f-via-else-s-f+then-f-eq0 w ↦ meets_first c.args.nodes.now c.args.height c.args.s c.args.f c.requires.nodes (grind (arith, nat_tests, w.if-f-eq0.true))
  ],
  λ meets. refl,
)

pub returns-then-height-eq0-clause-decides : goal.returns-then-height-eq0-clause-decides
returns-then-height-eq0-clause-decides t c =
    let low : c.args.height ≡ 0 = grind (arith, nat_tests, c.if-height-eq0.true) in (
      λ e. low_meets c.args.nodes.now c.args.height c.args.s c.args.f low (c.kind_flows.ensures.0 e),
      λ meets. c.kind_flows.ensures.1 (meets_low c.args.nodes.now c.args.height c.args.s c.args.f low meets),
    )

pub returns-then-b-height-clause-decides : goal.returns-then-b-height-clause-decides
returns-then-b-height-clause-decides t c = (
  λ e. meets_known c.args.nodes.now c.args.height c.args.s c.args.f c.node_of-b.result c.requires.nodes c.node_of-b.ensures c.if-b-s.true c.if-b-ne0.true c.if-b-height.true,
  λ meets. refl,
)

pub returns-then-not-flows-clause-decides : goal.returns-then-not-flows-clause-decides
returns-then-not-flows-clause-decides t c =
    let high : c.args.height ≡ suc (c.args.height - 1) = grind (arith, nat_tests, c.if-height-eq0.false) in (
      λ e. absurd cc,
      λ meets.
          let is = c.flows.ensures.decides.1 (lefts_meet c.args.nodes.now c.args.nodes.now c.args.height (c.args.height - 1) c.args.s c.args.f c.node_of-a.result c.node_of-b.result high c.requires.nodes (keeps_itself c.args.nodes.now) c.node_of-a.ensures c.node_of-b.ensures meets) in
          let isnt = c.if-not-flows.true in
          absurd cc,
    )

pub returns-then-not-flows-2-clause-decides : goal.returns-then-not-flows-2-clause-decides
returns-then-not-flows-2-clause-decides t c =
    let high : c.args.height ≡ suc (c.args.height - 1) = grind (arith, nat_tests, c.if-height-eq0.false) in (
      λ e. absurd cc,
      λ meets.
          let is = c.flows-2.ensures.decides.1 (rights_meet c.args.nodes.now c.flows.new.nodes c.args.height (c.args.height - 1) c.args.s c.args.f c.node_of-a.result c.node_of-b.result high c.requires.nodes c.flows.ensures.keeps c.node_of-a.ensures c.node_of-b.ensures meets) in
          let isnt = c.if-not-flows-2.true in
          absurd cc,
    )

pub remember-requires-clause-meets : goal.remember-requires-clause-meets
remember-requires-clause-meets t c =
    let high : c.args.height ≡ suc (c.args.height - 1) = grind (arith, nat_tests, c.if-height-eq0.false) in
    let first : c.flows.result ≡ true = let isnt = c.if-not-flows.false in cc in
    let second : c.flows-2.result ≡ true = let isnt = c.if-not-flows-2.false in cc in
    meets_kept c.args.nodes.now c.flows-2.new.nodes c.args.height c.args.s c.args.f (keeps_twice _ _ _ c.flows.ensures.keeps c.flows-2.ensures.keeps) c.requires.left c.requires.right
    (halves_meet c.args.nodes.now c.flows.new.nodes c.args.height (c.args.height - 1) c.args.s c.args.f c.node_of-a.result c.node_of-b.result high c.requires.nodes c.flows.ensures.keeps c.node_of-a.ensures c.node_of-b.ensures
    (c.flows.ensures.decides.0 first) (c.flows-2.ensures.decides.0 second))

pub returns-clause-decides : goal.returns-clause-decides
returns-clause-decides t c =
    let high : c.args.height ≡ suc (c.args.height - 1) = grind (arith, nat_tests, c.if-height-eq0.false) in
    let first : c.flows.result ≡ true = let isnt = c.if-not-flows.false in cc in
    let second : c.flows-2.result ≡ true = let isnt = c.if-not-flows-2.false in cc in (
      λ e. halves_meet c.args.nodes.now c.flows.new.nodes c.args.height (c.args.height - 1) c.args.s c.args.f c.node_of-a.result c.node_of-b.result high c.requires.nodes c.flows.ensures.keeps c.node_of-a.ensures c.node_of-b.ensures
          (c.flows.ensures.decides.0 first) (c.flows-2.ensures.decides.0 second),
      λ meets. refl,
    )
