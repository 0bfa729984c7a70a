use Rattle.std.proofs.Common.{List, ℕ, map, take, refl, sym, subst, arith}
use Rattle.std.proofs.lemmas.Bool.{true≢false}
use Rattle.std.proofs.lemmas.List.{take_all, length-map}
use Rattle.std.specs.BTreeSet as sorted
use Rattle.dj_edge.specs.trusted.Counts.{AllDiffer}
use Rattle.dj_straight.specs.Finds.{now_of}
use Rattle.dj_straight.proofs.StraightNames.{key_cmp, AreSeen, none_seen, one_more_seen, was_seen, names_more, name_again}
use Rattle.dj_straight.proofs.straight.method.names_differ.Goals as goal

pub loop-name-init : goal.loop-name-init
loop-name-init c = none_seen c.new-seen.result c.new-seen.ensures.empty

pub loop-name-preserved : goal.loop-name-preserved
loop-name-preserved c =
    let names = c.args.names.now in
    let i = c.loop-name.name-index in
    subst (λ (ns : List (List ℕ)). AreSeen ns c.insert.new.self) (names_more names i (record { ref_ptr = (0, 0); now = _ }) c.loop-name-test.true)
    (one_more_seen (take i (map now_of names)) c.loop-name.seen c.insert.new.self (record { ref_ptr = (0, 0); now = _ }) c.in_ok-insert.field-0 c.loop-name.invariant
    c.in_ok-insert.ensures.added c.if-not-branch.false c.in_ok-insert.ensures.updates.0)

pub returns-then-not-branch : goal.returns-then-not-branch
returns-then-not-branch c =
    let names = c.args.names.now in
    let i = c.loop-name.name-index in (
      λ t. absurd (true≢false (sym t)),
      λ pairs. absurd (name_again names i (record { ref_ptr = (0, 0); now = _ }) c.loop-name-test.true
          ((c.loop-name.invariant.has (record { ref_ptr = (0, 0); now = _ })).0 (was_seen (sorted.contains key_cmp c.loop-name.seen (record { ref_ptr = (0, 0); now = _ })) c.in_ok-insert.field-0 c.in_ok-insert.ensures.added c.if-not-branch.true)) pairs),
    )

pub returns : goal.returns
returns c =
    let names = map now_of c.args.names.now in (
      λ t. subst (λ (ns : List (List ℕ)). AllDiffer ns)
          (take_all c.loop-name.name-index names (omega (arith, length-map c.args.names.now now_of, c.loop-name-test.false))) c.loop-name.invariant.differ,
      λ pairs. refl,
    )
