use Rattle.std.proofs.Common.{ℕ, List, map, sym, subst, ◌∙◌, ap}
use Rattle.std.proofs.lemmas.Bool.{true≢false}
use Rattle.dj_edge.specs.trusted.Counts.{AllDiffer}
use Rattle.dj_class.specs.Members.{member_of}
use Rattle.dj_straight.specs.Finds.{now_of, methods_view}
use Rattle.dj_straight.specs.trusted.Straight.{AreStraightMethods, AreDistinctMethods}
use Rattle.dj_straight.proofs.StraightCode.{ok_finds}
use Rattle.dj_straight.proofs.StraightNames.{distinct, not_distinct, some_names, method_names, none_found}
use Rattle.dj_straight.proofs.straight.method.distinct_methods.Goals as goal

pub returns-in_default : goal.returns-in_default
returns-in_default c =
    λ y distinct.
    none_found c.args.pool.now (map member_of c.args.methods.now) c.in_ok-names.field-0 c.in_default.not-Some c.in_ok-names.ensures (method_names y)
    (some_names c.args.pool.now (map member_of c.args.methods.now) y distinct.straight)

pub returns-then-not-branch : goal.returns-then-not-branch
returns-then-not-branch c =
    let ms = map member_of c.args.methods.now in
    let names = map now_of c.in-Some.names.items in
    let plain = rw c.in-Some.is at c.in_ok-names.ensures in
    λ y d.
    not_distinct c.args.pool.now ms names plain
    (λ pairs. true≢false (sym (c.in_ok-names_differ.ensures.1 (subst (λ (b : List (List ℕ)). AllDiffer b) (ap (map now_of) (sym c.deref.ensures.value)) pairs)) ∙ c.if-not-branch.true)) y d

pub returns : goal.returns
returns c =
    let ms = map member_of c.args.methods.now in
    let names = map now_of c.in-Some.names.items in
    let plain = rw c.in-Some.is at c.in_ok-names.ensures in
    let differ : AllDiffer names = subst (λ (b : List (List ℕ)). AllDiffer b) (ap (map now_of) c.deref.ensures.value) (c.in_ok-names_differ.ensures.0 c.if-not-branch.false) in
    ok_finds c.straight_methods.result methods_view (AreStraightMethods c.args.pool.now ms) (AreDistinctMethods c.args.pool.now ms)
    (λ y straight. distinct c.args.pool.now ms names plain differ y straight) (λ y d. d.straight) c.straight_methods.ensures
