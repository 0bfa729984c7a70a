use Rattle.std.proofs.Common.{◌≡◌, ℤ, sym, subst, ◌∙◌, arith, w64, FitsSigned, rules}
use Rattle.std.specs.Prelude.{unsigned_abs}
use Rattle.std.proofs.lemmas.Int.{to_z-of_z}
use Rattle.dj_names.specs.declared.run.Element.TheVariants as elements
use Rattle.dj_natives.specs.Copies.{takes_at}
use Rattle.dj_natives.proofs.Takings.{takes_none, takes_more, takes_stop, takes_all, takes_element, takes_there}
use Rattle.dj_natives.proofs.arrays.taken_before.Goals as goal

pub loop-at-init : goal.loop-at-init
loop-at-init g c =
    takes_none (takes_at (g.C.Classes.program c.args.classes.now) (g.C.Classes.prefix c.args.classes.now) (g.C.Classes.types c.args.classes.now) c.args.heap.now c.args.copy.target)
    c.args.heap.now c.args.copy

pub element-r-requires : goal.element-r-requires
element-r-requires g c = takes_there c.args.heap.now c.args.copy elements.Ref c.loop-at.at c.requires.copy c.loop-at-test.true

pub loop-at-preserved : goal.loop-at-preserved
loop-at-preserved g c =
    let fits : FitsSigned w64 c.element-r.result = search rules in
    let takes = takes_at (g.C.Classes.program c.args.classes.now) (g.C.Classes.prefix c.args.classes.now) (g.C.Classes.types c.args.classes.now) c.args.heap.now c.args.copy.target in
    takes_more takes c.args.heap.now c.args.copy c.loop-at.at c.element-r.result c.loop-at-test.true
    (takes_element takes c.args.heap.now c.args.copy c.loop-at.at c.element-r.result c.element-r.ensures.value)
    (sym (subst (λ (z : ℤ). c.takes.result ≡ takes (unsigned_abs z)) (to_z-of_z w64 c.element-r.result fits) c.takes.ensures) ∙ c.if-not-takes.false) c.loop-at.invariant

pub returns-then-not-takes-clause-takes : goal.returns-then-not-takes-clause-takes
returns-then-not-takes-clause-takes g c =
    let fits : FitsSigned w64 c.element-r.result = search rules in
    let takes = takes_at (g.C.Classes.program c.args.classes.now) (g.C.Classes.prefix c.args.classes.now) (g.C.Classes.types c.args.classes.now) c.args.heap.now c.args.copy.target in
    takes_stop takes c.args.heap.now c.args.copy c.loop-at.at c.element-r.result c.loop-at-test.true
    (takes_element takes c.args.heap.now c.args.copy c.loop-at.at c.element-r.result c.element-r.ensures.value)
    (sym (subst (λ (z : ℤ). c.takes.result ≡ takes (unsigned_abs z)) (to_z-of_z w64 c.element-r.result fits) c.takes.ensures) ∙ c.if-not-takes.true) c.loop-at.invariant

pub returns-clause-takes : goal.returns-clause-takes
returns-clause-takes g c =
    takes_all (takes_at (g.C.Classes.program c.args.classes.now) (g.C.Classes.prefix c.args.classes.now) (g.C.Classes.types c.args.classes.now) c.args.heap.now c.args.copy.target)
    c.args.heap.now c.args.copy c.loop-at.at (omega (arith, c.loop-at-test.false, c.loop-at.auto.at-end)) c.loop-at.invariant
