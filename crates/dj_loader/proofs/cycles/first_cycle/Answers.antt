use Rattle.std.proofs.Common.{◌≡◌, ℕ, ◌<◌, ◌^◌, List, length, ap, ◌∙◌, sym, subst}
use Rattle.std.specs.Global.{Vec}
use Rattle.dj_graph.specs.Graphs.{edges_of, IsInside, AreComponents}
use Rattle.dj_loader.specs.Numbered.{edges_in}
use Rattle.dj_loader.proofs.Components.{edges_inside, first_of_cycles, first_within}
use Rattle.dj_loader.proofs.cycles.first_cycle.Goals as goal

few_lent : (lent lists : List (Vec ℕ)) → lent ≡ lists → length lists < 2 ^ 31 → length lent < 2 ^ 31
few_lent lent lists is few = subst (λ (es : List (Vec ℕ)). length es < 2 ^ 31) (sym is) few

components_lent : (lent again lists : List (Vec ℕ)) (ns numbers : List ℕ) → lent ≡ lists → again ≡ lists → ns ≡ numbers → AreComponents (edges_of lent) numbers → AreComponents (edges_of again) ns
components_lent lent again lists ns numbers is too are components =
    subst (λ (xs : List ℕ). AreComponents (edges_of again) xs) (sym are) (subst (λ (es : List (Vec ℕ)). AreComponents (edges_of es) numbers) (is ∙ sym too) components)

pub components-requires-clause-few : goal.components-requires-clause-few
components-requires-clause-few c = few_lent c.deref.result.now c.in_ok-edges.edges.items c.deref.ensures.value c.in_ok-edges.ensures.few

pub components-requires-clause-inside : goal.components-requires-clause-inside
components-requires-clause-inside c =
    subst (λ (es : List (Vec ℕ)). IsInside (edges_of es)) (sym c.deref.ensures.value) (subst IsInside (sym c.in_ok-edges.ensures.edges) (edges_inside c.args.table.now))

pub first_back-requires-clause-few : goal.first_back-requires-clause-few
first_back-requires-clause-few c = few_lent c.deref-2.result.now c.in_ok-edges.edges.items c.deref-2.ensures.value c.in_ok-edges.ensures.few

pub returns-clause-first : goal.returns-clause-first
returns-clause-first c =
    let are : edges_of c.deref-2.result.now ≡ edges_in c.args.table.now = ap (λ (es : List (Vec ℕ)). edges_of es) c.deref-2.ensures.value ∙ c.in_ok-edges.ensures.edges in
    first_of_cycles c.args.table.now (edges_of c.deref-2.result.now) c.deref-3.result.now are
    (components_lent c.deref.result.now c.deref-2.result.now c.in_ok-edges.edges.items c.deref-3.result.now c.in_ok-numbers.numbers.items c.deref.ensures.value c.deref-2.ensures.value c.deref-3.ensures.value c.in_ok-numbers.ensures)
    c.first_back.result c.first_back.ensures

pub returns-clause-there : goal.returns-clause-there
returns-clause-there c =
    let are : edges_of c.deref-2.result.now ≡ edges_in c.args.table.now = ap (λ (es : List (Vec ℕ)). edges_of es) c.deref-2.ensures.value ∙ c.in_ok-edges.ensures.edges in
    first_within c.args.table.now (edges_of c.deref-2.result.now) c.deref-3.result.now are
    (components_lent c.deref.result.now c.deref-2.result.now c.in_ok-edges.edges.items c.deref-3.result.now c.in_ok-numbers.numbers.items c.deref.ensures.value c.deref-2.ensures.value c.deref-3.ensures.value c.in_ok-numbers.ensures)
    c.first_back.result c.first_back.ensures
