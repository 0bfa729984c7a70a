use Rattle.std.proofs.Common.{ℕ, ◌<◌, ◌++◌, ◌∷◌, [], length, subst, sym, ◌∙◌, ap, arith}
use Rattle.std.specs.Global.{Vec}
use Rattle.std.proofs.lemmas.List.{length-map}
use Rattle.dj_resolution.specs.Numbers.{AreInside, lists_of}
use Rattle.dj_resolution.proofs.Chained.{next_within}
use Rattle.dj_resolution.proofs.Marks.{inside_more}
use Rattle.dj_resolution.proofs.downward.subclasses.Goals as goal
use Rattle.dj_resolution.proofs.downward.subclasses.Goals.{in-Some+in_ok-push, in_default}

pub index_mut-requires : goal.index_mut-requires
index_mut-requires c =
    let lt = next_within c.args.table.now c.loop-class.class c.in-Some.next (sym c.in-Some.ensures) in
    let count = length-map c.loop-class.below.items (λ (l : Vec ℕ). l.items) in
    omega (arith, lt, count, c.loop-class.invariant.count)

pub loop-class-preserved : goal.loop-class-preserved
loop-class-preserved c = elim c.match-super_of.branch [
  | in-Some+in_ok-push w ↦
      (let there : c.loop-class.class < length c.args.table.now = omega (arith, c.class_count-count.ensures.count) in
      subst (λ (below : Vec (Vec ℕ)). AreInside (length c.args.table.now) (lists_of below.items)) (sym w.below-is)
      (inside_more (length c.args.table.now) c.loop-class.below.items w.in-Some.next c.loop-class.class w.index_mut.result.now w.push.new.self c.loop-class.invariant
      (next_within c.args.table.now c.loop-class.class w.in-Some.next (sym w.in-Some.ensures)) there
      (w.in_ok-push.ensures.items ∙ ap (λ (list : Vec ℕ). list.items ++ c.loop-class.class ∷ []) w.index_mut.ensures.value)))
  | in_default w ↦ subst (λ (below : Vec (Vec ℕ)). AreInside (length c.args.table.now) (lists_of below.items)) (sym w.below-is) c.loop-class.invariant
]
