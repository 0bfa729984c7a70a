-- When a tree's kinds may go on at another's.
use Rattle.std.proofs.Common.{◌≡◌, ℕ, suc, ◌+◌, ◌-◌, ◌≤◌, List, Some, sym, ap, subst, ◌∙◌, inl, inr, arith}
use Rattle.dj_names.specs.declared.descriptor.Kind.{Kind}
use Rattle.dj_kind_trees.specs.declared.node.Node.{Node}
use Rattle.dj_kind_trees.specs.Nodes.{node_at, size_of, kind_of, kind_at, Meets, AreNodes, Keeps}
use Rattle.dj_kind_trees.proofs.Growing.{meets_kept, meets_before}
use Rattle.dj_kind_trees.proofs.Halves.{size_more, size_some, kind_low, left_slot, right_slot, which_half, none_first}

pub meets_self : (nodes : List Node) (h s : ℕ) → Meets nodes h s s
meets_self nodes h s = record { each = λ slot kind within at. at }

pub meets_same : (nodes : List Node) (h s f : ℕ) → s ≡ f → Meets nodes h s f
meets_same nodes h s f e = subst (Meets nodes h s) e (meets_self nodes h s)

pub meets_first : (nodes : List Node) (h s f : ℕ) → AreNodes nodes → f ≡ 0 → Meets nodes h s f
meets_first nodes h s f are none = record {
  each = λ slot kind within at. absurd (let z = sym (ap (λ (k : ℕ). kind_at nodes h k slot) none ∙ none_first nodes h slot are) ∙ at in cc);
}

pub meets_known : (nodes : List Node) (h s f : ℕ) (b : Node) → AreNodes nodes → b ≡ node_at nodes f → b.met ≡ s → (b.met ≡ 0 → ⊥) → b.height ≡ h → Meets nodes h s f
meets_known nodes h s f b are at is some high = elim (are.remember f) [
  | inl none ↦ absurd (some (ap (λ (n : Node). n.met) at ∙ none))
  | inr m ↦
      let height : (node_at nodes f).height ≡ h = sym (ap (λ (n : Node). n.height) at) ∙ high in
      let met : (node_at nodes f).met ≡ s = sym (ap (λ (n : Node). n.met) at) ∙ is in
      subst (λ (k : ℕ). Meets nodes k s f) height (subst (λ (k : ℕ). Meets nodes (node_at nodes f).height k f) met m.1)
]

-- ---- of height 0

abbrev pub KindFlows : ℕ → ℕ → Type 0
KindFlows s f = (kind : Kind) → kind_of f ≡ Some kind → kind_of s ≡ Some kind

pub low_meets : (nodes : List Node) (h s f : ℕ) → h ≡ 0 → KindFlows s f → Meets nodes h s f
low_meets nodes h s f low flows = record {
  each = λ slot kind within at.
      ap (λ (k : ℕ). kind_at nodes k s slot) low ∙ kind_low nodes s slot
      ∙ flows kind (sym (kind_low nodes f slot) ∙ ap (λ (k : ℕ). kind_at nodes k f slot) (sym low) ∙ at);
}

pub meets_low : (nodes : List Node) (h s f : ℕ) → h ≡ 0 → Meets nodes h s f → KindFlows s f
meets_low nodes h s f low meets kind at =
    sym (ap (λ (k : ℕ). kind_at nodes k s 0) low ∙ kind_low nodes s 0)
    ∙ meets.each 0 kind (size_some h) (ap (λ (k : ℕ). kind_at nodes k f 0) low ∙ kind_low nodes f 0 ∙ at)

-- ---- of halves

both_meet : (nodes : List Node) (h s f : ℕ) → Meets nodes h (node_at nodes s).left (node_at nodes f).left → Meets nodes h (node_at nodes s).right (node_at nodes f).right → Meets nodes (suc h) s f
both_meet nodes h s f l r = record {
  each = λ slot kind within at. elim (which_half h slot within) [
    | inl less ↦ left_slot nodes h s slot less ∙ l.each slot kind less (sym (left_slot nodes h f slot less) ∙ at)
    | inr past ↦ right_slot nodes h s slot past.0 ∙ r.each (slot - size_of h) kind past.1 (sym (right_slot nodes h f slot past.0) ∙ at)
  ];
}

left_meets : (nodes : List Node) (h s f : ℕ) → Meets nodes (suc h) s f → Meets nodes h (node_at nodes s).left (node_at nodes f).left
left_meets nodes h s f meets = record {
  each = λ slot kind within at.
      sym (left_slot nodes h s slot within) ∙ meets.each slot kind (omega (arith, within, size_more h)) (left_slot nodes h f slot within ∙ at);
}

right_meets : (nodes : List Node) (h s f : ℕ) → Meets nodes (suc h) s f → Meets nodes h (node_at nodes s).right (node_at nodes f).right
right_meets nodes h s f meets = record {
  each = λ slot kind within at.
      let there : size_of h + slot - size_of h ≡ slot = omega arith in
      let past : size_of h ≤ size_of h + slot = omega arith in
      ap (kind_at nodes h (node_at nodes s).right) (sym there) ∙ sym (right_slot nodes h s (size_of h + slot) past)
      ∙ meets.each (size_of h + slot) kind (omega (arith, within, size_more h)) (right_slot nodes h f (size_of h + slot) past ∙ ap (kind_at nodes h (node_at nodes f).right) there ∙ at);
}

-- the code's two steps: the left halves, and then the right ones
module _ (old mid : List Node) (h low s f : ℕ) (x y : Node) (high : h ≡ suc low) (are : AreNodes old) (keeps : Keeps old mid) (a : x ≡ node_at old s) (b : y ≡ node_at old f) where
  pub lefts_meet : Meets old h s f → Meets old low x.left y.left
  lefts_meet meets =
      subst (λ (n : Node). Meets old low n.left y.left) (sym a) (subst (λ (n : Node). Meets old low (node_at old s).left n.left) (sym b)
      (left_meets old low s f (subst (λ (k : ℕ). Meets old k s f) high meets)))

  pub rights_meet : Meets old h s f → Meets mid low x.right y.right
  rights_meet meets =
      subst (λ (n : Node). Meets mid low n.right y.right) (sym a) (subst (λ (n : Node). Meets mid low (node_at old s).right n.right) (sym b)
      (meets_kept old mid low (node_at old s).right (node_at old f).right keeps (are.closed s).1 (are.closed f).1
      (right_meets old low s f (subst (λ (k : ℕ). Meets old k s f) high meets))))

  pub halves_meet : Meets old low x.left y.left → Meets mid low x.right y.right → Meets old h s f
  halves_meet l r =
      let left = subst (λ (n : Node). Meets old low n.left (node_at old f).left) a (subst (λ (n : Node). Meets old low x.left n.left) b l) in
      let right = subst (λ (n : Node). Meets mid low n.right (node_at old f).right) a (subst (λ (n : Node). Meets mid low x.right n.right) b r) in
      subst (λ (k : ℕ). Meets old k s f) (sym high)
      (both_meet old low s f left (meets_before old mid low (node_at old s).right (node_at old f).right keeps (are.closed s).1 (are.closed f).1 right))
