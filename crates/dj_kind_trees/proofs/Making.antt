-- Trees that are made of halves.
use Rattle.std.proofs.Common.{◌≡◌, ℕ, zero, suc, ◌+◌, ◌-◌, ◌<◌, ◌≤◌, List, [], ◌∷◌, length, take, drop, get_or, Option, Some, None, refl, sym, ap, subst, ◌∙◌, inl, inr, arith}
use Rattle.std.specs.Prelude.{◌↔◌}
use Rattle.std.proofs.lemmas.List.{get_or-take, get_or-drop}
use Rattle.dj_names.specs.declared.descriptor.Kind.{Kind}
use Rattle.dj_names.specs.declared.descriptor.Kind.TheVariants as kinds
use Rattle.dj_kind_trees.specs.declared.node.Node.{Node}
use Rattle.dj_kind_trees.specs.Nodes.{node_at, size_of, kind_of, number_of, kind_at, AreNodes, Keeps, IsNode, IsPut, IsReplaced, IsMeet, listed}
use Rattle.dj_kind_trees.proofs.Growing.{keeps_twice}
use Rattle.dj_kind_trees.proofs.Halves.{size_low, kind_low, left_slot, right_slot, left_of, right_of, which_half, none_first}

pub kind_back : (kind : Option Kind) → kind_of (number_of kind) ≡ kind
kind_back None = refl
kind_back (Some kinds.Int) = refl
kind_back (Some kinds.Long) = refl
kind_back (Some kinds.Ref) = refl

-- ---- a tree whose halves have these kinds

pub record AreHalves (nodes : List Node) (low l r made : ℕ) : Type 0 where
  pub within : made < length nodes
  pub left : (slot : ℕ) → slot < size_of low → kind_at nodes (suc low) made slot ≡ kind_at nodes low l slot
  pub right : (slot : ℕ) → size_of low ≤ slot → kind_at nodes (suc low) made slot ≡ kind_at nodes low r (slot - size_of low)

pub node_halves : (nodes : List Node) (low l r made : ℕ) → IsNode nodes l r made → AreHalves nodes low l r made
node_halves nodes low l r made is = record {
  within = is.within;
  left = λ slot less. left_of nodes low l r made slot is less;
  right = λ slot past. right_of nodes low l r made slot is past;
}

-- those of a tree that there was
pub old_halves : (old new : List Node) (low id l r : ℕ) (x : Node) → AreNodes old → Keeps old new → id < length old → x ≡ node_at old id → l ≡ x.left → r ≡ x.right → AreHalves new low l r id
old_halves old new low id l r x are keeps within at e f =
    let left_is : l ≡ (node_at old id).left = e ∙ ap (λ (n : Node). n.left) at in
    let right_is : r ≡ (node_at old id).right = f ∙ ap (λ (n : Node). n.right) at in
    record {
      within = let m = keeps.more in omega (arith, within, m);
      left = λ slot less.
          keeps.same (suc low) id slot within ∙ left_slot old low id slot less ∙ sym (keeps.same low (node_at old id).left slot (are.closed id).0)
          ∙ ap (λ (k : ℕ). kind_at new low k slot) (sym left_is);
      right = λ slot past.
          keeps.same (suc low) id slot within ∙ right_slot old low id slot past ∙ sym (keeps.same low (node_at old id).right (slot - size_of low) (are.closed id).1)
          ∙ ap (λ (k : ℕ). kind_at new low k (slot - size_of low)) (sym right_is);
    }

-- ---- another kind in a slot

pub low_put : (nodes : List Node) (h id slot : ℕ) (kind : Option Kind) (made : ℕ) → h ≡ 0 → AreNodes nodes → made ≡ number_of kind → made < 4 → slot < size_of h
    → IsPut nodes nodes h id slot kind made
low_put nodes h id slot kind made low are is few within =
    let one : size_of h ≡ 1 = ap size_of low ∙ size_low in
    record {
      within = let m = are.many in omega (arith, few);
      here = ap (λ (k : ℕ). kind_at nodes k made slot) low ∙ kind_low nodes made slot ∙ ap kind_of is ∙ kind_back kind;
      others = λ other less ne. absurd (ne (omega (arith, within, less, one)));
    }

module _ (old mid new : List Node) (h low id : ℕ) (x : Node) (slot : ℕ) (kind : Option Kind) (lower made : ℕ) (high : h ≡ suc low) (are : AreNodes old) (at : x ≡ node_at old id) (first : Keeps old mid) (then_more : Keeps mid new) where
  whole : Keeps old new
  whole = keeps_twice old mid new first then_more

  left_at : (s : ℕ) → s < size_of low → kind_at old (suc low) id s ≡ kind_at old low x.left s
  left_at s less = left_slot old low id s less ∙ ap (λ (n : Node). kind_at old low n.left s) (sym at)

  right_at : (s : ℕ) → size_of low ≤ s → kind_at old (suc low) id s ≡ kind_at old low x.right (s - size_of low)
  right_at s past = right_slot old low id s past ∙ ap (λ (n : Node). kind_at old low n.right (s - size_of low)) (sym at)

  left_in : x.left < length old
  left_in = subst (λ (n : Node). n.left < length old) (sym at) (are.closed id).0

  right_in : x.right < length old
  right_in = subst (λ (n : Node). n.right < length old) (sym at) (are.closed id).1

  pub left_put : slot < size_of low → IsPut old mid low x.left slot kind lower → IsNode new lower x.right made → IsPut old new h id slot kind made
  left_put less put node = subst (λ (k : ℕ). IsPut old new k id slot kind made) (sym high) (record {
    within = node.within;
    here = left_of new low lower x.right made slot node less ∙ then_more.same low lower slot put.within ∙ put.here;
    others = λ other within ne. elim (which_half low other within) [
      | inl l ↦ left_of new low lower x.right made other node l ∙ then_more.same low lower other put.within ∙ put.others other l ne ∙ sym (left_at other l)
      | inr r ↦ right_of new low lower x.right made other node r.0 ∙ whole.same low x.right (other - size_of low) right_in ∙ sym (right_at other r.0)
    ];
  })

  pub right_put : size_of low ≤ slot → IsPut old mid low x.right (slot - size_of low) kind lower → IsNode new x.left lower made → IsPut old new h id slot kind made
  right_put past put node = subst (λ (k : ℕ). IsPut old new k id slot kind made) (sym high) (record {
    within = node.within;
    here = right_of new low x.left lower made slot node past ∙ then_more.same low lower (slot - size_of low) put.within ∙ put.here;
    others = λ other within ne. elim (which_half low other within) [
      | inl l ↦ left_of new low x.left lower made other node l ∙ whole.same low x.left other left_in ∙ sym (left_at other l)
      | inr r ↦
          let a = r.0 in
          right_of new low x.left lower made other node r.0 ∙ then_more.same low lower (other - size_of low) put.within
          ∙ put.others (other - size_of low) r.1 (λ e. ne (omega (arith, e, a, past))) ∙ sym (right_at other r.0)
    ];
  })

  -- ---- a list from a slot on, in the right half alone

  pub right_replaced : (from : ℕ) (list : List (Option Kind)) → size_of low ≤ from → IsReplaced old mid low x.right (from - size_of low) list lower → IsNode new x.left lower made
      → IsReplaced old new h id from list made
  right_replaced from list past replaced node = subst (λ (k : ℕ). IsReplaced old new k id from list made) (sym high) (record {
    within = node.within;
    before = λ s within less. elim (which_half low s within) [
      | inl l ↦ left_of new low x.left lower made s node l ∙ whole.same low x.left s left_in ∙ sym (left_at s l)
      | inr r ↦
          let a = r.0 in
          right_of new low x.left lower made s node r.0 ∙ then_more.same low lower (s - size_of low) replaced.within
          ∙ replaced.before (s - size_of low) r.1 (omega (arith, less, past, a)) ∙ sym (right_at s r.0)
    ];
    after = λ s within there. elim (which_half low s within) [
      | inl l ↦ absurd (omega (arith, l, there, past))
      | inr r ↦
          let a = r.0 in
          let same : s - size_of low - (from - size_of low) ≡ s - from = omega (arith, a, past, there) in
          right_of new low x.left lower made s node r.0 ∙ then_more.same low lower (s - size_of low) replaced.within
          ∙ replaced.after (s - size_of low) r.1 (omega (arith, there, a)) ∙ ap (listed list) same
    ];
  })

  -- in the left half alone
  pub left_replaced : (from : ℕ) (list : List (Option Kind)) → AreNodes new → from < size_of low → length list ≤ size_of low - from → IsReplaced old mid low x.left from list lower → IsNode new lower 0 made
      → IsReplaced old new h id from list made
  left_replaced from list are_new less few replaced node = subst (λ (k : ℕ). IsReplaced old new k id from list made) (sym high) (record {
    within = node.within;
    before = λ s within before. let l : s < size_of low = omega (arith, before, less) in
        left_of new low lower 0 made s node l ∙ then_more.same low lower s replaced.within ∙ replaced.before s l before ∙ sym (left_at s l);
    after = λ s within there. elim (which_half low s within) [
      | inl l ↦ left_of new low lower 0 made s node l ∙ then_more.same low lower s replaced.within ∙ replaced.after s l there
      | inr r ↦
          let a = r.0 in
          right_of new low lower 0 made s node r.0 ∙ none_first new low (s - size_of low) are_new ∙ sym (past_list list (s - from) (omega (arith, few, a, less)))
    ];
  }) where
    past_list : (l : List (Option Kind)) (k : ℕ) → length l ≤ k → listed l k ≡ None
    past_list [] k h = refl
    past_list (y ∷ l) zero h = absurd (omega (arith, h))
    past_list (y ∷ l) (suc k) h = past_list l k (omega (arith, h))

  -- in both: `mid` is after the left one, `new` after both
  pub both_replaced : (end : List Node) (from room other : ℕ) (list : List (Option Kind)) → Keeps new end → from < size_of low → room ≡ size_of low - from → IsReplaced old mid low x.left from (take room list) lower
      → IsReplaced mid new low 0 0 (drop room list) other → IsNode end lower other made → IsReplaced old end h id from list made
  both_replaced end from room other list last less is left right node = subst (λ (k : ℕ). IsReplaced old end k id from list made) (sym high) (record {
    within = node.within;
    before = λ s within before. let l : s < size_of low = omega (arith, before, less) in
        left_of end low lower other made s node l ∙ kept s ∙ left.before s l before ∙ sym (left_at s l);
    after = λ s within there. elim (which_half low s within) [
      | inl l ↦
          let near : s - from < room = omega (arith, l, there, less, is) in
          left_of end low lower other made s node l ∙ kept s ∙ left.after s l there ∙ get_or-take room list (s - from) None near
      | inr r ↦
          let a = r.0 in
          let same : room + (s - size_of low - 0) ≡ s - from = omega (arith, is, a, less) in
          right_of end low lower other made s node r.0 ∙ last.same low other (s - size_of low) right.within ∙ right.after (s - size_of low) r.1 (omega arith)
          ∙ get_or-drop room list (s - size_of low - 0) None ∙ ap (listed list) same
    ];
  }) where
    kept : (s : ℕ) → kind_at end low lower s ≡ kind_at mid low lower s
    kept s = last.same low lower s (let m = then_more.more in let w = left.within in omega arith) ∙ then_more.same low lower s left.within

pub none_replaced : (nodes : List Node) (h id from size : ℕ) (list : List (Option Kind)) → id < length nodes → size ≡ size_of h → size ≤ from → IsReplaced nodes nodes h id from list id
none_replaced nodes h id from size list within is past = record {
  within = within;
  before = λ s low less. refl;
  after = λ s low there. absurd (omega (arith, low, there, past, is));
}

pub all_replaced : (nodes : List Node) (h id from : ℕ) (list : List (Option Kind)) → AreNodes nodes → from ≡ 0 → list ≡ [] → IsReplaced nodes nodes h id from list 0
all_replaced nodes h id from list are start empty = record {
  within = let m = are.many in omega arith;
  before = λ s low less. absurd (omega (arith, less, start));
  after = λ s low there. none_first nodes h s are ∙ sym (ap (λ (l : List (Option Kind)). listed l (s - from)) empty);
}

pub low_replaced : (nodes : List Node) (h id from size : ℕ) (list : List (Option Kind)) (made : ℕ) (kind : Option Kind) → AreNodes nodes → h ≡ 0 → size ≡ size_of h → from < size → made ≡ number_of kind → made < 4
    → kind ≡ get_or list 0 None → IsReplaced nodes nodes h id from list made
low_replaced nodes h id from size list made kind are low is less number few first =
    let one : size_of h ≡ 1 = ap size_of low ∙ size_low in
    record {
      within = let m = are.many in omega (arith, few);
      before = λ s within before. absurd (omega (arith, within, before, less, one, is));
      after = λ s within there.
          let start : s - from ≡ 0 = omega (arith, within, one) in
          ap (λ (k : ℕ). kind_at nodes k made s) low ∙ kind_low nodes made s ∙ ap kind_of number ∙ kind_back kind ∙ first ∙ ap (listed list) (sym start);
    }

-- ---- what two have both

pub same_meet : (nodes : List Node) (h a b : ℕ) → a < length nodes → a ≡ b → IsMeet nodes nodes h a b a
same_meet nodes h a b within e = record {
  within = within;
  each = λ slot kind low. (λ at. (at, ap (λ (k : ℕ). kind_at nodes h k slot) (sym e) ∙ at), λ both. both.0);
}

pub left_none_meet : (nodes : List Node) (h a b made : ℕ) → AreNodes nodes → a ≡ 0 → made ≡ 0 → IsMeet nodes nodes h a b made
left_none_meet nodes h a b made are e f = record {
  within = let m = are.many in omega (arith, f);
  each = λ slot kind low. (
    λ at. absurd (let z = sym (ap (λ (k : ℕ). kind_at nodes h k slot) f ∙ none_first nodes h slot are) ∙ at in cc),
    λ both. absurd (let z = sym (ap (λ (k : ℕ). kind_at nodes h k slot) e ∙ none_first nodes h slot are) ∙ both.0 in cc),
  );
}

pub right_none_meet : (nodes : List Node) (h a b made : ℕ) → AreNodes nodes → b ≡ 0 → made ≡ 0 → IsMeet nodes nodes h a b made
right_none_meet nodes h a b made are e f = record {
  within = let m = are.many in omega (arith, f);
  each = λ slot kind low. (
    λ at. absurd (let z = sym (ap (λ (k : ℕ). kind_at nodes h k slot) f ∙ none_first nodes h slot are) ∙ at in cc),
    λ both. absurd (let z = sym (ap (λ (k : ℕ). kind_at nodes h k slot) e ∙ none_first nodes h slot are) ∙ both.1 in cc),
  );
}

abbrev pub KindsMeet : ℕ → ℕ → ℕ → Type 0
KindsMeet a b made = (kind : Kind) → (kind_of made ≡ Some kind) ↔ ((kind_of a ≡ Some kind) × (kind_of b ≡ Some kind))

pub low_meet : (nodes : List Node) (h a b made : ℕ) → h ≡ 0 → made < length nodes → KindsMeet a b made → IsMeet nodes nodes h a b made
low_meet nodes h a b made low within meet = record {
  within = within;
  each = λ slot kind less.
      let at = λ (k : ℕ). ap (λ (n : ℕ). kind_at nodes n k slot) low ∙ kind_low nodes k slot in
      (λ e. let m = (meet kind).0 (sym (at made) ∙ e) in (at a ∙ m.0, at b ∙ m.1), λ both. at made ∙ (meet kind).1 (sym (at a) ∙ both.0, sym (at b) ∙ both.1));
}

-- of halves: `one` is after the left one, `two` after both
module _ (old one two new : List Node) (h low a b : ℕ) (x y : Node) (l r made : ℕ) (high : h ≡ suc low) (are : AreNodes old) (at : x ≡ node_at old a) (bt : y ≡ node_at old b) (first : Keeps old one) (second : Keeps one two) (third : Keeps two new) (left : IsMeet old one low x.left y.left l) (right : IsMeet one two low x.right y.right r) where
  a_left : (s : ℕ) → s < size_of low → kind_at old (suc low) a s ≡ kind_at old low x.left s
  a_left s less = left_slot old low a s less ∙ ap (λ (n : Node). kind_at old low n.left s) (sym at)

  b_left : (s : ℕ) → s < size_of low → kind_at old (suc low) b s ≡ kind_at old low y.left s
  b_left s less = left_slot old low b s less ∙ ap (λ (n : Node). kind_at old low n.left s) (sym bt)

  a_right : (s : ℕ) → size_of low ≤ s → kind_at old (suc low) a s ≡ kind_at one low x.right (s - size_of low)
  a_right s past = right_slot old low a s past ∙ ap (λ (n : Node). kind_at old low n.right (s - size_of low)) (sym at)
      ∙ sym (first.same low x.right (s - size_of low) (subst (λ (n : Node). n.right < length old) (sym at) (are.closed a).1))

  b_right : (s : ℕ) → size_of low ≤ s → kind_at old (suc low) b s ≡ kind_at one low y.right (s - size_of low)
  b_right s past = right_slot old low b s past ∙ ap (λ (n : Node). kind_at old low n.right (s - size_of low)) (sym bt)
      ∙ sym (first.same low y.right (s - size_of low) (subst (λ (n : Node). n.right < length old) (sym bt) (are.closed b).1))

  l_kept : (s : ℕ) → kind_at new low l s ≡ kind_at one low l s
  l_kept s = (keeps_twice one two new second third).same low l s left.within

  pub halves_meet : AreHalves new low l r made → IsMeet old new h a b made
  halves_meet halves = subst (λ (k : ℕ). IsMeet old new k a b made) (sym high) (record {
    within = halves.within;
    each = λ s kind within. elim (which_half low s within) [
      | inl less ↦
          let m = left.each s kind less in
          let e = halves.left s less ∙ l_kept s in
          (λ is. let both = m.0 (sym e ∙ is) in (a_left s less ∙ both.0, b_left s less ∙ both.1), λ both. e ∙ m.1 (sym (a_left s less) ∙ both.0, sym (b_left s less) ∙ both.1))
      | inr past ↦
          let m = right.each (s - size_of low) kind past.1 in
          let e = halves.right s past.0 ∙ third.same low r (s - size_of low) right.within in
          (λ is. let both = m.0 (sym e ∙ is) in (a_right s past.0 ∙ both.0, b_right s past.0 ∙ both.1), λ both. e ∙ m.1 (sym (a_right s past.0) ∙ both.0, sym (b_right s past.0) ∙ both.1))
    ];
  })
