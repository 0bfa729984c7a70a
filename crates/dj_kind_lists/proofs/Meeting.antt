-- Blocks of states, and what flows out of all states of one.
use Rattle.std.proofs.Common.{◌≡◌, ℕ, zero, suc, ◌+◌, ◌-◌, ◌<◌, ◌≤◌, ◌⊎◌, List, [], ◌∷◌, ◌++◌, length, length-append, refl, sym, ap, subst, ◌∙◌, inl, inr, arith}
use Rattle.dj_kind_trees.specs.Nodes.{size_of}
use Rattle.dj_kind_trees.specs.Forests.{Forest, IsTree, KeepsTrees, FlowsInto, HasMet, kind_in, slots_of}
use Rattle.dj_kind_trees.proofs.Halves.{size_more, size_low, size_some}
use Rattle.dj_kind_lists.specs.declared.block.Block.{Block}
use Rattle.dj_kind_lists.specs.Blocks.{state_at, AreStates, block_at, IsInside, HasAll, meet_of, IsBlock, KeepsBlocks}

-- ---- what is kept

pub keeps_itself : (forest : Forest) → KeepsTrees forest forest
keeps_itself forest = record { slots = refl; trees = λ tree is. is; kinds = λ tree slot is. refl }

pub keeps_twice : (a b c : Forest) → KeepsTrees a b → KeepsTrees b c → KeepsTrees a c
keeps_twice a b c x y = record {
  slots = y.slots ∙ x.slots;
  trees = λ tree is. y.trees tree (x.trees tree is);
  kinds = λ tree slot is. y.kinds tree slot (x.trees tree is) ∙ x.kinds tree slot is;
}

pub states_kept : (old new : Forest) (states : List ℕ) → KeepsTrees old new → AreStates old states → AreStates new states
states_kept old new states keeps are number = keeps.trees (state_at states number) (are number)

pub flows_kept : (old new : Forest) (a b : ℕ) → KeepsTrees old new → IsTree old a → IsTree old b → FlowsInto old a b → FlowsInto new a b
flows_kept old new a b keeps x y flows = record {
  each = λ slot kind within at. keeps.kinds a slot x ∙ flows.each slot kind (subst (λ (n : ℕ). slot < n) keeps.slots within) (sym (keeps.kinds b slot y) ∙ at);
}

pub flows_before : (old new : Forest) (a b : ℕ) → KeepsTrees old new → IsTree old a → IsTree old b → FlowsInto new a b → FlowsInto old a b
flows_before old new a b keeps x y flows = record {
  each = λ slot kind within at. sym (keeps.kinds a slot x) ∙ flows.each slot kind (subst (λ (n : ℕ). slot < n) (sym keeps.slots) within) (keeps.kinds b slot y ∙ at);
}

pub all_kept : (old new : Forest) (states : List ℕ) (h from tree : ℕ) → KeepsTrees old new → AreStates old states → HasAll old states h from tree → HasAll new states h from tree
all_kept old new states h from tree keeps are all = record {
  tree_is = keeps.trees tree all.tree_is;
  each = λ slot kind within.
      let e = all.each slot kind (subst (λ (n : ℕ). slot < n) keeps.slots within) in (
        λ at number inside. keeps.kinds (state_at states number) slot (are number) ∙ e.0 (sym (keeps.kinds tree slot all.tree_is) ∙ at) number inside,
        λ each. keeps.kinds tree slot all.tree_is ∙ e.1 (λ number inside. sym (keeps.kinds (state_at states number) slot (are number)) ∙ each number inside),
      );
}

pub block_kept : (old new : Forest) (states : List ℕ) (before after : List Block) (h from id : ℕ) → KeepsTrees old new → AreStates old states → KeepsBlocks before after
    → IsBlock old states before h from id → IsBlock new states after h from id
unfolding IsBlock
block_kept old new states before after zero from id keeps are more is = is
block_kept old new states before after (suc h) from id keeps are more is =
    let same = more.same id is.0 in
    let count = more.more in (
      omega (arith, count, is.0),
      subst (λ (b : Block). HasAll new states (suc h) from b.meet) (sym same) (all_kept old new states (suc h) from (block_at before id).meet keeps are is.1),
      subst (λ (b : Block). IsBlock new states after h from b.left) (sym same) (block_kept old new states before after h from (block_at before id).left keeps are more is.2),
      subst (λ (b : Block). IsBlock new states after h (from + size_of h) b.right) (sym same)
          (block_kept old new states before after h (from + size_of h) (block_at before id).right keeps are more is.3),
    )

pub blocks_twice : (a b c : List Block) → KeepsBlocks a b → KeepsBlocks b c → KeepsBlocks a c
blocks_twice a b c x y = record {
  more = let m = x.more in let n = y.more in omega (arith, m, n);
  same = λ id within. let m = x.more in y.same id (omega (arith, within, m)) ∙ x.same id within;
}

pub blocks_themselves : (blocks : List Block) → KeepsBlocks blocks blocks
blocks_themselves blocks = record { more = omega arith; same = λ id within. refl }

pub blocks_more : (blocks new : List Block) (block : Block) → new ≡ blocks ++ block ∷ [] → KeepsBlocks blocks new
blocks_more blocks new block e = subst (KeepsBlocks blocks) (sym e) (record { more = omega (arith, length-append blocks (block ∷ [])); same = by blocks }) where
  by : (l : List Block) (id : ℕ) → id < length l → block_at (l ++ block ∷ []) id ≡ block_at l id
  by [] id h = absurd (omega (arith, h))
  by (x ∷ l) zero h = refl
  by (x ∷ l) (suc id) h = by l id (omega (arith, h))

pub last_block : (blocks new : List Block) (block : Block) → new ≡ blocks ++ block ∷ [] → (length blocks < length new) × (block_at new (length blocks) ≡ block)
last_block blocks new block e = (omega (arith, ap length e, length-append blocks (block ∷ [])), ap (λ (l : List Block). block_at l (length blocks)) e ∙ by blocks) where
  by : (l : List Block) → block_at (l ++ block ∷ []) (length l) ≡ block
  by [] = refl
  by (x ∷ l) = by l

-- ---- what is inside

pub inside_low : (from number : ℕ) → IsInside 0 from number → number ≡ from
inside_low from number is = let a = is.low in let b = is.high in omega (arith, a, b, size_low)

pub first_inside : (h from : ℕ) → IsInside h from from
first_inside h from = record { low = omega arith; high = omega (arith, size_some h) }

pub which_half : (h from number : ℕ) → IsInside (suc h) from number → IsInside h from number ⊎ IsInside h (from + size_of h) number
which_half h from number is = by (order number (from + size_of h)) where
  order : (a b : ℕ) → (a < b) ⊎ (b ≤ a)
  order a zero = inr (omega arith)
  order zero (suc b) = inl (omega arith)
  order (suc a) (suc b) = elim (order a b) [ inl l ↦ inl (omega (arith, l)) | inr g ↦ inr (omega (arith, g)) ]

  by : (number < from + size_of h) ⊎ (from + size_of h ≤ number) → IsInside h from number ⊎ IsInside h (from + size_of h) number
  by (inl less) = inl (record { low = is.low; high = less })
  by (inr past) = let high = is.high in inr (record { low = past; high = omega (arith, high, size_more h) })

pub left_inside : (h from number : ℕ) → IsInside h from number → IsInside (suc h) from number
left_inside h from number is = let high = is.high in record { low = is.low; high = omega (arith, high, size_more h) }

pub right_inside : (h from number : ℕ) → IsInside h (from + size_of h) number → IsInside (suc h) from number
right_inside h from number is = let low = is.low in let high = is.high in record { low = omega (arith, low); high = omega (arith, high, size_more h) }

-- ---- what all states of a block have

pub one_state : (forest : Forest) (states : List ℕ) (from : ℕ) → AreStates forest states → HasAll forest states 0 from (state_at states from)
one_state forest states from are = record {
  tree_is = are from;
  each = λ slot kind within. (
    λ at number inside. ap (λ (n : ℕ). kind_in forest (state_at states n) slot) (inside_low from number inside) ∙ at,
    λ each. each from (first_inside 0 from),
  );
}

pub of_block : (forest : Forest) (states : List ℕ) (blocks : List Block) (h from id : ℕ) → AreStates forest states → IsBlock forest states blocks h from id
    → HasAll forest states h from (meet_of states blocks h id)
unfolding IsBlock
of_block forest states blocks zero from id are is = subst (λ (n : ℕ). HasAll forest states 0 from (state_at states n)) (sym is) (one_state forest states from are)
of_block forest states blocks (suc h) from id are is = is.1

pub both_states : (old new : Forest) (states : List ℕ) (h from a b made : ℕ) → KeepsTrees old new → AreStates old states → HasAll old states h from a → HasAll old states h (from + size_of h) b
    → HasMet old new a b made → HasAll new states (suc h) from made
both_states old new states h from a b made keeps are left right met = record {
  tree_is = met.tree_is;
  each = λ slot kind within.
      let low : slot < slots_of old = subst (λ (n : ℕ). slot < n) keeps.slots within in
      let m = met.each slot kind low in
      let l = left.each slot kind low in
      let r = right.each slot kind low in
      let kept = λ (number : ℕ). keeps.kinds (state_at states number) slot (are number) in (
        λ at number inside. let both = m.0 at in elim (which_half h from number inside) [
          | inl there ↦ kept number ∙ l.0 both.0 number there
          | inr there ↦ kept number ∙ r.0 both.1 number there
        ],
        λ each. m.1 (
          l.1 (λ number inside. sym (kept number) ∙ each number (left_inside h from number inside)),
          r.1 (λ number inside. sym (kept number) ∙ each number (right_inside h from number inside)),
        ),
      );
}

-- ---- the code's steps

-- a block of two
pub new_block : (old new : Forest) (states : List ℕ) (blocks after : List Block) (h low from left right made : ℕ) → h ≡ suc low → KeepsTrees old new → AreStates old states
    → IsBlock old states blocks low from left → IsBlock old states blocks low (from + size_of low) right → HasMet old new (meet_of states blocks low left) (meet_of states blocks low right) made
    → after ≡ blocks ++ record { meet = made; left = left; right = right } ∷ [] → IsBlock new states after h from (length blocks)
unfolding IsBlock
new_block old new states blocks after h low from left right made high keeps are l r met e =
    let last = last_block blocks after (record { meet = made; left = left; right = right }) e in
    let more = blocks_more blocks after (record { meet = made; left = left; right = right }) e in
    let all = both_states old new states low from (meet_of states blocks low left) (meet_of states blocks low right) made keeps are (of_block old states blocks low from left are l) (of_block old states blocks low (from + size_of low) right are r) met in
    subst (λ (n : ℕ). IsBlock new states after n from (length blocks)) (sym high) (
      last.0,
      subst (λ (b : Block). HasAll new states (suc low) from b.meet) (sym last.1) all,
      subst (λ (b : Block). IsBlock new states after low from b.left) (sym last.1) (block_kept old new states blocks after low from left keeps are more l),
      subst (λ (b : Block). IsBlock new states after low (from + size_of low) b.right) (sym last.1) (block_kept old new states blocks after low (from + size_of low) right keeps are more r),
    )

pub low_block : (forest : Forest) (states : List ℕ) (blocks : List Block) (h from id : ℕ) → h ≡ 0 → id ≡ from → IsBlock forest states blocks h from id
unfolding IsBlock
low_block forest states blocks h from id low is = subst (λ (n : ℕ). IsBlock forest states blocks n from id) (sym low) is

pub block_halves : (forest : Forest) (states : List ℕ) (blocks : List Block) (h low from id : ℕ) (block : Block) → h ≡ suc low → block ≡ block_at blocks id → IsBlock forest states blocks h from id
    → IsBlock forest states blocks low from block.left × IsBlock forest states blocks low (from + size_of low) block.right
unfolding IsBlock
block_halves forest states blocks h low from id block high at is =
    let there = subst (λ (n : ℕ). IsBlock forest states blocks n from id) high is in (
      subst (λ (b : Block). IsBlock forest states blocks low from b.left) (sym at) there.2,
      subst (λ (b : Block). IsBlock forest states blocks low (from + size_of low) b.right) (sym at) there.3,
    )

pub meet_high : (states : List ℕ) (blocks : List Block) (h id : ℕ) → 0 < h → meet_of states blocks h id ≡ (block_at blocks id).meet
meet_high states blocks zero id some = absurd (omega (arith, some))
meet_high states blocks (suc h) id some = refl

pub meet_low : (states : List ℕ) (blocks : List Block) (h id : ℕ) → h ≡ 0 → meet_of states blocks h id ≡ state_at states id
meet_low states blocks h id low = ap (λ (n : ℕ). meet_of states blocks n id) low
