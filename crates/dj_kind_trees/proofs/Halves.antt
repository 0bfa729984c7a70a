-- The kinds of a tree by those of its halves.
use Rattle.std.proofs.Common.{◌≡◌, ℕ, zero, suc, ◌+◌, ◌-◌, ◌<◌, ◌≤◌, ◌⊎◌, Bool, true, false, List, length, nat_lt, None, if◌then◌else◌, refl, ap, ◌∙◌, inl, inr, arith}
use Rattle.std.proofs.lemmas.Bool.Decides.{nat_tests}
use Rattle.dj_kind_trees.specs.declared.node.Node.{Node}
use Rattle.dj_kind_trees.specs.Nodes.{nothing, node_at, size_of, kind_of, kind_at, AreNodes, IsNode}

-- ---- sizes

pub size_more : (h : ℕ) → size_of (suc h) ≡ size_of h + size_of h
unfolding size_of
size_more h = refl

pub size_low : size_of 0 ≡ 1
unfolding size_of
size_low = refl

pub size_some : (h : ℕ) → 0 < size_of h
unfolding size_of
size_some zero = omega arith
size_some (suc h) = omega (arith, size_some h)

-- half of the slots
pub half_size : (h low size : ℕ) → h ≡ suc low → size ≡ size_of h → size ≡ size_of low + size_of low
half_size h low size e f = f ∙ ap size_of e ∙ size_more low

-- ---- kinds

pub kind_low : (nodes : List Node) (id slot : ℕ) → kind_at nodes 0 id slot ≡ kind_of id
unfolding kind_at
kind_low nodes id slot = refl

pub left_slot : (nodes : List Node) (h id slot : ℕ) → slot < size_of h → kind_at nodes (suc h) id slot ≡ kind_at nodes h (node_at nodes id).left slot
unfolding kind_at
left_slot nodes h id slot less = let t : nat_lt slot (size_of h) ≡ true = grind (arith, nat_tests) in rw t refl

pub right_slot : (nodes : List Node) (h id slot : ℕ) → size_of h ≤ slot → kind_at nodes (suc h) id slot ≡ kind_at nodes h (node_at nodes id).right (slot - size_of h)
unfolding kind_at
right_slot nodes h id slot past = let t : nat_lt slot (size_of h) ≡ false = grind (arith, nat_tests) in rw t refl

pub left_of : (nodes : List Node) (h l r id slot : ℕ) → IsNode nodes l r id → slot < size_of h → kind_at nodes (suc h) id slot ≡ kind_at nodes h l slot
left_of nodes h l r id slot is less = left_slot nodes h id slot less ∙ ap (λ (k : ℕ). kind_at nodes h k slot) is.left_is

pub right_of : (nodes : List Node) (h l r id slot : ℕ) → IsNode nodes l r id → size_of h ≤ slot → kind_at nodes (suc h) id slot ≡ kind_at nodes h r (slot - size_of h)
right_of nodes h l r id slot is past = right_slot nodes h id slot past ∙ ap (λ (k : ℕ). kind_at nodes h k (slot - size_of h)) is.right_is

pub which_half : (h slot : ℕ) → slot < size_of (suc h) → (slot < size_of h) ⊎ ((size_of h ≤ slot) × (slot - size_of h < size_of h))
which_half h slot within = by (nat_lt slot (size_of h)) refl where
  by : (b : Bool) → nat_lt slot (size_of h) ≡ b → (slot < size_of h) ⊎ ((size_of h ≤ slot) × (slot - size_of h < size_of h))
  by true e = inl (grind (arith, nat_tests, e))
  by false e =
      let past : size_of h ≤ slot = grind (arith, nat_tests, e) in
      inr (past, omega (arith, within, past, size_more h))

-- the first tree has no kinds
pub no_kinds : (nodes : List Node) → node_at nodes 0 ≡ nothing → (h slot : ℕ) → kind_at nodes h 0 slot ≡ None
unfolding kind_at
no_kinds nodes first zero slot = refl
no_kinds nodes first (suc h) slot =
    ap (λ (n : Node). if nat_lt slot (size_of h) then kind_at nodes h n.left slot else kind_at nodes h n.right (slot - size_of h)) first
    ∙ by (nat_lt slot (size_of h)) (no_kinds nodes first h slot) (no_kinds nodes first h (slot - size_of h)) where
      by : {A : Type 0} (b : Bool) {x y z : A} → x ≡ z → y ≡ z → (if b then x else y) ≡ z
      by true e f = e
      by false e f = f

pub none_first : (nodes : List Node) (h slot : ℕ) → AreNodes nodes → kind_at nodes h 0 slot ≡ None
none_first nodes h slot are = no_kinds nodes are.first h slot

-- the halves of a node of before
pub itself : (nodes : List Node) (id : ℕ) → id < length nodes → IsNode nodes (node_at nodes id).left (node_at nodes id).right id
itself nodes id within = record { within = within; left_is = refl; right_is = refl }
