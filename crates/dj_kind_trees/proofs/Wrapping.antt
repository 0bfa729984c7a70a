-- Trees as callers see them.
use Rattle.std.proofs.Common.{◌≡◌, ℕ, suc, ◌+◌, ◌<◌, Bool, List, [], ◌∷◌, ◌++◌, length, take, drop, Option, refl, sym, ap, ◌∙◌, arith}
use Rattle.std.specs.Prelude.{Decides}
use Rattle.std.proofs.lemmas.List.{take_all}
use Rattle.dj_names.specs.declared.descriptor.Kind.{Kind}
use Rattle.dj_kind_trees.specs.declared.node.Node.{Node}
use Rattle.dj_kind_trees.specs.Nodes.{size_of, kind_at, Meets, AreNodes, Keeps, IsPut, IsReplaced, IsMeet}
use Rattle.dj_kind_trees.specs.Forests.{Forest, KeepsTrees, FlowsInto, IsBare, HasPut, HasReplaced, HasMet}
use Rattle.dj_kind_trees.proofs.Halves.{size_more, none_first}

abbrev pub forest_of : ℕ → List Node → Forest
forest_of height nodes = record { height = height; nodes = nodes }

module _ (height : ℕ) (old new : List Node) where
  pub keeps_trees : Keeps old new → KeepsTrees (forest_of height old) (forest_of height new)
  keeps_trees keeps = record {
    slots = refl;
    trees = λ tree is. let m = keeps.more in omega (arith, is, m);
    kinds = λ tree slot is. keeps.same height tree slot is;
  }

  pub has_put : (id slot : ℕ) (kind : Option Kind) (made : ℕ) → IsPut old new height id slot kind made → HasPut (forest_of height old) (forest_of height new) id slot kind made
  has_put id slot kind made put = record { tree_is = put.within; here = put.here; others = put.others }

  pub has_replaced : (id from : ℕ) (kinds : List (Option Kind)) (made : ℕ) → IsReplaced old new height id from kinds made → HasReplaced (forest_of height old) (forest_of height new) id from kinds made
  has_replaced id from kinds made replaced = record { tree_is = replaced.within; before = replaced.before; after = replaced.after }

  pub has_met : (a b made : ℕ) → IsMeet old new height a b made → HasMet (forest_of height old) (forest_of height new) a b made
  has_met a b made meet = record { tree_is = meet.within; each = meet.each }

pub flows_into : (height : ℕ) (nodes : List Node) (s f : ℕ) (b : Bool) → Decides b (Meets nodes height s f) → Decides b (FlowsInto (forest_of height nodes) s f)
flows_into height nodes s f b decides = (λ e. record { each = (decides.0 e).each }, λ flows. decides.1 (record { each = flows.each }))

-- a tree that has the kind already
pub same_put : (nodes : List Node) (h id slot : ℕ) (kind : Option Kind) → id < length nodes → kind_at nodes h id slot ≡ kind → IsPut nodes nodes h id slot kind id
same_put nodes h id slot kind within e = record { within = within; here = e; others = λ other less ne. refl }

-- what stands in the vector after a function has changed its nodes
pub in_place : (n : ℕ) (items new : List Node) → n ≡ length items → length new ≡ length items → take n (new ++ drop (length new) items) ≡ new
in_place n items new e f =
    ap (λ (k : ℕ). take n (new ++ drop k items)) f ∙ ap (λ (l : List Node). take n (new ++ l)) (none_left items)
    ∙ ap (take n) (append-nil new) ∙ take_all n new (omega (arith, e, f)) where
      none_left : (l : List Node) → drop (length l) l ≡ []
      none_left [] = refl
      none_left (x ∷ l) = none_left l

      append-nil : (l : List Node) → l ++ [] ≡ l
      append-nil [] = refl
      append-nil (x ∷ l) = ap (λ (m : List Node). x ∷ m) (append-nil l)

-- ---- at first

pub bare_first : (height : ℕ) (nodes : List Node) → AreNodes nodes → IsBare (forest_of height nodes) 0
bare_first height nodes are = record { tree_is = let m = are.many in omega (arith, m); none = λ slot. none_first nodes height slot are }

-- ---- the height

pub size_next : (height size : ℕ) → size ≡ size_of height → size + size ≡ size_of (height + 1)
size_next height size e =
    let next : height + 1 ≡ suc height = omega arith in
    ap (λ (n : ℕ). n + n) e ∙ sym (size_more height) ∙ sym (ap size_of next)
