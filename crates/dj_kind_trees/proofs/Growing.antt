-- Trees keep their kinds where nodes are added, and where nodes remember others.
use Rattle.std.proofs.Common.{◌≡◌, ℕ, zero, suc, ◌+◌, ◌-◌, ◌<◌, ◌⊎◌, Bool, true, false, List, [], ◌∷◌, ◌++◌, length, length-append, get_or, set, nat_lt, if◌then◌else◌, refl, sym, ap, subst, ◌∙◌, inl, inr, arith}
use Rattle.std.proofs.lemmas.List.{get_or-set_same, get_or-set_other, length-set}
use Rattle.dj_kind_trees.specs.declared.node.Node.{Node}
use Rattle.dj_kind_trees.specs.Nodes.{nothing, node_at, size_of, kind_at, Meets, Remembers, AreNodes, Keeps, IsNode}

pub nat_dec : (a b : ℕ) → (a ≡ b) ⊎ (a ≡ b → ⊥)
nat_dec zero zero = inl refl
nat_dec zero (suc b) = inr (λ e. absurd (omega (arith, e)))
nat_dec (suc a) zero = inr (λ e. absurd (omega (arith, e)))
nat_dec (suc a) (suc b) = elim (nat_dec a b) [
  | inl same ↦ inl (ap suc same)
  | inr other ↦ inr (λ e. other (omega (arith, e)))
]

branches : {A : Type 0} (b : Bool) (x y z w : A) → x ≡ z → y ≡ w → (if b then x else y) ≡ (if b then z else w)
branches true x y z w e f = e
branches false x y z w e f = f

-- ---- trees that have the same halves

pub kind_same : (old new : List Node) → ((id : ℕ) → ((node_at new id).left ≡ (node_at old id).left) × ((node_at new id).right ≡ (node_at old id).right)) → (h id slot : ℕ)
    → kind_at new h id slot ≡ kind_at old h id slot
unfolding kind_at
kind_same old new same zero id slot = refl
kind_same old new same (suc h) id slot =
    branches (nat_lt slot (size_of h)) _ _ _ _
    (kind_same old new same h (node_at new id).left slot ∙ ap (λ (k : ℕ). kind_at old h k slot) (same id).0)
    (kind_same old new same h (node_at new id).right (slot - size_of h) ∙ ap (λ (k : ℕ). kind_at old h k (slot - size_of h)) (same id).1)

-- the same, where only nodes of numbers that there were before are the same
kind_grown : (old new : List Node) → ((id : ℕ) → ((node_at old id).left < length old) × ((node_at old id).right < length old)) → ((id : ℕ) → id < length old → node_at new id ≡ node_at old id)
    → (h id slot : ℕ) → id < length old → kind_at new h id slot ≡ kind_at old h id slot
unfolding kind_at
kind_grown old new closed same zero id slot within = refl
kind_grown old new closed same (suc h) id slot within =
    ap (λ (n : Node). if nat_lt slot (size_of h) then kind_at new h n.left slot else kind_at new h n.right (slot - size_of h)) (same id within)
    ∙ branches (nat_lt slot (size_of h)) _ _ _ _ (kind_grown old new closed same h (node_at old id).left slot (closed id).0)
    (kind_grown old new closed same h (node_at old id).right (slot - size_of h) (closed id).1)

-- ---- what keeps kinds

pub keeps_itself : (nodes : List Node) → Keeps nodes nodes
keeps_itself nodes = record { more = omega arith; same = λ h id slot within. refl }

pub keeps_twice : (a b c : List Node) → Keeps a b → Keeps b c → Keeps a c
keeps_twice a b c x y = record {
  more = let m = x.more in let n = y.more in omega arith;
  same = λ h id slot within. y.same h id slot (let m = x.more in omega (arith, within)) ∙ x.same h id slot within;
}

pub meets_kept : (old new : List Node) (h s f : ℕ) → Keeps old new → s < length old → f < length old → Meets old h s f → Meets new h s f
meets_kept old new h s f keeps a b meets = record {
  each = λ slot kind within at. keeps.same h s slot a ∙ meets.each slot kind within (sym (keeps.same h f slot b) ∙ at);
}

pub meets_before : (old new : List Node) (h s f : ℕ) → Keeps old new → s < length old → f < length old → Meets new h s f → Meets old h s f
meets_before old new h s f keeps a b meets = record {
  each = λ slot kind within at. sym (keeps.same h s slot a) ∙ meets.each slot kind within (keeps.same h f slot b ∙ at);
}

-- ---- one node more

module _ (nodes : List Node) (node : Node) where
  abbrev more : List Node
  more = nodes ++ node ∷ []

  pub count_more : length more ≡ length nodes + 1
  count_more = length-append nodes (node ∷ [])

  pub node_before : (id : ℕ) → id < length nodes → node_at more id ≡ node_at nodes id
  node_before id within = by nodes id within where
    by : (l : List Node) (k : ℕ) → k < length l → get_or (l ++ node ∷ []) k nothing ≡ get_or l k nothing
    by [] k h = absurd (omega (arith, h))
    by (x ∷ l) zero h = refl
    by (x ∷ l) (suc k) h = by l k (omega (arith, h))

  pub node_last : node_at more (length nodes) ≡ node
  node_last = by nodes where
    by : (l : List Node) → get_or (l ++ node ∷ []) (length l) nothing ≡ node
    by [] = refl
    by (x ∷ l) = by l

  node_past : (id : ℕ) → length nodes < id → node_at more id ≡ nothing
  node_past id past = by nodes id past where
    by : (l : List Node) (k : ℕ) → length l < k → get_or (l ++ node ∷ []) k nothing ≡ nothing
    by [] zero h = absurd (omega (arith, h))
    by [] (suc k) h = refl
    by (x ∷ l) zero h = absurd (omega (arith, h))
    by (x ∷ l) (suc k) h = by l k (omega (arith, h))

  -- each node is one of before, the new one, or none
  pub node_such : (P : ℕ → Node → Type 0) → ((id : ℕ) → id < length nodes → P id (node_at nodes id)) → P (length nodes) node → ((id : ℕ) → length nodes < id → P id nothing)
      → (id : ℕ) → P id (node_at more id)
  node_such P old new none id = elim (nat_dec id (length nodes)) [
    | inl last ↦ subst (λ (k : ℕ). P k (node_at more k)) (sym last) (subst (P (length nodes)) (sym node_last) new)
    | inr other ↦ elim (order id (length nodes) other) [
      | inl less ↦ subst (P id) (sym (node_before id less)) (old id less)
      | inr past ↦ subst (P id) (sym (node_past id past)) (none id past)
    ]
  ] where
    order : (a b : ℕ) → (a ≡ b → ⊥) → (a < b) ⊎ (b < a)
    order zero zero ne = absurd (ne refl)
    order zero (suc b) ne = inl (omega arith)
    order (suc a) zero ne = inr (omega arith)
    order (suc a) (suc b) ne = elim (order a b (λ e. ne (ap suc e))) [ inl l ↦ inl (omega (arith, l)) | inr g ↦ inr (omega (arith, g)) ]

  module _ (are : AreNodes nodes) (left : node.left < length nodes) (right : node.right < length nodes) (met : node.met ≡ 0) where
    pub keeps_more : Keeps nodes more
    keeps_more = record { more = omega (arith, count_more); same = kind_grown nodes more are.closed node_before }

    abbrev Closes : ℕ → Node → Type 0
    Closes id n = (n.left < length more) × (n.right < length more)

    abbrev Keep : ℕ → Node → Type 0
    Keep f n = (n.met ≡ 0) ⊎ ((n.met < length more) × Meets more n.height n.met f)

    pub are_more : AreNodes more
    are_more = record {
      first = node_before 0 (let m = are.many in omega arith) ∙ are.first;
      many = let m = are.many in omega (arith, count_more);
      closed = node_such Closes (λ id within. let c = are.closed id in let a = c.0 in let b = c.1 in (omega (arith, count_more), omega (arith, count_more)))
          (omega (arith, count_more), omega (arith, count_more)) (λ id past. (omega (arith, count_more), omega (arith, count_more)));
      remember = node_such Keep (λ f within. elim (are.remember f) [
        | inl none ↦ inl none
        | inr m ↦ inr (let a = m.0 in omega (arith, count_more), meets_kept nodes more (node_at nodes f).height (node_at nodes f).met f keeps_more m.0 within m.1)
      ]) (inl met) (λ f past. inl refl);
    }

    pub is_last : IsNode more node.left node.right (length nodes)
    is_last = record { within = omega (arith, count_more); left_is = ap (λ (n : Node). n.left) node_last; right_is = ap (λ (n : Node). n.right) node_last }

-- where the code has pushed it
module _ (nodes : List Node) (node : Node) (new : List Node) (is : new ≡ nodes ++ node ∷ []) (are : AreNodes nodes) (left : node.left < length nodes) (right : node.right < length nodes) (met : node.met ≡ 0) where
  pub pushed : AreNodes new × Keeps nodes new × IsNode new node.left node.right (length nodes)
  pushed = (
    subst AreNodes (sym is) (are_more nodes node are left right met),
    subst (Keeps nodes) (sym is) (keeps_more nodes node are left right met),
    subst (λ (l : List Node). IsNode l node.left node.right (length nodes)) (sym is) (is_last nodes node are left right met),
  )

pub first_node : (nodes : List Node) (left right : ℕ) → AreNodes nodes → left ≡ 0 → right ≡ 0 → IsNode nodes left right 0
first_node nodes left right are l r = record {
  within = let m = are.many in omega arith;
  left_is = ap (λ (n : Node). n.left) are.first ∙ sym l;
  right_is = ap (λ (n : Node). n.right) are.first ∙ sym r;
}

-- ---- what is remembered

-- the node remembers that this one meets it
abbrev pub reminded : List Node → ℕ → ℕ → List Node
reminded nodes f s = set nodes f (record (node_at nodes f) { met = s })

module _ (nodes : List Node) (f s : ℕ) (within : f < length nodes) where
  abbrev now : List Node
  now = reminded nodes f s

  abbrev own : Node
  own = record (node_at nodes f) { met = s }

  count_now : length now ≡ length nodes
  count_now = length-set nodes f own

  node_now : (id : ℕ) → ((id ≡ f) × (node_at now id ≡ own)) ⊎ (node_at now id ≡ node_at nodes id)
  node_now id = elim (nat_dec id f) [
    | inl e ↦ inl (e, ap (node_at now) e ∙ get_or-set_same nodes f own nothing within)
    | inr ne ↦ inr (get_or-set_other nodes f id own nothing ne)
  ]

  halves_now : (id : ℕ) → ((node_at now id).left ≡ (node_at nodes id).left) × ((node_at now id).right ≡ (node_at nodes id).right)
  halves_now id = elim (node_now id) [
    | inl e ↦ (ap (λ (n : Node). n.left) e.1 ∙ ap (λ (k : ℕ). (node_at nodes k).left) (sym e.0), ap (λ (n : Node). n.right) e.1 ∙ ap (λ (k : ℕ). (node_at nodes k).right) (sym e.0))
    | inr e ↦ (ap (λ (n : Node). n.left) e, ap (λ (n : Node). n.right) e)
  ]

  pub keeps_reminded : Keeps nodes now
  keeps_reminded = record { more = omega (arith, count_now); same = λ h id slot in_old. kind_same nodes now halves_now h id slot }

  abbrev KeepNow : ℕ → Node → Type 0
  KeepNow g n = (n.met ≡ 0) ⊎ ((n.met < length now) × Meets now n.height n.met g)

  pub are_reminded : (h : ℕ) → AreNodes nodes → Meets nodes h s f → (node_at nodes f).height ≡ h → 0 < f → s < length nodes → AreNodes now
  are_reminded h are meets high some there = record {
    first = elim (node_now 0) [ inl e ↦ absurd (let z = e.0 in omega (arith, some, z)) | inr e ↦ e ∙ are.first ];
    many = let m = are.many in omega (arith, count_now);
    closed = λ id. let c = are.closed id in let e = halves_now id in (
      subst (λ (k : ℕ). k < length now) (sym e.0) (subst (λ (k : ℕ). (node_at nodes id).left < k) (sym count_now) c.0),
      subst (λ (k : ℕ). k < length now) (sym e.1) (subst (λ (k : ℕ). (node_at nodes id).right < k) (sym count_now) c.1),
    );
    remember = keep;
  } where
    old : (g : ℕ) → Meets nodes (node_at nodes g).height (node_at nodes g).met g → Meets now (node_at nodes g).height (node_at nodes g).met g
    old g meets = record {
      each = λ slot kind low at.
          kind_same nodes now halves_now (node_at nodes g).height (node_at nodes g).met slot
          ∙ meets.each slot kind low (sym (kind_same nodes now halves_now (node_at nodes g).height g slot) ∙ at);
    }

    keep : (g : ℕ) → Remembers now g
    keep g = elim (node_now g) [
      | inl e ↦ subst (KeepNow g) (sym e.1) (subst (λ (k : ℕ). KeepNow k own) (sym e.0)
          (inr (
            subst (λ (k : ℕ). s < k) (sym count_now) there,
            subst (λ (k : ℕ). Meets now k s f) (sym high) (meets_kept nodes now h s f keeps_reminded there within meets),
          )))
      | inr e ↦ subst (KeepNow g) (sym e) (elim (are.remember g) [
        | inl none ↦ inl none
        | inr m ↦ inr (subst (λ (k : ℕ). (node_at nodes g).met < k) (sym count_now) m.0, old g m.1)
      ])
    ]
