-- The next handler from a number on, and the pieces of a range by it.
use Rattle.std.proofs.Common.{◌≡◌, ℕ, zero, suc, ◌+◌, ◌-◌, ◌<◌, ◌≤◌, ◌⊎◌, inl, inr, Bool, true, false, List, [], ◌∷◌, length, get_or, set, refl, sym, ap, subst, ◌∙◌, arith, if◌then◌else◌}
use Rattle.std.proofs.lemmas.List.{get_or-set_same, get_or-set_other}
use Rattle.dj_groups.specs.Groups.{Group, start, own, group_at, cut}
use Rattle.dj_emit.specs.declared.parts.GroupPart.{GroupPart}
use Rattle.dj_emit.specs.Parts.{groups_seen}
use Rattle.dj_emit.specs.Places.{IsNext}
use Rattle.dj_emit.proofs.Orders.{split_le}
use Rattle.dj_emit.proofs.Steps.{group_is, length_groups}

pub next_end : (gs : List Group) → IsNext gs (length gs) (length gs)
next_end gs = record { low = omega arith; high = omega arith; between = λ j low high. absurd (omega (arith, low, high)); there = λ less. absurd (omega (arith, less)) }

pub next_here : (gs : List Group) (k : ℕ) → k < length gs → (group_at gs k).arrives ≡ true → IsNext gs k k
next_here gs k within is = record { low = omega arith; high = omega (arith, within); between = λ j low high. absurd (omega (arith, low, high)); there = λ _. is }

pub next_later : (gs : List Group) (k next : ℕ) → (group_at gs k).arrives ≡ false → IsNext gs (k + 1) next → IsNext gs k next
next_later gs k next is n = record {
  low = omega (arith, n.low);
  high = n.high;
  between = λ j low high. go j high (split_le k j low);
  there = n.there;
} where
  go : (j : ℕ) → j < next → (k ≡ j) ⊎ (k + 1 ≤ j) → (group_at gs j).arrives ≡ false
  go j high (inl e) = subst (λ (x : ℕ). (group_at gs x).arrives ≡ false) e is
  go j high (inr low) = n.between j low high

next_by : (gs : List Group) (k later : ℕ) (b : Bool) → (group_at gs k).arrives ≡ b → k < length gs → IsNext gs (k + 1) later → IsNext gs k (if b then k else later)
next_by gs k later true e within n = next_here gs k within e
next_by gs k later false e within n = next_later gs k later e n

-- ---- the table of these, from the end on

pub table_more : (parts : List GroupPart) (nexts : List ℕ) (k x : ℕ) (d : GroupPart) → 0 < k → k ≤ length parts → length nexts ≡ length parts + 1
    → ((j : ℕ) → k ≤ j → j ≤ length parts → IsNext (groups_seen parts) j (get_or nexts j 0))
    → x ≡ (if (get_or parts (k - 1) d).arrives then k - 1 else get_or nexts (k - 1 + 1) 0)
    → (j : ℕ) → k - 1 ≤ j → j ≤ length parts → IsNext (groups_seen parts) j (get_or (set nexts (k - 1) x) j 0)
table_more parts nexts k x d some within all each is j low high = go (split_le (k - 1) j low) where
  on : k - 1 + 1 ≡ k
  on = omega (arith, some)

  here : IsNext (groups_seen parts) (k - 1) x
  here =
      subst (IsNext (groups_seen parts) (k - 1)) (sym is)
      (next_by (groups_seen parts) (k - 1) (get_or nexts (k - 1 + 1) 0) (get_or parts (k - 1) d).arrives (ap (λ (g : Group). g.arrives) (group_is parts (k - 1) d (omega (arith, some, within))))
      (omega (arith, some, within, length_groups parts))
      (each (k - 1 + 1) (omega (arith, on)) (omega (arith, on, within))))

  go : (k - 1 ≡ j) ⊎ (k - 1 + 1 ≤ j) → IsNext (groups_seen parts) j (get_or (set nexts (k - 1) x) j 0)
  go (inl e) =
      subst (λ (y : ℕ). IsNext (groups_seen parts) y (get_or (set nexts (k - 1) x) y 0)) e
      (subst (IsNext (groups_seen parts) (k - 1)) (sym (get_or-set_same nexts (k - 1) x 0 (omega (arith, some, within, all)))) here)
  go (inr more) =
      subst (IsNext (groups_seen parts) j) (sym (get_or-set_other nexts (k - 1) j x 0 (λ e. absurd (omega (arith, e, more))))) (each j (omega (arith, on, more)) high)

-- ---- cuts

not_taken : (b : Bool) → b ≡ false → (x y : List (ℕ × ℕ)) → (if b then x else y) ≡ y
not_taken false e x y = refl
not_taken true e x y = absurd cc

taken : (b : Bool) → b ≡ true → (x y : List (ℕ × ℕ)) → (if b then x else y) ≡ x
taken true e x y = refl
taken false e x y = absurd cc

-- nothing is cut where no handler starts
skip : (gs : List Group) (from k d n m : ℕ) → m ≡ d + n → ((j : ℕ) → k ≤ j → j < k + d → (group_at gs j).arrives ≡ false) → cut gs from k m ≡ cut gs from (k + d) n
unfolding cut
skip gs from k zero n m e none = let same : m ≡ n = omega (arith, e) in let stays : k ≡ k + 0 = omega arith in ap (cut gs from k) same ∙ ap (λ (x : ℕ). cut gs from x n) stays
skip gs from k (suc d) n zero e none = absurd (omega (arith, e))
skip gs from k (suc d) n (suc m) e none =
    let on : suc k + d ≡ k + suc d = omega arith in
    not_taken (group_at gs k).arrives (none k (omega arith) (omega arith)) ((from, start gs k) ∷ cut gs (own gs k) (suc k) m) (cut gs from (suc k) m)
    ∙ skip gs from (suc k) d n m (omega (arith, e)) (λ j low high. none j (omega (arith, low)) (omega (arith, high)))
    ∙ ap (λ (x : ℕ). cut gs from x n) on

-- the next handler is in the range
pub cut_at_next : (gs : List Group) (from k end next : ℕ) → IsNext gs k next → next < end → end ≤ length gs
    → cut gs from k (end - k) ≡ (from, start gs next) ∷ cut gs (own gs next) (next + 1) (end - (next + 1))
unfolding cut
cut_at_next gs from k end next n less within =
    let up : k + (next - k) ≡ next = omega (arith, n.low) in
    skip gs from k (next - k) (suc (end - (next + 1))) (end - k) (omega (arith, n.low, less)) (λ j low high. n.between j low (omega (arith, high, n.low)))
    ∙ ap (λ (x : ℕ). cut gs from x (suc (end - (next + 1)))) up
    ∙ here (end - (next + 1)) where
      here : (m : ℕ) → cut gs from next (suc m) ≡ (from, start gs next) ∷ cut gs (own gs next) (next + 1) m
      here m =
          let on : suc next ≡ next + 1 = omega arith in
          taken (group_at gs next).arrives (n.there (omega (arith, less, within))) ((from, start gs next) ∷ cut gs (own gs next) (suc next) m) (cut gs from (suc next) m)
          ∙ ap (λ (x : ℕ). (from, start gs next) ∷ cut gs (own gs next) x m) on

-- no handler is in the rest of the range
pub cut_at_end : (gs : List Group) (from k end next : ℕ) → IsNext gs k next → end ≤ next → k ≤ end → cut gs from k (end - k) ≡ (from, start gs end) ∷ []
unfolding cut
cut_at_end gs from k end next n past low =
    let up : k + (end - k) ≡ end = omega (arith, low) in
    skip gs from k (end - k) 0 (end - k) (omega arith) (λ j from_k high. n.between j from_k (omega (arith, high, past, low)))
    ∙ ap (λ (x : ℕ). (from, start gs x) ∷ []) up
