-- One more group as instructions.
use Rattle.std.proofs.Common.{◌≡◌, ℕ, zero, suc, ◌+◌, ◌<◌, List, [], ◌∷◌, ◌++◌, map, zip, take, length, get_or, refl, sym, ap, ap₂, subst, ◌∙◌, arith, append_assoc}
use Rattle.std.specs.List.{flat_map}
use Rattle.std.specs.List.{AllByRecursion}
use Rattle.std.proofs.lemmas.List.{get_or-map, map-append, take_all}
use Rattle.dj_ops.specs.declared.instruction.Instr.{Instr}
use Rattle.dj_labels.specs.declared.labelled.Protected.{Protected}
use Rattle.dj_labels.specs.declared.labelled.Labelled.{Labelled}
use Rattle.dj_labels.specs.trusted.Labels.{HasNumbers}
use Rattle.dj_groups.specs.Groups.{Inserted, Own, Group, arrival, inserted, start, starts, spelled, regrouped}
use Rattle.dj_groups.specs.Grouped.{inserted_instr, own_instr, protected_pieces, labels_in_groups}
use Rattle.dj_emit.specs.declared.parts.GroupPart.{GroupPart}
use Rattle.dj_emit.specs.Parts.{charge_list, own_by, group_seen, groups_seen}
use Rattle.dj_emit.specs.Aimed.{own_aimed}
use Rattle.dj_emit.specs.Spelled.{group_spelled, spelled_up_to}
use Rattle.dj_emit.proofs.Orders.{all_at, length_map}
use Rattle.dj_emit.proofs.TargetFacts.{own_same, length_starts, numbers_low}
use Rattle.dj_labels.specs.trusted.Targets.{targets_of}

append_none : {X : Type 0} (xs : List X) → xs ++ [] ≡ xs
append_none [] = refl
append_none (x ∷ xs) = ap (λ (ys : List _). x ∷ ys) (append_none xs)

module _ {I : Type 0} (spell : Inserted → I) (become : Own → I → I) where
  grown : (gs : List Group) (is : List I) (i : ℕ) (g : Group) (x : I) → i < length gs → i < length is
      → regrouped spell become (take (suc i) gs) (take (suc i) is) ≡ regrouped spell become (take i gs) (take i is) ++ spelled spell become (get_or gs i g, get_or is i x)
  grown [] is i g x few less = absurd (omega (arith, few))
  grown (y ∷ gs) [] i g x few less = absurd (omega (arith, less))
  grown (y ∷ gs) (z ∷ is) zero g x few less = append_none (spelled spell become (y, z))
  grown (y ∷ gs) (z ∷ is) (suc i) g x few less =
      ap (λ (xs : List I). spelled spell become (y, z) ++ xs) (grown gs is i g x (omega (arith, few)) (omega (arith, less)))
      ∙ sym (append_assoc (spelled spell become (y, z)) (regrouped spell become (take i gs) (take i is)) (spelled spell become (get_or gs i g, get_or is i x)))

  pub regrouped_more : (gs : List Group) (is : List I) (i : ℕ) (g : Group) (x : I) → i < length gs → i < length is
      → regrouped spell become (take (i + 1) gs) (take (i + 1) is) ≡ regrouped spell become (take i gs) (take i is) ++ spelled spell become (get_or gs i g, get_or is i x)
  regrouped_more gs is i g x few less =
      let e : i + 1 ≡ suc i = omega arith in
      ap (λ (n : ℕ). regrouped spell become (take n gs) (take n is)) e ∙ grown gs is i g x few less

-- ---- the code that is spelled

abbrev labels_by : List Instr → List Protected → Labelled
labels_by code ranges = record { code = code; ranges = ranges }

-- its targets are looked up in the list of starts, up to the code's end
pub numbers_at : (parts : List GroupPart) (code : List Instr) (found : List ℕ) (i : ℕ) (instr : Instr) → i < length parts → length parts ≡ length code → AllByRecursion (HasNumbers (length code)) code
    → found ≡ starts (groups_seen parts) → instr ≡ get_or code i instr → HasNumbers (length found) instr
numbers_at parts code found i instr within same numbers is at =
    let end : length code + 1 ≡ length found = omega (arith, same, length_map group_seen parts, length_starts (groups_seen parts), ap length is) in
    let P : ℕ → Type 0 = λ n. HasNumbers n instr in
    subst P end (numbers_low (length code) (targets_of instr) (subst (HasNumbers (length code)) (sym at) (all_at (HasNumbers (length code)) code i instr numbers (omega (arith, within, same)))))

pub code_more : (first : ℕ) (parts : List GroupPart) (code : List Instr) (found : List ℕ) (out : List Instr) (i : ℕ) (part : GroupPart) (instr : Instr) → i < length parts → length parts ≡ length code
    → AllByRecursion (HasNumbers (length code)) code → found ≡ starts (groups_seen parts) → part ≡ get_or parts i part → instr ≡ get_or code i instr
    → out ≡ spelled_up_to first parts code i → out ++ group_spelled first found part instr ≡ spelled_up_to first parts code (i + 1)
unfolding group_spelled spelled_up_to
code_more first parts code found out i part instr within same numbers is here at before =
    let count : length (groups_seen parts) ≡ length parts = length_map group_seen parts in
    let few : i < length (groups_seen parts) = omega (arith, within, count) in
    let less : i < length code = omega (arith, within, same) in
    let P : ℕ → Type 0 = λ n. HasNumbers n instr in
    let low = subst P (omega (arith, same, count)) (subst (HasNumbers (length code)) (sym at) (all_at (HasNumbers (length code)) code i instr numbers (omega (arith, within, same)))) in
    let own : own_aimed found (group_seen part).own instr ≡ own_instr (start (groups_seen parts)) (group_seen part).own instr =
    ap (λ (xs : List ℕ). own_aimed xs (group_seen part).own instr) is ∙ own_same (groups_seen parts) (group_seen part).own instr low in
    let g : group_seen part ≡ get_or (groups_seen parts) i (group_seen part) = ap group_seen here ∙ sym (get_or-map group_seen parts i part (group_seen part) within) in
    ap₂ (λ (a b : List Instr). a ++ b) before
    (ap (λ (x : Instr). map (inserted_instr first) (inserted (group_seen part)) ++ x ∷ []) own
    ∙ ap₂ (λ (x : Group) (y : Instr). spelled (inserted_instr first) (own_instr (start (groups_seen parts))) (x, y)) g at)
    ∙ sym (regrouped_more (inserted_instr first) (own_instr (start (groups_seen parts))) (groups_seen parts) code i (group_seen part) instr few less)

-- a group's three parts
pub three_parts : (first : ℕ) (found : List ℕ) (part : GroupPart) (instr : Instr) (a b c d : List Instr) → b ≡ a ++ map (inserted_instr first) (arrival part.arrives)
    → c ≡ b ++ map (inserted_instr first) (charge_list part.charge) → d ≡ c ++ own_aimed found (own_by part.popped) instr ∷ []
    → d ≡ a ++ group_spelled first found part instr
unfolding group_spelled
three_parts first found part instr a b c d e f g =
    g
    ∙ ap (λ (xs : List Instr). xs ++ own_aimed found (own_by part.popped) instr ∷ [])
    (f ∙ ap (λ (xs : List Instr). xs ++ map (inserted_instr first) (charge_list part.charge)) e
    ∙ append_assoc a (map (inserted_instr first) (arrival part.arrives)) (map (inserted_instr first) (charge_list part.charge))
    ∙ ap (λ (xs : List Instr). a ++ xs) (sym (map-append (inserted_instr first) (arrival part.arrives) (charge_list part.charge))))
    ∙ append_assoc a (map (inserted_instr first) (inserted (group_seen part))) (own_aimed found (own_by part.popped) instr ∷ [])

pub none_spelled : (first : ℕ) (parts : List GroupPart) (code : List Instr) → spelled_up_to first parts code 0 ≡ []
unfolding spelled_up_to
none_spelled first parts code = refl

-- all of them, in the words of the definition
pub all_spelled : (first : ℕ) (parts : List GroupPart) (labelled : Labelled) (code : List Instr) (ranges : List Protected) → length parts ≡ length labelled.code
    → code ≡ spelled_up_to first parts labelled.code (length labelled.code) → ranges ≡ flat_map (protected_pieces (groups_seen parts)) labelled.ranges
    → ◌≡◌ {A = Labelled} (record { code = code; ranges = ranges }) (labels_in_groups first (groups_seen parts) labelled)
unfolding spelled_up_to labels_in_groups
all_spelled first parts labelled code ranges same spelled_is cut_is =
    ap₂ (λ (c : List Instr) (r : List Protected). labels_by c r)
    (spelled_is ∙ ap₂ (λ (gs : List Group) (is : List Instr). regrouped (inserted_instr first) (own_instr (start (groups_seen parts))) gs is)
    (take_all (length labelled.code) (groups_seen parts) (omega (arith, same, length_map group_seen parts))) (take_all (length labelled.code) labelled.code (omega arith)))
    cut_is
