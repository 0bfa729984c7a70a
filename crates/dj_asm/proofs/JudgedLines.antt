-- Lines that are judged alone.
use Rattle.std.proofs.Common.{◌≡◌, ℕ, ◌+◌, ◌<◌, ◌≤◌, ◌<ℤ◌, ◌≤ℤ◌, true, false, ◌&&◌, ℤ, List, ◌∷◌, length, map, get_or, drop, Option, Some, None, nat_lt, refl, sym, ap, ◌∙◌, arith}
use Rattle.std.specs.Prelude.{int_lt}
use Rattle.std.proofs.lemmas.Int.{ints}
use Rattle.std.proofs.lemmas.List.{drop_all, drop_more}
use Rattle.dj_names.specs.declared.descriptor.Desc.{Desc}
use Rattle.dj_names.specs.trusted.Descriptors.{Describes, slots_of}
use Rattle.dj_names.specs.trusted.DescReading.{desc_read}
use Rattle.dj_names.proofs.DescLaws.{desc_takes, desc_again}
use Rattle.dj_asm_source.specs.declared.targets.Pair as the_pair
use Rattle.dj_asm_source.specs.PairViews.{pair_view}
use Rattle.dj_asm.specs.Judging.{rise_from, are_many, has_many_slots}

-- ---- the slots of a descriptor

pub many_slots : (text : List ℕ) (d : Desc) → Describes text d → nat_lt 254 (slots_of d) ≡ has_many_slots text
many_slots text d is = sym (ap are_many (desc_again text d is))

pub few_slots : (text : List ℕ) → ((d : Desc) → Describes text d → ⊥) → false ≡ has_many_slots text
few_slots text none = by (desc_read text) refl where
  by : (o : Option Desc) → desc_read text ≡ o → false ≡ are_many o
  by None e = refl
  by (Some d) e = absurd (none d (desc_takes text d e))

-- ---- matches that rise

left_at : (pairs : List the_pair.Pair) (i : ℕ) (pair : the_pair.Pair) → i < length pairs → pair ≡ get_or pairs i pair → map pair_view (drop i pairs) ≡ pair_view pair ∷ map pair_view (drop (i + 1) pairs)
left_at pairs i pair lt is = ap (map pair_view) (drop_more pairs i pair lt ∙ ap (λ p. p ∷ drop (i + 1) pairs) (sym is))

int_not : (a b : ℤ) → b ≤ℤ a → int_lt a b ≡ false
int_not a b le = grind (arith, ints)

int_so : (a b : ℤ) → a <ℤ b → int_lt a b ≡ true
int_so a b lt = grind (arith, ints)

pub rise_stops : (pairs : List the_pair.Pair) (i : ℕ) (pair : the_pair.Pair) (last : ℤ) → i < length pairs → pair ≡ get_or pairs i pair → pair.key ≤ℤ last → false ≡ rise_from last (map pair_view (drop i pairs))
unfolding rise_from
rise_stops pairs i pair last lt is le =
    sym (ap (rise_from last) (left_at pairs i pair lt is) ∙ ap (λ b. b && rise_from pair.key (map pair_view (drop (i + 1) pairs))) (int_not last pair.key le))

pub rise_goes : (pairs : List the_pair.Pair) (i : ℕ) (pair : the_pair.Pair) (last : ℤ) → i < length pairs → pair ≡ get_or pairs i pair → last <ℤ pair.key
    → rise_from pair.key (map pair_view (drop (i + 1) pairs)) ≡ rise_from last (map pair_view (drop i pairs))
unfolding rise_from
rise_goes pairs i pair last lt is less =
    sym (ap (rise_from last) (left_at pairs i pair lt is) ∙ ap (λ b. b && rise_from pair.key (map pair_view (drop (i + 1) pairs))) (int_so last pair.key less))

pub rise_ends : (pairs : List the_pair.Pair) (i : ℕ) (last : ℤ) → length pairs ≤ i → true ≡ rise_from last (map pair_view (drop i pairs))
unfolding rise_from
rise_ends pairs i last past = sym (ap (λ ps. rise_from last (map pair_view ps)) (drop_all i pairs past))
