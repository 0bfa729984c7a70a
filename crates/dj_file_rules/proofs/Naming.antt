-- A path and the name of its class, by their units.
use Rattle.std.proofs.Common.{◌≡◌, ◌≢◌, ℕ, ◌<◌, ◌^◌, ◌↔◌, Bool, false, List, [], ◌∷◌, ◌++◌, Some, None, sym, ap, ◌∙◌, append_assoc, IsTrue, codes, eqb}
use Rattle.std.specs.List.{AllByRecursion}
use Rattle.std.specs.Cmp.Lexicographic.{pointwise}
use Rattle.std.proofs.lemmas.Bool.Decides.{Decides-eqb}
use Rattle.std.proofs.lemmas.List.{append_cancel_right}
use Rattle.std.proofs.lemmas.List.Concat.{flat_map-cons}
use Rattle.std.proofs.lemmas.Slice.Eq.{slice_eq-Decides}
use Rattle.dj_names.specs.trusted.ModifiedUtf8.{unit_text, units_text, SpellsUnits}
use Rattle.dj_names.specs.ModifiedUtf8.{BeginsNoUnit, BreaksAt}
use Rattle.dj_names.specs.trusted.UnitReading.{unit_read}
use Rattle.dj_names.proofs.UnitLaws.{unit_again, one_prefix, spelled_once}
use Rattle.dj_file_rules.specs.trusted.Violations.{path_units, IsNamedAs}

-- all ends in the suffix, and what stands before is compared
pub cut_is : (all prefix units suffix : List ℕ) (r : Bool) → all ≡ prefix ++ suffix → r ≡ pointwise eqb prefix units → IsTrue r ↔ (all ≡ units ++ suffix)
cut_is all prefix units suffix r parts e =
    let same = slice_eq-Decides Decides-eqb prefix units r e in (
      λ t. parts ∙ ap (λ (xs : List ℕ). xs ++ suffix) (same.0 t),
      λ is. same.1 (append_cancel_right prefix units suffix (sym parts ∙ is)),
    )

no_some : {A : Type 0} (x : A) → None ≡ Some x → ⊥
no_some x e = absurd cc

some_text : (u : ℕ) (rest : List ℕ) → u < 2 ^ 16 → [] ≡ unit_text u ++ rest → ⊥
unfolding unit_read
some_text u rest fits e = no_some (u, rest) (ap unit_read e ∙ unit_again u rest fits)

abbrev Fit : List ℕ → Type 0
Fit units = AllByRecursion (λ u. u < 2 ^ 16) units

-- units that are spelled past a prefix end in nothing or begin with a unit
past_prefix : (prefix units rest : List ℕ) → Fit prefix → Fit units → units_text units ≡ units_text prefix ++ rest → rest ≢ [] → BeginsNoUnit rest → ⊥
past_prefix [] [] rest f g e left broken = left (sym e)
past_prefix [] (u ∷ us) rest f g e left broken = broken u (units_text us) g.0 (sym e ∙ flat_map-cons unit_text u us)
past_prefix (v ∷ vs) [] rest f g e left broken =
    some_text v (units_text vs ++ rest) f.0 (e ∙ ap (λ (xs : List ℕ). xs ++ rest) (flat_map-cons unit_text v vs) ∙ append_assoc (unit_text v) (units_text vs) rest)
past_prefix (v ∷ vs) (u ∷ us) rest f g e left broken =
    let heads : unit_text u ++ units_text us ≡ unit_text v ++ (units_text vs ++ rest) =
    sym (flat_map-cons unit_text u us) ∙ e ∙ ap (λ (xs : List ℕ). xs ++ rest) (flat_map-cons unit_text v vs) ∙ append_assoc (unit_text v) (units_text vs) rest in
    past_prefix vs us rest f.1 g.1 (one_prefix u v (units_text us) (units_text vs ++ rest) g.0 f.0 heads).1 left broken

-- a text that breaks spells nothing
pub broken_spells_none : (text : List ℕ) (place : ℕ) (units : List ℕ) → BreaksAt text place → SpellsUnits text units → ⊥
broken_spells_none text place units b s =
    past_prefix b.units units b.rest b.prefix_is.units_fit s.units_fit
    (sym s.text_is ∙ b.parts ∙ ap (λ (xs : List ℕ). xs ++ b.rest) b.prefix_is.text_is) b.left b.broken

-- no path has the name of a text that breaks
pub broken_names_none : (path name : List ℕ) (place : ℕ) → BreaksAt name place → IsTrue false ↔ IsNamedAs path name
broken_names_none path name place b = (λ t. absurd cc, λ is. absurd (broken_spells_none name place is.units b is.spelled))

pub named_by : (path name all units : List ℕ) (r : Bool) → SpellsUnits name units → all ≡ path_units path → IsTrue r ↔ (all ≡ units ++ codes ".class") → IsTrue r ↔ IsNamedAs path name
named_by path name all units r spelled all-is tested = (
  λ t. record { units = units; spelled = spelled; same = sym all-is ∙ tested.0 t },
  λ is. tested.1 (all-is ∙ is.same ∙ ap (λ (us : List ℕ). us ++ codes ".class") (spelled_once name is.units units is.spelled spelled)),
)
