-- Marks that were put in order and then lost their repeats.
use Rattle.std.proofs.Common.{◌≡◌, ℕ, ◌↔◌, List, Option, Some, None, refl, IsPermutation, Contains, Bool, true, false, ◌&&◌, nat_eq}
use Rattle.std.specs.List.{dedup}
use Rattle.std.specs.Option.{option_eq}
use Rattle.std.specs.Cmp.{and_equiv, on_equiv, nat_eq_equiv}
use Rattle.std.specs.Cmp.Lexicographic.{options_equiv}
use Rattle.std.proofs.lemmas.Bool.{eqb-true}
use Rattle.dj_report.proofs.Adding.{once_members}
use Rattle.dj_early_rules.specs.declared.marks.MarkPlace.{MarkPlace}
use Rattle.dj_early_rules.specs.declared.marks.Mark.{Mark}

abbrev pub same_place_test : MarkPlace → MarkPlace → Bool
same_place_test p q = nat_eq p.name q.name && (nat_eq p.desc q.desc && option_eq nat_eq p.number q.number)

abbrev pub same_mark_test : Mark → Mark → Bool
same_mark_test x y = same_place_test x.place y.place && nat_eq x.rule y.rule

both_true : (a b : Bool) → (a && b) ≡ true → (a ≡ true) × (b ≡ true)
both_true true b e = (refl, e)
both_true false b e = absurd cc

same_numbers : (a b : Option ℕ) → option_eq nat_eq a b ≡ true → a ≡ b
same_numbers None None e = refl
same_numbers None (Some y) e = absurd cc
same_numbers (Some x) None e = absurd cc
same_numbers (Some x) (Some y) e = λ i. Some (eqb-true x y e i)

same_places : (p q : MarkPlace) → same_place_test p q ≡ true → p ≡ q
same_places p q e =
    let all = both_true (nat_eq p.name q.name) (nat_eq p.desc q.desc && option_eq nat_eq p.number q.number) e in
    let rest = both_true (nat_eq p.desc q.desc) (option_eq nat_eq p.number q.number) all.1 in
    λ i. record { name = eqb-true p.name q.name all.0 i; desc = eqb-true p.desc q.desc rest.0 i; number = same_numbers p.number q.number rest.1 i }

same_marks : (x y : Mark) → same_mark_test x y ≡ true → x ≡ y
same_marks x y e =
    let all = both_true (same_place_test x.place y.place) (nat_eq x.rule y.rule) e in
    λ i. record { place = same_places x.place y.place all.0 i; rule = eqb-true x.rule y.rule all.1 i }

pub once_marks : (a b c : List Mark) → IsPermutation a b → c ≡ dedup same_mark_test b → (mark : Mark) → Contains c mark ↔ Contains a mark
once_marks = once_members
    (and_equiv (on_equiv (λ (m : Mark). m.place) (and_equiv (on_equiv (λ (p : MarkPlace). p.name) nat_eq_equiv) (and_equiv (on_equiv (λ (p : MarkPlace). p.desc) nat_eq_equiv) (on_equiv (λ (p : MarkPlace). p.number) (options_equiv nat_eq_equiv)))))
    (on_equiv (λ (m : Mark). m.rule) nat_eq_equiv)) same_marks
