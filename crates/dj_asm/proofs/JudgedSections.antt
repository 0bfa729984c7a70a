-- Lines that are judged section by section.
use Rattle.std.proofs.Common.{◌≡◌, ℕ, ◌+◌, ◌-◌, ◌<◌, ◌≤◌, inl, inr, true, false, cond, List, [], ◌∷◌, length, map, take, drop, Some, None, nat_lt, sym, ap, ◌∙◌, subst, arith}
use Rattle.std.proofs.lemmas.Bool.Decides.{nat_tests}
use Rattle.std.proofs.lemmas.Bool.{cases_lt}
use Rattle.std.proofs.lemmas.List.{drop-drop, drop-map, take-map, length-map, length-drop, length-take-le}
use Rattle.dj_asm_source.specs.declared.syntax.Line as the_line
use Rattle.dj_asm_source.specs.trusted.Lines.{Line}
use Rattle.dj_asm_source.specs.LineViews.{line_view}
use Rattle.dj_asm_source.specs.LabelReading.{sections_of, section_size}
use Rattle.dj_asm_source.proofs.Sections.{section_step}
use Rattle.dj_asm.specs.Judging.{NoneBelow, IsFirstOf, is_large_in, in_sections, AreLeft}

pub lt_holds : (m n : ℕ) → m < n → nat_lt m n ≡ true
lt_holds m n lt = grind (arith, nat_tests)

pub lt_fails : (m n : ℕ) → n ≤ m → nat_lt m n ≡ false
lt_fails m n le = grind (arith, nat_tests)

-- ---- one section, and those after it

pub in_this : (section : List Line) (sections : List (List Line)) (place : ℕ) → place < length section → in_sections (section ∷ sections) place ≡ is_large_in section place
unfolding in_sections
in_this section sections place lt =
    ap (λ b. cond b (is_large_in section place) (in_sections sections (place - length section))) (lt_holds place (length section) lt)

pub in_later : (section : List Line) (sections : List (List Line)) (place : ℕ) → in_sections (section ∷ sections) (length section + place) ≡ in_sections sections place
unfolding in_sections
in_later section sections place =
    let past : length section ≤ length section + place = omega arith in
    let same : length section + place - length section ≡ place = omega arith in
    ap (λ b. cond b (is_large_in section (length section + place)) (in_sections sections (length section + place - length section))) (lt_fails (length section + place) (length section) past)
    ∙ ap (in_sections sections) same

section_at : (lines : List Line) → 0 < length lines → sections_of lines ≡ take (section_size lines) lines ∷ sections_of (drop (section_size lines) lines)
section_at [] some = absurd (none some) where
  none : 0 < 0 → ⊥
  none e = omega (arith, e)
section_at (line ∷ lines) some = section_step line lines

pub at_beginning : (lines : List Line) → AreLeft lines 0
at_beginning lines = record { left = λ place. let z : 0 + place ≡ place = omega arith in ap (in_sections (sections_of lines)) z; none = λ earlier lt. absurd (omega (arith, lt)); within = omega arith }

module _ (lines : List the_line.Line) (before size : ℕ) (some : before < length lines) (size_is : size ≡ section_size (map line_view (drop before lines)))
    (within : size ≤ length (drop before lines)) (so : AreLeft (map line_view lines) before) where
  all : List Line
  all = map line_view lines

  section : List Line
  section = map line_view (take size (drop before lines))

  left_some : 0 < length (map line_view (drop before lines))
  left_some = omega (arith, some, length-map (drop before lines) line_view, length-drop before lines)

  first_count : length section ≡ size
  unfolding section
  first_count = length-map (take size (drop before lines)) line_view ∙ length-take-le size (drop before lines) within

  cut : sections_of (drop before all) ≡ section ∷ sections_of (drop (before + size) all)
  unfolding section all
  cut =
      ap sections_of (drop-map line_view before lines)
      ∙ (section_at (map line_view (drop before lines)) left_some
      ∙ (ap (λ k. take k (map line_view (drop before lines)) ∷ sections_of (drop k (map line_view (drop before lines)))) (sym size_is)
      ∙ (ap (λ ls. ls ∷ sections_of (drop size (map line_view (drop before lines)))) (take-map line_view size (drop before lines))
      ∙ ap (λ ls. map line_view (take size (drop before lines)) ∷ sections_of ls) (ap (drop size) (sym (drop-map line_view before lines)) ∙ drop-drop size before (map line_view lines)))))

  inside : (place : ℕ) → place < size → in_sections (sections_of all) (before + place) ≡ is_large_in section place
  unfolding all
  inside place lt = so.left place ∙ (ap (λ ss. in_sections ss place) cut ∙ in_this section (sections_of (drop (before + size) all)) place (omega (arith, lt, first_count)))

  outside : (place : ℕ) → in_sections (sections_of all) (before + (size + place)) ≡ in_sections (sections_of (drop (before + size) all)) place
  unfolding all
  outside place =
      so.left (size + place)
      ∙ (ap (λ ss. in_sections ss (size + place)) cut
      ∙ (ap (λ (n : ℕ). in_sections (section ∷ sections_of (drop (before + size) all)) (n + place)) (sym first_count) ∙ in_later section (sections_of (drop (before + size) all)) place))

  before_all : before + size ≤ length lines
  before_all = omega (arith, some, within, length-drop before lines)

  none_below : (place : ℕ) → place ≤ size → NoneBelow (is_large_in section) place → NoneBelow (in_sections (sections_of all)) (before + place)
  unfolding all
  none_below place le none = λ earlier lt. elim (cases_lt earlier before) [
    | inl first ↦ so.none earlier first
    | inr ge ↦
        let same : before + (earlier - before) ≡ earlier = omega (arith, ge) in
        let less : earlier - before < place = omega (arith, ge, lt) in
        ap (in_sections (sections_of (map line_view lines))) (sym same) ∙ (inside (earlier - before) (omega (arith, less, le)) ∙ none (earlier - before) less)
  ]

  taken : length (take size (drop before lines)) ≡ size
  taken = length-take-le size (drop before lines) within

  pub found_in_section : (place : ℕ) → IsFirstOf (is_large_in (map line_view (take size (drop before lines)))) (length (take size (drop before lines))) (Some place)
      → IsFirstOf (in_sections (sections_of (map line_view lines))) (length lines) (Some (before + place))
  unfolding section all
  found_in_section place first =
      let lt : place < size = subst (λ (n : ℕ). place < n) taken first.0 in
      (omega (arith, lt, before_all), inside place lt ∙ first.1, none_below place (omega (arith, lt)) first.2)

  pub none_in_section : IsFirstOf (is_large_in (map line_view (take size (drop before lines)))) (length (take size (drop before lines))) None → AreLeft (map line_view lines) (before + size)
  unfolding section all
  none_in_section none =
      record {
        left = λ place. let shift : before + size + place ≡ before + (size + place) = omega arith in ap (in_sections (sections_of (map line_view lines))) shift ∙ outside place;
        none = none_below size (omega arith) (subst (NoneBelow (is_large_in (map line_view (take size (drop before lines))))) taken none);
        within = subst (λ (n : ℕ). before + size ≤ n) (sym (length-map lines line_view)) before_all;
      }

pub none_in_all : (lines : List the_line.Line) (before : ℕ) → AreLeft (map line_view lines) before → length lines ≤ before → IsFirstOf (in_sections (sections_of (map line_view lines))) (length lines) None
none_in_all lines before so past = λ earlier lt. so.none earlier (omega (arith, lt, past))
