-- The first place at which a test is met: of two tests, along lines, and section by section.
use Rattle.std.proofs.Common.{◌≡◌, ℕ, zero, suc, ◌+◌, ◌<◌, ◌≤◌, inl, inr, Bool, true, false, cond, ◌&&◌, ◌||◌, List, [], ◌∷◌, length, map, get_or, take, Option, Some, None, nat_lt, nat_le, refl, sym, ap, ◌∙◌, subst, arith}
use Rattle.std.specs.Prelude.{slice_get}
use Rattle.std.specs.List.{count_by}
use Rattle.std.proofs.lemmas.Bool.Decides.{nat_tests}
use Rattle.std.proofs.lemmas.Bool.{cases_Bool, cases_lt}
use Rattle.std.proofs.lemmas.List.{length-map, length-take-le}
use Rattle.std.proofs.lemmas.List.Sums.{sum_by-cons, sum_by-append}
use Rattle.dj_asm_source.specs.declared.syntax.Line as the_line
use Rattle.dj_asm_source.specs.trusted.Lines.{Label, Line}
use Rattle.dj_asm_source.specs.LineViews.{line_view}
use Rattle.dj_asm_source.specs.trusted.Labels.{is_instruction, instruction_count}
use Rattle.dj_asm_pool.specs.trusted.Entries.{Entry}
use Rattle.dj_asm.specs.trusted.Large.{most_lines}
use Rattle.dj_asm.specs.declared.counted.Kind.{Kind}
use Rattle.dj_asm.specs.Judging.{NoneBelow, IsFirstOf, earliest, either_test, is_kind, is_one_past, is_past, is_alone, alone, is_wide_line, is_wide}
use Rattle.dj_asm_pool.proofs.PoolEntries.{one_more}

-- ---- one of two tests

neither : (p q : Bool) → p ≡ false → q ≡ false → (p || q) ≡ false
neither true q e f = absurd cc
neither false q e f = f

first_true : (p q : Bool) → p ≡ true → (p || q) ≡ true
first_true true q e = refl
first_true false q e = absurd cc

second_true : (p q : Bool) → q ≡ true → (p || q) ≡ true
second_true true q e = refl
second_true false q e = e

lt_is : (a b : ℕ) → nat_lt a b ≡ true → a < b
lt_is a b e = grind (arith, nat_tests)

ge_is : (a b : ℕ) → nat_lt a b ≡ false → b ≤ a
ge_is a b e = grind (arith, nat_tests)

module _ (f g : ℕ → Bool) (n : ℕ) where
  none_of : (k : ℕ) → NoneBelow f k → NoneBelow g k → NoneBelow (either_test f g) k
  none_of k p q = λ earlier lt. neither (f earlier) (g earlier) (p earlier lt) (q earlier lt)

  less : (k m : ℕ) → k ≤ m → (h : ℕ → Bool) → NoneBelow h m → NoneBelow h k
  less k m le h p = λ earlier lt. p earlier (omega (arith, le, lt))

  by_order : (a b : ℕ) → IsFirstOf f n (Some a) → IsFirstOf g n (Some b) → (t : Bool) → nat_lt b a ≡ t → IsFirstOf (either_test f g) n (Some (cond t b a))
  by_order a b p q true e =
      let lt = lt_is b a e in
      (q.0, second_true (f b) (g b) q.1, none_of b (less b a (omega (arith, lt)) f p.2) q.2)
  by_order a b p q false e =
      (p.0, first_true (f a) (g a) p.1, none_of a p.2 (less a b (ge_is b a e) g q.2))

  pub earliest_is : (a b : Option ℕ) → IsFirstOf f n a → IsFirstOf g n b → IsFirstOf (either_test f g) n (earliest a b)
  earliest_is (Some a) (Some b) p q = by_order a b p q (nat_lt b a) refl
  earliest_is (Some a) None p q =
      let lt = p.0 in
      (p.0, first_true (f a) (g a) p.1, none_of a p.2 (less a n (omega (arith, lt)) g q))
  earliest_is None (Some b) p q =
      let lt = q.0 in
      (q.0, second_true (f b) (g b) q.1, none_of b (less b n (omega (arith, lt)) f p) q.2)
  earliest_is None None p q = none_of n p q

-- ---- along the places

-- none up to this one
pub none_next : (f : ℕ → Bool) (k : ℕ) → NoneBelow f k → f k ≡ false → NoneBelow f (k + 1)
none_next f k none e = λ earlier lt. elim (cases_lt earlier k) [
  | inl before ↦ none earlier before
  | inr ge ↦ let same : earlier ≡ k = omega (arith, lt, ge) in ap f same ∙ e
]

-- none of all
pub none_all : (f : ℕ → Bool) (n k : ℕ) → NoneBelow f k → n ≤ k → NoneBelow f n
none_all f n k none le = λ earlier lt. none earlier (omega (arith, lt, le))

-- ---- along lines

pub line_at : (lines : List the_line.Line) (place : ℕ) (line : the_line.Line) → place < length lines → line ≡ get_or lines place line → slice_get (map line_view lines) place ≡ Some (line_view line)
line_at [] place line lt is = absurd (omega (arith, lt))
line_at (x ∷ lines) zero line lt is = ap (λ l. Some (line_view l)) (sym is)
line_at (x ∷ lines) (suc place) line lt is = line_at lines place line (omega (arith, lt)) is

module _ (test : Line → Bool) where
  count_next : (lines : List Line) (place : ℕ) (line : Line) → slice_get lines place ≡ Some line → count_by test (take (place + 1) lines) ≡ count_by test (take place lines) + cond (test line) 1 0
  count_next lines place line at =
      let z : cond {A = ℕ} (test line) 1 0 + 0 ≡ cond (test line) 1 0 = omega arith in
      ap (count_by test) (one_more lines place line at)
      ∙ (sum_by-append (λ l. cond (test l) 1 0) (take place lines) (line ∷ [])
      ∙ ap (λ (k : ℕ). count_by test (take place lines) + k) (sum_by-cons (λ l. cond (test l) 1 0) line [] ∙ z))

  pub counted_more : (lines : List Line) (place : ℕ) (line : Line) → slice_get lines place ≡ Some line → test line ≡ true → count_by test (take (place + 1) lines) ≡ count_by test (take place lines) + 1
  counted_more lines place line at e = count_next lines place line at ∙ ap (λ b. count_by test (take place lines) + cond b 1 0) e

  pub counted_same : (lines : List Line) (place : ℕ) (line : Line) → slice_get lines place ≡ Some line → test line ≡ false → count_by test (take (place + 1) lines) ≡ count_by test (take place lines)
  counted_same lines place line at e =
      let z : count_by test (take place lines) + 0 ≡ count_by test (take place lines) = omega arith in
      count_next lines place line at ∙ (ap (λ b. count_by test (take place lines) + cond b 1 0) e ∙ z)

  count_few : (lines : List Line) → count_by test lines ≤ length lines
  count_few [] = omega arith
  count_few (line ∷ lines) =
      let r = count_few lines in
      elim (cases_Bool (test line)) [
        | inl e ↦ let s = sum_by-cons (λ l. cond (test l) 1 0) line lines ∙ ap (λ b. cond b 1 0 + count_by test lines) e in omega (arith, s, r)
        | inr e ↦ let s = sum_by-cons (λ l. cond (test l) 1 0) line lines ∙ ap (λ b. cond b 1 0 + count_by test lines) e in omega (arith, s, r)
      ]

-- ---- lines of a kind

le_holds : (m n : ℕ) → m ≤ n → nat_le m n ≡ true
le_holds m n le = grind (arith, nat_tests)

le_fails : (m n : ℕ) → n < m → nat_le m n ≡ false
le_fails m n lt = grind (arith, nat_tests)

module _ (kind : Kind) (lines : List the_line.Line) (place count : ℕ) (line : the_line.Line) (lt : place < length lines) (is : line ≡ get_or lines place line)
    (counted : count ≡ count_by (is_kind kind) (take place (map line_view lines))) (none : NoneBelow (is_past kind (map line_view lines)) place) where
  kind_here : is_past kind (map line_view lines) place ≡ (is_kind kind (line_view line) && nat_le most_lines count)
  kind_here =
      ap (is_one_past kind (count_by (is_kind kind) (take place (map line_view lines)))) (line_at lines place line lt is)
      ∙ ap (λ c. is_kind kind (line_view line) && nat_le most_lines c) (sym counted)

  pub one_past : true ≡ is_kind kind (line_view line) → most_lines ≤ count → IsFirstOf (is_past kind (map line_view lines)) (length lines) (Some place)
  one_past such many =
      (lt, kind_here ∙ (ap (λ b. b && nat_le most_lines count) (sym such) ∙ le_holds most_lines count many), none)

  pub next_counted : true ≡ is_kind kind (line_view line) → count < most_lines
      → (count + 1 ≡ count_by (is_kind kind) (take (place + 1) (map line_view lines))) × NoneBelow (is_past kind (map line_view lines)) (place + 1)
  next_counted such few = (
    ap (λ (c : ℕ). c + 1) counted ∙ sym (counted_more (is_kind kind) (map line_view lines) place (line_view line) (line_at lines place line lt is) (sym such)),
    none_next (is_past kind (map line_view lines)) place none (kind_here ∙ (ap (λ b. b && nat_le most_lines count) (sym such) ∙ le_fails most_lines count few)),
  )

  pub next_other : false ≡ is_kind kind (line_view line)
      → (count ≡ count_by (is_kind kind) (take (place + 1) (map line_view lines))) × NoneBelow (is_past kind (map line_view lines)) (place + 1)
  next_other other = (
    counted ∙ sym (counted_same (is_kind kind) (map line_view lines) place (line_view line) (line_at lines place line lt is) (sym other)),
    none_next (is_past kind (map line_view lines)) place none (kind_here ∙ ap (λ b. b && nat_le most_lines count) (sym other)),
  )

-- ---- lines that are judged alone

module _ (kept : List Entry) (lines : List the_line.Line) (place : ℕ) (line : the_line.Line) (lt : place < length lines) (is : line ≡ get_or lines place line)
    (none : NoneBelow (alone kept (map line_view lines)) place) where
  pub one_alone : true ≡ is_alone kept (Some (line_view line)) → IsFirstOf (alone kept (map line_view lines)) (length lines) (Some place)
  one_alone e = (lt, ap (is_alone kept) (line_at lines place line lt is) ∙ sym e, none)

  pub none_alone : false ≡ is_alone kept (Some (line_view line)) → NoneBelow (alone kept (map line_view lines)) (place + 1)
  none_alone e = none_next (alone kept (map line_view lines)) place none (ap (is_alone kept) (line_at lines place line lt is) ∙ sym e)

-- ---- jumps and ends

module _ (number : Label → ℕ) (starts : List ℕ) (stop : ℕ) (lines : List the_line.Line) (place count : ℕ) (line : the_line.Line) (lt : place < length lines) (is : line ≡ get_or lines place line)
    (counted : count ≡ instruction_count (take place (map line_view lines))) (none : NoneBelow (is_wide number starts stop (map line_view lines)) place) where
  wide_here : is_wide number starts stop (map line_view lines) place ≡ is_wide_line number starts stop count (Some (line_view line))
  wide_here =
      ap (is_wide_line number starts stop (instruction_count (take place (map line_view lines)))) (line_at lines place line lt is)
      ∙ ap (λ c. is_wide_line number starts stop c (Some (line_view line))) (sym counted)

  pub one_wide : true ≡ is_wide_line number starts stop count (Some (line_view line)) → IsFirstOf (is_wide number starts stop (map line_view lines)) (length lines) (Some place)
  one_wide e = (lt, wide_here ∙ sym e, none)

  pub none_wide : false ≡ is_wide_line number starts stop count (Some (line_view line)) → NoneBelow (is_wide number starts stop (map line_view lines)) (place + 1)
  none_wide e = none_next (is_wide number starts stop (map line_view lines)) place none (wide_here ∙ sym e)

  pub next_instruction : true ≡ is_instruction (line_view line) → count + 1 ≡ instruction_count (take (place + 1) (map line_view lines))
  next_instruction such = ap (λ (c : ℕ). c + 1) counted ∙ sym (counted_more is_instruction (map line_view lines) place (line_view line) (line_at lines place line lt is) (sym such))

  pub next_line : false ≡ is_instruction (line_view line) → count ≡ instruction_count (take (place + 1) (map line_view lines))
  next_line other = counted ∙ sym (counted_same is_instruction (map line_view lines) place (line_view line) (line_at lines place line lt is) (sym other))

  pub count_within : count < length lines
  count_within =
      let few = count_few is_instruction (take place (map line_view lines)) in
      let size = length-take-le place (map line_view lines) (subst (λ (n : ℕ). place ≤ n) (sym (length-map lines line_view)) (omega (arith, lt))) in
      omega (arith, counted, few, size, lt)
