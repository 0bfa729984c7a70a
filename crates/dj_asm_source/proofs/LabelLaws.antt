-- The labels of a body, as the readers' two passes find them.
use Rattle.std.proofs.Common.{◌≡◌, ◌≢◌, ◌⊎◌, ℕ, zero, suc, ◌+◌, ◌<◌, Bool, true, false, cond, not, List, [], ◌∷◌, ◌++◌, length, Option, Some, None, Contains, slice_get, bytes_eq, refl, sym, ap, ◌∙◌, subst, inl, inr, arith, true≢false, Decides}
use Rattle.std.specs.List.{AllByRecursion, list_all}
use Rattle.std.proofs.lemmas.Bool.{cases_Bool, ltb-true, lt-ltb, le-ltb}
use Rattle.std.proofs.lemmas.Bool.Decides.{Decides-and, Decides-or, Decides-not}
use Rattle.std.proofs.lemmas.List.{append_assoc, length-append, get_or_at}
use Rattle.std.proofs.lemmas.List.Elements.{All-contains, All-from_recursion}
use Rattle.std.proofs.lemmas.List.Sums.{sum_by-cons}
use Rattle.std.proofs.lemmas.Slice.Eq.{bytes_eq-Decides}
use Rattle.dj_cursor.proofs.Options.{some_is}
use Rattle.dj_asm_source.specs.trusted.Lines.{Label, Labelled, Catch, Line, Beside}
use Rattle.dj_asm_source.specs.trusted.Labels.{Use, AtInstruction, Range, is_instruction, instruction_count, IsLabelAt, IsInstructionLabel, IsRange, IsMet, IsDoubled, uses_of}
use Rattle.dj_asm_tokens.specs.WordReading.{row_of}
use Rattle.dj_asm_source.specs.LabelReading.{LabelMark, Marks, defined_by, with_mark, number_after, marks_from, marks_of, is_below, is_in_order, is_met, is_before, is_again, is_mislabelled, mislabelled_from, mislabelled_in}

-- ---- what the rows of a table say

abbrev pub mark : ℕ → ℕ → LabelMark
mark place number = record { place = place; number = number }

abbrev labelled : Label → Line
labelled label = Beside (Labelled label)

-- no line defines the label
abbrev AreOthers : Label → List Line → Type 0
AreOthers label lines = AllByRecursion (λ line. line ≢ Beside (Labelled label)) lines

-- the first line that defines the label
record IsFirst (lines : List Line) (label : Label) : Type 0 where
  prefix : List Line
  rest : List Line
  parts : lines ≡ prefix ++ Beside (Labelled label) ∷ rest
  others : AreOthers label prefix

label_is : (a b : Label) → labelled a ≡ labelled b → a ≡ b
label_is a b e = cc

-- a line that defines the label, or not
pub same_line : (label : Label) (line : Line) → (line ≡ labelled label) ⊎ (line ≢ labelled label)
same_line label (Beside (Labelled defined)) =
    elim (cases_Bool (bytes_eq defined label)) [
      | inl t ↦ inl (ap labelled ((bytes_eq-Decides defined label).0 t))
      | inr t ↦ inr (λ e. true≢false (sym ((bytes_eq-Decides defined label).1 (label_is defined label e)) ∙ t))
    ]
same_line label (Beside (Catch class from to handler)) = inr (λ e. absurd cc)
same_line label line = inr (λ e. absurd cc)

first_or_none : (lines : List Line) (label : Label) → IsFirst lines label ⊎ AreOthers label lines
first_or_none [] label = inr tt
first_or_none (line ∷ lines) label = by (same_line label line) (first_or_none lines label) where
  by : (line ≡ labelled label) ⊎ (line ≢ labelled label) → IsFirst lines label ⊎ AreOthers label lines → IsFirst (line ∷ lines) label ⊎ AreOthers label (line ∷ lines)
  by (inl e) more = inl (record { prefix = []; rest = lines; parts = ap (λ l. l ∷ lines) e; others = tt })
  by (inr n) (inl first) = inl (record { prefix = line ∷ first.prefix; rest = first.rest; parts = ap (λ ls. line ∷ ls) first.parts; others = (n, first.others) })
  by (inr n) (inr none) = inr (n, none)

-- a row of another line
pub row_past : (label : Label) (line : Line) (place number : ℕ) (marks : Marks) → line ≢ labelled label → row_of (with_mark (defined_by line) place number marks) label ≡ row_of marks label
row_past label (Beside (Labelled defined)) place number marks n =
    elim (cases_Bool (bytes_eq defined label)) [
      | inl t ↦ absurd (n (ap labelled ((bytes_eq-Decides defined label).0 t)))
      | inr t ↦ ap (λ b. cond b (Some (mark place number)) (row_of marks label)) t
    ]
row_past label (Beside (Catch class from to handler)) place number marks n = refl
row_past label line place number marks n = refl

pub row_here : (label : Label) (place number : ℕ) (marks : Marks) → row_of ((label, mark place number) ∷ marks) label ≡ Some (mark place number)
row_here label place number marks = ap (λ b. cond b (Some (mark place number)) (row_of marks label)) ((bytes_eq-Decides label label).1 refl)

no_row : (label : Label) (place number : ℕ) (lines : List Line) → AreOthers label lines → row_of (marks_from place number lines) label ≡ None
unfolding marks_from
no_row label place number [] others = refl
no_row label place number (line ∷ lines) (n, others) =
    row_past label line place number (marks_from (suc place) (number_after line number) lines) n ∙ no_row label (suc place) (number_after line number) lines others

counted : (line : Line) (lines : List Line) → instruction_count (line ∷ lines) ≡ cond (is_instruction line) 1 0 + instruction_count lines
counted line lines = sum_by-cons (λ (l : Line). cond (is_instruction l) 1 0) line lines

after_is : (b : Bool) (number more : ℕ) → cond b (suc number) number + more ≡ number + (cond b 1 0 + more)
after_is true number more = omega arith
after_is false number more = omega arith

pub number_more : (line : Line) (number : ℕ) (lines : List Line) → number_after line number + instruction_count lines ≡ number + instruction_count (line ∷ lines)
number_more line number lines = after_is (is_instruction line) number (instruction_count lines) ∙ ap (λ n. number + n) (sym (counted line lines))

same_mark : {p q m n : ℕ} → p ≡ q → m ≡ n → Some (mark p m) ≡ Some (mark q n)
same_mark e f = cc

row_at : (label : Label) (place number : ℕ) (prefix rest : List Line) → AreOthers label prefix
    → row_of (marks_from place number (prefix ++ Beside (Labelled label) ∷ rest)) label ≡ Some (mark (place + length prefix) (number + instruction_count prefix))
unfolding marks_from
row_at label place number [] rest others = row_here label place number (marks_from (suc place) number rest) ∙ same_mark (omega arith) (omega arith)
row_at label place number (line ∷ prefix) rest (n, others) =
    row_past label line place number (marks_from (suc place) (number_after line number) (prefix ++ Beside (Labelled label) ∷ rest)) n
    ∙ (row_at label (suc place) (number_after line number) prefix rest others
    ∙ same_mark (omega arith) (number_more line number prefix))

first_row : (label : Label) (prefix rest : List Line) → AreOthers label prefix
    → row_of (marks_of (prefix ++ Beside (Labelled label) ∷ rest)) label ≡ Some (mark (length prefix) (instruction_count prefix))
first_row label prefix rest others = row_at label 0 0 prefix rest others ∙ same_mark (omega arith) (omega arith)

-- ---- what is decided of a body

none_or_some : (m : LabelMark) → ◌≡◌ {A = Option LabelMark} None (Some m) → ⊥
none_or_some m e = absurd cc

module _ (body : List Line) where
  row_first : (label : Label) (first : IsFirst body label) → row_of (marks_of body) label ≡ Some (mark (length first.prefix) (instruction_count first.prefix))
  row_first label first =
      ap (λ ls. row_of (marks_of ls) label) first.parts ∙ first_row label first.prefix first.rest first.others

  -- a row says what the label stands for
  pub row_sound : (label : Label) (m : LabelMark) → row_of (marks_of body) label ≡ Some m → IsLabelAt body label m.number
  row_sound label m e = by (first_or_none body label) where
    by : IsFirst body label ⊎ AreOthers label body → IsLabelAt body label m.number
    by (inl first) = record {
      prefix = first.prefix;
      rest = first.rest;
      parts = first.parts;
      first = first.others;
      number_is = ap (λ (k : LabelMark). k.number) (some_is m (mark (length first.prefix) (instruction_count first.prefix)) (sym e ∙ row_first label first));
    }
    by (inr none) = absurd (none_or_some m (sym (no_row label 0 0 body none) ∙ e))

  -- what a label stands for has a row
  pub row_whole : (label : Label) (number : ℕ) (at : IsLabelAt body label number) → row_of (marks_of body) label ≡ Some (mark (length at.prefix) number)
  row_whole label number at =
      row_first label (record { prefix = at.prefix; rest = at.rest; parts = at.parts; others = at.first })
      ∙ ap (λ n. Some (mark (length at.prefix) n)) (sym at.number_is)

  pub one_number : (label : Label) (m n : ℕ) → IsLabelAt body label m → IsLabelAt body label n → m ≡ n
  one_number label m n a b =
      ap (λ (k : LabelMark). k.number) (some_is (mark (length a.prefix) m) (mark (length b.prefix) n) (sym (row_whole label m a) ∙ row_whole label n b))

  instruction_decides : (label : Label) (o : Option LabelMark) → row_of (marks_of body) label ≡ o → Decides (is_below (instruction_count body) o) (IsInstructionLabel body label)
  instruction_decides label None e = (
    λ t. absurd (true≢false (sym t)),
    λ met. absurd (none_or_some (mark (length met.defined.prefix) met.number) (sym e ∙ row_whole label met.number met.defined)),
  )
  instruction_decides label (Some m) e = (
    λ t. record { number = m.number; defined = row_sound label m e; instruction = ltb-true m.number (instruction_count body) t },
    λ met. lt-ltb m.number (instruction_count body) (subst (λ n. n < instruction_count body) (one_number label met.number m.number met.defined (row_sound label m e)) met.instruction),
  )

  range_decides : (from to : Label) (o p : Option LabelMark) → row_of (marks_of body) from ≡ o → row_of (marks_of body) to ≡ p → Decides (is_in_order o p) (IsRange body from to)
  range_decides from to None p e f = (
    λ t. absurd (true≢false (sym t)),
    λ met. absurd (none_or_some (mark (length met.from_is.prefix) met.first) (sym e ∙ row_whole from met.first met.from_is)),
  )
  range_decides from to (Some m) None e f = (
    λ t. absurd (true≢false (sym t)),
    λ met. absurd (none_or_some (mark (length met.to_is.prefix) met.end) (sym f ∙ row_whole to met.end met.to_is)),
  )
  range_decides from to (Some m) (Some n) e f = (
    λ t. record { first = m.number; end = n.number; from_is = row_sound from m e; to_is = row_sound to n f; some = ltb-true m.number n.number t },
    λ met.
        lt-ltb m.number n.number
        (subst (λ a. a < n.number) (one_number from met.first m.number met.from_is (row_sound from m e))
        (subst (λ b. met.first < b) (one_number to met.end n.number met.to_is (row_sound to n f)) met.some)),
  )

  pub use_decides : (asked : Use) → Decides (is_met (marks_of body) (instruction_count body) asked) (IsMet body asked)
  use_decides (AtInstruction label) = instruction_decides label (row_of (marks_of body) label) refl
  use_decides (Range from to) = range_decides from to (row_of (marks_of body) from) (row_of (marks_of body) to) refl refl

  uses_decide : (uses : List Use) → Decides (list_all (is_met (marks_of body) (instruction_count body)) uses) (AllByRecursion (IsMet body) uses)
  uses_decide [] = (λ t. tt, λ p. refl)
  uses_decide (asked ∷ uses) =
      Decides-and (is_met (marks_of body) (instruction_count body) asked) (list_all (is_met (marks_of body) (instruction_count body)) uses) (use_decides asked) (uses_decide uses)

-- ---- labels that are defined again

others_lack : (label : Label) (lines : List Line) → AreOthers label lines → Contains lines (labelled label) → ⊥
others_lack label lines others contains = All-contains (λ line. line ≢ labelled label) lines (labelled label) (All-from_recursion (λ line. line ≢ labelled label) lines others) contains refl

first_contains : (label : Label) (lines : List Line) → IsFirst lines label → Contains lines (labelled label)
first_contains label lines first =
    subst (λ ls. Contains ls (labelled label)) (sym first.parts)
    (length first.prefix, omega (arith, length-append first.prefix (labelled label ∷ first.rest)), get_or_at first.prefix (labelled label) first.rest (labelled label) (length first.prefix) refl)

module _ (prefix : List Line) (rest : List Line) where
  -- with the label after the prefix
  label_again : (label : Label) → IsFirst prefix label ⊎ AreOthers label prefix
      → Decides (is_before (length prefix) (row_of (marks_of (prefix ++ labelled label ∷ rest)) label)) (Contains prefix (labelled label))
  label_again label (inl first) =
      let whole : prefix ++ labelled label ∷ rest ≡ first.prefix ++ labelled label ∷ (first.rest ++ labelled label ∷ rest) =
      ap (λ ls. ls ++ labelled label ∷ rest) first.parts ∙ append_assoc first.prefix (labelled label ∷ first.rest) (labelled label ∷ rest) in
      let row : row_of (marks_of (prefix ++ labelled label ∷ rest)) label ≡ Some (mark (length first.prefix) (instruction_count first.prefix)) =
      ap (λ ls. row_of (marks_of ls) label) whole ∙ first_row label first.prefix (first.rest ++ labelled label ∷ rest) first.others in
      let size = ap length first.parts ∙ length-append first.prefix (labelled label ∷ first.rest) in
      let below : length first.prefix < length prefix = omega (arith, size) in (
        λ t. first_contains label prefix first,
        λ contains. ap (is_before (length prefix)) row ∙ lt-ltb (length first.prefix) (length prefix) below,
      )
  label_again label (inr none) =
      let row : row_of (marks_of (prefix ++ labelled label ∷ rest)) label ≡ Some (mark (length prefix) (instruction_count prefix)) = first_row label prefix rest none in (
        λ t. absurd (true≢false (sym t ∙ (ap (is_before (length prefix)) row ∙ le-ltb (length prefix) (length prefix) (omega arith)))),
        λ contains. absurd (others_lack label prefix none contains),
      )

  again_decides : (line : Line) → Decides (is_again (marks_of (prefix ++ line ∷ rest)) (length prefix) (defined_by line)) (IsDoubled prefix line)
  again_decides (Beside (Labelled label)) = label_again label (first_or_none prefix label)
  again_decides (Beside (Catch class from to handler)) = (λ t. true≢false (sym t), λ wrong. absurd wrong)
  again_decides line = (λ t. true≢false (sym t), λ wrong. absurd wrong)

-- ---- lines that are mislabelled

-- the line after this prefix is mislabelled
abbrev pub IsWrong : List Line → List Line → Line → Type 0
IsWrong body prefix line = IsDoubled prefix line ⊎ (AllByRecursion (IsMet body) (uses_of line) → ⊥)

line_decides : (prefix : List Line) (line : Line) (rest : List Line)
    → Decides (is_mislabelled (marks_of (prefix ++ line ∷ rest)) (instruction_count (prefix ++ line ∷ rest)) (length prefix) line) (IsWrong (prefix ++ line ∷ rest) prefix line)
line_decides prefix line rest =
    let body = prefix ++ line ∷ rest in
    let met = list_all (is_met (marks_of body) (instruction_count body)) (uses_of line) in
    Decides-or (is_again (marks_of body) (length prefix) (defined_by line)) (not met) (again_decides prefix rest line) (Decides-not met (uses_decide body (uses_of line)))

-- the line after this many of the body is mislabelled
pub record IsWrongAt (body : List Line) (place : ℕ) : Type 0 where
  pub prefix : List Line
  pub line : Line
  pub rest : List Line
  pub parts : body ≡ prefix ++ line ∷ rest
  pub place_is : place ≡ length prefix
  pub wrong : IsWrong body prefix line

split_at : {A : Type 0} (xs : List A) (n : ℕ) (x : A) → slice_get xs n ≡ Some x → (prefix : List A) × (rest : List A) × (xs ≡ prefix ++ x ∷ rest) × (n ≡ length prefix)
split_at [] n x e = absurd cc
split_at (y ∷ xs) zero x e = ([], xs, ap (λ z. z ∷ xs) (some_is y x e), refl)
split_at (y ∷ xs) (suc n) x e = let s = split_at xs n x e in (y ∷ s.0, s.1, ap (λ ys. y ∷ ys) s.2, ap suc s.3)

get_at : {A : Type 0} (prefix : List A) (x : A) (rest : List A) → slice_get (prefix ++ x ∷ rest) (length prefix) ≡ Some x
get_at [] x rest = refl
get_at (y ∷ prefix) x rest = get_at prefix x rest

module _ (body : List Line) where
  abbrev is_wrong : ℕ → Line → Bool
  is_wrong place line = is_mislabelled (marks_of body) (instruction_count body) place line

  wrong_at : (place : ℕ) (line : Line) → slice_get body place ≡ Some line → is_wrong place line ≡ true → IsWrongAt body place
  wrong_at place line at t =
      let s = split_at body place line at in
      let test : is_mislabelled (marks_of (s.0 ++ line ∷ s.1)) (instruction_count (s.0 ++ line ∷ s.1)) (length s.0) line ≡ true =
      subst (λ b. is_mislabelled (marks_of b) (instruction_count b) (length s.0) line ≡ true) s.2 (subst (λ n. is_wrong n line ≡ true) s.3 t) in
      record {
        prefix = s.0;
        line = line;
        rest = s.1;
        parts = s.2;
        place_is = s.3;
        wrong = subst (λ b. IsWrong b s.0 line) (sym s.2) ((line_decides s.0 line s.1).0 test);
      }

  -- the line that is mislabelled, with its test
  is_at : (place : ℕ) → IsWrongAt body place → (line : Line) × (slice_get body place ≡ Some line) × (is_wrong place line ≡ true)
  is_at place w = (
    w.line,
    subst (λ n. slice_get body n ≡ Some w.line) (sym w.place_is) (ap (λ b. slice_get b (length w.prefix)) w.parts ∙ get_at w.prefix w.line w.rest),
    subst (λ n. is_wrong n w.line ≡ true) (sym w.place_is)
        (subst (λ b. is_mislabelled (marks_of b) (instruction_count b) (length w.prefix) w.line ≡ true) (sym w.parts)
        ((line_decides w.prefix w.line w.rest).1 (subst (λ b. IsWrong b w.prefix w.line) w.parts w.wrong))),
  )

-- ---- the first of them

-- what the pass finds among these lines after this many
record IsFound (test : ℕ → Line → Bool) (before : ℕ) (lines : List Line) (place : ℕ) : Type 0 where
  number : ℕ
  line : Line
  place_is : place ≡ before + number
  at : slice_get lines number ≡ Some line
  wrong : test place line ≡ true
  first : (n : ℕ) (l : Line) → n < number → slice_get lines n ≡ Some l → test (before + n) l ≡ false

module _ (marks : Marks) (count : ℕ) where
  abbrev test : ℕ → Line → Bool
  test = is_mislabelled marks count

  none_below : (n : ℕ) → n < 0 → ⊥
  none_below n below = omega (arith, below)

  found_here : (before : ℕ) (line : Line) (lines : List Line) (place : ℕ) → test before line ≡ true → before ≡ place → IsFound test before (line ∷ lines) place
  found_here before line lines place t e = record {
    number = 0;
    line = line;
    place_is = omega (arith, e);
    at = refl;
    wrong = subst (λ n. test n line ≡ true) e t;
    first = λ n l below at. absurd (none_below n below);
  }

  not_earlier : (before : ℕ) (line : Line) (lines : List Line) (number : ℕ) → test before line ≡ false
      → ((n : ℕ) (l : Line) → n < number → slice_get lines n ≡ Some l → test (suc before + n) l ≡ false)
      → (n : ℕ) (l : Line) → n < suc number → slice_get (line ∷ lines) n ≡ Some l → test (before + n) l ≡ false
  not_earlier before line lines number t first zero l below at = subst (λ k. test k l ≡ false) (omega arith) (subst (λ k. test before k ≡ false) (some_is line l at) t)
  not_earlier before line lines number t first (suc n) l below at = subst (λ k. test k l ≡ false) (omega arith) (first n l (omega (arith, below)) at)

  found_later : (before : ℕ) (line : Line) (lines : List Line) (place : ℕ) → test before line ≡ false → IsFound test (suc before) lines place → IsFound test before (line ∷ lines) place
  found_later before line lines place t f = record {
    number = suc f.number;
    line = f.line;
    place_is = omega (arith, f.place_is);
    at = f.at;
    wrong = f.wrong;
    first = not_earlier before line lines f.number t f.first;
  }

  found : (before : ℕ) (lines : List Line) (place : ℕ) → mislabelled_from marks count before lines ≡ Some place → IsFound test before lines place
  unfolding mislabelled_from
  found before [] place e = absurd cc
  found before (line ∷ lines) place e =
      elim (cases_Bool (test before line)) [
        | inl t ↦ found_here before line lines place t (some_is before place (sym (ap (λ b. cond b (Some before) (mislabelled_from marks count (suc before) lines)) t) ∙ e))
        | inr t ↦ found_later before line lines place t (found (suc before) lines place (sym (ap (λ b. cond b (Some before) (mislabelled_from marks count (suc before) lines)) t) ∙ e))
      ]

  none_found : (before : ℕ) (lines : List Line) → mislabelled_from marks count before lines ≡ None → (n : ℕ) (l : Line) → slice_get lines n ≡ Some l → test (before + n) l ≡ false
  unfolding mislabelled_from
  none_found before [] e n l at = absurd cc
  none_found before (line ∷ lines) e n l at =
      elim (cases_Bool (test before line)) [
        | inl t ↦ absurd (none_place before (sym e ∙ ap (λ b. cond b (Some before) (mislabelled_from marks count (suc before) lines)) t))
        | inr t ↦
            not_earlier before line lines n t (λ m k below. none_found (suc before) lines (sym (ap (λ b. cond b (Some before) (mislabelled_from marks count (suc before) lines)) t) ∙ e) m k)
            n l (omega arith) at
      ] where
        none_place : (p : ℕ) → ◌≡◌ {A = Option ℕ} None (Some p) → ⊥
        none_place p e = absurd cc

from_zero : (n : ℕ) → 0 + n ≡ n
from_zero n = omega arith

-- the first line of the body that is mislabelled
pub mislabelled_is : (body : List Line) (place : ℕ) → mislabelled_in body ≡ Some place → IsWrongAt body place
mislabelled_is body place e =
    let f = found (marks_of body) (instruction_count body) 0 body place e in
    wrong_at body place f.line (subst (λ n. slice_get body n ≡ Some f.line) (sym (f.place_is ∙ from_zero f.number)) f.at) f.wrong

pub none_before : (body : List Line) (place : ℕ) → mislabelled_in body ≡ Some place → (n : ℕ) → n < place → IsWrongAt body n → ⊥
none_before body place e n below w =
    let f = found (marks_of body) (instruction_count body) 0 body place e in
    let at = is_at body n w in
    true≢false (sym at.2 ∙ subst (λ k. is_wrong body k at.0 ≡ false) (from_zero n) (f.first n at.0 (omega (arith, below, f.place_is)) at.1))

pub none_mislabelled : (body : List Line) → mislabelled_in body ≡ None → (n : ℕ) → IsWrongAt body n → ⊥
none_mislabelled body e n w =
    let at = is_at body n w in
    true≢false (sym at.2 ∙ subst (λ k. is_wrong body k at.0 ≡ false) (from_zero n) (none_found (marks_of body) (instruction_count body) 0 body e n at.0 at.1))

pub wrong_within : (body : List Line) (n : ℕ) → IsWrongAt body n → n < length body
wrong_within body n w = let size = ap length w.parts ∙ length-append w.prefix (w.line ∷ w.rest) in omega (arith, size, w.place_is)
