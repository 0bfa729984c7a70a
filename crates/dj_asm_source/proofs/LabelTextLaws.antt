-- The first line of a text that is wrongly labelled, as the readers' passes find it.
use Rattle.std.proofs.Common.{◌≡◌, ◌⊎◌, ℕ, ℤ, zero, suc, ◌+◌, ◌<◌, ◌≤◌, List, [], ◌∷◌, ◌++◌, length, map, Option, Some, None, Ok, Err, slice_get, option_map, refl, sym, ap, ◌∙◌, subst, inl, inr, arith}
use Rattle.std.specs.List.{flat_map, AllByRecursion}
use Rattle.std.proofs.lemmas.Bool.{cases_order}
use Rattle.std.proofs.lemmas.List.{length-append}
use Rattle.dj_cursor.proofs.Options.{some_is}
use Rattle.dj_asm_source.specs.declared.error.AsmError.{AsmError}
use Rattle.dj_asm_source.specs.declared.error.AsmError.TheVariants as asm_errors
use Rattle.dj_asm_source.specs.trusted.Lines.{Line, Labelled, Catch, Super, Implements, Beside}
use Rattle.dj_asm_source.specs.trusted.Sources.{Source, FieldSource, MethodSource, version_lines, field_line, method_lines, head_lines, lines_of, IsTextOf}
use Rattle.dj_asm_source.specs.trusted.Faults.{WordFault}
use Rattle.dj_asm_source.specs.trusted.Labels.{IsMet, IsDoubled, IsMislabelled, LabelFault, uses_of, line_numbers}
use Rattle.dj_asm_source.specs.LineReading.{AreRead, or_else, text_read}
use Rattle.dj_asm_source.specs.LabelReading.{defined_by, mislabelled_in, mislabelled_after, first_mislabelled, label_error, labels_fault, read_fault, text_fault}
use Rattle.dj_asm_source.proofs.FaultLaws.{no_fault_of_text, one_word_fault}
use Rattle.dj_asm_source.proofs.TextLaws.{IsReadRightly, text_read_rightly, lines_are_read}
use Rattle.dj_asm_source.proofs.OneSource.{one_source}
use Rattle.dj_asm_source.proofs.NumberLaws.{as_many_lines}
use Rattle.dj_asm_source.proofs.LabelLaws.{IsWrong, IsWrongAt, mislabelled_is, none_before, none_mislabelled, wrong_within}
use Rattle.dj_asm_source.proofs.Sections.{source_sections}

-- ---- sections

-- the line after this many, of the sections after this many lines
abbrev IsWrongIn : ℕ → List (List Line) → ℕ → Type 0
IsWrongIn before [] place = ⊥
IsWrongIn before (section ∷ sections) place = ((n : ℕ) × (place ≡ before + n) × IsWrongAt section n) ⊎ IsWrongIn (before + length section) sections place

from_before : (before : ℕ) (sections : List (List Line)) (place : ℕ) → IsWrongIn before sections place → before ≤ place
from_before before [] place w = absurd w
from_before before (section ∷ sections) place (inl (n, e, w)) = omega (arith, e)
from_before before (section ∷ sections) place (inr w) = omega (arith, from_before (before + length section) sections place w)

-- the least place
record IsLeast (P : ℕ → Type 0) (place : ℕ) : Type 0 where
  is : P place
  first : (n : ℕ) → n < place → P n → ⊥

-- what the pass reports
abbrev IsReported : (ℕ → Type 0) → Option ℕ → Type 0
IsReported P None = (n : ℕ) → P n → ⊥
IsReported P (Some place) = IsLeast P place

reported_after : (before : ℕ) (sections : List (List Line)) → IsReported (IsWrongIn before sections) (mislabelled_after before sections)
unfolding mislabelled_after
reported_after before [] = λ n w. w
reported_after before (section ∷ sections) = by (mislabelled_in section) refl (mislabelled_after (before + length section) sections) (reported_after (before + length section) sections) where
  none_here : mislabelled_in section ≡ None → (n : ℕ) → (IsWrongIn (before + length section) sections n → ⊥) → IsWrongIn before (section ∷ sections) n → ⊥
  none_here e n none (inl (m, f, w)) = none_mislabelled section e m w
  none_here e n none (inr w) = none w

  later : (p : Option ℕ) → mislabelled_in section ≡ None → IsReported (IsWrongIn (before + length section) sections) p → IsReported (IsWrongIn before (section ∷ sections)) p
  later None e none = λ n. none_here e n (none n)
  later (Some place) e least = record { is = inr least.is; first = λ n below. none_here e n (least.first n below) }

  here : (k : ℕ) → mislabelled_in section ≡ Some k → IsLeast (IsWrongIn before (section ∷ sections)) (before + k)
  here k e = record { is = inl (k, refl, mislabelled_is section k e); first = first } where
    first : (n : ℕ) → n < before + k → IsWrongIn before (section ∷ sections) n → ⊥
    first n below (inl (m, f, w)) = none_before section k e m (omega (arith, below, f)) w
    first n below (inr w) =
        let from = from_before (before + length section) sections n w in
        let within = wrong_within section k (mislabelled_is section k e) in
        omega (arith, below, from, within)

  by : (o : Option ℕ) → mislabelled_in section ≡ o → (p : Option ℕ) → IsReported (IsWrongIn (before + length section) sections) p
      → IsReported (IsWrongIn before (section ∷ sections)) (or_else (option_map (λ n. before + n) o) p)
  by None e p reported = later p e reported
  by (Some k) e p reported = here k e

-- ---- lines before the methods

-- it has nothing to do with labels
abbrev IsPlain : Line → Type 0
IsPlain line = (defined_by line ≡ None) × (uses_of line ≡ [])

not_doubled : (prefix : List Line) (line : Line) → defined_by line ≡ None → IsDoubled prefix line → ⊥
not_doubled prefix (Beside (Labelled label)) e doubled = absurd cc
not_doubled prefix (Beside (Catch class from to handler)) e doubled = doubled
not_doubled prefix line e doubled = doubled

not_wrong : (body prefix : List Line) (line : Line) → IsPlain line → IsWrong body prefix line → ⊥
not_wrong body prefix line plain (inl doubled) = not_doubled prefix line plain.0 doubled
not_wrong body prefix line plain (inr unmet) = unmet (subst (AllByRecursion (IsMet body)) (sym plain.1) tt)

at_middle : (P : Line → Type 0) (prefix : List Line) (line : Line) (rest : List Line) → AllByRecursion P (prefix ++ line ∷ rest) → P line
at_middle P [] line rest (p, all) = p
at_middle P (l ∷ prefix) line rest (p, all) = at_middle P prefix line rest all

plain_fields : (fields : List FieldSource) → AllByRecursion IsPlain (map field_line fields)
plain_fields [] = tt
plain_fields (field ∷ fields) = ((refl, refl), plain_fields fields)

plain_names : (names : List (List ℕ)) (more : List Line) → AllByRecursion IsPlain more → AllByRecursion IsPlain (map Implements names ++ more)
plain_names [] more all = all
plain_names (name ∷ names) more all = ((refl, refl), plain_names names more all)

plain_tail : (version : Option (ℤ × ℤ)) (super : List ℕ) (names : List (List ℕ)) (fields : List FieldSource)
    → AllByRecursion IsPlain (version_lines version ++ Super super ∷ map Implements names ++ map field_line fields)
plain_tail None super names fields = ((refl, refl), plain_names names (map field_line fields) (plain_fields fields))
plain_tail (Some (major, minor)) super names fields = ((refl, refl), ((refl, refl), plain_names names (map field_line fields) (plain_fields fields)))

head_plain : (s : Source) → AllByRecursion IsPlain (head_lines s)
head_plain s = ((refl, refl), plain_tail s.version s.super s.interfaces s.fields)

none_in_head : (s : Source) (n : ℕ) → IsWrongAt (head_lines s) n → ⊥
none_in_head s n w =
    not_wrong (head_lines s) w.prefix w.line (at_middle IsPlain w.prefix w.line w.rest (subst (AllByRecursion IsPlain) w.parts (head_plain s))) w.wrong

-- ---- the methods of a source

abbrev lines_in : List MethodSource → List Line
lines_in methods = flat_map method_lines methods

-- the line after this many of a method's
record IsWrongOf (methods : List MethodSource) (before place : ℕ) : Type 0 where
  prefix : List MethodSource
  method : MethodSource
  rest : List MethodSource
  parts : methods ≡ prefix ++ method ∷ rest
  number : ℕ
  place_is : place ≡ before + length (lines_in prefix) + number
  wrong : IsWrongAt (method_lines method) number

method_count : (method : MethodSource) (methods : List MethodSource) → length (lines_in (method ∷ methods)) ≡ length (method_lines method) + length (lines_in methods)
method_count method methods = length-append (method_lines method) (lines_in methods)

in_sections : (before place : ℕ) (prefix : List MethodSource) (method : MethodSource) (rest : List MethodSource) (number : ℕ) → place ≡ before + length (lines_in prefix) + number
    → IsWrongAt (method_lines method) number → IsWrongIn before (map method_lines (prefix ++ method ∷ rest)) place
in_sections before place [] method rest number e w = inl (number, omega (arith, e), w)
in_sections before place (first ∷ prefix) method rest number e w =
    inr (in_sections (before + length (method_lines first)) place prefix method rest number (omega (arith, e, method_count first prefix)) w)

of_sections : (before place : ℕ) (methods : List MethodSource) → IsWrongIn before (map method_lines methods) place → IsWrongOf methods before place
of_sections before place [] w = absurd w
of_sections before place (method ∷ methods) (inl (n, e, w)) = record { prefix = []; method = method; rest = methods; parts = refl; number = n; place_is = omega (arith, e); wrong = w }
of_sections before place (method ∷ methods) (inr w) =
    let o = of_sections (before + length (method_lines method)) place methods w in
    record {
      prefix = method ∷ o.prefix;
      method = o.method;
      rest = o.rest;
      parts = ap (λ ms. method ∷ ms) o.parts;
      number = o.number;
      place_is = omega (arith, o.place_is, method_count method o.prefix);
      wrong = o.wrong;
    }

module _ (s : Source) where
  -- a place that is mislabelled is one of the sections'
  to_sections : (place : ℕ) → IsMislabelled s place → IsWrongIn 0 (head_lines s ∷ map method_lines s.methods) place
  to_sections place m =
      let of = m.in_method in
      let wrong : IsWrongAt (method_lines of.method) (length m.prefix) =
      subst (λ body. IsWrongAt body (length m.prefix)) of.lines_are (record { prefix = m.prefix; line = m.line; rest = m.rest; parts = m.parts; place_is = refl; wrong = m.wrong }) in
      inr
      (subst (λ methods. IsWrongIn (0 + length (head_lines s)) (map method_lines methods) place) (sym of.methods)
      (in_sections (0 + length (head_lines s)) place of.prefix of.method of.rest (length m.prefix) (omega (arith, m.place_is, of.before_is)) wrong))

  from_sections : (place : ℕ) → IsWrongIn 0 (head_lines s ∷ map method_lines s.methods) place → IsMislabelled s place
  from_sections place (inl (n, e, w)) = absurd (none_in_head s n w)
  from_sections place (inr w) =
      let o = of_sections (0 + length (head_lines s)) place s.methods w in
      record {
        before = length (head_lines s) + length (lines_in o.prefix);
        body = method_lines o.method;
        in_method = record { prefix = o.prefix; method = o.method; rest = o.rest; methods = o.parts; before_is = refl; lines_are = refl };
        prefix = o.wrong.prefix;
        line = o.wrong.line;
        rest = o.wrong.rest;
        parts = o.wrong.parts;
        place_is = omega (arith, o.place_is, o.wrong.place_is);
        wrong = o.wrong.wrong;
      }

  reported_of : (o : Option ℕ) → IsReported (IsWrongIn 0 (head_lines s ∷ map method_lines s.methods)) o → IsReported (IsMislabelled s) o
  reported_of None none = λ n m. none n (to_sections n m)
  reported_of (Some place) least = record { is = from_sections place least.is; first = λ n below m. least.first n below (to_sections n m) }

  reported : IsReported (IsMislabelled s) (first_mislabelled (lines_of s))
  reported =
      subst (λ sections. IsReported (IsMislabelled s) (mislabelled_after 0 sections)) (sym (source_sections s))
      (reported_of (mislabelled_after 0 (head_lines s ∷ map method_lines s.methods)) (reported_after 0 (head_lines s ∷ map method_lines s.methods)))

-- the first line of a source that is mislabelled
pub first_is : (s : Source) (place : ℕ) → first_mislabelled (lines_of s) ≡ Some place → IsMislabelled s place × ((n : ℕ) → n < place → IsMislabelled s n → ⊥)
first_is s place e = by (first_mislabelled (lines_of s)) (reported s) e where
  by : (o : Option ℕ) → IsReported (IsMislabelled s) o → o ≡ Some place → IsMislabelled s place × ((n : ℕ) → n < place → IsMislabelled s n → ⊥)
  by None none e = absurd cc
  by (Some p) least e = subst (λ q. IsMislabelled s q × ((n : ℕ) → n < q → IsMislabelled s n → ⊥)) (some_is p place e) (least.is, least.first)

-- no line is
pub none_is : (s : Source) → first_mislabelled (lines_of s) ≡ None → (n : ℕ) → IsMislabelled s n → ⊥
none_is s e = by (first_mislabelled (lines_of s)) (reported s) e where
  by : (o : Option ℕ) → IsReported (IsMislabelled s) o → o ≡ None → (n : ℕ) → IsMislabelled s n → ⊥
  by None none e = none
  by (Some p) least e = absurd cc

-- such a first line is reported
pub first_reported : (s : Source) (place : ℕ) → IsMislabelled s place → ((n : ℕ) → n < place → IsMislabelled s n → ⊥) → first_mislabelled (lines_of s) ≡ Some place
first_reported s place m none = by (first_mislabelled (lines_of s)) (reported s) where
  by : (o : Option ℕ) → IsReported (IsMislabelled s) o → o ≡ Some place
  by None none_at = absurd (none_at place m)
  by (Some p) least =
      elim (cases_order p place) [
        | inl e ↦ ap (λ q. Some q) e
        | inr (inl below) ↦ absurd (none p below least.is)
        | inr (inr above) ↦ absurd (least.first place above m)
      ]

-- and where none is, none is reported
pub none_reported : (s : Source) → ((n : ℕ) → IsMislabelled s n → ⊥) → first_mislabelled (lines_of s) ≡ None
none_reported s none = by (first_mislabelled (lines_of s)) (reported s) where
  by : (o : Option ℕ) → IsReported (IsMislabelled s) o → o ≡ None
  by None none_at = refl
  by (Some p) least = absurd (none p least.is)

-- ---- texts

methods_within : (methods : List MethodSource) (before place : ℕ) → IsWrongOf methods before place → place < before + length (lines_in methods)
methods_within methods before place w =
    let all = ap (λ ms. length (lines_in ms)) w.parts ∙ lines_more w.prefix (w.method ∷ w.rest) ∙ ap (λ n. length (lines_in w.prefix) + n) (method_count w.method w.rest) in
    omega (arith, all, w.place_is, wrong_within (method_lines w.method) w.number w.wrong) where
      lines_more : (prefix rest : List MethodSource) → length (lines_in (prefix ++ rest)) ≡ length (lines_in prefix) + length (lines_in rest)
      lines_more [] rest = omega arith
      lines_more (m ∷ prefix) rest = omega (arith, method_count m (prefix ++ rest), method_count m prefix, lines_more prefix rest)

within_lines : (s : Source) (place : ℕ) → IsMislabelled s place → place < length (lines_of s)
within_lines s place m = by (to_sections s place m) where
  by : IsWrongIn 0 (head_lines s ∷ map method_lines s.methods) place → place < length (lines_of s)
  by (inl (n, e, w)) = absurd (none_in_head s n w)
  by (inr w) =
      let below = methods_within s.methods (0 + length (head_lines s)) place (of_sections (0 + length (head_lines s)) place s.methods w) in
      omega (arith, below, length-append (head_lines s) (lines_in s.methods))

get_within : (xs : List ℕ) (n : ℕ) → n < length xs → (x : ℕ) × (slice_get xs n ≡ Some x)
get_within [] n below = absurd (none_below n below) where
  none_below : (n : ℕ) → n < 0 → ⊥
  none_below n below = omega (arith, below)
get_within (x ∷ xs) zero below = (x, refl)
get_within (x ∷ xs) (suc n) below = get_within xs n (omega (arith, below))

-- a line that is mislabelled has a number
number_of : (text : List ℕ) (s : Source) (place : ℕ) → IsTextOf text s → IsMislabelled s place → (line : ℕ) × (slice_get (line_numbers text) place ≡ Some line)
number_of text s place is m = get_within (line_numbers text) place (omega (arith, within_lines s place m, as_many_lines text s is))

-- what is reported of a text's labels
abbrev pub AreLabelsReported : List ℕ → Source → Option AsmError → Type 0
AreLabelsReported text s None = (n : ℕ) → IsMislabelled s n → ⊥
AreLabelsReported text s (Some e) = LabelFault text e

labels_reported : (text : List ℕ) (s : Source) → IsTextOf text s → AreLabelsReported text s (labels_fault text (lines_of s))
labels_reported text s is = by (first_mislabelled (lines_of s)) (reported s) where
  by : (o : Option ℕ) → IsReported (IsMislabelled s) o → AreLabelsReported text s (label_error (line_numbers text) o)
  by None none = none
  by (Some place) least = at (number_of text s place is least.is) where
    at : (line : ℕ) × (slice_get (line_numbers text) place ≡ Some line) → AreLabelsReported text s (label_error (line_numbers text) (Some place))
    at (line, e) =
        subst (AreLabelsReported text s) (sym (ap (option_map (λ n. asm_errors.Label n)) e))
        (record { source = s; is_text = is; place = place; wrong = least.is; first = least.first; line = line; number = e; reported = refl })

-- a fault of labels is reported
fault_reported : (text : List ℕ) (e : AsmError) (fault : LabelFault text e) → labels_fault text (lines_of fault.source) ≡ Some e
fault_reported text e fault =
    ap (label_error (line_numbers text)) (first_reported fault.source fault.place fault.wrong fault.first)
    ∙ (ap (option_map (λ n. asm_errors.Label n)) fault.number ∙ ap (λ f. Some f) (sym fault.reported))

-- ---- what is known of a text in the first two steps

ok_is : (xs ys : List Line) → ◌≡◌ {A = AreRead} (Ok xs) (Ok ys) → xs ≡ ys
ok_is xs ys e = cc

-- where a text was read, what is reported of its labels is right
pub labels_rightly : (text : List ℕ) (lines : List Line) → text_read text ≡ Ok lines → (s : Source) × (lines ≡ lines_of s) × IsTextOf text s × AreLabelsReported text s (labels_fault text lines)
labels_rightly text lines e = by (text_read text) (text_read_rightly text) e where
  by : (r : AreRead) → IsReadRightly text r → r ≡ Ok lines → (s : Source) × (lines ≡ lines_of s) × IsTextOf text s × AreLabelsReported text s (labels_fault text lines)
  by (Ok found) (s, of, is) e =
      let same : lines ≡ lines_of s = sym (ok_is found lines e) ∙ of in
      (s, same, is, subst (λ ls. AreLabelsReported text s (labels_fault text ls)) (sym same) (labels_reported text s is))
  by (Err x) fault e = absurd cc

-- a fault that they have
pub label_fault_is : (text : List ℕ) (lines : List Line) (e : AsmError) → text_read text ≡ Ok lines → labels_fault text lines ≡ Some e → LabelFault text e
label_fault_is text lines e read fault = let r = labels_rightly text lines read in subst (AreLabelsReported text r.0) fault r.3

-- or none
pub no_label_fault : (text : List ℕ) (lines : List Line) → text_read text ≡ Ok lines → labels_fault text lines ≡ None → (s : Source) × (lines ≡ lines_of s) × IsTextOf text s × ((n : ℕ) → IsMislabelled s n → ⊥)
no_label_fault text lines read fault = let r = labels_rightly text lines read in (r.0, r.1, r.2, subst (AreLabelsReported text r.0) fault r.3)

-- a source without such a line, or a fault
abbrev pub IsTextReported : List ℕ → Option AsmError → Type 0
IsTextReported text None = (s : Source) × IsTextOf text s × ((n : ℕ) → IsMislabelled s n → ⊥)
IsTextReported text (Some e) = WordFault text e ⊎ LabelFault text e

-- what is reported of a text is right
pub text_reported : (text : List ℕ) → IsTextReported text (text_fault text)
text_reported text = by (text_read text) (text_read_rightly text) where
  of_labels : (s : Source) → IsTextOf text s → (o : Option AsmError) → AreLabelsReported text s o → IsTextReported text o
  of_labels s is None none = (s, is, none)
  of_labels s is (Some e) fault = inr fault

  by : (r : AreRead) → IsReadRightly text r → IsTextReported text (read_fault text r)
  by (Ok lines) (s, e, is) = of_labels s is (labels_fault text lines) (subst (λ ls. AreLabelsReported text s (labels_fault text ls)) (sym e) (labels_reported text s is))
  by (Err e) fault = inl fault

-- each fault of the words is reported
pub word_fault_reported : (text : List ℕ) (e : AsmError) → WordFault text e → text_fault text ≡ Some e
word_fault_reported text e fault = by (text_read text) (text_read_rightly text) where
  by : (r : AreRead) → IsReadRightly text r → read_fault text r ≡ Some e
  by (Ok lines) (s, f, is) = absurd (no_fault_of_text text s e is fault)
  by (Err f) other = ap (λ g. Some g) (one_word_fault text f e other fault)

-- and each of the labels
pub label_fault_reported : (text : List ℕ) (e : AsmError) → LabelFault text e → text_fault text ≡ Some e
label_fault_reported text e fault = ap (read_fault text) (lines_are_read text fault.source fault.is_text) ∙ fault_reported text e fault

-- ---- faults of labels

-- a text has one at most
pub one_label_fault : (text : List ℕ) (e f : AsmError) → LabelFault text e → LabelFault text f → e ≡ f
one_label_fault text e f a b = some_is e f (sym (label_fault_reported text e a) ∙ label_fault_reported text f b)

-- and none where its words have a fault
pub no_label_fault_of_words : (text : List ℕ) (e f : AsmError) → WordFault text e → LabelFault text f → ⊥
no_label_fault_of_words text e f fault labels = no_fault_of_text text labels.source e labels.is_text fault

-- or no line of its source is mislabelled
pub no_label_fault_of_source : (text : List ℕ) (s : Source) (e : AsmError) → IsTextOf text s → ((n : ℕ) → IsMislabelled s n → ⊥) → LabelFault text e → ⊥
no_label_fault_of_source text s e is none fault = none fault.place (subst (λ source. IsMislabelled source fault.place) (one_source text fault.source s fault.is_text is) fault.wrong)

-- a source's text has one, or no line is mislabelled
pub label_fault_or_none : (text : List ℕ) (s : Source) → IsTextOf text s → ((e : AsmError) × LabelFault text e) ⊎ ((n : ℕ) → IsMislabelled s n → ⊥)
label_fault_or_none text s is = by (labels_fault text (lines_of s)) (labels_reported text s is) where
  by : (o : Option AsmError) → AreLabelsReported text s o → ((e : AsmError) × LabelFault text e) ⊎ ((n : ℕ) → IsMislabelled s n → ⊥)
  by None none = inr none
  by (Some e) fault = inl (e, fault)
