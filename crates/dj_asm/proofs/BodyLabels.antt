-- The numbers of labels, and what the uses of a well-labelled body say of them.
use Rattle.std.proofs.Common.{◌≡◌, ◌≢◌, ℕ, suc, ◌+◌, ◌<◌, ◌≤◌, inl, inr, ℤ, true, false, not, cond, List, [], ◌∷◌, ◌++◌, length, take, refl, sym, ap, ◌∙◌, arith, append-nil}
use Rattle.std.specs.List.{flat_map, AllByRecursion, prefix_len}
use Rattle.std.specs.Cmp.Lexicographic.{bytes_decides}
use Rattle.std.proofs.lemmas.Bool.{cases_Bool, false≢true, false_from_ne_true}
use Rattle.std.proofs.lemmas.List.Sums.{sum_by-cons, sum_by-append}
use Rattle.std.proofs.lemmas.List.Concat.{flat_map-append}
use Rattle.dj_names.specs.trusted.Types.{same_name}
use Rattle.dj_asm_source.specs.trusted.Lines.{Label, Labelled as Marked, Line, Method, Stack, Locals, Beside, End}
use Rattle.dj_asm_source.specs.trusted.Sources.{Source, BodyPart, Coded, body_lines, method_lines}
use Rattle.dj_asm_source.specs.trusted.Labels.{is_instruction, instruction_count, IsLabelAt, Use, AtInstruction, Range, uses_of, IsMet, AreMethodLines, IsMislabelled, marks, label_number}
use Rattle.dj_asm_pool.specs.trusted.Entries.{Entry}
use Rattle.dj_asm.specs.trusted.Files.{places_of}
use Rattle.dj_asm_pool.specs.trusted.Room.{NoLine}
use Rattle.dj_asm.proofs.Deciding.{Is, stable, both, below, at_most, each}

-- ---- counts

abbrev one_if : Line → ℕ
one_if line = cond (is_instruction line) 1 0

pub count_cons : (line : Line) (more : List Line) → instruction_count (line ∷ more) ≡ one_if line + instruction_count more
count_cons line more = sum_by-cons (λ l. cond (is_instruction l) 1 0) line more

pub count_append : (xs ys : List Line) → instruction_count (xs ++ ys) ≡ instruction_count xs + instruction_count ys
count_append xs ys = sum_by-append (λ l. cond (is_instruction l) 1 0) xs ys

-- ---- the number of a label

abbrev count_to : Label → List Line → ℕ
count_to label [] = 0
count_to label (line ∷ more) = cond (not (marks label line)) (one_if line + count_to label more) 0

number_is : (body : List Line) (label : Label) → label_number body label ≡ count_to label body
unfolding label_number
number_is [] label = refl
number_is (line ∷ more) label =
    let n = prefix_len (λ l. not (marks label l)) more in
    elim (cases_Bool (marks label line)) [
      | inl here ↦
          ap (λ b. instruction_count (take (cond (not b) (1 + n) 0) (line ∷ more))) here ∙ sym (ap (λ b. cond (not b) (one_if line + count_to label more) 0) here)
      | inr other ↦
          let one : 1 + n ≡ suc n = omega arith in
          ap (λ b. instruction_count (take (cond (not b) (1 + n) 0) (line ∷ more))) other
          ∙ (ap (λ (k : ℕ). instruction_count (take k (line ∷ more))) one
          ∙ (count_cons line (take n more)
          ∙ (ap (λ (k : ℕ). one_if line + k) (number_is more label) ∙ sym (ap (λ b. cond (not b) (one_if line + count_to label more) 0) other))))
    ]

marks_is : (label : Label) (line : Line) → marks label line ≡ true → line ≡ Beside (Marked label)
marks_is label (Beside (Marked other)) e = ap (λ (l : Label). Beside (Marked l)) ((bytes_decides other label).0 e)
marks_is label line e = absurd (false≢true e)

marked : (label : Label) → same_name label label ≡ true
marked label = (bytes_decides label label).1 refl

count_prefix : (label : Label) (prefix rest : List Line) → AllByRecursion (λ line. line ≢ Beside (Marked label)) prefix → count_to label (prefix ++ Beside (Marked label) ∷ rest) ≡ instruction_count prefix
count_prefix label [] rest first = ap (λ b. cond (not b) (0 + count_to label rest) 0) (marked label)
count_prefix label (line ∷ prefix) rest first =
    let other : marks label line ≡ false = false_from_ne_true (marks label line) (λ e. first.0 (marks_is label line e)) in
    ap (λ b. cond (not b) (one_if line + count_to label (prefix ++ Beside (Marked label) ∷ rest)) 0) other
    ∙ (ap (λ (k : ℕ). one_if line + k) (count_prefix label prefix rest first.1) ∙ sym (count_cons line prefix))

-- the number of a label that stands in the body
pub number_of : (body : List Line) (label : Label) (number : ℕ) → IsLabelAt body label number → label_number body label ≡ number
number_of body label number at =
    number_is body label ∙ (ap (count_to label) at.parts ∙ (count_prefix label at.prefix at.rest at.first ∙ sym at.number_is))

-- ---- the lines of a method, and those of its body

count_end : (label : Label) (body : List Line) → count_to label (body ++ End ∷ []) ≡ count_to label body
count_end label [] = refl
count_end label (line ∷ body) = ap (λ (k : ℕ). cond (not (marks label line)) (one_if line + k) 0) (count_end label body)

abbrev pub coded_lines : ℕ → List ℕ → List ℕ → ℤ → ℤ → List BodyPart → List Line
coded_lines flags name desc stack locals parts = method_lines (Coded flags name desc stack locals parts)

pub method_number : (flags : ℕ) (name desc : List ℕ) (stack locals : ℤ) (parts : List BodyPart) (label : Label)
    → label_number (coded_lines flags name desc stack locals parts) label ≡ label_number (body_lines parts) label
method_number flags name desc stack locals parts label =
    let shift : 0 + (0 + (0 + count_to label (body_lines parts ++ End ∷ []))) ≡ count_to label (body_lines parts ++ End ∷ []) = omega arith in
    number_is (coded_lines flags name desc stack locals parts) label ∙ (shift ∙ (count_end label (body_lines parts) ∙ sym (number_is (body_lines parts) label)))

-- labels have the same numbers
pub same_places : (index : Entry → ℕ) (flags : ℕ) (name desc : List ℕ) (stack locals : ℤ) (parts : List BodyPart)
    → places_of index (coded_lines flags name desc stack locals parts) ≡ places_of index (body_lines parts)
same_places index flags name desc stack locals parts = λ i. record { number = λ label. method_number flags name desc stack locals parts label i; index = index }

-- what a list of lines without method's lines has, its method has
pub same_in : {X : Type 0} (of : Line → List X) (flags : ℕ) (name desc : List ℕ) (stack locals : ℤ) (parts : List BodyPart)
    → of (Method flags name desc) ≡ [] → of (Stack stack) ≡ [] → of (Locals locals) ≡ [] → of End ≡ []
    → flat_map of (coded_lines flags name desc stack locals parts) ≡ flat_map of (body_lines parts)
same_in of flags name desc stack locals parts m s l e =
    ap (λ xs. xs ++ (of (Stack stack) ++ (of (Locals locals) ++ flat_map of (body_lines parts ++ End ∷ [])))) m
    ∙ (ap (λ xs. xs ++ (of (Locals locals) ++ flat_map of (body_lines parts ++ End ∷ []))) s
    ∙ (ap (λ xs. xs ++ flat_map of (body_lines parts ++ End ∷ [])) l
    ∙ (flat_map-append of (body_lines parts) (End ∷ []) ∙ (ap (λ xs. flat_map of (body_lines parts) ++ (xs ++ [])) e ∙ append-nil (flat_map of (body_lines parts))))))

-- ---- what is met

-- as IsMet, by the numbers of labels
abbrev pub IsNumbered : List Line → Use → Type 0
IsNumbered body (AtInstruction label) = label_number body label < instruction_count body
IsNumbered body (Range from to) = (label_number body from < label_number body to) × (label_number body to ≤ instruction_count body)

numbered_or_not : (body : List Line) (use' : Use) → Is (IsNumbered body use')
numbered_or_not body (AtInstruction label) = below (label_number body label) (instruction_count body)
numbered_or_not body (Range from to) = both (below (label_number body from) (label_number body to)) (at_most (label_number body to) (instruction_count body))

label_within : (body : List Line) (label : Label) (number : ℕ) → IsLabelAt body label number → number ≤ instruction_count body
label_within body label number at =
    let e = at.number_is in
    let c = ap instruction_count at.parts ∙ count_append at.prefix (Beside (Marked label) ∷ at.rest) in
    omega (arith, e, c)

met_is_numbered : (body : List Line) (use' : Use) → IsMet body use' → IsNumbered body use'
met_is_numbered body (AtInstruction label) met =
    let e = number_of body label met.number met.defined in
    let lt = met.instruction in
    omega (arith, e, lt)
met_is_numbered body (Range from to) met =
    let f = number_of body from met.first met.from_is in
    let t = number_of body to met.end met.to_is in
    let lt = met.some in
    let le = label_within body to met.end met.to_is in
    (omega (arith, f, t, lt), omega (arith, t, le))

all_numbered : (body : List Line) (uses : List Use) → AllByRecursion (IsMet body) uses → AllByRecursion (IsNumbered body) uses
all_numbered body [] met = tt
all_numbered body (u ∷ uses) met = (met_is_numbered body u met.0, all_numbered body uses met.1)

-- in a source whose labels are right each line of a method names labels as it may
pub uses_numbered : (s : Source) (before : ℕ) (body prefix : List Line) (line : Line) (rest : List Line) → NoLine (IsMislabelled s) → AreMethodLines s before body → body ≡ prefix ++ line ∷ rest
    → AllByRecursion (IsNumbered body) (uses_of line)
uses_numbered s before body prefix line rest none at parts =
    stable (each (IsNumbered body) (numbered_or_not body) (uses_of line))
    (λ lacks. none (before + length prefix) (record {
      before = before;
      body = body;
      in_method = at;
      prefix = prefix;
      line = line;
      rest = rest;
      parts = parts;
      place_is = refl;
      wrong = inr (λ met. lacks (all_numbered body (uses_of line) met));
    }))
