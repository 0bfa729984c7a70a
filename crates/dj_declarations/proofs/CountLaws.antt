-- Rows that aren't static, counted.
use Rattle.std.proofs.Common.{◌≡◌, ℕ, zero, suc, ◌+◌, ◌<◌, ◌&&◌, Bool, true, false, not, cond, List, [], ◌∷◌, ◌++◌, map, length, take, get_or, All, Option, Some, None, IfSome, nat_eq, bit_and, refl, sym, ap, ◌∙◌, subst, arith, add-one, if◌then◌else◌, inl, inr}
use Rattle.std.specs.Prelude.{slice_get}
use Rattle.std.specs.Option.{option_map}
use Rattle.std.specs.List.{AllByRecursion}
use Rattle.std.proofs.lemmas.Bool.{cases_lt, false≢true, eq-eqb, eqb-true}
use Rattle.std.proofs.lemmas.Bool.Decides.{nat_tests}
use Rattle.std.proofs.lemmas.List.{take_more, length_push}
use Rattle.std.proofs.lemmas.List.Elements.{recursion_from_All}
use Rattle.std.proofs.lemmas.Option.{same_Some, none-some, slice_get-map}
use Rattle.std.proofs.lemmas.Nat.Bits.{and_pow, bit_at-lt}
use Rattle.dj_names.specs.trusted.Types.{Name}
use Rattle.dj_names.specs.trusted.Descriptors.{Describes}
use Rattle.dj_model.specs.trusted.Program.{Field, is_static, is_named}
use Rattle.dj_model.specs.trusted.Linking.{count_fields, fields_before}
use Rattle.dj_declarations.specs.declared.members.MemberRow.{MemberRow}
use Rattle.dj_declarations.specs.trusted.Files.{desc_in}
use Rattle.dj_declarations.specs.Members.{IsDescriptor}
use Rattle.dj_declarations.specs.Texts.{Numbers, number_in, text_in, LeadBack}
use Rattle.dj_declarations.specs.MemberRows.{row_field, IsSound, is_row, first_row, instance_rows, AreCounts}
use Rattle.dj_declarations.proofs.DescTests.{descriptor_read}
use Rattle.dj_declarations.proofs.LookupLaws.{named_same}

static_test : (flags : ℕ) → nat_eq (bit_and flags 8) 0 ≡ not (is_static flags)
static_test flags = let bit = and_pow flags 3 in let lt = bit_at-lt flags 3 in grind (arith, nat_tests)

-- one for a row that isn't static
abbrev pub instance_row : MemberRow → ℕ
instance_row row = if not (is_static row.flags) then 1 else 0

pub one_counted : (row : MemberRow) → bit_and row.flags 8 ≡ 0 → instance_row row ≡ 1
one_counted row none = ap (λ (b : Bool). cond {A = ℕ} b 1 0) (sym (static_test row.flags) ∙ eq-eqb (bit_and row.flags 8) 0 none)

pub none_counted : (row : MemberRow) → (bit_and row.flags 8 ≡ 0 → ⊥) → instance_row row ≡ 0
none_counted row some = by (not (is_static row.flags)) (static_test row.flags) where
  by : (b : Bool) → nat_eq (bit_and row.flags 8) 0 ≡ b → cond {A = ℕ} b 1 0 ≡ 0
  by true is = absurd (some (eqb-true (bit_and row.flags 8) 0 is))
  by false is = refl

step_up : (b : Bool) (n : ℕ) → cond b (1 + n) n ≡ cond {A = ℕ} b 1 0 + n
step_up true n = refl
step_up false n = omega arith

one_row : (row : MemberRow) (rows : List MemberRow) → instance_rows (row ∷ rows) ≡ instance_row row + instance_rows rows
one_row row rows = step_up (not (is_static row.flags)) (instance_rows rows)

instance_rows-push : (rows : List MemberRow) (row : MemberRow) → instance_rows (rows ++ row ∷ []) ≡ instance_rows rows + instance_row row
instance_rows-push [] row = let e = one_row row [] in omega (arith, e)
instance_rows-push (r ∷ rows) row =
    let e = one_row r rows in
    let f = one_row r (rows ++ row ∷ []) in
    let g = instance_rows-push rows row in
    omega (arith, e, f, g)

-- this many rows were counted
pub record IsCounted (rows : List MemberRow) (i : ℕ) (counts : List ℕ) (count : ℕ) : Type 0 where
  pub long : length counts ≡ i
  pub total : count ≡ instance_rows (take i rows)
  pub each : (place : ℕ) → place < i → get_or counts place 0 ≡ instance_rows (take place rows)

get_push : (xs : List ℕ) (x : ℕ) (place : ℕ) → place < length xs → get_or (xs ++ x ∷ []) place 0 ≡ get_or xs place 0
get_push [] x place lt = absurd (omega (arith, lt))
get_push (y ∷ xs) x zero lt = refl
get_push (y ∷ xs) x (suc place) lt = get_push xs x place (omega (arith, lt))

get_end : (xs : List ℕ) (x : ℕ) (place : ℕ) → length xs ≡ place → get_or (xs ++ x ∷ []) place 0 ≡ x
get_end [] x zero e = refl
get_end [] x (suc place) e = absurd (omega (arith, e))
get_end (y ∷ xs) x zero e = absurd (omega (arith, e))
get_end (y ∷ xs) x (suc place) e = get_end xs x place (omega (arith, e))

each_more : (rows : List MemberRow) (i : ℕ) (counts more : List ℕ) (count : ℕ) → IsCounted rows i counts count → more ≡ counts ++ count ∷ []
    → (place : ℕ) → place < i + 1 → get_or more place 0 ≡ instance_rows (take place rows)
each_more rows i counts more count counted is place lt = ap (λ (xs : List ℕ). get_or xs place 0) is ∙ elim (cases_lt place i) [
  | inl before ↦ get_push counts count place (let e = counted.long in omega (arith, before, e)) ∙ counted.each place before
  | inr after ↦
      (let same : i ≡ place = omega (arith, after, lt) in
      get_end counts count place (counted.long ∙ same) ∙ counted.total ∙ ap (λ (n : ℕ). instance_rows (take n rows)) same)
]

pub counted_more : (rows : List MemberRow) (i : ℕ) (d : MemberRow) (counts more : List ℕ) (count next : ℕ) → i < length rows → IsCounted rows i counts count → more ≡ counts ++ count ∷ [] → next ≡ count + instance_row (get_or rows i d)
    → IsCounted rows (i + 1) more next
counted_more rows i d counts more count next lt counted is counts_one = record {
  long = ap length is ∙ length_push counts count ∙ ap (λ (n : ℕ). n + 1) counted.long;
  total = counts_one ∙ ap (λ (n : ℕ). n + instance_row (get_or rows i d)) counted.total ∙ sym (ap instance_rows (take_more rows i d lt) ∙ instance_rows-push (take i rows) (get_or rows i d));
  each = each_more rows i counts more count counted is;
}

pub counted_all : (rows : List MemberRow) (i : ℕ) (counts more : List ℕ) (count : ℕ) → i ≡ length rows → IsCounted rows i counts count → more ≡ counts ++ count ∷ [] → AreCounts rows more
counted_all rows i counts more count end counted is = record {
  long = ap length is ∙ length_push counts count ∙ ap (λ (n : ℕ). n + 1) (counted.long ∙ end);
  each = λ place le. each_more rows i counts more count counted is place (omega (arith, le, end));
}

-- ---- a member at a place

pub sound_at : (numbers : Numbers) (rows : List MemberRow) (place : ℕ) (row : MemberRow) → All (IsSound numbers) rows → Some row ≡ slice_get rows place → IsSound numbers row
sound_at numbers rows place row sound at = by rows place (recursion_from_All (IsSound numbers) rows sound) at where
  by : (rows : List MemberRow) (place : ℕ) → AllByRecursion (IsSound numbers) rows → Some row ≡ slice_get rows place → IsSound numbers row
  by [] place all at = absurd (none-some row (sym at))
  by (r ∷ rows) zero all at = subst (IsSound numbers) (sym (same_Some row r at)) all.0
  by (r ∷ rows) (suc place) all at = by rows place all.1 at

-- what is read of the row is read of what it stands for
pub reported_at : {A B : Type 0} (f : MemberRow → A) (g : A → B) (rows : List MemberRow) (place : ℕ) (row : MemberRow) (x : B) → Some row ≡ slice_get rows place → x ≡ g (f row) → Some x ≡ option_map g (slice_get (map f rows) place)
reported_at {A} f g rows place row x at is =
    ap Some is ∙ ap (λ (o : Option MemberRow). option_map g (option_map f o)) at ∙ ap (option_map g) (sym (slice_get-map f rows place))

pub holds_at : {A : Type 0} (f : MemberRow → A) (P : A → Type 0) (rows : List MemberRow) (place : ℕ) (row : MemberRow) → Some row ≡ slice_get rows place → P (f row) → IfSome (slice_get (map f rows) place) P
holds_at {A} f P rows place row at holds =
    subst (λ (o : Option A). IfSome o P) (ap (option_map f) at ∙ sym (slice_get-map f rows place)) holds

pub described : (numbers : Numbers) (row : MemberRow) (text : Name) → IsSound numbers row → text ≡ text_in numbers row.desc → Describes text (desc_in (text_in numbers row.desc))
described numbers row text sound is =
    subst (λ (t : Name). Describes t (desc_in (text_in numbers row.desc))) (sym is) (descriptor_read (text_in numbers row.desc) sound.described)

-- ---- instance fields

instance_fields_are : (numbers : Numbers) (rows : List MemberRow) → instance_rows rows ≡ count_fields false (map (row_field numbers) rows)
instance_fields_are numbers [] = refl
instance_fields_are numbers (r ∷ rows) = ap (λ (n : ℕ). if not (is_static r.flags) then 1 + n else n) (instance_fields_are numbers rows)

taken : (rows : List MemberRow) → take (length rows) rows ≡ rows
taken [] = refl
taken (r ∷ rows) = ap (λ (rs : List MemberRow). r ∷ rs) (taken rows)

pub all_counted : (numbers : Numbers) (rows : List MemberRow) (counts : List ℕ) → AreCounts rows counts → get_or counts (length rows) 0 ≡ count_fields false (map (row_field numbers) rows)
all_counted numbers rows counts counted = counted.each (length rows) (omega arith) ∙ ap instance_rows (taken rows) ∙ instance_fields_are numbers rows

pub first_within : (name desc : ℕ) (rows : List MemberRow) (first : ℕ) → first_row name desc rows ≡ Some first → first < length rows
first_within name desc [] first is = absurd (none-some first is)
first_within name desc (r ∷ rows) first is = by (is_row name desc r) (first_row name desc rows) (first_within name desc rows) is where
  by : (b : Bool) (found : Option ℕ) → ((k : ℕ) → found ≡ Some k → k < length rows) → cond b (Some 0) (option_map (λ place. place + 1) found) ≡ Some first → first < length (r ∷ rows)
  by true found later is = let e = same_Some 0 first is in omega (arith, e)
  by false None later is = absurd (none-some first is)
  by false (Some k) later is = let e = same_Some (k + 1) first is in let lt = later k refl in omega (arith, e, lt)

itself : (row : MemberRow) → is_row row.name row.desc row ≡ true
itself row = both (eq-eqb row.name row.name refl) (eq-eqb row.desc row.desc refl) where
  both : {a b : Bool} → a ≡ true → b ≡ true → (a && b) ≡ true
  both {a} {b} e f = ap (λ (t : Bool). t && b) e ∙ f

pub first_there : (rows : List MemberRow) (place : ℕ) (row : MemberRow) → Some row ≡ slice_get rows place → None ≡ first_row row.name row.desc rows → ⊥
first_there [] place row at none = none-some row (sym at)
first_there (r ∷ rows) zero row at none =
    none-some 0 (none ∙ ap (λ (b : Bool). cond b (Some 0) (option_map (λ place. place + 1) (first_row row.name row.desc rows)))
    (ap (is_row row.name row.desc) (sym (same_Some row r at)) ∙ itself row))
first_there (r ∷ rows) (suc place) row at none = by (is_row row.name row.desc r) (first_row row.name row.desc rows) (first_there rows place row at) none where
  by : (b : Bool) (found : Option ℕ) → (None ≡ found → ⊥) → None ≡ cond b (Some 0) (option_map (λ place. place + 1) found) → ⊥
  by true found later none = none-some 0 none
  by false None later none = later refl
  by false (Some k) later none = none-some (k + 1) none

module _ (numbers : Numbers) (back : LeadBack numbers) (name desc : Name) (n d : ℕ) (valid : IsDescriptor desc) (is_name : number_in numbers name ≡ Some n) (is_desc : number_in numbers desc ≡ Some d) where
  before_by : (rows : List MemberRow) (r : MemberRow) (b c : Bool) (found : Option ℕ) (first : ℕ) → b ≡ c
      → ((k : ℕ) → found ≡ Some k → instance_rows (take k rows) ≡ fields_before false name (desc_in desc) (map (row_field numbers) rows))
      → cond b (Some 0) (option_map (λ place. place + 1) found) ≡ Some first
      → instance_rows (take first (r ∷ rows)) ≡ cond c 0 (count_fields false (row_field numbers r ∷ []) + fields_before false name (desc_in desc) (map (row_field numbers) rows))
  before_by rows r true true found first same later is = ap (λ (k : ℕ). instance_rows (take k (r ∷ rows))) (sym (same_Some 0 first is))
  before_by rows r true false found first same later is = absurd (false≢true (sym same))
  before_by rows r false true found first same later is = absurd (false≢true same)
  before_by rows r false false None first same later is = absurd (none-some first is)
  before_by rows r false false (Some k) first same later is =
      ap (λ (j : ℕ). instance_rows (take j (r ∷ rows))) (sym (same_Some (k + 1) first is) ∙ add-one k)
      ∙ one_row r (take k rows) ∙ ap (λ (j : ℕ). instance_row r + j) (later k refl)

  before_first : (rows : List MemberRow) (first : ℕ) → AllByRecursion (IsSound numbers) rows → first_row n d rows ≡ Some first
      → instance_rows (take first rows) ≡ fields_before false name (desc_in desc) (map (row_field numbers) rows)
  before_first [] first all is = absurd (none-some first is)
  before_first (r ∷ rows) first all is =
      before_by rows r (is_row n d r) (is_named name (desc_in desc) (text_in numbers r.name) (desc_in (text_in numbers r.desc))) (first_row n d rows) first
      (named_same numbers back r name desc n d all.0 valid is_name is_desc) (λ k e. before_first rows k all.1 e) is

pub fields_before_first : (numbers : Numbers) (back : LeadBack numbers) (rows : List MemberRow) (counts : List ℕ) (place first : ℕ) (row : MemberRow) → All (IsSound numbers) rows → AreCounts rows counts → Some row ≡ slice_get rows place
    → first_row row.name row.desc rows ≡ Some first
    → IfSome (slice_get (map (row_field numbers) rows) place) (λ f. get_or counts first 0 ≡ fields_before false f.name f.desc (map (row_field numbers) rows))
fields_before_first numbers back rows counts place first row sound counted at is =
    let own : IsSound numbers row = sound_at numbers rows place row sound at in
    let lt : first < length rows = first_within row.name row.desc rows first is in
    let before : instance_rows (take first rows) ≡ fields_before false (text_in numbers row.name) (desc_in (text_in numbers row.desc)) (map (row_field numbers) rows) =
    before_first numbers back (text_in numbers row.name) (text_in numbers row.desc) row.name row.desc (descriptor_read (text_in numbers row.desc) own.described) own.name own.desc
    rows first (recursion_from_All (IsSound numbers) rows sound) is in
    holds_at (row_field numbers) (λ (f : Field). get_or counts first 0 ≡ fields_before false f.name f.desc (map (row_field numbers) rows)) rows place row at
    (counted.each first (omega (arith, lt)) ∙ before)
