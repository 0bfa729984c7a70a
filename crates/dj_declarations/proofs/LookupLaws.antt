-- Look-ups by texts, made by the numbers of the texts.
use Rattle.std.proofs.Common.{◌≡◌, ℕ, ◌+◌, ◌&&◌, ◌||◌, Bool, true, false, cond, eqb, nat_eq, List, [], ◌∷◌, map, All, Option, Some, None, refl, sym, ap, ◌∙◌, add-one}
use Rattle.std.specs.Prelude.{slice_get, option_and_then}
use Rattle.std.specs.Option.{option_map}
use Rattle.std.specs.List.{AllByRecursion, list_any}
use Rattle.std.proofs.lemmas.Bool.{eq-eqb, eqb-true}
use Rattle.std.proofs.lemmas.List.Elements.{recursion_from_All}
use Rattle.std.proofs.lemmas.Option.{slice_get-map}
use Rattle.dj_names.specs.trusted.Types.{Name, same_name, same_desc}
use Rattle.dj_model.specs.trusted.Program.{is_named, method_in, field_in}
use Rattle.dj_declarations.specs.declared.members.MemberRow.{MemberRow}
use Rattle.dj_declarations.specs.trusted.Files.{desc_in}
use Rattle.dj_declarations.specs.trusted.Members.{has_method_named}
use Rattle.dj_declarations.specs.Members.{IsDescriptor, method_place, field_place, method_flags, field_flags}
use Rattle.dj_declarations.specs.Texts.{Numbers, number_in, text_in, LeadBack}
use Rattle.dj_declarations.specs.MemberRows.{row_method, row_field, IsSound, is_row, first_row, place_named}
use Rattle.dj_declarations.specs.Named.{IsNamedBy}
use Rattle.dj_declarations.proofs.TextLaws.{number_within}
use Rattle.dj_declarations.proofs.DescTests.{same_name_is, same_name_itself, same_texts, same_descriptors, descriptor_read}

abbrev later : ℕ → ℕ
later place = place + 1

same_answer : (a b : Bool) → (a ≡ true → b ≡ true) → (b ≡ true → a ≡ true) → a ≡ b
same_answer true b f g = sym (f refl)
same_answer false true f g = g refl
same_answer false false f g = refl

not_true : (b : Bool) → (b ≡ true → ⊥) → b ≡ false
not_true true wrong = absurd (wrong refl)
not_true false wrong = refl

one : (a b : ℕ) → Some a ≡ Some b → a ≡ b
one a b e = cc

-- ---- a row, by its numbers and by its texts

module _ (numbers : Numbers) (back : LeadBack numbers) where
  same_number : (n k : ℕ) (text : Name) → number_in numbers (text_in numbers n) ≡ Some n → number_in numbers text ≡ Some k → text_in numbers n ≡ text → n ≡ k
  same_number n k text own is e = one n k (sym own ∙ ap (number_in numbers) e ∙ is)

  same_text : (n k : ℕ) (text : Name) → number_in numbers text ≡ Some k → n ≡ k → text_in numbers n ≡ text
  same_text n k text is e = ap (text_in numbers) e ∙ back text k is

  name_same : (row : MemberRow) (name : Name) (n : ℕ) → IsSound numbers row → number_in numbers name ≡ Some n → same_name (text_in numbers row.name) name ≡ eqb row.name n
  name_same row name n sound is =
      same_answer (same_name (text_in numbers row.name) name) (eqb row.name n)
      (λ e. eq-eqb row.name n (same_number row.name n name sound.name is (same_name_is (text_in numbers row.name) name e)))
      (λ e. same_name_itself (text_in numbers row.name) name (same_text row.name n name is (eqb-true row.name n e)))

  desc_same : (row : MemberRow) (desc : Name) (d : ℕ) → IsSound numbers row → IsDescriptor desc → number_in numbers desc ≡ Some d → same_desc (desc_in (text_in numbers row.desc)) (desc_in desc) ≡ eqb row.desc d
  desc_same row desc d sound valid is =
      same_answer (same_desc (desc_in (text_in numbers row.desc)) (desc_in desc)) (eqb row.desc d)
      (λ e. eq-eqb row.desc d (same_number row.desc d desc sound.desc is (same_texts (text_in numbers row.desc) desc (descriptor_read (text_in numbers row.desc) sound.described) valid e)))
      (λ e. same_descriptors (text_in numbers row.desc) desc (same_text row.desc d desc is (eqb-true row.desc d e)))

  pub named_same : (row : MemberRow) (name desc : Name) (n d : ℕ) → IsSound numbers row → IsDescriptor desc → number_in numbers name ≡ Some n → number_in numbers desc ≡ Some d
      → is_row n d row ≡ is_named name (desc_in desc) (text_in numbers row.name) (desc_in (text_in numbers row.desc))
  named_same row name desc n d sound valid is_name is_desc =
      ap (λ (b : Bool). b && eqb row.desc d) (sym (name_same row name n sound is_name))
      ∙ ap (λ (b : Bool). same_name (text_in numbers row.name) name && b) (sym (desc_same row desc d sound valid is_desc))

  -- a text without a number is that of no row
  name_missing : (row : MemberRow) (name : Name) → IsSound numbers row → number_in numbers name ≡ None → same_name (text_in numbers row.name) name ≡ false
  name_missing row name sound none = not_true (same_name (text_in numbers row.name) name) (λ e.
      let bad : Some row.name ≡ None = sym sound.name ∙ ap (number_in numbers) (same_name_is (text_in numbers row.name) name e) ∙ none in absurd cc)

  desc_missing : (row : MemberRow) (desc : Name) → IsSound numbers row → IsDescriptor desc → number_in numbers desc ≡ None → same_desc (desc_in (text_in numbers row.desc)) (desc_in desc) ≡ false
  desc_missing row desc sound valid none = not_true (same_desc (desc_in (text_in numbers row.desc)) (desc_in desc)) (λ e.
      let bad : Some row.desc ≡ None = sym sound.desc ∙ ap (number_in numbers) (same_texts (text_in numbers row.desc) desc (descriptor_read (text_in numbers row.desc) sound.described) valid e) ∙ none in absurd cc)

-- ---- lists

step : {A : Type 0} (b c : Bool) (x : A) (xs : List A) (first : Option ℕ) (rest : Option A) → b ≡ c → option_map (slice_get xs) first ≡ option_map Some rest
    → option_map (slice_get (x ∷ xs)) (cond b (Some 0) (option_map later first)) ≡ option_map Some (cond c (Some x) rest)
step {A} b c x xs first rest same e = ap (λ (t : Bool). option_map (slice_get (x ∷ xs)) (cond t (Some 0) (option_map later first))) same ∙ by c first e where
  by : (t : Bool) (found : Option ℕ) → option_map (slice_get xs) found ≡ option_map Some rest → option_map (slice_get (x ∷ xs)) (cond t (Some 0) (option_map later found)) ≡ option_map Some (cond t (Some x) rest)
  by true found e = refl
  by false None e = e
  by false (Some place) e = ap Some (rw add-one refl) ∙ e

module _ (numbers : Numbers) (back : LeadBack numbers) (name desc : Name) (valid : IsDescriptor desc) where
  abbrev is_such : MemberRow → Bool
  is_such row = is_named name (desc_in desc) (text_in numbers row.name) (desc_in (text_in numbers row.desc))

  found_methods : (n d : ℕ) → number_in numbers name ≡ Some n → number_in numbers desc ≡ Some d → (rows : List MemberRow) → AllByRecursion (IsSound numbers) rows
      → option_map (slice_get (map (row_method numbers) rows)) (first_row n d rows) ≡ option_map Some (method_in (map (row_method numbers) rows) name (desc_in desc))
  found_methods n d is_name is_desc [] all = refl
  found_methods n d is_name is_desc (r ∷ rows) all =
      step (is_row n d r) (is_such r) (row_method numbers r) (map (row_method numbers) rows) (first_row n d rows) (method_in (map (row_method numbers) rows) name (desc_in desc))
      (named_same numbers back r name desc n d all.0 valid is_name is_desc) (found_methods n d is_name is_desc rows all.1)

  found_fields : (n d : ℕ) → number_in numbers name ≡ Some n → number_in numbers desc ≡ Some d → (rows : List MemberRow) → AllByRecursion (IsSound numbers) rows
      → option_map (slice_get (map (row_field numbers) rows)) (first_row n d rows) ≡ option_map Some (field_in (map (row_field numbers) rows) name (desc_in desc))
  found_fields n d is_name is_desc [] all = refl
  found_fields n d is_name is_desc (r ∷ rows) all =
      step (is_row n d r) (is_such r) (row_field numbers r) (map (row_field numbers) rows) (first_row n d rows) (field_in (map (row_field numbers) rows) name (desc_in desc))
      (named_same numbers back r name desc n d all.0 valid is_name is_desc) (found_fields n d is_name is_desc rows all.1)

  no_methods : ((row : MemberRow) → IsSound numbers row → is_such row ≡ false) → (rows : List MemberRow) → AllByRecursion (IsSound numbers) rows → method_in (map (row_method numbers) rows) name (desc_in desc) ≡ None
  no_methods none [] all = refl
  no_methods none (r ∷ rows) all = ap (λ (b : Bool). cond b (Some (row_method numbers r)) (method_in (map (row_method numbers) rows) name (desc_in desc))) (none r all.0) ∙ no_methods none rows all.1

  no_fields : ((row : MemberRow) → IsSound numbers row → is_such row ≡ false) → (rows : List MemberRow) → AllByRecursion (IsSound numbers) rows → field_in (map (row_field numbers) rows) name (desc_in desc) ≡ None
  no_fields none [] all = refl
  no_fields none (r ∷ rows) all = ap (λ (b : Bool). cond b (Some (row_field numbers r)) (field_in (map (row_field numbers) rows) name (desc_in desc))) (none r all.0) ∙ no_fields none rows all.1

  without_name : number_in numbers name ≡ None → (row : MemberRow) → IsSound numbers row → is_such row ≡ false
  without_name none row sound = ap (λ (b : Bool). b && same_desc (desc_in (text_in numbers row.desc)) (desc_in desc)) (name_missing numbers back row name sound none)

  never : (b : Bool) → (b && false) ≡ false
  never true = refl
  never false = refl

  without_desc : number_in numbers desc ≡ None → (row : MemberRow) → IsSound numbers row → is_such row ≡ false
  without_desc none row sound = ap (λ (b : Bool). same_name (text_in numbers row.name) name && b) (desc_missing numbers back row desc sound valid none) ∙ never (same_name (text_in numbers row.name) name)

  abbrev first_by : List MemberRow → Option ℕ → Option ℕ → Option ℕ
  first_by rows of_name of_desc = option_and_then (λ n. option_and_then (λ d. first_row n d rows) of_desc) of_name

  methods_by : (rows : List MemberRow) → AllByRecursion (IsSound numbers) rows → (of_name of_desc : Option ℕ) → number_in numbers name ≡ of_name → number_in numbers desc ≡ of_desc
      → option_map (slice_get (map (row_method numbers) rows)) (first_by rows of_name of_desc) ≡ option_map Some (method_in (map (row_method numbers) rows) name (desc_in desc))
  methods_by rows all None of_desc is_name is_desc = ap (option_map Some) (sym (no_methods (without_name is_name) rows all))
  methods_by rows all (Some n) None is_name is_desc = ap (option_map Some) (sym (no_methods (without_desc is_desc) rows all))
  methods_by rows all (Some n) (Some d) is_name is_desc = found_methods n d is_name is_desc rows all

  fields_by : (rows : List MemberRow) → AllByRecursion (IsSound numbers) rows → (of_name of_desc : Option ℕ) → number_in numbers name ≡ of_name → number_in numbers desc ≡ of_desc
      → option_map (slice_get (map (row_field numbers) rows)) (first_by rows of_name of_desc) ≡ option_map Some (field_in (map (row_field numbers) rows) name (desc_in desc))
  fields_by rows all None of_desc is_name is_desc = ap (option_map Some) (sym (no_fields (without_name is_name) rows all))
  fields_by rows all (Some n) None is_name is_desc = ap (option_map Some) (sym (no_fields (without_desc is_desc) rows all))
  fields_by rows all (Some n) (Some d) is_name is_desc = found_fields n d is_name is_desc rows all

  -- the first method with these texts
  pub methods_found : (rows : List MemberRow) (place : Option ℕ) → All (IsSound numbers) rows → place ≡ place_named numbers rows name desc
      → option_map (slice_get (map (row_method numbers) rows)) place ≡ option_map Some (method_in (map (row_method numbers) rows) name (desc_in desc))
  methods_found rows place sound is =
      ap (option_map (slice_get (map (row_method numbers) rows))) is
      ∙ methods_by rows (recursion_from_All (IsSound numbers) rows sound) (number_in numbers name) (number_in numbers desc) refl refl

  -- the first field with these texts
  pub fields_found : (rows : List MemberRow) (place : Option ℕ) → All (IsSound numbers) rows → place ≡ place_named numbers rows name desc
      → option_map (slice_get (map (row_field numbers) rows)) place ≡ option_map Some (field_in (map (row_field numbers) rows) name (desc_in desc))
  fields_found rows place sound is =
      ap (option_map (slice_get (map (row_field numbers) rows))) is
      ∙ fields_by rows (recursion_from_All (IsSound numbers) rows sound) (number_in numbers name) (number_in numbers desc) refl refl

-- ---- places

place_step : (b c : Bool) (first rest : Option ℕ) → b ≡ c → first ≡ rest → cond b (Some 0) (option_map later first) ≡ cond c (Some 0) (option_map later rest)
place_step b c first rest same e = ap (λ (t : Bool). cond t (Some 0) (option_map later first)) same ∙ ap (λ (r : Option ℕ). cond c (Some 0) (option_map later r)) e

module _ (numbers : Numbers) (back : LeadBack numbers) (name desc : Name) (valid : IsDescriptor desc) where
  placed_methods : (n d : ℕ) → number_in numbers name ≡ Some n → number_in numbers desc ≡ Some d → (rows : List MemberRow) → AllByRecursion (IsSound numbers) rows
      → first_row n d rows ≡ method_place (map (row_method numbers) rows) name (desc_in desc)
  placed_methods n d is_name is_desc [] all = refl
  placed_methods n d is_name is_desc (r ∷ rows) all =
      place_step (is_row n d r) (is_such numbers back name desc valid r) (first_row n d rows) (method_place (map (row_method numbers) rows) name (desc_in desc))
      (named_same numbers back r name desc n d all.0 valid is_name is_desc) (placed_methods n d is_name is_desc rows all.1)

  placed_fields : (n d : ℕ) → number_in numbers name ≡ Some n → number_in numbers desc ≡ Some d → (rows : List MemberRow) → AllByRecursion (IsSound numbers) rows
      → first_row n d rows ≡ field_place (map (row_field numbers) rows) name (desc_in desc)
  placed_fields n d is_name is_desc [] all = refl
  placed_fields n d is_name is_desc (r ∷ rows) all =
      place_step (is_row n d r) (is_such numbers back name desc valid r) (first_row n d rows) (field_place (map (row_field numbers) rows) name (desc_in desc))
      (named_same numbers back r name desc n d all.0 valid is_name is_desc) (placed_fields n d is_name is_desc rows all.1)

  no_method_place : ((row : MemberRow) → IsSound numbers row → is_such numbers back name desc valid row ≡ false) → (rows : List MemberRow) → AllByRecursion (IsSound numbers) rows
      → None ≡ method_place (map (row_method numbers) rows) name (desc_in desc)
  no_method_place none [] all = refl
  no_method_place none (r ∷ rows) all =
      place_step false (is_such numbers back name desc valid r) None (method_place (map (row_method numbers) rows) name (desc_in desc)) (sym (none r all.0)) (no_method_place none rows all.1)

  no_field_place : ((row : MemberRow) → IsSound numbers row → is_such numbers back name desc valid row ≡ false) → (rows : List MemberRow) → AllByRecursion (IsSound numbers) rows
      → None ≡ field_place (map (row_field numbers) rows) name (desc_in desc)
  no_field_place none [] all = refl
  no_field_place none (r ∷ rows) all =
      place_step false (is_such numbers back name desc valid r) None (field_place (map (row_field numbers) rows) name (desc_in desc)) (sym (none r all.0)) (no_field_place none rows all.1)

  method_place_by : (rows : List MemberRow) → AllByRecursion (IsSound numbers) rows → (of_name of_desc : Option ℕ) → number_in numbers name ≡ of_name → number_in numbers desc ≡ of_desc
      → option_and_then (λ n. option_and_then (λ d. first_row n d rows) of_desc) of_name ≡ method_place (map (row_method numbers) rows) name (desc_in desc)
  method_place_by rows all None of_desc is_name is_desc = no_method_place (without_name numbers back name desc valid is_name) rows all
  method_place_by rows all (Some n) None is_name is_desc = no_method_place (without_desc numbers back name desc valid is_desc) rows all
  method_place_by rows all (Some n) (Some d) is_name is_desc = placed_methods n d is_name is_desc rows all

  field_place_by : (rows : List MemberRow) → AllByRecursion (IsSound numbers) rows → (of_name of_desc : Option ℕ) → number_in numbers name ≡ of_name → number_in numbers desc ≡ of_desc
      → option_and_then (λ n. option_and_then (λ d. first_row n d rows) of_desc) of_name ≡ field_place (map (row_field numbers) rows) name (desc_in desc)
  field_place_by rows all None of_desc is_name is_desc = no_field_place (without_name numbers back name desc valid is_name) rows all
  field_place_by rows all (Some n) None is_name is_desc = no_field_place (without_desc numbers back name desc valid is_desc) rows all
  field_place_by rows all (Some n) (Some d) is_name is_desc = placed_fields n d is_name is_desc rows all

  -- the place of the first method with these texts
  pub method_placed : (rows : List MemberRow) (place : Option ℕ) → All (IsSound numbers) rows → place ≡ place_named numbers rows name desc
      → place ≡ method_place (map (row_method numbers) rows) name (desc_in desc)
  method_placed rows place sound is = is ∙ method_place_by rows (recursion_from_All (IsSound numbers) rows sound) (number_in numbers name) (number_in numbers desc) refl refl

  -- and of the first field
  pub field_placed : (rows : List MemberRow) (place : Option ℕ) → All (IsSound numbers) rows → place ≡ place_named numbers rows name desc
      → place ≡ field_place (map (row_field numbers) rows) name (desc_in desc)
  field_placed rows place sound is = is ∙ field_place_by rows (recursion_from_All (IsSound numbers) rows sound) (number_in numbers name) (number_in numbers desc) refl refl

-- ---- a name alone

module _ (numbers : Numbers) (back : LeadBack numbers) (name : Name) where
  any_by : (n : ℕ) → number_in numbers name ≡ Some n → (rows : List MemberRow) → AllByRecursion (IsSound numbers) rows → list_any (λ (row : MemberRow). nat_eq row.name n) rows ≡ has_method_named (map (row_method numbers) rows) name
  any_by n is [] all = refl
  any_by n is (r ∷ rows) all =
      ap (λ (b : Bool). b || list_any (λ (row : MemberRow). nat_eq row.name n) rows) (sym (name_same numbers back r name n all.0 is))
      ∙ ap (λ (b : Bool). same_name (text_in numbers r.name) name || b) (any_by n is rows all.1)

  none_by : number_in numbers name ≡ None → (rows : List MemberRow) → AllByRecursion (IsSound numbers) rows → has_method_named (map (row_method numbers) rows) name ≡ false
  none_by is [] all = refl
  none_by is (r ∷ rows) all = ap (λ (b : Bool). b || has_method_named (map (row_method numbers) rows) name) (name_missing numbers back r name all.0 is) ∙ none_by is rows all.1

  pub any_named : (rows : List MemberRow) (n : ℕ) (b : Bool) → All (IsSound numbers) rows → number_in numbers name ≡ Some n → b ≡ list_any (λ (row : MemberRow). nat_eq row.name n) rows → b ≡ has_method_named (map (row_method numbers) rows) name
  any_named rows n b sound is e = e ∙ any_by n is rows (recursion_from_All (IsSound numbers) rows sound)

  pub none_named : (rows : List MemberRow) → All (IsSound numbers) rows → number_in numbers name ≡ None → false ≡ has_method_named (map (row_method numbers) rows) name
  none_named rows sound is = sym (none_by is rows (recursion_from_All (IsSound numbers) rows sound))

-- ---- flags

flags_by : {A : Type 0} (f : MemberRow → A) (flags : A → ℕ) → ((row : MemberRow) → flags (f row) ≡ row.flags) → (found : Option MemberRow) → option_map (λ (row : MemberRow). row.flags) found ≡ option_map flags (option_map f found)
flags_by f flags same None = refl
flags_by f flags same (Some row) = ap Some (sym (same row))

pub flags_of_method : (numbers : Numbers) (rows : List MemberRow) (place flags : ℕ) → Some flags ≡ option_map (λ (row : MemberRow). row.flags) (slice_get rows place) → Some flags ≡ option_map method_flags (slice_get (map (row_method numbers) rows) place)
flags_of_method numbers rows place flags e =
    e ∙ flags_by (row_method numbers) method_flags (λ row. refl) (slice_get rows place) ∙ ap (option_map method_flags) (sym (slice_get-map (row_method numbers) rows place))

pub flags_of_field : (numbers : Numbers) (rows : List MemberRow) (place flags : ℕ) → Some flags ≡ option_map (λ (row : MemberRow). row.flags) (slice_get rows place) → Some flags ≡ option_map field_flags (slice_get (map (row_field numbers) rows) place)
flags_of_field numbers rows place flags e =
    e ∙ flags_by (row_field numbers) field_flags (λ row. refl) (slice_get rows place) ∙ ap (option_map field_flags) (sym (slice_get-map (row_field numbers) rows place))

-- ---- the numbers of a row

pub named_by : (numbers : Numbers) (row : MemberRow) → IsSound numbers row → IsNamedBy numbers (text_in numbers row.name) (desc_in (text_in numbers row.desc)) row.name row.desc
named_by numbers row sound = record {
  name_within = number_within numbers (text_in numbers row.name) row.name sound.name;
  name_is = refl;
  desc_within = number_within numbers (text_in numbers row.desc) row.desc sound.desc;
  spelled = descriptor_read (text_in numbers row.desc) sound.described;
}
