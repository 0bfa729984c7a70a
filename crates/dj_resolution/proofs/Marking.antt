-- The bit of a class is set exactly where it declares the member.
use Rattle.std.proofs.Common.{◌≡◌, ℕ, ◌+◌, ◌%◌, ◌<◌, ◌≤◌, Bool, true, false, not, List, [], ◌∷◌, ◌++◌, take, Contains, length, get_or, Option, Some, None, IfSome, nat_eq, refl, sym, ◌∙◌, ap, subst, inl, inr, arith, slice_get, bit_and, eq-eqb, if◌then◌else◌}
use Rattle.std.specs.Prelude.{MatchOption, ◌⊎◌, ◌&&◌, is_some}
use Rattle.std.specs.Borrow.{Bor}
use Rattle.std.specs.Option.{option_map}
use Rattle.std.proofs.lemmas.Bool.{cases_lt, eqb-true, false≢true}
use Rattle.std.proofs.lemmas.List.{get_or_default, take_all, take_more}
use Rattle.std.proofs.lemmas.List.Elements.{Contains-append_left, Contains-push, Contains-push_cases}
use Rattle.std.proofs.lemmas.Nat.Bits.{bit_at-zero}
use Rattle.std.proofs.lemmas.Option.{none-some, same_Some}
use Rattle.dj_names.specs.declared.descriptor.Desc.{Desc}
use Rattle.dj_names.specs.trusted.Types.{Name}
use Rattle.dj_model.specs.trusted.Program.{Program, Class, Method, is_private, is_static, method_in}
use Rattle.dj_model.specs.trusted.Linking.{is_plain, method_or}
use Rattle.dj_model.proofs.MappedNames.{either}
use Rattle.dj_declarations.specs.Members.{field_place, method_flags, method_place}
use Rattle.dj_class_table.specs.Tables.{field_there, fields_at, methods_at, methods_of}
use Rattle.dj_member_index.specs.declared.rows.MemberRow.{MemberRow}
use Rattle.dj_member_index.specs.Numberings.{ClassesDiffer, DeclareFields, DeclareMethods}
use Rattle.dj_resolution.specs.Bits.{AreBits, in_bits}
use Rattle.dj_resolution.specs.Marked.{AddsMarks, AreMarks, IsCovered, IsOfRow, is_plain_at, is_plain_one}
use Rattle.dj_resolution.specs.Numbers.{AreBelow, field_found, first_some, method_found, method_in_class}
use Rattle.dj_resolution.proofs.Finding.{private_clear, private_set, private_test, static_test, reported_none}
use Rattle.dj_resolution.proofs.Nearing.{none_found}
use Rattle.dj_resolution.proofs.Numbered.{field_reported, method_found_at, no_field_reported, no_plain_reported}

-- ---- one method

static_decides : (m : Method) → is_private m.flags ≡ false → not (is_static m.flags) ≡ is_plain m
static_decides m clear = rw clear refl

private_decides : (m : Method) → is_private m.flags ≡ true → not (is_private m.flags) ≡ is_plain m
private_decides m set = rw set refl

pub by_static : (o : Option Method) (flags : ℕ) → Some flags ≡ option_map method_flags o → bit_and flags 2 ≡ 0 → nat_eq (bit_and flags 8) 0 ≡ is_plain_one o
by_static None flags reported private = absurd (none-some flags (sym reported))
by_static (Some m) flags reported private =
    let same : flags ≡ m.flags = same_Some flags m.flags reported in
    ap (λ (f : ℕ). nat_eq (bit_and f 8) 0) same ∙ static_test m.flags ∙ static_decides m (private_clear m.flags (subst (λ (f : ℕ). bit_and f 2 ≡ 0) same private))

pub by_private : (o : Option Method) (flags : ℕ) → Some flags ≡ option_map method_flags o → (bit_and flags 2 ≡ 0 → ⊥) → nat_eq (bit_and flags 2) 0 ≡ is_plain_one o
by_private None flags reported private = absurd (none-some flags (sym reported))
by_private (Some m) flags reported private =
    let same : flags ≡ m.flags = same_Some flags m.flags reported in
    ap (λ (f : ℕ). nat_eq (bit_and f 2) 0) same ∙ private_test m.flags ∙ private_decides m (private_set m.flags (λ e. private (ap (λ (f : ℕ). bit_and f 2) same ∙ e)))

plain_in : (o : Option Class) (member : ℕ) (name : Name) (desc : Desc) → Some (slice_get (methods_of o) member) ≡ option_map Some (method_in (methods_of o) name desc) → is_plain_one (slice_get (methods_of o) member) ≡ false
    → method_in_class is_plain name desc o ≡ None
plain_in None member name desc reported none = refl
plain_in (Some c) member name desc reported none = by (slice_get c.methods member) (method_in c.methods name desc) reported none where
  by : (there found : Option Method) → Some there ≡ option_map Some found → is_plain_one there ≡ false → method_or c.name is_plain found None ≡ None
  by there None reported none = refl
  by there (Some m) reported none = let e : is_plain m ≡ false = sym (ap is_plain_one (same_Some there (Some m) reported)) ∙ none in rw e refl

plain_there : (o : Option Class) (member : ℕ) (name : Name) (desc : Desc) → Some (slice_get (methods_of o) member) ≡ option_map Some (method_in (methods_of o) name desc) → is_plain_one (slice_get (methods_of o) member) ≡ true
    → is_some (method_in_class is_plain name desc o) ≡ true
plain_there None member name desc reported plain = absurd (none-some (slice_get [] member) (sym reported))
plain_there (Some c) member name desc reported plain = by (slice_get c.methods member) (method_in c.methods name desc) reported plain where
  by : (there found : Option Method) → Some there ≡ option_map Some found → is_plain_one there ≡ true → is_some (method_or c.name is_plain found None) ≡ true
  by there None reported plain = absurd (none-some there (sym reported))
  by there (Some m) reported plain = let e : is_plain m ≡ true = sym (ap is_plain_one (same_Some there (Some m) reported)) ∙ plain in rw e refl

pub reported_some : {A : Type 0} (a x : Option A) → Some x ≡ option_map Some a → is_some a ≡ true
reported_some None x reported = absurd (none-some x (sym reported))
reported_some (Some y) x reported = refl

-- ---- what marks say

-- one way: where the bit isn't set, nothing is found
pub covers : {A : Type 0} (f : ℕ → Option A) (bound : ℕ) (marks : List ℕ) → AreMarks f bound marks → IsCovered f bound marks
covers {A} f bound marks are k lt unset = go (f k) refl where
  go : (o : Option A) → f k ≡ o → f k ≡ None
  go None is = is
  go (Some x) is = absurd (false≢true (sym unset ∙ are k lt ∙ ap is_some is))

no_mark : (k : ℕ) → in_bits [] k ≡ false
no_mark k = ap (λ (b : ℕ). nat_eq b 1) (bit_at-zero (k % 64))

pub methods_covered : (program : Program) (name : Name) (desc : Desc) (rows : List MemberRow) (marks : List ℕ) → DeclareMethods program name desc rows
    → ((row : MemberRow) → Contains rows row → is_plain_at program row.class row.place ≡ true → in_bits marks row.class ≡ true) → IsCovered (method_found program is_plain name desc) (length program) marks
methods_covered program name desc rows marks declare marked class lt unset = go (method_place (methods_at program class) name desc) refl where
  go : (o : Option ℕ) → method_place (methods_at program class) name desc ≡ o → method_found program is_plain name desc class ≡ None
  go None is = reported_none (method_found program is_plain name desc class) (no_plain_reported program class name desc (sym is))
  go (Some place) is =
      let there = declare.first class place lt is in
      plain_in (slice_get program class) place name desc (method_found_at program class name desc (Some place) (sym is)) (elim (either (is_plain_at program class place)) [
        | inl e ↦
            (let plain : is_plain_at program there.row.class there.row.place ≡ true =
            ap (λ (k : ℕ). is_plain_at program k there.row.place) there.class_is ∙ ap (is_plain_at program class) there.place_is ∙ e in
            absurd (false≢true (sym unset ∙ ap (in_bits marks) (sym there.class_is) ∙ marked there.row there.within plain)))
        | inr e ↦ e
      ])

pub fields_covered : (program : Program) (name : Name) (desc : Desc) (rows : List MemberRow) (marks : List ℕ) → DeclareFields program name desc rows
    → ((row : MemberRow) → Contains rows row → in_bits marks row.class ≡ true) → IsCovered (field_found program name desc) (length program) marks
fields_covered program name desc rows marks declare marked class lt unset =
    reported_none (field_found program name desc class) (no_field_reported program class name desc (sym (declare.all class lt (λ row there same.
    false≢true (sym unset ∙ ap (in_bits marks) (sym same) ∙ marked row there)))))

-- nothing is found where no class is marked
none_covered : {A : Type 0} (f : ℕ → Option A) (bound : ℕ) (xs : List ℕ) → IsCovered f bound [] → AreBelow bound xs → None ≡ option_map Some (first_some f xs)
none_covered f bound xs covered below = ap (option_map Some) (sym (none_found f xs (λ z there. covered z (below z there) (no_mark z))))

no_row : (rows : List MemberRow) (row : MemberRow) → nat_eq (length rows) 0 ≡ true → Contains rows row → ⊥
no_row rows row none there = let count = eqb-true (length rows) 0 none in let lt = there.1 in omega (arith, count, lt)

pub no_methods : (program : Program) (name : Name) (desc : Desc) (rows : List MemberRow) (xs : List ℕ) → DeclareMethods program name desc rows → nat_eq (length rows) 0 ≡ true → AreBelow (length program) xs
    → None ≡ option_map Some (first_some (method_found program is_plain name desc) xs)
no_methods program name desc rows xs declare none below =
    none_covered (method_found program is_plain name desc) (length program) xs (methods_covered program name desc rows [] declare (λ row there plain. absurd (no_row rows row none there))) below

pub no_fields : (program : Program) (name : Name) (desc : Desc) (rows : List MemberRow) (xs : List ℕ) → DeclareFields program name desc rows → nat_eq (length rows) 0 ≡ true → AreBelow (length program) xs
    → None ≡ option_map Some (first_some (field_found program name desc) xs)
no_fields program name desc rows xs declare none below =
    none_covered (field_found program name desc) (length program) xs (fields_covered program name desc rows [] declare (λ row there. absurd (no_row rows row none there))) below

-- where any classes are marked and this one isn't
pub none_here : {A : Type 0} (f : ℕ → Option A) (bound class : ℕ) (marks : Option (Bor (List ℕ))) → IfSome marks (λ words. IsCovered f bound words.now) → MatchOption marks ⊥ (λ words. in_bits words.now class ≡ false) → class < bound
    → None ≡ option_map Some (f class)
none_here f bound class None covered unmarked lt = absurd unmarked
none_here f bound class (Some words) covered unmarked lt = ap (option_map Some) (sym (covered class lt unmarked))

-- ---- the marks of rows

pub adds_none : (test : MemberRow → Bool) (number : MemberRow → ℕ) (marks : List ℕ) → AddsMarks test number [] marks marks
adds_none test number marks = record { kept = λ z set. set; marked = λ row there passes. absurd (let lt = there.1 in omega (arith, lt)); only = λ z set. inl set }

still_set : (b old : Bool) → old ≡ true → (if b then true else old) ≡ true
still_set true old set = refl
still_set false old set = set

set_here : (b : Bool) (n : ℕ) (old : Bool) → b ≡ true → (if b && nat_eq n n then true else old) ≡ true
set_here b n old passes = rw passes (rw (eq-eqb n n refl) refl)

module _ (test : MemberRow → Bool) (number : MemberRow → ℕ) (rows : List MemberRow) (row : MemberRow) (old mid new : List ℕ) (so_far : AddsMarks test number rows old mid)
    (bits : (z : ℕ) → in_bits new z ≡ (if test row && nat_eq (number row) z then true else in_bits mid z)) where
  earlier : (z : ℕ) → in_bits mid z ≡ true → (in_bits old z ≡ true) ⊎ IsOfRow test number (rows ++ row ∷ []) z
  earlier z set = elim (so_far.only z set) [
    | inl before ↦ inl before
    | inr found ↦ inr (record { row = found.row; within = Contains-append_left rows (row ∷ []) found.row found.within; passes = found.passes; number_is = found.number_is })
  ]

  only_by : (z : ℕ) (b e : Bool) → test row ≡ b → nat_eq (number row) z ≡ e → (if b && e then true else in_bits mid z) ≡ true → (in_bits old z ≡ true) ⊎ IsOfRow test number (rows ++ row ∷ []) z
  only_by z true true passes same set = inr (record { row = row; within = Contains-push rows row; passes = passes; number_is = eqb-true (number row) z same })
  only_by z true false passes same set = earlier z set
  only_by z false e passes same set = earlier z set

  adds_one : AddsMarks test number (rows ++ row ∷ []) old new
  adds_one = record {
    kept = λ z set. bits z ∙ still_set (test row && nat_eq (number row) z) (in_bits mid z) (so_far.kept z set);
    marked = λ other there passes. elim (Contains-push_cases rows row other there) [
      | inl before ↦ bits (number other) ∙ still_set (test row && nat_eq (number row) (number other)) (in_bits mid (number other)) (so_far.marked other before passes)
      | inr same ↦ subst (λ (r : MemberRow). in_bits new (number r) ≡ true) same (bits (number row) ∙ set_here (test row) (number row) (in_bits mid (number row)) (ap test same ∙ passes))
    ];
    only = λ z set. only_by z (test row) (nat_eq (number row) z) refl refl (sym (bits z) ∙ set);
  }

-- one row more
pub adds_next : (test : MemberRow → Bool) (number : MemberRow → ℕ) (rows : List MemberRow) (i : ℕ) (row : MemberRow) (old mid new : List ℕ) → i < length rows → get_or rows i row ≡ row → AddsMarks test number (take i rows) old mid
    → ((z : ℕ) → in_bits new z ≡ (if test row && nat_eq (number row) z then true else in_bits mid z)) → AddsMarks test number (take (i + 1) rows) old new
adds_next test number rows i row old mid new lt own so_far bits =
    subst (λ (rs : List MemberRow). AddsMarks test number rs old new) (sym (take_more rows i row lt ∙ ap (λ (r : MemberRow). take i rows ++ r ∷ []) own)) (adds_one test number (take i rows) row old mid new so_far bits)

pub adds_all : (test : MemberRow → Bool) (number : MemberRow → ℕ) (rows : List MemberRow) (i : ℕ) (old new : List ℕ) → length rows ≤ i → AddsMarks test number (take i rows) old new → AddsMarks test number rows old new
adds_all test number rows i old new past adds = subst (λ (rs : List MemberRow). AddsMarks test number rs old new) (take_all i rows past) adds

-- ---- the marks of a member

-- of one class there is one row
one_of_class : (rows : List MemberRow) → ClassesDiffer rows → (one other : MemberRow) → Contains rows one → Contains rows other → one.class ≡ other.class → one ≡ other
one_of_class rows differ one other own also same = elim (cases_lt own.0 also.0) [
  | inl before ↦ absurd (apart own.0 also.0 one other before also.1 own.2 also.2 same)
  | inr not_before ↦ elim (cases_lt also.0 own.0) [
    | inl after ↦ absurd (apart also.0 own.0 other one after own.1 also.2 own.2 (sym same))
    | inr not_after ↦
        (let at : own.0 ≡ also.0 = omega (arith, not_before, not_after) in
        sym own.2 ∙ get_or_default rows own.0 one other own.1 ∙ ap (λ (k : ℕ). get_or rows k other) at ∙ also.2)
  ]
] where
  apart : (i j : ℕ) (a b : MemberRow) → i < j → j < length rows → get_or rows i a ≡ a → get_or rows j b ≡ b → a.class ≡ b.class → ⊥
  apart i j a b lt within a_is b_is alike =
      differ i j a lt within (ap (λ (r : MemberRow). r.class) a_is ∙ alike ∙ sym (ap (λ (r : MemberRow). r.class) (get_or_default rows j a b within ∙ b_is)))

pub methods_marked : (program : Program) (name : Name) (desc : Desc) (rows : List MemberRow) (old marks : List ℕ) → DeclareMethods program name desc rows → ClassesDiffer rows → AreBits [] old
    → AddsMarks (λ row. is_plain_at program row.class row.place) (λ row. row.class) rows old marks → AreMarks (method_found program is_plain name desc) (length program) marks
methods_marked program name desc rows old marks declare differ clear adds class lt = by (in_bits marks class) refl where
  here : IsOfRow (λ row. is_plain_at program row.class row.place) (λ row. row.class) rows class → (o : Option ℕ) → method_place (methods_at program class) name desc ≡ o → is_some (method_found program is_plain name desc class) ≡ true
  here found None none = absurd (declare.each found.row found.within (ap (λ (k : ℕ). method_place (methods_at program k) name desc) found.number_is ∙ none))
  here found (Some place) is =
      let there = declare.first class place lt is in
      let same : there.row ≡ found.row = one_of_class rows differ there.row found.row there.within found.within (there.class_is ∙ sym found.number_is) in
      let plain : is_plain_at program class place ≡ true =
      ap (λ (k : ℕ). is_plain_at program k place) (sym found.number_is) ∙ ap (is_plain_at program found.row.class) (sym there.place_is ∙ ap (λ (r : MemberRow). r.place) same) ∙ found.passes in
      plain_there (slice_get program class) place name desc (method_found_at program class name desc (Some place) (sym is)) plain

  by : (b : Bool) → in_bits marks class ≡ b → in_bits marks class ≡ is_some (method_found program is_plain name desc class)
  by false unset = unset ∙ sym (ap is_some (methods_covered program name desc rows marks declare adds.marked class lt unset))
  by true set = set ∙ sym (elim (adds.only class set) [
    | inl before ↦ absurd (false≢true (sym (clear class) ∙ before))
    | inr found ↦ here found (method_place (methods_at program class) name desc) refl
  ])

pub fields_marked : (program : Program) (name : Name) (desc : Desc) (rows : List MemberRow) (old marks : List ℕ) → DeclareFields program name desc rows → AreBits [] old
    → AddsMarks (λ row. true) (λ row. row.class) rows old marks → AreMarks (field_found program name desc) (length program) marks
fields_marked program name desc rows old marks declare clear adds class lt = by (in_bits marks class) refl where
  here : IsOfRow (λ row. true) (λ row. row.class) rows class → (o : Option ℕ) → field_place (fields_at program class) name desc ≡ o → is_some (field_found program name desc class) ≡ true
  here found None none = absurd (declare.each found.row found.within (ap (λ (k : ℕ). field_place (fields_at program k) name desc) found.number_is ∙ none))
  here found (Some member) is = reported_some (field_found program name desc class) (field_there program (record { class = class; member = member })) (field_reported program class name desc member (sym is))

  by : (b : Bool) → in_bits marks class ≡ b → in_bits marks class ≡ is_some (field_found program name desc class)
  by false unset = unset ∙ sym (ap is_some (fields_covered program name desc rows marks declare (λ row there. adds.marked row there refl) class lt unset))
  by true set = set ∙ sym (elim (adds.only class set) [
    | inl before ↦ absurd (false≢true (sym (clear class) ∙ before))
    | inr found ↦ here found (field_place (fields_at program class) name desc) refl
  ])
