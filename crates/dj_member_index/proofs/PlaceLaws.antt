-- The place of a member by its texts, by that of its row.
use Rattle.std.proofs.Common.{◌≡◌, ℕ, zero, suc, ◌+◌, ◌<◌, ◌≤◌, ◌^◌, ◌&&◌, ◌⊎◌, Bool, true, false, cond, List, [], ◌∷◌, length, Contains, Option, Some, None, IfSome, refl, sym, ap, ◌∙◌, subst, arith, add-one, inl, inr}
use Rattle.std.specs.Prelude.{slice_get, map}
use Rattle.std.specs.Option.{option_map}
use Rattle.std.proofs.lemmas.Bool.{cases_lt}
use Rattle.std.proofs.lemmas.List.{length-map}
use Rattle.std.proofs.lemmas.Option.{slice_get_past}
use Rattle.dj_names.specs.trusted.Types.{Name, same_name, same_desc}
use Rattle.dj_names.specs.declared.descriptor.Desc.{Desc}
use Rattle.dj_names.specs.trusted.Descriptors.{Describes}
use Rattle.dj_names.proofs.DescLaws.{described_once}
use Rattle.dj_model.specs.trusted.Program.{Program, Method, Field, fields_of, is_named}
use Rattle.dj_declarations.specs.trusted.Files.{desc_in}
use Rattle.dj_declarations.specs.Members.{IsDescriptor, method_place, field_place}
use Rattle.dj_declarations.proofs.DescTests.{desc_in_is, is_descriptor, same_name_is, same_name_itself, same_desc_is, same_desc_itself}
use Rattle.dj_class_table.specs.Tables.{methods_of, methods_at, fields_at}
use Rattle.dj_member_index.specs.Numberings.{DeclareFields, DeclareMethods, Numbering, number_among, number_of}
use Rattle.dj_member_index.specs.declared.rows.MemberRow.{MemberRow}
use Rattle.dj_member_index.specs.DirectoryRows.{Named, method_named, field_named, methods_named, fields_named, Members, place_of, Texts, texts_of, number_in, AreDifferent, IsSuch, IsLeastOrNone, IsRow, IsThere, AreRows, AreRowsWith, IsDirectory}
use Rattle.dj_member_index.proofs.GatherLaws.{kept_row}
use Rattle.dj_member_index.proofs.NumberLaws.{number_is}
use Rattle.dj_member_index.proofs.FirstLaws.{reported_by_first, least_first, such_first}

abbrev later : ℕ → ℕ
later place = place + 1

both_parts : (a b : Bool) → (a && b) ≡ true → (a ≡ true) × (b ≡ true)
both_parts true b e = (refl, e)
both_parts false b e = absurd cc

both_true : (a b : Bool) → a ≡ true → b ≡ true → (a && b) ≡ true
both_true true b e f = f
both_true false b e f = absurd cc

not_true : (b : Bool) → (b ≡ true → ⊥) → b ≡ false
not_true true wrong = absurd (wrong refl)
not_true false wrong = refl

one : (a b : ℕ) → Some a ≡ Some b → a ≡ b
one a b e = cc

one_member : (a b : Named) → Some a ≡ Some b → a ≡ b
one_member a b e = cc

none_some : (n : ℕ) → None ≡ Some n → ⊥
none_some n e = absurd cc

pub inside : (members : List Named) (place : ℕ) (m : Named) → slice_get members place ≡ Some m → place < length members
inside [] place m at = absurd cc
inside (x ∷ members) zero m at = omega arith
inside (x ∷ members) (suc place) m at = let lt = inside members place m at in omega (arith, lt)

-- ---- the first member, by what the others are

first_is : (name : Name) (desc : Desc) (members : List Named) (place : ℕ) (m : Named) → slice_get members place ≡ Some m → is_named name desc m.0 m.1 ≡ true
    → ((other : ℕ) (x : Named) → other < place → slice_get members other ≡ Some x → is_named name desc x.0 x.1 ≡ false) → place_of members name desc ≡ Some place
first_is name desc [] place m at is none = absurd cc
first_is name desc (x ∷ members) zero m at is none =
    ap (λ (b : Bool). cond b (Some 0) (option_map later (place_of members name desc))) (ap (λ (y : Named). is_named name desc y.0 y.1) (one_member x m at) ∙ is)
first_is name desc (x ∷ members) (suc place) m at is none =
    ap (λ (b : Bool). cond b (Some 0) (option_map later (place_of members name desc))) (none 0 x (omega arith) refl)
    ∙ ap (option_map later) (first_is name desc members place m at is (λ other y lt there. none (suc other) y (omega (arith, lt)) there))
    ∙ ap Some (add-one place)

none_is : (name : Name) (desc : Desc) (members : List Named) → ((other : ℕ) (x : Named) → slice_get members other ≡ Some x → is_named name desc x.0 x.1 ≡ false) → place_of members name desc ≡ None
none_is name desc [] none = refl
none_is name desc (x ∷ members) none =
    ap (λ (b : Bool). cond b (Some 0) (option_map later (place_of members name desc))) (none 0 x refl)
    ∙ ap (option_map later) (none_is name desc members (λ other y there. none (suc other) y there))

pub method_place_is : (methods : List Method) (name : Name) (desc : Desc) → place_of (map method_named methods) name desc ≡ method_place methods name desc
method_place_is [] name desc = refl
method_place_is (m ∷ methods) name desc = ap (λ (o : Option ℕ). cond (is_named name desc m.name m.desc) (Some 0) (option_map later o)) (method_place_is methods name desc)

pub field_place_is : (fields : List Field) (name : Name) (desc : Desc) → place_of (map field_named fields) name desc ≡ field_place fields name desc
field_place_is [] name desc = refl
field_place_is (f ∷ fields) name desc = ap (λ (o : Option ℕ). cond (is_named name desc f.name f.desc) (Some 0) (option_map later o)) (field_place_is fields name desc)

-- ---- a member of these texts, and its row

-- texts that describe one descriptor are one
one_text : (a b : List ℕ) (desc : Desc) → Describes a desc → Describes b desc → a ≡ b
one_text a b desc da db = da.text_is ∙ sym db.text_is

-- a row of the member at a place, whose numbers are those of the texts
record IsRowOf (texts : Texts) (rows : List MemberRow) (n d : List ℕ) (class place : ℕ) : Type 0 where
  row : MemberRow
  within : Contains rows row
  class_is : row.class ≡ class
  place_is : row.place ≡ place
  name_is : number_in texts n ≡ Some row.name
  desc_is : number_in texts d ≡ Some row.desc

pub row_in : (texts : Texts) (members : Members) (classes : ℕ) (rows : List MemberRow) → AreRows (number_in texts) members classes rows → (row : MemberRow) → Contains rows row → IsRow (number_in texts) members row
row_in texts members classes rows are row there = subst (λ (r : MemberRow). IsRow (number_in texts) members r) there.2 (are.each there.0 row there.1)

module _ (texts : Texts) (members : Members) (classes : ℕ) (rows : List MemberRow) (are : AreRows (number_in texts) members classes rows) (n d : List ℕ) (valid : IsDescriptor d) where
  row_of : (class place : ℕ) (m : Named) → class < classes → slice_get (members class) place ≡ Some m → is_named n (desc_in d) m.0 m.1 ≡ true → IsRowOf texts rows n d class place
  row_of class place m less at named =
      let there = are.whole class place less (inside (members class) place m at) in
      let is = row_in texts members classes rows are there.row there.within in
      let parts = both_parts (same_name m.0 n) (same_desc m.1 (desc_in d)) named in
      let member : m ≡ (is.name, is.desc) =
      one_member m (is.name, is.desc) (sym at ∙ sym (ap (λ (k : ℕ). slice_get (members k) there.row.place) there.class_is ∙ ap (slice_get (members class)) there.place_is) ∙ is.there) in
      let name : is.name ≡ n = sym (ap (λ (x : Named). x.0) member) ∙ same_name_is m.0 n parts.0 in
      let desc : is.desc ≡ desc_in d = sym (ap (λ (x : Named). x.1) member) ∙ same_desc_is m.1 (desc_in d) parts.1 in
      let text : is.text ≡ d = one_text is.text d (desc_in d) (subst (λ (x : Desc). Describes is.text x) desc is.spelled) valid in
      record {
        row = there.row;
        within = there.within;
        class_is = there.class_is;
        place_is = there.place_is;
        name_is = ap (number_in texts) (sym name) ∙ is.name_is;
        desc_is = ap (number_in texts) (sym text) ∙ is.desc_is;
      }

  -- texts without numbers are those of no member
  pub unnumbered : (class : ℕ) → class < classes → (number_in texts n ≡ None) ⊎ (number_in texts d ≡ None) → place_of (members class) n (desc_in d) ≡ None
  unnumbered class less none = none_is n (desc_in d) (members class) (λ place m at. not_true (is_named n (desc_in d) m.0 m.1) (λ named.
      let is = row_of class place m less at named in
      elim none [
        | inl no_name ↦ none_some is.row.name (sym no_name ∙ is.name_is)
        | inr no_desc ↦ none_some is.row.desc (sym no_desc ∙ is.desc_is)
      ]))

  module _ (different : AreDifferent texts) (name desc class : ℕ) (less : class < classes) (name_is : number_in texts n ≡ Some name) (desc_is : number_in texts d ≡ Some desc) where
    such_row : (place : ℕ) (is : IsRowOf texts rows n d class place) → IsSuch name desc class is.row
    such_row place is = record {
      name_is = one is.row.name name (sym is.name_is ∙ name_is);
      desc_is = one is.row.desc desc (sym is.desc_is ∙ desc_is);
      class_is = is.class_is;
    }

    -- the member of such a row has these texts
    named_by : (row : MemberRow) → Contains rows row → IsSuch name desc class row → (m : Named) × ((slice_get (members class) row.place ≡ Some m) × (is_named n (desc_in d) m.0 m.1 ≡ true))
    named_by row there such =
        let is = row_in texts members classes rows are row there in
        let own : is.name ≡ n = different.different is.name n name (is.name_is ∙ ap Some such.name_is) name_is in
        let text : is.text ≡ d = different.different is.text d desc (is.desc_is ∙ ap Some such.desc_is) desc_is in
        let same : is.desc ≡ desc_in d = described_once d is.desc (desc_in d) (subst (λ (t : List ℕ). Describes t is.desc) text is.spelled) valid in (
          (is.name, is.desc),
          (
            ap (λ (k : ℕ). slice_get (members k) row.place) (sym such.class_is) ∙ is.there,
            both_true (same_name is.name n) (same_desc is.desc (desc_in d)) (same_name_itself is.name n own) (subst (λ (x : Desc). same_desc is.desc x ≡ true) same (same_desc_itself is.desc)),
          ),
        )

    pub place_reported : (result : Option ℕ) → IsLeastOrNone rows name desc class result → result ≡ place_of (members class) n (desc_in d)
    place_reported None reported = sym (none_is n (desc_in d) (members class) (λ place m at. not_true (is_named n (desc_in d) m.0 m.1) (λ named.
        let is = row_of class place m less at named in reported is.row is.within (such_row place is))))
    place_reported (Some place) reported =
        let found = named_by reported.row reported.within reported.such in
        let at = ap (slice_get (members class)) (sym reported.place_is) ∙ found.1.0 in
        sym (first_is n (desc_in d) (members class) place found.0 at found.1.1 (λ other m before there. not_true (is_named n (desc_in d) m.0 m.1) (λ named.
        let is = row_of class other m less there named in
        let le = reported.least is.row is.within (such_row other is) in
        let own = is.place_is in
        absurd (omega (arith, le, own, before)))))

-- a row's place is one of its class
pub place_within : (texts : Texts) (members : Members) (classes : ℕ) (rows : List MemberRow) (name desc class : ℕ) (result : Option ℕ) → AreRows (number_in texts) members classes rows → IsLeastOrNone rows name desc class result
    → IfSome result (λ place. place < length (members class))
place_within texts members classes rows name desc class None are reported = tt
place_within texts members classes rows name desc class (Some place) are reported =
    let is = row_in texts members classes rows are reported.row reported.within in
    inside (members class) place (is.name, is.desc) (sym (ap (λ (k : ℕ). slice_get (members k) reported.row.place) reported.such.class_is ∙ ap (slice_get (members class)) reported.place_is) ∙ is.there)

-- ---- whether there is a member

no_later : (o : Option ℕ) → option_map later o ≡ None → o ≡ None
no_later None none = refl
no_later (Some place) none = absurd cc

named_there : (name : Name) (desc : Desc) (members : List Named) (place : ℕ) (m : Named) → slice_get members place ≡ Some m → is_named name desc m.0 m.1 ≡ true → place_of members name desc ≡ None → ⊥
named_there name desc [] place m at is none = absurd cc
named_there name desc (x ∷ members) zero m at is none =
    none_some 0 (sym none ∙ ap (λ (b : Bool). cond b (Some 0) (option_map later (place_of members name desc))) (ap (λ (y : Named). is_named name desc y.0 y.1) (one_member x m at) ∙ is))
named_there name desc (x ∷ members) (suc place) m at is none = go (is_named name desc x.0 x.1) (named_there name desc members place m at is) none where
  go : (b : Bool) → (place_of members name desc ≡ None → ⊥) → cond b (Some 0) (option_map later (place_of members name desc)) ≡ None → ⊥
  go true some none = none_some 0 (sym none)
  go false some none = some (no_later (place_of members name desc) none)

-- the member at the place that is found has this name and this descriptor
abbrev IsNamedAt : Name → Desc → List Named → ℕ → Type 0
IsNamedAt name desc members place = (m : Named) × (slice_get members place ≡ Some m) × (is_named name desc m.0 m.1 ≡ true)

first_there : (name : Name) (desc : Desc) (members : List Named) (place : ℕ) → place_of members name desc ≡ Some place → IsNamedAt name desc members place
first_there name desc [] place reported = absurd (none_some place reported)
first_there name desc (x ∷ members) place reported = go (is_named name desc x.0 x.1) refl (first_there name desc members) reported where
  later_there : (o : Option ℕ) → place_of members name desc ≡ o → ((q : ℕ) → place_of members name desc ≡ Some q → IsNamedAt name desc members q) → option_map later o ≡ Some place → IsNamedAt name desc (x ∷ members) place
  later_there None is rest reported = absurd (none_some place reported)
  later_there (Some q) is rest reported = let own = rest q is in subst (IsNamedAt name desc (x ∷ members)) (sym (add-one q) ∙ one (later q) place reported) (own.0, own.1, own.2)

  go : (b : Bool) → is_named name desc x.0 x.1 ≡ b → ((q : ℕ) → place_of members name desc ≡ Some q → IsNamedAt name desc members q) → cond b (Some 0) (option_map later (place_of members name desc)) ≡ Some place
      → IsNamedAt name desc (x ∷ members) place
  go true named rest reported = subst (IsNamedAt name desc (x ∷ members)) (one 0 place reported) (x, refl, named)
  go false named rest reported = later_there (place_of members name desc) refl rest reported

-- ---- what a directory answers

-- the numbers of a directory
abbrev pub numbering : Program → Texts → Numbering
numbering program texts = record { program = program; texts = texts_of texts }

abbrev pub IsFirstMethod : ℕ → ℕ → ℕ → Option ℕ → Numbering → Type 0
IsFirstMethod class name desc result directory = (n d : List ℕ) → number_of directory n ≡ Some name → number_of directory d ≡ Some desc → IsDescriptor d → result ≡ method_place (methods_at directory.program class) n (desc_in d)

abbrev pub IsFirstField : ℕ → ℕ → ℕ → Option ℕ → Numbering → Type 0
IsFirstField class name desc result directory = (n d : List ℕ) → number_of directory n ≡ Some name → number_of directory d ≡ Some desc → IsDescriptor d → result ≡ field_place (fields_at directory.program class) n (desc_in d)

abbrev pub NamesMethods : Numbering → Type 0
NamesMethods directory = (class : ℕ) (n d : List ℕ) → IsDescriptor d → ((number_of directory n ≡ None) ⊎ (number_of directory d ≡ None)) → method_place (methods_at directory.program class) n (desc_in d) ≡ None

abbrev pub NamesFields : Numbering → Type 0
NamesFields directory = (class : ℕ) (n d : List ℕ) → IsDescriptor d → ((number_of directory n ≡ None) ⊎ (number_of directory d ≡ None)) → field_place (fields_at directory.program class) n (desc_in d) ≡ None

-- a class that isn't there has no members
no_methods : (program : Program) (class : ℕ) → length program ≤ class → methods_at program class ≡ []
no_methods program class past = ap methods_of (slice_get_past program class past)

no_fields : (program : Program) (class : ℕ) → length program ≤ class → fields_at program class ≡ []
no_fields program class past = ap fields_of (slice_get_past program class past)

module _ (program : Program) (texts : Texts) (methods fields first_methods first_fields : List MemberRow) (is : IsDirectory program texts methods fields first_methods first_fields) where
  known : (text : List ℕ) (k : ℕ) → number_among (texts_of texts) text ≡ Some k → number_in texts text ≡ Some k
  known text k e = sym (number_is texts text) ∙ e

  unknown : (n d : List ℕ) → ((number_among (texts_of texts) n ≡ None) ⊎ (number_among (texts_of texts) d ≡ None)) → (number_in texts n ≡ None) ⊎ (number_in texts d ≡ None)
  unknown n d (inl e) = inl (sym (number_is texts n) ∙ e)
  unknown n d (inr e) = inr (sym (number_is texts d) ∙ e)

  pub first_method : (class name desc : ℕ) (result : Option ℕ) → class < length program → IsLeastOrNone methods name desc class result → IsFirstMethod class name desc result (numbering program texts)
  first_method class name desc result less reported n d n_is d_is valid =
      place_reported texts (methods_named program) (length program) methods is.methods_are n d valid is.different name desc class less (known n name n_is) (known d desc d_is) result reported
      ∙ method_place_is (methods_at program class) n (desc_in d)

  pub first_field : (class name desc : ℕ) (result : Option ℕ) → class < length program → IsLeastOrNone fields name desc class result → IsFirstField class name desc result (numbering program texts)
  first_field class name desc result less reported n d n_is d_is valid =
      place_reported texts (fields_named program) (length program) fields is.fields_are n d valid is.different name desc class less (known n name n_is) (known d desc d_is) result reported
      ∙ field_place_is (fields_at program class) n (desc_in d)

  pub method_within : (class name desc : ℕ) (result : Option ℕ) → IsLeastOrNone methods name desc class result → IfSome result (λ place. place < length (methods_at program class))
  method_within class name desc result reported =
      subst (λ (count : ℕ). IfSome result (λ place. place < count)) (length-map (methods_at program class) method_named)
      (place_within texts (methods_named program) (length program) methods name desc class result is.methods_are reported)

  pub field_within : (class name desc : ℕ) (result : Option ℕ) → IsLeastOrNone fields name desc class result → IfSome result (λ place. place < length (fields_at program class))
  field_within class name desc result reported =
      subst (λ (count : ℕ). IfSome result (λ place. place < count)) (length-map (fields_at program class) field_named)
      (place_within texts (fields_named program) (length program) fields name desc class result is.fields_are reported)

  pub names_methods : NamesMethods (numbering program texts)
  names_methods class n d valid none = elim (cases_lt class (length program)) [
    | inl less ↦ sym (method_place_is (methods_at program class) n (desc_in d)) ∙ unnumbered texts (methods_named program) (length program) methods is.methods_are n d valid class less (unknown n d none)
    | inr past ↦ ap (λ (all : List Method). method_place all n (desc_in d)) (no_methods program class past)
  ]

  pub names_fields : NamesFields (numbering program texts)
  names_fields class n d valid none = elim (cases_lt class (length program)) [
    | inl less ↦ sym (field_place_is (fields_at program class) n (desc_in d)) ∙ unnumbered texts (fields_named program) (length program) fields is.fields_are n d valid class less (unknown n d none)
    | inr past ↦ ap (λ (all : List Field). field_place all n (desc_in d)) (no_fields program class past)
  ]

  -- the row has the numbers that the directory gives
  pub method_row : (row : MemberRow) → Contains methods row → IsRow (number_among (texts_of texts)) (methods_named program) row
  method_row row there =
      kept_row (number_in texts) (number_among (texts_of texts)) (methods_named program) (λ text n e. number_is texts text ∙ e) row (row_in texts (methods_named program) (length program) methods is.methods_are row there)

  -- a method of such a row is there
  pub method_there : (name desc : ℕ) (row : MemberRow) → Contains methods row → row.class < length program
  method_there name desc row there = elim (cases_lt row.class (length program)) [
    | inl less ↦ less
    | inr past ↦
        (let own = row_in texts (methods_named program) (length program) methods is.methods_are row there in
        let lt = inside (methods_named program row.class) row.place (own.name, own.desc) own.there in
        let none : length (methods_named program row.class) ≡ 0 = ap (λ (all : List Method). length (map method_named all)) (no_methods program row.class past) in
        absurd (omega (arith, lt, none)))
  ]

  pub methods_declared : (name desc : ℕ) (found : List MemberRow) → length program < 2 ^ 31 → AreRowsWith first_methods name desc found
      → (n d : List ℕ) → number_among (texts_of texts) n ≡ Some name → number_among (texts_of texts) d ≡ Some desc → IsDescriptor d → DeclareMethods program n (desc_in d) found
  methods_declared name desc found few with_them n d n_is d_is valid = record {
    each = λ row there none.
        (let own = with_them.each row there in
        let such : IsSuch name desc row.class row = record { name_is = own.1.0; desc_is = own.1.1; class_is = refl } in
        let in_rows = is.first_methods_are.within row own.0 in
        let less = method_there name desc row in_rows in
        let m = named_by texts (methods_named program) (length program) methods is.methods_are n d valid is.different name desc row.class less (known n name n_is) (known d desc d_is) row in_rows such in
        named_there n (desc_in d) (methods_named program row.class) row.place m.0 m.1.0 m.1.1 (method_place_is (methods_at program row.class) n (desc_in d) ∙ none));
    all = λ class less none.
        sym (first_method class name desc None less (reported_by_first methods first_methods is.first_methods_are name desc class None (λ row there such.
        none row (with_them.all row there such.name_is such.desc_is (let same = such.class_is in omega (arith, same, less, few))) such.class_is)) n d n_is d_is valid);
    first = λ class place less reported.
        (let at = first_there n (desc_in d) (methods_named program class) place (method_place_is (methods_at program class) n (desc_in d) ∙ reported) in
        let own = row_of texts (methods_named program) (length program) methods is.methods_are n d valid class place at.0 less at.1 at.2 in
        let such = such_row texts (methods_named program) (length program) methods is.methods_are n d valid is.different name desc class less (known n name n_is) (known d desc d_is) place own in
        let has = is.first_methods_are.each own.row own.within in
        let so = such_first name desc class own.row has.first such has.alike in
        let least = least_first methods first_methods is.first_methods_are name desc class has.first has.within so in
        let says = first_method class name desc (Some has.first.place) less (reported_by_first methods first_methods is.first_methods_are name desc class (Some has.first.place) least) n d n_is d_is valid in
        record {
          row = has.first;
          within = with_them.all has.first has.within so.name_is so.desc_is (let same = so.class_is in omega (arith, same, less, few));
          class_is = so.class_is;
          place_is = one has.first.place place (says ∙ reported);
        });
  }

  -- the first method of a name and a descriptor in a class has a row among the first ones
  pub first_method_there : (class place : ℕ) (n : Name) (d : Desc) → class < length program → method_place (methods_at program class) n d ≡ Some place → IsThere first_methods class place
  first_method_there class place n d less reported =
      let at = first_there n d (methods_named program class) place (method_place_is (methods_at program class) n d ∙ reported) in
      let own = is.methods_are.whole class place less (inside (methods_named program class) place at.0 at.1) in
      let row_is = row_in texts (methods_named program) (length program) methods is.methods_are own.row own.within in
      let same : (row_is.name, row_is.desc) ≡ at.0 =
      one_member (row_is.name, row_is.desc) at.0
      (sym row_is.there ∙ ap (λ (k : ℕ). slice_get (methods_named program k) own.row.place) own.class_is ∙ ap (slice_get (methods_named program class)) own.place_is ∙ at.1) in
      let parts = both_parts (same_name at.0.0 n) (same_desc at.0.1 d) at.2 in
      let name_same : row_is.name ≡ n = ap (λ (m : Named). m.0) same ∙ same_name_is at.0.0 n parts.0 in
      let desc_same : desc_in row_is.text ≡ d = desc_in_is row_is.text row_is.desc row_is.spelled ∙ ap (λ (m : Named). m.1) same ∙ same_desc_is at.0.1 d parts.1 in
      let has = is.first_methods_are.each own.row own.within in
      let so = such_first own.row.name own.row.desc class own.row has.first (record { name_is = refl; desc_is = refl; class_is = own.class_is }) has.alike in
      let least = least_first methods first_methods is.first_methods_are own.row.name own.row.desc class has.first has.within so in
      let says = first_method class own.row.name own.row.desc (Some has.first.place) less
      (reported_by_first methods first_methods is.first_methods_are own.row.name own.row.desc class (Some has.first.place) least) n row_is.text
      (number_is texts n ∙ ap (number_in texts) (sym name_same) ∙ row_is.name_is) (number_is texts row_is.text ∙ row_is.desc_is) (is_descriptor row_is.text row_is.desc row_is.spelled) in
      record {
        row = has.first;
        within = has.within;
        class_is = so.class_is;
        place_is = one has.first.place place (says ∙ ap (method_place (methods_at program class) n) desc_same ∙ reported);
      }

  -- and stands among those of its class
  pub method_at : (row : MemberRow) → Contains methods row → row.place < length (methods_at program row.class)
  method_at row there =
      let own = row_in texts (methods_named program) (length program) methods is.methods_are row there in
      let lt = inside (methods_named program row.class) row.place (own.name, own.desc) own.there in
      let count = length-map (methods_at program row.class) method_named in
      omega (arith, lt, count)

  -- the row has the numbers that the directory gives
  pub field_row : (row : MemberRow) → Contains fields row → IsRow (number_among (texts_of texts)) (fields_named program) row
  field_row row there =
      kept_row (number_in texts) (number_among (texts_of texts)) (fields_named program) (λ text n e. number_is texts text ∙ e) row (row_in texts (fields_named program) (length program) fields is.fields_are row there)

  -- a field of such a row is there
  pub field_there : (name desc : ℕ) (row : MemberRow) → Contains fields row → row.class < length program
  field_there name desc row there = elim (cases_lt row.class (length program)) [
    | inl less ↦ less
    | inr past ↦
        (let own = row_in texts (fields_named program) (length program) fields is.fields_are row there in
        let lt = inside (fields_named program row.class) row.place (own.name, own.desc) own.there in
        let none : length (fields_named program row.class) ≡ 0 = ap (λ (all : List Field). length (map field_named all)) (no_fields program row.class past) in
        absurd (omega (arith, lt, none)))
  ]

  pub fields_declared : (name desc : ℕ) (found : List MemberRow) → length program < 2 ^ 31 → AreRowsWith first_fields name desc found
      → (n d : List ℕ) → number_among (texts_of texts) n ≡ Some name → number_among (texts_of texts) d ≡ Some desc → IsDescriptor d → DeclareFields program n (desc_in d) found
  fields_declared name desc found few with_them n d n_is d_is valid = record {
    each = λ row there none.
        (let own = with_them.each row there in
        let such : IsSuch name desc row.class row = record { name_is = own.1.0; desc_is = own.1.1; class_is = refl } in
        let in_rows = is.first_fields_are.within row own.0 in
        let less = field_there name desc row in_rows in
        let f = named_by texts (fields_named program) (length program) fields is.fields_are n d valid is.different name desc row.class less (known n name n_is) (known d desc d_is) row in_rows such in
        named_there n (desc_in d) (fields_named program row.class) row.place f.0 f.1.0 f.1.1 (field_place_is (fields_at program row.class) n (desc_in d) ∙ none));
    all = λ class less none.
        sym (first_field class name desc None less (reported_by_first fields first_fields is.first_fields_are name desc class None (λ row there such.
        none row (with_them.all row there such.name_is such.desc_is (let same = such.class_is in omega (arith, same, less, few))) such.class_is)) n d n_is d_is valid);
  }

  -- the first field of a name and a descriptor in a class has a row among the first ones
  pub first_field_there : (class place : ℕ) (n : Name) (d : Desc) → class < length program → field_place (fields_at program class) n d ≡ Some place → IsThere first_fields class place
  first_field_there class place n d less reported =
      let at = first_there n d (fields_named program class) place (field_place_is (fields_at program class) n d ∙ reported) in
      let own = is.fields_are.whole class place less (inside (fields_named program class) place at.0 at.1) in
      let row_is = row_in texts (fields_named program) (length program) fields is.fields_are own.row own.within in
      let same : (row_is.name, row_is.desc) ≡ at.0 =
      one_member (row_is.name, row_is.desc) at.0
      (sym row_is.there ∙ ap (λ (k : ℕ). slice_get (fields_named program k) own.row.place) own.class_is ∙ ap (slice_get (fields_named program class)) own.place_is ∙ at.1) in
      let parts = both_parts (same_name at.0.0 n) (same_desc at.0.1 d) at.2 in
      let name_same : row_is.name ≡ n = ap (λ (m : Named). m.0) same ∙ same_name_is at.0.0 n parts.0 in
      let desc_same : desc_in row_is.text ≡ d = desc_in_is row_is.text row_is.desc row_is.spelled ∙ ap (λ (m : Named). m.1) same ∙ same_desc_is at.0.1 d parts.1 in
      let has = is.first_fields_are.each own.row own.within in
      let so = such_first own.row.name own.row.desc class own.row has.first (record { name_is = refl; desc_is = refl; class_is = own.class_is }) has.alike in
      let least = least_first fields first_fields is.first_fields_are own.row.name own.row.desc class has.first has.within so in
      let says = first_field class own.row.name own.row.desc (Some has.first.place) less
      (reported_by_first fields first_fields is.first_fields_are own.row.name own.row.desc class (Some has.first.place) least) n row_is.text
      (number_is texts n ∙ ap (number_in texts) (sym name_same) ∙ row_is.name_is) (number_is texts row_is.text ∙ row_is.desc_is) (is_descriptor row_is.text row_is.desc row_is.spelled) in
      record {
        row = has.first;
        within = has.within;
        class_is = so.class_is;
        place_is = one has.first.place place (says ∙ ap (field_place (fields_at program class) n) desc_same ∙ reported);
      }
