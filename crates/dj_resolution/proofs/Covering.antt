-- Members that many classes declare: what marks say of them.
use Rattle.std.proofs.Common.{◌≡◌, ℕ, ◌+◌, ◌<◌, ◌≤◌, Bool, true, false, List, [], ◌∷◌, Contains, length, if◌then◌else◌, get_or, Option, Some, None, IfSome, refl, sym, ◌∙◌, ap, subst, inl, inr, arith, slice_get}
use Rattle.std.specs.Prelude.{is_some, ltb}
use Rattle.std.specs.Borrow.{Bor}
use Rattle.std.specs.Global.{Vec}
use Rattle.std.specs.Option.{option_map}
use Rattle.std.proofs.lemmas.Bool.{and_parts, false≢true, lt-ltb}
use Rattle.std.proofs.lemmas.List.{get_or_default}
use Rattle.std.proofs.lemmas.Option.{none-some, same_Some, slice_get-map}
use Rattle.dj_names.specs.declared.descriptor.Desc.{Desc}
use Rattle.dj_names.specs.trusted.Types.{Name, same_desc, same_name}
use Rattle.dj_model.specs.trusted.Program.{Program, Method, Field, field_in, is_named, method_in}
use Rattle.dj_model.specs.trusted.Linking.{any_method, is_plain, most_classes, FoundMethod}
use Rattle.dj_model.proofs.MappedNames.{either}
use Rattle.dj_declarations.specs.trusted.Files.{desc_in}
use Rattle.dj_declarations.specs.Members.{IsDescriptor, field_place, method_place}
use Rattle.dj_declarations.proofs.DescTests.{desc_in_is, is_descriptor, same_desc_is, same_name_is}
use Rattle.dj_class_table.specs.Tables.{fields_at, method_there, methods_at}
use Rattle.dj_member_index.specs.declared.rows.MemberRow.{MemberRow}
use Rattle.dj_member_index.specs.DirectoryRows.{IsRow, Named, field_named, fields_named, method_named, methods_named}
use Rattle.dj_member_index.specs.Numberings.{DeclareFields, DeclareMethods, Numbering, number_of}
use Rattle.dj_resolution.specs.declared.shared.MarkedMember.{MarkedMember}
use Rattle.dj_resolution.specs.Bits.{AreBits, IsTop, in_bits, in_both}
use Rattle.dj_resolution.specs.Marked.{AddsMarks, AreMarks}
use Rattle.dj_resolution.specs.Nearest.{IsNearestMarked}
use Rattle.dj_resolution.specs.Numbered.{AreTexts}
use Rattle.dj_resolution.specs.Numbers.{field_found, first_some, has, method_found, numbers_up}
use Rattle.dj_resolution.specs.Ranked.{AreRanks, HasRow, rank_in}
use Rattle.dj_resolution.specs.Shared.{AreRankMarks, HasTexts, IsFieldMarked, IsFieldNumbered, IsMethodNumbered, IsPlainMarked, IsRankMarked, declares_method}
use Rattle.dj_resolution.proofs.Chained.{up_within}
use Rattle.dj_resolution.proofs.Marking.{reported_some}
use Rattle.dj_resolution.proofs.Nearing.{first_near, no_method, none_found}
use Rattle.dj_resolution.proofs.Numbered.{field_found_at, method_found_at, method_reported}
use Rattle.dj_resolution.proofs.Ranking.{all_have, has_mapped, mapped_has}
use Rattle.dj_resolution.proofs.Tops.{both, first_of, second_if, second_of}

-- ---- the ranks of classes as marks

-- nothing is found for a class below the bound whose rank has a bit that isn't set
abbrev pub IsRankCovered : {A : Type 0} → (ℕ → Option A) → List ℕ → ℕ → List ℕ → Type 0
IsRankCovered f ranks bound marks = (k : ℕ) → k < bound → rank_in ranks k < bound → in_bits marks (rank_in ranks k) ≡ false → f k ≡ None

pub rank_covers : (program : Program) (ranks : List ℕ) (name : Name) (desc : Desc) (marks : List ℕ) → AreRankMarks (declares_method program name desc) ranks (length program) marks
    → IsRankCovered (method_found program any_method name desc) ranks (length program) marks
rank_covers program ranks name desc marks are k lt low unset = go (method_found program any_method name desc k) refl where
  go : (o : Option FoundMethod) → method_found program any_method name desc k ≡ o → method_found program any_method name desc k ≡ None
  go None is = is
  go (Some x) is = absurd (false≢true (sym unset ∙ are.marked k lt low (ap is_some is)))

ranks_covered : (program : Program) (ranks : List ℕ) (name : Name) (desc : Desc) (rows : List MemberRow) (bound : ℕ) (marks : List ℕ) → DeclareMethods program name desc rows → length program ≤ bound
    → ((row : MemberRow) → Contains rows row → rank_in ranks row.class < bound → in_bits marks (rank_in ranks row.class) ≡ true) → IsRankCovered (method_found program any_method name desc) ranks (length program) marks
ranks_covered program ranks name desc rows bound marks declare few marked class lt low unset =
    no_method program name desc class (declare.all class lt (λ row there same.
    false≢true (sym unset ∙ ap (λ (k : ℕ). in_bits marks (rank_in ranks k)) (sym same) ∙ marked row there (let e = ap (rank_in ranks) same in omega (arith, e, low, few)))))

pub ranks_marked : (program : Program) (ranks : List ℕ) (name : Name) (desc : Desc) (rows : List MemberRow) (bound : ℕ) (old marks : List ℕ) → DeclareMethods program name desc rows
    → ((row : MemberRow) → Contains rows row → row.class < length program) → length program ≤ bound → AreBits [] old
    → AddsMarks (λ row. ltb (rank_in ranks row.class) bound) (λ row. rank_in ranks row.class) rows old marks → AreRankMarks (declares_method program name desc) ranks (length program) marks
ranks_marked program ranks name desc rows bound old marks declare there few clear adds = record {
  marked = λ class lt low declared. elim (either (in_bits marks (rank_in ranks class))) [
    | inl set ↦ set
    | inr unset ↦ absurd (false≢true (sym (ap is_some (ranks_covered program ranks name desc rows bound marks declare few (λ row within less. adds.marked row within (lt-ltb (rank_in ranks row.class) bound less)) class lt low unset)) ∙ declared))
  ];
  only = λ rank set. elim (adds.only rank set) [
    | inl before ↦ absurd (false≢true (sym (clear rank) ∙ before))
    | inr found ↦ record {
      class = found.row.class;
      there = there found.row found.within;
      rank_is = found.number_is;
      declared = declared_by found.row found.within (method_place (methods_at program found.row.class) name desc) refl;
    }
  ];
} where
  declared_by : (row : MemberRow) → Contains rows row → (o : Option ℕ) → method_place (methods_at program row.class) name desc ≡ o → declares_method program name desc row.class ≡ true
  declared_by row within None none = absurd (declare.each row within none)
  declared_by row within (Some member) is =
      reported_some (method_found program any_method name desc row.class) (method_there program (record { class = row.class; member = member })) (method_reported program row.class name desc member (sym is))

-- ---- the numbers of the texts of a member

method_names : (methods : List Method) (name : Name) (desc : Desc) (m : Method) → method_in methods name desc ≡ Some m → (m.name ≡ name) × (m.desc ≡ desc)
method_names [] name desc m found = absurd (none-some m found)
method_names (x ∷ methods) name desc m found = by (is_named name desc x.name x.desc) refl (method_names methods name desc m) found where
  by : (b : Bool) → is_named name desc x.name x.desc ≡ b → (method_in methods name desc ≡ Some m → (m.name ≡ name) × (m.desc ≡ desc)) → (if b then Some x else method_in methods name desc) ≡ Some m → (m.name ≡ name) × (m.desc ≡ desc)
  by true named rest found =
      let parts = and_parts (same_name x.name name) (same_desc x.desc desc) named in
      let same : x ≡ m = same_Some x m found in
      (ap (λ (k : Method). k.name) (sym same) ∙ same_name_is x.name name parts.0, ap (λ (k : Method). k.desc) (sym same) ∙ same_desc_is x.desc desc parts.1)
  by false named rest found = rest found

field_names : (fields : List Field) (name : Name) (desc : Desc) (f : Field) → field_in fields name desc ≡ Some f → (f.name ≡ name) × (f.desc ≡ desc)
field_names [] name desc f found = absurd (none-some f found)
field_names (x ∷ fields) name desc f found = by (is_named name desc x.name x.desc) refl (field_names fields name desc f) found where
  by : (b : Bool) → is_named name desc x.name x.desc ≡ b → (field_in fields name desc ≡ Some f → (f.name ≡ name) × (f.desc ≡ desc)) → (if b then Some x else field_in fields name desc) ≡ Some f → (f.name ≡ name) × (f.desc ≡ desc)
  by true named rest found =
      let parts = and_parts (same_name x.name name) (same_desc x.desc desc) named in
      let same : x ≡ f = same_Some x f found in
      (ap (λ (k : Field). k.name) (sym same) ∙ same_name_is x.name name parts.0, ap (λ (k : Field). k.desc) (sym same) ∙ same_desc_is x.desc desc parts.1)
  by false named rest found = rest found

-- the method at a place, of a name and a descriptor
record IsMethod (methods : List Method) (member : ℕ) (name : Name) (desc : Desc) : Type 0 where
  method : Method
  there : slice_get methods member ≡ Some method
  names : (method.name ≡ name) × (method.desc ≡ desc)

method_at : (program : Program) (class member : ℕ) (name : Name) (desc : Desc) → method_place (methods_at program class) name desc ≡ Some member → IsMethod (methods_at program class) member name desc
method_at program class member name desc placed = by (method_in (methods_at program class) name desc) refl (method_found_at program class name desc (Some member) (sym placed)) where
  by : (o : Option Method) → method_in (methods_at program class) name desc ≡ o → Some (slice_get (methods_at program class) member) ≡ option_map Some o → IsMethod (methods_at program class) member name desc
  by None is reported = absurd (none-some (slice_get (methods_at program class) member) (sym reported))
  by (Some m) is reported = record { method = m; there = same_Some (slice_get (methods_at program class) member) (Some m) reported; names = method_names (methods_at program class) name desc m is }

record IsField (fields : List Field) (member : ℕ) (name : Name) (desc : Desc) : Type 0 where
  field : Field
  there : slice_get fields member ≡ Some field
  names : (field.name ≡ name) × (field.desc ≡ desc)

field_at : (program : Program) (class member : ℕ) (name : Name) (desc : Desc) → field_place (fields_at program class) name desc ≡ Some member → IsField (fields_at program class) member name desc
field_at program class member name desc placed = by (field_in (fields_at program class) name desc) refl (field_found_at program class name desc (Some member) (sym placed)) where
  by : (o : Option Field) → field_in (fields_at program class) name desc ≡ o → Some (slice_get (fields_at program class) member) ≡ option_map Some o → IsField (fields_at program class) member name desc
  by None is reported = absurd (none-some (slice_get (fields_at program class) member) (sym reported))
  by (Some f) is reported = record { field = f; there = same_Some (slice_get (fields_at program class) member) (Some f) reported; names = field_names (fields_at program class) name desc f is }

pub method_of_row : (directory : Numbering) (row : MemberRow) → row.class < length directory.program → IsRow (number_of directory) (methods_named directory.program) row → IsMethodNumbered directory row.class row.place row.name row.desc
method_of_row directory row lt is = record {
  there = lt;
  named = λ n d placed.
      (let found : IsMethod (methods_at directory.program row.class) row.place n d = method_at directory.program row.class row.place n d placed in
      let same : (found.method.name, found.method.desc) ≡ (is.name, is.desc) =
      same_Some (found.method.name, found.method.desc) (is.name, is.desc) (sym (ap (option_map method_named) found.there) ∙ sym (slice_get-map method_named (methods_at directory.program row.class) row.place) ∙ is.there) in
      let name : is.name ≡ n = sym (ap (λ (x : Named). x.0) same) ∙ found.names.0 in
      let desc : is.desc ≡ d = sym (ap (λ (x : Named). x.1) same) ∙ found.names.1 in
      record {
        text = is.text;
        are = record { name_is = ap (number_of directory) (sym name) ∙ is.name_is; desc_is = is.desc_is; described = is_descriptor is.text is.desc is.spelled };
        spelled = desc_in_is is.text is.desc is.spelled ∙ desc;
      });
}

pub field_of_row : (directory : Numbering) (row : MemberRow) → row.class < length directory.program → IsRow (number_of directory) (fields_named directory.program) row → IsFieldNumbered directory row.class row.place row.name row.desc
field_of_row directory row lt is = record {
  there = lt;
  named = λ n d placed.
      (let found : IsField (fields_at directory.program row.class) row.place n d = field_at directory.program row.class row.place n d placed in
      let same : (found.field.name, found.field.desc) ≡ (is.name, is.desc) =
      same_Some (found.field.name, found.field.desc) (is.name, is.desc) (sym (ap (option_map field_named) found.there) ∙ sym (slice_get-map field_named (fields_at directory.program row.class) row.place) ∙ is.there) in
      let name : is.name ≡ n = sym (ap (λ (x : Named). x.0) same) ∙ found.names.0 in
      let desc : is.desc ≡ d = sym (ap (λ (x : Named). x.1) same) ∙ found.names.1 in
      record {
        text = is.text;
        are = record { name_is = ap (number_of directory) (sym name) ∙ is.name_is; desc_is = is.desc_is; described = is_descriptor is.text is.desc is.spelled };
        spelled = desc_in_is is.text is.desc is.spelled ∙ desc;
      });
}

-- ---- the marks of one member

module _ (directory : Numbering) (class member name desc : ℕ) (words : Vec ℕ) (marks : List ℕ) (is : words.items ≡ marks) where
  pub plain_marked : IsMethodNumbered directory class member name desc
      → ((n d : List ℕ) → AreTexts directory name desc n d → AreMarks (method_found directory.program is_plain n (desc_in d)) (length directory.program) marks)
      → IsPlainMarked directory.program (record { name = name; desc = desc; class = class; member = member; words = words })
  plain_marked numbered are = record {
    there = numbered.there;
    marks_are = λ n e placed. (let texts : HasTexts directory name desc n e = numbered.named n e placed in
        subst (λ (ws : List ℕ). AreMarks (method_found directory.program is_plain n e) (length directory.program) ws) (sym is)
        (subst (λ (k : Desc). AreMarks (method_found directory.program is_plain n k) (length directory.program) marks) texts.spelled (are n texts.text texts.are)));
  }

  pub rank_marked : (ranks : List ℕ) → IsMethodNumbered directory class member name desc
      → ((n d : List ℕ) → AreTexts directory name desc n d → AreRankMarks (declares_method directory.program n (desc_in d)) ranks (length directory.program) marks)
      → IsRankMarked directory.program ranks (record { name = name; desc = desc; class = class; member = member; words = words })
  rank_marked ranks numbered are = record {
    there = numbered.there;
    marks_are = λ n e placed. (let texts : HasTexts directory name desc n e = numbered.named n e placed in
        subst (λ (ws : List ℕ). AreRankMarks (declares_method directory.program n e) ranks (length directory.program) ws) (sym is)
        (subst (λ (k : Desc). AreRankMarks (declares_method directory.program n k) ranks (length directory.program) marks) texts.spelled (are n texts.text texts.are)));
  }

  pub field_marked : IsFieldNumbered directory class member name desc
      → ((n d : List ℕ) → AreTexts directory name desc n d → AreMarks (field_found directory.program n (desc_in d)) (length directory.program) marks)
      → IsFieldMarked directory.program (record { name = name; desc = desc; class = class; member = member; words = words })
  field_marked numbered are = record {
    there = numbered.there;
    marks_are = λ n e placed. (let texts : HasTexts directory name desc n e = numbered.named n e placed in
        subst (λ (ws : List ℕ). AreMarks (field_found directory.program n e) (length directory.program) ws) (sym is)
        (subst (λ (k : Desc). AreMarks (field_found directory.program n k) (length directory.program) marks) texts.spelled (are n texts.text texts.are)));
  }

-- ---- what is answered for a member that is looked up

module _ (directory : Numbering) (marked : MarkedMember) (name desc : ℕ) where
  abbrev pub OwnMethod : Type 0
  OwnMethod = (n d : List ℕ) → AreTexts directory name desc n d → method_place (methods_at directory.program marked.class) n (desc_in d) ≡ Some marked.member

  abbrev pub OwnField : Type 0
  OwnField = (n d : List ℕ) → AreTexts directory name desc n d → field_place (fields_at directory.program marked.class) n (desc_in d) ≡ Some marked.member

  pub plain_reported : (result : Option (Bor (List ℕ))) → IsPlainMarked directory.program marked → IfSome result (λ words. words.now ≡ marked.words.items) → IfSome result (λ _. OwnMethod)
      → (n d : List ℕ) → AreTexts directory name desc n d → IfSome result (λ words. AreMarks (method_found directory.program is_plain n (desc_in d)) (length directory.program) words.now)
  plain_reported None are is own n d h = tt
  plain_reported (Some words) are is own n d h =
      subst (λ (ws : List ℕ). AreMarks (method_found directory.program is_plain n (desc_in d)) (length directory.program) ws) (sym is) (are.marks_are n (desc_in d) (own n d h))

  pub rank_reported : (ranks : List ℕ) (result : Option (Bor (List ℕ))) → IsRankMarked directory.program ranks marked → IfSome result (λ words. words.now ≡ marked.words.items) → IfSome result (λ _. OwnMethod)
      → (n d : List ℕ) → AreTexts directory name desc n d → IfSome result (λ words. AreRankMarks (declares_method directory.program n (desc_in d)) ranks (length directory.program) words.now)
  rank_reported ranks None are is own n d h = tt
  rank_reported ranks (Some words) are is own n d h =
      subst (λ (ws : List ℕ). AreRankMarks (declares_method directory.program n (desc_in d)) ranks (length directory.program) ws) (sym is) (are.marks_are n (desc_in d) (own n d h))

  pub field_reported : (result : Option (Bor (List ℕ))) → IsFieldMarked directory.program marked → IfSome result (λ words. words.now ≡ marked.words.items) → IfSome result (λ _. OwnField)
      → (n d : List ℕ) → AreTexts directory name desc n d → IfSome result (λ words. AreMarks (field_found directory.program n (desc_in d)) (length directory.program) words.now)
  field_reported None are is own n d h = tt
  field_reported (Some words) are is own n d h =
      subst (λ (ws : List ℕ). AreMarks (field_found directory.program n (desc_in d)) (length directory.program) ws) (sym is) (are.marks_are n (desc_in d) (own n d h))

-- ---- the nearest class

module _ (program : Program) (order ranks : List ℕ) (rows : List (List ℕ)) (are : AreRanks program order ranks rows) (class : ℕ) (lt : class < length program) (have : HasRow rows class) where
  abbrev up : List ℕ
  up = numbers_up most_classes program (Some class)

  has_too : (z : ℕ) → has (numbers_up most_classes program (Some class)) z ≡ true → HasRow rows z
  has_too z there = all_have program order ranks rows are.levels are.ranked most_classes (Some class) have z there

  -- the ranks of the superclasses are among the bits
  row_has : (row : List ℕ) → row ≡ get_or rows class [] → (z : ℕ) → has (numbers_up most_classes program (Some class)) z ≡ true → in_bits row (rank_in ranks z) ≡ true
  row_has row is z there =
      ap (λ (ws : List ℕ). in_bits ws (rank_in ranks z)) is
      ∙ (are.ranked.each class have).row.bits (rank_in ranks z)
      ∙ has_mapped (rank_in ranks) (numbers_up most_classes program (Some class)) z there

  pub none_near : (row marks : List ℕ) → row ≡ get_or rows class [] → ((z : ℕ) → in_both row marks z ≡ false) → IsNearestMarked (numbers_up most_classes program (Some class)) ranks marks None
  none_near row marks is none z there = second_if (in_bits row (rank_in ranks z)) (in_bits marks (rank_in ranks z)) (row_has row is z there) (none (rank_in ranks z))

  pub near_at : (row marks : List ℕ) (rank near : ℕ) → row ≡ get_or rows class [] → IsTop row marks rank → near ≡ get_or order rank 0 → IsNearestMarked (numbers_up most_classes program (Some class)) ranks marks (Some near)
  near_at row marks rank near is top at =
      let own : in_bits row rank ≡ true = first_of (in_bits row rank) (in_bits marks rank) top.own in
      let one : (z : ℕ) × (has (numbers_up most_classes program (Some class)) z ≡ true) × (rank_in ranks z ≡ rank) =
      mapped_has (rank_in ranks) (numbers_up most_classes program (Some class)) rank (sym ((are.ranked.each class have).row.bits rank) ∙ ap (λ (ws : List ℕ). in_bits ws rank) (sym is) ∙ own) in
      let same : near ≡ one.0 = at ∙ ap (λ (r : ℕ). get_or order r 0) (sym one.2) ∙ (are.ranked.each one.0 (has_too one.0 one.1)).placed in
      let rank_is : rank_in ranks near ≡ rank = ap (rank_in ranks) same ∙ one.2 in
      record {
        among = ap (has (numbers_up most_classes program (Some class))) same ∙ one.1;
        marked = ap (in_bits marks) rank_is ∙ second_of (in_bits row rank) (in_bits marks rank) top.own;
        highest = λ z there set.
            (let le = top.highest (rank_in ranks z) (both (in_bits row (rank_in ranks z)) (in_bits marks (rank_in ranks z)) (row_has row is z there) set) in
            omega (arith, le, rank_is));
      }

  module _ (name : Name) (desc : Desc) (marks : List ℕ) (covered : IsRankCovered (method_found program any_method name desc) ranks (length program) marks) where
    unset_none : (z : ℕ) → has (numbers_up most_classes program (Some class)) z ≡ true → in_bits marks (rank_in ranks z) ≡ false → method_found program any_method name desc z ≡ None
    unset_none z there unset = covered z (up_within most_classes program (Some class) lt z there) (are.ranked.each z (has_too z there)).bound unset

    pub none_marked : IsNearestMarked (numbers_up most_classes program (Some class)) ranks marks None → first_some (method_found program any_method name desc) (numbers_up most_classes program (Some class)) ≡ None
    none_marked none = none_found (method_found program any_method name desc) (numbers_up most_classes program (Some class)) (λ z there. unset_none z there (none z there))

    pub near_marked : (near : ℕ) → IsNearestMarked (numbers_up most_classes program (Some class)) ranks marks (Some near) → (method_found program any_method name desc near ≡ None → ⊥)
        → first_some (method_found program any_method name desc) (numbers_up most_classes program (Some class)) ≡ method_found program any_method name desc near
    near_marked near is some =
        first_near FoundMethod (method_found program any_method name desc) program (HasRow rows) (rank_in ranks) (λ k j known next. (are.ranked.each k known).next j next) most_classes (Some class) near have is.among some
        (λ z there own. elim (either (in_bits marks (rank_in ranks z))) [
          | inl set ↦ is.highest z there set
          | inr unset ↦ absurd (own (unset_none z there unset))
        ])
