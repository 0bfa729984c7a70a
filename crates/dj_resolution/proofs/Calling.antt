-- The method that a call takes is that of the nearest class that declares one like it.
use Rattle.std.proofs.Common.{◌≡◌, ℕ, zero, suc, ◌+◌, ◌-◌, ◌<◌, ◌≤◌, Bool, true, false, List, [], ◌∷◌, Contains, length, get_or, Option, Some, None, IfSome, slice_get, refl, sym, ◌∙◌, ap, subst, inl, inr, arith}
use Rattle.std.specs.Prelude.{option_and_then}
use Rattle.std.specs.Option.{option_map}
use Rattle.std.proofs.lemmas.Bool.{cases_lt, false≢true}
use Rattle.std.proofs.lemmas.Option.{same_Some, none-some}
use Rattle.dj_names.specs.declared.descriptor.Desc.{Desc}
use Rattle.dj_names.specs.trusted.Descriptors.{Describes}
use Rattle.dj_names.specs.trusted.Types.{Name}
use Rattle.dj_model.specs.trusted.Program.{Program, Class, Method, method_in}
use Rattle.dj_model.specs.trusted.Linking.{method_or, most_classes, or_else, FoundMethod}
use Rattle.dj_model.proofs.MappedNames.{either}
use Rattle.dj_declarations.specs.trusted.Files.{desc_in}
use Rattle.dj_declarations.specs.Members.{method_name, method_place}
use Rattle.dj_declarations.proofs.DescTests.{desc_in_is}
use Rattle.dj_class_table.specs.Tables.{methods_of, methods_at, method_of_class, method_there, super_number}
use Rattle.dj_class_table.specs.declared.place.Place.{Place}
use Rattle.dj_member_index.specs.declared.rows.MemberRow.{MemberRow}
use Rattle.dj_member_index.specs.Calls.{passes, DeclareFirst, DeclareLike, DeclaresLike, IsFirstOf, IsNearestFirst, IsNearestLike}
use Rattle.dj_member_index.specs.Spans.{StartsFrom}
use Rattle.dj_resolution.specs.declared.nearest.Near.{Near}
use Rattle.dj_resolution.specs.Called.{SaysFirst, SaysOwn, SaysUp}
use Rattle.dj_resolution.specs.Nearest.{IsNearest}
use Rattle.dj_resolution.specs.Numbers.{first_some, has, method_found, method_in_class, most_above, numbers_up, SaysMethod}
use Rattle.dj_resolution.specs.Ranked.{AreRanks, HasRow, rank_in}
use Rattle.dj_resolution.proofs.Chained.{next_within, short_at, up_within}
use Rattle.dj_resolution.proofs.Climbs.{most_above_is, one_more_level}
use Rattle.dj_resolution.proofs.Finding.{reported_first, reported_none}
use Rattle.dj_resolution.proofs.Nearing.{first_near, none_found, none_or}
use Rattle.dj_resolution.proofs.Lists.{has_cases}
use Rattle.dj_resolution.proofs.Numbered.{method_found_at, no_method, none_in_class}
use Rattle.dj_resolution.proofs.Selections.{described_there, found_there, own, Is}
use Rattle.dj_resolution.proofs.Walks.{no_numbers_up}

-- ---- the first method of a class

reported_in : (test : Method → Bool) (o : Option Class) (member : ℕ) (name : Name) (desc : Desc) → Some (slice_get (methods_of o) member) ≡ option_map Some (method_in (methods_of o) name desc)
    → passes test (slice_get (methods_of o) member) ≡ true → Some (option_and_then (method_of_class member) o) ≡ option_map Some (method_in_class test name desc o)
reported_in test None member name desc reported passed = absurd (false≢true passed)
reported_in test (Some c) member name desc reported passed = by (slice_get c.methods member) (method_in c.methods name desc) reported passed where
  by : (there found : Option Method) → Some there ≡ option_map Some found → passes test there ≡ true
      → Some (option_map (λ m. record { class = c.name; method = m }) there) ≡ option_map Some (method_or c.name test found None)
  by there None reported passed = absurd (none-some there (sym reported))
  by None (Some m) reported passed = absurd (false≢true passed)
  by (Some n) (Some m) reported passed =
      let same : n ≡ m = same_Some n m (same_Some (Some n) (Some m) reported) in
      let yes : test m ≡ true = ap test (sym same) ∙ passed in
      rw (same, yes) refl

fails_in : (test : Method → Bool) (o : Option Class) (member : ℕ) (name : Name) (desc : Desc) → Some (slice_get (methods_of o) member) ≡ option_map Some (method_in (methods_of o) name desc)
    → passes test (slice_get (methods_of o) member) ≡ false → method_in_class test name desc o ≡ None
fails_in test None member name desc reported failed = refl
fails_in test (Some c) member name desc reported failed = by (slice_get c.methods member) (method_in c.methods name desc) reported failed where
  by : (there found : Option Method) → Some there ≡ option_map Some found → passes test there ≡ false → method_or c.name test found None ≡ None
  by there None reported failed = refl
  by None (Some m) reported failed = absurd (none-some m (same_Some None (Some m) reported))
  by (Some n) (Some m) reported failed =
      let same : n ≡ m = same_Some n m (same_Some (Some n) (Some m) reported) in
      let no : test m ≡ false = ap test (sym same) ∙ failed in
      rw no refl

abbrev place_at : ℕ → ℕ → Place
place_at class member = record { class = class; member = member }

module _ (program : Program) (test : Method → Bool) (name : Name) (desc : Desc) where
  found_first : (class place : ℕ) → IsFirstOf program test name desc class place → SaysMethod program (Some (place_at class place)) (method_found program test name desc class)
  found_first class place is = reported_in test (slice_get program class) place name desc (method_found_at program class name desc (Some place) (sym is.first)) is.passed

  found_some : (class place : ℕ) → IsFirstOf program test name desc class place → method_found program test name desc class ≡ None → ⊥
  found_some class place is none = none-some (method_there program (place_at class place)) (sym (found_first class place is ∙ ap (option_map Some) none))

  not_found : (class : ℕ) → ((place : ℕ) → IsFirstOf program test name desc class place → ⊥) → method_found program test name desc class ≡ None
  not_found class none = go (method_place (methods_at program class) name desc) refl where
    go : (o : Option ℕ) → method_place (methods_at program class) name desc ≡ o → method_found program test name desc class ≡ None
    go None is = reported_none (method_found program test name desc class) (none_in_class test (slice_get program class) name desc (no_method program class name desc (sym is)))
    go (Some place) is = elim (either (passes test (slice_get (methods_at program class) place))) [
      | inl e ↦ absurd (none place (record { first = is; passed = e }))
      | inr e ↦ fails_in test (slice_get program class) place name desc (method_found_at program class name desc (Some place) (sym is)) e
    ]

-- ---- the nearest class

module _ (program : Program) (order ranks : List ℕ) (bits : List (List ℕ)) (are : AreRanks program order ranks bits) (class : ℕ) (lt : class < length program) (have : HasRow bits class) where
  -- there are no more superclasses with more levels
  all_levels : (levels : ℕ) → most_above ≤ levels → numbers_up levels program (Some class) ≡ numbers_up most_classes program (Some class)
  all_levels levels le =
      let short = (are.ranked.each class have).row.short in
      let few = are.few in
      let most = most_above_is in
      let more = one_more_level in
      let one : are.levels ≤ levels = omega (arith, le, few, most) in
      let two : are.levels ≤ most_classes = omega (arith, few, most, more) in
      short_at program are.levels class levels short one ∙ sym (short_at program are.levels class most_classes short two)

  module _ (rows : List MemberRow) (test : Method → Bool) (name : Name) (desc : Desc) (declare : DeclareFirst program test name desc rows) where
    nearest_first : (near : Near) → IsNearest (numbers_up most_classes program (Some class)) ranks rows (length rows) (Some near)
        → SaysMethod program (Some (place_at near.class near.member)) (first_some (method_found program test name desc) (numbers_up most_classes program (Some class)))
    nearest_first near is =
        let own = declare.each is.row (is.at, is.before, is.row_is) in
        let nearest : first_some (method_found program test name desc) (numbers_up most_classes program (Some class)) ≡ method_found program test name desc near.class =
        first_near FoundMethod (method_found program test name desc) program (HasRow bits) (rank_in ranks) (λ k j known next. (are.ranked.each k known).next j next) most_classes (Some class) near.class have is.among
        (λ none. found_some program test name desc is.row.class is.row.place own (ap (method_found program test name desc) (sym is.class_is) ∙ none))
        (λ z there some. elim (cases_lt (rank_in ranks near.class) (rank_in ranks z)) [
          | inl more ↦ absurd (some (not_found program test name desc z (λ place first. declare.all z place (up_within most_classes program (Some class) lt z there) first (λ row contained same.
              let le = is.highest contained.0 row contained.1 contained.2 (ap (has (numbers_up most_classes program (Some class))) same ∙ there) in
              let e = ap (rank_in ranks) same in
              let rank = is.rank_is in
              omega (arith, le, e, rank, more)))))
          | inr le ↦ le
        ]) in
        subst (SaysMethod program (Some (place_at near.class near.member))) (sym nearest)
        (subst (λ (k : ℕ). SaysMethod program (Some (place_at k near.member)) (method_found program test name desc k)) (sym is.class_is)
        (subst (λ (p : ℕ). SaysMethod program (Some (place_at is.row.class p)) (method_found program test name desc is.row.class)) (sym is.member_is) (found_first program test name desc is.row.class is.row.place own)))

    none_first : IsNearest (numbers_up most_classes program (Some class)) ranks rows (length rows) None → first_some (method_found program test name desc) (numbers_up most_classes program (Some class)) ≡ None
    none_first none = none_found (method_found program test name desc) (numbers_up most_classes program (Some class))
        (λ z there. not_found program test name desc z (λ place first. declare.all z place (up_within most_classes program (Some class) lt z there) first (λ row contained same.
        false≢true (sym (none contained.0 row contained.1 contained.2) ∙ ap (has (numbers_up most_classes program (Some class))) same ∙ there))))

  -- the marks of methods give the nearest class, which is the class or one above it
  module _ (test : Method → Bool) (name : Name) (desc : Desc) (near : Option ℕ) (is : IsNearestFirst program test name desc class near) where
    -- the class starts in the spans of those above it
    in_spans : (n k z : ℕ) → k < length program → is.start k ≤ is.start class → is.start class < is.stop k → has (numbers_up n program (Some k)) z ≡ true → (is.start z ≤ is.start class) × (is.start class < is.stop z)
    unfolding numbers_up
    in_spans zero k z within after before there = absurd (false≢true there)
    in_spans (suc n) k z within after before there = elim (has_cases (numbers_up n program (super_number program k)) k z there) [
      | inl e ↦ subst (λ (j : ℕ). (is.start j ≤ is.start class) × (is.start class < is.stop j)) e (after, before)
      | inr h ↦ next (super_number program k) refl h (λ j e higher. let outer = is.nested k j within e in let start = outer.0 in let stop = outer.1 in in_spans n j z (next_within program k j e) (omega (arith, start, after)) (omega (arith, stop, before)) higher)
    ] where
      next : (o : Option ℕ) → super_number program k ≡ o → has (numbers_up n program o) z ≡ true
          → ((j : ℕ) → super_number program k ≡ Some j → has (numbers_up n program (Some j)) z ≡ true → (is.start z ≤ is.start class) × (is.start class < is.stop z)) → (is.start z ≤ is.start class) × (is.start class < is.stop z)
      next None e h rest = absurd (false≢true (sym (ap (λ (ks : List ℕ). has ks z) (no_numbers_up n program)) ∙ h))
      next (Some j) e h rest = rest j e h

    starts_from : (z : ℕ) → has (numbers_up most_classes program (Some class)) z ≡ true → (method_found program test name desc z ≡ None → ⊥) → (StartsFrom is.start near (is.start z) → ⊥) → ⊥
    starts_from z there some wrong = some (not_found program test name desc z (λ place first.
        let own = is.some class lt in
        let spans = in_spans most_classes class z lt (omega arith) own there in
        wrong (is.covered z place (up_within most_classes program (Some class) lt z there) first spans.0 spans.1)))

  none_marked : (test : Method → Bool) (name : Name) (desc : Desc) → IsNearestFirst program test name desc class None → first_some (method_found program test name desc) (numbers_up most_classes program (Some class)) ≡ None
  none_marked test name desc is = none_found (method_found program test name desc) (numbers_up most_classes program (Some class)) (λ z there. none_or (method_found program test name desc z) (λ some. starts_from test name desc None is z there some (λ reported. reported)))

  first_marked : (test : Method → Bool) (name : Name) (desc : Desc) (near : ℕ) → IsNearestFirst program test name desc class (Some near) → has (numbers_up most_classes program (Some class)) near ≡ true → (method_found program test name desc near ≡ None → ⊥)
      → first_some (method_found program test name desc) (numbers_up most_classes program (Some class)) ≡ method_found program test name desc near
  first_marked test name desc near is up some =
      first_near FoundMethod (method_found program test name desc) program (λ k. k < length program) is.start (λ k j within next. (next_within program k j next, (is.nested k j within next).0)) most_classes (Some class) near lt up some
      (λ z there own. elim (cases_lt (is.start near) (is.start z)) [
        | inl more ↦ absurd (starts_from test name desc (Some near) is z there own (λ le. omega (arith, le, more)))
        | inr le ↦ le
      ])

  at_method : (resolved : Place) (found : FoundMethod) → method_there program resolved ≡ Some found → slice_get (methods_at program resolved.class) resolved.member ≡ Some found.method
  at_method resolved found there = elim (found_there program resolved found there) [ Is in_program within at ↦ at ]

  pub nearest_like : (rows : List MemberRow) (test : Method → Bool) (resolved : Place) (near : Near) → DeclareLike program test resolved.class resolved.member rows
      → IsNearest (numbers_up most_classes program (Some class)) ranks rows (length rows) (Some near) → SaysUp program test resolved class (Some (record { class = near.class; member = near.member }))
  nearest_like rows test resolved near declare is levels le found there =
      subst (λ (ks : List ℕ). SaysMethod program (Some (place_at near.class near.member)) (first_some (method_found program test found.method.name found.method.desc) ks)) (sym (all_levels levels le))
      (nearest_first rows test found.method.name found.method.desc (declare found.method (at_method resolved found there)) near is)

  pub none_like : (rows : List MemberRow) (test : Method → Bool) (resolved : Place) → DeclareLike program test resolved.class resolved.member rows
      → IsNearest (numbers_up most_classes program (Some class)) ranks rows (length rows) None → SaysUp program test resolved class None
  none_like rows test resolved declare is levels le found there =
      sym (ap (λ (ks : List ℕ). option_map Some (first_some (method_found program test found.method.name found.method.desc) ks)) (all_levels levels le)
      ∙ ap (option_map Some) (none_first rows test found.method.name found.method.desc (declare found.method (at_method resolved found there)) is))

  pub none_marked_like : (test : Method → Bool) (resolved : Place) → IsNearestLike program test resolved.class resolved.member class None → SaysUp program test resolved class None
  none_marked_like test resolved is levels le found there =
      sym (ap (λ (ks : List ℕ). option_map Some (first_some (method_found program test found.method.name found.method.desc) ks)) (all_levels levels le)
      ∙ ap (option_map Some) (none_marked test found.method.name found.method.desc (is found.method (at_method resolved found there))))

  pub marked_like : (test : Method → Bool) (resolved place : Place) (near : ℕ) → IsNearestLike program test resolved.class resolved.member class (Some near) → has (numbers_up most_classes program (Some class)) near ≡ true
      → SaysOwn program test resolved near (Some place) → SaysUp program test resolved class (Some place)
  marked_like test resolved place near is up own levels le found there =
      let at_near : SaysMethod program (Some place) (method_found program test found.method.name found.method.desc near) = own found there in
      own found there
      ∙ ap (option_map Some) (sym (ap (first_some (method_found program test found.method.name found.method.desc)) (all_levels levels le)
      ∙ first_marked test found.method.name found.method.desc near (is found.method (at_method resolved found there)) up (λ none. none-some (method_there program place) (sym (at_near ∙ ap (option_map Some) none)))))

-- ---- what is answered for a class

pub own_reported : (program : Program) (test : Method → Bool) (resolved : Place) (class member : ℕ) → DeclaresLike program test resolved.class resolved.member class member
    → SaysOwn program test resolved class (Some (record { class = class; member = member }))
own_reported program test resolved class member declares found there = elim (found_there program resolved found there) [
  | Is lt within at ↦ found_first program test found.method.name found.method.desc class member (declares found.method at)
]

one_level : {A : Type 0} (f : ℕ → Option A) (program : Program) (levels class : ℕ) → most_above ≤ levels → first_some f (numbers_up levels program (Some class)) ≡ or_else (f class) (first_some f (numbers_up (levels - 1) program (super_number program class)))
unfolding numbers_up
one_level f program levels class le =
    let most = most_above_is in
    let more : levels ≡ suc (levels - 1) = omega (arith, most, le) in
    ap (λ (n : ℕ). first_some f (numbers_up n program (Some class))) more

pub own_first : (program : Program) (test : Method → Bool) (resolved : Place) (class : ℕ) (place : Place) → SaysOwn program test resolved class (Some place) → SaysUp program test resolved class (Some place)
own_first program test resolved class place own levels le found there =
    reported_first (method_there program place) (method_found program test found.method.name found.method.desc class)
    (first_some (method_found program test found.method.name found.method.desc) (numbers_up (levels - 1) program (super_number program class))) (own found there)
    ∙ ap (option_map Some) (sym (one_level (method_found program test found.method.name found.method.desc) program levels class le))

pub enough_above : most_above ≤ most_above
enough_above = omega arith

pub enough_classes : most_above ≤ most_classes
enough_classes = let more = one_more_level in omega (arith, more)

-- no class is there
pub none_up : (program : Program) (test : Method → Bool) (resolved : Place) (levels : ℕ) → SaysFirst program test resolved levels None None
none_up program test resolved levels found there = sym (ap (λ (ks : List ℕ). option_map Some (first_some (method_found program test found.method.name found.method.desc) ks)) (no_numbers_up levels program))

-- what is answered for a class that is there
pub first_of_some : (program : Program) (test : Method → Bool) (resolved : Place) (levels class : ℕ) (o : Option ℕ) (place : Option Place) → o ≡ Some class → SaysFirst program test resolved levels (Some class) place
    → SaysFirst program test resolved levels o place
first_of_some program test resolved levels class o place is reported = subst (λ (k : Option ℕ). SaysFirst program test resolved levels k place) (sym is) reported

pub first_of_none : (program : Program) (test : Method → Bool) (resolved : Place) (levels : ℕ) (o : Option ℕ) (place : Option Place) → o ≡ None → place ≡ None → SaysFirst program test resolved levels o place
first_of_none program test resolved levels o place is none =
    subst (λ (k : Option ℕ). SaysFirst program test resolved levels k place) (sym is) (subst (λ (p : Option Place). SaysFirst program test resolved levels None p) (sym none) (none_up program test resolved levels))

-- what is answered by texts
pub reported_named : (program : Program) (test : Method → Bool) (resolved : Place) (found : FoundMethod) → method_there program resolved ≡ Some found → (name desc : Name) (classes : List ℕ) (t : Option (Option FoundMethod))
    → Some name ≡ option_map method_name (slice_get (methods_at program resolved.class) resolved.member) → IfSome (slice_get (methods_at program resolved.class) resolved.member) (λ m. Describes desc m.desc)
    → t ≡ option_map Some (first_some (method_found program test name (desc_in desc)) classes) → t ≡ option_map Some (first_some (method_found program test found.method.name found.method.desc) classes)
reported_named program test resolved found there name desc classes t named described reported =
    reported
    ∙ ap (λ (n : Name). option_map Some (first_some (method_found program test n (desc_in desc)) classes)) (own program resolved found there method_name name named)
    ∙ ap (λ (d : Desc). option_map Some (first_some (method_found program test found.method.name d) classes)) (desc_in_is desc found.method.desc (described_there program resolved found there desc described))
