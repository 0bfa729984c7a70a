-- What calls look in: the rows of the methods that a call may take.
use Rattle.std.proofs.Common.{◌≡◌, ℕ, zero, suc, ◌+◌, ◌<◌, ◌≤◌, ◌^◌, ◌&&◌, ◌⊎◌, Bool, true, false, not, ltb, nat_eq, bit_and, List, [], ◌∷◌, ◌++◌, length, get_or, All, Contains, Option, Some, None, IfSome, refl, sym, ap, ◌∙◌, subst, arith, inl, inr, if◌then◌else◌}
use Rattle.std.specs.Prelude.{slice_get}
use Rattle.std.specs.Option.{option_map}
use Rattle.std.specs.List.Sorted.{IsPartitionPoint, IsPartitionedBy, IsPermutation, IsNonDecreasingBy}
use Rattle.std.proofs.lemmas.Bool.{cases_lt, false≢true, eq-eqb, eqb-true, ltb-false, ltb-true}
use Rattle.std.proofs.lemmas.Bool.Decides.{nat_tests}
use Rattle.std.proofs.lemmas.List.{get_or_append_left, get_or_default, get_or_push, length-map, length_push}
use Rattle.std.proofs.lemmas.List.Elements.{Contains-push, Contains-push_cases, Contains-append_left}
use Rattle.std.proofs.lemmas.List.Sorted.{Contains-permutation, IsPartitionedBy-ltb, IsPermutation-sym}
use Rattle.std.proofs.lemmas.Nat.Bits.{and_pow, bit_at-lt}
use Rattle.std.proofs.lemmas.Option.{same_Some, none-some, slice_get-map}
use Rattle.dj_names.specs.trusted.Types.{Name}
use Rattle.dj_model.specs.trusted.Program.{Program, Method, is_private, is_static}
use Rattle.dj_declarations.specs.trusted.Files.{desc_in}
use Rattle.dj_declarations.specs.Members.{method_flags, method_place}
use Rattle.dj_declarations.proofs.DescTests.{desc_in_is, is_descriptor}
use Rattle.dj_class_table.specs.Tables.{methods_at}
use Rattle.dj_member_index.specs.declared.rows.MemberRow.{MemberRow}
use Rattle.dj_member_index.specs.DirectoryRows.{Named, method_named, methods_named, pair_of, row_at, number_in, key_of, Fits, AreInOrder, IsSuch, IsLeast, IsThere, IsLeastOrNone, IsRow, AreRowsWith}
use Rattle.dj_member_index.specs.Calls.{takes, tests, passes, IsWhether, IsFirstOf, DeclareFirst, DeclareLike, DeclaresLike, AreMethods, IsTakable, AreTakable, AreMarked, IsFirstLike, IsNearestFirst, IsNearestLike, IsPlaced, ArePlaces, AreFirsts, place_key, IsRowAt, IsCallTable}
use Rattle.dj_member_index.specs.declared.calls.Marked.{Marked}
use Rattle.dj_member_index.specs.Spans.{AreMarks, AreNear, AreNearest, AreSpans, IsNearestIn, IsWithin, StartsFrom, class_in, end_in, mark_of, start_in}
use Rattle.dj_member_index.specs.declared.spans.Spans.{Spans}
use Rattle.dj_member_index.specs.declared.marks.SpanMarks.{SpanMarks}
use Rattle.dj_member_index.specs.declared.calls.CallTable.{CallTable}
use Rattle.dj_member_index.proofs.NumberLaws.{number_is}
use Rattle.dj_member_index.proofs.RowLaws.{firsts, fit_all, seconds}
use Rattle.dj_member_index.proofs.PlaceLaws.{first_method, inside, method_there, row_in}

-- ---- flags

private_test : (flags : ℕ) → nat_eq (bit_and flags 2) 0 ≡ not (is_private flags)
private_test flags = let bit = and_pow flags 1 in let lt = bit_at-lt flags 1 in grind (arith, nat_tests)

static_test : (flags : ℕ) → nat_eq (bit_and flags 8) 0 ≡ not (is_static flags)
static_test flags = let bit = and_pow flags 3 in let lt = bit_at-lt flags 3 in grind (arith, nat_tests)

set_bit : (b : Bool) (n : ℕ) → nat_eq n 0 ≡ not b → (n ≡ 0 → ⊥) → b ≡ true
set_bit true n test some = refl
set_bit false n test some = absurd (some (eqb-true n 0 test))

cleared : (b : Bool) (n : ℕ) → nat_eq n 0 ≡ not b → n ≡ 0 → b ≡ false
cleared true n test none = absurd (false≢true (sym test ∙ eq-eqb n 0 none))
cleared false n test none = refl

and_false : (b : Bool) → (b && false) ≡ false
and_false true = refl
and_false false = refl

and_true : (b : Bool) → (b && true) ≡ b
and_true true = refl
and_true false = refl

-- no static method is taken, and of others a private one where it is allowed
pub takes_no_static : (private_too : Bool) (flags : ℕ) → (bit_and flags 8 ≡ 0 → ⊥) → false ≡ takes private_too flags
takes_no_static true flags some = rw (set_bit (is_static flags) (bit_and flags 8) (static_test flags) some) refl
takes_no_static false flags some = rw (set_bit (is_static flags) (bit_and flags 8) (static_test flags) some) (sym (and_false (not (is_private flags))))

pub takes_private : (private_too : Bool) (flags : ℕ) → bit_and flags 8 ≡ 0 → private_too ≡ true → private_too ≡ takes private_too flags
takes_private true flags none allowed = rw (cleared (is_static flags) (bit_and flags 8) (static_test flags) none) refl
takes_private false flags none allowed = absurd (false≢true allowed)

pub takes_public : (private_too : Bool) (flags : ℕ) → bit_and flags 8 ≡ 0 → private_too ≡ false → nat_eq (bit_and flags 2) 0 ≡ takes private_too flags
takes_public true flags none allowed = absurd (false≢true (sym allowed))
takes_public false flags none allowed = private_test flags ∙ sym (rw (cleared (is_static flags) (bit_and flags 8) (static_test flags) none) (and_true (not (is_private flags))))

takes_is : (private_too : Bool) (m : Method) → takes private_too m.flags ≡ tests private_too m
takes_is true m = refl
takes_is false m = refl

pub passes_is : (private_too : Bool) (o : Option Method) (flags : ℕ) → Some flags ≡ option_map method_flags o → passes (tests private_too) o ≡ takes private_too flags
passes_is private_too None flags reported = absurd (none-some flags (sym reported))
passes_is private_too (Some m) flags reported = sym (takes_is private_too m) ∙ ap (takes private_too) (sym (same_Some flags m.flags reported))

-- ---- the first row of its numbers

pub least_as : (rows : List MemberRow) (name name2 desc desc2 class class2 place : ℕ) → name ≡ name2 → desc ≡ desc2 → class ≡ class2 → IsLeast rows name desc class place → IsLeast rows name2 desc2 class2 place
least_as rows name name2 desc desc2 class class2 place named described same least =
    subst (λ (k : ℕ). IsLeast rows name2 desc2 k place) same (subst (λ (d : ℕ). IsLeast rows name2 d class place) described (subst (λ (n : ℕ). IsLeast rows n desc class place) named least))

pub not_first : (rows : List MemberRow) (row : MemberRow) → IsLeastOrNone rows row.name row.desc row.class None → IsLeast rows row.name row.desc row.class row.place → ⊥
not_first rows row none least = none least.row least.within least.such

pub no_row : (rows : List MemberRow) (row : MemberRow) → IsLeastOrNone rows row.name row.desc row.class None → Contains rows row → ⊥
no_row rows row none there = none row there (record { name_is = refl; desc_is = refl; class_is = refl })

pub first_or_not : (rows : List MemberRow) (row : MemberRow) (first : ℕ) → IsLeastOrNone rows row.name row.desc row.class (Some first) → IsWhether (IsLeast rows row.name row.desc row.class row.place) (nat_eq first row.place)
first_or_not rows row first reported = go (nat_eq first row.place) refl where
  go : (b : Bool) → nat_eq first row.place ≡ b → IsWhether (IsLeast rows row.name row.desc row.class row.place) b
  go true e = subst (IsLeast rows row.name row.desc row.class) (eqb-true first row.place e) reported
  go false e = λ least.
      (let one = reported.least least.row least.within least.such in
      let two = least.least reported.row reported.within reported.such in
      let here = reported.place_is in
      let there = least.place_is in
      let same : first ≡ row.place = omega (arith, one, two, here, there) in
      false≢true (sym e ∙ eq-eqb first row.place same))

pub takable_by : (program : Program) (test : Method → Bool) (rows : List MemberRow) (row : MemberRow) (b : Bool) → passes test (slice_get (methods_at program row.class) row.place) ≡ true
    → IsWhether (IsLeast rows row.name row.desc row.class row.place) b → IsWhether (IsTakable program test rows row) b
takable_by program test rows row true passed first = record { first = first; passed = passed }
takable_by program test rows row false passed other = λ takable. other takable.first

-- ---- where rows stand

pub parted_places : (rows : List MemberRow) (key : ℕ) → ArePlaces rows → IsPartitionedBy (λ row. ltb (place_key row) key) rows
parted_places rows key ordered = IsPartitionedBy-ltb place_key rows key ordered.ascend

abbrev nothing : MemberRow
nothing = record { name = 0; desc = 0; class = 0; place = 0 }

module _ (rows : List MemberRow) (class place i : ℕ) (class_fits : class < 4294967296) (place_fits : place < 4294967296) (ordered : ArePlaces rows)
    (point : IsPartitionPoint (λ row. ltb (place_key row) (pair_of class place) ≡ true) (λ row. ltb (place_key row) (pair_of class place) ≡ false) rows i) where
  key_at : (at : ℕ) → IsPlaced rows class place at → place_key (row_at rows at) ≡ pair_of class place
  key_at at placed = ap (λ (k : ℕ). pair_of k (row_at rows at).place) placed.class_is ∙ ap (pair_of class) placed.place_is

  after_point : (at : ℕ) → IsPlaced rows class place at → i ≤ at
  after_point at placed = elim (cases_lt at i) [
    | inl before ↦
        (let low = ltb-true (place_key (row_at rows at)) (pair_of class place) (point.0 at nothing (omega arith) before) in
        let key = key_at at placed in
        absurd (omega (arith, low, key)))
    | inr after ↦ after
  ]

  key_here : (at : ℕ) → IsPlaced rows class place at → place_key (row_at rows i) ≡ pair_of class place
  key_here at placed =
      let after = after_point at placed in
      let within : i < length rows = (let lt = placed.within in omega (arith, after, lt)) in
      let high = ltb-false (place_key (row_at rows i)) (pair_of class place) (point.1 i nothing (omega arith) within) in
      let rise = ordered.ascend i at nothing after placed.within in
      let key = key_at at placed in
      omega (arith, high, rise, key)

  -- where one is placed, the one at the point is
  pub placed_here : (at : ℕ) → IsPlaced rows class place at → IsPlaced rows class place i
  placed_here at placed =
      let after = after_point at placed in
      let within : i < length rows = (let lt = placed.within in omega (arith, after, lt)) in
      let fits = ordered.fit i nothing within in
      record {
        within = within;
        class_is = firsts (row_at rows i).class (row_at rows i).place class place fits.place place_fits (key_here at placed);
        place_is = seconds (row_at rows i).class (row_at rows i).place class place fits.place place_fits (key_here at placed);
      }

pub row_placed : (rows : List MemberRow) (class place at : ℕ) → IsPlaced rows class place at → IsRowAt rows class place (row_at rows at)
row_placed rows class place at placed = record { within = (at, placed.within, get_or_default rows at (row_at rows at) nothing placed.within); class_is = placed.class_is; place_is = placed.place_is }

pub copied_places : (rows slice copied places : List MemberRow) → copied ≡ slice → slice ≡ rows → IsPermutation copied places → IsPermutation rows places
copied_places rows slice copied places one two moved = subst (λ (rs : List MemberRow). IsPermutation rs places) (one ∙ two) moved

pub in_copied : (rows places : List MemberRow) → IsPermutation rows places → (row : MemberRow) → Contains places row → Contains rows row
in_copied rows places moved row there = Contains-permutation places rows row (IsPermutation-sym rows places moved) there

-- rows that stand among others in order have numbers of 32 bits, as these do
pub places_fit : (rows places : List MemberRow) → AreInOrder rows → ((row : MemberRow) → Contains places row → Contains rows row) → All Fits places
places_fit rows places order within = λ i d lt. fit_all rows (get_or places i d) order (within (get_or places i d) (i, lt, get_or_default places i (get_or places i d) d lt))

-- ---- the first places

-- those of the rows so far
pub record AreFirstsOf (rows places : List MemberRow) (count : ℕ) (firsts : List ℕ) : Type 0 where
  pub long : length firsts ≡ count
  pub each : (at : ℕ) → at < count → at < length places → IsLeast rows (row_at places at).name (row_at places at).desc (row_at places at).class (get_or firsts at 0)

pub none_of : (rows places : List MemberRow) (none : List ℕ) → none ≡ [] → AreFirstsOf rows places 0 none
none_of rows places none empty = record { long = ap length empty; each = λ at lt. absurd (omega (arith, lt)) }

pub one_of : (rows places : List MemberRow) (count first : ℕ) (own more : List ℕ) (row : MemberRow) → AreFirstsOf rows places count own → row_at places count ≡ row → IsLeast rows row.name row.desc row.class first → more ≡ own ++ first ∷ []
    → AreFirstsOf rows places (count + 1) more
one_of rows places count first own more row are same least is = record {
  long = (let long = are.long in let pushed = ap length is ∙ length_push own first in omega (arith, long, pushed));
  each = λ at lt within. elim (cases_lt at count) [
    | inl before ↦
        (let long = are.long in
        subst (IsLeast rows (row_at places at).name (row_at places at).desc (row_at places at).class)
        (sym (ap (λ (xs : List ℕ). get_or xs at 0) is ∙ get_or_append_left own (first ∷ []) 0 at (omega (arith, before, long)))) (are.each at before within))
    | inr after ↦
        (let here : count ≡ at = omega (arith, after, lt) in
        subst (λ (n : ℕ). IsLeast rows (row_at places n).name (row_at places n).desc (row_at places n).class (get_or more n 0)) here
        (subst (λ (r : MemberRow). IsLeast rows r.name r.desc r.class (get_or more count 0)) (sym same)
        (subst (IsLeast rows row.name row.desc row.class) (sym (ap (λ (xs : List ℕ). get_or xs count 0) is ∙ get_or_push own first 0 count are.long)) least)))
  ];
}

pub all_of : (rows places : List MemberRow) (count : ℕ) (firsts : List ℕ) → AreFirstsOf rows places count firsts → count ≡ length places → AreFirsts rows places firsts
all_of rows places count firsts are all = record { long = are.long ∙ all; each = λ at lt. are.each at (omega (arith, lt, all)) lt }

-- ---- those that a call may take, so far

pub record AreSoFar (program : Program) (test : Method → Bool) (rows : List MemberRow) (count : ℕ) (taken : List MemberRow) : Type 0 where
  pub each : (row : MemberRow) → Contains taken row → Contains rows row × IsTakable program test rows row
  pub all : (k : ℕ) (row : MemberRow) → k < count → k < length rows → get_or rows k row ≡ row → IsTakable program test rows row → Contains taken row

module _ (program : Program) (test : Method → Bool) (rows : List MemberRow) where
  pub none_so_far : (taken : List MemberRow) → taken ≡ [] → AreSoFar program test rows 0 taken
  none_so_far taken empty = record {
    each = λ row there. (let lt = there.1 in let none = ap length empty in absurd (omega (arith, lt, none)));
    all = λ k row lt. absurd (omega (arith, lt));
  }

  at_place : (i k : ℕ) (row other : MemberRow) → k < i + 1 → i < length rows → get_or rows i row ≡ row → get_or rows k other ≡ other → (k < i) ⊎ (row ≡ other)
  at_place i k row other lt within own is = elim (cases_lt k i) [
    | inl before ↦ inl before
    | inr after ↦
        (let same : k ≡ i = omega (arith, lt, after) in
        inr (sym own ∙ get_or_default rows i row other within ∙ ap (λ (j : ℕ). get_or rows j other) (sym same) ∙ is))
  ]

  pub one_more : (i : ℕ) (row : MemberRow) (taken after : List MemberRow) → i < length rows → get_or rows i row ≡ row → AreSoFar program test rows i taken → IsTakable program test rows row → after ≡ taken ++ row ∷ []
      → AreSoFar program test rows (i + 1) after
  one_more i row taken after within own far takable pushed = subst (AreSoFar program test rows (i + 1)) (sym pushed) (record {
    each = λ other there. elim (Contains-push_cases taken row other there) [
      | inl before ↦ far.each other before
      | inr same ↦ subst (λ (r : MemberRow). Contains rows r × IsTakable program test rows r) same ((i, within, own), takable)
    ];
    all = λ k other lt less is takes. elim (at_place i k row other lt within own is) [
      | inl before ↦ Contains-append_left taken (row ∷ []) other (far.all k other before less is takes)
      | inr same ↦ subst (Contains (taken ++ row ∷ [])) same (Contains-push taken row)
    ];
  })

  pub none_more : (i : ℕ) (row : MemberRow) (taken : List MemberRow) → i < length rows → get_or rows i row ≡ row → AreSoFar program test rows i taken → (IsTakable program test rows row → ⊥) → AreSoFar program test rows (i + 1) taken
  none_more i row taken within own far other_row = record {
    each = far.each;
    all = λ k other lt less is takes. elim (at_place i k row other lt within own is) [
      | inl before ↦ far.all k other before less is takes
      | inr same ↦ absurd (other_row (subst (IsTakable program test rows) (sym same) takes))
    ];
  }

  pub all_taken : (count : ℕ) (taken sorted : List MemberRow) → length rows ≤ count → AreInOrder rows → AreSoFar program test rows count taken → IsPermutation taken sorted → IsNonDecreasingBy key_of sorted → AreTakable program test rows sorted
  all_taken count taken sorted past order far moved ascend =
      let back : (row : MemberRow) → Contains sorted row → Contains taken row = λ row there. Contains-permutation sorted taken row (IsPermutation-sym taken sorted moved) there in
      record {
        each = λ row there. far.each row (back row there);
        all = λ row there takable. Contains-permutation taken sorted row moved (far.all there.0 row (let lt = there.1 in omega (arith, lt, past)) there.1 there.2 takable);
        order = record {
          fit = λ i d lt. fit_all rows (get_or sorted i d) order (far.each (get_or sorted i d) (back (get_or sorted i d) (i, lt, get_or_default sorted i (get_or sorted i d) d lt))).0;
          ascend = ascend;
        };
      }

-- ---- the nearest class

starts_from : (start : ℕ → ℕ) (near : Option ℕ) (step : ℕ) → ((StartsFrom start near step → ⊥) → ⊥) → StartsFrom start near step
starts_from start None step sure = sure (λ reported. reported)
starts_from start (Some class) step sure = elim (cases_lt (start class) step) [
  | inl less ↦ absurd (sure (λ le. omega (arith, le, less)))
  | inr le ↦ le
]

-- ---- the methods of rows

module _ (program : Program) (rows : List MemberRow) (methods : AreMethods program rows) where
  own_row : (row : MemberRow) → Contains rows row → IsRow (number_in methods.texts) (methods_named program) row
  own_row row there = row_in methods.texts (methods_named program) (length program) rows methods.are.methods_are row there

  pub in_class : (row : MemberRow) → Contains rows row → row.class < length program
  in_class row there = method_there program methods.texts rows methods.fields methods.first_methods methods.first_fields methods.are row.name row.desc row there

  pub in_methods : (row : MemberRow) → Contains rows row → row.place < length (methods_at program row.class)
  in_methods row there =
      let is = own_row row there in
      let lt = inside (methods_named program row.class) row.place (is.name, is.desc) is.there in
      let count = length-map (methods_at program row.class) method_named in
      omega (arith, lt, count)

  module _ (row : MemberRow) (there : Contains rows row) (m : Method) (at : slice_get (methods_at program row.class) row.place ≡ Some m) where
    named_so : method_named m ≡ ((own_row row there).name, (own_row row there).desc)
    named_so =
        let is = own_row row there in
        same_Some (method_named m) (is.name, is.desc) (sym (slice_get-map method_named (methods_at program row.class) row.place ∙ ap (option_map method_named) at) ∙ is.there)

    -- the first method with the name and the descriptor of this one, by the numbers
    first_reported : (class : ℕ) (result : Option ℕ) → class < length program → IsLeastOrNone rows row.name row.desc class result → result ≡ method_place (methods_at program class) m.name m.desc
    first_reported class result lt reported =
        let is = own_row row there in
        first_method program methods.texts rows methods.fields methods.first_methods methods.first_fields methods.are class row.name row.desc result lt reported is.name is.text (number_is methods.texts is.name ∙ is.name_is) (number_is methods.texts is.text ∙ is.desc_is)
        (is_descriptor is.text is.desc is.spelled)
        ∙ ap (λ (n : Name). method_place (methods_at program class) n (desc_in is.text)) (sym (ap (λ (x : Named). x.0) named_so))
        ∙ ap (method_place (methods_at program class) m.name) (desc_in_is is.text is.desc is.spelled ∙ sym (ap (λ (x : Named). x.1) named_so))

    first_of : (test : Method → Bool) (other : MemberRow) → Contains rows other → other.name ≡ row.name → other.desc ≡ row.desc → IsTakable program test rows other → IsFirstOf program test m.name m.desc other.class other.place
    first_of test other within named described takable = record {
      first = sym (first_reported other.class (Some other.place) (in_class other within) (least_as rows other.name row.name other.desc row.desc other.class other.class other.place named described refl takable.first));
      passed = takable.passed;
    }

    module _ (test : Method → Bool) (taken : List MemberRow) (takable : AreTakable program test rows taken) (class place : ℕ) (lt : class < length program) (is : IsFirstOf program test m.name m.desc class place)
        (none : (r : MemberRow) → Contains taken r → IsSuch row.name row.desc class r → ⊥) where
      no_such : (n : ℕ) (r : MemberRow) → r.place < n → Contains rows r → IsSuch row.name row.desc class r → ⊥
      no_such zero r less within such = absurd (omega (arith, less))
      no_such (suc n) r less within such =
          let least : IsLeast rows row.name row.desc class r.place = record {
            row = r;
            within = within;
            such = such;
            place_is = refl;
            least = λ other in_rows also. elim (cases_lt other.place r.place) [
              | inl under ↦ absurd (no_such n other (omega (arith, under, less)) in_rows also)
              | inr over ↦ over
            ];
          } in
          let own : place ≡ r.place = same_Some place r.place (sym is.first ∙ sym (first_reported class (Some r.place) lt least)) in
          let it : IsTakable program test rows r = record {
            first = least_as rows row.name r.name row.desc r.desc class r.class r.place (sym such.name_is) (sym such.desc_is) (sym such.class_is) least;
            passed = ap (λ (k : ℕ). passes test (slice_get (methods_at program k) r.place)) such.class_is ∙ ap (λ (k : ℕ). passes test (slice_get (methods_at program class) k)) (sym own) ∙ is.passed;
          } in
          none r (takable.all r within it) such

      not_left_out : ⊥
      not_left_out = none-some place (first_reported class None lt (λ r within such. no_such (suc r.place) r (omega arith) within such) ∙ is.first)

    declare_first : (test : Method → Bool) (taken found : List MemberRow) → AreTakable program test rows taken → length program < 2 ^ 31 → AreRowsWith taken row.name row.desc found → DeclareFirst program test m.name m.desc found
    declare_first test taken found takable few with_them = record {
      there = λ r within. in_class r (takable.each r (with_them.each r within).0).0;
      each = λ r within. (let own = with_them.each r within in let it = takable.each r own.0 in first_of test r it.0 own.1.0 own.1.1 it.1);
      all = λ class place lt is none. not_left_out test taken takable class place lt is (λ r within such.
          let same = such.class_is in
          none r (with_them.all r within such.name_is such.desc_is (omega (arith, same, lt, few))) same);
    }

    nearest_first : (test : Method → Bool) (taken marks : List MemberRow) (spans : Spans) (below : ℕ) (near : Option ℕ) → AreTakable program test rows taken → AreSpans program spans → AreMarks spans taken marks
        → IsNearestIn spans marks row.name row.desc (start_in spans below + 1) near → IsNearestFirst program test m.name m.desc below near
    nearest_first test taken marks spans below near takable nested marks_are reported = record {
      start = start_in spans;
      stop = end_in spans;
      some = λ k lt. (nested k lt).some;
      nested = λ k above lt is. subst (IsWithin spans k) is (nested k lt).within;
      covered = λ k place lt is after before. starts_from (start_in spans) near (start_in spans k) (λ wrong. not_left_out test taken takable k place lt is (λ r within such. wrong
          (let same = such.class_is in
          let start = ap (start_in spans) same in
          let stop = ap (end_in spans) same in
          subst (λ (j : ℕ). StartsFrom (start_in spans) near (start_in spans j)) same
          (reported (mark_of r (start_in spans r.class)) (marks_are.starts r within) (record { at = refl; own = subst (λ (j : ℕ). class_in spans (start_in spans j) ≡ j) (sym same) (nested k lt).own }) such.name_is such.desc_is
          (omega (arith, start, after)) (omega (arith, stop, before))))));
    }

    declares_first : (test : Method → Bool) (taken : List MemberRow) (other place : ℕ) → AreTakable program test rows taken → IsLeast taken row.name row.desc other place → IsFirstOf program test m.name m.desc other place
    declares_first test taken other place takable least =
        let it = takable.each least.row least.within in
        subst (λ (p : ℕ). IsFirstOf program test m.name m.desc other p) least.place_is
        (subst (λ (k : ℕ). IsFirstOf program test m.name m.desc k least.row.place) least.such.class_is (first_of test least.row it.0 least.such.name_is least.such.desc_is it.1))

  module _ (row : MemberRow) (class member : ℕ) (is : IsRowAt rows class member row) where
    at_row : (m : Method) → slice_get (methods_at program class) member ≡ Some m → slice_get (methods_at program row.class) row.place ≡ Some m
    at_row m at = ap (λ (k : ℕ). slice_get (methods_at program k) row.place) is.class_is ∙ ap (slice_get (methods_at program class)) is.place_is ∙ at

    pub declare_like : (test : Method → Bool) (taken found : List MemberRow) → AreTakable program test rows taken → length program < 2 ^ 31 → AreRowsWith taken row.name row.desc found → DeclareLike program test class member found
    declare_like test taken found takable few with_them = λ m at. declare_first row is.within m (at_row m at) test taken found takable few with_them

    pub first_like : (first : ℕ) → IsLeast rows row.name row.desc row.class first → IsFirstLike program class member first
    first_like first least = λ m at. subst (λ (k : ℕ). method_place (methods_at program k) m.name m.desc ≡ Some first) is.class_is (sym (first_reported row is.within m (at_row m at) row.class (Some first) (in_class row is.within) least))

    pub nearest_like : (test : Method → Bool) (taken marks : List MemberRow) (spans : Spans) (below : ℕ) (near : Option ℕ) → AreTakable program test rows taken → AreSpans program spans → AreMarks spans taken marks
        → IsNearestIn spans marks row.name row.desc (start_in spans below + 1) near → IsNearestLike program test class member below near
    nearest_like test taken marks spans below near takable nested marks_are reported = λ m at. nearest_first row is.within m (at_row m at) test taken marks spans below near takable nested marks_are reported

    pub declares_like : (test : Method → Bool) (taken : List MemberRow) (other place : ℕ) → AreTakable program test rows taken → IsLeast taken row.name row.desc other place → DeclaresLike program test class member other place
    declares_like test taken other place takable least = λ m at. declares_first row is.within m (at_row m at) test taken other place takable least

-- ---- what is kept

-- those that a call may take
abbrev pub taken_rows : CallTable → Bool → List MemberRow
taken_rows calls private_too = if private_too then calls.instance.items else calls.plain.items

pub takable_rows : (program : Program) (calls : CallTable) (is : IsCallTable program calls) (private_too : Bool) → AreTakable program (tests private_too) is.rows (taken_rows calls private_too)
takable_rows program calls is true = is.instance
takable_rows program calls is false = is.plain

pub alike_reported : (program : Program) (calls : CallTable) → IsCallTable program calls → (private_too : Bool) (class member : ℕ) (row : MemberRow) (taken found : List MemberRow) → IsRowAt calls.places.items class member row
    → taken ≡ taken_rows calls private_too → length program < 2 ^ 31 → AreRowsWith taken row.name row.desc found → DeclareLike program (tests private_too) class member found
alike_reported program calls is private_too class member row taken found at taken_is few with_them =
    declare_like program is.rows is.methods row class member (record { within = is.places row at.within; class_is = at.class_is; place_is = at.place_is }) (tests private_too) taken found
    (subst (AreTakable program (tests private_too) is.rows) (sym taken_is) (takable_rows program calls is private_too)) few with_them

pub taken_reported : (program : Program) (calls : CallTable) → IsCallTable program calls → (private_too : Bool) (class member : ℕ) (row : MemberRow) (taken : List MemberRow) (other : ℕ) (place : Option ℕ) → IsRowAt calls.places.items class member row
    → taken ≡ taken_rows calls private_too → IsLeastOrNone taken row.name row.desc other place → IfSome place (λ p. DeclaresLike program (tests private_too) class member other p)
taken_reported program calls is private_too class member row taken other None at taken_is reported = tt
taken_reported program calls is private_too class member row taken other (Some place) at taken_is reported =
    declares_like program is.rows is.methods row class member (record { within = is.places row at.within; class_is = at.class_is; place_is = at.place_is }) (tests private_too) taken other place
    (subst (AreTakable program (tests private_too) is.rows) (sym taken_is) (takable_rows program calls is private_too)) reported

pub nearest_reported : (program : Program) (calls : CallTable) → IsCallTable program calls → (private_too : Bool) (class member below start : ℕ) (row : MemberRow) (spans : Spans) (marks : SpanMarks) (result : Option (Option ℕ)) → IsRowAt calls.places.items class member row
    → AreSpans program spans → AreNear spans (taken_rows calls private_too) marks → start ≡ start_in spans below → IfSome result (IsNearestIn spans marks.rows.items row.name row.desc (start + 1))
    → IfSome result (IsNearestLike program (tests private_too) class member below)
nearest_reported program calls is private_too class member below start row spans marks None at nested are start_is reported = tt
nearest_reported program calls is private_too class member below start row spans marks (Some near) at nested are start_is reported =
    nearest_like program is.rows is.methods row class member (record { within = is.places row at.within; class_is = at.class_is; place_is = at.place_is }) (tests private_too) (taken_rows calls private_too) marks.rows.items spans below near
    (takable_rows program calls is private_too) nested are.marks_are (subst (λ (n : ℕ). IsNearestIn spans marks.rows.items row.name row.desc (n + 1) near) start_is reported)

pub marked_is : (program : Program) (calls : CallTable) → IsCallTable program calls → (marked : Marked) → calls.marked ≡ Some marked → AreMarked program calls.plain.items calls.instance.items marked
marked_is program calls is marked some = subst (λ (o : Option Marked). IfSome o (AreMarked program calls.plain.items calls.instance.items)) some is.marked

pub nearest_instance : (program : Program) (calls : CallTable) (is : IsCallTable program calls) (class member below start : ℕ) (row : MemberRow) (marked : Marked) (result : Option (Option ℕ)) (private_too : Bool) → private_too ≡ true → IsRowAt calls.places.items class member row
    → AreMarked program calls.plain.items calls.instance.items marked → start ≡ start_in marked.spans below
    → ((spans : Spans) → AreNearest spans marked.instance.rows.items marked.instance.nearest.items → IfSome result (IsNearestIn spans marked.instance.rows.items row.name row.desc (start + 1)))
    → IfSome result (IsNearestLike program (tests private_too) class member below)
nearest_instance program calls is class member below start row marked result private_too e at are start_is reported =
    subst (λ (b : Bool). IfSome result (IsNearestLike program (tests b) class member below)) (sym e)
    (nearest_reported program calls is true class member below start row marked.spans marked.instance result at are.spans_are are.instance_are start_is (reported marked.spans are.instance_are.nearest_are))

pub nearest_plain : (program : Program) (calls : CallTable) (is : IsCallTable program calls) (class member below start : ℕ) (row : MemberRow) (marked : Marked) (result : Option (Option ℕ)) (private_too : Bool) → private_too ≡ false → IsRowAt calls.places.items class member row
    → AreMarked program calls.plain.items calls.instance.items marked → start ≡ start_in marked.spans below
    → ((spans : Spans) → AreNearest spans marked.plain.rows.items marked.plain.nearest.items → IfSome result (IsNearestIn spans marked.plain.rows.items row.name row.desc (start + 1)))
    → IfSome result (IsNearestLike program (tests private_too) class member below)
nearest_plain program calls is class member below start row marked result private_too e at are start_is reported =
    subst (λ (b : Bool). IfSome result (IsNearestLike program (tests b) class member below)) (sym e)
    (nearest_reported program calls is false class member below start row marked.spans marked.plain result at are.spans_are are.plain_are start_is (reported marked.spans are.plain_are.nearest_are))

pub marked_items : (program : Program) (plain instance plain_items instance_items : List MemberRow) (marked : Option Marked) → plain ≡ plain_items → instance ≡ instance_items → IfSome marked (AreMarked program plain instance)
    → IfSome marked (AreMarked program plain_items instance_items)
marked_items program plain instance plain_items instance_items marked first second are =
    subst (λ (rows : List MemberRow). IfSome marked (AreMarked program plain_items rows)) second (subst (λ (rows : List MemberRow). IfSome marked (AreMarked program rows instance)) first are)

-- ---- all methods are placed

pub all_placed : (program : Program) (calls : CallTable) → IsCallTable program calls → (class member : ℕ) → class < length program → member < length (methods_at program class)
    → ((at : ℕ) → IsPlaced calls.places.items class member at → ⊥) → ⊥
all_placed program calls is class member less within none =
    let named = length-map (methods_at program class) method_named in
    let there : IsThere is.rows class member = is.methods.are.methods_are.whole class member less (omega (arith, within, named)) in
    let placed = is.all_places there.row there.within in
    let same : row_at calls.places.items placed.0 ≡ there.row = get_or_default calls.places.items placed.0 nothing there.row placed.1 ∙ placed.2 in
    none placed.0 (record { within = placed.1; class_is = ap (λ (r : MemberRow). r.class) same ∙ there.class_is; place_is = ap (λ (r : MemberRow). r.place) same ∙ there.place_is })

pub first_at : (program : Program) (calls : CallTable) → IsCallTable program calls → (class member at : ℕ) → IsPlaced calls.places.items class member at → IsFirstLike program class member (get_or calls.firsts.items at 0)
first_at program calls is class member at placed =
    let row : MemberRow = row_at calls.places.items at in
    let own = row_placed calls.places.items class member at placed in
    first_like program is.rows is.methods row class member (record { within = is.places row own.within; class_is = placed.class_is; place_is = placed.place_is }) (get_or calls.firsts.items at 0) (is.firsts_are.each at placed.within)
