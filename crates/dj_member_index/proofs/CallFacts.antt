-- What a call may take, and what the table answers it, by plain values, each with something that it is not: the classes A, B and C of SpanFacts.
use Rattle.std.proofs.Common.{◌≡◌, ℕ, zero, suc, ◌+◌, ◌<◌, ◌≤◌, Bool, true, false, List, [], ◌∷◌, map, length, get_or, Contains, Option, Some, None, IfSome, codes, refl, sym, ap, subst, arith}
use Rattle.std.specs.Prelude.{slice_get}
use Rattle.std.specs.List.Sorted.{IsNonDecreasingBy}
use Rattle.std.proofs.lemmas.Bool.{false≢true}
use Rattle.std.proofs.lemmas.List.Sorted.{IsNonDecreasingBy-short}
use Rattle.std.proofs.lemmas.Option.{none-some, same_Some}
use Rattle.dj_model.specs.trusted.Types.{no_parameters}
use Rattle.dj_model.specs.trusted.Program.{Program, Method}
use Rattle.dj_model.specs.trusted.Linking.{is_plain, is_not_static}
use Rattle.dj_declarations.specs.Members.{method_place}
use Rattle.dj_class_table.specs.Tables.{methods_at, super_number}
use Rattle.dj_member_index.specs.declared.rows.MemberRow.{MemberRow}
use Rattle.dj_member_index.specs.declared.calls.CallTable.{CallTable}
use Rattle.dj_member_index.specs.declared.calls.Marked.{Marked}
use Rattle.dj_member_index.specs.Numberings.{ClassesDiffer}
use Rattle.dj_member_index.specs.DirectoryRows.{AreInOrder, AreFirst, Fits, IsLeast, IsSuch, StandFrom, Texts, key_of}
use Rattle.dj_member_index.specs.Spans.{StartsFrom}
use Rattle.dj_member_index.specs.Calls.{takes, tests, passes, IsWhether, IsFirstOf, DeclareFirst, DeclareLike, DeclaresLike, IsNearestFirst, IsNearestLike, place_key, AreMarked, AreMethods, IsTakable, AreTakable, IsFirstLike, IsPlaced, ArePlaces, AreFirsts, IsRowAt, IsCallTable}
use Rattle.dj_member_index.proofs.NumberLaws.{none_different}
use Rattle.dj_member_index.proofs.SpanFacts.{entered, left, method, program, row, rows}

-- ---- which methods a call may take

-- public, private, static, and private and static
taken : map (takes true) (1 ∷ 2 ∷ 8 ∷ 10 ∷ []) ≡ true ∷ true ∷ false ∷ false ∷ []
taken = refl

taken_plain : map (takes false) (1 ∷ 2 ∷ 8 ∷ 10 ∷ []) ≡ true ∷ false ∷ false ∷ false ∷ []
taken_plain = refl

no_private : takes false 2 ≡ true → ⊥
no_private e = false≢true e

tested : map (λ (b : Bool). tests b (method 2 (codes "n"))) (true ∷ false ∷ []) ≡ true ∷ false ∷ []
tested = refl

passed : map (passes is_plain) (Some (method 1 (codes "m")) ∷ Some (method 9 (codes "m")) ∷ None ∷ []) ≡ true ∷ false ∷ false ∷ []
passed = refl

abbrev Same : ℕ → ℕ → Type 0
Same one other = one ≡ other

whether : IsWhether (Same 0 0) true × IsWhether (Same 0 1) false
whether = (refl, λ e. absurd (omega (arith, e)))

not_so : IsWhether (Same 0 1) true → ⊥
not_so e = absurd (omega (arith, e))

not_otherwise : IsWhether (Same 0 0) false → ⊥
not_otherwise apart = apart refl

-- ---- the first method of a class

abbrev IsFirst : ℕ → ℕ → Type 0
IsFirst class place = IsFirstOf program is_plain (codes "m") no_parameters class place

first_of_a : IsFirst 0 0
first_of_a = record { first = refl; passed = refl }

first_of_b : IsFirst 1 1
first_of_b = record { first = refl; passed = refl }

second_of_b : IsFirst 1 2 → ⊥
second_of_b is = let e : 1 ≡ 2 = same_Some 1 2 is.first in absurd (omega (arith, e))

-- the one of C is static
none_of_c : (place : ℕ) → IsFirst 2 place → ⊥
none_of_c place is =
    let at : 0 ≡ place = same_Some 0 place is.first in
    let reported : passes is_plain (slice_get (methods_at program 2) 0) ≡ true = subst (λ (p : ℕ). passes is_plain (slice_get (methods_at program 2) p) ≡ true) (sym at) is.passed in
    false≢true reported

private_of_b : IsFirstOf program is_not_static (codes "n") no_parameters 1 0
private_of_b = record { first = refl; passed = refl }

no_private_of_b : IsFirstOf program is_plain (codes "n") no_parameters 1 0 → ⊥
no_private_of_b is = false≢true is.passed

-- ---- the classes whose first method may be taken

declare : DeclareFirst program is_plain (codes "m") no_parameters rows
declare = record { there = λ r there. at there.0 r there.1 there.2; each = λ r there. each_at there.0 r there.1 there.2; all = all } where
  at : (k : ℕ) (r : MemberRow) → k < 2 → get_or rows k r ≡ r → r.class < 3
  at zero r lt is = subst (λ (x : MemberRow). x.class < 3) is (omega arith)
  at (suc zero) r lt is = subst (λ (x : MemberRow). x.class < 3) is (omega arith)
  at (suc (suc k)) r lt is = absurd (omega (arith, lt))

  each_at : (k : ℕ) (r : MemberRow) → k < 2 → get_or rows k r ≡ r → IsFirst r.class r.place
  each_at zero r lt is = subst (λ (x : MemberRow). IsFirst x.class x.place) is first_of_a
  each_at (suc zero) r lt is = subst (λ (x : MemberRow). IsFirst x.class x.place) is first_of_b
  each_at (suc (suc k)) r lt is = absurd (omega (arith, lt))

  all : (class place : ℕ) → class < 3 → IsFirst class place → ((r : MemberRow) → Contains rows r → r.class ≡ class → ⊥) → ⊥
  all zero place lt is none = none (row 7 8 0 0) (0, omega arith, refl) refl
  all (suc zero) place lt is none = none (row 7 8 1 1) (1, omega arith, refl) refl
  all (suc (suc zero)) place lt is none = none_of_c place is
  all (suc (suc (suc k))) place lt is none = absurd (omega (arith, lt))

abbrev only_a : List MemberRow
only_a = row 7 8 0 0 ∷ []

in_only_a : (r : MemberRow) → Contains only_a r → row 7 8 0 0 ≡ r
in_only_a r there = go there.0 there.1 there.2 where
  go : (k : ℕ) → k < 1 → get_or only_a k r ≡ r → row 7 8 0 0 ≡ r
  go zero lt is = is
  go (suc k) lt is = absurd (omega (arith, lt))

b_left_out : DeclareFirst program is_plain (codes "m") no_parameters only_a → ⊥
b_left_out declared = declared.all 1 1 (omega arith) first_of_b (λ r there is. let class : 0 ≡ r.class = ap (λ (x : MemberRow). x.class) (in_only_a r there) in absurd (omega (arith, class, is)))

c_let_in : DeclareFirst program is_plain (codes "m") no_parameters (row 7 8 2 0 ∷ []) → ⊥
c_let_in declared = none_of_c 0 (declared.each (row 7 8 2 0) (0, omega arith, refl))

-- the same for the method at a place
declare_like : DeclareLike program is_plain 1 1 rows
declare_like m at = subst (λ (x : Method). DeclareFirst program is_plain x.name x.desc rows) (same_Some (method 1 (codes "m")) m at) declare

-- the one at place 0 of B is n
not_like_n : DeclareLike program is_plain 1 0 rows → ⊥
not_like_n like = let declared = like (method 2 (codes "n")) refl in none-some 0 ((declared.each (row 7 8 0 0) (0, omega arith, refl)).first)

declares_like : DeclaresLike program is_plain 1 1 0 0
declares_like m at = subst (λ (x : Method). IsFirstOf program is_plain x.name x.desc 0 0) (same_Some (method 1 (codes "m")) m at) first_of_a

c_declares_none : DeclaresLike program is_plain 1 1 2 0 → ⊥
c_declares_none like = none_of_c 0 (like (method 1 (codes "m")) refl)

-- ---- the nearest one

abbrev IsNear : ℕ → Option ℕ → Type 0
IsNear class near = IsNearestFirst program is_plain (codes "m") no_parameters class near

abbrev start : ℕ → ℕ
start k = get_or entered k 0

abbrev stop : ℕ → ℕ
stop k = get_or left k 0

walk_some : (k : ℕ) → k < 3 → start k < stop k
walk_some zero lt = omega arith
walk_some (suc zero) lt = omega arith
walk_some (suc (suc zero)) lt = omega arith
walk_some (suc (suc (suc k))) lt = absurd (omega (arith, lt))

walk_nested : (k above : ℕ) → k < 3 → super_number program k ≡ Some above → (start above < start k) × (stop k ≤ stop above)
walk_nested zero above lt is = absurd (none-some above is)
walk_nested (suc zero) above lt is = subst (λ (a : ℕ). (start a < start 1) × (stop 1 ≤ stop a)) (same_Some 0 above is) (omega arith, omega arith)
walk_nested (suc (suc zero)) above lt is = subst (λ (a : ℕ). (start a < start 2) × (stop 2 ≤ stop a)) (same_Some 0 above is) (omega arith, omega arith)
walk_nested (suc (suc (suc k))) above lt is = absurd (omega (arith, lt))

-- for B itself B is
b_is_nearest : IsNear 1 (Some 1)
b_is_nearest = record { start = start; stop = stop; some = walk_some; nested = walk_nested; covered = covered } where
  covered : (k place : ℕ) → k < 3 → IsFirst k place → start k ≤ start 1 → start 1 < stop k → StartsFrom start (Some 1) (start k)
  covered k place lt is before lasts = before

-- for C A is, and B, which stands beside it, needn't be looked at
a_is_nearest : IsNear 2 (Some 0)
a_is_nearest = record { start = start; stop = stop; some = walk_some; nested = walk_nested; covered = covered } where
  covered : (k place : ℕ) → k < 3 → IsFirst k place → start k ≤ start 2 → start 2 < stop k → StartsFrom start (Some 0) (start k)
  covered zero place lt is before lasts = omega arith
  covered (suc zero) place lt is before lasts = absurd (omega (arith, before))
  covered (suc (suc zero)) place lt is before lasts = absurd (none_of_c place is)
  covered (suc (suc (suc k))) place lt is before lasts = absurd (omega (arith, lt))

-- for B neither A is, the higher of two, nor none
higher_is_not : IsNear 1 (Some 0) → ⊥
higher_is_not near =
    let some = near.some 1 (omega arith) in
    let inside = (near.nested 1 0 (omega arith) refl).0 in
    let le : near.start 1 ≤ near.start 0 = near.covered 1 1 (omega arith) first_of_b (omega arith) some in
    absurd (omega (arith, inside, le))

none_is_not : IsNear 1 None → ⊥
none_is_not near = near.covered 1 1 (omega arith) first_of_b (omega arith) (near.some 1 (omega arith))

-- nor is none for C, since A is above it
none_for_c : IsNear 2 None → ⊥
none_for_c near =
    let some = near.some 2 (omega arith) in
    let inside = near.nested 2 0 (omega arith) refl in
    let before = inside.0 in
    let within = inside.1 in
    near.covered 0 0 (omega arith) first_of_a (omega (arith, before)) (omega (arith, some, within))

near_like : IsNearestLike program is_plain 0 0 1 (Some 1)
near_like m at = subst (λ (x : Method). IsNearestFirst program is_plain x.name x.desc 1 (Some 1)) (same_Some (method 1 (codes "m")) m at) b_is_nearest

higher_like : IsNearestLike program is_plain 0 0 1 (Some 0) → ⊥
higher_like like = higher_is_not (like (method 1 (codes "m")) refl)

-- ---- rows

-- the class comes first
keys : (place_key (row 7 8 1 2) ≡ 4294967298) × (place_key (row 9 9 0 5) < place_key (row 7 8 1 2))
keys = (refl, omega arith)

not_by_place : place_key (row 7 8 1 0) ≤ place_key (row 7 8 0 1) → ⊥
not_by_place le = absurd (omega (arith, le))

row_at : IsRowAt rows 1 1 (row 7 8 1 1)
row_at = record { within = (1, omega arith, refl); class_is = refl; place_is = refl }

other_place : IsRowAt rows 1 0 (row 7 8 1 1) → ⊥
other_place is = let e : 1 ≡ 0 = is.place_is in absurd (omega (arith, e))

placed : IsPlaced rows 1 1 1
placed = record { within = omega arith; class_is = refl; place_is = refl }

placed_past : IsPlaced rows 0 0 2 → ⊥
placed_past is = let lt = is.within in absurd (omega (arith, lt))

placed_in_another : IsPlaced rows 0 1 1 → ⊥
placed_in_another is = let e : 1 ≡ 0 = is.class_is in absurd (omega (arith, e))

placed_elsewhere : IsPlaced rows 1 0 1 → ⊥
placed_elsewhere is = let e : 1 ≡ 0 = is.place_is in absurd (omega (arith, e))

none_placed : ArePlaces []
none_placed = record { fit = λ i d lt. absurd (omega (arith, lt)); ascend = IsNonDecreasingBy-short place_key [] (omega arith) }

one_placed : ArePlaces only_a
one_placed = record {
  fit = λ i d lt. one_fits i d lt;
  ascend = IsNonDecreasingBy-short place_key only_a (omega arith);
} where
  one_fits : (i : ℕ) (d : MemberRow) → i < 1 → Fits (get_or only_a i d)
  one_fits zero d lt = record { desc = omega arith; class = omega arith; place = omega arith }
  one_fits (suc i) d lt = absurd (omega (arith, lt))

not_by_places : ArePlaces (row 7 8 0 1 ∷ row 7 8 0 0 ∷ []) → ⊥
not_by_places are = let le = are.ascend 0 1 (row 0 0 0 0) (omega arith) (omega arith) in absurd (omega (arith, le))

-- a number of more than 32 bits
not_fitting : ArePlaces (row 7 8 0 4294967296 ∷ []) → ⊥
not_fitting are = let lt = (are.fit 0 (row 0 0 0 0) (omega arith)).place in absurd (omega (arith, lt))

-- the first method with the name and the descriptor of one of B: m stands at 1 and 2 there
first_like : IsFirstLike program 1 1 1 × IsFirstLike program 1 2 1
first_like = (
  λ m at. ap (λ (x : Method). method_place (methods_at program 1) x.name x.desc) (sym (same_Some (method 1 (codes "m")) m at)),
  λ m at. ap (λ (x : Method). method_place (methods_at program 1) x.name x.desc) (sym (same_Some (method 1 (codes "m")) m at)),
)

not_itself : IsFirstLike program 1 2 2 → ⊥
not_itself like = let e : 1 ≡ 2 = same_Some 1 2 (like (method 1 (codes "m")) refl) in absurd (omega (arith, e))

not_of_another_name : IsFirstLike program 1 1 0 → ⊥
not_of_another_name like = let e : 1 ≡ 0 = same_Some 1 0 (like (method 1 (codes "m")) refl) in absurd (omega (arith, e))

-- the least places of rows of the same class and numbers: those of the rows 0, 1 and 2 of a class
abbrev three : List MemberRow
three = row 7 8 0 0 ∷ row 7 8 0 1 ∷ row 7 9 0 2 ∷ []

firsts : AreFirsts three three (0 ∷ 0 ∷ 2 ∷ [])
firsts = record { long = refl; each = each } where
  least : (r : MemberRow) → Contains three r → IsSuch 7 9 0 r → 2 ≤ r.place
  least r there such = go there.0 there.1 there.2 where
    go : (k : ℕ) → k < 3 → get_or three k r ≡ r → 2 ≤ r.place
    go zero lt is = let desc : 8 ≡ r.desc = ap (λ (x : MemberRow). x.desc) is in let own = such.desc_is in absurd (omega (arith, desc, own))
    go (suc zero) lt is = let desc : 8 ≡ r.desc = ap (λ (x : MemberRow). x.desc) is in let own = such.desc_is in absurd (omega (arith, desc, own))
    go (suc (suc zero)) lt is = let place : 2 ≡ r.place = ap (λ (x : MemberRow). x.place) is in omega (arith, place)
    go (suc (suc (suc k))) lt is = absurd (omega (arith, lt))

  each : (at : ℕ) → at < 3 → IsLeast three (get_or three at (row 0 0 0 0)).name (get_or three at (row 0 0 0 0)).desc (get_or three at (row 0 0 0 0)).class (get_or (0 ∷ 0 ∷ 2 ∷ []) at 0)
  each zero lt = record { row = row 7 8 0 0; within = (0, omega arith, refl); such = record { name_is = refl; desc_is = refl; class_is = refl }; place_is = refl; least = λ r there such. omega arith }
  each (suc zero) lt = record { row = row 7 8 0 0; within = (0, omega arith, refl); such = record { name_is = refl; desc_is = refl; class_is = refl }; place_is = refl; least = λ r there such. omega arith }
  each (suc (suc zero)) lt = record { row = row 7 9 0 2; within = (2, omega arith, refl); such = record { name_is = refl; desc_is = refl; class_is = refl }; place_is = refl; least = least }
  each (suc (suc (suc at))) lt = absurd (omega (arith, lt))

-- a later one isn't the first
later_given : AreFirsts three three (0 ∷ 1 ∷ 2 ∷ []) → ⊥
later_given are = let le = (are.each 1 (omega arith)).least (row 7 8 0 0) (0, omega arith, refl) (record { name_is = refl; desc_is = refl; class_is = refl }) in absurd (omega (arith, le))

-- nor one of another descriptor
other_given : AreFirsts three three (0 ∷ 0 ∷ 0 ∷ []) → ⊥
other_given are =
    let it = are.each 2 (omega arith) in
    go it.row it.within.0 it.within.1 it.within.2 it.such it.place_is where
      go : (r : MemberRow) (k : ℕ) → k < 3 → get_or three k r ≡ r → IsSuch 7 9 0 r → r.place ≡ 0 → ⊥
      go r zero lt is such at = let desc : 8 ≡ r.desc = ap (λ (x : MemberRow). x.desc) is in let own = such.desc_is in absurd (omega (arith, desc, own))
      go r (suc zero) lt is such at = let desc : 8 ≡ r.desc = ap (λ (x : MemberRow). x.desc) is in let own = such.desc_is in absurd (omega (arith, desc, own))
      go r (suc (suc zero)) lt is such at = let place : 2 ≡ r.place = ap (λ (x : MemberRow). x.place) is in absurd (omega (arith, place, at))
      go r (suc (suc (suc k))) lt is such at = absurd (omega (arith, lt))

one_left_out : AreFirsts three three (0 ∷ 0 ∷ []) → ⊥
one_left_out are = let e : 2 ≡ 3 = are.long in absurd (omega (arith, e))

not_there : IsRowAt only_a 1 1 (row 7 8 1 1) → ⊥
not_there is = let class : 0 ≡ 1 = ap (λ (x : MemberRow). x.class) (in_only_a (row 7 8 1 1) is.within) in absurd (omega (arith, class))

-- of all methods: n has the number 6 and m the number 7
abbrev all_rows : List MemberRow
all_rows = row 6 8 1 0 ∷ row 7 8 0 0 ∷ row 7 8 1 1 ∷ row 7 8 1 2 ∷ row 7 8 2 0 ∷ []

abbrev IsTaken : MemberRow → Type 0
IsTaken r = IsTakable program is_plain all_rows r

abbrev IsAfter : ℕ → ℕ → MemberRow → Type 0
IsAfter class place other = IsSuch 7 8 class other → place ≤ other.place

a_is_taken : IsTaken (row 7 8 0 0)
a_is_taken = record {
  first = record { row = row 7 8 0 0; within = (1, omega arith, refl); such = record { name_is = refl; desc_is = refl; class_is = refl }; place_is = refl; least = λ other there such. omega arith };
  passed = refl;
}

b_is_taken : IsTaken (row 7 8 1 1)
b_is_taken = record {
  first = record {
    row = row 7 8 1 1;
    within = (2, omega arith, refl);
    such = record { name_is = refl; desc_is = refl; class_is = refl };
    place_is = refl;
    least = λ other there such. least there.0 other there.1 there.2 such;
  };
  passed = refl;
} where
  least : (k : ℕ) (other : MemberRow) → k < 5 → get_or all_rows k other ≡ other → IsAfter 1 1 other
  least zero other lt is = subst (IsAfter 1 1) is (λ such. let e : 6 ≡ 7 = such.name_is in absurd (omega (arith, e)))
  least (suc zero) other lt is = subst (IsAfter 1 1) is (λ such. let e : 0 ≡ 1 = such.class_is in absurd (omega (arith, e)))
  least (suc (suc zero)) other lt is = subst (IsAfter 1 1) is (λ such. omega arith)
  least (suc (suc (suc zero))) other lt is = subst (IsAfter 1 1) is (λ such. omega arith)
  least (suc (suc (suc (suc zero)))) other lt is = subst (IsAfter 1 1) is (λ such. let e : 2 ≡ 1 = such.class_is in absurd (omega (arith, e)))
  least (suc (suc (suc (suc (suc k))))) other lt is = absurd (omega (arith, lt))

second_is_not : IsTaken (row 7 8 1 2) → ⊥
second_is_not is = let le = is.first.least (row 7 8 1 1) (2, omega arith, refl) (record { name_is = refl; desc_is = refl; class_is = refl }) in absurd (omega (arith, le))

private_is_not : IsTaken (row 6 8 1 0) → ⊥
private_is_not is = false≢true is.passed

static_is_not : IsTaken (row 7 8 2 0) → ⊥
static_is_not is = false≢true is.passed

abbrev AreTaken : List MemberRow → Type 0
AreTaken found = AreTakable program is_plain all_rows found

order : AreInOrder rows
order = record { fit = fit; ascend = ascend } where
  fit : (k : ℕ) (d : MemberRow) → k < 2 → Fits (get_or rows k d)
  fit zero d lt = record { desc = omega arith; class = omega arith; place = omega arith }
  fit (suc zero) d lt = record { desc = omega arith; class = omega arith; place = omega arith }
  fit (suc (suc k)) d lt = absurd (omega (arith, lt))

  ascend : IsNonDecreasingBy key_of rows
  ascend zero zero d le lt = omega arith
  ascend zero (suc zero) d le lt = omega arith
  ascend (suc i) zero d le lt = absurd (omega (arith, le))
  ascend (suc zero) (suc zero) d le lt = omega arith
  ascend (suc (suc i)) (suc zero) d le lt = absurd (omega (arith, le))
  ascend i (suc (suc j)) d le lt = absurd (omega (arith, lt))

takable : AreTaken rows
takable = record { each = λ r there. each_at there.0 r there.1 there.2; all = λ r there is. all_at there.0 r there.1 there.2 is; order = order } where
  each_at : (k : ℕ) (r : MemberRow) → k < 2 → get_or rows k r ≡ r → Contains all_rows r × IsTaken r
  each_at zero r lt is = subst (λ (x : MemberRow). Contains all_rows x × IsTaken x) is ((1, omega arith, refl), a_is_taken)
  each_at (suc zero) r lt is = subst (λ (x : MemberRow). Contains all_rows x × IsTaken x) is ((2, omega arith, refl), b_is_taken)
  each_at (suc (suc k)) r lt is = absurd (omega (arith, lt))

  all_at : (k : ℕ) (r : MemberRow) → k < 5 → get_or all_rows k r ≡ r → IsTaken r → Contains rows r
  all_at zero r lt is = subst (λ (x : MemberRow). IsTaken x → Contains rows x) is (λ own. absurd (private_is_not own))
  all_at (suc zero) r lt is = subst (λ (x : MemberRow). IsTaken x → Contains rows x) is (λ own. (0, omega arith, refl))
  all_at (suc (suc zero)) r lt is = subst (λ (x : MemberRow). IsTaken x → Contains rows x) is (λ own. (1, omega arith, refl))
  all_at (suc (suc (suc zero))) r lt is = subst (λ (x : MemberRow). IsTaken x → Contains rows x) is (λ own. absurd (second_is_not own))
  all_at (suc (suc (suc (suc zero)))) r lt is = subst (λ (x : MemberRow). IsTaken x → Contains rows x) is (λ own. absurd (static_is_not own))
  all_at (suc (suc (suc (suc (suc k))))) r lt is = absurd (omega (arith, lt))

b_not_taken : AreTaken only_a → ⊥
b_not_taken are = let class : 0 ≡ 1 = ap (λ (x : MemberRow). x.class) (in_only_a (row 7 8 1 1) (are.all (row 7 8 1 1) (2, omega arith, refl) b_is_taken)) in absurd (omega (arith, class))

all_taken : AreTaken all_rows → ⊥
all_taken are = second_is_not (are.each (row 7 8 1 2) (3, omega arith, refl)).1

-- ---- each class once

once : ClassesDiffer rows
once zero zero d before lt = absurd (omega (arith, before))
once zero (suc zero) d before lt = λ e. absurd (omega (arith, e))
once (suc i) zero d before lt = absurd (omega (arith, before))
once (suc i) (suc zero) d before lt = absurd (omega (arith, before))
once i (suc (suc j)) d before lt = absurd (omega (arith, lt))

twice : ClassesDiffer all_rows → ⊥
twice differ = differ 2 3 (row 0 0 0 0) (omega arith) (omega arith) refl

stand : StandFrom all_rows 1 rows
stand = record { within = omega arith; same = same } where
  same : (k : ℕ) (d : MemberRow) → k < 2 → get_or rows k d ≡ get_or all_rows (1 + k) d
  same zero d lt = refl
  same (suc zero) d lt = refl
  same (suc (suc k)) d lt = absurd (omega (arith, lt))

stand_elsewhere : StandFrom all_rows 0 rows → ⊥
stand_elsewhere is = let name : 7 ≡ 6 = ap (λ (x : MemberRow). x.name) (is.same 0 (row 0 0 0 0) (omega arith)) in absurd (omega (arith, name))

-- ---- the rows of all methods, and what is kept of them

abbrev no_rows : List MemberRow
no_rows = []

none_there : (r : MemberRow) → Contains no_rows r → ⊥
none_there r there = let lt = there.1 in absurd (omega (arith, lt))

none_in_order : AreInOrder []
none_in_order = record { fit = λ k d lt. absurd (omega (arith, lt)); ascend = IsNonDecreasingBy-short key_of [] (omega arith) }

none_first : AreFirst [] []
none_first = record { order = none_in_order; within = λ r there. there; each = λ r there. absurd (none_there r there); once = λ i j d before lt. absurd (omega (arith, lt)) }

no_methods : (texts : Texts) → texts.entries ≡ [] → AreMethods [] []
no_methods texts empty = record {
  texts = texts;
  fields = [];
  first_methods = [];
  first_fields = [];
  are = record {
    different = none_different texts empty;
    methods_are = record { each = λ k d lt. absurd (omega (arith, lt)); whole = λ k p lt. absurd (omega (arith, lt)); order = none_in_order };
    fields_are = record { each = λ k d lt. absurd (omega (arith, lt)); whole = λ k p lt. absurd (omega (arith, lt)); order = none_in_order };
    first_methods_are = none_first;
    first_fields_are = none_first;
  };
}

-- a method without a row
lost_method : AreMethods program [] → ⊥
lost_method are = let there = are.are.methods_are.whole 0 0 (omega arith) (omega arith) in none_there there.row there.within

-- a row without a method
other_method : AreMethods [] only_a → ⊥
other_method are = let is = are.are.methods_are.each 0 (row 7 8 0 0) (omega arith) in none-some (is.name, is.desc) is.there

none_taken : (test : Method → Bool) → AreTakable [] test [] []
none_taken test = record { each = λ r there. absurd (none_there r there); all = λ r there is. there; order = none_in_order }

no_calls : (texts : Texts) (calls : CallTable) → texts.entries ≡ [] → calls.places.items ≡ [] → calls.firsts.items ≡ [] → calls.plain.items ≡ [] → calls.instance.items ≡ [] → calls.marked ≡ None → IsCallTable [] calls
no_calls texts calls empty places_is firsts_is plain_is instance_is marked_is = record {
  rows = [];
  methods = no_methods texts empty;
  places = λ r there. subst (λ (rs : List MemberRow). Contains rs r) places_is there;
  all_places = λ r there. absurd (none_there r there);
  ordered = subst ArePlaces (sym places_is) none_placed;
  firsts_are = subst (λ (rs : List MemberRow). AreFirsts [] rs calls.firsts.items) (sym places_is) (record { long = ap length firsts_is; each = λ at lt. absurd (omega (arith, lt)) });
  plain = subst (AreTakable [] is_plain []) (sym plain_is) (none_taken is_plain);
  instance = subst (AreTakable [] is_not_static []) (sym instance_is) (none_taken is_not_static);
  marked = subst (λ (o : Option Marked). IfSome o (AreMarked [] calls.plain.items calls.instance.items)) (sym marked_is) tt;
}

-- a method that has no place
lost_place : (calls : CallTable) → calls.places.items ≡ [] → IsCallTable program calls → ⊥
lost_place calls none is =
    let there = is.methods.are.methods_are.whole 0 0 (omega arith) (omega arith) in
    none_there there.row (subst (λ (rs : List MemberRow). Contains rs there.row) none (is.all_places there.row there.within))

-- places of a class after those of a later one
out_of_order : (p : Program) (calls : CallTable) → calls.places.items ≡ row 7 8 1 1 ∷ row 7 8 0 0 ∷ [] → IsCallTable p calls → ⊥
out_of_order p calls are is = let le = subst (IsNonDecreasingBy place_key) are is.ordered.ascend 0 1 (row 0 0 0 0) (omega arith) (omega arith) in absurd (omega (arith, le))
