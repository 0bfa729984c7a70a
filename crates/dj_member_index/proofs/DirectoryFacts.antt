-- Numbers of texts, and the places that rows give, by plain values, each with something that it is not.
use Rattle.std.proofs.Common.{◌≡◌, ℕ, zero, suc, ltb, true, false, List, [], ◌∷◌, map, length, get_or, Some, None, Bor, codes, refl, sym, ap, ◌∙◌, arith}
use Rattle.std.specs.Cmp.Lexicographic.{bytes_decides}
use Rattle.std.proofs.lemmas.Bool.{false≢true}
use Rattle.dj_names.specs.trusted.Types.{Name, same_name}
use Rattle.dj_names.specs.trusted.Library.{int}
use Rattle.dj_names.specs.declared.descriptor.Desc.TheVariants as descs
use Rattle.dj_model.specs.trusted.Types.{no_parameters}
use Rattle.dj_model.specs.trusted.Linking.{is_plain}
use Rattle.dj_member_index.specs.declared.rows.MemberRow.{MemberRow}
use Rattle.dj_member_index.specs.Numberings.{ClassesDiffer, Numbering, number_among, number_of, DeclareFields}
use Rattle.dj_member_index.specs.Calls.{DeclareFirst}
use Rattle.dj_member_index.specs.DirectoryRows.{Named, place_of, Texts, number_in, AreAlike, AreDifferent, AreFirst, HasFirst, IsRepeat, IsThere, RowsDiffer, key_of, IsLeastOrNone}
use Rattle.dj_member_index.proofs.NumberLaws.{bor, number_is}

-- ---- numbers

abbrev numbering : Numbering
numbering = record { program = []; texts = (codes "run", 0) ∷ (codes "()V", 1) ∷ [] }

known : number_of numbering (codes "()V") ≡ Some 1
known = refl

unknown : number_of numbering (codes "ru") ≡ None
unknown = refl

other_name : (a b : Name) → same_name a b ≡ false → a ≡ b → ⊥
other_name a b differ e = false≢true (sym differ ∙ (bytes_decides a b).1 e)

number_by : (texts : Texts) (entries : List (Bor (List ℕ) × ℕ)) (text : List ℕ) → texts.entries ≡ entries → number_in texts text ≡ number_among (map (λ e. (e.0.now, e.1)) entries) text
number_by texts entries text is = sym (number_is texts text) ∙ ap (λ (es : List (Bor (List ℕ) × ℕ)). number_among (map (λ e. (e.0.now, e.1)) es) text) is

-- a number that two texts have
abbrev shared : List (Bor (List ℕ) × ℕ)
shared = (bor (codes "a"), 0) ∷ (bor (codes "b"), 0) ∷ []

shared_is_refused : (texts : Texts) → texts.entries ≡ shared → AreDifferent texts → ⊥
shared_is_refused texts is are = other_name (codes "a") (codes "b") refl (are.different (codes "a") (codes "b") 0 (number_by texts shared (codes "a") is) (number_by texts shared (codes "b") is))

-- a number that is too high
abbrev high : List (Bor (List ℕ) × ℕ)
high = (bor (codes "a"), 1) ∷ []

high_is_refused : (texts : Texts) → texts.entries ≡ high → AreDifferent texts → ⊥
high_is_refused texts is are =
    let lt = are.below (codes "a") 1 (number_by texts high (codes "a") is) in
    let count = ap (λ (es : List (Bor (List ℕ) × ℕ)). length es) is in
    absurd (omega (arith, lt, count))

-- ---- places of members

abbrev members : List Named
members = (codes "run", no_parameters) ∷ (codes "x", descs.Field int) ∷ (codes "x", descs.Field int) ∷ []

first_place : place_of members (codes "x") (descs.Field int) ≡ Some 1
first_place = refl

no_such_desc : place_of members (codes "run") (descs.Field int) ≡ None
no_such_desc = refl

no_such_name : place_of members (codes "ru") no_parameters ≡ None
no_such_name = refl

-- ---- rows

abbrev row : ℕ → ℕ → ℕ → ℕ → MemberRow
row name desc class place = record { name = name; desc = desc; class = class; place = place }

-- the name comes first, and then the descriptor, the class and the place
by_name : ltb (key_of (row 1 9 9 9)) (key_of (row 2 0 0 0)) ≡ true
by_name = refl

by_desc : ltb (key_of (row 1 2 9 9)) (key_of (row 1 3 0 0)) ≡ true
by_desc = refl

by_class : ltb (key_of (row 1 2 3 9)) (key_of (row 1 2 4 0)) ≡ true
by_class = refl

by_place : ltb (key_of (row 1 2 3 4)) (key_of (row 1 2 3 4)) ≡ false
by_place = refl

abbrev rows : List MemberRow
rows = row 1 2 0 0 ∷ row 1 2 0 3 ∷ row 1 2 1 1 ∷ []

the_first_is_reported : IsLeastOrNone rows 1 2 0 (Some 0)
the_first_is_reported = record {
  row = row 1 2 0 0;
  within = (0, omega arith, refl);
  such = record { name_is = refl; desc_is = refl; class_is = refl };
  place_is = refl;
  least = λ other there such. omega arith;
}

the_second_is_not : IsLeastOrNone rows 1 2 0 (Some 3) → ⊥
the_second_is_not reported = let le = reported.least (row 1 2 0 0) (0, omega arith, refl) (record { name_is = refl; desc_is = refl; class_is = refl }) in absurd (omega (arith, le))

something_is_reported : IsLeastOrNone rows 1 2 1 None → ⊥
something_is_reported reported = reported (row 1 2 1 1) (2, omega arith, refl) (record { name_is = refl; desc_is = refl; class_is = refl })

-- rows are alike whatever their places are
alike : AreAlike (row 1 2 0 0) (row 1 2 0 3)
alike = record { name_is = refl; desc_is = refl; class_is = refl }

not_of_other_name : AreAlike (row 1 2 0 0) (row 2 2 0 0) → ⊥
not_of_other_name are = let name = are.name_is in absurd (omega (arith, name))

not_of_other_desc : AreAlike (row 1 2 0 0) (row 1 1 0 0) → ⊥
not_of_other_desc are = let desc = are.desc_is in absurd (omega (arith, desc))

not_of_other_class : AreAlike (row 1 2 0 0) (row 1 2 1 0) → ⊥
not_of_other_class are = let class = are.class_is in absurd (omega (arith, class))

-- the second of the rows repeats the first, which repeats none, as does the third, whose class is another
second_repeats : IsRepeat rows 1
second_repeats = record { some = omega arith; alike = record { name_is = refl; desc_is = refl; class_is = refl } }

first_repeats : IsRepeat rows 0 → ⊥
first_repeats is = let some = is.some in absurd (omega (arith, some))

third_repeats : IsRepeat rows 2 → ⊥
third_repeats is = let class = is.alike.class_is in absurd (omega (arith, class))

-- a row is stood for by an earlier one, and not by a later one
earlier_stands : HasFirst (row 1 2 0 0 ∷ []) (row 1 2 0 3)
earlier_stands = record { first = row 1 2 0 0; within = (0, omega arith, refl); alike = record { name_is = refl; desc_is = refl; class_is = refl }; before = omega arith }

later_stands : HasFirst (row 1 2 0 3 ∷ []) (row 1 2 0 0) → ⊥
later_stands has =
    let at = has.within.0 in
    let lt = has.within.1 in
    let first : at ≡ 0 = omega (arith, lt) in
    let is : row 1 2 0 3 ≡ has.first = ap (λ (k : ℕ). get_or (row 1 2 0 3 ∷ []) k has.first) (sym first) ∙ has.within.2 in
    let place = ap (λ (r : MemberRow). r.place) is in
    let before = has.before in
    absurd (omega (arith, place, before))

-- rows of two classes differ, and those of one class don't
abbrev two : List MemberRow
two = row 1 2 0 0 ∷ row 1 2 1 1 ∷ []

rows_of_two : RowsDiffer two
rows_of_two zero zero d lt within = absurd (omega (arith, lt))
rows_of_two zero (suc zero) d lt within = λ are. let class = are.class_is in absurd (omega (arith, class))
rows_of_two (suc i) (suc zero) d lt within = absurd (omega (arith, lt))
rows_of_two i (suc (suc j)) d lt within = absurd (omega (arith, within))
rows_of_two (suc i) zero d lt within = absurd (omega (arith, lt))

rows_of_one : RowsDiffer rows → ⊥
rows_of_one differ = differ 0 1 (row 1 2 0 0) (omega arith) (omega arith) alike

one_class : ClassesDiffer rows → ⊥
one_class differ = differ 0 1 (row 1 2 0 0) (omega arith) (omega arith) refl

-- a row isn't that of another place
row_at_place : IsThere (row 1 2 0 3 ∷ []) 0 0 → ⊥
row_at_place there =
    let at = there.within.0 in
    let lt = there.within.1 in
    let first : at ≡ 0 = omega (arith, lt) in
    let is : row 1 2 0 3 ≡ there.row = ap (λ (k : ℕ). get_or (row 1 2 0 3 ∷ []) k there.row) (sym first) ∙ there.within.2 in
    let place = ap (λ (r : MemberRow). r.place) is ∙ there.place_is in
    absurd (omega (arith, place))

-- a row that repeats another isn't a first one
repeat_is_refused : AreFirst rows rows → ⊥
repeat_is_refused are = are.once 0 1 (row 1 2 0 0) (omega arith) (omega arith) (record { name_is = refl; desc_is = refl; class_is = refl })

-- nor may one be left out that repeats none
lost_is_refused : AreFirst rows (row 1 2 0 0 ∷ []) → ⊥
lost_is_refused are =
    let has = are.each (row 1 2 1 1) (2, omega arith, refl) in
    let at = has.within.0 in
    let lt = has.within.1 in
    let first : at ≡ 0 = omega (arith, lt) in
    let is : row 1 2 0 0 ≡ has.first = ap (λ (k : ℕ). get_or (row 1 2 0 0 ∷ []) k has.first) (sym first) ∙ has.within.2 in
    let class = ap (λ (r : MemberRow). r.class) is ∙ has.alike.class_is in
    absurd (omega (arith, class))

-- ---- rows of classes

abbrev one_row : List MemberRow
one_row = row 1 2 0 0 ∷ []

-- a row of a class that declares no such field
no_such_field : DeclareFields [] (codes "x") (descs.Field int) one_row → ⊥
no_such_field declare = declare.each (row 1 2 0 0) (0, omega arith, refl) refl

-- a row of a class that isn't there
no_such_class : DeclareFirst [] is_plain (codes "run") no_parameters one_row → ⊥
no_such_class declare = let lt = declare.there (row 1 2 0 0) (0, omega arith, refl) in absurd (omega (arith, lt))
