-- The nearest class that declares a method is the one of the highest rank.
use Rattle.std.proofs.Common.{◌≡◌, ℕ, zero, suc, ◌+◌, ◌<◌, ◌≤◌, Bool, true, false, List, [], ◌∷◌, length, get_or, Option, Some, None, IfSome, ltb, refl, sym, ◌∙◌, ap, subst, inl, inr, ◌⊎◌, arith, if◌then◌else◌}
use Rattle.std.specs.Option.{option_map}
use Rattle.std.proofs.lemmas.Bool.{cases_lt, false≢true, ltb-true, ltb-false}
use Rattle.std.proofs.lemmas.List.{get_or_default}
use Rattle.std.proofs.lemmas.Option.{none-some}
use Rattle.dj_names.specs.declared.descriptor.Desc.{Desc}
use Rattle.dj_names.specs.trusted.Types.{Name}
use Rattle.dj_model.specs.trusted.Program.{Program}
use Rattle.dj_model.specs.trusted.Linking.{any_method, most_classes, or_else, FoundMethod}
use Rattle.dj_model.proofs.MappedNames.{either}
use Rattle.dj_declarations.specs.Members.{method_place}
use Rattle.dj_class_table.specs.Tables.{methods_at, method_there, super_number}
use Rattle.dj_member_index.specs.declared.rows.MemberRow.{MemberRow}
use Rattle.dj_member_index.specs.Numberings.{DeclareMethods}
use Rattle.dj_resolution.specs.declared.nearest.Near.{Near}
use Rattle.dj_resolution.specs.Nearest.{IsNear, IsNearest, nearer}
use Rattle.dj_resolution.specs.Numbers.{first_some, has, method_found, numbers_up}
use Rattle.dj_resolution.specs.Ranked.{AreRanks, HasRow, rank_in}
use Rattle.dj_resolution.proofs.Chained.{up_within}
use Rattle.dj_resolution.proofs.Finding.{reported_none}
use Rattle.dj_resolution.proofs.Lists.{has_cases, has_more, has_self}
use Rattle.dj_resolution.proofs.Numbered.{method_reported, no_method_reported}

-- ---- the first of classes whose ranks fall

or_first : {A : Type 0} (a b : Option A) → (a ≡ None → ⊥) → or_else a b ≡ a
or_first None b some = absurd (some refl)
or_first (Some x) b some = refl

or_next : {A : Type 0} (a b : Option A) → a ≡ None → or_else a b ≡ b
or_next None b none = refl
or_next (Some x) b none = absurd (none-some x (sym none))

pub none_found : {A : Type 0} (f : ℕ → Option A) (xs : List ℕ) → ((z : ℕ) → has xs z ≡ true → f z ≡ None) → first_some f xs ≡ None
none_found f [] none = refl
none_found f (x ∷ xs) none = or_next (f x) (first_some f xs) (none x (has_self xs x)) ∙ none_found f xs (λ z there. none z (has_more xs x z there))

pub none_or : {A : Type 0} (o : Option A) → ((o ≡ None → ⊥) → ⊥) → o ≡ None
none_or None wrong = refl
none_or (Some x) wrong = absurd (wrong (λ e. none-some x (sym e)))

-- numbers of classes, of those that have one, fall from a class to its superclass
module _ (A : Type 0) (f : ℕ → Option A) (program : Program) (Has : ℕ → Type 0) (rank : ℕ → ℕ) (falls : (k j : ℕ) → Has k → super_number program k ≡ Some j → Has j × (rank j < rank k)) where
  abbrev IsLower : ℕ → ℕ → Type 0
  IsLower bound k = Has k × (rank k < bound)

  next_lower : (k : ℕ) → Has k → (o : Option ℕ) → super_number program k ≡ o → IfSome o (IsLower (rank k))
  next_lower k have None is = tt
  next_lower k have (Some j) is = falls k j have is

  weaker : (o : Option ℕ) (low high : ℕ) → low ≤ high → IfSome o (IsLower low) → IfSome o (IsLower high)
  weaker None low high le is = tt
  weaker (Some k) low high le is = (is.0, (let lt = is.1 in omega (arith, le, lt)))

  -- the numbers of those above are below
  lower : (n : ℕ) (o : Option ℕ) (bound z : ℕ) → IfSome o (IsLower bound) → has (numbers_up n program o) z ≡ true → rank z < bound
  unfolding numbers_up
  lower zero o bound z is there = absurd (false≢true there)
  lower (suc n) None bound z is there = absurd (false≢true there)
  lower (suc n) (Some k) bound z is there = elim (has_cases (numbers_up n program (super_number program k)) k z there) [
    | inl e ↦ subst (λ (j : ℕ). rank j < bound) e is.1
    | inr h ↦ lower n (super_number program k) bound z (weaker (super_number program k) (rank k) bound (let lt = is.1 in omega (arith, lt)) (next_lower k is.0 (super_number program k) refl)) h
  ]

  known : (o : Option ℕ) (bound : ℕ) → IfSome o (IsLower bound) → IfSome o Has
  known None bound is = tt
  known (Some k) bound is = is.0

  pub first_near : (n : ℕ) (o : Option ℕ) (m : ℕ) → IfSome o Has → has (numbers_up n program o) m ≡ true → (f m ≡ None → ⊥) → ((z : ℕ) → has (numbers_up n program o) z ≡ true → (f z ≡ None → ⊥) → rank z ≤ rank m)
      → first_some f (numbers_up n program o) ≡ f m
  unfolding numbers_up
  first_near zero o m have there some greatest = absurd (false≢true there)
  first_near (suc n) None m have there some greatest = absurd (false≢true there)
  first_near (suc n) (Some k) m have there some greatest =
      let rest : List ℕ = numbers_up n program (super_number program k) in
      elim (has_cases rest k m there) [
        | inl e ↦ ap (λ (j : ℕ). or_else (f j) (first_some f rest)) e ∙ or_first (f m) (first_some f rest) some
        | inr h ↦
            (let below = lower n (super_number program k) (rank k) m (next_lower k have (super_number program k) refl) h in
            let none : f k ≡ None = none_or (f k) (λ own. let le = greatest k (has_self rest k) own in absurd (omega (arith, le, below))) in
            or_next (f k) (first_some f rest) none
            ∙ first_near n (super_number program k) m (known (super_number program k) (rank k) (next_lower k have (super_number program k) refl)) h some (λ z in_rest own. greatest z (has_more rest k z in_rest) own))
      ]

-- ---- the nearest so far

module _ (above ranks : List ℕ) (rows : List MemberRow) where
  pub none_yet : IsNearest above ranks rows 0 None
  none_yet k other lt is = absurd (omega (arith, lt))

  at_place : (i k : ℕ) (row other : MemberRow) → k < i + 1 → i < length rows → get_or rows i row ≡ row → get_or rows k other ≡ other → (k < i) ⊎ (row ≡ other)
  at_place i k row other lt within own is = elim (cases_lt k i) [
    | inl before ↦ inl before
    | inr after ↦
        (let same : k ≡ i = omega (arith, lt, after) in
        inr (sym own ∙ get_or_default rows i row other within ∙ ap (λ (j : ℕ). get_or rows j other) (sym same) ∙ is))
  ]

  pub one_more : (i : ℕ) (row : MemberRow) (best new : Option Near) → i < length rows → get_or rows i row ≡ row → IsNearest above ranks rows i best → IsNear above ranks row new → IsNearest above ranks rows (i + 1) (nearer best new)
  one_more i row None None within own before is = λ k other lt at. elim (at_place i k row other lt within own at) [
    | inl less ↦ before k other less at
    | inr same ↦ subst (λ (r : MemberRow). has above r.class ≡ false) same is
  ]
  one_more i row None (Some new) within own before is = record {
    at = i;
    row = row;
    before = omega arith;
    row_is = own;
    class_is = is.1.0;
    member_is = is.1.2;
    among = ap (has above) is.1.0 ∙ is.0;
    rank_is = is.1.1 ∙ ap (rank_in ranks) (sym is.1.0);
    highest = λ k other lt at there. elim (at_place i k row other lt within own at) [
      | inl less ↦ absurd (false≢true (sym (before k other less at) ∙ there))
      | inr same ↦ (let e = is.1.1 ∙ ap (λ (r : MemberRow). rank_in ranks r.class) same in omega (arith, e))
    ];
  }
  one_more i row (Some best) None within own before is = record {
    at = before.at;
    row = before.row;
    before = (let lt = before.before in omega (arith, lt));
    row_is = before.row_is;
    class_is = before.class_is;
    member_is = before.member_is;
    among = before.among;
    rank_is = before.rank_is;
    highest = λ k other lt at there. elim (at_place i k row other lt within own at) [
      | inl less ↦ before.highest k other less at there
      | inr same ↦ absurd (false≢true (sym is ∙ ap (λ (r : MemberRow). has above r.class) same ∙ there))
    ];
  }
  one_more i row (Some best) (Some new) within own before is = elim (either (ltb best.rank new.rank)) [
    | inl e ↦ subst (IsNearest above ranks rows (i + 1)) (sym (ap (λ (b : Bool). if b then Some new else Some best) e)) (record {
      at = i;
      row = row;
      before = omega arith;
      row_is = own;
      class_is = is.1.0;
      member_is = is.1.2;
      among = ap (has above) is.1.0 ∙ is.0;
      rank_is = is.1.1 ∙ ap (rank_in ranks) (sym is.1.0);
      highest = λ k other lt at there. elim (at_place i k row other lt within own at) [
        | inl less ↦ (let le = before.highest k other less at there in let more = ltb-true best.rank new.rank e in omega (arith, le, more))
        | inr same ↦ (let e = is.1.1 ∙ ap (λ (r : MemberRow). rank_in ranks r.class) same in omega (arith, e))
      ];
    })
    | inr e ↦ subst (IsNearest above ranks rows (i + 1)) (sym (ap (λ (b : Bool). if b then Some new else Some best) e)) (record {
      at = before.at;
      row = before.row;
      before = (let lt = before.before in omega (arith, lt));
      row_is = before.row_is;
      class_is = before.class_is;
      member_is = before.member_is;
      among = before.among;
      rank_is = before.rank_is;
      highest = λ k other lt at there. elim (at_place i k row other lt within own at) [
        | inl less ↦ before.highest k other less at there
        | inr same ↦ (let over = ltb-false best.rank new.rank e in let e2 = is.1.1 ∙ ap (λ (r : MemberRow). rank_in ranks r.class) same in omega (arith, e2, over))
      ];
    })
  ]

-- ---- methods by the nearest class

method_some : (program : Program) (name : Name) (desc : Desc) (class : ℕ) → (method_place (methods_at program class) name desc ≡ None → ⊥) → method_found program any_method name desc class ≡ None → ⊥
method_some program name desc class some none = go (method_place (methods_at program class) name desc) refl where
  go : (place : Option ℕ) → method_place (methods_at program class) name desc ≡ place → ⊥
  go None is = some is
  go (Some member) is = none-some (method_there program (record { class = class; member = member })) (sym (method_reported program class name desc member (sym is) ∙ ap (option_map Some) none))

pub no_method : (program : Program) (name : Name) (desc : Desc) (class : ℕ) → method_place (methods_at program class) name desc ≡ None → method_found program any_method name desc class ≡ None
no_method program name desc class none = reported_none (method_found program any_method name desc class) (no_method_reported program class name desc (sym none))

module _ (program : Program) (order ranks : List ℕ) (bits : List (List ℕ)) (are : AreRanks program order ranks bits) (class : ℕ) (lt : class < length program) (have : HasRow bits class)
    (rows : List MemberRow) (name : Name) (desc : Desc) (declare : DeclareMethods program name desc rows) where
  abbrev up : List ℕ
  up = numbers_up most_classes program (Some class)

  abbrev found : ℕ → Option FoundMethod
  found = method_found program any_method name desc

  pub nearest_reported : (near : Near) → IsNearest (numbers_up most_classes program (Some class)) ranks rows (length rows) (Some near)
      → first_some (method_found program any_method name desc) (numbers_up most_classes program (Some class)) ≡ method_found program any_method name desc near.class
  nearest_reported near is =
      first_near FoundMethod (method_found program any_method name desc) program (HasRow bits) (rank_in ranks) (λ k j known next. (are.ranked.each k known).next j next) most_classes (Some class) near.class have is.among
      (method_some program name desc near.class (λ none. declare.each is.row (is.at, is.before, is.row_is) (ap (λ (k : ℕ). method_place (methods_at program k) name desc) (sym is.class_is) ∙ none)))
      (λ z there some. elim (cases_lt (rank_in ranks near.class) (rank_in ranks z)) [
        | inl more ↦ absurd (some (no_method program name desc z (declare.all z (up_within most_classes program (Some class) lt z there) (λ row contained same.
            let le = is.highest contained.0 row contained.1 contained.2 (ap (has (numbers_up most_classes program (Some class))) same ∙ there) in
            let e = ap (rank_in ranks) same in
            let own = is.rank_is in
            omega (arith, le, e, own, more)))))
        | inr le ↦ le
      ])

  pub none_reported : IsNearest (numbers_up most_classes program (Some class)) ranks rows (length rows) None → first_some (method_found program any_method name desc) (numbers_up most_classes program (Some class)) ≡ None
  none_reported none = none_found (method_found program any_method name desc) (numbers_up most_classes program (Some class))
      (λ z there. no_method program name desc z (declare.all z (up_within most_classes program (Some class) lt z there) (λ row contained same.
      false≢true (sym (none contained.0 row contained.1 contained.2) ∙ ap (has (numbers_up most_classes program (Some class))) same ∙ there))))
