-- Whether a class is above another, by names and by numbers.
use Rattle.std.proofs.Common.{◌≡◌, ℕ, suc, ◌+◌, ◌<◌, ◌≤◌, ◌||◌, Bool, true, false, List, [], ◌∷◌, ◌++◌, length, drop, get_or, Option, Some, None, is_some, slice_get, nat_eq, refl, sym, ◌∙◌, ap, inl, inr, arith, if◌then◌else◌, eqb-true, eq-eqb, drop-cons}
use Rattle.std.specs.List.{flat_map}
use Rattle.std.specs.Option.{option_map}
use Rattle.std.specs.Cmp.Lexicographic.{bytes_decides}
use Rattle.std.proofs.lemmas.Bool.{false≢true}
use Rattle.std.proofs.lemmas.Option.{same_Some, none-some}
use Rattle.dj_names.specs.trusted.Types.{Name, same_name}
use Rattle.dj_model.specs.trusted.Program.{Program, Class}
use Rattle.dj_model.specs.trusted.Linking.{most_classes, chain, interfaces_above, is_among, is_subclass}
use Rattle.dj_model.proofs.MappedNames.{either, alike}
use Rattle.dj_class_table.specs.Tables.{class_number, class_numbers}
use Rattle.dj_resolution.specs.Linked.{class_name}
use Rattle.dj_resolution.specs.Numbers.{has, first_some, first_places, numbers_above, numbers_up}
use Rattle.dj_resolution.proofs.Finding.{reported_none, drop_none}
use Rattle.dj_resolution.proofs.Lists.{has_more, has_cases, has_left, has_right, has_either, has_flat, flat_has, all_has, all_cases, has_here, has_self}
use Rattle.dj_resolution.proofs.Resolution.{DoNamesDiffer, number_of_name, numbers_of_class, above_numbers}
use Rattle.dj_resolution.proofs.Walks.{Missing, There, looked, numbers_append}

-- ---- among numbers

-- the number, where the test passes
abbrev pub where_so : ℕ → Bool → Option ℕ
where_so k b = if b then Some k else None

pub so_reported : (k : ℕ) (b : Bool) → b ≡ true → Some (Some k) ≡ option_map Some (where_so k b)
so_reported k b e = rw e refl

pub not_so_reported : (k : ℕ) (b : Bool) → b ≡ false → None ≡ option_map Some (where_so k b)
not_so_reported k b e = rw e refl

pub has_after : (xs ys : List ℕ) (k : ℕ) → has xs k ≡ false → has (xs ++ ys) k ≡ has ys k
has_after [] ys k none = refl
has_after (x ∷ xs) ys k none = elim (either (nat_eq x k)) [
  | inl e ↦ absurd (false≢true (sym none ∙ has_here xs x k (eqb-true x k e)))
  | inr e ↦ rw e (has_after xs ys k (rw e at none))
]

pub has_apart : (ys : List ℕ) (x k : ℕ) → (x ≡ k → ⊥) → has (x ∷ ys) k ≡ has ys k
has_apart ys x k differs = elim (either (nat_eq x k)) [ inl e ↦ absurd (differs (eqb-true x k e)) | inr e ↦ rw e refl ]

found_flat : (g : ℕ → List ℕ) (k : ℕ) (xs : List ℕ) → is_some (first_some (λ x. where_so k (has (g x) k)) xs) ≡ has (flat_map g xs) k
found_flat g k [] = refl
found_flat g k (x ∷ xs) = elim (either (has (g x) k)) [
  | inl e ↦ rw e (sym (has_left (g x) (flat_map g xs) k e))
  | inr e ↦ rw e (found_flat g k xs ∙ sym (has_after (g x) (flat_map g xs) k e))
]

some_is : (k : ℕ) (o : Option ℕ) → Some (Some k) ≡ option_map Some o → is_some o ≡ true
some_is k None reported = absurd (none-some (Some k) (sym reported))
some_is k (Some x) reported = refl

pub is_in_flat : (g : ℕ → List ℕ) (k : ℕ) (xs : List ℕ) → Some (Some k) ≡ option_map Some (first_some (λ x. where_so k (has (g x) k)) xs) → has (flat_map g xs) k ≡ true
is_in_flat g k xs reported = sym (found_flat g k xs) ∙ some_is k (first_some (λ x. where_so k (has (g x) k)) xs) reported

pub not_in_flat : (g : ℕ → List ℕ) (k : ℕ) (xs : List ℕ) → None ≡ option_map Some (first_some (λ x. where_so k (has (g x) k)) xs) → has (flat_map g xs) k ≡ false
not_in_flat g k xs reported = sym (found_flat g k xs) ∙ ap is_some (reported_none (first_some (λ x. where_so k (has (g x) k)) xs) reported)

pub has_places : (xs : List ℕ) (k : ℕ) → has (first_places xs) k ≡ has xs k
has_places xs k = alike (has (first_places xs) k) (has xs k)
    (λ e. elim (all_cases [] xs k e) [ inl none ↦ absurd (false≢true none) | inr h ↦ h ])
    (all_has [] xs k)

pub among_above : (above row : List ℕ) (class other : ℕ) (r : Bool) → (class ≡ other → ⊥) → row ≡ first_places above → r ≡ has row other → r ≡ has (class ∷ above) other
among_above above row class other r apart is reported = reported ∙ ap (λ (xs : List ℕ). has xs other) is ∙ has_places above other ∙ sym (has_apart above class other apart)

-- ---- along a row

pub record IsPassed (xs : List ℕ) (k i : ℕ) : Type 0 where
  pub same : has xs k ≡ has (drop i xs) k

pub passed_here : (xs : List ℕ) (k i : ℕ) → IsPassed xs k i → i < length xs → get_or xs i 0 ≡ k → has xs k ≡ true
passed_here xs k i passed lt is = passed.same ∙ ap (λ (ys : List ℕ). has ys k) (drop-cons xs i 0 lt) ∙ has_here (drop (suc i) xs) (get_or xs i 0) k is

pub passed_more : (xs : List ℕ) (k i : ℕ) → IsPassed xs k i → i < length xs → (get_or xs i 0 ≡ k → ⊥) → IsPassed xs k (i + 1)
passed_more xs k i passed lt apart =
    let next : suc i ≡ i + 1 = omega arith in
    record { same = passed.same ∙ ap (λ (ys : List ℕ). has ys k) (drop-cons xs i 0 lt) ∙ has_apart (drop (suc i) xs) (get_or xs i 0) k apart ∙ ap (λ (n : ℕ). has (drop n xs) k) next }

pub passed_end : (xs : List ℕ) (k i : ℕ) → IsPassed xs k i → length xs ≤ i → false ≡ has xs k
passed_end xs k i passed le = sym (passed.same ∙ ap (λ (ys : List ℕ). has ys k) (drop_none xs i le))

-- ---- names

same_class : (program : Program) (name other : Name) (k j : ℕ) (c : Class) → class_number program name ≡ Some k → class_number program other ≡ Some j → slice_get program j ≡ Some c → c.name ≡ other
    → same_name name other ≡ nat_eq j k
same_class program name other k j c number there at named = alike (same_name name other) (nat_eq j k)
    (λ e. eq-eqb j k (same_Some j k (sym there ∙ ap (class_number program) (sym ((bytes_decides name other).0 e)) ∙ number)))
    (λ e. elim (looked program name) [
      | Missing none class ↦ absurd (none-some k (sym none ∙ number))
      | There i d is place class own lt ↦
          (bytes_decides name other).1 (sym own ∙ ap (λ (x : Class). x.name) (same_Some d c (sym place ∙ ap (slice_get program) (same_Some i k (sym is ∙ number) ∙ sym (eqb-true j k e)) ∙ at)) ∙ named)
    ])

or_if : (b x y : Bool) → x ≡ y → (b || x) ≡ (if b then true else y)
or_if true x y e = refl
or_if false x y e = e

pub among_numbers : (program : Program) (names : List Name) (name : Name) (k : ℕ) → class_number program name ≡ Some k → is_among names name ≡ has (class_numbers program names) k
among_numbers program [] name k number = refl
among_numbers program (other ∷ names) name k number = elim (looked program other) [
  | Missing none class ↦ elim (either (same_name name other)) [
    | inl e ↦ absurd (none-some k (sym none ∙ ap (class_number program) (sym ((bytes_decides name other).0 e)) ∙ number))
    | inr e ↦ rw (e, none) (among_numbers program names name k number)
  ]
  | There j c there at class named lt ↦ rw (same_class program name other k j c number there at named, there) (or_if (nat_eq j k) (is_among names name) (has (class_numbers program names) k) (among_numbers program names name k number))
]

-- a class and those above it, class by class
pub in_turn : (g : ℕ → List ℕ) (xs : List ℕ) (k : ℕ) → has (xs ++ flat_map g xs) k ≡ has (flat_map (λ x. x ∷ g x) xs) k
in_turn g xs k = alike (has (xs ++ flat_map g xs) k) (has (flat_map (λ x. x ∷ g x) xs) k)
    (λ e. elim (has_either xs (flat_map g xs) k e) [
      | inl h ↦ flat_has (λ x. x ∷ g x) xs k k h (has_self (g k) k)
      | inr h ↦ (let above = has_flat g xs k h in flat_has (λ x. x ∷ g x) xs above.0 k above.1 (has_more (g above.0) above.0 k above.2))
    ])
    (λ e. (let above = has_flat (λ x. x ∷ g x) xs k e in elim (has_cases (g above.0) above.0 k above.2) [
      | inl same ↦ has_left xs (flat_map g xs) k (rw (← same) above.1)
      | inr h ↦ has_right xs (flat_map g xs) k (flat_has g xs above.0 k above.1 h)
    ]))

pub subclass_numbers : (program : Program) (class ancestor : ℕ) → DoNamesDiffer program → class < length program → ancestor < length program
    → is_subclass program (class_name program class) (class_name program ancestor) ≡ has (flat_map (λ k. k ∷ numbers_above program k) (numbers_up most_classes program (Some class))) ancestor
unfolding is_subclass
subclass_numbers program class ancestor differ lt there =
    let own : Name = class_name program class in
    among_numbers program (chain program own ++ interfaces_above program own) (class_name program ancestor) ancestor (number_of_name program ancestor differ there)
    ∙ ap (λ (ks : List ℕ). has ks ancestor) (numbers_append program (chain program own) (interfaces_above program own)
    ∙ ap (λ (ks : List ℕ). ks ++ class_numbers program (interfaces_above program own)) (numbers_of_class program class differ lt)
    ∙ ap (λ (ks : List ℕ). numbers_up most_classes program (Some class) ++ ks) (above_numbers program class differ lt))
    ∙ in_turn (numbers_above program) (numbers_up most_classes program (Some class)) ancestor

pub chain_numbers : (program : Program) (class other : ℕ) → DoNamesDiffer program → class < length program → other < length program
    → is_among (chain program (class_name program class)) (class_name program other) ≡ has (numbers_up most_classes program (Some class)) other
chain_numbers program class other differ lt there =
    among_numbers program (chain program (class_name program class)) (class_name program other) other (number_of_name program other differ there)
    ∙ ap (λ (ks : List ℕ). has ks other) (numbers_of_class program class differ lt)

-- ---- one number among others

found_among : (k : ℕ) (xs : List ℕ) → is_some (first_some (λ x. where_so k (nat_eq x k)) xs) ≡ has xs k
found_among k [] = refl
found_among k (x ∷ xs) = elim (either (nat_eq x k)) [ inl e ↦ rw e refl | inr e ↦ rw e (found_among k xs) ]

pub is_among_these : (k : ℕ) (xs : List ℕ) → Some (Some k) ≡ option_map Some (first_some (λ x. where_so k (nat_eq x k)) xs) → has xs k ≡ true
is_among_these k xs reported = sym (found_among k xs) ∙ some_is k (first_some (λ x. where_so k (nat_eq x k)) xs) reported

pub not_among_these : (k : ℕ) (xs : List ℕ) → None ≡ option_map Some (first_some (λ x. where_so k (nat_eq x k)) xs) → has xs k ≡ false
not_among_these k xs reported = sym (found_among k xs) ∙ ap is_some (reported_none (first_some (λ x. where_so k (nat_eq x k)) xs) reported)
