-- What is found in one list is what is found class by class.
use Rattle.std.proofs.Common.{◌≡◌, ℕ, ◌<◌, Bool, true, false, List, [], ◌∷◌, ◌++◌, length, Option, Some, None, is_some, slice_get, refl, sym, ◌∙◌, ap, inl, inr, arith, if◌then◌else◌}
use Rattle.std.specs.List.{filter, flat_map}
use Rattle.std.proofs.lemmas.Bool.{false≢true}
use Rattle.dj_names.specs.declared.descriptor.Desc.{Desc}
use Rattle.dj_names.specs.trusted.Types.{Name}
use Rattle.dj_model.specs.trusted.Program.{Program, Class, Field, field_in, fields_of}
use Rattle.dj_model.specs.trusted.Linking.{most_classes, or_else, field_or, FoundField}
use Rattle.dj_model.proofs.MappedNames.{either}
use Rattle.dj_class_table.specs.Tables.{super_number}
use Rattle.dj_resolution.specs.Numbers.{has, AreBelow, field_found, field_in_class, first_some, most_above, numbers_above, numbers_up, once_above}
use Rattle.dj_resolution.specs.Chained.{field_row, has_field, once_up}
use Rattle.dj_resolution.proofs.Chained.{up_one}
use Rattle.dj_resolution.proofs.Lists.{has_cases, has_here, has_left, has_more, has_right}
use Rattle.dj_resolution.proofs.Marks.{once_below}
use Rattle.dj_resolution.proofs.Searches.{first_places_found, first_some_alike, first_some_flat}
use Rattle.dj_resolution.proofs.Subclasses.{has_after, has_apart, has_places, in_turn}
use Rattle.dj_resolution.proofs.Walks.{no_numbers_up}

-- ---- methods

pub methods_found : {A : Type 0} (f : ℕ → Option A) (program : Program) (class : ℕ)
    → first_some f (once_up program (once_above program) class) ≡ first_some (λ k. first_some f (numbers_above program k)) (numbers_up most_classes program (Some class))
methods_found f program class =
    first_places_found f (flat_map (once_above program) (numbers_up most_classes program (Some class)))
    ∙ first_some_flat f (once_above program) (numbers_up most_classes program (Some class))
    ∙ first_some_alike (λ k. first_some f (once_above program k)) (λ k. first_some f (numbers_above program k)) (λ k. first_places_found f (numbers_above program k)) (numbers_up most_classes program (Some class))

-- ---- fields

kept_found : {A : Type 0} (f : ℕ → Option A) (test : ℕ → Bool) → ((k : ℕ) → test k ≡ false → f k ≡ None) → (xs : List ℕ) → first_some f (filter test xs) ≡ first_some f xs
kept_found f test none [] = refl
kept_found f test none (x ∷ xs) = elim (either (test x)) [
  | inl e ↦ rw e (ap (or_else (f x)) (kept_found f test none xs))
  | inr e ↦ rw (e, none x e) (kept_found f test none xs)
]

not_in_none : (class : Name) (fields : List Field) (name : Name) (desc : Desc) → is_some (slice_get fields 0) ≡ false → field_or class (field_in fields name desc) None ≡ None
not_in_none class [] name desc none = refl
not_in_none class (f ∷ fields) name desc none = absurd (false≢true (sym none))

no_field_in : (o : Option Class) (name : Name) (desc : Desc) → is_some (slice_get (fields_of o) 0) ≡ false → field_in_class name desc o ≡ None
no_field_in None name desc none = refl
no_field_in (Some c) name desc none = not_in_none c.name c.fields name desc none

pub fields_found : (program : Program) (name : Name) (desc : Desc) (class : ℕ)
    → first_some (field_found program name desc) (once_up program (field_row program) class)
    ≡ first_some (λ k. first_some (field_found program name desc) (k ∷ numbers_above program k)) (numbers_up most_classes program (Some class))
fields_found program name desc class =
    let found : ℕ → Option FoundField = field_found program name desc in
    first_places_found found (flat_map (field_row program) (numbers_up most_classes program (Some class)))
    ∙ first_some_flat found (field_row program) (numbers_up most_classes program (Some class))
    ∙ first_some_alike (λ k. first_some found (field_row program k)) (λ k. first_some found (k ∷ numbers_above program k))
    (λ k. kept_found found (has_field program) (λ j none. no_field_in (slice_get program j) name desc none) (k ∷ once_above program k) ∙ ap (or_else (found k)) (first_places_found found (numbers_above program k)))
    (numbers_up most_classes program (Some class))

has_kept : (test : ℕ → Bool) (xs : List ℕ) (z : ℕ) → has (filter test xs) z ≡ true → has xs z ≡ true
has_kept test [] z there = there
has_kept test (x ∷ xs) z there = elim (either (test x)) [
  | inl e ↦ elim (has_cases (filter test xs) x z (rw e at there)) [ inl same ↦ has_here xs x z same | inr h ↦ has_more xs x z (has_kept test xs z h) ]
  | inr e ↦ has_more xs x z (has_kept test xs z (rw e at there))
]

pub field_row_below : (program : Program) (class : ℕ) → class < length program → AreBelow (length program) (field_row program class)
field_row_below program class lt z there = elim (has_cases (once_above program class) class z (has_kept (has_field program) (class ∷ once_above program class) z there)) [
  | inl e ↦ omega (arith, e, lt)
  | inr h ↦ once_below program class z h
]

-- ---- what is above

has_append : (xs ys : List ℕ) (k : ℕ) → has (xs ++ ys) k ≡ (if has xs k then true else has ys k)
has_append xs ys k = elim (either (has xs k)) [ inl e ↦ rw e (has_left xs ys k e) | inr e ↦ rw e (has_after xs ys k e) ]

has_both : (xs ys others : List ℕ) (more : List ℕ) (k : ℕ) → has xs k ≡ has others k → has ys k ≡ has more k → has (xs ++ ys) k ≡ has (others ++ more) k
has_both xs ys others more k one two =
    has_append xs ys k
    ∙ ap (λ (b : Bool). if b then true else has ys k) one
    ∙ ap (λ (b : Bool). if has others k then true else b) two
    ∙ sym (has_append others more k)

has_flat_alike : (f g : ℕ → List ℕ) (k : ℕ) → ((x : ℕ) → has (f x) k ≡ has (g x) k) → (xs : List ℕ) → has (flat_map f xs) k ≡ has (flat_map g xs) k
has_flat_alike f g k same [] = refl
has_flat_alike f g k same (x ∷ xs) = has_both (f x) (flat_map f xs) (g x) (flat_map g xs) k (same x) (has_flat_alike f g k same xs)

listed_above : (program : Program) (class other : ℕ)
    → has (numbers_up most_classes program (Some class) ++ once_up program (once_above program) class) other
    ≡ has (flat_map (λ k. k ∷ numbers_above program k) (numbers_up most_classes program (Some class))) other
listed_above program class other =
    let up : List ℕ = numbers_up most_classes program (Some class) in
    has_both up (once_up program (once_above program) class) up (flat_map (numbers_above program) up) other refl
    (has_places (flat_map (once_above program) up) other ∙ has_flat_alike (once_above program) (numbers_above program) other (λ x. has_places (numbers_above program x) other) up)
    ∙ in_turn (numbers_above program) up other

-- what is in the list of a class is above it, and what isn't is one of its superclasses or not
pub listed_there : (program : Program) (class other : ℕ) → has (once_up program (once_above program) class) other ≡ true
    → has (flat_map (λ k. k ∷ numbers_above program k) (numbers_up most_classes program (Some class))) other ≡ true
listed_there program class other there =
    sym (listed_above program class other) ∙ has_right (numbers_up most_classes program (Some class)) (once_up program (once_above program) class) other there

so_else : (b c : Bool) → c ≡ false → (if b then true else c) ≡ b
so_else true c none = refl
so_else false c none = none

pub not_listed : (program : Program) (class other : ℕ) → has (once_up program (once_above program) class) other ≡ false
    → has (numbers_up most_classes program (Some class)) other ≡ has (flat_map (λ k. k ∷ numbers_above program k) (numbers_up most_classes program (Some class))) other
not_listed program class other none =
    let up : List ℕ = numbers_up most_classes program (Some class) in
    sym (so_else (has up other) (has (once_up program (once_above program) class) other) none)
    ∙ sym (has_append up (once_up program (once_above program) class) other)
    ∙ listed_above program class other

-- ---- superclasses

pub up_itself : (program : Program) (class other : ℕ) → class ≡ other → has (numbers_up most_classes program (Some class)) other ≡ true
up_itself program class other same = rw (up_one program class) (has_here (numbers_up most_above program (super_number program class)) class other same)

pub up_apart : (program : Program) (class other : ℕ) → (class ≡ other → ⊥) → has (numbers_up most_classes program (Some class)) other ≡ has (numbers_up most_above program (super_number program class)) other
up_apart program class other apart = ap (λ (ks : List ℕ). has ks other) (up_one program class) ∙ has_apart (numbers_up most_above program (super_number program class)) class other apart

pub nothing_above : (program : Program) (class other : ℕ) → super_number program class ≡ None → false ≡ has (numbers_up most_above program (super_number program class)) other
nothing_above program class other none = sym (ap (λ (o : Option ℕ). has (numbers_up most_above program o) other) none ∙ ap (λ (ks : List ℕ). has ks other) (no_numbers_up most_above program))
