-- Which classes are a file's own one or above it, by their numbers.
use Rattle.std.proofs.Common.{◌≡◌, ℕ, zero, suc, ◌<◌, ◌≤◌, ◌⊎◌, Bool, true, false, ◌||◌, List, ◌∷◌, [], length, Option, Some, None, refl, sym, ap, ◌∙◌, subst, inl, inr, arith, option_and_then}
use Rattle.std.specs.Option.{option_map}
use Rattle.std.proofs.lemmas.Bool.{false≢true}
use Rattle.std.proofs.lemmas.Option.{none-some}
use Rattle.dj_names.specs.trusted.Types.{Name, same_name}
use Rattle.dj_model.specs.trusted.Program.{Program, class_at, superclass_of, Class}
use Rattle.dj_model.specs.trusted.Linking.{most_classes, chain_of, chain, is_among}
use Rattle.dj_model.proofs.MappedNames.{either}
use Rattle.dj_class_table.specs.Tables.{class_number, name_at}
use Rattle.dj_resolution.specs.Linked.{class_name}
use Rattle.dj_link_rules.specs.Known.{is_named_above}
use Rattle.dj_link_rules.proofs.Numbers.{no_class, number_named}
use Rattle.dj_link_rules.proofs.NamedLaws.{names_decide}

some_name : (a b : Name) → Some a ≡ Some b → a ≡ b
some_name a b e = cc

or_parts : (a b : Bool) → (a || b) ≡ true → (a ≡ true) ⊎ (b ≡ true)
or_parts true b e = inl refl
or_parts false b e = inr e

-- ---- a class that isn't there

none_in_none : (n : ℕ) (program : Program) (name : Name) → is_among (chain_of n program None) name ≡ true → ⊥
unfolding chain_of
none_in_none zero program name is = absurd cc
none_in_none (suc n) program name is = absurd cc

-- the chain of a class that isn't there is its name alone
alone : (n : ℕ) (program : Program) (own name : Name) → class_number program own ≡ None → is_among (chain_of n program (Some own)) name ≡ true → name ≡ own
unfolding chain_of
alone zero program own name none is = absurd cc
alone (suc n) program own name none is = elim (or_parts (same_name name own) (is_among (chain_of n program (superclass_of (class_at program own))) name) is) [
  | inl same ↦ (names_decide name own).0 same
  | inr above ↦ absurd (none_in_none n program name (subst (λ (c : Option Class). is_among (chain_of n program (superclass_of c)) name ≡ true) (no_class program own none) above))
]

no_suc : (o : Option ℕ) → option_map suc o ≡ None → o ≡ None
no_suc None none = refl
no_suc (Some k) none = absurd cc

-- no class has a name that has no number
absent : (program : Program) (own : Name) → class_number program own ≡ None → (k : ℕ) → name_at program k ≡ Some own → ⊥
absent [] own none k named = absurd cc
absent (c ∷ classes) own none zero named = let same : same_name c.name own ≡ true = (names_decide c.name own).1 (some_name c.name own named) in none-some 0 (sym (rw same at none))
absent (c ∷ classes) own none (suc k) named = elim (either (same_name c.name own)) [
  | inl e ↦ none-some 0 (sym (rw e at none))
  | inr e ↦ absent classes own (no_suc (class_number classes own) (rw e at none)) k named
]

nothing_above : (program : Program) (own name : Name) (class : ℕ) → class_number program own ≡ None → name_at program class ≡ Some name → false ≡ is_among (chain program own) name
nothing_above program own name class none named = elim (either (is_among (chain program own) name)) [
  | inl e ↦ absurd (absent program own none class (named ∙ ap Some (alone most_classes program own name none e)))
  | inr e ↦ sym e
]

-- ---- by the number of the own class

pub above_is : (program : Program) (own : Name) (number : Option ℕ) → number ≡ class_number program own → (class : ℕ) (name : Name) → name_at program class ≡ Some name
    → is_named_above program (option_and_then (name_at program) number) (name_at program class) ≡ is_among (chain program own) name
above_is program own None is class name named = nothing_above program own name class (sym is) named
above_is program own (Some k) is class name named =
    ap (λ (o : Option Name). is_named_above program o (name_at program class)) (number_named program own k (sym is)) ∙ ap (is_named_above program (Some own)) named

-- ---- as the code asks

pub name_there : (program : Program) (k : ℕ) → k < length program → name_at program k ≡ Some (class_name program k)
name_there [] k lt = absurd (omega (arith, lt))
name_there (c ∷ classes) zero lt = refl
name_there (c ∷ classes) (suc k) lt = name_there classes k (omega (arith, lt))

no_name : (program : Program) (k : ℕ) → length program ≤ k → name_at program k ≡ None
no_name [] k le = refl
no_name (c ∷ classes) zero le = absurd (omega (arith, le))
no_name (c ∷ classes) (suc k) le = no_name classes k (omega (arith, le))

none_named : (program : Program) (o : Option Name) → false ≡ is_named_above program o None
none_named program None = refl
none_named program (Some own) = refl

pub past_own : (program : Program) (own : ℕ) (other : Option Name) → length program ≤ own → false ≡ is_named_above program (name_at program own) other
past_own program own other le = ap (λ (o : Option Name). is_named_above program o other) (sym (no_name program own le))

pub past_class : (program : Program) (own : Option Name) (class : ℕ) → length program ≤ class → false ≡ is_named_above program own (name_at program class)
past_class program own class le = none_named program own ∙ ap (is_named_above program own) (sym (no_name program class le))

pub both_there : (program : Program) (own class : ℕ) (b : Bool) → own < length program → class < length program → b ≡ is_among (chain program (class_name program own)) (class_name program class)
    → b ≡ is_named_above program (name_at program own) (name_at program class)
both_there program own class b one two is =
    is
    ∙ ap (is_named_above program (Some (class_name program own))) (sym (name_there program class two))
    ∙ ap (λ (o : Option Name). is_named_above program o (name_at program class)) (sym (name_there program own one))

pub no_own : (program : Program) (number : Option ℕ) (other : Option Name) → number ≡ None → false ≡ is_named_above program (option_and_then (name_at program) number) other
no_own program number other none = ap (λ (o : Option ℕ). is_named_above program (option_and_then (name_at program) o) other) (sym none)

pub no_other : (program : Program) (own : Option Name) (class : Option ℕ) → class ≡ None → false ≡ is_named_above program own (option_and_then (name_at program) class)
no_other program own class none = none_named program own ∙ ap (λ (o : Option ℕ). is_named_above program own (option_and_then (name_at program) o)) (sym none)

pub both_numbered : (program : Program) (number class : Option ℕ) (own other : ℕ) (b : Bool) → number ≡ Some own → class ≡ Some other → b ≡ is_named_above program (name_at program own) (name_at program other)
    → b ≡ is_named_above program (option_and_then (name_at program) number) (option_and_then (name_at program) class)
both_numbered program number class own other b one two is =
    is
    ∙ ap (λ (o : Option ℕ). is_named_above program (name_at program own) (option_and_then (name_at program) o)) (sym two)
    ∙ ap (λ (o : Option ℕ). is_named_above program (option_and_then (name_at program) o) (option_and_then (name_at program) class)) (sym one)
