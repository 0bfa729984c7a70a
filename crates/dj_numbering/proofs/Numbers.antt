-- The number of a class or an array by its text: among the classes first, and then among the arrays.
use Rattle.std.proofs.Common.{◌≡◌, ℕ, suc, ◌+◌, ◌<◌, Bool, true, false, List, [], ◌∷◌, length, refl, sym, ap, ◌∙◌, arith, Option}
use Rattle.std.specs.Prelude.{Some, None, if◌then◌else◌}
use Rattle.std.specs.Option.{option_map}
use Rattle.std.proofs.lemmas.Option.{none-some, same_Some}
use Rattle.dj_names.specs.trusted.Types.{Name, same_name}
use Rattle.dj_model.specs.trusted.Program.{Program}
use Rattle.dj_class_table.specs.Tables.{class_number}
use Rattle.dj_numbering.specs.Typed.{place_of_text}
use Rattle.dj_numbering.specs.Kept.{number_among}

pub number_of_class : (program : Program) (texts : List Name) (text : Name) (k : ℕ) → class_number program text ≡ Some k → number_among program texts text ≡ Some k
number_of_class [] texts text k e = absurd (none-some k e)
number_of_class (c ∷ program) texts text k e = by (same_name c.name text) (class_number program text) (number_of_class program texts text) e where
  by : (b : Bool) (n : Option ℕ) → ((j : ℕ) → n ≡ Some j → number_among program texts text ≡ Some j) → (if b then Some 0 else option_map suc n) ≡ Some k
      → (if b then Some 0 else option_map suc (number_among program texts text)) ≡ Some k
  by true n later f = f
  by false None later f = absurd (none-some k f)
  by false (Some j) later f = ap (option_map suc) (later j refl) ∙ f

-- this many places later
abbrev later_by : ℕ → Option ℕ → Option ℕ
later_by n place = option_map (λ (k : ℕ). n + k) place

later_more : (n : ℕ) (place : Option ℕ) → option_map suc (later_by n place) ≡ later_by (suc n) place
later_more n None = refl
later_more n (Some k) = let e : suc (n + k) ≡ suc n + k = omega arith in ap Some e

later_none : (place : Option ℕ) → place ≡ later_by 0 place
later_none None = refl
later_none (Some k) = let e : k ≡ 0 + k = omega arith in ap Some e

number_of_array : (program : Program) (texts : List Name) (text : Name) → class_number program text ≡ None → number_among program texts text ≡ later_by (length program) (place_of_text texts text)
number_of_array [] texts text e = later_none (place_of_text texts text)
number_of_array (c ∷ program) texts text e = by (same_name c.name text) (class_number program text) (number_of_array program texts text) e where
  by : (b : Bool) (n : Option ℕ) → (n ≡ None → number_among program texts text ≡ later_by (length program) (place_of_text texts text)) → (if b then Some 0 else option_map suc n) ≡ None
      → (if b then Some 0 else option_map suc (number_among program texts text)) ≡ later_by (suc (length program)) (place_of_text texts text)
  by true n later f = absurd (none-some 0 (sym f))
  by false (Some j) later f = absurd (none-some (suc j) (sym f))
  by false None later f = ap (option_map suc) (later refl) ∙ later_more (length program) (place_of_text texts text)

pub number_of_text : (program : Program) (texts : List Name) (text : Name) (k : ℕ) → class_number program text ≡ None → place_of_text texts text ≡ Some k → number_among program texts text ≡ Some (length program + k)
number_of_text program texts text k e is = number_of_array program texts text e ∙ ap (later_by (length program)) is

pub number_of_none : (program : Program) (texts : List Name) (text : Name) → class_number program text ≡ None → place_of_text texts text ≡ None → number_among program texts text ≡ None
number_of_none program texts text e is = number_of_array program texts text e ∙ ap (later_by (length program)) is

-- ---- where a text has a place it is within

pub place_within : (texts : List Name) (text : Name) (k : ℕ) → place_of_text texts text ≡ Some k → k < length texts
place_within [] text k e = absurd (none-some k e)
place_within (x ∷ texts) text k e = by (same_name x text) (place_of_text texts text) (place_within texts text) e where
  by : (b : Bool) (n : Option ℕ) → ((j : ℕ) → n ≡ Some j → j < length texts) → (if b then Some 0 else option_map suc n) ≡ Some k → k < suc (length texts)
  by true n later f = let zero_is : 0 ≡ k = same_Some 0 k f in omega arith
  by false None later f = absurd (none-some k f)
  by false (Some j) later f = let next : suc j ≡ k = same_Some (suc j) k f in omega (arith, later j refl)
