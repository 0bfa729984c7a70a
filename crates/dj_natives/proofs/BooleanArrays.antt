-- What arrays of booleans are below, as those of chars are, but for the two themselves.
use Rattle.std.proofs.Common.{◌≡◌, ◌<◌, ℕ, zero, suc, Bool, true, false, List, [], ◌∷◌, length, Some, codes, refl, sym, ap, subst, ◌∙◌, arith, IsTrue}
use Rattle.std.specs.Prelude.{nat_eq, slice_get, unwrap_or, Option}
use Rattle.std.proofs.lemmas.Bool.{both_ways, false≢true, le-ltb, ne_eqb}
use Rattle.std.proofs.lemmas.Option.{slice_get_within}
use Rattle.dj_names.specs.declared.descriptor.Base.{Base}
use Rattle.dj_names.specs.declared.descriptor.Base.TheVariants as bases
use Rattle.dj_names.specs.declared.descriptor.Of.{Of}
use Rattle.dj_names.specs.declared.descriptor.Of.TheVariants as ofs
use Rattle.dj_names.specs.declared.descriptor.Ty.{Ty}
use Rattle.dj_names.specs.trusted.Descriptors.{type_text}
use Rattle.dj_names.specs.trusted.Types.{Name, base_array, class_type}
use Rattle.dj_model.specs.trusted.Types.{Prefix}
use Rattle.dj_model.specs.trusted.Program.{Program}
use Rattle.dj_model.specs.trusted.Linking.{is_subtype}
use Rattle.dj_model.specs.trusted.Natives.{class_name}
use Rattle.dj_library_types.specs.Numbered.{type_at, begins_array, ArePlain}

abbrev typed : ℕ → Of → Ty
typed dims of = record { dims = dims; of = of }

abbrev second : Name → ℕ
second (a ∷ (b ∷ rest)) = b
second text = 0

array_name : (n : ℕ) (of : Of) → class_name (typed (suc n) of) ≡ type_text (typed (suc n) of)
array_name n of = rw (ne_eqb (suc n) 0 (λ e. omega (arith, e))) refl

-- of no dimensions it is no descriptor of an array
no_array : (of : Of) (text : Name) → begins_array (class_name (typed 0 of)) ≡ false → begins_array text ≡ true → class_name (typed 0 of) ≡ text → ⊥
no_array of text plain begins e = both_ways (begins_array text) (sym (ap begins_array e) ∙ plain) begins

module _ (program : Program) (prefix : Prefix) where
  abbrev below : Base → Ty → Bool
  below base ty = is_subtype program prefix (base_array base) ty

  deeper : (base : Base) (n : ℕ) (of : Of) → below base (typed (suc (suc n)) of) ≡ false
  unfolding is_subtype
  deeper base n of = rw (le-ltb (suc (suc n)) 1 (omega arith), ne_eqb 1 (suc (suc n)) (λ e. omega (arith, e))) refl

  booleans : (dims : ℕ) (of : Of) → (dims ≡ 0 → begins_array (class_name (typed dims of)) ≡ false) → class_name (typed dims of) ≡ codes "[Z" → below bases.Boolean (typed dims of) ≡ true
  unfolding is_subtype
  booleans zero of plain e = absurd (no_array of (codes "[Z") (plain refl) refl e)
  booleans (suc zero) (ofs.Base bases.Boolean) plain e = refl
  booleans (suc zero) (ofs.Base base) plain e = absurd (false≢true (ap (λ (t : Name). nat_eq (second t) 90) e))
  booleans (suc zero) (ofs.Class name) plain e = absurd (false≢true (ap (λ (t : Name). nat_eq (second t) 90) e))
  booleans (suc (suc n)) of plain e = absurd (false≢true (ap (λ (t : Name). nat_eq (second t) 90) (sym (array_name (suc n) of) ∙ e)))

  chars : (dims : ℕ) (of : Of) → (dims ≡ 0 → begins_array (class_name (typed dims of)) ≡ false) → class_name (typed dims of) ≡ codes "[C" → below bases.Boolean (typed dims of) ≡ false
  unfolding is_subtype
  chars zero of plain e = absurd (no_array of (codes "[C") (plain refl) refl e)
  chars (suc zero) (ofs.Base bases.Boolean) plain e = absurd (false≢true (ap (λ (t : Name). nat_eq (second t) 67) e))
  chars (suc zero) (ofs.Base base) plain e = refl
  chars (suc zero) (ofs.Class name) plain e = refl
  chars (suc (suc n)) of plain e = deeper bases.Boolean n of

  others : (dims : ℕ) (of : Of) → (class_name (typed dims of) ≡ codes "[Z" → ⊥) → (class_name (typed dims of) ≡ codes "[C" → ⊥)
      → below bases.Char (typed dims of) ≡ below bases.Boolean (typed dims of)
  unfolding is_subtype
  others zero of z c = refl
  others (suc zero) (ofs.Base bases.Boolean) z c = absurd (z refl)
  others (suc zero) (ofs.Base bases.Char) z c = absurd (c refl)
  others (suc zero) (ofs.Base base) z c = refl
  others (suc zero) (ofs.Class name) z c = refl
  others (suc (suc n)) of z c = deeper bases.Char n of ∙ sym (deeper bases.Boolean n of)

module _ (program : Program) (prefix : Prefix) (types : List Ty) (class : ℕ) (text : Name) where
  pub booleans_reported : class < length types → ArePlain types → text ≡ class_name (type_at types class) → text ≡ codes "[Z"
      → true ≡ is_subtype program prefix (base_array bases.Boolean) (type_at types class)
  booleans_reported within plain is e = sym (booleans program prefix (type_at types class).dims (type_at types class).of (plain class within) (sym is ∙ e))

  pub chars_reported : class < length types → ArePlain types → text ≡ class_name (type_at types class) → text ≡ codes "[C"
      → false ≡ is_subtype program prefix (base_array bases.Boolean) (type_at types class)
  chars_reported within plain is e = sym (chars program prefix (type_at types class).dims (type_at types class).of (plain class within) (sym is ∙ e))

  pub others_reported : (result : Bool) → text ≡ class_name (type_at types class) → (text ≡ codes "[Z" → ⊥) → (text ≡ codes "[C" → ⊥)
      → result ≡ is_subtype program prefix (base_array bases.Char) (type_at types class)
      → result ≡ is_subtype program prefix (base_array bases.Boolean) (type_at types class)
  others_reported result is z c reported =
      reported ∙ others program prefix (type_at types class).dims (type_at types class).of (λ e. z (is ∙ e)) (λ e. c (is ∙ e))

-- ---- arrays of chars have a number

pub chars_within : (types : List Ty) (class : ℕ) → slice_get types class ≡ Some (base_array bases.Char) → class < length types
chars_within types class at = slice_get_within types class (base_array bases.Char) at

pub chars_at : (program : Program) (prefix : Prefix) (types : List Ty) (chars class : ℕ) (result : Bool) → slice_get types chars ≡ Some (base_array bases.Char)
    → result ≡ is_subtype program prefix (type_at types chars) (type_at types class) → result ≡ is_subtype program prefix (base_array bases.Char) (type_at types class)
chars_at program prefix types chars class result at reported =
    reported ∙ ap (λ (ty : Ty). is_subtype program prefix ty (type_at types class)) (ap (λ (o : Option Ty). unwrap_or o (class_type [])) at)
