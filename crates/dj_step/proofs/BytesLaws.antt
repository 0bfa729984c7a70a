-- The number of the arrays of bytes.
use Rattle.std.proofs.Common.{◌≡◌, ℕ, zero, suc, Bool, true, false, List, [], ◌∷◌, ◌++◌, length, map, replicate, Option, Some, None, if◌then◌else◌, refl, sym, ap, subst, ◌∙◌, inl, inr, codes, ◌+◌, arith}
use Rattle.std.specs.Prelude.{slice_get, Contains, ◌⊎◌, unwrap_or}
use Rattle.std.specs.Option.{option_map}
use Rattle.std.proofs.lemmas.Bool.{false≢true}
use Rattle.std.proofs.lemmas.Option.{none-some, same_Some, slice_get-map, slice_get_within}
use Rattle.dj_names.specs.declared.descriptor.Base.TheVariants as bases
use Rattle.dj_names.specs.declared.descriptor.Of.{Of}
use Rattle.dj_names.specs.declared.descriptor.Of.TheVariants as ofs
use Rattle.dj_names.specs.declared.descriptor.Ty.{Ty}
use Rattle.dj_names.specs.trusted.Descriptors.{of_text, type_text}
use Rattle.dj_names.specs.trusted.Types.{Name, same_name, class_type, base_array}
use Rattle.dj_model.specs.trusted.Program.{Program, Class}
use Rattle.dj_model.specs.trusted.Natives.{class_name}
use Rattle.dj_library_types.specs.Numbered as numbered
use Rattle.dj_class_table.specs.Tables.{name_of}
use Rattle.dj_class_table.proofs.Orders.{same_from_names, names_from_same}
use Rattle.dj_numbering.specs.Typed.{texts_of, types_of, place_of_text, text_number}
use Rattle.dj_image.specs.Imaged.{Imaged, IsNumbered, program_of, typed_of}
use Rattle.dj_image.specs.Numbering.{AreSettled}
use Rattle.dj_image.proofs.Members.{member_none, member_cases}
use Rattle.dj_image.proofs.Numbering.{names_plain}

abbrev bytes : Ty
bytes = base_array bases.Byte

-- ---- places of texts

none_in : (texts : List Name) (text : Name) → place_of_text texts text ≡ None → (k : ℕ) → slice_get texts k ≡ Some text → ⊥
none_in [] text none k e = none-some text e
none_in (x ∷ texts) text none k e = by (same_name x text) refl (place_of_text texts text) refl (none_in texts text) none k e where
  by : (b : Bool) → same_name x text ≡ b → (o : Option ℕ) → place_of_text texts text ≡ o → (place_of_text texts text ≡ None → (k : ℕ) → slice_get texts k ≡ Some text → ⊥)
      → (if b then Some 0 else option_map suc o) ≡ None → (k : ℕ) → slice_get (x ∷ texts) k ≡ Some text → ⊥
  by true same o f later none k e = none-some 0 (sym none)
  by false same (Some j) f later none k e = none-some (suc j) (sym none)
  by false same None f later none zero e = false≢true (sym same ∙ same_from_names x text (same_Some x text e))
  by false same None f later none (suc k) e = later f k e

append_at : {A : Type 0} (xs ys : List A) (k n : ℕ) → n ≡ length xs + k → slice_get (xs ++ ys) n ≡ slice_get ys k
append_at [] ys k n e = let same : n ≡ k = omega (arith, e) in ap (slice_get ys) same
append_at (x ∷ xs) ys k zero e = absurd (omega (arith, e))
append_at (x ∷ xs) ys k (suc n) e = append_at xs ys k n (omega (arith, e))

listed : (arrays : List Ty) (ty : Ty) → Contains arrays ty → (j : ℕ) × (slice_get arrays j ≡ Some ty)
listed [] ty there = absurd (member_none ty there)
listed (a ∷ arrays) ty there = elim (member_cases a arrays ty there) [
  | inl is ↦ (0, ap Some is)
  | inr later ↦ let found = listed arrays ty later in (suc found.0, found.1)
]

pub bytes_there : (imaged : Imaged) → IsNumbered imaged → None ≡ text_number (typed_of imaged) (codes "[B") → ⊥
bytes_there imaged numbered none =
    let found = listed imaged.arrays bytes ((numbered.arrays bytes).1 (inl refl)) in
    let place : ℕ = length (map name_of (program_of imaged)) + found.0 in
    none_in (texts_of (typed_of imaged)) (codes "[B") (sym none) place
    (append_at (map name_of (program_of imaged)) (map type_text imaged.arrays) found.0 place refl
    ∙ (slice_get-map type_text imaged.arrays found.0 ∙ ap (option_map type_text) found.1))

place_reported : (texts : List Name) (text : Name) (k : ℕ) → place_of_text texts text ≡ Some k → slice_get texts k ≡ Some text
place_reported [] text k e = absurd (none-some k e)
place_reported (x ∷ texts) text k e = by (same_name x text) refl (place_of_text texts text) (place_reported texts text) k e where
  by : (b : Bool) → same_name x text ≡ b → (n : Option ℕ) → ((j : ℕ) → n ≡ Some j → slice_get texts j ≡ Some text)
      → (k : ℕ) → (if b then Some 0 else option_map suc n) ≡ Some k → slice_get (x ∷ texts) k ≡ Some text
  by true same n later zero f = ap Some (names_from_same x text same)
  by true same n later (suc k) f = absurd cc
  by false same None later k f = absurd cc
  by false same (Some j) later k f = subst (λ (k : ℕ). slice_get (x ∷ texts) k ≡ Some text) {x = suc j} {y = k} (cc) (later j refl)

-- ---- what has the text

typed_by : (program : Program) (arrays : List Ty) (k : ℕ) (text : Name) → slice_get (map name_of program ++ map type_text arrays) k ≡ Some text
    → (slice_get (map (λ (c : Class). class_type (name_of c)) program ++ arrays) k ≡ Some (class_type text))
    ⊎ ((ty : Ty) × (slice_get (map (λ (c : Class). class_type (name_of c)) program ++ arrays) k ≡ Some ty) × (type_text ty ≡ text))
typed_by [] arrays k text e = by (slice_get arrays k) refl (sym (slice_get-map type_text arrays k) ∙ e) where
  by : (o : Option Ty) → slice_get arrays k ≡ o → option_map type_text o ≡ Some text
      → (slice_get arrays k ≡ Some (class_type text)) ⊎ ((ty : Ty) × (slice_get arrays k ≡ Some ty) × (type_text ty ≡ text))
  by None is f = absurd (none-some text f)
  by (Some ty) is f = inr (ty, is, same_Some (type_text ty) text f)
typed_by (c ∷ program) arrays zero text e = inl (ap (λ (n : Name). Some (class_type n)) (same_Some c.name text e))
typed_by (c ∷ program) arrays (suc k) text e = typed_by program arrays k text e

first : List ℕ → ℕ
first [] = 0
first (x ∷ xs) = x

of_byte : (of : Of) → of_text of ≡ codes "B" → of ≡ ofs.Base bases.Byte
unfolding first
of_byte (ofs.Base bases.Byte) e = refl
of_byte (ofs.Base bases.Boolean) e = let f : 90 ≡ 66 = ap first e in absurd (omega (arith, f))
of_byte (ofs.Base bases.Char) e = let f : 67 ≡ 66 = ap first e in absurd (omega (arith, f))
of_byte (ofs.Base bases.Short) e = let f : 83 ≡ 66 = ap first e in absurd (omega (arith, f))
of_byte (ofs.Base bases.Int) e = let f : 73 ≡ 66 = ap first e in absurd (omega (arith, f))
of_byte (ofs.Base bases.Long) e = let f : 74 ≡ 66 = ap first e in absurd (omega (arith, f))
of_byte (ofs.Base bases.Float) e = let f : 70 ≡ 66 = ap first e in absurd (omega (arith, f))
of_byte (ofs.Base bases.Double) e = let f : 68 ≡ 66 = ap first e in absurd (omega (arith, f))
of_byte (ofs.Class name) e = let f : 76 ≡ 66 = ap first e in absurd (omega (arith, f))

no_bracket : (of : Of) (more : List ℕ) → of_text of ≡ 91 ∷ more → ⊥
unfolding first
no_bracket (ofs.Base bases.Boolean) more e = let f : 90 ≡ 91 = ap first e in omega (arith, f)
no_bracket (ofs.Base bases.Byte) more e = let f : 66 ≡ 91 = ap first e in omega (arith, f)
no_bracket (ofs.Base bases.Char) more e = let f : 67 ≡ 91 = ap first e in omega (arith, f)
no_bracket (ofs.Base bases.Short) more e = let f : 83 ≡ 91 = ap first e in omega (arith, f)
no_bracket (ofs.Base bases.Int) more e = let f : 73 ≡ 91 = ap first e in omega (arith, f)
no_bracket (ofs.Base bases.Long) more e = let f : 74 ≡ 91 = ap first e in omega (arith, f)
no_bracket (ofs.Base bases.Float) more e = let f : 70 ≡ 91 = ap first e in omega (arith, f)
no_bracket (ofs.Base bases.Double) more e = let f : 68 ≡ 91 = ap first e in omega (arith, f)
no_bracket (ofs.Class name) more e = let f : 76 ≡ 91 = ap first e in omega (arith, f)

rest_is : (xs ys : List ℕ) → 91 ∷ xs ≡ 91 ∷ ys → xs ≡ ys
rest_is xs ys e = cc

of_bytes : (dims : ℕ) (of : Of) → type_text (record { dims = dims; of = of }) ≡ codes "[B" → record { dims = dims; of = of } ≡ bytes
unfolding first
of_bytes zero of e = absurd (no_bracket of (66 ∷ []) e)
of_bytes (suc zero) of e = ap (λ (x : Of). record { dims = 1; of = x }) (of_byte of (rest_is (of_text of) (66 ∷ []) e))
of_bytes (suc (suc n)) of e = let inner : 91 ∷ (replicate n 91 ++ of_text of) ≡ 66 ∷ [] = rest_is (91 ∷ (replicate n 91 ++ of_text of)) (66 ∷ []) e in let f : 91 ≡ 66 = ap first inner in absurd (omega (arith, f))

pub bytes_type : (imaged : Imaged) (class : ℕ) → AreSettled (typed_of imaged) → Some class ≡ text_number (typed_of imaged) (codes "[B") → slice_get (types_of (typed_of imaged)) class ≡ Some bytes
bytes_type imaged class settled e = elim (typed_by (program_of imaged) imaged.arrays class (codes "[B") (place_reported (texts_of (typed_of imaged)) (codes "[B") class (sym e))) [
  | inl is ↦
      let within = slice_get_within (types_of (typed_of imaged)) class (class_type (codes "[B")) is in
      let at : numbered.type_at (types_of (typed_of imaged)) class ≡ class_type (codes "[B") = ap (λ (o : Option Ty). unwrap_or o (class_type [])) is in
      absurd (false≢true (sym (names_plain (typed_of imaged) settled class within (ap (λ (ty : Ty). ty.dims) at)) ∙ ap (λ (ty : Ty). numbered.begins_array (class_name ty)) at))
  | inr found ↦ found.1 ∙ ap Some (of_bytes found.0.dims found.0.of found.2)
]
