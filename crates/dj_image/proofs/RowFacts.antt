-- Rows of arrays by the texts of their descriptors.
use Rattle.std.proofs.Common.{◌≡◌, ◌↔◌, ℕ, ◌-◌, ◌<◌, ◌≤◌, ◌⊎◌, ◌&&◌, min, Bool, true, false, cond, List, [], ◌∷◌, ◌++◌, take, drop, length, Option, Some, None, refl, sym, ap, subst, ◌∙◌, inl, inr, arith, IsTrue, Ordering}
use Rattle.std.specs.declared.cmp.Ordering.TheVariants.{Less, Equal, Greater}
use Rattle.std.specs.Prelude.{nat_eq, nat_le, if◌then◌else◌}
use Rattle.std.specs.Global.{Vec}
use Rattle.std.specs.Ordering.{nat_cmp, is_eq, match_ordering}
use Rattle.std.specs.Cmp.Lexicographic.{slice_cmp}
use Rattle.std.specs.List.{AllByRecursion}
use Rattle.std.specs.Map.{lookup}
use Rattle.std.specs.BTreeMap.{is_at, insert_entry}
use Rattle.std.specs.FinMap.{slice_cmp-IsAntisymmetric, nat_cmp-IsAntisymmetric}
use Rattle.std.proofs.lemmas.Cmp.{nat_list_cmp_total, tied_itself}
use Rattle.std.proofs.lemmas.Bool.{and_parts}
use Rattle.std.proofs.lemmas.Bool.Decides.{nat_tests}
use Rattle.std.proofs.lemmas.List.{length-append}
use Rattle.std.proofs.lemmas.List.Elements.{Contains-append_left, Contains-push, Contains-push_cases}
use Rattle.dj_names.specs.declared.descriptor.Base.{Base}
use Rattle.dj_names.specs.declared.descriptor.Base.TheVariants as bases
use Rattle.dj_names.specs.declared.descriptor.Of.{Of}
use Rattle.dj_names.specs.declared.descriptor.Of.TheVariants as ofs
use Rattle.dj_names.specs.declared.descriptor.Ty.{Ty}
use Rattle.dj_names.specs.trusted.Types.{Name}
use Rattle.dj_names.specs.trusted.Descriptors.{of_text, type_text}
use Rattle.dj_image.specs.Imaged.{IsPartOf}
use Rattle.dj_image.specs.ArrayRows.{ArrayRows, dims_in, most_at, has_row, IsKeyed, IsRow, AreRows, brackets}
use Rattle.dj_image.proofs.ClassTexts.{type_brackets, type_rest, typed}

-- ---- a descriptor is that of one type

abbrev letter_base : ℕ → Base
letter_base letter =
    if nat_eq letter 90 then bases.Boolean
    else if nat_eq letter 66 then bases.Byte
    else if nat_eq letter 67 then bases.Char
    else if nat_eq letter 83 then bases.Short
    else if nat_eq letter 73 then bases.Int
    else if nat_eq letter 74 then bases.Long
    else if nat_eq letter 70 then bases.Float
    else bases.Double

abbrev of_spelled : List ℕ → Of
of_spelled [] = ofs.Base bases.Double
of_spelled (letter ∷ []) = ofs.Base (letter_base letter)
of_spelled (letter ∷ (b ∷ more)) = ofs.Class (take (length (b ∷ more) - 1) (b ∷ more))

abbrev named : List ℕ → Of
named text = ofs.Class (take (length text - 1) text)

spelled_class : (name : Name) → of_spelled (76 ∷ (name ++ (59 ∷ []))) ≡ named (name ++ (59 ∷ []))
spelled_class [] = refl
spelled_class (b ∷ name) = refl

named_again : (name : Name) → named (name ++ (59 ∷ [])) ≡ ofs.Class name
named_again name =
    let count : length (name ++ (59 ∷ [])) - 1 ≡ length name = omega (arith, length-append name (59 ∷ [])) in
    ap (λ (n : ℕ). ofs.Class (take n (name ++ (59 ∷ [])))) count ∙ ap ofs.Class (prefix name) where
      prefix : (xs : List ℕ) → take (length xs) (xs ++ (59 ∷ [])) ≡ xs
      prefix [] = refl
      prefix (x ∷ xs) = ap (λ (ys : List ℕ). x ∷ ys) (prefix xs)

spelled_again : (of : Of) → of_spelled (of_text of) ≡ of
spelled_again (ofs.Base bases.Boolean) = refl
spelled_again (ofs.Base bases.Byte) = refl
spelled_again (ofs.Base bases.Char) = refl
spelled_again (ofs.Base bases.Short) = refl
spelled_again (ofs.Base bases.Int) = refl
spelled_again (ofs.Base bases.Long) = refl
spelled_again (ofs.Base bases.Float) = refl
spelled_again (ofs.Base bases.Double) = refl
spelled_again (ofs.Class name) = spelled_class name ∙ named_again name

pub of_once : (a b : Of) → of_text a ≡ of_text b → a ≡ b
of_once a b e = sym (spelled_again a) ∙ ap of_spelled e ∙ spelled_again b

pub type_once : (a b : Ty) → type_text a ≡ type_text b → a ≡ b
type_once a b e =
    let dims : a.dims ≡ b.dims = sym (type_brackets a.dims a.of) ∙ ap brackets e ∙ type_brackets b.dims b.of in
    let rest : of_text a.of ≡ of_text b.of = sym (type_rest a.dims a.of) ∙ ap (λ (n : ℕ). drop n (type_text a)) dims ∙ ap (λ (t : List ℕ). drop b.dims t) e ∙ type_rest b.dims b.of in
    typed b a.dims a.of dims (of_once a.of b.of rest)

-- ---- entries

abbrev pub Entries : Type 0
Entries = List (Vec ℕ × Ty)

abbrev pub order : Vec ℕ → Vec ℕ → Ordering
order x y = slice_cmp nat_cmp x.items y.items

abbrev pub found_in : Entries → Name → Option Ty
found_in entries text = lookup (is_at (λ (key : Vec ℕ). slice_cmp nat_cmp text key.items)) entries

pub same_items : (a b : Name) → slice_cmp nat_cmp a b ≡ Equal → a ≡ b
same_items a b e = slice_cmp-IsAntisymmetric nat_cmp-IsAntisymmetric a b e

tied : (a b : Name) → a ≡ b → slice_cmp nat_cmp a b ≡ Equal
tied a b e = ap (λ (t : Name). slice_cmp nat_cmp t b) e ∙ tied_itself nat_list_cmp_total b

apart : (text key : Name) (r : Ordering) → slice_cmp nat_cmp text key ≡ r → (text ≡ key → ⊥) → is_eq r ≡ false
apart text key Less e other = refl
apart text key Equal e other = absurd (other (same_items text key e))
apart text key Greater e other = refl

keyed_by : (e : Vec ℕ × Ty) (es : Entries) (key : Vec ℕ) (v : Ty) (r : Ordering) → order key e.0 ≡ r → AllByRecursion IsKeyed (e ∷ es) → IsKeyed (key, v) → AllByRecursion IsKeyed (insert_entry order es key v)
    → AllByRecursion IsKeyed (match_ordering r ((key, v) ∷ e ∷ es) ((e.0, v) ∷ es) (e ∷ insert_entry order es key v))
keyed_by e es key v Less is all own rest = (own, all)
keyed_by e es key v Equal is all own rest = ((own.0 ∙ same_items key.items e.0.items is, own.1, own.2), all.1)
keyed_by e es key v Greater is all own rest = (all.0, rest)

keyed_more : (es : Entries) (key : Vec ℕ) (v : Ty) → AllByRecursion IsKeyed es → IsKeyed (key, v) → AllByRecursion IsKeyed (insert_entry order es key v)
keyed_more [] key v all own = (own, tt)
keyed_more (e ∷ es) key v all own = keyed_by e es key v (order key e.0) refl all own (keyed_more es key v all.1 own)

pub keyed_now : (old new : ArrayRows) (key : Vec ℕ) (v : Ty) (of : Of) → AllByRecursion IsKeyed old.entries → 1 ≤ v.dims → v.dims ≤ 255 → key.items ≡ of_text of → v.of ≡ of → new.entries ≡ insert_entry order old.entries key v → AllByRecursion IsKeyed new.entries
keyed_now old new key v of all some few key_is v_is is =
    subst (λ (es : Entries). AllByRecursion IsKeyed es) (sym is) (keyed_more old.entries key v all (ap of_text v_is ∙ sym key_is, some, few))

found_by : (e : Vec ℕ × Ty) (es : Entries) (key : Vec ℕ) (v : Ty) (text : Name) (r : Ordering) → order key e.0 ≡ r → (text ≡ key.items → ⊥) → found_in (insert_entry order es key v) text ≡ found_in es text
    → found_in (match_ordering r ((key, v) ∷ e ∷ es) ((e.0, v) ∷ es) (e ∷ insert_entry order es key v)) text ≡ found_in (e ∷ es) text
found_by e es key v text Less is other rest = ap (λ (b : Bool). cond b (Some v) (found_in (e ∷ es) text)) (apart text key.items (slice_cmp nat_cmp text key.items) refl other)
found_by e es key v text Equal is other rest =
    let differ : is_eq (slice_cmp nat_cmp text e.0.items) ≡ false = apart text e.0.items (slice_cmp nat_cmp text e.0.items) refl (λ same. other (same ∙ sym (same_items key.items e.0.items is))) in
    ap (λ (b : Bool). cond b (Some v) (found_in es text)) differ ∙ sym (ap (λ (b : Bool). cond b (Some e.1) (found_in es text)) differ)
found_by e es key v text Greater is other rest = ap (λ (o : Option Ty). cond (is_eq (slice_cmp nat_cmp text e.0.items)) (Some e.1) o) rest

found_other : (es : Entries) (key : Vec ℕ) (v : Ty) (text : Name) → (text ≡ key.items → ⊥) → found_in (insert_entry order es key v) text ≡ found_in es text
found_other [] key v text other = ap (λ (b : Bool). cond b (Some v) None) (apart text key.items (slice_cmp nat_cmp text key.items) refl other)
found_other (e ∷ es) key v text other = found_by e es key v text (order key e.0) refl other (found_other es key v text other)

-- ---- a row more

text_cases : (text key : Name) → (text ≡ key) ⊎ (text ≡ key → ⊥)
text_cases text key = by (slice_cmp nat_cmp text key) refl where
  by : (r : Ordering) → slice_cmp nat_cmp text key ≡ r → (text ≡ key) ⊎ (text ≡ key → ⊥)
  by Less e = inr (λ same. let bad : Less ≡ Equal = sym e ∙ tied text key same in absurd cc)
  by Equal e = inl (same_items text key e)
  by Greater e = inr (λ same. let bad : Greater ≡ Equal = sym e ∙ tied text key same in absurd cc)

pub both : (a b : Bool) → a ≡ true → b ≡ true → (a && b) ≡ true
both true true p q = refl
both true false p q = q
both false b p q = p

pub has_parts : (rows : ArrayRows) (ty : Ty) → IsTrue (has_row rows ty) → (1 ≤ ty.dims) × (ty.dims ≤ most_at rows (of_text ty.of))
has_parts rows ty t = let parts = and_parts (nat_le 1 ty.dims) (nat_le ty.dims (most_at rows (of_text ty.of))) t in (le_from 1 ty.dims parts.0, le_from ty.dims (most_at rows (of_text ty.of)) parts.1) where
  le_from : (a b : ℕ) → nat_le a b ≡ true → a ≤ b
  le_from a b e = grind (arith, nat_tests)

pub has_from : (rows : ArrayRows) (ty : Ty) (most : ℕ) → most ≡ most_at rows (of_text ty.of) → 1 ≤ ty.dims → ty.dims ≤ most → IsTrue (has_row rows ty)
has_from rows ty most is some within = both (nat_le 1 ty.dims) (nat_le ty.dims (most_at rows (of_text ty.of))) (le_to 1 ty.dims some) (le_to ty.dims (most_at rows (of_text ty.of)) (omega (arith, is, within))) where
  le_to : (a b : ℕ) → a ≤ b → nat_le a b ≡ true
  le_to a b le = grind (arith, nat_tests)

-- ---- an array and its elements

row_cases : (wholes : List Ty) (whole ty : Ty) → IsRow (wholes ++ whole ∷ []) ty → IsRow wholes ty ⊎ IsPartOf ty whole
row_cases wholes whole ty row = elim (Contains-push_cases wholes whole row.0 row.1) [ inl old ↦ inl (row.0, old, row.2) | inr e ↦ inr (subst (λ (w : Ty). IsPartOf ty w) (sym e) row.2) ]

row_kept : (wholes : List Ty) (whole ty : Ty) → IsRow wholes ty → IsRow (wholes ++ whole ∷ []) ty
row_kept wholes whole ty row = (row.0, Contains-append_left wholes (whole ∷ []) row.0 row.1, row.2)

row_last : (wholes : List Ty) (whole ty : Ty) → IsPartOf ty whole → IsRow (wholes ++ whole ∷ []) ty
row_last wholes whole ty part = (whole, Contains-push wholes whole, part)

least : (a b c d : ℕ) → a ≤ b → a ≤ 255 → c ≡ min b 255 → c ≤ d → a ≤ d
least a b c d within few is le = grind (arith, is)

pub no_rows : (rows : ArrayRows) → rows.entries ≡ [] → AreRows [] rows
no_rows rows is = record { keyed = subst (λ (es : Entries). AllByRecursion IsKeyed es) (sym is) tt; each = each } where
  each : (ty : Ty) → IsTrue (has_row rows ty) ↔ IsRow [] ty
  each ty = (
    λ t. let parts = has_parts rows ty t in
        let most : most_at rows (of_text ty.of) ≡ 0 = ap (λ (es : Entries). dims_in (found_in es (of_text ty.of))) is in
        absurd (omega (arith, parts.0, parts.1, most)),
    λ row. absurd (let none = row.1.1 in omega (arith, none)),
  )

pub at_most : (dims whole : ℕ) → dims ≡ min whole 255 → dims ≤ 255
at_most dims whole is = grind (arith, is)

-- what has a row of as many dimensions has all its rows
pub rows_stay : (wholes : List Ty) (whole : Ty) (rows : ArrayRows) (dims : ℕ) (text : Name) → text ≡ of_text whole.of → dims ≡ min whole.dims 255 → dims ≤ most_at rows text → AreRows wholes rows → AreRows (wholes ++ whole ∷ []) rows
rows_stay wholes whole rows dims text text_is dims_is le are = record { keyed = are.keyed; each = each } where
  most_is : (ty : Ty) → ty.of ≡ whole.of → most_at rows text ≡ most_at rows (of_text ty.of)
  most_is ty same = ap (most_at rows) (text_is ∙ ap of_text (sym same))

  each : (ty : Ty) → IsTrue (has_row rows ty) ↔ IsRow (wholes ++ whole ∷ []) ty
  each ty = (
    λ t. row_kept wholes whole ty ((are.each ty).0 t),
    λ row. elim (row_cases wholes whole ty row) [
      | inl old ↦ (are.each ty).1 old
      | inr part ↦ has_from rows ty (most_at rows text) (most_is ty part.same) part.array (least ty.dims whole.dims dims (most_at rows text) part.within part.few dims_is le)
    ],
  )

-- a row of more dimensions
pub rows_more : (wholes : List Ty) (whole : Ty) (old new : ArrayRows) (key : Vec ℕ) (v : Ty) → key.items ≡ of_text whole.of → v.dims ≡ min whole.dims 255 → (v.dims ≤ most_at old key.items → ⊥)
    → found_in new.entries key.items ≡ Some v → new.entries ≡ insert_entry order old.entries key v → AllByRecursion IsKeyed new.entries → AreRows wholes old → AreRows (wholes ++ whole ∷ []) new
rows_more wholes whole old new key v key_is dims_is more own is keyed are = record { keyed = keyed; each = each } where
  most_own : (text : Name) → text ≡ key.items → v.dims ≡ most_at new text
  most_own text same = sym (ap (λ (t : Name). dims_in (found_in new.entries t)) same ∙ ap dims_in own)

  most_other : (text : Name) → (text ≡ key.items → ⊥) → most_at old text ≡ most_at new text
  most_other text other = sym (ap (λ (es : Entries). dims_in (found_in es text)) is ∙ ap dims_in (found_other old.entries key v text other))

  part : (ty : Ty) → of_text ty.of ≡ key.items → IsTrue (has_row new ty) → IsPartOf ty whole
  part ty same t =
      let parts = has_parts new ty t in
      let own_most = most_own (of_text ty.of) same in
      record { array = parts.0; few = few ty.dims v.dims whole.dims (omega (arith, parts.1, own_most)) dims_is; within = within ty.dims v.dims whole.dims (omega (arith, parts.1, own_most)) dims_is; same = of_once ty.of whole.of (same ∙ key_is) } where
        few : (a b c : ℕ) → a ≤ b → b ≡ min c 255 → a ≤ 255
        few a b c le e = grind (arith, e)

        within : (a b c : ℕ) → a ≤ b → b ≡ min c 255 → a ≤ c
        within a b c le e = grind (arith, e)

  to : (ty : Ty) → (of_text ty.of ≡ key.items) ⊎ (of_text ty.of ≡ key.items → ⊥) → IsTrue (has_row new ty) → IsRow (wholes ++ whole ∷ []) ty
  to ty (inl same) t = row_last wholes whole ty (part ty same t)
  to ty (inr other) t = let parts = has_parts new ty t in row_kept wholes whole ty ((are.each ty).0 (has_from old ty (most_at new (of_text ty.of)) (sym (most_other (of_text ty.of) other)) parts.0 parts.1))

  kept : (ty : Ty) → (of_text ty.of ≡ key.items) ⊎ (of_text ty.of ≡ key.items → ⊥) → IsTrue (has_row old ty) → IsTrue (has_row new ty)
  kept ty (inl same) t =
      let parts = has_parts old ty t in
      let was : most_at old (of_text ty.of) ≡ most_at old key.items = ap (most_at old) same in
      has_from new ty v.dims (most_own (of_text ty.of) same) parts.0 (above ty.dims (most_at old (of_text ty.of)) (most_at old key.items) v.dims parts.1 was more) where
        above : (a b c d : ℕ) → a ≤ b → b ≡ c → (d ≤ c → ⊥) → a ≤ d
        above a b c d le e beyond = omega (arith, le, e, beyond)
  kept ty (inr other) t = let parts = has_parts old ty t in has_from new ty (most_at old (of_text ty.of)) (most_other (of_text ty.of) other) parts.0 parts.1

  last : (ty : Ty) → IsPartOf ty whole → IsTrue (has_row new ty)
  last ty of_whole = has_from new ty v.dims (most_own (of_text ty.of) (ap of_text of_whole.same ∙ sym key_is)) of_whole.array (least ty.dims whole.dims v.dims v.dims of_whole.within of_whole.few dims_is (omega arith))

  each : (ty : Ty) → IsTrue (has_row new ty) ↔ IsRow (wholes ++ whole ∷ []) ty
  each ty = (
    to ty (text_cases (of_text ty.of) key.items),
    λ row. elim (row_cases wholes whole ty row) [ inl old_row ↦ kept ty (text_cases (of_text ty.of) key.items) ((are.each ty).1 old_row) | inr of_whole ↦ last ty of_whole ],
  )
