-- What the bytes of a text say of it as a name and as modified UTF-8.
use Rattle.std.proofs.Common.{◌≡◌, ℕ, zero, suc, ◌+◌, ◌^◌, ◌<◌, ◌≤◌, Bool, true, false, not, ◌&&◌, ◌||◌, cond, eqb, ltb, leb, List, [], ◌∷◌, ◌++◌, length, take, get_or, refl, sym, ap, ◌∙◌, arith}
use Rattle.std.specs.Prelude.{bytes_eq, codes}
use Rattle.std.specs.List.{list_any, list_all, AllByRecursion}
use Rattle.std.proofs.lemmas.Bool.{ltb-false, le-leb}
use Rattle.std.proofs.lemmas.Bool.Decides.{nat_tests}
use Rattle.std.specs.Prelude.{Option, Some, None, is_some}
use Rattle.dj_names.specs.declared.descriptor.Ty.{Ty}
use Rattle.dj_names.specs.trusted.DescReading.{field_read}
use Rattle.dj_names.specs.trusted.NameReading.{is_stop, reads_class_name}
use Rattle.dj_names.specs.trusted.ModifiedUtf8.{unit_text, units_text}
use Rattle.dj_names.specs.Tests.{array_test, field_descriptor_test, array_descriptor_test, name_byte_test, no_angle_test, unqualified_name_test, method_name_test, class_name_test, modified_utf8_test}
use Rattle.dj_names.proofs.TestLaws.{modified_utf8_test-decides}
use Rattle.dj_pool.specs.Scan.{is_stop_byte, is_angle, is_foreign, has_method_angles, has_foreign}

or_false : (b : Bool) → b ≡ (b || false)
or_false true = refl
or_false false = refl

or_assoc : (a b c : Bool) → (a || (b || c)) ≡ ((a || b) || c)
or_assoc true b c = refl
or_assoc false b c = refl

-- one byte more
pub any_more : (p : ℕ → Bool) (text : List ℕ) (i : ℕ) → i < length text → list_any p (take (i + 1) text) ≡ (list_any p (take i text) || p (get_or text i 0))
any_more p [] i lt = absurd (omega (arith, lt))
any_more p (b ∷ text) zero lt = sym (or_false (p b))
any_more p (b ∷ text) (suc i) lt = more p b text i (any_more p text i (omega (arith, lt)))
  where
    more : (p : ℕ → Bool) (b : ℕ) (text : List ℕ) (i : ℕ) → list_any p (take (i + 1) text) ≡ (list_any p (take i text) || p (get_or text i 0)) → list_any p (take (suc i + 1) (b ∷ text)) ≡ (list_any p (take (suc i) (b ∷ text)) || p (get_or (b ∷ text) (suc i) 0))
    more p b text i h =
        let n : suc i + 1 ≡ suc (i + 1) = omega arith in
        ap (λ (k : ℕ). list_any p (take k (b ∷ text))) n ∙ ap (λ (t : Bool). p b || t) h ∙ or_assoc (p b) (list_any p (take i text)) (p (get_or text i 0))

-- ---- descriptors

pub array_is_field : (text : List ℕ) → field_descriptor_test text ≡ false → false ≡ array_descriptor_test text
unfolding field_descriptor_test array_descriptor_test
array_is_field text none = at (field_read text) none
  where
    at : (ty : Option Ty) → is_some ty ≡ false → false ≡ array_test ty
    at None e = refl
    at (Some ty) e = absurd cc

-- ---- names

stopped : (text : List ℕ) (fresh : Bool) → list_any is_stop_byte text ≡ true → reads_class_name fresh text ≡ false
unfolding reads_class_name
stopped [] fresh h = absurd cc
stopped (b ∷ more) fresh h = at (is_stop b) (fresh && eqb b 47) (list_any is_stop_byte more) (reads_class_name (eqb b 47) more) h (stopped more (eqb b 47))
  where
    at : (s t a r : Bool) → (s || a) ≡ true → (a ≡ true → r ≡ false) → cond (s || t) false r ≡ false
    at true t a r h k = refl
    at false true a r h k = refl
    at false false a r h k = k h

stop_no_name : (text : List ℕ) → list_any is_stop_byte text ≡ true → list_all name_byte_test text ≡ false
stop_no_name [] h = absurd cc
stop_no_name (b ∷ more) h = at (is_stop b) (eqb b 47) (list_any is_stop_byte more) (list_all name_byte_test more) h (stop_no_name more)
  where
    at : (s t a r : Bool) → (s || a) ≡ true → (a ≡ true → r ≡ false) → (not (s || t) && r) ≡ false
    at true t a r h k = refl
    at false true a r h k = refl
    at false false a r h k = k h

slash_no_name : (text : List ℕ) → list_any (λ b. eqb b 47) text ≡ true → list_all name_byte_test text ≡ false
slash_no_name [] h = absurd cc
slash_no_name (b ∷ more) h = at (is_stop b) (eqb b 47) (list_any (λ b. eqb b 47) more) (list_all name_byte_test more) h (slash_no_name more)
  where
    at : (s t a r : Bool) → (t || a) ≡ true → (a ≡ true → r ≡ false) → (not (s || t) && r) ≡ false
    at true t a r h k = refl
    at false true a r h k = refl
    at false false a r h k = k h

-- neither a stop nor a slash: one part of a name
part_reads : (text : List ℕ) → list_any is_stop_byte text ≡ false → list_any (λ b. eqb b 47) text ≡ false → reads_class_name false text ≡ true
unfolding reads_class_name
part_reads [] h k = refl
part_reads (b ∷ more) h k = at (is_stop b) (eqb b 47) (list_any is_stop_byte more) (list_any (λ b. eqb b 47) more) (λ t. reads_class_name t more) h k (part_reads more)
  where
    at : (s t a c : Bool) (r : Bool → Bool) → (s || a) ≡ false → (t || c) ≡ false → (a ≡ false → c ≡ false → r false ≡ true) → cond (s || (false && t)) false (r t) ≡ true
    at true t a c r h k f = absurd cc
    at false true a c r h k f = absurd cc
    at false false a c r h k f = f h k

part_name : (text : List ℕ) → list_any is_stop_byte text ≡ false → list_any (λ b. eqb b 47) text ≡ false → list_all name_byte_test text ≡ true
part_name [] h k = refl
part_name (b ∷ more) h k = at (is_stop b) (eqb b 47) (list_any is_stop_byte more) (list_any (λ b. eqb b 47) more) (list_all name_byte_test more) h k (part_name more)
  where
    at : (s t a c r : Bool) → (s || a) ≡ false → (t || c) ≡ false → (a ≡ false → c ≡ false → r ≡ true) → (not (s || t) && r) ≡ true
    at true t a c r h k f = absurd cc
    at false true a c r h k f = absurd cc
    at false false a c r h k f = f h k

fresh_reads : (b : ℕ) (more : List ℕ) → list_any is_stop_byte (b ∷ more) ≡ false → list_any (λ b. eqb b 47) (b ∷ more) ≡ false → reads_class_name true (b ∷ more) ≡ true
unfolding reads_class_name
fresh_reads b more h k = at (is_stop b) (eqb b 47) (list_any is_stop_byte more) (list_any (λ b. eqb b 47) more) (λ t. reads_class_name t more) h k (part_reads more)
  where
    at : (s t a c : Bool) (r : Bool → Bool) → (s || a) ≡ false → (t || c) ≡ false → (a ≡ false → c ≡ false → r false ≡ true) → cond (s || (true && t)) false (r t) ≡ true
    at true t a c r h k f = absurd cc
    at false true a c r h k f = absurd cc
    at false false a c r h k f = f h k

no_angle : (text : List ℕ) → list_all no_angle_test text ≡ not (list_any is_angle text)
no_angle [] = refl
no_angle (b ∷ more) = at (is_angle b) (list_all no_angle_test more) (list_any is_angle more) (no_angle more)
  where
    at : (s r a : Bool) → r ≡ not a → (not s && r) ≡ not (s || a)
    at true r a h = refl
    at false r a h = h

-- ---- the three names

pub unqualified_stopped : (text : List ℕ) → list_any is_stop_byte text ≡ true → false ≡ unqualified_name_test text
unfolding unqualified_name_test
unqualified_stopped [] h = refl
unqualified_stopped (b ∷ more) h = sym (stop_no_name (b ∷ more) h)

pub unqualified_slashed : (text : List ℕ) → list_any (λ b. eqb b 47) text ≡ true → false ≡ unqualified_name_test text
unfolding unqualified_name_test
unqualified_slashed [] h = refl
unqualified_slashed (b ∷ more) h = sym (slash_no_name (b ∷ more) h)

pub unqualified_part : (text : List ℕ) → list_any is_stop_byte text ≡ false → list_any (λ b. eqb b 47) text ≡ false → not (eqb (length text) 0) ≡ unqualified_name_test text
unfolding unqualified_name_test
unqualified_part [] h k = refl
unqualified_part (b ∷ more) h k =
    let some : eqb (length (b ∷ more)) 0 ≡ false = grind (arith, nat_tests) in
    ap not some ∙ sym (part_name (b ∷ more) h k)

pub class_stopped : (text : List ℕ) → list_any is_stop_byte text ≡ true → false ≡ class_name_test text
unfolding class_name_test
class_stopped text h = sym (stopped text true h)

pub class_part : (text : List ℕ) → list_any is_stop_byte text ≡ false → list_any (λ b. eqb b 47) text ≡ false → not (eqb (length text) 0) ≡ class_name_test text
unfolding class_name_test reads_class_name
class_part [] h k = refl
class_part (b ∷ more) h k =
    let some : eqb (length (b ∷ more)) 0 ≡ false = grind (arith, nat_tests) in
    ap not some ∙ sym (fresh_reads b more h k)

pub method_is : (text : List ℕ) → method_name_test text ≡ (unqualified_name_test text && has_method_angles text)
unfolding method_name_test
method_is text = ap (λ (t : Bool). unqualified_name_test text && (bytes_eq text (codes "<init>") || (bytes_eq text (codes "<clinit>") || t))) (no_angle text) ∙ ap (λ (t : Bool). unqualified_name_test text && t) (turn (bytes_eq text (codes "<init>")) (bytes_eq text (codes "<clinit>")) (not (list_any is_angle text)))
  where
    turn : (a b c : Bool) → (a || (b || c)) ≡ (c || (a || b))
    turn true b true = refl
    turn true b false = refl
    turn false true true = refl
    turn false true false = refl
    turn false false c = or_false c

-- ---- modified UTF-8

-- bytes from 1 to 127 spell themselves
plain_units : (text : List ℕ) → has_foreign text ≡ false → (units_text text ≡ text) × AllByRecursion (λ u. u < 2 ^ 16) text
plain_units [] h = (refl, tt)
plain_units (b ∷ more) h =
    let s = split (is_foreign b) (has_foreign more) h in
    let t = split (eqb b 0) (ltb 127 b) s.0 in
    let some : 1 ≤ b = grind (arith, nat_tests, t.0) in
    let few : b ≤ 127 = ltb-false _ _ t.1 in
    let low : leb 1 b ≡ true = le-leb _ _ some in
    let high : leb b 127 ≡ true = le-leb _ _ few in
    let one : unit_text b ≡ b ∷ [] = rw (low, high) refl in
    let rest = plain_units more s.1 in
    (ap (λ (t : List ℕ). t ++ units_text more) one ∙ ap (λ (t : List ℕ). b ∷ t) rest.0, (omega (arith, few), rest.1))
  where
    split : (x y : Bool) → (x || y) ≡ false → (x ≡ false) × (y ≡ false)
    split true y h = absurd cc
    split false y h = (refl, h)

pub plain_is : (text : List ℕ) → has_foreign text ≡ false → modified_utf8_test text ≡ true
plain_is text h =
    let p = plain_units text h in
    (modified_utf8_test-decides text).1 (text, record { text_is = sym p.0; units_fit = p.1 })
