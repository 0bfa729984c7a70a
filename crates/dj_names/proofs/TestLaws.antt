-- Each test of a whole text decides what its name says.
use Rattle.std.proofs.Common.{◌≡◌, ◌≢◌, ℕ, zero, suc, ◌^◌, ◌<◌, ◌≤◌, Bool, true, eqb, ◌||◌, List, [], ◌∷◌, ◌++◌, length, Option, Some, None, refl, ap, subst, ◌∙◌, arith}
use Rattle.std.specs.Prelude.{◌↔◌, IsTrue, is_some, bytes_eq, codes}
use Rattle.std.specs.Bool.{Decides}
use Rattle.std.specs.List.{AllByRecursion, list_all}
use Rattle.std.proofs.lemmas.Bool.{leb-true, le-leb, eqb-false, ne_eqb, not-true, not_from_false, or_parts, or_from}
use Rattle.std.proofs.lemmas.Bool.Decides.{Decides-and, Decides-or}
use Rattle.std.proofs.lemmas.List.{length-append}
use Rattle.std.proofs.lemmas.Slice.Eq.{bytes_eq-Decides}
use Rattle.dj_cursor.specs.trusted.Options.{◌>>=◌}
use Rattle.dj_cursor.proofs.Options.{bind_some, some_is}
use Rattle.dj_names.specs.declared.descriptor.Ty.{Ty}
use Rattle.dj_names.specs.trusted.Names.{IsNameByte, IsUnqualifiedName, IsMethodName, IsClassName, HasNoAngle}
use Rattle.dj_names.specs.trusted.ModifiedUtf8.{unit_text, units_text, SpellsUnits, IsModifiedUtf8}
use Rattle.dj_names.specs.trusted.Descriptors.{IsFieldDescriptor, IsMethodDescriptor, IsArrayDescriptor}
use Rattle.dj_names.specs.trusted.UnitReading.{unit_read}
use Rattle.dj_names.specs.trusted.NameReading.{is_stop}
use Rattle.dj_names.specs.trusted.DescReading.{field_read}
use Rattle.dj_names.specs.trusted.Tests.{units_read}
use Rattle.dj_names.specs.Tests.{name_byte_test, no_angle_test, unqualified_name_test, method_name_test, class_name_test, modified_utf8_test, field_descriptor_test, method_descriptor_test, array_test, array_descriptor_test}
use Rattle.dj_names.proofs.UnitLaws.{unit_takes, unit_again, unit_some}
use Rattle.dj_names.proofs.NameLaws.{is_name_byte, is_no_stop, class_name_read, reads_class}
use Rattle.dj_names.proofs.DescLaws.{some_there, field_takes, field_again, field_from_test, test_from_field, method_from_test, test_from_method}

-- ---- names

all_decides : (p : ℕ → Bool) (P : ℕ → Type 0) → ((b : ℕ) → Decides (p b) (P b)) → (text : List ℕ) → Decides (list_all p text) (AllByRecursion P text)
all_decides p P each [] = ((λ _. tt), (λ _. refl))
all_decides p P each (b ∷ more) = Decides-and (p b) (list_all p more) (each b) (all_decides p P each more)

name_byte_decides : (b : ℕ) → Decides (name_byte_test b) (IsNameByte b)
name_byte_decides b = (
  (λ e. let q = or_parts (is_stop b) (eqb b 47) (not-true (is_stop b || eqb b 47) e) in is_name_byte b q.1 q.0),
  (λ n. not_from_false (is_stop b || eqb b 47) (or_from (is_stop b) (eqb b 47) (is_no_stop b n) (ne_eqb b 47 n.not_slash))),
)

no_angle_decides : (b : ℕ) → Decides (no_angle_test b) ((b ≢ 60) × (b ≢ 62))
no_angle_decides b = (
  (λ e. let q = or_parts (eqb b 60) (eqb b 62) (not-true (eqb b 60 || eqb b 62) e) in (eqb-false b 60 q.0, eqb-false b 62 q.1)),
  (λ n. not_from_false (eqb b 60 || eqb b 62) (or_from (eqb b 60) (eqb b 62) (ne_eqb b 60 n.0) (ne_eqb b 62 n.1))),
)

pub unqualified_name_test-decides : (text : List ℕ) → IsTrue (unqualified_name_test text) ↔ IsUnqualifiedName text
unfolding unqualified_name_test
unqualified_name_test-decides [] = ((λ e. absurd (cc)), (λ n. absurd (n.some refl)))
unqualified_name_test-decides (b ∷ more) =
    let each = all_decides name_byte_test IsNameByte name_byte_decides (b ∷ more) in
    ((λ e. record { some = λ h. absurd (cc); bytes = each.0 e }), (λ n. each.1 n.bytes))

pub method_name_test-decides : (text : List ℕ) → IsTrue (method_name_test text) ↔ IsMethodName text
unfolding method_name_test
method_name_test-decides text =
    let init = bytes_eq text (codes "<init>") in
    let clinit = bytes_eq text (codes "<clinit>") in
    let plain = list_all no_angle_test text in
    let no_angle : Decides plain (HasNoAngle text) = all_decides no_angle_test (λ b. (b ≢ 60) × (b ≢ 62)) no_angle_decides text in
    let angles = Decides-or init (clinit || plain) (bytes_eq-Decides text (codes "<init>")) (Decides-or clinit plain (bytes_eq-Decides text (codes "<clinit>")) no_angle) in
    let both = Decides-and (unqualified_name_test text) (init || (clinit || plain)) (unqualified_name_test-decides text) angles in (
      (λ e. let m = both.0 e in record { unqualified = m.0; angles = m.1 }),
      (λ m. both.1 (m.unqualified, m.angles)),
    )

pub class_name_test-decides : (text : List ℕ) → IsTrue (class_name_test text) ↔ IsClassName text
unfolding class_name_test
class_name_test-decides text = (class_name_read text, reads_class text)

-- ---- modified UTF-8

units_take : (n : ℕ) (bytes units : List ℕ) → units_read n bytes ≡ Some units → SpellsUnits bytes units
unfolding units_read
units_take zero [] units e = subst (λ (us : List ℕ). SpellsUnits [] us) (some_is [] units e) (record { text_is = refl; units_fit = tt })
units_take zero (b ∷ more) units e = absurd (cc)
units_take (suc n) [] units e = subst (λ (us : List ℕ). SpellsUnits [] us) (some_is [] units e) (record { text_is = refl; units_fit = tt })
units_take (suc n) (b ∷ more) units e =
    let a = bind_some (unit_read (b ∷ more)) (λ x. units_read n x.1 >>= λ us. Some (x.0 ∷ us)) units e in
    let others = bind_some (units_read n a.0.1) (λ us. Some (a.0.0 ∷ us)) units a.2 in
    let t = unit_takes (b ∷ more) a.0 a.1 in
    let r = units_take n a.0.1 others.0 others.1 in
    subst (λ (us : List ℕ). SpellsUnits (b ∷ more) us) (some_is (a.0.0 ∷ others.0) units others.2) (record { text_is = t.0 ∙ ap (λ (x : List ℕ). unit_text a.0.0 ++ x) r.text_is; units_fit = (t.1, r.units_fit) })

units_step : (n : ℕ) (bytes : List ℕ) (u : ℕ) (rest : List ℕ) → unit_read bytes ≡ Some (u, rest) → units_read (suc n) bytes ≡ (units_read n rest >>= λ us. Some (u ∷ us))
unfolding unit_read units_read
units_step n [] u rest e = absurd (cc)
units_step n (b ∷ more) u rest e = ap (λ (o : Option (ℕ × List ℕ)). o >>= λ x. units_read n x.1 >>= λ us. Some (x.0 ∷ us)) e

units_again : (units : List ℕ) (n : ℕ) → AllByRecursion (λ u. u < 2 ^ 16) units → length units ≤ n → units_read n (units_text units) ≡ Some units
unfolding units_read
units_again [] zero fit le = refl
units_again [] (suc n) fit le = refl
units_again (u ∷ us) zero fit le = absurd (omega arith)
units_again (u ∷ us) (suc n) fit le =
    units_step n (unit_text u ++ units_text us) u (units_text us) (unit_again u (units_text us) fit.0)
    ∙ ap (λ (o : Option (List ℕ)). o >>= λ vs. Some (u ∷ vs)) (units_again us n fit.1 (omega arith))

some_long : (bytes : List ℕ) → bytes ≢ [] → 1 ≤ length bytes
some_long [] some = absurd (some refl)
some_long (b ∷ more) some = omega arith

units_long : (units : List ℕ) → AllByRecursion (λ u. u < 2 ^ 16) units → length units ≤ length (units_text units)
units_long [] fit = omega arith
units_long (u ∷ us) fit =
    let one : 1 ≤ length (unit_text u) = some_long (unit_text u) (λ e. unit_some u [] fit.0 (ap (λ (t : List ℕ). t ++ []) e)) in
    let others : length us ≤ length (units_text us) = units_long us fit.1 in
    omega (arith, length-append (unit_text u) (units_text us))

whole_again : (text : List ℕ) (m : IsModifiedUtf8 text) → units_read (length text) text ≡ Some m.0
whole_again text m =
    let long : length m.0 ≤ length text = omega (arith, units_long m.0 m.1.units_fit, ap length m.1.text_is) in
    ap (units_read (length text)) m.1.text_is ∙ units_again m.0 (length text) m.1.units_fit long

pub modified_utf8_test-decides : (text : List ℕ) → IsTrue (modified_utf8_test text) ↔ IsModifiedUtf8 text
unfolding modified_utf8_test
modified_utf8_test-decides text = (
  (λ e. let x = some_there (units_read (length text) text) e in (x.0, units_take (length text) text x.0 x.1)),
  (λ m. ap is_some (whole_again text m)),
)

-- ---- descriptors

pub field_descriptor_test-decides : (text : List ℕ) → IsTrue (field_descriptor_test text) ↔ IsFieldDescriptor text
unfolding field_descriptor_test
field_descriptor_test-decides text = (field_from_test text, test_from_field text)

pub method_descriptor_test-decides : (text : List ℕ) → IsTrue (method_descriptor_test text) ↔ IsMethodDescriptor text
unfolding method_descriptor_test
method_descriptor_test-decides text = (method_from_test text, test_from_method text)

array_there : (o : Option Ty) → array_test o ≡ true → (ty : Ty) × (o ≡ Some ty) × (1 ≤ ty.dims)
array_there (Some ty) e = (ty, refl, leb-true 1 ty.dims e)
array_there None e = absurd (cc)

pub array_descriptor_test-decides : (text : List ℕ) → IsTrue (array_descriptor_test text) ↔ IsArrayDescriptor text
unfolding array_descriptor_test
array_descriptor_test-decides text = (
  (λ e. let x = array_there (field_read text) e in (x.0, x.2, field_takes text x.0 x.1)),
  (λ d. ap array_test (field_again text d.0 d.2) ∙ le-leb 1 d.0.dims d.1),
)
