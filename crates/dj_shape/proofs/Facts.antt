-- Rule 19 over an image by plain values: the path of a class, the line of a method, and which methods have kinds.
use Rattle.std.proofs.Common.{◌≡◌, ℕ, List, [], ◌∷◌, ◌++◌, codes, Option, Some, None, refl, sym, ap, ◌∙◌, subst, inl, inr, arith}
use Rattle.std.specs.Prelude.{slice_get, reverse, is_some, IsTrue, length}
use Rattle.std.specs.Char.{encode_utf8}
use Rattle.std.specs.Char.Utf16.{utf16_chars, utf16_lossy_chars}
use Rattle.std.specs.Str.{encode_utf8_all}
use Rattle.std.proofs.lemmas.Bool.{false≢true}
use Rattle.std.proofs.lemmas.List.{reverse-append}
use Rattle.std.proofs.lemmas.Option.{same_Some}
use Rattle.dj_names.specs.declared.descriptor.Base.TheVariants as bases
use Rattle.dj_names.specs.declared.descriptor.Kind.TheVariants.{Long}
use Rattle.dj_names.specs.declared.descriptor.Ty.{Ty}
use Rattle.dj_names.specs.trusted.Types.{base_type, base_array}
use Rattle.dj_report.specs.declared.report.Violation.{Violation}
use Rattle.dj_model.specs.trusted.Program.{Body, Code, Method, Runs, is_static}
use Rattle.dj_model.specs.trusted.Kinds.{Signature, signature_of}
use Rattle.dj_model.specs.trusted.Numbers.{is_wide}
use Rattle.dj_model.specs.trusted.Values.{in_slots}
use Rattle.dj_model.specs.trusted.Linking.{FoundMethod}
use Rattle.dj_model.specs.SmallRuns.{class_with, method_with}
use Rattle.dj_numbering.specs.declared.types.MemberOf.{MemberOf}
use Rattle.dj_numbering.specs.Members.{all_methods}
use Rattle.dj_shape_rule.specs.declared.judge.ShapeFault.{ShapeFault}
use Rattle.dj_image.specs.Sources.{class_of_source}
use Rattle.dj_image.specs.Imaged.{Imaged, program_of}
use Rattle.dj_shape.specs.Rules.{HasKinds, IsPathOf, IsShapeLine}
use Rattle.dj_shape.specs.Reported.{IsLineOf}

-- ---- the path of a class

path_of_b : IsPathOf (codes "p/B.class") (codes "p/B")
unfolding utf16_chars encode_utf8
path_of_b = record { units = codes "p/B"; spelled = record { text_is = refl; units_fit = (omega arith, (omega arith, (omega arith, tt))) }; is = refl }

-- each path has the end of a class file's
ends : (path name : List ℕ) → IsPathOf path name → slice_get (reverse path) 0 ≡ Some 115
ends path name is =
    ap (λ (p : List ℕ). slice_get (reverse p) 0) is.is ∙ ap (λ (p : List ℕ). slice_get p 0) (reverse-append (encode_utf8_all (utf16_lossy_chars is.units)) (codes ".class"))

not_otherwise : (IsPathOf (codes "p/B") (codes "p/B") → ⊥) × (IsPathOf (codes "p/B.java") (codes "p/B") → ⊥)
not_otherwise =
    (λ is. omega (arith, same_Some 66 115 (ends (codes "p/B") (codes "p/B") is)), λ is. omega (arith, same_Some 97 115 (ends (codes "p/B.java") (codes "p/B") is)))

-- ---- the line that reports a method

abbrev reported_line : List ℕ → ℕ → ℕ → Violation
reported_line member number rule = record { path = codes "p/B.class"; member = member; number = Some number; rule = rule }

module _ (m : MemberOf) (name : m.name.now ≡ codes "m") (desc : m.desc.now ≡ codes "(J)V") (fault : ShapeFault) (fails : fault.number ≡ Some 2) where
  line : IsLineOf (codes "p/B") m fault (reported_line (codes "m(J)V") 2 19)
  line = record { path = path_of_b; member_is = sym (ap (λ (n : List ℕ). n ++ m.desc.now) name ∙ ap (λ (d : List ℕ). codes "m" ++ d) desc); number = sym fails; rule = refl }

  not_of_18 : IsLineOf (codes "p/B") m fault (reported_line (codes "m(J)V") 2 18) → ⊥
  not_of_18 is = (let e = is.rule in omega (arith, e))

  not_turned : IsLineOf (codes "p/B") m fault (reported_line (codes "(J)Vm") 2 19) → ⊥
  not_turned is = omega (arith, same_Some 40 109 (ap (λ (t : List ℕ). slice_get t 0) (is.member_is ∙ ap (λ (n : List ℕ). n ++ m.desc.now) name)))

  not_at_3 : IsLineOf (codes "p/B") m fault (reported_line (codes "m(J)V") 3 19) → ⊥
  not_at_3 is = omega (arith, same_Some 3 2 (is.number ∙ fails))

-- ---- the line of a method of an image

abbrev bytes : Ty
bytes = base_array bases.Byte

-- there is no room for a parameter
abbrev cramped : Code
cramped = record { max_stack = 0; max_locals = 0; instructions = []; ranges = []; frames = Some [] }

abbrev method : ℕ → List Ty → Option Ty → Method
method flags params ret = method_with flags (codes "m") params ret (Runs cramped)

abbrev of_long : Method
of_long = method 9 (base_type bases.Long ∷ []) None

abbrev methods : List Method
methods = of_long ∷ method 9 (bytes ∷ []) (Some bytes) ∷ method 1 (bytes ∷ []) (Some bytes) ∷ method 9 (bytes ∷ base_type bases.Float ∷ []) None ∷ method 1 [] (Some (base_type bases.Double)) ∷ []

abbrev imaged : Imaged
imaged = record { sources = record { class = class_with (codes "p/B") [] methods; pool = []; codes = []; values = [] } ∷ []; prefix = []; arrays = []; texts = [] }

abbrev found_of : Method → FoundMethod
found_of m = record { class = codes "p/B"; method = m }

abbrev takes_long : Signature
takes_long = record { parameters = Long ∷ []; result = None }

abbrev signature : FoundMethod → Option Signature
signature f = signature_of (is_static f.method.flags) f.method.desc

abbrev code_of : Body → Option Code
code_of (Runs code) = Some code
code_of body = None

first_found : (found : FoundMethod) → slice_get (all_methods (program_of imaged)) 0 ≡ Some found → found_of of_long ≡ found
unfolding all_methods class_of_source
first_found found there = same_Some (found_of of_long) found there

shape_line : IsShapeLine imaged 0 (reported_line (codes "m(J)V") 0 19)
unfolding all_methods class_of_source
shape_line = record {
  found = found_of of_long;
  there = refl;
  code = cramped;
  runs = refl;
  signature = takes_long;
  kinds = refl;
  such = (refl, inl (λ fit. omega (arith, fit), refl));
  path = path_of_b;
  desc = codes "(J)V";
  spelled = record { text_is = refl; valid = ((record { few = omega arith; named = tt }, tt), tt, omega arith) };
  member = refl;
  rule = refl;
}

no_shape_line_of_18 : IsShapeLine imaged 0 (reported_line (codes "m(J)V") 0 18) → ⊥
no_shape_line_of_18 is = (let e = is.rule in omega (arith, e))

no_shape_line_turned : IsShapeLine imaged 0 (reported_line (codes "(J)Vm") 0 19) → ⊥
no_shape_line_turned is =
    let named = ap (λ (f : FoundMethod). f.method.name ++ is.desc) (sym (first_found is.found is.there)) in
    omega (arith, same_Some 40 109 (ap (λ (t : List ℕ). slice_get t 0) (is.member ∙ named)))

-- parameters that don't fit are reported at the first instruction
no_shape_line_at_1 : IsShapeLine imaged 0 (reported_line (codes "m(J)V") 1 19) → ⊥
no_shape_line_at_1 is =
    let found = first_found is.found is.there in
    let code : Some cramped ≡ Some is.code = ap (λ (f : FoundMethod). code_of f.method.body) found ∙ ap code_of is.runs in
    let kinds : Some takes_long ≡ Some is.signature = ap signature found ∙ is.kinds in
    let room = ap (λ (c : Code). c.max_locals) (same_Some cramped is.code code) in
    let slots = ap (λ (s : Signature). length (in_slots is_wide s.parameters)) (same_Some takes_long is.signature kinds) in
    elim is.such.1 [ inl at ↦ (let e = at.1 in omega (arith, e)) | inr fits ↦ (let fit = fits.0 in omega (arith, fit, room, slots)) ]

-- ---- kinds

kinds_at : (number : ℕ) (m : Method) → slice_get (all_methods (program_of imaged)) number ≡ Some (found_of m) → IsTrue (is_some (signature (found_of m))) → HasKinds imaged number
kinds_at number m at has found there = subst (λ (f : FoundMethod). IsTrue (is_some (signature f))) (same_Some (found_of m) found (sym at ∙ there)) has

of_bytes : HasKinds imaged 1 × HasKinds imaged 2
unfolding all_methods class_of_source
of_bytes = (kinds_at 1 (method 9 (bytes ∷ []) (Some bytes)) refl refl, kinds_at 2 (method 1 (bytes ∷ []) (Some bytes)) refl refl)

not_of_floats : (HasKinds imaged 3 → ⊥) × (HasKinds imaged 4 → ⊥)
unfolding all_methods class_of_source
not_of_floats = (λ has. false≢true (has (found_of (method 9 (bytes ∷ base_type bases.Float ∷ []) None)) refl), λ has. false≢true (has (found_of (method 1 [] (Some (base_type bases.Double)))) refl))
