-- What rule 19, SHAPE, is judged by of the method at a place is what is answered for its number.
use Rattle.std.proofs.Common.{◌≡◌, ℕ, List, Option, Some, None, refl, sym, ap, ◌∙◌, subst, get_or, IsTrue}
use Rattle.std.specs.Prelude.{slice_get, option_and_then}
use Rattle.std.specs.Option.{option_map}
use Rattle.std.specs.Global.{Vec}
use Rattle.std.proofs.lemmas.Option.{same_Some}
use Rattle.dj_names.specs.trusted.Types.{Name}
use Rattle.dj_model.specs.trusted.Program.{Body, Method, Runs, has_code}
use Rattle.dj_model.specs.trusted.Linking.{FoundMethod}
use Rattle.dj_class_table.specs.declared.place.Place.{Place}
use Rattle.dj_program.specs.trusted.Codes.{code_in}
use Rattle.dj_program.specs.Views.{parts_of}
use Rattle.dj_program.specs.declared.code.MethodCode.{MethodCode}
use Rattle.dj_shape_rule.specs.Pools.{ArePoolKinds}
use Rattle.dj_numbering.specs.Typed.{Typed}
use Rattle.dj_numbering.specs.Members.{all_methods, IsMethodPlace}
use Rattle.dj_image.specs.declared.operand.Operand.{Operand}
use Rattle.dj_image.specs.declared.parts.ClassParts.{ClassParts}
use Rattle.dj_image.specs.declared.shaped.ShapeParts.{ShapeParts}
use Rattle.dj_image.specs.Sources.{with_code}
use Rattle.dj_image.specs.Parts.{IsDescAt, FitClasses}
use Rattle.dj_image.specs.Imaged.{Imaged, program_of}
use Rattle.dj_image.specs.Codes.{pooled, code_at}
use Rattle.dj_image.specs.Shaped.{AreShapePartsAt, KeptShape, shape_lent, shape_of, shape_in, shape_kept}
use Rattle.dj_image.specs.Tables.{imaged_of, AreTables}
use Rattle.dj_image.proofs.Places.{FitsCode}
use Rattle.dj_image.proofs.KeptPlaces.{row_there, coded_there}

-- what is lent is what is kept of a class whose methods and constants are these
module _ (imaged : Imaged) (number member : ℕ) (p : ClassParts) (name : Name) (m : Method) (kinds : ArePoolKinds p.pool p.kinds)
    (described : IsTrue (has_code m.body) → IsDescAt p.pool (get_or p.descs.items member 0) m.desc) where
  shape_is : (code : Option MethodCode) → FitsCode m code → code_at imaged number ≡ pooled p.pool (option_map parts_of code)
      → slice_get (all_methods (program_of imaged)) number ≡ Some (record { class = name; method = with_code p.pool m (option_map parts_of code) })
      → (reported : Option ShapeParts) → option_map shape_lent reported ≡ option_map (shape_of p member) code → AreShapePartsAt imaged number reported
  shape_is None fits coded there None e = λ found code own runs.
      let same : m ≡ found.method = ap (λ (f : FoundMethod). f.method) (same_Some (record { class = name; method = m }) found (sym there ∙ own)) in
      fits (subst (λ (body : Body). IsTrue (has_code body)) (sym (ap (λ (x : Method). x.body) same ∙ runs)) refl)
  shape_is None fits coded there (Some reported) e = absurd cc
  shape_is (Some code) fits coded there None e = absurd cc
  shape_is (Some code) fits coded there (Some reported) e =
      let same : shape_lent reported ≡ shape_of p member code = same_Some (shape_lent reported) (shape_of p member code) e in
      record {
        found = record { class = name; method = with_code p.pool m (Some (parts_of code)) };
        there = there;
        pool = p.pool;
        runs = ap (λ (s : KeptShape). Runs (code_in p.pool (parts_of s.code))) (sym same);
        kinds = subst (λ (s : KeptShape). ArePoolKinds p.pool s.kinds) (sym same) kinds;
        desc = subst (λ (s : KeptShape). IsDescAt p.pool s.desc m.desc) (sym same) (described fits);
      }

module _ (types : Typed) (parts : List ClassParts) (texts : List (List ℕ)) (fit : FitClasses types.program parts) where
  pub shape_reported : (number : ℕ) (place : Place) → IsMethodPlace types number place → (reported : Option ShapeParts)
      → option_map shape_lent reported ≡ shape_kept parts place → AreShapePartsAt (imaged_of types parts texts) number reported
  shape_reported number place at reported is =
      let imaged = imaged_of types parts texts in
      let row = row_there types parts texts fit number place at in
      let kept : shape_kept parts place ≡ option_map (shape_of row.part place.member) row.code =
      ap (option_and_then (shape_in place.member)) row.own
      ∙ ap (λ (o : Option (Option MethodCode)). option_map (shape_of row.part place.member) (option_and_then (λ (code : Option MethodCode). code) o)) row.kept in
      shape_is imaged number place.member row.part row.name row.method row.kinds row.described row.code row.fits
      (coded_there types parts texts fit number place at)
      (ap (λ (n : ℕ). slice_get (all_methods (program_of imaged)) n) at.is ∙ row.whole)
      reported (is ∙ kept)

module _ {now : Imaged} {types : Typed} {parts : List ClassParts} {texts : List (List ℕ)} {operands : List (Vec Operand)} {named made : List (Vec (Option ℕ))}
    {constants : List (Vec Operand)} (is : imaged_of types parts texts ≡ now) (tables : AreTables types parts texts operands named made constants) where
  pub shape_now : (number : ℕ) (place : Place) → IsMethodPlace types number place → (ps : List ClassParts) → ps ≡ parts → (reported : Option ShapeParts)
      → option_map shape_lent reported ≡ shape_kept ps place → AreShapePartsAt now number reported
  shape_now number place at ps p reported e =
      subst (λ (n : Imaged). AreShapePartsAt n number reported) is
      (shape_reported types parts texts tables.fit number place at reported (e ∙ ap (λ (x : List ClassParts). shape_kept x place) p))
