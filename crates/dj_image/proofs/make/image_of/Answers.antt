use Rattle.std.proofs.Common.{◌≡◌, ◌↔◌, Contains, List, map, IsTrue, sym, ap, subst, arith}
use Rattle.std.specs.Prelude.{is_some}
use Rattle.dj_numbering.specs.Shapes.{shape_type}
use Rattle.dj_numbering.specs.Typed.{Typed, AreArrays, chars_at}
use Rattle.dj_names.specs.declared.descriptor.Ty.{Ty}
use Rattle.dj_image.specs.declared.parts.ClassParts.{ClassParts}
use Rattle.dj_image.specs.Imaged.{Imaged, IsNumbered}
use Rattle.dj_image.specs.Parts.{FitClasses, HasString, sources_of}
use Rattle.dj_image.specs.ArrayRows.{IsRow, wholes_of}
use Rattle.dj_image.specs.Tables.{imaged_of, AreClosed}
use Rattle.dj_image.specs.Texts.{texts_of}
use Rattle.dj_image.specs.Uses.{SameMembers}
use Rattle.dj_image.proofs.Counts.{methods_count, fields_count}
use Rattle.dj_image.proofs.Making.{have_pools, chars_numbered, rows_closed, image_numbered, ok_is}
use Rattle.dj_image.proofs.make.image_of.Goals as goal

pub arrays_of-requires : goal.arrays_of-requires
arrays_of-requires c = subst (FitClasses c.args.linker.program) (sym c.deref.ensures.value) c.requires.fit

pub texts_of-requires : goal.texts_of-requires
texts_of-requires c = have_pools c.args.linker.program c.deref-3.result.now (subst (FitClasses c.args.linker.program) (sym c.deref-3.ensures.value) c.requires.fit)

pub of-requires-clause-few_methods : goal.of-requires-clause-few_methods
of-requires-clause-few_methods c = omega (arith, c.requires.few.methods, methods_count c.args.linker.program c.args.parts.items c.requires.fit)

pub of-requires-clause-few_fields : goal.of-requires-clause-few_fields
of-requires-clause-few_fields c = omega (arith, c.requires.few.fields, fields_count c.args.linker.program c.args.parts.items c.requires.fit)

pub image_from-requires-clause-arrays : goal.image_from-requires-clause-arrays
image_from-requires-clause-arrays c = subst (λ (t : Typed). AreArrays t.program t.arrays) (sym c.in_ok-types.ensures) c.in_ok-arrays.ensures.arrays

pub image_from-requires-clause-fit : goal.image_from-requires-clause-fit
image_from-requires-clause-fit c = subst (λ (t : Typed). FitClasses t.program c.args.parts.items) (sym c.in_ok-types.ensures) c.requires.fit

pub image_from-requires-clause-string : goal.image_from-requires-clause-string
image_from-requires-clause-string c = subst (λ (t : Typed). HasString t.program t.prefix) (sym c.in_ok-types.ensures) c.requires.string

pub image_from-requires-clause-chars : goal.image_from-requires-clause-chars
image_from-requires-clause-chars c =
    let program = c.args.linker.program in
    let arrays = map (shape_type program) c.in_ok-arrays.arrays.items in
    let rows : (ty : Ty) → Contains arrays ty ↔ IsRow (wholes_of program c.args.parts.items) ty =
    λ ty. subst (λ (ps : List ClassParts). Contains arrays ty ↔ IsRow (wholes_of program ps) ty) c.deref.ensures.value (c.in_ok-arrays.ensures.numbered ty) in
    subst (λ (t : Typed). IsTrue (is_some (chars_at t))) (sym c.in_ok-types.ensures) (chars_numbered program c.args.linker.prefix c.args.parts.items arrays rows)

pub image_from-requires-clause-closed : goal.image_from-requires-clause-closed
image_from-requires-clause-closed c =
    let program = c.args.linker.program in
    let arrays = map (shape_type program) c.in_ok-arrays.arrays.items in
    let rows : (ty : Ty) → Contains arrays ty ↔ IsRow (wholes_of program c.args.parts.items) ty =
    λ ty. subst (λ (ps : List ClassParts). Contains arrays ty ↔ IsRow (wholes_of program ps) ty) c.deref.ensures.value (c.in_ok-arrays.ensures.numbered ty) in
    subst (λ (t : Typed). AreClosed t.arrays) (sym c.in_ok-types.ensures) (rows_closed (wholes_of program c.args.parts.items) arrays rows)

pub image_from-requires-clause-numbered : goal.image_from-requires-clause-numbered
image_from-requires-clause-numbered c =
    let program = c.args.linker.program in
    let arrays = map (shape_type program) c.in_ok-arrays.arrays.items in
    let texts = c.in_ok-texts.texts.items in
    let rows : (ty : Ty) → Contains arrays ty ↔ IsRow (wholes_of program c.args.parts.items) ty =
    λ ty. subst (λ (ps : List ClassParts). Contains arrays ty ↔ IsRow (wholes_of program ps) ty) c.deref.ensures.value (c.in_ok-arrays.ensures.numbered ty) in
    let same : SameMembers texts (texts_of c.args.parts.items) = subst (λ (ps : List ClassParts). SameMembers texts (texts_of ps)) c.deref-3.ensures.value c.in_ok-texts.ensures.listed in
    subst (λ (t : Typed). IsNumbered (imaged_of t c.args.parts.items texts)) (sym c.in_ok-types.ensures)
    (image_numbered program c.args.linker.prefix c.args.parts.items arrays texts c.requires.fit rows c.in_ok-arrays.ensures.arrays.rise c.in_ok-texts.ensures.rise same)

pub returns-clause-sources : goal.returns-clause-sources
returns-clause-sources c =
    ok_is c.image_from.result (λ (i : Imaged). i.sources ≡ sources_of c.args.linker.program c.args.parts.items) (imaged_of c.in_ok-types.types c.args.parts.items c.in_ok-texts.texts.items) c.image_from.ensures
    (ap (λ (t : Typed). sources_of t.program c.args.parts.items) c.in_ok-types.ensures)

pub returns-clause-prefix : goal.returns-clause-prefix
returns-clause-prefix c =
    ok_is c.image_from.result (λ (i : Imaged). i.prefix ≡ c.args.linker.prefix) (imaged_of c.in_ok-types.types c.args.parts.items c.in_ok-texts.texts.items) c.image_from.ensures
    (ap (λ (t : Typed). t.prefix) c.in_ok-types.ensures)

pub returns-clause-numbered : goal.returns-clause-numbered
returns-clause-numbered c =
    let program = c.args.linker.program in
    let arrays = map (shape_type program) c.in_ok-arrays.arrays.items in
    let texts = c.in_ok-texts.texts.items in
    let rows : (ty : Ty) → Contains arrays ty ↔ IsRow (wholes_of program c.args.parts.items) ty =
    λ ty. subst (λ (ps : List ClassParts). Contains arrays ty ↔ IsRow (wholes_of program ps) ty) c.deref.ensures.value (c.in_ok-arrays.ensures.numbered ty) in
    let same : SameMembers texts (texts_of c.args.parts.items) = subst (λ (ps : List ClassParts). SameMembers texts (texts_of ps)) c.deref-3.ensures.value c.in_ok-texts.ensures.listed in
    ok_is c.image_from.result IsNumbered (imaged_of c.in_ok-types.types c.args.parts.items texts) c.image_from.ensures
    (subst (λ (t : Typed). IsNumbered (imaged_of t c.args.parts.items texts)) (sym c.in_ok-types.ensures)
    (image_numbered program c.args.linker.prefix c.args.parts.items arrays texts c.requires.fit rows c.in_ok-arrays.ensures.arrays.rise c.in_ok-texts.ensures.rise same))
