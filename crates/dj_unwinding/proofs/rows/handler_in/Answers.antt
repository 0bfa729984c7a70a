use Rattle.std.proofs.Common.{◌≡◌, List, Some, length, get_or, sym, ap, ◌∙◌, arith}
use Rattle.std.specs.Prelude.{slice_get}
use Rattle.std.proofs.lemmas.Option.{slice_get-get_or}
use Rattle.dj_labels.specs.declared.labelled.Protected.{Protected}
use Rattle.dj_numbering.specs.Typed.{type_at}
use Rattle.dj_image.specs.Imaged.{typed_of}
use Rattle.dj_unwinding.specs.HandlerRows.{IsRowOf}
use Rattle.dj_unwinding.proofs.Catching.{found_here, passed_here, found_nowhere}
use Rattle.dj_unwinding.proofs.rows.handler_in.Goals as goal

abbrev none : Protected
none = record { start = 0; end = 0; handler = 0; catch_type = 0 }

pub returns-then-branch-clause-found : goal.returns-then-branch-clause-found
returns-then-branch-clause-found c =
    let image = c.args.image.now in
    let at = c.loop-at.at in
    let rows = c.as_slice-row-items.result.now in
    let stands : slice_get c.args.code.now.code.ranges at ≡ Some (get_or rows at none) =
    ap (λ (xs : List Protected). slice_get xs at) (sym c.as_slice-row-items.ensures) ∙ slice_get-get_or rows at none c.loop-at-test.true in
    let is : IsRowOf image c.args.method.number at (get_or rows at none) = record { code = c.args.code.now; reported = c.requires.reported; stands = stands } in
    found_here image c.args.method.number (type_at (typed_of image) c.args.class) c.args.number at (get_or rows at none) is c.loop-at.invariant
    (λ range e. sym c.if-branch.true ∙ c.in_ok-handles.ensures.says range e)

pub loop-at-preserved : goal.loop-at-preserved
loop-at-preserved c =
    let image = c.args.image.now in
    let at = c.loop-at.at in
    let rows = c.as_slice-row-items.result.now in
    let stands : slice_get c.args.code.now.code.ranges at ≡ Some (get_or rows at none) =
    ap (λ (xs : List Protected). slice_get xs at) (sym c.as_slice-row-items.ensures) ∙ slice_get-get_or rows at none c.loop-at-test.true in
    let is : IsRowOf image c.args.method.number at (get_or rows at none) = record { code = c.args.code.now; reported = c.requires.reported; stands = stands } in
    passed_here image c.args.method.number (type_at (typed_of image) c.args.class) c.args.number at (get_or rows at none) is c.loop-at.invariant
    (λ range e. sym c.if-branch.false ∙ c.in_ok-handles.ensures.says range e)

pub returns-clause-found : goal.returns-clause-found
returns-clause-found c =
    let image = c.args.image.now in
    let items = c.as_slice-row-items.ensures in
    found_nowhere image c.args.method.number (type_at (typed_of image) c.args.class) c.args.number c.loop-at.at c.args.code.now c.requires.reported c.loop-at.invariant
    (omega (arith, ap (λ (xs : List Protected). length xs) items))
