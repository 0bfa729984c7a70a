use Rattle.std.proofs.Common.{◌≡◌, refl, sym, ap, ◌∙◌, true, false}
use Rattle.std.proofs.lemmas.Result.{err_from_is_err_and}
use Rattle.dj_cursor.specs.Reading.{at_end}
use Rattle.dj_cursor.specs.Views.{cursor_of}
use Rattle.dj_class.specs.Reading.{header_at}
use Rattle.dj_class.specs.Tests.{heading_of}
use Rattle.dj_class.proofs.Whole.{Prefix, ReadsPrefix, fields_fail, methods_fail, attributes_fail, has_attributes}
use Rattle.dj_class.proofs.class.read_all.Goals as goal

pub returns-in_err-fields : goal.returns-in_err-fields
returns-in_err-fields c =
    let p = err_from_is_err_and c.from_residual-in_err-fields.result c.from_residual-in_err-fields.ensures.1 in
    let prefix : Prefix = record { header = ((c.in_ok-versions.versions.0, c.in_ok-versions.versions.1), cursor_of c.in_ok-versions.after); pool = (c.in_ok-pool.pool, cursor_of c.in_ok-pool.after); heading = (heading_of c.in_ok-opening.opening, cursor_of c.in_ok-opening.after) } in
    let h : ReadsPrefix c.args.file.now prefix = record { header = ap header_at (sym c.start-start.ensures) ∙ c.in_ok-versions.ensures; pool = rw c.in_ok-pool.ensures; heading = c.in_ok-opening.ensures } in
    rw (p.1, p.2) (fields_fail c.in_err-fields.field-0.0 c.args.file.now prefix h c.in_err-fields.ensures)

pub returns-in_err-methods : goal.returns-in_err-methods
returns-in_err-methods c =
    let p = err_from_is_err_and c.from_residual-in_err-methods.result c.from_residual-in_err-methods.ensures.1 in
    let prefix : Prefix = record { header = ((c.in_ok-versions.versions.0, c.in_ok-versions.versions.1), cursor_of c.in_ok-versions.after); pool = (c.in_ok-pool.pool, cursor_of c.in_ok-pool.after); heading = (heading_of c.in_ok-opening.opening, cursor_of c.in_ok-opening.after) } in
    let h : ReadsPrefix c.args.file.now prefix = record { header = ap header_at (sym c.start-start.ensures) ∙ c.in_ok-versions.ensures; pool = rw c.in_ok-pool.ensures; heading = c.in_ok-opening.ensures } in
    rw (p.1, p.2) (methods_fail c.in_err-methods.field-0.0 c.args.file.now prefix (c.in_ok-fields.fields, cursor_of c.in_ok-fields.after) h c.in_ok-fields.ensures c.in_err-methods.ensures)

pub returns-in_err-attributes : goal.returns-in_err-attributes
returns-in_err-attributes c =
    let p = err_from_is_err_and c.from_residual-in_err-attributes.result c.from_residual-in_err-attributes.ensures.1 in
    let prefix : Prefix = record { header = ((c.in_ok-versions.versions.0, c.in_ok-versions.versions.1), cursor_of c.in_ok-versions.after); pool = (c.in_ok-pool.pool, cursor_of c.in_ok-pool.after); heading = (heading_of c.in_ok-opening.opening, cursor_of c.in_ok-opening.after) } in
    let h : ReadsPrefix c.args.file.now prefix = record { header = ap header_at (sym c.start-start.ensures) ∙ c.in_ok-versions.ensures; pool = rw c.in_ok-pool.ensures; heading = c.in_ok-opening.ensures } in
    rw (p.1, p.2) (attributes_fail c.in_err-attributes.field-0.0 c.args.file.now prefix (c.in_ok-fields.fields, cursor_of c.in_ok-fields.after) (c.in_ok-methods.methods, cursor_of c.in_ok-methods.after) h c.in_ok-fields.ensures c.in_ok-methods.ensures c.in_err-attributes.ensures)

pub returns-then-not-is_at_end : goal.returns-then-not-is_at_end
returns-then-not-is_at_end c =
    let prefix : Prefix = record { header = ((c.in_ok-versions.versions.0, c.in_ok-versions.versions.1), cursor_of c.in_ok-versions.after); pool = (c.in_ok-pool.pool, cursor_of c.in_ok-pool.after); heading = (heading_of c.in_ok-opening.opening, cursor_of c.in_ok-opening.after) } in
    let h : ReadsPrefix c.args.file.now prefix = record { header = ap header_at (sym c.start-start.ensures) ∙ c.in_ok-versions.ensures; pool = rw c.in_ok-pool.ensures; heading = c.in_ok-opening.ensures } in
    let left : at_end (cursor_of c.in_ok-attributes.after) ≡ false = sym c.if-not-is_at_end.ensures in
    has_attributes c.args.file.now prefix (c.in_ok-fields.fields, cursor_of c.in_ok-fields.after) (c.in_ok-methods.methods, cursor_of c.in_ok-methods.after) (c.in_ok-attributes.attributes, cursor_of c.in_ok-attributes.after) h c.in_ok-fields.ensures c.in_ok-methods.ensures c.in_ok-attributes.ensures ∙ rw left refl

pub returns : goal.returns
returns c =
    let prefix : Prefix = record { header = ((c.in_ok-versions.versions.0, c.in_ok-versions.versions.1), cursor_of c.in_ok-versions.after); pool = (c.in_ok-pool.pool, cursor_of c.in_ok-pool.after); heading = (heading_of c.in_ok-opening.opening, cursor_of c.in_ok-opening.after) } in
    let h : ReadsPrefix c.args.file.now prefix = record { header = ap header_at (sym c.start-start.ensures) ∙ c.in_ok-versions.ensures; pool = rw c.in_ok-pool.ensures; heading = c.in_ok-opening.ensures } in
    let left : at_end (cursor_of c.in_ok-attributes.after) ≡ true = sym c.if-not-is_at_end.ensures in
    has_attributes c.args.file.now prefix (c.in_ok-fields.fields, cursor_of c.in_ok-fields.after) (c.in_ok-methods.methods, cursor_of c.in_ok-methods.after) (c.in_ok-attributes.attributes, cursor_of c.in_ok-attributes.after) h c.in_ok-fields.ensures c.in_ok-methods.ensures c.in_ok-attributes.ensures ∙ rw (left, c.into_pool.ensures) refl
