use Rattle.std.proofs.Common.{true, false, refl, sym, ◌∙◌}
use Rattle.dj_model.specs.trusted.Program.{has_flag}
use Rattle.dj_declarations.proofs.FileLaws.{flag_reported, kept_by}
use Rattle.dj_declarations.proofs.file.body_of.Goals as goal

pub returns-then-is_native : goal.returns-then-is_native
returns-then-is_native c =
    let flags = c.args.flags in
    kept_by true (has_flag 10 flags) flags (sym c.if-is_native.true ∙ flag_reported c.is_native.result flags 8 c.is_native.ensures) refl

pub returns-then-is_abstract : goal.returns-then-is_abstract
returns-then-is_abstract c =
    let flags = c.args.flags in
    kept_by false true flags (sym c.if-is_native.false ∙ flag_reported c.is_native.result flags 8 c.is_native.ensures) (sym c.if-is_abstract.true ∙ flag_reported c.is_abstract.result flags 10 c.is_abstract.ensures)

pub returns : goal.returns
returns c =
    let flags = c.args.flags in
    kept_by false false flags (sym c.if-is_native.false ∙ flag_reported c.is_native.result flags 8 c.is_native.ensures) (sym c.if-is_abstract.false ∙ flag_reported c.is_abstract.result flags 10 c.is_abstract.ensures)
