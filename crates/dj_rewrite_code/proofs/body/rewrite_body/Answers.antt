use Rattle.std.proofs.Common.{◌≡◌, ℕ, List, map, Result, Err, sym, ap, ap₂, subst, ◌∙◌}
use Rattle.std.proofs.lemmas.Result.{err_from_is_err_and}
use Rattle.dj_frames.specs.Moves.{moved_frame}
use Rattle.dj_frames.specs.trusted.Written.{stack_map_bytes}
use Rattle.dj_class.specs.CodeViews.{code_of}
use Rattle.dj_groups.specs.Groups.{starts, owns}
use Rattle.dj_program.specs.Views.{parts_of}
use Rattle.dj_image.specs.Imaged.{program_of}
use Rattle.dj_emit.specs.Filed.{groups_in}
use Rattle.dj_rewritten.specs.Files.{frames_in}
use Rattle.dj_rewrite_code.specs.declared.error.CodeError.{CodeError}
use Rattle.dj_rewrite_code.specs.Answers.{groups_by, CanMove, IsWritten, WritesCode}
use Rattle.dj_rewrite_code.specs.Steps.{AnswersGrouped, AnswersLaid}
use Rattle.dj_rewrite_code.proofs.Assembling as whole
use Rattle.dj_rewrite_code.proofs.body.rewrite_body.Goals as goal

pub returns-in_err-grouped : goal.returns-in_err-grouped
returns-in_err-grouped c =
    let program = program_of c.args.image.now in
    let info = code_of c.args.view.now in
    let parts = parts_of c.args.code.now in
    let p = err_from_is_err_and c.from_residual-in_err-grouped.result c.from_residual-in_err-grouped.ensures.1 in
    let given : AnswersGrouped c.args.first (groups_in program c.args.pool.now parts.labelled) parts.labelled (Err p.0) =
    subst (λ (e : CodeError). AnswersGrouped c.args.first (groups_in program c.args.pool.now parts.labelled) parts.labelled (Err e)) (sym p.2) c.in_err-grouped.ensures in
    subst (λ (r : Result (List ℕ) CodeError). WritesCode program c.args.pool.now c.args.first info parts r) (sym p.1)
    (whole.refused_grouped program c.args.pool.now c.args.first info parts c.requires p.0 given)

pub laid_out-requires : goal.laid_out-requires
laid_out-requires c =
    let program = program_of c.args.image.now in
    let info = code_of c.args.view.now in
    let parts = parts_of c.args.code.now in
    let has = whole.grouped_as program c.args.pool.now c.args.first info parts c.requires c.in_ok-grouped.grouped c.in_ok-grouped.ensures in
    whole.made_well program c.args.pool.now c.args.first info parts c.requires c.in_ok-grouped.grouped has

pub returns-in_err-laid : goal.returns-in_err-laid
returns-in_err-laid c =
    let program = program_of c.args.image.now in
    let info = code_of c.args.view.now in
    let parts = parts_of c.args.code.now in
    let has = whole.grouped_as program c.args.pool.now c.args.first info parts c.requires c.in_ok-grouped.grouped c.in_ok-grouped.ensures in
    let p = err_from_is_err_and c.from_residual-in_err-laid.result c.from_residual-in_err-laid.ensures.1 in
    let given : AnswersLaid c.in_ok-grouped.grouped.code (Err p.0) = subst (λ (e : CodeError). AnswersLaid c.in_ok-grouped.grouped.code (Err e)) (sym p.2) c.in_err-laid.ensures in
    subst (λ (r : Result (List ℕ) CodeError). WritesCode program c.args.pool.now c.args.first info parts r) (sym p.1)
    (whole.refused_laid program c.args.pool.now c.args.first info parts c.requires c.in_ok-grouped.grouped p.0 has given)

pub map_of-requires : goal.map_of-requires
map_of-requires c =
    let program = program_of c.args.image.now in
    let info = code_of c.args.view.now in
    let parts = parts_of c.args.code.now in
    let has = whole.grouped_as program c.args.pool.now c.args.first info parts c.requires c.in_ok-grouped.grouped c.in_ok-grouped.ensures in
    let laid = whole.laid_as program c.args.pool.now c.args.first info parts c.requires c.in_ok-grouped.grouped c.in_ok-laid.laid has c.in_ok-laid.ensures in
    subst (λ (addresses : List ℕ). CanMove c.in_ok-grouped.grouped addresses (frames_in parts.frames)) (sym c.as_slice.ensures)
    (whole.can_move program c.args.pool.now c.args.first info parts c.requires c.in_ok-laid.laid laid c.in_ok-grouped.grouped has)

pub returns : goal.returns
returns c =
    let program = program_of c.args.image.now in
    let info = code_of c.args.view.now in
    let parts = parts_of c.args.code.now in
    let has = whole.grouped_as program c.args.pool.now c.args.first info parts c.requires c.in_ok-grouped.grouped c.in_ok-grouped.ensures in
    let laid = whole.laid_as program c.args.pool.now c.args.first info parts c.requires c.in_ok-grouped.grouped c.in_ok-laid.laid has c.in_ok-laid.ensures in
    let body : c.as_slice-2.result.now ≡ stack_map_bytes c.in_ok-laid.laid.starts (map (moved_frame (starts (groups_by program c.args.pool.now parts)) (owns (groups_by program c.args.pool.now parts))) (frames_in parts.frames)) =
    c.as_slice-2.ensures ∙ c.in_ok-map.ensures
    ∙ ap (λ (addresses : List ℕ). stack_map_bytes addresses (map (moved_frame c.in_ok-grouped.grouped.start c.in_ok-grouped.grouped.own) (frames_in parts.frames))) c.as_slice.ensures
    ∙ ap₂ (λ (s o : List ℕ). stack_map_bytes c.in_ok-laid.laid.starts (map (moved_frame s o) (frames_in parts.frames))) has.is.start has.is.own in
    subst (λ (bytes : List ℕ). IsWritten program c.args.pool.now c.args.first info parts bytes) (sym c.in_ok-spelled.ensures)
    (whole.written program c.args.pool.now c.args.first info parts c.requires c.in_ok-laid.laid laid c.in_ok-grouped.grouped c.in_ok-max_stack.max_stack c.as_slice-2.result.now has
    c.in_ok-max_stack.ensures.0 c.in_ok-max_stack.ensures.1 body)
