use Rattle.std.proofs.Common.{◌≡◌, ◌∷◌, Err, sym, subst}
use Rattle.dj_asm_source.specs.Reading.{Got}
use Rattle.dj_asm_source.specs.LineReading.{line}
use Rattle.dj_asm_source.specs.LineViews.{line_view}
use Rattle.dj_asm_tokens.specs.Views.{placed_view, left_of}
use Rattle.dj_asm_source.specs.Stops.{Stops}
use Rattle.dj_asm_source.specs.Unread.{UnreadLines, read_after, GivesLine}
use Rattle.dj_asm_source.proofs.UnreadLaws.{stopped_line}
use Rattle.dj_asm_source.proofs.unread.Unread.said.Goals as goal

pub returns-in-Ok-clause-line : goal.returns-in-Ok-clause-line
returns-in-Ok-clause-line c =
    let read : line c.args.self.now.state (placed_view c.args.first ∷ left_of c.args.at) ≡ Got (line_view c.in-Ok.line) (left_of c.in-Ok.field-0-1) =
    subst (λ (u : UnreadLines). line u.state (placed_view c.args.first ∷ left_of c.args.at) ≡ Got (line_view c.in-Ok.line) (left_of c.in-Ok.field-0-1))
    c.self.view_is (rw c.in-Ok.is at c.line.ensures) in
    subst (λ r. GivesLine (read_after c.args.self.now r) c.went_on.new.self c.went_on.result) (sym read) (c.went_on.ensures.line (left_of c.in-Ok.field-0-1))

pub returns-in-Err-clause-line : goal.returns-in-Err-clause-line
returns-in-Err-clause-line c =
    let stops : Stops c.in-Err.stop (line c.args.self.now.state (placed_view c.args.first ∷ left_of c.args.at)) =
    subst (λ (u : UnreadLines). Stops c.in-Err.stop (line u.state (placed_view c.args.first ∷ left_of c.args.at))) c.self.view_is (rw c.in-Err.is at c.line.ensures) in
    subst (λ e. GivesLine (read_after c.args.self.now (line c.args.self.now.state (placed_view c.args.first ∷ left_of c.args.at))) c.args.self.now (Err e)) (sym c.fault.ensures)
    (stopped_line c.args.self.now c.args.self.now c.in-Err.stop (line c.args.self.now.state (placed_view c.args.first ∷ left_of c.args.at)) stops)
