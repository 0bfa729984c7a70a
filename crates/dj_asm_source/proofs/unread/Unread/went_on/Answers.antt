use Rattle.std.proofs.Common.{◌≡◌, Err, None, sym, ap, ◌∙◌, subst}
use Rattle.std.specs.Option.{option_map}
use Rattle.dj_asm_source.specs.Order.{after}
use Rattle.dj_asm_source.specs.Reading.{Got}
use Rattle.dj_asm_source.specs.LineViews.{line_view}
use Rattle.dj_asm_source.specs.StateViews.{state_view}
use Rattle.dj_asm_source.specs.Unread.{UnreadLines, read_after, GivesLine}
use Rattle.dj_asm_source.proofs.UnreadLaws.{got_last}
use Rattle.dj_asm_source.proofs.unread.Unread.went_on.Goals as goal

pub returns-clause-line : goal.returns-clause-line
returns-clause-line c = λ rest.
    let last : after c.args.self.now.state (line_view c.args.line) ≡ None =
    subst (λ (u : UnreadLines). after u.state (line_view c.args.line) ≡ None) c.self.view_is (sym c.after.ensures ∙ ap (option_map state_view) c.in-None.is) in
    subst (λ e. GivesLine (read_after c.args.self.now (Got (line_view c.args.line) rest)) c.args.self.now (Err e)) (sym c.missing.ensures)
    (got_last c.args.self.now (line_view c.args.line) rest last)
