use Rattle.std.proofs.Common.{rules, sym, ◌∙◌}
use Rattle.std.proofs.lemmas.List.{take_rest}
use Rattle.dj_asm_tokens.specs.Views.{token_view}
use Rattle.dj_asm_tokens.specs.Views.{piece_view}
use Rattle.dj_asm_tokens.proofs.LineLaws.{no_rest, step_token}
use Rattle.dj_asm_tokens.proofs.place.Place.next.Goals as goal

pub returns-then-is_empty-clause-token : goal.returns-then-is_empty-clause-token
returns-then-is_empty-clause-token c =
    sym c.at_word-place.ensures.tokens ∙ no_rest c.at_word-place.result.line c.at_word-place.result.column c.at_word-place.result.rest.now (search rules)

pub returns-in-Some-clause-token : goal.returns-in-Some-clause-token
returns-in-Some-clause-token c =
    sym c.at_word-place.ensures.tokens
    ∙ step_token c.at_word-place.result.line c.at_word-place.result.column c.at_word-place.result.rest.now _ (piece_view c.piece_at-piece.result) (token_view c.in-Some.token) c.piece_at-piece.ensures.piece (search rules) c.at_word-place.ensures.word (search rules)
    (search rules) (take_rest c.at_word-place.result.rest.now c.piece_at-piece.result.size)
