use Rattle.std.proofs.Common.{sym, ◌∙◌}
use Rattle.std.proofs.lemmas.Bool.{true≢false}
use Rattle.dj_natives_tests.proofs.KindsTaken.{arguments_of}
use Rattle.dj_natives_tests.proofs.taken.are_arguments.Goals as goal

pub returns-then-row : goal.returns-then-row
returns-then-row c = λ t.
    arguments_of c.in-Some.row.now c.args.id c.args.heap.now c.args.values.now c.in-Some.ensures.0 c.in-Some.ensures.1 (c.are_of_kinds.ensures c.if-not-are_of_kinds.false)
    (λ other. absurd (true≢false (sym c.if-row.true ∙ other)))

pub returns-else-row : goal.returns-else-row
returns-else-row c = λ t.
    arguments_of c.in-Some.row.now c.args.id c.args.heap.now c.args.values.now c.in-Some.ensures.0 c.in-Some.ensures.1 (c.are_of_kinds.ensures c.if-not-are_of_kinds.false)
    (λ other. c.begin_with_chars.ensures t)
