use Rattle.std.proofs.Common.{◌≡◌, ◌+◌, true, nat_lt, refl, sym, ◌∙◌, arith}
use Rattle.std.proofs.lemmas.Bool.Decides.{nat_tests}
use Rattle.std.proofs.lemmas.List.{length-map}
use Rattle.dj_straight.specs.Methods.{action_view, code_view}
use Rattle.dj_straight.proofs.Shaping.{after_room, answers, not_found, viewed_at, last_answers}
use Rattle.dj_straight.proofs.shape.KindState.holds.Goals as goal

pub returns-then-number-len-clause-answer : goal.returns-then-number-len-clause-answer
returns-then-number-len-clause-answer c =
    let method = c.args.method.now in
    let i = action_view c.args.action in
    let same = after_room c.args.self.now method i c.args.self.now.kinds c.requires.room in
    let found = rw c.if-branch.true at c.in_ok-step.ensures.left in
    let e : nat_lt (c.args.number + 1) c.len.result ≡ true = grind (arith, nat_tests) in
    rw e (answers (code_view method) c.args.number i c.args.self.now.kinds c.step.new.self.kinds refl c.requires.before
    (viewed_at method c.args.number c.args.action c.requires.at) (sym same ∙ found)
    (λ last. absurd (omega (arith, length-map method.actions.items action_view, method.actions.ok.0))))

pub returns-else-number-len-clause-answer : goal.returns-else-number-len-clause-answer
returns-else-number-len-clause-answer c =
    let method = c.args.method.now in
    let i = action_view c.args.action in
    let same = after_room c.args.self.now method i c.args.self.now.kinds c.requires.room in
    let found = rw c.if-branch.true at c.in_ok-step.ensures.left in
    last_answers c.is_end.result (code_view method) c.args.number i c.args.self.now.kinds c.step.new.self.kinds refl c.is_end.ensures
    c.requires.before (viewed_at method c.args.number c.args.action c.requires.at) (sym same ∙ found)
    (omega (arith, length-map method.actions.items action_view, method.actions.ok.0))

pub returns-else-branch-clause-answer : goal.returns-else-branch-clause-answer
returns-else-branch-clause-answer c =
    let method = c.args.method.now in
    let i = action_view c.args.action in
    let same = after_room c.args.self.now method i c.args.self.now.kinds c.requires.room in
    let found = rw c.if-branch.false at c.in_ok-step.ensures.left in
    rw c.if-branch.false
    (not_found (code_view method) c.args.number i c.args.self.now.kinds c.requires.before
    (viewed_at method c.args.number c.args.action c.requires.at) (sym same ∙ found))
