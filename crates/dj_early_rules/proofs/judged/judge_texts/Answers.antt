use Rattle.std.proofs.Common.{◌≡◌, ℕ, length, List, Bool, subst, arith}
use Rattle.std.proofs.lemmas.Result.{IfOk-weaker}
use Rattle.dj_class.specs.Views.{class_of}
use Rattle.dj_early_rules.specs.Judged.{AreOwnTexts}
use Rattle.dj_early_rules.specs.Prints.{AreDistinct}
use Rattle.dj_early_rules.proofs.OwnTexts.{own_texts, own_numbered}
use Rattle.dj_early_rules.proofs.judged.judge_texts.Goals as goal

pub returns-then-branch-clause-texts : goal.returns-then-branch-clause-texts
returns-then-branch-clause-texts c =
    let many = c.in_ok-marks.ensures.count in
    let len = c.len.ensures in
    IfOk-weaker c.judge_own_texts.result _ _ (λ texts own. own_texts c.args.view.now.pool c.len.result texts.items (omega (arith, many, len)) own) c.judge_own_texts.ensures

pub returns-then-branch-clause-numbered : goal.returns-then-branch-clause-numbered
returns-then-branch-clause-numbered c =
    let marks = c.in_ok-marks.marks.items in
    let pool = c.args.view.now.pool in
    let len = c.len.ensures in
    let whole : c.len.result ≡ length marks = omega (arith, len) in
    let distinct = subst (λ (ms : List Bool). AreDistinct pool ms) c.deref.ensures.value (c.in_ok-are_distinct.ensures c.if-branch.true) in
    IfOk-weaker c.judge_own_texts.result _ _
    (λ texts own. own_numbered (class_of c.args.view.now) marks texts.items c.in_ok-marks.ensures distinct (subst (λ (n : ℕ). AreOwnTexts pool n texts.items) whole own)) c.judge_own_texts.ensures
