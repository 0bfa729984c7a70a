use Rattle.std.proofs.Common.{List, ℕ, subst}
use Rattle.dj_edge.proofs.Lists.{ok_so}
use Rattle.dj_early_rules.specs.Gathered.{texts_of, AreClassTexts, AreTextsAt}
use Rattle.dj_early_rules.proofs.HeadLaws.{interfaces_are}
use Rattle.dj_early_rules.proofs.heads.interface_names.Goals as goal

pub returns : goal.returns
returns c =
    let pool = c.args.view.now.pool in
    let texts = c.args.texts.now in
    let firsts = c.in_ok-firsts.firsts.items in
    let once = c.each_index_once-once.result.items in
    ok_so c.texts_at.result (λ names. AreTextsAt pool c.deref.result.now (texts_of names.items)) _
    (λ names reported. interfaces_are pool texts c.args.view.now.interfaces firsts once (texts_of names.items) c.requires
    (subst (λ (indexes : List ℕ). AreClassTexts pool texts indexes firsts) c.as_slice.ensures c.in_ok-firsts.ensures)
    c.each_index_once-once.ensures
    (subst (λ (indexes : List ℕ). AreTextsAt pool indexes (texts_of names.items)) c.deref.ensures.value reported))
    c.texts_at.ensures
