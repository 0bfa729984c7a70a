use Rattle.std.proofs.Common.{sym, ◌∙◌}
use Rattle.dj_class.specs.Members.{member_of}
use Rattle.dj_rewrite.proofs.LargeTexts.{text_added, none_added}
use Rattle.dj_rewrite.proofs.large.add_text.Goals as goal

pub returns-then-not-is_large : goal.returns-then-not-is_large
returns-then-not-is_large c = none_added c.args.pool.now (member_of c.args.method.now) c.args.answer.now c.args.texts.now.items (sym c.is_large.ensures ∙ c.if-not-is_large.true)

pub returns : goal.returns
returns c =
    text_added c.args.pool.now (member_of c.args.method.now) c.args.answer.now c.args.texts.now.items c.push.new.self.items c.in_ok-text.text (sym c.is_large.ensures ∙ c.if-not-is_large.false)
    c.in_ok-text.ensures c.in_ok-push.ensures.items
