use Rattle.std.proofs.Common.{sym, ◌∙◌}
use Rattle.dj_image.proofs.TextFacts.{found_there, text_more}
use Rattle.dj_image.proofs.UseLists.{same_known}
use Rattle.dj_image.proofs.texts.add_text.Goals as goal

pub returns-in_ok-insert : goal.returns-in_ok-insert
returns-in_ok-insert c = λ all same. text_more c.args.texts.now.keys c.insert.new.self.keys c.in_ok-from_slice.field-0 c.args.units.now all c.in_ok-insert.ensures.keys c.in_ok-from_slice.ensures.items same

pub returns-else-not-contains : goal.returns-else-not-contains
returns-else-not-contains c = λ all same. same_known _ all c.args.units.now same (found_there c.args.units.now c.args.texts.now.keys (sym c.contains.ensures ∙ c.if-not-contains.false))
