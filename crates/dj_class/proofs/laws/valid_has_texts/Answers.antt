use Rattle.dj_class.proofs.TextLaws.{valid_has_texts}
use Rattle.dj_class.proofs.laws.valid_has_texts.Goals as goal

pub returns : goal.returns
returns c = valid_has_texts
