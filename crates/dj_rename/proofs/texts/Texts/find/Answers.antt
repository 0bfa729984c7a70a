use Rattle.std.proofs.Common.{subst}
use Rattle.dj_rename.specs.Renaming.{IsPlaceOf}
use Rattle.dj_rename.proofs.Places.{found}
use Rattle.dj_rename.proofs.texts.Texts.find.Goals as goal

pub returns : goal.returns
returns c = subst (λ l. IsPlaceOf l c.args.text.now c.get_index_of.result) c.self.view_is (found c.self.inside.texts.keys (λ text. text.items) c.args.text.now c.get_index_of.result c.get_index_of.ensures.index)
