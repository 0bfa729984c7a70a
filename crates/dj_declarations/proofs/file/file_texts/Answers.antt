use Rattle.std.proofs.Common.{List, ℕ, sym, subst}
use Rattle.dj_declarations.specs.MemberRows.{AreNumbered}
use Rattle.dj_declarations.proofs.file.file_texts.Goals as goal

pub returns : goal.returns
returns c = subst (λ (texts : List (List ℕ)). AreNumbered c.args.view.now.pool c.in_ok-places.places.items texts) (sym c.shrink.ensures) c.in_ok-places.ensures
