use Rattle.std.proofs.Common.{ℕ, List, take, ◌++◌}
use Rattle.std.specs.List.{filter_map}
use Rattle.dj_image.specs.Uses.{pushed_text}
use Rattle.dj_image.specs.Texts.{AreTexts}
use Rattle.dj_image.proofs.texts.add_uses.Given as goal

-- the texts of the uses so far
abbrev pub invariant-loop-one : goal.invariant-loop-one
invariant-loop-one l = (all : List (List ℕ)) → AreTexts all l.fn.texts → AreTexts (all ++ filter_map (pushed_text l.pool) (take l.one-index l.uses)) l.texts
