use Rattle.std.proofs.Common.{◌≡◌, ◌++◌, map}
use Rattle.dj_image.specs.Texts.{key_items}
use Rattle.dj_image.proofs.texts.listed.Given as goal

-- the texts so far, and those that follow
abbrev pub invariant-loop-text : goal.invariant-loop-text
invariant-loop-text l = l.listed.items ++ map key_items l.text-iterator ≡ map key_items l.texts.keys
