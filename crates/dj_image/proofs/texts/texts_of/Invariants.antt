use Rattle.std.proofs.Common.{take}
use Rattle.dj_image.specs.Texts.{AreTexts, texts_of}
use Rattle.dj_image.proofs.texts.texts_of.Given as goal

-- the texts of the classes so far
abbrev pub invariant-loop-class : goal.invariant-loop-class
invariant-loop-class l = AreTexts (texts_of (take l.class-index l.parts)) l.texts
