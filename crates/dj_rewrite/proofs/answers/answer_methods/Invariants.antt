use Rattle.std.proofs.Common.{map, take}
use Rattle.dj_class.specs.Members.{member_of}
use Rattle.dj_image.specs.Imaged.{program_of}
use Rattle.dj_rewrite.specs.Answers.{AreAnswers}
use Rattle.dj_rewrite.proofs.answers.answer_methods.Given as goal

-- what becomes of the methods so far
abbrev pub invariant-loop-method : goal.invariant-loop-method
invariant-loop-method l = AreAnswers (program_of l.image) l.view.pool l.first (map member_of (take l.method-index l.method-items)) l.answers.items
