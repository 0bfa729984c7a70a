use Rattle.dj_image.specs.Imaged.{program_of}
use Rattle.dj_model.specs.trusted.Linking.{most_classes}
use Rattle.dj_initialisation.specs.Waiting.{IsWalked, waiting_count}
use Rattle.dj_initialisation.proofs.waiting.begin_upward.Given as goal

abbrev pub invariant-loop-next : goal.invariant-loop-next
invariant-loop-next l = IsWalked (program_of l.image) most_classes l.class l.fn.flags l.flags l.path.items l.next

abbrev pub decreases-loop-next : goal.decreases-loop-next
decreases-loop-next l = waiting_count l.flags
