use Rattle.std.proofs.Common.{◌≡◌, true, length}
use Rattle.dj_names.specs.trusted.NameReading.{reads_class_name}
use Rattle.dj_names.proofs.name.names_class.Given as goal

-- the rest decides
abbrev pub invariant-loop-rest : goal.invariant-loop-rest
invariant-loop-rest l = reads_class_name l.fresh l.rest ≡ reads_class_name true l.fn.text

abbrev pub decreases-loop-rest : goal.decreases-loop-rest
decreases-loop-rest l = length l.rest
