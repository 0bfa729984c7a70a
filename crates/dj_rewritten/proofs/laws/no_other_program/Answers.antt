use Rattle.dj_names.specs.Library.{sandbox_library}
use Rattle.dj_groups.specs.Rewritten.{rewritten}
use Rattle.dj_rewritten.proofs.Programs.{program_read, files_good}
use Rattle.dj_rewritten.proofs.Once.{one_program}
use Rattle.dj_rewritten.proofs.laws.no_other_program.Goals as goal

pub returns : goal.returns
returns c = λ cs ds program other good r h o.
    one_program sandbox_library ds other (rewritten program) (files_good program cs ds good r) o (program_read c.written_is_stack_map.ensures c.stack_map_is_well_formed.ensures program cs ds good r h)
