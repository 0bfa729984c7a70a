use Rattle.dj_rewritten.proofs.Programs.{program_read}
use Rattle.dj_rewritten.proofs.laws.program_read_back.Goals as goal

pub returns : goal.returns
returns c = λ cs ds program good r h. program_read c.written_is_stack_map.ensures c.stack_map_is_well_formed.ensures program cs ds good r h
