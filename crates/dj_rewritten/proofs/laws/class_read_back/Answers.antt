use Rattle.dj_rewritten.proofs.ReadBack.{read_back}
use Rattle.dj_rewritten.proofs.laws.class_read_back.Goals as goal

pub returns : goal.returns
returns c = λ program x y class good r h. read_back c.written_is_stack_map.ensures c.stack_map_is_well_formed.ensures program x good y class r h
