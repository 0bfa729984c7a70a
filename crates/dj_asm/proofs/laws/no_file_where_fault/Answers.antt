use Rattle.dj_asm.proofs.OneFault.{no_file_where_fault}
use Rattle.dj_asm.proofs.laws.no_file_where_fault.Goals as goal

pub returns : goal.returns
returns c = no_file_where_fault
