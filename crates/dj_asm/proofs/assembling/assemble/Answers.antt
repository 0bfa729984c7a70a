use Rattle.dj_asm.proofs.AssembleLaws.{yields_file, yields_fault}
use Rattle.dj_asm.proofs.assembling.assemble.Goals as goal

pub returns-clause-all_files : goal.returns-clause-all_files
returns-clause-all_files c = λ bytes means. yields_file c.args.text.now bytes c.file_of.result c.file_of.ensures means

pub returns-clause-all_refused : goal.returns-clause-all_refused
returns-clause-all_refused c = λ e fault. yields_fault c.args.text.now e c.file_of.result c.file_of.ensures fault
