use Rattle.std.proofs.Common.{length}
use Rattle.dj_declarations.specs.trusted.Files.{desc_in}
use Rattle.dj_resolution.specs.Numbers.{field_found}
use Rattle.dj_resolution.proofs.Marking.{none_here}
use Rattle.dj_resolution.proofs.find_numbered.field_if.Goals as goal

pub returns-else-may_be_in : goal.returns-else-may_be_in
returns-else-may_be_in c n d h =
    none_here (field_found c.args.directory.now.program n (desc_in d)) (length c.args.directory.now.program) c.args.class c.args.marks (c.requires.marked n d h) (c.may_be_in.ensures c.if-may_be_in.false) c.requires.there
