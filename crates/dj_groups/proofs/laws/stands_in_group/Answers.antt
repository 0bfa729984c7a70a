use Rattle.dj_groups.specs.Groups.{start}
use Rattle.dj_groups.specs.Rewritten.{inserted_instruction, own_instruction}
use Rattle.dj_groups.proofs.GroupLaws.{at_group}
use Rattle.dj_groups.proofs.laws.stands_in_group.Goals as goal

pub returns : goal.returns
returns c = λ gs is k j i few there within. at_group inserted_instruction (own_instruction (start gs)) gs is k j i few there within
