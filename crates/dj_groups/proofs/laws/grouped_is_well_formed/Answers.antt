use Rattle.dj_groups.proofs.WellFormed.{grouped_is_well_formed as law}
use Rattle.dj_groups.proofs.laws.grouped_is_well_formed.Goals as goal

pub returns : goal.returns
returns c = law
