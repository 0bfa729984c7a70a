use Rattle.dj_names.proofs.DescLaws.{described_once}
use Rattle.dj_names.proofs.read.one_descriptor.Goals as goal

pub returns : goal.returns
returns c = described_once
