use Rattle.dj_link.proofs.linked.links.Goals as goal

pub returns : goal.returns
returns c = rw c.linker.ensures at c.links.ensures
