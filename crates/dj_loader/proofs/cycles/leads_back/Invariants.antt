use Rattle.std.proofs.Common.{◌≡◌, false, take}
use Rattle.std.specs.List.{list_any}
use Rattle.dj_loader.specs.Numbered.{has_number}
use Rattle.dj_loader.proofs.cycles.leads_back.Given as goal

-- none so far
abbrev pub invariant-loop-target : goal.invariant-loop-target
invariant-loop-target l = list_any (has_number l.numbers l.own) (take l.target-index l.targets) ≡ false
