use Rattle.std.proofs.Common.{◌≡◌, take}
use Rattle.dj_rewrite.proofs.file.copied.Given as goal

-- the indexes so far
abbrev pub invariant-loop-index : goal.invariant-loop-index
invariant-loop-index l = l.made ≡ take l.index-index l.index-items
