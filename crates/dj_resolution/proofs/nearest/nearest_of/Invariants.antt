use Rattle.dj_model.specs.trusted.Linking.{most_classes}
use Rattle.std.proofs.Common.{Some}
use Rattle.dj_resolution.specs.Nearest.{IsNearest}
use Rattle.dj_resolution.specs.Numbers.{numbers_up}
use Rattle.dj_resolution.proofs.nearest.nearest_of.Given as goal

-- the nearest of the rows so far
abbrev pub invariant-loop-row : goal.invariant-loop-row
invariant-loop-row l = IsNearest (numbers_up most_classes l.table (Some l.class)) l.ranks.ranks.items l.rows l.row-index l.nearest
