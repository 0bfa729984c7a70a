use Rattle.std.proofs.Common.{◌≡◌, ◌^◌, ◌<◌, length, IfOk, ℕ, ◌+◌, ◌-◌, ◌*◌, ◌≤◌, map}
use Rattle.std.specs.List.{range_with_len}
use Rattle.dj_groups.specs.Groups.{start, own}
use Rattle.dj_emit.specs.Parts.{groups_seen}
use Rattle.dj_emit.proofs.places.numbers_of.Given as goal

abbrev pub invariant-loop-group : goal.invariant-loop-group
invariant-loop-group l = record {
  starts : l.start.items ≡ map (start (groups_seen l.groups)) (range_with_len 0 l.group-index);
  owns : l.own.items ≡ map (own (groups_seen l.groups)) (range_with_len 0 l.group-index);
  here : l.at ≡ start (groups_seen l.groups) l.group-index;
  low : l.at ≤ 7 * l.group-index;
}
