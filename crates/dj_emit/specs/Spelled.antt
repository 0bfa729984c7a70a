-- Used by the code alone: groups as instructions.
use Rattle.std.specs.Prelude.{ℕ, List, map, take}
use Rattle.dj_ops.specs.declared.instruction.Instr.{Instr}
use Rattle.dj_groups.specs.Groups.{start, spelled, regrouped}
use Rattle.dj_groups.specs.Grouped.{inserted_instr, own_instr}
use Rattle.dj_emit.specs.declared.parts.Charge.{Charge}
use Rattle.dj_emit.specs.declared.parts.GroupPart.{GroupPart}
use Rattle.dj_emit.specs.Parts.{charge_list, group_seen, groups_seen}
use Rattle.dj_emit.specs.Aimed.{own_aimed}
use Rattle.dj_groups.specs.Groups.{Inserted, Record, Jumps, Invocations, Throws, Allocations, Arrays, Catches}
use Rattle.dj_emit.specs.declared.spelling.Counter.{Counter}
use Rattle.dj_emit.specs.declared.spelling.Counter.TheVariants as counters

abbrev pub counter_seen : Counter → Inserted
counter_seen counters.Jumps = Record Jumps
counter_seen counters.Invocations = Record Invocations
counter_seen counters.Throws = Record Throws
counter_seen counters.Allocations = Record Allocations
counter_seen counters.Arrays = Record Arrays
counter_seen counters.Catches = Record Catches

-- a group, with targets that are looked up in a list
unfoldable pub group_spelled : ℕ → List ℕ → GroupPart → Instr → List Instr
group_spelled first found part instr = spelled (inserted_instr first) (own_aimed found) (group_seen part, instr)

-- the first n groups of code
unfoldable pub spelled_up_to : ℕ → List GroupPart → List Instr → ℕ → List Instr
spelled_up_to first parts code n = regrouped (inserted_instr first) (own_instr (start (groups_seen parts))) (take n (groups_seen parts)) (take n code)
