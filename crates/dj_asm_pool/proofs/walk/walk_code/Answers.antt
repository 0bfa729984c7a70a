use Rattle.std.proofs.Common.{◌++◌, map}
use Rattle.std.specs.List.{enumerate_from}
use Rattle.dj_asm_source.specs.LineViews.{line_view}
use Rattle.dj_asm_pool.specs.trusted.Needs.{head_entries, instruction_entries, catch_entries, needs}
use Rattle.dj_asm_pool.proofs.Walking.{walks_then, walks_last}
use Rattle.dj_asm_pool.proofs.walk.walk_code.Goals as goal

pub returns : goal.returns
returns c =
    let placed = enumerate_from c.args.before (map line_view c.args.lines.now) in
    let head = needs head_entries placed in
    let instructions = needs instruction_entries placed in
    walks_last c.walk_kind-3.result c.args.pool.now c.args.lacking (head ++ instructions) c.walk_kind-2.new.pool c.in_ok-second.second (needs catch_entries placed) c.walk_kind-3.new.pool
    (walks_then c.args.pool.now c.args.lacking head c.walk_kind.new.pool c.in_ok-first.first instructions c.walk_kind-2.new.pool c.in_ok-second.second c.in_ok-first.ensures c.in_ok-second.ensures)
    c.walk_kind-3.ensures
