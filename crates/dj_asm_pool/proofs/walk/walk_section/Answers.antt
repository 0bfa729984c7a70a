use Rattle.std.proofs.Common.{◌++◌, map}
use Rattle.std.specs.List.{enumerate_from}
use Rattle.dj_asm_source.specs.LineViews.{line_view}
use Rattle.dj_asm_pool.specs.trusted.Needs.{stack_map_entries, frame_entries, needs}
use Rattle.dj_asm_pool.specs.Walking.{code_needs}
use Rattle.dj_asm_pool.proofs.Walking.{walks_then, walks_last}
use Rattle.dj_asm_pool.proofs.walk.walk_section.Goals as goal

pub returns : goal.returns
returns c =
    let placed = enumerate_from c.args.before (map line_view c.args.lines.now) in
    let names = needs stack_map_entries placed in
    walks_last c.walk_kind-2.result c.args.pool.now c.args.lacking (code_needs placed ++ names) c.walk_kind.new.pool c.in_ok-second.second (needs frame_entries placed) c.walk_kind-2.new.pool
    (walks_then c.args.pool.now c.args.lacking (code_needs placed) c.walk_code.new.pool c.in_ok-first.first names c.walk_kind.new.pool c.in_ok-second.second c.in_ok-first.ensures c.in_ok-second.ensures)
    c.walk_kind-2.ensures
