use Rattle.std.proofs.Common.{◌≡◌, map, rules}
use Rattle.dj_asm_source.specs.LineViews.{line_view}
use Rattle.dj_asm_pool.specs.Pooling.{found_index}
use Rattle.dj_asm.specs.trusted.Codes.{frames_in}
use Rattle.dj_asm.specs.trusted.Files.{places_of}
use Rattle.dj_asm.proofs.MethodCode.{lines_frames}
use Rattle.dj_asm.proofs.code.body_of.Goals as goal

pub with_frames-requires : goal.with_frames-requires
with_frames-requires c =
    let are : c.in_ok-frames.frames ≡ frames_in (places_of (found_index c.args.pool.now) c.args.labels.now) 0 (map line_view c.args.lines.now) = search rules in
    lines_frames c.args.pool.now c.args.labels.now c.args.lines.now c.in_ok-laid.laid c.in_ok-frames.frames c.requires.labels c.requires.can c.in_ok-laid.ensures are
