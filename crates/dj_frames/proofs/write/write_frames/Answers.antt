use Rattle.std.proofs.Common.{rules, ◌≡◌, ℕ, List, sym, subst}
use Rattle.dj_frames.specs.trusted.StackMaps.{IsStackMap}
use Rattle.dj_frames.specs.trusted.Written.{stack_map_bytes}
use Rattle.dj_frames.proofs.Written.{written_is_stack_map}
use Rattle.dj_frames.proofs.write.write_frames.Goals as goal

pub returns-clause-means : goal.returns-clause-means
returns-clause-means c =
    let is : c.put_frames.new.out ≡ stack_map_bytes c.args.starts.now c.args.frames.now = search rules in
    subst (λ (b : List ℕ). IsStackMap b c.args.starts.now c.args.frames.now) (sym is) (written_is_stack_map c.args.starts.now c.args.frames.now c.requires)
