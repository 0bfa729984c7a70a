use Rattle.std.proofs.Common.{◌≡◌, List, [], ◌∷◌, ◌++◌}
use Rattle.dj_emit.specs.Parts.{own_by}
use Rattle.dj_emit.specs.Spelled.{group_spelled}
use Rattle.dj_emit.specs.Aimed.{own_aimed}
use Rattle.dj_emit.proofs.CutFacts.{on_ok_same}
use Rattle.dj_emit.proofs.SpellingFacts.{three_parts}
use Rattle.dj_emit.proofs.spelling.put_group.Goals as goal

pub returns : goal.returns
returns c =
    on_ok_same c.put_own.result (c.put_own.new.out ≡ c.put_charge.new.out ++ own_aimed c.args.start.now (own_by c.args.part.popped) c.args.instr.now ∷ [])
    (c.put_own.new.out ≡ c.args.out.now ++ group_spelled c.args.first c.args.start.now c.args.part c.args.instr.now)
    (λ put. three_parts c.args.first c.args.start.now c.args.part c.args.instr.now c.args.out.now c.put_arrival.new.out c.put_charge.new.out c.put_own.new.out
    c.in_ok-put_arrival.ensures c.in_ok-put_charge.ensures put)
    c.put_own.ensures
