use Rattle.std.proofs.Common.{rules, length, get_or, w64, SFits, pos, sym, subst, arith}
use Rattle.std.proofs.lemmas.Int.{to_z-of_z}
use Rattle.dj_labels.specs.trusted.Labels.{IsNumber}
use Rattle.dj_emit.proofs.TargetFacts.{pair_number}
use Rattle.dj_emit.proofs.targets.aim_pairs.Goals as goal

pub aim-requires : goal.aim-requires
aim-requires c =
    let fits : SFits w64 (get_or c.args.pairs.now c.loop-key.key-index (pos 0, pos 0)).1 = search rules in
    subst (IsNumber (length c.args.start.now)) (sym (to_z-of_z w64 _ fits)) (pair_number (length c.args.start.now) c.args.pairs.now c.loop-key.key-index _ c.requires (omega (arith, c.loop-key-test.true)))
