use Rattle.std.proofs.Common.{◌≡◌, take}
use Rattle.dj_link_rules.specs.Constants.{AreSeen, AreNumbersSeenBy}
use Rattle.dj_link_rules.proofs.KeptLaws.{all_kept}
use Rattle.dj_link_rules.proofs.constants.judge_constants.Given as goal

-- what was seen, and what is kept so far
abbrev pub invariant-loop-entry : goal.invariant-loop-entry
invariant-loop-entry l =
    AreSeen l.linker.program l.pool l.seen.items
    × AreNumbersSeenBy l.directory l.pool l.numbers.items
    × (l.kept.items ≡ all_kept l.linker.program l.pool (take l.entry-index l.entries))
