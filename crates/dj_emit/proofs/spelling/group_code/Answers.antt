use Rattle.std.proofs.Common.{◌≡◌, List, length, ap, ◌∙◌}
use Rattle.std.specs.List.{flat_map}
use Rattle.dj_ops.specs.declared.instruction.Instr.{Instr}
use Rattle.dj_labels.specs.declared.labelled.Protected.{Protected}
use Rattle.dj_groups.specs.Grouped.{protected_pieces, labels_in_groups}
use Rattle.dj_emit.specs.declared.parts.GroupPart.{GroupPart}
use Rattle.dj_emit.specs.Parts.{groups_seen}
use Rattle.dj_emit.specs.Spelled.{spelled_up_to}
use Rattle.dj_emit.proofs.SpellingFacts.{all_spelled}
use Rattle.dj_emit.proofs.spelling.group_code.Goals as goal

pub returns-clause-code : goal.returns-clause-code
returns-clause-code c =
    let parts = c.in_ok-places.places.groups.items in
    let labelled = c.args.labelled.now in
    let same = c.in_ok-places.ensures.same in
    let code_is = c.in_ok-code.ensures ∙ ap (λ (is : List Instr). spelled_up_to c.args.first parts is (length is)) c.as_slice.ensures in
    let ranges_is = c.in_ok-ranges.ensures ∙ ap (λ (rs : List Protected). flat_map (protected_pieces (groups_seen parts)) rs) c.as_slice-2.ensures in
    all_spelled c.args.first parts labelled c.in_ok-code.code c.in_ok-ranges.ranges (ap (λ (gs : List GroupPart). length gs) same ∙ c.requires.same) code_is ranges_is
    ∙ ap (λ (gs : List GroupPart). labels_in_groups c.args.first (groups_seen gs) labelled) same
