use Rattle.std.proofs.Common.{rules}
use Rattle.std.specs.Cmp.Lexicographic.{slice_cmp}
use Rattle.std.specs.Ordering.{nat_cmp, is_lt}
use Rattle.std.proofs.lemmas.List.Sorted.{IsPartitionPoint-from_clause}
use Rattle.dj_asm_tokens.specs.trusted.Words.{word_units}
use Rattle.dj_asm_source.specs.LabelViews.{label_of_mark}
use Rattle.dj_asm_source.proofs.LabelTables.{parted_by}
use Rattle.dj_asm_source.proofs.label_table.first_not_before.Goals as goal

pub returns-clause-point : goal.returns-clause-point
returns-clause-point c =
    let label = word_units 0 c.args.label.now in
    IsPartitionPoint-from_clause (λ m. is_lt (slice_cmp nat_cmp (label_of_mark c.args.lines.now m) label)) _ _ c.partition_point.ensures.partitioned
    (parted_by c.args.lines.now label c.args.marks.now c.requires) (λ a r q k. search rules)
