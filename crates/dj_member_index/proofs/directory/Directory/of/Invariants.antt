use Rattle.dj_member_index.specs.DirectoryRows.{IsGathering}
use Rattle.dj_member_index.proofs.directory.Directory.of.Given as goal

-- what is gathered so far
abbrev pub invariant-loop-class : goal.invariant-loop-class
invariant-loop-class l = IsGathering l.table l.class l.numbers l.methods.items l.fields.items
