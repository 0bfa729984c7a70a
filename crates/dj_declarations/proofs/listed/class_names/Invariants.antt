use Rattle.std.proofs.Common.{take}
use Rattle.std.specs.List.{flat_map}
use Rattle.dj_pool.specs.trusted.Pool.{class_name_at}
use Rattle.dj_class.specs.trusted.Names.{names_in}
use Rattle.dj_declarations.specs.Lists.{AreListed, AreCopies}
use Rattle.dj_declarations.proofs.listed.class_names.Given as goal

-- the names so far
abbrev pub invariant-loop-index : goal.invariant-loop-index
invariant-loop-index l = record {
  copies : AreCopies l.pool l.copies.names l.copies.places.items;
  listed : AreListed l.copies.names l.places.items (flat_map (λ index. names_in (class_name_at l.pool index)) (take l.index-index l.indexes));
}
