-- Used by the code alone: groups as the code has them.
use Rattle.std.specs.Prelude.{◌≡◌, ℕ, Bool, true, false, List, [], ◌∷◌, map, ◌++◌}
use Rattle.dj_groups.specs.Groups.{Counter, Jumps, Invocations, Throws, Allocations, Arrays, Inserted, Copy, ObjectBytes, ElementBytes, Record, Own, Kept, Popped, Group}
use Rattle.dj_emit.specs.declared.parts.Charge.{Charge}
use Rattle.dj_emit.specs.declared.parts.Charge.TheVariants as charges
use Rattle.dj_emit.specs.declared.parts.GroupPart.{GroupPart}

abbrev pub charge_list : Charge → List Inserted
charge_list charges.Free = []
charge_list charges.Jump = Record Jumps ∷ []
charge_list charges.Invocation = Record Invocations ∷ []
charge_list charges.Throw = Record Throws ∷ []
charge_list (charges.Object size) = ObjectBytes size.bytes ∷ Record Allocations ∷ []
charge_list (charges.Array element) = Copy ∷ ElementBytes element ∷ Record Arrays ∷ []

abbrev pub own_by : Bool → Own
own_by true = Popped
own_by false = Kept

abbrev pub group_seen : GroupPart → Group
group_seen part = record { arrives = part.arrives; charge = charge_list part.charge; own = own_by part.popped }

abbrev pub groups_seen : List GroupPart → List Group
groups_seen parts = map group_seen parts
