-- The groups of the code, instruction by instruction.
use Rattle.std.proofs.Common.{◌≡◌, ℕ, zero, suc, ◌+◌, ◌<◌, ◌≤◌, Bool, true, false, List, [], ◌∷◌, ◌++◌, map, take, length, get_or, refl, sym, ap, subst, ◌∙◌, arith}
use Rattle.std.specs.List.{AllByRecursion}
use Rattle.dj_model.specs.trusted.Instructions.{Instruction}
use Rattle.dj_model.specs.trusted.Program.{Program}
use Rattle.dj_groups.specs.Groups.{Inserted, Group, inserted, plain_group, group_of, groups_from}
use Rattle.dj_groups.specs.Laws.{FitsObject}
use Rattle.dj_emit.specs.declared.parts.Charge.{Charge}
use Rattle.dj_emit.specs.declared.parts.Charge.TheVariants as charges
use Rattle.dj_emit.specs.declared.parts.GroupPart.{GroupPart}
use Rattle.dj_emit.specs.Parts.{charge_list, group_seen, groups_seen}
use Rattle.dj_emit.specs.Groups.{FitsSipush}

pub length_from : (program : Program) (arrives : ℕ → Bool) (n : ℕ) (is : List Instruction) → length (groups_from program arrives n is) ≡ length is
length_from program arrives n [] = refl
length_from program arrives n (i ∷ is) = ap suc (length_from program arrives (n + 1) is)

pub from_at : (program : Program) (arrives : ℕ → Bool) (n k : ℕ) (is : List Instruction) (g : Group) (d : Instruction) → k < length is
    → get_or (groups_from program arrives n is) k g ≡ group_of program (arrives (n + k)) (get_or is k d)
from_at program arrives n k [] g d less = absurd (omega (arith, less))
from_at program arrives n zero (i ∷ is) g d less = let e : n ≡ n + 0 = omega arith in ap (λ (m : ℕ). group_of program (arrives m) i) e
from_at program arrives n (suc k) (i ∷ is) g d less =
    let e : n + 1 + k ≡ n + suc k = omega arith in
    from_at program arrives (n + 1) k is g d (omega (arith, less)) ∙ ap (λ (m : ℕ). group_of program (arrives m) (get_or is k d)) e

-- ---- every group that the code makes fits

seen_charge : (charge : Charge) → AllByRecursion FitsObject (charge_list charge)
seen_charge charges.Free = tt
seen_charge charges.Jump = (tt, tt)
seen_charge charges.Invocation = (tt, tt)
seen_charge charges.Throw = (tt, tt)
seen_charge (charges.Object size) = (size.small, (tt, tt))
seen_charge (charges.Array element) = (tt, (tt, (tt, tt)))

pub part_fits : (part : GroupPart) → FitsSipush (group_seen part)
part_fits part = go part.arrives where
  go : (b : Bool) → FitsSipush (record { arrives = b; charge = charge_list part.charge; own = (group_seen part).own })
  go true = (tt, (tt, (tt, seen_charge part.charge)))
  go false = seen_charge part.charge

pub parts_fit : (parts : List GroupPart) → AllByRecursion FitsSipush (groups_seen parts)
parts_fit [] = tt
parts_fit (part ∷ parts) = (part_fits part, parts_fit parts)
