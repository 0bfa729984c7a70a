-- Instructions push no reference but null.
use Rattle.std.proofs.Common.{ℕ, Bool, true, false, List, [], ◌∷◌, map}
use Rattle.std.specs.Prelude.{◌-◌, ◌&&◌, ◌==◌, nat_le, if◌then◌else◌}
use Rattle.std.specs.List.{AllByRecursion}
use Rattle.dj_ops.specs.declared.instruction.Instr.{Instr}
use Rattle.dj_ops.specs.declared.instruction.Instr.TheVariants as instrs
use Rattle.dj_straight.specs.trusted.Instructions.{Instruction, Row, rows, row_does, simple, local_rows, local_does, NewArray, Other, byte_array_class, instruction_of}
use Rattle.dj_names.specs.declared.run.Element.TheVariants as elements
use Rattle.dj_straight.specs.Running.{PushesNull}

chosen : {A : Type 0} (P : A → Type 0) (b : Bool) (x y : A) → P x → P y → P (if b then x else y)
chosen P true x y p q = p
chosen P false x y p q = q

row_pushes : (table : List Row) (op : ℕ) → AllByRecursion (λ (row : Row). (n : ℕ) → PushesNull (row.does n)) table → PushesNull (row_does table op)
row_pushes [] op all = tt
row_pushes (row ∷ table) op all =
    chosen PushesNull (nat_le row.first op && nat_le op row.last) (row.does (op - row.first)) (row_does table op) (all.0 (op - row.first)) (row_pushes table op all.1)

local_pushes : (table : List (ℕ × (ℕ → Instruction))) (op slot : ℕ) → AllByRecursion (λ (row : ℕ × (ℕ → Instruction)). (n : ℕ) → PushesNull (row.1 n)) table
    → PushesNull (local_does table op slot)
local_pushes [] op slot all = tt
local_pushes (row ∷ table) op slot all =
    chosen PushesNull (op == row.0) (row.1 slot) (local_does table op slot) (all.0 slot) (local_pushes table op slot all.1)

EachPushes : List Row → Type 0
EachPushes table = AllByRecursion (λ (row : Row). (n : ℕ) → PushesNull (row.does n)) table

rows_push : EachPushes rows
unfolding EachPushes
rows_push =
    (λ n. tt, (λ n. tt, (λ n. tt, (λ n. tt, (λ n. tt, (λ n. tt, (λ n. tt, (λ n. tt, (λ n. tt, (λ n. tt, (λ n. tt, (λ n. tt, (λ n. tt, (λ n. tt, (λ n. tt, (λ n. tt, (λ n. tt, (λ n. tt, (λ n. tt, tt)))))))))))))))))))

-- whatever is read of code
pub pushes_null : (instr : Instr) → PushesNull (instruction_of instr)
unfolding instruction_of simple EachPushes
pushes_null (instrs.Simple op) = row_pushes rows op rows_push
pushes_null (instrs.Push op value) = tt
pushes_null (instrs.Local op slot wide) = local_pushes local_rows op slot (λ n. tt, (λ n. tt, (λ n. tt, (λ n. tt, tt))))
pushes_null (instrs.Array base) = chosen PushesNull (base == 8) (NewArray byte_array_class elements.Byte) (Other 188) tt tt
pushes_null (instrs.Literal op index) = tt
pushes_null (instrs.Inc slot by wide) = tt
pushes_null (instrs.Branch op target) = tt
pushes_null (instrs.Table low default targets) = tt
pushes_null (instrs.Lookup default pairs) = tt
pushes_null (instrs.Member op index) = tt
pushes_null (instrs.Interface index count) = tt
pushes_null (instrs.Dynamic index) = tt
pushes_null (instrs.Class op index) = tt
pushes_null (instrs.Multi index dims) = tt

pub all_push_null : (instrs : List Instr) → AllByRecursion PushesNull (map instruction_of instrs)
all_push_null [] = tt
all_push_null (instr ∷ instrs) = (pushes_null instr, all_push_null instrs)
