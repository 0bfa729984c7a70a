-- Which instructions call, by their forms, whatever their indexes name.
use Rattle.std.proofs.Common.{◌≡◌, ℕ, ◌-◌, ◌&&◌, Bool, true, false, List, [], ◌∷◌, nat_eq, nat_le, unsigned_abs, if◌then◌else◌, refl, sym, subst}
use Rattle.std.specs.Option.{is_some}
use Rattle.std.proofs.lemmas.Bool.{eqb-true, false≢true}
use Rattle.dj_names.specs.declared.descriptor.Base.{Base}
use Rattle.dj_names.specs.declared.run.Element.{Element}
use Rattle.dj_ops.specs.declared.instruction.Instr.{Instr}
use Rattle.dj_ops.specs.declared.instruction.Instr.TheVariants as instrs
use Rattle.dj_model.specs.trusted.Types.{Prefix}
use Rattle.dj_model.specs.trusted.Instructions.{Named, AnInt, ALong, AText, AClass, AField, AMethod, AnInterfaceMethod, Instruction, Invoke, Other}
use Rattle.dj_model.specs.Instructions.{calls}
use Rattle.dj_model.specs.trusted.Opcodes.{Row, row_does, rows_of, simple, constant_rows, store_rows, stack_rows, number_rows, bit_rows, last_rows, local_rows, jump_rows, operand_does, literal, member, interface_call, class_use, array_rows, new_array, instruction_of}
use Rattle.dj_model.specs.trusted.Program.{Program}
use Rattle.dj_model.specs.Sound.{is_linked}
use Rattle.dj_invocation.specs.Sites.{opcode_mode, call_mode}

-- ---- instructions that call nothing

abbrev stays : Instruction → Bool
stays (Invoke mode m) = false
stays i = true

calls_none : (i : Instruction) → stays i ≡ true → false ≡ calls i
calls_none (Invoke mode m) e = absurd (false≢true e)
calls_none i e = refl

stays_if : (b : Bool) (i j : Instruction) → stays i ≡ true → stays j ≡ true → stays (if b then i else j) ≡ true
stays_if true i j e f = e
stays_if false i j e f = f

first_of_both : (a b : Bool) → (a && b) ≡ true → a ≡ true
first_of_both true b e = refl
first_of_both false b e = absurd cc

second_of_both : (a b : Bool) → (a && b) ≡ true → b ≡ true
second_of_both true b e = e
second_of_both false b e = absurd cc

abbrev rows_stay : List Row → ℕ → Bool
rows_stay [] op = true
rows_stay (row ∷ rows) op = stays (row.does (op - row.first)) && rows_stay rows op

row_stays : (rows : List Row) (named : Named) (op : ℕ) → rows_stay rows op ≡ true → stays (row_does rows named op) ≡ true
row_stays [] named op e = refl
row_stays (row ∷ rows) named op e =
    stays_if (nat_le row.first op && nat_le op row.last) (row.does (op - row.first)) (row_does rows named op)
    (first_of_both (stays (row.does (op - row.first))) (rows_stay rows op) e)
    (row_stays rows named op (second_of_both (stays (row.does (op - row.first))) (rows_stay rows op) e))

all_rows_stay : (op : ℕ) (a b c d e : Bool)
    → rows_stay (if a then constant_rows else if b then store_rows else if c then stack_rows else if d then number_rows else if e then bit_rows else last_rows) op ≡ true
all_rows_stay op true b c d e = refl
all_rows_stay op false true c d e = refl
all_rows_stay op false false true d e = refl
all_rows_stay op false false false true e = refl
all_rows_stay op false false false false true = refl
all_rows_stay op false false false false false = refl

simple_stays : (named : Named) (op : ℕ) → stays (simple named op) ≡ true
unfolding simple
simple_stays named op = row_stays (rows_of op) named op (all_rows_stay op _ _ _ _ _)

abbrev pairs_stay : List (ℕ × (ℕ → Instruction)) → ℕ → Bool
pairs_stay [] n = true
pairs_stay (row ∷ rest) n = stays (row.1 n) && pairs_stay rest n

operand_stays : (rows : List (ℕ × (ℕ → Instruction))) (named : Named) (op n : ℕ) → pairs_stay rows n ≡ true → stays (operand_does rows named op n) ≡ true
operand_stays [] named op n e = refl
operand_stays (row ∷ rest) named op n e =
    stays_if (nat_eq op row.0) (row.1 n) (operand_does rest named op n)
    (first_of_both (stays (row.1 n)) (pairs_stay rest n) e) (operand_stays rest named op n (second_of_both (stays (row.1 n)) (pairs_stay rest n) e))

literal_stays : (op : ℕ) (named : Named) → stays (literal op named) ≡ true
literal_stays op (AnInt z) = stays_if (nat_eq op 20) _ _ refl refl
literal_stays op (AText units) = stays_if (nat_eq op 20) _ _ refl refl
literal_stays op (ALong z) = stays_if (nat_eq op 20) _ _ refl refl
literal_stays op _ = refl

use_stays : (op : ℕ) (named : Named) → stays (class_use op named) ≡ true
use_stays op (AClass class) =
    stays_if (nat_eq op 187) _ _ refl (stays_if (nat_eq op 189) _ _ refl (stays_if (nat_eq op 192) _ _ refl (stays_if (nat_eq op 193) _ _ refl refl)))
use_stays op _ = refl

array_stays : (rows : List (ℕ × Base × Element)) (base : ℕ) → stays (new_array rows base) ≡ true
array_stays [] base = refl
array_stays (row ∷ rows) base = stays_if (nat_eq base row.0) _ _ refl (array_stays rows base)

-- ---- calls

abbrev is_run : Instruction → Bool
is_run (Other op named) = false
is_run i = true

linked_run : (program : Program) (prefix : Prefix) (i : Instruction) → is_linked program prefix i ≡ true → is_run i ≡ true
unfolding is_linked
linked_run program prefix (Other op named) e = absurd (false≢true e)
linked_run program prefix i e = refl

run_if : (b : Bool) (i j : Instruction) (P : Type 0) → (b ≡ true → P) → (is_run j ≡ true → P) → is_run (if b then i else j) ≡ true → P
run_if true i j P here later run = here refl
run_if false i j P here later run = later run

abbrev CallsSo : ℕ → Named → Type 0
CallsSo op named = is_some (opcode_mode op) ≡ calls (member op named)

so : (op n : ℕ) (named : Named) → CallsSo n named → nat_eq op n ≡ true → CallsSo op named
so op n named reported e = subst (λ (x : ℕ). CallsSo x named) (sym (eqb-true op n e)) reported

not_run : (op : ℕ) (named other : Named) → is_run (Other op other) ≡ true → CallsSo op named
not_run op named other run = absurd (false≢true run)

member_calls : (op : ℕ) (named : Named) → is_run (member op named) ≡ true → CallsSo op named
member_calls op (AField m) run =
    run_if (nat_eq op 178) _ _ (CallsSo op (AField m)) (so op 178 (AField m) refl)
    (run_if (nat_eq op 179) _ _ (CallsSo op (AField m)) (so op 179 (AField m) refl)
    (run_if (nat_eq op 180) _ _ (CallsSo op (AField m)) (so op 180 (AField m) refl)
    (run_if (nat_eq op 181) _ _ (CallsSo op (AField m)) (so op 181 (AField m) refl) (not_run op (AField m) (AField m))))) run
member_calls op (AMethod m) run =
    run_if (nat_eq op 182) _ _ (CallsSo op (AMethod m)) (so op 182 (AMethod m) refl)
    (run_if (nat_eq op 183) _ _ (CallsSo op (AMethod m)) (so op 183 (AMethod m) refl)
    (run_if (nat_eq op 184) _ _ (CallsSo op (AMethod m)) (so op 184 (AMethod m) refl) (not_run op (AMethod m) (AMethod m)))) run
member_calls op (AnInterfaceMethod m) run =
    run_if (nat_eq op 183) _ _ (CallsSo op (AnInterfaceMethod m)) (so op 183 (AnInterfaceMethod m) refl)
    (run_if (nat_eq op 184) _ _ (CallsSo op (AnInterfaceMethod m)) (so op 184 (AnInterfaceMethod m) refl) (not_run op (AnInterfaceMethod m) (AnInterfaceMethod m))) run
member_calls op named run = absurd (false≢true run)

interface_calls : (count : ℕ) (named : Named) → is_run (interface_call count named) ≡ true → true ≡ calls (interface_call count named)
interface_calls count (AnInterfaceMethod m) run = refl
interface_calls count named run = absurd (false≢true run)

pub call_run : (instr : Instr) (named : Named) → is_run (instruction_of instr named) ≡ true → is_some (call_mode instr) ≡ calls (instruction_of instr named)
unfolding instruction_of
call_run (instrs.Simple op) named run = calls_none (simple named op) (simple_stays named op)
call_run (instrs.Literal op index) named run = calls_none (literal op named) (literal_stays op named)
call_run (instrs.Local op slot wide) named run = calls_none (operand_does local_rows named op slot) (operand_stays local_rows named op slot refl)
call_run (instrs.Branch op target) named run = calls_none (operand_does jump_rows named op (unsigned_abs target)) (operand_stays jump_rows named op (unsigned_abs target) refl)
call_run (instrs.Member op index) named run = member_calls op named run
call_run (instrs.Interface index count) named run = interface_calls count named run
call_run (instrs.Class op index) named run = calls_none (class_use op named) (use_stays op named)
call_run (instrs.Array base) named run = calls_none (new_array array_rows base) (array_stays array_rows base)
call_run instr named run = refl

pub call_linked : (program : Program) (prefix : Prefix) (instr : Instr) (named : Named) → is_linked program prefix (instruction_of instr named) ≡ true
    → is_some (call_mode instr) ≡ calls (instruction_of instr named)
call_linked program prefix instr named linked = call_run instr named (linked_run program prefix (instruction_of instr named) linked)
