-- Labelled code in groups, with indexes of a pool that has the accounter's constants from `first` on.
use Rattle.std.specs.Prelude.{ℕ, ◌+◌, ◌*◌, List, map, ℤ, pos, unsigned_abs, nat_eq, if◌then◌else◌}
use Rattle.std.specs.List.{flat_map}
use Rattle.dj_ops.specs.declared.instruction.Instr.{Instr}
use Rattle.dj_ops.specs.declared.instruction.Instr.TheVariants as instrs
use Rattle.dj_labels.specs.declared.labelled.Protected.{Protected}
use Rattle.dj_labels.specs.declared.labelled.Labelled.{Labelled}
use Rattle.dj_labels.specs.trusted.Targets.{with_targets}
use Rattle.dj_names.specs.trusted.Values.{element_size}
use Rattle.dj_groups.specs.Rewritten.{place}
use Rattle.dj_groups.specs.Groups.{Counter, Inserted, Copy, ObjectBytes, ElementBytes, Record, Own, Kept, Popped, Group, start, pieces, regrouped}

-- the index of the accounter's method
abbrev pub call_index : ℕ → Counter → ℕ
call_index first counter = first + 5 + 4 * place counter

abbrev pub element_push : ℕ → Instr
element_push n = if nat_eq n 8 then instrs.Push 16 (pos 8) else instrs.Simple (n + 3)

abbrev pub inserted_instr : ℕ → Inserted → Instr
inserted_instr first Copy = instrs.Simple 89
inserted_instr first (ObjectBytes n) = instrs.Push 17 (pos n)
inserted_instr first (ElementBytes element) = element_push (element_size element)
inserted_instr first (Record counter) = instrs.Member 184 (call_index first counter)

abbrev pub new_target : (ℕ → ℕ) → ℤ → ℤ
new_target to target = pos (to (unsigned_abs target))

abbrev pub own_instr : (ℕ → ℕ) → Own → Instr → Instr
own_instr to Kept instr = with_targets (new_target to) instr
own_instr to Popped instr = instrs.Simple 87

abbrev pub protected_pieces : List Group → Protected → List Protected
protected_pieces gs range =
    map (λ (p : ℕ × ℕ). record range { start = p.0; end = p.1; handler = start gs range.handler }) (pieces gs range.start range.end)

unfoldable pub labels_in_groups : ℕ → List Group → Labelled → Labelled
labels_in_groups first gs labelled = record {
  code = regrouped (inserted_instr first) (own_instr (start gs)) gs labelled.code;
  ranges = flat_map (protected_pieces gs) labelled.ranges;
}
