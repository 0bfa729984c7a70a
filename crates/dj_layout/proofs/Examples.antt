-- Layouts by hand: what the definitions say, and what they refuse.
use Rattle.std.proofs.Common.{◌≡◌, ◌≢◌, ℕ, zero, suc, ℤ, pos, List, [], ◌∷◌, length, Some, ap, subst, refl, arith, inl}
use Rattle.std.proofs.Math.Facts.{sfits_lit}
use Rattle.std.proofs.lemmas.Int.{ints}
use Rattle.std.proofs.lemmas.Option.{same_Some}
use Rattle.dj_ops.specs.declared.instruction.Instr.{Instr}
use Rattle.dj_ops.specs.declared.instruction.Instr.TheVariants as instrs
use Rattle.dj_ops.specs.declared.rows.CatchRow.{CatchRow}
use Rattle.dj_ops.specs.trusted.Forms.{form_of}
use Rattle.dj_ops.proofs.Sizes.{table_length}
use Rattle.dj_ops.specs.Mnemonics.{nop, sipush, goto, lookupswitch, return, ifnull, goto_w}
use Rattle.dj_labels.specs.declared.labelled.Labelled.{Labelled}
use Rattle.dj_layout.specs.trusted.Places.{starts_from, end_from}
use Rattle.dj_layout.specs.declared.laid.Laid.{Laid}
use Rattle.dj_layout.specs.declared.errors.LayError.TheVariants as errors
use Rattle.dj_layout.specs.trusted.Layouts.{IsLaidOut, most_bytes}
use Rattle.dj_layout.specs.trusted.Faults.{Reaches}
use Rattle.dj_layout.specs.Faults.{IsFirstPast, IsFirstFar, Refuses}
use Rattle.dj_layout.proofs.Once.{one_layout_is}

-- ---- places

-- lookupswitch without pairs has 12 bytes at address 0 and 11 at address 1
places : (starts_from 0 (instrs.Lookup (pos 1) [] ∷ instrs.Simple return ∷ []) ≡ 0 ∷ 12 ∷ [])
    × (starts_from 0 (instrs.Simple nop ∷ instrs.Lookup (pos 2) [] ∷ instrs.Simple return ∷ []) ≡ 0 ∷ 1 ∷ 12 ∷ [])
    × (starts_from 0 (instrs.Simple nop ∷ instrs.Lookup (pos 2) [] ∷ instrs.Simple return ∷ []) ≢ 0 ∷ 1 ∷ 13 ∷ [])
    × (end_from 0 (instrs.Simple nop ∷ instrs.Lookup (pos 2) [] ∷ []) ≡ 12)
    × (end_from 7 [] ≡ 7)
places = (refl, refl, λ e. absurd cc (e), refl, refl)

-- and 10 and 9 bytes at addresses 2 and 3
more_places : (starts_from 0 (instrs.Simple nop ∷ instrs.Simple nop ∷ instrs.Lookup (pos 3) [] ∷ instrs.Simple return ∷ []) ≡ 0 ∷ 1 ∷ 2 ∷ 12 ∷ [])
    × (starts_from 0 (instrs.Simple nop ∷ instrs.Simple nop ∷ instrs.Simple nop ∷ instrs.Lookup (pos 4) [] ∷ instrs.Simple return ∷ []) ≡ 0 ∷ 1 ∷ 2 ∷ 3 ∷ 12 ∷ [])
more_places = (refl, refl)

-- tableswitch with one target, after 0 to 3 bytes: what follows it starts at 20
after_table : (starts_from 0 (instrs.Table (pos 0) (pos 1) (pos 1 ∷ []) ∷ instrs.Simple return ∷ []) ≡ 0 ∷ 20 ∷ [])
    × (starts_from 0 (instrs.Simple nop ∷ instrs.Table (pos 0) (pos 2) (pos 2 ∷ []) ∷ instrs.Simple return ∷ []) ≡ 0 ∷ 1 ∷ 20 ∷ [])
    × (starts_from 0 (instrs.Simple nop ∷ instrs.Simple nop ∷ instrs.Table (pos 0) (pos 3) (pos 3 ∷ []) ∷ instrs.Simple return ∷ []) ≡ 0 ∷ 1 ∷ 2 ∷ 20 ∷ [])
    × (starts_from 0 (instrs.Simple nop ∷ instrs.Simple nop ∷ instrs.Simple nop ∷ instrs.Table (pos 0) (pos 4) (pos 4 ∷ []) ∷ instrs.Simple return ∷ []) ≡ 0 ∷ 1 ∷ 2 ∷ 3 ∷ 20 ∷ [])
after_table = (refl, refl, refl, refl)

-- ---- layouts

-- goto to itself
loop : Labelled
loop = record { code = instrs.Branch goto (pos 0) ∷ []; ranges = [] }

loop_laid : IsLaidOut loop (record { code = goto ∷ 0 ∷ 0 ∷ []; starts = 0 ∷ []; table = [] })
unfolding form_of loop
loop_laid = record {
  starts = refl;
  code = refl;
  short = omega arith;
  table = refl;
  labels = record {
    starts = 0 ∷ [];
    cut = record {
      first = refl;
      each = (
        record {
          later = omega arith;
          within = omega arith;
          spelled = record { padding = []; padded = refl; offsets = sfits_lit tt; are = refl };
          proper = inl refl;
        },
        tt,
      );
    };
    targets = (((omega (arith, ints), omega (arith, ints)), tt), tt);
    rows = refl;
    ranges = tt;
  };
}

-- sipush 5 and return, in a range that ends with the code and is handled by the return: its row has their addresses, and the catch type
handled : Labelled
handled = record { code = instrs.Push sipush (pos 5) ∷ instrs.Simple return ∷ []; ranges = record { start = 0; end = 2; handler = 1; catch_type = 7 } ∷ [] }

handled_laid : IsLaidOut handled (record { code = sipush ∷ 0 ∷ 5 ∷ return ∷ []; starts = 0 ∷ 3 ∷ []; table = record { start = 0; end = 4; handler = 3; catch_type = 7 } ∷ [] })
unfolding form_of handled
handled_laid = record {
  starts = refl;
  code = refl;
  short = omega arith;
  table = refl;
  labels = record {
    starts = 0 ∷ 3 ∷ [];
    cut = record {
      first = refl;
      each = (
        record { later = omega arith; within = omega arith; spelled = record { padding = []; padded = refl; offsets = tt; are = refl }; proper = sfits_lit tt },
        (record { later = omega arith; within = omega arith; spelled = record { padding = []; padded = refl; offsets = tt; are = refl }; proper = refl }, tt),
      );
    };
    targets = (tt, (tt, tt));
    rows = refl;
    ranges = (record { some = omega arith; within = omega arith; handled = omega arith }, tt);
  };
}

-- not with numbers in its row
last_of : List CatchRow → ℕ
last_of [] = 0
last_of (row ∷ rows) = row.end

numbers_in_row : (starts : List ℕ) → IsLaidOut handled (record { code = sipush ∷ 0 ∷ 5 ∷ return ∷ []; starts = starts; table = record { start = 0; end = 2; handler = 1; catch_type = 7 } ∷ [] }) → ⊥
unfolding last_of
numbers_in_row starts h = omega (arith, ap (λ (l : Laid). last_of l.table) (one_layout_is handled _ _ handled_laid h))

-- a switch with other padding than zeros isn't so laid out
other_padding : (table : _) → IsLaidOut (record { code = instrs.Lookup (pos 0) [] ∷ []; ranges = [] }) (record { code = lookupswitch ∷ 0 ∷ 9 ∷ 0 ∷ 0 ∷ 0 ∷ 0 ∷ 0 ∷ 0 ∷ 0 ∷ 0 ∷ 0 ∷ []; starts = 0 ∷ []; table = table }) → ⊥
other_padding table h = absurd cc (h.code)

-- ---- code that is too long

-- a table of 16,380 targets has 65,536 bytes at the start of code, and one of 16,379 has 65,532
long_table : (targets : List ℤ) → length targets ≡ 16380 → IsFirstPast (instrs.Table (pos 0) (pos 0) targets ∷ []) 0
long_table targets many = record {
  within = omega arith;
  before = omega arith;
  past = omega (arith, many, table_length 0 (pos 0) (pos 0) targets);
}

longest_table : (targets : List ℤ) → length targets ≡ 16379 → IsFirstPast (instrs.Table (pos 0) (pos 0) targets ∷ []) 0 → ⊥
longest_table targets many h = omega (arith, h.past, many, table_length 0 (pos 0) (pos 0) targets)

most : (most_bytes ≡ 65535) × (most_bytes ≢ 65534) × (most_bytes ≢ 65536)
most = (refl, λ e. omega (arith, e), λ e. omega (arith, e))

code_of : List Instr → Labelled
code_of code = record { code = code; ranges = [] }

-- with three instructions of one byte after the 65,532 bytes of a table there are 65,535, and none is past them
filled : List ℤ → List Instr → List Instr
filled targets more = instrs.Table (pos 0) (pos 0) targets ∷ instrs.Simple nop ∷ instrs.Simple nop ∷ instrs.Simple nop ∷ more

filled_to_the_end : (targets : List ℤ) → length targets ≡ 16379 → end_from 0 (filled targets []) ≡ 65535
unfolding form_of filled
filled_to_the_end targets many = omega (arith, many, table_length 0 (pos 0) (pos 0) targets)

filled_has_none_past : (targets : List ℤ) (number : ℕ) → length targets ≡ 16379 → IsFirstPast (filled targets []) number → ⊥
unfolding form_of filled
filled_has_none_past targets zero many h = omega (arith, h.past, many, table_length 0 (pos 0) (pos 0) targets)
filled_has_none_past targets (suc zero) many h = omega (arith, h.past, many, table_length 0 (pos 0) (pos 0) targets)
filled_has_none_past targets (suc (suc zero)) many h = omega (arith, h.past, many, table_length 0 (pos 0) (pos 0) targets)
filled_has_none_past targets (suc (suc (suc zero))) many h = omega (arith, h.past, many, table_length 0 (pos 0) (pos 0) targets)
filled_has_none_past targets (suc (suc (suc (suc n)))) many h = omega (arith, h.within)

-- the next one is; it is reported by its number, which is 4, and not by its address, and the one after it isn't reported
overfull : (targets : List ℤ) → length targets ≡ 16379 → Refuses (code_of (filled targets (instrs.Simple nop ∷ instrs.Simple return ∷ []))) (errors.TooLong 4)
unfolding form_of filled code_of
overfull targets many = record {
  within = omega arith;
  before = omega (arith, many, table_length 0 (pos 0) (pos 0) targets);
  past = omega (arith, many, table_length 0 (pos 0) (pos 0) targets);
}

not_the_address : (targets : List ℤ) → Refuses (code_of (filled targets (instrs.Simple nop ∷ instrs.Simple return ∷ []))) (errors.TooLong 65535) → ⊥
unfolding filled code_of
not_the_address targets h = omega (arith, h.within)

not_the_one_before : (targets : List ℤ) → length targets ≡ 16379 → Refuses (code_of (filled targets (instrs.Simple nop ∷ instrs.Simple return ∷ []))) (errors.TooLong 3) → ⊥
unfolding form_of filled code_of
not_the_one_before targets many h = omega (arith, h.past, many, table_length 0 (pos 0) (pos 0) targets)

not_the_one_after : (targets : List ℤ) → length targets ≡ 16379 → Refuses (code_of (filled targets (instrs.Simple nop ∷ instrs.Simple return ∷ []))) (errors.TooLong 5) → ⊥
unfolding form_of filled code_of
not_the_one_after targets many h = omega (arith, h.before, many, table_length 0 (pos 0) (pos 0) targets)

-- ---- jumps that are too far

-- over a table of 8,188 targets the way is 32,768 bytes, and over one less it is 32,764
over : List ℤ → List Instr
over targets = instrs.Branch goto (pos 2) ∷ instrs.Table (pos 0) (pos 0) targets ∷ instrs.Simple return ∷ []

far : (targets : List ℤ) → length targets ≡ 8188 → IsFirstFar (over targets) 0
unfolding form_of over
far targets many = record {
  short = omega (arith, many, table_length 3 (pos 0) (pos 0) targets);
  jump = (0, instrs.Branch goto (pos (end_from 0 (instrs.Branch goto (pos 2) ∷ instrs.Table (pos 0) (pos 0) targets ∷ []))));
  first = record {
    found = refl;
    lacks = λ h. omega (arith, ints, h, many, table_length 3 (pos 0) (pos 0) targets);
    before = tt;
  };
}

-- one instruction after a jump of three bytes that is near is reported by its number, which is 1, and not by its address 3
second : List ℤ → List Instr
second targets = instrs.Branch goto (pos 1) ∷ instrs.Branch goto (pos 3) ∷ instrs.Table (pos 0) (pos 0) targets ∷ instrs.Simple return ∷ []

second_is_far : (targets : List ℤ) → length targets ≡ 8188 → Refuses (code_of (second targets)) (errors.Far 1)
unfolding form_of second code_of
second_is_far targets many = record {
  short = omega (arith, many, table_length 6 (pos 0) (pos 0) targets);
  jump = (3, instrs.Branch goto (pos (end_from 0 (instrs.Branch goto (pos 1) ∷ instrs.Branch goto (pos 3) ∷ instrs.Table (pos 0) (pos 0) targets ∷ []))));
  first = record {
    found = refl;
    lacks = λ h. omega (arith, ints, h, many, table_length 6 (pos 0) (pos 0) targets);
    before = (sfits_lit tt, tt);
  };
}

reaches_there : (p q : ℕ × Instr) → Some p ≡ Some q → Reaches p → Reaches q
reaches_there p q e h = subst Reaches (same_Some p q e) h

not_at_its_address : (targets : List ℤ) → Refuses (code_of (second targets)) (errors.Far 3) → ⊥
unfolding form_of second code_of
not_at_its_address targets h = h.first.lacks (reaches_there _ h.jump h.first.found tt)

not_the_near_one : (targets : List ℤ) → Refuses (code_of (second targets)) (errors.Far 0) → ⊥
unfolding form_of second code_of
not_the_near_one targets h = h.first.lacks (reaches_there (0, instrs.Branch goto (pos 3)) h.jump h.first.found (sfits_lit tt))

-- ---- code that is both too long and has a far jump

both : (targets : List ℤ) → length targets ≡ 16380 → Refuses (code_of (over targets)) (errors.TooLong 1)
unfolding form_of over code_of
both targets many = record {
  within = omega arith;
  before = omega arith;
  past = omega (arith, many, table_length 3 (pos 0) (pos 0) targets);
}

its_jump_is_far : (targets : List ℤ) → length targets ≡ 16380 → Reaches (0, instrs.Branch goto (pos (end_from 0 (instrs.Branch goto (pos 2) ∷ instrs.Table (pos 0) (pos 0) targets ∷ [])))) → ⊥
unfolding form_of
its_jump_is_far targets many h = omega (arith, ints, h, many, table_length 3 (pos 0) (pos 0) targets)

both_is_not_far : (targets : List ℤ) (number : ℕ) → length targets ≡ 16380 → Refuses (code_of (over targets)) (errors.Far number) → ⊥
unfolding form_of over code_of
both_is_not_far targets number many h = omega (arith, h.short, many, table_length 3 (pos 0) (pos 0) targets)

-- ---- ways that fit two bytes

ways : Reaches (0, instrs.Branch goto (pos 32767)) × (Reaches (0, instrs.Branch goto (pos 32768)) → ⊥)
    × Reaches (32768, instrs.Branch ifnull (pos 0)) × (Reaches (32769, instrs.Branch ifnull (pos 0)) → ⊥)
    × Reaches (0, instrs.Branch goto_w (pos 65535)) × Reaches (65530, instrs.Lookup (pos 0) [])
unfolding form_of
ways = (sfits_lit tt, λ h. omega (arith, ints, h), sfits_lit tt, λ h. omega (arith, ints, h), sfits_lit tt, (sfits_lit tt, tt))
