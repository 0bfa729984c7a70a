-- Whole runs of small programs, computed.
use Rattle.std.proofs.Common.{refl}
use Rattle.std.specs.Int.{int_wrap}
use Rattle.dj_straight.specs.trusted.Instructions.{instruction_of, simple}
use Rattle.dj_straight.specs.trusted.Program.{code_of, has_initialiser, chain_of, is_subclass, ancestors_of}
use Rattle.dj_straight.specs.trusted.Effects.{effect}
use Rattle.dj_straight.specs.trusted.Initialisation.{constants_of, with_constants}
use Rattle.dj_straight.specs.trusted.Step.{step, unwound}
use Rattle.dj_straight.specs.trusted.Charges.{amounts}
use Rattle.dj_straight.specs.trusted.Metered.{begin, turn, turns}
use Rattle.dj_straight.specs.SmallRuns.{WorkedReturns, WorkedInts, WorkedArrays, WorkedCharges, WorkedHandlers, WorkedBeginnings, WorkedRuns}

returns : WorkedReturns
unfolding begin constants_of with_constants turns turn step unwound effect instruction_of simple amounts code_of has_initialiser chain_of int_wrap
returns = record {
  same_input = (4, refl);
  no_input = (4, refl);
  null = (4, refl);
  popped = (10, refl);
  other_slot = (8, refl);
  int_slot = (18, refl);
  reported_slot = (18, refl);
  reported_reference = (8, refl);
}

ints : WorkedInts
unfolding begin constants_of with_constants turns turn step unwound effect instruction_of simple amounts code_of has_initialiser chain_of int_wrap
ints = record {
  low_byte = (14, refl);
  low_byte_negative = (14, refl);
  doubled = (18, refl);
  added = (18, refl);
  subtracted = (18, refl);
  multiplied = (18, refl);
  and = (18, refl);
  and_negative = (18, refl);
  or = (18, refl);
  or_negative = (18, refl);
  xor = (18, refl);
  xor_negative = (18, refl);
  wraps_to_zero = (14, refl);
  wraps_to_negative = (12, refl);
}

arrays : WorkedArrays
unfolding begin constants_of with_constants turns turn step unwound effect instruction_of simple amounts code_of has_initialiser chain_of int_wrap
arrays = record {
  loaded = (18, refl);
  sign = (22, refl);
  stored = (12, refl);
  counted = (16, refl);
  loads_outside = (6, refl);
  loads_negative = (6, refl);
  stores_outside = (8, refl);
  loads_null = (6, refl);
  stores_null = (8, refl);
  counts_null = (4, refl);
  negative_size = (4, refl);
}

charges : WorkedCharges
unfolding begin constants_of with_constants turns turn step unwound effect instruction_of simple amounts code_of has_initialiser chain_of int_wrap
charges = record {
  no_bytes = (6, refl);
  not_rounded = (10, refl);
  rounded_up = (10, refl);
  at_threshold = (6, refl);
  above_threshold = (3, refl);
  sum_at_threshold = (12, refl);
  sum_above_threshold = (9, refl);
}

handlers : WorkedHandlers
unfolding begin constants_of with_constants turns turn step unwound effect instruction_of simple amounts code_of has_initialiser chain_of is_subclass ancestors_of
handlers = record {
  again = (33, refl);
  by_class = (10, refl);
  first_range = (10, refl);
  superclass_caught = (10, refl);
  one_operand = refl;
  throw_before_bytes = (3, refl);
  bytes_after_throw = (3, refl);
  highest_initialiser = (4, refl);
  by_initialiser = (4, refl);
}

beginnings : WorkedBeginnings
unfolding begin constants_of with_constants code_of has_initialiser chain_of
beginnings = record { constants = refl; no_room_for_text = refl; no_room_for_input = refl; superclass_first = refl }

pub worked_runs : WorkedRuns
worked_runs = record { returns = returns; ints = ints; arrays = arrays; charges = charges; handlers = handlers; beginnings = beginnings }
