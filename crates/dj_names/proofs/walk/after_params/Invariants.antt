use Rattle.std.proofs.Common.{◌≡◌, ◌≤◌, ◌-◌, length}
use Rattle.std.specs.Prelude.{option_map}
use Rattle.dj_names.specs.trusted.DescReading.{params_read}
use Rattle.dj_names.proofs.walk.after_params.Given as goal

-- the rest decides, with the slots so far before it
abbrev pub invariant-loop : goal.invariant-loop
invariant-loop l = record {
  few : l.slots ≤ 255;
  reads : option_map (λ x. x.1) (params_read (l.end - l.counter) l.slots l.rest) ≡ option_map (λ x. x.1) (params_read (length l.fn.bytes) 0 l.fn.bytes);
}
