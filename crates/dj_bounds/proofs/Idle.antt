-- A limit that the bounds don't reach makes no difference.
use Rattle.std.proofs.Common.{◌≡◌, ℕ, [], Some, ap, inl, inr, arith}
use Rattle.dj_names.specs.Types.{in_sandbox, sandbox_prefix}
use Rattle.dj_model.specs.Types.{declared_map}
use Rattle.dj_model.specs.trusted.State.{Accounted}
use Rattle.dj_model.specs.trusted.Runs.{Ran, Going, Finished, NoStep, from_start, steps, begin, report_of, plain_run}
use Rattle.dj_groups.specs.Rewritten.{rewritten}
use Rattle.dj_sim.specs.Counting.{terms_with}
use Rattle.dj_sim.specs.Limits.{RanAbove, RanLimited}
use Rattle.dj_sim.specs.Metering.{plain_after}
use Rattle.dj_sim.proofs.Limited.{begin_limited, run_limited}
use Rattle.dj_bounds.specs.Bytes.{most_bytes}
use Rattle.dj_bounds.specs.Laws.{RanWithin, RanFits, LimitIsIdle}

not_above : (limit bytes : ℕ) (r : Ran) → RanWithin bytes r → RanFits limit bytes r → RanAbove limit r → ⊥
not_above limit bytes (Going s) within fits above = absurd (omega (arith, within, fits, above))
not_above limit bytes (Finished outcome s n) within fits above = absurd (omega (arith, within, fits, above))
not_above limit bytes NoStep within fits above = within

pub limit_idle : LimitIsIdle
unfolding plain_run
limit_idle program entry most input bounded limit k fits = go
    (run_limited (rewritten program) sandbox_prefix limit (Accounted most) k _ _ (begin_limited (rewritten program) sandbox_prefix limit (Accounted most) (declared_map in_sandbox entry) input [])) where
      limited : Ran
      limited = from_start (steps (rewritten program) sandbox_prefix (terms_with (Some limit) (Accounted most)) k) (begin (rewritten program) sandbox_prefix (terms_with (Some limit) (Accounted most)) (declared_map in_sandbox entry) input [])

      go : RanLimited limit limited (plain_after program most entry input k) → report_of [] k limited ≡ report_of [] k (plain_after program most entry input k)
      go (inl same) = ap (report_of [] k) same
      go (inr (full, above)) = absurd (not_above limit (most_bytes most input) (plain_after program most entry input k) (bounded.bytes k) fits above)
