-- The number that a report gives for a limit is the one that is compared; what a run may take at most; and the statuses of how it may end.
use Rattle.std.proofs.Common.{◌≡◌, List, [], ◌∷◌, ◌++◌, map, Some, codes, refl}
use Rattle.std.specs.Fmt.{decimal, digits}
use Rattle.dj_names.specs.declared.run.Message.TheVariants as messages
use Rattle.dj_names.specs.declared.run.Outcome.{Outcome}
use Rattle.dj_names.specs.declared.run.Outcome.TheVariants as outcomes
use Rattle.dj_report.specs.declared.report.Limit.TheVariants as limits
use Rattle.dj_report.specs.trusted.Outcomes.{outcome_status}
use Rattle.dj_report.specs.trusted.Text.{limit_text}
use Rattle.dj_model.specs.trusted.State.{Uncounted}
use Rattle.dj_class_set.specs.trusted.Judging.{raw_terms}
use Rattle.dj_class_set.specs.trusted.Limits.{most_files, most_file_bytes, most_total_bytes, most_input_bytes, most_heap_bytes}
use Rattle.dj_class_set.specs.trusted.Statuses.{IsAmong}
use Rattle.dj_class_set.specs.Statuses.{raw_statuses}

-- ---- limits

limit-texts : map limit_text (limits.FileCount ∷ limits.File ∷ limits.Total ∷ limits.Input ∷ [])
    ≡ (codes "files " ++ decimal most_files) ∷ (codes "file " ++ decimal most_file_bytes) ∷ (codes "total " ++ decimal most_total_bytes) ∷ (codes "input " ++ decimal most_input_bytes) ∷ []
unfolding digits
limit-texts = refl

limit-heap : most_heap_bytes ≡ 67108864
limit-heap = refl

-- the heap of a run has that limit, and nobody counts its charges
terms-raw : raw_terms ≡ record { limit = Some 67108864; counting = Uncounted }
terms-raw = refl

-- ---- statuses

-- null, an array, an exception, too many frames, an initialiser's exception, a wrong class, too many steps, and too many bytes
abbrev ends : List Outcome
ends =
    outcomes.OkNull ∷ outcomes.OkBytes (1 ∷ []) ∷ outcomes.Threw (codes "A") messages.Null ∷ outcomes.TooDeep ∷ outcomes.Init (codes "A") (codes "B") messages.Null
    ∷ outcomes.Link ∷ outcomes.OutOfSteps 5 ∷ outcomes.HeapFull 16 24 ∷ []

-- beside these a run may be rejected
statuses-raw : map outcome_status ends ∷ raw_statuses ∷ [] ≡ (0 ∷ 0 ∷ 1 ∷ 4 ∷ 5 ∷ 6 ∷ 8 ∷ 9 ∷ []) ∷ (0 ∷ 1 ∷ 2 ∷ 4 ∷ 5 ∷ 6 ∷ 8 ∷ 9 ∷ []) ∷ []
statuses-raw = refl

-- a threshold is no end of such a run, and no set is put off
statuses-raw_not : (IsAmong 3 raw_statuses → ⊥) × (IsAmong 75 raw_statuses → ⊥) × (IsAmong 7 raw_statuses → ⊥)
statuses-raw_not = (λ h. absurd cc, λ h. absurd cc, λ h. absurd cc)
