-- The jobs of `raw` and `assemble`, and the commands that aren't done yet.
use Rattle.std.proofs.Common.{◌≡◌, Bool, true, false, List, [], ◌∷◌, Option, Some, None, refl, ap, cond, codes, ℕ}
use Rattle.std.specs.Prelude.{option_and_then}
use Rattle.std.proofs.lemmas.Slice.Eq.{bytes_eq-Decides}
use Rattle.dj_cursor.specs.trusted.Options.{◌>>=◌}
use Rattle.dj_command_line.specs.trusted.Words.{Word, Job, Sample, is_word, number_between, rewrite_job, assemble_job, sample_job}
use Rattle.dj_command_line.specs.trusted.DoneJobs.{DoneJob, done}
use Rattle.dj_command_line.specs.WordsApp.{Values, has_no_value, steps_in, raw_in, job_of_values}

abbrev cut : Option Job → Option DoneJob
cut job = option_and_then done job

pub job_of_raw : (name : Word) (operands : List Word) (v : Values) → is_word name (codes "raw") ≡ true → job_of_values name operands v ≡ raw_in operands (steps_in v)
job_of_raw name operands v is = ap (λ n. job_of_values n operands v) ((bytes_eq-Decides name (codes "raw")).0 is)

pub job_of_assemble : (name : Word) (operands : List Word) (v : Values) → is_word name (codes "assemble") ≡ true
    → job_of_values name operands v ≡ cond (has_no_value v) (assemble_job operands []) None
job_of_assemble name operands v is = ap (λ n. job_of_values n operands v) ((bytes_eq-Decides name (codes "assemble")).0 is)

rewrite_undone : (b : Bool) (operands : List Word) → cut (cond b (rewrite_job operands []) None) ≡ None
rewrite_undone false operands = refl
rewrite_undone true [] = refl
rewrite_undone true (a ∷ []) = refl
rewrite_undone true (a ∷ b ∷ []) = refl
rewrite_undone true (a ∷ b ∷ c ∷ rest) = refl

two_numbers : (seed count : Option ℕ) → cut (seed >>= λ s. count >>= λ c. Some (Sample s c)) ≡ None
two_numbers None count = refl
two_numbers (Some s) None = refl
two_numbers (Some s) (Some c) = refl

sample_undone : (b : Bool) (operands : List Word) → cut (cond b (sample_job operands []) None) ≡ None
sample_undone false operands = refl
sample_undone true [] = refl
sample_undone true (a ∷ []) = refl
sample_undone true (a ∷ b ∷ []) = two_numbers (number_between 0 65536 a) (number_between 1 1000 b)
sample_undone true (a ∷ b ∷ c ∷ rest) = refl

either : (b : Bool) (x y : Option Job) (z : Option DoneJob) → cut x ≡ z → cut y ≡ z → cut (cond b x y) ≡ z
either true x y z e f = e
either false x y z e f = f

pub job_of_others : (name : Word) (operands : List Word) (v : Values) → is_word name (codes "check") ≡ false → is_word name (codes "verify") ≡ false → is_word name (codes "raw") ≡ false → is_word name (codes "assemble") ≡ false → cut (job_of_values name operands v) ≡ None
job_of_others name operands v no_check no_verify no_raw no_assemble =
    rw (no_check, no_verify, no_raw, no_assemble) (either (is_word name (codes "rewrite")) _ _ None (rewrite_undone (has_no_value v) operands)
    (either (is_word name (codes "sample")) _ None None (sample_undone (has_no_value v) operands) refl))
