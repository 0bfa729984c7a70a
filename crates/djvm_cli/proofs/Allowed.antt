-- The thresholds of a job that words ask for are at most their maxima.
use Rattle.std.proofs.Common.{◌≡◌, ◌≤◌, ◌&&◌, ℕ, Bool, true, false, List, [], ◌∷◌, Option, Some, None, cond, codes, arith, refl, sym, subst}
use Rattle.std.proofs.lemmas.Bool.Decides.{nat_tests}
use Rattle.std.specs.Prelude.{option_map, nat_le, filter}
use Rattle.dj_cursor.specs.trusted.Options.{◌>>=◌}
use Rattle.dj_names.specs.declared.run.Thresholds.{Thresholds}
use Rattle.dj_class_set.specs.Limits.{IsWithinMost}
use Rattle.dj_command_line.specs.trusted.Words.{Word, Given, Job, Setting, Verify, Sample, Raw, Line, is_word, is_numeral, decimal_value, without_slash, number_between, number_given, number_of, has_only, given_thresholds, thresholds_of, steps_of, alloc_setting, invoke_setting, jump_setting, throw_setting, steps_setting, check_job, verify_job, rewrite_job, raw_job, assemble_job, sample_job, command_job, line_job, line_of, job_of}
use Rattle.dj_command_line.specs.trusted.Words as words
use Rattle.dj_command_line.specs.trusted.DoneJobs.{DoneJob, done, done_job_of}
use Rattle.djvm_cli.specs.Jobs.{IsAllowedJob}

-- ---- numbers

abbrev IsAtMost : ℕ → Option ℕ → Type 0
IsAtMost most None = Unit {0}
IsAtMost most (Some n) = n ≤ most

number_most : (most : ℕ) (text : Word) → IsAtMost most (number_between 0 most text)
number_most most text = go (is_numeral text) (nat_le 0 (decimal_value text)) (nat_le (decimal_value text) most) refl where
  go : (a b c : Bool) → nat_le (decimal_value text) most ≡ c → IsAtMost most (cond (a && b && c) (Some (decimal_value text)) None)
  go true true true e = grind (arith, nat_tests)
  go true true false e = tt
  go true false c e = tt
  go false b c e = tt

given_most : (s : Setting) → s.default ≤ s.most → (given : List Given) → IsAtMost s.most (number_given s given)
given_most s default [] = default
given_most s default (given ∷ []) = number_most s.most given.1
given_most s default (given ∷ other ∷ others) = tt

-- ---- thresholds

abbrev AreAtMost : Option Thresholds → Type 0
AreAtMost None = Unit {0}
AreAtMost (Some most) = IsWithinMost most

all_at_most : (a i j t : Option ℕ) → IsAtMost 1073741824 a → IsAtMost 1073741824 i → IsAtMost 1073741824 j → IsAtMost 1048576 t
    → AreAtMost (a >>= λ alloc. i >>= λ invoke. j >>= λ jump. t >>= λ throw. Some (record { alloc = alloc; invoke = invoke; jump = jump; throw = throw }))
all_at_most None i j t pa pi pj pt = tt
all_at_most (Some a) None j t pa pi pj pt = tt
all_at_most (Some a) (Some i) None t pa pi pj pt = tt
all_at_most (Some a) (Some i) (Some j) None pa pi pj pt = tt
all_at_most (Some a) (Some i) (Some j) (Some t) pa pi pj pt = record { alloc = pa; invoke = pi; jump = pj; throw = pt }

abbrev named : Setting → List Given → List Given
named s options = filter (λ given. is_word given.0 s.name) options

thresholds_most : (options : List Given) → AreAtMost (thresholds_of options)
thresholds_most options = go (has_only (alloc_setting ∷ invoke_setting ∷ jump_setting ∷ throw_setting ∷ []) options) where
  go : (b : Bool) → AreAtMost (cond b (given_thresholds options) None)
  go false = tt
  go true = all_at_most (number_of alloc_setting options) (number_of invoke_setting options) (number_of jump_setting options) (number_of throw_setting options)
      (given_most alloc_setting (omega arith) (named alloc_setting options)) (given_most invoke_setting (omega arith) (named invoke_setting options)) (given_most jump_setting (omega arith) (named jump_setting options)) (given_most throw_setting (omega arith) (named throw_setting options))

-- ---- jobs

abbrev Fits : Option Job → Type 0
Fits (Some (words.Verify folder entry input most)) = IsWithinMost most
Fits _ = Unit {0}

either : (b : Bool) (x y : Option Job) → Fits x → Fits y → Fits (cond b x y)
either true x y p q = p
either false x y p q = q

check_fits : (operands : List Word) (options : List Given) → Fits (check_job operands options)
check_fits [] options = tt
check_fits (a ∷ []) [] = tt
check_fits (a ∷ []) (o ∷ os) = tt
check_fits (a ∷ b ∷ rest) options = tt

some_verify : (folder entry input : Word) (thresholds : Option Thresholds) → AreAtMost thresholds → Fits (option_map (words.Verify folder entry input) thresholds)
some_verify folder entry input None p = tt
some_verify folder entry input (Some most) p = p

verify_fits : (operands : List Word) (options : List Given) → Fits (verify_job operands options)
verify_fits [] options = tt
verify_fits (a ∷ []) options = tt
verify_fits (a ∷ b ∷ []) options = tt
verify_fits (a ∷ b ∷ c ∷ []) options = some_verify (without_slash a) b c (thresholds_of options) (thresholds_most options)
verify_fits (a ∷ b ∷ c ∷ d ∷ rest) options = tt

rewrite_fits : (operands : List Word) (options : List Given) → Fits (rewrite_job operands options)
rewrite_fits [] options = tt
rewrite_fits (a ∷ []) options = tt
rewrite_fits (a ∷ b ∷ []) [] = tt
rewrite_fits (a ∷ b ∷ []) (o ∷ os) = tt
rewrite_fits (a ∷ b ∷ c ∷ rest) options = tt

some_raw : (folder entry input : Word) (steps : Option ℕ) → Fits (option_map (Raw folder entry input) steps)
some_raw folder entry input None = tt
some_raw folder entry input (Some steps) = tt

raw_fits : (operands : List Word) (options : List Given) → Fits (raw_job operands options)
raw_fits [] options = tt
raw_fits (a ∷ []) options = tt
raw_fits (a ∷ b ∷ []) options = tt
raw_fits (a ∷ b ∷ c ∷ []) options = some_raw (without_slash a) b c (steps_of options)
raw_fits (a ∷ b ∷ c ∷ d ∷ rest) options = tt

assemble_fits : (operands : List Word) (options : List Given) → Fits (assemble_job operands options)
assemble_fits [] options = tt
assemble_fits (a ∷ []) [] = tt
assemble_fits (a ∷ []) (o ∷ os) = tt
assemble_fits (a ∷ b ∷ rest) options = tt

some_sample : (seed count : Option ℕ) → Fits (seed >>= λ s. count >>= λ c. Some (Sample s c))
some_sample None count = tt
some_sample (Some s) None = tt
some_sample (Some s) (Some c) = tt

sample_fits : (operands : List Word) (options : List Given) → Fits (sample_job operands options)
sample_fits [] options = tt
sample_fits (a ∷ []) options = tt
sample_fits (a ∷ b ∷ []) [] = some_sample (number_between 0 65536 a) (number_between 1 1000 b)
sample_fits (a ∷ b ∷ []) (o ∷ os) = tt
sample_fits (a ∷ b ∷ c ∷ rest) options = tt

line_fits : (plain : List Word) (options : List Given) → Fits (line_job plain options)
line_fits [] options = tt
line_fits (command ∷ operands) options =
    either (is_word command (codes "check")) _ _ (check_fits operands options)
    (either (is_word command (codes "verify")) _ _ (verify_fits operands options)
    (either (is_word command (codes "rewrite")) _ _ (rewrite_fits operands options)
    (either (is_word command (codes "raw")) _ _ (raw_fits operands options)
    (either (is_word command (codes "assemble")) _ _ (assemble_fits operands options)
    (either (is_word command (codes "sample")) _ None (sample_fits operands options) tt)))))

job_fits : (line : Option Line) → Fits (line >>= λ l. line_job l.plain l.options)
job_fits None = tt
job_fits (Some l) = line_fits l.plain l.options

abbrev AllowsSome : Option DoneJob → Type 0
AllowsSome None = Unit {0}
AllowsSome (Some job) = IsAllowedJob job

done_allows : (job : Option Job) → Fits job → AllowsSome (job >>= done)
done_allows None p = tt
done_allows (Some (words.Check folder)) p = tt
done_allows (Some (words.Verify folder entry input most)) p = p
done_allows (Some (words.Rewrite folder class)) p = tt
done_allows (Some (words.Raw folder entry input steps)) p = tt
done_allows (Some (words.Assemble file)) p = tt
done_allows (Some (words.Sample seed count)) p = tt

pub done_job_allowed : (line : List Word) (job : DoneJob) → Some job ≡ done_job_of line → IsAllowedJob job
unfolding done_job_of
done_job_allowed line job is = subst AllowsSome (sym is) (done_allows (job_of line) (job_fits (line_of line)))
