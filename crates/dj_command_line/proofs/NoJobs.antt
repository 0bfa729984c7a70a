-- When a line with options is one of no job.
use Rattle.std.proofs.Common.{◌≡◌, Bool, true, false, List, [], ◌∷◌, Option, None, refl, cond, codes}
use Rattle.dj_command_line.specs.trusted.Words.{Word, Given, Job, is_word, thresholds_of, steps_of, check_job, verify_job, rewrite_job, raw_job, assemble_job, sample_job, command_job, line_job}

unless : (b : Bool) (x y : Option Job) → x ≡ None → y ≡ None → cond b x y ≡ None
unless true x y a b = a
unless false x y a b = b

pub no_check : (operands : List Word) (o : Given) (os : List Given) → check_job operands (o ∷ os) ≡ None
no_check [] o os = refl
no_check (a ∷ []) o os = refl
no_check (a ∷ b ∷ rest) o os = refl

pub no_rewrite : (operands : List Word) (o : Given) (os : List Given) → rewrite_job operands (o ∷ os) ≡ None
no_rewrite [] o os = refl
no_rewrite (a ∷ []) o os = refl
no_rewrite (a ∷ b ∷ []) o os = refl
no_rewrite (a ∷ b ∷ c ∷ rest) o os = refl

pub no_assemble : (operands : List Word) (o : Given) (os : List Given) → assemble_job operands (o ∷ os) ≡ None
no_assemble [] o os = refl
no_assemble (a ∷ []) o os = refl
no_assemble (a ∷ b ∷ rest) o os = refl

pub no_sample : (operands : List Word) (o : Given) (os : List Given) → sample_job operands (o ∷ os) ≡ None
no_sample [] o os = refl
no_sample (a ∷ []) o os = refl
no_sample (a ∷ b ∷ []) o os = refl
no_sample (a ∷ b ∷ c ∷ rest) o os = refl

no_verify : (operands : List Word) (options : List Given) → thresholds_of options ≡ None → verify_job operands options ≡ None
no_verify [] options none = refl
no_verify (a ∷ []) options none = refl
no_verify (a ∷ b ∷ []) options none = refl
no_verify (a ∷ b ∷ c ∷ []) options none = rw none refl
no_verify (a ∷ b ∷ c ∷ d ∷ rest) options none = refl

no_raw : (operands : List Word) (options : List Given) → steps_of options ≡ None → raw_job operands options ≡ None
no_raw [] options none = refl
no_raw (a ∷ []) options none = refl
no_raw (a ∷ b ∷ []) options none = refl
no_raw (a ∷ b ∷ c ∷ []) options none = rw none refl
no_raw (a ∷ b ∷ c ∷ d ∷ rest) options none = refl

-- options that neither verify nor raw takes are no command's
pub no_command : (command : Word) (operands : List Word) (o : Given) (os : List Given) → thresholds_of (o ∷ os) ≡ None → steps_of (o ∷ os) ≡ None
    → command_job command operands (o ∷ os) ≡ None
no_command command operands o os thresholds steps =
    unless (is_word command (codes "check")) _ _ (no_check operands o os)
    (unless (is_word command (codes "verify")) _ _ (no_verify operands (o ∷ os) thresholds)
    (unless (is_word command (codes "rewrite")) _ _ (no_rewrite operands o os)
    (unless (is_word command (codes "raw")) _ _ (no_raw operands (o ∷ os) steps)
    (unless (is_word command (codes "assemble")) _ _ (no_assemble operands o os)
    (unless (is_word command (codes "sample")) _ None (no_sample operands o os) refl)))))

pub no_line : (plain : List Word) (o : Given) (os : List Given) → thresholds_of (o ∷ os) ≡ None → steps_of (o ∷ os) ≡ None → line_job plain (o ∷ os) ≡ None
no_line [] o os thresholds steps = refl
no_line (command ∷ operands) o os thresholds steps = no_command command operands o os thresholds steps
