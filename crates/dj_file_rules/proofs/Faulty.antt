-- What the views of files say, and the faults of the reader.
use Rattle.std.proofs.Common.{◌≡◌, ℕ, ◌<◌, ◌^◌, Bool, true, false, List, [], ◌∷◌, map, length, refl, arith, None, Err, MatchBool}
use Rattle.dj_pool.specs.declared.pool.PoolError.TheVariants as pool_errors
use Rattle.dj_pool.proofs.ShortTexts.{class_name_short}
use Rattle.dj_class.specs.declared.class.ClassError.{ClassError}
use Rattle.dj_class.specs.declared.class.ClassError.TheVariants as class_errors
use Rattle.dj_class.specs.trusted.ClassFile.{ClassFile, IsClassFile, IsMalformed}
use Rattle.dj_class.specs.Views.{ReadsClass}
use Rattle.dj_class.specs.Faults.{IsFault}
use Rattle.dj_pool.proofs.Decides.{tests_decide}
use Rattle.dj_class.proofs.AnswerLaws.{faulty_is_malformed}
use Rattle.dj_report.specs.declared.report.PathFile.{PathFile}
use Rattle.dj_file_rules.specs.Views.{path_file_view}
use Rattle.dj_class.specs.Memory.{is_memory}
use Rattle.dj_file_rules.specs.Reads.{IsOnlyView}
use Rattle.dj_file_rules.specs.trusted.Violations.{this_name}

-- the text of a class is short
pub short_name : (bytes : List ℕ) (c : ClassFile) → IsClassFile bytes c → length (this_name c) < 2 ^ 32
short_name bytes c is =
    let short = class_name_short c.pool c.this_class is.valid.pool in
    omega (arith, short)

-- ---- what a view shows

not_read : (bytes : List ℕ) (e : ClassError) → IsFault bytes e → IsMalformed bytes
not_read bytes e fault = faulty_is_malformed tests_decide bytes e fault

-- the file was read, and is no class file
pub malformed_view : (bytes : List ℕ) (e : ClassError) → ReadsClass bytes (Err e) → is_memory e ≡ false → IsMalformed bytes
malformed_view bytes class_errors.Magic r m = not_read bytes _ r
malformed_view bytes (class_errors.Cut place) r m = not_read bytes _ r
malformed_view bytes (class_errors.Pool (pool_errors.Cut place)) r m = not_read bytes _ r
malformed_view bytes (class_errors.Pool (pool_errors.Tag place)) r m = not_read bytes _ r
malformed_view bytes (class_errors.Pool (pool_errors.Link index)) r m = not_read bytes _ r
malformed_view bytes (class_errors.Pool (pool_errors.Text index)) r m = not_read bytes _ r
malformed_view bytes (class_errors.Pool pool_errors.Memory) r m = absurd cc
malformed_view bytes (class_errors.Index place) r m = not_read bytes _ r
malformed_view bytes (class_errors.Trailing place) r m = not_read bytes _ r
malformed_view bytes class_errors.Memory r m = absurd cc

-- no view is kept where there isn't one file
pub only_none : (files : List PathFile) → (length files ≡ 1 → ⊥) → IsOnlyView (map path_file_view files) None
only_none [] not_one = tt
only_none (file ∷ []) not_one = absurd (not_one refl)
only_none (file ∷ other ∷ files) not_one = tt

-- ---- what a test says

pub reported_true : (b : Bool) (P Q : Type 0) → b ≡ true → MatchBool b P Q → P
reported_true true P Q e h = h
reported_true false P Q e h = absurd cc

pub reported_false : (b : Bool) (P Q : Type 0) → b ≡ false → MatchBool b P Q → Q
reported_false true P Q e h = absurd cc
reported_false false P Q e h = h
