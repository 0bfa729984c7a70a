-- The laws at plain values: what is written of views that were read, and what reading gives back of bytes that were written.
use Rattle.std.proofs.Common.{◌≡◌, length, Ok, Err, refl, sym, ap, ◌∙◌, arith}
use Rattle.dj_pool.specs.declared.pool.PoolError.TheVariants as pool_errors
use Rattle.dj_class.specs.declared.class.ClassError.TheVariants as errors
use Rattle.dj_class.specs.declared.class.ClassView.{ClassView}
use Rattle.dj_class.specs.trusted.ClassFile.{ClassFile, class_bytes}
use Rattle.dj_class.specs.Views.{class_of, ReadsClass}
use Rattle.dj_class.proofs.Facts.{class_a, bytes_a, class_b, bytes_b, class_b-bytes}
use Rattle.dj_class.proofs.AnswerFacts.{class_a-is}
use Rattle.dj_write.specs.Laws.{GivesBack}
use Rattle.dj_write.proofs.LawProofs.{file_of_view, view_of_file}

-- ---- writing

-- the bytes of a view are those of the class file that it shows
written : (view : ClassView) → class_of view ≡ class_b → class_bytes (class_of view) ≡ bytes_b
written view shows = ap class_bytes shows ∙ class_b-bytes

lengths : (length bytes_a ≡ 106) × (length bytes_b ≡ 80)
unfolding bytes_a bytes_b
lengths = (refl, refl)

written_not : (view : ClassView) → class_of view ≡ class_b → class_bytes (class_of view) ≡ bytes_a → ⊥
written_not view shows h = let same : bytes_b ≡ bytes_a = sym (written view shows) ∙ h in omega (arith, ap length same, lengths.0, lengths.1)

-- of a view that was read they are those that it was read from
read-written : (view : ClassView) → ReadsClass bytes_a (Ok view) → class_bytes (class_of view) ≡ bytes_a
read-written view h = file_of_view bytes_a view h

-- ---- reading what was written

-- the class file is given back, or memory ran out
given-back : (view : ClassView) → class_of view ≡ class_a → GivesBack class_a (Ok view)
given-back view shows = shows

given-memory : GivesBack class_a (Err errors.Memory) × GivesBack class_a (Err (errors.Pool pool_errors.Memory))
given-memory = (refl, refl)

-- no other, and nothing is reported to be wrong with it
given-other_not : (view : ClassView) → class_of view ≡ class_b → GivesBack class_a (Ok view) → ⊥
unfolding class_a class_b
given-other_not view shows h =
    let same : class_b ≡ class_a = sym shows ∙ h in
    let super : 0 ≡ 4 = ap (λ (c : ClassFile). c.super_class) same in
    omega (arith, super)

given-magic_not : GivesBack class_a (Err errors.Magic) → ⊥
given-magic_not h = absurd cc

given-cut_not : GivesBack class_a (Err (errors.Cut 90)) → ⊥
given-cut_not h = absurd cc

given-pool_not : GivesBack class_a (Err (errors.Pool (pool_errors.Link 2))) → ⊥
given-pool_not h = absurd cc

-- what reading the bytes of a class file answers
written-read : (view : ClassView) → ReadsClass (class_bytes class_a) (Ok view) → class_of view ≡ class_a
written-read view h = view_of_file class_a class_a-is.valid (Ok view) h

written-cut_not : ReadsClass (class_bytes class_a) (Err (errors.Cut 90)) → ⊥
written-cut_not h = given-cut_not (view_of_file class_a class_a-is.valid (Err (errors.Cut 90)) h)
