-- Reading and writing undo each other.
use Rattle.std.proofs.Common.{Ok, Err, refl, sym}
use Rattle.dj_pool.specs.declared.pool.PoolError.TheVariants as pool_errors
use Rattle.dj_pool.proofs.Decides.{tests_decide}
use Rattle.dj_class.specs.declared.class.ClassError.{ClassError}
use Rattle.dj_class.specs.declared.class.ClassError.TheVariants as class_errors
use Rattle.dj_class.specs.trusted.ClassFile.{ClassFile, class_bytes, IsValid, IsClassFile}
use Rattle.dj_class.specs.Faults.{IsFault}
use Rattle.dj_class.specs.Views.{class_of}
use Rattle.dj_class.proofs.ClassLaws.{one_class_file}
use Rattle.dj_class.proofs.AnswerLaws.{faulty_is_malformed}
use Rattle.dj_write.specs.Laws.{FileOfView, ViewOfFile}

pub file_of_view : FileOfView
file_of_view bytes view file = sym file.spelled

-- the bytes of a valid class file are its bytes
of_valid : (c : ClassFile) → IsValid c → IsClassFile (class_bytes c) c
of_valid c valid = record { spelled = refl; valid = valid }

-- they have no fault
no_fault : (c : ClassFile) (e : ClassError) → IsValid c → IsFault (class_bytes c) e → ⊥
no_fault c e valid fault = faulty_is_malformed tests_decide (class_bytes c) e fault c (of_valid c valid)

pub view_of_file : ViewOfFile
view_of_file c valid (Ok view) h = one_class_file tests_decide (class_bytes c) (class_of view) c h (of_valid c valid)
view_of_file c valid (Err class_errors.Memory) h = refl
view_of_file c valid (Err (class_errors.Pool pool_errors.Memory)) h = refl
view_of_file c valid (Err (class_errors.Pool (pool_errors.Cut p))) h = absurd (no_fault c _ valid h)
view_of_file c valid (Err (class_errors.Pool (pool_errors.Tag p))) h = absurd (no_fault c _ valid h)
view_of_file c valid (Err (class_errors.Pool (pool_errors.Link p))) h = absurd (no_fault c _ valid h)
view_of_file c valid (Err (class_errors.Pool (pool_errors.Text p))) h = absurd (no_fault c _ valid h)
view_of_file c valid (Err class_errors.Magic) h = absurd (no_fault c _ valid h)
view_of_file c valid (Err (class_errors.Cut p)) h = absurd (no_fault c _ valid h)
view_of_file c valid (Err (class_errors.Index p)) h = absurd (no_fault c _ valid h)
view_of_file c valid (Err (class_errors.Trailing p)) h = absurd (no_fault c _ valid h)
