-- What reading a class file answers, that no two answers are right, and that one is.
use Rattle.std.proofs.Common.{◌≡◌, ℕ, List, Result, Ok, Err, refl}
use Rattle.dj_cursor.specs.Steps.{Gives}
use Rattle.dj_cursor.proofs.Bytes.{IsBytes}
use Rattle.dj_pool.specs.declared.pool.PoolError.TheVariants as pool_errors
use Rattle.dj_pool.proofs.Decides.{TestsDecide}
use Rattle.dj_class.specs.declared.class.ClassError.{ClassError}
use Rattle.dj_class.specs.declared.class.ClassError.TheVariants as class_errors
use Rattle.dj_class.specs.declared.class.ClassView.{ClassView}
use Rattle.dj_class.specs.trusted.ClassFile.{ClassFile, IsMalformed}
use Rattle.dj_class.specs.Faults.{IsFault}
use Rattle.dj_class.specs.Laws.{ClassOrFault, IsOne, IsFaulty}
use Rattle.dj_class.specs.Views.{class_of, ReadsClass}
use Rattle.dj_class.specs.Reading.{class_file_of}
use Rattle.dj_class.specs.Memory.{is_memory}
use Rattle.dj_class.proofs.ClassLaws.{class_file_takes, class_file_again, fault_reported, fault_again}

pub one_fault : TestsDecide → (bytes : List ℕ) (a b : ClassError) → IsFault bytes a → IsFault bytes b → a ≡ b
one_fault d bytes a b p q =
    let one = fault_again d bytes a p in
    let other = fault_again d bytes b q in
    cc

pub faulty_is_malformed : TestsDecide → (bytes : List ℕ) (e : ClassError) → IsFault bytes e → IsMalformed bytes
faulty_is_malformed d bytes e fault c file =
    let one = fault_again d bytes e fault in
    let other = class_file_again d bytes c file in
    absurd cc

decided : TestsDecide → (bytes : List ℕ) (r : Result ClassFile ClassError) → IsBytes bytes → class_file_of bytes ≡ r → ClassOrFault bytes
decided d bytes (Ok c) fits h = IsOne c (class_file_takes d bytes c fits h)
decided d bytes (Err e) fits h = IsFaulty e (fault_reported d bytes e fits h)

pub class_or_fault : TestsDecide → (bytes : List ℕ) → IsBytes bytes → ClassOrFault bytes
class_or_fault d bytes fits = decided d bytes (class_file_of bytes) fits refl

pub reads_class : TestsDecide → (bytes : List ℕ) (r : Result ClassView ClassError) → IsBytes bytes → Gives is_memory class_of r (class_file_of bytes) → ReadsClass bytes r
reads_class d bytes (Ok view) fits given = class_file_takes d bytes (class_of view) fits given
reads_class d bytes (Err (class_errors.Pool pool_errors.Memory)) fits given = tt
reads_class d bytes (Err (class_errors.Pool (pool_errors.Cut p))) fits given = fault_reported d bytes _ fits given
reads_class d bytes (Err (class_errors.Pool (pool_errors.Tag p))) fits given = fault_reported d bytes _ fits given
reads_class d bytes (Err (class_errors.Pool (pool_errors.Link p))) fits given = fault_reported d bytes _ fits given
reads_class d bytes (Err (class_errors.Pool (pool_errors.Text p))) fits given = fault_reported d bytes _ fits given
reads_class d bytes (Err class_errors.Memory) fits given = tt
reads_class d bytes (Err class_errors.Magic) fits given = fault_reported d bytes _ fits given
reads_class d bytes (Err (class_errors.Cut p)) fits given = fault_reported d bytes _ fits given
reads_class d bytes (Err (class_errors.Index p)) fits given = fault_reported d bytes _ fits given
reads_class d bytes (Err (class_errors.Trailing p)) fits given = fault_reported d bytes _ fits given
