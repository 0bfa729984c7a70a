use Rattle.std.proofs.Common.{refl, arith}
use Rattle.dj_names.specs.trusted.NameReading.{reads_class_name}
use Rattle.dj_names.specs.trusted.DescReading.{method_read, params_read, type_read, dims_read, of_read, class_read, name_read, return_read}
use Rattle.dj_names.specs.Tests.{unqualified_name_test, method_name_test, method_descriptor_test}
use Rattle.dj_rename.proofs.Accounting.{called_is, six_called}
use Rattle.dj_rename.proofs.accounter.accounter_methods.Goals as goal

pub returns-clause-called : goal.returns-clause-called
unfolding method_name_test unqualified_name_test method_descriptor_test reads_class_name method_read params_read type_read dims_read of_read class_read name_read return_read
returns-clause-called c =
    six_called _ _ _ _ _ _
    (called_is _ refl refl (omega arith) (omega arith) refl refl)
    (called_is _ refl refl (omega arith) (omega arith) refl refl)
    (called_is _ refl refl (omega arith) (omega arith) refl refl)
    (called_is _ refl refl (omega arith) (omega arith) refl refl)
    (called_is _ refl refl (omega arith) (omega arith) refl refl)
    (called_is _ refl refl (omega arith) (omega arith) refl refl)

pub returns-clause-constants : goal.returns-clause-constants
returns-clause-constants c = λ class at. refl

pub returns-clause-count : goal.returns-clause-count
returns-clause-count c = refl
