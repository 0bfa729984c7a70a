use Rattle.std.proofs.Common.{refl}
use Rattle.dj_names.specs.trusted.NameReading.{reads_class_name}
use Rattle.dj_names.specs.trusted.DescReading.{dims_read, name_read, class_read, of_read, type_read, params_read, field_read, return_read, method_read}
use Rattle.dj_names.specs.Tests.{unqualified_name_test, method_name_test, class_name_test, field_descriptor_test, method_descriptor_test, array_descriptor_test}
use Rattle.dj_pool.proofs.kinds.no_bytes.Goals as goal

pub returns : goal.returns
unfolding unqualified_name_test method_name_test class_name_test field_descriptor_test method_descriptor_test array_descriptor_test reads_class_name dims_read name_read class_read of_read type_read params_read field_read return_read method_read
returns c = refl
