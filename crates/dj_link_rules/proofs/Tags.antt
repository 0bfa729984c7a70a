-- The tag that is kept of a constant decides which instructions take it.
use Rattle.std.proofs.Common.{◌≡◌, ◌&&◌, ◌||◌, refl, nat_le, nat_eq, if◌then◌else◌}
use Rattle.dj_ops.specs.declared.instruction.Instr.{Instr}
use Rattle.dj_ops.specs.declared.instruction.Instr.TheVariants as instrs
use Rattle.dj_pool.specs.trusted.Pool.{Constant, Field}
use Rattle.dj_link_rules.specs.trusted.Unlinked.{is_short_literal, is_long_literal, is_field, is_method, is_interface_method, is_class, is_dynamic, takes}
use Rattle.dj_link_rules.specs.Judged.{tag_of}
use Rattle.dj_link_rules.specs.Known.{is_short_tag, is_long_tag, is_field_tag, is_method_tag, is_interface_tag, is_class_tag, is_dynamic_tag, takes_tag}

short_tag : (k : Constant) → is_short_tag (tag_of k) ≡ is_short_literal k
short_tag (Field class names) = refl
short_tag k = refl

long_tag : (k : Constant) → is_long_tag (tag_of k) ≡ is_long_literal k
long_tag (Field class names) = refl
long_tag k = refl

field_tag : (k : Constant) → is_field_tag (tag_of k) ≡ is_field k
field_tag (Field class names) = refl
field_tag k = refl

method_tag : (k : Constant) → is_method_tag (tag_of k) ≡ is_method k
method_tag (Field class names) = refl
method_tag k = refl

interface_tag : (k : Constant) → is_interface_tag (tag_of k) ≡ is_interface_method k
interface_tag (Field class names) = refl
interface_tag k = refl

pub class_tag : (k : Constant) → is_class_tag (tag_of k) ≡ is_class k
class_tag (Field class names) = refl
class_tag k = refl

dynamic_tag : (k : Constant) → is_dynamic_tag (tag_of k) ≡ is_dynamic k
dynamic_tag (Field class names) = refl
dynamic_tag k = refl

-- an instruction takes the tag of a constant where it takes the constant
pub takes_same : (instr : Instr) (k : Constant) → takes_tag instr (tag_of k) ≡ takes instr k
takes_same (instrs.Literal op index) k = λ i. if nat_eq op 20 then long_tag k i else short_tag k i
takes_same (instrs.Member op index) k = λ i. if nat_le op 181 then field_tag k i else (method_tag k i || (nat_le 183 op && interface_tag k i))
takes_same (instrs.Interface index count) k = interface_tag k
takes_same (instrs.Dynamic index) k = dynamic_tag k
takes_same (instrs.Class op index) k = class_tag k
takes_same (instrs.Multi index dims) k = class_tag k
takes_same instr k = refl
