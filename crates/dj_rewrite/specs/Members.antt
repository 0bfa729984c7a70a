-- Used by the code alone: the members of a rewritten class, by their descriptors' indexes and what becomes of their code.
use Rattle.std.specs.Prelude.{ℕ, List, [], ◌∷◌, filter, codes}
use Rattle.dj_pool.specs.trusted.Pool.{Constant}
use Rattle.dj_class.specs.trusted.ClassFile.{AttributeInfo, MemberInfo}
use Rattle.dj_early_rules.specs.trusted.Attributes.{is_named}
use Rattle.dj_rewritten.specs.Files.{without_synchronized}
use Rattle.dj_rewrite_code.specs.Answers.{attribute_in}
use Rattle.dj_rewrite.specs.declared.answers.MethodAnswer.{MethodAnswer}
use Rattle.dj_rewrite.specs.declared.answers.MethodAnswer.TheVariants as answers

abbrev pub field_with : List Constant → MemberInfo → ℕ → MemberInfo
field_with pool f desc = record { flags = f.flags; name = f.name; desc = desc; attributes = filter (is_named pool (codes "ConstantValue")) f.attributes }

-- as far as there are both
abbrev pub fields_with : List Constant → List MemberInfo → List ℕ → List MemberInfo
fields_with pool [] descs = []
fields_with pool (f ∷ fs) [] = []
fields_with pool (f ∷ fs) (desc ∷ descs) = field_with pool f desc ∷ fields_with pool fs descs

abbrev pub code_attributes : MethodAnswer → List AttributeInfo
code_attributes (answers.Rewritten code) = attribute_in code ∷ []
code_attributes answer = []

abbrev pub method_with : MemberInfo → MethodAnswer → ℕ → MemberInfo
method_with m answer desc = record { flags = without_synchronized m.flags; name = m.name; desc = desc; attributes = code_attributes answer }

abbrev pub methods_with : List MemberInfo → List MethodAnswer → List ℕ → List MemberInfo
methods_with (m ∷ ms) (answer ∷ more) (desc ∷ descs) = method_with m answer desc ∷ methods_with ms more descs
methods_with ms more descs = []
