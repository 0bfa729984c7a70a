use Rattle.std.proofs.Common.{◌⊎◌, inl, inr, sym, ◌∙◌}
use Rattle.std.proofs.lemmas.Bool.{false≢true}
use Rattle.dj_names.specs.declared.descriptor.Desc.{Desc}
use Rattle.dj_names.specs.declared.descriptor.Desc.TheVariants as descs
use Rattle.dj_names.specs.trusted.Types.{Name}
use Rattle.dj_names.specs.trusted.Descriptors.{Describes, IsFieldDescriptor, IsMethodDescriptor}
use Rattle.dj_declarations.specs.trusted.Files.{desc_in}
use Rattle.dj_declarations.proofs.DescTests.{is_descriptor}
use Rattle.dj_numbering.proofs.members.is_descriptor.Goals as goal

either : (text : Name) (desc : Desc) → Describes text desc → IsFieldDescriptor text ⊎ IsMethodDescriptor text
either text (descs.Field ty) d = inl (ty, d)
either text (descs.Method params ret) d = inr (params, ret, d)

pub returns-then-is_field_descriptor : goal.returns-then-is_field_descriptor
returns-then-is_field_descriptor c =
    (λ is. let d = c.is_field_descriptor.ensures.means.0 is in is_descriptor c.args.text.now (descs.Field d.0) d.1, λ _. c.if-is_field_descriptor.true)

pub returns-else-is_field_descriptor : goal.returns-else-is_field_descriptor
returns-else-is_field_descriptor c = (
  λ is. let d = c.is_method_descriptor.ensures.means.0 is in is_descriptor c.args.text.now (descs.Method d.0 d.1) d.2,
  λ d. elim (either c.args.text.now (desc_in c.args.text.now) d) [
    | inl field ↦ absurd (false≢true (sym c.if-is_field_descriptor.false ∙ c.is_field_descriptor.ensures.means.1 field))
    | inr method ↦ c.is_method_descriptor.ensures.means.1 method
  ],
)
