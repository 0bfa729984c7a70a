use Rattle.std.proofs.Common.{ap, ◌∙◌}
use Rattle.std.specs.Option.{option_map}
use Rattle.dj_declarations.specs.trusted.Files.{desc_in}
use Rattle.dj_class_table.specs.Tables.{field_there}
use Rattle.dj_resolution.proofs.Numbered.{field_reported, no_field_reported}
use Rattle.dj_resolution.proofs.find_numbered.field_in.Goals as goal

pub returns-in_err-member : goal.returns-in_err-member
returns-in_err-member c n d h =
    ap (option_map (field_there c.args.directory.now.program)) c.from_residual.ensures
    ∙ no_field_reported c.args.directory.now.program c.args.class n (desc_in d) (c.in_err-member.ensures.first n d h.name_is h.desc_is h.described)

pub returns : goal.returns
returns c n d h = field_reported c.args.directory.now.program c.args.class n (desc_in d) c.in_ok-member.member (c.in_ok-member.ensures.first n d h.name_is h.desc_is h.described)
