use Rattle.std.proofs.Common.{ap, ◌∙◌}
use Rattle.std.specs.Option.{option_map}
use Rattle.dj_declarations.specs.trusted.Files.{desc_in}
use Rattle.dj_class_table.specs.Tables.{method_there}
use Rattle.dj_resolution.proofs.Numbered.{method_reported, no_method_reported}
use Rattle.dj_resolution.proofs.find_numbered.method_in.Goals as goal

pub returns-in_err-member : goal.returns-in_err-member
returns-in_err-member c n d h =
    ap (option_map (method_there c.args.directory.now.program)) c.from_residual.ensures
    ∙ no_method_reported c.args.directory.now.program c.args.class n (desc_in d) (c.in_err-member.ensures.first n d h.name_is h.desc_is h.described)

pub returns : goal.returns
returns c n d h = method_reported c.args.directory.now.program c.args.class n (desc_in d) c.in_ok-member.member (c.in_ok-member.ensures.first n d h.name_is h.desc_is h.described)
