use Rattle.std.proofs.Common.{Some, ap, ◌∙◌, inl, inr}
use Rattle.std.specs.Option.{option_map}
use Rattle.dj_declarations.specs.trusted.Files.{desc_in}
use Rattle.dj_resolution.proofs.Finding.{plain_there, plain_not_there, private_set, static_set}
use Rattle.dj_class_table.specs.Tables.{method_there}
use Rattle.dj_resolution.proofs.Numbered.{method_found_at, no_plain_reported}
use Rattle.dj_resolution.proofs.find_numbered.plain_method_in.Goals as goal
use Rattle.dj_resolution.proofs.find_numbered.plain_method_in.Goals.{else-flags-eq0-via-then-flags-eq0+else-flags-eq0-2, else-flags-eq0-via-else-flags-eq0}

pub returns-then-flags-eq0-2 : goal.returns-then-flags-eq0-2
returns-then-flags-eq0-2 c n d h =
    plain_there c.args.directory.now.program c.args.class c.in_ok-member.member n (desc_in d) c.method_flags-flags.result (method_found_at c.args.directory.now.program c.args.class n (desc_in d) (Some c.in_ok-member.member) (c.in_ok-member.ensures.first n d h.name_is h.desc_is h.described)) c.method_flags-flags.ensures
    c.if-flags-eq0.true c.if-flags-eq0-2.true

pub returns-else-flags-eq0 : goal.returns-else-flags-eq0
returns-else-flags-eq0 c n d h =
    plain_not_there c.args.directory.now.program c.args.class c.in_ok-member.member n (desc_in d) c.method_flags-flags.result (method_found_at c.args.directory.now.program c.args.class n (desc_in d) (Some c.in_ok-member.member) (c.in_ok-member.ensures.first n d h.name_is h.desc_is h.described)) c.method_flags-flags.ensures
    (elim c.else-flags-eq0.branch [
      | else-flags-eq0-via-then-flags-eq0+else-flags-eq0-2 w ↦ inr (static_set c.method_flags-flags.result w.if-flags-eq0-2.false)
      | else-flags-eq0-via-else-flags-eq0 w ↦ inl (private_set c.method_flags-flags.result w.if-flags-eq0.false)
    ])

pub returns-in_err-member : goal.returns-in_err-member
returns-in_err-member c n d h =
    ap (option_map (method_there c.args.directory.now.program)) c.from_residual.ensures
    ∙ no_plain_reported c.args.directory.now.program c.args.class n (desc_in d) (c.in_err-member.ensures.first n d h.name_is h.desc_is h.described)
