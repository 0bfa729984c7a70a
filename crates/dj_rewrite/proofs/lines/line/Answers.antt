use Rattle.std.proofs.Common.{◌≡◌, sym, subst, ◌∙◌, None}
use Rattle.dj_names.specs.trusted.Types.{Name}
use Rattle.dj_names.specs.trusted.ModifiedUtf8.{IsModifiedUtf8}
use Rattle.dj_class.specs.Views.{class_of}
use Rattle.dj_class.specs.trusted.Names.{this_name}
use Rattle.dj_shape.specs.Rules.{IsPathOf}
use Rattle.dj_report.specs.declared.report.Violation.{Violation}
use Rattle.dj_rewrite.specs.Rule.{line_of}
use Rattle.dj_rewrite.proofs.Paths.{this_modified, path_is}
use Rattle.dj_rewrite.proofs.lines.line.Goals as goal

pub class_path-requires : goal.class_path-requires
class_path-requires c = subst IsModifiedUtf8 (sym c.class_name.ensures) (this_modified (class_of c.args.view.now) c.requires)

pub returns : goal.returns
returns c =
    let path = path_is c.in_ok-path.path (this_name (class_of c.args.view.now)) (subst (λ (name : Name). IsPathOf c.in_ok-path.path name) c.class_name.ensures c.in_ok-path.ensures) in
    let made : Violation = record { path = c.in_ok-path.path; member = c.in_ok-member.member; number = None; rule = 21 } in
    let same : made ≡ line_of (class_of c.args.view.now) c.args.member.now =
    λ i. record { path = path i; member = (c.in_ok-member.ensures ∙ c.as_slice.ensures) i; number = None; rule = 21 } in
    same
