use Rattle.std.proofs.Common.{ℕ, ◌+◌, Some, sym, ap, subst, ◌∙◌, arith}
use Rattle.std.proofs.lemmas.Option.{same_Some}
use Rattle.dj_model.specs.trusted.Program.{Program}
use Rattle.dj_resolution.specs.Directories.{IsFirstLike}
use Rattle.dj_resolution.proofs.Resolution.{DoNamesDiffer}
use Rattle.dj_numbering.specs.Typed.{Typed}
use Rattle.dj_numbering.specs.Members.{methods_before}
use Rattle.dj_numbering.proofs.First.{first_method_like}
use Rattle.dj_numbering.proofs.types.Types.first_method.Goals as goal

abbrev program : Typed → Program
program typed = typed.program

pub method_id-requires-clause-within : goal.method_id-requires-clause-within
method_id-requires-clause-within c =
    let place = c.args.place in
    let classes = c.classes-table.ensures ∙ ap program c.self.view_is in
    let first =
    first_method_like c.args.self.now.program place c.first_like-member.result (subst DoNamesDiffer classes c.names_differ.ensures) c.requires.there c.requires.within
    (subst (λ (p : Program). IsFirstLike p place.class place.member c.first_like-member.result) classes c.first_like-member.ensures) in
    let same = same_Some c.first_like-member.result first.first first.is in
    let within = first.within in
    omega (arith, same, within)

pub returns : goal.returns
returns c =
    let place = c.args.place in
    let classes = c.classes-table.ensures ∙ ap program c.self.view_is in
    let first =
    first_method_like c.args.self.now.program place c.first_like-member.result (subst DoNamesDiffer classes c.names_differ.ensures) c.requires.there c.requires.within
    (subst (λ (p : Program). IsFirstLike p place.class place.member c.first_like-member.result) classes c.first_like-member.ensures) in
    let same = same_Some c.first_like-member.result first.first first.is in
    ap Some c.method_id.ensures.number ∙ ap (λ (n : ℕ). Some (methods_before c.args.self.now.program place.class + n)) same ∙ sym first.numbered
