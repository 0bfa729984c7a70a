use Rattle.std.proofs.Common.{◌≡◌, sym, ◌∙◌, subst}
use Rattle.dj_member_index.specs.Numberings.{Numbering, number_of}
use Rattle.dj_member_index.proofs.NumberLaws.{number_is}
use Rattle.dj_member_index.proofs.directory.Directory.number.Goals as goal

pub returns : goal.returns
returns c =
    subst (λ (d : Numbering). c.number_in.result ≡ number_of d c.args.text.now) c.self.view_is (c.number_in.ensures ∙ sym (number_is c.self.inside.numbers c.args.text.now))
