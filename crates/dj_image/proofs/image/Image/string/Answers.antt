use Rattle.std.proofs.Common.{ℕ, Option, sym, ap, ◌∙◌}
use Rattle.std.specs.Prelude.{is_some}
use Rattle.std.proofs.lemmas.Bool.{false≢true}
use Rattle.dj_image.proofs.Standing.{stands, string_like}
use Rattle.dj_image.proofs.image.Image.string.Goals as goal

pub unreachable-requires : goal.unreachable-requires
unreachable-requires c = false≢true (ap (λ (o : Option ℕ). is_some o) c.in-None.ensures ∙ c.self.invariant.string)

pub returns : goal.returns
returns c = c.in-Some.ensures ∙ sym (string_like (stands c.self.view_is c.self.invariant))
