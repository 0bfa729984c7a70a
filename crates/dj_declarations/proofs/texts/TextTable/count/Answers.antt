use Rattle.std.proofs.Common.{◌≡◌, List, ℕ, length, subst, arith}
use Rattle.dj_declarations.specs.Texts.{texts_from}
use Rattle.dj_declarations.proofs.TextLaws.{texts_long}
use Rattle.dj_declarations.proofs.texts.TextTable.count.Goals as goal

pub returns : goal.returns
returns c =
    let long = texts_long 0 c.self.inside.ends.items c.self.inside.bytes.items in
    let is : c.len.result ≡ length (texts_from 0 c.self.inside.ends.items c.self.inside.bytes.items) = omega (arith, c.len.ensures, long) in
    subst (λ (ts : List (List ℕ)). c.len.result ≡ length ts) c.self.view_is is
