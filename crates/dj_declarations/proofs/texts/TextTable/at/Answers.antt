use Rattle.std.proofs.Common.{◌<◌, List, ℕ, length, sym, ap, subst, arith}
use Rattle.dj_declarations.specs.Texts.{texts_from}
use Rattle.dj_declarations.proofs.TextLaws.{texts_long}
use Rattle.dj_declarations.proofs.texts.TextTable.at.Goals as goal

pub text_at-requires-clause-within : goal.text_at-requires-clause-within
text_at-requires-clause-within c =
    let ends = c.self.inside.ends.items in
    let bytes = c.self.inside.bytes.items in
    let lt : c.args.place < length (texts_from 0 ends bytes) = subst (λ (ts : List (List ℕ)). c.args.place < length ts) (sym c.self.view_is) c.requires in
    omega (arith, lt, texts_long 0 ends bytes, ap length c.deref-2.ensures.value)
