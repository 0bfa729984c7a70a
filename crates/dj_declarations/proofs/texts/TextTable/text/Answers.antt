use Rattle.std.proofs.Common.{◌<◌, List, ℕ, length, sym, ap, subst, arith}
use Rattle.dj_declarations.specs.Texts.{text_in, texts_from}
use Rattle.dj_declarations.proofs.TextLaws.{number_within, texts_long}
use Rattle.dj_declarations.proofs.texts.TextTable.text.Goals as goal

pub text_at-requires-clause-within : goal.text_at-requires-clause-within
text_at-requires-clause-within c =
    let texts = c.args.self.now in
    let ends = c.self.inside.ends.items in
    let bytes = c.self.inside.bytes.items in
    let lt : c.args.number < length (texts_from 0 ends bytes) = subst (λ (ts : List (List ℕ)). c.args.number < length ts) (sym c.self.view_is) (number_within texts (text_in texts c.args.number) c.args.number c.requires) in
    omega (arith, lt, texts_long 0 ends bytes, ap length c.deref-2.ensures.value)
