use Rattle.std.proofs.Common.{◌++◌, ◌∷◌, [], Contains, length, map, sym, ap, ◌∙◌, subst}
use Rattle.dj_asm_pool.proofs.TextNumbers.{same_length, put_text}
use Rattle.dj_asm_pool.proofs.texts.Texts.push.Goals as goal

pub returns : goal.returns
returns c =
    let absent = subst (λ l. Contains l c.args.text.now → ⊥) (sym c.self.view_is) c.requires in (
      ap (map (λ text. text.items)) c.in_ok-insert.ensures.keys
          ∙ (put_text c.self.inside.texts.keys (λ text. text.items) c.in_ok-copy.copy c.args.text.now c.in_ok-copy.ensures.items absent
          ∙ ap (λ l. l ++ c.args.text.now ∷ []) c.self.view_is),
      c.len-number.ensures.len ∙ (sym (same_length (λ text. text.items) c.self.inside.texts.keys) ∙ ap length c.self.view_is),
    )
