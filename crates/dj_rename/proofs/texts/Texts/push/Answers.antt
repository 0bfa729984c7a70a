use Rattle.std.proofs.Common.{◌≡◌, ◌++◌, ◌∷◌, [], false, map, sym, ap, ◌∙◌, subst}
use Rattle.dj_rename.specs.Renaming.{has_text}
use Rattle.dj_rename.proofs.Places.{put_text}
use Rattle.dj_rename.proofs.texts.Texts.push.Goals as goal

pub returns : goal.returns
returns c =
    let absent = subst (λ l. has_text l c.args.text.now ≡ false) (sym c.self.view_is) c.requires in
    ap (map (λ text. text.items)) c.in_ok-insert.ensures.keys
    ∙ (put_text c.self.inside.texts.keys (λ text. text.items) c.in_ok-copy.copy c.args.text.now c.in_ok-copy.ensures.items absent
    ∙ ap (λ l. l ++ c.args.text.now ∷ []) c.self.view_is)
