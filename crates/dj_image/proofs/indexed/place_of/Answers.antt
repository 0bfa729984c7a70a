use Rattle.std.proofs.Common.{List, rules, sym, ap, subst, ◌∙◌}
use Rattle.std.proofs.lemmas.Fn.{always_returns_same}
use Rattle.std.proofs.lemmas.List.{map-id}
use Rattle.dj_names.specs.trusted.Types.{Name}
use Rattle.dj_numbering.specs.Kept.{DoTextsRise}
use Rattle.dj_numbering.specs.Typed.{place_of_text}
use Rattle.dj_numbering.proofs.Texts.{against, text_found, text_missing}
use Rattle.dj_image.proofs.Indexes.{same_place}
use Rattle.dj_image.proofs.indexed.place_of.Goals as goal

pub returns-in-Ok : goal.returns-in-Ok
returns-in-Ok c =
    let equal = c.in-Ok.ensures.position (against c.args.units.now) (always_returns_same _ _ _ (λ a r f called. search rules)) in
    let texts : List Name = c.args.texts.now in
    sym (same_place texts c.args.units.now ∙ ap (λ (all : List Name). place_of_text all c.args.units.now) (sym (map-id texts))
    ∙ text_found (λ (text : Name). text) texts (subst DoTextsRise (sym (map-id texts)) c.requires.rise) c.args.units.now _ c.in-Ok.ensures.bound equal)

pub returns-in-Err : goal.returns-in-Err
returns-in-Err c =
    let parted = c.in-Err.ensures.position (against c.args.units.now) (always_returns_same _ _ _ (λ a r f called. search rules)) in
    let texts : List Name = c.args.texts.now in
    sym (same_place texts c.args.units.now ∙ ap (λ (all : List Name). place_of_text all c.args.units.now) (sym (map-id texts))
    ∙ text_missing (λ (text : Name). text) texts (subst DoTextsRise (sym (map-id texts)) c.requires.rise) c.args.units.now _ parted)
