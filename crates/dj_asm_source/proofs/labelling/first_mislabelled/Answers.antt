use Rattle.std.proofs.Common.{rules, ◌≡◌, ◌-◌, ◌≤◌, length, map, take, drop, ap, sym, ◌∙◌, subst}
use Rattle.std.proofs.lemmas.List.{take_rest}
use Rattle.dj_asm_source.specs.LineViews.{line_view}
use Rattle.dj_asm_source.specs.LabelReading.{section_size, mislabelled_in}
use Rattle.dj_asm_source.proofs.Labellings.{next_section, found_section}
use Rattle.dj_asm_source.proofs.labelling.first_mislabelled.Goals as goal

pub returns-in-Some : goal.returns-in-Some
returns-in-Some c =
    let lines = c.args.lines.now in
    let before = c.loop-before.before in
    let size = c.section_size-size.result in
    let rest : take (length lines - before) (drop before lines) ≡ drop before lines = take_rest lines before in
    found_section lines before size c.in-Some.place (search rules) (c.section_size-size.ensures.size ∙ ap (λ ls. section_size (map line_view ls)) rest)
    (subst (λ ls. size ≤ length ls) rest c.section_size-size.ensures.within)
    (sym c.in-Some.is ∙ (c.in_ok-place.ensures.first ∙ ap (λ ls. mislabelled_in (map line_view (take size ls))) rest))
    ∙ c.loop-before.invariant.left

pub loop-before-preserved : goal.loop-before-preserved
loop-before-preserved c =
    let lines = c.args.lines.now in
    let before = c.loop-before.before in
    let size = c.section_size-size.result in
    let rest : take (length lines - before) (drop before lines) ≡ drop before lines = take_rest lines before in
    record {
      left =
          next_section lines before size (search rules) (c.section_size-size.ensures.size ∙ ap (λ ls. section_size (map line_view ls)) rest)
          (subst (λ ls. size ≤ length ls) rest c.section_size-size.ensures.within)
          (sym c.in-None.is ∙ (c.in_ok-place.ensures.first ∙ ap (λ ls. mislabelled_in (map line_view (take size ls))) rest))
          ∙ c.loop-before.invariant.left;
      within = search rules;
    }
