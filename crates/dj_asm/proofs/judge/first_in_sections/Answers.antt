use Rattle.std.proofs.Common.{rules, ◌≡◌, ◌-◌, ◌≤◌, length, map, take, drop, Some, None, ap, ◌∙◌, subst}
use Rattle.std.proofs.lemmas.List.{take_rest}
use Rattle.dj_asm_source.specs.LineViews.{line_view}
use Rattle.dj_asm_source.specs.LabelReading.{section_size}
use Rattle.dj_asm.specs.Judging.{IsFirstOf, is_large_in}
use Rattle.dj_asm.proofs.JudgedSections.{found_in_section, none_in_section}
use Rattle.dj_asm.proofs.judge.first_in_sections.Goals as goal

pub returns-in-Some : goal.returns-in-Some
returns-in-Some c =
    let lines = c.args.lines.now in
    let before = c.loop-before.before in
    let size = c.section_size-size.result in
    let rest : take (length lines - before) (drop before lines) ≡ drop before lines = take_rest lines before in
    found_in_section lines before size (search rules) (c.section_size-size.ensures.size ∙ ap (λ ls. section_size (map line_view ls)) rest)
    (subst (λ ls. size ≤ length ls) rest c.section_size-size.ensures.within) c.loop-before.invariant c.in-Some.place
    (subst (λ ls. IsFirstOf (is_large_in (map line_view (take size ls))) (length (take size ls)) (Some c.in-Some.place)) rest
    (subst (IsFirstOf (is_large_in (map line_view (take size (take (length lines - before) (drop before lines))))) (length (take size (take (length lines - before) (drop before lines))))) c.in-Some.is c.in_ok-place.ensures))

pub loop-before-preserved : goal.loop-before-preserved
loop-before-preserved c =
    let lines = c.args.lines.now in
    let before = c.loop-before.before in
    let size = c.section_size-size.result in
    let rest : take (length lines - before) (drop before lines) ≡ drop before lines = take_rest lines before in
    none_in_section lines before size (search rules) (c.section_size-size.ensures.size ∙ ap (λ ls. section_size (map line_view ls)) rest)
    (subst (λ ls. size ≤ length ls) rest c.section_size-size.ensures.within) c.loop-before.invariant
    (subst (λ ls. IsFirstOf (is_large_in (map line_view (take size ls))) (length (take size ls)) None) rest
    (subst (IsFirstOf (is_large_in (map line_view (take size (take (length lines - before) (drop before lines))))) (length (take size (take (length lines - before) (drop before lines))))) c.in-None.is c.in_ok-place.ensures))
