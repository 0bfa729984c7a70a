use Rattle.std.proofs.Common.{◌≡◌, ◌-◌, ◌≤◌, ◌++◌, length, map, take, drop, ap, ◌∙◌, subst, arith}
use Rattle.std.specs.List.{enumerate_from}
use Rattle.std.proofs.lemmas.List.{take_rest, length-drop}
use Rattle.dj_asm_source.specs.LineViews.{line_view}
use Rattle.dj_asm_source.specs.LabelReading.{section_size}
use Rattle.dj_asm_pool.specs.trusted.Needs.{method_needs}
use Rattle.dj_asm_pool.specs.Walking.{Walks}
use Rattle.dj_asm_pool.proofs.Walking.{sections_step, sections_end, walked_pool}
use Rattle.dj_asm_pool.proofs.walk.pool_of.Goals as goal

pub returns : goal.returns
returns c = λ s are.
    let invariant = c.loop-before.invariant in
    walked_pool s c.args.lines.now invariant.done c.loop-before.pool c.loop-before.first invariant.walked
    (sections_end c.args.lines.now c.loop-before.before invariant.done c.loop-before-test.false invariant.left) are

pub loop-before-preserved : goal.loop-before-preserved
loop-before-preserved c =
    let lines = c.args.lines.now in
    let before = c.loop-before.before in
    let size = c.section_size-size.result in
    let rest : take (length lines - before) (drop before lines) ≡ drop before lines = take_rest lines before in
    let size_is : size ≡ section_size (map line_view (drop before lines)) = c.section_size-size.ensures.size ∙ ap (λ ls. section_size (map line_view ls)) rest in
    let fits : size ≤ length (drop before lines) = subst (λ ls. size ≤ length ls) rest c.section_size-size.ensures.within in
    let walks =
    subst (λ ls. Walks c.loop-before.pool c.loop-before.first (method_needs (enumerate_from before (map line_view (take size ls)))) c.walk_section.new.pool c.in_ok-next.next) rest c.in_ok-next.ensures in
    let count = length-drop before lines in
    let old = c.loop-before.invariant.within in
    record {
      done = c.loop-before.invariant.done ++ method_needs (enumerate_from before (map line_view (take size (drop before lines))));
      walked = walks.after c.loop-before.invariant.done c.loop-before.invariant.walked;
      left = sections_step lines before size c.loop-before.invariant.done c.loop-before-test.true size_is fits c.loop-before.invariant.left;
      within = omega (arith, fits, count, old);
    }
