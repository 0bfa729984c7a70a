use Rattle.std.proofs.Common.{rules, ◌≡◌, ◌-◌, ◌<◌, [], ◌∷◌, ◌++◌, length, map, take, drop, ap, sym, ◌∙◌, subst, append-nil}
use Rattle.std.proofs.lemmas.List.{take_rest}
use Rattle.dj_asm_source.specs.LineViews.{line_view}
use Rattle.dj_asm_source.specs.LabelReading.{section_size}
use Rattle.dj_asm.specs.Filing.{IsBody, MayHaveBody, AreBodies}
use Rattle.dj_asm.proofs.FileSteps.{may_more, bodies_more, no_bodies}
use Rattle.dj_asm.proofs.bodies.bodies_of.Goals as goal

pub loop-before-init : goal.loop-before-init
loop-before-init c =
    let none : c.new-bodies.result.items ≡ [] = search rules in
    record {
      may = c.requires.may;
      are = λ more are. subst (λ bodies. AreBodies c.args.pool.now (map line_view c.args.lines.now) (bodies ++ more)) (sym none) are;
      within = search rules;
    }

pub method_body-requires-clause-may : goal.method_body-requires-clause-may
method_body-requires-clause-may c =
    let lines = c.args.lines.now in
    let before = c.loop-before.before in
    let size = c.section_size-size.result in
    let rest : take (length lines - before) (drop before lines) ≡ drop before lines = take_rest lines before in
    subst (λ ls. MayHaveBody c.args.pool.now (map line_view (take size ls))) (sym rest)
    (may_more c.args.pool.now lines before size (search rules) (c.section_size-size.ensures.size ∙ ap (λ ls. section_size (map line_view ls)) rest) c.loop-before.invariant.may).0

pub loop-before-preserved : goal.loop-before-preserved
loop-before-preserved c =
    let lines = c.args.lines.now in
    let before = c.loop-before.before in
    let size = c.section_size-size.result in
    let rest : take (length lines - before) (drop before lines) ≡ drop before lines = take_rest lines before in
    let size_is : size ≡ section_size (map line_view (drop before lines)) = c.section_size-size.ensures.size ∙ ap (λ ls. section_size (map line_view ls)) rest in
    let some : before < length lines = search rules in
    let is : IsBody c.args.pool.now (map line_view (take size (drop before lines))) c.in_ok-body.body =
    subst (λ ls. IsBody c.args.pool.now (map line_view (take size ls)) c.in_ok-body.body) rest c.in_ok-body.ensures in
    let pushed : c.push.new.self.items ≡ c.loop-before.bodies.items ++ c.in_ok-body.body ∷ [] = search rules in
    record {
      may = (may_more c.args.pool.now lines before size some size_is c.loop-before.invariant.may).1;
      are = λ more are. subst (λ bodies. AreBodies c.args.pool.now (map line_view lines) (bodies ++ more)) (sym pushed)
          (bodies_more c.args.pool.now (map line_view lines) lines before size c.loop-before.bodies.items c.in_ok-body.body some size_is is c.loop-before.invariant.are more are);
      within = search rules;
    }

pub returns : goal.returns
returns c =
    subst (λ bodies. AreBodies c.args.pool.now (map line_view c.args.lines.now) bodies) (append-nil c.loop-before.bodies.items)
    (c.loop-before.invariant.are [] (no_bodies c.args.pool.now c.args.lines.now c.loop-before.before (search rules)))
