use Rattle.std.proofs.Common.{◌≡◌, ℕ, List, map, ap, ◌∙◌, codes, subst}
use Rattle.dj_edge.proofs.Lists.{ok_so}
use Rattle.dj_class.specs.Members.{member_of}
use Rattle.dj_report.proofs.Adding.{not_both}
use Rattle.dj_early_rules.specs.declared.code.MethodBody.{MethodBody}
use Rattle.dj_early_rules.specs.trusted.Attributes.{bodies_of, codes_of}
use Rattle.dj_early_rules.specs.Passes.{IsBodilessView, IsOwnView, IsMethodView}
use Rattle.dj_early_rules.proofs.NamedBodies.{now_of, each_short}
use Rattle.dj_early_rules.proofs.Codes.{bodiless_view, own_view}
use Rattle.dj_early_rules.proofs.code.code_of_method.Goals as goal

pub own_code-requires : goal.own_code-requires
own_code-requires c =
    each_short c.args.pool.now (codes "Code") (member_of c.args.method.now).attributes c.deref-2.result.now c.requires
    (ap (map now_of) c.deref-2.ensures.value ∙ c.in_ok-bodies.ensures ∙ ap (bodies_of c.args.pool.now (codes "Code")) c.as_slice.ensures)

pub returns-then-is_bodiless : goal.returns-then-is_bodiless
returns-then-is_bodiless c =
    let are : map now_of c.deref.result.now ≡ codes_of c.args.pool.now (member_of c.args.method.now) =
    ap (map now_of) c.deref.ensures.value ∙ c.in_ok-bodies.ensures ∙ ap (bodies_of c.args.pool.now (codes "Code")) c.as_slice.ensures in
    bodiless_view c.args.pool.now (member_of c.args.method.now) c.bodiless_code.result (c.is_bodiless.ensures.0 c.if-is_bodiless.true)
    (subst (λ (bodies : List (List ℕ)). IsBodilessView bodies c.bodiless_code.result) are c.bodiless_code.ensures)

pub returns : goal.returns
returns c =
    let are : map now_of c.deref-2.result.now ≡ codes_of c.args.pool.now (member_of c.args.method.now) =
    ap (map now_of) c.deref-2.ensures.value ∙ c.in_ok-bodies.ensures ∙ ap (bodies_of c.args.pool.now (codes "Code")) c.as_slice.ensures in
    ok_so c.own_code.result (IsOwnView c.args.pool.now (map now_of c.deref-2.result.now)) (IsMethodView c.args.pool.now (member_of c.args.method.now))
    (λ (view : MethodBody) own. own_view c.args.pool.now (member_of c.args.method.now) view
    (λ is. not_both c.is_bodiless.result (c.is_bodiless.ensures.1 is) c.if-is_bodiless.false)
    (subst (λ (bodies : List (List ℕ)). IsOwnView c.args.pool.now bodies view) are own))
    c.own_code.ensures
