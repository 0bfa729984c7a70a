use Rattle.std.proofs.Common.{◌≡◌, ◌+◌, ◌<◌, ◌++◌, ◌∷◌, [], ℕ, List, length, map, take, refl, sym, ap, ◌∙◌, subst, arith}
use Rattle.std.proofs.lemmas.List.{length-map, map_push}
use Rattle.dj_class.specs.trusted.ClassFile.{MemberInfo}
use Rattle.dj_class.specs.Members.{member_of}
use Rattle.dj_edge.proofs.Lists.{mapped_at, mapped_more}
use Rattle.dj_straight.specs.Finds.{now_of}
use Rattle.dj_straight.specs.trusted.Straight.{IsPlainMethod}
use Rattle.dj_straight.specs.Straight.{ArePlainNames}
use Rattle.dj_straight.proofs.StraightNames.{name_push, no_names}
use Rattle.dj_straight.proofs.straight.method.plain_names.Goals as goal

pub loop-method-preserved : goal.loop-method-preserved
loop-method-preserved c =
    let methods = c.args.methods.now in
    let i = c.loop-method.method-index in
    let m = member_of c.method-item.result in
    let before = take i (map member_of methods) in
    let found = map now_of c.loop-method.names.items in
    let is : IsPlainMethod c.args.pool.now m c.in-Some.name.now = rw c.in-Some.is at c.plain_name.ensures in
    let views : map now_of c.push.new.self.items ≡ found ++ c.in-Some.name.now ∷ [] =
    ap (map now_of) c.in_ok-push-in-Some.ensures.items ∙ map_push now_of c.loop-method.names.items c.in-Some.name in
    let more = mapped_more member_of methods i c.method-item.result before c.loop-method-test.true c.method-item.is refl in
    let pushed = name_push c.args.pool.now before found m c.in-Some.name.now c.loop-method.invariant is in
    subst (λ (xs : List (List ℕ)). ArePlainNames c.args.pool.now (take (i + 1) (map member_of methods)) xs) (sym views)
    (subst (λ (ms : List MemberInfo). ArePlainNames c.args.pool.now ms (found ++ c.in-Some.name.now ∷ [])) more pushed)

pub returns-in-None : goal.returns-in-None
returns-in-None c =
    let methods = c.args.methods.now in
    let i = c.loop-method.method-index in
    let m = member_of c.method-item.result in
    let inside : i < length (map member_of methods) = omega (arith, length-map methods member_of, c.loop-method-test.true) in
    let none : (x : List ℕ) → IsPlainMethod c.args.pool.now m x → ⊥ = rw c.in-None.is at c.plain_name.ensures in
    no_names c.args.pool.now (map member_of methods) i m inside
    (subst (λ (n : MemberInfo). (x : List ℕ) → IsPlainMethod c.args.pool.now n x → ⊥)
    (sym (mapped_at member_of methods i c.method-item.result c.loop-method-test.true c.method-item.is)) none)
