use Rattle.std.proofs.Common.{◌≡◌, ◌+◌, ◌<◌, ◌++◌, ◌∷◌, [], List, length, map, take, refl, sym, ap, ◌∙◌, subst, arith}
use Rattle.std.proofs.lemmas.List.{take_all, length-map, map_push}
use Rattle.std.proofs.lemmas.List.Elements.{All-from_recursion}
use Rattle.dj_class.specs.trusted.ClassFile.{MemberInfo, IsMethod}
use Rattle.dj_class.specs.Members.{member_of}
use Rattle.dj_straight.specs.trusted.Program.{Method}
use Rattle.dj_straight.specs.Methods.{method_view}
use Rattle.dj_straight.specs.trusted.Straight.{IsStraightMethod, AreStraightMethods}
use Rattle.dj_edge.proofs.Lists.{mapped_at, mapped_more}
use Rattle.dj_straight.proofs.Straights.{straight_push, no_methods}
use Rattle.dj_straight.proofs.straight.method.straight_methods.Goals as goal

pub straight_method-requires : goal.straight_method-requires
straight_method-requires c =
    let methods = c.args.methods.now in
    let i = c.loop-method.method-index in
    let m = member_of c.method-item.result in
    let inside : i < length (map member_of methods) = omega (arith, length-map methods member_of, c.loop-method-test.true) in
    let here : IsMethod c.args.pool.now m =
    subst (IsMethod c.args.pool.now) (mapped_at member_of methods i c.method-item.result c.loop-method-test.true c.method-item.is)
    (All-from_recursion (IsMethod c.args.pool.now) (map member_of methods) c.requires i m inside) in
    here.attributes.each

pub loop-method-preserved : goal.loop-method-preserved
loop-method-preserved c =
    let methods = c.args.methods.now in
    let i = c.loop-method.method-index in
    let m = member_of c.method-item.result in
    let before = take i (map member_of methods) in
    let found = map method_view c.loop-method.found.items in
    let is : IsStraightMethod c.args.pool.now m (method_view c.in-Some.straight) = rw c.in-Some.is at c.in_ok-straight.ensures in
    let views : map method_view c.push.new.self.items ≡ found ++ method_view c.in-Some.straight ∷ [] =
    ap (map method_view) c.in_ok-push-in-Some.ensures.items ∙ map_push method_view c.loop-method.found.items c.in-Some.straight in
    let more = mapped_more member_of methods i c.method-item.result before c.loop-method-test.true c.method-item.is refl in
    let pushed = straight_push c.args.pool.now before found m (method_view c.in-Some.straight) c.loop-method.invariant is in
    subst (λ (xs : List Method). AreStraightMethods c.args.pool.now (take (i + 1) (map member_of methods)) xs) (sym views)
    (subst (λ (ms : List MemberInfo). AreStraightMethods c.args.pool.now ms (found ++ method_view c.in-Some.straight ∷ [])) more pushed)

pub returns-in-None : goal.returns-in-None
returns-in-None c =
    let methods = c.args.methods.now in
    let i = c.loop-method.method-index in
    let m = member_of c.method-item.result in
    let inside : i < length (map member_of methods) = omega (arith, length-map methods member_of, c.loop-method-test.true) in
    let none : (x : Method) → IsStraightMethod c.args.pool.now m x → ⊥ = rw c.in-None.is at c.in_ok-straight.ensures in
    no_methods c.args.pool.now (map member_of methods) i m inside
    (subst (λ (n : MemberInfo). (x : Method) → IsStraightMethod c.args.pool.now n x → ⊥)
    (sym (mapped_at member_of methods i c.method-item.result c.loop-method-test.true c.method-item.is)) none)

pub returns : goal.returns
returns c =
    let ms = map member_of c.args.methods.now in
    subst (λ (ns : List MemberInfo). AreStraightMethods c.args.pool.now ns (map method_view c.loop-method.found.items))
    (take_all c.loop-method.method-index ms (omega (arith, length-map c.args.methods.now member_of, c.loop-method-test.false)))
    c.loop-method.invariant
