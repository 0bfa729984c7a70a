use Rattle.std.proofs.Common.{◌<◌, ℕ, Option, IfSome, length, subst, sym, slice_get, arith}
use Rattle.dj_model.specs.trusted.Linking.{any_method}
use Rattle.dj_declarations.specs.trusted.Files.{desc_in}
use Rattle.dj_class_table.specs.Tables.{method_there}
use Rattle.dj_resolution.specs.Numbers.{method_found}
use Rattle.dj_resolution.proofs.Finding.{IsWalked, walk_begun, walked_here, walked_more, walked_off, super_within}
use Rattle.dj_resolution.proofs.find_numbered.method_near.Goals as goal

pub loop-init : goal.loop-init
loop-init c = (c.requires, λ n d h. walk_begun (method_found c.args.directory.now.program any_method n (desc_in d)) c.args.directory.now.program c.args.class c.requires)

pub returns-in_default : goal.returns-in_default
returns-in_default c n d h =
    walked_off (method_found c.args.directory.now.program any_method n (desc_in d)) c.args.directory.now.program c.args.class c.loop.counter
    (subst (λ (o : Option ℕ). IsWalked (method_found c.args.directory.now.program any_method n (desc_in d)) c.args.directory.now.program c.args.class c.loop.counter o) c.in_default.is (c.loop.invariant.1 n d h))

pub returns-in-Some-method_in : goal.returns-in-Some-method_in
returns-in-Some-method_in c n d h =
    let lt = c.loop-test.true in
    walked_here (method_found c.args.directory.now.program any_method n (desc_in d)) c.args.directory.now.program c.args.class c.loop.counter c.in-Some.at (method_there c.args.directory.now.program c.in-Some-method_in.place)
    (subst (λ (o : Option ℕ). IsWalked (method_found c.args.directory.now.program any_method n (desc_in d)) c.args.directory.now.program c.args.class c.loop.counter o) c.in-Some.is (c.loop.invariant.1 n d h)) (omega (arith, lt)) (c.in-Some-method_in.ensures n d h)

pub loop-preserved : goal.loop-preserved
loop-preserved c = (
  subst (λ (o : Option ℕ). IfSome o (λ k. k < length c.args.directory.now.program)) (sym c.super_of-next.ensures) (super_within c.args.directory.now.program (slice_get c.args.directory.now.program c.in-Some.at)),
  λ n d h.
      (let lt = c.loop-test.true in
      walked_more (method_found c.args.directory.now.program any_method n (desc_in d)) c.args.directory.now.program c.args.class c.loop.counter c.in-Some.at c.super_of-next.result
      (subst (λ (o : Option ℕ). IsWalked (method_found c.args.directory.now.program any_method n (desc_in d)) c.args.directory.now.program c.args.class c.loop.counter o) c.in-Some.is (c.loop.invariant.1 n d h)) (omega (arith, lt)) (c.in_default-method_in.ensures n d h) c.super_of-next.ensures),
)
