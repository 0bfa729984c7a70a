use Rattle.std.proofs.Common.{◌<◌, ℕ, Option, IfSome, length, ◌∙◌, ap, subst}
use Rattle.std.specs.Option.{option_map}
use Rattle.dj_model.specs.trusted.Linking.{is_plain}
use Rattle.dj_declarations.specs.trusted.Files.{desc_in}
use Rattle.dj_class_table.specs.Tables.{method_there}
use Rattle.dj_resolution.specs.Numbers.{method_found, first_some, numbers_above}
use Rattle.dj_resolution.proofs.Finding.{IsWalked, walk_begun, walked_here, walked_more, walked_off, walked_out}
use Rattle.dj_resolution.proofs.find.plain_method_by_class.Goals as goal

pub loop-init : goal.loop-init
loop-init c = walk_begun (λ k. first_some (method_found c.args.table.now is_plain c.args.name.now (desc_in c.args.desc.now)) (numbers_above c.args.table.now k)) c.args.table.now c.args.class c.requires.there

pub returns-in_err-at : goal.returns-in_err-at
returns-in_err-at c =
    ap (option_map (method_there c.args.table.now)) c.from_residual.ensures
    ∙ walked_off (λ k. first_some (method_found c.args.table.now is_plain c.args.name.now (desc_in c.args.desc.now)) (numbers_above c.args.table.now k)) c.args.table.now c.args.class c.loop.counter
    (subst (λ (o : Option ℕ). IsWalked (λ k. first_some (method_found c.args.table.now is_plain c.args.name.now (desc_in c.args.desc.now)) (numbers_above c.args.table.now k)) c.args.table.now c.args.class c.loop.counter o) c.in_err-at.was c.loop.invariant)

pub plain_method_above-requires-clause-there : goal.plain_method_above-requires-clause-there
plain_method_above-requires-clause-there c = subst (λ (o : Option ℕ). IfSome o (λ k. k < length c.args.table.now)) c.in_ok-at.was c.loop.invariant.within

pub returns-in-Some : goal.returns-in-Some
returns-in-Some c =
    walked_here (λ k. first_some (method_found c.args.table.now is_plain c.args.name.now (desc_in c.args.desc.now)) (numbers_above c.args.table.now k)) c.args.table.now c.args.class c.loop.counter c.in_ok-at.at (method_there c.args.table.now c.in-Some.place)
    (subst (λ (o : Option ℕ). IsWalked (λ k. first_some (method_found c.args.table.now is_plain c.args.name.now (desc_in c.args.desc.now)) (numbers_above c.args.table.now k)) c.args.table.now c.args.class c.loop.counter o) c.in_ok-at.was c.loop.invariant) c.loop-test.true c.in-Some.ensures

pub loop-preserved : goal.loop-preserved
loop-preserved c =
    walked_more (λ k. first_some (method_found c.args.table.now is_plain c.args.name.now (desc_in c.args.desc.now)) (numbers_above c.args.table.now k)) c.args.table.now c.args.class c.loop.counter c.in_ok-at.at c.super_of-next.result
    (subst (λ (o : Option ℕ). IsWalked (λ k. first_some (method_found c.args.table.now is_plain c.args.name.now (desc_in c.args.desc.now)) (numbers_above c.args.table.now k)) c.args.table.now c.args.class c.loop.counter o) c.in_ok-at.was c.loop.invariant) c.loop-test.true c.in_default.ensures c.super_of-next.ensures

pub returns : goal.returns
returns c = walked_out (λ k. first_some (method_found c.args.table.now is_plain c.args.name.now (desc_in c.args.desc.now)) (numbers_above c.args.table.now k)) c.args.table.now c.args.class c.loop.counter c.loop.next c.loop.invariant c.loop-test.false
