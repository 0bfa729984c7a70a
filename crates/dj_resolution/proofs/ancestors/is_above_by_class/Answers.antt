use Rattle.std.proofs.Common.{◌<◌, ◌∷◌, ℕ, Option, Some, IfSome, length, sym, ◌∙◌, subst}
use Rattle.dj_model.specs.trusted.Linking.{most_classes}
use Rattle.dj_resolution.specs.Numbers.{has, numbers_above, numbers_up}
use Rattle.dj_resolution.proofs.Finding.{IsWalked, walk_begun, walked_here, walked_more, walked_off, walked_out}
use Rattle.dj_resolution.proofs.Subclasses.{where_so, so_reported, not_so_reported, is_in_flat, not_in_flat}
use Rattle.dj_resolution.proofs.ancestors.is_above_by_class.Goals as goal

pub loop-init : goal.loop-init
loop-init c = walk_begun (λ k. where_so c.args.other (has (k ∷ numbers_above c.args.table.now k) c.args.other)) c.args.table.now c.args.class c.requires.there

pub is_at-requires-clause-there : goal.is_at-requires-clause-there
is_at-requires-clause-there c = subst (λ (o : Option ℕ). IfSome o (λ k. k < length c.args.table.now)) c.in-Some.is c.loop.invariant.within

pub returns-in_default : goal.returns-in_default
returns-in_default c = sym (not_in_flat (λ k. k ∷ numbers_above c.args.table.now k) c.args.other (numbers_up most_classes c.args.table.now (Some c.args.class))
    (walked_off (λ k. where_so c.args.other (has (k ∷ numbers_above c.args.table.now k) c.args.other)) c.args.table.now c.args.class c.loop.counter
    (subst (λ (o : Option ℕ). IsWalked (λ k. where_so c.args.other (has (k ∷ numbers_above c.args.table.now k) c.args.other)) c.args.table.now c.args.class c.loop.counter o) c.in_default.is c.loop.invariant)))

pub returns-then-is_at : goal.returns-then-is_at
returns-then-is_at c = sym (is_in_flat (λ k. k ∷ numbers_above c.args.table.now k) c.args.other (numbers_up most_classes c.args.table.now (Some c.args.class))
    (walked_here (λ k. where_so c.args.other (has (k ∷ numbers_above c.args.table.now k) c.args.other)) c.args.table.now c.args.class c.loop.counter c.in-Some.at (Some c.args.other)
    (subst (λ (o : Option ℕ). IsWalked (λ k. where_so c.args.other (has (k ∷ numbers_above c.args.table.now k) c.args.other)) c.args.table.now c.args.class c.loop.counter o) c.in-Some.is c.loop.invariant) c.loop-test.true
    (so_reported c.args.other (has (c.in-Some.at ∷ numbers_above c.args.table.now c.in-Some.at) c.args.other) (sym c.is_at.ensures ∙ c.if-is_at.true))))

pub loop-preserved : goal.loop-preserved
loop-preserved c =
    walked_more (λ k. where_so c.args.other (has (k ∷ numbers_above c.args.table.now k) c.args.other)) c.args.table.now c.args.class c.loop.counter c.in-Some.at c.super_of-next.result
    (subst (λ (o : Option ℕ). IsWalked (λ k. where_so c.args.other (has (k ∷ numbers_above c.args.table.now k) c.args.other)) c.args.table.now c.args.class c.loop.counter o) c.in-Some.is c.loop.invariant) c.loop-test.true
    (not_so_reported c.args.other (has (c.in-Some.at ∷ numbers_above c.args.table.now c.in-Some.at) c.args.other) (sym c.is_at.ensures ∙ c.if-is_at.false)) c.super_of-next.ensures

pub returns : goal.returns
returns c = sym (not_in_flat (λ k. k ∷ numbers_above c.args.table.now k) c.args.other (numbers_up most_classes c.args.table.now (Some c.args.class)) (walked_out (λ k. where_so c.args.other (has (k ∷ numbers_above c.args.table.now k) c.args.other)) c.args.table.now c.args.class c.loop.counter c.loop.next c.loop.invariant c.loop-test.false))
