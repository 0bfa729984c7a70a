use Rattle.std.proofs.Common.{◌<◌, ◌≤◌, ℕ, Option, Some, nat_eq, sym, subst, eq-eqb, ne_eqb}
use Rattle.dj_class_table.specs.Tables.{super_number}
use Rattle.dj_resolution.specs.Numbers.{most_above, numbers_up}
use Rattle.dj_resolution.proofs.Climbs.{IsClimbed, climb_begun, climbed_here, climbed_more, climbed_off, climbed_out, most_above_is}
use Rattle.dj_resolution.proofs.Subclasses.{where_so, so_reported, not_so_reported, is_among_these, not_among_these}
use Rattle.dj_resolution.proofs.special.is_superclass_by_class.Goals as goal

pub loop-init : goal.loop-init
loop-init c = climb_begun (λ k. where_so c.args.other (nat_eq k c.args.other)) c.args.table.now most_above c.args.class c.super_of-next.result c.super_of-next.ensures

pub returns-in_default : goal.returns-in_default
returns-in_default c = sym (not_among_these c.args.other (numbers_up most_above c.args.table.now (super_number c.args.table.now c.args.class)) (climbed_off (λ k. where_so c.args.other (nat_eq k c.args.other)) c.args.table.now most_above (super_number c.args.table.now c.args.class) c.loop.counter (subst (λ (o : Option ℕ). IsClimbed (λ k. where_so c.args.other (nat_eq k c.args.other)) c.args.table.now most_above (super_number c.args.table.now c.args.class) c.loop.counter o) c.in_default.is c.loop.invariant)))

pub returns-then-at-other : goal.returns-then-at-other
returns-then-at-other c = sym (is_among_these c.args.other (numbers_up most_above c.args.table.now (super_number c.args.table.now c.args.class))
    (climbed_here (λ k. where_so c.args.other (nat_eq k c.args.other)) c.args.table.now most_above (super_number c.args.table.now c.args.class) c.loop.counter c.in-Some.at (Some c.args.other)
    (subst (λ (o : Option ℕ). IsClimbed (λ k. where_so c.args.other (nat_eq k c.args.other)) c.args.table.now most_above (super_number c.args.table.now c.args.class) c.loop.counter o) c.in-Some.is c.loop.invariant) (subst (λ (n : ℕ). c.loop.counter < n) (sym most_above_is) c.loop-test.true)
    (so_reported c.args.other (nat_eq c.in-Some.at c.args.other) (eq-eqb c.in-Some.at c.args.other c.if-at-other.true))))

pub loop-preserved : goal.loop-preserved
loop-preserved c =
    climbed_more (λ k. where_so c.args.other (nat_eq k c.args.other)) c.args.table.now most_above (super_number c.args.table.now c.args.class) c.loop.counter c.in-Some.at c.super_of-next-in-loop.result
    (subst (λ (o : Option ℕ). IsClimbed (λ k. where_so c.args.other (nat_eq k c.args.other)) c.args.table.now most_above (super_number c.args.table.now c.args.class) c.loop.counter o) c.in-Some.is c.loop.invariant) (subst (λ (n : ℕ). c.loop.counter < n) (sym most_above_is) c.loop-test.true)
    (not_so_reported c.args.other (nat_eq c.in-Some.at c.args.other) (ne_eqb c.in-Some.at c.args.other c.if-at-other.false)) c.super_of-next-in-loop.ensures

pub returns : goal.returns
returns c = sym (not_among_these c.args.other (numbers_up most_above c.args.table.now (super_number c.args.table.now c.args.class))
    (climbed_out (λ k. where_so c.args.other (nat_eq k c.args.other)) c.args.table.now most_above (super_number c.args.table.now c.args.class) c.loop.counter c.loop.next c.loop.invariant (subst (λ (n : ℕ). n ≤ c.loop.counter) (sym most_above_is) c.loop-test.false)))
