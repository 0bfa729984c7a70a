use Rattle.std.proofs.Common.{◌≡◌, map, arith, sym, ◌∙◌, subst}
use Rattle.dj_names.specs.trusted.Types.{Name}
use Rattle.dj_model.specs.trusted.Program.{Program}
use Rattle.dj_declarations.specs.Files.{bare_class}
use Rattle.dj_class_table.specs.Tables.{IsLeastShared}
use Rattle.dj_class_table.specs.ClassRows.{RiseStrictly, super_in, interfaces_in}
use Rattle.dj_class_table.proofs.Rising.{rows_are_joined, differ_from_none_shared}
use Rattle.dj_class_table.proofs.Shared.{duplicate_name, shared_moved, least_shared_moved, none_shared}
use Rattle.dj_class_table.proofs.table.ClassTable.of.Goals as goal

pub returns-in-Some-clause-refused : goal.returns-in-Some-clause-refused
returns-in-Some-clause-refused c name e =
    let reported : c.in-Some.name.now ≡ name = sym c.in_ok-from_slice.ensures ∙ duplicate_name c.in_ok-from_slice.field-0 name e in
    let rows : Program = c.put_in_order.new.classes.items in
    least_shared_moved c.args.classes.items rows c.put_in_order.ensures.moved name
    (subst (λ (n : Name). IsLeastShared rows n) reported (subst (λ (p : Program). IsLeastShared p c.in-Some.name.now) c.deref.ensures.value c.in-Some.ensures))

pub invariant_of-result : goal.invariant_of-result
invariant_of-result c = record {
  rise = subst RiseStrictly c.deref.ensures.value c.in_default.ensures;
  few = omega arith;
  bare = subst (λ (p : Program). map bare_class p ≡ p) c.deref-4.ensures.value c.are_bare.ensures;
  supers_are = subst (λ (p : Program). c.in_ok-supers.supers.items ≡ map (super_in p) p) c.deref-2.ensures.value c.in_ok-supers.ensures;
  interfaces_are = subst (λ (p : Program). c.in_ok-interfaces.interfaces.items ≡ map (interfaces_in p) p) c.deref-3.ensures.value c.in_ok-interfaces.ensures;
}

pub returns-clause-ok : goal.returns-clause-ok
returns-clause-ok c =
    let rows : Program = c.put_in_order.new.classes.items in
    let moved = c.put_in_order.ensures.moved in
    let rise : RiseStrictly rows = subst RiseStrictly c.deref.ensures.value c.in_default.ensures in
    rows_are_joined c.args.classes.items rows moved rise
    (differ_from_none_shared c.args.classes.items (λ name shared. none_shared rows rise name (shared_moved c.args.classes.items rows moved name shared)))

pub returns-clause-differ : goal.returns-clause-differ
returns-clause-differ c name shared =
    let rise = subst RiseStrictly c.deref.ensures.value c.in_default.ensures in
    none_shared c.put_in_order.new.classes.items rise name (shared_moved c.args.classes.items c.put_in_order.new.classes.items c.put_in_order.ensures.moved name shared)
