use Rattle.std.proofs.Common.{◌≡◌, List, length, refl, sym, subst, arith}
use Rattle.dj_member_index.specs.declared.rows.MemberRow.{MemberRow}
use Rattle.dj_member_index.specs.DirectoryRows.{methods_named, fields_named, number_in, AreFirst, AreInOrder, AreSoFar}
use Rattle.dj_member_index.proofs.NumberLaws.{none_different}
use Rattle.dj_member_index.proofs.GatherLaws.{none_so_far, all_gathered}
use Rattle.dj_member_index.proofs.directory.Directory.of.Goals as goal

pub loop-class-init : goal.loop-class-init
loop-class-init c =
    let numbers = c.new-numbers.result in
    let program = c.args.table.now in
    record {
      different = none_different numbers c.new-numbers.ensures.empty;
      methods_are = subst (λ (rows : List MemberRow). AreSoFar (number_in numbers) (methods_named program) 0 0 rows) (sym c.new-methods.ensures.items) (none_so_far (number_in numbers) (methods_named program));
      fields_are = subst (λ (rows : List MemberRow). AreSoFar (number_in numbers) (fields_named program) 0 0 rows) (sym c.new-fields.ensures.items) (none_so_far (number_in numbers) (fields_named program));
    }

pub first_rows-requires : goal.first_rows-requires
first_rows-requires c =
    subst AreInOrder (sym c.deref.ensures.value)
    (all_gathered (number_in c.loop-class.numbers) (methods_named c.args.table.now) c.loop-class.class c.loop-class.class c.loop-class.methods.items c.put_in_order.new.rows.items refl c.loop-class.invariant.methods_are
    c.put_in_order.ensures.moved c.put_in_order.ensures.ascend).order

pub first_rows-requires-2 : goal.first_rows-requires-2
first_rows-requires-2 c =
    subst AreInOrder (sym c.deref-2.ensures.value)
    (all_gathered (number_in c.loop-class.numbers) (fields_named c.args.table.now) c.loop-class.class c.loop-class.class c.loop-class.fields.items c.put_in_order-2.new.rows.items refl c.loop-class.invariant.fields_are
    c.put_in_order-2.ensures.moved c.put_in_order-2.ensures.ascend).order

pub invariant_of-result : goal.invariant_of-result
invariant_of-result c =
    let program = c.args.table.now in
    let numbers = c.loop-class.numbers in
    let all : c.loop-class.class ≡ length c.args.table.now = omega (arith, c.loop-class-test.false, c.loop-class.auto.class-end, c.class_count-class-end.ensures.count) in
    record {
      different = c.loop-class.invariant.different;
      methods_are = all_gathered (number_in numbers) (methods_named program) c.loop-class.class (length program) c.loop-class.methods.items c.put_in_order.new.rows.items all c.loop-class.invariant.methods_are
          c.put_in_order.ensures.moved c.put_in_order.ensures.ascend;
      fields_are = all_gathered (number_in numbers) (fields_named program) c.loop-class.class (length program) c.loop-class.fields.items c.put_in_order-2.new.rows.items all c.loop-class.invariant.fields_are
          c.put_in_order-2.ensures.moved c.put_in_order-2.ensures.ascend;
      first_methods_are = subst (λ (rows : List MemberRow). AreFirst rows c.in_ok-first_methods.first_methods.items) c.deref.ensures.value c.in_ok-first_methods.ensures;
      first_fields_are = subst (λ (rows : List MemberRow). AreFirst rows c.in_ok-first_fields.first_fields.items) c.deref-2.ensures.value c.in_ok-first_fields.ensures;
    }
