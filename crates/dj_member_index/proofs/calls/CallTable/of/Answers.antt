use Rattle.std.proofs.Common.{List, Contains, subst, sym}
use Rattle.std.specs.List.Sorted.{IsPermutation}
use Rattle.std.proofs.lemmas.List.Sorted.{Contains-permutation}
use Rattle.dj_model.specs.trusted.Program.{Program}
use Rattle.dj_model.specs.trusted.Linking.{is_plain, is_not_static}
use Rattle.dj_member_index.specs.declared.rows.MemberRow.{MemberRow}
use Rattle.dj_member_index.specs.DirectoryRows.{AreInOrder}
use Rattle.dj_member_index.specs.Calls.{AreFirsts, AreMethods, AreTakable}
use Rattle.dj_member_index.proofs.CallLaws.{copied_places, in_copied, marked_items, places_fit}
use Rattle.dj_member_index.proofs.calls.CallTable.of.Goals as goal

pub firsts_of-requires-clause-order : goal.firsts_of-requires-clause-order
firsts_of-requires-clause-order c = subst AreInOrder (sym c.deref-6.ensures.value) c.into_methods-rows.ensures.are.methods_are.order

pub firsts_of-requires-clause-within : goal.firsts_of-requires-clause-within
firsts_of-requires-clause-within c row there =
    let rows : List MemberRow = c.into_methods-rows.result.items in
    let places : List MemberRow = c.put_in_places.new.rows.items in
    let moved : IsPermutation rows places = copied_places rows c.as_slice.result.now c.in_ok-places.places.items places (c.in_ok-places.ensures.items_if_clones_equal (λ x y e. e)) c.as_slice.ensures.value c.put_in_places.ensures.moved in
    subst (λ (rs : List MemberRow). Contains rs row) (sym c.deref-6.ensures.value) (in_copied rows places moved row (subst (λ (rs : List MemberRow). Contains rs row) c.deref-7.ensures.value there))

pub returns : goal.returns
returns c =
    let rows : List MemberRow = c.into_methods-rows.result.items in
    let places : List MemberRow = c.put_in_places.new.rows.items in
    let moved : IsPermutation rows places = copied_places rows c.as_slice.result.now c.in_ok-places.places.items places (c.in_ok-places.ensures.items_if_clones_equal (λ x y e. e)) c.as_slice.ensures.value c.put_in_places.ensures.moved in
    record {
      rows = rows;
      methods = subst (λ (program : Program). AreMethods program rows) c.in_ok-of.ensures c.into_methods-rows.ensures;
      places = λ row there. in_copied rows places moved row there;
      all_places = λ row there. Contains-permutation rows places row moved there;
      ordered = record {
        fit = places_fit rows places c.into_methods-rows.ensures.are.methods_are.order (λ row there. in_copied rows places moved row there);
        ascend = c.put_in_places.ensures.ascend;
      };
      firsts_are =
          subst (λ (ps : List MemberRow). AreFirsts rows ps c.in_ok-firsts.firsts.items) c.deref-7.ensures.value
          (subst (λ (rs : List MemberRow). AreFirsts rs c.deref-7.result.now c.in_ok-firsts.firsts.items) c.deref-6.ensures.value c.in_ok-firsts.ensures);
      plain = subst (λ (all : List MemberRow). AreTakable c.args.table.now is_plain all c.in_ok-plain.plain.items) c.deref.ensures.value c.in_ok-plain.ensures;
      instance = subst (λ (all : List MemberRow). AreTakable c.args.table.now is_not_static all c.in_ok-instance.instance.items) c.deref-2.ensures.value c.in_ok-instance.ensures;
      marked = marked_items c.args.table.now c.deref-3.result.now c.deref-4.result.now c.in_ok-plain.plain.items c.in_ok-instance.instance.items c.in_ok-marked.marked c.deref-3.ensures.value c.deref-4.ensures.value c.in_ok-marked.ensures;
    }
