use Rattle.std.proofs.Common.{ℕ, List, sym, subst, ◌∙◌}
use Rattle.dj_numbering.specs.Members.{methods_in, fields_in}
use Rattle.dj_numbering.specs.Numbered.{counts_of, AreMemberClasses, IsBegun}
use Rattle.dj_numbering.proofs.Starts.{counted_begun}
use Rattle.dj_numbering.proofs.Placed.{methods_counted, fields_counted}
use Rattle.dj_numbering.proofs.members.Members.of.Goals as goal

pub member_classes-requires-clause-begun : goal.member_classes-requires-clause-begun
member_classes-requires-clause-begun c some =
    subst (λ (starts : List ℕ). IsBegun starts 0) (sym c.deref.ensures.value)
    (counted_begun (counts_of methods_in c.args.table.now) c.in_ok-methods.methods c.in_ok-methods.ensures some)

pub member_classes-requires-2-clause-begun : goal.member_classes-requires-2-clause-begun
member_classes-requires-2-clause-begun c some =
    subst (λ (starts : List ℕ). IsBegun starts 0) (sym c.deref-2.ensures.value)
    (counted_begun (counts_of fields_in c.args.table.now) c.in_ok-fields.fields c.in_ok-fields.ensures some)

pub returns : goal.returns
returns c =
    let methods = c.in_ok-methods.ensures in
    let fields = c.in_ok-fields.ensures in
    record {
      methods = methods.are;
      fields = fields.are;
      all_methods_there = c.in_ok-method_classes.ensures.long ∙ methods.total ∙ sym (methods_counted c.args.table.now);
      all_fields_there = c.in_ok-field_classes.ensures.long ∙ fields.total ∙ sym (fields_counted c.args.table.now);
      method_classes = subst (λ (starts : List ℕ). AreMemberClasses starts c.in_ok-method_classes.method_classes.items) c.deref.ensures.value c.in_ok-method_classes.ensures.homes;
      field_classes = subst (λ (starts : List ℕ). AreMemberClasses starts c.in_ok-field_classes.field_classes.items) c.deref-2.ensures.value c.in_ok-field_classes.ensures.homes;
      sums = c.in_ok-field_sums.ensures;
      few_methods = c.requires.few_methods;
      few_fields = c.requires.few_fields;
    }
