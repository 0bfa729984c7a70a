use Rattle.std.proofs.Common.{ℕ, List, length, map, sym, ap, ◌∙◌, subst}
use Rattle.dj_member_index.specs.DirectoryRows.{method_named, field_named, methods_named, fields_named, number_in, AreKnown}
use Rattle.dj_member_index.proofs.GatherLaws.{so_far_kept}
use Rattle.dj_member_index.proofs.gather.add_class.Goals as goal

pub add_methods-requires : goal.add_methods-requires
add_methods-requires c = ap length c.deref.ensures.value ∙ c.in_ok-known.ensures.known_are.long

pub add_fields-requires : goal.add_fields-requires
add_fields-requires c = ap length c.deref-2.ensures.value ∙ c.in_ok-known.ensures.known_are.long

pub returns : goal.returns
returns c =
    let program = c.args.table.now in
    let numbers = c.number_texts.new.numbers in
    let texts = c.member_texts-texts.result.texts in
    record {
      different = c.in_ok-known.ensures.different;
      methods_are = c.in_ok-add_methods.ensures (number_in numbers) (methods_named program)
          (subst (λ (known : List ℕ). AreKnown (number_in numbers) texts known) (sym c.deref.ensures.value) c.in_ok-known.ensures.known_are)
          (ap (map method_named) (sym c.member_texts-texts.ensures.methods))
          (so_far_kept (number_in c.args.numbers.now) (number_in numbers) (methods_named program) c.args.class 0 c.args.methods.now.items c.in_ok-known.ensures.kept c.requires.gathering.methods_are);
      fields_are = c.in_ok-add_fields.ensures (number_in numbers) (fields_named program)
          (subst (λ (known : List ℕ). AreKnown (number_in numbers) texts known) (sym c.deref-2.ensures.value) c.in_ok-known.ensures.known_are)
          (ap (map field_named) (sym c.member_texts-texts.ensures.fields))
          (so_far_kept (number_in c.args.numbers.now) (number_in numbers) (fields_named program) c.args.class 0 c.args.fields.now.items c.in_ok-known.ensures.kept c.requires.gathering.fields_are);
    }
