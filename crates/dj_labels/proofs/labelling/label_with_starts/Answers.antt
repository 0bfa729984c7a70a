use Rattle.std.proofs.Common.{ℕ, List, length, sym, ap, subst, ◌∙◌}
use Rattle.std.proofs.lemmas.Result.{err_from_is_err_and}
use Rattle.dj_labels.specs.trusted.Labels.{IsCut}
use Rattle.dj_labels.specs.Passes.{AreStarts}
use Rattle.dj_labels.proofs.Cuts.{as_many}
use Rattle.dj_labels.proofs.Whole.{are_starts, all_rise, bounds_all_rise, few, are_instrs, labelled, numbering_fault, rows_fault}
use Rattle.dj_labels.proofs.labelling.label_with_starts.Goals as goal

pub new-numbers-requires : goal.new-numbers-requires
new-numbers-requires c = all_rise c.args.code.now c.in_ok-starts.starts.items (are_starts c.args.code.now c.in_ok-starts.starts.items c.in_ok-starts.addressed.items c.in_ok-starts.ensures.read)

pub number_instrs-requires : goal.number_instrs-requires
number_instrs-requires c = record {
  many =
      ap (λ (starts : List ℕ). length starts) c.new-numbers.ensures
      ∙ as_many c.args.code.now c.in_ok-starts.starts.items c.in_ok-starts.addressed.items (length c.args.code.now) c.in_ok-starts.ensures.read.each;
}

pub ranges_of-requires-clause-few : goal.ranges_of-requires-clause-few
ranges_of-requires-clause-few c =
    let cut = subst (λ (starts : List ℕ). IsCut c.args.code.now starts c.in_ok-starts.addressed.items (length c.args.code.now)) (sym c.new-numbers.ensures) c.in_ok-starts.ensures.read in
    few c.args.code.now c.new-numbers.result.starts.items c.requires.few (are_starts c.args.code.now c.new-numbers.result.starts.items c.in_ok-starts.addressed.items cut)

pub ranges_of-requires-clause-rising : goal.ranges_of-requires-clause-rising
ranges_of-requires-clause-rising c =
    let cut = subst (λ (starts : List ℕ). IsCut c.args.code.now starts c.in_ok-starts.addressed.items (length c.args.code.now)) (sym c.new-numbers.ensures) c.in_ok-starts.ensures.read in
    bounds_all_rise c.args.code.now c.new-numbers.result.starts.items (are_starts c.args.code.now c.new-numbers.result.starts.items c.in_ok-starts.addressed.items cut)

pub returns-in_err-instrs-clause-refused : goal.returns-in_err-instrs-clause-refused
returns-in_err-instrs-clause-refused c =
    let p = err_from_is_err_and c.from_residual-in_err-instrs.result c.from_residual-in_err-instrs.ensures.1 in
    let cut = subst (λ (starts : List ℕ). IsCut c.args.code.now starts c.in_ok-starts.addressed.items (length c.args.code.now)) (sym c.new-numbers.ensures) c.in_ok-starts.ensures.read in
    rw (p.1, p.2) (numbering_fault c.args.code.now c.args.table.now c.new-numbers.result.starts.items c.in_ok-starts.addressed.items c.in_err-instrs.field-0.0 cut c.in_err-instrs.ensures.refused)

pub returns-in_err-ranges-clause-refused : goal.returns-in_err-ranges-clause-refused
returns-in_err-ranges-clause-refused c =
    let p = err_from_is_err_and c.from_residual-in_err-ranges.result c.from_residual-in_err-ranges.ensures.1 in
    let cut = subst (λ (starts : List ℕ). IsCut c.args.code.now starts c.in_ok-starts.addressed.items (length c.args.code.now)) (sym c.new-numbers.ensures) c.in_ok-starts.ensures.read in
    let numbered = are_instrs c.args.code.now c.new-numbers.result.starts.items c.in_ok-starts.addressed.items c.in_ok-instrs.instrs cut c.in_ok-instrs.ensures.numbered in
    rw (p.1, p.2) (rows_fault c.args.code.now c.args.table.now c.new-numbers.result.starts.items c.in_ok-instrs.instrs c.in_err-ranges.field-0.0 numbered c.in_err-ranges.ensures.refused)

pub returns-clause-labelled : goal.returns-clause-labelled
returns-clause-labelled c =
    let cut = subst (λ (starts : List ℕ). IsCut c.args.code.now starts c.in_ok-starts.addressed.items (length c.args.code.now)) (sym c.new-numbers.ensures) c.in_ok-starts.ensures.read in
    let numbered = are_instrs c.args.code.now c.new-numbers.result.starts.items c.in_ok-starts.addressed.items c.in_ok-instrs.instrs cut c.in_ok-instrs.ensures.numbered in
    labelled c.args.code.now c.args.table.now c.new-numbers.result.starts.items c.in_ok-instrs.instrs c.in_ok-ranges.ranges numbered c.in_ok-ranges.ensures.found

pub returns-clause-starts : goal.returns-clause-starts
returns-clause-starts c =
    subst (AreStarts c.args.code.now) (sym (c.into_starts.ensures ∙ c.new-numbers.ensures))
    (are_starts c.args.code.now c.in_ok-starts.starts.items c.in_ok-starts.addressed.items c.in_ok-starts.ensures.read)
