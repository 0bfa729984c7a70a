use Rattle.std.proofs.Common.{◌≡◌, ℕ, set, Some, sym, ap, ◌∙◌, arith}
use Rattle.dj_class.specs.Views.{class_of}
use Rattle.dj_file_rules.specs.trusted.Violations.{this_name}
use Rattle.dj_class_table.specs.Tables.{class_number}
use Rattle.dj_class_table.proofs.Numbered.{class_number-within}
use Rattle.dj_loader.proofs.Owned.{owners_more}
use Rattle.dj_loader.proofs.owners.note_owner.Goals as goal

pub bounds-owners-class : goal.bounds-owners-class
bounds-owners-class c =
    let number : class_number c.args.table.now (this_name (class_of c.args.view.now)) ≡ Some c.in-Some.class =
    ap (class_number c.args.table.now) (sym c.class_name.ensures) ∙ sym c.class_named.ensures ∙ c.in-Some.is in
    let lt = class_number-within c.args.table.now (this_name (class_of c.args.view.now)) c.in-Some.class number in
    omega (arith, lt, c.requires)

pub returns : goal.returns
returns c = λ files many own.
    let number : class_number c.args.table.now (this_name (class_of c.args.view.now)) ≡ Some c.in-Some.class =
    ap (class_number c.args.table.now) (sym c.class_name.ensures) ∙ sym c.class_named.ensures ∙ c.in-Some.is in
    owners_more c.args.table.now files (class_of c.args.view.now) c.args.owners.now own c.in-Some.class number (set c.args.owners.now c.in-Some.class (Some c.args.place))
    (ap (λ (n : ℕ). set c.args.owners.now c.in-Some.class (Some n)) (sym many))
