use Rattle.std.proofs.Common.{◌≡◌, ◌≢◌, ◌==◌, List, [], ◌∷◌, map, length, ap, false, true≢false, ◌∙◌, refl, sym, subst, inl, inr}
use Rattle.std.proofs.lemmas.List.{length-map}
use Rattle.dj_edge.specs.trusted.Held.{File}
use Rattle.dj_straight.specs.trusted.Program.{Program}
use Rattle.dj_straight.specs.trusted.Straight.{IsStraightSet}
use Rattle.dj_edge.proofs.Lists.{nil_of_empty}
use Rattle.dj_file_rules.specs.trusted.Violations.{AreViolations}
use Rattle.dj_file_rules.specs.Views.{path_file_view}
use Rattle.dj_straight.specs.Methods.{program_view}
use Rattle.dj_straight.proofs.Straights.{no_initialisers}
use Rattle.dj_class_set.specs.trusted.Entry.{AreRunViolations}
use Rattle.dj_class_set.proofs.RunRules.{entry_is_there}
use Rattle.dj_class_set.proofs.running.verify_files.Goals as goal

-- a list whose slice isn't empty is not empty
some_of_full : {X : Type 0} (xs ys : List X) → ys ≡ xs → false ≡ (length ys == 0) → xs ≡ [] → ⊥
some_of_full {X = X} xs ys same full none = absurd (true≢false (ap (λ (l : List X). length l == 0) (sym (same ∙ none)) ∙ sym full))

as_many : (files : List File) (program : Program) → IsStraightSet files program → length files ≡ length program
as_many [] program is = ap length (sym is)
as_many (file ∷ []) program (class, straight, is) = ap length (sym is)
as_many (file ∷ other ∷ files) program is = absurd is

pub run_violations-requires-clause-as_many : goal.run_violations-requires-clause-as_many
run_violations-requires-clause-as_many c =
    let straight = rw c.in-Some.is at c.in_ok-set.ensures.straight in
    sym (length-map c.args.files.now path_file_view) ∙ as_many (map path_file_view c.args.files.now) (program_view c.in-Some.set.class) straight

pub run_entry-requires-clause-entry : goal.run_entry-requires-clause-entry
run_entry-requires-clause-entry c =
    let files = map path_file_view c.args.files.now in
    let program = program_view c.in-Some.set.class in
    let none : c.in_ok-violations.violations ≡ [] =
    nil_of_empty c.in_ok-violations.violations c.as_slice-2.result.now c.as_slice-2.ensures (sym c.if-not-is_empty-2.false ∙ c.is_empty-2.ensures) in
    entry_is_there files program c.args.class.now (subst (AreRunViolations files program c.args.class.now) none c.in_ok-violations.ensures.lines)

pub run_entry-requires-clause-plain : goal.run_entry-requires-clause-plain
run_entry-requires-clause-plain c =
    let straight = rw c.in-Some.is at c.in_ok-set.ensures.straight in
    no_initialisers (map path_file_view c.args.files.now) (program_view c.in-Some.set.class) straight

pub returns-then-not-is_empty-2-clause-decided : goal.returns-then-not-is_empty-2-clause-decided
returns-then-not-is_empty-2-clause-decided c =
    let files = map path_file_view c.args.files.now in
    let program = program_view c.in-Some.set.class in
    let straight = rw c.in-Some.is at c.in_ok-set.ensures.straight in
    let sound : c.in_ok-judged.judged.violations ≡ [] =
    nil_of_empty c.in_ok-judged.judged.violations c.as_slice.result.now c.as_slice.ensures (sym c.if-not-is_empty.false ∙ c.is_empty.ensures) in
    let no_lines = subst (AreViolations files) sound c.in_ok-judged.ensures.violations in
    let some : c.in_ok-violations.violations ≢ [] = λ none. some_of_full c.in_ok-violations.violations c.as_slice-2.result.now c.as_slice-2.ensures (sym c.if-not-is_empty-2.true ∙ c.is_empty-2.ensures) none in
    inr (no_lines, inr ((program, straight), inl (program, c.in_ok-violations.violations, straight, refl, c.in_ok-violations.ensures.lines, some)))

pub returns-clause-decided : goal.returns-clause-decided
returns-clause-decided c =
    let files = map path_file_view c.args.files.now in
    let class = c.args.class.now in
    let program = program_view c.in-Some.set.class in
    let straight = rw c.in-Some.is at c.in_ok-set.ensures.straight in
    let sound : c.in_ok-judged.judged.violations ≡ [] =
    nil_of_empty c.in_ok-judged.judged.violations c.as_slice.result.now c.as_slice.ensures (sym c.if-not-is_empty.false ∙ c.is_empty.ensures) in
    let none : c.in_ok-violations.violations ≡ [] =
    nil_of_empty c.in_ok-violations.violations c.as_slice-2.result.now c.as_slice-2.ensures (sym c.if-not-is_empty-2.false ∙ c.is_empty-2.ensures) in
    let no_lines = subst (AreViolations files) sound c.in_ok-judged.ensures.violations in
    let no_run_lines = subst (AreRunViolations files program class) none c.in_ok-violations.ensures.lines in
    inr (
      no_lines,
      inr (
        (program, straight),
        inr (
          (program, straight, no_run_lines),
          inl (program, c.in_ok-ending.ending.outcome, c.in_ok-ending.ending.costs, straight, refl, c.in_ok-ending.ensures.runs),
        ),
      ),
    )
