use Rattle.std.proofs.Common.{◌≡◌, ℕ, ℤ, pos, Some, None, length, IfSome, sym, subst, ◌∙◌, w64, FitsSigned, to_z, of_z, rules}
use Rattle.std.proofs.lemmas.Int.{to_z-of_z}
use Rattle.dj_model.specs.trusted.Natives as model
use Rattle.dj_natives.specs.Answers.{answer_view}
use Rattle.dj_natives.specs.Seen.{units_at, place_within}
use Rattle.dj_natives.proofs.Reported.{place_found, no_from, no_to}
use Rattle.dj_natives.proofs.makers.rest.Goals as goal

pub returns-in-Some : goal.returns-in-Some
returns-in-Some c =
    let fits : FitsSigned w64 c.args.from = search rules in
    let placed : place_within (length (units_at c.args.heap.now c.args.r)) c.args.from ≡ Some c.in-Some.from =
    subst (λ (z : ℤ). place_within (length (units_at c.args.heap.now c.args.r)) z ≡ Some c.in-Some.from) (to_z-of_z w64 c.args.from fits)
    (subst (λ (k : ℕ). place_within k (to_z w64 (of_z w64 c.args.from)) ≡ Some c.in-Some.from) c.text_length-length.ensures c.in-Some.ensures) in
    subst (λ (z : ℤ). IfSome (answer_view c.inner_part.result) (λ a. model.part_between (units_at c.args.heap.now c.args.r) z (pos (length (units_at c.args.heap.now c.args.r))) ≡ a)) (sym (place_found (length (units_at c.args.heap.now c.args.r)) c.args.from c.in-Some.from placed)) (subst (λ (k : ℕ). IfSome (answer_view c.inner_part.result) (λ a. model.part_between (units_at c.args.heap.now c.args.r) (pos c.in-Some.from) (pos k) ≡ a)) c.text_length-length.ensures c.inner_part.ensures)

pub returns-in-None : goal.returns-in-None
returns-in-None c =
    let fits : FitsSigned w64 c.args.from = search rules in
    let placed : place_within (length (units_at c.args.heap.now c.args.r)) c.args.from ≡ None =
    subst (λ (z : ℤ). place_within (length (units_at c.args.heap.now c.args.r)) z ≡ None) (to_z-of_z w64 c.args.from fits)
    (subst (λ (k : ℕ). place_within k (to_z w64 (of_z w64 c.args.from)) ≡ None) c.text_length-length.ensures c.in-None.ensures) in
    no_from (units_at c.args.heap.now c.args.r) c.args.from (pos (length (units_at c.args.heap.now c.args.r))) placed
