use Rattle.std.proofs.Common.{rules, ℕ, ◌≡◌, ◌+◌, List, [], ◌∷◌, ◌++◌, sym, map, subst}
use Rattle.dj_asm_source.specs.LineViews.{line_view}
use Rattle.dj_asm_source.specs.OperationViews.{operation_view}
use Rattle.dj_asm.specs.trusted.Codes.{operation_in}
use Rattle.dj_asm.specs.Judging.{AreSoFar, size_at}
use Rattle.dj_asm.proofs.JudgedCode.{one_further, none_further}
use Rattle.dj_asm.proofs.sizes.starts_of.Goals.{in-Some+in_ok-next+in_ok-push, in_default}
use Rattle.dj_asm.proofs.sizes.starts_of.Goals as goal

pub loop-place-preserved : goal.loop-place-preserved
loop-place-preserved c =
    let lines = c.args.lines.now in
    let place = c.loop-place.place in
    let line = c.index-lines-place.result in
    let starts = c.loop-place.starts.items in
    let at = c.loop-place.at in
    elim c.match-done.branch [
      | in-Some+in_ok-next+in_ok-push w ↦
          let operation = w.in-Some.operation.now in
          let next = w.in_ok-next.next in
          let does : operation_in (line_view line) ≡ operation_view operation ∷ [] = search rules in
          let size : next ≡ at + size_at at (operation_view operation) = search rules in
          let items : c.match-done.starts.items ≡ starts ++ at ∷ [] = search rules in
          let further = one_further lines place line c.loop-place-test.true c.index-lines-place.is starts at c.loop-place.invariant (operation_view operation) next does size in
          subst (λ (s : List ℕ). AreSoFar (map line_view lines) (place + 1) s c.match-done.at) (sym items)
          (subst (λ (n : ℕ). AreSoFar (map line_view lines) (place + 1) (starts ++ at ∷ []) n) (sym w.at-is) further)
      | in_default w ↦
          let none : operation_in (line_view line) ≡ [] = search rules in
          let items : c.match-done.starts.items ≡ starts = search rules in
          let further = none_further lines place line c.loop-place-test.true c.index-lines-place.is starts at c.loop-place.invariant none in
          subst (λ (s : List ℕ). AreSoFar (map line_view lines) (place + 1) s c.match-done.at) (sym items)
          (subst (λ (n : ℕ). AreSoFar (map line_view lines) (place + 1) starts n) (sym w.at-is) further)
    ]
