-- Where the instructions of lines come to stand.
use Rattle.std.proofs.Common.{◌≡◌, ℕ, ◌+◌, ◌<◌, ◌≤◌, List, [], ◌∷◌, ◌++◌, length, map, get_or, drop, refl, sym, ap, ◌∙◌, subst, append_assoc, append-nil}
use Rattle.std.proofs.lemmas.List.{drop_all, drop_more, length-map}
use Rattle.dj_asm_source.specs.declared.syntax.Line as the_line
use Rattle.dj_asm_source.specs.trusted.Lines.{Operation, Line}
use Rattle.dj_asm_source.specs.LineViews.{line_view}
use Rattle.dj_asm.specs.trusted.Codes.{operation_in}
use Rattle.dj_asm.specs.Judging.{starts_at, end_at, size_at, operations, AreStarts, AreSoFar}
use Rattle.std.proofs.lemmas.List.{drop-map}

left_at : (lines : List the_line.Line) (place : ℕ) (line : the_line.Line) → place < length lines → line ≡ get_or lines place line
    → operations (drop place (map line_view lines)) ≡ operation_in (line_view line) ++ operations (drop (place + 1) (map line_view lines))
left_at lines place line lt is =
    let rest : drop place lines ≡ line ∷ drop (place + 1) lines = drop_more lines place line lt ∙ ap (λ l. l ∷ drop (place + 1) lines) (sym is) in
    ap operations (drop-map line_view place lines)
    ∙ (ap (λ ls. operations (map line_view ls)) rest ∙ ap (λ ls. operation_in (line_view line) ++ operations ls) (sym (drop-map line_view (place + 1) lines)))

pub at_first : (lines : List Line) → AreSoFar lines 0 [] 0
at_first lines = record { starts_are = refl; stop_is = refl }

module _ (lines : List the_line.Line) (place : ℕ) (line : the_line.Line) (lt : place < length lines) (is : line ≡ get_or lines place line)
    (starts : List ℕ) (at : ℕ) (far : AreSoFar (map line_view lines) place starts at) where
  pub one_further : (o : Operation) (next : ℕ) → operation_in (line_view line) ≡ o ∷ [] → next ≡ at + size_at at o → AreSoFar (map line_view lines) (place + 1) (starts ++ at ∷ []) next
  one_further o next e size =
      let left = left_at lines place line lt is ∙ ap (λ os. os ++ operations (drop (place + 1) (map line_view lines))) e in
      let more = operations (drop (place + 1) (map line_view lines)) in
      record {
        starts_are =
            ap (λ (n : ℕ). (starts ++ at ∷ []) ++ starts_at n more) size
            ∙ (append_assoc starts (at ∷ []) (starts_at (at + size_at at o) more) ∙ (ap (λ os. starts ++ starts_at at os) (sym left) ∙ far.starts_are));
        stop_is = ap (λ (n : ℕ). end_at n more) size ∙ (ap (λ os. end_at at os) (sym left) ∙ far.stop_is);
      }

  pub none_further : operation_in (line_view line) ≡ [] → AreSoFar (map line_view lines) (place + 1) starts at
  none_further e =
      let left = left_at lines place line lt is ∙ ap (λ os. os ++ operations (drop (place + 1) (map line_view lines))) e in
      record {
        starts_are = ap (λ os. starts ++ starts_at at os) (sym left) ∙ far.starts_are;
        stop_is = ap (λ os. end_at at os) (sym left) ∙ far.stop_is;
      }

pub none_left : (lines : List the_line.Line) (place : ℕ) (starts : List ℕ) (at : ℕ) → AreSoFar (map line_view lines) place starts at → length lines ≤ place → AreStarts (map line_view lines) starts at
none_left lines place starts at far past =
    let all : drop place (map line_view lines) ≡ [] = drop_all place (map line_view lines) (subst (λ (n : ℕ). n ≤ place) (sym (length-map lines line_view)) past) in
    record {
      starts_are = sym (append-nil starts) ∙ (sym (ap (λ ls. starts ++ starts_at at (operations ls)) all) ∙ far.starts_are);
      stop_is = sym (ap (λ ls. end_at at (operations ls)) all) ∙ far.stop_is;
    }
