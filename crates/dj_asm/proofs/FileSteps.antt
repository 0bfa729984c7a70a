-- The passes over the lines of a source, one line or one section further.
use Rattle.std.proofs.Common.{◌≡◌, ℕ, ◌+◌, ◌<◌, ◌≤◌, ℤ, pos, Option, Some, None, List, [], ◌∷◌, ◌++◌, length, map, get_or, take, drop, sym, ap, ◌∙◌, subst, arith, append_assoc, append-nil}
use Rattle.std.specs.List.{AllByRecursion, AllZip}
use Rattle.std.proofs.lemmas.List.{drop-drop, drop-map, take-map, length-map, length-drop, drop_all, drop_more}
use Rattle.dj_class.specs.trusted.ClassFile.{MemberInfo}
use Rattle.dj_asm_source.specs.declared.syntax.Line as the_line
use Rattle.dj_asm_source.specs.trusted.Lines.{Line}
use Rattle.dj_asm_source.specs.LineViews.{line_view}
use Rattle.dj_asm_source.specs.LabelReading.{sections_of, section_size}
use Rattle.dj_asm_source.proofs.Sections.{section_step}
use Rattle.dj_asm.specs.declared.heading.Heading.{Heading}
use Rattle.dj_asm_pool.specs.trusted.Entries.{Entry}
use Rattle.dj_asm.specs.Filing.{heading_with, heading_from, members_at, members_in, first_body, bodies_after, or_later, first_reported, IsBody, MayHaveBody, MayHaveBodies, AreBodies}

-- the line of an index, and those after it
lines_left : (lines : List the_line.Line) (i : ℕ) (line : the_line.Line) → i < length lines → line ≡ get_or lines i line → map line_view (drop i lines) ≡ line_view line ∷ map line_view (drop (i + 1) lines)
lines_left lines i line within is = ap (map line_view) (drop_more lines i line within ∙ ap (λ l. l ∷ drop (i + 1) lines) (sym is))

pub heading_more : (index : Entry → ℕ) (h : Heading) (lines : List the_line.Line) (i : ℕ) (line : the_line.Line) → i < length lines → line ≡ get_or lines i line
    → heading_from index (heading_with index h (line_view line)) (map line_view (drop (i + 1) lines)) ≡ heading_from index h (map line_view (drop i lines))
unfolding heading_from
heading_more index h lines i line within is = sym (ap (heading_from index h) (lines_left lines i line within is))

pub members_more : (index : Entry → ℕ) (attribute : ℕ) (bodies : List (List ℕ)) (lines : List the_line.Line) (i : ℕ) (line : the_line.Line) → i < length lines → line ≡ get_or lines i line
    → members_at index attribute (first_body bodies) (line_view line) ++ members_in index attribute (bodies_after (line_view line) bodies) (map line_view (drop (i + 1) lines))
    ≡ members_in index attribute bodies (map line_view (drop i lines))
unfolding members_in
members_more index attribute bodies lines i line within is = sym (ap (members_in index attribute bodies) (lines_left lines i line within is))

-- the field or method of a line is put after those so far
pub members_step : (index : Entry → ℕ) (attribute : ℕ) (members now whole : List MemberInfo) (rest after : List (List ℕ)) (body : List ℕ) (lines : List the_line.Line) (i : ℕ) (line : the_line.Line)
    → i < length lines → line ≡ get_or lines i line → body ≡ first_body rest → after ≡ bodies_after (line_view line) rest → now ≡ members ++ members_at index attribute body (line_view line)
    → members ++ members_in index attribute rest (map line_view (drop i lines)) ≡ whole → now ++ members_in index attribute after (map line_view (drop (i + 1) lines)) ≡ whole
members_step index attribute members now whole rest after body lines i line within is body_is after_is now_is h =
    let left = map line_view (drop (i + 1) lines) in
    ap (λ (l : List MemberInfo). l ++ members_in index attribute after left) now_is
    ∙ (append_assoc members (members_at index attribute body (line_view line)) (members_in index attribute after left)
    ∙ (ap (λ (b : List ℕ). members ++ (members_at index attribute b (line_view line) ++ members_in index attribute after left)) body_is
    ∙ (ap (λ (bs : List (List ℕ)). members ++ (members_at index attribute (first_body rest) (line_view line) ++ members_in index attribute bs left)) after_is
    ∙ (ap (λ (l : List MemberInfo). members ++ l) (members_more index attribute rest lines i line within is) ∙ h))))

-- after the last line
pub heading_end : (index : Entry → ℕ) (h : Heading) (lines : List the_line.Line) (i : ℕ) → length lines ≤ i → heading_from index h (map line_view (drop i lines)) ≡ h
unfolding heading_from
heading_end index h lines i past = ap (λ ls. heading_from index h (map line_view ls)) (drop_all i lines past)

pub members_end : (index : Entry → ℕ) (attribute : ℕ) (bodies : List (List ℕ)) (members : List MemberInfo) (lines : List the_line.Line) (i : ℕ) → length lines ≤ i
    → members ++ members_in index attribute bodies (map line_view (drop i lines)) ≡ members
unfolding members_in
members_end index attribute bodies members lines i past = ap (λ ls. members ++ members_in index attribute bodies (map line_view ls)) (drop_all i lines past) ∙ append-nil members

-- the first line that gives a number
pub reported_here : (reported : Line → Option ℤ) (lines : List the_line.Line) (i : ℕ) (line : the_line.Line) (n : ℤ) → i < length lines → line ≡ get_or lines i line → Some n ≡ reported (line_view line)
    → n ≡ first_reported reported (map line_view (drop i lines))
unfolding first_reported
reported_here reported lines i line n within is e =
    sym (ap (first_reported reported) (lines_left lines i line within is) ∙ ap (λ o. or_later o (first_reported reported (map line_view (drop (i + 1) lines)))) (sym e))

pub reported_later : (reported : Line → Option ℤ) (lines : List the_line.Line) (i : ℕ) (line : the_line.Line) → i < length lines → line ≡ get_or lines i line → None ≡ reported (line_view line)
    → first_reported reported (map line_view (drop (i + 1) lines)) ≡ first_reported reported (map line_view (drop i lines))
unfolding first_reported
reported_later reported lines i line within is e =
    sym (ap (first_reported reported) (lines_left lines i line within is) ∙ ap (λ o. or_later o (first_reported reported (map line_view (drop (i + 1) lines)))) (sym e))

pub reported_never : (reported : Line → Option ℤ) (lines : List the_line.Line) (i : ℕ) → length lines ≤ i → pos 0 ≡ first_reported reported (map line_view (drop i lines))
unfolding first_reported
reported_never reported lines i past = sym (ap (λ ls. first_reported reported (map line_view ls)) (drop_all i lines past))

-- ---- section by section

pub section_at : (lines : List Line) → 0 < length lines → sections_of lines ≡ take (section_size lines) lines ∷ sections_of (drop (section_size lines) lines)
section_at [] some = absurd (omega (arith, some))
section_at (line ∷ lines) some = section_step line lines

section_cut : (lines : List the_line.Line) (before size : ℕ) → before < length lines → size ≡ section_size (map line_view (drop before lines))
    → sections_of (map line_view (drop before lines)) ≡ map line_view (take size (drop before lines)) ∷ sections_of (map line_view (drop (before + size) lines))
section_cut lines before size some size_is =
    let left : List Line = map line_view (drop before lines) in
    let count = length-map (drop before lines) line_view in
    let less = length-drop before lines in
    section_at left (omega (arith, some, count, less))
    ∙ (ap (λ (k : ℕ). take k left ∷ sections_of (drop k left)) (sym size_is)
    ∙ (ap (λ ls. ls ∷ sections_of (drop size left)) (take-map line_view size (drop before lines))
    ∙ ap (λ ls. map line_view (take size (drop before lines)) ∷ sections_of ls) (drop-map line_view size (drop before lines) ∙ ap (map line_view) (drop-drop size before lines))))

-- the section may have a body, and those after it
pub may_more : (kept : List Entry) (lines : List the_line.Line) (before size : ℕ) → before < length lines → size ≡ section_size (map line_view (drop before lines))
    → MayHaveBodies kept (map line_view (drop before lines)) → MayHaveBody kept (map line_view (take size (drop before lines))) × MayHaveBodies kept (map line_view (drop (before + size) lines))
may_more kept lines before size some size_is may = subst (AllByRecursion (MayHaveBody kept)) (section_cut lines before size some size_is) may

-- its body is put after those so far
pub bodies_more : (kept : List Entry) (whole : List Line) (lines : List the_line.Line) (before size : ℕ) (bodies : List (List ℕ)) (body : List ℕ) → before < length lines
    → size ≡ section_size (map line_view (drop before lines)) → IsBody kept (map line_view (take size (drop before lines))) body
    → ((more : List (List ℕ)) → AreBodies kept (map line_view (drop before lines)) more → AreBodies kept whole (bodies ++ more))
    → (more : List (List ℕ)) → AreBodies kept (map line_view (drop (before + size) lines)) more → AreBodies kept whole ((bodies ++ body ∷ []) ++ more)
bodies_more kept whole lines before size bodies body some size_is is so_far more are =
    subst (AreBodies kept whole) (sym (append_assoc bodies (body ∷ []) more))
    (so_far (body ∷ more) (subst (λ sections. AllZip (IsBody kept) sections (body ∷ more)) (sym (section_cut lines before size some size_is)) (is, are)))

-- and none after the last
pub no_bodies : (kept : List Entry) (lines : List the_line.Line) (before : ℕ) → length lines ≤ before → AreBodies kept (map line_view (drop before lines)) []
unfolding sections_of
no_bodies kept lines before past = subst (λ ls. AreBodies kept (map line_view ls) []) (sym (drop_all before lines past)) tt
