-- Instructions of lines, one by one.
use Rattle.std.proofs.Common.{◌≡◌, ℕ, zero, suc, ◌+◌, ◌<◌, ◌≤◌, ◌^◌, List, [], ◌∷◌, ◌++◌, length, map, get_or, take, drop, refl, sym, ap, ◌∙◌, subst, arith, append-nil, append_assoc}
use Rattle.std.specs.List.{flat_map, AllByRecursion, AllZip}
use Rattle.std.proofs.lemmas.List.{take_more, take_all, map-append, drop_more, drop_all}
use Rattle.std.proofs.lemmas.List.Concat.{flat_map-append}
use Rattle.dj_names.specs.trusted.Descriptors.{Describes, slots_of}
use Rattle.dj_names.specs.declared.descriptor.Desc.{Desc}
use Rattle.dj_ops.specs.declared.instruction.Instr.{Instr}
use Rattle.dj_ops.specs.declared.instruction.Instr.TheVariants as instrs
use Rattle.dj_ops.specs.trusted.Instructions.{IsProper}
use Rattle.dj_ops.specs.declared.frames.Frame as frames
use Rattle.dj_labels.specs.declared.labelled.Protected.{Protected}
use Rattle.dj_asm_source.specs.declared.syntax.Line as the_line
use Rattle.dj_asm_source.specs.trusted.Lines.{Operation, Line, Framed, Does}
use Rattle.dj_asm_source.specs.LineViews.{line_view}
use Rattle.dj_asm_source.specs.LabelReading.{number_after}
use Rattle.dj_asm.specs.trusted.Codes.{Places, IsInterfaceCall, IsInstrOf, operation_in, AreInstrsOf, ranges_in, frames_in}
use Rattle.dj_asm.specs.CodeBodies.{IsProperIn, AreProperIn, HasOneMore, framed}
use Rattle.dj_asm_pool.proofs.Members.{each_first, each_last}

-- the count of a proper call has one byte
pub few_slots : (index : ℕ) (desc : List ℕ) (d : Desc) → ((i : Instr) → IsInterfaceCall index desc i → IsProper i) → Describes desc d → slots_of d + 1 < 2 ^ 8
few_slots index desc d proper describes =
    (proper (instrs.Interface index (slots_of d + 1)) (record { described = d; describes = describes; instruction = refl })).2

pub few_places : (index : ℕ) (desc : List ℕ) (d : Desc) → ((i : Instr) → IsInterfaceCall index desc i → IsProper i) → Describes desc d → slots_of d ≤ 65535
few_places index desc d proper describes = let few = few_slots index desc d proper describes in omega (arith, few)

pub call_is : (index count : ℕ) (desc : List ℕ) (d : Desc) → Describes desc d → count ≡ slots_of d + 1 → IsInterfaceCall index desc (instrs.Interface index count)
call_is index count desc d describes e = record { described = d; describes = describes; instruction = ap (λ (n : ℕ). instrs.Interface index n) e }

-- ---- one line more

zip_more : {A B : Type 0} (P : A → B → Type 0) (xs : List A) (ys : List B) (x : A) (y : B) → AllZip P xs ys → P x y → AllZip P (xs ++ x ∷ []) (ys ++ y ∷ [])
zip_more P [] [] x y are p = (p, tt)
zip_more P [] (y' ∷ ys) x y are p = absurd are
zip_more P (x' ∷ xs) [] x y are p = absurd are
zip_more P (x' ∷ xs) (y' ∷ ys) x y are p = (are.0, zip_more P xs ys x y are.1 p)

pub instr_more : (places : Places) (o : Operation) (i : Instr) (before : List Instr) → IsInstrOf places o i → HasOneMore places (Does o) before (before ++ i ∷ [])
instr_more places o i before is body are =
    subst (λ os. AllZip (IsInstrOf places) os (before ++ i ∷ [])) (sym (flat_map-append operation_in body (Does o ∷ [])))
    (zip_more (IsInstrOf places) (flat_map operation_in body) before o i are is)

pub line_more : (places : Places) (line : Line) (before : List Instr) → operation_in line ≡ [] → HasOneMore places line before before
line_more places line before none body are =
    subst (λ os. AllZip (IsInstrOf places) os before)
    (sym (flat_map-append operation_in body (line ∷ []) ∙ (ap (λ os. flat_map operation_in body ++ (os ++ [])) none ∙ append-nil (flat_map operation_in body)))) are

-- ---- line by line

split : (lines : List the_line.Line) (i : ℕ) (line : the_line.Line) → i < length lines → line ≡ get_or lines i line → map line_view (take (i + 1) lines) ≡ map line_view (take i lines) ++ line_view line ∷ []
split lines i line within is =
    ap (map line_view) (take_more lines i line within ∙ ap (λ l. take i lines ++ l ∷ []) (sym is)) ∙ map-append line_view (take i lines) (line ∷ [])

pub one_line_more : (places : Places) (lines : List the_line.Line) (i : ℕ) (line : the_line.Line) (before now : List Instr) → i < length lines → line ≡ get_or lines i line
    → AreInstrsOf places (map line_view (take i lines)) before → HasOneMore places (line_view line) before now → AreInstrsOf places (map line_view (take (i + 1) lines)) now
one_line_more places lines i line before now within is are more =
    subst (λ ls. AreInstrsOf places ls now) (sym (split lines i line within is)) (more (map line_view (take i lines)) are)

pub proper_at : (places : Places) (lines : List the_line.Line) (i : ℕ) (line : the_line.Line) → i < length lines → line ≡ get_or lines i line
    → AreProperIn places (flat_map operation_in (map line_view lines)) → AreProperIn places (operation_in (line_view line))
proper_at places [] i line within is proper = absurd (omega (arith, within))
proper_at places (first ∷ lines) zero line within is proper =
    subst (λ (l : the_line.Line). AreProperIn places (operation_in (line_view l))) (sym is) (each_first (IsProperIn places) (operation_in (line_view first)) (flat_map operation_in (map line_view lines)) proper)
proper_at places (first ∷ lines) (suc i) line within is proper =
    proper_at places lines i line (omega (arith, within)) is (each_last (IsProperIn places) (operation_in (line_view first)) (flat_map operation_in (map line_view lines)) proper)

pub all_lines : (places : Places) (lines : List the_line.Line) (i : ℕ) (code : List Instr) → length lines ≤ i
    → AreInstrsOf places (map line_view (take i lines)) code → AreInstrsOf places (map line_view lines) code
all_lines places lines i code past are = subst (λ (ls : List the_line.Line). AreInstrsOf places (map line_view ls) code) (take_all i lines past) are

-- ---- ranges

pub ranges_more : (places : Places) (lines : List the_line.Line) (i : ℕ) (line : the_line.Line) (before now : List Protected) → i < length lines → line ≡ get_or lines i line
    → before ≡ flat_map (ranges_in places) (map line_view (take i lines)) → now ≡ before ++ ranges_in places (line_view line)
    → now ≡ flat_map (ranges_in places) (map line_view (take (i + 1) lines))
ranges_more places lines i line before now within is e f =
    let here = map line_view (take i lines) in
    f ∙ (ap (λ rs. rs ++ ranges_in places (line_view line)) e
    ∙ (ap (λ rs. flat_map (ranges_in places) here ++ rs) (sym (append-nil (ranges_in places (line_view line))))
    ∙ (sym (flat_map-append (ranges_in places) here (line_view line ∷ []))
    ∙ ap (flat_map (ranges_in places)) (sym (split lines i line within is)))))

pub ranges_all : (places : Places) (lines : List the_line.Line) (i : ℕ) (ranges : List Protected) → length lines ≤ i
    → ranges ≡ flat_map (ranges_in places) (map line_view (take i lines)) → ranges ≡ flat_map (ranges_in places) (map line_view lines)
ranges_all places lines i ranges past e = e ∙ ap (λ (ls : List the_line.Line). flat_map (ranges_in places) (map line_view ls)) (take_all i lines past)

-- ---- frames

-- the frame of the first line, and those of the rest
frames_first : (places : Places) (number : ℕ) (line : Line) (lines : List Line) → frames_in places number (line ∷ lines) ≡ framed places number line ++ frames_in places (number_after line number) lines
unfolding frames_in
frames_first places number (Framed frame) lines = refl
frames_first places number (Does operation) lines = ap (λ (n : ℕ). frames_in places n lines) (omega arith)
frames_first places number line lines = refl

-- the frames so far, and those of the lines that are left
pub frames_more : (places : Places) (lines : List the_line.Line) (i number : ℕ) (line : the_line.Line) (before now : List frames.Frame) → i < length lines → line ≡ get_or lines i line
    → now ≡ before ++ framed places number (line_view line)
    → now ++ frames_in places (number_after (line_view line) number) (map line_view (drop (i + 1) lines)) ≡ before ++ frames_in places number (map line_view (drop i lines))
frames_more places lines i number line before now within is e =
    let after = frames_in places (number_after (line_view line) number) (map line_view (drop (i + 1) lines)) in
    let rest : drop i lines ≡ line ∷ drop (i + 1) lines = drop_more lines i line within ∙ ap (λ l. l ∷ drop (i + 1) lines) (sym is) in
    ap (λ fs. fs ++ after) e
    ∙ (append_assoc before (framed places number (line_view line)) after
    ∙ ap (λ fs. before ++ fs) (sym (ap (λ (ls : List the_line.Line). frames_in places number (map line_view ls)) rest ∙ frames_first places number (line_view line) (map line_view (drop (i + 1) lines)))))

pub frames_all : (places : Places) (lines : List the_line.Line) (i number : ℕ) (fs : List frames.Frame) → length lines ≤ i
    → fs ++ frames_in places number (map line_view (drop i lines)) ≡ fs
unfolding frames_in
frames_all places lines i number fs past =
    ap (λ (ls : List the_line.Line). fs ++ frames_in places number (map line_view ls)) (drop_all i lines past) ∙ append-nil fs
