use Rattle.std.proofs.Common.{◌≡◌, ℕ, ◌<◌, ◌≤◌, List, [], ◌∷◌, ◌++◌, map, length, get_or, Ok, sym, ap, ap₂, subst, subst₂, ◌∙◌, arith, inl}
use Rattle.std.specs.List.{AllByRecursion}
use Rattle.std.proofs.lemmas.Result.{err_from_is_err_and}
use Rattle.dj_ops.specs.declared.instruction.Instr.{Instr}
use Rattle.dj_labels.specs.declared.labelled.Protected.{Protected}
use Rattle.dj_labels.specs.trusted.Labels.{IsRange, row_of}
use Rattle.dj_layout.specs.declared.laid.Laid.{Laid}
use Rattle.dj_layout.specs.trusted.Places.{starts_from, end_from}
use Rattle.dj_layout.specs.trusted.Layouts.{most_bytes}
use Rattle.dj_layout.specs.Passes.{ArePlaces, AreBytes}
use Rattle.dj_layout.proofs.Ends.{starts_length}
use Rattle.dj_layout.proofs.Once.{no_code_where_refused_is, one_layout_is}
use Rattle.dj_layout.proofs.Passing.{starts_many, start_short}
use Rattle.dj_layout.proofs.Laying.{place_refused, bytes_refused, not_laid, that_refused, rows_with, passes_lay_out}
use Rattle.dj_layout.proofs.layout.lay_out.Goals as goal

pub returns-in_err-starts-clause-all_laid : goal.returns-in_err-starts-clause-all_laid
returns-in_err-starts-clause-all_laid c laid h =
    let p = err_from_is_err_and c.from_residual.result c.from_residual.ensures.1 in
    rw (p.1, p.2) (not_laid c.args.code.now c.in_err-starts.field-0.0 laid (place_refused c.args.code.now c.as_slice-instrs.result.now c.in_err-starts.field-0.0 c.as_slice-instrs.ensures c.in_err-starts.ensures.refused) h)

pub returns-in_err-starts-clause-all_refused : goal.returns-in_err-starts-clause-all_refused
returns-in_err-starts-clause-all_refused c e h =
    let p = err_from_is_err_and c.from_residual.result c.from_residual.ensures.1 in
    rw (p.1, p.2) (that_refused c.args.code.now c.in_err-starts.field-0.0 e (place_refused c.args.code.now c.as_slice-instrs.result.now c.in_err-starts.field-0.0 c.as_slice-instrs.ensures c.in_err-starts.ensures.refused) h)

pub returns-in_err-bytes-clause-all_laid : goal.returns-in_err-bytes-clause-all_laid
returns-in_err-bytes-clause-all_laid c laid h =
    let p = err_from_is_err_and c.from_residual-in_err-bytes.result c.from_residual-in_err-bytes.ensures.1 in
    rw (p.1, p.2) (not_laid c.args.code.now c.in_err-bytes.field-0.0 laid (bytes_refused c.args.code.now c.as_slice-instrs.result.now c.deref.result.now c.in_ok-starts.size c.in_err-bytes.field-0.0 c.as_slice-instrs.ensures
    (subst (λ (s : List ℕ). ArePlaces c.as_slice-instrs.result.now s c.in_ok-starts.size) (sym c.deref.ensures.value) c.in_ok-starts.ensures.placed) c.in_err-bytes.ensures.refused) h)

pub returns-in_err-bytes-clause-all_refused : goal.returns-in_err-bytes-clause-all_refused
returns-in_err-bytes-clause-all_refused c e h =
    let p = err_from_is_err_and c.from_residual-in_err-bytes.result c.from_residual-in_err-bytes.ensures.1 in
    rw (p.1, p.2) (that_refused c.args.code.now c.in_err-bytes.field-0.0 e (bytes_refused c.args.code.now c.as_slice-instrs.result.now c.deref.result.now c.in_ok-starts.size c.in_err-bytes.field-0.0 c.as_slice-instrs.ensures
    (subst (λ (s : List ℕ). ArePlaces c.as_slice-instrs.result.now s c.in_ok-starts.size) (sym c.deref.ensures.value) c.in_ok-starts.ensures.placed) c.in_err-bytes.ensures.refused) h)

pub rows_of-requires-clause-ranges : goal.rows_of-requires-clause-ranges
rows_of-requires-clause-ranges c =
    let instrs = c.as_slice-instrs.result.now in
    let many : length c.deref-2.result.now ≡ length c.args.code.now.code =
    ap length c.deref-2.ensures.value ∙ starts_many instrs c.in_ok-starts.starts.items c.in_ok-starts.ensures.placed.starts_are ∙ ap length c.as_slice-instrs.ensures in
    subst₂ (λ (n : ℕ) (l : List Protected). AllByRecursion (IsRange n) l) (sym many) (sym c.as_slice.ensures) c.requires.ranges

pub rows_of-requires-clause-starts : goal.rows_of-requires-clause-starts
rows_of-requires-clause-starts c k d lt =
    let instrs : List Instr = c.as_slice-instrs.result.now in
    let places = c.in_ok-starts.ensures.placed in
    let same : c.deref-2.result.now ≡ starts_from 0 instrs = c.deref-2.ensures.value ∙ places.starts_are in
    let within : k < length instrs = omega (arith, lt, ap length same, starts_length 0 instrs) in
    let short : end_from 0 instrs ≤ most_bytes = omega (arith, places.end_is, places.short) in
    subst (λ (s : List ℕ). get_or s k d ≤ most_bytes) (sym same) (start_short instrs k d within short)

pub returns-clause-laid : goal.returns-clause-laid
returns-clause-laid c =
    let instrs : List Instr = c.as_slice-instrs.result.now in
    let starts : List ℕ = c.in_ok-starts.starts.items in
    let size : ℕ = c.in_ok-starts.size in
    let written : AreBytes starts instrs c.in_ok-bytes.bytes.items = subst (λ (s : List ℕ). AreBytes s instrs c.in_ok-bytes.bytes.items) c.deref.ensures.value c.in_ok-bytes.ensures.bytes in
    let rows : c.in_ok-table.table ≡ rows_with starts size c.args.code.now = c.in_ok-table.ensures ∙ ap₂ (λ (s : List ℕ) (l : List Protected). map (row_of (s ++ size ∷ [])) l) c.deref-2.ensures.value c.as_slice.ensures in
    passes_lay_out c.args.code.now instrs starts size c.in_ok-bytes.bytes.items c.in_ok-table.table c.from.result c.from_vec.result c.requires c.as_slice-instrs.ensures c.in_ok-starts.ensures.placed written rows c.from.ensures c.from_vec.ensures

pub returns-clause-all_laid : goal.returns-clause-all_laid
returns-clause-all_laid c laid h =
    inl (ap (λ (l : Laid). Ok l) (one_layout_is c.args.code.now _ laid (returns-clause-laid c) h))

pub returns-clause-all_refused : goal.returns-clause-all_refused
returns-clause-all_refused c e h =
    let laid = returns-clause-laid c in
    absurd (no_code_where_refused_is c.args.code.now _ _ e laid.short laid.labels h)
