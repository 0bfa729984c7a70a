-- What the passes give is the layout, and what they refuse has its cause.
use Rattle.std.proofs.Common.{◌≡◌, ℕ, ℤ, List, [], ◌∷◌, ◌++◌, map, zip, length, Ok, Err, refl, sym, ap, subst, subst₂, ◌∙◌, arith, inl, inr}
use Rattle.std.specs.List.{flat_map, AllByRecursion}
use Rattle.dj_ops.specs.declared.instruction.Instr.{Instr}
use Rattle.dj_ops.specs.declared.rows.CatchRow.{CatchRow}
use Rattle.dj_labels.specs.declared.labelled.Labelled.{Labelled}
use Rattle.dj_labels.specs.trusted.Targets.{with_targets}
use Rattle.dj_labels.specs.trusted.Labels.{first_of, StandUpTo, IsCut, address_of, addressed, row_of}
use Rattle.dj_labels.specs.Labels.{IsWellFormed}
use Rattle.dj_layout.specs.declared.laid.Laid.{Laid}
use Rattle.dj_layout.specs.declared.errors.LayError.{LayError}
use Rattle.dj_layout.specs.declared.errors.LayError.TheVariants as errors
use Rattle.dj_layout.specs.trusted.Places.{starts_from, end_from}
use Rattle.dj_layout.specs.trusted.Layouts.{placed, placed_bytes, IsLaidOut}
use Rattle.dj_layout.specs.trusted.Faults.{Reaches}
use Rattle.dj_layout.specs.Faults.{Refuses, IsRefused, Yields}
use Rattle.dj_layout.specs.Passes.{ArePlaces, AreBytes, IsPlaceFault, IsByteFault}
use Rattle.dj_layout.proofs.Standing.{placed_from, text_from, first_is, stand_from, text_length}
use Rattle.dj_layout.proofs.Once.{no_code_where_refused_is, one_fault_is}

-- ---- refusals

pub place_refused : (labelled : Labelled) (instrs : List Instr) (e : LayError) → instrs ≡ labelled.code → IsPlaceFault instrs e → IsRefused labelled e
place_refused labelled instrs (errors.TooLong number) same h = subst (λ (l : List Instr). IsPlaceFault l (errors.TooLong number)) same h
place_refused labelled instrs (errors.Far number) same h = absurd h
place_refused labelled instrs errors.Memory same h = tt

pub bytes_refused : (labelled : Labelled) (instrs : List Instr) (starts : List ℕ) (size : ℕ) (e : LayError) → instrs ≡ labelled.code → ArePlaces instrs starts size → IsByteFault starts instrs e → IsRefused labelled e
bytes_refused labelled instrs starts size (errors.TooLong number) same places h = absurd h
bytes_refused labelled instrs starts size (errors.Far number) same places h =
    let fault : IsByteFault (starts_from 0 instrs) instrs (errors.Far number) = subst (λ (s : List ℕ). IsByteFault s instrs (errors.Far number)) places.starts_are h in
    subst (λ (l : List Instr). Refuses (record { code = l; ranges = labelled.ranges }) (errors.Far number)) same
    (record { short = omega (arith, places.end_is, places.short); jump = fault.jump; first = fault.first })
bytes_refused labelled instrs starts size errors.Memory same places h = tt

pub not_laid : (labelled : Labelled) (e : LayError) (laid : Laid) → IsRefused labelled e → IsLaidOut labelled laid → Yields (Err e) (Ok laid)
not_laid labelled (errors.TooLong number) laid refused h = absurd (no_code_where_refused_is labelled laid.code laid.table (errors.TooLong number) h.short h.labels refused)
not_laid labelled (errors.Far number) laid refused h = absurd (no_code_where_refused_is labelled laid.code laid.table (errors.Far number) h.short h.labels refused)
not_laid labelled errors.Memory laid refused h = inr refl

pub that_refused : (labelled : Labelled) (e d : LayError) → IsRefused labelled e → Refuses labelled d → Yields (Err e) (Err d)
that_refused labelled (errors.TooLong number) d refused h = inl (ap (λ (x : LayError). Err x) (one_fault_is labelled (errors.TooLong number) d refused h))
that_refused labelled (errors.Far number) d refused h = inl (ap (λ (x : LayError). Err x) (one_fault_is labelled (errors.Far number) d refused h))
that_refused labelled errors.Memory d refused h = inr refl

-- ---- the layout

abbrev pub rows_with : List ℕ → ℕ → Labelled → List CatchRow
rows_with starts size labelled = map (row_of (starts ++ size ∷ [])) labelled.ranges

pub laid_out : (labelled : Labelled) (starts : List ℕ) (size : ℕ) (bytes : List ℕ) (table : List CatchRow) → IsWellFormed labelled → ArePlaces labelled.code starts size → AreBytes starts labelled.code bytes
    → table ≡ rows_with starts size labelled → IsLaidOut labelled (record { code = bytes; starts = starts; table = table })
laid_out labelled starts size bytes table formed places written rows =
    let f : ℤ → ℤ = address_of starts in
    let code : List Instr = labelled.code in
    let same : placed starts code ≡ placed_from f 0 code = ap (λ (s : List ℕ). zip s (map (with_targets f) code)) places.starts_are in
    let text : bytes ≡ text_from f 0 code = written.bytes_are ∙ ap (flat_map placed_bytes) same in
    let many : length bytes ≡ end_from 0 code = omega (arith, ap length text, text_length f 0 code) in
    let size_is : size ≡ length bytes = places.end_is ∙ sym many in
    let reach : AllByRecursion Reaches (placed_from f 0 code) = subst (AllByRecursion Reaches) same written.reach in
    let stand : StandUpTo bytes (starts_from 0 code) (map (with_targets f) code) (end_from 0 code) = stand_from f bytes [] 0 code refl formed.proper reach text in
    let cut : IsCut bytes starts (addressed starts code) (length bytes) = record {
      first = subst₂ (λ (s : List ℕ) (n : ℕ). first_of s n ≡ 0) (sym places.starts_are) (sym many) (first_is 0 code);
      each = subst₂ (λ (s : List ℕ) (n : ℕ). StandUpTo bytes s (map (with_targets f) code) n) (sym places.starts_are) (sym many) stand;
    } in
    let table_is : table ≡ rows_with starts (length bytes) labelled = rows ∙ ap (λ (n : ℕ). rows_with starts n labelled) size_is in
    record {
      starts = places.starts_are;
      code = written.bytes_are;
      short = omega (arith, size_is, places.short);
      table = table_is;
      labels = record { starts = starts; cut = cut; targets = formed.targets; rows = table_is; ranges = formed.ranges };
    }

-- the same for what the passes lend one another
pub passes_lay_out : (labelled : Labelled) (instrs : List Instr) (starts : List ℕ) (size : ℕ) (bytes : List ℕ) (table : List CatchRow) (code' starts' : List ℕ) → IsWellFormed labelled → instrs ≡ labelled.code
    → ArePlaces instrs starts size → AreBytes starts instrs bytes → table ≡ rows_with starts size labelled → code' ≡ bytes → starts' ≡ starts → IsLaidOut labelled (record { code = code'; starts = starts'; table = table })
passes_lay_out labelled instrs starts size bytes table code' starts' formed same places written rows code_is starts_is =
    subst₂ (λ (c s : List ℕ). IsLaidOut labelled (record { code = c; starts = s; table = table })) (sym code_is) (sym starts_is)
    (laid_out labelled starts size bytes table formed
    (subst (λ (l : List Instr). ArePlaces l starts size) same places)
    (subst (λ (l : List Instr). AreBytes starts l bytes) same written) rows)
