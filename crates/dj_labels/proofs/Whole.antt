-- What is labelled and what is refused, for all of the code and its table.
use Rattle.std.proofs.Common.{◌≡◌, ℕ, ◌^◌, ◌<◌, inl, inr, List, [], ◌∷◌, ◌++◌, length, All, Result, Ok, Err, refl, sym, ap, subst, ◌∙◌, arith}
use Rattle.std.specs.List.{AllByRecursion}
use Rattle.std.proofs.lemmas.List.{length-map}
use Rattle.std.proofs.lemmas.List.Elements.{All-from_recursion}
use Rattle.dj_ops.specs.declared.instruction.Instr.{Instr}
use Rattle.dj_ops.specs.declared.rows.CatchRow.{CatchRow}
use Rattle.dj_labels.specs.declared.labelled.Protected.{Protected}
use Rattle.dj_labels.specs.declared.labelled.Labelled.{Labelled}
use Rattle.dj_labels.specs.declared.errors.CodeError.{CodeError}
use Rattle.dj_labels.specs.declared.errors.CodeError.TheVariants as errors
use Rattle.dj_labels.specs.trusted.Labels.{IsCut, HasNumbers, IsRange, addressed, IsLabelled}
use Rattle.dj_labels.specs.Faults.{Refuses, IsRefused, Yields}
use Rattle.dj_labels.specs.Passes.{AreStarts, IsStartsFault, IsRising, AreNumbered, IsNumberingFault, AreInstrs, AreRangesOf, IsRowsFault}
use Rattle.dj_labels.proofs.Cuts.{as_many, starts_rise, starts_within, few_starts}
use Rattle.dj_labels.proofs.Numbers.{have_starts, bounds_rise}
use Rattle.dj_labels.proofs.Once.{one_labelling_is, no_labels, one_fault_is}

-- ---- what the table of starts asks

pub are_starts : (code starts : List ℕ) (instrs : List Instr) → IsCut code starts instrs (length code) → AreStarts code starts
are_starts code starts instrs cut = record { instrs = instrs; cut = cut }

pub all_rise : (code starts : List ℕ) → AreStarts code starts → IsRising starts
all_rise code starts are = starts_rise code starts are.instrs (length code) are.cut

pub all_within : (code starts : List ℕ) → AreStarts code starts → All (λ start. start < length code) starts
all_within code starts are = All-from_recursion (λ start. start < length code) starts (starts_within code starts are.instrs (length code) are.cut)

pub bounds_all_rise : (code starts : List ℕ) → AreStarts code starts → IsRising (starts ++ length code ∷ [])
bounds_all_rise code starts are = bounds_rise starts (length code) (all_rise code starts are) (starts_within code starts are.instrs (length code) are.cut)

pub few : (code starts : List ℕ) → length code < 2 ^ 16 → AreStarts code starts → length starts < 2 ^ 32
few code starts small are = let count = few_starts code starts are.instrs (length code) are.cut in omega (arith, small, count)

-- ---- the parts together

pub labelled : (code : List ℕ) (table : List CatchRow) (starts : List ℕ) (instrs : List Instr) (ranges : List Protected) → AreInstrs code starts instrs → AreRangesOf starts (length code) table ranges → IsLabelled code table (record { code = instrs; ranges = ranges })
labelled code table starts instrs ranges h r =
    let many : length starts ≡ length instrs = as_many code starts (addressed starts instrs) (length code) h.cut.each ∙ length-map instrs _ in
    record {
      starts = starts;
      cut = h.cut;
      targets = subst (λ (n : ℕ). AllByRecursion (HasNumbers n) instrs) many h.each;
      rows = sym r.rows_are;
      ranges = subst (λ (n : ℕ). AllByRecursion (IsRange n) ranges) many r.good;
    }

pub starts_fault : (code : List ℕ) (table : List CatchRow) (e : CodeError) → IsStartsFault code e → IsRefused code table e
starts_fault code table (errors.Op at) h = h
starts_fault code table (errors.Target at) h = absurd h
starts_fault code table (errors.Range number) h = absurd h
starts_fault code table errors.Memory h = tt

pub are_instrs : (code starts : List ℕ) (instrs numbered : List Instr) → IsCut code starts instrs (length code) → AreNumbered starts instrs numbered → AreInstrs code starts numbered
are_instrs code starts instrs numbered cut h = record { cut = subst (λ (l : List Instr). IsCut code starts l (length code)) (sym h.start) cut; each = h.each }

pub numbering_fault : (code : List ℕ) (table : List CatchRow) (starts : List ℕ) (instrs : List Instr) (e : CodeError) → IsCut code starts instrs (length code) → IsNumberingFault starts instrs e → IsRefused code table e
numbering_fault code table starts instrs (errors.Op at) cut fault = absurd fault
numbering_fault code table starts instrs (errors.Target at) cut fault =
    record { starts = starts; instrs = instrs; cut = cut; number = fault.number; stands_at = fault.stands_at; instr = fault.instr; first = fault.first }
numbering_fault code table starts instrs (errors.Range number) cut fault = absurd fault
numbering_fault code table starts instrs errors.Memory cut fault = tt

pub rows_fault : (code : List ℕ) (table : List CatchRow) (starts : List ℕ) (instrs : List Instr) (e : CodeError) → AreInstrs code starts instrs → IsRowsFault starts (length code) table e → IsRefused code table e
rows_fault code table starts instrs (errors.Op at) h fault = absurd fault
rows_fault code table starts instrs (errors.Target at) h fault = absurd fault
rows_fault code table starts instrs (errors.Range number) h fault = record {
  starts = starts;
  instrs = addressed starts instrs;
  cut = h.cut;
  targets = have_starts starts instrs h.each;
  row = fault.row;
  first = fault.first;
}
rows_fault code table starts instrs errors.Memory h fault = tt

-- ---- want of memory aside

abbrev pub AllLabelled : List ℕ → List CatchRow → Result Labelled CodeError → Type 0
AllLabelled code table r = (l : Labelled) → IsLabelled code table l → Yields r (Ok l)

abbrev pub AllRefused : List ℕ → List CatchRow → Result Labelled CodeError → Type 0
AllRefused code table r = (e : CodeError) → Refuses code table e → Yields r (Err e)

pub labelled_all_labelled : (code : List ℕ) (table : List CatchRow) (l : Labelled) → IsLabelled code table l → AllLabelled code table (Ok l)
labelled_all_labelled code table l h m k = inl (ap (λ (x : Labelled). Ok x) (one_labelling_is code table l m h k))

pub labelled_all_refused : (code : List ℕ) (table : List CatchRow) (l : Labelled) → IsLabelled code table l → AllRefused code table (Ok l)
labelled_all_refused code table l h e fault = absurd (no_labels code table l e h fault)

pub refused_all_labelled : (code : List ℕ) (table : List CatchRow) (e : CodeError) → IsRefused code table e → AllLabelled code table (Err e)
refused_all_labelled code table (errors.Op at) h l k = absurd (no_labels code table l (errors.Op at) k h)
refused_all_labelled code table (errors.Target at) h l k = absurd (no_labels code table l (errors.Target at) k h)
refused_all_labelled code table (errors.Range number) h l k = absurd (no_labels code table l (errors.Range number) k h)
refused_all_labelled code table errors.Memory h l k = inr refl

pub refused_all_refused : (code : List ℕ) (table : List CatchRow) (e : CodeError) → IsRefused code table e → AllRefused code table (Err e)
refused_all_refused code table (errors.Op at) h d fault = inl (ap (λ (x : CodeError). Err x) (one_fault_is code table (errors.Op at) d h fault))
refused_all_refused code table (errors.Target at) h d fault = inl (ap (λ (x : CodeError). Err x) (one_fault_is code table (errors.Target at) d h fault))
refused_all_refused code table (errors.Range number) h d fault = inl (ap (λ (x : CodeError). Err x) (one_fault_is code table (errors.Range number) d h fault))
refused_all_refused code table errors.Memory h d fault = inr refl
