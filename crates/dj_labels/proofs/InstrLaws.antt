-- The pass over the instructions, with the targets so far replaced.
use Rattle.std.proofs.Common.{◌≡◌, ℕ, ◌+◌, ◌<◌, ◌≤◌, List, [], ◌∷◌, ◌++◌, length, take, set, get_or, Some, refl, sym, ap, subst, ◌∙◌, arith}
use Rattle.std.specs.List.{AllByRecursion}
use Rattle.std.proofs.lemmas.List.{map_push, take_more, take_more_set, take_all, length-set, get_or-set_other}
use Rattle.std.proofs.lemmas.Option.{slice_get-get_or}
use Rattle.dj_ops.specs.declared.instruction.Instr.{Instr}
use Rattle.dj_ops.specs.declared.instruction.Instr.TheVariants as instrs
use Rattle.dj_labels.specs.declared.errors.CodeError.{CodeError}
use Rattle.dj_labels.specs.declared.errors.CodeError.TheVariants as errors
use Rattle.dj_labels.specs.trusted.Targets.{targets_of, with_targets}
use Rattle.dj_labels.specs.trusted.Labels.{HasNumbers, address_of, addressed}
use Rattle.dj_labels.specs.Faults.{HasStarts}
use Rattle.dj_labels.specs.Passes.{IsInstrOf, LacksStart, AreNumbered, IsNumberingFault}
use Rattle.dj_labels.proofs.Lists.{each_more}
use Rattle.dj_labels.proofs.Numbers.{have_starts}

-- this many of the instructions, with numbers for targets
pub record DoneUpTo (starts : List ℕ) (instrs : List Instr) (count : ℕ) (numbered : List Instr) : Type 0 where
  pub done : addressed starts numbered ≡ take count instrs
  pub each : AllByRecursion (HasNumbers (length starts)) numbered

pub done_none : (starts : List ℕ) (instrs : List Instr) → DoneUpTo starts instrs 0 []
done_none starts instrs = record { done = refl; each = tt }

pub done_more : (starts : List ℕ) (instrs : List Instr) (i : ℕ) (numbered : List Instr) (instr one : Instr) → i < length instrs → instr ≡ get_or instrs i instr → DoneUpTo starts instrs i numbered → IsInstrOf starts instr one → DoneUpTo starts instrs (i + 1) (numbered ++ one ∷ [])
done_more starts instrs i numbered instr one lt here h is = record {
  done =
      map_push (with_targets (address_of starts)) numbered one
      ∙ ap (λ (l : List Instr). l ++ with_targets (address_of starts) one ∷ []) h.done
      ∙ ap (λ (x : Instr). take i instrs ++ x ∷ []) (is.start ∙ here)
      ∙ sym (take_more instrs i instr lt);
  each = each_more (HasNumbers (length starts)) numbered one h.each is.each;
}

pub done_fault : (starts : List ℕ) (instrs : List Instr) (i at : ℕ) (numbered : List Instr) (instr : Instr) (e : CodeError) → i < length starts → at ≡ get_or starts i at → i < length instrs → instr ≡ get_or instrs i instr → DoneUpTo starts instrs i numbered → LacksStart starts at (targets_of instr) e → IsNumberingFault starts instrs e
done_fault starts instrs i at numbered instr (errors.Target address) some there lt here h fault = record {
  number = i;
  stands_at = slice_get-get_or starts i at some ∙ ap (λ (n : ℕ). Some n) (sym there ∙ sym fault.0);
  instr = instr;
  first = record {
    found = slice_get-get_or instrs i instr lt ∙ ap (λ (x : Instr). Some x) (sym here);
    lacks = fault.1;
    before = subst (AllByRecursion (HasStarts starts)) h.done (have_starts starts numbered h.each);
  };
}
done_fault starts instrs i at numbered instr (errors.Op address) some there lt here h fault = fault
done_fault starts instrs i at numbered instr (errors.Range number) some there lt here h fault = fault
done_fault starts instrs i at numbered instr errors.Memory some there lt here h fault = tt

pub done_all : (starts : List ℕ) (instrs : List Instr) (i : ℕ) (numbered : List Instr) → length instrs ≤ i → DoneUpTo starts instrs i numbered → AreNumbered starts instrs numbered
done_all starts instrs i numbered past h = record { each = h.each; start = h.done ∙ take_all i instrs past }

-- ---- the instructions in their places

-- the first instructions have numbers for targets, this many, and the others are as they were
pub record NumberedUpTo (starts : List ℕ) (old now : List Instr) (count : ℕ) : Type 0 where
  pub same : length now ≡ length old
  pub done : DoneUpTo starts old count (take count now)
  pub rest : (i : ℕ) (none : Instr) → count ≤ i → get_or now i none ≡ get_or old i none

pub numbered_none : (starts : List ℕ) (instrs : List Instr) → NumberedUpTo starts instrs instrs 0
numbered_none starts instrs = record { same = refl; done = done_none starts instrs; rest = λ i none le. refl }

pub numbered_more : (starts : List ℕ) (old now : List Instr) (i : ℕ) (instr one : Instr) → i < length old → instr ≡ get_or now i instr → NumberedUpTo starts old now i → IsInstrOf starts instr one → NumberedUpTo starts old (set now i one) (i + 1)
numbered_more starts old now i instr one lt here h is = record {
  same = length-set now i one ∙ h.same;
  done =
      subst (DoneUpTo starts old (i + 1)) (sym (take_more_set now i one (omega (arith, lt, h.same))))
      (done_more starts old i (take i now) instr one lt (here ∙ h.rest i instr (omega arith)) h.done is);
  rest = λ j none le. get_or-set_other now i j one none (λ e. absurd (omega (arith, le, e))) ∙ h.rest j none (omega (arith, le));
}

pub numbered_fault : (starts : List ℕ) (old now : List Instr) (i at : ℕ) (instr : Instr) (e : CodeError) → i < length starts → at ≡ get_or starts i at → i < length old → instr ≡ get_or now i instr → NumberedUpTo starts old now i → LacksStart starts at (targets_of instr) e
    → IsNumberingFault starts old e
numbered_fault starts old now i at instr e some there lt here h fault = done_fault starts old i at (take i now) instr e some there lt (here ∙ h.rest i instr (omega arith)) h.done fault

pub numbered_all : (starts : List ℕ) (old now : List Instr) (i : ℕ) → length old ≤ i → NumberedUpTo starts old now i → AreNumbered starts old now
numbered_all starts old now i past h = subst (AreNumbered starts old) (take_all i now (omega (arith, past, h.same))) (done_all starts old i (take i now) past h.done)

-- ---- an instruction without targets

pub without_targets : (starts : List ℕ) (instr : Instr) → targets_of instr ≡ [] → IsInstrOf starts instr instr
without_targets starts (instrs.Simple op) none = record { each = tt; start = refl }
without_targets starts (instrs.Push op value) none = record { each = tt; start = refl }
without_targets starts (instrs.Literal op index) none = record { each = tt; start = refl }
without_targets starts (instrs.Local op slot wide) none = record { each = tt; start = refl }
without_targets starts (instrs.Inc slot by wide) none = record { each = tt; start = refl }
without_targets starts (instrs.Branch op target) none = absurd cc
without_targets starts (instrs.Table low default targets) none = absurd cc
without_targets starts (instrs.Lookup default pairs) none = absurd cc
without_targets starts (instrs.Member op index) none = record { each = tt; start = refl }
without_targets starts (instrs.Interface index count) none = record { each = tt; start = refl }
without_targets starts (instrs.Dynamic index) none = record { each = tt; start = refl }
without_targets starts (instrs.Class op index) none = record { each = tt; start = refl }
without_targets starts (instrs.Array base) none = record { each = tt; start = refl }
without_targets starts (instrs.Multi index dims) none = record { each = tt; start = refl }
