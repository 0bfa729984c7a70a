-- The laws of the model, from the lemmas.
use Rattle.std.proofs.Common.{◌≡◌, [], ◌++◌, refl, sym, ap, ◌∙◌}
use Rattle.std.specs.Option.{option_map}
use Rattle.dj_names.specs.declared.descriptor.Desc.{Desc}
use Rattle.dj_names.specs.trusted.Types.{Name}
use Rattle.dj_names.specs.Types.{desc_map}
use Rattle.dj_model.specs.trusted.Types.{Prefix}
use Rattle.dj_model.specs.Instructions.{instruction_map}
use Rattle.dj_model.specs.trusted.Program.{Program, Code, class_at}
use Rattle.dj_model.specs.Program.{class_map, program_map}
use Rattle.dj_model.specs.trusted.Linking.{static_place}
use Rattle.dj_model.specs.trusted.Effects.{effect, used_class}
use Rattle.dj_model.specs.Effects.{pays}
use Rattle.dj_model.specs.Mapping.{IsNameMap, same_names_map}
use Rattle.dj_model.specs.Laws.{IsMapped, CommutesWithNames, ReadsNoCode, StepCommutesWithNames, RunsCommuteWithNames, SandboxHasNames, HasFewFrames, InitialisesOnce, HasOneEnd, IsJudged, HeapsGrow, CostsStayWithin, PaysFirst, KeepsKinds, StepsAreMade, RunsStaySound, AnswersHaveKinds}
use Rattle.dj_model.specs.SmallRuns.{WorkedRuns}
use Rattle.dj_model.proofs.Frames.{begin_few, step_few, marked}
use Rattle.dj_model.proofs.Once.{not_yet, all_differ, stays, step_begins, step_pushes, run_begins}
use Rattle.dj_model.proofs.OneEnd.{same_end}
use Rattle.dj_model.proofs.Paying.{step_clears, unpaid_pays, paid_acts}
use Rattle.dj_model.proofs.MappedRuns.{begin_mapped, run_mapped}
use Rattle.dj_model.proofs.Shapes.{one_shape_fault, no_fault_with_shape, shape_or_fault}
use Rattle.dj_model.proofs.Growth.{grows_sum}
use Rattle.dj_model.proofs.StepFits.{steps_grow, begins_grow, turn_within, runs_within, step_reported, begin_reported, run_over}
use Rattle.dj_model.proofs.SoundCalls.{kinds_kept}
use Rattle.dj_model.proofs.SoundSteps.{step_made}
use Rattle.dj_model.proofs.SoundRuns.{step_stands, begin_stands, plain_stands, never_starved, turn_stands, metered_stands}
use Rattle.dj_model.proofs.QuietLibraries.{metered_asks_nothing, sandbox_asks_nothing}
use Rattle.dj_model.proofs.SoundNatives.{answer_kind}
use Rattle.dj_model.proofs.SmallRuns as rows
use Rattle.dj_model.proofs.MappedNames as names
use Rattle.dj_model.proofs.MappedEffects as effects
use Rattle.dj_model.proofs.MappedSteps as steps
use Rattle.dj_model.proofs.NameMaps.{prefix_at, prefix_statics, same_map, sandbox_map, accounter_apart, instruction_same, part_same, effect_same, option_same}

mapped_from : (f : Name → Name) (g : Code → Code) (p q : Prefix) (is : IsNameMap f p q) (program other : Program)
    → ((name : Name) → class_at other (f name) ≡ option_map (class_map f g) (class_at program name))
    → ((class name : Name) (desc : Desc) → static_place other (f class) name (desc_map f desc) ≡ static_place program class name desc)
    → IsMapped f p q program other
mapped_from f g p q is program other at statics = record {
  does = effects.effect_mapped f g p q is program other at statics;
  paid = effects.pays_alike f g p q is program other at statics;
  used = effects.used_mapped f g p q is program other at statics;
}

pub effect_commutes_with_names : CommutesWithNames
effect_commutes_with_names f g p q program prefix is apart = mapped_from f g p q is program (prefix ++ program_map f g program)
    (λ name. prefix_at f prefix (program_map f g program) apart name ∙ names.class_mapped f g p q is program name)
    (λ class name desc. prefix_statics f prefix (program_map f g program) apart class name (desc_map f desc) ∙ names.static_place_alike f g p q is program class name desc)

pub effect_reads_no_code : ReadsNoCode
effect_reads_no_code g p program =
    let m : IsMapped same_names_map p p program (program_map same_names_map g program) =
    effect_commutes_with_names same_names_map g p p program [] (same_map p) tt in
    record {
      does = λ terms own i x.
          ap (λ j. effect (program_map same_names_map g program) p terms own j x) (sym (instruction_same i))
          ∙ (ap (λ y. effect (program_map same_names_map g program) p terms own (instruction_map same_names_map i) y) (sym (part_same x))
          ∙ (m.does terms own i x ∙ effect_same (effect program p terms own i x)));
      paid = λ i operands. ap (λ j. pays (program_map same_names_map g program) p j operands) (sym (instruction_same i)) ∙ m.paid i operands;
      used = λ i. ap (λ j. used_class (program_map same_names_map g program) p j) (sym (instruction_same i)) ∙ (m.used i ∙ option_same same_names_map (λ x. refl) (used_class program p i));
    }

pub step_commutes_with_names : StepCommutesWithNames
step_commutes_with_names f p q program terms s is keeps = steps.step_mapped f p q is program terms keeps s

pub runs_commute_with_names : RunsCommuteWithNames
runs_commute_with_names = record {
  begins = λ f p q program terms entry input answers is keeps. begin_mapped f p q is program terms keeps entry input answers;
  runs = λ f p q program terms entry input answers most is keeps. run_mapped f p q is program terms keeps entry input answers most;
}

pub sandbox_has_names : SandboxHasNames
sandbox_has_names = (sandbox_map, accounter_apart)

pub worked_runs : WorkedRuns
worked_runs = record { metered = rows.metered; plain = rows.plain }

pub few_frames : HasFewFrames
few_frames = record { begins = begin_few; goes_on = step_few }

pub initialised_once : InitialisesOnce
initialised_once = record { not_before = not_yet; differ = all_differ; marked = marked; stays = stays; begun = step_begins; pushed = step_pushes; starts = run_begins }

pub one_end : HasOneEnd
one_end = same_end

pub shape_is_judged : IsJudged
shape_is_judged = record { one = one_shape_fault; none = no_fault_with_shape; decided = shape_or_fault }

pub heaps_grow : HeapsGrow
heaps_grow = record { steps = steps_grow; sums = grows_sum; begins = begins_grow }

pub costs_stay_within : CostsStayWithin
costs_stay_within = record { turns = turn_within; runs = runs_within; accounted = step_reported; accounted_begins = begin_reported; accounted_runs = run_over }

pub pays_first : PaysFirst
pays_first = record { unpaid = unpaid_pays; paid = paid_acts; cleared = step_clears }

pub keeps_kinds : KeepsKinds
keeps_kinds = kinds_kept

pub steps_are_made : StepsAreMade
steps_are_made program prefix terms s f below i signature code k left is stands at linked h room reported =
    step_made program prefix terms s f below i signature code k left is linked h room reported stands at

pub answers_have_kinds : AnswersHaveKinds
answers_have_kinds = answer_kind

pub runs_stay_sound : RunsStaySound
runs_stay_sound = record {
  begins = λ program prefix terms entry input answers is e. begin_stands program prefix is terms entry input answers e;
  steps = λ program prefix terms s is k. step_stands program prefix is terms s k;
  turns = λ program most s is k. turn_stands program is most s k;
  quiet = never_starved;
  plain = λ program prefix terms entry input answers most is e. plain_stands program prefix is terms entry input answers most e;
  metered = λ program entry input most n is quiet e. metered_stands program is quiet entry input most n e;
  metered_quiet = metered_asks_nothing;
  sandbox_quiet = sandbox_asks_nothing;
}
