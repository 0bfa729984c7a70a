-- The groups of the method's code, one after another.
use Rattle.std.proofs.Common.{◌≡◌, ℕ, ◌+◌, ◌<◌, ◌≤◌, Bool, false, Err, List, [], ◌∷◌, ◌++◌, map, take, length, get_or, Some, slice_get, refl, sym, ap, ap₂, subst, ◌∙◌, arith}
use Rattle.std.specs.List.{AllByRecursion}
use Rattle.std.proofs.lemmas.List.{get_or-map, get_or_default, take_more, take_all, map-append}
use Rattle.std.proofs.lemmas.Option.{slice_get-get_or}
use Rattle.dj_ops.specs.declared.instruction.Instr.{Instr}
use Rattle.dj_ops.specs.trusted.Instructions.{IsProper}
use Rattle.dj_labels.specs.declared.labelled.Protected.{Protected}
use Rattle.dj_labels.specs.declared.labelled.Labelled.{Labelled}
use Rattle.dj_labels.specs.Faults.{IsFirstWithout}
use Rattle.dj_model.specs.trusted.Instructions.{Instruction}
use Rattle.dj_model.specs.Runs.{starts_handler}
use Rattle.dj_groups.specs.Groups.{Group, group_of, groups_from, groups_of}
use Rattle.dj_program.specs.trusted.Codes.{code_in}
use Rattle.dj_image.specs.Imaged.{Imaged, program_of}
use Rattle.dj_image.specs.Codes.{code_at}
use Rattle.dj_emit.specs.declared.error.EmitError.{EmitError}
use Rattle.dj_emit.specs.declared.error.EmitError.TheVariants as errors
use Rattle.dj_emit.specs.declared.parts.GroupPart.{GroupPart}
use Rattle.dj_emit.specs.Parts.{group_seen, groups_seen}
use Rattle.dj_emit.specs.Arrivals.{handles, AreArrivals}
use Rattle.dj_emit.specs.Groups.{pooled_at, labelled_at, groups_at, IsKnownNew, FitsSipush, IsRefusal}
use Rattle.dj_emit.specs.Numbered.{named_at, IsCodeAt, StandsAt, PartAt}
use Rattle.dj_emit.proofs.Orders.{all_at, length_map}
use Rattle.dj_emit.proofs.ArrivalFacts.{handler_is}
use Rattle.dj_emit.proofs.PartFacts.{length_from, from_at, parts_fit}

module _ (imaged : Imaged) (method : ℕ) (labelled : Labelled) (code : IsCodeAt imaged method labelled) where
  -- the instruction of a number
  pub stands_at : (i : ℕ) (instr : Instr) → i < length labelled.code → instr ≡ get_or labelled.code i instr → StandsAt imaged method i instr
  stands_at i instr less is = record {
    own = code.own;
    stands = ap (λ (l : Labelled). slice_get l.code i) code.is ∙ slice_get-get_or labelled.code i instr less ∙ ap Some (sym is);
    proper = subst IsProper (sym is) (all_at IsProper labelled.code i instr code.well.proper less);
    known = subst (IsKnownNew (program_of imaged))
        (get_or-map (named_at imaged method) labelled.code i instr (named_at imaged method instr) less ∙ ap (named_at imaged method) (sym is))
        (all_at (IsKnownNew (program_of imaged)) (map (named_at imaged method) labelled.code) i (named_at imaged method instr) code.news (omega (arith, less, length_map (named_at imaged method) labelled.code)));
  }

  abbrev instructions : List Instruction
  instructions = map (named_at imaged method) labelled.code

  groups_are : groups_at imaged method ≡ groups_from (program_of imaged) (starts_handler (Some (code_in (pooled_at imaged method).pool (pooled_at imaged method).parts))) 0 instructions
  unfolding groups_of code_in
  groups_are = ap (λ (l : Labelled). groups_from (program_of imaged) (starts_handler (Some (code_in (pooled_at imaged method).pool (pooled_at imaged method).parts))) 0 (map (named_at imaged method) l.code)) code.is

  pub length_all : length (groups_at imaged method) ≡ length labelled.code
  length_all =
      ap length groups_are
      ∙ length_from (program_of imaged) (starts_handler (Some (code_in (pooled_at imaged method).pool (pooled_at imaged method).parts))) 0 instructions
      ∙ length_map (named_at imaged method) labelled.code

  group_is : (i : ℕ) (g : Group) (instr : Instr) (arrives : Bool) → i < length labelled.code → instr ≡ get_or labelled.code i instr → arrives ≡ handles labelled.ranges i
      → get_or (groups_at imaged method) i g ≡ group_of (program_of imaged) arrives (named_at imaged method instr)
  group_is i g instr arrives less is here =
      ap (λ (gs : List Group). get_or gs i g) groups_are
      ∙ from_at (program_of imaged) (starts_handler (Some (code_in (pooled_at imaged method).pool (pooled_at imaged method).parts))) 0 i instructions g (named_at imaged method instr)
      (omega (arith, less, length_map (named_at imaged method) labelled.code))
      ∙ ap₂ (λ (b : Bool) (x : Instruction). group_of (program_of imaged) b x)
      (ap (starts_handler (Some (code_in (pooled_at imaged method).pool (pooled_at imaged method).parts))) number ∙ handler_is (pooled_at imaged method).pool (pooled_at imaged method).parts i
      ∙ ap (λ (l : Labelled). handles l.ranges i) code.is ∙ sym here)
      (get_or-map (named_at imaged method) labelled.code i instr (named_at imaged method instr) less ∙ ap (named_at imaged method) (sym is)) where
        number : 0 + i ≡ i
        number = omega arith

  -- one more group
  pub parts_more : (parts : List GroupPart) (part : GroupPart) (i : ℕ) (instr : Instr) (arrives : Bool) → i < length labelled.code → instr ≡ get_or labelled.code i instr → arrives ≡ handles labelled.ranges i
      → groups_seen parts ≡ take i (groups_at imaged method) → group_seen part ≡ group_of (program_of imaged) arrives (named_at imaged method instr)
      → groups_seen (parts ++ part ∷ []) ≡ take (i + 1) (groups_at imaged method)
  parts_more parts part i instr arrives less is here seen one =
      map-append group_seen parts (part ∷ [])
      ∙ ap₂ (λ (gs : List Group) (g : Group). gs ++ g ∷ []) seen (one ∙ sym (group_is i (group_seen part) instr arrives less is here))
      ∙ sym (take_more (groups_at imaged method) i (group_seen part) (omega (arith, less, length_all)))

  -- an object is too large
  pub parts_refused : (parts : List GroupPart) (i : ℕ) (instr : Instr) (arrives : Bool) → i < length labelled.code → instr ≡ get_or labelled.code i instr → arrives ≡ handles labelled.ranges i
      → groups_seen parts ≡ take i (groups_at imaged method) → (FitsSipush (group_of (program_of imaged) arrives (named_at imaged method instr)) → ⊥)
      → IsRefusal (groups_at imaged method) (errors.BigObject i)
  parts_refused parts i instr arrives less is here seen big = (
    group_of (program_of imaged) arrives (named_at imaged method instr),
    record {
      found = slice_get-get_or (groups_at imaged method) i (group_of (program_of imaged) arrives (named_at imaged method instr)) (omega (arith, less, length_all))
          ∙ ap Some (group_is i (group_of (program_of imaged) arrives (named_at imaged method instr)) instr arrives less is here);
      lacks = big;
      before = subst (AllByRecursion FitsSipush) seen (parts_fit parts);
    },
  )

  pub parts_whole : (parts : List GroupPart) (i : ℕ) → length labelled.code ≤ i → groups_seen parts ≡ take i (groups_at imaged method) → groups_seen parts ≡ groups_at imaged method
  parts_whole parts i past seen = seen ∙ take_all i (groups_at imaged method) (omega (arith, past, length_all))

  -- the answer on the instruction is that on all groups
  pub refused_at : (parts : List GroupPart) (i : ℕ) (instr : Instr) (arrives : Bool) (e : EmitError) → i < length labelled.code → instr ≡ get_or labelled.code i instr → arrives ≡ handles labelled.ranges i
      → groups_seen parts ≡ take i (groups_at imaged method) → PartAt imaged method i instr arrives (Err e) → IsRefusal (groups_at imaged method) e
  refused_at parts i instr arrives errors.Memory less is here seen at = tt
  refused_at parts i instr arrives (errors.BigObject n) less is here seen at =
      subst (λ (m : ℕ). IsRefusal (groups_at imaged method) (errors.BigObject m)) (sym at.0) (parts_refused parts i instr arrives less is here seen at.1)

  pub length_seen : (parts : List GroupPart) → groups_seen parts ≡ groups_at imaged method → length parts ≡ length labelled.code
  length_seen parts seen = sym (length_map group_seen parts) ∙ ap length seen ∙ length_all

  -- what is looked up among the arrivals
  pub arrives_here : (arrives : List Bool) (count : ℕ) (ranges : List Protected) (i : ℕ) (b : Bool) → AreArrivals count ranges arrives → ranges ≡ labelled.ranges → i < count → b ≡ get_or arrives i b
      → b ≡ handles labelled.ranges i
  arrives_here arrives count ranges i b arr same less is =
      is ∙ get_or_default arrives i b false (omega (arith, less, arr.all)) ∙ arr.each i less ∙ ap (λ (rs : List Protected). handles rs i) same
