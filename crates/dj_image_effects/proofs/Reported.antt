-- What a family does by numbers is what the instruction does in the model.
use Rattle.std.proofs.Common.{◌≡◌, ℕ, List, Option, Some, None, refl, sym, ap, ◌∙◌}
use Rattle.std.specs.Option.{option_map}
use Rattle.dj_names.specs.declared.run.Value.{Value}
use Rattle.dj_names.specs.declared.descriptor.Ty.{Ty}
use Rattle.dj_names.specs.trusted.Heaps.{Heap}
use Rattle.dj_names.specs.trusted.Types.{Name}
use Rattle.dj_edge.specs.declared.host.HostAnswer.{HostAnswer}
use Rattle.dj_library_types.specs.Numbered.{type_at}
use Rattle.dj_model.specs.trusted.Instructions.{Instruction}
use Rattle.dj_model.specs.trusted.State as model
use Rattle.dj_model.specs.trusted.State.{Terms, Part, Account, Effect, goes}
use Rattle.dj_model.specs.trusted.Values.{on_values}
use Rattle.dj_model.specs.trusted.Arrays.{OnHeap}
use Rattle.dj_model.specs.Arrays.{on_heap_map}
use Rattle.dj_model.specs.trusted.Effects as effects
use Rattle.dj_model.specs.trusted.Effects.{values_effect, heap_effect}
use Rattle.dj_heap.specs.Heaps.{LimitedHeap}
use Rattle.dj_stack.specs.Frames.{StackFrame, SameButOperands, top_locals, top_operands}
use Rattle.dj_effects.specs.Does.{Does, reported, reported_operands}
use Rattle.dj_effects.specs.DoesOnHeap.{DoesOnHeap, flow_view, reported_beside, reported_on_heap}
use Rattle.dj_effects.specs.declared.way.Way.{Way}
use Rattle.dj_effects.specs.declared.way.Flow.{Flow}
use Rattle.dj_effects.specs.declared.way.Flow.TheVariants as flows
use Rattle.dj_member_effects.specs.Statics.{OnStatics, DoesOnStatics, IsNext, statics_effect, reported_on_statics}
use Rattle.dj_member_effects.specs.Literals.{OnLiterals, LiteralTable, DoesOnLiterals, literal_flows, literals_effect}
use Rattle.dj_member_effects.specs.Objects.{thrown_view}
use Rattle.dj_member_effects.specs.declared.objects.Thrown.{Thrown}
use Rattle.dj_member_effects.specs.declared.objects.Thrown.TheVariants as thrown
use Rattle.dj_numbering.specs.Typed.{types_of}
use Rattle.dj_image.specs.Imaged.{Imaged, program_of, typed_of}
use Rattle.dj_initialisation.specs.Store.{Store, IsStore, store}
use Rattle.dj_image_effects.specs.declared.acted.Acted.{Acted}
use Rattle.dj_image_effects.specs.declared.acted.Acted.TheVariants as acts
use Rattle.dj_image_effects.specs.Flows.{flow_acted, thrown_acted, way_acted}
use Rattle.dj_image_effects.specs.Acting.{Machine, machine, part_of, part_with, effect_reported, Acts, IsActed, IsKept}

pub way_kept : (imaged : Imaged) (st : Store) (way : Option Way) → IsStore imaged st → IsKept imaged st (way_acted way)
way_kept imaged st None are = tt
way_kept imaged st (Some way) are = are

flow_kept : (imaged : Imaged) (st : Store) (flow : Option Flow) → IsStore imaged st → IsKept imaged st (flow_acted flow)
flow_kept imaged st None are = tt
flow_kept imaged st (Some (flows.Goes way)) are = are
flow_kept imaged st (Some flows.Link) are = are
flow_kept imaged st (Some (flows.HeapFull used size)) are = are

thrown_kept : (imaged : Imaged) (st : Store) (t : Option Thrown) → IsStore imaged st → IsKept imaged st (thrown_acted t)
thrown_kept imaged st None are = tt
thrown_kept imaged st (Some thrown.Null) are = are
thrown_kept imaged st (Some (thrown.Catch r)) are = are
thrown_kept imaged st (Some thrown.Link) are = are

-- ---- on values

abbrev pub IsOnValues : Imaged → Instruction → Type 0
IsOnValues imaged i = (terms : Terms) (own : Name) (p : Part)
    → effects.effect (program_of imaged) imaged.prefix terms own i p ≡ option_map (values_effect p) (on_values i p.locals p.operands)

values_reported : (imaged : Imaged) (old new : List StackFrame) (st : Store) (account : Account) (answers : List HostAnswer) (way : Option Way)
    → option_map (values_effect (part_of imaged (machine old st) account answers)) (reported old new way)
    ≡ effect_reported imaged (machine old st) (machine new st) account answers (way_acted way)
values_reported imaged old new st account answers None = refl
values_reported imaged old new st account answers (Some way) = refl

pub values_acted : (imaged : Imaged) (i : Instruction) (old new : List StackFrame) (st : Store) (way : Option Way) → IsOnValues imaged i → Does i old new way → IsStore imaged st
    → Acts imaged i (machine old st) (machine new st) (way_acted way)
values_acted imaged i old new st way on does are = record {
  effect = λ terms own account answers limit. on terms own (part_of imaged (machine old st) account answers)
      ∙ (ap (option_map (values_effect (part_of imaged (machine old st) account answers))) does.effect ∙ values_reported imaged old new st account answers way);
  limit = refl;
  frames = does.frames;
  number = does.number;
  are = way_kept imaged st way are;
}

-- ---- on the heap

abbrev pub types : Imaged → ℕ → Ty
types imaged = type_at (types_of (typed_of imaged))

abbrev pub IsOnHeap : Imaged → Instruction → Machine → (Heap ℕ → List Value → Option (OnHeap ℕ)) → Type 0
IsOnHeap imaged i m effect_of = (terms : Terms) (own : Name) (account : Account) (answers : List HostAnswer) → terms.limit ≡ Some m.store.heap.limit
    → effects.effect (program_of imaged) imaged.prefix terms own i (part_of imaged m account answers)
    ≡ option_map (λ (e : OnHeap ℕ). heap_effect (part_of imaged m account answers) (on_heap_map (types imaged) e)) (effect_of m.store.heap.heap (top_operands m.frames))

-- the locals are as before
pub with_locals : (imaged : Imaged) (old new : List StackFrame) (st : Store) (operands : List Value) (flow : model.Flow) (account : Account) (answers : List HostAnswer)
    → top_locals new ≡ top_locals old
    → ◌≡◌ {A = Option Effect} (Some (record { part = record (part_with imaged (machine new st) operands account answers) { locals = top_locals old }; flow = flow }))
    (Some (record { part = part_with imaged (machine new st) operands account answers; flow = flow }))
with_locals imaged old new st operands flow account answers e =
    ap (λ (locals : List (Option Value)). Some (record { part = record (part_with imaged (machine new st) operands account answers) { locals = locals }; flow = flow })) (sym e)

heap_reported : (imaged : Imaged) (old new : List StackFrame) (before after : LimitedHeap) (statics : List ℕ) (literals : LiteralTable) (account : Account) (answers : List HostAnswer)
    (flow : Option Flow) → top_locals new ≡ top_locals old
    → option_map (λ (e : OnHeap ℕ). heap_effect (part_of imaged (machine old (store before statics literals)) account answers) (on_heap_map (types imaged) e)) (reported_on_heap old new after.heap flow)
    ≡ effect_reported imaged (machine old (store before statics literals)) (machine new (store after statics literals)) account answers (flow_acted flow)
heap_reported imaged old new before after statics literals account answers None e = refl
heap_reported imaged old new before after statics literals account answers (Some (flows.Goes way)) e =
    with_locals imaged old new (store after statics literals) (reported_operands old new way) _ account answers e
heap_reported imaged old new before after statics literals account answers (Some flows.Link) e =
    with_locals imaged old new (store after statics literals) (top_operands old) _ account answers e
heap_reported imaged old new before after statics literals account answers (Some (flows.HeapFull used size)) e =
    with_locals imaged old new (store after statics literals) (top_operands old) _ account answers e

pub heap_acted : (imaged : Imaged) (i : Instruction) (old new : List StackFrame) (before after : LimitedHeap) (statics : List ℕ) (literals : LiteralTable) (flow : Option Flow)
    (effect_of : Heap ℕ → List Value → Option (OnHeap ℕ)) → IsOnHeap imaged i (machine old (store before statics literals)) effect_of
    → DoesOnHeap effect_of old new before after flow → IsStore imaged (store before statics literals)
    → Acts imaged i (machine old (store before statics literals)) (machine new (store after statics literals)) (flow_acted flow)
heap_acted imaged i old new before after statics literals flow effect_of on does are = record {
  effect = λ terms own account answers limit. on terms own account answers limit
      ∙ (ap (option_map (λ (e : OnHeap ℕ). heap_effect (part_of imaged (machine old (store before statics literals)) account answers) (on_heap_map (types imaged) e))) does.effect
      ∙ heap_reported imaged old new before after statics literals account answers flow does.frames.locals);
  limit = does.limit;
  frames = does.frames.frames;
  number = does.frames.number;
  are = flow_kept imaged (store after statics literals) flow (record { statics = are.statics; count = are.count; texts = are.texts });
}

-- ---- on static fields

abbrev pub IsOnStatics : Imaged → Instruction → (List ℕ → List Value → Option OnStatics) → Type 0
IsOnStatics imaged i effect_of = (terms : Terms) (own : Name) (p : Part)
    → effects.effect (program_of imaged) imaged.prefix terms own i p ≡ option_map (statics_effect p) (effect_of p.statics p.operands)

statics_reported : (imaged : Imaged) (old new : List StackFrame) (heap : LimitedHeap) (before after : List ℕ) (literals : LiteralTable) (account : Account) (answers : List HostAnswer)
    (way : Option Way) → IsNext way → top_locals new ≡ top_locals old
    → option_map (statics_effect (part_of imaged (machine old (store heap before literals)) account answers)) (reported_on_statics new after way)
    ≡ effect_reported imaged (machine old (store heap before literals)) (machine new (store heap after literals)) account answers (way_acted way)
statics_reported imaged old new heap before after literals account answers None is e = refl
statics_reported imaged old new heap before after literals account answers (Some way) is e =
    with_locals imaged old new (store heap after literals) (top_operands new) (model.Goes model.Next) account answers e
    ∙ ap (λ (w : Way). effect_reported imaged (machine old (store heap before literals)) (machine new (store heap after literals)) account answers (acts.Goes w)) (sym is)

pub statics_acted : (imaged : Imaged) (i : Instruction) (old new : List StackFrame) (heap : LimitedHeap) (before after : List ℕ) (literals : LiteralTable) (way : Option Way)
    (effect_of : List ℕ → List Value → Option OnStatics) → IsOnStatics imaged i effect_of → DoesOnStatics effect_of old new before after way
    → IsKept imaged (store heap after literals) (way_acted way)
    → Acts imaged i (machine old (store heap before literals)) (machine new (store heap after literals)) (way_acted way)
statics_acted imaged i old new heap before after literals way effect_of on does are = record {
  effect = λ terms own account answers limit. on terms own (part_of imaged (machine old (store heap before literals)) account answers)
      ∙ (ap (option_map (statics_effect (part_of imaged (machine old (store heap before literals)) account answers))) does.effect
      ∙ statics_reported imaged old new heap before after literals account answers way does.next does.frames.locals);
  limit = refl;
  frames = does.frames.frames;
  number = does.frames.number;
  are = are;
}

-- ---- on literals

abbrev pub IsOnLiterals : Imaged → Instruction → Machine → (Heap ℕ → List (ℕ × ℕ) → List Value → OnLiterals) → Type 0
IsOnLiterals imaged i m effect_of = (terms : Terms) (own : Name) (account : Account) (answers : List HostAnswer) → terms.limit ≡ Some m.store.heap.limit
    → effects.effect (program_of imaged) imaged.prefix terms own i (part_of imaged m account answers)
    ≡ Some (literals_effect (types_of (typed_of imaged)) imaged.texts (part_of imaged m account answers)
    (effect_of m.store.heap.heap m.store.literals.made (top_operands m.frames)))

literals_reported : (imaged : Imaged) (old new : List StackFrame) (before after : LimitedHeap) (statics : List ℕ) (literals now : LiteralTable) (account : Account) (answers : List HostAnswer)
    (flow : Flow) → top_locals new ≡ top_locals old
    → Some (literals_effect (types_of (typed_of imaged)) imaged.texts (part_of imaged (machine old (store before statics literals)) account answers)
    (literal_flows after.heap now.made (reported_beside old new flow) (flow_view flow)))
    ≡ effect_reported imaged (machine old (store before statics literals)) (machine new (store after statics now)) account answers (flow_acted (Some flow))
literals_reported imaged old new before after statics literals now account answers (flows.Goes way) e =
    with_locals imaged old new (store after statics now) (reported_operands old new way) _ account answers e
literals_reported imaged old new before after statics literals now account answers flows.Link e =
    with_locals imaged old new (store after statics now) (top_operands old) _ account answers e
literals_reported imaged old new before after statics literals now account answers (flows.HeapFull used size) e =
    with_locals imaged old new (store after statics now) (top_operands old) _ account answers e

pub literals_acted : (imaged : Imaged) (i : Instruction) (old new : List StackFrame) (before after : LimitedHeap) (statics : List ℕ) (literals now : LiteralTable) (flow : Flow)
    (effect_of : Heap ℕ → List (ℕ × ℕ) → List Value → OnLiterals) → IsOnLiterals imaged i (machine old (store before statics literals)) effect_of
    → DoesOnLiterals effect_of old new before after literals now flow → IsStore imaged (store after statics now)
    → Acts imaged i (machine old (store before statics literals)) (machine new (store after statics now)) (flow_acted (Some flow))
literals_acted imaged i old new before after statics literals now flow effect_of on does are = record {
  effect = λ terms own account answers limit. on terms own account answers limit
      ∙ (ap (λ (e : OnLiterals). Some (literals_effect (types_of (typed_of imaged)) imaged.texts (part_of imaged (machine old (store before statics literals)) account answers) e)) does.effect
      ∙ literals_reported imaged old new before after statics literals now account answers flow does.frames.locals);
  limit = does.limit;
  frames = does.frames.frames;
  number = does.frames.number;
  are = flow_kept imaged (store after statics now) (Some flow) are;
}

-- ---- thrown objects

thrown_reported : (imaged : Imaged) (old new : List StackFrame) (st : Store) (account : Account) (answers : List HostAnswer) (t : Option Thrown) → top_locals new ≡ top_locals old
    → option_map (λ (t : Thrown). goes (part_of imaged (machine old st) account answers) (thrown_view t)) t
    ≡ effect_reported imaged (machine old st) (machine new st) account answers (thrown_acted t)
thrown_reported imaged old new st account answers None e = refl
thrown_reported imaged old new st account answers (Some thrown.Null) e = with_locals imaged old new st (top_operands old) _ account answers e
thrown_reported imaged old new st account answers (Some (thrown.Catch r)) e = with_locals imaged old new st (top_operands old) _ account answers e
thrown_reported imaged old new st account answers (Some thrown.Link) e = with_locals imaged old new st (top_operands old) _ account answers e

abbrev pub IsThrown : Imaged → Instruction → Machine → Option Thrown → Type 0
IsThrown imaged i m t = (terms : Terms) (own : Name) (account : Account) (answers : List HostAnswer)
    → effects.effect (program_of imaged) imaged.prefix terms own i (part_of imaged m account answers)
    ≡ option_map (λ (t : Thrown). goes (part_of imaged m account answers) (thrown_view t)) t

pub throw_acted : (imaged : Imaged) (i : Instruction) (old new : List StackFrame) (st : Store) (t : Option Thrown) → IsThrown imaged i (machine old st) t → SameButOperands old new → IsStore imaged st
    → Acts imaged i (machine old st) (machine new st) (thrown_acted t)
throw_acted imaged i old new st t is same are = record {
  effect = λ terms own account answers limit. is terms own account answers ∙ thrown_reported imaged old new st account answers t same.locals;
  limit = refl;
  frames = same.frames;
  number = same.number;
  are = thrown_kept imaged st t are;
}

-- ---- nothing is done

pub stuck_acted : (imaged : Imaged) (i : Instruction) (m : Machine)
    → ((terms : Terms) (own : Name) (p : Part) → effects.effect (program_of imaged) imaged.prefix terms own i p ≡ None) → Acts imaged i m m acts.Stuck
stuck_acted imaged i m none = record {
  effect = λ terms own account answers limit. none terms own (part_of imaged m account answers);
  limit = refl;
  frames = record { count = refl; method = refl; room = refl; below = refl };
  number = refl;
  are = tt;
}

-- what was done is no call
pub acted_so : (imaged : Imaged) (i : Instruction) (before after : Machine) (acted : Acted) → Acts imaged i before after acted → IsActed imaged i before after acted
acted_so imaged i before after (acts.Goes way) a = a
acted_so imaged i before after (acts.Catch exception) a = a
acted_so imaged i before after acts.Link a = a
acted_so imaged i before after (acts.HeapFull used size) a = a
acted_so imaged i before after acts.Call a = absurd a.are
acted_so imaged i before after acts.Stuck a = a
