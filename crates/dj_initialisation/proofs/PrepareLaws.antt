-- The initialisation of classes at a use is that of the model.
use Rattle.std.proofs.Common.{◌≡◌, ℕ, ◌+◌, ◌<◌, Bool, true, List, [], ◌∷◌, ◌++◌, length, reverse, Option, Some, refl, sym, ap, subst, ◌∙◌, arith, if◌then◌else◌}
use Rattle.std.proofs.lemmas.Bool.{lt-ltb, le-ltb}
use Rattle.std.proofs.lemmas.List.{length-map}
use Rattle.dj_names.specs.declared.run.Outcome.TheVariants as outcomes
use Rattle.dj_names.specs.trusted.Types.{Name}
use Rattle.dj_model.specs.trusted.Types.{Declared}
use Rattle.dj_model.specs.trusted.Linking.{most_classes, chain}
use Rattle.dj_model.specs.trusted.State.{Frame, State, Terms}
use Rattle.dj_model.specs.trusted.Initialisation.{Initialised, Waits, Fails, most_frames, then_ready, not_initialised, constants_of, initialiser_frames, with_frames, initialise_all, initialise}
use Rattle.dj_model.specs.Sound.{IsProgram}
use Rattle.dj_stack.specs.Frames.{StackFrame}
use Rattle.dj_resolution.specs.Linked.{class_name}
use Rattle.dj_resolution.proofs.Resolution.{numbers_of_class}
use Rattle.dj_image.specs.Imaged.{Imaged, program_of}
use Rattle.dj_current_method.specs.Activations.{frame_seen, frames_seen, AreActivations}
use Rattle.dj_initialisation.specs.declared.filled.Filled.TheVariants as filled
use Rattle.dj_initialisation.specs.declared.initialisers.Initialiser.{Initialiser}
use Rattle.dj_initialisation.specs.declared.prepare.Prepared.{Prepared}
use Rattle.dj_initialisation.specs.declared.prepare.Prepared.TheVariants as prepared
use Rattle.dj_initialisation.specs.Flags.{AreFlags, has_begun, not_begun}
use Rattle.dj_initialisation.specs.Waiting.{AreWaiting, names_of}
use Rattle.dj_initialisation.specs.Initialisers.{AreInitialisers, initialiser_count, pushed}
use Rattle.dj_initialisation.specs.Store.{Store, IsStore, Fills, all_constants, stored}
use Rattle.dj_initialisation.specs.Preparing.{Prepares, Pushes, IsCause, left_of, parts, prepared_reported, with_parts}
use Rattle.dj_initialisation.proofs.FlagLaws.{names_reversed, waits}
use Rattle.dj_initialisation.proofs.Walks.{none_waits}
use Rattle.dj_initialisation.proofs.PlaceLaws.{names_differ}
use Rattle.dj_initialisation.proofs.InitialiserLaws.{frames_above, frames_count, stand_on}

-- ---- what is initialised already

pub prepared_already : (imaged : Imaged) (class : ℕ) (flags : List Bool) (st : Store) (frames : List StackFrame) → IsProgram (program_of imaged) → class < length (program_of imaged)
    → AreFlags (program_of imaged) flags → IsStore imaged st → has_begun flags class ≡ true → Prepares imaged class (parts flags st frames) (parts flags st frames) prepared.Ready
unfolding initialise constants_of
prepared_already imaged class flags st frames formed lt are stores begun = record {
  effect = λ terms s e. ap (λ (names : List Name). initialise_all (program_of imaged) imaged.prefix terms (reverse names) (with_parts imaged (parts flags st frames) s)) none;
  limit = refl;
  are = stores;
  flags = are;
  frames = λ stand. stand;
} where
  none : not_initialised (program_of imaged) flags (chain (program_of imaged) (class_name (program_of imaged) class)) ≡ []
  none = waits (program_of imaged) flags (chain (program_of imaged) (class_name (program_of imaged) class))
      ∙ ap (λ (ks : List ℕ). names_of (program_of imaged) (not_begun flags ks)) (numbers_of_class (program_of imaged) class (names_differ (program_of imaged) formed) lt)
      ∙ ap (names_of (program_of imaged)) (none_waits (program_of imaged) flags are.above most_classes (Some class) begun)

-- ---- frames

-- those of the state, and the new ones where initialisers have to run
abbrev with_new : Prepared → List (Frame Declared) → State → State
with_new prepared.Waits frames s = record s { frames = frames ++ s.frames }
with_new result frames s = s

frames_reported : (s : State) (frames : List (Frame Declared)) (result : Prepared) → IsCause (length frames) (length s.frames) result → with_frames s frames ≡ prepared_reported result (with_new result frames s)
frames_reported s [] prepared.Ready cause = refl
frames_reported s (f ∷ frames) prepared.Ready cause = absurd (omega (arith, cause))
frames_reported s [] prepared.Waits cause = absurd (let some = cause.0 in omega (arith, some))
frames_reported s (f ∷ frames) prepared.Waits cause =
    ap (λ (b : Bool). if b then Fails outcomes.TooDeep s else Waits (record s { frames = f ∷ frames ++ s.frames })) (le-ltb most_frames (length (f ∷ frames) + length s.frames) cause.1)
frames_reported s [] prepared.TooDeep cause = absurd (let some = cause.0 in omega (arith, some))
frames_reported s (f ∷ frames) prepared.TooDeep cause =
    ap (λ (b : Bool). if b then Fails outcomes.TooDeep s else Waits (record s { frames = f ∷ frames ++ s.frames })) (lt-ltb most_frames (length (f ∷ frames) + length s.frames) cause.1)
frames_reported s frames (prepared.HeapFull used size) cause = absurd cause

-- ---- what waits

module _ (imaged : Imaged) (class : ℕ) (flags new : List Bool) (a c : Store) (frames : List StackFrame) (classes : List ℕ) (waiting : AreWaiting (program_of imaged) class flags new classes) where
  abbrev state : Store → State → State
  state st s = stored imaged st (record s { initialised = new; frames = frames_seen (program_of imaged) frames })

  abbrev names : List Name
  names = reverse (names_of (program_of imaged) classes)

  abbrev finished : Initialised → Initialised
  finished i = then_ready (λ next. with_frames next (initialiser_frames (program_of imaged) names)) i

  begun : (terms : Terms) (s : State)
      → initialise (program_of imaged) imaged.prefix terms (class_name (program_of imaged) class) (with_parts imaged (parts flags a frames) s)
      ≡ finished (all_constants imaged (reverse classes) terms (state a s))
  unfolding initialise
  begun terms s =
      ap (λ (ns : List Name). initialise_all (program_of imaged) imaged.prefix terms (reverse ns) (with_parts imaged (parts flags a frames) s)) waiting.names
      ∙ ap (λ (fs : List Bool). finished (constants_of (program_of imaged) imaged.prefix terms names (record (with_parts imaged (parts flags a frames) s) { initialised = fs }))) waiting.flags
      ∙ ap (λ (ns : List Name). finished (constants_of (program_of imaged) imaged.prefix terms ns (state a s))) (names_reversed (program_of imaged) classes)

  pub prepared_full : (used size : ℕ) → Fills imaged (all_constants imaged (reverse classes)) a c (filled.HeapFull used size)
      → Prepares imaged class (parts flags a frames) (parts new c frames) (prepared.HeapFull used size)
  prepared_full used size fills = record {
    effect = λ terms s e. begun terms s ∙ ap finished (fills.effect terms (record s { initialised = new; frames = frames_seen (program_of imaged) frames }) e);
    limit = fills.limit;
    are = fills.are;
    flags = waiting.are;
    frames = λ stand. stand;
  }

  module _ (each : List (Option Initialiser)) (left : List StackFrame) (result : Prepared) (initialisers : AreInitialisers imaged each) (pushes : Pushes each classes frames left result) where
    count : length (initialiser_frames (program_of imaged) names) ≡ initialiser_count each classes
    count = frames_count imaged each classes initialisers waiting.numbers

    depth : length (frames_seen (program_of imaged) frames) ≡ length frames
    depth = length-map frames (frame_seen (program_of imaged))

    cause : IsCause (length (initialiser_frames (program_of imaged) names)) (length (frames_seen (program_of imaged) frames)) result
    cause = subst (λ (n : ℕ). IsCause n (length (frames_seen (program_of imaged) frames)) result) (sym count)
        (subst (λ (n : ℕ). IsCause (initialiser_count each classes) n result) (sym depth) pushes.cause)

    seen : (s : State) → with_new result (initialiser_frames (program_of imaged) names) (state c s) ≡ with_parts imaged (parts new c (left_of result (pushed each classes frames) frames)) s
    seen s = by result where
      by : (r : Prepared) → with_new r (initialiser_frames (program_of imaged) names) (state c s) ≡ with_parts imaged (parts new c (left_of r (pushed each classes frames) frames)) s
      by prepared.Ready = refl
      by prepared.Waits =
          ap (λ (fs : List (Frame Declared)). stored imaged c (record s { initialised = new; frames = fs })) (sym (frames_above imaged each classes frames initialisers waiting.numbers))
      by prepared.TooDeep = refl
      by (prepared.HeapFull used size) = refl

    still : AreActivations imaged frames → AreActivations imaged left
    still stand = subst (AreActivations imaged) (sym pushes.frames) (by result) where
      by : (r : Prepared) → AreActivations imaged (left_of r (pushed each classes frames) frames)
      by prepared.Ready = stand
      by prepared.Waits = stand_on imaged each classes frames initialisers waiting.numbers stand
      by prepared.TooDeep = stand
      by (prepared.HeapFull used size) = stand

    pub prepared_on : Fills imaged (all_constants imaged (reverse classes)) a c filled.Done → Prepares imaged class (parts flags a frames) (parts new c left) result
    prepared_on fills = record {
      effect = λ terms s e. begun terms s ∙ ap finished (fills.effect terms (record s { initialised = new; frames = frames_seen (program_of imaged) frames }) e)
          ∙ frames_reported (state c s) (initialiser_frames (program_of imaged) names) result cause
          ∙ ap (prepared_reported result) (seen s)
          ∙ ap (λ (fs : List StackFrame). prepared_reported result (with_parts imaged (parts new c fs) s)) (sym pushes.frames);
      limit = fills.limit;
      are = fills.are;
      flags = waiting.are;
      frames = still;
    }
