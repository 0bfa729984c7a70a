-- Initialisers: as many ways as frames are pushed.
use Rattle.std.proofs.Common.{◌≡◌, ℕ, suc, ◌+◌, ◌*◌, ◌≤◌, ◌&&◌, Bool, true, false, List, [], ◌∷◌, ◌++◌, length, reverse, nat_lt, refl, sym, ap, ◌∙◌, inl, inr, arith, IsFalse, if◌then◌else◌}
use Rattle.std.specs.Prelude.{⊤}
use Rattle.std.specs.List.{AllByRecursion}
use Rattle.std.specs.Cmp.Lexicographic.{bytes_decides}
use Rattle.std.proofs.lemmas.List.{reverse-append}
use Rattle.dj_names.specs.trusted.Types.{Name, same_name}
use Rattle.dj_model.specs.trusted.Types.{Prefix, Declared}
use Rattle.dj_model.specs.trusted.Program.{Program, has_initialiser, initialiser_of}
use Rattle.dj_model.specs.trusted.Linking.{chain}
use Rattle.dj_model.specs.trusted.State.{Terms, Frame, State}
use Rattle.dj_model.specs.trusted.Initialisation.{most_frames, new_frame, is_initialised, mark, mark_all, not_initialised, Initialised, Ready, Waits, Fails, then_ready, constants_of, initialiser_frames, with_frames, initialise}
use Rattle.dj_model.specs.Laws.{DifferFrom, AllDiffer}
use Rattle.dj_model.proofs.LawProofs.{initialised_once}
use Rattle.dj_model.proofs.Flows.{either_way}
use Rattle.dj_model.proofs.Frames.{KeepsMore, all_constants_keep}
use Rattle.dj_sim.specs.Metering.{one_if}
use Rattle.dj_sim.proofs.Places.{either}
use Rattle.dj_bounds.specs.Acts.{way, AreShort, spent, initialisers, begun}

module _ (program : Program) where
  -- ---- which have begun

  counted : (b : Bool) (n : ℕ) → one_if (true && b) + n ≡ one_if b + (one_if (false && b) + n)
  counted true n = omega arith
  counted false n = omega arith

  begun_mark : (classes : Program) (flags : List Bool) (class : Name) → is_initialised classes flags class ≡ false
      → begun program classes (mark classes class flags) ≡ one_if (has_initialiser program class) + begun program classes flags
  unfolding is_initialised mark
  begun_mark [] flags class e = absurd (let no : true ≡ false = e in cc)
  begun_mark (c ∷ classes) [] class e = absurd (let no : true ≡ false = e in cc)
  begun_mark (c ∷ classes) (flag ∷ flags) class e = go (same_name c.name class) refl flag e (λ later. begun_mark classes flags class later) where
    go : (same : Bool) → same_name c.name class ≡ same → (flag : Bool) → (if same then flag else is_initialised classes flags class) ≡ false
        → (is_initialised classes flags class ≡ false → begun program classes (mark classes class flags) ≡ one_if (has_initialiser program class) + begun program classes flags)
        → begun program (c ∷ classes) (if same then true ∷ flags else flag ∷ mark classes class flags) ≡ one_if (has_initialiser program class) + begun program (c ∷ classes) (flag ∷ flags)
    go true same true e more = absurd (let no : true ≡ false = e in cc)
    go true same false e more =
        counted (has_initialiser program c.name) (begun program classes flags)
        ∙ ap (λ (name : Name). one_if (has_initialiser program name) + (0 + begun program classes flags)) ((bytes_decides c.name class).0 same)
    go false same flag e more = omega (arith, more e)

  one_less : (flag b : Bool) → one_if (flag && b) ≤ one_if b
  one_less true b = omega arith
  one_less false b = omega arith

  pub begun_all : (classes : Program) (flags : List Bool) → begun program classes flags ≤ initialisers program classes
  begun_all [] flags = omega arith
  begun_all (c ∷ classes) [] = omega arith
  begun_all (c ∷ classes) (flag ∷ flags) = omega (arith, one_less flag (has_initialiser program c.name), begun_all classes flags)

  -- ---- a class that isn't marked

  stays_unmarked : (classes : Program) (class other : Name) (flags : List Bool) → (other ≡ class → ⊥) → is_initialised classes flags other ≡ false → is_initialised classes (mark classes class flags) other ≡ false
  unfolding is_initialised mark
  stays_unmarked [] class other flags differ e = absurd (let no : true ≡ false = e in cc)
  stays_unmarked (c ∷ classes) class other [] differ e = absurd (let no : true ≡ false = e in cc)
  stays_unmarked (c ∷ classes) class other (flag ∷ flags) differ e = elim (either (same_name c.name class)) [
    | inl s ↦ elim (either (same_name c.name other)) [
      | inl d ↦ absurd (differ (sym ((bytes_decides c.name other).0 d) ∙ (bytes_decides c.name class).0 s))
      | inr d ↦ rw (s, d) (rw d at e)
    ]
    | inr s ↦ elim (either (same_name c.name other)) [
      | inl d ↦ rw (s, d) (rw d at e)
      | inr d ↦ rw (s, d) (stays_unmarked classes class other flags differ (rw d at e))
    ]
  ]

  mark_last : (classes : List Name) (class : Name) (flags : List Bool) → mark_all program (classes ++ class ∷ []) flags ≡ mark program class (mark_all program classes flags)
  mark_last [] class flags = refl
  mark_last (other ∷ classes) class flags = mark_last classes class (mark program other flags)

  mark_first : (class : Name) (classes : List Name) (flags : List Bool) → mark_all program (reverse (class ∷ classes)) flags ≡ mark program class (mark_all program (reverse classes) flags)
  mark_first class classes flags = ap (λ l. mark_all program l flags) (reverse-append (class ∷ []) classes) ∙ mark_last (reverse classes) class flags

  unmarked : (class : Name) (classes : List Name) (flags : List Bool) → DifferFrom class classes → is_initialised program flags class ≡ false → is_initialised program (mark_all program (reverse classes) flags) class ≡ false
  unmarked class [] flags differ e = e
  unmarked class (other ∷ classes) flags differ e =
      ap (λ (now : List Bool). is_initialised program now class) (mark_first other classes flags)
      ∙ stays_unmarked program other class (mark_all program (reverse classes) flags) differ.0 (unmarked class classes flags differ.1 e)

  -- ---- how many initialisers begin

  abbrev pub count : List Name → ℕ
  count [] = 0
  count (class ∷ classes) = one_if (has_initialiser program class) + count classes

  count_append : (a b : List Name) → count (a ++ b) ≡ count a + count b
  count_append [] b = omega arith
  count_append (class ∷ a) b = omega (arith, count_append a b)

  count_reverse : (classes : List Name) → count (reverse classes) ≡ count classes
  count_reverse [] = refl
  count_reverse (class ∷ classes) = omega (arith, ap count (reverse-append (class ∷ []) classes), count_append (reverse classes) (class ∷ []), count_reverse classes)

  begun_marks : (classes : List Name) (flags : List Bool) → AllDiffer classes → AllByRecursion (λ class. IsFalse (is_initialised program flags class)) classes
      → begun program program (mark_all program (reverse classes) flags) ≡ count classes + begun program program flags
  begun_marks [] flags differ fresh = omega arith
  begun_marks (class ∷ classes) flags differ fresh = omega (
    arith,
    ap (begun program program) (mark_first class classes flags),
    begun_mark program (mark_all program (reverse classes) flags) class (unmarked class classes flags differ.0 fresh.0),
    begun_marks classes flags differ.1 fresh.1,
  )

  -- ---- their frames

  frames_count : (classes : List Name) → length (initialiser_frames program classes) ≡ count classes
  frames_count [] = refl
  frames_count (class ∷ classes) = by (has_initialiser program class) (frames_count classes) where
    by : (b : Bool) → length (initialiser_frames program classes) ≡ count classes
        → length ((if b then new_frame program (initialiser_of class) [] ∷ [] else []) ++ initialiser_frames program classes) ≡ one_if b + count classes
    by true rest = omega (arith, rest)
    by false rest = omega (arith, rest)

  spent_frames : AreShort program → (classes : List Name) (frames : List (Frame Declared))
      → spent program true (initialiser_frames program classes ++ frames) + count classes ≤ way * count classes + spent program true frames
  spent_frames short [] frames = omega arith
  spent_frames short (class ∷ classes) frames = by (has_initialiser program class) (spent_frames short classes frames) where
    by : (b : Bool) → spent program true (initialiser_frames program classes ++ frames) + count classes ≤ way * count classes + spent program true frames
        → spent program true (((if b then new_frame program (initialiser_of class) [] ∷ [] else []) ++ initialiser_frames program classes) ++ frames) + (one_if b + count classes)
        ≤ way * (one_if b + count classes) + spent program true frames
    by true rest = omega (arith, rest, short (initialiser_of class))
    by false rest = omega (arith, rest)

  -- ---- an initialisation

  abbrev pub InitSpends : State → Initialised → Type 0
  InitSpends s (Ready t) = (t.frames ≡ s.frames) × (begun program program s.initialised ≤ begun program program t.initialised)
  InitSpends s (Waits t) = suc (spent program true t.frames) + way * begun program program s.initialised ≤ spent program true s.frames + way * begun program program t.initialised
  InitSpends s (Fails outcome t) = ⊤

  pub initialise_spends : AreShort program → (prefix : Prefix) (terms : Terms) (class : Name) (s : State) → InitSpends s (initialise program prefix terms class s)
  unfolding initialise KeepsMore
  initialise_spends short prefix terms class s = go (constants_of program prefix terms (reverse fresh) marked) (all_constants_keep program prefix terms (reverse fresh) marked) where
    fresh : List Name
    fresh = not_initialised program s.initialised (chain program class)

    marked : State
    marked = record s { initialised = mark_all program (reverse fresh) s.initialised }

    begin_so : begun program program marked.initialised ≡ count fresh + begun program program s.initialised
    begin_so = begun_marks fresh s.initialised (initialised_once.differ program s.initialised (chain program class)) (initialised_once.not_before program s.initialised (chain program class))

    pushed : (t : State) → t.frames ≡ s.frames → t.initialised ≡ marked.initialised → (frames : List (Frame Declared)) → initialiser_frames program (reverse fresh) ≡ frames → InitSpends s (with_frames t frames)
    pushed t same flags [] e = (same, omega (arith, begin_so, ap (begun program program) flags))
    pushed t same flags (f ∷ frames) e = either_way (InitSpends s) (nat_lt most_frames (length (f ∷ frames) + length t.frames)) _ _ tt (omega (
      arith,
      begin_so,
      ap (begun program program) flags,
      count_reverse fresh,
      frames_count (reverse fresh),
      ap length e,
      spent_frames short (reverse fresh) s.frames,
      ap (λ (fs : List (Frame Declared)). spent program true (initialiser_frames program (reverse fresh) ++ fs)) same,
      ap (λ (fs : List (Frame Declared)). spent program true (fs ++ t.frames)) e,
    ))

    go : (i : Initialised) → KeepsMore marked i → InitSpends s (then_ready (λ next. with_frames next (initialiser_frames program (reverse fresh))) i)
    go (Ready t) k = pushed t k.0 k.1 (initialiser_frames program (reverse fresh)) refl
    go (Waits t) k = absurd k
    go (Fails outcome t) k = tt
