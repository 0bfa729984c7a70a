-- Initialisation in the rewritten program, whether Object is marked already or not.
use Rattle.std.proofs.Common.{◌≡◌, ℕ, ◌+◌, Bool, true, false, List, [], ◌∷◌, ◌++◌, map, length, reverse, Option, Some, None, nat_lt, refl, sym, ap, subst, ◌∙◌, inl, inr, if◌then◌else◌}
use Rattle.std.proofs.lemmas.List.{map-append, length-map}
use mathlib.Core.List.{reverse_aux}
use Rattle.std.specs.Option.{option_map}
use Rattle.std.specs.Cmp.Lexicographic.{bytes_decides}
use Rattle.dj_names.specs.trusted.Types.{Name, same_name}
use Rattle.dj_names.specs.Types.{in_sandbox, sandbox_prefix}
use Rattle.dj_model.specs.trusted.Types.{Declared, object_name}
use Rattle.dj_model.specs.trusted.Program.{Program, Field, Constant, Int, Long, Text, Unfit, class_at, fields_of, is_static, has_initialiser, initialiser_of}
use Rattle.dj_model.specs.Program.{field_map, program_map}
use Rattle.dj_model.specs.Mapping.{outcome_map}
use Rattle.dj_model.specs.trusted.Linking.{chain, static_place}
use Rattle.dj_model.specs.trusted.State.{Terms, Frame, State}
use Rattle.dj_model.specs.trusted.Members.{Kept, with_literal}
use Rattle.dj_model.specs.trusted.Initialisation.{new_frame, most_frames, is_initialised, mark, mark_all, not_initialised, Initialised, Ready, Waits, Fails, then_ready, with_text, with_constant, with_constants, constants_of, initialiser_frames, with_frames, initialise_all, initialise}
use Rattle.dj_model.proofs.MappedNames as names
use Rattle.dj_model.proofs.MappedMembers as members
use Rattle.dj_model.proofs.NameMaps.{sandbox_map}
use Rattle.dj_groups.specs.Rewritten.{rewritten_code}
use Rattle.dj_sim.specs.Simulation.{HasObject, frame_image, flags_image, state_image, initialised_image}
use Rattle.dj_sim.proofs.Places.{either}
use Rattle.dj_sim.proofs.Acts.{other, at, statics, new_frame_image}

-- ---- marks

mark_twice : (classes : Program) (class : Name) (flags : List Bool) → mark classes class (mark classes class flags) ≡ mark classes class flags
unfolding mark
mark_twice [] class flags = refl
mark_twice (c ∷ classes) class [] = refl
mark_twice (c ∷ classes) class (flag ∷ flags) = elim (either (same_name c.name class)) [ inl e ↦ rw (e, e) refl | inr e ↦ rw (e, e, mark_twice classes class flags) refl ]

pub mark_marked : (classes : Program) (class : Name) (flags : List Bool) → is_initialised classes (mark classes class flags) class ≡ true
unfolding mark is_initialised
mark_marked [] class flags = refl
mark_marked (c ∷ classes) class [] = refl
mark_marked (c ∷ classes) class (flag ∷ flags) = elim (either (same_name c.name class)) [ inl e ↦ rw (e, e) refl | inr e ↦ rw (e, e, mark_marked classes class flags) refl ]

apart : (a b n : Name) → same_name a b ≡ false → same_name n a ≡ true → same_name n b ≡ false
apart a b n differ e = ap (λ (x : Name). same_name x b) ((bytes_decides n a).0 e) ∙ differ

mark_other : (classes : Program) (a b : Name) (flags : List Bool) → same_name a b ≡ false → is_initialised classes (mark classes a flags) b ≡ is_initialised classes flags b
unfolding mark is_initialised
mark_other [] a b flags differ = refl
mark_other (c ∷ classes) a b [] differ = refl
mark_other (c ∷ classes) a b (flag ∷ flags) differ = elim (either (same_name c.name a)) [
  | inl e ↦ rw (e, apart a b c.name differ e) refl
  | inr e ↦ rw (e, mark_other classes a b flags differ) refl
]

marks_commute : (classes : Program) (a b : Name) (flags : List Bool) → mark classes a (mark classes b flags) ≡ mark classes b (mark classes a flags)
unfolding mark
marks_commute [] a b flags = refl
marks_commute (c ∷ classes) a b [] = refl
marks_commute (c ∷ classes) a b (flag ∷ flags) = elim (either (same_name c.name a)) [
  | inl e ↦ elim (either (same_name c.name b)) [ inl d ↦ rw (e, d, e) refl | inr d ↦ rw (e, d, e) refl ]
  | inr e ↦ elim (either (same_name c.name b)) [ inl d ↦ rw (e, d, e) refl | inr d ↦ rw (e, d, e, marks_commute classes a b flags) refl ]
]

-- ---- lists that are the same but for a class

-- the second list without some of the class o
data Sheds (o : Name) : List Name → List Name → Type 0 where
  none : Sheds o [] []
  keep : (c : Name) (xs ys : List Name) → Sheds o xs ys → Sheds o (c ∷ xs) (c ∷ ys)
  shed : (xs ys : List Name) → Sheds o xs ys → Sheds o xs (o ∷ ys)

same_sheds : (o : Name) (xs : List Name) → Sheds o xs xs
same_sheds o [] = none
same_sheds o (x ∷ xs) = keep x xs xs (same_sheds o xs)

reversed_sheds : (o : Name) (xs ys ks ls : List Name) → Sheds o xs ys → Sheds o ks ls → Sheds o (reverse_aux xs ks) (reverse_aux ys ls)
reversed_sheds o xs ys ks ls none t = t
reversed_sheds o xs ys ks ls (keep c us vs s) t = reversed_sheds o us vs (c ∷ ks) (c ∷ ls) s (keep c ks ls t)
reversed_sheds o xs ys ks ls (shed us vs s) t = reversed_sheds o us vs ks (o ∷ ls) s (shed ks ls t)

not_initialised_sheds : (program : Program) (o : Name) (flags : List Bool) (classes : List Name)
    → Sheds o (not_initialised program (mark program o flags) classes) (not_initialised program flags classes)
not_initialised_sheds program o flags [] = none
not_initialised_sheds program o flags (c ∷ classes) = go (same_name o c) refl (not_initialised_sheds program o (mark program o flags) classes) (not_initialised_sheds program o (mark program c flags) classes) where
  rest : Name → List Bool → List Name
  rest class f = not_initialised program (mark program class f) classes

  at_other : (b : Bool) → Sheds o (rest c (mark program o flags)) (rest c flags)
      → Sheds o ((if b then [] else c ∷ []) ++ rest c (mark program o flags)) ((if b then [] else c ∷ []) ++ rest c flags)
  at_other true s = s
  at_other false s = keep c _ _ s

  at_itself : (b : Bool) → Sheds o (rest o (mark program o flags)) (rest o flags) → Sheds o (rest o (mark program o flags)) ((if b then [] else o ∷ []) ++ rest o flags)
  at_itself true s = s
  at_itself false s = shed _ _ s

  go : (b : Bool) → same_name o c ≡ b → Sheds o (rest o (mark program o flags)) (rest o flags)
      → Sheds o (not_initialised program (mark program o (mark program c flags)) classes) (rest c flags)
      → Sheds o ((if is_initialised program (mark program o flags) c then [] else c ∷ []) ++ rest c (mark program o flags)) ((if is_initialised program flags c then [] else c ∷ []) ++ rest c flags)
  go true e same later =
      subst (λ (n : Name). Sheds o ((if is_initialised program (mark program o flags) n then [] else n ∷ []) ++ rest n (mark program o flags)) ((if is_initialised program flags n then [] else n ∷ []) ++ rest n flags))
      ((bytes_decides o c).0 e) (rw (mark_marked program o flags) (at_itself (is_initialised program flags o) same))
  go false e same later = rw (mark_other program o c flags e) (at_other (is_initialised program flags c) (rw (marks_commute program c o flags) later))

marked_sheds : (program : Program) (o : Name) (flags : List Bool) (xs ys : List Name) → Sheds o xs ys → mark_all program xs (mark program o flags) ≡ mark program o (mark_all program ys flags)
marked_sheds program o flags xs ys none = refl
marked_sheds program o flags xs ys (keep c us vs s) = ap (mark_all program us) (marks_commute program c o flags) ∙ marked_sheds program o (mark program c flags) us vs s
marked_sheds program o flags xs ys (shed us vs s) = ap (mark_all program xs) (sym (mark_twice program o flags)) ∙ marked_sheds program o (mark program o flags) us vs s

-- Object has nothing to initialise
module _ (program : Program) (base : HasObject program) (terms : Terms) where
  constants_sheds : (xs ys : List Name) → Sheds (object_name []) xs ys → (s : State) → constants_of program [] terms xs s ≡ constants_of program [] terms ys s
  unfolding constants_of with_constants
  constants_sheds xs ys none s = refl
  constants_sheds xs ys (keep c us vs t) s = go (λ s. constants_sheds us vs t s) (with_constants program [] terms c (fields_of (class_at program c)) s) where
    go : ((s : State) → constants_of program [] terms us s ≡ constants_of program [] terms vs s) → (i : Initialised) → then_ready (constants_of program [] terms us) i ≡ then_ready (constants_of program [] terms vs) i
    go more (Ready s) = more s
    go more (Waits s) = refl
    go more (Fails outcome s) = refl
  constants_sheds xs ys (shed us vs t) s = constants_sheds xs vs t s
      ∙ sym (ap (λ fields. then_ready (constants_of program [] terms vs) (with_constants program [] terms (object_name []) fields s)) (ap fields_of base.there ∙ base.fields))

  frames_sheds : (xs ys : List Name) → Sheds (object_name []) xs ys → initialiser_frames program xs ≡ initialiser_frames program ys
  frames_sheds xs ys none = refl
  frames_sheds xs ys (keep c us vs t) = ap (λ rest. (if has_initialiser program c then new_frame program (initialiser_of c) [] ∷ [] else []) ++ rest) (frames_sheds us vs t)
  frames_sheds xs ys (shed us vs t) = rw (base.quiet) (frames_sheds xs vs t)

  -- ---- in the rewritten program, with flags that are carried along

  abbrev carried : (List Bool → List Bool) → State → State
  carried φ s = record (state_image program false s) { initialised = φ s.initialised }

  abbrev carried_on : (List Bool → List Bool) → Initialised → Initialised
  carried_on φ (Ready s) = Ready (carried φ s)
  carried_on φ (Waits s) = Waits (carried φ s)
  carried_on φ (Fails outcome s) = Fails (outcome_map in_sandbox outcome) (carried φ s)

  module _ (φ : List Bool → List Bool) where
    then_carried : (next other_next : State → Initialised) → ((s : State) → other_next (carried φ s) ≡ carried_on φ (next s))
        → (i : Initialised) → then_ready other_next (carried_on φ i) ≡ carried_on φ (then_ready next i)
    then_carried next other_next e (Ready s) = e s
    then_carried next other_next e (Waits s) = refl
    then_carried next other_next e (Fails outcome s) = refl

    text_carried : (s : State) (place : ℕ) (units : List ℕ) (k : Option Kept)
        → with_text (carried φ s) place units (option_map (members.kept_map in_sandbox (rewritten_code program) [] sandbox_prefix sandbox_map program (other program) (at program) (statics program)) k)
        ≡ carried_on φ (with_text s place units k)
    text_carried s place units None = refl
    text_carried s place units (Some k) = refl

    constant_carried : (s : State) (place : ℕ) (constant : Option Constant) → with_constant sandbox_prefix terms (carried φ s) place constant ≡ carried_on φ (with_constant [] terms s place constant)
    constant_carried s place None = refl
    constant_carried s place (Some (Int z)) = refl
    constant_carried s place (Some (Long z)) = refl
    constant_carried s place (Some (Text units)) =
        rw (members.literal_mapped in_sandbox (rewritten_code program) [] sandbox_prefix sandbox_map program (other program) (at program) (statics program) terms.limit s.heap s.literals units)
        (text_carried s place units (with_literal terms.limit [] s.heap s.literals units))
    constant_carried s place (Some Unfit) = refl

    constants_carried : (class : Name) (fields : List Field) (s : State)
        → with_constants (other program) sandbox_prefix terms (in_sandbox class) (map (field_map in_sandbox) fields) (carried φ s) ≡ carried_on φ (with_constants program [] terms class fields s)
    unfolding with_constants
    constants_carried class [] s = refl
    constants_carried class (x ∷ fields) s =
        ap (then_ready (with_constants (other program) sandbox_prefix terms (in_sandbox class) (map (field_map in_sandbox) fields)))
        (rw (statics program class x.name x.desc, constant_carried s (static_place program class x.name x.desc) x.constant)
        (elim (either (is_static x.flags)) [ inl e ↦ rw e refl | inr e ↦ rw e refl ]))
        ∙ then_carried (with_constants program [] terms class fields) (with_constants (other program) sandbox_prefix terms (in_sandbox class) (map (field_map in_sandbox) fields))
        (constants_carried class fields) (if is_static x.flags then with_constant [] terms s (static_place program class x.name x.desc) x.constant else Ready s)

    all_carried : (classes : List Name) (s : State) → constants_of (other program) sandbox_prefix terms (map in_sandbox classes) (carried φ s) ≡ carried_on φ (constants_of program [] terms classes s)
    unfolding constants_of
    all_carried [] s = refl
    all_carried (class ∷ classes) s =
        ap (then_ready (constants_of (other program) sandbox_prefix terms (map in_sandbox classes)))
        (ap (λ fields. with_constants (other program) sandbox_prefix terms (in_sandbox class) fields (carried φ s))
        (ap fields_of (at program class) ∙ names.fields_mapped in_sandbox (rewritten_code program) [] sandbox_prefix sandbox_map (class_at program class))
        ∙ constants_carried class (fields_of (class_at program class)) s)
        ∙ then_carried (constants_of program [] terms classes) (constants_of (other program) sandbox_prefix terms (map in_sandbox classes)) (all_carried classes)
        (with_constants program [] terms class (fields_of (class_at program class)) s)

    frames_carried : (classes : List Name) → initialiser_frames (other program) (map in_sandbox classes) ≡ map (frame_image program) (initialiser_frames program classes)
    frames_carried [] = refl
    frames_carried (class ∷ classes) =
        rw (names.has_initialiser_alike in_sandbox (rewritten_code program) [] sandbox_prefix sandbox_map program (other program) (at program) class, new_frame_image program (initialiser_of class) [], frames_carried classes)
        (elim (either (has_initialiser program class)) [ inl e ↦ rw e refl | inr e ↦ rw e refl ])

    pushed_carried : (s : State) (frames : List (Frame Declared)) → with_frames (carried φ s) (map (frame_image program) frames) ≡ carried_on φ (with_frames s frames)
    pushed_carried s [] = refl
    pushed_carried s (x ∷ frames) =
        rw (length-map frames (frame_image program), length-map s.frames (frame_image program), ← map-append (frame_image program) frames s.frames)
        (elim (either (nat_lt most_frames (length (x ∷ frames) + length s.frames))) [ inl e ↦ rw e refl | inr e ↦ rw e refl ])

  -- ---- flags with those of the accounter and of the object that stops a run in front

  flags_alike : (classes : Program) (class : Name) (flags : List Bool) → is_initialised (program_map in_sandbox (rewritten_code program) classes) flags (in_sandbox class) ≡ is_initialised classes flags class
  unfolding is_initialised
  flags_alike [] class flags = refl
  flags_alike (c ∷ classes) class [] = refl
  flags_alike (c ∷ classes) class (flag ∷ flags) = rw (names.same_names in_sandbox (rewritten_code program) [] sandbox_prefix sandbox_map c.name class, flags_alike classes class flags) refl

  mark_alike : (classes : Program) (class : Name) (flags : List Bool) → mark (program_map in_sandbox (rewritten_code program) classes) (in_sandbox class) flags ≡ mark classes class flags
  unfolding mark
  mark_alike [] class flags = refl
  mark_alike (c ∷ classes) class [] = refl
  mark_alike (c ∷ classes) class (flag ∷ flags) = rw (names.same_names in_sandbox (rewritten_code program) [] sandbox_prefix sandbox_map c.name class, mark_alike classes class flags) refl

  pub flag_there : (a b : Bool) (flags : List Bool) (class : Name) → is_initialised (other program) (a ∷ b ∷ flags) (in_sandbox class) ≡ is_initialised program flags class
  unfolding is_initialised
  flag_there a b flags class = flags_alike program class flags

  pub mark_there : (a b : Bool) (class : Name) (flags : List Bool) → mark (other program) (in_sandbox class) (a ∷ b ∷ flags) ≡ a ∷ b ∷ mark program class flags
  unfolding mark
  mark_there a b class flags = ap (λ more. a ∷ b ∷ more) (mark_alike program class flags)

  marks_there : (a b : Bool) (classes : List Name) (flags : List Bool) → mark_all (other program) (map in_sandbox classes) (a ∷ b ∷ flags) ≡ a ∷ b ∷ mark_all program classes flags
  marks_there a b [] flags = refl
  marks_there a b (class ∷ classes) flags = ap (mark_all (other program) (map in_sandbox classes)) (mark_there a b class flags) ∙ marks_there a b classes (mark program class flags)

  pending_there : (a b : Bool) (flags : List Bool) (classes : List Name) → not_initialised (other program) (a ∷ b ∷ flags) (map in_sandbox classes) ≡ map in_sandbox (not_initialised program flags classes)
  pending_there a b flags [] = refl
  pending_there a b flags (class ∷ classes) =
      rw (flag_there a b flags class, mark_there a b class flags, pending_there a b (mark program class flags) classes)
      (elim (either (is_initialised program flags class)) [ inl e ↦ rw e refl | inr e ↦ rw e refl ])

  reversed_onto : (xs acc : List Name) → map in_sandbox (reverse_aux xs acc) ≡ reverse_aux (map in_sandbox xs) (map in_sandbox acc)
  reversed_onto [] acc = refl
  reversed_onto (x ∷ xs) acc = reversed_onto xs (x ∷ acc)

  -- ---- the whole

  all_at : (touched : Bool) (xs ys : List Name) (s : State) → Sheds (object_name []) xs ys
      → mark_all (other program) (map in_sandbox xs) (flags_image program touched s.initialised) ≡ flags_image program touched (mark_all program ys s.initialised)
      → initialise_all (other program) sandbox_prefix terms (map in_sandbox xs) (state_image program touched s) ≡ initialised_image program touched (initialise_all program [] terms ys s)
  all_at touched xs ys s sheds marked =
      let φ : List Bool → List Bool = λ flags. flags_image program touched flags in
      let m : State = record s { initialised = mark_all program ys s.initialised } in
      rw (marked, all_carried φ xs m, constants_sheds xs ys sheds m)
      (then_carried φ (λ next. with_frames next (initialiser_frames program ys)) (λ next. with_frames next (initialiser_frames (other program) (map in_sandbox xs)))
      (λ next. ap (with_frames (carried φ next)) (frames_carried φ xs ∙ ap (map (frame_image program)) (frames_sheds xs ys sheds)) ∙ pushed_carried φ next (initialiser_frames program ys))
      (constants_of program [] terms ys m)
      ∙ same_on (then_ready (λ next. with_frames next (initialiser_frames program ys)) (constants_of program [] terms ys m))) where
        same_on : (i : Initialised) → carried_on (λ flags. flags_image program touched flags) i ≡ initialised_image program touched i
        same_on (Ready s) = refl
        same_on (Waits s) = refl
        same_on (Fails outcome s) = refl

  pub initialises : (touched : Bool) (class : Name) (s : State)
      → initialise (other program) sandbox_prefix terms (in_sandbox class) (state_image program touched s) ≡ initialised_image program touched (initialise program [] terms class s)
  unfolding initialise
  initialises touched class s =
      ap (λ classes. initialise_all (other program) sandbox_prefix terms (reverse (not_initialised (other program) (flags_image program touched s.initialised) classes)) (state_image program touched s))
      (names.chain_mapped in_sandbox (rewritten_code program) [] sandbox_prefix sandbox_map program (other program) (at program) class)
      ∙ by touched where
        classes : List Name
        classes = chain program class

        pending : List Bool → List Name
        pending flags = not_initialised program flags (chain program class)

        turned : (a b : Bool) (flags : List Bool) → reverse (not_initialised (other program) (a ∷ b ∷ flags) (map in_sandbox (chain program class))) ≡ map in_sandbox (reverse (not_initialised program flags (chain program class)))
        turned a b flags = ap (λ (names : List Name). reverse names) (pending_there a b flags (chain program class)) ∙ sym (reversed_onto (not_initialised program flags (chain program class)) [])

        by : (touched : Bool)
            → initialise_all (other program) sandbox_prefix terms (reverse (not_initialised (other program) (flags_image program touched s.initialised) (map in_sandbox (chain program class)))) (state_image program touched s)
            ≡ initialised_image program touched (initialise_all program [] terms (reverse (not_initialised program s.initialised (chain program class))) s)
        by false =
            let ys : List Name = reverse (not_initialised program s.initialised (chain program class)) in
            ap (λ (names : List Name). initialise_all (other program) sandbox_prefix terms names (state_image program false s)) (turned false false s.initialised)
            ∙ all_at false ys ys s (same_sheds (object_name []) ys) (marks_there false false ys s.initialised)
        by true =
            let o : Name = object_name [] in
            let xs : List Name = reverse (not_initialised program (mark program o s.initialised) (chain program class)) in
            let ys : List Name = reverse (not_initialised program s.initialised (chain program class)) in
            let sheds : Sheds o xs ys = reversed_sheds o _ _ [] [] (not_initialised_sheds program o s.initialised (chain program class)) none in
            ap (λ (names : List Name). initialise_all (other program) sandbox_prefix terms names (state_image program true s)) (turned true false (mark program o s.initialised))
            ∙ all_at true xs ys s sheds (marks_there true false xs (mark program o s.initialised) ∙ ap (λ more. true ∷ false ∷ more) (marked_sheds program o s.initialised xs ys sheds))
