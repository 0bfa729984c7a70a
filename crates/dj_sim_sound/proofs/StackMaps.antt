-- The stack map of rewritten code is the code's, with each frame where the group of its instruction starts.
use Rattle.std.proofs.Common.{◌≡◌, ℕ, ◌+◌, ◌<◌, ◌≤◌, ◌&&◌, true, List, [], ◌∷◌, map, length, Option, Some, None, nat_le, slice_get, refl, sym, ap, subst, ◌∙◌, arith, Contains}
use Rattle.std.specs.Prelude.{slice_index}
use Rattle.std.specs.Option.{option_map}
use Rattle.std.specs.List.{AllByRecursion}
use Rattle.std.proofs.lemmas.Bool.Decides.{nat_tests}
use Rattle.std.proofs.lemmas.List.FromFn.{get_or-map-range_with_len}
use Rattle.std.proofs.lemmas.Option.{none-some, slice_get_within}
use Rattle.dj_names.specs.declared.descriptor.Kind.{Kind}
use Rattle.dj_ops.specs.declared.frames.VType.{VType}
use Rattle.dj_ops.specs.declared.frames.VType.TheVariants as types
use Rattle.dj_ops.specs.declared.frames.Form.{Form}
use Rattle.dj_ops.specs.declared.frames.Form.TheVariants as forms
use Rattle.dj_ops.specs.declared.frames.Frame.{Frame}
use Rattle.dj_frames.specs.Moves.{moved_type, moved_form, moved_frame}
use Rattle.dj_model.specs.trusted.Instructions.{Instruction}
use Rattle.dj_model.specs.trusted.Program.{Program, Code}
use Rattle.dj_model.specs.trusted.Kinds.{Signature, Kinds, depth, entry_slots, Entry, Of, NoEntry, made_by, entry_of, with_entry, entries_of, stack_of, Entries, with_locals, with_stack, full_entries, form_entries, fitting, Placed, Map, Read, Faulty, NoMap, and_then, with_fitting, with_frame, frames_after, parameter_entries, frames_in, map_of}
use Rattle.dj_model.proofs.Standing.{some_if}
use Rattle.dj_model.proofs.SoundLinks.{both_parts, here, later}
use Rattle.dj_groups.specs.Groups.{Group, groups_of, start, own, starts, owns}
use Rattle.dj_groups.specs.Rewritten.{in_groups, rewritten_code}
use Rattle.dj_sim.proofs.Acts.{as_many_groups, itself_at}
use Rattle.dj_sim_sound.proofs.Befores.{at_start, makes_alike}
use Rattle.dj_sim_sound.proofs.Fits.{Fits, fitting_fits}

module _ (program : Program) (code : Code) where
  abbrev gs : List Group
  gs = groups_of program code

  abbrev code_now : Code
  code_now = rewritten_code program code

  pub start_index : (n : ℕ) → n ≤ length code.instructions → slice_index (starts gs) n ≡ start gs n
  start_index n l = get_or-map-range_with_len (start gs) 0 (length gs + 1) n n 0 (omega (arith, l, as_many_groups program code)) (omega arith)

  own_index : (n : ℕ) → n < length code.instructions → slice_index (owns gs) n ≡ own gs n
  own_index n l = get_or-map-range_with_len (own gs) 0 (length gs + 1) n n 0 (omega (arith, l, as_many_groups program code)) (omega arith)

  -- ---- entries

  entry_moved : (type : VType) (kind : Option Kind) → entry_of code type ≡ Of kind → entry_of code_now (moved_type (owns gs) type) ≡ Of kind
  entry_moved (types.Uninitialized n) kind e = by (slice_get code.instructions n) refl e where
    by : (o : Option Instruction) → slice_get code.instructions n ≡ o → made_by o ≡ Of kind → made_by (slice_get code_now.instructions (slice_index (owns gs) n)) ≡ Of kind
    by None is e = absurd cc
    by (Some i) is e = rw (own_index n (slice_get_within code.instructions n i is), itself_at program code n, is, makes_alike (start gs) i) e
  entry_moved type kind e = e

  with_entry_moved : (type : VType) (types : List VType) (entries : List (Option Kind)) (one : Entry) (more : Option (List (Option Kind)))
      → entry_of code type ≡ one → ((rest : List (Option Kind)) → more ≡ Some rest → entries_of code_now (map (moved_type (owns gs)) types) ≡ Some rest) → with_entry one more ≡ Some entries
      → with_entry (entry_of code_now (moved_type (owns gs) type)) (entries_of code_now (map (moved_type (owns gs)) types)) ≡ Some entries
  with_entry_moved type types entries (Of kind) (Some rest) is are e = rw (entry_moved type kind is, are rest refl) e
  with_entry_moved type types entries (Of kind) None is are e = absurd cc
  with_entry_moved type types entries NoEntry more is are e = absurd cc

  entries_moved : (types : List VType) (entries : List (Option Kind)) → entries_of code types ≡ Some entries → entries_of code_now (map (moved_type (owns gs)) types) ≡ Some entries
  entries_moved [] entries e = e
  entries_moved (type ∷ types) entries e = with_entry_moved type types entries (entry_of code type) (entries_of code types) refl (entries_moved types) e

  -- what is made of entries, where there are such
  of_entries : {B : Type 0} (h : Option (List (Option Kind)) → Option B) (types : List VType) (b : B) → h None ≡ None → h (entries_of code types) ≡ Some b
      → h (entries_of code_now (map (moved_type (owns gs)) types)) ≡ Some b
  of_entries {B = B} h types b none e = by (entries_of code types) refl e where
    by : (o : Option (List (Option Kind))) → entries_of code types ≡ o → h o ≡ Some b → h (entries_of code_now (map (moved_type (owns gs)) types)) ≡ Some b
    by None is e = absurd (none-some b (sym none ∙ e))
    by (Some entries) is e = ap h (entries_moved types entries is) ∙ e

  no_stack : (o : Option (List (Option Kind))) → full_entries o None ≡ None
  no_stack None = refl
  no_stack (Some locals) = refl

  form_moved : (before : List (Option Kind)) (form : Form) (e : Entries) → form_entries code before form ≡ Some e → form_entries code_now before (moved_form (owns gs) form) ≡ Some e
  form_moved before forms.Same e is = is
  form_moved before (forms.Stack1 type) e is = of_entries (with_stack before) (type ∷ []) e refl is
  form_moved before (forms.Chop n) e is = is
  form_moved before (forms.Append more) e is = of_entries (with_locals before) more e refl is
  form_moved before (forms.Full locals stack) e is =
      of_entries (full_entries (entries_of code_now (map (moved_type (owns gs)) locals))) stack e (no_stack (entries_of code_now (map (moved_type (owns gs)) locals)))
      (of_entries (λ o. full_entries o (entries_of code stack)) locals e refl is)

  -- ---- frames

  fitting_moved : (locals : List (Option Kind)) (stack : Option (List Kind)) (k : Kinds) → fitting code locals stack ≡ Some k → fitting code_now locals stack ≡ Some k
  unfolding rewritten_code in_groups
  fitting_moved locals None k e = absurd cc
  fitting_moved locals (Some stack) k e =
      let few = nat_le (length (entry_slots locals)) code.max_locals in
      let p = some_if (few && nat_le (depth stack) code.max_stack) _ k e in
      let f = both_parts few (nat_le (depth stack) code.max_stack) p.0 in
      let deep : nat_le (depth stack) (code.max_stack + 2) ≡ true = grind (arith, nat_tests, f.1) in
      rw (f.0, deep) p.1

  -- each frame is at the group's start, and its operands fit
  pub record Moved (placed : List Placed) (m : Map) : Type 0 where
    pub read : m ≡ Read (map (at_start gs) placed)
    pub fit : AllByRecursion (λ (p : Placed). Fits code p.kinds) placed

  and_then_moved : (at : ℕ) (k : Kinds) (m now : Map) (placed : List Placed) → Fits code k → ((more : List Placed) → m ≡ Read more → Moved more now)
      → and_then (record { at = at; kinds = k }) m ≡ Read placed → Moved placed (and_then (record { at = start gs at; kinds = k }) now)
  and_then_moved at k (Faulty other) now placed fits each e = absurd cc
  and_then_moved at k NoMap now placed fits each e = absurd cc
  and_then_moved at k (Read more) now placed fits each e =
      let is : record { at = at; kinds = k } ∷ more ≡ placed = cc in
      let later : Moved more now = each more refl in
      subst (λ (ps : List Placed). Moved ps (and_then (record { at = start gs at; kinds = k }) now)) is
      (record { read = ap (and_then (record { at = start gs at; kinds = k })) later.read; fit = (fits, later.fit) })

  with_fitting_moved : (at : ℕ) (locals : List (Option Kind)) (stack : Option (List Kind)) (k : Option Kinds) (m now : Map) (placed : List Placed) → fitting code locals stack ≡ k
      → ((more : List Placed) → m ≡ Read more → Moved more now) → with_fitting at k m ≡ Read placed → Moved placed (with_fitting (start gs at) (fitting code_now locals stack) now)
  with_fitting_moved at locals stack None m now placed is each e = absurd cc
  with_fitting_moved at locals stack (Some k) m now placed is each e =
      rw (fitting_moved locals stack k is) (and_then_moved at k m now placed (fitting_fits code locals stack k is) each e)

  frames_moved : (before : List (Option Kind)) (frames : List Frame) (placed : List Placed) → ((f : Frame) → Contains frames f → f.at < length code.instructions)
      → frames_after code before frames ≡ Read placed → Moved placed (frames_after code_now before (map (moved_frame (starts gs) (owns gs)) frames))
  unfolding frames_after
  frames_moved before [] placed low e =
      let none : [] ≡ placed = cc in
      subst (λ (ps : List Placed). Moved ps (Read [])) none (record { read = refl; fit = tt })
  frames_moved before (f ∷ rest) placed low e =
      by (form_entries code before f.form) refl (λ locals more is. frames_moved locals rest more (λ g c. low g (later g f rest c)) is) e where
        by : (entries : Option Entries) → form_entries code before f.form ≡ entries
            → ((locals : List (Option Kind)) (more : List Placed) → frames_after code locals rest ≡ Read more
            → Moved more (frames_after code_now locals (map (moved_frame (starts gs) (owns gs)) rest)))
            → with_frame code f.at entries (λ locals. frames_after code locals rest) ≡ Read placed
            → Moved placed (with_frame code_now (slice_index (starts gs) f.at) (form_entries code_now before (moved_form (owns gs) f.form))
            (λ locals. frames_after code_now locals (map (moved_frame (starts gs) (owns gs)) rest)))
        by None is each e = absurd cc
        by (Some entries) is each e =
            let small : f.at ≤ length code.instructions = omega (arith, low f (here f rest)) in
            rw (start_index f.at small, form_moved before f.form entries is)
            (with_fitting_moved f.at entries.locals (stack_of entries.stack) (fitting code entries.locals (stack_of entries.stack)) (frames_after code entries.locals rest)
            (frames_after code_now entries.locals (map (moved_frame (starts gs) (owns gs)) rest)) placed refl (each entries.locals) e)

  pub map_moved : (signature : Signature) (placed : List Placed) → ((frames : List Frame) → code.frames ≡ Some frames → (f : Frame) → Contains frames f → f.at < length code.instructions)
      → map_of signature code ≡ Read placed → Moved placed (map_of signature code_now)
  unfolding rewritten_code in_groups
  map_moved signature placed low e = by code.frames refl e where
    by : (frames : Option (List Frame)) → code.frames ≡ frames → frames_in code (parameter_entries signature) frames ≡ Read placed
        → Moved placed (frames_in code_now (parameter_entries signature) (option_map (map (moved_frame (starts gs) (owns gs))) frames))
    by None is e = absurd cc
    by (Some frames) is e = frames_moved (parameter_entries signature) frames placed (low frames is) e
