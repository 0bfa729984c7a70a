-- The code of a method of a source that means a file, by the indexes that its pool finds.
use Rattle.std.proofs.Common.{◌≡◌, ℕ, ◌+◌, ◌<◌, ◌≤◌, ◌^◌, ◌&&◌, nat_le, ◌⊎◌, inl, inr, if◌then◌else◌, Bool, true, false, ℤ, pos, unsigned_abs, List, [], ◌∷◌, ◌++◌, length, map, Contains, Some, slice_get, refl, sym, ap, ◌∙◌, subst, arith, append_assoc}
use Rattle.std.specs.List.{flat_map, AllByRecursion, list_any, enumerate_from}
use Rattle.std.proofs.lemmas.Bool.{le-leb, cases_Bool, leb-true}
use Rattle.std.proofs.lemmas.Option.{slice_get-get_or}
use Rattle.std.proofs.lemmas.List.Elements.{Contains-append_left, Contains-append_right, Contains-append_cases, All-from_recursion}
use Rattle.std.proofs.lemmas.List.Concat.{flat_map-append}
use Rattle.dj_ops.specs.declared.instruction.Instr.{Instr}
use Rattle.dj_ops.specs.declared.instruction.Instr.TheVariants as instrs
use Rattle.dj_ops.specs.declared.frames.Frame as frames
use Rattle.dj_ops.specs.declared.frames.Form.{Form}
use Rattle.dj_ops.specs.trusted.Instructions.{IsProper}
use Rattle.dj_labels.specs.declared.labelled.Labelled.{Labelled}
use Rattle.dj_labels.specs.declared.labelled.Protected.{Protected}
use Rattle.dj_labels.specs.trusted.Labels.{HasNumbers, IsRange, address_of}
use Rattle.dj_labels.specs.Labels.{IsWellFormed}
use Rattle.dj_layout.specs.declared.laid.Laid.{Laid}
use Rattle.dj_layout.specs.trusted.Places.{starts_from, end_from}
use Rattle.dj_layout.specs.trusted.Layouts.{placed, placed_bytes, most_bytes, IsLaidOut}
use Rattle.dj_layout.proofs.Ends.{starts_length, ends_after}
use Rattle.dj_layout.proofs.Standing.{text_length}
use Rattle.dj_frames.specs.trusted.StackMaps.{IsType, types_of, HasCounts}
use Rattle.dj_frames.specs.StackMaps.{AreWellFormed}
use Rattle.dj_frames.specs.StackMaps as maps
use Rattle.dj_class.specs.trusted.Code.{code_info_bytes}
use Rattle.dj_asm_source.specs.declared.syntax.Line as the_line
use Rattle.dj_asm_source.specs.LineViews.{line_view}
use Rattle.dj_asm_source.specs.trusted.Lines as lines
use Rattle.dj_asm_source.specs.trusted.Lines.{Operation, Plain, Push, Local, Increment, Load, LoadLong, Jump, Table, Lookup, Member, ClassOf, Array, Multi, Frame, IsFrame, IsSizedFrame, Line, Framed, Does, End, IsLine, IsSized}
use Rattle.dj_asm_source.specs.trusted.Sources.{Source, BodyPart, Mark, Step, FrameStep, MethodSource, Bodiless, Coded, head_lines, method_lines, body_lines, lines_of}
use Rattle.dj_asm_source.specs.trusted.Labels.{instruction_count, label_number, AreMethodLines, uses_of}
use Rattle.dj_asm_pool.specs.trusted.Entries.{Entry, same_entry, width, index_of}
use Rattle.dj_asm_pool.specs.trusted.Needs.{Need, needs, method_needs, methods_needs, needs_of, needed_entry, entries_of, index_in, literal_entry, member_entry, operation_entries, head_entries, instruction_entries, catch_entries, stack_map_entries, frame_entries}
use Rattle.dj_asm_pool.specs.Keys.{most_next}
use Rattle.dj_asm_pool.specs.Pooling.{found_index}
use Rattle.dj_asm.specs.trusted.Codes.{Places, is_interface_call, IsMemberInstr, IsInstrOf, operation_in, AreInstrsOf, ranges_in, form_of, frames_in, stack_map_of}
use Rattle.dj_asm.specs.trusted.Files.{places_of}
use Rattle.dj_asm_pool.specs.trusted.Room.{HasRoom, IsPastPool, NoLine}
use Rattle.dj_asm.specs.trusted.Large.{IsLongFrame, HasLongLists}
use Rattle.dj_asm.specs.CodeBodies.{IsProperIn, AreProperIn, CanBeCode, IsLaidFor, IsCodeBody}
use Rattle.dj_asm.proofs.Deciding.{stable, proper_or_not}
use Rattle.dj_asm_pool.proofs.Members.{none_in, in_here, in_cases, in_flat_map, each_in, each_from}
use Rattle.dj_asm_pool.proofs.EntryLaws.{once_has}
use Rattle.dj_asm_pool.proofs.SourcePool.{entry_has_room}
use Rattle.dj_asm_pool.proofs.NamedEntries.{IsNeeded, left, right, line_needs}
use Rattle.dj_asm_pool.proofs.PoolSteps.{any_in}
use Rattle.dj_asm.proofs.BodyLabels.{IsNumbered, uses_numbered, count_append, count_cons}
use Rattle.dj_asm.proofs.BodyCode.{each_instr, code_count, targets_within, ranges_within}
use Rattle.dj_asm.proofs.FrameCode.{starts_rise, starts_below, in_order_rise, step_count, AreFramesFrom, part_frames, forms_hold, counts_hold, types_hold}

-- ---- what instructions need has an entry

method_line_needs : (place : ℕ) (all : List Line) (line : Line) (e : Entry) → Contains all line → Contains (instruction_entries line) e → IsNeeded (method_needs (enumerate_from place all)) e
method_line_needs place all line e h k =
    let placed = enumerate_from place all in
    let a = needs head_entries placed in
    let b = needs instruction_entries placed in
    let c = needs catch_entries placed in
    let d = needs stack_map_entries placed in
    left (a ++ b ++ c ++ d) (needs frame_entries placed) e (left (a ++ b ++ c) d e (left (a ++ b) c e (right a b e (line_needs instruction_entries place all line e h k))))

methods_line_needs : (place : ℕ) (methods : List MethodSource) (line : Line) (e : Entry) → Contains (flat_map method_lines methods) line → Contains (instruction_entries line) e → IsNeeded (methods_needs place methods) e
unfolding methods_needs
methods_line_needs place [] line e h k = absurd (none_in line h)
methods_line_needs place (method ∷ methods) line e h k = elim (Contains-append_cases (method_lines method) (flat_map method_lines methods) line h) [
  | inl here ↦ left (method_needs (enumerate_from place (method_lines method))) (methods_needs (place + length (method_lines method)) methods) e (method_line_needs place (method_lines method) line e here k)
  | inr more ↦ right (method_needs (enumerate_from place (method_lines method))) (methods_needs (place + length (method_lines method)) methods) e (methods_line_needs (place + length (method_lines method)) methods line e more k)
]

in_methods : (s : Source) (before : ℕ) (body : List Line) (line : Line) → AreMethodLines s before body → Contains body line → Contains (flat_map method_lines s.methods) line
in_methods s before body line at h =
    in_flat_map method_lines s.methods at.method line
    (subst (λ (ms : List MethodSource). Contains ms at.method) (sym at.methods) (Contains-append_right at.prefix (at.method ∷ at.rest) at.method (in_here at.method at.rest)))
    (subst (λ (ls : List Line). Contains ls line) at.lines_are h)

operation_has_entry : (s : Source) (before : ℕ) (body : List Line) (o : Operation) (e : Entry) → AreMethodLines s before body → Contains body (Does o) → Contains (operation_entries o) e → Contains (entries_of s) e
operation_has_entry s before body o e at h k =
    let first = needs head_entries (enumerate_from 0 (head_lines s)) in
    let more = methods_needs (length (head_lines s)) s.methods in
    once_has (map needed_entry (needs_of s)) e
    (right first more e (methods_line_needs (length (head_lines s)) s.methods (Does o) e (in_methods s before body (Does o) at h) k))

-- ---- the index that is found

abbrev or_zero : ℕ → Bool → ℕ
or_zero n b = if b then n else 0

found_here : (es : List Entry) (e : Entry) → Contains es e → HasRoom (index_of es e) e → found_index es e ≡ index_of es e
unfolding found_index
found_here es e h room =
    let last = room.last in
    ap (λ b. or_zero (index_of es e) (b && nat_le (index_of es e + width e) most_next)) (any_in es e h)
    ∙ ap (or_zero (index_of es e)) (le-leb (index_of es e + width e) most_next (omega (arith, last)))

zero_or : (n : ℕ) (b : Bool) → (b ≡ true → n < 2 ^ 16) → or_zero n b < 2 ^ 16
zero_or n true h = h refl
zero_or n false h = omega arith

both_true : (a b : Bool) → (a && b) ≡ true → b ≡ true
both_true true b e = e
both_true false b e = absurd cc

pub found_below : (es : List Entry) (e : Entry) → found_index es e < 2 ^ 16
unfolding found_index
found_below es e =
    let test = nat_le (index_of es e + width e) most_next in
    zero_or (index_of es e) (list_any (same_entry e) es && test)
    (λ t. let le = leb-true (index_of es e + width e) most_next (both_true (list_any (same_entry e) es) test t) in omega (arith, le))

-- ---- instructions by other indexes

module _ (number : lines.Label → ℕ) (f g : Entry → ℕ) where
  abbrev one : Places
  one = record { number = number; index = f }

  abbrev other : Places
  other = record { number = number; index = g }

  member_same : (interface : Bool) (op j k : ℕ) (desc : List ℕ) (i : Instr) → j ≡ k → IsMemberInstr interface op j desc i → IsMemberInstr interface op k desc i
  member_same interface op j k desc i e is = subst (λ (n : ℕ). IsMemberInstr interface op n desc i) e is

  pub instr_same : (o : Operation) (i : Instr) → AllByRecursion (λ e. f e ≡ g e) (operation_entries o) → IsInstrOf one o i → IsInstrOf other o i
  instr_same (Plain op) i same is = is
  instr_same (Push op n) i same is = is
  instr_same (Local wide op slot) i same is = is
  instr_same (Increment wide slot by) i same is = is
  instr_same (Load op literal) i same is = subst (λ (k : ℕ). i ≡ instrs.Literal op k) same.0 is
  instr_same (LoadLong n) i same is = subst (λ (k : ℕ). i ≡ instrs.Literal 20 k) same.0 is
  instr_same (Jump op label) i same is = is
  instr_same (Table low labels default) i same is = is
  instr_same (Lookup pairs default) i same is = is
  instr_same (Member op class name desc interface) i same is =
      let e = member_entry op class name desc interface in
      member_same (is_interface_call op) op (f e) (g e) desc i same.0 is
  instr_same (lines.Dynamic n name desc) i same is = subst (λ (k : ℕ). i ≡ instrs.Dynamic k) same.0 is
  instr_same (ClassOf op class) i same is = subst (λ (k : ℕ). i ≡ instrs.Class op k) same.0 is
  instr_same (Array base) i same is = is
  instr_same (Multi desc dims) i same is = subst (λ (k : ℕ). i ≡ instrs.Multi k (unsigned_abs dims)) same.0 is

-- ---- how many instructions parts have

asides_counted : (asides : List lines.Aside) (more : List Line) → instruction_count (map lines.Beside asides ++ more) ≡ instruction_count more
asides_counted [] more = refl
asides_counted (aside ∷ asides) more = let c = count_cons (lines.Beside aside) (map lines.Beside asides ++ more) in let m = asides_counted asides more in omega (arith, c, m)

parts_counted : (parts : List BodyPart) → instruction_count (body_lines parts) ≡ step_count parts
parts_counted [] = refl
parts_counted (Mark aside ∷ parts) = let c = count_cons (lines.Beside aside) (body_lines parts) in let m = parts_counted parts in omega (arith, c, m)
parts_counted (Step operation ∷ parts) = let c = count_cons (Does operation) (body_lines parts) in let m = parts_counted parts in omega (arith, c, m)
parts_counted (FrameStep frame asides operation ∷ parts) =
    let part = Framed frame ∷ (map lines.Beside asides ++ Does operation ∷ []) in
    let both = count_append part (body_lines parts) in
    let first = count_cons (Framed frame) (map lines.Beside asides ++ Does operation ∷ []) in
    let middle = asides_counted asides (Does operation ∷ []) in
    let m = parts_counted parts in
    let last = count_cons (Does operation) [] in
    omega (arith, both, first, middle, last, m)

steps_counted : (parts : List BodyPart) → instruction_count (body_lines parts ++ End ∷ []) ≡ step_count parts
steps_counted parts =
    let both = count_append (body_lines parts) (End ∷ []) in
    let last = count_cons End [] in
    let m = parts_counted parts in
    omega (arith, both, last, m)

-- ---- a method that can be code

module _ (kept : List Entry) (body : List Line) (can : CanBeCode kept body) where
  abbrev s : Source
  s = can.source

  abbrev found : Places
  found = places_of (found_index kept) body

  no_past : NoLine (IsPastPool s)
  no_past place past = can.fits place (inl past)

  found_same : (e : Entry) → Contains (entries_of s) e → found_index kept e ≡ index_in s e
  found_same e h =
      ap (λ (es : List Entry). found_index es e) can.kept_is
      ∙ found_here (entries_of s) e h (entry_has_room s no_past e h)

  stands_in : (prefix : List Line) (line : Line) (rest : List Line) → body ≡ prefix ++ line ∷ rest → Contains body line
  stands_in prefix line rest e = subst (λ (ls : List Line). Contains ls line) (sym e) (Contains-append_right prefix (line ∷ rest) line (in_here line rest))

  -- each instruction is proper
  proper_line : (prefix : List Line) (o : Operation) (rest : List Line) → body ≡ prefix ++ Does o ∷ rest → IsProperIn found o
  proper_line prefix o rest e i is =
      let here = stands_in prefix (Does o) rest e in
      let same : AllByRecursion (λ x. found_index kept x ≡ index_in s x) (operation_entries o) =
      each_from (λ x. found_index kept x ≡ index_in s x) (operation_entries o) (λ x k. found_same x (operation_has_entry s can.before body o x can.in_method here k)) in
      let is_instr = instr_same (label_number body) (found_index kept) (index_in s) o i same is in
      stable (proper_or_not i) (λ improper. can.fits (can.before + length prefix) (inr (inl (record {
        body = body;
        prefix = prefix;
        operation = o;
        at = record { before = can.before; in_method = can.in_method; rest = rest; parts = e; place_is = refl };
        instr = i;
        is_instr = is_instr;
        improper = improper;
      }))))

  proper_from : (prefix rest : List Line) → body ≡ prefix ++ rest → AreProperIn found (flat_map operation_in rest)
  proper_from prefix [] e = tt
  proper_from prefix (Does o ∷ rest) e = (proper_line prefix o rest e, proper_from (prefix ++ Does o ∷ []) rest (e ∙ sym (append_assoc prefix (Does o ∷ []) rest)))
  proper_from prefix (line ∷ rest) e = proper_from (prefix ++ line ∷ []) rest (e ∙ sym (append_assoc prefix (line ∷ []) rest))

  pub all_proper : AreProperIn found (flat_map operation_in body)
  all_proper = proper_from [] body refl

  -- labels are met
  met : (prefix : List Line) (line : Line) (rest : List Line) → body ≡ prefix ++ line ∷ rest → AllByRecursion (IsNumbered body) (uses_of line)
  met prefix line rest e = uses_numbered s can.before body prefix line rest can.labelled can.in_method e

  pub code_well_formed : (labelled : Labelled) → AreInstrsOf found body labelled.code → labelled.ranges ≡ flat_map (ranges_in found) body → IsWellFormed labelled
  code_well_formed labelled are ranges =
      let size : instruction_count body ≡ length labelled.code = sym (code_count found body labelled.code are) in
      record {
        proper = each_instr found IsProper body labelled.code are (λ prefix o rest i e is. proper_line prefix o rest e i is);
        targets = subst (λ (n : ℕ). AllByRecursion (HasNumbers n) labelled.code) size
            (each_instr found (HasNumbers (instruction_count body)) body labelled.code are (λ prefix o rest i e is. targets_within (found_index kept) body o i is (met prefix (Does o) rest e)));
        ranges = subst (λ (rs : List Protected). AllByRecursion (IsRange (length labelled.code)) rs) (sym ranges)
            (subst (λ (n : ℕ). AllByRecursion (IsRange n) (flat_map (ranges_in found) body)) size (ranges_within (found_index kept) body [] body refl met));
      }

  -- ---- frames

  in_lines : (line : Line) → Contains body line → Contains (lines_of s) line
  in_lines line h = Contains-append_right (head_lines s) (flat_map method_lines s.methods) line (in_methods s can.before body line can.in_method h)

  short_lists : (frame : Frame) → Contains body (Framed frame) → HasLongLists frame → ⊥
  short_lists frame h long =
      let at = in_lines (Framed frame) h in
      can.fits at.0 (inr (inr (inr (inr (inr (inr (record { frame = frame; at = slice_get-get_or (lines_of s) at.0 (Framed frame) at.1 ∙ ap Some at.2; long = long })))))))

  frame_counts : (frame : Frame) → Contains body (Framed frame) → HasCounts (form_of found frame)
  frame_counts frame h =
      let at = in_lines (Framed frame) h in
      counts_hold found frame (each_in IsLine (lines_of s) (Framed frame) can.allowed.0 at) (each_in IsSized (lines_of s) (Framed frame) can.allowed.1 at) (short_lists frame h)

  framed_uses : (prefix rest : List Line) (P : Line → Type 0) → body ≡ prefix ++ rest → ((before : List Line) (line : Line) (after : List Line) → body ≡ before ++ line ∷ after → P line) → AllByRecursion P rest
  framed_uses prefix [] P e h = tt
  framed_uses prefix (line ∷ rest) P e h = (h prefix line rest e, framed_uses (prefix ++ line ∷ []) rest P (e ∙ sym (append_assoc prefix (line ∷ []) rest)) h)

  each_line : (P : Line → Type 0) → ((before : List Line) (line : Line) (after : List Line) → body ≡ before ++ line ∷ after → P line) → AllByRecursion P body
  each_line P h = framed_uses [] body P refl h

  counts_all : AllByRecursion (λ (frame : frames.Frame). HasCounts frame.form) (frames_in found 0 body)
  counts_all =
      forms_hold HasCounts found 0 body (each_line (λ line. (frame : Frame) → line ≡ Framed frame → HasCounts (form_of found frame))
      (λ before line after e frame is. frame_counts frame (subst (λ l. Contains body l) is (stands_in before line after e))))

  types_all : (starts : List ℕ) → length starts ≡ instruction_count body → AllByRecursion (λ address. address < 2 ^ 16) starts
      → AllByRecursion (λ (frame : frames.Frame). AllByRecursion (IsType starts) (types_of frame.form)) (frames_in found 0 body)
  types_all starts many below =
      forms_hold (λ form. AllByRecursion (IsType starts) (types_of form)) found 0 body (each_line (λ line. (frame : Frame) → line ≡ Framed frame → AllByRecursion (IsType starts) (types_of (form_of found frame)))
      (λ before line after e frame is.
      types_hold (found_index kept) body starts (found_below kept) many below frame (subst (λ l. AllByRecursion (IsNumbered body) (uses_of l)) is (met before line after e))))

  abbrev AreFrames : ℕ → List Line → Type 0
  AreFrames n ls = AreFramesFrom 0 n n (frames_in found 0 ls)

  coded_count : (flags : ℕ) (name desc : List ℕ) (stack locals : ℤ) (ls : List Line) → instruction_count (lines.Method flags name desc ∷ lines.Stack stack ∷ lines.Locals locals ∷ ls) ≡ instruction_count ls
  coded_count flags name desc stack locals ls = let both = count_append (lines.Method flags name desc ∷ lines.Stack stack ∷ lines.Locals locals ∷ []) ls in omega (arith, both)

  method_frames : (method : MethodSource) → AreFrames (instruction_count (method_lines method)) (method_lines method)
  unfolding frames_in
  method_frames (Bodiless flags name desc) = record { in_order = tt; few = omega arith; within = tt }
  method_frames (Coded flags name desc stack locals parts) =
      subst (λ (n : ℕ). AreFramesFrom 0 n n (frames_in found 0 (body_lines parts ++ End ∷ []))) (sym (coded_count flags name desc stack locals (body_lines parts ++ End ∷ []) ∙ steps_counted parts)) (part_frames found (step_count parts) 0 parts (omega arith))

  body_frames : AreFrames (instruction_count body) body
  body_frames = subst (λ (ls : List Line). AreFrames (instruction_count ls) ls) (sym can.in_method.lines_are) (method_frames can.in_method.method)

  all_formed : (starts : List ℕ) (fs : List frames.Frame) → AllByRecursion (λ (frame : frames.Frame). frame.at < length starts) fs → AllByRecursion (λ (frame : frames.Frame). HasCounts frame.form) fs
      → AllByRecursion (λ (frame : frames.Frame). AllByRecursion (IsType starts) (types_of frame.form)) fs → AllByRecursion (maps.IsWellFormed starts) fs
  all_formed starts [] within counts types = tt
  all_formed starts (frame ∷ fs) within counts types =
      (record { number = within.0; counts = counts.0; types = All-from_recursion (IsType starts) (types_of frame.form) types.0 }, all_formed starts fs within.1 counts.1 types.1)

  pub frames_well_formed : (labelled : Labelled) (laid : Laid) → AreInstrsOf found body labelled.code → IsLaidOut labelled laid → AreWellFormed laid.starts (frames_in found 0 body)
  frames_well_formed labelled laid are out =
      let starts = starts_from 0 labelled.code in
      let size : 0 + length laid.code ≡ end_from 0 labelled.code =
      ap (λ (bytes : List ℕ). 0 + length bytes) (out.code ∙ ap (λ (ss : List ℕ). flat_map placed_bytes (placed ss labelled.code)) out.starts) ∙ text_length (address_of starts) 0 labelled.code in
      let short = out.short in
      let below : AllByRecursion (λ address. address < 2 ^ 16) starts = starts_below most_bytes 0 labelled.code (omega (arith, size, short)) (omega arith) in
      let count = code_count found body labelled.code are in
      let many : length starts ≡ instruction_count body = starts_length 0 labelled.code ∙ count in
      let ends = ends_after 0 labelled.code in
      let ordered = body_frames in
      let few = ordered.few in
      subst (λ (ss : List ℕ). AreWellFormed ss (frames_in found 0 body)) (sym out.starts) (record {
        starts_rise = starts_rise 0 labelled.code;
        addresses = All-from_recursion (λ address. address < 2 ^ 16) starts below;
        count = omega (arith, few, count, ends, size, short);
        frames_rise = in_order_rise 0 (frames_in found 0 body) ordered.in_order;
        each = All-from_recursion (maps.IsWellFormed starts) (frames_in found 0 body)
            (all_formed starts (frames_in found 0 body) (subst (λ (n : ℕ). AllByRecursion (λ (frame : frames.Frame). frame.at < n) (frames_in found 0 body)) (sym many) ordered.within) counts_all (types_all starts many below));
      })

-- ---- of the code's lines

pub proper_lines : (kept : List Entry) (labels : List Line) (list : List the_line.Line) → labels ≡ map line_view list → CanBeCode kept (map line_view list)
    → AreProperIn (places_of (found_index kept) labels) (flat_map operation_in (map line_view list))
proper_lines kept labels list e can =
    subst (λ (ls : List Line). AreProperIn (places_of (found_index kept) ls) (flat_map operation_in (map line_view list))) (sym e) (all_proper kept (map line_view list) can)

pub lines_well_formed : (kept : List Entry) (labels : List Line) (list : List the_line.Line) (labelled : Labelled) → labels ≡ map line_view list → CanBeCode kept (map line_view list)
    → AreInstrsOf (places_of (found_index kept) labels) (map line_view list) labelled.code → labelled.ranges ≡ flat_map (ranges_in (places_of (found_index kept) labels)) (map line_view list)
    → IsWellFormed labelled
lines_well_formed kept labels list labelled e can are ranges =
    code_well_formed kept (map line_view list) can labelled
    (subst (λ (ls : List Line). AreInstrsOf (places_of (found_index kept) ls) (map line_view list) labelled.code) e are)
    (ranges ∙ ap (λ (ls : List Line). flat_map (ranges_in (places_of (found_index kept) ls)) (map line_view list)) e)

pub lines_frames : (kept : List Entry) (labels : List Line) (list : List the_line.Line) (laid : Laid) (fs : List frames.Frame) → labels ≡ map line_view list → CanBeCode kept (map line_view list)
    → IsLaidFor (places_of (found_index kept) labels) (map line_view list) laid → fs ≡ frames_in (places_of (found_index kept) labels) 0 (map line_view list) → AreWellFormed laid.starts fs
lines_frames kept labels list laid fs e can out f =
    subst (AreWellFormed laid.starts) (sym (f ∙ ap (λ (ls : List Line). frames_in (places_of (found_index kept) ls) 0 (map line_view list)) e))
    (frames_well_formed kept (map line_view list) can out.labelled laid
    (subst (λ (ls : List Line). AreInstrsOf (places_of (found_index kept) ls) (map line_view list) out.labelled.code) e out.instructions) out.laid_out)

pub code_is : (kept : List Entry) (labels : List Line) (list : List the_line.Line) (laid : Laid) (fs : List frames.Frame) (stack locals : ℕ) (bytes : List ℕ) → labels ≡ map line_view list
    → IsLaidFor (places_of (found_index kept) labels) (map line_view list) laid → fs ≡ frames_in (places_of (found_index kept) labels) 0 (map line_view list)
    → ((body : List Line) → bytes ≡ code_info_bytes (record { max_stack = stack; max_locals = locals; code = laid.code; table = laid.table; attributes = stack_map_of (places_of (found_index kept) body) laid.starts fs }))
    → IsCodeBody (found_index kept) (pos stack) (pos locals) (map line_view list) bytes
code_is kept labels list laid fs stack locals bytes e out f spelled =
    let body = map line_view list in
    let places = places_of (found_index kept) body in
    record {
      code = record { max_stack = stack; max_locals = locals; code = laid.code; table = laid.table; attributes = stack_map_of places laid.starts (frames_in places 0 body) };
      is_code = record {
        labelled = out.labelled;
        instructions = subst (λ (ls : List Line). AreInstrsOf (places_of (found_index kept) ls) body out.labelled.code) e out.instructions;
        ranges = out.ranges ∙ ap (λ (ls : List Line). flat_map (ranges_in (places_of (found_index kept) ls)) body) e;
        laid = laid;
        laid_out = out.laid_out;
        code_is = refl;
      };
      spelled = spelled body
          ∙ ap (λ (gs : List frames.Frame). code_info_bytes (record { max_stack = stack; max_locals = locals; code = laid.code; table = laid.table; attributes = stack_map_of places laid.starts gs }))
          (f ∙ ap (λ (ls : List Line). frames_in (places_of (found_index kept) ls) 0 body) e);
    }
