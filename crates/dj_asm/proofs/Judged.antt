-- What is judged too large is too large, and all that is.
use Rattle.std.proofs.Common.{◌≡◌, ℕ, suc, ◌+◌, ◌<◌, ◌≤◌, ◌⊎◌, inl, inr, Bool, true, false, not, ◌||◌, List, [], ◌∷◌, ◌++◌, length, map, take, drop, Option, Some, None, nat_lt, nat_le, refl, sym, ap, ◌∙◌, subst, arith}
use Rattle.std.specs.Prelude.{slice_get, slice_index}
use Rattle.std.specs.List.{flat_map, AllByRecursion, count_by}
use Rattle.std.proofs.lemmas.Bool.Decides.{nat_tests}
use Rattle.std.proofs.lemmas.Bool.{cases_Bool, false≢true, and_parts, and_from, or_left, or_right}
use Rattle.std.proofs.lemmas.List.{length-append, length-map}
use Rattle.std.proofs.lemmas.List.Concat.{flat_map-append}
use Rattle.std.proofs.lemmas.Option.{same_Some, slice_get_within}
use Rattle.dj_ops.specs.declared.instruction.Instr.{Instr}
use Rattle.dj_labels.specs.trusted.Labels.{address_of}
use Rattle.dj_labels.specs.trusted.Targets.{with_targets}
use Rattle.dj_layout.specs.trusted.Places.{starts_from}
use Rattle.dj_layout.specs.trusted.Layouts.{placed, most_bytes}
use Rattle.dj_layout.specs.trusted.Faults.{Reaches}
use Rattle.dj_layout.proofs.Ends.{starts_length}
use Rattle.dj_asm_source.specs.declared.syntax.Line as the_line
use Rattle.dj_asm_source.specs.trusted.Lines.{Frame, Full, Operation, Line, Framed, Does, End, IsOperation, IsLine, IsSized}
use Rattle.dj_asm_source.specs.LineViews.{line_view}
use Rattle.dj_asm_source.specs.trusted.Sources.{Source, method_lines, lines_of, IsSource}
use Rattle.dj_asm_source.specs.trusted.Labels.{AreMethodLines, instruction_count, label_number}
use Rattle.dj_asm_source.specs.LabelReading.{sections_of}
use Rattle.dj_asm_pool.specs.trusted.Entries.{Entry}
use Rattle.dj_asm_pool.specs.trusted.Needs.{needs_of, needed_entry, index_in, operation_entries}
use Rattle.dj_asm_pool.specs.trusted.Room.{HasRoom, IsPastPool}
use Rattle.dj_asm_pool.specs.Pooling.{found_index}
use Rattle.dj_asm_pool.proofs.Members.{each_first, each_last, in_map}
use Rattle.dj_asm_pool.proofs.SourcePool.{room_or_not}
use Rattle.dj_asm_pool.proofs.FoundEntries.{found_with_room}
use Rattle.dj_asm.specs.trusted.Codes.{Places, AreInstrsOf}
use Rattle.dj_asm.specs.trusted.Files.{places_of}
use Rattle.dj_asm.specs.trusted.Large.{IsMethodLine, IsImproper, IsFarJump, IsEndOfLongCode, most_lines, is_interface, is_field, is_method, is_catch, IsOneTooMany, count_before, IsPastTable, IsPastCatches, HasLongLists, IsLongFrame, IsTooLarge}
use Rattle.dj_asm.specs.Assembling.{IsJudged, IsFirstBeside}
use Rattle.dj_asm.specs.declared.counted.Kind.{Kind}
use Rattle.dj_asm.specs.declared.counted.Kind.TheVariants as kinds
use Rattle.dj_asm.specs.Judging.{IsFirstOf, is_kind, is_one_past, is_past, past_table, is_long_frame, is_improper, is_alone, alone, starts_at, end_at, operations, is_reached, is_wide_line, wide_code, is_large_in, in_sections, is_judged}
use Rattle.dj_asm.proofs.Deciding.{stable, not_so}
use Rattle.dj_asm.proofs.Search.{some_in}
use Rattle.dj_asm.proofs.BodyCode.{instr_of, instrs_of}
use Rattle.dj_asm.proofs.SourceFile.{methods_allowed}
use Rattle.dj_asm.proofs.LargeDecided.{large_within}
use Rattle.dj_asm.proofs.JudgedSections.{lt_holds}
use Rattle.dj_asm.proofs.JudgedProper.{HaveRoom, is_proper, not_proper}
use Rattle.dj_asm.proofs.JudgedSizes.{same_starts, same_end, offsets_fit, offsets_reach, placed_at}
use Rattle.dj_asm.proofs.JudgedMethods.{nth_cut, nth_seam, take_seam, each_at, section_same, line_same, IsIn, where_is, quiet_before, does_in, need, needed_at}

lt_from : (m n : ℕ) → nat_lt m n ≡ true → m < n
lt_from m n e = grind (arith, nat_tests)

le_from : (m n : ℕ) → nat_le m n ≡ true → m ≤ n
le_from m n e = grind (arith, nat_tests)

le_holds : (m n : ℕ) → m ≤ n → nat_le m n ≡ true
le_holds m n le = grind (arith, nat_tests)

not_true : (b : Bool) → not b ≡ true → b ≡ false
not_true true e = absurd cc
not_true false e = refl

or_cases : (p q : Bool) → (p || q) ≡ true → (p ≡ true) ⊎ (q ≡ true)
or_cases true q e = inl refl
or_cases false q e = inr e

-- ---- a line that is one too many of its kind

module _ (kind : Kind) (lines : List Line) (place : ℕ) where
  abbrev IsPastHere : Type 0
  IsPastHere = (line : Line) × (slice_get lines place ≡ Some line) × IsOneTooMany (is_kind kind) (count_by (is_kind kind) (take place lines)) line

  past_from : is_past kind lines place ≡ true → IsPastHere
  past_from = by (slice_get lines place) refl where
    by : (o : Option Line) → slice_get lines place ≡ o → is_past kind lines place ≡ true → IsPastHere
    by None e t = absurd (false≢true (sym (ap (is_one_past kind (count_by (is_kind kind) (take place lines))) e) ∙ t))
    by (Some line) e t =
        let p = and_parts (is_kind kind line) (nat_le most_lines (count_by (is_kind kind) (take place lines))) (sym (ap (is_one_past kind (count_by (is_kind kind) (take place lines))) e) ∙ t) in
        (line, e, record { such = p.0; many = le_from most_lines (count_by (is_kind kind) (take place lines)) p.1 })

  past_if : (line : Line) → slice_get lines place ≡ Some line → IsOneTooMany (is_kind kind) (count_by (is_kind kind) (take place lines)) line → is_past kind lines place ≡ true
  past_if line e many =
      ap (is_one_past kind (count_by (is_kind kind) (take place lines))) e
      ∙ and_from (is_kind kind line) (nat_le most_lines (count_by (is_kind kind) (take place lines))) many.such (le_holds most_lines (count_by (is_kind kind) (take place lines)) many.many)

-- ---- frames

frame_long : (frame : Frame) → is_long_frame frame ≡ true → HasLongLists frame
frame_long (Full locals stack) e = elim (or_cases (nat_lt most_lines (length locals)) (nat_lt most_lines (length stack)) e) [
  | inl l ↦ inl (lt_from most_lines (length locals) l)
  | inr r ↦ inr (lt_from most_lines (length stack) r)
]
frame_long frame e = absurd (false≢true e)

long_frame : (frame : Frame) → HasLongLists frame → is_long_frame frame ≡ true
long_frame (Full locals stack) (inl l) = or_left (nat_lt most_lines (length locals)) (nat_lt most_lines (length stack)) (lt_holds most_lines (length locals) l)
long_frame (Full locals stack) (inr r) = or_right (nat_lt most_lines (length locals)) (nat_lt most_lines (length stack)) (lt_holds most_lines (length stack) r)
long_frame frame h = absurd h

-- ---- bodies

ops_may : (body : List Line) → AllByRecursion IsLine body → AllByRecursion IsOperation (operations body)
ops_may [] is = tt
ops_may (Does o ∷ body) is = (is.0, ops_may body is.1)
ops_may (line ∷ body) is = ops_may body is.1

module _ (s : Source) (is : IsSource s) where
  body_may : (before : ℕ) (body : List Line) → AreMethodLines s before body → AllByRecursion IsLine body
  body_may before body m =
      let all : AllByRecursion IsLine (flat_map method_lines m.prefix ++ flat_map method_lines (m.method ∷ m.rest)) =
      subst (AllByRecursion IsLine) (ap (flat_map method_lines) m.methods ∙ flat_map-append method_lines m.prefix (m.method ∷ m.rest)) (methods_allowed s is) in
      subst (AllByRecursion IsLine) (sym m.lines_are)
      (each_first IsLine (method_lines m.method) (flat_map method_lines m.rest) (each_last IsLine (flat_map method_lines m.prefix) (flat_map method_lines (m.method ∷ m.rest)) all))

-- a method's line, by its number in the method
module _ (s : Source) (place : ℕ) where
  method_line : (i : IsIn s place) (line : Line) → slice_get i.body i.number ≡ Some line → IsMethodLine s place i.body (take i.number i.body) line
  method_line i line e =
      let c = nth_cut i.body i.number line e in
      record { before = i.before; in_method = i.in_method; rest = drop (suc i.number) i.body; parts = c.0; place_is = i.place_is ∙ ap (λ (n : ℕ). i.before + n) (sym c.1) }

  in_body : (i : IsIn s place) → slice_get (lines_of s) place ≡ slice_get i.body i.number
  in_body i = ap (slice_get (lines_of s)) i.place_is ∙ line_same s i.before i.body i.in_method i.number i.within

  in_section : (i : IsIn s place) → in_sections (sections_of (lines_of s)) place ≡ is_large_in i.body i.number
  in_section i = ap (in_sections (sections_of (lines_of s))) i.place_is ∙ section_same s i.before i.body i.in_method i.number i.within

  module _ (body prefix : List Line) (line : Line) (at : IsMethodLine s place body prefix line) where
    prefix_within : length prefix < length body
    prefix_within = let size = ap length at.parts ∙ length-append prefix (line ∷ at.rest) in omega (arith, size)

    abbrev place_in : IsIn s place
    place_in = record { before = at.before; body = body; in_method = at.in_method; number = length prefix; within = prefix_within; place_is = at.place_is }

    line_in_body : slice_get body (length prefix) ≡ Some line
    line_in_body = ap (λ l. slice_get l (length prefix)) at.parts ∙ nth_seam prefix line at.rest

    line_in_source : slice_get (lines_of s) place ≡ Some line
    line_in_source = in_body place_in ∙ line_in_body

    prefix_is : take (length prefix) body ≡ prefix
    prefix_is = ap (take (length prefix)) at.parts ∙ take_seam prefix (line ∷ at.rest)

    large_here : is_large_in body (length prefix) ≡ true → in_sections (sections_of (lines_of s)) place ≡ true
    large_here e = in_section place_in ∙ e

module _ (s : Source) (kept : List Entry) (judged : IsJudged s (lines_of s) kept) (place : ℕ) where
  is_source : IsSource s
  is_source = judged.allowed.0

  abbrev lines : List Line
  lines = lines_of s

  may : (line : Line) → slice_get lines place ≡ Some line → IsLine line
  may line e = each_at IsLine lines place line is_source e

  sized : (line : Line) → slice_get lines place ≡ Some line → IsSized line
  sized line e = each_at IsSized lines place line judged.allowed.1 e

  -- ---- instructions that aren't proper

  rooms : (body prefix : List Line) (o : Operation) → IsMethodLine s place body prefix (Does o) → IsPastPool s place ⊎ HaveRoom (places_of (index_in s) body) kept o
  rooms body prefix o at = elim (some_in (λ (e : Entry). HasRoom (index_in s e) e → ⊥) (λ e. not_so (room_or_not (index_in s e) e)) (operation_entries o)) [
    | inl h ↦ inl (record { need = need place h.0; needed = needed_at s place body prefix o h.0 at h.1; place_is = refl; no_room = h.2 })
    | inr none ↦ inr (λ e c.
        let room : HasRoom (index_in s e) e = stable (room_or_not (index_in s e) e) (λ lacks. none (e, c, lacks)) in
        (room, ap (λ k. found_index k e) judged.kept_is ∙ found_with_room (map needed_entry (needs_of s)) e (in_map needed_entry (needs_of s) (need place e) (needed_at s place body prefix o e at c)) room))
  ]

  improper_sound : (o : Operation) → slice_get lines place ≡ Some (Does o) → is_improper kept o ≡ true → IsTooLarge s place
  improper_sound o e t = elim (where_is s place (slice_get_within lines place (Does o) e)) [
    | inl head ↦ absurd (does_in s place o head e)
    | inr i ↦
        let at = method_line s place i (Does o) (sym (in_body s place i) ∙ e) in
        let p = places_of (index_in s) i.body in
        elim (rooms i.body (take i.number i.body) o at) [
          | inl past ↦ inl past
          | inr have ↦
              let it = instr_of p o (may (Does o) e) in
              inr (inl (record { body = i.body; prefix = take i.number i.body; operation = o; at = at; instr = it.0; is_instr = it.1; improper = not_proper p kept o it.0 it.1 have t }))
        ]
  ]

  improper_found : IsImproper s place → IsPastPool s place ⊎ (alone kept lines place ≡ true)
  improper_found h =
      let e = line_in_source s place h.body h.prefix (Does h.operation) h.at in
      let p = places_of (index_in s) h.body in
      elim (rooms h.body h.prefix h.operation h.at) [
        | inl past ↦ inl past
        | inr have ↦ elim (cases_Bool (is_improper kept h.operation)) [
          | inl t ↦ inr (ap (is_alone kept) e ∙ t)
          | inr f ↦ absurd (h.improper (is_proper p kept h.operation h.instr h.is_instr (may (Does h.operation) e) (sized (Does h.operation) e) have f))
        ]
      ]

  -- ---- lines alone

  alone_sound : alone kept lines place ≡ true → IsTooLarge s place
  alone_sound = by (slice_get lines place) refl where
    line_sound : (line : Line) → slice_get lines place ≡ Some line → is_alone kept (Some line) ≡ true → IsTooLarge s place
    line_sound (Framed frame) e t = inr (inr (inr (inr (inr (inr (record { frame = frame; at = e; long = frame_long frame t }))))))
    line_sound (Does o) e t = improper_sound o e t
    line_sound line e t = absurd (false≢true t)

    by : (o : Option Line) → slice_get lines place ≡ o → alone kept lines place ≡ true → IsTooLarge s place
    by None e t = absurd (false≢true (sym (ap (is_alone kept) e) ∙ t))
    by (Some line) e t = line_sound line e (sym (ap (is_alone kept) e) ∙ t)

  frame_found : IsLongFrame s place → alone kept lines place ≡ true
  frame_found h = ap (is_alone kept) h.at ∙ long_frame h.frame h.long

  -- ---- tables

  table_sound : past_table lines place ≡ true → IsPastTable s place
  table_sound t = elim (or_cases (is_past kinds.Interface lines place) (is_past kinds.Field lines place || is_past kinds.Method lines place) t) [
    | inl i ↦ let h = past_from kinds.Interface lines place i in record { line = h.0; at = h.1; too_many = inl h.2 }
    | inr more ↦ elim (or_cases (is_past kinds.Field lines place) (is_past kinds.Method lines place) more) [
      | inl f ↦ let h = past_from kinds.Field lines place f in record { line = h.0; at = h.1; too_many = inr (inl h.2) }
      | inr m ↦ let h = past_from kinds.Method lines place m in record { line = h.0; at = h.1; too_many = inr (inr h.2) }
    ]
  ]

  table_found : IsPastTable s place → past_table lines place ≡ true
  table_found h = by h.too_many where
    by : IsOneTooMany is_interface (count_before is_interface s place) h.line ⊎ (IsOneTooMany is_field (count_before is_field s place) h.line ⊎ IsOneTooMany is_method (count_before is_method s place) h.line)
        → past_table lines place ≡ true
    by (inl i) = or_left (is_past kinds.Interface lines place) (is_past kinds.Field lines place || is_past kinds.Method lines place) (past_if kinds.Interface lines place h.line h.at i)
    by (inr (inl f)) =
        or_right (is_past kinds.Interface lines place) (is_past kinds.Field lines place || is_past kinds.Method lines place)
        (or_left (is_past kinds.Field lines place) (is_past kinds.Method lines place) (past_if kinds.Field lines place h.line h.at f))
    by (inr (inr m)) =
        or_right (is_past kinds.Interface lines place) (is_past kinds.Field lines place || is_past kinds.Method lines place)
        (or_right (is_past kinds.Field lines place) (is_past kinds.Method lines place) (past_if kinds.Method lines place h.line h.at m))

  -- ---- methods

  module _ (i : IsIn s place) where
    abbrev body : List Line
    body = i.body

    abbrev here : Places
    here = places_of (index_in s) i.body

    all_may : AllByRecursion IsLine i.body
    all_may = body_may s is_source i.before i.body i.in_method

    abbrev starts : List ℕ
    starts = starts_at 0 (operations i.body)

    abbrev stop : ℕ
    stop = end_at 0 (operations i.body)

    -- the jump of an instruction, and whether it reaches
    module _ (prefix : List Line) (o : Operation) (rest : List Line) (parts : i.body ≡ prefix ++ Does o ∷ rest) (may_o : IsOperation o) (code : List Instr) (are : AreInstrsOf here i.body code) where
      starts_are : starts_from 0 code ≡ starts
      starts_are = same_starts here 0 (operations i.body) code are (ops_may i.body all_may)

      pub record HasJump : Type 0 where
        pub jump : ℕ × Instr
        pub found : slice_get (placed (starts_from 0 code) code) (instruction_count prefix) ≡ Some jump
        pub reach : Reaches jump → is_reached (label_number i.body) starts (slice_index starts (instruction_count prefix)) o ≡ true
        pub fits : is_reached (label_number i.body) starts (slice_index starts (instruction_count prefix)) o ≡ true → Reaches jump

      has_jump : HasJump
      has_jump =
          let st = starts_from 0 code in
          let n = instruction_count prefix in
          let it = placed_at here st prefix o rest code (starts_length 0 code) (subst (λ (l : List Line). AreInstrsOf here l code) parts are) in
          let same : is_reached (label_number i.body) st (slice_index st n) o ≡ is_reached (label_number i.body) starts (slice_index starts n) o =
          ap (λ (l : List ℕ). is_reached (label_number i.body) l (slice_index l n) o) starts_are in
          record {
            jump = (slice_index st n, with_targets (address_of st) it.0);
            found = it.2;
            reach = λ h. sym same ∙ offsets_reach here st (slice_index st n) o it.0 it.1 may_o h;
            fits = λ t. offsets_fit here st (slice_index st n) o it.0 it.1 may_o (same ∙ t);
          }

    abbrev prefix : List Line
    prefix = take i.number i.body

    wide_sound : wide_code i.body i.number ≡ true → IsTooLarge s place
    wide_sound = by (slice_get i.body i.number) refl where
      line_sound : (line : Line) → slice_get i.body i.number ≡ Some line → is_wide_line (label_number i.body) starts stop (instruction_count prefix) (Some line) ≡ true → IsTooLarge s place
      line_sound (Does o) e t =
          let at = method_line s place i (Does o) e in
          let code = instrs_of here i.body all_may in
          let j = has_jump (take i.number i.body) o at.rest at.parts (may (Does o) (in_body s place i ∙ e)) code.0 code.1 in
          let far : is_reached (label_number i.body) starts (slice_index starts (instruction_count prefix)) o ≡ false = not_true _ t in
          inr (inr (inl (record {
            body = i.body;
            prefix = take i.number i.body;
            operation = o;
            at = at;
            instrs = code.0;
            are_instrs = code.1;
            jump = j.jump;
            number = j.found;
            far = λ h. false≢true (sym far ∙ j.reach h);
          })))
      line_sound End e t =
          let code = instrs_of here i.body all_may in
          let same = same_end here 0 (operations i.body) code.0 code.1 (ops_may i.body all_may) in
          inr (inr (inr (inl (record {
            body = i.body;
            prefix = take i.number i.body;
            at = method_line s place i End e;
            instrs = code.0;
            are_instrs = code.1;
            long = subst (λ (n : ℕ). most_bytes < n) (sym same) (lt_from most_bytes stop t);
          }))))
      line_sound line e t = absurd (false≢true t)

      by : (o : Option Line) → slice_get i.body i.number ≡ o → wide_code i.body i.number ≡ true → IsTooLarge s place
      by None e t = absurd (false≢true (sym (ap (is_wide_line (label_number i.body) starts stop (instruction_count prefix)) e) ∙ t))
      by (Some line) e t = line_sound line e (sym (ap (is_wide_line (label_number i.body) starts stop (instruction_count prefix)) e) ∙ t)

    catch_sound : is_past kinds.Catch i.body i.number ≡ true → IsPastCatches s place
    catch_sound t =
        let h = past_from kinds.Catch i.body i.number t in
        record { body = i.body; prefix = take i.number i.body; line = h.0; at = method_line s place i h.0 h.1; too_many = h.2 }

    section_sound : is_large_in i.body i.number ≡ true → IsTooLarge s place
    section_sound t = elim (or_cases (is_past kinds.Catch i.body i.number) (wide_code i.body i.number) t) [
      | inl c ↦ inr (inr (inr (inr (inr (inl (catch_sound c))))))
      | inr w ↦ wide_sound w
    ]

  sections_sound : in_sections (sections_of lines) place ≡ true → place < length lines → IsTooLarge s place
  sections_sound t lt = elim (where_is s place lt) [
    | inl head ↦ absurd (false≢true (sym (quiet_before s place head) ∙ t))
    | inr i ↦ section_sound i (sym (in_section s place i) ∙ t)
  ]

  far_found : IsFarJump s place → in_sections (sections_of lines) place ≡ true
  far_found h =
      let i = place_in s place h.body h.prefix (Does h.operation) h.at in
      let e = line_in_body s place h.body h.prefix (Does h.operation) h.at in
      let f = prefix_is s place h.body h.prefix (Does h.operation) h.at in
      let j = has_jump i h.prefix h.operation h.at.rest h.at.parts (may (Does h.operation) (line_in_source s place h.body h.prefix (Does h.operation) h.at)) h.instrs h.are_instrs in
      let same : h.jump ≡ j.jump = same_Some _ _ (sym h.number ∙ j.found) in
      let st = starts_at 0 (operations h.body) in
      let reached = is_reached (label_number h.body) st (slice_index st (instruction_count h.prefix)) h.operation in
      let here : wide_code h.body (length h.prefix) ≡ not reached =
      ap (is_wide_line (label_number h.body) st (end_at 0 (operations h.body)) (instruction_count (take (length h.prefix) h.body))) e
      ∙ ap (λ l. not (is_reached (label_number h.body) st (slice_index st (instruction_count l)) h.operation)) f in
      elim (cases_Bool reached) [
        | inl t ↦ absurd (h.far (subst Reaches (sym same) (j.fits t)))
        | inr far ↦ large_here s place h.body h.prefix (Does h.operation) h.at (or_right (is_past kinds.Catch h.body (length h.prefix)) (wide_code h.body (length h.prefix)) (here ∙ ap not far))
      ]

  long_found : IsEndOfLongCode s place → in_sections (sections_of lines) place ≡ true
  long_found h =
      let i = place_in s place h.body h.prefix End h.at in
      let e = line_in_body s place h.body h.prefix End h.at in
      let st = starts_at 0 (operations h.body) in
      let all = body_may s is_source h.at.before h.body h.at.in_method in
      let same = same_end (places_of (index_in s) h.body) 0 (operations h.body) h.instrs h.are_instrs (ops_may h.body all) in
      let here : wide_code h.body (length h.prefix) ≡ nat_lt most_bytes (end_at 0 (operations h.body)) =
      ap (is_wide_line (label_number h.body) st (end_at 0 (operations h.body)) (instruction_count (take (length h.prefix) h.body))) e in
      large_here s place h.body h.prefix End h.at
      (or_right (is_past kinds.Catch h.body (length h.prefix)) (wide_code h.body (length h.prefix))
      (here ∙ lt_holds most_bytes (end_at 0 (operations h.body)) (subst (λ (n : ℕ). most_bytes < n) same h.long)))

  catches_found : IsPastCatches s place → in_sections (sections_of lines) place ≡ true
  catches_found h =
      let e = line_in_body s place h.body h.prefix h.line h.at in
      let f = prefix_is s place h.body h.prefix h.line h.at in
      large_here s place h.body h.prefix h.line h.at
      (or_left (is_past kinds.Catch h.body (length h.prefix)) (wide_code h.body (length h.prefix))
      (past_if kinds.Catch h.body (length h.prefix) h.line e (subst (λ (l : List Line). IsOneTooMany is_catch (count_by is_catch l) h.line) (sym f) h.too_many)))

  -- ---- all kinds

  abbrev in_any : Bool
  in_any = alone kept lines place || in_sections (sections_of lines) place

  sound : place < length lines → is_judged kept lines place ≡ true → IsTooLarge s place
  sound lt t = elim (or_cases (past_table lines place) in_any t) [
    | inl table ↦ inr (inr (inr (inr (inl (table_sound table)))))
    | inr more ↦ elim (or_cases (alone kept lines place) (in_sections (sections_of lines) place) more) [
      | inl a ↦ alone_sound a
      | inr c ↦ sections_sound c lt
    ]
  ]

  by_alone : alone kept lines place ≡ true → is_judged kept lines place ≡ true
  by_alone e = or_right (past_table lines place) in_any (or_left (alone kept lines place) (in_sections (sections_of lines) place) e)

  by_section : in_sections (sections_of lines) place ≡ true → is_judged kept lines place ≡ true
  by_section e = or_right (past_table lines place) in_any (or_right (alone kept lines place) (in_sections (sections_of lines) place) e)

  complete : IsTooLarge s place → IsPastPool s place ⊎ (is_judged kept lines place ≡ true)
  complete (inl past) = inl past
  complete (inr (inl h)) = elim (improper_found h) [ inl past ↦ inl past | inr e ↦ inr (by_alone e) ]
  complete (inr (inr (inl h))) = inr (by_section (far_found h))
  complete (inr (inr (inr (inl h)))) = inr (by_section (long_found h))
  complete (inr (inr (inr (inr (inl h))))) = inr (or_left (past_table lines place) in_any (table_found h))
  complete (inr (inr (inr (inr (inr (inl h)))))) = inr (by_section (catches_found h))
  complete (inr (inr (inr (inr (inr (inr h)))))) = inr (by_alone (frame_found h))

-- ---- the first line

first_of_source : (s : Source) (kept : List Entry) → IsJudged s (lines_of s) kept → (first : Option ℕ) → IsFirstOf (is_judged kept (lines_of s)) (length (lines_of s)) first → IsFirstBeside s first
first_of_source s kept judged (Some place) first = (
  sound s kept judged place first.0 first.1,
  λ earlier lt large. elim (complete s kept judged earlier large) [
    | inl past ↦ past
    | inr t ↦ absurd (false≢true (sym (first.2 earlier lt) ∙ t))
  ],
)
first_of_source s kept judged None none =
    λ place large. elim (complete s kept judged place large) [
      | inl past ↦ past
      | inr t ↦ absurd (false≢true (sym (none place (large_within s place large)) ∙ t))
    ]

pub first_beside : (kept : List Entry) (lines : List the_line.Line) (first : Option ℕ) (s : Source) → IsFirstOf (is_judged kept (map line_view lines)) (length lines) first
    → IsJudged s (map line_view lines) kept → IsFirstBeside s first
first_beside kept lines first s is judged =
    let same : map line_view lines ≡ lines_of s = judged.lines_are in
    first_of_source s kept (subst (λ (l : List Line). IsJudged s l kept) same judged) first
    (subst (λ (l : List Line). IsFirstOf (is_judged kept l) (length l) first) same (subst (λ (n : ℕ). IsFirstOf (is_judged kept (map line_view lines)) n first) (sym (length-map lines line_view)) is))
