-- Whether a line of a source is too large can be decided, and a line that is stands among the source's lines.
use Rattle.std.proofs.Common.{◌≡◌, ℕ, ◌+◌, ◌<◌, ◌≤◌, ◌⊎◌, inl, inr, Bool, true, List, [], ◌∷◌, ◌++◌, length, map, Some, Contains, refl, sym, ap, ◌∙◌, subst, arith}
use Rattle.std.specs.Prelude.{slice_get}
use Rattle.std.specs.List.{flat_map, AllByRecursion, count_by, enumerate_from}
use Rattle.std.proofs.lemmas.Bool.{cases_eq}
use Rattle.std.proofs.lemmas.List.{length-append}
use Rattle.std.proofs.lemmas.List.Concat.{flat_map-append}
use Rattle.std.proofs.lemmas.Option.{slice_get_within}
use Rattle.dj_ops.specs.declared.instruction.Instr.{Instr}
use Rattle.dj_ops.specs.trusted.Instructions.{IsProper}
use Rattle.dj_layout.specs.trusted.Places.{starts_from, end_from}
use Rattle.dj_layout.specs.trusted.Layouts.{placed, most_bytes}
use Rattle.dj_layout.specs.trusted.Faults.{Reaches}
use Rattle.dj_asm_source.specs.trusted.Lines.{Frame, Full, Operation, Line, Framed, Does, End, IsLine}
use Rattle.dj_asm_source.specs.trusted.Sources.{Source, MethodSource, head_lines, method_lines, lines_of, IsSource}
use Rattle.dj_asm_source.specs.trusted.Labels.{instruction_count}
use Rattle.dj_asm_pool.specs.trusted.Entries.{Entry, with_parts}
use Rattle.dj_asm_pool.specs.trusted.Needs.{Need, needs_at, needs, method_needs, methods_needs, needs_of, index_in, head_entries, instruction_entries, catch_entries, stack_map_entries, frame_entries}
use Rattle.dj_asm.specs.trusted.Codes.{IsInstrOf, AreInstrsOf}
use Rattle.dj_asm.specs.trusted.Files.{places_of}
use Rattle.dj_asm_pool.specs.trusted.Room.{HasRoom, IsPastPool}
use Rattle.dj_asm.specs.trusted.Large.{IsMethodLine, IsImproper, IsFarJump, IsEndOfLongCode, most_lines, is_interface, is_field, is_method, is_catch, IsOneTooMany, count_before, IsPastTable, IsPastCatches, HasLongLists, IsLongFrame, IsTooLarge}
use Rattle.dj_asm_pool.proofs.Members.{each_in, each_append, each_first, each_last}
use Rattle.dj_asm.proofs.Deciding.{Is, both, either, not_so, either_way, below, at_most, so, proper_or_not, offsets_or_not}
use Rattle.dj_asm.proofs.OneFile.{one_instr, one_code}
use Rattle.dj_asm_pool.proofs.SourcePool.{room_or_not}
use Rattle.dj_asm.proofs.BodyCode.{instr_of, instrs_of}
use Rattle.dj_asm.proofs.SourceFile.{methods_allowed}
use Rattle.dj_asm.proofs.Search.{some_in, IsCutSo, cut_or_not, at_or_not}

same_number : (a b : ℕ) → Is (a ≡ b)
same_number a b = cases_eq a b

-- ---- a line of a method that is such

abbrev LineTest : Type 1
LineTest = List Line → List Line → Line → Type 0

record HasMethodLine (s : Source) (place : ℕ) (Q : LineTest) : Type 0 where
  body : List Line
  prefix : List Line
  line : Line
  at : IsMethodLine s place body prefix line
  such : Q body prefix line

-- the lines before the lines of a method
abbrev before_lines : Source → List MethodSource → ℕ
before_lines s prefix = length (head_lines s) + length (flat_map method_lines prefix)

abbrev IsPlaced : Source → ℕ → LineTest → List MethodSource → MethodSource → List Line → Line → List Line → Type 0
IsPlaced s place Q methods method prefix line rest = (place ≡ before_lines s methods + length prefix) × Q (method_lines method) prefix line

abbrev HasPlaced : Source → ℕ → LineTest → List MethodSource → MethodSource → List MethodSource → Type 0
HasPlaced s place Q methods method more = IsCutSo (IsPlaced s place Q methods method) (method_lines method)

to_line : (s : Source) (place : ℕ) (Q : LineTest) → IsCutSo (HasPlaced s place Q) s.methods → HasMethodLine s place Q
to_line s place Q c = record {
  body = method_lines c.item;
  prefix = c.such.prefix;
  line = c.such.item;
  at = record {
    before = before_lines s c.prefix;
    in_method = record { prefix = c.prefix; method = c.item; rest = c.rest; methods = c.parts; before_is = refl; lines_are = refl };
    rest = c.such.rest;
    parts = c.such.parts;
    place_is = c.such.such.0;
  };
  such = c.such.such.1;
}

from_line : (s : Source) (place : ℕ) (Q : LineTest) → HasMethodLine s place Q → IsCutSo (HasPlaced s place Q) s.methods
from_line s place Q h =
    let m = h.at.in_method in
    record {
      prefix = m.prefix;
      item = m.method;
      rest = m.rest;
      parts = m.methods;
      such = record {
        prefix = h.prefix;
        item = h.line;
        rest = h.at.rest;
        parts = sym m.lines_are ∙ h.at.parts;
        such = (h.at.place_is ∙ ap (λ (n : ℕ). n + length h.prefix) m.before_is, subst (λ body. Q body h.prefix h.line) m.lines_are h.such);
      };
    }

allowed_in : (s : Source) → IsSource s → (prefix : List MethodSource) (method : MethodSource) (rest : List MethodSource) → s.methods ≡ prefix ++ method ∷ rest → AllByRecursion IsLine (method_lines method)
allowed_in s is prefix method rest e =
    let all : AllByRecursion IsLine (flat_map method_lines prefix ++ flat_map method_lines (method ∷ rest)) =
    subst (AllByRecursion IsLine) (ap (flat_map method_lines) e ∙ flat_map-append method_lines prefix (method ∷ rest)) (methods_allowed s is) in
    each_first IsLine (method_lines method) (flat_map method_lines rest) (each_last IsLine (flat_map method_lines prefix) (flat_map method_lines (method ∷ rest)) all)

line_or_not : (s : Source) → IsSource s → (place : ℕ) (Q : LineTest) → ((body prefix : List Line) (line : Line) → AllByRecursion IsLine body → AllByRecursion IsLine (line ∷ []) → Is (Q body prefix line)) → Is (HasMethodLine s place Q)
line_or_not s is place Q decide =
    either_way (to_line s place Q) (from_line s place Q)
    (cut_or_not (HasPlaced s place Q) s.methods (λ methods method more e.
    let allowed = allowed_in s is methods method more e in
    cut_or_not (IsPlaced s place Q methods method) (method_lines method) (λ prefix line rest parts.
    both (same_number place (before_lines s methods + length prefix))
    (decide (method_lines method) prefix line allowed (each_first IsLine (line ∷ []) rest (each_last IsLine prefix (line ∷ rest) (subst (AllByRecursion IsLine) parts allowed)))))))

-- ---- instructions and code

module _ (s : Source) (is : IsSource s) (place : ℕ) where
  abbrev Improper : LineTest
  Improper body prefix line = (o : Operation) × (line ≡ Does o) × (i : Instr) × IsInstrOf (places_of (index_in s) body) o i × (IsProper i → ⊥)

  improper_line : (body prefix : List Line) (line : Line) → AllByRecursion IsLine (line ∷ []) → Is (Improper body prefix line)
  improper_line body prefix (Does o) allowed =
      let i = instr_of (places_of (index_in s) body) o allowed.0 in
      elim (proper_or_not i.0) [
        | inr lacks ↦ inl (o, refl, i.0, i.1, lacks)
        | inl proper ↦ inr (λ h.
            let e = h.1 in
            let same : h.0 ≡ o = cc in
            h.4 (subst IsProper (one_instr (places_of (index_in s) body) o i.0 h.2 i.1 (subst (λ p. IsInstrOf (places_of (index_in s) body) p h.2) same h.3)) proper))
      ]
  improper_line body prefix line allowed = inr (λ h. let e = h.1 in absurd cc)

  improper_or_not : Is (IsImproper s place)
  improper_or_not =
      either_way
      (λ (h : HasMethodLine s place Improper). record {
        body = h.body;
        prefix = h.prefix;
        operation = h.such.0;
        at = subst (IsMethodLine s place h.body h.prefix) h.such.1 h.at;
        instr = h.such.2;
        is_instr = h.such.3;
        improper = h.such.4;
      })
      (λ h. record { body = h.body; prefix = h.prefix; line = Does h.operation; at = h.at; such = (h.operation, refl, h.instr, h.is_instr, h.improper) })
      (line_or_not s is place Improper (λ body prefix line all allowed. improper_line body prefix line allowed))

  abbrev Far : LineTest
  Far body prefix line =
      (o : Operation) × (line ≡ Does o) × (code : List Instr) × AreInstrsOf (places_of (index_in s) body) body code
      × (jump : ℕ × Instr) × (slice_get (placed (starts_from 0 code) code) (instruction_count prefix) ≡ Some jump) × (Reaches jump → ⊥)

  far_line : (body prefix : List Line) (line : Line) → AllByRecursion IsLine body → Is (Far body prefix line)
  far_line body prefix (Does o) all =
      let code = instrs_of (places_of (index_in s) body) body all in
      elim (at_or_not (λ (jump : ℕ × Instr). Reaches jump → ⊥) (λ jump. not_so (offsets_or_not jump.0 jump.1)) (slice_get (placed (starts_from 0 code.0) code.0) (instruction_count prefix))) [
        | inl h ↦ inl (o, refl, code.0, code.1, h.0, h.1, h.2)
        | inr none ↦ inr (λ h.
            let same : h.2 ≡ code.0 = one_code (places_of (index_in s) body) body h.2 code.0 h.3 code.1 in
            none (h.4, subst (λ (c : List Instr). slice_get (placed (starts_from 0 c) c) (instruction_count prefix) ≡ Some h.4) same h.5, h.6))
      ]
  far_line body prefix line all = inr (λ h. let e = h.1 in absurd cc)

  far_or_not : Is (IsFarJump s place)
  far_or_not =
      either_way
      (λ (h : HasMethodLine s place Far). record {
        body = h.body;
        prefix = h.prefix;
        operation = h.such.0;
        at = subst (IsMethodLine s place h.body h.prefix) h.such.1 h.at;
        instrs = h.such.2;
        are_instrs = h.such.3;
        jump = h.such.4;
        number = h.such.5;
        far = h.such.6;
      })
      (λ h. record { body = h.body; prefix = h.prefix; line = Does h.operation; at = h.at; such = (h.operation, refl, h.instrs, h.are_instrs, h.jump, h.number, h.far) })
      (line_or_not s is place Far (λ body prefix line all allowed. far_line body prefix line all))

  abbrev Long : LineTest
  Long body prefix line = (line ≡ End) × (code : List Instr) × AreInstrsOf (places_of (index_in s) body) body code × (most_bytes < end_from 0 code)

  long_line : (body prefix : List Line) (line : Line) → AllByRecursion IsLine body → Is (Long body prefix line)
  long_line body prefix End all =
      let code = instrs_of (places_of (index_in s) body) body all in
      elim (below most_bytes (end_from 0 code.0)) [
        | inl past ↦ inl (refl, code.0, code.1, past)
        | inr short ↦ inr (λ h. short (subst (λ (c : List Instr). most_bytes < end_from 0 c) (one_code (places_of (index_in s) body) body h.1 code.0 h.2 code.1) h.3))
      ]
  long_line body prefix line all = inr (λ h. let e = h.0 in absurd cc)

  long_or_not : Is (IsEndOfLongCode s place)
  long_or_not =
      either_way
      (λ (h : HasMethodLine s place Long). record {
        body = h.body;
        prefix = h.prefix;
        at = subst (IsMethodLine s place h.body h.prefix) h.such.0 h.at;
        instrs = h.such.1;
        are_instrs = h.such.2;
        long = h.such.3;
      })
      (λ h. record { body = h.body; prefix = h.prefix; line = End; at = h.at; such = (refl, h.instrs, h.are_instrs, h.long) })
      (line_or_not s is place Long (λ body prefix line all allowed. long_line body prefix line all))

  -- ---- counts

  too_many_or_not : (is_such : Line → Bool) (count : ℕ) (line : Line) → Is (IsOneTooMany is_such count line)
  too_many_or_not is_such count line =
      either_way (λ (h : (is_such line ≡ true) × (most_lines ≤ count)). record { such = h.0; many = h.1 }) (λ t. (t.such, t.many)) (both (so (is_such line)) (at_most most_lines count))

  abbrev TooMany : LineTest
  TooMany body prefix line = IsOneTooMany is_catch (count_by is_catch prefix) line

  catches_or_not : Is (IsPastCatches s place)
  catches_or_not =
      either_way (λ (h : HasMethodLine s place TooMany). record { body = h.body; prefix = h.prefix; line = h.line; at = h.at; too_many = h.such })
      (λ h. record { body = h.body; prefix = h.prefix; line = h.line; at = h.at; such = h.too_many })
      (line_or_not s is place TooMany (λ body prefix line all allowed. too_many_or_not is_catch (count_by is_catch prefix) line))

  abbrev PastTable : Line → Type 0
  PastTable line =
      IsOneTooMany is_interface (count_before is_interface s place) line
      ⊎ (IsOneTooMany is_field (count_before is_field s place) line ⊎ IsOneTooMany is_method (count_before is_method s place) line)

  table_or_not : Is (IsPastTable s place)
  table_or_not =
      either_way (λ (h : (line : Line) × (slice_get (lines_of s) place ≡ Some line) × PastTable line). record { line = h.0; at = h.1; too_many = h.2 })
      (λ t. (t.line, t.at, t.too_many))
      (at_or_not PastTable (λ line.
      either (too_many_or_not is_interface (count_before is_interface s place) line)
      (either (too_many_or_not is_field (count_before is_field s place) line) (too_many_or_not is_method (count_before is_method s place) line)))
      (slice_get (lines_of s) place))

  long_lists_or_not : (frame : Frame) → Is (HasLongLists frame)
  long_lists_or_not (Full locals stack) = either (below most_lines (length locals)) (below most_lines (length stack))
  long_lists_or_not frame = inr (λ h. absurd h)

  abbrev LongFrame : Line → Type 0
  LongFrame line = (frame : Frame) × (line ≡ Framed frame) × HasLongLists frame

  long_frame_line : (line : Line) → Is (LongFrame line)
  long_frame_line (Framed frame) = elim (long_lists_or_not frame) [
    | inl long ↦ inl (frame, refl, long)
    | inr short ↦ inr (λ h. let e = h.1 in let same : h.0 ≡ frame = cc in short (subst HasLongLists same h.2))
  ]
  long_frame_line line = inr (λ h. let e = h.1 in absurd cc)

  frame_or_not : Is (IsLongFrame s place)
  frame_or_not =
      either_way (λ (h : (line : Line) × (slice_get (lines_of s) place ≡ Some line) × LongFrame line). record { frame = h.2.0; at = h.1 ∙ ap (λ line. Some line) h.2.1; long = h.2.2 })
      (λ t. (Framed t.frame, t.at, (t.frame, refl, t.long)))
      (at_or_not LongFrame long_frame_line (slice_get (lines_of s) place))

  -- ---- entries

  pool_or_not : Is (IsPastPool s place)
  pool_or_not =
      either_way (λ (h : (need : Need) × Contains (needs_of s) need × ((need.place ≡ place) × (HasRoom (index_in s need.entry) need.entry → ⊥))). record { need = h.0; needed = h.1; place_is = h.2.0; no_room = h.2.1 })
      (λ p. (p.need, p.needed, (p.place_is, p.no_room)))
      (some_in (λ need. (need.place ≡ place) × (HasRoom (index_in s need.entry) need.entry → ⊥))
      (λ need. both (same_number need.place place) (not_so (room_or_not (index_in s need.entry) need.entry))) (needs_of s))

  -- a line is too large or it isn't
  pub large_or_not : Is (IsTooLarge s place)
  large_or_not = either pool_or_not (either improper_or_not (either far_or_not (either long_or_not (either table_or_not (either catches_or_not frame_or_not)))))

-- ---- such a line is one of the source's

line_count : (s : Source) → length (lines_of s) ≡ length (head_lines s) + length (flat_map method_lines s.methods)
line_count s = length-append (head_lines s) (flat_map method_lines s.methods)

line_within : (s : Source) (place : ℕ) (body prefix : List Line) (line : Line) → IsMethodLine s place body prefix line → place < length (lines_of s)
line_within s place body prefix line at =
    let m = at.in_method in
    let whole = ap (λ (l : List MethodSource). length (flat_map method_lines l)) m.methods
    ∙ (ap length (flat_map-append method_lines m.prefix (m.method ∷ m.rest)) ∙ length-append (flat_map method_lines m.prefix) (flat_map method_lines (m.method ∷ m.rest))) in
    let method = length-append (method_lines m.method) (flat_map method_lines m.rest) in
    let lines = ap length m.lines_are in
    let parts = ap length at.parts ∙ length-append prefix (line ∷ at.rest) in
    omega (arith, line_count s, whole, method, lines, parts, at.place_is, m.before_is)

abbrev IsBelow : ℕ → Need → Type 0
IsBelow bound need = need.place < bound

at_below : (bound place : ℕ) (entries : List Entry) → place < bound → AllByRecursion (IsBelow bound) (map (λ entry. record { place = place; entry = entry }) entries)
at_below bound place [] lt = tt
at_below bound place (e ∷ entries) lt = (lt, at_below bound place entries lt)

needs_below : (bound : ℕ) (entries_of : Line → List Entry) (placed : List (ℕ × Line)) → AllByRecursion (λ (l : ℕ × Line). l.0 < bound) placed → AllByRecursion (IsBelow bound) (needs entries_of placed)
needs_below bound entries_of [] lt = tt
needs_below bound entries_of (line ∷ placed) lt =
    each_append (IsBelow bound) (needs_at line.0 (entries_of line.1)) (needs entries_of placed) (at_below bound line.0 (flat_map with_parts (entries_of line.1)) lt.0) (needs_below bound entries_of placed lt.1)

places_below : (bound place : ℕ) (all : List Line) → place + length all ≤ bound → AllByRecursion (λ (l : ℕ × Line). l.0 < bound) (enumerate_from place all)
places_below bound place [] le = tt
places_below bound place (line ∷ all) le = (omega (arith, le), places_below bound (place + 1) all (omega (arith, le)))

method_below : (bound : ℕ) (placed : List (ℕ × Line)) → AllByRecursion (λ (l : ℕ × Line). l.0 < bound) placed → AllByRecursion (IsBelow bound) (method_needs placed)
method_below bound placed lt =
    let P = IsBelow bound in
    let h = needs head_entries placed in
    let i = needs instruction_entries placed in
    let c = needs catch_entries placed in
    let m = needs stack_map_entries placed in
    each_append P (h ++ i ++ c ++ m) (needs frame_entries placed)
    (each_append P (h ++ i ++ c) m
    (each_append P (h ++ i) c (each_append P h i (needs_below bound head_entries placed lt) (needs_below bound instruction_entries placed lt)) (needs_below bound catch_entries placed lt))
    (needs_below bound stack_map_entries placed lt))
    (needs_below bound frame_entries placed lt)

methods_below : (bound place : ℕ) (methods : List MethodSource) → place + length (flat_map method_lines methods) ≤ bound → AllByRecursion (IsBelow bound) (methods_needs place methods)
unfolding methods_needs
methods_below bound place [] le = tt
methods_below bound place (method ∷ methods) le =
    let size = length-append (method_lines method) (flat_map method_lines methods) in
    each_append (IsBelow bound) (method_needs (enumerate_from place (method_lines method))) (methods_needs (place + length (method_lines method)) methods)
    (method_below bound (enumerate_from place (method_lines method)) (places_below bound place (method_lines method) (omega (arith, le, size))))
    (methods_below bound (place + length (method_lines method)) methods (omega (arith, le, size)))

need_within : (s : Source) (need : Need) → Contains (needs_of s) need → need.place < length (lines_of s)
need_within s need h =
    let bound = length (lines_of s) in
    let size = line_count s in
    each_in (IsBelow bound) (needs_of s) need
    (each_append (IsBelow bound) (needs head_entries (enumerate_from 0 (head_lines s))) (methods_needs (length (head_lines s)) s.methods)
    (needs_below bound head_entries (enumerate_from 0 (head_lines s)) (places_below bound 0 (head_lines s) (omega (arith, size))))
    (methods_below bound (length (head_lines s)) s.methods (omega (arith, size))))
    h

-- a line that is too large is one of the source's
pub large_within : (s : Source) (place : ℕ) → IsTooLarge s place → place < length (lines_of s)
large_within s place (inl p) = subst (λ (n : ℕ). n < length (lines_of s)) p.place_is (need_within s p.need p.needed)
large_within s place (inr (inl h)) = line_within s place h.body h.prefix (Does h.operation) h.at
large_within s place (inr (inr (inl h))) = line_within s place h.body h.prefix (Does h.operation) h.at
large_within s place (inr (inr (inr (inl h)))) = line_within s place h.body h.prefix End h.at
large_within s place (inr (inr (inr (inr (inl h))))) = slice_get_within (lines_of s) place h.line h.at
large_within s place (inr (inr (inr (inr (inr (inl h)))))) = line_within s place h.body h.prefix h.line h.at
large_within s place (inr (inr (inr (inr (inr (inr h)))))) = slice_get_within (lines_of s) place (Framed h.frame) h.at
