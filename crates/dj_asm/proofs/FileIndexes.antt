-- The indexes of what a source's lines need are found in its pool.
use Rattle.std.proofs.Common.{◌≡◌, ℕ, ◌+◌, ◌≤◌, Bool, ◌&&◌, nat_le, if◌then◌else◌, List, [], ◌∷◌, ◌++◌, length, map, Contains, ap, ◌∙◌}
use Rattle.std.specs.List.{flat_map, AllByRecursion, enumerate_from}
use Rattle.std.proofs.lemmas.Bool.{le-leb}
use Rattle.dj_asm_source.specs.trusted.Lines.{Line}
use Rattle.dj_asm_source.specs.trusted.Sources.{Source, MethodSource, head_lines, method_lines}
use Rattle.dj_asm_pool.specs.trusted.Entries.{Entry, Utf8, Integer, Long, Class, Text, NameAndType, Field, Method, InterfaceMethod, Dynamic, with_parts, width, index_of}
use Rattle.dj_asm_pool.specs.trusted.Needs.{Need, needs_at, needs, method_needs, methods_needs, needs_of, entries_of, index_in, head_entries, instruction_entries, catch_entries, stack_map_entries, frame_entries}
use Rattle.dj_asm_pool.specs.Keys.{most_next}
use Rattle.dj_asm_pool.specs.trusted.Room.{IsPastPool, NoLine}
use Rattle.dj_asm_pool.specs.Pooling.{found_index}
use Rattle.dj_asm_pool.proofs.Members.{each_from, each_first, each_last}
use Rattle.dj_asm_pool.proofs.PoolSteps.{any_in}
use Rattle.dj_asm_pool.proofs.SourcePool.{needed_has_entry, entry_has_room}

-- ---- one entry

abbrev or_zero : ℕ → Bool → ℕ
or_zero n b = if b then n else 0

-- what stands there and ends where it may is found
pub found_is : (es : List Entry) (e : Entry) → Contains es e → index_of es e + width e ≤ most_next → found_index es e ≡ index_of es e
unfolding found_index
found_is es e there ends =
    ap (λ b. or_zero (index_of es e) (b && nat_le (index_of es e + width e) most_next)) (any_in es e there)
    ∙ ap (or_zero (index_of es e)) (le-leb (index_of es e + width e) most_next ends)

-- ---- what holds of all that is needed holds of what each line needs

abbrev pub EachNeed : (Entry → Type 0) → (Line → List Entry) → List Line → Type 0
EachNeed P of lines = AllByRecursion (λ line. AllByRecursion P (of line)) lines

pub record MethodHas (P : Entry → Type 0) (lines : List Line) : Type 0 where
  pub heads : EachNeed P head_entries lines
  pub instructions : EachNeed P instruction_entries lines
  pub catches : EachNeed P catch_entries lines
  pub stack_maps : EachNeed P stack_map_entries lines
  pub frames : EachNeed P frame_entries lines

abbrev pub MethodsHave : (Entry → Type 0) → List MethodSource → Type 0
MethodsHave P methods = AllByRecursion (λ method. MethodHas P (method_lines method)) methods

pub record SourceHas (P : Entry → Type 0) (s : Source) : Type 0 where
  pub heads : EachNeed P head_entries (head_lines s)
  pub methods : MethodsHave P s.methods

module _ (P : Entry → Type 0) where
  abbrev Met : Need → Type 0
  Met need = P need.entry

  itself : (e : Entry) → AllByRecursion P (with_parts e) → P e
  itself (Utf8 text) h = h.0
  itself (Integer n) h = h.0
  itself (Long n) h = h.0
  itself (Class name) h = h.1.0
  itself (Text text) h = h.1.0
  itself (NameAndType name desc) h = h.1.1.0
  itself (Field class name desc) h = h.1.1.1.1.1.0
  itself (Method class name desc) h = h.1.1.1.1.1.0
  itself (InterfaceMethod class name desc) h = h.1.1.1.1.1.0
  itself (Dynamic place name desc) h = h.1.1.1.0

  each_itself : (entries : List Entry) → AllByRecursion P (flat_map with_parts entries) → AllByRecursion P entries
  each_itself [] h = tt
  each_itself (e ∷ entries) h =
      (itself e (each_first P (with_parts e) (flat_map with_parts entries) h), each_itself entries (each_last P (with_parts e) (flat_map with_parts entries) h))

  at_place : (place : ℕ) (entries : List Entry) → AllByRecursion Met (map (λ entry. record { place = place; entry = entry }) entries) → AllByRecursion P entries
  at_place place [] h = tt
  at_place place (e ∷ entries) h = (h.0, at_place place entries h.1)

  of_lines : (of : Line → List Entry) (place : ℕ) (lines : List Line) → AllByRecursion Met (needs of (enumerate_from place lines)) → EachNeed P of lines
  of_lines of place [] h = tt
  of_lines of place (line ∷ lines) h = (
    each_itself (of line) (at_place place (flat_map with_parts (of line)) (each_first Met (needs_at place (of line)) (needs of (enumerate_from (place + 1) lines)) h)),
    of_lines of (place + 1) lines (each_last Met (needs_at place (of line)) (needs of (enumerate_from (place + 1) lines)) h),
  )

  of_method : (place : ℕ) (lines : List Line) → AllByRecursion Met (method_needs (enumerate_from place lines)) → MethodHas P lines
  of_method place lines h =
      let placed = enumerate_from place lines in
      let a = needs head_entries placed in
      let b = needs instruction_entries placed in
      let c = needs catch_entries placed in
      let d = needs stack_map_entries placed in
      let e = needs frame_entries placed in
      let to_d = each_first Met (a ++ b ++ c ++ d) e h in
      let to_c = each_first Met (a ++ b ++ c) d to_d in
      let to_b = each_first Met (a ++ b) c to_c in
      record {
        heads = of_lines head_entries place lines (each_first Met a b to_b);
        instructions = of_lines instruction_entries place lines (each_last Met a b to_b);
        catches = of_lines catch_entries place lines (each_last Met (a ++ b) c to_c);
        stack_maps = of_lines stack_map_entries place lines (each_last Met (a ++ b ++ c) d to_d);
        frames = of_lines frame_entries place lines (each_last Met (a ++ b ++ c ++ d) e h);
      }

  of_methods : (place : ℕ) (methods : List MethodSource) → AllByRecursion Met (methods_needs place methods) → MethodsHave P methods
  unfolding methods_needs
  of_methods place [] h = tt
  of_methods place (method ∷ methods) h =
      let first = method_needs (enumerate_from place (method_lines method)) in
      let rest = methods_needs (place + length (method_lines method)) methods in (
        of_method place (method_lines method) (each_first Met first rest h),
        of_methods (place + length (method_lines method)) methods (each_last Met first rest h),
      )

  pub source_has : (s : Source) → AllByRecursion Met (needs_of s) → SourceHas P s
  source_has s h =
      let first = needs head_entries (enumerate_from 0 (head_lines s)) in
      let rest = methods_needs (length (head_lines s)) s.methods in
      record { heads = of_lines head_entries 0 (head_lines s) (each_first Met first rest h); methods = of_methods (length (head_lines s)) s.methods (each_last Met first rest h) }

-- ---- indexes

abbrev pub IsAlike : (f g : Entry → ℕ) → Entry → Type 0
IsAlike f g e = f e ≡ g e

-- where nothing is past the pool each index that is needed is found
pub all_found : (s : Source) → NoLine (IsPastPool s) → SourceHas (IsAlike (found_index (entries_of s)) (index_in s)) s
all_found s none =
    source_has (IsAlike (found_index (entries_of s)) (index_in s)) s
    (each_from (λ (need : Need). found_index (entries_of s) need.entry ≡ index_in s need.entry) (needs_of s) (λ need h. found need (needed_has_entry s need h))) where
      found : (need : Need) → Contains (entries_of s) need.entry → found_index (entries_of s) need.entry ≡ index_in s need.entry
      found need there = found_is (entries_of s) need.entry there (entry_has_room s none need.entry there).last
