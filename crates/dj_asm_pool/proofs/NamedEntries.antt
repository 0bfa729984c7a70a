-- What the lines of a source name has its constant in the pool.
use Rattle.std.proofs.Common.{◌≡◌, ℕ, ◌+◌, List, [], ◌∷◌, ◌++◌, length, map, Option, Some, Contains, IsSomeAnd, inl, inr, refl, sym, ap, ◌∙◌, subst, arith}
use Rattle.std.specs.Prelude.{option_and_then}
use Rattle.std.specs.List.{flat_map, enumerate_from}
use Rattle.std.proofs.lemmas.List.{map-append}
use Rattle.std.proofs.lemmas.List.Elements.{Contains-append_left, Contains-append_right, Contains-append_cases}
use Rattle.dj_names.specs.trusted.Types.{Name}
use Rattle.dj_pool.specs.trusted.Pool.{Constant, text_of, class_text_of, text_at, class_name_at, NamesText}
use Rattle.dj_asm_source.specs.trusted.Lines.{Line}
use Rattle.dj_asm_source.specs.trusted.Sources.{Source, MethodSource, head_lines, method_lines, lines_of, IsTextOf}
use Rattle.dj_asm_pool.specs.trusted.Entries.{Entry, Utf8, Integer, Long, Class, Text, NameAndType, Field, Method, InterfaceMethod, Dynamic, with_parts, pool_of}
use Rattle.dj_asm_pool.specs.trusted.Needs.{Need, needs_at, needs, method_needs, methods_needs, needs_of, needed_entry, entries_of, index_in, head_entries, instruction_entries, catch_entries, stack_map_entries, frame_entries}
use Rattle.dj_asm_pool.proofs.Members.{none_in, in_here, in_cases, in_flat_map}
use Rattle.dj_asm_pool.proofs.EntryLaws.{once_has, constant_found}
use Rattle.dj_asm_pool.proofs.SourcePool.{entries_again, parts_there}

-- ---- needs

part_itself : (e : Entry) → Contains (with_parts e) e
part_itself (Utf8 text) = (0, omega arith, refl)
part_itself (Integer n) = (0, omega arith, refl)
part_itself (Long n) = (0, omega arith, refl)
part_itself (Class name) = (1, omega arith, refl)
part_itself (Text text) = (1, omega arith, refl)
part_itself (NameAndType name desc) = (2, omega arith, refl)
part_itself (Field class name desc) = (5, omega arith, refl)
part_itself (Method class name desc) = (5, omega arith, refl)
part_itself (InterfaceMethod class name desc) = (5, omega arith, refl)
part_itself (Dynamic place name desc) = (3, omega arith, refl)

abbrev pub IsNeeded : List Need → Entry → Type 0
IsNeeded all e = Contains (map needed_entry all) e

pub left : (xs ys : List Need) (e : Entry) → IsNeeded xs e → IsNeeded (xs ++ ys) e
left xs ys e h = subst (λ l. Contains l e) (sym (map-append needed_entry xs ys)) (Contains-append_left (map needed_entry xs) (map needed_entry ys) e h)

pub right : (xs ys : List Need) (e : Entry) → IsNeeded ys e → IsNeeded (xs ++ ys) e
right xs ys e h = subst (λ l. Contains l e) (sym (map-append needed_entry xs ys)) (Contains-append_right (map needed_entry xs) (map needed_entry ys) e h)

at_line : (place : ℕ) (entries : List Entry) (e : Entry) → Contains entries e → IsNeeded (needs_at place entries) e
at_line place entries e h = subst (λ l. Contains l e) (sym (entries_again place (flat_map with_parts entries))) (in_flat_map with_parts entries e e h (part_itself e))

pub line_needs : (of : Line → List Entry) (place : ℕ) (all : List Line) (line : Line) (e : Entry) → Contains all line → Contains (of line) e → IsNeeded (needs of (enumerate_from place all)) e
line_needs of place [] line e h k = absurd (none_in line h)
line_needs of place (x ∷ all) line e h k = elim (in_cases x all line h) [
  | inl same ↦ left (needs_at place (of x)) (needs of (enumerate_from (place + 1) all)) e (at_line place (of x) e (subst (λ l. Contains (of l) e) (sym same) k))
  | inr more ↦ right (needs_at place (of x)) (needs of (enumerate_from (place + 1) all)) e (line_needs of (place + 1) all line e more k)
]

method_line_needs : (place : ℕ) (all : List Line) (line : Line) (e : Entry) → Contains all line → Contains (head_entries line) e → IsNeeded (method_needs (enumerate_from place all)) e
method_line_needs place all line e h k =
    let placed = enumerate_from place all in
    let a = needs head_entries placed in
    let b = needs instruction_entries placed in
    let c = needs catch_entries placed in
    let d = needs stack_map_entries placed in
    left (a ++ b ++ c ++ d) (needs frame_entries placed) e (left (a ++ b ++ c) d e (left (a ++ b) c e (left a b e (line_needs head_entries place all line e h k))))

methods_line_needs : (place : ℕ) (methods : List MethodSource) (line : Line) (e : Entry) → Contains (flat_map method_lines methods) line → Contains (head_entries line) e → IsNeeded (methods_needs place methods) e
unfolding methods_needs
methods_line_needs place [] line e h k = absurd (none_in line h)
methods_line_needs place (method ∷ methods) line e h k = elim (Contains-append_cases (method_lines method) (flat_map method_lines methods) line h) [
  | inl here ↦ left (method_needs (enumerate_from place (method_lines method))) (methods_needs (place + length (method_lines method)) methods) e (method_line_needs place (method_lines method) line e here k)
  | inr more ↦ right (method_needs (enumerate_from place (method_lines method))) (methods_needs (place + length (method_lines method)) methods) e (methods_line_needs (place + length (method_lines method)) methods line e more k)
]

-- what the lines of a class and the first line of a member name has an entry
pub head_has_entry : (s : Source) (line : Line) (e : Entry) → Contains (lines_of s) line → Contains (head_entries line) e → Contains (entries_of s) e
head_has_entry s line e h k =
    let first = needs head_entries (enumerate_from 0 (head_lines s)) in
    let more = methods_needs (length (head_lines s)) s.methods in
    once_has (map needed_entry (needs_of s)) e
    (elim (Contains-append_cases (head_lines s) (flat_map method_lines s.methods) line h) [
      | inl here ↦ left first more e (line_needs head_entries 0 (head_lines s) line e here k)
      | inr later ↦ right first more e (methods_line_needs (length (head_lines s)) s.methods line e later k)
    ])

-- ---- names

-- a text of the pool is found at its index
pub text_named : (P : List ℕ → Type 0) (s : Source) (text : List ℕ) → Contains (entries_of s) (Utf8 text) → P text → NamesText P (pool_of (entries_of s)) (index_in s (Utf8 text))
text_named P s text h p =
    let at : text_at (pool_of (entries_of s)) (index_in s (Utf8 text)) ≡ Some text = ap (option_and_then text_of) (constant_found (entries_of s) (Utf8 text) h) in
    subst (λ (o : Option (List ℕ)). IsSomeAnd o P) (sym at) p

-- a class of the pool is found at its index
pub class_named : (P : List ℕ → Type 0) (text : List ℕ) (s : Source) (name : Name) → IsTextOf text s → Contains (entries_of s) (Class name) → P name → IsSomeAnd (class_name_at (pool_of (entries_of s)) (index_in s (Class name))) P
class_named P text s name is h p =
    let pool = pool_of (entries_of s) in
    let utf8 = parts_there text s (Class name) (Utf8 name) is h (in_here (Utf8 name) []) in
    let inner : text_at pool (index_in s (Utf8 name)) ≡ Some name = ap (option_and_then text_of) (constant_found (entries_of s) (Utf8 name) utf8) in
    let at : class_name_at pool (index_in s (Class name)) ≡ Some name =
    ap (λ (o : Option Constant). option_and_then (text_at pool) (option_and_then class_text_of o)) (constant_found (entries_of s) (Class name) h) ∙ inner in
    subst (λ (o : Option (List ℕ)). IsSomeAnd o P) (sym at) p
