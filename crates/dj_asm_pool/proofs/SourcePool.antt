-- The pool of a text's source: each entry stands once, after its parts, and where nothing is past the pool it is well formed.
use Rattle.std.proofs.Common.{◌≡◌, ◌≢◌, ℕ, ◌+◌, ◌^◌, ◌<◌, ◌≤◌, ◌⊎◌, inl, inr, List, [], ◌∷◌, ◌++◌, length, map, Option, Some, AllPairs, Contains, IsSomeAnd, refl, sym, ap, ◌∙◌, subst, arith}
use Rattle.std.specs.Prelude.{⊤, option_and_then}
use Rattle.std.specs.List.{flat_map, AllByRecursion, enumerate_from}
use Rattle.std.proofs.lemmas.Bool.{cases_lt}
use Rattle.std.proofs.lemmas.List.{map-append}
use Rattle.dj_names.specs.trusted.Types.{Name}
use Rattle.dj_names.specs.trusted.Names.{IsUnqualifiedName, IsMethodName}
use Rattle.dj_names.specs.trusted.Descriptors.{IsFieldDescriptor, IsMethodDescriptor}
use Rattle.dj_pool.specs.trusted.Pool.{Constant, text_of, class_text_of, names_of, constant_at, text_at, desc_at, IsClassText, NamesText, NamesAnyClass, NamesDesc, IsConstant, IsPool}
use Rattle.dj_asm_source.specs.trusted.Lines.{Line, IsLine, IsSized}
use Rattle.dj_asm_source.specs.trusted.Sources.{Source, MethodSource, head_lines, method_lines, lines_of, IsTextOf}
use Rattle.dj_asm_pool.specs.trusted.Entries.{Entry, Utf8, Integer, Long, Class, Text, NameAndType, Field, Method, InterfaceMethod, Dynamic, with_parts, width, widths, before, index_of, constant_of, pool_of}
use Rattle.dj_asm_pool.specs.trusted.Needs.{Need, needs_at, needs, method_needs, methods_needs, needs_of, needed_entry, entries_of, index_in, head_entries, instruction_entries, catch_entries, stack_map_entries, frame_entries}
use Rattle.dj_asm_pool.specs.trusted.Room.{IsShort, HasRoom, IsPastPool, NoLine}
use Rattle.dj_asm_pool.proofs.Members.{in_here, in_rest, from_map, in_map, each_in, each_from, each_append, each_first, each_last}
use Rattle.dj_asm_pool.proofs.EntryLaws.{once_has, once_from, once_differ, each_stands_once, parts_of, ComeBefore, Nothing, all_parts_seen, append_seen, parts_stand_before, parts_stand, constant_count, index_is, constant_found, all_fit}
use Rattle.dj_asm_pool.proofs.TokenUnits.{LineFits, texts_fit}
use Rattle.dj_asm_pool.proofs.RightEntries.{IsRight, AllRight, parts_right, Good, head_right, instruction_right, catch_right, stack_map_line_right, frame_right}

-- ---- what is needed

-- what is needed is right, and its parts are needed before it
record AreFine (all : List Need) : Type 0 where
  right : AllByRecursion IsRight (map needed_entry all)
  seen : ComeBefore Nothing (map needed_entry all)

fine_append : (xs ys : List Need) → AreFine xs → AreFine ys → AreFine (xs ++ ys)
fine_append xs ys p q = record {
  right = subst (AllByRecursion IsRight) (sym (map-append needed_entry xs ys)) (each_append IsRight (map needed_entry xs) (map needed_entry ys) p.right q.right);
  seen = subst (ComeBefore Nothing) (sym (map-append needed_entry xs ys)) (append_seen (map needed_entry xs) (map needed_entry ys) p.seen q.seen);
}

pub entries_again : (place : ℕ) (entries : List Entry) → map needed_entry (map (λ entry. record { place = place; entry = entry }) entries) ≡ entries
entries_again place [] = refl
entries_again place (e ∷ entries) = ap (λ l. e ∷ l) (entries_again place entries)

fine_at : (place : ℕ) (entries : List Entry) → AllRight entries → AreFine (needs_at place entries)
fine_at place entries right = record {
  right = subst (AllByRecursion IsRight) (sym (entries_again place (flat_map with_parts entries))) (parts_right entries right);
  seen = subst (ComeBefore Nothing) (sym (entries_again place (flat_map with_parts entries))) (all_parts_seen entries);
}

abbrev GoodPlaced : ℕ × Line → Type 0
GoodPlaced placed = Good placed.1

fine_needs : (entries_of : Line → List Entry) → ((line : Line) → Good line → AllRight (entries_of line)) → (placed : List (ℕ × Line)) → AllByRecursion GoodPlaced placed → AreFine (needs entries_of placed)
fine_needs entries_of right [] good = record { right = tt; seen = tt }
fine_needs entries_of right (line ∷ placed) good =
    fine_append (needs_at line.0 (entries_of line.1)) (needs entries_of placed) (fine_at line.0 (entries_of line.1) (right line.1 good.0)) (fine_needs entries_of right placed good.1)

fine_method : (placed : List (ℕ × Line)) → AllByRecursion GoodPlaced placed → AreFine (method_needs placed)
fine_method placed good =
    fine_append (needs head_entries placed ++ needs instruction_entries placed ++ needs catch_entries placed ++ needs stack_map_entries placed) (needs frame_entries placed)
    (fine_append (needs head_entries placed ++ needs instruction_entries placed ++ needs catch_entries placed) (needs stack_map_entries placed)
    (fine_append (needs head_entries placed ++ needs instruction_entries placed) (needs catch_entries placed)
    (fine_append (needs head_entries placed) (needs instruction_entries placed) (fine_needs head_entries head_right placed good) (fine_needs instruction_entries instruction_right placed good))
    (fine_needs catch_entries catch_right placed good))
    (fine_needs stack_map_entries (λ line g. stack_map_line_right line) placed good))
    (fine_needs frame_entries frame_right placed good)

each_placed : (place : ℕ) (all : List Line) → AllByRecursion Good all → AllByRecursion GoodPlaced (enumerate_from place all)
each_placed place [] good = tt
each_placed place (line ∷ all) good = (good.0, each_placed (place + 1) all good.1)

fine_methods : (place : ℕ) (methods : List MethodSource) → AllByRecursion Good (flat_map method_lines methods) → AreFine (methods_needs place methods)
unfolding methods_needs
fine_methods place [] good = record { right = tt; seen = tt }
fine_methods place (method ∷ methods) good =
    fine_append (method_needs (enumerate_from place (method_lines method))) (methods_needs (place + length (method_lines method)) methods)
    (fine_method (enumerate_from place (method_lines method)) (each_placed place (method_lines method) (each_first Good (method_lines method) (flat_map method_lines methods) good)))
    (fine_methods (place + length (method_lines method)) methods (each_last Good (method_lines method) (flat_map method_lines methods) good))

all_good : (all : List Line) → AllByRecursion IsLine all → AllByRecursion IsSized all → AllByRecursion LineFits all → AllByRecursion Good all
all_good [] is sized fits = tt
all_good (line ∷ all) is sized fits = ((is.0, sized.0, fits.0), all_good all is.1 sized.1 fits.1)

-- each line of a text's source is good
pub lines_good : (text : List ℕ) (s : Source) → IsTextOf text s → AllByRecursion Good (lines_of s)
lines_good text s is = all_good (lines_of s) is.allowed.0 is.allowed.1 (texts_fit text s is)

fine_source : (text : List ℕ) (s : Source) → IsTextOf text s → AreFine (needs_of s)
fine_source text s is =
    let good = lines_good text s is in
    fine_append (needs head_entries (enumerate_from 0 (head_lines s))) (methods_needs (length (head_lines s)) s.methods)
    (fine_needs head_entries head_right (enumerate_from 0 (head_lines s)) (each_placed 0 (head_lines s) (each_first Good (head_lines s) (flat_map method_lines s.methods) good)))
    (fine_methods (length (head_lines s)) s.methods (each_last Good (head_lines s) (flat_map method_lines s.methods) good))

-- ---- the entries of the pool

-- the pool has each entry once
pub entry_once : (s : Source) → AllPairs (λ a b. a ≢ b) (entries_of s)
entry_once s = each_stands_once (map needed_entry (needs_of s))

-- what is needed has an entry
pub needed_has_entry : (s : Source) (need : Need) → Contains (needs_of s) need → Contains (entries_of s) need.entry
needed_has_entry s need h = once_has (map needed_entry (needs_of s)) need.entry (in_map needed_entry (needs_of s) need h)

-- each entry is needed
pub entry_is_needed : (s : Source) (e : Entry) → Contains (entries_of s) e → (need : Need) × Contains (needs_of s) need × (need.entry ≡ e)
entry_is_needed s e h = from_map needed_entry (needs_of s) e (once_from (map needed_entry (needs_of s)) e h)

-- the parts of an entry stand before it
pub parts_before : (text : List ℕ) (s : Source) (e part : Entry) → IsTextOf text s → Contains (entries_of s) e → Contains (parts_of e) part → Contains (before (entries_of s) e) part
parts_before text s e part is h in' = parts_stand_before (map needed_entry (needs_of s)) e part (fine_source text s is).seen h in'

pub parts_there : (text : List ℕ) (s : Source) (e part : Entry) → IsTextOf text s → Contains (entries_of s) e → Contains (parts_of e) part → Contains (entries_of s) part
parts_there text s e part is h in' = parts_stand (map needed_entry (needs_of s)) e part (fine_source text s is).seen h in'

-- each entry is what the pool may have
pub entry_right : (text : List ℕ) (s : Source) (e : Entry) → IsTextOf text s → Contains (entries_of s) e → IsRight e
entry_right text s e is h = each_in IsRight (map needed_entry (needs_of s)) e (fine_source text s is).right (once_from (map needed_entry (needs_of s)) e h)

-- ---- room

short_or_not : (e : Entry) → IsShort e ⊎ (IsShort e → ⊥)
short_or_not (Utf8 text) = elim (cases_lt (length text) 65536) [ inl lt ↦ inl (omega (arith, lt)) | inr ge ↦ inr (λ lt. omega (arith, ge, lt)) ]
short_or_not e = inl tt

-- an entry has room or it hasn't
pub room_or_not : (index : ℕ) (e : Entry) → HasRoom index e ⊎ (HasRoom index e → ⊥)
room_or_not index e = elim (short_or_not e) [
  | inr long ↦ inr (λ room. long room.short)
  | inl short ↦ elim (cases_lt 65535 (index + width e)) [
    | inl past ↦ inr (λ room. let last = room.last in omega (arith, past, last))
    | inr le ↦ inl (record { short = short; last = omega (arith, le) })
  ]
]

-- where nothing is past the pool each entry has room
pub entry_has_room : (s : Source) → NoLine (IsPastPool s) → (e : Entry) → Contains (entries_of s) e → HasRoom (index_in s e) e
entry_has_room s none e h =
    let n = entry_is_needed s e h in
    elim (room_or_not (index_in s e) e) [
      | inl room ↦ room
      | inr lacks ↦ absurd (none n.0.place (record { need = n.0; needed = n.1; place_is = refl; no_room = subst (λ x. HasRoom (index_in s x) x → ⊥) (sym n.2) lacks }))
    ]

-- ---- constants

module _ (entries : List Entry) (parts : (e part : Entry) → Contains entries e → Contains (parts_of e) part → Contains entries part)
    (room : (e : Entry) → Contains entries e → HasRoom (index_of entries e) e) (right : (e : Entry) → Contains entries e → IsRight e)
  where
    abbrev index : Entry → ℕ
    index e = index_of entries e

    abbrev pool : List Constant
    pool = pool_of entries

    small : (e : Entry) → Contains entries e → index e < 2 ^ 16
    small e h = let last = (room e h).last in omega (arith, last)

    names_text : (P : List ℕ → Type 0) (text : List ℕ) → Contains entries (Utf8 text) → P text → NamesText P pool (index (Utf8 text))
    names_text P text h p =
        let at : text_at pool (index (Utf8 text)) ≡ Some text = ap (option_and_then text_of) (constant_found entries (Utf8 text) h) in
        subst (λ (o : Option (List ℕ)). IsSomeAnd o P) (sym at) p

    names_class : (name : Name) → Contains entries (Class name) → NamesAnyClass pool (index (Class name))
    names_class name h =
        let at : option_and_then class_text_of (constant_at pool (index (Class name))) ≡ Some (index (Utf8 name)) = ap (option_and_then class_text_of) (constant_found entries (Class name) h) in
        subst (λ (o : Option ℕ). IsSomeAnd o (λ _. ⊤)) (sym at) tt

    names_desc : (P : List ℕ → Type 0) (name desc : Name) → Contains entries (NameAndType name desc) → P desc → NamesDesc P pool (index (NameAndType name desc))
    names_desc P name desc h p =
        let text : text_at pool (index (Utf8 desc)) ≡ Some desc =
        ap (option_and_then text_of) (constant_found entries (Utf8 desc) (parts (NameAndType name desc) (Utf8 desc) h (in_rest (Utf8 name) (Utf8 desc ∷ []) (Utf8 desc) (in_here (Utf8 desc) [])))) in
        let at : desc_at pool (index (NameAndType name desc)) ≡ Some desc =
        ap (λ (o : Option Constant). option_and_then (λ (n : ℕ × ℕ). text_at pool n.1) (option_and_then names_of o)) (constant_found entries (NameAndType name desc) h) ∙ text in
        subst (λ (o : Option (List ℕ)). IsSomeAnd o P) (sym at) p

    member_parts : (class name desc : Name) (e : Entry) → Contains entries e → parts_of e ≡ Class class ∷ NameAndType name desc ∷ [] → Contains entries (Class class) × Contains entries (NameAndType name desc)
    member_parts class name desc e h are = (
      parts e (Class class) h (subst (λ l. Contains l (Class class)) (sym are) (in_here (Class class) (NameAndType name desc ∷ []))),
      parts e (NameAndType name desc) h
          (subst (λ l. Contains l (NameAndType name desc)) (sym are) (in_rest (Class class) (NameAndType name desc ∷ []) (NameAndType name desc) (in_here (NameAndType name desc) []))),
    )

    constant_right : (e : Entry) → Contains entries e → IsConstant pool (constant_of index e)
    constant_right (Utf8 text) h = (((room (Utf8 text) h).short, right (Utf8 text) h), tt)
    constant_right (Integer n) h = (right (Integer n) h, tt)
    constant_right (Long n) h = (right (Long n) h, tt)
    constant_right (Class name) h =
        let text = parts (Class name) (Utf8 name) h (in_here (Utf8 name) []) in
        (small (Utf8 name) text, names_text IsClassText name text (right (Class name) h))
    constant_right (Text text) h =
        let there = parts (Text text) (Utf8 text) h (in_here (Utf8 text) []) in
        (small (Utf8 text) there, names_text (λ _. ⊤) text there tt)
    constant_right (NameAndType name desc) h =
        let n = parts (NameAndType name desc) (Utf8 name) h (in_here (Utf8 name) (Utf8 desc ∷ [])) in
        let d = parts (NameAndType name desc) (Utf8 desc) h (in_rest (Utf8 name) (Utf8 desc ∷ []) (Utf8 desc) (in_here (Utf8 desc) [])) in (
          (small (Utf8 name) n, small (Utf8 desc) d),
          elim (right (NameAndType name desc) h) [
            | inl field ↦ inl (names_text IsUnqualifiedName name n field.0, names_text IsFieldDescriptor desc d field.1)
            | inr method ↦ inr (names_text IsMethodName name n method.0, names_text IsMethodDescriptor desc d method.1)
          ],
        )
    constant_right (Field class name desc) h =
        let p = member_parts class name desc (Field class name desc) h refl in
        ((small (Class class) p.0, small (NameAndType name desc) p.1), (names_class class p.0, names_desc IsFieldDescriptor name desc p.1 (right (Field class name desc) h)))
    constant_right (Method class name desc) h =
        let p = member_parts class name desc (Method class name desc) h refl in
        ((small (Class class) p.0, small (NameAndType name desc) p.1), (names_class class p.0, names_desc IsMethodDescriptor name desc p.1 (right (Method class name desc) h)))
    constant_right (InterfaceMethod class name desc) h =
        let p = member_parts class name desc (InterfaceMethod class name desc) h refl in
        ((small (Class class) p.0, small (NameAndType name desc) p.1), (names_class class p.0, names_desc IsMethodDescriptor name desc p.1 (right (InterfaceMethod class name desc) h)))
    constant_right (Dynamic place name desc) h =
        let n = parts (Dynamic place name desc) (NameAndType name desc) h (in_here (NameAndType name desc) []) in
        let r = right (Dynamic place name desc) h in
        ((r.0, small (NameAndType name desc) n), names_desc IsMethodDescriptor name desc n r.1)

    last_fits : (e : Entry) → Contains entries e → 1 + widths (before entries e) + width e ≤ 65535
    last_fits e h = let last = (room e h).last in let is = index_is entries e in omega (arith, last, is)

-- the pool of a text's source is well formed where nothing is past it
pub pool_is_well_formed : (text : List ℕ) (s : Source) → IsTextOf text s → NoLine (IsPastPool s) → IsPool (pool_of (entries_of s))
pool_is_well_formed text s is none =
    let entries = entries_of s in
    let parts = λ (e part : Entry) (h : Contains entries e) (in' : Contains (parts_of e) part). parts_there text s e part is h in' in
    let room = entry_has_room s none in
    let right = λ (e : Entry) (h : Contains entries e). entry_right text s e is h in
    let fit = all_fit 1 65535 entries (once_differ (map needed_entry (needs_of s)))
    (each_from (λ e. 1 + widths (before entries e) + width e ≤ 65535) entries (last_fits entries parts room right)) (omega arith) in
    let size = constant_count (index_of entries) entries in
    record {
      constants = map (constant_of (index_of entries)) entries;
      indexes = refl;
      each = each_from (IsConstant (pool_of entries)) (map (constant_of (index_of entries)) entries) (λ k is. let x = from_map (constant_of (index_of entries)) entries k is in subst (IsConstant (pool_of entries)) x.2 (constant_right entries parts room right x.0 x.1));
      count = omega (arith, fit, size);
    }
