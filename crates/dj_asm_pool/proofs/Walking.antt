-- Needs of lines are walked one after the other, and those of all lines make the pool.
use Rattle.std.proofs.Common.{◌≡◌, ℕ, ◌+◌, ◌<◌, ◌≤◌, ◌⊎◌, inl, inr, Bool, true, false, nat_lt, cond, List, [], ◌∷◌, ◌++◌, length, map, take, drop, slice_get, Contains, Option, Some, None, Result, Ok, Err, IfOk, refl, sym, ap, ◌∙◌, subst, arith, append_assoc, ℤ}
use Rattle.std.specs.List.{enumerate_from, AllByRecursion}
use Rattle.std.proofs.lemmas.List.{length-map, length-take-le, drop_all}
use Rattle.std.proofs.lemmas.List.Elements.{Contains-append_left, Contains-append_right, Contains-append_cases}
use Rattle.dj_asm_source.specs.trusted.Lines.{Line, Value, Class, Version, Super, Implements, Field}
use Rattle.dj_asm_source.specs.trusted.Sources.{Source, MethodSource, version_lines, field_line, method_lines, head_lines, lines_of, FieldSource}
use Rattle.dj_asm_source.specs.LabelReading.{sections_of, section_size}
use Rattle.dj_asm_source.specs.declared.syntax.Line as the_line
use Rattle.dj_asm_source.specs.LineViews.{line_view}
use Rattle.dj_asm_source.proofs.Sections.{source_sections}
use Rattle.dj_asm_source.proofs.Labellings.{cut}
use Rattle.dj_names.specs.trusted.Types.{Name}
use Rattle.dj_asm_pool.specs.trusted.Entries.{Entry, each_once, index_of}
use Rattle.dj_asm_pool.specs.trusted.Room.{HasRoom, IsPastPool}
use Rattle.dj_asm_pool.specs.Room.{IsFirst}
use Rattle.dj_asm_pool.specs.trusted.Needs.{Need, needs_at, needs, method_needs, methods_needs, needs_of, needed_entry, index_in, head_entries, instruction_entries, catch_entries, stack_map_entries, frame_entries}
use Rattle.dj_asm_pool.specs.Pooling.{EndsIn, all_kept, HasIndex, IsFull}
use Rattle.dj_asm_pool.specs.PoolNeeds.{HasPlace, LacksPlace, OneLacksPlace, all_parts, PutsNeeds, IsPoolOf}
use Rattle.dj_asm_pool.specs.Walking.{noted, IsUpTo, OneLacks, IsOfOne, AreWalked, Walks, section_needs}
use Rattle.dj_asm_pool.proofs.Members.{each_in, in_map, from_map, each_append}
use Rattle.dj_asm_pool.proofs.PoolChains.{kept_append, all_index, all_full}
use Rattle.dj_asm_pool.proofs.PoolEntries.{one_more}
use Rattle.dj_asm_pool.proofs.PoolRoom.{room_in_whole, lacks_in_whole}

-- ---- lists

nothing_more : {A : Type 0} (xs : List A) → xs ++ [] ≡ xs
nothing_more [] = refl
nothing_more (x ∷ xs) = ap (λ l. x ∷ l) (nothing_more xs)

map_both : {A B : Type 0} (f : A → B) (xs ys : List A) → map f (xs ++ ys) ≡ map f xs ++ map f ys
map_both f [] ys = refl
map_both f (x ∷ xs) ys = ap (λ l. f x ∷ l) (map_both f xs ys)

abbrev need_at : ℕ → Entry → Need
need_at place entry = record { place = place; entry = entry }

entries_at : (place : ℕ) (es : List Entry) → map needed_entry (map (need_at place) es) ≡ es
entries_at place [] = refl
entries_at place (e ∷ es) = ap (λ l. e ∷ l) (entries_at place es)

-- ---- one line

later_place : (a xs b : List Entry) (e : Entry) → b ≡ all_kept a xs → HasPlace a e → HasPlace b e
later_place a xs b e k place = (place.0, subst (λ l. HasIndex l e) (sym k) (all_index a xs e place.1))

later_lacks : (a xs b : List Entry) (e : Entry) → b ≡ all_kept a xs → LacksPlace a e → LacksPlace b e
later_lacks a xs b e k (inl long) = inl long
later_lacks a xs b e k (inr past) = inr (subst (λ l. (EndsIn l e → ⊥) × IsFull l) (sym (k ∙ all_full a xs past.1)) past)

still_up : (first : Option ℕ) (place : ℕ) (room : Bool) (p : ℕ) → IsUpTo first p → IsUpTo (noted first place room) p
still_up first place true p h = h
still_up None place false p h = absurd h
still_up (Some first) place false p h = by (nat_lt place first) refl where
  by : (b : Bool) → nat_lt place first ≡ b → IsUpTo (cond b (Some place) (Some first)) p
  by true e = let lt : place < first = grind (arith, e) in omega (arith, lt, h)
  by false e = h

up_to_new : (first : Option ℕ) (place : ℕ) → IsUpTo (noted first place false) place
up_to_new None place = omega arith
up_to_new (Some first) place = by (nat_lt place first) refl where
  by : (b : Bool) → nat_lt place first ≡ b → IsUpTo (cond b (Some place) (Some first)) place
  by true e = omega arith
  by false e = grind (arith, e)

module _ (a b : List Entry) (later : (e : Entry) → LacksPlace a e → LacksPlace b e) (done more : List Need) where
  old_one : (first : ℕ) → OneLacks a done first → OneLacks b (done ++ more) first
  old_one first one = record { need = one.need; among = Contains-append_left done more one.need one.among; place_is = one.place_is; lacks = later one.need.entry one.lacks }

  new_one : (first : ℕ) → OneLacks b more first → OneLacks b (done ++ more) first
  new_one first one = record { need = one.need; among = Contains-append_right done more one.need one.among; place_is = one.place_is; lacks = one.lacks }

  same_first : (first : Option ℕ) → IsOfOne a done first → IsOfOne b (done ++ more) first
  same_first None h = tt
  same_first (Some first) h = old_one first h

  with_first : (first : Option ℕ) (place : ℕ) → IsOfOne a done first → OneLacks b more place → IsOfOne b (done ++ more) (noted first place false)
  with_first None place h one = new_one place one
  with_first (Some first) place h one = by (nat_lt place first) where
    by : (c : Bool) → IsOfOne b (done ++ more) (cond c (Some place) (Some first))
    by true = new_one place one
    by false = old_one first h

one_at : (b : List Entry) (place : ℕ) (entries : List Entry) → OneLacksPlace b (all_parts entries) → OneLacks b (needs_at place entries) place
one_at b place entries one = record { need = need_at place one.entry; among = in_map (need_at place) (all_parts entries) one.entry one.among; place_is = refl; lacks = one.lacks }

after_is : (done : List Need) (a : List Entry) (place : ℕ) (entries b : List Entry) → a ≡ all_kept [] (map needed_entry done) → b ≡ all_kept a (all_parts entries)
    → b ≡ all_kept [] (map needed_entry (done ++ needs_at place entries))
after_is done a place entries b h k =
    k ∙ (ap (λ l. all_kept l (all_parts entries)) h
    ∙ (sym (kept_append [] (map needed_entry done) (all_parts entries))
    ∙ ap (all_kept []) (ap (λ l. map needed_entry done ++ l) (sym (entries_at place (all_parts entries))) ∙ sym (map_both needed_entry done (needs_at place entries)))))

earlier_after : (done : List Need) (a : List Entry) (place : ℕ) (entries b : List Entry) (first now : Option ℕ)
    → ((e : Entry) → HasPlace a e → HasPlace b e)
    → ((p : ℕ) → IsUpTo first p → IsUpTo now p)
    → ((need : Need) → Contains done need → HasPlace a need.entry ⊎ IsUpTo first need.place)
    → ((e : Entry) → Contains (all_parts entries) e → HasPlace b e ⊎ IsUpTo now place)
    → (need : Need) → Contains (done ++ needs_at place entries) need → HasPlace b need.entry ⊎ IsUpTo now need.place
earlier_after done a place entries b first now later up old new need is = elim (Contains-append_cases done (needs_at place entries) need is) [
  | inl before ↦ elim (old need before) [ inl has ↦ inl (later need.entry has) | inr to ↦ inr (up need.place to) ]
  | inr here ↦
      let r = from_map (need_at place) (all_parts entries) need here in
      subst (λ (n : Need). HasPlace b n.entry ⊎ IsUpTo now n.place) r.2 (new r.0 r.1)
]

walked_after : (done : List Need) (a : List Entry) (place : ℕ) (entries b : List Entry) (room : Bool) (first : Option ℕ) → PutsNeeds a entries b room → AreWalked done a first
    → AreWalked (done ++ needs_at place entries) b (noted first place room)
walked_after done a place entries b true first puts h = record {
  now_is = after_is done a place entries b h.now_is puts.0;
  earlier = earlier_after done a place entries b first first (λ e has. later_place a (all_parts entries) b e puts.0 has) (λ p to. to) h.earlier (λ e is. inl (each_in (HasPlace b) (all_parts entries) e puts.1 is));
  one = same_first a b (λ e lacks. later_lacks a (all_parts entries) b e puts.0 lacks) done (needs_at place entries) first h.one;
}
walked_after done a place entries b false first puts h = record {
  now_is = after_is done a place entries b h.now_is puts.0;
  earlier =
      earlier_after done a place entries b first (noted first place false) (λ e has. later_place a (all_parts entries) b e puts.0 has) (λ p to. still_up first place false p to) h.earlier
      (λ e is. inr (up_to_new first place));
  one = with_first a b (λ e lacks. later_lacks a (all_parts entries) b e puts.0 lacks) done (needs_at place entries) first place h.one (one_at b place entries puts.1);
}

pub line_walks : (a : List Entry) (place : ℕ) (entries b : List Entry) (room : Bool) (first now : Option ℕ) → PutsNeeds a entries b room → now ≡ noted first place room → Walks a first (needs_at place entries) b now
line_walks a place entries b room first now puts is = record { after = λ done h. subst (λ o. AreWalked (done ++ needs_at place entries) b o) (sym is) (walked_after done a place entries b room first puts h) }

-- ---- one after the other

pub walks_none : (a : List Entry) (first : Option ℕ) → Walks a first [] a first
walks_none a first = record { after = λ done h. subst (λ l. AreWalked l a first) (sym (nothing_more done)) h }

pub walks_then : (a : List Entry) (first : Option ℕ) (xs : List Need) (b : List Entry) (second : Option ℕ) (ys : List Need) (c : List Entry) (third : Option ℕ)
    → Walks a first xs b second → Walks b second ys c third → Walks a first (xs ++ ys) c third
walks_then a first xs b second ys c third h k = record { after = λ done w. subst (λ l. AreWalked l c third) (append_assoc done xs ys) (k.after (done ++ xs) (h.after done w)) }

pub walks_last : {E : Type 0} (r : Result (Option ℕ) E) (a : List Entry) (first : Option ℕ) (xs : List Need) (b : List Entry) (second : Option ℕ) (ys : List Need) (c : List Entry)
    → Walks a first xs b second → IfOk r (λ third. Walks b second ys c third) → IfOk r (λ third. Walks a first (xs ++ ys) c third)
walks_last (Ok third) a first xs b second ys c h k = walks_then a first xs b second ys c third h k
walks_last (Err e) a first xs b second ys c h k = tt

-- ---- the lines of one kind

needs_last : (f : Line → List Entry) (n : ℕ) (xs : List the_line.Line) (x : the_line.Line)
    → needs f (enumerate_from n (map line_view xs)) ++ needs_at (n + length xs) (f (line_view x)) ≡ needs f (enumerate_from n (map line_view (xs ++ x ∷ [])))
needs_last f n [] x =
    let same : n + 0 ≡ n = omega arith in
    ap (λ (k : ℕ). needs_at k (f (line_view x))) same ∙ sym (nothing_more (needs_at n (f (line_view x))))
needs_last f n (y ∷ xs) x =
    let same : n + length (y ∷ xs) ≡ n + 1 + length xs = omega arith in
    ap (λ (k : ℕ). needs f (enumerate_from n (map line_view (y ∷ xs))) ++ needs_at k (f (line_view x))) same
    ∙ (append_assoc (needs_at n (f (line_view y))) (needs f (enumerate_from (n + 1) (map line_view xs))) (needs_at (n + 1 + length xs) (f (line_view x)))
    ∙ ap (λ l. needs_at n (f (line_view y)) ++ l) (needs_last f (n + 1) xs x))

-- one more line
pub needs_more : (f : Line → List Entry) (n : ℕ) (xs : List the_line.Line) (i : ℕ) (x : the_line.Line) → i < length xs → slice_get xs i ≡ Some x
    → needs f (enumerate_from n (map line_view (take i xs))) ++ needs_at (n + i) (f (line_view x)) ≡ needs f (enumerate_from n (map line_view (take (i + 1) xs)))
needs_more f n xs i x within h =
    let count : length (take i xs) ≡ i = length-take-le i xs (omega (arith, within)) in
    ap (λ (k : ℕ). needs f (enumerate_from n (map line_view (take i xs))) ++ needs_at (n + k) (f (line_view x))) (sym count)
    ∙ (needs_last f n (take i xs) x ∙ ap (λ l. needs f (enumerate_from n (map line_view l))) (sym (one_more xs i x h)))

-- ---- section by section

pub sections_step : (lines : List the_line.Line) (before size : ℕ) (done : List Need) → before < length lines → size ≡ section_size (map line_view (drop before lines)) → size ≤ length (drop before lines)
    → done ++ section_needs before (sections_of (map line_view (drop before lines))) ≡ section_needs 0 (sections_of (map line_view lines))
    → (done ++ method_needs (enumerate_from before (map line_view (take size (drop before lines))))) ++ section_needs (before + size) (sections_of (map line_view (drop (before + size) lines)))
    ≡ section_needs 0 (sections_of (map line_view lines))
unfolding section_needs
sections_step lines before size done some size_is within h =
    let section = map line_view (take size (drop before lines)) in
    let rest = sections_of (map line_view (drop (before + size) lines)) in
    let count : length section ≡ size = length-map (take size (drop before lines)) line_view ∙ length-take-le size (drop before lines) within in
    append_assoc done (method_needs (enumerate_from before section)) (section_needs (before + size) rest)
    ∙ (ap (λ (k : ℕ). done ++ (method_needs (enumerate_from before section) ++ section_needs (before + k) rest)) (sym count)
    ∙ (ap (λ l. done ++ section_needs before l) (sym (cut lines before size some size_is within)) ∙ h))

pub sections_end : (lines : List the_line.Line) (before : ℕ) (done : List Need) → length lines ≤ before
    → done ++ section_needs before (sections_of (map line_view (drop before lines))) ≡ section_needs 0 (sections_of (map line_view lines)) → done ≡ section_needs 0 (sections_of (map line_view lines))
unfolding section_needs sections_of
sections_end lines before done past h =
    sym (nothing_more done) ∙ (ap (λ l. done ++ section_needs before (sections_of (map line_view l))) (sym (drop_all before lines past)) ∙ h)

-- ---- a source

methods_are : (place : ℕ) (methods : List MethodSource) → section_needs place (map method_lines methods) ≡ methods_needs place methods
unfolding section_needs methods_needs
methods_are place [] = refl
methods_are place (method ∷ methods) = ap (λ l. method_needs (enumerate_from place (method_lines method)) ++ l) (methods_are (place + length (method_lines method)) methods)

-- what lines before the methods don't need
module _ (f : Line → List Entry) (class : (flags : ℕ) (name : Name) → f (Class flags name) ≡ []) (version : (major minor : ℤ) → f (Version major minor) ≡ []) (super : (name : Name) → f (Super name) ≡ [])
    (implements : (name : Name) → f (Implements name) ≡ []) (field : (flags : ℕ) (name desc : Name) (value : Option Value) → f (Field flags name desc value) ≡ []) where
  abbrev NeedsNone : Line → Type 0
  NeedsNone line = f line ≡ []

  none_needed : (lines : List Line) (place : ℕ) → AllByRecursion NeedsNone lines → needs f (enumerate_from place lines) ≡ []
  none_needed [] place h = refl
  none_needed (line ∷ lines) place h = ap (λ es. needs_at place es ++ needs f (enumerate_from (place + 1) lines)) h.0 ∙ none_needed lines (place + 1) h.1

  fields_none : (fields : List FieldSource) → AllByRecursion NeedsNone (map field_line fields)
  fields_none [] = tt
  fields_none (x ∷ fields) = (field x.flags x.name x.desc x.value, fields_none fields)

  names_none : (names : List Name) → AllByRecursion NeedsNone (map Implements names)
  names_none [] = tt
  names_none (name ∷ names) = (implements name, names_none names)

  version_none : (v : Option (ℤ × ℤ)) → AllByRecursion NeedsNone (version_lines v)
  version_none None = tt
  version_none (Some (major, minor)) = (version major minor, tt)

  head_none : (s : Source) (place : ℕ) → needs f (enumerate_from place (head_lines s)) ≡ []
  head_none s place =
      none_needed (head_lines s) place (
        class s.flags s.name,
        each_append NeedsNone (version_lines s.version ++ Super s.super ∷ map Implements s.interfaces) (map field_line s.fields)
            (each_append NeedsNone (version_lines s.version) (Super s.super ∷ map Implements s.interfaces) (version_none s.version) (super s.super, names_none s.interfaces)) (fields_none s.fields),
      )

head_needs : (s : Source) → method_needs (enumerate_from 0 (head_lines s)) ≡ needs head_entries (enumerate_from 0 (head_lines s))
head_needs s =
    let placed = enumerate_from 0 (head_lines s) in
    let h = needs head_entries placed in
    let i = head_none instruction_entries (λ flags name. refl) (λ major minor. refl) (λ name. refl) (λ name. refl) (λ flags name desc value. refl) s 0 in
    let c = head_none catch_entries (λ flags name. refl) (λ major minor. refl) (λ name. refl) (λ name. refl) (λ flags name desc value. refl) s 0 in
    let m = head_none stack_map_entries (λ flags name. refl) (λ major minor. refl) (λ name. refl) (λ name. refl) (λ flags name desc value. refl) s 0 in
    let f = head_none frame_entries (λ flags name. refl) (λ major minor. refl) (λ name. refl) (λ name. refl) (λ flags name desc value. refl) s 0 in
    with_none (((h ++ needs instruction_entries placed) ++ needs catch_entries placed) ++ needs stack_map_entries placed) (needs frame_entries placed) f
    ∙ (with_none ((h ++ needs instruction_entries placed) ++ needs catch_entries placed) (needs stack_map_entries placed) m
    ∙ (with_none (h ++ needs instruction_entries placed) (needs catch_entries placed) c ∙ with_none h (needs instruction_entries placed) i)) where
      with_none : (xs ys : List Need) → ys ≡ [] → xs ++ ys ≡ xs
      with_none xs ys e = ap (λ l. xs ++ l) e ∙ nothing_more xs

source_needs : (s : Source) → section_needs 0 (sections_of (lines_of s)) ≡ needs_of s
unfolding section_needs
source_needs s =
    let none : 0 + length (head_lines s) ≡ length (head_lines s) = omega arith in
    ap (section_needs 0) (source_sections s)
    ∙ (ap (λ l. l ++ section_needs (0 + length (head_lines s)) (map method_lines s.methods)) (head_needs s)
    ∙ ap (λ l. needs head_entries (enumerate_from 0 (head_lines s)) ++ l) (ap (λ (k : ℕ). section_needs k (map method_lines s.methods)) none ∙ methods_are (length (head_lines s)) s.methods))

module _ (s : Source) (now : List Entry) where
  abbrev entries_needed : List Entry
  entries_needed = map needed_entry (needs_of s)

  has_room : (e : Entry) → now ≡ all_kept [] entries_needed → HasPlace now e → HasRoom (index_in s e) e
  has_room e is h =
      subst (λ l. HasRoom (index_of (each_once l) e) e) (nothing_more entries_needed)
      (room_in_whole entries_needed [] e (subst (λ l. HasPlace l e) is h))

  lacks_room : (e : Entry) → now ≡ all_kept [] entries_needed → LacksPlace now e → HasRoom (index_in s e) e → ⊥
  lacks_room e is h room =
      lacks_in_whole entries_needed [] e (subst (λ l. LacksPlace l e) is h) (subst (λ l. HasRoom (index_of (each_once l) e) e) (sym (nothing_more entries_needed)) room)

  is_first : (first : Option ℕ) → AreWalked (needs_of s) now first → IsFirst (IsPastPool s) first
  is_first None w = λ place past. elim (w.earlier past.need past.needed) [ inl has ↦ past.no_room (has_room past.need.entry w.now_is has) | inr to ↦ absurd to ]
  is_first (Some first) w =
      let one = w.one in (
        record { need = one.need; needed = one.among; place_is = one.place_is; no_room = λ room. lacks_room one.need.entry w.now_is one.lacks room },
        λ earlier lt past. elim (w.earlier past.need past.needed) [
          | inl has ↦ past.no_room (has_room past.need.entry w.now_is has)
          | inr to ↦ let is = past.place_is in absurd (omega (arith, lt, to, is))
        ],
      )

-- the pool of all lines
pub walked_pool : (s : Source) (lines : List the_line.Line) (done : List Need) (now : List Entry) (first : Option ℕ) → AreWalked done now first → done ≡ section_needs 0 (sections_of (map line_view lines))
    → map line_view lines ≡ lines_of s → IsPoolOf s now first
walked_pool s lines done now first w is are =
    let all : done ≡ needs_of s = is ∙ (ap (λ l. section_needs 0 (sections_of l)) are ∙ source_needs s) in
    let w' = subst (λ l. AreWalked l now first) all w in
    record { kept_is = w'.now_is; lacking_is = is_first s now first w' }
