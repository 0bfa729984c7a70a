-- Lists of entries in which each stands once: where an entry stands, what stands before it, and which constant has its index.
use Rattle.std.proofs.Common.{◌≡◌, ◌≢◌, ℕ, zero, suc, ◌+◌, ◌≤◌, ◌⊎◌, inl, inr, Bool, true, false, not, cond, filter, List, [], ◌∷◌, ◌++◌, length, map, take, AllPairs, Contains, Some, refl, sym, ap, ◌∙◌, subst, arith}
use Rattle.std.specs.Prelude.{slice_get}
use Rattle.std.specs.List.{flat_map, AllByRecursion, prefix_len}
use Rattle.std.specs.Cmp.Lexicographic.{bytes_decides}
use Rattle.std.proofs.lemmas.Bool.{cases_Bool, and_parts, and_from, false≢true}
use Rattle.std.proofs.lemmas.Bool.Decides.{Decides-int_eq, Decides-eqb}
use Rattle.std.proofs.lemmas.List.Elements.{All-from_recursion}
use Rattle.dj_names.specs.trusted.Types.{Name, same_name}
use Rattle.dj_pool.specs.trusted.Pool.{Constant, takes_two, indexed, constant_at}
use Rattle.dj_pool.proofs.Slots.{indexed_wide, indexed_narrow}
use Rattle.dj_asm_pool.specs.trusted.Entries.{Entry, Utf8, Integer, Long, Class, Text, NameAndType, Field, Method, InterfaceMethod, Dynamic, same_pair, same_member, same_entry, with_parts, each_once, width, widths, before, index_of, constant_of, pool_of}
use Rattle.dj_asm_pool.proofs.Members.{none_in, in_here, in_rest, in_cases, in_filter, from_filter, from_take, each_in, each_from}

-- ---- equal entries

pair_is : (a b c d : Name) → same_pair a b c d ≡ true → (a ≡ c) × (b ≡ d)
pair_is a b c d e = let h = and_parts (same_name a c) (same_name b d) e in ((bytes_decides a c).0 h.0, (bytes_decides b d).0 h.1)

member_is : (a b c d e f : Name) → same_member a b c d e f ≡ true → (a ≡ d) × (b ≡ e) × (c ≡ f)
member_is a b c d e f h =
    let k = and_parts (same_name a d) (same_pair b c e f) h in
    let p = pair_is b c e f k.1 in
    ((bytes_decides a d).0 k.0, p.0, p.1)

pub same_is : (a b : Entry) → same_entry a b ≡ true → a ≡ b
same_is (Utf8 a) (Utf8 b) e = ap Utf8 ((bytes_decides a b).0 e)
same_is (Integer a) (Integer b) e = ap Integer ((Decides-int_eq a b).0 e)
same_is (Long a) (Long b) e = ap Long ((Decides-int_eq a b).0 e)
same_is (Class a) (Class b) e = ap Class ((bytes_decides a b).0 e)
same_is (Text a) (Text b) e = ap Text ((bytes_decides a b).0 e)
same_is (NameAndType a b) (NameAndType c d) e = let p = pair_is a b c d e in let h = p.0 in let k = p.1 in cc
same_is (Field a b c) (Field d e f) h = let p = member_is a b c d e f h in let x = p.0 in let y = p.1 in let z = p.2 in cc
same_is (Method a b c) (Method d e f) h = let p = member_is a b c d e f h in let x = p.0 in let y = p.1 in let z = p.2 in cc
same_is (InterfaceMethod a b c) (InterfaceMethod d e f) h = let p = member_is a b c d e f h in let x = p.0 in let y = p.1 in let z = p.2 in cc
same_is (Dynamic a b c) (Dynamic d e f) h =
    let k = and_parts _ (same_pair b c e f) h in
    let x = (Decides-eqb a d).0 k.0 in
    let p = pair_is b c e f k.1 in
    let y = p.0 in
    let z = p.1 in
    cc
same_is a b e = absurd (false≢true e)

name_itself : (a : Name) → same_name a a ≡ true
name_itself a = (bytes_decides a a).1 refl

pair_itself : (a b : Name) → same_pair a b a b ≡ true
pair_itself a b = and_from (same_name a a) (same_name b b) (name_itself a) (name_itself b)

member_itself : (a b c : Name) → same_member a b c a b c ≡ true
member_itself a b c = and_from (same_name a a) (same_pair b c b c) (name_itself a) (pair_itself b c)

pub same_itself : (a : Entry) → same_entry a a ≡ true
same_itself (Utf8 a) = name_itself a
same_itself (Integer a) = (Decides-int_eq a a).1 refl
same_itself (Long a) = (Decides-int_eq a a).1 refl
same_itself (Class a) = name_itself a
same_itself (Text a) = name_itself a
same_itself (NameAndType a b) = pair_itself a b
same_itself (Field a b c) = member_itself a b c
same_itself (Method a b c) = member_itself a b c
same_itself (InterfaceMethod a b c) = member_itself a b c
same_itself (Dynamic a b c) = and_from _ (same_pair b c b c) ((Decides-eqb a a).1 refl) (pair_itself b c)

differ : (a b : Entry) → same_entry a b ≡ false → a ≡ b → ⊥
differ a b other same = false≢true (sym other ∙ subst (λ c. same_entry a c ≡ true) same (same_itself a))

apart : (a b : Entry) → (a ≡ b → ⊥) → same_entry a b ≡ false
apart a b unlike = elim (cases_Bool (same_entry a b)) [ inl so ↦ absurd (unlike (same_is a b so)) | inr e ↦ e ]

-- ---- each once

abbrev other_than : Entry → Entry → Bool
other_than entry other = not (same_entry other entry)

-- what is listed is there once
pub once_has : (entries : List Entry) (e : Entry) → Contains entries e → Contains (each_once entries) e
unfolding each_once
once_has [] e h = absurd (none_in e h)
once_has (x ∷ xs) e h = elim (cases_Bool (same_entry e x)) [
  | inl so ↦ subst (λ y. Contains (each_once (x ∷ xs)) y) (sym (same_is e x so)) (in_here x (filter (other_than x) (each_once xs)))
  | inr other ↦ elim (in_cases x xs e h) [
    | inl same ↦ absurd (differ e x other (sym same))
    | inr more ↦ in_rest x (filter (other_than x) (each_once xs)) e (in_filter (other_than x) (each_once xs) e (once_has xs e more) (ap not other))
  ]
]

pub once_from : (entries : List Entry) (e : Entry) → Contains (each_once entries) e → Contains entries e
unfolding each_once
once_from [] e h = h
once_from (x ∷ xs) e h = elim (in_cases x (filter (other_than x) (each_once xs)) e h) [
  | inl same ↦ subst (λ y. Contains (x ∷ xs) y) same (in_here x xs)
  | inr more ↦ in_rest x xs e (once_from xs e (from_filter (other_than x) (each_once xs) e more))
]

-- each differs from those after it
abbrev pub Differ : List Entry → Type 0
Differ [] = Unit {0}
Differ (x ∷ xs) = AllByRecursion (λ y. x ≢ y) xs × Differ xs

abbrev kept : Entry → Entry → List Entry → Bool → List Entry
kept x y xs b = cond (not b) (y ∷ filter (other_than x) xs) (filter (other_than x) xs)

filter_each : (test : Entry → Bool) (P : Entry → Type 0) (xs : List Entry) → AllByRecursion P xs → AllByRecursion P (filter test xs)
filter_each test P xs all = each_from P (filter test xs) (λ y h. each_in P xs y all (from_filter test xs y h))

filter_differ : (test : Entry → Bool) (xs : List Entry) → Differ xs → Differ (filter test xs)
filter_differ test [] d = tt
filter_differ test (x ∷ xs) d = by (test x) (filter_differ test xs d.1) where
  by : (b : Bool) → Differ (filter test xs) → Differ (cond b (x ∷ filter test xs) (filter test xs))
  by true ih = (filter_each test (λ y. x ≢ y) xs d.0, ih)
  by false ih = ih

others_differ : (x : Entry) (xs : List Entry) → AllByRecursion (λ y. x ≢ y) (filter (other_than x) xs)
others_differ x [] = tt
others_differ x (y ∷ xs) = elim (cases_Bool (same_entry y x)) [
  | inl so ↦ subst (λ b. AllByRecursion (λ z. x ≢ z) (kept x y xs b)) (sym so) (others_differ x xs)
  | inr other ↦ subst (λ b. AllByRecursion (λ z. x ≢ z) (kept x y xs b)) (sym other) ((λ same. differ y x other (sym same)), others_differ x xs)
]

pub once_differ : (entries : List Entry) → Differ (each_once entries)
unfolding each_once
once_differ [] = tt
once_differ (x ∷ xs) = (others_differ x (each_once xs), filter_differ (other_than x) (each_once xs) (once_differ xs))

pairs_differ : (entries : List Entry) → Differ entries → AllPairs (λ a b. a ≢ b) entries
pairs_differ [] d i j e lt within = absurd (omega (arith, within))
pairs_differ (x ∷ xs) d i zero e lt within = absurd (omega (arith, lt))
pairs_differ (x ∷ xs) d zero (suc j) e lt within = All-from_recursion (λ y. x ≢ y) xs d.0 j e (omega (arith, within))
pairs_differ (x ∷ xs) d (suc i) (suc j) e lt within = pairs_differ xs d.1 i j e (omega (arith, lt)) (omega (arith, within))

-- no entry stands there twice
pub each_stands_once : (entries : List Entry) → AllPairs (λ a b. a ≢ b) (each_once entries)
each_stands_once entries = pairs_differ (each_once entries) (once_differ entries)

-- ---- what stands before an entry

abbrev taken : Entry → List Entry → ℕ → Bool → List Entry
taken x xs n b = take (cond (not b) (1 + n) 0) (x ∷ xs)

before_here : (x : Entry) (xs : List Entry) (e : Entry) → same_entry x e ≡ true → before (x ∷ xs) e ≡ []
before_here x xs e so = ap (taken x xs (prefix_len (λ other. not (same_entry other e)) xs)) so

before_later : (x : Entry) (xs : List Entry) (e : Entry) → same_entry x e ≡ false → before (x ∷ xs) e ≡ x ∷ before xs e
before_later x xs e other =
    let n = prefix_len (λ other. not (same_entry other e)) xs in
    let one : 1 + n ≡ suc n = omega arith in
    ap (taken x xs n) other ∙ ap (λ (k : ℕ). take k (x ∷ xs)) one

-- what an entry is made of
abbrev pub parts_of : Entry → List Entry
parts_of (Class name) = Utf8 name ∷ []
parts_of (Text text) = Utf8 text ∷ []
parts_of (NameAndType name desc) = Utf8 name ∷ Utf8 desc ∷ []
parts_of (Field class name desc) = Class class ∷ NameAndType name desc ∷ []
parts_of (Method class name desc) = Class class ∷ NameAndType name desc ∷ []
parts_of (InterfaceMethod class name desc) = Class class ∷ NameAndType name desc ∷ []
parts_of (Dynamic place name desc) = NameAndType name desc ∷ []
parts_of entry = []

-- with what was seen, each part of an entry comes before the entry
abbrev pub ComeBefore : (Entry → Type 0) → List Entry → Type 0
ComeBefore IsSeen [] = Unit {0}
ComeBefore IsSeen (x ∷ xs) = AllByRecursion IsSeen (parts_of x) × ComeBefore (λ e. (x ≡ e) ⊎ IsSeen e) xs

each_seen : (P Q : Entry → Type 0) → ((e : Entry) → P e → Q e) → (xs : List Entry) → AllByRecursion P xs → AllByRecursion Q xs
each_seen P Q f [] h = tt
each_seen P Q f (x ∷ xs) h = (f x h.0, each_seen P Q f xs h.1)

seen_more : (P Q : Entry → Type 0) → ((e : Entry) → P e → Q e) → (xs : List Entry) → ComeBefore P xs → ComeBefore Q xs
seen_more P Q f [] h = tt
seen_more P Q f (x ∷ xs) h = (each_seen P Q f (parts_of x) h.0, seen_more (λ e. (x ≡ e) ⊎ P e) (λ e. (x ≡ e) ⊎ Q e) (λ e s. also e s) xs h.1) where
  also : (e : Entry) → (x ≡ e) ⊎ P e → (x ≡ e) ⊎ Q e
  also e (inl same) = inl same
  also e (inr p) = inr (f e p)

abbrev pub Nothing : Entry → Type 0
Nothing e = ⊥

seen_append : (P : Entry → Type 0) (xs ys : List Entry) → ComeBefore P xs → ComeBefore Nothing ys → ComeBefore P (xs ++ ys)
seen_append P [] ys h k = seen_more Nothing P (λ e none. absurd none) ys k
seen_append P (x ∷ xs) ys h k = (h.0, seen_append (λ e. (x ≡ e) ⊎ P e) xs ys h.1 k)

filter_seen : (P : Entry → Type 0) (x : Entry) (xs : List Entry) → P x → ComeBefore P xs → ComeBefore P (filter (other_than x) xs)
filter_seen P x [] seen h = tt
filter_seen P x (y ∷ xs) seen h = elim (cases_Bool (same_entry y x)) [
  | inl so ↦ subst (λ b. ComeBefore P (kept x y xs b)) (sym so) (filter_seen P x xs seen (seen_more (λ e. (y ≡ e) ⊎ P e) P (λ e s. was e s so) xs h.1))
  | inr other ↦ subst (λ b. ComeBefore P (kept x y xs b)) (sym other) (h.0, filter_seen (λ e. (y ≡ e) ⊎ P e) x xs (inr seen) h.1)
] where
  was : (e : Entry) → (y ≡ e) ⊎ P e → same_entry y x ≡ true → P e
  was e (inl same) so = subst P (sym (same_is y x so) ∙ same) seen
  was e (inr p) so = p

once_seen : (P : Entry → Type 0) (xs : List Entry) → ComeBefore P xs → ComeBefore P (each_once xs)
unfolding each_once
once_seen P [] h = tt
once_seen P (x ∷ xs) h = (h.0, filter_seen (λ e. (x ≡ e) ⊎ P e) x (each_once xs) (inl refl) (once_seen (λ e. (x ≡ e) ⊎ P e) xs h.1))

with_parts_seen : (e : Entry) → ComeBefore Nothing (with_parts e)
with_parts_seen (Utf8 text) = (tt, tt)
with_parts_seen (Integer n) = (tt, tt)
with_parts_seen (Long n) = (tt, tt)
with_parts_seen (Class name) = (tt, ((inl refl, tt), tt))
with_parts_seen (Text text) = (tt, ((inl refl, tt), tt))
with_parts_seen (NameAndType name desc) = (tt, (tt, ((inr (inl refl), (inl refl, tt)), tt)))
with_parts_seen (Field class name desc) = (tt, ((inl refl, tt), (tt, (tt, ((inr (inl refl), (inl refl, tt)), ((inr (inr (inr (inl refl))), (inl refl, tt)), tt))))))
with_parts_seen (Method class name desc) = (tt, ((inl refl, tt), (tt, (tt, ((inr (inl refl), (inl refl, tt)), ((inr (inr (inr (inl refl))), (inl refl, tt)), tt))))))
with_parts_seen (InterfaceMethod class name desc) = (tt, ((inl refl, tt), (tt, (tt, ((inr (inl refl), (inl refl, tt)), ((inr (inr (inr (inl refl))), (inl refl, tt)), tt))))))
with_parts_seen (Dynamic place name desc) = (tt, (tt, ((inr (inl refl), (inl refl, tt)), ((inl refl, tt), tt))))

pub all_parts_seen : (entries : List Entry) → ComeBefore Nothing (flat_map with_parts entries)
all_parts_seen [] = tt
all_parts_seen (e ∷ entries) = seen_append Nothing (with_parts e) (flat_map with_parts entries) (with_parts_seen e) (all_parts_seen entries)

pub append_seen : (xs ys : List Entry) → ComeBefore Nothing xs → ComeBefore Nothing ys → ComeBefore Nothing (xs ++ ys)
append_seen xs ys h k = seen_append Nothing xs ys h k

part_seen : (P : Entry → Type 0) (xs : List Entry) (e part : Entry) → ComeBefore P xs → Contains xs e → Contains (parts_of e) part → P part ⊎ Contains (before xs e) part
part_seen P [] e part h is in' = absurd (none_in e is)
part_seen P (x ∷ xs) e part h is in' = elim (cases_Bool (same_entry x e)) [
  | inl so ↦ inl (each_in P (parts_of x) part h.0 (subst (λ y. Contains (parts_of y) part) (sym (same_is x e so)) in'))
  | inr other ↦ elim (in_cases x xs e is) [
    | inl same ↦ absurd (differ x e other same)
    | inr more ↦ subst (λ l. P part ⊎ Contains l part) (sym (before_later x xs e other)) (further (part_seen (λ y. (x ≡ y) ⊎ P y) xs e part h.1 more in'))
  ]
] where
  further : ((x ≡ part) ⊎ P part) ⊎ Contains (before xs e) part → P part ⊎ Contains (x ∷ before xs e) part
  further (inl (inl same)) = inr (subst (λ y. Contains (x ∷ before xs e) y) same (in_here x (before xs e)))
  further (inl (inr p)) = inl p
  further (inr c) = inr (in_rest x (before xs e) part c)

none_or : (P : Type 0) → ⊥ ⊎ P → P
none_or P (inl none) = absurd none
none_or P (inr p) = p

-- each part of an entry stands before it
pub parts_stand_before : (xs : List Entry) (e part : Entry) → ComeBefore Nothing xs → Contains (each_once xs) e → Contains (parts_of e) part → Contains (before (each_once xs) e) part
parts_stand_before xs e part h is in' = none_or (Contains (before (each_once xs) e) part) (part_seen Nothing (each_once xs) e part (once_seen Nothing xs h) is in')

pub parts_stand : (xs : List Entry) (e part : Entry) → ComeBefore Nothing xs → Contains (each_once xs) e → Contains (parts_of e) part → Contains (each_once xs) part
parts_stand xs e part h is in' = from_take (prefix_len (λ other. not (same_entry other e)) (each_once xs)) (each_once xs) part (parts_stand_before xs e part h is in')

-- ---- indexes

module _ (index : Entry → ℕ) where
  abbrev constants : List Entry → List Constant
  constants xs = indexed (map (constant_of index) xs)

  -- an entry takes two indexes or one
  takes : (e : Entry) → ((takes_two (constant_of index e) ≡ true) × (width e ≡ 2)) ⊎ ((takes_two (constant_of index e) ≡ false) × (width e ≡ 1))
  takes (Utf8 text) = inr (refl, refl)
  takes (Integer n) = inr (refl, refl)
  takes (Long n) = inl (refl, refl)
  takes (Class name) = inr (refl, refl)
  takes (Text text) = inr (refl, refl)
  takes (NameAndType name desc) = inr (refl, refl)
  takes (Field class name desc) = inr (refl, refl)
  takes (Method class name desc) = inr (refl, refl)
  takes (InterfaceMethod class name desc) = inr (refl, refl)
  takes (Dynamic place name desc) = inr (refl, refl)

  first_constant : (x : Entry) (xs : List Entry) → slice_get (constants (x ∷ xs)) 0 ≡ Some (constant_of index x)
  first_constant x xs = elim (takes x) [
    | inl t ↦ ap (λ (l : List Constant). slice_get l 0) (indexed_wide (constant_of index x) (map (constant_of index) xs) t.0)
    | inr t ↦ ap (λ (l : List Constant). slice_get l 0) (indexed_narrow (constant_of index x) (map (constant_of index) xs) t.0)
  ]

  later_constant : (x : Entry) (xs : List Entry) (n : ℕ) → slice_get (constants (x ∷ xs)) (width x + n) ≡ slice_get (constants xs) n
  later_constant x xs n = elim (takes x) [
    | inl t ↦
        let w = t.1 in
        let two : width x + n ≡ suc (suc n) = omega (arith, w) in
        ap (λ (k : ℕ). slice_get (constants (x ∷ xs)) k) two
        ∙ ap (λ (l : List Constant). slice_get l (suc (suc n))) (indexed_wide (constant_of index x) (map (constant_of index) xs) t.0)
    | inr t ↦
        let w = t.1 in
        let one : width x + n ≡ suc n = omega (arith, w) in
        ap (λ (k : ℕ). slice_get (constants (x ∷ xs)) k) one
        ∙ ap (λ (l : List Constant). slice_get l (suc n)) (indexed_narrow (constant_of index x) (map (constant_of index) xs) t.0)
  ]

  constant_there : (xs : List Entry) (e : Entry) → Contains xs e → slice_get (constants xs) (widths (before xs e)) ≡ Some (constant_of index e)
  constant_there [] e h = absurd (none_in e h)
  constant_there (x ∷ xs) e h = elim (cases_Bool (same_entry x e)) [
    | inl so ↦
        ap (λ (l : List Entry). slice_get (constants (x ∷ xs)) (widths l)) (before_here x xs e so)
        ∙ (first_constant x xs ∙ ap (λ y. Some (constant_of index y)) (same_is x e so))
    | inr other ↦ elim (in_cases x xs e h) [
      | inl same ↦ absurd (differ x e other same)
      | inr more ↦
          ap (λ (l : List Entry). slice_get (constants (x ∷ xs)) (widths l)) (before_later x xs e other)
          ∙ (later_constant x xs (widths (before xs e)) ∙ constant_there xs e more)
    ]
  ]

  pub constant_count : (xs : List Entry) → length (constants xs) ≡ widths xs
  unfolding indexed
  constant_count [] = refl
  constant_count (x ∷ xs) = elim (takes x) [
    | inl t ↦
        let w = t.1 in
        let e = ap length (indexed_wide (constant_of index x) (map (constant_of index) xs) t.0) in
        omega (arith, w, e, constant_count xs)
    | inr t ↦
        let w = t.1 in
        let e = ap length (indexed_narrow (constant_of index x) (map (constant_of index) xs) t.0) in
        omega (arith, w, e, constant_count xs)
  ]

at_index : (pool : List Constant) (n : ℕ) → constant_at pool (1 + n) ≡ slice_get pool n
at_index pool n = let one : 1 + n ≡ suc n = omega arith in ap (λ (k : ℕ). constant_at pool k) one

pub index_is : (entries : List Entry) (e : Entry) → index_of entries e ≡ 1 + widths (before entries e)
unfolding index_of
index_is entries e = refl

-- at an entry's index stands its constant
pub constant_found : (entries : List Entry) (e : Entry) → Contains entries e → constant_at (pool_of entries) (index_of entries e) ≡ Some (constant_of (index_of entries) e)
constant_found entries e h =
    ap (λ (k : ℕ). constant_at (pool_of entries) k) (index_is entries e)
    ∙ (at_index (pool_of entries) (widths (before entries e)) ∙ constant_there (index_of entries) entries e h)

-- where each entry ends up to an index, all do
pub all_fit : (n most : ℕ) (xs : List Entry) → Differ xs → AllByRecursion (λ e. n + widths (before xs e) + width e ≤ most) xs → n ≤ most → n + widths xs ≤ most
all_fit n most [] d h le = omega (arith, le)
all_fit n most (x ∷ xs) d h le =
    let here : n + 0 + width x ≤ most = subst (λ (l : List Entry). n + widths l + width x ≤ most) (before_here x xs x (same_itself x)) h.0 in
    let rest = all_fit (n + width x) most xs d.1 (each_from (λ e. n + width x + widths (before xs e) + width e ≤ most) xs (λ e is. later e is)) (omega (arith, here)) in
    omega (arith, rest) where
      later : (e : Entry) → Contains xs e → n + width x + widths (before xs e) + width e ≤ most
      later e is =
          let other = apart x e (each_in (λ y. x ≢ y) xs e d.0 is) in
          let past : n + (width x + widths (before xs e)) + width e ≤ most =
          subst (λ (l : List Entry). n + widths l + width e ≤ most) (before_later x xs e other) (each_in (λ y. n + widths (before (x ∷ xs) y) + width y ≤ most) xs e h.1 is) in
          omega (arith, past)
