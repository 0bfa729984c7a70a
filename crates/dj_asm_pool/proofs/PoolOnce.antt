-- What a pool keeps of the entries that are needed is what each of them once is, as far as they have room.
use Rattle.std.proofs.Common.{◌≡◌, ℕ, suc, ◌+◌, ◌≤◌, ◌⊎◌, inl, inr, Bool, true, false, not, cond, ◌||◌, nat_lt, filter, List, [], ◌∷◌, ◌++◌, take, Contains, refl, sym, ap, ◌∙◌, subst, arith}
use Rattle.std.specs.List.{list_any, prefix_len}
use Rattle.std.proofs.lemmas.Bool.{cases_Bool, false≢true}
use Rattle.std.proofs.lemmas.List.Elements.{Contains-append_right}
use Rattle.dj_asm_pool.specs.Keys.{most_next}
use Rattle.dj_asm_pool.specs.trusted.Entries.{Entry, same_entry, each_once, width, widths, before, index_of}
use Rattle.dj_asm_pool.specs.Pooling.{EndsIn, all_kept, HasIndex, IsFull}
use Rattle.dj_asm_pool.proofs.Members.{none_in, in_here, in_rest, in_cases, each_in}
use Rattle.dj_asm_pool.proofs.EntryLaws.{same_is, same_itself, index_is, once_from, once_differ, Differ}
use Rattle.dj_asm_pool.proofs.PoolingLaws.{index_stays}
use Rattle.dj_asm_pool.proofs.PoolSteps.{any_in, any_out, kept_there, kept_new}
use Rattle.dj_asm_pool.proofs.PoolChains.{all_full}

-- ---- lists

filter_twice : {A : Type 0} (p q r : A → Bool) → ((y : A) → q y ≡ false → r y ≡ false) → ((y : A) → q y ≡ true → r y ≡ p y) → (xs : List A) → filter p (filter q xs) ≡ filter r xs
filter_twice p q r out same [] = refl
filter_twice p q r out same (x ∷ xs) = elim (cases_Bool (q x)) [
  | inl so ↦
      ap (λ b. filter p (cond b (x ∷ filter q xs) (filter q xs))) so
      ∙ (ap (λ l. cond (p x) (x ∷ l) l) (filter_twice p q r out same xs) ∙ ap (λ b. cond b (x ∷ filter r xs) (filter r xs)) (sym (same x so)))
  | inr other ↦
      ap (λ b. filter p (cond b (x ∷ filter q xs) (filter q xs))) other
      ∙ (filter_twice p q r out same xs ∙ ap (λ b. cond b (x ∷ filter r xs) (filter r xs)) (sym (out x other)))
]

filter_all : {A : Type 0} (xs : List A) → filter (λ x. true) xs ≡ xs
filter_all [] = refl
filter_all (x ∷ xs) = ap (λ l. x ∷ l) (filter_all xs)

join_one : {A : Type 0} (xs ys : List A) (x : A) → (xs ++ x ∷ []) ++ ys ≡ xs ++ x ∷ ys
join_one [] ys x = refl
join_one (y ∷ xs) ys x = ap (λ l. y ∷ l) (join_one xs ys x)

no_more : {A : Type 0} (xs : List A) → xs ++ [] ≡ xs
no_more [] = refl
no_more (x ∷ xs) = ap (λ l. x ∷ l) (no_more xs)

-- ---- what is left out

abbrev is_new : List Entry → Entry → Bool
is_new es e = not (list_any (same_entry e) es)

abbrev other_than : Entry → Entry → Bool
other_than entry other = not (same_entry other entry)

-- the entries that aren't there yet, each once
abbrev more : List Entry → List Entry → List Entry
more es xs = filter (is_new es) (each_once xs)

-- all of them are those that are kept and others, which are none unless the pool is full
record Keeps (es xs : List Entry) : Type 0 where
  rest : List Entry
  parts : es ++ more es xs ≡ all_kept es xs ++ rest
  none : (rest ≡ []) ⊎ IsFull (all_kept es xs)

is_new_with : (es : List Entry) (x y : Entry) → list_any (same_entry y) (es ++ x ∷ []) ≡ (list_any (same_entry y) es || same_entry y x)
is_new_with [] x y = or_false (same_entry y x) where
  or_false : (b : Bool) → (b || false) ≡ b
  or_false true = refl
  or_false false = refl
is_new_with (e ∷ es) x y = ap (λ b. same_entry y e || b) (is_new_with es x y) ∙ or_or (same_entry y e) (list_any (same_entry y) es) (same_entry y x) where
  or_or : (a b c : Bool) → (a || (b || c)) ≡ ((a || b) || c)
  or_or true b c = refl
  or_or false b c = refl

more_there : (es xs : List Entry) (x : Entry) → Contains es x → more es (x ∷ xs) ≡ more es xs
unfolding each_once
more_there es xs x h =
    ap (λ b. cond (not b) (x ∷ filter (is_new es) (filter (other_than x) (each_once xs))) (filter (is_new es) (filter (other_than x) (each_once xs)))) (any_in es x h)
    ∙ filter_twice (is_new es) (other_than x) (is_new es) (λ y so. gone y so) (λ y so. refl) (each_once xs) where
      gone : (y : Entry) → other_than x y ≡ false → is_new es y ≡ false
      gone y so = elim (cases_Bool (same_entry y x)) [
        | inl same ↦ ap not (any_in es y (subst (λ z. Contains es z) (sym (same_is y x same)) h))
        | inr unlike ↦ absurd (false≢true (sym so ∙ ap not unlike))
      ]

more_new : (es xs : List Entry) (x : Entry) → (Contains es x → ⊥) → more es (x ∷ xs) ≡ x ∷ more (es ++ x ∷ []) xs
unfolding each_once
more_new es xs x h =
    ap (λ b. cond (not b) (x ∷ filter (is_new es) (filter (other_than x) (each_once xs))) (filter (is_new es) (filter (other_than x) (each_once xs)))) (any_out es x h)
    ∙ ap (λ l. x ∷ l) (filter_twice (is_new es) (other_than x) (is_new (es ++ x ∷ [])) (λ y so. out y so) (λ y so. same y so) (each_once xs)) where
      or_true : (b : Bool) → (b || true) ≡ true
      or_true true = refl
      or_true false = refl

      or_false : (b : Bool) → (b || false) ≡ b
      or_false true = refl
      or_false false = refl

      out : (y : Entry) → other_than x y ≡ false → is_new (es ++ x ∷ []) y ≡ false
      out y so = elim (cases_Bool (same_entry y x)) [
        | inl so' ↦ ap not (is_new_with es x y ∙ (ap (λ b. list_any (same_entry y) es || b) so' ∙ or_true (list_any (same_entry y) es)))
        | inr unlike ↦ absurd (false≢true (sym so ∙ ap not unlike))
      ]

      same : (y : Entry) → other_than x y ≡ true → is_new (es ++ x ∷ []) y ≡ is_new es y
      same y so = elim (cases_Bool (same_entry y x)) [
        | inl so' ↦ absurd (false≢true (sym (ap not so') ∙ so))
        | inr unlike ↦ ap not (is_new_with es x y ∙ (ap (λ b. list_any (same_entry y) es || b) unlike ∙ or_false (list_any (same_entry y) es)))
      ]

-- whether an entry is there
pub there_or_not : (es : List Entry) (e : Entry) → Contains es e ⊎ (Contains es e → ⊥)
there_or_not [] e = inr (λ h. none_in e h)
there_or_not (x ∷ es) e = elim (cases_Bool (same_entry x e)) [
  | inl so ↦ inl (subst (λ y. Contains (x ∷ es) y) (same_is x e so) (in_here x es))
  | inr unlike ↦ elim (there_or_not es e) [
    | inl h ↦ inl (in_rest x es e h)
    | inr absent ↦ inr (λ h. neither h absent unlike)
  ]
] where
  neither : Contains (x ∷ es) e → (Contains es e → ⊥) → same_entry x e ≡ false → ⊥
  neither h absent unlike = elim (in_cases x es e h) [
    | inl same ↦ false≢true (sym unlike ∙ subst (λ y. same_entry x y ≡ true) same (same_itself x))
    | inr more ↦ absent more
  ]

full_or_not : (es : List Entry) → IsFull es ⊎ (1 + widths es ≤ most_next)
full_or_not es = elim (cases_Bool (nat_lt most_next (1 + widths es))) [
  | inl so ↦ inl (grind (arith, so))
  | inr not_so ↦ inr (grind (arith, not_so))
]

keeps_full : (es xs : List Entry) → IsFull es → Keeps es xs
keeps_full es xs full =
    let same = all_full es xs full in
    record { rest = more es xs; parts = ap (λ l. l ++ more es xs) (sym same); none = inr (subst IsFull (sym same) full) }

keeps : (es xs : List Entry) → Keeps es xs
unfolding each_once
keeps es [] = record { rest = []; parts = refl; none = inl refl }
keeps es (x ∷ xs) = elim (full_or_not es) [
  | inl full ↦ keeps_full es (x ∷ xs) full
  | inr room ↦ elim (there_or_not es x) [
    | inl h ↦
        let k = keeps es xs in
        let same = kept_there es x h in
        record {
          rest = k.rest;
          parts = ap (λ l. es ++ l) (more_there es xs x h) ∙ (k.parts ∙ ap (λ l. all_kept l xs ++ k.rest) (sym same));
          none = subst (λ l. (k.rest ≡ []) ⊎ IsFull (all_kept l xs)) (sym same) k.none;
        }
    | inr absent ↦
        let k = keeps (es ++ x ∷ []) xs in
        let same = kept_new es x absent room in
        record {
          rest = k.rest;
          parts = ap (λ l. es ++ l) (more_new es xs x absent) ∙ (sym (join_one es (more (es ++ x ∷ []) xs) x) ∙ (k.parts ∙ ap (λ l. all_kept l xs ++ k.rest) (sym same)));
          none = subst (λ l. (k.rest ≡ []) ⊎ IsFull (all_kept l xs)) (sym same) k.none;
        }
  ]
]

-- ---- a pool from nothing

-- each entry once is what is kept, and others past the most
pub record IsOnce (xs : List Entry) : Type 0 where
  pub rest : List Entry
  pub parts : each_once xs ≡ all_kept [] xs ++ rest
  pub none : (rest ≡ []) ⊎ IsFull (all_kept [] xs)

pub once : (xs : List Entry) → IsOnce xs
once xs =
    let k = keeps [] xs in
    record { rest = k.rest; parts = sym (filter_all (each_once xs)) ∙ k.parts; none = k.none }

-- the indexes of what is kept are those of the whole
pub index_in_once : (xs : List Entry) (e : Entry) → Contains (all_kept [] xs) e → index_of (each_once xs) e ≡ index_of (all_kept [] xs) e
index_in_once xs e h = let o = once xs in ap (λ l. index_of l e) o.parts ∙ index_stays (all_kept [] xs) o.rest e h

pub has_index_in_once : (xs : List Entry) (e : Entry) → HasIndex (all_kept [] xs) e → EndsIn (each_once xs) e
has_index_in_once xs e h = subst (λ (n : ℕ). n + width e ≤ most_next) (sym (index_in_once xs e h.0)) h.1

-- what stands behind a prefix that lacks it has an index past those of the prefix
before_more : (es rest : List Entry) (e : Entry) → (Contains es e → ⊥) → widths es ≤ widths (before (es ++ rest) e)
before_more [] rest e absent = omega arith
before_more (x ∷ es) rest e absent = elim (cases_Bool (same_entry x e)) [
  | inl so ↦ absurd (absent (subst (λ y. Contains (x ∷ es) y) (same_is x e so) (in_here x es)))
  | inr unlike ↦
      let n = prefix_len (λ other. not (same_entry other e)) (es ++ rest) in
      let one : 1 + n ≡ suc n = omega arith in
      let is : before (x ∷ (es ++ rest)) e ≡ x ∷ before (es ++ rest) e =
      ap (λ b. take (cond (not b) (1 + n) 0) (x ∷ (es ++ rest))) unlike ∙ ap (λ (k : ℕ). take k (x ∷ (es ++ rest))) one in
      let w = ap widths is in
      let le = before_more es rest e (λ h. absent (in_rest x es e h)) in
      omega (arith, w, le)
]

width_some : (e : Entry) → 1 ≤ width e
width_some e = grind arith

-- what ends past the most in a full pool does so in the whole
pub past_in_once : (xs : List Entry) (e : Entry) → IsFull (all_kept [] xs) → (EndsIn (all_kept [] xs) e → ⊥) → EndsIn (each_once xs) e → ⊥
past_in_once xs e full past ends = elim (there_or_not (all_kept [] xs) e) [
  | inl h ↦ past (subst (λ (n : ℕ). n + width e ≤ most_next) (index_in_once xs e h) ends)
  | inr absent ↦
      let o = once xs in
      let le = before_more (all_kept [] xs) o.rest e absent in
      let i = ap (λ l. index_of l e) o.parts ∙ index_is (all_kept [] xs ++ o.rest) e in
      absurd (omega (arith, le, i, ends, full))
]

differ_seam : (prefix rest : List Entry) (e : Entry) → Differ (prefix ++ e ∷ rest) → Contains prefix e → ⊥
differ_seam [] rest e d h = none_in e h
differ_seam (x ∷ prefix) rest e d h = elim (in_cases x prefix e h) [
  | inl same ↦ each_in (λ y. x ≡ y → ⊥) (prefix ++ e ∷ rest) e d.0 (Contains-append_right prefix (e ∷ rest) e (in_here e rest)) same
  | inr more ↦ differ_seam prefix rest e d.1 more
]

-- where all have an index the pool is the whole
pub whole : (xs : List Entry) → ((e : Entry) → Contains xs e → HasIndex (all_kept [] xs) e) → all_kept [] xs ≡ each_once xs
whole xs all = by (once xs).rest (once xs).parts where
  by : (rest : List Entry) → each_once xs ≡ all_kept [] xs ++ rest → all_kept [] xs ≡ each_once xs
  by [] parts = sym (parts ∙ no_more (all_kept [] xs))
  by (e ∷ rest) parts =
      let here : Contains (each_once xs) e = subst (λ l. Contains l e) (sym parts) (Contains-append_right (all_kept [] xs) (e ∷ rest) e (in_here e rest)) in
      absurd (differ_seam (all_kept [] xs) rest e (subst Differ parts (once_differ xs)) (all e (once_from xs e here)).0)
