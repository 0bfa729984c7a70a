-- What the constants of a rewritten class name.
use Rattle.std.proofs.Common.{◌≡◌, ℕ, zero, suc, ◌+◌, Bool, true, false, not, ◌&&◌, ◌||◌, List, [], ◌∷◌, ◌++◌, map, filter, length, Option, Some, None, slice_get, option_and_then, refl, sym, ap, subst, ◌∙◌, arith, ◌⊎◌, inl, inr, if◌then◌else◌, nat_eq, unwrap_or}
use Rattle.std.specs.Option.{option_map}
use Rattle.std.specs.List.{list_any}
use Rattle.std.specs.Cmp.Lexicographic.{bytes_decides}
use Rattle.std.proofs.lemmas.Bool.{eqb-true, eq-eqb}
use Rattle.std.proofs.lemmas.Option.{slice_get-map}
use Rattle.std.proofs.lemmas.List.Folds.{list_any-append}
use Rattle.dj_names.specs.trusted.Types.{Name, same_name}
use Rattle.dj_pool.specs.trusted.Pool.{Constant, Utf8, Integer, Float, Long, Double, Class, Text, Field, Method, InterfaceMethod, NameAndType, Handle, MethodType, Dynamic, Hole, constant_at, text_of, text_at, class_text_of, class_name_at, names_of, name_and_type_at, both}
use Rattle.dj_declarations.specs.trusted.Files.{name_in}
use Rattle.dj_rename.specs.Names.{renamed_class, renamed_desc}
use Rattle.dj_rename.specs.Pools.{Need, class_need, desc_need, need_of, needs_from, needs, option_list, is_changed, first_places, need_text, appended_texts, place_of, new_index, renamed_constant, renamed_pool, accounter_constants, first_index, rewritten_pool}

either : (b : Bool) → (b ≡ true) ⊎ (b ≡ false)
either true = inl refl
either false = inr refl

pub same_is : (a b : Name) → same_name a b ≡ true → a ≡ b
same_is a b e = (bytes_decides a b).0 e

is_same : (a : Name) → same_name a a ≡ true
is_same a = (bytes_decides a a).1 refl

unlike : false ≡ true → ⊥
unlike e = absurd cc

-- ---- texts at their first places

abbrev has : List Name → Name → Bool
has texts text = list_any (same_name text) texts

or_true : (a b : Bool) → b ≡ true → (a || b) ≡ true
or_true true b e = refl
or_true false b e = e

or_left : (a b : Bool) → a ≡ true → (a || b) ≡ true
or_left a b e = ap (λ (c : Bool). c || b) e

merge : (a b : Bool) → ((a || (false || false)) || b) ≡ true → (a || (false || b)) ≡ true
merge true b e = refl
merge false b e = e

step_placed : (before : List Name) (x : Name) (texts : List Name) (text : Name) (known same : Bool) → has before x ≡ known → same_name text x ≡ same
    → (same ≡ false → (has before text || has (first_places before texts) text) ≡ true)
    → (same ≡ false → (has (before ++ x ∷ []) text || has (first_places (before ++ x ∷ []) texts) text) ≡ true)
    → (has before text || has (if known then first_places before texts else x ∷ first_places (before ++ x ∷ []) texts) text) ≡ true
step_placed before x texts text true true k s one two = or_left (has before text) _ (ap (has before) (same_is text x s) ∙ k)
step_placed before x texts text true false k s one two = one refl
step_placed before x texts text false true k s one two =
    or_true (has before text) _ (ap (λ (b : Bool). b || has (first_places (before ++ x ∷ []) texts) text) s)
step_placed before x texts text false false k s one two =
    ap (λ (b : Bool). has before text || (b || has (first_places (before ++ x ∷ []) texts) text)) s
    ∙ merge (has before text) (has (first_places (before ++ x ∷ []) texts) text)
    (ap (λ (b : Bool). b || has (first_places (before ++ x ∷ []) texts) text)
    (sym (list_any-append (same_name text) before (x ∷ []) ∙ ap (λ (b : Bool). has before text || (b || false)) s))
    ∙ two refl)

skips : (b : Bool) (text : Name) (texts : List Name) → (b || has texts text) ≡ true → b ≡ false → has texts text ≡ true
skips b text texts h e = sym (ap (λ (c : Bool). c || has texts text) e) ∙ h

pub all_placed : (before texts : List Name) (text : Name) → has texts text ≡ true → (has before text || has (first_places before texts) text) ≡ true
unfolding first_places
all_placed before [] text h = absurd cc
all_placed before (x ∷ texts) text h =
    step_placed before x texts text (has before x) (same_name text x) refl refl
    (λ e. all_placed before texts text (skips (same_name text x) text texts h e))
    (λ e. all_placed (before ++ x ∷ []) texts text (skips (same_name text x) text texts h e))

step_at : (x : Name) (texts : List Name) (text : Name) (same other : Bool) → same_name x text ≡ same → same_name text x ≡ other
    → (other ≡ false → slice_get texts (place_of texts text) ≡ Some text) → slice_get (x ∷ texts) (if same then 0 else suc (place_of texts text)) ≡ Some text
step_at x texts text true other s o later = ap (λ (y : Name). Some y) (same_is x text s)
step_at x texts text false true s o later = absurd (unlike (sym s ∙ ap (λ (y : Name). same_name x y) (same_is text x o) ∙ is_same x))
step_at x texts text false false s o later = later refl

pub placed_at : (texts : List Name) (text : Name) → has texts text ≡ true → slice_get texts (place_of texts text) ≡ Some text
placed_at [] text h = absurd cc
placed_at (x ∷ texts) text h =
    step_at x texts text (same_name x text) (same_name text x) refl refl (λ e. placed_at texts text (skips (same_name text x) text texts h e))

-- ---- constants at their indexes

pub slice_get_left : {A : Type 0} (xs ys : List A) (n : ℕ) (x : A) → slice_get xs n ≡ Some x → slice_get (xs ++ ys) n ≡ Some x
slice_get_left [] ys n x h = absurd cc
slice_get_left (y ∷ xs) ys zero x h = h
slice_get_left (y ∷ xs) ys (suc n) x h = slice_get_left xs ys n x h

pub slice_get_right : {A : Type 0} (xs ys : List A) (n m : ℕ) → m ≡ length xs + n → slice_get (xs ++ ys) m ≡ slice_get ys n
slice_get_right [] ys n m e = ap (slice_get ys) (omega (arith, e))
slice_get_right (x ∷ xs) ys n zero e = absurd (omega (arith, e))
slice_get_right (x ∷ xs) ys n (suc m) e = slice_get_right xs ys n m (omega (arith, e))

pub length_map : {A B : Type 0} (f : A → B) (xs : List A) → length (map f xs) ≡ length xs
length_map f [] = refl
length_map f (x ∷ xs) = ap suc (length_map f xs)

-- a need of the same text
abbrev pub is_need : Need → Need → Bool
is_need a b = nat_eq a.index b.index && same_name a.text b.text

not_false : (b : Bool) → not b ≡ false → b ≡ true
not_false true e = refl
not_false false e = absurd cc

abbrev changed_texts : List Constant → List ℕ → List Name
changed_texts pool descs = map need_text (filter (is_changed pool) (needs pool descs))

both_true : (a b : Bool) → (a && b) ≡ true → (a ≡ true) × (b ≡ true)
both_true true true e = (refl, refl)
both_true true false e = absurd cc
both_true false b e = absurd cc

same_change : (pool : List Constant) (a b : Need) → is_need a b ≡ true → is_changed pool a ≡ is_changed pool b
same_change pool a b e =
    let both = both_true (nat_eq a.index b.index) (same_name a.text b.text) e in
    ap (λ (i : ℕ). not (same_name a.text (name_in pool i))) (eqb-true a.index b.index both.0)
    ∙ ap (λ (t : Name). not (same_name t (name_in pool b.index))) (same_is a.text b.text both.1)

step_among : (pool : List Constant) (need x : Need) (list : List Need) (b c : Bool) → is_need need x ≡ b → is_changed pool x ≡ c → is_changed pool need ≡ true
    → (b ≡ false → has (map need_text (filter (is_changed pool) list)) need.text ≡ true)
    → has (map need_text (if c then x ∷ filter (is_changed pool) list else filter (is_changed pool) list)) need.text ≡ true
step_among pool need x list true true n c e later =
    or_left (same_name need.text x.text) _ (both_true (nat_eq need.index x.index) (same_name need.text x.text) n).1
step_among pool need x list true false n c e later = absurd (unlike (sym c ∙ sym (same_change pool need x n) ∙ e))
step_among pool need x list false true n c e later = or_true (same_name need.text x.text) _ (later refl)
step_among pool need x list false false n c e later = later refl

is_among : (pool : List Constant) (need : Need) (list : List Need) → list_any (is_need need) list ≡ true → is_changed pool need ≡ true
    → has (map need_text (filter (is_changed pool) list)) need.text ≡ true
is_among pool need [] h e = absurd cc
is_among pool need (x ∷ list) h e =
    step_among pool need x list (is_need need x) (is_changed pool x) refl refl e
    (λ no. is_among pool need list (sym (ap (λ (b : Bool). b || list_any (is_need need) list) no) ∙ h) e)

found : (pool : List Constant) (need : Need) (k : Constant) → ((of : ℕ) → list_any (is_need need) (option_list (need_of pool of k)) ≡ true)
    → (ks : List Constant) (of n : ℕ) → slice_get ks n ≡ Some k → list_any (is_need need) (needs_from pool of ks) ≡ true
found pool need k own [] of n h = absurd cc
found pool need k own (x ∷ ks) of zero h =
    let e : x ≡ k = cc in
    list_any-append (is_need need) (option_list (need_of pool of x)) (needs_from pool (suc of) ks)
    ∙ or_left _ _ (ap (λ (y : Constant). list_any (is_need need) (option_list (need_of pool of y))) e ∙ own of)
found pool need k own (x ∷ ks) of (suc n) h =
    list_any-append (is_need need) (option_list (need_of pool of x)) (needs_from pool (suc of) ks)
    ∙ or_true _ _ (found pool need k own ks (suc of) n h)

needs_itself : (index : ℕ) (text : Name) → ((nat_eq index index && same_name text text) || false) ≡ true
needs_itself index text = rw (eq-eqb index index refl, is_same text) refl

module _ (pool : List Constant) (descs : List ℕ) where
  abbrev texts : List Name
  texts = appended_texts pool descs

  abbrev new : List Constant
  new = rewritten_pool pool descs

  -- an original constant keeps its index
  pub constant_kept : (i : ℕ) (k : Constant) → constant_at pool i ≡ Some k → constant_at new i ≡ Some (renamed_constant pool texts k)
  unfolding rewritten_pool renamed_pool
  constant_kept zero k h = absurd cc
  constant_kept (suc i) k h =
      slice_get_left (renamed_pool pool texts) (accounter_constants (first_index pool texts)) i (renamed_constant pool texts k)
      (slice_get_left (map (renamed_constant pool texts) pool) (map Utf8 texts) i (renamed_constant pool texts k)
      (slice_get-map (renamed_constant pool texts) pool i ∙ ap (option_map (renamed_constant pool texts)) h))

  -- an appended text has its index
  pub text_appended : (place : ℕ) (text : Name) → slice_get texts place ≡ Some text → text_at new (length pool + 1 + place) ≡ Some text
  unfolding rewritten_pool renamed_pool
  text_appended place text h =
      ap (λ (i : ℕ). option_and_then text_of (constant_at new i)) (one_more (length pool) place)
      ∙ ap (option_and_then text_of)
      (slice_get_left (renamed_pool pool texts) (accounter_constants (first_index pool texts)) (length pool + place) (Utf8 text)
      (slice_get_right (map (renamed_constant pool texts) pool) (map Utf8 texts) place (length pool + place)
      (omega (arith, length_map (renamed_constant pool texts) pool))
      ∙ slice_get-map Utf8 texts place ∙ ap (option_map Utf8) h)) where
        one_more : (a b : ℕ) → a + 1 + b ≡ suc (a + b)
        one_more a b = omega arith

  -- so has an original one
  pub text_kept : (i : ℕ) (text : Name) → text_at pool i ≡ Some text → text_at new i ≡ Some text
  text_kept i text h = go (constant_at pool i) refl h where
    go : (o : Option Constant) → constant_at pool i ≡ o → option_and_then text_of o ≡ Some text → text_at new i ≡ Some text
    go None e t = absurd cc
    go (Some (Utf8 x)) e t = ap (option_and_then text_of) (constant_kept i (Utf8 x) e) ∙ t
    go (Some (Integer n)) e t = absurd cc
    go (Some (Float n)) e t = absurd cc
    go (Some (Long n)) e t = absurd cc
    go (Some (Double n)) e t = absurd cc
    go (Some (Class n)) e t = absurd cc
    go (Some (Text n)) e t = absurd cc
    go (Some (Field c n)) e t = absurd cc
    go (Some (Method c n)) e t = absurd cc
    go (Some (InterfaceMethod c n)) e t = absurd cc
    go (Some (NameAndType n d)) e t = absurd cc
    go (Some (Handle n m)) e t = absurd cc
    go (Some (MethodType n)) e t = absurd cc
    go (Some (Dynamic b n)) e t = absurd cc
    go (Some Hole) e t = absurd cc

  -- ---- what is needed is there

  -- the text of a need that is among those of the pool
  pub need_met : (need : Need) (old : Name) → list_any (is_need need) (needs pool descs) ≡ true → text_at pool need.index ≡ Some old
      → text_at new (new_index pool texts need) ≡ Some need.text
  unfolding appended_texts
  need_met need old among there = go (is_changed pool need) refl where
    name_is : name_in pool need.index ≡ old
    name_is = ap (λ (o : Option (List ℕ)). unwrap_or o []) there

    go : (b : Bool) → is_changed pool need ≡ b → text_at new (if b then length pool + 1 + place_of texts need.text else need.index) ≡ Some need.text
    go true e = text_appended (place_of texts need.text) need.text (placed_at texts need.text (all_placed [] (changed_texts pool descs) need.text (is_among pool need (needs pool descs) among e)))
    go false e = text_kept need.index old there ∙ ap (λ (x : Name). Some x) (sym (same_is need.text (name_in pool need.index) (not_false (same_name need.text (name_in pool need.index)) e) ∙ name_is))

  -- ---- what the constants name

  -- the needs of a constant are among those of the pool
  pub class_is_needed : (i name : ℕ) → constant_at pool i ≡ Some (Class name) → list_any (is_need (class_need pool 0 name)) (needs pool descs) ≡ true
  unfolding needs
  class_is_needed zero name h = absurd cc
  class_is_needed (suc i) name h =
      list_any-append (is_need (class_need pool 0 name)) (needs_from pool 1 pool) (map (λ desc. desc_need pool desc desc) descs)
      ∙ or_left _ _ (found pool (class_need pool 0 name) (Class name) (λ of. needs_itself name (renamed_class (name_in pool name))) pool 1 i h)

  pub desc_is_needed : (i name desc : ℕ) → constant_at pool i ≡ Some (NameAndType name desc) → list_any (is_need (desc_need pool 0 desc)) (needs pool descs) ≡ true
  unfolding needs
  desc_is_needed zero name desc h = absurd cc
  desc_is_needed (suc i) name desc h =
      list_any-append (is_need (desc_need pool 0 desc)) (needs_from pool 1 pool) (map (λ desc. desc_need pool desc desc) descs)
      ∙ or_left _ _ (found pool (desc_need pool 0 desc) (NameAndType name desc) (λ of. needs_itself desc (renamed_desc (name_in pool desc))) pool 1 i h)

  pub type_is_needed : (i desc : ℕ) → constant_at pool i ≡ Some (MethodType desc) → list_any (is_need (desc_need pool 0 desc)) (needs pool descs) ≡ true
  unfolding needs
  type_is_needed zero desc h = absurd cc
  type_is_needed (suc i) desc h =
      list_any-append (is_need (desc_need pool 0 desc)) (needs_from pool 1 pool) (map (λ desc. desc_need pool desc desc) descs)
      ∙ or_left _ _ (found pool (desc_need pool 0 desc) (MethodType desc) (λ of. needs_itself desc (renamed_desc (name_in pool desc))) pool 1 i h)

  pub in_name : (i : ℕ) (text : Name) → text_at pool i ≡ Some text → name_in pool i ≡ text
  in_name i text h = ap (λ (o : Option (List ℕ)). unwrap_or o []) h

  pub class_named : (i name : ℕ) (text : Name) → constant_at pool i ≡ Some (Class name) → text_at pool name ≡ Some text → class_name_at new i ≡ Some (renamed_class text)
  class_named i name text h t =
      ap (λ (o : Option Constant). option_and_then (text_at new) (option_and_then class_text_of o)) (constant_kept i (Class name) h)
      ∙ need_met (class_need pool 0 name) text (class_is_needed i name h) t
      ∙ ap (λ (x : Name). Some (renamed_class x)) (in_name name text t)

  pub names_named : (i name desc : ℕ) (n d : Name) → constant_at pool i ≡ Some (NameAndType name desc) → text_at pool name ≡ Some n → text_at pool desc ≡ Some d
      → name_and_type_at new i ≡ Some (n, renamed_desc d)
  names_named i name desc n d h s t =
      ap (λ (o : Option Constant). option_and_then (λ (x : ℕ × ℕ). both (text_at new x.0) (text_at new x.1)) (option_and_then names_of o)) (constant_kept i (NameAndType name desc) h)
      ∙ ap (λ (o : Option (List ℕ)). both o (text_at new (new_index pool texts (desc_need pool 0 desc)))) (text_kept name n s)
      ∙ ap (λ (o : Option (List ℕ)). both (Some n) o) (need_met (desc_need pool 0 desc) d (desc_is_needed i name desc h) t
      ∙ ap (λ (x : Name). Some (renamed_desc x)) (in_name desc d t))

  -- the text of each need that is among them is appended
  pub is_settled : (need : Need) → list_any (is_need need) (needs pool descs) ≡ true → is_changed pool need ≡ true → list_any (same_name need.text) (appended_texts pool descs) ≡ true
  unfolding appended_texts
  is_settled need among e = all_placed [] (changed_texts pool descs) need.text (is_among pool need (needs pool descs) among e)

  desc_itself : (d : ℕ) → is_need (desc_need pool d d) (desc_need pool d d) ≡ true
  desc_itself d = rw (eq-eqb d d refl, is_same (renamed_desc (name_in pool d))) refl

  desc_step : (list : List ℕ) (desc x : ℕ) (b : Bool) → nat_eq desc x ≡ b → (b ≡ false → list_any (is_need (desc_need pool desc desc)) (map (λ desc. desc_need pool desc desc) list) ≡ true)
      → list_any (is_need (desc_need pool desc desc)) (map (λ desc. desc_need pool desc desc) (x ∷ list)) ≡ true
  desc_step list desc x true e later =
      let same : desc ≡ x = eqb-true desc x e in
      or_left _ _ (subst (λ (y : ℕ). is_need (desc_need pool desc desc) (desc_need pool y y) ≡ true) same (desc_itself desc))
  desc_step list desc x false e later = or_true _ _ (later refl)

  desc_among : (list : List ℕ) (desc : ℕ) → list_any (nat_eq desc) list ≡ true → list_any (is_need (desc_need pool desc desc)) (map (λ desc. desc_need pool desc desc) list) ≡ true
  desc_among [] desc h = absurd cc
  desc_among (x ∷ list) desc h = desc_step list desc x (nat_eq desc x) refl (λ e. desc_among list desc (sym (ap (λ (b : Bool). b || list_any (nat_eq desc) list) e) ∙ h))

  pub member_is_needed : (desc : ℕ) → list_any (nat_eq desc) descs ≡ true → list_any (is_need (desc_need pool desc desc)) (needs pool descs) ≡ true
  unfolding needs
  member_is_needed desc h =
      list_any-append (is_need (desc_need pool desc desc)) (needs_from pool 1 pool) (map (λ desc. desc_need pool desc desc) descs)
      ∙ or_true _ _ (desc_among descs desc h)
