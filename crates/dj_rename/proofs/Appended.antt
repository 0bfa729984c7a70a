-- The appended texts are valid, and fit.
use Rattle.std.proofs.Common.{◌≡◌, ℕ, zero, suc, ◌+◌, ◌≤◌, ◌<◌, Bool, true, false, List, [], ◌∷◌, ◌++◌, map, length, get_or, Option, Some, None, slice_get, refl, sym, ap, subst, ◌∙◌, arith, if◌then◌else◌, unwrap_or, length-append}
use Rattle.std.specs.Prelude.{IsSomeAnd, nat_lt}
use Rattle.std.specs.List.{AllByRecursion}
use Rattle.std.proofs.lemmas.Bool.{ltb-false}
use Rattle.dj_names.specs.trusted.Types.{Name}
use Rattle.dj_names.specs.trusted.ModifiedUtf8.{IsModifiedUtf8}
use Rattle.dj_pool.specs.trusted.Pool.{Constant, Utf8, constant_at, text_at, IsWhole, IsPool}
use Rattle.dj_pool.specs.Answers.{last_index}
use Rattle.dj_rename.specs.declared.error.RenameError.{RenameError}
use Rattle.dj_rename.specs.declared.error.RenameError.TheVariants as errors
use Rattle.dj_rename.specs.declared.wanted.Role.{Role}
use Rattle.dj_rename.specs.declared.wanted.Role.TheVariants as roles
use Rattle.dj_rename.specs.declared.wanted.Wanted.{Wanted}
use Rattle.dj_rename.specs.Pools.{Need, is_changed, first_places, need_of, needs_from, needs, option_list, desc_need, appended_texts}
use Rattle.dj_rename.specs.Refusals.{most_bytes, refusal_at, first_error, refusal_from, refusal, AreAppended, IsDescIndex}
use Rattle.dj_rename.specs.Renaming.{has_text, changed_texts, IsRoleText, respelled, wanted_by, wanted_need, IsWanted}
use Rattle.dj_rename.proofs.Utf8.{renamed_class_stays, renamed_desc_stays}
use Rattle.dj_rename.proofs.PoolTexts.{utf8_at, wanted_there, need_is, no_need}
use Rattle.dj_rename.proofs.Walking.{at_need, with_need, with_text}

-- ---- each text of a need is modified UTF-8

abbrev IsGood : Need → Type 0
IsGood need = IsModifiedUtf8 need.text

role_stays : (role : Role) (text : Name) → IsRoleText role text → IsModifiedUtf8 text → IsModifiedUtf8 (respelled role text)
role_stays roles.Class text is h = renamed_class_stays text is h
role_stays roles.Desc text is h = renamed_desc_stays text is h

good_wanted : (pool : List Constant) → IsPool pool → (w : Wanted) → IsWanted pool w → IsGood (wanted_need pool w)
good_wanted pool valid w there = go (text_at pool w.index) refl there where
  go : (o : Option Name) → text_at pool w.index ≡ o → IsSomeAnd o (IsRoleText w.role) → IsGood (wanted_need pool w)
  go None e h = absurd h
  go (Some text) e h =
      subst (λ (t : Name). IsModifiedUtf8 (respelled w.role t)) (sym (ap (λ (o : Option Name). unwrap_or o []) e))
      (role_stays w.role text h (utf8_at pool valid w.index text e))

all_append : (xs ys : List Need) → AllByRecursion IsGood xs → AllByRecursion IsGood ys → AllByRecursion IsGood (xs ++ ys)
all_append [] ys p q = q
all_append (x ∷ xs) ys p q = (p.0, all_append xs ys p.1 q)

good_constant : (pool : List Constant) → IsPool pool → (of at : ℕ) (k : Constant) → constant_at pool at ≡ Some k → AllByRecursion IsGood (option_list (need_of pool of k))
good_constant pool valid of at k h = go (wanted_by of k) refl where
  go : (o : Option Wanted) → wanted_by of k ≡ o → AllByRecursion IsGood (option_list (need_of pool of k))
  go None e = subst (AllByRecursion IsGood) (sym (no_need pool of k (sym e))) tt
  go (Some w) e = subst (AllByRecursion IsGood) (sym (need_is pool of k w (sym e))) (good_wanted pool valid w (wanted_there pool of at k w valid h (sym e)), tt)

good_from : (pool : List Constant) → IsPool pool → (ks : List Constant) (of from : ℕ) → ((i : ℕ) (k : Constant) → slice_get ks i ≡ Some k → constant_at pool (from + i) ≡ Some k)
    → AllByRecursion IsGood (needs_from pool of ks)
good_from pool valid [] of from at = tt
good_from pool valid (k ∷ ks) of from at =
    all_append (option_list (need_of pool of k)) (needs_from pool (suc of) ks)
    (good_constant pool valid of (from + 0) k (at 0 k refl))
    (good_from pool valid ks (suc of) (suc from) (λ i x h. subst (λ (n : ℕ). constant_at pool n ≡ Some x) (one_later from i) (at (suc i) x h))) where
      one_later : (a b : ℕ) → a + suc b ≡ suc a + b
      one_later a b = omega arith

good_descs : (pool : List Constant) → IsPool pool → (descs : List ℕ) → AllByRecursion (IsDescIndex pool) descs → AllByRecursion IsGood (map (λ (desc : ℕ). desc_need pool desc desc) descs)
good_descs pool valid [] all = tt
good_descs pool valid (desc ∷ descs) all = (good_wanted pool valid (record { of = desc; index = desc; role = roles.Desc }) all.0, good_descs pool valid descs all.1)

good_needs : (pool : List Constant) (descs : List ℕ) → IsPool pool → AllByRecursion (IsDescIndex pool) descs → AllByRecursion IsGood (needs pool descs)
unfolding needs
good_needs pool descs valid all =
    all_append (needs_from pool 1 pool) (map (λ (desc : ℕ). desc_need pool desc desc) descs)
    (good_from pool valid pool 1 1 (λ i k h. subst (λ (n : ℕ). constant_at pool n ≡ Some k) (one_more i) h))
    (good_descs pool valid descs all) where
      one_more : (i : ℕ) → suc i ≡ 1 + i
      one_more i = omega arith

-- ---- and it fits

-- a text that fits is whole
record Fits (pool : List Constant) (before texts : List Name) : Type 0 where
  each : AllByRecursion (λ (t : Name). IsWhole (Utf8 t)) texts
  few : length pool + length before + length texts ≤ last_index

none_first : (o later : Option RenameError) → first_error o later ≡ None → (o ≡ None) × (later ≡ None)
none_first None later e = (refl, e)
none_first (Some x) later e = absurd cc

fits_there : (index : ℕ) (need : Need) → refusal_at index need ≡ None → (index ≤ last_index) × (length need.text ≤ most_bytes)
fits_there index need e = go (nat_lt last_index index) (nat_lt most_bytes (length need.text)) refl refl e where
  go : (a b : Bool) → nat_lt last_index index ≡ a → nat_lt most_bytes (length need.text) ≡ b → (if a then Some errors.Full else (if b then Some (errors.Long need.of) else None)) ≡ None
      → (index ≤ last_index) × (length need.text ≤ most_bytes)
  go true b x y e = absurd cc
  go false true x y e = absurd cc
  go false false x y e = (ltb-false last_index index x, ltb-false most_bytes (length need.text) y)

step_fit : (pool : List Constant) (before : List Name) (need : Need) (list : List Need) → length pool + length before ≤ last_index → IsGood need → refusal_from pool before (need ∷ list) ≡ None
    → (refusal_from pool before list ≡ None → Fits pool before (first_places before (changed_texts pool list)))
    → (length pool + length (before ++ need.text ∷ []) ≤ last_index → refusal_from pool (before ++ need.text ∷ []) list ≡ None → Fits pool (before ++ need.text ∷ []) (first_places (before ++ need.text ∷ []) (changed_texts pool list)))
    → Fits pool before (first_places before (changed_texts pool (need ∷ list)))
step_fit pool before need list few good none same more = go (is_changed pool need) (has_text before need.text) refl refl where
  go : (b c : Bool) → is_changed pool need ≡ b → has_text before need.text ≡ c → Fits pool before (first_places before (changed_texts pool (need ∷ list)))
  go false c e h = subst (Fits pool before) (sym (with_need pool before need list false e)) (same (sym (at_need pool before need list false c e h) ∙ none))
  go true true e h =
      subst (Fits pool before) (sym (with_need pool before need list true e ∙ with_text pool before need.text (changed_texts pool list) true h))
      (same (sym (at_need pool before need list true true e h) ∙ none))
  go true false e h =
      let parts = none_first (refusal_at (length pool + length before + 1) need) (refusal_from pool (before ++ need.text ∷ []) list) (sym (at_need pool before need list true false e h) ∙ none) in
      let fits = fits_there (length pool + length before + 1) need parts.0 in
      let room = fits.0 in
      let short = fits.1 in
      let longer = length-append before (need.text ∷ []) in
      let later = more (omega (arith, longer, room)) parts.1 in
      let left = later.few in
      subst (Fits pool before) (sym (with_need pool before need list true e ∙ with_text pool before need.text (changed_texts pool list) false h))
      (record { each = ((omega (arith, short), good), later.each); few = omega (arith, longer, left) })

all_fit : (pool : List Constant) (before : List Name) (list : List Need) → length pool + length before ≤ last_index → AllByRecursion IsGood list → refusal_from pool before list ≡ None
    → Fits pool before (first_places before (changed_texts pool list))
unfolding first_places
all_fit pool before [] few good none = record { each = tt; few = omega (arith, few) }
all_fit pool before (need ∷ list) few good none =
    step_fit pool before need list few good.0 none (λ left. all_fit pool before list few good.1 left) (λ room left. all_fit pool (before ++ need.text ∷ []) list room good.1 left)

whole_at : (texts : List Name) → AllByRecursion (λ (t : Name). IsWhole (Utf8 t)) texts → (place : ℕ) → place < length texts → IsWhole (Utf8 (get_or texts place []))
whole_at [] all place h = absurd (omega (arith, h))
whole_at (t ∷ texts) all zero h = all.0
whole_at (t ∷ texts) all (suc place) h = whole_at texts all.1 place (omega (arith, h))

module _ (pool : List Constant) (descs : List ℕ) (texts : List Name) (valid : IsPool pool) (all : AllByRecursion (IsDescIndex pool) descs) (are : AreAppended pool descs texts) where
  fits : Fits pool [] texts
  unfolding appended_texts refusal
  fits = let count = valid.count in subst (Fits pool []) (sym are.same) (all_fit pool [] (needs pool descs) (omega (arith, count)) (good_needs pool descs valid all) are.fit)

  pub appended_whole : (place : ℕ) → place < length texts → IsWhole (Utf8 (get_or texts place []))
  appended_whole = whole_at texts fits.each

  pub appended_few : length pool + length texts ≤ last_index
  appended_few = let left = fits.few in omega (arith, left)
