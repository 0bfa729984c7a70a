-- The rewritten pool, and what doesn't fit it.
use Rattle.std.proofs.Common.{◌≡◌, ℕ, suc, ◌+◌, ◌≤◌, ◌<◌, Bool, true, false, List, [], ◌∷◌, ◌++◌, map, length, get_or, Option, Some, None, refl, sym, ap, subst, ◌∙◌, arith, if◌then◌else◌, length-append}
use Rattle.std.specs.Prelude.{⊤, nat_lt, Result, Err, IfErr}
use Rattle.std.specs.List.{AllByRecursion}
use Rattle.std.proofs.lemmas.Bool.{ltb-true}
use Rattle.dj_names.specs.trusted.Types.{Name}
use Rattle.dj_pool.specs.trusted.Pool.{Constant, Utf8, IsWhole}
use Rattle.dj_pool.specs.Answers.{last_index}
use Rattle.dj_rename.specs.declared.error.RenameError.{RenameError}
use Rattle.dj_rename.specs.declared.error.RenameError.TheVariants as errors
use Rattle.dj_rename.specs.Pools.{Need, is_changed, first_places, needs, appended_texts, renamed_constant, renamed_pool, renamed_descs, accounter_constants, first_index, rewritten_pool, IsFull}
use Rattle.dj_rename.specs.Refusals.{most_bytes, refusal_at, first_error, refusal_from, refusal, AreAppended, AppendsAccounter, RefusesAccounter}
use Rattle.dj_rename.specs.Renaming.{has_text, changed_texts}
use Rattle.dj_rename.specs.Laws.{TextsAreJudged}
use Rattle.dj_rename.proofs.PoolLaws.{length_map}
use Rattle.dj_rename.proofs.Walking.{at_need, with_need, with_text}
use Rattle.dj_rename.proofs.Appended.{appended_whole}
use Rattle.dj_rename.proofs.Accounting.{accounter_count}

-- ---- the rewritten pool

module _ (pool : List Constant) (descs : List ℕ) (texts : List Name) (are : AreAppended pool descs texts) (renamed : List Constant) (is : renamed ≡ renamed_pool pool texts) where
  renamed_long : length renamed ≡ length pool + length texts
  unfolding renamed_pool
  renamed_long = omega (
    arith,
    ap length is,
    length-append (map (renamed_constant pool texts) pool) (map Utf8 texts),
    length_map (renamed_constant pool texts) pool,
    length_map Utf8 texts,
  )

  pub first_is : (first : ℕ) → first ≡ length renamed + 1 → first ≡ first_index pool (appended_texts pool descs)
  first_is first e = e ∙ ap (λ (n : ℕ). n + 1) renamed_long ∙ ap (first_index pool) are.same

  pub rewritten_is : (first : ℕ) (now : List Constant) → first ≡ length renamed + 1 → now ≡ renamed ++ accounter_constants first → now ≡ rewritten_pool pool descs
  unfolding rewritten_pool
  rewritten_is first now e grown =
      grown
      ∙ ap (λ (i : ℕ). renamed ++ accounter_constants i) (first_is first e)
      ∙ ap (λ (l : List Constant). l ++ accounter_constants (first_index pool (appended_texts pool descs))) (is ∙ ap (renamed_pool pool) are.same)

  full_is : last_index < length (renamed ++ accounter_constants (length renamed + 1)) → IsFull pool descs
  full_is full = subst (λ (l : List Constant). last_index < length l) (rewritten_is (length renamed + 1) (renamed ++ accounter_constants (length renamed + 1)) refl refl) full

  -- the accounter's constants aren't there
  accounter_refused : (now : List Constant) (e : RenameError) → AppendsAccounter renamed now (Err e) → RefusesAccounter pool descs e
  accounter_refused now errors.Full h = full_is h.1
  accounter_refused now (errors.Long i) h = absurd h
  accounter_refused now errors.Memory h = tt

  pub refused_ends : {A : Type 0} (r : Result A RenameError) (now : List Constant) (e x : RenameError) → r ≡ Err e → e ≡ x → AppendsAccounter renamed now (Err x) → IfErr r (RefusesAccounter pool descs)
  refused_ends {A} r now e x is same h =
      subst (λ (o : Result A RenameError). IfErr o (RefusesAccounter pool descs)) (sym is)
      (accounter_refused now e (subst (λ (y : RenameError). AppendsAccounter renamed now (Err y)) (sym same) h))

pub memory_ends : {A : Type 0} (pool : List Constant) (descs : List ℕ) (r : Result A RenameError) (e x : RenameError) → r ≡ Err e → e ≡ x → x ≡ errors.Memory → IfErr r (RefusesAccounter pool descs)
memory_ends {A} pool descs r e x is same memory = subst (λ (o : Result A RenameError). IfErr o (RefusesAccounter pool descs)) (sym (is ∙ ap Err (same ∙ memory))) tt

pub descs_are : (pool : List Constant) (descs indexes : List ℕ) (texts : List Name) → AreAppended pool descs texts → indexes ≡ renamed_descs pool texts descs → indexes ≡ renamed_descs pool (appended_texts pool descs) descs
descs_are pool descs indexes texts are e = e ∙ ap (λ (t : List Name). renamed_descs pool t descs) are.same

pub rewritten_long : (pool : List Constant) (descs : List ℕ) → length (rewritten_pool pool descs) ≡ length pool + length (appended_texts pool descs) + 26
unfolding rewritten_pool renamed_pool
rewritten_long pool descs = omega (
  arith,
  length-append (renamed_pool pool (appended_texts pool descs)) (accounter_constants (first_index pool (appended_texts pool descs))),
  length-append (map (renamed_constant pool (appended_texts pool descs)) pool) (map Utf8 (appended_texts pool descs)),
  length_map (renamed_constant pool (appended_texts pool descs)) pool,
  length_map Utf8 (appended_texts pool descs),
  accounter_count (first_index pool (appended_texts pool descs)),
)

-- ---- what doesn't fit

abbrev AreShort : List Name → Type 0
AreShort texts = AllByRecursion (λ (text : Name). length text ≤ 65535) texts

-- these texts are too many after those before them, or one of them is too long
abbrev FitBadly : List Constant → List Name → List Name → RenameError → Type 0
FitBadly pool before texts errors.Full = last_index < length pool + length before + length texts
FitBadly pool before texts (errors.Long of) = AreShort texts → ⊥
FitBadly pool before texts errors.Memory = ⊤

-- one text can't be appended
bad_here : (pool : List Constant) (before texts : List Name) (need : Need) (e : RenameError) → refusal_at (length pool + length before + 1) need ≡ Some e → FitBadly pool before (need.text ∷ texts) e
bad_here pool before texts need e h = go (nat_lt last_index (length pool + length before + 1)) (nat_lt most_bytes (length need.text)) refl refl h where
  some_same : (x y : RenameError) → Some x ≡ Some y → x ≡ y
  some_same x y e = cc

  go : (a b : Bool) → nat_lt last_index (length pool + length before + 1) ≡ a → nat_lt most_bytes (length need.text) ≡ b
      → (if a then Some errors.Full else (if b then Some (errors.Long need.of) else None)) ≡ Some e → FitBadly pool before (need.text ∷ texts) e
  go true b x y h = let past = ltb-true last_index (length pool + length before + 1) x in subst (FitBadly pool before (need.text ∷ texts)) (some_same errors.Full e h) (omega (arith, past))
  go false true x y h =
      let past = ltb-true most_bytes (length need.text) y in
      subst (FitBadly pool before (need.text ∷ texts)) (some_same (errors.Long need.of) e h) (λ short. let fits = short.0 in absurd (omega (arith, past, fits)))
  go false false x y h = absurd cc

-- a later one can't
bad_later : (pool : List Constant) (before texts : List Name) (text : Name) (e : RenameError) → FitBadly pool (before ++ text ∷ []) texts e → FitBadly pool before (text ∷ texts) e
bad_later pool before texts text errors.Full h = omega (arith, h, length-append before (text ∷ []))
bad_later pool before texts text (errors.Long of) h = λ short. h short.1
bad_later pool before texts text errors.Memory h = tt

bad_step : (pool : List Constant) (before : List Name) (need : Need) (list : List Need) (e : RenameError) → refusal_from pool before (need ∷ list) ≡ Some e
    → (refusal_from pool before list ≡ Some e → FitBadly pool before (first_places before (changed_texts pool list)) e)
    → (refusal_from pool (before ++ need.text ∷ []) list ≡ Some e → FitBadly pool (before ++ need.text ∷ []) (first_places (before ++ need.text ∷ []) (changed_texts pool list)) e)
    → FitBadly pool before (first_places before (changed_texts pool (need ∷ list))) e
bad_step pool before need list e h same more = go (is_changed pool need) (has_text before need.text) refl refl where
  here : (o : Option RenameError) → refusal_at (length pool + length before + 1) need ≡ o → first_error o (refusal_from pool (before ++ need.text ∷ []) list) ≡ Some e
      → FitBadly pool before (need.text ∷ first_places (before ++ need.text ∷ []) (changed_texts pool list)) e
  here None x later = bad_later pool before (first_places (before ++ need.text ∷ []) (changed_texts pool list)) need.text e (more later)
  here (Some y) x later = bad_here pool before (first_places (before ++ need.text ∷ []) (changed_texts pool list)) need e (x ∙ later)

  go : (b c : Bool) → is_changed pool need ≡ b → has_text before need.text ≡ c → FitBadly pool before (first_places before (changed_texts pool (need ∷ list))) e
  go false c x y = subst (λ (texts : List Name). FitBadly pool before texts e) (sym (with_need pool before need list false x)) (same (sym (at_need pool before need list false c x y) ∙ h))
  go true true x y =
      subst (λ (texts : List Name). FitBadly pool before texts e) (sym (with_need pool before need list true x ∙ with_text pool before need.text (changed_texts pool list) true y))
      (same (sym (at_need pool before need list true true x y) ∙ h))
  go true false x y =
      subst (λ (texts : List Name). FitBadly pool before texts e) (sym (with_need pool before need list true x ∙ with_text pool before need.text (changed_texts pool list) false y))
      (here (refusal_at (length pool + length before + 1) need) refl (sym (at_need pool before need list true false x y) ∙ h))

fit_badly : (pool : List Constant) (before : List Name) (list : List Need) (e : RenameError) → refusal_from pool before list ≡ Some e → FitBadly pool before (first_places before (changed_texts pool list)) e
unfolding refusal_from
fit_badly pool before [] e h = absurd cc
fit_badly pool before (need ∷ list) e h = bad_step pool before need list e h (λ left. fit_badly pool before list e left) (λ left. fit_badly pool (before ++ need.text ∷ []) list e left)

refused : (pool : List Constant) (descs : List ℕ) (e : RenameError) → refusal pool descs ≡ Some e → FitBadly pool [] (appended_texts pool descs) e
unfolding appended_texts refusal
refused pool descs e h = fit_badly pool [] (needs pool descs) e h

all_short : (texts : List Name) → ((place : ℕ) → place < length texts → IsWhole (Utf8 (get_or texts place []))) → AreShort texts
all_short [] whole = tt
all_short (text ∷ texts) whole = let first = (whole 0 (omega arith)).0 in (omega (arith, first), all_short texts (λ place less. whole (suc place) (omega (arith, less))))

pub texts_are_judged : TextsAreJudged
texts_are_judged pool descs valid all = record {
  full = λ h. let many = refused pool descs errors.Full h in omega (arith, many, rewritten_long pool descs);
  long = λ of h. refused pool descs (errors.Long of) h;
  short = λ none long. long (all_short (appended_texts pool descs) (appended_whole pool descs (appended_texts pool descs) valid all (record { same = refl; fit = none })));
}
