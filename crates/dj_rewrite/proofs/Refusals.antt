-- Why a class's constants don't fit, as renaming tells it.
use Rattle.std.proofs.Common.{◌≡◌, ℕ, suc, ◌+◌, ◌<◌, ◌≤◌, ◌^◌, Bool, true, false, not, ◌&&◌, List, [], ◌∷◌, ◌++◌, map, filter, length, length-append, Option, Some, None, nat_lt, refl, sym, ap, subst, ◌∙◌, arith, inl, inr, if◌then◌else◌}
use Rattle.std.specs.List.{list_any, AllByRecursion}
use Rattle.std.proofs.lemmas.Bool.{ltb-true, ltb-false}
use Rattle.dj_names.specs.trusted.Types.{Name, same_name}
use Rattle.dj_pool.specs.trusted.Pool.{Constant, Utf8, IsPool}
use Rattle.dj_pool.specs.Answers.{last_index}
use Rattle.dj_class.specs.trusted.ClassFile.{ClassFile}
use Rattle.dj_rename.specs.declared.error.RenameError.{RenameError}
use Rattle.dj_rename.specs.declared.error.RenameError.TheVariants as errors
use Rattle.dj_rename.specs.Pools.{Need, needs, is_changed, first_places, need_text, appended_texts, renamed_constant, renamed_pool, accounter_constants, first_index, renamed_descs, rewritten_pool}
use Rattle.dj_rename.specs.Refusals.{most_bytes, refusal_at, first_error, refusal_from, refusal, AreAppended}
use Rattle.dj_rewritten.specs.Files.{desc_indexes}
use Rattle.dj_rewritten.specs.TooLarge.{first_of_class, HasLargePool}
use Rattle.dj_rewrite.specs.Steps.{IsNewPool}

abbrev changed : List Constant → List Need → List Name
changed pool list = map need_text (filter (is_changed pool) list)

abbrev IsShort : Name → Type 0
IsShort text = length text ≤ 65535

-- what can be said of the texts of needs
record Told (pool : List Constant) (before : List Name) (texts : List Name) (o : Option RenameError) : Type 0 where
  full : o ≡ Some errors.Full → last_index < length pool + length before + length texts
  long : (of : ℕ) → o ≡ Some (errors.Long of) → AllByRecursion IsShort texts → ⊥
  memory : o ≡ Some errors.Memory → ⊥
  fit : o ≡ None → AllByRecursion IsShort texts

-- one text more
told_more : (pool : List Constant) (before : List Name) (need : Need) (texts : List Name) (o : Option RenameError) → Told pool (before ++ need.text ∷ []) texts o
    → Told pool before (need.text ∷ texts) (first_error (refusal_at (length pool + length before + 1) need) o)
told_more pool before need texts o t = go (nat_lt last_index (length pool + length before + 1)) refl (nat_lt most_bytes (length need.text)) refl where
  go : (f : Bool) → nat_lt last_index (length pool + length before + 1) ≡ f → (l : Bool) → nat_lt most_bytes (length need.text) ≡ l
      → Told pool before (need.text ∷ texts) (first_error (if f then Some errors.Full else (if l then Some (errors.Long need.of) else None)) o)
  go true e l g = record {
    full = λ h. (let past = ltb-true last_index (length pool + length before + 1) e in omega (arith, past));
    long = λ of h. absurd cc;
    memory = λ h. absurd cc;
    fit = λ h. absurd cc;
  }
  go false e true g = record {
    full = λ h. absurd cc;
    long = λ of h all. (let past = ltb-true most_bytes (length need.text) g in omega (arith, past, all.0));
    memory = λ h. absurd cc;
    fit = λ h. absurd cc;
  }
  go false e false g = record {
    full = λ h. (let later = t.full h in omega (arith, later, length-append before (need.text ∷ [])));
    long = λ of h all. t.long of h all.1;
    memory = t.memory;
    fit = λ h. (omega (arith, ltb-false most_bytes (length need.text) g), t.fit h);
  }

told : (pool : List Constant) (before : List Name) (list : List Need) → Told pool before (first_places before (changed pool list)) (refusal_from pool before list)
unfolding refusal_from first_places
told pool before [] = record { full = λ h. absurd cc; long = λ of h all. absurd cc; memory = λ h. absurd cc; fit = λ h. tt }
told pool before (need ∷ more) = go (is_changed pool need) (told pool before more) (told pool (before ++ need.text ∷ []) more) where
  go : (b : Bool) → Told pool before (first_places before (changed pool more)) (refusal_from pool before more)
      → Told pool (before ++ need.text ∷ []) (first_places (before ++ need.text ∷ []) (changed pool more)) (refusal_from pool (before ++ need.text ∷ []) more)
      → Told pool before (first_places before (map need_text (if b then need ∷ filter (is_changed pool) more else filter (is_changed pool) more)))
      (if b && not (list_any (same_name need.text) before)
      then first_error (refusal_at (length pool + length before + 1) need) (refusal_from pool (before ++ need.text ∷ []) more) else refusal_from pool before more)
  go false later other = later
  go true later other = known (list_any (same_name need.text) before) where
    known : (c : Bool) → Told pool before (if c then first_places before (changed pool more) else need.text ∷ first_places (before ++ need.text ∷ []) (changed pool more))
        (if true && not c then first_error (refusal_at (length pool + length before + 1) need) (refusal_from pool (before ++ need.text ∷ []) more) else refusal_from pool before more)
    known true = later
    known false = told_more pool before need (first_places (before ++ need.text ∷ []) (changed pool more)) (refusal_from pool (before ++ need.text ∷ []) more) other

-- ---- a class

length_map : {A B : Type 0} (f : A → B) (xs : List A) → length (map f xs) ≡ length xs
length_map f [] = refl
length_map f (x ∷ xs) = ap suc (length_map f xs)

many_accounter : (first : ℕ) → length (accounter_constants first) ≡ 26
unfolding accounter_constants
many_accounter first = refl

many_renamed : (pool : List Constant) (texts : List Name) → length (renamed_pool pool texts) ≡ length pool + length texts
unfolding renamed_pool
many_renamed pool texts =
    length-append (map (renamed_constant pool texts) pool) (map Utf8 texts)
    ∙ (let a = length_map (renamed_constant pool texts) pool in let b = length_map Utf8 texts in omega (arith, a, b))

all_told : (pool : List Constant) (descs : List ℕ) → Told pool [] (appended_texts pool descs) (refusal pool descs)
unfolding refusal appended_texts
all_told pool descs = told pool [] (needs pool descs)

many_new : (pool : List Constant) (descs : List ℕ) → length (rewritten_pool pool descs) ≡ length pool + length (appended_texts pool descs) + 26
unfolding rewritten_pool
many_new pool descs =
    length-append (renamed_pool pool (appended_texts pool descs)) (accounter_constants (first_index pool (appended_texts pool descs)))
    ∙ (let a = many_renamed pool (appended_texts pool descs) in let b = many_accounter (first_index pool (appended_texts pool descs)) in omega (arith, a, b))

-- a refusal of renaming
pub refused_large : (c : ClassFile) (e : RenameError) → (e ≡ errors.Memory → ⊥) → refusal c.pool (desc_indexes c) ≡ Some e → HasLargePool c
refused_large c errors.Full never_so r =
    inl (let past = (all_told c.pool (desc_indexes c)).full r in omega (arith, past, many_new c.pool (desc_indexes c)))
refused_large c (errors.Long of) never_so r = inr (λ all. (all_told c.pool (desc_indexes c)).long of r all)
refused_large c errors.Memory never_so r = absurd (never_so refl)

-- the accounter's first constant leaves room for the others
pub first_fits : (c : ClassFile) → IsPool (rewritten_pool c.pool (desc_indexes c)) → first_of_class c + 25 < 2 ^ 16
first_fits c valid = let few = valid.count in let all = many_new c.pool (desc_indexes c) in omega (arith, few, all)

-- neither
pub pool_fits : (c : ClassFile) (texts : List Name) → AreAppended c.pool (desc_indexes c) texts → IsPool (rewritten_pool c.pool (desc_indexes c)) → HasLargePool c → ⊥
pool_fits c texts appended valid (inl full) = (let few = valid.count in omega (arith, full, few))
pool_fits c texts appended valid (inr long) = long ((all_told c.pool (desc_indexes c)).fit appended.fit)

-- the constants that are made
pub new_pool : (c : ClassFile) (indexes : List ℕ) (texts : List Name) (pool : List Constant) (descs : List ℕ) → indexes ≡ desc_indexes c → AreAppended c.pool (desc_indexes c) texts → pool ≡ rewritten_pool c.pool indexes
    → IsPool pool → descs ≡ renamed_descs c.pool (appended_texts c.pool indexes) indexes → IsNewPool c pool descs
new_pool c indexes texts pool descs same appended is valid descs_are =
    let own : pool ≡ rewritten_pool c.pool (desc_indexes c) = is ∙ ap (rewritten_pool c.pool) same in
    record {
      is = own;
      valid = valid;
      descs_are = descs_are ∙ ap (λ (ds : List ℕ). renamed_descs c.pool (appended_texts c.pool ds) ds) same;
      fits = pool_fits c texts appended (subst IsPool own valid);
    }

pub new_first : (c : ClassFile) (indexes : List ℕ) (first : ℕ) → indexes ≡ desc_indexes c → first ≡ first_index c.pool (appended_texts c.pool indexes) → first ≡ first_of_class c
new_first c indexes first same is = is ∙ ap (λ (ds : List ℕ). first_index c.pool (appended_texts c.pool ds)) same

pub first_there : (c : ClassFile) (pool : List Constant) (descs : List ℕ) (first : ℕ) → IsNewPool c pool descs → first ≡ first_of_class c → first + 25 < 2 ^ 16
first_there c pool descs first is same = subst (λ (n : ℕ). n + 25 < 2 ^ 16) (sym same) (first_fits c (subst IsPool is.is is.valid))
