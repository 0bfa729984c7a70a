-- One constant after the other gets its new text, and the pool stays valid.
use Rattle.std.proofs.Common.{◌≡◌, ℕ, zero, suc, ◌+◌, ◌-◌, ◌<◌, ◌^◌, Bool, true, false, not, List, [], ◌∷◌, ◌++◌, map, take, drop, set, length, Option, Some, None, slice_get, option_and_then, refl, sym, ap, subst, ◌∙◌, arith, inl, inr, unwrap_or, add-one}
use Rattle.std.specs.Prelude.{IsSomeAnd, ⊤}
use Rattle.std.specs.Option.{option_map}
use Rattle.std.proofs.lemmas.Option.{slice_get-map}
use Rattle.dj_names.specs.trusted.Types.{Name, same_name}
use Rattle.dj_names.specs.trusted.Names.{IsUnqualifiedName, IsMethodName}
use Rattle.dj_names.specs.trusted.Descriptors.{IsFieldDescriptor, IsMethodDescriptor}
use Rattle.dj_pool.specs.trusted.Pool.{Constant, Utf8, Integer, Float, Long, Double, Class, Text, Field, Method, InterfaceMethod, NameAndType, Handle, MethodType, Dynamic, Hole, constant_at, text_of, text_at, names_of, IsClassText, NamesText, AreNames, IsLinked, IsPool}
use Rattle.dj_pool.specs.Answers.{with_text, HasText, MayHaveText, Redirects}
use Rattle.dj_pool.specs.Laws.{KeepsKind}
use Rattle.dj_pool.proofs.RedirectLaws.{redirected_is_pool}
use Rattle.dj_declarations.specs.trusted.Files.{name_in}
use Rattle.dj_rename.specs.declared.wanted.Role.TheVariants as roles
use Rattle.dj_rename.specs.declared.wanted.Wanted.{Wanted}
use Rattle.dj_rename.specs.Names.{renamed_class, renamed_desc}
use Rattle.dj_rename.specs.Pools.{is_changed, place_of, new_index, renamed_constant, renamed_pool}
use Rattle.dj_rename.specs.Renaming.{respelled, wanted_by, wanted_need, IsSettled}
use Rattle.dj_rename.specs.Redirecting.{half_renamed, IsHalfway}
use Rattle.dj_rename.proofs.NameLaws.{renamed_class_text, field_renamed, method_renamed}
use Rattle.dj_rename.proofs.PoolLaws.{placed_at, slice_get_left, slice_get_right, same_is}
use Rattle.dj_rename.proofs.PoolTexts.{linked_at}
use Rattle.dj_rename.proofs.Walking.{index_when}

-- ---- lists of which the first elements are changed

module _ (f : Constant → Constant) where
  half_same : (n : ℕ) (ks rest : List Constant) (j : ℕ) (k : Constant) → f k ≡ k → slice_get (ks ++ rest) j ≡ Some k → slice_get (map f (take n ks) ++ (drop n ks ++ rest)) j ≡ Some k
  half_same zero ks rest j k same h = h
  half_same (suc n) [] rest j k same h = h
  half_same (suc n) (x ∷ ks) rest zero k same h = let is : x ≡ k = cc in ap (λ (y : Constant). Some (f y)) is ∙ ap (λ (y : Constant). Some y) same
  half_same (suc n) (x ∷ ks) rest (suc j) k same h = half_same n ks rest j k same h

  half_here : (n : ℕ) (ks rest : List Constant) (k : Constant) → slice_get ks n ≡ Some k → slice_get (map f (take n ks) ++ (drop n ks ++ rest)) n ≡ Some k
  half_here zero [] rest k h = absurd cc
  half_here zero (x ∷ ks) rest k h = h
  half_here (suc n) [] rest k h = absurd cc
  half_here (suc n) (x ∷ ks) rest k h = half_here n ks rest k h

  half_set : (n : ℕ) (ks rest : List Constant) (k : Constant) → slice_get ks n ≡ Some k
      → set (map f (take n ks) ++ (drop n ks ++ rest)) n (f k) ≡ map f (take (suc n) ks) ++ (drop (suc n) ks ++ rest)
  half_set zero [] rest k h = absurd cc
  half_set zero (x ∷ ks) rest k h = let is : k ≡ x = cc in ap (λ (y : Constant). f y ∷ (ks ++ rest)) is
  half_set (suc n) [] rest k h = absurd cc
  half_set (suc n) (x ∷ ks) rest k h = ap (λ (l : List Constant). f x ∷ l) (half_set n ks rest k h)

  half_skip : (n : ℕ) (ks rest : List Constant) (k : Constant) → f k ≡ k → slice_get ks n ≡ Some k
      → map f (take n ks) ++ (drop n ks ++ rest) ≡ map f (take (suc n) ks) ++ (drop (suc n) ks ++ rest)
  half_skip zero [] rest k same h = absurd cc
  half_skip zero (x ∷ ks) rest k same h = let is : k ≡ x = cc in let back : f x ≡ x = subst (λ (y : Constant). f y ≡ y) is same in ap (λ (y : Constant). y ∷ (ks ++ rest)) (sym back)
  half_skip (suc n) [] rest k same h = absurd cc
  half_skip (suc n) (x ∷ ks) rest k same h = ap (λ (l : List Constant). f x ∷ l) (half_skip n ks rest k same h)

  half_end : (ks rest : List Constant) → map f (take (length ks) ks) ++ (drop (length ks) ks ++ rest) ≡ map f ks ++ rest
  half_end [] rest = refl
  half_end (x ∷ ks) rest = ap (λ (l : List Constant). f x ∷ l) (half_end ks rest)

pub renamed_from : (pool : List Constant) (texts : List Name) → half_renamed pool texts (length pool) ≡ renamed_pool pool texts
unfolding renamed_pool
renamed_from pool texts = half_end (renamed_constant pool texts) pool (map Utf8 texts)

-- ---- texts are appended

pub half_first : (pool : List Constant) (texts : List Name) (now : List Constant) → now ≡ pool ++ map Utf8 texts → IsPool now → IsHalfway pool texts 0 now
half_first pool texts now is valid = record { is = is; valid = valid }

-- ---- one constant gets another text

at_some : {A : Type 0} (P : A → Type 0) (o : Option A) (a : A) → o ≡ Some a → P a → IsSomeAnd o P
at_some P o a e h = subst (λ (x : Option _). IsSomeAnd x P) (sym e) h

-- what is there, and meets a condition
record There {A : Type 0} (P : A → Type 0) (o : Option A) : Type 0 where
  value : A
  is : o ≡ Some value
  such : P value

there : {A : Type 0} (P : A → Type 0) (o : Option A) → IsSomeAnd o P → There P o
there P (Some a) h = record { value = a; is = refl; such = h }
there P None h = absurd h

some_same : {A : Type 0} (a b : A) → Some a ≡ Some b → a ≡ b
some_same a b e = cc

module _ (pool : List Constant) (texts : List Name) (n : ℕ) (now : List Constant) (valid : IsPool pool) (halfway : IsHalfway pool texts n now) where
  abbrev f : Constant → Constant
  f = renamed_constant pool texts

  -- original and appended texts stay
  text_from : (i : ℕ) (t : Name) → text_at (pool ++ map Utf8 texts) i ≡ Some t → text_at now i ≡ Some t
  text_from zero t h = absurd cc
  text_from (suc i) t h = ap (λ (l : List Constant). option_and_then text_of (slice_get l i)) halfway.is ∙ go (slice_get (pool ++ map Utf8 texts) i) refl h where
    go : (o : Option Constant) → slice_get (pool ++ map Utf8 texts) i ≡ o → option_and_then text_of o ≡ Some t → option_and_then text_of (slice_get (half_renamed pool texts n) i) ≡ Some t
    go None e h = absurd cc
    go (Some (Utf8 x)) e h = ap (option_and_then text_of) (half_same f n pool (map Utf8 texts) i (Utf8 x) refl e) ∙ h
    go (Some (Integer z)) e h = absurd cc
    go (Some (Float x)) e h = absurd cc
    go (Some (Long z)) e h = absurd cc
    go (Some (Double x)) e h = absurd cc
    go (Some (Class x)) e h = absurd cc
    go (Some (Text x)) e h = absurd cc
    go (Some (Field x y)) e h = absurd cc
    go (Some (Method x y)) e h = absurd cc
    go (Some (InterfaceMethod x y)) e h = absurd cc
    go (Some (NameAndType x y)) e h = absurd cc
    go (Some (Handle x y)) e h = absurd cc
    go (Some (MethodType x)) e h = absurd cc
    go (Some (Dynamic x y)) e h = absurd cc
    go (Some Hole) e h = absurd cc

  text_kept : (i : ℕ) (t : Name) → text_at pool i ≡ Some t → text_at now i ≡ Some t
  text_kept zero t h = absurd cc
  text_kept (suc i) t h = text_from (suc i) t (go (slice_get pool i) refl h) where
    go : (o : Option Constant) → slice_get pool i ≡ o → option_and_then text_of o ≡ Some t → text_at (pool ++ map Utf8 texts) (suc i) ≡ Some t
    go None e h = absurd cc
    go (Some k) e h = ap (option_and_then text_of) (slice_get_left pool (map Utf8 texts) i k e) ∙ h

  text_added : (place : ℕ) (t : Name) → slice_get texts place ≡ Some t → text_at now (length pool + 1 + place) ≡ Some t
  text_added place t h =
      ap (text_at now) (one_more (length pool) place)
      ∙ text_from (suc (length pool + place)) t
      (ap (option_and_then text_of) (slice_get_right pool (map Utf8 texts) place (length pool + place) refl ∙ slice_get-map Utf8 texts place ∙ ap (option_map Utf8) h)) where
        one_more : (a b : ℕ) → a + 1 + b ≡ suc (a + b)
        one_more a b = omega arith

  not_false : (b : Bool) → not b ≡ false → b ≡ true
  not_false true e = refl
  not_false false e = absurd cc

  need_now : (w : Wanted) (index : ℕ) (old : Name) → index ≡ new_index pool texts (wanted_need pool w) → IsSettled pool texts (wanted_need pool w) → text_at pool w.index ≡ Some old
      → text_at now index ≡ Some (respelled w.role old)
  need_now w index old is settled h = ap (text_at now) is ∙ go (is_changed pool (wanted_need pool w)) refl ∙ ap (λ (x : Name). Some (respelled w.role x)) name_is where
    name_is : name_in pool w.index ≡ old
    name_is = ap (λ (o : Option Name). unwrap_or o []) h

    go : (b : Bool) → is_changed pool (wanted_need pool w) ≡ b → text_at now (new_index pool texts (wanted_need pool w)) ≡ Some (wanted_need pool w).text
    go true e =
        ap (text_at now) (index_when pool texts (wanted_need pool w) true e)
        ∙ text_added (place_of texts (wanted_need pool w).text) (wanted_need pool w).text (placed_at texts (wanted_need pool w).text (settled e))
    go false e =
        ap (text_at now) (index_when pool texts (wanted_need pool w) false e)
        ∙ text_kept w.index old h
        ∙ ap (λ (x : Name). Some x) (sym (same_is (wanted_need pool w).text (name_in pool w.index) (not_false (same_name (wanted_need pool w).text (name_in pool w.index)) e) ∙ name_is))

  module _ (k : Constant) (at : slice_get pool n ≡ Some k) (of : ℕ) (w : Wanted) (named : Some w ≡ wanted_by of k) (index : ℕ)
      (index_is : index ≡ new_index pool texts (wanted_need pool w)) (settled : IsSettled pool texts (wanted_need pool w)) where
    at_now : constant_at now (suc n) ≡ Some k
    at_now = ap (λ (l : List Constant). slice_get l n) halfway.is ∙ half_here f n pool (map Utf8 texts) k at

    linked : IsLinked pool k
    linked = linked_at pool valid (suc n) k at

    as_class : (i : ℕ) → w ≡ record { of = of; index = i; role = roles.Class } → NamesText IsClassText pool i → NamesText IsClassText now index
    as_class i e h =
        let t = there IsClassText (text_at pool i) h in
        at_some IsClassText (text_at now index) (renamed_class t.value)
        (need_now w index t.value index_is settled (ap (λ (x : Wanted). text_at pool x.index) e ∙ t.is) ∙ ap (λ (x : Wanted). Some (respelled x.role t.value)) e)
        (renamed_class_text t.value t.such)

    as_desc : (P : Name → Type 0) → ((text : Name) → P text → P (renamed_desc text)) → (i : ℕ) → w ≡ record { of = of; index = i; role = roles.Desc } → NamesText P pool i → NamesText P now index
    as_desc P keeps i e h =
        let t = there P (text_at pool i) h in
        at_some P (text_at now index) (renamed_desc t.value)
        (need_now w index t.value index_is settled (ap (λ (x : Wanted). text_at pool x.index) e ∙ t.is) ∙ ap (λ (x : Wanted). Some (respelled x.role t.value)) e)
        (keeps t.value t.such)

    name_stays : (P : Name → Type 0) (i : ℕ) → NamesText P pool i → NamesText P now i
    name_stays P i h = let t = there P (text_at pool i) h in at_some P (text_at now i) t.value (text_kept i t.value t.is) t.such

    goes : (k : Constant) → IsLinked pool k → Some w ≡ wanted_by of k → HasText k × IsLinked now (with_text index k)
    goes (Class i) l e = (tt, as_class i (some_same _ _ e) l)
    goes (NameAndType name d) (inl fields) e = (tt, inl (name_stays IsUnqualifiedName name fields.0, as_desc IsFieldDescriptor field_renamed d (some_same _ _ e) fields.1))
    goes (NameAndType name d) (inr methods) e = (tt, inr (name_stays IsMethodName name methods.0, as_desc IsMethodDescriptor method_renamed d (some_same _ _ e) methods.1))
    goes (MethodType d) l e = (tt, as_desc IsMethodDescriptor method_renamed d (some_same _ _ e) l)
    goes (Utf8 t) l e = absurd cc
    goes (Integer x) l e = absurd cc
    goes (Float x) l e = absurd cc
    goes (Long x) l e = absurd cc
    goes (Double x) l e = absurd cc
    goes (Text x) l e = absurd cc
    goes (Field x y) l e = absurd cc
    goes (Method x y) l e = absurd cc
    goes (InterfaceMethod x y) l e = absurd cc
    goes (Handle x y) l e = absurd cc
    goes (Dynamic x y) l e = absurd cc
    goes Hole l e = absurd cc

    pub half_may : MayHaveText now (suc n) index
    half_may = at_some (λ (x : Constant). HasText x × IsLinked now (with_text index x)) (constant_at now (suc n)) k at_now (goes k linked named)

    -- a descriptor stays of its kind
    kind : (P : Name → Type 0) → ((text : Name) → P text → P (renamed_desc text)) → (k : Constant) → IsLinked pool k → Some w ≡ wanted_by of k
        → IsSomeAnd (option_and_then (λ (x : ℕ × ℕ). text_at now x.1) (names_of k)) P → NamesText P now index
    kind P keeps (NameAndType name d) l e h = as_desc P keeps d (some_same _ _ e) (back l) where
      of_text : There (λ _. ⊤) (text_at pool d) → NamesText P pool d
      of_text t =
          let now_is = text_kept d t.value t.is in
          at_some P (text_at pool d) t.value t.is (subst (λ (o : Option Name). IsSomeAnd o P) now_is h)

      back : AreNames pool name d → NamesText P pool d
      back (inl fields) = let t = there IsFieldDescriptor (text_at pool d) fields.1 in of_text (record { value = t.value; is = t.is; such = tt })
      back (inr methods) = let t = there IsMethodDescriptor (text_at pool d) methods.1 in of_text (record { value = t.value; is = t.is; such = tt })
    kind P keeps (Class i) l e h = absurd h
    kind P keeps (MethodType d) l e h = absurd h
    kind P keeps (Utf8 t) l e h = absurd h
    kind P keeps (Integer x) l e h = absurd h
    kind P keeps (Float x) l e h = absurd h
    kind P keeps (Long x) l e h = absurd h
    kind P keeps (Double x) l e h = absurd h
    kind P keeps (Text x) l e h = absurd h
    kind P keeps (Field x y) l e h = absurd h
    kind P keeps (Method x y) l e h = absurd h
    kind P keeps (InterfaceMethod x y) l e h = absurd h
    kind P keeps (Handle x y) l e h = absurd h
    kind P keeps (Dynamic x y) l e h = absurd h
    kind P keeps Hole l e h = absurd h

    half_kind : KeepsKind now (suc n) index
    half_kind = record {
      field = λ h. kind IsFieldDescriptor field_renamed k linked named (subst (λ (o : Option Constant). IsSomeAnd (option_and_then (λ (x : ℕ × ℕ). text_at now x.1) (option_and_then names_of o)) IsFieldDescriptor) at_now h);
      method = λ h. kind IsMethodDescriptor method_renamed k linked named (subst (λ (o : Option Constant). IsSomeAnd (option_and_then (λ (x : ℕ × ℕ). text_at now x.1) (option_and_then names_of o)) IsMethodDescriptor) at_now h);
    }

    new_text : (k : Constant) → Some w ≡ wanted_by of k → with_text index k ≡ renamed_constant pool texts k
    new_text (Class i) e = let same : w ≡ record { of = of; index = i; role = roles.Class } = some_same _ _ e in ap Class (index_is ∙ ap (λ (x : Wanted). new_index pool texts (wanted_need pool x)) same)
    new_text (NameAndType name d) e = let same : w ≡ record { of = of; index = d; role = roles.Desc } = some_same _ _ e in ap (NameAndType name) (index_is ∙ ap (λ (x : Wanted). new_index pool texts (wanted_need pool x)) same)
    new_text (MethodType d) e = let same : w ≡ record { of = of; index = d; role = roles.Desc } = some_same _ _ e in ap MethodType (index_is ∙ ap (λ (x : Wanted). new_index pool texts (wanted_need pool x)) same)
    new_text (Utf8 t) e = absurd cc
    new_text (Integer x) e = absurd cc
    new_text (Float x) e = absurd cc
    new_text (Long x) e = absurd cc
    new_text (Double x) e = absurd cc
    new_text (Text x) e = absurd cc
    new_text (Field x y) e = absurd cc
    new_text (Method x y) e = absurd cc
    new_text (InterfaceMethod x y) e = absurd cc
    new_text (Handle x y) e = absurd cc
    new_text (Dynamic x y) e = absurd cc
    new_text Hole e = absurd cc

    pub half_next : (new : List Constant) → index < 2 ^ 16 → Redirects now (suc n) index new → IsHalfway pool texts (suc n) new
    half_next new fits r = let place : suc n - 1 ≡ n = omega arith in record {
      is =
          r.changed
          ∙ ap (λ (i : ℕ). set now i (with_text index r.constant)) place
          ∙ ap (λ (c : Constant). set now n (with_text index c)) (sym (some_same k r.constant (sym at_now ∙ r.at)))
          ∙ ap (set now n) (new_text k named)
          ∙ ap (λ (l : List Constant). set l n (renamed_constant pool texts k)) halfway.is
          ∙ half_set f n pool (map Utf8 texts) k at;
      valid = redirected_is_pool now new (suc n) index halfway.valid fits half_may half_kind r;
    }

  -- a constant that names no text stays
  unnamed : (of : ℕ) (k : Constant) → None ≡ wanted_by of k → renamed_constant pool texts k ≡ k
  unnamed of (Class i) e = absurd cc
  unnamed of (NameAndType x y) e = absurd cc
  unnamed of (MethodType x) e = absurd cc
  unnamed of (Utf8 t) e = refl
  unnamed of (Integer x) e = refl
  unnamed of (Float x) e = refl
  unnamed of (Long x) e = refl
  unnamed of (Double x) e = refl
  unnamed of (Text x) e = refl
  unnamed of (Field x y) e = refl
  unnamed of (Method x y) e = refl
  unnamed of (InterfaceMethod x y) e = refl
  unnamed of (Handle x y) e = refl
  unnamed of (Dynamic x y) e = refl
  unnamed of Hole e = refl

  pub half_past : (of : ℕ) (k : Constant) → slice_get pool n ≡ Some k → None ≡ wanted_by of k → IsHalfway pool texts (suc n) now
  half_past of k at e = record { is = halfway.is ∙ half_skip f n pool (map Utf8 texts) k (unnamed of k e) at; valid = halfway.valid }

-- ---- as the code counts

pub may_at : (pool : List Constant) (texts : List Name) (place : ℕ) (now : List Constant) (k : Constant) (w : Wanted) (index : ℕ) → IsPool pool → IsHalfway pool texts place now → slice_get pool place ≡ Some k
    → Some w ≡ wanted_by (place + 1) k → index ≡ new_index pool texts (wanted_need pool w) → IsSettled pool texts (wanted_need pool w) → MayHaveText now (place + 1) index
may_at pool texts place now k w index valid half at named is settled =
    subst (λ (i : ℕ). MayHaveText now i index) (sym (add-one place)) (half_may pool texts place now valid half k at (place + 1) w named index is settled)

pub next_at : (pool : List Constant) (texts : List Name) (place : ℕ) (now : List Constant) (k : Constant) (w : Wanted) (index : ℕ) (new : List Constant) → IsPool pool → IsHalfway pool texts place now
    → slice_get pool place ≡ Some k → Some w ≡ wanted_by (place + 1) k → index ≡ new_index pool texts (wanted_need pool w) → IsSettled pool texts (wanted_need pool w) → index < 2 ^ 16
    → Redirects now (place + 1) index new → IsHalfway pool texts (place + 1) new
next_at pool texts place now k w index new valid half at named is settled fits r =
    subst (λ (i : ℕ). IsHalfway pool texts i new) (sym (add-one place))
    (half_next pool texts place now valid half k at (place + 1) w named index is settled new fits (subst (λ (i : ℕ). Redirects now i index new) (add-one place) r))

pub past_at : (pool : List Constant) (texts : List Name) (place : ℕ) (now : List Constant) (k : Constant) → IsPool pool → IsHalfway pool texts place now → slice_get pool place ≡ Some k
    → None ≡ wanted_by (place + 1) k → IsHalfway pool texts (place + 1) now
past_at pool texts place now k valid half at e = subst (λ (i : ℕ). IsHalfway pool texts i now) (sym (add-one place)) (half_past pool texts place now valid half (place + 1) k at e)
