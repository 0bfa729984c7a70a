-- A valid pool with another text stays valid.
use Rattle.std.proofs.Common.{◌≡◌, ℕ, zero, suc, ◌-◌, ◌<◌, ◌^◌, Bool, true, false, List, [], ◌∷◌, set, length-set, Option, Some, None, IsSomeAnd, refl, sym, ap, subst, ◌∙◌, arith}
use Rattle.std.specs.Prelude.{⊤, slice_get, option_and_then}
use Rattle.std.specs.List.{AllByRecursion}
use Rattle.dj_names.specs.trusted.Descriptors.{IsFieldDescriptor, IsMethodDescriptor}
use Rattle.dj_pool.specs.trusted.Pool.{Constant, Utf8, Integer, Float, Long, Double, Class, Text, Field, Method, InterfaceMethod, NameAndType, Handle, MethodType, Dynamic, Hole, takes_two, indexed, constant_at, text_of, class_text_of, names_of, member_of, text_at, NamesText, NamesDesc, IsWhole, IsLinked, IsConstant, IsPool}
use Rattle.dj_pool.specs.Answers.{with_text, HasText}
use Rattle.dj_pool.specs.Laws.{KeepsKind, RedirectedIsPool}
use Rattle.dj_pool.proofs.Slots.{by_width, indexed_wide, indexed_narrow, indexed_none}
use Rattle.dj_pool.proofs.ChangeLaws.{Keeps, KeepsNames, link_kept}

-- ---- a constant and the same with another text

-- what is so of a constant that has a text is so of one of these
by_text : (P : Constant → Type 0) → ((n : ℕ) → P (Class n)) → ((m n : ℕ) → P (NameAndType m n)) → ((n : ℕ) → P (MethodType n)) → (k : Constant) → HasText k → P k
by_text P one other third (Utf8 text) h = absurd h
by_text P one other third (Integer z) h = absurd h
by_text P one other third (Float x) h = absurd h
by_text P one other third (Long z) h = absurd h
by_text P one other third (Double x) h = absurd h
by_text P one other third (Class n) h = one n
by_text P one other third (Text n) h = absurd h
by_text P one other third (Field m n) h = absurd h
by_text P one other third (Method m n) h = absurd h
by_text P one other third (InterfaceMethod m n) h = absurd h
by_text P one other third (NameAndType m n) h = other m n
by_text P one other third (Handle m n) h = absurd h
by_text P one other third (MethodType n) h = third n
by_text P one other third (Dynamic m n) h = absurd h
by_text P one other third Hole h = absurd h

-- it takes one index, is no text and no member, and is a class where it was one
pub record IsLike (k l : Constant) : Type 0 where
  pub narrow : takes_two k ≡ false
  pub still_narrow : takes_two l ≡ false
  pub no_hole : k ≡ Hole → ⊥
  pub text : text_of k ≡ text_of l
  pub member : member_of k ≡ member_of l
  pub any_class : IsSomeAnd (class_text_of k) (λ _. ⊤) → IsSomeAnd (class_text_of l) (λ _. ⊤)

is_like : (text : ℕ) (k : Constant) → HasText k → IsLike k (with_text text k)
is_like text k h =
    by_text (λ (k : Constant). IsLike k (with_text text k))
    (λ n. record { narrow = refl; still_narrow = refl; no_hole = λ e. absurd cc; text = refl; member = refl; any_class = λ c. c })
    (λ m n. record { narrow = refl; still_narrow = refl; no_hole = λ e. absurd cc; text = refl; member = refl; any_class = λ c. c })
    (λ n. record { narrow = refl; still_narrow = refl; no_hole = λ e. absurd cc; text = refl; member = refl; any_class = λ c. c }) k h

whole_with : (text : ℕ) → text < 2 ^ 16 → (k : Constant) → HasText k → IsWhole k → IsWhole (with_text text k)
whole_with text fits k h = by_text (λ (k : Constant). IsWhole k → IsWhole (with_text text k)) (λ n w. fits) (λ m n w. (w.0, fits)) (λ n w. fits) k h

-- ---- what is at an index

-- at the place of the change the one and the other, elsewhere the same
at_changed : (Q : Option Constant → Option Constant → Type 0) → ((o : Option Constant) → Q o o) → (pool : List Constant) (j : ℕ) (k l : Constant) → slice_get pool j ≡ Some k → Q (Some k) (Some l) → (i : ℕ) → Q (constant_at pool i) (constant_at (set pool j l) i)
at_changed Q same pool j k l at here zero = same None
at_changed Q same [] j k l at here (suc i) = absurd cc
at_changed Q same (x ∷ xs) zero k l at here (suc zero) = subst (λ (o : Option Constant). Q o (Some l)) (sym at) here
at_changed Q same (x ∷ xs) zero k l at here (suc (suc i)) = same (slice_get xs i)
at_changed Q same (x ∷ xs) (suc j) k l at here (suc zero) = same (Some x)
at_changed Q same (x ∷ xs) (suc j) k l at here (suc (suc i)) = at_changed Q same xs j k l at here (suc i)

same_text : (pool : List Constant) (j : ℕ) (k l : Constant) → slice_get pool j ≡ Some k → text_of k ≡ text_of l → (i : ℕ) → text_at pool i ≡ text_at (set pool j l) i
same_text pool j k l at e i = at_changed (λ (o p : Option Constant). option_and_then text_of o ≡ option_and_then text_of p) (λ o. refl) pool j k l at e i

-- the descriptor that a constant names is such
abbrev HasDesc : (List ℕ → Type 0) → List Constant → Option Constant → Type 0
HasDesc P pool o = IsSomeAnd (option_and_then (λ (n : ℕ × ℕ). text_at pool n.1) (option_and_then names_of o)) P

desc_same : (P : List ℕ → Type 0) (pool now : List Constant) → ((i : ℕ) → text_at pool i ≡ text_at now i) → (n : Option (ℕ × ℕ)) → IsSomeAnd (option_and_then (λ (n : ℕ × ℕ). text_at pool n.1) n) P → IsSomeAnd (option_and_then (λ (n : ℕ × ℕ). text_at now n.1) n) P
desc_same P pool now texts None h = absurd h
desc_same P pool now texts (Some n) h = subst (λ (t : Option (List ℕ)). IsSomeAnd t P) (texts n.1) h

desc_changed : (P : List ℕ → Type 0) (pool now : List Constant) (text : ℕ) → ((i : ℕ) → text_at pool i ≡ text_at now i) → (k : Constant) → HasText k → (HasDesc P pool (Some k) → NamesText P pool text) → HasDesc P pool (Some k) → HasDesc P now (Some (with_text text k))
desc_changed P pool now text texts k h =
    by_text (λ (k : Constant). (HasDesc P pool (Some k) → NamesText P pool text) → HasDesc P pool (Some k) → HasDesc P now (Some (with_text text k)))
    (λ n kind d. absurd d)
    (λ m n kind d. subst (λ (t : Option (List ℕ)). IsSomeAnd t P) (texts text) (kind d))
    (λ n kind d. absurd d) k h

-- a descriptor of a kind is named where one of that kind was
desc_kept : (P : List ℕ → Type 0) (pool : List Constant) (j text : ℕ) (k : Constant) → slice_get pool j ≡ Some k → HasText k → (NamesDesc P pool (suc j) → NamesText P pool text) → (i : ℕ) → NamesDesc P pool i → NamesDesc P (set pool j (with_text text k)) i
desc_kept P pool j text k at h kind i =
    let now : List Constant = set pool j (with_text text k) in
    let texts = same_text pool j k (with_text text k) at (is_like text k h).text in
    let kind_of : HasDesc P pool (Some k) → NamesText P pool text = λ d. kind (subst (HasDesc P pool) (sym at) d) in
    at_changed (λ (o p : Option Constant). HasDesc P pool o → HasDesc P now p) (λ o. desc_same P pool now texts (option_and_then names_of o)) pool j k (with_text text k) at (desc_changed P pool now text texts k h kind_of) i

-- ---- what an index names

keeps_equal : {A : Type 0} (o p : Option A) → o ≡ p → Keeps o p
keeps_equal o p e = record { kept = λ x h. sym e ∙ h }

keeps_changed : (pool : List Constant) (j text : ℕ) (k : Constant) → slice_get pool j ≡ Some k → HasText k → KeepsKind pool (suc j) text → KeepsNames pool (set pool j (with_text text k))
keeps_changed pool j text k at h kind =
    let like = is_like text k h in
    record {
      text = λ i. keeps_equal _ _ (same_text pool j k (with_text text k) at like.text i);
      any_class =
          at_changed (λ (o p : Option Constant). IsSomeAnd (option_and_then class_text_of o) (λ _. ⊤) → IsSomeAnd (option_and_then class_text_of p) (λ _. ⊤)) (λ o c. c) pool j k (with_text text k) at like.any_class;
      member =
          at_changed (λ (o p : Option Constant). IsSomeAnd (option_and_then member_of o) (λ _. ⊤) → IsSomeAnd (option_and_then member_of p) (λ _. ⊤)) (λ o c. c) pool j k (with_text text k) at
          (subst (λ (m : Option (ℕ × ℕ)). IsSomeAnd (member_of k) (λ _. ⊤) → IsSomeAnd m (λ _. ⊤)) like.member (λ c. c));
      field_desc = desc_kept IsFieldDescriptor pool j text k at h kind.field;
      method_desc = desc_kept IsMethodDescriptor pool j text k at h kind.method;
    }

-- ---- the constants

-- these are constants at their indexes, each of them such
pub record AreSuch (Q : Constant → Type 0) (slots : List Constant) : Type 0 where
  pub constants : List Constant
  pub is : slots ≡ indexed constants
  pub each : AllByRecursion Q constants

all_such : (P Q : Constant → Type 0) → ((k : Constant) → P k → Q k) → (ks : List Constant) → AllByRecursion P ks → AllByRecursion Q ks
all_such P Q more [] each = tt
all_such P Q more (k ∷ ks) each = (more k each.0, all_such P Q more ks each.1)

such_narrow : (Q : Constant → Type 0) (k : Constant) (slots : List Constant) → takes_two k ≡ false → Q k → AreSuch Q slots → AreSuch Q (k ∷ slots)
such_narrow Q k slots narrow good a = record { constants = k ∷ a.constants; is = ap (λ (t : List Constant). k ∷ t) a.is ∙ sym (indexed_narrow k a.constants narrow); each = (good, a.each) }

such_wide : (Q : Constant → Type 0) (k : Constant) (slots : List Constant) → takes_two k ≡ true → Q k → AreSuch Q slots → AreSuch Q (k ∷ (Hole ∷ slots))
such_wide Q k slots wide good a = record { constants = k ∷ a.constants; is = ap (λ (t : List Constant). k ∷ (Hole ∷ t)) a.is ∙ sym (indexed_wide k a.constants wide); each = (good, a.each) }

apart : {P : Type 0} {b : Bool} → b ≡ true → b ≡ false → P
apart h k = absurd cc

some_same : {A : Type 0} {x y : A} → Some x ≡ Some y → x ≡ y
some_same h = cc

-- the list of constants, one of which is another
changed_in : (P Q : Constant → Type 0) → ((x : Constant) → P x → Q x) → (k l : Constant) → IsLike k l → (P k → Q l) → (ks : List Constant) (j : ℕ) → AllByRecursion P ks → slice_get (indexed ks) j ≡ Some k → AreSuch Q (set (indexed ks) j l)
changed_in P Q more k l like here [] j each at = let none = sym (ap (λ (t : List Constant). slice_get t j) indexed_none) ∙ at in absurd cc
changed_in P Q more k l like here (x ∷ ks) zero each at =
    by_width (takes_two x)
    (λ wide.
    let same : x ≡ k = some_same (sym (ap (λ (t : List Constant). slice_get t 0) (indexed_wide x ks wide)) ∙ at) in
    apart (ap takes_two (sym same) ∙ wide) like.narrow)
    (λ narrow.
    let same : x ≡ k = some_same (sym (ap (λ (t : List Constant). slice_get t 0) (indexed_narrow x ks narrow)) ∙ at) in
    let rest : AreSuch Q (indexed ks) = record { constants = ks; is = refl; each = all_such P Q more ks each.1 } in
    subst (λ (t : List Constant). AreSuch Q (set t 0 l)) (sym (indexed_narrow x ks narrow)) (such_narrow Q l (indexed ks) like.still_narrow (here (subst P same each.0)) rest))
changed_in P Q more k l like here (x ∷ ks) (suc zero) each at =
    by_width (takes_two x)
    (λ wide.
    let same : Hole ≡ k = some_same (sym (ap (λ (t : List Constant). slice_get t 1) (indexed_wide x ks wide)) ∙ at) in
    absurd (like.no_hole (sym same)))
    (λ narrow.
    let rest = changed_in P Q more k l like here ks zero each.1 (sym (ap (λ (t : List Constant). slice_get t 1) (indexed_narrow x ks narrow)) ∙ at) in
    subst (λ (t : List Constant). AreSuch Q (set t 1 l)) (sym (indexed_narrow x ks narrow)) (such_narrow Q x (set (indexed ks) 0 l) narrow (more x each.0) rest))
changed_in P Q more k l like here (x ∷ ks) (suc (suc j)) each at =
    by_width (takes_two x)
    (λ wide.
    let rest = changed_in P Q more k l like here ks j each.1 (sym (ap (λ (t : List Constant). slice_get t (suc (suc j))) (indexed_wide x ks wide)) ∙ at) in
    subst (λ (t : List Constant). AreSuch Q (set t (suc (suc j)) l)) (sym (indexed_wide x ks wide)) (such_wide Q x (set (indexed ks) j l) wide (more x each.0) rest))
    (λ narrow.
    let rest = changed_in P Q more k l like here ks (suc j) each.1 (sym (ap (λ (t : List Constant). slice_get t (suc (suc j))) (indexed_narrow x ks narrow)) ∙ at) in
    subst (λ (t : List Constant). AreSuch Q (set t (suc (suc j)) l)) (sym (indexed_narrow x ks narrow)) (such_narrow Q x (set (indexed ks) (suc j) l) narrow (more x each.0) rest))

-- ---- the pool

changed_is_pool : (pool : List Constant) (j text : ℕ) (k : Constant) → IsPool pool → text < 2 ^ 16 → slice_get pool j ≡ Some k → HasText k → IsLinked pool (with_text text k) → KeepsKind pool (suc j) text → IsPool (set pool j (with_text text k))
changed_is_pool pool j text k good fits at h link kind =
    let now : List Constant = set pool j (with_text text k) in
    let keeps = keeps_changed pool j text k at h kind in
    let such =
    changed_in (IsConstant pool) (IsConstant now) (λ x c. (c.0, link_kept pool now keeps x c.1)) k (with_text text k) (is_like text k h) (λ c. (whole_with text fits k h c.0, link_kept pool now keeps (with_text text k) link))
    good.constants j good.each (sym (ap (λ (t : List Constant). slice_get t j) good.indexes) ∙ at) in
    record {
      constants = such.constants;
      indexes = ap (λ (t : List Constant). set t j (with_text text k)) good.indexes ∙ such.is;
      each = such.each;
      count = omega (arith, good.count, length-set pool j (with_text text k));
    }

pub redirected_is_pool : RedirectedIsPool
redirected_is_pool before now zero text good fits may kind r = let at = r.at in absurd cc
redirected_is_pool before now (suc j) text good fits may kind r =
    let n : suc j - 1 ≡ j = omega arith in
    let both : HasText r.constant × IsLinked before (with_text text r.constant) = subst (λ (o : Option Constant). IsSomeAnd o (λ k. HasText k × IsLinked before (with_text text k))) r.at may in
    let is : now ≡ set before j (with_text text r.constant) = r.changed ∙ ap (λ (i : ℕ). set before i (with_text text r.constant)) n in
    subst IsPool (sym is) (changed_is_pool before j text r.constant good fits r.at both.0 both.1 kind)
