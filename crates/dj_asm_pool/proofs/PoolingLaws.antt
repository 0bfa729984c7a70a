-- The pool as entries are put in it: keys, constants and entries are as many and stand alike.
use Rattle.std.proofs.Common.{◌≡◌, ℕ, suc, ◌+◌, ◌≤◌, inl, inr, true, not, cond, List, [], ◌∷◌, ◌++◌, length, map, take, get_or, Contains, Option, Some, refl, sym, ap, ◌∙◌, subst, arith, unwrap_or}
use Rattle.std.specs.Prelude.{option_and_then}
use Rattle.std.specs.List.{AllByRecursion, prefix_len}
use Rattle.std.proofs.lemmas.Bool.{cases_Bool, false≢true}
use Rattle.std.proofs.lemmas.List.Elements.{Contains-append_left}
use Rattle.std.specs.Cmp.Lexicographic.{bytes_decides}
use Rattle.dj_names.specs.trusted.Types.{Name, same_name}
use Rattle.dj_pool.specs.trusted.Pool as pool
use Rattle.dj_pool.specs.trusted.Pool.{Constant, takes_two, indexed, constant_at, text_of, class_text_of, names_of, both, text_at, class_name_at, name_and_type_at}
use Rattle.dj_asm_pool.specs.declared.key.Key.{Key}
use Rattle.dj_asm_pool.specs.declared.key.Key.TheVariants as keys
use Rattle.dj_asm_pool.specs.Keys.{most_next}
use Rattle.dj_asm_pool.specs.trusted.Entries.{Entry, Utf8, Integer, Long, Class, Text, NameAndType, Field, Method, InterfaceMethod, Dynamic, same_entry, width, widths, before, index_of, constant_of, pool_of}
use Rattle.dj_asm_pool.specs.Pooling.{IsNumberOf, constant_of_key, constants_of, entry_in, entries_in, named_by, HasNumber, HasIndex, AreKeysOf, keyed_entries}
use Rattle.dj_asm_pool.proofs.Members.{none_in, in_here, in_rest, in_cases, each_in, each_from}
use Rattle.dj_asm_pool.proofs.EntryLaws.{same_is, same_itself, constant_found, index_is}

-- ---- lists

module _ {A : Type 0} where
  abbrev rest_of : List A → List A
  rest_of [] = []
  rest_of (x ∷ xs) = xs

  -- the element after a prefix
  at_seam : (prefix back : List A) (x d : A) → get_or (prefix ++ x ∷ back) (length prefix) d ≡ x
  at_seam [] back x d = refl
  at_seam (y ∷ prefix) back x d = at_seam prefix back x d

  before_seam : (prefix back more : List A) (x d : A) → get_or ((prefix ++ x ∷ back) ++ more) (length prefix) d ≡ x
  before_seam [] back more x d = refl
  before_seam (y ∷ prefix) back more x d = before_seam prefix back more x d

  join : (prefix back more : List A) (x : A) → (prefix ++ x ∷ back) ++ more ≡ prefix ++ x ∷ (back ++ more)
  join [] back more x = refl
  join (y ∷ prefix) back more x = ap (λ l. y ∷ l) (join prefix back more x)

head_is : {B : Type 0} (d : B) (y z : B) (ys zs : List B) → y ∷ ys ≡ z ∷ zs → y ≡ z
head_is d y z ys zs e = ap (λ l. get_or l 0 d) e

module _ {A B : Type 0} where
  pub map_alike : (f g : A → B) (xs : List A) → ((x : A) → Contains xs x → f x ≡ g x) → map f xs ≡ map g xs
  map_alike f g [] same = refl
  map_alike f g (x ∷ xs) same = ap (λ y. y ∷ map f xs) (same x (in_here x xs)) ∙ ap (λ l. g x ∷ l) (map_alike f g xs (λ y h. same y (in_rest x xs y h)))

  map_back : (f : A → B) (g : B → A) (xs : List A) → ((x : A) → Contains xs x → g (f x) ≡ x) → map g (map f xs) ≡ xs
  map_back f g [] same = refl
  map_back f g (x ∷ xs) same = ap (λ y. y ∷ map g (map f xs)) (same x (in_here x xs)) ∙ ap (λ l. x ∷ l) (map_back f g xs (λ y h. same y (in_rest x xs y h)))

  pub map_seam : (f : A → B) (prefix back : List A) (x : A) → map f (prefix ++ x ∷ back) ≡ map f prefix ++ f x ∷ map f back
  map_seam f [] back x = refl
  map_seam f (y ∷ prefix) back x = ap (λ l. f y ∷ l) (map_seam f prefix back x)

  -- where an image stands there stands an element
  pub record Seam (f : A → B) (xs : List A) (prefix : List B) (y : B) : Type 0 where
    pub first : List A
    pub middle : A
    pub last : List A
    pub parts : xs ≡ first ++ middle ∷ last
    pub prefix_is : map f first ≡ prefix
    pub image : f middle ≡ y

  pub seam_in : (f : A → B) (xs : List A) (prefix back : List B) (y : B) → map f xs ≡ prefix ++ y ∷ back → Seam f xs prefix y
  seam_in f [] [] back y e = absurd (let n = ap length e in omega (arith, n))
  seam_in f [] (z ∷ prefix) back y e = absurd (let n = ap length e in omega (arith, n))
  seam_in f (x ∷ xs) [] back y e = record { first = []; middle = x; last = xs; parts = refl; prefix_is = refl; image = head_is y (f x) y (map f xs) back e }
  seam_in f (x ∷ xs) (z ∷ prefix) back y e =
      let s = seam_in f xs prefix back y (ap rest_of e) in
      record {
        first = x ∷ s.first;
        middle = s.middle;
        last = s.last;
        parts = ap (λ l. x ∷ l) s.parts;
        prefix_is = ap (λ l. f x ∷ l) s.prefix_is ∙ ap (λ w. w ∷ prefix) (head_is y (f x) z (map f xs) (prefix ++ y ∷ back) e);
        image = s.image;
      }

-- ---- the numbers of texts

abbrev number_in : List Name → Name → ℕ
number_in texts text = prefix_len (λ other. not (same_name other text)) texts

number_first : (prefix back : List Name) (text : Name) → (Contains prefix text → ⊥) → number_in (prefix ++ text ∷ back) text ≡ length prefix
number_first [] back text absent = ap (λ b. cond (not b) (1 + number_in back text) 0) ((bytes_decides text text).1 refl)
number_first (other ∷ prefix) back text absent = elim (cases_Bool (same_name other text)) [
  | inl so ↦ absurd (absent (subst (λ t. Contains (other ∷ prefix) t) ((bytes_decides other text).0 so) (in_here other prefix)))
  | inr unlike ↦
      let rest = number_first prefix back text (λ h. absent (in_rest other prefix text h)) in
      let one : 1 + length prefix ≡ suc (length prefix) = omega arith in
      ap (λ b. cond (not b) (1 + number_in (prefix ++ text ∷ back) text) 0) unlike ∙ (ap (λ (n : ℕ). 1 + n) rest ∙ one)
]

number_is_first : (texts : List Name) (text : Name) (n : ℕ) → IsNumberOf texts text n → number_in texts text ≡ n
number_is_first texts text n h = ap (λ l. number_in l text) h.parts ∙ (number_first h.prefix h.back text h.absent ∙ sym h.number_is)

pub text_is : (texts : List Name) (text : Name) (n : ℕ) → IsNumberOf texts text n → get_or texts n [] ≡ text
text_is texts text n h = ap (λ l. get_or l n []) h.parts ∙ (ap (λ (k : ℕ). get_or (h.prefix ++ text ∷ h.back) k []) h.number_is ∙ at_seam h.prefix h.back text [])

pub number_stays : (texts more : List Name) (text : Name) (n : ℕ) → IsNumberOf texts text n → IsNumberOf (texts ++ more) text n
number_stays texts more text n h =
    record { prefix = h.prefix; back = h.back ++ more; parts = ap (λ l. l ++ more) h.parts ∙ join h.prefix h.back more text; absent = h.absent; number_is = h.number_is }

-- a new text has the next number
pub new_number : (texts : List Name) (text : Name) → (Contains texts text → ⊥) → IsNumberOf (texts ++ text ∷ []) text (length texts)
new_number texts text absent = record { prefix = texts; back = []; parts = refl; absent = absent; number_is = refl }

-- ---- keys and constants

abbrev key_back : List Name → Constant → Key
key_back texts (pool.Utf8 text) = keys.Utf8 (number_in texts text)
key_back texts (pool.Integer n) = keys.Integer n
key_back texts (pool.Long n) = keys.Long n
key_back texts (pool.Class name) = keys.Class name
key_back texts (pool.Text text) = keys.Text text
key_back texts (pool.NameAndType name desc) = keys.NameAndType name desc
key_back texts (pool.Field class names) = keys.Field class names
key_back texts (pool.Method class names) = keys.Method class names
key_back texts (pool.InterfaceMethod class names) = keys.InterfaceMethod class names
key_back texts (pool.Dynamic place names) = keys.Dynamic place names
key_back texts constant = keys.Class 0

back_is : (texts : List Name) (key : Key) → HasNumber texts key → key_back texts (constant_of_key texts key) ≡ key
back_is texts (keys.Utf8 n) h = ap (λ t. keys.Utf8 (number_in texts t)) (text_is texts h.0 n h.1) ∙ ap keys.Utf8 (number_is_first texts h.0 n h.1)
back_is texts (keys.Integer n) h = refl
back_is texts (keys.Long n) h = refl
back_is texts (keys.Class name) h = refl
back_is texts (keys.Text text) h = refl
back_is texts (keys.NameAndType name desc) h = refl
back_is texts (keys.Field class names) h = refl
back_is texts (keys.Method class names) h = refl
back_is texts (keys.InterfaceMethod class names) h = refl
back_is texts (keys.Dynamic place names) h = refl

pub same_keys : (texts : List Name) (a b : Key) → HasNumber texts a → HasNumber texts b → constant_of_key texts a ≡ constant_of_key texts b → a ≡ b
same_keys texts a b h k e = sym (back_is texts a h) ∙ (ap (key_back texts) e ∙ back_is texts b k)

pub number_with : (texts more : List Name) (key : Key) → HasNumber texts key → HasNumber (texts ++ more) key
number_with texts more (keys.Utf8 n) h = (h.0, number_stays texts more h.0 n h.1)
number_with texts more (keys.Integer n) h = tt
number_with texts more (keys.Long n) h = tt
number_with texts more (keys.Class name) h = tt
number_with texts more (keys.Text text) h = tt
number_with texts more (keys.NameAndType name desc) h = tt
number_with texts more (keys.Field class names) h = tt
number_with texts more (keys.Method class names) h = tt
number_with texts more (keys.InterfaceMethod class names) h = tt
number_with texts more (keys.Dynamic place names) h = tt

pub constant_with : (texts more : List Name) (key : Key) → HasNumber texts key → constant_of_key (texts ++ more) key ≡ constant_of_key texts key
constant_with texts more (keys.Utf8 n) h = ap pool.Utf8 (text_is (texts ++ more) h.0 n (number_stays texts more h.0 n h.1) ∙ sym (text_is texts h.0 n h.1))
constant_with texts more (keys.Integer n) h = refl
constant_with texts more (keys.Long n) h = refl
constant_with texts more (keys.Class name) h = refl
constant_with texts more (keys.Text text) h = refl
constant_with texts more (keys.NameAndType name desc) h = refl
constant_with texts more (keys.Field class names) h = refl
constant_with texts more (keys.Method class names) h = refl
constant_with texts more (keys.InterfaceMethod class names) h = refl
constant_with texts more (keys.Dynamic place names) h = refl

-- ---- indexes

first_before : (prefix back : List Entry) (e : Entry) → (Contains prefix e → ⊥) → before (prefix ++ e ∷ back) e ≡ prefix
first_before [] back e absent = ap (λ b. take (cond (not b) (1 + prefix_len (λ other. not (same_entry other e)) back) 0) (e ∷ back)) (same_itself e)
first_before (x ∷ prefix) back e absent = elim (cases_Bool (same_entry x e)) [
  | inl so ↦ absurd (absent (subst (λ y. Contains (x ∷ prefix) y) (same_is x e so) (in_here x prefix)))
  | inr unlike ↦
      let n = prefix_len (λ other. not (same_entry other e)) (prefix ++ e ∷ back) in
      let one : 1 + n ≡ suc n = omega arith in
      ap (λ b. take (cond (not b) (1 + n) 0) (x ∷ (prefix ++ e ∷ back))) unlike
      ∙ (ap (λ (k : ℕ). take k (x ∷ (prefix ++ e ∷ back))) one ∙ ap (λ l. x ∷ l) (first_before prefix back e (λ h. absent (in_rest x prefix e h))))
]

all_before : (es : List Entry) (e : Entry) → (Contains es e → ⊥) → before es e ≡ es
all_before [] e absent = refl
all_before (x ∷ es) e absent = elim (cases_Bool (same_entry x e)) [
  | inl so ↦ absurd (absent (subst (λ y. Contains (x ∷ es) y) (same_is x e so) (in_here x es)))
  | inr unlike ↦
      let n = prefix_len (λ other. not (same_entry other e)) es in
      let one : 1 + n ≡ suc n = omega arith in
      ap (λ b. take (cond (not b) (1 + n) 0) (x ∷ es)) unlike
      ∙ (ap (λ (k : ℕ). take k (x ∷ es)) one ∙ ap (λ l. x ∷ l) (all_before es e (λ h. absent (in_rest x es e h))))
]

before_stays : (es more : List Entry) (e : Entry) → Contains es e → before (es ++ more) e ≡ before es e
before_stays [] more e h = absurd (none_in e h)
before_stays (x ∷ es) more e h = elim (cases_Bool (same_entry x e)) [
  | inl so ↦
      ap (λ b. take (cond (not b) (1 + prefix_len (λ other. not (same_entry other e)) (es ++ more)) 0) (x ∷ (es ++ more))) so
      ∙ sym (ap (λ b. take (cond (not b) (1 + prefix_len (λ other. not (same_entry other e)) es) 0) (x ∷ es)) so)
  | inr unlike ↦ elim (in_cases x es e h) [
    | inl same ↦ absurd (false≢true (sym unlike ∙ subst (λ y. same_entry x y ≡ true) same (same_itself x)))
    | inr in_es ↦
        let n = prefix_len (λ other. not (same_entry other e)) (es ++ more) in
        let m = prefix_len (λ other. not (same_entry other e)) es in
        let one : 1 + n ≡ suc n = omega arith in
        let two : suc m ≡ 1 + m = omega arith in
        ap (λ b. take (cond (not b) (1 + n) 0) (x ∷ (es ++ more))) unlike
        ∙ (ap (λ (k : ℕ). take k (x ∷ (es ++ more))) one
        ∙ (ap (λ l. x ∷ l) (before_stays es more e in_es)
        ∙ (ap (λ (k : ℕ). take k (x ∷ es)) two ∙ sym (ap (λ b. take (cond (not b) (1 + m) 0) (x ∷ es)) unlike))))
  ]
]

pub index_stays : (es more : List Entry) (e : Entry) → Contains es e → index_of (es ++ more) e ≡ index_of es e
index_stays es more e h = index_is (es ++ more) e ∙ (ap (λ l. 1 + widths l) (before_stays es more e h) ∙ sym (index_is es e))

pub index_absent : (es : List Entry) (e : Entry) → (Contains es e → ⊥) → index_of es e ≡ 1 + widths es
index_absent es e absent = index_is es e ∙ ap (λ l. 1 + widths l) (all_before es e absent)

pub index_first : (es prefix back : List Entry) (e : Entry) → es ≡ prefix ++ e ∷ back → (Contains prefix e → ⊥) → index_of es e ≡ 1 + widths prefix
index_first es prefix back e parts absent = index_is es e ∙ ap (λ l. 1 + widths l) (ap (λ l. before l e) parts ∙ first_before prefix back e absent)

pub has_index_with : (es more : List Entry) (e : Entry) → HasIndex es e → HasIndex (es ++ more) e
has_index_with es more e h = (Contains-append_left es more e h.0, subst (λ (n : ℕ). n + width e ≤ most_next) (sym (index_stays es more e h.0)) h.1)

-- ---- constants of entries

pub same_constant : (f g : Entry → ℕ) (e : Entry) → AllByRecursion (λ part. f part ≡ g part) (named_by e) → constant_of f e ≡ constant_of g e
same_constant f g (Utf8 text) h = refl
same_constant f g (Integer n) h = refl
same_constant f g (Long n) h = refl
same_constant f g (Class name) h = ap pool.Class h.0
same_constant f g (Text text) h = ap pool.Text h.0
same_constant f g (NameAndType name desc) h = ap (λ n. pool.NameAndType n (f (Utf8 desc))) h.0 ∙ ap (pool.NameAndType (g (Utf8 name))) h.1.0
same_constant f g (Field class name desc) h = ap (λ n. pool.Field n (f (NameAndType name desc))) h.0 ∙ ap (pool.Field (g (Class class))) h.1.0
same_constant f g (Method class name desc) h = ap (λ n. pool.Method n (f (NameAndType name desc))) h.0 ∙ ap (pool.Method (g (Class class))) h.1.0
same_constant f g (InterfaceMethod class name desc) h = ap (λ n. pool.InterfaceMethod n (f (NameAndType name desc))) h.0 ∙ ap (pool.InterfaceMethod (g (Class class))) h.1.0
same_constant f g (Dynamic place name desc) h = ap (pool.Dynamic place) h.0

pub constant_stays : (es more : List Entry) (e : Entry) → AllByRecursion (HasIndex es) (named_by e) → constant_of (index_of (es ++ more)) e ≡ constant_of (index_of es) e
constant_stays es more e named =
    same_constant (index_of (es ++ more)) (index_of es) e
    (each_from (λ part. index_of (es ++ more) part ≡ index_of es part) (named_by e) (λ part h. index_stays es more part (each_in (HasIndex es) (named_by e) part named h).0))

abbrev Closed : List Entry → Type 0
Closed es = (e : Entry) → Contains es e → AllByRecursion (HasIndex es) (named_by e)

pub constants_with : (es : List Entry) (e : Entry) → Closed es → AllByRecursion (HasIndex es) (named_by e) → constants_of (es ++ e ∷ []) ≡ constants_of es ++ constant_of (index_of es) e ∷ []
constants_with es e closed named =
    map_seam (constant_of (index_of (es ++ e ∷ []))) es [] e
    ∙ (ap (λ l. l ++ constant_of (index_of (es ++ e ∷ [])) e ∷ []) (map_alike (constant_of (index_of (es ++ e ∷ []))) (constant_of (index_of es)) es (λ x h. constant_stays es (e ∷ []) x (closed x h)))
    ∙ ap (λ k. constants_of es ++ k ∷ []) (constant_stays es (e ∷ []) e named))

-- ---- constants stand for their entries

module _ (es : List Entry) (closed : Closed es) where
  text_found : (text : Name) → Contains es (Utf8 text) → text_at (pool_of es) (index_of es (Utf8 text)) ≡ Some text
  text_found text h = ap (λ r. option_and_then text_of r) (constant_found es (Utf8 text) h)

  class_found : (name : Name) → Contains es (Class name) → class_name_at (pool_of es) (index_of es (Class name)) ≡ Some name
  class_found name h =
      ap (λ r. option_and_then (text_at (pool_of es)) (option_and_then class_text_of r)) (constant_found es (Class name) h)
      ∙ text_found name (closed (Class name) h).0.0

  names_found : (name desc : Name) → Contains es (NameAndType name desc) → name_and_type_at (pool_of es) (index_of es (NameAndType name desc)) ≡ Some (name, desc)
  names_found name desc h =
      let named = closed (NameAndType name desc) h in
      ap (λ r. option_and_then (λ (n : ℕ × ℕ). both (text_at (pool_of es) n.0) (text_at (pool_of es) n.1)) (option_and_then names_of r)) (constant_found es (NameAndType name desc) h)
      ∙ (ap (λ r. both r (text_at (pool_of es) (index_of es (Utf8 desc)))) (text_found name named.0.0) ∙ ap (λ r. both (Some name) r) (text_found desc named.1.0.0))

  abbrev member_found : (Name → Name → Name → Entry) → Name → Name → Name → Type 0
  member_found Made class name desc =
      Made (unwrap_or (class_name_at (pool_of es) (index_of es (Class class))) [])
      (unwrap_or (name_and_type_at (pool_of es) (index_of es (NameAndType name desc))) ([], [])).0
      (unwrap_or (name_and_type_at (pool_of es) (index_of es (NameAndType name desc))) ([], [])).1 ≡ Made class name desc

  member_stands : (Made : Name → Name → Name → Entry) (class name desc : Name) → Contains es (Class class) → Contains es (NameAndType name desc) → member_found Made class name desc
  member_stands Made class name desc h k =
      ap (λ r. Made (unwrap_or r []) (unwrap_or (name_and_type_at (pool_of es) (index_of es (NameAndType name desc))) ([], [])).0 (unwrap_or (name_and_type_at (pool_of es) (index_of es (NameAndType name desc))) ([], [])).1) (class_found class h)
      ∙ ap (λ (r : Option (Name × Name)). Made class (unwrap_or r ([], [])).0 (unwrap_or r ([], [])).1) (names_found name desc k)

  pub stands_for : (e : Entry) → AllByRecursion (HasIndex es) (named_by e) → entry_in (pool_of es) (constant_of (index_of es) e) ≡ e
  stands_for (Utf8 text) h = refl
  stands_for (Integer n) h = refl
  stands_for (Long n) h = refl
  stands_for (Class name) h = ap (λ r. Class (unwrap_or r [])) (text_found name h.0.0)
  stands_for (Text text) h = ap (λ r. Text (unwrap_or r [])) (text_found text h.0.0)
  stands_for (NameAndType name desc) h =
      ap (λ r. NameAndType (unwrap_or r []) (unwrap_or (text_at (pool_of es) (index_of es (Utf8 desc))) [])) (text_found name h.0.0)
      ∙ ap (λ r. NameAndType name (unwrap_or r [])) (text_found desc h.1.0.0)
  stands_for (Field class name desc) h = member_stands Field class name desc h.0.0 h.1.0.0
  stands_for (Method class name desc) h = member_stands Method class name desc h.0.0 h.1.0.0
  stands_for (InterfaceMethod class name desc) h = member_stands InterfaceMethod class name desc h.0.0 h.1.0.0
  stands_for (Dynamic place name desc) h = ap (λ (r : Option (Name × Name)). Dynamic place (unwrap_or r ([], [])).0 (unwrap_or r ([], [])).1) (names_found name desc h.0.0)

  pub same_entries : (a b : Entry) → AllByRecursion (HasIndex es) (named_by a) → AllByRecursion (HasIndex es) (named_by b) → constant_of (index_of es) a ≡ constant_of (index_of es) b → a ≡ b
  same_entries a b h k same = sym (stands_for a h) ∙ (ap (entry_in (pool_of es)) same ∙ stands_for b k)

  pub entries_back : entries_in (constants_of es) ≡ es
  entries_back = map_back (constant_of (index_of es)) (entry_in (pool_of es)) es (λ e h. stands_for e (closed e h))

pub keyed_are : (texts : List Name) (ks : List Key) (es : List Entry) → AreKeysOf texts ks es → keyed_entries texts ks ≡ es
keyed_are texts ks es h = ap entries_in h.constants ∙ entries_back es h.closed
