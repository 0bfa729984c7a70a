-- Entries that are put one after the other.
use Rattle.std.proofs.Common.{◌≡◌, ℕ, List, [], ◌∷◌, ◌++◌, length, Contains, Option, Some, None, Result, Ok, Err, IfOk, refl, sym, ap, ◌∙◌, subst}
use Rattle.std.specs.List.{AllByRecursion}
use Rattle.std.proofs.lemmas.List.Elements.{Contains-append_left, Contains-append_right}
use Rattle.dj_names.specs.trusted.Types.{Name}
use Rattle.dj_pool.specs.trusted.Pool as pool
use Rattle.dj_asm_pool.specs.declared.key.Key.{Key}
use Rattle.dj_asm_pool.specs.declared.key.Key.TheVariants as keys
use Rattle.dj_asm_pool.specs.Keys.{IsPlaced, AddsKey}
use Rattle.dj_asm_pool.specs.trusted.Entries.{Entry, Utf8, Class, Text, NameAndType, Field, Method, InterfaceMethod, Dynamic, class_with_parts, names_with_parts, with_parts, index_of, constant_of}
use Rattle.dj_asm_pool.specs.Pooling.{IsNumberOf, constant_of_key, constants_in, entries_in, named_by, kept, all_kept, HasNumber, HasIndex, AreKeysOf, keyed_entries, IsFull, PutsOne, IsNoText, IsKeyOf, PutsAll, Stops, Puts, PutsPair, member_parts}
use Rattle.dj_asm_pool.proofs.Members.{in_here, each_in, each_from, each_append}
use Rattle.dj_asm_pool.proofs.PoolingLaws.{map_alike, text_is, new_number, number_with, constant_with, index_stays, keyed_are}
use Rattle.dj_asm_pool.proofs.PoolSteps.{kept_full, kept_with, kept_index, step}

-- ---- lists of entries

pub kept_append : (es xs ys : List Entry) → all_kept es (xs ++ ys) ≡ all_kept (all_kept es xs) ys
kept_append es [] ys = refl
kept_append es (x ∷ xs) ys = kept_append (kept es x) xs ys

pub all_index : (es xs : List Entry) (e : Entry) → HasIndex es e → HasIndex (all_kept es xs) e
all_index es [] e h = h
all_index es (x ∷ xs) e h = all_index (kept es x) xs e (kept_index es x e h)

pub same_index : (es xs : List Entry) (e : Entry) → HasIndex es e → index_of (all_kept es xs) e ≡ index_of es e
same_index es [] e h = refl
same_index es (x ∷ xs) e h =
    same_index (kept es x) xs e (kept_index es x e h) ∙ kept_with (λ l. index_of l e ≡ index_of es e) es x refl (index_stays es (x ∷ []) e h.0)

pub all_full : (es xs : List Entry) → IsFull es → all_kept es xs ≡ es
all_full es [] full = refl
all_full es (x ∷ xs) full = ap (λ l. all_kept l xs) (kept_full es x full) ∙ all_full es xs full

pub then_put : (a xs b ys c : List Entry) → PutsAll a xs b → PutsAll b ys c → PutsAll a (xs ++ ys) c
then_put a xs b ys c h k = (
  k.0 ∙ (ap (λ l. all_kept l ys) h.0 ∙ sym (kept_append a xs ys)),
  each_append (HasIndex c) xs ys (each_from (HasIndex c) xs (λ e is. subst (λ l. HasIndex l e) (sym k.0) (all_index b ys e (each_in (HasIndex b) xs e h.1 is)))) k.1,
)

pub then_stop : (a xs b ys c : List Entry) → PutsAll a xs b → Stops b ys c → Stops a (xs ++ ys) c
then_stop a xs b ys c h k =
    let one = k.1.0 in (
      k.0 ∙ (ap (λ l. all_kept l ys) h.0 ∙ sym (kept_append a xs ys)),
      (record { entry = one.entry; among = Contains-append_right xs ys one.entry one.among; past = one.past }, k.1.1),
    )

pub stop_more : (a xs b ys : List Entry) → Stops a xs b → Stops a (xs ++ ys) b
stop_more a xs b ys k =
    let one = k.1.0 in (
      sym (kept_append a xs ys ∙ (ap (λ l. all_kept l ys) (sym k.0) ∙ all_full b ys k.1.1)),
      (record { entry = one.entry; among = Contains-append_left xs ys one.entry one.among; past = one.past }, k.1.1),
    )

index_then : (b ys c : List Entry) (e : Entry) (i : ℕ) → PutsAll b ys c → HasIndex b e → i ≡ index_of b e → i ≡ index_of c e
index_then b ys c e i k h is = is ∙ (sym (same_index b ys e h) ∙ ap (λ l. index_of l e) (sym k.0))

one_put : (a : List Entry) (e : Entry) (b : List Entry) (i : ℕ) → PutsOne a e b (Some i) → PutsAll a (e ∷ []) b
one_put a e b i p = (p.0, (p.1.1, tt))

one_stop : (a : List Entry) (e : Entry) (b : List Entry) → PutsOne a e b None → Stops a (e ∷ []) b
one_stop a e b p = (p.0, (record { entry = e; among = in_here e []; past = p.1.0 }, p.1.1))

-- an entry is put after its parts
pub last_put : (a xs b : List Entry) (e : Entry) (c : List Entry) (answer : Option ℕ) → with_parts e ≡ xs ++ e ∷ [] → PutsAll a xs b → PutsOne b e c answer → Puts a e c answer
last_put a xs b e c (Some i) parts h p = (subst (λ l. PutsAll a l c) (sym parts) (then_put a xs b (e ∷ []) c h (one_put b e c i p)), p.1.0)
last_put a xs b e c None parts h p = subst (λ l. Stops a l c) (sym parts) (then_stop a xs b (e ∷ []) c h (one_stop b e c p))

pub alone : (a : List Entry) (e : Entry) (b : List Entry) (answer : Option ℕ) → with_parts e ≡ e ∷ [] → PutsOne a e b answer → Puts a e b answer
alone a e b answer parts p = last_put a [] a e b answer parts (refl, tt) p

-- ---- by calls

pub class_put : (a b c : List Entry) (name : Name) (i : ℕ) (answer : Option ℕ) → PutsOne a (Utf8 name) b (Some i) → PutsOne b (Class name) c answer → Puts a (Class name) c answer
class_put a b c name i answer p q = last_put a (Utf8 name ∷ []) b (Class name) c answer refl (one_put a (Utf8 name) b i p) q

pub class_key : (a b : List Entry) (name : Name) (i : ℕ) → PutsOne a (Utf8 name) b (Some i) → IsKeyOf b (keys.Class i) (Class name)
class_key a b name i p = record { no_text = tt; constant = ap pool.Class p.1.0; named = (p.1.1, tt) }

pub class_stop : (a b : List Entry) (name : Name) → PutsOne a (Utf8 name) b None → Puts a (Class name) b None
class_stop a b name p = stop_more a (Utf8 name ∷ []) b (Class name ∷ []) (one_stop a (Utf8 name) b p)

pub string_put : (a b c : List Entry) (text : Name) (i : ℕ) (answer : Option ℕ) → PutsOne a (Utf8 text) b (Some i) → PutsOne b (Text text) c answer → Puts a (Text text) c answer
string_put a b c text i answer p q = last_put a (Utf8 text ∷ []) b (Text text) c answer refl (one_put a (Utf8 text) b i p) q

pub string_key : (a b : List Entry) (text : Name) (i : ℕ) → PutsOne a (Utf8 text) b (Some i) → IsKeyOf b (keys.Text i) (Text text)
string_key a b text i p = record { no_text = tt; constant = ap pool.Text p.1.0; named = (p.1.1, tt) }

pub string_stop : (a b : List Entry) (text : Name) → PutsOne a (Utf8 text) b None → Puts a (Text text) b None
string_stop a b text p = stop_more a (Utf8 text ∷ []) b (Text text ∷ []) (one_stop a (Utf8 text) b p)

pub texts_put : (a b c : List Entry) (name desc : Name) (i j : ℕ) → PutsOne a (Utf8 name) b (Some i) → PutsOne b (Utf8 desc) c (Some j)
    → PutsPair a (Utf8 name ∷ Utf8 desc ∷ []) (Utf8 name) (Utf8 desc) c (Some (i, j))
texts_put a b c name desc i j p q =
    let second = one_put b (Utf8 desc) c j q in (
      then_put a (Utf8 name ∷ []) b (Utf8 desc ∷ []) c (one_put a (Utf8 name) b i p) second,
      (index_then b (Utf8 desc ∷ []) c (Utf8 name) i second p.1.1 p.1.0, q.1.0),
    )

pub texts_stop_last : (a b c : List Entry) (name desc : Name) (i : ℕ) → PutsOne a (Utf8 name) b (Some i) → PutsOne b (Utf8 desc) c None → PutsPair a (Utf8 name ∷ Utf8 desc ∷ []) (Utf8 name) (Utf8 desc) c None
texts_stop_last a b c name desc i p q = then_stop a (Utf8 name ∷ []) b (Utf8 desc ∷ []) c (one_put a (Utf8 name) b i p) (one_stop b (Utf8 desc) c q)

pub texts_stop : (a b : List Entry) (name desc : Name) → PutsOne a (Utf8 name) b None → PutsPair a (Utf8 name ∷ Utf8 desc ∷ []) (Utf8 name) (Utf8 desc) b None
texts_stop a b name desc p = stop_more a (Utf8 name ∷ []) b (Utf8 desc ∷ []) (one_stop a (Utf8 name) b p)

abbrev pub PutsTexts : List Entry → Name → Name → List Entry → Option (ℕ × ℕ) → Type 0
PutsTexts a name desc b answer = PutsPair a (Utf8 name ∷ Utf8 desc ∷ []) (Utf8 name) (Utf8 desc) b answer

pub names_key : (a b : List Entry) (name desc : Name) (i j : ℕ) → PutsTexts a name desc b (Some (i, j)) → IsKeyOf b (keys.NameAndType i j) (NameAndType name desc)
names_key a b name desc i j p = record {
  no_text = tt;
  constant = ap (λ (n : ℕ). pool.NameAndType n j) p.1.0 ∙ ap (pool.NameAndType (index_of b (Utf8 name))) p.1.1;
  named = p.0.1;
}

pub names_put : (a b c : List Entry) (name desc : Name) (i j : ℕ) (answer : Option ℕ) → PutsTexts a name desc b (Some (i, j)) → PutsOne b (NameAndType name desc) c answer → Puts a (NameAndType name desc) c answer
names_put a b c name desc i j answer p q = last_put a (Utf8 name ∷ Utf8 desc ∷ []) b (NameAndType name desc) c answer refl p.0 q

pub names_stop : (a b : List Entry) (name desc : Name) → PutsTexts a name desc b None → Puts a (NameAndType name desc) b None
names_stop a b name desc p = stop_more a (Utf8 name ∷ Utf8 desc ∷ []) b (NameAndType name desc ∷ []) p

abbrev pub PutsMember : List Entry → Name → Name → Name → List Entry → Option (ℕ × ℕ) → Type 0
PutsMember a class name desc b answer = PutsPair a (member_parts class name desc) (Class class) (NameAndType name desc) b answer

pub member_put : (a b c : List Entry) (class name desc : Name) (i j : ℕ) → Puts a (Class class) b (Some i) → Puts b (NameAndType name desc) c (Some j) → PutsMember a class name desc c (Some (i, j))
member_put a b c class name desc i j p q = (
  then_put a (class_with_parts class) b (names_with_parts name desc) c p.0 q.0,
  (index_then b (names_with_parts name desc) c (Class class) i q.0 p.0.1.1.0 p.1, q.1),
)

pub member_stop_last : (a b c : List Entry) (class name desc : Name) (i : ℕ) → Puts a (Class class) b (Some i) → Puts b (NameAndType name desc) c None → PutsMember a class name desc c None
member_stop_last a b c class name desc i p q = then_stop a (class_with_parts class) b (names_with_parts name desc) c p.0 q

pub member_stop : (a b : List Entry) (class name desc : Name) → Puts a (Class class) b None → PutsMember a class name desc b None
member_stop a b class name desc p = stop_more a (class_with_parts class) b (names_with_parts name desc) p

pub field_key : (a b : List Entry) (class name desc : Name) (i j : ℕ) → PutsMember a class name desc b (Some (i, j)) → IsKeyOf b (keys.Field i j) (Field class name desc)
field_key a b class name desc i j p = record {
  no_text = tt;
  constant = ap (λ (n : ℕ). pool.Field n j) p.1.0 ∙ ap (pool.Field (index_of b (Class class))) p.1.1;
  named = (p.0.1.1.0, (p.0.1.1.1.1.1.0, tt));
}

pub field_put : (a b c : List Entry) (class name desc : Name) (i j : ℕ) (answer : Option ℕ) → PutsMember a class name desc b (Some (i, j)) → PutsOne b (Field class name desc) c answer → Puts a (Field class name desc) c answer
field_put a b c class name desc i j answer p q = last_put a (member_parts class name desc) b (Field class name desc) c answer refl p.0 q

pub field_stop : (a b : List Entry) (class name desc : Name) → PutsMember a class name desc b None → Puts a (Field class name desc) b None
field_stop a b class name desc p = stop_more a (member_parts class name desc) b (Field class name desc ∷ []) p

pub method_key : (a b : List Entry) (class name desc : Name) (i j : ℕ) → PutsMember a class name desc b (Some (i, j)) → IsKeyOf b (keys.Method i j) (Method class name desc)
method_key a b class name desc i j p = record {
  no_text = tt;
  constant = ap (λ (n : ℕ). pool.Method n j) p.1.0 ∙ ap (pool.Method (index_of b (Class class))) p.1.1;
  named = (p.0.1.1.0, (p.0.1.1.1.1.1.0, tt));
}

pub method_put : (a b c : List Entry) (class name desc : Name) (i j : ℕ) (answer : Option ℕ) → PutsMember a class name desc b (Some (i, j)) → PutsOne b (Method class name desc) c answer → Puts a (Method class name desc) c answer
method_put a b c class name desc i j answer p q = last_put a (member_parts class name desc) b (Method class name desc) c answer refl p.0 q

pub method_stop : (a b : List Entry) (class name desc : Name) → PutsMember a class name desc b None → Puts a (Method class name desc) b None
method_stop a b class name desc p = stop_more a (member_parts class name desc) b (Method class name desc ∷ []) p

pub interface_key : (a b : List Entry) (class name desc : Name) (i j : ℕ) → PutsMember a class name desc b (Some (i, j)) → IsKeyOf b (keys.InterfaceMethod i j) (InterfaceMethod class name desc)
interface_key a b class name desc i j p = record {
  no_text = tt;
  constant = ap (λ (n : ℕ). pool.InterfaceMethod n j) p.1.0 ∙ ap (pool.InterfaceMethod (index_of b (Class class))) p.1.1;
  named = (p.0.1.1.0, (p.0.1.1.1.1.1.0, tt));
}

pub interface_put : (a b c : List Entry) (class name desc : Name) (i j : ℕ) (answer : Option ℕ) → PutsMember a class name desc b (Some (i, j)) → PutsOne b (InterfaceMethod class name desc) c answer → Puts a (InterfaceMethod class name desc) c answer
interface_put a b c class name desc i j answer p q = last_put a (member_parts class name desc) b (InterfaceMethod class name desc) c answer refl p.0 q

pub interface_stop : (a b : List Entry) (class name desc : Name) → PutsMember a class name desc b None → Puts a (InterfaceMethod class name desc) b None
interface_stop a b class name desc p = stop_more a (member_parts class name desc) b (InterfaceMethod class name desc ∷ []) p

pub dynamic_key : (a b : List Entry) (place : ℕ) (name desc : Name) (i : ℕ) → Puts a (NameAndType name desc) b (Some i) → IsKeyOf b (keys.Dynamic place i) (Dynamic place name desc)
dynamic_key a b place name desc i p = record { no_text = tt; constant = ap (pool.Dynamic place) p.1; named = (p.0.1.1.1.0, tt) }

pub dynamic_put : (a b c : List Entry) (place : ℕ) (name desc : Name) (i : ℕ) (answer : Option ℕ) → Puts a (NameAndType name desc) b (Some i) → PutsOne b (Dynamic place name desc) c answer → Puts a (Dynamic place name desc) c answer
dynamic_put a b c place name desc i answer p q = last_put a (names_with_parts name desc) b (Dynamic place name desc) c answer refl p.0 q

pub dynamic_stop : (a b : List Entry) (place : ℕ) (name desc : Name) → Puts a (NameAndType name desc) b None → Puts a (Dynamic place name desc) b None
dynamic_stop a b place name desc p = stop_more a (names_with_parts name desc) b (Dynamic place name desc ∷ []) p

-- ---- what the builder's fields are

-- the fields hold what they are to
abbrev pub AreFields : List Name → List Key → Type 0
AreFields texts ks = AreKeysOf texts ks (keyed_entries texts ks)

-- with more texts the keys stand for the same
pub fields_with : (texts more : List Name) (ks : List Key) → AreFields texts ks → constants_in (texts ++ more) ks ≡ constants_in texts ks
fields_with texts more ks h = map_alike (constant_of_key (texts ++ more)) (constant_of_key texts) ks (λ k is. constant_with texts more k (each_in (HasNumber texts) ks k h.numbers is))

pub entries_with : (texts more : List Name) (ks : List Key) → AreFields texts ks → keyed_entries (texts ++ more) ks ≡ keyed_entries texts ks
entries_with texts more ks h = ap entries_in (fields_with texts more ks h)

pub more_texts : (texts more : List Name) (ks : List Key) → AreFields texts ks → AreFields (texts ++ more) ks
more_texts texts more ks h =
    subst (λ l. AreKeysOf (texts ++ more) ks l) (sym (entries_with texts more ks h))
    (record {
      numbers = each_from (HasNumber (texts ++ more)) ks (λ k is. number_with texts more k (each_in (HasNumber texts) ks k h.numbers is));
      constants = fields_with texts more ks h ∙ h.constants;
      closed = h.closed;
    })

-- what a step with a key does to the fields
pub fields_step : (texts : List Name) (ks : List Key) (key : Key) (e : Entry) (ks' : List Key) (answer : Option ℕ) → AreFields texts ks → HasNumber texts key
    → AllByRecursion (HasIndex (keyed_entries texts ks)) (named_by e) → constant_of_key texts key ≡ constant_of (index_of (keyed_entries texts ks)) e → IsPlaced ks key ks' answer
    → AreFields texts ks' × PutsOne (keyed_entries texts ks) e (keyed_entries texts ks') answer
fields_step texts ks key e ks' answer h number named alike placed =
    let s = step texts ks (keyed_entries texts ks) h key e number named alike ks' answer placed in
    let is = keyed_are texts ks' (kept (keyed_entries texts ks) e) s.0 in
    (subst (λ l. AreKeysOf texts ks' l) (sym is) s.0, subst (λ l. PutsOne (keyed_entries texts ks) e l answer) (sym is) s.1)

pub no_texts : (texts : List Name) (key : Key) → IsNoText key → HasNumber texts key × (constant_of_key texts key ≡ constant_of_key [] key)
no_texts texts (keys.Utf8 n) h = absurd h
no_texts texts (keys.Integer n) h = (tt, refl)
no_texts texts (keys.Long n) h = (tt, refl)
no_texts texts (keys.Class name) h = (tt, refl)
no_texts texts (keys.Text text) h = (tt, refl)
no_texts texts (keys.NameAndType name desc) h = (tt, refl)
no_texts texts (keys.Field class names) h = (tt, refl)
no_texts texts (keys.Method class names) h = (tt, refl)
no_texts texts (keys.InterfaceMethod class names) h = (tt, refl)
no_texts texts (keys.Dynamic place names) h = (tt, refl)

-- a constant without a text of its own is put
pub add_step : (texts : List Name) (ks : List Key) (key : Key) (e : Entry) (ks' : List Key) (answer : Option ℕ) → AreFields texts ks → IsKeyOf (keyed_entries texts ks) key e → IsPlaced ks key ks' answer
    → AreFields texts ks' × PutsOne (keyed_entries texts ks) e (keyed_entries texts ks') answer
add_step texts ks key e ks' answer h of placed =
    let n = no_texts texts key of.no_text in
    fields_step texts ks key e ks' answer h n.0 of.named (n.1 ∙ of.constant) placed

-- a text that has a number is put
pub text_step : (texts : List Name) (ks : List Key) (text : Name) (number : ℕ) (ks' : List Key) (answer : Option ℕ) → AreFields texts ks → IsNumberOf texts text number → IsPlaced ks (keys.Utf8 number) ks' answer
    → AreFields texts ks' × PutsOne (keyed_entries texts ks) (Utf8 text) (keyed_entries texts ks') answer
text_step texts ks text number ks' answer h is placed =
    fields_step texts ks (keys.Utf8 number) (Utf8 text) ks' answer h (text, is) tt (ap pool.Utf8 (text_is texts text number is)) placed

-- and so is a new text
pub new_text_step : (texts : List Name) (ks : List Key) (text : Name) (ks' : List Key) (answer : Option ℕ) → AreFields texts ks → (Contains texts text → ⊥) → IsPlaced ks (keys.Utf8 (length texts)) ks' answer
    → AreFields (texts ++ text ∷ []) ks' × PutsOne (keyed_entries texts ks) (Utf8 text) (keyed_entries (texts ++ text ∷ []) ks') answer
new_text_step texts ks text ks' answer h absent placed =
    let more = texts ++ text ∷ [] in
    let s = text_step more ks text (length texts) ks' answer (more_texts texts (text ∷ []) ks h) (new_number texts text absent) placed in
    (s.0, subst (λ l. PutsOne l (Utf8 text) (keyed_entries more ks') answer) (entries_with texts (text ∷ []) ks h) s.1)

-- ---- with and without memory

module _ {E : Type 0} (texts : List Name) (ks ks' : List Key) (h : AreFields texts ks) (r : Result (Option ℕ) E) where
  pub add_fields : (key : Key) → (e : Entry) × IsKeyOf (keyed_entries texts ks) key e → AddsKey ks key ks' r → AreFields texts ks'
  add_fields key of adds = by r adds where
    by : (r : Result (Option ℕ) E) → AddsKey ks key ks' r → AreFields texts ks'
    by (Ok answer) placed = (add_step texts ks key of.0 ks' answer h of.1 placed).0
    by (Err e) same = subst (λ l. AreFields texts l) (sym same) h

  pub add_puts : (key : Key) → AddsKey ks key ks' r
      → IfOk r (λ answer. (e : Entry) → IsKeyOf (keyed_entries texts ks) key e → PutsOne (keyed_entries texts ks) e (keyed_entries texts ks') answer)
  add_puts key adds = by r adds where
    by : (r : Result (Option ℕ) E) → AddsKey ks key ks' r → IfOk r (λ answer. (e : Entry) → IsKeyOf (keyed_entries texts ks) key e → PutsOne (keyed_entries texts ks) e (keyed_entries texts ks') answer)
    by (Ok answer) placed = λ e of. (add_step texts ks key e ks' answer h of placed).1
    by (Err e) same = tt

  module _ (text : Name) (number : ℕ) where
    pub text_fields : IsNumberOf texts text number → AddsKey ks (keys.Utf8 number) ks' r → AreFields texts ks'
    text_fields is adds = by r adds where
      by : (r : Result (Option ℕ) E) → AddsKey ks (keys.Utf8 number) ks' r → AreFields texts ks'
      by (Ok answer) placed = (text_step texts ks text number ks' answer h is placed).0
      by (Err e) same = subst (λ l. AreFields texts l) (sym same) h

    pub text_puts : IsNumberOf texts text number → AddsKey ks (keys.Utf8 number) ks' r → IfOk r (λ answer. PutsOne (keyed_entries texts ks) (Utf8 text) (keyed_entries texts ks') answer)
    text_puts is adds = by r adds where
      by : (r : Result (Option ℕ) E) → AddsKey ks (keys.Utf8 number) ks' r → IfOk r (λ answer. PutsOne (keyed_entries texts ks) (Utf8 text) (keyed_entries texts ks') answer)
      by (Ok answer) placed = (text_step texts ks text number ks' answer h is placed).1
      by (Err e) same = tt

    module _ (texts' : List Name) (absent : Contains texts text → ⊥) (put : (texts' ≡ texts ++ text ∷ []) × (number ≡ length texts)) where
      pub new_fields : AddsKey ks (keys.Utf8 number) ks' r → AreFields texts' ks'
      new_fields adds = subst (λ l. AreFields l ks') (sym put.0) (by r (subst (λ (n : ℕ). AddsKey ks (keys.Utf8 n) ks' r) put.1 adds)) where
        by : (r : Result (Option ℕ) E) → AddsKey ks (keys.Utf8 (length texts)) ks' r → AreFields (texts ++ text ∷ []) ks'
        by (Ok answer) placed = (new_text_step texts ks text ks' answer h absent placed).0
        by (Err e) same = subst (λ l. AreFields (texts ++ text ∷ []) l) (sym same) (more_texts texts (text ∷ []) ks h)

      pub new_puts : AddsKey ks (keys.Utf8 number) ks' r → IfOk r (λ answer. PutsOne (keyed_entries texts ks) (Utf8 text) (keyed_entries texts' ks') answer)
      new_puts adds =
          subst (λ l. IfOk r (λ answer. PutsOne (keyed_entries texts ks) (Utf8 text) (keyed_entries l ks') answer)) (sym put.0)
          (by r (subst (λ (n : ℕ). AddsKey ks (keys.Utf8 n) ks' r) put.1 adds)) where
            by : (r : Result (Option ℕ) E) → AddsKey ks (keys.Utf8 (length texts)) ks' r → IfOk r (λ answer. PutsOne (keyed_entries texts ks) (Utf8 text) (keyed_entries (texts ++ text ∷ []) ks') answer)
            by (Ok answer) placed = (new_text_step texts ks text ks' answer h absent placed).1
            by (Err e) same = tt

-- an entry is put after its parts, where there is memory
pub last_ends : {E : Type 0} (r : Result (Option ℕ) E) (a xs b : List Entry) (key : Key) (e : Entry) (c : List Entry) → with_parts e ≡ xs ++ e ∷ [] → PutsAll a xs b → IsKeyOf b key e
    → IfOk r (λ answer. (other : Entry) → IsKeyOf b key other → PutsOne b other c answer) → IfOk r (λ answer. Puts a e c answer)
last_ends (Ok answer) a xs b key e c parts h of adds = last_put a xs b e c answer parts h (adds e of)
last_ends (Err x) a xs b key e c parts h of adds = tt
