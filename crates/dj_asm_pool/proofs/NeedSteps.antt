-- The needs of lines are put one after the other.
use Rattle.std.proofs.Common.{◌≡◌, ℕ, ◌+◌, inl, inr, Bool, true, false, ◌&&◌, ◌==◌, nat_le, List, [], ◌∷◌, ◌++◌, map, take, slice_get, Contains, Option, Some, None, is_some, refl, sym, ap, ◌∙◌, subst, arith}
use Rattle.std.specs.List.{AllByRecursion, flat_map, list_all}
use Rattle.std.proofs.lemmas.Bool.{cases_Bool, false≢true, and_parts}
use Rattle.std.proofs.lemmas.List.Elements.{Contains-append_left, Contains-append_right}
use Rattle.dj_names.specs.trusted.Types.{Name}
use Rattle.dj_asm_pool.specs.trusted.Entries.{Entry, Utf8, Integer, Long, Class, Text, NameAndType, Field, Method, InterfaceMethod, Dynamic, with_parts}
use Rattle.dj_asm_source.specs.declared.syntax.FrameType as the_type
use Rattle.dj_asm_source.specs.TypeViews.{type_view}
use Rattle.dj_asm_pool.specs.trusted.Needs.{member_entry, type_entries}
use Rattle.dj_asm_pool.specs.trusted.Room.{IsShort}
use Rattle.dj_asm_pool.specs.Pooling.{EndsIn, all_kept, HasIndex, IsFull, Puts}
use Rattle.dj_asm_pool.specs.PoolNeeds.{is_short, short_entry, HasPlace, LacksPlace, OneLacksPlace, all_parts, PutsNeeds}
use Rattle.dj_asm_pool.proofs.Members.{in_here, in_rest, each_in, each_from, each_append}
use Rattle.dj_asm_pool.proofs.PoolChains.{kept_append, all_index, all_full}
use Rattle.dj_asm_pool.proofs.PoolEntries.{one_more}

-- ---- lists

parts_append : (xs ys : List Entry) → all_parts (xs ++ ys) ≡ all_parts xs ++ all_parts ys
parts_append [] ys = refl
parts_append (x ∷ xs) ys = ap (λ l. with_parts x ++ l) (parts_append xs ys) ∙ join (with_parts x) where
  join : (l : List Entry) → l ++ (all_parts xs ++ all_parts ys) ≡ (l ++ all_parts xs) ++ all_parts ys
  join [] = refl
  join (e ∷ l) = ap (λ m. e ∷ m) (join l)

parts_one : (e : Entry) → all_parts (e ∷ []) ≡ with_parts e
parts_one e = none (with_parts e) where
  none : (l : List Entry) → l ++ [] ≡ l
  none [] = refl
  none (x ∷ l) = ap (λ m. x ∷ m) (none l)

-- ---- short texts

short_is : (e : Entry) → short_entry e ≡ true → IsShort e
short_is (Utf8 text) h = grind (arith, h)
short_is (Integer n) h = tt
short_is (Long n) h = tt
short_is (Class name) h = tt
short_is (Text text) h = tt
short_is (NameAndType name desc) h = tt
short_is (Field class name desc) h = tt
short_is (Method class name desc) h = tt
short_is (InterfaceMethod class name desc) h = tt
short_is (Dynamic place name desc) h = tt

not_short : (e : Entry) → short_entry e ≡ false → IsShort e → ⊥
not_short (Utf8 text) h short = absurd (grind (arith, h, short))
not_short (Integer n) h short = false≢true (sym h)
not_short (Long n) h short = false≢true (sym h)
not_short (Class name) h short = false≢true (sym h)
not_short (Text text) h short = false≢true (sym h)
not_short (NameAndType name desc) h short = false≢true (sym h)
not_short (Field class name desc) h short = false≢true (sym h)
not_short (Method class name desc) h short = false≢true (sym h)
not_short (InterfaceMethod class name desc) h short = false≢true (sym h)
not_short (Dynamic place name desc) h short = false≢true (sym h)

all_short : (es : List Entry) → list_all short_entry es ≡ true → AllByRecursion IsShort es
all_short [] h = tt
all_short (e ∷ es) h = let p = and_parts (short_entry e) (list_all short_entry es) h in (short_is e p.0, all_short es p.1)

one_long : (es : List Entry) → list_all short_entry es ≡ false → (e : Entry) × Contains es e × (IsShort e → ⊥)
one_long [] h = absurd (false≢true (sym h))
one_long (e ∷ es) h = elim (cases_Bool (short_entry e)) [
  | inl so ↦
      let r = one_long es (sym (ap (λ b. b && list_all short_entry es) so) ∙ h) in
      (r.0, in_rest e es r.0 r.1, r.2)
  | inr other ↦ (e, in_here e es, not_short e other)
]

-- ---- one entry with its parts

pub need : (a : List Entry) (e : Entry) (b : List Entry) (answer : Option ℕ) (short : Bool) → Puts a e b answer → short ≡ list_all short_entry (with_parts e) → PutsNeeds a (e ∷ []) b (is_some answer && short)
need a e b None short p s =
    let one = p.1.0 in
    subst (λ l. (b ≡ all_kept a l) × OneLacksPlace b l) (sym (parts_one e)) (p.0, record { entry = one.entry; among = one.among; lacks = inr (one.past, p.1.1) })
need a e b (Some i) true p s =
    subst (λ l. (b ≡ all_kept a l) × AllByRecursion (HasPlace b) l) (sym (parts_one e))
    (p.0.0, each_from (HasPlace b) (with_parts e) (λ x h. (each_in IsShort (with_parts e) x (all_short (with_parts e) (sym s)) h, each_in (HasIndex b) (with_parts e) x p.0.1 h)))
need a e b (Some i) false p s =
    let long = one_long (with_parts e) (sym s) in
    subst (λ l. (b ≡ all_kept a l) × OneLacksPlace b l) (sym (parts_one e)) (p.0.0, record { entry = long.0; among = long.1; lacks = inl long.2 })

-- ---- several entries

pub no_needs : (a : List Entry) → PutsNeeds a [] a true
no_needs a = (refl, tt)

put_after : (a xs b ys c : List Entry) → b ≡ all_kept a (all_parts xs) → c ≡ all_kept b (all_parts ys) → c ≡ all_kept a (all_parts (xs ++ ys))
put_after a xs b ys c h k = k ∙ (ap (λ l. all_kept l (all_parts ys)) h ∙ (sym (kept_append a (all_parts xs) (all_parts ys)) ∙ ap (all_kept a) (sym (parts_append xs ys))))

still_lacks : (b ys c : List Entry) (e : Entry) → c ≡ all_kept b (all_parts ys) → LacksPlace b e → LacksPlace c e
still_lacks b ys c e k (inl long) = inl long
still_lacks b ys c e k (inr past) = inr (subst (λ l. (EndsIn l e → ⊥) × IsFull l) (sym (k ∙ all_full b (all_parts ys) past.1)) past)

first_lacks : (a xs b ys c : List Entry) → PutsNeeds a xs b false → c ≡ all_kept b (all_parts ys) → PutsNeeds a (xs ++ ys) c false
first_lacks a xs b ys c h k =
    let one = h.1 in (
      put_after a xs b ys c h.0 k,
      record {
        entry = one.entry;
        among = subst (λ l. Contains l one.entry) (sym (parts_append xs ys)) (Contains-append_left (all_parts xs) (all_parts ys) one.entry one.among);
        lacks = still_lacks b ys c one.entry k one.lacks;
      },
    )

pub needs_then : (a xs b ys c : List Entry) (p q : Bool) → PutsNeeds a xs b p → PutsNeeds b ys c q → PutsNeeds a (xs ++ ys) c (p && q)
needs_then a xs b ys c true true h k = (
  put_after a xs b ys c h.0 k.0,
  subst (AllByRecursion (HasPlace c)) (sym (parts_append xs ys))
      (each_append (HasPlace c) (all_parts xs) (all_parts ys) (each_from (HasPlace c) (all_parts xs) (λ e is. later e (each_in (HasPlace b) (all_parts xs) e h.1 is))) k.1),
) where
  later : (e : Entry) → HasPlace b e → HasPlace c e
  later e place = (place.0, subst (λ l. HasIndex l e) (sym k.0) (all_index b (all_parts ys) e place.1))
needs_then a xs b ys c true false h k =
    let one = k.1 in (
      put_after a xs b ys c h.0 k.0,
      record {
        entry = one.entry;
        among = subst (λ l. Contains l one.entry) (sym (parts_append xs ys)) (Contains-append_right (all_parts xs) (all_parts ys) one.entry one.among);
        lacks = one.lacks;
      },
    )
needs_then a xs b ys c false true h k = first_lacks a xs b ys c h k.0
needs_then a xs b ys c false false h k = first_lacks a xs b ys c h k.0

-- ---- short texts by calls

both_true : (b : Bool) → b ≡ (b && true)
both_true true = refl
both_true false = refl

two_true : (a b : Bool) → (a && b) ≡ (a && (b && true))
two_true a b = ap (λ c. a && c) (both_true b)

pub text_need : (a b : List Entry) (text : Name) (answer : Option ℕ) (short : Bool) → Puts a (Utf8 text) b answer → short ≡ is_short text → PutsNeeds a (Utf8 text ∷ []) b (is_some answer && short)
text_need a b text answer short p s = need a (Utf8 text) b answer short p (s ∙ both_true (is_short text))

pub class_need : (a b : List Entry) (name : Name) (answer : Option ℕ) (short : Bool) → Puts a (Class name) b answer → short ≡ is_short name → PutsNeeds a (Class name ∷ []) b (is_some answer && short)
class_need a b name answer short p s = need a (Class name) b answer short p (s ∙ both_true (is_short name))

pub string_need : (a b : List Entry) (text : Name) (answer : Option ℕ) (short : Bool) → Puts a (Text text) b answer → short ≡ is_short text → PutsNeeds a (Text text ∷ []) b (is_some answer && short)
string_need a b text answer short p s = need a (Text text) b answer short p (s ∙ both_true (is_short text))

pub number_need : (a b : List Entry) (n : _) (answer : Option ℕ) → Puts a (Integer n) b answer → PutsNeeds a (Integer n ∷ []) b (is_some answer && true)
number_need a b n answer p = need a (Integer n) b answer true p refl

pub long_need : (a b : List Entry) (n : _) (answer : Option ℕ) → Puts a (Long n) b answer → PutsNeeds a (Long n ∷ []) b (is_some answer && true)
long_need a b n answer p = need a (Long n) b answer true p refl

pub dynamic_need : (a b : List Entry) (place : ℕ) (name desc : Name) (answer : Option ℕ) (short : Bool) → Puts a (Dynamic place name desc) b answer → short ≡ (is_short name && is_short desc)
    → PutsNeeds a (Dynamic place name desc ∷ []) b (is_some answer && short)
dynamic_need a b place name desc answer short p s = need a (Dynamic place name desc) b answer short p (s ∙ two_true (is_short name) (is_short desc))

member_short : (op : ℕ) (class name desc : Name) (interface : Bool) → (is_short class && (is_short name && is_short desc)) ≡ list_all short_entry (with_parts (member_entry op class name desc interface))
member_short op class name desc interface = by (nat_le op 181) refl (op == 185) refl interface refl where
  by : (b : Bool) → nat_le op 181 ≡ b → (c : Bool) → (op == 185) ≡ c → (d : Bool) → interface ≡ d → (is_short class && (is_short name && is_short desc)) ≡ list_all short_entry (with_parts (member_entry op class name desc interface))
  by true e c f d g = rw e (ap (λ x. is_short class && x) (two_true (is_short name) (is_short desc)))
  by false e true f true g = rw e (rw f (ap (λ x. is_short class && x) (two_true (is_short name) (is_short desc))))
  by false e true f false g = rw e (rw f (ap (λ x. is_short class && x) (two_true (is_short name) (is_short desc))))
  by false e false f true g = rw e (rw f (rw g (ap (λ x. is_short class && x) (two_true (is_short name) (is_short desc)))))
  by false e false f false g = rw e (rw f (rw g (ap (λ x. is_short class && x) (two_true (is_short name) (is_short desc)))))

pub member_need : (a b : List Entry) (op : ℕ) (class name desc : Name) (interface : Bool) (answer : Option ℕ) (short : Bool) → Puts a (member_entry op class name desc interface) b answer
    → short ≡ (is_short class && (is_short name && is_short desc)) → PutsNeeds a (member_entry op class name desc interface ∷ []) b (is_some answer && short)
member_need a b op class name desc interface answer short p s = need a (member_entry op class name desc interface) b answer short p (s ∙ member_short op class name desc interface)

pub is_field : (op : ℕ) (class name desc : Name) (interface : Bool) → nat_le op 181 ≡ true → Field class name desc ≡ member_entry op class name desc interface
is_field op class name desc interface e = rw e refl

pub is_interface : (op : ℕ) (class name desc : Name) (interface : Bool) → nat_le op 181 ≡ false → (op == 185) ≡ true → InterfaceMethod class name desc ≡ member_entry op class name desc interface
is_interface op class name desc true e f = rw e (rw f refl)
is_interface op class name desc false e f = rw e (rw f refl)

pub is_marked : (op : ℕ) (class name desc : Name) (interface : Bool) → nat_le op 181 ≡ false → (op == 185) ≡ false → interface ≡ true → InterfaceMethod class name desc ≡ member_entry op class name desc interface
is_marked op class name desc interface e f g = rw e (rw f (rw g refl))

pub is_method : (op : ℕ) (class name desc : Name) (interface : Bool) → nat_le op 181 ≡ false → (op == 185) ≡ false → interface ≡ false → Method class name desc ≡ member_entry op class name desc interface
is_method op class name desc interface e f g = rw e (rw f (rw g refl))

-- ---- one of the three kinds of members

pub field_put : (a b : List Entry) (op : ℕ) (class name desc : Name) (interface : Bool) (answer : Option ℕ) → nat_le op 181 ≡ true → Puts a (Field class name desc) b answer
    → Puts a (member_entry op class name desc interface) b answer
field_put a b op class name desc interface answer e p = subst (λ x. Puts a x b answer) (is_field op class name desc interface e) p

pub interface_put : (a b : List Entry) (op : ℕ) (class name desc : Name) (interface : Bool) (answer : Option ℕ) → nat_le op 181 ≡ false → (op == 185) ≡ true
    → Puts a (InterfaceMethod class name desc) b answer → Puts a (member_entry op class name desc interface) b answer
interface_put a b op class name desc interface answer e f p = subst (λ x. Puts a x b answer) (is_interface op class name desc interface e f) p

pub marked_put : (a b : List Entry) (op : ℕ) (class name desc : Name) (interface : Bool) (answer : Option ℕ) → nat_le op 181 ≡ false → (op == 185) ≡ false → interface ≡ true
    → Puts a (InterfaceMethod class name desc) b answer → Puts a (member_entry op class name desc interface) b answer
marked_put a b op class name desc interface answer e f g p = subst (λ x. Puts a x b answer) (is_marked op class name desc interface e f g) p

pub method_put : (a b : List Entry) (op : ℕ) (class name desc : Name) (interface : Bool) (answer : Option ℕ) → nat_le op 181 ≡ false → (op == 185) ≡ false → interface ≡ false
    → Puts a (Method class name desc) b answer → Puts a (member_entry op class name desc interface) b answer
method_put a b op class name desc interface answer e f g p = subst (λ x. Puts a x b answer) (is_method op class name desc interface e f g) p

-- ---- several needs, one after the other

pub two_needs : (a b c : List Entry) (x y : Entry) (p q : Bool) → PutsNeeds a (x ∷ []) b p → PutsNeeds b (y ∷ []) c q → PutsNeeds a (x ∷ (y ∷ [])) c (p && q)
two_needs a b c x y p q h k = needs_then a (x ∷ []) b (y ∷ []) c p q h k

-- the needs of one more type
pub types_more : (xs : List the_type.FrameType) (i : ℕ) (x : the_type.FrameType) → slice_get xs i ≡ Some x
    → flat_map type_entries (map type_view (take i xs)) ++ type_entries (type_view x) ≡ flat_map type_entries (map type_view (take (i + 1) xs))
types_more xs i x h =
    flat_last (take i xs) x ∙ ap (λ l. flat_map type_entries (map type_view l)) (sym (one_more xs i x h)) where
      nothing : (l : List Entry) → l ≡ l ++ []
      nothing [] = refl
      nothing (e ∷ l) = ap (λ m. e ∷ m) (nothing l)

      joined : (l m n : List Entry) → (l ++ m) ++ n ≡ l ++ (m ++ n)
      joined [] m n = refl
      joined (e ∷ l) m n = ap (λ k. e ∷ k) (joined l m n)

      flat_last : (ys : List the_type.FrameType) (x : the_type.FrameType) → flat_map type_entries (map type_view ys) ++ type_entries (type_view x) ≡ flat_map type_entries (map type_view (ys ++ x ∷ []))
      flat_last [] x = nothing (type_entries (type_view x))
      flat_last (y ∷ ys) x =
          joined (type_entries (type_view y)) (flat_map type_entries (map type_view ys)) (type_entries (type_view x))
          ∙ ap (λ l. type_entries (type_view y) ++ l) (flat_last ys x)
