-- Constants of one index, and those of the accounter.
use Rattle.std.proofs.Common.{◌≡◌, ℕ, zero, suc, ◌+◌, ◌-◌, ◌*◌, ◌≤◌, ◌<◌, ◌^◌, true, false, List, [], ◌∷◌, ◌++◌, map, take, length, get_or, Option, Some, slice_get, option_and_then, refl, sym, ap, subst, ◌∙◌, append_assoc, arith, inl, inr, length-append}
use Rattle.std.specs.Prelude.{IsSomeAnd, ⊤, All, Result, Ok, Err, OnOk}
use Rattle.std.proofs.lemmas.List.{take_more, map-append}
use Rattle.std.proofs.lemmas.List.Elements.{All-from_recursion}
use Rattle.dj_names.specs.trusted.Types.{Name}
use Rattle.dj_names.specs.trusted.Names.{IsMethodName}
use Rattle.dj_names.specs.trusted.Descriptors.{IsMethodDescriptor}
use Rattle.dj_names.specs.trusted.ModifiedUtf8.{IsModifiedUtf8}
use Rattle.dj_names.specs.trusted.NameReading.{reads_class_name}
use Rattle.dj_names.specs.Library.{accounter_class, accounter_methods}
use Rattle.dj_names.specs.Tests.{class_name_test, method_name_test, method_descriptor_test}
use Rattle.dj_names.proofs.TestLaws.{class_name_test-decides, modified_utf8_test-decides, method_name_test-decides, method_descriptor_test-decides}
use Rattle.dj_pool.specs.trusted.Pool.{Constant, Utf8, Class, Method, NameAndType, takes_two, indexed, constant_at, text_of, class_text_of, text_at, names_of, desc_at, IsClassText, NamesAnyClass, IsWhole, IsConstant, IsPool}
use Rattle.dj_pool.specs.Answers.{last_index, length_with}
use Rattle.dj_pool.specs.Scan.{has_foreign}
use Rattle.dj_pool.proofs.Scanned.{plain_is}
use Rattle.dj_pool.proofs.ChangeLaws.{appended_is_pool, one_narrow, keeps_names}
use Rattle.dj_rename.specs.declared.accounter.Called.{Called}
use Rattle.dj_rename.specs.Pools.{method_constants, accounter_constants}
use Rattle.dj_rename.specs.Accounting.{called_constants, IsCalled, AreAccounters}
use Rattle.dj_rename.specs.declared.error.RenameError.{RenameError}
use Rattle.dj_rename.specs.declared.error.RenameError.TheVariants as errors
use Rattle.dj_rename.specs.Refusals.{AppendsAccounter}
use Rattle.dj_rename.proofs.PoolLaws.{length_map, slice_get_right}

-- ---- one constant

pub alone : (k : Constant) → takes_two k ≡ false → indexed (k ∷ []) ≡ k ∷ []
alone k narrow = one_narrow k narrow

pub room_there : (pool : List Constant) (k : Constant) → takes_two k ≡ false → length pool < last_index → last_index < length_with pool k → ⊥
room_there pool k narrow room full = let one = ap length (one_narrow k narrow) in absurd (omega (arith, room, full, one))

pub pool_grown : (pool : List Constant) (k : Constant) → takes_two k ≡ false → IsPool pool → IsConstant pool k → length pool < last_index → IsPool (pool ++ k ∷ [])
pool_grown pool k narrow valid good room =
    let one = ap length (one_narrow k narrow) in
    subst (λ (l : List Constant). IsPool (pool ++ l)) (one_narrow k narrow) (appended_is_pool pool k valid good (omega (arith, room, one)))

-- ---- what stands after a pool

constant_after : (pool ks : List Constant) (i j : ℕ) → i ≡ length pool + 1 + j → constant_at (pool ++ ks) i ≡ slice_get ks j
constant_after pool ks i j e = ap (constant_at (pool ++ ks)) (e ∙ one_more (length pool) j) ∙ slice_get_right pool ks j (length pool + j) refl where
  one_more : (a b : ℕ) → a + 1 + b ≡ suc (a + b)
  one_more a b = omega arith

text_after : (pool ks : List Constant) (i j : ℕ) (text : Name) → i ≡ length pool + 1 + j → option_and_then text_of (slice_get ks j) ≡ Some text → text_at (pool ++ ks) i ≡ Some text
text_after pool ks i j text e h = ap (option_and_then text_of) (constant_after pool ks i j e) ∙ h

at_some : {A : Type 0} (P : A → Type 0) (o : Option A) (a : A) → o ≡ Some a → P a → IsSomeAnd o P
at_some P o a e h = subst (λ (x : Option _). IsSomeAnd x P) (sym e) h

two_after : (p0 p1 p2 ks : List Constant) (k : Constant) → p1 ≡ p0 ++ ks → p2 ≡ p1 ++ k ∷ [] → p2 ≡ p0 ++ (ks ++ k ∷ [])
two_after p0 p1 p2 ks k e f = f ∙ ap (λ (l : List Constant). l ++ k ∷ []) e ∙ append_assoc p0 ks (k ∷ [])

-- ---- one method

pub names_good : (p0 p1 p2 : List Constant) (m : Called) (at : ℕ) → IsCalled m → length p0 + 4 ≤ last_index → at ≡ length p0 + 1
    → p1 ≡ p0 ++ Utf8 m.name.now ∷ [] → p2 ≡ p1 ++ Utf8 m.desc.now ∷ [] → IsConstant p2 (NameAndType at (at + 1))
names_good p0 p1 p2 m at called room at_is one two =
    let ks : List Constant = Utf8 m.name.now ∷ Utf8 m.desc.now ∷ [] in
    let is : p2 ≡ p0 ++ ks = two_after p0 p1 p2 (Utf8 m.name.now ∷ []) (Utf8 m.desc.now) one two in
    subst (λ (l : List Constant). IsConstant l (NameAndType at (at + 1))) (sym is) (
      (omega (arith, at_is, room), omega (arith, at_is, room)),
      inr (
        at_some IsMethodName (text_at (p0 ++ ks) at) m.name.now (text_after p0 ks at 0 m.name.now (omega (arith, at_is)) refl) called.name,
        at_some IsMethodDescriptor (text_at (p0 ++ ks) (at + 1)) m.desc.now (text_after p0 ks (at + 1) 1 m.desc.now (omega (arith, at_is)) refl) called.desc,
      ),
    )

three_after : (p0 p1 p2 p3 : List Constant) (m : Called) (at : ℕ) → p1 ≡ p0 ++ Utf8 m.name.now ∷ [] → p2 ≡ p1 ++ Utf8 m.desc.now ∷ [] → p3 ≡ p2 ++ NameAndType at (at + 1) ∷ []
    → p3 ≡ p0 ++ Utf8 m.name.now ∷ Utf8 m.desc.now ∷ NameAndType at (at + 1) ∷ []
three_after p0 p1 p2 p3 m at one two three =
    two_after p0 p2 p3 (Utf8 m.name.now ∷ Utf8 m.desc.now ∷ []) (NameAndType at (at + 1)) (two_after p0 p1 p2 (Utf8 m.name.now ∷ []) (Utf8 m.desc.now) one two) three

pub call_good : (p0 p1 p2 p3 : List Constant) (m : Called) (class at : ℕ) → IsCalled m → length p0 + 4 ≤ last_index → at ≡ length p0 + 1 → class < 2 ^ 16 → NamesAnyClass p0 class
    → p1 ≡ p0 ++ Utf8 m.name.now ∷ [] → p2 ≡ p1 ++ Utf8 m.desc.now ∷ [] → p3 ≡ p2 ++ NameAndType at (at + 1) ∷ [] → IsConstant p3 (Method class (at + 2))
call_good p0 p1 p2 p3 m class at called room at_is fits there one two three =
    let ks : List Constant = Utf8 m.name.now ∷ Utf8 m.desc.now ∷ NameAndType at (at + 1) ∷ [] in
    let desc_is : desc_at (p0 ++ ks) (at + 2) ≡ Some m.desc.now =
    ap (λ (o : Option Constant). option_and_then (λ (n : ℕ × ℕ). text_at (p0 ++ ks) n.1) (option_and_then names_of o)) (constant_after p0 ks (at + 2) 2 (omega (arith, at_is)))
    ∙ text_after p0 ks (at + 1) 1 m.desc.now (omega (arith, at_is)) refl in
    subst (λ (l : List Constant). IsConstant l (Method class (at + 2))) (sym (three_after p0 p1 p2 p3 m at one two three)) (
      (fits, omega (arith, at_is, room)),
      ((keeps_names p0 ks).any_class class there, at_some IsMethodDescriptor (desc_at (p0 ++ ks) (at + 2)) m.desc.now desc_is called.desc),
    )

call_grown : (p0 p1 p2 p3 p4 : List Constant) (m : Called) (class at : ℕ) → at ≡ length p0 + 1 → p1 ≡ p0 ++ Utf8 m.name.now ∷ [] → p2 ≡ p1 ++ Utf8 m.desc.now ∷ []
    → p3 ≡ p2 ++ NameAndType at (at + 1) ∷ [] → p4 ≡ p3 ++ Method class (at + 2) ∷ [] → p4 ≡ p0 ++ called_constants class (length p0 + 1) (m ∷ [])
call_grown p0 p1 p2 p3 p4 m class at at_is one two three four =
    two_after p0 p3 p4 (Utf8 m.name.now ∷ Utf8 m.desc.now ∷ NameAndType at (at + 1) ∷ []) (Method class (at + 2)) (three_after p0 p1 p2 p3 m at one two three) four
    ∙ ap (λ (i : ℕ). p0 ++ called_constants class i (m ∷ [])) at_is

-- what follows, where the answer is one
on_ok : {A E : Type 0} (P Q : Type 0) → (P → Q) → (r : Result A E) → OnOk r P → OnOk r Q
on_ok P Q f (Ok a) p = f p
on_ok P Q f (Err e) p = tt

pub call_ends : {A E : Type 0} (r : Result A E) (p0 p1 p2 p3 p4 : List Constant) (m : Called) (class at : ℕ) → at ≡ length p0 + 1 → p1 ≡ p0 ++ Utf8 m.name.now ∷ [] → p2 ≡ p1 ++ Utf8 m.desc.now ∷ []
    → p3 ≡ p2 ++ NameAndType at (at + 1) ∷ [] → OnOk r (p4 ≡ p3 ++ Method class (at + 2) ∷ []) → OnOk r (p4 ≡ p0 ++ called_constants class (length p0 + 1) (m ∷ []))
call_ends r p0 p1 p2 p3 p4 m class at at_is one two three =
    on_ok (p4 ≡ p3 ++ Method class (at + 2) ∷ []) (p4 ≡ p0 ++ called_constants class (length p0 + 1) (m ∷ [])) (λ four. call_grown p0 p1 p2 p3 p4 m class at at_is one two three four) r

-- ---- methods

called_length : (class at : ℕ) (methods : List Called) → length (called_constants class at methods) ≡ 4 * length methods
called_length class at [] = refl
called_length class at (m ∷ methods) = let more = called_length class (at + 4) methods in omega (arith, more)

called_more : (class at : ℕ) (methods : List Called) (m : Called) → called_constants class at (methods ++ m ∷ []) ≡ called_constants class at methods ++ called_constants class (at + 4 * length methods) (m ∷ [])
called_more class at [] m = ap (λ (i : ℕ). called_constants class i (m ∷ [])) (omega arith)
called_more class at (x ∷ methods) m =
    ap (λ (ks : List Constant). Utf8 x.name.now ∷ Utf8 x.desc.now ∷ NameAndType at (at + 1) ∷ Method class (at + 2) ∷ ks)
    (called_more class (at + 4) methods m ∙ ap (λ (i : ℕ). called_constants class (at + 4) methods ++ called_constants class i (m ∷ [])) (omega arith))

take_length : (i : ℕ) (methods : List Called) → length (take i methods) ≤ i
take_length zero methods = omega arith
take_length (suc i) [] = omega arith
take_length (suc i) (m ∷ methods) = let less = take_length i methods in omega (arith, less)

long : (before now : List Constant) (class : ℕ) (methods : List Called) → now ≡ before ++ called_constants class (length before + 1) methods → length now ≡ length before + 4 * length methods
long before now class methods e =
    ap length e ∙ length-append before (called_constants class (length before + 1) methods) ∙ ap (λ (n : ℕ). length before + n) (called_length class (length before + 1) methods)

-- where these of the methods are appended there is room for the next, and the class is there
pub room_left : (before now : List Constant) (class i : ℕ) (methods : List Called) → now ≡ before ++ called_constants class (length before + 1) (take i methods)
    → length before + 4 * length methods ≤ last_index → i < length methods → length now + 4 ≤ last_index
room_left before now class i methods e room less = omega (arith, long before now class (take i methods) e, take_length i methods, room, less)

pub class_left : (before now : List Constant) (class i : ℕ) (methods : List Called) → now ≡ before ++ called_constants class (length before + 1) (take i methods) → NamesAnyClass before class → NamesAnyClass now class
class_left before now class i methods e h =
    subst (λ (l : List Constant). NamesAnyClass l class) (sym e) ((keeps_names before (called_constants class (length before + 1) (take i methods))).any_class class h)

methods_grown : (before now next : List Constant) (class : ℕ) (methods : List Called) (m : Called) → now ≡ before ++ called_constants class (length before + 1) methods
    → next ≡ now ++ called_constants class (length now + 1) (m ∷ []) → next ≡ before ++ called_constants class (length before + 1) (methods ++ m ∷ [])
methods_grown before now next class methods m e f =
    f
    ∙ ap (λ (i : ℕ). now ++ called_constants class i (m ∷ [])) (omega (arith, long before now class methods e))
    ∙ ap (λ (l : List Constant). l ++ called_constants class (length before + 1 + 4 * length methods) (m ∷ [])) e
    ∙ append_assoc before (called_constants class (length before + 1) methods) (called_constants class (length before + 1 + 4 * length methods) (m ∷ []))
    ∙ ap (λ (l : List Constant). before ++ l) (sym (called_more class (length before + 1) methods m))

pub methods_next : (before now next : List Constant) (class i : ℕ) (methods : List Called) (d : Called) → i < length methods → now ≡ before ++ called_constants class (length before + 1) (take i methods)
    → next ≡ now ++ called_constants class (length now + 1) (get_or methods i d ∷ []) → next ≡ before ++ called_constants class (length before + 1) (take (i + 1) methods)
methods_next before now next class i methods d less e f =
    methods_grown before now next class (take i methods) (get_or methods i d) e f
    ∙ ap (λ (l : List Called). before ++ called_constants class (length before + 1) l) (sym (take_more methods i d less))

-- ---- texts

pub text_good : (texts : List Name) (place count : ℕ) (text : Name) → ((k : ℕ) → k < length texts → IsWhole (Utf8 (get_or texts k []))) → place < count → count ≡ length texts → text ≡ get_or texts place []
    → IsWhole (Utf8 text) × ⊤
text_good texts place count text whole less is e = (subst (λ (t : Name). IsWhole (Utf8 t)) (sym e) (whole place (omega (arith, less, is))), tt)

pub texts_next : (before now next : List Constant) (place count : ℕ) (texts : List Name) (text : Name) → place < count → count ≡ length texts → text ≡ get_or texts place []
    → now ≡ before ++ map Utf8 (take place texts) → next ≡ now ++ Utf8 text ∷ [] → next ≡ before ++ map Utf8 (take (place + 1) texts)
texts_next before now next place count texts text less is e grown f =
    two_after before now next (map Utf8 (take place texts)) (Utf8 text) grown f
    ∙ ap (λ (t : Name). before ++ (map Utf8 (take place texts) ++ Utf8 t ∷ [])) e
    ∙ ap (λ (l : List Constant). before ++ l) (sym (map-append Utf8 (take place texts) (get_or texts place [] ∷ [])))
    ∙ ap (λ (l : List Name). before ++ map Utf8 l) (sym (take_more texts place [] (omega (arith, less, is))))

-- ---- the methods' texts

utf8 : (text : Name) → has_foreign text ≡ false → IsModifiedUtf8 text
utf8 text e = (modified_utf8_test-decides text).0 (plain_is text e)

pub called_is : (m : Called) → method_name_test m.name.now ≡ true → method_descriptor_test m.desc.now ≡ true → length m.name.now < 2 ^ 16 → length m.desc.now < 2 ^ 16 → has_foreign m.name.now ≡ false → has_foreign m.desc.now ≡ false
    → IsCalled m
called_is m name desc short few plain bytes = record {
  name = (method_name_test-decides m.name.now).0 name;
  name_whole = (short, utf8 m.name.now plain);
  desc = (method_descriptor_test-decides m.desc.now).0 desc;
  desc_whole = (few, utf8 m.desc.now bytes);
}

-- six of them
pub six_called : (a b c d e f : Called) → IsCalled a → IsCalled b → IsCalled c → IsCalled d → IsCalled e → IsCalled f → All IsCalled (a ∷ b ∷ c ∷ d ∷ e ∷ f ∷ [])
six_called a b c d e f p q r s t u = All-from_recursion IsCalled (a ∷ b ∷ c ∷ d ∷ e ∷ f ∷ []) (p, (q, (r, (s, (t, (u, tt))))))

-- ---- the class

accounter_text : IsClassText accounter_class
unfolding class_name_test reads_class_name
accounter_text = inl ((class_name_test-decides accounter_class).0 refl)

pub name_good : (pool : List Constant) → IsConstant pool (Utf8 accounter_class)
name_good pool = ((omega arith, utf8 accounter_class refl), tt)

pub class_good : (p0 p1 : List Constant) (first : ℕ) → length p0 + 26 ≤ last_index → first ≡ length p0 + 1 → p1 ≡ p0 ++ Utf8 accounter_class ∷ [] → IsConstant p1 (Class first)
class_good p0 p1 first room is one =
    let ks : List Constant = Utf8 accounter_class ∷ [] in
    subst (λ (l : List Constant). IsConstant l (Class first)) (sym one)
    (omega (arith, is, room), at_some IsClassText (text_at (p0 ++ ks) first) accounter_class (text_after p0 ks first 0 accounter_class (omega (arith, is)) refl) accounter_text)

class_grown : (p0 p1 p2 : List Constant) (first : ℕ) → p1 ≡ p0 ++ Utf8 accounter_class ∷ [] → p2 ≡ p1 ++ Class first ∷ [] → p2 ≡ p0 ++ Utf8 accounter_class ∷ (Class first ∷ [])
class_grown p0 p1 p2 first one two = two_after p0 p1 p2 (Utf8 accounter_class ∷ []) (Class first) one two

pub class_ends : {A E : Type 0} (r : Result A E) (p0 p1 p2 : List Constant) (first : ℕ) → p1 ≡ p0 ++ Utf8 accounter_class ∷ [] → OnOk r (p2 ≡ p1 ++ Class first ∷ []) → OnOk r (p2 ≡ p0 ++ Utf8 accounter_class ∷ (Class first ∷ []))
class_ends r p0 p1 p2 first one =
    on_ok (p2 ≡ p1 ++ Class first ∷ []) (p2 ≡ p0 ++ Utf8 accounter_class ∷ (Class first ∷ [])) (λ two. class_grown p0 p1 p2 first one two) r

class_there : (p0 p2 : List Constant) (first : ℕ) → first ≡ length p0 + 1 → p2 ≡ p0 ++ Utf8 accounter_class ∷ (Class first ∷ []) → NamesAnyClass p2 (first + 1)
class_there p0 p2 first is two =
    let ks : List Constant = Utf8 accounter_class ∷ (Class first ∷ []) in
    subst (λ (l : List Constant). NamesAnyClass l (first + 1)) (sym two)
    (at_some (λ _. ⊤) (option_and_then class_text_of (constant_at (p0 ++ ks) (first + 1))) first (ap (option_and_then class_text_of) (constant_after p0 ks (first + 1) 1 (omega (arith, is)))) tt)

pub class_names : {A E : Type 0} (r : Result A E) (p0 p1 p2 : List Constant) (first : ℕ) → first ≡ length p0 + 1 → p1 ≡ p0 ++ Utf8 accounter_class ∷ [] → OnOk r (p2 ≡ p1 ++ Class first ∷ []) → OnOk r (NamesAnyClass p2 (first + 1))
class_names r p0 p1 p2 first is one =
    on_ok (p2 ≡ p1 ++ Class first ∷ []) (NamesAnyClass p2 (first + 1)) (λ two. class_there p0 p2 first is (class_grown p0 p1 p2 first one two)) r

-- ---- all of them

pub room_after : (p0 p1 : List Constant) (first : ℕ) (methods : List Called) → length methods ≡ 6 → length p0 + 26 ≤ last_index → p1 ≡ p0 ++ Utf8 accounter_class ∷ (Class first ∷ [])
    → length p1 + 4 * length methods ≤ last_index
room_after p0 p1 first methods six room e = omega (arith, six, room, ap length e, length-append p0 (Utf8 accounter_class ∷ (Class first ∷ [])))

pub accounter_grown : (p0 p1 p2 : List Constant) (first : ℕ) (methods : List Called) → AreAccounters methods → first ≡ length p0 + 1 → p1 ≡ p0 ++ Utf8 accounter_class ∷ (Class first ∷ [])
    → p2 ≡ p1 ++ called_constants (first + 1) (length p1 + 1) methods → p2 ≡ p0 ++ accounter_constants first
unfolding accounter_constants
accounter_grown p0 p1 p2 first methods are is one two =
    let ks : List Constant = Utf8 accounter_class ∷ (Class first ∷ []) in
    let at_is : length p1 + 1 ≡ first + 2 = omega (arith, is, ap length one, length-append p0 ks) in
    two
    ∙ ap (λ (i : ℕ). p1 ++ called_constants (first + 1) i methods) at_is
    ∙ ap (λ (l : List Constant). p1 ++ l) (are (first + 1) (first + 2))
    ∙ ap (λ (l : List Constant). l ++ method_constants (first + 1) (first + 2) accounter_methods) one
    ∙ append_assoc p0 ks (method_constants (first + 1) (first + 2) accounter_methods)

pub accounter_count : (first : ℕ) → length (accounter_constants first) ≡ 26
unfolding accounter_constants
accounter_count first = refl

pub full_there : (pool : List Constant) → last_index - 26 < length pool → last_index < length (pool ++ accounter_constants (length pool + 1))
full_there pool full = omega (arith, full, length-append pool (accounter_constants (length pool + 1)), accounter_count (length pool + 1))

pub counted : {A : Type 0} (f : A → Constant) (entries : List A) (pool : List Constant) → map f entries ≡ pool → length entries ≡ length pool
counted f entries pool e = sym (length_map f entries) ∙ ap length e

-- of a lack of memory nothing is said
pub failed : (before now : List Constant) (r : Result ℕ RenameError) (e x : RenameError) → r ≡ Err e → e ≡ x → x ≡ errors.Memory → AppendsAccounter before now r
failed before now r e x is same memory = subst (AppendsAccounter before now) (sym (is ∙ ap Err (same ∙ memory))) tt
