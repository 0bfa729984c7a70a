-- The members of a rewritten class are the rewritten members.
use Rattle.std.proofs.Common.{◌≡◌, ℕ, zero, suc, ◌+◌, ◌<◌, ◌≤◌, true, false, List, [], ◌∷◌, ◌++◌, map, take, drop, length, get_or, refl, sym, ap, ap₂, subst, ◌∙◌, arith}
use Rattle.std.specs.List.{AllByRecursion, list_any}
use Rattle.std.proofs.lemmas.List.{map-append, take_more}
use Rattle.dj_pool.specs.trusted.Pool.{Constant}
use Rattle.dj_class.specs.declared.class.MemberView.{MemberView}
use Rattle.dj_class.specs.Members.{member_of}
use Rattle.dj_class.specs.trusted.ClassFile.{AttributeInfo, MemberInfo, ClassFile}
use Rattle.dj_model.specs.trusted.Program.{Program}
use Rattle.dj_program.specs.trusted.Programs.{AreSideBySide}
use Rattle.dj_rename.specs.Pools.{desc_need, new_index, appended_texts, first_index, renamed_descs}
use Rattle.dj_rewritten.specs.Files.{desc_indexes, new_desc, rewritten_field, IsRewrittenBody, IsRewrittenMethod}
use Rattle.dj_rewrite_code.specs.Answers.{attribute_in}
use Rattle.dj_rewrite.specs.declared.answers.MethodAnswer.{MethodAnswer}
use Rattle.dj_rewrite.specs.declared.answers.MethodAnswer.TheVariants as answers
use Rattle.dj_rewrite.specs.Answers.{desc_of, AnswersMethod, AreAnswers, HasLarge}
use Rattle.dj_rewrite.specs.Steps.{is_large}
use Rattle.dj_rewrite.specs.Members.{field_with, fields_with, method_with, methods_with}

-- ---- lists

pub length_map : {A B : Type 0} (f : A → B) (xs : List A) → length (map f xs) ≡ length xs
length_map f [] = refl
length_map f (x ∷ xs) = ap suc (length_map f xs)

pub take_front : {A : Type 0} (xs ys : List A) → take (length xs) (xs ++ ys) ≡ xs
take_front [] ys = refl
take_front (x ∷ xs) ys = ap (λ (zs : List _). x ∷ zs) (take_front xs ys)

pub drop_front : {A : Type 0} (xs ys : List A) → drop (length xs) (xs ++ ys) ≡ ys
drop_front [] ys = refl
drop_front (x ∷ xs) ys = drop_front xs ys

map_twice : {A B C : Type 0} (f : B → C) (g : A → B) (xs : List A) → map f (map g xs) ≡ map (λ x. f (g x)) xs
map_twice f g [] = refl
map_twice f g (x ∷ xs) = ap (λ (ys : List _). f (g x) ∷ ys) (map_twice f g xs)

-- ---- descriptors

abbrev pub new_of : List Constant → List ℕ → ℕ → ℕ
new_of pool descs desc = new_index pool (appended_texts pool descs) (desc_need pool desc desc)

descs_are : (c : ClassFile) → renamed_descs c.pool (appended_texts c.pool (desc_indexes c)) (desc_indexes c)
    ≡ map (new_of c.pool (desc_indexes c)) (map desc_of c.fields) ++ map (new_of c.pool (desc_indexes c)) (map desc_of c.methods)
descs_are c = map-append (new_of c.pool (desc_indexes c)) (map desc_of c.fields) (map desc_of c.methods)

as_many : (c : ClassFile) → length (map (new_of c.pool (desc_indexes c)) (map desc_of c.fields)) ≡ length c.fields
as_many c = length_map (new_of c.pool (desc_indexes c)) (map desc_of c.fields) ∙ length_map desc_of c.fields

pub field_descs : (c : ClassFile) → take (length c.fields) (renamed_descs c.pool (appended_texts c.pool (desc_indexes c)) (desc_indexes c)) ≡ map (new_of c.pool (desc_indexes c)) (map desc_of c.fields)
field_descs c =
    let own = map (new_of c.pool (desc_indexes c)) (map desc_of c.fields) in
    let more = map (new_of c.pool (desc_indexes c)) (map desc_of c.methods) in
    ap₂ (λ (n : ℕ) (xs : List ℕ). take n xs) (sym (as_many c)) (descs_are c) ∙ take_front own more

pub method_descs : (c : ClassFile) → drop (length c.fields) (renamed_descs c.pool (appended_texts c.pool (desc_indexes c)) (desc_indexes c)) ≡ map (new_of c.pool (desc_indexes c)) (map desc_of c.methods)
method_descs c =
    let own = map (new_of c.pool (desc_indexes c)) (map desc_of c.fields) in
    let more = map (new_of c.pool (desc_indexes c)) (map desc_of c.methods) in
    ap₂ (λ (n : ℕ) (xs : List ℕ). drop n xs) (sym (as_many c)) (descs_are c) ∙ drop_front own more

pub descs_length : (c : ClassFile) → length (renamed_descs c.pool (appended_texts c.pool (desc_indexes c)) (desc_indexes c)) ≡ length c.fields + length c.methods
descs_length c = length_map (new_of c.pool (desc_indexes c)) (desc_indexes c) ∙ two c.fields c.methods where
  two : (fs ms : List MemberInfo) → length (map desc_of fs ++ map desc_of ms) ≡ length fs + length ms
  two [] ms = let own = length_map desc_of ms in omega (arith, own)
  two (f ∷ fs) ms = let more = two fs ms in omega (arith, more)

-- ---- fields

fields_each : (pool : List Constant) (descs : List ℕ) (fs : List MemberInfo) → fields_with pool fs (map (new_of pool descs) (map desc_of fs)) ≡ map (rewritten_field pool descs) fs
fields_each pool descs [] = refl
fields_each pool descs (f ∷ fs) = ap (λ (xs : List MemberInfo). rewritten_field pool descs f ∷ xs) (fields_each pool descs fs)

pub fields_are : (c : ClassFile) (descs : List ℕ) → descs ≡ renamed_descs c.pool (appended_texts c.pool (desc_indexes c)) (desc_indexes c)
    → fields_with c.pool c.fields (take (length c.fields) descs) ≡ map (rewritten_field c.pool (desc_indexes c)) c.fields
fields_are c descs e =
    ap (λ (xs : List ℕ). fields_with c.pool c.fields (take (length c.fields) xs)) e
    ∙ ap (fields_with c.pool c.fields) (field_descs c)
    ∙ fields_each c.pool (desc_indexes c) c.fields

-- ---- methods

no_more_large : (answer : MethodAnswer) (made : List MethodAnswer) → (HasLarge (answer ∷ made) → ⊥) → HasLarge made → ⊥
no_more_large answer made never_so (k, lt, is) = never_so (suc k, omega (arith, lt), is)

module _ (program : Program) (pool : List Constant) (descs : List ℕ) where
  abbrev first : ℕ
  first = first_index pool (appended_texts pool descs)

  one_method : (m : MemberInfo) (answer : MethodAnswer) → AnswersMethod program pool first m answer → (answer ≡ answers.TooLarge → ⊥)
      → IsRewrittenMethod program pool descs m (method_with m answer (new_desc pool descs m))
  one_method m answers.Bodiless none fits = record {
    attributes = [];
    each = subst (λ (list : List AttributeInfo). AreSideBySide (IsRewrittenBody program pool first m) list []) (sym none) tt;
    is = refl;
  }
  one_method m (answers.Rewritten code) has fits = record {
    attributes = attribute_in code ∷ [];
    each = subst (λ (list : List AttributeInfo). AreSideBySide (IsRewrittenBody program pool first m) list (attribute_in code ∷ [])) (sym has.one) (has.body, tt);
    is = refl;
  }
  one_method m answers.TooLarge large fits = absurd (fits refl)

  methods_each : (ms : List MemberInfo) (made : List MethodAnswer) → AreAnswers program pool first ms made → (HasLarge made → ⊥)
      → AreSideBySide (IsRewrittenMethod program pool descs) ms (methods_with ms made (map (new_of pool descs) (map desc_of ms)))
  methods_each [] [] each fits = tt
  methods_each [] (answer ∷ made) each fits = absurd each
  methods_each (m ∷ ms) [] each fits = absurd each
  methods_each (m ∷ ms) (answer ∷ made) each fits = (
    one_method m answer each.0 (λ e. fits (0, omega arith, e)),
    methods_each ms made each.1 (no_more_large answer made fits),
  )

pub methods_are : (program : Program) (c : ClassFile) (descs : List ℕ) (made : List MethodAnswer) → descs ≡ renamed_descs c.pool (appended_texts c.pool (desc_indexes c)) (desc_indexes c)
    → AreAnswers program c.pool (first_index c.pool (appended_texts c.pool (desc_indexes c))) c.methods made → (HasLarge made → ⊥)
    → AreSideBySide (IsRewrittenMethod program c.pool (desc_indexes c)) c.methods (methods_with c.methods made (drop (length c.fields) descs))
methods_are program c descs made e each fits =
    subst (λ (xs : List ℕ). AreSideBySide (IsRewrittenMethod program c.pool (desc_indexes c)) c.methods (methods_with c.methods made xs))
    (sym (ap (drop (length c.fields)) e ∙ method_descs c))
    (methods_each program c.pool (desc_indexes c) c.methods made each fits)

-- ---- lists of answers

pub as_many_answers : {A B : Type 0} (Stand : A → B → Type 0) (xs : List A) (ys : List B) → AreSideBySide Stand xs ys → length ys ≡ length xs
as_many_answers Stand [] [] h = refl
as_many_answers Stand [] (y ∷ ys) h = absurd h
as_many_answers Stand (x ∷ xs) [] h = absurd h
as_many_answers Stand (x ∷ xs) (y ∷ ys) h = ap suc (as_many_answers Stand xs ys h.1)

pub side_more : {A B : Type 0} (Stand : A → B → Type 0) (xs : List A) (ys : List B) (x : A) (y : B) → AreSideBySide Stand xs ys → Stand x y → AreSideBySide Stand (xs ++ x ∷ []) (ys ++ y ∷ [])
side_more Stand [] [] x y h s = (s, tt)
side_more Stand [] (z ∷ ys) x y h s = absurd h
side_more Stand (z ∷ xs) [] x y h s = absurd h
side_more Stand (w ∷ xs) (z ∷ ys) x y h s = (h.0, side_more Stand xs ys x y h.1 s)

-- ---- what is read of a class, element by element

pub at_member : (P : MemberInfo → Type 0) (views : List MemberView) (list : List MemberInfo) (i : ℕ) (x : MemberView) → map member_of views ≡ list → AllByRecursion P list → i < length views → x ≡ get_or views i x → P (member_of x)
at_member P views list i x are all lt is = go views i x (subst (AllByRecursion P) (sym are) all) lt is where
  go : (views : List MemberView) (i : ℕ) (x : MemberView) → AllByRecursion P (map member_of views) → i < length views → x ≡ get_or views i x → P (member_of x)
  go [] i x h lt is = absurd (omega (arith, lt))
  go (v ∷ vs) zero x h lt is = subst (λ (w : MemberView). P (member_of w)) (sym is) h.0
  go (v ∷ vs) (suc i) x h lt is = go vs i x h.1 (omega (arith, lt)) is

pub answers_more : {A : Type 0} (Stand : MemberInfo → A → Type 0) (views : List MemberView) (i : ℕ) (x : MemberView) (made : List A) (a : A) → i < length views → x ≡ get_or views i x
    → AreSideBySide Stand (map member_of (take i views)) made → Stand (member_of x) a → AreSideBySide Stand (map member_of (take (i + 1) views)) (made ++ a ∷ [])
answers_more Stand views i x made a lt is h s =
    subst (λ (ms : List MemberInfo). AreSideBySide Stand ms (made ++ a ∷ []))
    (sym (ap (map member_of) (take_more views i x lt ∙ ap (λ (y : MemberView). take i views ++ y ∷ []) (sym is)) ∙ map-append member_of (take i views) (x ∷ [])))
    (side_more Stand (map member_of (take i views)) made (member_of x) a h s)

-- a member's view is there as what it shows
pub member_at : (views : List MemberView) (list : List MemberInfo) (i : ℕ) (x : MemberView) → map member_of views ≡ list → i < length views → x ≡ get_or views i x → member_of x ≡ get_or list i (member_of x)
member_at views list i x are lt is = subst (λ (ms : List MemberInfo). member_of x ≡ get_or ms i (member_of x)) are (go views i x lt is) where
  go : (views : List MemberView) (i : ℕ) (x : MemberView) → i < length views → x ≡ get_or views i x → member_of x ≡ get_or (map member_of views) i (member_of x)
  go [] i x lt is = absurd (omega (arith, lt))
  go (v ∷ vs) zero x lt is = ap member_of is
  go (v ∷ vs) (suc i) x lt is = go vs i x (omega (arith, lt)) is

one_more : (i : ℕ) → suc i ≡ i + 1
one_more i = omega arith

module _ (pool : List Constant) where
  fields_next : (fs : List MemberView) (descs : List ℕ) (i : ℕ) (x : MemberView) → i < length fs → i < length descs → x ≡ get_or fs i x
      → fields_with pool (map member_of (take (suc i) fs)) (take (suc i) descs) ≡ fields_with pool (map member_of (take i fs)) (take i descs) ++ field_with pool (member_of x) (get_or descs i 0) ∷ []
  fields_next [] descs i x lt less p = absurd (omega (arith, lt))
  fields_next (f ∷ fs) [] i x lt less p = absurd (omega (arith, less))
  fields_next (f ∷ fs) (e ∷ descs) zero x lt less p = ap (λ (y : MemberView). field_with pool (member_of y) e ∷ []) (sym p)
  fields_next (f ∷ fs) (e ∷ descs) (suc i) x lt less p = ap (λ (ms : List MemberInfo). field_with pool (member_of f) e ∷ ms) (fields_next fs descs i x (omega (arith, lt)) (omega (arith, less)) p)

  pub fields_more : (fs : List MemberView) (descs : List ℕ) (i : ℕ) (x : MemberView) → i < length fs → i < length descs → x ≡ get_or fs i x
      → fields_with pool (map member_of (take (i + 1) fs)) (take (i + 1) descs) ≡ fields_with pool (map member_of (take i fs)) (take i descs) ++ field_with pool (member_of x) (get_or descs i 0) ∷ []
  fields_more fs descs i x lt less p =
      subst (λ (n : ℕ). fields_with pool (map member_of (take n fs)) (take n descs) ≡ fields_with pool (map member_of (take i fs)) (take i descs) ++ field_with pool (member_of x) (get_or descs i 0) ∷ [])
      (one_more i) (fields_next fs descs i x lt less p)

  pub fields_all : (fs : List MemberView) (descs : List ℕ) (i : ℕ) → length fs ≤ i → fields_with pool (map member_of (take i fs)) (take i descs) ≡ fields_with pool (map member_of fs) descs
  fields_all [] descs zero few = refl
  fields_all [] descs (suc i) few = refl
  fields_all (f ∷ fs) descs zero few = absurd (omega (arith, few))
  fields_all (f ∷ fs) [] (suc i) few = refl
  fields_all (f ∷ fs) (d ∷ descs) (suc i) few = ap (λ (ms : List MemberInfo). field_with pool (member_of f) d ∷ ms) (fields_all fs descs i (omega (arith, few)))

methods_next : (ms : List MemberView) (made : List MethodAnswer) (descs : List ℕ) (i : ℕ) (x : MemberView) (a : MethodAnswer) → i < length ms → i < length made → i < length descs
    → x ≡ get_or ms i x → a ≡ get_or made i a
    → methods_with (map member_of (take (suc i) ms)) (take (suc i) made) (take (suc i) descs) ≡ methods_with (map member_of (take i ms)) (take i made) (take i descs) ++ method_with (member_of x) a (get_or descs i 0) ∷ []
methods_next [] made descs i x a lt less few p q = absurd (omega (arith, lt))
methods_next (m ∷ ms) [] descs i x a lt less few p q = absurd (omega (arith, less))
methods_next (m ∷ ms) (b ∷ made) [] i x a lt less few p q = absurd (omega (arith, few))
methods_next (m ∷ ms) (b ∷ made) (e ∷ descs) zero x a lt less few p q = ap₂ (λ (y : MemberView) (z : MethodAnswer). method_with (member_of y) z e ∷ []) (sym p) (sym q)
methods_next (m ∷ ms) (b ∷ made) (e ∷ descs) (suc i) x a lt less few p q =
    ap (λ (more : List MemberInfo). method_with (member_of m) b e ∷ more) (methods_next ms made descs i x a (omega (arith, lt)) (omega (arith, less)) (omega (arith, few)) p q)

pub methods_more : (ms : List MemberView) (made : List MethodAnswer) (descs : List ℕ) (i : ℕ) (x : MemberView) (a : MethodAnswer) → i < length ms → i < length made → i < length descs
    → x ≡ get_or ms i x → a ≡ get_or made i a
    → methods_with (map member_of (take (i + 1) ms)) (take (i + 1) made) (take (i + 1) descs) ≡ methods_with (map member_of (take i ms)) (take i made) (take i descs) ++ method_with (member_of x) a (get_or descs i 0) ∷ []
methods_more ms made descs i x a lt less few p q =
    let before = methods_with (map member_of (take i ms)) (take i made) (take i descs) in
    subst (λ (n : ℕ). methods_with (map member_of (take n ms)) (take n made) (take n descs) ≡ before ++ method_with (member_of x) a (get_or descs i 0) ∷ [])
    (one_more i) (methods_next ms made descs i x a lt less few p q)

pub methods_all : (ms : List MemberView) (made : List MethodAnswer) (descs : List ℕ) (i : ℕ) → length ms ≤ i
    → methods_with (map member_of (take i ms)) (take i made) (take i descs) ≡ methods_with (map member_of ms) made descs
methods_all [] made descs zero few = refl
methods_all [] made descs (suc i) few = refl
methods_all (m ∷ ms) made descs zero few = absurd (omega (arith, few))
methods_all (m ∷ ms) [] descs (suc i) few = refl
methods_all (m ∷ ms) (b ∷ made) [] (suc i) few = refl
methods_all (m ∷ ms) (b ∷ made) (d ∷ descs) (suc i) few = ap (λ (more : List MemberInfo). method_with (member_of m) b d ∷ more) (methods_all ms made descs i (omega (arith, few)))

-- as many as the class has
pub count_of : (views : List MemberView) (list : List MemberInfo) → map member_of views ≡ list → length views ≡ length list
count_of views list are = sym (length_map member_of views) ∙ ap length are

-- ---- methods that are too large

pub large_any : (made : List MethodAnswer) → list_any is_large made ≡ true → HasLarge made
large_any [] e = absurd cc
large_any (answers.TooLarge ∷ made) e = (0, omega arith, refl)
large_any (answers.Bodiless ∷ made) e = let more = large_any made e in (suc more.0, omega (arith, more.1), more.2)
large_any (answers.Rewritten code ∷ made) e = let more = large_any made e in (suc more.0, omega (arith, more.1), more.2)

pub none_large : (made : List MethodAnswer) → list_any is_large made ≡ false → HasLarge made → ⊥
none_large [] e (k, lt, is) = absurd (omega (arith, lt))
none_large (answers.TooLarge ∷ made) e large = absurd cc
none_large (answers.Bodiless ∷ made) e (zero, lt, is) = absurd cc
none_large (answers.Bodiless ∷ made) e (suc k, lt, is) = none_large made e (k, omega (arith, lt), is)
none_large (answers.Rewritten code ∷ made) e (zero, lt, is) = absurd cc
none_large (answers.Rewritten code ∷ made) e (suc k, lt, is) = none_large made e (k, omega (arith, lt), is)
