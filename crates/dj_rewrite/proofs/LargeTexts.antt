-- What of a class doesn't fit, by the texts that tell it.
use Rattle.std.proofs.Common.{◌≡◌, ℕ, zero, suc, ◌+◌, ◌<◌, ◌≤◌, ◌⊎◌, ◌↔◌, Bool, true, false, List, [], ◌∷◌, ◌++◌, length, map, take, get_or, zip, Option, Some, None, refl, sym, ap, ap₂, subst, ◌∙◌, arith, inl, inr, Contains, IsTrue}
use Rattle.std.specs.Prelude.{⊤, IsSomeAnd}
use Rattle.std.proofs.lemmas.List.{take_all}
use Rattle.std.proofs.lemmas.List.Elements.{Contains-append_left, Contains-push, Contains-push_cases}
use Rattle.dj_names.specs.trusted.Types.{Name}
use Rattle.dj_pool.specs.trusted.Pool.{Constant, text_at, NamesText}
use Rattle.dj_class.specs.declared.class.MemberView.{MemberView}
use Rattle.dj_class.specs.Members.{member_of}
use Rattle.dj_class.specs.trusted.ClassFile.{MemberInfo, ClassFile}
use Rattle.dj_report.specs.Lines.{Gains}
use Rattle.dj_report.proofs.Adding.{IsAmong, adds_nothing, adds_read}
use Rattle.dj_report.proofs.Sorted.{contains_first, contains_later, contains_none, contains_cases}
use Rattle.dj_model.specs.trusted.Program.{Program}
use Rattle.dj_program.specs.trusted.Programs.{AreSideBySide}
use Rattle.dj_rewritten.specs.TooLarge.{IsTooLargeMethod, HasLargeMethod, IsTooLargeClass}
use Rattle.dj_rewrite.specs.declared.answers.MethodAnswer.{MethodAnswer}
use Rattle.dj_rewrite.specs.declared.answers.MethodAnswer.TheVariants as answers
use Rattle.dj_rewrite.specs.Answers.{AreTooLarge}
use Rattle.dj_rewrite.specs.Rule.{member_text, IsTooLargeIn}
use Rattle.dj_rewrite.specs.Steps.{is_large, class_texts, TellsMethod, TellsFile, IsLargeText, AreLargeTexts, AreTexts}
use Rattle.dj_rewrite.proofs.NewMembers.{length_map, member_at}

-- ---- pairs

pub zip_at : {A B : Type 0} (xs : List A) (ys : List B) (i : ℕ) (x : A) (y : B) → i < length xs → i < length ys → x ≡ get_or xs i x → y ≡ get_or ys i y → (x, y) ≡ get_or (zip xs ys) i (x, y)
zip_at [] ys i x y lt less p q = absurd (omega (arith, lt))
zip_at (a ∷ xs) [] i x y lt less p q = absurd (omega (arith, less))
zip_at (a ∷ xs) (b ∷ ys) zero x y lt less p q = ap₂ (λ (s : _) (t : _). (s, t)) p q
zip_at (a ∷ xs) (b ∷ ys) (suc i) x y lt less p q = zip_at xs ys i x y (omega (arith, lt)) (omega (arith, less)) p q

pub zip_length : {A B : Type 0} (xs : List A) (ys : List B) (i : ℕ) → i < length xs → length ys ≡ length xs → i < length (zip xs ys)
zip_length [] ys i lt e = absurd (omega (arith, lt))
zip_length (x ∷ xs) [] i lt e = absurd (omega (arith, e))
zip_length (x ∷ xs) (y ∷ ys) zero lt e = omega arith
zip_length (x ∷ xs) (y ∷ ys) (suc i) lt e = let more = zip_length xs ys i (omega (arith, lt)) (omega (arith, e)) in omega (arith, more)

-- ---- one text

large_is : (answer : MethodAnswer) → is_large answer ≡ true → answer ≡ answers.TooLarge
large_is answers.Bodiless e = absurd cc
large_is (answers.Rewritten code) e = absurd cc
large_is answers.TooLarge e = refl

not_large : (answer : MethodAnswer) → is_large answer ≡ false → answer ≡ answers.TooLarge → ⊥
not_large answers.Bodiless e is = absurd cc
not_large (answers.Rewritten code) e is = absurd cc
not_large answers.TooLarge e is = absurd cc

pub text_added : (pool : List Constant) (m : MemberInfo) (answer : MethodAnswer) (old new : List Name) (text : Name) → is_large answer ≡ true → text ≡ member_text pool m → new ≡ old ++ text ∷ []
    → Gains (IsLargeText pool (m, answer)) old new
text_added pool m answer old new text told is grown =
    subst (λ (list : List Name). Gains (IsLargeText pool (m, answer)) old list) (sym grown) (λ v. (
      λ has. elim (Contains-push_cases old text v has) [ inl before ↦ inl before | inr e ↦ inr (large_is answer told, sym e ∙ is) ],
      λ any. elim any [
        | inl before ↦ Contains-append_left old (text ∷ []) v before
        | inr own ↦ subst (Contains (old ++ text ∷ [])) (is ∙ sym own.1) (Contains-push old text)
      ],
    ))

pub none_added : (pool : List Constant) (m : MemberInfo) (answer : MethodAnswer) (old : List Name) → is_large answer ≡ false → Gains (IsLargeText pool (m, answer)) old old
none_added pool m answer old other = adds_nothing (IsLargeText pool (m, answer)) old (λ v is. not_large answer other is.0)

zip_short : {A B : Type 0} (xs : List A) (ys : List B) → length (zip xs ys) ≤ length xs
zip_short [] ys = omega arith
zip_short (x ∷ xs) [] = omega arith
zip_short (x ∷ xs) (y ∷ ys) = let more = zip_short xs ys in omega (arith, more)

module _ (c : ClassFile) (made : List MethodAnswer) (views : List MemberView) (are : map member_of views ≡ c.methods) (many : length made ≡ length c.methods) where
  count : length c.methods ≡ length views
  count = ap length (sym are) ∙ length_map member_of views

  -- with those of one method more
  pub texts_more : (i : ℕ) (x : MemberView) (answer : MethodAnswer) (start old new : List Name) → i < length views → x ≡ get_or views i x → answer ≡ get_or made i answer
      → Gains (IsAmong (IsLargeText c.pool) (take i (zip c.methods made))) start old → Gains (IsLargeText c.pool (member_of x, answer)) old new
      → Gains (IsAmong (IsLargeText c.pool) (take (i + 1) (zip c.methods made))) start new
  texts_more i x answer start old new lt is has before this =
      adds_read (IsLargeText c.pool) (zip c.methods made) i (member_of x, answer) start old new (zip_length c.methods made i (omega (arith, lt, count)) many)
      (zip_at c.methods made i (member_of x) answer (omega (arith, lt, count)) (omega (arith, lt, count, many)) (member_at views c.methods i x are lt is) has) before this

  pub texts_all : (i : ℕ) (start new : List Name) → length views ≤ i → Gains (IsAmong (IsLargeText c.pool) (take i (zip c.methods made))) start new → Gains (AreLargeTexts c made) start new
  texts_all i start new past gains =
      subst (λ (list : List (MemberInfo × MethodAnswer)). Gains (IsAmong (IsLargeText c.pool) list) start new)
      (take_all i (zip c.methods made) (let short = zip_short c.methods made in omega (arith, short, count, past))) gains

-- any text
pub text_there : (P : Name → Type 0) (pool : List Constant) (index : ℕ) → NamesText P pool index → NamesText (λ _. ⊤) pool index
text_there P pool index h = go (text_at pool index) h where
  go : (o : Option Name) → IsSomeAnd o P → IsSomeAnd o (λ _. ⊤)
  go None h = absurd h
  go (Some text) h = tt

-- ---- methods

module _ (program : Program) (c : ClassFile) where
  abbrev IsLarge : MemberInfo → Name → Type 0
  IsLarge m text = IsTooLargeMethod program c m × (text ≡ member_text c.pool m)

  large_from : (ms : List MemberInfo) (made : List MethodAnswer) → AreSideBySide (TellsMethod program c) ms made → (text : Name) (method : MemberInfo × MethodAnswer)
      → Contains (zip ms made) method → IsLargeText c.pool method text → (m : MemberInfo) × Contains ms m × IsLarge m text
  large_from [] made told text method has is = absurd (contains_none method has)
  large_from (x ∷ ms) [] told text method has is = absurd told
  large_from (x ∷ ms) (y ∷ made) told text method has is =
      elim (contains_cases (x, y) (zip ms made) method has) [
        | inl e ↦ let here : IsLargeText c.pool (x, y) text = subst (λ (p : MemberInfo × MethodAnswer). IsLargeText c.pool p text) (sym e) is in (x, contains_first x ms, (told.0.0 here.0, here.1))
        | inr later ↦ let more = large_from ms made told.1 text method later is in (more.0, contains_later x ms more.0 more.1, more.2)
      ]

  large_to : (ms : List MemberInfo) (made : List MethodAnswer) → AreSideBySide (TellsMethod program c) ms made → (text : Name) (m : MemberInfo) → Contains ms m → IsLarge m text
      → (method : MemberInfo × MethodAnswer) × Contains (zip ms made) method × IsLargeText c.pool method text
  large_to [] made told text m has is = absurd (contains_none m has)
  large_to (x ∷ ms) [] told text m has is = absurd told
  large_to (x ∷ ms) (y ∷ made) told text m has is =
      elim (contains_cases x ms m has) [
        | inl e ↦ let here : IsLarge x text = subst (λ (n : MemberInfo). IsLarge n text) (sym e) is in ((x, y), contains_first (x, y) (zip ms made), (told.0.1 here.0, here.1))
        | inr later ↦ let more = large_to ms made told.1 text m later is in (more.0, contains_later (x, y) (zip ms made) more.0 more.1, more.2)
      ]

  -- ---- the class

  class_from : (class : Bool) → IsTrue class ↔ IsTooLargeClass program c → (text : Name) → Contains (class_texts class) text → IsTooLargeClass program c × (text ≡ [])
  class_from true is text has = elim (contains_cases [] [] text has) [ inl e ↦ (is.0 refl, sym e) | inr later ↦ absurd (contains_none text later) ]
  class_from false is text has = absurd (contains_none text has)

  class_to : (class : Bool) → IsTrue class ↔ IsTooLargeClass program c → (text : Name) → IsTooLargeClass program c → text ≡ [] → Contains (class_texts class) text
  class_to true is text large e = subst (λ (t : Name). Contains ([] ∷ []) t) (sym e) (contains_first [] [])
  class_to false is text large e = absurd (let t = is.1 large in cc)

  some_text : (texts : List Name) (text : Name) → Contains texts text → 0 < length texts
  some_text texts text (k, lt, is) = omega (arith, lt)

  module _ (class : Bool) (made : List MethodAnswer) (texts : List Name) (gains : Gains (AreLargeTexts c made) (class_texts class) texts) (told : TellsFile program c class made) where
    text_from : (text : Name) → Contains texts text → IsTooLargeIn program c text
    text_from text has = elim ((gains text).0 has) [
      | inl own ↦ inl (class_from class told.class_is text own)
      | inr method ↦ inr (let m = large_from c.methods made told.methods_are text method.0 method.1 method.2 in (m.0, m.1, m.2.0, m.2.1))
    ]

    text_to : (text : Name) → IsTooLargeIn program c text → Contains texts text
    text_to text is = elim is [
      | inl own ↦ (gains text).1 (inl (class_to class told.class_is text own.0 own.1))
      | inr method ↦ (gains text).1 (inr (large_to c.methods made told.methods_are text method.0 method.1 (method.2, method.3)))
    ]

    some : IsTooLargeClass program c ⊎ HasLargeMethod program c → 0 < length texts
    some (inl own) = some_text texts [] (text_to [] (inl (own, refl)))
    some (inr method) = some_text texts (member_text c.pool method.0) (text_to (member_text c.pool method.0) (inr (method.0, method.1, method.2, refl)))

    all_texts : AreTooLarge program c texts
    all_texts = record { all = λ text. (text_from text, text_to text); some = some told.some }

pub texts_tell : (c : ClassFile) (class : Bool) (made : List MethodAnswer) (texts : List Name) → Gains (AreLargeTexts c made) (class_texts class) texts → AreTexts c class made texts
texts_tell c class made texts gains program told = all_texts program c class made texts gains told
