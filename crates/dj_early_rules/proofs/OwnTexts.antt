-- Texts that stand for themselves, as no two that name members are one.
use Rattle.std.proofs.Common.{◌≡◌, ℕ, zero, suc, ◌+◌, ◌<◌, ◌≤◌, Bool, true, false, cond, List, [], ◌∷◌, ◌++◌, length, get_or, slice_get, Option, Some, None, IsTrue, ◌↔◌, refl, sym, ap, ◌∙◌, subst, inl, inr, arith}
use Rattle.std.proofs.lemmas.Bool.{cases_lt}
use Rattle.std.proofs.lemmas.List.{length-append}
use Rattle.std.proofs.lemmas.Option.{slice_get-get_or}
use Rattle.std.specs.Prelude.{bytes_eq}
use Rattle.std.proofs.lemmas.Slice.Eq.{bytes_eq-Decides}
use Rattle.dj_pool.specs.trusted.Pool.{Constant, text_at}
use Rattle.dj_class.specs.trusted.ClassFile.{ClassFile}
use Rattle.dj_early_rules.specs.declared.judged.JudgedText.{JudgedText}
use Rattle.dj_early_rules.specs.trusted.Floats.{HasFloat, NamesFloat}
use Rattle.dj_early_rules.specs.trusted.Classes.{IsReflectiveText, NamesReflectiveText}
use Rattle.dj_early_rules.specs.Judged.{first_of, first_in, AreTexts, AreNumbered, IsMarked, AreMembersMarked, IsOwnText, AreOwnTexts}
use Rattle.dj_early_rules.specs.Prints.{AreDistinct}
use Rattle.dj_early_rules.proofs.Anys.{slice_get_push}
use Rattle.dj_early_rules.proofs.Judging.{not_reported, within_pool}
use Rattle.dj_early_rules.proofs.Noted.{reported_some}

-- the index has this text
pub own_some : (pool : List Constant) (index : ℕ) (key : List ℕ) (text : JudgedText) → text_at pool index ≡ Some key → (IsTrue text.float ↔ HasFloat key) → (IsTrue text.reflective ↔ IsReflectiveText key) → text.first ≡ index
    → IsOwnText pool index text
own_some pool index key text at float reflective first = record {
  means = record {
    float = reported_some HasFloat text.float (text_at pool index) key at float;
    reflective = reported_some IsReflectiveText text.reflective (text_at pool index) key at reflective;
    first = ap (text_at pool) first;
  };
  own = first;
}

-- the index has no text
pub own_none : (pool : List Constant) (index : ℕ) (text : JudgedText) → text_at pool index ≡ None → text.float ≡ false → text.reflective ≡ false → text.first ≡ index → IsOwnText pool index text
own_none pool index text none float reflective first = record {
  means = record {
    float = subst (λ (b : Bool). IsTrue b ↔ NamesFloat pool index) (sym float) (not_reported (text_at pool index) HasFloat none);
    reflective = subst (λ (b : Bool). IsTrue b ↔ NamesReflectiveText pool index) (sym reflective) (not_reported (text_at pool index) IsReflectiveText none);
    first = ap (text_at pool) first;
  };
  own = first;
}

pub no_own : (pool : List Constant) → AreOwnTexts pool 0 []
no_own pool = record { all = refl; each = λ index text e. absurd cc }

pub one_own_more : (pool : List Constant) (texts more : List JudgedText) (i : ℕ) (text : JudgedText) → more ≡ texts ++ text ∷ [] → IsOwnText pool i text → AreOwnTexts pool i texts → AreOwnTexts pool (i + 1) more
one_own_more pool texts more i text are is before = rw are (record {
  all = omega (arith, length-append texts (text ∷ []), before.all);
  each = λ index t e. elim (slice_get_push texts text index t e) [
    | inl was ↦ before.each index t was
    | inr (at, same) ↦ subst (λ (x : JudgedText). IsOwnText pool index x) same (subst (λ (k : ℕ). IsOwnText pool k text) (sym (at ∙ before.all)) is)
  ];
})

pub own_texts : (pool : List Constant) (count : ℕ) (texts : List JudgedText) → length pool + 1 ≤ count → AreOwnTexts pool count texts → AreTexts pool texts
own_texts pool count texts le are = record {
  all = (let e = are.all in omega (arith, e, le));
  each = λ index text e. (are.each index text e).means;
}

-- ---- the index of a text

abbrev has_text : Option (List ℕ) → List ℕ → Bool
has_text None text = false
has_text (Some other) text = bytes_eq other text

abbrev is_marked : Option Bool → Bool
is_marked None = false
is_marked (Some mark) = mark

-- the last marked index of the text among the first n
index_of : List Constant → List Bool → ℕ → List ℕ → ℕ
index_of pool marks zero text = 0
index_of pool marks (suc count) text = cond (is_marked (slice_get marks count)) (cond (has_text (text_at pool count) text) count (index_of pool marks count text)) (index_of pool marks count text)

mark_is : (found : Option Bool) → is_marked found ≡ true → found ≡ Some true
mark_is None e = absurd cc
mark_is (Some mark) e = ap Some e

text_is : (found : Option (List ℕ)) (text : List ℕ) → has_text found text ≡ true → found ≡ Some text
text_is None text e = absurd cc
text_is (Some other) text e = ap Some ((bytes_eq-Decides other text).0 e)

no_both : (b : Bool) → b ≡ true → b ≡ false → ⊥
no_both true t f = absurd cc
no_both false t f = absurd cc

-- the index is marked and has the text
abbrev Has : List Constant → List Bool → List ℕ → ℕ → Type 0
Has pool marks text index = IsMarked marks index × (text_at pool index ≡ Some text)

here_or_rest : (pool : List Constant) (marks : List Bool) (count : ℕ) (text : List ℕ) (i rest : ℕ) (b c : Bool) → is_marked (slice_get marks count) ≡ b → has_text (text_at pool count) text ≡ c → Has pool marks text i
    → ((i ≡ count → ⊥) → Has pool marks text rest) → Has pool marks text (cond b (cond c count rest) rest)
here_or_rest pool marks count text i rest true true mark is has other = (mark_is (slice_get marks count) mark, text_is (text_at pool count) text is)
here_or_rest pool marks count text i rest true false mark is has other =
    other (λ here. no_both (has_text (text_at pool count) text) (ap (λ (o : Option (List ℕ)). has_text o text) (sym (ap (text_at pool) here) ∙ has.1) ∙ (bytes_eq-Decides text text).1 refl) is)
here_or_rest pool marks count text i rest false c mark is has other =
    other (λ here. no_both (is_marked (slice_get marks count)) (ap is_marked (sym (ap (slice_get marks) here) ∙ has.0)) mark)

found_marked : (pool : List Constant) (marks : List Bool) (count i : ℕ) (text : List ℕ) → i < count → Has pool marks text i → Has pool marks text (index_of pool marks count text)
unfolding index_of
found_marked pool marks zero i text lt has = absurd (omega (arith, lt))
found_marked pool marks (suc count) i text lt has =
    here_or_rest pool marks count text i (index_of pool marks count text) (is_marked (slice_get marks count)) (has_text (text_at pool count) text) refl refl has
    (λ other. elim (cases_lt i count) [
      | inl less ↦ found_marked pool marks count i text less has
      | inr past ↦ absurd (other (omega (arith, lt, past)))
    ])

own_index : (pool : List Constant) (marks : List Bool) (i : ℕ) (text : List ℕ) → AreDistinct pool marks → i < length marks → Has pool marks text i → i ≡ index_of pool marks (length marks) text
own_index pool marks i text distinct lt has =
    let other = found_marked pool marks (length marks) i text lt has in
    distinct i (index_of pool marks (length marks) text) text has.0 other.0 has.1 other.1

nothing : JudgedText
nothing = record { float = false; reflective = false; first = 0 }

own_at : (pool : List Constant) (marks : List Bool) (texts : List JudgedText) (index : ℕ) (t : List ℕ) → AreDistinct pool marks → AreOwnTexts pool (length marks) texts → index < length marks → IsMarked marks index
    → text_at pool index ≡ Some t → first_in texts index ≡ index_of pool marks (length marks) t
own_at pool marks texts index t distinct are lt marked at =
    let text = get_or texts index nothing in
    let found = slice_get-get_or texts index nothing (let e = are.all in omega (arith, e, lt)) in
    ap (first_of index) found ∙ (are.each index text found).own ∙ own_index pool marks index t distinct lt (marked, at)

-- the names of members are numbered
pub own_numbered : (c : ClassFile) (marks : List Bool) (texts : List JudgedText) → AreMembersMarked c marks → AreDistinct c.pool marks → AreOwnTexts c.pool (length marks) texts → AreNumbered c texts
own_numbered c marks texts marked distinct are =
    let many = marked.count in
    record {
      numbers = index_of c.pool marks (length marks);
      name = λ m t own at.
          let le = within_pool c.pool m.name t at in
          let lt : m.name < length marks = omega (arith, le, many) in
          own_at c.pool marks texts m.name t distinct are lt ((marked.each m own).name lt) at;
      desc = λ m t own at.
          let le = within_pool c.pool m.desc t at in
          let lt : m.desc < length marks = omega (arith, le, many) in
          own_at c.pool marks texts m.desc t distinct are lt ((marked.each m own).desc lt) at;
    }
