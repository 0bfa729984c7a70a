-- Texts that are noted, each with an index of it.
use Rattle.std.proofs.Common.{◌≡◌, ℕ, Bool, true, false, cond, List, Option, Some, None, IsSomeAnd, IsTrue, ◌↔◌, ◌⊎◌, option_copied, Bor, [], refl, sym, ap, ◌∙◌, subst, inl, inr, Ordering}
use Rattle.std.specs.declared.cmp.Ordering.TheVariants.{Less, Equal, Greater}
use Rattle.std.specs.Ordering.{nat_cmp, is_eq}
use Rattle.std.specs.Cmp.Lexicographic.{slice_cmp}
use Rattle.std.specs.Map.{lookup}
use Rattle.std.specs.BTreeMap.{is_at}
use Rattle.std.specs.FinMap.{slice_cmp-IsAntisymmetric, nat_cmp-IsAntisymmetric}
use Rattle.std.proofs.lemmas.Cmp.{nat_list_cmp_total, tied_itself}
use Rattle.dj_pool.specs.trusted.Pool.{Constant, text_at}
use Rattle.dj_early_rules.specs.declared.judged.JudgedText.{JudgedText}
use Rattle.dj_early_rules.specs.trusted.Floats.{HasFloat, NamesFloat}
use Rattle.dj_early_rules.specs.trusted.Classes.{IsReflectiveText, NamesReflectiveText}
use Rattle.dj_early_rules.specs.Judged.{Indexes, noted_at, AreRight, Notes, IsReportedText, IsJudgedText, AreFirstTexts}
use Rattle.dj_early_rules.proofs.Judging.{not_reported}

abbrev pub bor : List ℕ → Bor (List ℕ)
bor text = record { ref_ptr = (0, 0); now = text }

-- whether the text is that of the key
abbrev pub is_key : List ℕ → List ℕ → Bool
is_key key text = is_eq (slice_cmp nat_cmp key text)

by_order : (key text : List ℕ) (r : Ordering) → slice_cmp nat_cmp key text ≡ r → is_eq r ≡ true → key ≡ text
by_order key text Less e t = absurd cc
by_order key text Equal e t = slice_cmp-IsAntisymmetric nat_cmp-IsAntisymmetric key text e
by_order key text Greater e t = absurd cc

same_key : (key text : List ℕ) → is_key key text ≡ true → key ≡ text
same_key key text t = by_order key text (slice_cmp nat_cmp key text) refl t

own_key : (key text : List ℕ) → key ≡ text → is_key key text ≡ true
own_key key text same = subst (λ (t : List ℕ). is_key key t ≡ true) same (ap is_eq (tied_itself nat_list_cmp_total key))

same_index : (i n : ℕ) → Some i ≡ Some n → i ≡ n
same_index i n e = cc

-- ---- one text is noted

none_some : {n : ℕ} → None ≡ Some n → ⊥
none_some e = absurd cc

not_so : (b : Bool) → b ≡ true → b ≡ false → ⊥
not_so true t f = absurd cc
not_so false t f = absurd cc

kept_at : (old : Indexes) (key : List ℕ) (index : ℕ) (text : List ℕ) (n : ℕ) (b : Bool) → is_key key text ≡ b → noted_at old key ≡ None → noted_at old text ≡ Some n → cond b (Some index) (noted_at old text) ≡ Some n
kept_at old key index text n true t none e = absurd (none_some (sym none ∙ ap (noted_at old) (same_key key text t) ∙ e))
kept_at old key index text n false t none e = e

known_at : (old : Indexes) (key : List ℕ) (index : ℕ) (text : List ℕ) (n : ℕ) (b : Bool) → is_key key text ≡ b → cond b (Some index) (noted_at old text) ≡ Some n → (noted_at old text ≡ Some n) ⊎ ((text ≡ key) × (n ≡ index))
known_at old key index text n true t e = inr (sym (same_key key text t), sym (same_index index n e))
known_at old key index text n false t e = inl e

stays_at : (old : Indexes) (key : List ℕ) (index first : ℕ) (text : List ℕ) (mid : Option ℕ) (b : Bool) → is_key key text ≡ b → noted_at old key ≡ Some first → mid ≡ cond b (Some index) (noted_at old text) → cond b (Some first) mid ≡ noted_at old text
stays_at old key index first text mid true t was e = sym was ∙ ap (noted_at old) (same_key key text t)
stays_at old key index first text mid false t was e = e

-- nothing was noted of the text
pub noted_first : (old new : Indexes) (key : List ℕ) (index : ℕ) → noted_at old key ≡ None → ((text : List ℕ) → noted_at new text ≡ cond (is_key key text) (Some index) (noted_at old text)) → Notes old new key index true index
noted_first old new key index none updates = record {
  own = λ t. updates key ∙ ap (λ (b : Bool). cond b (Some index) (noted_at old key)) (own_key key key refl);
  same = inl refl;
  kept = λ text n e. updates text ∙ kept_at old key index text n (is_key key text) refl none e;
  known = λ text n e. known_at old key index text n (is_key key text) refl (sym (updates text) ∙ e);
}

-- an index was noted of the text, which takes its place again
pub noted_again : (old mid new : Indexes) (key : List ℕ) (index first : ℕ) → noted_at old key ≡ Some first → ((text : List ℕ) → noted_at mid text ≡ cond (is_key key text) (Some index) (noted_at old text))
    → ((text : List ℕ) → noted_at new text ≡ cond (is_key key text) (Some first) (noted_at mid text)) → Notes old new key index true first
noted_again old mid new key index first was updates again =
    let stays = λ (text : List ℕ). again text ∙ stays_at old key index first text (noted_at mid text) (is_key key text) refl was (updates text) in
    record {
      own = λ t. stays key ∙ was;
      same = inr was;
      kept = λ text n e. stays text ∙ e;
      known = λ text n e. inl (sym (stays text) ∙ e);
    }

-- an index that isn't marked
pub not_noted : (indexes : Indexes) (key : List ℕ) (index : ℕ) (marked : Bool) → marked ≡ false → Notes indexes indexes key index marked index
not_noted indexes key index marked f = record {
  own = λ t. absurd (not_so marked t f);
  same = inl refl;
  kept = λ text n e. e;
  known = λ text n e. inl e;
}

-- ---- before the first index

pub none_noted : (pool : List Constant) (marks : List Bool) (indexes : Indexes) → indexes.entries ≡ [] → AreFirstTexts indexes marks 0 pool []
none_noted pool marks indexes empty = record {
  all = refl;
  means = λ index text e. absurd cc;
  number = λ index text marked e m. absurd cc;
  right = λ text index e. (let none : None ≡ Some index = sym (ap (λ (es : List (Bor (List ℕ) × ℕ)). lookup (is_at (λ (key : Bor (List ℕ)). slice_cmp nat_cmp text key.now)) es) empty) ∙ e in absurd cc);
}

-- ---- what is known of the text of an index

some_text : (key text : List ℕ) → Some key ≡ Some text → key ≡ text
some_text key text e = cc

none_is : (found : Option (List ℕ)) (text : List ℕ) → found ≡ None → found ≡ Some text → ⊥
none_is found text none some = let e : None ≡ Some text = sym none ∙ some in absurd cc

-- the text of a look-up
pub copied_some : (found : Option (Bor (List ℕ))) (at : Option (List ℕ)) (key : Bor (List ℕ)) → option_copied found ≡ at → found ≡ Some key → at ≡ Some key.now
copied_some found at key seen is = sym seen ∙ ap option_copied is

pub copied_none : (found : Option (Bor (List ℕ))) (at : Option (List ℕ)) → option_copied found ≡ at → found ≡ None → at ≡ None
copied_none found at seen is = sym seen ∙ ap option_copied is

pub reported_some : (P : List ℕ → Type 0) (b : Bool) (found : Option (List ℕ)) (key : List ℕ) → found ≡ Some key → (IsTrue b ↔ P key) → IsTrue b ↔ IsSomeAnd found P
reported_some P b found key at reported = subst (λ (o : Option (List ℕ)). IsTrue b ↔ IsSomeAnd o P) (sym at) reported

first_is : (pool : List Constant) (old : Indexes) (index first : ℕ) (key : List ℕ) → text_at pool index ≡ Some key → AreRight pool old → ((first ≡ index) ⊎ (noted_at old key ≡ Some first)) → text_at pool first ≡ text_at pool index
first_is pool old index first key at right (inl same) = ap (text_at pool) same
first_is pool old index first key at right (inr was) = right key first was ∙ sym at

right_more : (pool : List Constant) (old new : Indexes) (key : List ℕ) (index : ℕ) (marked : Bool) (first : ℕ) → text_at pool index ≡ Some key → AreRight pool old → Notes old new key index marked first → AreRight pool new
right_more pool old new key index marked first at right notes text n e = elim (notes.known text n e) [
  | inl was ↦ right text n was
  | inr (is, here) ↦ ap (text_at pool) here ∙ at ∙ ap Some (sym is)
]

-- the index has this text
pub judged_some : (pool : List Constant) (old new : Indexes) (index : ℕ) (marked : Bool) (key : List ℕ) (text : JudgedText) → text_at pool index ≡ Some key → AreRight pool old → IsReportedText old new key index marked text
    → IsJudgedText pool old new index marked text
judged_some pool old new index marked key text at right reported = record {
  means = record {
    float = reported_some HasFloat text.float (text_at pool index) key at reported.float;
    reflective = reported_some IsReflectiveText text.reflective (text_at pool index) key at reported.reflective;
    first = first_is pool old index text.first key at right reported.notes.same;
  };
  number = λ t own is. subst (λ (k : List ℕ). noted_at new k ≡ Some text.first) (some_text key t (sym at ∙ is)) (reported.notes.own own);
  kept = reported.notes.kept;
  right = right_more pool old new key index marked text.first at right reported.notes;
}

-- the index has no text
pub judged_none : (pool : List Constant) (indexes : Indexes) (index : ℕ) (marked : Bool) (text : JudgedText) → text_at pool index ≡ None → text.float ≡ false → text.reflective ≡ false → text.first ≡ index → AreRight pool indexes
    → IsJudgedText pool indexes indexes index marked text
judged_none pool indexes index marked text none float reflective first right = record {
  means = record {
    float = subst (λ (b : Bool). IsTrue b ↔ NamesFloat pool index) (sym float) (not_reported (text_at pool index) HasFloat none);
    reflective = subst (λ (b : Bool). IsTrue b ↔ NamesReflectiveText pool index) (sym reflective) (not_reported (text_at pool index) IsReflectiveText none);
    first = ap (text_at pool) first;
  };
  number = λ t own is. absurd (none_is (text_at pool index) t none is);
  kept = λ key n e. e;
  right = right;
}
