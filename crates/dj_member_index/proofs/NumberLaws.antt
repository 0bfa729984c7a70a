-- A text more with a number.
use Rattle.std.proofs.Common.{◌≡◌, ℕ, ◌+◌, ◌<◌, Bool, true, false, cond, List, [], ◌∷◌, map, Option, Some, None, Bor, refl, sym, ap, ◌∙◌, subst, arith, Ordering}
use Rattle.std.specs.declared.cmp.Ordering.TheVariants.{Less, Equal, Greater}
use Rattle.std.specs.Ordering.{nat_cmp, is_eq}
use Rattle.std.specs.Cmp.Lexicographic.{slice_cmp}
use Rattle.std.specs.Map.{lookup}
use Rattle.std.specs.BTreeMap.{btree_map_len, is_at}
use Rattle.std.specs.FinMap.{slice_cmp-IsAntisymmetric, nat_cmp-IsAntisymmetric}
use Rattle.std.proofs.lemmas.Cmp.{nat_list_cmp_total, tied_itself}
use Rattle.dj_names.specs.trusted.Types.{same_name}
use Rattle.dj_declarations.proofs.DescTests.{same_name_is, same_name_itself}
use Rattle.dj_member_index.specs.Numberings.{number_among}
use Rattle.dj_member_index.specs.DirectoryRows.{Texts, texts_of, number_in, AreDifferent, IsNumbered}

abbrev pub bor : List ℕ → Bor (List ℕ)
bor text = record { ref_ptr = (0, 0); now = text }

-- whether the text is that of the key
abbrev pub is_key : List ℕ → List ℕ → Bool
is_key key text = is_eq (slice_cmp nat_cmp key text)

by_order : (key text : List ℕ) (r : Ordering) → slice_cmp nat_cmp key text ≡ r → is_eq r ≡ true → key ≡ text
by_order key text Less e t = absurd cc
by_order key text Equal e t = slice_cmp-IsAntisymmetric nat_cmp-IsAntisymmetric key text e
by_order key text Greater e t = absurd cc

same_key : (key text : List ℕ) → is_key key text ≡ true → key ≡ text
same_key key text t = by_order key text (slice_cmp nat_cmp key text) refl t

own_key : (key : List ℕ) → is_key key key ≡ true
own_key key = ap is_eq (tied_itself nat_list_cmp_total key)

one : (a b : ℕ) → Some a ≡ Some b → a ≡ b
one a b e = cc

none_some : (n : ℕ) → None ≡ Some n → ⊥
none_some n e = absurd cc

pub numbered_again : (texts : Texts) (key : List ℕ) (n : ℕ) → number_in texts key ≡ Some n → AreDifferent texts → IsNumbered texts texts key n
numbered_again texts key n is different = record {
  own = is;
  kept = λ text k e. e;
  different = different;
}

module _ (old new : Texts) (key : List ℕ) (n : ℕ) (none : number_in old key ≡ None) (are : AreDifferent old)
    (updates : (text : List ℕ) → number_in new text ≡ cond (is_key key text) (Some n) (number_in old text)) (is : n ≡ btree_map_len old) (more : btree_map_len new ≡ btree_map_len old + 1) where
  kept_at : (text : List ℕ) (k : ℕ) (b : Bool) → is_key key text ≡ b → number_in old text ≡ Some k → cond b (Some n) (number_in old text) ≡ Some k
  kept_at text k true t e = absurd (none_some k (sym none ∙ ap (number_in old) (same_key key text t) ∙ e))
  kept_at text k false t e = e

  below_at : (text : List ℕ) (k : ℕ) (b : Bool) → cond b (Some n) (number_in old text) ≡ Some k → k < btree_map_len new
  below_at text k true e = let same = one n k e in omega (arith, same, is, more)
  below_at text k false e = let lt = are.below text k e in omega (arith, lt, more)

  -- the new number is above those that were there
  apart : (text : List ℕ) → number_in old text ≡ Some n → ⊥
  apart text e = let lt = are.below text n e in absurd (omega (arith, lt, is))

  different_at : (text other : List ℕ) (k : ℕ) (b c : Bool) → is_key key text ≡ b → is_key key other ≡ c
      → cond b (Some n) (number_in old text) ≡ Some k → cond c (Some n) (number_in old other) ≡ Some k → text ≡ other
  different_at text other k true true t u e f = sym (same_key key text t) ∙ same_key key other u
  different_at text other k true false t u e f = absurd (apart other (f ∙ sym e))
  different_at text other k false true t u e f = absurd (apart text (e ∙ sym f))
  different_at text other k false false t u e f = are.different text other k e f

  pub numbered_first : IsNumbered old new key n
  numbered_first = record {
    own = updates key ∙ ap (λ (b : Bool). cond b (Some n) (number_in old key)) (own_key key);
    kept = λ text k e. updates text ∙ kept_at text k (is_key key text) refl e;
    different = record {
      below = λ text k e. below_at text k (is_key key text) (sym (updates text) ∙ e);
      different = λ text other k e f. different_at text other k (is_key key text) (is_key key other) refl refl (sym (updates text) ∙ e) (sym (updates other) ∙ f);
    };
  }

-- ---- the numbers as a list

same_answer : (a b : Bool) → (a ≡ true → b ≡ true) → (b ≡ true → a ≡ true) → a ≡ b
same_answer true b f g = sym (f refl)
same_answer false true f g = g refl
same_answer false false f g = refl

key_same : (key text : List ℕ) → same_name key text ≡ is_key text key
key_same key text =
    same_answer (same_name key text) (is_key text key) (λ e. subst (λ (t : List ℕ). is_key text t ≡ true) (sym (same_name_is key text e)) (own_key text)) (λ e. same_name_itself key text (sym (same_key text key e)))

among_is : (entries : List (Bor (List ℕ) × ℕ)) (text : List ℕ) → number_among (map (λ e. (e.0.now, e.1)) entries) text ≡ lookup (is_at (λ (key : Bor (List ℕ)). slice_cmp nat_cmp text key.now)) entries
among_is [] text = refl
among_is (e ∷ entries) text =
    ap (λ (b : Bool). cond b (Some e.1) (number_among (map (λ e. (e.0.now, e.1)) entries) text)) (key_same e.0.now text)
    ∙ ap (λ (o : Option ℕ). cond (is_key text e.0.now) (Some e.1) o) (among_is entries text)

pub number_is : (texts : Texts) (text : List ℕ) → number_among (texts_of texts) text ≡ number_in texts text
number_is texts text = among_is texts.entries text

-- no text has a number at first
pub none_different : (texts : Texts) → texts.entries ≡ [] → AreDifferent texts
none_different texts empty = record {
  below = λ text n e. absurd (none_some n (sym (absent text) ∙ e));
  different = λ text other n e f. absurd (none_some n (sym (absent text) ∙ e));
} where
  absent : (text : List ℕ) → number_in texts text ≡ None
  absent text = ap (λ (es : List (Bor (List ℕ) × ℕ)). lookup (is_at (λ (key : Bor (List ℕ)). slice_cmp nat_cmp text key.now)) es) empty
