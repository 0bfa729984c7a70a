-- What is known of texts, and of the values of fields.
use Rattle.std.proofs.Common.{◌≡◌, ℕ, zero, suc, ◌+◌, ◌<◌, ◌≤◌, ◌⊎◌, ◌↔◌, Bool, true, false, not, List, [], ◌∷◌, ◌++◌, replicate, length, get_or, slice_get, unwrap_or, Option, Some, None, IsSomeAnd, refl, sym, ap, ◌∙◌, subst, inl, inr, arith, Contains, IsTrue}
use Rattle.std.proofs.lemmas.Option.{slice_get_past, slice_get-get_or}
use Rattle.std.proofs.lemmas.Bool.{cases_lt}
use Rattle.std.proofs.lemmas.List.{length-append}
use Rattle.std.specs.Prelude.{option_and_then}
use Rattle.dj_names.specs.declared.descriptor.Base.TheVariants as bases
use Rattle.dj_names.specs.declared.descriptor.Of.{Of}
use Rattle.dj_names.specs.declared.descriptor.Of.TheVariants as ofs
use Rattle.dj_names.specs.declared.descriptor.Desc.{Desc}
use Rattle.dj_names.specs.declared.descriptor.Desc.TheVariants as descs
use Rattle.dj_names.specs.trusted.Descriptors.{of_text, desc_text, Describes}
use Rattle.dj_names.proofs.DescLaws.{described_once}
use Rattle.dj_pool.specs.trusted.Pool.{Constant, text_of, text_at}
use Rattle.dj_class.specs.trusted.ClassFile.{MemberInfo, ClassFile}
use Rattle.dj_report.proofs.Sorted.{contains_none, contains_cases}
use Rattle.dj_early_rules.specs.declared.judged.JudgedText.{JudgedText}
use Rattle.dj_early_rules.specs.trusted.Floats.{MentionsFloat, HasFloat}
use Rattle.dj_early_rules.specs.trusted.Attributes.{values_of}
use Rattle.dj_early_rules.specs.trusted.Malformed.{IsValueFor, IsFaultyField}
use Rattle.dj_early_rules.specs.Judged.{BeginsFloat, IsTextAt, first_in, first_of, AreTexts, AreNumbered, IsMarked, AreMembersMarked, Indexes, noted_at, number_in, IsNumberedBy, IsJudgedText, AreFirstTexts}
use Rattle.dj_early_rules.proofs.Anys.{slice_get_push}

-- ---- descriptors

pub reported_float : (text : List ℕ) (desc : Desc) (b : Bool) → Describes text desc → (IsTrue b ↔ MentionsFloat desc) → IsTrue b ↔ HasFloat text
reported_float text desc b described reported = (
  λ t. (desc, described, reported.0 t),
  λ has. reported.1 (subst MentionsFloat (described_once text has.0 desc has.1 described) has.2),
)

type_begins : (dims : ℕ) (of : Of) → ((of ≡ ofs.Base bases.Float) ⊎ (of ≡ ofs.Base bases.Double)) → BeginsFloat (replicate dims 91 ++ of_text of)
type_begins zero of (inl e) = subst (λ (o : Of). BeginsFloat (of_text o)) (sym e) (inr (inr (inl refl)))
type_begins zero of (inr e) = subst (λ (o : Of). BeginsFloat (of_text o)) (sym e) (inr (inr (inr refl)))
type_begins (suc n) of is = inr (inl refl)

desc_begins : (desc : Desc) → MentionsFloat desc → BeginsFloat (desc_text desc)
desc_begins (descs.Field ty) is = type_begins ty.dims ty.of is
desc_begins (descs.Method params ret) is = inl refl

-- a text that begins otherwise has no float
pub no_float : (text : List ℕ) → (BeginsFloat text → ⊥) → IsTrue false ↔ HasFloat text
no_float text other = (
  λ t. absurd cc,
  λ has. absurd (other (subst BeginsFloat (sym has.1.text_is) (desc_begins has.0 has.2))),
)

-- ---- texts

-- past the pool there is no text
pub past_texts : (pool : List Constant) (index : ℕ) → length pool < index → text_at pool index ≡ None
past_texts pool zero past = absurd (omega arith)
past_texts pool (suc i) past = ap (λ (k : Option Constant). option_and_then text_of k) (slice_get_past pool i (omega arith))

pub nothing_is : {A : Type 0} (found : Option A) (P : A → Type 0) → found ≡ None → IsSomeAnd found P → ⊥
nothing_is found P none is = subst (λ o. IsSomeAnd o P) none is

pub not_reported : {A : Type 0} (found : Option A) (P : A → Type 0) → found ≡ None → IsTrue false ↔ IsSomeAnd found P
not_reported found P none = ((λ t. absurd cc), (λ is. absurd (nothing_is found P none is)))

is_kept : (old new : Indexes) (pool : List Constant) (index : ℕ) (marked : Bool) (text : JudgedText) → ((key : List ℕ) (n : ℕ) → noted_at old key ≡ Some n → noted_at new key ≡ Some n) → IsNumberedBy old pool index marked text → IsNumberedBy new pool index marked text
is_kept old new pool index marked text kept number key own at = kept key text.first (number key own at)

same_mark : (marks : List Bool) (i : ℕ) (a b : Bool) → slice_get marks i ≡ Some a → slice_get marks i ≡ Some b → a ≡ b
same_mark marks i a b here there = let e = sym here ∙ there in cc

pub one_text_more : (old new : Indexes) (marks : List Bool) (pool : List Constant) (texts more : List JudgedText) (i : ℕ) (marked : Bool) (text : JudgedText) → more ≡ texts ++ text ∷ [] → slice_get marks i ≡ Some marked
    → IsJudgedText pool old new i marked text → AreFirstTexts old marks i pool texts → AreFirstTexts new marks (i + 1) pool more
one_text_more old new marks pool texts more i marked text are here is before = rw are (record {
  all = omega (arith, length-append texts (text ∷ []), before.all);
  means = λ index t e. elim (slice_get_push texts text index t e) [
    | inl was ↦ before.means index t was
    | inr (at, same) ↦ subst (λ (x : JudgedText). IsTextAt pool index x) same (subst (λ (k : ℕ). IsTextAt pool k text) (sym (at ∙ before.all)) is.means)
  ];
  number = λ index t m e found. elim (slice_get_push texts text index t e) [
    | inl was ↦ is_kept old new pool index m t is.kept (before.number index t m was found)
    | inr (at, same) ↦
        let place = at ∙ before.all in
        let mark = same_mark marks i marked m here (subst (λ (k : ℕ). slice_get marks k ≡ Some m) place found) in
        subst (λ (x : JudgedText). IsNumberedBy new pool index m x) same
        (subst (λ (k : ℕ). IsNumberedBy new pool k m text) (sym place) (subst (λ (b : Bool). IsNumberedBy new pool i b text) mark is.number))
  ];
  right = is.right;
})

pub all_texts : (indexes : Indexes) (marks : List Bool) (pool : List Constant) (texts : List JudgedText) (count : ℕ) → length pool + 1 ≤ count → AreFirstTexts indexes marks count pool texts → AreTexts pool texts
all_texts indexes marks pool texts count le are = record {
  all = (let e = are.all in omega arith);
  each = are.means;
}

no_text : JudgedText
no_text = record { float = false; reflective = false; first = 0 }

pub within_pool : (pool : List Constant) (index : ℕ) (t : List ℕ) → text_at pool index ≡ Some t → index ≤ length pool
within_pool pool index t at = elim (cases_lt (length pool) index) [
  | inl past ↦ (let e : None ≡ Some t = sym (past_texts pool index past) ∙ at in absurd cc)
  | inr le ↦ le
]

number_of : (found : Option ℕ) (n : ℕ) → found ≡ Some n → n ≡ unwrap_or found 0
number_of found n e = sym (ap (λ (o : Option ℕ). unwrap_or o 0) e)

numbered_at : (indexes : Indexes) (marks : List Bool) (pool : List Constant) (texts : List JudgedText) (index : ℕ) (t : List ℕ) → AreFirstTexts indexes marks (length marks) pool texts → index < length marks → IsMarked marks index
    → text_at pool index ≡ Some t → first_in texts index ≡ number_in indexes t
numbered_at indexes marks pool texts index t are lt marked at =
    let text = get_or texts index no_text in
    let found = slice_get-get_or texts index no_text (let e = are.all in omega (arith, e, lt)) in
    ap (first_of index) found ∙ number_of (noted_at indexes t) text.first (are.number index text true found marked t refl at)

-- the names of members are numbered
pub all_numbered : (c : ClassFile) (indexes : Indexes) (marks : List Bool) (texts : List JudgedText) (count : ℕ) → count ≡ length marks → AreMembersMarked c marks → AreFirstTexts indexes marks count c.pool texts → AreNumbered c texts
all_numbered c indexes marks texts count whole marked are =
    let all = subst (λ (n : ℕ). AreFirstTexts indexes marks n c.pool texts) whole are in
    let many = marked.count in
    record {
      numbers = number_in indexes;
      name = λ m t own at.
          let le = within_pool c.pool m.name t at in
          let lt : m.name < length marks = omega (arith, le, many) in
          numbered_at indexes marks c.pool texts m.name t all lt ((marked.each m own).name lt) at;
      desc = λ m t own at.
          let le = within_pool c.pool m.desc t at in
          let lt : m.desc < length marks = omega (arith, le, many) in
          numbered_at indexes marks c.pool texts m.desc t all lt ((marked.each m own).desc lt) at;
    }

-- ---- values of fields

pub one_value : (pool : List Constant) (f : MemberInfo) (body : List ℕ) (b : Bool) → values_of pool f ≡ body ∷ [] → (IsTrue b ↔ IsValueFor pool f.desc body) → IsTrue (not b) ↔ IsFaultyField pool f
one_value pool f body true one reported = (
  λ t. absurd cc,
  λ faulty. elim faulty [
    | inl two ↦ let e = ap length one in absurd (omega arith)
    | inr (other, own, bad) ↦
        elim (contains_cases body [] other (subst (λ (xs : List (List ℕ)). Contains xs other) one own)) [
          | inl same ↦ absurd (bad (subst (IsValueFor pool f.desc) same (reported.0 refl)))
          | inr none ↦ absurd (contains_none other none)
        ]
  ],
)
one_value pool f body false one reported = (
  λ t. inr (body, subst (λ (xs : List (List ℕ)). Contains xs body) (sym one) (0, omega arith, refl), λ is. let e = reported.1 is in absurd cc),
  λ faulty. refl,
)
