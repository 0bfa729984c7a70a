-- What the code of a method is, and that it is no fault.
use Rattle.std.proofs.Common.{◌≡◌, ℕ, ◌≤◌, false, List, [], ◌∷◌, length, Option, Some, None, Bor, Ok, Err, Contains, refl, sym, ap, ◌∙◌, subst, inl, inr, arith}
use Rattle.dj_ops.specs.declared.rows.CatchRow.{CatchRow}
use Rattle.dj_pool.specs.declared.pool.PoolError.TheVariants as pool_errors
use Rattle.dj_pool.specs.trusted.Pool.{Constant}
use Rattle.dj_class.specs.declared.class.ClassError.{ClassError}
use Rattle.dj_class.specs.declared.class.ClassError.TheVariants as class_errors
use Rattle.dj_class.specs.trusted.ClassFile.{MemberInfo}
use Rattle.dj_class.specs.trusted.Code.{CodeInfo, IsCode}
use Rattle.dj_class.specs.CodeViews.{ReadsCode}
use Rattle.dj_class.specs.Memory.{is_memory}
use Rattle.dj_class.proofs.CodeLaws.{one_code, faulty_is_no_code}
use Rattle.dj_labels.specs.declared.labelled.Labelled.{Labelled}
use Rattle.dj_labels.specs.declared.errors.CodeError.{CodeError}
use Rattle.dj_labels.specs.declared.errors.CodeError.TheVariants as code_errors
use Rattle.dj_labels.specs.trusted.Labels.{IsLabelled}
use Rattle.dj_labels.specs.Faults.{Yields}
use Rattle.dj_report.proofs.Sorted.{contains_none, contains_cases}
use Rattle.dj_early_rules.specs.declared.code.WholeCode.{WholeCode}
use Rattle.dj_early_rules.specs.declared.code.MethodBody.{MethodBody}
use Rattle.dj_early_rules.specs.declared.code.MethodBody.TheVariants as methods
use Rattle.dj_early_rules.specs.trusted.Attributes.{codes_of, maps_of}
use Rattle.dj_early_rules.specs.trusted.Malformed.{IsBodiless, IsFaultyCode, IsFaultyBody, IsFaultyMethod}
use Rattle.dj_early_rules.specs.Passes.{lacks_memory, bodies_in, IsWholeCode, IsMappedView, IsCodeView, IsWholeBody, IsWholeMethod, IsBodilessView, IsOwnView, IsMethodView}

-- ---- labels

-- where another error than want of memory was reported there are no labels
pub no_labels : (code : List ℕ) (table : List CatchRow) (e : CodeError) → lacks_memory e ≡ false
    → ((l : Labelled) → IsLabelled code table l → Yields (Err e) (Ok l)) → (l : Labelled) → IsLabelled code table l → ⊥
no_labels code table code_errors.Memory other all l is = absurd cc
no_labels code table (code_errors.Op at) other all l is = elim (all l is) [ inl e ↦ absurd cc | inr m ↦ absurd cc ]
no_labels code table (code_errors.Target at) other all l is = elim (all l is) [ inl e ↦ absurd cc | inr m ↦ absurd cc ]
no_labels code table (code_errors.Range number) other all l is = elim (all l is) [ inl e ↦ absurd cc | inr m ↦ absurd cc ]

-- ---- bodies

-- a body that was not read is no Code attribute's, unless memory ran out
pub no_code : (body : List ℕ) (e : ClassError) → ReadsCode body (Err e) → is_memory e ≡ false → (info : CodeInfo) → IsCode body info → ⊥
no_code body class_errors.Magic r m = faulty_is_no_code body _ r
no_code body (class_errors.Cut place) r m = faulty_is_no_code body _ r
no_code body (class_errors.Pool (pool_errors.Cut place)) r m = faulty_is_no_code body _ r
no_code body (class_errors.Pool (pool_errors.Tag place)) r m = faulty_is_no_code body _ r
no_code body (class_errors.Pool (pool_errors.Link index)) r m = faulty_is_no_code body _ r
no_code body (class_errors.Pool (pool_errors.Text index)) r m = faulty_is_no_code body _ r
no_code body (class_errors.Pool pool_errors.Memory) r m = absurd cc
no_code body (class_errors.Index place) r m = faulty_is_no_code body _ r
no_code body (class_errors.Trailing place) r m = faulty_is_no_code body _ r
no_code body class_errors.Memory r m = absurd cc

few_bodies : (map : Option (Bor (List ℕ))) → length (bodies_in map) ≤ 1
few_bodies None = omega arith
few_bodies (Some body) = omega arith

-- code with the maps that it has
pub mapped_code : (pool : List Constant) (info : CodeInfo) (maps : List (List ℕ)) (view : Option WholeCode) → maps_of pool info ≡ maps → IsMappedView info maps view → IsCodeView pool info view
mapped_code pool info maps None are is = inl is
mapped_code pool info maps (Some code) are is = record { stack = is.stack; locals = is.locals; bytes = is.bytes; labels = is.labels; maps = are ∙ is.maps_are; frames = is.frames }

-- whole code has no fault
pub whole_code_sound : (pool : List Constant) (info : CodeInfo) (code : WholeCode) → IsWholeCode pool info code → IsFaultyCode pool info → ⊥
whole_code_sound pool info code whole faulty = elim faulty [
  | inl none ↦ none code.labelled whole.labels
  | inr two ↦ let few = few_bodies code.map in let same = ap length whole.maps in absurd (omega arith)
]

pub whole_body_sound : (pool : List Constant) (body : List ℕ) (code : WholeCode) → IsWholeBody pool body code → IsFaultyBody pool body → ⊥
whole_body_sound pool body code whole faulty = elim faulty [
  | inl none ↦ none whole.info whole.is
  | inr (info, is, bad) ↦ whole_code_sound pool whole.info code whole.whole (subst (IsFaultyCode pool) (one_code body info whole.info is whole.is) bad)
]

-- ---- methods

one_length : (bodies : List (List ℕ)) (body : List ℕ) → bodies ≡ body ∷ [] → (length bodies ≡ 1)
one_length bodies body e = ap length e

one_member : (bodies : List (List ℕ)) (body other : List ℕ) → bodies ≡ body ∷ [] → Contains bodies other → body ≡ other
one_member bodies body other e m =
    elim (contains_cases body [] other (subst (λ (xs : List (List ℕ)). Contains xs other) e m)) [ inl is ↦ is | inr none ↦ absurd (contains_none other none) ]

pub whole_method : (pool : List Constant) (m : MemberInfo) (body : List ℕ) (code : WholeCode) → (IsBodiless m → ⊥) → codes_of pool m ≡ body ∷ [] → IsWholeBody pool body code → IsWholeMethod pool m code
whole_method pool m body code own one whole = record {
  sound = λ faulty. elim faulty [
    | inl lacks ↦ lacks.1 (one_length (codes_of pool m) body one)
    | inr (inl needless) ↦ own needless.0
    | inr (inr (other, contained, bad)) ↦
        whole_body_sound pool body code whole (subst (IsFaultyBody pool) (sym (one_member (codes_of pool m) body other one contained)) bad)
  ];
  body = body;
  one = one;
  whole = whole;
}

pub bodiless_sound : (pool : List Constant) (m : MemberInfo) → IsBodiless m → codes_of pool m ≡ [] → IsFaultyMethod pool m → ⊥
bodiless_sound pool m is none faulty = elim faulty [
  | inl lacks ↦ lacks.0 is
  | inr (inl needless) ↦ needless.1 none
  | inr (inr (body, contained, bad)) ↦ contains_none body (subst (λ (xs : List (List ℕ)). Contains xs body) none contained)
]

-- one body, which is faulty
pub faulty_body : (pool : List Constant) (m : MemberInfo) (body : List ℕ) → codes_of pool m ≡ body ∷ [] → IsFaultyBody pool body → IsFaultyMethod pool m
faulty_body pool m body one bad = inr (inr (body, subst (λ (xs : List (List ℕ)). Contains xs body) (sym one) (0, omega arith, refl), bad))

-- what a native or abstract method has
pub bodiless_view : (pool : List Constant) (m : MemberInfo) (view : MethodBody) → IsBodiless m → IsBodilessView (codes_of pool m) view → IsMethodView pool m view
bodiless_view pool m methods.Faulty is some = inr (inl (is, some))
bodiless_view pool m methods.Bodiless is none = (bodiless_sound pool m is none, none)
bodiless_view pool m (methods.Whole code) is none = absurd none

-- what another method has
pub own_view : (pool : List Constant) (m : MemberInfo) (view : MethodBody) → (IsBodiless m → ⊥) → IsOwnView pool (codes_of pool m) view → IsMethodView pool m view
own_view pool m methods.Faulty own bad = elim bad [
  | inl other ↦ inl (own, other)
  | inr (body, one, faulty) ↦ faulty_body pool m body one faulty
]
own_view pool m methods.Bodiless own none = absurd none
own_view pool m (methods.Whole code) own has = whole_method pool m has.body code own has.one has.whole
