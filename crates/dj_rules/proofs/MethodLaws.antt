-- The marks of methods.
use Rattle.std.proofs.Common.{◌≡◌, ◌≢◌, ℕ, ◌⊎◌, ◌↔◌, Bool, true, false, not, IsTrue, List, [], ◌∷◌, ◌++◌, Option, Some, None, refl, sym, ◌∙◌, subst, inl, inr, arith, Contains, Bor, Vec, Global}
use Rattle.dj_pool.specs.trusted.Pool.{Constant}
use Rattle.dj_class.specs.trusted.ClassFile.{MemberInfo, ClassFile}
use Rattle.dj_class.specs.trusted.Code.{CodeInfo}
use Rattle.dj_report.specs.Lines.{Gains}
use Rattle.dj_report.proofs.Sorted.{contains_none}
use Rattle.dj_report.proofs.Adding.{adds_same, adds_nothing, adds_both, adds_members, adds_part}
use Rattle.dj_file_rules.specs.trusted.Violations.{IsNative, IsFinalizer}
use Rattle.dj_model.specs.trusted.Program.{Program}
use Rattle.dj_early_rules.specs.declared.code.WholeCode.{WholeCode}
use Rattle.dj_early_rules.specs.declared.marks.Mark.{Mark}
use Rattle.dj_early_rules.specs.declared.judged.JudgedText.{JudgedText}
use Rattle.dj_early_rules.specs.trusted.Attributes.{codes_of}
use Rattle.dj_early_rules.specs.trusted.Code.{IsCodeOf}
use Rattle.dj_early_rules.specs.trusted.Floats.{NamesFloat}
use Rattle.dj_early_rules.specs.trusted.Malformed.{IsFaultyMethod}
use Rattle.dj_early_rules.specs.Marks.{place_of, names_in, MarksOf}
use Rattle.dj_early_rules.specs.trusted.Methods.{MethodViolates}
use Rattle.dj_early_rules.specs.Passes.{IsWholeMethod}
use Rattle.dj_link_rules.specs.declared.known.Known.{Known}
use Rattle.dj_link_rules.specs.trusted.Lines.{MethodLinkViolates}
use Rattle.dj_link_rules.specs.Marks.{IsUnreportedMethod}
use Rattle.dj_rules.specs.declared.lent.Marks.{Marks}
use Rattle.dj_rules.specs.trusted.Lines.{IsUnreported}
use Rattle.dj_rules.specs.Late.{HasKnown, ShapeViolates, MethodLateViolates, AreReportedMarks}
use Rattle.dj_rules.specs.Reported.{IsReportedMethod}

-- ---- whether there are marks

module _ (names : ℕ × ℕ) (Violates : Option ℕ → ℕ → Type 0) where
  -- where there are none, nothing is violated
  pub unreported_by : (marks : List Mark) → Gains (MarksOf names Violates) [] marks → marks ≡ [] → (number : Option ℕ) (rule : ℕ) → Violates number rule → ⊥
  unreported_by marks gains none number rule is =
      let mark : Mark = record { place = place_of names number; rule = rule } in
      contains_none mark (subst (λ (xs : List Mark). Contains xs mark) none ((gains mark).1 (inr (refl, is))))

  -- and else something is
  pub reported_by : (marks : List Mark) → Gains (MarksOf names Violates) [] marks → marks ≢ [] → ((number : Option ℕ) (rule : ℕ) → Violates number rule → ⊥) → ⊥
  reported_by [] gains some never = some refl
  reported_by (mark ∷ marks) gains some never = elim ((gains mark).0 (0, omega arith, refl)) [
    | inl none ↦ contains_none mark none
    | inr is ↦ never mark.place.number mark.rule is.1
  ]

nothing : (marks : List Mark) → (marks ≢ [] → ⊥) → marks ≡ []
nothing [] never = refl
nothing (mark ∷ marks) never = absurd (never (λ e. absurd cc))

-- ---- rule 19 is judged where no rule before it is violated

some_body : (bodies : List (List ℕ)) (body : List ℕ) → bodies ≡ body ∷ [] → bodies ≢ []
some_body bodies body one none = absurd cc

-- a method with code isn't native
with_code : (pool : List Constant) (m : MemberInfo) (code : WholeCode) → IsWholeMethod pool m code → IsNative m → ⊥
with_code pool m code is native = is.sound (inr (inl (inl native, some_body (codes_of pool m) is.body is.one)))

abbrev pub IsReported : ClassFile → MemberInfo → List Mark → List Mark → Type 0
IsReported c m early late = (early ≢ []) ⊎ ((late ≢ []) ⊎ IsFinalizer c.pool m)

module _ (program : Program) (c : ClassFile) (m : MemberInfo) (names : ℕ × ℕ) (early late : List Mark)
    (earlier : Gains (MarksOf names (MethodViolates c m)) [] early) (linked : Gains (MarksOf names (MethodLinkViolates program c m)) [] late) where
  reported : IsReported c m early late → IsUnreported program c m → ⊥
  reported any unreported = elim any [
    | inl some ↦ reported_by names (MethodViolates c m) early earlier some unreported.early
    | inr (inl some) ↦ reported_by names (MethodLinkViolates program c m) late linked some unreported.linked
    | inr (inr finalizer) ↦ unreported.finalizer finalizer
  ]

  unreported : (code : WholeCode) → IsWholeMethod c.pool m code → (IsReported c m early late → ⊥) → IsUnreported program c m
  unreported code whole never = record {
    native = with_code c.pool m code whole;
    finalizer = λ is. never (inr (inr is));
    early = unreported_by names (MethodViolates c m) early earlier (nothing early (λ some. never (inl some)));
    linked = unreported_by names (MethodLinkViolates program c m) late linked (nothing late (λ some. never (inr (inl some))));
  }

  pub late_reported : IsReported c m early late → Gains (MarksOf names (MethodLateViolates program c m)) [] late
  late_reported any =
      adds_same (MarksOf names (MethodLinkViolates program c m)) (MarksOf names (MethodLateViolates program c m)) [] late (λ mark. (
        λ is. (is.0, inl is.1),
        λ is. elim is.1 [ inl l ↦ (is.0, l) | inr s ↦ absurd (reported any s.unreported) ],
      )) linked

  pub late_shaped : (code : WholeCode) (all : List Mark) → IsWholeMethod c.pool m code → (IsReported c m early late → ⊥) → Gains (MarksOf names (ShapeViolates c.pool m)) late all
      → Gains (MarksOf names (MethodLateViolates program c m)) [] all
  late_shaped code all whole never shaped =
      adds_same (λ mark. MarksOf names (MethodLinkViolates program c m) mark ⊎ MarksOf names (ShapeViolates c.pool m) mark) (MarksOf names (MethodLateViolates program c m)) [] all (λ mark. (
        λ any. elim any [
          | inl l ↦ (l.0, inl l.1)
          | inr s ↦ (s.0, inr (record { unreported = unreported code whole never; lacks = s.1.0; rule_is = s.1.1 }))
        ],
        λ is. elim is.1 [
          | inl l ↦ inl (is.0, l)
          | inr s ↦ inr (is.0, (s.lacks, s.rule_is))
        ],
      )) (adds_both (MarksOf names (MethodLinkViolates program c m)) (MarksOf names (ShapeViolates c.pool m)) [] late all linked shaped)

-- what doesn't violate rule 12 has no float or double in its descriptor
pub plain_desc : (c : ClassFile) (m : MemberInfo) (names : ℕ × ℕ) (early : List Mark) → Gains (MarksOf names (MethodViolates c m)) [] early → (early ≢ [] → ⊥) → NamesFloat c.pool m.desc → ⊥
plain_desc c m names early gains never float = unreported_by names (MethodViolates c m) early gains (nothing early never) None 12 (inl (refl, inl (inl float, refl)))

-- ---- the marks of one method among those of a class

-- nothing is violated by a method without code
pub late_bodiless : (program : Program) (c : ClassFile) (m : MemberInfo) (names : ℕ × ℕ) (marks : List Mark) → codes_of c.pool m ≡ [] → Gains (MarksOf names (MethodLateViolates program c m)) marks marks
late_bodiless program c m names marks none = adds_nothing (MarksOf names (MethodLateViolates program c m)) marks (λ mark is. elim is.1 [
  | inl l ↦ no_code l.code.code l.code.own
  | inr s ↦ no_code s.lacks.code.info s.lacks.code.own
]) where
  no_code : (info : CodeInfo) → IsCodeOf c.pool m info → ⊥
  no_code info own = contains_none own.body (subst (λ (xs : List (List ℕ)). Contains xs own.body) none own.own)

appended : (P : Mark → Type 0) (old own new : List Mark) → Gains P [] own → new ≡ old ++ own → Gains P old new
appended P old own new gains is =
    adds_part P old own new gains (subst (λ (xs : List Mark). Gains (λ v. Contains own v) old xs) (sym is) (adds_members old own own (λ v. (λ x. x, λ x. x))))

pub whole_method : (c : ClassFile) (Has : Program → Type 0) (texts : List JudgedText) (m : MemberInfo) (old own new : Marks) → (IsFaultyMethod c.pool m → ⊥) → AreReportedMarks c Has (names_in texts m) m own
    → new.early.items ≡ old.early.items ++ own.early.items → new.late.items ≡ old.late.items ++ own.late.items → IsReportedMethod c Has texts m old new
whole_method c Has texts m old own new sound reported early late = record {
  sound = sound;
  early = appended (MarksOf (names_in texts m) (MethodViolates c m)) old.early.items own.early.items new.early.items reported.early early;
  late = λ program has. appended (MarksOf (names_in texts m) (MethodLateViolates program c m)) old.late.items own.late.items new.late.items (reported.late program has) late;
}

-- ---- what is known of a method with code

both_ways : (b : Bool) → IsTrue b → IsTrue (not b) → ⊥
both_ways true t n = absurd cc
both_ways false t n = absurd cc

pub unreported_where_none : (c : ClassFile) (m : MemberInfo) (names : ℕ × ℕ) (early first : List Mark) (some : Bool) → Gains (MarksOf names (MethodViolates c m)) [] early → first ≡ early → (IsTrue some ↔ (first ≢ [])) → IsTrue (not some)
    → IsUnreportedMethod c m
unreported_where_none c m names early first some gains same reported none =
    unreported_by names (MethodViolates c m) early gains (nothing early (λ any. both_ways some (reported.1 (λ e. any (sym same ∙ e))) none))

pub from_none : (P : Mark → Type 0) (start marks : List Mark) → start ≡ [] → Gains P start marks → Gains P [] marks
from_none P start marks none = subst (λ (xs : List Mark). Gains P xs marks) none

-- where nothing is lent
pub reported_nothing : (c : ClassFile) (known : Option (Bor Known)) (m : MemberInfo) (names : ℕ × ℕ) (marks : Marks) → known ≡ None → Gains (MarksOf names (MethodViolates c m)) [] marks.early.items → AreReportedMarks c (HasKnown known) names m marks
reported_nothing c known m names marks none early = record {
  early = early;
  late = λ program has. absurd (subst (λ (k : Option (Bor Known)). HasKnown k program) none has);
}

-- of what is lent
own_program : (known : Option (Bor Known)) (k : Bor Known) (program : Program) → known ≡ Some k → HasKnown known program → k.now.table.now ≡ program
own_program known k program is has = subst (λ (o : Option (Bor Known)). HasKnown o program) is has

by_lists : (c : ClassFile) (m : MemberInfo) (early late first second : List Mark) → first ≡ early → second ≡ late → IsReported c m first second → IsReported c m early late
by_lists c m early late first second a b any = elim any [
  | inl some ↦ inl (λ e. some (a ∙ e))
  | inr (inl some) ↦ inr (inl (λ e. some (b ∙ e)))
  | inr (inr finalizer) ↦ inr (inr finalizer)
]

pub reported_some : (c : ClassFile) (known : Option (Bor Known)) (k : Bor Known) (m : MemberInfo) (names : ℕ × ℕ) (early late : Vec Mark Global) (first second : List Mark) → known ≡ Some k → first ≡ early.items → second ≡ late.items
    → Gains (MarksOf names (MethodViolates c m)) [] early.items → Gains (MarksOf names (MethodLinkViolates k.now.table.now c m)) [] late.items → IsReported c m first second
    → AreReportedMarks c (HasKnown known) names m (record { early = early; late = late })
reported_some c known k m names early late first second is a b earlier linked any = record {
  early = earlier;
  late = λ program has.
      subst (λ (p : Program). Gains (MarksOf names (MethodLateViolates p c m)) [] late.items) (own_program known k program is has)
      (late_reported k.now.table.now c m names early.items late.items earlier linked (by_lists c m early.items late.items first second a b any));
}

pub reported_shaped : (c : ClassFile) (known : Option (Bor Known)) (k : Bor Known) (m : MemberInfo) (names : ℕ × ℕ) (code : WholeCode) (early late all : Vec Mark Global) (first second : List Mark) (own : ℕ × ℕ) → known ≡ Some k → own ≡ names
    → first ≡ early.items → second ≡ late.items → Gains (MarksOf names (MethodViolates c m)) [] early.items → Gains (MarksOf names (MethodLinkViolates k.now.table.now c m)) [] late.items → IsWholeMethod c.pool m code
    → (IsReported c m first second → ⊥) → Gains (MarksOf own (ShapeViolates c.pool m)) late.items all.items → AreReportedMarks c (HasKnown known) names m (record { early = early; late = all })
reported_shaped c known k m names code early late all first second own is named a b earlier linked whole never shaped = record {
  early = earlier;
  late = λ program has.
      subst (λ (p : Program). Gains (MarksOf names (MethodLateViolates p c m)) [] all.items) (own_program known k program is has)
      (late_shaped k.now.table.now c m names early.items late.items earlier linked code all.items whole (λ any. never (by_lists c m first second early.items late.items (sym a) (sym b) any))
      (subst (λ (ns : ℕ × ℕ). Gains (MarksOf ns (ShapeViolates c.pool m)) late.items all.items) named shaped));
}
