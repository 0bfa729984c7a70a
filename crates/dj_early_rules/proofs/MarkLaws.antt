-- Marks that passes add.
use Rattle.std.proofs.Common.{◌≡◌, ℕ, ◌+◌, ◌<◌, ◌⊎◌, ◌↔◌, Bool, List, map, length, get_or, Option, Some, refl, sym, ap, ◌∙◌, subst, inl, inr, arith, IsTrue, slice_get}
use Rattle.std.specs.List.{AllByRecursion}
use Rattle.std.proofs.lemmas.Bool.{cases_lt}
use Rattle.std.proofs.lemmas.List.{get_or-map, length-map}
use Rattle.std.proofs.lemmas.List.Elements.{All-from_recursion}
use Rattle.std.proofs.lemmas.Option.{slice_get_within}
use Rattle.dj_ops.specs.declared.instruction.Instr.{Instr}
use Rattle.dj_pool.specs.trusted.Pool.{Constant}
use Rattle.dj_labels.specs.declared.labelled.Protected.{Protected}
use Rattle.dj_labels.specs.declared.labelled.Labelled.{Labelled}
use Rattle.dj_report.specs.Lines.{Gains}
use Rattle.dj_report.proofs.Adding.{IsAmong, adds_same, adds_nothing, adds_both}
use Rattle.dj_class.specs.declared.class.MemberView.{MemberView}
use Rattle.dj_class.specs.Members.{member_of}
use Rattle.dj_class.specs.trusted.ClassFile.{MemberInfo, IsMethod}
use Rattle.dj_early_rules.specs.declared.judged.JudgedText.{JudgedText}
use Rattle.dj_early_rules.proofs.Anys.{seen_any, from_seen_any}
use Rattle.dj_early_rules.specs.declared.marks.MarkPlace.{MarkPlace}
use Rattle.dj_early_rules.specs.declared.marks.Mark.{Mark}
use Rattle.dj_early_rules.specs.trusted.Methods.{InstrViolates, CatchesError}
use Rattle.dj_early_rules.specs.trusted.Instructions.{IsDynamic, IsReflection, IsFloat, IsSubroutine, IsBreakpoint, IsMultiArray}
use Rattle.dj_early_rules.specs.Marks.{mark_at, place_of, MarksAt, MarksOf, ViolatesBelow, RangeViolates, IsAmongRanges, CodeMark, AreMarksOf, names_in}

-- the marks of one rule at a place
pub at_rule : (place : MarkPlace) (rule : ℕ) (b : Bool) (P : Type 0) (a c : List Mark) → (IsTrue b ↔ P) → Gains (λ mark. IsTrue b × (mark ≡ mark_at place rule)) a c
    → Gains (MarksAt place (λ r. P × (r ≡ rule))) a c
at_rule place rule b P a c reported =
    adds_same (λ mark. IsTrue b × (mark ≡ mark_at place rule)) (MarksAt place (λ r. P × (r ≡ rule))) a c (λ mark. (
      λ is. (ap (λ (m : Mark). m.place) is.1, (reported.0 is.0, ap (λ (m : Mark). m.rule) is.1)),
      λ is. (reported.1 is.1.0, λ i. record { place = is.0 i; rule = is.1.1 i }),
    ))

-- those of two conditions
pub both_at : (place : MarkPlace) (P Q : ℕ → Type 0) (a b c : List Mark) → Gains (MarksAt place P) a b → Gains (MarksAt place Q) b c → Gains (MarksAt place (λ r. P r ⊎ Q r)) a c
both_at place P Q a b c first second =
    adds_same (λ mark. MarksAt place P mark ⊎ MarksAt place Q mark) (MarksAt place (λ r. P r ⊎ Q r)) a c (λ mark. (
      λ any. elim any [ inl is ↦ (is.0, inl is.1) | inr is ↦ (is.0, inr is.1) ],
      λ is. elim is.1 [ inl p ↦ inl (is.0, p) | inr q ↦ inr (is.0, q) ],
    )) (adds_both (MarksAt place P) (MarksAt place Q) a b c first second)

-- those of an instruction, rule by rule
pub instr_marks : (place : MarkPlace) (pool : List Constant) (instr : Instr) (x0 x1 x2 x3 x4 x5 x6 : List Mark)
    → Gains (MarksAt place (λ r. IsDynamic pool instr × (r ≡ 9))) x0 x1 → Gains (MarksAt place (λ r. IsReflection pool instr × (r ≡ 10))) x1 x2
    → Gains (MarksAt place (λ r. IsFloat pool instr × (r ≡ 12))) x2 x3 → Gains (MarksAt place (λ r. IsSubroutine pool instr × (r ≡ 13))) x3 x4
    → Gains (MarksAt place (λ r. IsBreakpoint pool instr × (r ≡ 14))) x4 x5 → Gains (MarksAt place (λ r. IsMultiArray pool instr × (r ≡ 15))) x5 x6
    → Gains (MarksAt place (InstrViolates pool instr)) x0 x6
instr_marks place pool instr x0 x1 x2 x3 x4 x5 x6 dynamic reflection float subroutine breakpoint multi =
    both_at place (λ r. IsDynamic pool instr × (r ≡ 9)) (λ r. (IsReflection pool instr × (r ≡ 10)) ⊎ ((IsFloat pool instr × (r ≡ 12)) ⊎ ((IsSubroutine pool instr × (r ≡ 13)) ⊎ ((IsBreakpoint pool instr × (r ≡ 14)) ⊎ (IsMultiArray pool instr × (r ≡ 15)))))) x0 x1 x6 dynamic
    (both_at place (λ r. IsReflection pool instr × (r ≡ 10)) (λ r. (IsFloat pool instr × (r ≡ 12)) ⊎ ((IsSubroutine pool instr × (r ≡ 13)) ⊎ ((IsBreakpoint pool instr × (r ≡ 14)) ⊎ (IsMultiArray pool instr × (r ≡ 15))))) x1 x2 x6 reflection
    (both_at place (λ r. IsFloat pool instr × (r ≡ 12)) (λ r. (IsSubroutine pool instr × (r ≡ 13)) ⊎ ((IsBreakpoint pool instr × (r ≡ 14)) ⊎ (IsMultiArray pool instr × (r ≡ 15)))) x2 x3 x6 float
    (both_at place (λ r. IsSubroutine pool instr × (r ≡ 13)) (λ r. (IsBreakpoint pool instr × (r ≡ 14)) ⊎ (IsMultiArray pool instr × (r ≡ 15))) x3 x4 x6 subroutine
    (both_at place (λ r. IsBreakpoint pool instr × (r ≡ 14)) (λ r. IsMultiArray pool instr × (r ≡ 15)) x4 x5 x6 breakpoint multi))))

-- ---- instructions one after the other

-- a place of these names, by its own number
own_place : (names : ℕ × ℕ) (mark : Mark) (number : Option ℕ) → mark.place ≡ place_of names number → (mark.place.number ≡ number) × (mark.place ≡ place_of names mark.place.number)
own_place names mark number e =
    let reported = ap (λ (p : MarkPlace). p.number) e in
    (reported, e ∙ sym (ap (place_of names) reported))

some_instr : (a b : Instr) → Some a ≡ Some b → a ≡ b
some_instr a b e = cc

some_number : (a b : ℕ) → Some a ≡ Some b → a ≡ b
some_number a b e = cc

pub none_below : (names : ℕ × ℕ) (pool : List Constant) (code : List Instr) (a : List Mark) → Gains (MarksOf names (ViolatesBelow 0 pool code)) a a
none_below names pool code a = adds_nothing (MarksOf names (ViolatesBelow 0 pool code)) a (λ mark is. let lt = is.1.below in absurd (omega arith))

pub more_below : (names : ℕ × ℕ) (pool : List Constant) (code : List Instr) (i : ℕ) (instr : Instr) (a b c : List Mark) → slice_get code i ≡ Some instr
    → Gains (MarksOf names (ViolatesBelow i pool code)) a b → Gains (MarksAt (place_of names (Some i)) (InstrViolates pool instr)) b c
    → Gains (MarksOf names (ViolatesBelow (i + 1) pool code)) a c
more_below names pool code i instr a b c stands before here =
    adds_same (λ mark. MarksOf names (ViolatesBelow i pool code) mark ⊎ MarksAt (place_of names (Some i)) (InstrViolates pool instr) mark) (MarksOf names (ViolatesBelow (i + 1) pool code)) a c (λ mark. (
      λ any. elim any [
        | inl is ↦ (is.0, record { at = is.1.at; below = (let lt = is.1.below in omega arith); number_is = is.1.number_is; instr = is.1.instr; stands = is.1.stands; such = is.1.such })
        | inr is ↦
            let own = own_place names mark (Some i) is.0 in
            (own.1, record { at = i; below = omega arith; number_is = own.0; instr = instr; stands = stands; such = is.1 })
      ],
      λ is. elim (cases_lt is.1.at i) [
        | inl lt ↦ inl (is.0, record { at = is.1.at; below = lt; number_is = is.1.number_is; instr = is.1.instr; stands = is.1.stands; such = is.1.such })
        | inr ge ↦
            let lt = is.1.below in
            let same : is.1.at ≡ i = omega arith in
            let instrs = some_instr is.1.instr instr (sym is.1.stands ∙ ap (slice_get code) same ∙ stands) in
            inr (is.0 ∙ ap (place_of names) (is.1.number_is ∙ ap Some same), subst (λ (x : Instr). InstrViolates pool x mark.rule) instrs is.1.such)
      ],
    )) (adds_both (MarksOf names (ViolatesBelow i pool code)) (MarksAt (place_of names (Some i)) (InstrViolates pool instr)) a b c before here)

-- ---- handlers

pub handler_mark : (names : ℕ × ℕ) (pool : List Constant) (range : Protected) (b : Bool) (a c : List Mark) → (IsTrue b ↔ CatchesError pool range.catch_type)
    → Gains (λ mark. IsTrue b × (mark ≡ mark_at (place_of names (Some range.handler)) 11)) a c → Gains (MarksOf names (RangeViolates pool range)) a c
handler_mark names pool range b a c reported =
    adds_same (λ mark. IsTrue b × (mark ≡ mark_at (place_of names (Some range.handler)) 11)) (MarksOf names (RangeViolates pool range)) a c (λ mark. (
      λ is.
          let own = own_place names mark (Some range.handler) (ap (λ (m : Mark). m.place) is.1) in
          (own.1, (own.0, reported.0 is.0, ap (λ (m : Mark). m.rule) is.1)),
      λ is. (reported.1 is.1.1, λ i. record { place = (is.0 ∙ ap (place_of names) is.1.0) i; rule = is.1.2 i }),
    ))

-- ---- labelled code

pub code_marks : (names : ℕ × ℕ) (pool : List Constant) (labelled : Labelled) (a b c : List Mark)
    → Gains (MarksOf names (ViolatesBelow (length labelled.code) pool labelled.code)) a b → Gains (IsAmongRanges names pool labelled.ranges) b c → Gains (CodeMark names pool labelled) a c
code_marks names pool labelled a b c instrs handlers =
    adds_same (λ mark. MarksOf names (ViolatesBelow (length labelled.code) pool labelled.code) mark ⊎ IsAmongRanges names pool labelled.ranges mark) (CodeMark names pool labelled) a c (λ mark. (
      λ any. elim any [
        | inl is ↦ (is.0, record { at = is.1.at; number_is = is.1.number_is; such = inl (record { instr = is.1.instr; stands = is.1.stands; such = is.1.such }) })
        | inr (range, own, is) ↦ (is.0, record { at = range.handler; number_is = is.1.0; such = inr (record { range = range; own = own; begins = refl; catches = is.1.1; is = is.1.2 }) })
      ],
      λ is. elim is.1.such [
        | inl v ↦ inl (is.0, record { at = is.1.at; below = slice_get_within labelled.code is.1.at v.instr v.stands; number_is = is.1.number_is; instr = v.instr; stands = v.stands; such = v.such })
        | inr v ↦ inr (v.range, v.own, (is.0, (is.1.number_is ∙ ap Some v.begins, v.catches, v.is)))
      ],
    )) (adds_both (MarksOf names (ViolatesBelow (length labelled.code) pool labelled.code)) (IsAmongRanges names pool labelled.ranges) a b c instrs handlers)

-- ---- members, seen

pub marks_seen : (texts : List JudgedText) (Violates : MemberInfo → Option ℕ → ℕ → Type 0) (views : List MemberView) (members : List MemberInfo) (a b : List Mark) → map member_of views ≡ members
    → Gains (IsAmong (λ f. MarksOf (names_in texts (member_of f)) (Violates (member_of f))) views) a b → Gains (AreMarksOf texts Violates members) a b
marks_seen texts Violates views members a b are =
    adds_same (IsAmong (λ f. MarksOf (names_in texts (member_of f)) (Violates (member_of f))) views) (AreMarksOf texts Violates members) a b (λ mark. (
      λ any. seen_any member_of (λ m. MarksOf (names_in texts m) (Violates m) mark) views members are any,
      λ any. from_seen_any member_of (λ m. MarksOf (names_in texts m) (Violates m) mark) views members are any,
    ))

-- a method of a valid class file, as a loop meets it
pub method_valid : (pool : List Constant) (views : List MemberView) (methods : List MemberInfo) (i : ℕ) (item : MemberView) → map member_of views ≡ methods → i < length views → item ≡ get_or views i item
    → AllByRecursion (IsMethod pool) methods → IsMethod pool (member_of item)
method_valid pool views methods i item are lt is all =
    let seen : length (map member_of views) ≡ length views = simp length-map in
    let many = ap length are in
    let found : get_or methods i (member_of item) ≡ member_of item =
    sym (ap (λ (ms : List MemberInfo). get_or ms i (member_of item)) are) ∙ get_or-map member_of views i item (member_of item) lt ∙ sym (ap member_of is) in
    subst (IsMethod pool) found (All-from_recursion (IsMethod pool) methods all i (member_of item) (omega arith))
