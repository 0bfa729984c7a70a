-- Marks of the rules 17 and 18 that passes add.
use Rattle.std.proofs.Common.{◌≡◌, ℕ, ◌+◌, ◌⊎◌, ◌↔◌, Bool, true, false, List, [], length, Option, Some, None, refl, sym, ap, ◌∙◌, subst, inl, inr, arith, Decides, IsTrue, IsFalse, slice_get}
use Rattle.std.proofs.lemmas.Bool.{cases_lt, false_from_ne_true}
use Rattle.std.proofs.lemmas.Option.{slice_get_within}
use Rattle.std.specs.Prelude.{option_and_then}
use Rattle.dj_names.specs.trusted.Types.{Name}
use Rattle.dj_ops.specs.declared.instruction.Instr.{Instr}
use Rattle.dj_pool.specs.trusted.Pool.{Constant}
use Rattle.dj_class.specs.trusted.ClassFile.{MemberInfo, ClassFile}
use Rattle.dj_labels.specs.declared.labelled.Protected.{Protected}
use Rattle.dj_labels.specs.declared.labelled.Labelled.{Labelled}
use Rattle.dj_report.specs.Lines.{Gains}
use Rattle.dj_report.proofs.Adding.{adds_same, adds_nothing, adds_both, not_both}
use Rattle.dj_file_rules.specs.trusted.Violations.{this_name}
use Rattle.dj_early_rules.specs.declared.code.WholeCode.{WholeCode}
use Rattle.dj_early_rules.specs.declared.marks.MarkPlace.{MarkPlace}
use Rattle.dj_early_rules.specs.declared.marks.Mark.{Mark}
use Rattle.dj_early_rules.specs.trusted.Attributes.{codes_of}
use Rattle.dj_early_rules.specs.trusted.Instructions.{index_of}
use Rattle.dj_early_rules.specs.trusted.Methods.{InstrViolates, CatchesError}
use Rattle.dj_early_rules.specs.Passes.{IsWholeMethod}
use Rattle.dj_early_rules.specs.Marks.{mark_at, place_of, MarksAt, MarksOf}
use Rattle.dj_early_rules.proofs.MethodLaws.{one_labelled, labelled_own, no_code_of}
use Rattle.dj_link_rules.specs.trusted.Lines.{IsUnreported, IsFirstOf, LinkViolates, CatchViolates, CodeLinkViolates, MethodLinkViolates}
use Rattle.dj_link_rules.specs.declared.known.Known.{Known}
use Rattle.dj_link_rules.specs.Judged.{kept_at}
use Rattle.dj_link_rules.specs.Known.{is_foreign, is_foreign_by, is_unlinked, is_unlinked_at, is_foreign_catch, is_unlinked_catch, IsKnown, IsRuled, KnownInstr, KnownCatch, KnownBelow, KnownRange, KnownCode}
use Rattle.dj_link_rules.specs.Marks.{AreRangeMarks, AreUnreported, IsUnreportedMethod}
use Rattle.dj_link_rules.proofs.Judging.{foreign_instr, unlinked_instr, foreign_catch, unlinked_catch}

-- ---- one mark

named_none : (known : Known) (instr : Instr) (index : Option ℕ) → index ≡ None → (is_foreign_by known instr (option_and_then (kept_at known.kept.now) index) ≡ false) × (is_unlinked_at known instr index ≡ false)
named_none known instr None none = (refl, refl)
named_none known instr (Some index) none = absurd cc

-- an instruction that names no constant violates neither rule
pub unnamed_mark : (place : MarkPlace) (known : Known) (pool : List Constant) (instr : Instr) (a : List Mark) → index_of instr ≡ None → Gains (MarksAt place (KnownInstr known pool instr)) a a
unnamed_mark place known pool instr a none =
    let both = named_none known instr (index_of instr) none in
    adds_nothing (MarksAt place (KnownInstr known pool instr)) a (λ mark m. elim m.1.1 [
      | inl f ↦ not_both (is_foreign known instr) f.0 both.0
      | inr u ↦ not_both (is_unlinked known instr) u.1 both.1
    ])

pub reported_mark : (place : MarkPlace) (reported foreign unlinked : Bool) (a : List Mark) → reported ≡ true → Gains (MarksAt place (IsRuled reported foreign unlinked)) a a
reported_mark place reported foreign unlinked a is = adds_nothing (MarksAt place (IsRuled reported foreign unlinked)) a (λ mark m. not_both reported is m.1.0)

pub foreign_mark : (place : MarkPlace) (reported foreign unlinked : Bool) (a b : List Mark) → reported ≡ false → foreign ≡ true
    → Gains (λ mark. IsTrue foreign × (mark ≡ mark_at place 17)) a b → Gains (MarksAt place (IsRuled reported foreign unlinked)) a b
foreign_mark place reported foreign unlinked a b unreported is =
    adds_same (λ mark. IsTrue foreign × (mark ≡ mark_at place 17)) (MarksAt place (IsRuled reported foreign unlinked)) a b (λ mark. (
      λ m. (ap (λ (x : Mark). x.place) m.1, (unreported, inl (m.0, ap (λ (x : Mark). x.rule) m.1))),
      λ m. elim m.1.1 [
        | inl f ↦ (f.0, λ i. record { place = m.0 i; rule = f.1 i })
        | inr u ↦ absurd (u.0 is)
      ],
    ))

pub unlinked_mark : (place : MarkPlace) (reported foreign unlinked : Bool) (a b : List Mark) → reported ≡ false → foreign ≡ false
    → Gains (λ mark. IsTrue unlinked × (mark ≡ mark_at place 18)) a b → Gains (MarksAt place (IsRuled reported foreign unlinked)) a b
unlinked_mark place reported foreign unlinked a b unreported known =
    adds_same (λ mark. IsTrue unlinked × (mark ≡ mark_at place 18)) (MarksAt place (IsRuled reported foreign unlinked)) a b (λ mark. (
      λ m. (ap (λ (x : Mark). x.place) m.1, (unreported, inr ((λ f. not_both foreign f known), m.0, ap (λ (x : Mark). x.rule) m.1))),
      λ m. elim m.1.1 [
        | inl f ↦ absurd (not_both foreign f.0 known)
        | inr u ↦ (u.1, λ i. record { place = m.0 i; rule = u.2 i })
      ],
    ))

-- the same by what decides it
ruled_by : (place : MarkPlace) (reported foreign unlinked f u : Bool) (Unreported : Type 0) (a b : List Mark) → (IsFalse reported ↔ Unreported) → foreign ≡ f → unlinked ≡ u
    → Gains (MarksAt place (IsRuled reported foreign unlinked)) a b → Gains (MarksAt place (λ rule. Unreported × IsFirstOf (IsTrue f) (IsTrue u) rule)) a b
ruled_by place reported foreign unlinked f u Unreported a b means is_f is_u gains =
    let known : Gains (MarksAt place (IsRuled reported f u)) a b =
    subst (λ (x : Bool). Gains (MarksAt place (IsRuled reported x u)) a b) is_f (subst (λ (y : Bool). Gains (MarksAt place (IsRuled reported foreign y)) a b) is_u gains) in
    adds_same (MarksAt place (IsRuled reported f u)) (MarksAt place (λ rule. Unreported × IsFirstOf (IsTrue f) (IsTrue u) rule)) a b (λ mark. (
      λ m. (m.0, (means.0 m.1.0, m.1.1)),
      λ m. (m.0, (means.1 m.1.0, m.1.1)),
    )) known

unreported_instr : (pool : List Constant) (instr : Instr) (reported : Bool) → (IsTrue reported ↔ ((rule : ℕ) × InstrViolates pool instr rule)) → IsFalse reported ↔ IsUnreported pool instr
unreported_instr pool instr reported means = (
  λ e rule is. not_both reported (means.1 (rule, is)) e,
  λ none. false_from_ne_true reported (λ t. let is = means.0 t in none is.0 is.1),
)

pub instr_mark : (place : MarkPlace) (known : Known) (pool : List Constant) (instr : Instr) (reported foreign unlinked : Bool) (a b : List Mark) → (IsTrue reported ↔ ((rule : ℕ) × InstrViolates pool instr rule))
    → foreign ≡ is_foreign known instr → unlinked ≡ is_unlinked known instr → Gains (MarksAt place (IsRuled reported foreign unlinked)) a b → Gains (MarksAt place (KnownInstr known pool instr)) a b
instr_mark place known pool instr reported foreign unlinked a b means is_f is_u =
    ruled_by place reported foreign unlinked (is_foreign known instr) (is_unlinked known instr) (IsUnreported pool instr) a b (unreported_instr pool instr reported means) is_f is_u

-- ---- instructions one after the other

-- a place of these names, by its own number
own_place : (names : ℕ × ℕ) (mark : Mark) (number : Option ℕ) → mark.place ≡ place_of names number → (mark.place.number ≡ number) × (mark.place ≡ place_of names mark.place.number)
own_place names mark number e =
    let reported = ap (λ (p : MarkPlace). p.number) e in
    (reported, e ∙ sym (ap (place_of names) reported))

some_instr : (a b : Instr) → Some a ≡ Some b → a ≡ b
some_instr a b e = cc

pub none_below : (names : ℕ × ℕ) (known : Known) (pool : List Constant) (code : List Instr) (a : List Mark) → Gains (MarksOf names (KnownBelow 0 known pool code)) a a
none_below names known pool code a = adds_nothing (MarksOf names (KnownBelow 0 known pool code)) a (λ mark is. let lt = is.1.below in absurd (omega arith))

pub more_below : (names : ℕ × ℕ) (known : Known) (pool : List Constant) (code : List Instr) (i : ℕ) (instr : Instr) (a b c : List Mark) → slice_get code i ≡ Some instr
    → Gains (MarksOf names (KnownBelow i known pool code)) a b → Gains (MarksAt (place_of names (Some i)) (KnownInstr known pool instr)) b c
    → Gains (MarksOf names (KnownBelow (i + 1) known pool code)) a c
more_below names known pool code i instr a b c stands before here =
    adds_same (λ mark. MarksOf names (KnownBelow i known pool code) mark ⊎ MarksAt (place_of names (Some i)) (KnownInstr known pool instr) mark) (MarksOf names (KnownBelow (i + 1) known pool code)) a c (λ mark. (
      λ any. elim any [
        | inl is ↦ (is.0, record { at = is.1.at; below = (let lt = is.1.below in omega arith); number_is = is.1.number_is; instr = is.1.instr; stands = is.1.stands; such = is.1.such })
        | inr is ↦
            let own = own_place names mark (Some i) is.0 in
            (own.1, record { at = i; below = omega arith; number_is = own.0; instr = instr; stands = stands; such = is.1 })
      ],
      λ is. elim (cases_lt is.1.at i) [
        | inl lt ↦ inl (is.0, record { at = is.1.at; below = lt; number_is = is.1.number_is; instr = is.1.instr; stands = is.1.stands; such = is.1.such })
        | inr ge ↦
            let lt = is.1.below in
            let same : is.1.at ≡ i = omega arith in
            let instrs = some_instr is.1.instr instr (sym is.1.stands ∙ ap (slice_get code) same ∙ stands) in
            inr (is.0 ∙ ap (place_of names) (is.1.number_is ∙ ap Some same), subst (λ (x : Instr). KnownInstr known pool x mark.rule) instrs is.1.such)
      ],
    )) (adds_both (MarksOf names (KnownBelow i known pool code)) (MarksAt (place_of names (Some i)) (KnownInstr known pool instr)) a b c before here)

-- ---- handlers

unreported_catch : (pool : List Constant) (index : ℕ) (reported : Bool) → (IsTrue reported ↔ CatchesError pool index) → IsFalse reported ↔ (CatchesError pool index → ⊥)
unreported_catch pool index reported means = (
  λ e is. not_both reported (means.1 is) e,
  λ none. false_from_ne_true reported (λ t. none (means.0 t)),
)

pub handler_mark : (names : ℕ × ℕ) (known : Known) (pool : List Constant) (range : Protected) (reported foreign unlinked : Bool) (a b : List Mark) → (IsTrue reported ↔ CatchesError pool range.catch_type)
    → foreign ≡ is_foreign_catch known range.catch_type → unlinked ≡ is_unlinked_catch known range.catch_type
    → Gains (MarksAt (place_of names (Some range.handler)) (IsRuled reported foreign unlinked)) a b → Gains (MarksOf names (KnownRange known pool range)) a b
handler_mark names known pool range reported foreign unlinked a b means is_f is_u gains =
    let place = place_of names (Some range.handler) in
    adds_same (MarksAt place (KnownCatch known pool range.catch_type)) (MarksOf names (KnownRange known pool range)) a b (λ mark. (
      λ m. let own = own_place names mark (Some range.handler) m.0 in (own.1, (own.0, m.1)),
      λ m. (m.0 ∙ ap (place_of names) m.1.0, m.1.1),
    )) (ruled_by place reported foreign unlinked (is_foreign_catch known range.catch_type) (is_unlinked_catch known range.catch_type) (CatchesError pool range.catch_type → ⊥) a b
    (unreported_catch pool range.catch_type reported means) is_f is_u gains)

-- ---- labelled code

pub code_marks : (names : ℕ × ℕ) (known : Known) (pool : List Constant) (labelled : Labelled) (a b c : List Mark)
    → Gains (MarksOf names (KnownBelow (length labelled.code) known pool labelled.code)) a b → Gains (AreRangeMarks names known pool labelled.ranges) b c → Gains (MarksOf names (KnownCode known pool labelled)) a c
code_marks names known pool labelled a b c instrs handlers =
    adds_same (λ mark. MarksOf names (KnownBelow (length labelled.code) known pool labelled.code) mark ⊎ AreRangeMarks names known pool labelled.ranges mark) (MarksOf names (KnownCode known pool labelled)) a c (λ mark. (
      λ any. elim any [
        | inl is ↦ (is.0, inl is.1)
        | inr (range, own, is) ↦ (is.0, inr (range, own, is.1))
      ],
      λ is. elim is.1 [
        | inl v ↦ inl (is.0, v)
        | inr (range, own, v) ↦ inr (range, own, (is.0, v))
      ],
    )) (adds_both (MarksOf names (KnownBelow (length labelled.code) known pool labelled.code)) (AreRangeMarks names known pool labelled.ranges) a b c instrs handlers)

-- ---- methods

first_to : (f u : Bool) (F U : Type 0) (rule : ℕ) → Decides f F → Decides u U → IsFirstOf (IsTrue f) (IsTrue u) rule → IsFirstOf F U rule
first_to f u F U rule df du (inl is) = inl (df.0 is.0, is.1)
first_to f u F U rule df du (inr is) = inr ((λ x. is.0 (df.1 x)), du.0 is.1, is.2)

first_from : (f u : Bool) (F U : Type 0) (rule : ℕ) → Decides f F → Decides u U → IsFirstOf F U rule → IsFirstOf (IsTrue f) (IsTrue u) rule
first_from f u F U rule df du (inl is) = inl (df.1 is.0, is.1)
first_from f u F U rule df du (inr is) = inr ((λ t. is.0 (df.0 t)), du.1 is.1, is.2)

instr_to : (own : Name) (pool : List Constant) (known : Known) (instr : Instr) (rule : ℕ) → IsKnown own pool known → KnownInstr known pool instr rule → LinkViolates known.table.now own pool instr rule
instr_to own pool known instr rule is v = (v.0, first_to _ _ _ _ rule (foreign_instr own pool known instr is) (unlinked_instr own pool known instr is) v.1)

instr_from : (own : Name) (pool : List Constant) (known : Known) (instr : Instr) (rule : ℕ) → IsKnown own pool known → LinkViolates known.table.now own pool instr rule → KnownInstr known pool instr rule
instr_from own pool known instr rule is v = (v.0, first_from _ _ _ _ rule (foreign_instr own pool known instr is) (unlinked_instr own pool known instr is) v.1)

catch_to : (own : Name) (pool : List Constant) (known : Known) (index rule : ℕ) → IsKnown own pool known → KnownCatch known pool index rule → CatchViolates known.table.now pool index rule
catch_to own pool known index rule is v = (v.0, first_to _ _ _ _ rule (foreign_catch own pool known index is) (unlinked_catch own pool known index is) v.1)

catch_from : (own : Name) (pool : List Constant) (known : Known) (index rule : ℕ) → IsKnown own pool known → CatchViolates known.table.now pool index rule → KnownCatch known pool index rule
catch_from own pool known index rule is v = (v.0, first_from _ _ _ _ rule (foreign_catch own pool known index is) (unlinked_catch own pool known index is) v.1)

from_known : (c : ClassFile) (m : MemberInfo) (known : Known) (code : WholeCode) (number : Option ℕ) (rule : ℕ) → IsKnown (this_name c) c.pool known → IsWholeMethod c.pool m code
    → KnownCode known c.pool code.labelled number rule → MethodLinkViolates known.table.now c m number rule
from_known c m known code number rule is whole (inl v) = record {
  labelled = code.labelled;
  code = labelled_own c.pool m code whole;
  at = v.at;
  number_is = v.number_is;
  such = inl (record { instr = v.instr; stands = v.stands; such = instr_to (this_name c) c.pool known v.instr rule is v.such });
}
from_known c m known code number rule is whole (inr (range, own, v)) = record {
  labelled = code.labelled;
  code = labelled_own c.pool m code whole;
  at = range.handler;
  number_is = v.0;
  such = inr (record { range = range; own = own; begins = refl; such = catch_to (this_name c) c.pool known range.catch_type rule is v.1 });
}

known_at : (c : ClassFile) (known : Known) (labelled : Labelled) (at : ℕ) (number : Option ℕ) (rule : ℕ) → IsKnown (this_name c) c.pool known → number ≡ Some at
    → CodeLinkViolates known.table.now (this_name c) c.pool labelled at rule → KnownCode known c.pool labelled number rule
known_at c known labelled at number rule is number_is (inl v) = inl (record {
  at = at;
  below = slice_get_within labelled.code at v.instr v.stands;
  number_is = number_is;
  instr = v.instr;
  stands = v.stands;
  such = instr_from (this_name c) c.pool known v.instr rule is v.such;
})
known_at c known labelled at number rule is number_is (inr v) =
    inr (v.range, v.own, (number_is ∙ ap Some v.begins, catch_from (this_name c) c.pool known v.range.catch_type rule is v.such))

to_known : (c : ClassFile) (m : MemberInfo) (known : Known) (code : WholeCode) (number : Option ℕ) (rule : ℕ) → IsKnown (this_name c) c.pool known → IsWholeMethod c.pool m code
    → MethodLinkViolates known.table.now c m number rule → KnownCode known c.pool code.labelled number rule
to_known c m known code number rule is whole v =
    known_at c known code.labelled v.at number rule is v.number_is
    (subst (λ (l : Labelled). CodeLinkViolates known.table.now (this_name c) c.pool l v.at rule) (one_labelled c.pool m code v.labelled whole v.code) v.such)

-- a method that violates no rule has no instruction that does
pub unreported_code : (c : ClassFile) (m : MemberInfo) (code : WholeCode) → IsWholeMethod c.pool m code → IsUnreportedMethod c m → AreUnreported c.pool code.labelled.code
unreported_code c m code is never number instr stands rule violates =
    never (Some number) rule (inr (record {
      labelled = code.labelled;
      code = labelled_own c.pool m code is;
      at = number;
      number_is = refl;
      such = inl (record { instr = instr; stands = stands; such = violates });
    }))

pub method_marks : (c : ClassFile) (m : MemberInfo) (names : ℕ × ℕ) (known : Known) (code : WholeCode) (a b : List Mark) → IsKnown (this_name c) c.pool known → IsWholeMethod c.pool m code
    → Gains (MarksOf names (KnownCode known c.pool code.labelled)) a b → Gains (MarksOf names (MethodLinkViolates known.table.now c m)) a b
method_marks c m names known code a b is whole =
    adds_same (MarksOf names (KnownCode known c.pool code.labelled)) (MarksOf names (MethodLinkViolates known.table.now c m)) a b (λ mark. (
      λ v. (v.0, from_known c m known code mark.place.number mark.rule is whole v.1),
      λ v. (v.0, to_known c m known code mark.place.number mark.rule is whole v.1),
    ))

-- a method without code has none
pub bodiless_marks : (c : ClassFile) (m : MemberInfo) (names : ℕ × ℕ) (known : Known) (a : List Mark) → codes_of c.pool m ≡ [] → Gains (MarksOf names (MethodLinkViolates known.table.now c m)) a a
bodiless_marks c m names known a none = adds_nothing (MarksOf names (MethodLinkViolates known.table.now c m)) a (λ mark v. no_code_of c.pool m v.1.code.code none v.1.code.own)
