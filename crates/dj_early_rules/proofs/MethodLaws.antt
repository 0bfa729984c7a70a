-- What methods violate, by their code.
use Rattle.std.proofs.Common.{◌≡◌, ◌≢◌, ℕ, ◌<◌, ◌^◌, ◌⊎◌, ◌↔◌, Bool, true, false, List, [], ◌∷◌, length, Option, None, refl, sym, ap, ◌∙◌, subst, inl, inr, arith, Contains, IsTrue}
use Rattle.std.proofs.lemmas.List.{length-map}
use Rattle.dj_pool.specs.trusted.Pool.{Constant}
use Rattle.dj_class.specs.trusted.ClassFile.{MemberInfo, ClassFile}
use Rattle.dj_class.specs.trusted.Code.{CodeInfo, IsCode}
use Rattle.dj_class.proofs.CodeLaws.{one_code}
use Rattle.dj_labels.specs.declared.labelled.Labelled.{Labelled}
use Rattle.dj_labels.specs.trusted.Labels.{IsCut, IsLabelled, addressed}
use Rattle.dj_labels.proofs.Once.{one_labelling_is}
use Rattle.dj_labels.proofs.Cuts.{as_many}
use Rattle.dj_labels.proofs.Whole.{few}
use Rattle.dj_report.specs.Lines.{Gains}
use Rattle.dj_report.proofs.Sorted.{contains_none, contains_cases}
use Rattle.dj_report.proofs.Adding.{adds_same, adds_both}
use Rattle.dj_early_rules.specs.declared.code.WholeCode.{WholeCode}
use Rattle.dj_early_rules.specs.declared.marks.MarkPlace.{MarkPlace}
use Rattle.dj_early_rules.specs.declared.marks.Mark.{Mark}
use Rattle.dj_early_rules.specs.trusted.Attributes.{codes_of, maps_of}
use Rattle.dj_early_rules.specs.trusted.Code.{IsCodeOf, IsLabelledOf, IsFloatMap, HasFloatMap}
use Rattle.dj_early_rules.specs.trusted.Floats.{NamesFloat}
use Rattle.dj_early_rules.specs.trusted.Members.{IsFloatMethod, IsInterfaceMethod}
use Rattle.dj_early_rules.specs.trusted.Methods.{CodeViolates, ViolatesWithin, MethodViolates}
use Rattle.dj_early_rules.specs.trusted.Rules.{FieldViolates}
use Rattle.dj_early_rules.specs.Passes.{bodies_in, IsWholeMethod, IsShortCode, HasMapOf}
use Rattle.dj_early_rules.specs.Marks.{mark_at, place_of, MarksOf, RuledWhole, CodeViolatesAt, CodeMark}
use Rattle.dj_early_rules.proofs.NamedBodies.{maps_short}

-- ---- whole code is short

few_instrs : (code : List ℕ) (labelled : Labelled) (starts : List ℕ) → length code < 2 ^ 16 → IsCut code starts (addressed starts labelled.code) (length code) → length labelled.code < 2 ^ 32
few_instrs code labelled starts small cut =
    let many = as_many code starts (addressed starts labelled.code) (length code) cut.each in
    let seen : length (addressed starts labelled.code) ≡ length labelled.code = simp length-map in
    let limit = few code starts small (record { instrs = addressed starts labelled.code; cut = cut }) in
    omega (arith, many, seen, limit)

pub short_code : (pool : List Constant) (m : MemberInfo) (code : WholeCode) → IsWholeMethod pool m code → IsShortCode code
short_code pool m code is =
    let info = is.whole.info in
    let valid = is.whole.is.valid in
    let small : length info.code < 2 ^ 16 = (let h = valid.few_code in omega arith) in
    record {
      few = subst (λ (bytes : List ℕ). length bytes < 2 ^ 16) (sym is.whole.whole.bytes) small;
      instrs = few_instrs info.code code.labelled is.whole.whole.labels.starts small is.whole.whole.labels.cut;
      map = maps_short pool info (bodies_in code.map) valid.attributes is.whole.whole.maps;
    }

-- ---- the code of a method is one

own_body : (bodies : List (List ℕ)) (body other : List ℕ) → bodies ≡ body ∷ [] → Contains bodies other → body ≡ other
own_body bodies body other e m =
    elim (contains_cases body [] other (subst (λ (xs : List (List ℕ)). Contains xs other) e m)) [ inl is ↦ is | inr none ↦ absurd (contains_none other none) ]

own_info : (pool : List Constant) (m : MemberInfo) (code : WholeCode) (is : IsWholeMethod pool m code) (info : CodeInfo) → IsCodeOf pool m info → info ≡ is.whole.info
own_info pool m code is info own =
    one_code is.body info is.whole.info (subst (λ (body : List ℕ). IsCode body info) (sym (own_body (codes_of pool m) is.body own.body is.one own.own)) own.is) is.whole.is

is_own : (pool : List Constant) (m : MemberInfo) (code : WholeCode) (is : IsWholeMethod pool m code) → IsCodeOf pool m is.whole.info
is_own pool m code is = record { body = is.body; own = subst (λ (xs : List (List ℕ)). Contains xs is.body) (sym is.one) (0, omega arith, refl); is = is.whole.is }

-- its labelled code is this one
pub one_labelled : (pool : List Constant) (m : MemberInfo) (code : WholeCode) (labelled : Labelled) → IsWholeMethod pool m code → IsLabelledOf pool m labelled → labelled ≡ code.labelled
one_labelled pool m code labelled is own =
    let info = own_info pool m code is own.code own.own in
    let labels = subst (λ (i : CodeInfo). IsLabelled i.code i.table labelled) info own.labels in
    one_labelling_is is.whole.info.code is.whole.info.table labelled code.labelled labels is.whole.whole.labels

pub labelled_own : (pool : List Constant) (m : MemberInfo) (code : WholeCode) → IsWholeMethod pool m code → IsLabelledOf pool m code.labelled
labelled_own pool m code is = record { code = is.whole.info; own = is_own pool m code is; labels = is.whole.whole.labels }

within_whole : (pool : List Constant) (m : MemberInfo) (code : WholeCode) → IsWholeMethod pool m code → (number : Option ℕ) (rule : ℕ) → ViolatesWithin pool m number rule → CodeViolatesAt pool code.labelled number rule
within_whole pool m code is number rule v =
    record { at = v.at; number_is = v.number_is; such = subst (λ (l : Labelled). CodeViolates pool l v.at rule) (one_labelled pool m code v.labelled is v.code) v.such }

from_whole : (pool : List Constant) (m : MemberInfo) (code : WholeCode) → IsWholeMethod pool m code → (number : Option ℕ) (rule : ℕ) → CodeViolatesAt pool code.labelled number rule → ViolatesWithin pool m number rule
from_whole pool m code is number rule v = record {
  labelled = code.labelled;
  code = labelled_own pool m code is;
  at = v.at;
  number_is = v.number_is;
  such = v.such;
}

-- ---- stack maps

pub reported_map : (pool : List Constant) (m : MemberInfo) (code : WholeCode) (b : Bool) → IsWholeMethod pool m code → (IsTrue b ↔ HasMapOf code) → IsTrue b ↔ HasFloatMap pool m
reported_map pool m code b is reported = (
  λ t.
      let has = reported.0 t in (
        is.whole.info,
        is_own pool m code is,
        (has.0, subst (λ (xs : List (List ℕ)). Contains xs has.0) (sym is.whole.whole.maps) has.1, subst (λ (bytes : List ℕ). IsFloatMap bytes has.0) is.whole.whole.bytes has.2),
      ),
  λ has.
      let info = own_info pool m code is has.0 has.1 in
      let body = has.2.0 in
      reported.1 (
        body,
        subst (λ (xs : List (List ℕ)). Contains xs body) is.whole.whole.maps (subst (λ (i : CodeInfo). Contains (maps_of pool i) body) info has.2.1),
        subst (λ (bytes : List ℕ). IsFloatMap bytes body) (sym is.whole.whole.bytes) (subst (λ (i : CodeInfo). IsFloatMap i.code body) info has.2.2),
      ),
)

pub float_by_desc : (pool : List Constant) (m : MemberInfo) → NamesFloat pool m.desc → IsTrue true ↔ IsFloatMethod pool m
float_by_desc pool m is = ((λ t. inl is), (λ h. refl))

pub float_by_map : (pool : List Constant) (m : MemberInfo) (b : Bool) → (NamesFloat pool m.desc → ⊥) → (IsTrue b ↔ HasFloatMap pool m) → IsTrue b ↔ IsFloatMethod pool m
float_by_map pool m b none reported = (
  λ t. inr (reported.0 t),
  λ is. elim is [ inl desc ↦ absurd (none desc) | inr has ↦ reported.1 has ],
)

-- ---- marks of a method

some_bodies : (bodies : List (List ℕ)) (body : List ℕ) → bodies ≡ body ∷ [] → bodies ≢ []
some_bodies bodies body one none = let e = ap length (sym one ∙ none) in omega arith

pub method_marks : (c : ClassFile) (m : MemberInfo) (names : ℕ × ℕ) (code : WholeCode) (float interface_code : Bool) (a b d : List Mark) → IsWholeMethod c.pool m code
    → (IsTrue float ↔ IsFloatMethod c.pool m) → (IsTrue interface_code ↔ IsInterfaceMethod c m)
    → Gains (MarksOf names (RuledWhole float interface_code)) a b → Gains (CodeMark names c.pool code.labelled) b d → Gains (MarksOf names (MethodViolates c m)) a d
method_marks c m names code float interface_code a b d is reported_float reported_interface whole within =
    adds_same (λ mark. MarksOf names (RuledWhole float interface_code) mark ⊎ CodeMark names c.pool code.labelled mark) (MarksOf names (MethodViolates c m)) a d (λ mark. (
      λ any. elim any [
        | inl w ↦ (
          w.0,
          inl (
            w.1.0,
            elim w.1.1 [
              | inl f ↦ inl (reported_float.0 f.0, f.1)
              | inr i ↦ inr ((reported_interface.0 i.0, some_bodies (codes_of c.pool m) is.body is.one), i.1)
            ],
          ),
        )
        | inr v ↦ (v.0, inr (from_whole c.pool m code is mark.place.number mark.rule v.1))
      ],
      λ v. elim v.1 [
        | inl w ↦ inl (
          v.0,
          (
            w.0,
            elim w.1 [
              | inl f ↦ inl (reported_float.1 f.0, f.1)
              | inr i ↦ inr (reported_interface.1 i.0.0, i.1)
            ],
          ),
        )
        | inr w ↦ inr (v.0, within_whole c.pool m code is mark.place.number mark.rule w)
      ],
    )) (adds_both (MarksOf names (RuledWhole float interface_code)) (CodeMark names c.pool code.labelled) a b d whole within)

pub no_code_of : (pool : List Constant) (m : MemberInfo) (info : CodeInfo) → codes_of pool m ≡ [] → IsCodeOf pool m info → ⊥
no_code_of pool m info none own = contains_none own.body (subst (λ (xs : List (List ℕ)). Contains xs own.body) none own.own)

pub bodiless_marks : (c : ClassFile) (m : MemberInfo) (names : ℕ × ℕ) (float : Bool) (a b : List Mark) → codes_of c.pool m ≡ []
    → (IsTrue float ↔ NamesFloat c.pool m.desc) → Gains (MarksOf names (RuledWhole float false)) a b → Gains (MarksOf names (MethodViolates c m)) a b
bodiless_marks c m names float a b none reported =
    adds_same (MarksOf names (RuledWhole float false)) (MarksOf names (MethodViolates c m)) a b (λ mark. (
      λ w. (w.0, inl (w.1.0, elim w.1.1 [ inl f ↦ inl (inl (reported.0 f.0), f.1) | inr i ↦ (let e = i.0 in absurd cc) ])),
      λ v. elim v.1 [
        | inl w ↦ elim w.1 [
          | inl f ↦ elim f.0 [
            | inl desc ↦ (v.0, (w.0, inl (reported.1 desc, f.1)))
            | inr has ↦ absurd (no_code_of c.pool m has.0 none has.1)
          ]
          | inr i ↦ absurd (i.0.1 none)
        ]
        | inr w ↦ absurd (no_code_of c.pool m w.code.code none w.code.own)
      ],
    ))

own_place : (names : ℕ × ℕ) (mark : Mark) (number : Option ℕ) → mark.place ≡ place_of names number → (mark.place.number ≡ number) × (mark.place ≡ place_of names mark.place.number)
own_place names mark number e =
    let reported = ap (λ (p : MarkPlace). p.number) e in
    (reported, e ∙ sym (ap (place_of names) reported))

-- those of rules on a member as a whole
pub whole_marks : (names : ℕ × ℕ) (float interface_code : Bool) (a b d : List Mark)
    → Gains (λ mark. IsTrue float × (mark ≡ mark_at (place_of names None) 12)) a b → Gains (λ mark. IsTrue interface_code × (mark ≡ mark_at (place_of names None) 16)) b d
    → Gains (MarksOf names (RuledWhole float interface_code)) a d
whole_marks names float interface_code a b d first second =
    adds_same (λ mark. (IsTrue float × (mark ≡ mark_at (place_of names None) 12)) ⊎ (IsTrue interface_code × (mark ≡ mark_at (place_of names None) 16))) (MarksOf names (RuledWhole float interface_code)) a d (λ mark. (
      λ any. elim any [
        | inl f ↦ let own = own_place names mark None (ap (λ (m : Mark). m.place) f.1) in (own.1, (own.0, inl (f.0, ap (λ (m : Mark). m.rule) f.1)))
        | inr i ↦ let own = own_place names mark None (ap (λ (m : Mark). m.place) i.1) in (own.1, (own.0, inr (i.0, ap (λ (m : Mark). m.rule) i.1)))
      ],
      λ v. elim v.1.1 [
        | inl f ↦ inl (f.0, λ i. record { place = (v.0 ∙ ap (place_of names) v.1.0) i; rule = f.1 i })
        | inr f ↦ inr (f.0, λ i. record { place = (v.0 ∙ ap (place_of names) v.1.0) i; rule = f.1 i })
      ],
    )) (adds_both (λ mark. IsTrue float × (mark ≡ mark_at (place_of names None) 12)) (λ mark. IsTrue interface_code × (mark ≡ mark_at (place_of names None) 16)) a b d first second)

-- that of a field
pub field_mark : (c : ClassFile) (f : MemberInfo) (names : ℕ × ℕ) (b : Bool) (x y : List Mark) → (IsTrue b ↔ NamesFloat c.pool f.desc)
    → Gains (λ mark. IsTrue b × (mark ≡ mark_at (place_of names None) 12)) x y → Gains (MarksOf names (FieldViolates c f)) x y
field_mark c f names b x y reported =
    adds_same (λ mark. IsTrue b × (mark ≡ mark_at (place_of names None) 12)) (MarksOf names (FieldViolates c f)) x y (λ mark. (
      λ is. let own = own_place names mark None (ap (λ (m : Mark). m.place) is.1) in (own.1, (reported.0 is.0, own.0, ap (λ (m : Mark). m.rule) is.1)),
      λ is. (reported.1 is.1.0, λ i. record { place = (is.0 ∙ ap (place_of names) is.1.1) i; rule = is.1.2 i }),
    ))
