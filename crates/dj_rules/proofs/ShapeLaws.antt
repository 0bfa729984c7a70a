-- The marks of rule 19.
use Rattle.std.proofs.Common.{◌≡◌, ℕ, zero, suc, ◌<◌, ◌^◌, Bool, true, false, List, [], ◌∷◌, length, Option, Some, None, refl, sym, ap, ◌∙◌, subst, inl, inr, arith, IsSomeAnd, IsTrue, unwrap_or, ◌↔◌}
use Rattle.std.proofs.lemmas.List.Elements.{Contains-append_right}
use Rattle.dj_names.specs.declared.descriptor.Base.TheVariants as bases
use Rattle.dj_names.specs.declared.descriptor.Of.{Of}
use Rattle.dj_names.specs.declared.descriptor.Of.TheVariants as ofs
use Rattle.dj_names.specs.declared.descriptor.Ty.{Ty}
use Rattle.dj_names.specs.declared.descriptor.Kind.{Kind}
use Rattle.dj_names.specs.declared.descriptor.Desc.{Desc}
use Rattle.dj_names.specs.declared.descriptor.Desc.TheVariants as descs
use Rattle.dj_names.specs.trusted.Descriptors.{type_kind, IsMethodDescriptor}
use Rattle.dj_pool.specs.trusted.Pool.{Constant, text_at}
use Rattle.dj_class.specs.trusted.ClassFile.{MemberInfo, IsMethod}
use Rattle.dj_labels.specs.declared.labelled.Labelled.{Labelled}
use Rattle.dj_report.specs.Lines.{Gains}
use Rattle.dj_report.proofs.Adding.{adds_same, adds_nothing}
use Rattle.dj_model.specs.trusted.Program.{is_static}
use Rattle.dj_model.specs.trusted.Members.{kinds_of}
use Rattle.dj_model.specs.trusted.Kinds.{Signature, signature_of, call_signature, with_receiver}
use Rattle.dj_model.specs.trusted.Shape.{IsShapeFault}
use Rattle.dj_model.proofs.Shapes.{no_fault_with_shape, one_shape_fault}
use Rattle.dj_declarations.specs.trusted.Files.{desc_in, name_in}
use Rattle.dj_declarations.specs.Members.{IsDescriptor}
use Rattle.dj_declarations.proofs.DescTests.{desc_in_is, is_descriptor}
use Rattle.dj_early_rules.specs.declared.code.WholeCode.{WholeCode}
use Rattle.dj_early_rules.specs.declared.marks.MarkPlace.{MarkPlace}
use Rattle.dj_early_rules.specs.declared.marks.Mark.{Mark}
use Rattle.dj_early_rules.specs.trusted.Attributes.{codes_of}
use Rattle.dj_early_rules.specs.trusted.Floats.{IsFloating, HasFloating, MentionsFloat, HasFloat, NamesFloat}
use Rattle.dj_early_rules.specs.Marks.{mark_at, place_of, MarksOf}
use Rattle.dj_early_rules.specs.Passes.{IsWholeMethod}
use Rattle.dj_early_rules.proofs.DoubleLaws.{from_some}
use Rattle.dj_early_rules.proofs.MethodLaws.{short_code, one_labelled}
use Rattle.dj_program.specs.trusted.Codes.{CodeParts, code_in, IsMethodCode}
use Rattle.dj_program.proofs.Once.{one_parts}
use Rattle.dj_shape_rule.specs.declared.judge.ShapeFault.{ShapeFault}
use Rattle.dj_shape_rule.specs.trusted.Rule.{signature_at, LacksShape}
use Rattle.dj_shape_rule.specs.Rule.{IsShapeAnswer}
use Rattle.dj_rules.specs.Late.{IsFaultOf, FaultViolates, ShapeViolates}

-- ---- a descriptor without floats and doubles has kinds

kind_there : (ty : Ty) (dims : ℕ) (of : Of) → ty.dims ≡ dims → ty.of ≡ of → (IsFloating ty → ⊥) → (k : Kind) × (type_kind (record { dims = dims; of = of }) ≡ Some k)
kind_there ty zero (ofs.Base bases.Boolean) d e plain = (_, refl)
kind_there ty zero (ofs.Base bases.Byte) d e plain = (_, refl)
kind_there ty zero (ofs.Base bases.Char) d e plain = (_, refl)
kind_there ty zero (ofs.Base bases.Short) d e plain = (_, refl)
kind_there ty zero (ofs.Base bases.Int) d e plain = (_, refl)
kind_there ty zero (ofs.Base bases.Long) d e plain = (_, refl)
kind_there ty zero (ofs.Base bases.Float) d e plain = absurd (plain (inl e))
kind_there ty zero (ofs.Base bases.Double) d e plain = absurd (plain (inr e))
kind_there ty zero (ofs.Class name) d e plain = (_, refl)
kind_there ty (suc n) (ofs.Base base) d e plain = (_, refl)
kind_there ty (suc n) (ofs.Class name) d e plain = (_, refl)

has_kind : (ty : Ty) → (IsFloating ty → ⊥) → (k : Kind) × (type_kind ty ≡ Some k)
has_kind ty plain = kind_there ty ty.dims ty.of refl refl plain

more_kinds : (ty : Ty) (tys : List Ty) (k : Kind) (ks : List Kind) → type_kind ty ≡ Some k → kinds_of tys ≡ Some ks → kinds_of (ty ∷ tys) ≡ Some (k ∷ ks)
more_kinds ty tys k ks e f = rw (e, f) refl

have_kinds : (tys : List Ty) → (HasFloating tys → ⊥) → (ks : List Kind) × (kinds_of tys ≡ Some ks)
have_kinds [] plain = ([], refl)
have_kinds (ty ∷ tys) plain =
    let first = has_kind ty (λ is. plain (ty, (0, omega arith, refl), is)) in
    let rest = have_kinds tys (λ has. plain (has.0, Contains-append_right (ty ∷ []) tys has.0 has.1, has.2)) in
    (first.0 ∷ rest.0, more_kinds ty tys first.0 rest.0 first.1 rest.1)

call_there : (params : List Ty) (ret : Option Ty) → (MentionsFloat (descs.Method params ret) → ⊥) → (s : Signature) × (call_signature (descs.Method params ret) ≡ Some s)
call_there params None plain =
    let ks = have_kinds params (λ has. plain (inl has)) in
    (record { parameters = ks.0; result = None }, rw (ks.1) refl)
call_there params (Some ret) plain =
    let ks = have_kinds params (λ has. plain (inl has)) in
    let k = has_kind ret (λ is. plain (inr is)) in
    (record { parameters = ks.0; result = Some k.0 }, rw (k.1, ks.1) refl)

signature_there : (static : Bool) (desc : Desc) (s : Signature) → call_signature desc ≡ Some s → (t : Signature) × (signature_of static desc ≡ Some t)
signature_there true desc s e = (_, ap (with_receiver true) e)
signature_there false desc s e = (_, ap (with_receiver false) e)

name_is : (pool : List Constant) (index : ℕ) (text : List ℕ) → text_at pool index ≡ Some text → name_in pool index ≡ text
name_is pool index text e = ap (λ (o : Option (List ℕ)). unwrap_or o []) e

module _ (pool : List Constant) (m : MemberInfo) (is : IsMethod pool m) where
  own_desc : (text : List ℕ) × (text_at pool m.desc ≡ Some text) × IsMethodDescriptor text
  own_desc = from_some IsMethodDescriptor (text_at pool m.desc) is.desc

  pub described : IsDescriptor (name_in pool m.desc)
  described =
      let own = own_desc in
      subst IsDescriptor (sym (name_is pool m.desc own.0 own.1)) (is_descriptor own.0 (descs.Method own.2.0 own.2.1) own.2.2)

  pub signed : (NamesFloat pool m.desc → ⊥) → (s : Signature) × (signature_at pool (is_static m.flags) m.desc ≡ Some s)
  signed plain =
      let own = own_desc in
      let desc = descs.Method own.2.0 own.2.1 in
      let is_desc : desc_in (name_in pool m.desc) ≡ desc = ap desc_in (name_is pool m.desc own.0 own.1) ∙ desc_in_is own.0 desc own.2.2 in
      let call = call_there own.2.0 own.2.1 (λ mentions. plain (subst (λ (o : Option (List ℕ)). IsSomeAnd o HasFloat) (sym own.1) (desc, own.2.2, mentions))) in
      let there = signature_there (is_static m.flags) desc call.0 call.1 in
      (there.0, ap (signature_of (is_static m.flags)) is_desc ∙ there.1)

-- ---- what is read of a method's code

one_body : (pool : List Constant) (m : MemberInfo) (code : WholeCode) → IsWholeMethod pool m code → length (codes_of pool m) ≡ 1
one_body pool m code is = ap length is.one

pub few_read : (pool : List Constant) (m : MemberInfo) (code : WholeCode) (parts : CodeParts) → IsWholeMethod pool m code → IsMethodCode pool m parts → length parts.labelled.code < 2 ^ 32
few_read pool m code parts is read =
    let same = one_labelled pool m code parts.labelled is (record { code = read.info; own = read.own; labels = read.labels }) in
    subst (λ (l : Labelled). length l.code < 2 ^ 32) (sym same) (short_code pool m code is).instrs

-- ---- faults

some_signature : (a b : Signature) → Some a ≡ Some b → a ≡ b
some_signature a b e = cc

module _ (pool : List Constant) (m : MemberInfo) (code : WholeCode) (parts : CodeParts) (whole : IsWholeMethod pool m code) (read : IsMethodCode pool m parts)
    (signature : Signature) (kinds : signature_at pool (is_static m.flags) m.desc ≡ Some signature) where
  own_fault : (number : Option ℕ) → LacksShape pool m number → IsShapeFault signature (code_in pool parts) number
  own_fault number lacks =
      let same : lacks.parts ≡ parts = one_parts pool m lacks.parts parts (one_body pool m code whole) lacks.code read in
      let signatures : lacks.signature ≡ signature = some_signature lacks.signature signature (sym lacks.kinds ∙ kinds) in
      subst (λ (s : Signature). IsShapeFault s (code_in pool parts) number) signatures (subst (λ (p : CodeParts). IsShapeFault lacks.signature (code_in pool p) number) same lacks.such)

  pub fault_is : (fault : Option ShapeFault) → IsShapeAnswer signature (code_in pool parts) fault → IsFaultOf pool m fault
  fault_is None shaped = λ number lacks. no_fault_with_shape signature (code_in pool parts) number shaped (own_fault number lacks)
  fault_is (Some fault) is = (
    record { parts = parts; code = read; signature = signature; kinds = kinds; such = is },
    λ number lacks. one_shape_fault signature (code_in pool parts) number fault.number (own_fault number lacks) is,
  )

-- ---- marks

own_place : (names : ℕ × ℕ) (mark : Mark) (number : Option ℕ) → mark.place ≡ place_of names number → (mark.place.number ≡ number) × (mark.place ≡ place_of names mark.place.number)
own_place names mark number e =
    let reported = ap (λ (p : MarkPlace). p.number) e in
    (reported, e ∙ sym (ap (place_of names) reported))

pub fault_mark : (names : ℕ × ℕ) (fault : ShapeFault) (a b : List Mark) → Gains (λ mark. IsTrue true × (mark ≡ mark_at (place_of names fault.number) 19)) a b → Gains (MarksOf names (FaultViolates (Some fault))) a b
fault_mark names fault a b =
    adds_same (λ mark. IsTrue true × (mark ≡ mark_at (place_of names fault.number) 19)) (MarksOf names (FaultViolates (Some fault))) a b (λ mark. (
      λ is.
          let own = own_place names mark fault.number (ap (λ (k : Mark). k.place) is.1) in
          (own.1, (own.0, ap (λ (k : Mark). k.rule) is.1)),
      λ is. (refl, λ i. record { place = (is.0 ∙ ap (place_of names) is.1.0) i; rule = is.1.1 i }),
    ))

pub no_fault_mark : (names : ℕ × ℕ) (a : List Mark) → Gains (MarksOf names (FaultViolates None)) a a
no_fault_mark names a = adds_nothing (MarksOf names (FaultViolates None)) a (λ mark is. is.1)

same_violates : (pool : List Constant) (m : MemberInfo) (fault : Option ShapeFault) (number : Option ℕ) (rule : ℕ) → IsFaultOf pool m fault → FaultViolates fault number rule ↔ ShapeViolates pool m number rule
same_violates pool m None number rule is = ((λ none. absurd none), (λ such. absurd (is number such.0)))
same_violates pool m (Some fault) number rule is = (
  λ such. (subst (LacksShape pool m) (sym such.0) is.0, such.1),
  λ such. (is.1 number such.0, such.1),
)

pub shape_marks : (pool : List Constant) (m : MemberInfo) (names : ℕ × ℕ) (fault : Option ShapeFault) (a b : List Mark) → IsFaultOf pool m fault → Gains (MarksOf names (FaultViolates fault)) a b → Gains (MarksOf names (ShapeViolates pool m)) a b
shape_marks pool m names fault a b is =
    adds_same (MarksOf names (FaultViolates fault)) (MarksOf names (ShapeViolates pool m)) a b (λ mark. (
      λ such. (such.0, (same_violates pool m fault mark.place.number mark.rule is).0 such.1),
      λ such. (such.0, (same_violates pool m fault mark.place.number mark.rule is).1 such.1),
    ))
