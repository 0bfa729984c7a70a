-- The tables of what constants are of all classes, by plain values.
use Rattle.std.proofs.Common.{◌≡◌, ℕ, zero, suc, ◌<◌, List, [], ◌∷◌, map, length, Option, Some, None, refl, sym, ap, ◌∙◌, subst, codes, pos, arith, slice_get, inl, inr, Contains}
use Rattle.dj_names.specs.declared.descriptor.Ty.{Ty}
use Rattle.std.specs.Global.{Vec}
use Rattle.std.proofs.lemmas.Bool.{false≢true}
use Rattle.std.proofs.lemmas.Option.{none-some, same_Some}
use Rattle.dj_names.specs.declared.descriptor.Base.TheVariants as bases
use Rattle.dj_names.specs.trusted.Tests.{units_read}
use Rattle.dj_names.specs.trusted.Types.{Name, base_array}
use Rattle.dj_names.specs.Types.{sandbox_prefix}
use Rattle.dj_names.specs.trusted.UnitReading.{unit_read, long_read, two_read}
use Rattle.dj_model.specs.trusted.Program.{Class, Method, Field}
use Rattle.dj_pool.specs.trusted.Pool.{Constant, Utf8, Integer, Text}
use Rattle.dj_program.specs.trusted.Naming.{units_in, named_at, named_by}
use Rattle.dj_program.specs.declared.code.MethodCode.{MethodCode}
use Rattle.dj_numbering.specs.Typed.{Typed}
use Rattle.dj_image.specs.declared.operand.Operand.{Operand}
use Rattle.dj_image.specs.declared.operand.Operand.TheVariants as operands
use Rattle.dj_image.specs.declared.parts.ClassParts.{ClassParts}
use Rattle.dj_image.specs.declared.parts.FieldValue.{FieldValue}
use Rattle.dj_image.specs.declared.parts.FieldValue.TheVariants as begins
use Rattle.dj_image.specs.Imaged.{Imaged, IsNumbered, program_of}
use Rattle.dj_image.specs.Operands.{named_operand, named_class, made_class}
use Rattle.dj_image.specs.Parts.{source_of, sources_of}
use Rattle.dj_image.specs.Sources.{class_of_source}
use Rattle.dj_image.specs.Tables.{imaged_of, IsOperandTable, IsNamedTable, IsMadeTable, AreOperandTables, AreNamedTables, AreMadeTables, field_operand_of, AreConstantTables, AreTables}
use Rattle.dj_image.proofs.FitFacts.{bare, bare_parts, bare_fits}
use Rattle.dj_image.proofs.Members.{member_first, member_later, member_none, member_cases}

-- ---- the tables of one class, of an int alone and of nothing

abbrev seven : List Constant
seven = Integer (pos 7) ∷ []

operand_at : (image : Imaged) (index : ℕ) → index < 2 → slice_get (operands.Unresolved ∷ operands.Int (pos 7) ∷ []) index ≡ Some (named_operand image (named_at seven index))
unfolding named_by
operand_at image zero lt = refl
operand_at image (suc zero) lt = refl
operand_at image (suc (suc k)) lt = absurd (omega (arith, lt))

operand_first : (image : Imaged) (index : ℕ) → index < 1 → slice_get (operands.Unresolved ∷ []) index ≡ Some (named_operand image (named_at [] index))
operand_first image zero lt = refl
operand_first image (suc k) lt = absurd (omega (arith, lt))

named_each : (image : Imaged) (index : ℕ) → index < 2 → slice_get (None ∷ None ∷ []) index ≡ Some (named_class image (named_at seven index))
unfolding named_by
named_each image zero lt = refl
named_each image (suc zero) lt = refl
named_each image (suc (suc k)) lt = absurd (omega (arith, lt))

named_first : (image : Imaged) (index : ℕ) → index < 1 → slice_get (None ∷ []) index ≡ Some (named_class image (named_at [] index))
named_first image zero lt = refl
named_first image (suc k) lt = absurd (omega (arith, lt))

made_each : (image : Imaged) (index : ℕ) → index < 2 → slice_get (None ∷ None ∷ []) index ≡ Some (made_class image (named_at seven index))
unfolding named_by
made_each image zero lt = refl
made_each image (suc zero) lt = refl
made_each image (suc (suc k)) lt = absurd (omega (arith, lt))

made_first : (image : Imaged) (index : ℕ) → index < 1 → slice_get (None ∷ []) index ≡ Some (made_class image (named_at [] index))
made_first image zero lt = refl
made_first image (suc k) lt = absurd (omega (arith, lt))

-- ---- those of two classes, the first with an int

module _ (image : Imaged) (p q : ClassParts) where
  abbrev first : ClassParts
  first = record p { pool = seven }

  abbrev other : ClassParts
  other = record q { pool = [] }

  module _ (t u : Vec Operand) (t_is : t.items ≡ operands.Unresolved ∷ operands.Int (pos 7) ∷ []) (u_is : u.items ≡ operands.Unresolved ∷ []) where
    operands_reported : AreOperandTables image (first ∷ other ∷ []) (t ∷ u ∷ [])
    operands_reported = (
      subst (λ (kept : List Operand). IsOperandTable image seven kept) (sym t_is) (record { count = refl; each = operand_at image }),
      (subst (λ (kept : List Operand). IsOperandTable image [] kept) (sym u_is) (record { count = refl; each = operand_first image }), tt),
    )

    -- not in another order, and neither fewer nor more
    operands_of_other : AreOperandTables image (first ∷ other ∷ []) (u ∷ t ∷ []) → ⊥
    operands_of_other are = let e : 1 ≡ 2 = sym (ap length u_is) ∙ are.0.count in omega (arith, e)

    operands_left_out : AreOperandTables image (first ∷ other ∷ []) (t ∷ []) → ⊥
    operands_left_out are = are.1

    operands_too_many : AreOperandTables image (first ∷ []) (t ∷ u ∷ []) → ⊥
    operands_too_many are = are.1

  module _ (t u : Vec (Option ℕ)) (t_is : t.items ≡ None ∷ None ∷ []) (u_is : u.items ≡ None ∷ []) where
    named_reported : AreNamedTables image (first ∷ other ∷ []) (t ∷ u ∷ [])
    named_reported = (
      subst (λ (kept : List (Option ℕ)). IsNamedTable image seven kept) (sym t_is) (record { count = refl; each = named_each image }),
      (subst (λ (kept : List (Option ℕ)). IsNamedTable image [] kept) (sym u_is) (record { count = refl; each = named_first image }), tt),
    )

    named_of_other : AreNamedTables image (first ∷ other ∷ []) (u ∷ t ∷ []) → ⊥
    named_of_other are = let e : 1 ≡ 2 = sym (ap length u_is) ∙ are.0.count in omega (arith, e)

    named_left_out : AreNamedTables image (first ∷ other ∷ []) (t ∷ []) → ⊥
    named_left_out are = are.1

    named_too_many : AreNamedTables image (first ∷ []) (t ∷ u ∷ []) → ⊥
    named_too_many are = are.1

    made_reported : AreMadeTables image (first ∷ other ∷ []) (t ∷ u ∷ [])
    made_reported = (
      subst (λ (kept : List (Option ℕ)). IsMadeTable image seven kept) (sym t_is) (record { count = refl; each = made_each image }),
      (subst (λ (kept : List (Option ℕ)). IsMadeTable image [] kept) (sym u_is) (record { count = refl; each = made_first image }), tt),
    )

    made_of_other : AreMadeTables image (first ∷ other ∷ []) (u ∷ t ∷ []) → ⊥
    made_of_other are = let e : 1 ≡ 2 = sym (ap length u_is) ∙ are.0.count in omega (arith, e)

    made_left_out : AreMadeTables image (first ∷ other ∷ []) (t ∷ []) → ⊥
    made_left_out are = are.1

    made_too_many : AreMadeTables image (first ∷ []) (t ∷ u ∷ []) → ⊥
    made_too_many are = are.1

  -- an int names no class
  int_as_class : (t : Vec (Option ℕ)) → t.items ≡ None ∷ Some 0 ∷ [] → AreNamedTables image (first ∷ []) (t ∷ []) → ⊥
  unfolding named_by
  int_as_class t t_is are =
      let reported : IsNamedTable image seven (None ∷ Some 0 ∷ []) = subst (λ (kept : List (Option ℕ)). IsNamedTable image seven kept) t_is are.0 in
      none-some 0 (sym (same_Some (Some 0) None (reported.each 1 (omega arith))))

  -- and nothing is made by it
  int_makes_array : (t : Vec (Option ℕ)) → t.items ≡ None ∷ Some 0 ∷ [] → AreMadeTables image (first ∷ []) (t ∷ []) → ⊥
  unfolding named_by
  int_makes_array t t_is are =
      let reported : IsMadeTable image seven (None ∷ Some 0 ∷ []) = subst (λ (kept : List (Option ℕ)). IsMadeTable image seven kept) t_is are.0 in
      none-some 0 (sym (same_Some (Some 0) None (reported.each 1 (omega arith))))

-- ---- constants of fields

abbrev image_of : List (List ℕ) → Imaged
image_of texts = record { sources = []; prefix = []; arrays = []; texts = texts }

-- a text that has a number, and one that has none
field_operands : map (field_operand_of (image_of ((115 ∷ []) ∷ [])) (Utf8 (codes "s") ∷ Utf8 (codes "t") ∷ [])) (
    None ∷ Some (begins.Int (pos 5)) ∷ Some (begins.Long (pos 6)) ∷ Some (begins.Text 1) ∷ Some (begins.Text 2) ∷ Some begins.Unfit ∷ []
    ) ≡ operands.Nothing ∷ operands.Int (pos 5) ∷ operands.Long (pos 6) ∷ operands.Text 0 ∷ operands.Unresolved ∷ operands.Unresolved ∷ []
unfolding units_in units_read unit_read long_read two_read
field_operands = refl

abbrev first_of : List Operand → Operand
first_of [] = operands.Nothing
first_of (o ∷ rest) = o

module _ (image : Imaged) (p q : ClassParts) (t u : Vec Operand) (p_is : p.values.items ≡ Some (begins.Int (pos 5)) ∷ []) (q_is : q.values.items ≡ []) (t_is : t.items ≡ operands.Int (pos 5) ∷ []) (u_is : u.items ≡ []) where
  constants_reported : AreConstantTables image (p ∷ q ∷ []) (t ∷ u ∷ [])
  constants_reported = (t_is ∙ sym (ap (map (field_operand_of image p.pool)) p_is), (u_is ∙ sym (ap (map (field_operand_of image q.pool)) q_is), tt))

  constants_of_other : AreConstantTables image (p ∷ q ∷ []) (u ∷ t ∷ []) → ⊥
  constants_of_other are =
      let e : 0 ≡ 1 = ap length (sym u_is ∙ are.0 ∙ ap (map (field_operand_of image p.pool)) p_is) in
      omega (arith, e)

  constants_left_out : AreConstantTables image (p ∷ q ∷ []) (t ∷ []) → ⊥
  constants_left_out are = are.1

  constants_too_many : AreConstantTables image (p ∷ []) (t ∷ u ∷ []) → ⊥
  constants_too_many are = are.1

-- what the file says isn't left out
constant_left_out : (image : Imaged) (p : ClassParts) (t : Vec Operand) → p.values.items ≡ Some (begins.Int (pos 5)) ∷ [] → t.items ≡ operands.Nothing ∷ [] → AreConstantTables image (p ∷ []) (t ∷ []) → ⊥
constant_left_out image p t p_is t_is are =
    let e : operands.Nothing ≡ operands.Int (pos 5) = ap first_of (sym t_is ∙ are.0 ∙ ap (map (field_operand_of image p.pool)) p_is) in
    absurd cc

-- ---- all of it, of the class String alone

abbrev string_class : Name
string_class = codes "java/lang/String"

abbrev other_class : Name
other_class = codes "A"

abbrev string_alone : Typed
string_alone = record { program = bare string_class ∷ []; prefix = []; arrays = base_array bases.Byte ∷ base_array bases.Char ∷ [] }

-- the classes are beside their parts, and the texts are those given
imaged : (p : ClassParts) → imaged_of string_alone (p ∷ []) ((115 ∷ []) ∷ []) ≡ record { sources = sources_of string_alone.program (p ∷ []); prefix = []; arrays = base_array bases.Byte ∷ base_array bases.Char ∷ []; texts = (115 ∷ []) ∷ [] }
imaged p = refl

under_prefix : (p : ClassParts) → (imaged_of (record string_alone { prefix = sandbox_prefix }) (p ∷ []) []).prefix ≡ sandbox_prefix
under_prefix p = refl

module _ (codes : Vec (Option MethodCode)) (descs : Vec ℕ) (values : Vec (Option FieldValue)) (no_codes : codes.items ≡ []) (no_values : values.items ≡ [])
    (t u : Vec Operand) (n m : Vec (Option ℕ)) (t_is : t.items ≡ operands.Unresolved ∷ []) (u_is : u.items ≡ []) (n_is : n.items ≡ None ∷ []) (m_is : m.items ≡ None ∷ []) where
  abbrev own : ClassParts
  own = bare_parts codes descs values

  abbrev Are : Typed → List ClassParts → Type 0
  Are types parts = AreTables types parts [] (t ∷ []) (n ∷ []) (m ∷ []) (u ∷ [])

  abbrev alone : Imaged
  alone = imaged_of string_alone (own ∷ []) []

  one_deep : (ty : Ty) → Contains (base_array bases.Byte ∷ base_array bases.Char ∷ []) ty → ty.dims ≡ 1
  one_deep ty there = elim (member_cases (base_array bases.Byte) (base_array bases.Char ∷ []) ty there) [
    | inl is ↦ sym (ap (λ (t : Ty). t.dims) is)
    | inr later ↦ elim (member_cases (base_array bases.Char) [] ty later) [
      | inl is ↦ sym (ap (λ (t : Ty). t.dims) is)
      | inr none ↦ absurd (member_none ty none)
    ]
  ]

  -- the class has no method and no field
  no_method : (class : Class) (method : Method) → Contains (program_of alone) class → Contains class.methods method → ⊥
  unfolding class_of_source sources_of
  no_method class method there has = elim (member_cases (class_of_source (source_of (bare string_class) own)) [] class there) [
    | inl is ↦ member_none method (subst (λ (c : Class). Contains c.methods method) (sym is) has)
    | inr none ↦ member_none class none
  ]

  no_field : (class : Class) (field : Field) → Contains (program_of alone) class → Contains class.fields field → ⊥
  unfolding class_of_source sources_of
  no_field class field there has = elim (member_cases (class_of_source (source_of (bare string_class) own)) [] class there) [
    | inl is ↦ member_none field (subst (λ (c : Class). Contains c.fields field) (sym is) has)
    | inr none ↦ member_none class none
  ]

  is_numbered : IsNumbered alone
  is_numbered = record {
    arrays = λ ty. (
      λ there. elim (member_cases (base_array bases.Byte) (base_array bases.Char ∷ []) ty there) [
        | inl is ↦ inl (sym is)
        | inr later ↦ elim (member_cases (base_array bases.Char) [] ty later) [ inl is ↦ inr (inl (sym is)) | inr none ↦ absurd (member_none ty none) ]
      ],
      λ numbered. elim numbered [
        | inl is ↦ subst (Contains (base_array bases.Byte ∷ base_array bases.Char ∷ [])) (sym is) (member_first (base_array bases.Byte) (base_array bases.Char ∷ []))
        | inr (inl is) ↦ subst (Contains (base_array bases.Byte ∷ base_array bases.Char ∷ [])) (sym is)
            (member_later (base_array bases.Byte) (base_array bases.Char ∷ []) (base_array bases.Char) (member_first (base_array bases.Char) []))
        | inr (inr used) ↦ absurd (no_method used.1.class used.1.method used.1.there used.1.own)
      ],
    );
    rise = refl;
    texts = λ text. (
      λ there. absurd (member_none text there),
      λ begins. elim begins [
        | inl pushed ↦ absurd (no_method pushed.class pushed.method pushed.there pushed.own)
        | inr value ↦ absurd (no_field value.class value.field value.there value.own)
      ],
    );
    once = λ a b text here there. absurd (none-some text here);
  }

  all_reported : Are string_alone (own ∷ [])
  all_reported = record {
    fit = (bare_fits string_class codes descs values no_codes no_values, tt);
    operands_are = (subst (λ (kept : List Operand). IsOperandTable (imaged_of string_alone (own ∷ []) []) [] kept) (sym t_is) (record { count = refl; each = operand_first (imaged_of string_alone (own ∷ []) []) }), tt);
    named_are = (subst (λ (kept : List (Option ℕ)). IsNamedTable (imaged_of string_alone (own ∷ []) []) [] kept) (sym n_is) (record { count = refl; each = named_first (imaged_of string_alone (own ∷ []) []) }), tt);
    made_are = (subst (λ (kept : List (Option ℕ)). IsMadeTable (imaged_of string_alone (own ∷ []) []) [] kept) (sym m_is) (record { count = refl; each = made_first (imaged_of string_alone (own ∷ []) []) }), tt);
    constants_are = (u_is ∙ sym (ap (map (field_operand_of (imaged_of string_alone (own ∷ []) []) [])) no_values), tt);
    string = refl;
    chars = refl;
    closed = λ ty there deep. let dims : ty.dims ≡ 1 = one_deep ty there in absurd (omega (arith, deep, dims));
    numbered = is_numbered;
    few = omega arith;
  }

  -- not without the class String, without arrays of chars, or where a class has no parts
  no_string : Are (record string_alone { program = bare other_class ∷ [] }) (own ∷ []) → ⊥
  no_string are = false≢true are.string

  no_chars : Are (record string_alone { arrays = [] }) (own ∷ []) → ⊥
  no_chars are = false≢true are.chars

  no_parts : Are string_alone [] → ⊥
  no_parts are = are.fit

  -- nor where String is there under no prefix alone
  no_string_under_prefix : Are (record string_alone { prefix = sandbox_prefix }) (own ∷ []) → ⊥
  no_string_under_prefix are = false≢true are.string

-- nor where a text that has a number is recorded as one that has none, of a field or of a constant
abbrev s_texts : List (List ℕ)
s_texts = (115 ∷ []) ∷ []

abbrev s_pool : List Constant
s_pool = Utf8 (codes "s") ∷ Text 1 ∷ []

module _ (p : ClassParts) (t u : Vec Operand) (n m : Vec (Option ℕ)) where
  abbrev with_text : ClassParts
  with_text = record p { pool = s_pool }

  text_of_field : p.values.items ≡ Some (begins.Text 1) ∷ [] → u.items ≡ operands.Unresolved ∷ [] → AreTables string_alone (with_text ∷ []) s_texts (t ∷ []) (n ∷ []) (m ∷ []) (u ∷ []) → ⊥
  unfolding units_in units_read unit_read long_read two_read
  text_of_field p_is u_is are =
      let e : operands.Unresolved ≡ operands.Text 0 =
      ap first_of (sym u_is ∙ are.constants_are.0 ∙ ap (map (field_operand_of (imaged_of string_alone (with_text ∷ []) s_texts) s_pool)) p_is) in
      absurd cc

  text_of_constant : t.items ≡ operands.Unresolved ∷ operands.Unresolved ∷ operands.Unresolved ∷ [] → AreTables string_alone (with_text ∷ []) s_texts (t ∷ []) (n ∷ []) (m ∷ []) (u ∷ []) → ⊥
  unfolding named_by units_in units_read unit_read long_read two_read
  text_of_constant t_is are =
      let reported : Some operands.Unresolved ≡ Some (operands.Text 0) = ap (λ (kept : List Operand). slice_get kept 2) (sym t_is) ∙ are.operands_are.0.each 2 (omega arith) in
      let e : operands.Unresolved ≡ operands.Text 0 = same_Some operands.Unresolved (operands.Text 0) reported in
      absurd cc
