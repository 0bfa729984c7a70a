-- The tables of one class and those of classes, and the constants with which fields begin, by plain values: of A, which has a number, as its arrays have.
use Rattle.std.proofs.Common.{◌≡◌, ℕ, zero, suc, ◌<◌, List, [], ◌∷◌, map, length, Option, Some, None, refl, sym, ap, ◌∙◌, subst, codes, pos, arith, slice_get}
use Rattle.std.specs.Global.{Vec}
use Rattle.std.proofs.lemmas.Option.{same_Some}
use Rattle.dj_names.specs.trusted.Tests.{units_read}
use Rattle.dj_names.specs.trusted.Types.{class_type, array_type}
use Rattle.dj_names.specs.trusted.UnitReading.{unit_read, long_read, two_read}
use Rattle.dj_pool.specs.trusted.Pool.{Constant, Utf8, Class}
use Rattle.dj_declarations.specs.trusted.Files.{type_in}
use Rattle.dj_program.specs.trusted.Naming.{units_in, named_at, named_by}
use Rattle.dj_image.specs.declared.operand.Operand.{Operand}
use Rattle.dj_image.specs.declared.operand.Operand.TheVariants as operands
use Rattle.dj_image.specs.declared.parts.ClassParts.{ClassParts}
use Rattle.dj_image.specs.declared.parts.FieldValue.TheVariants as begins
use Rattle.dj_image.specs.declared.tables.ClassTables.{ClassTables}
use Rattle.dj_image.specs.declared.tables.Tables.{Tables}
use Rattle.dj_image.specs.Imaged.{Imaged}
use Rattle.dj_image.specs.Operands.{named_operand, named_class, made_class}
use Rattle.dj_image.specs.Sources.{Source, class_of_source}
use Rattle.dj_image.specs.Tables.{IsOperandTable, IsNamedTable, IsMadeTable, field_operand_of, AreOperandTables, AreNamedTables, AreMadeTables, AreConstantTables}
use Rattle.dj_image.specs.Gathered.{text_at_index, value_reported, AreOfClass, AreOfClasses}
use Rattle.dj_image.proofs.FitFacts.{bare}

-- ---- texts and values

-- 1 and 3 texts that have numbers, 2 one that has none, 4 no text
abbrev texts_pool : List Constant
texts_pool = Utf8 (codes "s") ∷ Utf8 (codes "t") ∷ Utf8 (codes "st") ∷ Class 1 ∷ []

abbrev numbered : List (List ℕ)
numbered = (115 ∷ 116 ∷ []) ∷ (115 ∷ []) ∷ []

texts_reported : map (text_at_index numbered texts_pool) (1 ∷ 2 ∷ 3 ∷ 4 ∷ 0 ∷ []) ≡ operands.Text 1 ∷ operands.Unresolved ∷ operands.Text 0 ∷ operands.Unresolved ∷ operands.Unresolved ∷ []
unfolding units_in units_read unit_read long_read two_read
texts_reported = refl

values_reported : map (value_reported numbered texts_pool) (None ∷ Some (begins.Int (pos 1)) ∷ Some (begins.Long (pos 1)) ∷ Some (begins.Text 1) ∷ Some (begins.Text 2) ∷ Some begins.Unfit ∷ [])
    ≡ operands.Nothing ∷ operands.Int (pos 1) ∷ operands.Long (pos 1) ∷ operands.Text 1 ∷ operands.Unresolved ∷ operands.Unresolved ∷ []
unfolding units_in units_read unit_read long_read two_read
values_reported = refl

-- its index is no text's number, and what sets nothing isn't as if there were none
text_by_index : value_reported numbered texts_pool (Some (begins.Text 3)) ≡ operands.Text 3 → ⊥
unfolding units_in units_read unit_read long_read two_read
text_by_index e = let same : operands.Text 0 ≡ operands.Text 3 = e in let k : 0 ≡ 3 = ap number_of same in omega (arith, k) where
  number_of : Operand → ℕ
  number_of (operands.Text n) = n
  number_of other = 9

unfit_as_none : value_reported numbered texts_pool (Some begins.Unfit) ≡ operands.Nothing → ⊥
unfit_as_none e = let same : operands.Unresolved ≡ operands.Nothing = e in absurd cc

-- ---- the tables of A

abbrev pool : List Constant
pool = Utf8 (codes "A") ∷ Class 1 ∷ []

abbrev source : Source
source = record { class = bare (codes "A"); pool = []; codes = []; values = [] }

-- A is number 0, and its arrays are number 1
abbrev image : Imaged
image = record { sources = source ∷ []; prefix = []; arrays = array_type (class_type (codes "A")) ∷ []; texts = [] }

abbrev operands_kept : List Operand
operands_kept = operands.Unresolved ∷ operands.Unresolved ∷ operands.Class 0 ∷ []

abbrev named_kept : List (Option ℕ)
named_kept = None ∷ None ∷ Some 0 ∷ []

abbrev made_kept : List (Option ℕ)
made_kept = None ∷ None ∷ Some 1 ∷ []

abbrev constants_kept : List Operand
constants_kept = operands.Int (pos 5) ∷ operands.Nothing ∷ []

operand_table : IsOperandTable image pool operands_kept
unfolding named_by type_in class_of_source
operand_table = record { count = refl; each = each } where
  each : (index : ℕ) → index < 3 → slice_get operands_kept index ≡ Some (named_operand image (named_at pool index))
  each zero lt = refl
  each (suc zero) lt = refl
  each (suc (suc zero)) lt = refl
  each (suc (suc (suc k))) lt = absurd (omega (arith, lt))

named_table : IsNamedTable image pool named_kept
unfolding named_by type_in class_of_source
named_table = record { count = refl; each = each } where
  each : (index : ℕ) → index < 3 → slice_get named_kept index ≡ Some (named_class image (named_at pool index))
  each zero lt = refl
  each (suc zero) lt = refl
  each (suc (suc zero)) lt = refl
  each (suc (suc (suc k))) lt = absurd (omega (arith, lt))

made_table : IsMadeTable image pool made_kept
unfolding named_by type_in class_of_source
made_table = record { count = refl; each = each } where
  each : (index : ℕ) → index < 3 → slice_get made_kept index ≡ Some (made_class image (named_at pool index))
  each zero lt = refl
  each (suc zero) lt = refl
  each (suc (suc zero)) lt = refl
  each (suc (suc (suc k))) lt = absurd (omega (arith, lt))

module _ (p : ClassParts) (values_are : p.values.items ≡ Some (begins.Int (pos 5)) ∷ None ∷ []) (t u : Vec Operand) (n m : Vec (Option ℕ))
    (t_is : t.items ≡ operands_kept) (n_is : n.items ≡ named_kept) (m_is : m.items ≡ made_kept) (u_is : u.items ≡ constants_kept) where
  abbrev own : ClassParts
  own = record p { pool = pool }

  abbrev tables : ClassTables
  tables = record { operands = t; named = n; made = m; constants = u }

  constant_table : u.items ≡ map (field_operand_of image pool) p.values.items
  constant_table = u_is ∙ sym (ap (map (field_operand_of image pool)) values_are)

  of_class : AreOfClass image own tables
  of_class = record {
    operands_are = subst (λ (kept : List Operand). IsOperandTable image pool kept) (sym t_is) operand_table;
    named_are = subst (λ (kept : List (Option ℕ)). IsNamedTable image pool kept) (sym n_is) named_table;
    made_are = subst (λ (kept : List (Option ℕ)). IsMadeTable image pool kept) (sym m_is) made_table;
    constants_are = constant_table;
  }

  -- nothing is left out of the operands, and what a class names, what is made by it and the constants of its fields aren't each other
  operand_left_out : (v : Vec Operand) → v.items ≡ operands.Unresolved ∷ operands.Unresolved ∷ [] → AreOfClass image own (record tables { operands = v }) → ⊥
  operand_left_out v v_is are = let e : 2 ≡ 3 = sym (ap length v_is) ∙ are.operands_are.count in omega (arith, e)

  constants_as_operands : AreOfClass image own (record tables { operands = u }) → ⊥
  constants_as_operands are = let e : 2 ≡ 3 = sym (ap length u_is) ∙ are.operands_are.count in omega (arith, e)

  made_as_named : AreOfClass image own (record tables { named = m }) → ⊥
  unfolding named_by type_in class_of_source
  made_as_named are =
      let reported : Some (Some 1) ≡ Some (Some 0) = ap (λ (kept : List (Option ℕ)). slice_get kept 2) (sym m_is) ∙ are.named_are.each 2 (omega arith) in
      let e : 1 ≡ 0 = same_Some 1 0 (same_Some (Some 1) (Some 0) reported) in
      omega (arith, e)

  named_as_made : AreOfClass image own (record tables { made = n }) → ⊥
  unfolding named_by type_in class_of_source
  named_as_made are =
      let reported : Some (Some 0) ≡ Some (Some 1) = ap (λ (kept : List (Option ℕ)). slice_get kept 2) (sym n_is) ∙ are.made_are.each 2 (omega arith) in
      let e : 0 ≡ 1 = same_Some 0 1 (same_Some (Some 0) (Some 1) reported) in
      omega (arith, e)

  operands_as_constants : AreOfClass image own (record tables { constants = t }) → ⊥
  operands_as_constants are =
      let e : 3 ≡ 2 = sym (ap length t_is) ∙ ap length are.constants_are ∙ ap length (ap (map (field_operand_of image pool)) values_are) in
      omega (arith, e)

  -- nor are they those of another pool
  of_no_pool : AreOfClass image (record p { pool = [] }) tables → ⊥
  of_no_pool are = let e : 3 ≡ 1 = sym (ap length t_is) ∙ are.operands_are.count in omega (arith, e)

  -- ---- those of classes

  module _ (ts us : Vec (Vec Operand)) (ns ms : Vec (Vec (Option ℕ))) where
    abbrev all : Tables
    all = record { operands = ts; named = ns; made = ms; constants = us }

    of_classes : ts.items ≡ t ∷ [] → ns.items ≡ n ∷ [] → ms.items ≡ m ∷ [] → us.items ≡ u ∷ [] → AreOfClasses image (own ∷ []) all
    of_classes ts_are ns_are ms_are us_are = record {
      operands_are = subst (λ (kept : List (Vec Operand)). AreOperandTables image (own ∷ []) kept) (sym ts_are) (of_class.operands_are, tt);
      named_are = subst (λ (kept : List (Vec (Option ℕ))). AreNamedTables image (own ∷ []) kept) (sym ns_are) (of_class.named_are, tt);
      made_are = subst (λ (kept : List (Vec (Option ℕ))). AreMadeTables image (own ∷ []) kept) (sym ms_are) (of_class.made_are, tt);
      constants_are = subst (λ (kept : List (Vec Operand)). AreConstantTables image (own ∷ []) kept) (sym us_are) (of_class.constants_are, tt);
    }

    -- of each class there is one of each
    no_operands : ts.items ≡ [] → AreOfClasses image (own ∷ []) all → ⊥
    no_operands is are = subst (λ (kept : List (Vec Operand)). AreOperandTables image (own ∷ []) kept) is are.operands_are

    none_named : ns.items ≡ [] → AreOfClasses image (own ∷ []) all → ⊥
    none_named is are = subst (λ (kept : List (Vec (Option ℕ))). AreNamedTables image (own ∷ []) kept) is are.named_are

    none_made : ms.items ≡ [] → AreOfClasses image (own ∷ []) all → ⊥
    none_made is are = subst (λ (kept : List (Vec (Option ℕ))). AreMadeTables image (own ∷ []) kept) is are.made_are

    no_constants : us.items ≡ [] → AreOfClasses image (own ∷ []) all → ⊥
    no_constants is are = subst (λ (kept : List (Vec Operand)). AreConstantTables image (own ∷ []) kept) is are.constants_are

    of_no_class : ts.items ≡ t ∷ [] → AreOfClasses image [] all → ⊥
    of_no_class is are = subst (λ (kept : List (Vec Operand)). AreOperandTables image [] kept) is are.operands_are

    all_made_as_named : ns.items ≡ m ∷ [] → AreOfClasses image (own ∷ []) all → ⊥
    all_made_as_named is are =
        let reported : AreNamedTables image (own ∷ []) (m ∷ []) = subst (λ (kept : List (Vec (Option ℕ))). AreNamedTables image (own ∷ []) kept) is are.named_are in
        made_as_named (record { operands_are = of_class.operands_are; named_are = reported.0; made_are = of_class.made_are; constants_are = of_class.constants_are })

    all_named_as_made : ms.items ≡ n ∷ [] → AreOfClasses image (own ∷ []) all → ⊥
    all_named_as_made is are =
        let reported : AreMadeTables image (own ∷ []) (n ∷ []) = subst (λ (kept : List (Vec (Option ℕ))). AreMadeTables image (own ∷ []) kept) is are.made_are in
        named_as_made (record { operands_are = of_class.operands_are; named_are = of_class.named_are; made_are = reported.0; constants_are = of_class.constants_are })
