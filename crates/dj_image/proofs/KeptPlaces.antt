-- What an image keeps at the place of a method or a field is what is answered for its number.
use Rattle.std.proofs.Common.{◌≡◌, ℕ, zero, suc, ◌+◌, ◌<◌, List, [], ◌∷◌, map, length, Option, Some, None, nat_eq, refl, sym, ap, ◌∙◌, subst, arith, inl, inr, IsTrue, length-append}
use Rattle.std.specs.Prelude.{⊤, slice_get, option_and_then}
use Rattle.std.specs.Option.{option_map}
use Rattle.std.specs.Global.{Vec}
use Rattle.std.proofs.lemmas.List.{length-map}
use Rattle.std.proofs.lemmas.Option.{slice_get-map, slice_get_within}
use Rattle.dj_names.specs.declared.native.NativeId.{NativeId}
use Rattle.dj_ops.specs.declared.instruction.Instr.{Instr}
use Rattle.dj_labels.specs.declared.labelled.Protected.{Protected}
use Rattle.dj_pool.specs.trusted.Pool.{Constant}
use Rattle.dj_model.specs.trusted.Program.{Program, Method, Body, Abstract, Native, Runs, has_code}
use Rattle.dj_early_rules.specs.trusted.Instructions.{index_of}
use Rattle.dj_declarations.specs.Members.{native_in}
use Rattle.dj_class_table.specs.declared.place.Place.{Place}
use Rattle.dj_program.specs.trusted.Naming.{named_at, named_if}
use Rattle.dj_program.specs.trusted.Codes.{code_in, catches_in}
use Rattle.dj_program.specs.Views.{parts_of}
use Rattle.dj_program.specs.declared.code.MethodCode.{MethodCode}
use Rattle.dj_numbering.specs.Typed.{Typed}
use Rattle.dj_numbering.specs.Members.{methods_in, all_methods, all_fields, IsMethodPlace, IsFieldPlace, native_of, native_at}
use Rattle.dj_image.specs.declared.operand.Operand.{Operand}
use Rattle.dj_image.specs.declared.image.Body as bodies
use Rattle.dj_image.specs.declared.image.Body.TheVariants as variants
use Rattle.dj_image.specs.declared.parts.ClassParts.{ClassParts}
use Rattle.dj_image.specs.Sources.{with_code}
use Rattle.dj_image.specs.Parts.{constant_of_value, sources_of, FitClasses}
use Rattle.dj_image.specs.Imaged.{Imaged, program_of}
use Rattle.dj_image.specs.Operands.{operand_of, named_class}
use Rattle.dj_image.specs.Codes.{PooledCode, pooled, all_codes, code_at, HasInstr, HasRange, IsOperandAt, IsNamedAt, IsCaughtAt, IsConstantAt, SaysBody, IsBodyAt}
use Rattle.dj_image.specs.Tables.{imaged_of, IsOperandTable, IsNamedTable, IsMadeTable, AreOperandTables, AreNamedTables, AreMadeTables, AreConstantTables, AreTables, field_operand_of}
use Rattle.dj_image.specs.Taken.{code_kept, instr_kept, range_kept, entry_kept, class_at_index, named_kept, caught_kept, kept_operand, operand_with}
use Rattle.dj_image.proofs.Bare.{either}
use Rattle.dj_image.proofs.Standing.{like_from_fit}
use Rattle.dj_image.proofs.Places.{FitsCode, IsMethodAt, codes_count, method_at_place, field_at_place}
use Rattle.dj_image.proofs.TakenOperands.{named_entry, kept_is}

-- ---- lists

got : {A : Type 0} (xs : List A) (i : ℕ) → i < length xs → (x : A) × (slice_get xs i ≡ Some x)
got [] i within = absurd (omega arith)
got (x ∷ xs) zero within = (x, refl)
got (x ∷ xs) (suc i) within = got xs i (omega arith)

-- ---- numbers of methods

code_count : (program : Program) (parts : List ClassParts) → FitClasses program parts → length (all_codes (sources_of program parts)) ≡ length (all_methods program)
unfolding all_codes all_methods sources_of
code_count [] [] fit = refl
code_count [] (p ∷ parts) fit = absurd fit
code_count (c ∷ classes) [] fit = absurd fit
code_count (c ∷ classes) (p ∷ parts) fit =
    let rest : length (all_codes (sources_of classes parts)) ≡ length (all_methods classes) = code_count classes parts fit.1 in
    let left : length (map (pooled p.pool) (map (option_map parts_of) p.codes.items)) ≡ length c.methods =
    length-map (map (option_map parts_of) p.codes.items) (pooled p.pool)
    ∙ (length-map p.codes.items (option_map parts_of) ∙ codes_count c.methods p.codes.items fit.0.methods) in
    let right : length (methods_in c) ≡ length c.methods = length-map c.methods (λ (m : Method). record { class = c.name; method = m }) in
    length-append (map (pooled p.pool) (map (option_map parts_of) p.codes.items)) (all_codes (sources_of classes parts))
    ∙ (ap (λ (n : ℕ). n + length (all_codes (sources_of classes parts))) (left ∙ sym right)
    ∙ (ap (λ (n : ℕ). length (methods_in c) + n) rest
    ∙ sym (length-append (methods_in c) (all_methods classes))))

some_within : (codes : List (Option PooledCode)) (number : ℕ) (x : Option (Option PooledCode)) (code : PooledCode)
    → slice_get codes number ≡ x → option_and_then (λ (c : Option PooledCode). c) x ≡ Some code → number < length codes
some_within codes number None code e is = absurd cc
some_within codes number (Some x) code e is = slice_get_within codes number x e

-- ---- the code at a place

pub record IsCodeAt (parts : List ClassParts) (place : Place) (code : PooledCode) : Type 0 where
  pub part : ClassParts
  pub own : slice_get parts place.class ≡ Some part
  pub kept_code : MethodCode
  pub kept : code_kept parts place ≡ Some kept_code
  pub is : code ≡ record { pool = part.pool; parts = parts_of kept_code }

kept_is_row : (program : Program) (parts : List ClassParts) (place : Place) (row : IsMethodAt program parts place.class place.member) → code_kept parts place ≡ row.code
kept_is_row program parts place row =
    ap (option_and_then (λ (p : ClassParts). option_and_then (λ (code : Option MethodCode). code) (slice_get p.codes.items place.member))) row.own
    ∙ ap (option_and_then (λ (code : Option MethodCode). code)) row.kept

pooled_is : (parts : List ClassParts) (place : Place) (part : ClassParts) → slice_get parts place.class ≡ Some part → (code : PooledCode) (kept : Option MethodCode)
    → code_kept parts place ≡ kept → pooled part.pool (option_map parts_of kept) ≡ Some code → IsCodeAt parts place code
pooled_is parts place part own code None kept e = absurd cc
pooled_is parts place part own code (Some kept_code) kept e = record { part = part; own = own; kept_code = kept_code; kept = kept; is = cc }

module _ (types : Typed) (parts : List ClassParts) (texts : List (List ℕ)) (fit : FitClasses types.program parts) where
  pub method_within : (number : ℕ) (code : PooledCode) → code_at (imaged_of types parts texts) number ≡ Some code → number < length (all_methods types.program)
  method_within number code is =
      let within : number < length (all_codes (sources_of types.program parts)) =
      some_within (all_codes (sources_of types.program parts)) number _ code refl is in
      omega (arith, code_count types.program parts fit)

  pub row_there : (number : ℕ) (place : Place) → IsMethodPlace types number place → IsMethodAt types.program parts place.class place.member
  row_there number place at = method_at_place types.program parts place.class place.member fit at.within

  pub coded_there : (number : ℕ) (place : Place) (at : IsMethodPlace types number place)
      → code_at (imaged_of types parts texts) number ≡ pooled (row_there number place at).part.pool (option_map parts_of (row_there number place at).code)
  coded_there number place at =
      let row = row_there number place at in
      ap (λ (n : ℕ). code_at (imaged_of types parts texts) n) at.is
      ∙ ap (option_and_then (λ (code : Option PooledCode). code)) row.coded

  pub code_there : (number : ℕ) (place : Place) → IsMethodPlace types number place → (code : PooledCode)
      → code_at (imaged_of types parts texts) number ≡ Some code → IsCodeAt parts place code
  code_there number place at code is =
      let row = row_there number place at in
      pooled_is parts place row.part row.own code row.code (kept_is_row types.program parts place row) (sym (coded_there number place at) ∙ is)

-- ---- instructions and rows at places

pub instr_reported : (parts : List ClassParts) (place : Place) (code : PooledCode) → IsCodeAt parts place code → (number : ℕ) → number < length code.parts.labelled.code
    → (instr : Instr) × (instr_kept parts place number ≡ Some instr) × (slice_get code.parts.labelled.code number ≡ Some instr)
instr_reported parts place code at number within =
    let found = got code.parts.labelled.code number within in
    let same : code.parts.labelled.code ≡ at.kept_code.code.code = ap (λ (c : PooledCode). c.parts.labelled.code) at.is in (
      found.0,
      ap (option_and_then (λ (c : MethodCode). slice_get c.code.code number)) at.kept ∙ (ap (λ (code : List Instr). slice_get code number) (sym same) ∙ found.1),
      found.1,
    )

pub range_reported : (parts : List ClassParts) (place : Place) (code : PooledCode) → IsCodeAt parts place code → (range : ℕ) → range < length code.parts.labelled.ranges
    → (row : Protected) × (range_kept parts place range ≡ Some row) × (slice_get code.parts.labelled.ranges range ≡ Some row)
range_reported parts place code at range within =
    let found = got code.parts.labelled.ranges range within in
    let same : code.parts.labelled.ranges ≡ at.kept_code.code.ranges = ap (λ (c : PooledCode). c.parts.labelled.ranges) at.is in (
      found.0,
      ap (option_and_then (λ (c : MethodCode). slice_get c.code.ranges range)) at.kept ∙ (ap (λ (ranges : List Protected). slice_get ranges range) (sym same) ∙ found.1),
      found.1,
    )

-- ---- tables of a class

operand_table : (imaged : Imaged) (parts : List ClassParts) (tables : List (Vec Operand)) → AreOperandTables imaged parts tables → (class : ℕ) (p : ClassParts)
    → slice_get parts class ≡ Some p → (table : Vec Operand) × (slice_get tables class ≡ Some table) × IsOperandTable imaged p.pool table.items
operand_table imaged [] [] are class p own = absurd cc
operand_table imaged [] (table ∷ tables) are class p own = absurd are
operand_table imaged (q ∷ parts) [] are class p own = absurd are
operand_table imaged (q ∷ parts) (table ∷ tables) are zero p own =
    let e : q ≡ p = cc in (table, refl, subst (λ (x : ClassParts). IsOperandTable imaged x.pool table.items) e are.0)
operand_table imaged (q ∷ parts) (table ∷ tables) are (suc class) p own = operand_table imaged parts tables are.1 class p own

named_table : (imaged : Imaged) (parts : List ClassParts) (tables : List (Vec (Option ℕ))) → AreNamedTables imaged parts tables → (class : ℕ) (p : ClassParts)
    → slice_get parts class ≡ Some p → (table : Vec (Option ℕ)) × (slice_get tables class ≡ Some table) × IsNamedTable imaged p.pool table.items
named_table imaged [] [] are class p own = absurd cc
named_table imaged [] (table ∷ tables) are class p own = absurd are
named_table imaged (q ∷ parts) [] are class p own = absurd are
named_table imaged (q ∷ parts) (table ∷ tables) are zero p own =
    let e : q ≡ p = cc in (table, refl, subst (λ (x : ClassParts). IsNamedTable imaged x.pool table.items) e are.0)
named_table imaged (q ∷ parts) (table ∷ tables) are (suc class) p own = named_table imaged parts tables are.1 class p own

made_table : (imaged : Imaged) (parts : List ClassParts) (tables : List (Vec (Option ℕ))) → AreMadeTables imaged parts tables → (class : ℕ) (p : ClassParts)
    → slice_get parts class ≡ Some p → (table : Vec (Option ℕ)) × (slice_get tables class ≡ Some table) × IsMadeTable imaged p.pool table.items
made_table imaged [] [] are class p own = absurd cc
made_table imaged [] (table ∷ tables) are class p own = absurd are
made_table imaged (q ∷ parts) [] are class p own = absurd are
made_table imaged (q ∷ parts) (table ∷ tables) are zero p own =
    let e : q ≡ p = cc in (table, refl, subst (λ (x : ClassParts). IsMadeTable imaged x.pool table.items) e are.0)
made_table imaged (q ∷ parts) (table ∷ tables) are (suc class) p own = made_table imaged parts tables are.1 class p own

constant_table : (imaged : Imaged) (parts : List ClassParts) (tables : List (Vec Operand)) → AreConstantTables imaged parts tables → (class : ℕ) (p : ClassParts)
    → slice_get parts class ≡ Some p → (table : Vec Operand) × (slice_get tables class ≡ Some table) × (table.items ≡ map (field_operand_of imaged p.pool) p.values.items)
constant_table imaged [] [] are class p own = absurd cc
constant_table imaged [] (table ∷ tables) are class p own = absurd are
constant_table imaged (q ∷ parts) [] are class p own = absurd are
constant_table imaged (q ∷ parts) (table ∷ tables) are zero p own =
    let e : q ≡ p = cc in (table, refl, subst (λ (x : ClassParts). table.items ≡ map (field_operand_of imaged x.pool) x.values.items) e are.0)
constant_table imaged (q ∷ parts) (table ∷ tables) are (suc class) p own = constant_table imaged parts tables are.1 class p own

-- ---- what tables say

module _ (types : Typed) (parts : List ClassParts) (texts : List (List ℕ)) (operands : List (Vec Operand)) (named made : List (Vec (Option ℕ)))
    (constants : List (Vec Operand)) (tables : AreTables types parts texts operands named made constants) where
  operand_with_is : (class : ℕ) (p : ClassParts) → slice_get parts class ≡ Some p → (instr : Instr)
      → operand_with types parts operands made class instr ≡ Some (operand_of (imaged_of types parts texts) instr (named_if p.pool (index_of instr)))
  operand_with_is class p own instr =
      let imaged = imaged_of types parts texts in
      let kept = operand_table imaged parts operands tables.operands_are class p own in
      let arrays = made_table imaged parts made tables.made_are class p own in
      ap (option_and_then (λ (x : ClassParts). option_and_then (λ (table : Vec Operand).
      option_map (λ (a : Vec (Option ℕ)). kept_operand types x.pool table.items a.items instr) (slice_get made class)) (slice_get operands class))) own
      ∙ (ap (option_and_then (λ (table : Vec Operand).
      option_map (λ (a : Vec (Option ℕ)). kept_operand types p.pool table.items a.items instr) (slice_get made class))) kept.1
      ∙ (ap (option_map (λ (a : Vec (Option ℕ)). kept_operand types p.pool kept.0.items a.items instr)) arrays.1
      ∙ ap Some (kept_is imaged types (like_from_fit types parts texts tables.fit) p.pool kept.0.items arrays.0.items kept.2 arrays.2 instr)))

  class_at_is : (class : ℕ) (p : ClassParts) → slice_get parts class ≡ Some p → (index : ℕ)
      → class_at_index named class index ≡ named_class (imaged_of types parts texts) (named_at p.pool index)
  class_at_is class p own index =
      let imaged = imaged_of types parts texts in
      let table = named_table imaged parts named tables.named_are class p own in
      ap (λ (t : Option (Vec (Option ℕ))). option_and_then (λ (number : Option ℕ). number) (option_and_then (λ (x : Vec (Option ℕ)). slice_get x.items index) t)) table.1
      ∙ named_entry imaged p.pool table.0.items table.2 index

  named_kept_is : (class : ℕ) (p : ClassParts) → slice_get parts class ≡ Some p → (index : Option ℕ)
      → named_kept named class index ≡ named_class (imaged_of types parts texts) (named_if p.pool index)
  named_kept_is class p own None = refl
  named_kept_is class p own (Some index) = class_at_is class p own index

  caught_kept_is : (class : ℕ) (p : ClassParts) → slice_get parts class ≡ Some p → (index : ℕ)
      → caught_kept named class index ≡ option_and_then (named_class (imaged_of types parts texts)) (catches_in p.pool index)
  caught_kept_is class p own index = elim (either (nat_eq index 0)) [
    | inl e ↦ rw e refl
    | inr e ↦ rw e (class_at_is class p own index)
  ]

  pub operand_reported : (number at_instr : ℕ) (place : Place) → IsMethodPlace types number place → HasInstr (imaged_of types parts texts) number at_instr
      → (operand : Operand) × (option_and_then (operand_with types parts operands made place.class) (instr_kept parts place at_instr) ≡ Some operand)
      × IsOperandAt (imaged_of types parts texts) number at_instr operand
  operand_reported number at_instr place at has =
      let imaged = imaged_of types parts texts in
      let there = code_there types parts texts tables.fit number place at has.code has.own in
      let found = instr_reported parts place has.code there at_instr has.within in
      let pools : has.code.pool ≡ there.part.pool = ap (λ (c : PooledCode). c.pool) there.is in (
        operand_of imaged found.0 (named_if has.code.pool (index_of found.0)),
        ap (option_and_then (operand_with types parts operands made place.class)) found.1
            ∙ (operand_with_is place.class there.part there.own found.0
            ∙ ap (λ (pool : List Constant). Some (operand_of imaged found.0 (named_if pool (index_of found.0)))) (sym pools)),
        record { code = has.code; own = has.own; instr = found.0; stands = found.2; is = refl },
      )

  pub named_reported : (number at_instr : ℕ) (place : Place) → IsMethodPlace types number place → HasInstr (imaged_of types parts texts) number at_instr
      → (instr : Instr) × (instr_kept parts place at_instr ≡ Some instr)
      × IsNamedAt (imaged_of types parts texts) number at_instr (named_kept named place.class (index_of instr))
  named_reported number at_instr place at has =
      let imaged = imaged_of types parts texts in
      let there = code_there types parts texts tables.fit number place at has.code has.own in
      let found = instr_reported parts place has.code there at_instr has.within in
      let pools : has.code.pool ≡ there.part.pool = ap (λ (c : PooledCode). c.pool) there.is in (
        found.0,
        found.1,
        record {
          code = has.code;
          own = has.own;
          instr = found.0;
          stands = found.2;
          is = named_kept_is place.class there.part there.own (index_of found.0)
              ∙ ap (λ (pool : List Constant). named_class imaged (named_if pool (index_of found.0))) (sym pools);
        },
      )

  pub caught_reported : (number range : ℕ) (place : Place) → IsMethodPlace types number place → HasRange (imaged_of types parts texts) number range
      → (row : Protected) × (range_kept parts place range ≡ Some row)
      × IsCaughtAt (imaged_of types parts texts) number range (caught_kept named place.class row.catch_type)
  caught_reported number range place at has =
      let imaged = imaged_of types parts texts in
      let there = code_there types parts texts tables.fit number place at has.code has.own in
      let found = range_reported parts place has.code there range has.within in
      let pools : has.code.pool ≡ there.part.pool = ap (λ (c : PooledCode). c.pool) there.is in (
        found.0,
        found.1,
        record {
          code = has.code;
          own = has.own;
          row = found.0;
          stands = found.2;
          is = caught_kept_is place.class there.part there.own found.0.catch_type
              ∙ ap (λ (pool : List Constant). option_and_then (named_class imaged) (catches_in pool found.0.catch_type)) (sym pools);
        },
      )

  pub constant_reported : (number : ℕ) (place : Place) → IsFieldPlace types number place
      → (operand : Operand) × (entry_kept constants place.class place.member ≡ Some operand) × IsConstantAt (imaged_of types parts texts) number operand
  constant_reported number place at =
      let imaged = imaged_of types parts texts in
      let row = field_at_place types.program parts place.class place.member tables.fit at.within in
      let table = constant_table imaged parts constants tables.constants_are place.class row.part row.own in (
        field_operand_of imaged row.part.pool row.value,
        ap (option_and_then (λ (t : Vec Operand). slice_get t.items place.member)) table.1
            ∙ (ap (λ (kept : List Operand). slice_get kept place.member) table.2
            ∙ (slice_get-map (field_operand_of imaged row.part.pool) row.part.values.items place.member ∙ ap (option_map (field_operand_of imaged row.part.pool)) row.kept)),
        record {
          found = record { class = row.name; field = record row.field { constant = option_map (constant_of_value row.part.pool) row.value } };
          there = ap (λ (n : ℕ). slice_get (all_fields (program_of imaged)) n) at.is ∙ row.whole;
          is = refl;
        },
      )

-- ---- bodies

-- the body that is lent is what is found: a native method, code, or neither
abbrev pub IsLentBody : Option NativeId → Option MethodCode → bodies.Body → Type 0
IsLentBody (Some id) code (variants.Native reported) = reported ≡ id
IsLentBody None (Some code) (variants.Code reported) = reported.now ≡ code
IsLentBody None None variants.Abstract = ⊤
IsLentBody native code reported = ⊥

module _ (imaged : Imaged) (number : ℕ) (pool : List Constant) where
  without_code : (body : Body) → (IsTrue (has_code body) → ⊥) → (reported : bodies.Body) → IsLentBody (native_in body) None reported → SaysBody imaged number body reported
  without_code Abstract fits variants.Abstract lent = tt
  without_code Abstract fits (variants.Native reported) lent = absurd lent
  without_code Abstract fits (variants.Code reported) lent = absurd lent
  without_code (Native id) fits variants.Abstract lent = absurd lent
  without_code (Native id) fits (variants.Native reported) lent = lent
  without_code (Native id) fits (variants.Code reported) lent = absurd lent
  without_code (Runs code) fits reported lent = absurd (fits refl)

  lent_code : (code : MethodCode) → code_at imaged number ≡ Some (record { pool = pool; parts = parts_of code }) → (reported : bodies.Body) → IsLentBody None (Some code) reported
      → SaysBody imaged number (Runs (code_in pool (parts_of code))) reported
  lent_code code coded variants.Abstract lent = absurd lent
  lent_code code coded (variants.Native reported) lent = absurd lent
  lent_code code coded (variants.Code reported) lent = (
    pool,
    coded ∙ ap (λ (c : MethodCode). Some (record { pool = pool; parts = parts_of c })) (sym lent),
    ap (λ (c : MethodCode). code_in pool (parts_of c)) (sym lent),
  )

  with_its_code : (body : Body) → IsTrue (has_code body) → (code : MethodCode) → code_at imaged number ≡ Some (record { pool = pool; parts = parts_of code })
      → (reported : bodies.Body) → IsLentBody (native_in body) (Some code) reported → SaysBody imaged number (Runs (code_in pool (parts_of code))) reported
  with_its_code Abstract fits code coded reported lent = absurd cc
  with_its_code (Native id) fits code coded reported lent = absurd cc
  with_its_code (Runs c) fits code coded reported lent = lent_code code coded reported lent

  says_body : (m : Method) (code : Option MethodCode) → FitsCode m code → code_at imaged number ≡ pooled pool (option_map parts_of code)
      → (reported : bodies.Body) → IsLentBody (native_in m.body) code reported → SaysBody imaged number (with_code pool m (option_map parts_of code)).body reported
  says_body m None fits coded reported lent = without_code m.body fits reported lent
  says_body m (Some code) fits coded reported lent = with_its_code m.body fits code coded reported lent

module _ (types : Typed) (parts : List ClassParts) (texts : List (List ℕ)) (fit : FitClasses types.program parts) where
  pub body_reported : (number : ℕ) (place : Place) → IsMethodPlace types number place → (reported : bodies.Body)
      → IsLentBody (native_at types.program number) (code_kept parts place) reported → IsBodyAt (imaged_of types parts texts) number reported
  body_reported number place at reported lent =
      let imaged = imaged_of types parts texts in
      let row = row_there types parts texts fit number place at in
      let native : native_at types.program number ≡ native_in row.method.body =
      ap (native_at types.program) at.is ∙ ap (option_and_then native_of) row.bare in
      let kept : code_kept parts place ≡ row.code = kept_is_row types.program parts place row in
      let fits : IsLentBody (native_in row.method.body) row.code reported =
      subst (λ (code : Option MethodCode). IsLentBody (native_in row.method.body) code reported) kept
      (subst (λ (id : Option NativeId). IsLentBody id (code_kept parts place) reported) native lent) in
      record {
        found = record { class = row.name; method = with_code row.part.pool row.method (option_map parts_of row.code) };
        there = ap (λ (n : ℕ). slice_get (all_methods (program_of imaged)) n) at.is ∙ row.whole;
        says = says_body imaged number row.part.pool row.method row.code row.fits (coded_there types parts texts fit number place at) reported fits;
      }

-- ---- what is known of an image

module _ {now : Imaged} {types : Typed} {parts : List ClassParts} {texts : List (List ℕ)} {operands : List (Vec Operand)} {named made : List (Vec (Option ℕ))}
    {constants : List (Vec Operand)} (is : imaged_of types parts texts ≡ now) (tables : AreTables types parts texts operands named made constants) where
  pub instr_within : (number at_instr : ℕ) → HasInstr now number at_instr → number < length (all_methods types.program)
  instr_within number at_instr has =
      method_within types parts texts tables.fit number has.code (ap (λ (n : Imaged). code_at n number) is ∙ has.own)

  pub range_within : (number range : ℕ) → HasRange now number range → number < length (all_methods types.program)
  range_within number range has =
      method_within types parts texts tables.fit number has.code (ap (λ (n : Imaged). code_at n number) is ∙ has.own)

  pub operand_now : (number at_instr : ℕ) (place : Place) → IsMethodPlace types number place → HasInstr now number at_instr
      → (ps : List ClassParts) (os : List (Vec Operand)) (ms : List (Vec (Option ℕ))) → ps ≡ parts → os ≡ operands → ms ≡ made
      → (result : Option Operand) → result ≡ option_and_then (operand_with types ps os ms place.class) (instr_kept ps place at_instr)
      → (operand : Operand) × (result ≡ Some operand) × IsOperandAt now number at_instr operand
  operand_now number at_instr place at has ps os ms p o m result e =
      let reported = operand_reported types parts texts operands named made constants tables number at_instr place at
      (subst (λ (n : Imaged). HasInstr n number at_instr) (sym is) has) in (
        reported.0,
        e
            ∙ (ap (λ (x : List ClassParts). option_and_then (operand_with types x os ms place.class) (instr_kept x place at_instr)) p
            ∙ (ap (λ (x : List (Vec Operand)). option_and_then (operand_with types parts x ms place.class) (instr_kept parts place at_instr)) o
            ∙ (ap (λ (x : List (Vec (Option ℕ))). option_and_then (operand_with types parts operands x place.class) (instr_kept parts place at_instr)) m
            ∙ reported.1))),
        subst (λ (n : Imaged). IsOperandAt n number at_instr reported.0) is reported.2,
      )

  pub named_now : (number at_instr : ℕ) (place : Place) → IsMethodPlace types number place → HasInstr now number at_instr
      → (ps : List ClassParts) → ps ≡ parts → (result : Option Instr) → result ≡ instr_kept ps place at_instr
      → (instr : Instr) × (result ≡ Some instr) × IsNamedAt now number at_instr (named_kept named place.class (index_of instr))
  named_now number at_instr place at has ps p result e =
      let reported = named_reported types parts texts operands named made constants tables number at_instr place at
      (subst (λ (n : Imaged). HasInstr n number at_instr) (sym is) has) in (
        reported.0,
        e ∙ (ap (λ (x : List ClassParts). instr_kept x place at_instr) p ∙ reported.1),
        subst (λ (n : Imaged). IsNamedAt n number at_instr (named_kept named place.class (index_of reported.0))) is reported.2,
      )

  pub caught_now : (number range : ℕ) (place : Place) → IsMethodPlace types number place → HasRange now number range
      → (ps : List ClassParts) → ps ≡ parts → (result : Option Protected) → result ≡ range_kept ps place range
      → (row : Protected) × (result ≡ Some row) × IsCaughtAt now number range (caught_kept named place.class row.catch_type)
  caught_now number range place at has ps p result e =
      let reported = caught_reported types parts texts operands named made constants tables number range place at
      (subst (λ (n : Imaged). HasRange n number range) (sym is) has) in (
        reported.0,
        e ∙ (ap (λ (x : List ClassParts). range_kept x place range) p ∙ reported.1),
        subst (λ (n : Imaged). IsCaughtAt n number range (caught_kept named place.class reported.0.catch_type)) is reported.2,
      )

  pub constant_now : (number : ℕ) (place : Place) → IsFieldPlace types number place
      → (cs : List (Vec Operand)) → cs ≡ constants → (result : Option Operand) → result ≡ entry_kept cs place.class place.member
      → (operand : Operand) × (result ≡ Some operand) × IsConstantAt now number operand
  constant_now number place at cs c result e =
      let reported = constant_reported types parts texts operands named made constants tables number place at in (
        reported.0,
        e ∙ (ap (λ (x : List (Vec Operand)). entry_kept x place.class place.member) c ∙ reported.1),
        subst (λ (n : Imaged). IsConstantAt n number reported.0) is reported.2,
      )

  pub body_now : (number : ℕ) (place : Place) → IsMethodPlace types number place → (reported : bodies.Body)
      → IsLentBody (native_at types.program number) (code_kept parts place) reported → IsBodyAt now number reported
  body_now number place at reported lent =
      subst (λ (n : Imaged). IsBodyAt n number reported) is (body_reported types parts texts tables.fit number place at reported lent)
