-- The tables of a class, those of more and more classes, and what the image of them numbers.
use Rattle.std.proofs.Common.{◌≡◌, ◌↔◌, ℕ, suc, ◌+◌, ◌<◌, ◌≤◌, Bool, true, false, List, [], ◌∷◌, ◌++◌, map, take, length, get_or, Option, Some, None, option_and_then, unwrap_or, refl, sym, ap, subst, ◌∙◌, inl, inr, arith, Contains, IsTrue}
use Rattle.std.specs.Prelude.{Result, Ok, Err, IfOk, is_some, if◌then◌else◌}
use Rattle.std.specs.Option.{option_map}
use Rattle.std.specs.Global.{Vec}
use Rattle.std.specs.List.{AllByRecursion}
use Rattle.std.proofs.lemmas.List.{take_all, take_more, map-append}
use Rattle.std.proofs.lemmas.List.Elements.{Contains-append_right}
use Rattle.dj_names.specs.declared.descriptor.Base.TheVariants as bases
use Rattle.dj_names.specs.declared.descriptor.Ty.{Ty}
use Rattle.dj_names.specs.trusted.Types.{Name, same_name, base_array, component_type}
use Rattle.dj_names.specs.trusted.Descriptors.{type_text}
use Rattle.dj_pool.specs.trusted.Pool.{Constant, IsPool, text_at}
use Rattle.dj_declarations.specs.trusted.Files.{name_in}
use Rattle.dj_program.specs.trusted.Naming.{units_in}
use Rattle.dj_model.specs.trusted.Types.{Prefix, object_name}
use Rattle.dj_model.specs.trusted.Program.{Program}
use Rattle.dj_class_table.specs.Tables.{class_number, name_of}
use Rattle.dj_class_table.proofs.Orders.{same_from_names}
use Rattle.dj_numbering.specs.Typed.{Typed, AreArrays, arrays_rise, texts_of, place_of_text, chars_at}
use Rattle.dj_image.specs.declared.operand.Operand.{Operand}
use Rattle.dj_image.specs.declared.parts.ClassParts.{ClassParts}
use Rattle.dj_image.specs.declared.parts.FieldValue.{FieldValue}
use Rattle.dj_image.specs.declared.parts.FieldValue.TheVariants as values
use Rattle.dj_image.specs.declared.tables.ClassTables.{ClassTables}
use Rattle.dj_image.specs.declared.tables.Tables.{Tables}
use Rattle.dj_image.specs.Gathered.{value_reported, AreOfClass, AreOfClasses}
use Rattle.dj_image.specs.Homes.{operand_at}
use Rattle.dj_image.specs.Imaged.{Imaged, typed_of, IsNumbered}
use Rattle.dj_image.specs.Indexed.{Holds, text_class, text_array, text_place, kept_class, kept_array}
use Rattle.dj_image.specs.Operands.{units_number}
use Rattle.dj_image.specs.Parts.{FitClasses}
use Rattle.dj_image.specs.ArrayRows.{IsRow, known_types, wholes_of}
use Rattle.dj_image.specs.Tables.{imaged_of, AreClosed, IsOperandTable, IsNamedTable, IsMadeTable, field_operand_of, AreOperandTables, AreNamedTables, AreMadeTables, AreConstantTables}
use Rattle.dj_image.specs.Texts as numbered
use Rattle.dj_image.specs.Texts.{HasPool, RiseStrictly}
use Rattle.dj_image.specs.Uses.{SameMembers, used_types}
use Rattle.dj_image.proofs.Counts.{once}
use Rattle.dj_image.proofs.Members.{member_first, member_later, member_none, member_cases}
use Rattle.dj_image.proofs.MemberOperands.{operand_kept}
use Rattle.dj_image.proofs.Named.{kept_as, named_kept, made_kept}
use Rattle.dj_image.proofs.Programs.{member_map, rows_are_numbered}
use Rattle.dj_image.proofs.Standing.{IsLike, like_from_fit}
use Rattle.dj_image.proofs.Values.{texts_are}
use Rattle.dj_image.proofs.Wholes.{pools_of}

-- ---- a class

value_is : (imaged : Imaged) (pool : List Constant) (value : Option FieldValue) → value_reported imaged.texts pool value ≡ field_operand_of imaged pool value
value_is imaged pool None = refl
value_is imaged pool (Some (values.Int z)) = refl
value_is imaged pool (Some (values.Long z)) = refl
value_is imaged pool (Some (values.Text index)) = refl
value_is imaged pool (Some values.Unfit) = refl

values_are : (imaged : Imaged) (pool : List Constant) (vs : List (Option FieldValue)) → map (value_reported imaged.texts pool) vs ≡ map (field_operand_of imaged pool) vs
values_are imaged pool [] = refl
values_are imaged pool (v ∷ vs) = let one = value_is imaged pool v in let more = values_are imaged pool vs in λ i. one i ∷ more i

-- the number of the text at an index is kept there
pub text_placed : (texts : List (List ℕ)) (pool : List Constant) (places : List (Option ℕ)) (index : ℕ) (text : List ℕ) → Holds (text_place texts pool) (length pool + 1) places → text_at pool index ≡ Some text
    → get_or places index None ≡ units_number texts (units_in (name_in pool index))
text_placed texts pool places index text held there = kept_as pool (λ (t : List ℕ). units_number texts (units_in t)) places held index ∙ by (text_at pool index) there where
  by : (o : Option (List ℕ)) → o ≡ Some text → option_and_then (λ (t : List ℕ). units_number texts (units_in t)) o ≡ units_number texts (units_in (unwrap_or o []))
  by None e = absurd cc
  by (Some t) e = refl

-- of more and more fields
pub reported_step : (texts : List (List ℕ)) (pool : List Constant) (vs : List (Option FieldValue)) (i : ℕ) (d : Option FieldValue) (kept more : List Operand) (one : Operand) → i < length vs
    → kept ≡ map (value_reported texts pool) (take i vs) → one ≡ value_reported texts pool (get_or vs i d) → more ≡ kept ++ one ∷ [] → more ≡ map (value_reported texts pool) (take (i + 1) vs)
reported_step texts pool vs i d kept more one within before is push =
    push
    ∙ ap (λ (ks : List Operand). ks ++ one ∷ []) before
    ∙ ap (λ (k : Operand). map (value_reported texts pool) (take i vs) ++ k ∷ []) is
    ∙ sym (ap (map (value_reported texts pool)) (take_more vs i d within) ∙ map-append (value_reported texts pool) (take i vs) (get_or vs i d ∷ []))

pub reported_all : (texts : List (List ℕ)) (pool : List Constant) (vs : List (Option FieldValue)) (i : ℕ) (kept : List Operand) → length vs ≤ i
    → kept ≡ map (value_reported texts pool) (take i vs) → kept ≡ map (value_reported texts pool) vs
reported_all texts pool vs i kept past are = are ∙ ap (map (value_reported texts pool)) (take_all i vs past)

pub class_is : (types : Typed) (parts : List ClassParts) (texts : List (List ℕ)) (class : ClassParts) (object : Option ℕ) (classes arrays places : List (Option ℕ)) (tables : ClassTables)
    → FitClasses types.program parts → AreArrays types.program types.arrays → object ≡ class_number types.program (object_name types.prefix) → IsPool class.pool
    → Holds (text_class types class.pool) (length class.pool + 1) classes → Holds (text_array types class.pool) (length class.pool + 1) arrays → Holds (text_place texts class.pool) (length class.pool + 1) places
    → Holds (operand_at types class.pool places classes object) (length class.pool + 1) tables.operands.items
    → Holds (kept_class class.pool classes) (length class.pool + 1) tables.named.items
    → Holds (kept_array class.pool arrays) (length class.pool + 1) tables.made.items
    → tables.constants.items ≡ map (value_reported texts class.pool) class.values.items
    → AreOfClass (imaged_of types parts texts) class tables
class_is types parts texts class object classes arrays places tables fit are reported valid by_class by_array by_place o n m c =
    let imaged : Imaged = imaged_of types parts texts in
    let like : IsLike (typed_of imaged) types = like_from_fit types parts texts fit in
    record {
      operands_are = record { count = o.all; each = λ i lt. o.each i lt ∙ ap Some (operand_kept imaged types like class.pool valid are object reported classes places by_class by_place i) };
      named_are = record { count = n.all; each = λ i lt. n.each i lt ∙ ap Some (named_kept imaged types like class.pool valid classes by_class i) };
      made_are = record { count = m.all; each = λ i lt. m.each i lt ∙ ap Some (made_kept imaged types like class.pool valid arrays by_array i) };
      constants_are = c ∙ values_are imaged class.pool class.values.items;
    }

-- ---- more and more classes

module _ (imaged : Imaged) (p : ClassParts) where
  operands_more : (ps : List ClassParts) (ts : List (Vec Operand)) (t : Vec Operand) → AreOperandTables imaged ps ts → IsOperandTable imaged p.pool t.items → AreOperandTables imaged (ps ++ p ∷ []) (ts ++ t ∷ [])
  operands_more [] [] t all one = (one, tt)
  operands_more [] (u ∷ ts) t all one = absurd all
  operands_more (q ∷ ps) [] t all one = absurd all
  operands_more (q ∷ ps) (u ∷ ts) t all one = (all.0, operands_more ps ts t all.1 one)

  named_more : (ps : List ClassParts) (ts : List (Vec (Option ℕ))) (t : Vec (Option ℕ)) → AreNamedTables imaged ps ts → IsNamedTable imaged p.pool t.items → AreNamedTables imaged (ps ++ p ∷ []) (ts ++ t ∷ [])
  named_more [] [] t all one = (one, tt)
  named_more [] (u ∷ ts) t all one = absurd all
  named_more (q ∷ ps) [] t all one = absurd all
  named_more (q ∷ ps) (u ∷ ts) t all one = (all.0, named_more ps ts t all.1 one)

  made_more : (ps : List ClassParts) (ts : List (Vec (Option ℕ))) (t : Vec (Option ℕ)) → AreMadeTables imaged ps ts → IsMadeTable imaged p.pool t.items → AreMadeTables imaged (ps ++ p ∷ []) (ts ++ t ∷ [])
  made_more [] [] t all one = (one, tt)
  made_more [] (u ∷ ts) t all one = absurd all
  made_more (q ∷ ps) [] t all one = absurd all
  made_more (q ∷ ps) (u ∷ ts) t all one = (all.0, made_more ps ts t all.1 one)

  constants_more : (ps : List ClassParts) (ts : List (Vec Operand)) (t : Vec Operand) → AreConstantTables imaged ps ts → t.items ≡ map (field_operand_of imaged p.pool) p.values.items → AreConstantTables imaged (ps ++ p ∷ []) (ts ++ t ∷ [])
  constants_more [] [] t all one = (one, tt)
  constants_more [] (u ∷ ts) t all one = absurd all
  constants_more (q ∷ ps) [] t all one = absurd all
  constants_more (q ∷ ps) (u ∷ ts) t all one = (all.0, constants_more ps ts t all.1 one)

pub tables_none : (imaged : Imaged) (tables : Tables) → tables.operands.items ≡ [] → tables.named.items ≡ [] → tables.made.items ≡ [] → tables.constants.items ≡ [] → AreOfClasses imaged [] tables
tables_none imaged tables o n m c = record {
  operands_are = subst (AreOperandTables imaged []) (sym o) tt;
  named_are = subst (AreNamedTables imaged []) (sym n) tt;
  made_are = subst (AreMadeTables imaged []) (sym m) tt;
  constants_are = subst (AreConstantTables imaged []) (sym c) tt;
}

tables_after : (imaged : Imaged) (ps : List ClassParts) (one : ClassParts) (tables more : Tables) (class : ClassTables) → AreOfClasses imaged ps tables → AreOfClass imaged one class
    → more.operands.items ≡ tables.operands.items ++ class.operands ∷ [] → more.named.items ≡ tables.named.items ++ class.named ∷ []
    → more.made.items ≡ tables.made.items ++ class.made ∷ [] → more.constants.items ≡ tables.constants.items ++ class.constants ∷ []
    → AreOfClasses imaged (ps ++ one ∷ []) more
tables_after imaged ps one tables more class all is o n m c = record {
  operands_are = subst (AreOperandTables imaged (ps ++ one ∷ [])) (sym o) (operands_more imaged one ps tables.operands.items class.operands all.operands_are is.operands_are);
  named_are = subst (AreNamedTables imaged (ps ++ one ∷ [])) (sym n) (named_more imaged one ps tables.named.items class.named all.named_are is.named_are);
  made_are = subst (AreMadeTables imaged (ps ++ one ∷ [])) (sym m) (made_more imaged one ps tables.made.items class.made all.made_are is.made_are);
  constants_are = subst (AreConstantTables imaged (ps ++ one ∷ [])) (sym c) (constants_more imaged one ps tables.constants.items class.constants all.constants_are is.constants_are);
}

pub tables_more : (imaged : Imaged) (parts : List ClassParts) (i : ℕ) (one : ClassParts) (tables more : Tables) (class : ClassTables) → i < length parts → one ≡ get_or parts i one
    → AreOfClasses imaged (take i parts) tables → AreOfClass imaged one class
    → more.operands.items ≡ tables.operands.items ++ class.operands ∷ [] → more.named.items ≡ tables.named.items ++ class.named ∷ []
    → more.made.items ≡ tables.made.items ++ class.made ∷ [] → more.constants.items ≡ tables.constants.items ++ class.constants ∷ []
    → AreOfClasses imaged (take (i + 1) parts) more
tables_more imaged parts i one tables more class within at all is o n m c =
    subst (λ (ps : List ClassParts). AreOfClasses imaged ps more)
    (ap (λ (p : ClassParts). take i parts ++ p ∷ []) at ∙ sym (take_more parts i one within))
    (tables_after imaged (take i parts) one tables more class all is o n m c)

pub tables_all : (imaged : Imaged) (parts : List ClassParts) (i : ℕ) (tables : Tables) → length parts ≤ i → AreOfClasses imaged (take i parts) tables → AreOfClasses imaged parts tables
tables_all imaged parts i tables past all = subst (λ (ps : List ClassParts). AreOfClasses imaged ps tables) (take_all i parts past) all

-- ---- the image

pub have_pools : (program : Program) (parts : List ClassParts) → FitClasses program parts → AllByRecursion HasPool parts
have_pools program parts fit = pools_of program parts fit

pub image_numbered : (program : Program) (prefix : Prefix) (parts : List ClassParts) (arrays : List Ty) (texts : List (List ℕ)) → FitClasses program parts
    → ((ty : Ty) → Contains arrays ty ↔ IsRow (wholes_of program parts) ty) → IsTrue (arrays_rise arrays) → RiseStrictly texts → SameMembers texts (numbered.texts_of parts)
    → IsNumbered (imaged_of (record { program = program; prefix = prefix; arrays = arrays }) parts texts)
image_numbered program prefix parts arrays texts fit rows order rise same = record {
  arrays = λ ty. let a = rows ty in let b = rows_are_numbered program parts fit ty in (λ x. b.0 (a.0 x), λ x. a.1 (b.1 x));
  rise = order;
  texts = λ text. let a = same text in let b = texts_are program parts fit text in (λ x. b.0 (a.0 x), λ x. a.1 (b.1 x));
  once = once texts rise;
}

-- ---- arrays of chars

place_found : (texts : List Name) (text : Name) → Contains texts text → IsTrue (is_some (place_of_text texts text))
place_found [] text m = absurd (member_none text m)
place_found (x ∷ texts) text m = elim (member_cases x texts text m) [
  | inl same ↦ ap (λ (b : Bool). is_some (if b then Some 0 else option_map suc (place_of_text texts text))) (same_from_names x text same)
  | inr later ↦ by (same_name x text) (place_of_text texts text) (place_found texts text later)
] where
  by : (b : Bool) (place : Option ℕ) → IsTrue (is_some place) → IsTrue (is_some (if b then Some 0 else option_map suc place))
  by true place there = refl
  by false (Some k) there = refl
  by false None there = there

-- arrays of chars have a number, whatever the classes use
pub chars_numbered : (program : Program) (prefix : Prefix) (parts : List ClassParts) (arrays : List Ty) → ((ty : Ty) → Contains arrays ty ↔ IsRow (wholes_of program parts) ty)
    → IsTrue (is_some (chars_at (record { program = program; prefix = prefix; arrays = arrays })))
chars_numbered program prefix parts arrays rows =
    let chars : Ty = base_array bases.Char in
    let used : List Ty = known_types program (used_types parts) in
    let row : IsRow (wholes_of program parts) chars = (
      chars,
      member_later (base_array bases.Byte) (chars ∷ used) chars (member_first chars used),
      record { array = omega arith; few = omega arith; within = omega arith; same = refl },
    ) in
    place_found (texts_of (record { program = program; prefix = prefix; arrays = arrays })) (type_text chars)
    (Contains-append_right (map name_of program) (map type_text arrays) (type_text chars) (member_map type_text arrays chars ((rows chars).1 row)))

-- what the elements of an array of arrays are has a row too
pub rows_closed : (wholes arrays : List Ty) → ((ty : Ty) → Contains arrays ty ↔ IsRow wholes ty) → AreClosed arrays
rows_closed wholes arrays rows ty there deep =
    let row : IsRow wholes ty = (rows ty).0 there in
    let few = row.2.few in
    let within = row.2.within in
    (rows (component_type ty)).1 (
      row.0,
      row.1,
      record { array = omega (arith, deep); few = omega (arith, few); within = omega (arith, within); same = row.2.same },
    )

-- the tables of classes, which were lent
pub of_classes : (types : Typed) (lent parts : List ClassParts) (lent_texts texts : List (List ℕ)) (tables : Tables) → lent ≡ parts → lent_texts ≡ texts
    → AreOfClasses (imaged_of types lent lent_texts) lent tables → AreOfClasses (imaged_of types parts texts) parts tables
of_classes types lent parts lent_texts texts tables p t all =
    subst (λ (ts : List (List ℕ)). AreOfClasses (imaged_of types parts ts) parts tables) t
    (subst (λ (ps : List ClassParts). AreOfClasses (imaged_of types ps lent_texts) ps tables) p all)

pub ok_is : {T E : Type 0} (r : Result T E) (P : T → Type 0) (x : T) → IfOk r (λ (y : T). y ≡ x) → P x → IfOk r P
ok_is (Ok y) P x e p = subst P (sym e) p
ok_is (Err e) P x is p = tt
