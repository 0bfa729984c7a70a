-- Descriptors of arrays as the ends of those under the most dimensions, and types as their shapes.
use Rattle.std.proofs.Common.{◌≡◌, ℕ, zero, suc, ◌+◌, ◌-◌, ◌^◌, ◌<◌, ◌≤◌, ◌&&◌, Bool, true, false, List, [], ◌∷◌, ◌++◌, map, take, drop, replicate, length, get_or, refl, sym, ap, ◌∙◌, arith}
use Rattle.std.specs.Prelude.{Some, None, slice_get, nat_eq, nat_le, IsTrue, if◌then◌else◌}
use Rattle.std.specs.Option.{option_map}
use Rattle.std.specs.List.{list_all}
use Rattle.std.proofs.lemmas.Bool.{and_parts}
use Rattle.std.proofs.lemmas.Bool.Decides.{nat_tests}
use Rattle.std.proofs.lemmas.List.{length-map, length-append, length-replicate, drop-append-le, drop-replicate, get_or-append-add, get_or-append_right, map-append, append_assoc, take_more}
use Rattle.std.proofs.Math.ListN.{get_or-map}
use Rattle.std.proofs.lemmas.Option.{none-some, same_Some, slice_get-get_or, get_or_from_slice_get}
use Rattle.dj_names.specs.declared.descriptor.Base.{Base}
use Rattle.dj_names.specs.declared.descriptor.Base.TheVariants as bases
use Rattle.dj_names.specs.declared.descriptor.Of.{Of}
use Rattle.dj_names.specs.declared.descriptor.Of.TheVariants as ofs
use Rattle.dj_names.specs.declared.descriptor.Ty.{Ty}
use Rattle.dj_names.specs.trusted.Types.{Name, class_type}
use Rattle.dj_names.specs.trusted.Descriptors.{of_text, type_text}
use Rattle.dj_model.specs.trusted.Program.{Program, Class}
use Rattle.dj_class_table.specs.Tables.{name_of, name_at}
use Rattle.dj_resolution.specs.Linked.{class_name}
use Rattle.dj_numbering.specs.declared.arrays.Arrays.{Arrays}
use Rattle.dj_numbering.specs.declared.shapes.ElementType.{ElementType}
use Rattle.dj_numbering.specs.declared.shapes.ElementType.TheVariants as elements
use Rattle.dj_numbering.specs.declared.shapes.Shape.{Shape}
use Rattle.dj_numbering.specs.Typed.{Typed, AreArrays, texts_of, types_of, is_known_of, is_array_of, text_of_type}
use Rattle.dj_numbering.specs.Shapes.{IsElement, AreElements, shape_type}
use Rattle.dj_numbering.specs.Kept.{AreKept, component_in, component_text, whole_text, all_bases, whole_of_base, whole_of_class, wholes_of, base_place, text_in, texts_kept, types_kept}
use Rattle.dj_numbering.proofs.Starts.{some_there}

-- ---- the end of a descriptor

end_of : (most dims : ℕ) (of : List ℕ) → dims ≤ most → drop (most - dims) (replicate most 91 ++ of) ≡ replicate dims 91 ++ of
end_of most dims of few =
    let within : most - dims ≤ length (replicate most 91) = omega (arith, length-replicate {A = ℕ} most 91) in
    let left : most - (most - dims) ≡ dims = omega (arith, few) in
    drop-append-le (most - dims) (replicate most 91) of within
    ∙ ap (λ (brackets : List ℕ). brackets ++ of) (drop-replicate (most - dims) most 91 ∙ ap (λ (n : ℕ). replicate n 91) left)

end_of_whole : (of : Of) (dims : ℕ) → dims ≤ 255 → drop (255 - dims) (whole_text of) ≡ type_text (record { dims = dims; of = of })
unfolding whole_text
end_of_whole of dims few = end_of 255 dims (of_text of) few

-- ---- where it stands

read_base : (program : Program) (base : Base) → get_or (wholes_of program) (base_place base) [] ≡ whole_text (ofs.Base base)
read_base program bases.Boolean = refl
read_base program bases.Byte = refl
read_base program bases.Char = refl
read_base program bases.Short = refl
read_base program bases.Int = refl
read_base program bases.Long = refl
read_base program bases.Float = refl
read_base program bases.Double = refl

read_named : (program : Program) (k : ℕ) (name : Name) → name_at program k ≡ Some name → get_or (map whole_of_class program) k [] ≡ whole_text (ofs.Class name)
read_named [] k name e = absurd (none-some name e)
read_named (c ∷ program) zero name e = ap (λ (n : Name). whole_text (ofs.Class n)) (same_Some (name_of c) name e)
read_named (c ∷ program) (suc k) name e = read_named program k name e

read_class : (program : Program) (k : ℕ) → k < length program → get_or (wholes_of program) (8 + k) [] ≡ whole_text (ofs.Class (class_name program k))
read_class program k lt = get_or-append-add (map whole_of_base all_bases) (map whole_of_class program) k [] ∙ read_named program k (class_name program k) (named_there program k lt) where
  named_there : (program : Program) (k : ℕ) → k < length program → name_at program k ≡ Some (class_name program k)
  named_there [] k lt = absurd (omega arith)
  named_there (c ∷ program) zero lt = refl
  named_there (c ∷ program) (suc k) lt = named_there program k (omega arith)

-- ---- descriptors of types

few_dims : (dims : ℕ) → nat_le dims 255 ≡ true → dims ≤ 255
few_dims dims e = grind (arith, nat_tests)

pub text_of : (program : Program) (dims : ℕ) (of : ElementType) → dims ≤ 255 → IsElement program of → text_in (wholes_of program) (record { dims = dims; of = of }) ≡ type_text (shape_type program (record { dims = dims; of = of }))
text_of program dims (elements.Base base) few there = ap (λ (text : Name). drop (255 - dims) text) (read_base program base) ∙ end_of_whole (ofs.Base base) dims few
text_of program dims (elements.Class k) few there = ap (λ (text : Name). drop (255 - dims) text) (read_class program k there) ∙ end_of_whole (ofs.Class (class_name program k)) dims few

abbrev parts_of_array : (program : Program) (ty : Ty) → IsTrue (is_array_of program ty) → (ty.dims ≤ 255) × IsTrue (is_known_of program ty.of)
parts_of_array program ty e =
    let known = and_parts (nat_le 1 ty.dims) (nat_le ty.dims 255 && is_known_of program ty.of) e in
    let few = and_parts (nat_le ty.dims 255) (is_known_of program ty.of) known.1 in
    (few_dims ty.dims few.0, few.1)

pub texts_reported : (program : Program) (shapes : List Shape) → IsTrue (list_all (is_array_of program) (map (shape_type program) shapes)) → AreElements program shapes
    → map (text_in (wholes_of program)) shapes ≡ map type_text (map (shape_type program) shapes)
texts_reported program [] e there = refl
texts_reported program (s ∷ shapes) e there =
    let all = and_parts (is_array_of program (shape_type program s)) (list_all (is_array_of program) (map (shape_type program) shapes)) e in
    let own = parts_of_array program (shape_type program s) all.0 in
    ap (λ (text : Name). text ∷ map (text_in (wholes_of program)) shapes) (text_of program s.dims s.of own.0 there.0)
    ∙ ap (λ (texts : List Name). type_text (shape_type program s) ∷ texts) (texts_reported program shapes all.1 there.1)

-- ---- what is kept

pub count_kept : (program : Program) (arrays : Arrays) → length (types_kept program arrays) ≡ length arrays.shapes.items
count_kept program arrays = length-map arrays.shapes.items (shape_type program)

-- the descriptors under the most dimensions of one class more
pub whole_more : (program : Program) (class : ℕ) (name : Name) (before old new : List Name) → class < length program → Some name ≡ name_at program class
    → old ≡ before ++ map whole_of_class (take class program) → new ≡ old ++ whole_text (ofs.Class name) ∷ [] → new ≡ before ++ map whole_of_class (take (class + 1) program)
whole_more program class name before old new lt named is now =
    let there : (c : Class) × (slice_get program class ≡ Some c) = some_there program class lt in
    let c : Class = there.0 in
    let own : name ≡ name_of c = same_Some name (name_of c) (named ∙ ap (option_map name_of) there.1) in
    let step : take (class + 1) program ≡ take class program ++ c ∷ [] =
    take_more program class c lt ∙ ap (λ (x : Class). take class program ++ x ∷ []) (get_or_from_slice_get program class c c there.1) in
    let more : map whole_of_class (take (class + 1) program) ≡ map whole_of_class (take class program) ++ whole_text (ofs.Class name) ∷ [] =
    ap (map whole_of_class) step ∙ map-append whole_of_class (take class program) (c ∷ [])
    ∙ ap (λ (n : Name). map whole_of_class (take class program) ++ whole_text (ofs.Class n) ∷ []) (sym own) in
    now ∙ ap (λ (xs : List Name). xs ++ whole_text (ofs.Class name) ∷ []) is
    ∙ append_assoc before (map whole_of_class (take class program)) (whole_text (ofs.Class name) ∷ [])
    ∙ ap (λ (xs : List Name). before ++ xs) (sym more)

pub spelled_by : (program : Program) (wholes : List Name) (shapes : List Shape) → wholes ≡ wholes_of program → AreArrays program (map (shape_type program) shapes) → AreElements program shapes
    → map (text_in wholes) shapes ≡ map type_text (map (shape_type program) shapes)
spelled_by program wholes shapes w arrays elements = ap (λ (ws : List Name). map (text_in ws) shapes) w ∙ texts_reported program shapes arrays.each elements

pub some_dims : (program : Program) (shapes : List Shape) → IsTrue (list_all (is_array_of program) (map (shape_type program) shapes)) → (k : ℕ) (d : Shape) → k < length shapes → 1 ≤ (get_or shapes k d).dims
some_dims program [] all k d lt = absurd (omega (arith, lt))
some_dims program (s ∷ shapes) all zero d lt = one_dim s.dims ((and_parts (nat_le 1 s.dims) _ ((and_parts (is_array_of program (shape_type program s)) (list_all (is_array_of program) (map (shape_type program) shapes)) all).0)).0) where
  one_dim : (dims : ℕ) → nat_le 1 dims ≡ true → 1 ≤ dims
  one_dim dims e = grind (arith, nat_tests)
some_dims program (s ∷ shapes) all (suc k) d lt = some_dims program shapes ((and_parts (is_array_of program (shape_type program s)) (list_all (is_array_of program) (map (shape_type program) shapes)) all).1) k d (omega (arith, lt))

-- ---- what the elements are

deep_text : (program : Program) (of : ElementType) (dims : ℕ) → 1 < dims → Some (type_text (shape_type program (record { dims = dims - 1; of = of }))) ≡ component_text (shape_type program (record { dims = dims; of = of }))
deep_text program (elements.Base base) dims deep = sym (ap (λ (b : Bool). if b then Some (text_of_type (record { dims = dims - 1; of = ofs.Base base })) else None) (two dims deep)) where
  two : (d : ℕ) → 1 < d → nat_le 2 d ≡ true
  two d lt = grind (arith, nat_tests)
deep_text program (elements.Class k) dims deep =
    sym (ap (λ (b : Bool). if b then Some (text_of_type (record { dims = dims - 1; of = ofs.Class (class_name program k) })) else None) (one dims deep)
    ∙ ap (λ (b : Bool). Some (if b then class_name program k else type_text (record { dims = dims - 1; of = ofs.Class (class_name program k) }))) (more dims deep)) where
      one : (d : ℕ) → 1 < d → nat_le 1 d ≡ true
      one d lt = grind (arith, nat_tests)

      more : (d : ℕ) → 1 < d → nat_eq (d - 1) 0 ≡ false
      more d lt = grind (arith, nat_tests)

pub component_deep : (program : Program) (wholes : List Name) (dims : ℕ) (of : ElementType) → wholes ≡ wholes_of program → 1 < dims → dims ≤ 255 → IsElement program of
    → Some (text_in wholes (record { dims = dims - 1; of = of })) ≡ component_text (shape_type program (record { dims = dims; of = of }))
component_deep program wholes dims of w deep few there =
    ap (λ (ws : List Name). Some (text_in ws (record { dims = dims - 1; of = of }))) w ∙ ap Some (text_of program (dims - 1) of (omega (arith, few)) there) ∙ deep_text program of dims deep

pub kept_all : (program : Program) (arrays : Arrays) → arrays.wholes.items ≡ wholes_of program → AreArrays program (types_kept program arrays) → AreElements program arrays.shapes.items → length program + length arrays.shapes.items < 2 ^ 32
    → arrays.components.items ≡ map (component_in program (texts_kept arrays)) (types_kept program arrays) → AreKept program (types_kept program arrays) arrays
kept_all program arrays spelled are elements few components =
    let texts = spelled_by program arrays.wholes.items arrays.shapes.items spelled are elements in
    record {
      are_arrays = are;
      few = omega (arith, few, count_kept program arrays);
      texts = texts;
      shapes = refl;
      elements = elements;
      components = components ∙ ap (λ (ts : List Name). map (component_in program ts) (types_kept program arrays)) texts;
    }

pub text_of_array : (typed : Typed) (wholes : List Name) (shapes : List Shape) → map (text_in wholes) shapes ≡ map type_text typed.arrays
    → (class count k : ℕ) → count ≡ length typed.program → class < length (types_of typed) → count ≤ class → k ≡ class - count
    → (shape : Shape) → shape ≡ get_or shapes k shape → slice_get (texts_of typed) class ≡ Some (text_in wholes shape)
text_of_array typed wholes shapes are class count k is lt le at shape read =
    let text : Name = text_in wholes shape in
    let names = length-map typed.program name_of in
    let classes = length-map typed.program (λ (c : Class). class_type (name_of c)) in
    let all = length-append (map (λ (c : Class). class_type (name_of c)) typed.program) typed.arrays in
    let texts = length-append (map name_of typed.program) (map type_text typed.arrays) in
    let spelled = length-map typed.arrays type_text in
    let within : class < length (texts_of typed) = omega (arith, lt, names, classes, all, texts, spelled) in
    slice_get-get_or (texts_of typed) class text within
    ∙ ap Some (get_or-append_right (map name_of typed.program) (map type_text typed.arrays) count class text (names ∙ sym is) le
    ∙ ap (λ (n : ℕ). get_or (map type_text typed.arrays) n text) (sym at)
    ∙ ap (λ (xs : List Name). get_or xs k text) (sym are)
    ∙ get_or-map (text_in wholes) shapes k shape ∙ ap (text_in wholes) (sym read))
