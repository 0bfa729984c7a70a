-- Rows of native methods.
use Rattle.std.proofs.Common.{◌≡◌, ◌<◌, ℕ, zero, suc, ◌+◌, List, [], ◌∷◌, ◌++◌, map, length, take, get_or, Option, Some, None, refl, sym, ap, subst, ◌∙◌, arith, inl, inr, ◌⊎◌}
use Rattle.std.specs.Prelude.{slice_get, IfSome}
use Rattle.std.specs.List.{flat_map}
use Rattle.std.specs.Global.{Vec}
use Rattle.std.proofs.Math.Seq.{take-suc}
use Rattle.std.proofs.lemmas.List.{length-append, length-map, map-append}
use Rattle.dj_names.specs.declared.descriptor.Ty.{Ty}
use Rattle.dj_names.specs.declared.native.NativeId.{NativeId}
use Rattle.dj_names.specs.declared.descriptor.Base.{Base}
use Rattle.dj_names.specs.declared.descriptor.Base.TheVariants as bases
use Rattle.dj_names.specs.declared.descriptor.Of.TheVariants as ofs
use Rattle.dj_names.specs.trusted.Types.{Name, base_array, parameters_of}
use Rattle.dj_model.specs.trusted.Program.{Program, Method, Native}
use Rattle.dj_model.specs.trusted.Linking.{FoundMethod}
use Rattle.dj_class_table.specs.Tables.{methods_at, class_number}
use Rattle.dj_class_table.proofs.Numbered.{name_at-number}
use Rattle.dj_resolution.specs.Linked.{Linked}
use Rattle.dj_numbering.specs.Typed.{Typed, types_of}
use Rattle.dj_numbering.specs.Members.{all_methods, methods_in}
use Rattle.dj_image.specs.Imaged.{Imaged, program_of, typed_of}
use Rattle.dj_image.proofs.Bare.{bare_program}
use Rattle.dj_image.proofs.BareTyped.{methods_at_bare, number_bare}
use Rattle.dj_invocation.specs.Natives.{SaysClass, AreClasses, row_at}
use Rattle.dj_invocation.proofs.Choices.{class_type_there}

-- ---- how many methods

many_more : (program : Program) (k : ℕ) → k < length program
    → length (flat_map methods_in (take (suc k) program)) ≡ length (flat_map methods_in (take k program)) + length (methods_at program k)
many_more [] k less = absurd (omega (arith, less))
many_more (c ∷ program) zero less =
    let none : List FoundMethod = [] in
    let long = length-append (methods_in c) none in
    let own : length (methods_in c) ≡ length c.methods = length-map c.methods (λ (m : Method). record { class = c.name; method = m }) in
    omega (arith, long, own)
many_more (c ∷ program) (suc k) less =
    let more = many_more program k (omega (arith, less)) in
    let long = length-append (methods_in c) (flat_map methods_in (take (suc k) program)) in
    let before = length-append (methods_in c) (flat_map methods_in (take k program)) in
    omega (arith, more, long, before)

pub count_more : (program table : Program) (k count more : ℕ) → table ≡ bare_program program → k < length program → count ≡ length (all_methods (take k program))
    → more ≡ length (methods_at table k) → count + more ≡ length (all_methods (take (k + 1) program))
unfolding all_methods
count_more program table k count more same less c m =
    let here = many_more program k less in
    let bare : length (methods_at table k) ≡ length (methods_at program k) = ap (λ (t : Program). length (methods_at t k)) same ∙ methods_at_bare program k in
    let next : suc k ≡ k + 1 = omega arith in
    let sum : count + more ≡ length (flat_map methods_in (take (suc k) program)) = omega (arith, here, bare, c, m) in
    sum ∙ ap (λ (n : ℕ). length (flat_map methods_in (take n program))) next

pub count_sum : (program table : Program) (k count more sum : ℕ) → table ≡ bare_program program → k < length program → count ≡ length (all_methods (take k program))
    → more ≡ length (methods_at table k) → sum ≡ count + more → sum ≡ length (all_methods (take (k + 1) program))
count_sum program table k count more sum same less c m s = s ∙ count_more program table k count more same less c m

-- ---- rows

pub classes_more : (typed : Typed) (types : List Ty) (classes : List (Option ℕ)) (ty : Ty) (class : Option ℕ) → AreClasses typed types classes → SaysClass typed ty class
    → AreClasses typed (types ++ ty ∷ []) (classes ++ class ∷ [])
classes_more typed [] [] ty class are reported = (reported, tt)
classes_more typed [] (c ∷ classes) ty class are reported = absurd are
classes_more typed (t ∷ types) [] ty class are reported = absurd are
classes_more typed (t ∷ types) (c ∷ classes) ty class are reported = (are.0, classes_more typed types classes ty class are.1 reported)

pub classes_so_far : (typed : Typed) (types : List Ty) (at : ℕ) (classes more : List (Option ℕ)) (d : Ty) (class : Option ℕ) → at < length types → more ≡ classes ++ class ∷ []
    → AreClasses typed (take at types) classes → SaysClass typed (get_or types at d) class → AreClasses typed (take (at + 1) types) more
classes_so_far typed types at classes more d class less e are reported =
    let next : suc at ≡ at + 1 = omega arith in
    subst (AreClasses typed (take (at + 1) types)) (sym e)
    (subst (λ (n : ℕ). AreClasses typed (take n types) (classes ++ class ∷ [])) next
    (subst (λ (ts : List Ty). AreClasses typed ts (classes ++ class ∷ [])) (sym (take-suc types at d less)) (classes_more typed (take at types) classes (get_or types at d) class are reported)))

abbrev row_items : List (Vec (Option ℕ)) → List (List (Option ℕ))
row_items rows = map (λ (row : Vec (Option ℕ)). row.items) rows

row_before : (rows : List (List (Option ℕ))) (row : List (Option ℕ)) (n : ℕ) → n < length rows → row_at (rows ++ row ∷ []) n ≡ row_at rows n
row_before [] row n less = absurd (omega (arith, less))
row_before (r ∷ rows) row zero less = refl
row_before (r ∷ rows) row (suc n) less = row_before rows row n (omega (arith, less))

row_last : (rows : List (List (Option ℕ))) (row : List (Option ℕ)) (n : ℕ) → n ≡ length rows → row_at (rows ++ row ∷ []) n ≡ row
row_last [] row zero e = refl
row_last [] row (suc n) e = absurd (omega (arith, e))
row_last (r ∷ rows) row zero e = absurd (omega (arith, e))
row_last (r ∷ rows) row (suc n) e = row_last rows row n (omega (arith, e))

-- those of this many methods
abbrev pub AreRowsTo : Imaged → ℕ → List (Vec (Option ℕ)) → Type 0
AreRowsTo imaged count rows = (number : ℕ) (found : FoundMethod) (id : NativeId) → number < count → slice_get (all_methods (program_of imaged)) number ≡ Some found → found.method.body ≡ Native id
    → AreClasses (typed_of imaged) (parameters_of found.method.desc) (row_at (row_items rows) number)

pub rows_more : (imaged : Imaged) (count : ℕ) (rows more : List (Vec (Option ℕ))) (row : Vec (Option ℕ)) → more ≡ rows ++ row ∷ [] → length rows ≡ count → AreRowsTo imaged count rows
    → ((found : FoundMethod) (id : NativeId) → slice_get (all_methods (program_of imaged)) count ≡ Some found → found.method.body ≡ Native id → AreClasses (typed_of imaged) (parameters_of found.method.desc) row.items)
    → AreRowsTo imaged (count + 1) more
rows_more imaged count rows more row e long are own number found id less there body =
    let all : row_items more ≡ row_items rows ++ row.items ∷ [] = ap row_items e ∙ map-append (λ (row : Vec (Option ℕ)). row.items) rows (row ∷ []) in
    let many : length (row_items rows) ≡ length rows = length-map rows (λ (row : Vec (Option ℕ)). row.items) in
    subst (λ (rs : List (List (Option ℕ))). AreClasses (typed_of imaged) (parameters_of found.method.desc) (row_at rs number)) (sym all) (by (here_or_before number count less)) where
      here_or_before : (n count : ℕ) → n < count + 1 → (n < count) ⊎ (n ≡ count)
      here_or_before zero zero less = inr refl
      here_or_before zero (suc count) less = inl (omega arith)
      here_or_before (suc n) zero less = absurd (omega (arith, less))
      here_or_before (suc n) (suc count) less = elim (here_or_before n count (omega (arith, less))) [ inl below ↦ inl (omega (arith, below)) | inr same ↦ inr (ap suc same) ]

      by : (number < count) ⊎ (number ≡ count) → AreClasses (typed_of imaged) (parameters_of found.method.desc) (row_at (row_items rows ++ row.items ∷ []) number)
      by (inl below) =
          let many : length (row_items rows) ≡ length rows = length-map rows (λ (row : Vec (Option ℕ)). row.items) in
          subst (AreClasses (typed_of imaged) (parameters_of found.method.desc)) (sym (row_before (row_items rows) row.items number (omega (arith, below, many, long)))) (are number found id below there body)
      by (inr same) =
          let many : length (row_items rows) ≡ length rows = length-map rows (λ (row : Vec (Option ℕ)). row.items) in
          subst (AreClasses (typed_of imaged) (parameters_of found.method.desc)) (sym (row_last (row_items rows) row.items number (omega (arith, same, many, long))))
          (own found id (ap (slice_get (all_methods (program_of imaged))) (sym same) ∙ there) body)

-- ---- numbers of classes

pub class_reported : (imaged : Imaged) (linked : Linked) (table : Program) (dims : ℕ) (name : Name) (result : Option ℕ) → dims ≡ 0
    → linked ≡ record { program = bare_program (program_of imaged); prefix = imaged.prefix } → table ≡ linked.program → result ≡ class_number table name
    → IfSome result (λ class. slice_get (types_of (typed_of imaged)) class ≡ Some (record { dims = dims; of = ofs.Class name }))
class_reported imaged linked table dims name result none l t e =
    by result (sym (e ∙ (ap (λ (p : Program). class_number p name) (t ∙ ap (λ (x : Linked). x.program) l) ∙ number_bare (program_of imaged) name))) where
      by : (result : Option ℕ) → class_number (program_of imaged) name ≡ result → IfSome result (λ class. slice_get (types_of (typed_of imaged)) class ≡ Some (record { dims = dims; of = ofs.Class name }))
      by None number = tt
      by (Some k) number =
          class_type_there (typed_of imaged) k name (name_at-number (program_of imaged) name k number) ∙ ap (λ (n : ℕ). Some (record { dims = n; of = ofs.Class name })) (sym none)

pub chars_reported : (types : List Ty) (k dims : ℕ) (base : Base) → dims ≡ 1 → base ≡ bases.Char → slice_get types k ≡ Some (base_array bases.Char)
    → slice_get types k ≡ Some (record { dims = dims; of = ofs.Base base })
chars_reported types k dims base d b e = e ∙ (λ i. Some (record { dims = sym d i; of = ofs.Base (sym b i) }))

pub rows_long : (rows more : List (Vec (Option ℕ))) (row : Vec (Option ℕ)) (n : ℕ) → more ≡ rows ++ row ∷ [] → length rows ≡ n → length more ≡ n + 1
rows_long rows more row n e long =
    let all = ap (length {A = Vec (Option ℕ)}) e in
    let one : List (Vec (Option ℕ)) = row ∷ [] in
    let both = length-append rows one in
    omega (arith, all, both, long)
